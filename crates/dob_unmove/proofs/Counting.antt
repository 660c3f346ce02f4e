-- The numbers gathered from all ways count the moves that lead into a class.
use Rattle.dob_unmove.proofs.Common.{◌++◌, ◌+◌, ◌==◌, ◌∙◌, ◌∷◌, ◌≡◌, ◌≢◌, All, AllPairs, Contains, List, None, Option, Some, [], ap, arith, one_if}
use Rattle.dob_unmove.proofs.Common.{get_or, inl, inr, length, option_to_list, refl, subst, sym, ℕ, cases_eq, eq-eqb, ne_eqb, All-contains}
use Rattle.dob_unmove.proofs.Common.{All-head, All-nil, All-push, All-tail, Contains-append_right, AllPairs-cons}
use Rattle.dob_unmove.proofs.Common.{sum_by_push, count_by, length-turned, cons_cases, mirrored, turned, A, Setup, HasOutcome-is, HasOutcome}
use Rattle.dob_unmove.proofs.Common.{HasStatus, Move, Open, Finds, Gathers, IsOpenRepresentative, CanUndo, choice, earlier, CountEdges, HasEdges, IsNumbering}
use Rattle.dob_unmove.proofs.Common.{undoes, RetroMove, All-append, head_in, append-nil}
use Rattle.std.proofs.lemmas.List.Elements.{Contains-get_or}
use Rattle.dob_pieces.proofs.Lists.{rest_in}
pub use Rattle.dob_classes.proofs.OfFamilies.Counted.{pairs-head, pairs-tail}
use Rattle.dob_unmove.proofs.Undone.{HasOutcome-from_undo, undo_from_HasOutcome, same_undo}
use Rattle.dob_unmove.proofs.Listed.{undoes_sound, undoes_whole}
use Rattle.dob_unmove.proofs.Once.{undoes_once}

-- ---- lists

-- two lists in each of which all pairs are related, and each of the one with each of the other
pub pairs-append : {X : Type 0} (R : X → X → Type 0) (xs ys : List X) → AllPairs R xs → AllPairs R ys
    → ((x y : X) → Contains xs x → Contains ys y → R x y) → AllPairs R (xs ++ ys)
pairs-append R [] ys p q across = q
pairs-append {X} R (x ∷ xs) ys p q across =
    AllPairs-cons R x (xs ++ ys)
    (All-append (R x) xs ys (pairs-head R x xs p) (λ k d lt. across x _ (head_in x xs) (Contains-get_or ys k d lt)))
    (pairs-append R xs ys (pairs-tail R x xs p) q (λ a b in_xs in_ys. across a b (rest_in x a xs in_xs) in_ys))

-- ---- what the walk gathered

pub known_more : (Represents : Setup → ℕ → Type 0) (p : Setup) (found : Option ℕ) (old : List ℕ) → Finds Represents p found
    → All (λ class. (p : Setup) × Represents p class) old → All (λ class. (p : Setup) × Represents p class) (old ++ option_to_list found)
known_more Represents p None old f h = subst (All (λ class. (p : Setup) × Represents p class)) (sym (append-nil old)) h
known_more Represents p (Some class) old f h = All-push (λ class. (p : Setup) × Represents p class) old class h (p, f.0)

module _ (Represents : Setup → ℕ → Type 0) (n : IsNumbering Represents) where
  gathered_known : (t : Setup) (us : List RetroMove) (old new : List ℕ) → Gathers Represents t us old new → All (λ class. (p : Setup) × Represents p class) old
      → All (λ class. (p : Setup) × Represents p class) new
  gathered_known t [] old new e h = subst (All (λ class. (p : Setup) × Represents p class)) e h
  gathered_known t (u ∷ us) old new g h = gathered_known t us _ new g.2 (known_more Represents (earlier t u) g.0 old g.1 h)

  module _ (p : Setup) (class : ℕ) (stands : Represents p class) where
    abbrev pub number_of : List ℕ → ℕ
    number_of xs = count_by (λ x. x == class) xs

    module _ (q : Setup) (twelve : length q.board ≡ 12) where
      -- the moves of the ways that lead back to the class's representative
      record Selects (us : List RetroMove) (ms : List Move) : Type 0 where
        sound : (m : Move) → Contains ms m → (u : RetroMove) × Contains us u × (choice u ≡ m) × IsOpenRepresentative Represents (earlier (turned q) u) class
        whole : (u : RetroMove) → Contains us u → IsOpenRepresentative Represents (earlier (turned q) u) class → Contains ms (choice u)
        once : AllPairs (λ (a b : Move). a ≢ b) ms

      selects_none : Selects [] []
      selects_none = record {
        sound = λ m h. absurd (omega (arith, h.1));
        whole = λ u h represents. absurd (omega (arith, h.1));
        once = λ i j d lt within. absurd (omega (arith, within));
      }

      -- a way that doesn't lead back there
      selects_passed : (u : RetroMove) (us : List RetroMove) (ms : List Move) → ¬ IsOpenRepresentative Represents (earlier (turned q) u) class → Selects us ms → Selects (u ∷ us) ms
      selects_passed u us ms other s = record {
        sound = λ m h. let w = s.sound m h in (w.0, Contains-append_right (u ∷ []) us w.0 w.1, w.2, w.3);
        whole = λ v h represents.
            elim (cons_cases u us v h) [
              | inl e ↦ absurd (other (subst (λ (x : RetroMove). IsOpenRepresentative Represents (earlier (turned q) x) class) (sym e) represents))
              | inr later ↦ s.whole v later represents
            ];
        once = s.once;
      }

      -- a way that does
      selects_taken : (u : RetroMove) (us : List RetroMove) (ms : List Move) → CanUndo (turned q) u → All (CanUndo (turned q)) us → All (λ (v : RetroMove). u ≢ v) us
          → IsOpenRepresentative Represents (earlier (turned q) u) class → Selects us ms → Selects (u ∷ us) (choice u ∷ ms)
      selects_taken u us ms can all_can apart represents s = record {
        sound = λ m h.
            elim (cons_cases (choice u) ms m h) [
              | inl e ↦ (u, (0, omega arith, refl), e, represents)
              | inr later ↦ let w = s.sound m later in (w.0, Contains-append_right (u ∷ []) us w.0 w.1, w.2, w.3)
            ];
        whole = λ v h back.
            elim (cons_cases u us v h) [
              | inl e ↦ subst (λ (x : RetroMove). Contains (choice u ∷ ms) (choice x)) e (0, omega arith, refl)
              | inr later ↦ Contains-append_right (choice u ∷ []) ms (choice v) (s.whole v later back)
            ];
        once = AllPairs-cons (λ (a b : Move). a ≢ b) (choice u) ms
            (λ k d lt e.
            let w = s.sound (get_or ms k d) (Contains-get_or ms k d lt) in
            let same : u ≡ w.0 =
            same_undo (turned q) u w.0 (length-turned q) can (All-contains (CanUndo (turned q)) us w.0 all_can w.1) (e ∙ sym w.2) (n.one_represents _ _ class represents.0 w.3.0) in
            All-contains (λ (v : RetroMove). u ≢ v) us w.0 apart w.1 same)
            s.once;
      }

      -- what was gathered has the class as often as there are such moves
      abbrev Counted : List RetroMove → List ℕ → List ℕ → Type 0
      Counted us old new = (ms : List Move) × Selects us ms × (number_of new ≡ number_of old + length ms)

      select_step : (u : RetroMove) (us : List RetroMove) (old new : List ℕ) (found : Option ℕ) → CanUndo (turned q) u → All (CanUndo (turned q)) us
          → All (λ (v : RetroMove). u ≢ v) us
          → Finds Represents (earlier (turned q) u) found → Counted us (old ++ option_to_list found) new → Counted (u ∷ us) old new
      select_step u us old new None can all_can apart none c =
          (c.0, selects_passed u us c.0 (λ represents. none (class, represents)) c.1, rw append-nil at c.2)
      select_step u us old new (Some found) can all_can apart is c =
          let pushed = sum_by_push (λ x. one_if (x == class)) old found in
          elim (cases_eq found class) [
            | inl same ↦
                let represents : IsOpenRepresentative Represents (earlier (turned q) u) class = subst (IsOpenRepresentative Represents (earlier (turned q) u)) same is in
                (choice u ∷ c.0, selects_taken u us c.0 can all_can apart represents c.1, omega (arith, c.2, pushed, ap one_if (eq-eqb found class same)))
            | inr other ↦ (
              c.0,
              selects_passed u us c.0 (λ represents. other (n.one_number _ _ found class is.0 represents.0 (inl refl))) c.1,
              omega (arith, c.2, pushed, ap one_if (ne_eqb found class other)),
            )
          ]

      select : (us : List RetroMove) (old new : List ℕ) → All (CanUndo (turned q)) us → AllPairs (λ (u v : RetroMove). u ≢ v) us → Gathers Represents (turned q) us old new
          → Counted us old new
      select [] old new can once e = ([], selects_none, ap number_of (sym e) ∙ omega arith)
      select (u ∷ us) old new can once g =
          let tail_can = All-tail (CanUndo (turned q)) u us can in
          select_step u us old new g.0 (All-head (CanUndo (turned q)) u us can) tail_can (pairs-head (λ (u v : RetroMove). u ≢ v) u us once) g.1
          (select us (old ++ option_to_list g.0) new tail_can (pairs-tail (λ (u v : RetroMove). u ≢ v) u us once) g.2)

      -- the moves of the representative that lead to q itself
      pub record Leading (ms : List Move) : Type 0 where
        pub sound : (m : Move) → Contains ms m → HasStatus A p Open × HasOutcome p m q
        pub whole : (m : Move) → HasStatus A p Open → HasOutcome p m q → Contains ms m
        pub once : AllPairs (λ (a b : Move). a ≢ b) ms

      leading_from : (ms : List Move) → Selects (undoes (turned q)) ms → Leading ms
      leading_from ms s = record {
        sound = λ m h.
            let w = s.sound m h in
            let back = n.one_represents _ p class w.3.0 stands in
            let goes = HasOutcome-from_undo q (turned q) w.0 twelve refl (undoes_sound (turned q) w.0 w.1) in (
              subst (λ (x : Setup). HasStatus A x Open) back w.3.1,
              subst (λ (x : Setup). HasOutcome x m q) back (subst (λ (x : Move). HasOutcome (earlier (turned q) w.0) x q) w.2 goes),
            );
        whole = λ m can goes.
            let w = undo_from_HasOutcome p m q (n.legal p class stands).squares goes in
            let listed = undoes_whole (turned q) w.0 (length-turned q) w.1.0 in
            let back = sym w.1.2 in
            let represents : IsOpenRepresentative Represents (earlier (turned q) w.0) class =
            (subst (λ (x : Setup). Represents x class) back stands, subst (λ (x : Setup). HasStatus A x Open) back can) in
            subst (Contains ms) w.1.1 (s.whole w.0 listed represents);
        once = s.once;
      }

      can_all : All (CanUndo (turned q)) (undoes (turned q))
      can_all k d lt = undoes_sound (turned q) (get_or (undoes (turned q)) k d) (Contains-get_or (undoes (turned q)) k d lt)

      pub counted_leading : (old new : List ℕ) → Gathers Represents (turned q) (undoes (turned q)) old new
          → (ms : List Move) × Leading ms × (number_of new ≡ number_of old + length ms)
      counted_leading old new g =
          let c = select (undoes (turned q)) old new can_all (undoes_once (turned q)) g in
          (c.0, leading_from c.0 c.1, c.2)

    pub one_outcome : (p : Setup) (m : Move) (a b : Setup) → HasOutcome p m a → HasOutcome p m b → a ≡ b
    one_outcome p m a b g h = HasOutcome-is p m a g ∙ sym (HasOutcome-is p m b h)

    -- the walk over a position that is its own mirror image counts the moves into its class
    edges_alone : (q : Setup) (new : List ℕ) → length q.board ≡ 12 → mirrored q ≡ q → Gathers Represents (turned q) (undoes (turned q)) [] new
        → HasEdges A p q (number_of new)
    edges_alone q new twelve own g =
        let c = counted_leading q twelve [] new g in
        record {
          moves = c.0;
          sound = λ m h. let s = c.1.sound m h in (s.0, (q, s.1, inl refl));
          whole = λ m leads.
              let there : leads.1.0 ≡ q = elim leads.1.2 [ inl e ↦ e | inr e ↦ e ∙ own ] in
              c.1.whole m leads.0 (subst (λ (x : Setup). HasOutcome p m x) there leads.1.1);
          once = c.1.once;
          counted = omega (arith, c.2);
        }

  nothing_known : All (λ class. (p : Setup) × Represents p class) []
  nothing_known = All-nil (λ class. (p : Setup) × Represents p class)

  pub counts_alone : (q : Setup) (new : List ℕ) → length q.board ≡ 12 → mirrored q ≡ q → Gathers Represents (turned q) (undoes (turned q)) [] new
      → CountEdges A Represents q new
  counts_alone q new twelve own g = record {
    known = gathered_known (turned q) (undoes (turned q)) [] new g nothing_known;
    edges = λ p class stands. edges_alone p class stands q new twelve own g;
  }
