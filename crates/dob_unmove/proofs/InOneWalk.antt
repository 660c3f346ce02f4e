-- One walk counts the moves that lead into a class: those of the positions before its representative, and those of their mirror images, which lead to its
-- mirror image.
use Rattle.dob_unmove.proofs.Common.{◌++◌, ◌+◌, ◌<◌, ◌==◌, ◌∙◌, ◌∷◌, ◌≡◌, ◌≢◌, All, AllPairs, Bool, Contains, List, None, Option, Some, [], ap, append-nil, arith}
use Rattle.dob_unmove.proofs.Common.{All-nil, All-push, cond, false, get_or, inl, inr, length, length-append, option_to_list, refl, subst, sym, true, ℕ, count_by}
use Rattle.dob_unmove.proofs.Common.{Contains-append_cases, Contains-append_left, Contains-append_right, length-mirrored, mirrored, turned, A, IsLegal, Setup}
use Rattle.dob_unmove.proofs.Common.{HasOutcome, HasStatus, Move, Open, Put, Step, Finds, Gathers, earlier, CountEdges, HasEdges, IsNumbering, undoes, RetroMove, TakesAll}
use Rattle.std.specs.Prelude.{◌↔◌, IsTrue, map}
use Rattle.std.proofs.Common.{true≢false}
use Rattle.std.proofs.lemmas.List.{get_or-map, length-map}
use Rattle.std.proofs.lemmas.List.Elements.{Contains-get_or}
use Rattle.std.proofs.lemmas.List.Sums.{sum_by-append}
use Rattle.dob_pieces.proofs.Symmetries.{mirrored-mirrored}
use Rattle.dob_pieces.specs.Squares.{mirrored_square}
use Rattle.dob_moves.specs.Mirrors.{mirrored_move}
use Rattle.dob_moves.proofs.Mirrors.{HasOutcome-mirrored, HasStatus-mirrored_in_A}
use Rattle.dob_unmove.specs.Gathers.{AddsClasses, OfImage}
use Rattle.dob_unmove.proofs.Counting.{counted_leading, counts_alone, known_more, one_outcome, pairs-append}
use Rattle.dob_unmove.proofs.Images.{IsNumbering-images}

-- ---- mirror images of moves
square_twice : (k : ℕ) → mirrored_square (mirrored_square k) ≡ k
square_twice k = omega arith

move_twice : (m : Move) → mirrored_move (mirrored_move m) ≡ m
move_twice (Step kind from to catch grows) = rw (square_twice from, square_twice to) refl
move_twice (Put kind to) = rw (square_twice to) refl

module _ (ms : List Move) where
  in_images : (m : Move) → Contains ms m → Contains (map mirrored_move ms) (mirrored_move m)
  in_images m h = (h.0, let within = h.1 in omega (arith, within, length-map ms mirrored_move), get_or-map mirrored_move ms h.0 m (mirrored_move m) h.1 ∙ ap mirrored_move h.2)

  of_images : (m : Move) → Contains (map mirrored_move ms) m → (before : Move) × Contains ms before × (m ≡ mirrored_move before)
  of_images m h =
      let within : h.0 < length ms = let lt = h.1 in omega (arith, lt, length-map ms mirrored_move) in
      (get_or ms h.0 m, Contains-get_or ms h.0 m within, sym h.2 ∙ get_or-map mirrored_move ms h.0 m m within)

  images_once : AllPairs (λ (a b : Move). a ≢ b) ms → AllPairs (λ (a b : Move). a ≢ b) (map mirrored_move ms)
  images_once once i j d lt within same =
      let low : j < length ms = omega (arith, within, length-map ms mirrored_move) in
      once i j d lt low
      (sym (move_twice (get_or ms i d))
      ∙ ap mirrored_move (sym (get_or-map mirrored_move ms i d d (omega (arith, lt, low))) ∙ same ∙ get_or-map mirrored_move ms j d d low)
      ∙ move_twice (get_or ms j d))

-- ---- what is gathered
abbrev times : ℕ → List ℕ → ℕ
times class xs = count_by (λ x. x == class) xs

times_more : (class : ℕ) (xs ys : List ℕ) → times class (xs ++ ys) ≡ times class xs + times class ys
times_more class xs ys = sum_by-append (λ x. cond {A = ℕ} (x == class) 1 0) xs ys

module _ (Represents : Setup → ℕ → Type 0) (t : Setup) where
  abbrev Step_by : Bool → List ℕ → RetroMove → List ℕ → Type 0
  Step_by own old undo new = AddsClasses own Represents (earlier t undo) old new

  -- the classes of those before, and those of their mirror images
  record Apart (us : List RetroMove) (old new xs ys : List ℕ) : Type 0 where
    firsts : List ℕ
    seconds : List ℕ
    first : Gathers Represents t us xs firsts
    second : Gathers (OfImage Represents) t us ys seconds
    counted : (class : ℕ) → times class new + (times class xs + times class ys) ≡ times class old + (times class firsts + times class seconds)

  apart : (us : List RetroMove) (old new xs ys : List ℕ) → TakesAll (Step_by false) old us new → Apart us old new xs ys
  apart [] old new xs ys e = record {
    firsts = xs;
    seconds = ys;
    first = refl;
    second = refl;
    counted = λ class. ap (λ (l : List ℕ). times class l + (times class xs + times class ys)) (sym e);
  }
  apart (u ∷ us) old new xs ys h =
      let step = h.1 in
      let rest = apart us h.0 new (xs ++ option_to_list step.found) (ys ++ option_to_list step.image) h.2 in
      record {
        firsts = rest.firsts;
        seconds = rest.seconds;
        first = (step.found, step.first, rest.first);
        second = (step.image, step.second, rest.second);
        counted = λ class. omega (
          arith,
          rest.counted class,
          ap (times class) step.added,
          times_more class (old ++ option_to_list step.found) (option_to_list step.image),
          times_more class old (option_to_list step.found),
          times_more class xs (option_to_list step.found),
          times_more class ys (option_to_list step.image),
        );
      }

  alone : (us : List RetroMove) (old new : List ℕ) → TakesAll (Step_by true) old us new → Gathers Represents t us old new
  alone [] old new e = e
  alone (u ∷ us) old new h =
      let step = h.1 in
      let same : h.0 ≡ old ++ option_to_list step.found =
      step.added ∙ ap (λ (o : Option ℕ). (old ++ option_to_list step.found) ++ option_to_list o) step.second ∙ append-nil (old ++ option_to_list step.found) in
      (step.found, step.first, subst (λ (l : List ℕ). Gathers Represents t us l new) same (alone us h.0 new h.2))

  abbrev Known : List ℕ → Type 0
  Known xs = All (λ class. (p : Setup) × Represents p class) xs

  known_second : (p : Setup) (o : Option ℕ) (old : List ℕ) → Finds (OfImage Represents) p o → Known old → Known (old ++ option_to_list o)
  known_second p None old f h = subst Known (sym (append-nil old)) h
  known_second p (Some class) old f h = All-push (λ class. (p : Setup) × Represents p class) old class h (mirrored p, f.0.1)

  known : (us : List RetroMove) (old new : List ℕ) → TakesAll (Step_by false) old us new → Known old → Known new
  known [] old new e h = subst Known e h
  known (u ∷ us) old new g h =
      let step = g.1 in
      known us g.0 new g.2
      (subst Known (sym step.added)
      (known_second (earlier t u) step.image _ step.second (known_more Represents (earlier t u) step.found old step.first h)))

module _ (Represents : Setup → ℕ → Type 0) (n : IsNumbering Represents) (q : Setup) (twelve : length q.board ≡ 12) (other : mirrored q ≢ q)
    (firsts seconds : List ℕ) (g : Gathers Represents (turned q) (undoes (turned q)) [] firsts)
    (h : Gathers (OfImage Represents) (turned q) (undoes (turned q)) [] seconds) where
  edges_of_both : (p : Setup) (class : ℕ) (new : List ℕ) → Represents p class → times class new ≡ times class firsts + times class seconds
      → HasEdges A p q (times class new)
  edges_of_both p class new stands counted =
      let long = (n.legal p class stands).squares in
      let back = mirrored-mirrored p long in
      let c = counted_leading Represents n p class stands q twelve [] firsts g in
      let d = counted_leading (OfImage Represents) (IsNumbering-images Represents n) (mirrored p) class
      (length-mirrored p, subst (λ (s : Setup). Represents s class) (sym back) stands) q twelve [] seconds h in
      let images = map mirrored_move d.0 in
      let to_image : (m : Move) → Contains images m → HasStatus A p Open × HasOutcome p m (mirrored q) =
      λ m inside.
      let w = of_images d.0 m inside in
      let s = d.1.sound w.0 w.1 in (
        subst (λ (x : Setup). HasStatus A x Open) back (HasStatus-mirrored_in_A (mirrored p) Open (length-mirrored p) s.0),
        subst (λ (x : Move). HasOutcome p x (mirrored q)) (sym w.2)
            (subst (λ (x : Setup). HasOutcome x (mirrored_move w.0) (mirrored q)) back (HasOutcome-mirrored (mirrored p) w.0 q (length-mirrored p) s.1)),
      ) in
      record {
        moves = c.0 ++ images;
        sound = λ m found.
            elim (Contains-append_cases c.0 images m found) [
              | inl first ↦ let s = c.1.sound m first in (s.0, (q, s.1, inl refl))
              | inr second ↦ let s = to_image m second in (s.0, (mirrored q, s.1, inr refl))
            ];
        whole = λ m leads.
            elim leads.1.2 [
              | inl e ↦ Contains-append_left c.0 images m (c.1.whole m leads.0 (subst (λ (x : Setup). HasOutcome p m x) e leads.1.1))
              | inr e ↦
                  let goes = HasOutcome-mirrored p m (mirrored q) long (subst (λ (x : Setup). HasOutcome p m x) e leads.1.1) in
                  let listed = d.1.whole (mirrored_move m) (HasStatus-mirrored_in_A p Open long leads.0)
                  (subst (λ (x : Setup). HasOutcome (mirrored p) (mirrored_move m) x) (mirrored-mirrored q twelve) goes) in
                  Contains-append_right c.0 images m (subst (Contains images) (move_twice m) (in_images d.0 (mirrored_move m) listed))
            ];
        once = pairs-append (λ (a b : Move). a ≢ b) c.0 images c.1.once (images_once d.0 d.1.once)
            (λ a b first second e.
            let s = c.1.sound a first in
            let t = to_image b second in
            other (one_outcome Represents n p class stands p b (mirrored q) q t.1 (subst (λ (x : Move). HasOutcome p x q) e s.1)));
        counted = omega (arith, c.2, d.2, counted, length-append c.0 images, length-map d.0 mirrored_move);
      }

module _ (Represents : Setup → ℕ → Type 0) (n : IsNumbering Represents) where
  counts_of_both : (q : Setup) (new : List ℕ) → length q.board ≡ 12 → mirrored q ≢ q
      → TakesAll (Step_by Represents (turned q) false) [] (undoes (turned q)) new → CountEdges A Represents q new
  counts_of_both q new twelve other h =
      let parts = apart Represents (turned q) (undoes (turned q)) [] new [] [] h in
      record {
        known = known Represents (turned q) (undoes (turned q)) [] new h (All-nil (λ class. (p : Setup) × Represents p class));
        edges = λ p class stands.
            edges_of_both Represents n q twelve other parts.firsts parts.seconds parts.first parts.second p class new stands
            (let all = parts.counted class in omega (arith, all));
      }

  in_one : (own : Bool) (q : Setup) (new : List ℕ) → length q.board ≡ 12 → (IsTrue own ↔ (mirrored q ≡ q))
      → TakesAll (Step_by Represents (turned q) own) [] (undoes (turned q)) new → CountEdges A Represents q new
  in_one true q new twelve is h = counts_alone Represents n q new twelve (is.0 refl) (alone Represents (turned q) (undoes (turned q)) [] new h)
  in_one false q new twelve is h = counts_of_both q new twelve (λ own. true≢false (sym (is.1 own))) h

  pub found_in_one : (own : Bool) (q t : Setup) (old new : List ℕ) → IsLegal q → (IsTrue own ↔ (mirrored q ≡ q)) → t ≡ turned q → old ≡ []
      → TakesAll (λ old undo new. AddsClasses own Represents (earlier t undo) old new) old (undoes t) new → CountEdges A Represents q new
  found_in_one own q t old new legal is e none h = in_one own q new legal.squares is (rw (e, none) at h)
