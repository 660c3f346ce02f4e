-- Quiet nodes hold the value table.
use Rattle.dob_history.proofs.Common.{◌<◌, ◌∙◌, ◌∷◌, ◌≡◌, ◌⊎◌, AreGathered, ArePredecessors-predecessors, Contains, Draw, Family, FollowsAt, FollowsAtStatus}
use Rattle.dob_history.proofs.Common.{FollowsFromKnown, FollowsFromSuccessors, HasClasses, HasClasses-classes_of, HasInTable, HasStatus, HasSuccessor}
use Rattle.dob_history.proofs.Common.{IsConsistent, IsQuiet, Item, List, Loss, Move, Open, QuietIsRight, Settlement, Setup, Some, Status, Value, Win, []}
use Rattle.dob_history.proofs.Common.{all_known, ap, arith, classes_of, consistent_is_right, copies, each_below, inl, inr, items_from, known, length}
use Rattle.dob_history.proofs.Common.{moves_keep_the_family, owner_of, predecessors, refl, same_Some, slice_get, slice_get_within, subst, sym, take, take_all}
use Rattle.dob_history.proofs.Common.{value_of, ℕ}
use Rattle.dob_pieces.specs.Setups.{mirrored}
use Rattle.dob_pieces.proofs.Symmetries.{mirrored-mirrored}
use Rattle.dob_moves.specs.Moves.{Goes}
use Rattle.dob_value.specs.ClassRows.{class_setup}
use Rattle.dob_value.proofs.ClassNumbers.{has_entry, one_entry, representative_is}
use Rattle.dob_value.proofs.Rows.{class_setup_is}
use Rattle.dob_unmove.specs.Classes.{RepresentsClass}
use Rattle.dob_unmove.specs.Unmoves.{ArePredecessors, LeadsInto}
use Rattle.dob_history.proofs.Copies.{in_each_below, the_one, known_by, all_applied}

-- what a list of an edge's moves has
pub some_of : {X : Type 0} (xs : List X) (number : ℕ) → length xs ≡ number → 0 < number → (x : X) × Contains xs x
some_of [] number whole above = let none : 0 ≡ number = whole in absurd (omega arith)
some_of (x ∷ xs) number whole above = (x, (0, omega arith, refl))

none_of : {X : Type 0} (xs : List X) (number : ℕ) (x : X) → length xs ≡ number → Contains xs x → 0 < number
none_of xs number x whole there = let below : there.0 < length xs = there.1 in omega arith

pub below_owner : (n class : ℕ) → 0 < n → owner_of n class < n
below_owner n class some = omega arith

-- of two positions each is the other, or its mirror image
turn : (a b : Setup) → length a.board ≡ 12 → (b ≡ a) ⊎ (b ≡ mirrored a) → (a ≡ b) ⊎ (a ≡ mirrored b)
turn a b twelve either = elim either [
  | inl same ↦ inl (sym same)
  | inr image ↦ inr (sym (mirrored-mirrored a twelve) ∙ ap mirrored (sym image))
]

-- each class has its predecessors as targets
abbrev pub AreTargets : Family → (ℕ → List ℕ) → Type 0
AreTargets family targets = (q : Setup) (class : ℕ) → RepresentsClass family q class → ArePredecessors family.profile (RepresentsClass family) q (targets class)

module _ (family : Family) (targets : ℕ → List ℕ) (n : ℕ) (histories : ℕ → List Settlement) (expanded : ℕ → ℕ)
    (sent applied : ℕ → ℕ → List Item) (values : List Value) (some : 0 < n) (are_targets : AreTargets family targets)
    (quiet : IsQuiet family targets n histories expanded sent applied) (gathered : AreGathered family n histories values) where
  abbrev Has : Setup → Value → Type 0
  Has p v = HasInTable family values p v

  abbrev value : ℕ → Value
  value q = value_of (histories (owner_of n q)) q

  abbrev knows : ℕ → List Value
  knows p = all_known targets (classes_of family) n histories (λ i. applied i (owner_of n p)) p

  -- what one copy knows
  abbrev copy_of : ℕ → ℕ → ℕ → Value
  copy_of p q copy = known (histories (owner_of n q)) (applied (owner_of n q) (owner_of n p)) p q copy

  -- each copy knows the value
  copy_knows : (p q copy : ℕ) → copy < copies targets p q → copy_of p q copy ≡ value q
  copy_knows p q copy below =
      let i = owner_of n q in
      let j = owner_of n p in
      let low : i < n = below_owner n q some in
      let at : j < n = below_owner n p some in
      let all : applied i j ≡ items_from targets n j (histories i) =
      quiet.nothing_waits i j low at ∙ quiet.nothing_to_send i j low at
      ∙ ap (λ k. items_from targets n j (take k (histories i))) (quiet.nothing_to_expand i low)
      ∙ ap (λ h. items_from targets n j h) (take_all (length (histories i)) (histories i) (omega arith)) in
      ap (λ items. known (histories i) items p q copy) all
      ∙ all_applied targets n j (histories i) p q copy refl below

  classes : HasClasses family (length values)
  classes = subst (HasClasses family) (sym gathered.whole) (HasClasses-classes_of family)

  value_there : (q : ℕ) (u : Value) → slice_get values q ≡ Some u → (q < classes_of family) × (u ≡ value q)
  value_there q u entry =
      let within : q < length values = slice_get_within values q u entry in
      let below : q < classes_of family = subst (λ m. q < m) gathered.whole within in
      (below, same_Some u (value q) (sym entry ∙ gathered.each q below))

  -- a class with an edge is that of a successor
  successor : (p : Setup) (a : ℕ) → RepresentsClass family p a → (q : ℕ) (u : Value) → q < classes_of family → 0 < copies targets a q → u ≡ value q →
      HasSuccessor family.profile Has p u
  successor p a represents q u below above same =
      let rep = class_setup family q in
      let is : RepresentsClass family rep q = class_setup_is family q (classes_of family) (HasClasses-classes_of family) below in
      let edge = (are_targets rep q is).counts.edges p a represents in
      let move = some_of edge.moves (copies targets a q) edge.counted above in
      let leads = edge.sound move.0 move.1 in
      let o = leads.1.0 in (
        move.0,
        o,
        leads.1.1,
        record {
          class = q;
          number = record {
            position = moves_keep_the_family family p move.0 o represents.0.0 leads.0 leads.1.1;
            representative = rep;
            stands = (turn rep o is.0.0.of_set.legal.squares leads.1.2, is.0.1);
            before = is.1;
          };
          entry = gathered.each q below ∙ ap Some (sym same);
        },
      )

  -- what a copy knows is the value of a successor
  heard : (p : Setup) (a : ℕ) → RepresentsClass family p a → (u : Value) → Contains (knows a) u → HasSuccessor family.profile Has p u
  heard p a represents u there =
      let at = known_by targets (classes_of family) n histories (λ i. applied i (owner_of n a)) a u there in
      let below : at.2 < copies targets a at.0 = at.3 in
      successor p a represents at.0 u at.1 (omega arith) (sym at.4 ∙ copy_knows a at.0 at.2 below)

  -- and the value of each successor is known to a copy
  emitted : (p : Setup) (a : ℕ) → RepresentsClass family p a → HasStatus family.profile p Open → (move : Move) (o : Setup) → Goes family.profile p move o → (u : Value) → Has o u →
      Contains (knows a) u
  unfolding all_known
  emitted p a represents goes_on move o goes u has =
      let q = has.class in
      let there = value_there q u has.entry in
      let rep = has.number.representative in
      let position = moves_keep_the_family family p move o represents.0.0 goes_on goes in
      let is_rep = representative_is family o rep position has.number.stands in
      let edge = (are_targets rep q (is_rep, has.number.before)).counts.edges p a represents in
      let leads : LeadsInto family.profile p rep move = (goes_on, (o, goes, turn o rep position.of_set.legal.squares has.number.stands.0)) in
      let above : 0 < copies targets a q = none_of edge.moves (copies targets a q) move edge.counted (edge.whole move leads) in
      in_each_below (λ (q : ℕ). each_below (λ (copy : ℕ). copy_of a q copy ∷ []) (copies targets a q)) (classes_of family) q u there.0
      (in_each_below (λ (copy : ℕ). copy_of a q copy ∷ []) (copies targets a q) 0 u above
      (the_one (copy_of a q 0) u (copy_knows a q 0 above ∙ sym there.1)))

  follows_known : (p : Setup) (a : ℕ) → RepresentsClass family p a → HasStatus family.profile p Open → (v : Value) → FollowsFromKnown (knows a) v →
      FollowsFromSuccessors family.profile Has p v
  follows_known p a represents goes_on (Win plies) follows = (
    follows.0,
    follows.1,
    heard p a represents (Loss follows.0) follows.2,
    λ other next. follows.3 other (emitted p a represents goes_on next.0 next.1 next.2 (Loss other) next.3),
  )
  follows_known p a represents goes_on (Loss plies) follows = (
    follows.0,
    follows.1,
    heard p a represents (Win follows.0) follows.2,
    λ other next. follows.3 other (emitted p a represents goes_on next.0 next.1 next.2 (Win other) next.3),
    λ move o goes.
        let entry = has_entry family values o classes (moves_keep_the_family family p move o represents.0.0 goes_on goes) in
        let win = follows.4 entry.0 (emitted p a represents goes_on move o goes entry.0 entry.1) in
        (win.0, subst (Has o) win.1 entry.1),
  )
  follows_known p a represents goes_on Draw follows = (
    λ plies next. follows.0 plies (emitted p a represents goes_on next.0 next.1 next.2 (Loss plies) next.3),
    λ wins. follows.1 (λ u there.
        let next = heard p a represents u there in
        let win = wins next.0 next.1 next.2 in
        (win.0, one_entry family values next.1 u (Win win.0) (moves_keep_the_family family p next.0 next.1 represents.0.0 goes_on next.2) next.3 win.1)),
  )

  at_status : (p : Setup) (a : ℕ) → RepresentsClass family p a → (status : Status) → HasStatus family.profile p status → (v : Value) →
      FollowsAtStatus status (knows a) v → FollowsAt family.profile Has p status v
  at_status p a represents Open is v follows = follows_known p a represents is v follows
  at_status p a represents status is v follows = follows

  consistent : IsConsistent family values
  consistent = record {
    table = record { classes = classes; entries = gathered.entries };
    follows = λ p a v is number entry.
        let now = quiet.values p a (is, number) in (
          now.0,
          now.1,
          subst (FollowsAt family.profile Has p now.0) (sym (value_there a v entry).1) (at_status p a (is, number) now.0 now.1 (value a) now.2),
        );
  }

are_predecessors : (family : Family) → AreTargets family (predecessors family)
are_predecessors family q class is = ArePredecessors-predecessors family q class is

pub quiet_is_right : QuietIsRight
quiet_is_right family n histories expanded sent applied values some quiet gathered =
    consistent_is_right family values
    (consistent family (predecessors family) n histories expanded sent applied values some (are_predecessors family) quiet gathered)
