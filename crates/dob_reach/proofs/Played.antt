-- Plays of moves and the classes that they come to.
use Rattle.dob_reach.proofs.Common.{◌≡◌, Bool, Family, Goes, Goes-mirrored, HasStatus, HasStatus-mirrored, IsInClass, IsInClass-class_number, IsPositionOf}
use Rattle.dob_reach.proofs.Common.{Leads, Met, Open, Setup, class_number, inl, inr, moves_keep_the_family, refl, subst, suc, sym, true, zero, ℕ}
use Rattle.dob_pieces.specs.Setups.{mirrored}
use Rattle.dob_pieces.proofs.Boards.{IsLegal-mirrored}
use Rattle.dob_pieces.proofs.Symmetries.{mirrored-mirrored}
use Rattle.dob_moves.specs.declared.game_move.Move.{Move}
use Rattle.dob_moves.specs.Mirrors.{mirrored_move}
use Rattle.dob_rank.specs.Order.{IsEither}
use Rattle.dob_classes.proofs.OfFamilies.FamilyRepresentatives.{class_representative, in_mirror, one_representative}
use Rattle.dob_reach.specs.Plays.{ClassesAreMet, PlaysMeetClasses, ReachedIsClosed, ReachedIsLeast}

pub closed : ReachedIsClosed
closed family from = ((0, refl), λ class other reached leads. (suc reached.0, (class, reached.1, leads)))

has_met : (family : Family) (from : ℕ) (has : ℕ → Bool) → has from ≡ true → ((class other : ℕ) → has class ≡ true → Leads family class other → has other ≡ true)
    → (n class : ℕ) → Met (Leads family) n from class → has class ≡ true
has_met family from has first onward zero class met = subst (λ k. has k ≡ true) met first
has_met family from has first onward (suc n) class met = onward met.0 class (has_met family from has first onward n met.0 met.1) met.2

pub least : ReachedIsLeast
least family from has first onward class reached = has_met family from has first onward reached.0 class reached.1

-- a move of a position is one of its class, in the mirror where that is its representative
step_leads : (family : Family) (r q : Setup) (class : ℕ) (move : Move) (is : IsInClass family r class) → IsEither r is.representative
    → HasStatus family.profile r Open → Goes family.profile r move q → IsPositionOf family q → Leads family class (class_number family q)
step_leads family r q class move is (inl same) is_open goes member = record {
  representative = is.representative;
  represents = class_representative family r class is;
  is_open = subst (λ s. HasStatus family.profile s Open) (sym same) is_open;
  move = move;
  outcome = q;
  goes = subst (λ s. Goes family.profile s move q) (sym same) goes;
  inside = IsInClass-class_number family q member;
}
step_leads family r q class move is (inr image) is_open goes member = record {
  representative = is.representative;
  represents = class_representative family r class is;
  is_open = subst (λ s. HasStatus family.profile s Open) (sym image) (HasStatus-mirrored family.profile r Open is.position.of_set.legal is_open);
  move = mirrored_move move;
  outcome = mirrored q;
  goes = subst (λ s. Goes family.profile s (mirrored_move move) (mirrored q)) (sym image)
      (Goes-mirrored family.profile r move q is.position.of_set.legal.squares goes);
  inside = in_mirror family q (class_number family q) (IsInClass-class_number family q member);
}

pub plays_meet : PlaysMeetClasses
plays_meet family zero p q from is play = (from, subst (λ s. IsInClass family s from) play is, refl)
plays_meet family (suc n) p q from is play =
    let before = plays_meet family n p play.0 from is play.1 in
    let member = moves_keep_the_family family play.0 play.3 q before.1.position play.2 play.4 in (
      class_number family q,
      IsInClass-class_number family q member,
      (before.0, before.2, step_leads family play.0 q before.0 play.3 before.1 before.1.stands.0 play.2 play.4 member),
    )

-- a move of a class's representative is one of each member, in the mirror where it is the other one
leads_step : (family : Family) (r : Setup) (class other : ℕ) → IsPositionOf family r → (leads : Leads family class other) → IsEither r leads.representative
    → HasStatus family.profile r Open × (q : Setup) × (move : Move) × Goes family.profile r move q × IsInClass family q other
leads_step family r class other member leads (inl same) = (
  subst (λ s. HasStatus family.profile s Open) same leads.is_open,
  leads.outcome,
  leads.move,
  subst (λ s. Goes family.profile s leads.move leads.outcome) same leads.goes,
  leads.inside,
)
leads_step family r class other member leads (inr image) =
    let legal = member.of_set.legal in
    let back : mirrored (mirrored r) ≡ r = mirrored-mirrored r legal.squares in
    let from_image : HasStatus family.profile (mirrored r) Open = subst (λ s. HasStatus family.profile s Open) image leads.is_open in
    let goes : Goes family.profile (mirrored r) leads.move leads.outcome = subst (λ s. Goes family.profile s leads.move leads.outcome) image leads.goes in
    let image_legal = IsLegal-mirrored r legal in (
      subst (λ s. HasStatus family.profile s Open) back (HasStatus-mirrored family.profile (mirrored r) Open image_legal from_image),
      mirrored leads.outcome,
      mirrored_move leads.move,
      subst (λ s. Goes family.profile s (mirrored_move leads.move) (mirrored leads.outcome)) back
          (Goes-mirrored family.profile (mirrored r) leads.move leads.outcome image_legal.squares goes),
      in_mirror family leads.outcome other leads.inside,
    )

pub are_met : ClassesAreMet
are_met family zero p from class is met = (p, refl, subst (IsInClass family p) met is)
are_met family (suc n) p from class is met =
    let before = are_met family n p from met.0 is met.1 in
    let own = class_representative family before.0 met.0 before.2 in
    let same = one_representative family before.2.representative met.2.representative met.0 own met.2.represents in
    let step = leads_step family before.0 met.0 class before.2.position met.2 (subst (IsEither before.0) same before.2.stands.0) in
    (step.1, (before.0, before.1, step.0, step.2, step.3), step.4)
