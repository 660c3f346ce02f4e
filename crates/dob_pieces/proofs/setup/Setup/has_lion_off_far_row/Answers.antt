-- No cell of the far row has the mover's lion.
use Rattle.dob_pieces.proofs.Common.{◌∙◌, ◌≡◌, ap, drop, length, rules, sym, not-true, not_from_false, list_any, holds_lion, Mover}
use Rattle.dob_pieces.proofs.Legality.{HasLionOffFarRow-from_test, test-from_HasLionOffFarRow, far_row}
use Rattle.dob_pieces.proofs.setup.Setup.has_lion_off_far_row.Goals as goal

pub returns : goal.returns
returns c =
    let squares : length c.args.self.now.board ≡ 12 = search rules in
    let answer : c.has_mover_lion.result ≡ list_any (holds_lion Mover) (drop 9 c.args.self.now.board)
    = c.has_mover_lion.ensures ∙ ap (list_any (holds_lion Mover)) (far_row c.args.self.now.board squares) in (
      λ t. HasLionOffFarRow-from_test c.args.self.now (sym answer ∙ not-true _ t),
      λ h. not_from_false _ (answer ∙ test-from_HasLionOffFarRow c.args.self.now h),
    )
