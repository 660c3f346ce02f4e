-- An open position before the move is legal where its lion is at home, and one of the family where the piece that was caught may stand again.
use Rattle.std.proofs.Common.{arith, rules, subst, sym, ◌∙◌}
use Rattle.std.proofs.lemmas.Grind.{common_steps}
use Rattle.dob_pieces.specs.declared.profile.Profile.TheVariants.{A}
use Rattle.dob_pieces.specs.declared.setup.Setup.{Setup}
use Rattle.dob_moves.specs.declared.position_status.Status.TheVariants.{Open}
use Rattle.dob_moves.specs.Statuses.{HasStatus}
use Rattle.dob_unmove.proofs.Kept.{barred, legal_before, legal_turned, position_before}
use Rattle.dob_unmove.proofs.Threats.{was_not_open, was_open}
use Rattle.dob_unmove.proofs.Undone.{few_turned}
use Rattle.dob_reference.proofs.earlier.position_before.Goals as goal

pub returns-then-stood_before : goal.returns-then-stood_before
returns-then-stood_before c = λ is was.
    was_not_open c.args.after.now c.args.threat.now (legal_turned c.args.family c.args.after.now c.requires.of_set) c.requires.threat
    c.args.undo c.requires.can (sym c.stood_before.ensures ∙ c.if-stood_before.true) was.open_to_move

pub returns-then-not-may_give_back : goal.returns-then-not-may_give_back
returns-then-not-may_give_back c = λ is.
    absurd (barred c.args.family c.args.after.now c.args.undo c.requires.can c.requires.of_set (sym c.may_give_back.ensures ∙ c.if-not-may_give_back.true) is)

pub earlier-setup-requires-clause-few : goal.earlier-setup-requires-clause-few
earlier-setup-requires-clause-few c = few_turned c.args.after.now (legal_turned c.args.family c.args.after.now c.requires.of_set)

pub new-requires : goal.new-requires
new-requires c =
    legal_before c.args.after.now c.earlier-setup.result c.args.undo c.requires.can (legal_turned c.args.family c.args.after.now c.requires.of_set)
    c.earlier-setup.ensures (search rules)

pub returns-then-has_lion_off_far_row : goal.returns-then-has_lion_off_far_row
returns-then-has_lion_off_far_row c =
    let was = was_open c.args.after.now c.args.threat.now (legal_turned c.args.family c.args.after.now c.requires.of_set) c.requires.threat
    c.args.undo c.requires.can (sym c.stood_before.ensures ∙ c.if-stood_before.false) in
    let same = c.new.ensures ∙ c.earlier-setup.ensures in (
      same,
      subst (λ (s : Setup). HasStatus A s Open) (sym same) was,
      position_before c.args.family c.args.after.now c.args.undo c.requires.can c.requires.of_set c.new.result.setup
          (sym c.may_give_back.ensures ∙ c.if-not-may_give_back.false) same c.new.result.legal,
    )

pub returns-else-has_lion_off_far_row : goal.returns-else-has_lion_off_far_row
returns-else-has_lion_off_far_row c = λ is. grind (arith, common_steps)
