-- The status says whether the position is open, and whether its turn is.
use Rattle.dob_zugzwang.proofs.Common.{◌∙◌, subst, sym, true≢false, Setup, HasStatus, Open}
use Rattle.dob_moves.specs.Shown.{setup_on}
use Rattle.dob_moves.specs.declared.position_status.Status.{Status}
use Rattle.dob_moves.proofs.Cases.{one_status}
use Rattle.dob_zugzwang.proofs.pairs.open_turn.Goals as goal

pub returns-then-not-is_open : goal.returns-then-not-is_open
returns-then-not-is_open c = λ opens.
    let yes = c.is_open.ensures.1 (one_status c.args.profile (setup_on c.args.position.now.board) c.status.result Open c.status.ensures opens.0) in
    absurd (true≢false (sym yes ∙ c.if-not-is_open.true))

pub returns-else-is_open : goal.returns-else-is_open
returns-else-is_open c = λ opens.
    let turn = setup_on c.turn_of_open-turn.result.board in
    let there = subst (λ (s : Setup). HasStatus c.args.profile s Open) (sym c.turn_of_open-turn.ensures) opens.1 in
    let yes = c.is_open-2.ensures.1 (one_status c.args.profile turn c.status-2.result Open c.status-2.ensures there) in
    absurd (true≢false (sym yes ∙ c.if-is_open.false))

pub returns-then-is_open : goal.returns-then-is_open
returns-then-is_open c =
    let p = setup_on c.args.position.now.board in
    let opens : HasStatus c.args.profile p Open =
    subst (λ (s : Status). HasStatus c.args.profile p s) (c.is_open.ensures.0 c.if-not-is_open.false) c.status.ensures in
    let turns : HasStatus c.args.profile (setup_on c.turn_of_open-turn.result.board) Open =
    subst (λ (s : Status). HasStatus c.args.profile (setup_on c.turn_of_open-turn.result.board) s) (c.is_open-2.ensures.0 c.if-is_open.true) c.status-2.ensures in
    (c.turn_of_open-turn.ensures, (opens, subst (λ (s : Setup). HasStatus c.args.profile s Open) c.turn_of_open-turn.ensures turns))
