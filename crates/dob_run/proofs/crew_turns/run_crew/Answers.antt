-- The runners of a new crew suit the classes of its family, so they have run, of sizes within the limits.
use Rattle.dob_run.proofs.Common.{rules, subst, Family, KeepsRunner, says_no, Ends, EndsBy, IsNewCrew, AllSuit, HasRun, AllZip-weaken}
use Rattle.dob_run.proofs.CrewEnds.{are_let_on, all_suit}
use Rattle.dob_crew.proofs.CrewRunners.{crew_kept, sized}
use Rattle.dob_run.proofs.crew_turns.run_crew.Goals as goal

pub run_each-requires : goal.run_each-requires
run_each-requires g c =
    let family = c.in_ok-classes.classes.family in
    let suit : AllSuit family c.in_ok-board.runners.items = all_suit family c.args.sizes.now.batch_size c.in_ok-board.runners.items c.in_ok-board.ensures.each in
    search rules

pub returns-clause-ran : goal.returns-clause-ran
returns-clause-ran g c = λ nodes batch_size capacity these.
    let Says = g.G.Gate.says c.args.gate.now in
    let old = c.in_ok-board.runners.items in
    sized (λ a b d. HasRun (says_no Says) c.args.until.now c.args.family a b d c.in_ok-board.board c.in_ok-ended.ended.items)
    nodes batch_size capacity c.args.sizes.now these (record {
      within = c.args.sizes.now.within;
      old = old;
      opened = subst (λ (family : Family). IsNewCrew family c.args.sizes.now.nodes c.args.sizes.now.batch_size c.args.sizes.now.capacity c.in_ok-board.board old)
          c.in_ok-classes.ensures.family c.in_ok-board.ensures;
      ends = AllZip-weaken (EndsBy Says c.args.until.now) (Ends (says_no Says) c.args.until.now) (λ before after ends. ends.0) old c.in_ok-ended.ended.items
          c.in_ok-ended.ensures;
    })

pub returns-clause-let_on : goal.returns-clause-let_on
returns-clause-let_on g c =
    let Says = g.G.Gate.says c.args.gate.now in
    let old = c.in_ok-board.runners.items in
    let ended = c.in_ok-ended.ended.items in
    are_let_on Says c.args.until.now c.in_ok-classes.classes.family c.args.sizes.now.nodes c.args.sizes.now.batch_size c.args.sizes.now.capacity c.in_ok-board.board old ended c.in_ok-board.ensures c.in_ok-ended.ensures
    (crew_kept c.in_ok-board.board old ended c.in_ok-board.ensures.crew
    (AllZip-weaken (EndsBy Says c.args.until.now) KeepsRunner (λ before after ends. ends.0.0) old ended c.in_ok-ended.ensures))
