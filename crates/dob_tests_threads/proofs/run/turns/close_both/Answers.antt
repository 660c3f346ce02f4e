-- The crew is closed as one whose runners have stopped.
use Rattle.std.proofs.Common.{◌≡◌, ◌≢◌, ◌∙◌, List, [], ◌∷◌, map, rules, sym, subst}
use Rattle.std.specs.List.{AllZip}
use Rattle.dob_pieces.specs.declared.profile.Family.{Family}
use Rattle.dob_board.specs.declared.board.Blackboard.{Blackboard}
use Rattle.dob_board.specs.declared.halt.Halt.TheVariants.{Running}
use Rattle.dob_runner.specs.declared.runner.Runner.{Runner}
use Rattle.dob_run.specs.BuildEnd.{HaveStopped}
use Rattle.dob_crew.specs.CrewClose.{IsCrew}
use Rattle.dob_crew.specs.CrewRunners.{IsNewCrew, endpoint_of}
use Rattle.dob_runner.specs.Runners.{KeepsRunner}
use Rattle.dob_pieces.proofs.Zips.{zip_at}
use Rattle.dob_crew.proofs.CrewRunners.{crew_kept}
use Rattle.dob_tests_threads.proofs.run.turns.close_both.Goals as goal

-- a runner keeps its place, and has stopped
abbrev HasEnded : Runner → Runner → Type 0
HasEnded old new = KeepsRunner old new × (new.endpoint.seat.stand.halt ≢ Running)

module _ (family : Family) (board : Blackboard) (one other first second : Runner) (opened : IsNewCrew family 2 1 1 board (one ∷ other ∷ []))
    (keeps_one : KeepsRunner one first) (keeps_other : KeepsRunner other second) (ended : List Runner) (is : ended ≡ first ∷ second ∷ []) where
  still_crew : IsCrew board (map endpoint_of ended)
  still_crew = subst (λ (l : List Runner). IsCrew board (map endpoint_of l)) (sym is)
      (crew_kept board (one ∷ other ∷ []) (first ∷ second ∷ []) opened.crew (keeps_one, (keeps_other, tt)))

  have_stopped : first.endpoint.seat.stand.halt ≢ Running → second.endpoint.seat.stand.halt ≢ Running → HaveStopped family 1 ended
  have_stopped stopped_one stopped_other = subst (HaveStopped family 1) (sym is) (λ k runner at.
      let ends : AllZip HasEnded (one ∷ other ∷ []) (first ∷ second ∷ []) = ((keeps_one, stopped_one), ((keeps_other, stopped_other), tt)) in
      let was = zip_at HasEnded (one ∷ other ∷ []) (first ∷ second ∷ []) k runner ends at in
      let new = opened.each k was.0 was.1 in
      record { family_is = was.2.0.family ∙ new.family_is; size_is = was.2.0.batch_size ∙ new.size_is; halted = was.2.1 })

pub finish-requires-clause-crew : goal.finish-requires-clause-crew
finish-requires-clause-crew g c = λ κs lives. let kept = c.requires.crew in
    let is : c.expect-runners.result.items ≡ c.args.first ∷ c.args.second ∷ [] = search rules in
    still_crew c.args.classes.family c.args.board kept.0 kept.1 c.args.first c.args.second kept.2 kept.3 kept.4 c.expect-runners.result.items is

pub finish-requires-clause-stopped : goal.finish-requires-clause-stopped
finish-requires-clause-stopped g c = λ κs lives. let kept = c.requires.crew in
    let is : c.expect-runners.result.items ≡ c.args.first ∷ c.args.second ∷ [] = search rules in (
      1,
      have_stopped c.args.classes.family c.args.board kept.0 kept.1 c.args.first c.args.second kept.2 kept.3 kept.4 c.expect-runners.result.items is
          (search rules) (search rules),
    )
