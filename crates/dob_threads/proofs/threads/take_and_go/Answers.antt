-- The first that came has made its turns.
use Rattle.dob_threads.proofs.Common.{◌++◌, ◌∙◌, ◌∷◌, List, [], ap, Handed}
use Rattle.dob_threads.proofs.threads.take_and_go.Goals as goal

pub returns : goal.returns
returns g c = record {
  same = c.next_handed-runner.ensures.same;
  handed = c.next_handed-runner.result;
  came = c.next_handed-runner.ensures.came ∙ ap (λ (l : List Handed). l ++ c.next_handed-runner.result ∷ []) c.requires;
  ends = c.go_until.ensures;
}
