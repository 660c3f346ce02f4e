-- Each endpoint gets its runner, in order.
use Rattle.dob_crew.proofs.Common.{◌∙◌, List, Result, subst, slice_get-get_or, AllZip, IfOk, slice_index_or, made_all, Endpoint, Runner, IsRunnerOf}
use Rattle.dob_pieces.specs.declared.memory.Memory.{Memory}
use Rattle.dob_crew.proofs.crew_open.runners_of.Goals as goal

pub collect-requires-clause-ready : goal.collect-requires-clause-ready
collect-requires-clause-ready g c κs within =
    let endpoints = c.args.endpoints.items in
    rw (c.map.ensures.base, c.map.ensures.f, c.with_min_len.ensures.base, c.into_par_iter.ensures)
    (λ k d low. (let at = slice_get-get_or endpoints k d low in
    (((c.requires.new.0, c.requires.new.1 k (slice_index_or endpoints k d) at), c.requires.nodes k (slice_index_or endpoints k d) at), λ given made. tt)))

pub returns : goal.returns
returns g c =
    let done = c.in_ok-collect.ensures in
    let chain = rw (c.map.ensures.base, c.map.ensures.f, c.with_min_len.ensures.base) at done.1 in
    let are = subst (λ (l : List Endpoint). AllZip (λ (endpoint : Endpoint) (given : Result Runner Memory). IfOk given (IsRunnerOf c.args.classes.now.family c.args.batch_size endpoint)) l done.0)
    (chain.1 ∙ c.into_par_iter.ensures) chain.2 in
    made_all (IsRunnerOf c.args.classes.now.family c.args.batch_size) c.args.endpoints.items done.0 c.in_ok-collect.field-0 are done.2
