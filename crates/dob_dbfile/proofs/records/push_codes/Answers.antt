-- A code more is appended.
use Rattle.dob_dbfile.proofs.Common.{◌*◌, ◌++◌, ◌+◌, ◌<◌, ◌∙◌, ◌∷◌, ◌≡◌, ◌≤◌, List, [], ap, append_assoc, arith, length, subst, sym, ℕ, length-append}
use Rattle.dob_dbfile.proofs.Common.{take_rest, All-push, All, little_number}
use Rattle.dob_dbfile.proofs.CodeBytes.{code_more}
use Rattle.dob_dbfile.proofs.records.push_codes.Goals as goal

pub loop-index-preserved : goal.loop-index-preserved
loop-index-preserved c =
    let index = c.loop-index.index in
    let code = c.read_u16.result in
    let bytes = c.args.records.now in
    let before = c.loop-index.invariant.0 in
    let more = before.0 in
    let there : 2 * index + 2 ≤ length bytes = omega (arith, c.loop-index-test.true) in
    let pushed = c.in_ok-push.ensures.appended in
    let Fits : ℕ → Type 0 = λ k. k < 65536 in (
      (
        more ++ code ∷ [],
        pushed ∙ ap (λ (front : List ℕ). front ++ code ∷ []) before.1 ∙ append_assoc c.args.codes.now more (code ∷ []),
        code_more bytes more index code (λ i. omega (arith, c.type_inv.records i)) there before.2
            (c.read_u16.ensures ∙ ap (little_number 2) (take_rest bytes (2 * index))),
        (let e : length (more ++ code ∷ []) ≡ length more + 1 = length-append more (code ∷ []) in omega (arith, before.3)),
      ),
      λ fit. subst (All Fits) (sym pushed) (All-push Fits c.loop-index.codes code (c.loop-index.invariant.1 fit) (omega arith)),
    )
