-- One more text comes to those before.
use Rattle.std.proofs.Common.{◌∙◌, ◌≡◌, ◌++◌, ap, arith, rules, string_bytes, subst, sym}
use Rattle.std.proofs.lemmas.Grind.{common_steps}
use Rattle.std.specs.Prelude.{Contains}
use Rattle.std.proofs.lemmas.List.Elements.{Contains-get_or}
use Rattle.dob_lines.proofs.OneAfter.{next_text}
use Rattle.dob_lines.proofs.texts.joined.Goals as goal
use Rattle.dob_lines.proofs.texts.joined.Goals.{After-item-item}

-- the item is one of them
listed : (g : _) (c : After-item-item g) → Contains c.args.items.now c.item-item.result
listed g c = subst (λ (x : g.row.T.Denot). Contains c.args.items.now x) (sym c.item-item.is)
    (Contains-get_or c.args.items.now c.loop-item.item-index c.item-item.result c.loop-item-test.true)

pub text_of-requires : goal.text_of-requires
text_of-requires g c = c.requires c.item-item.result (listed g (goal.at.text_of-requires g c).After-item-item)

pub loop-item-init : goal.loop-item-init
loop-item-init g c = λ text each. search rules

pub loop-item-preserved : goal.loop-item-preserved
loop-item-preserved g c = λ text each.
    let one : string_bytes c.in_ok-text.text ≡ text c.item-item.result =
    each c.item-item.result (listed g (goal.at.loop-item-preserved g c).After-item-item) _ c.in_ok-text.ensures in
    next_text text c.args.items.now c.loop-item.item-index c.item-item.result (string_bytes c.loop-item.told) (string_bytes c.push_str.new.self) c.loop-item-test.true
    (c.loop-item.invariant text each)
    (c.in_ok-push_str.ensures.bytes ∙ ap (λ ys. string_bytes c.loop-item.told ++ ys) (c.as_str.ensures.value ∙ one ∙ ap text c.item-item.is))

pub returns : goal.returns
returns g c = grind (arith, common_steps)
