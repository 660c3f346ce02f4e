-- One inbox more is laid: its outlets are dealt to the nodes, and its inlet goes last.
use Rattle.dob_inboxes.proofs.Common.{◌≡◌, length, rules, subst, vec_len, ℕ, AreDealt, AreRows}
use Rattle.dob_inboxes.proofs.Inboxes.{none_laid, laid_more}
use Rattle.dob_inboxes.proofs.inbox_open.open_inboxes.Goals as goal

pub loop-init : goal.loop-init
loop-init c = none_laid c.args.capacity c.args.nodes c.in_ok-rows.rows.items c.in_ok-inlets.inlets.items
    (subst (λ (k : ℕ). AreRows k 0 c.in_ok-rows.rows.items) c.get-count.ensures.value c.in_ok-rows.ensures) (search rules)

pub push_each-requires : goal.push_each-requires
push_each-requires c =
    let outlets : length c.in_ok-outlets.outlets.items ≡ c.args.nodes = c.in_ok-outlets.ensures.count in
    let rows : length c.loop.rows.items ≡ c.args.nodes = c.loop.invariant.rows.count in
    search rules

pub loop-preserved : goal.loop-preserved
loop-preserved c =
    let outlets = c.in_ok-outlets.outlets in
    let count : length outlets.items ≡ c.args.nodes = c.in_ok-outlets.ensures.count in
    let many : vec_len outlets ≡ c.args.nodes = search rules in
    let dealt : AreDealt c.args.nodes outlets.items c.loop.rows.items c.push_each.new.rows.items =
    subst (λ (k : ℕ). AreDealt k outlets.items c.loop.rows.items c.push_each.new.rows.items) many c.in_ok-push_each.ensures in
    laid_more c.args.capacity c.args.nodes c.loop.counter c.loop.rows.items c.push_each.new.rows.items c.loop.inlets.items _ outlets.items c.in_ok-outlets.inlet
    c.loop.invariant c.in_ok-outlets.ensures dealt c.in_ok-push.ensures.items
