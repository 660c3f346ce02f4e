-- Each move is later than those listed, and its value is the one that is said of the position after it.
use Rattle.dob_probe.proofs.Common.{◌≤◌, arith, length, refl, rules, slice_get_within, ValuedMove}
use Rattle.dob_moves.specs.Shown.{setup_on}
use Rattle.std.proofs.lemmas.Result.{err_from_is_err_and}
use Rattle.dob_probe.proofs.ByValue.{listed_all, listed_more, listed_none}
use Rattle.dob_probe.proofs.InOrder.{before_next, none_first, none_ordered, one_more}
use Rattle.dob_probe.proofs.by_value.moves_in_order.Goals as goal

pub outcome_at-played-requires-clause-walk : goal.outcome_at-played-requires-clause-walk
outcome_at-played-requires-clause-walk g c = (c.args.position.now.setup, c.requires.member, c.requires.walk)

pub value_at-requires-clause-member : goal.value_at-requires-clause-member
value_at-requires-clause-member g c =
    rw c.requires.family (c.outcome_at-played.ensures.outcome c.args.position.now.setup c.requires.member c.requires.walk).member

pub returns-in-Err-clause-fault : goal.returns-in-Err-clause-fault
returns-in-Err-clause-fault g c = λ held holds.
    let is = c.outcome_at-played.ensures.outcome c.args.position.now.setup c.requires.member c.requires.walk in
    (setup_on c.outcome_at-played.result.position.board, (c.outcome_at-played.result.played, is.goes), c.in-Err.ensures.fault held (c.loop-place.invariant.held held holds))

pub returns-in-Err-clause-held : goal.returns-in-Err-clause-held
returns-in-Err-clause-held g c = λ held is. c.in-Err.ensures.held held (c.loop-place.invariant.held held is)

pub returns-in_err-insert_by_value-clause-moves : goal.returns-in_err-insert_by_value-clause-moves
returns-in_err-insert_by_value-clause-moves g c = λ held is. let p = err_from_is_err_and c.from_residual.result c.from_residual.ensures.1 in rw p.1 tt

pub returns-in_err-insert_by_value-clause-fault : goal.returns-in_err-insert_by_value-clause-fault
returns-in_err-insert_by_value-clause-fault g c = λ held is. let p = err_from_is_err_and c.from_residual.result c.from_residual.ensures.1 in rw (p.1, p.2) tt

pub returns-in_err-insert_by_value-clause-held : goal.returns-in_err-insert_by_value-clause-held
returns-in_err-insert_by_value-clause-held g c = λ held is. c.in-Ok.ensures.held held (c.loop-place.invariant.held held is)

pub insert_by_value-requires-clause-later : goal.insert_by_value-requires-clause-later
insert_by_value-requires-clause-later g c =
    let here = c.outcome_at-played.ensures.played in
    let within = slice_get_within c.args.walk.now.moves.items c.loop-place.place c.outcome_at-played.result.played here in
    before_next c.args.family.profile c.args.position.now.setup c.args.walk.now.moves.items c.loop-place.place c.loop-place.list.items
    c.outcome_at-played.result.played c.requires.walk.moves within here c.loop-place.invariant.first

pub loop-place-init : goal.loop-place-init
loop-place-init g c =
    rw c.new-list.ensures.items (record {
      ordered = none_ordered;
      first = none_first c.args.walk.now.moves.items;
      held = λ held is. is;
      listed = λ held is. listed_none c.args.family.profile (g.V.ValueSource.says c.args.by.now held) c.args.position.now.setup c.args.walk.now.moves.items;
      failed = refl;
    })

pub loop-place-preserved : goal.loop-place-preserved
loop-place-preserved g c =
    let family = c.args.family in
    let setup = c.args.position.now.setup in
    let legal = c.args.walk.now.moves.items in
    let index = c.loop-place.place in
    let played = c.outcome_at-played.result.played in
    let here = c.outcome_at-played.ensures.played in
    let within = slice_get_within legal index played here in
    let is = c.outcome_at-played.ensures.outcome c.args.position.now.setup c.requires.member c.requires.walk in
    let more : ValuedMove = record { played = played; value = c.value_seen.result } in
    record {
      ordered = c.in_ok-insert_by_value.ensures.ordered;
      first = one_more legal index c.loop-place.list.items c.insert_by_value.new.list.items more here c.in_ok-insert_by_value.ensures.items
          c.loop-place.invariant.first;
      held = λ held holds. c.in-Ok.ensures.held held (c.loop-place.invariant.held held holds);
      listed = λ held holds.
          listed_more family.profile (g.V.ValueSource.says c.args.by.now held) setup legal index c.loop-place.list.items c.insert_by_value.new.list.items more
          (setup_on c.outcome_at-played.result.position.board) c.in-Ok.value here is.is_open is.goes
          (c.in-Ok.ensures.said held (c.loop-place.invariant.held held holds)) c.value_seen.ensures c.in_ok-insert_by_value.ensures.items
          (before_next family.profile setup legal index c.loop-place.list.items played c.requires.walk.moves within here
          c.loop-place.invariant.first)
          (c.loop-place.invariant.listed held holds);
      failed = search rules;
    }

pub returns-clause-moves : goal.returns-clause-moves
returns-clause-moves g c = λ held is.
    let all : length c.args.walk.now.moves.items ≤ c.loop-place.place = omega (arith, c.len-place-end.ensures, c.loop-place-test.false, c.loop-place.auto.place-end) in
    listed_all c.args.family.profile (g.V.ValueSource.says c.args.by.now held) c.args.position.now.setup c.args.walk.now.moves.items c.loop-place.place
    c.loop-place.list.items c.requires.free c.requires.walk.moves all (c.loop-place.invariant.listed held is)
    c.loop-place.invariant.ordered
