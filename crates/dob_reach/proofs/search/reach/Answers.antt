-- One round more each time, until no class is left to go on from.
use Rattle.dob_reach.proofs.Common.{◌≡◌, [], ap, arith, length, nil_from_length, subst, vec_len}
use Rattle.dob_reach.proofs.Searched.{counted_few, none_left, reached_end, some_left, told_more}
use Rattle.dob_reach.proofs.search.reach.Goals as goal

pub overflow_cast-start : goal.overflow_cast-start
overflow_cast-start g c = omega (arith, c.class_of-start.ensures.bound, c.class_count-few.ensures.bound, c.class_count-few.ensures.number)

pub rounds-init : goal.rounds-init
rounds-init g c = record {
  searched = c.in_ok-reached.ensures.searched;
  told = λ distance low. (let none = ap length c.in_ok-reached.ensures.level in absurd (omega (arith, low, none)));
}

pub rounds-smaller : goal.rounds-smaller
rounds-smaller g c =
    let some = some_left (vec_len c.rounds.front) c.is_empty.result c.is_empty.ensures c.rounds-test.true in
    let long : vec_len c.rounds.front ≡ length c.rounds.front.items = omega arith in
    omega (arith, counted_few _ _ c.rounds.invariant.searched, c.in_ok-front.ensures.more, ap length c.deref.ensures.value, some, long)

pub rounds-preserved : goal.rounds-preserved
rounds-preserved g c =
    let old = c.rounds.reached in
    let new = c.advance.new.reached in
    let front = c.rounds.front.items in
    let all = c.deref.ensures.value in
    let count : c.len-in-rounds.result ≡ length c.deref.result.now = (let same = ap length all in let long : vec_len c.rounds.front ≡ length front = omega arith in omega (arith, same, long, c.len-in-rounds.ensures)) in
    let distance : c.len.result ≡ length old.levels.items = (let long : vec_len old.levels ≡ length old.levels.items = omega arith in omega (arith, long, c.len.ensures)) in
    let Told = g.W.Watch.told c.args.watch.now in
    record {
      searched = c.in_ok-front.ensures.searched c.class_of-start.result (rw all c.rounds.invariant.searched);
      told = told_more Told old.levels.items new.levels.items (length c.deref.result.now) c.in_ok-front.ensures.level c.rounds.invariant.told
          (subst (λ n. Told n (length c.deref.result.now)) distance (subst (Told c.len.result) count c.met.ensures));
    }

pub returns-clause-reached : goal.returns-clause-reached
returns-clause-reached g c =
    let left = none_left (vec_len c.rounds.front) c.is_empty.result c.is_empty.ensures c.rounds-test.false in
    let long : vec_len c.rounds.front ≡ length c.rounds.front.items = omega arith in
    let none : c.rounds.front.items ≡ [] = nil_from_length c.rounds.front.items (omega (arith, left, long)) in
    rw (← c.class_of-start.ensures.number) (reached_end _ _ (rw none at c.rounds.invariant.searched))
