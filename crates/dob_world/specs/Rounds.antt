-- Rounds of events, as a world is driven.
use Rattle.std.specs.Prelude.{ℕ, zero, suc, ◌+◌, ◌*◌, ◌-◌, ◌/◌, ◌%◌, ◌<◌, nat_lt, nat_eq, cond, map, List, [], ◌++◌}
use Rattle.std.specs.List.{range_with_len}
use Rattle.dob_world.specs.declared.event.Event.{Event}
use Rattle.dob_world.specs.declared.event.Event.TheVariants.{Expand, Own, Post, Take, Pass, Announce}
use Rattle.dob_world.specs.Worlds.{Setting, State}
use Rattle.dob_world.specs.Events.{CanHappen}

-- how many events a round of n nodes has
abbrev pub round_length : ℕ → ℕ
round_length n = 3 * n + 2 * (n * n) + 1

-- The event of that number in a round of n nodes: for each node the expansion of a settlement and an own item, then for
-- each sender and each receiver a batch posted, then in the same order a batch taken, then from the last node down a pass
-- of the token, and last the announcement.
abbrev pub round_event : ℕ → ℕ → Event
round_event n place = cond (nat_lt place (2 * n)) (cond (nat_eq (place % 2) 0) (Expand (place / 2)) (Own (place / 2)))
    (cond (nat_lt place (2 * n + n * n)) (Post ((place - 2 * n) / n) ((place - 2 * n) % n))
    (cond (nat_lt place (2 * n + 2 * (n * n))) (Take ((place - (2 * n + n * n)) / n) ((place - (2 * n + n * n)) % n))
    (cond (nat_lt place (3 * n + 2 * (n * n))) (Pass (3 * n + 2 * (n * n) - 1 - place)) Announce)))

-- the first so many events of a round, and all of them
abbrev pub round_front : ℕ → ℕ → List Event
round_front n upto = map (round_event n) (range_with_len 0 upto)

abbrev pub round_of : ℕ → List Event
round_of n = round_front n (round_length n)

-- the events of so many rounds
abbrev pub rounds_of : ℕ → ℕ → List Event
rounds_of n zero = []
rounds_of n (suc rounds) = rounds_of n rounds ++ round_of n

-- no event of a round can happen
abbrev pub IsStill : Setting → State → Type 0
IsStill k state = (place : ℕ) → place < round_length k.n → ¬ CanHappen k state (round_event k.n place)
