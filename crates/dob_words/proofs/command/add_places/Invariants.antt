-- The texts so far have joined the command.
use Rattle.dob_words.proofs.Common.{map, take, App, HasCommandShape, place_rule, place_said, with_rules}
use Rattle.dob_words.proofs.command.add_places.Given as goal

abbrev pub invariant-loop-place : goal.invariant-loop-place
invariant-loop-place l = (app : App) → HasCommandShape app l.initial.command
    → HasCommandShape (with_rules app (map (place_rule l.fn.profiles.names) (map place_said (take l.place-index l.places)))) l.command
