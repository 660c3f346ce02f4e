-- The search ends at the rank, or no place has it.
use Rattle.dobutsu_web.proofs.Common.{Err, Ok, rules, ℕ, answers_always}
use Rattle.dob_certificate.proofs.Orders.{searched}
use Rattle.dobutsu_web.proofs.ranked.place_of.Goals as goal

pub returns-in-Ok : goal.returns-in-Ok
returns-in-Ok c =
    (searched (λ (x : ℕ). x) 0 c.args.ranks.now c.requires c.args.rank (Ok c.in-Ok.place) c.in-Ok.ensures.bound
    (c.in-Ok.ensures.position (λ (x : ℕ). x) (answers_always _ _ _ (λ f a r g called. search rules)))).found

pub returns-in-Err : goal.returns-in-Err
returns-in-Err c =
    (searched (λ (x : ℕ). x) 0 c.args.ranks.now c.requires c.args.rank (Err c.in-Err.field-0) c.in-Err.ensures.bound
    (c.in-Err.ensures.position (λ (x : ℕ). x) (answers_always _ _ _ (λ f a r g called. search rules)))).absent
