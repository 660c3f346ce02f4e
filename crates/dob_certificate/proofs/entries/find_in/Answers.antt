-- The search ends at the class, or no place has it.
use Rattle.dob_certificate.proofs.Common.{◌<◌, ◌∙◌, ◌≡◌, Err, Ok, length, rules, sym, answers_always, class_at, Entry}
use Rattle.std.proofs.lemmas.List.Elements.{Contains-get_or}
use Rattle.dob_certificate.proofs.Orders.{no_entry, searched, no_place, one_entry}
use Rattle.dob_certificate.proofs.entries.find_in.Goals as goal
use Rattle.dob_certificate.proofs.entries.find_in.Goals.{In-Ok}

-- the place has the class
found : (c : In-Ok) → (c.in-Ok.place < length c.args.entries.now) × (class_at c.args.entries.now c.in-Ok.place ≡ c.args.class)
found c =
    (searched (λ (entry : Entry). entry.class) no_entry c.args.entries.now c.requires c.args.class (Ok c.in-Ok.place) c.in-Ok.ensures.bound
    (c.in-Ok.ensures.position (λ (entry : Entry). entry.class) (answers_always _ _ _ (λ f a r g called. search rules)))).found

pub returns-in-Ok-clause-some : goal.returns-in-Ok-clause-some
returns-in-Ok-clause-some c =
    let is = found (goal.at.returns-in-Ok-clause-some c).In-Ok in
    (Contains-get_or c.args.entries.now c.in-Ok.place no_entry is.0, is.1)

pub returns-in-Ok-clause-alone : goal.returns-in-Ok-clause-alone
returns-in-Ok-clause-alone c = λ other there same.
    let is = found (goal.at.returns-in-Ok-clause-alone c).In-Ok in
    one_entry c.args.entries.now c.requires _ other (Contains-get_or c.args.entries.now c.in-Ok.place no_entry is.0) there (is.1 ∙ sym same)

pub returns-in-Err-clause-none : goal.returns-in-Err-clause-none
returns-in-Err-clause-none c =
    let entries = c.args.entries.now in
    no_place entries c.args.class
    (searched (λ (entry : Entry). entry.class) no_entry entries c.requires c.args.class (Err c.in-Err.field-0) c.in-Err.ensures.bound
    (c.in-Err.ensures.position (λ (entry : Entry). entry.class) (answers_always _ _ _ (λ f a r g called. search rules)))).absent
