-- The owner shows an entry, whose code stands for it.
use Rattle.dob_gather.proofs.Common.{length, refl, subst, sym, Value, IsShownByOwner}
use Rattle.dob_gather.proofs.Found.{shown_entry}
use Rattle.dob_gather.proofs.gathering.code_of.Goals as goal

pub value_of-requires-clause-own : goal.value_of-requires-clause-own
value_of-requires-clause-own c = λ share at. (c.requires.owned.2 _ share at).own c.args.class c.requires.owned.1 refl

pub code_of_value-requires : goal.code_of_value-requires
code_of_value-requires c =
    shown_entry c.requires.owned.0 c.args.shares.now c.args.class c.value_of.result c.requires.some c.requires.owned.2 c.requires.owned.1 c.value_of.ensures

pub returns : goal.returns
returns c = (
  c.code_of_value.type_inv,
  subst (λ (value : Value). IsShownByOwner (length c.args.shares.now) c.args.shares.now c.args.class value) (sym c.code_of_value.ensures.back) c.value_of.ensures,
)
