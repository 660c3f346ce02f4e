-- The lemmas.
mod Common  -- names of other crates and of this one's definitions, for the proofs
pub mod Places  -- in which part a class stands, and what a watch learns of a part
pub mod Found  -- the first fault among the verdicts of all parts, or of all entries, as a search over them finds it
pub mod Counted  -- what is counted of parts of the classes, and of all of them
pub mod Firsts  -- what is answered of a list, by the first refusal of its entries
