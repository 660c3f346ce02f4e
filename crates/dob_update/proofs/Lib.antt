-- The lemmas, in the order in which they are read. First lists.
mod Common  -- names of other crates and of this one's definitions, for the proofs
pub mod PartLists  -- what is taken from the front of parts, and what is left
pub mod Runs  -- runs of items, and the parts that they belong to
pub mod PartItems  -- items of parts, of which only the classes are listed
pub mod Forward  -- lists whose elements from some place on come to the front
pub mod Queues  -- queues: one settlement more, and what is left without the first items
pub mod Cuts  -- what is cut from an outbox
pub mod Grown  -- an outbox that lists one settlement more
pub mod BatchItems  -- the items of batches, and of one more
