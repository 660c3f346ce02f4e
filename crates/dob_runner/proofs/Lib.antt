-- The lemmas, in the order in which they are read.

mod Common  -- names of other crates and of this one's definitions, for the proofs
pub mod Pacing  -- the least level of the others, node by node
pub mod Knowing  -- what a node has applied and knows, when it is opened and after each step
pub mod Taking  -- what taking a batch from an inbox does
pub mod Keeping  -- what runners keep, through each step, and why they fail
pub mod Lawfuls  -- each step of a runner leaves it lawful
pub mod TurnParts  -- what the parts of a turn do, how many batches go over each link, and turns one after another
pub mod Sending  -- what sending to one node after another does
