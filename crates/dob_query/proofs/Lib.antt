-- The lemmas, in the order in which they are read.
mod Common  -- names of other crates and of this one's definitions, for the proofs
pub mod Valued  -- the faults of finding a value are those of what is asked
pub mod Asking  -- the faults of a table, of records, of the header and of opening the file are those of asking it, and by a value table's file the answer is right
pub mod Placed  -- what lines come to by the records of a source is what is owed for asking for each
pub mod EachRight  -- so is what they come to by a table, and by a value table's file what is told of them is right
pub mod Shown  -- the faults of asking a file and of keeping a picture are those of showing, and by a value table's file a drawing is right
pub mod Recorded  -- a position has one record
pub mod Tabled  -- in the file of a table the records say what it gives
