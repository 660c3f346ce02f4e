-- The lemmas, in the order in which they are read.
mod Common  -- names of other crates and of this one's definitions, for the proofs
mod Refused  -- why a board and hands are no position
mod Exact  -- one fault holds at most, and none where a value is answered
mod ByFile  -- by the file of a value table the moves answered are right
mod Indexed  -- what is held and asked by an index
mod Answered  -- the answers of many calls
mod IndexedMoves  -- the moves that are listed by an index, and why they aren't told
mod ToldMoves  -- what is told of moves by an index or by a count
mod Certified  -- a certificate's file whose claim isn't proved
mod Replied  -- what a certificate says of a position
mod Named  -- what faults are called
mod Drawn  -- numbers in the order of a seed
