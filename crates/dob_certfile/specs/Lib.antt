-- The definitions.
pub mod Numbers  -- numbers in the fewest bytes
pub mod Format  -- what a file says, and its bytes
pub mod Reading  -- reading from left to right, with the first fault that is met
pub mod Fronts  -- what stands before the entries, as the code has it
pub mod Faults  -- the faults by name
pub mod Writing  -- what a sink has of a file where writing stops
pub mod Roots  -- the position of which something is claimed
