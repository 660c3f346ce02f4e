-- The lemmas.
mod Below  -- what each move of a list leads to
pub mod Shortest  -- the shortest lead among moves, and that a reply is right
