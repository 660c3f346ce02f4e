-- The lemmas, in the order in which they are read. First how `clap` reads words.
mod Common  -- names of other crates and of this one's definitions, for the proofs
pub mod Rules  -- commands that are made from rows of the table
pub mod FourLists  -- the rows of four constants, one list after the other
pub mod Lexing  -- what the lexer makes of a word, by its first bytes
pub mod Turns  -- what `clap` makes of one word, where the one flag is for help
pub mod Steps  -- what one word does to the walk over the words
pub mod Texts  -- the rows that `clap` keeps of given texts
pub mod FormWords  -- the words after the name of a subcommand, for any form
pub mod Taken  -- the words of each form are taken so, by computing
-- From words to orders.
pub mod Lines  -- just the lines that the meaning says ask for something
pub mod AllWords  -- how all the words of the program are read
pub mod Outcomes  -- what the matches and the errors of the command come to
pub mod Matches  -- the texts of a subcommand, from its own matches
pub mod Misplaced  -- texts that are no names of the program's own streams
