-- each step of a pass keeps the inbox lawful
mod Common  -- names of other crates and of this one's definitions, for the proofs
pub mod Deliveries  -- passes that begin, count and open senders, send, take and end
pub mod EndsOpened  -- sending ends, one after another
pub mod Rejoinings  -- passes that end, and rooms for what is left
pub mod Staying  -- ends that stay those of their inbox
