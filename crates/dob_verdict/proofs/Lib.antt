-- The lemmas, in the order in which they are read.
mod Common  -- names of other crates and of this one's definitions, for the proofs
pub mod Prefixes  -- what stands before a certificate's entries is said by the file's first bytes
pub mod Lengths  -- of a file that goes on too long the first bytes have the fault that all have
pub mod Headed  -- what the header of a file says, from the bytes that were read to the file
pub mod Proven  -- the faults of a certificate's file and of its lists are those of verifying it, and of asking it for a reply
pub mod MadeFaults  -- the certificate that is kept, and the faults of reading a file, of making and of keeping it, are those of certifying
