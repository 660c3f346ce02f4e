-- The numbers of profiles, which are those of dob_pieces.
pub use Rattle.dob_pieces.specs.Profiles.{profile_number}
