-- What the header of a file says, as other languages see it.
use Rattle.std.specs.Prelude.{ℕ}
use Rattle.dob_pieces.specs.declared.profile.Family.{Family}
use Rattle.dob_rank.specs.Families.{classes_of}
use Rattle.dob_dbfile.specs.declared.header.Format.{Format}
use Rattle.dob_dbfile.specs.Faults.{header_len}
use Rattle.dob_foreign.specs.Profiles.{profile_number}
use Rattle.dob_foreign.specs.declared.headers.DobutsuHeader.{DobutsuHeader}

abbrev pub shown_header : Format → Family → DobutsuHeader
shown_header format family = record {
  classes = classes_of family;
  first = header_len format;
  chicks = family.set.chicks;
  elephants = family.set.elephants;
  giraffes = family.set.giraffes;
  profile = profile_number family.profile;
}
