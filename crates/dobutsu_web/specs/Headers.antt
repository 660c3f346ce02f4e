-- What a file says of itself, as other languages see it.
use Rattle.std.specs.Prelude.{◌≡◌, ℕ, List}
use Rattle.dob_pieces.specs.declared.profile.Family.{Family}
use Rattle.dob_dbfile.specs.declared.fault.Fault.{Fault}
use Rattle.dob_dbfile.specs.declared.header.Format.{Format}
use Rattle.dob_device.specs.Devices.{whole}
use Rattle.dob_dbfile.specs.Faults.{HasReadFault, IsNoLonger}
use Rattle.dob_dbfile.specs.Fronts.{IsFrontOf}
use Rattle.dob_foreign.specs.Faults.{file_number}
use Rattle.dob_foreign.specs.Headers.{shown_header}
use Rattle.dob_foreign.specs.declared.headers.DobutsuHeader.{DobutsuHeader}

-- the format and the family of each file of so many bytes that begins so, which has as many bytes as files of that family
abbrev pub IsToldHeader : List ℕ → ℕ → DobutsuHeader → Type 0
IsToldHeader front size header = (format : Format) × (family : Family) × (header ≡ shown_header format family)
    × ((file : List ℕ) → IsFrontOf front size file → IsNoLonger format family (whole file))

-- the fault of each file of so many bytes that begins so
abbrev pub IsNoFile : List ℕ → ℕ → ℕ → Type 0
IsNoFile front size answer = (fault : Fault) × (answer ≡ file_number fault) × ((file : List ℕ) → IsFrontOf front size file → HasReadFault (whole file) fault)
