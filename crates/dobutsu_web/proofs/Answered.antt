-- What the two lists of a certificate show of a position.
use Rattle.dobutsu_web.proofs.Common.{List, Family, Setup, Prove, Show, Claim, Entry, AreProof, SupportsAll}
use Rattle.dob_certificate.specs.declared.list_kind.ListKind.TheVariants.{Lost, Held}
use Rattle.dob_certificate.proofs.Exact.{proved_claim}

pub proof_of : (family : Family) (lost held : List Entry) (p : Setup) (claim : Claim) → SupportsAll Lost family lost → SupportsAll Held family held →
    Show family lost held p claim → AreProof family lost held p claim
proof_of family lost held p claim lost_supported held_supported shown =
    let proof : Prove family lost held p claim = record { lost_supported = lost_supported; held_supported = held_supported; shown = shown } in
    record { proof = proof; holds = proved_claim family lost held p claim proof }
