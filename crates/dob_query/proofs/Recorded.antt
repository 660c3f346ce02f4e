-- A position has one record.
use Rattle.dob_query.proofs.Common.{◌≡◌, subst, ℕ, Family, Setup, IsPositionOf, Value, one_record, Stream, HasRecord, Format, IsRecorded}
use Rattle.dob_classes.proofs.OfFamilies.FamilyRepresentatives.{one_class}

pub one_recorded : (stream : Stream) (format : Format) (family : Family) (p : Setup) (v w : Value) → IsPositionOf family p
    → IsRecorded stream format family p v → IsRecorded stream format family p w → v ≡ w
one_recorded stream format family p v w is a b =
    let one : a.class ≡ b.class = one_class family p a.class b.class a.number b.number in
    one_record stream format b.class v w (subst (λ (class : ℕ). HasRecord stream format class v) one a.says) b.says
