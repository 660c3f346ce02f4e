-- A room that fills with the bytes of a stream, and a stream that is cut.
use Rattle.dob_device.proofs.Common.{◌++◌, ◌+◌, ◌-◌, ◌∙◌, ◌≡◌, ◌≤◌, Bool, List, ap, arith, drop, false, length, length-drop, length-take-le, refl, sym, take}
use Rattle.dob_device.proofs.Common.{take-add, true, ℕ, drop-drop, drop-take, take-append-le, GivesFirst, Stream, after, post_of, put_mid}
use Rattle.std.proofs.Common.{drop_at, le_refl, nat_lt}
use Rattle.std.proofs.lemmas.Slice.{take-put_mid_below}
use Rattle.dob_device.specs.Memory.{cut}

-- ---- a room that fills with the bytes of a stream, piece by piece

-- the front of a room, a piece more of which was written
take_more : (done count k : ℕ) (room part : List ℕ) → done ≤ length room → count ≤ length part
    → take (done + count) (put_mid done k room part) ≡ take done room ++ take count part
take_more done count k room part inside fits =
    let rest = post_of done k room in
    take-add done count (put_mid done k room part)
    ∙ ap (λ (front : List ℕ). front ++ take count (drop done (put_mid done k room part))) (take-put_mid_below done k room part done (le_refl done) inside)
    ∙ ap (λ (back : List ℕ). take done room ++ take count back) (drop_at (take done room) (part ++ rest) done (length-take-le done room inside))
    ∙ ap (λ (back : List ℕ). take done room ++ back) (take-append-le count part rest fits)

-- a piece more of the stream has come
pub filled_more : (stream : Stream) (done count k : ℕ) (room part : List ℕ) → done ≤ length room → count ≤ length part
    → done ≤ length stream.bytes → take done room ≡ take done stream.bytes → GivesFirst (after done stream) count part
    → (done + count ≤ length stream.bytes) × (take (done + count) (put_mid done k room part) ≡ take (done + count) stream.bytes)
filled_more stream done count k room part inside fits there same gave = (
  omega (arith, gave.within, length-drop done stream.bytes),
  take_more done count k room part inside fits
      ∙ ap (λ (front : List ℕ). front ++ take count part) same
      ∙ ap (λ (back : List ℕ). take done stream.bytes ++ back) gave.same
      ∙ sym (take-add done count stream.bytes),
)

-- what comes after two pieces
pub after-after : (stream : Stream) (a b : ℕ) → after b (after a stream) ≡ after (a + b) stream
after-after stream a b = rw (drop-drop b a stream.bytes) refl

-- ---- a stream that is cut where it has so many bytes

-- the bytes before the cut, kept as a front of all of them
pub cut-front : (count start : ℕ) (bytes : List ℕ) (fails : Bool) → count ≤ length bytes - start
    → let old : Stream = record { bytes = drop start bytes; fails = fails } in
    let new : Stream = record { bytes = drop start (take (start + count) bytes); fails = true } in
    new ≡ cut count old
cut-front count start bytes fails within =
    let enough : nat_lt (length (drop start bytes)) count ≡ false = grind (arith, within, length-drop start bytes) in
    rw (drop-take start count bytes, enough) refl
