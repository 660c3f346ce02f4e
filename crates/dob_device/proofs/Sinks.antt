-- What sinks have received after one call and another.
use Rattle.dob_device.proofs.Common.{◌++◌, ◌+◌, ◌∙◌, ◌∷◌, ◌≡◌, ◌≤◌, List, None, Option, Some, [], ap, append_assoc, arith, drop, false, length}
use Rattle.dob_device.proofs.Common.{refl, take, take-add, true, ℕ, or-false, or_right, ◌||◌, AddsFlush}
use Rattle.dob_device.proofs.Common.{IsNotFlushed, IsSame, Puts, SinkState, SinkWorks, StopsAfter, TakesPiece, Writes, change}
use Rattle.std.proofs.KnownBytes.{Appends-nil, Appends-trans, Keeps-refl, Keeps-trans}
use Rattle.std.specs.Io.KnownBytes.{Appends, Keeps, append_known}

-- a beginning, and then the beginning of the rest
pub Appends-take : (a b c : Option (List ℕ)) (xs : List ℕ) (k n : ℕ) → Appends a b (take k xs) → Appends b c (take n (drop k xs))
    → Appends a c (take (k + n) xs)
Appends-take a b c xs k n p q = let joined = Appends-trans a b c (take k xs) (take n (drop k xs)) p q in rw (take-add k n xs) joined

-- bytes after what is kept
pub Keeps-Appends : (a b c : Option (List ℕ)) (xs : List ℕ) → Keeps a b → Appends b c xs → Appends a c xs
Keeps-Appends None b c xs p q = tt
Keeps-Appends (Some a) None c xs p q = absurd p
Keeps-Appends (Some a) (Some b) None xs p q = absurd q
Keeps-Appends (Some a) (Some b) (Some c) xs p q = q ∙ ap (λ l. l ++ xs) p

-- a call that doesn't fail after others that didn't
pub works_on : (a b c : SinkState) → SinkWorks (change a b) → c.has_failed ≡ (b.has_failed || false) → SinkWorks (change a c)
works_on a b c works notes = notes ∙ or-false b.has_failed ∙ works

-- a part of the bytes, and then a call that fails
pub stops_after : (a b c : SinkState) (bytes : List ℕ) (count : ℕ) → count ≤ length bytes → TakesPiece (change a b) (take count bytes) → IsNotFlushed (change a b)
    → IsSame (change a b) → Keeps b.received c.received → Keeps b.flushes c.flushes → c.writer ≡ b.writer → c.has_failed ≡ (b.has_failed || true)
    → StopsAfter (change a c) bytes count
stops_after a b c bytes count within part unflushed same kept flushes again notes = grind (arith, or_right)

-- ---- pieces, one after the other

-- nothing was written
pub writes_none : (a : SinkState) → Writes (change a a) []
writes_none a = record { all = Appends-nil a.received; unflushed = Keeps-refl a.flushes; works = refl; same = refl }

-- one piece, and then another one
pub writes_more : (a b c : SinkState) (xs ys : List ℕ) → Writes (change a b) xs → Writes (change b c) ys → Writes (change a c) (xs ++ ys)
writes_more a b c xs ys first second = record {
  all = Appends-trans a.received b.received c.received xs ys first.all second.all;
  unflushed = Keeps-trans a.flushes b.flushes c.flushes first.unflushed second.unflushed;
  works = second.works ∙ first.works;
  same = second.same ∙ first.same;
}

-- the flush after a piece more
flushed_later : (a b f g h : Option (List ℕ)) (xs ys : List ℕ) → Appends a b xs → Keeps f g → AddsFlush (append_known b ys) g h
    → AddsFlush (append_known a (xs ++ ys)) f h
flushed_later None b f g h xs ys p kept adds = λ bytes is. absurd (cc)
flushed_later (Some a) None f g h xs ys p kept adds = absurd p
flushed_later (Some a) (Some b) f g h xs ys p kept adds = λ bytes is.
    Keeps-Appends f g h (length bytes ∷ []) kept (adds bytes (ap (λ l. Some (l ++ ys)) p ∙ ap Some (append_assoc a xs ys) ∙ is))

-- one piece, and then the last one with a flush
pub puts_more : (a b c : SinkState) (xs ys : List ℕ) → Writes (change a b) xs → Puts (change b c) ys → Puts (change a c) (xs ++ ys)
puts_more a b c xs ys first second = record {
  all = Appends-trans a.received b.received c.received xs ys first.all second.all;
  flushed = flushed_later a.received b.received a.flushes b.flushes c.flushes xs ys first.all first.unflushed second.flushed;
  works = second.works ∙ first.works;
  same = second.same ∙ first.same;
}
