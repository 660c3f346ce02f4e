-- Where writing stops in a whole that goes in part after part.
use Rattle.dob_dbfile.proofs.Common.{◌++◌, ◌+◌, ◌∙◌, ◌≡◌, ◌≤◌, List, [], ap, append-nil, arith, drop, length, refl, sym, take, take-add, ℕ, drop_at}
use Rattle.dob_dbfile.proofs.Common.{length-append, take-append-le, take_at, SinkState, StopsAfter, Writes, change}
use Rattle.std.proofs.KnownBytes.{Appends-trans, Keeps-trans}
use Rattle.dob_device.specs.declared.device.FailedAfter.{FailedAfter}
use Rattle.dob_dbfile.specs.Writing.{StopsPast}

-- the front of a whole that ends in a piece
front_is : (xs ys rest whole : List ℕ) (count : ℕ) → whole ≡ xs ++ (ys ++ rest) → count ≤ length ys
    → take (length xs + count) whole ≡ xs ++ take count ys
front_is xs ys rest whole count is within =
    ap (take (length xs + count)) is
    ∙ take-add (length xs) count (xs ++ (ys ++ rest))
    ∙ ap (λ (front : List ℕ). front ++ take count (drop (length xs) (xs ++ (ys ++ rest)))) (take_at xs (ys ++ rest) (length xs) refl)
    ∙ ap (λ (back : List ℕ). xs ++ take count back) (drop_at xs (ys ++ rest) (length xs) refl)
    ∙ ap (λ (back : List ℕ). xs ++ back) (take-append-le count ys rest within)

-- one piece, and then a part of another one: a part of the whole
pub stops_past : (a b c : SinkState) (base before : ℕ) (xs ys rest whole : List ℕ) (failed : FailedAfter) → Writes (change a b) xs → length xs ≡ before
    → whole ≡ xs ++ (ys ++ rest) → StopsPast (change b c) (base + before) ys failed → StopsPast (change a c) base whole failed
stops_past a b c base before xs ys rest whole failed first long is stops =
    let count : ℕ = stops.0 in
    let part : StopsAfter (change b c) ys count = stops.2 in
    let le : count ≤ length ys = part.within in
    let all : length whole ≡ length xs + length (ys ++ rest) = ap length is ∙ length-append xs (ys ++ rest) in
    let behind : length (ys ++ rest) ≡ length ys + length rest = length-append ys rest in (
      length xs + count,
      omega (arith, stops.1, long),
      record {
        within = omega (arith, le, all, behind);
        part = rw (front_is xs ys rest whole count is le)
            (Appends-trans a.received b.received c.received xs (take count ys) first.all part.part);
        unflushed = Keeps-trans a.flushes b.flushes c.flushes first.unflushed part.unflushed;
        fails = part.fails;
        same = part.same ∙ first.same;
      },
    )

-- the same of the last piece
pub stops_last : (a b c : SinkState) (before : ℕ) (xs ys whole : List ℕ) (failed : FailedAfter) → Writes (change a b) xs → length xs ≡ before
    → whole ≡ xs ++ ys → StopsPast (change b c) before ys failed → StopsPast (change a c) 0 whole failed
stops_last a b c before xs ys whole failed first long is stops =
    stops_past a b c 0 before xs ys [] whole failed first long (is ∙ ap (λ (last : List ℕ). xs ++ last) (sym (append-nil ys)))
    (stops.0, omega (arith, stops.1), stops.2)
