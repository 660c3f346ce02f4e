-- The first line of bytes, by the place of their first line feed, and in pieces.
use Rattle.std.proofs.Common.{◌≡◌, ◌∙◌, ◌+◌, ◌<◌, ◌∷◌, ◌++◌, ◌==◌, ℕ, Bool, List, None, Option, Some, [], append_assoc, arith, ap, drop, false, get_or, length, refl, subst, suc, sym, take, true}
use Rattle.std.specs.Prelude.{cond, not}
use Rattle.std.specs.List.{position, position_or_len, slice_split}
use Rattle.std.specs.Str.Lines.{lines, lines_of_parts, strip_carriage_return}
use Rattle.std.proofs.lemmas.Bool.Decides.{nat_tests}
use Rattle.std.proofs.lemmas.List.Quantifiers.{position-Some}
use Rattle.std.proofs.Math.Seq.{split_at}
use Rattle.std.proofs.lemmas.List.{get_or-take, length-take-le, nil_from_length}
use Rattle.std.proofs.lemmas.List.Elements.{All-append}
use Rattle.std.proofs.lemmas.List.Splits.{length-slice_split, slice_split_at, slice_split_first, slice_split_none}
use Rattle.std.proofs.lemmas.List.Sums.{fails_before_first, position_or_len_is, prefix_len-le-length}
use Rattle.dob_shelf.specs.Shelves.{LacksEnd, TakesLine, TakesRead}

abbrev is_end : ℕ → Bool
is_end b = b == 10

-- a part before others is a line
part_line : (x : List ℕ) (parts : List (List ℕ)) → 0 < length parts → lines_of_parts (x ∷ parts) ≡ strip_carriage_return x ∷ lines_of_parts parts
part_line x [] some = absurd (omega (arith, some))
part_line x (y ∷ more) some = refl

-- the bytes before the first line feed, and the lines behind it
pub line_found : (bytes rest : List ℕ) (end : ℕ) → Some end ≡ position is_end bytes → rest ≡ drop (end + 1) bytes
    → lines bytes ≡ strip_carriage_return (take end bytes) ∷ lines rest
line_found bytes rest end found is =
    let at = position-Some is_end bytes end 0 (sym found) in
    let place : position_or_len is_end bytes ≡ end = position_or_len_is is_end bytes end 0 (omega (arith, at.0)) at.2 (λ _. at.1) in
    let cut = slice_split_first is_end bytes 0 (subst (λ (n : ℕ). n < length bytes) (sym place) at.0) in
    ap lines_of_parts (subst (λ (n : ℕ). slice_split is_end bytes ≡ take n bytes ∷ slice_split is_end (drop (n + 1) bytes)) place cut)
    ∙ part_line (take end bytes) (slice_split is_end (drop (end + 1) bytes)) (omega (arith, length-slice_split is_end (drop (end + 1) bytes)))
    ∙ ap (λ (l : List ℕ). strip_carriage_return (take end bytes) ∷ lines l) (sym is)

-- with no line feed there is no end of a line
pub lacks_end : (bytes : List ℕ) → None ≡ position is_end bytes → LacksEnd bytes
lacks_end bytes none =
    let whole : length bytes ≡ position_or_len is_end bytes = let fits = prefix_len-le-length (λ b. not (is_end b)) bytes in grind (arith, nat_tests) in
    λ k d within. fails_before_first is_end bytes k d (omega (arith, within, whole))

-- then all bytes are one line, which is the last
pub line_unended : (bytes : List ℕ) → LacksEnd bytes → false ≡ (length bytes == 0) → lines bytes ≡ bytes ∷ lines []
line_unended bytes lacks some = ap lines_of_parts (slice_split_none is_end bytes lacks) ∙ ap (λ (b : Bool). cond b [] (bytes ∷ [])) (sym some)

pub line_last : (bytes : List ℕ) → None ≡ position is_end bytes → false ≡ (length bytes == 0) → lines bytes ≡ bytes ∷ lines []
line_last bytes none some = line_unended bytes (lacks_end bytes none) some

-- ---- a line in pieces

-- bytes up to a line feed are a line
pub line_ended : (line rest : List ℕ) → LacksEnd line → lines (line ++ 10 ∷ rest) ≡ strip_carriage_return line ∷ lines rest
line_ended line rest lacks =
    ap lines_of_parts (slice_split_at is_end line 10 rest lacks refl)
    ∙ part_line line (slice_split is_end rest) (omega (arith, length-slice_split is_end rest))

-- a list up to the place of the first line feed, and behind it
pub piece_taken : (read : List ℕ) (end : ℕ) → Some end ≡ position is_end read → LacksEnd (take end read) × (read ≡ take end read ++ 10 ∷ drop (end + 1) read)
piece_taken read end found =
    let at = position-Some is_end read end 0 (sym found) in
    let feed : get_or read end 0 ≡ 10 = let yes = at.1 in grind (arith, nat_tests) in
    let long = length-take-le end read (omega (arith, at.0)) in
    let next : suc end ≡ end + 1 = omega arith in (
      λ k d within.
          let lt : k < end = omega (arith, within, long) in
          ap is_end (get_or-take end read k d lt) ∙ (position-Some is_end read end d (sym found)).2 k lt,
      split_at read end 0 at.0
          ∙ ap (λ (n : ℕ). take end read ++ get_or read end 0 ∷ drop n read) next
          ∙ ap (λ (b : ℕ). take end read ++ b ∷ drop (end + 1) read) feed,
    )

-- ---- what a source still gives, of which a line takes a piece

-- what stood between the bytes of the line and those behind
behind : (all read line rest piece left : List ℕ) → all ≡ line ++ (read ++ rest) → read ≡ piece ++ left → all ≡ (line ++ piece) ++ (left ++ rest)
behind all read line rest piece left whole is =
    whole
    ∙ ap (λ (l : List ℕ). line ++ (l ++ rest)) is
    ∙ ap (λ (l : List ℕ). line ++ l) (append_assoc piece left rest)
    ∙ sym (append_assoc line piece (left ++ rest))

-- the piece that ends the line
pub line_taken : (all read line told rest left : List ℕ) (is_whole : Bool) → LacksEnd line → all ≡ line ++ (read ++ rest) → is_whole ≡ true
    → TakesRead read is_whole line told left → TakesLine all true told (Some (left ++ rest))
line_taken all read line told rest left is_whole lacks is here takes =
    let taken : TakesRead read true line told left = subst (λ (b : Bool). TakesRead read b line told left) here takes in
    let piece : List ℕ = taken.0 in (
      left ++ rest,
      refl,
      ap lines (behind all read line rest piece (10 ∷ left) is taken.2)
          ∙ line_ended (line ++ piece) (left ++ rest) (All-append (λ b. is_end b ≡ false) line piece lacks taken.1)
          ∙ ap (λ (l : List ℕ). l ∷ lines (left ++ rest)) (sym taken.3),
    )

-- all that was read, in which the line doesn't end
pub read_taken : (all read line more rest left : List ℕ) (is_whole : Bool) → LacksEnd line → all ≡ line ++ (read ++ rest) → is_whole ≡ false
    → TakesRead read is_whole line more left → LacksEnd more × (all ≡ more ++ rest)
read_taken all read line more rest left is_whole lacks is never takes =
    let taken : TakesRead read false line more left = subst (λ (b : Bool). TakesRead read b line more left) never takes in (
      subst LacksEnd (sym taken.1) (All-append (λ b. is_end b ≡ false) line read lacks taken.0),
      is ∙ sym (append_assoc line read rest) ∙ ap (λ (l : List ℕ). l ++ rest) (sym taken.1),
    )

-- and at the end of the source the line is the last, if it has any byte
pub rest_taken : (all line : List ℕ) (left : Option (List ℕ)) (is_empty : Bool) → LacksEnd line → all ≡ line → left ≡ Some []
    → is_empty ≡ (length line == 0) → TakesLine all (not is_empty) line left
rest_taken all line left true lacks is none empty =
    let long : length line ≡ 0 = grind (arith, nat_tests) in (is ∙ nil_from_length line long, none)
rest_taken all line left false lacks is none empty = ([], none, ap lines is ∙ line_unended line lacks empty)
