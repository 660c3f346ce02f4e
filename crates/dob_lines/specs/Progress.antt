-- How far some work is, and how a line says that.
use Rattle.std.specs.Prelude.{◌==◌, ◌+◌, ◌-◌, ◌*◌, ◌/◌, ℕ, List, [], ◌++◌, Option, None, Some, codes, if◌then◌else◌, max, min}
use Rattle.std.specs.Fmt.{decimal}
use Rattle.dob_lines.specs.declared.progress.Line.{Line}

-- how much of all is done, in whole percent: 99 at most, since what is done isn't over yet
abbrev pub percent : ℕ → ℕ → ℕ
percent done all = min 99 (100 * done / max 1 all)

-- the seconds that are left after so many, by the speed so far, once a whole percent is done
abbrev pub seconds_left : ℕ → ℕ → ℕ → Option ℕ
seconds_left seconds done all = if percent done all == 0 then None else Some (seconds * (all - done) / done)

-- what the line of a moment has
abbrev pub line_at : ℕ → ℕ → ℕ → Line
line_at seconds done all = record { seconds = seconds; percent = percent done all; left = seconds_left seconds done all }

-- the line: `12 s, 34 %, 23 s left`
abbrev pub left_text : Option ℕ → List ℕ
left_text None = []
left_text (Some left) = codes ", " ++ (decimal left ++ codes " s left")

abbrev pub line_text : Line → List ℕ
line_text line = decimal line.seconds ++ (codes " s, " ++ (decimal line.percent ++ (codes " %" ++ left_text line.left)))

-- the megabytes that a build of so many classes takes, 9 bytes for each, rounded up
abbrev pub megabytes : ℕ → ℕ
megabytes classes = (9 * classes + 999999) / 1000000
