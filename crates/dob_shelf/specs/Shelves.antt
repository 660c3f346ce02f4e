-- What is known of a shelf, and how a call changes that.
use Rattle.std.specs.Prelude.{◌≡◌, ◌≢◌, ◌↔◌, ◌||◌, ◌==◌, ◌++◌, ◌∷◌, ℕ, Bool, true, false, List, [], Option, Some, option_map, String, Vec, Result, Ok, Err}
use Rattle.std.specs.List.{All}
use Rattle.std.specs.Str.Lines.{lines, strip_carriage_return}
use Rattle.std.specs.BTreeMap.{BTreeMap, get_by_text}
use Rattle.dob_shelf.specs.declared.shelf.ShelfFault.{ShelfFault}
use Rattle.dob_shelf.specs.declared.shelf.ShelfFault.TheVariants.{Memory, Failed}

-- which bytes the file of a name has, where that is known
abbrev pub Files : Type 1
Files = List ℕ → List ℕ → Type 0

-- what is known of a shelf
pub record ShelfState : Type 1 where
  -- which bytes the file of a name has
  pub has : Files
  -- whether that is known of each file
  pub tells : Bool
  -- whether some call of it has failed, or of a source or a sink that it got back
  pub has_failed : Bool
  -- the name of the file that was made last
  pub made : List ℕ
  -- the bytes that standard input still has, where they are known
  pub input : Option (List ℕ)
  -- whether the next line of standard input is at hand, so that nobody waits for it
  pub has_line : Bool

-- what was known of it, and what is known after
pub record ShelfChange : Type 1 where
  pub before : ShelfState
  pub after : ShelfState

abbrev pub shelf_change : ShelfState → ShelfState → ShelfChange
shelf_change before after = record { before = before; after = after }

-- it is so of what a call does to a shelf, of which that much is known
abbrev pub Changes : {S : Type 0} → (S → ShelfState) → S → S → (ShelfChange → Type 0) → Type 0
Changes state old new Is = Is (shelf_change (state old) (state new))

-- some call failed, just where that is true
abbrev pub FailsWhere : ShelfChange → Bool → Type 0
FailsWhere c failed = c.after.has_failed ≡ (c.before.has_failed || failed)

-- whether the shelf failed at what it was asked for, for another cause than lack of memory
abbrev pub is_failed : {X : Type 0} → Result X ShelfFault → Bool
is_failed (Ok x) = false
is_failed (Err Memory) = false
is_failed (Err Failed) = true

-- each name has what it had
abbrev pub SameFiles : Files → Files → Type 0
SameFiles Old New = (name bytes : List ℕ) → Old name bytes ↔ New name bytes

-- each other name has what it had
abbrev pub SameOthers : List ℕ → Files → Files → Type 0
SameOthers name Old New = (other bytes : List ℕ) → other ≢ name → Old other bytes ↔ New other bytes

-- The same as `Changes`, and what the names had before is kept so: by `SameFiles` all of it, by `SameOthers name` that of the other names.
abbrev pub Leaving : {S : Type 0} → (Files → Files → Type 0) → (S → ShelfState) → S → S → (ShelfChange → Type 0) → Type 0
Leaving Keeps state old new Is = Changes state old new Is × Keeps (state old).has (state new).has

-- the name has just these bytes
abbrev pub HasJust : List ℕ → List ℕ → Files → Type 0
HasJust name bytes Has = (found : List ℕ) → Has name found ↔ (found ≡ bytes)

-- the bytes that a map has under the name
abbrev pub bytes_in : {X Y : Type 0} → BTreeMap (String X) (Vec ℕ Y) → List ℕ → Option (List ℕ)
bytes_in files name = option_map (λ bytes. bytes.items) (get_by_text files name)

-- ---- lines of standard input, which are std's `lines` of its bytes

-- of these bytes the first line was taken, and those are left; or there is no line, and nothing is left
abbrev pub TakesLine : List ℕ → Bool → List ℕ → Option (List ℕ) → Type 0
TakesLine bytes true line left = (rest : List ℕ) × (left ≡ Some rest) × (lines bytes ≡ line ∷ lines rest)
TakesLine bytes false line left = (bytes ≡ []) × (left ≡ Some [])

-- none of the bytes ends a line
abbrev pub LacksEnd : List ℕ → Type 0
LacksEnd = All (λ b. (b == 10) ≡ false)

-- what was read up to the line feed came to the line, which is then whole without its end; or all of it did, where there is no line feed
abbrev pub TakesRead : List ℕ → Bool → List ℕ → List ℕ → List ℕ → Type 0
TakesRead read true old new left = (piece : List ℕ) × LacksEnd piece × (read ≡ piece ++ 10 ∷ left) × (new ≡ strip_carriage_return (old ++ piece))
TakesRead read false old new left = LacksEnd read × (new ≡ old ++ read) × (left ≡ [])
