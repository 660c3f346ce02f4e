-- The statuses of one owner's classes as bits, 64 classes in a word, and the open classes numbered among themselves.
use Rattle.std.specs.Prelude.{◌≡◌, ℕ, zero, suc, ◌+◌, ◌*◌, ◌/◌, ◌%◌, ◌^◌, ◌<◌, List, length, slice_index_or, cond, nat_lt}
use Rattle.dob_moves.specs.declared.position_status.Status.{Status}
use Rattle.dob_moves.specs.declared.position_status.Status.TheVariants.{Caught, Tried, Stuck, Open}
use Rattle.dob_share.specs.declared.opening.Opening.{Opening}
use Rattle.dob_share.specs.declared.statuses.StatusWord.{StatusWord}
use Rattle.dob_share.specs.Openings.{opening_of}
use Rattle.dob_share.specs.Owners.{class_of_place}

-- the bit at a place
abbrev pub bit : ℕ → ℕ → ℕ
bit word place = word / 2 ^ place % 2

-- how many are set at that many first places
abbrev pub bits_below : ℕ → ℕ → ℕ
bits_below word zero = 0
bits_below word (suc place) = bits_below word place + bit word place

-- one for an open class
abbrev pub opens : Status → ℕ
opens Open = 1
opens _ = 0

-- one for a class that is caught
abbrev pub catches : Status → ℕ
catches Caught = 1
catches _ = 0

-- one for a class that is tried
abbrev pub tries : Status → ℕ
tries Tried = 1
tries _ = 0

-- the status by these three
abbrev pub status_of_bits : ℕ → ℕ → ℕ → Status
status_of_bits (suc _) caught tried = Open
status_of_bits zero (suc _) tried = Caught
status_of_bits zero zero (suc _) = Tried
status_of_bits zero zero zero = Stuck

-- the word says that the class at that place of it has that status
pub record IsStatusOf (word : StatusWord) (place : ℕ) (status : Status) : Type 0 where
  pub opens_is : bit word.opens place ≡ opens status
  pub caught_is : bit word.caught place ≡ catches status
  pub tried_is : bit word.tried place ≡ tries status

-- the statuses of one owner's classes: how many classes there are, and the words that say what each is
pub record StatusesView : Type 0 where
  pub places : ℕ
  pub words : List StatusWord

-- what is listed as the status of the class at a place of an owner's; stuck where the owner has none
abbrev pub status_listed : List Opening → ℕ → ℕ → ℕ → ℕ → Status
status_listed openings places n id place = cond (nat_lt place places) (opening_of openings (class_of_place n id place)).status Stuck

-- what stands where no word is
abbrev pub no_word : StatusWord
no_word = record { opens = 0; caught = 0; tried = 0; before = 0 }

-- the word that has a place
abbrev pub word_of : List StatusWord → ℕ → StatusWord
word_of words place = slice_index_or words (place / 64) no_word

-- one where the class at a place is open, else nought
abbrev pub open_at : List StatusWord → ℕ → ℕ
open_at words place = bit (word_of words place).opens (place % 64)

-- the status of the class at a place
abbrev pub status_in : List StatusWord → ℕ → Status
status_in words place = status_of_bits (open_at words place) (bit (word_of words place).caught (place % 64)) (bit (word_of words place).tried (place % 64))

-- how many classes are open at that many first places, which is the number of the cell of the next that is
abbrev pub opens_below : List StatusWord → ℕ → ℕ
opens_below words zero = 0
opens_below words (suc place) = opens_below words place + open_at words place

-- each word says how many are open before it
abbrev pub AreCounted : List StatusWord → Type 0
AreCounted words = (w : ℕ) → w < length words → (slice_index_or words w no_word).before ≡ opens_below words (w * 64)
