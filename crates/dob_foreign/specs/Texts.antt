-- Texts as other languages see them.
use Rattle.std.specs.Prelude.{◌≡◌, ℕ, ◌≤◌, List, take, length}
use Rattle.dob_pieces.specs.declared.hand.Hand.{Hand}
use Rattle.dob_foreign.specs.declared.texts.DobutsuText.{DobutsuText}

-- its first bytes are these
pub record IsText (text : DobutsuText) (bytes : List ℕ) : Type 0 where
  pub size : text.length ≡ length bytes
  pub front : take (length bytes) text.bytes ≡ bytes

-- at most two of each kind are in the hand
pub record AreFew (hand : Hand) : Type 0 where
  pub chicks : hand.chicks ≤ 2
  pub elephants : hand.elephants ≤ 2
  pub giraffes : hand.giraffes ≤ 2
