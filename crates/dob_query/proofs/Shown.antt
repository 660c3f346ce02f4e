-- The faults of asking a file and of keeping a picture are those of showing, and by the file of a value table a drawing is right.
use Rattle.dob_query.proofs.Common.{AreRightShowLines, AreShowLines, Ending, ProgramFault, Files, HasValueFile}
use Rattle.dob_query.proofs.Common.{IsAskingFault, IsDrawingFault, IsShelfFault, IsShowFault, IsTextOf, List, Option, Profile, SameFiles, Setup, ShelfChange}
use Rattle.dob_query.proofs.Common.{drawn_line}
use Rattle.dob_query.proofs.Common.{ShelfState, Some, arith, inr, others_kept, refl, ℕ}
use Rattle.std.specs.Prelude.{None}
use Rattle.dob_files.specs.Owed.{AnswersOwed}
use Rattle.dob_query.specs.Shows.{KeepsButPicture, show_owed}
use Rattle.dob_files.proofs.Kept.{of_shelf_fault, same_chain}
use Rattle.dob_files.proofs.TableFaults.{over_weaker}
use Rattle.dob_query.proofs.Asking.{answer_right}

-- a fault of asking the file
pub asking_draws : (Has : Files) (file : List ℕ) (position : Setup) (fault : ProgramFault) → IsAskingFault drawn_line (Has file) position fault
    → IsDrawingFault Has (Some file) position fault
asking_draws Has file position fault holds = grind arith

module _ (c : ShelfChange) (file : Option (List ℕ)) (words : List ℕ) (position : Setup) (named : IsTextOf words position) where
  -- drawing the position fails, and then no picture is made
  pub drawing_shows : (picture : Option (List ℕ)) (fault : ProgramFault) → IsDrawingFault c.before.has file position fault → SameFiles c.before.has c.after.has
      → IsShowFault c file picture words fault
  drawing_shows picture fault holds same = grind (arith, named, holds, same)

  -- the file of the picture isn't kept
  pub picture_shows : (mid : ShelfState) (name : List ℕ) (fault : ProgramFault) → SameFiles c.before.has mid.has → IsShelfFault fault
      → SameFiles mid.has c.after.has
      → IsShowFault c file (Some name) words fault
  picture_shows mid name fault same holds still =
      let kept = same_chain c.before.has mid.has c.after.has same still in
      of_shelf_fault (IsShowFault c file (Some name) words) kept (position, named, inr refl, kept) fault holds

-- no file is kept, so none but the picture's
pub none_kept : (picture : Option (List ℕ)) (Old New : Files) → SameFiles Old New → KeepsButPicture picture Old New
none_kept None Old New same = same
none_kept (Some name) Old New same = others_kept name Old New same

-- ---- by the file of a value table
pub show_right : (file picture : Option (List ℕ)) (words : List ℕ) (c : ShelfChange) (e : Ending) → AnswersOwed (show_owed file picture words) c e
    → (show_owed file picture words).right c e
show_right None picture words c e answers = tt
show_right (Some file) picture words c e answers = λ profile right.
    over_weaker c (AreShowLines c (Some file) picture words) (AreRightShowLines c profile picture words) (IsShowFault c (Some file) picture words) e
    (λ lines told. record {
      position = told.position;
      named = told.named;
      drawn = answer_right (c.before.has file) profile right told.position drawn_line lines told.drawn;
      kept = told.kept;
    })
    answers
