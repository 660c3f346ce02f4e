-- A position that is its own mirror image has its lions on column b.
use Rattle.dob_unmove.proofs.Common.{◌∙◌, ap, refl, sym, true≢false, turned-mirrored, mirrored, turned}
use Rattle.dob_unmove.proofs.Common.{IsPositionOf-mirrored, IsShown, RepresentsClass}
use Rattle.dob_rank.specs.Families.{class_setup}
use Rattle.dob_unmove.proofs.Classes.{IsNumbering-classes, first_of_two}
use Rattle.dob_unmove.proofs.Edges.{RepresentsClass-class_setup, class_seen}
use Rattle.dob_unmove.proofs.Gathering.{own_image}
use Rattle.dob_unmove.proofs.Kept.{legal_turned}
use Rattle.dob_unmove.proofs.Undone.{turned_lions}
use Rattle.dob_unmove.proofs.predecessors.is_own_image.Goals as goal
use Rattle.dob_unmove.proofs.predecessors.is_own_image.Goals.{After-mirrored-image}

-- the sets show the image
image_shown : (c : After-mirrored-image) → IsShown c.args.classes.now.family (mirrored (class_setup c.args.classes.now.family c.args.class)) c.mirrored-image.result
image_shown c =
    let family = c.args.classes.now.family in
    let q = class_setup family c.args.class in
    record {
      position = IsPositionOf-mirrored family q (RepresentsClass-class_setup family c.args.class c.requires.class).0.0;
      squares = c.mirrored-image.ensures q c.board_at.ensures;
    }

pub class_if_representative-requires : goal.class_if_representative-requires
class_if_representative-requires c =
    (mirrored (class_setup c.args.classes.now.family c.args.class), image_shown (goal.at.class_if_representative-requires c).After-mirrored-image)

pub returns-then-has_lions_on_b : goal.returns-then-has_lions_on_b
returns-then-has_lions_on_b c =
    let family = c.args.classes.now.family in
    let q = class_setup family c.args.class in
    let is = RepresentsClass-class_setup family c.args.class c.requires.class in
    let image = image_shown (goal.at.returns-then-has_lions_on_b c).After-mirrored-image in
    let told = own_image (RepresentsClass family) q (mirrored q) c.class_if_representative.result (IsNumbering-classes family) (c.args.class, is) refl
    (first_of_two family (mirrored q) _ image.position (c.class_if_representative.ensures.class (mirrored q) image)) in
    (λ some. told.0 (sym c.is_some.ensures ∙ some), λ own. c.is_some.ensures ∙ told.1 own)

pub returns : goal.returns
returns c = (
  λ no_truth. absurd (true≢false (sym no_truth)),
  λ own.
      let q = class_setup c.args.classes.now.family c.args.class in
      let seen = class_seen c.args.classes.now.family c.args.class c.requires.class in
      let on_b = c.has_lions_on_b.ensures (turned q) (turned_lions (turned q) (legal_turned c.args.classes.now.family (turned q) seen)) c.requires.ways.board_is
      (sym (turned-mirrored q) ∙ ap turned own) in
      absurd (true≢false (sym on_b ∙ c.if-has_lions_on_b.false)),
)
