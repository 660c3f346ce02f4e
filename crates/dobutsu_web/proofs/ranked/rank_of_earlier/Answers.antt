-- Both ranks are of one family, so that the lower one is the earlier position's.
use Rattle.dobutsu_web.proofs.Common.{IsPositionOf, IsPositionOf-mirrored}
use Rattle.dob_classes.proofs.OfFamilies.FamilyRepresentatives.{image_first, itself_first}
use Rattle.dobutsu_web.proofs.ranked.rank_of_earlier.Goals as goal
use Rattle.dobutsu_web.proofs.ranked.rank_of_earlier.Goals.{After-mirrored-image}

-- the mirror image is of the family
image_is : (c : After-mirrored-image) → IsPositionOf c.args.family c.mirrored-image.result.setup
image_is c = rw c.mirrored-image.ensures (IsPositionOf-mirrored c.args.family c.args.position.now.setup c.requires)

pub rank-other-requires : goal.rank-other-requires
rank-other-requires c = (image_is (goal.at.rank-other-requires c).After-mirrored-image).allowed

pub returns-then-other-own : goal.returns-then-other-own
returns-then-other-own c =
    let is = image_is (goal.at.returns-then-other-own c).After-mirrored-image in (
      c.mirrored-image.result.setup,
      image_first c.args.family.profile c.args.position.now.setup c.mirrored-image.result.setup c.args.position.now.legal c.rank-other.result c.rank-own.result
          c.mirrored-image.ensures c.requires.allowed is.allowed c.rank-other.ensures.number c.rank-own.ensures.number c.if-other-own.true,
      is,
      c.rank-other.ensures.number c.args.family.set is.of_set,
    )

pub returns-else-other-own : goal.returns-else-other-own
returns-else-other-own c =
    let is = image_is (goal.at.returns-else-other-own c).After-mirrored-image in (
      c.args.position.now.setup,
      itself_first c.args.family.profile c.args.position.now.setup c.mirrored-image.result.setup c.args.position.now.legal c.rank-other.result c.rank-own.result
          c.mirrored-image.ensures c.requires.allowed is.allowed c.rank-other.ensures.number c.rank-own.ensures.number c.if-other-own.false,
      c.requires,
      c.rank-own.ensures.number c.args.family.set c.requires.of_set,
    )
