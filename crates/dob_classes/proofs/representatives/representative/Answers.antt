-- Both ranks are of one family, so that the lower one is the earlier position's.
use Rattle.dob_classes.proofs.Common.{subst, sym, IsAllowed-mirrored, IsAllowed}
use Rattle.dob_classes.proofs.OfFamilies.FamilyRepresentatives.{image_first, itself_first}
use Rattle.dob_classes.proofs.representatives.representative.Goals as goal
use Rattle.dob_classes.proofs.representatives.representative.Goals.{After-mirrored-image}

allowed : (c : After-mirrored-image) → IsAllowed c.args.profile c.mirrored-image.result.setup
allowed c =
    subst (IsAllowed c.args.profile) (sym c.mirrored-image.ensures) (IsAllowed-mirrored c.args.profile c.args.position.now.setup c.args.position.now.legal.squares c.requires)

pub rank-requires : goal.rank-requires
rank-requires c = allowed (goal.at.rank-requires c).After-mirrored-image

pub returns-then-rank : goal.returns-then-rank
returns-then-rank c =
    let image = allowed (goal.at.returns-then-rank c).After-mirrored-image in
    record {
      earlier = image_first c.args.profile c.args.position.now.setup c.mirrored-image.result.setup c.args.position.now.legal c.rank.result c.rank-2.result
          c.mirrored-image.ensures c.requires image c.rank.ensures.number c.rank-2.ensures.number c.if-rank.true;
      allowed = image;
    }

pub returns-else-rank-clause-earlier : goal.returns-else-rank-clause-earlier
returns-else-rank-clause-earlier c =
    itself_first c.args.profile c.args.position.now.setup c.mirrored-image.result.setup c.args.position.now.legal c.rank.result c.rank-2.result
    c.mirrored-image.ensures c.requires (allowed (goal.at.returns-else-rank-clause-earlier c).After-mirrored-image) c.rank.ensures.number c.rank-2.ensures.number
    c.if-rank.false
