-- The mirror image of a position is legal.
use Rattle.dob_pieces.proofs.Common.{subst, sym, IsLegal}
use Rattle.dob_pieces.proofs.Boards.{IsLegal-mirrored}
use Rattle.dob_pieces.proofs.position.Position.mirrored.Goals as goal

pub new-requires : goal.new-requires
new-requires c =
    subst IsLegal (sym c.mirrored.ensures) (IsLegal-mirrored c.args.self.now.setup c.args.self.now.legal)
