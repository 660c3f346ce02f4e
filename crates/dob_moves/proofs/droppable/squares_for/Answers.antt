-- In profile B a chick may be dropped below row 4, and any other piece anywhere.
use Rattle.dob_moves.proofs.Common.{◌==◌, refl, true, ℕ, A, B, may_put, row}
use Rattle.dob_pieces.specs.declared.kind.HandKind.TheVariants.{Elephant, Giraffe}
use Rattle.dob_pieces.proofs.Targets.{is_mask}
use Rattle.dob_moves.proofs.droppable.squares_for.Goals as goal

pub returns-in-A-default : goal.returns-in-A-default
returns-in-A-default c = rw c.in-A-default.is-0 (is_mask (may_put A c.args.kind) 4095 refl)

pub returns-in-B-Chick : goal.returns-in-B-Chick
returns-in-B-Chick c =
    rw (c.in-B-Chick.is-0, c.in-B-Chick.is-1)
    (c.but_not.ensures (λ (s : ℕ). true) (λ (s : ℕ). row s == 3) (is_mask (λ s. true) 4095 refl) (is_mask (λ s. row s == 3) 3584 refl))

pub returns-in-B-Elephant : goal.returns-in-B-Elephant
returns-in-B-Elephant c = rw (c.in-B-Elephant.is-0, c.in-B-Elephant.is-1) (is_mask (may_put B Elephant) 4095 refl)

pub returns-in-B-Giraffe : goal.returns-in-B-Giraffe
returns-in-B-Giraffe c = rw (c.in-B-Giraffe.is-0, c.in-B-Giraffe.is-1) (is_mask (may_put B Giraffe) 4095 refl)
