-- by the layer
use Rattle.dob_classes.proofs.Common.{◌<◌, ◌≡◌, arith, subst, sym, ℕ, Side, base_of, cell_of, order, Chicks, Elephants, Empty, EnemyLion, Giraffes, OwnLion}
use Rattle.dob_pieces.specs.Boards.{entry}
use Rattle.dob_rank.specs.declared.layers.Layer.{Layer}
use Rattle.dob_classes.specs.Views.{seen_cell}
use Rattle.dob_classes.proofs.BitPlaced.{lion_entry, chick_entry, other_entry, no_entry}
use Rattle.dob_classes.proofs.bits.bit_placing.entry.Goals as goal

-- what a piece of the layer that its layer is adds
of_layer : (side : Side) (layer is : Layer) (form sum : ℕ) → layer ≡ is → form < base_of (order layer)
    → (form < base_of (order is) → sum ≡ entry (seen_cell side (cell_of (order is) form))) → sum ≡ entry (seen_cell side (cell_of (order layer) form))
of_layer side layer is form sum same =
    subst (λ (layer : Layer). form < base_of (order layer) → (form < base_of (order is) → sum ≡ entry (seen_cell side (cell_of (order is) form)))
    → sum ≡ entry (seen_cell side (cell_of (order layer) form))) (sym same) (λ low e. e low)

pub returns-in-OwnLion : goal.returns-in-OwnLion
returns-in-OwnLion c = of_layer c.args.side c.args.layer OwnLion c.args.form _ c.in-OwnLion.is c.requires
    (λ low. rw c.seen_owner.ensures.value (lion_entry c.args.side 0 (omega arith)))

pub returns-in-EnemyLion : goal.returns-in-EnemyLion
returns-in-EnemyLion c = of_layer c.args.side c.args.layer EnemyLion c.args.form _ c.in-EnemyLion.is c.requires
    (λ low. rw c.seen_owner-in-EnemyLion.ensures.value (lion_entry c.args.side 1 (omega arith)))

pub returns-in-Chicks : goal.returns-in-Chicks
returns-in-Chicks c = of_layer c.args.side c.args.layer Chicks c.args.form _ c.in-Chicks.is c.requires
    (λ low. rw c.seen_owner-in-Chicks.ensures.value (chick_entry c.args.side c.args.form low))

pub returns-in-Elephants : goal.returns-in-Elephants
returns-in-Elephants c = of_layer c.args.side c.args.layer Elephants c.args.form _ c.in-Elephants.is c.requires
    (λ low. rw c.seen_owner-in-Elephants.ensures.value (other_entry c.args.side c.args.form low).0)

pub returns-in-Giraffes : goal.returns-in-Giraffes
returns-in-Giraffes c = of_layer c.args.side c.args.layer Giraffes c.args.form _ c.in-Giraffes.is c.requires
    (λ low. rw c.seen_owner-in-Giraffes.ensures.value (other_entry c.args.side c.args.form low).1)

pub returns-in-Empty : goal.returns-in-Empty
returns-in-Empty c = of_layer c.args.side c.args.layer Empty c.args.form _ c.in-Empty.is c.requires (λ low. no_entry c.args.side c.args.form)
