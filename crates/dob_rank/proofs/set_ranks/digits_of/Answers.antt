-- The masks of later layers are what the earlier ones leave, and the digits are the choices of their squares and the numbers of their forms.
use Rattle.dob_rank.proofs.Common.{◌∙◌, ◌∷◌, ◌≡◌, [], ap, arith, map, slice_index, sym, ℕ, layer, order, Chicks, Elephants, EnemyLion, Giraffes, OwnLion, Setup}
use Rattle.dob_pieces.specs.declared.hand.Hands.{Hands}
use Rattle.dob_rank.proofs.Boards.BoardLayers.{AreMasks, masks_by}
use Rattle.dob_rank.proofs.Boards.BoardMasks.{AreLeft, left_are, numbers_are}
use Rattle.dob_rank.specs.BoardDigits.{ArePartsOf, HasOfLayer}
use Rattle.dob_rank.proofs.set_ranks.digits_of.Goals as goal
use Rattle.dob_rank.proofs.set_ranks.digits_of.Goals.{After-from-giraffes}

masks : (c : After-from-giraffes) (setup : Setup) → ArePartsOf c.args.board.now c.args.on_board.now setup
    → AreMasks setup.board c.from-own_lion.result c.from-enemy_lion.result c.from-chicks.result c.from-elephants.result c.from-giraffes.result
masks c setup parts = masks_by setup c.args.board.now _ _ _ _ _ parts.legal.squares parts.squares c.from-own_lion.ensures c.from-enemy_lion.ensures
    c.from-chicks.ensures c.from-elephants.ensures c.from-giraffes.ensures

left : (c : After-from-giraffes) (setup : Setup) → ArePartsOf c.args.board.now c.args.on_board.now setup
    → AreLeft setup.board c.from-own_lion.result c.from-enemy_lion.result c.from-chicks.result c.from-elephants.result c.from-giraffes.result
left c setup parts = left_are setup.board _ _ _ _ _ parts.legal.squares (masks c setup parts)

pub overflow_sub-after_own_lion : goal.overflow_sub-after_own_lion
overflow_sub-after_own_lion c = (left (goal.at.overflow_sub-after_own_lion c).After-from-giraffes c.requires.0 c.requires.1).own_low

pub overflow_sub-after_lions : goal.overflow_sub-after_lions
overflow_sub-after_lions c = (left (goal.at.overflow_sub-after_lions c).After-from-giraffes c.requires.0 c.requires.1).enemy_low

pub overflow_sub-after_chicks : goal.overflow_sub-after_chicks
overflow_sub-after_chicks c = (left (goal.at.overflow_sub-after_chicks c).After-from-giraffes c.requires.0 c.requires.1).chicks_low

pub overflow_sub-after_elephants : goal.overflow_sub-after_elephants
overflow_sub-after_elephants c = (left (goal.at.overflow_sub-after_elephants c).After-from-giraffes c.requires.0 c.requires.1).elephants_low

pub overflow_sub-empty : goal.overflow_sub-empty
overflow_sub-empty c = (left (goal.at.overflow_sub-empty c).After-from-giraffes c.requires.0 c.requires.1).giraffes_low

pub choice_of-requires-3 : goal.choice_of-requires-3
choice_of-requires-3 c = (numbers_are c.requires.0 c.args.on_board.now c.requires.1.legal c.requires.1.numbers_are).few_chicks

pub choice_of-requires-4 : goal.choice_of-requires-4
choice_of-requires-4 c = (numbers_are c.requires.0 c.args.on_board.now c.requires.1.legal c.requires.1.numbers_are).few_elephants

pub choice_of-requires-5 : goal.choice_of-requires-5
choice_of-requires-5 c = (numbers_are c.requires.0 c.args.on_board.now c.requires.1.legal c.requires.1.numbers_are).few_giraffes

-- what the sets show of each layer's pieces
chicks : (c : After-from-giraffes) (setup : Setup) (parts : ArePartsOf c.args.board.now c.args.on_board.now setup)
    → HasOfLayer Chicks c.from-chicks.result (slice_index c.args.on_board.now 0) setup c.args.board.now
chicks c setup parts = record {
  long = parts.legal.squares;
  squares = parts.squares;
  mask_is = (masks c setup parts).chicks_are;
  pieces_are = sym (numbers_are setup c.args.on_board.now parts.legal parts.numbers_are).chicks_are;
}

elephants : (c : After-from-giraffes) (setup : Setup) (parts : ArePartsOf c.args.board.now c.args.on_board.now setup)
    → HasOfLayer Elephants c.from-elephants.result (slice_index c.args.on_board.now 1) setup c.args.board.now
elephants c setup parts = record {
  long = parts.legal.squares;
  squares = parts.squares;
  mask_is = (masks c setup parts).elephants_are;
  pieces_are = sym (numbers_are setup c.args.on_board.now parts.legal parts.numbers_are).elephants_are;
}

giraffes : (c : After-from-giraffes) (setup : Setup) (parts : ArePartsOf c.args.board.now c.args.on_board.now setup)
    → HasOfLayer Giraffes c.from-giraffes.result (slice_index c.args.on_board.now 2) setup c.args.board.now
giraffes c setup parts = record {
  long = parts.legal.squares;
  squares = parts.squares;
  mask_is = (masks c setup parts).giraffes_are;
  pieces_are = sym (numbers_are setup c.args.on_board.now parts.legal parts.numbers_are).giraffes_are;
}

pub forms_of-requires : goal.forms_of-requires
forms_of-requires c = record {
  few = (numbers_are c.requires.0 c.args.on_board.now c.requires.1.legal c.requires.1.numbers_are).few_chicks;
  layer = (c.requires.0, chicks (goal.at.forms_of-requires c).After-from-giraffes c.requires.0 c.requires.1);
}

pub forms_of-requires-2 : goal.forms_of-requires-2
forms_of-requires-2 c = record {
  few = (numbers_are c.requires.0 c.args.on_board.now c.requires.1.legal c.requires.1.numbers_are).few_elephants;
  layer = (c.requires.0, elephants (goal.at.forms_of-requires-2 c).After-from-giraffes c.requires.0 c.requires.1);
}

pub forms_of-requires-3 : goal.forms_of-requires-3
forms_of-requires-3 c = record {
  few = (numbers_are c.requires.0 c.args.on_board.now c.requires.1.legal c.requires.1.numbers_are).few_giraffes;
  layer = (c.requires.0, giraffes (goal.at.forms_of-requires-3 c).After-from-giraffes c.requires.0 c.requires.1);
}

eleven : (a b c d e f g h i j k a' b' c' d' e' f' g' h' i' j' k' : ℕ) → a ≡ a' → b ≡ b' → c ≡ c' → d ≡ d'
    → e ≡ e' → f ≡ f' → g ≡ g' → h ≡ h' → i ≡ i' → j ≡ j' → k ≡ k' →
    a ∷ b ∷ c ∷ d ∷ e ∷ f ∷ g ∷ h ∷ i ∷ j ∷ k ∷ [] ≡ a' ∷ b' ∷ c' ∷ d' ∷ e' ∷ f' ∷ g' ∷ h' ∷ i' ∷ j' ∷ k' ∷ []
eleven a b c d e f g h i j k a' b' c' d' e' f' g' h' i' j' k' p q r s t u v w x y z = cc

pub returns : goal.returns
returns c = λ setup parts.
    let at = (goal.at.returns c).After-from-giraffes in
    let free = left at setup parts in
    let found = masks at setup parts in
    let are = numbers_are setup c.args.on_board.now parts.legal parts.numbers_are in
    let layers = map layer setup.board in
    let hands = parts.squares.hands_are in
    eleven _ _ _ _ _ _ _ _ _ _ _ _ _ _ _ _ _ _ _ _ _ _ (c.from.ensures ∙ ap (λ (h : Hands). h.mover.chicks) hands)
    (c.from-2.ensures ∙ ap (λ (h : Hands). h.mover.elephants) hands) (c.from-3.ensures ∙ ap (λ (h : Hands). h.mover.giraffes) hands)
    (c.choice_of.ensures (order OwnLion) layers (omega arith) free.long found.own_is free.after_own are.own_lion)
    (c.choice_of-2.ensures (order EnemyLion) layers (omega arith) free.long found.enemy_is free.after_lions are.enemy_lion)
    (c.choice_of-3.ensures (order Chicks) layers (omega arith) free.long found.chicks_are free.after_chicks are.chicks_are)
    (c.choice_of-4.ensures (order Elephants) layers (omega arith) free.long found.elephants_are free.after_elephants are.elephants_are)
    (c.choice_of-5.ensures (order Giraffes) layers (omega arith) free.long found.giraffes_are free.empty are.giraffes_are)
    (c.forms_of.ensures setup (chicks at setup parts)) (c.forms_of-2.ensures setup (elephants at setup parts))
    (c.forms_of-3.ensures setup (giraffes at setup parts))
