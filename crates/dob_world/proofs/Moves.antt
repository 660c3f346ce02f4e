-- Items that a node of the world applies, its own or those of a batch: where its share takes them, they are applied.
use Rattle.dob_world.proofs.Common.{◌++◌, ◌<◌, ◌∙◌, ◌∷◌, ◌≡◌, ◌≢◌, ◌⊎◌, Bool, List, [], ap, append_assoc, cond, eqb, false, inl, inr, length, nat_lt, refl, set}
use Rattle.dob_world.proofs.Common.{slice_get, subst, sym, true, ℕ, and_cases, and_parts, and_right, cases_Bool, cases_eq, eq-eqb, eqb-true, lt-ltb, ltb-true}
use Rattle.dob_world.proofs.Common.{ne_eqb, append-nil, classes_of, CellValue, SameCell, changed, fresh, owner_of, cell_at, Item}
use Rattle.dob_world.proofs.Common.{Settlement, Share, value_of, CanApply, HistoryView, AreKept, AreTaken, IsTaken, Node, Applies, AppliesItems}
use Rattle.dob_world.proofs.Common.{part, nodes_shown, AreLawful, Nodes, Setting, items_in, value_in, Lane}
use Rattle.std.proofs.Common.{◌&&◌}
use Rattle.dob_share.specs.Values.{NoWorse}
use Rattle.dob_share.proofs.Applied.{same_itself}
use Rattle.dob_share.proofs.Changing.{short_value}
use Rattle.dob_share.proofs.Owning.{cell_short}
use Rattle.dob_history.proofs.Stored.{same_settlement}
use Rattle.dob_history.proofs.Kepts.{fits_own, kept_still}
use Rattle.dob_node.proofs.ItemChanges.{Change, item_changes}
use Rattle.dob_world.proofs.InPlace.{at_node, at_link, NodeAt, here, was, elsewhere, set_there, AtLane, lane_here, lane_was, lane_else}
use Rattle.dob_world.proofs.Kept.{next_fits, lawful_step, step_grows, next_after}

-- ---- nodes of which one has that share and history, and has applied those items of another
abbrev own_test : Setting → ℕ → ℕ → Bool
own_test k j class = nat_lt class (classes_of k.family) && eqb (owner_of k.n class) j

own_is : (k : Setting) (j class : ℕ) → class < classes_of k.family → owner_of k.n class ≡ j → own_test k j class ≡ true
own_is k j class low own = ap (λ b. b && eqb (owner_of k.n class) j) (lt-ltb class (classes_of k.family) low) ∙ eq-eqb (owner_of k.n class) j own

-- Node j has that share and history, and has applied those items of node i; all else is as before.
record Holds (k : Setting) (i j : ℕ) (before : Nodes) (share : Share) (history : List Settlement) (items : List Item) (nodes : Nodes) : Type 0 where
  history_here : nodes.history j ≡ history
  history_else : (m : ℕ) → m ≢ j → nodes.history m ≡ before.history m
  applied_here : nodes.applied i j ≡ items
  applied_else : (m l : ℕ) → (m ≢ i) ⊎ (l ≢ j) → nodes.applied m l ≡ before.applied m l
  cell_here : (class : ℕ) → own_test k j class ≡ true → nodes.cell class ≡ cell_at share class
  cell_else : (class : ℕ) → own_test k j class ≡ false → nodes.cell class ≡ before.cell class

-- there are such nodes
abbrev with_share : Setting → ℕ → ℕ → Nodes → Share → List Settlement → List Item → Nodes
with_share k i j before share history items = record {
  history = λ m. cond (eqb m j) history (before.history m);
  applied = λ m l. cond (eqb m i && eqb l j) items (before.applied m l);
  cell = λ class. cond (own_test k j class) (cell_at share class) (before.cell class);
}

some_hold : (k : Setting) (i j : ℕ) (before : Nodes) (share : Share) (history : List Settlement) (items : List Item) →
    Holds k i j before share history items (with_share k i j before share history items)
some_hold k i j before share history items = record {
  history_here = ap (λ b. cond b history (before.history j)) (eq-eqb j j refl);
  history_else = λ m other. ap (λ b. cond b history (before.history m)) (ne_eqb m j other);
  applied_here = ap (λ b. cond (b && eqb j j) items (before.applied i j)) (eq-eqb i i refl)
      ∙ ap (λ b. cond b items (before.applied i j)) (eq-eqb j j refl);
  applied_else = λ m l apart. others m l apart;
  cell_here = λ class is. ap (λ b. cond b (cell_at share class) (before.cell class)) is;
  cell_else = λ class is. ap (λ b. cond b (cell_at share class) (before.cell class)) is;
}
  where
    others : (m l : ℕ) → (m ≢ i) ⊎ (l ≢ j) → cond (eqb m i && eqb l j) items (before.applied m l) ≡ before.applied m l
    others m l (inl other) = ap (λ b. cond (b && eqb l j) items (before.applied m l)) (ne_eqb m i other)
    others m l (inr other) = ap (λ b. cond (eqb m i && b) items (before.applied m l)) (ne_eqb l j other)
        ∙ ap (λ b. cond b items (before.applied m l)) (and_right (eqb m i) false refl)

-- ---- an item taken

module _ (k : Setting) (i j : ℕ) (before : Nodes) (share after : Share) (history grown : HistoryView) (items : List Item) (item : Item) (old new : Nodes)
    (had : Holds k i j before share history.settlements items old) (has : Holds k i j before after grown.settlements (items ++ item ∷ []) new)
    (kept : AreKept k.family k.n j share history) (taken : IsTaken item share after history grown) (lawful : AreLawful k old)
    (can : CanApply k.family k.n j old.cell item) where
  abbrev h : List Settlement
  h = history.settlements

  abbrev g : List Settlement
  g = grown.settlements

  old_cell : old.cell item.to ≡ cell_at share item.to
  old_cell = had.cell_here item.to (own_is k j item.to can.below can.own)

  new_cell : new.cell item.to ≡ cell_at after item.to
  new_cell = has.cell_here item.to (own_is k j item.to can.below can.own)

  old_value : (p : ℕ) → owner_of k.n p ≡ j → value_in k.n old p ≡ value_of h p
  old_value p own = ap (λ m. value_of (old.history m) p) own ∙ ap (λ xs. value_of xs p) had.history_here

  new_value : (p : ℕ) → owner_of k.n p ≡ j → value_in k.n new p ≡ value_of g p
  new_value p own = ap (λ m. value_of (new.history m) p) own ∙ ap (λ xs. value_of xs p) has.history_here

  changes : Change item after h g
  changes = item_changes item share after history grown taken kept.counted
      (subst (λ c. CellValue c (value_of h item.to)) old_cell
      (subst (λ w. CellValue (old.cell item.to) w) (old_value item.to can.own) (lawful.cell_values item.to can.below can.is_open)))

  cells_after : (p : ℕ) → p ≢ item.to → SameCell (new.cell p) (old.cell p)
  cells_after p other = elim (cases_Bool (own_test k j p)) [
    | inl mine ↦
        let both = and_parts (nat_lt p (classes_of k.family)) (eqb (owner_of k.n p) j) mine in
        rw (has.cell_here p mine, had.cell_here p mine)
        (taken.others p ((kept.owned p).1 (eqb-true (owner_of k.n p) j both.1, ltb-true p (classes_of k.family) both.0)) other)
    | inr apart ↦ rw (has.cell_else p apart, had.cell_else p apart) (same_itself (before.cell p))
  ]

  values_after : (p : ℕ) → p ≢ item.to → value_in k.n new p ≡ value_in k.n old p
  values_after p other = elim (cases_eq (owner_of k.n p) j) [
    | inl own ↦ new_value p own ∙ changes.others p other ∙ sym (old_value p own)
    | inr apart ↦ ap (λ xs. value_of xs p) (has.history_else (owner_of k.n p) apart ∙ sym (had.history_else (owner_of k.n p) apart))
  ]

  item_applies : Applies k i j item old new
  item_applies = record {
    listed = record {
      one_more = has.applied_here ∙ ap (λ xs. xs ++ item ∷ []) (sym had.applied_here);
      same_sender = λ m other. has.applied_else m j (inl other) ∙ sym (had.applied_else m j (inl other));
      same_receiver = λ m l other. has.applied_else m l (inr other) ∙ sym (had.applied_else m l (inr other));
    };
    cells = record {
      cell_is = subst (λ c. SameCell c (changed item.was item.now (old.cell item.to))) (sym new_cell)
          (subst (λ c. SameCell (cell_at after item.to) (changed item.was item.now c)) (sym old_cell) taken.cell);
      gives = subst (λ c. CellValue c (value_in k.n new item.to)) (sym new_cell) gives_now;
      short = short_value (cell_at after item.to) (value_in k.n new item.to)
          (cell_short after item.to (taken.classes.owned item.to (fits_own share item taken.fits))) gives_now;
      better = subst (λ v. NoWorse v (value_in k.n new item.to)) (sym had_is) (subst (λ v. NoWorse (value_of h item.to) v) (sym now_is) changes.better);
      others = λ p other. (cells_after p other, values_after p other);
    };
    settled = record {
      same = λ e. has.history_here ∙ changes.same (sym had_is ∙ e ∙ now_is) ∙ sym had.history_here;
      more = λ differs. settled_more (λ e. differs (had_is ∙ e ∙ sym now_is));
      others = λ m other. has.history_else m other ∙ sym (had.history_else m other);
    };
  }
    where
      had_is : value_in k.n old item.to ≡ value_of h item.to
      had_is = old_value item.to can.own

      now_is : value_in k.n new item.to ≡ value_of g item.to
      now_is = new_value item.to can.own

      gives_now : CellValue (cell_at after item.to) (value_in k.n new item.to)
      gives_now = subst (λ v. CellValue (cell_at after item.to) v) (sym now_is) changes.gives

      settled_more : value_of h item.to ≢ value_of g item.to → new.history j ≡ old.history j
          ++ record { number = length (old.history j); class = item.to; was = value_in k.n old item.to; now = value_in k.n new item.to } ∷ []
      settled_more differs =
          has.history_here ∙ changes.more differs
          ∙ ap (λ x. h ++ x ∷ []) (same_settlement (length h) (length (old.history j)) item.to item.to (value_of h item.to) (value_in k.n old item.to)
          (value_of g item.to) (value_in k.n new item.to) (ap length (sym had.history_here)) refl (sym had_is) (sym now_is))
          ∙ ap (λ xs. xs ++ record { number = length (old.history j); class = item.to; was = value_in k.n old item.to; now = value_in k.n new item.to } ∷ [])
          (sym had.history_here)

-- ---- one after the other

module _ (k : Setting) (some : 0 < k.n) (i j : ℕ) (low_i : i < k.n) (low_j : j < k.n) (differs : i ≢ j) (before : Nodes) where
  items_apply : (more : List Item) (share after : Share) (history grown : HistoryView) (items rest : List Item) (old new : Nodes) →
      Holds k i j before share history.settlements items old → Holds k i j before after grown.settlements (items ++ more) new →
      AreKept k.family k.n j share history → AreTaken more share after history grown → AreLawful k old →
      items_in k old i j ≡ old.applied i j ++ (more ++ rest) → AppliesItems k i j more old new
  items_apply [] share after history grown items rest old new had has kept taken lawful is = record {
    history = λ m. at_node (λ a. new.history a ≡ old.history a) j m
        (has.history_here ∙ ap (λ (x : HistoryView). x.settlements) taken.1 ∙ sym had.history_here)
        (λ other. has.history_else m other ∙ sym (had.history_else m other));
    applied = λ m l. at_link (λ a b. new.applied a b ≡ old.applied a b) i j m l (has.applied_here ∙ append-nil items ∙ sym had.applied_here)
        (λ other. has.applied_else m l other ∙ sym (had.applied_else m l other));
    cell = λ class. elim (cases_Bool (own_test k j class)) [
      | inl mine ↦ has.cell_here class mine ∙ ap (λ (s : Share). cell_at s class) taken.0 ∙ sym (had.cell_here class mine)
      | inr apart ↦ has.cell_else class apart ∙ sym (had.cell_else class apart)
    ];
  }
  items_apply (item ∷ more) share after history grown items rest old new had has kept taken lawful is =
      let mid = with_share k i j before taken.0 taken.1.settlements (items ++ item ∷ []) in
      let held = some_hold k i j before taken.0 taken.1.settlements (items ++ item ∷ []) in
      let step : Applies k i j item old mid = item_applies k i j before share taken.0 history taken.1 items item old mid had held kept taken.2 lawful
      (next_fits k some i j low_i low_j item old lawful (more ++ rest) is) in (
        mid,
        step,
        items_apply more taken.0 after taken.1 grown (items ++ item ∷ []) rest mid new held
            (subst (λ xs. Holds k i j before after grown.settlements xs new) (sym (append_assoc items (item ∷ []) more)) has)
            (kept_still k.family k.n j share taken.0 history taken.1 item kept taken.2) taken.3
            (lawful_step k some i j low_i low_j item old lawful (more ++ rest) is mid step)
            (next_after k i j (item ∷ []) (more ++ rest) old mid differs (step_grows k i j item old mid step) is),
      )

-- ---- by a node and a lane of the world

-- the cell of an owner's class is the owner's
cell_there : (k : Setting) (lanes : List Lane) {nodes : List Node} {j : ℕ} {node : Node} → NodeAt nodes j node → (class : ℕ) → own_test k j class ≡ true →
    (nodes_shown k.family k.n nodes lanes).cell class ≡ cell_at node.share class
unfolding nodes_shown
cell_there k lanes {nodes} {j} there class is =
    let both = and_parts (nat_lt class (classes_of k.family)) (eqb (owner_of k.n class) j) is in
    ap (λ b. cond b (part (fresh 0) (λ (x : Node). cell_at x.share class) (slice_get nodes (owner_of k.n class))) (fresh 0)) both.0
    ∙ ap (λ m. part (fresh 0) (λ (x : Node). cell_at x.share class) (slice_get nodes m)) (eqb-true (owner_of k.n class) j both.1)
    ∙ was there (fresh 0) (λ (x : Node). cell_at x.share class)

-- that of a class that it owns
pub own_cell : (k : Setting) (lanes : List Lane) {nodes : List Node} {j : ℕ} {node : Node} → NodeAt nodes j node → (class : ℕ) → class < classes_of k.family →
    owner_of k.n class ≡ j → (nodes_shown k.family k.n nodes lanes).cell class ≡ cell_at node.share class
own_cell k lanes {nodes} {j} there class low own = cell_there k lanes there class (own_is k j class low own)

module _ {k : Setting} {nodes : List Node} {lanes : List Lane} {i j place : ℕ} {node : Node} {lane : Lane} (at : AtLane k nodes lanes i j j place node lane)
    (after : Node) (next : Lane) where
  abbrev pub old : Nodes
  old = nodes_shown k.family k.n nodes lanes

  abbrev pub new : Nodes
  new = nodes_shown k.family k.n (set nodes j after) (set lanes place next)

  cell_elsewhere : (class : ℕ) → own_test k j class ≡ false → new.cell class ≡ old.cell class
  unfolding nodes_shown
  cell_elsewhere class is = elim (and_cases (nat_lt class (classes_of k.family)) (eqb (owner_of k.n class) j) is) [
    | inl high ↦ ap (λ b. cond b (part (fresh 0) (λ (x : Node). cell_at x.share class) (slice_get (set nodes j after) (owner_of k.n class))) (fresh 0)) high
        ∙ sym (ap (λ b. cond b (part (fresh 0) (λ (x : Node). cell_at x.share class) (slice_get nodes (owner_of k.n class))) (fresh 0)) high)
    | inr other ↦ ap (λ c. cond (nat_lt class (classes_of k.family)) c (fresh 0)) (elsewhere at.node_at after (fresh 0)
        (λ (x : Node). cell_at x.share class) (owner_of k.n class) (λ same. let e = eq-eqb (owner_of k.n class) j same in cc))
  ]

  holds_before : Holds k i j old node.share node.history.settlements lane.applied.items old
  unfolding nodes_shown
  holds_before = record {
    history_here = was at.node_at [] (λ (x : Node). x.history.settlements);
    history_else = λ m other. refl;
    applied_here = lane_was at [] (λ (x : Lane). x.applied.items);
    applied_else = λ m l other. refl;
    cell_here = cell_there k lanes at.node_at;
    cell_else = λ class is. refl;
  }

  holds_after : Holds k i j old after.share after.history.settlements next.applied.items new
  unfolding nodes_shown
  holds_after = record {
    history_here = here at.node_at after [] (λ (x : Node). x.history.settlements);
    history_else = elsewhere at.node_at after [] (λ (x : Node). x.history.settlements);
    applied_here = lane_here at after next [] (λ (x : Lane). x.applied.items);
    applied_else = lane_else at after next [] (λ (x : Lane). x.applied.items);
    cell_here = cell_there k (set lanes place next) (set_there at.node_at after);
    cell_else = cell_elsewhere;
  }

  holds_listed : (items : List Item) → next.applied.items ≡ items → Holds k i j old after.share after.history.settlements items new
  holds_listed items listed = subst (λ xs. Holds k i j old after.share after.history.settlements xs new) listed holds_after

  pub applies_one : 0 < k.n → (item : Item) (rest : List Item) → AreKept k.family k.n j node.share node.history →
      IsTaken item node.share after.share node.history after.history → AreLawful k old → items_in k old i j ≡ old.applied i j ++ item ∷ rest →
      next.applied.items ≡ lane.applied.items ++ item ∷ [] → Applies k i j item old new
  applies_one some item rest kept taken lawful is listed =
      item_applies k i j old node.share after.share node.history after.history lane.applied.items item old new holds_before
      (holds_listed (lane.applied.items ++ item ∷ []) listed) kept taken lawful (next_fits k some i j at.low_i at.low_j item old lawful rest is)

  pub applies_many : 0 < k.n → (items rest : List Item) → i ≢ j → AreKept k.family k.n j node.share node.history →
      AreTaken items node.share after.share node.history after.history → AreLawful k old → items_in k old i j ≡ old.applied i j ++ (items ++ rest) →
      next.applied.items ≡ lane.applied.items ++ items → AppliesItems k i j items old new
  applies_many some items rest differs kept taken lawful is listed =
      items_apply k some i j at.low_i at.low_j differs old items node.share after.share node.history after.history lane.applied.items rest old new holds_before
      (holds_listed (lane.applied.items ++ items) listed) kept taken lawful is
