-- Outlines of positions, and puzzles that are alike.
use Rattle.dob_probe.proofs.Common.{◌&&◌, ◌++◌, ◌∙◌, ◌∷◌, ◌≡◌, Bool, Contains, List, [], arith, false, inl, inr, refl, subst, sym, true, true≢false}
use Rattle.dob_probe.proofs.Common.{and_parts, cases_Bool, Contains-append_right, list_any, one_lion, HasLions, Enemy, Mover, Setup, class_setup, ClassTable}
use Rattle.dob_probe.proofs.Common.{AreAlike, AreLike, AreOutlines, IsOutline, IsOutlineOf, same_outline, Puzzle}
use Rattle.dob_pieces.proofs.Lists.{cons_cases}
use Rattle.dob_probe.specs.declared.outlines.Outline.{Outline}
use Rattle.std.proofs.lemmas.Bool.Decides.{nat_tests}
use Rattle.dob_pieces.proofs.Zips.{zip_one}

same_fields : (a b : Outline) → a.chicks ≡ b.chicks → a.elephants ≡ b.elephants → a.giraffes ≡ b.giraffes → a.lion ≡ b.lion → a.enemy_lion ≡ b.enemy_lion → a ≡ b
same_fields a b c e g l n = λ i. record { chicks = c i; elephants = e i; giraffes = g i; lion = l i; enemy_lion = n i }

-- a position has one outline
one_outline : (p : Setup) (a b : Outline) → HasLions p → IsOutline p a → IsOutline p b → a ≡ b
one_outline p a b lions is_a is_b =
    same_fields a b (is_a.chicks ∙ sym is_b.chicks) (is_a.elephants ∙ sym is_b.elephants) (is_a.giraffes ∙ sym is_b.giraffes)
    (one_lion Mover p a.lion b.lion lions is_a.lion is_b.lion) (one_lion Enemy p a.enemy_lion b.enemy_lion lions is_a.enemy_lion is_b.enemy_lion)

same_itself : (a : Outline) → same_outline a a ≡ true
same_itself a = grind (arith, nat_tests)

same_is : (a b : Outline) → same_outline a b ≡ true → a ≡ b
same_is a b e = grind (arith, nat_tests)

module _ (table : ClassTable) (q : Setup) (outline : Outline) (is : IsOutline q outline) where
  -- one of the puzzles has the outline, and is alike
  pub some_like : (puzzles : List Puzzle) (outlines : List Outline) → AreOutlines table puzzles outlines → list_any (same_outline outline) outlines ≡ true
      → (listed : Puzzle) × Contains puzzles listed × AreAlike (class_setup table.family listed.class) q
  some_like (p ∷ puzzles) (o ∷ outlines) are any = elim (cases_Bool (same_outline outline o)) [
    | inl same ↦ (p, (0, omega arith, refl), (outline, rw (same_is outline o same) are.0.same, is))
    | inr other ↦
        let later = some_like puzzles outlines are.1 (rw other at any) in
        (later.0, Contains-append_right (p ∷ []) puzzles later.0 later.1, later.2)
  ]
  some_like puzzles outlines are any = grind arith

  -- none has it, and none is alike
  pub none_like : HasLions q → (puzzles : List Puzzle) (outlines : List Outline) → AreOutlines table puzzles outlines → list_any (same_outline outline) outlines ≡ false
      → (listed : Puzzle) → Contains puzzles listed → ¬ AreAlike (class_setup table.family listed.class) q
  none_like lions [] outlines are none listed there alike = absurd (omega (arith, there.1))
  none_like lions (p ∷ puzzles) [] are none listed there alike = absurd are
  none_like lions (p ∷ puzzles) (o ∷ outlines) are none listed there alike = elim (cases_Bool (same_outline outline o)) [
    | inl same ↦ absurd (true≢false (rw same at none))
    | inr other ↦ elim (cons_cases p puzzles listed there) [
      | inl first ↦
          let of_p : IsOutline (class_setup table.family p.class) alike.0 = subst (λ (x : Puzzle). IsOutline (class_setup table.family x.class) alike.0) (sym first) alike.1 in
          let own : outline ≡ o = one_outline q outline alike.0 lions is alike.2 ∙ one_outline (class_setup table.family p.class) alike.0 o are.0.lions of_p are.0.same in
          absurd (true≢false (sym (subst (λ (x : Outline). same_outline outline x ≡ true) own (same_itself outline)) ∙ other))
      | inr later ↦ none_like lions puzzles outlines are.1 (rw other at none) listed later alike
    ]
  ]

-- one puzzle more with its outline
pub outlines_more : (table : ClassTable) (puzzles : List Puzzle) (outlines : List Outline) (puzzle : Puzzle) (outline : Outline) → IsOutlineOf table puzzle outline
    → AreOutlines table puzzles outlines → AreOutlines table (puzzles ++ puzzle ∷ []) (outlines ++ outline ∷ [])
outlines_more table puzzles outlines puzzle outline is are = zip_one (IsOutlineOf table) puzzles outlines puzzle outline are is

module _ (table : ClassTable) (puzzles : List Puzzle) (outlines : List Outline) (puzzle : Puzzle) (outline : Outline) (is : IsOutlineOf table puzzle outline)
    (are : AreOutlines table puzzles outlines) where
  -- the puzzle is passed, since one that is alike is listed
  pub passed_one : (is_spread : Bool) → (is_spread && list_any (same_outline outline) outlines) ≡ true → (is_spread ≡ true)
      × ((listed : Puzzle) × Contains puzzles listed × AreLike table listed puzzle)
  passed_one is_spread passed =
      let parts = and_parts is_spread _ passed in
      (parts.0, some_like table (class_setup table.family puzzle.class) outline is.same puzzles outlines are parts.1)

  -- it isn't passed, so that none is, where that is asked for
  pub listed_one : (is_spread : Bool) → (is_spread && list_any (same_outline outline) outlines) ≡ false → is_spread ≡ true → (listed : Puzzle) → Contains puzzles listed
      → ¬ AreLike table listed puzzle
  listed_one true kept spread listed there = none_like table (class_setup table.family puzzle.class) outline is.same is.lions puzzles outlines are kept listed there
  listed_one false kept spread listed there = absurd (true≢false (sym spread))
