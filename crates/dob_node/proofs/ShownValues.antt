-- The value that a class of a lawful world shows, and lists of the values that all classes show.
use Rattle.dob_node.proofs.Common.{◌<◌, ◌∙◌, ◌≡◌, AreGiven, AreLawfulNodes, AreValuesBelow, Cell, CellValue, Draw, Family, HasStatus, IsValue, Item, List}
use Rattle.dob_node.proofs.Common.{Open, Settlement, Some, Status, Value, ap, class_setup, classes_of, get_or, slice_get-get_or, subst, sym, ℕ}
use Rattle.dob_node.proofs.ItemChanges.{one_value}

-- where the cell is that of its class, the value of its status and cell is that of the class
pub value_shown : (family : Family) (n : ℕ) (histories : ℕ → List Settlement) (applied : ℕ → ℕ → List Item) (cell : ℕ → Cell) (value : ℕ → Value) →
    AreLawfulNodes family n histories applied cell value → (class : ℕ) → class < classes_of family → (shown : Cell) → cell class ≡ shown →
    (s : Status) (v : Value) → HasStatus family.profile (class_setup family class) s → IsValue s shown v → v ≡ value class
value_shown family n histories applied cell value lawful class low shown same Open v has is = one_value shown v (value class) is
    (subst (λ c. CellValue c (value class)) same (lawful.cell_values class low has))
value_shown family n histories applied cell value lawful class low shown same status v has is =
    is ∙ sym (lawful.over class status low has (λ open_is. cc))

-- values that are given for each class are those that each class has where no other is given
pub values_given : (Gives : ℕ → Value → Type 0) (value : ℕ → Value) (count : ℕ) (values : List Value) → AreGiven Gives count values →
    ((class : ℕ) (v : Value) → class < count → Gives class v → v ≡ value class) → AreValuesBelow value count values
values_given Gives value count values given only = record {
  whole = given.whole;
  each = λ class low.
      let there = slice_get-get_or values class Draw (subst (λ (k : ℕ). class < k) (sym given.whole) low) in
      there ∙ ap Some (only class (get_or values class Draw) low (given.each class (get_or values class Draw) there));
}
