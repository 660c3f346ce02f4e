-- What a map has under its names after one of them is given other bytes.
use Rattle.std.proofs.Common.{◌≡◌, ℕ, Bool, true, false, cond, List, Option, Some, sym, ap, ◌∙◌, refl, string_bytes}
use Rattle.std.specs.Prelude.{◌≢◌, String, Vec, option_map}
use Rattle.std.specs.BTreeMap.{BTreeMap, get_by_text, is_at}
use Rattle.std.specs.Map.{lookup, update}
use Rattle.std.specs.Ordering.{nat_cmp}
use Rattle.std.specs.Cmp.Lexicographic.{slice_cmp}
use Rattle.std.specs.Str.{bytes_eq}
use Rattle.std.proofs.lemmas.Bool.{false_from_ne_true}
use Rattle.std.proofs.lemmas.Slice.Eq.{bytes_eq-Decides}
use Rattle.std.proofs.lemmas.Option.{same_Some}
use Rattle.dob_shelf.specs.Shelves.{Files, HasJust, SameFiles, SameOthers, bytes_in}

-- what a call left is what the next one found
pub unchanged : (Old : Files) → SameFiles Old Old
unchanged Old name bytes = (λ h. h, λ h. h)

pub others_kept : (name : List ℕ) (Old New : Files) → SameFiles Old New → SameOthers name Old New
others_kept name Old New same other bytes differs = same other bytes

pub others_chain : (name : List ℕ) (Old Mid New : Files) → SameOthers name Old Mid → SameOthers name Mid New → SameOthers name Old New
others_chain name Old Mid New first second other bytes differs =
    (λ h. (second other bytes differs).0 ((first other bytes differs).0 h), λ h. (first other bytes differs).1 ((second other bytes differs).1 h))

-- where all names have what they had
pub same_files : (old new : List ℕ → Option (List ℕ)) → ((name : List ℕ) → new name ≡ old name)
    → SameFiles (λ name bytes. old name ≡ Some bytes) (λ name bytes. new name ≡ Some bytes)
same_files old new same name bytes = (λ e. same name ∙ e, λ e. sym (same name) ∙ e)

-- where all but one have
pub same_others : (name : List ℕ) (old new : List ℕ → Option (List ℕ)) → ((other : List ℕ) → other ≢ name → new other ≡ old other)
    → SameOthers name (λ other bytes. old other ≡ Some bytes) (λ other bytes. new other ≡ Some bytes)
same_others name old new same other bytes differs = (λ e. same other differs ∙ e, λ e. sym (same other differs) ∙ e)

-- where the name has these bytes
pub has_just : (name bytes : List ℕ) (new : List ℕ → Option (List ℕ)) → new name ≡ Some bytes → HasJust name bytes (λ other found. new other ≡ Some found)
has_just name bytes new has found = (λ e. same_Some found bytes (sym e ∙ has), λ e. has ∙ ap (λ (x : List ℕ). Some x) (sym e))

module _ {X Y : Type 0} (old new : BTreeMap (String X) (Vec ℕ Y)) (name : List ℕ) (value : Vec ℕ Y)
    (sets : (other : List ℕ) → get_by_text new other ≡ update bytes_eq (get_by_text old) name (Some value) other) where
  -- another name has what it had
  pub keeps_other : (other : List ℕ) → other ≢ name → bytes_in new other ≡ bytes_in old other
  keeps_other other differs =
      let no : bytes_eq name other ≡ false = false_from_ne_true (bytes_eq name other) (λ e. differs (sym ((bytes_eq-Decides name other).0 e))) in
      ap (option_map (λ bytes. bytes.items)) (sets other ∙ ap (λ (b : Bool). cond b (Some value) (get_by_text old other)) no)

  -- the name has the new bytes
  pub gives_new : bytes_in new name ≡ Some value.items
  gives_new =
      let yes : bytes_eq name name ≡ true = (bytes_eq-Decides name name).1 refl in
      ap (option_map (λ bytes. bytes.items)) (sets name ∙ ap (λ (b : Bool). cond b (Some value) (get_by_text old name)) yes)

-- a map with the same entries
pub same_entries : {X Y : Type 0} (old new : BTreeMap (String X) (Vec ℕ Y)) → new.entries ≡ old.entries → (name : List ℕ)
    → bytes_in new name ≡ bytes_in old name
same_entries old new same name =
    ap (λ es. option_map (λ bytes. bytes.items) (lookup (is_at (λ k. slice_cmp nat_cmp name (string_bytes k))) es)) same
