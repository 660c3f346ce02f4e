-- The texts of a subcommand, from its own matches, which form's matches they are, and the row of its name.
use Rattle.dob_words.proofs.Common.{◌∙◌, ◌∷◌, ◌≡◌, List, None, Option, Some, [], ap, ap₂, arith, codes, false, inl, inr, map, refl, rules, subst}
use Rattle.dob_words.proofs.Common.{sym, true, true≢false, ℕ, Ok-from_Ok_iff, Bor, list_any, option_map, unwrap_or}
use Rattle.dob_words.proofs.Common.{first_value-rows, first_of, subcommand_rows_of, IsReadFor, Finds, HasFit, IsMet, IsMetBySome, IsNamed, is_stream_in, texts_in}
use Rattle.dob_words.proofs.Common.{asks, cleared, is_number, number_in, without_conflict, Order}
use Rattle.std.specs.Prelude.{Err, is_err, Result}
use Rattle.std.specs.Str.Parse.{ParsesUnsigned}
use Rattle.clap.specs.Words.{Row, first_value, found_of, rows_of, subcommand_name_of}
use Rattle.clap.specs.declared.parser.ArgMatches.{ArgMatches}
use Rattle.clap.specs.declared.builder.value_parser.ValueParser.TheVariants.{Unsigned}
use Rattle.clap.proofs.ValueTestLemmas.{accepts-Accepts}
use Rattle.dob_words.specs.Forms.{Form, Text, form_named, forms, labels, rows}
use Rattle.dob_words.specs.Lines.{IsAmong}
use Rattle.dob_words.specs.Readings.{IsFlaggedBy, IsOneOf, name_asked, texts_asked}
use Rattle.dob_words.specs.declared.command.orders.Asked.{Asked}
use Rattle.dob_words.specs.declared.command.orders.Order.TheVariants as order
use Rattle.dob_words.proofs.Texts.{Each, taken_number}

-- ---- texts that fit

-- a number is read from its text
pub never_refused : {E : Type 0} (t : Text) (r : Result ℕ E) (e : E) → is_number t ≡ true → ParsesUnsigned 64 10 t r → r ≡ Err e → ⊥
never_refused t r e is parses refused =
    let passes = accepts-Accepts false (Unsigned 0 18446744073709551615) t (taken_number t ∙ is) in
    true≢false (sym (ap is_err refused) ∙ ap is_err (Ok-from_Ok_iff r _ (number_in t) parses (passes.0, passes.1)))

-- ---- the subcommand that was met

-- the name that was met, on its own
name_met : {A : Type 0} (name : A → Text) (rows : A → List Row) (o : Option A) (n : Text) (rs : List Row)
    → option_map {U = Text × List Row} (λ a. (name a, rows a)) o ≡ Some (n, rs) → option_map name o ≡ Some n
name_met name rows o n rs e = grind arith

-- each form is the one of its name
itself : Each (λ f. form_named f.name ≡ f) forms
itself = search rules

named_itself : (form : Form) → IsAmong form forms → form_named form.name ≡ form
named_itself form among = go forms itself among
  where
    go : (fs : List Form) → Each (λ f. form_named f.name ≡ f) fs → IsAmong form fs → form_named form.name ≡ form
    go [] each among = absurd among
    go (f ∷ fs) each (inl is) = subst (λ (g : Form). form_named g.name ≡ g) (sym is) each.0
    go (f ∷ fs) each (inr more) = go fs each.1 more

-- the form that was met is one of them
pub record IsFoundBySome (met : Option (Text × List Row)) : Type 0 where
  pub form : Form
  pub texts : List (Option Text)
  pub among : IsAmong form forms
  pub found : Finds form texts met

pub found_by_some : (met : Option (Text × List Row)) → IsMetBySome met → IsFoundBySome met
found_by_some met some = go forms (λ form is. is) some.2
  where
    go : (fs : List Form) → ((form : Form) → IsAmong form fs → IsAmong form forms) → IsMet fs some.0 some.1 met → IsFoundBySome met
    go [] among is = absurd is
    go (f ∷ fs) among (inl is) = record { form = f; texts = some.1; among = among f (inl refl); found = is.1 }
    go (f ∷ fs) among (inr more) = go fs (λ form is. among form (inr is)) more

-- its name and its matches are these
module _ (m inner : ArgMatches) (name : Text) (named : Some name ≡ subcommand_name_of m)
    (kept : Some (rows_of (found_of inner)) ≡ option_map (λ p. p.1) (subcommand_rows_of m))
    (form : Form) (texts : List (Option Text)) (among : IsAmong form forms) (found : Finds form texts (subcommand_rows_of m)) where
  name_is : form.name ≡ name
  name_is = ap (λ (x : Option Text). unwrap_or x []) (sym (name_met _ _ _ form.name found.0 found.1) ∙ sym named)

  form_is : form_named name ≡ form
  form_is = ap form_named (sym name_is) ∙ named_itself form among

  rows_are : rows_of (found_of inner) ≡ found.0
  rows_are = ap (λ (x : Option (List Row)). unwrap_or x []) (kept ∙ ap (option_map (λ p. p.1)) found.1)

  -- so are the texts that were found
  texts_are : texts_in form inner ≡ texts
  texts_are = go (labels form) ∙ found.2
    where
      go : (ls : List Text) → map (first_value (found_of inner)) ls ≡ map (λ label. first_of label found.0) ls
      go [] = refl
      go (l ∷ ls) = ap₂ (λ (x : Option Text) (xs : List (Option Text)). x ∷ xs) (first_value-rows (found_of inner) l ∙ ap (first_of l) rows_are) (go ls)

  pub is_named : IsNamed name forms
  is_named = subst (λ (n : Text). IsNamed n forms) name_is (go forms among)
    where
      go : (fs : List Form) → IsAmong form fs → IsNamed form.name fs
      go [] none = absurd none
      go (f ∷ fs) (inl is) = inl (ap (λ (g : Form). g.name) (sym is))
      go (f ∷ fs) (inr more) = inr (go fs more)

  pub has_fit : HasFit (form_named name) inner
  has_fit = rw (form_is, texts_are) found.3

  -- what is read for them is what is asked for
  pub reads : (o : Option Order) → IsReadFor (without_conflict (asks name (texts_in (form_named name) inner))) o → IsReadFor (without_conflict (asks form.name texts)) o
  reads o is = rw name_is (rw (form_is, texts_are) at is)

-- ---- the subcommand of a name

-- where no file is to be written to a stream, it is enough that it is clear
pub settled_clear : (name : Text) (inner : ArgMatches) (o : Option Order) → IsNamed name forms → list_any (is_stream_in name inner) rows ≡ false
    → IsReadFor (cleared (asks name (texts_in (form_named name) inner))) o → IsReadFor (without_conflict (asks name (texts_in (form_named name) inner))) o
settled_clear name inner o named none is = search rules

-- ---- what is asked of each line

-- the texts of what is asked are those of its form
asked_texts : (a : Asked) (m : ArgMatches)
    → texts_asked a.question (first_value (found_of m) (codes "FILE")) (first_value (found_of m) (codes "numbered")) (first_value (found_of m) (codes "records"))
    (first_value (found_of m) (codes "each")) (first_value (found_of m) (codes "json")) (first_value (found_of m) (codes "POSITION"))
    ≡ texts_in (form_named (name_asked a)) m
asked_texts a m = grind arith

-- by `--each` alone it is clear
each_clear : (a : Asked) (x n r y j z : Option Text) (file : Bor Text) (flag : Text) → x ≡ Some file.now → y ≡ Some flag → z ≡ None
    → IsFlaggedBy a.by a.question n r y j
    → IsReadFor (cleared (asks (name_asked a) (texts_asked a.question x n r y j z))) (Some (order.EachLine file a))
each_clear a x n r y j z file flag f e p is = grind arith

pub each_read : (a : Asked) (m : ArgMatches) (file : Bor Text) → first_value (found_of m) (codes "FILE") ≡ Some file.now
    → IsOneOf (first_value (found_of m) (codes "each")) (first_value (found_of m) (codes "POSITION")) (Some None)
    → IsFlaggedBy a.by a.question (first_value (found_of m) (codes "numbered")) (first_value (found_of m) (codes "records")) (first_value (found_of m) (codes "each"))
    (first_value (found_of m) (codes "json"))
    → IsReadFor (cleared (asks (name_asked a) (texts_in (form_named (name_asked a)) m))) (Some (order.EachLine file a))
each_read a m file f one is =
    subst (λ (texts : List (Option Text)). IsReadFor (cleared (asks (name_asked a) texts)) (Some (order.EachLine file a))) (asked_texts a m)
    (each_clear a _ _ _ _ _ _ file one.0 f one.1 one.2 is)
