-- What the matches and the errors of the program's command come to.
use Rattle.dob_words.proofs.Common.{◌∙◌, ◌∷◌, ◌≡◌, Bool, List, Option, [], ap, false, inl, inr, refl, subst, sym, true, true≢false, not-true, both}
use Rattle.dob_words.proofs.Common.{false_from_ne_true, app_of, subcommand_rows_of, IsReadingOf, Finds, IsMet, dobutsu_app, Meaning, asks, help}
use Rattle.dob_words.proofs.Common.{is_topic, is_version, meaning_of, meaning_of_command, without_conflict, usage, version, Reading}
use Rattle.std.proofs.Common.{◌⊎◌, not, arith}
use Rattle.clap.specs.Words.{HasKind, IsAmong, Kinds, Row, fault_of, is_simple, is_simple_and_free, kind_of, subcommand_of}
use Rattle.clap.specs.declared.Error.{Error}
use Rattle.clap.specs.declared.builder.Command.{Command}
use Rattle.dob_words.specs.Shapes.{IsProgram}
use Rattle.clap.specs.declared.error.ErrorKind.{ErrorKind}
use Rattle.clap.specs.declared.error.ErrorKind.TheVariants as kind
use Rattle.clap.specs.declared.parser.ArgMatches.{ArgMatches}
use Rattle.dob_words.specs.Forms.{Form, Text, forms}
use Rattle.dob_words.specs.Lines.{IsAmong as IsAmongForms}
use Rattle.dob_words.specs.Readings.{IsReadingOfKind}
use Rattle.dob_words.specs.declared.command.Reading.TheVariants as reading
use Rattle.dob_words.proofs.Turns.{is_help_kind, is_usage, no_help_kind}
use Rattle.dob_words.proofs.AllWords.{Fits, topic_kinds, words_fit}

-- what is asked for, and found in the matches
pub record IsAsked (words : List Text) (met : Option (Text × List Row)) : Type 0 where
  pub name : Text
  pub texts : List (Option Text)
  pub plain : is_topic words ≡ false
  pub meant : meaning_of_command words ≡ asks name texts
  pub found : IsMet forms name texts met

no_kinds : (k : ErrorKind) (ks : Kinds) → [] ≡ k ∷ ks → ⊥
no_kinds k ks e = true≢false (ap (λ (l : Kinds). elim l as (λ _. Bool) [ [] ↦ true | _ ∷ _ ↦ false ]) e)

-- where no kind of error comes, something is asked for
asked_for : (words : List Text) (m : Meaning) (met : Option (Text × List Row)) → is_topic words ≡ false → meaning_of_command words ≡ m → Fits m [] met
    → IsAsked words met
asked_for words (asks name texts) met plain e fits = record { name = name; texts = texts; plain = plain; meant = e; found = fits.1 }
asked_for words m met plain e fits = absurd (grind arith)

-- words that ask neither for the version nor by `help` mean what the command makes of them
command_meaning : (words : List Text) → is_version words ≡ false → is_topic words ≡ false → without_conflict (meaning_of_command words) ≡ meaning_of words
command_meaning words v t = rw (v, t) refl

-- what holds of what the form that was met asks for holds of what the words ask for
pub order_is_meant : (P : Meaning → Type 0) (words : List Text) (met : Option (Text × List Row)) → IsAsked words met → is_version words ≡ false
    → ((form : Form) (texts : List (Option Text)) → IsAmongForms form forms → Finds form texts met → P (without_conflict (asks form.name texts)))
    → P (meaning_of words)
order_is_meant P words met is v each = subst P (ap without_conflict (sym is.meant) ∙ command_meaning words v is.plain) (go forms each is.found)
  where
    go : (fs : List Form)
        → ((form : Form) (texts : List (Option Text)) → IsAmongForms form fs → Finds form texts met → P (without_conflict (asks form.name texts)))
        → IsMet fs is.name is.texts met → P (without_conflict (asks is.name is.texts))
    go [] each found = absurd found
    go (f ∷ fs) each (inl h) = subst (λ (n : Text). P (without_conflict (asks n is.texts))) h.0 (each f is.texts (inl refl) h.1)
    go (f ∷ fs) each (inr h) = go fs (λ form texts among. each form texts (inr among)) h

-- ---- clap's errors

-- the kinds of usage are no calls for help
usage_kind : (kinds : Kinds) (k : ErrorKind) → no_help_kind kinds ≡ true → IsAmong k kinds → is_help_kind k ≡ false
usage_kind [] k e among = absurd among
usage_kind (x ∷ xs) k e (inl is) = rw is (not-true (is_help_kind x) (both (not (is_help_kind x)) (no_help_kind xs) e).0)
usage_kind (x ∷ xs) k e (inr more) = usage_kind xs k (both (not (is_help_kind x)) (no_help_kind xs) e).1 more

usage_list : (kinds : Kinds) → is_usage kinds ≡ true → no_help_kind kinds ≡ true
usage_list kinds e = grind arith

abbrev IsUsage : Reading → Type 0
IsUsage (reading.Usage _) = Unit {0}
IsUsage _ = ⊥

not_help : (k : ErrorKind) (r : Reading) → is_help_kind k ≡ false → IsReadingOfKind k r → IsUsage r
not_help k r e h = grind arith

help_read : (r : Reading) → IsReadingOfKind kind.DisplayHelp r → IsReadingOf help r
help_read r h = grind arith

usage_read : (r : Reading) → IsUsage r → IsReadingOf usage r
usage_read r h = grind arith

-- an error comes to what the words ask for
error_is_meant : (m : Meaning) (kinds : Kinds) (met : Option (Text × List Row)) (k : ErrorKind) (r : Reading) → Fits m kinds met
    → (k ≡ kind.OutOfMemory) ⊎ IsAmong k kinds
    → IsReadingOfKind k r → IsReadingOf (without_conflict m) r
error_is_meant m kinds met k r fits (inl e) h = absurd (subst (λ x. IsReadingOfKind x r) e h)
error_is_meant (asks name texts) kinds met k r fits (inr among) h = absurd (subst (IsAmong k) fits.0 among)
error_is_meant help kinds met k r fits (inr among) h = elim (subst (IsAmong k) fits among) [
  | inl e ↦ help_read r (subst (λ x. IsReadingOfKind x r) e h)
  | inr none ↦ absurd none
]
error_is_meant version kinds met k r fits (inr among) h = absurd fits
error_is_meant usage kinds met k r fits (inr among) h = usage_read r (not_help k r (usage_kind kinds k (usage_list kinds fits) among) h)

-- ---- the program's command

module _ (command : Command) (is : IsProgram command) (words : List Text) where
  -- matches come only where something is asked for, and not by `help`; they have its texts
  pub asked_by_matches : (m : ArgMatches) {X : Type 0} → (is_simple_and_free (app_of command) ≡ true → fault_of (app_of command) words ≡ [])
      → (is_simple (app_of command) ≡ true → X × (subcommand_rows_of m ≡ subcommand_of (app_of command) words)) → IsAsked words (subcommand_rows_of m)
  asked_by_matches m kinds matches =
      let clean : fault_of (dobutsu_app is.0) words ≡ [] = ap (λ a. fault_of a words) (sym is.2.0) ∙ kinds (ap is_simple_and_free is.2.0) in
      let plain : is_topic words ≡ false =
      false_from_ne_true (is_topic words) (λ topic. no_kinds _ _ (sym clean ∙ topic_kinds is.0 is.1 words topic)) in
      let rows : subcommand_rows_of m ≡ subcommand_of (dobutsu_app is.0) words = (matches (ap is_simple is.2.0)).1 ∙ ap (λ a. subcommand_of a words) is.2.0 in
      let fits : Fits (meaning_of_command words) [] (subcommand_of (dobutsu_app is.0) words) =
      subst (λ k. Fits (meaning_of_command words) k (subcommand_of (dobutsu_app is.0) words)) clean (words_fit is.0 is.1 words plain) in
      asked_for words (meaning_of_command words) (subcommand_rows_of m) plain refl (subst (Fits (meaning_of_command words) []) (sym rows) fits)

  -- an error comes to what the words ask for
  pub error_of_words : (e : Error) → is_version words ≡ false → is_topic words ≡ false
      → (is_simple_and_free (app_of command) ≡ true → HasKind (fault_of (app_of command) words) e)
      → (r : Reading) → IsReadingOfKind (kind_of e) r → IsReadingOf (meaning_of words) r
  error_of_words e v t kinds r h =
      let has : HasKind (fault_of (dobutsu_app is.0) words) e = subst (λ a. HasKind (fault_of a words) e) is.2.0 (kinds (ap is_simple_and_free is.2.0)) in
      subst (λ (m : Meaning). IsReadingOf m r) (command_meaning words v t)
      (error_is_meant (meaning_of_command words) (fault_of (dobutsu_app is.0) words) _ (kind_of e) r (words_fit is.0 is.1 words t) has h)
