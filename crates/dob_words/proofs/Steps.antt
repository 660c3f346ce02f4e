-- What one word of the program's command line does to the walk over the words.
use Rattle.dob_words.proofs.Common.{◌∙◌, ◌∷◌, ◌≡◌, Bool, List, None, Option, [], ap, codes, false, true, ℕ, bytes_eq, Kinds, or_else, Shape, Text, is_help_flag}
use Rattle.dob_words.proofs.Common.{is_text}
use Rattle.clap.specs.Walk.{Held, Names, Row, Step, Waiting, Walk, after_step, arg_by_index, idle, plain_word, subcommand_met, to_positional, value, walked}
use Rattle.clap.specs.Walk.{word_met}
use Rattle.clap.specs.Faults.{settle_fault, step_fault, turn_fault, word_fault}
use Rattle.clap.specs.declared.error.kind.ErrorKind.TheVariants as kind
use Rattle.dob_words.proofs.Lexing.{long_name, view, text_flag, text_differs, help_differs}
use Rattle.dob_words.proofs.Turns.{KnowsHelp, held, help_word, is_usage, or_else_usage, other_word, text_passes, text_plain, word_fails}

-- between two words, before any `--`
abbrev pub open_at : List Row → Option (Text × List Text) → ℕ → Walk
open_at rows pending p = record { held = held rows pending; waiting = idle; position = p; is_trailing = false; stopped = None }

-- the same behind `--`
abbrev pub closed_at : List Row → Option (Text × List Text) → ℕ → Walk
closed_at rows pending p = record { held = held rows pending; waiting = idle; position = p; is_trailing = true; stopped = None }

-- before any `--`, where the next word may be what waits
abbrev pub waiting_at : Waiting → List Row → Option (Text × List Text) → ℕ → Walk
waiting_at waiting rows pending p = record (open_at rows pending p) { waiting = waiting }

module _ (s : Shape) (names : Names) (rows : List Row) (pending : Option (Text × List Text)) (p : ℕ) where
  abbrev w : Walk
  w = open_at rows pending p

  abbrev met : Waiting → Text → Held × Step
  met waiting word = word_met s.rules names false waiting p word (held rows pending)

  text_met : (waiting : Waiting) (word : Text) → subcommand_met names waiting word ≡ None → is_text word ≡ true
      → met waiting word ≡ plain_word s.rules waiting word (held rows pending)
  text_met waiting word none text = rw (none, text_differs word text) (text_plain s.rules rows pending waiting word (view word) (text_flag word text))

  -- a text goes to what waits for it
  pub text_taken : (waiting : Waiting) (word : Text) → subcommand_met names waiting word ≡ None → is_text word ≡ true
      → walked s.rules names (waiting_at waiting rows pending p) word
      ≡ after_step s.rules word (waiting_at waiting rows pending p) (plain_word s.rules waiting word (held rows pending)).0
      (plain_word s.rules waiting word (held rows pending)).1
  unfolding walked
  text_taken waiting word none text =
      ap (λ (m : Held × Step). after_step s.rules word (waiting_at waiting rows pending p) m.0 m.1) (text_met waiting word none text)

  pub text_turn_at : (waiting : Waiting) (word : Text) → subcommand_met names waiting word ≡ None → s.args_override_self ≡ false → is_text word ≡ true
      → turn_fault s names (waiting_at waiting rows pending p) word
      ≡ step_fault s p (plain_word s.rules waiting word (held rows pending)).0 (plain_word s.rules waiting word (held rows pending)).1
  text_turn_at waiting word none again text =
      let passes : word_fault s names false waiting word (held rows pending) ≡ [] =
      rw (none, text_differs word text, again) (text_passes s.rules rows pending word (view word) (text_flag word text)) in
      ap (λ (k : Kinds). or_else k (step_fault s p (met waiting word).0 (met waiting word).1)) passes
      ∙ ap (λ (m : Held × Step). step_fault s p m.0 m.1) (text_met waiting word none text)

  -- a text goes to the positional
  pub text_walked : (word : Text) → subcommand_met names idle word ≡ None → is_text word ≡ true
      → walked s.rules names w word ≡ to_positional s.rules (arg_by_index s.rules p) word w (held rows pending)
  text_walked word none text = text_taken idle word none text

  -- and fails only where no positional takes it
  pub text_turn : (word : Text) → subcommand_met names idle word ≡ None → s.args_override_self ≡ false → is_text word ≡ true
      → turn_fault s names w word ≡ step_fault s p (held rows pending) value
  text_turn word none again text = text_turn_at idle word none again text

  -- where what waits can't be used as it is, a word that begins with a hyphen is refused
  pub failing_turn : (waiting : Waiting) (word : Text) → subcommand_met names waiting word ≡ None → s.args_override_self ≡ false
      → is_usage (settle_fault s.rules false (held rows pending)) ≡ true → is_text word ≡ false → bytes_eq word (codes "--") ≡ false
      → is_usage (turn_fault s names (waiting_at waiting rows pending p) word) ≡ true
  failing_turn waiting word none again fails text differs =
      or_else_usage (word_fault s names false waiting word (held rows pending)) _
      (rw (none, differs, again) (word_fails s.rules rows pending fails word (view word) text differs))

  -- a word that asks for help ends the walk
  pub help_turn : (word : Text) (is_option : Text → Bool) → subcommand_met names idle word ≡ None → s.args_override_self ≡ false
      → KnowsHelp s.rules rows pending is_option
      → is_help_flag word ≡ true → turn_fault s names w word ≡ kind.DisplayHelp ∷ []
  help_turn word is_option none again knows asks =
      let fails : word_fault s names false idle word (held rows pending) ≡ kind.DisplayHelp ∷ [] =
      rw (none, help_differs word asks, again) (help_word s.rules rows pending is_option knows word (view word) asks) in
      ap (λ (k : Kinds). or_else k (step_fault s p (met idle word).0 (met idle word).1)) fails

  -- so does any other word that begins with a hyphen
  pub other_turn : (word : Text) (is_option : Text → Bool) → subcommand_met names idle word ≡ None → s.args_override_self ≡ false
      → KnowsHelp s.rules rows pending is_option
      → is_option (long_name word) ≡ false → is_text word ≡ false → is_help_flag word ≡ false → bytes_eq word (codes "--") ≡ false
      → is_usage (turn_fault s names w word) ≡ true
  other_turn word is_option none again knows own text asks differs =
      or_else_usage (word_fault s names false idle word (held rows pending)) _
      (rw (none, differs, again) (other_word s.rules rows pending is_option knows word (view word) own text asks differs))
