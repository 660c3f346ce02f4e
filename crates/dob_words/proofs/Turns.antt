-- What `clap` makes of one word of the program's command line, at a command whose one flag is the
-- help flag; it may have an option too.
use Rattle.dob_words.proofs.Common.{◌∙◌, ◌∷◌, ◌≡◌, Bool, List, None, Option, Some, [], ap, codes, cond, false, length, refl, subst, suc, sym, true}
use Rattle.dob_words.proofs.Common.{true≢false, ℕ, bytes_eq-Decides, before_first, option_map_or, is_some, not, slice_get, bytes_eq, chars, Kinds, or_else}
use Rattle.dob_words.proofs.Common.{has_byte, long_of, name_and_value, filled, help_rule, Rule, ErrorKind, Text, flag_of, is_help_flag, is_text}
use Rattle.std.proofs.Common.{◌==◌, ◌&&◌, arith}
use Rattle.clap.specs.Walk.{Held, Row, Waiting, attached_value, plain, plain_word, arg_by_long, arg_by_short, bundle_met, long_or_other, takes_values}
use Rattle.clap.specs.Faults.{flag_word_fault, flags_fault, long_fault, option_fault, react_fault, settle_fault, short_fault}
use Rattle.clap.specs.declared.error.kind.ErrorKind.TheVariants as kind
use Rattle.dob_words.proofs.Lexing.{flip, help_dashes, help_long, help_short, View, empty, letter, hyphen, dashes, long, short, hyphen_first, long_name}
use Rattle.dob_words.proofs.Lexing.{no_first, before_none}

-- the help flag, built
abbrev pub help_flag : Rule
help_flag = filled help_rule

-- the words before this one gave these rows, and this argument waits
abbrev pub held : List Row → Option (Text × List Text) → Held
held rows pending = record { rows = rows; pending = pending; skip = 0 }

some≢none : (x : ℕ) → Some x ≡ None → ⊥
some≢none x e = true≢false (ap is_some e)

module _ (c : List Rule) (rows : List Row) (pending : Option (Text × List Text)) where
  abbrev h : Held
  h = held rows pending

  abbrev Plain : Waiting → Text → Type 0
  Plain waiting w = long_or_other c waiting w (long_of w) h ≡ plain_word c waiting w h

  bundle_plain : (k : ℕ) (flags : Text) → slice_get (chars flags) 0 ≡ None → bundle_met c k flags 0 plain h ≡ (h, plain)
  unfolding bundle_met
  bundle_plain k flags e = grind arith

  bundle_passes : (k : ℕ) (flags : Text) → slice_get (chars flags) 0 ≡ None → flags_fault c false k flags 0 h ≡ []
  unfolding flags_fault
  bundle_passes k flags e = grind arith

  -- a text is no flag
  pub text_plain : (waiting : Waiting) (w : Text) → View w → flag_of w ≡ None → Plain waiting w
  text_plain waiting _ empty e = refl
  text_plain waiting _ (letter x rest t) e = rw (t, t) refl
  text_plain waiting _ hyphen e = refl
  text_plain waiting _ dashes e = absurd (some≢none 45 (sym (hyphen_first []) ∙ e))
  text_plain waiting _ (long a cs) e = absurd (some≢none 45 (sym (hyphen_first (a ∷ cs)) ∙ e))
  text_plain waiting _ (short y ys t) e = rw (t, t, bundle_plain (length (y ∷ ys)) (y ∷ ys) e) refl

  pub text_passes : (w : Text) → View w → flag_of w ≡ None → flag_word_fault c false (long_of w) w h ≡ []
  text_passes _ empty e = refl
  text_passes _ (letter x rest t) e = rw (t, t) refl
  text_passes _ hyphen e = refl
  text_passes _ dashes e = absurd (some≢none 45 (sym (hyphen_first []) ∙ e))
  text_passes _ (long a cs) e = absurd (some≢none 45 (sym (hyphen_first (a ∷ cs)) ∙ e))
  text_passes _ (short y ys t) e = rw (t, t, bundle_passes (length (y ∷ ys)) (y ∷ ys) e) refl

-- the command knows the help flag by its names, and no other flag but for options whose names pass
-- the test; a use of the help flag, after what waits, asks for help
pub record KnowsHelp (c : List Rule) (rows : List Row) (pending : Option (Text × List Text)) (is_option : Text → Bool) : Type 0 where
  pub no_option : is_option (codes "help") ≡ false
  pub by_long : (name : Text) → is_option name ≡ false → arg_by_long c name ≡ cond (bytes_eq (codes "help") name) (Some help_flag) None
  pub by_short : (x : ℕ) → arg_by_short c x ≡ cond (104 == x) (Some help_flag) None
  pub asks : react_fault c false help_flag [] (held rows pending) ≡ kind.DisplayHelp ∷ []

-- no option's name
abbrev pub none : Text → Bool
none _ = false

abbrev pub is_help_kind : ErrorKind → Bool
is_help_kind kind.DisplayHelp = true
is_help_kind _ = false

abbrev pub no_help_kind : Kinds → Bool
no_help_kind [] = true
no_help_kind (k ∷ ks) = not (is_help_kind k) && no_help_kind ks

-- there are kinds, and none asks for help
abbrev pub is_usage : Kinds → Bool
is_usage [] = false
is_usage (k ∷ ks) = no_help_kind (k ∷ ks)

-- a first step that is usage makes it usage
pub or_else_usage : (a b : Kinds) → is_usage a ≡ true → is_usage (or_else a b) ≡ true
or_else_usage a b e = grind arith

module _ (c : List Rule) (rows : List Row) (pending : Option (Text × List Text)) (is_option : Text → Bool) (knows : KnowsHelp c rows pending is_option) where
  abbrev g : Held
  g = held rows pending

  -- one flag of a word
  short_help : (x : ℕ) (rest : Text) (next : Held → Kinds) → (104 == x) ≡ true → short_fault c false (arg_by_short c x) rest g next ≡ kind.DisplayHelp ∷ []
  short_help x rest next t = rw (knows.by_short x, t, knows.asks) refl

  short_other : (x : ℕ) (rest : Text) (next : Held → Kinds) → (104 == x) ≡ false
      → short_fault c false (arg_by_short c x) rest g next ≡ kind.UnknownArgument ∷ []
  short_other x rest next t = rw (knows.by_short x, t) refl

  bundle_help : (k : ℕ) (flags : Text) (x : ℕ) → slice_get (chars flags) 0 ≡ Some x → (104 == x) ≡ true
      → flags_fault c false (suc k) flags 0 g ≡ kind.DisplayHelp ∷ []
  unfolding flags_fault
  bundle_help k flags x e t = rw e (short_help x _ _ t)

  bundle_other : (k : ℕ) (flags : Text) (x : ℕ) → slice_get (chars flags) 0 ≡ Some x → (104 == x) ≡ false
      → flags_fault c false (suc k) flags 0 g ≡ kind.UnknownArgument ∷ []
  unfolding flags_fault
  bundle_other k flags x e t = rw e (short_other x _ _ t)

  abbrev fault : Text → Kinds
  fault w = flag_word_fault c false (long_of w) w g

  long_help : (a : ℕ) (cs : Text) → bytes_eq (codes "help") (a ∷ cs) ≡ true → fault (45 ∷ 45 ∷ a ∷ cs) ≡ kind.DisplayHelp ∷ []
  long_help a cs t =
      let same : codes "help" ≡ a ∷ cs = (bytes_eq-Decides (codes "help") (a ∷ cs)).0 t in
      subst (λ (zs : Text). flag_word_fault c false (long_of (45 ∷ 45 ∷ zs)) (45 ∷ 45 ∷ zs) g ≡ kind.DisplayHelp ∷ []) same
      (rw (knows.by_long (codes "help") knows.no_option, knows.asks) refl)

  long_named : (name : Text) (v : Option Text) → is_option name ≡ false → bytes_eq (codes "help") name ≡ false
      → long_fault c false (arg_by_long c name) v g ≡ kind.UnknownArgument ∷ []
  long_named name v own t = rw (knows.by_long name own, t) refl

  long_valued : (name v : Text) → is_option name ≡ false → bytes_eq (codes "help") name ≡ true
      → long_fault c false (arg_by_long c name) (Some v) g ≡ kind.TooManyValues ∷ []
  long_valued name v own t = rw (knows.by_long name own, t) refl

  long_other : (a : ℕ) (cs : Text) → is_option (before_first (λ x. x == 61) (a ∷ cs)) ≡ false → bytes_eq (codes "help") (a ∷ cs) ≡ false
      → is_usage (fault (45 ∷ 45 ∷ a ∷ cs)) ≡ true
  long_other a cs own differs = go (bytes_eq (codes "help") (before_first (λ x. x == 61) (a ∷ cs))) (has_byte 61 (a ∷ cs)) refl refl
    where
      go : (b e : Bool) → bytes_eq (codes "help") (before_first (λ x. x == 61) (a ∷ cs)) ≡ b → has_byte 61 (a ∷ cs) ≡ e
          → is_usage (fault (45 ∷ 45 ∷ a ∷ cs)) ≡ true
      go false e t s = rw (long_named (before_first (λ x. x == 61) (a ∷ cs)) _ own t) refl
      go true true t s = rw (s, long_valued (before_first (λ x. x == 61) (a ∷ cs)) _ own t) refl
      go true false t s = absurd (true≢false (sym t ∙ ap (bytes_eq (codes "help")) (before_none (a ∷ cs) s) ∙ differs))

  -- a word that asks for help
  pub help_word : (w : Text) → View w → is_help_flag w ≡ true → fault w ≡ kind.DisplayHelp ∷ []
  help_word _ empty e = absurd (true≢false (sym e))
  help_word _ (letter x rest t) e = absurd (true≢false (sym (rw (t, flip x 45 false t) at e)))
  help_word _ hyphen e = absurd (true≢false (sym (rw no_first at e)))
  help_word _ dashes e = absurd (true≢false (sym e ∙ help_dashes))
  help_word _ (long a cs) e = long_help a cs (sym (help_long a cs) ∙ e)
  help_word _ (short y ys t) e = go (slice_get (chars (y ∷ ys)) 0) refl (sym (help_short y ys t) ∙ e)
    where
      go : (o : Option ℕ) → slice_get (chars (y ∷ ys)) 0 ≡ o → option_map_or (λ x. 104 == x) o false ≡ true → fault (45 ∷ y ∷ ys) ≡ kind.DisplayHelp ∷ []
      go None is h = absurd (true≢false (sym h))
      go (Some x) is h = rw (t, t, bundle_help (length ys) (y ∷ ys) x is h) refl

  -- another word that begins with a hyphen is no flag of the command
  pub other_word : (w : Text) → View w → is_option (long_name w) ≡ false → is_text w ≡ false → is_help_flag w ≡ false → bytes_eq w (codes "--") ≡ false
      → is_usage (fault w) ≡ true
  other_word _ empty own text e d = absurd (true≢false text)
  other_word _ (letter x rest t) own text e d = absurd (true≢false (rw t at text))
  other_word _ hyphen own text e d = absurd (true≢false (rw no_first at text))
  other_word _ dashes own text e d = absurd (true≢false d)
  other_word _ (long a cs) own text e d = long_other a cs own (sym (help_long a cs) ∙ e)
  other_word _ (short y ys t) own text e d = go (slice_get (chars (y ∷ ys)) 0) refl (sym (help_short y ys t) ∙ e) text
    where
      go : (o : Option ℕ) → slice_get (chars (y ∷ ys)) 0 ≡ o → option_map_or (λ x. 104 == x) o false ≡ false → not (is_some o) ≡ false
          → is_usage (fault (45 ∷ y ∷ ys)) ≡ true
      go None is h none = absurd (true≢false none)
      go (Some x) is h none = rw (t, t, bundle_other (length ys) (y ∷ ys) x is h) refl

-- where what waits can't be used as it is, each word that begins with a hyphen is refused
module _ (c : List Rule) (rows : List Row) (pending : Option (Text × List Text)) (fails : is_usage (settle_fault c false (held rows pending)) ≡ true) where
  abbrev f : Held
  f = held rows pending

  react_fails : (a : Rule) (values : List Text) → is_usage (react_fault c false a values f) ≡ true
  react_fails a values = or_else_usage (settle_fault c false f) _ fails

  option_fails : (a : Rule) (v : Option Text) → is_usage (option_fault c false a v f) ≡ true
  option_fails a None = fails
  option_fails a (Some v) = react_fails a (v ∷ [])

  long_fails : (o : Option Rule) (v : Option Text) → is_usage (long_fault c false o v f) ≡ true
  long_fails None v = refl
  long_fails (Some a) v = grind (arith, option_fails a, react_fails a [])

  short_fails : (o : Option Rule) (rest : Text) (next : Held → Kinds) → is_usage (short_fault c false o rest f next) ≡ true
  short_fails None rest next = refl
  short_fails (Some a) rest next = go (takes_values a) _
    where
      go : (b : Bool) (more : Kinds) → is_usage (cond b (option_fault c false a (attached_value rest) f) (or_else (react_fault c false a [] f) more)) ≡ true
      go true more = option_fails a (attached_value rest)
      go false more = or_else_usage (react_fault c false a [] f) more (react_fails a [])

  bundle_fails : (k : ℕ) (flags : Text) (x : ℕ) → slice_get (chars flags) 0 ≡ Some x → is_usage (flags_fault c false (suc k) flags 0 f) ≡ true
  unfolding flags_fault
  bundle_fails k flags x e = rw e (short_fails (arg_by_short c x) _ _)

  pub word_fails : (w : Text) → View w → is_text w ≡ false → bytes_eq w (codes "--") ≡ false → is_usage (flag_word_fault c false (long_of w) w f) ≡ true
  word_fails _ empty text d = absurd (true≢false text)
  word_fails _ (letter x rest t) text d = absurd (true≢false (rw t at text))
  word_fails _ hyphen text d = absurd (true≢false (rw no_first at text))
  word_fails _ dashes text d = absurd (true≢false d)
  word_fails _ (long a cs) text d = long_fails (arg_by_long c (before_first (λ x. x == 61) (a ∷ cs))) (name_and_value (a ∷ cs)).1
  word_fails _ (short y ys t) text d = go (slice_get (chars (y ∷ ys)) 0) refl text
    where
      go : (o : Option ℕ) → slice_get (chars (y ∷ ys)) 0 ≡ o → not (is_some o) ≡ false
          → is_usage (flag_word_fault c false (long_of (45 ∷ y ∷ ys)) (45 ∷ y ∷ ys) f) ≡ true
      go None is none = absurd (true≢false none)
      go (Some x) is none = rw (t, t) (bundle_fails (length ys) (y ∷ ys) x is)
