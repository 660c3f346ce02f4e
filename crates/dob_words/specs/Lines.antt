-- The lines that ask for something, as a relation between words and the texts that they give.
use Rattle.std.specs.Prelude.{◌≡◌, ◌⊎◌, true, List, [], ◌∷◌, ◌++◌, Option, Some, None, codes}
use Rattle.dob_words.specs.Forms.{Form, Text, is_among, labels}
use Rattle.dob_pieces.specs.Bytes.{equals_sign}
use Rattle.dob_words.specs.Words.{Given, fits, is_text, label_of, text_after, texts_of}

-- behind `--` each word is the text of the next place, whatever it begins with
pub data Later : List Text → List Text → Given → Type 0 where
  none : (left : List Text) → Later left [] []
  next : (label t : Text) (left words : List Text) (given : Given) → Later left words given → Later (label ∷ left) (t ∷ words) ((label, t) ∷ given)

-- the words give these texts, where these places are left
pub data Gives (form : Form) : List Text → List Text → Given → Type 0 where
  nothing : (left : List Text) → Gives form left [] []
  -- a text for the next place
  by_place : (label t : Text) (left words : List Text) (given : Given) → is_text t ≡ true → Gives form left words given
      → Gives form (label ∷ left) (t ∷ words) ((label, t) ∷ given)
  -- `--NAME TEXT`
  by_option : (name label t : Text) (left words : List Text) (given : Given) → label_of form.options name ≡ Some label → is_text t ≡ true
      → Gives form left words given
      → Gives form left ((codes "--" ++ name) ∷ t ∷ words) ((label, t) ∷ given)
  -- `--NAME=TEXT`, where anything may stand behind the `=`
  by_value : (name label t : Text) (left words : List Text) (given : Given) → label_of form.options name ≡ Some label → Gives form left words given
      → Gives form left ((codes "--" ++ name ++ equals_sign ∷ t) ∷ words) ((label, t) ∷ given)
  -- `--NAME` for a flag
  by_flag : (name : Text) (left words : List Text) (given : Given) → is_among form.flags name ≡ true → Gives form left words given
      → Gives form left ((codes "--" ++ name) ∷ words) ((name, []) ∷ given)
  -- `--`
  by_dashes : (left words : List Text) (given : Given) → Later left words given → Gives form left (codes "--" ∷ words) given

-- no label is one of those before, nor of those that stand before it, and each text is a number, or names a profile, that has to
abbrev pub AreNew : Form → Given → Given → Type 0
AreNew form before [] = Unit {0}
AreNew form before (g ∷ more) = (text_after g.0 before ≡ None) × (fits form g.0 g.1 ≡ true) × AreNew form (before ++ g ∷ []) more

-- The words are the subcommand's name, and then each of these texts once, in any order of its options, its flags and its places.
pub record IsCommandLine (form : Form) (words : List Text) (texts : List (Option Text)) : Type 0 where
  pub rest : List Text
  pub given : Given
  pub named : words ≡ form.name ∷ rest
  pub gives : Gives form form.positions rest given
  pub new : AreNew form [] given
  pub complete : texts_of form (labels form) given ≡ Some texts

-- it is one of these
abbrev pub IsAmong : Form → List Form → Type 0
IsAmong form [] = ⊥
IsAmong form (f ∷ fs) = (form ≡ f) ⊎ IsAmong form fs
