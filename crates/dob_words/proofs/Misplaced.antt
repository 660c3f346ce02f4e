-- Texts that are no names of the program's own streams.
use Rattle.dob_words.proofs.Common.{◌≡◌, Bool, false, refl, sym, false_from_ne_true, bytes_eq-Decides, starts_with, ◌==◌, bytes_eq, is_stream, streams}
use Rattle.std.specs.Prelude.{◌≢◌, codes}
use Rattle.dob_words.specs.Forms.{Text, is_among}

pub none_among : (t : Text) → t ≢ codes "-" → t ≢ codes "/dev/stdin" → t ≢ codes "/dev/stdout" → t ≢ codes "/dev/stderr" → is_among streams t ≡ false
none_among t a b c d = rw (differs (codes "-") a, differs (codes "/dev/stdin") b, differs (codes "/dev/stdout") c, differs (codes "/dev/stderr") d) refl
  where
    differs : (name : Text) → t ≢ name → bytes_eq name t ≡ false
    differs name other = false_from_ne_true (bytes_eq name t) (λ e. other (sym ((bytes_eq-Decides name t).0 e)))

-- no name of a stream is the text, and so it is one just where it begins so
pub by_beginning : (t : Text) (r : Bool) → is_among streams t ≡ false → starts_with ◌==◌ t (codes "/dev/fd/") ≡ false
    → r ≡ starts_with ◌==◌ t (codes "/proc/self/fd/") → r ≡ is_stream t
by_beginning t r none first second = rw (none, first) second
