-- The text is none of the names, and so the beginning counts.
use Rattle.std.proofs.Common.{◌∙◌, codes, sym}
use Rattle.std.proofs.lemmas.Str.Pattern.{starts_text}
use Rattle.dob_words.proofs.Misplaced.{by_beginning, none_among}
use Rattle.dob_words.proofs.command.misplaced.is_stream.Goals as goal

pub returns-else-starts_with : goal.returns-else-starts_with
returns-else-starts_with c =
    by_beginning c.args.text.now _ (none_among c.args.text.now c.in_default.not-text c.in_default.not-text-2 c.in_default.not-text-3 c.in_default.not-text-4) (sym (starts_text c.starts_with.result (codes "/dev/fd/") c.args.text.now c.starts_with.ensures.cases)
    ∙ c.if-starts_with.false) (starts_text c.starts_with-else-starts_with.result (codes "/proc/self/fd/") c.args.text.now c.starts_with-else-starts_with.ensures.cases)
