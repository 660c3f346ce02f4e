-- The header says no profile, or has another number than that of the family's classes.
use Rattle.dob_dbfile.proofs.Common.{◌∙◌, ◌≡◌, ap, false, sym, true, family_of, count_place, header_len, count_bytes}
use Rattle.dob_dbfile.proofs.Headers.{count_last, last_count}
use Rattle.dob_dbfile.proofs.header.family_counted.Goals as goal

pub returns-in_default-clause-fault : goal.returns-in_default-clause-fault
returns-in_default-clause-fault c = (c.args.format, c.args.set, c.requires.named, λ profile names. c.in_default.ensures profile names.1)

pub returns-else-is_count-clause-fault : goal.returns-else-is_count-clause-fault
returns-else-is_count-clause-fault c =
    let family = family_of c.args.set c.in-Some.profile in (
      c.args.format,
      family,
      (c.requires.named, c.in-Some.ensures),
      λ counts.
          let counted = last_count (count_place c.args.format) c.header_len.result (header_len c.args.format) c.args.header.now c.requires.long
          c.header_len.ensures (count_last c.args.format) ∙ counts.1 ∙ ap count_bytes (sym c.count_classes.ensures.number) in
          let never : false ≡ true = c.if-is_count.ensures.1 counted in
          absurd (cc),
    )
