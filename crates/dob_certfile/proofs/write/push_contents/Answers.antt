-- Each list has few entries, and the pieces are the contents.
use Rattle.dob_certfile.proofs.Common.{Lost, Held, ap, arith, length, classes_of-below, classes_of, content}
use Rattle.dob_certfile.proofs.Files.{few_entries, pieces}
use Rattle.dob_certfile.proofs.write.push_contents.Goals as goal

pub overflow_cast-lost : goal.overflow_cast-lost
overflow_cast-lost c =
    let family = c.args.file.now.family in
    let few = few_entries Lost (classes_of family) c.args.file.now.certificate.lost c.requires.lost in
    omega (arith, few, classes_of-below family, ap length c.as_slice-lost.ensures.entries)

pub overflow_cast-held : goal.overflow_cast-held
overflow_cast-held c =
    let family = c.args.file.now.family in
    let few = few_entries Held (classes_of family) c.args.file.now.certificate.held c.requires.held in
    omega (arith, few, classes_of-below family, ap length c.as_slice-held.ensures.entries)

pub returns : goal.returns
returns c =
    pieces (content c.args.file.now) c.as_slice-lost.result.now c.as_slice-held.result.now c.args.bytes.now.items c.push_front.new.bytes.items c.push_word.new.bytes.items
    c.push_word-2.new.bytes.items c.push_entries.new.bytes.items c.push_entries-2.new.bytes.items c.as_slice-lost.ensures.entries c.as_slice-held.ensures.entries
    c.in_ok-push_front.ensures c.in_ok-push_word.ensures c.in_ok-push_word-2.ensures c.in_ok-push_entries.ensures c.in_ok-push_entries-2.ensures
