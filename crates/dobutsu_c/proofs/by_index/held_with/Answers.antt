-- The numbers are marked as an index of the file's family and count as many classes, or they are none.
use Rattle.dobutsu_c.proofs.Common.{◌∙◌, arith, inl, sym, both_ways, classes_of-below}
use Rattle.dobutsu_c.specs.declared.numbering.Numbering.TheVariants as numbering
use Rattle.dobutsu_c.proofs.Indexed.{by_file_fault, counted, held_right, same_classes}
use Rattle.dobutsu_c.proofs.by_index.held_with.Goals as goal

pub returns-in_default : goal.returns-in_default
returns-in_default c =
    by_file_fault c.args.file.now (numbering.Index c.args.words) c.fault_of.result c.fault_of.ensures (λ format family is index. c.in_default.ensures format family is)

pub returns-then-not-is_index_of : goal.returns-then-not-is_index_of
returns-then-not-is_index_of c =
    let held = c.in-Some.held in
    (held.format, held.family, inl ((λ marked. both_ways _ c.if-not-is_index_of.true (c.is_index_of.ensures.1 marked)), held.classes, c.in-Some.ensures))

pub returns-then-classes_in-held : goal.returns-then-classes_in-held
returns-then-classes_in-held c =
    let held = c.in-Some.held in record {
      named = c.in-Some.ensures.named;
      marked = c.is_index_of.ensures.0 c.if-not-is_index_of.false;
      long = c.in-Some.ensures.long;
      right = λ is. held_right c.args.file.now (numbering.Index c.args.words) held.format held.family held.classes c.in-Some.ensures.named c.in-Some.ensures.counted
          c.in-Some.ensures.long
          (counted held.family c.args.words.now held.classes (λ small. sym c.if-classes_in-held.true ∙ c.classes_in.ensures.value small) is);
    }

pub returns-else-classes_in-held : goal.returns-else-classes_in-held
returns-else-classes_in-held c =
    let held = c.in-Some.held in
    by_file_fault c.args.file.now (numbering.Index c.args.words) c.fault_of-else-classes_in-held.result c.fault_of-else-classes_in-held.ensures (λ format family is index.
    let same = same_classes c.args.file.now held.format format held.family family held.classes c.in-Some.ensures is in
    let few = classes_of-below family in
    let count = index.count_is in
    let read = c.classes_in.ensures.value (omega (arith, few, count)) in
    let classes = same.1 in
    omega (arith, read, count, classes, c.if-classes_in-held.false))
