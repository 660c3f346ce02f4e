-- The class is counted by its code where it is marked.
use Rattle.dob_reach.proofs.Common.{◌<◌, ◌∙◌, ap, arith, false≢true, get_or_default, sym}
use Rattle.std.specs.Prelude.{option_map}
use Rattle.std.proofs.lemmas.Option.{slice_get-map}
use Rattle.dob_distance.specs.Codes.{value_of_code, values_of_codes}
use Rattle.dob_reach.proofs.Coded.{coded_few, coded_more, coded_same}
use Rattle.dob_reach.proofs.search.Reached.count_class.Goals as goal

-- a count is no more than the classes so far
pub overflow_add-index_mut : goal.overflow_add-index_mut
overflow_add-index_mut c =
    let counts = c.args.counts.now.items in
    let code = c.get.result in
    let within : code < 65536 = c.get.type_inv in
    let read = c.index_mut.ensures.value ∙ get_or_default counts code c.index_mut.result.now 0 (omega (arith, within, c.requires.counted.all)) in
    let few = coded_few c.args.self.now.marks.words.items (values_of_codes c.args.codes.now) c.args.class code counts within c.requires.counted in
    omega (arith, read, few, c.requires.within, c.requires.few)

pub returns-then-has : goal.returns-then-has
returns-then-has c =
    let counts = c.args.counts.now.items in
    let code = c.get.result in
    let within : code < 65536 = c.get.type_inv in
    let read = c.index_mut.ensures.value ∙ get_or_default counts code c.index_mut.result.now 0 (omega (arith, within, c.requires.counted.all)) in
    rw read (coded_more c.args.self.now.marks.words.items (values_of_codes c.args.codes.now) c.args.class code counts within
    (c.has.ensures.0 c.if-has.true) (slice_get-map value_of_code c.args.codes.now c.args.class ∙ ap (option_map value_of_code) c.get.ensures.get)
    c.requires.counted)

pub returns-else-has : goal.returns-else-has
returns-else-has c =
    coded_same c.args.self.now.marks.words.items (values_of_codes c.args.codes.now) c.args.class c.args.counts.now.items
    (λ is. false≢true (sym c.if-has.false ∙ c.has.ensures.1 is)) c.requires.counted
