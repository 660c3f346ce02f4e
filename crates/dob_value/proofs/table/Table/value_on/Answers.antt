-- A class number below the count has a value.
use Rattle.dob_value.proofs.Common.{subst, ClassTable, HasInTable}
use Rattle.dob_distance.proofs.Parity.{entry_read}
use Rattle.dob_moves.specs.Shown.{setup_on}
use Rattle.dob_value.proofs.Rows.{class_has_code}
use Rattle.dob_value.proofs.table.Table.value_on.Goals as goal

pub get-requires : goal.get-requires
get-requires c =
    let inside = c.self.inside in
    class_has_code inside.classes.family inside.codes c.class_of-number.result c.self.invariant.classes c.class_of-number.ensures.bound

pub returns : goal.returns
returns c =
    let inside = c.self.inside in
    let class = c.class_of-number.result in
    let v = c.value_of_code.result in
    let within = class_has_code inside.classes.family inside.codes class c.self.invariant.classes c.class_of-number.ensures.bound in
    subst (λ (t : ClassTable). HasInTable t.family t.values (setup_on c.args.position.now.board) v) c.self.view_is
    (record {
      class = class;
      number = c.class_of-number.ensures.class;
      entry = entry_read inside.codes class c.get.result v c.get.ensures.get c.value_of_code.ensures.value;
    })
