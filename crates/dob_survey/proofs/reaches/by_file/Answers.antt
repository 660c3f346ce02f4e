-- The table is the file's, and the position one of its family.
use Rattle.dob_survey.proofs.Common.{subst, err_from_is_err_and, IsPositionOf, class_number, IsRefusal}
use Rattle.dob_files.proofs.TableFaults.{refusal_holds}
use Rattle.dob_survey.proofs.reaches.by_file.Goals as goal
use Rattle.dob_survey.proofs.reaches.by_file.Goals.{In_ok-check_member}

pub returns-in_err-check_member : goal.returns-in_err-check_member
returns-in_err-check_member g c =
    let p = err_from_is_err_and c.from_residual-in_err-check_member.result c.from_residual-in_err-check_member.ensures.1 in
    let asked = c.in_ok-table.ensures in
    rw (p.1, p.2) (
      (
        refusal_holds ((g.S.Shelf.state c.args.shelf.now).has c.args.file.now) c.in_ok-table.table asked.0.0.0 c.args.text.now
            c.in_ok-table.position.setup c.in_err-check_member.field-0.0 asked.0.0.1 (subst (λ f. IsRefusal f c.in_ok-table.position.setup c.in_err-check_member.field-0.0) c.family.ensures.family c.in_err-check_member.ensures.refused),
        asked.0.1,
      ),
      asked.1,
    )

-- the position is one of the table's family
member : (g : _) (c : In_ok-check_member g) → IsPositionOf c.in_ok-table.table.family c.in_ok-table.position.setup
member g c = subst (λ f. IsPositionOf f c.in_ok-table.position.setup) c.family.ensures.family c.in_ok-check_member.ensures.member

pub reached_from-requires-clause-member : goal.reached_from-requires-clause-member
reached_from-requires-clause-member g c = λ κs lives.
    rw c.classes.ensures.family (member g (goal.at.reached_from-requires-clause-member g c).In_ok-check_member)

pub by_value-counts-requires : goal.by_value-counts-requires
by_value-counts-requires g c =
    (class_number c.in_ok-table.table.family c.in_ok-table.position.setup, rw c.classes.ensures.family at c.in_ok-reached.ensures)

pub values_asked-requires : goal.values_asked-requires
values_asked-requires g c =
    (class_number c.in_ok-table.table.family c.in_ok-table.position.setup, rw c.classes.ensures.family at c.in_ok-reached.ensures)

pub reach_lines-requires-clause-some : goal.reach_lines-requires-clause-some
reach_lines-requires-clause-some g c = c.in_ok-reached.ensures.some

pub reach_lines-requires-clause-few : goal.reach_lines-requires-clause-few
reach_lines-requires-clause-few g c = rw c.deref.ensures.value c.in_ok-by_code.ensures.few

pub returns : goal.returns
returns g c =
    let asked = c.in_ok-table.ensures in
    let family = c.in_ok-table.table.family in
    let setup = c.in_ok-table.position.setup in
    let found = rw c.classes.ensures.family at c.in_ok-reached.ensures in (
      (
        record {
          table = c.in_ok-table.table;
          is = asked.0.0.0;
          told = record {
            position = setup;
            named = asked.0.0.1;
            member = member g (goal.at.returns g c).In_ok-check_member;
            reached = c.in_ok-reached.reached;
            found = found;
            counts = c.by_value-counts.result;
            counted = c.by_value-counts.ensures (class_number family setup) found;
            by_code = c.in_ok-by_code.by_code.items;
            valued = c.in_ok-by_code.ensures.asked (class_number family setup) found;
            same = rw c.deref.ensures.value at c.in_ok-reach_lines.ensures;
          };
        },
        asked.0.1,
      ),
      asked.1,
    )
