-- The groups are those of the file's table.
use Rattle.dob_survey.proofs.stats.answer_stats.Goals as goal

pub returns : goal.returns
returns g c =
    let opened = c.in_ok-table.ensures.opened in (
      (
        record {
          table = c.in_ok-table.table;
          is = opened.0.0;
          told = record {
            groups = c.in_ok-groups.groups.items;
            grouped = c.in_ok-groups.ensures;
            told = rw c.deref.ensures.value at c.in_ok-told_lines.ensures;
          };
        },
        opened.0.1,
      ),
      opened.1,
    )
