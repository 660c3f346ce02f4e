-- The pairs are those of the file's table.
use Rattle.dob_survey.proofs.Common.{◌∙◌, List, ap, subst, sym, AreCounts, ArePairs, Zugzwang, zugzwang_lines}
use Rattle.dob_survey.proofs.zugzwangs.answer_zugzwangs.Goals as goal

pub pairs_told-requires : goal.pairs_told-requires
pairs_told-requires g c = subst (ArePairs c.in_ok-table.table) (sym c.deref.ensures.value) c.in_ok-pairs.ensures

pub returns : goal.returns
returns g c =
    let opened = c.in_ok-table.ensures.opened in
    let told = c.in_ok-pairs_told.ensures in (
      (
        record {
          table = c.in_ok-table.table;
          is = opened.0.0;
          told = record {
            pairs = c.in_ok-pairs.pairs.items;
            found = c.in_ok-pairs.ensures;
            counts = told.0;
            counted = subst (λ (pairs : List Zugzwang). AreCounts pairs told.0) c.deref.ensures.value told.1;
            same = told.2 ∙ ap (zugzwang_lines c.in_ok-table.table.family told.0 c.args.listed) c.deref.ensures.value;
          };
        },
        opened.0.1,
      ),
      opened.1,
    )
