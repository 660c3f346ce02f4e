-- The bytes of one number more.
use Rattle.dob_dbfile.proofs.Common.{◌++◌, ◌∙◌, ◌∷◌, [], List, ap, append_assoc, ℕ}
use Rattle.std.proofs.Common.{get_or}
use Rattle.dob_dbfile.proofs.records.push_record.Goals as goal

pub returns-clause-items : goal.returns-clause-items
returns-clause-items c =
    let old = c.args.bytes.now.items in
    let last = get_or c.write_u16.new.buf 1 0 ∷ [] in
    c.push_reserved-2.ensures.items ∙ ap (λ (front : List ℕ). front ++ last) c.push_reserved.ensures.items
    ∙ append_assoc old (get_or c.write_u16.new.buf 0 0 ∷ []) last ∙ ap (λ (l : List ℕ). old ++ get_or l 0 0 ∷ get_or l 1 0 ∷ []) c.write_u16.ensures
