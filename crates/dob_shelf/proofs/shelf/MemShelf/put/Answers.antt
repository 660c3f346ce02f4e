-- What the map has under its names after `insert`.
use Rattle.std.proofs.Common.{string_bytes}
use Rattle.std.proofs.lemmas.Map.Text.{btree_map_updates_text}
use Rattle.dob_pieces.proofs.Results.{on_err}
use Rattle.dob_shelf.specs.Shelves.{bytes_in}
use Rattle.dob_shelf.proofs.Shelves.{gives_new, has_just, keeps_other, same_entries, same_files, same_others}
use Rattle.dob_shelf.proofs.shelf.MemShelf.put.Goals as goal

pub returns-in_err-insert-clause-unchanged : goal.returns-in_err-insert-clause-unchanged
returns-in_err-insert-clause-unchanged c =
    on_err c.from_residual-in_err-insert.result
    (same_files (bytes_in c.args.self.now.files) (bytes_in c.insert.new.self)
    (same_entries c.args.self.now.files c.insert.new.self c.in_err-insert.ensures.err))

pub returns-clause-put : goal.returns-clause-put
returns-clause-put c =
    let named = c.in_ok-name.ensures.ok in
    let sets = btree_map_updates_text (string_bytes c.in_ok-name.name) c.args.self.now.files c.insert.new.self _ c.in_ok-insert.ensures.updates in
    has_just c.args.name.now c.args.bytes.items (bytes_in c.insert.new.self)
    (gives_new c.args.self.now.files c.insert.new.self c.args.name.now c.args.bytes (rw named at sets))

pub returns-clause-others : goal.returns-clause-others
returns-clause-others c =
    let named = c.in_ok-name.ensures.ok in
    let sets = btree_map_updates_text (string_bytes c.in_ok-name.name) c.args.self.now.files c.insert.new.self _ c.in_ok-insert.ensures.updates in
    same_others c.args.name.now (bytes_in c.args.self.now.files) (bytes_in c.insert.new.self)
    (keeps_other c.args.self.now.files c.insert.new.self c.args.name.now c.args.bytes (rw named at sets))
