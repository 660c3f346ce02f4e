-- What was done is what the words that were given ask for.
use Rattle.std.proofs.Common.{◌∙◌, ap, map, string_bytes}
use Rattle.std.proofs.Common.{refl}
use Rattle.dob_cli.proofs.Runs.{leaves, ran_alone, ran_at_on, ran_memory}
use Rattle.dob_cli.proofs.program.run_args.Goals as goal

pub returns-in_default : goal.returns-in_default
returns-in_default g c = ran_alone _ _ _ _ (ran_memory _ _ _ (c.tell_memory.ensures, refl) (leaves (g.S.Shelf.state c.args.shelf.now)))

pub returns-in_default-texts_of : goal.returns-in_default-texts_of
returns-in_default-texts_of g c =
    ran_alone _ _ _ _ (ran_memory _ _ _ (c.tell_memory-in_default-texts_of.ensures, refl) (leaves (g.S.Shelf.state c.args.shelf.now)))

pub returns : goal.returns
returns g c =
    ran_at_on _ _ _ _ _
    (ap (map (λ w. w.now)) c.deref-2.ensures.value ∙ (c.in-Ok-texts_of.ensures ∙ ap (map string_bytes) (c.deref.ensures.value ∙ c.in-Ok.ensures)))
    c.run_at.ensures
