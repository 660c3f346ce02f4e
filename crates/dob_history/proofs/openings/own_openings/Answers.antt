-- One own class more has its opening; at the end all have.
use Rattle.dob_history.proofs.Common.{◌*◌, ◌+◌, ◌<◌, ◌∙◌, ◌≡◌, AreOwnSoFar, IsOpening, ap, arith, class_of_place, class_setup, classes_of, length, subst, sym, ℕ}
use Rattle.std.proofs.lemmas.List.{length_push}
use Rattle.dob_history.proofs.Found.{own_none, own_more}
use Rattle.dob_history.proofs.openings.own_openings.Goals.{After-get}
use Rattle.dob_history.proofs.openings.own_openings.Goals as goal

pub loop-place-init : goal.loop-place-init
loop-place-init c = (ap length c.new-own.ensures, rw c.new-own.ensures (own_none c.args.classes.now.family c.args.nodes c.args.id))

-- the class at the place is one of the family
inside : (c : After-get) → c.loop-place.place * c.get.result + c.args.id < classes_of c.args.classes.now.family
inside c = rw (c.get.ensures.value, ← c.class_count.ensures.number) ((c.places_among-places.ensures c.loop-place.place).0 (omega arith))

pub opening_in-requires : goal.opening_in-requires
opening_in-requires c = inside (goal.at.opening_in-requires c).After-get

pub loop-place-preserved : goal.loop-place-preserved
loop-place-preserved c =
    let l = c.loop-place in
    let family = c.args.classes.now.family in
    let is : IsOpening family.profile (class_setup family (class_of_place c.args.nodes c.args.id (length l.own))) c.opening_in.result
    = rw (l.invariant.0, ← c.get.ensures.value) c.opening_in.ensures in (
      ap length c.in_ok-push.ensures.appended ∙ length_push l.own c.opening_in.result ∙ ap (λ (k : ℕ). k + 1) l.invariant.0,
      subst (AreOwnSoFar family c.args.nodes c.args.id) (sym c.in_ok-push.ensures.appended)
          (own_more family c.args.nodes c.args.id l.own c.opening_in.result l.invariant.1 is),
    )

pub returns : goal.returns
returns c =
    let l = c.loop-place in
    let end : l.place ≡ c.places_among-places.result = omega arith in
    let many : length l.own ≡ c.places_among-places.result = l.invariant.0 ∙ end in
    record {
      places = λ place. rw (many, ← c.class_count.ensures.number) (c.places_among-places.ensures place);
      each = l.invariant.1;
    }
