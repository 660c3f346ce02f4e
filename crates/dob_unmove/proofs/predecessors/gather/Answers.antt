-- The walk over the representative counts the edges.
use Rattle.dob_unmove.proofs.Common.{◌≡◌, ℕ, ap, subst, sym, turned, Family, IsPositionOf, IsSeenTurned, RepresentsClass, Setup, AreWays, seen_after}
use Rattle.dob_rank.specs.Families.{class_setup}
use Rattle.dob_unmove.proofs.Classes.{IsNumbering-classes}
use Rattle.dob_unmove.proofs.Edges.{class_seen}
use Rattle.dob_unmove.proofs.InOneWalk.{found_in_one}
use Rattle.dob_unmove.proofs.Kept.{legal_turned}
use Rattle.dob_unmove.proofs.predecessors.gather.Goals as goal
use Rattle.dob_unmove.proofs.predecessors.gather.Goals.{After-of-ways}

-- the ways into the representative
ways_are : (c : After-of-ways) → AreWays (turned (class_setup c.args.classes.now.family c.args.class)) c.of-ways.result
ways_are c =
    let family = c.args.classes.now.family in
    let after = turned (class_setup family c.args.class) in
    c.of-ways.ensures after (legal_turned family after (class_seen family c.args.class c.requires.class)) c.requires.board

pub of-ways-requires : goal.of-ways-requires
of-ways-requires c =
    let family = c.args.classes.now.family in
    let after = turned (class_setup family c.args.class) in
    (after, legal_turned family after (class_seen family c.args.class c.requires.class), c.requires.board)

-- the setup that the walk is of
after_is : (family : Family) (class led_to : ℕ) → led_to ≡ class → seen_after family led_to ≡ turned (class_setup family class)
unfolding seen_after
after_is family class led_to e = ap (seen_after family) e

pub is_own_image-requires-clause-ways : goal.is_own_image-requires-clause-ways
is_own_image-requires-clause-ways c = ways_are (goal.at.is_own_image-requires-clause-ways c).After-of-ways

pub gather_all-requires : goal.gather_all-requires
gather_all-requires c =
    let family = c.args.classes.now.family in
    let same = sym (after_is family c.args.class c.of.result.value c.of.ensures) in
    record {
      of_set = subst (IsSeenTurned (IsPositionOf family)) same (class_seen family c.args.class c.requires.class);
      ways_are = subst (λ (s : Setup). AreWays s c.of-ways.result) same (ways_are (goal.at.gather_all-requires c).After-of-ways);
    }

pub returns : goal.returns
returns c =
    let family = c.args.classes.now.family in
    found_in_one (RepresentsClass family) (IsNumbering-classes family) c.is_own_image.result (class_setup family c.args.class) _ _
    c.gather_all.new.found.items (class_seen family c.args.class c.requires.class).1.of_set.legal c.is_own_image.ensures
    (after_is family c.args.class c.of.result.value c.of.ensures) c.clear.ensures.items c.in_ok-gather_all.ensures
