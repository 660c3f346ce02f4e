-- What the copies know, where histories or the items applied are the same, and which values they can know.
use Rattle.dob_history.proofs.Common.{◌&&◌, ◌<◌, ◌∷◌, ◌≡◌, All, All-head, All-tail, Better, Bool, Contains, Draw, FollowsFromKnown, IsEntry, IsShort, Item, List}
use Rattle.dob_history.proofs.Common.{Loss, Settlement, Value, Win, [], all_known, arith, cond, cond_both, eqb, items_to, known, last_now, ltb, owner_of, refl}
use Rattle.dob_history.proofs.Common.{subst, ℕ}
use Rattle.dob_history.proofs.Copies.{all_known-each, known_by}
use Rattle.dob_history.proofs.Rest.{below_owner}

-- the same histories and the same items applied teach the same
pub all_known-same : (targets : ℕ → List ℕ) (classes n : ℕ) (histories after : ℕ → List Settlement) (applied items : ℕ → List Item) (p : ℕ) →
    ((k : ℕ) → after k ≡ histories k) → ((k : ℕ) → items k ≡ applied k) →
    all_known targets classes n after items p ≡ all_known targets classes n histories applied p
all_known-same targets classes n histories after applied items p same_h same_a =
    all_known-each targets classes n histories after applied items p (λ q copy. rw (same_h (owner_of n q), same_a (owner_of n q)) refl)

-- ---- values that a table can have
pub last_now-entry : (test : Settlement → Bool) (v : Value) (ss : List Settlement) → IsEntry v → All (λ (s : Settlement). IsEntry s.now) ss →
    IsEntry (last_now test v ss)
last_now-entry test v [] is all = is
last_now-entry test v (s ∷ ss) is all =
    last_now-entry test (cond (test s) s.now v) ss
    (cond_both (test s) s.now v IsEntry (λ _. All-head (λ (r : Settlement). IsEntry r.now) s ss all) (λ _. is))
    (All-tail (λ (r : Settlement). IsEntry r.now) s ss all)

pub known_entries : (targets : ℕ → List ℕ) (classes n : ℕ) (histories : ℕ → List Settlement) (applied : ℕ → List Item) (p : ℕ) → 0 < n →
    ((i : ℕ) → i < n → All (λ (s : Settlement). IsEntry s.now) (histories i)) → (v : Value) →
    Contains (all_known targets classes n histories applied p) v → IsEntry v
known_entries targets classes n histories applied p some entries v there =
    let at = known_by targets classes n histories applied p v there in
    subst IsEntry at.4 (last_now-entry (λ s. eqb s.class at.0 && ltb at.2 (items_to (applied (owner_of n at.0)) s.number p)) Draw
    (histories (owner_of n at.0)) tt (entries (owner_of n at.0) (below_owner n at.0 some)))

-- a value that follows from such values, and is short, is one
pub follows_entry : (known : List Value) (v : Value) → ((u : Value) → Contains known u → IsEntry u) → FollowsFromKnown known v → IsShort v → IsEntry v
follows_entry known (Win plies) entries follows short = grind (arith, entries (Loss follows.0) follows.2)
follows_entry known (Loss plies) entries follows short = grind (arith, entries (Win follows.0) follows.2)
follows_entry known Draw entries follows short = tt

-- ---- better values differ
pub better_apart : (was now : Value) → Better was now → was ≡ now → ⊥
better_apart was now better same = grind arith
