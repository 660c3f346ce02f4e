-- That words are those of a closed view has one proof at most.
use Rattle.std.specs.Prelude.{ℕ, Bool, List}
use Rattle.std.specs.Coded.{Coded-set, coded_ℕ, coded_bool, Π_prop}
use Rattle.dob_board.specs.declared.view.View.{View}
use Rattle.dob_board.specs.Boards.{AreAsWitnessed}

pub ℕ-set : IsSet ℕ
ℕ-set = Coded-set coded_ℕ

Bool-set : IsSet Bool
Bool-set = Coded-set coded_bool

pub AreAsWitnessed-prop : (view : View) (words : List ℕ) → IsProp (AreAsWitnessed view words)
AreAsWitnessed-prop view words a b = λ i. record {
  is_closed = Bool-set _ _ a.is_closed b.is_closed i;
  count = ℕ-set _ _ a.count b.count i;
  nodes = ℕ-set _ _ a.nodes b.nodes i;
  token = Π_prop (λ ring. Π_prop (λ word. Π_prop (λ _. Π_prop (λ _. ℕ-set _ _)))) a.token b.token i;
  announced = Π_prop (λ ring. Π_prop (λ _. Bool-set _ _)) a.announced b.announced i;
  halt_is = ℕ-set _ _ a.halt_is b.halt_is i;
  halt_seen = Π_prop (λ k. Π_prop (λ stand. Π_prop (λ _. Π_prop (λ _. ℕ-set _ _)))) a.halt_seen b.halt_seen i;
  failed = Π_prop (λ k. Π_prop (λ stand. Π_prop (λ _. Π_prop (λ _. ℕ-set _ _)))) a.failed b.failed i;
  posted = Π_prop (λ k. Π_prop (λ j. Π_prop (λ stand. Π_prop (λ _. Π_prop (λ _. ℕ-set _ _))))) a.posted b.posted i;
  taken = Π_prop (λ k. Π_prop (λ j. Π_prop (λ stand. Π_prop (λ _. Π_prop (λ _. ℕ-set _ _))))) a.taken b.taken i;
}
