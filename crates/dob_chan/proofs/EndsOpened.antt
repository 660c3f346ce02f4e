-- Sending ends that are opened one after another.
use Rattle.dob_chan.proofs.Common.{◌++◌, ◌∙◌, ◌∷◌, ◌≡◌, List, [], length, subst, sym, ℕ, ⊎_elim, Pass, at_end, BatchView, AreOpened, IsEndOpened, SendEnd, Note}

-- the ends with the next one behind them; the taking pass is still of the same inbox
pub one_opened : (old new : Pass BatchView Note) (capacity senders : ℕ) (sends : List SendEnd) (send : SendEnd) → new.table_id ≡ old.table_id
    → AreOpened old capacity senders sends → IsEndOpened old capacity senders (length sends) send → AreOpened new capacity senders (sends ++ send ∷ [])
one_opened old new capacity senders sends send same all one from other e = ⊎_elim
    (λ before. let a = all from other before in (a.0 ∙ sym same, a.1, a.2, a.3, a.4))
    (λ now. subst (λ (y : ℕ × SendEnd). IsEndOpened new capacity senders y.0 y.1) (λ i. (sym now.0 i, now.1 i)) (one.0 ∙ sym same, one.1, one.2, one.3, one.4))
    (at_end sends send other from e)
