-- Where positions have the same values by two relations, lines and valued moves by the one are lines and valued moves by the other.
use Rattle.dob_probe.proofs.Common.{◌∷◌, List, [], inl, inr, Profile, Setup, Goes, HasStatus, Move, Open, Value, Continues, IsLine, LeadsTo, ValuedMove}
use Rattle.dob_probe.specs.ValuedMoves.{AreValuedMoves, HasMoveValue}

-- the values that positions of a kind have by the one relation they have by the other
abbrev pub Gives : (Setup → Type 0) → (Setup → Value → Type 0) → (Setup → Value → Type 0) → Type 0
Gives Is By Other = (p : Setup) (v : Value) → Is p → By p v → Other p v

-- moves lead from positions of that kind to such positions
module _ (profile : Profile) (Is : Setup → Type 0)
    (keeps : (p : Setup) (m : Move) (q : Setup) → Is p → HasStatus profile p Open → Goes profile p m q → Is q) where
  pub leads_by : (By Other : Setup → Value → Type 0) → Gives Is By Other → (p : Setup) (wanted : Value) (m : Move) (q : Setup) → Is p
      → LeadsTo profile By p wanted m q → LeadsTo profile Other p wanted m q
  leads_by By Other there p wanted m q is leads = record {
    goes_on = leads.goes_on;
    goes = leads.goes;
    has = there q wanted (keeps p m q is leads.goes_on leads.goes) leads.has;
  }

  pub valued_by : (By Other : Setup → Value → Type 0) → Gives Is By Other → (p : Setup) (valued : ValuedMove) → Is p → HasMoveValue profile By p valued
      → HasMoveValue profile Other p valued
  valued_by By Other there p valued is has = record {
    goes_on = has.goes_on;
    outcome = has.outcome;
    goes = has.goes;
    value = has.value;
    has = there has.outcome has.value (keeps p valued.played has.outcome is has.goes_on has.goes) has.has;
    seen = has.seen;
  }

  module _ (By Other : Setup → Value → Type 0) (there : Gives Is By Other) (back : Gives Is Other By) where
    continues_by : (p : Setup) (m : Move) (q : Setup) → Is p → Continues profile By p m q → Continues profile Other p m q
    continues_by p m q is next = (
      next.0,
      record { no_catch = next.1.no_catch; value = next.1.value; has = there p next.1.value is next.1.has; next = next.1.next },
      record {
        leads = leads_by By Other there p next.0 m q is next.2.leads;
        first = λ other r leads. next.2.first other r (leads_by Other By back p next.0 other r is leads);
      },
    )

    pub line_by : (moves : List Move) (p : Setup) → Is p → IsLine profile By p moves → IsLine profile Other p moves
    line_by [] p is ends = record { no_catch = ends.no_catch; value = ends.value; has = there p ends.value is ends.has; over = ends.over }
    line_by (m ∷ moves) p is line = elim line [
      | inl catch ↦ inl catch
      | inr next ↦
          let member = keeps p m next.0 is next.1.2.leads.goes_on next.1.2.leads.goes in
          inr (next.0, continues_by p m next.0 is next.1, line_by moves next.0 member next.2)
    ]

    pub listed_by : (p : Setup) (list : List ValuedMove) → Is p → AreValuedMoves profile By p list → AreValuedMoves profile Other p list
    listed_by p list is are = record {
      sound = λ valued listed. elim (are.sound valued listed) [ inl catch ↦ inl catch | inr has ↦ inr (valued_by By Other there p valued is has) ];
      caught = are.caught;
      whole = λ valued has. are.whole valued (valued_by Other By back p valued is has);
      ordered = are.ordered;
    }
