-- A take is a look and an event.
use Rattle.std.proofs.Common.{◌≡◌, ℕ, ◌<◌, ◌≤◌, List, ◌++◌, sym, ap, ◌∙◌, subst, append_assoc}
use Rattle.dob_board.proofs.Names.{slice_index, RingEvent, BoardEvent, Take, SeatState, NodeSeat, takes_more, sees, IsLaterLog, MakesEvent}
use Rattle.dob_board.proofs.Names.{Observes, HasPosted, token_moves_of, witnessed_by, IsSameSeat, TakesOne}

-- what was witnessed is witnessed still
pub goes_on : (first middle last : List BoardEvent) → IsLaterLog first middle → IsLaterLog middle last → IsLaterLog first last
goes_on first middle last on further =
    (further.0 ++ on.0, further.1 ∙ ap (λ (l : List BoardEvent). further.0 ++ l) on.1 ∙ sym (append_assoc further.0 on.0 first))

-- a look before an event changes neither counts nor colour
makes_later : (n i j number : ℕ) (event : RingEvent) (stand after : SeatState) (witnessed middle now : List BoardEvent) → IsLaterLog witnessed middle →
    token_moves_of i middle ≡ token_moves_of i witnessed → MakesEvent n i event (sees stand j number) after middle now → MakesEvent n i event stand after witnessed now
makes_later n i j number event stand after witnessed middle now on still made = record {
  log = made.log;
  went_on = goes_on witnessed middle made.log on made.went_on;
  alone = made.alone ∙ still;
  is_next = made.is_next;
  old = made.old;
  new = made.new;
  runs = made.runs;
  in_time = made.in_time;
  moved = made.moved;
  was_lawful = made.was_lawful;
  is_lawful = made.is_lawful;
  shows_before =
      let shows = made.shows_before in record { posted = shows.posted; taken = shows.taken; colour = shows.colour; token = shows.token; ended = shows.ended };
  shows_after = made.shows_after;
}

-- a look that shows more than is taken, and then the event, are a take
pub take_one : (old middle new : NodeSeat) (from number : ℕ) → slice_index old.stand.seen from ≤ number → slice_index old.stand.taken from < number →
    middle.stand ≡ sees old.stand from number → IsSameSeat old middle → new.stand ≡ takes_more middle.stand from →
    Observes old.nodes old.node middle.stand (witnessed_by old) (witnessed_by middle) (HasPosted from old.node number) →
    MakesEvent middle.nodes middle.node (Take from middle.node) middle.stand new.stand (witnessed_by middle) (witnessed_by new) → TakesOne old new from
take_one old middle new from number not_less waiting noted same counted observed made = record {
  number = number;
  not_less = not_less;
  waiting = waiting;
  counted = counted ∙ ap (λ (s : SeatState). takes_more s from) noted;
  event =
      makes_later old.nodes old.node from number (Take from old.node) old.stand new.stand (witnessed_by old) (witnessed_by middle) (witnessed_by new)
      observed.went_on observed.alone
      (subst (λ (p : ℕ × ℕ × SeatState). MakesEvent p.0 p.1 (Take from p.1) p.2 new.stand (witnessed_by middle) (witnessed_by new))
      (λ q. (same.nodes q, same.node q, noted q)) made);
}
