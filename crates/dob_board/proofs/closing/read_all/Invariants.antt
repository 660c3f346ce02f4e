-- The words below the index are read as the stands of all nodes say, and the rest's view is of these, closed by the first.
use Rattle.std.proofs.Common.{◌≡◌, ◌<◌, ℕ, [], true, false, get_or, vec_len}
use Rattle.dob_board.proofs.Names.{IsWord, IsLaterLog}
use Rattle.dob_board.proofs.closing.read_all.Given as goal

abbrev pub invariant-loop-word : goal.invariant-loop-word
invariant-loop-word l = record {
  of_board : l.rest.table_id ≡ l.fn.rest.table_id;
  size : l.rest.me.0.size ≡ l.fn.nodes;
  from : l.rest.me.0.from ≡ 0;
  stands : l.rest.me.0.stands ≡ l.fn.rest.me.0.stands;
  no_slot : l.rest.me.1 ≡ [];
  closed : 0 < l.word → l.rest.me.0.closed ≡ true;
  own : 0 < l.word → l.rest.me.0.own ≡ false;
  witnessed : IsLaterLog l.fn.rest.me.0.witnessed l.rest.me.0.witnessed;
  long : vec_len l.words ≡ vec_len l.fn.words;
  read : (w : ℕ) → w < l.word → IsWord l.fn.nodes l.fn.rest.me.0.stands l.rest.me.0.witnessed w (get_or l.words.items w 0);
}
