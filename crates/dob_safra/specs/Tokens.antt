-- Tokens: their words, and what a node that has one may do with it.
use Rattle.std.specs.Prelude.{◌≡◌, ℕ, ◌+◌, ◌-◌, ◌*◌, ◌^◌, ◌<◌, Bool, true, false, cond, ◌==◌, ℤ, pos, neg_ℤ, ◌+ℤ◌, ◌≤ℤ◌}
use Rattle.dob_safra.specs.declared.token.Token.{Token}

-- as many nodes as a ring may have
abbrev pub most_nodes : ℕ
most_nodes = 16

-- one of the tokens that have a word
pub record IsToken (token : Token) : Type 0 where
  pub few_nodes : token.at < most_nodes
  pub low : neg_ℤ (pos (2 ^ 48)) ≤ℤ token.sum
  pub high : token.sum ≤ℤ pos (2 ^ 48)

-- the word is that of the token
pub record IsPacked (token : Token) (word : ℕ) : Type 0 where
  pub fits : IsToken token
  pub word_is : pos word ≡ token.sum +ℤ pos (2 ^ 48 + 2 ^ 50 * cond token.black 1 0 + 2 ^ 51 * token.at)

-- the token at the start: at node 0, black, with sum 0
abbrev pub first_token : Token
first_token = record { at = 0; black = true; sum = pos 0 }

-- the token of a new probe in a ring of n nodes: at the last one, white, with sum 0
abbrev pub new_probe : ℕ → Token
new_probe n = record { at = n - 1; black = false; sum = pos 0 }

-- what a node with that counter and colour hands to the node below
abbrev pub handed_down : Token → ℤ → Bool → Token
handed_down token counter black = record { at = token.at - 1; black = cond token.black true black; sum = token.sum +ℤ counter }

-- the token after a pass by the node that has it, with that counter and colour
abbrev pub passed_on : ℕ → Token → ℤ → Bool → Token
passed_on n token counter black = cond (token.at == 0) (new_probe n) (handed_down token counter black)

-- a node that has this token, with that counter and colour and idle or not, may announce the end
pub record MayAnnounce (token : Token) (counter : ℤ) (black idle : Bool) : Type 0 where
  pub at_first : token.at ≡ 0
  pub white_token : token.black ≡ false
  pub white_node : black ≡ false
  pub is_idle : idle ≡ true
  pub adds_up : token.sum +ℤ counter ≡ pos 0
