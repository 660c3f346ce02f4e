-- The lemmas.
mod Hands  -- a legal setup has at most two of each kind in each hand
