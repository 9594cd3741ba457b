-- What a letter carries besides its body, and what a node notes of the other nodes' lists.
--
-- A node keeps the outcomes that it knows as a list, in the order in which it learnt them. To another node it sends only those from the
-- place on that the other has acknowledged; each letter says how much of the receiver's list its sender has.
use Rattle.std.specs.Prelude.{ℕ, ◌-◌, min, eqb, if◌then◌else◌, List, [], ◌∷◌, length, slice_index}
use Rattle.cam_know.specs.Knowledge.{Knowledge}
use Rattle.cam_know.specs.Known.{nothing, both, counts_raised, after_place}
use Rattle.cam_know.specs.Order.{told_in_order}

-- how many outcomes of its receiver's list the sender has, how many its own list has, and the knowledge that the letter carries
pub record Load : Type 0 where
  pub have : ℕ
  pub place : ℕ
  pub know : Knowledge

abbrev pub no_load : Load
no_load = record { have = 0; place = 0; know = nothing }

-- What a node notes, for each of the eight nodes: how many outcomes of that node's list it has, and how many of its own list that node
-- has acknowledged.
pub record PlacesFields : Type 0 where
  pub have : List ℕ
  pub acked : List ℕ

abbrev pub each_node : List ℕ
each_node = 1 ∷ 2 ∷ 3 ∷ 4 ∷ 5 ∷ 6 ∷ 7 ∷ 8 ∷ []

-- at first, and after a restart
abbrev pub no_places : PlacesFields
no_places =
    record { have = 0 ∷ 0 ∷ 0 ∷ 0 ∷ 0 ∷ 0 ∷ 0 ∷ 0 ∷ []; acked = 0 ∷ 0 ∷ 0 ∷ 0 ∷ 0 ∷ 0 ∷ 0 ∷ 0 ∷ [] }

-- What is noted when a letter comes from another node: of each place the greater. Nothing that is not in the own list is acknowledged.
abbrev pub noted : ℕ → PlacesFields → ℕ → Load → PlacesFields
noted len places from load =
    record {
      have = counts_raised places.have from load.place;
      acked = counts_raised places.acked
          from (min load.have len);
    }

-- What is noted at node `own` when a letter comes; `len` is the length of its list with the letter's news. Of its own letters a node notes nothing.
abbrev pub noted_at : ℕ → ℕ → PlacesFields → ℕ → Load → PlacesFields
noted_at own len places from load = if eqb own from then places else noted len places from load

-- What a letter from one node to another carries, by what the sender knows and has noted. To itself a node sends only its counts.
abbrev pub load_to : ℕ → Knowledge → PlacesFields → ℕ → Load
load_to from k places to =
    if eqb from to
    then record { have = 0; place = 0; know = record { outcomes = []; counts = k.counts } }
    else
    record {
      have = slice_index places.have (to - 1);
      place = length k.outcomes;
      know = after_place (slice_index places.acked (to - 1)) k;
    }

-- What is known when a letter has come: its news are learnt in order.
abbrev pub with_load : Knowledge → Load → Knowledge
with_load k load = both k (told_in_order load.know)
