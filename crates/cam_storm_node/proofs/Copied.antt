-- The letters that a node sends, with the copies that they draw, are those of its event.
use Rattle.std.proofs.Common.{◌≡◌, inl, inr, ℕ, ◌+◌, ◌≤◌, List, [], ◌∷◌, map, refl, sym, ap, ◌∙◌, arith}
use Rattle.cam_event.specs.declared.Sent.{Sent}
use Rattle.cam_event.specs.History.{count}
use Rattle.cam_event.proofs.Members.{In}
use Rattle.cam_event.specs.Carried.{deeds_of}
use Rattle.cam_event.specs.Loads.{load_to}
use Rattle.cam_event.specs.ByDeltas.{Received, as_carried, known, load_for}
use Rattle.cam_node.specs.Calls.{letter_as, letters_of}
use Rattle.cam_node.specs.Represents.{Node, Represents}
use Rattle.cam_node.proofs.Learnt.{loads_go_on}
use Rattle.cam_gen.specs.Storms.{Words, objects_of, copies_of}
use Rattle.cam_storm.specs.Names.{Near}
use Rattle.cam_storm.specs.Lawful.{IsCopied, AreCopied}
use Rattle.cam_storm_node.specs.Copying.{copied_from}

module _ (words : Words) (s : ℕ) (own : List Received) (node : Node) (is : node.number ≡ s)
    (rep : Represents (objects_of words) own node) where
  -- what a letter carries follows from what the node knows and has noted
  carries : (sent : Sent) → 1 ≤ sent.to → sent.to ≤ 8
      → load_to node.number node.know node.places sent.to
      ≡ load_for (objects_of words) s own sent.to
  carries sent low high =
      ap (λ (n : ℕ). load_to n node.know node.places sent.to) is
      ∙ ap (λ k. load_to s k node.places sent.to) rep.knowledge
      ∙ ap (λ ps. load_to s (known (objects_of words) own) ps sent.to) rep.places
      ∙ sym (loads_go_on (objects_of words) s sent.to own low high)

  one : (number : ℕ) (sent : Sent) → Near sent.to
      → IsCopied words s own number sent
      (record {
        letter = letter_as node.know node.places node.number node.count sent;
        copies = copies_of words s number;
      })
  one number sent inside = record {
    from = is;
    count = rep.own_count ∙ ap (count (deeds_of (map as_carried own))) is;
    to = refl;
    body = refl;
    load =
        let high : sent.to ≤ 8 = let four = inside.1 in omega (arith, four) in
        carries sent inside.0 high;
    copies = refl;
  }

  -- THE LEMMA
  pub are_copied : (number : ℕ) (sents : List Sent)
      → ((sent : Sent) → In sent sents → Near sent.to)
      → AreCopied words s own number sents (copied_from words s number (letters_of node sents))
  are_copied number [] inside = tt
  are_copied number (sent ∷ more) inside = (
    one number sent (inside sent (inl refl)),
    are_copied (number + 1) more (λ m i. inside m (inr i)),
  )
