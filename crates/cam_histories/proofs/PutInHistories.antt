-- Where an event is put in of which nobody learnt, the other nodes have the same histories but for
-- the numbers of letters.
use Rattle.std.proofs.Common.{◌≡◌, inl, inr, ℕ, ◌+◌, ◌≤◌, eqb, true, false, if◌then◌else◌}
use Rattle.std.proofs.Common.{List, [], ◌∷◌, ◌++◌, map, length, Option, Some, None, option_map}
use Rattle.std.proofs.Common.{refl}
use Rattle.std.proofs.Common.{sym, ap, ◌∙◌, arith}
use Rattle.std.specs.List.{AllByRecursion}
use Rattle.std.proofs.lemmas.Bool.{ne_eqb}
use Rattle.std.proofs.lemmas.Bool.Decides.{eqb_tells}
use Rattle.cam_type.specs.declared.ObjectDecl.{ObjectDecl}
use Rattle.cam_event.specs.declared.Event.{Event}
use Rattle.cam_event.specs.declared.LetterId.{LetterId}
use Rattle.cam_event.specs.Inputs.{Mail}
use Rattle.cam_event.specs.Inputs.{letter_at, mail_got}
use Rattle.cam_event.specs.ByDeltas.{Received, received, received_of, of_node, up_to}
use Rattle.cam_event.specs.ByDeltas.{load_by, load_for}
use Rattle.cam_delta.proofs.Growing.{received_length}
use Rattle.cam_histories.specs.PutIn.{moved, moved_letter, moved_event, put_in}
use Rattle.cam_histories.specs.PutIn.{nameless, unnumbered}
use Rattle.cam_histories.proofs.Nameless.{load_bare}
use Rattle.cam_histories.proofs.Numbers.{lt_cases, moved_low, moved_high, moved_off, number_same}
use Rattle.cam_histories.proofs.Numbers.{put_in_length, behind_long, letters_moved, mails_moved}
use Rattle.cam_histories.proofs.Numbers.{sender_other}

unnumbered_moved : (p : ℕ) (got : Option LetterId)
    → unnumbered (option_map (moved_letter p) got) ≡ unnumbered got
unnumbered_moved p None = refl
unnumbered_moved p (Some letter) = refl

none_up : (all : List Received) (i : ℕ) → length all ≤ i → up_to all i ≡ []
none_up [] i high = refl
none_up (c ∷ all) i high =
    rw (ne_eqb i (length all) (λ e. omega (arith, high, e))) (none_up all i (omega (arith, high)))

module _ (objects : List ObjectDecl) (s : ℕ) (before : List Event) (e : Event) (at : e.node ≡ s)
  where
    abbrev old : List Event → List Received
    old b = received_of objects (b ++ before)

    abbrev new : List Event → List Received
    new b = received_of objects (put_in b e before)

    -- the histories of the other nodes, and those of all nodes up to an event before the place
    pub record SameSo (b : List Event) : Type 0 where
      pub own :
          (m : ℕ) → (s ≡ m → ⊥)
          → map nameless (of_node (new b) m) ≡ map nameless (of_node (old b) m)
      pub up :
          (i m : ℕ) → (length before ≤ i → s ≡ m → ⊥)
          → map nameless (of_node (up_to (new b) (moved (length before) i)) m)
          ≡ map nameless (of_node (up_to (old b) i) m)

    -- so what a letter carries is the same
    pub load_moved : (b : List Event) → SameSo b
        → AllByRecursion (λ (x : Event). x.node ≡ s → ⊥) b → (letter : LetterId)
        → load_by objects (new b) (Some (moved_letter (length before) letter))
        (letter_at (put_in b e before) (moved_letter (length before) letter))
        ≡ load_by objects (old b) (Some letter) (letter_at (b ++ before) letter)
    load_moved b same others letter =
        ap (load_by objects (new b) (Some (moved_letter (length before) letter)))
        (letters_moved before e b letter)
        ∙ by (letter_at (b ++ before) letter) refl
      where
        by : (o : Option Mail) → letter_at (b ++ before) letter ≡ o
            → load_by objects (new b) (Some (moved_letter (length before) letter)) o
            ≡ load_by objects (old b) (Some letter) o
        by None there = refl
        by (Some mail) there =
            let later = of_node (up_to (new b) (moved (length before) letter.event)) mail.from in
            let was = of_node (up_to (old b) letter.event) mail.from in
            sym (load_bare objects mail.from later mail.to)
            ∙ ap (λ h. load_for objects mail.from h mail.to)
            (same.up letter.event mail.from
            (λ high. sender_other s before b letter mail others high there))
            ∙ load_bare objects mail.from was mail.to

    pub got_moved : (b : List Event) → SameSo b
        → AllByRecursion (λ (x : Event). x.node ≡ s → ⊥) b → (got : Option LetterId)
        → load_by objects (new b) (option_map (moved_letter (length before)) got)
        (mail_got (put_in b e before) (option_map (moved_letter (length before)) got))
        ≡ load_by objects (old b) got (mail_got (b ++ before) got)
    got_moved b same others None = refl
    got_moved b same others (Some letter) = load_moved b same others letter

    -- and an event that came is the same but for the number of its letter
    pub received_moved : (b : List Event) → SameSo b
        → AllByRecursion (λ (x : Event). x.node ≡ s → ⊥) b → (x : Event)
        → nameless (received objects (new b) (moved_event (length before) x)
        (mail_got (put_in b e before) (option_map (moved_letter (length before)) x.got)))
        ≡ nameless (received objects (old b) x (mail_got (b ++ before) x.got))
    received_moved b same others x = λ i. record {
      event = record x { got = unnumbered_moved (length before) x.got i };
      mail = mails_moved before e b x.got i;
      load = got_moved b same others x.got i;
    }

    first_same : SameSo []
    first_same = record {
      own = λ m off.
          ap (λ b. map nameless (if b then newest ∷ of_node (old []) m else of_node (old []) m))
          (ap (λ k. eqb k m) at ∙ ne_eqb s m off);
      up = λ i m off.
          ap (λ n. map nameless (of_node (if eqb (moved p i) n then newest ∷ old [] else
          up_to (old []) (moved p i)) m)) (received_length objects before)
          ∙ ap (λ b. map nameless (of_node (if b then newest ∷ old [] else
          up_to (old []) (moved p i)) m)) (moved_off p i)
          ∙ ap (λ h. map nameless (of_node h m)) (older i);
    }
      where
        p : ℕ
        p = length before

        newest : Received
        newest = received objects (old []) e (mail_got before e.got)

        older : (i : ℕ) → up_to (old []) (moved p i) ≡ up_to (old []) i
        older i = elim (lt_cases i p) [
          | inl y ↦ ap (up_to (old [])) (moved_low p i y.1)
          | inr n ↦
              let high = n.1 in
              let long = received_length objects before in
              ap (up_to (old [])) (moved_high p i n.1)
              ∙ none_up (old []) (i + 1) (omega (arith, high, long))
              ∙ sym (none_up (old []) i (omega (arith, high, long)))
        ]

    next_same : (x : Event) (b : List Event) → (x.node ≡ s → ⊥)
        → AllByRecursion (λ (y : Event). y.node ≡ s → ⊥) b → SameSo b → SameSo (x ∷ b)
    next_same x b off others same = record { own = own; up = up }
      where
        p : ℕ
        p = length before

        got : Option LetterId
        got = option_map (moved_letter p) x.got

        now : Received
        now = received objects (new b) (moved_event p x) (mail_got (put_in b e before) got)

        was : Received
        was = received objects (old b) x (mail_got (b ++ before) x.got)

        newest : nameless now ≡ nameless was
        newest = received_moved b same others x

        own : (m : ℕ) → (s ≡ m → ⊥)
            → map nameless (of_node (now ∷ new b) m) ≡ map nameless (of_node (was ∷ old b) m)
        own m away = elim (eqb x.node m) as (λ c.
            map nameless (if c then now ∷ of_node (new b) m else of_node (new b) m)
            ≡ map nameless (if c then was ∷ of_node (old b) m else of_node (old b) m)) [
              | true ↦ λ i. newest i ∷ same.own m away i
              | false ↦ same.own m away
            ]

        up : (i m : ℕ) → (p ≤ i → s ≡ m → ⊥)
            → map nameless (of_node (up_to (now ∷ new b) (moved p i)) m)
            ≡ map nameless (of_node (up_to (was ∷ old b) i) m)
        up i m away =
            ap (λ n. map nameless (of_node (if eqb (moved p i) n then now ∷ new b else
            up_to (new b) (moved p i)) m))
            (received_length objects (put_in b e before) ∙ put_in_length before e b)
            ∙ ap (λ c. map nameless (of_node (if c then now ∷ new b else
            up_to (new b) (moved p i)) m))
            (number_same p (length (b ++ before)) i (behind_long before e b))
            ∙ ap (λ n. map nameless (of_node (if eqb i n then now ∷ new b else
            up_to (new b) (moved p i)) m)) (sym (received_length objects (b ++ before)))
            ∙ elim (eqb_tells i (length (old b))) [
              | inl y ↦
                  let high : p ≤ i = at_place y.1 in
                  rw y.0 (own m (away high))
              | inr n ↦ rw n.0 (same.up i m away)
            ]
          where
            at_place : i ≡ length (old b) → p ≤ i
            at_place is =
                let long = received_length objects (b ++ before) in
                let low = behind_long before e b in
                omega (arith, is, long, low)

    pub same_so : (b : List Event) → AllByRecursion (λ (x : Event). x.node ≡ s → ⊥) b → SameSo b
    same_so [] others = first_same
    same_so (x ∷ b) others = next_same x b others.0 others.1 (same_so b others.1)
