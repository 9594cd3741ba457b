-- What is read from the bytes of a letter of works, all or those before a cut.
use Rattle.std.proofs.Common.{◌≡◌, inl, inr, ℕ, suc, ◌<◌, false, List, [], ◌++◌}
use Rattle.std.proofs.Common.{length, take, drop, Some, None, sym, ap, ◌∙◌, subst, arith}
use Rattle.std.specs.Prelude.{nat_lt, option_map, IfOk, Result, Ok, Err}
use Rattle.std.proofs.lemmas.Bool.{lt-ltb, le-ltb}
use Rattle.std.proofs.lemmas.Bool.Decides.{leb_tells}
use Rattle.std.proofs.lemmas.List.{length-drop, length-take-le, take_all, take-append-drop}
use Rattle.std.proofs.lemmas.Option.{same_Some}
use Rattle.cam_base.specs.declared.memory.NoMemory.{NoMemory}
use Rattle.cam_bytes.specs.declared.WireFault.{WireFault}
use Rattle.cam_bytes.specs.declared.WireFault.TheVariants.{Short}
use Rattle.cam_event.specs.declared.Letter.{Letter}
use Rattle.cam_event.specs.declared.LetterId.{LetterId}
use Rattle.cam_event.specs.Readings.{by_knowledge}
use Rattle.cam_net.specs.Letters.{cut_of, whole_of}
use Rattle.cam_node.specs.Log.{Logged}
use Rattle.cam_runs.specs.Running.{has_number, letter_of}
use Rattle.cam_runs.specs.Standing.{Standing}
use Rattle.cam_script.specs.declared.Script.{Script}
use Rattle.cam_wire.specs.Laws.{IsSpelled}
use Rattle.cam_wire.specs.OfTrace.{spelling_of}
use Rattle.cam_histories.proofs.Handing.{SentAs, sent_as}
use Rattle.cam_histories.proofs.LetterBytes.{bytes_are_spellings, cuts_are_fronts}
use Rattle.cam_histories.proofs.ReadBack.{letters_are_read_back}
use Rattle.cam_cluster.specs.declared.arrival.Arrival.{Arrival}
use Rattle.cam_cluster.specs.declared.arrival.Arrival.TheVariants.{Whole, Cut}
use Rattle.cam_cluster.specs.Arrivals.{GivesFault, GivesWhole, IsWholeLetter}
use Rattle.cam_cluster.specs.declared.works.letters.Coming.{Coming}
use Rattle.cam_cluster.specs.Coming.{AreWorksOfSome, HasArrived, HasFound, HasRead, IsArrived}
use Rattle.cam_cluster.specs.Coming.{IsReadOf}
use Rattle.cam_cluster.specs.Works.{WorksFields, KeepsRun}
use Rattle.cam_cluster.proofs.ComingLetters.{network_is, no_some}
use Rattle.cam_cluster.proofs.SpelledLetters.{IsSpelledSo, spelled_so}

module _ (script : Script) (st : Standing) (works : WorksFields) (may : ℕ → Logged → Type 0)
    (keeps : KeepsRun script st works may) (none_left : works.outbox.unput ≡ []) (number : ℕ)
    (id : LetterId) (is : letter_of st.running number ≡ Some id) where
  abbrev all : List ℕ
  all = spelling_of (by_knowledge script.objects) st.running.trace id

  pub so : IsSpelledSo script.objects st.running.trace id
  so = spelled_so _ _ _ _ keeps none_left _ _ is

  -- the network has it
  pub whole_is : whole_of works.outbox.net number
      ≡ Some (spelling_of (by_knowledge script.objects) st.running.trace id)
  whole_is =
      bytes_are_spellings script.objects st works.outbox.net works.halted number (network_is _ _
      _ may keeps none_left) ∙ ap (option_map (spelling_of (by_knowledge script.objects)
      st.running.trace)) is

  pub cut_is : (bytes : ℕ) → cut_of works.outbox.net number bytes
      ≡ Some (take bytes (spelling_of (by_knowledge script.objects) st.running.trace id))
  cut_is bytes =
      cuts_are_fronts script.objects st works.outbox.net works.halted number bytes (network_is _ _
      _ may keeps none_left) ∙ ap (option_map (λ (i : LetterId). take bytes (spelling_of
      (by_knowledge script.objects) st.running.trace i))) is

  -- the whole letter is the one that was sent
  pub read_whole : (found : Letter) → IsWholeLetter so.letter (Whole found)
      → IsReadOf script st id found
  read_whole found whole =
      let sent : SentAs script.objects st.running.trace id so.letter =
      sent_as _ _ _ _ so.sent in
      record {
        mail = sent.mail;
        sent = sent.at;
        read =
            letters_are_read_back script.objects (has_number st.taken) st.running.trace id sent.mail
            so.letter found keeps.under.run sent.at so.sent whole.0 whole.1;
      }

  pub all_read : (arrival : Arrival) (bytes : List ℕ) → Some bytes
      ≡ whole_of works.outbox.net number
      → GivesWhole bytes arrival → IsWholeLetter so.letter arrival
  all_read arrival bytes are gives =
      subst (λ (bs : List ℕ). GivesWhole bs arrival)
      (same_Some bytes (spelling_of (by_knowledge script.objects) st.running.trace id)
      (are ∙ whole_is)) gives so.letter so.spells

  pub arrived : (arrival : Arrival) (bytes : ℕ) (left : List ℕ)
      → Some left ≡ cut_of works.outbox.net number bytes
      → GivesWhole left arrival → GivesFault left arrival → IsArrived bytes script st id arrival
  arrived arrival bytes left are gives cuts =
      elim (leb_tells (suc bytes) (length all)) [
        | inl fewer ↦
            subst (IsArrived bytes script st id)
            (sym (cuts so.letter (drop bytes all) (more_left (omega (arith, fewer.1))) front)) (
              lt-ltb bytes (length all) (omega (arith, fewer.1)),
              ap Short (ap (λ (bs : List ℕ). length bs) left_is
                  ∙ length-take-le bytes all (omega (arith, fewer.1))),
            )
        | inr enough ↦
            whole_arrived arrival (le-ltb bytes (length all) (omega (arith, enough.1)))
            (subst (λ (bs : List ℕ). GivesWhole bs arrival)
            (left_is ∙ take_all bytes all (omega (arith, enough.1))) gives so.letter so.spells)
      ]
    where
      left_is : left ≡ take bytes all
      left_is = same_Some left (take bytes all) (are ∙ cut_is bytes)

      more_left : bytes < length all → 0 < length (drop bytes all)
      more_left few = let many = length-drop bytes all in omega (arith, many, few)

      front : IsSpelled so.letter (left ++ drop bytes all)
      front =
          subst (IsSpelled so.letter)
          (sym (ap (λ (bs : List ℕ). bs ++ drop bytes all) left_is ∙ take-append-drop bytes all))
          so.spells

      whole_arrived : (a : Arrival) → nat_lt bytes (length all) ≡ false
          → IsWholeLetter so.letter a → IsArrived bytes script st id a
      whole_arrived (Whole found) enough whole = (enough, read_whole found whole)
      whole_arrived (Cut fault) enough whole = absurd whole

-- so it is of the letter that was found, in each run that is kept
module _ (works : WorksFields) (may : ℕ → Logged → Type 0) (number : ℕ) (coming : Coming)
    (found : HasFound number works may (Some coming)) (none_left : works.outbox.unput ≡ []) where
  pub arrives : (result : Result Arrival NoMemory) (bytes : ℕ) (left : List ℕ)
      → Some left ≡ cut_of works.outbox.net number bytes → IfOk result (GivesWhole left)
      → IfOk result (GivesFault left) → IfOk result (HasArrived bytes coming.letter works may)
  arrives (Ok arrival) bytes left are gives cuts = λ script st is keeps.
      arrived script st works may keeps none_left number coming.letter
      (found script st is keeps).0 arrival bytes left are gives cuts
  arrives (Err fault) bytes left are gives cuts = tt

  pub reads_it : (arrival : Arrival) (bytes : List ℕ) (letter : Letter)
      → Some bytes ≡ whole_of works.outbox.net number → GivesWhole bytes arrival
      → arrival ≡ Whole letter → HasRead coming.letter works may letter
  reads_it arrival bytes letter are gives whole script st is keeps =
      let numbered = (found script st is keeps).0 in
      read_whole script st works may keeps none_left number coming.letter numbered letter
      (subst (λ (a : Arrival). IsWholeLetter
      (so script st works may keeps none_left number coming.letter numbered).letter a)
      whole
      (all_read script st works may keeps none_left number coming.letter numbered arrival bytes are
      gives))

  -- and of some run
  module _ (some : AreWorksOfSome works may) where
    pub no_bytes : None ≡ whole_of works.outbox.net number → ⊥
    no_bytes none =
        no_some _ _ (sym none) (whole_is some.script some.standing works may some.keeps none_left
        number coming.letter (found some.script some.standing some.is_script some.keeps).0)

    pub no_front : (bytes : ℕ) → None ≡ cut_of works.outbox.net number bytes → ⊥
    no_front bytes none =
        no_some _ _ (sym none) (cut_is some.script some.standing works may some.keeps none_left
        number coming.letter (found some.script some.standing some.is_script some.keeps).0 bytes)

    pub no_cut : (arrival : Arrival) (bytes : List ℕ) (fault : WireFault)
        → Some bytes ≡ whole_of works.outbox.net number → GivesWhole bytes arrival
        → arrival ≡ Cut fault → ⊥
    no_cut arrival bytes fault are gives cut =
        let numbered = (found some.script some.standing some.is_script some.keeps).0 in
        subst (λ (a : Arrival). IsWholeLetter
        (so some.script some.standing works may some.keeps none_left number coming.letter
        numbered).letter a) cut
        (all_read some.script some.standing works may some.keeps none_left number coming.letter
        numbered arrival bytes are gives)
