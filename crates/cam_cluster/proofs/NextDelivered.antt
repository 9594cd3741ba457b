-- The letter that waits is handed over, and what the letters weigh that wait then.
use Rattle.std.proofs.Common.{◌≡◌, ℕ, suc, ◌+◌, ◌<◌, Bool, false, ◌||◌, if◌then◌else◌}
use Rattle.std.proofs.Common.{List, [], ◌∷◌, Some, None, refl, sym, ap}
use Rattle.std.proofs.Common.{◌∙◌, subst, arith}
use Rattle.std.proofs.lemmas.Option.{same_Some}
use Rattle.cam_event.specs.declared.Event.{Event}
use Rattle.cam_event.specs.declared.Letter.{Letter}
use Rattle.cam_event.specs.declared.LetterId.{LetterId}
use Rattle.cam_net.specs.Letters.{InFlightFields}
use Rattle.cam_net.specs.Waiting.{is_halted, next_of}
use Rattle.cam_node.specs.Log.{Logged}
use Rattle.cam_runs.specs.Running.{letters, has_number, letter_of, waiting_weight, weight_from}
use Rattle.cam_runs.specs.Running.{weight_of}
use Rattle.cam_runs.specs.Standing.{Standing, addressee, deliver, waiting}
use Rattle.cam_runs.proofs.HaltedDrained.{halted_deliveries_lower}
use Rattle.cam_script.specs.declared.Script.{Script}
use Rattle.cam_histories.specs.Flight.{with_put}
use Rattle.cam_histories.specs.InputLaws.{held_setting}
use Rattle.cam_histories.specs.LineLaws.{HasNext}
use Rattle.cam_histories.specs.Network.{AreLetters}
use Rattle.cam_histories.specs.Whole.{IsWhole}
use Rattle.cam_histories.proofs.NextLetter.{nexts_are_letters, none_is_next}
use Rattle.cam_cluster.specs.declared.works.Put.{Put}
use Rattle.cam_cluster.specs.declared.works.letters.Coming.{Coming}
use Rattle.cam_cluster.specs.Coming.{AreWorksOfSome, HasDelivered, HasFound}
use Rattle.cam_cluster.specs.Drains.{HasNextDelivered, IsNextDelivered, net_weight, works_weight}
use Rattle.cam_cluster.specs.Puts.{KeepsAsBefore, as_halt}
use Rattle.cam_cluster.specs.Works.{WorksFields, KeepsRun, sites_of}
use Rattle.cam_cluster.proofs.ComingLetters.{no_some, trace_is}
use Rattle.cam_cluster.proofs.LetterEnds.{halted_as}

-- Of works that have put all letters: the letter that the network names next is the run's that
-- waits, and where it names none, none waits.
module _ (script : Script) (st : Standing) (works : WorksFields) (may : ℕ → Logged → Type 0)
    (keeps : KeepsRun script st works may) (none_left : works.outbox.unput ≡ []) where
  whole : IsWhole script.objects st (sites_of works.nodes) works.outbox.net [] works.halted
  whole = rw (← none_left) keeps.whole

  pub next_is : (number : ℕ) → Some number ≡ next_of works.halted works.outbox.net
      → HasNext st number
  next_is number is =
      nexts_are_letters script.objects st (sites_of works.nodes) works.outbox.net works.halted
      number whole (sym is)

  pub none_waits : None ≡ next_of works.halted works.outbox.net → waiting st ≡ None
  none_waits is =
      none_is_next script.objects st (sites_of works.nodes) works.outbox.net works.halted whole
      (sym is)

-- it is found, and its node is not halted
pub next_found : (works : WorksFields) (may : ℕ → Logged → Type 0) (number : ℕ)
    → AreWorksOfSome works may → works.outbox.unput ≡ []
    → Some number ≡ next_of works.halted works.outbox.net → HasFound number works may None → ⊥
next_found works may number some none_left is found =
    let st = some.standing in
    let next = (next_is some.script st works may some.keeps none_left number is) in
    no_some _ _ (found some.script st some.is_script some.keeps) next.next.is_letter

pub next_awake : (works : WorksFields) (may : ℕ → Logged → Type 0) (number : ℕ) (coming : Coming)
    → AreWorksOfSome works may → works.outbox.unput ≡ []
    → Some number ≡ next_of works.halted works.outbox.net
    → HasFound number works may (Some coming) → is_halted works.halted (suc coming.place) ≡ false
next_awake works may number coming some none_left is found =
    let st = some.standing in
    let next = (next_is some.script st works may some.keeps none_left number is) in
    let f = found some.script st some.is_script some.keeps in
    sym (halted_as _ _ _ _ some.keeps none_left _ _ f.0 f.1) ∙ ap (λ (l : LetterId).
    has_number st.halted (addressee st l)) (same_Some coming.letter next.id (sym f.0 ∙
    next.next.is_letter)) ∙ next.next.awake

-- so it is the delivery of the run's letter that waits
pub handed_next : (line number : ℕ) (old mid new : WorksFields)
    (might mays may : ℕ → Logged → Type 0)
    (done : Put) → KeepsAsBefore old might mid mays → mid.outbox.unput ≡ []
    → Some number ≡ next_of mid.halted mid.outbox.net
    → HasDelivered line number mid mays done new may
    → HasNextDelivered line old might new may (Some done)
handed_next line number old mid new might mays may done before none_left is has script st halts
    restarted is_script keeps =
    let kept = before script st is_script keeps in
    let next = next_is script st mid mays kept none_left number is in
    record {
      next = (number, next.id);
      waits = next.next.waits;
      stands =
          λ halt. has script st halts restarted next.id is_script kept next.next.is_letter halt;
    }

pub none_next : (line : ℕ) (old mid : WorksFields) (might mays : ℕ → Logged → Type 0)
    → KeepsAsBefore old might mid mays → mid.outbox.unput ≡ []
    → None ≡ next_of mid.halted mid.outbox.net → HasNextDelivered line old might mid mays None
none_next line old mid might mays before none_left is script st is_script keeps =
    let kept = before script st is_script keeps in
    (none_waits script st mid mays kept none_left is, kept)

-- What the letters weigh by the network is what they weigh in the run.
weighs : (st : Standing) (number : ℕ) (ids : List LetterId) (net : List InFlightFields)
    → AreLetters st number ids net
    → net_weight st.running.trace ids net ≡ weight_from st.running number ids
weighs st number [] [] are = refl
weighs st number [] (kept ∷ net) are = elim are [ ]
weighs st number (id ∷ ids) [] are = elim are [ ]
weighs st number (id ∷ ids) (kept ∷ net) are =
    ap (λ (b : Bool). (if b || kept.lost then 0 else weight_of st.running.trace id)
    + net_weight st.running.trace ids net) are.0.delivered
    ∙ ap (λ (b : Bool). (if has_number st.running.delivered number || b then 0
    else weight_of st.running.trace id) + net_weight st.running.trace ids net) are.0.lost
    ∙ ap (λ (n : ℕ). (if has_number st.running.delivered number
    || has_number st.running.lost number then 0 else weight_of st.running.trace id) + n)
    (weighs st (number + 1) ids net are.1)

pub works_weigh : (script : Script) (st : Standing) (works : WorksFields)
    (may : ℕ → Logged → Type 0) → KeepsRun script st works may
    → works_weight works ≡ waiting_weight st.running
works_weigh script st works may keeps =
    ap (λ (t : List Event). net_weight t (letters t) (with_put works.outbox.net works.outbox.unput))
    (trace_is _ _ _ _ keeps) ∙ weighs _ _ _ _ keeps.whole.network.stands.letters

-- Some run is kept after the delivery too, and what waits weighs less.
module _ (line : ℕ) (old new : WorksFields) (might may : ℕ → Logged → Type 0) (done : Put)
    (some : AreWorksOfSome old might) (has : HasNextDelivered line old might new may (Some done))
  where
    abbrev one : IsNextDelivered some.script
        (held_setting some.script.objects (λ turns s appends restarted. as_halt done) line
        (λ s. false)) some.standing done new may
    one =
        has some.script some.standing (λ turns s appends restarted. as_halt done) (λ s. false)
        some.is_script some.keeps

    abbrev after : Standing
    after =
        deliver
        (held_setting some.script.objects (λ turns s appends restarted. as_halt done) line
        (λ s. false)) some.standing one.next.0 one.next.1

    pub some_behind : AreWorksOfSome new may
    some_behind = record {
      script = some.script;
      standing = after;
      is_script = some.is_script;
      keeps = one.stands refl;
    }

    pub weighs_less : works_weight new < works_weight old
    weighs_less =
        let before = works_weigh _ _ _ _ some.keeps in
        let behind = works_weigh _ _ _ _ (one.stands refl) in
        let less =
        (halted_deliveries_lower some.script.objects).1 (λ turns s appends restarted. as_halt done)
        line (λ s. false) some.standing one.next one.waits in
        omega (arith, before, behind, less)
