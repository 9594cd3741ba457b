-- Each letter of a run may be written.
use Rattle.std.proofs.Common.{◌≡◌, ℕ, ◌≤◌, ◌<◌, Bool, true, false, List, [], ◌∷◌, length, Some, refl, arith}
use Rattle.std.proofs.lemmas.Bool.{eqb-true}
use Rattle.cam_names.specs.declared.name.Name.{Name}
use Rattle.cam_names.specs.Names.{is_ancestor, is_top}
use Rattle.cam_type.specs.declared.ObjectDecl.{ObjectDecl}
use Rattle.cam_type.specs.declared.Op.{Op}
use Rattle.cam_know.specs.Known.{known_count}
use Rattle.cam_event.specs.declared.Event.{Event}
use Rattle.cam_event.specs.declared.Body.{Body}
use Rattle.cam_event.specs.declared.Body.TheVariants as bodies
use Rattle.cam_event.specs.declared.Deed.{Deed}
use Rattle.cam_event.specs.declared.Deed.TheVariants.{Call}
use Rattle.cam_event.specs.History.{Addressed, count, call_of}
use Rattle.cam_event.specs.Live.{site_of}
use Rattle.cam_event.specs.Pasts.{in_past, plain, every}
use Rattle.cam_event.specs.ByDeltas.{load_at}
use Rattle.cam_event.specs.DeltasByPast.{past_of}
use Rattle.cam_event.proofs.Members.{In}
use Rattle.cam_plain.specs.Legal.{Legal}
use Rattle.cam_plain.proofs.Called.{call_fits}
use Rattle.cam_plain.proofs.Fates.{call_count}
use Rattle.cam_cut.proofs.DepsFacts.{pair_count, pair_range}
use Rattle.cam_cut.proofs.Holds.{RunHolds, every_closed}
use Rattle.cam_cut.proofs.LegalFacts.{in_call}
use Rattle.cam_cut.proofs.Sees.{BodyOk}
use Rattle.cam_agree.proofs.Ran.{Ran, ran_holds}
use Rattle.cam_agree.proofs.DepsSaid.{letters_say}
use Rattle.cam_agree.proofs.DepsSays.{BodySays}
use Rattle.cam_bytes.specs.Ranges.{IsNumber, IsObject}
use Rattle.cam_wire.specs.Writable.{IsWritableBody}
use Rattle.cam_histories.specs.Ranges.{IsBelowTop, LettersAreInRange}
use Rattle.cam_histories.proofs.Carrying.{SenderPast, sender_past, count_is, load_is_of}
use Rattle.cam_histories.proofs.Ranging.{AllRanged, count_low, count_high, call_range, fit_declared}
use Rattle.cam_histories.proofs.Echoing.{Echoes, Travels, SaidCall, SaidPrepare, said_call, said_prepare}
use Rattle.cam_histories.proofs.InRange.{travels}

-- the child of a start has a parent
two_parts : (b : Name) → is_ancestor b b ≡ true → is_top b ≡ false → 2 ≤ length b
two_parts [] named child = cc
two_parts (p ∷ []) named child = cc
two_parts (p ∷ q ∷ b) named child = omega arith

below_top : (objects : List ObjectDecl) (L : List Deed) (body : Body) → BodySays objects L body → IsBelowTop body
below_top objects L (bodies.Start b counts) says = two_parts b says.named says.child
below_top objects L (bodies.Call a n x op c counts) says = tt
below_top objects L (bodies.Answer a n reply) says = tt
below_top objects L (bodies.Finish b v counts) says = tt
below_top objects L (bodies.Quit b) says = tt
below_top objects L (bodies.Prepare f c) says = tt
below_top objects L (bodies.Vote f c agrees) says = tt
below_top objects L (bodies.Query f) says = tt
below_top objects L bodies.News says = tt

module _ (objects : List ObjectDecl) (t : List Event) (run : Ran objects t) (few : length objects ≤ 64) (short : length t < 1000000000) where
  -- a count of a node
  count_number : (S : ℕ → Bool) (m c : ℕ) → 1 ≤ c → c ≤ count (plain t S) m → IsNumber c
  count_number S m c low high = let most = count_high objects t S m run in (low, omega (arith, high, most, short))

  -- the number, the object and the count of a call
  called : (S : ℕ → Bool) (a : Name) (n x : ℕ) (op : Op) (c : ℕ) → Legal objects (plain t S) → AllRanged objects (plain t S) → In (Call a n x op c) (plain t S) → IsNumber n × IsObject x × IsNumber c
  called S a n x op c legal ranged i =
      let call : Addressed = record { object = x; op = op; count = c } in
      let there : call_of (plain t S) a n ≡ Some call = in_call objects (plain t S) a n x op c legal i in
      let number = call_range objects t S a n x op c run legal i in
      let most = number.1 in
      let declared = fit_declared objects x op (call_fits objects (plain t S) a n call legal there) in (
        (number.0, omega (arith, most, short)),
        omega (arith, declared, few),
        count_number S (site_of objects x) c (ranged (Call a n x op c) i).1 (call_count objects (plain t S) a n call legal there),
      )

  -- the family and the count of a prepare
  prepared : (S : ℕ → Bool) (f : Name) (c : ℕ) → Legal objects (plain t S) → AllRanged objects (plain t S) → SaidPrepare objects (plain t S) f c → (length f ≡ 1) × IsNumber c
  prepared S f c legal ranged said =
      (eqb-true (length f) 1 said.top, count_number S said.node c (pair_range objects (plain t S) f (said.node, c) ranged said.pair).1 (pair_count objects (plain t S) f (said.node, c) legal said.pair))

  body_in : (S : ℕ → Bool) (from to : ℕ) (body : Body) → Legal objects (plain t S) → AllRanged objects (plain t S) → BodyOk objects (plain t S) from to body → Echoes t body → IsWritableBody body
  body_in S from to (bodies.Start b counts) legal ranged ok echo = tt
  body_in S from to (bodies.Call a n x op c counts) legal ranged ok echo = called S a n x op c legal ranged ok.0
  body_in S from to (bodies.Answer a n reply) legal ranged ok echo =
      let holds : RunHolds objects t = ran_holds objects t run in
      let said : SaidCall objects (plain t every) a n = said_call objects (plain t every) echo.1.from echo.1.to echo.1.body a n (holds.letters echo.0 echo.1 echo.2 every (every_closed t) refl) echo.3 in
      (called every a n said.0 said.1 said.2 (holds.legal every (every_closed t)) holds.ranged said.3).0
  body_in S from to (bodies.Finish b v counts) legal ranged ok echo = tt
  body_in S from to (bodies.Quit b) legal ranged ok echo = tt
  body_in S from to (bodies.Prepare f c) legal ranged ok echo = prepared S f c legal ranged (record { top = ok.0; asked = ok.1; node = to; pair = ok.2 })
  body_in S from to (bodies.Vote f c agrees) legal ranged ok echo =
      let holds : RunHolds objects t = ran_holds objects t run in
      prepared every f c (holds.legal every (every_closed t)) holds.ranged
      (said_prepare objects (plain t every) echo.1.from echo.1.to echo.1.body f c (holds.letters echo.0 echo.1 echo.2 every (every_closed t) refl) echo.3)
  body_in S from to (bodies.Query f) legal ranged ok echo = eqb-true (length f) 1 ok.0
  body_in S from to bodies.News legal ranged ok echo = tt

pub letters_are_in_range : LettersAreInRange
letters_are_in_range objects taken t letter mail taking few short at =
    let run : Ran objects t = (taken, taking) in
    let S : ℕ → Bool = λ k. in_past t k letter.event in
    let past : SenderPast objects t letter = sender_past objects t letter mail run at in
    let way : Travels t mail = travels objects t run letter mail at in
    let is : known_count (load_at objects t letter).know mail.from ≡ count (past_of t letter.event) mail.from = count_is objects (past_of t letter.event) (load_at objects t letter).know mail.from (load_is_of objects t letter mail run at) way.from in
    let low = count_low (past_of t letter.event) mail.from in
    let high = count_high objects t S mail.from run in (
      record {
        from = way.from;
        count = (omega (arith, is, low), omega (arith, is, high, short));
        to = way.to;
        body = body_in objects t run few short S mail.from mail.to mail.body past.legal past.ranged ((ran_holds objects t run).letters letter mail at S past.closed past.it) way.echoes;
      },
      below_top objects (past_of t letter.event) mail.body (letters_say objects t run letter mail at S past.closed past.it),
    )
