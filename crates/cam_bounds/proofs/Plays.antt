-- A play costs no more than one input for each node that halts in it.
use Rattle.std.proofs.Common.{◌≡◌, ◌⊎◌, inl, inr, ℕ, zero, suc, ◌+◌, ◌≤◌, eqb, Bool, true, false, not, ◌&&◌, ◌||◌, List, [], ◌∷◌, ◌++◌, length, Option, Some, None, refl, sym, ap, ◌∙◌, subst, arith}
use Rattle.std.specs.Prelude.{if◌then◌else◌, nat_le, nat_lt, slice_get, unwrap_or}
use Rattle.std.specs.List.{list_all, list_any}
use Rattle.std.proofs.lemmas.Bool.{and_parts, eq-eqb, leb-false, leb-true}
use Rattle.std.proofs.lemmas.Option.{same_Some}
use Rattle.cam_names.specs.declared.name.Name.{Name}
use Rattle.cam_names.specs.Names.{home_node, last_part}
use Rattle.cam_names.specs.Part.{PartFields}
use Rattle.cam_names.proofs.Names.{name_eq_same}
use Rattle.cam_type.specs.declared.ObjectDecl.{ObjectDecl}
use Rattle.cam_know.specs.declared.Reason.{Reason}
use Rattle.cam_event.specs.declared.Deed.{Deed}
use Rattle.cam_event.specs.declared.Event.{Event}
use Rattle.cam_event.specs.declared.ViewStep.{ViewStep}
use Rattle.cam_event.specs.declared.Want.{Want}
use Rattle.cam_event.specs.declared.Want.TheVariants as wants
use Rattle.cam_event.specs.History.{asks, created, ended}
use Rattle.cam_event.specs.Pasts.{plain_all}
use Rattle.cam_event.specs.Readings.{by_pasts}
use Rattle.cam_event.specs.Rules.{child_name, stopped_by, wanted}
use Rattle.cam_event.specs.Runs.{IsNode, IsWant}
use Rattle.cam_event.specs.Sights.{is_present, Sight}
use Rattle.cam_event.specs.Views.{view}
use Rattle.cam_script.specs.declared.Script.{Script}
use Rattle.cam_script.specs.declared.Statement.{Statement}
use Rattle.cam_script.specs.SoFar.{Size}
use Rattle.cam_body.specs.declared.Next.{Next}
use Rattle.cam_body.specs.declared.Next.TheVariants as nexts
use Rattle.cam_body.specs.Work.{child_body, next, place_of, want_of}
use Rattle.cam_runs.specs.HaltedPlaying.{given_body, go, go_in_round, make_request, may_go_on, play, requested, round, rounds}
use Rattle.cam_runs.specs.Halts.{accepted, appends}
use Rattle.cam_runs.specs.InRange.{is_statement, IsInRange}
use Rattle.cam_runs.specs.Playing.{body_number, body_of, in_order, is_stop_of, may_go}
use Rattle.cam_runs.specs.Requests.{asked_in, home_sight}
use Rattle.cam_runs.specs.RequestsLeft.{sum_in}
use Rattle.cam_runs.specs.Running.{has_number, waiting_weight}
use Rattle.cam_runs.specs.Standing.{drain, made, Setting, Standing}
use Rattle.cam_runs.proofs.Bodies.{at_work, at_work_holds, body_passes, wants_in_range, AtWork}
use Rattle.cam_runs.proofs.DrainsCount.{deliveries_later}
use Rattle.cam_runs.proofs.GivenBodies.{has_body, HasCosts}
use Rattle.cam_runs.proofs.HaltedPuts.{pasts}
use Rattle.cam_runs.proofs.Light.{sent_weight}
use Rattle.cam_runs.proofs.OnEvents.{more_numbers}
use Rattle.cam_runs.proofs.OneEvent.{first_none}
use Rattle.cam_runs.proofs.RequestsKept.{flag_lowers, no_more, sum_falls}
use Rattle.cam_runs.proofs.RequestsPut.{gift_made, no_child}
use Rattle.cam_bounds.proofs.Dues.{all_due, due, due_lowers, given_due, one_given}
use Rattle.cam_bounds.proofs.Inputs.{drain_spends, due_falls, halt_weighs, none_spent, put_takes, put_weighs, spent, Spends, Takes}
use Rattle.cam_bounds.proofs.Requests.{after, asked, asked_event, asked_halted, due_pays, event, given_events, given_weighs, halting_so, home_sight_of, little, none_given, paid, reason, request}

-- HOW MANY OF THE FIRST NODES are not halted
abbrev pub awake_to : List ℕ → ℕ → ℕ
awake_to halted zero = 0
awake_to halted (suc n) = (if has_number halted (suc n) then 0 else 1) + awake_to halted n

abbrev pub awake : Standing → ℕ
awake st = awake_to st.halted 8

one_most : (b : Bool) → (if b then 0 else 1) ≤ 1
one_most true = omega arith
one_most false = omega arith

awake_most : (halted : List ℕ) (n : ℕ) → awake_to halted n ≤ n
awake_most halted zero = omega arith
awake_most halted (suc n) =
    let one = one_most (has_number halted (suc n)) in
    let rest = awake_most halted n in
    omega (arith, one, rest)

awake_lowers : (old new : List ℕ)
    → ((s : ℕ) → has_number old s ≡ true → has_number new s ≡ true) → (n : ℕ)
    → awake_to new n ≤ awake_to old n
awake_lowers old new more zero = omega arith
awake_lowers old new more (suc n) =
    let one = flag_lowers (has_number old (suc n)) (has_number new (suc n)) 1 1 (more (suc n))
    (no_more 1) in
    let rest = awake_lowers old new more n in
    omega (arith, one, rest)

behind : (b c : Bool) → c ≡ true → (b || c) ≡ true
behind true c h = refl
behind false c h = h

awake_falls : (halted : List ℕ) (s n : ℕ) → 1 ≤ s → s ≤ n → has_number halted s ≡ false
    → awake_to (s ∷ halted) n + 1 ≤ awake_to halted n
awake_falls halted s zero some most was = absurd (omega (arith, some, most))
awake_falls halted s (suc n) some most was =
    by (nat_le s n) refl (λ less. awake_falls halted s n some less was)
  where
    more : (m : ℕ) → has_number halted m ≡ true → has_number (s ∷ halted) m ≡ true
    more m h = behind (eqb s m) (has_number halted m) h

    none_there : s ≡ suc n → (if has_number (s ∷ halted) (suc n) then 0 else 1) ≡ zero
    none_there same =
        ap (λ b. if b || has_number halted (suc n) then 0 else 1) (eq-eqb s (suc n) same)

    one_before : s ≡ suc n → (if has_number halted (suc n) then 0 else 1) ≡ suc zero
    one_before same =
        ap (λ (m : ℕ). if has_number halted m then 0 else 1) (sym same)
        ∙ ap (λ b. if b then 0 else 1) was

    by : (b : Bool) → nat_le s n ≡ b
        → (s ≤ n → awake_to (s ∷ halted) n + 1 ≤ awake_to halted n)
        → awake_to (s ∷ halted) (suc n) + 1 ≤ awake_to halted (suc n)
    by true is rest =
        let falls = rest (leb-true s n is) in
        let one = flag_lowers (has_number halted (suc n)) (has_number (s ∷ halted) (suc n)) 1 1
        (more (suc n)) (no_more 1) in
        omega (arith, falls, one)
    by false is rest =
        let above = leb-false s n is in
        let same : s ≡ suc n = omega (arith, above, most) in
        let now = none_there same in
        let before = one_before same in
        let others = awake_lowers halted (s ∷ halted) more n in
        omega (arith, now, before, others)

negated : (b : Bool) → not b ≡ true → b ≡ false
negated true h = cc
negated false h = refl

-- THE HOMES of the actions that have a body are nodes.
abbrev pub AreHoused : List (Name × ℕ) → Type 0
AreHoused given = (a : Name) (n : ℕ) → body_number given a ≡ Some n → IsNode (home_node a)

pub given_housed : (child : Option ℕ) (asked : Option Name) (st : Standing)
    → AreHoused st.running.bodies → ((b : Name) → asked ≡ Some b → IsNode (home_node b))
    → AreHoused (given_body child asked st).running.bodies
given_housed None asked st housed new = housed
given_housed (Some m) None st housed new = housed
given_housed (Some m) (Some b) st housed new =
    λ a n at. elim (more_numbers st.running.bodies b a m (Some n) at) [
      | inl was ↦ housed a n was
      | inr is ↦ subst (λ (x : Name). IsNode (home_node x)) (name_eq_same b a is.0) (new b refl)
    ]

last_added : (a : Name) (p : PartFields) → last_part (a ++ p ∷ []) ≡ p
last_added [] p = refl
last_added (q ∷ []) p = refl
last_added (q ∷ r ∷ a) p = last_added (r ∷ a) p

not_none : {X : Type 0} (b : Name) → None ≡ Some b → X
not_none b h = cc

child_home : (g : Sight) (a : Name) (m : ℕ) → home_node (child_name g a m) ≡ m
child_home g a m =
    ap (λ (p : PartFields). p.node)
    (last_added a (record { node = m; count = g.known_count m; number = asks g.deeds a + 1 }))

-- so is that of a child that is asked for
asked_home : (objects : List ObjectDecl) (g : Sight) (a : Name) (want : Want) (o : Option Reason)
    (b : Name) → IsWant objects want
    → asked_in (stopped_by a o (wanted objects g a want)).deeds ≡ Some b → IsNode (home_node b)
asked_home objects g a want (Some r) b is at = not_none b at
asked_home objects g a (wants.Ask m) None b is at =
    subst (λ (x : Name). IsNode (home_node x)) (same_Some (child_name g a m) b at)
    (subst IsNode (sym (child_home g a m)) is)
asked_home objects g a (wants.Call x op) None b is at = not_none b at
asked_home objects g a (wants.Commit v) None b is at = not_none b at
asked_home objects g a wants.Abort None b is at = not_none b at
asked_home objects g a (wants.GiveUp c) None b is at = not_none b at

-- what a body asks for is in range
wanted_in_range : (script : Script) (n : ℕ) (body : List Statement) (seen : List ViewStep)
    (want : Want) → IsInRange script → slice_get script.bodies n ≡ Some body
    → next body seen ≡ nexts.Request want → IsWant script.objects want
wanted_in_range script n body seen want range numbered asks = by work.asks
  where
    work : AtWork body seen want
    work = at_work body seen want asks

    passes : list_all (is_statement script.objects) body ≡ true
    passes =
        subst (λ (o : Option (List Statement)).
        list_all (is_statement script.objects) (unwrap_or o []) ≡ true) numbered
        (body_passes (λ ss. list_all (is_statement script.objects) ss) script.bodies n range.1 refl)

    stated : is_statement script.objects work.statement ≡ true
    stated = at_work_holds (is_statement script.objects) body seen want work passes

    by : (want ≡ wants.Abort) ⊎ (want ≡ want_of (place_of body seen).values work.statement)
        → IsWant script.objects want
    by (inl is) = subst (IsWant script.objects) (sym is) tt
    by (inr is) =
        subst (IsWant script.objects) (sym is)
        (wants_in_range script.objects (place_of body seen).values work.statement stated)

module _ (sizes : List Size) (script : Script) (costs : HasCosts sizes script.bodies)
    (range : IsInRange script) where
  abbrev pub Housed : Standing → Type 0
  Housed st = AreHoused st.running.bodies

  -- WHAT A PLAY may do: it spends no more than nodes halt in it.
  pub record Plays (old new : Standing) : Type 0 where
    pub less : spent sizes script new + awake new ≤ spent sizes script old + awake old
    pub events :
        length new.running.trace + accepted old.turns
        ≤ length old.running.trace + accepted new.turns
    pub housed : Housed new

  none_played : (st : Standing) → Housed st → Plays st st
  none_played st housed = record { less = omega arith; events = omega arith; housed = housed }

  plays_then : (one two three : Standing) → Plays one two → Plays two three → Plays one three
  plays_then one two three first second = record {
    less = let x = first.less in let y = second.less in omega (arith, x, y);
    events = let x = first.events in let y = second.events in omega (arith, x, y);
    housed = second.housed;
  }

  -- A REQUEST BY A BODY, in a setting where each input is this halt.
  module _ (c : Setting) (st : Standing) (a : Name) (want : Want) (n : ℕ) (body : List Statement)
      (numbered : slice_get script.bodies n ≡ Some body)
      (asks : next body (view (plain_all st.running.trace) a) ≡ nexts.Request want)
      (found : body_number st.running.bodies a ≡ Some n) (housed : Housed st) where
    abbrev pub child : Option ℕ
    child = child_body body (view (plain_all st.running.trace) a)

    abbrev pub went : Option Bool → Standing
    went o = after sizes script st a want c o

    abbrev pub child_asked : Option Bool → Option Name
    child_asked o = asked sizes script st a want c o

    abbrev pub with_child : Option Bool → Standing
    with_child o = given_body child (child_asked o) (went o)

    took : (o : Option Bool) → Takes st (went o)
    took o = put_takes (pasts script (halting_so c o)) st (request sizes script st a want c)

    -- what is left of all bodies falls by what is left of this one
    all_fall : (o : Option Bool) (d : ℕ)
        → due sizes script.bodies (went o).running.trace a n + d
        ≤ due sizes script.bodies st.running.trace a n
        → all_due sizes script.bodies (went o) + d ≤ all_due sizes script.bodies st
    all_fall o d falls =
        let f = due sizes script.bodies st.running.trace in
        let g = due sizes script.bodies (went o).running.trace in
        subst (λ (ps : List (Name × ℕ)). sum_in g ps + d ≤ all_due sizes script.bodies st)
        (sym (took o).keeps.bodies)
        (sum_falls f g st.running.bodies a n d found
        (due_lowers sizes script.bodies st.running.trace (went o).running.trace
        ((took o).keeps.left sizes script.bodies) (took o).stopped)
        (λ b same. subst (λ (x : Name). g x n + d ≤ f x n) (sym (name_eq_same b a same)) falls))

    child_home_is : (o : Option Bool) (b : Name) → child_asked o ≡ Some b → IsNode (home_node b)
    child_home_is (Some h) b at =
        not_none b (sym (asked_halted sizes script st a want c h) ∙ at)
    child_home_is None b at =
        asked_home script.objects g a want (reason sizes script st a want c) b
        (wanted_in_range script n body (view (plain_all st.running.trace) a) want range numbered asks)
        (sym (ap (λ (ds : List Deed).
        asked_in (ds ++ (stopped_by a (reason sizes script st a want c)
        (wanted script.objects g a want)).deeds))
        (first_none st.running.trace (home_node a)))
        ∙ sym (asked_event sizes script st a want c) ∙ at)
      where
        g : Sight
        g = home_sight_of sizes script st a want c

    pub child_housed : (o : Option Bool) → Housed (with_child o)
    child_housed o =
        given_housed child (child_asked o) (went o)
        (subst AreHoused (sym (took o).keeps.bodies) housed) (child_home_is o)

    pub child_events : (o : Option Bool)
        → length (with_child o).running.trace + accepted st.turns
        ≤ length st.running.trace + accepted (went o).turns
    child_events o =
        let same = ap (λ (t : List Event). length t) (given_events child (child_asked o) (went o)) in
        let count = (took o).count in
        let events = (took o).events in
        omega (arith, same, count, events)

    -- as a line makes it
    pub line_spends : (o : Option Bool) → Spends sizes script 82 st (with_child o)
    line_spends o =
        let pays = due_pays sizes script st a want c n body numbered asks o in
        let falls = all_fall o _ pays in
        let given = given_due sizes script.bodies costs child (child_asked o) (went o) in
        let small = little sizes script st a want c o child in
        let weighs = put_weighs script (halting_so c o) st (request sizes script st a want c) _
        (no_more (sent_weight (event sizes script st a want c).sent)) in
        let same = given_weighs child (child_asked o) (went o) in
        let count = (took o).count in
        record {
          less = omega (arith, falls, given, small, weighs, same, count);
          events = child_events o;
        }

    -- and in a play
    module _ (up : has_number st.halted (home_node a) ≡ false)
        (going : list_any (is_stop_of a) st.running.trace ≡ false) where
      plays_by : (o : Option Bool) → Plays st (with_child o)
      plays_by None =
          let pays = paid sizes script st a want c n body numbered asks up going in
          let falls = all_fall None _ pays.falls in
          let enough = pays.enough in
          let given = given_due sizes script.bodies costs child (child_asked None) (went None) in
          let weighs = put_weighs script (halting_so c None) st (request sizes script st a want c) _
          (no_more (sent_weight (event sizes script st a want c).sent)) in
          let same = given_weighs child (child_asked None) (went None) in
          let count = (took None).count in
          record {
            less = omega (arith, falls, enough, given, weighs, same, count);
            events = child_events None;
            housed = child_housed None;
          }
      plays_by (Some h) =
          let none = asked_halted sizes script st a want c h in
          let falls = due_falls sizes script st (went (Some h)) (took (Some h)) in
          let given = given_due sizes script.bodies costs child (child_asked (Some h)) (went (Some h)) in
          let no_gift = ap (gift_made sizes child) none ∙ no_child sizes child in
          let no_one = ap (one_given sizes script.bodies child) none
          ∙ none_given sizes script.bodies child in
          let weighs = halted_weighs h in
          let same = given_weighs child (child_asked (Some h)) (went (Some h)) in
          let count = (took (Some h)).count in
          let node = housed a n found in
          let fewer = awake_falls st.halted (home_node a) 8 node.0 node.1 up in
          let now = halted_now h in
          record {
            less = omega (arith, falls, given, no_gift, no_one, weighs, same, count, fewer, now);
            events = child_events (Some h);
            housed = child_housed (Some h);
          }
        where
          halted_weighs : (h : Bool)
              → waiting_weight (went (Some h)).running ≤ waiting_weight st.running
          halted_weighs h =
              halt_weighs c.line (c.restarted (home_node a)) st (home_node a)
              (event sizes script st a want c)
              (appends (by_pasts script.objects) st.running.trace (request sizes script st a want c)) h

          halted_now : (h : Bool)
              → awake (with_child (Some h)) ≡ awake_to (home_node a ∷ st.halted) 8
          halted_now true = refl
          halted_now false = refl

      pub plays : Plays st (given_body child (asked_in (made st
          (requested (pasts script c) st a want))) (requested (pasts script c) st a want))
      plays =
          plays_by (c.halts st.turns (home_node a)
          (appends (by_pasts script.objects) st.running.trace (request sizes script st a want c))
          (c.restarted (home_node a)))

  spends_played : (old new : Standing) → Spends sizes script 0 old new → awake new ≤ awake old
      → Housed new → Plays old new
  spends_played old new spends fewer housed = record {
    less = let less = spends.less in omega (arith, less, fewer);
    events = spends.events;
    housed = housed;
  }

  -- what may go on is awake, and was not stopped
  awake_home : (c : Setting) (st : Standing) (a : Name) → may_go_on c st a ≡ true
      → has_number st.halted (home_node a) ≡ false
  awake_home c st a h =
      negated (has_number st.halted (home_node a))
      (and_parts (may_go (home_sight c.reading st.running a) st.running a)
      (not (has_number st.halted (home_node a))) h).1

  goes_on : (c : Setting) (st : Standing) (a : Name) → may_go_on c st a ≡ true
      → list_any (is_stop_of a) st.running.trace ≡ false
  goes_on c st a h =
      let g = home_sight c.reading st.running a in
      negated (list_any (is_stop_of a) st.running.trace)
      (and_parts (created g.deeds a && not (ended g.deeds a) && is_present g a)
      (not (list_any (is_stop_of a) st.running.trace))
      (and_parts (may_go g st.running a) (not (has_number st.halted (home_node a))) h).0).1

  -- THE NEXT REQUEST of an action by its body, as a line makes it, and in a play
  module _ (c : Setting) (st : Standing) (a : Name) (housed : Housed st) where
    abbrev seen : List ViewStep
    seen = view (plain_all st.running.trace) a

    abbrev body : List Statement
    body = body_of script.bodies st.running a

    abbrev gone : Next → Standing
    gone x = make_request (pasts script c) st a (child_body body seen) x

    pub go_spends : Spends sizes script 82 st (go (pasts script c) script.bodies st a)
    go_spends = by (next body seen) refl
      where
        by : (x : Next) → next body seen ≡ x → Spends sizes script 82 st (gone x)
        by nexts.Wait asks = none_spent sizes script 82 st
        by nexts.Over asks = none_spent sizes script 82 st
        by (nexts.Request want) asks =
            let has = has_body script st.running a seen want asks in
            line_spends c st a want has.number body (has.numbered ∙ ap Some (sym has.is)) asks
            has.found housed (halt_of want)
          where
            halt_of : Want → Option Bool
            halt_of w =
                c.halts st.turns (home_node a)
                (appends (by_pasts script.objects) st.running.trace (request sizes script st a w c))
                (c.restarted (home_node a))

    pub go_housed : Housed (go (pasts script c) script.bodies st a)
    go_housed = by (next body seen) refl
      where
        by : (x : Next) → next body seen ≡ x → Housed (gone x)
        by nexts.Wait asks = housed
        by nexts.Over asks = housed
        by (nexts.Request want) asks =
            let has = has_body script st.running a seen want asks in
            child_housed c st a want has.number body (has.numbered ∙ ap Some (sym has.is)) asks
            has.found housed
            (c.halts st.turns (home_node a)
            (appends (by_pasts script.objects) st.running.trace (request sizes script st a want c))
            (c.restarted (home_node a)))

    go_plays : may_go_on (pasts script c) st a ≡ true
        → Plays st (go (pasts script c) script.bodies st a)
    go_plays may = by (next body seen) refl
      where
        by : (x : Next) → next body seen ≡ x → Plays st (gone x)
        by nexts.Wait asks = none_played st housed
        by nexts.Over asks = none_played st housed
        by (nexts.Request want) asks =
            let has = has_body script st.running a seen want asks in
            plays c st a want has.number body (has.numbered ∙ ap Some (sym has.is)) asks has.found
            housed (awake_home (pasts script c) st a may) (goes_on (pasts script c) st a may)

  names_play : (c : Setting) (names : List Name) (st : Standing) → Housed st
      → Plays st (go_in_round (pasts script c) script.bodies names st)
  names_play c [] st housed = none_played st housed
  names_play c (a ∷ more) st housed =
      plays_then st one (go_in_round (pasts script c) script.bodies more one) first
      (names_play c more one first.housed)
    where
      one : Standing
      one = if may_go_on (pasts script c) st a then go (pasts script c) script.bodies st a else st

      first : Plays st one
      first = by (may_go_on (pasts script c) st a) refl
        where
          by : (b : Bool) → may_go_on (pasts script c) st a ≡ b
              → Plays st (if b then go (pasts script c) script.bodies st a else st)
          by true may = go_plays c st a housed may
          by false may = none_played st housed

  pub drain_housed : (c : Setting) (st : Standing) → Housed st → Housed (drain c st)
  drain_housed c st housed =
      subst AreHoused (sym (deliveries_later c (waiting_weight st.running) st).bodies) housed

  drain_plays : (c : Setting) (st : Standing) → Housed st → Plays st (drain (pasts script c) st)
  drain_plays c st housed =
      spends_played st (drain (pasts script c) st) (drain_spends sizes script c st)
      (awake_lowers st.halted (drain (pasts script c) st).halted
      (deliveries_later (pasts script c) (waiting_weight st.running) st).halted 8)
      (drain_housed (pasts script c) st housed)

  round_plays : (c : Setting) (st : Standing) → Housed st
      → Plays st (round (pasts script c) script.bodies st)
  round_plays c st housed =
      let requests = go_in_round (pasts script c) script.bodies (in_order st.running.bodies) st in
      let first = names_play c (in_order st.running.bodies) st housed in
      plays_then st requests (drain (pasts script c) requests) first
      (drain_plays c requests first.housed)

  rounds_play : (c : Setting) (n : ℕ) (st : Standing) → Housed st
      → Plays st (rounds (pasts script c) script.bodies n st)
  rounds_play c zero st housed = none_played st housed
  rounds_play c (suc n) st housed =
      by (nat_lt (accepted st.turns) (accepted next_one.turns)) (rounds_play c n next_one first.housed)
    where
      next_one : Standing
      next_one = round (pasts script c) script.bodies st

      first : Plays st next_one
      first = round_plays c st housed

      by : (b : Bool) → Plays next_one (rounds (pasts script c) script.bodies n next_one)
          → Plays st (if b then rounds (pasts script c) script.bodies n next_one else next_one)
      by true rest = plays_then st next_one _ first rest
      by false rest = first

  -- THE PLAY of a line
  pub play_spends : (c : Setting) (st : Standing) → Housed st
      → Spends sizes script 82 st (play (pasts script c) script.bodies st)
  play_spends c st housed =
      let all = rounds_play c 514 st housed in
      let most = awake_most st.halted 8 in
      record {
        less = let less = all.less in omega (arith, less, most);
        events = all.events;
      }

  pub play_housed : (c : Setting) (st : Standing) → Housed st
      → Housed (play (pasts script c) script.bodies st)
  play_housed c st housed = (rounds_play c 514 st housed).housed
