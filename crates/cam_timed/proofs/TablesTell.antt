-- In a run by time the rule of an input makes what it makes by tables.
use Rattle.std.proofs.Common.{◌≡◌, inl, inr, ◌<◌, ℕ, Bool, true, false, not, ◌||◌, List, [], ◌∷◌, length, Option, Some, None, refl, sym, ap, ◌∙◌, subst}
use Rattle.std.specs.Option.{option_map_or}
use Rattle.std.proofs.lemmas.Bool.{not-false, or_right}
use Rattle.cam_names.specs.declared.name.Name.{Name}
use Rattle.cam_names.specs.Names.{home_node}
use Rattle.cam_names.proofs.Names.{name_eq_refl}
use Rattle.cam_type.specs.declared.ObjectDecl.{ObjectDecl}
use Rattle.cam_event.specs.declared.LetterId.{LetterId}
use Rattle.cam_event.specs.declared.Event.{Event}
use Rattle.cam_event.specs.declared.LineRefusal.TheVariants as refusals
use Rattle.cam_event.specs.declared.Body.{Body}
use Rattle.cam_event.specs.declared.Body.TheVariants as bodies
use Rattle.cam_event.specs.declared.Deed.{Deed}
use Rattle.cam_event.specs.declared.Deed.TheVariants.{AskCommit, AskAbort}
use Rattle.cam_event.specs.declared.Want.{Want}
use Rattle.cam_event.specs.declared.Want.TheVariants as wants
use Rattle.cam_event.specs.History.{created, asked_commit, is_ask_commit, is_create, is_open_child}
use Rattle.cam_event.specs.Pasts.{plain_all, every, IsEarlier}
use Rattle.cam_event.specs.Inputs.{Begins, Requests, Receives, Tells, Queries, Restarts, Mail, decider_of, letter_at, mail_got}
use Rattle.cam_event.specs.Refusals.{refusal, has_ended, has_call, has_child, is_not_open}
use Rattle.cam_event.specs.Rules.{did, aborts, arrives_mail}
use Rattle.cam_event.specs.Sights.{Sight}
use Rattle.cam_event.proofs.Members.{In, in_any}
use Rattle.cam_plain.specs.Lines.{Line}
use Rattle.cam_plain.specs.Legal.{Legal}
use Rattle.cam_plain.proofs.Performed.{runs_created}
use Rattle.cam_cut.proofs.Sees.{BodyOk}
use Rattle.cam_cut.proofs.HomeLines.{first_none, where_none}
use Rattle.cam_cut.proofs.LegalFacts.{asked_commit_created}
use Rattle.cam_cut.proofs.Holds.{every_part, every_closed}
use Rattle.cam_cut.proofs.Firsts.{keep_each}
use Rattle.cam_timed.specs.declared.TimedEvent.{TimedEvent}
use Rattle.cam_timed.specs.Moments.{events}
use Rattle.cam_timed.specs.Travelling.{carrier, abort_paths, timed_informs}
use Rattle.cam_timed.specs.TimedSights.{timed_sight}
use Rattle.cam_timed.specs.TimedRules.{TimedInput, WithoutTime, Ticks, Expires, timed_node_of, timed_got_of, timed_rule}
use Rattle.cam_timed.specs.TimedRuns.{TimedMayCome, IsTimedRun}
use Rattle.cam_timed.specs.KeptSights.{kept_sight, TablesTellTheRule}
use Rattle.cam_timed.proofs.Told.{first_each}
use Rattle.cam_timed.proofs.Holding.{TimedHolds}
use Rattle.cam_timed.proofs.TimedSees.{timed_sees, untimed_none, input_early}
use Rattle.cam_timed.proofs.RuleHolds.{timed_holds}
use Rattle.cam_timed.proofs.TableSights.{deps_kept, kept_fields}
use Rattle.cam_timed.proofs.TableRules.{depending, BodyKept, request_same, news_same, arrives_same}

-- an action that asked to abort was created
quit_created : (objects : List ObjectDecl) (L : List Deed) (b : Name) → Legal objects L → In (AskAbort b) L → created L b ≡ true
quit_created objects [] b legal i = absurd i
quit_created objects (d ∷ L) b legal (inl e) =
    or_right (is_create b d) (created L b) (runs_created L b (subst (λ (x : Deed). Line objects L x) (sym e) legal.0))
quit_created objects (d ∷ L) b legal (inr r) = or_right (is_create b d) (created L b) (quit_created objects L b legal.1 r)

-- a request that is not refused is of an action that was created at its home
refused_created : (g : Sight) (a : Name) (want : Want) → refusal g a want ≡ None → created g.deeds a ≡ true
refused_created g a (wants.Ask m) free =
    let rest = (first_none (has_call g a) _ (first_none (has_ended g a) _ free).1).1 in
    not-false (created g.deeds a) (where_none (not (created g.deeds a)) refusals.NotOpen (first_none (is_not_open g a) _ rest).0)
refused_created g a (wants.Call x op) free =
    let rest = (first_none (has_child g a) _ (first_none (has_call g a) _ (first_none (has_ended g a) _ free).1).1).1 in
    not-false (created g.deeds a) (where_none (not (created g.deeds a)) refusals.NotOpen rest)
refused_created g a (wants.Commit v) free =
    let rest = (first_none (has_child g a) _ (first_none (has_call g a) _ (first_none (has_ended g a) _ free).1).1).1 in
    not-false (created g.deeds a) (where_none (not (created g.deeds a)) refusals.NotOpen rest)
refused_created g a wants.Abort free = not-false (created g.deeds a) (where_none (not (created g.deeds a)) refusals.NotOpen (first_none (has_ended g a) _ free).1)
refused_created g a (wants.GiveUp b) free = both (created g.deeds a) (not (is_open_child g.deeds a b)) (where_none _ refusals.NotOpen (first_none (has_ended g a) _ free).1)
  where
    both : (x y : Bool) → (not x || y) ≡ false → x ≡ true
    both true y h = refl
    both false y h = cc

-- what was created at a node by its own deeds was created
created_here : (objects : List ObjectDecl) (t : List Event) (s : ℕ) (got : Option LetterId) (a : Name) → TimedHolds objects t → IsEarlier (length t) got → home_node a ≡ s → created (timed_sight objects t s got).deeds a ≡ true → created (plain_all t) a ≡ true
created_here objects t s got a holds early at there =
    sym (keep_each (λ L. created L a) (λ r b o L. refl) s (timed_informs t s got) (first_each t (abort_paths t) s got (carrier t got)) (plain_all t))
    ∙ sym ((timed_sees objects t s got every holds early (every_part t s got)).same_created a at) ∙ there

-- what tables have of dependencies
kept_deps : List ObjectDecl → List Event → ℕ → Option LetterId → Name → List ℕ
kept_deps objects t s got = (kept_sight objects t s (timed_informs t s got)).deps

-- what a letter asks after was created at its node
body_kept : (objects : List ObjectDecl) (t : List Event) (letter : LetterId) (s : ℕ) (from to : ℕ) (body : Body) → TimedHolds objects t → letter.event < length t → to ≡ s → BodyOk objects (plain_all t) from to body
    → BodyKept (timed_sight objects t s (Some letter)) (kept_deps objects t s (Some letter)) body
unfolding kept_deps
body_kept objects t letter s from to (bodies.Finish b v counts) holds early at ok = λ top.
    deps_kept objects t s (Some letter) b holds early (ap (decider_of b) (sym top) ∙ sym ok.1 ∙ at)
    (asked_commit_created objects (plain_all t) b (holds.sets.legal every (every_closed t)) (in_any (is_ask_commit b) (plain_all t) (AskCommit b v) ok.0 (name_eq_refl b)))
body_kept objects t letter s from to (bodies.Quit b) holds early at ok = λ top.
    deps_kept objects t s (Some letter) b holds early (ap (decider_of b) (sym top) ∙ sym ok.0 ∙ at)
    (quit_created objects (plain_all t) b (holds.sets.legal every (every_closed t)) (ok.1 top))
body_kept objects t letter s from to (bodies.Vote f c agrees) holds early at ok = λ preparing.
    let is = (timed_sees objects t s (Some letter) every holds early (every_part t s (Some letter))).prepared f preparing in
    deps_kept objects t s (Some letter) f holds early is.home
    (asked_commit_created objects (plain_all t) f (holds.sets.legal every (every_closed t))
    (sym (keep_each (λ L. asked_commit L f) (λ r b o L. refl) s (timed_informs t s (Some letter)) (first_each t (abort_paths t) s (Some letter) (carrier t (Some letter))) (plain_all t)) ∙ is.asked))
body_kept objects t letter s from to (bodies.Start b counts) holds early at ok = tt
body_kept objects t letter s from to (bodies.Call a n x op c counts) holds early at ok = tt
body_kept objects t letter s from to (bodies.Answer a n reply) holds early at ok = tt
body_kept objects t letter s from to (bodies.Prepare f c) holds early at ok = tt
body_kept objects t letter s from to (bodies.Query f) holds early at ok = tt
body_kept objects t letter s from to bodies.News holds early at ok = tt

-- the letter of an arrival
mail_same : (objects : List ObjectDecl) (t : List Event) (letter : LetterId) (s : ℕ) (o : Option Mail) → TimedHolds objects t → letter.event < length t → letter_at t letter ≡ o → option_map_or (λ (m : Mail). m.to) o 0 ≡ s
    → arrives_mail objects (timed_sight objects t s (Some letter)) o ≡ arrives_mail objects (depending (timed_sight objects t s (Some letter)) (kept_deps objects t s (Some letter))) o
mail_same objects t letter s None holds early is at = refl
mail_same objects t letter s (Some mail) holds early is at =
    arrives_same objects (timed_sight objects t s (Some letter)) (kept_deps objects t s (Some letter)) mail.from mail.body
    (body_kept objects t letter s mail.from mail.to mail.body holds early at (holds.sets.letters letter mail is every (every_closed t) refl))

-- an action that was created at its home
of_action : (objects : List ObjectDecl) (T : List TimedEvent) (a : Name) → IsTimedRun objects T → created (timed_sight objects (events T) (home_node a) None).deeds a ≡ true
    → (timed_sight objects (events T) (home_node a) None).deps a ≡ kept_deps objects (events T) (home_node a) None a
unfolding kept_deps
of_action objects T a run there =
    let holds : TimedHolds objects (events T) = timed_holds objects T run in
    deps_kept objects (events T) (home_node a) None a holds tt refl (created_here objects (events T) (home_node a) None a holds tt refl there)

-- so each rule
rule_same : (objects : List ObjectDecl) (T : List TimedEvent) (input : TimedInput) → IsTimedRun objects T → TimedMayCome objects T input
    → timed_rule objects (timed_sight objects (events T) (timed_node_of T input) (timed_got_of input)) (mail_got (events T) (timed_got_of input)) input
    ≡ timed_rule objects (depending (timed_sight objects (events T) (timed_node_of T input) (timed_got_of input)) (kept_deps objects (events T) (timed_node_of T input) (timed_got_of input))) (mail_got (events T) (timed_got_of input)) input
rule_same objects T (WithoutTime (Begins s) until) run may = refl
rule_same objects T (WithoutTime (Requests r) until) run may =
    request_same objects (timed_sight objects (events T) (home_node r.action) None) (kept_deps objects (events T) (home_node r.action) None) r.action r.want
    (of_action objects T r.action run (refused_created (timed_sight objects (events T) (home_node r.action) None) r.action r.want
    (untimed_none (refusal (timed_sight objects (events T) (home_node r.action) None) r.action r.want) _ may.0).0))
rule_same objects T (WithoutTime (Receives letter) until) run may =
    mail_same objects (events T) letter (timed_node_of T (WithoutTime (Receives letter) until)) (letter_at (events T) letter) (timed_holds objects T run) (input_early objects T (WithoutTime (Receives letter) until) may) refl refl
rule_same objects T (WithoutTime (Tells s to) until) run may = refl
rule_same objects T (WithoutTime (Queries s f) until) run may = refl
rule_same objects T (WithoutTime (Restarts s) until) run may = absurd may
rule_same objects T (Ticks s moment) run may = refl
rule_same objects T (Expires a) run may =
    ap (did (aborts (timed_sight objects (events T) (home_node a) None) a))
    (news_same (timed_sight objects (events T) (home_node a) None) (kept_deps objects (events T) (home_node a) None) a
    (of_action objects T a run
    (not-false (created (timed_sight objects (events T) (home_node a) None).deeds a)
    (where_none (not (created (timed_sight objects (events T) (home_node a) None).deeds a)) refusals.NotOpen (untimed_none (is_not_open (timed_sight objects (events T) (home_node a) None) a) _ may.1).0))))

-- What the rule of an input makes is what it makes by tables.
pub tables_tell_the_rule : TablesTellTheRule
unfolding kept_deps
tables_tell_the_rule objects T input run may =
    rule_same objects T input run may
    ∙ ap (λ (g : Sight). timed_rule objects g (mail_got (events T) (timed_got_of input)) input)
    (kept_fields objects T (timed_node_of T input) (timed_got_of input) run (input_early objects T input may))
