-- What a node goes by, and does next, is the same of its history without the numbers of letters.
use Rattle.std.proofs.Common.{◌≡◌, ℕ, not, ◌||◌, if◌then◌else◌, List, [], ◌∷◌, map}
use Rattle.std.proofs.Common.{Option, Some, None, is_some, refl, ap, ◌∙◌}
use Rattle.std.specs.Prelude.{unwrap_or}
use Rattle.cam_names.specs.declared.name.Name.{Name}
use Rattle.cam_names.specs.Names.{parent}
use Rattle.cam_names.specs.Dependencies.{as_counts, pairs_of}
use Rattle.cam_type.specs.declared.ObjectDecl.{ObjectDecl}
use Rattle.cam_know.specs.Knowledge.{Knowledge}
use Rattle.cam_know.specs.Known.{both, knows_abort, knows_commit, known_count}
use Rattle.cam_know.specs.Orphans.{known_orphan}
use Rattle.cam_event.specs.declared.Body.{Body}
use Rattle.cam_event.specs.declared.Body.TheVariants as bodies
use Rattle.cam_event.specs.declared.Note.TheVariants as notes
use Rattle.cam_event.specs.declared.Want.{Want}
use Rattle.cam_event.specs.declared.Want.TheVariants as wants
use Rattle.cam_event.specs.declared.Deed.{Deed}
use Rattle.cam_event.specs.History.{after}
use Rattle.cam_event.specs.Inputs.{Input, Begins, Requests, Receives, Tells, Queries, Restarts}
use Rattle.cam_event.specs.Inputs.{Mail}
use Rattle.cam_event.specs.Inputs.{got_of}
use Rattle.cam_event.specs.Sights.{Sight, Entry, votes, is_present}
use Rattle.cam_event.specs.Sights.{knows_outcome}
use Rattle.cam_event.specs.Rules.{rule, arrives, arrives_mail, finish_comes, quit_comes, did}
use Rattle.cam_event.specs.Rules.{aborts, commits, news, all_yes, nothing_but, request, prepares}
use Rattle.cam_event.specs.ByPast.{event_of}
use Rattle.cam_event.specs.Carried.{Carried, entry_of}
use Rattle.cam_event.specs.ByKnowledge.{held}
use Rattle.cam_event.specs.HeldSites.{site_after_all}
use Rattle.cam_event.specs.ByKnowledge.{sight_with, new_informs, step_with, node_step}
use Rattle.cam_histories.proofs.Nameless.{bare, bare_entry, deeds_bare, pairs_bare, held_bare}
use Rattle.cam_histories.proofs.Nameless.{site_bare, votes_bare}

-- A rule goes by a node's events by the votes alone.
module _ (objects : List ObjectDecl) (g : Sight) (es : List Entry)
    (same : (f : Name) → votes es f ≡ votes g.events f)
  where
    abbrev pub other : Sight
    other = record g { events = es }

    wanted_by : (a : Name) (want : Want) → request objects other a want ≡ request objects g a want
    wanted_by a (wants.Ask m) = refl
    wanted_by a (wants.Call x op) = refl
    wanted_by a (wants.Commit v) = refl
    wanted_by a wants.Abort = refl
    wanted_by a (wants.GiveUp b) = refl

    finish_by : (b : Name) (counts : List ℕ) (p : Option Name)
        → finish_comes other b p counts ≡ finish_comes g b p counts
    finish_by b counts (Some p) = refl
    finish_by b counts None =
        λ i. if not (is_present g b) || knows_outcome g b || is_some (same b i)
        then nothing_but notes.Late
        else prepares g b (g.orphan b (pairs_of (g.deps b)))

    quit_by : (b : Name) (p : Option Name) → quit_comes other b p ≡ quit_comes g b p
    quit_by b (Some p) = refl
    quit_by b None = refl

    body_by : (from : ℕ) (body : Body) → arrives objects other from body
        ≡ arrives objects g from body
    body_by from (bodies.Start b counts) = refl
    body_by from (bodies.Call a n x op c counts) = refl
    body_by from (bodies.Answer a n reply) = refl
    body_by from (bodies.Finish b v counts) = finish_by b counts (parent b)
    body_by from (bodies.Quit b) = quit_by b (parent b)
    body_by from (bodies.Prepare f c) = refl
    body_by from (bodies.Vote f c agrees) =
        λ i. if not (is_present g f) || not (is_some (same f i)) || knows_outcome g f
        then nothing_but notes.Late
        else if not agrees then did (aborts g f) (news g f)
        else if all_yes ((from, c) ∷ unwrap_or (same f i) []) (g.deps f)
        then did (commits g f) (news g f)
        else nothing_but notes.Voted
    body_by from (bodies.Query f) = refl
    body_by from bodies.News = refl

    mail_by : (mail : Option Mail) → arrives_mail objects other mail ≡ arrives_mail objects g mail
    mail_by None = refl
    mail_by (Some mail) = body_by mail.from mail.body

    pub rule_by : (mail : Option Mail) (input : Input)
        → rule objects other mail input ≡ rule objects g mail input
    rule_by mail (Begins s) = refl
    rule_by mail (Requests r) = wanted_by r.action r.want
    rule_by mail (Receives letter) = mail_by mail
    rule_by mail (Tells s to) = refl
    rule_by mail (Queries s f) = refl
    rule_by mail (Restarts s) = refl

-- what a node goes by
pub sight_bare : (objects : List ObjectDecl) (s : ℕ) (h : List Carried) (first : List Deed)
    (k : Knowledge)
    → sight_with objects s (map bare h) first k
    ≡ record (sight_with objects s h first k) { events = map bare_entry (map entry_of h) }
sight_bare objects s h first k =
    λ i. record {
      node = s;
      deeds = after (deeds_bare h i) first;
      events = entries h i;
      live =
          map (λ p. p.operation) (site_after_all (deeds_bare h i) None (site_bare h i) first).live;
      knows_abort = knows_abort k;
      knows_commit = knows_commit k;
      known_count = known_count k;
      orphan = known_orphan k;
      deps = λ a. as_counts (pairs_bare objects h a i);
    }
  where
    entries : (h : List Carried) → map entry_of (map bare h) ≡ map bare_entry (map entry_of h)
    entries [] = refl
    entries (c ∷ h) = ap (λ es. bare_entry (entry_of c) ∷ es) (entries h)

-- one step
pub step_bare : (objects : List ObjectDecl) (s : ℕ) (h : List Carried) (input : Input)
    (mail : Option Mail) (brought : Knowledge)
    → node_step objects s (map bare h) input mail brought ≡ node_step objects s h input mail brought
step_bare objects s h input mail brought =
    ap (λ k. step_with objects s (map bare h) input mail (both k brought) (new_informs s brought k))
    (held_bare objects h)
    ∙ ap (λ g. event_of s (got_of input) first (rule objects g mail input))
    (sight_bare objects s h first k)
    ∙ ap (event_of s (got_of input) first)
    (rule_by objects (sight_with objects s h first k) (map bare_entry (map entry_of h))
    (votes_bare (map entry_of h)) mail input)
  where
    k : Knowledge
    k = both (held objects h) brought

    first : List Deed
    first = new_informs s brought (held objects h)
