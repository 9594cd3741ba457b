-- The rule of an input makes the same by what tables have of dependencies, if they have those of the actions that it asks after.
use Rattle.std.proofs.Common.{◌≡◌, ◌+◌, ℕ, eqb, Bool, true, false, not, ◌||◌, if◌then◌else◌, List, [], ◌∷◌, map, filter, Option, Some, None, unwrap_or, refl, sym, ap, ◌∙◌}
use Rattle.cam_names.specs.declared.name.Name.{Name}
use Rattle.cam_names.specs.Names.{parent}
use Rattle.cam_names.specs.Dependencies.{pairs_of}
use Rattle.cam_type.specs.declared.ObjectDecl.{ObjectDecl}
use Rattle.cam_event.specs.declared.Body.{Body}
use Rattle.cam_event.specs.declared.Body.TheVariants as bodies
use Rattle.cam_event.specs.declared.Deed.TheVariants.{AskCommit}
use Rattle.cam_event.specs.declared.Note.TheVariants as notes
use Rattle.cam_event.specs.declared.Want.{Want}
use Rattle.cam_event.specs.declared.Want.TheVariants as wants
use Rattle.cam_event.specs.History.{calls}
use Rattle.cam_event.specs.Live.{site_of}
use Rattle.cam_event.specs.Inputs.{decider}
use Rattle.cam_event.specs.Sights.{Sight, is_present, is_preparing, knows_outcome, votes}
use Rattle.cam_event.specs.Rules.{Did, did, one, send, answers, nothing_but, commits, aborts, news, child_name, asks_child, makes_call, request, all_yes, finish_comes, quit_comes, vote_comes, arrives}
use Rattle.cam_rules.specs.Untested.{untested}

-- what a node goes by, with these dependencies
abbrev pub depending : Sight → (Name → List ℕ) → Sight
depending h D = record (untested h) { deps = D }

-- a request
pub request_same : (objects : List ObjectDecl) (h : Sight) (D : Name → List ℕ) (a : Name) (want : Want) → h.deps a ≡ D a → request objects (untested h) a want ≡ request objects (depending h D) a want
request_same objects h D a (wants.Ask m) e = ap (λ (cs : List ℕ). asks_child a (child_name (untested h) a m) m cs) e
request_same objects h D a (wants.Call x op) e = ap (λ (cs : List ℕ). makes_call a (calls h.deeds a + 1) x op (site_of objects x) (h.known_count (site_of objects x)) cs) e
request_same objects h D a (wants.Commit v) e = ap (λ (cs : List ℕ). did (one (AskCommit a v)) (one (send (decider a) (bodies.Finish a v cs)))) e
request_same objects h D a wants.Abort e = refl
request_same objects h D a (wants.GiveUp b) e = refl

-- news of a family
pub news_same : (h : Sight) (D : Name → List ℕ) (f : Name) → h.deps f ≡ D f → news (untested h) f ≡ news (depending h D) f
news_same h D f e = ap (λ (cs : List ℕ). map (λ p. send p.0 bodies.News) (filter (λ p. not (eqb p.0 h.node)) (pairs_of cs))) e

-- a finish, a quit
pub finish_same : (h : Sight) (D : Name → List ℕ) (b : Name) (o : Option Name) (counts : List ℕ) → (o ≡ None → h.deps b ≡ D b) → finish_comes (untested h) b o counts ≡ finish_comes (depending h D) b o counts
finish_same h D b (Some p) counts e = refl
finish_same h D b None counts e =
    ap (λ (cs : List ℕ). if not (is_present h b) || knows_outcome h b || is_preparing h b then nothing_but notes.Late
    else answers (notes.Preparing b) (map (λ p. send p.0 (bodies.Prepare b p.1)) (pairs_of cs))) (e refl)

pub quit_same : (h : Sight) (D : Name → List ℕ) (b : Name) (o : Option Name) → (o ≡ None → h.deps b ≡ D b) → quit_comes (untested h) b o ≡ quit_comes (depending h D) b o
quit_same h D b (Some p) e = refl
quit_same h D b None e =
    ap (λ sent. if not (is_present h b) || knows_outcome h b then nothing_but notes.Late else did (aborts (untested h) b) sent) (news_same h D b (e refl))

-- a vote, which counts if the family is preparing
vote_by : Sight → ℕ → Name → ℕ → Bool → Bool → List ℕ → Did
vote_by h from f c agrees preparing cs =
    if not (is_present h f) || not preparing || knows_outcome h f then nothing_but notes.Late
    else if not agrees then did (aborts h f) (map (λ p. send p.0 bodies.News) (filter (λ p. not (eqb p.0 h.node)) (pairs_of cs)))
    else if all_yes ((from, c) ∷ unwrap_or (votes h.events f) []) cs then did (commits h f) (map (λ p. send p.0 bodies.News) (filter (λ p. not (eqb p.0 h.node)) (pairs_of cs)))
    else nothing_but notes.Voted

closed : (h : Sight) (from : ℕ) (f : Name) (c : ℕ) (agrees : Bool) (cs ds : List ℕ) → vote_by h from f c agrees false cs ≡ vote_by h from f c agrees false ds
unfolding vote_by
closed h from f c agrees cs ds = by (is_present h f)
  where
    by : (x : Bool) → (if not x || true || knows_outcome h f then nothing_but notes.Late
        else if not agrees then did (aborts h f) (map (λ p. send p.0 bodies.News) (filter (λ p. not (eqb p.0 h.node)) (pairs_of cs)))
        else if all_yes ((from, c) ∷ unwrap_or (votes h.events f) []) cs then did (commits h f) (map (λ p. send p.0 bodies.News) (filter (λ p. not (eqb p.0 h.node)) (pairs_of cs)))
        else nothing_but notes.Voted)
        ≡ (if not x || true || knows_outcome h f then nothing_but notes.Late
        else if not agrees then did (aborts h f) (map (λ p. send p.0 bodies.News) (filter (λ p. not (eqb p.0 h.node)) (pairs_of ds)))
        else if all_yes ((from, c) ∷ unwrap_or (votes h.events f) []) ds then did (commits h f) (map (λ p. send p.0 bodies.News) (filter (λ p. not (eqb p.0 h.node)) (pairs_of ds)))
        else nothing_but notes.Voted)
    by true = refl
    by false = refl

pub vote_same : (h : Sight) (D : Name → List ℕ) (from : ℕ) (f : Name) (c : ℕ) (agrees : Bool) → (is_preparing h f ≡ true → h.deps f ≡ D f) → vote_comes (untested h) from f c agrees ≡ vote_comes (depending h D) from f c agrees
unfolding vote_by
vote_same h D from f c agrees e = by (is_preparing h f) refl
  where
    by : (preparing : Bool) → is_preparing h f ≡ preparing → vote_by h from f c agrees (is_preparing h f) (h.deps f) ≡ vote_by h from f c agrees (is_preparing h f) (D f)
    by true is = ap (vote_by h from f c agrees (is_preparing h f)) (e is)
    by false is = ap (λ b. vote_by h from f c agrees b (h.deps f)) is ∙ closed h from f c agrees (h.deps f) (D f) ∙ ap (λ b. vote_by h from f c agrees b (D f)) (sym is)

-- what an arrival asks after
abbrev pub BodyKept : Sight → (Name → List ℕ) → Body → Type 0
BodyKept h D (bodies.Finish b v counts) = parent b ≡ None → h.deps b ≡ D b
BodyKept h D (bodies.Quit b) = parent b ≡ None → h.deps b ≡ D b
BodyKept h D (bodies.Vote f c agrees) = is_preparing h f ≡ true → h.deps f ≡ D f
BodyKept h D _ = Unit {0}

pub arrives_same : (objects : List ObjectDecl) (h : Sight) (D : Name → List ℕ) (from : ℕ) (body : Body) → BodyKept h D body → arrives objects (untested h) from body ≡ arrives objects (depending h D) from body
arrives_same objects h D from (bodies.Finish b v counts) e = finish_same h D b (parent b) counts e
arrives_same objects h D from (bodies.Quit b) e = quit_same h D b (parent b) e
arrives_same objects h D from (bodies.Vote f c agrees) e = vote_same h D from f c agrees e
arrives_same objects h D from (bodies.Start b counts) e = refl
arrives_same objects h D from (bodies.Call a n x op c counts) e = refl
arrives_same objects h D from (bodies.Answer a n reply) e = refl
arrives_same objects h D from (bodies.Prepare f c) e = refl
arrives_same objects h D from (bodies.Query f) e = refl
arrives_same objects h D from bodies.News e = refl
