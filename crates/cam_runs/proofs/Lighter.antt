-- What the arrival of a finish, a quit, a prepare, a vote or a query sends; and so of each letter.
use Rattle.std.proofs.Common.{◌≤◌, ◌<◌, ℕ, eqb, Bool, true, false, not, ◌||◌, if◌then◌else◌, List, [], ◌∷◌, Option, Some, None, arith}
use Rattle.std.specs.Prelude.{nat_lt, unwrap_or}
use Rattle.cam_names.specs.declared.name.Name.{Name}
use Rattle.cam_names.specs.Names.{parent, home_count}
use Rattle.cam_names.specs.Dependencies.{pairs_of}
use Rattle.cam_type.specs.declared.ObjectDecl.{ObjectDecl}
use Rattle.cam_know.specs.declared.Reason.{Reason}
use Rattle.cam_event.specs.declared.Note.TheVariants as notes
use Rattle.cam_event.specs.declared.Body.{Body}
use Rattle.cam_event.specs.declared.Body.TheVariants as bodies
use Rattle.cam_event.specs.declared.Deed.TheVariants.{Secure}
use Rattle.cam_event.specs.History.{secured_at}
use Rattle.cam_event.specs.Sights.{Sight, present, is_present, knows_outcome, is_preparing, votes}
use Rattle.cam_event.specs.Rules.{Did, nothing_but, did, answers, send, one, stopped_by, commits, aborts, news, start_comes, call_comes, answer_comes, decides_child, commits_or_aborts, child_finishes, child_quits, prepares, finish_comes, quit_comes, vote, prepare_comes, all_yes, vote_comes, query_comes, arrives}
use Rattle.cam_runs.proofs.Light.{sent_weight, Light, FewDeps, either, unless_stopped, pairs_few, prepares_weight, news_light, start_light, call_light, answer_light}
use Rattle.cam_runs.specs.Running.{weight}

heavier : (m n : ℕ) (d : Did) → m ≤ n → Light m d → Light n d
heavier m n d more h = omega (arith, more, h)

-- a finish: a child's sends nothing, a top action's eight prepares or news at most
decided_light : (g : Sight) (b : Name) (o : Option Reason) → Light 0 (commits_or_aborts g b o)
decided_light g b None = omega arith
decided_light g b (Some reason) = omega arith

child_finish_light : (g : Sight) (p b : Name) (counts : List ℕ) → Light 0 (child_finishes g p b counts)
child_finish_light g p b counts =
    let rest : Did = commits_or_aborts g b (g.orphan b (pairs_of counts)) in
    either (not (decides_child g p b)) 0 (nothing_but notes.Late) (stopped_by p (g.orphan p (pairs_of (g.deps p))) rest) (omega arith)
    (unless_stopped p (g.orphan p (pairs_of (g.deps p))) 0 rest (decided_light g b (g.orphan b (pairs_of counts))))

prepares_light : (g : Sight) (a : Name) (o : Option Reason) → FewDeps g → Light 80 (prepares g a o)
prepares_light g a None few =
    let sum = prepares_weight a (pairs_of (g.deps a)) in
    let pairs = pairs_few 1 (g.deps a) in
    omega (arith, sum, pairs, few a)
prepares_light g a (Some reason) few = let sum = news_light g a few in omega (arith, sum)

finish_light : (g : Sight) (b : Name) (o : Option Name) (counts : List ℕ) → FewDeps g → Light 80 (finish_comes g b o counts)
finish_light g b (Some p) counts few = heavier 0 80 (child_finishes g p b counts) (omega arith) (child_finish_light g p b counts)
finish_light g b None counts few =
    either (not (is_present g b) || knows_outcome g b || is_preparing g b) 80 (nothing_but notes.Late) (prepares g b (g.orphan b (pairs_of (g.deps b)))) (omega arith)
    (prepares_light g b (g.orphan b (pairs_of (g.deps b))) few)

-- a quit: eight news at most
child_quit_light : (g : Sight) (p b : Name) → Light 0 (child_quits g p b)
child_quit_light g p b =
    either (not (decides_child g p b)) 0 (nothing_but notes.Late) (stopped_by p (g.orphan p (pairs_of (g.deps p))) (did (aborts g b) [])) (omega arith)
    (unless_stopped p (g.orphan p (pairs_of (g.deps p))) 0 (did (aborts g b) []) (omega arith))

quit_light : (g : Sight) (b : Name) (o : Option Name) → FewDeps g → Light 8 (quit_comes g b o)
quit_light g b (Some p) few = heavier 0 8 (child_quits g p b) (omega arith) (child_quit_light g p b)
quit_light g b None few = either (not (is_present g b) || knows_outcome g b) 8 (nothing_but notes.Late) (did (aborts g b) (news g b)) (omega arith) (news_light g b few)

-- a prepare: a vote
prepare_light : (g : Sight) (f : Name) (c : ℕ) → Light 9 (prepare_comes g f c)
prepare_light g f c =
    let last : Did = did (one (Secure f g.node c)) (vote f c true) in
    let third : Did = if not (eqb c (present g)) then answers notes.Missed (vote f c false) else last in
    let second : Did = if secured_at g.deeds f g.node then answers notes.Again (vote f c true) else third in
    either (knows_outcome g f) 9 (nothing_but notes.Late) second (omega arith)
    (either (secured_at g.deeds f g.node) 9 (answers notes.Again (vote f c true)) third (omega arith)
    (either (not (eqb c (present g))) 9 (answers notes.Missed (vote f c false)) last (omega arith) (omega arith)))

-- a vote: eight news at most
vote_light : (g : Sight) (from : ℕ) (f : Name) (c : ℕ) (agrees : Bool) → FewDeps g → Light 8 (vote_comes g from f c agrees)
vote_light g from f c agrees few =
    let all : Bool = all_yes ((from, c) ∷ unwrap_or (votes g.events f) []) (g.deps f) in
    let third : Did = if all then did (commits g f) (news g f) else nothing_but notes.Voted in
    let second : Did = if not agrees then did (aborts g f) (news g f) else third in
    either (not (is_present g f) || not (is_preparing g f) || knows_outcome g f) 8 (nothing_but notes.Late) second (omega arith)
    (either (not agrees) 8 (did (aborts g f) (news g f)) third (news_light g f few)
    (either all 8 (did (commits g f) (news g f)) (nothing_but notes.Voted) (news_light g f few) (omega arith)))

-- a query: news
query_light : (g : Sight) (from : ℕ) (f : Name) → Light 1 (query_comes g from f)
query_light g from f =
    let second : Did = if nat_lt (home_count f) (present g) then did (aborts g f) (one (send from bodies.News)) else nothing_but notes.Late in
    either (knows_outcome g f) 1 (did [] (one (send from bodies.News))) second (omega arith)
    (either (nat_lt (home_count f) (present g)) 1 (did (aborts g f) (one (send from bodies.News))) (nothing_but notes.Late) (omega arith) (omega arith))

below : (m n : ℕ) (d : Did) → m < n → Light m d → sent_weight d.sent < n
below m n d less h = omega (arith, less, h)

-- each letter outweighs what its arrival sends
pub arrives_lighter : (objects : List ObjectDecl) (g : Sight) (from : ℕ) (body : Body) → FewDeps g → sent_weight (arrives objects g from body).sent < weight body
arrives_lighter objects g from (bodies.Start b counts) few = below 9 10 (start_comes g from b counts) (omega arith) (start_light g from b counts)
arrives_lighter objects g from (bodies.Call a n x op c counts) few = below 1 2 (call_comes objects g a n x op c counts) (omega arith) (call_light objects g a n x op c counts)
arrives_lighter objects g from (bodies.Answer a n reply) few = below 0 1 (answer_comes objects g a n reply) (omega arith) (answer_light objects g a n reply)
arrives_lighter objects g from (bodies.Finish b v counts) few = below 80 81 (finish_comes g b (parent b) counts) (omega arith) (finish_light g b (parent b) counts few)
arrives_lighter objects g from (bodies.Quit b) few = below 8 9 (quit_comes g b (parent b)) (omega arith) (quit_light g b (parent b) few)
arrives_lighter objects g from (bodies.Prepare f c) few = below 9 10 (prepare_comes g f c) (omega arith) (prepare_light g f c)
arrives_lighter objects g from (bodies.Vote f c agrees) few = below 8 9 (vote_comes g from f c agrees) (omega arith) (vote_light g from f c agrees few)
arrives_lighter objects g from (bodies.Query f) few = below 1 2 (query_comes g from f) (omega arith) (query_light g from f)
arrives_lighter objects g from bodies.News few = omega arith
