-- The calls are the rules.
use Rattle.std.proofs.Common.{◌≡◌, ℕ, eqb, length, Option, None, arith, Bool, true, false, not, ◌&&◌, ◌||◌, if◌then◌else◌, List, [], ◌∷◌, sym, ap, ap₂, ◌∙◌, refl}
use Rattle.std.specs.Prelude.{nat_lt, unwrap_or}
use Rattle.std.specs.List.{list_all}
use borrow.Author.Tests.{eqb-true}
use Rattle.cam_names.specs.declared.name.Name.{Name}
use Rattle.cam_names.specs.Names.{is_top, parent, home_count}
use Rattle.cam_names.specs.Dependencies.{has_pair, pairs_of}
use Rattle.cam_names.proofs.Names.{name_eq_refl}
use Rattle.cam_event.specs.History.{secured_at}
use Rattle.cam_event.specs.Sights.{Sight, votes, present, is_present, is_preparing, knows_outcome}
use Rattle.cam_event.specs.Rules.{Did, nothing_but, prepares, finish_comes, quit_comes, all_yes}
use Rattle.cam_event.specs.declared.Note.TheVariants as notes
use Rattle.cam_commit.specs.declared.Voted.{Voted}
use Rattle.cam_commit.specs.declared.Voted.TheVariants as voted
use Rattle.cam_commit.specs.declared.Asked.TheVariants as asked
use Rattle.cam_commit.specs.declared.Queried.TheVariants as queried
use Rattle.cam_commit.specs.Families.{Families}
use Rattle.cam_commit.specs.Calls.{yes, yes_eq, is_last, voted_by}
use Rattle.cam_commit.specs.Steps.{AnswersOf, TopFinishIsRule, TopQuitIsRule, AskedIsRule, VotedIsRule, QueriedIsRule, did_asked, did_voted, did_queried}

-- a top action is no child
top_no_parent : (f : Name) → is_top f ≡ true → parent f ≡ None
top_no_parent [] top = refl
top_no_parent (p ∷ []) top = refl
top_no_parent (p ∷ q ∷ f) top = let e = eqb-true (length (p ∷ q ∷ f)) 1 top in absurd (omega (arith, e))

pub top_finish_is_rule : TopFinishIsRule
top_finish_is_rule objects g families from f v counts top answers =
    ap (λ (o : Option Name). finish_comes g f o counts) (top_no_parent f top) ∙ by (knows_outcome g f) refl
  where
    late : (here p q : Bool) → (if not here || true || p then nothing_but notes.Late else prepares g f (g.orphan f (pairs_of (g.deps f))))
        ≡ (if not here || true || q then nothing_but notes.Late else prepares g f (g.orphan f (pairs_of (g.deps f))))
    late true p q = refl
    late false p q = refl

    by : (k : Bool) → knows_outcome g f ≡ k
        → (if not (is_present g f) || k || is_preparing g f then nothing_but notes.Late else prepares g f (g.orphan f (pairs_of (g.deps f))))
        ≡ (if not (is_present g f) || k || families.is_preparing f then nothing_but notes.Late else prepares g f (g.orphan f (pairs_of (g.deps f))))
    by true known = late (is_present g f) (is_preparing g f) (families.is_preparing f)
    by false undecided =
        ap (λ b. if not (is_present g f) || false || b then nothing_but notes.Late else prepares g f (g.orphan f (pairs_of (g.deps f))))
        (sym (answers f undecided).preparing)

pub top_quit_is_rule : TopQuitIsRule
top_quit_is_rule objects g from f top = ap (λ (o : Option Name). quit_comes g f o) (top_no_parent f top)

pub asked_is_rule : AskedIsRule
asked_is_rule g families f c answers = by (knows_outcome g f) refl
  where
    each : (secured other : Bool)
        → (if secured then did_asked g f c asked.AlreadyYes else if other then did_asked g f c asked.Refuse else did_asked g f c asked.Secure)
        ≡ did_asked g f c (if secured then asked.AlreadyYes else if other then asked.Refuse else asked.Secure)
    each true other = refl
    each false true = refl
    each false false = refl

    by : (decided : Bool) → knows_outcome g f ≡ decided
        → (if decided then did_asked g f c asked.Late else if secured_at g.deeds f g.node then did_asked g f c asked.AlreadyYes
        else if not (eqb c (present g)) then did_asked g f c asked.Refuse else did_asked g f c asked.Secure)
        ≡ did_asked g f c (if decided then asked.Late else if families.is_secured f then asked.AlreadyYes
        else if not (eqb c (present g)) then asked.Refuse else asked.Secure)
    by true known = refl
    by false undecided =
        each (secured_at g.deeds f g.node) (not (eqb c (present g)))
        ∙ ap (λ b. did_asked g f c (if b then asked.AlreadyYes else if not (eqb c (present g)) then asked.Refuse else asked.Secure)) (sym (answers f undecided).secured)

pub queried_is_rule : QueriedIsRule
queried_is_rule g from f = by (knows_outcome g f) (nat_lt (home_count f) (present g))
  where
    by : (decided older : Bool)
        → (if decided then did_queried g from f queried.Tell else if older then did_queried g from f queried.Abort else did_queried g from f queried.StillOpen)
        ≡ did_queried g from f (if decided then queried.Tell else if older then queried.Abort else queried.StillOpen)
    by true older = refl
    by false true = refl
    by false false = refl

-- the last vote is the same by the families and by the rule
last_is_rule : (g : Sight) (families : Families) (from : ℕ) (f : Name) (c : ℕ) → AnswersOf g f families
    → is_last families (yes f from c) (g.deps f) ≡ all_yes ((from, c) ∷ unwrap_or (votes g.events f) []) (g.deps f)
last_is_rule g families from f c is = by (pairs_of (g.deps f))
  where
    by : (ps : List (ℕ × ℕ)) → list_all (λ p. yes_eq (yes f from c) (yes f p.0 p.1) || families.has_vote f p.0 p.1) ps
        ≡ list_all (λ p. has_pair ((from, c) ∷ unwrap_or (votes g.events f) []) p.0 p.1) ps
    by [] = refl
    by (p ∷ ps) =
        ap₂ (λ a b. a && b)
        (ap₂ (λ a b. a || b) (ap (λ b. b && (eqb from p.0 && eqb c p.1)) (name_eq_refl f)) (is.voted p.0 p.1)) (by ps)

-- where the family is preparing, the first no and the last yes decide
open_vote : (g : Sight) (f : Name) (h p a l : Bool)
    → (if not h || not p || false then did_voted g f voted.Late else if not a then did_voted g f voted.No else if l then did_voted g f voted.All else did_voted g f voted.Some)
    ≡ (if not h || false then did_voted g f voted.Late else did_voted g f (if not p then voted.Late else if not a then voted.No else if l then voted.All else voted.Some))
open_vote g f false p a l = refl
open_vote g f true false a l = refl
open_vote g f true true false l = refl
open_vote g f true true true true = refl
open_vote g f true true true false = refl

late_vote : (h p : Bool) (x y : Did) → (if not h || not p || true then nothing_but notes.Late else x) ≡ (if not h || true then nothing_but notes.Late else y)
late_vote false p x y = refl
late_vote true false x y = refl
late_vote true true x y = refl

pub voted_is_rule : VotedIsRule
voted_is_rule g families from f c agrees answers = by (knows_outcome g f) refl
  where
    last : Bool
    last = all_yes ((from, c) ∷ unwrap_or (votes g.events f) []) (g.deps f)

    mine : Voted
    mine = voted_by families (yes f from c) agrees (g.deps f)

    rest : Did
    rest = if not agrees then did_voted g f voted.No else if last then did_voted g f voted.All else did_voted g f voted.Some

    same : AnswersOf g f families
        → (if not (is_preparing g f) then voted.Late else if not agrees then voted.No else if last then voted.All else voted.Some) ≡ mine
    same is =
        sym (ap₂ (λ p l. if not p then voted.Late else if not agrees then voted.No else if l then voted.All else voted.Some)
        is.preparing (last_is_rule g families from f c is))

    by : (k : Bool) → knows_outcome g f ≡ k
        → (if not (is_present g f) || not (is_preparing g f) || k then did_voted g f voted.Late else rest)
        ≡ (if not (is_present g f) || k then did_voted g f voted.Late else did_voted g f mine)
    by true known = late_vote (is_present g f) (is_preparing g f) rest (did_voted g f mine)
    by false undecided =
        open_vote g f (is_present g f) (is_preparing g f) agrees last
        ∙ ap (λ (v : Voted). if not (is_present g f) || false then did_voted g f voted.Late else did_voted g f v) (same (answers f undecided))
