-- One more step of a node by what does not concern the families.
use Rattle.std.proofs.Common.{◌≡◌, ℕ, false, not, List, Option, Some, None, sym, ◌∙◌, refl}
use Rattle.std.specs.Prelude.{is_some}
use Rattle.std.specs.List.{list_any}
use Rattle.std.proofs.lemmas.Bool.{true≢false, false_from_ne_true}
use Rattle.cam_names.specs.declared.name.Name.{Name}
use Rattle.cam_names.specs.Names.{parent}
use Rattle.cam_names.specs.Dependencies.{has_pair}
use Rattle.cam_type.specs.declared.ObjectDecl.{ObjectDecl}
use Rattle.cam_event.specs.declared.Body.{Body}
use Rattle.cam_event.specs.declared.Body.TheVariants as bodies
use Rattle.cam_event.specs.History.{is_secure_at}
use Rattle.cam_event.specs.Inputs.{Input, Begins, Requests, Receives, Tells, Queries, Restarts, Mail}
use Rattle.cam_event.specs.Sights.{Sight, is_preparing_note, yes_in, yes_for}
use Rattle.cam_event.specs.Rules.{finish_comes, arrives, rule}
use Rattle.cam_event.specs.ByKnowledge.{held_sight}
use Rattle.cam_event.specs.Carried.{Carried}
use Rattle.cam_event.specs.NextStep.{stepped}
use Rattle.cam_commit.specs.Steps.{is_prepare_of, is_mail, brings, IsOfKind}
use Rattle.cam_commit.specs.Stepping.{concerns, OtherStepKeeps}
use Rattle.cam_commit.proofs.Calling.{quiet_keeps}
use Rattle.cam_commit.proofs.RuleKinds.{request_plain, start_plain, call_plain, answer_plain, child_plain, quit_plain, query_plain}
use Rattle.cam_commit.proofs.StepKinds.{begins_none, steps_are_of_kind}

-- no family is begun by it,
child_note : (g : Sight) (f b : Name) (o : Option Name) (counts : List ℕ) → not (is_some o) ≡ false → is_preparing_note f (finish_comes g b o counts).note ≡ false
child_note g f b None counts h = cc
child_note g f b (Some p) counts h = begins_none f _ (child_plain g p b counts).1

letter_note : (objects : List ObjectDecl) (g : Sight) (from : ℕ) (f : Name) (body : Body) → concerns body ≡ false
    → is_preparing_note f (arrives objects g from body).note ≡ false
letter_note objects g from f (bodies.Start b counts) h = begins_none f _ (start_plain g from b counts).1
letter_note objects g from f (bodies.Call a n x op c counts) h = begins_none f _ (call_plain objects g a n x op c counts).1
letter_note objects g from f (bodies.Answer a n reply) h = begins_none f _ (answer_plain objects g a n reply).1
letter_note objects g from f (bodies.Finish b v counts) h = child_note g f b (parent b) counts h
letter_note objects g from f (bodies.Quit b) h = begins_none f _ (quit_plain g b (parent b)).1
letter_note objects g from f (bodies.Prepare b c) h = cc
letter_note objects g from f (bodies.Vote b c agrees) h = cc
letter_note objects g from f (bodies.Query b) h = begins_none f _ (query_plain g from b).1
letter_note objects g from f bodies.News h = refl

other_note : (objects : List ObjectDecl) (g : Sight) (f : Name) (input : Input) (mail : Option Mail) → is_mail concerns mail ≡ false
    → is_preparing_note f (rule objects g mail input).note ≡ false
other_note objects g f (Begins m) mail h = refl
other_note objects g f (Requests r) mail h = begins_none f _ (request_plain objects g r.action r.want).1
other_note objects g f (Receives letter) None h = refl
other_note objects g f (Receives letter) (Some mail) h = letter_note objects g mail.from f mail.body h
other_note objects g f (Tells m to) mail h = refl
other_note objects g f (Queries m b) mail h = refl
other_note objects g f (Restarts m) mail h = refl

-- none is secured,
no_prepare : (f : Name) (body : Body) → concerns body ≡ false → is_prepare_of f body ≡ false
no_prepare f (bodies.Prepare b c) h = cc
no_prepare f (bodies.Start b counts) h = refl
no_prepare f (bodies.Call a n x op c counts) h = refl
no_prepare f (bodies.Answer a n reply) h = refl
no_prepare f (bodies.Finish b v counts) h = refl
no_prepare f (bodies.Quit b) h = refl
no_prepare f (bodies.Vote b c agrees) h = refl
no_prepare f (bodies.Query b) h = refl
no_prepare f bodies.News h = refl

none_brought : (f : Name) (input : Input) (mail : Option Mail) → is_mail concerns mail ≡ false → brings (is_prepare_of f) input mail ≡ false
none_brought f (Begins m) mail h = refl
none_brought f (Requests r) mail h = refl
none_brought f (Receives letter) None h = refl
none_brought f (Receives letter) (Some mail) h = no_prepare f mail.body h
none_brought f (Tells m to) mail h = refl
none_brought f (Queries m b) mail h = refl
none_brought f (Restarts m) mail h = refl

-- and no vote counts.
no_yes : (f : Name) (from m k : ℕ) (body : Body) → concerns body ≡ false → has_pair (yes_in f from body) m k ≡ false
no_yes f from m k (bodies.Vote b c agrees) h = cc
no_yes f from m k (bodies.Start b counts) h = refl
no_yes f from m k (bodies.Call a n x op c counts) h = refl
no_yes f from m k (bodies.Answer a n reply) h = refl
no_yes f from m k (bodies.Finish b v counts) h = refl
no_yes f from m k (bodies.Quit b) h = refl
no_yes f from m k (bodies.Prepare b c) h = refl
no_yes f from m k (bodies.Query b) h = refl
no_yes f from m k bodies.News h = refl

none_yes : (f : Name) (m k : ℕ) (mail : Option Mail) → is_mail concerns mail ≡ false → has_pair (yes_for f mail) m k ≡ false
none_yes f m k None h = refl
none_yes f m k (Some mail) h = no_yes f mail.from m k mail.body h

pub other_step_keeps : OtherStepKeeps
other_step_keeps objects s before input mail brought old new runs other same commits =
    quiet_keeps objects s before c old new
    (record {
      no_restart = kind.restarts ∙ runs;
      begins = λ f. other_note objects (held_sight objects s before brought) f input mail other;
      counts = λ f m k undecided preparing. none_yes f m k mail other;
      secures = λ f.
          false_from_ne_true (list_any (is_secure_at f s) c.event.deeds) (λ is. true≢false (sym (kind.secures f is) ∙ none_brought f input mail other));
    })
    same commits
  where
    c : Carried
    c = stepped objects s before input mail brought

    kind : IsOfKind s input c
    kind = steps_are_of_kind objects s before input mail brought
