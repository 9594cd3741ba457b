-- What the handed-in server holds after a call is the value of the object, if the call was performed.
use Rattle.std.proofs.Common.{◌≡◌, ℕ, eqb, Bool, false, cond, List, [], ◌∷◌, ◌++◌, filter, Option, Some, None, refl, sym, ap, ap₂, ◌∙◌, subst}
use Rattle.std.proofs.lemmas.Bool.{eq-eqb}
use Rattle.std.proofs.lemmas.List.Elements.{filter-append}
use Rattle.cam_names.specs.declared.name.Name.{Name}
use Rattle.cam_type.specs.declared.Op.{Op}
use Rattle.cam_type.specs.declared.State.{State}
use Rattle.cam_type.specs.Objects.{start_of}
use Rattle.cam_type.specs.Table.{state_after, answer_of}
use Rattle.cam_know.specs.Knowledge.{Knowledge}
use Rattle.cam_locks.specs.declared.LiveOp.{LiveOp}
use Rattle.cam_locks.specs.Site.{Site}
use Rattle.cam_locks.specs.Moss.{holder, is_on, replay, value}
use Rattle.cam_locks.specs.Calls.{after_grant, grant, grant_by, site_by, with_operation}
use Rattle.cam_locks.specs.Changes.{by_holder}
use Rattle.cam_locks.specs.Served.{served}
use Rattle.cam_locks.proofs.Replays.{replay_append}
use Rattle.cam_server.specs.declared.Performed.{Performed}
use Rattle.cam_server.specs.declared.Performed.TheVariants as performed
use Rattle.cam_server.specs.Server.{Server}
use Rattle.cam_server.specs.Calls.{granted, held_by, is_served, tested_by, Asked}
use Rattle.cam_server.proofs.Tested.{tested_unserved}

-- one more operation on the object is done on its value
value_with : (site : Site) (a : Name) (x : ℕ) (op : Op)
    → state_after (value site x) op ≡ value (with_operation site a x op) x
value_with site a x op =
    sym (ap (replay start) (filter-append (is_on x) site.live (o ∷ [])
    ∙ ap (λ b. filter (is_on x) site.live ++ cond b (o ∷ []) []) (eq-eqb x x refl))
    ∙ replay_append start (filter (is_on x) site.live) (o ∷ []))
  where
    o : LiveOp
    o = record { index = site.next; action = a; object = x; op = op }

    start : State
    start = start_of site.objects x

holds_here : (site : Site) (a : Name) (x : ℕ) (op : Op) (held : State)
    → served site a x op held
    ≡ held_by (granted (grant site a x op)) (value (after_grant site a x op) x) held
holds_here site a x op held = by (holder site a x op)
  where
    by : (h : Option Name) → by_holder h held (state_after (value site x) op)
        ≡ held_by (granted (grant_by h (answer_of (value site x) op)))
        (value (site_by h site (with_operation site a x op)) x) held
    by None = value_with site a x op
    by (Some u) = refl

-- What the lock table decides.
pub granted_holds : (old new : Site) (a : Name) (x : ℕ) (op : Op) (held now : State)
    (done : Performed) → done ≡ granted (grant old a x op) → new ≡ after_grant old a x op
    → now ≡ served old a x op held → now ≡ held_by done (value new x) held
granted_holds old new a x op held now done is after has =
    has ∙ holds_here old a x op held
    ∙ ap₂ (λ (d : Performed) (s : Site). held_by d (value s x) held) (sym is) (sym after)

-- What a test decides before it.
unserved_holds : (done : Performed) (now held : State) → is_served done ≡ false
    → held ≡ held_by done now held
unserved_holds (performed.Done answer) now held none = cc
unserved_holds (performed.Busy u) now held none = refl
unserved_holds performed.Missed now held none = refl
unserved_holds performed.Ended now held none = refl
unserved_holds (performed.Again reply) now held none = refl
unserved_holds (performed.Orphan reason) now held none = refl

pub tested_holds : (k : Knowledge) (server : Server) (asked : Asked) (done : Performed)
    (now held : State)
    → Some done ≡ tested_by k server asked.action asked.number asked.count asked.visited
    → held ≡ held_by done now held
tested_holds k server asked done now held tested =
    unserved_holds done now held (tested_unserved k server asked done tested)
