-- No server is asked at an event for which no call came.
use Rattle.std.proofs.Common.{◌≡◌, false, List, Result, Ok, Err, IfOk, refl}
use Rattle.cam_event.specs.declared.Body.{Body}
use Rattle.cam_event.specs.declared.Body.TheVariants as bodies
use Rattle.cam_event.specs.declared.Deed.{Deed}
use Rattle.cam_locks.specs.Site.{Site}
use Rattle.cam_node.specs.Holdings.{held_after_letter, Holdings, LeavesOthersOf}
use Rattle.cam_node.specs.Served.{is_call}

-- what holds of each result
pub of_each : {T E : Type 0} (r : Result T E) (P : T → Type 0) → ((x : T) → P x) → IfOk r P
of_each (Ok x) P each = each x
of_each (Err e) P each = tt

pub letter_unasked : (before after : Site) (body : Body) (deeds : List Deed) (old : Holdings)
    → is_call body ≡ false → old ≡ held_after_letter before after body deeds old
letter_unasked before after (bodies.Start b counts) deeds old none = refl
letter_unasked before after (bodies.Call a n x op c counts) deeds old none = cc
letter_unasked before after (bodies.Answer a n reply) deeds old none = refl
letter_unasked before after (bodies.Finish a v counts) deeds old none = refl
letter_unasked before after (bodies.Quit a) deeds old none = refl
letter_unasked before after (bodies.Prepare f c) deeds old none = refl
letter_unasked before after (bodies.Vote f c vote) deeds old none = refl
letter_unasked before after (bodies.Query f) deeds old none = refl
letter_unasked before after bodies.News deeds old none = refl

pub others_unasked : (before : Site) (body : Body) (old : Holdings) → is_call body ≡ false
    → LeavesOthersOf before body old old
others_unasked before (bodies.Start b counts) old none = refl
others_unasked before (bodies.Call a n x op c counts) old none = cc
others_unasked before (bodies.Answer a n reply) old none = refl
others_unasked before (bodies.Finish a v counts) old none = refl
others_unasked before (bodies.Quit a) old none = refl
others_unasked before (bodies.Prepare f c) old none = refl
others_unasked before (bodies.Vote f c vote) old none = refl
others_unasked before (bodies.Query f) old none = refl
others_unasked before bodies.News old none = refl
