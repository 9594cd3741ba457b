-- An image that is too long is refused, whatever is to be made of it.
use Rattle.std.proofs.Common.{◌≡◌, ◌⊎◌, inr, ℕ, ◌<◌, Bool, true, false, cond, List, length, Option, Some, None, Result, Ok, Err, IfOk, refl, ap, sym, subst, lt-ltb, arith, length-append}
use Rattle.std.specs.Prelude.{Vec}
use Rattle.std.specs.declared.alloc.Global.{Global}
use Rattle.cam_base.specs.Told.{IfTold}
use Rattle.cam_io.specs.declared.fault.ReadFault.{ReadFault}
use Rattle.cam_io.specs.declared.fault.ReadFault.TheVariants.{TooLarge}
use Rattle.cam_io.specs.Reading.{IsRead}
use Rattle.cam_bytes.specs.Reading.{◌>>=◌}
use Rattle.cam_recman.specs.Inspect.{inspect_text}
use Rattle.cam_image.specs.declared.fault.ImageFault.{ImageFault}
use Rattle.cam_image.specs.declared.fault.ImageFault.TheVariants.{NotALog}
use Rattle.cam_image.specs.Images.{ckpt_entries, in_records, inspected, is_checkpointed, log_entries, most_bytes, upgraded}
use Rattle.cam_run.specs.declared.image.Making.{Making}
use Rattle.cam_run.specs.declared.image.Making.TheVariants.{Text, Version2}
use Rattle.cam_run.specs.declared.answer.Answer.{Answer}
use Rattle.cam_run.specs.Status.{number}
use Rattle.cam_run.specs.Answer.{IsOfFault}
use Rattle.cam_run.specs.Image.{IsOfImage, IsRefusedImage, made}

either : {A : Type 0} (b : Bool) (one other whole : A) → one ≡ whole → other ≡ whole → cond b one other ≡ whole
either true one other whole first second = first
either false one other whole first second = second

pub too_long : (making : Making) (image : List ℕ) → most_bytes < length image → made making image ≡ Err (NotALog most_bytes)
unfolding inspected upgraded
too_long Text image long =
    let test = lt-ltb most_bytes (length image) long in
    ap (λ (r : Result (List (List ℕ)) ImageFault). r >>= (λ entries. in_records (inspect_text entries)))
    (either (is_checkpointed image) (ckpt_entries image) (log_entries image) (Err (NotALog most_bytes)) (rw test refl) (rw test refl))
too_long Version2 image long = rw (lt-ltb most_bytes (length image) long) refl

-- what a source gave of one says that it is too long
longer : (making : Making) (input rest : List ℕ) (read : Result (Vec ℕ Global) ReadFault) → read ≡ Err TooLarge → IsRead most_bytes input rest read
    → made making input ≡ Err (NotALog most_bytes)
longer making input rest read is told =
    by (subst (λ (r : Result (Vec ℕ Global) ReadFault). IsRead most_bytes input rest r) is told)
  where
    by : IsRead most_bytes input rest (Err TooLarge) → made making input ≡ Err (NotALog most_bytes)
    by (front, long, split) = too_long making input (omega (arith, long, ap (λ (t : List ℕ). length t) split, length-append front rest))

pub too_large : {E : Type 0} (making : Making) (HasFailed : Type 0) (old new : Option (List ℕ)) (read : Result (Vec ℕ Global) ReadFault) (r : Result Answer E)
    → read ≡ Err TooLarge → IfTold old new (λ input rest. IsRead most_bytes input rest read)
    → IfOk r (λ a. IsRefusedImage (NotALog most_bytes) (number a.status) a.text.items)
    → IfTold old new (λ input rest. IfOk r (λ a. (HasFailed × IsOfFault (number a.status) a.text.items) ⊎ IsOfImage (made making input) (number a.status) a.text.items))
too_large making HasFailed (Some input) (Some rest) read (Ok a) is told refused =
    inr (subst (λ (m : Result (List ℕ) ImageFault). IsOfImage m (number a.status) a.text.items) (sym (longer making input rest read is told)) refused)
too_large making HasFailed (Some input) (Some rest) read (Err e) is told refused = tt
too_large making HasFailed (Some input) None read r is told refused = absurd told
too_large making HasFailed None (Some rest) read r is told refused = absurd told
too_large making HasFailed None None read r is told refused = tt
