-- What stands of a run so far whose inputs name none but these nodes, and what that says of letters.
use Rattle.std.proofs.Common.{◌≡◌, inl, inr, ℕ, eqb, true, false, List, ◌∷◌, length, Option, Some, None, refl, sym, ap, ◌∙◌, subst}
use Rattle.std.specs.Prelude.{slice_get}
use Rattle.std.proofs.lemmas.Bool.Decides.{eqb_tells}
use Rattle.std.proofs.lemmas.Option.{same_Some}
use Rattle.cam_type.specs.declared.ObjectDecl.{ObjectDecl}
use Rattle.cam_event.specs.declared.LetterId.{LetterId}
use Rattle.cam_event.specs.declared.Event.{Event}
use Rattle.cam_event.specs.declared.Sent.{Sent}
use Rattle.cam_event.specs.Inputs.{Input, Begins, Requests, Receives, Tells, Queries, Restarts}
use Rattle.cam_event.specs.Inputs.{Mail, event_at, letter_at, mail_got, mail_of}
use Rattle.cam_event.specs.Pasts.{every, plain}
use Rattle.cam_event.proofs.Members.{In}
use Rattle.cam_cut.proofs.Families.{SentBy, sent_by}
use Rattle.cam_cut.proofs.Lists.{slice_in}
use Rattle.cam_histories.specs.Addressees.{IsAmong, NamesAmong}
use Rattle.cam_histories.proofs.AmongNodes.{AllAmong}
use Rattle.cam_histories.proofs.Replies.{IsSender, TellsTo}

abbrev pub GoesAmong : ℕ → Mail → Type 0
GoesAmong nodes mail = IsAmong nodes mail.from × IsAmong nodes mail.to

abbrev pub AllGo : ℕ → List Event → Type 0
AllGo nodes t =
    (letter : LetterId) (mail : Mail) → letter_at t letter ≡ Some mail → GoesAmong nodes mail

-- what stands of a run so far
pub record Stands (objects : List ObjectDecl) (nodes : ℕ) (t : List Event) : Type 0 where
  pub deeds : AllAmong objects nodes (plain t every)
  pub letters : AllGo nodes t

-- the sender of a letter
pub sender : (nodes : ℕ) (t : List Event) → AllGo nodes t → (o : Option LetterId) (to : ℕ)
    → IsSender (mail_got t o) to → IsAmong nodes to
sender nodes t before None to h = absurd h
sender nodes t before (Some letter) to h = by (letter_at t letter) refl h
  where
    by : (o : Option Mail) → letter_at t letter ≡ o → IsSender o to → IsAmong nodes to
    by None at k = absurd k
    by (Some mail) at k = subst (IsAmong nodes) k (before letter mail at).0

-- where a node is told to send news
pub told : (nodes : ℕ) (i : Input) → NamesAmong nodes i → (to : ℕ) → TellsTo i to → IsAmong nodes to
told nodes (Tells r x) named to h = subst (IsAmong nodes) h named.1
told nodes (Begins r) named to h = absurd h
told nodes (Requests r) named to h = absurd h
told nodes (Receives letter) named to h = absurd h
told nodes (Queries r f) named to h = absurd h
told nodes (Restarts r) named to h = absurd h

-- the letters with those of one more event
pub letters_with : (nodes : ℕ) (e : Event) (t : List Event)
    → ((m : Sent) → In m e.sent → GoesAmong nodes (mail_of e m)) → AllGo nodes t
    → AllGo nodes (e ∷ t)
letters_with nodes e t sent before letter mail at =
    elim (eqb_tells letter.event (length t)) [ inl y ↦ new y.0 | inr n ↦ old n.0 ]
  where
    new : eqb letter.event (length t) ≡ true → GoesAmong nodes mail
    new y =
        let from : SentBy (e ∷ t) letter mail = sent_by (e ∷ t) letter mail at in
        let found : event_at (e ∷ t) letter.event ≡ Some e = rw y refl in
        let mine : e ≡ from.event = same_Some e from.event (sym found ∙ from.at) in
        let member : In from.sent e.sent =
        slice_in e.sent letter.place from.sent
        (ap (λ (z : Event). slice_get z.sent letter.place) mine ∙ from.place) in
        subst (GoesAmong nodes) (ap (λ (z : Event). mail_of z from.sent) mine ∙ from.is)
        (sent from.sent member)

    old : eqb letter.event (length t) ≡ false → GoesAmong nodes mail
    old n =
        let same : letter_at (e ∷ t) letter ≡ letter_at t letter = rw n refl in
        before letter mail (sym same ∙ at)
