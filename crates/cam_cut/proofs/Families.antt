-- What a node's events say of families: which are preparing, and who has voted.
use Rattle.std.proofs.Common.{◌≡◌, ◌⊎◌, inl, inr, if◌then◌else◌, ℕ, eqb, Bool, true, false, List, [], ◌∷◌, ◌++◌, length, Option, Some, None, is_some, refl, sym, ap, ◌∙◌, subst, arith}
use Rattle.std.specs.Prelude.{slice_get, option_map, option_and_then}
use Rattle.std.specs.List.{list_any}
use Rattle.std.proofs.lemmas.Bool.{eq-eqb, ne_eqb}
use Rattle.std.proofs.lemmas.Bool.Decides.{eqb_tells}
use Rattle.std.proofs.lemmas.Option.{same_Some, none-some}
use Rattle.cam_names.specs.declared.name.Name.{Name}
use Rattle.cam_names.specs.Names.{name_eq}
use Rattle.cam_names.proofs.Names.{name_eq_same}
use Rattle.cam_event.proofs.Members.{In, in_append, event_below}
use Rattle.cam_type.specs.declared.ObjectDecl.{ObjectDecl}
use Rattle.cam_event.specs.declared.LetterId.{LetterId}
use Rattle.cam_event.specs.declared.Event.{Event}
use Rattle.cam_event.specs.declared.Sent.{Sent}
use Rattle.cam_event.specs.declared.Body.{Body}
use Rattle.cam_event.specs.declared.Body.TheVariants as bodies
use Rattle.cam_event.specs.declared.Deed.{Deed}
use Rattle.cam_event.specs.declared.Deed.TheVariants.{Secure}
use Rattle.cam_event.specs.History.{is_crash}
use Rattle.cam_event.specs.Pasts.{HasNode, HasSender, IsClosed}
use Rattle.cam_event.specs.Inputs.{event_at, Mail, mail_of, mail_got, letter_at}
use Rattle.cam_event.specs.Sights.{entries, is_preparing_note, yes_in, yes_for, votes}
use Rattle.cam_cut.proofs.Sees.{BodyOk}

-- an older event has its number in the longer trace too
pub event_older : (e : Event) (t : List Event) (j : ℕ) (x : Event) → event_at t j ≡ Some x → event_at (e ∷ t) j ≡ Some x
event_older e t j x h = rw (ne_eqb j (length t) (λ (same : j ≡ length t). omega (arith, same, event_below t j x h))) h

-- the event that sent a letter, and its place there
pub record SentBy (t : List Event) (letter : LetterId) (mail : Mail) : Type 0 where
  pub event : Event
  pub sent : Sent
  pub at : event_at t letter.event ≡ Some event
  pub place : slice_get event.sent letter.place ≡ Some sent
  pub is : mail_of event sent ≡ mail

-- each letter was sent so
pub sent_by : (t : List Event) (letter : LetterId) (mail : Mail) → letter_at t letter ≡ Some mail → SentBy t letter mail
sent_by t letter mail h = by (event_at t letter.event) refl h
  where
    inner : (e : Event) → event_at t letter.event ≡ Some e → (o : Option Sent) → slice_get e.sent letter.place ≡ o → option_map (mail_of e) o ≡ Some mail → SentBy t letter mail
    inner e x None y g = absurd (none-some mail g)
    inner e x (Some k) y g = record { event = e; sent = k; at = x; place = y; is = same_Some (mail_of e k) mail g }

    by : (o : Option Event) → event_at t letter.event ≡ o → option_and_then (λ e. option_map (mail_of e) (slice_get e.sent letter.place)) o ≡ Some mail → SentBy t letter mail
    by None x g = absurd (none-some mail g)
    by (Some e) x g = inner e x (slice_get e.sent letter.place) refl g

-- an older letter is the same in the longer trace
pub letter_older : (e : Event) (t : List Event) (letter : LetterId) (mail : Mail) → letter_at t letter ≡ Some mail → letter_at (e ∷ t) letter ≡ Some mail
letter_older e t letter mail h =
    let from = sent_by t letter mail h in
    ap (option_and_then (λ x. option_map (mail_of x) (slice_get x.sent letter.place))) (event_older e t letter.event from.event from.at)
    ∙ ap (option_map (mail_of from.event)) from.place ∙ ap (λ m. Some m) from.is

-- a node that has the events of a set has each of them
pub node_has : (t : List Event) (S : ℕ → Bool) (s j : ℕ) (e : Event) → HasNode t S s → event_at t j ≡ Some e → e.node ≡ s → S j ≡ true
node_has [] S s j e has at mine = cc
node_has (x ∷ t) S s j e has at mine = elim (eqb_tells j (length t)) [
  | inl y ↦
      let found : event_at (x ∷ t) j ≡ Some x = rw y.0 refl in
      let same : x ≡ e = same_Some x e (sym found ∙ at) in
      subst (λ k. S k ≡ true) (sym y.1) (has.0 (ap (λ (z : Event). z.node) same ∙ mine))
  | inr n ↦
      let older : event_at (x ∷ t) j ≡ event_at t j = rw n.0 refl in
      node_has t S s j e has.1 (sym older ∙ at) mine
]

-- a family is preparing where an event of the node has the note
pub record PreparedBy (t : List Event) (s : ℕ) (f : Name) : Type 0 where
  pub number : ℕ
  pub event : Event
  pub at : event_at t number ≡ Some event
  pub mine : event.node ≡ s
  pub note : is_preparing_note f event.note ≡ true

-- so it is with one more event
older_prepared : (e : Event) (t : List Event) (s : ℕ) (f : Name) → PreparedBy t s f → PreparedBy (e ∷ t) s f
older_prepared e t s f h = record { number = h.number; event = h.event; at = event_older e t h.number h.event h.at; mine = h.mine; note = h.note }

-- where an image is there its origin is
mapped_some : {X Y : Type 0} (f : X → Y) (o : Option X) → is_some (option_map f o) ≡ true → is_some o ≡ true
mapped_some f None h = h
mapped_some f (Some x) h = refl

-- each family that is preparing is so by an event
pub prepared_by : (t : List Event) (s : ℕ) (f : Name) → is_some (votes (entries t s) f) ≡ true → PreparedBy t s f
prepared_by [] s f h = cc
prepared_by (e ∷ t) s f h = by (eqb_tells e.node s) h (prepared_by t s f)
  where
    mine : e.node ≡ s → (c : Bool) → (p : Bool) → is_preparing_note f e.note ≡ p → is_some (if c then None else if p then Some [] else option_map (λ earlier. yes_for f (mail_got t e.got) ++ earlier) (votes (entries t s) f)) ≡ true → (is_some (votes (entries t s) f) ≡ true → PreparedBy t s f) → PreparedBy (e ∷ t) s f
    mine same true p x g rest = cc
    mine same false true x g rest = record { number = length t; event = e; at = rw (eq-eqb (length t) (length t) refl) refl; mine = same; note = x }
    mine same false false x g rest = older_prepared e t s f (rest (mapped_some (λ earlier. yes_for f (mail_got t e.got) ++ earlier) (votes (entries t s) f) g))

    by : ((eqb e.node s ≡ true) × (e.node ≡ s)) ⊎ ((eqb e.node s ≡ false) × (e.node ≡ s → ⊥)) → is_some (votes (entries (e ∷ t) s) f) ≡ true → (is_some (votes (entries t s) f) ≡ true → PreparedBy t s f) → PreparedBy (e ∷ t) s f
    by (inl y) g rest = mine y.1 (list_any (is_crash e.node) e.deeds) (is_preparing_note f e.note) refl
        (subst (λ (b : Bool). is_some (votes (if b then record { event = e; mail = mail_got t e.got } ∷ entries t s else entries t s) f) ≡ true) y.0 g) rest
    by (inr n) g rest = older_prepared e t s f (rest (subst (λ (b : Bool). is_some (votes (if b then record { event = e; mail = mail_got t e.got } ∷ entries t s else entries t s) f) ≡ true) n.0 g))

-- a letter that gives a vote yes is a vote yes
vote_yes : (f : Name) (from : ℕ) (body : Body) (x c : ℕ) → In (x, c) (yes_in f from body) → (x ≡ from) × (body ≡ bodies.Vote f c true)
vote_yes f from (bodies.Vote h d true) x c i = by (name_eq f h) refl i
  where
    by : (b : Bool) → name_eq f h ≡ b → In {X = ℕ × ℕ} (x, c) (if b then (from, d) ∷ [] else []) → (x ≡ from) × (bodies.Vote h d true ≡ bodies.Vote f c true)
    by true e (inl same) = (ap (λ (p : ℕ × ℕ). p.0) same, λ k. bodies.Vote (sym (name_eq_same f h e) k) (sym (ap (λ (p : ℕ × ℕ). p.1) same) k) true)
    by true e (inr r) = absurd r
    by false e r = absurd r
vote_yes f from (bodies.Vote h d false) x c i = absurd i
vote_yes f from (bodies.Start b counts) x c i = absurd i
vote_yes f from (bodies.Call a n o op d counts) x c i = absurd i
vote_yes f from (bodies.Answer a n reply) x c i = absurd i
vote_yes f from (bodies.Finish a v counts) x c i = absurd i
vote_yes f from (bodies.Quit a) x c i = absurd i
vote_yes f from (bodies.Prepare h d) x c i = absurd i
vote_yes f from (bodies.Query h) x c i = absurd i
vote_yes f from bodies.News x c i = absurd i

-- what the letters that a set has the senders of say, stands in the history P
abbrev pub LettersStand : List ObjectDecl → List Event → (ℕ → Bool) → List Deed → Type 0
LettersStand objects t S P = (letter : LetterId) (mail : Mail) → letter_at t letter ≡ Some mail → S letter.event ≡ true → BodyOk objects P mail.from mail.to mail.body

-- so each vote yes that came since is a Secure there
pub voted_in : (objects : List ObjectDecl) (P : List Deed) (S : ℕ → Bool) (t : List Event) (s : ℕ) (f : Name) (vs : List (ℕ × ℕ)) → LettersStand objects t S P → IsClosed t S → HasNode t S s → votes (entries t s) f ≡ Some vs → (x c : ℕ) → In (x, c) vs → In (Secure f x c) P
voted_in objects P S [] s f vs stand closed has h x c i = cc
voted_in objects P S (e ∷ t) s f vs stand closed has h x c i = by (eqb_tells e.node s) h (λ ws. voted_in objects P S t s f ws (λ letter mail at there. stand letter mail (letter_older e t letter mail at) there) closed.1 has.1)
  where
    Rest : Type 0
    Rest = (ws : List (ℕ × ℕ)) → votes (entries t s) f ≡ Some ws → (x c : ℕ) → In (x, c) ws → In (Secure f x c) P

    said : HasSender S e.got → (got : Option LetterId) → e.got ≡ got → (m : Option Mail) → mail_got t got ≡ m → In (x, c) (yes_for f m) → In (Secure f x c) P
    said sender got g None a k = absurd k
    said sender None g (Some mail) a k = cc
    said sender (Some letter) g (Some mail) a k =
        let vote = vote_yes f mail.from mail.body x c k in
        let ok : BodyOk objects P mail.from mail.to mail.body = stand letter mail (letter_older e t letter mail a) (subst (HasSender S) g sender) in
        let secured : In (Secure f mail.from c) P = subst (BodyOk objects P mail.from mail.to) vote.1 ok in
        subst (λ r. In (Secure f r c) P) (sym vote.0) secured

    cast : HasSender S e.got → Rest → (o : Option (List (ℕ × ℕ))) → votes (entries t s) f ≡ o → option_map (λ earlier. yes_for f (mail_got t e.got) ++ earlier) o ≡ Some vs → In (Secure f x c) P
    cast sender rest None a k = absurd (none-some vs k)
    cast sender rest (Some ws) a k = elim (in_append (yes_for f (mail_got t e.got)) ws (x, c) (subst (In (x, c)) (sym (same_Some (yes_for f (mail_got t e.got) ++ ws) vs k)) i)) [
      | inl l ↦ said sender e.got refl (mail_got t e.got) refl l
      | inr r ↦ rest ws a x c r
    ]

    mine : HasSender S e.got → Rest → (b p : Bool) → (if b then None else if p then Some [] else option_map (λ earlier. yes_for f (mail_got t e.got) ++ earlier) (votes (entries t s) f)) ≡ Some vs → In (Secure f x c) P
    mine sender rest true p k = absurd (none-some vs k)
    mine sender rest false true k = absurd (subst (In (x, c)) (sym (same_Some [] vs k)) i)
    mine sender rest false false k = cast sender rest (votes (entries t s) f) refl k

    by : ((eqb e.node s ≡ true) × (e.node ≡ s)) ⊎ ((eqb e.node s ≡ false) × (e.node ≡ s → ⊥)) → votes (entries (e ∷ t) s) f ≡ Some vs → Rest → In (Secure f x c) P
    by (inl y) g rest = mine (closed.0 (has.0 y.1)).1 rest (list_any (is_crash e.node) e.deeds) (is_preparing_note f e.note)
        (subst (λ (b : Bool). votes (if b then record { event = e; mail = mail_got t e.got } ∷ entries t s else entries t s) f ≡ Some vs) y.0 g)
    by (inr n) g rest = rest vs (subst (λ (b : Bool). votes (if b then record { event = e; mail = mail_got t e.got } ∷ entries t s else entries t s) f ≡ Some vs) n.0 g) x c i
