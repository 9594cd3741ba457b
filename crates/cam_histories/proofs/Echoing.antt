-- An answer is to a call that was sent, and a vote to a prepare; what those say stands.
use Rattle.std.proofs.Common.{◌≡◌, ℕ, true, List, ◌∷◌, Option, Some, None, refl, subst}
use Rattle.cam_names.specs.declared.name.Name.{Name}
use Rattle.cam_names.specs.Names.{is_top}
use Rattle.cam_type.specs.declared.ObjectDecl.{ObjectDecl}
use Rattle.cam_type.specs.declared.Op.{Op}
use Rattle.cam_event.specs.declared.LetterId.{LetterId}
use Rattle.cam_event.specs.declared.Event.{Event}
use Rattle.cam_event.specs.declared.Body.{Body}
use Rattle.cam_event.specs.declared.Body.TheVariants as bodies
use Rattle.cam_event.specs.declared.Deed.{Deed}
use Rattle.cam_event.specs.declared.Deed.TheVariants.{Call}
use Rattle.cam_event.specs.History.{Addressed, created, asked_commit}
use Rattle.cam_event.specs.Gained.{deps}
use Rattle.cam_event.specs.Inputs.{Mail, letter_at, mail_got}
use Rattle.cam_event.specs.Runs.{IsNode}
use Rattle.cam_event.proofs.Members.{In}
use Rattle.cam_plain.specs.Legal.{Legal}
use Rattle.cam_plain.proofs.Performed.{called_created}
use Rattle.cam_cut.proofs.Families.{letter_older}
use Rattle.cam_cut.proofs.LegalFacts.{in_call}
use Rattle.cam_cut.proofs.Sees.{BodyOk}
use Rattle.cam_histories.proofs.Replies.{BodyCalls, BodyPrepares, Calls, Prepares}

-- an answer is to a call that was sent, and a vote to a prepare
abbrev pub Echoes : List Event → Body → Type 0
Echoes t (bodies.Answer a n reply) = (letter : LetterId) × (mail : Mail) × (letter_at t letter ≡ Some mail) × BodyCalls mail.body a n
Echoes t (bodies.Vote f c agrees) = (letter : LetterId) × (mail : Mail) × (letter_at t letter ≡ Some mail) × BodyPrepares mail.body f c
Echoes t _ = Unit {0}

pub record Travels (t : List Event) (mail : Mail) : Type 0 where
  pub from : IsNode mail.from
  pub to : IsNode mail.to
  pub echoes : Echoes t mail.body

echoes_on : (e : Event) (t : List Event) (body : Body) → Echoes t body → Echoes (e ∷ t) body
echoes_on e t (bodies.Answer a n reply) h = (h.0, h.1, letter_older e t h.0 h.1 h.2, h.3)
echoes_on e t (bodies.Vote f c agrees) h = (h.0, h.1, letter_older e t h.0 h.1 h.2, h.3)
echoes_on e t (bodies.Start b counts) h = tt
echoes_on e t (bodies.Call a n x op c counts) h = tt
echoes_on e t (bodies.Finish b v counts) h = tt
echoes_on e t (bodies.Quit b) h = tt
echoes_on e t (bodies.Prepare f c) h = tt
echoes_on e t (bodies.Query f) h = tt
echoes_on e t bodies.News h = tt

pub goes_on : (e : Event) (t : List Event) (mail : Mail) → Travels t mail → Travels (e ∷ t) mail
goes_on e t mail h = record { from = h.from; to = h.to; echoes = echoes_on e t mail.body h.echoes }

-- the letter that came was sent
pub came_call : (t : List Event) (got : Option LetterId) (a : Name) (n : ℕ) → Calls (mail_got t got) a n → (letter : LetterId) × (mail : Mail) × (letter_at t letter ≡ Some mail) × BodyCalls mail.body a n
came_call t None a n h = absurd h
came_call t (Some letter) a n h = by (letter_at t letter) refl h
  where
    by : (o : Option Mail) → letter_at t letter ≡ o → Calls o a n → (l : LetterId) × (mail : Mail) × (letter_at t l ≡ Some mail) × BodyCalls mail.body a n
    by None at g = absurd g
    by (Some mail) at g = (letter, mail, at, g)

pub came_prepare : (t : List Event) (got : Option LetterId) (f : Name) (c : ℕ) → Prepares (mail_got t got) f c → (letter : LetterId) × (mail : Mail) × (letter_at t letter ≡ Some mail) × BodyPrepares mail.body f c
came_prepare t None f c h = absurd h
came_prepare t (Some letter) f c h = by (letter_at t letter) refl h
  where
    by : (o : Option Mail) → letter_at t letter ≡ o → Prepares o f c → (l : LetterId) × (mail : Mail) × (letter_at t l ≡ Some mail) × BodyPrepares mail.body f c
    by None at g = absurd g
    by (Some mail) at g = (letter, mail, at, g)

-- what is said of a call and of a prepare stands
abbrev pub SaidCall : List ObjectDecl → List Deed → Name → ℕ → Type 0
SaidCall objects L a n = (x : ℕ) × (op : Op) × (c : ℕ) × In (Call a n x op c) L

pub said_call : (objects : List ObjectDecl) (L : List Deed) (from to : ℕ) (body : Body) (a : Name) (n : ℕ) → BodyOk objects L from to body → BodyCalls body a n → SaidCall objects L a n
said_call objects L from to (bodies.Call b m x op c counts) a n ok is = (x, op, c, subst (λ (d : Deed). In d L) (λ i. Call (is.0 i) (is.1 i) x op c) ok.0)
said_call objects L from to (bodies.Start b counts) a n ok is = absurd is
said_call objects L from to (bodies.Answer b m reply) a n ok is = absurd is
said_call objects L from to (bodies.Finish b v counts) a n ok is = absurd is
said_call objects L from to (bodies.Quit b) a n ok is = absurd is
said_call objects L from to (bodies.Prepare f c) a n ok is = absurd is
said_call objects L from to (bodies.Vote f c agrees) a n ok is = absurd is
said_call objects L from to (bodies.Query f) a n ok is = absurd is
said_call objects L from to bodies.News a n ok is = absurd is

pub record SaidPrepare (objects : List ObjectDecl) (L : List Deed) (f : Name) (c : ℕ) : Type 0 where
  pub top : is_top f ≡ true
  pub asked : asked_commit L f ≡ true
  pub node : ℕ
  pub pair : In (node, c) (deps objects L f)

pub said_prepare : (objects : List ObjectDecl) (L : List Deed) (from to : ℕ) (body : Body) (f : Name) (c : ℕ) → BodyOk objects L from to body → BodyPrepares body f c → SaidPrepare objects L f c
said_prepare objects L from to (bodies.Prepare g k) f c ok is =
    subst (λ (x : Name). SaidPrepare objects L x c) is.0 (subst (λ (x : ℕ). SaidPrepare objects L g x) is.1 (record { top = ok.0; asked = ok.1; node = to; pair = ok.2 }))
said_prepare objects L from to (bodies.Start b counts) f c ok is = absurd is
said_prepare objects L from to (bodies.Call b m x op k counts) f c ok is = absurd is
said_prepare objects L from to (bodies.Answer b m reply) f c ok is = absurd is
said_prepare objects L from to (bodies.Finish b v counts) f c ok is = absurd is
said_prepare objects L from to (bodies.Quit b) f c ok is = absurd is
said_prepare objects L from to (bodies.Vote g k agrees) f c ok is = absurd is
said_prepare objects L from to (bodies.Query g) f c ok is = absurd is
said_prepare objects L from to bodies.News f c ok is = absurd is

pub call_created : (objects : List ObjectDecl) (L : List Deed) (a : Name) (n : ℕ) → Legal objects L → SaidCall objects L a n → created L a ≡ true
call_created objects L a n legal said =
    let call : Addressed = record { object = said.0; op = said.1; count = said.2 } in
    called_created objects L a n call legal (in_call objects L a n said.0 said.1 said.2 legal said.3)
