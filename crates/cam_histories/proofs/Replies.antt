-- What rules send where a letter came: to whom, and in reply to what.
use Rattle.std.proofs.Common.{◌≡◌, ◌⊎◌, ℕ, false, List, Option, Some, None}
use Rattle.std.specs.List.{list_any}
use Rattle.cam_names.specs.declared.name.Name.{Name}
use Rattle.cam_names.specs.Names.{home_node}
use Rattle.cam_names.specs.Dependencies.{pairs_of}
use Rattle.cam_event.specs.declared.Body.{Body}
use Rattle.cam_event.specs.declared.Body.TheVariants as bodies
use Rattle.cam_event.specs.declared.Sent.{Sent}
use Rattle.cam_event.specs.declared.Deed.{Deed}
use Rattle.cam_event.specs.declared.Deed.TheVariants.{AskAbort}
use Rattle.cam_event.specs.History.{is_crash}
use Rattle.cam_event.specs.Inputs.{Input, Tells, Mail}
use Rattle.cam_event.specs.Sights.{Sight}
use Rattle.cam_event.specs.Rules.{Did}
use Rattle.cam_event.proofs.Members.{In}

-- the letter calls for the action under this number, or asks to secure the family at this count
abbrev pub BodyCalls : Body → Name → ℕ → Type 0
BodyCalls (bodies.Call b m x op c counts) a n = (b ≡ a) × (m ≡ n)
BodyCalls _ a n = ⊥

abbrev pub BodyPrepares : Body → Name → ℕ → Type 0
BodyPrepares (bodies.Prepare g k) f c = (g ≡ f) × (k ≡ c)
BodyPrepares _ f c = ⊥

abbrev pub Calls : Option Mail → Name → ℕ → Type 0
Calls None a n = ⊥
Calls (Some mail) a n = BodyCalls mail.body a n

abbrev pub Prepares : Option Mail → Name → ℕ → Type 0
Prepares None f c = ⊥
Prepares (Some mail) f c = BodyPrepares mail.body f c

abbrev pub IsSender : Option Mail → ℕ → Type 0
IsSender None to = ⊥
IsSender (Some mail) to = mail.from ≡ to

abbrev pub TellsTo : Input → ℕ → Type 0
TellsTo (Tells s r) to = r ≡ to
TellsTo _ to = ⊥

-- News goes to the sender of the letter that came, to a node on which an action depends, or where it is to be told.
abbrev pub IsTold : Sight → Option Mail → Input → ℕ → Type 0
IsTold g mail input to = IsSender mail to ⊎ (((p : ℕ × ℕ) × (a : Name) × In p (pairs_of (g.deps a)) × (p.0 ≡ to)) ⊎ TellsTo input to)

-- what is sent to a node beside these deeds, where a letter came or not
abbrev pub Replies : Sight → Option Mail → Input → List Deed → ℕ → Body → Type 0
Replies g mail input ds to (bodies.Answer a n reply) = (home_node a ≡ to) × Calls mail a n
Replies g mail input ds to (bodies.Vote f c agrees) = (home_node f ≡ to) × Prepares mail f c
Replies g mail input ds to (bodies.Quit b) = IsSender mail to ⊎ In (AskAbort b) ds
Replies g mail input ds to bodies.News = IsTold g mail input to
Replies g mail input ds to _ = Unit {0}

abbrev pub AllReply : Sight → Option Mail → Input → Did → Type 0
AllReply g mail input d = (m : Sent) → In m d.sent → Replies g mail input d.deeds m.to m.body

-- no deed is a crash
abbrev pub NoCrash : Did → Type 0
NoCrash d = (s : ℕ) → list_any (is_crash s) d.deeds ≡ false

abbrev pub Does : Sight → Option Mail → Input → Did → Type 0
Does g mail input d = AllReply g mail input d × NoCrash d
