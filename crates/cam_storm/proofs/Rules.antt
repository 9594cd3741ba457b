-- What a rule makes of a letter or request that may be put to a node is as it should be: what is
-- created, called and crashed, and of its letters where they go and what they depend on.
use Rattle.std.proofs.Common.{◌≡◌, ◌⊎◌, inl, inr, ℕ, ◌+◌, ◌≤◌, eqb, Bool, true, false, not, if◌then◌else◌, List, [], ◌∷◌, ◌++◌, length, map, filter, Option, Some, None, refl, sym, ap, ◌∙◌, subst, arith}
use Rattle.std.proofs.lemmas.List.{length-append}
use Rattle.cam_names.specs.declared.name.Name.{Name}
use Rattle.cam_names.specs.Names.{is_ancestor, is_top, home_node}
use Rattle.cam_names.specs.Part.{PartFields}
use Rattle.cam_names.specs.Dependencies.{pairs_of}
use Rattle.cam_type.specs.declared.ObjectDecl.{ObjectDecl}
use Rattle.cam_know.specs.declared.Reason.{Reason}
use Rattle.cam_event.specs.declared.Body.{Body}
use Rattle.cam_event.specs.declared.Body.TheVariants as bodies
use Rattle.cam_event.specs.declared.Want.{Want}
use Rattle.cam_event.specs.declared.Want.TheVariants as wants
use Rattle.cam_event.specs.declared.Note.{Note}
use Rattle.cam_event.specs.declared.Note.TheVariants as notes
use Rattle.cam_event.specs.declared.Sent.{Sent}
use Rattle.cam_event.specs.declared.Deed.{Deed}
use Rattle.cam_event.specs.declared.Deed.TheVariants.{Create, Ask, Call, AskCommit, AskAbort, Crash}
use Rattle.cam_event.specs.Live.{site_of}
use Rattle.cam_event.specs.Inputs.{Input, Requests, Mail, decider}
use Rattle.cam_event.specs.Sights.{Sight, is_present}
use Rattle.cam_event.specs.Rules.{Did, did, nothing_but, answers, send, one, stopped_by, commits, aborts, news, wanted, top_name, child_name}
use Rattle.cam_event.specs.Runs.{IsWant}
use Rattle.cam_event.proofs.Members.{In}
use Rattle.cam_node.specs.Lawful.{IsForNode, body_counts}
use Rattle.cam_cut.proofs.HomeFacts.{child_decider}
use Rattle.cam_cut.proofs.HomeLines.{last_more, child_more}
use Rattle.cam_cut.proofs.Lists.{in_image}
use Rattle.cam_storm.specs.Names.{IsFrom}
use Rattle.cam_storm.specs.Runs.{is_begin, is_restart}
use Rattle.cam_storm.proofs.Driving.{named_at}

-- the start of an action came, for the node's present count
abbrev pub StartOf : Sight → Option Mail → Name → Type 0
StartOf g None b = ⊥
StartOf g (Some mail) b = (counts : List ℕ) × (mail.body ≡ bodies.Start b counts) × (is_present g b ≡ true)

-- a deed of a rule
abbrev pub DeedFine : List ObjectDecl → Sight → Option Mail → Input → Deed → Type 0
DeedFine objects g mail input (Create b) =
    ((b ≡ top_name g) × (is_begin input ≡ true)) ⊎ StartOf g mail b
DeedFine objects g mail input (Call a n x op c) =
    (c ≡ g.known_count (site_of objects x)) × (1 ≤ site_of objects x)
DeedFine objects g mail input (Crash m) = is_restart input ≡ true
DeedFine objects g mail input _ = Unit {0}

-- a child that an input asks for
abbrev pub IsAskedFor : Sight → Input → Name → Type 0
IsAskedFor g (Requests r) b = (m : ℕ) × (r.want ≡ wants.Ask m) × (b ≡ child_name g r.action m)
IsAskedFor g _ b = ⊥

-- the actions of a letter: its child is asked for, and a call and a prepare are of an action that
-- is at home here
abbrev pub NamesFine : Sight → Input → Body → Type 0
NamesFine g input (bodies.Start b counts) = IsAskedFor g input b
NamesFine g input (bodies.Call a n x op c counts) = home_node a ≡ g.node
NamesFine g input (bodies.Prepare f c) = home_node f ≡ g.node
NamesFine g input _ = Unit {0}

-- a letter that it sends
pub record LetterFine (objects : List ObjectDecl) (g : Sight) (input : Input) (m : Sent) : Type 0
  where
    pub for_node : IsForNode objects m.to m.body
    pub counts : (body_counts m.body ≡ []) ⊎ ((a : Name) × (body_counts m.body ≡ g.deps a))
    pub from : IsFrom g.node m.body
    pub names : NamesFine g input m.body

pub record Fine (objects : List ObjectDecl) (g : Sight) (mail : Option Mail) (input : Input) (d : Did) : Type 0 where
  pub deeds : (x : Deed) → In x d.deeds → DeedFine objects g mail input x
  pub sent : (m : Sent) → In m d.sent → LetterFine objects g input m

-- one part more than a name has makes no top action
no_top : (a : Name) (p : PartFields) → is_ancestor a a ≡ true → is_top (a ++ p ∷ []) ≡ false
no_top [] p named = cc
no_top (q ∷ a) p named = let long : length (q ∷ a ++ p ∷ []) ≡ length (q ∷ a) + 1 = length-append (q ∷ a) (p ∷ []) in grind (arith, long)

module _ (objects : List ObjectDecl) (g : Sight) (mail : Option Mail) (input : Input) where
  pub if_fine : (b : Bool) (d e : Did) → (b ≡ true → Fine objects g mail input d) → (b ≡ false → Fine objects g mail input e) → Fine objects g mail input (if b then d else e)
  if_fine true d e h k = h refl
  if_fine false d e h k = k refl

  pub none_fine : (note : Note) → Fine objects g mail input (nothing_but note)
  none_fine note = record { deeds = λ x i. absurd i; sent = λ m i. absurd i }

  pub stopped_fine : (a : Name) (o : Option Reason) (d : Did) → Fine objects g mail input d → Fine objects g mail input (stopped_by a o d)
  stopped_fine a None d h = h
  stopped_fine a (Some reason) d h = none_fine (notes.Stopped a reason)

  pub one_sent : (k : Sent) → LetterFine objects g input k → (m : Sent) → In m (one k) → LetterFine objects g input m
  one_sent k h m (inl e) = subst (LetterFine objects g input) (sym e) h
  one_sent k h m (inr r) = absurd r

  pub one_deed : (d : Deed) → DeedFine objects g mail input d → (x : Deed) → In x (one d) → DeedFine objects g mail input x
  one_deed d h x (inl e) = subst (DeedFine objects g mail input) (sym e) h
  one_deed d h x (inr r) = absurd r

  pub answers_fine : (note : Note) (k : Sent) → LetterFine objects g input k → Fine objects g mail input (answers note (one k))
  answers_fine note k h = record { deeds = λ x i. absurd i; sent = one_sent k h }

  pub deed_fine : (d : Deed) → DeedFine objects g mail input d → Fine objects g mail input (did (one d) [])
  deed_fine d h = record { deeds = one_deed d h; sent = λ m i. absurd i }

  pub both_fine : (d : Deed) (k : Sent) → DeedFine objects g mail input d → LetterFine objects g input k → Fine objects g mail input (did (one d) (one k))
  both_fine d k h j = record { deeds = one_deed d h; sent = one_sent k j }

  pub aborts_deeds : (b : Name) (x : Deed) → In x (aborts g b) → DeedFine objects g mail input x
  aborts_deeds b x (inl e) = subst (DeedFine objects g mail input) (sym e) tt
  aborts_deeds b x (inr (inl e)) = subst (DeedFine objects g mail input) (sym e) tt
  aborts_deeds b x (inr (inr r)) = absurd r

  pub commits_deeds : (b : Name) (x : Deed) → In x (commits g b) → DeedFine objects g mail input x
  commits_deeds b x (inl e) = subst (DeedFine objects g mail input) (sym e) tt
  commits_deeds b x (inr (inl e)) = subst (DeedFine objects g mail input) (sym e) tt
  commits_deeds b x (inr (inr r)) = absurd r

  pub news_one : (to : ℕ) → LetterFine objects g input (send to bodies.News)
  news_one to = record { for_node = tt; counts = inl refl; from = tt; names = tt }

  pub all_news : (ps : List (ℕ × ℕ)) (m : Sent) → In m (map (λ p. send p.0 bodies.News) ps) → LetterFine objects g input m
  all_news ps m i = let found = in_image (λ (p : ℕ × ℕ). send p.0 bodies.News) ps m i in subst (LetterFine objects g input) (sym found.2) (news_one found.0.0)

  pub news_fine : (f : Name) (m : Sent) → In m (news g f) → LetterFine objects g input m
  news_fine f m i = all_news (filter (λ p. not (eqb p.0 g.node)) (pairs_of (g.deps f))) m i

  pub prepares_sent : (a : Name) (ps : List (ℕ × ℕ)) (m : Sent) → is_top a ≡ true → home_node a ≡ g.node → In m (map (λ p. send p.0 (bodies.Prepare a p.1)) ps) → LetterFine objects g input m
  prepares_sent a ps m top home i =
      let found = in_image (λ (p : ℕ × ℕ). send p.0 (bodies.Prepare a p.1)) ps m i in
      subst (LetterFine objects g input) (sym found.2) (record { for_node = top; counts = inl refl; from = tt; names = home })

  -- a request
  pub wanted_fine : (a : Name) (want : Want) → 1 ≤ g.node → home_node a ≡ g.node → IsWant objects want → ((m : ℕ) → want ≡ wants.Ask m → IsAskedFor g input (child_name g a m)) → Fine objects g mail input (wanted objects g a want)
  wanted_fine a (wants.Ask m) low home is asked =
      let named : is_ancestor a a ≡ true = named_at a (omega (arith, low, home)) in
      both_fine (Ask a (child_name g a m)) (send m (bodies.Start (child_name g a m) (g.deps a))) tt
      (record {
        for_node = (ap (λ (x : PartFields). x.node) (last_more a _), no_top a _ named);
        counts = inr (a, refl);
        from = child_decider a (child_name g a m) named (child_more a _) ∙ home;
        names = asked m refl;
      })
  wanted_fine a (wants.Call x op) low home is asked = both_fine _ _ (refl, is.1.0) (record { for_node = (refl, is.0); counts = inr (a, refl); from = tt; names = home })
  wanted_fine a (wants.Commit v) low home is asked = both_fine (AskCommit a v) (send (decider a) (bodies.Finish a v (g.deps a))) tt (record { for_node = refl; counts = inr (a, refl); from = tt; names = tt })
  wanted_fine a wants.Abort low home is asked = both_fine (AskAbort a) (send (decider a) (bodies.Quit a)) tt (record { for_node = refl; counts = inl refl; from = tt; names = tt })
  wanted_fine a (wants.GiveUp b) low home is asked = record { deeds = aborts_deeds b; sent = λ m i. absurd i }
