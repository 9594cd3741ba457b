-- What a legal history of deeds among these nodes says is among them: homes, deciding nodes, and the nodes on which an action depends.
use Rattle.std.proofs.Common.{◌≡◌, inl, inr, if◌then◌else◌, ℕ, Bool, true, false, ◌&&◌, List, [], ◌∷◌, ◌++◌, Option, Some, None, refl, sym, ap, ◌∙◌, subst}
use Rattle.std.proofs.lemmas.Bool.{and_parts, true≢false}
use Rattle.cam_names.specs.Part.{PartFields}
use Rattle.cam_names.specs.declared.name.Name.{Name}
use Rattle.cam_names.specs.Names.{name_eq, is_child, is_top, parent, home_node}
use Rattle.cam_names.specs.Dependencies.{pairs_of}
use Rattle.cam_names.proofs.Names.{name_eq_same}
use Rattle.cam_type.specs.declared.ObjectDecl.{ObjectDecl}
use Rattle.cam_know.specs.declared.Reason.{Reason}
use Rattle.cam_event.specs.declared.Deed.{Deed}
use Rattle.cam_event.specs.declared.Deed.TheVariants.{Create, Ask, Call, Got, Commit}
use Rattle.cam_event.specs.declared.Seen.TheVariants.{Done, Busy, Gone}
use Rattle.cam_event.specs.declared.Want.{Want}
use Rattle.cam_event.specs.declared.Want.TheVariants as wants
use Rattle.cam_event.specs.Gained.{deps, visited, home}
use Rattle.cam_event.specs.History.{created, is_create, call_of}
use Rattle.cam_event.specs.Inputs.{Input, Begins, Requests, Receives, Tells, Queries, Restarts, Mail}
use Rattle.cam_event.specs.Inputs.{decider, decider_of}
use Rattle.cam_event.specs.Live.{site_of}
use Rattle.cam_event.specs.Rules.{rule, stopped_by, wanted}
use Rattle.cam_event.specs.Sights.{Sight}
use Rattle.cam_event.proofs.Members.{In, any_in, in_append}
use Rattle.cam_plain.specs.Legal.{Legal}
use Rattle.cam_plain.specs.Lines.{is_ask_for}
use Rattle.cam_plain.proofs.Decided.{created_child}
use Rattle.cam_cut.proofs.DepsFacts.{in_visited}
use Rattle.cam_cut.proofs.DepsAgree.{created_known}
use Rattle.cam_cut.proofs.HomeLines.{last_more}
use Rattle.cam_cut.proofs.LegalFacts.{call_in}
use Rattle.cam_agree.proofs.RunAsks.{rule_asks}
use Rattle.cam_histories.specs.Addressees.{IsAmong, NamesAmong, WantsAmong}

-- the nodes that a deed names
abbrev pub DeedAmong : List ObjectDecl → ℕ → Deed → Type 0
DeedAmong objects nodes (Create a) = is_top a ≡ true → IsAmong nodes (home_node a)
DeedAmong objects nodes (Ask a b) = IsAmong nodes (home_node b)
DeedAmong objects nodes (Call a n x op c) = IsAmong nodes (site_of objects x)
DeedAmong objects nodes _ = Unit {0}

abbrev pub AllAmong : List ObjectDecl → ℕ → List Deed → Type 0
AllAmong objects nodes L = (d : Deed) → In d L → DeedAmong objects nodes d

module _ (objects : List ObjectDecl) (nodes : ℕ) where
  -- the home of an action that was created
  pub created_among : (L : List Deed) (a : Name) → Legal objects L → AllAmong objects nodes L
      → created L a ≡ true → IsAmong nodes (home_node a)
  created_among L a legal among h = elim (created_known objects L a legal h) [
    | inl asked ↦
        let found = any_in (is_ask_for a) L asked in
        by_ask found.0 (among found.0 found.1) found.2
    | inr top ↦
        let found = any_in (is_create a) L h in
        by_create found.0 (among found.0 found.1) found.2 top
  ]
    where
      by_ask : (d : Deed) → DeedAmong objects nodes d → is_ask_for a d ≡ true
          → IsAmong nodes (home_node a)
      by_ask (Ask p b) r e =
          subst (λ (x : Name). IsAmong nodes (home_node x)) (sym (name_eq_same a b e)) r
      by_ask _ r e = cc

      by_create : (d : Deed) → DeedAmong objects nodes d → is_create a d ≡ true → is_top a ≡ true
          → IsAmong nodes (home_node a)
      by_create (Create b) r e top =
          let same : a ≡ b = name_eq_same a b e in
          subst (λ (x : Name). IsAmong nodes (home_node x)) (sym same)
          (r (subst (λ (x : Name). is_top x ≡ true) same top))
      by_create _ r e top = cc

  -- the node that decides it
  pub decider_among : (L : List Deed) (a : Name) → Legal objects L → AllAmong objects nodes L
      → created L a ≡ true → IsAmong nodes (decider a)
  decider_among L a legal among h = by (parent a) refl
    where
      by : (o : Option Name) → parent a ≡ o → IsAmong nodes (decider_of a o)
      by None e = created_among L a legal among h
      by (Some p) e = created_among L p legal among (created_child objects L a p legal e h).1

  -- a node on which it depends
  pub pair_among : (L : List Deed) (a : Name) (p : ℕ × ℕ) → AllAmong objects nodes L
      → In p (deps objects L a) → IsAmong nodes p.0
  pair_among [] a p among h = absurd h
  pair_among (Create b ∷ L) a p among h =
      by (name_eq a b && is_top b) refl h (pair_among L a p (λ d i. among d (inr i)))
    where
      by : (t : Bool) → (name_eq a b && is_top b) ≡ t
          → In p (if t then home b ∷ deps objects L a else deps objects L a)
          → (In p (deps objects L a) → IsAmong nodes p.0) → IsAmong nodes p.0
      by true x (inl e) rest =
          subst (λ (q : ℕ × ℕ). IsAmong nodes q.0) (sym e)
          (among (Create b) (inl refl) (and_parts (name_eq a b) (is_top b) x).1)
      by true x (inr r) rest = rest r
      by false x r rest = rest r
  pair_among (Ask q b ∷ L) a p among h =
      by (name_eq a b) h (pair_among L q p (λ d i. among d (inr i)))
      (pair_among L a p (λ d i. among d (inr i)))
    where
      by : (t : Bool)
          → In p (if t then home b ∷ deps objects L q ++ deps objects L a else deps objects L a)
          → (In p (deps objects L q) → IsAmong nodes p.0)
          → (In p (deps objects L a) → IsAmong nodes p.0) → IsAmong nodes p.0
      by true (inl e) one rest =
          subst (λ (k : ℕ × ℕ). IsAmong nodes k.0) (sym e) (among (Ask q b) (inl refl))
      by true (inr r) one rest =
          elim (in_append (deps objects L q) (deps objects L a) p r) [ inl x ↦ one x | inr y ↦ rest y ]
      by false r one rest = rest r
  pair_among (Got b n (Done answer) ∷ L) a p among h =
      by (name_eq a b) h (pair_among L a p (λ d i. among d (inr i)))
    where
      by : (t : Bool)
          → In p (if t then visited objects (call_of L b n) ++ deps objects L a else deps objects L a)
          → (In p (deps objects L a) → IsAmong nodes p.0) → IsAmong nodes p.0
      by true r rest = elim (in_append (visited objects (call_of L b n)) (deps objects L a) p r) [
        | inl x ↦
            let v = in_visited objects (call_of L b n) p x in
            subst (λ (k : ℕ × ℕ). IsAmong nodes k.0) (sym v.2)
            (among (Call b n v.0.object v.0.op v.0.count) (inr (call_in L b n v.0 v.1)))
        | inr y ↦ rest y
      ]
      by false r rest = rest r
  pair_among (Got b n (Busy w) ∷ L) a p among h = pair_among L a p (λ d i. among d (inr i)) h
  pair_among (Got b n Gone ∷ L) a p among h = pair_among L a p (λ d i. among d (inr i)) h
  pair_among (Commit b ∷ L) a p among h =
      by (is_child a b) h (pair_among L b p (λ d i. among d (inr i)))
      (pair_among L a p (λ d i. among d (inr i)))
    where
      by : (t : Bool) → In p (if t then deps objects L b ++ deps objects L a else deps objects L a)
          → (In p (deps objects L b) → IsAmong nodes p.0)
          → (In p (deps objects L a) → IsAmong nodes p.0) → IsAmong nodes p.0
      by true r one rest =
          elim (in_append (deps objects L b) (deps objects L a) p r) [ inl x ↦ one x | inr y ↦ rest y ]
      by false r one rest = rest r
  pair_among (_ ∷ L) a p among h = pair_among L a p (λ d i. among d (inr i)) h

  -- An Ask is of a child at the node that a request names.
  abbrev asked_child : Deed → Name
  asked_child (Ask a b) = b
  asked_child _ = []

  abbrev is_ask_deed : Deed → Bool
  is_ask_deed (Ask a b) = true
  is_ask_deed _ = false

  another : (d : Deed) (a b : Name) {X : Type 0} → is_ask_deed d ≡ false → Ask a b ≡ d → X
  another d a b h e = absurd (true≢false (ap is_ask_deed e ∙ h))

  wanted_among : (g : Sight) (c : Name) (want : Want) (reason : Option Reason) (a b : Name)
      → WantsAmong nodes want → In (Ask a b) (stopped_by c reason (wanted objects g c want)).deeds
      → IsAmong nodes (home_node b)
  wanted_among g c want (Some reason) a b names h = absurd h
  wanted_among g c (wants.Ask m) None a b names (inl e) =
      subst (IsAmong nodes)
      (sym (ap (λ d. home_node (asked_child d)) e
      ∙ ap (λ (p : PartFields). p.node) (last_more c _))) names
  wanted_among g c (wants.Ask m) None a b names (inr r) = absurd r
  wanted_among g c (wants.Call x op) None a b names h =
      elim h [ inl e ↦ another _ a b refl e | inr r ↦ absurd r ]
  wanted_among g c (wants.Commit v) None a b names h =
      elim h [ inl e ↦ another _ a b refl e | inr r ↦ absurd r ]
  wanted_among g c wants.Abort None a b names h =
      elim h [ inl e ↦ another _ a b refl e | inr r ↦ absurd r ]
  wanted_among g c (wants.GiveUp k) None a b names h = elim h [
    | inl e ↦ another _ a b refl e
    | inr (inl e) ↦ another _ a b refl e
    | inr (inr r) ↦ absurd r
  ]

  pub ask_among : (g : Sight) (mail : Option Mail) (input : Input) (a b : Name)
      → NamesAmong nodes input → In (Ask a b) (rule objects g mail input).deeds
      → IsAmong nodes (home_node b)
  ask_among g mail (Requests r) a b names h =
      wanted_among g r.action r.want (g.orphan r.action (pairs_of (g.deps r.action))) a b names h
  ask_among g mail (Begins s) a b names h = absurd (rule_asks objects g mail (Begins s) a b h)
  ask_among g mail (Receives l) a b names h = absurd (rule_asks objects g mail (Receives l) a b h)
  ask_among g mail (Tells s to) a b names h = absurd (rule_asks objects g mail (Tells s to) a b h)
  ask_among g mail (Queries s f) a b names h =
      absurd (rule_asks objects g mail (Queries s f) a b h)
  ask_among g mail (Restarts s) a b names h = absurd (rule_asks objects g mail (Restarts s) a b h)
