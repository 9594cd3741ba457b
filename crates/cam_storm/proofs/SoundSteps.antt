-- What is known of one more event of a storm's node: its deeds, and that no other than a restart has
-- a crash.
use Rattle.std.proofs.Common.{◌≡◌, ◌⊎◌, inl, inr, ℕ, ◌≤◌, true, false, List, ◌++◌, map, length, Option, Some, None, refl, sym, ap, ◌∙◌, subst}
use Rattle.std.specs.Prelude.{nat_lt}
use Rattle.std.specs.List.{list_any}
use Rattle.std.proofs.lemmas.Bool.{true≢false, false_from_ne_true}
use Rattle.cam_names.specs.declared.name.Name.{Name}
use Rattle.cam_type.specs.declared.ObjectDecl.{ObjectDecl}
use Rattle.cam_know.specs.Known.{nothing, new_aborts, new_commits}
use Rattle.cam_event.specs.declared.Event.{Event}
use Rattle.cam_event.specs.declared.Deed.{Deed}
use Rattle.cam_event.specs.declared.Deed.TheVariants.{Create, Ask, Call, Perform, Bounce, Got, AskCommit, AskAbort, Commit, Abort, Secure, Inform, Crash}
use Rattle.cam_event.specs.History.{count, is_crash}
use Rattle.cam_event.specs.Gained.{home}
use Rattle.cam_event.specs.Inputs.{Input, Mail}
use Rattle.cam_event.specs.Sights.{Sight, present}
use Rattle.cam_event.specs.Rules.{Did, rule, top_name}
use Rattle.cam_event.specs.ByKnowledge.{held, held_informs, held_sight}
use Rattle.cam_event.specs.Carried.{Carried, deeds_of}
use Rattle.cam_event.proofs.Members.{In, in_append, any_in}
use Rattle.cam_cut.proofs.Informs.{IsInformAt, in_informs, keep_informs}
use Rattle.cam_node.specs.Lawful.{MayBePut}
use Rattle.cam_journal.specs.declared.entry.SentLetter.{SentLetter as Taken}
use Rattle.cam_gen.specs.Storms.{Words, objects_of, tops_of}
use Rattle.cam_know.specs.Order.{told_in_order}
use Rattle.cam_event.specs.Loads.{Load}
use Rattle.cam_event.specs.ByDeltas.{Received, as_carried}
use Rattle.cam_storm.specs.Events.{Copied}
use Rattle.cam_storm.specs.Events.{Stepped}
use Rattle.cam_storm.specs.Names.{Near}
use Rattle.cam_storm.specs.Own.{sight_at}
use Rattle.cam_storm.specs.Runs.{is_begin, is_restart}
use Rattle.cam_storm.specs.Lawful.{mail_in, load_in, step_at, ComesFrom, IsPut, IsStormStep}
use Rattle.cam_storm.proofs.Rules.{DeedFine, Fine}
use Rattle.cam_storm.proofs.Making.{StartComes, rule_fine}
use Rattle.cam_storm.proofs.Covered.{Brings, brings, comes_from, no_tell, no_query}

-- what is known of one more event
pub record Next (words : Words) (s : ℕ) (own : List Carried) (mail : Option Mail) (load : Load) (input : Input) (ds : List Deed) (did : Did) : Type 0 where
  pub deeds : ds ≡ held_informs (objects_of words) s own (told_in_order load.know) ++ did.deeds
  pub fine : Fine (objects_of words) (held_sight (objects_of words) s own (told_in_order load.know)) mail input did
  pub comes : Brings (objects_of words) s mail load
  pub is_rule : did ≡ rule (objects_of words) (held_sight (objects_of words) s own (told_in_order load.know)) mail input

starts_come : (words : Words) (mail : Option Mail) → ComesFrom words mail → StartComes mail
starts_come words None comes = tt
starts_come words (Some mail) comes = comes.starts

-- an event that a storm's node may make, whatever copies its letters draw
pub record IsPutStep (words : Words) (s : ℕ) (own : List Received) (taken : Option (Taken Copied)) (event : Event) : Type 0 where
  pub input : Input
  pub here : Near s
  pub may : MayBePut (objects_of words) s (sight_at words s own) input (mail_in taken) (load_in taken)
  pub so : IsPut words s own taken input
  pub tops_first : is_begin input ≡ nat_lt (length own) (tops_of words s)
  pub is_next : event ≡ step_at words s own input taken

abbrev pub put_of : (words : Words) (s : ℕ) (own : List Received) (taken : Option (Taken Copied)) (e : Stepped) → IsStormStep words s own taken e → IsPutStep words s own taken e.event
put_of words s own taken e step = record { input = step.input; here = step.here; may = step.may; so = step.so; tops_first = step.tops_first; is_next = step.is_next }

pub next_of : (words : Words) (s : ℕ) (own : List Received) (taken : Option (Taken Copied)) (event : Event) → 1 ≤ s → (step : IsPutStep words s own taken event)
    → Next words s (map as_carried own) (mail_in taken) (load_in taken) step.input event.deeds (rule (objects_of words) (held_sight (objects_of words) s (map as_carried own) (told_in_order (load_in taken).know)) (mail_in taken) step.input)
next_of words s own taken event low step =
    let objects : List ObjectDecl = objects_of words in
    let h : Sight = held_sight objects s (map as_carried own) nothing in
    record {
      deeds = ap (λ (x : Event). x.deeds) step.is_next;
      fine = rule_fine objects s (held_sight objects s (map as_carried own) (told_in_order (load_in taken).know)) h (mail_in taken) (load_in taken) step.input low refl step.may (starts_come words (mail_in taken) (comes_from words s own taken step.input h step.so step.may))
          (no_tell words s own taken step.input step.so) (no_query words s own taken step.input step.so);
      comes = brings objects s h step.input (mail_in taken) (load_in taken) step.may;
      is_rule = refl;
    }

pub first_inform : (objects : List ObjectDecl) (s : ℕ) (own : List Carried) (load : Load) (d : Deed) → In d (held_informs objects s own (told_in_order load.know)) → IsInformAt s d
first_inform objects s own load d i = in_informs s (new_aborts (told_in_order load.know) (held objects own)) (new_commits (told_in_order load.know) (held objects own)) d i

-- a deed of the event, but for its first Informs
pub deed_of : (words : Words) (s : ℕ) (own : List Carried) (mail : Option Mail) (load : Load) (input : Input) (ds : List Deed) (did : Did) → Next words s own mail load input ds did → (d : Deed) → In d ds
    → IsInformAt s d ⊎ DeedFine (objects_of words) (held_sight (objects_of words) s own (told_in_order load.know)) mail input d
deed_of words s own mail load input ds did n d i =
    elim (in_append (held_informs (objects_of words) s own (told_in_order load.know)) did.deeds d (subst (λ (l : List Deed). In d l) n.deeds i)) [
      | inl first ↦ inl (first_inform (objects_of words) s own load d first)
      | inr done ↦ inr (n.fine.deeds d done)
    ]

-- the present count that the event goes by
pub present_is : (objects : List ObjectDecl) (s : ℕ) (own : List Carried) (load : Load) → present (held_sight objects s own (told_in_order load.know)) ≡ count (deeds_of own) s
present_is objects s own load = keep_informs (λ L. count L s) (λ r a o L. refl) s (new_aborts (told_in_order load.know) (held objects own)) (new_commits (told_in_order load.know) (held objects own)) (deeds_of own)

top_home : (g : Sight) (b : Name) → b ≡ top_name g → home b ≡ (g.node, present g)
top_home g b e = ap home e

-- an event that is no restart has no crash of its node
pub no_crash : (words : Words) (s : ℕ) (own : List Carried) (mail : Option Mail) (load : Load) (input : Input) (ds : List Deed) (did : Did) → Next words s own mail load input ds did
    → is_restart input ≡ false → list_any (is_crash s) ds ≡ false
no_crash words s own mail load input ds did n no_restart = false_from_ne_true (list_any (is_crash s) ds) (λ h.
    let found = any_in (is_crash s) ds h in
    by found.0 (deed_of words s own mail load input ds did n found.0 found.1) found.2)
  where
    g : Sight
    g = held_sight (objects_of words) s own (told_in_order load.know)

    by : (d : Deed) → IsInformAt s d ⊎ DeedFine (objects_of words) g mail input d → is_crash s d ≡ true → ⊥
    by (Crash m) (inr h) c = true≢false (sym h ∙ no_restart)
    by (Crash m) (inl h) c = let y = h.is in cc
    by (Create b) h c = cc
    by (Ask q b) h c = cc
    by (Call b k x op z) h c = cc
    by (Perform b k answer) h c = cc
    by (Bounce b k u) h c = cc
    by (Got b k seen) h c = cc
    by (AskCommit b v) h c = cc
    by (AskAbort b) h c = cc
    by (Commit b) h c = cc
    by (Abort b) h c = cc
    by (Secure f m z) h c = cc
    by (Inform m b o) h c = cc
