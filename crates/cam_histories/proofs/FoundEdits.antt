-- Edits that touch neither events nor halts keep two runs beside each other.
use Rattle.std.proofs.Common.{◌≡◌, inl, inr, ℕ, ◌<◌, false}
use Rattle.std.proofs.Common.{List, ◌∷◌, length, Option, Some}
use Rattle.std.proofs.Common.{None, refl, sym, ap, ◌∙◌, subst, arith}
use Rattle.std.proofs.lemmas.Bool.{true≢false}
use Rattle.cam_names.specs.declared.name.Name.{Name}
use Rattle.cam_type.specs.declared.ObjectDecl.{ObjectDecl}
use Rattle.cam_event.specs.declared.Event.{Event}
use Rattle.cam_runs.specs.Running.{has_number}
use Rattle.cam_runs.specs.Halts.{accepted}
use Rattle.cam_runs.specs.Standing.{Standing, undecided_of}
use Rattle.cam_runs.specs.HaltedPlaying.{given_body}
use Rattle.cam_histories.specs.Found.{last_input}
use Rattle.cam_histories.specs.Found.{with_taken_in, IsFound}
use Rattle.cam_histories.proofs.Beside.{Beyond, Goes}

-- What both have: the turns of the disks, the halted nodes, the variables and the bodies.
pub record Shared (lost found : Standing) : Type 0 where
  pub turns : found.turns ≡ lost.turns
  pub halted : found.halted ≡ lost.halted
  pub bound : found.running.bound ≡ lost.running.bound
  pub bodies : found.running.bodies ≡ lost.running.bodies

pub shared : (objects : List ObjectDecl) (k : ℕ) (P : ℕ → List Event → Event → Type 0)
    (lost found : Standing)
    → Goes objects k P lost found → Shared lost found
shared objects k P lost found (inl before) = record {
  turns = ap (λ (x : Standing). x.turns) before.is_before.same;
  halted = ap (λ (x : Standing). x.halted) before.is_before.same;
  bound = ap (λ (x : Standing). x.running.bound) before.is_before.same;
  bodies = ap (λ (x : Standing). x.running.bodies) before.is_before.same;
}
shared objects k P lost found (inr b) =
    let is = b.beyond.is_beyond.stands.is in
    record {
      turns = ap (λ (x : Standing). x.turns) is;
      halted = ap (λ (x : Standing). x.halted) is;
      bound = ap (λ (x : Standing). x.running.bound) is;
      bodies = ap (λ (x : Standing). x.running.bodies) is;
    }

-- An edit that touches neither events nor halts keeps both beside each other.
pub record Edits (edit : Standing → Standing) : Type 0 where
  pub trace : (x : Standing) → (edit x).running.trace ≡ x.running.trace
  pub taken : (x : Standing) → (edit x).taken ≡ x.taken
  pub halted : (x : Standing) → (edit x).halted ≡ x.halted
  pub undecided : (x : Standing) → (edit x).undecided ≡ x.undecided
  pub turns : (x : Standing) → accepted (edit x).turns ≡ accepted x.turns
  pub last : (x : Standing) (s : ℕ) → last_input (edit x).turns s ≡ last_input x.turns s
  pub later :
      (s : ℕ) (behind before : List Event) (e : Event) (x : Standing)
      → edit (with_taken_in s behind e before x) ≡ with_taken_in s behind e before (edit x)

pub beyond_edit : (objects : List ObjectDecl) (k s : ℕ) (before : List Event) (e : Event)
    (edit : Standing → Standing) → Edits edit → (lost found : Standing)
    → Beyond objects k s before e lost found → Beyond objects k s before e (edit lost) (edit found)
beyond_edit objects k s before e edit edits lost found b = record {
  is_beyond = record {
    passed =
        let same = edits.turns lost in let passed =
        b.is_beyond.passed in omega (arith, same, passed);
    last = edits.last lost s ∙ b.is_beyond.last;
    input = b.is_beyond.input;
    of_node = b.is_beyond.of_node;
    event = b.is_beyond.event;
    undecided = ap (undecided_of s) (edits.undecided lost) ∙ b.is_beyond.undecided;
    stands = record {
      behind = stands.behind;
      unseen = stands.unseen;
      was = edits.trace lost ∙ stands.was;
      is = ap edit stands.is ∙ edits.later s stands.behind before e lost;
      halted = ap (λ hs. has_number hs s) (edits.halted lost) ∙ stands.halted;
    };
  };
  silent = b.silent;
}
  where
    stands : IsFound s before e lost found
    stands = b.is_beyond.stands

pub goes_edit : (objects : List ObjectDecl) (k : ℕ) (P : ℕ → List Event → Event → Type 0)
    (edit : Standing → Standing) → Edits edit
    → (lost found : Standing) → Goes objects k P lost found
    → Goes objects k P (edit lost) (edit found)
goes_edit objects k P edit edits lost found (inl before) = inl (record {
  all = before.all;
  is_before = record {
    coming =
        let same = edits.turns lost in
        let coming = before.is_before.coming in
        omega (arith, same, coming);
    same = ap edit before.is_before.same;
  };
  below = λ i has.
      subst (λ t. i < length t) (sym (edits.trace lost))
      (before.below i (ap (λ ks. has_number ks i) (sym (edits.taken lost)) ∙ has));
})
goes_edit objects k P edit edits lost found (inr b) = inr (record {
  node = b.node;
  before = b.before;
  event = b.event;
  kept = b.kept;
  beyond = beyond_edit objects k b.node b.before b.event edit edits lost found b.beyond;
})

-- a letter counts as delivered
abbrev pub counted : ℕ → Standing → Standing
counted k st = record st { running = record st.running { delivered = k ∷ st.running.delivered } }

pub counted_edits : (k : ℕ) → Edits (counted k)
counted_edits k = record {
  trace = λ x. refl;
  taken = λ x. refl;
  halted = λ x. refl;
  undecided = λ x. refl;
  turns = λ x. refl;
  last = λ x s. refl;
  later = λ s behind before e x. refl;
}

-- an action gets a body
pub given_edits : (body : Option ℕ) (a : Option Name) → Edits (given_body body a)
given_edits (Some body) (Some a) = record {
  trace = λ x. refl;
  taken = λ x. refl;
  halted = λ x. refl;
  undecided = λ x. refl;
  turns = λ x. refl;
  last = λ x s. refl;
  later = λ s behind before e x. refl;
}
given_edits (Some body) None = record {
  trace = λ x. refl;
  taken = λ x. refl;
  halted = λ x. refl;
  undecided = λ x. refl;
  turns = λ x. refl;
  last = λ x s. refl;
  later = λ s behind before e x. refl;
}
given_edits None a = record {
  trace = λ x. refl;
  taken = λ x. refl;
  halted = λ x. refl;
  undecided = λ x. refl;
  turns = λ x. refl;
  last = λ x s. refl;
  later = λ s behind before e x. refl;
}

-- A node that is awake is another than the halted one.
pub other_awake : (objects : List ObjectDecl) (k s : ℕ) (before : List Event) (e : Event)
    (lost found : Standing) (n : ℕ) → Beyond objects k s before e lost found
    → has_number lost.halted n ≡ false → s ≡ n → ⊥
other_awake objects k s before e lost found n b awake same =
    true≢false (sym b.is_beyond.stands.halted ∙ ap (has_number lost.halted) same ∙ awake)
