-- What stands in two runs whose halts differ at one input.
use Rattle.std.proofs.Common.{◌≡◌, ◌⊎◌, ℕ, ◌<◌, true}
use Rattle.std.proofs.Common.{List, ◌++◌, length}
use Rattle.std.proofs.Common.{sym, ap, ◌∙◌, append_assoc}
use Rattle.cam_type.specs.declared.ObjectDecl.{ObjectDecl}
use Rattle.cam_event.specs.declared.Event.{Event}
use Rattle.cam_runs.specs.Running.{has_number}
use Rattle.cam_runs.specs.Standing.{Standing}
use Rattle.cam_histories.specs.Found.{IsBeyond, IsBefore}
use Rattle.cam_histories.proofs.Silent.{AreSilent}
use Rattle.cam_histories.proofs.Trails.{Trail}

-- what stands in both runs after the input at which they differ, and before it
pub record Beyond (objects : List ObjectDecl) (k s : ℕ) (before : List Event) (e : Event)
    (lost found : Standing) : Type 0 where
  pub is_beyond : IsBeyond objects k s before e lost found
  pub silent : AreSilent s e.deeds

pub record SomeBeyond (objects : List ObjectDecl) (k : ℕ) (P : ℕ → List Event → Event → Type 0)
    (lost found : Standing) : Type 0 where
  pub node : ℕ
  pub before : List Event
  pub event : Event
  pub kept : P node before event
  pub beyond : Beyond objects k node before event lost found

pub record Before (k : ℕ) (P : ℕ → List Event → Event → Type 0) (lost found : Standing) : Type 0
  where
    pub all : (s : ℕ) (before : List Event) (e : Event) → P s before e
    pub is_before : IsBefore k lost found
    pub below : (i : ℕ) → has_number lost.taken i ≡ true → i < length lost.running.trace

abbrev pub Goes : List ObjectDecl → ℕ → (ℕ → List Event → Event → Type 0) → Standing → Standing
    → Type 0
Goes objects k P lost found = Before k P lost found ⊎ SomeBeyond objects k P lost found

-- the events of a standing are a beginning of these
pub record Leads (all : List Event) (st : Standing) : Type 0 where
  pub more : List Event
  pub is : all ≡ more ++ st.running.trace

pub leads_back : (all : List Event) (old new : Standing) → Trail old new → Leads all new
    → Leads all old
leads_back all old new trail leads = record {
  more = leads.more ++ trail.more;
  is = leads.is ∙ ap (λ t. leads.more ++ t) trail.is
      ∙ sym (append_assoc leads.more trail.more old.running.trace);
}
