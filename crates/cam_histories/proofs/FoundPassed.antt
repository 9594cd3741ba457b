-- What a line comes to in two runs whose halts differ at one input, and leaves.
use Rattle.std.proofs.Common.{◌≡◌, ℕ, false}
use Rattle.std.proofs.Common.{List, ◌∷◌, Option, None}
use Rattle.std.proofs.Common.{refl, sym, subst}
use Rattle.cam_names.specs.declared.name.Name.{Name}
use Rattle.cam_type.specs.declared.ObjectDecl.{ObjectDecl}
use Rattle.cam_event.specs.declared.Event.{Event}
use Rattle.cam_event.specs.declared.Mark.{Mark}
use Rattle.cam_event.specs.declared.Mark.TheVariants as marks
use Rattle.cam_event.specs.Refusals.{refusal}
use Rattle.cam_runs.specs.Halts.{Stop}
use Rattle.cam_runs.specs.Standing.{Standing}
use Rattle.cam_runs.specs.Standing.{with_mark, with_binding}
use Rattle.cam_runs.specs.HaltedLines.{Passed, Refused, Led}
use Rattle.cam_runs.specs.HaltedLines.{lose}
use Rattle.cam_runs.specs.HaltedLines.{after_line}
use Rattle.cam_histories.specs.Found.{is_halt_of, with_taken_in}
use Rattle.cam_histories.proofs.FoundMarks.{marks_more}
use Rattle.cam_histories.proofs.Beside.{Goes, Leads}
use Rattle.cam_histories.proofs.FoundEdits.{Edits, goes_edit}

-- edits by marks, variables, losses and stops
pub mark_edits : (m : Mark) → ((s : ℕ) → is_halt_of s m ≡ false)
    → Edits (λ st. record st { running = with_mark m st.running })
mark_edits m off = record {
  trace = λ x. refl;
  taken = λ x. refl;
  halted = λ x. refl;
  undecided = λ x. refl;
  turns = λ x. refl;
  last = λ x s. refl;
  later = λ s behind before e x.
      let end : Standing = record (with_taken_in s behind e before x) {
        running = with_mark m (with_taken_in s behind e before x).running;
      } in
      λ i. record end {
        running = record end.running { marks = sym (marks_more s x.running.marks m (off s)) i };
      };
}

pub binding_edits : (a : Option Name) → Edits
    (λ st. record st { running = with_binding a st.running })
binding_edits a = record {
  trace = λ x. refl;
  taken = λ x. refl;
  halted = λ x. refl;
  undecided = λ x. refl;
  turns = λ x. refl;
  last = λ x s. refl;
  later = λ s behind before e x. refl;
}

pub lose_edits : (number : ℕ) → Edits (λ st. lose st number)
lose_edits number = record {
  trace = λ x. refl;
  taken = λ x. refl;
  halted = λ x. refl;
  undecided = λ x. refl;
  turns = λ x. refl;
  last = λ x s. refl;
  later = λ s behind before e x. refl;
}

pub stop_edits : (n calls : ℕ) → Edits (λ st. record st { turns = Stop n calls ∷ st.turns })
stop_edits n calls = record {
  trace = λ x. refl;
  taken = λ x. refl;
  halted = λ x. refl;
  undecided = λ x. refl;
  turns = λ x. refl;
  last = λ x s. refl;
  later = λ s behind before e x. refl;
}

-- what a line comes to in both
abbrev pub PassLeads : List Event → Passed → Type 0
PassLeads F (Refused refusal) = Unit {0}
PassLeads F (Led st binds) = Leads F st

abbrev pub PassGoes : List ObjectDecl → ℕ → (ℕ → List Event → Event → Type 0) → Passed → Passed
    → Type 0
PassGoes objects k P (Refused one) (Refused other) = other ≡ one
PassGoes objects k P (Refused one) (Led st binds) = ⊥
PassGoes objects k P (Led st binds) (Refused other) = ⊥
PassGoes objects k P (Led st binds) (Led there others) =
    Goes objects k P st there × (others ≡ binds)

pub line_goes : (objects : List ObjectDecl) (k : ℕ) (P : ℕ → List Event → Event → Type 0) (line : ℕ)
    (st there : Standing) (one other : Passed)
    → Goes objects k P st there → PassGoes objects k P one other
    → Goes objects k P (after_line st line one) (after_line there line other)
line_goes objects k P line st there (Refused r) (Refused q) goes same =
    subst (λ x. Goes objects k P (after_line st line (Refused r))
    (after_line there line (Refused x)))
    (sym same)
    (goes_edit objects k P (λ x. record x { running = with_binding None x.running })
    (binding_edits None)
    (record st { running = with_mark (marks.Refused line r) st.running })
    (record there { running = with_mark (marks.Refused line r) there.running })
    (goes_edit objects k P (λ x. record x { running = with_mark (marks.Refused line r) x.running })
    (mark_edits (marks.Refused line r) (λ s. refl)) st there goes))
line_goes objects k P line st there (Refused r) (Led y d) goes same = absurd same
line_goes objects k P line st there (Led x b) (Refused q) goes same = absurd same
line_goes objects k P line st there (Led x b) (Led y d) goes same =
    subst (λ a. Goes objects k P (after_line st line (Led x b)) (after_line there line (Led y a)))
    (sym same.1)
    (goes_edit objects k P (λ z. record z { running = with_binding b z.running }) (binding_edits b)
    x y same.0)
