-- The log that was formatted keeps the empty history; what was taken of an event has its records.
use Rattle.std.proofs.Common.{◌≡◌, ℕ, ◌+◌, ◌-◌, ◌≤◌, List, [], ◌∷◌, ◌++◌, map, refl, sym, ap, arith}
use Rattle.std.specs.Prelude.{filter, Option}
use Rattle.std.proofs.lemmas.List.{get_or-replicate}
use Rattle.cam_type.specs.declared.ObjectDecl.{ObjectDecl}
use Rattle.cam_know.specs.Known.{nothing, known_count}
use Rattle.cam_know.specs.Order.{told_in_order}
use Rattle.cam_event.specs.declared.Deed.{Deed}
use Rattle.cam_event.specs.declared.Deed.TheVariants.{Create, Ask, Call, Perform, Bounce, Got, AskCommit, AskAbort, Commit, Abort, Secure, Inform, Crash}
use Rattle.cam_event.specs.History.{count}
use Rattle.cam_event.specs.Inputs.{Mail}
use Rattle.cam_event.specs.ByKnowledge.{commit_counts}
use Rattle.cam_event.specs.Carried.{Carried, deeds_of}
use Rattle.cam_event.specs.ByDeltas.{as_carried, known}
use Rattle.cam_event.specs.Taken.{is_entered}
use Rattle.cam_recman.specs.declared.Record.{Record}
use Rattle.cam_recman.specs.declared.Record.TheVariants as records
use Rattle.cam_node.specs.Entries.{Holding, learnt_records, deed_records}
use Rattle.cam_recman.proofs.Said.{first_says}
use Rattle.cam_node.specs.LogLaws.{FormattedKeeps, TakenIsTheSame}

one_at_first : (s : ℕ) → 1 ≤ s → s ≤ 8 → 1 ≡ known_count nothing s
one_at_first s low high = sym (get_or-replicate 8 (s - 1) 1 0 (omega (arith, low, high)))

pub formatted_keeps : FormattedKeeps
formatted_keeps objects s low high = (
  first_says,
  record {
    count = refl;
    outcomes = refl;
    other_counts = λ m first last off. refl;
    own_known = λ first last. omega (arith, one_at_first s low high);
    secured = tt;
    counts = refl;
    order = record {
      order = λ one other is there. absurd (omega (arith, is.1));
      at_most = λ one is. absurd (omega (arith, is.1));
    };
  },
)

same_deeds : (holds : Holding) (objects : List ObjectDecl) (h : List Carried) (mail : Option Mail) (ds : List Deed)
    → deed_records holds objects h mail (filter is_entered ds) ≡ deed_records holds objects h mail ds
same_deeds holds objects h mail [] = refl
same_deeds holds objects h mail (Create a ∷ ds) = same_deeds holds objects h mail ds
same_deeds holds objects h mail (Ask a b ∷ ds) = same_deeds holds objects h mail ds
same_deeds holds objects h mail (Call a n x op c ∷ ds) = same_deeds holds objects h mail ds
same_deeds holds objects h mail (Perform a n answer ∷ ds) = same_deeds holds objects h mail ds
same_deeds holds objects h mail (Bounce a n u ∷ ds) = same_deeds holds objects h mail ds
same_deeds holds objects h mail (Got a n seen ∷ ds) = same_deeds holds objects h mail ds
same_deeds holds objects h mail (AskCommit a v ∷ ds) = same_deeds holds objects h mail ds
same_deeds holds objects h mail (AskAbort a ∷ ds) = same_deeds holds objects h mail ds
same_deeds holds objects h mail (Commit a ∷ ds) = ap (λ (rs : List Record). records.Commit a (commit_counts objects h mail a) ∷ rs) (same_deeds holds objects h mail ds)
same_deeds holds objects h mail (Abort a ∷ ds) = ap (λ (rs : List Record). records.Abort a ∷ rs) (same_deeds holds objects h mail ds)
same_deeds holds objects h mail (Secure f m c ∷ ds) = ap (λ (rs : List Record). records.Secure (holds f c) ∷ rs) (same_deeds holds objects h mail ds)
same_deeds holds objects h mail (Inform m u b ∷ ds) = same_deeds holds objects h mail ds
same_deeds holds objects h mail (Crash m ∷ ds) = ap (λ (rs : List Record). records.Count (count (deeds_of h) m + 1) ∷ rs) (same_deeds holds objects h mail ds)

pub taken_is_the_same : TakenIsTheSame
taken_is_the_same holds objects history c =
    ap (λ (rs : List Record). learnt_records (known objects history) (told_in_order c.load.know) ++ rs) (same_deeds holds objects (map as_carried history) c.mail c.event.deeds)
