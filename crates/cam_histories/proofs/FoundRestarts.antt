-- The restart of another node in two runs whose halts differ at one input.
use Rattle.std.proofs.Common.{◌≡◌, inl, inr, ℕ, Bool, false}
use Rattle.std.proofs.Common.{if◌then◌else◌, length, List}
use Rattle.std.proofs.Common.{sym, ap, ◌∙◌}
use Rattle.std.proofs.lemmas.Bool.{ne_eqb}
use Rattle.cam_type.specs.declared.ObjectDecl.{ObjectDecl}
use Rattle.cam_event.specs.declared.Deed.{Deed}
use Rattle.cam_event.specs.declared.Event.{Event}
use Rattle.cam_event.specs.Inputs.{Restarts}
use Rattle.cam_cut.proofs.Places.{AllPlaced}
use Rattle.cam_runs.specs.Running.{has_number}
use Rattle.cam_runs.specs.Halts.{Halting}
use Rattle.cam_runs.specs.Standing.{Standing, put}
use Rattle.cam_runs.specs.Standing.{ended_halt}
use Rattle.cam_histories.specs.InputLaws.{held_setting}
use Rattle.cam_histories.specs.Found.{with_taken_in, IsFound, DifferAt}
use Rattle.cam_runs.proofs.Undecided.{others_without}
use Rattle.cam_histories.proofs.HaltedLists.{without}
use Rattle.cam_histories.proofs.UndecidedBeside.{beside_without}
use Rattle.cam_histories.proofs.Beside.{SomeBeyond, Goes, Leads}
use Rattle.cam_histories.proofs.FoundPuts.{found_put}
use Rattle.cam_histories.proofs.FoundHalts.{before_put}

-- a restart of another node
module _ (objects : List ObjectDecl) (losing taking : Halting) (k : ℕ)
    (P : ℕ → List Event → Event → Type 0) (differ : DifferAt k losing taking) (line : ℕ)
    (restarted : ℕ → Bool)
    (F : List Event) (H : List Deed) (placed : AllPlaced objects H F) (st there : Standing) (m : ℕ)
  where
    pub restart_goes : (goes : Goes objects k P st there)
        → ((b : SomeBeyond objects k P st there) → b.node ≡ m → ⊥)
        → Leads F (put (held_setting objects taking line restarted) (ended_halt there m)
        (Restarts m))
        → Goes objects k P
        (put (held_setting objects losing line restarted) (ended_halt st m) (Restarts m))
        (put (held_setting objects taking line restarted) (ended_halt there m) (Restarts m))
    restart_goes (inl before) away leads =
        (before_put objects losing taking k P differ line restarted F H placed (ended_halt st m)
        (ended_halt there m)
        (record {
          all = before.all;
          is_before = record {
            coming = before.is_before.coming;
            same = ap (λ x. ended_halt x m) before.is_before.same;
          };
          below = before.below;
        })
        (Restarts m) leads).goes
    restart_goes (inr b) away leads = inr (record {
      node = b.node;
      before = b.before;
      event = b.event;
      kept = b.kept;
      beyond =
          (found_put objects losing taking k P differ line restarted b.node b.before b.event
          (ended_halt st m) (ended_halt there m)
          (record {
            is_beyond = record {
              passed = b.beyond.is_beyond.passed;
              last = b.beyond.is_beyond.last;
              input = b.beyond.is_beyond.input;
              of_node = b.beyond.is_beyond.of_node;
              event = b.beyond.is_beyond.event;
              undecided =
                  others_without m b.node st.undecided (λ h. away b (sym h))
                  ∙ b.beyond.is_beyond.undecided;
              stands = record {
                behind = stands.behind;
                unseen = stands.unseen;
                was = stands.was;
                is =
                    ap (λ x. ended_halt x m) stands.is
                    ∙ λ i. record later {
                      undecided =
                          beside_without b.node m (length b.before) st.undecided
                          (λ h. away b (sym h)) i;
                    };
                halted =
                    without st.halted m b.node
                    ∙ ap (λ c. if c then false else has_number st.halted b.node)
                    (ne_eqb m b.node (λ e. away b (sym e)))
                    ∙ stands.halted;
              };
            };
            silent = b.beyond.silent;
          })
          (Restarts m) (away b)).beyond;
    })
      where
        stands : IsFound b.node b.before b.event st there
        stands = b.beyond.is_beyond.stands

        later : Standing
        later = with_taken_in b.node stands.behind b.event b.before (ended_halt st m)
