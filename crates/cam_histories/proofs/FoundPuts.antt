-- An input of another node, after the one at which two runs differ: it leads to the same in both.
use Rattle.std.proofs.Common.{◌≡◌, ℕ, ◌+◌, ◌<◌, Bool, true, false, ◌||◌}
use Rattle.std.proofs.Common.{List, ◌++◌, length, Option, Some, None}
use Rattle.std.proofs.Common.{refl, sym, ap, ◌∙◌, arith, if◌then◌else◌}
use Rattle.std.proofs.lemmas.Bool.{ne_eqb}
use Rattle.std.specs.List.{list_any}
use Rattle.cam_type.specs.declared.ObjectDecl.{ObjectDecl}
use Rattle.cam_event.specs.declared.Event.{Event}
use Rattle.cam_event.specs.Inputs.{Input, Begins, Requests, Receives, Tells, Queries, Restarts}
use Rattle.cam_event.specs.Inputs.{node_of}
use Rattle.cam_event.specs.Loads.{Load}
use Rattle.cam_event.specs.Readings.{Reading, by_knowledge}
use Rattle.cam_event.specs.Sights.{Sight}
use Rattle.cam_event.specs.Taken.{is_entered}
use Rattle.cam_runs.specs.Halts.{accepted, Halting, brought_by, learns_count, appends}
use Rattle.cam_runs.specs.Standing.{Standing, Setting, after_input, put, made}
use Rattle.cam_histories.specs.InputLaws.{held_setting}
use Rattle.cam_histories.specs.PutIn.{moved_event, moved_input, put_in, IsUnseen}
use Rattle.cam_histories.specs.Found.{last_input}
use Rattle.cam_histories.specs.Found.{with_taken_in, IsFound, DifferAt}
use Rattle.cam_histories.proofs.PutIn.{node_moved, events_are_moved, loads_are_moved, sights_stay}
use Rattle.cam_histories.proofs.Beside.{Beyond}
use Rattle.cam_histories.proofs.AfterInput.{made_by, made_is, after_found, after_accepted}
use Rattle.cam_histories.proofs.AfterInput.{after_last}
use Rattle.cam_histories.proofs.UndecidedBeside.{after_undecided}

module _ (objects : List ObjectDecl) (losing taking : Halting) (k : ℕ)
    (P : ℕ → List Event → Event → Type 0) (differ : DifferAt k losing taking) (line : ℕ)
    (restarted : ℕ → Bool)
  where
    abbrev pub one : Setting
    one = held_setting objects losing line restarted

    abbrev pub other : Setting
    other = held_setting objects taking line restarted

    -- what an input of another node is in the other run
    module _ (s : ℕ) (behind before : List Event) (e : Event) (st : Standing) (input : Input)
        (unseen : IsUnseen s behind e) (was : st.running.trace ≡ behind ++ before)
        (off : s ≡ node_of st.running.trace input → ⊥)
      where
        abbrev t : List Event
        t = st.running.trace

        abbrev u : List Event
        u = put_in behind e before

        abbrev p : ℕ
        p = length before

        abbrev reading : Reading
        reading = by_knowledge objects

        n : ℕ
        n = node_of t input

        nodes : node_of u (moved_input p input) ≡ node_of t input
        nodes = node_moved behind before e input ∙ ap (λ x. node_of x input) (sym was)

        off_there : s ≡ node_of (behind ++ before) input → ⊥
        off_there h = off (h ∙ ap (λ x. node_of x input) (sym was))

        events : reading.next u (moved_input p input) ≡ moved_event p (reading.next t input)
        events =
            events_are_moved objects s behind before e input unseen off_there
            ∙ ap (λ x. moved_event p (reading.next x input)) (sym was)

        counts : (reading.sight u (node_of t input)).known_count
            ≡ (reading.sight t (node_of t input)).known_count
        counts =
            ap (λ (g : Sight). g.known_count)
            (sights_stay objects s (node_of t input) behind before e unseen off)
            ∙ ap (λ x. (reading.sight x (node_of t input)).known_count) (sym was)

        brought : (i : Input) → brought_by reading u (moved_input p i) ≡ brought_by reading t i
        brought (Begins m) = refl
        brought (Requests r) = refl
        brought (Receives letter) =
            ap (λ (l : Load). l.know) (loads_are_moved objects s behind before e letter unseen)
            ∙ ap (λ x. (reading.carried x letter).know) (sym was)
        brought (Tells m to) = refl
        brought (Queries m f) = refl
        brought (Restarts m) = refl

        entries : appends reading u (moved_input p input) ≡ appends reading t input
        entries =
            ap (λ m. list_any is_entered (reading.next u (moved_input p input)).deeds
            || learns_count (reading.sight u m).known_count
            (brought_by reading u (moved_input p input))) nodes
            ∙ λ i. list_any is_entered (events i).deeds || learns_count (counts i) (brought input i)

        pub put_later : k < accepted st.turns
            → put other (with_taken_in s behind e before st) (moved_input p input)
            ≡ after_input line (restarted (node_of t input)) (with_taken_in s behind e before st)
            (node_of t input) (moved_event p (reading.next t input)) (appends reading t input)
            (losing st.turns (node_of t input) (appends reading t input)
            (restarted (node_of t input)))
        put_later passed =
            (λ i. after_input line (restarted (nodes i)) (with_taken_in s behind e before st)
            (nodes i) (events i) (entries i)
            (taking st.turns (nodes i) (entries i) (restarted (nodes i))))
            ∙ ap (after_input line (restarted (node_of t input))
            (with_taken_in s behind e before st)
            (node_of t input) (moved_event p (reading.next t input)) (appends reading t input))
            (sym (differ.alike st.turns (node_of t input) (appends reading t input)
            (restarted (node_of t input)) (λ same. omega (arith, same, passed))))

    -- what the input of another node leads to
    pub record FoundPut (s : ℕ) (before : List Event) (e : Event) (st there : Standing)
        (input : Input) : Type 0 where
      pub beyond :
          Beyond objects k s before e (put one st input)
          (put other there (moved_input (length before) input))
      pub same :
          made there (put other there (moved_input (length before) input))
          ≡ made st (put one st input)

    made_moved : (p : ℕ) (ev : Event) (o : Option Bool)
        → made_by (moved_event p ev) o ≡ made_by ev o
    made_moved p ev None = refl
    made_moved p ev (Some true) = refl
    made_moved p ev (Some false) = refl

    pub found_put : (s : ℕ) (before : List Event) (e : Event) (st there : Standing)
        → Beyond objects k s before e st there → (input : Input)
        → (s ≡ node_of st.running.trace input → ⊥) → FoundPut s before e st there input
    found_put s before e st there both input off = record {
      beyond = record {
        is_beyond = record {
          passed = omega (arith, passed, counted);
          last =
              after_last line (restarted n) st n ev w o s
              ∙ ap (λ b. if b then Some (accepted st.turns) else last_input st.turns s)
              (ne_eqb n s (λ h. off (sym h)))
              ∙ both.is_beyond.last;
          input = both.is_beyond.input;
          of_node = both.is_beyond.of_node;
          event = both.is_beyond.event;
          undecided =
              after_undecided line (restarted n) st n ev w o s (λ h. off (sym h))
              ∙ both.is_beyond.undecided;
          stands = record {
            behind = end.behind;
            unseen = end.unseen;
            was = end.was;
            is = whole ∙ end.is;
            halted = end.halted;
          };
        };
        silent = both.silent;
      };
      same =
          (λ i. made (found.is i) (put other (found.is i) (moved_input p input)))
          ∙ ap (made later) (put_later s found.behind before e st input found.unseen found.was off
          passed)
          ∙ made_is line (restarted n) later n (moved_event p ev) w o
          ∙ made_moved p ev o
          ∙ sym (made_is line (restarted n) st n ev w o);
    }
      where
        found : IsFound s before e st there
        found = both.is_beyond.stands

        passed : k < accepted st.turns
        passed = both.is_beyond.passed

        p : ℕ
        p = length before

        later : Standing
        later = with_taken_in s found.behind e before st

        n : ℕ
        n = node_of st.running.trace input

        ev : Event
        ev = (by_knowledge objects).next st.running.trace input

        w : Bool
        w = appends (by_knowledge objects) st.running.trace input

        o : Option Bool
        o = losing st.turns n w (restarted n)

        counted : accepted (after_input line (restarted n) st n ev w o).turns
            ≡ accepted st.turns + 1
        counted = after_accepted line (restarted n) st n ev w o

        end : IsFound s before e (after_input line (restarted n) st n ev w o)
            (after_input line (restarted n) later n (moved_event p ev) w o)
        end = after_found line (restarted n) s found.behind before e st n ev w found.unseen
            found.was
            found.halted off refl o

        whole : put other there (moved_input p input)
            ≡ after_input line (restarted n) later n (moved_event p ev) w o
        whole =
            ap (λ x. put other x (moved_input p input)) found.is
            ∙ put_later s found.behind before e st input found.unseen found.was off passed
