-- The tests of the line `go`, in their order: the variable, the halted home, and what the home
-- says.
use Rattle.std.proofs.Common.{◌≡◌, ◌≤◌, ℤ, ℕ, ◌+◌, ◌<◌, Bool, true, false, List, length, Option}
use Rattle.std.proofs.Common.{Err, Some, None, sym, ap, ◌∙◌, arith}
use Rattle.std.specs.Prelude.{slice_get}
use Rattle.cam_names.specs.declared.name.Name.{Name}
use Rattle.cam_names.specs.Names.{home_node}
use Rattle.cam_event.specs.declared.LineRefusal.{LineRefusal}
use Rattle.cam_event.specs.declared.LineRefusal.TheVariants as refusals
use Rattle.cam_event.specs.declared.Want.TheVariants as wants
use Rattle.cam_event.specs.Readings.{by_knowledge}
use Rattle.cam_event.specs.Refusals.{first_of_two, where_so}
use Rattle.cam_net.specs.Waiting.{is_halted}
use Rattle.cam_node.specs.declared.Input.TheVariants as inputs
use Rattle.cam_node.specs.Log.{Logged}
use Rattle.cam_runs.specs.Halts.{Halting}
use Rattle.cam_runs.specs.HaltedLines.{Led, act, halted_or, of_variable, setting, unless}
use Rattle.cam_runs.specs.HaltedPlaying.{go}
use Rattle.cam_runs.specs.Playing.{go_refusal}
use Rattle.cam_runs.specs.Requests.{home_sight, variable}
use Rattle.cam_runs.specs.Running.{has_number}
use Rattle.cam_runs.specs.Standing.{Standing}
use Rattle.cam_script.specs.declared.Act.TheVariants as acts
use Rattle.cam_script.specs.declared.Script.{Script}
use Rattle.cam_script.specs.declared.Statement.{Statement}
use Rattle.cam_script.specs.declared.Step.{Step}
use Rattle.cam_script.specs.Law.{IsScript}
use Rattle.cam_histories.specs.Lines.{line_refusal, test_variable}
use Rattle.cam_cluster.specs.declared.LineFault.{LineFault}
use Rattle.cam_cluster.specs.declared.workers.Workers.{Workers}
use Rattle.cam_cluster.specs.GoLines.{IsGoOfSome, IsLineOfGo, KeepsLinesAtWork}
use Rattle.cam_cluster.specs.InputLines.{IsRefusedAs}
use Rattle.cam_cluster.specs.SoFar.{LinesFields}
use Rattle.cam_cluster.specs.VariableLines.{AreAtNodes, action_of}
use Rattle.cam_cluster.specs.Works.{NodeFields}
use Rattle.cam_cluster.proofs.BegunLine.{told_halted}
use Rattle.cam_cluster.proofs.TriedEnds.{IsSaid}
use Rattle.cam_cluster.proofs.TriedNode.{refuses}
use Rattle.cam_cluster.proofs.VariableEnds.{placed_in_each, stands_for}
use Rattle.cam_cluster.proofs.GoRefused.{refused_so}

-- the run of a script with these bodies, whose next line it is
module _ (line v : ℕ) (bodies : List (List Statement)) (old new : LinesFields)
    (might may : ℕ → Logged → Type 0) (before : Workers)
    (some : IsGoOfSome line v bodies old might before) where
  pub go_unbound : action_of old.bound v ≡ None → (fault : LineFault)
      → IsRefusedAs line refusals.Unbound old might new may fault
      → IsLineOfGo line v bodies old might before new may before (Err fault)
  go_unbound none fault has =
      refused_so line v bodies old new might may before refusals.Unbound fault
      (λ script st is keeps.
      let at = stands_for script st old might v None keeps.lines none in (
        ap (λ o. test_variable o (λ a. halted_or st (home_node a) (go_refusal (home_sight
            (by_knowledge script.objects) st.running a) a))) at,
        λ halts later. let c = setting (by_knowledge script.objects) halts (record {
          line = line;
          act = acts.Go v;
        }) later in
            ap (λ o. of_variable o (λ a. unless (halted_or st (home_node a) (go_refusal (home_sight
            c.reading st.running a) a)) (Led (go c script.bodies st a) None))) at,
      )) has

  module _ (a : Name) (at : action_of old.bound v ≡ Some a) where
    -- the home is a node of each such script
    pub placed : (script : Script) (st : Standing) → KeepsLinesAtWork script st old might before
        → AreAtNodes script.nodes st.running.bound
    placed script st keeps =
        placed_in_each _ _ _ _ _ _ some.keeps.lines keeps.lines some.placed

    pub named : (script : Script) (st : Standing) → KeepsLinesAtWork script st old might before
        → variable st.running v ≡ Some a
    named script st keeps = stands_for _ _ _ _ _ _ keeps.lines at

    -- what the tests say of the line
    abbrev pub says : Script → Standing → Option LineRefusal
    says script st =
        halted_or st (home_node a) (go_refusal (home_sight (by_knowledge script.objects) st.running
        a) a)

    pub tested : (script : Script) (st : Standing) (o : Option LineRefusal)
        → KeepsLinesAtWork script st old might before → says script st ≡ o
        → line_refusal (by_knowledge script.objects) st (acts.Go v) ≡ o
    tested script st o keeps said =
        ap (λ x. test_variable x (λ b. halted_or st (home_node b) (go_refusal (home_sight
        (by_knowledge script.objects) st.running b) b))) (named script st keeps)
        ∙ said

    pub taken : (script : Script) (st : Standing) (o : Option LineRefusal)
        → KeepsLinesAtWork script st old might before → says script st ≡ o
        → (halts : Halting) (later : List Step)
        → act (setting (by_knowledge script.objects) halts (record {
          line = line;
          act = acts.Go v;
        }) later) script.bodies st (acts.Go v)
        ≡ unless o (Led (go (setting (by_knowledge script.objects) halts (record {
          line = line;
          act
              = acts.Go v;
        }) later) script.bodies st a) None)
    taken script st o keeps said halts later =
        let c = setting (by_knowledge script.objects) halts (record {
          line = line;
          act = acts.Go v;
        }) later in
        ap (λ x. of_variable x (λ b. unless (halted_or st (home_node b) (go_refusal (home_sight
        c.reading st.running b) b)) (Led (go c script.bodies st b) None))) (named script st
        keeps)
        ∙ ap (λ x. unless x (Led (go c script.bodies st a) None)) said

    pub go_low : 1 ≤ home_node a
    go_low = (some.placed v a (named some.script some.standing some.keeps)).0

    module _ (place : ℕ) (home : home_node a ≡ place + 1) where
      pub go_there : place < length old.works.nodes
      go_there =
          let high = (some.placed v a (named some.script some.standing some.keeps)).1 in
          let each = some.keeps.lines.runs.one_each in
          omega (arith, high, each, home)

      -- the node of the home runs
      pub go_runs : is_halted old.works.halted (place + 1) ≡ false → (node : NodeFields)
          → slice_get old.works.nodes place ≡ Some node → node.halted ≡ false
      go_runs runs node is_node =
          (some.keeps.lines.runs.nodes place node is_node).is_halted ∙ runs

      pub home_said : (script : Script) (st : Standing) (b : Bool) → IsScript script
          → KeepsLinesAtWork script st old might before
          → is_halted old.works.halted (place + 1) ≡ b → has_number st.halted (home_node a) ≡ b
      home_said script st b is keeps said =
          ap (has_number st.halted) home
          ∙ sym (told_halted script st old.works might is keeps.lines.runs place go_there) ∙ said

      pub says_by : (script : Script) (st : Standing) (b : Bool) → IsScript script
          → KeepsLinesAtWork script st old might before
          → is_halted old.works.halted (place + 1) ≡ b
          → says script st ≡ first_of_two (where_so b refusals.Halted) (go_refusal (home_sight
          (by_knowledge script.objects) st.running a) a)
      says_by script st b is keeps said =
          ap (λ (x : Bool). first_of_two (where_so x refusals.Halted) (go_refusal (home_sight
          (by_knowledge script.objects) st.running a) a))
          (home_said script st b is keeps said)

      pub go_halted : is_halted old.works.halted (place + 1) ≡ true → (fault : LineFault)
          → IsRefusedAs line refusals.Halted old might new may fault
          → IsLineOfGo line v bodies old might before new may before (Err fault)
      go_halted stops fault has =
          refused_so line v bodies old new might may before refusals.Halted fault
          (λ script st is keeps.
          let said = says_by script st true is keeps stops in (
            tested script st (Some refusals.Halted) keeps said,
            taken script st (Some
                refusals.Halted) keeps said,
          ))
          has

      -- what the node of the home says of it
      module _ (runs : is_halted old.works.halted (place + 1) ≡ false) (node : NodeFields)
          (is_node : slice_get old.works.nodes place ≡ Some node) (value : ℤ)
          (o : Option LineRefusal)
          (told : IsSaid node (inputs.Request (record { action = a; want = wants.Commit value }))
          o) where
        pub node_says : (script : Script) (st : Standing) → IsScript script
            → KeepsLinesAtWork script st old might before
            → go_refusal (home_sight (by_knowledge script.objects) st.running a) a ≡ o
        node_says script st is keeps =
            ap (λ s. go_refusal ((by_knowledge script.objects).sight st.running.trace s) a) home
            ∙ sym
            (refuses script st old.works might is keeps.lines.runs place go_there runs node is_node
            (inputs.Request (record { action = a; want = wants.Commit value })) o home
            (told script.objects))

        pub says_node : (script : Script) (st : Standing) → IsScript script
            → KeepsLinesAtWork script st old might before → says script st ≡ o
        says_node script st is keeps =
            says_by script st false is keeps runs ∙ node_says script st is keeps

        pub go_refused : (why : LineRefusal) → o ≡ Some why → (fault : LineFault)
            → IsRefusedAs line why old might new may fault
            → IsLineOfGo line v bodies old might before new may before (Err fault)
        go_refused why is_why fault has =
            refused_so line v bodies old new might may before why fault (λ script st is keeps.
            let said = says_node script st is keeps ∙ is_why in
            (tested script st (Some why) keeps said, taken script st (Some why) keeps said)) has
