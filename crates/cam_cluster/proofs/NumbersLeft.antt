-- A node has numbers left for what a letter of the run asks of it, and the letter may be handed to
-- it.
use Rattle.std.proofs.Common.{◌≡◌, ℕ, ◌+◌, ◌≤◌, ◌<◌, false, List, length, Some, sym, ap, ◌∙◌, subst}
use Rattle.std.proofs.Common.{arith}
use Rattle.std.specs.Prelude.{slice_get}
use Rattle.cam_type.specs.declared.ObjectDecl.{ObjectDecl}
use Rattle.cam_event.specs.declared.Body.{Body}
use Rattle.cam_event.specs.declared.Body.TheVariants as bodies
use Rattle.cam_event.specs.declared.Letter.{Letter}
use Rattle.cam_event.specs.declared.LetterId.{LetterId}
use Rattle.cam_event.specs.Inputs.{Mail, Receives, node_of}
use Rattle.cam_event.specs.Runs.{IsNode}
use Rattle.cam_net.specs.Waiting.{is_halted}
use Rattle.cam_node.specs.declared.Input.TheVariants as inputs
use Rattle.cam_node.specs.Calls.{load_of, mail_on}
use Rattle.cam_node.specs.Lawful.{IsLetter}
use Rattle.cam_node.specs.Log.{Logged}
use Rattle.cam_node.specs.LogOrder.{performed}
use Rattle.cam_node.specs.MayStep.{HasFewObjects, HasIndex, MayCome}
use Rattle.cam_runs.specs.Running.{has_number}
use Rattle.cam_runs.specs.Standing.{Standing}
use Rattle.cam_script.specs.declared.Script.{Script}
use Rattle.cam_script.specs.Law.{IsScript}
use Rattle.cam_histories.specs.Laws.{history_of}
use Rattle.cam_histories.specs.Whole.{IsSiteOf, StandsAt}
use Rattle.cam_histories.proofs.Counted.{no_longer}
use Rattle.cam_histories.proofs.Ranging.{performs_are_few}
use Rattle.cam_histories.proofs.Sites.{site_at}
use Rattle.cam_histories.proofs.Stepping.{letters_are_put}
use Rattle.cam_histories.proofs.Writing.{letters_are_in_range}
use Rattle.cam_cluster.specs.Coming.{IsReadOf}
use Rattle.cam_cluster.specs.Works.{NodeFields, WorksFields, KeepsRun, sites_of}
use Rattle.cam_cluster.proofs.BegunLine.{few_events, told_halted}
use Rattle.cam_cluster.proofs.WorksNodes.{site_there}

module _ (script : Script) (st : Standing) (works : WorksFields) (may : ℕ → Logged → Type 0)
    (is : IsScript script) (keeps : KeepsRun script st works may) (place : ℕ)
    (there : place < length works.nodes) (awake : is_halted works.halted (place + 1) ≡ false)
    (node : NodeFields) (at : slice_get works.nodes place ≡ Some node) where
  here : IsSiteOf script.objects st (place + 1) node.site
  here =
      subst (λ (s : ℕ). IsSiteOf script.objects st s node.site) (omega arith)
      (site_at script.objects st 1 place (sites_of works.nodes) node.site keeps.whole.nodes
      (site_there works.nodes place node at))

  stands : StandsAt script.objects (place + 1)
      (history_of script.objects st.running.trace (place + 1)) node.site
  stands =
      here.stands (sym (told_halted script st works may is keeps place there) ∙ awake)

  -- it has performed fewer operations than there are indices
  few_indices : node.site.node.server.table.site.next ≤ 999999999
  few_indices =
      let next : node.site.node.server.table.site.next
      ≤ performed (history_of script.objects st.running.trace (place + 1))
      = stands.log.order.next in
      let once : performed (history_of script.objects st.running.trace (place + 1))
      ≤ length (history_of script.objects st.running.trace (place + 1)) =
      performs_are_few script.objects (has_number st.taken) st.running.trace (place + 1)
      keeps.under.run in
      let own = no_longer script.objects st.running.trace (place + 1) in
      let few = few_events script st works may keeps in
      omega (arith, next, once, own, few)

  few_objects : length node.site.node.server.table.site.objects ≤ 64
  few_objects =
      let same = ap (λ (os : List ObjectDecl). length os)
      stands.represents.serves.site.objects_are in
      let limit = is.object_limit in
      omega (arith, same, limit)

  has_index : (body : Body) → HasIndex node.site.node body
  has_index (bodies.Start b counts) = tt
  has_index (bodies.Call a n x op c counts) = few_indices
  has_index (bodies.Answer a n reply) = tt
  has_index (bodies.Finish a v counts) = tt
  has_index (bodies.Quit a) = tt
  has_index (bodies.Prepare f c) = tt
  has_index (bodies.Vote f c agrees) = tt
  has_index (bodies.Query f) = tt
  has_index bodies.News = tt

  has_few : (body : Body) → HasFewObjects node.site.node body
  has_few (bodies.Start b counts) = tt
  has_few (bodies.Call a n x op c counts) = tt
  has_few (bodies.Answer a n reply) = tt
  has_few (bodies.Finish a v counts) = tt
  has_few (bodies.Quit a) = tt
  has_few (bodies.Prepare f c) = few_objects
  has_few (bodies.Vote f c agrees) = tt
  has_few (bodies.Query f) = tt
  has_few bodies.News = tt

  -- the letter may be handed to the node to which it goes
  is_letter : (id : LetterId) (letter : Letter) → IsReadOf script st id letter
      → node_of st.running.trace (Receives id) ≡ place + 1
      → IsLetter node.site.node.server.table.site.objects node.site.node.number (mail_on letter)
      (load_of (inputs.Letter id letter))
  is_letter id letter read to =
      rw stands.represents.serves.site.objects_are (rw (← (to ∙ sym here.number)) (letters_are_put script.objects st.running.trace id read.mail letter read.sent read.read).may)

  -- THE LEMMA
  pub letter_may_come : (id : LetterId) (letter : Letter) → IsReadOf script st id letter
      → node_of st.running.trace (Receives id) ≡ place + 1 → MayCome node.site.node letter
  letter_may_come id letter read to =
      let range = (letters_are_in_range script.objects (has_number st.taken) st.running.trace id
      read.mail keeps.under.run is.object_limit (few_events script st works may keeps)
      read.sent).0 in (
        subst IsNode (sym (ap (λ (m : Mail). m.from) read.read.is_mail)) range.from,
        has_index letter.body,
        has_few letter.body,
        is_letter id letter read to,
      )
