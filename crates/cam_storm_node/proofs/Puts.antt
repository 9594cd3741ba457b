-- What a storm node puts to its node is not refused, and the node has numbers left for it.
use Rattle.std.proofs.Common.{◌≡◌, ℕ, zero, suc, ◌+◌, ◌%◌, ◌<◌, ◌≤◌, Bool, true, false, if◌then◌else◌}
use Rattle.std.proofs.Common.{List, [], ◌∷◌, map, length, refl, sym, ap, ◌∙◌, subst, arith}
use Rattle.std.proofs.lemmas.List.{length-append, length-map}
use Rattle.cam_names.specs.declared.name.Name.{Name}
use Rattle.cam_type.specs.declared.ObjectDecl.{ObjectDecl}
use Rattle.cam_know.specs.Known.{nothing}
use Rattle.cam_event.specs.declared.Body.{Body}
use Rattle.cam_event.specs.declared.Body.TheVariants as bodies
use Rattle.cam_event.specs.declared.Letter.{Letter}
use Rattle.cam_event.specs.declared.LetterId.{LetterId}
use Rattle.cam_event.specs.declared.Request.{Request}
use Rattle.cam_event.specs.declared.Want.{Want}
use Rattle.cam_event.specs.declared.Want.TheVariants as wants
use Rattle.cam_event.specs.declared.Deed.{Deed}
use Rattle.cam_event.specs.History.{count, is_ask_of, is_call_of, is_top_create}
use Rattle.cam_event.specs.HeldSites.{is_any_perform}
use Rattle.cam_event.specs.Runs.{IsNode, IsWant}
use Rattle.cam_event.specs.Carried.{deeds_of}
use Rattle.cam_event.specs.ByKnowledge.{held_sight}
use Rattle.cam_event.specs.ByDeltas.{Received, as_carried}
use Rattle.cam_tranman.specs.Actions.{MayRunHere, RunsActions}
use Rattle.cam_tranman.proofs.Requests.{refusal_is_rule}
use Rattle.cam_tranman.proofs.Sights.{sight_is_answered}
use Rattle.cam_node.specs.declared.Input.TheVariants as puts
use Rattle.cam_node.specs.Lawful.{IsLawful, IsLetter}
use Rattle.cam_node.specs.Keeping.{KeepsNode}
use Rattle.cam_node.specs.MayStep.{HasFewObjects, HasIndex, HasNumber}
use Rattle.cam_node.specs.Represents.{Node, Represents}
use Rattle.cam_gen.specs.Storms.{Words, numbers, objects_of, register_at}
use Rattle.cam_storm.specs.Lawful.{letter_load, letter_mail}
use Rattle.cam_storm.specs.Own.{OwnRequest}
use Rattle.cam_storm_node.specs.Taking.{IsAllowed}
use Rattle.cam_storm.proofs.Numbers.{own_number}
use Rattle.cam_storm_node.proofs.Running.{may_run}

-- a storm has 64 objects at most
numbers_length : (n : ℕ) → length (numbers n) ≡ n
numbers_length zero = refl
numbers_length (suc n) =
    let rest = numbers_length n in
    let more = length-append (numbers n) ((n + 1) ∷ []) in
    omega (arith, rest, more)

few_objects : (words : Words) → words.actions ≤ 64 → length (objects_of words) ≤ 64
few_objects words few = by words.calm
  where
    by : (calm : Bool)
        → length (if calm then map (λ i. register_at (1 + i % 4)) (numbers words.actions)
        else map register_at (numbers 4)) ≤ 64
    by true =
        let same = length-map (numbers words.actions) (λ i. register_at (1 + i % 4)) in
        let many = numbers_length words.actions in
        omega (arith, same, many, few)
    by false = omega arith

module _ (words : Words) (s : ℕ) (own : List Received) (node : Node)
    (entries : List (List ℕ)) (number : node.number ≡ s) (few : words.actions ≤ 64)
    (lawful : IsLawful (objects_of words) s own) (room : length own < 500000000)
    (keeps : KeepsNode (objects_of words) own node entries) where
  abbrev objects : List ObjectDecl
  objects = objects_of words

  abbrev L : List Deed
  L = deeds_of (map as_carried own)

  rep : Represents objects own node
  rep = keeps.represents

  runs : RunsActions objects s (map as_carried own) node.actions
  runs =
      subst (λ (n : ℕ). RunsActions objects n (map as_carried own) node.actions) number rep.runs

  -- a begin
  pub begin_allowed : IsAllowed node puts.Begin
  begin_allowed =
      let is = runs.tops in
      let most = own_number (is_top_create s (count L s)) (record {
        commit = λ a. refl;
        abort = λ a. refl;
        inform = λ r a o. refl;
      }) objects s own lawful in (tt, omega (arith, is, most, room))

  -- a request
  has_number : (a : Name) (want : Want) → MayRunHere L s a → HasNumber node a want
  has_number a (wants.Ask m) may =
      let is = runs.asks a may in
      let most = own_number (is_ask_of a) (record {
        commit = λ b. refl;
        abort = λ b. refl;
        inform = λ r b o. refl;
      }) objects s own lawful in
      omega (arith, is, most, room)
  has_number a (wants.Call x op) may =
      let is = runs.calls a may in
      let most = own_number (is_call_of a) (record {
        commit = λ b. refl;
        abort = λ b. refl;
        inform = λ r b o. refl;
      }) objects s own lawful in
      omega (arith, is, most, room)
  has_number a (wants.Commit v) may = tt
  has_number a wants.Abort may = tt
  has_number a (wants.GiveUp b) may = tt

  pub request_allowed : (r : Request) → OwnRequest words s own r.action r.want
      → IsAllowed node (puts.Request r)
  request_allowed r request =
      let home = request.drives.here in (
        sym (refusal_is_rule objects (held_sight objects s (map as_carried own) nothing)
            node.actions r.action r.want
            (sight_is_answered objects s (map as_carried own) nothing node.actions runs) home)
            ∙ request.allowed,
        (
          home ∙ sym number,
          subst (λ (os : List ObjectDecl). IsWant os r.want) (sym rep.serves.site.objects_are)
              request.fits,
          has_number r.action r.want
              (may_run words s own r.action r.want home request.allowed),
        ),
      )

  -- a letter
  few_indices : node.server.table.site.next ≤ 999999999
  few_indices =
      let next = keeps.order.next in
      let most = own_number is_any_perform (record {
        commit = λ a. refl;
        abort = λ a. refl;
        inform = λ r a o. refl;
      }) objects s own lawful in
      omega (arith, next, most, room)

  has_index : (body : Body) → HasIndex node body
  has_index (bodies.Start b counts) = tt
  has_index (bodies.Call a n x op c counts) = few_indices
  has_index (bodies.Answer a n reply) = tt
  has_index (bodies.Finish a v counts) = tt
  has_index (bodies.Quit a) = tt
  has_index (bodies.Prepare f c) = tt
  has_index (bodies.Vote f c agrees) = tt
  has_index (bodies.Query f) = tt
  has_index bodies.News = tt

  has_few : (body : Body) → HasFewObjects node body
  has_few (bodies.Start b counts) = tt
  has_few (bodies.Call a n x op c counts) = tt
  has_few (bodies.Answer a n reply) = tt
  has_few (bodies.Finish a v counts) = tt
  has_few (bodies.Quit a) = tt
  has_few (bodies.Prepare f c) =
      let same = ap (λ (os : List ObjectDecl). length os) rep.serves.site.objects_are in
      let most = few_objects words few in
      omega (arith, same, most)
  has_few (bodies.Vote f c agrees) = tt
  has_few (bodies.Query f) = tt
  has_few bodies.News = tt

  pub letter_allowed : (id : LetterId) (letter : Letter) → IsNode letter.from
      → IsLetter objects s (letter_mail letter) (letter_load letter)
      → IsAllowed node (puts.Letter id letter)
  letter_allowed id letter from is = (
    tt,
    (
      from,
      has_index letter.body,
      has_few letter.body,
      subst (λ (os : List ObjectDecl). IsLetter os node.number (letter_mail letter)
          (letter_load letter)) (sym rep.serves.site.objects_are)
          (subst (λ (n : ℕ). IsLetter objects n (letter_mail letter) (letter_load letter))
          (sym number) is),
    ),
  )
