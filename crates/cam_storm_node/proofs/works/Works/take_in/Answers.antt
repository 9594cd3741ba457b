-- One more event is taken in.
use Rattle.std.proofs.Common.{◌≡◌, inl, inr, false, ◌||◌, ◌++◌, map, sym, ap, ◌∙◌, subst}
use Rattle.std.specs.Prelude.{flat_map}
use Rattle.std.specs.BTreeSet.{BTreeSet, contains}
use Rattle.std.specs.List.{list_any}
use Rattle.std.proofs.lemmas.Bool.{cases_Bool, or_parts}
use Rattle.cam_names.specs.declared.name.Name.{Name}
use Rattle.cam_names.specs.Names.{name_cmp}
use Rattle.cam_event.specs.declared.Event.{Event}
use Rattle.cam_event.specs.History.{after}
use Rattle.cam_event.specs.Carried.{deeds_of}
use Rattle.cam_event.specs.ByDeltas.{as_carried}
use Rattle.cam_runs.specs.Playing.{is_stop_of}
use Rattle.cam_gen.specs.Storms.{Words}
use Rattle.cam_storm.specs.Own.{own_step}
use Rattle.cam_storm_node.specs.Asking.{IsKept, is_any_crash}
use Rattle.cam_storm_node.specs.Works.{HaveBodies}
use Rattle.cam_storm_node.proofs.works.Works.take_in.Goals as goal

pub returns-clause-seen : goal.returns-clause-seen
returns-clause-seen c words own mail load is has = record {
  words_are = c.take_deeds.ensures.storm ∙ has.words_are;
  bodies =
      subst (λ (w : Words). HaveBodies w c.take_deeds.new.self.works) has.words_are
      (c.in_ok-take_deeds.ensures.bodies
      (subst (λ (w : Words). HaveBodies w c.args.self.now.works) (sym has.words_are)
      has.bodies));
  views = λ a named.
      c.in_ok-take_deeds.ensures.views mail a is named
      ∙ ap (λ xs. xs ++ flat_map (own_step mail a) c.args.event.now.deeds) (has.views a named);
  stopped = λ a.
      c.in_ok-note_stop.ensures.stopped a
      ∙ ap (λ b. is_stop_of a c.args.event.now || b)
      (ap (λ s. contains name_cmp s a) c.take_deeds.ensures.stopped ∙ has.stopped a);
}

pub returns-clause-asked : goal.returns-clause-asked
returns-clause-asked c s own k is ends asked a named free may made ask =
    let event = c.args.event.now in
    let same : k.event ≡ event = is in
    let before : contains name_cmp c.take_deeds.new.self.stopped a ≡ false =
    (or_parts (is_stop_of a event) (contains name_cmp c.take_deeds.new.self.stopped a)
    (sym (c.in_ok-note_stop.ensures.stopped a) ∙ free)).1 in
    let kept : IsKept s (after (deeds_of (map as_carried own)) event.deeds)
    c.take_deeds.new.self.works c.take_deeds.new.self.asking a =
    c.in_ok-take_deeds.ensures.asking s (deeds_of (map as_carried own)) a named
    (asked a named
    (sym (ap (λ (stops : BTreeSet Name). contains name_cmp stops a) c.take_deeds.ensures.stopped)
    ∙ before)) in
    elim (cases_Bool (list_any is_any_crash event.deeds)) [
      | inl crash ↦
          absurd (ends (ap (λ (e : Event). list_any is_any_crash e.deeds) same ∙ crash) a may made)
      | inr none ↦
          ap (λ (kept : BTreeSet Name). contains name_cmp kept a) (c.forget_ended.ensures none)
          ∙ c.in_ok-note_stop.ensures.asking a free
          ∙ subst
          (λ (e : Event).
          IsKept s (after (deeds_of (map as_carried own)) e.deeds)
          c.take_deeds.new.self.works c.take_deeds.new.self.asking a) (sym same) kept may made ask
    ]
