-- A node to which nothing has happened stands for the history without an event.
use Rattle.std.proofs.Common.{◌≡◌, ℕ, Bool, true, false, true≢false, ◌&&◌, List, [], ◌∷◌, Option, IfSome, replicate, refl, sym, ap, ◌∙◌, subst, arith}
use Rattle.std.specs.Prelude.{option_map, is_some}
use Rattle.std.specs.List.{list_any}
use Rattle.std.specs.Option.{option_map_or}
use Rattle.std.proofs.lemmas.Bool.{or_left}
use Rattle.cam_names.specs.declared.name.Name.{Name}
use Rattle.cam_names.specs.Names.{name_eq, is_child}
use Rattle.cam_names.proofs.Names.{name_eq_refl}
use Rattle.cam_type.specs.declared.ObjectDecl.{ObjectDecl}
use Rattle.cam_know.specs.Knowledge.{Knowledge}
use Rattle.cam_know.specs.Known.{nothing}
use Rattle.cam_event.specs.Live.{site_of}
use Rattle.cam_event.specs.Loads.{PlacesFields, no_places}
use Rattle.cam_tranman.specs.declared.action.Action.{Action}
use Rattle.cam_tranman.specs.declared.call.OpenCall.{OpenCall}
use Rattle.cam_tranman.specs.Actions.{Actions, RunsActions}
use Rattle.cam_tranman.specs.Calls.{AreSame, none_run}
use Rattle.cam_commit.specs.Families.{Families}
use Rattle.cam_commit.specs.Calls.{AreNone}
use Rattle.cam_locks.specs.Site.{Site}
use Rattle.cam_locks.specs.Names.{has_name}
use Rattle.cam_locks.specs.Calls.{new_site}
use Rattle.cam_server.specs.Server.{Server, IsSiteOf}
use Rattle.cam_server.specs.Calls.{IsNew}
use Rattle.cam_node.specs.Represents.{Represents}

-- Where no name is among some names there are none.
none_there : (names : List Name) → ((b : Name) → list_any (name_eq b) names ≡ false) → names ≡ []
none_there [] none = refl
none_there (a ∷ names) none = absurd (true≢false (sym (or_left (name_eq a a) (list_any (name_eq a) names) (name_eq_refl a)) ∙ none a))

and_none : (a b : Bool) → b ≡ false → (a && b) ≡ false
and_none true b h = h
and_none false b h = refl

runs_none : (objects : List ObjectDecl) (s : ℕ) (actions : Actions) → AreSame (none_run s 1) actions → RunsActions objects s [] actions
runs_none objects s actions same = record {
  node = same.node;
  count = same.count;
  tops = same.tops;
  created = λ a here. ap (λ (o : Option Action). is_some o) (same.action a);
  ended = λ a here. ap (λ (o : Option Action). option_map_or (λ kept. kept.ended) o false) (same.action a);
  asks = λ a here. ap (λ (o : Option Action). option_map_or (λ kept. kept.asks) o 0) (same.action a);
  calls = λ a here. ap (λ (o : Option Action). option_map_or (λ kept. kept.calls) o 0) (same.action a);
  open_call = λ a here. ap (λ (o : Option OpenCall). option_map (λ call. call.number) o) (same.call a);
  open_address = λ a n here opened. cc;
  open_site = λ a here. subst (λ (o : Option OpenCall). IfSome o (λ call. call.site ≡ site_of objects call.object)) (sym (same.call a)) tt;
  open_child = λ a b here. and_none (is_child a b) (list_any (name_eq b) actions.children) (same.children b);
  any_open_child = λ a here. ap (λ (names : List Name). list_any (is_child a) names) (none_there actions.children same.children);
  deps = λ a here. ap (λ (o : Option Action). option_map_or (λ kept. kept.deps) o (replicate 8 0)) (same.action a);
}

pub founded : (objects : List ObjectDecl) (s : ℕ) (know : Knowledge) (places : PlacesFields) (actions : Actions) (families : Families) (server : Server)
    → know ≡ nothing → places ≡ no_places → AreSame (none_run s 1) actions → AreNone families → IsNew 1 (new_site objects s) server
    → Represents objects [] (record { number = s; count = 1; know = know; places = places; actions = actions; families = families; server = server })
founded objects s know places actions families server known noted runs commits serves = record {
  own_count = refl;
  knowledge = known;
  places = noted;
  runs = runs_none objects s actions runs;
  commits = record { preparing = λ f undecided. commits.preparing f; voted = λ f m c undecided. commits.votes f m c; secured = λ f undecided. commits.secured f };
  serves = record {
    count_is = serves.count_is;
    replies = λ a n. serves.replies a n;
    site = subst (λ (st : Site). IsSiteOf objects s [] st) (sym serves.site_is) (record { objects_are = refl; node = refl; operations = tt; order = omega arith });
    commits = λ u. ap (λ (st : Site). has_name st.committed u) serves.site_is;
  };
}
