-- The live operations of a site by the definition are its own standing operations that are not dropped.
use Rattle.std.proofs.Common.{◌≡◌, cond, ℕ, Bool, true, false, not, ◌||◌, List, [], ◌∷◌, ◌++◌, map, filter, Option, inl, inr, refl, sym, ap, ◌∙◌, subst}
use Rattle.std.specs.List.{list_any}
use Rattle.std.proofs.lemmas.Bool.{eq-eqb, eqb-true}
use Rattle.std.proofs.lemmas.List.Elements.{filter-append}
use Rattle.cam_names.specs.declared.name.Name.{Name}
use Rattle.cam_names.specs.Names.{ancestors, family}
use Rattle.cam_type.specs.declared.ObjectDecl.{ObjectDecl}
use Rattle.cam_event.specs.declared.Operation.{Operation}
use Rattle.cam_event.specs.declared.Deed.{Deed}
use Rattle.cam_event.specs.declared.Deed.TheVariants.{Create, Ask, Call, Perform, Bounce, Got, AskCommit, AskAbort, Commit, Abort, Secure, Inform, Crash}
use Rattle.cam_event.specs.History.{informed, secured_at, number_of, Addressed, call_of}
use Rattle.cam_event.specs.Live.{site_of, of_call, is_kept, is_dropped, surviving, live_at}
use Rattle.cam_event.specs.HeldSites.{Placed, is_any_perform}
use Rattle.cam_names.proofs.Every.{Every, every_weaker, every_any}
use Rattle.cam_cut.proofs.Places.{PlacedDeeds}
use Rattle.cam_cut.proofs.SiteFacts.{surviving_in, at_site, SiteAgrees}
use Rattle.std.proofs.lemmas.List.{map-append}
use Rattle.cam_cut.proofs.Lists.{filter_swap}
use Rattle.cam_agree.proofs.LiveLists.{filter_each, filter_map, every_kept, any_each}
use Rattle.cam_agree.proofs.LiveStands.{standing, alive}
use Rattle.cam_agree.proofs.LiveStep.{placed}

abbrev pub operation : Placed → Operation
operation p = p.operation

-- what passes a test, of those that pass another
each_here : (test : Operation → Bool) (os : List Operation) → Every (λ o. test o ≡ true) (filter test os)
each_here test os = every_weaker (λ o. Unit {0} × (test o ≡ true)) (λ o. test o ≡ true) (filter test os) (λ o k. k.1) (every_kept test (λ o. Unit {0}) os (every_any (λ (o : Operation). Unit {0}) os (λ o. tt)))

-- the standing operations are the surviving ones of the site
pub standing_here : (objects : List ObjectDecl) (H L : List Deed) (s : ℕ) → PlacedDeeds objects H s L → filter (at_site objects s) (surviving_in objects H L) ≡ map operation (standing H L s)
standing_here objects H [] s placed_here = refl
standing_here objects H (Perform a n answer ∷ L) s placed_here =
    filter-append (at_site objects s) (surviving_in objects H L) (of_call a n answer (call_of H a n))
    ∙ (λ i. standing_here objects H L s (λ d k. placed_here d (inr k)) i ++ one i)
    ∙ sym (map-append operation (standing H L s) (map (placed (number_of is_any_perform L)) (of_call a n answer (call_of H a n))))
  where
    one : filter (at_site objects s) (of_call a n answer (call_of H a n)) ≡ map operation (map (placed (number_of is_any_perform L)) (of_call a n answer (call_of H a n)))
    one =
        let call = placed_here (Perform a n answer) (inl refl) in
        subst (λ (c : Option Addressed). filter (at_site objects s) (of_call a n answer c) ≡ map operation (map (placed (number_of is_any_perform L)) (of_call a n answer c))) (sym call.1)
        (ap (λ b. cond b (record { action = a; number = n; object = call.0.object; op = call.0.op; answer = answer } ∷ []) []) (eq-eqb (site_of objects call.0.object) s call.2))
standing_here objects H (Crash r ∷ L) s placed_here =
    filter_swap (at_site objects s) (is_kept objects L r) (surviving_in objects H L)
    ∙ filter_each (is_kept objects L r) (λ o. secured_at L (family o.action) s) (filter (at_site objects s) (surviving_in objects H L))
    (every_weaker (λ o. at_site objects s o ≡ true) (λ o. is_kept objects L r o ≡ secured_at L (family o.action) s) (filter (at_site objects s) (surviving_in objects H L)) same (each_here (at_site objects s) (surviving_in objects H L)))
    ∙ ap (filter (λ o. secured_at L (family o.action) s)) (standing_here objects H L s (λ d k. placed_here d (inr k)))
    ∙ filter_map (λ o. secured_at L (family o.action) s) operation (standing H L s)
  where
    same : (o : Operation) → at_site objects s o ≡ true → is_kept objects L r o ≡ secured_at L (family o.action) s
    same o h =
        let here : r ≡ s = placed_here (Crash r) (inl refl) in
        subst (λ (x : ℕ). is_kept objects L x o ≡ secured_at L (family o.action) s) (sym here) (ap (λ b. not b || secured_at L (family o.action) s) h)
standing_here objects H (Create a ∷ L) s placed_here = standing_here objects H L s (λ d k. placed_here d (inr k))
standing_here objects H (Ask a b ∷ L) s placed_here = standing_here objects H L s (λ d k. placed_here d (inr k))
standing_here objects H (Call a n x op c ∷ L) s placed_here = standing_here objects H L s (λ d k. placed_here d (inr k))
standing_here objects H (Bounce a n u ∷ L) s placed_here = standing_here objects H L s (λ d k. placed_here d (inr k))
standing_here objects H (Got a n seen ∷ L) s placed_here = standing_here objects H L s (λ d k. placed_here d (inr k))
standing_here objects H (AskCommit a v ∷ L) s placed_here = standing_here objects H L s (λ d k. placed_here d (inr k))
standing_here objects H (AskAbort a ∷ L) s placed_here = standing_here objects H L s (λ d k. placed_here d (inr k))
standing_here objects H (Commit a ∷ L) s placed_here = standing_here objects H L s (λ d k. placed_here d (inr k))
standing_here objects H (Abort a ∷ L) s placed_here = standing_here objects H L s (λ d k. placed_here d (inr k))
standing_here objects H (Secure f x c ∷ L) s placed_here = standing_here objects H L s (λ d k. placed_here d (inr k))
standing_here objects H (Inform x u o ∷ L) s placed_here = standing_here objects H L s (λ d k. placed_here d (inr k))

-- So the live operations of the site, by a history M that agrees with the site's own deeds L on it, are those of L that stand and are not dropped.
pub live_standing : (objects : List ObjectDecl) (H L M : List Deed) (s : ℕ) → PlacedDeeds objects H s L → surviving objects M ≡ surviving_in objects H M → SiteAgrees objects H s L M → ((u : Name) → informed L s u false ≡ informed M s u false)
    → live_at objects M s ≡ map operation (alive (λ u. informed L s u false) (standing H L s))
live_standing objects H L M s placed_here one agree told =
    filter_swap (at_site objects s) (λ o. not (is_dropped objects M o)) (surviving objects M)
    ∙ ap (filter (λ o. not (is_dropped objects M o))) (ap (filter (at_site objects s)) one ∙ sym agree.0)
    ∙ filter_each (λ o. not (is_dropped objects M o)) (λ o. not (list_any (λ u. informed L s u false) (ancestors o.action))) (filter (at_site objects s) (surviving_in objects H L))
    (every_weaker (λ o. at_site objects s o ≡ true) (λ o. not (is_dropped objects M o) ≡ not (list_any (λ u. informed L s u false) (ancestors o.action))) (filter (at_site objects s) (surviving_in objects H L)) same (each_here (at_site objects s) (surviving_in objects H L)))
    ∙ ap (filter (λ o. not (list_any (λ u. informed L s u false) (ancestors o.action)))) (standing_here objects H L s placed_here)
    ∙ filter_map (λ o. not (list_any (λ u. informed L s u false) (ancestors o.action))) operation (standing H L s)
  where
    same : (o : Operation) → at_site objects s o ≡ true → not (is_dropped objects M o) ≡ not (list_any (λ u. informed L s u false) (ancestors o.action))
    same o h =
        let here : site_of objects o.object ≡ s = eqb-true (site_of objects o.object) s h in
        ap not (ap (λ (r : ℕ). list_any (λ u. informed M r u false) (ancestors o.action)) here ∙ any_each (λ u. informed M s u false) (λ u. informed L s u false) (ancestors o.action) (λ u. sym (told u)))
