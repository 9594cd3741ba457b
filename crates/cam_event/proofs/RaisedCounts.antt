-- Crashes alone raise counts, each that of its node.
use Rattle.std.proofs.Common.{◌≡◌, inl, inr, ℕ, ◌≤◌, eqb, Bool, true, false, ◌||◌, if◌then◌else◌, List, [], ◌∷◌, Option, refl, sym, ap, ◌∙◌, arith, subst}
use Rattle.std.specs.Prelude.{max, map}
use Rattle.std.specs.List.{list_any}
use Rattle.std.proofs.lemmas.Bool.{eq-eqb, true≢false}
use Rattle.std.proofs.lemmas.Bool.Decides.{eqb_tells}
use Rattle.cam_type.specs.declared.ObjectDecl.{ObjectDecl}
use Rattle.cam_know.specs.declared.Outcome.TheVariants.{Aborted, Committed}
use Rattle.cam_know.specs.Knowledge.{Knowledge}
use Rattle.cam_know.specs.Known.{with_outcome, counts_raised}
use Rattle.cam_event.specs.declared.Deed.{Deed}
use Rattle.cam_event.specs.declared.Deed.TheVariants.{Create, Ask, Call, Perform, Bounce, Got, AskCommit, AskAbort, Commit, Abort, Secure, Inform, Crash}
use Rattle.cam_event.specs.History.{count, is_crash}
use Rattle.cam_event.specs.Inputs.{Mail}
use Rattle.cam_event.specs.ByKnowledge.{commit_counts, learned_by}
use Rattle.cam_event.specs.Carried.{Carried}

abbrev pub nodes : List ℕ
nodes = 1 ∷ 2 ∷ 3 ∷ 4 ∷ 5 ∷ 6 ∷ 7 ∷ 8 ∷ []

abbrev pub counts_of : List Deed → List ℕ
counts_of L = map (count L) nodes

-- learning outcomes leaves the counts
abbrev NoCrash : List Deed → Type 0
NoCrash ds = (m : ℕ) → list_any (is_crash m) ds ≡ false

no_more : (d : Deed) (ds : List Deed) → NoCrash (d ∷ ds) → NoCrash ds
no_more d ds none m = rest (is_crash m d) (list_any (is_crash m) ds) (none m)
  where
    rest : (a b : Bool) → (a || b) ≡ false → b ≡ false
    rest true b h = cc
    rest false b h = h

pub learned_counts : (objects : List ObjectDecl) (before : List Carried) (mail : Option Mail) (k : Knowledge) (ds : List Deed) → NoCrash ds → (learned_by objects before mail k ds).counts ≡ k.counts
learned_counts objects before mail k [] none = refl
learned_counts objects before mail k (Commit a ∷ ds) none = learned_counts objects before mail (with_outcome (Committed a (commit_counts objects before mail a)) k) ds (no_more (Commit a) ds none)
learned_counts objects before mail k (Abort a ∷ ds) none = learned_counts objects before mail (with_outcome (Aborted a) k) ds (no_more (Abort a) ds none)
learned_counts objects before mail k (Crash s ∷ ds) none =
    let same : eqb s s ≡ true = eq-eqb s s refl in
    absurd (true≢false (sym (ap (λ b. b || list_any (is_crash s) ds) same) ∙ none s))
learned_counts objects before mail k (Create a ∷ ds) none = learned_counts objects before mail k ds (no_more (Create a) ds none)
learned_counts objects before mail k (Ask a b ∷ ds) none = learned_counts objects before mail k ds (no_more (Ask a b) ds none)
learned_counts objects before mail k (Call a n x op c ∷ ds) none = learned_counts objects before mail k ds (no_more (Call a n x op c) ds none)
learned_counts objects before mail k (Perform a n answer ∷ ds) none = learned_counts objects before mail k ds (no_more (Perform a n answer) ds none)
learned_counts objects before mail k (Bounce a n u ∷ ds) none = learned_counts objects before mail k ds (no_more (Bounce a n u) ds none)
learned_counts objects before mail k (Got a n seen ∷ ds) none = learned_counts objects before mail k ds (no_more (Got a n seen) ds none)
learned_counts objects before mail k (AskCommit a v ∷ ds) none = learned_counts objects before mail k ds (no_more (AskCommit a v) ds none)
learned_counts objects before mail k (AskAbort a ∷ ds) none = learned_counts objects before mail k ds (no_more (AskAbort a) ds none)
learned_counts objects before mail k (Secure f s c ∷ ds) none = learned_counts objects before mail k ds (no_more (Secure f s c) ds none)
learned_counts objects before mail k (Inform s a outcome ∷ ds) none = learned_counts objects before mail k ds (no_more (Inform s a outcome) ds none)

-- a raised count among eight
abbrev pub raised_at : (ℕ → ℕ) → ℕ → ℕ → ℕ → ℕ
raised_at f s c n = if eqb n s then max (f s) c else f n

pub raised_map : (f : ℕ → ℕ) (s c : ℕ) → 1 ≤ s → s ≤ 8 → counts_raised (map f nodes) s c ≡ map (raised_at f s c) nodes
raised_map f s c low high =
    elim (eqb_tells s 1) [
      | inl y1 ↦ subst (λ n. counts_raised (map f nodes) n c ≡ map (raised_at f n c) nodes) (sym y1.1) refl
      | inr n1 ↦
          elim (eqb_tells s 2) [
            | inl y2 ↦ subst (λ n. counts_raised (map f nodes) n c ≡ map (raised_at f n c) nodes) (sym y2.1) refl
            | inr n2 ↦
                elim (eqb_tells s 3) [
                  | inl y3 ↦ subst (λ n. counts_raised (map f nodes) n c ≡ map (raised_at f n c) nodes) (sym y3.1) refl
                  | inr n3 ↦
                      elim (eqb_tells s 4) [
                        | inl y4 ↦ subst (λ n. counts_raised (map f nodes) n c ≡ map (raised_at f n c) nodes) (sym y4.1) refl
                        | inr n4 ↦
                            elim (eqb_tells s 5) [
                              | inl y5 ↦ subst (λ n. counts_raised (map f nodes) n c ≡ map (raised_at f n c) nodes) (sym y5.1) refl
                              | inr n5 ↦
                                  elim (eqb_tells s 6) [
                                    | inl y6 ↦ subst (λ n. counts_raised (map f nodes) n c ≡ map (raised_at f n c) nodes) (sym y6.1) refl
                                    | inr n6 ↦
                                        elim (eqb_tells s 7) [
                                          | inl y7 ↦ subst (λ n. counts_raised (map f nodes) n c ≡ map (raised_at f n c) nodes) (sym y7.1) refl
                                          | inr n7 ↦
                                              elim (eqb_tells s 8) [
                                                | inl y8 ↦ subst (λ n. counts_raised (map f nodes) n c ≡ map (raised_at f n c) nodes) (sym y8.1) refl
                                                | inr n8 ↦ absurd (omega (arith, low, high, n1.1, n2.1, n3.1, n4.1, n5.1, n6.1, n7.1, n8.1))
                                              ]
                                        ]
                                  ]
                            ]
                      ]
                ]
          ]
    ]
