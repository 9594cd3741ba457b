-- One more cut that is tried.
use Rattle.std.proofs.Common.{◌≡◌, ◌≤◌, ◌<◌, ℕ, Bool, not, List, [], ◌∷◌, ◌++◌, length, take, get_or, ◌+◌, refl, sym, ap, ◌∙◌, subst, inl, inr, arith}
use Rattle.std.proofs.lemmas.List.{take_more}
use Rattle.cam_shrink.specs.Cuts.{is_cut, without}
use Rattle.cam_shrink.specs.Least.{IsNeeded, EachIsNeeded, IsTaken, IsTried, IsRound}
use Rattle.cam_shrink.proofs.Filters.{filter_same, part_part, part_whole}

pub each_more : (answers : List ℕ → Bool → Type 0) (kept : List ℕ) (cuts : List (List ℕ)) (cut : List ℕ)
    → EachIsNeeded answers kept cuts → IsNeeded answers kept cut → EachIsNeeded answers kept (cuts ++ cut ∷ [])
each_more answers kept [] cut all one = (one, tt)
each_more answers kept (first ∷ cuts) cut all one = (all.0, each_more answers kept cuts cut all.1 one)

pub each_front : (answers : List ℕ → Bool → Type 0) (kept : List ℕ) (cuts more : List (List ℕ))
    → EachIsNeeded answers kept (cuts ++ more) → EachIsNeeded answers kept cuts
each_front answers kept [] more all = tt
each_front answers kept (cut ∷ cuts) more all = (all.0, each_front answers kept cuts more all.1)

pub each_back : (answers : List ℕ → Bool → Type 0) (kept : List ℕ) (cuts more : List (List ℕ))
    → EachIsNeeded answers kept (cuts ++ more) → EachIsNeeded answers kept more
each_back answers kept [] more all = all
each_back answers kept (cut ∷ cuts) more all = each_back answers kept cuts more all.1

-- before the first cut
pub round_none : (answers : List ℕ → Bool → Type 0) (kept : List ℕ) → IsRound answers [] kept kept
round_none answers kept = record {
  part = part_whole kept;
  passes = λ h. h;
  fewer = omega arith;
  same = λ _. refl;
  least = λ _. tt;
}

-- a cut that stays
round_kept : (answers : List ℕ → Bool → Type 0) (cuts : List (List ℕ)) (cut old mid : List ℕ)
    → IsRound answers cuts old mid → IsNeeded answers mid cut → IsRound answers (cuts ++ cut ∷ []) old mid
round_kept answers cuts cut old mid r need = record {
  part = r.part;
  passes = r.passes;
  fewer = r.fewer;
  same = r.same;
  least = λ e. each_more answers mid cuts cut (r.least e) need;
}

-- a cut that was taken away
round_taken : (answers : List ℕ → Bool → Type 0) (cuts : List (List ℕ)) (cut old mid new : List ℕ)
    → IsRound answers cuts old mid → IsTaken answers cut mid new → IsRound answers (cuts ++ cut ∷ []) old new
round_taken answers cuts cut old mid new r t = record {
  part = part_part new mid old (λ place. not (is_cut cut place), t.left) r.part;
  passes = λ _. t.passes;
  fewer = omega (arith, t.fewer, r.fewer);
  same = λ e. absurd (omega (arith, e, t.fewer, r.fewer));
  least = λ e. absurd (omega (arith, e, t.fewer, r.fewer));
}

pub round_more : (answers : List ℕ → Bool → Type 0) (cuts : List (List ℕ)) (cut old mid new : List ℕ)
    → IsRound answers cuts old mid → IsTried answers cut mid new → IsRound answers (cuts ++ cut ∷ []) old new
round_more answers cuts cut old mid new r (inl kept) =
    let P : List ℕ → Type 0 = λ xs. IsRound answers (cuts ++ cut ∷ []) old xs in
    subst P (sym kept.0) (round_kept answers cuts cut old mid r kept.1)
round_more answers cuts cut old mid new r (inr taken) = round_taken answers cuts cut old mid new r taken

-- the same in a walk over the cuts
pub round_next : (answers : List ℕ → Bool → Type 0) (cuts : List (List ℕ)) (i : ℕ) (cut old mid new : List ℕ)
    → i < length cuts → cut ≡ get_or cuts i cut
    → IsRound answers (take i cuts) old mid → IsTried answers cut mid new → IsRound answers (take (i + 1) cuts) old new
round_next answers cuts i cut old mid new h e r t =
    let P : List (List ℕ) → Type 0 = λ front. IsRound answers front old new in
    subst P (ap (λ one. take i cuts ++ one ∷ []) e ∙ sym (take_more cuts i cut h))
    (round_more answers (take i cuts) cut old mid new r t)

-- nothing of a cut is kept, if what is left without it is as long
pub nothing_cut : (answers : List ℕ → Bool → Type 0) (cut kept left : List ℕ)
    → left ≡ without cut kept → length kept ≤ length left → IsNeeded answers kept cut
nothing_cut answers cut kept left e h =
    inl (filter_same (λ place. not (is_cut cut place)) kept (omega (arith, h, ap length e)))

pub front_is_needed : (answers : List ℕ → Bool → Type 0) (kept : List ℕ) (cuts front back : List (List ℕ))
    → cuts ≡ front ++ back → EachIsNeeded answers kept cuts → EachIsNeeded answers kept front
front_is_needed answers kept cuts front back e all =
    let P : List (List ℕ) → Type 0 = λ xs. EachIsNeeded answers kept xs in
    each_front answers kept front back (subst P e all)

pub back_is_needed : (answers : List ℕ → Bool → Type 0) (kept : List ℕ) (cuts front back : List (List ℕ))
    → cuts ≡ front ++ back → EachIsNeeded answers kept cuts → EachIsNeeded answers kept back
back_is_needed answers kept cuts front back e all =
    let P : List (List ℕ) → Type 0 = λ xs. EachIsNeeded answers kept xs in
    each_back answers kept front back (subst P e all)
