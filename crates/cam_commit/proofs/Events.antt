-- Over one more event the families go on answering as the history does.
use Rattle.std.proofs.Common.{◌≡◌, ℕ, eqb, Bool, true, false, ◌&&◌, ◌||◌, if◌then◌else◌, List, [], ◌∷◌, ◌++◌, map, Option, Some, None, sym, ap, ◌∙◌, refl}
use Rattle.std.specs.Prelude.{is_some, unwrap_or, option_map}
use Rattle.std.specs.List.{list_any}
use Rattle.std.proofs.lemmas.Bool.{true≢false}
use Rattle.cam_names.specs.Dependencies.{has_pair}
use Rattle.cam_event.specs.History.{is_secure_at}
use Rattle.cam_event.specs.Sights.{votes, is_preparing_note, yes_for}
use Rattle.cam_event.specs.Carried.{entry_of, deeds_of}
use Rattle.cam_event.proofs.Agree.{any_after}
use Rattle.cam_commit.specs.Events.{is_restart, KeepsOverEvent}
use Rattle.cam_commit.proofs.Knowing.{was_undecided}

pub pairs_append : (xs ys : List (ℕ × ℕ)) (m n : ℕ) → has_pair (xs ++ ys) m n ≡ (has_pair xs m n || has_pair ys m n)
pairs_append [] ys m n = refl
pairs_append (x ∷ xs) ys m n = ap (λ b. (eqb x.0 m && eqb x.1 n) || b) (pairs_append xs ys m n) ∙ by (eqb x.0 m && eqb x.1 n) (has_pair xs m n) (has_pair ys m n)
  where
    by : (a b c : Bool) → (a || (b || c)) ≡ ((a || b) || c)
    by true b c = refl
    by false b c = refl

-- the votes after an event, by those before it
abbrev pub votes_then : Bool → Bool → List (ℕ × ℕ) → Option (List (ℕ × ℕ)) → Option (List (ℕ × ℕ))
votes_then restart begins agreed before = if restart then None else if begins then Some [] else option_map (λ earlier. agreed ++ earlier) before

-- whether a family is preparing after it
preparing_then : (restart begins : Bool) (agreed : List (ℕ × ℕ)) (before : Option (List (ℕ × ℕ))) (old : Bool) → restart ≡ false → old ≡ is_some before
    → (begins || old) ≡ is_some (votes_then restart begins agreed before)
preparing_then true begins agreed before old none is = cc
preparing_then false true agreed before old none is = refl
preparing_then false false agreed None old none is = is
preparing_then false false agreed (Some vs) old none is = is

-- and which votes it has
voted_then : (restart begins : Bool) (agreed : List (ℕ × ℕ)) (before : Option (List (ℕ × ℕ))) (old had : Bool) (m n : ℕ) → restart ≡ false
    → old ≡ is_some before → (begins ≡ true → old ≡ false) → had ≡ has_pair (unwrap_or before []) m n
    → ((old && has_pair agreed m n) || had) ≡ has_pair (unwrap_or (votes_then restart begins agreed before) []) m n
voted_then true begins agreed before old had m n none is fresh was = cc
voted_then false true agreed before true had m n none is fresh was = absurd (true≢false (fresh refl))
voted_then false true agreed None false had m n none is fresh was = was
voted_then false true agreed (Some vs) false had m n none is fresh was = cc
voted_then false false agreed None true had m n none is fresh was = cc
voted_then false false agreed None false had m n none is fresh was = was
voted_then false false agreed (Some vs) false had m n none is fresh was = cc
voted_then false false agreed (Some vs) true had m n none is fresh was = ap (λ b. has_pair agreed m n || b) was ∙ sym (pairs_append agreed vs m n)

pub keeps_over_event : KeepsOverEvent
keeps_over_event objects s before c old new no_restart follows commits =
    record {
      preparing = λ f undecided.
          follows.preparing f undecided
          ∙ preparing_then (is_restart c) (is_preparing_note f c.event.note) (yes_for f c.mail) (votes (map entry_of before) f) (old.is_preparing f) no_restart
          (commits.preparing f (was_undecided objects before c f undecided));
      voted = λ f m n undecided.
          follows.votes f m n undecided
          ∙ voted_then (is_restart c) (is_preparing_note f c.event.note) (yes_for f c.mail) (votes (map entry_of before) f) (old.is_preparing f) (old.has_vote f m n) m n no_restart
          (commits.preparing f (was_undecided objects before c f undecided)) (follows.begins f undecided)
          (commits.voted f m n (was_undecided objects before c f undecided));
      secured = λ f undecided.
          follows.secured f undecided
          ∙ ap (λ b. list_any (is_secure_at f s) c.event.deeds || b) (commits.secured f (was_undecided objects before c f undecided))
          ∙ sym (any_after (is_secure_at f s) c.event.deeds (deeds_of before));
    }
