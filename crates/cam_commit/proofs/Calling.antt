-- By kind of event: what each call of the families does is what the event makes of them.
use Rattle.std.proofs.Common.{◌≡◌, ℕ, eqb, Bool, true, false, ◌&&◌, ◌||◌, if◌then◌else◌, [], ◌∷◌, Option, sym, ap, ap₂, subst, ◌∙◌, refl}
use Rattle.std.specs.List.{list_any}
use Rattle.std.proofs.lemmas.Bool.{true≢false}
use Rattle.cam_names.specs.declared.name.Name.{Name}
use Rattle.cam_names.specs.Names.{name_eq}
use Rattle.cam_names.specs.Dependencies.{has_pair}
use Rattle.cam_names.proofs.Names.{name_eq_same, name_eq_sym}
use Rattle.cam_event.specs.declared.Body.{Body}
use Rattle.cam_event.specs.declared.Body.TheVariants as bodies
use Rattle.cam_event.specs.History.{is_secure_at}
use Rattle.cam_event.specs.Inputs.{Mail}
use Rattle.cam_event.specs.Sights.{is_preparing_note, yes_in, yes_for}
use Rattle.cam_commit.specs.Families.{IsUndecided}
use Rattle.cam_commit.specs.Calls.{ends}
use Rattle.cam_commit.specs.Events.{QuietKeeps, PrepareKeeps, VoteKeeps, SecureKeeps}
use Rattle.cam_commit.proofs.Knowing.{is_now_decided}
use Rattle.cam_commit.proofs.Events.{keeps_over_event}

none_counted : (p a had : Bool) → (p ≡ true → a ≡ false) → had ≡ ((p && a) || had)
none_counted false a had none = refl
none_counted true false had none = refl
none_counted true true had none = absurd (true≢false (none refl))

never : (b old : Bool) → b ≡ false → b ≡ true → old ≡ false
never b old not_so is = absurd (true≢false (sym is ∙ not_so))

or_none : (a b : Bool) → a ≡ false → b ≡ (a || b)
or_none false b none = refl
or_none true b none = cc

pub quiet_keeps : QuietKeeps
quiet_keeps objects s before c old new quiet same =
    keeps_over_event objects s before c old new quiet.no_restart
    (record {
      begins = λ f undecided note. never (is_preparing_note f c.event.note) (old.is_preparing f) (quiet.begins f) note;
      preparing = λ f undecided. same.preparing f ∙ or_none (is_preparing_note f c.event.note) (old.is_preparing f) (quiet.begins f);
      votes = λ f m n undecided.
          same.votes f m n ∙ none_counted (old.is_preparing f) (has_pair (yes_for f c.mail) m n) (old.has_vote f m n) (quiet.counts f m n undecided);
      secured = λ f undecided. same.secured f ∙ or_none (list_any (is_secure_at f s) c.event.deeds) (old.is_secured f) (quiet.secures f);
    })

pub secure_keeps : SecureKeeps
secure_keeps objects s before c f old new securing secured =
    keeps_over_event objects s before c old new securing.no_restart
    (record {
      begins = λ g undecided note. never (is_preparing_note g c.event.note) (old.is_preparing g) (securing.begins g) note;
      preparing = λ g undecided. secured.preparing g ∙ or_none (is_preparing_note g c.event.note) (old.is_preparing g) (securing.begins g);
      votes = λ g m n undecided.
          secured.votes g m n ∙ none_counted (old.is_preparing g) (has_pair (yes_for g c.mail) m n) (old.has_vote g m n) (securing.counts g m n undecided);
      secured = λ g undecided. secured.secured g ∙ ap (λ b. b || old.is_secured g) (sym (securing.secures g));
    })

pub prepare_keeps : PrepareKeeps
prepare_keeps objects s before c f old new beginning prepared =
    keeps_over_event objects s before c old new beginning.no_restart
    (record {
      begins = λ g undecided note.
          subst (λ (h : Name). old.is_preparing h ≡ false) (name_eq_same f g (sym (beginning.note g) ∙ note)) beginning.fresh;
      preparing = λ g undecided. prepared.preparing g ∙ ap (λ b. b || old.is_preparing g) (sym (beginning.note g));
      votes = λ g m n undecided.
          prepared.votes g m n ∙ none_counted (old.is_preparing g) (has_pair (yes_for g c.mail) m n) (old.has_vote g m n) (λ p. beginning.no_vote g m n);
      secured = λ g undecided. prepared.secured g ∙ or_none (list_any (is_secure_at g s) c.event.deeds) (old.is_secured g) (beginning.secures g);
    })

or_false : (b : Bool) → (b || false) ≡ b
or_false true = refl
or_false false = refl

-- the pairs of a vote, for its own family and for others
pub vote_pair : (f g : Name) (from n m k : ℕ) (agrees here : Bool) → name_eq f g ≡ here
    → has_pair (yes_in g from (bodies.Vote f n agrees)) m k ≡ (agrees && (here && (eqb from m && eqb n k)))
vote_pair f g from n m k false here is = refl
vote_pair f g from n m k true here is = by (name_eq g f) here (name_eq_sym g f ∙ is)
  where
    by : (b here : Bool) → b ≡ here → has_pair (if b then (from, n) ∷ [] else []) m k ≡ (here && (eqb from m && eqb n k))
    by true true is = or_false (eqb from m && eqb n k)
    by false false is = refl
    by true false is = cc
    by false true is = cc

counts_nothing : (p a q : Bool) → (p && (a && false)) ≡ (q && (a && false))
counts_nothing true true true = refl
counts_nothing true true false = refl
counts_nothing true false true = refl
counts_nothing true false false = refl
counts_nothing false true true = refl
counts_nothing false true false = refl
counts_nothing false false true = refl
counts_nothing false false false = refl

pub vote_keeps : VoteKeeps
vote_keeps objects s before c f from n agrees result old new voting voted =
    keeps_over_event objects s before c old new voting.no_restart
    (record {
      begins = λ g undecided note. never (is_preparing_note g c.event.note) (old.is_preparing g) (voting.begins g) note;
      preparing = λ g undecided.
          voted.preparing g ∙ kept g undecided (ends result) refl (name_eq f g) refl
          ∙ or_none (is_preparing_note g c.event.note) (old.is_preparing g) (voting.begins g);
      votes = λ g m k undecided. voted.votes g m k ∙ ap (λ b. b || old.has_vote g m k) (counted g m k (name_eq f g) refl);
      secured = λ g undecided. voted.secured g ∙ or_none (list_any (is_secure_at g s) c.event.deeds) (old.is_secured g) (voting.secures g);
    })
  where
    kept : (g : Name) → IsUndecided objects (c ∷ before) g → (e : Bool) → ends result ≡ e → (here : Bool) → name_eq f g ≡ here
        → (if e && here then false else old.is_preparing g) ≡ old.is_preparing g
    kept g undecided false is here at = refl
    kept g undecided true is false at = refl
    kept g undecided true is true at =
        absurd (is_now_decided objects before c f (voting.decides is) (subst (λ (h : Name). IsUndecided objects (c ∷ before) h) (sym (name_eq_same f g at)) undecided))

    of_mail : (g : Name) (m k : ℕ) → has_pair (yes_for g c.mail) m k ≡ has_pair (yes_in g from (bodies.Vote f n agrees)) m k
    of_mail g m k =
        let mail = voting.vote.0 in
        ap (λ (o : Option Mail). has_pair (yes_for g o) m k) voting.vote.1
        ∙ ap (λ (r : ℕ). has_pair (yes_in g r mail.body) m k) voting.vote.2
        ∙ ap (λ (b : Body). has_pair (yes_in g from b) m k) voting.vote.3

    counted : (g : Name) (m k : ℕ) (here : Bool) → name_eq f g ≡ here
        → (old.is_preparing f && (agrees && (name_eq f g && (eqb from m && eqb n k)))) ≡ (old.is_preparing g && has_pair (yes_for g c.mail) m k)
    counted g m k true at =
        ap₂ (λ p a. p && a) (ap (λ (h : Name). old.is_preparing h) (name_eq_same f g at)) (sym (of_mail g m k ∙ vote_pair f g from n m k agrees (name_eq f g) refl))
    counted g m k false at =
        ap (λ b. old.is_preparing f && (agrees && (b && (eqb from m && eqb n k)))) at ∙ counts_nothing (old.is_preparing f) agrees (old.is_preparing g)
        ∙ sym (ap (λ b. old.is_preparing g && b) (of_mail g m k ∙ vote_pair f g from n m k agrees false at))
