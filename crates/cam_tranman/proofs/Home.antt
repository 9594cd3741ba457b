-- What a history has of the actions at home goes by the deeds that concern them.
use Rattle.std.proofs.Common.{◌≡◌, ℕ, ◌+◌, eqb, Bool, false, not, ◌&&◌, ◌||◌, if◌then◌else◌, List, [], ◌∷◌, ◌++◌, filter, inl, inr, Option, Some, None, refl, sym, ap, ◌∙◌}
use Rattle.std.specs.List.{list_any, flat_map}
use Rattle.std.proofs.lemmas.Bool.{cases_Bool}
use Rattle.cam_names.specs.declared.name.Name.{Name}
use Rattle.cam_names.specs.Names.{name_eq}
use Rattle.cam_type.specs.declared.Answer.{Answer}
use Rattle.cam_event.specs.declared.Deed.{Deed}
use Rattle.cam_event.specs.declared.Deed.TheVariants.{Create, Ask, Call, Perform, Bounce, Got, AskCommit, AskAbort, Commit, Abort, Secure, Inform, Crash}
use Rattle.cam_event.specs.History.{Addressed, after, count, tops, created, asked_commit, asked_abort, asks, calls, open_call, open_children, call_of, is_crash, is_create, is_ask_commit, is_ask_abort, is_ask_of, is_call_of, is_top_create, number_of}
use Rattle.cam_tranman.specs.Events.{is_at_home}

-- a deed that does not concern them is one of four
pub by_other : (P : Deed → Type 0) → ((a : Name) (n : ℕ) (answer : Answer) → P (Perform a n answer)) → ((a : Name) (n : ℕ) (u : Name) → P (Bounce a n u))
    → ((f : Name) (site c : ℕ) → P (Secure f site c)) → ((site : ℕ) (a : Name) (committed : Bool) → P (Inform site a committed))
    → (d : Deed) → is_at_home d ≡ false → P d
by_other P p b s i (Perform a n answer) h = p a n answer
by_other P p b s i (Bounce a n u) h = b a n u
by_other P p b s i (Secure f site c) h = s f site c
by_other P p b s i (Inform site a committed) h = i site a committed
by_other P p b s i (Create a) h = cc
by_other P p b s i (Ask a c) h = cc
by_other P p b s i (Call a n x op c) h = cc
by_other P p b s i (Got a n seen) h = cc
by_other P p b s i (AskCommit a v) h = cc
by_other P p b s i (AskAbort a) h = cc
by_other P p b s i (Commit a) h = cc
by_other P p b s i (Abort a) h = cc
by_other P p b s i (Crash site) h = cc

-- What is told deed by deed, and only by deeds at home, is told by those alone.
pub told_at_home : {X : Type 0} (step : Deed → X → X) (F : List Deed → X) → ((d : Deed) (L : List Deed) → F (d ∷ L) ≡ step d (F L))
    → ((d : Deed) → is_at_home d ≡ false → (x : X) → step d x ≡ x) → (ds L M : List Deed) → F L ≡ F M → F (after L ds) ≡ F (after M (filter is_at_home ds))
told_at_home step F steps other [] L M same = same
told_at_home step F steps other (d ∷ ds) L M same =
    elim (cases_Bool (is_at_home d)) [
      | inl here ↦
          told_at_home step F steps other ds (d ∷ L) (d ∷ M) (steps d L ∙ ap (step d) same ∙ sym (steps d M))
          ∙ ap (λ (t : Bool). F (after M (if t then d ∷ filter is_at_home ds else filter is_at_home ds))) (sym here)
      | inr away ↦
          told_at_home step F steps other ds (d ∷ L) M (steps d L ∙ other d away (F L) ∙ same)
          ∙ ap (λ (t : Bool). F (after M (if t then d ∷ filter is_at_home ds else filter is_at_home ds))) (sym away)
    ]

-- whether a deed passes a test, and how many do
pub any_at_home : (p : Deed → Bool) → ((d : Deed) → is_at_home d ≡ false → p d ≡ false) → (ds L : List Deed)
    → list_any p (after L ds) ≡ list_any p (after L (filter is_at_home ds))
any_at_home p other ds L = told_at_home (λ d b. p d || b) (list_any p) (λ d M. refl) (λ d away x. ap (λ t. t || x) (other d away)) ds L L refl

number_at_home : (p : Deed → Bool) → ((d : Deed) → is_at_home d ≡ false → p d ≡ false) → (ds L : List Deed)
    → number_of p (after L ds) ≡ number_of p (after L (filter is_at_home ds))
number_at_home p other ds L =
    told_at_home (λ d (n : ℕ). if p d then n + 1 else n) (number_of p) (λ d M. refl) (λ d away x. ap (λ (t : Bool). if t then x + 1 else x) (other d away)) ds L L refl

-- the open call, the open children and what a call asked, deed by deed
abbrev call_step : Name → Deed → Option ℕ → Option ℕ
call_step a (Call b n x op c) o = if name_eq a b then Some n else o
call_step a (Got b n seen) o = if name_eq a b then None else o
call_step a _ o = o

call_steps : (a : Name) (d : Deed) (L : List Deed) → open_call (d ∷ L) a ≡ call_step a d (open_call L a)
call_steps a (Create b) L = refl
call_steps a (Ask b c) L = refl
call_steps a (Call b n x op c) L = refl
call_steps a (Perform b n answer) L = refl
call_steps a (Bounce b n u) L = refl
call_steps a (Got b n seen) L = refl
call_steps a (AskCommit b v) L = refl
call_steps a (AskAbort b) L = refl
call_steps a (Commit b) L = refl
call_steps a (Abort b) L = refl
call_steps a (Secure f site c) L = refl
call_steps a (Inform site b committed) L = refl
call_steps a (Crash site) L = refl

abbrev child_step : Name → Deed → List Name → List Name
child_step a (Ask p b) bs = if name_eq a p then b ∷ bs else bs
child_step a (Commit b) bs = filter (λ c. not (name_eq b c)) bs
child_step a (Abort b) bs = filter (λ c. not (name_eq b c)) bs
child_step a _ bs = bs

child_steps : (a : Name) (d : Deed) (L : List Deed) → open_children (d ∷ L) a ≡ child_step a d (open_children L a)
child_steps a (Create b) L = refl
child_steps a (Ask b c) L = refl
child_steps a (Call b n x op c) L = refl
child_steps a (Perform b n answer) L = refl
child_steps a (Bounce b n u) L = refl
child_steps a (Got b n seen) L = refl
child_steps a (AskCommit b v) L = refl
child_steps a (AskAbort b) L = refl
child_steps a (Commit b) L = refl
child_steps a (Abort b) L = refl
child_steps a (Secure f site c) L = refl
child_steps a (Inform site b committed) L = refl
child_steps a (Crash site) L = refl

abbrev asked_step : Name → ℕ → Deed → Option Addressed → Option Addressed
asked_step a n (Call b m x op c) o = if name_eq a b && eqb n m then Some (record { object = x; op = op; count = c }) else o
asked_step a n _ o = o

asked_steps : (a : Name) (n : ℕ) (d : Deed) (L : List Deed) → call_of (d ∷ L) a n ≡ asked_step a n d (call_of L a n)
asked_steps a n (Create b) L = refl
asked_steps a n (Ask b c) L = refl
asked_steps a n (Call b m x op c) L = refl
asked_steps a n (Perform b m answer) L = refl
asked_steps a n (Bounce b m u) L = refl
asked_steps a n (Got b m seen) L = refl
asked_steps a n (AskCommit b v) L = refl
asked_steps a n (AskAbort b) L = refl
asked_steps a n (Commit b) L = refl
asked_steps a n (Abort b) L = refl
asked_steps a n (Secure f site c) L = refl
asked_steps a n (Inform site b committed) L = refl
asked_steps a n (Crash site) L = refl

-- Two histories have the same of the actions at home.
pub record SameHome (L M : List Deed) : Type 0 where
  pub count_is : (s : ℕ) → count M s ≡ count L s
  pub tops_are : (s c : ℕ) → tops M s c ≡ tops L s c
  pub created_is : (a : Name) → created M a ≡ created L a
  pub asked_commit_is : (a : Name) → asked_commit M a ≡ asked_commit L a
  pub asked_abort_is : (a : Name) → asked_abort M a ≡ asked_abort L a
  pub asks_are : (a : Name) → asks M a ≡ asks L a
  pub calls_are : (a : Name) → calls M a ≡ calls L a
  pub open_call_is : (a : Name) → open_call M a ≡ open_call L a
  pub children_are : (a : Name) → open_children M a ≡ open_children L a
  pub call_is : (a : Name) (n : ℕ) → call_of M a n ≡ call_of L a n

pub same_home : (ds L : List Deed) → SameHome (after L (filter is_at_home ds)) (after L ds)
same_home ds L =
    record {
      count_is = λ s.
          told_at_home (λ d (n : ℕ). if is_crash s d then n + 1 else n) (λ K. count K s) (λ d K. refl)
          (λ d away x. ap (λ (t : Bool). if t then x + 1 else x) (by_other (λ e. is_crash s e ≡ false) (λ a n answer. refl) (λ a n u. refl) (λ f site c. refl) (λ site a b. refl) d away)) ds L L refl;
      tops_are = λ s c. number_at_home (is_top_create s c) (by_other (λ e. is_top_create s c e ≡ false) (λ a n answer. refl) (λ a n u. refl) (λ f site k. refl) (λ site a b. refl)) ds L;
      created_is = λ a. any_at_home (is_create a) (by_other (λ e. is_create a e ≡ false) (λ b n answer. refl) (λ b n u. refl) (λ f site c. refl) (λ site b t. refl)) ds L;
      asked_commit_is = λ a. any_at_home (is_ask_commit a) (by_other (λ e. is_ask_commit a e ≡ false) (λ b n answer. refl) (λ b n u. refl) (λ f site c. refl) (λ site b t. refl)) ds L;
      asked_abort_is = λ a. any_at_home (is_ask_abort a) (by_other (λ e. is_ask_abort a e ≡ false) (λ b n answer. refl) (λ b n u. refl) (λ f site c. refl) (λ site b t. refl)) ds L;
      asks_are = λ a. number_at_home (is_ask_of a) (by_other (λ e. is_ask_of a e ≡ false) (λ b n answer. refl) (λ b n u. refl) (λ f site c. refl) (λ site b t. refl)) ds L;
      calls_are = λ a. number_at_home (is_call_of a) (by_other (λ e. is_call_of a e ≡ false) (λ b n answer. refl) (λ b n u. refl) (λ f site c. refl) (λ site b t. refl)) ds L;
      open_call_is = λ a.
          told_at_home (call_step a) (λ K. open_call K a) (call_steps a)
          (λ d away x. by_other (λ e. call_step a e x ≡ x) (λ b n answer. refl) (λ b n u. refl) (λ f site c. refl) (λ site b t. refl) d away) ds L L refl;
      children_are = λ a.
          told_at_home (child_step a) (λ K. open_children K a) (child_steps a)
          (λ d away x. by_other (λ e. child_step a e x ≡ x) (λ b n answer. refl) (λ b n u. refl) (λ f site c. refl) (λ site b t. refl) d away) ds L L refl;
      call_is = λ a n.
          told_at_home (asked_step a n) (λ K. call_of K a n) (asked_steps a n)
          (λ d away x. by_other (λ e. asked_step a n e x ≡ x) (λ b m answer. refl) (λ b m u. refl) (λ f site c. refl) (λ site b t. refl) d away) ds L L refl;
    }

-- what a deed adds, and only one at home, is added by those alone
pub added_at_home : {Y : Type 0} (f : Deed → List Y) → ((d : Deed) → is_at_home d ≡ false → f d ≡ []) → (ds : List Deed)
    → flat_map f ds ≡ flat_map f (filter is_at_home ds)
added_at_home f other [] = refl
added_at_home f other (d ∷ ds) =
    elim (cases_Bool (is_at_home d)) [
      | inl here ↦
          ap (λ ys. f d ++ ys) (added_at_home f other ds)
          ∙ ap (λ (t : Bool). flat_map f (if t then d ∷ filter is_at_home ds else filter is_at_home ds)) (sym here)
      | inr away ↦
          ap (λ ys. ys ++ flat_map f ds) (other d away) ∙ added_at_home f other ds
          ∙ ap (λ (t : Bool). flat_map f (if t then d ∷ filter is_at_home ds else filter is_at_home ds)) (sym away)
    ]
