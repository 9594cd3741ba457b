-- What a node's log opens as, at each moment of a call.
use Rattle.std.proofs.Common.{◌≡◌, ◌⊎◌, inl, inr, ℕ, ◌≤◌, IsTrue, List, [], ◌∷◌, ◌++◌, Result, Ok, Err, OnOk, OnErr, refl, sym, ap, ◌∙◌, subst, arith}
use Rattle.std.proofs.lemmas.Bool.{true≢false}
use Rattle.cam_log.specs.declared.fault.LogFault.{LogFault}
use Rattle.cam_recman.specs.Migrating.{version_entry}
use Rattle.cam_log.specs.Moments.{Opened, Grows, AddsNothing, Stays, IsBeforeOrAfter}
use Rattle.cam_ckpt.specs.Moments.{IsOldOrNew}
use Rattle.cam_recman.specs.declared.Record.{Record}
use Rattle.cam_recman.specs.declared.RecFault.{RecFault}
use Rattle.cam_recman.specs.Records.{entry_bytes}
use Rattle.cam_recman.specs.Ranges.{AreRecords}
use Rattle.cam_recman.specs.Versions.{AreOf}
use Rattle.cam_recman.specs.Recovery.{fresh, with_records, recover}
use Rattle.cam_recman.specs.declared.Recovered.{Recovered}
use Rattle.cam_recman.specs.Says.{Says}
use Rattle.cam_recman.proofs.Said.{first_says, said_is_recovered, entry_says, version2_says, version2_is_recovered}
use Rattle.cam_node.specs.Opened.{is_readable, with_entry_of}

-- entries that say something of version 2 are readable
pub says_readable : (entries : List (List ℕ)) (r : Recovered) → Says entries r → IsTrue (is_readable (Ok entries))
says_readable entries r says = (said_is_recovered entries r says).1

-- Nothing was added, and then something was: all that was added is what could be before, or this.
pub added_then : {A : Type 0} (b m n : ℕ) (past mid since : ℕ → A → Type 0) (added more : A → Type 0)
    → AddsNothing b m past mid → Grows m n mid since added → ((t : ℕ) (c : A) → t ≤ b → added c → past t c ⊎ more c) → Grows b n past since more
added_then {A = A} b m n past mid since added more none grows each = record {
  later = omega (arith, none.later, grows.later);
  keeps = λ t c le was. grows.keeps t c (omega (arith, le, none.later)) (none.keeps t c le was);
  nothing_else = λ t c le is. by t c le (grows.nothing_else t c (omega (arith, le, none.later)) is);
}
  where
    by : (t : ℕ) (c : A) → t ≤ b → mid t c ⊎ added c → past t c ⊎ more c
    by t c le (inl was) = inl (none.nothing_new t c le was)
    by t c le (inr is) = each t c le is

-- Where nothing is added, nothing else is either.
pub none_grows : {A : Type 0} (b n : ℕ) (past since : ℕ → A → Type 0) (more : A → Type 0) → AddsNothing b n past since → Grows b n past since more
none_grows b n past since more none = record { later = none.later; keeps = none.keeps; nothing_else = λ t c le is. inl (none.nothing_new t c le is) }

pub none_then : {A : Type 0} (b m n : ℕ) (past mid since : ℕ → A → Type 0) → AddsNothing b m past mid → AddsNothing m n mid since → AddsNothing b n past since
none_then b m n past mid since one other = record {
  later = omega (arith, one.later, other.later);
  keeps = λ t c le was. other.keeps t c (omega (arith, le, one.later)) (one.keeps t c le was);
  nothing_new = λ t c le is. one.nothing_new t c le (other.nothing_new t c (omega (arith, le, one.later)) is);
}

-- where nothing happened
pub stays_grows : {A : Type 0} (b n : ℕ) (past since : ℕ → A → Type 0) (seen_before seen_now : List ℕ) (f g : ℕ) (more : A → Type 0)
    → Stays b n past since seen_before seen_now f g → Grows b n past since more
stays_grows b n past since seen_before seen_now f g more stays = record {
  later = omega (arith, stays.untouched.moment);
  keeps = λ t c le was. (stays.untouched.outcomes t c).0 was;
  nothing_else = λ t c le is. inl ((stays.untouched.outcomes t c).1 is);
}

-- What may be opened now might have been before, or was added.
pub now_was : {A : Type 0} (b n : ℕ) (past since : ℕ → A → Type 0) (added : A → Type 0) (c : A) → Grows b n past since added
    → (since n c → since b c) → since n c → past b c ⊎ added c
now_was b n past since added c grows back is = grows.nothing_else b c (omega arith) (back is)

pub now_was_before : {A : Type 0} (b n : ℕ) (past since : ℕ → A → Type 0) (c : A) → AddsNothing b n past since → (since n c → since b c) → since n c → past b c
now_was_before b n past since c none back is = none.nothing_new b c (omega arith) (back is)

-- what readable entries say
pub reads_as : (entries : List (List ℕ)) → IsTrue (is_readable (Ok entries)) → (r : Recovered) × Says entries r
reads_as entries two = by (recover entries) refl
  where
    by : (one : Result Recovered RecFault) → recover entries ≡ one → (r : Recovered) × Says entries r
    by (Ok r) is = (r, version2_says entries r two is)
    by (Err fault) is = absurd (version2_is_recovered entries fault two is)

-- one more entry leaves them readable, and an entry that there is stands behind them
pub more_readable : (entries : List (List ℕ)) (added : List Record) → AreRecords added → AreOf 2 added → IsTrue (is_readable (Ok entries))
    → IsTrue (is_readable (Ok (entries ++ entry_bytes added ∷ [])))
more_readable entries added are of two =
    let said = reads_as entries two in
    says_readable (entries ++ entry_bytes added ∷ []) (with_records said.0 added) (entry_says entries said.0 added are of said.1)

pub entry_of_some : (entries : List (List ℕ)) (added : List Record) → (added ≡ [] → ⊥) → with_entry_of entries added ≡ entries ++ entry_bytes added ∷ []
entry_of_some entries [] some = absurd (some refl)
entry_of_some entries (one ∷ rest) some = refl

pub entry_of_none : (entries : List (List ℕ)) (added : List Record) → added ≡ [] → with_entry_of entries added ≡ entries
entry_of_none entries added none = ap (with_entry_of entries) none

-- an append leaves what it began with, or with the entry
pub append_grows : (b n : ℕ) (past since : ℕ → Opened → Type 0) (entries : List (List ℕ)) (added : List Record) (entry : List ℕ)
    → (added ≡ [] → ⊥) → entry ≡ entry_bytes added → Grows b n past since (IsBeforeOrAfter entries entry)
    → Grows b n past since (IsOldOrNew entries (with_entry_of entries added))
append_grows b n past since entries added entry some is grows = record {
  later = grows.later;
  keeps = grows.keeps;
  nothing_else = λ t o le left. by o (grows.nothing_else t o le left);
}
  where
    by : {X : Type 0} (o : Opened) → X ⊎ IsBeforeOrAfter entries entry o → X ⊎ IsOldOrNew entries (with_entry_of entries added) o
    by o (inl was) = inl was
    by o (inr (inl old)) = inr (inl old)
    by o (inr (inr new)) =
        inr (inr (new ∙ ap (λ (e : List ℕ). Ok (entries ++ e ∷ [])) is ∙ ap (λ (es : List (List ℕ)). Ok es) (sym (entry_of_some entries added some))))

pub nothing_grows : (b : ℕ) (past : ℕ → Opened → Type 0) (more : Opened → Type 0) → Grows b b past past more
nothing_grows b past more = record { later = omega arith; keeps = λ t o le was. was; nothing_else = λ t o le was. inl was }

-- whatever is opened is readable, where what was opened before was, and what was added is
pub still_readable : (b n : ℕ) (past since : ℕ → Opened → Type 0) (entries : List (List ℕ)) (added : List Record) (entry : List ℕ) (o : Opened)
    → entry ≡ entry_bytes added → AreRecords added → AreOf 2 added → ((p : Opened) → past b p → IsTrue (is_readable p)) → IsTrue (is_readable (Ok entries))
    → Grows b n past since (IsBeforeOrAfter entries entry) → (since n o → since b o) → since n o → IsTrue (is_readable o)
still_readable b n past since entries added entry o is are of each two grows back left = by (now_was b n past since (IsBeforeOrAfter entries entry) o grows back left)
  where
    by : past b o ⊎ IsBeforeOrAfter entries entry o → IsTrue (is_readable o)
    by (inl was) = each o was
    by (inr (inl old)) = ap is_readable old ∙ two
    by (inr (inr new)) =
        ap is_readable (new ∙ ap (λ (e : List ℕ). Ok (entries ++ e ∷ [])) is) ∙ more_readable entries added are of two

-- bytes that are no log are not readable
pub not_readable : (fault : LogFault) → IsTrue (is_readable (Err fault)) → ⊥
not_readable fault is = true≢false (sym is)

-- whether the entry was appended or not, what is listed is readable
pub grown_readable : {T : Type 0} (result : Result T LogFault) (entries now : List (List ℕ)) (added : List Record) (entry : List ℕ)
    → OnOk result (now ≡ entries ++ entry ∷ []) → OnErr result (now ≡ entries) → entry ≡ entry_bytes added → AreRecords added → AreOf 2 added
    → IsTrue (is_readable (Ok entries)) → IsTrue (is_readable (Ok now))
grown_readable (Ok x) entries now added entry grown same is are of two =
    ap (λ (es : List (List ℕ)). is_readable (Ok es)) (grown ∙ ap (λ (e : List ℕ). entries ++ e ∷ []) is) ∙ more_readable entries added are of two
grown_readable (Err fault) entries now added entry grown same is are of two = ap (λ (es : List (List ℕ)). is_readable (Ok es)) same ∙ two

pub grown_says : (entries now : List (List ℕ)) (added : List Record) (entry : List ℕ) (r : Recovered)
    → now ≡ entries ++ entry ∷ [] → entry ≡ entry_bytes added → AreRecords added → AreOf 2 added → Says entries r → Says now (with_records r added)
grown_says entries now added entry r grown is are of says =
    subst (λ (es : List (List ℕ)). Says es (with_records r added)) (sym (grown ∙ ap (λ (e : List ℕ). entries ++ e ∷ []) is)) (entry_says entries r added are of says)

-- a formatted log is readable
pub first_readable : (entries : List (List ℕ)) → entries ≡ version_entry ∷ [] → IsTrue (is_readable (Ok entries))
first_readable entries is = ap (λ (es : List (List ℕ)). is_readable (Ok es)) is ∙ says_readable (version_entry ∷ []) fresh first_says
