-- What a node's log opens as while it is restarted.
use Rattle.std.proofs.Common.{◌≡◌, ◌⊎◌, inl, inr, ℕ, ◌≤◌, Bool, true, false, IsTrue, List, [], ◌∷◌, ◌++◌, length, Option, Some, None, IfSome, Result, Ok, refl, sym, ap, ◌∙◌, subst, arith}
use Rattle.std.proofs.lemmas.Bool.{true≢false}
use Rattle.cam_base.specs.Causes.{Rose}
use Rattle.cam_names.specs.Dependencies.{AreCounts}
use Rattle.cam_know.specs.declared.Outcome.{Outcome}
use Rattle.cam_know.specs.Invariant.{NoTwice}
use Rattle.cam_bytes.specs.Ranges.{IsFrom}
use Rattle.cam_type.specs.declared.ObjectDecl.{ObjectDecl}
use Rattle.cam_ckpt.specs.Opening.{can_follow}
use Rattle.cam_log.specs.Moments.{Opened, Grows, AddsNothing, IsBeforeOrAfter}
use Rattle.cam_recman.specs.declared.Recovered.{Recovered}
use Rattle.cam_recman.specs.declared.Record.{Record}
use Rattle.cam_recman.specs.declared.Record.TheVariants.{Count}
use Rattle.cam_recman.specs.declared.RecFault.{RecFault}
use Rattle.cam_recman.specs.Records.{entry_bytes}
use Rattle.cam_recman.specs.Ranges.{AreRecords}
use Rattle.cam_recman.specs.Faults.{IsRecovery}
use Rattle.cam_recman.specs.Recovery.{with_records, recover}
use Rattle.cam_recman.specs.Snapshot.{snapshot}
use Rattle.cam_recman.specs.Says.{Says}
use Rattle.cam_recman.proofs.Said.{entry_says, snapshot_says}
use Rattle.cam_node.specs.Opened.{is_readable, kept_entries, kept_by, raised, HasOneEntry, IsReadOrKept, IsReplaced, CanRestart, Restarts, OpensRestarted}
use Rattle.cam_node.proofs.Moments.{says_readable, added_then, now_was}

-- What a restart reads could be opened before, and what it leaves is the restart of that.
pub restart_grows : (objects : List ObjectDecl) (s b m n : ℕ) (past mid since : ℕ → Opened → Type 0) (read : List (List ℕ)) (r : Recovered) (replaced : Bool)
    (number : Option ℕ) (generation : ℕ) → number ≡ Some generation → replaced ≡ can_follow false generation
    → Says read r → CanRestart objects s r → past b (Ok read) → ((t : ℕ) → t ≤ b → past b (Ok read) → past t (Ok read))
    → AddsNothing b m past mid → Grows m n mid since (IsReadOrKept replaced read r (raised s r)) → Grows b n past since (OpensRestarted objects s number (past b))
restart_grows objects s b m n past mid since read r replaced number generation numbered fixed says can was back none grows =
    added_then b m n past mid since (IsReadOrKept replaced read r (raised s r)) (OpensRestarted objects s number (past b)) none grows (λ t o le is. by t o le is)
  where
    by : (t : ℕ) (o : Opened) → t ≤ b → IsReadOrKept replaced read r (raised s r) o → past t o ⊎ OpensRestarted objects s number (past b) o
    by t o le (inl old) = inl (subst (λ (x : Opened). past t x) (sym old) (back t le was))
    by t o le (inr kept) = inr (record {
      now = kept_entries replaced read (raised s r);
      opens = kept.0;
      kept = raised s r;
      restarts = record {
        read = read;
        was = λ tells. was;
        restarted = record { recovered = r; says = says; can = can; is = refl; replaced = replaced; left = refl; says_now = kept.1 };
      };
      generation = generation;
      numbered = numbered;
      replaced = fixed;
    })

pub restart_grows_as : (objects : List ObjectDecl) (s b m n : ℕ) (past mid since : ℕ → Opened → Type 0) (read : List (List ℕ)) (r kept : Recovered) (broken : Bool)
    (number : Option ℕ) (generation : ℕ) → number ≡ Some generation → broken ≡ false
    → kept ≡ raised s r → Says read r → CanRestart objects s r → past b (Ok read) → ((t : ℕ) → t ≤ b → past b (Ok read) → past t (Ok read))
    → AddsNothing b m past mid → Grows m n mid since (IsReadOrKept (can_follow broken generation) read r kept)
    → Grows b n past since (OpensRestarted objects s number (past b))
restart_grows_as objects s b m n past mid since read r kept broken number generation numbered whole is says can was back none grows =
    let replaced = can_follow broken generation in
    restart_grows objects s b m n past mid since read r replaced number generation numbered (ap (λ f. can_follow f generation) whole) says can was back none
    (subst (λ (q : Recovered). Grows m n mid since (IsReadOrKept replaced read r q)) is grows)

-- All of it is readable, where all was.
pub restarted_readable : (objects : List ObjectDecl) (s b n : ℕ) (number : Option ℕ) (past since : ℕ → Opened → Type 0) (o : Opened)
    → Grows b n past since (OpensRestarted objects s number (past b)) → ((p : Opened) → past b p → IsTrue (is_readable p))
    → (since n o → since b o) → since n o → IsTrue (is_readable o)
restarted_readable objects s b n number past since o grows each back left = by (now_was b n past since (OpensRestarted objects s number (past b)) o grows back left)
  where
    by : past b o ⊎ OpensRestarted objects s number (past b) o → IsTrue (is_readable o)
    by (inl was) = each o was
    by (inr is) =
        let done = is.restarts.restarted in
        ap is_readable is.opens ∙ says_readable is.now (kept_by done.replaced done.recovered is.kept) done.says_now

-- what a restart leaves at its end
pub restarts_as : (objects : List ObjectDecl) (s : ℕ) (tells : Bool) (before : Opened → Type 0) (read now : List (List ℕ)) (r kept : Recovered) (replaced : Bool)
    → (tells ≡ true → before (Ok read)) → Says read r → CanRestart objects s r → kept ≡ raised s r → now ≡ kept_entries replaced read kept → Says now (kept_by replaced r kept)
    → Restarts objects s tells before now kept
restarts_as objects s tells before read now r kept replaced was says can is left says_now =
    record { read = read; was = was; restarted = record { recovered = r; says = says; can = can; is = is; replaced = replaced; left = left; says_now = says_now } }

-- where the disk tells, this never comes; else it was spoiled
pub rose_from : (x y z : ℕ) → x ≤ y → Rose y z → Rose x z
rose_from x y z le rose = omega (arith, le, rose)

pub spoiled_rose : (tells : Bool) (x y z : ℕ) → (tells ≡ true → ⊥) → x ≤ y → (tells ≡ false → Rose y z) → Rose x z
spoiled_rose true x y z never le rose = absurd (never refl)
spoiled_rose false x y z never le rose = rose_from x y z le (rose refl)

-- what was recovered of a log that was brought to version 2
pub ok_read : (entries : List (List ℕ)) (result : Result Recovered RecFault) (r : Recovered) → IsRecovery entries result → result ≡ Ok r → recover entries ≡ Ok r
ok_read entries result r recovery is = (subst (IsRecovery entries) is recovery).read

-- the one entry of all that is kept says it
pub all_says : (kept : Recovered) (entries : List (List ℕ)) (all : List Record) (outcomes : List Outcome) (counts : List ℕ)
    → entries ≡ entry_bytes all ∷ [] → all ≡ snapshot kept → AreRecords all → outcomes ≡ kept.know.outcomes → NoTwice outcomes
    → counts ≡ kept.know.counts → AreCounts 1 counts → 1 ≤ kept.count → Says entries kept
all_says kept entries all outcomes counts is are range same distinct counts_are counted least =
    subst (λ (es : List (List ℕ)). Says es kept) (sym (is ∙ ap (λ (rs : List Record). entry_bytes rs ∷ []) are))
    (snapshot_says kept (record {
      count = least;
      distinct = subst NoTwice same distinct;
      counts = subst (AreCounts 1) counts_are counted;
      range = subst AreRecords are range;
    }))

-- the raised count goes behind the entries
pub count_grows : (b n : ℕ) (past since : ℕ → Opened → Type 0) (entries : List (List ℕ)) (entry : List ℕ) (r kept : Recovered) (replaced : Bool)
    → replaced ≡ false → entry ≡ entry_bytes (Count kept.count ∷ []) → IsFrom 2 1000000000 kept.count → Says entries r
    → Grows b n past since (IsBeforeOrAfter entries entry) → Grows b n past since (IsReadOrKept replaced entries r kept)
count_grows b n past since entries entry r kept true is entry_is range says grows = absurd (true≢false is)
count_grows b n past since entries entry r kept false is entry_is range says grows = record {
  later = grows.later;
  keeps = grows.keeps;
  nothing_else = λ t o le left. by o (grows.nothing_else t o le left);
}
  where
    by : {X : Type 0} (o : Opened) → X ⊎ IsBeforeOrAfter entries entry o → X ⊎ IsReadOrKept false entries r kept o
    by o (inl was) = inl was
    by o (inr (inl old)) = inr (inl old)
    by o (inr (inr new)) =
        inr (inr (new ∙ ap (λ (e : List ℕ). Ok (entries ++ e ∷ [])) entry_is, entry_says entries r (Count kept.count ∷ []) (range, tt) (tt, tt) says))

pub count_says : (entries now : List (List ℕ)) (entry : List ℕ) (r kept : Recovered) (replaced : Bool)
    → replaced ≡ false → now ≡ entries ++ entry ∷ [] → entry ≡ entry_bytes (Count kept.count ∷ []) → IsFrom 2 1000000000 kept.count → Says entries r
    → Says now (kept_by replaced r kept)
count_says entries now entry r kept true is grown entry_is range says = absurd (true≢false is)
count_says entries now entry r kept false is grown entry_is range says =
    subst (λ (es : List (List ℕ)). Says es (with_records r (Count kept.count ∷ []))) (sym (grown ∙ ap (λ (e : List ℕ). entries ++ e ∷ []) entry_is))
    (entry_says entries r (Count kept.count ∷ []) (range, tt) (tt, tt) says)

-- a test does not answer both
pub not_both : (b : Bool) → b ≡ false → b ≡ true → ⊥
not_both b failed met = true≢false (sym met ∙ failed)

-- A whole log whose list cannot be replaced has the last number.
pub not_replaced : (broken : Bool) (generation now : ℕ) (kept : Recovered)
    (entries : List (List ℕ)) → broken ≡ false → can_follow broken generation ≡ false
    → now ≡ generation → IsReplaced now kept entries
not_replaced true generation now kept entries whole follows same can = cc
not_replaced false generation now kept entries whole follows same can =
    absurd (true≢false (sym can ∙ ap (can_follow false) same ∙ follows))

-- The list was replaced unless its number, by which it was read, is the last.
pub replaced_after : (broken : Bool) (generation : ℕ) (number : Option ℕ)
    (read now : List (List ℕ)) (kept : Recovered) → broken ≡ false → number ≡ Some generation
    → now ≡ kept_entries (can_follow broken generation) read kept
    → IfSome number (λ n. IsReplaced n kept now)
replaced_after broken generation number read now kept whole numbered left =
    subst (λ (o : Option ℕ). IfSome o (λ n. IsReplaced n kept now)) (sym numbered)
    (λ less. left
    ∙ ap (λ (b : Bool). kept_entries b read kept)
    (ap (λ (b : Bool). can_follow b generation) whole ∙ less))

pub one_entry_after : (number : Option ℕ) (kept : Recovered) (now : List (List ℕ))
    → IfSome number (λ n. IsReplaced n kept now) → IfSome number (λ n. HasOneEntry n now)
one_entry_after None kept now replaced = tt
one_entry_after (Some n) kept now replaced = λ less.
    ap (λ (entries : List (List ℕ)). length entries) (replaced less)
