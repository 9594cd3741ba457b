-- With each copy that is received less is left to hand over.
use Rattle.std.proofs.Common.{◌≡◌, ◌≤◌, ◌<◌, ℕ, zero, suc, ◌+◌, ◌-◌, ◌*◌, eqb, Bool, true, false, ◌&&◌, if◌then◌else◌, List, [], ◌∷◌, ◌++◌, Option, Some, None, refl, sym, ap, ◌∙◌, subst, arith}
use Rattle.std.specs.Prelude.{slice_get}
use Rattle.std.proofs.Math.Nat.{mul-suc}
use Rattle.std.proofs.lemmas.Nat.{mul-le}
use Rattle.std.proofs.lemmas.Bool.{eq-eqb}
use Rattle.cam_event.specs.declared.LetterId.{LetterId}
use Rattle.cam_journal.specs.declared.entry.NumberedEvent.{NumberedEvent}
use Rattle.cam_journal.specs.Trace.{Receives as Named}
use Rattle.cam_storm.specs.Events.{Copied}
use Rattle.cam_storm.specs.Events.{Stepped}
use Rattle.cam_storm.specs.Runs.{is_letter}
use Rattle.cam_storm.specs.Lawful.{named}
use Rattle.cam_storm.specs.Weights.{copy_weight, copies_weight, event_at_entry, times, left_of, left_from, ReceiptsLower}
use Rattle.cam_storm.proofs.ArrivalsWeigh.{arrivals_weigh_less}

-- one more entry, and how often a letter was received then
record OneMore (old new : ℕ) (here : Bool) : Type 0 where
  hit : here ≡ true → new ≡ old + 1
  miss : here ≡ false → new ≡ old

times_more : (before behind : List (NumberedEvent Stepped Copied)) (x : NumberedEvent Stepped Copied) (l : LetterId) → OneMore (times (before ++ behind) l) (times (before ++ x ∷ behind) l) (is_letter l (event_at_entry x).got)
times_more [] behind x l = record {
  hit = λ h. ap (λ (b : Bool). if b then times behind l + 1 else times behind l) h;
  miss = λ h. ap (λ (b : Bool). if b then times behind l + 1 else times behind l) h;
}
times_more (y ∷ before) behind x l =
    let rest = times_more before behind x l in
    let b : Bool = is_letter l (event_at_entry y).got in
    record {
      hit = λ h. by b (times (before ++ behind) l) (times (before ++ x ∷ behind) l) (rest.hit h);
      miss = λ h. ap (λ (n : ℕ). if b then n + 1 else n) (rest.miss h);
    }
  where
    by : (b : Bool) (m n : ℕ) → n ≡ m + 1 → (if b then n + 1 else n) ≡ (if b then m + 1 else m) + 1
    by true m n h = omega (arith, h)
    by false m n h = h

times_grow : (before behind : List (NumberedEvent Stepped Copied)) (x : NumberedEvent Stepped Copied) (l : LetterId) → times (before ++ behind) l ≤ times (before ++ x ∷ behind) l
times_grow before behind x l = by (is_letter l (event_at_entry x).got) refl
  where
    more : OneMore (times (before ++ behind) l) (times (before ++ x ∷ behind) l) (is_letter l (event_at_entry x).got)
    more = times_more before behind x l

    by : (b : Bool) → is_letter l (event_at_entry x).got ≡ b → times (before ++ behind) l ≤ times (before ++ x ∷ behind) l
    by true h = let e = more.hit h in omega (arith, e)
    by false h = let e = more.miss h in omega (arith, e)

-- what came more often is left less often
left_of_less : (came now : LetterId → ℕ) (n p : ℕ) (cs : List Copied) → ((l : LetterId) → came l ≤ now l) → left_of now n p cs ≤ left_of came n p cs
left_of_less came now n p [] grow = omega arith
left_of_less came now n p (c ∷ cs) grow =
    let l : LetterId = record { event = n; place = p } in
    let rest = left_of_less came now n (p + 1) cs grow in
    let more = grow l in
    let here : copy_weight c.letter.body * (c.copies - now l) ≤ copy_weight c.letter.body * (c.copies - came l) = mul-le (copy_weight c.letter.body) (c.copies - now l) (copy_weight c.letter.body) (c.copies - came l) (omega arith) (omega (arith, more)) in
    omega (arith, rest, here)

left_of_most : (came : LetterId → ℕ) (n p : ℕ) (cs : List Copied) → left_of came n p cs ≤ copies_weight cs
left_of_most came n p [] = omega arith
left_of_most came n p (c ∷ cs) =
    let l : LetterId = record { event = n; place = p } in
    let rest = left_of_most came n (p + 1) cs in
    let here : copy_weight c.letter.body * (c.copies - came l) ≤ copy_weight c.letter.body * c.copies = mul-le (copy_weight c.letter.body) (c.copies - came l) (copy_weight c.letter.body) c.copies (omega arith) (omega arith) in
    omega (arith, rest, here)

-- one copy less is left of the letter that came
one_lower : (w k old now : ℕ) → now ≡ old + 1 → old < k → w * (k - now) + w ≤ w * (k - old)
one_lower w k old now is less =
    let step : k - old ≡ suc (k - now) = omega (arith, is, less) in
    let more : w * (k - old) ≡ w * suc (k - now) = ap (λ (m : ℕ). w * m) step in
    let times_one : w * suc (k - now) ≡ w * (k - now) + w = mul-suc w (k - now) in
    omega (arith, more, times_one)

left_of_lower : (came now : LetterId → ℕ) (n p q : ℕ) (cs : List Copied) (c : Copied) → ((l : LetterId) → came l ≤ now l) → slice_get cs q ≡ Some c
    → now (record { event = n; place = p + q }) ≡ came (record { event = n; place = p + q }) + 1 → came (record { event = n; place = p + q }) < c.copies
    → left_of now n p cs + copy_weight c.letter.body ≤ left_of came n p cs
left_of_lower came now n p q [] c grow at is less = absurd (cc)
left_of_lower came now n p zero (d ∷ cs) c grow at is less =
    let same : d ≡ c = cc in
    let place : p + 0 ≡ p = omega arith in
    let l : LetterId = record { event = n; place = p } in
    let now_is : now l ≡ came l + 1 = subst (λ (k : ℕ). now (record { event = n; place = k }) ≡ came (record { event = n; place = k }) + 1) place is in
    let left : came l < d.copies = subst (λ (x : Copied). came l < x.copies) (sym same) (subst (λ (k : ℕ). came (record { event = n; place = k }) < c.copies) place less) in
    let weight : copy_weight c.letter.body ≡ copy_weight d.letter.body = ap (λ (x : Copied). copy_weight x.letter.body) (sym same) in
    let here = one_lower (copy_weight d.letter.body) d.copies (came l) (now l) now_is left in
    let rest = left_of_less came now n (p + 1) cs grow in
    omega (arith, here, rest, weight)
left_of_lower came now n p (suc q) (d ∷ cs) c grow at is less =
    let l : LetterId = record { event = n; place = p } in
    let place : p + suc q ≡ (p + 1) + q = omega arith in
    let rest = left_of_lower came now n (p + 1) q cs c grow at
    (subst (λ (k : ℕ). now (record { event = n; place = k }) ≡ came (record { event = n; place = k }) + 1) place is)
    (subst (λ (k : ℕ). came (record { event = n; place = k }) < c.copies) place less) in
    let more = grow l in
    let here : copy_weight d.letter.body * (d.copies - now l) ≤ copy_weight d.letter.body * (d.copies - came l) = mul-le (copy_weight d.letter.body) (d.copies - now l) (copy_weight d.letter.body) (d.copies - came l) (omega arith) (omega (arith, more)) in
    omega (arith, rest, here)

left_from_less : (came now : LetterId → ℕ) (xs : List (NumberedEvent Stepped Copied)) → ((l : LetterId) → came l ≤ now l) → left_from now xs ≤ left_from came xs
left_from_less came now [] grow = omega arith
left_from_less came now (x ∷ xs) grow =
    let here = left_of_less came now x.number 0 x.event.letters grow in
    let rest = left_from_less came now xs grow in
    omega (arith, here, rest)

left_from_lower : (came now : LetterId → ℕ) (xs : List (NumberedEvent Stepped Copied)) (at q : ℕ) (sender : NumberedEvent Stepped Copied) (c : Copied) → ((l : LetterId) → came l ≤ now l) → slice_get xs at ≡ Some sender → slice_get sender.event.letters q ≡ Some c
    → now (record { event = sender.number; place = q }) ≡ came (record { event = sender.number; place = q }) + 1 → came (record { event = sender.number; place = q }) < c.copies
    → left_from now xs + copy_weight c.letter.body ≤ left_from came xs
left_from_lower came now [] at q sender c grow there letter is less = absurd (cc)
left_from_lower came now (x ∷ xs) zero q sender c grow there letter is less =
    let same : sender ≡ x = cc in
    let place : q ≡ 0 + q = omega arith in
    let here : left_of now x.number 0 x.event.letters + copy_weight c.letter.body ≤ left_of came x.number 0 x.event.letters =
    subst (λ (y : NumberedEvent Stepped Copied). left_of now y.number 0 y.event.letters + copy_weight c.letter.body ≤ left_of came y.number 0 y.event.letters) same
    (left_of_lower came now sender.number 0 q sender.event.letters c grow letter
    (subst (λ (k : ℕ). now (record { event = sender.number; place = k }) ≡ came (record { event = sender.number; place = k }) + 1) place is)
    (subst (λ (k : ℕ). came (record { event = sender.number; place = k }) < c.copies) place less)) in
    let rest = left_from_less came now xs grow in
    omega (arith, here, rest)
left_from_lower came now (x ∷ xs) (suc at) q sender c grow there letter is less =
    let rest = left_from_lower came now xs at q sender c grow there letter is less in
    let here = left_of_less came now x.number 0 x.event.letters grow in
    omega (arith, here, rest)

left_with : (came : LetterId → ℕ) (before behind : List (NumberedEvent Stepped Copied)) (x : NumberedEvent Stepped Copied) → left_from came (before ++ x ∷ behind) ≡ left_from came (before ++ behind) + left_of came x.number 0 x.event.letters
left_with came [] behind x = omega arith
left_with came (y ∷ before) behind x = let rest = left_with came before behind x in omega (arith, rest)

pub receipts_lower : ReceiptsLower
receipts_lower words before behind s history sent e number r =
    let x : NumberedEvent Stepped Copied = record { number = number; event = e; received = Some sent } in
    let came : LetterId → ℕ = times (before ++ behind) in
    let now : LetterId → ℕ = times (before ++ x ∷ behind) in
    let l : LetterId = record { event = sent.number; place = sent.place } in
    let grow : (k : LetterId) → came k ≤ now k = λ k. times_grow before behind x k in
    let once : now l ≡ came l + 1 = (times_more before behind x l).hit (hits e.event.got r.named) in
    let at : record { event = r.sender.number; place = sent.place } ≡ l = λ i. record { event = r.number i; place = sent.place } in
    let lower = left_from_lower came now (before ++ behind) r.at sent.place r.sender sent.letter grow r.stands r.letter
    (subst (λ (k : LetterId). now k ≡ came k + 1) (sym at) once) (subst (λ (k : LetterId). came k < sent.letter.copies) (sym at) r.one_left) in
    let split = left_with now before behind x in
    let most = left_of_most now number 0 e.letters in
    let light = arrivals_weigh_less words s history sent e r.allowed r.named in
    omega (arith, lower, split, most, light)
  where
    hits : (got : Option LetterId) → Named (named got) (Some sent) → is_letter (record { event = sent.number; place = sent.place }) got ≡ true
    hits None is = absurd is
    hits (Some k) is = (λ i. eqb sent.number (is.0 i) && eqb sent.place (is.1 i)) ∙ ap (λ b. b && eqb sent.place sent.place) (eq-eqb sent.number sent.number refl) ∙ eq-eqb sent.place sent.place refl
