-- The first line of a text, by how many bytes stand before its first LF.
use Rattle.std.proofs.Common.{ℕ, suc, ◌≡◌, ◌+◌, ◌<◌, ◌==◌, Bool, true, false, ◌&&◌, List, [], ◌∷◌, ◌++◌, length, take, drop, if◌then◌else◌, refl, ap, sym, arith, ◌∙◌}
use Rattle.std.proofs.lemmas.Bool.Decides.{nat_tests}
use Rattle.cam_words.specs.Lines.{in_first, begins_with_lf, lines_of}
use Rattle.cam_words.specs.FirstLine.{line_len, without_cr}

-- what lines_of and line_len do at a byte, by whether it is an LF, and a CR before one
lines_by : ℕ → Bool → Bool → List ℕ → List (List ℕ)
lines_by b t c bs = if t then [] ∷ lines_of bs else if c then lines_of bs else in_first b (lines_of bs)

len_by : Bool → List ℕ → ℕ
len_by t bs = if t then 0 else suc (line_len bs)

lf_by : (t : Bool) (bs : List ℕ) → len_by t bs ≡ suc (length bs) → t ≡ false
unfolding len_by
lf_by true bs e = absurd (omega (arith, e))
lf_by false bs e = refl

no_lf : (bs : List ℕ) → line_len bs ≡ length bs → begins_with_lf bs ≡ false
unfolding len_by
no_lf [] e = refl
no_lf (b ∷ bs) e = lf_by (b == 10) bs e

and_false : (r c : Bool) → c ≡ false → (r && c) ≡ false
and_false true c e = e
and_false false c e = refl

one_by : (b : ℕ) (bs : List ℕ) (t c : Bool) → (line_len bs ≡ length bs → c ≡ false) → (line_len bs ≡ length bs → in_first b (lines_of bs) ≡ (b ∷ bs) ∷ []) → len_by t bs ≡ length (b ∷ bs) → lines_by b t c bs ≡ (b ∷ bs) ∷ []
unfolding lines_by len_by
one_by b bs true c none rest e = absurd (omega (arith, e))
one_by b bs false true none rest e = let h : line_len bs ≡ length bs = omega (arith, e) in absurd (grind (arith, none h))
one_by b bs false false none rest e = rest (omega (arith, e))

one_from : (b : ℕ) (bs : List ℕ) → line_len (b ∷ bs) ≡ length (b ∷ bs) → lines_of (b ∷ bs) ≡ (b ∷ bs) ∷ []
unfolding lines_by len_by
one_from b [] e = one_by b [] (b == 10) ((b == 13) && false) (λ n. and_false (b == 13) false refl) (λ n. refl) e
one_from b (c ∷ cs) e =
    one_by b (c ∷ cs) (b == 10) ((b == 13) && begins_with_lf (c ∷ cs)) (λ n. and_false (b == 13) (begins_with_lf (c ∷ cs)) (no_lf (c ∷ cs) n))
    (λ n. ap (in_first b) (one_from c cs n)) e

-- a text without an LF is one line
pub lines_of_one : (text : List ℕ) → 0 < length text → line_len text ≡ length text → lines_of text ≡ text ∷ []
lines_of_one [] some e = absurd (omega (arith, some))
lines_of_one (b ∷ bs) some e = one_from b bs e

-- the CR of a line that has one byte more in front
cr_short : (b : ℕ) (r c : Bool) → (r && true) ≡ c → (if r then [] else b ∷ []) ≡ (if c then [] else b ∷ [])
cr_short b true true e = refl
cr_short b true false e = absurd (grind (arith, e))
cr_short b false true e = absurd (grind (arith, e))
cr_short b false false e = refl

cr_long : (r c : Bool) (x y : List ℕ) → (r && false) ≡ c → y ≡ (if c then x else y)
cr_long true true x y e = absurd (grind (arith, e))
cr_long false true x y e = absurd (grind (arith, e))
cr_long r false x y e = refl

cr_by : (b d : ℕ) (ds : List ℕ) (s c : Bool) → ((b == 13) && s) ≡ c → without_cr (b ∷ take (len_by s ds) (d ∷ ds)) ≡ (if c then without_cr (take (len_by s ds) (d ∷ ds)) else b ∷ without_cr (take (len_by s ds) (d ∷ ds)))
unfolding len_by
cr_by b d ds true c e = cr_short b (b == 13) c e
cr_by b d ds false c e = cr_long (b == 13) c (without_cr (d ∷ take (line_len ds) ds)) (b ∷ without_cr (d ∷ take (line_len ds) ds)) e

cr_of : (b : ℕ) (bs : List ℕ) (c : Bool) → ((b == 13) && begins_with_lf bs) ≡ c → line_len bs < length bs → without_cr (b ∷ take (line_len bs) bs) ≡ (if c then without_cr (take (line_len bs) bs) else b ∷ without_cr (take (line_len bs) bs))
unfolding len_by
cr_of b [] c e below = absurd (omega (arith, below))
cr_of b (d ∷ ds) c e below = cr_by b d ds (d == 10) c e

first_by : (b : ℕ) (bs : List ℕ) (t c : Bool) → ((b == 13) && begins_with_lf bs) ≡ c → (line_len bs < length bs → lines_of bs ≡ without_cr (take (line_len bs) bs) ∷ lines_of (drop (line_len bs + 1) bs)) → len_by t bs < length (b ∷ bs) → lines_by b t c bs ≡ without_cr (take (len_by t bs) (b ∷ bs)) ∷ lines_of (drop (len_by t bs + 1) (b ∷ bs))
unfolding lines_by len_by
first_by b bs true c cr rest below = refl
first_by b bs false true cr rest below =
    let h : line_len bs < length bs = omega (arith, below) in
    let next : suc (line_len bs + 1) ≡ suc (line_len bs) + 1 = omega arith in
    rest h ∙ ap (λ x. x ∷ lines_of (drop (line_len bs + 1) bs)) (sym (cr_of b bs true cr h))
    ∙ ap (λ k. without_cr (b ∷ take (line_len bs) bs) ∷ lines_of (drop k (b ∷ bs))) next
first_by b bs false false cr rest below =
    let h : line_len bs < length bs = omega (arith, below) in
    let next : suc (line_len bs + 1) ≡ suc (line_len bs) + 1 = omega arith in
    ap (in_first b) (rest h) ∙ ap (λ x. x ∷ lines_of (drop (line_len bs + 1) bs)) (sym (cr_of b bs false cr h))
    ∙ ap (λ k. without_cr (b ∷ take (line_len bs) bs) ∷ lines_of (drop k (b ∷ bs))) next

-- a text with an LF is its first line and the lines behind it
pub lines_of_first : (text : List ℕ) → line_len text < length text → lines_of text ≡ without_cr (take (line_len text) text) ∷ lines_of (drop (line_len text + 1) text)
unfolding lines_by len_by
lines_of_first [] below = absurd (omega (arith, below))
lines_of_first (b ∷ bs) below = first_by b bs (b == 10) ((b == 13) && begins_with_lf bs) refl (lines_of_first bs) below

-- a line by its last byte
put_in : (b : ℕ) (t : Bool) (x y : List ℕ) → b ∷ (if t then x else y) ≡ (if t then b ∷ x else b ∷ y)
put_in b true x y = refl
put_in b false x y = refl

pub without_last : (front : List ℕ) (last : ℕ) → without_cr (front ++ last ∷ []) ≡ (if last == 13 then front else front ++ last ∷ [])
without_last [] last = refl
without_last (b ∷ []) last = put_in b (last == 13) [] (last ∷ [])
without_last (b ∷ c ∷ bs) last = ap (λ x. b ∷ x) (without_last (c ∷ bs) last) ∙ put_in b (last == 13) (c ∷ bs) ((c ∷ bs) ++ last ∷ [])

is_cr : (last : ℕ) → last ≡ 13 → (last == 13) ≡ true
is_cr last h = ap (λ b. b == 13) h

no_cr : (last : ℕ) → (last ≡ 13 → ⊥) → (last == 13) ≡ false
no_cr last h = grind (arith, nat_tests, h)

pub cr_dropped : (line front : List ℕ) (last : ℕ) → line ≡ front ++ last ∷ [] → last ≡ 13 → front ≡ without_cr line
cr_dropped line front last e h =
    sym (ap without_cr e ∙ without_last front last ∙ ap (λ t. if t then front else front ++ last ∷ []) (is_cr last h))

pub cr_kept : (line front : List ℕ) (last : ℕ) → line ≡ front ++ last ∷ [] → (last ≡ 13 → ⊥) → line ≡ without_cr line
cr_kept line front last e h =
    sym (ap without_cr e ∙ without_last front last ∙ ap (λ t. if t then front else front ++ last ∷ []) (no_cr last h) ∙ sym e)

pub cr_of_none : (line : List ℕ) → length line ≡ 0 → line ≡ without_cr line
cr_of_none [] e = refl
cr_of_none (b ∷ bs) e = absurd (omega (arith, e))
