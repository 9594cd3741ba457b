-- What a fault, or a letter, that was read says of spellings.
use Rattle.std.proofs.Common.{◌≡◌, ◌⊎◌, inl, inr, ℕ, zero, ◌<◌, eq-eqb, List, [], ◌++◌, length, Result, Ok, Err, refl, sym, ◌∙◌, subst}
use Rattle.std.proofs.lemmas.Bool.{ne_eqb}
use Rattle.cam_names.specs.declared.name.Name.{Name}
use Rattle.cam_event.specs.declared.Letter.{Letter}
use Rattle.cam_event.specs.declared.Body.{Body}
use Rattle.cam_event.specs.declared.Body.TheVariants as bodies
use Rattle.cam_bytes.specs.declared.WireFault.{WireFault}
use Rattle.cam_bytes.specs.declared.WireFault.TheVariants.{Short, BadTag, BadNumber, Order, Rest, NoMemory}
use Rattle.cam_bytes.specs.Refuses.{Refuses}
use Rattle.cam_bytes.specs.Reading.{number_at}
use Rattle.cam_bytes.proofs.Refusing.{refuses_err, refuses_then}
use Rattle.cam_wire.specs.Reading.{aborts_from, aborts_at, commits_from, commits_at, letter_at, read_letter}
use Rattle.cam_wire.specs.Ranges.{IsBody, IsInRange}
use Rattle.cam_wire.specs.Writable.{IsWritableBody, IsWritable}
use Rattle.cam_wire.specs.Laws.{IsSpelled, IsSameLetter}
use Rattle.cam_wire.proofs.Letters.{spellings_are_read}
use Rattle.cam_wire.proofs.Prefixes.{proper_beginnings_are_short}

pub no_more_aborts : (names : List Name) (at : ℕ) (bytes : List ℕ) → aborts_from zero names at bytes ≡ Ok (names, at)
unfolding aborts_from
no_more_aborts names at bytes = refl

pub no_more_commits : (cs : List (Name × List ℕ)) (at : ℕ) (bytes : List ℕ) → commits_from zero cs at bytes ≡ Ok (cs, at)
unfolding commits_from
no_more_commits cs at bytes = refl

pub aborts_begin : (at n behind : ℕ) (names : List Name) (bytes : List ℕ) → number_at at bytes ≡ Ok (n, behind) → names ≡ [] → aborts_from n names behind bytes ≡ aborts_at at bytes
unfolding aborts_at
aborts_begin at n behind names bytes e none = rw (e, none) refl

pub commits_begin : (at n behind : ℕ) (cs : List (Name × List ℕ)) (bytes : List ℕ) → number_at at bytes ≡ Ok (n, behind) → cs ≡ [] → commits_from n cs behind bytes ≡ commits_at at bytes
unfolding commits_at
commits_begin at n behind cs bytes e none = rw (e, none) refl

pub no_aborts : (at : ℕ) (bytes : List ℕ) (fault : WireFault) → number_at at bytes ≡ Err fault → Refuses fault (aborts_at at bytes)
unfolding aborts_at
no_aborts at bytes fault e = refuses_err (aborts_at at bytes) fault (rw e refl)

pub no_commits : (at : ℕ) (bytes : List ℕ) (fault : WireFault) → number_at at bytes ≡ Err fault → Refuses fault (commits_at at bytes)
unfolding commits_at
no_commits at bytes fault e = refuses_err (commits_at at bytes) fault (rw e refl)

-- the whole letter
pub refused_letter : (bytes : List ℕ) (fault : WireFault) → Refuses fault (letter_at bytes) → Refuses fault (read_letter bytes)
unfolding read_letter
refused_letter bytes fault r = refuses_then (letter_at bytes) _ fault r

pub whole_letter : (bytes : List ℕ) (letter : Letter) (end : ℕ) → letter_at bytes ≡ Ok (letter, end) → end ≡ length bytes → read_letter bytes ≡ Ok letter
unfolding read_letter
whole_letter bytes letter end e is = rw (e, eq-eqb end (length bytes) is) refl

pub rest_of_letter : (bytes : List ℕ) (letter : Letter) (end : ℕ) → letter_at bytes ≡ Ok (letter, end) → ¬ (end ≡ length bytes) → read_letter bytes ≡ Err (Rest end)
unfolding read_letter
rest_of_letter bytes letter end e other = rw (e, ne_eqb end (length bytes) other) refl

-- bytes that are a spelling are refused for want of memory alone
refused_ok : (A : Type 0) (reading : Result A WireFault) (x : A) (fault : WireFault) → Refuses fault reading → reading ≡ Ok x → fault ≡ NoMemory
refused_ok A reading x (Short at) r e = absurd (let f : Err (Short at) ≡ Ok x = sym r ∙ e in cc)
refused_ok A reading x (BadTag at) r e = absurd (let f : Err (BadTag at) ≡ Ok x = sym r ∙ e in cc)
refused_ok A reading x (BadNumber at) r e = absurd (let f : Err (BadNumber at) ≡ Ok x = sym r ∙ e in cc)
refused_ok A reading x (Order at) r e = absurd (let f : Err (Order at) ≡ Ok x = sym r ∙ e in cc)
refused_ok A reading x (Rest at) r e = absurd (let f : Err (Rest at) ≡ Ok x = sym r ∙ e in cc)
refused_ok A reading x NoMemory r e = refl

pub refused_spelling : (bytes : List ℕ) (letter : Letter) (fault : WireFault) → Refuses fault (read_letter bytes) → IsSpelled letter bytes → fault ≡ NoMemory
refused_spelling bytes letter fault r s = let read = spellings_are_read letter bytes s in refused_ok Letter (read_letter bytes) read.found fault r read.read

-- and a beginning of a spelling is short, or memory is wanted
refused_err : (A : Type 0) (reading : Result A WireFault) (end : ℕ) (fault : WireFault) → Refuses fault reading → reading ≡ Err (Short end) → (fault ≡ Short end) ⊎ (fault ≡ NoMemory)
refused_err A reading end (Short at) r e = inl (let f : Err (Short at) ≡ reading = sym r in cc)
refused_err A reading end (BadTag at) r e = absurd (let f : reading ≡ Err (BadTag at) = r in cc)
refused_err A reading end (BadNumber at) r e = absurd (let f : reading ≡ Err (BadNumber at) = r in cc)
refused_err A reading end (Order at) r e = absurd (let f : reading ≡ Err (Order at) = r in cc)
refused_err A reading end (Rest at) r e = absurd (let f : reading ≡ Err (Rest at) = r in cc)
refused_err A reading end NoMemory r e = inr refl

pub beginning_short : (bytes more : List ℕ) (letter : Letter) → 0 < length more → IsSpelled letter (bytes ++ more) → read_letter bytes ≡ Err (Short (length bytes))
beginning_short bytes more letter longer s =
    let read = spellings_are_read letter (bytes ++ more) s in
    proper_beginnings_are_short bytes more read.found longer read.read

pub refused_beginning : (bytes more : List ℕ) (letter : Letter) (fault : WireFault) → Refuses fault (read_letter bytes) → 0 < length more → IsSpelled letter (bytes ++ more) → (fault ≡ Short (length bytes)) ⊎ (fault ≡ NoMemory)
refused_beginning bytes more letter fault r longer s = refused_err Letter (read_letter bytes) (length bytes) fault r (beginning_short bytes more letter longer s)

-- a letter that was read
abbrev answered : Letter → Result Letter WireFault
answered letter = Ok letter

pub read_same : (bytes : List ℕ) (found letter : Letter) → read_letter bytes ≡ Ok found → IsSpelled letter bytes → IsSameLetter found letter
read_same bytes found letter e s =
    let read = spellings_are_read letter bytes s in
    let same : read.found ≡ found = (let f : answered read.found ≡ answered found = sym read.read ∙ e in cc) in
    subst (λ (l : Letter). IsSameLetter l letter) same read.same

pub no_beginning : (bytes more : List ℕ) (found letter : Letter) → read_letter bytes ≡ Ok found → 0 < length more → IsSpelled letter (bytes ++ more) → ⊥
no_beginning bytes more found letter e longer s = let f : Err (Short (length bytes)) ≡ Ok found = sym (beginning_short bytes more letter longer s) ∙ e in cc

-- what is in its ranges is so in those that its types do not keep
writable_body : (b : Body) → IsBody b → IsWritableBody b
writable_body (bodies.Start b d) r = tt
writable_body (bodies.Call a n x o c d) r = (r.1, r.2, r.4)
writable_body (bodies.Answer a n reply) r = r.1
writable_body (bodies.Finish a v d) r = tt
writable_body (bodies.Quit a) r = tt
writable_body (bodies.Prepare f c) r = (r.0.top, r.1)
writable_body (bodies.Vote f c agrees) r = (r.0.top, r.1)
writable_body (bodies.Query f) r = r.top
writable_body bodies.News r = tt

pub writable_letter : (letter : Letter) → IsInRange letter → IsWritable letter
writable_letter letter r = record { from = r.from; count = r.count; to = r.to; body = writable_body letter.body r.body }

-- bytes behind the letter
pub rest_refused : (bytes : List ℕ) (letter found : Letter) (end : ℕ) → letter_at bytes ≡ Ok (found, end) → ¬ (end ≡ length bytes) → IsSpelled letter bytes → Rest end ≡ NoMemory
rest_refused bytes letter found end e other s = refused_spelling bytes letter (Rest end) (rest_of_letter bytes found end e other) s

pub rest_beginning : (bytes more : List ℕ) (letter found : Letter) (end : ℕ) → letter_at bytes ≡ Ok (found, end) → ¬ (end ≡ length bytes) → 0 < length more → IsSpelled letter (bytes ++ more) → (Rest end ≡ Short (length bytes)) ⊎ (Rest end ≡ NoMemory)
rest_beginning bytes more letter found end e other longer s = refused_beginning bytes more letter (Rest end) (rest_of_letter bytes found end e other) longer s
