-- Going through a list of deeds: each that meets its line goes on legally, and the first that does not is the fault.
use Rattle.std.proofs.Common.{◌≡◌, ℕ, ◌<◌, ◌≤◌, true, false, List, [], ◌∷◌, ◌++◌, length, take, drop, get_or, zero, suc, refl, sym, ap, ◌∙◌, arith}
use Rattle.std.proofs.lemmas.Bool.{true≢false}
use Rattle.cam_type.specs.declared.ObjectDecl.{ObjectDecl}
use Rattle.cam_event.specs.declared.Deed.{Deed}
use Rattle.cam_plain.specs.declared.kind.DeedKind.{DeedKind}
use Rattle.cam_plain.specs.Legal.{Legal, history, kind_of, IsFirstIllegal}
use Rattle.cam_plain.specs.Tests.{meets}
use Rattle.cam_plain.proofs.Deciders.{meets_decides}

pub legal_next : (objects : List ObjectDecl) (L : List Deed) (d : Deed) → Legal objects L → meets objects L d ≡ true → Legal objects (d ∷ L)
legal_next objects L d legal passes = ((meets_decides objects L d).0 passes, legal)

split_at : (ds : List Deed) (i : ℕ) (d : Deed) → i < length ds → d ≡ get_or ds i d → ds ≡ take i ds ++ d ∷ drop (suc i) ds
split_at [] i d h is = absurd (omega (arith, h))
split_at (e ∷ ds) zero d h is = ap (λ (x : Deed). x ∷ ds) (sym is)
split_at (e ∷ ds) (suc i) d h is = ap (λ (xs : List Deed). e ∷ xs) (split_at ds i d (omega (arith, h)) is)

front_length : (ds : List Deed) (i : ℕ) → i ≤ length ds → i ≡ length (take i ds)
front_length ds zero h = refl
front_length [] (suc i) h = absurd (omega (arith, h))
front_length (e ∷ ds) (suc i) h = let rest : i ≡ length (take i ds) = front_length ds i (omega (arith, h)) in omega (arith, rest)

pub first_illegal : (objects : List ObjectDecl) (ds : List Deed) (i : ℕ) (cause : DeedKind) (d : Deed) → i < length ds → d ≡ get_or ds i d
    → Legal objects (history (take i ds)) → meets objects (history (take i ds)) d ≡ false → cause ≡ kind_of d → IsFirstIllegal objects ds i cause
first_illegal objects ds i cause d h is legal fails why =
    record {
      front = take i ds;
      deed = d;
      rest = drop (suc i) ds;
      split = split_at ds i d h is;
      place = front_length ds i (omega (arith, h));
      legal = legal;
      fault = λ line. true≢false (sym ((meets_decides objects (history (take i ds)) d).1 line) ∙ fails);
      why = why;
    }
