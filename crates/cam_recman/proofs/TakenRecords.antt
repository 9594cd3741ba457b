-- What is read as a record is its bytes, each number in its range, and of the version before it.
use Rattle.std.proofs.Common.{◌≡◌, inl, inr, ℕ, zero, suc, List, [], ◌∷◌, ◌++◌, length, replicate, flat_map, Ok, Err, refl, sym, ap, ◌∙◌, arith, subst, append_assoc, append-nil}
use Rattle.std.specs.List.{AllByRecursion}
use Rattle.std.proofs.lemmas.Bool.Decides.{eqb_tells}
use Rattle.cam_type.specs.declared.HeldOp.{HeldOp}
use Rattle.cam_bytes.specs.declared.WireFault.TheVariants.{BadTag}
use Rattle.cam_bytes.specs.Fields.{number, name, deps, object, op}
use Rattle.cam_bytes.specs.Ranges.{IsBytes}
use Rattle.cam_bytes.specs.Reading.{byte_at, number_at, byte_in, number_in, name_in, family_at, pairs_in, object_at}
use Rattle.cam_bytes.proofs.Taken.{Stands, stands_then, bind_in, done, ok_is, took_byte, took_number, took_byte_in, took_number_in, took_name, took_family, took_object}
use Rattle.cam_bytes.proofs.TakenPairs.{took_deps}
use Rattle.cam_recman.specs.declared.Record.{Record}
use Rattle.cam_recman.specs.declared.Record.TheVariants.{Count, Abort, Commit, Seen, Secure, Version}
use Rattle.cam_recman.specs.Records.{held_op, record_bytes}
use Rattle.cam_recman.specs.Reading.{count_record, abort_record, commit_record, seen_record, op_in, held_op_at, held_ops_from, held_ops_at, secure_record, version_record, record_of, record_at}
use Rattle.cam_recman.specs.Ranges.{IsHeldOp, IsRecord}
use Rattle.cam_recman.specs.Versions.{IsOpOf, IsOf}
use Rattle.cam_recman.proofs.Operations.{took_op_in}

abbrev pub TookRecord : ℕ → List ℕ → ℕ → Record × ℕ → Type 0
TookRecord version bytes at x = Stands bytes at (record_bytes x.0) x.1 × (IsRecord x.0 × IsOf version x.0)

took_count : (version : ℕ) (bytes : List ℕ) (at behind : ℕ) (x : Record × ℕ) → IsBytes bytes → Stands bytes at (1 ∷ []) behind → count_record behind bytes ≡ Ok x → TookRecord version bytes at x
unfolding count_record
took_count version bytes at behind x are s e =
    bind_in (number_in 2 1000000000 behind bytes) _ x e (λ c f e1.
    let t = took_number_in bytes 2 1000000000 behind c are f in
    subst (λ (p : Record × ℕ). TookRecord version bytes at p) (ok_is (Count c.0, c.1) x e1) (stands_then bytes at (1 ∷ []) behind (number c.0) c.1 s t.0, (t.1, tt)))

took_abort : (version : ℕ) (bytes : List ℕ) (at behind : ℕ) (x : Record × ℕ) → IsBytes bytes → Stands bytes at (2 ∷ []) behind → abort_record behind bytes ≡ Ok x → TookRecord version bytes at x
unfolding abort_record
took_abort version bytes at behind x are s e =
    bind_in (name_in 8 behind bytes) _ x e (λ a f e1.
    let t = took_name bytes 8 behind a (omega arith) are f in
    subst (λ (p : Record × ℕ). TookRecord version bytes at p) (ok_is (Abort a.0, a.1) x e1) (stands_then bytes at (2 ∷ []) behind (name a.0) a.1 s t.0, (t.1, tt)))

took_commit : (version : ℕ) (bytes : List ℕ) (at behind : ℕ) (x : Record × ℕ) → IsBytes bytes → Stands bytes at (3 ∷ []) behind → commit_record behind bytes ≡ Ok x → TookRecord version bytes at x
unfolding commit_record
took_commit version bytes at behind x are s e =
    bind_in (name_in 8 behind bytes) _ x e (λ a f e1.
    bind_in (pairs_in 1 (replicate 8 0) a.1 bytes) _ x e1 (λ d f1 e2.
    let t = took_name bytes 8 behind a (omega arith) are f in
    let u = took_deps bytes a.1 d are f1 in
    subst (λ (p : Record × ℕ). TookRecord version bytes at p) (ok_is (Commit a.0 d.0, d.1) x e2)
    (stands_then bytes at (3 ∷ name a.0) a.1 (deps d.0) d.1 (stands_then bytes at (3 ∷ []) behind (name a.0) a.1 s t.0) u.0, ((t.1, u.1), tt))))

took_seen : (version : ℕ) (bytes : List ℕ) (at behind : ℕ) (x : Record × ℕ) → IsBytes bytes → Stands bytes at (4 ∷ []) behind → seen_record behind bytes ≡ Ok x → TookRecord version bytes at x
unfolding seen_record
took_seen version bytes at behind x are s e =
    bind_in (byte_in 1 8 behind bytes) _ x e (λ m f e1.
    bind_in (number_in 2 1000000000 m.1 bytes) _ x e1 (λ c f1 e2.
    let t = took_byte_in bytes 1 8 behind m f in
    let u = took_number_in bytes 2 1000000000 m.1 c are f1 in
    subst (λ (p : Record × ℕ). TookRecord version bytes at p) (ok_is (Seen m.0 c.0, c.1) x e2)
    (stands_then bytes at (4 ∷ m.0 ∷ []) m.1 (number c.0) c.1 (stands_then bytes at (4 ∷ []) behind (m.0 ∷ []) m.1 s t.0) u.0, ((t.1, u.1), tt))))

abbrev TookHeldOp : ℕ → List ℕ → ℕ → HeldOp × ℕ → Type 0
TookHeldOp version bytes at x = Stands bytes at (held_op x.0) x.1 × (IsHeldOp x.0 × IsOpOf version x.0.op)

took_held_op : (version : ℕ) (bytes : List ℕ) (at : ℕ) (x : HeldOp × ℕ) → IsBytes bytes → held_op_at version at bytes ≡ Ok x → TookHeldOp version bytes at x
unfolding held_op_at
took_held_op version bytes at x are e =
    bind_in (number_in 0 999999999 at bytes) _ x e (λ i f e1.
    bind_in (object_at i.1 bytes) _ x e1 (λ o f1 e2.
    bind_in (op_in version o.1 bytes) _ x e2 (λ p f2 e3.
    let t = took_number_in bytes 0 999999999 at i are f in
    let t1 = took_object bytes i.1 o f1 in
    let t2 = took_op_in version bytes o.1 p are f2 in
    let one : HeldOp = record { index = i.0; object = o.0; op = p.0 } in
    subst (λ (q : HeldOp × ℕ). TookHeldOp version bytes at q) (ok_is (one, p.1) x e3) (
      stands_then bytes at (number i.0) i.1 (object o.0 ++ op p.0) p.1 t.0 (stands_then bytes i.1 (object o.0) o.1 (op p.0) p.1 t1.0 t2.0),
      (record { index = t.1.1; object = t1.1; op = t2.1.0 }, t2.1.1),
    ))))

record TookOps (version : ℕ) (bytes : List ℕ) (at left : ℕ) (found : List HeldOp) (x : List HeldOp × ℕ) : Type 0 where
  ops : List HeldOp
  is : x.0 ≡ found ++ ops
  many : length ops ≡ left
  range : AllByRecursion IsHeldOp ops
  versions : AllByRecursion (λ o. IsOpOf version o.op) ops
  stands : Stands bytes at (flat_map held_op ops) x.1

took_ops : (version : ℕ) (bytes : List ℕ) (left : ℕ) (found : List HeldOp) (at : ℕ) (x : List HeldOp × ℕ) → IsBytes bytes → held_ops_from left version found at bytes ≡ Ok x → TookOps version bytes at left found x
unfolding held_ops_from
took_ops version bytes zero found at x are e =
    subst (λ (p : List HeldOp × ℕ). TookOps version bytes at 0 found p) (ok_is (found, at) x e) (record { ops = []; is = sym (append-nil found); many = refl; range = tt; versions = tt; stands = refl })
took_ops version bytes (suc left) found at x are e =
    bind_in (held_op_at version at bytes) _ x e (λ o f e1.
    let t = took_held_op version bytes at o are f in
    let r = took_ops version bytes left (found ++ o.0 ∷ []) o.1 x are e1 in
    record {
      ops = o.0 ∷ r.ops;
      is = r.is ∙ append_assoc found (o.0 ∷ []) r.ops;
      many = omega (arith, r.many);
      range = (t.1.0, r.range);
      versions = (t.1.1, r.versions);
      stands = stands_then bytes at (held_op o.0) o.1 (flat_map held_op r.ops) x.1 t.0 r.stands;
    })

took_secure : (version : ℕ) (bytes : List ℕ) (at behind : ℕ) (x : Record × ℕ) → IsBytes bytes → Stands bytes at (5 ∷ []) behind → secure_record version behind bytes ≡ Ok x → TookRecord version bytes at x
unfolding secure_record held_ops_at
took_secure version bytes at behind x are s e =
    bind_in (family_at behind bytes) _ x e (λ a f e1.
    bind_in (number_in 1 1000000000 a.1 bytes) _ x e1 (λ c f1 e2.
    bind_in (held_ops_at version c.1 bytes) _ x e2 (λ os g e4.
    bind_in (number_at c.1 bytes) _ os g (λ n f2 f3.
    let t = took_family bytes behind a are f in
    let t1 = took_number_in bytes 1 1000000000 a.1 c are f1 in
    let t2 = took_number bytes c.1 n are f2 in
    let r = took_ops version bytes n.0 [] n.1 os are f3 in
    let many : length os.0 ≡ n.0 = ap (λ (xs : List HeldOp). length xs) r.is ∙ r.many in
    let s1 = stands_then bytes at (5 ∷ []) behind (name a.0) a.1 s t.0 in
    let s2 = stands_then bytes at (5 ∷ name a.0) a.1 (number c.0) c.1 s1 t1.0 in
    let s3 = stands_then bytes at (5 ∷ name a.0 ++ number c.0) c.1 (number (length os.0)) n.1 s2 (subst (λ (k : ℕ). Stands bytes c.1 (number k) n.1) (sym many) t2.0) in
    let s4 = stands_then bytes at (5 ∷ name a.0 ++ number c.0 ++ number (length os.0)) n.1 (flat_map held_op os.0) os.1 s3 (subst (λ (xs : List HeldOp). Stands bytes n.1 (flat_map held_op xs) os.1) (sym r.is) r.stands) in
    subst (λ (p : Record × ℕ). TookRecord version bytes at p) (ok_is (Secure (record { family = a.0; count = c.0; ops = os.0 }), os.1) x e4) (
      s4,
      (
        record {
          family = t.1;
          count = t1.1;
          number = omega (arith, many, t2.1);
          ops = subst (λ (xs : List HeldOp). AllByRecursion IsHeldOp xs) (sym r.is) r.range;
        },
        subst (λ (xs : List HeldOp). AllByRecursion (λ o. IsOpOf version o.op) xs) (sym r.is) r.versions,
      ),
    )))))

took_version : (version : ℕ) (bytes : List ℕ) (at behind : ℕ) (x : Record × ℕ) → version ≡ 1 → Stands bytes at (6 ∷ []) behind → version_record behind bytes ≡ Ok x → TookRecord version bytes at x
unfolding version_record
took_version version bytes at behind x first s e =
    bind_in (byte_in 2 2 behind bytes) _ x e (λ b f e1.
    let t = took_byte_in bytes 2 2 behind b f in
    let two : b.0 ≡ 2 = omega (arith, t.1.0, t.1.1) in
    subst (λ (p : Record × ℕ). TookRecord version bytes at p) (ok_is (Version, b.1) x e1)
    (stands_then bytes at (6 ∷ []) behind (2 ∷ []) b.1 s (subst (λ (k : ℕ). Stands bytes behind (k ∷ []) b.1) two t.0), (tt, first)))

tag_is : (bytes : List ℕ) (at tag k behind : ℕ) → tag ≡ k → Stands bytes at (tag ∷ []) behind → Stands bytes at (k ∷ []) behind
tag_is bytes at tag k behind is stands = subst (λ (n : ℕ). Stands bytes at (n ∷ []) behind) is stands

took_record_of : (version : ℕ) (bytes : List ℕ) (tag at behind : ℕ) (x : Record × ℕ) → IsBytes bytes → Stands bytes at (tag ∷ []) behind → record_of version tag at behind bytes ≡ Ok x → TookRecord version bytes at x
unfolding record_of
took_record_of version bytes tag at behind x are s e =
    elim (eqb_tells tag 1) [
      | inl y ↦ took_count version bytes at behind x are (tag_is bytes at tag 1 behind y.1 s) (rw y.0 at e)
      | inr n ↦ let e = rw n.0 at e in elim (eqb_tells tag 2) [
        | inl y ↦ took_abort version bytes at behind x are (tag_is bytes at tag 2 behind y.1 s) (rw y.0 at e)
        | inr n ↦ let e = rw n.0 at e in elim (eqb_tells tag 3) [
          | inl y ↦ took_commit version bytes at behind x are (tag_is bytes at tag 3 behind y.1 s) (rw y.0 at e)
          | inr n ↦ let e = rw n.0 at e in elim (eqb_tells tag 4) [
            | inl y ↦ took_seen version bytes at behind x are (tag_is bytes at tag 4 behind y.1 s) (rw y.0 at e)
            | inr n ↦ let e = rw n.0 at e in elim (eqb_tells tag 5) [
              | inl y ↦ took_secure version bytes at behind x are (tag_is bytes at tag 5 behind y.1 s) (rw y.0 at e)
              | inr n ↦ let e = rw n.0 at e in elim (eqb_tells tag 6) [
                | inl y ↦ let e = rw y.0 at e in elim (eqb_tells version 1) [
                  | inl z ↦ took_version version bytes at behind x z.1 (tag_is bytes at tag 6 behind y.1 s) (rw z.0 at e)
                  | inr m ↦ let e = rw m.0 at e in absurd (let f : Err (BadTag at) ≡ done x = e in cc)
                ]
                | inr n ↦ let e = rw n.0 at e in absurd (let f : Err (BadTag at) ≡ done x = e in cc)
              ]
            ]
          ]
        ]
      ]
    ]

pub took_record : (version : ℕ) (bytes : List ℕ) (at : ℕ) (x : Record × ℕ) → IsBytes bytes → record_at version at bytes ≡ Ok x → TookRecord version bytes at x
unfolding record_at
took_record version bytes at x are e = bind_in (byte_at at bytes) _ x e (λ tag f e1. took_record_of version bytes tag.0 at tag.1 x are (took_byte bytes at tag f) e1)
