-- What a crash leaves in each of the two steps of an append.
use Rattle.std.proofs.Common.{◌≡◌, ◌≢◌, inl, inr, ℕ, ◌+◌, ◌<◌, ◌≤◌, List, [], ◌∷◌, ◌++◌, length, get_or, take, drop, flat_map, refl, sym, ap, subst, ◌∙◌, arith, append_assoc, length-append, take-append-drop}
use Rattle.std.specs.Int.{w64, to_be_bytes}
use Rattle.std.proofs.lemmas.Bool.{cases_eq}
use Rattle.std.proofs.lemmas.List.{take_at, drop_at, drop_more}
use Rattle.std.proofs.Math.Seq.{get_or-append_seam}
use Rattle.std.proofs.lemmas.List.Concat.{flat_map-append}
use Rattle.cam_disk.specs.Disk.{Holds, Torn, Only}
use Rattle.cam_log.specs.Image.{header, gated, appended, gate_place, log_bytes, IsAppended}
use Rattle.cam_log.specs.Reading.{read_log}
use Rattle.cam_log.specs.Moments.{IsAtRest, IsBeforeOrAfter, Written}
use Rattle.cam_log.specs.Again.{opened_is_there}
use Rattle.cam_log.specs.Rest.{opens}

abbrev front : List (List ℕ) → List ℕ
front entries = header ++ flat_map gated entries

long_front : (entries : List (List ℕ)) → length (front entries) ≡ gate_place entries
long_front entries = length-append header (flat_map gated entries)

-- the bytes are those of a log whose gate is closed
pub at_rest : (entries : List (List ℕ)) (gate g : ℕ) (rest bytes : List ℕ) → gate ≡ gate_place entries → g ≢ 1 → bytes ≡ front entries ++ g ∷ rest → IsAtRest entries gate bytes
at_rest entries gate g rest bytes place closed is =
    let long : length (front entries) ≡ gate = long_front entries ∙ sym place in
    let here : get_or bytes gate 1 ≡ g = ap (λ (b : List ℕ). get_or b gate 1) is ∙ ap (λ (n : ℕ). get_or (front entries ++ g ∷ rest) n 1) (sym long) ∙ get_or-append_seam (front entries) g rest 1 in
    let behind : drop (gate + 1) bytes ≡ rest =
    ap (λ (b : List ℕ). drop (gate + 1) b) (is ∙ sym (append_assoc (front entries) (g ∷ []) rest)) ∙ drop_at (front entries ++ g ∷ []) rest (gate + 1) (omega (arith, long, length-append (front entries) (g ∷ []))) in
    record {
      place = place;
      is = is ∙ ap (λ (n : ℕ). front entries ++ n ∷ rest) (sym here) ∙ ap (λ (u : List ℕ). front entries ++ get_or bytes gate 1 ∷ u) (sym behind);
      is_closed = λ one. closed (sym here ∙ one);
    }

up_to_gate : (entries : List (List ℕ)) (gate : ℕ) (bytes : List ℕ) → IsAtRest entries gate bytes → take (gate + 1) bytes ≡ front entries ++ get_or bytes gate 1 ∷ []
up_to_gate entries gate bytes rests =
    let long : length (front entries ++ get_or bytes gate 1 ∷ []) ≡ gate + 1 = omega (arith, length-append (front entries) (get_or bytes gate 1 ∷ []), long_front entries, rests.place) in
    ap (λ (b : List ℕ). take (gate + 1) b) (rests.is ∙ sym (append_assoc (front entries) (get_or bytes gate 1 ∷ []) (drop (gate + 1) bytes)))
    ∙ take_at (front entries ++ get_or bytes gate 1 ∷ []) (drop (gate + 1) bytes) (gate + 1) long

-- the closed gate stands in each outcome of the first write
pub torn_behind : (entries : List (List ℕ)) (gate n : ℕ) (old c : List ℕ) → IsAtRest entries gate old → Torn (gate + 1) n old c → IsAtRest entries gate c
torn_behind entries gate n old c rests torn =
    let whole : c ≡ front entries ++ get_or old gate 1 ∷ drop (gate + 1) c =
    sym (take-append-drop (gate + 1) c) ∙ ap (λ (u : List ℕ). u ++ drop (gate + 1) c) (torn.before ∙ up_to_gate entries gate old rests) ∙ append_assoc (front entries) (get_or old gate 1 ∷ []) (drop (gate + 1) c) in
    at_rest entries gate (get_or old gate 1) (drop (gate + 1) c) c rests.place rests.is_closed whole

-- what stands behind the first write
pub record Staged (entries : List (List ℕ)) (gate : ℕ) (text bytes : List ℕ) : Type 0 where
  pub place : gate ≡ gate_place entries
  pub g : ℕ
  pub is_closed : g ≢ 1
  pub rest : List ℕ
  pub is : bytes ≡ front entries ++ g ∷ (text ++ rest)

pub written_behind : (entries : List (List ℕ)) (gate : ℕ) (text old new : List ℕ) → IsAtRest entries gate old → Holds old (gate + 1) text new → Staged entries gate text new
written_behind entries gate text old new rests holds =
    let g = get_or old gate 1 in
    let rest = drop (gate + 1 + length text) old in
    record {
      place = rests.place;
      g = g;
      is_closed = rests.is_closed;
      rest = rest;
      is = holds ∙ ap (λ (u : List ℕ). u ++ text ++ rest) (up_to_gate entries gate old rests)
          ∙ append_assoc (front entries ++ g ∷ []) text rest ∙ append_assoc (front entries) (g ∷ []) (text ++ rest);
    }

pub staged_reaches : (entries : List (List ℕ)) (gate : ℕ) (text bytes : List ℕ) → Staged entries gate text bytes → gate + 1 ≤ length bytes
staged_reaches entries gate text bytes staged =
    omega (arith, ap (λ (b : List ℕ). length b) staged.is, length-append (front entries) (staged.g ∷ (text ++ staged.rest)), long_front entries, staged.place)

-- the entry stands once its gate is open
opened : (entries : List (List ℕ)) (entry rest : List ℕ) → front entries ++ 1 ∷ (appended entry ++ rest) ≡ front (entries ++ entry ∷ []) ++ 0 ∷ rest
opened entries entry rest =
    sym (append_assoc (front entries) (1 ∷ appended entry) rest) ∙ ap (λ (u : List ℕ). u ++ rest) (opened_is_there entries entry) ∙ append_assoc (front (entries ++ entry ∷ [])) (0 ∷ []) rest

pub next_place : (entries : List (List ℕ)) (entry : List ℕ) → gate_place entries + length (appended entry) ≡ gate_place (entries ++ entry ∷ [])
next_place entries entry =
    let size = to_be_bytes w64 (length entry) in
    let one : flat_map gated (entry ∷ []) ≡ gated entry ++ [] = refl in
    omega (arith, ap (λ (u : List ℕ). length u) (flat_map-append gated entries (entry ∷ [])), length-append (flat_map gated entries) (flat_map gated (entry ∷ [])), length-append (gated entry) [], length-append size entry, length-append (size ++ entry) (0 ∷ []))

pub at_rest_after : (entries : List (List ℕ)) (gate : ℕ) (entry rest bytes : List ℕ) → gate ≡ gate_place entries → bytes ≡ front entries ++ 1 ∷ (appended entry ++ rest) → IsAtRest (entries ++ entry ∷ []) (gate + length (appended entry)) bytes
at_rest_after entries gate entry rest bytes place is =
    at_rest (entries ++ entry ∷ []) (gate + length (appended entry)) 0 rest bytes (omega (arith, place, next_place entries entry)) (omega arith) (is ∙ opened entries entry rest)

-- the gate is all that the second write can tear
torn_at : (entries : List (List ℕ)) (gate : ℕ) (text old c : List ℕ) (staged : Staged entries gate text old) → Torn gate 1 old c → c ≡ front entries ++ get_or c gate 1 ∷ (text ++ staged.rest)
torn_at entries gate text old c staged torn =
    let long : length (front entries) ≡ gate = long_front entries ∙ sym staged.place in
    let behind : drop (gate + 1) c ≡ text ++ staged.rest =
    torn.after ∙ ap (λ (b : List ℕ). drop (gate + 1) b) (staged.is ∙ sym (append_assoc (front entries) (staged.g ∷ []) (text ++ staged.rest)))
    ∙ drop_at (front entries ++ staged.g ∷ []) (text ++ staged.rest) (gate + 1) (omega (arith, long, length-append (front entries) (staged.g ∷ []))) in
    let before : take gate c ≡ front entries =
    torn.before ∙ ap (λ (b : List ℕ). take gate b) staged.is ∙ take_at (front entries) (staged.g ∷ (text ++ staged.rest)) gate long in
    let here : drop gate c ≡ get_or c gate 1 ∷ drop (gate + 1) c = drop_more c gate 1 (omega (arith, torn.no_shorter, staged_reaches entries gate text old staged)) in
    sym (take-append-drop gate c) ∙ ap (λ (u : List ℕ). u ++ drop gate c) before ∙ ap (λ (u : List ℕ). front entries ++ u) (here ∙ ap (λ (u : List ℕ). get_or c gate 1 ∷ u) behind)

pub torn_gate : (entries : List (List ℕ)) (gate : ℕ) (entry old c : List ℕ) → gate + length (appended entry) < 18446744073709551616 → Staged entries gate (appended entry) old → Torn gate 1 old c → IsBeforeOrAfter entries entry (read_log c)
torn_gate entries gate entry old c small staged torn =
    let is = torn_at entries gate (appended entry) old c staged torn in
    elim (cases_eq (get_or c gate 1) 1) [
      | inl one ↦ inr (opens (entries ++ entry ∷ []) (gate + length (appended entry)) c small
          (at_rest_after entries gate entry staged.rest c staged.place (is ∙ ap (λ (n : ℕ). front entries ++ n ∷ (appended entry ++ staged.rest)) one)))
      | inr shut ↦ inl (opens entries gate c (omega (arith, small)) (at_rest entries gate (get_or c gate 1) (appended entry ++ staged.rest) c staged.place shut is))
    ]

-- what stands once the gate is open
gate_bytes : (entries : List (List ℕ)) (gate : ℕ) (entry old new : List ℕ) (staged : Staged entries gate (appended entry) old) → Holds old gate (1 ∷ []) new → new ≡ front entries ++ 1 ∷ (appended entry ++ staged.rest)
gate_bytes entries gate entry old new staged holds =
    let long : length (front entries) ≡ gate = long_front entries ∙ sym staged.place in
    let text = appended entry ++ staged.rest in
    let before : take gate old ≡ front entries = ap (λ (b : List ℕ). take gate b) staged.is ∙ take_at (front entries) (staged.g ∷ text) gate long in
    let behind : drop (gate + 1) old ≡ text =
    ap (λ (b : List ℕ). drop (gate + 1) b) (staged.is ∙ sym (append_assoc (front entries) (staged.g ∷ []) text)) ∙ drop_at (front entries ++ staged.g ∷ []) text (gate + 1) (omega (arith, long, length-append (front entries) (staged.g ∷ []))) in
    holds ∙ ap (λ (u : List ℕ). u ++ (1 ∷ []) ++ drop (gate + 1) old) before ∙ ap (λ (u : List ℕ). front entries ++ (1 ∷ []) ++ u) behind ∙ append_assoc (front entries) (1 ∷ []) text

pub written_gate : (entries : List (List ℕ)) (gate : ℕ) (entry old new : List ℕ) → Staged entries gate (appended entry) old → Holds old gate (1 ∷ []) new → IsAtRest (entries ++ entry ∷ []) (gate + length (appended entry)) new
written_gate entries gate entry old new staged holds =
    at_rest_after entries gate entry staged.rest new staged.place (gate_bytes entries gate entry old new staged holds)

-- just the bytes of the longer log stand, and past them what stood there before
pub appended_bytes : (entries : List (List ℕ)) (gate : ℕ) (entry old mid new : List ℕ) → IsAtRest entries gate old → Holds old (gate + 1) (appended entry) mid → Holds mid gate (1 ∷ []) new → IsAppended (entries ++ entry ∷ []) old new
unfolding written_behind
appended_bytes entries gate entry old mid new rests first second =
    let staged = written_behind entries gate (appended entry) old mid rests first in
    let longer = entries ++ entry ∷ [] in
    let size : gate + 1 + length (appended entry) ≡ length (log_bytes longer) =
    omega (arith, rests.place, next_place entries entry, long_front longer, length-append (front longer) (0 ∷ [])) in
    gate_bytes entries gate entry mid new staged second ∙ opened entries entry staged.rest ∙ sym (append_assoc (front longer) (0 ∷ []) staged.rest)
    ∙ ap (λ (n : ℕ). log_bytes longer ++ drop n old) size

-- each image after the first write, of a disk that held one image alone
pub first_write : (entries : List (List ℕ)) (gate n : ℕ) (entry old c : List ℕ) (may_leave : List ℕ → Type 0) → gate < 18446744073709551616 → IsAtRest entries gate old → Only old may_leave → Written (gate + 1) n may_leave c → IsBeforeOrAfter entries entry (read_log c)
first_write entries gate n entry old c may_leave small rests only written =
    inl (opens entries gate c small (torn_behind entries gate n old c rests (subst (λ (d : List ℕ). Torn (gate + 1) n d c) (only written.0 written.1) written.2)))

-- and after the second
pub second_write : (entries : List (List ℕ)) (gate : ℕ) (entry old c : List ℕ) (may_leave : List ℕ → Type 0) → gate + length (appended entry) < 18446744073709551616 → Staged entries gate (appended entry) old → Only old may_leave → Written gate 1 may_leave c → IsBeforeOrAfter entries entry (read_log c)
second_write entries gate entry old c may_leave small staged only written =
    torn_gate entries gate entry old c small staged (subst (λ (d : List ℕ). Torn gate 1 d c) (only written.0 written.1) written.2)
