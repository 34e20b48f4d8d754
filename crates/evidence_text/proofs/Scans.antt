-- What the scans of `byte_lanes` say of cuts: by induction on the bytes where bytes are counted.
use Rattle.std.proofs.Common.{◌≡◌, ◌≢◌, ◌<◌, ◌≤◌, cond, ℕ, suc, Bool, true, false, List, [], ◌∷◌, ◌++◌, Option, Some, None, Result, Ok, Err, OnErr, IsOk, length, get_or, eqb, ltb, refl, sym, ap, arith, count_by}
use Rattle.std.specs.Prelude.{◌==◌}
use Rattle.std.specs.List.{position, position_or_len}
use Rattle.std.proofs.lemmas.Bool.{eq-eqb, lt-ltb, or_parts}
use Rattle.std.proofs.lemmas.List.Sums.{position_or_len_is, sum_by-append}
use Rattle.byte_lanes.specs.code.Controls.{is_control_or}
use Rattle.evidence_lines.specs.Headers.{header}
use Rattle.evidence_lines.specs.declared.version.Version.{Version}
use Rattle.evidence_text.specs.code.Memory.{HasLine}
use Rattle.evidence_text.specs.code.Reading.{cut, is_at}
use Rattle.evidence_text.proofs.Cuts.{Free, cut_missing, cut_some}

not_at : (s b : ℕ) → is_control_or s s b ≡ false → is_at s b ≡ false
not_at s b is = (or_parts _ _ is).1

-- a scan that stops at a byte that is looked for, where it would stop at it and at others
pub stops_at : (s : ℕ) (bytes : List ℕ) (at : ℕ) → ((k : ℕ) → 0 ≤ k → k < at → is_control_or s s (get_or bytes k 0) ≡ false) → at < length bytes
    → get_or bytes at 0 ≡ s → Some at ≡ position (is_at s) bytes
stops_at s bytes at before h is =
    let there : position_or_len (is_at s) bytes ≡ at =
    position_or_len_is (is_at s) bytes at 0 (omega (arith, h)) (λ k below. not_at s (get_or bytes k 0) (before k (omega arith) below)) (λ _. eq-eqb _ _ is) in
    let within : ltb at (length bytes) ≡ true = lt-ltb _ _ h in
    rw (there, within) refl

-- ---- room for lines

count_free : (s : ℕ) (bytes : List ℕ) → Free s bytes → count_by (λ x. x == s) bytes ≡ 0
count_free s [] free = refl
count_free s (b ∷ rest) free =
    let first : ◌≡◌ {A = ℕ} (cond (eqb b s) 1 0) 0 = ap (λ (t : Bool). cond t 1 0) (free 0 0 (omega arith)) in
    let others = count_free s rest (λ k d h. free (suc k) d (omega (arith, h))) in
    omega (arith, sum_by-append (λ y. cond (eqb y s) 1 0) (b ∷ []) rest, first, others)

-- where there is no room because memory is short, a newline stands in the bytes
pub wants_room : {T E : Type 0} (r : Result T E) (bytes : List ℕ) (room : ℕ) → room ≤ count_by (λ x. x == 10) bytes → (room ≡ 0 → IsOk r) → OnErr r (cut 10 bytes ≢ None)
wants_room (Ok x) bytes room few succeeds = tt
wants_room (Err e) bytes room few succeeds = λ missing.
    let none : count_by (λ x. x == 10) bytes ≡ 0 = count_free 10 bytes (cut_missing 10 bytes missing) in
    let fails : false ≡ true = succeeds (omega (arith, few, none)) in
    absurd cc

-- bytes that are cut at a newline have a line with its newline
pub has_newline : (bytes : List ℕ) (version : Version) → cut 10 bytes ≢ None → HasLine (header version ++ bytes)
has_newline bytes version some = by_cut (cut 10 bytes) refl
  where
    by_cut : (o : Option (List ℕ × List ℕ)) → cut 10 bytes ≡ o → HasLine (header version ++ bytes)
    by_cut None is = absurd (some is)
    by_cut (Some (line, rest)) is = (version, line, rest, ap (λ t. header version ++ t) (sym (cut_some 10 bytes line rest is).0))
