-- A table in which the parts of a file were noted in turn has the part of each site: no two parts have one site, and each site has one.
use Rattle.std.proofs.Common.{◌≡◌, ℕ, ◌+◌, ◌<◌, ◌≤◌, Bool, true, false, cond, arith, refl, sym, ap, ◌∙◌, List, [], ◌∷◌, length, Option, Some, None}
use Rattle.std.specs.Prelude.{◌==◌, nat_lt, if◌then◌else◌, slice_get, slice_set}
use Rattle.std.proofs.lemmas.Bool.Decides.{nat_tests}
use Rattle.std.proofs.lemmas.Grind.{get_or-set_at}
use Rattle.std.proofs.lemmas.List.{length-set, get_or-set_other}
use Rattle.std.proofs.lemmas.Option.{slice_get-get_or, slice_get_past}
use Rattle.guard_syntax.specs.Syntax.{File}
use Rattle.guard_syntax.specs.Sites.{upto}
use Rattle.rule_names.specs.Pieces.{Piece, Sited, piece_in, pieces_file, AreInOrder}
use Rattle.rule_names.specs.code.PieceTables.{with_piece, with_pieces, IsTableOf}
use Rattle.rule_names.proofs.Increases.{times, upto-has, upto-past}
use Rattle.rule_names.proofs.Parts.{hits, either, here, elsewhere, no-hit, not-in}
use Rattle.rule_names.proofs.PiecesFound.{file-tied, hit-once}

length-if : (b : Bool) (t : List Piece) (p : Sited) → length (if b then slice_set t p.0 p.1 else t) ≡ length t
length-if true t p = length-set t p.0 p.1
length-if false t p = refl

length-with : (t : List Piece) (p : Sited) → length (with_piece t p) ≡ length t
length-with t p = length-if (nat_lt p.0 (length t)) t p

-- what is noted takes no room
pub length-table : (ps : List Sited) (t : List Piece) → length (with_pieces t ps) ≡ length t
length-table [] t = refl
length-table (p ∷ ps) t = length-table ps (with_piece t p) ∙ length-with t p

-- ---- what one part changes

at-own : (t : List Piece) (p : Sited) (n : ℕ) → n < length t → p.0 ≡ n → slice_get (with_piece t p) n ≡ Some p.1
at-own t p n within same =
    let inside : nat_lt p.0 (length t) ≡ true = grind (arith, nat_tests) in
    let long : n < length (slice_set t p.0 p.1) = omega (arith, length-set t p.0 p.1) in
    ap (λ (b : Bool). slice_get (if b then slice_set t p.0 p.1 else t) n) inside
    ∙ slice_get-get_or (slice_set t p.0 p.1) n p.1 long ∙ ap Some (get_or-set_at t p.0 n p.1 p.1 (sym same) (omega arith))

at-other : (t : List Piece) (p : Sited) (n : ℕ) → n < length t → (p.0 ≡ n → ⊥) → slice_get (with_piece t p) n ≡ slice_get t n
at-other t p n within other = by (nat_lt p.0 (length t))
  where
    by : (b : Bool) → slice_get (if b then slice_set t p.0 p.1 else t) n ≡ slice_get t n
    by true =
        let long : n < length (slice_set t p.0 p.1) = omega (arith, length-set t p.0 p.1) in
        slice_get-get_or (slice_set t p.0 p.1) n p.1 long ∙ ap Some (get_or-set_other t p.0 n p.1 p.1 (λ e. other (sym e))) ∙ sym (slice_get-get_or t n p.1 within)
    by false = refl

-- ---- what parts change, of which one at most has a site

fewer : (b : Bool) (k : ℕ) → cond b 1 0 + k ≤ 1 → k ≤ 1
fewer true k e = omega arith
fewer false k e = omega arith

noted-in : (n : ℕ) (ps : List Sited) (t : List Piece) → n < length t → hits n ps ≤ 1 → slice_get (with_pieces t ps) n ≡ either (piece_in ps n) (slice_get t n)
noted-in n [] t within one = refl
noted-in n (p ∷ ps) t within one =
    by (p.0 == n) refl (noted-in n ps (with_piece t p) (omega (arith, length-with t p)) (fewer (p.0 == n) (hits n ps) one))
  where
    by : (b : Bool) → (p.0 == n) ≡ b → slice_get (with_pieces (with_piece t p) ps) n ≡ either (piece_in ps n) (slice_get (with_piece t p) n)
        → slice_get (with_pieces (with_piece t p) ps) n ≡ either (piece_in (p ∷ ps) n) (slice_get t n)
    by true e rest =
        let same : p.0 ≡ n = grind (arith, nat_tests) in
        let hit : hits n (p ∷ ps) ≡ 1 + hits n ps = ap (λ b. cond b 1 0 + hits n ps) e in
        let none : hits n ps ≡ 0 = omega (arith, one, hit) in
        rest ∙ ap (λ o. either o (slice_get (with_piece t p) n)) (no-hit n ps none) ∙ at-own t p n within same
        ∙ sym (ap (λ o. either o (slice_get t n)) (here n p.0 p.1 ps same))
    by false e rest =
        let other : p.0 ≡ n → ⊥ = λ same. grind (arith, nat_tests) in
        rest ∙ ap (either (piece_in ps n)) (at-other t p n within other) ∙ sym (ap (λ o. either o (slice_get t n)) (elsewhere n p.0 p.1 ps other))

-- ---- a file

settled : (o rest : Option Piece) → (o ≡ None → ⊥) → either o rest ≡ o
settled None rest h = absurd (h refl)
settled (Some q) rest h = refl

pub table-made : (f : File) (t : List Piece) → AreInOrder f → length t ≡ length f.places → IsTableOf f (with_pieces t (pieces_file f))
table-made f t order long n = by (nat_lt n (length t)) refl
  where
    times_in : hits n (pieces_file f) ≡ times n (upto 0 (length f.places))
    times_in = (file-tied f).same n ∙ ap (times n) order

    by : (b : Bool) → nat_lt n (length t) ≡ b → slice_get (with_pieces t (pieces_file f)) n ≡ piece_in (pieces_file f) n
    by true e =
        let within : n < length t = grind (arith, nat_tests) in
        let there : 1 ≤ times n (upto 0 (length f.places)) = upto-has n 0 (length f.places) (omega arith) (omega (arith, long, within)) in
        noted-in n (pieces_file f) t within (hit-once f n order)
        ∙ settled (piece_in (pieces_file f) n) (slice_get t n) (λ none. let no : hits n (pieces_file f) ≡ 0 = not-in n (pieces_file f) none in omega (arith, no, there, times_in))
    by false e =
        let past : length t ≤ n = grind (arith, nat_tests) in
        let none : hits n (pieces_file f) ≡ 0 = times_in ∙ upto-past n 0 (length f.places) (omega (arith, long, past)) in
        slice_get_past (with_pieces t (pieces_file f)) n (omega (arith, length-table (pieces_file f) t, past)) ∙ sym (no-hit n (pieces_file f) none)
