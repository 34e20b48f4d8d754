-- The table of Depths that a walk over a file makes.
use Rattle.std.proofs.Common.{◌≡◌, ℕ, ◌+◌, ◌<◌, ◌≤◌, ◌⊎◌, inl, inr, Bool, cond, refl, sym, ap, ◌∙◌, subst, arith, List, [], ◌∷◌, ◌++◌, length, get_or, map, take, Option, Some, None, replicate}
use Rattle.std.specs.Prelude.{◌==◌}
use Rattle.std.proofs.lemmas.Bool.Decides.{nat_tests}
use Rattle.std.proofs.lemmas.List.{ext_get_or, get_or-replicate, length-replicate}
use Rattle.guard_syntax.specs.Syntax.{File}
use Rattle.guard_syntax.specs.declared.syntax.RawFile.{RawFile}
use Rattle.guard_syntax.specs.declared.syntax.Let.{Let}
use Rattle.guard_syntax.specs.declared.syntax.Rule.{Rule}
use Rattle.guard_syntax.specs.declared.syntax.Disj.{Disj}
use Rattle.guard_syntax.specs.code.Seen.{see_file, see_let, see_rule, see_disj, let_list, disj_list}
use Rattle.guard_syntax.specs.Sites.{upto}
use Rattle.rule_names.specs.Depths.{larger, capped, depth_lets, depth_disjs, depth_rule, depth_piece, deepened}
use Rattle.name_table.specs.code.Measured.{IsAmong, IsNotedAt, Measured}
use Rattle.name_table.specs.code.Measures.{depth_items, depth_rules}
use Rattle.rule_names.specs.Pieces.{Piece, Sited, OfFile, AreInOrder, piece_in, piece_at, pieces_file, pieces_lets, pieces_rules, pieces_rule, pieces_disjs}
use Rattle.rule_names.proofs.FileParts.{file_tied, file-has}
use Rattle.name_table.proofs.Measuring.{same_or_not, measured-both, plain-site, items-next}
use Rattle.rule_names.proofs.Parts.{hits, here, elsewhere}
use Rattle.rule_names.proofs.Increases.{times, once, upto-rises}
use Rattle.rule_names.proofs.Settled.{read-mapped, mapped-long}

-- ---- the piece of a site

in_among : (n : ℕ) (ps : List Sited) (p : Piece) → piece_in ps n ≡ Some p → IsAmong (n, p) ps
in_among n [] p is = absurd cc
in_among n (x ∷ ps) p is = either_case (in_among n ps p) (same_or_not x.0 n)
  where
    either_case : (piece_in ps n ≡ Some p → IsAmong (n, p) ps) → (x.0 ≡ n) ⊎ (x.0 ≡ n → ⊥) → IsAmong (n, p) (x ∷ ps)
    either_case later (inl same) =
        let found = here n x.0 x.1 ps same in
        let piece : x.1 ≡ p = cc in
        inl (ap (λ (k : ℕ). let s : Sited = (k, x.1) in s) same ∙ ap (λ (q : Piece). let s : Sited = (n, q) in s) piece)
    either_case later (inr other) = inr (later (sym (elsewhere n x.0 x.1 ps other) ∙ is))

hit : (n m k : ℕ) → m ≡ n → 1 ≤ cond (m == n) 1 0 + k
hit n m k same = grind (arith, nat_tests)

hit_last : (n m k : ℕ) → m ≡ n → 1 ≤ k → cond (m == n) 1 0 + k ≤ 1 → ⊥
hit_last n m k same more one = grind (arith, nat_tests)

less_hits : (v : Bool) (k : ℕ) → cond v 1 0 + k ≤ 1 → k ≤ 1
less_hits v k one = omega arith

among_hits : (n : ℕ) (p : Piece) (ps : List Sited) → IsAmong (n, p) ps → 1 ≤ hits n ps
among_hits n p [] h = absurd h
among_hits n p (x ∷ ps) (inl is) = hit n x.0 (hits n ps) (ap (λ (s : Sited). s.0) is)
among_hits n p (x ∷ ps) (inr h) = let more = among_hits n p ps h in omega arith

-- where each site is that of one piece
among_in : (n : ℕ) (p : Piece) (ps : List Sited) → hits n ps ≤ 1 → IsAmong (n, p) ps → piece_in ps n ≡ Some p
among_in n p [] one h = absurd h
among_in n p (x ∷ ps) one (inl is) = here n x.0 x.1 ps (ap (λ (s : Sited). s.0) is) ∙ ap (λ (s : Sited). Some s.1) is
among_in n p (x ∷ ps) one (inr h) = either_case (among_in n p ps (less_hits (x.0 == n) (hits n ps) one) h) (same_or_not x.0 n)
  where
    either_case : piece_in ps n ≡ Some p → (x.0 ≡ n) ⊎ (x.0 ≡ n → ⊥) → piece_in (x ∷ ps) n ≡ Some p
    either_case later (inl same) = absurd (hit_last n x.0 (hits n ps) same (among_hits n p ps h) one)
    either_case later (inr other) = elsewhere n x.0 x.1 ps other ∙ later

file_once : (f : RawFile) (n : ℕ) → AreInOrder (see_file f) → hits n (pieces_file (see_file f)) ≤ 1
file_once f n h =
    let same = (file_tied f.rules.items f.loose.items f.lets.items).same n in
    let there = ap (times n) h in
    let one = once n 0 (upto 0 (length f.places)) (upto-rises 0 (length f.places)) in
    omega arith

-- ---- the whole table

some_piece : (o : Option Piece) → (o ≡ None → ⊥) → (p : Piece) × (o ≡ Some p)
some_piece None h = absurd (h refl)
some_piece (Some p) h = (p, refl)

site_is : (f : RawFile) (depths : List ℕ) (n new : ℕ) → AreInOrder (see_file f) → n < length f.places → IsNotedAt (see_file f) depths (pieces_file (see_file f)) n 0 new
    → new ≡ capped (depth_piece (see_file f) depths (piece_at (see_file f) n))
site_is f depths n new order within (inl h) =
    let found = some_piece (piece_at (see_file f) n) (file-has f n order within) in
    h.0 ∙ ap capped (sym (h.1 found.0 (in_among n (pieces_file (see_file f)) found.0 found.1)) ∙ ap (depth_piece (see_file f) depths) (sym found.1))
site_is f depths n new order within (inr h) =
    h.2 ∙ ap (λ (o : Option Piece). capped (depth_piece (see_file f) depths o)) (sym (among_in n h.0 (pieces_file (see_file f)) (file_once f n order) h.1))

pub table-is : (f : RawFile) (depths : List ℕ) (d : ℕ) (b a : List ℕ) (r : ℕ) → AreInOrder (see_file f) → b ≡ replicate (length f.places) 0
    → Measured (see_file f) depths (pieces_file (see_file f)) d b a r → a ≡ deepened (see_file f) depths
table-is f depths d b a r order zeros m =
    let g = λ (n : ℕ). capped (depth_piece (see_file f) depths (piece_at (see_file f) n)) in
    let count = length f.places in
    let before : length b ≡ count = ap length zeros ∙ length-replicate count 0 in
    ext_get_or 0 a (deepened (see_file f) depths) (m.long ∙ before ∙ sym (mapped-long g count))
    (λ i within.
    let inside : i < count = omega (arith, m.long) in
    let empty : get_or b i 0 ≡ 0 = ap (λ (t : List ℕ). get_or t i 0) zeros ∙ get_or-replicate count i 0 0 inside in
    site_is f depths i (get_or a i 0) order inside
    (subst (λ (old : ℕ). IsNotedAt (see_file f) depths (pieces_file (see_file f)) i old (get_or a i 0)) empty (m.sites i (omega arith)))
    ∙ sym (read-mapped g count i inside))

-- ---- the walk over a file

pub rules-next : (f : File) (depths : List ℕ) (xs : List Rule) (i : ℕ) (x : Rule) (b m a : List ℕ) (r s t : ℕ) → i < length xs → x ≡ get_or xs i x
    → Measured f depths (pieces_rules (map see_rule (take i xs))) (depth_rules f depths (map see_rule (take i xs))) b m r
    → Measured f depths (pieces_rule (see_rule x)) (depth_rule f depths (see_rule x)) m a s → t ≡ larger r s
    → Measured f depths (pieces_rules (map see_rule (take (i + 1) xs))) (depth_rules f depths (map see_rule (take (i + 1) xs))) b a t
rules-next f depths xs i x b m a r s t within at before now is =
    items-next f depths (λ (k : ℕ) (l : List Rule). pieces_rules (map see_rule l)) (λ (k : ℕ) (y : Rule). pieces_rule (see_rule y)) (λ (l : List Rule). depth_rules f depths (map see_rule l)) (λ (y : Rule). depth_rule f depths (see_rule y))
    (λ k. refl) (λ k y ys. refl) refl (λ y ys. refl) xs i x b m a r s t within at before now is

pub file-walked : (f : RawFile) (depths : List ℕ) (ls : List Let) (rs : List Rule) (ds : List Disj) (b m k a : List ℕ) (r s t u v : ℕ) → ls ≡ f.lets.items → rs ≡ f.rules.items → ds ≡ f.loose.items
    → Measured (see_file f) depths (pieces_lets (let_list (map see_let ls))) (depth_lets (see_file f) depths (let_list (map see_let ls))) b m r
    → Measured (see_file f) depths (pieces_rules (map see_rule rs)) (depth_rules (see_file f) depths (map see_rule rs)) m k s
    → Measured (see_file f) depths (pieces_disjs (disj_list (map see_disj ds))) (depth_disjs (see_file f) depths (disj_list (map see_disj ds))) k a t
    → u ≡ larger s t → v ≡ larger r u → Measured (see_file f) depths (pieces_file (see_file f)) (depth_items (see_file f) depths) b a v
file-walked f depths ls rs ds b m k a r s t u v are be too x y z two three =
    let file = see_file f in
    let lets = subst (λ (l : List Let). Measured file depths (pieces_lets (let_list (map see_let l))) (depth_lets file depths (let_list (map see_let l))) b m r) are x in
    let rules = subst (λ (l : List Rule). Measured file depths (pieces_rules (map see_rule l)) (depth_rules file depths (map see_rule l)) m k s) be y in
    let loose = subst (λ (l : List Disj). Measured file depths (pieces_disjs (disj_list (map see_disj l))) (depth_disjs file depths (disj_list (map see_disj l))) k a t) too z in
    plain-site file depths 0 OfFile _ _ b a v refl
    (measured-both file depths _ _ _ _ b m a r u v lets (measured-both file depths _ _ _ _ m k a s t u rules loose two) three)

-- a table that is written back whole
pub written : (n : ℕ) (a rest : List ℕ) → length a ≡ n → take n (a ++ rest) ≡ a
written n a rest long = ap (λ (k : ℕ). take k (a ++ rest)) (sym long) ∙ whole a rest
  where
    whole : (xs ys : List ℕ) → take (length xs) (xs ++ ys) ≡ xs
    whole [] ys = refl
    whole (x ∷ xs) ys = ap (λ (l : List ℕ). x ∷ l) (whole xs ys)
