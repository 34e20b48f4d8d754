-- The piece of a site: no other piece of a file has it, so what stands in the file is found at its own site.
use Rattle.std.proofs.Common.{◌≡◌, ℕ, ◌+◌, ◌≤◌, ◌++◌, List, ◌∷◌, length, cond, true, arith, refl, ap, ◌∙◌, subst, Some}
use Rattle.std.specs.Prelude.{◌==◌}
use Rattle.std.proofs.lemmas.Bool.Decides.{nat_tests}
use Rattle.guard_syntax.specs.Syntax.{File}
use Rattle.guard_syntax.specs.Sites.{upto, merge, sites_file, sites_lets, sites_rules, sites_disjs}
use Rattle.rule_names.specs.Pieces.{Sited, Piece, OfFile, piece_in, piece_at, pieces_file, pieces_lets, pieces_rules, pieces_disjs, AreInOrder}
use Rattle.rule_names.proofs.Increases.{times, once, upto-rises}
use Rattle.rule_names.proofs.Parts.{Ties, hits, hits-append, no-hit, not-first, here, ties-cons, ties-merge}
use Rattle.rule_names.proofs.Tied.{tied-lets, tied-rules, tied-disjs}
use Rattle.rule_names.specs.code.Within.{StandsIn}

-- the pieces of a file have its sites
pub file-tied : (f : File) → Ties (pieces_file f) (sites_file f)
file-tied f =
    ties-cons 0 OfFile (pieces_lets f.lets ++ (pieces_rules f.rules ++ pieces_disjs f.loose)) (merge (sites_lets f.lets) (merge (sites_rules f.rules) (sites_disjs f.loose)))
    (ties-merge (pieces_lets f.lets) (pieces_rules f.rules ++ pieces_disjs f.loose) (sites_lets f.lets) (merge (sites_rules f.rules) (sites_disjs f.loose)) (tied-lets f.lets)
    (ties-merge (pieces_rules f.rules) (pieces_disjs f.loose) (sites_rules f.rules) (sites_disjs f.loose) (tied-rules f.rules) (tied-disjs f.loose)))

-- so a site of a file is that of one piece
pub hit-once : (f : File) (n : ℕ) → AreInOrder f → hits n (pieces_file f) ≤ 1
hit-once f n order =
    let e : hits n (pieces_file f) ≡ times n (upto 0 (length f.places)) = (file-tied f).same n ∙ ap (times n) order in
    omega (arith, e, once n 0 (upto 0 (length f.places)) (upto-rises 0 (length f.places)))

-- and a piece with it is the first with it
found-once : (n : ℕ) (q : Piece) (before after : List Sited) → hits n (before ++ ((n, q) ∷ after)) ≤ 1
    → piece_in (before ++ ((n, q) ∷ after)) n ≡ Some q
found-once n q before after one =
    let same : (n == n) ≡ true = grind (arith, nat_tests) in
    let hit : hits n ((n, q) ∷ after) ≡ 1 + hits n after = ap (λ b. cond b 1 0 + hits n after) same in
    let none : hits n before ≡ 0 = omega (arith, one, hits-append n before ((n, q) ∷ after), hit) in
    not-first n before ((n, q) ∷ after) (no-hit n before none) ∙ here n n q after refl

-- what stands in a file is found at its site
pub piece-found : (f : File) (n : ℕ) (q : Piece) (more : List Sited) → AreInOrder f → StandsIn f ((n, q) ∷ more) → piece_at f n ≡ Some q
piece-found f n q more order (before, after, is) =
    let once : hits n (before ++ ((n, q) ∷ (more ++ after))) ≤ 1 = subst (λ ps. hits n ps ≤ 1) is (hit-once f n order) in
    ap (λ ps. piece_in ps n) is ∙ found-once n q before (more ++ after) once
