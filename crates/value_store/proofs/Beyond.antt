-- Numbers past the sites of a file are those of no part.
use Rattle.std.proofs.Common.{◌≡◌, ℕ, zero, suc, ◌+◌, ◌<◌, ◌≤◌, length, None, cond, refl, ap, ◌∙◌, arith}
use Rattle.std.specs.Prelude.{◌==◌}
use Rattle.std.proofs.lemmas.Bool.Decides.{nat_tests}
use Rattle.guard_syntax.specs.Sites.{upto, sites_file}
use Rattle.guard_syntax.specs.Syntax.{File}
use Rattle.rule_names.specs.Pieces.{OfFile, pieces_file, piece_at, AreInOrder}
use Rattle.rule_names.proofs.Increases.{times}
use Rattle.rule_names.proofs.Parts.{Ties, ties-cons, ties-merge, absent}
use Rattle.rule_names.proofs.Tied.{tied-lets, tied-rules, tied-disjs}

at_none : (n x k : ℕ) → x < n → k ≡ 0 → cond (x == n) 1 0 + k ≡ 0
at_none n x k less none = grind (arith, nat_tests)

upto-none : (n low many : ℕ) → low + many ≤ n → times n (upto low many) ≡ 0
upto-none n low zero h = refl
upto-none n low (suc many) h = at_none n low (times n (upto (suc low) many)) (omega arith) (upto-none n (suc low) many (omega arith))

tied-file : (f : File) → Ties (pieces_file f) (sites_file f)
tied-file f = ties-cons 0 OfFile _ _ (ties-merge _ _ _ _ (tied-lets f.lets) (ties-merge _ _ _ _ (tied-rules f.rules) (tied-disjs f.loose)))

pub beyond : (f : File) (n : ℕ) → AreInOrder f → length f.places ≤ n → piece_at f n ≡ None
beyond f n order past = absent n (pieces_file f) (sites_file f) (tied-file f) (ap (times n) order ∙ upto-none n 0 (length f.places) (omega arith))
