-- Where a scalar stands, each text that agrees with this one through the byte that shows its end has the same scalar there.
use Rattle.std.proofs.Common.{◌≡◌, ℕ, ◌+◌, ◌≤◌, Bool, true, false, List, ◌∷◌, ◌++◌, length, drop, sym, ap, ◌∙◌, cond}
use Rattle.yaml_scalars.specs.declared.scalar.Setting.{Setting}
use Rattle.yaml_scalars.specs.Lines.{Stands, begins_break, lines}
use Rattle.yaml_laws.specs.code.Agreement.{out_shown, plain_shown, scalar_shown}
use Rattle.yaml_scalars.specs.code.Walk.{line_at}
use Rattle.yaml_scalars.specs.Scalar.{begins_quoted, begins_block, plain_scalar, quoted_scalar, block_scalar, scalar_at}
use Rattle.yaml_laws.proofs.BlockStays.{block_stays}
use Rattle.yaml_laws.proofs.PlainLines.{plain_stay}
use Rattle.yaml_laws.proofs.QuotedStays.{quoted_stays}
use Rattle.yaml_laws.proofs.ScalarLaw.{quoted_same, block_same}

pub scalar_stays : (s : Setting) (before rest more : List ℕ) (b at : ℕ) (t : List ℕ) (e : ℕ) → at ≤ length before → begins_break b rest ≡ begins_break b more → scalar_shown s (before ++ (b ∷ rest)) at e ≤ length before → scalar_at s (before ++ (b ∷ rest)) at ≡ Stands t e → scalar_at s (before ++ (b ∷ more)) at ≡ Stands t e
scalar_stays s before rest more b at t e low feed near h =
    ap (λ q. cond q (quoted_scalar s (before ++ (b ∷ more)) at) (cond (begins_block s (drop at (before ++ (b ∷ more)))) (block_scalar s (before ++ (b ∷ more)) at) (plain_scalar s (before ++ (b ∷ more)) at))) (sym (quoted_same before b rest more at low))
    ∙ ap (λ q. cond (begins_quoted (drop at (before ++ (b ∷ rest)))) (quoted_scalar s (before ++ (b ∷ more)) at) (cond q (block_scalar s (before ++ (b ∷ more)) at) (plain_scalar s (before ++ (b ∷ more)) at))) (sym (block_same s before b rest more at low))
    ∙ by_kind (begins_quoted (drop at (before ++ (b ∷ rest)))) (begins_block s (drop at (before ++ (b ∷ rest)))) near h where
      by_kind : (q r : Bool) → cond q e (cond r (e + out_shown (line_at (drop e (before ++ (b ∷ rest))))) (plain_shown s (length (before ++ (b ∷ rest))) (lines at (drop at (before ++ (b ∷ rest)))))) ≤ length before
          → cond q (quoted_scalar s (before ++ (b ∷ rest)) at) (cond r (block_scalar s (before ++ (b ∷ rest)) at) (plain_scalar s (before ++ (b ∷ rest)) at)) ≡ Stands t e
          → cond q (quoted_scalar s (before ++ (b ∷ more)) at) (cond r (block_scalar s (before ++ (b ∷ more)) at) (plain_scalar s (before ++ (b ∷ more)) at)) ≡ Stands t e
      by_kind true r near h = quoted_stays s before rest more b at t e low near h
      by_kind false true near h = block_stays s before rest more b at t e low near h
      by_kind false false near h = plain_stay before rest more b feed s at t e low near h
