-- The table of Depths, of a file without a fault: each site has the Depth of its part, and none is above the limit.
use Rattle.std.proofs.Common.{◌≡◌, ℕ, ◌<◌, ◌≤◌, sym, ap, ◌∙◌, arith, List, length, get_or}
use Rattle.std.proofs.lemmas.Bool.Decides.{nat_tests}
use Rattle.guard_syntax.specs.Syntax.{File}
use Rattle.rule_names.specs.Depths.{capped, depth_limit, depth_piece, depths_of}
use Rattle.rule_names.specs.Pieces.{piece_at}
use Rattle.rule_names.specs.WellNamed.{WellNamed}
use Rattle.rule_names.proofs.Settled.{mapped-long, read-mapped, settled}
use Rattle.rule_names.proofs.Shallow.{file-shallow, pieces-shallow}

capped-low : (n : ℕ) → n ≤ 200 → capped n ≡ n
capped-low n l = grind (arith, nat_tests)

module _ (f : File) where
  abbrev of_site : ℕ → ℕ
  of_site n = capped (depth_piece f (depths_of f) (piece_at f n))

  pub depth-each : length (depths_of f) ≡ length f.places
  depth-each = sym (ap (λ (t : List ℕ). length t) (settled f)) ∙ mapped-long of_site (length f.places)

  module _ (well : WellNamed f) (n : ℕ) where
    pub depth-most : depth_piece f (depths_of f) (piece_at f n) ≤ depth_limit
    depth-most = pieces-shallow f (depths_of f) (file-shallow f well.shallow) n

    pub depth-of-piece : n < length f.places → get_or (depths_of f) n 0 ≡ depth_piece f (depths_of f) (piece_at f n)
    depth-of-piece within =
        sym (ap (λ (t : List ℕ). get_or t n 0) (settled f)) ∙ read-mapped of_site (length f.places) n within
        ∙ capped-low (depth_piece f (depths_of f) (piece_at f n)) depth-most
