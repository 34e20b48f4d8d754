-- Depth: the larger of two, and the Depth of what stands at a site.
use Rattle.std.proofs.Common.{◌≡◌, ℕ, ◌+◌, ◌≤◌, ◌<◌, sym, ap, ◌∙◌, inl, inr, arith, List, length, get_or}
use Rattle.std.proofs.lemmas.Bool.{cases_lt}
use Rattle.std.proofs.lemmas.Bool.Decides.{nat_tests}
use Rattle.guard_syntax.specs.Syntax.{File}
use Rattle.rule_names.specs.Depths.{larger, capped, depth_at, depth_limit, depth_piece, deepened}
use Rattle.rule_names.specs.Pieces.{AreInOrder, piece_at}
use Rattle.rule_names.proofs.Settled.{read-mapped}
use Rattle.value_store.proofs.Beyond.{beyond}

-- ---- numbers

-- what holds of the larger of two, holds of both
pub larger-first : (m n w k : ℕ) → larger m n + w ≤ k → m + w ≤ k
larger-first m n w k h = grind (arith, nat_tests)

pub larger-second : (m n w k : ℕ) → larger m n + w ≤ k → n + w ≤ k
larger-second m n w k h = grind (arith, nat_tests)

capped-above : (n : ℕ) → n ≤ depth_limit → n ≤ capped n
capped-above n h = grind (arith, nat_tests)

module _ (f : File) (depths : List ℕ) where
  -- ---- sites

  module _ (settled : deepened f depths ≡ depths) (ordered : AreInOrder f) where
    abbrev by_piece : ℕ → ℕ
    by_piece n = capped (depth_piece f depths (piece_at f n))

    at-site : (site : ℕ) → site < length f.places → depth_at f depths site ≡ by_piece site
    at-site site h = ap (λ (ds : List ℕ). get_or ds site 0) (sym settled) ∙ read-mapped by_piece (length f.places) site h

    -- what stands at a site is no deeper than the table says there, where nothing is too deep
    pub piece-depth : ((site : ℕ) → depth_piece f depths (piece_at f site) ≤ depth_limit) → (site : ℕ) → depth_piece f depths (piece_at f site) ≤ depth_at f depths site
    piece-depth shallow site = elim (cases_lt site (length f.places)) [
      | inl q ↦
          let e = at-site site q in
          let bound = capped-above (depth_piece f depths (piece_at f site)) (shallow site) in
          omega (arith, e, bound)
      | inr q ↦
          let e : depth_piece f depths (piece_at f site) ≡ 0 = ap (depth_piece f depths) (beyond f site ordered (omega (arith, q))) in
          omega (arith, e)
    ]
