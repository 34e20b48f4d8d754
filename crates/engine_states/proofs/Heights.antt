-- Heights: of a part behind another that is no deeper, of any part whose load is less, and of a later step; and what falls from one function to the next.
use Rattle.std.proofs.Common.{◌≡◌, ℕ, suc, ◌+◌, ◌*◌, ◌-◌, ◌<◌, ◌≤◌, sym, subst, arith, mul-le-mul_right, length, Option, Some, None}
use Rattle.guard_syntax.specs.Syntax.{File}
use Rattle.rule_names.specs.Pieces.{Piece, OfFile, OfLet, OfRule, OfBody, OfConds, OfDisj, OfPart, OfQuery, OfStep, OfExpr}
use Rattle.engine_states.specs.code.Falling.{height, place_of}

-- ---- numbers

-- rows of a width: a lesser row, or a lesser place in a row
lesser-row : (rows least width place left : ℕ) → least < rows → left < width → least * width + left < rows * width + place
lesser-row rows least width place left less within =
    let most : suc least * width ≤ rows * width = mul-le-mul_right {m = suc least} {n = rows} width less in
    let more : suc least * width ≡ width + least * width = omega arith in
    omega (arith, most, more, within)

lesser-place : (rows least width place left : ℕ) → least ≤ rows → left < place → least * width + left < rows * width + place
lesser-place rows least width place left no_more less =
    let most : least * width ≤ rows * width = mul-le-mul_right width no_more in
    omega (arith, most, less)

-- eight functions at each height
pub next-lower : (high low step next : ℕ) → low < high → next < 8 → low * 8 + next < high * 8 + step
next-lower high low step next less small = omega (arith, less, small)

pub next-same : (high low step next : ℕ) → low ≤ high → next < step → low * 8 + next < high * 8 + step
next-same high low step next no_more less = omega (arith, no_more, less)

module _ (f : File) where
  -- no place is past the width
  pub place-within : (site : ℕ) (piece : Option Piece) → site ≤ length f.places → place_of f site piece < 2 * suc (length f.places)
  place-within site None within = omega (arith, within)
  place-within site (Some (OfStep q i)) within = omega (arith, within)
  place-within site (Some OfFile) within = omega (arith, within)
  place-within site (Some (OfLet l)) within = omega (arith, within)
  place-within site (Some (OfRule r)) within = omega (arith, within)
  place-within site (Some (OfBody b)) within = omega (arith, within)
  place-within site (Some (OfConds c)) within = omega (arith, within)
  place-within site (Some (OfDisj d)) within = omega (arith, within)
  place-within site (Some (OfPart part)) within = omega (arith, within)
  place-within site (Some (OfQuery q)) within = omega (arith, within)
  place-within site (Some (OfExpr e)) within = omega (arith, within)

  pub lower-load : (load least place left : ℕ) → least < load → left < 2 * suc (length f.places) → height f least left < height f load place
  unfolding height
  lower-load load least place left less within = lesser-row load least (2 * suc (length f.places)) place left less within

  pub lower-place : (load least place left : ℕ) → least ≤ load → left < place → height f least left < height f load place
  unfolding height
  lower-place load least place left no_more less = lesser-place load least (2 * suc (length f.places)) place left no_more less

  -- what stands behind a part that is no step has a lesser place
  module _ (site inner : ℕ) (behind : site < inner) (within : inner ≤ length f.places) where
    behind-high : (piece : Option Piece) → place_of f inner piece < suc (length f.places) + (length f.places - site)
    behind-high None = omega (arith, behind, within)
    behind-high (Some (OfStep q i)) = omega (arith, behind, within)
    behind-high (Some OfFile) = omega (arith, behind, within)
    behind-high (Some (OfLet l)) = omega (arith, behind, within)
    behind-high (Some (OfRule r)) = omega (arith, behind, within)
    behind-high (Some (OfBody b)) = omega (arith, behind, within)
    behind-high (Some (OfConds c)) = omega (arith, behind, within)
    behind-high (Some (OfDisj d)) = omega (arith, behind, within)
    behind-high (Some (OfPart part)) = omega (arith, behind, within)
    behind-high (Some (OfQuery q)) = omega (arith, behind, within)
    behind-high (Some (OfExpr e)) = omega (arith, behind, within)

    -- so it is lower, where its load is no greater and it stands behind a part that is no step
    pub behind-lower : (load least : ℕ) (piece inner_piece : Option Piece) → least ≤ load → place_of f site piece ≡ suc (length f.places) + (length f.places - site)
        → height f least (place_of f inner inner_piece) < height f load (place_of f site piece)
    behind-lower load least piece inner_piece no_more place =
        subst (λ (n : ℕ). height f least (place_of f inner inner_piece) < height f load n) (sym place)
        (lower-place load least (suc (length f.places) + (length f.places - site)) (place_of f inner inner_piece) no_more (behind-high inner_piece))

  -- a later step of a query is higher
  pub later-step : (load least site earlier : ℕ) → least ≤ load → earlier < site → suc (height f least earlier) ≤ height f load site
  later-step load least site earlier no_more before = lower-place load least site earlier no_more before
