-- The sites of the rules that are reported, by their names, as the code has them.
use Rattle.std.specs.Prelude.{◌≡◌, ℕ, List, Option, Some, codes, is_some}
use Rattle.std.specs.Borrow.{Bor}
use Rattle.std.specs.Ordering.{nat_cmp}
use Rattle.std.specs.Cmp.Lexicographic.{slice_cmp}
use Rattle.std.specs.BTreeMap.{BTreeMap, get_by}
use Rattle.guard_syntax.specs.Syntax.{File}
use Rattle.rule_names.specs.Duplicates.{is_among}
use Rattle.rule_names.specs.Pieces.{Piece, OfRule, piece_at}

-- the name of a rule; the parts outside rules, which are the file's own piece, are `default`
abbrev pub name_of_piece : Option Piece → List ℕ
name_of_piece (Some (OfRule rule)) = rule.name.text
name_of_piece _ = codes "default"

abbrev pub name_of_site : File → ℕ → List ℕ
name_of_site file site = name_of_piece (piece_at file site)

-- a map has some names, and at each a site with that name
pub record AreSites (file : File) (names : List (List ℕ)) (sites : BTreeMap (Bor (List ℕ)) ℕ) : Type 0 where
  pub named : (name : List ℕ) (site : ℕ) → get_by (λ k. slice_cmp nat_cmp name k.now) sites ≡ Some site → name_of_site file site ≡ name
  pub whole : (name : List ℕ) → is_some (get_by (λ k. slice_cmp nat_cmp name k.now) sites) ≡ is_among name names
