-- The patterns of a rule file.
use Rattle.std.specs.Prelude.{ℕ, Bool, true, false, ◌&&◌, ◌==◌, List, [], ◌∷◌, ◌++◌, length, Option, Some, None, option_and_then, if◌then◌else◌}
use Rattle.std.specs.List.{flat_map, list_any}
use Rattle.std.specs.Option.{option_map_or}
use Rattle.std.specs.Str.{bytes_eq}
use Rattle.doc_values.specs.Tree.{Label, Forest, Nil, Node}
use Rattle.guard_syntax.specs.Functions.{name_of}
use Rattle.guard_syntax.specs.Sites.{upto}
use Rattle.guard_syntax.specs.Syntax.{File, Expr, Exprs, literal, function}
use Rattle.guard_syntax.specs.declared.function.Function.TheVariants.{RegexReplace}
use Rattle.rule_names.specs.Pieces.{Piece, OfExpr, piece_at}
use Rattle.rule_names.specs.Uses.{expr_in}
use Rattle.rule_meaning.specs.Values.{is_pattern, is_text}

-- the text of a pattern, and the byte offset of the slash or quote that opens it
pub record Written : Type 0 where
  pub text : List ℕ
  pub at : ℕ

abbrev pub written_if : Bool → Label → List Written
written_if true l = record { text = l.text; at = l.at } ∷ []
written_if false l = []

-- the patterns among values side by side and in them, in document order
abbrev pub patterns_in : Forest → List Written
patterns_in Nil = []
patterns_in (Node l kids rest) = written_if (is_pattern l.kind) l ++ (patterns_in kids ++ patterns_in rest)

-- the site of a literal
abbrev pub literal_site : Option Expr → Option ℕ
literal_site (Some (literal n tree)) = Some n
literal_site _ = None

-- a call of `regex_replace` reads a pattern from its second argument, where that is a literal: the site of it
abbrev pub sought_by : Expr → Option ℕ
sought_by (function n name es) = if bytes_eq name (name_of RegexReplace) then literal_site (expr_in es 1) else None
sought_by _ = None

abbrev pub sought_by_piece : Piece → Option ℕ
sought_by_piece (OfExpr e) = sought_by e
sought_by_piece _ = None

abbrev pub sought_at : File → ℕ → Option ℕ
sought_at f n = option_and_then sought_by_piece (piece_at f n)

abbrev pub is_site : ℕ → Option ℕ → Bool
is_site site (Some n) = n == site
is_site site None = false

-- a call of the file reads a pattern from the literal of a site
abbrev pub is_sought : File → ℕ → Bool
is_sought f site = list_any (λ n. is_site site (sought_at f n)) (upto 0 (length f.places))

-- the text that a literal is, where a pattern is read from it
abbrev pub sought_text : Bool → Forest → List Written
sought_text sought Nil = []
sought_text sought (Node l kids rest) = written_if (sought && is_text l.kind) l

-- the patterns of a literal, and its text where a pattern is read from that; nothing else has any
abbrev pub patterns_of_expr : Bool → Expr → List Written
patterns_of_expr sought (literal n tree) = sought_text sought tree ++ patterns_in tree
patterns_of_expr sought _ = []

abbrev pub patterns_of_piece : Bool → Piece → List Written
patterns_of_piece sought (OfExpr e) = patterns_of_expr sought e
patterns_of_piece sought _ = []

abbrev pub patterns_at : File → ℕ → List Written
patterns_at f n = option_map_or (patterns_of_piece (is_sought f n)) (piece_at f n) []

-- the patterns of a file in the order of its sites, which is that of their places
abbrev pub patterns_of : File → List Written
patterns_of f = flat_map (patterns_at f) (upto 0 (length f.places))
