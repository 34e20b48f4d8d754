-- What references stand for.
use Rattle.std.specs.Prelude.{ℕ, Bool, true, false, ◌==◌, ◌&&◌, List, [], ◌∷◌, Option, Some, None, option_map, option_and_then, nat_lt, if◌then◌else◌}
use Rattle.doc_values.specs.Tree.{Forest, size}
use Rattle.doc_values.specs.Places.{label_at}
use Rattle.guard_syntax.specs.Syntax.{File, Expr, literal}
use Rattle.guard_syntax.specs.declared.row.Origin.{Origin}
use Rattle.guard_syntax.specs.declared.row.Origin.TheVariants as origin
use Rattle.guard_syntax.specs.declared.row.Ref.{Ref}
use Rattle.guard_syntax.specs.declared.row.Row.{Row}
use Rattle.guard_syntax.specs.declared.row.Row.TheVariants as row
use Rattle.rule_names.specs.Pieces.{Piece, OfExpr, piece_at}
use Rattle.rule_meaning.specs.Values.{Value, value_at, value_of_key}

-- a tree that a call made, at a line and a row
pub record Made : Type 0 where
  pub line : ℕ
  pub row : ℕ
  pub tree : Forest

-- what a store is over: a template, a rule file, and the trees that calls made
pub record StoreModel : Type 0 where
  pub template : Forest
  pub file : File
  pub made : List Made

-- the tree of a literal
abbrev pub tree_of_expr : Expr → Option Forest
tree_of_expr (literal n tree) = Some tree
tree_of_expr _ = None

abbrev pub tree_of_piece : Piece → Option Forest
tree_of_piece (OfExpr e) = tree_of_expr e
tree_of_piece _ = None

abbrev pub literal_at : File → ℕ → Option Forest
literal_at f site = option_and_then tree_of_piece (piece_at f site)

-- the tree that was made at a line and a row
abbrev pub made_at : List Made → ℕ → ℕ → Option Forest
made_at [] line row = None
made_at (m ∷ ms) line row = if m.line == line && m.row == row then Some m.tree else made_at ms line row

-- the tree of an origin
abbrev pub tree_of : StoreModel → Origin → Option Forest
tree_of k origin.Template = Some k.template
tree_of k (origin.Literal site) = literal_at k.file site
tree_of k (origin.Made line row) = made_at k.made line row

-- the value of a node, or its key, which only an entry of a map has
abbrev pub value_or_key : Bool → Forest → ℕ → Option Value
value_or_key false tree n = Some (value_at tree n)
value_or_key true tree n = option_map value_of_key (label_at tree n).key

abbrev pub value_in : ℕ → Bool → Forest → Option Value
value_in n key tree = if nat_lt n (size tree) then value_or_key key tree n else None

-- what a reference stands for
abbrev pub stands_for : StoreModel → Ref → Option Value
stands_for k r = option_and_then (value_in r.node r.key) (tree_of k r.origin)

-- what a row stands for: a missing one for nothing
abbrev pub meant : StoreModel → Row → Option Value
meant k (row.Found r) = stands_for k r
meant k (row.Missing value step) = None
meant k (row.Unmade call) = None

-- whether a store knows what a row refers to
abbrev pub is_known_ref : StoreModel → Ref → Bool
is_known_ref k r = is_there (stands_for k r)
  where
    is_there : Option Value → Bool
    is_there None = false
    is_there (Some v) = true

abbrev pub is_known : StoreModel → Row → Bool
is_known k (row.Found r) = is_known_ref k r
is_known k (row.Missing value step) = is_known_ref k value
is_known k (row.Unmade call) = true
