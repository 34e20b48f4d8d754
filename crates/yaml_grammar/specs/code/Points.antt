-- A colon that ends the text behind a scalar.
use Rattle.std.specs.Prelude.{ℕ, suc, ◌+◌, Bool, true, false, ◌||◌, ◌&&◌, not, List, [], ◌∷◌, length, drop, nat_eq, if◌then◌else◌}
use Rattle.yaml_scalars.specs.Lines.{begins_break, begins_with, is_white}
use Rattle.yaml_scalars.specs.Scalar.{begins_quoted}
use Rattle.yaml_grammar.specs.declared.ahead.Ahead.{Ahead}
use Rattle.yaml_grammar.specs.declared.ahead.Token.{Token}
use Rattle.yaml_grammar.specs.declared.ahead.Token.TheVariants.{Point}
use Rattle.yaml_grammar.specs.Ahead.{ahead}

-- how many bytes of white space and of breaks stand in front
abbrev pub gap : List ℕ → ℕ
gap [] = 0
gap (b ∷ bs) = if is_white b || begins_break b bs then suc (gap bs) else 0

-- no quote stands in front, and outside of brackets no sign of a block scalar
abbrev pub is_plain : Bool → List ℕ → Bool
is_plain flow bytes = not (begins_quoted bytes || (not flow && (begins_with 124 bytes || begins_with 62 bytes)))

abbrev pub is_point : Token → Bool
is_point (Point loose) = true
is_point _ = false

-- what is ahead behind a node is a colon that ends the text, outside of brackets one on the node's own line
abbrev pub is_last_point : List ℕ → Bool → Ahead → Bool
is_last_point text flow a = is_point a.token && (nat_eq a.behind (length text) && (flow || not a.fresh))

-- the scalar from one place to another is a plain one that goes on where a letter stands behind such a colon: no comment stands
-- between
abbrev pub is_pointed : List ℕ → Bool → ℕ → ℕ → Bool
is_pointed text flow at e = is_plain flow (drop at text) && (is_last_point text flow (ahead text flow e) && (not flow || nat_eq (e + gap (drop e text)) (ahead text flow e).at))
