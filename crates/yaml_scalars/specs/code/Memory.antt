-- Which scalars take memory.
use Rattle.std.specs.Prelude.{ℕ, Bool, true, false, ◌||◌, ◌&&◌, not, List, drop}
use Rattle.yaml_scalars.specs.declared.scalar.Setting.{Setting}
use Rattle.yaml_scalars.specs.declared.plain_line.Why.{Why}
use Rattle.yaml_scalars.specs.declared.plain_line.Why.TheVariants.{Break}
use Rattle.yaml_scalars.specs.Plain.{begins_plain, reason}
use Rattle.yaml_scalars.specs.Scalar.{begins_quoted, begins_block}
use Rattle.yaml_scalars.specs.code.Walk.{line_at, has_break}

abbrev pub is_break : Why → Bool
is_break Break = true
is_break _ = false

-- a plain scalar that is no key begins and ends with its line, so that it may go on over further lines
unfoldable pub fills_line : Setting → List ℕ → Bool
fills_line s bytes = not s.one_line && (begins_plain s.flow bytes && is_break (reason s.flow bytes))

-- what may take memory: a quoted scalar, a block scalar with a line below, and a plain scalar that fills its line
abbrev pub may_take : Setting → List ℕ → ℕ → Bool
may_take s text at = begins_quoted (drop at text) || ((begins_block s (drop at text) && has_break (drop at text)) || fills_line s (line_at (drop at text)))
