-- Set tests: where `empty` looks at the rows of a query together, and not at each.
use Rattle.std.specs.Prelude.{Bool, true, false, ◌||◌}
use Rattle.guard_syntax.specs.Syntax.{Query, Steps, Step, query, no_steps, more_steps, var, filter, keys}
use Rattle.guard_syntax.specs.declared.syntax.Op.{Op}
use Rattle.guard_syntax.specs.declared.syntax.Op.TheVariants as op

-- a filter or a key filter
abbrev pub is_filtering : Step → Bool
is_filtering (filter site capture conditions) = true
is_filtering (keys site capture o negated right) = true
is_filtering _ = false

abbrev pub ends_filtering : Steps → Bool
ends_filtering no_steps = false
ends_filtering (more_steps step no_steps) = is_filtering step
ends_filtering (more_steps step (more_steps next steps)) = ends_filtering (more_steps next steps)

abbrev pub is_lone_variable : Steps → Bool
is_lone_variable (more_steps (var site name) no_steps) = true
is_lone_variable _ = false

-- a query on which `empty` is a set test: it ends in a filter or a key filter, or is a variable alone
abbrev pub is_set : Query → Bool
is_set (query site steps) = is_lone_variable steps || ends_filtering steps

abbrev pub is_empty_test : Op → Bool
is_empty_test op.Empty = true
is_empty_test _ = false
