-- That each query of a file begins as it must has one proof at most, so a file can keep it.
use Rattle.std.specs.Prelude.{slice_index_or}
use mathlib.Core.HLevel.{⊥_prop, Unit-prop, Π_prop, →_prop}
use Rattle.guard_syntax.specs.code.Queries.{IsStart, Begins, QueriesBegin, queries_file}
use Rattle.guard_syntax.specs.Syntax.{Query, Step, File, query, no_steps, more_steps, this, var, key, index, every, items, splice, filter, keys}

start-prop : (p : Step) → IsProp (IsStart p)
start-prop (this n) = Unit-prop
start-prop (var n name) = Unit-prop
start-prop (key n name) = Unit-prop
start-prop (index n i) = ⊥_prop
start-prop (every n) = ⊥_prop
start-prop (items n) = ⊥_prop
start-prop (splice n name) = ⊥_prop
start-prop (filter n capture c) = ⊥_prop
start-prop (keys n capture op negated e) = ⊥_prop

begins-prop : (q : Query) → IsProp (Begins q)
begins-prop (query n no_steps) = ⊥_prop
begins-prop (query n (more_steps p ps)) = start-prop p

pub QueriesBegin-prop : (f : File) → IsProp (QueriesBegin f)
QueriesBegin-prop f = Π_prop (λ k. Π_prop (λ d. →_prop (begins-prop (slice_index_or (queries_file f) k d))))
