-- Which functions may take no memory.
use Rattle.std.specs.Prelude.{Bool, true, false}
use Rattle.guard_syntax.specs.declared.function.Function.{Function}
use Rattle.guard_syntax.specs.declared.function.Function.TheVariants.{Count, Join}

-- a function of one value after another, which answers a row for each row of its first argument; `count` and `join` answer one row for all
abbrev pub is_by_row : Function → Bool
is_by_row Count = false
is_by_row Join = false
is_by_row _ = true
