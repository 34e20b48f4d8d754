use Rattle.std.proofs.Common.{◌≡◌}
use Rattle.guard_syntax.specs.code.Seen.{see_file}
use Rattle.rule_names.specs.Depths.{deepened_by}
use Rattle.name_table.proofs.deep.depths_of.Given as goal

abbrev pub invariant-loop-round : goal.invariant-loop-round
invariant-loop-round l = l.depths.items ≡ deepened_by (see_file l.file) l._round
