use Rattle.guard_syntax.specs.code.Seen.{see_file}
use Rattle.rule_names.proofs.NameCycles.{no-cycle}
use Rattle.name_table.proofs.resolver.ordered_nodes.Goals as goal

pub unreachable-requires : goal.unreachable-requires
unreachable-requires c =
    let met = rw c.in-Cycle.is at c.requires.walk in
    no-cycle (see_file c.args.file.now) c.requires.sites c.requires.acyclic met.2
