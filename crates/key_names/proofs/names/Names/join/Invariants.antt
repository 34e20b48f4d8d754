use Rattle.key_names.proofs.Joining.{Joining}
use Rattle.key_names.proofs.names.Names.join.Given as goal

abbrev pub invariant-loop-text : goal.invariant-loop-text
invariant-loop-text l = Joining l.fn.self l.self l.yielded l.joined.items
