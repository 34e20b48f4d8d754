use Rattle.value_store.specs.code.Stores.{see_store}
use Rattle.engine_states.proofs.EnteredLines.{known-root}
use Rattle.engine_lines.proofs.engine.EngineLines.enter_root.Goals as goal

pub enter_scope-requires-clause-value : goal.enter_scope-requires-clause-value
enter_scope-requires-clause-value c = (c.root.ensures, known-root (see_store c.args.self.now.store) c.root.result c.root.ensures c.len-nodes.ensures.tree)
