use Rattle.std.proofs.Common.{◌∙◌}
use Rattle.std.proofs.lemmas.Grind.{merely}
use Rattle.std.proofs.lemmas.Result.{IfOk-weaker}
use Rattle.value_store.specs.code.Stores.{see_store}
use Rattle.engine_states.proofs.EmptyEngine.{pushed-follows}
use Rattle.engine_states.proofs.LinesNumbered.{pushed-number}
use Rattle.engine_lines.proofs.engine.EngineLines.add_line.Goals as goal

pub invariant_of-self : goal.invariant_of-self
invariant_of-self c = record {
  frames_over = c.args.self.now.frames_over;
  store_over = c.args.self.now.store_over;
  book_is = c.args.self.now.book_is;
  tables = c.args.self.now.tables;
  version = c.push.ensures.version ∙ c.args.self.now.version;
  follows = merely (pushed-follows c.push.result (see_store c.args.self.now.store) c.args.self.now.evidence c.push.new.self c.args.line c.requires.before c.requires.follows
      c.push.ensures.added c.push.ensures.kept);
}

pub returns-clause-added : goal.returns-clause-added
returns-clause-added c =
    IfOk-weaker c.push.result _ _ (λ number added. (added.0, pushed-number c.args.self.now.evidence.lines c.push.new.self.lines c.args.line number added.0 added.1)) c.push.ensures.added
