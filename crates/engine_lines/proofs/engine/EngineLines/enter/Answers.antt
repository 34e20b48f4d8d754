use Rattle.engine_lines.proofs.engine.EngineLines.enter.Goals as goal

pub enter_scope-entered-requires-clause-whole : goal.enter_scope-entered-requires-clause-whole
enter_scope-entered-requires-clause-whole c = c.requires.whole c.if-self.false

pub enter_scope-entered-requires-clause-scope : goal.enter_scope-entered-requires-clause-scope
enter_scope-entered-requires-clause-scope c = c.requires.scope c.if-self.false

pub enter_scope-entered-requires-clause-value : goal.enter_scope-entered-requires-clause-value
enter_scope-entered-requires-clause-value c = c.requires.value c.if-self.false

pub invariant_of-self : goal.invariant_of-self
invariant_of-self c = record {
  frames_over = c.enter_scope-entered.new.self.frames_over;
  store_over = c.enter_scope-entered.new.self.store_over;
  book_is = c.enter_scope-entered.new.self.book_is;
  tables = c.enter_scope-entered.new.self.tables;
  version = c.enter_scope-entered.new.self.version;
  follows = c.enter_scope-entered.new.self.follows;
}
