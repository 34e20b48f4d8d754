use Rattle.clause_eval.proofs.engine.Engine.rows.Goals as goal

pub value-line-requires-clause-whole : goal.value-line-requires-clause-whole
value-line-requires-clause-whole c = c.requires.whole c.if-self.false

pub value-line-requires-clause-stands : goal.value-line-requires-clause-stands
value-line-requires-clause-stands c = c.requires.stands c.if-self.false

pub invariant_of-self : goal.invariant_of-self
invariant_of-self c = record {
  frames_over = c.value-line.new.engine.frames_over;
  store_over = c.value-line.new.engine.store_over;
  book_is = c.value-line.new.engine.book_is;
  tables = c.value-line.new.engine.tables;
  version = c.value-line.new.engine.version;
  follows = c.value-line.new.engine.follows;
}
