use Rattle.clause_eval.proofs.engine.Engine.conj.Goals as goal

pub conjunction_at-said-requires-clause-whole : goal.conjunction_at-said-requires-clause-whole
conjunction_at-said-requires-clause-whole c = c.requires.whole c.if-self.false

pub conjunction_at-said-requires-clause-stands : goal.conjunction_at-said-requires-clause-stands
conjunction_at-said-requires-clause-stands c = c.requires.stands c.if-self.false

pub invariant_of-self : goal.invariant_of-self
invariant_of-self c = record {
  frames_over = c.conjunction_at-said.new.engine.frames_over;
  store_over = c.conjunction_at-said.new.engine.store_over;
  book_is = c.conjunction_at-said.new.engine.book_is;
  tables = c.conjunction_at-said.new.engine.tables;
  version = c.conjunction_at-said.new.engine.version;
  follows = c.conjunction_at-said.new.engine.follows;
}
