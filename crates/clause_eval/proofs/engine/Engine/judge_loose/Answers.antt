use Rattle.clause_eval.proofs.engine.Engine.judge_loose.Goals as goal

pub judged_loose-verdict-requires-clause-rests : goal.judged_loose-verdict-requires-clause-rests
judged_loose-verdict-requires-clause-rests c = c.requires.rests c.if-self.false

pub judged_loose-verdict-requires-clause-loose : goal.judged_loose-verdict-requires-clause-loose
judged_loose-verdict-requires-clause-loose c = c.requires.loose c.if-self.false

pub invariant_of-self : goal.invariant_of-self
invariant_of-self c = record {
  frames_over = c.judged_loose-verdict.new.engine.frames_over;
  store_over = c.judged_loose-verdict.new.engine.store_over;
  book_is = c.judged_loose-verdict.new.engine.book_is;
  tables = c.judged_loose-verdict.new.engine.tables;
  version = c.judged_loose-verdict.new.engine.version;
  follows = c.judged_loose-verdict.new.engine.follows;
}
