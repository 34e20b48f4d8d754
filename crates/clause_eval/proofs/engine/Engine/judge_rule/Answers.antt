use Rattle.clause_eval.proofs.engine.Engine.judge_rule.Goals as goal

pub judged-verdict-requires-clause-rests : goal.judged-verdict-requires-clause-rests
judged-verdict-requires-clause-rests c = c.requires.rests c.if-self.false

pub judged-verdict-requires-clause-rule : goal.judged-verdict-requires-clause-rule
judged-verdict-requires-clause-rule c = c.requires.rule c.if-self.false

pub invariant_of-self : goal.invariant_of-self
invariant_of-self c = record {
  frames_over = c.judged-verdict.new.engine.frames_over;
  store_over = c.judged-verdict.new.engine.store_over;
  book_is = c.judged-verdict.new.engine.book_is;
  tables = c.judged-verdict.new.engine.tables;
  version = c.judged-verdict.new.engine.version;
  follows = c.judged-verdict.new.engine.follows;
}
