use Rattle.clause_eval.proofs.engine.Engine.rule.Goals as goal

pub rule_by-verdict-requires-clause-whole : goal.rule_by-verdict-requires-clause-whole
rule_by-verdict-requires-clause-whole c = c.requires.whole c.if-self.false

pub rule_by-verdict-requires-clause-follows : goal.rule_by-verdict-requires-clause-follows
rule_by-verdict-requires-clause-follows c = c.requires.follows c.if-self.false

pub invariant_of-self : goal.invariant_of-self
invariant_of-self c = record {
  frames_over = c.rule_by-verdict.new.engine.frames_over;
  store_over = c.rule_by-verdict.new.engine.store_over;
  book_is = c.rule_by-verdict.new.engine.book_is;
  tables = c.rule_by-verdict.new.engine.tables;
  version = c.rule_by-verdict.new.engine.version;
  follows = c.rule_by-verdict.new.engine.follows;
}
