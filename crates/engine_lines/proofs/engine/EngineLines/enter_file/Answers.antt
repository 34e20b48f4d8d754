use Rattle.engine_lines.proofs.engine.EngineLines.enter_file.Goals as goal

pub enter_root-entered-requires : goal.enter_root-entered-requires
enter_root-entered-requires c = c.requires c.if-self.false

pub invariant_of-self : goal.invariant_of-self
invariant_of-self c = record {
  frames_over = c.enter_root-entered.new.self.frames_over;
  store_over = c.enter_root-entered.new.self.store_over;
  book_is = c.enter_root-entered.new.self.book_is;
  tables = c.enter_root-entered.new.self.tables;
  version = c.enter_root-entered.new.self.version;
  follows = c.enter_root-entered.new.self.follows;
}
