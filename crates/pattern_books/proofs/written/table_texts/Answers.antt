use Rattle.std.proofs.Common.{Bool, List, ap, length, ◌∙◌}
use Rattle.pattern_books.proofs.written.table_texts.Goals as goal

pub texts_in-requires-clause-sites : goal.texts_in-requires-clause-sites
texts_in-requires-clause-sites c = ap (λ (marks : List Bool). length marks) c.deref.ensures.value ∙ c.in_ok-sought.ensures.each ∙ c.requires
