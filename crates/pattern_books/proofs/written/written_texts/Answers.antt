use Rattle.std.proofs.Common.{◌≡◌, map, subst, IfOk}
use Rattle.guard_syntax.specs.code.Seen.{see_file}
use Rattle.rule_names.specs.declared.file.RuleFile.{RuleFile}
use Rattle.rule_meaning.specs.Patterns.{patterns_of}
use Rattle.pattern_books.specs.code.Writing.{see_written}
use Rattle.pattern_books.proofs.written.written_texts.Goals as goal

pub returns : goal.returns
returns c = subst (λ (r : RuleFile). IfOk c.table_texts.result (λ texts. map see_written texts.items ≡ patterns_of (see_file r.raw))) c.in_ok-table.ensures c.table_texts.ensures
