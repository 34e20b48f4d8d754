use Rattle.std.proofs.Common.{IfOk, subst, sym}
use Rattle.rule_names.specs.declared.file.RuleFile.{RuleFile}
use Rattle.rule_meaning.specs.StoreModel.{StoreModel}
use Rattle.value_store.specs.code.Books.{IsBookOf}
use Rattle.evidence_lookups.specs.code.Tables.{AreTablesOf}
use Rattle.evidence_checker.specs.code.Answered.{IsAnswer}
use Rattle.evidence_checker.proofs.Answering.{store-starts}
use Rattle.evidence_checker.proofs.judge.check.Goals as goal

pub judge_lines-requires-clause-book : goal.judge_lines-requires-clause-book
judge_lines-requires-clause-book c =
    subst (λ (k : StoreModel). IsBookOf k.file c.args.book.now)
    (sym (store-starts c.new-store.result c.args.doc.now c.args.file.now c.new-store.ensures.doc c.new-store.ensures.file c.new-store.ensures.made)) c.requires.book

pub judge_lines-requires-clause-tables : goal.judge_lines-requires-clause-tables
judge_lines-requires-clause-tables c = subst (λ (f : RuleFile). AreTablesOf f c.in_ok-tables.tables) (sym c.new-store.ensures.file) c.in_ok-tables.ensures

pub judge_lines-requires-clause-made : goal.judge_lines-requires-clause-made
judge_lines-requires-clause-made c = c.new-store.ensures.made

pub returns : goal.returns
returns c =
    subst (λ (k : StoreModel). IfOk c.judge_lines.result (λ answer. IsAnswer c.args.evidence.now.version k.template k.file c.args.evidence.now.lines answer))
    (store-starts c.new-store.result c.args.doc.now c.args.file.now c.new-store.ensures.doc c.new-store.ensures.file c.new-store.ensures.made) c.judge_lines.ensures
