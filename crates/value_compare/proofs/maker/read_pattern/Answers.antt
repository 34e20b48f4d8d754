use Rattle.pattern_books.proofs.FindsLemmas.{none_of_refusal, pattern_of_too_big}
use Rattle.value_compare.proofs.maker.read_pattern.Goals as goal

pub returns-in-Err-Syntax-clause-syntax : goal.returns-in-Err-Syntax-clause-syntax
returns-in-Err-Syntax-clause-syntax c _ =
    let e = c.in-Err-Syntax in
    none_of_refusal c.args.text.now _ (rw e.field-0-is at e.ensures.kind) (e.ensures.by_grammar _ e.field-0-is)

pub returns-in-Err-CompiledTooBig-clause-large : goal.returns-in-Err-CompiledTooBig-clause-large
returns-in-Err-CompiledTooBig-clause-large c _ = let e = c.in-Err-CompiledTooBig in pattern_of_too_big c.args.text.now (rw e.field-0-is at e.ensures.kind)
