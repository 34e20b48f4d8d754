use Rattle.std.proofs.Common.{◌∷◌, [], ap, arith, get_or, map, take}
use Rattle.std.proofs.lemmas.List.{take_all}
use Rattle.std.proofs.lemmas.Result.{err_from_is_err_and}  -- what the exit of a `?` returns
use Rattle.pattern_books.specs.code.Writing.{see_written}
use Rattle.value_compare.proofs.Making.{gains-none, gains-append, same-gains, read-none, read-one, read-append, same-read, one-more, next-written, past_written, rose-later}
use Rattle.value_compare.proofs.make_book.add_texts.Goals as goal

pub returns-in_err-add_text-clause-bad : goal.returns-in_err-add_text-clause-bad
returns-in_err-add_text-clause-bad g c = λ at is.
    let p = err_from_is_err_and c.from_residual.result c.from_residual.ensures.1 in
    let n = c.in_err-add_text.ensures.bad at (rw (p.1, p.2) at is) in
    ((get_or c.args.texts.now c.loop-written.written-index past_written).text.now, next-written c.args.texts.now c.loop-written.written-index at c.loop-written-test.true n.0 c.loop-written.invariant.read, n.1)

pub returns-in_err-add_text-clause-refused : goal.returns-in_err-add_text-clause-refused
returns-in_err-add_text-clause-refused g c = λ at is.
    let p = err_from_is_err_and c.from_residual.result c.from_residual.ensures.1 in
    let n = c.in_err-add_text.ensures.refused at (rw (p.1, p.2) at is) in
    let text = (get_or c.args.texts.now c.loop-written.written-index past_written).text.now in (
      text,
      next-written c.args.texts.now c.loop-written.written-index at c.loop-written-test.true n.0 c.loop-written.invariant.read,
      rose-later (g.M.PatternMaker.faults c.args.maker.now text) (g.M.PatternMaker.faults c.loop-written.maker text) (g.M.PatternMaker.faults c.add_text.new.maker text) (c.loop-written.invariant.kept text) n.1,
    )

pub loop-written-init : goal.loop-written-init
loop-written-init g c = record {
  book = c.requires;
  gains = gains-none c.args.book.now;
  read = read-none;
  kept = λ other. omega arith;
}

pub loop-written-preserved : goal.loop-written-preserved
loop-written-preserved g c =
    let xs = c.args.texts.now in
    let i = c.loop-written.written-index in
    let x = get_or xs i past_written in
    let e = one-more xs i c.loop-written-test.true in
    record {
      book = c.in_ok-add_text.ensures.book;
      gains = same-gains c.args.book.now c.add_text.new.book _ _ e
          (gains-append c.args.book.now c.loop-written.book c.add_text.new.book (map see_written (take i xs)) (see_written x ∷ []) c.loop-written.invariant.gains c.in_ok-add_text.ensures.gains);
      read = same-read _ _ e (read-append (map see_written (take i xs)) (see_written x ∷ []) c.loop-written.invariant.read (read-one (see_written x) c.in_ok-add_text.ensures.read));
      kept = λ other. let a = c.loop-written.invariant.kept other in let b = c.add_text.ensures.kept other in omega arith;
    }

pub returns-clause-gains : goal.returns-clause-gains
returns-clause-gains g c =
    same-gains c.args.book.now c.loop-written.book _ _ (ap (map see_written) (take_all c.loop-written.written-index c.args.texts.now c.loop-written-test.false)) c.loop-written.invariant.gains

pub returns-clause-read : goal.returns-clause-read
returns-clause-read g c = same-read _ _ (ap (map see_written) (take_all c.loop-written.written-index c.args.texts.now c.loop-written-test.false)) c.loop-written.invariant.read
