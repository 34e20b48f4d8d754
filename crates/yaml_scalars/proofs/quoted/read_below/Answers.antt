use Rattle.std.proofs.Common.{◌+◌, ◌<◌, false, arith, sym, ap₂, ◌∙◌}
use Rattle.std.specs.Prelude.{string_bytes}
use Rattle.yaml_scalars.specs.code.QuotedSteps.{from}
use Rattle.yaml_scalars.proofs.QuotedLines.{below_blank, below_end, below_mark, below_cut, below_text, ascii_before}
use Rattle.yaml_scalars.proofs.quoted.read_below.Goals as goal

pub returns-in-None : goal.returns-in-None
returns-in-None c = λ quote.
    c.loop-start.invariant.4 quote
    ∙ below_end quote c.args.bytes.now c.loop-start.line (string_bytes c.args.decoded.now) c.args.joined c.loop-start.blanks (sym c.is_blank.ensures ∙ c.loop-start-test.true) c.in-None.ensures.0

pub loop-start-preserved : goal.loop-start-preserved
loop-start-preserved c =
    let e = c.in-Some.ensures in (
      omega (arith, e.1),
      e.2,
      omega (arith, e.1),
      e.3,
      λ quote.
          c.loop-start.invariant.4 quote
          ∙ below_blank quote c.args.bytes.now c.loop-start.line (string_bytes c.args.decoded.now) c.args.joined c.loop-start.blanks c.in-Some.next (sym c.is_blank.ensures ∙ c.loop-start-test.true) e.4,
    )

pub returns-then-opens_document : goal.returns-then-opens_document
returns-then-opens_document c = λ quote.
    c.loop-start.invariant.4 quote
    ∙ below_mark quote c.args.bytes.now c.loop-start.line (string_bytes c.args.decoded.now) c.args.joined c.loop-start.blanks (sym c.opens_document.ensures ∙ c.if-opens_document.true)

pub returns-then-is_cut_mark : goal.returns-then-is_cut_mark
returns-then-is_cut_mark c = λ quote.
    c.loop-start.invariant.4 quote
    ∙ below_cut quote c.args.bytes.now c.loop-start.line (string_bytes c.args.decoded.now) c.args.joined c.loop-start.blanks (sym c.opens_document.ensures ∙ c.if-opens_document.false) (sym c.is_cut_mark.ensures ∙ c.if-is_cut_mark.true)

pub returns : goal.returns
returns c = λ quote.
    let line = c.loop-start.line in
    let bytes = c.args.bytes.now in
    let first : 0 < line = omega arith in (
      c.loop-start.invariant.4 quote
          ∙ below_text quote bytes line (string_bytes c.args.decoded.now) c.args.joined c.loop-start.blanks (sym c.opens_document.ensures ∙ c.if-opens_document.false) (sym c.is_cut_mark.ensures ∙ c.if-is_cut_mark.false) (sym c.is_blank.ensures ∙ c.loop-start-test.false)
          ∙ ap₂ (λ w t. from quote false bytes (line + w) t) (sym c.whites.ensures.count) (sym c.in_ok-push_gap.ensures),
      omega arith,
      c.whites.ensures.within,
      ascii_before bytes line c.whites.result first c.loop-start.invariant.3 c.whites.ensures.count,
    )
