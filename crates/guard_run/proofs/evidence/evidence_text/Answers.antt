use Rattle.std.proofs.Common.{◌≤◌, ap, arith, sym, subst, ◌∙◌, All, length}
use Rattle.std.proofs.lemmas.List.{append-nil, take_all}
use Rattle.std.proofs.lemmas.List.Elements.{All-nil}
use Rattle.evidence_lines.specs.Headers.{header}
use Rattle.evidence_lines.specs.Shapes.{IsInFormat}
use Rattle.evidence_text.specs.Text.{evidence_text}
use Rattle.guard_run.proofs.PrintedLines.{format-more, shape-here, text-more}
use Rattle.guard_run.proofs.evidence.evidence_text.Goals as goal

pub loop-before-init : goal.loop-before-init
loop-before-init c = record {
  printed = c.in_ok-text.ensures.items ∙ c.as_bytes.ensures.value ∙ c.header.ensures ∙ ap header c.version.ensures ∙ sym (append-nil (header c.args.evidence.now.version));
  in_format = All-nil IsInFormat;
}

pub print_line-requires : goal.print_line-requires
print_line-requires c =
    shape-here c.args.evidence.now.version c.args.evidence.now.lines c.loop-before.before c.in-Some.line (sym c.in-Some.ensures.line) c.requires

pub loop-before-preserved : goal.loop-before-preserved
loop-before-preserved c =
    let version = c.args.evidence.now.version in
    let lines = c.args.evidence.now.lines in
    let stands = sym c.in-Some.ensures.line in
    record {
      printed = text-more version lines c.loop-before.before c.in-Some.line stands c.loop-before.text.items c.print_line.new.into.items c.loop-before.invariant.printed c.in_ok-print_line.ensures.printed;
      in_format = format-more version lines c.loop-before.before c.in-Some.line stands c.requires c.loop-before.invariant.in_format c.in_ok-print_line.ensures.bounded;
    }

pub returns : goal.returns
returns c =
    let lines = c.args.evidence.now.lines in
    let past : length lines ≤ c.loop-before.before = omega (arith, c.loop-before-test.false, c.len-before-end.ensures.count) in
    record {
      in_format = subst (All IsInFormat) (take_all c.loop-before.before lines past) c.loop-before.invariant.in_format;
      text = sym (c.loop-before.invariant.printed ∙ ap (evidence_text c.args.evidence.now.version) (take_all c.loop-before.before lines past));
    }
