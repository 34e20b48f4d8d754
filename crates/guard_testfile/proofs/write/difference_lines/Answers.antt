use Rattle.std.proofs.Common.{List, ap, ap₂, ◌∙◌}
use Rattle.std.specs.List.{flat_map}
use Rattle.guard_syntax.specs.declared.row.Verdict.{Verdict}
use Rattle.rule_names.specs.code.Files.{file_of}
use Rattle.rule_names.specs.declared.file.RuleFile.{RuleFile}
use Rattle.guard_testfile.specs.Texts.{difference_line}
use Rattle.guard_testfile.specs.code.Written.{case_differences}
use Rattle.guard_testfile.specs.declared.case.Expectation.{Expectation}
use Rattle.guard_testfile.proofs.CaseTexts.{differing, lines-all, lines-more}
use Rattle.guard_testfile.proofs.write.difference_lines.Goals as goal

pub loop-wanted-preserved : goal.loop-wanted-preserved
loop-wanted-preserved c =
    lines-more (file_of c.in_ok-verdicts.verdicts.file.now) c.in_ok-verdicts.verdicts.listed.now c.deref-wanted-items.result.now c.loop-wanted.wanted-index _ c.loop-wanted.lines.items
    c.push_difference.new.lines.items c.loop-wanted-test.true c.loop-wanted.invariant c.in_ok-push_difference.ensures

pub returns : goal.returns
returns c =
    let held = c.in_ok-verdicts.verdicts in
    lines-all (file_of held.file.now) held.listed.now c.deref-wanted-items.result.now c.loop-wanted.wanted-index c.loop-wanted.lines.items c.loop-wanted-test.false c.loop-wanted.invariant
    ∙ ap (λ (es : List Expectation). flat_map difference_line (differing (file_of held.file.now) held.listed.now es)) c.deref-wanted-items.ensures.value
    ∙ ap₂ (λ (file : RuleFile) (got : List Verdict). flat_map difference_line (case_differences (file_of file) got c.args.case.now)) c.in_ok-verdicts.ensures.file c.in_ok-verdicts.ensures.listed
