use Rattle.std.proofs.Common.{◌≡◌, ◌+◌, ◌-◌, ◌==◌, Some, arith, false, slice_get, subst, sym}
use Rattle.std.proofs.lemmas.Bool.Decides.{nat_tests}
use Rattle.std.proofs.lemmas.Option.{get_or_from_slice_get, slice_get_within}
use Rattle.evidence_lines.specs.Shapes.{HasShape}
use Rattle.library_tests.proofs.evidence.text_of.Goals as goal

pub print_line-requires : goal.print_line-requires
print_line-requires c =
    let lines = c.args.evidence.now.lines in
    let before = c.loop-before.before in
    let line = c.in-Some.line in
    let test : (before + 1 == 0) ≡ false = grind (arith, nat_tests) in
    let less : before + 1 - 1 ≡ before = omega arith in
    let there : slice_get lines before ≡ Some line = sym (rw (test, less) at c.in-Some.ensures.line) in
    subst HasShape (get_or_from_slice_get lines before line line there) (c.requires before line (slice_get_within lines before line there)).shape
