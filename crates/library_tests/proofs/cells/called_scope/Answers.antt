use Rattle.rule_names.specs.code.Files.{file_of as seen}
use Rattle.library_tests.proofs.CalledFrames.{part-plain}
use Rattle.library_tests.proofs.cells.called_scope.Goals as goal

pub returns-in-Some-Part-Call-clause-plain : goal.returns-in-Some-Part-Call-clause-plain
returns-in-Some-Part-Call-clause-plain c =
    part-plain (seen c.args.file.now) c.args.file.now.sites c.args.call c.in-Some-Part-Call.field-0 c.in-Some-Part-Call.field-0-0 c.rule_scope.result c.in-Some-Part-Call.ensures
    c.in-Some-Part-Call.field-0-is
