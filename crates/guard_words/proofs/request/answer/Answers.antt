use Rattle.std.proofs.Common.{subst}
use Rattle.clap.specs.Words.{found_of}
use Rattle.guard_words.specs.code.Reading.{HasValues}
use Rattle.guard_words.proofs.request.answer.Goals as goal

pub validate-requires : goal.validate-requires
validate-requires c =
    let values = subst (λ k. HasValues k (found_of c.args.options.now)) c.in-Validate.is c.requires in
    record { rules = values.0; template = values.1; evidence = values.2 }

pub check-requires : goal.check-requires
check-requires c =
    let values = subst (λ k. HasValues k (found_of c.args.options.now)) c.in-Check.is c.requires in
    record { rules = values.0; template = values.1; proof = values.2 }

pub test-requires : goal.test-requires
test-requires c =
    let values = subst (λ k. HasValues k (found_of c.args.options.now)) c.in-Test.is c.requires in
    record { rules = values.0; tests = values.1 }

pub rulegen-requires : goal.rulegen-requires
rulegen-requires c = record { template = subst (λ k. HasValues k (found_of c.args.options.now)) c.in-Rulegen.is c.requires }

pub parse_tree-requires : goal.parse_tree-requires
parse_tree-requires c = record { rules = subst (λ k. HasValues k (found_of c.args.options.now)) c.in-ParseTree.is c.requires }

pub drill-requires : goal.drill-requires
drill-requires c = record { count = subst (λ k. HasValues k (found_of c.args.options.now)) c.in-Drill.is c.requires }
