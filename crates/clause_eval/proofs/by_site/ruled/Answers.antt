use Rattle.std.proofs.Common.{◌≡◌, ◌∙◌, sym, arith, length}
use Rattle.std.proofs.lemmas.Bool.Decides.{nat_tests}
use Rattle.rule_names.specs.Pieces.{piece_at}
use Rattle.rule_names.specs.code.Files.{file_of}
use Rattle.engine_states.specs.code.Ruling.{has_conditions}
use Rattle.engine_states.proofs.RuledBy.{first-said, second-said}
use Rattle.clause_eval.proofs.by_site.ruled.Goals as goal

pub returns-then-cites-eq2 : goal.returns-then-cites-eq2
returns-then-cites-eq2 c verdict h =
    let e = c.args.engine.now in
    let two : length c.args.cites.now ≡ 2 = grind (arith, nat_tests, c.if-cites-eq2.true) in
    let it = second-said e.evidence.lines verdict (has_conditions (piece_at (file_of e.file.now) c.args.site)) c.args.cites.now 0 two h in
    c.verdict_said.ensures it.0 it.1 it.2 verdict it.3

pub returns : goal.returns
returns c verdict h =
    let e = c.args.engine.now in
    let it = first-said e.evidence.lines verdict (has_conditions (piece_at (file_of e.file.now) c.args.site)) c.args.cites.now 0 (λ two. grind (arith, nat_tests, c.if-cites-eq2.false, two))
    (sym c.has_conditions.ensures ∙ c.if-has_conditions.false) h in
    c.verdict_said-2.ensures it.0 it.1 it.2 verdict it.3
