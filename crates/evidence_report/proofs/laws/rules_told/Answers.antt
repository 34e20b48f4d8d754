use Rattle.std.proofs.Common.{◌≡◌, ◌≤◌, ap, sym, subst, ◌∙◌, arith}
use Rattle.rule_meaning.specs.Fails.{loose_fails, rule_fails}
use Rattle.rule_meaning.specs.FunctionMeaning.{IsAnswering}
use Rattle.rule_meaning.specs.Locations.{World}
use Rattle.rule_meaning.specs.NameMeaning.{loose_verdict, rule_verdict}
use Rattle.rule_meaning.specs.Seeing.{world_of}
use Rattle.evidence_report.proofs.ToldEntries.{same-world}
use Rattle.evidence_report.proofs.laws.rules_told.Goals as goal

pub returns : goal.returns
returns c version held lines answers order named are answering =
    let same : world_of held answers ≡ world_of are.last answers = same-world held are.last answers are.holds in
    let answering_last : IsAnswering (world_of are.last answers) = subst IsAnswering same answering in
    record {
      rules = λ r verdict among said.
          c.lines_true.ensures.rules held.file version held.template lines are.last answers r verdict order named are.leads answering_last among said
          ∙ ap (λ (w : World). rule_verdict w r) (sym same);
      loose = λ verdict said.
          c.lines_true.ensures.loose held.file version held.template lines are.last answers verdict order named are.leads answering_last said
          ∙ ap (λ (w : World). loose_verdict w held.file.loose) (sym same);
      entries = λ number.
          let enough : number ≤ number = omega arith in
          record {
            rule = λ r frame among is.
                c.entries_told.ensures.rules held.file version held.template lines are.last held answers r number frame number order named are.leads are.holds answering_last among is enough
                ∙ ap (λ (w : World). rule_fails w r) (sym same);
            loose = λ frame is.
                c.entries_told.ensures.loose held.file version held.template lines are.last held answers number frame number order named are.leads are.holds answering_last is enough
                ∙ ap (λ (w : World). loose_fails w held.file.loose) (sym same);
          };
    }
