use Rattle.std.proofs.Common.{inl, inr, sym, ap, true≢false, ◌∙◌, arith}
use Rattle.std.proofs.lemmas.Grind.{common_steps}
use Rattle.yaml_grammar.specs.declared.ahead.Ahead.{Ahead}
use Rattle.yaml_nodes.proofs.sign.is_document_end.Goals as goal

pub returns-in-Dots-clause-yes : goal.returns-in-Dots-clause-yes
returns-in-Dots-clause-yes c = grind (arith, common_steps)

pub returns-in-End-clause-yes : goal.returns-in-End-clause-yes
returns-in-End-clause-yes c = grind (arith, common_steps)

pub returns-in_default : goal.returns-in_default
returns-in_default c =
    let token = ap (λ (a : Ahead). a.token) c.requires.seen.0 in
    record {
      yes = λ e. absurd (true≢false (sym e));
      no = λ e h. elim h [
        | inl end ↦ c.in_default.not-End (token ∙ end)
        | inr dots ↦ c.in_default.not-Dots (token ∙ dots.0)
      ];
    }
