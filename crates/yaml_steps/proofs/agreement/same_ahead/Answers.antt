use Rattle.std.proofs.Common.{◌≤◌, length, sym, ap, ◌∙◌, subst}
use Rattle.yaml_laws.proofs.AgreeLess.{breaks_alike}
use Rattle.yaml_grammar.specs.Ahead.{ahead}
use Rattle.yaml_grammar.specs.code.AheadSeen.{ahead_seen}
use Rattle.yaml_grammar.proofs.AheadStays.{ahead_stays}
use Rattle.yaml_steps.proofs.agreement.same_ahead.Goals as goal

pub returns : goal.returns
returns c = λ other place (before, behind, more, b, whole, also, size) feed low near.
    let at = c.args.at in
    let flow = c.args.flow in
    let l = subst (λ n. at ≤ n) (sym size) low in
    let m = subst (λ n. ahead_seen c.args.text.now at ≤ n) (sym size) near in
    let m2 = subst (λ t. ahead_seen t at ≤ length before) whole m in
    let f = breaks_alike before behind more b c.args.text.now other place whole also size feed in
    ap (λ t. ahead t flow at) also ∙ ahead_stays before behind more b f flow at l m2 ∙ sym (ap (λ t. ahead t flow at) whole)
