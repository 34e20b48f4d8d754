use Rattle.std.proofs.Common.{arith, false}
use Rattle.std.proofs.lemmas.Grind.{common_steps}
use Rattle.std.specs.Cow.{cow_str_bytes}
use Rattle.yaml_grammar.specs.Nodes.{as_key}
use Rattle.yaml_grammar.proofs.BlockGains.{ends_key}
use Rattle.yaml_grammar.proofs.Gains.{found_key}
use Rattle.yaml_nodes.proofs.node.find_key.Goals as goal

pub returns : goal.returns
returns c =
    let text = c.args.text.now in
    let words = cow_str_bytes c.in-Ok.scalar.text in
    let end = c.in-Ok.scalar.end in
    let g = found_key text c.as_key.result (as_key false) c.args.next words c.in-Ok.scalar.kind end c.as_key.ensures c.in-Ok.ensures.finds in
    let h = c.in-Some.ensures in
    (((end, g.0, h.0, h.1, h.2), h.3, omega (arith, g.2, h.4)), ends_key text c.args.next words c.in-Ok.scalar.kind end g)

pub returns-in_default : goal.returns-in_default
returns-in_default c = grind (arith, common_steps)
