use Rattle.std.proofs.Common.{List, ℕ, ap, sym, ◌∙◌, subst}
use Rattle.yaml_grammar.specs.Ahead.{ahead}
use Rattle.yaml_grammar.specs.code.Steps.{IsPlaced}
use Rattle.yaml_grammar.proofs.Placed.{placed}
use Rattle.yaml_nodes.proofs.ahead.look.Goals as goal

pub returns : goal.returns
returns c =
    let e = c.bytes_ahead.ensures ∙ ap (λ (t : List ℕ). ahead t c.args.flow c.args.at) c.as_bytes.ensures.value in
    (e, subst (IsPlaced c.args.text.now c.args.at) (sym e) (placed c.args.text.now c.args.flow c.args.at c.utf8.text c.requires.boundary))
