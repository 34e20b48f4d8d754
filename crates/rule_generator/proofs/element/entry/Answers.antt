use Rattle.std.proofs.Common.{◌∙◌, refl, sym}
use Rattle.doc_values.specs.declared.kind.Kind.TheVariants.{Map}
use Rattle.rule_generator.proofs.Nodes.{entry-looked, map-has}
use Rattle.rule_generator.proofs.element.entry.Goals as goal

pub returns-in-Map : goal.returns-in-Map
returns-in-Map c =
    entry-looked c.args.node.now c.args.key.now c.get.result c.args.node.now.within c.get.ensures
    ∙ sym (map-has c.args.node.now.doc.now c.args.node.now.id c.args.key.now Map (sym c.in-Map.ensures) refl)
