use Rattle.std.proofs.Common.{◌∙◌, ap, ◌++◌, List}
use Rattle.guard_syntax.specs.code.Seen.{see_file}
use Rattle.name_scopes.specs.code.ScopeChains.{visible_in}
use Rattle.name_scopes.specs.code.Seen.{see_given}
use Rattle.rule_names.specs.ReferenceGraph.{Edge}
use Rattle.reference_cycles.specs.code.FileEdges.{items_edges}
use Rattle.reference_cycles.specs.code.RuleIndexes.{rules_of}
use Rattle.reference_cycles.proofs.EdgesInTurn.{file-edges}
use Rattle.reference_cycles.proofs.edges.edges_among.Goals as goal

pub returns : goal.returns
returns c =
    c.in_ok-in_file.ensures
    ∙ ap (λ (l : List Edge). l ++ items_edges (rules_of c.args.rule_index.now) c.args.rule_index.now.count (visible_in c.outermost-chain.result) (see_file c.args.file.now)) c.new-edges.ensures.items
    ∙ file-edges (see_file c.args.file.now) (rules_of c.args.rule_index.now) c.args.rule_index.now.count (see_given c.args.own.now.names.items) (visible_in c.outermost-chain.result) c.requires.rules c.requires.count c.requires.names c.outermost-chain.ensures.visible
