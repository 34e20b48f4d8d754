use Rattle.std.proofs.Common.{◌∙◌, ap, sym, List, map}
use Rattle.std.specs.declared.vec.Vec.{Vec}
use Rattle.std.specs.declared.alloc.Global.{Global}
use Rattle.guard_syntax.specs.code.Seen.{see_rule}
use Rattle.guard_syntax.specs.declared.syntax.Rule.{Rule}
use Rattle.name_scopes.specs.declared.scopes.Given as scope
use Rattle.name_scopes.specs.code.Seen.{see_given}
use Rattle.reference_cycles.proofs.edges.edges_of.Goals as goal

pub edges_among-requires-clause-rules : goal.edges_among-requires-clause-rules
edges_among-requires-clause-rules c = ap (λ (l : List Rule). map see_rule l) (c.in_ok-rule_index.ensures.rules ∙ c.deref.ensures.value)

pub edges_among-requires-clause-count : goal.edges_among-requires-clause-count
edges_among-requires-clause-count c = c.in_ok-rule_index.ensures.count ∙ sym c.requires

pub edges_among-requires-clause-names : goal.edges_among-requires-clause-names
edges_among-requires-clause-names c = ap (λ (v : Vec scope.Given Global). see_given v.items) c.in_ok-own.ensures ∙ c.in_ok-file_names.ensures

pub returns : goal.returns
returns c = c.edges_among.ensures
