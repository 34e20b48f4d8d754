use Rattle.std.proofs.Common.{Some, ap, ◌∙◌, arith}
use Rattle.doc_values.specs.Unfinished.{Unfinished, innermost}
use Rattle.doc_values.proofs.Finding.{inner_kind}
use Rattle.doc_values.proofs.builder.DocBuilder.innermost.Goals as goal

pub kind-requires : goal.kind-requires
kind-requires c = let b = c.self.inside in let k = c.self.invariant.kept in let h = c.if-self-eq0.false in (inner_kind b.seat b.arena.rows k.next k.steps (omega arith)).0

pub returns : goal.returns
returns c =
    let b = c.self.inside in
    let k = c.self.invariant.kept in
    let h = c.if-self-eq0.false in
    ap Some c.kind.ensures ∙ (inner_kind b.seat b.arena.rows k.next k.steps (omega arith)).1 ∙ ap (λ (u : Unfinished). innermost u.outer) c.self.view_is
