use Rattle.std.proofs.Common.{◌≡◌, ◌+◌, ◌<◌, ◌≤◌, Bool, ap, sym, ◌∙◌, arith}
use Rattle.std.specs.Prelude.{◌&&◌}
use Rattle.doc_values.specs.Places.{first_label, kids_at, label_at}
use Rattle.doc_values.specs.Tree.{Forest, Label, count}
use Rattle.guard_testfile.specs.Shape.{has_only}
use Rattle.guard_testfile.specs.code.Siblings.{from_index}
use Rattle.guard_testfile.proofs.Sentences.{only-end, only-more}
use Rattle.guard_testfile.proofs.Siblings.{child-label}
use Rattle.guard_testfile.proofs.shape.has_only.Goals as goal

pub returns-then-not-may_have : goal.returns-then-not-may_have
returns-then-not-may_have c =
    let f : Forest = c.args.node.now.doc.now in
    let p = c.args.node.now.id in
    let kids : Forest = kids_at f p in
    let i = c.loop-i.i in
    let place = c.args.place in
    let within : i < count kids = omega arith in
    let label : label_at c.child-inner.result.doc.now c.child-inner.result.id ≡ first_label (from_index kids i) =
    child-label f c.child-inner.result.doc.now p i c.child-inner.result.id c.args.node.now.within within c.child-inner.ensures.doc c.child-inner.ensures.id in
    sym (c.loop-i.invariant ∙ only-more place kids i _ within (ap (λ (l : Label). l.key) label)
    ∙ ap (λ (b : Bool). b && has_only place (from_index kids (i + 1))) (sym c.if-not-may_have.ensures))

pub loop-i-preserved : goal.loop-i-preserved
loop-i-preserved c =
    let f : Forest = c.args.node.now.doc.now in
    let p = c.args.node.now.id in
    let kids : Forest = kids_at f p in
    let i = c.loop-i.i in
    let place = c.args.place in
    let within : i < count kids = omega arith in
    let label : label_at c.child-inner.result.doc.now c.child-inner.result.id ≡ first_label (from_index kids i) =
    child-label f c.child-inner.result.doc.now p i c.child-inner.result.id c.args.node.now.within within c.child-inner.ensures.doc c.child-inner.ensures.id in
    c.loop-i.invariant ∙ only-more place kids i _ within (ap (λ (l : Label). l.key) label)
    ∙ ap (λ (b : Bool). b && has_only place (from_index kids (i + 1))) (sym c.if-not-may_have.ensures)

pub returns : goal.returns
returns c =
    let kids : Forest = kids_at c.args.node.now.doc.now c.args.node.now.id in
    let past : count kids ≤ c.loop-i.i = omega arith in
    sym (c.loop-i.invariant ∙ only-end c.args.place kids c.loop-i.i past)
