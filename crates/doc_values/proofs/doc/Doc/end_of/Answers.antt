use Rattle.std.proofs.Common.{◌≡◌, ◌<◌, ◌≤◌, sym, ap, ◌∙◌, arith}
use Rattle.doc_values.specs.Tree.{Forest, size}
use Rattle.doc_values.specs.code.Entries.{Entry}
use Rattle.doc_values.proofs.Answering.{ix_size}
use Rattle.doc_values.proofs.Parts.{depth_at, reached}
use Rattle.doc_values.proofs.Copying.{depth_stored, depth_read}
use Rattle.doc_values.proofs.doc.Doc.end_of.Goals as goal

pub index-root-requires : goal.index-root-requires
index-root-requires c =
    let d = c.self.inside in
    let long = ix_size d.nodes.items d.starts.items d.slots.items d.by_name.items d.names c.args.self.now c.self.invariant c.self.view_is in
    omega (arith, c.requires, d.nodes.ok.0)

pub overflow_step-j : goal.overflow_step-j
overflow_step-j c =
    let d = c.self.inside in
    let long = ix_size d.nodes.items d.starts.items d.slots.items d.by_name.items d.names c.args.self.now c.self.invariant c.self.view_is in
    let small = c.self.invariant.small in
    omega (arith, c.requires)

pub returns-then-node-depth : goal.returns-then-node-depth
returns-then-node-depth c =
    let d = c.self.inside in
    let f : Forest = c.args.self.now in
    let h = c.requires in
    let long = ix_size d.nodes.items d.starts.items d.slots.items d.by_name.items d.names c.args.self.now c.self.invariant c.self.view_is in
    let count : c.len-count.result ≡ size f = omega arith in
    let from : c.args.id < c.loop-j.j = omega arith in
    let below : c.loop-j.j < size f = omega (arith, c.loop-j-test.true) in
    let own : depth_at f c.args.id ≡ c.root.inside.seat.depth = depth_read d.nodes.items d.starts.items d.slots.items d.by_name.items d.names f c.args.id c.index-root.result.now c.self.invariant c.self.view_is h c.index-root.ensures ∙ ap (λ (e : Entry). e.depth) (sym c.root.view_is) in
    let here : depth_at f c.loop-j.j ≡ c.node.inside.seat.depth = depth_read d.nodes.items d.starts.items d.slots.items d.by_name.items d.names f c.loop-j.j c.index-node.result.now c.self.invariant c.self.view_is below c.index-node.ensures ∙ ap (λ (e : Entry). e.depth) (sym c.node.view_is) in
    let stops = c.if-node-depth.true in
    reached f c.args.id c.loop-j.j h from (omega arith) (λ k a b.
    let deep = c.loop-j.invariant k a b in
    let stored = depth_stored d.nodes.items d.starts.items d.slots.items d.by_name.items d.names f k c.self.invariant c.self.view_is (omega arith) in
    omega arith) (λ _. omega arith)

pub returns : goal.returns
returns c =
    let d = c.self.inside in
    let f : Forest = c.args.self.now in
    let h = c.requires in
    let long = ix_size d.nodes.items d.starts.items d.slots.items d.by_name.items d.names c.args.self.now c.self.invariant c.self.view_is in
    let count : c.len-count.result ≡ size f = omega arith in
    let past : c.len-count.result ≤ c.loop-j.j = c.loop-j-test.false in
    let own : depth_at f c.args.id ≡ c.root.inside.seat.depth = depth_read d.nodes.items d.starts.items d.slots.items d.by_name.items d.names f c.args.id c.index-root.result.now c.self.invariant c.self.view_is h c.index-root.ensures ∙ ap (λ (e : Entry). e.depth) (sym c.root.view_is) in
    reached f c.args.id c.len-count.result h (omega arith) (omega arith) (λ k a b.
    let deep = c.loop-j.invariant k a (omega arith) in
    let stored = depth_stored d.nodes.items d.starts.items d.slots.items d.by_name.items d.names f k c.self.invariant c.self.view_is (omega arith) in
    omega arith) (λ more. omega arith)
