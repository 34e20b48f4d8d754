use Rattle.std.proofs.Common.{◌≡◌, ℕ, ◌+◌, ◌-◌, ◌<◌, List, [], ◌∷◌, ◌++◌, refl, sym, ap, ◌∙◌, subst, arith}
use Rattle.doc_values.specs.declared.node.Seat.{Seat}
use Rattle.doc_values.specs.Tree.{Forest, size}
use Rattle.doc_values.specs.Places.{kids_at}
use Rattle.doc_values.specs.code.Entries.{Entry}
use Rattle.doc_values.specs.code.Parts.{seat_below, seated, Notes}
use Rattle.doc_values.proofs.Answering.{ix_size, ix_named}
use Rattle.doc_values.proofs.Parts.{depth_at, extent}
use Rattle.doc_values.proofs.Copying.{Copying, from_next, inside_all, ends_at, above_root, depth_read, inside_of, top_entry, copying_start, copying_step, copying_end}
use Rattle.doc_values.proofs.doc.Doc.copy_nodes.Goals as goal

abbrev seat_of : ℕ → ℕ → ℕ → Seat
seat_of d u i = record { depth = d; under = u; index = i }

seat_is : (s : Seat) (e : Entry) (d r id : ℕ) → s.depth ≡ e.depth → s.under ≡ e.under → s.index ≡ e.index → d ≡ r → seat_below r id s ≡ record { depth = e.depth - d; under = e.under - id; index = e.index }
seat_is s e d r id x y z w =
    ap (λ q. seat_of (q - r) (s.under - id) s.index) x
    ∙ ap (λ q. seat_of (e.depth - q) (s.under - id) s.index) (sym w)
    ∙ ap (λ q. seat_of (e.depth - d) (q - id) s.index) y
    ∙ ap (λ q. seat_of (e.depth - d) (e.under - id) q) z

pub index-root-requires : goal.index-root-requires
index-root-requires c =
    let d = c.self.inside in
    let long = ix_size d.nodes.items d.starts.items d.slots.items d.by_name.items d.names c.args.self.now c.self.invariant c.self.view_is in
    omega (arith, c.requires.id, d.nodes.ok.0)

pub overflow_step-j : goal.overflow_step-j
overflow_step-j c =
    let d = c.self.inside in
    let long = ix_size d.nodes.items d.starts.items d.slots.items d.by_name.items d.names c.args.self.now c.self.invariant c.self.view_is in
    let small = c.self.invariant.small in
    omega (arith, c.requires.id)

pub loop-j-init : goal.loop-j-init
loop-j-init c =
    let d = c.self.inside in
    let f : Forest = c.args.self.now in
    let root : Entry = c.index-root.result.now in
    let start = copying_start d.nodes.items d.starts.items d.slots.items d.by_name.items d.names f c.args.id root c.args.names.now c.self.invariant c.self.view_is c.requires.id c.index-root.ensures c.requires.table in
    let one : c.push.new.self.items ≡ top_entry root ∷ [] = c.in_ok-push.ensures.items ∙ ap (λ (xs : List Entry). xs ++ c.in_ok-copy.field-0 ∷ []) c.requires.none ∙ ap (λ (e : Entry). e ∷ []) c.in_ok-copy.ensures in
    subst (λ (xs : List Entry). Copying f c.args.id c.args.names.now xs (c.args.id + 1)) (sym one) start

pub index-node-requires : goal.index-node-requires
index-node-requires c =
    let d = c.self.inside in
    let long = ix_size d.nodes.items d.starts.items d.slots.items d.by_name.items d.names c.args.self.now c.self.invariant c.self.view_is in
    let within = (extent c.args.self.now c.args.id c.requires.id).within in
    omega (arith, c.loop-j-test.true, c.end_of-j-end.ensures, d.nodes.ok.0)

pub noted-requires-clause-named : goal.noted-requires-clause-named
noted-requires-clause-named c = λ n e.
    let d = c.self.inside in
    let within = (extent c.args.self.now c.args.id c.requires.id).within in
    let below : c.loop-j.j < size c.args.self.now = inside_all c.loop-j.j c.end_of-j-end.result (c.args.id + 1 + size (kids_at c.args.self.now c.args.id)) (size c.args.self.now) c.loop-j-test.true c.end_of-j-end.ensures within in
    ix_named d.nodes.items d.starts.items d.slots.items d.by_name.items d.names c.args.self.now c.loop-j.j n c.index-node.result.now c.self.invariant c.self.view_is below c.index-node.ensures (sym (ap (λ (x : Entry). x.name) c.node.view_is) ∙ e)

pub below-requires-clause-deep : goal.below-requires-clause-deep
below-requires-clause-deep c =
    let d = c.self.inside in
    let f : Forest = c.args.self.now in
    let from : c.args.id < c.loop-j.j = from_next c.args.id c.loop-j.j c.loop-j.auto.j in
    let below : c.loop-j.j < c.args.id + 1 + size (kids_at f c.args.id) = subst (λ n. c.loop-j.j < n) c.end_of-j-end.ensures c.loop-j-test.true in
    let inside = inside_of d.nodes.items d.starts.items d.slots.items d.by_name.items d.names f c.args.id c.loop-j.j c.index-node.result.now c.self.invariant c.self.view_is c.requires.id from below c.index-node.ensures in
    let own : depth_at f c.args.id ≡ c.root.inside.seat.depth = depth_read d.nodes.items d.starts.items d.slots.items d.by_name.items d.names f c.args.id c.index-root.result.now c.self.invariant c.self.view_is c.requires.id c.index-root.ensures ∙ ap (λ (e : Entry). e.depth) (sym c.root.view_is) in
    above_root (depth_at f c.args.id) c.root.inside.seat.depth c.index-node.result.now.depth c.node.inside.seat.depth own inside.deep (ap (λ (e : Entry). e.depth) c.node.view_is)

pub below-requires-clause-high : goal.below-requires-clause-high
below-requires-clause-high c =
    let d = c.self.inside in
    let f : Forest = c.args.self.now in
    let from : c.args.id < c.loop-j.j = from_next c.args.id c.loop-j.j c.loop-j.auto.j in
    let below : c.loop-j.j < c.args.id + 1 + size (kids_at f c.args.id) = subst (λ n. c.loop-j.j < n) c.end_of-j-end.ensures c.loop-j-test.true in
    let inside = inside_of d.nodes.items d.starts.items d.slots.items d.by_name.items d.names f c.args.id c.loop-j.j c.index-node.result.now c.self.invariant c.self.view_is c.requires.id from below c.index-node.ensures in
    above_root c.args.id c.args.id c.index-node.result.now.under c.node.inside.seat.under refl inside.high (ap (λ (e : Entry). e.under) c.node.view_is)

pub loop-j-preserved : goal.loop-j-preserved
loop-j-preserved c =
    let d = c.self.inside in
    let f : Forest = c.args.self.now in
    let l = c.loop-j in
    let e : Entry = c.index-node.result.now in
    let within = (extent f c.args.id c.requires.id).within in
    let from : c.args.id < l.j = from_next c.args.id l.j l.auto.j in
    let below : l.j < size f = inside_all l.j c.end_of-j-end.result (c.args.id + 1 + size (kids_at f c.args.id)) (size f) c.loop-j-test.true c.end_of-j-end.ensures within in
    let own : depth_at f c.args.id ≡ c.root.inside.seat.depth = depth_read d.nodes.items d.starts.items d.slots.items d.by_name.items d.names f c.args.id c.index-root.result.now c.self.invariant c.self.view_is c.requires.id c.index-root.ensures ∙ ap (λ (x : Entry). x.depth) (sym c.root.view_is) in
    let notes = subst (λ name. Notes d.names l.names c.noted.new.names name c.in_ok-name.name) (ap (λ (x : Entry). x.name) c.node.view_is) c.in_ok-name.ensures in
    let seat = c.below.ensures ∙ seat_is c.node.inside.seat e (depth_at f c.args.id) c.root.inside.seat.depth c.args.id (ap (λ (x : Entry). x.depth) c.node.view_is) (ap (λ (x : Entry). x.under) c.node.view_is) (ap (λ (x : Entry). x.index) c.node.view_is) own in
    let step = copying_step d.nodes.items d.starts.items d.slots.items d.by_name.items d.names f c.args.id l.j e l.names c.noted.new.names l.nodes.items c.below.result c.in_ok-name.name c.self.invariant c.self.view_is from below c.index-node.ensures l.invariant notes seat in
    let more : c.push-in-loop-j.new.self.items ≡ l.nodes.items ++ seated c.below.result c.in_ok-name.name e ∷ [] = c.in_ok-push-2.ensures.items ∙ ap (λ (x : Entry). l.nodes.items ++ x ∷ []) c.in_ok-copy-2.ensures in
    subst (λ (xs : List Entry). Copying f c.args.id c.noted.new.names xs (l.j + 1)) (sym more) step

pub returns : goal.returns
returns c =
    let d = c.self.inside in
    let end : c.loop-j.j ≡ c.args.id + 1 + size (kids_at c.args.self.now c.args.id) = ends_at c.args.id c.loop-j.j c.end_of-j-end.result (size (kids_at c.args.self.now c.args.id)) c.loop-j.auto.j-end c.loop-j-test.false c.end_of-j-end.ensures in
    copying_end d.nodes.items d.starts.items d.slots.items d.by_name.items d.names c.args.self.now c.args.id c.loop-j.j c.loop-j.names c.loop-j.nodes.items c.self.invariant c.self.view_is c.requires.id end c.loop-j.invariant
