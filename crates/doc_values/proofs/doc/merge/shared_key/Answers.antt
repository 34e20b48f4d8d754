use Rattle.std.proofs.Common.{◌≡◌, ℕ, suc, ◌+◌, ◌<◌, ◌≤◌, true, false, Option, Some, sym, ap, ◌∙◌, arith}
use Rattle.doc_values.specs.Tree.{Label, Forest, count}
use Rattle.doc_values.specs.Places.{first_label, first_kids, kids_at}
use Rattle.doc_values.specs.Merge.{is_shared, first_shared}
use Rattle.doc_values.proofs.Sharing.{from, entry_at, kids_there, shared_more, shared_here, shared_end}
use Rattle.doc_values.proofs.doc.merge.shared_key.Goals as goal

pub returns-then-is_shared : goal.returns-then-is_shared
returns-then-is_shared c =
    let others : Forest = first_kids c.args.first.now in
    let entries : Forest = first_kids c.args.second.now in
    let l : Label = first_label (from c.loop-i.i entries) in
    let a = c.root-others in
    let b = c.root-entries in
    let x = c.child-entry in
    let within : c.loop-i.i < count (kids_at b.result.doc.now b.result.id) = omega (arith, c.loop-i-test.true, c.len-i-end.ensures) in
    let e = entry_at c.args.first.now c.args.second.now a.result.doc.now b.result.doc.now x.result.doc.now a.result.id b.result.id x.result.id c.loop-i.i b.ensures.tree a.ensures.doc a.ensures.id b.ensures.doc b.ensures.id x.ensures.doc x.ensures.id within in
    let is : is_shared others l.key ≡ true =
    ap (λ k. is_shared k l.key) (sym e.others)
    ∙ ap (λ (x : Label). is_shared (kids_at c.root-others.result.doc.now c.root-others.result.id) x.key) (sym e.label)
    ∙ sym c.is_shared.ensures
    ∙ c.if-is_shared.true in
    let place = c.at.ensures ∙ ap (λ (x : Label). x.at) e.label in
    ap (λ n. let o : Option ℕ = Some n in o) place ∙ sym (shared_here others entries c.loop-i.i e.within is) ∙ c.loop-i.invariant

pub loop-i-preserved : goal.loop-i-preserved
loop-i-preserved c =
    let others : Forest = first_kids c.args.first.now in
    let entries : Forest = first_kids c.args.second.now in
    let l : Label = first_label (from c.loop-i.i entries) in
    let a = c.root-others in
    let b = c.root-entries in
    let x = c.child-entry in
    let within : c.loop-i.i < count (kids_at b.result.doc.now b.result.id) = omega (arith, c.loop-i-test.true, c.len-i-end.ensures) in
    let e = entry_at c.args.first.now c.args.second.now a.result.doc.now b.result.doc.now x.result.doc.now a.result.id b.result.id x.result.id c.loop-i.i b.ensures.tree a.ensures.doc a.ensures.id b.ensures.doc b.ensures.id x.ensures.doc x.ensures.id within in
    let is : is_shared others l.key ≡ false =
    ap (λ k. is_shared k l.key) (sym e.others)
    ∙ ap (λ (x : Label). is_shared (kids_at c.root-others.result.doc.now c.root-others.result.id) x.key) (sym e.label)
    ∙ sym c.is_shared.ensures
    ∙ c.if-is_shared.false in
    let n : c.loop-i.i + 1 ≡ suc c.loop-i.i = omega arith in
    ap (λ m. first_shared others (from m entries)) n ∙ sym (shared_more others entries c.loop-i.i e.within is) ∙ c.loop-i.invariant

pub returns : goal.returns
returns c =
    let others : Forest = first_kids c.args.first.now in
    let entries : Forest = first_kids c.args.second.now in
    let b = c.root-entries in
    let kids = ap (λ (f : Forest). count f) (kids_there c.args.second.now b.result.doc.now b.result.id b.ensures.doc b.ensures.id) in
    let end : count entries ≤ c.loop-i.i = omega (arith, c.loop-i-test.false, c.len-i-end.ensures) in
    sym (shared_end others entries c.loop-i.i end) ∙ c.loop-i.invariant
