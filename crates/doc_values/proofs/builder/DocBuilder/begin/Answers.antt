use Rattle.std.proofs.lemmas.Grind.{common_steps}
use Rattle.std.proofs.Common.{◌<◌, List, [], ◌∷◌, ◌++◌, length, ap, sym, ◌∙◌, subst, arith, None}
use Rattle.doc_values.specs.code.Rows.{Row}
use Rattle.doc_values.specs.Unfinished.{Unfinished, with_open, open_kind}
use Rattle.doc_values.specs.code.Growth.{key_of}
use Rattle.doc_values.specs.code.Index.{row_of}
use Rattle.doc_values.proofs.Steps.{Kept-open, IsGrowing-of, unfinished-open, index_small}
use Rattle.doc_values.proofs.Finding.{new_under}
use Rattle.doc_values.proofs.OpenRows.{open_seat}
use Rattle.doc_values.proofs.builder.DocBuilder.begin.Goals as goal

pub put-requires-clause-key : goal.put-requires-clause-key
put-requires-clause-key c = c.self.invariant.awaited

pub put-requires-clause-new : goal.put-requires-clause-new
put-requires-clause-new c = let b = c.self.inside in let k = c.self.invariant.kept in new_under b.seat b.arena.rows (key_of b.arena.key) k.next k.steps k.formed.pending

pub put-requires-clause-low : goal.put-requires-clause-low
put-requires-clause-low c = let b = c.self.inside in let k = c.self.invariant.kept in (open_seat b.seat b.arena.rows k.next k.steps).within

pub overflow_add-seat : goal.overflow_add-seat
overflow_add-seat c = let b = c.self.inside in let k = c.self.invariant.kept in let i = index_small b.seat b.arena.rows k.next k.steps in let s = k.small in omega arith

pub invariant_of-self-2 : goal.invariant_of-self-2
invariant_of-self-2 c =
    let b = c.self.inside in
    let k = c.self.invariant.kept in
    let deep = k.steps.depth in
    let n : b.seat.depth < 128 = omega (arith, k.formed.shallow) in
    let e = c.in_ok-put.ensures.rows ∙ ap (λ k. b.arena.rows ++ row_of b.seat (record { kind = k; text = []; key = key_of b.arena.key; at = c.args.at }) ∷ []) c.collection-kind.ensures in
    let small = subst (λ (t : List Row). length t < 2147483648) e c.put.ensures.small in
    rw (c.push_reserved.ensures.items, c.reserve.ensures.items) (IsGrowing-of _ _ c.put.new.self _ None e c.in_ok-put.ensures.taken (Kept-open b.seats.items b.seat b.arena.rows c.len-number.result (key_of b.arena.key) c.args.map c.args.at _ c.self.view_is c.requires.awaited n c.len-number.ensures.nodes small k) tt)

pub returns-clause-ok : goal.returns-clause-ok
returns-clause-ok c =
    let b = c.self.inside in
    let k = c.self.invariant.kept in
    let v = ap (with_open (open_kind c.args.map) c.args.at) c.self.view_is in
    let deep = ap (λ (u : Unfinished). length u.outer) (sym c.self.view_is) ∙ k.steps.depth in
    let shallow = k.formed.shallow in
    let n : length c.args.self.now.outer < 128 = omega arith in
    (rw (c.in_ok-put.ensures.rows, c.in_ok-put.ensures.taken, c.collection-kind.ensures) (unfinished-open b.seat b.arena.rows (open_kind c.args.map) c.args.at (key_of b.arena.key) k.steps ∙ v), n)

pub invariant_of-self : goal.invariant_of-self
invariant_of-self c = grind (arith, common_steps)

pub invariant_of-self-in_err-put : goal.invariant_of-self-in_err-put
invariant_of-self-in_err-put c = grind (arith, common_steps)

pub overflow_add-self : goal.overflow_add-self
overflow_add-self c = grind (arith, common_steps)

pub overflow_add-self-2 : goal.overflow_add-self-2
overflow_add-self-2 c = grind (arith, common_steps)

pub push_reserved-requires : goal.push_reserved-requires
push_reserved-requires c = grind (arith, common_steps)

pub returns-clause-no_memory_where_deep : goal.returns-clause-no_memory_where_deep
returns-clause-no_memory_where_deep c = grind (arith, common_steps)
