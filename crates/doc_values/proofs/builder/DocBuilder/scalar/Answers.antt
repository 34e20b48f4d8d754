use Rattle.std.proofs.lemmas.Grind.{common_steps}
use Rattle.std.proofs.Common.{◌<◌, List, length, ap, ◌∙◌, subst, arith, None}
use Rattle.std.specs.Cow.{cow_str_bytes}
use Rattle.doc_values.specs.code.Rows.{Row}
use Rattle.doc_values.specs.Unfinished.{with_value}
use Rattle.doc_values.specs.code.Growth.{key_of}
use Rattle.doc_values.proofs.Steps.{Kept-value, IsGrowing-of, unfinished-value, index_small}
use Rattle.doc_values.proofs.Finding.{new_under}
use Rattle.doc_values.proofs.OpenRows.{open_seat}
use Rattle.doc_values.proofs.builder.DocBuilder.scalar.Goals as goal

pub put-requires-clause-key : goal.put-requires-clause-key
put-requires-clause-key c = c.self.invariant.awaited

pub put-requires-clause-new : goal.put-requires-clause-new
put-requires-clause-new c = let b = c.self.inside in let k = c.self.invariant.kept in new_under b.seat b.arena.rows (key_of b.arena.key) k.next k.steps k.formed.pending

pub put-requires-clause-low : goal.put-requires-clause-low
put-requires-clause-low c = let b = c.self.inside in let k = c.self.invariant.kept in (open_seat b.seat b.arena.rows k.next k.steps).within

pub overflow_add-self : goal.overflow_add-self
overflow_add-self c = let b = c.self.inside in let k = c.self.invariant.kept in let i = index_small b.seat b.arena.rows k.next k.steps in let s = k.small in omega arith

pub invariant_of-self-2 : goal.invariant_of-self-2
invariant_of-self-2 c =
    let b = c.self.inside in
    let small = subst (λ (t : List Row). length t < 2147483648) c.in_ok-put.ensures.rows c.put.ensures.small in
    IsGrowing-of _ _ c.put.new.self _ None c.in_ok-put.ensures.rows c.in_ok-put.ensures.taken (Kept-value b.seats.items b.seat b.arena.rows (key_of b.arena.key) c.args.kind (cow_str_bytes c.args.text) c.args.at _ c.self.view_is c.requires.awaited c.requires.plain c.requires.text small c.self.invariant.kept) tt

pub returns-clause-ok : goal.returns-clause-ok
returns-clause-ok c =
    let b = c.self.inside in
    let v = ap (with_value c.args.kind (cow_str_bytes c.args.text) c.args.at) c.self.view_is in
    rw (c.in_ok-put.ensures.rows, c.in_ok-put.ensures.taken) (unfinished-value b.seat b.arena.rows c.args.kind (cow_str_bytes c.args.text) c.args.at (key_of b.arena.key) c.self.invariant.kept.steps ∙ v)

pub invariant_of-self : goal.invariant_of-self
invariant_of-self c = grind (arith, common_steps)
