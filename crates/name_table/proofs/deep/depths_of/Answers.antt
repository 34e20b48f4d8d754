use Rattle.std.proofs.Common.{◌∙◌, List, add-one, ap, length, replicate, sym, ℕ}
use Rattle.std.specs.Cmp.Lexicographic.{same_text}
use Rattle.guard_syntax.specs.code.Seen.{see_file}
use Rattle.rule_names.specs.Depths.{deepened, deepened_by}
use Rattle.rule_names.proofs.Settled.{stopped, done}
use Rattle.name_table.proofs.deep.depths_of.Goals as goal

pub loop-round-init : goal.loop-round-init
loop-round-init c = c.in_ok-depths.ensures.items_if_clones_equal (λ y h. h) ∙ ap (λ (l : List ℕ). replicate (length l) 0) c.as_slice.ensures

pub loop-round-preserved : goal.loop-round-preserved
loop-round-preserved c =
    let file = see_file c.args.file.now in
    c.in_ok-next.ensures ∙ ap (deepened file) (c.deref.ensures.value ∙ c.loop-round.invariant) ∙ ap (deepened_by file) (sym (add-one c.loop-round._round))

pub returns-then-eq : goal.returns-then-eq
returns-then-eq c =
    let file = see_file c.args.file.now in
    stopped file c.loop-round._round c.loop-round.depths.items c.in_ok-next.next.items c.loop-round.auto._round-end c.loop-round.invariant
    (c.in_ok-next.ensures ∙ ap (deepened file) c.deref.ensures.value) (same_text c.in_ok-next.next.items c.loop-round.depths.items c.if-eq.ensures)

pub returns : goal.returns
returns c = done (see_file c.args.file.now) c.loop-round._round c.loop-round.depths.items c.loop-round.auto._round-end c.loop-round-test.false c.loop-round.invariant
