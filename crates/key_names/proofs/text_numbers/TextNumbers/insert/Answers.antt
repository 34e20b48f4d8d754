use Rattle.std.proofs.Common.{List, ℕ, cond, Some, ap, ◌∙◌}
use Rattle.std.specs.Str.{bytes_eq}
use Rattle.key_names.specs.code.TextNumbers.{Links, links_in, number_by}
use Rattle.key_names.specs.declared.text_numbers.TextNumbers.{TextNumbers}
use Rattle.key_names.proofs.Table.{on_err}
use Rattle.key_names.proofs.TextLinks.{last_wider, last_all, last_after, puts_in, same_links, tree_after}
use Rattle.key_names.proofs.text_numbers.TextNumbers.insert.Goals as goal

pub returns-in_err-link-clause-err : goal.returns-in_err-link-clause-err
returns-in_err-link-clause-err c = on_err c.from_residual.result (λ t. c.in_err-link.ensures.widens.kept t ∙ c.loop-byte.invariant.0 t)

pub loop-byte-preserved : goal.loop-byte-preserved
loop-byte-preserved c =
    let w = c.in_ok-link.ensures.widens in (
      λ t. w.kept t ∙ c.loop-byte.invariant.0 t,
      last_wider (links_in c.loop-byte.self.links) (links_in c.made_on.new.self.links) w c.as_bytes-byte-items.result.now c.loop-byte.byte-index c.loop-byte.link c.in_ok-link.link c.loop-byte-test.true c.loop-byte.invariant.1 c.in_ok-link.ensures.next,
      c.in_ok-link.ensures.inside,
      c.in_ok-link.ensures.short,
    )

pub invariant_of-self : goal.invariant_of-self
invariant_of-self c =
    let s : TextNumbers = c.loop-byte.self in
    let t = tree_after c.insert.result s.links c.insert.new.self s.count c.loop-byte.link c.args.number (record { from = s.from; to = s.to; single = s.single }) c.loop-byte.invariant.2 c.loop-byte.invariant.3 c.insert.ensures.updates c.insert.ensures.err in
    record { rooted = s.rooted; from = t.from; to = t.to; single = t.single }

pub returns-in-Ok-clause-ok : goal.returns-in-Ok-clause-ok
returns-in-Ok-clause-ok c = λ k.
    let s : TextNumbers = c.loop-byte.self in
    let f : Links = links_in s.links in
    let bytes : List ℕ = c.as_bytes-byte-items.result.now in
    let last = last_all f bytes c.loop-byte.byte-index c.loop-byte.link c.loop-byte-test.false c.loop-byte.invariant.1 in
    last_after f (links_in c.insert.new.self) s.count c.loop-byte.link c.args.number (record { from = s.from; to = s.to; single = s.single }) c.loop-byte.invariant.2 c.loop-byte.invariant.3 (puts_in s.links c.insert.new.self c.loop-byte.link c.args.number c.in-Ok.ensures.updates) bytes last k
    ∙ (λ i. cond (bytes_eq (c.as_bytes-byte-items.ensures.value i) k) (Some c.args.number) (c.loop-byte.invariant.0 k i))

pub returns-in-Err-clause-err : goal.returns-in-Err-clause-err
returns-in-Err-clause-err c = λ t. ap (λ (f : Links). number_by f t) (same_links c.loop-byte.self.links c.insert.new.self c.in-Err.ensures.err) ∙ c.loop-byte.invariant.0 t
