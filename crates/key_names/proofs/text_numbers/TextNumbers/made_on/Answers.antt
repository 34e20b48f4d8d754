use Rattle.std.proofs.Common.{◌<◌, arith, sym}
use Rattle.key_names.specs.code.TextNumbers.{Links, links_in, longer}
use Rattle.key_names.specs.declared.text_numbers.TextNumbers.{TextNumbers}
use Rattle.key_names.proofs.TextLinks.{inner_tree, inner_widens, nowhere, puts_in, same_tree}
use Rattle.key_names.proofs.text_numbers.TextNumbers.made_on.Goals as goal

pub invariant_of-self : goal.invariant_of-self
invariant_of-self c =
    let s : TextNumbers = c.args.self.now in
    let t = same_tree s.links c.insert.new.self s.count c.in-Err.ensures.err (record { from = s.from; to = s.to; single = s.single }) in
    record { rooted = s.rooted; from = t.from; to = t.to; single = t.single }

pub invariant_of-self-2 : goal.invariant_of-self-2
invariant_of-self-2 c =
    let s : TextNumbers = c.args.self.now in
    let f : Links = links_in s.links in
    let small : c.args.byte < 256 = omega arith in
    let n = nowhere f c.args.link c.args.byte small (sym c.in_default.ensures.value) in
    let t = inner_tree f (links_in c.insert.new.self) s.count (longer c.args.link c.args.byte) (record { from = s.from; to = s.to; single = s.single }) c.requires.inside n.0 n.1 (puts_in s.links c.insert.new.self (longer c.args.link c.args.byte) s.count c.in-Ok.ensures.updates) in
    record { rooted = omega arith; from = t.from; to = t.to; single = t.single }

pub returns-clause-widens : goal.returns-clause-widens
returns-clause-widens c =
    let s : TextNumbers = c.args.self.now in
    let f : Links = links_in s.links in
    let small : c.args.byte < 256 = omega arith in
    let n = nowhere f c.args.link c.args.byte small (sym c.in_default.ensures.value) in
    inner_widens f (links_in c.insert.new.self) s.count (longer c.args.link c.args.byte) (record { from = s.from; to = s.to; single = s.single }) c.requires.inside n.0 n.1 (puts_in s.links c.insert.new.self (longer c.args.link c.args.byte) s.count c.in-Ok.ensures.updates)
