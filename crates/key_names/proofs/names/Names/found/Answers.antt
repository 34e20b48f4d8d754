use Rattle.std.proofs.Common.{List, map, ap, subst, sym, ◌∙◌}
use Rattle.std.specs.Cow.{cow_str_bytes}
use Rattle.std.specs.declared.borrow.CowStr.{CowStr}
use Rattle.std.specs.declared.alloc.Global.{Global}
use Rattle.key_names.specs.code.TextNumbers.{links_in}
use Rattle.key_names.specs.code.NameSlots.{AreSlotted, found_in}
use Rattle.key_names.specs.declared.names.Names.{Names}
use Rattle.key_names.proofs.names.Names.found.Goals as goal

pub get-requires : goal.get-requires
get-requires c =
    let ns : Names = c.args.self.now in
    subst (λ (ts : List (CowStr Global)). AreSlotted (map cow_str_bytes ts) ns.numbers.slots.items (links_in ns.numbers.others.links)) (sym c.deref.ensures.value) c.requires.slotted

pub returns : goal.returns
returns c =
    let ns : Names = c.args.self.now in
    c.get.ensures ∙ ap (λ (ts : List (CowStr Global)). found_in (map cow_str_bytes ts) ns.numbers.slots.items (links_in ns.numbers.others.links) c.args.key.now) c.deref.ensures.value
