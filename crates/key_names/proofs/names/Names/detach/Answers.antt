use Rattle.std.proofs.Common.{map, ap, sym, refl, ◌∙◌}
use Rattle.std.proofs.lemmas.List.{map-id}
use Rattle.std.proofs.lemmas.Iterator.Adapters.{YieldsList-from_vec}
use Rattle.std.proofs.lemmas.Iterator.Consumers.{YieldsList-end}
use Rattle.std.specs.Cow.{cow_str_bytes}
use Rattle.std.specs.declared.borrow.CowStr.TheVariants.{Owned}
use Rattle.key_names.specs.declared.names.Names.{Names}
use Rattle.key_names.proofs.Table.{IsSame-texts, numbered, owned_more}
use Rattle.key_names.proofs.names.Names.detach.Goals as goal

pub returns : goal.returns
returns c =
    let old : Names = c.args.self in
    let new : Names = record { texts = c.loop-text.owned; numbers = old.numbers; followers = old.followers; before = old.before; alloc = c.args.alloc } in
    let gives = c.into_iter-text-iterator.ensures.into_iter_gives in
    let end = YieldsList-end (YieldsList-from_vec {s = c.into_iter-text-iterator.result} old.texts.items gives.0 (gives.1 ∙ old.texts.ok.0)) c.loop-text.yielded c.loop-text.text-iterator c.loop-text.yielded_by c.next.result c.next.new.self c.in-None.is c.next.ensures.steps in
    let all = sym (map-id c.loop-text.yielded) ∙ end.0 in
    let same = IsSame-texts old new (numbered old c.requires) (c.loop-text.invariant ∙ ap (map cow_str_bytes) all) refl refl c.requires in
    (same.table, same.texts)

pub loop-text-preserved : goal.loop-text-preserved
loop-text-preserved c = owned_more c.loop-text.owned.items c.loop-text.yielded c.push.new.self.items c.in-Some.text (Owned c.in_ok-into_owned.field-0) c.loop-text.invariant c.in_ok-push.ensures.items c.in_ok-into_owned.ensures.ok
