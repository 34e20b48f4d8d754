use Rattle.std.proofs.Common.{◌∷◌, ◌++◌, [], sym, ◌∙◌, subst}
use Rattle.std.proofs.lemmas.List.{map-id}
use Rattle.std.proofs.lemmas.Iterator.Adapters.{YieldsList-from_vec}
use Rattle.std.proofs.lemmas.Iterator.Consumers.{YieldsList-end}
use Rattle.key_names.specs.declared.names.Names.{Names}
use Rattle.key_names.proofs.Joining.{Joining, joining_start, joining_step, joining_end}
use Rattle.key_names.proofs.names.Names.join.Goals as goal

pub loop-text-init : goal.loop-text-init
loop-text-init c =
    let old : Names = c.args.self.now in
    subst (Joining old old []) (sym c.new-joined.ensures.items) (joining_start old c.requires.table)

pub loop-text-preserved : goal.loop-text-preserved
loop-text-preserved c =
    let old : Names = c.args.self.now in
    let l = c.loop-text in
    let step = joining_step old l.self c.take_in.new.self l.yielded l.joined.items c.in-Some.text c.in_ok-take_in.field-0 l.invariant c.in_ok-take_in.ensures in
    subst (Joining old c.take_in.new.self (l.yielded ++ c.in-Some.text ∷ [])) (sym c.in_ok-push.ensures.items) step

pub returns : goal.returns
returns c =
    let old : Names = c.args.self.now in
    let other : Names = c.args.other in
    let l = c.loop-text in
    let gives = c.into_iter-text-iterator.ensures.into_iter_gives in
    let end = YieldsList-end (YieldsList-from_vec {s = c.into_iter-text-iterator.result} other.texts.items gives.0 (gives.1 ∙ other.texts.ok.0)) l.yielded l.text-iterator l.yielded_by c.next.result c.next.new.self c.in-None.is c.next.ensures.steps in
    joining_end old other l.self l.yielded l.joined.items l.invariant (sym (map-id l.yielded) ∙ end.0)
