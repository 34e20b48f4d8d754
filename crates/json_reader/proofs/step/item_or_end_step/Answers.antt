use Rattle.std.proofs.lemmas.Grind.{common_steps}
use Rattle.std.proofs.Common.{List, ℕ, get_or, ap, sym, ◌∙◌, arith}
use Rattle.json_reader.specs.declared.bytes.Class.TheVariants.{CloseList}
use Rattle.json_reader.specs.declared.refusal.JsonRefusal.TheVariants.{Syntax}
use Rattle.json_reader.specs.code.Reading.{class_of, AtItemOrEnd, item_or_end_next, value_cause}
use Rattle.json_reader.proofs.Walk.{Gives-one, item_gives}
use Rattle.json_reader.proofs.ByClass.{not_space}
use Rattle.json_reader.proofs.step.item_or_end_step.Goals as goal

pub returns-in_default-clause-gives : goal.returns-in_default-clause-gives
returns-in_default-clause-gives c =
    let class = c.byte_class.ensures ∙ ap (λ (t : List ℕ). class_of (get_or t c.args.at 0)) c.as_bytes.ensures.value in
    item_gives c.args.text.now c.args.at c.args.builder.now c.value_step.new.builder c.value_step.result c.requires.within c.requires.fits.awaits.1 (not_space (get_or c.args.text.now c.args.at 0) c.requires.token) (λ h. c.in_default.not-CloseList (class ∙ h)) c.value_step.ensures.gives

pub returns-in-CloseList-clause-gives : goal.returns-in-CloseList-clause-gives
returns-in-CloseList-clause-gives c =
    let text = c.args.text.now in
    let at = c.args.at in
    let u = c.args.builder.now in
    let class = c.byte_class.ensures ∙ ap (λ (t : List ℕ). class_of (get_or t c.args.at 0)) c.as_bytes.ensures.value in
    Gives-one text at AtItemOrEnd u c.end_step.new.builder (item_or_end_next at u (get_or text at 0) CloseList) (Syntax at) c.end_step.result c.requires.within (ap (item_or_end_next at u (get_or text at 0)) (sym class ∙ c.in-CloseList.is)) (ap (value_cause at) (sym class ∙ c.in-CloseList.is)) c.end_step.ensures.leads

pub value_step-requires : goal.value_step-requires
value_step-requires c = grind (arith, common_steps)
