use Rattle.std.proofs.Common.{List, ℕ, get_or, ap, sym, ◌∙◌, refl}
use Rattle.std.specs.Prelude.{Err}
use Rattle.json_reader.specs.declared.refusal.JsonRefusal.TheVariants.{Syntax}
use Rattle.json_reader.specs.declared.bytes.Class.TheVariants.{Comma, Close, CloseList}
use Rattle.json_reader.specs.code.Reading.{class_of, After, after_next}
use Rattle.json_reader.proofs.Walk.{Gives-one, from_cause}
use Rattle.json_reader.proofs.ByClass.{after_stops, not_space}
use Rattle.json_reader.proofs.step.after_step.Goals as goal

pub returns-in-Comma-clause-gives : goal.returns-in-Comma-clause-gives
returns-in-Comma-clause-gives c =
    let u = c.args.builder.now in
    let class = c.byte_class.ensures ∙ ap (λ (t : List ℕ). class_of (get_or t c.args.at 0)) c.as_bytes.ensures.value in
    Gives-one c.args.text.now c.args.at After u u (after_next u Comma) (Syntax c.args.at) c.comma_step.result c.requires.within (ap (after_next u) (sym class ∙ c.in-Comma.is)) refl c.comma_step.ensures.leads

pub returns-in-Close-clause-gives : goal.returns-in-Close-clause-gives
returns-in-Close-clause-gives c =
    let u = c.args.builder.now in
    let class = c.byte_class.ensures ∙ ap (λ (t : List ℕ). class_of (get_or t c.args.at 0)) c.as_bytes.ensures.value in
    Gives-one c.args.text.now c.args.at After u c.end_step.new.builder (after_next u Close) (Syntax c.args.at) c.end_step.result c.requires.within (ap (after_next u) (sym class ∙ c.in-Close.is)) refl c.end_step.ensures.leads

pub returns-in-CloseList-clause-gives : goal.returns-in-CloseList-clause-gives
returns-in-CloseList-clause-gives c =
    let u = c.args.builder.now in
    let class = c.byte_class.ensures ∙ ap (λ (t : List ℕ). class_of (get_or t c.args.at 0)) c.as_bytes.ensures.value in
    Gives-one c.args.text.now c.args.at After u c.end_step-in-CloseList.new.builder (after_next u CloseList) (Syntax c.args.at) c.end_step-in-CloseList.result c.requires.within (ap (after_next u) (sym class ∙ c.in-CloseList.is)) refl c.end_step-in-CloseList.ensures.leads

pub returns-in_default-clause-gives : goal.returns-in_default-clause-gives
returns-in_default-clause-gives c =
    let class = c.byte_class.ensures ∙ ap (λ (t : List ℕ). class_of (get_or t c.args.at 0)) c.as_bytes.ensures.value in
    from_cause c.args.text.now c.args.at After c.args.builder.now (Syntax c.args.at) c.requires.within (after_stops (class_of (get_or c.args.text.now c.args.at 0)) c.args.builder.now (not_space (get_or c.args.text.now c.args.at 0) c.requires.token) (λ h. c.in_default.not-Comma (class ∙ h)) (λ h. c.in_default.not-Close (class ∙ h)) (λ h. c.in_default.not-CloseList (class ∙ h))) refl ∙ ap (λ n. Err (Syntax n)) (sym c.offset.ensures)
