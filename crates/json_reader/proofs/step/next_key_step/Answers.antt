use Rattle.std.proofs.Common.{List, [], true, ℕ, get_or, ap, sym, ◌∙◌, refl}
use Rattle.std.specs.Prelude.{Err}
use Rattle.json_reader.specs.declared.refusal.JsonRefusal.TheVariants.{Syntax}
use Rattle.json_reader.specs.code.Reading.{class_of, AtKey, InString, key_next}
use Rattle.json_reader.proofs.Walk.{from_cause}
use Rattle.json_reader.proofs.ByClass.{gives_on, not_space, key_stops, quote_is}
use Rattle.json_reader.proofs.step.next_key_step.Goals as goal

pub returns-in-Quote-clause-gives : goal.returns-in-Quote-clause-gives
returns-in-Quote-clause-gives c =
    let u = c.args.builder.now in
    let class = c.byte_class.ensures ∙ ap (λ (t : List ℕ). class_of (get_or t c.args.at 0)) c.as_bytes.ensures.value in
    gives_on c.args.text.now c.args.at AtKey (InString true [] [] c.args.at) u c.key_step.new.builder c.key_step.result c.requires.within (ap (key_next c.args.at u) (sym class ∙ c.in-Quote.is)) c.key_step.ensures.gives

pub key_step-requires-clause-quote : goal.key_step-requires-clause-quote
key_step-requires-clause-quote c =
    let class = c.byte_class.ensures ∙ ap (λ (t : List ℕ). class_of (get_or t c.args.at 0)) c.as_bytes.ensures.value in
    quote_is (get_or c.args.text.now c.args.at 0) (sym class ∙ c.in-Quote.is)

pub returns-in_default-clause-gives : goal.returns-in_default-clause-gives
returns-in_default-clause-gives c =
    let class = c.byte_class.ensures ∙ ap (λ (t : List ℕ). class_of (get_or t c.args.at 0)) c.as_bytes.ensures.value in
    from_cause c.args.text.now c.args.at AtKey c.args.builder.now (Syntax c.args.at) c.requires.within (key_stops (class_of (get_or c.args.text.now c.args.at 0)) c.args.at c.args.builder.now (not_space (get_or c.args.text.now c.args.at 0) c.requires.token) (λ h. c.in_default.not-Quote (class ∙ h))) refl ∙ ap (λ n. Err (Syntax n)) (sym c.offset.ensures)
