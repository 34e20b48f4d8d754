use Rattle.std.proofs.Common.{List, [], ◌∷◌, ℕ, ◌+◌, true, false, get_or, ap, sym, subst, ◌∙◌}
use Rattle.std.specs.Prelude.{Err}
use Rattle.doc_values.specs.declared.kind.Kind.TheVariants as kind
use Rattle.json_reader.specs.declared.refusal.JsonRefusal.TheVariants.{Syntax, TooDeep}
use Rattle.json_reader.specs.code.Memory.{begins}
use Rattle.json_reader.specs.code.Reading.{class_of, AtValue, InString, InWord, value_next, value_cause}
use Rattle.json_reader.specs.code.Steps.{Gives, open_next}
use Rattle.json_reader.proofs.Walk.{Gives-one, from_cause}
use Rattle.json_reader.proofs.ByClass.{gives_on, not_space, value_stops, quote_is}
use Rattle.json_reader.proofs.step.value_step.Goals as goal

pub text_step-requires-clause-quote : goal.text_step-requires-clause-quote
text_step-requires-clause-quote c =
    let text = c.args.text.now in
    let at = c.args.at in
    let u = c.args.builder.now in
    let class = c.byte_class.ensures ∙ ap (λ (t : List ℕ). class_of (get_or t c.args.at 0)) c.as_bytes-bytes.ensures.value in
    quote_is (get_or text at 0) (sym class ∙ c.in-Quote.is)

pub returns-in-Quote-clause-gives : goal.returns-in-Quote-clause-gives
returns-in-Quote-clause-gives c =
    let text = c.args.text.now in
    let at = c.args.at in
    let u = c.args.builder.now in
    let class = c.byte_class.ensures ∙ ap (λ (t : List ℕ). class_of (get_or t c.args.at 0)) c.as_bytes-bytes.ensures.value in
    gives_on text at AtValue (InString false [] [] at) u c.text_step.new.builder c.text_step.result c.requires.within (ap (value_next at u (get_or text at 0)) (sym class ∙ c.in-Quote.is)) c.text_step.ensures

pub returns-in-Open-clause-gives : goal.returns-in-Open-clause-gives
returns-in-Open-clause-gives c =
    let text = c.args.text.now in
    let at = c.args.at in
    let u = c.args.builder.now in
    let class = c.byte_class.ensures ∙ ap (λ (t : List ℕ). class_of (get_or t c.args.at 0)) c.as_bytes-bytes.ensures.value in
    Gives-one text at AtValue u c.open_step.new.builder (open_next true at u) (TooDeep at) c.open_step.result c.requires.within (ap (value_next at u (get_or text at 0)) (sym class ∙ c.in-Open.is)) (ap (value_cause at) (sym class ∙ c.in-Open.is)) c.open_step.ensures.leads

pub returns-in-OpenList-clause-gives : goal.returns-in-OpenList-clause-gives
returns-in-OpenList-clause-gives c =
    let text = c.args.text.now in
    let at = c.args.at in
    let u = c.args.builder.now in
    let class = c.byte_class.ensures ∙ ap (λ (t : List ℕ). class_of (get_or t c.args.at 0)) c.as_bytes-bytes.ensures.value in
    Gives-one text at AtValue u c.open_step-in-OpenList.new.builder (open_next false at u) (TooDeep at) c.open_step-in-OpenList.result c.requires.within (ap (value_next at u (get_or text at 0)) (sym class ∙ c.in-OpenList.is)) (ap (value_cause at) (sym class ∙ c.in-OpenList.is)) c.open_step-in-OpenList.ensures.leads

pub returns-in-LetterN-clause-gives : goal.returns-in-LetterN-clause-gives
returns-in-LetterN-clause-gives c =
    let text = c.args.text.now in
    let at = c.args.at in
    let u = c.args.builder.now in
    let class = c.byte_class.ensures ∙ ap (λ (t : List ℕ). class_of (get_or t c.args.at 0)) c.as_bytes-bytes.ensures.value in
    gives_on text at AtValue (InWord (117 ∷ 108 ∷ 108 ∷ []) kind.Null at) u c.word_step.new.builder c.word_step.result c.requires.within (ap (value_next at u (get_or text at 0)) (sym class ∙ c.in-LetterN.is)) (subst (λ (t : List ℕ). Gives t (at + 1) (InWord (117 ∷ 108 ∷ 108 ∷ []) kind.Null at) u c.word_step.new.builder c.word_step.result) c.as_bytes-bytes.ensures.value c.word_step.ensures)

pub returns-in-LetterT-clause-gives : goal.returns-in-LetterT-clause-gives
returns-in-LetterT-clause-gives c =
    let text = c.args.text.now in
    let at = c.args.at in
    let u = c.args.builder.now in
    let class = c.byte_class.ensures ∙ ap (λ (t : List ℕ). class_of (get_or t c.args.at 0)) c.as_bytes-bytes.ensures.value in
    gives_on text at AtValue (InWord (114 ∷ 117 ∷ 101 ∷ []) (kind.Truth true) at) u c.word_step-in-LetterT.new.builder c.word_step-in-LetterT.result c.requires.within (ap (value_next at u (get_or text at 0)) (sym class ∙ c.in-LetterT.is)) (subst (λ (t : List ℕ). Gives t (at + 1) (InWord (114 ∷ 117 ∷ 101 ∷ []) (kind.Truth true) at) u c.word_step-in-LetterT.new.builder c.word_step-in-LetterT.result) c.as_bytes-bytes.ensures.value c.word_step-in-LetterT.ensures)

pub returns-in-LetterF-clause-gives : goal.returns-in-LetterF-clause-gives
returns-in-LetterF-clause-gives c =
    let text = c.args.text.now in
    let at = c.args.at in
    let u = c.args.builder.now in
    let class = c.byte_class.ensures ∙ ap (λ (t : List ℕ). class_of (get_or t c.args.at 0)) c.as_bytes-bytes.ensures.value in
    gives_on text at AtValue (InWord (97 ∷ 108 ∷ 115 ∷ 101 ∷ []) (kind.Truth false) at) u c.word_step-in-LetterF.new.builder c.word_step-in-LetterF.result c.requires.within (ap (value_next at u (get_or text at 0)) (sym class ∙ c.in-LetterF.is)) (subst (λ (t : List ℕ). Gives t (at + 1) (InWord (97 ∷ 108 ∷ 115 ∷ 101 ∷ []) (kind.Truth false) at) u c.word_step-in-LetterF.new.builder c.word_step-in-LetterF.result) c.as_bytes-bytes.ensures.value c.word_step-in-LetterF.ensures)

pub returns-in-Quote-clause-memory : goal.returns-in-Quote-clause-memory
returns-in-Quote-clause-memory c =
    let class = c.byte_class.ensures ∙ ap (λ (t : List ℕ). class_of (get_or t c.args.at 0)) c.as_bytes-bytes.ensures.value in
    λ _. ap begins (sym class ∙ c.in-Quote.is)

pub returns-in-Open-clause-memory : goal.returns-in-Open-clause-memory
returns-in-Open-clause-memory c =
    let class = c.byte_class.ensures ∙ ap (λ (t : List ℕ). class_of (get_or t c.args.at 0)) c.as_bytes-bytes.ensures.value in
    λ _. ap begins (sym class ∙ c.in-Open.is)

pub returns-in-OpenList-clause-memory : goal.returns-in-OpenList-clause-memory
returns-in-OpenList-clause-memory c =
    let class = c.byte_class.ensures ∙ ap (λ (t : List ℕ). class_of (get_or t c.args.at 0)) c.as_bytes-bytes.ensures.value in
    λ _. ap begins (sym class ∙ c.in-OpenList.is)

pub returns-in-LetterN-clause-memory : goal.returns-in-LetterN-clause-memory
returns-in-LetterN-clause-memory c =
    let class = c.byte_class.ensures ∙ ap (λ (t : List ℕ). class_of (get_or t c.args.at 0)) c.as_bytes-bytes.ensures.value in
    λ _. ap begins (sym class ∙ c.in-LetterN.is)

pub returns-in-LetterT-clause-memory : goal.returns-in-LetterT-clause-memory
returns-in-LetterT-clause-memory c =
    let class = c.byte_class.ensures ∙ ap (λ (t : List ℕ). class_of (get_or t c.args.at 0)) c.as_bytes-bytes.ensures.value in
    λ _. ap begins (sym class ∙ c.in-LetterT.is)

pub returns-in-LetterF-clause-memory : goal.returns-in-LetterF-clause-memory
returns-in-LetterF-clause-memory c =
    let class = c.byte_class.ensures ∙ ap (λ (t : List ℕ). class_of (get_or t c.args.at 0)) c.as_bytes-bytes.ensures.value in
    λ _. ap begins (sym class ∙ c.in-LetterF.is)

pub returns-in_default-clause-gives : goal.returns-in_default-clause-gives
returns-in_default-clause-gives c =
    let text = c.args.text.now in
    let at = c.args.at in
    let u = c.args.builder.now in
    let class = c.byte_class.ensures ∙ ap (λ (t : List ℕ). class_of (get_or t c.args.at 0)) c.as_bytes-bytes.ensures.value in
    let stops = value_stops (class_of (get_or text at 0)) at u (get_or text at 0) (not_space (get_or c.args.text.now c.args.at 0) c.requires.token) (λ h. c.in_default.not-Quote (class ∙ h)) (λ h. c.in_default.not-Open (class ∙ h)) (λ h. c.in_default.not-OpenList (class ∙ h)) (λ h. c.in_default.not-LetterN (class ∙ h)) (λ h. c.in_default.not-LetterT (class ∙ h)) (λ h. c.in_default.not-LetterF (class ∙ h)) (λ h. c.in_default.not-Minus (class ∙ h)) (λ h. c.in_default.not-Zero (class ∙ h)) (λ h. c.in_default.not-Digit (class ∙ h)) in
    from_cause text at AtValue u (Syntax at) c.requires.within stops.0 stops.1 ∙ ap (λ n. Err (Syntax n)) (sym c.offset.ensures)
