use Rattle.std.proofs.Common.{◌≡◌, Result, Err, Some, sym, subst, ap, refl, ◌∙◌}
use Rattle.doc_values.specs.Tree.{Forest}
use Rattle.json_reader.specs.Json.{Json}
use Rattle.json_reader.specs.code.Memory.{HasBeginning}
use Rattle.json_reader.specs.code.Reading.{mark_stop}
use Rattle.json_reader.proofs.Verdicts.{mark_refused}
use Rattle.json_reader.proofs.Refuses.{refuses}
use Rattle.json_reader.specs.declared.refusal.JsonRefusal.{JsonRefusal}
use Rattle.json_reader.specs.declared.refusal.JsonRefusal.TheVariants.{Syntax, NoMemory}
use Rattle.json_reader.proofs.read.read_json.Goals as goal

-- want of memory that is handed on
handed_memory : {T U : Type 0} (H : Type 0) (e : JsonRefusal) → (◌≡◌ {A = Result U JsonRefusal} (Err e) (Err NoMemory) → H) → ◌≡◌ {A = Result T JsonRefusal} (Err e) (Err NoMemory) → H
handed_memory H e h m = let same : e ≡ NoMemory = cc in h (ap Err same)

pub returns-in-Some-clause-answer : goal.returns-in-Some-clause-answer
returns-in-Some-clause-answer c = λ q. refuses c.args.text.now (Syntax c.in-Some.stop) (mark_refused c.args.text.now (Some c.in-Some.stop) c.in-Some.stop (c.in-Some.ensures ∙ ap mark_stop c.as_bytes.ensures.value) refl)

pub read_tokens-requires-clause-unmarked : goal.read_tokens-requires-clause-unmarked
read_tokens-requires-clause-unmarked c = sym (c.in-None.ensures ∙ ap mark_stop c.as_bytes.ensures.value)

pub returns-clause-answer : goal.returns-clause-answer
returns-clause-answer c = c.in-Err.ensures.refusal

pub returns-clause-memory : goal.returns-clause-memory
returns-clause-memory c = handed_memory (HasBeginning c.args.text.now) c.in-Err.refusal c.in-Err.ensures.memory

pub returns-in-Ok-clause-answer : goal.returns-in-Ok-clause-answer
returns-in-Ok-clause-answer c = subst (λ (t : Forest). Json c.args.text.now t) (sym c.finish.ensures.done) c.in-Ok.ensures.tree
