use Rattle.std.proofs.Common.{◌≡◌, sym, ap, ◌∙◌, subst}
use Rattle.std.specs.Prelude.{Err}
use Rattle.yaml_grammar.specs.Answers.{Refuses}
use Rattle.yaml_grammar.specs.declared.refusal.YamlRefusal.TheVariants.{NoMemory}
use Rattle.yaml_grammar.proofs.ReadTwice.{refuses_of}
use Rattle.yaml_grammar.proofs.Roots.{stop_memory}
use Rattle.yaml_blocks.proofs.read.read_yaml.Goals as goal

pub returns-in-Err-clause-memory : goal.returns-in-Err-clause-memory
returns-in-Err-clause-memory c = λ want.
    let same : c.refusal_of.result ≡ NoMemory = cc in
    c.in-Err.ensures.memory (ap Err (stop_memory c.in-Err.stop (sym c.refusal_of.ensures ∙ same)))

pub returns-in-Err-clause-answer : goal.returns-in-Err-clause-answer
returns-in-Err-clause-answer c =
    let text = c.args.text.now in
    subst (Refuses text) (sym c.refusal_of.ensures)
    (refuses_of text c.in-Err.stop c.in-Err.ensures.answer c.in-Err.ensures.placed)
