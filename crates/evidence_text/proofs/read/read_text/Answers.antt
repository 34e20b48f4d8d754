use Rattle.std.proofs.lemmas.Grind.{common_steps}
use Rattle.std.proofs.Common.{◌≡◌, List, ℕ, inl, refl, subst, arith}
use Rattle.std.specs.Result.{IfErr}
use Rattle.evidence_text.specs.code.Memory.{HasLine}
use Rattle.evidence_text.specs.declared.refusal.EvidenceRefusal.TheVariants.{NoMemory}
use Rattle.evidence_text.specs.Text.{IsRefused}
use Rattle.evidence_text.proofs.Texts.{no_version}
use Rattle.evidence_text.proofs.read.read_text.Goals as goal

pub returns-in-Some-clause-refusal : goal.returns-in-Some-clause-refusal
returns-in-Some-clause-refusal c =
    let P : List ℕ → Type 0 = λ bytes. IfErr c.read_lines.result (λ r. IsRefused bytes r) in
    subst P c.in-Some.ensures c.read_lines.ensures.refusal

pub returns-in-Some-clause-memory : goal.returns-in-Some-clause-memory
returns-in-Some-clause-memory c =
    let P : List ℕ → Type 0 = λ bytes. IfErr c.read_lines.result (λ r. r ≡ NoMemory → HasLine bytes) in
    subst P c.in-Some.ensures c.read_lines.ensures.memory

pub returns-in-None-behind_header-clause-refusal : goal.returns-in-None-behind_header-clause-refusal
returns-in-None-behind_header-clause-refusal c = inl (refl, no_version c.args.bytes.now c.in-None.ensures c.in-None-behind_header.ensures)

pub returns-in-Some-behind_header-clause-memory : goal.returns-in-Some-behind_header-clause-memory
returns-in-Some-behind_header-clause-memory c = grind (arith, common_steps)

pub returns-in-Some-behind_header-clause-refusal : goal.returns-in-Some-behind_header-clause-refusal
returns-in-Some-behind_header-clause-refusal c = grind (arith, common_steps)
