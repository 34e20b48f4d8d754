use Rattle.std.proofs.lemmas.Grind.{common_steps}
use Rattle.std.proofs.Common.{◌≡◌, ℕ, List, ◌+◌, ◌-◌, ◌<◌, length, get_or, refl, arith, subst, sym, ap, Bool, None}
use Rattle.std.specs.Str.{IsCharBoundary}
use Rattle.std.proofs.lemmas.Str.{IsCharBoundary-after_ascii}
use Rattle.decimals.specs.Number.{IsNumber}
use Rattle.doc_values.specs.declared.kind.Kind.{Kind}
use Rattle.json_reader.specs.code.Reading.{number_cause}
use Rattle.json_reader.specs.code.Steps.{IsPlain, Number, NoNumber}
use Rattle.json_reader.proofs.Walk.{NumberRun, number_found, number_none, number_some}
use Rattle.json_reader.proofs.number.number_at.Goals as goal

pub range-requires-clause-end_boundary : goal.range-requires-clause-end_boundary
range-requires-clause-end_boundary c =
    let v = c.as_bytes-bytes.ensures.value in
    let len = c.number_run-len.result.0 in
    let end = c.args.at + 1 + len in
    let same : get_or c.args.text.now c.args.at 0 ≡ get_or c.as_bytes-bytes.result.now c.args.at 0 = ap (λ (t : List ℕ). get_or t c.args.at 0) (sym v) in
    let run : NumberRun c.args.text.now c.args.at end c.number_run-len.result.1 = number_found c.as_bytes-bytes.result.now c.args.text.now c.args.at len _ c.first_part.result c.number_run-len.result.1 v refl c.first_part.ensures c.requires.within c.requires.begins c.number_run-len.ensures.within c.number_run-len.ensures.run c.number_run-len.ensures.most in
    let n : end - 1 + 1 ≡ end = omega arith in
    let l : end - 1 < length c.args.text.now = omega (arith, run.within) in
    subst (λ k. IsCharBoundary c.args.text.now k) n (IsCharBoundary-after_ascii c.args.text.now (end - 1) c.utf8.text l run.ascii)

pub returns-in-Some-clause-number : goal.returns-in-Some-clause-number
returns-in-Some-clause-number c =
    let v = c.as_bytes-bytes.ensures.value in
    let len = c.number_run-len.result.0 in
    let end = c.args.at + 1 + len in
    let run : NumberRun c.args.text.now c.args.at end c.number_run-len.result.1 = number_found c.as_bytes-bytes.result.now c.args.text.now c.args.at len _ c.first_part.result c.number_run-len.result.1 v refl c.first_part.ensures c.requires.within c.requires.begins c.number_run-len.ensures.within c.number_run-len.ensures.run c.number_run-len.ensures.most in
    let known = subst (λ (t : List ℕ). IsNumber t c.in-Some.number) c.range.ensures.value c.in-Some.ensures in
    let made = number_some c.args.text.now c.args.at end c.number_run-len.result.1 c.in-Some.number run known in
    (run.more, run.within, subst IsPlain (sym c.kind_of.ensures) made.0, subst (λ (k : Kind). Number c.args.text.now c.args.at k end) (sym c.kind_of.ensures) made.1)

pub returns-then-completes-clause-number : goal.returns-then-completes-clause-number
returns-then-completes-clause-number c =
    let v = c.as_bytes-bytes.ensures.value in
    let len = c.number_run-len.result.0 in
    let end = c.args.at + 1 + len in
    let run : NumberRun c.args.text.now c.args.at end c.number_run-len.result.1 = number_found c.as_bytes-bytes.result.now c.args.text.now c.args.at len _ c.first_part.result c.number_run-len.result.1 v refl c.first_part.ensures c.requires.within c.requires.begins c.number_run-len.ensures.within c.number_run-len.ensures.run c.number_run-len.ensures.most in
    let none = number_none c.args.text.now c.args.at end c.number_run-len.result.1 c.completes.result run c.completes.ensures (λ n i. c.in-None.ensures n (subst (λ (t : List ℕ). IsNumber t n) (sym c.range.ensures.value) i)) in
    subst (λ (q : Bool). NoNumber c.args.text.now c.args.at (number_cause end q None c.args.at)) c.if-completes.true none

pub returns-else-completes-clause-number : goal.returns-else-completes-clause-number
returns-else-completes-clause-number c =
    let v = c.as_bytes-bytes.ensures.value in
    let len = c.number_run-len.result.0 in
    let end = c.args.at + 1 + len in
    let run : NumberRun c.args.text.now c.args.at end c.number_run-len.result.1 = number_found c.as_bytes-bytes.result.now c.args.text.now c.args.at len _ c.first_part.result c.number_run-len.result.1 v refl c.first_part.ensures c.requires.within c.requires.begins c.number_run-len.ensures.within c.number_run-len.ensures.run c.number_run-len.ensures.most in
    let none = number_none c.args.text.now c.args.at end c.number_run-len.result.1 c.completes.result run c.completes.ensures (λ n i. c.in-None.ensures n (subst (λ (t : List ℕ). IsNumber t n) (sym c.range.ensures.value) i)) in
    subst (λ (q : Bool). NoNumber c.args.text.now c.args.at (number_cause end q None c.args.at)) c.if-completes.false none

pub range-requires-clause-start_boundary : goal.range-requires-clause-start_boundary
range-requires-clause-start_boundary c = grind (arith, common_steps)

pub returns-else-completes-clause-no_memory : goal.returns-else-completes-clause-no_memory
returns-else-completes-clause-no_memory c = grind (arith, common_steps)

pub returns-in-Some-clause-no_memory : goal.returns-in-Some-clause-no_memory
returns-in-Some-clause-no_memory c = grind (arith, common_steps)

pub returns-then-completes-clause-no_memory : goal.returns-then-completes-clause-no_memory
returns-then-completes-clause-no_memory c = grind (arith, common_steps)
