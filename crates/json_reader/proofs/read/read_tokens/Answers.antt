use Rattle.std.proofs.Common.{◌≡◌, ◌<◌, ◌≤◌, ℕ, false, List, length, get_or, arith, refl, sym, subst, ◌∙◌, ap, Result, Err}
use Rattle.json_reader.specs.Json.{is_space}
use Rattle.json_reader.specs.declared.stage.Stage.TheVariants as stage
use Rattle.json_reader.specs.code.Reading.{AtValue, mark_len, behind_mark, from}
use Rattle.json_reader.specs.code.Steps.{Fits, phase_of}
use Rattle.json_reader.proofs.ByClass.{skipped_in}
use Rattle.json_reader.proofs.Verdicts.{refused, ends_well, ends_open, ends_early}
use Rattle.json_reader.proofs.Refuses.{refuses}
use Rattle.json_reader.specs.declared.refusal.JsonRefusal.{JsonRefusal}
use Rattle.json_reader.specs.declared.refusal.JsonRefusal.TheVariants.{Syntax, NoMemory}
use Rattle.json_reader.proofs.read.read_tokens.Goals as goal

same_refusal : {T : Type 0} (e f : JsonRefusal) → ◌≡◌ {A = Result T JsonRefusal} (Err e) (Err f) → e ≡ f
same_refusal e f h = cc

not_memory : {T : Type 0} (n : ℕ) → ◌≡◌ {A = Result T JsonRefusal} (Err (Syntax n)) (Err NoMemory) → ⊥
not_memory n h = cc

pub returns-else-depth-eq0-clause-memory : goal.returns-else-depth-eq0-clause-memory
returns-else-depth-eq0-clause-memory c = λ h. absurd (not_memory _ h)

pub returns-in_default-clause-memory : goal.returns-in_default-clause-memory
returns-in_default-clause-memory c = λ h. absurd (not_memory _ h)

pub returns-then-depth-eq0-clause-tree : goal.returns-then-depth-eq0-clause-tree
returns-then-depth-eq0-clause-tree c =
    let l : length c.args.text.now ≤ c.loop-position.position.at = omega arith in
    ends_well c.args.text.now c.loop-position.position.at c.loop-position.position.stage c.loop-position.builder c.in-After.is l c.loop-position.invariant.0 (sym c.depth.ensures ∙ c.if-depth-eq0.true)

pub returns-else-depth-eq0-clause-refusal : goal.returns-else-depth-eq0-clause-refusal
returns-else-depth-eq0-clause-refusal c =
    let l : length c.args.text.now ≤ c.loop-position.position.at = omega arith in
    let same : length c.args.text.now ≡ c.loop-position.position.at = omega (arith, l, c.loop-position.invariant.2) in
    λ q. refuses c.args.text.now (Syntax (length c.args.text.now)) (ends_open c.args.text.now c.loop-position.position.at (length c.args.text.now) c.loop-position.position.stage c.loop-position.builder same c.in-After.is l c.loop-position.invariant.0 (λ h. c.if-depth-eq0.false (c.depth.ensures ∙ h)))

pub returns-in_default-clause-refusal : goal.returns-in_default-clause-refusal
returns-in_default-clause-refusal c =
    let l : length c.args.text.now ≤ c.loop-position.position.at = omega arith in
    let same : length c.args.text.now ≡ c.loop-position.position.at = omega (arith, l, c.loop-position.invariant.2) in
    λ q. refuses c.args.text.now (Syntax (length c.args.text.now)) (ends_early c.args.text.now c.loop-position.position.at (length c.args.text.now) c.loop-position.position.stage c.loop-position.builder same c.in_default.not-After l c.loop-position.invariant.0)

pub returns-in-Err-clause-refusal : goal.returns-in-Err-clause-refusal
returns-in-Err-clause-refusal c = λ n. refuses c.args.text.now c.in-Err.refusal (refused c.args.text.now c.loop-position.position.at (phase_of c.loop-position.position.stage) c.loop-position.builder c.step.new.builder c.in-Err.refusal c.loop-position.invariant.0 c.in-Err.ensures.gives n)

pub returns-in-Err-clause-memory : goal.returns-in-Err-clause-memory
returns-in-Err-clause-memory c = λ h. (c.loop-position.position.at, c.loop-position-test.true, c.in-Err.ensures.memory (ap Err (same_refusal c.in-Err.refusal NoMemory h)))

pub loop-position-init : goal.loop-position-init
loop-position-init c =
    let text = c.args.text.now in
    let bytes = c.as_bytes-bytes.result.now in
    let same = c.as_bytes-bytes.ensures.value in
    let place = c.space_end.result in
    let e = c.space_end.ensures in
    let begun = c.requires.begun in
    let whole = ap (λ n. from text n AtValue c.args.builder.now) (c.front_len.ensures ∙ ap mark_len same) ∙ ap (from text (mark_len text) AtValue) begun ∙ sym (ap (behind_mark text) c.requires.unmarked) in (
      sym (skipped_in text bytes c.front_len.result place stage.Value c.args.builder.now same e.from e.within e.space) ∙ whole,
      subst (Fits stage.Value) (sym begun) (record { rooted = tt; awaits = (refl, refl) }),
      subst (λ (t : List ℕ). place ≤ length t) same e.within,
      subst (λ (t : List ℕ). place < length t → is_space (get_or t place 0) ≡ false) same e.most,
    )

pub loop-position-preserved : goal.loop-position-preserved
loop-position-preserved c =
    let text = c.args.text.now in
    let bytes = c.as_bytes-bytes.result.now in
    let same = c.as_bytes-bytes.ensures.value in
    let place = c.space_end-in-Ok.result in
    let e = c.space_end-in-Ok.ensures in
    let g = c.in-Ok.ensures.gives in (
      sym (skipped_in text bytes c.in-Ok.next.at place c.in-Ok.next.stage c.step.new.builder same e.from e.within e.space) ∙ sym g.2 ∙ c.loop-position.invariant.0,
      g.3,
      subst (λ (t : List ℕ). place ≤ length t) same e.within,
      subst (λ (t : List ℕ). place < length t → is_space (get_or t place 0) ≡ false) same e.most,
    )
