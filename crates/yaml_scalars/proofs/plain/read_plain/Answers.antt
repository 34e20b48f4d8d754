use Rattle.std.proofs.Common.{◌≡◌, ℕ, List, ◌+◌, ◌-◌, ◌<◌, ◌≤◌, true, false, length, take, drop, arith, refl, subst, sym, ◌∙◌, ap}
use Rattle.std.specs.Prelude.{◌||◌, ◌&&◌, not, slice_index}
use Rattle.std.specs.Cow.{cow_str_bytes}
use Rattle.yaml_scalars.specs.declared.plain_line.Why.TheVariants.{Break, Return}
use Rattle.yaml_scalars.specs.Lines.{Fails, is_mark, is_cut_mark, trimmed}
use Rattle.yaml_scalars.specs.code.Walk.{line_at}
use Rattle.yaml_scalars.specs.Plain.{begins_plain, wrong_begin, plain_len, why}
use Rattle.yaml_scalars.specs.Scalar.{is_first_column, IsEndOf, Answers, HasKind}
use Rattle.yaml_scalars.proofs.LineParts.{slice_length}
use Rattle.yaml_scalars.proofs.FurtherLines.{content_is, not_true, not_false, stands_same}
use Rattle.yaml_scalars.proofs.PlainFirst.{plain_mark, plain_wrong, plain_first, first_return, first_break, first_stands, line_filled, content_some, end_of}
use Rattle.yaml_scalars.proofs.plain.read_plain.Goals.{in_default-via-in-Break+else-not-setting, in_default-via-in_default}
use Rattle.yaml_scalars.proofs.plain.read_plain.Goals as goal

break_apart : Break ≡ Return → ⊥
break_apart e = cc

pub returns-then-is_mark_at-clause-answer : goal.returns-then-is_mark_at-clause-answer
returns-then-is_mark_at-clause-answer c =
    let text = c.args.text.now in
    let at = c.args.at in
    let flow = c.args.setting.flow in
    let v = c.as_bytes-bytes.ensures.value in
    plain_mark c.args.setting text at (subst (λ (t : List ℕ). true ≡ (is_first_column t at && (is_mark (line_at (drop at t)) || is_cut_mark (line_at (drop at t))))) v (sym c.if-is_mark_at.true ∙ c.is_mark_at.ensures))

pub returns-then-not-begins_plain-clause-answer : goal.returns-then-not-begins_plain-clause-answer
returns-then-not-begins_plain-clause-answer c =
    let text = c.args.text.now in
    let at = c.args.at in
    let flow = c.args.setting.flow in
    let v = c.as_bytes-bytes.ensures.value in
    let m = subst (λ (t : List ℕ). false ≡ (is_first_column t at && (is_mark (line_at (drop at t)) || is_cut_mark (line_at (drop at t))))) v (sym c.if-is_mark_at.false ∙ c.is_mark_at.ensures) in
    let b = subst (λ (t : List ℕ). false ≡ begins_plain flow (line_at (drop at t))) v (sym c.if-not-begins_plain.true ∙ c.begins_plain.ensures) in
    let w = subst (λ (t : List ℕ). c.wrong_begin.result ≡ wrong_begin at (line_at (drop at t))) v c.wrong_begin.ensures.place in
    plain_wrong c.args.setting text at m b ∙ ap Fails (sym w)

pub goes_on-requires-clause-end : goal.goes_on-requires-clause-end
goes_on-requires-clause-end c =
    let text = c.args.text.now in
    let at = c.args.at in
    let flow = c.args.setting.flow in
    let v = c.as_bytes-bytes.ensures.value in
    let b = subst (λ (t : List ℕ). true ≡ begins_plain flow (line_at (drop at t))) v (sym c.if-not-begins_plain.false ∙ c.begins_plain.ensures) in
    let stop = c.plain_end-stop.result in
    let e = subst (λ (t : List ℕ). stop ≡ at + plain_len flow false (line_at (drop at t))) v c.plain_end-stop.ensures.end in
    let end = c.trim_end-end.result in
    let trim = subst (λ (t : List ℕ). take (end - at) (drop at t) ≡ trimmed (take (stop - at) (drop at t))) v c.trim_end-end.ensures.part in
    let slice = content_is flow text at end stop e trim in
    let within = subst (λ (t : List ℕ). stop ≤ length t) v c.plain_end-stop.ensures.within in
    let fits : end ≤ length text = omega (arith, within, c.trim_end-end.ensures.to) in
    let size = slice_length text (take (end - at) (drop at text)) at end c.trim_end-end.ensures.from fits refl in
    let some = content_some flow (line_at (drop at text)) (sym b) in
    let more : at < end = omega (arith, size, some, ap (λ (t : List ℕ). length t) slice) in
    let edge = subst (λ (t : List ℕ). end < length t → slice_index t end < 128) v (c.trim_end-end.ensures.edge c.plain_end-stop.ensures.edge) in
    end_of text at end more fits edge

pub returns-in-Return-clause-answer : goal.returns-in-Return-clause-answer
returns-in-Return-clause-answer c =
    let text = c.args.text.now in
    let at = c.args.at in
    let flow = c.args.setting.flow in
    let v = c.as_bytes-bytes.ensures.value in
    let m = subst (λ (t : List ℕ). false ≡ (is_first_column t at && (is_mark (line_at (drop at t)) || is_cut_mark (line_at (drop at t))))) v (sym c.if-is_mark_at.false ∙ c.is_mark_at.ensures) in
    let b = subst (λ (t : List ℕ). true ≡ begins_plain flow (line_at (drop at t))) v (sym c.if-not-begins_plain.false ∙ c.begins_plain.ensures) in
    let stop = c.plain_end-stop.result in
    let e = subst (λ (t : List ℕ). stop ≡ at + plain_len flow false (line_at (drop at t))) v c.plain_end-stop.ensures.end in
    let w = subst (λ (t : List ℕ). Return ≡ why (line_at (drop stop t))) v (sym c.in-Return.is ∙ c.why_at.ensures) in
    plain_first c.args.setting text at stop Return m b e w ∙ first_return c.args.setting text at stop e

pub returns-in-Break-clause-answer : goal.returns-in-Break-clause-answer
returns-in-Break-clause-answer c =
    let text = c.args.text.now in
    let at = c.args.at in
    let flow = c.args.setting.flow in
    let v = c.as_bytes-bytes.ensures.value in
    let m = subst (λ (t : List ℕ). false ≡ (is_first_column t at && (is_mark (line_at (drop at t)) || is_cut_mark (line_at (drop at t))))) v (sym c.if-is_mark_at.false ∙ c.is_mark_at.ensures) in
    let b = subst (λ (t : List ℕ). true ≡ begins_plain flow (line_at (drop at t))) v (sym c.if-not-begins_plain.false ∙ c.begins_plain.ensures) in
    let stop = c.plain_end-stop.result in
    let e = subst (λ (t : List ℕ). stop ≡ at + plain_len flow false (line_at (drop at t))) v c.plain_end-stop.ensures.end in
    let end = c.trim_end-end.result in
    let trim = subst (λ (t : List ℕ). take (end - at) (drop at t) ≡ trimmed (take (stop - at) (drop at t))) v c.trim_end-end.ensures.part in
    let slice = content_is flow text at end stop e trim in
    let within = subst (λ (t : List ℕ). stop ≤ length t) v c.plain_end-stop.ensures.within in
    let fits : end ≤ length text = omega (arith, within, c.trim_end-end.ensures.to) in
    let size = slice_length text (take (end - at) (drop at text)) at end c.trim_end-end.ensures.from fits refl in
    let w = subst (λ (t : List ℕ). Break ≡ why (line_at (drop stop t))) v (sym c.in-Break.is ∙ c.why_at.ensures) in
    let o = plain_first c.args.setting text at stop Break m b e w ∙ first_break c.args.setting text at (take (end - at) (drop at text)) end (not_true c.args.setting.one_line c.if-not-setting.true) slice size in
    subst (λ o. Answers (not c.args.setting.one_line) o c.goes_on.result) (sym o) c.goes_on.ensures.answer

pub returns-in_default-clause-answer : goal.returns-in_default-clause-answer
returns-in_default-clause-answer c =
    let text = c.args.text.now in
    let at = c.args.at in
    let flow = c.args.setting.flow in
    let v = c.as_bytes-bytes.ensures.value in
    let m = subst (λ (t : List ℕ). false ≡ (is_first_column t at && (is_mark (line_at (drop at t)) || is_cut_mark (line_at (drop at t))))) v (sym c.if-is_mark_at.false ∙ c.is_mark_at.ensures) in
    let b = subst (λ (t : List ℕ). true ≡ begins_plain flow (line_at (drop at t))) v (sym c.if-not-begins_plain.false ∙ c.begins_plain.ensures) in
    let stop = c.plain_end-stop.result in
    let e = subst (λ (t : List ℕ). stop ≡ at + plain_len flow false (line_at (drop at t))) v c.plain_end-stop.ensures.end in
    let end = c.trim_end-end.result in
    let trim = subst (λ (t : List ℕ). take (end - at) (drop at t) ≡ trimmed (take (stop - at) (drop at t))) v c.trim_end-end.ensures.part in
    let slice = content_is flow text at end stop e trim in
    let within = subst (λ (t : List ℕ). stop ≤ length t) v c.plain_end-stop.ensures.within in
    let fits : end ≤ length text = omega (arith, within, c.trim_end-end.ensures.to) in
    let size = slice_length text (take (end - at) (drop at text)) at end c.trim_end-end.ensures.from fits refl in
    let w = subst (λ (t : List ℕ). c.why_at.result ≡ why (line_at (drop stop t))) v c.why_at.ensures in
    let r : c.why_at.result ≡ Return → ⊥ = λ h. elim c.in_default.branch [ in_default-via-in-Break+else-not-setting x ↦ absurd (break_apart (sym x.in-Break.is ∙ h)) | in_default-via-in_default x ↦ x.in_default.not-Return h ] in
    let k : c.why_at.result ≡ Break → c.args.setting.one_line ≡ true = λ h. elim c.in_default.branch [ in_default-via-in-Break+else-not-setting x ↦ not_false c.args.setting.one_line x.if-not-setting.false | in_default-via-in_default x ↦ absurd (x.in_default.not-Break h) ] in
    let o = plain_first c.args.setting text at stop c.why_at.result m b e w ∙ first_stands c.args.setting text at c.why_at.result (take (end - at) (drop at text)) end r k slice size in
    (o ∙ stands_same (take (end - at) (drop at text)) (cow_str_bytes c.scalar.result.text) end c.scalar.result.end (c.scalar.ensures.text ∙ c.range.ensures.value) c.scalar.ensures.end, subst (λ t. HasKind (not c.args.setting.one_line) t c.scalar.result.kind) (sym c.scalar.ensures.text) c.scalar.ensures.kind)

pub returns-in_default-clause-end : goal.returns-in_default-clause-end
returns-in_default-clause-end c =
    let text = c.args.text.now in
    let at = c.args.at in
    let flow = c.args.setting.flow in
    let v = c.as_bytes-bytes.ensures.value in
    let b = subst (λ (t : List ℕ). true ≡ begins_plain flow (line_at (drop at t))) v (sym c.if-not-begins_plain.false ∙ c.begins_plain.ensures) in
    let stop = c.plain_end-stop.result in
    let e = subst (λ (t : List ℕ). stop ≡ at + plain_len flow false (line_at (drop at t))) v c.plain_end-stop.ensures.end in
    let end = c.trim_end-end.result in
    let trim = subst (λ (t : List ℕ). take (end - at) (drop at t) ≡ trimmed (take (stop - at) (drop at t))) v c.trim_end-end.ensures.part in
    let slice = content_is flow text at end stop e trim in
    let within = subst (λ (t : List ℕ). stop ≤ length t) v c.plain_end-stop.ensures.within in
    let fits : end ≤ length text = omega (arith, within, c.trim_end-end.ensures.to) in
    let size = slice_length text (take (end - at) (drop at text)) at end c.trim_end-end.ensures.from fits refl in
    let some = content_some flow (line_at (drop at text)) (sym b) in
    let more : at < end = omega (arith, size, some, ap (λ (t : List ℕ). length t) slice) in
    let edge = subst (λ (t : List ℕ). end < length t → slice_index t end < 128) v (c.trim_end-end.ensures.edge c.plain_end-stop.ensures.edge) in
    subst (λ e. IsEndOf text at e) (sym c.scalar.ensures.end) (end_of text at end more fits edge)

pub range-requires-clause-end_boundary : goal.range-requires-clause-end_boundary
range-requires-clause-end_boundary c =
    let text = c.args.text.now in
    let at = c.args.at in
    let flow = c.args.setting.flow in
    let v = c.as_bytes-bytes.ensures.value in
    let b = subst (λ (t : List ℕ). true ≡ begins_plain flow (line_at (drop at t))) v (sym c.if-not-begins_plain.false ∙ c.begins_plain.ensures) in
    let stop = c.plain_end-stop.result in
    let e = subst (λ (t : List ℕ). stop ≡ at + plain_len flow false (line_at (drop at t))) v c.plain_end-stop.ensures.end in
    let end = c.trim_end-end.result in
    let trim = subst (λ (t : List ℕ). take (end - at) (drop at t) ≡ trimmed (take (stop - at) (drop at t))) v c.trim_end-end.ensures.part in
    let slice = content_is flow text at end stop e trim in
    let within = subst (λ (t : List ℕ). stop ≤ length t) v c.plain_end-stop.ensures.within in
    let fits : end ≤ length text = omega (arith, within, c.trim_end-end.ensures.to) in
    let size = slice_length text (take (end - at) (drop at text)) at end c.trim_end-end.ensures.from fits refl in
    let some = content_some flow (line_at (drop at text)) (sym b) in
    let more : at < end = omega (arith, size, some, ap (λ (t : List ℕ). length t) slice) in
    let edge = subst (λ (t : List ℕ). end < length t → slice_index t end < 128) v (c.trim_end-end.ensures.edge c.plain_end-stop.ensures.edge) in
    let ends = end_of text at end more fits edge in ends.2

pub returns-in-Break-clause-memory : goal.returns-in-Break-clause-memory
returns-in-Break-clause-memory c want =
    let text = c.args.text.now in
    let at = c.args.at in
    let flow = c.args.setting.flow in
    let v = c.as_bytes-bytes.ensures.value in
    let b = subst (λ (t : List ℕ). true ≡ begins_plain flow (line_at (drop at t))) v (sym c.if-not-begins_plain.false ∙ c.begins_plain.ensures) in
    let stop = c.plain_end-stop.result in
    let e = subst (λ (t : List ℕ). stop ≡ at + plain_len flow false (line_at (drop at t))) v c.plain_end-stop.ensures.end in
    let w = subst (λ (t : List ℕ). Break ≡ why (line_at (drop stop t))) v (sym c.in-Break.is ∙ c.why_at.ensures) in
    line_filled c.args.setting text at stop (not_true c.args.setting.one_line c.if-not-setting.true) b e w
