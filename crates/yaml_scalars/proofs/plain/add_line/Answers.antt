use Rattle.std.proofs.Common.{◌≡◌, ℕ, List, ◌+◌, drop, false, subst, sym, ap, ◌∙◌, ◌<◌, ◌≤◌, length, get_or}
use Rattle.std.specs.Prelude.{string_bytes}
use Rattle.yaml_scalars.specs.declared.plain_line.Why.TheVariants.{Break, Return, Colon, Comment, Mark}
use Rattle.yaml_scalars.specs.Lines.{Fails}
use Rattle.yaml_scalars.specs.code.Walk.{line_at}
use Rattle.yaml_scalars.specs.Plain.{plain_len, why, return_shown}
use Rattle.yaml_scalars.specs.code.PlainSteps.{from, rest}
use Rattle.yaml_scalars.proofs.FurtherLines.{not_true, not_false, line_return, line_key, line_break, line_comment, line_colon, line_mark, ends_same, on_ok_both}
use Rattle.yaml_scalars.proofs.plain.add_line.Goals as goal

pub returns-in-Return-clause-err : goal.returns-in-Return-clause-err
returns-in-Return-clause-err c =
    let v = c.as_bytes-bytes.ensures.value in
    let stop = c.plain_end-stop.result in
    let e = subst (λ (t : List ℕ). stop ≡ c.args.line.begin + plain_len c.args.setting.flow false (line_at (drop c.args.line.begin t))) v c.plain_end-stop.ensures.end in
    let w = subst (λ (t : List ℕ). Return ≡ why (line_at (drop stop t))) v (sym c.in-Return.is ∙ c.why_at.ensures) in
    let shown = subst (λ (t : List ℕ). c.return_shown-shown.result ≡ return_shown c.args.setting.flow (line_at (drop c.args.line.begin t)) c.args.line.begin) v c.return_shown-shown.ensures.place in
    line_return c.args.setting c.args.text.now c.args.line stop (string_bytes c.args.reading.now.text) c.args.reading.now.end e w ∙ ap Fails (sym shown)

pub returns-in-Colon-clause-err : goal.returns-in-Colon-clause-err
returns-in-Colon-clause-err c =
    let v = c.as_bytes-bytes.ensures.value in
    let stop = c.plain_end-stop.result in
    let e = subst (λ (t : List ℕ). stop ≡ c.args.line.begin + plain_len c.args.setting.flow false (line_at (drop c.args.line.begin t))) v c.plain_end-stop.ensures.end in
    let w = subst (λ (t : List ℕ). Colon ≡ why (line_at (drop stop t))) v (sym c.in-Colon.is ∙ c.why_at.ensures) in
    line_key c.args.setting c.args.text.now c.args.line stop (string_bytes c.args.reading.now.text) c.args.reading.now.end e w (not_true c.args.setting.flow c.if-not-setting.true)

pub returns-in_ok-push_content-in-Break-clause-ok : goal.returns-in_ok-push_content-in-Break-clause-ok
returns-in_ok-push_content-in-Break-clause-ok c =
    let v = c.as_bytes-bytes.ensures.value in
    let stop = c.plain_end-stop.result in
    let text = string_bytes c.push_content.new.reading.text in
    let end = c.push_content.new.reading.end in
    let e = subst (λ (t : List ℕ). stop ≡ c.args.line.begin + plain_len c.args.setting.flow false (line_at (drop c.args.line.begin t))) v c.plain_end-stop.ensures.end in
    let w = subst (λ (t : List ℕ). Break ≡ why (line_at (drop stop t))) v (sym c.in-Break.is ∙ c.why_at.ensures) in
    line_break c.args.setting c.args.text.now c.args.line stop (string_bytes c.args.reading.now.text) c.args.reading.now.end text end e w c.in_ok-push_content-in-Break.ensures.text c.in_ok-push_content-in-Break.ensures.end
    ∙ subst (λ (t : List ℕ). from c.args.setting t stop text end 0 ≡ rest c.args.setting t c.next_content-reading.result text end) v (c.next_content-reading.ensures.rest text end)

pub returns-in-Comment-clause-ok : goal.returns-in-Comment-clause-ok
returns-in-Comment-clause-ok c =
    let v = c.as_bytes-bytes.ensures.value in
    let stop = c.plain_end-stop.result in
    let e = subst (λ (t : List ℕ). stop ≡ c.args.line.begin + plain_len c.args.setting.flow false (line_at (drop c.args.line.begin t))) v c.plain_end-stop.ensures.end in
    let w = subst (λ (t : List ℕ). Comment ≡ why (line_at (drop stop t))) v (sym c.in-Comment.is ∙ c.why_at.ensures) in
    let text = string_bytes c.push_content-in-Comment.new.reading.text in
    let end = c.push_content-in-Comment.new.reading.end in
    on_ok_both c.push_content-in-Comment.result _ _ _ c.push_content-in-Comment.ensures.text c.push_content-in-Comment.ensures.end (λ a b.
    line_comment c.args.setting c.args.text.now c.args.line stop (string_bytes c.args.reading.now.text) c.args.reading.now.end text end e w a b
    ∙ sym (ap (λ n. rest c.args.setting c.args.text.now n text end) c.push_content-in-Comment.ensures.next))

pub returns-in-Colon-2-clause-ok : goal.returns-in-Colon-2-clause-ok
returns-in-Colon-2-clause-ok c =
    let v = c.as_bytes-bytes.ensures.value in
    let stop = c.plain_end-stop.result in
    let e = subst (λ (t : List ℕ). stop ≡ c.args.line.begin + plain_len c.args.setting.flow false (line_at (drop c.args.line.begin t))) v c.plain_end-stop.ensures.end in
    let w = subst (λ (t : List ℕ). Colon ≡ why (line_at (drop stop t))) v (sym c.in-Colon.is ∙ c.why_at.ensures) in
    on_ok_both c.end_on.result _ _ _ c.end_on.ensures.ok c.end_on.ensures.next
    (ends_same c.args.setting c.args.text.now c.args.line _ _ _ _ _ (line_colon c.args.setting c.args.text.now c.args.line stop (string_bytes c.args.reading.now.text) c.args.reading.now.end e w (not_false c.args.setting.flow c.if-not-setting.false)))

pub returns-in-Mark-clause-ok : goal.returns-in-Mark-clause-ok
returns-in-Mark-clause-ok c =
    let v = c.as_bytes-bytes.ensures.value in
    let stop = c.plain_end-stop.result in
    let e = subst (λ (t : List ℕ). stop ≡ c.args.line.begin + plain_len c.args.setting.flow false (line_at (drop c.args.line.begin t))) v c.plain_end-stop.ensures.end in
    let w = subst (λ (t : List ℕ). Mark ≡ why (line_at (drop stop t))) v (sym c.in-Mark.is ∙ c.why_at.ensures) in
    on_ok_both c.end_on-in-Mark.result _ _ _ c.end_on-in-Mark.ensures.ok c.end_on-in-Mark.ensures.next
    (ends_same c.args.setting c.args.text.now c.args.line _ _ _ _ _ (line_mark c.args.setting c.args.text.now c.args.line stop (string_bytes c.args.reading.now.text) c.args.reading.now.end e w))

pub push_content-requires-clause-order : goal.push_content-requires-clause-order
push_content-requires-clause-order c = let stop = c.plain_end-stop.result in subst (λ (t : List ℕ). stop ≡ c.args.line.begin + plain_len c.args.setting.flow false (line_at (drop c.args.line.begin t))) c.as_bytes-bytes.ensures.value c.plain_end-stop.ensures.end

pub push_content-requires-clause-within : goal.push_content-requires-clause-within
push_content-requires-clause-within c = let stop = c.plain_end-stop.result in subst (λ (t : List ℕ). stop ≤ length t) c.as_bytes-bytes.ensures.value c.plain_end-stop.ensures.within

pub push_content-requires-clause-edge : goal.push_content-requires-clause-edge
push_content-requires-clause-edge c = let stop = c.plain_end-stop.result in subst (λ (t : List ℕ). stop < length t → get_or t stop 0 < 128) c.as_bytes-bytes.ensures.value c.plain_end-stop.ensures.edge

pub push_content-requires-in-Comment-clause-order : goal.push_content-requires-in-Comment-clause-order
push_content-requires-in-Comment-clause-order c = let stop = c.plain_end-stop.result in subst (λ (t : List ℕ). stop ≡ c.args.line.begin + plain_len c.args.setting.flow false (line_at (drop c.args.line.begin t))) c.as_bytes-bytes.ensures.value c.plain_end-stop.ensures.end

pub push_content-requires-in-Comment-clause-within : goal.push_content-requires-in-Comment-clause-within
push_content-requires-in-Comment-clause-within c = let stop = c.plain_end-stop.result in subst (λ (t : List ℕ). stop ≤ length t) c.as_bytes-bytes.ensures.value c.plain_end-stop.ensures.within

pub push_content-requires-in-Comment-clause-edge : goal.push_content-requires-in-Comment-clause-edge
push_content-requires-in-Comment-clause-edge c = let stop = c.plain_end-stop.result in subst (λ (t : List ℕ). stop < length t → get_or t stop 0 < 128) c.as_bytes-bytes.ensures.value c.plain_end-stop.ensures.edge

pub end_on-requires-clause-order : goal.end_on-requires-clause-order
end_on-requires-clause-order c = let stop = c.plain_end-stop.result in subst (λ (t : List ℕ). stop ≡ c.args.line.begin + plain_len c.args.setting.flow false (line_at (drop c.args.line.begin t))) c.as_bytes-bytes.ensures.value c.plain_end-stop.ensures.end

pub end_on-requires-clause-within : goal.end_on-requires-clause-within
end_on-requires-clause-within c = let stop = c.plain_end-stop.result in subst (λ (t : List ℕ). stop ≤ length t) c.as_bytes-bytes.ensures.value c.plain_end-stop.ensures.within

pub end_on-requires-clause-edge : goal.end_on-requires-clause-edge
end_on-requires-clause-edge c = let stop = c.plain_end-stop.result in subst (λ (t : List ℕ). stop < length t → get_or t stop 0 < 128) c.as_bytes-bytes.ensures.value c.plain_end-stop.ensures.edge

pub end_on-requires-in-Mark-clause-order : goal.end_on-requires-in-Mark-clause-order
end_on-requires-in-Mark-clause-order c = let stop = c.plain_end-stop.result in subst (λ (t : List ℕ). stop ≡ c.args.line.begin + plain_len c.args.setting.flow false (line_at (drop c.args.line.begin t))) c.as_bytes-bytes.ensures.value c.plain_end-stop.ensures.end

pub end_on-requires-in-Mark-clause-within : goal.end_on-requires-in-Mark-clause-within
end_on-requires-in-Mark-clause-within c = let stop = c.plain_end-stop.result in subst (λ (t : List ℕ). stop ≤ length t) c.as_bytes-bytes.ensures.value c.plain_end-stop.ensures.within

pub end_on-requires-in-Mark-clause-edge : goal.end_on-requires-in-Mark-clause-edge
end_on-requires-in-Mark-clause-edge c = let stop = c.plain_end-stop.result in subst (λ (t : List ℕ). stop < length t → get_or t stop 0 < 128) c.as_bytes-bytes.ensures.value c.plain_end-stop.ensures.edge
