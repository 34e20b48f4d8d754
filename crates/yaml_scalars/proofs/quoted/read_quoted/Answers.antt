use Rattle.std.proofs.Common.{◌≡◌, ℕ, List, [], ◌+◌, ◌-◌, ◌≤◌, ◌⊎◌, length, take, drop, get_or, arith, refl, sym, subst, ap, ◌∙◌}
use Rattle.std.specs.Str.{IsCharBoundary}
use Rattle.yaml_scalars.specs.Lines.{Stands}
use Rattle.yaml_scalars.specs.Quoted.{piece}
use Rattle.yaml_scalars.specs.code.QuotedSteps.{from}
use Rattle.yaml_scalars.specs.code.Walk.{line_at}
use Rattle.yaml_scalars.proofs.QuotedGoing.{cut_behind, cut_before, quote_ascii, answers_refused}
use Rattle.yaml_scalars.proofs.QuotedRuns.{quote_is, quote_ahead, quoted_begins, from_closes}
use Rattle.yaml_scalars.proofs.quoted.read_quoted.Goals as goal

pub range-requires-clause-start_boundary : goal.range-requires-clause-start_boundary
range-requires-clause-start_boundary c =
    let text = c.args.text.now in
    λ h. cut_behind text (c.args.at + 1) c.utf8.text h (omega arith) (quote_ascii text c.args.at (quote_is text c.args.at c.requires.within c.requires.quoted))

pub returns-then-closes-clause-answer : goal.returns-then-closes-clause-answer
returns-then-closes-clause-answer c =
    let v = c.as_bytes-bytes.ensures.value in
    let bytes = c.as_bytes-bytes.result.now in
    let text = c.args.text.now in
    let at = c.args.at in
    let one_line = c.args.setting.one_line in
    let stop = c.first_special-stop.result in
    let quote = get_or bytes at 0 in
    let is_quote = quote_is text at c.requires.within c.requires.quoted in
    let in_bytes = subst (λ (t : List ℕ). (get_or t at 0 ≡ 34) ⊎ (get_or t at 0 ≡ 39)) (sym v) is_quote in
    let k = c.closes.ensures c.if-closes.true in
    let rest = line_at (drop (stop + 1) bytes) in
    let read = from_closes quote bytes (at + 1) stop c.first_special-stop.ensures.from c.first_special-stop.ensures.within (λ k l m. sym (c.specials.ensures (get_or bytes k 0)) ∙ c.first_special-stop.ensures.before k l m) one_line [] (get_or bytes stop 0)
    (quote_ahead bytes stop k.0 (subst (λ b. (b ≡ 34) ⊎ (b ≡ 39)) (sym k.1) in_bytes))
    (ap (λ b. piece quote b rest) k.1 ∙ k.2) in
    let whole = subst (λ (t : List ℕ). from (get_or t at 0) one_line t (at + 1) [] ≡ Stands (take (stop - (at + 1)) (drop (at + 1) t)) (stop + 1)) v read in
    (quoted_begins one_line text at c.requires.within is_quote ∙ whole ∙ ap (λ (t : List ℕ). Stands t (stop + 1)) (sym c.range.ensures.value), refl)

pub returns-then-closes-clause-end : goal.returns-then-closes-clause-end
returns-then-closes-clause-end c =
    let v = c.as_bytes-bytes.ensures.value in
    let bytes = c.as_bytes-bytes.result.now in
    let text = c.args.text.now in
    let at = c.args.at in
    let stop = c.first_special-stop.result in
    let in_bytes = subst (λ (t : List ℕ). (get_or t at 0 ≡ 34) ⊎ (get_or t at 0 ≡ 39)) (sym v) (quote_is text at c.requires.within c.requires.quoted) in
    let k = c.closes.ensures c.if-closes.true in
    let there : (get_or text stop 0 ≡ 34) ⊎ (get_or text stop 0 ≡ 39) = subst (λ (t : List ℕ). (get_or t stop 0 ≡ 34) ⊎ (get_or t stop 0 ≡ 39)) v (subst (λ b. (b ≡ 34) ⊎ (b ≡ 39)) (sym k.1) in_bytes) in
    let within : stop + 1 ≤ length text = subst (λ (t : List ℕ). stop + 1 ≤ length t) v (omega (arith, k.0)) in
    (omega (arith, c.first_special-stop.ensures.from), within, cut_behind text (stop + 1) c.utf8.text (omega arith) within (quote_ascii text stop there))

pub returns-in-Err-clause-answer : goal.returns-in-Err-clause-answer
returns-in-Err-clause-answer c =
    let text = c.args.text.now in
    let at = c.args.at in
    let one_line = c.args.setting.one_line in
    answers_refused _ (from (get_or c.as_bytes-bytes.result.now at 0) one_line text (at + 1) []) c.in-Err.refusal
    (quoted_begins one_line text at c.requires.within (quote_is text at c.requires.within c.requires.quoted) ∙ ap (λ (t : List ℕ). from (get_or t at 0) one_line text (at + 1) []) (sym c.as_bytes-bytes.ensures.value))
    c.in-Err.ensures

pub returns-in-Ok-clause-answer : goal.returns-in-Ok-clause-answer
returns-in-Ok-clause-answer c =
    let text = c.args.text.now in
    let at = c.args.at in
    let one_line = c.args.setting.one_line in
    let h = c.in-Ok.ensures in
    (quoted_begins one_line text at c.requires.within (quote_is text at c.requires.within c.requires.quoted) ∙ ap (λ (t : List ℕ). from (get_or t at 0) one_line text (at + 1) []) (sym c.as_bytes-bytes.ensures.value) ∙ h.0, refl)

pub returns-in-Ok-clause-end : goal.returns-in-Ok-clause-end
returns-in-Ok-clause-end c = let h = c.in-Ok.ensures in (omega (arith, h.1), h.2, cut_behind c.args.text.now c.in-Ok.end c.utf8.text (omega (arith, h.1)) h.2 h.3)

pub range-requires-clause-end_boundary : goal.range-requires-clause-end_boundary
range-requires-clause-end_boundary c =
    let bytes = c.as_bytes-bytes.result.now in
    let stop = c.first_special-stop.result in
    subst (λ (t : List ℕ). IsCharBoundary t stop) c.as_bytes-bytes.ensures.value
    (cut_before bytes (get_or bytes c.args.at 0) stop stop (omega arith) c.first_special-stop.ensures.within (λ l. absurd (omega (arith, l))) (λ l. sym (c.specials.ensures (get_or bytes stop 0)) ∙ c.first_special-stop.ensures.found l))

pub closes-requires-clause-quote : goal.closes-requires-clause-quote
closes-requires-clause-quote c = subst (λ (t : List ℕ). (get_or t c.args.at 0 ≡ 34) ⊎ (get_or t c.args.at 0 ≡ 39)) (sym c.as_bytes-bytes.ensures.value) (quote_is c.args.text.now c.args.at c.requires.within c.requires.quoted)

pub decoded_from-requires-clause-quote : goal.decoded_from-requires-clause-quote
decoded_from-requires-clause-quote c = subst (λ (t : List ℕ). (get_or t c.args.at 0 ≡ 34) ⊎ (get_or t c.args.at 0 ≡ 39)) (sym c.as_bytes-bytes.ensures.value) (quote_is c.args.text.now c.args.at c.requires.within c.requires.quoted)

pub decoded_from-requires-clause-ascii : goal.decoded_from-requires-clause-ascii
decoded_from-requires-clause-ascii c = quote_ascii c.args.text.now c.args.at (quote_is c.args.text.now c.args.at c.requires.within c.requires.quoted)
