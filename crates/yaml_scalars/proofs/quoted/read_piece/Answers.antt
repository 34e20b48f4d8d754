use Rattle.std.proofs.lemmas.Grind.{common_steps}
use Rattle.std.proofs.Common.{◌≡◌, ℕ, List, true, false, ◌+◌, ◌-◌, ◌<◌, ◌≤◌, ◌++◌, length, take, drop, get_or, arith, sym, subst, ap, ◌∙◌}
use Rattle.std.specs.Prelude.{string_bytes, encode_utf8}
use Rattle.std.specs.Str.{IsCharBoundary}
use Rattle.yaml_scalars.specs.Lines.{Stands, Fails}
use Rattle.yaml_scalars.specs.code.QuotedSteps.{from, past, IsRefused, Steps}
use Rattle.yaml_scalars.proofs.EscapeFits.{means_fits}
use Rattle.yaml_scalars.proofs.QuotedGoing.{steps_so, special_ascii, cut_behind, cut_before}
use Rattle.yaml_scalars.proofs.QuotedRuns.{from_break, from_closes, from_means, from_joins, from_returns, from_wrong}
use Rattle.yaml_scalars.proofs.quoted.read_piece.Goals as goal

pub range-requires-clause-start_boundary : goal.range-requires-clause-start_boundary
range-requires-clause-start_boundary c = λ h. cut_behind c.args.text.now c.args.at c.utf8.text c.requires.inside c.requires.within c.requires.ascii

pub range-requires-2-clause-start_boundary : goal.range-requires-2-clause-start_boundary
range-requires-2-clause-start_boundary c = λ h. cut_behind c.args.text.now c.args.at c.utf8.text c.requires.inside c.requires.within c.requires.ascii

pub range-requires-clause-end_boundary : goal.range-requires-clause-end_boundary
range-requires-clause-end_boundary c =
    let stop = c.first_special-stop.result in
    let end = c.trim_end.result in
    let quote = c.args.style.now.quote in
    subst (λ (t : List ℕ). IsCharBoundary t end) c.as_bytes-bytes.ensures.value
    (cut_before c.as_bytes-bytes.result.now quote stop end c.trim_end.ensures.to c.first_special-stop.ensures.within c.trim_end.ensures.white (λ l. sym (c.requires.specials (get_or c.as_bytes-bytes.result.now stop 0)) ∙ c.first_special-stop.ensures.found l))

pub returns-then-ends_line : goal.returns-then-ends_line
returns-then-ends_line c =
    let v = c.as_bytes-bytes.ensures.value in
    let bytes = c.as_bytes-bytes.result.now in
    let quote = c.args.style.now.quote in
    let one_line = c.args.style.now.one_line in
    let at = c.args.at in
    let stop = c.first_special-stop.result in
    let old = string_bytes c.args.decoded.now in
    let mid = string_bytes c.push_str.new.self in
    let new = string_bytes c.read_break.new.decoded in
    let grown = c.in_ok-push_str.ensures.bytes ∙ ap (λ (s : List ℕ). old ++ s) (c.range.ensures.value ∙ ap (λ (t : List ℕ). take (c.trim_end.result - at) (drop at t)) (sym v) ∙ c.trim_end.ensures.part) in
    subst (λ (t : List ℕ). Steps (from quote one_line t at old) quote one_line t at new c.further.result) v
    (steps_so _ (past quote one_line bytes stop false mid) quote one_line bytes at stop new c.further.result
    (from_break quote bytes at stop c.first_special-stop.ensures.from c.first_special-stop.ensures.within (λ k l m. sym (c.requires.specials (get_or bytes k 0)) ∙ c.first_special-stop.ensures.before k l m) one_line old (c.ends_line.ensures.over c.if-ends_line.true)
    ∙ ap (past quote one_line bytes stop false) (sym grown))
    c.first_special-stop.ensures.from
    (c.further.ensures (past quote one_line bytes stop false mid) quote one_line bytes stop new (c.read_break.ensures quote)))

pub returns-in-Closes : goal.returns-in-Closes
returns-in-Closes c =
    let v = c.as_bytes-bytes.ensures.value in
    let bytes = c.as_bytes-bytes.result.now in
    let quote = c.args.style.now.quote in
    let one_line = c.args.style.now.one_line in
    let at = c.args.at in
    let stop = c.first_special-stop.result in
    let old = string_bytes c.args.decoded.now in
    let new = string_bytes c.push_str-2.new.self in
    let grown = c.in_ok-push_str-2.ensures.bytes ∙ ap (λ (s : List ℕ). old ++ s) (c.range-2.ensures.value ∙ ap (λ (t : List ℕ). take (stop - at) (drop at t)) (sym v)) in
    let more = c.ends_line.ensures.more c.if-ends_line.false in
    let last : stop + 1 - 1 ≡ stop = omega arith in
    let ascii : get_or bytes stop 0 < 128 = special_ascii quote (get_or bytes stop 0) (sym (c.requires.specials (get_or bytes stop 0)) ∙ c.first_special-stop.ensures.found more.0) in
    subst (λ (t : List ℕ). (from quote one_line t at old ≡ Stands new (stop + 1)) × (at < stop + 1) × (stop + 1 ≤ length t) × (get_or t (stop + 1 - 1) 0 < 128)) v (
      from_closes quote bytes at stop c.first_special-stop.ensures.from c.first_special-stop.ensures.within (λ k l m. sym (c.requires.specials (get_or bytes k 0)) ∙ c.first_special-stop.ensures.before k l m) one_line old (get_or bytes stop 0) more.1 c.in-Closes.ensures.is
          ∙ ap (λ (t : List ℕ). Stands t (stop + 1)) (sym grown),
      omega (arith, c.first_special-stop.ensures.from),
      omega (arith, more.0),
      subst (λ k. get_or bytes k 0 < 128) (sym last) ascii,
    )

pub returns-in_ok-push-in-Is : goal.returns-in_ok-push-in-Is
returns-in_ok-push-in-Is c =
    let v = c.as_bytes-bytes.ensures.value in
    let bytes = c.as_bytes-bytes.result.now in
    let quote = c.args.style.now.quote in
    let one_line = c.args.style.now.one_line in
    let at = c.args.at in
    let stop = c.first_special-stop.result in
    let taken = c.in-Is.taken in
    let meant = encode_utf8 c.in-Is.character in
    let old = string_bytes c.args.decoded.now in
    let new = string_bytes c.push.new.self in
    let grown = c.in_ok-push-in-Is.ensures.bytes ∙ ap (λ (s : List ℕ). s ++ meant) (c.in_ok-push_str-2.ensures.bytes ∙ ap (λ (s : List ℕ). old ++ s) (c.range-2.ensures.value ∙ ap (λ (t : List ℕ). take (stop - at) (drop at t)) (sym v))) in
    let more = c.ends_line.ensures.more c.if-ends_line.false in
    let e = c.in-Is.ensures.ends in
    subst (λ (t : List ℕ). (from quote one_line t at old ≡ from quote one_line t (stop + 1 + taken) new) × (at < stop + 1 + taken) × (stop + 1 + taken ≤ length t) × (get_or t (stop + 1 + taken - 1) 0 < 128)) v (
      from_means quote bytes at stop c.first_special-stop.ensures.from c.first_special-stop.ensures.within (λ k l m. sym (c.requires.specials (get_or bytes k 0)) ∙ c.first_special-stop.ensures.before k l m) one_line old (get_or bytes stop 0) more.1 taken meant c.in-Is.ensures.is (means_fits quote (get_or bytes stop 0) _ taken meant c.in-Is.ensures.is)
          ∙ ap (from quote one_line bytes (stop + 1 + taken)) (sym grown),
      omega (arith, c.first_special-stop.ensures.from),
      e.1,
      e.2,
    )

pub returns-in-Joins : goal.returns-in-Joins
returns-in-Joins c =
    let v = c.as_bytes-bytes.ensures.value in
    let bytes = c.as_bytes-bytes.result.now in
    let quote = c.args.style.now.quote in
    let one_line = c.args.style.now.one_line in
    let at = c.args.at in
    let stop = c.first_special-stop.result in
    let old = string_bytes c.args.decoded.now in
    let mid = string_bytes c.push_str-2.new.self in
    let new = string_bytes c.read_break-in-Joins.new.decoded in
    let grown = c.in_ok-push_str-2.ensures.bytes ∙ ap (λ (s : List ℕ). old ++ s) (c.range-2.ensures.value ∙ ap (λ (t : List ℕ). take (stop - at) (drop at t)) (sym v)) in
    let more = c.ends_line.ensures.more c.if-ends_line.false in
    let later : at ≤ stop + 1 = omega (arith, c.first_special-stop.ensures.from) in
    subst (λ (t : List ℕ). Steps (from quote one_line t at old) quote one_line t at new c.further-in-Joins.result) v
    (steps_so _ (past quote one_line bytes (stop + 1) true mid) quote one_line bytes at (stop + 1) new c.further-in-Joins.result
    (from_joins quote bytes at stop c.first_special-stop.ensures.from c.first_special-stop.ensures.within (λ k l m. sym (c.requires.specials (get_or bytes k 0)) ∙ c.first_special-stop.ensures.before k l m) one_line old (get_or bytes stop 0) more.1 c.in-Joins.ensures.is c.in-Joins.ensures.ends
    ∙ ap (past quote one_line bytes (stop + 1) true) (sym grown))
    later
    (c.further-in-Joins.ensures (past quote one_line bytes (stop + 1) true mid) quote one_line bytes (stop + 1) new (c.read_break-in-Joins.ensures quote)))

pub returns-in-Returns : goal.returns-in-Returns
returns-in-Returns c =
    let v = c.as_bytes-bytes.ensures.value in
    let bytes = c.as_bytes-bytes.result.now in
    let quote = c.args.style.now.quote in
    let one_line = c.args.style.now.one_line in
    let at = c.args.at in
    let stop = c.first_special-stop.result in
    let old = string_bytes c.args.decoded.now in
    let more = c.ends_line.ensures.more c.if-ends_line.false in
    subst (λ (t : List ℕ). IsRefused (from quote one_line t at old) c.return_fault.result) v
    (subst (λ e. IsRefused (from quote one_line bytes at old) e) (sym c.return_fault.ensures)
    (from_returns quote bytes at stop c.first_special-stop.ensures.from c.first_special-stop.ensures.within (λ k l m. sym (c.requires.specials (get_or bytes k 0)) ∙ c.first_special-stop.ensures.before k l m) one_line old (get_or bytes stop 0) more.1 c.in-Returns.behind c.in-Returns.ensures.is))

pub returns-in-Wrong : goal.returns-in-Wrong
returns-in-Wrong c =
    let v = c.as_bytes-bytes.ensures.value in
    let bytes = c.as_bytes-bytes.result.now in
    let quote = c.args.style.now.quote in
    let one_line = c.args.style.now.one_line in
    let at = c.args.at in
    let stop = c.first_special-stop.result in
    let old = string_bytes c.args.decoded.now in
    let more = c.ends_line.ensures.more c.if-ends_line.false in
    subst (λ (t : List ℕ). from quote one_line t at old ≡ Fails (stop + c.in-Wrong.behind)) v
    (from_wrong quote bytes at stop c.first_special-stop.ensures.from c.first_special-stop.ensures.within (λ k l m. sym (c.requires.specials (get_or bytes k 0)) ∙ c.first_special-stop.ensures.before k l m) one_line old (get_or bytes stop 0) more.1 c.in-Wrong.behind c.in-Wrong.ensures.is)

pub range-requires-2-clause-end_boundary : goal.range-requires-2-clause-end_boundary
range-requires-2-clause-end_boundary c =
    let bytes = c.as_bytes-bytes.result.now in
    let stop = c.first_special-stop.result in
    subst (λ (t : List ℕ). IsCharBoundary t stop) c.as_bytes-bytes.ensures.value
    (cut_before bytes c.args.style.now.quote stop stop (omega arith) c.first_special-stop.ensures.within (λ l. absurd (omega (arith, l))) (λ l. sym (c.requires.specials (get_or bytes stop 0)) ∙ c.first_special-stop.ensures.found l))

pub read_break-requires-clause-over : goal.read_break-requires-clause-over
read_break-requires-clause-over c = c.ends_line.ensures.over c.if-ends_line.true

pub read_break-requires-in-Joins-clause-over : goal.read_break-requires-in-Joins-clause-over
read_break-requires-in-Joins-clause-over c = c.in-Joins.ensures.ends

pub meaning_at-requires-clause-within : goal.meaning_at-requires-clause-within
meaning_at-requires-clause-within c = let more = c.ends_line.ensures.more c.if-ends_line.false in more.0

pub meaning_at-requires-clause-inside : goal.meaning_at-requires-clause-inside
meaning_at-requires-clause-inside c = let more = c.ends_line.ensures.more c.if-ends_line.false in more.1

pub meaning_at-requires-clause-special : goal.meaning_at-requires-clause-special
meaning_at-requires-clause-special c =
    let more = c.ends_line.ensures.more c.if-ends_line.false in
    sym (c.requires.specials (get_or c.as_bytes-bytes.result.now c.first_special-stop.result 0)) ∙ c.first_special-stop.ensures.found more.0

pub read_break-requires-in-Joins-clause-within : goal.read_break-requires-in-Joins-clause-within
read_break-requires-in-Joins-clause-within c = grind (arith, common_steps)
