use Rattle.std.proofs.Common.{ℕ, List, length, ap, sym, ◌∙◌}
use Rattle.report_text.specs.RuleLines.{rule_lines}
use Rattle.report_text.proofs.Appended.{nothing-written, written-front, written-whole}
use Rattle.report_text.proofs.RuleNames.{names-seen}
use Rattle.report_text.proofs.rules.write_rules.Goals as goal

pub lines_of-requires : goal.lines_of-requires
lines_of-requires g c =
    c.requires ∙ ap (λ (names : List (List ℕ)). length names) (sym (names-seen c.raw-raw.result.now c.args.file.now.raw c.deref.result.now c.deref-2.result.now c.raw-raw.ensures c.deref.ensures.value c.deref-2.ensures.value))

pub returns-in-Ok-clause-ok : goal.returns-in-Ok-clause-ok
returns-in-Ok-clause-ok g c =
    written-whole c.put.result (g.S.Sink.told c.args.sink.now) (g.S.Sink.told c.put.new.sink) c.deref-in-Ok.result.now _
    (c.deref-in-Ok.ensures.value ∙ c.in-Ok.ensures ∙ ap (λ (names : List (List ℕ)). rule_lines names c.args.verdicts.now) (names-seen c.raw-raw.result.now c.args.file.now.raw c.deref.result.now c.deref-2.result.now c.raw-raw.ensures c.deref.ensures.value c.deref-2.ensures.value))
    c.put.ensures.ok

pub returns-in-Ok-clause-err : goal.returns-in-Ok-clause-err
returns-in-Ok-clause-err g c =
    written-front c.put.result (g.S.Sink.told c.args.sink.now) (g.S.Sink.told c.put.new.sink) c.deref-in-Ok.result.now _
    (c.deref-in-Ok.ensures.value ∙ c.in-Ok.ensures ∙ ap (λ (names : List (List ℕ)). rule_lines names c.args.verdicts.now) (names-seen c.raw-raw.result.now c.args.file.now.raw c.deref.result.now c.deref-2.result.now c.raw-raw.ensures c.deref.ensures.value c.deref-2.ensures.value))
    c.put.ensures.err

pub returns-in-Err-clause-err : goal.returns-in-Err-clause-err
returns-in-Err-clause-err g c = nothing-written (g.S.Sink.told c.args.sink.now) _
