use Rattle.std.proofs.Common.{◌≡◌, ◌<◌, length, take, ap, ap₂, sym, ◌∙◌, ◌||◌}
use Rattle.std.proofs.lemmas.List.{take_all}
use Rattle.std.proofs.lemmas.List.Folds.{fold-map}
use Rattle.std.proofs.lemmas.List.Sums.{fold_more}
use Rattle.std.specs.List.{fold}
use Rattle.clap.specs.Simple.{App, app_of, new_app, with_rule, with_subcommand}
use Rattle.guard_words.specs.code.CommandLine.{rule_for, subcommand_app, with_options}
use Rattle.guard_words.specs.declared.table.OptionRow.{OptionRow}
use Rattle.guard_words.specs.code.Reading.{row_text}
use Rattle.guard_words.specs.Request.{Row, name_of}
use Rattle.guard_words.proofs.command_line.subcommand_of.Goals as goal

abbrev with_row : App → OptionRow → App
with_row app row = with_rule app (rule_for (row_text row))

pub loop-row-init : goal.loop-row-init
loop-row-init c = record { shape = c.new-built.ensures.app ∙ ap new_app c.name-name.ensures; local = c.new-built.ensures.local }

pub loop-row-preserved : goal.loop-row-preserved
loop-row-preserved c =
    let rows = c.options-rows.result.now in
    let within : c.loop-row.row-index < length rows = c.loop-row-test.true in
    let argument = c.argument-argument.ensures in
    record {
      shape = c.in_ok-built.ensures.shape argument.local ∙ ap₂ with_rule c.loop-row.invariant.shape argument.rule
          ∙ sym (fold_more with_row (new_app (name_of c.args.command)) rows c.loop-row.row-index _ within);
      local = c.in_ok-built.ensures.globals ∙ ap₂ ◌||◌ c.loop-row.invariant.local argument.local;
    }

pub returns : goal.returns
returns c = λ old new added.
    let rows = c.options-rows.result.now in
    let all : take c.loop-row.row-index rows ≡ rows = take_all c.loop-row.row-index rows c.loop-row-test.false in
    let shape : app_of c.loop-row.built ≡ subcommand_app c.args.command = c.loop-row.invariant.shape
    ∙ ap (fold with_row (new_app (name_of c.args.command))) all
    ∙ sym (fold-map (λ app (row : Row). with_rule app (rule_for row)) row_text (new_app (name_of c.args.command)) rows)
    ∙ ap (with_options (new_app (name_of c.args.command))) c.options-rows.ensures in
    added.shape c.loop-row.invariant.local ∙ ap (λ (a : App). with_subcommand (app_of old) a.top) shape
