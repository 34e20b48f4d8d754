use Rattle.std.proofs.Common.{◌≡◌, take}
use Rattle.std.specs.List.{fold}
use Rattle.clap.specs.Simple.{app_of, new_app, with_rule}
use Rattle.guard_words.specs.code.CommandLine.{HasNoGlobals, rule_for}
use Rattle.guard_words.specs.code.Reading.{row_text}
use Rattle.guard_words.specs.Request.{name_of}
use Rattle.guard_words.proofs.command_line.subcommand_of.Given as goal

abbrev pub invariant-loop-row : goal.invariant-loop-row
invariant-loop-row l = record {
  shape : app_of l.built ≡ fold (λ app row. with_rule app (rule_for (row_text row))) (new_app (name_of l.fn.command)) (take l.row-index l.rows);
  local : HasNoGlobals l.built;
}
