use Rattle.std.proofs.Common.{◌≡◌, take}
use Rattle.std.specs.List.{fold}
use Rattle.clap.specs.Simple.{app_of}
use Rattle.guard_words.specs.code.CommandLine.{program, with_command}
use Rattle.guard_words.proofs.command_line.command_line.Given as goal

abbrev pub invariant-loop-command : goal.invariant-loop-command
invariant-loop-command l = app_of l.built ≡ fold with_command program (take l.command-index l.command-items)
