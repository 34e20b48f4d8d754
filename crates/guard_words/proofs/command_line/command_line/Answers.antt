use Rattle.std.proofs.Common.{◌∙◌, List, [], ◌∷◌, get_or, ap, sym}
use Rattle.std.proofs.lemmas.List.{take_all}
use Rattle.std.proofs.lemmas.List.Sums.{fold_more}
use Rattle.std.specs.List.{fold}
use Rattle.clap.specs.Simple.{App}
use Rattle.guard_words.specs.declared.table.Command.{Command}
use Rattle.guard_words.specs.declared.table.Command.TheVariants.{Validate, Check, Drill, Test, Rulegen, ParseTree}
use Rattle.guard_words.specs.code.CommandLine.{program, with_command}
use Rattle.guard_words.proofs.command_line.command_line.Goals as goal

abbrev commands : List Command
commands = Validate ∷ Check ∷ Drill ∷ Test ∷ Rulegen ∷ ParseTree ∷ []

pub loop-command-init : goal.loop-command-init
loop-command-init c = c.program-built.ensures

pub loop-command-preserved : goal.loop-command-preserved
loop-command-preserved c =
    c.in_ok-subcommand.ensures c.loop-command.built c.in_ok-built.built c.in_ok-built.ensures
    ∙ ap (λ (a : App). with_command a (get_or commands c.loop-command.command-index Validate)) c.loop-command.invariant
    ∙ sym (fold_more with_command program commands c.loop-command.command-index Validate c.loop-command-test.true)

pub returns : goal.returns
returns c = record {
  app = c.loop-command.invariant
      ∙ ap (fold with_command program) (take_all c.loop-command.command-index commands c.loop-command-test.false);
}
