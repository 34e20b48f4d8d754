-- The command line that `clap` is told of: a subcommand for each command, with its table of options.
use Rattle.std.specs.Prelude.{◌≡◌, false, true, Some, List, [], codes, fold}
use Rattle.clap.specs.Walk.{Rule}
use Rattle.clap.specs.Words.{AddsSubcommand}
use Rattle.clap.specs.declared.builder.action.ArgAction.{ArgAction}
use Rattle.clap.specs.declared.builder.action.ArgAction.TheVariants.{Set, SetTrue}
use Rattle.clap.specs.declared.builder.command.Command.{Command as ClapCommand}
use Rattle.clap.specs.declared.builder.command.Command.TheViews.{out-Command}
use Rattle.clap.specs.Simple.{App, Shape, app_of, new_app, new_rule, new_shape, with_rule, with_subcommand}
use Rattle.guard_words.specs.declared.table.Command.{Command}
use Rattle.guard_words.specs.declared.table.Command.TheVariants.{Validate, Check, Drill, Test, Rulegen, ParseTree}
use Rattle.guard_words.specs.declared.table.Kind.{Kind}
use Rattle.guard_words.specs.declared.table.Kind.TheVariants.{File, Count, Flag}
use Rattle.guard_words.specs.Request.{Row, name_of, options_of}

abbrev pub action_for : Kind → ArgAction
action_for Flag = SetTrue
action_for File = Set
action_for Count = Set

-- an option, as `clap` is told of it
abbrev pub rule_for : Row → Rule
rule_for o = record (new_rule o.name) { long = Some o.name; action = Some (action_for o.kind); required = o.required }

abbrev pub with_options : App → List Row → App
with_options app options = fold (λ a o. with_rule a (rule_for o)) app options

abbrev pub subcommand_app : Command → App
subcommand_app command = with_options (new_app (name_of command)) (options_of command)

abbrev pub program : App
program = record {
  top = record (new_shape (codes "guard")) { no_binary_name = true; disable_help_flag = true; disable_help_subcommand = true };
  subs = [];
}

-- with the subcommand of a command more
abbrev pub with_command : App → Command → App
with_command app command = with_subcommand app (subcommand_app command).top

abbrev pub guard_app : App
guard_app = with_command (with_command (with_command (with_command (with_command (with_command program Validate) Check) Drill) Test) Rulegen) ParseTree

-- where the command is added to another one, it stands there in this shape
abbrev pub StandsAs : Shape → ClapCommand → Type 0
StandsAs shape command = (old new : ClapCommand) → AddsSubcommand old command new → app_of new ≡ with_subcommand (app_of old) shape

abbrev pub HasNoGlobals : ClapCommand → Type 0
HasNoGlobals command = (out-Command command).has_globals ≡ false
