-- The readers of a file over the tokens of a text, and what they read as it is seen.
use Rattle.std.specs.Prelude.{ℕ, List, ◌∷◌, ◌++◌, map, Option}
use Rattle.guard_syntax.specs.Named.{Named}
use Rattle.guard_syntax.specs.declared.syntax.Conds.{Conds}
use Rattle.guard_syntax.specs.Syntax as sx
use Rattle.guard_syntax.specs.code.Seen.{prepend, let_list, disj_list, see_let, see_disj, see_rule, see_opt_conds}
use Rattle.literal_parser.specs.declared.token_cursor.Tokens.{Tokens}
use Rattle.guard_parser.specs.declared.read_file.FileItems.{FileItems}
use Rattle.literal_parser.specs.code.Parser.{Outcome, Parser, and_then, ◌>>=◌, ◌>>◌, pure, has, takes}
use Rattle.literal_parser.specs.Forms.{is_name, is_rparen, named_of}
use Rattle.guard_parser.specs.code.FileReading as spec
use Rattle.literal_parser.specs.code.Reads.{source}
use Rattle.part_parser.specs.code.GrammarReads.{inner}

-- ---- what is read, as it is seen

abbrev pub see_file_items : FileItems → spec.FileItems
see_file_items x = (let_list (map see_let x.lets.items), map see_rule x.rules.items, disj_list (map see_disj x.loose.items))

abbrev pub see_head : List Named × Option Conds → List Named × sx.OptConds
see_head x = (x.0, see_opt_conds x.1)

abbrev pub put : Named → List Named → List Named
put name names = name ∷ names

-- what was read before, in front of what is read
abbrev pub before_items : List sx.Let → List sx.Rule → List sx.Disj → Outcome spec.FileItems → Outcome spec.FileItems
before_items lets rules parts r = and_then r (λ x. pure (prepend sx.more_lets lets x.0, rules ++ x.1, prepend sx.more_disjs parts x.2))

-- ---- the readers

module _ (tokens : Tokens) where
  abbrev pub names_at : ℕ → Parser (List Named)
  names_at = spec.names (source tokens) tokens.turns

  -- one name or more, up to their parenthesis
  abbrev pub closed_names : List Named → Parser (List Named)
  closed_names names = takes (source tokens) is_rparen >> pure names

  abbrev pub closed_names_at : Parser (List Named)
  closed_names_at = has (source tokens) is_name named_of >>= (λ name. names_at tokens.turns >>= (λ more. closed_names (name ∷ more)))

  abbrev pub params_at : Parser (List Named)
  params_at = spec.params (source tokens) tokens.turns

  module _ (depth : ℕ) where
    abbrev pub head_at : Parser (List Named × sx.OptConds)
    head_at = spec.head (source tokens) tokens.turns (inner tokens depth)

    abbrev pub rule_at : Parser sx.Rule
    rule_at = spec.rule_of (source tokens) tokens.turns (inner tokens depth)

    abbrev pub items_at : ℕ → Parser spec.FileItems
    items_at = spec.file_items (source tokens) tokens.turns (inner tokens depth)

    abbrev pub whole_file_at : Parser spec.FileItems
    whole_file_at = spec.whole_file (source tokens) tokens.turns (inner tokens depth)
