-- How the syntax of a file is read: a function of the lexemes, over those that read its parts.
use Rattle.std.specs.Prelude.{ℕ, zero, suc, List, [], ◌∷◌}
use Rattle.guard_syntax.specs.Named.{Named}
use Rattle.guard_syntax.specs.Syntax.{Lets, OptConds, Disjs, Rule, no_lets, more_lets, no_conds, no_disjs, more_disjs}
use Rattle.literal_parser.specs.Lexemes.{Lexeme}
use Rattle.literal_parser.specs.Forms.{is_end, is_name, is_rule_name, is_lparen, is_rparen, is_comma, is_let, is_rule, begins_part, named_of}
use Rattle.literal_parser.specs.code.Parser.{Parser, ◌>>=◌, ◌>>◌, pure, stop, opens, takes, has, choose}
use Rattle.part_parser.specs.code.Reading.{Inner, opt_conds, let_of, disj_of, full_part}

-- the lets, the rules and the parts of a file
abbrev pub FileItems : Type 0
FileItems = Lets × List Rule × Disjs

-- at most as many turns
module _ (s : ℕ → Lexeme) (turns : ℕ) where
  unfoldable pub names : ℕ → Parser (List Named)
  names zero = stop
  names (suc k) = choose s is_comma (do takes s is_comma; name ← has s is_name named_of; more ← names k; pure (name ∷ more)) (pure [])

  unfoldable pub params : Parser (List Named)
  params = do
    takes s is_lparen
    name ← has s is_name named_of
    more ← names turns
    takes s is_rparen
    pure (name ∷ more)

  module _ (inner : Inner) where
    unfoldable pub head : Parser (List Named × OptConds)
    head = choose s is_lparen (do ps ← params; pure (ps, no_conds)) (do c ← opt_conds s turns inner; pure ([], c))

    unfoldable pub rule_of : Parser Rule
    rule_of = do
      n ← opens s inner.number
      takes s is_rule
      name ← has s is_rule_name named_of
      h ← head
      b ← inner.body
      pure (record { site = n; name = name; params = h.0; cond = h.1; body = b })

    unfoldable pub file_items : ℕ → Parser FileItems
    file_items zero = stop
    file_items (suc k) = choose s is_let (do l ← let_of s turns inner; more ← file_items k; pure (more_lets l more.0, more.1, more.2))
        (choose s is_rule (do r ← rule_of; more ← file_items k; pure (more.0, r ∷ more.1, more.2))
        (choose s begins_part (do d ← disj_of s turns inner (full_part s turns inner); more ← file_items k; pure (more.0, more.1, more_disjs d more.2))
        (pure (no_lets, [], no_disjs))))

    unfoldable pub contents : Parser FileItems
    contents = do
      n ← opens s inner.number
      file_items turns

    -- and nothing behind it
    unfoldable pub whole_file : Parser FileItems
    whole_file = do
      x ← contents
      choose s is_end (pure x) stop
