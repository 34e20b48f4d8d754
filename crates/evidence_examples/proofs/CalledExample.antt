-- The lines of `specs/OneCall` follow. A parameter has the rows of its argument in the frame in which the call stands.
use Rattle.std.proofs.Common.{◌≡◌, ℕ, arith, refl, inl, inr, List, [], ◌∷◌, Some, codes}
use Rattle.evidence_lines.specs.declared.version.Version.TheVariants.{One}
use Rattle.evidence_lines.specs.declared.line.Line.{Line}
use Rattle.guard_syntax.specs.Syntax.{Expr, var, splice, key}
use Rattle.guard_syntax.specs.declared.row.Row.{Row}
use Rattle.guard_syntax.specs.declared.row.Verdict.TheVariants.{Pass}
use Rattle.rule_names.specs.Pieces.{AreInOrder}
use Rattle.rule_names.specs.declared.bind.Bind.TheVariants as bound
use Rattle.evidence_lines.specs.Lines.{line_of}
use Rattle.rule_names.specs.Uses.{expr_in}
use Rattle.evidence_rules.specs.CitedLines.{GivesArgument, GivesExpr}
use Rattle.evidence_rules.specs.Follows.{Follows, AllFollow}
use Rattle.evidence_examples.specs.code.GivenLines.{node, file_line}
use Rattle.evidence_examples.proofs.GivenLines.{is-line, Each, IsNoRule, new-rule}
use Rattle.evidence_examples.specs.code.OneCall.{need_body, first_arg, second_arg, args, rule, file, known, rows, text_row, all_lines, line, first}

-- the sites are numbered as they should be
pub ordered : AreInOrder file
ordered = refl

-- ---- each follows

follows_1 : Follows One known (first 0) (line 1) []
follows_1 =
    inl ((refl, refl, refl, refl, refl), refl)

follows_2 : Follows One known (first 1) (line 2) []
follows_2 =
    inr (1, 4, refl, refl, refl, ((node 0, [], [], [], [], refl, refl, (refl, refl), (refl, refl), refl), refl))

follows_3 : Follows One known (first 2) (line 3) []
follows_3 =
    inr (1, 2, refl, refl, refl, (rows 1, ((key 4 (codes "A")), refl, is-line (first 2) 2 (line 2) 1 4 refl refl refl), refl, refl))

follows_4 : Follows One known (first 3) (line 4) []
follows_4 =
    inr (1, 13, refl, refl, refl, (refl, inl ((rule, (1, omega arith, refl), refl, refl), refl), refl))

follows_5 : Follows One known (first 4) (line 5) []
follows_5 =
    let at_3 = is-line (first 4) 3 (line 3) 1 2 refl refl refl in
    inr (4, 17, refl, refl, refl, ((node 0, [], 3 ∷ [], [], rows 1, refl, refl, (refl, refl), (bound.Value 1 2, refl, (1, refl, at_3)), refl), refl))

follows_6 : Follows One known (first 5) (line 6) []
follows_6 =
    inr (4, 18, refl, refl, refl, (refl, refl, refl))

follows_7 : Follows One known (first 6) (line 7) []
follows_7 =
    inr (4, 15, refl, refl, refl, (refl, refl, refl))

-- the argument of an index in the call, whose frame is that of line 7
argument : (lines : List Line) (index number : ℕ) (arg : Expr) (given : List Row) → line_of lines 7 ≡ Some (line 7) → expr_in args index ≡ Some arg
    → GivesExpr file lines 4 arg number given → GivesArgument file lines 7 index number given
argument lines index number arg given stands is gives = record {
  line = line 7;
  caller = 4;
  site = 15;
  args = args;
  arg = arg;
  stands = stands;
  kind_is = refl;
  caller_is = refl;
  site_is = refl;
  args_are = refl;
  arg_is = is;
  gives = gives;
}

follows_8 : Follows One known (first 7) (line 8) []
follows_8 =
    let at_5 = is-line (first 7) 5 (line 5) 4 17 refl refl refl in
    inr (7, 10, refl, refl, refl, ((node 0, [], 5 ∷ [], [], rows 1, refl, refl, (refl, refl), (bound.Param 0 0, refl, (7, refl, argument (first 7) 0 5 first_arg (rows 1) refl refl ((var 17 (codes "a")), refl, at_5))), refl), refl))

follows_9 : Follows One known (first 8) (line 9) []
follows_9 =
    let at_8 = is-line (first 8) 8 (line 8) 7 10 refl refl refl in
    let at_6 = is-line (first 8) 6 (line 6) 4 18 refl refl refl in
    inr (7, 11, refl, refl, refl, ((node 0, 8 ∷ [], 6 ∷ [], rows 1, text_row, refl, refl, ((var 10 (codes "x")), refl, at_8), (bound.Param 0 1, refl, (7, refl, argument (first 8) 1 6 second_arg text_row refl refl (at_6))), refl), refl))

follows_10 : Follows One known (first 9) (line 10) []
follows_10 =
    let at_9 = is-line (first 9) 9 (line 9) 7 11 refl refl refl in
    inr (7, 8, refl, refl, refl, ((rows 2, [], ((splice 11 (record { text = codes "k"; at = 36 })), refl, at_9), refl, refl), refl))

follows_11 : Follows One known (first 10) (line 11) []
follows_11 =
    inr (7, 7, refl, refl, refl, ((Pass ∷ [], (is-line (first 10) 10 (line 10) 7 8 refl refl refl, tt), refl), refl))

follows_12 : Follows One known (first 11) (line 12) []
follows_12 =
    inr (7, 6, refl, refl, refl, ((Pass ∷ [], (is-line (first 11) 11 (line 11) 7 7 refl refl refl, tt), refl), refl))

follows_13 : Follows One known (first 12) (line 13) []
follows_13 =
    let at_7 = is-line (first 12) 7 (line 7) 4 15 refl refl refl in
    let at_12 = is-line (first 12) 12 (line 12) 7 6 refl refl refl in
    inr (4, 15, refl, refl, refl, ((need_body, 7, node 0, Pass, refl, at_7, at_12, refl), refl))

follows_14 : Follows One known (first 13) (line 14) []
follows_14 =
    inr (4, 14, refl, refl, refl, ((Pass ∷ [], (is-line (first 13) 13 (line 13) 4 15 refl refl refl, tt), refl), refl))

follows_15 : Follows One known (first 14) (line 15) []
follows_15 =
    inr (4, 13, refl, refl, refl, ((Pass ∷ [], (is-line (first 14) 14 (line 14) 4 14 refl refl refl, tt), refl), refl))

no-rule : Each IsNoRule (first 15)
no-rule = (refl, (refl, (refl, (refl, (refl, (refl, (refl, (refl, (refl, (refl, (refl, (refl, (refl, (refl, (refl, tt)))))))))))))))

follows_16 : Follows One known (first 15) (line 16) []
follows_16 =
    let at_4 = is-line (first 15) 4 (line 4) 1 13 refl refl refl in
    let at_15 = is-line (first 15) 15 (line 15) 4 13 refl refl refl in
    inr (1, 12, refl, refl, refl, (((file_line, refl, refl), new-rule known (first 15) no-rule 12, (refl, (node 0, (4, at_4, at_15)))), refl))

pub all_follow : AllFollow One known [] all_lines
all_follow = (
  [],
  follows_1,
  (
    [],
    follows_2,
    (
      [],
      follows_3,
      (
        [],
        follows_4,
        (
          [],
          follows_5,
          (
            [],
            follows_6,
            (
              [],
              follows_7,
              (
                [],
                follows_8,
                ([], follows_9, ([], follows_10, ([], follows_11, ([], follows_12, ([], follows_13, ([], follows_14, ([], follows_15, ([], follows_16, tt)))))))),
              ),
            ),
          ),
        ),
      ),
    ),
  ),
)
