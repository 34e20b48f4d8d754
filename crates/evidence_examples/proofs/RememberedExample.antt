-- The thirteen lines of `specs/OneVariable` are accepted and lean. Both uses of the variable cite the one line of its expression, which stands in the frame of the
-- file.
use Rattle.std.proofs.Common.{◌≡◌, ℕ, zero, suc, ◌==◌, Contains, arith, refl, subst, inl, inr, [], ◌∷◌, Option, unwrap_or, codes, if◌then◌else◌}
use Rattle.evidence_lines.specs.declared.line.LineKind.{LineKind}
use Rattle.evidence_lines.specs.declared.line.LineKind.TheVariants as kind
use Rattle.evidence_lines.specs.declared.version.Version.{Version}
use Rattle.evidence_lines.specs.declared.version.Version.TheVariants.{One, Two}
use Rattle.guard_syntax.specs.Syntax.{Rule, key}
use Rattle.guard_syntax.specs.declared.row.Verdict.TheVariants.{Pass}
use Rattle.rule_names.specs.declared.bind.Bind.TheVariants as bound
use Rattle.rule_names.specs.Pieces.{AreInOrder}
use Rattle.evidence_rules.specs.Follows.{Follows, AllFollow, Accepts, IsJudged}
use Rattle.evidence_rules.specs.Lean.{IsLean}
use Rattle.evidence_examples.specs.code.GivenLines.{node, file_line}
use Rattle.evidence_examples.proofs.GivenLines.{is-line, Each, IsNoRule, new-rule, IsNumbered, IsUsed, lean-by}
use Rattle.evidence_examples.specs.code.OneVariable.{template, key_a, start, rule, file, known, rows, line_2, line_3, line_4, line_5, line_6, line_7, line_8, line_9, line_10, line_11, line_12, line_13, one_lines, two_lines, three_lines, four_lines, five_lines, six_lines, seven_lines, eight_lines, nine_lines, ten_lines, eleven_lines, twelve_lines, all_lines}

-- the sites are numbered as they should be
pub ordered : AreInOrder file
ordered = refl

-- ---- they are accepted

follows_1 : (version : Version) → Follows version known [] file_line []
follows_1 version =
    inl ((refl, refl, refl, refl, refl), refl)

follows_2 : (version : Version) → Follows version known one_lines line_2 []
follows_2 version =
    inr (1, 3, refl, refl, refl, ((node 0, [], [], [], [], refl, refl, (refl, refl), (refl, refl), refl), refl))

follows_3 : (version : Version) → Follows version known two_lines line_3 []
follows_3 version =
    inr (1, 5, refl, refl, refl, (refl, inl ((rule, (0, omega arith, refl), refl, refl), refl), refl))

follows_4 : (version : Version) → Follows version known three_lines line_4 []
follows_4 version =
    let at_2 = is-line three_lines 2 line_2 1 3 refl refl refl in
    inr (3, 9, refl, refl, refl, ((node 0, [], 2 ∷ [], [], rows 1, refl, refl, (refl, refl), (bound.Value 1 2, refl, (1, refl, (key_a, refl, at_2))), refl), refl))

follows_5 : (version : Version) → Follows version known four_lines line_5 []
follows_5 version =
    let at_4 = is-line four_lines 4 line_4 3 9 refl refl refl in
    inr (3, 10, refl, refl, refl, ((node 0, 4 ∷ [], [], rows 1, [], refl, refl, (start 9, refl, at_4), (refl, refl), refl), refl))

follows_6 : (version : Version) → Follows version known five_lines line_6 []
follows_6 version =
    inr (3, 7, refl, refl, refl, ((rows 2, [], (key 10 (codes "b"), refl, is-line five_lines 5 line_5 3 10 refl refl refl), refl, refl), refl))

follows_7 : (version : Version) → Follows version known six_lines line_7 []
follows_7 One =
    inr (3, 6, refl, refl, refl, ((Pass ∷ [], (is-line six_lines 6 line_6 3 7 refl refl refl, tt), refl), refl))
follows_7 Two =
    inr (3, 6, refl, refl, refl, ((Pass ∷ [], (is-line six_lines 6 line_6 3 7 refl refl refl, (refl, refl)), refl), refl))

follows_8 : (version : Version) → Follows version known seven_lines line_8 []
follows_8 version =
    let at_2 = is-line seven_lines 2 line_2 1 3 refl refl refl in
    inr (3, 14, refl, refl, refl, ((node 0, [], 2 ∷ [], [], rows 1, refl, refl, (refl, refl), (bound.Value 1 2, refl, (1, refl, (key_a, refl, at_2))), refl), refl))

follows_9 : (version : Version) → Follows version known eight_lines line_9 []
follows_9 version =
    let at_8 = is-line eight_lines 8 line_8 3 14 refl refl refl in
    inr (3, 15, refl, refl, refl, ((node 0, 8 ∷ [], [], rows 1, [], refl, refl, (start 14, refl, at_8), (refl, refl), refl), refl))

follows_10 : (version : Version) → Follows version known nine_lines line_10 []
follows_10 version =
    inr (3, 12, refl, refl, refl, ((rows 3, [], (key 15 (codes "c"), refl, is-line nine_lines 9 line_9 3 15 refl refl refl), refl, refl), refl))

follows_11 : (version : Version) → Follows version known ten_lines line_11 []
follows_11 One =
    inr (3, 11, refl, refl, refl, ((Pass ∷ [], (is-line ten_lines 10 line_10 3 12 refl refl refl, tt), refl), refl))
follows_11 Two =
    inr (3, 11, refl, refl, refl, ((Pass ∷ [], (is-line ten_lines 10 line_10 3 12 refl refl refl, (refl, refl)), refl), refl))

follows_12 : (version : Version) → Follows version known eleven_lines line_12 []
follows_12 version =
    let at_7 = is-line eleven_lines 7 line_7 3 6 refl refl refl in
    let at_11 = is-line eleven_lines 11 line_11 3 11 refl refl refl in
    inr (3, 5, refl, refl, refl, ((Pass ∷ Pass ∷ [], (at_7, (at_11, tt)), refl), refl))

no-rule : Each IsNoRule twelve_lines
no-rule = (refl, (refl, (refl, (refl, (refl, (refl, (refl, (refl, (refl, (refl, (refl, (refl, tt))))))))))))

follows_13 : (version : Version) → Follows version known twelve_lines line_13 []
follows_13 version =
    let at_3 = is-line twelve_lines 3 line_3 1 5 refl refl refl in
    let at_12 = is-line twelve_lines 12 line_12 3 5 refl refl refl in
    inr (1, 4, refl, refl, refl, (((file_line, refl, refl), new-rule known twelve_lines no-rule 4, (refl, (node 0, (3, at_3, at_12)))), refl))

pub all_follow : (version : Version) → AllFollow version known [] all_lines
all_follow version = (
  [],
  follows_1 version,
  (
    [],
    follows_2 version,
    (
      [],
      follows_3 version,
      (
        [],
        follows_4 version,
        (
          [],
          follows_5 version,
          (
            [],
            follows_6 version,
            (
              [],
              follows_7 version,
              (
                [],
                follows_8 version,
                (
                  [],
                  follows_9 version,
                  (
                    [],
                    follows_10 version,
                    ([], follows_11 version, ([], follows_12 version, ([], follows_13 version, tt))),
                  ),
                ),
              ),
            ),
          ),
        ),
      ),
    ),
  ),
)

-- the one rule has its line
judged : (r : Rule) → Contains (rule ∷ []) r → r.params ≡ [] → IsJudged all_lines r.site
judged r (zero, within, is) plain = subst (λ (q : Rule). IsJudged all_lines q.site) is (13, 1, Pass, is-line all_lines 13 line_13 1 4 refl refl refl)
judged r (suc k, within, is) plain = absurd (omega (arith, within))

pub accepted : (version : Version) → Accepts version template file all_lines
accepted version = record { follow = all_follow version; rules = judged; loose = tt }

-- ---- they are lean

abbrev step_number : ℕ → ℕ
step_number site = if site == 3 then 2 else (if site == 9 then 4 else (if site == 10 then 5 else (if site == 14 then 8 else 9)))

-- the number of a line, told by its kind and its site
abbrev number_by : LineKind → ℕ → ℕ
number_by kind.File site = 1
number_by kind.Frame site = 3
number_by kind.Step site = step_number site
number_by kind.Test site = if site == 7 then 6 else 10
number_by kind.Disj site = if site == 6 then 7 else 11
number_by kind.Conj site = 12
number_by kind.Rule site = 13
number_by _ site = 0

abbrev number_for : LineKind → Option ℕ → ℕ
number_for of site = number_by of (unwrap_or site 0)

numbered : Each (IsNumbered number_for) all_lines
numbered = (refl, (refl, (refl, (refl, (refl, (refl, (refl, (refl, (refl, (refl, (refl, (refl, (refl, tt)))))))))))))

used : Each (IsUsed all_lines) all_lines
used = (
  (λ _. (2, line_2, omega arith, refl, inr (inl refl))),
  (
    (λ _. (4, line_4, omega arith, refl, inl (0, omega arith, refl))),
    (
      (λ _. (4, line_4, omega arith, refl, inr (inl refl))),
      (
        (λ _. (5, line_5, omega arith, refl, inl (0, omega arith, refl))),
        (
          (λ _. (6, line_6, omega arith, refl, inl (0, omega arith, refl))),
          (
            (λ _. (7, line_7, omega arith, refl, inl (0, omega arith, refl))),
            (
              (λ _. (12, line_12, omega arith, refl, inl (0, omega arith, refl))),
              (
                (λ _. (9, line_9, omega arith, refl, inl (0, omega arith, refl))),
                (
                  (λ _. (10, line_10, omega arith, refl, inl (0, omega arith, refl))),
                  (
                    (λ _. (11, line_11, omega arith, refl, inl (0, omega arith, refl))),
                    (
                      (λ _. (12, line_12, omega arith, refl, inl (1, omega arith, refl))),
                      (
                        (λ _. (13, line_13, omega arith, refl, inl (0, omega arith, refl))),
                        ((λ other. absurd (other refl)), tt),
                      ),
                    ),
                  ),
                ),
              ),
            ),
          ),
        ),
      ),
    ),
  ),
)

pub lean : IsLean all_lines
lean = lean-by number_for all_lines numbered used
