-- The ten lines of `specs/FailingRule` are accepted and lean, and with another verdict or another cite the line of the test does not follow.
use Rattle.std.proofs.Common.{◌≡◌, ℕ, zero, suc, ◌-◌, Bool, true, false, Contains, arith, true≢false, refl, sym, unwrap_or, ap, ◌∙◌, subst, inl, inr, List, [], ◌∷◌, Option, Some, codes}
use Rattle.std.proofs.lemmas.Option.{same_Some}
use Rattle.evidence_lines.specs.Lines.{line_of}
use Rattle.evidence_lines.specs.declared.line.Line.{Line}
use Rattle.evidence_lines.specs.declared.line.LineKind.{LineKind}
use Rattle.evidence_lines.specs.declared.line.LineKind.TheVariants as kind
use Rattle.evidence_lines.specs.declared.version.Version.{Version}
use Rattle.evidence_lines.specs.declared.version.Version.TheVariants.{One, Two}
use Rattle.evidence_lines.specs.declared.line.Outcome.{Outcome}
use Rattle.evidence_lines.specs.declared.line.Outcome.TheVariants as says
use Rattle.guard_syntax.specs.Syntax.{Rule, key}
use Rattle.guard_syntax.specs.declared.syntax.Op.TheVariants as op
use Rattle.guard_syntax.specs.declared.row.Row.{Row}
use Rattle.guard_syntax.specs.declared.row.Row.TheVariants.{Found, Missing}
use Rattle.guard_syntax.specs.declared.row.Verdict.TheVariants.{Pass, Fail}
use Rattle.rule_names.specs.Pieces.{AreInOrder}
use Rattle.rule_meaning.specs.StoreModel.{Made}
use Rattle.evidence_rules.specs.CitedLines.{IsLine}
use Rattle.evidence_rules.specs.Follows.{Follows, FollowsIn, AllFollow, Accepts, IsJudged}
use Rattle.rule_meaning.specs.Keys.{passes}
use Rattle.evidence_rules.specs.Lean.{IsLean}
use Rattle.rule_meaning.specs.Verdicts.{is_pass, test_verdict}
use Rattle.rule_names.specs.ReferenceGraph.{step_site}
use Rattle.evidence_examples.specs.code.GivenLines.{node, said, file_line}
use Rattle.evidence_examples.proofs.GivenLines.{is-line, Each, IsNoRule, new-rule, IsNumbered, IsUsed, lean-by}
use Rattle.evidence_examples.specs.code.FailingRule.{template, rule, file, line_2, line_3, line_4, line_5, line_6, line_7, line_8, line_9, line_10, six_lines, all_lines, known, passes_line, other_cite}

-- the sites are numbered as they should be
pub ordered : AreInOrder file
ordered = refl

-- ---- they are accepted

follows_1 : (version : Version) → Follows version known [] file_line []
follows_1 version =
    inl ((refl, refl, refl, refl, refl), refl)

follows_2 : (version : Version) → Follows version known (file_line ∷ []) line_2 []
follows_2 version =
    inr (1, 2, refl, refl, refl, (refl, inl ((rule, (0, omega arith, refl), refl, refl), refl), refl))

abbrev two_lines : List Line
two_lines = file_line ∷ line_2 ∷ []

follows_3 : (version : Version) → Follows version known two_lines line_3 []
follows_3 version =
    inr (2, 6, refl, refl, refl, ((node 0, [], [], [], [], refl, refl, (refl, refl), (refl, refl), refl), refl))

abbrev three_lines : List Line
three_lines = file_line ∷ line_2 ∷ line_3 ∷ []

follows_4 : (version : Version) → Follows version known three_lines line_4 []
follows_4 version =
    let at_3 = is-line three_lines 3 line_3 2 6 refl refl refl in
    inr (2, 7, refl, refl, refl, ((node 0, 3 ∷ [], [], Found (node 1) ∷ [], [], refl, refl, (key 6 (codes "Resources"), refl, at_3), (refl, refl), refl), refl))

abbrev four_lines : List Line
four_lines = file_line ∷ line_2 ∷ line_3 ∷ line_4 ∷ []

follows_5 : (version : Version) → Follows version known four_lines line_5 []
follows_5 version =
    let at_4 = is-line four_lines 4 line_4 2 7 refl refl refl in
    inr (2, 8, refl, refl, refl, ((node 0, 4 ∷ [], [], Found (node 2) ∷ [], [], refl, refl, (key 7 (codes "B"), refl, at_4), (refl, refl), refl), refl))

abbrev five_lines : List Line
five_lines = file_line ∷ line_2 ∷ line_3 ∷ line_4 ∷ line_5 ∷ []

follows_6 : (version : Version) → Follows version known five_lines line_6 []
follows_6 version =
    let at_5 = is-line five_lines 5 line_5 2 8 refl refl refl in
    inr (2, 9, refl, refl, refl, ((node 0, 5 ∷ [], [], Found (node 4) ∷ [], [], refl, refl, (key 8 (codes "Properties"), refl, at_5), (refl, refl), refl), refl))

follows_7 : (version : Version) → Follows version known six_lines line_7 []
follows_7 version =
    let at_6 = is-line six_lines 6 line_6 2 9 refl refl refl in
    inr (2, 4, refl, refl, refl, ((Missing (node 4) 9 ∷ [], [], (key 9 (codes "BucketName"), refl, at_6), refl, refl), refl))

abbrev seven_lines : List Line
seven_lines = file_line ∷ line_2 ∷ line_3 ∷ line_4 ∷ line_5 ∷ line_6 ∷ line_7 ∷ []

follows_8 : (version : Version) → Follows version known seven_lines line_8 []
follows_8 One =
    inr (2, 3, refl, refl, refl, ((Fail ∷ [], (is-line seven_lines 7 line_7 2 4 refl refl refl, tt), refl), refl))
follows_8 Two =
    inr (2, 3, refl, refl, refl, ((Fail ∷ [], (is-line seven_lines 7 line_7 2 4 refl refl refl, tt), refl), refl))

abbrev eight_lines : List Line
eight_lines = file_line ∷ line_2 ∷ line_3 ∷ line_4 ∷ line_5 ∷ line_6 ∷ line_7 ∷ line_8 ∷ []

follows_9 : (version : Version) → Follows version known eight_lines line_9 []
follows_9 version =
    inr (2, 2, refl, refl, refl, ((Fail ∷ [], (is-line eight_lines 8 line_8 2 3 refl refl refl, tt), refl), refl))

abbrev nine_lines : List Line
nine_lines = file_line ∷ line_2 ∷ line_3 ∷ line_4 ∷ line_5 ∷ line_6 ∷ line_7 ∷ line_8 ∷ line_9 ∷ []

no-rule : Each IsNoRule nine_lines
no-rule = (refl, (refl, (refl, (refl, (refl, (refl, (refl, (refl, (refl, tt)))))))))

follows_10 : (version : Version) → Follows version known nine_lines line_10 []
follows_10 version =
    let at_2 = is-line nine_lines 2 line_2 1 2 refl refl refl in
    let at_9 = is-line nine_lines 9 line_9 2 2 refl refl refl in
    inr (1, 1, refl, refl, refl, (((file_line, refl, refl), new-rule known nine_lines no-rule 1, (refl, (node 0, (2, at_2, at_9)))), refl))

pub all_follow : (version : Version) → AllFollow version known [] all_lines
all_follow version = (
  [],
  follows_1 version,
  (
    [],
    follows_2 version,
    (
      [],
      follows_3 version,
      (
        [],
        follows_4 version,
        (
          [],
          follows_5 version,
          (
            [],
            follows_6 version,
            (
              [],
              follows_7 version,
              ([], follows_8 version, ([], follows_9 version, ([], follows_10 version, tt))),
            ),
          ),
        ),
      ),
    ),
  ),
)

-- the one rule has its line
judged : (r : Rule) → Contains (rule ∷ []) r → r.params ≡ [] → IsJudged all_lines r.site
judged r (zero, within, is) plain = subst (λ (q : Rule). IsJudged all_lines q.site) is (10, 1, Fail, is-line all_lines 10 line_10 1 1 refl refl refl)
judged r (suc k, within, is) plain = absurd (omega (arith, within))

pub accepted : (version : Version) → Accepts version template file all_lines
accepted version = record { follow = all_follow version; rules = judged; loose = tt }

-- ---- they are lean

-- the number of a line, told by its kind and its site
abbrev number_by : LineKind → ℕ → ℕ
number_by kind.File site = 1
number_by kind.Frame site = 2
number_by kind.Step site = site - 3
number_by kind.Test site = 7
number_by kind.Disj site = 8
number_by kind.Conj site = 9
number_by kind.Rule site = 10
number_by _ site = 0

abbrev number_for : LineKind → Option ℕ → ℕ
number_for of site = number_by of (unwrap_or site 0)

numbered : Each (IsNumbered number_for) all_lines
numbered = (refl, (refl, (refl, (refl, (refl, (refl, (refl, (refl, (refl, (refl, tt))))))))))

-- the first two lines are frames, the others but the last are cited by the next
used : Each (IsUsed all_lines) all_lines
used = (
  (λ _. (2, line_2, omega arith, refl, inr (inl refl))),
  (
    (λ _. (3, line_3, omega arith, refl, inr (inl refl))),
    (
      (λ _. (4, line_4, omega arith, refl, inl (0, omega arith, refl))),
      (
        (λ _. (5, line_5, omega arith, refl, inl (0, omega arith, refl))),
        (
          (λ _. (6, line_6, omega arith, refl, inl (0, omega arith, refl))),
          (
            (λ _. (7, line_7, omega arith, refl, inl (0, omega arith, refl))),
            (
              (λ _. (8, line_8, omega arith, refl, inl (0, omega arith, refl))),
              (
                (λ _. (9, line_9, omega arith, refl, inl (0, omega arith, refl))),
                ((λ _. (10, line_10, omega arith, refl, inl (0, omega arith, refl))), ((λ other. absurd (other refl)), tt)),
              ),
            ),
          ),
        ),
      ),
    ),
  ),
)

pub lean : IsLean all_lines
lean = lean-by number_for all_lines numbered used

-- ---- what does not follow

abbrev is_file : LineKind → Bool
is_file kind.File = true
is_file _ = false

-- a line with a frame and a site follows in that frame
follows-in : (version : Version) (before : List Line) (of : LineKind) (frame site : ℕ) (cites : List ℕ) (outcome : Outcome) (more : List Made) → is_file of ≡ false
    → Follows version known before (said of frame site cites outcome) more → FollowsIn version known before frame site of cites outcome more
follows-in version before of frame site cites outcome more other follows = elim follows [
  | inl q ↦ absurd (true≢false (sym (ap is_file q.0.0) ∙ other))
  | inr (f, s, frame_is, site_is, home, h) ↦
      subst (λ (n : ℕ). FollowsIn version known before n site of cites outcome more) (sym (same_Some frame f frame_is))
      (subst (λ (n : ℕ). FollowsIn version known before f n of cites outcome more) (sym (same_Some site s site_is)) h)
]

abbrev rows_said : Outcome → List Row
rows_said (says.Rows rows) = rows
rows_said _ = []

-- the rows that a line gives are those that it says, where it stands in the frame and for the step
rows-of : (number : ℕ) (l : Line) (of : LineKind) (frame site : ℕ) (rows : List Row) → line_of six_lines number ≡ Some l
    → IsLine six_lines number of frame site (says.Rows rows) → (rows_said l.outcome ≡ rows) × (l.site ≡ Some site)
rows-of number l of frame site rows stands is =
    let same : l ≡ is.line = same_Some l is.line (sym stands ∙ is.stands) in
    (ap (λ (m : Line). rows_said m.outcome) same ∙ ap rows_said is.outcome_is, ap (λ (m : Line). m.site) same ∙ is.site_is)

-- nothing was found at the last step, so the test is not PASS
pub refused-pass : (version : Version) (more : List Made) → Follows version known six_lines passes_line more → ⊥
refused-pass version more follows =
    let h = follows-in version six_lines kind.Test 2 4 (6 ∷ []) (says.Verdict Pass) more refl follows in
    let gives = h.0.2 in
    let rows = rows-of 6 line_6 _ 2 _ h.0.0 refl gives.2 in
    let e : Pass ≡ Fail =
    subst (λ (ls : List Row). Pass ≡ test_verdict false (passes known op.Exists false h.0.1) ls) (sym rows.0) h.0.4 in
    true≢false (ap is_pass e)

-- the line of the step before the last does not give the rows of the query
pub refused-cite : (version : Version) (more : List Made) → Follows version known six_lines other_cite more → ⊥
refused-cite version more follows =
    let h = follows-in version six_lines kind.Test 2 4 (5 ∷ []) (says.Verdict Fail) more refl follows in
    let gives = h.0.2 in
    let rows = rows-of 5 line_5 _ 2 _ h.0.0 refl gives.2 in
    let last : 9 ≡ step_site gives.0 = ap step_site (same_Some (key 9 (codes "BucketName")) gives.0 gives.1) in
    let site : 8 ≡ step_site gives.0 = same_Some 8 (step_site gives.0) rows.1 in
    absurd (omega (arith, last, site))
