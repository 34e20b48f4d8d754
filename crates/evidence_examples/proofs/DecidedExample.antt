-- The eleven lines of `specs/DecidedCondition` are accepted in version 2 and lean, and in version 1 the line of the disjunction does not follow.
use Rattle.std.proofs.Common.{◌≡◌, ℕ, zero, suc, ◌==◌, Contains, arith, refl, subst, inl, inr, List, [], ◌∷◌, Option, None, sym, unwrap_or, codes, if◌then◌else◌}
use Rattle.std.proofs.lemmas.Option.{same_Some, none-some}
use Rattle.evidence_lines.specs.declared.line.LineKind.{LineKind}
use Rattle.evidence_lines.specs.declared.line.LineKind.TheVariants as kind
use Rattle.evidence_lines.specs.declared.line.Outcome.TheVariants as says
use Rattle.evidence_lines.specs.declared.version.Version.TheVariants.{One, Two}
use Rattle.guard_syntax.specs.Syntax.{Rule, key}
use Rattle.guard_syntax.specs.declared.row.Verdict.{Verdict}
use Rattle.guard_syntax.specs.declared.row.Verdict.TheVariants.{Pass}
use Rattle.rule_names.specs.Pieces.{AreInOrder}
use Rattle.rule_meaning.specs.StoreModel.{Made}
use Rattle.evidence_rules.specs.Follows.{Follows, FollowsIn, AllFollow, Accepts, IsJudged, SayParts}
use Rattle.evidence_rules.specs.Lean.{IsLean}
use Rattle.evidence_examples.specs.code.GivenLines.{node, file_line}
use Rattle.evidence_examples.proofs.GivenLines.{is-line, Each, IsNoRule, new-rule, IsNumbered, IsUsed, lean-by}
use Rattle.evidence_examples.specs.code.DecidedCondition.{template, either, rule, file, known, rows, line_2, line_3, line_4, line_5, line_6, line_7, line_8, line_9, line_10, line_11, one_lines, two_lines, three_lines, four_lines, five_lines, six_lines, seven_lines, eight_lines, nine_lines, ten_lines, all_lines}

-- the sites are numbered as they should be
pub ordered : AreInOrder file
ordered = refl

-- ---- they are accepted in version 2

follows_1 : Follows Two known [] file_line []
follows_1 =
    inl ((refl, refl, refl, refl, refl), refl)

follows_2 : Follows Two known one_lines line_2 []
follows_2 =
    inr (1, 6, refl, refl, refl, ((node 0, [], [], [], [], refl, refl, (refl, refl), (refl, refl), refl), refl))

follows_3 : Follows Two known two_lines line_3 []
follows_3 =
    inr (1, 4, refl, refl, refl, ((rows 1, [], (key 6 (codes "A"), refl, is-line two_lines 2 line_2 1 6 refl refl refl), refl, refl), refl))

follows_4 : Follows Two known three_lines line_4 []
follows_4 =
    inr (1, 3, refl, refl, refl, ((Pass ∷ [], (is-line three_lines 3 line_3 1 4 refl refl refl, (refl, refl)), refl), refl))

follows_5 : Follows Two known four_lines line_5 []
follows_5 =
    inr (1, 2, refl, refl, refl, ((Pass ∷ [], (is-line four_lines 4 line_4 1 3 refl refl refl, tt), refl), refl))

follows_6 : Follows Two known five_lines line_6 []
follows_6 =
    inr (1, 10, refl, refl, refl, (refl, inl ((rule, (0, omega arith, refl), refl, refl), refl), refl))

follows_7 : Follows Two known six_lines line_7 []
follows_7 =
    inr (6, 14, refl, refl, refl, ((node 0, [], [], [], [], refl, refl, (refl, refl), (refl, refl), refl), refl))

follows_8 : Follows Two known seven_lines line_8 []
follows_8 =
    inr (6, 12, refl, refl, refl, ((rows 2, [], (key 14 (codes "C"), refl, is-line seven_lines 7 line_7 6 14 refl refl refl), refl, refl), refl))

follows_9 : Follows Two known eight_lines line_9 []
follows_9 =
    inr (6, 11, refl, refl, refl, ((Pass ∷ [], (is-line eight_lines 8 line_8 6 12 refl refl refl, (refl, refl)), refl), refl))

follows_10 : Follows Two known nine_lines line_10 []
follows_10 =
    inr (6, 10, refl, refl, refl, ((Pass ∷ [], (is-line nine_lines 9 line_9 6 11 refl refl refl, tt), refl), refl))

no-rule : Each IsNoRule ten_lines
no-rule = (refl, (refl, (refl, (refl, (refl, (refl, (refl, (refl, (refl, (refl, tt))))))))))

follows_11 : Follows Two known ten_lines line_11 []
follows_11 =
    let at_5 = is-line ten_lines 5 line_5 1 2 refl refl refl in
    let at_6 = is-line ten_lines 6 line_6 1 10 refl refl refl in
    let at_10 = is-line ten_lines 10 line_10 6 10 refl refl refl in
    inr (1, 1, refl, refl, refl, (((file_line, refl, refl), new-rule known ten_lines no-rule 1, (refl, (Pass, at_5, (node 0, (6, at_6, at_10))))), refl))

pub all_follow : AllFollow Two known [] all_lines
all_follow = ([], follows_1, ([], follows_2, ([], follows_3, ([], follows_4, ([], follows_5, ([], follows_6, ([], follows_7, ([], follows_8, ([], follows_9, ([], follows_10, ([], follows_11, tt)))))))))))

-- the one rule has its line
judged : (r : Rule) → Contains (rule ∷ []) r → r.params ≡ [] → IsJudged all_lines r.site
judged r (zero, within, is) plain = subst (λ (q : Rule). IsJudged all_lines q.site) is (11, 1, Pass, is-line all_lines 11 line_11 1 1 refl refl refl)
judged r (suc k, within, is) plain = absurd (omega (arith, within))

pub accepted : Accepts Two template file all_lines
accepted = record { follow = all_follow; rules = judged; loose = tt }

-- ---- they are lean

-- the number of a line, told by its kind and its site
abbrev number_by : LineKind → ℕ → ℕ
number_by kind.File site = 1
number_by kind.Frame site = 6
number_by kind.Step site = if site == 6 then 2 else 7
number_by kind.Test site = if site == 4 then 3 else 8
number_by kind.Disj site = if site == 3 then 4 else 9
number_by kind.Conj site = if site == 2 then 5 else 10
number_by kind.Rule site = 11
number_by _ site = 0

abbrev number_for : LineKind → Option ℕ → ℕ
number_for of site = number_by of (unwrap_or site 0)

numbered : Each (IsNumbered number_for) all_lines
numbered = (refl, (refl, (refl, (refl, (refl, (refl, (refl, (refl, (refl, (refl, (refl, tt)))))))))))

used : Each (IsUsed all_lines) all_lines
used = ((λ _. (2, line_2, omega arith, refl, inr (inl refl))), ((λ _. (3, line_3, omega arith, refl, inl (0, omega arith, refl))), ((λ _. (4, line_4, omega arith, refl, inl (0, omega arith, refl))), ((λ _. (5, line_5, omega arith, refl, inl (0, omega arith, refl))), ((λ _. (11, line_11, omega arith, refl, inl (0, omega arith, refl))), ((λ _. (7, line_7, omega arith, refl, inr (inl refl))), ((λ _. (8, line_8, omega arith, refl, inl (0, omega arith, refl))), ((λ _. (9, line_9, omega arith, refl, inl (0, omega arith, refl))), ((λ _. (10, line_10, omega arith, refl, inl (0, omega arith, refl))), ((λ _. (11, line_11, omega arith, refl, inl (1, omega arith, refl))), ((λ other. absurd (other refl)), tt)))))))))))

pub lean : IsLean all_lines
lean = lean-by number_for all_lines numbered used

-- ---- in version 1 both parts have to be cited

one-part : (verdicts : List Verdict) → SayParts known three_lines 1 None either (3 ∷ []) verdicts → ⊥
one-part [] h = h
one-part (w ∷ []) h = h.1
one-part (w ∷ x ∷ ws) h = h.1

pub refused : (more : List Made) → Follows One known three_lines line_4 more → ⊥
refused more (inl (q, none)) = none-some 1 (sym q.1)
refused more (inr (f, s, frame_is, site_is, home, h)) =
    let framed : FollowsIn One known three_lines 1 s kind.Disj (3 ∷ []) (says.Verdict Pass) more =
    subst (λ (n : ℕ). FollowsIn One known three_lines n s kind.Disj (3 ∷ []) (says.Verdict Pass) more) (sym (same_Some 1 f frame_is)) h in
    let sited : FollowsIn One known three_lines 1 3 kind.Disj (3 ∷ []) (says.Verdict Pass) more =
    subst (λ (n : ℕ). FollowsIn One known three_lines 1 n kind.Disj (3 ∷ []) (says.Verdict Pass) more) (sym (same_Some 3 s site_is)) framed in
    one-part sited.0.0 sited.0.1
