-- Verdicts that are listed: none, one more, and what is left to list of rules in turn.
use Rattle.std.proofs.Common.{◌≡◌, ℕ, zero, suc, ◌+◌, ◌<◌, ◌≤◌, List, [], ◌∷◌, ◌++◌, length, get_or, drop, drop-cons, map, refl, sym, ap, subst, ◌∙◌, append-nil, append_assoc, arith}
use Rattle.std.specs.List.{flat_map}
use Rattle.std.proofs.lemmas.List.{drop_all, map-append}
use Rattle.std.proofs.lemmas.List.Elements.{All-nil, All-push}
use Rattle.evidence_lines.specs.declared.line.Line.{Line}
use Rattle.guard_syntax.specs.Syntax as sx
use Rattle.guard_syntax.specs.code.Seen.{see_rule}
use Rattle.guard_syntax.specs.declared.row.Verdict.{Verdict}
use Rattle.guard_syntax.specs.declared.syntax.Rule.{Rule}
use Rattle.rule_meaning.specs.Locations.{World}
use Rattle.rule_meaning.specs.StoreModel.{StoreModel}
use Rattle.guard_ends.specs.Reported.{Reported, of_rule}
use Rattle.evidence_report.specs.code.RuleTables.{IsRuleLine}
use Rattle.evidence_report.specs.code.VerdictLines.{AreSaid, Lists, see_verdict, verdicts_in}
use Rattle.evidence_report.specs.declared.verdict_lines.VerdictLine.{VerdictLine}

module _ (known : StoreModel) (lines : List Line) where
  pub none-listed : (before : List VerdictLine) → Lists known lines before before []
  none-listed before = sym (append-nil (map (see_verdict known lines) before))

  pub then-listed : (a b c : List VerdictLine) (xs ys : List Reported) → Lists known lines a b xs → Lists known lines b c ys → Lists known lines a c (xs ++ ys)
  then-listed a b c xs ys first second = second ∙ ap (λ (rs : List Reported). rs ++ ys) first ∙ append_assoc (map (see_verdict known lines) a) xs ys

  pub one-listed : (before after : List VerdictLine) (v : VerdictLine) (seen : Reported) → after ≡ before ++ v ∷ [] → see_verdict known lines v ≡ seen → Lists known lines before after (seen ∷ [])
  one-listed before after v seen is same =
      ap (map (see_verdict known lines)) is ∙ map-append (see_verdict known lines) before (v ∷ []) ∙ ap (λ (r : Reported). map (see_verdict known lines) before ++ r ∷ []) same

  -- all that is listed, behind nothing
  pub both-listed : (a b c : List VerdictLine) (xs ys : List Reported) → a ≡ [] → Lists known lines a b xs → Lists known lines b c ys → map (see_verdict known lines) c ≡ xs ++ ys
  both-listed a b c xs ys none first second =
      then-listed a b c xs ys first second ∙ ap (λ (vs : List VerdictLine). map (see_verdict known lines) vs ++ (xs ++ ys)) none

  pub same-listed : (a b : List VerdictLine) (xs ys : List Reported) → xs ≡ ys → Lists known lines a b xs → Lists known lines a b ys
  same-listed a b xs ys same = subst (Lists known lines a b) same

  -- what is listed behind `now` for what is left, is listed behind `start` for all
  abbrev pub OwesList : (start now : List VerdictLine) → (all left : List Reported) → Type 0
  OwesList start now all left = (final : List VerdictLine) → Lists known lines now final left → Lists known lines start final all

  -- the verdicts alone
  pub verdicts-seen : (all : List VerdictLine) → verdicts_in all ≡ map (λ (r : Reported). r.verdict) (map (see_verdict known lines) all)
  verdicts-seen [] = refl
  verdicts-seen (v ∷ all) = ap (λ (vs : List Verdict). v.line.verdict ∷ vs) (verdicts-seen all)

  module _ (world : World) (rules : List Rule) where
    -- what is reported of the rules from one on
    abbrev pub left_from : ℕ → List Reported
    left_from i = flat_map (of_rule world) (map see_rule (drop i rules))

    pub rules-more : (i : ℕ) (r : Rule) (start now later : List VerdictLine) (all : List Reported) → i < length rules → r ≡ get_or rules i r
        → Lists known lines now later (of_rule world (see_rule r)) → OwesList start now all (left_from i) → OwesList start later all (left_from (i + 1))
    rules-more i r start now later all within is more owes final rest =
        let e : suc i ≡ i + 1 = omega arith in
        let split : drop i rules ≡ r ∷ drop (i + 1) rules =
        drop-cons rules i r within ∙ ap (λ (x : Rule). x ∷ drop (suc i) rules) (sym is) ∙ ap (λ (n : ℕ). r ∷ drop n rules) e in
        owes final (subst (λ (rs : List Rule). Lists known lines now final (flat_map (of_rule world) (map see_rule rs))) (sym split)
        (then-listed now later final (of_rule world (see_rule r)) (left_from (i + 1)) more rest))

    pub rules-end : (i : ℕ) (start now : List VerdictLine) (all : List Reported) → length rules ≤ i → OwesList start now all (left_from i) → Lists known lines start now all
    rules-end i start now all past owes =
        owes now (subst (λ (rs : List Rule). Lists known lines now now (flat_map (of_rule world) (map see_rule rs))) (sym (drop_all i rules past)) (none-listed now))

-- a rule that stands at an index is among the rules as they are seen
pub among-seen : (rules : List Rule) (i : ℕ) (r : Rule) → i < length rules → r ≡ get_or rules i r → (file_rules : List sx.Rule) → file_rules ≡ map see_rule rules
    → (k : ℕ) × (k < length file_rules) × (get_or file_rules k (see_rule r) ≡ see_rule r)
among-seen rules i r within is file_rules same =
    subst (λ (rs : List sx.Rule). (k : ℕ) × (k < length rs) × (get_or rs k (see_rule r) ≡ see_rule r)) (sym same) (seen rules i within is)
  where
    seen : (rs : List Rule) (n : ℕ) → n < length rs → r ≡ get_or rs n r → (k : ℕ) × (k < length (map see_rule rs)) × (get_or (map see_rule rs) k (see_rule r) ≡ see_rule r)
    seen [] n inside at = absurd (omega (arith, inside))
    seen (x ∷ rs) zero inside at = (0, omega arith, ap see_rule (sym at))
    seen (x ∷ rs) (suc n) inside at = let next = seen rs n (omega (arith, inside)) at in let less = next.1 in (suc next.0, omega (arith, less), next.2)

-- one line more that says its verdict
pub said-more : (lines : List Line) (before after : List VerdictLine) (v : VerdictLine) → after ≡ before ++ v ∷ [] → IsRuleLine lines v.line → AreSaid lines before → AreSaid lines after
said-more lines before after v is says all =
    subst (AreSaid lines) (sym is) (All-push (λ (x : VerdictLine). IsRuleLine lines x.line) before v all says)

pub said-none : (lines : List Line) (all : List VerdictLine) → all ≡ [] → AreSaid lines all
said-none lines all none = subst (AreSaid lines) (sym none) (All-nil (λ (x : VerdictLine). IsRuleLine lines x.line))
