-- There is a verdict for each name that is reported.
use Rattle.std.proofs.Common.{◌≡◌, ◌+◌, ◌++◌, ℕ, refl, sym, ap, ◌∙◌, arith, List, [], ◌∷◌, length, append_assoc}
use Rattle.std.specs.List.{flat_map}
use Rattle.std.proofs.lemmas.List.{length-append}
use Rattle.evidence_rules.specs.RuleLines.{AreFrom, AreOfLoose, AreOfRules, IsSaidOf}
use Rattle.evidence_lines.specs.declared.line.Line.{Line}
use Rattle.guard_syntax.specs.Named.{Named}
use Rattle.guard_syntax.specs.Syntax.{Rule, Disjs, no_disjs, more_disjs}
use Rattle.guard_syntax.specs.declared.row.Verdict.{Verdict}
use Rattle.report_text.specs.RuleLines.{if_plain, name_of_loose, name_of_rule}

counted-from : (params : List Named) (name : List ℕ) (Is : Verdict → Type 0) (AreOthers : List Verdict → Type 0) (others : ℕ)
    → ((vs : List Verdict) → AreOthers vs → length vs ≡ others) → (vs : List Verdict) → AreFrom params Is AreOthers vs
    → length vs ≡ length (if_plain name params) + others
counted-from [] name Is AreOthers others each [] from = absurd from
counted-from [] name Is AreOthers others each (v ∷ vs) from = let e = each vs from.1 in omega (arith, e)
counted-from (p ∷ params) name Is AreOthers others each vs from = let e = each vs from in omega (arith, e)

module _ (lines : List Line) where
  counted-loose : (loose : Disjs) (vs : List Verdict) → AreOfLoose lines loose vs → length vs ≡ length (name_of_loose loose)
  counted-loose no_disjs vs are = ap length are
  counted-loose (more_disjs d ds) [] are = absurd are
  counted-loose (more_disjs d ds) (v ∷ []) are = refl
  counted-loose (more_disjs d ds) (v ∷ w ∷ vs) are = absurd are

  pub verdicts-counted : (rules : List Rule) (loose : Disjs) (vs : List Verdict) → AreOfRules lines rules loose vs
      → length vs ≡ length (flat_map name_of_rule rules ++ name_of_loose loose)
  verdicts-counted [] loose vs are = counted-loose loose vs are
  verdicts-counted (r ∷ rules) loose vs are =
      let others = flat_map name_of_rule rules ++ name_of_loose loose in
      counted-from r.params r.name.text (IsSaidOf lines r.site) (AreOfRules lines rules loose) (length others) (verdicts-counted rules loose) vs are
      ∙ (sym (length-append (name_of_rule r) others) ∙ ap length (sym (append_assoc (name_of_rule r) (flat_map name_of_rule rules) (name_of_loose loose))))
