-- What follows from the first of the lines that a line names and those behind it.
use Rattle.std.proofs.Common.{◌≡◌, ℕ, List, [], ◌∷◌, Option, None, true, false, Bool, refl, ap, sym, subst, MatchBool}
use Rattle.evidence_lines.specs.declared.line.Line.{Line}
use Rattle.evidence_lines.specs.declared.line.LineKind.TheVariants as kind
use Rattle.evidence_lines.specs.declared.line.Outcome.TheVariants as says
use Rattle.guard_syntax.specs.code.Seen.{see_conds}
use Rattle.guard_syntax.specs.Syntax as sx
use Rattle.guard_syntax.specs.declared.row.Row.{Row}
use Rattle.guard_syntax.specs.declared.row.Verdict.{Verdict}
use Rattle.guard_syntax.specs.declared.syntax.Conds.{Conds, out-Conds}
use Rattle.rule_names.proofs.Shapes.{conds-seen}
use Rattle.rule_meaning.specs.StoreModel.{StoreModel}
use Rattle.evidence_rules.specs.CitedLines.{GivesQuery, IsLine}
use Rattle.evidence_rules.specs.Follows.{FollowsBlock, FollowsBody, FollowsRowsOf, FollowsRule, FollowsTyped, UnderSome, conds_site}
use Rattle.evidence_rows.proofs.Decided.{decide-given}
use Rattle.evidence_rows.proofs.SaidOnce.{same-query, same-rows}
use Rattle.evidence_checker.specs.code.FirstCites.{IsGuard}

pub conds-site : (cs : Conds) → conds_site (see_conds cs) ≡ (out-Conds cs).site
conds-site cs = ap conds_site (conds-seen cs)

module _ (lines : List Line) (frame c : ℕ) (cites left : List ℕ) (first : cites ≡ c ∷ left) where
  pub guard-said : (conditions : sx.Conds) (site : ℕ) (said : Verdict) → site ≡ conds_site conditions → IsLine lines c kind.Conj frame site (says.Verdict said) → IsGuard lines frame conditions cites said left
  guard-said conditions site said site_is is =
      subst (λ (cs : List ℕ). IsGuard lines frame conditions cs said left) (sym first) (subst (λ (n : ℕ). IsLine lines c kind.Conj frame n (says.Verdict said)) site_is is, refl)

  pub guard-never : (conditions : sx.Conds) (site : ℕ) → site ≡ conds_site conditions → ((said : Verdict) → IsLine lines c kind.Conj frame site (says.Verdict said) → ⊥)
      → (said : Verdict) → (others : List ℕ) → IsGuard lines frame conditions cites said others → ⊥
  guard-never conditions site site_is never said others g =
      let taken : IsGuard lines frame conditions (c ∷ left) said others = subst (λ (cs : List ℕ). IsGuard lines frame conditions cs said others) first g in
      never said (subst (λ (n : ℕ). IsLine lines c kind.Conj frame n (says.Verdict said)) (sym site_is) taken.0)

  module _ (known : StoreModel) (verdict : Verdict) where
    module _ (b : sx.Body) where
      pub typed-never : (site : ℕ) → ((rows : List Row) → IsLine lines c kind.Types frame site (says.Rows rows) → ⊥) → FollowsTyped known lines frame site b cites verdict → ⊥
      typed-never site never f =
          let g : FollowsTyped known lines frame site b (c ∷ left) verdict = subst (λ (cs : List ℕ). FollowsTyped known lines frame site b cs verdict) first f in
          never g.0 g.1

      pub typed-decided : (site : ℕ) (rows : List Row) (r : Bool) → IsLine lines c kind.Types frame site (says.Rows rows)
          → MatchBool r (FollowsRowsOf known lines frame false None b rows left verdict) (FollowsRowsOf known lines frame false None b rows left verdict → ⊥)
          → MatchBool r (FollowsTyped known lines frame site b cites verdict) (FollowsTyped known lines frame site b cites verdict → ⊥)
      typed-decided site rows r is decided =
          subst (λ (cs : List ℕ). MatchBool r (FollowsTyped known lines frame site b cs verdict) (FollowsTyped known lines frame site b cs verdict → ⊥)) (sym first)
          (decide-given (λ (rs : List Row). IsLine lines c kind.Types frame site (says.Rows rs)) (λ (rs : List Row). FollowsRowsOf known lines frame false None b rs left verdict) rows r
          (λ rs also. same-rows lines c kind.Types frame site rs rows also is) is decided)

      pub block-never : (any : Bool) (stop : Option Verdict) (head : sx.Query) → ((rows : List Row) → GivesQuery known.file lines frame head c rows → ⊥) → FollowsBlock known lines frame any stop head b cites verdict → ⊥
      block-never any stop head never f =
          let g : FollowsBlock known lines frame any stop head b (c ∷ left) verdict = subst (λ (cs : List ℕ). FollowsBlock known lines frame any stop head b cs verdict) first f in
          never g.0 g.1

      pub block-decided : (any : Bool) (stop : Option Verdict) (head : sx.Query) (rows : List Row) (r : Bool) → GivesQuery known.file lines frame head c rows
          → MatchBool r (FollowsRowsOf known lines frame any stop b rows left verdict) (FollowsRowsOf known lines frame any stop b rows left verdict → ⊥)
          → MatchBool r (FollowsBlock known lines frame any stop head b cites verdict) (FollowsBlock known lines frame any stop head b cites verdict → ⊥)
      block-decided any stop head rows r gives decided =
          subst (λ (cs : List ℕ). MatchBool r (FollowsBlock known lines frame any stop head b cs verdict) (FollowsBlock known lines frame any stop head b cs verdict → ⊥)) (sym first)
          (decide-given (λ (rs : List Row). GivesQuery known.file lines frame head c rs) (λ (rs : List Row). FollowsRowsOf known lines frame any stop b rs left verdict) rows r
          (λ rs also. same-query known.file lines frame head c rs rows also gives) gives decided)

-- a rule without parameters
module _ (known : StoreModel) (lines : List Line) (frame : ℕ) (r : sx.Rule) (cites : List ℕ) (verdict : Verdict) where
  pub rule-decided : (result : Bool) → r.params ≡ []
      → MatchBool result (UnderSome known lines frame r.cond (FollowsBody known lines frame r.body) cites verdict) (UnderSome known lines frame r.cond (FollowsBody known lines frame r.body) cites verdict → ⊥)
      → MatchBool result (FollowsRule known lines frame r cites verdict) (FollowsRule known lines frame r cites verdict → ⊥)
  rule-decided true none under = (none, under)
  rule-decided false none never = λ f. never f.1
