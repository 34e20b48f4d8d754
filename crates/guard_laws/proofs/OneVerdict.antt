-- Evidence whose lines follow says one verdict of each site of a rule: no two of its `rule` lines have the same site. By the
-- lines before each.
use Rattle.std.proofs.Common.{◌≡◌, ◌⊎◌, ◌++◌, ℕ, zero, suc, sym, ap, ◌∙◌, subst, inl, inr, append_assoc, slice_get, List, [], ◌∷◌, Option, Some}
use Rattle.std.proofs.lemmas.List.{append-nil}
use Rattle.std.proofs.lemmas.Option.{same_Some, none-some}
use Rattle.doc_values.specs.Tree.{Forest}
use Rattle.evidence_rules.specs.RuleLines.{AreFrom, AreOfLoose, AreOfRules, IsSaidOf}
use Rattle.evidence_lines.specs.Lines.{line_of}
use Rattle.evidence_lines.specs.declared.line.Line.{Line}
use Rattle.evidence_lines.specs.declared.line.LineKind.{LineKind}
use Rattle.evidence_lines.specs.declared.line.LineKind.TheVariants as kind
use Rattle.evidence_lines.specs.declared.line.Outcome.{Outcome}
use Rattle.evidence_lines.specs.declared.line.Outcome.TheVariants as says
use Rattle.evidence_lines.specs.declared.version.Version.{Version}
use Rattle.guard_syntax.specs.Named.{Named}
use Rattle.guard_syntax.specs.Syntax.{File, Rule, Disjs, no_disjs, more_disjs}
use Rattle.guard_syntax.specs.declared.row.Verdict.{Verdict}
use Rattle.rule_names.specs.Pieces.{Piece, OfFile, OfRule, OfPart, piece_at}
use Rattle.rule_meaning.specs.StoreModel.{StoreModel, Made}
use Rattle.evidence_rules.specs.Follows.{AllFollow, Follows, FollowsIn, FollowsVerdict, IsNewRule, nothing_made}
use Rattle.rule_meaning.specs.Seeing.{grown}
use Rattle.evidence_rules.proofs.LinesBehind.{at-end, behind-first}

-- ---- a `rule` line that follows is the first of its site

module _ (version : Version) (known : StoreModel) (lines : List Line) where
  new-at : (frame site : ℕ) (piece : Option Piece) (cites : List ℕ) (verdict : Verdict)
      → FollowsVerdict version known lines frame site kind.Rule piece cites verdict → IsNewRule known lines site
  new-at frame site (Some (OfRule r)) cites verdict h = h.1
  new-at frame site (Some OfFile) cites verdict h = h.1
  new-at frame site (Some (OfPart part)) cites verdict h = absurd h
  new-at frame site piece cites verdict h = absurd h

  rule-new : (line : Line) (more : List Made) (site : ℕ) (verdict : Verdict) → line.kind ≡ kind.Rule → line.site ≡ Some site
      → line.outcome ≡ says.Verdict verdict → Follows version known lines line more → IsNewRule known lines site
  rule-new line more site verdict kind_is site_is outcome_is (inl (q, none)) = absurd (let bad : kind.File ≡ kind.Rule = sym q.0 ∙ kind_is in cc)
  rule-new line more site verdict kind_is site_is outcome_is (inr (f, s, f_is, s_is, home, h)) =
      let same : s ≡ site = same_Some s site (sym s_is ∙ site_is) in
      let as_rule : FollowsIn version known lines f s kind.Rule line.cites line.outcome more =
      subst (λ (k : LineKind). FollowsIn version known lines f s k line.cites line.outcome more) kind_is h in
      let as_verdict : FollowsIn version known lines f s kind.Rule line.cites (says.Verdict verdict) more =
      subst (λ (o : Outcome). FollowsIn version known lines f s kind.Rule line.cites o more) outcome_is as_rule in
      subst (λ (n : ℕ). IsNewRule known lines n) same (new-at f s (piece_at known.file s) line.cites verdict as_verdict.0)

-- ---- so all `rule` lines of a site say one verdict

-- the line says the verdict of a site
abbrev Says : Line → (site : ℕ) → Verdict → Type 0
Says l site v = (frame : ℕ) × (l.kind ≡ kind.Rule) × (l.frame ≡ Some frame) × (l.site ≡ Some site) × (l.outcome ≡ says.Verdict v)

abbrev OneEach : List Line → Type 0
OneEach ls = (m n : ℕ) (l k : Line) (site : ℕ) (v w : Verdict) → slice_get ls m ≡ Some l → slice_get ls n ≡ Some k → Says l site v → Says k site w → v ≡ w

verdicts-same : (v w : Verdict) → says.Verdict v ≡ says.Verdict w → v ≡ w
verdicts-same v w same = cc

module _ (version : Version) (known : StoreModel) (before : List Line) (line : Line) (more : List Made) (follows : Follows version known before line more) where
  -- a line before does not say what the line itself says
  never-again : (m : ℕ) (l : Line) (site : ℕ) (v w : Verdict) → slice_get before m ≡ Some l → Says l site v → Says line site w → ⊥
  never-again m l site v w stands (f, k_is, f_is, s_is, o_is) (g, k_is', f_is', s_is', o_is') =
      rule-new version known before line more site w k_is' s_is' o_is' follows (suc m) f (says.Verdict v)
      (record { line = l; stands = behind-first before m ∙ stands; kind_is = k_is; frame_is = f_is; site_is = s_is; outcome_is = o_is })

  one-more : OneEach before → OneEach (before ++ line ∷ [])
  one-more one m n l k site v w at at' says says' = by (at-end before line m l at) (at-end before line n k at')
    where
      by : (slice_get before m ≡ Some l) ⊎ (line ≡ l) → (slice_get before n ≡ Some k) ⊎ (line ≡ k) → v ≡ w
      by (inl a) (inl b) = one m n l k site v w a b says says'
      by (inl a) (inr b) = absurd (never-again m l site v w a says (subst (λ (x : Line). Says x site w) (sym b) says'))
      by (inr a) (inl b) = absurd (never-again n k site w v b says' (subst (λ (x : Line). Says x site v) (sym a) says))
      by (inr a) (inr b) =
          let this : Says line site v = subst (λ (x : Line). Says x site v) (sym a) says in
          let that : Says line site w = subst (λ (x : Line). Says x site w) (sym b) says' in
          verdicts-same v w (sym this.4 ∙ that.4)

each-one : (version : Version) (rest : List Line) (known : StoreModel) (before : List Line) → OneEach before → AllFollow version known before rest → OneEach (before ++ rest)
each-one version [] known before one follow = subst OneEach (sym (append-nil before)) one
each-one version (line ∷ rest) known before one (more, follows, others) =
    subst OneEach (append_assoc before (line ∷ []) rest)
    (each-one version rest (grown known more) (before ++ line ∷ []) (one-more version known before line more follows one) others)

none-one : OneEach []
none-one m n l k site v w at at' says says' = absurd (none-some l at)

at-index : (lines : List Line) (number : ℕ) (l : Line) → line_of lines number ≡ Some l → (n : ℕ) × (slice_get lines n ≡ Some l)
at-index lines zero l stands = absurd (none-some l stands)
at-index lines (suc n) l stands = (n, sym (behind-first lines n) ∙ stands)

-- all `rule` lines of a site say one verdict
abbrev pub SayOne : List Line → Type 0
SayOne lines = (site : ℕ) (v w : Verdict) → IsSaidOf lines site v → IsSaidOf lines site w → v ≡ w

pub said-one : (version : Version) (template : Forest) (file : File) (lines : List Line) → AllFollow version (nothing_made template file) [] lines → SayOne lines
said-one version template file lines follow site v w (number, f, is) (number', g, is') =
    let one : OneEach lines = each-one version lines (nothing_made template file) [] none-one follow in
    let first = at-index lines number is.line is.stands in
    let second = at-index lines number' is'.line is'.stands in
    one first.0 second.0 is.line is'.line site v w first.1 second.1
    (f, is.kind_is, is.frame_is, is.site_is, is.outcome_is) (g, is'.kind_is, is'.frame_is, is'.site_is, is'.outcome_is)

-- ---- and the verdicts of all rules are one list

from-one : (params : List Named) (Is : Verdict → Type 0) (AreOthers : List Verdict → Type 0) → ((v w : Verdict) → Is v → Is w → v ≡ w)
    → ((vs ws : List Verdict) → AreOthers vs → AreOthers ws → vs ≡ ws) → (vs ws : List Verdict) → AreFrom params Is AreOthers vs → AreFrom params Is AreOthers ws → vs ≡ ws
from-one [] Is AreOthers one others [] ws a b = absurd a
from-one [] Is AreOthers one others (v ∷ vs) [] a b = absurd b
from-one [] Is AreOthers one others (v ∷ vs) (w ∷ ws) a b =
    ap (λ (x : Verdict). x ∷ vs) (one v w a.0 b.0) ∙ ap (λ (xs : List Verdict). w ∷ xs) (others vs ws a.1 b.1)
from-one (p ∷ params) Is AreOthers one others vs ws a b = others vs ws a b

module _ (lines : List Line) (one : SayOne lines) where
  loose-one : (loose : Disjs) (vs ws : List Verdict) → AreOfLoose lines loose vs → AreOfLoose lines loose ws → vs ≡ ws
  loose-one no_disjs vs ws a b = a ∙ sym b
  loose-one (more_disjs d ds) [] ws a b = absurd a
  loose-one (more_disjs d ds) (v ∷ []) [] a b = absurd b
  loose-one (more_disjs d ds) (v ∷ []) (w ∷ []) a b = ap (λ (x : Verdict). x ∷ []) (one 0 v w a b)
  loose-one (more_disjs d ds) (v ∷ []) (w ∷ x ∷ ws) a b = absurd b
  loose-one (more_disjs d ds) (v ∷ u ∷ vs) ws a b = absurd a

  pub verdicts-one : (rules : List Rule) (loose : Disjs) (vs ws : List Verdict) → AreOfRules lines rules loose vs → AreOfRules lines rules loose ws → vs ≡ ws
  verdicts-one [] loose vs ws a b = loose-one loose vs ws a b
  verdicts-one (r ∷ rules) loose vs ws a b =
      from-one r.params (IsSaidOf lines r.site) (AreOfRules lines rules loose) (one r.site) (verdicts-one rules loose) vs ws a b
