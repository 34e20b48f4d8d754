-- Lines of verdicts, by the kind of the line and the piece of its site.
use Rattle.std.proofs.Common.{◌≡◌, ℕ, Bor, refl, Bool, true, false, List, Option, Some, None, map, ap, sym, ◌∙◌, subst, MatchBool}
use Rattle.evidence_lines.specs.declared.line.Line.{Line}
use Rattle.evidence_lines.specs.declared.line.LineKind.{LineKind}
use Rattle.evidence_lines.specs.declared.line.LineKind.TheVariants as kind
use Rattle.evidence_lines.specs.declared.version.Version.{Version}
use Rattle.guard_syntax.specs.code.Seen.{disj_list, see_body, see_conds, see_disj}
use Rattle.guard_syntax.specs.Syntax as sx
use Rattle.guard_syntax.specs.declared.row.Verdict.{Verdict}
use Rattle.guard_syntax.specs.declared.syntax.Body.{Body, out-Body}
use Rattle.guard_syntax.specs.declared.syntax.Conds.{Conds, out-Conds}
use Rattle.guard_syntax.specs.declared.syntax.Disj.{Disj}
use Rattle.guard_syntax.specs.declared.syntax.Part.{Part}
use Rattle.guard_syntax.specs.declared.syntax.Rule.{Rule}
use Rattle.rule_names.specs.Pieces.{OfBody, OfConds, OfDisj, OfFile, OfPart, OfRule, Piece}
use Rattle.rule_names.specs.code.Seen.{see_piece}
use Rattle.rule_names.proofs.Shapes.{body-seen, conds-seen}
use Rattle.rule_names.specs.declared.piece.Piece as shape
use Rattle.rule_names.specs.declared.piece.Piece.TheVariants as code
use Rattle.rule_meaning.specs.StoreModel.{StoreModel}
use Rattle.evidence_rules.specs.Follows.{FollowsAtPart, FollowsConj, FollowsDisj, FollowsLoose, FollowsRule, FollowsVerdict, IsFileFrame, IsNewRule, conds_stop, disj_stop}

-- the disjunctions of a body and of conditions
abbrev body_disjs : sx.Body → sx.Disjs
body_disjs (sx.body n lets ds) = ds

abbrev conds_disjs : sx.Conds → sx.Disjs
conds_disjs (sx.conds n ds) = ds

body-disjs : (b : Body) → body_disjs (see_body b) ≡ disj_list (map see_disj (out-Body b).parts.items)
body-disjs b = ap body_disjs (body-seen b)

conds-disjs : (c : Conds) → conds_disjs (see_conds c) ≡ disj_list (map see_disj (out-Conds c).parts.items)
conds-disjs c = ap conds_disjs (conds-seen c)

disjs-of : (ds all : List Disj) → ds ≡ all → disj_list (map see_disj all) ≡ disj_list (map see_disj ds)
disjs-of ds all are = ap (λ (xs : List Disj). disj_list (map see_disj xs)) (sym are)

-- a rule without its first line
pub never-new : (b : Bool) (New : Type 0) → b ≡ false → MatchBool b New (New → ⊥) → New → ⊥
never-new true New off new = absurd cc
never-new false New off never = never

pub is-new : (b : Bool) (New : Type 0) → b ≡ true → MatchBool b New (New → ⊥) → New
is-new true New on new = new
is-new false New on never = absurd cc

module _ (version : Version) (known : StoreModel) (lines : List Line) (frame site : ℕ) (cites : List ℕ) (verdict : Verdict) where
  abbrev pub Judges : LineKind → Option Piece → Bool → Type 0
  Judges of piece r = MatchBool r (FollowsVerdict version known lines frame site of piece cites verdict) (FollowsVerdict version known lines frame site of piece cites verdict → ⊥)

  -- by the kind and the piece that are found
  pub at-line : (of this : LineKind) (piece found : Option Piece) (r : Bool) → of ≡ this → found ≡ piece → Judges this found r → Judges of piece r
  at-line of this piece found r kind_is piece_is judged =
      subst (λ (k : LineKind). Judges k piece r) (sym kind_is) (subst (λ (p : Option Piece). Judges this p r) piece_is judged)

  -- ---- rules, and the parts outside rules

  pub rule-framed : (piece : Piece) → FollowsVerdict version known lines frame site kind.Rule (Some piece) cites verdict → IsFileFrame known lines frame
  rule-framed (OfRule r) h = h.0
  rule-framed OfFile h = h.0
  rule-framed piece h = absurd h

  pub rule-new : (piece : Piece) → FollowsVerdict version known lines frame site kind.Rule (Some piece) cites verdict → IsNewRule known lines site
  rule-new (OfRule r) h = h.1
  rule-new OfFile h = h.1
  rule-new piece h = absurd h

  module _ (framed : IsFileFrame known lines frame) (new : IsNewRule known lines site) where
    pub rule-judged : (rule : sx.Rule) (r : Bool) → MatchBool r (FollowsRule known lines frame rule cites verdict) (FollowsRule known lines frame rule cites verdict → ⊥) → Judges kind.Rule (Some (OfRule rule)) r
    rule-judged rule true follows = (framed, new, follows)
    rule-judged rule false never = λ h. never h.2

    pub loose-judged : (loose : sx.Disjs) (r : Bool) → known.file.loose ≡ loose → MatchBool r (FollowsLoose known lines frame loose cites verdict) (FollowsLoose known lines frame loose cites verdict → ⊥)
        → Judges kind.Rule (Some OfFile) r
    loose-judged loose true is follows = (framed, new, subst (λ (ds : sx.Disjs). FollowsLoose known lines frame ds cites verdict) (sym is) follows)
    loose-judged loose false is never = λ h. never (subst (λ (ds : sx.Disjs). FollowsLoose known lines frame ds cites verdict) is h.2)

  -- ---- conjunctions

  module _ (ds : List Disj) (r : Bool) where
    abbrev pub Decides : Option Verdict → Type 0
    Decides stop =
        MatchBool r (FollowsConj known lines frame stop (disj_list (map see_disj ds)) cites verdict) (FollowsConj known lines frame stop (disj_list (map see_disj ds)) cites verdict → ⊥)

    body-by : (b : sx.Body) → body_disjs b ≡ disj_list (map see_disj ds) → Decides None → Judges kind.Conj (Some (OfBody b)) r
    body-by (sx.body n lets parts) are decided =
        subst (λ (xs : sx.Disjs). MatchBool r (FollowsConj known lines frame None xs cites verdict) (FollowsConj known lines frame None xs cites verdict → ⊥)) (sym are) decided

    conds-by : (c : sx.Conds) → conds_disjs c ≡ disj_list (map see_disj ds) → Decides (conds_stop version) → Judges kind.Conj (Some (OfConds c)) r
    conds-by (sx.conds n parts) are decided =
        subst (λ (xs : sx.Disjs). MatchBool r (FollowsConj known lines frame (conds_stop version) xs cites verdict) (FollowsConj known lines frame (conds_stop version) xs cites verdict → ⊥)) (sym are) decided

    pub body-judged : (b : Body) → ds ≡ (out-Body b).parts.items → Decides None → Judges kind.Conj (Some (OfBody (see_body b))) r
    body-judged b are decided = body-by (see_body b) (body-disjs b ∙ disjs-of ds (out-Body b).parts.items are) decided

    pub conds-judged : (c : Conds) (stop : Option Verdict) → stop ≡ conds_stop version → ds ≡ (out-Conds c).parts.items → Decides stop → Judges kind.Conj (Some (OfConds (see_conds c))) r
    conds-judged c stop stop_is are decided = conds-by (see_conds c) (conds-disjs c ∙ disjs-of ds (out-Conds c).parts.items are) (subst Decides stop_is decided)

    pub file-judged : (loose : List Disj) → known.file.loose ≡ disj_list (map see_disj loose) → ds ≡ loose → Decides None → Judges kind.Conj (Some OfFile) r
    file-judged loose is are decided =
        subst (λ (xs : sx.Disjs). MatchBool r (FollowsConj known lines frame None xs cites verdict) (FollowsConj known lines frame None xs cites verdict → ⊥)) (sym (is ∙ disjs-of ds loose are)) decided

  -- ---- disjunctions, and single parts

  pub disj-judged : (d : sx.Disj) (stop : Option Verdict) (r : Bool) → stop ≡ disj_stop version
      → MatchBool r (FollowsDisj known lines frame stop d cites verdict) (FollowsDisj known lines frame stop d cites verdict → ⊥) → Judges kind.Disj (Some (OfDisj d)) r
  disj-judged d stop r is decided = subst (λ (s : Option Verdict). MatchBool r (FollowsDisj known lines frame s d cites verdict) (FollowsDisj known lines frame s d cites verdict → ⊥)) is decided

  pub part-judged : (of : LineKind) (part : sx.Part) (r : Bool)
      → MatchBool r (FollowsAtPart version known lines frame site of part cites verdict) (FollowsAtPart version known lines frame site of part cites verdict → ⊥) → Judges of (Some (OfPart part)) r
  part-judged kind.Rule part r decided = decided
  part-judged kind.Conj part r decided = decided
  part-judged kind.Disj part r decided = decided
  part-judged of part r decided = decided

  -- no line stands at no piece
  pub none-judged : (of : LineKind) → FollowsVerdict version known lines frame site of None cites verdict → ⊥
  none-judged kind.Rule h = h
  none-judged kind.Conj h = h
  none-judged kind.Disj h = h
  none-judged of h = h

  -- ---- no line of a kind stands at any other piece

  pub other-rule : (p : shape.Piece) → ((r : Bor Rule) → p ≡ code.Rule r → ⊥) → (p ≡ code.File → ⊥) → FollowsVerdict version known lines frame site kind.Rule (Some (see_piece p)) cites verdict → ⊥
  other-rule (code.Rule r) not_rule not_file h = not_rule r refl
  other-rule code.File not_rule not_file h = not_file refl
  other-rule p not_rule not_file h = h

  pub other-conj : (p : shape.Piece) → ((b : Bor Body) → p ≡ code.Body b → ⊥) → ((cs : Bor Conds) → p ≡ code.Conds cs → ⊥) → (p ≡ code.File → ⊥)
      → FollowsVerdict version known lines frame site kind.Conj (Some (see_piece p)) cites verdict → ⊥
  other-conj (code.Body b) not_body not_conds not_file h = not_body b refl
  other-conj (code.Conds cs) not_body not_conds not_file h = not_conds cs refl
  other-conj code.File not_body not_conds not_file h = not_file refl
  other-conj p not_body not_conds not_file h = h

  pub other-disj : (p : shape.Piece) → ((d : Bor Disj) → p ≡ code.Disj d → ⊥) → FollowsVerdict version known lines frame site kind.Disj (Some (see_piece p)) cites verdict → ⊥
  other-disj (code.Disj d) not_disj h = not_disj d refl
  other-disj p not_disj h = h

  pub other-part : (of : LineKind) (p : shape.Piece) → (of ≡ kind.Rule → ⊥) → (of ≡ kind.Conj → ⊥) → (of ≡ kind.Disj → ⊥) → ((x : Bor Part) → p ≡ code.Part x → ⊥)
      → FollowsVerdict version known lines frame site of (Some (see_piece p)) cites verdict → ⊥
  other-part kind.Rule p not_rule not_conj not_disj not_part h = not_rule refl
  other-part kind.Conj p not_rule not_conj not_disj not_part h = not_conj refl
  other-part kind.Disj p not_rule not_conj not_disj not_part h = not_disj refl
  other-part of (code.Part x) not_rule not_conj not_disj not_part h = not_part x refl
  other-part of p not_rule not_conj not_disj not_part h = h
