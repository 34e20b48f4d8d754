-- What stands at the site of a body, of conditions or of the file is a conjunction there.
use Rattle.std.proofs.Common.{◌≡◌, ℕ, refl, sym, ◌∙◌, subst, List, map, Some, None, Bor}
use Rattle.std.proofs.lemmas.Option.{same_Some}
use Rattle.evidence_lines.specs.declared.line.LineKind.TheVariants as kind
use Rattle.guard_syntax.specs.Syntax as sx
use Rattle.guard_syntax.specs.code.Seen.{disj_list, see_body, see_conds, see_disj}
use Rattle.guard_syntax.specs.declared.row.Verdict.TheVariants.{Fail}
use Rattle.guard_syntax.specs.declared.syntax.Body.{Body, out-Body}
use Rattle.guard_syntax.specs.declared.syntax.Conds.{Conds, out-Conds}
use Rattle.guard_syntax.specs.declared.syntax.Disj.{Disj}
use Rattle.rule_names.specs.Pieces.{OfBody, OfConds, OfFile, Piece, piece_at}
use Rattle.rule_names.specs.code.Seen.{see_piece}
use Rattle.rule_names.specs.declared.piece.Piece as shape
use Rattle.rule_names.specs.declared.piece.Piece.TheVariants as seen
use Rattle.rule_names.proofs.Shapes.{body-seen, conds-seen}
use Rattle.evidence_rules.specs.Follows.{home_for}
use Rattle.engine_states.specs.code.Answers.{HasDisjs, IsConjoined, IsConjunction, IsConjunctionAt, StandsWithin}
use Rattle.engine_states.specs.code.States.{State}

module _ (s : State) (frame site : ℕ) (at : IsConjunctionAt s frame site) where
  there : (piece : Piece) → piece_at s.known.file site ≡ Some piece → StandsWithin s frame (home_for s.known.file kind.Conj site) (site, piece)
  there piece is = subst (λ (p : Piece). StandsWithin s frame (home_for s.known.file kind.Conj site) (site, p)) (same_Some at.0 piece (sym at.1.there ∙ is)) at.1

  pub body-conjoined : (b : Body) (ds : List Disj) → piece_at s.known.file site ≡ Some (OfBody (see_body b)) → ds ≡ (out-Body b).parts.items → IsConjunction s frame site (disj_list (map see_disj ds)) None
  body-conjoined b ds is are = (
    OfBody (see_body b),
    there (OfBody (see_body b)) is,
    subst (λ (xs : List Disj). HasDisjs s.known.file (OfBody (see_body b)) (disj_list (map see_disj xs)) None) (sym are)
        (subst (λ (x : sx.Body). HasDisjs s.known.file (OfBody x) (disj_list (map see_disj (out-Body b).parts.items)) None) (sym (body-seen b)) (refl, refl)),
  )

  pub conds-conjoined : (c : Conds) (ds : List Disj) → piece_at s.known.file site ≡ Some (OfConds (see_conds c)) → ds ≡ (out-Conds c).parts.items
      → IsConjunction s frame site (disj_list (map see_disj ds)) (Some Fail)
  conds-conjoined c ds is are = (
    OfConds (see_conds c),
    there (OfConds (see_conds c)) is,
    subst (λ (xs : List Disj). HasDisjs s.known.file (OfConds (see_conds c)) (disj_list (map see_disj xs)) (Some Fail)) (sym are)
        (subst (λ (x : sx.Conds). HasDisjs s.known.file (OfConds x) (disj_list (map see_disj (out-Conds c).parts.items)) (Some Fail)) (sym (conds-seen c)) (refl, refl)),
  )

  pub file-conjoined : (ds : List Disj) → piece_at s.known.file site ≡ Some OfFile → disj_list (map see_disj ds) ≡ s.known.file.loose → IsConjunction s frame site (disj_list (map see_disj ds)) None
  file-conjoined ds is are = (OfFile, there OfFile is, (sym are, refl))

  -- nothing else is one
  pub only-conjoined : (p : shape.Piece) → piece_at s.known.file site ≡ Some (see_piece p) → (p ≡ seen.File → ⊥) → ((b : Bor Body) → p ≡ seen.Body b → ⊥) → ((c : Bor Conds) → p ≡ seen.Conds c → ⊥) → ⊥
  only-conjoined p is no_file no_body no_conds = by p (subst IsConjoined (same_Some at.0 (see_piece p) (sym at.1.there ∙ is)) at.2) no_file no_body no_conds
    where
      by : (x : shape.Piece) → IsConjoined (see_piece x) → (x ≡ seen.File → ⊥) → ((b : Bor Body) → x ≡ seen.Body b → ⊥) → ((c : Bor Conds) → x ≡ seen.Conds c → ⊥) → ⊥
      by seen.File h no_file no_body no_conds = no_file refl
      by (seen.Body b) h no_file no_body no_conds = no_body b refl
      by (seen.Conds c) h no_file no_body no_conds = no_conds c refl
      by (seen.Let l) h no_file no_body no_conds = h
      by (seen.Rule r) h no_file no_body no_conds = h
      by (seen.Disj d) h no_file no_body no_conds = h
      by (seen.Part x) h no_file no_body no_conds = h
      by (seen.Query q) h no_file no_body no_conds = h
      by (seen.Step q i) h no_file no_body no_conds = h
      by (seen.Expr e) h no_file no_body no_conds = h
