-- What is known behind lines that follow, a line at a time.
use Rattle.std.proofs.Common.{◌≡◌, sym, ap, ◌∙◌, subst, append_assoc, List, [], ◌∷◌, ◌++◌}
use Rattle.std.proofs.lemmas.List.{append-nil}
use Rattle.evidence_lines.specs.declared.line.Line.{Line}
use Rattle.evidence_lines.specs.declared.version.Version.{Version}
use Rattle.rule_meaning.specs.StoreModel.{StoreModel, Made}
use Rattle.evidence_rules.specs.Follows.{AllFollow, Follows}
use Rattle.rule_meaning.specs.Seeing.{grown}
use Rattle.evidence_checker.specs.code.Judging.{IsKnownBehind, Leads}

-- at the start
pub behind-none : (version : Version) (start : StoreModel) → IsKnownBehind version start [] start
behind-none version start = ((λ rest follow. follow), (λ rest follow. follow))

module _ (version : Version) (start : StoreModel) (lines : List Line) (known : StoreModel) (behind : IsKnownBehind version start lines known) where
  -- the lines follow
  pub all-follow : AllFollow version start [] lines
  all-follow = subst (AllFollow version start []) (append-nil lines) (behind.1 [] tt)

  -- a line that follows leads on
  pub behind-more : (line : Line) (after : StoreModel) → Leads (Follows version known lines line) known after → IsKnownBehind version start (lines ++ line ∷ []) after
  behind-more line after leads = (there, back)
    where
      joined : (rest : List Line) → (lines ++ line ∷ []) ++ rest ≡ lines ++ line ∷ rest
      joined rest = append_assoc lines (line ∷ []) rest

      there : (rest : List Line) → AllFollow version start [] ((lines ++ line ∷ []) ++ rest) → AllFollow version after (lines ++ line ∷ []) rest
      there rest follow =
          let next = behind.0 (line ∷ rest) (subst (AllFollow version start []) (joined rest) follow) in
          subst (λ (k : StoreModel). AllFollow version k (lines ++ line ∷ []) rest) (ap (grown known) (leads.3 next.0 next.1) ∙ sym leads.2) next.2

      back : (rest : List Line) → AllFollow version after (lines ++ line ∷ []) rest → AllFollow version start [] ((lines ++ line ∷ []) ++ rest)
      back rest follow =
          subst (AllFollow version start []) (sym (joined rest))
          (behind.1 (line ∷ rest) (leads.0, leads.1, subst (λ (k : StoreModel). AllFollow version k (lines ++ line ∷ []) rest) leads.2 follow))

  -- behind one that does not, there are no lines that follow
  pub stuck : (line : Line) → ((more : List Made) → Follows version known lines line more → ⊥) → AllFollow version start [] (lines ++ line ∷ []) → ⊥
  stuck line never follow = let next = behind.0 (line ∷ []) follow in never next.0 next.1
