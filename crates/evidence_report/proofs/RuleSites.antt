-- The sites of the rules of a file, and that of the file itself, are among its sites: by induction on the list of rules.
use Rattle.std.proofs.Common.{◌≡◌, ◌<◌, ℕ, zero, suc, List, [], ◌∷◌, ◌++◌, length, get_or, subst, arith}
use Rattle.std.specs.Prelude.{Contains}
use Rattle.guard_syntax.specs.Syntax as sx
use Rattle.rule_names.specs.Pieces.{AreInOrder, OfFile, OfRule, pieces_body, pieces_disjs, pieces_file, pieces_lets, pieces_opt_conds, pieces_rule, pieces_rules}
use Rattle.rule_names.specs.code.Within.{IsAmong, StandsIn}
use Rattle.rule_names.proofs.Among.{IsAmong-behind, IsAmong-first, IsAmong-inner, IsAmong-last}
use Rattle.rule_names.proofs.PiecesFound.{piece-found}
use Rattle.rule_names.proofs.PiecesStand.{IsAmong-whole}
use Rattle.evidence_lookups.proofs.SitesWithin.{site-within}

rule-among : (rs : List sx.Rule) (k : ℕ) (r : sx.Rule) → k < length rs → get_or rs k r ≡ r → IsAmong (pieces_rule r) (pieces_rules rs)
rule-among [] k r within is = absurd (omega (arith, within))
rule-among (q ∷ rs) zero r within is = subst (λ (x : sx.Rule). IsAmong (pieces_rule x) (pieces_rule q ++ pieces_rules rs)) is (IsAmong-first (pieces_rule q) (pieces_rules rs))
rule-among (q ∷ rs) (suc k) r within is =
    IsAmong-inner (pieces_rule r) (pieces_rules rs) (pieces_rule q ++ pieces_rules rs) (rule-among rs k r (omega (arith, within)) is) (IsAmong-last (pieces_rule q) (pieces_rules rs))

pub rule-within : (f : sx.File) → AreInOrder f → (r : sx.Rule) → Contains f.rules r → r.site < length f.places
rule-within f order r (k, within, is) =
    let some = pieces_rule r in
    let lets = pieces_lets f.lets in
    let rules = pieces_rules f.rules in
    let loose = pieces_disjs f.loose in
    let stands : StandsIn f some =
    IsAmong-behind (0, OfFile) some (lets ++ (rules ++ loose))
    (IsAmong-inner some (rules ++ loose) (lets ++ (rules ++ loose)) (IsAmong-inner some rules (rules ++ loose) (rule-among f.rules k r within is) (IsAmong-first rules loose)) (IsAmong-last lets (rules ++ loose))) in
    site-within f r.site (OfRule r) order (piece-found f r.site (OfRule r) (pieces_opt_conds r.cond ++ pieces_body r.body) order stands)

pub file-within : (f : sx.File) → AreInOrder f → 0 < length f.places
file-within f order =
    site-within f 0 OfFile order
    (piece-found f 0 OfFile (pieces_lets f.lets ++ (pieces_rules f.rules ++ pieces_disjs f.loose)) order (IsAmong-whole (pieces_file f)))
