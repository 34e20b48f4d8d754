-- What is found at a site.
use Rattle.std.proofs.Common.{◌≡◌, ◌++◌, Some, Contains}
use Rattle.guard_syntax.specs.Syntax.{Body, File, Rule, body}
use Rattle.rule_names.specs.Pieces.{OfBody, OfRule, piece_at, pieces_body, pieces_disjs, pieces_lets, pieces_opt_conds, AreInOrder}
use Rattle.rule_names.specs.code.Within.{StandsIn}
use Rattle.evidence_rules.specs.CitedLines.{body_site}
use Rattle.evidence_lookups.proofs.OwnersStand.{rule-stands}
use Rattle.rule_names.proofs.PiecesFound.{piece-found}

pub body-found : (f : File) (b : Body) → AreInOrder f → StandsIn f (pieces_body b) → piece_at f (body_site b) ≡ Some (OfBody b)
body-found f (body n ls ds) order there = piece-found f n (OfBody (body n ls ds)) (pieces_lets ls ++ pieces_disjs ds) order there

pub rule-found : (f : File) (r : Rule) → AreInOrder f → Contains f.rules r → piece_at f r.site ≡ Some (OfRule r)
rule-found f r order has = piece-found f r.site (OfRule r) (pieces_opt_conds r.cond ++ pieces_body r.body) order (rule-stands f r has)
