-- The rules of a drill are well named: no name is given twice or used wrongly, none reaches itself, and no item is too deep. By
-- computing, with the table of Depths after two rounds, which a third leaves as it is.
use Rattle.std.proofs.Common.{◌≡◌, ℕ, List, [], ◌∷◌, ◌++◌, true, IsNone, arith, refl, ap, ◌∙◌, subst}
use Rattle.std.specs.Prelude.{replicate, slice_index_or}
use Rattle.rule_names.specs.Cycles.{IsAcyclic}
use Rattle.rule_names.specs.Deep.{deep_disjs, deep_fault, deep_items, default_limit}
use Rattle.rule_names.specs.Depths.{deepened, depths_of}
use Rattle.rule_names.specs.Faults.{first_of, or_else}
use Rattle.rule_names.specs.ReferenceGraph.{graph_of}
use Rattle.rule_names.specs.WellNamed.{WellNamed, single_fault}
use Rattle.rule_names.proofs.Settled.{stopped}
use Rattle.guard_laws.proofs.DrillRules.{drill-file}
use Rattle.guard_laws.proofs.RankedGraphs.{is-ranked, none-on-cycle}

singles : IsNone (single_fault drill-file)
singles = refl

-- ---- what reaches what

-- the ranks of the nodes: of the 49 parts by their sites, then of the three rules, and of the variable
abbrev ranks : List ℕ
ranks =
    (0 ∷ 0 ∷ 6 ∷ 0 ∷ 1 ∷ 5 ∷ 4 ∷ 3 ∷ 2 ∷ 1 ∷ 0 ∷ 0 ∷ 0 ∷ 12 ∷ 11 ∷ 10 ∷ 9 ∷ 8 ∷ 14 ∷ 13 ∷ 12 ∷ 11 ∷ 8 ∷ 9 ∷ 10 ∷ 0 ∷
    0 ∷ 8 ∷ 7 ∷ 6 ∷ 2 ∷ 0 ∷ 1 ∷ 5 ∷ 4 ∷ 3 ∷ 2 ∷ 0 ∷ 1 ∷ 0 ∷ 0 ∷ 14 ∷ 13 ∷ 12 ∷ 11 ∷ 8 ∷ 9 ∷ 10 ∷ 0 ∷ [])
    ++ (replicate 12 0 ++ (15 ∷ (replicate 13 0 ++ (9 ∷ (replicate 13 0 ++ (15 ∷ (replicate 9 0 ++ (7 ∷ []))))))))

abbrev rank : ℕ → ℕ
rank node = slice_index_or ranks node 0

ranked : is-ranked rank 0 (graph_of drill-file) ≡ true
ranked = refl

cycles : IsAcyclic drill-file
cycles = none-on-cycle rank (graph_of drill-file) ranked 49 147

-- ---- Depths

abbrev none-followed : List ℕ
none-followed = replicate 49 0

-- where names are followed once, and twice
abbrev once : List ℕ
once =
    0 ∷ 0 ∷ 3 ∷ 1 ∷ 1 ∷ 3 ∷ 0 ∷ 0 ∷ 0 ∷ 1 ∷ 1 ∷ 1 ∷ 4 ∷ 0 ∷ 0 ∷ 0 ∷ 2 ∷ 2 ∷ 0 ∷ 0 ∷ 0 ∷ 2 ∷ 2 ∷ 2 ∷ 2 ∷ 1 ∷ 4 ∷ 0 ∷
    0 ∷ 0 ∷ 1 ∷ 1 ∷ 1 ∷ 0 ∷ 0 ∷ 0 ∷ 1 ∷ 1 ∷ 1 ∷ 1 ∷ 4 ∷ 0 ∷ 0 ∷ 0 ∷ 2 ∷ 2 ∷ 2 ∷ 2 ∷ 1 ∷ []

abbrev twice : List ℕ
twice =
    0 ∷ 0 ∷ 3 ∷ 1 ∷ 1 ∷ 3 ∷ 0 ∷ 0 ∷ 0 ∷ 1 ∷ 1 ∷ 1 ∷ 7 ∷ 0 ∷ 0 ∷ 0 ∷ 5 ∷ 5 ∷ 0 ∷ 0 ∷ 0 ∷ 5 ∷ 5 ∷ 5 ∷ 5 ∷ 1 ∷ 4 ∷ 0 ∷
    0 ∷ 0 ∷ 1 ∷ 1 ∷ 1 ∷ 0 ∷ 0 ∷ 0 ∷ 1 ∷ 1 ∷ 1 ∷ 1 ∷ 7 ∷ 0 ∷ 0 ∷ 0 ∷ 5 ∷ 5 ∷ 5 ∷ 5 ∷ 1 ∷ []

first-round : once ≡ deepened drill-file none-followed
first-round = refl

second-round : twice ≡ deepened drill-file once
second-round = refl

third-round : twice ≡ deepened drill-file twice
third-round = refl

settled : twice ≡ depths_of drill-file
settled = stopped drill-file 2 twice twice (omega arith) (second-round ∙ ap (deepened drill-file) first-round) third-round refl

deep-none : IsNone (or_else (first_of (deep_items drill-file twice)) (first_of (deep_disjs drill-file twice default_limit drill-file.loose)))
deep-none = refl

shallow : IsNone (deep_fault drill-file)
shallow =
    subst (λ (depths : List ℕ). IsNone (or_else (first_of (deep_items drill-file depths)) (first_of (deep_disjs drill-file depths default_limit drill-file.loose)))) settled deep-none

pub well-named : WellNamed drill-file
well-named = record { singles = singles; cycles = cycles; shallow = shallow }
