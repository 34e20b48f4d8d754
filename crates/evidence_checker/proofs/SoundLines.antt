-- Lines whose values are known stay so where more is known, and the root is known.
use Rattle.std.proofs.Common.{◌≡◌, ◌<◌, nat_lt, true, refl, sym, subst, arith, List, [], ◌∷◌, ◌++◌}
use Rattle.std.specs.List.{list_all}
use Rattle.std.proofs.lemmas.Bool.{and_from, and_parts}
use Rattle.std.proofs.lemmas.Bool.Decides.{nat_tests}
use Rattle.doc_values.specs.Tree.{size}
use Rattle.std.proofs.lemmas.List.Elements.{All-push, All-weaker}
use Rattle.evidence_lines.specs.declared.line.Line.{Line}
use Rattle.evidence_lines.specs.declared.line.Outcome.{Outcome}
use Rattle.evidence_lines.specs.declared.line.Outcome.TheVariants as says
use Rattle.guard_syntax.specs.declared.row.Row.{Row}
use Rattle.rule_meaning.specs.StoreModel.{StoreModel, Made, is_known, is_known_ref}
use Rattle.rule_meaning.specs.Roots.{root_ref}
use Rattle.rule_meaning.specs.Seeing.{grown}
use Rattle.query_steps.proofs.SeenGrowth.{known-before, row-known-before}
use Rattle.evidence_lookups.specs.code.Said.{AreSound, IsSound, is_known_outcome}

rows-on : (known : StoreModel) (more : List Made) (rows : List Row) → list_all (is_known known) rows ≡ true → list_all (is_known (grown known more)) rows ≡ true
rows-on known more [] all = refl
rows-on known more (r ∷ rows) all =
    let both = and_parts (is_known known r) (list_all (is_known known) rows) all in
    and_from _ _ (row-known-before known more r both.0) (rows-on known more rows both.1)

outcome-on : (known : StoreModel) (more : List Made) (outcome : Outcome) → is_known_outcome known outcome ≡ true → is_known_outcome (grown known more) outcome ≡ true
outcome-on known more (says.Value v) is = known-before known more v is
outcome-on known more (says.Rows rows) is = rows-on known more rows is
outcome-on known more (says.Verdict verdict) is = refl

sound-on : (known : StoreModel) (more : List Made) (line : Line) → IsSound known line → IsSound (grown known more) line
sound-on known more line sound = record { known_is = outcome-on known more line.outcome sound.known_is; literal_is = sound.literal_is }

-- lines before, where more is known, and one line behind them
pub sound-behind : (known after : StoreModel) (more : List Made) (lines : List Line) (line : Line) → after ≡ grown known more → AreSound known lines → IsSound after line → AreSound after (lines ++ line ∷ [])
sound-behind known after more lines line grows sound new =
    All-push (IsSound after) lines line
    (subst (λ (k : StoreModel). AreSound k lines) (sym grows) (All-weaker (IsSound known) (IsSound (grown known more)) (sound-on known more) lines sound)) new

-- the root of a template that has one
pub root-known : (known : StoreModel) → 0 < size known.template → is_known_ref known root_ref ≡ true
root-known known some =
    let there : nat_lt 0 (size known.template) ≡ true = grind (arith, nat_tests) in
    rw (there) refl
