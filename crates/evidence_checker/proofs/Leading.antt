-- What a line makes known: of lines that make nothing known, by the answer, and of two that hold of the same trees.
use Rattle.std.proofs.Common.{◌≡◌, Bool, true, false, ap, sym, subst, ◌∙◌, List, [], MatchBool, MatchOption, Option, Some, None, Vec, Global}
use Rattle.std.specs.List.{list_all}
use Rattle.std.proofs.lemmas.Bool.{true≢false}
use Rattle.evidence_lines.specs.declared.line.Line.{Line}
use Rattle.guard_builtins.specs.code.Seen.{is_plain}
use Rattle.guard_builtins.specs.declared.made.Made as types
use Rattle.rule_meaning.specs.StoreModel.{StoreModel, Made}
use Rattle.rule_meaning.specs.Seeing.{grown}
use Rattle.evidence_rows.specs.code.Makes.{IsMade, Makes, trees_of}
use Rattle.evidence_rows.proofs.KeptTrees.{grown-nothing}

module _ (known : StoreModel) (lines : List Line) (Holds : List Made → Type 0) (Then : StoreModel → Type 0) where
  -- where it is told whether a line follows, and it makes nothing known
  pub nothing-made : (b : Bool) (found : Option (Vec types.Made Global)) → MatchOption found (b ≡ false) (λ answer. (b ≡ true) × (answer.items ≡ []))
      → ((other : List Made) → Holds other → other ≡ []) → MatchBool b (Holds []) ((more : List Made) → Holds more → ⊥) → (b ≡ true → Then known) → IsMade known lines Holds Then found
  nothing-made true None is only holds so = absurd (true≢false is)
  nothing-made false None is only never so = never
  nothing-made true (Some answer) is only holds so =
      let none : trees_of lines answer.items ≡ [] = ap (trees_of lines) is.1 in
      record {
        holds = subst Holds (sym none) holds;
        only = λ other h. only other h ∙ sym none;
        so = subst Then (sym (ap (grown known) none ∙ grown-nothing known)) (so is.0);
        plain = ap (list_all is_plain) is.1;
      }
  nothing-made false (Some answer) is only never so = absurd (true≢false (sym is.0))

  -- by the answer
  pub made-of : (found : Option (Vec types.Made Global)) (answer : Vec types.Made Global) → found ≡ Some answer → IsMade known lines Holds Then found → Makes known lines Holds Then answer.items
  made-of found answer is made = subst (IsMade known lines Holds Then) is made

  pub none-made : (found : Option (Vec types.Made Global)) → found ≡ None → IsMade known lines Holds Then found → (more : List Made) → Holds more → ⊥
  none-made found none made = subst (IsMade known lines Holds Then) none made

-- what holds of the same trees makes the same known
module _ (known : StoreModel) (lines : List Line) (Holds Other : List Made → Type 0) (Then Next : StoreModel → Type 0)
    (there : (more : List Made) → Holds more → Other more) (back : (more : List Made) → Other more → Holds more)
    (so : (more : List Made) → Holds more → Then (grown known more) → Next (grown known more)) where
  pub made-alike : (found : Option (Vec types.Made Global)) → IsMade known lines Holds Then found → IsMade known lines Other Next found
  made-alike None never = λ more h. never more (back more h)
  made-alike (Some answer) made = record {
    holds = there (trees_of lines answer.items) made.holds;
    only = λ other h. made.only other (back other h);
    so = so (trees_of lines answer.items) made.holds made.so;
    plain = made.plain;
  }
