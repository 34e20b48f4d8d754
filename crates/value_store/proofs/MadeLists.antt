-- Made trees as the map that keeps them has them.
use Rattle.std.proofs.Common.{◌≡◌, ℕ, zero, suc, ◌<◌, Bool, false, cond, List, [], ◌∷◌, ◌++◌, length, map, Option, Some, None, refl, sym, ap, subst, ◌∙◌, arith, Bor}
use Rattle.std.specs.Prelude.{◌==◌, ◌&&◌, All, MatchOption, IfSome}
use Rattle.std.specs.List.{IsAmong}
use Rattle.std.specs.Map.{lookup, values_of}
use Rattle.std.specs.Option.{option_copied}
use Rattle.std.proofs.lemmas.Bool.Decides.{nat_tests}
use Rattle.std.proofs.lemmas.List.{get_or-map, length-map, map-append}
use Rattle.std.proofs.lemmas.List.Elements.{All-append}
use Rattle.doc_values.specs.Tree.{Forest}
use Rattle.rule_meaning.specs.StoreModel.{Made, made_at}
use Rattle.rule_meaning.specs.Values.{has_pattern}
use Rattle.value_store.specs.declared.made.Place.{Place}

abbrev pub made_of : Place × Forest → Made
made_of p = record { line = p.0.line; row = p.0.row; tree = p.1 }

-- a line and a row are those of a place
pub same_place : (line row : ℕ) (p : Place) → (line == p.line && row == p.row) ≡ (p.line == line && p.row == row)
same_place line row p = grind (arith, nat_tests)

pub found_at : (test : Place → Bool) (es : List (Place × Forest)) (line row : ℕ) → ((p : Place) → test p ≡ (p.line == line && p.row == row)) → made_at (map made_of es) line row ≡ lookup test es
found_at test [] line row same = refl
found_at test (e ∷ es) line row same =
    ap (λ b. cond b (Some e.1) (made_at (map made_of es) line row)) (sym (same e.0)) ∙ ap (λ o. cond (test e.0) (Some e.1) o) (found_at test es line row same)

-- what stands in the map has no pattern
pub plain_among : (es : List (Place × Forest)) (tree : Forest) → All (λ p. has_pattern p.1 ≡ false) es → IsAmong (values_of es) tree → has_pattern tree ≡ false
plain_among es tree plain among =
    let e = length-map es (λ (p : Place × Forest). p.1) in let w = among.1.0 in
    let within : among.0 < length es = omega arith in
    ap has_pattern (among.1.1 ∙ get_or-map (λ (p : Place × Forest). p.1) es among.0 (record { line = 0; row = 0 }, tree) tree within) ∙ plain among.0 (record { line = 0; row = 0 }, tree) within

pub from_copied : (o : Option (Bor Forest)) (m : Option Forest) → option_copied o ≡ m → MatchOption o (m ≡ None) (λ t. m ≡ Some t.now)
from_copied None m e = sym e
from_copied (Some t) m e = sym e

pub plain_some : (es : List (Place × Forest)) (o : Option (Bor Forest)) → All (λ p. has_pattern p.1 ≡ false) es → IfSome o (λ t. IsAmong (values_of es) t.now) → IfSome o (λ t. has_pattern t.now ≡ false)
plain_some es None plain among = tt
plain_some es (Some t) plain among = plain_among es t.now plain among

-- a tree more, at a line and a row that have none
pub plain_more : (es new : List (Place × Forest)) (p : Place) (tree : Forest) → new ≡ es ++ (p, tree) ∷ [] → All (λ p. has_pattern p.1 ≡ false) es → has_pattern tree ≡ false → All (λ p. has_pattern p.1 ≡ false) new
plain_more es new p tree e before plain = subst (All (λ (p : Place × Forest). has_pattern p.1 ≡ false)) (sym e) (All-append (λ (p : Place × Forest). has_pattern p.1 ≡ false) es ((p, tree) ∷ []) before (All-one p tree plain))
  where
    All-one : (p : Place) (tree : Forest) → has_pattern tree ≡ false → All (λ (p : Place × Forest). has_pattern p.1 ≡ false) ((p, tree) ∷ [])
    All-one p tree plain zero d h = plain
    All-one p tree plain (suc k) d h = absurd (omega arith)

pub made_more : (es new : List (Place × Forest)) (p : Place) (tree : Forest) → new ≡ es ++ (p, tree) ∷ [] → map made_of new ≡ map made_of es ++ made_of (p, tree) ∷ []
made_more es new p tree e = ap (map made_of) e ∙ map-append made_of es ((p, tree) ∷ [])
