-- A site behind the places of a file is of no part; and whether a scope is the home of a site.
use Rattle.std.proofs.Common.{◌≡◌, ◌≢◌, ℕ, suc, zero, ◌+◌, ◌≤◌, ◌<◌, Bool, true, false, cond, refl, ap, sym, ◌∙◌, arith, length, MatchBool, Option, Some, None}
use Rattle.std.specs.Prelude.{◌==◌}
use Rattle.std.proofs.lemmas.Bool.Decides.{nat_tests}
use Rattle.std.proofs.lemmas.Option.{same_Some}
use Rattle.guard_syntax.specs.code.Seen.{see_file}
use Rattle.guard_syntax.specs.Sites.{upto}
use Rattle.guard_syntax.specs.declared.syntax.RawFile.{RawFile}
use Rattle.rule_names.specs.Pieces.{AreInOrder, piece_at, pieces_file}
use Rattle.rule_names.proofs.FileParts.{file_tied}
use Rattle.rule_names.proofs.Parts.{no-hit}
use Rattle.rule_names.proofs.Increases.{times}

not-first : (i n k : ℕ) → n < i → k ≡ 0 → cond (n == i) 1 0 + k ≡ 0
not-first i n k less none = grind (arith, nat_tests)

past-upto : (i n k : ℕ) → n + k ≤ i → times i (upto n k) ≡ 0
past-upto i n zero past = refl
past-upto i n (suc k) past = not-first i n (times i (upto (suc n) k)) (omega arith) (past-upto i (suc n) k (omega arith))

pub placed-nowhere : (f : RawFile) (n : ℕ) → AreInOrder (see_file f) → length f.places ≤ n → piece_at (see_file f) n ≡ None
placed-nowhere f n h past =
    no-hit n (pieces_file (see_file f)) ((file_tied f.rules.items f.loose.items f.lets.items).same n ∙ ap (times n) h ∙ past-upto n 0 (length f.places) (omega arith))

-- a scope is a home where the two are the same
pub at-home : (o : Option ℕ) (scope home due : ℕ) (Within : Type 0) → Within → Some scope ≡ o → home ≡ due → MatchBool (scope == home) (Within × (o ≡ Some due)) (Within → o ≡ Some due → ⊥)
at-home o scope home due Within within there is = by (scope == home) refl
  where
    by : (b : Bool) → (scope == home) ≡ b → MatchBool b (Within × (o ≡ Some due)) (Within → o ≡ Some due → ⊥)
    by true same = let e : scope ≡ home = grind (arith, nat_tests, same) in (within, sym there ∙ ap Some (e ∙ is))
    by false apart = λ w also.
        let e : scope ≡ due = same_Some scope due (there ∙ also) in
        let ne : scope ≢ home = grind (arith, nat_tests, apart) in
        ne (e ∙ sym is)
