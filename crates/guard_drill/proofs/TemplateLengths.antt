-- How long the template of a drill can be. By the length of each resource.
use Rattle.std.proofs.Common.{◌≤◌, ◌<◌, ◌+◌, ◌*◌, ◌++◌, ◌%◌, ℕ, zero, suc, Bool, true, false, List, length, arith, if◌then◌else◌}
use Rattle.std.specs.Prelude.{codes, decimal, nat_eq}
use Rattle.std.proofs.lemmas.Fmt.{length-decimal-le}
use Rattle.std.proofs.lemmas.List.{length-append}
use Rattle.guard_drill.specs.DrillTexts.{resource, resources, separator, template_text, type_letter}

letter-short : (i : ℕ) → length (type_letter i) ≤ 1
letter-short i = by_test (nat_eq (i % 2) 0)
  where
    by_test : (b : Bool) → length (if b then codes "A" else codes "B") ≤ 1
    by_test true = omega arith
    by_test false = omega arith

separator-short : (i : ℕ) → length (separator i) ≤ 1
separator-short zero = omega arith
separator-short (suc i) = omega arith

-- texts behind each other
three : (a b c : List ℕ) (l m n : ℕ) → length a ≤ l → length b ≤ m → length c ≤ n → length (a ++ (b ++ c)) ≤ l + (m + n)
three a b c l m n x y z = omega (arith, length-append a (b ++ c), length-append b c)

resource-short : (i : ℕ) → i < 100000 → length (resource i) ≤ 45
resource-short i low =
    let digits : length (decimal i) ≤ 5 = length-decimal-le 5 i (omega arith) (omega arith) (omega arith) in
    let digit : length (decimal (i % 7)) ≤ 1 = length-decimal-le 1 (i % 7) (omega arith) (omega arith) (omega arith) in
    let last = three (codes "\",\"Properties\":{\"N\":") (decimal (i % 7)) (codes "}}") 20 1 2 (omega arith) digit (omega arith) in
    let middle = three (codes "\":{\"Type\":\"T::") (type_letter i) (codes "\",\"Properties\":{\"N\":" ++ (decimal (i % 7) ++ codes "}}")) 14 1 (20 + (1 + 2))
    (omega arith) (letter-short i) last in
    let whole = three (codes "\"R") (decimal i) (codes "\":{\"Type\":\"T::" ++ (type_letter i ++ (codes "\",\"Properties\":{\"N\":" ++ (decimal (i % 7) ++ codes "}}"))))
    2 5 (14 + (1 + (20 + (1 + 2)))) (omega arith) digits middle in
    whole

resources-short : (n : ℕ) → n ≤ 100000 → length (resources n) ≤ n * 46
resources-short zero low = omega arith
resources-short (suc n) low =
    omega (arith, three (resources n) (separator n) (resource n) (n * 46) 1 45 (resources-short n (omega arith)) (separator-short n) (resource-short n (omega arith)))

-- a template of 100,000 resources has less than 5 MB
pub template-short : (count : ℕ) → count ≤ 100000 → length (template_text count) ≤ 5000000
template-short count low =
    omega (arith, three (codes "{\"Resources\":{") (resources count) (codes "}}") 14 (count * 46) 2 (omega arith) (resources-short count low) (omega arith))
