-- The template of a drill: resources of two types in turn, each with a number from 0 to 6.
use Rattle.std.specs.Prelude.{ℕ, zero, suc, ◌%◌, List, [], ◌++◌, codes, decimal, nat_eq, if◌then◌else◌}

-- type A where the number of the resource is even, else B
abbrev pub type_letter : ℕ → List ℕ
type_letter i = if nat_eq (i % 2) 0 then codes "A" else codes "B"

-- `"R<i>":{"Type":"T::<A or B>","Properties":{"N":<i mod 7>}}`
abbrev pub resource : ℕ → List ℕ
resource i =
    codes "\"R" ++ (decimal i ++ (codes "\":{\"Type\":\"T::" ++ (type_letter i ++ (codes "\",\"Properties\":{\"N\":" ++ (decimal (i % 7) ++ codes "}}")))))

-- a comma before each but the first
abbrev pub separator : ℕ → List ℕ
separator zero = []
separator (suc n) = codes ","

-- the resources of the numbers below a count
abbrev pub resources : ℕ → List ℕ
resources zero = []
resources (suc n) = resources n ++ (separator n ++ resource n)

abbrev pub template_text : ℕ → List ℕ
template_text count = codes "{\"Resources\":{" ++ (resources count ++ codes "}}")
