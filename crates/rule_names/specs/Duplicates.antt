-- Names that are given twice.
use Rattle.std.specs.Prelude.{ℕ, Bool, List, [], ◌∷◌, ◌++◌, map, if◌then◌else◌}
use Rattle.std.specs.List.{list_any, flat_map}
use Rattle.std.specs.Str.{bytes_eq}
use Rattle.guard_syntax.specs.Named.{Named}
use Rattle.guard_syntax.specs.Syntax.{Rule, File}
use Rattle.rule_names.specs.declared.name_kind.NameKind.{NameKind}
use Rattle.rule_names.specs.declared.name_kind.NameKind.TheVariants.{DuplicateRule, DuplicateName}
use Rattle.rule_names.specs.Faults.{Fault}
use Rattle.rule_names.specs.Scopes.{scopes_file}

-- one of the names is this
abbrev pub is_among : List ℕ → List (List ℕ) → Bool
is_among name names = list_any (λ other. bytes_eq name other) names

-- the names that were given before: that are one of these, or of those before them
abbrev pub given_again : List (List ℕ) → List Named → List Named
given_again names [] = []
given_again names (x ∷ xs) = if is_among x.text names then x ∷ given_again (x.text ∷ names) xs else given_again (x.text ∷ names) xs

abbrev pub fault_of : NameKind → Named → Fault
fault_of kind name = record { kind = kind; named = name }

abbrev pub rule_names : List Rule → List Named
rule_names rules = map (λ (r : Rule). r.name) rules

-- a rule has the name of an earlier one
abbrev pub duplicate_rules : File → List Fault
duplicate_rules f = map (fault_of DuplicateRule) (given_again [] (rule_names f.rules))

-- a let, a capture or a parameter of one of these scopes has a name that its scope has already
abbrev pub duplicated : List (List Named) → List Fault
duplicated scopes = map (fault_of DuplicateName) (flat_map (given_again []) scopes)

-- and of the scopes of a file
abbrev pub duplicate_names : File → List Fault
duplicate_names f = duplicated (scopes_file f)

abbrev pub duplicates : File → List Fault
duplicates f = duplicate_rules f ++ duplicate_names f
