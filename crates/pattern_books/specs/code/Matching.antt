-- What a matcher finds, and what it writes with a template.
use Rattle.std.specs.Prelude.{ℕ, ◌≡◌, ◌<◌, List, Some, is_some, slice_get, slice_index}
use Rattle.regex.specs.Patterns.{find_str, find_all_str}
use Rattle.regex.specs.Strings.{matcher_pattern, IsWrittenBy}
use Rattle.regex.specs.declared.string.matcher.Matcher.{Matcher}
use Rattle.regex.specs.declared.string.template.Template.{Template}
use Rattle.rule_meaning.specs.PatternMatch.{finds}
use Rattle.rule_meaning.specs.Functions.{replaced_in}

-- in each text a matcher finds what the pattern of a text says
abbrev pub IsMatcherOf : List ℕ → Matcher → Type 0
IsMatcherOf text m = (hay : List ℕ) → ((k : ℕ) → slice_index hay k < 256) → is_some (find_str (matcher_pattern m) hay 0) ≡ finds text hay

-- a matcher finds what the pattern at a place in a book says
abbrev pub IsMatcherAt : List (List ℕ) → ℕ → Matcher → Type 0
IsMatcherAt book place m = (text : List ℕ) → slice_get book place ≡ Some text → IsMatcherOf text m

-- in each text they replace what the pattern of a text says by what the text of a template says
abbrev pub IsReplacerOf : (pattern template : List ℕ) → Matcher → Template → Type 0
IsReplacerOf pattern template m t = (hay out : List ℕ) → ((k : ℕ) → slice_index hay k < 256) → IsWrittenBy t hay (find_all_str (matcher_pattern m) hay) out → replaced_in pattern template hay ≡ Some out
