-- The names of the built-in functions.
use Rattle.std.specs.Prelude.{◌≡◌, ℕ, List, Option, Some, None, codes}
use Rattle.guard_syntax.specs.declared.function.Function.{Function}
use Rattle.guard_syntax.specs.declared.function.Function.TheVariants.{Count, JsonParse, RegexReplace, Join, ToLower, ToUpper, Substring, UrlDecode, ParseInt, ParseFloat, ParseBoolean, ParseString}

-- the name of each function
abbrev pub name_of : Function → List ℕ
name_of Count = codes "count"
name_of JsonParse = codes "json_parse"
name_of RegexReplace = codes "regex_replace"
name_of Join = codes "join"
name_of ToLower = codes "to_lower"
name_of ToUpper = codes "to_upper"
name_of Substring = codes "substring"
name_of UrlDecode = codes "url_decode"
name_of ParseInt = codes "parse_int"
name_of ParseFloat = codes "parse_float"
name_of ParseBoolean = codes "parse_boolean"
name_of ParseString = codes "parse_string"

-- a name means the function whose name it is, and nothing where it is the name of none
abbrev pub IsNamed : List ℕ → Option Function → Type 0
IsNamed name (Some f) = name ≡ name_of f
IsNamed name None = (f : Function) → name ≡ name_of f → ⊥
