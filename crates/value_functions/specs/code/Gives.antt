-- What the functions of one value give, as the code tells them apart.
use Rattle.doc_values.specs.Tree.{Forest}
use Rattle.rule_meaning.specs.Functions.{IsJson, IsLower, IsUpper, IsSubstring, IsDecoded, IsInt, IsFloat, IsBoolean, IsPrinted}
use Rattle.rule_meaning.specs.Values.{Value}
use Rattle.value_functions.specs.declared.change.Change.{Change}
use Rattle.value_functions.specs.declared.change.Change.TheVariants as change

-- what a function gives for one value
abbrev pub gives : Change → Value → Forest → Type 0
gives change.JsonParse v tree = IsJson v tree
gives change.ToLower v tree = IsLower v tree
gives change.ToUpper v tree = IsUpper v tree
gives (change.Substring from to) v tree = IsSubstring from to v tree
gives change.UrlDecode v tree = IsDecoded v tree
gives change.ParseInt v tree = IsInt v tree
gives change.ParseFloat v tree = IsFloat v tree
gives change.ParseBoolean v tree = IsBoolean v tree
gives change.ParseString v tree = IsPrinted v tree
