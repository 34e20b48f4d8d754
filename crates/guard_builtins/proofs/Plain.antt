-- New trees hold no patterns.
use Rattle.std.proofs.Common.{◌≡◌, ℕ, ℤ, pos, negsuc, true, false, List, [], ◌∷◌, Option, Some, None, map, refl, ap, ◌∙◌}
use Rattle.std.specs.Prelude.{not}
use Rattle.std.specs.List.{list_all}
use Rattle.std.proofs.lemmas.Bool.{and_from}
use Rattle.doc_values.specs.Tree.{Forest}
use Rattle.guard_syntax.specs.declared.row.Row.{Row}
use Rattle.guard_syntax.specs.declared.row.Row.TheVariants as row
use Rattle.rule_meaning.specs.Functions.{AreRows, ForText, IsParsed, IsPart, IsReplacement, IsRow, IsRowFor, IsUnescaped, New, Kept, text_of}
use Rattle.rule_meaning.specs.StoreModel.{StoreModel, stands_for}
use Rattle.rule_meaning.specs.Values.{Value, has_pattern}
use Rattle.value_store.proofs.Patternless.{json-plain}
use Rattle.value_functions.specs.code.Gives.{gives}
use Rattle.value_functions.specs.declared.change.Change.{Change}
use Rattle.value_functions.specs.declared.change.Change.TheVariants as change
use Rattle.guard_builtins.specs.code.Seen.{ByFunction, ByNothing, ByTexts, Changing, changes, is_plain, see_made}
use Rattle.guard_builtins.specs.declared.made.Made.{Made}
use Rattle.guard_builtins.specs.declared.made.Made.TheVariants as made

text-plain : (Gives : List ℕ → Forest → Type 0) → ((text : List ℕ) (tree : Forest) → Gives text tree → has_pattern tree ≡ false)
    → (o : Option (List ℕ)) (tree : Forest) → ForText Gives o tree → has_pattern tree ≡ false
text-plain Gives each None tree h = absurd h
text-plain Gives each (Some text) tree h = each text tree h

part-plain : (from to : Option ℤ) (text : List ℕ) (tree : Forest) → IsPart from to text tree → has_pattern tree ≡ false
part-plain (Some (pos a)) (Some (pos b)) text tree (ordered, within, first, last, is) = ap has_pattern is
part-plain (Some (pos a)) (Some (negsuc b)) text tree h = absurd h
part-plain (Some (pos a)) None text tree h = absurd h
part-plain (Some (negsuc a)) to text tree h = absurd h
part-plain None to text tree h = absurd h

gives-plain : (f : Change) (v : Value) (tree : Forest) → gives f v tree → has_pattern tree ≡ false
gives-plain change.JsonParse v tree h = text-plain IsParsed (λ text tree is. json-plain text tree is.1) (text_of v) tree h
gives-plain change.ToLower v tree h = text-plain _ (λ text tree is. ap has_pattern is) (text_of v) tree h
gives-plain change.ToUpper v tree h = text-plain _ (λ text tree is. ap has_pattern is) (text_of v) tree h
gives-plain (change.Substring from to) v tree h = text-plain (IsPart from to) (part-plain from to) (text_of v) tree h
gives-plain change.UrlDecode v tree h = text-plain IsUnescaped (λ text tree is. ap has_pattern is.1) (text_of v) tree h
gives-plain change.ParseInt v tree (n, is, made) = ap has_pattern made
gives-plain change.ParseFloat v tree (d, is, made) = ap has_pattern made
gives-plain change.ParseBoolean v tree (b, is, made) = ap has_pattern made
gives-plain change.ParseString v tree (text, is, made) = ap has_pattern made

kept-plain : (m : Made) (r : Row) → see_made m ≡ Kept r → is_plain m ≡ true
kept-plain (made.Tree tree) r h = absurd cc
kept-plain (made.Kept row) r h = refl

new-plain : (m : Made) (tree : Forest) → has_pattern tree ≡ false → see_made m ≡ New tree → is_plain m ≡ true
new-plain (made.Tree other) tree plain h = let same : other ≡ tree = cc in ap (λ t. not (has_pattern t)) same ∙ ap not plain
new-plain (made.Kept row) tree plain h = refl

changes-plain : (c : Changing) (v : Value) (tree : Forest) → changes c v tree → has_pattern tree ≡ false
changes-plain (ByFunction f) v tree h = gives-plain f v tree h
changes-plain (ByTexts pattern template) v tree h = text-plain (IsReplacement (Some pattern) (Some template)) (λ text t is. ap has_pattern is.2) (text_of v) tree h
changes-plain ByNothing v tree h = absurd h

module _ (G : Value → Forest → Type 0) (plain : (v : Value) (tree : Forest) → G v tree → has_pattern tree ≡ false) (k : StoreModel) (call : ℕ) where
  value-plain : (o : Option Value) (m : Made) → IsRowFor G call o (see_made m) → is_plain m ≡ true
  value-plain None m h = kept-plain m (row.Unmade call) h
  value-plain (Some v) m (None, none, is) = kept-plain m (row.Unmade call) is
  value-plain (Some v) m (Some tree, given, is) = new-plain m tree (plain v tree given) is

  row-plain : (r : Row) (m : Made) → IsRow G k call r (see_made m) → is_plain m ≡ true
  row-plain (row.Found v) m h = value-plain (stands_for k v) m h
  row-plain (row.Missing v step) m h = kept-plain m (row.Missing v step) h
  row-plain (row.Unmade inner) m h = kept-plain m (row.Unmade inner) h

  rows-without : (rows : List Row) (ms : List Made) → AreRows G k call rows (map see_made ms) → list_all is_plain ms ≡ true
  rows-without [] [] h = refl
  rows-without [] (m ∷ ms) h = absurd h
  rows-without (r ∷ rows) [] h = absurd h
  rows-without (r ∷ rows) (m ∷ ms) h = and_from _ _ (row-plain r m h.0) (rows-without rows ms h.1)

-- the rows that a change of one value after another gives
pub rows-plain : (c : Changing) (k : StoreModel) (call : ℕ) (rows : List Row) (ms : List Made) → AreRows (changes c) k call rows (map see_made ms) → list_all is_plain ms ≡ true
rows-plain c k call rows ms h = rows-without (changes c) (changes-plain c) k call rows ms h
