-- What a function answers for rows of references is seen as what it answers for the rows that these are seen as.
use Rattle.std.proofs.Common.{◌≡◌, ℕ, ◌+◌, ℤ, pos, Bool, cond, List, [], ◌∷◌, map, count_by, Option, Some, None, option_and_then, refl, sym, ap, subst, ◌∙◌}
use Rattle.std.proofs.Math.ListN.{get_or-map}
use Rattle.std.proofs.lemmas.List.Sums.{sum_by-cons}
use Rattle.doc_values.specs.Tree.{Forest}
use Rattle.guard_syntax.specs.declared.function.Function.{Function}
use Rattle.guard_syntax.specs.declared.function.Function.TheVariants as function
use Rattle.guard_syntax.specs.declared.row.Row.{Row}
use Rattle.guard_syntax.specs.declared.row.Row.TheVariants as row
use Rattle.rule_meaning.specs.Functions as table
use Rattle.rule_meaning.specs.Functions.{MadeRow, IsReplaced, IsSubstring, joined, text_of, whole_of, whole_tree, with_text}
use Rattle.rule_meaning.specs.StoreModel.{StoreModel, meant, stands_for}
use Rattle.rule_meaning.specs.Values.{Value}
use Rattle.rule_meaning.specs.Seeing.{see_answer, see_row, world_of}
use Rattle.rule_meaning.specs.FunctionMeaning as location
use Rattle.rule_meaning.specs.Locations.{meant as meant_over, AnswerRow, Answers, New, LocatedRow, World, is_found}
use Rattle.query_steps.proofs.SeenLocations.{stands-seen, all-meant}

module _ (known : StoreModel) (answers : Answers) (calls : List ℕ) where
  abbrev world : World
  world = world_of known answers

  abbrev shown : Row → LocatedRow
  shown = see_row known calls

  abbrev told : MadeRow → AnswerRow
  told = see_answer known calls

  -- ---- arguments

  argument-seen : (args : List (List Row)) (i : ℕ) → location.argument (map (map shown) args) i ≡ map shown (table.argument args i)
  argument-seen args i = get_or-map (map shown) args i []

  values-seen : (args : List (List Row)) (i : ℕ) → location.values_of world (map (map shown) args) i ≡ map (meant known) (table.argument args i)
  values-seen args i = ap (map (meant_over world)) (argument-seen args i) ∙ all-meant known answers calls (table.argument args i)

  single-seen : (xs : List Row) → location.single (map (meant known) xs) ≡ table.single known xs
  single-seen [] = refl
  single-seen (x ∷ []) = refl
  single-seen (x ∷ (y ∷ xs)) = refl

  text-seen : (args : List (List Row)) (i : ℕ) → location.single_text (location.values_of world (map (map shown) args) i) ≡ table.single_text known (table.argument args i)
  text-seen args i = ap location.single_text (values-seen args i) ∙ ap (option_and_then text_of) (single-seen (table.argument args i))

  whole-seen : (args : List (List Row)) (i : ℕ) → location.single_whole (location.values_of world (map (map shown) args) i) ≡ table.single_whole known (table.argument args i)
  whole-seen args i = ap location.single_whole (values-seen args i) ∙ ap (option_and_then whole_of) (single-seen (table.argument args i))

  texts-in : (xs : List Row) → location.texts_in (map (meant known) xs) ≡ table.texts_in known xs
  texts-in [] = refl
  texts-in (x ∷ xs) = ap (with_text (table.text_in known x)) (texts-in xs)

  texts-seen : (args : List (List Row)) (i : ℕ) → location.texts_in (location.values_of world (map (map shown) args) i) ≡ table.texts_in known (table.argument args i)
  texts-seen args i = ap location.texts_in (values-seen args i) ∙ texts-in (table.argument args i)

  -- ---- rows

  found-seen : (x : Row) → is_found (shown x) ≡ table.is_found x
  found-seen (row.Found r) = refl
  found-seen (row.Missing v step) = refl
  found-seen (row.Unmade call) = refl

  count-seen : (xs : List Row) → count_by is_found (map shown xs) ≡ count_by table.is_found xs
  count-seen [] = refl
  count-seen (x ∷ xs) =
      sum_by-cons (λ (y : LocatedRow). cond (is_found y) 1 0) (shown x) (map shown xs)
      ∙ ap (λ (b : Bool). cond b 1 0 + count_by is_found (map shown xs)) (found-seen x)
      ∙ ap (λ (n : ℕ). cond (table.is_found x) 1 0 + n) (count-seen xs)
      ∙ sym (sum_by-cons (λ (y : Row). cond (table.is_found y) 1 0) x xs)

  new-seen : (call : ℕ) (o : Option Forest) → told (table.new_or_missing call o) ≡ location.new_or_missing call o
  new-seen call None = refl
  new-seen call (Some tree) = refl

  value-row : (Gives : Value → Forest → Type 0) (call : ℕ) (o : Option Value) (made : MadeRow) → table.IsRowFor Gives call o made → location.IsRowFor Gives call o (told made)
  value-row Gives call None made is = ap told is
  value-row Gives call (Some v) made is = (is.0, is.1, ap told is.2 ∙ new-seen call is.0)

  row-seen : (Gives : Value → Forest → Type 0) (call : ℕ) (x : Row) (made : MadeRow) → table.IsRow Gives known call x made → location.IsRow Gives world call (shown x) (told made)
  row-seen Gives call (row.Found r) made is =
      subst (λ (o : Option Value). location.IsRowFor Gives call o (told made)) (sym (stands-seen known answers calls r)) (value-row Gives call (stands_for known r) made is)
  row-seen Gives call (row.Missing v step) made is = ap told is
  row-seen Gives call (row.Unmade inner) made is = ap told is

  rows-seen : (Gives : Value → Forest → Type 0) (call : ℕ) (xs : List Row) (made : List MadeRow)
      → table.AreRows Gives known call xs made → location.AreRows Gives world call (map shown xs) (map told made)
  rows-seen Gives call [] [] are = tt
  rows-seen Gives call [] (m ∷ made) are = are
  rows-seen Gives call (x ∷ xs) [] are = are
  rows-seen Gives call (x ∷ xs) (m ∷ made) are = (row-seen Gives call x m are.0, rows-seen Gives call xs made are.1)

  -- those of the first argument
  first-seen : (Gives : Value → Forest → Type 0) (call : ℕ) (args : List (List Row)) (made : List MadeRow)
      → table.AreRows Gives known call (table.argument args 0) made → location.AreRows Gives world call (location.argument (map (map shown) args) 0) (map told made)
  first-seen Gives call args made are =
      subst (λ (xs : List LocatedRow). location.AreRows Gives world call xs (map told made)) (sym (argument-seen args 0)) (rows-seen Gives call (table.argument args 0) made are)

  pub functions-seen : (f : Function) (call : ℕ) (args : List (List Row)) (made : List MadeRow)
      → table.Functions known f call args made → location.Functions world f call (map (map (see_row known calls)) args) (map (see_answer known calls) made)
  functions-seen function.Count call args made is =
      ap (map told) is
      ∙ ap (λ (n : ℕ). New (whole_tree (pos n)) ∷ []) (sym (count-seen (table.argument args 0)))
      ∙ ap location.counted (sym (argument-seen args 0))
  functions-seen function.Join call args made is =
      ap (map told) is
      ∙ ap (λ (a : AnswerRow). a ∷ []) (new-seen call (joined (table.texts_in known (table.argument args 0)) (table.single_text known (table.argument args 1))))
      ∙ ap (λ (texts : Option (List (List ℕ))). location.new_or_missing call (joined texts (table.single_text known (table.argument args 1))) ∷ []) (sym (texts-seen args 0))
      ∙ ap (λ (between : Option (List ℕ)). location.new_or_missing call (joined (location.texts_in (location.values_of world (map (map shown) args) 0)) between) ∷ []) (sym (text-seen args 1))
  functions-seen function.JsonParse call args made are = first-seen (table.Gives known function.JsonParse args) call args made are
  functions-seen function.RegexReplace call args made are =
      let mine : Option (List ℕ) → Option (List ℕ) → Type 0 =
      λ p t. location.AreRows (IsReplaced p t) world call (location.argument (map (map shown) args) 0) (map told made) in
      subst (λ (p : Option (List ℕ)). mine p (location.single_text (location.values_of world (map (map shown) args) 2))) (sym (text-seen args 1))
      (subst (mine (table.single_text known (table.argument args 1))) (sym (text-seen args 2))
      (first-seen (table.Gives known function.RegexReplace args) call args made are))
  functions-seen function.ToLower call args made are = first-seen (table.Gives known function.ToLower args) call args made are
  functions-seen function.ToUpper call args made are = first-seen (table.Gives known function.ToUpper args) call args made are
  functions-seen function.Substring call args made are =
      let mine : Option ℤ → Option ℤ → Type 0 =
      λ from to. location.AreRows (IsSubstring from to) world call (location.argument (map (map shown) args) 0) (map told made) in
      subst (λ (from : Option ℤ). mine from (location.single_whole (location.values_of world (map (map shown) args) 2))) (sym (whole-seen args 1))
      (subst (mine (table.single_whole known (table.argument args 1))) (sym (whole-seen args 2))
      (first-seen (table.Gives known function.Substring args) call args made are))
  functions-seen function.UrlDecode call args made are = first-seen (table.Gives known function.UrlDecode args) call args made are
  functions-seen function.ParseInt call args made are = first-seen (table.Gives known function.ParseInt args) call args made are
  functions-seen function.ParseFloat call args made are = first-seen (table.Gives known function.ParseFloat args) call args made are
  functions-seen function.ParseBoolean call args made are = first-seen (table.Gives known function.ParseBoolean args) call args made are
  functions-seen function.ParseString call args made are = first-seen (table.Gives known function.ParseString args) call args made are
