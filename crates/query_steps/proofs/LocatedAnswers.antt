-- Over a template and a file each call of a function has an answer by the table over locations, and no two.
use Rattle.std.proofs.Common.{◌≡◌, ℕ, Bool, List, [], ◌∷◌, map, Option, Some, None, option_and_then, refl, sym, ap, subst, ◌∙◌}
use Rattle.std.proofs.Math.Path.{fun_ext}
use Rattle.doc_values.specs.Tree.{Forest}
use Rattle.guard_syntax.specs.Syntax.{File}
use Rattle.guard_syntax.specs.declared.function.Function.{Function}
use Rattle.guard_syntax.specs.declared.function.Function.TheVariants as function
use Rattle.guard_syntax.specs.declared.row.Row.{Row}
use Rattle.rule_meaning.specs.Functions as table
use Rattle.rule_meaning.specs.Functions.{MadeRow, IsGiven, IsReplaced, IsSubstring}
use Rattle.rule_meaning.specs.StoreModel.{StoreModel, value_in}
use Rattle.rule_meaning.specs.Values.{Value}
use Rattle.rule_meaning.specs.Seeing.{see_answer, see_row, world_of}
use Rattle.rule_meaning.specs.FunctionMeaning.{AreRows, Functions, Gives, IsAnswering, IsRow, IsRowFor, argument, counted, joined_row, new_or_missing, single_text, single_whole, values_of}
use Rattle.rule_meaning.specs.Meaning.{answered}
use Rattle.rule_meaning.specs.Locations.{answered_row, AnswerRow, Answers, Kept, LocatedOrigin, Template, Literal, Made, LocatedRow, Found, Missing, Unmade, World, meant, stands_for, tree_of}
use Rattle.query_steps.proofs.SeenFunctions.{functions-seen}
use Rattle.pattern_books.proofs.GivenTrees.{IsOne, IsTold, boolean-one, boolean-told, decoded-one, decoded-told, float-one, float-told, int-one, int-told, json-one, json-told, lower-one, lower-told, printed-one, printed-told, replaced-one, replaced-told, substring-one, substring-told, upper-one, upper-told}

-- ---- there is an answer

module _ (Gives : Value → Forest → Type 0) (told : (v : Value) → IsTold (Gives v)) (world : World) (call : ℕ) where
  value-told : (o : Option Value) → (a : AnswerRow) × IsRowFor Gives call o a
  value-told None = (Kept (Unmade call), refl)
  value-told (Some v) = let t : IsTold (Gives v) = told v in (new_or_missing call t.0, (t.0, t.1, refl))

  row-told : (x : LocatedRow) → (a : AnswerRow) × IsRow Gives world call x a
  row-told (Found v) = value-told (stands_for world v)
  row-told (Missing v step) = (Kept (Missing v step), refl)
  row-told (Unmade inner) = (Kept (Unmade inner), refl)

  rows-told : (xs : List LocatedRow) → (answers : List AnswerRow) × AreRows Gives world call xs answers
  rows-told [] = ([], tt)
  rows-told (x ∷ xs) =
      let first : (a : AnswerRow) × IsRow Gives world call x a = row-told x in
      let others : (answers : List AnswerRow) × AreRows Gives world call xs answers = rows-told xs in
      (first.0 ∷ others.0, (first.1, others.1))

some-answer : (world : World) (f : Function) (call : ℕ) (args : List (List LocatedRow)) → (answers : List AnswerRow) × Functions world f call args answers
some-answer world function.Count call args = (counted (argument args 0), refl)
some-answer world function.Join call args = (joined_row call (values_of world args 0) (values_of world args 1), refl)
some-answer world function.JsonParse call args = rows-told (Gives world function.JsonParse args) json-told world call (argument args 0)
some-answer world function.RegexReplace call args =
    rows-told (Gives world function.RegexReplace args) (λ v. replaced-told v (single_text (values_of world args 1)) (single_text (values_of world args 2))) world call (argument args 0)
some-answer world function.ToLower call args = rows-told (Gives world function.ToLower args) lower-told world call (argument args 0)
some-answer world function.ToUpper call args = rows-told (Gives world function.ToUpper args) upper-told world call (argument args 0)
some-answer world function.Substring call args =
    rows-told (Gives world function.Substring args) (λ v. substring-told v (single_whole (values_of world args 1)) (single_whole (values_of world args 2))) world call (argument args 0)
some-answer world function.UrlDecode call args = rows-told (Gives world function.UrlDecode args) decoded-told world call (argument args 0)
some-answer world function.ParseInt call args = rows-told (Gives world function.ParseInt args) int-told world call (argument args 0)
some-answer world function.ParseFloat call args = rows-told (Gives world function.ParseFloat args) float-told world call (argument args 0)
some-answer world function.ParseBoolean call args = rows-told (Gives world function.ParseBoolean args) boolean-told world call (argument args 0)
some-answer world function.ParseString call args = rows-told (Gives world function.ParseString args) printed-told world call (argument args 0)

-- ---- and no two

given-one : (Gives : Forest → Type 0) → IsOne Gives → (g h : Option Forest) → IsGiven Gives g → IsGiven Gives h → g ≡ h
given-one Gives one None None x y = refl
given-one Gives one None (Some u) x y = absurd (x u y)
given-one Gives one (Some t) None x y = absurd (y t x)
given-one Gives one (Some t) (Some u) x y = ap Some (one t u x y)

module _ (Gives : Value → Forest → Type 0) (one : (v : Value) → IsOne (Gives v)) (world : World) (call : ℕ) where
  value-one : (o : Option Value) (a b : AnswerRow) → IsRowFor Gives call o a → IsRowFor Gives call o b → a ≡ b
  value-one None a b x y = x ∙ sym y
  value-one (Some v) a b x y = x.2 ∙ ap (new_or_missing call) (given-one (Gives v) (one v) x.0 y.0 x.1 y.1) ∙ sym y.2

  row-one : (x : LocatedRow) (a b : AnswerRow) → IsRow Gives world call x a → IsRow Gives world call x b → a ≡ b
  row-one (Found v) a b x y = value-one (stands_for world v) a b x y
  row-one (Missing v step) a b x y = x ∙ sym y
  row-one (Unmade inner) a b x y = x ∙ sym y

  rows-one : (xs : List LocatedRow) (ys zs : List AnswerRow) → AreRows Gives world call xs ys → AreRows Gives world call xs zs → ys ≡ zs
  rows-one [] [] [] x y = refl
  rows-one [] [] (b ∷ zs) x y = absurd y
  rows-one [] (a ∷ ys) zs x y = absurd x
  rows-one (r ∷ xs) [] zs x y = absurd x
  rows-one (r ∷ xs) (a ∷ ys) [] x y = absurd y
  rows-one (r ∷ xs) (a ∷ ys) (b ∷ zs) x y =
      ap (λ (c : AnswerRow). c ∷ ys) (row-one r a b x.0 y.0) ∙ ap (λ (cs : List AnswerRow). b ∷ cs) (rows-one xs ys zs x.1 y.1)

pub one-answer : (world : World) (f : Function) (call : ℕ) (args : List (List LocatedRow)) (a b : List AnswerRow) → Functions world f call args a → Functions world f call args b → a ≡ b
one-answer world function.Count call args a b x y = x ∙ sym y
one-answer world function.Join call args a b x y = x ∙ sym y
one-answer world function.JsonParse call args a b x y = rows-one (Gives world function.JsonParse args) json-one world call (argument args 0) a b x y
one-answer world function.RegexReplace call args a b x y =
    rows-one (Gives world function.RegexReplace args) (λ v. replaced-one v (single_text (values_of world args 1)) (single_text (values_of world args 2))) world call (argument args 0) a b x y
one-answer world function.ToLower call args a b x y = rows-one (Gives world function.ToLower args) lower-one world call (argument args 0) a b x y
one-answer world function.ToUpper call args a b x y = rows-one (Gives world function.ToUpper args) upper-one world call (argument args 0) a b x y
one-answer world function.Substring call args a b x y =
    rows-one (Gives world function.Substring args) (λ v. substring-one v (single_whole (values_of world args 1)) (single_whole (values_of world args 2))) world call (argument args 0) a b x y
one-answer world function.UrlDecode call args a b x y = rows-one (Gives world function.UrlDecode args) decoded-one world call (argument args 0) a b x y
one-answer world function.ParseInt call args a b x y = rows-one (Gives world function.ParseInt args) int-one world call (argument args 0) a b x y
one-answer world function.ParseFloat call args a b x y = rows-one (Gives world function.ParseFloat args) float-one world call (argument args 0) a b x y
one-answer world function.ParseBoolean call args a b x y = rows-one (Gives world function.ParseBoolean args) boolean-one world call (argument args 0) a b x y
one-answer world function.ParseString call args a b x y = rows-one (Gives world function.ParseString args) printed-one world call (argument args 0) a b x y

-- ---- a world that answers

-- what functions answer is nothing that the table asks
module _ (template : Forest) (file : File) (old new : Answers) where
  abbrev before : World
  before = record { template = template; file = file; answers = old }

  abbrev after : World
  after = record { template = template; file = file; answers = new }

  same-tree : (n : ℕ) (key : Bool) (o : LocatedOrigin) → option_and_then (value_in n key) (tree_of before o) ≡ option_and_then (value_in n key) (tree_of after o)
  same-tree n key Template = refl
  same-tree n key (Literal site) = refl
  same-tree n key (Made call tree) = refl

  same-meant : (x : LocatedRow) → meant before x ≡ meant after x
  same-meant (Found v) = same-tree v.node v.key v.origin
  same-meant (Missing v step) = refl
  same-meant (Unmade call) = refl

  all-meant : (xs : List LocatedRow) → map (meant before) xs ≡ map (meant after) xs
  all-meant [] = refl
  all-meant (x ∷ xs) = ap (λ (o : Option Value). o ∷ map (meant before) xs) (same-meant x) ∙ ap (λ (os : List (Option Value)). meant after x ∷ os) (all-meant xs)

  same-row : (Gives : Value → Forest → Type 0) (call : ℕ) (x : LocatedRow) (a : AnswerRow) → IsRow Gives before call x a → IsRow Gives after call x a
  same-row Gives call (Found v) a is = subst (λ (o : Option Value). IsRowFor Gives call o a) (same-meant (Found v)) is
  same-row Gives call (Missing v step) a is = is
  same-row Gives call (Unmade inner) a is = is

  same-rows : (Gives : Value → Forest → Type 0) (call : ℕ) (xs : List LocatedRow) (ys : List AnswerRow) → AreRows Gives before call xs ys → AreRows Gives after call xs ys
  same-rows Gives call [] [] are = tt
  same-rows Gives call [] (a ∷ ys) are = are
  same-rows Gives call (x ∷ xs) [] are = are
  same-rows Gives call (x ∷ xs) (a ∷ ys) are = (same-row Gives call x a are.0, same-rows Gives call xs ys are.1)

  same-answer : (f : Function) (call : ℕ) (args : List (List LocatedRow)) (ys : List AnswerRow) → Functions before f call args ys → Functions after f call args ys
  same-answer function.Count call args ys is = is
  same-answer function.Join call args ys is =
      is
      ∙ ap (λ (values : List (Option Value)). joined_row call values (values_of before args 1)) (all-meant (argument args 0))
      ∙ ap (joined_row call (values_of after args 0)) (all-meant (argument args 1))
  same-answer function.JsonParse call args ys are = same-rows (Gives before function.JsonParse args) call (argument args 0) ys are
  same-answer function.RegexReplace call args ys are =
      let mine : List (Option Value) → List (Option Value) → Type 0 = λ p t. AreRows (IsReplaced (single_text p) (single_text t)) after call (argument args 0) ys in
      subst (λ (p : List (Option Value)). mine p (values_of after args 2)) (all-meant (argument args 1))
      (subst (mine (values_of before args 1)) (all-meant (argument args 2)) (same-rows (Gives before function.RegexReplace args) call (argument args 0) ys are))
  same-answer function.ToLower call args ys are = same-rows (Gives before function.ToLower args) call (argument args 0) ys are
  same-answer function.ToUpper call args ys are = same-rows (Gives before function.ToUpper args) call (argument args 0) ys are
  same-answer function.Substring call args ys are =
      let mine : List (Option Value) → List (Option Value) → Type 0 = λ from to. AreRows (IsSubstring (single_whole from) (single_whole to)) after call (argument args 0) ys in
      subst (λ (from : List (Option Value)). mine from (values_of after args 2)) (all-meant (argument args 1))
      (subst (mine (values_of before args 1)) (all-meant (argument args 2)) (same-rows (Gives before function.Substring args) call (argument args 0) ys are))
  same-answer function.UrlDecode call args ys are = same-rows (Gives before function.UrlDecode args) call (argument args 0) ys are
  same-answer function.ParseInt call args ys are = same-rows (Gives before function.ParseInt args) call (argument args 0) ys are
  same-answer function.ParseFloat call args ys are = same-rows (Gives before function.ParseFloat args) call (argument args 0) ys are
  same-answer function.ParseBoolean call args ys are = same-rows (Gives before function.ParseBoolean args) call (argument args 0) ys are
  same-answer function.ParseString call args ys are = same-rows (Gives before function.ParseString args) call (argument args 0) ys are

  -- and so two answers by the table are one
  pub one-answering : IsAnswering before → IsAnswering after → old ≡ new
  one-answering is other =
      fun_ext (λ f. fun_ext (λ call. fun_ext (λ args.
      one-answer after f call args (old f call args) (new f call args) (same-answer f call args (old f call args) (is f call args)) (other f call args))))

module _ (template : Forest) (file : File) where
  abbrev none : Answers
  none = λ f call args. []

  abbrev silent : World
  silent = record { template = template; file = file; answers = none }

  told : Answers
  told = λ f call args. (some-answer silent f call args).0

  pub answering : (answers : Answers) × IsAnswering (record { template = template; file = file; answers = answers })
  unfolding told
  answering = (told, λ f call args. same-answer template file none told f call args (told f call args) (some-answer silent f call args).1)

-- ---- the answer of a store

-- what a function answers for rows of references is, over locations, what it answers in the world of the store
pub answer-is : (known : StoreModel) (answers : Answers) (calls : List ℕ) → IsAnswering (world_of known answers) → (f : Function) (call : ℕ) (args : List (List Row)) (made : List MadeRow)
    → table.Functions known f call args made → map (answered_row call) (map (see_answer known calls) made) ≡ answered (world_of known answers) call (Some f) (map (map (see_row known calls)) args)
answer-is known answers calls answering f call args made is =
    let seen : List (List LocatedRow) = map (map (see_row known calls)) args in
    ap (map (answered_row call))
    (one-answer (world_of known answers) f call seen (map (see_answer known calls) made) (answers f call seen) (functions-seen known answers calls f call args made is) (answering f call seen))
