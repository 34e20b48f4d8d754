-- What a function answers is known where the rows of its arguments are: each new tree has a root, and each other row is one of those rows or says that the call does not apply.
use Rattle.std.proofs.Common.{◌≡◌, ℕ, zero, suc, ℤ, pos, negsuc, Bool, true, List, [], ◌∷◌, get_or, Option, Some, None, refl, ap, ◌∙◌, arith, nat_lt}
use Rattle.std.specs.List.{list_all}
use Rattle.std.proofs.lemmas.Bool.{and_from, and_parts}
use Rattle.std.proofs.lemmas.Bool.Decides.{nat_tests}
use Rattle.doc_values.specs.declared.kind.Kind.{Kind}
use Rattle.doc_values.specs.Tree.{Forest, Nil, Node, size}
use Rattle.guard_syntax.specs.declared.function.Function.{Function}
use Rattle.guard_syntax.specs.declared.function.Function.TheVariants as function
use Rattle.guard_syntax.specs.declared.row.Row.{Row}
use Rattle.guard_syntax.specs.declared.row.Row.TheVariants as row
use Rattle.rule_meaning.specs.Functions.{AreRows, ForText, Functions, Gives, IsGiven, IsPart, IsParsed, IsReplacement, IsRow, IsRowFor, IsUnescaped, Kept, MadeRow, New, argument, joined, lone, new_or_missing, single_text, single_whole, text_of}
use Rattle.rule_meaning.specs.StoreModel.{StoreModel, is_known, stands_for}
use Rattle.rule_meaning.specs.Values.{Value}
use Rattle.rule_meaning.specs.Seeing.{is_known_answer}

-- ---- roots

abbrev HasRoot : (Forest → Type 0) → Type 0
HasRoot Holds = (tree : Forest) → Holds tree → nat_lt 0 (size tree) ≡ true

lone-root : (k : Kind) (text : List ℕ) → HasRoot (λ tree. tree ≡ lone k text)
lone-root k text tree is = ap (λ (t : Forest). nat_lt 0 (size t)) is

text-root : (Holds : List ℕ → Forest → Type 0) → ((text : List ℕ) → HasRoot (Holds text)) → (o : Option (List ℕ)) → HasRoot (ForText Holds o)
text-root Holds each None tree is = absurd is
text-root Holds each (Some text) tree is = each text tree is

parsed-root : (text : List ℕ) → HasRoot (IsParsed text)
parsed-root text tree is =
    let shape = is.1.shape in
    let within : nat_lt 0 (size (Node shape.4 shape.5 Nil)) ≡ true = grind (arith, nat_tests) in
    ap (λ (t : Forest). nat_lt 0 (size t)) shape.11 ∙ within

part-root : (from to : Option ℤ) (text : List ℕ) → HasRoot (IsPart from to text)
part-root (Some (pos from)) (Some (pos to)) text tree is = lone-root _ _ tree is.4
part-root (Some (pos from)) (Some (negsuc to)) text tree is = absurd is
part-root (Some (pos from)) None text tree is = absurd is
part-root (Some (negsuc from)) to text tree is = absurd is
part-root None to text tree is = absurd is

replacement-root : (pattern template : Option (List ℕ)) (text : List ℕ) → HasRoot (IsReplacement pattern template text)
replacement-root (Some pattern) (Some template) text tree is = lone-root _ _ tree is.2
replacement-root (Some pattern) None text tree is = absurd is
replacement-root None template text tree is = absurd is

-- ---- rows

known_made : StoreModel → MadeRow → Bool
known_made known (New tree) = nat_lt 0 (size tree)
known_made known (Kept r) = is_known known r

known-next : (known : StoreModel) (m : MadeRow) (made : List MadeRow) → known_made known m ≡ true → is_known_answer known made ≡ true → is_known_answer known (m ∷ made) ≡ true
unfolding known_made
known-next known (New tree) made here rest = and_from _ _ here rest
known-next known (Kept r) made here rest = and_from _ _ here rest

module _ (Holds : Value → Forest → Type 0) (root : (v : Value) → HasRoot (Holds v)) (known : StoreModel) (call : ℕ) where
  given-known : (v : Value) (given : Option Forest) → IsGiven (Holds v) given → known_made known (new_or_missing call given) ≡ true
  unfolding known_made
  given-known v None none = refl
  given-known v (Some tree) gives = root v tree gives

  value-known : (o : Option Value) (m : MadeRow) → IsRowFor Holds call o m → known_made known m ≡ true
  unfolding known_made
  value-known None m is = ap (known_made known) is
  value-known (Some v) m is = ap (known_made known) is.2 ∙ given-known v is.0 is.1

  row-known : (r : Row) (m : MadeRow) → is_known known r ≡ true → IsRow Holds known call r m → known_made known m ≡ true
  unfolding known_made
  row-known (row.Found r) m within is = value-known (stands_for known r) m is
  row-known (row.Missing v step) m within is = ap (known_made known) is ∙ within
  row-known (row.Unmade inner) m within is = ap (known_made known) is

  rows-known : (rows : List Row) (made : List MadeRow) → list_all (is_known known) rows ≡ true → AreRows Holds known call rows made → is_known_answer known made ≡ true
  rows-known [] [] all are = refl
  rows-known [] (m ∷ made) all are = absurd are
  rows-known (r ∷ rows) [] all are = absurd are
  rows-known (r ∷ rows) (m ∷ made) all are =
      let both : (is_known known r ≡ true) × (list_all (is_known known) rows ≡ true) = and_parts _ _ all in
      known-next known m made (row-known r m both.0 are.0) (rows-known rows made both.1 are.1)

-- ---- functions

argument-known : (known : StoreModel) (args : List (List Row)) (i : ℕ) → list_all (list_all (is_known known)) args ≡ true → list_all (is_known known) (argument args i) ≡ true
argument-known known args i all = at args i all
  where
    at : (xs : List (List Row)) (n : ℕ) → list_all (list_all (is_known known)) xs ≡ true → list_all (is_known known) (get_or xs n []) ≡ true
    at [] n each = refl
    at (x ∷ xs) zero each = let both : (list_all (is_known known) x ≡ true) × (list_all (list_all (is_known known)) xs ≡ true) = and_parts _ _ each in both.0
    at (x ∷ xs) (suc n) each = let both : (list_all (is_known known) x ≡ true) × (list_all (list_all (is_known known)) xs ≡ true) = and_parts _ _ each in at xs n both.1

joined-known : (known : StoreModel) (call : ℕ) (texts : Option (List (List ℕ))) (between : Option (List ℕ)) → is_known_answer known (new_or_missing call (joined texts between) ∷ []) ≡ true
joined-known known call None between = refl
joined-known known call (Some texts) None = refl
joined-known known call (Some texts) (Some between) = refl

pub answer-known : (known : StoreModel) (f : Function) (call : ℕ) (args : List (List Row)) (made : List MadeRow) → list_all (list_all (is_known known)) args ≡ true → Functions known f call args made
    → is_known_answer known made ≡ true
answer-known known function.Count call args made all is = ap (is_known_answer known) is
answer-known known function.Join call args made all is = ap (is_known_answer known) is ∙ joined-known known call _ _
answer-known known function.JsonParse call args made all are =
    rows-known (Gives known function.JsonParse args) (λ v. text-root IsParsed parsed-root (text_of v)) known call (argument args 0) made (argument-known known args 0 all) are
answer-known known function.RegexReplace call args made all are =
    rows-known (Gives known function.RegexReplace args) (λ v. text-root (IsReplacement (single_text known (argument args 1)) (single_text known (argument args 2))) (replacement-root (single_text known (argument args 1)) (single_text known (argument args 2))) (text_of v)) known call
    (argument args 0) made (argument-known known args 0 all) are
answer-known known function.ToLower call args made all are =
    rows-known (Gives known function.ToLower args) (λ v. text-root _ (λ text. lone-root _ _) (text_of v)) known call (argument args 0) made (argument-known known args 0 all) are
answer-known known function.ToUpper call args made all are =
    rows-known (Gives known function.ToUpper args) (λ v. text-root _ (λ text. lone-root _ _) (text_of v)) known call (argument args 0) made (argument-known known args 0 all) are
answer-known known function.Substring call args made all are =
    rows-known (Gives known function.Substring args) (λ v. text-root (IsPart (single_whole known (argument args 1)) (single_whole known (argument args 2))) (part-root (single_whole known (argument args 1)) (single_whole known (argument args 2))) (text_of v)) known call
    (argument args 0) made (argument-known known args 0 all) are
answer-known known function.UrlDecode call args made all are =
    rows-known (Gives known function.UrlDecode args) (λ v. text-root IsUnescaped (λ text tree is. lone-root _ _ tree is.1) (text_of v)) known call (argument args 0) made (argument-known known args 0 all) are
answer-known known function.ParseInt call args made all are =
    rows-known (Gives known function.ParseInt args) (λ v tree is. lone-root _ _ tree is.2) known call (argument args 0) made (argument-known known args 0 all) are
answer-known known function.ParseFloat call args made all are =
    rows-known (Gives known function.ParseFloat args) (λ v tree is. lone-root _ _ tree is.2) known call (argument args 0) made (argument-known known args 0 all) are
answer-known known function.ParseBoolean call args made all are =
    rows-known (Gives known function.ParseBoolean args) (λ v tree is. lone-root _ _ tree is.2) known call (argument args 0) made (argument-known known args 0 all) are
answer-known known function.ParseString call args made all are =
    rows-known (Gives known function.ParseString args) (λ v tree is. lone-root _ _ tree is.2) known call (argument args 0) made (argument-known known args 0 all) are
