-- Calls: how many arguments there are, which function a name means, and which arguments are literal texts.
use Rattle.std.proofs.Common.{◌≡◌, ℕ, zero, suc, ◌<◌, ◌≤◌, get_or, nat_eq, Bool, true, false, List, [], ◌∷◌, ◌++◌, map, length, Option, Some, None, cond, refl, sym, ap, ◌∙◌, arith}
use Rattle.std.specs.Prelude.{find, option_map}
use Rattle.std.specs.Str.{bytes_eq}
use Rattle.std.proofs.lemmas.Slice.Eq.{bytes_eq-Decides}
use Rattle.std.proofs.lemmas.Bool.Decides.{nat_tests}
use Rattle.doc_values.specs.Tree.{Forest, Nil, Node, size, IsTree}
use Rattle.doc_values.specs.Places.{label_at}
use Rattle.guard_syntax.specs.Syntax as sx
use Rattle.guard_syntax.specs.code.Seen.{expr_list, see_expr}
use Rattle.guard_syntax.specs.Functions.{name_of, IsNamed}
use Rattle.guard_syntax.specs.declared.syntax.Expr.{Expr}
use Rattle.guard_syntax.specs.declared.function.Function.{Function}
use Rattle.guard_syntax.specs.declared.function.Function.TheVariants.{Count, JsonParse, RegexReplace, Join, ToLower, ToUpper, Substring, UrlDecode, ParseInt, ParseFloat, ParseBoolean, ParseString}
use Rattle.guard_syntax.specs.Sites.{sites_expr}
use Rattle.rule_names.specs.declared.name_kind.NameKind.TheVariants.{ArgCount, LiteralWanted}
use Rattle.rule_names.specs.code.IncreasingSites.{first_site}
use Rattle.rule_names.specs.Uses.{arity, expr_site, wrong, wrong_call, wrong_function, wrong_text, wrong_texts, is_text, place_of, count_exprs, expr_in, function_named, functions, is_text_kind, is_text_tree}

pub count-args : (xs : List Expr) → count_exprs (expr_list (map see_expr xs)) ≡ length xs
count-args [] = refl
count-args (x ∷ xs) = ap suc (count-args xs)

-- ---- functions by name

no_function : (name : List ℕ) (fs : List Function) → ((f : Function) → name ≡ name_of f → ⊥) → find (λ (f : Function). bytes_eq name (name_of f)) fs ≡ None
no_function name [] none = refl
no_function name (f ∷ fs) none =
    let other : bytes_eq name (name_of f) ≡ false = grind (arith, bytes_eq-Decides name (name_of f), none f) in
    ap (λ b. cond b (Some f) (find (λ (g : Function). bytes_eq name (name_of g)) fs)) other ∙ no_function name fs none

pub named-none : (name : List ℕ) → IsNamed name None → function_named name ≡ None
named-none name none = no_function name functions none

own_name : (f : Function) → function_named (name_of f) ≡ Some f
own_name Count = refl
own_name JsonParse = refl
own_name RegexReplace = refl
own_name Join = refl
own_name ToLower = refl
own_name ToUpper = refl
own_name Substring = refl
own_name UrlDecode = refl
own_name ParseInt = refl
own_name ParseFloat = refl
own_name ParseBoolean = refl
own_name ParseString = refl

pub named-some : (name : List ℕ) (f : Function) → IsNamed name (Some f) → function_named name ≡ Some f
named-some name f is = ap function_named is ∙ own_name f

-- ---- literal texts

pub tree-root : (f : Forest) → IsTree f → 0 < size f
tree-root Nil is = absurd (omega (arith, is.one))
tree-root (Node l kids rest) is = omega arith

pub text-root : (f : Forest) → is_text_kind (label_at f 0).kind ≡ is_text_tree f
text-root Nil = refl
text-root (Node l kids rest) = refl

pub site-first : (e : sx.Expr) → first_site (sites_expr e) ≡ expr_site e
site-first (sx.literal n tree) = refl
site-first (sx.function n name es) = refl
site-first (sx.asked (sx.query n ss)) = refl
site-first (sx.found n q) = refl

-- ---- arguments by index

pub args-none : (xs : List Expr) (i : ℕ) → length xs ≤ i → expr_in (expr_list (map see_expr xs)) i ≡ None
args-none [] i past = refl
args-none (x ∷ xs) zero past = absurd (omega arith)
args-none (x ∷ xs) (suc i) past = args-none xs i (omega arith)

pub args-some : (xs : List Expr) (i : ℕ) (x : Expr) → i < length xs → x ≡ get_or xs i x → expr_in (expr_list (map see_expr xs)) i ≡ Some (see_expr x)
args-some [] i x within is = absurd (omega arith)
args-some (y ∷ ys) zero x within is = ap (λ (e : Expr). Some (see_expr e)) (sym is)
args-some (y ∷ ys) (suc i) x within is = args-some ys i x (omega arith) is

-- ---- what is wrong with a call

module _ (rules : List sx.Rule) (places : List ℕ) where
  pub call-good : (o : Option sx.Rule) (n count : ℕ) (name : List ℕ) (at : ℕ) → Some n ≡ option_map (λ (r : sx.Rule). length r.params) o → (n ≡ 0 → ⊥) → n ≡ count
      → wrong_call rules places o count name at ≡ []
  call-good None n count name at is some same = absurd cc
  call-good (Some r) n count name at is some same =
      let known : n ≡ length r.params = cc in
      let any : nat_eq (length r.params) 0 ≡ false = grind (arith, nat_tests) in
      let as_many : nat_eq (length r.params) count ≡ true = grind (arith, nat_tests) in
      rw (any, as_many) refl

  pub call-other : (o : Option sx.Rule) (n count : ℕ) (name : List ℕ) (at : ℕ) → Some n ≡ option_map (λ (r : sx.Rule). length r.params) o → (n ≡ 0 → ⊥) → (n ≡ count → ⊥)
      → wrong_call rules places o count name at ≡ wrong rules places ArgCount name at
  call-other None n count name at is some other = absurd cc
  call-other (Some r) n count name at is some other =
      let known : n ≡ length r.params = cc in
      let any : nat_eq (length r.params) 0 ≡ false = grind (arith, nat_tests) in
      let not_as_many : nat_eq (length r.params) count ≡ false = grind (arith, nat_tests) in
      rw (any, not_as_many) refl

  pub function-good : (o : Option Function) (f : Function) (name : List ℕ) (es : sx.Exprs) (n at : ℕ) → o ≡ Some f → count_exprs es ≡ n → arity f ≡ n
      → wrong_function rules places o name es at ≡ wrong_texts rules places f name es
  function-good o f name es n at is counted takes =
      let as_many : nat_eq (count_exprs es) (arity f) ≡ true = grind (arith, nat_tests) in
      ap (λ (p : Option Function). wrong_function rules places p name es at) is
      ∙ ap (λ (b : Bool). cond b [] (wrong rules places ArgCount name at) ++ wrong_texts rules places f name es) as_many

  pub function-other : (o : Option Function) (f : Function) (name : List ℕ) (es : sx.Exprs) (n at : ℕ) → o ≡ Some f → count_exprs es ≡ n → (arity f ≡ n → ⊥)
      → wrong_function rules places o name es at ≡ wrong rules places ArgCount name at ++ wrong_texts rules places f name es
  function-other o f name es n at is counted takes =
      let not_as_many : nat_eq (count_exprs es) (arity f) ≡ false = grind (arith, nat_tests) in
      ap (λ (p : Option Function). wrong_function rules places p name es at) is
      ∙ ap (λ (b : Bool). cond b [] (wrong rules places ArgCount name at) ++ wrong_texts rules places f name es) not_as_many

  pub text-good : (o : Option sx.Expr) (name : List ℕ) (e : sx.Expr) → o ≡ Some e → is_text e ≡ true → wrong_text rules places name o ≡ []
  text-good o name e is good =
      ap (wrong_text rules places name) is ∙ ap (λ (b : Bool). cond b [] (wrong rules places LiteralWanted name (place_of rules places (expr_site e)))) good

  pub text-other : (o : Option sx.Expr) (name : List ℕ) (e : sx.Expr) → o ≡ Some e → is_text e ≡ false → wrong_text rules places name o ≡ wrong rules places LiteralWanted name (place_of rules places (expr_site e))
  text-other o name e is good =
      ap (wrong_text rules places name) is ∙ ap (λ (b : Bool). cond b [] (wrong rules places LiteralWanted name (place_of rules places (expr_site e)))) good
