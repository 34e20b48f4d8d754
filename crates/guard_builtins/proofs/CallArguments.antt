-- The arguments of a call by their indexes.
use Rattle.std.proofs.Common.{◌≡◌, ℕ, zero, suc, ◌<◌, ◌≤◌, List, [], ◌∷◌, length, map, get_or, Vec, Global, Result, Ok, Err, IfOk, refl, sym, ap, subst, ◌∙◌, arith}
use Rattle.guard_syntax.specs.declared.row.Row.{Row}
use Rattle.guard_syntax.specs.declared.function.Function.{Function}
use Rattle.guard_syntax.specs.declared.function.Function.TheVariants as function
use Rattle.rule_names.specs.Uses.{arity}
use Rattle.rule_meaning.specs.Functions.{AreRows, Functions, MadeRow, argument}
use Rattle.rule_meaning.specs.StoreModel.{StoreModel}
use Rattle.value_functions.specs.code.Gives.{gives}
use Rattle.value_functions.specs.declared.change.Change.{Change}
use Rattle.guard_builtins.specs.code.Seen.{see_made, see_rows}
use Rattle.guard_builtins.specs.declared.made.Made.{Made}

pub argument-is : (args : List (Vec Row Global)) (i : ℕ) (x : Vec Row Global) → i < length args → x ≡ get_or args i x → argument (map see_rows args) i ≡ x.items
argument-is [] i x within is = absurd (omega arith)
argument-is (y ∷ ys) zero x within is = ap see_rows (sym is)
argument-is (y ∷ ys) (suc i) x within is = argument-is ys i x (omega arith) is

pub argument-past : (args : List (Vec Row Global)) (i : ℕ) → length args ≤ i → argument (map see_rows args) i ≡ []
argument-past [] i past = refl
argument-past (y ∷ ys) zero past = absurd (omega arith)
argument-past (y ∷ ys) (suc i) past = argument-past ys i (omega arith)

-- rows that arguments give are those that the arguments of a call give
pub called-with-three : {E : Type 0} (r : Result (Vec Made Global) E) (G : (rows second third : List Row) → List MadeRow → Type 0) (args : List (Vec Row Global)) (x y z : Vec Row Global) (a b c : List Row) → length args ≡ 3
    → x ≡ get_or args 0 x → y ≡ get_or args 1 y → z ≡ get_or args 2 z → a ≡ x.items → b ≡ y.items → c ≡ z.items
    → IfOk r (λ made. G a b c (map see_made made.items))
    → IfOk r (λ made. G (argument (map see_rows args) 0) (argument (map see_rows args) 1) (argument (map see_rows args) 2) (map see_made made.items))
called-with-three r G args x y z a b c three is_x is_y is_z is_a is_b is_c given =
    let first : a ≡ argument (map see_rows args) 0 = is_a ∙ sym (argument-is args 0 x (omega arith) is_x) in
    let second : b ≡ argument (map see_rows args) 1 = is_b ∙ sym (argument-is args 1 y (omega arith) is_y) in
    let third : c ≡ argument (map see_rows args) 2 = is_c ∙ sym (argument-is args 2 z (omega arith) is_z) in
    subst (λ p. IfOk r (λ made. G p (argument (map see_rows args) 1) (argument (map see_rows args) 2) (map see_made made.items))) first
    (subst (λ p. IfOk r (λ made. G a p (argument (map see_rows args) 2) (map see_made made.items))) second
    (subst (λ p. IfOk r (λ made. G a b p (map see_made made.items))) third given))

arity-some : (f : Function) → 0 < arity f
arity-some function.Count = omega arith
arity-some function.JsonParse = omega arith
arity-some function.RegexReplace = omega arith
arity-some function.Join = omega arith
arity-some function.ToLower = omega arith
arity-some function.ToUpper = omega arith
arity-some function.Substring = omega arith
arity-some function.UrlDecode = omega arith
arity-some function.ParseInt = omega arith
arity-some function.ParseFloat = omega arith
arity-some function.ParseBoolean = omega arith
arity-some function.ParseString = omega arith

-- the rows of the first argument
pub first-argument : (f : Function) (args : List (Vec Row Global)) (x : Vec Row Global) (rows : List Row) → length args ≡ arity f → x ≡ get_or args 0 x → rows ≡ x.items → rows ≡ argument (map see_rows args) 0
first-argument f args x rows count is are = let some = arity-some f in are ∙ sym (argument-is args 0 x (omega arith) is)

-- a change gives for the first argument's rows what a function answers
abbrev pub Answers : StoreModel → Function → Change → ℕ → List (List Row) → Type 0
Answers k f change site args = (made : List MadeRow) → AreRows (gives change) k site (argument args 0) made → Functions k f site args made

pub answers-so : (k : StoreModel) (f g : Function) (change code : Change) (site : ℕ) (args : List (List Row)) → f ≡ g → change ≡ code → Answers k g code site args → Answers k f change site args
answers-so k f g change code site args is_f is_change same = λ made are.
    subst (λ h. Functions k h site args made) (sym is_f) (same made (subst (λ c. AreRows (gives c) k site (argument args 0) made) is_change are))

pub called-by-change : {E : Type 0} (r : Result (Vec Made Global) E) (k : StoreModel) (f : Function) (change : Change) (site : ℕ) (args : List (List Row)) (rows : List Row) → Answers k f change site args → rows ≡ argument args 0
    → IfOk r (λ made. AreRows (gives change) k site rows (map see_made made.items)) → IfOk r (λ made. Functions k f site args (map see_made made.items))
called-by-change (Ok made) k f change site args rows answers first given = answers (map see_made made.items) (subst (λ p. AreRows (gives change) k site p (map see_made made.items)) first given)
called-by-change (Err e) k f change site args rows answers first given = tt
