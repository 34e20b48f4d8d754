-- The first pattern that cannot be read is one, and where there is one, not every pattern is read. By induction on those before it.
use Rattle.std.proofs.Common.{◌≡◌, ℕ, suc, ◌++◌, List, [], ◌∷◌, Option, true, false, IsSome, IsNone, All, sym, ap, ◌∙◌, subst, arith}
use Rattle.guard_syntax.specs.Syntax.{File}
use Rattle.rule_meaning.specs.NextPattern.{IsNextPattern}
use Rattle.rule_meaning.specs.PatternMatch.{pattern_in}
use Rattle.rule_meaning.specs.Patterns.{Written, patterns_of}

abbrev pub IsRead : Written → Type 0
IsRead w = IsSome (pattern_in w.text)

all-head : (w : Written) (ws : List Written) → All IsRead (w ∷ ws) → IsRead w
all-head w ws all = all 0 w (omega arith)

all-tail : (w : Written) (ws : List Written) → All IsRead (w ∷ ws) → All IsRead ws
all-tail w ws all = λ k d within. all (suc k) d (omega (arith, within))

clash : {A : Type 0} (o : Option A) → IsSome o → IsNone o → ⊥
clash o some none = let both : true ≡ false = sym some ∙ none in cc

heads : (v w : Written) (vs ws : List Written) → v ∷ vs ≡ w ∷ ws → v ≡ w
heads v w vs ws same = cc

tails : (v w : Written) (vs ws : List Written) → v ∷ vs ≡ w ∷ ws → vs ≡ ws
tails v w vs ws same = cc

first-one : (xs ys : List Written) (v w : Written) (vs ws : List Written) → xs ++ (v ∷ vs) ≡ ys ++ (w ∷ ws) → All IsRead xs → All IsRead ys
    → IsNone (pattern_in v.text) → IsNone (pattern_in w.text) → v ≡ w
first-one [] [] v w vs ws same read read' bad bad' = heads v w vs ws same
first-one [] (y ∷ ys) v w vs ws same read read' bad bad' =
    absurd (clash (pattern_in v.text) (subst IsRead (sym (heads v y vs (ys ++ (w ∷ ws)) same)) (all-head y ys read')) bad)
first-one (x ∷ xs) [] v w vs ws same read read' bad bad' =
    absurd (clash (pattern_in w.text) (subst IsRead (heads x w (xs ++ (v ∷ vs)) ws same) (all-head x xs read)) bad')
first-one (x ∷ xs) (y ∷ ys) v w vs ws same read read' bad bad' =
    first-one xs ys v w vs ws (tails x y (xs ++ (v ∷ vs)) (ys ++ (w ∷ ws)) same) (all-tail x xs read) (all-tail y ys read') bad bad'

all-unread : (xs : List Written) (v : Written) (vs : List Written) → All IsRead (xs ++ (v ∷ vs)) → IsNone (pattern_in v.text) → ⊥
all-unread [] v vs all bad = clash (pattern_in v.text) (all-head v vs all) bad
all-unread (x ∷ xs) v vs all bad = all-unread xs v vs (all-tail x (xs ++ (v ∷ vs)) all) bad

pub next-one : (f : File) (text : List ℕ) (at : ℕ) (other : List ℕ) (place : ℕ) → IsNextPattern f text at → IsNextPattern f other place
    → IsNone (pattern_in text) → IsNone (pattern_in other) → at ≡ place
next-one f text at other place (xs, vs, is, read) (ys, ws, is', read') bad bad' =
    let v : Written = record { text = text; at = at } in
    let w : Written = record { text = other; at = place } in
    ap (λ (o : Written). o.at) (first-one xs ys v w vs ws (sym is ∙ is') read read' bad bad')

pub next-apart : (f : File) (text : List ℕ) (at : ℕ) → IsNextPattern f text at → IsNone (pattern_in text) → All IsRead (patterns_of f) → ⊥
next-apart f text at (xs, vs, is, read) bad all =
    all-unread xs (record { text = text; at = at }) vs (subst (All IsRead) is all) bad
