-- The rows of an answer and its trees that are kept at a line, with more behind them.
use Rattle.std.proofs.Common.{◌≡◌, ℕ, suc, ◌+◌, ◌≤◌, Bool, true, false, ◌&&◌, List, [], ◌∷◌, ◌++◌, length, Some, None, refl, ap, ◌∙◌, arith, if◌then◌else◌, append_assoc}
use Rattle.std.specs.Prelude.{◌==◌}
use Rattle.std.proofs.lemmas.Bool.Decides.{nat_tests}
use Rattle.doc_values.specs.Tree.{Forest}
use Rattle.guard_syntax.specs.code.Seen.{see_file}
use Rattle.guard_syntax.specs.declared.row.Origin.TheVariants as origin
use Rattle.guard_syntax.specs.declared.row.Row.{Row}
use Rattle.guard_syntax.specs.declared.row.Row.TheVariants as row
use Rattle.rule_meaning.specs.Functions.{MadeRow, New, Kept}
use Rattle.rule_meaning.specs.StoreModel.{StoreModel, Made, made_at}
use Rattle.value_store.specs.code.Stores.{see_store}
use Rattle.value_store.specs.declared.store.Store.{Store}
use Rattle.rule_meaning.specs.Seeing.{grown, rows_kept, trees_kept}

pub rows-more : (line at end : ℕ) (xs ys : List MadeRow) → end ≡ at + length xs → rows_kept line at (xs ++ ys) ≡ rows_kept line at xs ++ rows_kept line end ys
rows-more line at end [] ys is = let here : at ≡ end = omega arith in ap (λ n. rows_kept line n ys) here
rows-more line at end (New tree ∷ xs) ys is =
    ap (λ (rows : List Row). row.Found (record { origin = origin.Made line at; node = 0; key = false }) ∷ rows) (rows-more line (suc at) end xs ys (omega arith))
rows-more line at end (Kept r ∷ xs) ys is = ap (λ (rows : List Row). r ∷ rows) (rows-more line (suc at) end xs ys (omega arith))

pub trees-more : (line at end : ℕ) (xs ys : List MadeRow) → end ≡ at + length xs → trees_kept line at (xs ++ ys) ≡ trees_kept line at xs ++ trees_kept line end ys
trees-more line at end [] ys is = let here : at ≡ end = omega arith in ap (λ n. trees_kept line n ys) here
trees-more line at end (New tree ∷ xs) ys is = ap (λ (trees : List Made). record { line = line; row = at; tree = tree } ∷ trees) (trees-more line (suc at) end xs ys (omega arith))
trees-more line at end (Kept r ∷ xs) ys is = trees-more line (suc at) end xs ys (omega arith)

pub rows-many : (line at : ℕ) (xs : List MadeRow) → length (rows_kept line at xs) ≡ length xs
rows-many line at [] = refl
rows-many line at (New tree ∷ xs) = ap suc (rows-many line (suc at) xs)
rows-many line at (Kept r ∷ xs) = ap suc (rows-many line (suc at) xs)

-- a place that has no tree
pub absent-behind : (xs ys : List Made) (line at : ℕ) → made_at xs line at ≡ None → made_at ys line at ≡ None → made_at (xs ++ ys) line at ≡ None
absent-behind [] ys line at none more = more
absent-behind (m ∷ xs) ys line at none more = by (m.line == line && m.row == at) none (λ is. absent-behind xs ys line at is more)
  where
    by : (b : Bool) → (if b then Some m.tree else made_at xs line at) ≡ None → (made_at xs line at ≡ None → made_at (xs ++ ys) line at ≡ None)
        → (if b then Some m.tree else made_at (xs ++ ys) line at) ≡ None
    by true is rest = absurd cc
    by false is rest = rest is

pub absent-later : (line at k : ℕ) (xs : List MadeRow) → at + length xs ≤ k → made_at (trees_kept line at xs) line k ≡ None
absent-later line at k [] less = refl
absent-later line at k (New tree ∷ xs) less =
    let other : (line == line && at == k) ≡ false = grind (arith, nat_tests) in
    ap (λ (b : Bool). if b then Some tree else made_at (trees_kept line (suc at) xs) line k) other ∙ absent-later line (suc at) k xs (omega arith)
absent-later line at k (Kept r ∷ xs) less = absent-later line (suc at) k xs (omega arith)

pub grown-more : (k : StoreModel) (some more : List Made) → grown (grown k some) more ≡ grown k (some ++ more)
grown-more k some more = ap (λ (made : List Made). record { template = k.template; file = k.file; made = made }) (append_assoc k.made some more)

-- a store with one tree more
pub added : (before now : Store) (m : Made) → now.doc.now ≡ before.doc.now → now.file.now ≡ before.file.now → now.made ≡ before.made ++ m ∷ [] → see_store now ≡ grown (see_store before) (m ∷ [])
added before now m doc file made =
    ap (λ (d : Forest). record { template = d; file = see_file now.file.now.raw; made = now.made }) doc
    ∙ ap (λ f. record { template = before.doc.now; file = see_file f.raw; made = now.made }) file
    ∙ ap (λ (ms : List Made). record { template = before.doc.now; file = see_file before.file.now.raw; made = ms }) made
