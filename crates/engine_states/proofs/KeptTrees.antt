-- The trees of an answer and its rows, kept one after another at a line that has none.
use Rattle.std.proofs.Common.{◌≡◌, ℕ, ◌+◌, ◌≤◌, Bool, true, false, List, [], ◌∷◌, ◌++◌, length, map, None, refl, sym, ap, ◌∙◌, arith, length-append}
use Rattle.std.specs.Prelude.{not}
use Rattle.std.specs.List.{list_all}
use Rattle.std.specs.Iterator.{Yields}
use Rattle.std.specs.Vec.Iter.{into_iter_items, into_iter_steps}
use Rattle.std.specs.declared.vec.IntoIter.{IntoIter}
use Rattle.std.proofs.lemmas.Bool.{and_parts}
use Rattle.std.proofs.lemmas.List.{append-nil, map-append}
use Rattle.std.proofs.lemmas.List.Folds.{list_all-append}
use Rattle.doc_values.specs.Tree.{Forest}
use Rattle.guard_builtins.specs.code.Seen.{is_plain, see_made}
use Rattle.guard_builtins.specs.declared.made.Made as types
use Rattle.guard_builtins.specs.declared.made.Made.TheVariants as code
use Rattle.guard_syntax.specs.declared.row.Origin.TheVariants as origin
use Rattle.guard_syntax.specs.declared.row.Row.{Row}
use Rattle.guard_syntax.specs.declared.row.Row.TheVariants as row
use Rattle.guard_syntax.specs.code.Seen.{see_file}
use Rattle.rule_meaning.specs.Values.{has_pattern}
use Rattle.rule_meaning.specs.Functions.{MadeRow, New, Kept}
use Rattle.rule_meaning.specs.StoreModel.{StoreModel, Made, made_at}
use Rattle.rule_meaning.specs.Seeing.{grown, rows_kept, trees_kept}
use Rattle.value_store.specs.code.Stores.{see_store}
use Rattle.value_store.specs.declared.store.Store.{Store}
use Rattle.query_steps.proofs.RowsKept.{rows-more, trees-more, rows-many, absent-behind, absent-later, grown-more, added}

-- ---- what was kept so far of an answer

pub record KeptSoFar (before now : Store) (line : ℕ) (taken : List types.Made) (given : List Row) : Type 0 where
  pub store : see_store now ≡ grown (see_store before) (trees_kept line 0 (map see_made taken))
  pub rows : given ≡ rows_kept line 0 (map see_made taken)
  pub file : now.file.now ≡ before.file.now

grown-none : (k : StoreModel) → k ≡ grown k []
grown-none k = ap (λ (made : List Made). record { template = k.template; file = k.file; made = made }) (sym (append-nil k.made))

pub kept-none : (s : Store) (line : ℕ) (rows : List Row) → rows ≡ [] → KeptSoFar s s line [] rows
kept-none s line rows none = record { store = grown-none (see_store s); rows = none; file = refl }

module _ (before now : Store) (line : ℕ) (taken : List types.Made) (rows : List Row) (so : KeptSoFar before now line taken rows) where
  abbrev seen : List MadeRow
  seen = map see_made taken

  rows-so-far : length rows ≡ length seen
  rows-so-far = ap length so.rows ∙ rows-many line 0 seen

  pub place-free : (n : ℕ) → n ≡ length rows → ((row : ℕ) → made_at before.made line row ≡ None) → made_at now.made line n ≡ None
  place-free n is free =
      let many : 0 + length seen ≤ n = omega (arith, is, rows-so-far) in
      ap (λ (k : StoreModel). made_at k.made line n) so.store ∙ absent-behind before.made (trees_kept line 0 seen) line n (free n) (absent-later line 0 n seen many)

  pub kept-tree : (after : Store) (tree : Forest) (n : ℕ) (m : types.Made) (given : List Row) → m ≡ code.Tree tree → n ≡ length rows
      → after.doc.now ≡ now.doc.now → after.file.now ≡ now.file.now → after.made ≡ now.made ++ record { line = line; row = n; tree = tree } ∷ []
      → given ≡ rows ++ row.Found (record { origin = origin.Made line n; node = 0; key = false }) ∷ [] → KeptSoFar before after line (taken ++ m ∷ []) given
  kept-tree after tree n m given is there doc file made gives =
      let at : n ≡ 0 + length seen = omega (arith, there, rows-so-far) in
      let all : map see_made (taken ++ m ∷ []) ≡ seen ++ New tree ∷ [] = map-append see_made taken (m ∷ []) ∙ ap (λ (x : types.Made). seen ++ see_made x ∷ []) is in
      record {
        store =
            added now after (record { line = line; row = n; tree = tree }) doc file made
            ∙ ap (λ (k : StoreModel). grown k (record { line = line; row = n; tree = tree } ∷ [])) so.store
            ∙ grown-more (see_store before) (trees_kept line 0 seen) (record { line = line; row = n; tree = tree } ∷ [])
            ∙ ap (grown (see_store before)) (sym (ap (trees_kept line 0) all ∙ trees-more line 0 n seen (New tree ∷ []) at));
        rows = gives ∙ ap (λ (rs : List Row). rs ++ row.Found (record { origin = origin.Made line n; node = 0; key = false }) ∷ []) so.rows
            ∙ sym (ap (rows_kept line 0) all ∙ rows-more line 0 n seen (New tree ∷ []) at);
        file = file ∙ so.file;
      }

  pub kept-row : (r : Row) (m : types.Made) (given : List Row) → m ≡ code.Kept r → given ≡ rows ++ r ∷ [] → KeptSoFar before now line (taken ++ m ∷ []) given
  kept-row r m given is gives =
      let all : map see_made (taken ++ m ∷ []) ≡ seen ++ Kept r ∷ [] = map-append see_made taken (m ∷ []) ∙ ap (λ (x : types.Made). seen ++ see_made x ∷ []) is in
      record {
        store = so.store ∙ ap (grown (see_store before)) (sym (ap (trees_kept line 0) all ∙ trees-more line 0 (length seen) seen (Kept r ∷ []) (omega arith) ∙ append-nil (trees_kept line 0 seen)));
        rows = gives ∙ ap (λ (rs : List Row). rs ++ r ∷ []) so.rows ∙ sym (ap (rows_kept line 0) all ∙ rows-more line 0 (length seen) seen (Kept r ∷ []) (omega arith));
        file = so.file;
      }

  -- the store has grown, and so it has where one more tree was added, or none
  pub kept-grows : (made : List Made) × (see_store now ≡ grown (see_store before) made)
  kept-grows = (trees_kept line 0 seen, so.store)

  pub added-grows : (after : Store) (m : Made) → after.doc.now ≡ now.doc.now → after.file.now ≡ now.file.now → after.made ≡ now.made ++ m ∷ []
      → (made : List Made) × (see_store after ≡ grown (see_store before) made)
  added-grows after m doc file made = (
    trees_kept line 0 seen ++ m ∷ [],
    added now after m doc file made ∙ ap (λ (k : StoreModel). grown k (m ∷ [])) so.store ∙ grown-more (see_store before) (trees_kept line 0 seen) (m ∷ []),
  )

  pub same-grows : (after : Store) → after.doc.now ≡ now.doc.now → after.file.now ≡ now.file.now → after.made ≡ now.made → (made : List Made) × (see_store after ≡ grown (see_store before) made)
  same-grows after doc file made = (
    trees_kept line 0 seen,
    ap (λ (d : Forest). record { template = d; file = see_file after.file.now.raw; made = after.made }) doc
        ∙ ap (λ f. record { template = now.doc.now; file = see_file f.raw; made = after.made }) file
        ∙ ap (λ (ms : List Made). record { template = now.doc.now; file = see_file now.file.now.raw; made = ms }) made
        ∙ so.store,
  )

  -- the whole answer
  module _ (answer : List types.Made) (whole : taken ≡ answer) where
    pub store-whole : see_store now ≡ grown (see_store before) (trees_kept line 0 (map see_made answer))
    store-whole = so.store ∙ ap (λ (xs : List types.Made). grown (see_store before) (trees_kept line 0 (map see_made xs))) whole

    pub rows-whole : rows ≡ rows_kept line 0 (map see_made answer)
    rows-whole = so.rows ∙ ap (λ (xs : List types.Made). rows_kept line 0 (map see_made xs)) whole

-- ---- what an iterator over a vector has given

pub taken-front : {X A : Type 0} (s : IntoIter X A) (xs : List X) (t : IntoIter X A) → Yields into_iter_steps s xs t → into_iter_items s ≡ xs ++ into_iter_items t
taken-front s [] t y = ap into_iter_items y
taken-front s (x ∷ xs) t y = y.1.0 ∙ ap (λ ys. x ∷ ys) (taken-front y.0 xs t y.2)

-- the next item is plain where all are
pub plain-next : (all front rest : List types.Made) (m : types.Made) → all ≡ front ++ m ∷ rest → list_all is_plain all ≡ true → is_plain m ≡ true
plain-next all front rest m is plain =
    let parts : (list_all is_plain front ≡ true) × (list_all is_plain (m ∷ rest) ≡ true) = and_parts _ _ (sym (list_all-append is_plain front (m ∷ rest)) ∙ ap (list_all is_plain) (sym is) ∙ plain) in
    let both : (is_plain m ≡ true) × (list_all is_plain rest ≡ true) = and_parts _ _ parts.1 in
    both.0

pub plain-tree : (m : types.Made) (tree : Forest) → m ≡ code.Tree tree → is_plain m ≡ true → has_pattern tree ≡ false
plain-tree m tree is plain = by (has_pattern tree) (sym (ap is_plain is) ∙ plain)
  where
    by : (b : Bool) → not b ≡ true → b ≡ false
    by true h = absurd cc
    by false h = refl

-- all are taken where they are as many
pub whole-taken : {X : Type 0} (all taken rest : List X) → all ≡ taken ++ rest → length taken ≡ length all → taken ≡ all
whole-taken all taken [] is many = sym (is ∙ append-nil taken)
whole-taken all taken (x ∷ rest) is many = absurd (omega (arith, ap length is, length-append taken (x ∷ rest), many))
