-- The path of a node is that of the collection that it stands in, and one step more.
use Rattle.std.proofs.Common.{◌≡◌, ◌+◌, ◌-◌, ◌<◌, ◌≤◌, ℕ, zero, suc, Bool, true, false, List, [], ◌∷◌, ◌++◌, Option, Some, None, drop, refl, sym, ap, subst, ◌∙◌, inl, inr, arith}
use Rattle.std.specs.Prelude.{nat_lt, if◌then◌else◌}
use Rattle.std.proofs.lemmas.Bool.{cases_lt, cases_eq, lt-ltb, le-ltb, true≢false}
use Rattle.std.proofs.lemmas.List.{flat_map_more}
use Rattle.std.proofs.lemmas.Option.{none-some}
use Rattle.doc_values.specs.declared.kind.Kind.{Kind}
use Rattle.doc_values.specs.declared.kind.Kind.TheVariants as kind
use Rattle.doc_values.specs.Tree.{Label, Forest, Nil, Node, size, count, snoc, is_map, holds_values, AreValues, IsKeyed, IsTree}
use Rattle.doc_values.specs.Places.{Spot, spot_in, spot_of, label_at, first_label, index_if, index_of, index_under}
use Rattle.doc_values.proofs.Lookups.{parent-root}
use Rattle.doc_values.proofs.Among.{same_nat, other_nat, find_in, find_past}
use Rattle.report_text.specs.Paths.{Down, step_to, step_text, steps_in, path_of, path_text}

-- how a node stands among values side by side or in them: as one of them, or in the collection with the number `q`
data Stood (keyed : Bool) (p : Option ℕ) (i at : ℕ) (f : Forest) (id : ℕ) (s : Spot) (l : Label) (steps : List Down) : Type 0 where
  on_top : s.parent ≡ p → steps ≡ step_to s.index l.key ∷ [] → (l.key ≡ None → keyed ≡ false) → Stood keyed p i at f id s l steps
  in_one : (q : ℕ) → s.parent ≡ Some q → at ≤ q → q < id → q < at + size f → steps ≡ steps_in i at f q ++ step_to s.index l.key ∷ []
      → (l.key ≡ None → index_if (label_at f (q - at)).kind s.index ≡ Some s.index) → Stood keyed p i at f id s l steps

moved : (keyed : Bool) (p : Option ℕ) (i at : ℕ) (f : Forest) (id : ℕ) (s s' : Spot) (l l' : Label) (t t' : List Down)
    → s' ≡ s → l' ≡ l → t' ≡ t → Stood keyed p i at f id s l t → Stood keyed p i at f id s' l' t'
moved keyed p i at f id s s' l l' t t' a b c h =
    subst (λ (x : Spot). Stood keyed p i at f id x l' t') (sym a)
    (subst (λ (x : Label). Stood keyed p i at f id s x t') (sym b)
    (subst (λ (x : List Down). Stood keyed p i at f id s l x) (sym c) h))

abbrev spot_by : (p : Option ℕ) (i at id : ℕ) (kids rest : Forest) (here inside : Bool) → Spot
spot_by p i at id kids rest here inside =
    if here then record { parent = p; index = i } else (if inside then spot_in (Some at) 0 (at + 1) kids id else spot_in p (i + 1) (at + 1 + size kids) rest id)

abbrev steps_by : (i at : ℕ) (l : Label) (kids rest : Forest) (id : ℕ) (here inside : Bool) → List Down
steps_by i at l kids rest id here inside =
    if here then step_to i l.key ∷ [] else (if inside then step_to i l.key ∷ steps_in 0 (at + 1) kids id else steps_in (i + 1) (at + 1 + size kids) rest id)

-- which of these they are
spot-here : (p : Option ℕ) (i at id : ℕ) (l : Label) (kids rest : Forest) → id ≡ at → spot_in p i at (Node l kids rest) id ≡ record { parent = p; index = i }
spot-here p i at id l kids rest e = ap (λ b. spot_by p i at id kids rest b (nat_lt id (at + 1 + size kids))) (same_nat id at e)

spot-inside : (p : Option ℕ) (i at id : ℕ) (l : Label) (kids rest : Forest) → (id ≡ at → ⊥) → id < at + 1 + size kids → spot_in p i at (Node l kids rest) id ≡ spot_in (Some at) 0 (at + 1) kids id
spot-inside p i at id l kids rest n h =
    ap (λ b. spot_by p i at id kids rest b (nat_lt id (at + 1 + size kids))) (other_nat id at n) ∙ ap (λ b. spot_by p i at id kids rest false b) (lt-ltb id (at + 1 + size kids) h)

spot-behind : (p : Option ℕ) (i at id : ℕ) (l : Label) (kids rest : Forest) → (id ≡ at → ⊥) → at + 1 + size kids ≤ id → spot_in p i at (Node l kids rest) id ≡ spot_in p (i + 1) (at + 1 + size kids) rest id
spot-behind p i at id l kids rest n h =
    ap (λ b. spot_by p i at id kids rest b (nat_lt id (at + 1 + size kids))) (other_nat id at n) ∙ ap (λ b. spot_by p i at id kids rest false b) (le-ltb id (at + 1 + size kids) h)

pub steps-here : (i at id : ℕ) (l : Label) (kids rest : Forest) → id ≡ at → steps_in i at (Node l kids rest) id ≡ step_to i l.key ∷ []
steps-here i at id l kids rest e = ap (λ b. steps_by i at l kids rest id b (nat_lt id (at + 1 + size kids))) (same_nat id at e)

pub steps-inside : (i at id : ℕ) (l : Label) (kids rest : Forest) → (id ≡ at → ⊥) → id < at + 1 + size kids → steps_in i at (Node l kids rest) id ≡ step_to i l.key ∷ steps_in 0 (at + 1) kids id
steps-inside i at id l kids rest n h =
    ap (λ b. steps_by i at l kids rest id b (nat_lt id (at + 1 + size kids))) (other_nat id at n) ∙ ap (λ b. steps_by i at l kids rest id false b) (lt-ltb id (at + 1 + size kids) h)

pub steps-behind : (i at id : ℕ) (l : Label) (kids rest : Forest) → (id ≡ at → ⊥) → at + 1 + size kids ≤ id → steps_in i at (Node l kids rest) id ≡ steps_in (i + 1) (at + 1 + size kids) rest id
steps-behind i at id l kids rest n h =
    ap (λ b. steps_by i at l kids rest id b (nat_lt id (at + 1 + size kids))) (other_nat id at n) ∙ ap (λ b. steps_by i at l kids rest id false b) (le-ltb id (at + 1 + size kids) h)

label-here : (at id : ℕ) (l : Label) (kids rest : Forest) → id ≡ at → label_at (Node l kids rest) (id - at) ≡ l
label-here at id l kids rest e = let z : id - at ≡ 0 = omega arith in ap (label_at (Node l kids rest)) z

label-inside : (at id : ℕ) (l : Label) (kids rest : Forest) → at < id → id < at + 1 + size kids → label_at (Node l kids rest) (id - at) ≡ label_at kids (id - (at + 1))
label-inside at id l kids rest a h =
    let z : id - at ≡ suc (id - (at + 1)) = omega arith in
    let q : id - (at + 1) < size kids = omega arith in
    ap (label_at (Node l kids rest)) z ∙ ap first_label (find_in l kids rest (id - (at + 1)) q)

label-behind : (at id : ℕ) (l : Label) (kids rest : Forest) → at + 1 + size kids ≤ id → label_at (Node l kids rest) (id - at) ≡ label_at rest (id - (at + 1 + size kids))
label-behind at id l kids rest h =
    let z : id - at ≡ suc (id - (at + 1)) = omega arith in
    let q : size kids ≤ id - (at + 1) = omega arith in
    let w : id - (at + 1) - size kids ≡ id - (at + 1 + size kids) = omega arith in
    ap (label_at (Node l kids rest)) z ∙ ap first_label (find_past l kids rest (id - (at + 1)) q) ∙ ap (label_at rest) w

-- a collection that is no map is a list
listed : (k : Kind) (n : ℕ) → is_map k ≡ false → (holds_values k ≡ false → ⊥) → index_if k n ≡ Some n
listed kind.Null n m h = absurd (h refl)
listed (kind.Truth b) n m h = absurd (h refl)
listed (kind.Whole z) n m h = absurd (h refl)
listed (kind.Fraction d) n m h = absurd (h refl)
listed kind.Text n m h = absurd (h refl)
listed kind.List n m h = refl
listed kind.Map n m h = absurd (true≢false m)
listed kind.Pattern n m h = absurd (h refl)
listed (kind.Limits r) n m h = absurd (h refl)

nothing-in : (kids : Forest) → kids ≡ Nil → size kids ≡ 0
nothing-in kids e = ap size e

-- in the values in a node
stood-inside : (keyed : Bool) (p : Option ℕ) (i at id : ℕ) (l : Label) (kids rest : Forest) → (holds_values l.kind ≡ false → kids ≡ Nil) → at < id → id < at + 1 + size kids
    → Stood (is_map l.kind) (Some at) 0 (at + 1) kids id (spot_in (Some at) 0 (at + 1) kids id) (label_at kids (id - (at + 1))) (steps_in 0 (at + 1) kids id)
    → Stood keyed p i at (Node l kids rest) id (spot_in (Some at) 0 (at + 1) kids id) (label_at kids (id - (at + 1))) (step_to i l.key ∷ steps_in 0 (at + 1) kids id)
stood-inside keyed p i at id l kids rest bare a h (on_top parent steps unkeyed) =
    let s : Spot = spot_in (Some at) 0 (at + 1) kids id in
    in_one at parent (omega arith) a (omega arith)
    (ap (λ t. step_to i l.key ∷ t) steps ∙ ap (λ t. t ++ step_to s.index (label_at kids (id - (at + 1))).key ∷ []) (sym (steps-here i at at l kids rest refl)))
    (λ none. ap (λ (x : Label). index_if x.kind s.index) (label-here at at l kids rest refl)
    ∙ listed l.kind s.index (unkeyed none) (λ no. let none-in = nothing-in kids (bare no) in absurd (omega arith)))
stood-inside keyed p i at id l kids rest bare a h (in_one q parent low high within steps unkeyed) =
    let s : Spot = spot_in (Some at) 0 (at + 1) kids id in
    let above : at < q = omega arith in
    let below : q < at + 1 + size kids = omega arith in
    in_one q parent (omega arith) high (omega arith)
    (ap (λ t. step_to i l.key ∷ t) steps
    ∙ ap (λ t. t ++ step_to s.index (label_at kids (id - (at + 1))).key ∷ []) (sym (steps-inside i at q l kids rest (λ e. omega arith) below)))
    (λ none. ap (λ (x : Label). index_if x.kind s.index) (label-inside at q l kids rest above below) ∙ unkeyed none)

-- in the values behind a node
stood-behind : (keyed : Bool) (p : Option ℕ) (i at id : ℕ) (l : Label) (kids rest : Forest) → at + 1 + size kids ≤ id → (s : Spot) (x : Label) (t : List Down)
    → Stood keyed p (i + 1) (at + 1 + size kids) rest id s x t → Stood keyed p i at (Node l kids rest) id s x t
stood-behind keyed p i at id l kids rest h s x t (on_top parent steps unkeyed) = on_top parent steps unkeyed
stood-behind keyed p i at id l kids rest h s x t (in_one q parent low high within steps unkeyed) =
    in_one q parent (omega arith) high (omega arith)
    (steps ∙ ap (λ u. u ++ step_to s.index x.key ∷ []) (sym (steps-behind i at q l kids rest (λ e. omega arith) low)))
    (λ none. ap (λ (y : Label). index_if y.kind s.index) (label-behind at q l kids rest low) ∙ unkeyed none)

stood : (keyed : Bool) (before : Forest) (p : Option ℕ) (i at id : ℕ) (f : Forest) → AreValues keyed before f → at ≤ id → id < at + size f
    → Stood keyed p i at f id (spot_in p i at f id) (label_at f (id - at)) (steps_in i at f id)
stood keyed before p i at id Nil v low high = absurd (omega arith)
stood keyed before p i at id (Node l kids rest) v low high = elim (cases_eq id at) [
  | inl e ↦
      moved keyed p i at (Node l kids rest) id (record { parent = p; index = i }) _ l _ (step_to i l.key ∷ []) _
      (spot-here p i at id l kids rest e) (label-here at id l kids rest e) (steps-here i at id l kids rest e)
      (on_top refl refl (unkeyed-here keyed before l.key v.0))
  | inr n ↦ elim (cases_lt id (at + 1 + size kids)) [
    | inl h ↦
        let a : at < id = omega arith in
        moved keyed p i at (Node l kids rest) id (spot_in (Some at) 0 (at + 1) kids id) _ (label_at kids (id - (at + 1))) _ (step_to i l.key ∷ steps_in 0 (at + 1) kids id) _
        (spot-inside p i at id l kids rest n h) (label-inside at id l kids rest a h) (steps-inside i at id l kids rest n h)
        (stood-inside keyed p i at id l kids rest v.2 a h (stood (is_map l.kind) Nil (Some at) 0 (at + 1) id kids v.3 (omega arith) (omega arith)))
    | inr h ↦
        moved keyed p i at (Node l kids rest) id (spot_in p (i + 1) (at + 1 + size kids) rest id) _ (label_at rest (id - (at + 1 + size kids))) _ (steps_in (i + 1) (at + 1 + size kids) rest id) _
        (spot-behind p i at id l kids rest n h) (label-behind at id l kids rest h) (steps-behind i at id l kids rest n h)
        (stood-behind keyed p i at id l kids rest h _ _ _ (stood keyed (snoc before l kids) p (i + 1) (at + 1 + size kids) id rest v.4 h (omega arith)))
  ]
]
  where
    unkeyed-here : (keyed : Bool) (before : Forest) (key : Option (List ℕ)) → IsKeyed keyed before key → key ≡ None → keyed ≡ false
    unkeyed-here false before key h none = refl
    unkeyed-here true before None h none = absurd h
    unkeyed-here true before (Some k) h none = absurd (none-some k (sym none))

-- a node that is not the root
pub record IsBelow (f : Forest) (id p : ℕ) : Type 0 where
  pub low : p < id
  pub path : path_of f id ≡ path_of f p ++ step_to (spot_of f id).index (label_at f id).key ∷ []
  pub item : (label_at f id).key ≡ None → index_of f id ≡ Some (spot_of f id).index

-- the path of a tree's node by its steps among values side by side, of which the tree is the first
path-steps : (l : Label) (kids rest : Forest) (id : ℕ) → id < 0 + 1 + size kids → steps_in 0 0 (Node l kids rest) id ≡ step_to 0 l.key ∷ path_of (Node l kids rest) id
path-steps l kids rest zero h = refl
path-steps l kids rest (suc n) h =
    steps-inside 0 0 (suc n) l kids rest (λ e. omega arith) h
    ∙ ap (λ b. step_to 0 l.key ∷ (if b then [] else steps_in 0 1 kids (suc n))) (sym (other_nat (suc n) 0 (λ e. omega arith)))

only-root : (rest : Forest) → suc (count rest) ≡ 1 → size rest ≡ 0
only-root Nil h = refl
only-root (Node l kids rest) h = absurd (omega arith)

pub inner-same : (a b : ℕ) → Some a ≡ Some b → a ≡ b
inner-same a b e = cc

path-below : (l : Label) (kids rest : Forest) (id p : ℕ) → size rest ≡ 0 → id < suc (size kids + size rest) → (spot_of (Node l kids rest) id).parent ≡ Some p
    → Stood false None 0 0 (Node l kids rest) id (spot_of (Node l kids rest) id) (label_at (Node l kids rest) (id - 0)) (steps_in 0 0 (Node l kids rest) id)
    → IsBelow (Node l kids rest) id p
path-below l kids rest id p none high is (on_top parent steps unkeyed) = absurd (none-some p (sym parent ∙ is))
path-below l kids rest id p none high is (in_one q parent low under within steps unkeyed) =
    let f : Forest = Node l kids rest in
    let s : Spot = spot_of f id in
    let same : q ≡ p = inner-same q p (sym parent ∙ is) in
    let z : id - 0 ≡ id = omega arith in
    let y : q - 0 ≡ p = omega arith in
    let key : (label_at f (id - 0)).key ≡ (label_at f id).key = ap (λ n. (label_at f n).key) z in
    let whole : step_to 0 l.key ∷ path_of f id ≡ step_to 0 l.key ∷ (path_of f p ++ step_to s.index (label_at f id).key ∷ []) =
    sym (path-steps l kids rest id (omega arith)) ∙ steps
    ∙ ap (λ n. steps_in 0 0 f n ++ step_to s.index (label_at f (id - 0)).key ∷ []) same
    ∙ ap (λ t. t ++ step_to s.index (label_at f (id - 0)).key ∷ []) (path-steps l kids rest p (omega arith))
    ∙ ap (λ k. (step_to 0 l.key ∷ path_of f p) ++ step_to s.index k ∷ []) key in
    record {
      low = omega arith;
      path = ap (drop 1) whole;
      item = λ bare. ap (λ o. index_under f o s.index) is ∙ ap (λ n. index_if (label_at f n).kind s.index) (sym y) ∙ unkeyed (key ∙ bare);
    }

pub below-parent : (f : Forest) (id p : ℕ) → IsTree f → id < size f → (spot_of f id).parent ≡ Some p → IsBelow f id p
below-parent Nil id p t h is = absurd (omega arith)
below-parent (Node l kids rest) id p t h is =
    path-below l kids rest id p (only-root rest t.one) h is (stood false Nil None 0 0 id (Node l kids rest) t.values (omega arith) (omega arith))

-- the path of the root has no step
pub root-path : (f : Forest) (id : ℕ) → IsTree f → id < size f → (spot_of f id).parent ≡ None → path_of f id ≡ []
root-path f id t h is = ap (path_of f) (parent-root f id t h is) ∙ empty f
  where
    empty : (f : Forest) → path_of f 0 ≡ []
    empty Nil = refl
    empty (Node l kids rest) = refl

-- the text of a node's path, where that of the collection stands already
pub one-more : (line t : List ℕ) (f g : Forest) (id p : ℕ) (d : Down) → IsBelow f id p → g ≡ f → t ≡ line ++ path_text (path_of g p)
    → d ≡ step_to (spot_of f id).index (label_at f id).key → t ++ step_text d ≡ line ++ path_text (path_of f id)
one-more line t f g id p d below same is down =
    ap (λ u. u ++ step_text d) (is ∙ ap (λ h. line ++ path_text (path_of h p)) same)
    ∙ flat_map_more step_text line (path_of f p) d
    ∙ ap (λ ss. line ++ path_text ss) (ap (λ x. path_of f p ++ x ∷ []) down ∙ sym below.path)
