-- Values and rows are read from just what spells them.
use Rattle.std.proofs.Common.{◌≡◌, ◌<◌, ◌^◌, inl, inr, ℕ, Bool, true, false, List, [], ◌∷◌, ◌++◌, Option, Some, None, cond, eqb, length, decimal, refl, sym, ap, subst, ◌∙◌, arith, option_map, option_and_then}
use Rattle.std.proofs.lemmas.Bool.{eq-eqb, eqb-true, false≢true}
use Rattle.std.proofs.lemmas.List.{append-nil, append_assoc, append_cancel_right, get_or_at, length-append}
use Rattle.std.proofs.lemmas.Option.{none-some}
use Rattle.guard_syntax.specs.declared.row.Origin.{Origin}
use Rattle.guard_syntax.specs.declared.row.Origin.TheVariants.{Template, Literal, Made}
use Rattle.guard_syntax.specs.declared.row.Ref.{Ref}
use Rattle.guard_syntax.specs.declared.row.Row.{Row}
use Rattle.guard_syntax.specs.declared.row.Row.TheVariants.{Found, Missing, Unmade}
use Rattle.evidence_lines.specs.Shapes.{IsCount, IsPlace, IsOriginBounded, IsRefBounded, IsRowBounded}
use Rattle.evidence_text.specs.code.Reading.{cut, count_in, place_in, ref_at, node_by, node_in, literal_in, made_by, made_in, ref_in, missing_in, row_in}
use Rattle.evidence_text.specs.Spelling.{origin_text, key_text, ref_text, row_text}
use Rattle.evidence_text.proofs.Bounds.{From, from_append, from_lesser}
use Rattle.evidence_text.proofs.Cuts.{Free, cut_at, cut_none, cut_some, chained, mapped}
use Rattle.evidence_text.proofs.Numbers.{count_decimal, count_some, place_decimal, place_some, decimal_from, decimal_free}

-- ---- a value is read from its spelling

wide : (n : ℕ) → n < 2 ^ 32 → n < 2 ^ 64
wide n small = omega arith

node_of : (o : Origin) (n : ℕ) (key : Bool) → IsPlace n → node_in o (decimal n ++ key_text key) ≡ Some (ref_at o key n)
node_of o n false small =
    ap (node_in o) (append-nil (decimal n)) ∙ ap (node_by o (decimal n)) (cut_none 107 (decimal n) (decimal_free 107 n (inr (omega arith)) (wide n small)))
    ∙ ap (option_map (ref_at o false)) (place_decimal n small)
node_of o n true small =
    ap (node_by o (decimal n ++ 107 ∷ [])) (cut_at 107 (decimal n) [] (decimal_free 107 n (inr (omega arith)) (wide n small)))
    ∙ ap (option_map (ref_at o true)) (place_decimal n small)

-- a number, a point and more
point_text : (n : ℕ) (rest : List ℕ) → IsCount n → cut 46 ((decimal n ++ 46 ∷ []) ++ rest) ≡ Some (decimal n, rest)
point_text n rest small =
    ap (cut 46) (append_assoc (decimal n) (46 ∷ []) rest) ∙ cut_at 46 (decimal n) rest (decimal_free 46 n (inl (omega arith)) small)

ref_by : (o : Origin) (n : ℕ) (key : Bool) → IsOriginBounded o → IsPlace n → ref_in (origin_text o ++ (decimal n ++ key_text key)) ≡ Some (ref_at o key n)
ref_by Template n key bound small = node_of Template n key small
ref_by (Literal s) n key bound small =
    let rest = decimal n ++ key_text key in
    ap literal_in (point_text s rest (wide s bound)) ∙ ap (option_and_then (λ m. node_in (Literal m) rest)) (place_decimal s bound)
    ∙ node_of (Literal s) n key small
ref_by (Made l r) n key bound small =
    let rest = decimal n ++ key_text key in
    let behind = (decimal r ++ 46 ∷ []) ++ rest in
    let first : cut 46 ((decimal l ++ (46 ∷ (decimal r ++ 46 ∷ []))) ++ rest) ≡ Some (decimal l, behind) =
    ap (cut 46) (append_assoc (decimal l) (46 ∷ (decimal r ++ 46 ∷ [])) rest) ∙ cut_at 46 (decimal l) behind (decimal_free 46 l (inl (omega arith)) bound.0) in
    ap made_in first ∙ ap (made_by (decimal l)) (point_text r rest bound.1)
    ∙ ap (option_and_then (λ m. option_and_then (λ k. node_in (Made m k) rest) (count_in (decimal r)))) (count_decimal l bound.0)
    ∙ ap (option_and_then (λ k. node_in (Made l k) rest)) (count_decimal r bound.1) ∙ node_of (Made l r) n key small

pub ref_of : (v : Ref) → IsRefBounded v → ref_in (ref_text v) ≡ Some v
ref_of v bound = ref_by v.origin v.node v.key bound.0 bound.1

-- ---- what a value is read from spells it

pub record IsNodeOf (o : Origin) (bytes : List ℕ) (v : Ref) : Type 0 where
  pub origin : v.origin ≡ o
  pub bound : IsPlace v.node
  pub text : decimal v.node ++ key_text v.key ≡ bytes

node_some : (o : Origin) (bytes : List ℕ) (v : Ref) → node_in o bytes ≡ Some v → IsNodeOf o bytes v
node_some o bytes v e = by_cut o bytes v (cut 107 bytes) refl e
  where
    by_cut : (o : Origin) (bytes : List ℕ) (v : Ref) (c : Option (List ℕ × List ℕ)) → cut 107 bytes ≡ c → node_by o bytes c ≡ Some v → IsNodeOf o bytes v
    by_cut o bytes v None is e =
        let read = mapped (ref_at o false) (place_in bytes) v e in
        let whole = place_some bytes read.0 read.1 in
        let P : Ref → Type 0 = λ w. IsNodeOf o bytes w in
        subst P read.2 (record { origin = refl; bound = whole.0; text = append-nil (decimal read.0) ∙ whole.1 })
    by_cut o bytes v (Some (node, [])) is e =
        let read = mapped (ref_at o true) (place_in node) v e in
        let whole = place_some node read.0 read.1 in
        let parts = cut_some 107 bytes node [] is in
        let P : Ref → Type 0 = λ w. IsNodeOf o bytes w in
        subst P read.2 (record { origin = refl; bound = whole.0; text = ap (λ t. t ++ 107 ∷ []) whole.1 ∙ sym parts.0 })
    by_cut o bytes v (Some (node, x ∷ xs)) is e = absurd (none-some _ e)

-- a node is read by whether the sign of a key stands last
module _ (o : Origin) (bytes : List ℕ) where
  read_as : (read : Option Ref) → ((v : Ref) → IsNodeOf o bytes v → read ≡ None → ⊥) → ((v : Ref) → read ≡ Some v → node_in o bytes ≡ Some v) → read ≡ node_in o bytes
  read_as (Some v) nothing some = sym (some v refl)
  read_as None nothing some = by_node (node_in o bytes) refl
    where
      by_node : (found : Option Ref) → node_in o bytes ≡ found → None ≡ node_in o bytes
      by_node None is = sym is
      by_node (Some v) is = absurd (nothing v (node_some o bytes v is) refl)

  unread : (node : List ℕ) (n : ℕ) (key : Bool) → IsPlace n → decimal n ≡ node → option_map (ref_at o key) (place_in node) ≡ None → ⊥
  unread node n key small is none = none-some _ (sym none ∙ ap (λ t. option_map (ref_at o key) (place_in t)) (sym is) ∙ ap (option_map (ref_at o key)) (place_decimal n small))

  pub with_key : (node : List ℕ) → node ++ 107 ∷ [] ≡ bytes → option_map (ref_at o true) (place_in node) ≡ node_in o bytes
  with_key node is = read_as _ (λ v of_node none. nothing v.key v.node of_node.bound of_node.text none) some
    where
      nothing : (key : Bool) (n : ℕ) → IsPlace n → decimal n ++ key_text key ≡ bytes → option_map (ref_at o true) (place_in node) ≡ None → ⊥
      nothing true n small text none = unread node n true small (append_cancel_right (decimal n) node (107 ∷ []) (text ∙ sym is)) none
      nothing false n small text none =
          let free = subst (λ t. Free 107 t) (sym (append-nil (decimal n)) ∙ text ∙ sym is) (decimal_free 107 n (inr (omega arith)) (wide n small)) in
          let last = free (length node) 0 (omega (arith, length-append node (107 ∷ []))) in
          false≢true (sym last ∙ eq-eqb _ _ (get_or_at node 107 [] 0 (length node) refl))

      some : (v : Ref) → option_map (ref_at o true) (place_in node) ≡ Some v → node_in o bytes ≡ Some v
      some v e =
          let read = mapped (ref_at o true) (place_in node) v e in
          let whole = place_some node read.0 read.1 in
          ap (node_in o) (sym is ∙ ap (λ t. t ++ 107 ∷ []) (sym whole.1)) ∙ node_of o read.0 true whole.0 ∙ ap Some read.2

  pub without_key : ((node : List ℕ) → node ++ 107 ∷ [] ≡ bytes → ⊥) → option_map (ref_at o false) (place_in bytes) ≡ node_in o bytes
  without_key unkeyed = read_as _ (λ v of_node none. nothing v.key v.node of_node.bound of_node.text none) some
    where
      nothing : (key : Bool) (n : ℕ) → IsPlace n → decimal n ++ key_text key ≡ bytes → option_map (ref_at o false) (place_in bytes) ≡ None → ⊥
      nothing true n small text none = unkeyed (decimal n) text
      nothing false n small text none = unread bytes n false small (sym (append-nil (decimal n)) ∙ text) none

      some : (v : Ref) → option_map (ref_at o false) (place_in bytes) ≡ Some v → node_in o bytes ≡ Some v
      some v e =
          let read = mapped (ref_at o false) (place_in bytes) v e in
          let whole = place_some bytes read.0 read.1 in
          ap (node_in o) (sym whole.1 ∙ sym (append-nil (decimal read.0))) ∙ node_of o read.0 false whole.0 ∙ ap Some read.2

-- the origin's bytes and the node's together
joined : (o : Origin) (front bytes : List ℕ) (v : Ref) → IsOriginBounded o → origin_text o ≡ front → IsNodeOf o bytes v
    → IsRefBounded v × (ref_text v ≡ front ++ bytes)
joined o front bytes v bound spelled node =
    let P : Origin → Type 0 = λ p. IsOriginBounded p in
    let Q : Origin → Type 0 = λ p. origin_text p ≡ front in (
      (subst P (sym node.origin) bound, node.bound),
      ap (λ t. t ++ (decimal v.node ++ key_text v.key)) (subst Q (sym node.origin) spelled) ∙ ap (λ t. front ++ t) node.text,
    )

literal_some : (bytes : List ℕ) (v : Ref) → literal_in (cut 46 bytes) ≡ Some v → IsRefBounded v × (ref_text v ≡ 108 ∷ bytes)
literal_some bytes v e = by_cut bytes v (cut 46 bytes) refl e
  where
    by_cut : (bytes : List ℕ) (v : Ref) (c : Option (List ℕ × List ℕ)) → cut 46 bytes ≡ c → literal_in c ≡ Some v → IsRefBounded v × (ref_text v ≡ 108 ∷ bytes)
    by_cut bytes v None is e = absurd (none-some _ e)
    by_cut bytes v (Some (site, node)) is e =
        let parts = cut_some 46 bytes site node is in
        let read = chained (λ n. node_in (Literal n) node) (place_in site) v e in
        let whole = place_some site read.0 read.1 in
        let both = joined (Literal read.0) (108 ∷ (site ++ 46 ∷ [])) node v whole.0 (ap (λ t. 108 ∷ (t ++ 46 ∷ [])) whole.1) (node_some (Literal read.0) node v read.2) in
        (both.0, both.1 ∙ ap (λ t. 108 ∷ t) (append_assoc site (46 ∷ []) node ∙ sym parts.0))

made_some : (bytes : List ℕ) (v : Ref) → made_in (cut 46 bytes) ≡ Some v → IsRefBounded v × (ref_text v ≡ 99 ∷ bytes)
made_some bytes v e = by_cut bytes v (cut 46 bytes) refl e
  where
    by_second : (bytes line rest : List ℕ) (v : Ref) (c : Option (List ℕ × List ℕ)) → bytes ≡ line ++ 46 ∷ rest → cut 46 rest ≡ c → made_by line c ≡ Some v
        → IsRefBounded v × (ref_text v ≡ 99 ∷ bytes)
    by_second bytes line rest v None parts is e = absurd (none-some _ e)
    by_second bytes line rest v (Some (row, node)) parts is e =
        let inner = cut_some 46 rest row node is in
        let read = chained (λ n. option_and_then (λ m. node_in (Made n m) node) (count_in row)) (count_in line) v e in
        let second = chained (λ m. node_in (Made read.0 m) node) (count_in row) v read.2 in
        let l = count_some line read.0 read.1 in
        let r = count_some row second.0 second.1 in
        let front = 99 ∷ (line ++ (46 ∷ (row ++ 46 ∷ []))) in
        let spelled : origin_text (Made read.0 second.0) ≡ front =
        ap (λ t. 99 ∷ (t ++ (46 ∷ (decimal second.0 ++ 46 ∷ [])))) l.1 ∙ ap (λ t. 99 ∷ (line ++ (46 ∷ (t ++ 46 ∷ [])))) r.1 in
        let both = joined (Made read.0 second.0) front node v (l.0, r.0) spelled (node_some (Made read.0 second.0) node v second.2) in
        let regrouped : (line ++ (46 ∷ (row ++ 46 ∷ []))) ++ node ≡ bytes =
        append_assoc line (46 ∷ (row ++ 46 ∷ [])) node ∙ ap (λ t. line ++ (46 ∷ t)) (append_assoc row (46 ∷ []) node ∙ sym inner.0) ∙ sym parts in
        (both.0, both.1 ∙ ap (λ t. 99 ∷ t) regrouped)

    by_cut : (bytes : List ℕ) (v : Ref) (c : Option (List ℕ × List ℕ)) → cut 46 bytes ≡ c → made_in c ≡ Some v → IsRefBounded v × (ref_text v ≡ 99 ∷ bytes)
    by_cut bytes v None is e = absurd (none-some _ e)
    by_cut bytes v (Some (line, rest)) is e = by_second bytes line rest v (cut 46 rest) (cut_some 46 bytes line rest is).0 refl e

pub ref_some : (bytes : List ℕ) (v : Ref) → ref_in bytes ≡ Some v → IsRefBounded v × (ref_text v ≡ bytes)
ref_some [] v e = absurd (none-some _ e)
ref_some (first ∷ rest) v e = by_sign first rest v (eqb first 100) (eqb first 108) (eqb first 99) refl refl refl e
  where
    sign : (first n : ℕ) (rest : List ℕ) (v : Ref) → eqb first n ≡ true → IsRefBounded v × (ref_text v ≡ n ∷ rest) → IsRefBounded v × (ref_text v ≡ first ∷ rest)
    sign first n rest v is both = (both.0, both.1 ∙ ap (λ m. m ∷ rest) (sym (eqb-true first n is)))

    by_sign : (first : ℕ) (rest : List ℕ) (v : Ref) (d l c : Bool) → eqb first 100 ≡ d → eqb first 108 ≡ l → eqb first 99 ≡ c
        → cond d (node_in Template rest) (cond l (literal_in (cut 46 rest)) (cond c (made_in (cut 46 rest)) None)) ≡ Some v
        → IsRefBounded v × (ref_text v ≡ first ∷ rest)
    by_sign first rest v true l c is_d is_l is_c e = sign first 100 rest v is_d (joined Template (100 ∷ []) rest v tt refl (node_some Template rest v e))
    by_sign first rest v false true c is_d is_l is_c e = sign first 108 rest v is_l (literal_some rest v e)
    by_sign first rest v false false true is_d is_l is_c e = sign first 99 rest v is_c (made_some rest v e)
    by_sign first rest v false false false is_d is_l is_c e = absurd (none-some _ e)

-- ---- the bytes of a value: none is below the point, so none is a comma

pub key_from : (key : Bool) → From 46 (key_text key)
key_from true = refl
key_from false = refl

pub number_from : (n : ℕ) → n < 2 ^ 64 → From 46 (decimal n)
number_from n small = from_lesser 46 48 (decimal n) (omega arith) (decimal_from n small)

origin_from : (o : Origin) → IsOriginBounded o → From 46 (origin_text o)
origin_from Template bound = refl
origin_from (Literal s) bound = from_append 46 (108 ∷ []) (decimal s ++ 46 ∷ []) refl (from_append 46 (decimal s) (46 ∷ []) (number_from s (wide s bound)) refl)
origin_from (Made l r) bound =
    from_append 46 (99 ∷ []) (decimal l ++ (46 ∷ (decimal r ++ 46 ∷ []))) refl
    (from_append 46 (decimal l) (46 ∷ (decimal r ++ 46 ∷ [])) (number_from l bound.0)
    (from_append 46 (46 ∷ []) (decimal r ++ 46 ∷ []) refl (from_append 46 (decimal r) (46 ∷ []) (number_from r bound.1) refl)))

pub ref_from : (v : Ref) → IsRefBounded v → From 46 (ref_text v)
ref_from v bound =
    from_append 46 (origin_text v.origin) (decimal v.node ++ key_text v.key) (origin_from v.origin bound.0)
    (from_append 46 (decimal v.node) (key_text v.key) (number_from v.node (wide v.node bound.1)) (key_from v.key))

-- ---- rows

-- a value's sign is that of no missing row
value_sign : (v : Ref) → IsRefBounded v → row_in (ref_text v) ≡ option_map (λ w. Found w) (ref_in (ref_text v))
value_sign v bound = by_origin v.origin (decimal v.node ++ key_text v.key)
  where
    by_origin : (o : Origin) (rest : List ℕ) → row_in (origin_text o ++ rest) ≡ option_map (λ w. Found w) (ref_in (origin_text o ++ rest))
    by_origin Template rest = refl
    by_origin (Literal s) rest = refl
    by_origin (Made l r) rest = refl

pub row_of : (r : Row) → IsRowBounded r → row_in (row_text r) ≡ Some r
row_of (Found v) bound = value_sign v bound ∙ ap (option_map (λ w. Found w)) (ref_of v bound)
row_of (Missing v step) bound =
    let read : Option ℕ → Option Row = option_and_then (λ n. option_map (λ w. Missing w n) (ref_in (ref_text v))) in
    ap missing_in (cut_at 58 (decimal step) (ref_text v) (decimal_free 58 step (inr (omega arith)) (wide step bound.1)))
    ∙ ap read (place_decimal step bound.1) ∙ ap (option_map (λ w. Missing w step)) (ref_of v bound.0)
row_of (Unmade call) bound = ap (option_map (λ n. Unmade n)) (place_decimal call bound)

missing_some : (bytes : List ℕ) (r : Row) → missing_in (cut 58 bytes) ≡ Some r → IsRowBounded r × (row_text r ≡ 109 ∷ bytes)
missing_some bytes r e = by_cut bytes r (cut 58 bytes) refl e
  where
    by_cut : (bytes : List ℕ) (r : Row) (c : Option (List ℕ × List ℕ)) → cut 58 bytes ≡ c → missing_in c ≡ Some r → IsRowBounded r × (row_text r ≡ 109 ∷ bytes)
    by_cut bytes r None is e = absurd (none-some _ e)
    by_cut bytes r (Some (step, value)) is e =
        let parts = cut_some 58 bytes step value is in
        let read = chained (λ n. option_map (λ v. Missing v n) (ref_in value)) (place_in step) r e in
        let second = mapped (λ v. Missing v read.0) (ref_in value) r read.2 in
        let s = place_some step read.0 read.1 in
        let v = ref_some value second.0 second.1 in
        let P : Row → Type 0 = λ q. IsRowBounded q × (row_text q ≡ 109 ∷ bytes) in
        let spelled : 109 ∷ (decimal read.0 ++ (58 ∷ ref_text second.0)) ≡ 109 ∷ bytes =
        ap (λ t. 109 ∷ (t ++ (58 ∷ ref_text second.0))) s.1 ∙ ap (λ t. 109 ∷ (step ++ (58 ∷ t))) v.1 ∙ ap (λ t. 109 ∷ t) (sym parts.0) in
        subst P second.2 ((v.0, s.0), spelled)

pub row_some : (bytes : List ℕ) (r : Row) → row_in bytes ≡ Some r → IsRowBounded r × (row_text r ≡ bytes)
row_some [] r e = absurd (none-some _ e)
row_some (first ∷ rest) r e = by_sign first rest r (eqb first 109) (eqb first 117) refl refl e
  where
    by_sign : (first : ℕ) (rest : List ℕ) (r : Row) (m u : Bool) → eqb first 109 ≡ m → eqb first 117 ≡ u
        → cond m (missing_in (cut 58 rest)) (cond u (option_map (λ n. Unmade n) (place_in rest)) (option_map (λ v. Found v) (ref_in (first ∷ rest)))) ≡ Some r
        → IsRowBounded r × (row_text r ≡ first ∷ rest)
    by_sign first rest r true u is_m is_u e =
        let both = missing_some rest r e in
        (both.0, both.1 ∙ ap (λ n. n ∷ rest) (sym (eqb-true first 109 is_m)))
    by_sign first rest r false true is_m is_u e =
        let read = mapped (λ n. Unmade n) (place_in rest) r e in
        let whole = place_some rest read.0 read.1 in
        let P : Row → Type 0 = λ q. IsRowBounded q × (row_text q ≡ first ∷ rest) in
        subst P read.2 (whole.0, ap (λ t. 117 ∷ t) whole.1 ∙ ap (λ n. n ∷ rest) (sym (eqb-true first 117 is_u)))
    by_sign first rest r false false is_m is_u e =
        let read = mapped (λ v. Found v) (ref_in (first ∷ rest)) r e in
        let P : Row → Type 0 = λ q. IsRowBounded q × (row_text q ≡ first ∷ rest) in
        subst P read.2 (ref_some (first ∷ rest) read.0 read.1)

pub row_from : (r : Row) → IsRowBounded r → From 46 (row_text r)
row_from (Found v) bound = ref_from v bound
row_from (Missing v step) bound =
    from_append 46 (109 ∷ []) (decimal step ++ (58 ∷ ref_text v)) refl
    (from_append 46 (decimal step) (58 ∷ ref_text v) (number_from step (wide step bound.1)) (from_append 46 (58 ∷ []) (ref_text v) refl (ref_from v bound.0)))
row_from (Unmade call) bound = from_append 46 (117 ∷ []) (decimal call) refl (number_from call (wide call bound))
