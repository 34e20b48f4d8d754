-- What a walk over parts finds, part by part.
use Rattle.std.proofs.Common.{◌≡◌, ℕ, zero, suc, ◌+◌, ◌<◌, ◌⊎◌, inl, inr, Bool, true, false, cond, refl, sym, ap, ◌∙◌, subst, arith, List, [], ◌∷◌, ◌++◌, length, get_or, set, take, Some, nat_lt, add-one}
use Rattle.std.proofs.Math.Seq.{take-suc}
use Rattle.std.proofs.lemmas.List.{append_assoc, append-nil, length-set, length-take-le, get_or-set_same, get_or-set_other}
use Rattle.std.proofs.lemmas.Bool.Decides.{nat_tests}
use Rattle.guard_syntax.specs.Syntax.{File}
use Rattle.rule_names.specs.Depths.{larger, capped, depth_piece}
use Rattle.name_table.specs.code.Measured.{IsAmong, IsNotedAt, Measured, noted}
use Rattle.rule_names.specs.Pieces.{Piece, Sited}
use Rattle.rule_names.proofs.Capping.{capped-larger, capped-suc, larger-zero, zero-larger, larger-assoc}

-- ---- pieces among others

pub among-front : (p : Sited) (ps qs : List Sited) → IsAmong p ps → IsAmong p (ps ++ qs)
among-front p [] qs h = absurd h
among-front p (x ∷ ps) qs (inl is) = inl is
among-front p (x ∷ ps) qs (inr h) = inr (among-front p ps qs h)

pub among-back : (p : Sited) (ps qs : List Sited) → IsAmong p qs → IsAmong p (ps ++ qs)
among-back p [] qs h = h
among-back p (x ∷ ps) qs h = inr (among-back p ps qs h)

pub among-either : (p : Sited) (ps qs : List Sited) → IsAmong p (ps ++ qs) → IsAmong p ps ⊎ IsAmong p qs
among-either p [] qs h = inr h
among-either p (x ∷ ps) qs (inl is) = inl (inl is)
among-either p (x ∷ ps) qs (inr h) = elim (among-either p ps qs h) [ inl f ↦ inl (inr f) | inr g ↦ inr g ]

-- ---- tables

noted_long : (v : Bool) (table : List ℕ) (n depth : ℕ) → length (cond v (set table n depth) table) ≡ length table
noted_long true table n depth = length-set table n depth
noted_long false table n depth = refl

pub noted-long : (table : List ℕ) (n depth : ℕ) → length (noted table n depth) ≡ length table
noted-long table n depth = noted_long (nat_lt n (length table)) table n depth

pub noted-here : (table : List ℕ) (n depth : ℕ) → n < length table → get_or (noted table n depth) n 0 ≡ depth
noted-here table n depth within =
    let yes : nat_lt n (length table) ≡ true = grind (arith, nat_tests) in
    ap (λ (v : Bool). get_or (cond v (set table n depth) table) n 0) yes ∙ get_or-set_same table n depth 0 within

noted_other : (v : Bool) (table : List ℕ) (n m depth : ℕ) → (m ≡ n → ⊥) → get_or (cond v (set table n depth) table) m 0 ≡ get_or table m 0
noted_other true table n m depth other = get_or-set_other table n m depth 0 other
noted_other false table n m depth other = refl

pub noted-other : (table : List ℕ) (n m depth : ℕ) → (m ≡ n → ⊥) → get_or (noted table n depth) m 0 ≡ get_or table m 0
noted-other table n m depth other = noted_other (nat_lt n (length table)) table n m depth other

-- one item more
pub taken : {X : Type 0} → (xs : List X) (i : ℕ) (x : X) → i < length xs → x ≡ get_or xs i x → take (i + 1) xs ≡ take i xs ++ x ∷ []
taken xs i x within at = ap (λ (k : ℕ). take k xs) (add-one i) ∙ take-suc xs i x within ∙ ap (λ y. take i xs ++ y ∷ []) (sym at)

pub same_or_not : (m n : ℕ) → (m ≡ n) ⊎ (m ≡ n → ⊥)
same_or_not zero zero = inl refl
same_or_not zero (suc n) = inr (λ e. absurd cc)
same_or_not (suc m) zero = inr (λ e. absurd cc)
same_or_not (suc m) (suc n) = elim (same_or_not m n) [ inl e ↦ inl (ap suc e) | inr h ↦ inr (λ e. h (omega arith)) ]

module _ (f : File) (depths : List ℕ) where
  -- ---- one part and another

  pub measured-none : (t : List ℕ) → Measured f depths [] 0 t t 0
  measured-none t = record { value = refl; long = refl; sites = λ n within. inl (refl, λ p h. absurd h) }

  pub with-value : (ps : List Sited) (d e : ℕ) (b a : List ℕ) (r s : ℕ) → Measured f depths ps d b a r → s ≡ capped e → Measured f depths ps e b a s
  with-value ps d e b a r s m is = record { value = is; long = m.long; sites = m.sites }

  pub measured-deeper : (ps : List Sited) (d : ℕ) (b a : List ℕ) (r s : ℕ) → Measured f depths ps d b a r → s ≡ capped (suc r) → Measured f depths ps (suc d) b a s
  measured-deeper ps d b a r s m is = with-value ps d (suc d) b a r s m (is ∙ ap (λ (n : ℕ). capped (suc n)) m.value ∙ capped-suc d)

  both_at : (n : ℕ) (ps qs : List Sited) (old mid new : ℕ) → IsNotedAt f depths ps n old mid → IsNotedAt f depths qs n mid new → IsNotedAt f depths (ps ++ qs) n old new
  both_at n ps qs old mid new (inl h) (inl k) =
      inl (k.0 ∙ h.0, λ p is. elim (among-either (n, p) ps qs is) [ inl one ↦ h.1 p one | inr two ↦ k.1 p two ])
  both_at n ps qs old mid new (inr h) (inl k) = inr (h.0, among-front (n, h.0) ps qs h.1, k.0 ∙ h.2)
  both_at n ps qs old mid new h (inr k) = inr (k.0, among-back (n, k.0) ps qs k.1, k.2)

  pub measured-both : (ps qs : List Sited) (d e : ℕ) (b m a : List ℕ) (r s t : ℕ) → Measured f depths ps d b m r → Measured f depths qs e m a s → t ≡ larger r s
      → Measured f depths (ps ++ qs) (larger d e) b a t
  measured-both ps qs d e b m a r s t x y is = record {
    value = is ∙ ap (λ (k : ℕ). larger k s) x.value ∙ ap (λ (k : ℕ). larger (capped d) k) y.value ∙ capped-larger d e;
    long = y.long ∙ x.long;
    sites = λ n within.
        let inside : n < length m = omega (arith, x.long) in
        both_at n ps qs (get_or b n 0) (get_or m n 0) (get_or a n 0) (x.sites n within) (y.sites n inside);
  }

  -- ---- a part that has a site, with what stands inside it

  plain_at : (n m : ℕ) (p : Piece) (ps : List Sited) (old new : ℕ) → depth_piece f depths (Some p) ≡ 0 → IsNotedAt f depths ps n old new → IsNotedAt f depths ((m, p) ∷ ps) n old new
  plain_at n m p ps old new none (inl h) = inl (h.0, λ q is. elim is [ inl same ↦ ap (λ (x : Sited). depth_piece f depths (Some x.1)) (sym same) ∙ none | inr k ↦ h.1 q k ])
  plain_at n m p ps old new none (inr h) = inr (h.0, inr h.1, h.2)

  -- one that has no Depth by its site
  pub plain-site : (m : ℕ) (p : Piece) (ps : List Sited) (d : ℕ) (b a : List ℕ) (r : ℕ) → depth_piece f depths (Some p) ≡ 0 → Measured f depths ps d b a r → Measured f depths ((m, p) ∷ ps) d b a r
  plain-site m p ps d b a r none x = record {
    value = x.value;
    long = x.long;
    sites = λ n within. plain_at n m p ps (get_or b n 0) (get_or a n 0) none (x.sites n within);
  }

  noted_at : (n m : ℕ) (p : Piece) (ps : List Sited) (old mid new : ℕ) → (m ≡ n → ⊥) → new ≡ mid → IsNotedAt f depths ps n old mid → IsNotedAt f depths ((m, p) ∷ ps) n old new
  noted_at n m p ps old mid new other is (inl h) = inl (is ∙ h.0, λ q among. elim among [ inl same ↦ absurd (other (ap (λ (x : Sited). x.0) same)) | inr k ↦ h.1 q k ])
  noted_at n m p ps old mid new other is (inr h) = inr (h.0, inr h.1, is ∙ h.2)

  here_or_not : (n m : ℕ) (p : Piece) (ps : List Sited) (e : ℕ) (b c a : List ℕ) (w : ℕ) → length c ≡ length b → n < length b → IsNotedAt f depths ps n (get_or b n 0) (get_or c n 0)
      → depth_piece f depths (Some p) ≡ e → w ≡ capped e → a ≡ noted c m w → (m ≡ n) ⊎ (m ≡ n → ⊥) → IsNotedAt f depths ((m, p) ∷ ps) n (get_or b n 0) (get_or a n 0)
  here_or_not n m p ps e b c a w long within old is was are (inl same) =
      let inside : m < length c = omega (arith, long) in
      inr (
        p,
        inl (ap (λ (k : ℕ). let s : Sited = (k, p) in s) same),
        ap (λ (t : List ℕ). get_or t n 0) are ∙ ap (λ (k : ℕ). get_or (noted c m w) k 0) (sym same) ∙ noted-here c m w inside ∙ was ∙ ap capped (sym is),
      )
  here_or_not n m p ps e b c a w long within old is was are (inr other) =
      noted_at n m p ps (get_or b n 0) (get_or c n 0) (get_or a n 0) other
      (ap (λ (t : List ℕ). get_or t n 0) are ∙ noted-other c m n w (λ (same : n ≡ m). other (sym same))) old

  -- one whose Depth is noted
  pub noted-site : (m : ℕ) (p : Piece) (ps : List Sited) (d e : ℕ) (b c a : List ℕ) (r w : ℕ) → Measured f depths ps d b c r → depth_piece f depths (Some p) ≡ e → w ≡ capped e → a ≡ noted c m w
      → Measured f depths ((m, p) ∷ ps) d b a r
  noted-site m p ps d e b c a r w x is was are = record {
    value = x.value;
    long = ap length are ∙ noted-long c m w ∙ x.long;
    sites = λ n within. here_or_not n m p ps e b c a w x.long within (x.sites n within) is was are (same_or_not m n);
  }

  -- ---- lists, item by item

  module _ {X : Type 0} (pieces : ℕ → List X → List Sited) (own : ℕ → X → List Sited) (depth : List X → ℕ) (one : X → ℕ)
      (none : (i : ℕ) → pieces i [] ≡ []) (more : (i : ℕ) (x : X) (xs : List X) → pieces i (x ∷ xs) ≡ own i x ++ pieces (suc i) xs)
      (least : depth [] ≡ 0) (greater : (x : X) (xs : List X) → depth (x ∷ xs) ≡ larger (one x) (depth xs)) where
    pieces_end : (i : ℕ) (xs : List X) (x : X) → pieces i (xs ++ x ∷ []) ≡ pieces i xs ++ own (i + length xs) x
    pieces_end i [] x =
        more i x [] ∙ ap (λ (l : List Sited). own i x ++ l) (none (suc i)) ∙ append-nil (own i x)
        ∙ ap (λ (k : ℕ). own k x) (omega arith) ∙ ap (λ (l : List Sited). l ++ own (i + 0) x) (sym (none i))
    pieces_end i (y ∷ ys) x =
        more i y (ys ++ x ∷ []) ∙ ap (λ (l : List Sited). own i y ++ l) (pieces_end (suc i) ys x)
        ∙ sym (append_assoc (own i y) (pieces (suc i) ys) (own (suc i + length ys) x))
        ∙ ap (λ (l : List Sited). l ++ own (suc i + length ys) x) (sym (more i y ys))
        ∙ ap (λ (k : ℕ). pieces i (y ∷ ys) ++ own k x) (omega arith)

    depth_end : (xs : List X) (x : X) → depth (xs ++ x ∷ []) ≡ larger (depth xs) (one x)
    depth_end [] x = greater x [] ∙ ap (larger (one x)) least ∙ larger-zero (one x) ∙ sym (zero-larger (one x)) ∙ ap (λ (k : ℕ). larger k (one x)) (sym least)
    depth_end (y ∷ ys) x =
        greater y (ys ++ x ∷ []) ∙ ap (larger (one y)) (depth_end ys x) ∙ sym (larger-assoc (one y) (depth ys) (one x)) ∙ ap (λ (k : ℕ). larger k (one x)) (sym (greater y ys))

    pub items-first : (t : List ℕ) → Measured f depths (pieces 0 []) (depth []) t t 0
    items-first t =
        subst (λ (l : List Sited). Measured f depths l (depth []) t t 0) (sym (none 0))
        (subst (λ (k : ℕ). Measured f depths [] k t t 0) (sym least) (measured-none t))

    pub items-value : (xs : List X) (i : ℕ) (x : X) (r s t : ℕ) → i < length xs → x ≡ get_or xs i x → r ≡ capped (depth (take i xs)) → s ≡ capped (one x) → t ≡ larger r s
        → t ≡ capped (depth (take (i + 1) xs))
    items-value xs i x r s t within at was now is =
        is ∙ ap (λ (k : ℕ). larger k s) was ∙ ap (larger (capped (depth (take i xs)))) now ∙ capped-larger (depth (take i xs)) (one x)
        ∙ ap capped (sym (depth_end (take i xs) x)) ∙ ap (λ (l : List X). capped (depth l)) (sym (taken xs i x within at))

    pub items-next : (xs : List X) (i : ℕ) (x : X) (b m a : List ℕ) (r s t : ℕ) → i < length xs → x ≡ get_or xs i x
        → Measured f depths (pieces 0 (take i xs)) (depth (take i xs)) b m r → Measured f depths (own i x) (one x) m a s → t ≡ larger r s
        → Measured f depths (pieces 0 (take (i + 1) xs)) (depth (take (i + 1) xs)) b a t
    items-next xs i x b m a r s t within at before now is =
        let longer = taken xs i x within at in
        let long : length (take i xs) ≡ i = length-take-le i xs (omega arith) in
        let seen : pieces 0 (take i xs ++ x ∷ []) ≡ pieces 0 (take i xs) ++ own i x =
        pieces_end 0 (take i xs) x ∙ ap (λ (k : ℕ). pieces 0 (take i xs) ++ own k x) (omega arith) in
        subst (λ (l : List X). Measured f depths (pieces 0 l) (depth l) b a t) (sym longer)
        (subst (λ (l : List Sited). Measured f depths l (depth (take i xs ++ x ∷ [])) b a t) (sym seen)
        (subst (λ (k : ℕ). Measured f depths (pieces 0 (take i xs) ++ own i x) k b a t) (sym (depth_end (take i xs) x))
        (measured-both (pieces 0 (take i xs)) (own i x) (depth (take i xs)) (one x) b m a r s t before now is)))
