-- In the canonical text of what the lexemes spell, brackets nest no deeper than so many are open in the source.
use Rattle.std.proofs.Common.{◌≡◌, ℕ, zero, suc, pred, max, ◌+◌, ◌≤◌, ◌<◌, Bool, true, false, cond, not, ◌&&◌, ◌||◌, refl, ap, sym, ◌∙◌, subst, arith, List, [], ◌∷◌, Option, Some, None, inl, inr, true≢false, nat_eq}
use Rattle.std.proofs.lemmas.Bool.Decides.{nat_tests}
use Rattle.doc_values.specs.Tree.{Label, Forest, Nil, Node, snoc}
use Rattle.doc_values.specs.declared.kind.Kind.{Kind}
use Rattle.doc_values.specs.declared.kind.Kind.TheVariants as kind
use Rattle.guard_syntax.specs.Named.{Named}
use Rattle.guard_syntax.specs.declared.syntax.Op.{Op}
use Rattle.guard_syntax.specs.Syntax.{Body, Lets, Let, Conds, OptConds, Disjs, Disj, Parts, Part, Query, Steps, Step, Expr, OptExpr, Exprs, Rule, body, no_lets, more_lets, assign, conds, no_conds, with_conds, no_disjs, more_disjs, disj, no_parts, more_parts, block, guarded, kinds, test, refer, call, query, no_steps, more_steps, this, var, key, index, every, items, splice, filter, keys, literal, function, asked, found, no_expr, with_expr, no_exprs, more_exprs}
use Rattle.literal_parser.specs.declared.keyword.Keyword.{Keyword}
use Rattle.literal_parser.specs.declared.keyword.Keyword.TheVariants as kw
use Rattle.literal_parser.specs.Lexemes.{Word, Name, Reserved, TypeName, Var, Str, Pat, Whole, Fraction, Note, Sign, End, Lexeme}
use Rattle.literal_parser.specs.Forms.{is_end, form, is_name, is_rule_name, is_any_name, is_type_name, is_var, is_index, is_note, is_lbrace, is_rbrace, is_lparen, is_rparen, is_lbracket, is_rbracket, is_comma, is_colon, is_bar, is_dot, is_star, is_assign, is_equality, is_sign, is_let, is_rule, is_when, is_some_word, is_or, is_neg, is_keys, is_this, is_in, is_operator_word, is_key, is_first_key, is_r, is_number, is_scalar, is_opening_end, is_closing_end, is_opening, is_closing}
use Rattle.literal_parser.specs.States.{State, past, Opens}
use Rattle.literal_parser.specs.Brackets.{open_behind, open_before, IsShallowTo}
use Rattle.literal_parser.specs.code.LiteralDepth.{is_bracketed, deep_forest}
use Rattle.printer_laws.specs.code.PrintedDepth.{deep_head, deep_body, deep_lets, deep_let, deep_conds, deep_opt_conds, deep_disjs, deep_disj, deep_parts, deep_part, deep_query, deep_steps, deep_step, deep_expr, deep_opt_expr, deep_exprs, deep_rule, deep_rules, deep_file}
use Rattle.literal_parser.specs.Literal.{constant_kind, scalar_kind, holder, IsLiteral, AreItems, AreMoreItems, AreEntries, AreMoreEntries, IsNode, IsEntry}
use Rattle.guard_parser.specs.Grammar.{Sort, ALet, ARule, APart, Piece, is_sort, of_sort, body_sort, file_sort, InRow, IsCapture, IsNote, IsNeg, IsOperator, IsKeysOperator, IsAny, IsNot, IsNames, IsBody, AreLets, AreDisjs, IsLet, IsConds, IsDisjs, IsOptConds, IsDisj, IsOrs, IsPart, IsRight, IsQuery, IsStart, IsSteps, IsStep, IsExpr, IsExprs, IsMoreExprs, IsHead, IsRule, AreRules, IsContents}
use Rattle.literal_parser.proofs.Apart.{always, apart, implied}
use Rattle.guard_parser.proofs.Numbered.{body_no_rules}

module _ (s : ℕ → Lexeme) where
  abbrev open_at : State → ℕ
  open_at st = open_before s st.at

  -- as many brackets are open as before, and no end of the lexemes was passed
  record Even (a b : State) : Type 0 where
    level : open_at b ≡ open_at a
    grows : a.at ≤ b.at
    ends : (n : ℕ) → is_end (form (s n)) ≡ true → a.at ≤ n → b.at ≤ n

  -- and, where no bracket opens while 128 are open, so many more can be open between
  record Balanced (a b : State) (k : ℕ) : Type 0 where
    even : Even a b
    room : IsShallowTo s b.at → k + open_at a ≤ 128

  shorter : (m n : ℕ) → m ≤ n → IsShallowTo s n → IsShallowTo s m
  shorter m n e h = λ i less opening. h i (omega arith) opening

  pred_small : (k : ℕ) → k ≤ 128 → pred k ≤ 128
  pred_small zero e = e
  pred_small (suc k) e = omega arith

  behind_small : (n k : ℕ) (v w : Bool) → (v ≡ true → k < 128) → k ≤ 128 → cond v (suc k) (cond w (pred k) k) ≤ 128
  behind_small n k true w h e = let l = h refl in omega arith
  behind_small n k false true h e = pred_small k e
  behind_small n k false false h e = e

  bounded : (n : ℕ) → IsShallowTo s n → open_before s n ≤ 128
  bounded zero h = omega arith
  bounded (suc n) h = behind_small n (open_before s n) (is_opening (form (s n))) (is_closing (form (s n))) (λ e. h n (omega arith) e) (bounded n (shorter n (suc n) (omega arith) h))

  still : (a b : State) → b.at ≡ a.at → Even a b
  still a b e = record { level = ap (λ i. open_before s i) e; grows = omega arith; ends = λ n is less. omega arith }

  -- a closing bracket or the end
  abbrev is_edge : ℕ → Bool
  is_edge n = is_closing n || is_end n

  edge_closing : (a b : Bool) → (a || b) ≡ false → a ≡ false
  edge_closing true b e = e
  edge_closing false b e = refl

  edge_end : (a b : Bool) → (a || b) ≡ false → b ≡ false
  edge_end true b e = absurd (true≢false e)
  edge_end false b e = e

  not_there : (i n : ℕ) (v : Bool) → nat_eq i n ≡ v → is_end (form (s i)) ≡ false → is_end (form (s n)) ≡ true → i ≤ n → suc i ≤ n
  not_there i n true same h k less = absurd (true≢false (sym k ∙ subst (λ j. is_end (form (s j)) ≡ false) (let e : i ≡ n = grind (arith, nat_tests) in e) h))
  not_there i n false same h k less = grind (arith, nat_tests)

  past_ends : (a b : State) → b ≡ past a → is_end (form (s a.at)) ≡ false → (n : ℕ) → is_end (form (s n)) ≡ true → a.at ≤ n → b.at ≤ n
  past_ends a b e h n k less = let l = ap (λ (z : State). z.at) e in let m = not_there a.at n (nat_eq a.at n) refl h k less in omega arith

  neither : (f : ℕ → Bool) (x : Lexeme) (k : ℕ) → always (λ n. not (f n && is_opening n)) 64 ≡ true → always (λ n. not (f n && is_edge n)) 64 ≡ true → f (form x) ≡ true
      → open_behind (form x) k ≡ k
  neither f x k p q h =
      ap (λ v. cond v (suc k) (cond (is_closing (form x)) (pred k) k)) (apart f is_opening x p h) ∙ ap (λ v. cond v (pred k) k) (edge_closing (is_closing (form x)) (is_end (form x)) (apart f is_edge x q h))

  -- a lexeme that is no bracket and not the end; the premises are `refl`
  plain : (f : ℕ → Bool) (a b : State) → always (λ n. not (f n && is_opening n)) 64 ≡ true → always (λ n. not (f n && is_edge n)) 64 ≡ true
      → f (form (s a.at)) ≡ true → b ≡ past a → Even a b
  plain f a b p q h e = record {
    level = ap (λ (z : State). open_before s z.at) e ∙ neither f (s a.at) (open_at a) p q h;
    grows = let l = ap (λ (z : State). z.at) e in omega arith;
    ends = past_ends a b e (edge_end (is_closing (form (s a.at))) (is_end (form (s a.at))) (apart f is_edge (s a.at) q h));
  }

  opening_more : (x : Lexeme) (k : ℕ) → is_opening (form x) ≡ true → open_behind (form x) k ≡ suc k
  opening_more x k h = ap (λ v. cond v (suc k) (cond (is_closing (form x)) (pred k) k)) h

  closing_less : (x : Lexeme) (k : ℕ) → is_closing (form x) ≡ true → open_behind (form x) k ≡ pred k
  closing_less x k h = ap (λ v. cond v (suc k) (cond (is_closing (form x)) (pred k) k)) (apart is_closing is_opening x refl h) ∙ ap (λ v. cond v (pred k) k) h

  both : {a b c : State} → Even a b → Even b c → Even a c
  both h k = record { level = k.level ∙ h.level; grows = let x = h.grows in let y = k.grows in omega arith; ends = λ n is less. k.ends n is (h.ends n is less) }

  then : {a b c : State} {j k : ℕ} → Balanced a b j → Balanced b c k → Balanced a c (max j k)
  then {a = a} {b = b} {c = c} h k = record {
    even = both h.even k.even;
    room = λ shallow. let x = h.room (shorter b.at c.at k.even.grows shallow) in let y = k.room shallow in let z = h.even.level in omega arith;
  }

  flat : {a b : State} → Even a b → Balanced a b 0
  flat {a = a} {b = b} h = record { even = h; room = λ shallow. let x = bounded a.at (shorter a.at b.at h.grows shallow) in omega arith }

  before : {a b c : State} {k : ℕ} → Even a b → Balanced b c k → Balanced a c k
  before h k = record { even = both h k.even; room = λ shallow. let x = k.room shallow in let z = h.level in omega arith }

  behind : {a b c : State} {k : ℕ} → Even b c → Balanced a b k → Balanced a c k
  behind {b = b} {c = c} h k = record { even = both k.even h; room = λ shallow. k.room (shorter b.at c.at h.grows shallow) }

  lower : {a b : State} {j k : ℕ} → k ≤ j → Balanced a b j → Balanced a b k
  lower e h = record { even = h.even; room = λ shallow. let x = h.room shallow in omega arith }

  -- what stands in brackets
  inside : {a b c d : State} {k : ℕ} → is_opening (form (s a.at)) ≡ true → b ≡ past a → Balanced b c k → is_closing (form (s c.at)) ≡ true → d ≡ past c → Balanced a d (suc k)
  inside {a = a} {b = b} {c = c} {d = d} h e x g f =
      let one : open_at b ≡ suc (open_at a) = ap (λ (z : State). open_before s z.at) e ∙ opening_more (s a.at) (open_at a) h in
      let two : open_at d ≡ pred (open_at c) = ap (λ (z : State). open_before s z.at) f ∙ closing_less (s c.at) (open_at c) g in
      let p = ap (λ (z : State). z.at) e in let q = ap (λ (z : State). z.at) f in let r = x.even.grows in
      record {
        even = record {
          level = two ∙ ap (λ i. pred i) (x.even.level ∙ one);
          grows = omega arith;
          ends = λ n is less. past_ends c d f (apart is_closing is_end (s c.at) refl g) n is (x.even.ends n is (past_ends a b e (apart is_opening is_end (s a.at) refl h) n is less));
        };
        room = λ shallow. let y = x.room (shorter c.at d.at (omega arith) shallow) in omega arith;
      }

  -- ---- what nests no bracket

  opens_even : (n : ℕ) (a b : State) → Opens s n a b → Even a b
  opens_even n a b o = still a b (ap (λ (z : State). z.at) o.1)

  same_even : (a b : State) → b ≡ a → Even a b
  same_even a b e = still a b (ap (λ (z : State). z.at) e)

  capture_even : (c : Option Named) (a b : State) → IsCapture s c a b → Even a b
  capture_even None a b (e, d) = same_even a b d
  capture_even (Some n) a b (m, h, g) = both (plain is_name a m refl refl h.0 h.2) (plain is_bar m b refl refl g.0 g.1)

  note_even : (c : Option (List ℕ)) (a b : State) → IsNote s c a b → Even a b
  note_even None a b (e, d) = same_even a b d
  note_even (Some t) a b h = plain is_note a b refl refl h.0 h.2

  neg_even : (c : Bool) (a b : State) → IsNeg s c a b → Even a b
  neg_even true a b h = plain is_neg a b refl refl h.0 h.1
  neg_even false a b h = same_even a b h.1

  operator_even : (op : Op) (c : Bool) (a b : State) → IsOperator s op c a b → Even a b
  operator_even op c a b (inl h) = plain is_sign a b refl refl h.0 h.2
  operator_even op c a b (inr (m, h, g)) = both (neg_even c a m h) (plain is_operator_word m b refl refl g.0 g.2)

  keys_operator_even : (op : Op) (c : Bool) (a b : State) → IsKeysOperator s op c a b → Even a b
  keys_operator_even op c a b (inl h) = plain is_equality a b refl refl h.0 h.2
  keys_operator_even op c a b (inr (m, h, g)) = both (neg_even c a m h) (plain is_in m b refl refl g.0 g.2)

  any_even : (full c : Bool) (a b : State) → IsAny s full c a b → Even a b
  any_even full true a b h = plain is_some_word a b refl refl h.0 h.1
  any_even full false a b h = same_even a b h.1

  not_even : (full c : Bool) (a b : State) → IsNot s full c a b → Even a b
  not_even full true a b h = plain is_neg a b refl refl h.0 h.1
  not_even full false a b h = same_even a b h.1

  names_even : (ns : List Named) (a b : State) → IsNames s ns a b → Even a b
  names_even [] a b h = same_even a b h.1
  names_even (n ∷ ns) a b (c, e, (d, f, g)) = both (plain is_comma a c refl refl e.0 e.1) (both (plain is_name c d refl refl f.0 f.2) (names_even ns d b g))

  -- ---- literals

  constant_holds : (k : Keyword) → is_bracketed (constant_kind k) ≡ false
  constant_holds kw.Let = refl
  constant_holds kw.Rule = refl
  constant_holds kw.True = refl
  constant_holds kw.False = refl
  constant_holds kw.Null = refl
  constant_holds kw.When = refl
  constant_holds kw.Some = refl
  constant_holds kw.Or = refl
  constant_holds kw.Not = refl
  constant_holds kw.Keys = refl
  constant_holds kw.This = refl
  constant_holds kw.In = refl
  constant_holds kw.Exists = refl
  constant_holds kw.Empty = refl
  constant_holds kw.IsString = refl
  constant_holds kw.IsList = refl
  constant_holds kw.IsStruct = refl
  constant_holds kw.IsBool = refl
  constant_holds kw.IsInt = refl
  constant_holds kw.IsFloat = refl
  constant_holds kw.IsNull = refl

  scalar_holds : (w : Word) → is_bracketed (scalar_kind w) ≡ false
  scalar_holds (Name name) = refl
  scalar_holds (Reserved k name) = constant_holds k
  scalar_holds (TypeName name) = refl
  scalar_holds (Var name) = refl
  scalar_holds (Str text) = refl
  scalar_holds (Pat text) = refl
  scalar_holds (Whole n) = refl
  scalar_holds (Fraction d) = refl
  scalar_holds (Note text) = refl
  scalar_holds (Sign mark) = refl
  scalar_holds End = refl

  abbrev deep_node : Label → Forest → ℕ
  deep_node l kids = cond (is_bracketed l.kind) (suc (deep_forest kids)) 0

  shallow_node : (l m : Label) (kids : Forest) → l ≡ m → is_bracketed m.kind ≡ false → deep_node l kids ≡ 0
  shallow_node l m kids e h = ap (λ (z : Label). deep_node z kids) e ∙ ap (λ v. cond v (suc (deep_forest kids)) 0) h

  level_zero : {a b : State} (l m : Label) (kids : Forest) → l ≡ m → is_bracketed m.kind ≡ false → Balanced a b 0 → Balanced a b (deep_node l kids)
  level_zero {a = a} {b = b} l m kids e h x = subst (λ k. Balanced a b k) (sym (shallow_node l m kids e h)) x

  deep_holder : (k : Kind) (name : Option (List ℕ)) (x : Lexeme) (l : Label) (kids : Forest) → is_bracketed k ≡ true → l ≡ holder k name x → deep_node l kids ≡ suc (deep_forest kids)
  deep_holder k name x l kids h e = ap (λ (z : Label). deep_node z kids) e ∙ ap (λ v. cond v (suc (deep_forest kids)) 0) h

  abbrev Nests : (State → State → Type 0) → ℕ → Type 0
  Nests P k = (a b : State) → P a b → Balanced a b k

  node_nests : (name : Option (List ℕ)) (l : Label) (kids : Forest) (I E : State → State → Type 0) → Nests I (deep_forest kids) → Nests E (deep_forest kids)
      → Nests (IsNode s name l kids I E) (deep_node l kids)
  node_nests name l kids I E i e a b (inl h) = level_zero l _ kids h.1.1 (scalar_holds (s a.at).word) (flat (plain is_scalar a b refl refl h.1.0 h.1.2))
  node_nests name l kids I E i e a b (inr (inl (r, k, h, (c, (p, (c1, f1, (c2, f2, (c3, f3, (c4, f4, (c5, f5, f6)))))), d)))) =
      subst (λ k. Balanced a b k) (sym (deep_holder (kind.Limits r) name (s a.at) l kids refl h)) (subst (λ t. Balanced a b (suc (deep_forest t))) (sym k) (behind (still c b (ap (λ (z : State). z.at) d)) (before (plain is_r a c1 refl refl f1.0 f1.1)
      (inside {k = 0} (implied is_opening_end is_opening (s c1.at) refl f2.0) f2.2
      (flat (both (plain is_number c2 c3 refl refl f3.0 f3.2) (both (plain is_comma c3 c4 refl refl f4.0 f4.1) (plain is_number c4 c5 refl refl f5.0 f5.2))))
      (implied is_closing_end is_closing (s c5.at) refl f6.0) f6.2))))
  node_nests name l kids I E i e a b (inr (inr (inl (c, f, (d, g, h))))) =
      subst (λ k. Balanced a b k) (sym (deep_holder kind.List name (s a.at) l kids refl f.1)) (inside (implied is_lbracket is_opening (s a.at) refl f.0) f.2 (i c d g) (implied is_rbracket is_closing (s d.at) refl h.0) h.1)
  node_nests name l kids I E i e a b (inr (inr (inr (c, f, (d, g, h))))) =
      subst (λ k. Balanced a b k) (sym (deep_holder kind.Map name (s a.at) l kids refl f.1)) (inside (implied is_lbrace is_opening (s a.at) refl f.0) f.2 (e c d g) (implied is_rbrace is_closing (s d.at) refl h.0) h.1)

  entry_nests : (front : Forest) (l : Label) (kids : Forest) (I E : State → State → Type 0) → Nests I (deep_forest kids) → Nests E (deep_forest kids)
      → Nests (IsEntry s front l kids I E) (deep_node l kids)
  entry_nests front l kids I E i e a b (name, new, (c, f, (d, g, h))) =
      before (both (plain is_key a c refl refl f.0 f.2) (plain is_colon c d refl refl g.0 g.1)) (node_nests (Some name) l kids I E i e d b h)

  mutual
    items_nest : (t : Forest) → Nests (AreItems s t) (deep_forest t)
    items_nest Nil a b h = flat (same_even a b h.1)
    items_nest (Node l kids rest) a b (e, (m, f, g)) = then (node_nests None l kids _ _ (items_nest kids) (entries_nest kids) a m f) (more_items_nest rest m b g)

    more_items_nest : (t : Forest) → Nests (AreMoreItems s t) (deep_forest t)
    more_items_nest Nil a b h = flat (same_even a b h.1)
    more_items_nest (Node l kids rest) a b (c, e, (m, f, g)) = before (plain is_comma a c refl refl e.0 e.1) (then (node_nests None l kids _ _ (items_nest kids) (entries_nest kids) c m f) (more_items_nest rest m b g))

    entries_nest : (t : Forest) → Nests (AreEntries s t) (deep_forest t)
    entries_nest Nil a b h = flat (same_even a b h.1)
    entries_nest (Node l kids rest) a b (e, (m, f, g)) = then (entry_nests Nil l kids _ _ (items_nest kids) (entries_nest kids) a m f) (more_entries_nest (Node l kids Nil) rest m b g)

    more_entries_nest : (front t : Forest) → Nests (AreMoreEntries s front t) (deep_forest t)
    more_entries_nest front Nil a b h = flat (same_even a b h.1)
    more_entries_nest front (Node l kids rest) a b (c, e, (m, f, g)) =
        before (plain is_comma a c refl refl e.0 e.1) (then (entry_nests front l kids _ _ (items_nest kids) (entries_nest kids) c m f) (more_entries_nest (snoc front l kids) rest m b g))

  literal_nests : (t : Forest) → Nests (IsLiteral s t) (deep_forest t)
  literal_nests Nil a b h = absurd h
  literal_nests (Node l kids Nil) a b h = then (node_nests None l kids _ _ (items_nest kids) (entries_nest kids) a b h) (flat (same_even b b refl))
  literal_nests (Node l kids (Node m others rest)) a b h = absurd h

  -- ---- items in a row

  -- brackets are balanced in each item, and nest so deep in them all
  abbrev EachNests : List Piece → ℕ → Type 0
  EachNests [] k = k ≡ 0
  EachNests (p ∷ ps) k = (j rest : ℕ) × (k ≡ max j rest) × Balanced p.from p.to j × EachNests ps rest

  row_step : (k : Sort) (p : Piece) (ps : List Piece) (b : State) (l r d : ℕ)
      → ((x y z : ℕ) → EachNests (of_sort ALet ps) x → EachNests (of_sort ARule ps) y → EachNests (of_sort APart ps) z → Balanced p.to b (max x (max y z)))
      → EachNests (cond (is_sort ALet k) (p ∷ of_sort ALet ps) (of_sort ALet ps)) l → EachNests (cond (is_sort ARule k) (p ∷ of_sort ARule ps) (of_sort ARule ps)) r
      → EachNests (cond (is_sort APart k) (p ∷ of_sort APart ps) (of_sort APart ps)) d → Balanced p.from b (max l (max r d))
  row_step ALet p ps b l r d others (j, rest, e, h, x) y z = lower (omega arith) (then h (others rest r d x y z))
  row_step ARule p ps b l r d others x (j, rest, e, h, y) z = lower (omega arith) (then h (others l rest d x y z))
  row_step APart p ps b l r d others x y (j, rest, e, h, z) = lower (omega arith) (then h (others l r rest x y z))

  row_nests : (sort : ℕ → Option Sort) (ps : List Piece) (a b : State) (l r d : ℕ) → InRow s sort ps a b
      → EachNests (of_sort ALet ps) l → EachNests (of_sort ARule ps) r → EachNests (of_sort APart ps) d → Balanced a b (max l (max r d))
  row_nests sort [] a b l r d row x y z = lower (omega arith) (flat (same_even a b row.1))
  row_nests sort (p ∷ ps) a b l r d row x y z = subst (λ i. Balanced i b (max l (max r d))) row.1 (row_step p.sort p ps b l r d (λ l r d x y z. row_nests sort ps p.to b l r d row.2 x y z) x y z)

  mutual
    body_nests : (x : Body) (a b : State) → IsBody s x a b → Balanced a b (deep_body x)
    body_nests (body n ls ds) a z (b, o, (c, e, (d, (ps, row, l, p, filled), h))) =
        before (opens_even n a b o) (inside (implied is_lbrace is_opening (s b.at) refl e.0) e.1
        (lower (omega arith) (row_nests body_sort ps c d (deep_lets ls) 0 (deep_disjs ds) row (lets_nest ls _ l) (subst (λ x. EachNests x 0) (sym (body_no_rules s ps c d row)) refl) (parts_nest ds _ p)))
        (implied is_rbrace is_closing (s d.at) refl h.0) h.1)

    lets_nest : (x : Lets) (ps : List Piece) → AreLets s x ps → EachNests ps (deep_lets x)
    lets_nest no_lets [] h = refl
    lets_nest no_lets (p ∷ ps) h = absurd h
    lets_nest (more_lets l ls) [] h = absurd h
    lets_nest (more_lets l ls) (p ∷ ps) h = (deep_let l, deep_lets ls, refl, let_nests l p.from p.to h.0, lets_nest ls ps h.1)

    parts_nest : (x : Disjs) (ps : List Piece) → AreDisjs s x ps → EachNests ps (deep_disjs x)
    parts_nest no_disjs [] h = refl
    parts_nest no_disjs (p ∷ ps) h = absurd h
    parts_nest (more_disjs d ds) [] h = absurd h
    parts_nest (more_disjs d ds) (p ∷ ps) h = (deep_disj d, deep_disjs ds, refl, disj_nests true d p.from p.to h.0, parts_nest ds ps h.1)

    let_nests : (x : Let) (a b : State) → IsLet s x a b → Balanced a b (deep_let x)
    let_nests (assign n name e) a z (b, o, (c, e1, (d, e2, (i, e3, h)))) =
        before (both (opens_even n a b o) (both (plain is_let b c refl refl e1.0 e1.1) (both (plain is_name c d refl refl e2.0 e2.2) (plain is_assign d i refl refl e3.0 e3.1)))) (expr_nests true e i z h)

    conds_nest : (x : Conds) (a b : State) → IsConds s x a b → Balanced a b (deep_conds x)
    conds_nest (conds n no_disjs) a z h = absurd h
    conds_nest (conds n (more_disjs d ds)) a z (b, o, (m, f, g)) = before (opens_even n a b o) (then (disj_nests false d b m f) (disjs_nest ds m z g))

    opt_conds_nest : (x : OptConds) (a b : State) → IsOptConds s x a b → Balanced a b (deep_opt_conds x)
    opt_conds_nest no_conds a b h = flat (same_even a b h.1)
    opt_conds_nest (with_conds c) a b (m, e, h) = before (plain is_when a m refl refl e.0 e.1) (conds_nest c m b h)

    disjs_nest : (x : Disjs) (a b : State) → IsDisjs s x a b → Balanced a b (deep_disjs x)
    disjs_nest no_disjs a b h = flat (same_even a b h.1)
    disjs_nest (more_disjs d ds) a b (e, (m, f, g)) = then (disj_nests false d a m f) (disjs_nest ds m b g)

    disj_nests : (full : Bool) (x : Disj) (a b : State) → IsDisj s full x a b → Balanced a b (deep_disj x)
    disj_nests full (disj n no_parts) a z h = absurd h
    disj_nests full (disj n (more_parts p ps)) a z (b, o, (m, f, g)) = before (opens_even n a b o) (then (part_nests full p b m f) (ors_nest full ps m z g))

    ors_nest : (full : Bool) (x : Parts) (a b : State) → IsOrs s full x a b → Balanced a b (deep_parts x)
    ors_nest full no_parts a b h = flat (same_even a b h.1)
    ors_nest full (more_parts p ps) a z (b, e, (m, f, g)) = before (plain is_or a b refl refl e.0 e.1) (then (part_nests full p b m f) (ors_nest full ps m z g))

    part_nests : (full : Bool) (x : Part) (a b : State) → IsPart s full x a b → Balanced a b (deep_part x)
    part_nests full (block n any q x) a z (v, (b, o, (c, h, (m, f, g)))) = before (both (opens_even n a b o) (any_even full any b c h)) (then (query_nests q c m f) (body_nests x m z g))
    part_nests full (guarded n x y) a z (v, (b, o, (c, e, (m, f, g)))) = before (both (opens_even n a b o) (plain is_when b c refl refl e.0 e.1)) (then (conds_nest x c m f) (body_nests y m z g))
    part_nests full (kinds n name x y) a z (v, (b, o, (c, e, (m, f, g)))) = before (both (opens_even n a b o) (plain is_type_name b c refl refl e.0 e.2)) (then (opt_conds_nest x c m f) (body_nests y m z g))
    part_nests full (test n any q op negated x message) a z (b, o, (c, h, (d, f, (i, g, (m, r, t))))) =
        before (both (opens_even n a b o) (any_even full any b c h)) (then (query_nests q c d f) (before (operator_even op negated d i g) (behind (note_even message m z t) (right_nests op x i m r))))
    part_nests full (refer n negated name message) a z (b, o, (c, h, (d, f, (p, t)))) =
        flat (both (opens_even n a b o) (both (not_even full negated b c h) (both (plain is_name c d refl refl f.0 f.2) (note_even message d z t))))
    part_nests full (call n negated name es message) a z (b, o, (c, h, (d, f, (i, g, (j, k, (m, r, t)))))) =
        before (both (opens_even n a b o) (both (not_even full negated b c h) (plain is_name c d refl refl f.0 f.2)))
        (behind (note_even message m z t) (inside (implied is_lparen is_opening (s d.at) refl g.0) g.1 (exprs_nest es i j k) (implied is_rparen is_closing (s j.at) refl r.0) r.1))

    right_nests : (op : Op) (x : OptExpr) (a b : State) → IsRight s op x a b → Balanced a b (deep_opt_expr x)
    right_nests op no_expr a b h = flat (same_even a b h.1)
    right_nests op (with_expr e) a b h = expr_nests false e a b h.1

    query_nests : (x : Query) (a b : State) → IsQuery s x a b → Balanced a b (deep_query x)
    query_nests (query n no_steps) a z h = absurd h
    query_nests (query n (more_steps p ps)) a z (b, o, (m, f, g)) = before (opens_even n a b o) (then (start_nests p b m f) (steps_nest ps m z g))

    start_nests : (x : Step) (a b : State) → IsStart s x a b → Balanced a b (deep_step x)
    start_nests (this n) a z (b, o, f) = flat (both (opens_even n a b o) (plain is_this b z refl refl f.0 f.1))
    start_nests (var n name) a z (b, o, f) = flat (both (opens_even n a b o) (plain is_var b z refl refl f.0 f.2))
    start_nests (key n name) a z (b, o, f) = flat (both (opens_even n a b o) (plain is_first_key b z refl refl f.0 f.2))
    start_nests (index n i) a z h = absurd h
    start_nests (every n) a z h = absurd h
    start_nests (items n) a z h = absurd h
    start_nests (splice n name) a z h = absurd h
    start_nests (filter n name c) a z h = absurd h
    start_nests (keys n name op negated e) a z h = absurd h

    steps_nest : (x : Steps) (a b : State) → IsSteps s x a b → Balanced a b (deep_steps x)
    steps_nest no_steps a b h = flat (same_even a b h.1)
    steps_nest (more_steps p ps) a b (e, (m, f, g)) = then (step_nests p a m f) (steps_nest ps m b g)

    step_nests : (x : Step) (a b : State) → IsStep s x a b → Balanced a b (deep_step x)
    step_nests (this n) a z h = absurd h
    step_nests (var n name) a z h = absurd h
    step_nests (key n name) a z (b, o, (c, e, f)) = flat (both (opens_even n a b o) (both (plain is_dot b c refl refl e.0 e.1) (plain is_key c z refl refl f.0 f.2)))
    step_nests (index n i) a z (b, o, inl (c, e, f)) = flat (both (opens_even n a b o) (both (plain is_dot b c refl refl e.0 e.1) (plain is_index c z refl refl f.0 f.2)))
    step_nests (index n i) a z (b, o, inr (c, e, (d, f, g))) =
        before (opens_even n a b o) (lower {j = 1} (omega arith) (inside (implied is_lbracket is_opening (s b.at) refl e.0) e.1 (flat (plain is_index c d refl refl f.0 f.2)) (implied is_rbracket is_closing (s d.at) refl g.0) g.1))
    step_nests (every n) a z (b, o, (c, e, f)) = flat (both (opens_even n a b o) (both (plain is_dot b c refl refl e.0 e.1) (plain is_star c z refl refl f.0 f.1)))
    step_nests (items n) a z (b, o, (c, e, (d, f, g))) =
        before (opens_even n a b o) (inside {k = 0} (implied is_lbracket is_opening (s b.at) refl e.0) e.1 (flat (plain is_star c d refl refl f.0 f.1)) (implied is_rbracket is_closing (s d.at) refl g.0) g.1)
    step_nests (splice n name) a z (b, o, (c, e, f)) = flat (both (opens_even n a b o) (both (plain is_dot b c refl refl e.0 e.1) (plain is_var c z refl refl f.0 f.2)))
    step_nests (filter n name x) a z (b, o, (c, e, (d, f, (m, g, h)))) =
        before (opens_even n a b o) (inside (implied is_lbracket is_opening (s b.at) refl e.0) e.1 (before (capture_even name c d f) (conds_nest x d m g)) (implied is_rbracket is_closing (s m.at) refl h.0) h.1)
    step_nests (keys n name op negated x) a z (b, o, (c, e, (d, f, (i, k, (j, t, (m, g, h)))))) =
        before (opens_even n a b o) (inside (implied is_lbracket is_opening (s b.at) refl e.0) e.1
        (before (both (capture_even name c d f) (both (plain is_keys d i refl refl k.0 k.1) (keys_operator_even op negated i j t))) (expr_nests false x j m g)) (implied is_rbracket is_closing (s m.at) refl h.0) h.1)

    expr_nests : (lone : Bool) (x : Expr) (a b : State) → IsExpr s lone x a b → Balanced a b (deep_expr x)
    expr_nests lone (literal n t) a z (v, (b, o, f)) = before (opens_even n a b o) (literal_nests t b z f)
    expr_nests lone (function n name es) a z (v, (b, o, (c, e, (d, f, (m, g, h))))) =
        before (both (opens_even n a b o) (plain is_any_name b c refl refl e.0 e.2)) (inside (implied is_lparen is_opening (s c.at) refl f.0) f.1 (exprs_nest es d m g) (implied is_rparen is_closing (s m.at) refl h.0) h.1)
    expr_nests lone (asked q) a z (v, (w, h)) = query_nests q a z h
    expr_nests lone (found n q) a z (v, (w, (b, o, (c, e, f)))) = before (both (opens_even n a b o) (plain is_some_word b c refl refl e.0 e.1)) (query_nests q c z f)

    exprs_nest : (x : Exprs) (a b : State) → IsExprs s x a b → Balanced a b (deep_exprs x)
    exprs_nest no_exprs a b h = absurd h
    exprs_nest (more_exprs e es) a b (m, f, g) = then (expr_nests false e a m f) (more_exprs_nest es m b g)

    more_exprs_nest : (x : Exprs) (a b : State) → IsMoreExprs s x a b → Balanced a b (deep_exprs x)
    more_exprs_nest no_exprs a b h = flat (same_even a b h.1)
    more_exprs_nest (more_exprs e es) a z (b, h, (m, f, g)) = before (plain is_comma a b refl refl h.0 h.1) (then (expr_nests false e b m f) (more_exprs_nest es m z g))

  head_nests : (ns : List Named) (c : OptConds) (a b : State) → IsHead s ns c a b → Balanced a b (deep_head ns c)
  head_nests [] c a b h = opt_conds_nest c a b h.1
  head_nests (n ∷ ns) no_conds a b (c, e, (d, f, (m, g, h))) =
      lower {j = 1} (omega arith) (inside {k = 0} (implied is_lparen is_opening (s a.at) refl e.0) e.1 (flat (both (plain is_name c d refl refl f.0 f.2) (names_even ns d m g))) (implied is_rparen is_closing (s m.at) refl h.0) h.1)
  head_nests (n ∷ ns) (with_conds c) a b h = absurd h

  rule_nests : (r : Rule) (a b : State) → IsRule s r a b → Balanced a b (deep_rule r)
  rule_nests r a z (b, o, (c, e, (d, f, (m, g, h)))) =
      before (both (opens_even r.site a b o) (both (plain is_rule b c refl refl e.0 e.1) (plain is_rule_name c d refl refl f.0 f.2))) (then (head_nests r.params r.cond d m g) (body_nests r.body m z h))

  rules_nest : (x : List Rule) (ps : List Piece) → AreRules s x ps → EachNests ps (deep_rules x)
  rules_nest [] [] h = refl
  rules_nest [] (p ∷ ps) h = absurd h
  rules_nest (r ∷ rs) [] h = absurd h
  rules_nest (r ∷ rs) (p ∷ ps) h = (deep_rule r, deep_rules rs, refl, rule_nests r p.from p.to h.0, rules_nest rs ps h.1)

  contents_nest : (ls : Lets) (rs : List Rule) (ds : Disjs) (a b : State) → IsContents s ls rs ds a b → Balanced a b (deep_file ls rs ds)
  contents_nest ls rs ds a z (b, o, (ps, row, l, r, p)) =
      before (opens_even 0 a b o) (row_nests file_sort ps b z (deep_lets ls) (deep_rules rs) (deep_disjs ds) row (lets_nest ls _ l) (rules_nest rs _ r) (parts_nest ds _ p))

  -- where no bracket opens while 128 are open, no more than 128 brackets stand in each other in the canonical text
  pub contents_shallow : (ls : Lets) (rs : List Rule) (ds : Disjs) (a b : State) → IsContents s ls rs ds a b → IsShallowTo s b.at → deep_file ls rs ds ≤ 128
  contents_shallow ls rs ds a b h shallow = let x = (contents_nest ls rs ds a b h).room shallow in omega arith
