-- What is spelled as a literal is read so.
use Rattle.std.proofs.Common.{◌≡◌, inl, inr, max, ℕ, zero, suc, ◌≤◌, ◌<◌, ◌+◌, true, false, cond, refl, ap, sym, subst, arith, List, Option, Some, None}
use Rattle.doc_values.specs.Tree.{Label, Forest, Nil, Node, snoc, has_key}
use Rattle.decimals.specs.declared.decimal.Range.{Range}
use Rattle.doc_values.specs.declared.kind.Kind.TheVariants as kind
use Rattle.literal_parser.specs.Lexemes.{Lexeme}
use Rattle.literal_parser.specs.Forms.{form, is_lbrace, is_rbrace, is_lbracket, is_rbracket, is_comma, is_colon, is_r, is_number, is_key, is_scalar, is_opening_end, is_closing_end, is_square, opens_range, text_of, number_of}
use Rattle.literal_parser.specs.States.{State, ◌⨾◌, Takes, Has, ranged}
use Rattle.literal_parser.specs.code.Parser.{stop, choose_pair}
use Rattle.literal_parser.specs.Literal.{scalar, holder, is_mixed, IsRange, IsNode, IsEntry, AreItems, AreMoreItems, AreEntries, AreMoreEntries, IsLiteral}
use Rattle.literal_parser.specs.code.LiteralReading.{has_room, bounds, range, bounded, list, map_of, node, more_items, items_of, valued, entry, more_entries, entries_of, within, literal_of}
use Rattle.literal_parser.specs.code.LiteralDepth.{is_bracketed, deep_forest}
use Rattle.literal_parser.proofs.Combine.{Gives, gives, gives_then, gives_if}
use Rattle.literal_parser.proofs.Apart.{apart}
use Rattle.literal_parser.proofs.Steps.{place, here, gives_takes, gives_has, gives_ranged, by, by_pair}
use Rattle.literal_parser.proofs.LiteralGrows.{tree_grows, keyed_grows, more_items_grow, more_entries_grow}

module _ (s : ℕ → Lexeme) where
  range_gives : (name : Option (List ℕ)) (r : Range) (a b : State) (seen : ℕ) → (IsRange s r ⨾ (λ c d. d ≡ ranged (is_mixed r) (s a.at).from c)) a b
      → Gives (range s name a seen) (holder (kind.Limits r) name (s a.at), Nil) b
  unfolding range bounds
  range_gives name r a b seen (m, (is, (c, e, (d, f, (g, h, (i, j, (k, n, o)))))), p) =
      gives_then _ (gives_has s is_r (λ x. x) (s a.at) a c seen (e.0, refl, e.1)) (λ sn. gives_then _ {a = r}
      (gives_then _ (gives_has s is_opening_end (λ x. is_square (form x)) r.low_in c d sn f) (λ sn. gives_then _ (gives_has s is_number number_of r.low d g sn h) (λ sn.
      gives_then _ (gives_takes s is_comma g i sn j) (λ sn. gives_then _ (gives_has s is_number number_of r.high i k sn n) (λ sn.
      gives_then _ (gives_has s is_closing_end (λ x. is_square (form x)) r.high_in k m sn o) (λ sn. gives))))))
      (λ sn. gives_then _ (gives_ranged (is_mixed r) (s a.at).from m b sn p) (λ sn. gives)))

  limits_gives : (name : Option (List ℕ)) (r : Range) (l : Label) (kids : Forest) (a b : State) (seen : ℕ) → kids ≡ Nil → l ≡ holder (kind.Limits r) name (s a.at)
      → (IsRange s r ⨾ (λ c d. d ≡ ranged (is_mixed r) (s a.at).from c)) a b → Gives (range s name a seen) (l, kids) b
  limits_gives name r l kids a b seen none is h =
      subst (λ k. Gives (range s name a seen) (l, k) b) (sym none) (subst (λ (n : Label). Gives (range s name a seen) (n, Nil) b) (sym is) (range_gives name r a b seen h))

  module _ (turns : ℕ) where
    -- what stands in brackets is read as it is spelled, where its own brackets are no deeper than a number
    abbrev Items : Forest → Type 0
    Items kids = (d : ℕ) (a b : State) (seen : ℕ) → deep_forest kids ≤ d → b.at < turns → AreItems s kids a b → Gives (items_of s turns (has_room d) (within s turns d).0 (within s turns d).1 a seen) kids b

    abbrev Entries : Forest → Type 0
    Entries kids = (d : ℕ) (a b : State) (seen : ℕ) → deep_forest kids ≤ d → b.at < turns → AreEntries s kids a b → Gives (entries_of s turns (has_room d) (within s turns d).0 (within s turns d).1 a seen) kids b

    list_gives : (depth : ℕ) (name : Option (List ℕ)) (l : Label) (kids : Forest) (a b : State) (seen : ℕ) → Items kids → suc (deep_forest kids) ≤ depth → b.at < turns
        → (Has s is_lbracket (holder kind.List name) l ⨾ AreItems s kids ⨾ Takes s is_rbracket) a b → Gives (list s turns (has_room depth) (within s turns depth).0 (within s turns depth).1 name a seen) (l, kids) b
    unfolding list
    list_gives zero name l kids a b seen items deep end h = absurd (omega arith)
    list_gives (suc depth) name l kids a b seen items deep end (c, e, (d, f, g)) =
        let p = place g.1 in
        gives_then _ (gives_has s is_lbracket (holder kind.List name) l a c seen e) (λ sn. gives_then _ (items depth c d sn (omega arith) (omega arith) f) (λ sn.
        gives_then _ (gives_takes s is_rbracket d b sn g) (λ sn. gives)))

    map_gives : (depth : ℕ) (name : Option (List ℕ)) (l : Label) (kids : Forest) (a b : State) (seen : ℕ) → Entries kids → suc (deep_forest kids) ≤ depth → b.at < turns
        → (Has s is_lbrace (holder kind.Map name) l ⨾ AreEntries s kids ⨾ Takes s is_rbrace) a b → Gives (map_of s turns (has_room depth) (within s turns depth).0 (within s turns depth).1 name a seen) (l, kids) b
    unfolding map_of
    map_gives zero name l kids a b seen entries deep end h = absurd (omega arith)
    map_gives (suc depth) name l kids a b seen entries deep end (c, e, (d, f, g)) =
        let p = place g.1 in
        gives_then _ (gives_has s is_lbrace (holder kind.Map name) l a c seen e) (λ sn. gives_then _ (entries depth c d sn (omega arith) (omega arith) f) (λ sn.
        gives_then _ (gives_takes s is_rbrace d b sn g) (λ sn. gives)))

    abbrev deep : Label → Forest → ℕ
    deep l kids = cond (is_bracketed l.kind) (suc (deep_forest kids)) 0

    room_left : (depth k : ℕ) → suc k ≤ depth → has_room depth ≡ true
    room_left zero k some = absurd (omega arith)
    room_left (suc depth) k some = refl

    bounded_gives : (depth : ℕ) (name : Option (List ℕ)) (l : Label) (kids : Forest) (a b : State) (seen : ℕ) → has_room depth ≡ true → opens_range (s a.at) (s (suc a.at)) ≡ true
        → Gives (range s name a (max seen (suc a.at))) (l, kids) b → Gives (bounded s turns (has_room depth) (within s turns depth).0 (within s turns depth).1 name a seen) (l, kids) b
    unfolding bounded
    bounded_gives depth name l kids a b seen room opens h = gives_if (choose_pair s opens_range (range s name) stop) stop a seen (has_room depth) true room (by_pair s opens_range true _ _ a seen opens h)

    node_gives : (depth : ℕ) (name : Option (List ℕ)) (l : Label) (kids : Forest) → Items kids → Entries kids → (a b : State) (seen : ℕ) → deep l kids ≤ depth → b.at < turns
        → IsNode s name l kids (AreItems s kids) (AreEntries s kids) a b → Gives (node s turns (has_room depth) (within s turns depth).0 (within s turns depth).1 name a seen) (l, kids) b
    unfolding node
    node_gives depth name l kids items entries a b seen low end (inl (none, e)) = by s is_scalar true _ _ a seen e.0
        (gives_then _ (gives_has s is_scalar (scalar name) l a b _ e) (λ sn. record { given = (ap (λ k. (l, k)) (sym none), refl) }))
    node_gives depth name l kids items entries a b seen low end (inr (inl (r, none, is, (m, (opens, (c, e, h)), p)))) =
        by s is_scalar false _ _ a seen (apart is_r is_scalar (s a.at) refl e.0) (by s is_lbracket false _ _ a _ (apart is_r is_lbracket (s a.at) refl e.0)
        (by s is_lbrace false _ _ a _ (apart is_r is_lbrace (s a.at) refl e.0) (by s is_r true _ _ a _ e.0 (bounded_gives depth name l kids a b _
        (room_left depth (deep_forest kids) (subst (λ (m : Label). deep m kids ≤ depth) is low)) opens (limits_gives name r l kids a b _ none is (m, (opens, (c, e, h)), p))))))
    node_gives depth name l kids items entries a b seen low end (inr (inr (inl (c, e, h)))) =
        by s is_scalar false _ _ a seen (apart is_lbracket is_scalar (s a.at) refl e.0) (by s is_lbracket true _ _ a _ e.0
        (list_gives depth name l kids a b _ items (subst (λ (m : Label). deep m kids ≤ depth) e.1 low) end (c, e, h)))
    node_gives depth name l kids items entries a b seen low end (inr (inr (inr (c, e, h)))) =
        by s is_scalar false _ _ a seen (apart is_lbrace is_scalar (s a.at) refl e.0) (by s is_lbracket false _ _ a _ (apart is_lbrace is_lbracket (s a.at) refl e.0) (by s is_lbrace true _ _ a _ e.0
        (map_gives depth name l kids a b _ entries (subst (λ (m : Label). deep m kids ≤ depth) e.1 low) end (c, e, h))))

    entry_gives : (depth : ℕ) (before : Forest) (l : Label) (kids : Forest) → Items kids → Entries kids → (a b : State) (seen : ℕ) → deep l kids ≤ depth → b.at < turns
        → IsEntry s before l kids (AreItems s kids) (AreEntries s kids) a b → Gives (entry s turns (has_room depth) (within s turns depth).0 (within s turns depth).1 before a seen) (l, kids) b
    unfolding entry valued
    entry_gives depth before l kids items entries a b seen low end (name, new, (c, e, (d, f, h))) =
        gives_then _ (gives_has s is_key text_of name a c seen e) (λ sn. gives_if stop _ c sn (has_key before name) false new (gives_then _ (gives_takes s is_colon c d sn f) (λ sn.
        node_gives depth (Some name) l kids items entries d b sn low end h)))

    mutual
      unfolding items_of entries_of more_items more_entries

      items_gives : (kids : Forest) → Items kids
      items_gives Nil depth a b seen low end (e, f) = by s is_rbracket true _ _ a seen e (here f)
      items_gives (Node l kids rest) depth a b seen low end (e, (c, f, g)) =
          let p = tree_grows s None l kids a c f in let q = more_items_grow s rest c b g in
          by s is_rbracket false _ _ a seen e (gives_then _ (node_gives depth None l kids (items_gives kids) (entries_gives kids) a c _ (omega arith) (omega arith) f) (λ sn.
          gives_then _ (more_items_gives rest depth turns c b sn (omega arith) (omega arith) end g) (λ sn. gives)))

      more_items_gives : (t : Forest) (depth k : ℕ) (a b : State) (seen : ℕ) → deep_forest t ≤ depth → b.at < k + a.at → b.at < turns → AreMoreItems s t a b
          → Gives (more_items s turns (has_room depth) (within s turns depth).0 (within s turns depth).1 k a seen) t b
      more_items_gives t depth zero a b seen low room end h = let q = more_items_grow s t a b h in absurd (omega arith)
      more_items_gives Nil depth (suc k) a b seen low room end (e, f) = by s is_comma false _ _ a seen e (here f)
      more_items_gives (Node l kids rest) depth (suc k) a b seen low room end (c, e, (d, f, g)) =
          let o = place e.1 in let p = tree_grows s None l kids c d f in let q = more_items_grow s rest d b g in
          by s is_comma true _ _ a seen e.0 (gives_then _ (gives_takes s is_comma a c _ e) (λ sn.
          gives_then _ (node_gives depth None l kids (items_gives kids) (entries_gives kids) c d sn (omega arith) (omega arith) f) (λ sn.
          gives_then _ (more_items_gives rest depth k d b sn (omega arith) (omega arith) end g) (λ sn. gives))))

      entries_gives : (kids : Forest) → Entries kids
      entries_gives Nil depth a b seen low end (e, f) = by s is_rbrace true _ _ a seen e (here f)
      entries_gives (Node l kids rest) depth a b seen low end (e, (c, f, g)) =
          let p = keyed_grows s Nil l kids a c f in let q = more_entries_grow s (Node l kids Nil) rest c b g in
          by s is_rbrace false _ _ a seen e (gives_then _ (entry_gives depth Nil l kids (items_gives kids) (entries_gives kids) a c _ (omega arith) (omega arith) f) (λ sn.
          gives_then _ (more_entries_gives (Node l kids Nil) rest depth turns c b sn (omega arith) (omega arith) end g) (λ sn. gives)))

      more_entries_gives : (before t : Forest) (depth k : ℕ) (a b : State) (seen : ℕ) → deep_forest t ≤ depth → b.at < k + a.at → b.at < turns → AreMoreEntries s before t a b
          → Gives (more_entries s turns (has_room depth) (within s turns depth).0 (within s turns depth).1 k before a seen) t b
      more_entries_gives before t depth zero a b seen low room end h = let q = more_entries_grow s before t a b h in absurd (omega arith)
      more_entries_gives before Nil depth (suc k) a b seen low room end (e, f) = by s is_comma false _ _ a seen e (here f)
      more_entries_gives before (Node l kids rest) depth (suc k) a b seen low room end (c, e, (d, f, g)) =
          let o = place e.1 in let p = keyed_grows s before l kids c d f in let q = more_entries_grow s (snoc before l kids) rest d b g in
          by s is_comma true _ _ a seen e.0 (gives_then _ (gives_takes s is_comma a c _ e) (λ sn.
          gives_then _ (entry_gives depth before l kids (items_gives kids) (entries_gives kids) c d sn (omega arith) (omega arith) f) (λ sn.
          gives_then _ (more_entries_gives (snoc before l kids) rest depth k d b sn (omega arith) (omega arith) end g) (λ sn. gives))))

    pub literal_gives : (depth : ℕ) (t : Forest) (a b : State) (seen : ℕ) → deep_forest t ≤ depth → b.at < turns → IsLiteral s t a b → Gives (literal_of s turns depth a seen) t b
    unfolding literal_of
    literal_gives depth Nil a b seen low end h = absurd h
    literal_gives depth (Node l kids Nil) a b seen low end h =
        gives_then _ (node_gives depth None l kids (items_gives kids) (entries_gives kids) a b seen (omega arith) end h) (λ sn. gives)
    literal_gives depth (Node l kids (Node m ks rest)) a b seen low end h = absurd h
