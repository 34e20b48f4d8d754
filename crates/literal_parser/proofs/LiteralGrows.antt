-- A literal takes a lexeme.
use Rattle.std.proofs.Common.{inl, inr, ℕ, ◌≤◌, ◌<◌, arith, List, Option, Some, None}
use Rattle.doc_values.specs.Tree.{Label, Forest, Nil, Node, snoc}
use Rattle.decimals.specs.declared.decimal.Range.{Range}
use Rattle.literal_parser.specs.Lexemes.{Lexeme}
use Rattle.literal_parser.specs.States.{State, Rel}
use Rattle.literal_parser.specs.Literal.{IsRange, IsNode, IsEntry, AreItems, AreMoreItems, AreEntries, AreMoreEntries, IsLiteral}
use Rattle.literal_parser.proofs.Steps.{place}

module _ (s : ℕ → Lexeme) where
  range_grows : (r : Range) (a b : State) → IsRange s r a b → a.at < b.at
  range_grows r a z (is, (b, e, (c, f, (l, g, (m, h, (n, i, j)))))) =
      let p = place e.1 in let q = place f.2 in let t = place g.2 in let u = place h.1 in let v = place i.2 in let w = place j.2 in omega arith

  node_grows : (name : Option (List ℕ)) (l : Label) (kids : Forest) (items entries : Rel) → ((a b : State) → items a b → a.at ≤ b.at) → ((a b : State) → entries a b → a.at ≤ b.at)
      → (a b : State) → IsNode s name l kids items entries a b → a.at < b.at
  node_grows name l kids items entries as_items as_entries a b (inl e) = let p = place e.1.2 in omega arith
  node_grows name l kids items entries as_items as_entries a b (inr (inl (r, none, is, (c, e, f)))) = let p = range_grows r a c e in let q = place f in omega arith
  node_grows name l kids items entries as_items as_entries a b (inr (inr (inl (c, e, (d, f, g))))) = let p = place e.2 in let q = as_items c d f in let r = place g.1 in omega arith
  node_grows name l kids items entries as_items as_entries a b (inr (inr (inr (c, e, (d, f, g))))) = let p = place e.2 in let q = as_entries c d f in let r = place g.1 in omega arith

  entry_grows : (before : Forest) (l : Label) (kids : Forest) (items entries : Rel) → ((a b : State) → items a b → a.at ≤ b.at) → ((a b : State) → entries a b → a.at ≤ b.at)
      → (a b : State) → IsEntry s before l kids items entries a b → a.at < b.at
  entry_grows before l kids items entries as_items as_entries a b (name, new, (c, e, (d, f, g))) =
      let p = place e.2 in let q = place f.1 in let r = node_grows (Some name) l kids items entries as_items as_entries d b g in omega arith

  mutual
    pub items_grow : (t : Forest) (a b : State) → AreItems s t a b → a.at ≤ b.at
    items_grow Nil a b (e, f) = let p = place f in omega arith
    items_grow (Node l kids rest) a b (e, (c, f, g)) =
        let p = node_grows None l kids (AreItems s kids) (AreEntries s kids) (items_grow kids) (entries_grow kids) a c f in let q = more_items_grow rest c b g in omega arith

    pub more_items_grow : (t : Forest) (a b : State) → AreMoreItems s t a b → a.at ≤ b.at
    more_items_grow Nil a b (e, f) = let p = place f in omega arith
    more_items_grow (Node l kids rest) a b (c, e, (d, f, g)) =
        let o = place e.1 in let p = node_grows None l kids (AreItems s kids) (AreEntries s kids) (items_grow kids) (entries_grow kids) c d f in let q = more_items_grow rest d b g in omega arith

    pub entries_grow : (t : Forest) (a b : State) → AreEntries s t a b → a.at ≤ b.at
    entries_grow Nil a b (e, f) = let p = place f in omega arith
    entries_grow (Node l kids rest) a b (e, (c, f, g)) =
        let p = entry_grows Nil l kids (AreItems s kids) (AreEntries s kids) (items_grow kids) (entries_grow kids) a c f in let q = more_entries_grow (Node l kids Nil) rest c b g in omega arith

    pub more_entries_grow : (before t : Forest) (a b : State) → AreMoreEntries s before t a b → a.at ≤ b.at
    more_entries_grow before Nil a b (e, f) = let p = place f in omega arith
    more_entries_grow before (Node l kids rest) a b (c, e, (d, f, g)) =
        let o = place e.1 in let p = entry_grows before l kids (AreItems s kids) (AreEntries s kids) (items_grow kids) (entries_grow kids) c d f in
        let q = more_entries_grow (snoc before l kids) rest d b g in omega arith

  pub literal_grows : (t : Forest) (a b : State) → IsLiteral s t a b → a.at < b.at
  literal_grows Nil a b h = absurd h
  literal_grows (Node l kids Nil) a b h = node_grows None l kids (AreItems s kids) (AreEntries s kids) (items_grow kids) (entries_grow kids) a b h
  literal_grows (Node l kids (Node m ks rest)) a b h = absurd h

  -- the parts, for what is spelled so
  pub tree_grows : (name : Option (List ℕ)) (l : Label) (kids : Forest) (a b : State) → IsNode s name l kids (AreItems s kids) (AreEntries s kids) a b → a.at < b.at
  tree_grows name l kids a b h = node_grows name l kids (AreItems s kids) (AreEntries s kids) (items_grow kids) (entries_grow kids) a b h

  pub keyed_grows : (before : Forest) (l : Label) (kids : Forest) (a b : State) → IsEntry s before l kids (AreItems s kids) (AreEntries s kids) a b → a.at < b.at
  keyed_grows before l kids a b h = entry_grows before l kids (AreItems s kids) (AreEntries s kids) (items_grow kids) (entries_grow kids) a b h
