-- The canonical text of a literal is read as the literal: by recursion on the tree.
use Rattle.std.proofs.Common.{◌≡◌, inl, inr, ℕ, suc, Bool, true, false, ◌&&◌, ◌||◌, List, [], Option, Some, None, codes, refl, sym, ap, ◌∙◌, subst, true≢false}
use Rattle.doc_values.specs.Tree.{Label, Forest, Nil, Node, snoc, has_key, key_is}
use Rattle.decimals.specs.declared.decimal.Range.{Range}
use Rattle.doc_values.specs.declared.kind.Kind.{Kind}
use Rattle.doc_values.specs.declared.kind.Kind.TheVariants as kind
use Rattle.guard_lexer.specs.declared.token.Mark.TheVariants as m
use Rattle.literal_parser.specs.declared.keyword.Keyword.{Keyword}
use Rattle.literal_parser.specs.declared.keyword.Keyword.TheVariants as kw
use Rattle.literal_parser.specs.Lexemes.{Lexeme, Word, Name, Reserved, TypeName, Var, Str, Pat, Whole, Fraction, Note, Sign, End}
use Rattle.literal_parser.specs.Forms.{form, word_form, mark_form, is_lbrace, is_rbrace, is_lbracket, is_rbracket, is_comma, is_colon, is_r, is_number, is_key, is_scalar, is_opening_end, is_closing_end, is_square, text_in, number_in}
use Rattle.literal_parser.specs.States.{State, Rel, past, ranged}
use Rattle.literal_parser.specs.Literal.{scalar_kind, scalar_text, scalar, holder, is_mixed, IsRange, IsNode, IsEntry, AreItems, AreMoreItems, AreEntries, AreMoreEntries, IsLiteral}
use Rattle.literal_parser.proofs.Apart.{apart}
use Rattle.rule_spelling.specs.code.Pieces.{Piece}
use Rattle.rule_printer.specs.code.RulePieces.{space, mark, range, value, entry, opening_end, closing_end, item_pieces, more_item_pieces, entry_pieces, more_entry_pieces, literal_pieces}
use Rattle.printer_laws.specs.code.Unplaced.{unplaced_label, unplaced_tree}
use Rattle.printer_laws.specs.code.Shown.{IsQuotable, IsReadBack, IsLevel, Shows, Told, first_form}
use Rattle.printer_laws.proofs.Showing.{level_past, level_same, level_ranged, passes, shown_form, adjacent, number_word, no_mark, no_name, no_whole, r_word, true_word, false_word, null_word}

-- ---- equal nodes

label_as : (k c : Kind) (x y : List ℕ) (name : Option (List ℕ)) → k ≡ c → x ≡ y
    → let a : Label = record { kind = k; text = x; key = name; at = 0 } in let b : Label = record { kind = c; text = y; key = name; at = 0 } in a ≡ b
label_as k c x y name e f = ap (λ (z : Kind). record { kind = z; text = x; key = name; at = 0 }) e ∙ ap (λ (z : List ℕ). record { kind = c; text = z; key = name; at = 0 }) f

abbrev pair_with : Forest → Label → Label × Forest
pair_with c z = (z, c)

abbrev pair_behind : Label → Forest → Label × Forest
pair_behind b z = (b, z)

two : (a b : Label) (c d : Forest) → a ≡ b → c ≡ d → let x : Label × Forest = (a, c) in let y : Label × Forest = (b, d) in x ≡ y
two a b c d p q = ap (pair_with c) p ∙ ap (pair_behind b) q

three : (a b : Label) (c d e f : Forest) → a ≡ b → c ≡ d → e ≡ f → Node a c e ≡ Node b d f
three a b c d e f p q r = ap (λ (z : Label). Node z c e) p ∙ ap (λ (z : Forest). Node b z e) q ∙ ap (λ (z : Forest). Node b d z) r

-- a key is had without places too
pub has_key-unplaced : (f : Forest) (name : List ℕ) → has_key (unplaced_tree f) name ≡ has_key f name
has_key-unplaced Nil name = refl
has_key-unplaced (Node l kids rest) name = ap (λ (b : Bool). key_is l.key name || b) (has_key-unplaced rest name)

snoc-unplaced : (f : Forest) (l : Label) (kids : Forest) → unplaced_tree (snoc f l kids) ≡ snoc (unplaced_tree f) (unplaced_label l) (unplaced_tree kids)
snoc-unplaced Nil l kids = refl
snoc-unplaced (Node n others rest) l kids = ap (λ (z : Forest). Node (unplaced_label n) (unplaced_tree others) z) (snoc-unplaced rest l kids)

same_snoc : (f g : Forest) (l m : Label) (kids others : Forest) → unplaced_tree f ≡ unplaced_tree g → unplaced_label l ≡ unplaced_label m → unplaced_tree kids ≡ unplaced_tree others
    → unplaced_tree (snoc f l kids) ≡ unplaced_tree (snoc g m others)
same_snoc f g l m kids others p q r =
    snoc-unplaced f l kids ∙ ap (λ (z : Forest). snoc z (unplaced_label l) (unplaced_tree kids)) p ∙ ap (λ (z : Label). snoc (unplaced_tree g) z (unplaced_tree kids)) q
    ∙ ap (λ (z : Forest). snoc (unplaced_tree g) (unplaced_label m) z) r ∙ sym (snoc-unplaced g m others)

-- ---- words

all_three : (a b c : Bool) → a ≡ true → b ≡ true → c ≡ true → a && (b && c) ≡ true
all_three true true true p q r = refl
all_three true true false p q r = r
all_three true false c p q r = q
all_three false b c p q r = p

opening_of : (v : Bool) → (is_opening_end (mark_form (opening_end v)) ≡ true) × (is_square (mark_form (opening_end v)) ≡ v)
opening_of true = (refl, refl)
opening_of false = (refl, refl)

closing_of : (v : Bool) → (is_closing_end (mark_form (closing_end v)) ≡ true) × (is_square (mark_form (closing_end v)) ≡ v)
closing_of true = (refl, refl)
closing_of false = (refl, refl)

-- the text of a key can stand in quotes
pub quotable_key : (w : Word) → IsReadBack w → is_key (word_form w) ≡ true → IsQuotable (text_in w)
quotable_key (Name name) h p = h.2
quotable_key (Reserved keyword name) h p = h.2
quotable_key (Str text) h p = h
quotable_key (TypeName name) h p = absurd (true≢false (sym p))
quotable_key (Var name) h p = absurd (true≢false (sym p))
quotable_key (Pat text) h p = absurd (true≢false (sym p))
quotable_key (Whole n) h p = absurd (no_whole is_key n refl p)
quotable_key (Fraction d) h p = absurd (true≢false (sym p))
quotable_key (Note text) h p = absurd (true≢false (sym p))
quotable_key (Sign sign) h p = absurd (no_mark is_key sign refl p)
quotable_key End h p = absurd (true≢false (sym p))

-- a word that gives a node what another gives it
record GivesAs (x w : Word) : Type 0 where
  test : is_scalar (word_form x) ≡ true
  kind : scalar_kind x ≡ scalar_kind w
  text : scalar_text x ≡ scalar_text w

gives_as : (x v w : Word) → x ≡ v → is_scalar (word_form v) ≡ true → scalar_kind v ≡ scalar_kind w → scalar_text v ≡ scalar_text w → GivesAs x w
gives_as x v w e p q r = record { test = ap (λ (z : Word). is_scalar (word_form z)) e ∙ p; kind = ap scalar_kind e ∙ q; text = ap scalar_text e ∙ r }

module _ (t : ℕ → Lexeme) (oi oe : List Piece → List Piece) where
  abbrev ScalarShown : Word → Type 0
  ScalarShown w = (name : Option (List ℕ)) (from : ℕ) (gap : List ℕ) (i at : ℕ) (rest : List Piece) → IsReadBack w → is_scalar (word_form w) ≡ true
      → (let l : Label = record { kind = scalar_kind w; text = scalar_text w; key = name; at = from } in Shows t i at (value gap l (scalar_kind w) oi oe rest))
      → GivesAs (t i).word w × Shows t (suc i) (t i).to rest

  constant_shown : (keyword : Keyword) (own : List ℕ) → ScalarShown (Reserved keyword own)
  constant_shown kw.True own name from gap i at rest back p h = (gives_as (t i).word (Reserved kw.True (codes "true")) (Reserved kw.True own) (h.0 ∙ true_word) refl refl refl, h.2)
  constant_shown kw.False own name from gap i at rest back p h = (gives_as (t i).word (Reserved kw.False (codes "false")) (Reserved kw.False own) (h.0 ∙ false_word) refl refl refl, h.2)
  constant_shown kw.Null own name from gap i at rest back p h = (gives_as (t i).word (Reserved kw.Null (codes "null")) (Reserved kw.Null own) (h.0 ∙ null_word) refl refl refl, h.2)
  constant_shown kw.Let own name from gap i at rest back p h = absurd (true≢false (sym p))
  constant_shown kw.Rule own name from gap i at rest back p h = absurd (true≢false (sym p))
  constant_shown kw.When own name from gap i at rest back p h = absurd (true≢false (sym p))
  constant_shown kw.Some own name from gap i at rest back p h = absurd (true≢false (sym p))
  constant_shown kw.Or own name from gap i at rest back p h = absurd (true≢false (sym p))
  constant_shown kw.Not own name from gap i at rest back p h = absurd (true≢false (sym p))
  constant_shown kw.Keys own name from gap i at rest back p h = absurd (true≢false (sym p))
  constant_shown kw.This own name from gap i at rest back p h = absurd (true≢false (sym p))
  constant_shown kw.In own name from gap i at rest back p h = absurd (true≢false (sym p))
  constant_shown kw.Exists own name from gap i at rest back p h = absurd (true≢false (sym p))
  constant_shown kw.Empty own name from gap i at rest back p h = absurd (true≢false (sym p))
  constant_shown kw.IsString own name from gap i at rest back p h = absurd (true≢false (sym p))
  constant_shown kw.IsList own name from gap i at rest back p h = absurd (true≢false (sym p))
  constant_shown kw.IsStruct own name from gap i at rest back p h = absurd (true≢false (sym p))
  constant_shown kw.IsBool own name from gap i at rest back p h = absurd (true≢false (sym p))
  constant_shown kw.IsInt own name from gap i at rest back p h = absurd (true≢false (sym p))
  constant_shown kw.IsFloat own name from gap i at rest back p h = absurd (true≢false (sym p))
  constant_shown kw.IsNull own name from gap i at rest back p h = absurd (true≢false (sym p))

  scalar_shown : (w : Word) → ScalarShown w
  scalar_shown (Reserved keyword own) name from gap i at rest back p h = constant_shown keyword own name from gap i at rest back p h
  scalar_shown (Str text) name from gap i at rest back p h = (gives_as (t i).word (Str text) (Str text) (h.0 ∙ back) refl refl refl, h.2)
  scalar_shown (Pat text) name from gap i at rest back p h = (gives_as (t i).word (Pat text) (Pat text) (h.0 ∙ back) refl refl refl, h.2)
  scalar_shown (Whole n) name from gap i at rest back p h = (gives_as (t i).word (Whole n) (Whole n) h.0 p refl refl, h.2)
  scalar_shown (Fraction d) name from gap i at rest back p h = (gives_as (t i).word (Fraction d) (Fraction d) h.0 refl refl refl, h.2)
  scalar_shown (Name own) name from gap i at rest back p h = absurd (no_name is_scalar own refl p)
  scalar_shown (TypeName own) name from gap i at rest back p h = absurd (true≢false (sym p))
  scalar_shown (Var own) name from gap i at rest back p h = absurd (true≢false (sym p))
  scalar_shown (Note text) name from gap i at rest back p h = absurd (true≢false (sym p))
  scalar_shown (Sign sign) name from gap i at rest back p h = absurd (no_mark is_scalar sign refl p)
  scalar_shown End name from gap i at rest back p h = absurd (true≢false (sym p))

abbrev bare_node : Label × Forest → Label × Forest
bare_node x = (unplaced_label x.0, unplaced_tree x.1)

module _ (t : ℕ → Lexeme) where
  abbrev NodeOf : Option (List ℕ) → Label × Forest → Rel
  NodeOf name x = IsNode t name x.0 x.1 (AreItems t x.1) (AreEntries t x.1)

  abbrev EntryOf : Forest → Label × Forest → Rel
  EntryOf before x = IsEntry t before x.0 x.1 (AreItems t x.1) (AreEntries t x.1)

  -- what ends a list begins no node
  node_begins : (name : Option (List ℕ)) (l : Label) (kids : Forest) (I E : Rel) (a b : State) → IsNode t name l kids I E a b → is_rbracket (form (t a.at)) ≡ false
  node_begins name l kids I E a b (inl h) = apart is_scalar is_rbracket (t a.at) refl h.1.0
  node_begins name l kids I E a b (inr (inl (r, k, e, (c, (o, (c1, f1, more)), d)))) = apart is_r is_rbracket (t a.at) refl f1.0
  node_begins name l kids I E a b (inr (inr (inl (c, g, more)))) = apart is_lbracket is_rbracket (t a.at) refl g.0
  node_begins name l kids I E a b (inr (inr (inr (c, g, more)))) = apart is_lbrace is_rbracket (t a.at) refl g.0

  node_key : (name : Option (List ℕ)) (l : Label) (kids : Forest) (I E : Rel) (a b : State) → IsNode t name l kids I E a b → l.key ≡ name
  node_key name l kids I E a b (inl h) = ap (λ (z : Label). z.key) h.1.1
  node_key name l kids I E a b (inr (inl (r, k, e, more))) = ap (λ (z : Label). z.key) e
  node_key name l kids I E a b (inr (inr (inl (c, g, more)))) = ap (λ (z : Label). z.key) g.1
  node_key name l kids I E a b (inr (inr (inr (c, g, more)))) = ap (λ (z : Label). z.key) g.1

module _ (s t : ℕ → Lexeme) (reads : (i : ℕ) → IsReadBack (s i).word) where
  abbrev ItemsTold : Forest → Type 0
  ItemsTold kids = (a b from : State) (at : ℕ) (rest : List Piece) → AreItems s kids a b → Shows t from.at at (item_pieces kids rest) → IsLevel a from → first_form rest ≡ 15 → Told t (AreItems t) unplaced_tree kids b from rest

  abbrev MoreItemsTold : Forest → Type 0
  MoreItemsTold kids = (a b from : State) (at : ℕ) (rest : List Piece) → AreMoreItems s kids a b → Shows t from.at at (more_item_pieces kids rest) → IsLevel a from → first_form rest ≡ 15 → Told t (AreMoreItems t) unplaced_tree kids b from rest

  abbrev EntriesTold : Forest → Type 0
  EntriesTold kids = (a b from : State) (at : ℕ) (rest : List Piece) → AreEntries s kids a b → Shows t from.at at (entry_pieces kids rest) → IsLevel a from → first_form rest ≡ 11 → Told t (AreEntries t) unplaced_tree kids b from rest

  abbrev MoreEntriesTold : Forest → Type 0
  MoreEntriesTold kids = (before front : Forest) → unplaced_tree front ≡ unplaced_tree before → (a b from : State) (at : ℕ) (rest : List Piece) → AreMoreEntries s before kids a b
      → Shows t from.at at (more_entry_pieces kids rest) → IsLevel a from → first_form rest ≡ 11 → Told t (AreMoreEntries t front) unplaced_tree kids b from rest

  -- the bounds of a range
  range_told : (r : Range) (gap : List ℕ) (a b c from : State) (at place : ℕ) (rest : List Piece) → IsRange s r a c → b ≡ ranged (is_mixed r) place c
      → Shows t from.at at (range gap r rest) → IsLevel a from
      → (to : State) × IsRange t r from to × IsLevel b (ranged (is_mixed r) (t from.at).from to) × (last : ℕ) × Shows t to.at last rest
  range_told r gap a b c from at place rest (o, (c1, f1, (c2, f2, (c3, f3, (c4, f4, (c5, f5, f6)))))) d (w0, g0, (w1, g1, (w2, g2, (w3, g3, (w4, g4, (w5, g5, tail)))))) level =
      let i = from.at in
      let low = number_word r.low in
      let high = number_word r.high in
      let opening = opening_of r.low_in in
      let closing = closing_of r.high_in in
      let is_name_r : is_r (form (t i)) ≡ true = passes is_r (t i) (Name (codes "r")) (w0 ∙ r_word) refl in
      let is_end : is_opening_end (form (t (suc i))) ≡ true = passes is_opening_end (t (suc i)) (Sign (opening_end r.low_in)) w1 opening.0 in
      let p1 = past from in
      let p2 = past p1 in
      let p3 = past p2 in
      let p4 = past p3 in
      let p5 = past p4 in
      let p6 = past p5 in (
        p6,
        (
          all_three _ _ _ is_name_r is_end (adjacent (t (suc i)).from (t i).to g1),
          (
            p1,
            (is_name_r, refl),
            (
              p2,
              (is_end, sym (ap (λ (z : Word). is_square (word_form z)) w1 ∙ opening.1), refl),
              (
                p3,
                (ap (λ (z : Word). is_number (word_form z)) w2 ∙ low.0, sym (ap number_in w2 ∙ low.1), refl),
                (
                  p4,
                  (passes is_comma (t p3.at) (Sign m.Comma) w3 refl, refl),
                  (
                    p5,
                    (ap (λ (z : Word). is_number (word_form z)) w4 ∙ high.0, sym (ap number_in w4 ∙ high.1), refl),
                    (passes is_closing_end (t p5.at) (Sign (closing_end r.high_in)) w5 closing.0, sym (ap (λ (z : Word). is_square (word_form z)) w5 ∙ closing.1), refl),
                  ),
                ),
              ),
            ),
          ),
        ),
        level_ranged c b p6 (is_mixed r) place (t i).from d (level_past c5 c p5 f6.2 (level_past c4 c5 p4 f5.2 (level_past c3 c4 p3 f4.1 (level_past c2 c3 p2 f3.2 (level_past c1 c2 p1 f2.2 (level_past a c1 from f1.1 level)))))),
        (t p5.at).to,
        tail,
      )

  node_told : (name : Option (List ℕ)) (l : Label) (kids : Forest) → ItemsTold kids → EntriesTold kids → (gap : List ℕ) (a b from : State) (at : ℕ) (rest : List Piece) → IsNode s name l kids (AreItems s kids) (AreEntries s kids) a b
      → Shows t from.at at (value gap l l.kind (item_pieces kids) (entry_pieces kids) rest) → IsLevel a from → Told t (NodeOf t name) bare_node (l, kids) b from rest
  node_told name l kids it et gap a b from at rest (inl (none, (p, e, q))) h level =
      let shown = scalar_shown t (item_pieces kids) (entry_pieces kids) (s a.at).word name (s a.at).from gap from.at at rest (reads a.at) p
      (subst (λ (z : Label). Shows t from.at at (value gap z z.kind (item_pieces kids) (entry_pieces kids) rest)) e h) in
      record {
        value = (scalar name (t from.at), Nil);
        same = two _ _ _ _ (label_as _ _ _ _ name shown.0.kind shown.0.text ∙ sym (ap unplaced_label e)) (sym (ap unplaced_tree none));
        to = past from;
        spelled = inl (refl, (shown.0.test, refl, refl));
        level = level_past a b from q level;
        last = (t from.at).to;
        shown = shown.1;
      }
  node_told name l kids it et gap a b from at rest (inr (inl (r, none, e, (c, range_of, d)))) h level =
      let told = range_told r gap a b c from at (s a.at).from rest range_of d (subst (λ (z : Label). Shows t from.at at (value gap z z.kind (item_pieces kids) (entry_pieces kids) rest)) e h) level in
      record {
        value = (holder (kind.Limits r) name (t from.at), Nil);
        same = two _ _ _ _ (sym (ap unplaced_label e)) (sym (ap unplaced_tree none));
        to = ranged (is_mixed r) (t from.at).from told.0;
        spelled = inr (inl (r, refl, refl, (told.0, told.1, refl)));
        level = told.2;
        last = told.3;
        shown = told.4;
      }
  node_told name l kids it et gap a b from at rest (inr (inr (inl (c, f, (d, g, h))))) shows level =
      let shown = subst (λ (z : Label). Shows t from.at at (value gap z z.kind (item_pieces kids) (entry_pieces kids) rest)) f.1 shows in
      let told = it c d (past from) (t from.at).to (mark [] m.RBracket rest) g shown.2 (level_past a c from f.2 level) refl in
      let behind = told.shown in
      record {
        value = (holder kind.List name (t from.at), told.value);
        same = two _ _ _ _ (sym (ap unplaced_label f.1)) told.same;
        to = past told.to;
        spelled = inr (inr (inl (past from, (passes is_lbracket (t from.at) (Sign m.LBracket) shown.0 refl, refl, refl), (told.to, told.spelled, (passes is_rbracket (t told.to.at) (Sign m.RBracket) behind.0 refl, refl)))));
        level = level_past d b told.to h.1 told.level;
        last = (t told.to.at).to;
        shown = behind.2;
      }
  node_told name l kids it et gap a b from at rest (inr (inr (inr (c, f, (d, g, h))))) shows level =
      let shown = subst (λ (z : Label). Shows t from.at at (value gap z z.kind (item_pieces kids) (entry_pieces kids) rest)) f.1 shows in
      let told = et c d (past from) (t from.at).to (mark [] m.RBrace rest) g shown.2 (level_past a c from f.2 level) refl in
      let behind = told.shown in
      record {
        value = (holder kind.Map name (t from.at), told.value);
        same = two _ _ _ _ (sym (ap unplaced_label f.1)) told.same;
        to = past told.to;
        spelled = inr (inr (inr (past from, (passes is_lbrace (t from.at) (Sign m.LBrace) shown.0 refl, refl, refl), (told.to, told.spelled, (passes is_rbrace (t told.to.at) (Sign m.RBrace) behind.0 refl, refl)))));
        level = level_past d b told.to h.1 told.level;
        last = (t told.to.at).to;
        shown = behind.2;
      }

  entry_told : (before front : Forest) → unplaced_tree front ≡ unplaced_tree before → (l : Label) (kids : Forest) → ItemsTold kids → EntriesTold kids → (gap : List ℕ) (a b from : State) (at : ℕ) (rest : List Piece)
      → IsEntry s before l kids (AreItems s kids) (AreEntries s kids) a b → Shows t from.at at (entry gap l.key (λ g. value g l l.kind (item_pieces kids) (entry_pieces kids) rest)) → IsLevel a from
      → Told t (EntryOf t front) bare_node (l, kids) b from rest
  entry_told before front alike l kids it et gap a b from at rest (name, new, (c, f, (d, g, h))) shows level =
      let shown = subst (λ (z : Option (List ℕ)). Shows t from.at at (entry gap z (λ g. value g l l.kind (item_pieces kids) (entry_pieces kids) rest))) (node_key s (Some name) l kids _ _ d b h) shows in
      let quotable : IsQuotable name = subst IsQuotable (sym f.1) (quotable_key (s a.at).word (reads a.at) f.0) in
      let word : (t from.at).word ≡ Str name = shown.0 ∙ quotable in
      let told = node_told (Some name) l kids it et space d b (past (past from)) (t (suc from.at)).to rest h shown.2.2 (level_past c d (past from) g.1 (level_past a c from f.2 level)) in
      record {
        value = told.value;
        same = told.same;
        to = told.to;
        spelled = (
          name,
          sym (has_key-unplaced front name) ∙ ap (λ (z : Forest). has_key z name) alike ∙ has_key-unplaced before name ∙ new,
          (past from, (passes is_key (t from.at) (Str name) word refl, sym (ap text_in word), refl), (past (past from), (passes is_colon (t (suc from.at)) (Sign m.Colon) shown.2.0 refl, refl), told.spelled)),
        );
        level = told.level;
        last = told.last;
        shown = told.shown;
      }

  -- what ends a map begins no entry
  entry_begins : (before : Forest) (l : Label) (kids : Forest) (from to : State) → EntryOf t before (l, kids) from to → is_rbrace (form (t from.at)) ≡ false
  entry_begins before l kids from to (name, new, (c, f, more)) = apart is_key is_rbrace (t from.at) refl f.0

  mutual
    items_told : (kids : Forest) → ItemsTold kids
    items_told Nil a b from at rest (e, q) h level first = record {
      value = Nil;
      same = refl;
      to = from;
      spelled = (ap is_rbracket (shown_form t from.at at rest h ∙ first), refl);
      level = level_same a b from q level;
      last = at;
      shown = h;
    }
    items_told (Node l kids more) a b from at rest (e, (c, f, g)) h level first =
        let node = node_told None l kids (items_told kids) (entries_told kids) [] a c from at (more_item_pieces more rest) f h level in
        let others = more_items_told more c b node.to node.last rest g node.shown node.level first in
        record {
          value = Node node.value.0 node.value.1 others.value;
          same = three _ _ _ _ _ _ (ap (λ (z : Label × Forest). z.0) node.same) (ap (λ (z : Label × Forest). z.1) node.same) others.same;
          to = others.to;
          spelled = (node_begins t None node.value.0 node.value.1 _ _ from node.to node.spelled, (node.to, node.spelled, others.spelled));
          level = others.level;
          last = others.last;
          shown = others.shown;
        }

    more_items_told : (kids : Forest) → MoreItemsTold kids
    more_items_told Nil a b from at rest (e, q) h level first = record {
      value = Nil;
      same = refl;
      to = from;
      spelled = (ap is_comma (shown_form t from.at at rest h ∙ first), refl);
      level = level_same a b from q level;
      last = at;
      shown = h;
    }
    more_items_told (Node l kids more) a b from at rest (d, e, (c, f, g)) h level first =
        let node = node_told None l kids (items_told kids) (entries_told kids) space d c (past from) (t from.at).to (more_item_pieces more rest) f h.2 (level_past a d from e.1 level) in
        let others = more_items_told more c b node.to node.last rest g node.shown node.level first in
        record {
          value = Node node.value.0 node.value.1 others.value;
          same = three _ _ _ _ _ _ (ap (λ (z : Label × Forest). z.0) node.same) (ap (λ (z : Label × Forest). z.1) node.same) others.same;
          to = others.to;
          spelled = (past from, (passes is_comma (t from.at) (Sign m.Comma) h.0 refl, refl), (node.to, node.spelled, others.spelled));
          level = others.level;
          last = others.last;
          shown = others.shown;
        }

    entries_told : (kids : Forest) → EntriesTold kids
    entries_told Nil a b from at rest (e, q) h level first = record {
      value = Nil;
      same = refl;
      to = from;
      spelled = (ap is_rbrace (shown_form t from.at at rest h ∙ first), refl);
      level = level_same a b from q level;
      last = at;
      shown = h;
    }
    entries_told (Node l kids more) a b from at rest (e, (c, f, g)) h level first =
        let node = entry_told Nil Nil refl l kids (items_told kids) (entries_told kids) [] a c from at (more_entry_pieces more rest) f h level in
        let labels = ap (λ (z : Label × Forest). z.0) node.same in
        let trees = ap (λ (z : Label × Forest). z.1) node.same in
        let others = more_entries_told more (Node l kids Nil) (Node node.value.0 node.value.1 Nil) (three _ _ _ _ _ _ labels trees refl) c b node.to node.last rest g node.shown node.level first in
        record {
          value = Node node.value.0 node.value.1 others.value;
          same = three _ _ _ _ _ _ labels trees others.same;
          to = others.to;
          spelled = (entry_begins Nil node.value.0 node.value.1 from node.to node.spelled, (node.to, node.spelled, others.spelled));
          level = others.level;
          last = others.last;
          shown = others.shown;
        }

    more_entries_told : (kids : Forest) → MoreEntriesTold kids
    more_entries_told Nil before front alike a b from at rest (e, q) h level first = record {
      value = Nil;
      same = refl;
      to = from;
      spelled = (ap is_comma (shown_form t from.at at rest h ∙ first), refl);
      level = level_same a b from q level;
      last = at;
      shown = h;
    }
    more_entries_told (Node l kids more) before front alike a b from at rest (d, e, (c, f, g)) h level first =
        let node = entry_told before front alike l kids (items_told kids) (entries_told kids) space d c (past from) (t from.at).to (more_entry_pieces more rest) f h.2 (level_past a d from e.1 level) in
        let labels = ap (λ (z : Label × Forest). z.0) node.same in
        let trees = ap (λ (z : Label × Forest). z.1) node.same in
        let others = more_entries_told more (snoc before l kids) (snoc front node.value.0 node.value.1) (same_snoc _ _ _ _ _ _ alike labels trees) c b node.to node.last rest g node.shown node.level first in
        record {
          value = Node node.value.0 node.value.1 others.value;
          same = three _ _ _ _ _ _ labels trees others.same;
          to = others.to;
          spelled = (past from, (passes is_comma (t from.at) (Sign m.Comma) h.0 refl, refl), (node.to, node.spelled, others.spelled));
          level = others.level;
          last = others.last;
          shown = others.shown;
        }

  pub literal_told : (tree : Forest) (gap : List ℕ) (a b from : State) (at : ℕ) (rest : List Piece) → IsLiteral s tree a b → Shows t from.at at (literal_pieces gap tree rest) → IsLevel a from → Told t (IsLiteral t) unplaced_tree tree b from rest
  literal_told Nil gap a b from at rest h shows level = absurd h
  literal_told (Node l kids Nil) gap a b from at rest h shows level =
      let node = node_told None l kids (items_told kids) (entries_told kids) gap a b from at rest h shows level in
      record {
        value = Node node.value.0 node.value.1 Nil;
        same = three _ _ _ _ _ _ (ap (λ (z : Label × Forest). z.0) node.same) (ap (λ (z : Label × Forest). z.1) node.same) refl;
        to = node.to;
        spelled = node.spelled;
        level = node.level;
        last = node.last;
        shown = node.shown;
      }
  literal_told (Node l kids (Node n others more)) gap a b from at rest h shows level = absurd h
