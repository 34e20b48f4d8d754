-- The canonical text of lets, parts and bodies is read as these: by recursion on the syntax.
use Rattle.std.proofs.Common.{◌≡◌, ℕ, suc, Bool, true, false, ◌||◌, if◌then◌else◌, nat_lt, List, [], ◌∷◌, codes, refl, sym, ap, ◌∙◌, subst, true≢false}
use Rattle.guard_lexer.specs.declared.token.Mark.TheVariants as m
use Rattle.guard_syntax.specs.Named.{Named}
use Rattle.guard_syntax.specs.Syntax.{Lets, Let, Disjs, Disj, Parts, Part, Query, Steps, Step, Expr, no_lets, more_lets, assign, no_disjs, more_disjs, disj, no_parts, more_parts, block, guarded, kinds, test, refer, call, query, no_steps, more_steps, this, var, key, index, every, items, splice, filter, keys}
use Rattle.literal_parser.specs.declared.keyword.Keyword.TheVariants as kw
use Rattle.literal_parser.specs.Lexemes.{Lexeme, Word, Reserved, TypeName, Str, Sign}
use Rattle.literal_parser.specs.Forms.{form, word_form, is_name, is_any_name, is_type_name, is_let, is_assign, is_when, is_or, is_lparen, is_start, is_first_key, is_led, begins_step, begins_cond, begins_part, begins_query, goes_on, text_in, text_of, named_of}
use Rattle.literal_parser.specs.States.{State, past, opened}
use Rattle.literal_parser.proofs.Apart.{implied}
use Rattle.guard_parser.specs.Grammar.{Sort, ALet, ARule, APart, is_sort, of_sort, body_sort, part_sort, InRow, IsFilled, IsAny, IsBody, AreLets, AreDisjs, IsLet, IsOptConds, IsDisj, IsOrs, IsPart, IsQuery, IsStart, IsSteps}
use Rattle.guard_parser.specs.Grammar as grammar
use Rattle.rule_spelling.specs.code.Pieces.{Piece}
use Rattle.rule_printer.specs.RuleText.{merged, before_each}
use Rattle.rule_printer.specs.code.RulePieces.{Spell, space, mark, name_if, head, steps_pieces, query_pieces, in_a_row, let_item, let_items, body_pieces, disj_item, disj_items, more_parts_pieces, part_pieces}
use Rattle.printer_laws.specs.code.Unplaced.{unplaced_let, unplaced_query, unplaced_expr}
use Rattle.printer_laws.specs.code.Shown.{IsReadBack, IsLevel, IsQuiet, Shows, Told, first_form, second_form}
use Rattle.printer_laws.proofs.Showing.{level_past, level_same, passes, shown_form}
use Rattle.printer_laws.proofs.WordsShown.{some_word, when_word, let_word}
use Rattle.printer_laws.proofs.StartsShown.{quotable_first, site_told, start_word, start_told, query_led, start_led}
use Rattle.printer_laws.proofs.QuietShown.{start_first, start_begins, begins_as, begins_query_as, cond_begins_in, quiet_word, or_quiet_pieces, EndsParts}
use Rattle.printer_laws.proofs.ConditionsShown.{join, named_shown, named_text, named_passes, any_level, query_told, expr_told}

module _ (s t : ℕ → Lexeme) (reads : (i : ℕ) → IsReadBack (s i).word) where
  -- ---- lets

  pub let_told : (l : Let) (gap : List ℕ) (a b from : State) (at : ℕ) (rest : List Piece) → IsLet s l a b → Shows t from.at at ((let_item l).1 gap rest) → IsLevel a from → begins_step (first_form rest) ≡ false → is_lparen (first_form rest) ≡ false
      → Told t (IsLet t) unplaced_let l b from rest
  let_told (assign n bound e) gap a b from at rest (c, o, (d, f, (g, h, (i, j, x)))) shows level step paren =
      let site = site_told s t n a c from o level in
      let from1 = opened (t from.at).from from in
      let p1 = past from1 in
      let p2 = past p1 in
      let p3 = past p2 in
      let own : bound.text ≡ text_of (s d.at) = ap (λ (z : Named). z.text) h.1 in
      let w = named_shown s t reads d.at p1.at bound.text (implied is_name is_any_name (s d.at) refl h.0) own shows.2.0 in
      let inner = expr_told s t reads e true space i b p3 (t p2.at).to rest x shows.2.2.2 (level_past g i p2 j.1 (level_past d g p1 h.2 (level_past c d from1 f.1 site.1))) step paren in
      record {
        value = assign n (named_of (t p1.at)) inner.value;
        same = join (λ (x : List ℕ) (y : Expr). assign n (record { text = x; at = 0 }) y) (text_of (t p1.at)) bound.text (unplaced_expr inner.value) (unplaced_expr e) (sym (named_text s t reads d.at p1.at bound.text own w)) inner.same;
        to = inner.to;
        spelled = (
          from1,
          site.0,
          (
            p1,
            (passes is_let (t from.at) (Reserved kw.Let (codes "let")) (shows.0 ∙ let_word) refl, refl),
            (
              p2,
              (named_passes s t reads is_name d.at p1.at h.0 w, refl, refl),
              (p3, (passes is_assign (t p2.at) (Sign m.Equals) shows.2.2.0 refl, refl), inner.spelled),
            ),
          ),
        );
        level = inner.level;
        last = inner.last;
        shown = inner.shown;
      }

  -- ---- the head of a block

  pub head_told : (q : Query) (gap : List ℕ) (a b from : State) (at : ℕ) (rest : List Piece) → IsQuery s q a b → Shows t from.at at (head gap q (query_pieces gap q rest) rest) → IsLevel a from → begins_step (first_form rest) ≡ false
      → Told t (IsQuery t) unplaced_query q b from rest
  head_told (query i no_steps) gap a b from at rest h shows level quiet = absurd h
  head_told (query i (more_steps (key n text) no_steps)) gap a b from at rest (c, o, (d, (e, o2, f), g)) shows level quiet =
      let site = site_told s t i a c from o level in
      let from1 = opened (t from.at).from from in
      let other = site_told s t n c e from1 o2 site.1 in
      let from2 = opened (t from.at).from from1 in
      let w : (t from.at).word ≡ Str text = shows.0 ∙ quotable_first s reads e.at text f.0 f.1 in
      record {
        value = query i (more_steps (key n text) no_steps);
        same = refl;
        to = past from2;
        spelled = (from1, site.0, (past from2, (from2, other.0, (passes is_first_key (t from.at) (Str text) w refl, sym (ap text_in w), refl)), (ap begins_step (shown_form t (suc from.at) (t from.at).to rest shows.2) ∙ quiet, refl)));
        level = level_same d b (past from2) g.1 (level_past e d from2 f.2 other.1);
        last = (t from.at).to;
        shown = shows.2;
      }
  head_told (query i (more_steps (this n) ps)) gap a b from at rest h shows level quiet = query_told s t reads (query i (more_steps (this n) ps)) gap a b from at rest h shows level quiet
  head_told (query i (more_steps (var n text) ps)) gap a b from at rest h shows level quiet = query_told s t reads (query i (more_steps (var n text) ps)) gap a b from at rest h shows level quiet
  head_told (query i (more_steps (index n j) ps)) gap a b from at rest h shows level quiet = query_told s t reads (query i (more_steps (index n j) ps)) gap a b from at rest h shows level quiet
  head_told (query i (more_steps (every n) ps)) gap a b from at rest h shows level quiet = query_told s t reads (query i (more_steps (every n) ps)) gap a b from at rest h shows level quiet
  head_told (query i (more_steps (items n) ps)) gap a b from at rest h shows level quiet = query_told s t reads (query i (more_steps (items n) ps)) gap a b from at rest h shows level quiet
  head_told (query i (more_steps (splice n bound) ps)) gap a b from at rest h shows level quiet = query_told s t reads (query i (more_steps (splice n bound) ps)) gap a b from at rest h shows level quiet
  head_told (query i (more_steps (filter n bound x) ps)) gap a b from at rest h shows level quiet = query_told s t reads (query i (more_steps (filter n bound x) ps)) gap a b from at rest h shows level quiet
  head_told (query i (more_steps (keys n bound op negated e) ps)) gap a b from at rest h shows level quiet = query_told s t reads (query i (more_steps (keys n bound op negated e) ps)) gap a b from at rest h shows level quiet
  head_told (query i (more_steps (key n text) (more_steps p ps))) gap a b from at rest h shows level quiet = query_told s t reads (query i (more_steps (key n text) (more_steps p ps))) gap a b from at rest h shows level quiet

  brace_goes_on : (i : ℕ) (z : ℕ) → (t i).word ≡ Sign m.LBrace → goes_on true (form (t i)) z ≡ true
  brace_goes_on i z w = ap (λ (x : Word). goes_on true (word_form x) z) w

  -- a head of several steps, or of another form, begins a query
  led_by_steps : (i : ℕ) (p : Step) (ps : Steps) (gap : List ℕ) (a b from : State) (at : ℕ) (rest : List Piece) → IsQuery s (query i (more_steps p ps)) a b → Shows t from.at at (query_pieces gap (query i (more_steps p ps)) (mark space m.LBrace rest)) → IsLevel a from
      → is_led true (form (t from.at)) (form (t (suc from.at))) (form (t (suc (suc from.at)))) ≡ true
  led_by_steps i p ps gap a b from at rest (c, o, (d, f, g)) shows level =
      let site = site_told s t i a c from o level in
      let begun = start_told s t reads p gap c d (opened (t from.at).from from) at (steps_pieces [] ps (mark space m.LBrace rest)) f shows site.1 in
      query_led t s true p ps c d d b from.at (t from.at).to [] (mark space m.LBrace rest) f g begun.2 begun.3 (λ j last h. brace_goes_on j (form (t (suc j))) h.0)

  head_led : (q : Query) (gap : List ℕ) (a b from : State) (at : ℕ) (rest : List Piece) → IsQuery s q a b → Shows t from.at at (head gap q (query_pieces gap q (mark space m.LBrace rest)) (mark space m.LBrace rest)) → IsLevel a from
      → is_led true (form (t from.at)) (form (t (suc from.at))) (form (t (suc (suc from.at)))) ≡ true
  head_led (query i no_steps) gap a b from at rest h shows level = absurd h
  head_led (query i (more_steps (key n text) no_steps)) gap a b from at rest (c, o, (d, (e, o2, f), g)) shows level =
      start_led true (form (t from.at)) (form (t (suc from.at))) (form (t (suc (suc from.at)))) (passes is_start (t from.at) (Str text) (shows.0 ∙ quotable_first s reads e.at text f.0 f.1) refl)
  head_led (query i (more_steps (this n) ps)) gap a b from at rest h shows level = led_by_steps i (this n) ps gap a b from at rest h shows level
  head_led (query i (more_steps (var n text) ps)) gap a b from at rest h shows level = led_by_steps i (var n text) ps gap a b from at rest h shows level
  head_led (query i (more_steps (index n j) ps)) gap a b from at rest h shows level = led_by_steps i (index n j) ps gap a b from at rest h shows level
  head_led (query i (more_steps (every n) ps)) gap a b from at rest h shows level = led_by_steps i (every n) ps gap a b from at rest h shows level
  head_led (query i (more_steps (items n) ps)) gap a b from at rest h shows level = led_by_steps i (items n) ps gap a b from at rest h shows level
  head_led (query i (more_steps (splice n bound) ps)) gap a b from at rest h shows level = led_by_steps i (splice n bound) ps gap a b from at rest h shows level
  head_led (query i (more_steps (filter n bound x) ps)) gap a b from at rest h shows level = led_by_steps i (filter n bound x) ps gap a b from at rest h shows level
  head_led (query i (more_steps (keys n bound op negated e) ps)) gap a b from at rest h shows level = led_by_steps i (keys n bound op negated e) ps gap a b from at rest h shows level
  head_led (query i (more_steps (key n text) (more_steps p ps))) gap a b from at rest h shows level = led_by_steps i (key n text) (more_steps p ps) gap a b from at rest h shows level

  pub block_led : (any : Bool) (q : Query) (gap : List ℕ) (a b c from : State) (at : ℕ) (rest : List Piece) → IsAny s true any a b → IsQuery s q b c
      → Shows t from.at at (name_if any gap (codes "some") (λ g. head g q (query_pieces g q (mark space m.LBrace rest)) (mark space m.LBrace rest))) → IsLevel a from → any ≡ false → is_led true (form (t from.at)) (form (t (suc from.at))) (form (t (suc (suc from.at)))) ≡ true
  block_led true q gap a b c from at rest begins h shows level plain = absurd (true≢false plain)
  block_led false q gap a b c from at rest begins h shows level plain = head_led q gap b c from at rest h shows (any_level s t reads true false a b from begins level)

  -- ---- how a part begins

  abbrev PartBegins : List Piece → Type 0
  PartBegins ps = IsQuiet true (first_form ps) (second_form ps) × (is_or (first_form ps) ≡ false) × (begins_part (first_form ps) ≡ true)

  cond_is_part : (n : ℕ) → begins_cond n ≡ true → begins_part n ≡ true
  cond_is_part n e = ap (λ (b : Bool). b || (is_when n || is_type_name n)) e

  from_cond : (v z : ℕ) → IsQuiet true v z × (is_or v ≡ false) × (begins_cond v ≡ true) → IsQuiet true v z × (is_or v ≡ false) × (begins_part v ≡ true)
  from_cond v z h = (h.0, h.1, cond_is_part v h.2)

  by_query : (v z : ℕ) (w : Word) → v ≡ word_form w → begins_query (word_form w) ≡ true → IsQuiet true v z × (is_or v ≡ false) × (begins_part v ≡ true)
  by_query v z w e p = from_cond v z (begins_query_as s reads true v z w e p)

  query_begins : (i : ℕ) (p : Step) (ps : Steps) (gap : List ℕ) (a b : State) (rest : List Piece) → IsQuery s (query i (more_steps p ps)) a b → PartBegins (query_pieces gap (query i (more_steps p ps)) rest)
  query_begins i p ps gap a b rest (c, o, (d, f, g)) = by_query _ _ (start_word p) (start_first s reads p gap c d (steps_pieces [] ps rest) f).0 (start_begins s p c d f)

  head_begins : (q : Query) (gap : List ℕ) (a b : State) (rest : List Piece) → IsQuery s q a b → PartBegins (head gap q (query_pieces gap q rest) rest)
  head_begins (query i no_steps) gap a b rest h = absurd h
  head_begins (query i (more_steps (key n text) no_steps)) gap a b rest (c, o, (d, (e, o2, f), g)) = by_query _ _ (Str text) (ap word_form (quotable_first s reads e.at text f.0 f.1)) refl
  head_begins (query i (more_steps (this n) ps)) gap a b rest h = query_begins i (this n) ps gap a b rest h
  head_begins (query i (more_steps (var n text) ps)) gap a b rest h = query_begins i (var n text) ps gap a b rest h
  head_begins (query i (more_steps (index n j) ps)) gap a b rest h = query_begins i (index n j) ps gap a b rest h
  head_begins (query i (more_steps (every n) ps)) gap a b rest h = query_begins i (every n) ps gap a b rest h
  head_begins (query i (more_steps (items n) ps)) gap a b rest h = query_begins i (items n) ps gap a b rest h
  head_begins (query i (more_steps (splice n bound) ps)) gap a b rest h = query_begins i (splice n bound) ps gap a b rest h
  head_begins (query i (more_steps (filter n bound x) ps)) gap a b rest h = query_begins i (filter n bound x) ps gap a b rest h
  head_begins (query i (more_steps (keys n bound op negated e) ps)) gap a b rest h = query_begins i (keys n bound op negated e) ps gap a b rest h
  head_begins (query i (more_steps (key n text) (more_steps p ps))) gap a b rest h = query_begins i (key n text) (more_steps p ps) gap a b rest h

  pub part_begins : (margin : List ℕ) (p : Part) (gap : List ℕ) (a b : State) (rest : List Piece) → IsPart s true p a b → PartBegins (part_pieces margin gap p rest)
  part_begins margin (block n true q x) gap a b rest h = from_cond _ _ (begins_as s reads true _ _ (Reserved kw.Some (codes "some")) (ap word_form some_word) refl refl refl)
  part_begins margin (block n false q x) gap a b rest (v, (c, o, (d, begins, (e, h, more)))) = head_begins q gap d e (body_pieces margin x rest) h
  part_begins margin (guarded n c x) gap a b rest h =
      let e = ap word_form when_word in (quiet_word true _ _ (Reserved kw.When (codes "when")) e refl refl, ap is_or e, ap begins_part e)
  part_begins margin (kinds n text c x) gap a b rest h = (quiet_word true _ _ (TypeName text) refl refl refl, refl, refl)
  part_begins margin (test n any q o negated right message) gap a b rest h = from_cond _ _ (cond_begins_in s reads true true (test n any q o negated right message) tt gap a b rest h)
  part_begins margin (refer n negated text message) gap a b rest h = from_cond _ _ (cond_begins_in s reads true true (refer n negated text message) tt gap a b rest h)
  part_begins margin (call n negated text es message) gap a b rest h = from_cond _ _ (cond_begins_in s reads true true (call n negated text es message) tt gap a b rest h)

  pub disj_begins : (margin : List ℕ) (d : Disj) (gap : List ℕ) (a b : State) (rest : List Piece) → IsDisj s true d a b → PartBegins ((disj_item margin d).1 gap rest)
  disj_begins margin (disj n no_parts) gap a b rest h = absurd h
  disj_begins margin (disj n (more_parts p ps)) gap a b rest (c, o, (d, f, g)) = part_begins margin p gap c d (more_parts_pieces margin ps rest) f

  pub behind_full_part : (margin : List ℕ) (ps : Parts) (rest : List Piece) → EndsParts s reads true rest → IsQuiet true (first_form (more_parts_pieces margin ps rest)) (second_form (more_parts_pieces margin ps rest))
  behind_full_part margin no_parts rest ends = ends.0
  behind_full_part margin (more_parts p ps) rest ends = or_quiet_pieces s reads true space (part_pieces margin space p (more_parts_pieces margin ps rest))

  -- ---- what stands behind an item

  pub let_begins : (l : Let) (gap : List ℕ) (rest : List Piece) → EndsParts s reads true ((let_item l).1 gap rest)
  let_begins (assign n bound e) gap rest = let f = ap word_form let_word in (quiet_word true _ _ (Reserved kw.Let (codes "let")) f refl refl, ap is_or f)

  end_quiet : (v z : ℕ) → v ≡ 11 → IsQuiet true v z
  end_quiet v z e = subst (λ (n : ℕ). IsQuiet true n z) (sym e) (record { step = refl; paren = refl; note = refl; bar = refl; led = refl })

  either : (v : Bool) (x y : ℕ × Spell) (xs ys : List (ℕ × Spell)) (g1 g : List ℕ) (rest : List Piece) → ((ps : List Piece) → EndsParts s reads true (x.1 g1 ps)) → ((ps : List Piece) → EndsParts s reads true (y.1 g1 ps))
      → EndsParts s reads true (in_a_row g1 g (if v then y ∷ xs else x ∷ ys) rest)
  either true x y xs ys g1 g rest p q = q (in_a_row g g xs rest)
  either false x y xs ys g1 g rest p q = p (in_a_row g g ys rest)

  pub row_begins : (margin g1 g : List ℕ) (ls : Lets) (ds : Disjs) (ps : List grammar.Piece) (rest : List Piece) → AreDisjs s ds ps → first_form rest ≡ 11 → EndsParts s reads true (in_a_row g1 g (merged (let_items ls) (disj_items margin ds)) rest)
  row_begins margin g1 g no_lets no_disjs ps rest h first = (end_quiet _ _ first, ap is_or first)
  row_begins margin g1 g no_lets (more_disjs d ds) [] rest h first = absurd h
  row_begins margin g1 g no_lets (more_disjs d ds) (p ∷ ps) rest h first = let x = disj_begins margin d g1 p.from p.to (in_a_row g g (disj_items margin ds) rest) h.0 in (x.0, x.1)
  row_begins margin g1 g (more_lets l ls) no_disjs ps rest h first = let_begins l g1 (in_a_row g g (merged (let_items ls) []) rest)
  row_begins margin g1 g (more_lets l ls) (more_disjs d ds) [] rest h first = absurd h
  row_begins margin g1 g (more_lets l ls) (more_disjs d ds) (p ∷ ps) rest h first =
      either (nat_lt (disj_item margin d).0 (let_item l).0) (let_item l) (disj_item margin d) (before_each (let_item l) (merged (let_items ls)) (disj_items margin ds)) (merged (let_items ls) (disj_items margin (more_disjs d ds))) g1 g rest
      (λ qs. let_begins l g1 qs) (λ qs. let x = disj_begins margin d g1 p.from p.to qs h.0 in (x.0, x.1))
