-- The canonical text of conditions, queries and expressions is read as these: by recursion on the syntax.
use Rattle.std.proofs.Common.{◌≡◌, inl, inr, ℕ, suc, ◌+◌, Bool, true, false, not, ◌&&◌, ◌||◌, if◌then◌else◌, List, [], ◌++◌, length, Option, Some, None, pos, codes, refl, sym, ap, ◌∙◌, subst, true≢false}
use Rattle.std.specs.Prelude.{option_map, ◌==◌}
use Rattle.doc_values.specs.Tree.{Forest}
use Rattle.guard_lexer.specs.declared.token.Mark.TheVariants as m
use Rattle.guard_lexer.specs.declared.token.TokenKind.TheVariants as k
use Rattle.guard_syntax.specs.Named.{Named}
use Rattle.guard_syntax.specs.declared.syntax.Op.{Op}
use Rattle.guard_syntax.specs.Syntax.{Conds, Disjs, Disj, Parts, Part, Query, Steps, Step, Expr, OptExpr, Exprs, conds, no_disjs, more_disjs, disj, no_parts, more_parts, block, guarded, kinds, test, refer, call, query, no_steps, more_steps, this, var, key, index, every, items, splice, filter, keys, literal, function, asked, found, no_expr, with_expr, no_exprs, more_exprs}
use Rattle.literal_parser.specs.declared.keyword.Keyword.TheVariants as kw
use Rattle.literal_parser.specs.Lexemes.{Lexeme, Word, Name, Reserved, Var, Whole, Str, Sign, word_of}
use Rattle.literal_parser.specs.Forms.{form, word_form, whole_form, is_name, is_any_name, is_r, is_var, is_str, is_index, is_neg, is_or, is_comma, is_bar, is_dot, is_star, is_keys, is_some_word, is_lparen, is_rparen, is_lbracket, is_rbracket, is_opening_end, is_plain, is_constant, is_led, is_start, is_applied, is_literal, goes_on, opens_range, begins_step, begins_cond, begins_query, text_in, text_of, named_of, index_of, whole_in, magnitude}
use Rattle.literal_parser.specs.States.{State, Opens, past, opened}
use Rattle.literal_parser.proofs.Apart.{always, apart, implied, denied}
use Rattle.guard_parser.specs.Grammar.{IsCapture, IsAny, IsNot, IsConds, IsDisjs, IsDisj, IsOrs, IsPart, IsRight, IsQuery, IsStart, IsSteps, IsStep, IsExpr, IsExprs, IsMoreExprs}
use Rattle.rule_spelling.specs.code.Pieces.{Piece}
use Rattle.rule_words.specs.WordText.{is_free_name, space_within, space_behind}
use Rattle.rule_printer.specs.code.RulePieces.{space, name, mark, name_if, operator, note, capture, start, conds_pieces, more_disjs_pieces, disj_pieces, more_alternatives_pieces, cond_pieces, query_pieces, steps_pieces, step_pieces, expr_pieces, opt_expr_pieces, exprs_pieces, more_exprs_pieces}
use Rattle.printer_laws.specs.code.Unplaced.{unplaced_name, unplaced_conds, unplaced_disjs, unplaced_disj, unplaced_parts, unplaced_part, unplaced_query, unplaced_steps, unplaced_step, unplaced_expr, unplaced_opt_expr, unplaced_exprs}
use Rattle.printer_laws.specs.code.Shown.{IsQuotable, IsReadBack, IsLevel, IsQuiet, Shows, Told, first_form, second_form}
use Rattle.printer_laws.proofs.Showing.{first_false, second_false, level_past, level_same, level_off, level_on, passes, fails, shown_form, second_shown, is_name-form}
use Rattle.printer_laws.proofs.LiteralsShown.{quotable_key, literal_told}
use Rattle.printer_laws.proofs.WordsShown.{is_allowed, var_back, index_back, free_name, key_shown, operator_told, operator_allowed, operator_first, keys_operator_told, note_told, some_word, not_word, or_word, keys_word}
use Rattle.printer_laws.proofs.StartsShown.{site_told, start_word, start_told, step_first, operator_goes_on, query_led}
use Rattle.printer_laws.proofs.QuietShown.{name_again, start_first, start_begins, literal_begins, no_literal, spaced, off, off_second, neither, EndsParts, EndsConds, behind_part, behind_disj, disjs_begin}

-- equal parts make an equal whole
pub join : {A B C : Type 0} (f : A → B → C) (a c : A) (b d : B) → a ≡ c → b ≡ d → f a b ≡ f c d
join f a c b d p q = ap (λ z. f z b) p ∙ ap (λ z. f c z) q

module _ (s t : ℕ → Lexeme) (reads : (i : ℕ) → IsReadBack (s i).word) where
  -- ---- what is to be told of each

  abbrev StepsTold : Steps → Type 0
  StepsTold ps = (gap : List ℕ) (a b from : State) (at : ℕ) (rest : List Piece) → IsSteps s ps a b → Shows t from.at at (steps_pieces gap ps rest) → IsLevel a from → begins_step (first_form rest) ≡ false → Told t (IsSteps t) unplaced_steps ps b from rest

  abbrev QueryTold : Query → Type 0
  QueryTold q = (gap : List ℕ) (a b from : State) (at : ℕ) (rest : List Piece) → IsQuery s q a b → Shows t from.at at (query_pieces gap q rest) → IsLevel a from → begins_step (first_form rest) ≡ false → Told t (IsQuery t) unplaced_query q b from rest

  abbrev ExprTold : Expr → Type 0
  ExprTold e = (lone : Bool) (gap : List ℕ) (a b from : State) (at : ℕ) (rest : List Piece) → IsExpr s lone e a b → Shows t from.at at (expr_pieces gap e rest) → IsLevel a from → begins_step (first_form rest) ≡ false → is_lparen (first_form rest) ≡ false
      → Told t (IsExpr t lone) unplaced_expr e b from rest

  abbrev RightTold : OptExpr → Type 0
  RightTold e = (o : Op) (a b from : State) (at : ℕ) (rest : List Piece) → IsRight s o e a b → Shows t from.at at (opt_expr_pieces e rest) → IsLevel a from → begins_step (first_form rest) ≡ false → is_lparen (first_form rest) ≡ false
      → Told t (IsRight t o) unplaced_opt_expr e b from rest

  abbrev ExprsTold : Exprs → Type 0
  ExprsTold es = (a b from : State) (at : ℕ) (rest : List Piece) → IsExprs s es a b → Shows t from.at at (exprs_pieces es rest) → IsLevel a from → first_form rest ≡ 13 → Told t (IsExprs t) unplaced_exprs es b from rest

  abbrev CondsTold : Conds → Type 0
  CondsTold c = (gap : List ℕ) (a b from : State) (at : ℕ) (rest : List Piece) → IsConds s c a b → Shows t from.at at (conds_pieces gap c rest) → IsLevel a from → EndsConds s reads rest → Told t (IsConds t) unplaced_conds c b from rest

  -- ---- words

  -- the lexeme of a name that the source has
  pub named_shown : (i j : ℕ) (text : List ℕ) → is_any_name (form (s i)) ≡ true → text ≡ text_of (s i) → (t j).word ≡ word_of k.Name text → (t j).word ≡ (s i).word
  named_shown i j text p e h = h ∙ name_again s reads i text p e

  pub named_text : (i j : ℕ) (text : List ℕ) → text ≡ text_of (s i) → (t j).word ≡ (s i).word → text ≡ text_of (t j)
  named_text i j text e w = e ∙ sym (ap text_in w)

  pub named_passes : (f : ℕ → Bool) (i j : ℕ) → f (form (s i)) ≡ true → (t j).word ≡ (s i).word → f (form (t j)) ≡ true
  named_passes f i j p w = passes f (t j) (s i).word w p

  -- ---- queries

  query_from : (gap behind : List ℕ) (n : ℕ) (p : Step) (ps : Steps) → StepsTold ps → (a b from : State) (at : ℕ) (rest : List Piece) → IsQuery s (query n (more_steps p ps)) a b
      → Shows t from.at at (start gap p (step_pieces gap p (steps_pieces behind ps rest)) (steps_pieces behind ps rest)) → IsLevel a from → begins_step (first_form rest) ≡ false → Told t (IsQuery t) unplaced_query (query n (more_steps p ps)) b from rest
  query_from gap behind n p ps st a b from at rest (c, o, (d, f, g)) h level quiet =
      let site = site_told s t n a c from o level in
      let begun = start_told s t reads p gap c d (opened (t from.at).from from) at (steps_pieces behind ps rest) f h site.1 in
      let others = st behind d b (past (opened (t from.at).from (opened (t from.at).from from))) (t from.at).to rest g begun.3 begun.1 quiet in
      record {
        value = query n (more_steps p others.value);
        same = ap (λ (z : Steps). query n (more_steps (unplaced_step p) z)) others.same;
        to = others.to;
        spelled = (opened (t from.at).from from, site.0, (past (opened (t from.at).from (opened (t from.at).from from)), begun.0, others.spelled));
        level = others.level;
        last = others.last;
        shown = others.shown;
      }

  -- the key of a step
  capture_told : (bound : Option Named) (a b from : State) (at : ℕ) (rest : List Piece) → IsCapture s bound a b → Shows t from.at at (capture bound rest) → IsLevel a from → (is_name (first_form rest) && is_bar (second_form rest)) ≡ false
      → Told t (IsCapture t) (option_map unplaced_name) bound b from rest
  capture_told None a b from at rest h shows level quiet = record {
    value = None;
    same = refl;
    to = from;
    spelled = (ap (λ (n : ℕ). is_name n && is_bar (form (t (suc from.at)))) (shown_form t from.at at rest shows) ∙ ap (λ (n : ℕ). is_name (first_form rest) && is_bar n) (second_shown t from.at at rest shows) ∙ quiet, refl);
    level = level_same a b from h.1 level;
    last = at;
    shown = shows;
  }
  capture_told (Some bound) a b from at rest (c, f, g) shows level quiet =
      let e : bound.text ≡ text_of (s a.at) = ap (λ (z : Named). z.text) f.1 in
      let w = named_shown a.at from.at bound.text (implied is_name is_any_name (s a.at) refl f.0) e shows.0 in
      record {
        value = Some (named_of (t from.at));
        same = ap (λ (z : List ℕ). Some (record { text = z; at = 0 })) (sym (named_text a.at from.at bound.text e w));
        to = past (past from);
        spelled = (past from, (named_passes is_name a.at from.at f.0 w, refl, refl), (passes is_bar (t (suc from.at)) (Sign m.Bar) shows.2.0 refl, refl));
        level = level_past c b (past from) g.1 (level_past a c from f.2 level);
        last = (t (suc from.at)).to;
        shown = shows.2.2;
      }

  -- ---- conditions

  pub any_told : (full any : Bool) (gap : List ℕ) (a b from : State) (at : ℕ) (behind : List ℕ → List Piece) → IsAny s full any a b → Shows t from.at at (name_if any gap (codes "some") behind) → IsLevel a from
      → (any ≡ false → is_led full (form (t from.at)) (form (t (suc from.at))) (form (t (suc (suc from.at)))) ≡ true)
      → (to : State) × IsAny t full any from to × IsLevel b to × (g : List ℕ) × (last : ℕ) × Shows t to.at last (behind g)
  any_told full true gap a b from at behind h shows level led = (past from, (passes is_some_word (t from.at) (Reserved kw.Some (codes "some")) (shows.0 ∙ some_word) refl, refl), level_past a b from h.1 level, space, (t from.at).to, shows.2)
  any_told full false gap a b from at behind h shows level led = (from, (led refl, refl), level_same a b from h.1 level, gap, at, shows)

  not_told : (full negated : Bool) (gap : List ℕ) (a b from : State) (at : ℕ) (behind : List ℕ → List Piece) → IsNot s full negated a b → Shows t from.at at (name_if negated gap (codes "not") behind) → IsLevel a from
      → (negated ≡ false → is_led full (form (t from.at)) (form (t (suc from.at))) (form (t (suc (suc from.at)))) ≡ false)
      → (to : State) × IsNot t full negated from to × IsLevel b to × (g : List ℕ) × (last : ℕ) × Shows t to.at last (behind g)
  not_told full true gap a b from at behind h shows level led = (past from, (passes is_neg (t from.at) (Reserved kw.Not (codes "not")) (shows.0 ∙ not_word) refl, refl), level_past a b from h.1 level, space, (t from.at).to, shows.2)
  not_told full false gap a b from at behind h shows level led = (from, (led refl, refl), level_same a b from h.1 level, gap, at, shows)

  -- ---- what stands behind the first lexeme

  note_first : (message : Option (List ℕ)) (rest : List Piece) → begins_step (first_form rest) ≡ false → is_lparen (first_form rest) ≡ false → is_bar (first_form rest) ≡ false
      → (begins_step (first_form (note message rest)) ≡ false) × (is_lparen (first_form (note message rest)) ≡ false) × (is_bar (first_form (note message rest)) ≡ false)
  note_first None rest p q r = (p, q, r)
  note_first (Some message) rest p q r = (refl, refl, refl)

  note_goes_on : (full : Bool) (message : Option (List ℕ)) (rest : List Piece) (j last : ℕ) → IsQuiet full (first_form rest) (second_form rest) → Shows t j last (note message rest) → goes_on full (form (t j)) (form (t (suc j))) ≡ false
  note_goes_on full None rest j last quiet h = ap (λ (n : ℕ). goes_on full n (form (t (suc j)))) (shown_form t j last rest h) ∙ ap (λ (n : ℕ). goes_on full (first_form rest) n) (second_shown t j last rest h) ∙ quiet.led
  note_goes_on true (Some message) rest j last quiet h = ap (λ (n : ℕ). goes_on true n (form (t (suc j)))) (shown_form t j last (note (Some message) rest) h)
  note_goes_on false (Some message) rest j last quiet h = ap (λ (n : ℕ). goes_on false n (form (t (suc j)))) (shown_form t j last (note (Some message) rest) h)

  paren_goes_on : (full : Bool) (i z : ℕ) → (t i).word ≡ Sign m.LParen → goes_on full (form (t i)) z ≡ false
  paren_goes_on true i z w = ap (λ (x : Word). goes_on true (word_form x) z) w
  paren_goes_on false i z w = ap (λ (x : Word). goes_on false (word_form x) z) w

  steps_bar : (ps : Steps) (gap : List ℕ) (a b : State) (rest : List Piece) → IsSteps s ps a b → is_bar (first_form rest) ≡ false → is_bar (first_form (steps_pieces gap ps rest)) ≡ false
  steps_bar no_steps gap a b rest h quiet = quiet
  steps_bar (more_steps p ps) gap a b rest (e, (c, f, g)) quiet = (step_first s p a c gap (steps_pieces [] ps rest) f).1

  steps_paren : (ps : Steps) (gap : List ℕ) (a b : State) (rest : List Piece) → IsSteps s ps a b → is_lparen (first_form rest) ≡ false → is_lparen (first_form (steps_pieces gap ps rest)) ≡ false
  steps_paren no_steps gap a b rest h quiet = quiet
  steps_paren (more_steps p ps) gap a b rest (e, (c, f, g)) quiet = (step_first s p a c gap (steps_pieces [] ps rest) f).2

  pub query_first : (f : ℕ → Bool) (q : Query) (gap : List ℕ) (a b : State) (rest : List Piece) → always (λ n. not (begins_query n && f n)) 64 ≡ true → IsQuery s q a b → f (first_form (query_pieces gap q rest)) ≡ false
  query_first f (query n no_steps) gap a b rest e h = absurd h
  query_first f (query n (more_steps p ps)) gap a b rest e (c, o, (d, g, k)) =
      ap f (start_first s reads p gap c d (steps_pieces [] ps rest) g).0 ∙ apart begins_query f (record { word = start_word p; from = 0; to = 0 }) e (start_begins s p c d g)

  name_bar : (i : ℕ) (text : List ℕ) → is_name (form (s i)) ≡ true → text ≡ text_of (s i) → is_bar (word_form (word_of k.Name text)) ≡ false
  name_bar i text p e = ap (λ (w : Word). is_bar (word_form w)) (name_again s reads i text (implied is_name is_any_name (s i) refl p) e) ∙ apart is_name is_bar (s i) refl p

  -- no bar stands behind the first lexeme of a condition
  cond_bar : (p : Part) (gap : List ℕ) (a b : State) (rest : List Piece) → IsPart s false p a b → is_bar (first_form rest) ≡ false → is_bar (second_form (cond_pieces gap p rest)) ≡ false
  cond_bar (block n any q c) gap a b rest h quiet = absurd (true≢false (sym h.0))
  cond_bar (guarded n c d) gap a b rest h quiet = absurd (true≢false (sym h.0))
  cond_bar (kinds n text c d) gap a b rest h quiet = absurd (true≢false (sym h.0))
  cond_bar (test n true q o negated right message) gap a b rest (c, o1, (d, any, (e, hq, more))) quiet = query_first is_bar q space d e (operator o negated (opt_expr_pieces right (note message rest))) refl hq
  cond_bar (test n false (query i no_steps) o negated right message) gap a b rest (c, o1, (d, any, (e, hq, more))) quiet = absurd hq
  cond_bar (test n false (query i (more_steps p ps)) o negated right message) gap a b rest (c, o1, (d, any, (e, (f, o2, (g, hs, hss)), more))) quiet =
      let behind = operator o negated (opt_expr_pieces right (note message rest)) in
      ap is_bar (start_first s reads p gap f g (steps_pieces [] ps behind) hs).1 ∙ steps_bar ps [] g e behind hss (operator_first o negated (opt_expr_pieces right (note message rest))).1
  cond_bar (refer n true text message) gap a b rest (c, o1, (d, nots, (e, f, more))) quiet = name_bar d.at text f.0 f.1
  cond_bar (refer n false text None) gap a b rest (c, o1, (d, nots, (e, f, more))) quiet = quiet
  cond_bar (refer n false text (Some message)) gap a b rest (c, o1, (d, nots, (e, f, more))) quiet = refl
  cond_bar (call n true text es message) gap a b rest (c, o1, (d, nots, (e, f, more))) quiet = name_bar d.at text f.0 f.1
  cond_bar (call n false text es message) gap a b rest (c, o1, (d, nots, (e, f, more))) quiet = refl

  conds_bar : (c : Conds) (gap : List ℕ) (a b : State) (rest : List Piece) → IsConds s c a b → EndsConds s reads rest → is_bar (second_form (conds_pieces gap c rest)) ≡ false
  conds_bar (conds n no_disjs) gap a b rest h ends = absurd h
  conds_bar (conds n (more_disjs (disj i no_parts) ds)) gap a b rest (c, o, (d, f, g)) ends = absurd f
  conds_bar (conds n (more_disjs (disj i (more_parts p ps)) ds)) gap a b rest (c, o, (d, (e, o2, (z, h, k)), g)) ends =
      cond_bar p gap e z (more_alternatives_pieces ps (more_disjs_pieces ds rest)) h (behind_part s reads ps (more_disjs_pieces ds rest) (behind_disj s reads ds d b rest g ends)).bar

  -- ---- expressions that are queries

  no_opening : (n : ℕ) → begins_step n ≡ false → is_lparen n ≡ false → is_opening_end n ≡ false
  no_opening n p q = neither (is_lparen n) (is_lbracket n) q (second_false (is_dot n) (is_lbracket n) p)

  -- behind a name that begins a query no range is opened
  key_opens : (n : ℕ) (text : List ℕ) (ps : Steps) (a b : State) (i : ℕ) (rest : List Piece) → IsSteps s ps a b → (t i).word ≡ Name text → Shows t (suc i) (t i).to (steps_pieces (space_within (key n text) ps) ps rest)
      → begins_step (first_form rest) ≡ false → is_lparen (first_form rest) ≡ false → opens_range (t i) (t (suc i)) ≡ false
  key_opens n text no_steps a b i rest h word shows p q =
      off_second (is_r (form (t i))) _ (off (is_opening_end (form (t (suc i)))) ((t (suc i)).from == (t i).to) (ap is_opening_end (shown_form t (suc i) (t i).to rest shows) ∙ no_opening (first_form rest) p q))
  key_opens n text (more_steps step qs) a b i rest (begun, (z, f, g)) word shows p q = by step f shows where
    dotted : (t (suc i)).word ≡ Sign m.Dot → opens_range (t i) (t (suc i)) ≡ false
    dotted w = off_second (is_r (form (t i))) _ (off (is_opening_end (form (t (suc i)))) ((t (suc i)).from == (t i).to) (fails is_opening_end (t (suc i)) (Sign m.Dot) w refl))

    named : (t (suc i)).from ≡ (t i).to + length (space_behind text) → opens_range (t i) (t (suc i)) ≡ false
    named far = spaced t (t i) (t (suc i)) text (Name text) word (implied is_name is_any_name (record { word = Name text; from = 0; to = 0 }) refl (is_name-form text)) refl far

    by : (step : Step) → IsStep s step a z → Shows t (suc i) (t i).to (steps_pieces (space_within (key n text) (more_steps step qs)) (more_steps step qs) rest) → opens_range (t i) (t (suc i)) ≡ false
    by (this k) f shows = absurd f
    by (var k x) f shows = absurd f
    by (key k x) f shows = dotted shows.0
    by (index k x) f shows = dotted shows.0
    by (every k) f shows = dotted shows.0
    by (splice k x) f shows = dotted shows.0
    by (items k) f shows = named shows.1
    by (filter k x c) f shows = named shows.1
    by (keys k x o negated e) f shows = named shows.1

  next_paren : (p : Step) (ps : Steps) (d b : State) (i : ℕ) (rest : List Piece) → IsSteps s ps d b → Shows t (suc i) (t i).to (steps_pieces (space_within p ps) ps rest) → is_lparen (first_form rest) ≡ false → is_lparen (form (t (suc i))) ≡ false
  next_paren p ps d b i rest g shows paren = ap is_lparen (shown_form t (suc i) (t i).to (steps_pieces (space_within p ps) ps rest) shows) ∙ steps_paren ps (space_within p ps) d b rest g paren

  no_value : (w : Word) (x y : Lexeme) → x.word ≡ w → is_plain (word_form w) ≡ false → opens_range x y ≡ false → is_constant (word_form w) ≡ false → is_lparen (form y) ≡ false → (is_literal x y ≡ false) × (is_applied x y ≡ false)
  no_value w x y e p q r next = (no_literal t x y (fails is_plain x w e p) q (off (is_constant (form x)) (not (is_lparen (form y))) (fails is_constant x w e r)), off_second (is_any_name (form x)) (is_lparen (form y)) next)

  no_range : (w : Word) (x y : Lexeme) → x.word ≡ w → is_r (word_form w) ≡ false → opens_range x y ≡ false
  no_range w x y e p = off (is_r (form x)) (is_opening_end (form y) && (y.from == x.to)) (fails is_r x w e p)

  begins_by : (p : Step) (ps : Steps) (c d b : State) (i : ℕ) (rest : List Piece) → IsStart s p c d → is_str (form (s c.at)) ≡ false → IsSteps s ps d b → (t i).word ≡ start_word p → Shows t (suc i) (t i).to (steps_pieces (space_within p ps) ps rest)
      → begins_step (first_form rest) ≡ false → is_lparen (first_form rest) ≡ false → (is_literal (t i) (t (suc i)) ≡ false) × (is_applied (t i) (t (suc i)) ≡ false)
  begins_by (this n) ps c d b i rest f free g word shows step paren =
      no_value (Reserved kw.This (codes "this")) (t i) (t (suc i)) word refl (no_range (Reserved kw.This (codes "this")) (t i) (t (suc i)) word refl) refl (next_paren (this n) ps d b i rest g shows paren)
  begins_by (var n text) ps c d b i rest f free g word shows step paren =
      no_value (Var text) (t i) (t (suc i)) word refl (no_range (Var text) (t i) (t (suc i)) word refl) refl (next_paren (var n text) ps d b i rest g shows paren)
  begins_by (key n text) ps c d b i rest (e, o, f) free g word shows step paren =
      let here : is_str (form (s e.at)) ≡ false = subst (λ (j : ℕ). is_str (form (s j)) ≡ false) (sym (ap (λ (z : State). z.at) o.1)) free in
      let named : is_free_name text ≡ true = subst (λ (x : List ℕ). is_free_name x ≡ true) (sym f.1) (free_name (s e.at).word (reads e.at) f.0 here) in
      let own : (t i).word ≡ Name text = word ∙ ap (λ (v : Bool). if v then Name text else Str text) named in
      let alone : Lexeme = record { word = Name text; from = 0; to = 0 } in
      no_value (Name text) (t i) (t (suc i)) own (apart is_name is_plain alone refl (is_name-form text)) (key_opens n text ps d b i rest g own shows step paren) (apart is_name is_constant alone refl (is_name-form text))
      (next_paren (key n text) ps d b i rest g shows paren)
  begins_by (index n k) ps c d b i rest f free g word shows step paren = absurd f
  begins_by (every n) ps c d b i rest f free g word shows step paren = absurd f
  begins_by (items n) ps c d b i rest f free g word shows step paren = absurd f
  begins_by (splice n bound) ps c d b i rest f free g word shows step paren = absurd f
  begins_by (filter n bound x) ps c d b i rest f free g word shows step paren = absurd f
  begins_by (keys n bound o negated e) ps c d b i rest f free g word shows step paren = absurd f

  asked_begins : (n : ℕ) (p : Step) (ps : Steps) (gap : List ℕ) (a b from : State) (at : ℕ) (rest : List Piece) → is_literal (s a.at) (s (suc a.at)) ≡ false → IsQuery s (query n (more_steps p ps)) a b
      → Shows t from.at at (start gap p (step_pieces gap p (steps_pieces (space_within p ps) ps rest)) (steps_pieces (space_within p ps) ps rest)) → IsLevel a from → begins_step (first_form rest) ≡ false → is_lparen (first_form rest) ≡ false
      → (is_literal (t from.at) (t (suc from.at)) ≡ false) × (is_applied (t from.at) (t (suc from.at)) ≡ false)
  asked_begins n p ps gap a b from at rest free (c, o, (d, f, g)) shows level step paren =
      let site = site_told s t n a c from o level in
      let begun = start_told s t reads p gap c d (opened (t from.at).from from) at (steps_pieces (space_within p ps) ps rest) f shows site.1 in
      let plain : is_plain (form (s a.at)) ≡ false = first_false (is_plain (form (s a.at))) (opens_range (s a.at) (s (suc a.at)) || (is_constant (form (s a.at)) && not (is_lparen (form (s (suc a.at)))))) free in
      let quoted : is_str (form (s c.at)) ≡ false = subst (λ (j : ℕ). is_str (form (s j)) ≡ false) (sym (ap (λ (z : State). z.at) o.1)) (denied is_str is_plain (s a.at) refl plain) in
      begins_by p ps c d b from.at rest f quoted g begun.2 begun.3 step paren

  -- ---- tests, references and calls

  pub any_level : (full any : Bool) (a b c : State) → IsAny s full any a b → IsLevel a c → IsLevel b c
  any_level full true a b c h level = level_off a b c h.1 level
  any_level full false a b c h level = level_same a b c h.1 level

  -- a test that begins with its query
  test_led : (full any : Bool) (gap : List ℕ) (m : ℕ) (p : Step) (ps : Steps) (o : Op) (negated : Bool) (a b c d from : State) (at : ℕ) (behind : List Piece) → IsAny s full any a b → IsQuery s (query m (more_steps p ps)) b c → is_allowed (o, negated) ≡ true
      → Shows t from.at at (name_if any gap (codes "some") (λ g. query_pieces g (query m (more_steps p ps)) (operator o negated behind))) → IsLevel a from → any ≡ false → is_led full (form (t from.at)) (form (t (suc from.at))) (form (t (suc (suc from.at)))) ≡ true
  test_led full true gap m p ps o negated a b c d from at behind begins h allowed shows level e = absurd (true≢false e)
  test_led full false gap m p ps o negated a b c d from at behind begins (b1, oq, (b2, hs, hss)) allowed shows level e =
      let site = site_told s t m b b1 from oq (any_level full false a b from begins level) in
      let begun = start_told s t reads p gap b1 b2 (opened (t from.at).from from) at (steps_pieces [] ps (operator o negated behind)) hs shows site.1 in
      query_led t s full p ps b1 b2 b2 c from.at (t from.at).to [] (operator o negated behind) hs hss begun.2 begun.3 (λ j last h. operator_goes_on t full o negated j last behind allowed h)

  pub test_told : (full : Bool) (n : ℕ) (any : Bool) (m : ℕ) (p : Step) (ps : Steps) (o : Op) (negated : Bool) (right : OptExpr) (message : Option (List ℕ)) → StepsTold ps → RightTold right → (gap : List ℕ) (a b from : State) (at : ℕ) (rest : List Piece)
      → IsPart s full (test n any (query m (more_steps p ps)) o negated right message) a b → Shows t from.at at (cond_pieces gap (test n any (query m (more_steps p ps)) o negated right message) rest) → IsLevel a from → IsQuiet full (first_form rest) (second_form rest)
      → Told t (IsPart t full) unplaced_part (test n any (query m (more_steps p ps)) o negated right message) b from rest
  test_told full n any m p ps o negated right message st rt gap a b from at rest (c1, o1, (c2, begins, (c3, hq, (c4, ho, (c5, hr, hn))))) shows level quiet =
      let site = site_told s t n a c1 from o1 level in
      let behind_right = note message rest in
      let behind = opt_expr_pieces right behind_right in
      let first = note_first message rest quiet.step quiet.paren quiet.bar in
      let allowed = operator_allowed s t o negated c3 c4 ho in
      let some_of = any_told full any gap c1 c2 (opened (t from.at).from from) at (λ g. query_pieces g (query m (more_steps p ps)) (operator o negated behind)) begins shows site.1
      (test_led full any gap m p ps o negated c1 c2 c3 c3 (opened (t from.at).from from) at behind begins hq allowed shows site.1) in
      let left = query_from some_of.3 [] m p ps st c2 c3 some_of.0 some_of.4 (operator o negated behind) hq some_of.5 some_of.2 (operator_first o negated behind).0 in
      let sign = operator_told s t o negated c3 c4 left.to left.last behind ho left.shown left.level in
      let value = rt o c4 c5 sign.0 sign.3 behind_right hr sign.4 sign.2 first.0 first.1 in
      let said = note_told s t reads message c5 b value.to value.last rest hn value.shown quiet.note value.level in
      record {
        value = test n any left.value o negated value.value message;
        same = join (λ (x : Query) (y : OptExpr). test n any x o negated y message) (unplaced_query left.value) (unplaced_query (query m (more_steps p ps))) (unplaced_opt_expr value.value) (unplaced_opt_expr right) left.same value.same;
        to = said.0;
        spelled = (opened (t from.at).from from, site.0, (some_of.0, some_of.1, (left.to, left.spelled, (sign.0, sign.1, (value.to, value.spelled, said.1)))));
        level = said.2;
        last = said.3;
        shown = said.4;
      }

  -- a name that begins a reference or a call begins no query
  name_not_led : (full : Bool) (i : ℕ) → is_name (form (t i)) ≡ true → goes_on full (form (t (suc i))) (form (t (suc (suc i)))) ≡ false → is_led full (form (t i)) (form (t (suc i))) (form (t (suc (suc i)))) ≡ false
  name_not_led full i p q = neither (is_start (form (t i))) (is_name (form (t i)) && goes_on full (form (t (suc i))) (form (t (suc (suc i))))) (apart is_name is_start (t i) refl p) (off_second (is_name (form (t i))) _ q)

  named_not_led : (full negated : Bool) (gap : List ℕ) (text : List ℕ) (j i at : ℕ) (behind : List Piece) → is_name (form (s j)) ≡ true → text ≡ text_of (s j) → Shows t i at (name_if negated gap (codes "not") (λ g. name g text behind))
      → ((k last : ℕ) → Shows t k last behind → goes_on full (form (t k)) (form (t (suc k))) ≡ false) → negated ≡ false → is_led full (form (t i)) (form (t (suc i))) (form (t (suc (suc i)))) ≡ false
  named_not_led full true gap text j i at behind p e shows stays plain = absurd (true≢false plain)
  named_not_led full false gap text j i at behind p e shows stays plain =
      let w = named_shown j i text (implied is_name is_any_name (s j) refl p) e shows.0 in
      name_not_led full i (named_passes is_name j i p w) (stays (suc i) (t i).to shows.2)

  pub refer_told : (full : Bool) (n : ℕ) (negated : Bool) (text : List ℕ) (message : Option (List ℕ)) (gap : List ℕ) (a b from : State) (at : ℕ) (rest : List Piece)
      → IsPart s full (refer n negated text message) a b → Shows t from.at at (cond_pieces gap (refer n negated text message) rest) → IsLevel a from → IsQuiet full (first_form rest) (second_form rest)
      → Told t (IsPart t full) unplaced_part (refer n negated text message) b from rest
  refer_told full n negated text message gap a b from at rest (c1, o1, (c2, nots, (c3, f, (no_paren, hn)))) shows level quiet =
      let site = site_told s t n a c1 from o1 level in
      let not_of = not_told full negated gap c1 c2 (opened (t from.at).from from) at (λ g. name g text (note message rest)) nots shows site.1
      (named_not_led full negated gap text c2.at from.at at (note message rest) f.0 f.1 shows (λ k last h. note_goes_on full message rest k last quiet h)) in
      let w = named_shown c2.at not_of.0.at text (implied is_name is_any_name (s c2.at) refl f.0) f.1 not_of.5.0 in
      let first = note_first message rest quiet.step quiet.paren quiet.bar in
      let said = note_told s t reads message c3 b (past not_of.0) (t not_of.0.at).to rest hn not_of.5.2 quiet.note (level_past c2 c3 not_of.0 f.2 not_of.2) in
      record {
        value = refer n negated text message;
        same = refl;
        to = said.0;
        spelled = (
          opened (t from.at).from from,
          site.0,
          (
            not_of.0,
            not_of.1,
            (
              past not_of.0,
              (named_passes is_name c2.at not_of.0.at f.0 w, named_text c2.at not_of.0.at text f.1 w, refl),
              (ap is_lparen (shown_form t (suc not_of.0.at) (t not_of.0.at).to (note message rest) not_of.5.2) ∙ first.1, said.1),
            ),
          ),
        );
        level = said.2;
        last = said.3;
        shown = said.4;
      }

  pub call_told : (full : Bool) (n : ℕ) (negated : Bool) (text : List ℕ) (es : Exprs) (message : Option (List ℕ)) → ExprsTold es → (gap : List ℕ) (a b from : State) (at : ℕ) (rest : List Piece)
      → IsPart s full (call n negated text es message) a b → Shows t from.at at (cond_pieces gap (call n negated text es message) rest) → IsLevel a from → IsQuiet full (first_form rest) (second_form rest)
      → Told t (IsPart t full) unplaced_part (call n negated text es message) b from rest
  call_told full n negated text es message et gap a b from at rest (c1, o1, (c2, nots, (c3, f, (c4, lp, (c5, hes, (c6, rp, hn)))))) shows level quiet =
      let site = site_told s t n a c1 from o1 level in
      let behind = mark [] m.LParen (exprs_pieces es (mark [] m.RParen (note message rest))) in
      let not_of = not_told full negated gap c1 c2 (opened (t from.at).from from) at (λ g. name g text behind) nots shows site.1
      (named_not_led full negated gap text c2.at from.at at behind f.0 f.1 shows (λ k last h. paren_goes_on full k (form (t (suc k))) h.0)) in
      let w = named_shown c2.at not_of.0.at text (implied is_name is_any_name (s c2.at) refl f.0) f.1 not_of.5.0 in
      let p1 = past not_of.0 in
      let inner = not_of.5.2 in
      let args = et c4 c5 (past p1) (t p1.at).to (mark [] m.RParen (note message rest)) hes inner.2 (level_past c3 c4 p1 lp.1 (level_past c2 c3 not_of.0 f.2 not_of.2)) refl in
      let closing = args.shown in
      let said = note_told s t reads message c6 b (past args.to) (t args.to.at).to rest hn closing.2 quiet.note (level_past c5 c6 args.to rp.1 args.level) in
      record {
        value = call n negated text args.value message;
        same = ap (λ (z : Exprs). call n negated text z message) args.same;
        to = said.0;
        spelled = (
          opened (t from.at).from from,
          site.0,
          (
            not_of.0,
            not_of.1,
            (
              p1,
              (named_passes is_name c2.at not_of.0.at f.0 w, named_text c2.at not_of.0.at text f.1 w, refl),
              (past p1, (passes is_lparen (t p1.at) (Sign m.LParen) inner.0 refl, refl), (args.to, args.spelled, (past args.to, (passes is_rparen (t args.to.at) (Sign m.RParen) closing.0 refl, refl), said.1))),
            ),
          ),
        );
        level = said.2;
        last = said.3;
        shown = said.4;
      }

  -- ---- steps without parts

  abbrev StepTold : Step → Type 0
  StepTold p = (gap : List ℕ) (a b from : State) (at : ℕ) (rest : List Piece) → IsStep s p a b → Shows t from.at at (step_pieces gap p rest) → IsLevel a from → Told t (IsStep t) unplaced_step p b from rest

  key_told : (n : ℕ) (text : List ℕ) → StepTold (key n text)
  key_told n text gap a b from at rest (c, o, (d, f, g)) shows level =
      let site = site_told s t n a c from o level in
      let from1 = opened (t from.at).from from in
      let quotable : IsQuotable text = subst IsQuotable (sym g.1) (quotable_key (s d.at).word (reads d.at) g.0) in
      let own = key_shown t (suc from.at) (t from.at).to text rest quotable shows.2 in
      record {
        value = key n text;
        same = refl;
        to = past (past from1);
        spelled = (from1, site.0, (past from1, (passes is_dot (t from.at) (Sign m.Dot) shows.0 refl, refl), (own.0, own.1, refl)));
        level = level_past d b (past from1) g.2 (level_past c d from1 f.1 site.1);
        last = (t (suc from.at)).to;
        shown = own.2;
      }

  every_told : (n : ℕ) → StepTold (every n)
  every_told n gap a b from at rest (c, o, (d, f, g)) shows level =
      let site = site_told s t n a c from o level in
      let from1 = opened (t from.at).from from in
      record {
        value = every n;
        same = refl;
        to = past (past from1);
        spelled = (from1, site.0, (past from1, (passes is_dot (t from.at) (Sign m.Dot) shows.0 refl, refl), (passes is_star (t (suc from.at)) (Sign m.Star) shows.2.0 refl, refl)));
        level = level_past d b (past from1) g.1 (level_past c d from1 f.1 site.1);
        last = (t (suc from.at)).to;
        shown = shows.2.2;
      }

  items_step_told : (n : ℕ) → StepTold (items n)
  items_step_told n gap a b from at rest (c, o, (d, f, (e, g, h))) shows level =
      let site = site_told s t n a c from o level in
      let from1 = opened (t from.at).from from in
      record {
        value = items n;
        same = refl;
        to = past (past (past from1));
        spelled = (
          from1,
          site.0,
          (
            past from1,
            (passes is_lbracket (t from.at) (Sign m.LBracket) shows.0 refl, refl),
            (
              past (past from1),
              (passes is_star (t (suc from.at)) (Sign m.Star) shows.2.0 refl, refl),
              (passes is_rbracket (t (suc (suc from.at))) (Sign m.RBracket) shows.2.2.0 refl, refl),
            ),
          ),
        );
        level = level_past e b (past (past from1)) h.1 (level_past d e (past from1) g.1 (level_past c d from1 f.1 site.1));
        last = (t (suc (suc from.at))).to;
        shown = shows.2.2.2;
      }

  -- an index, however the source spells it
  index_as : (n i j : ℕ) (gap : List ℕ) (b c from : State) (at : ℕ) (rest : List Piece) → is_index (form (s j)) ≡ true → i ≡ index_of (s j) → IsLevel b (opened (t from.at).from from) → Opens t n from (opened (t from.at).from from)
      → Shows t from.at at (step_pieces gap (index n i) rest) → Told t (IsStep t) unplaced_step (index n i) b from rest
  index_as n i j gap b c from at rest p e level site shows =
      let from1 = opened (t from.at).from from in
      let test : is_index (whole_form (pos i)) ≡ true = subst (λ (x : ℕ). is_index (whole_form (pos x)) ≡ true) (sym e) (index_back (s j).word p) in
      let w : (t (suc from.at)).word ≡ Whole (pos i) = shows.2.0 in
      record {
        value = index n i;
        same = refl;
        to = past (past from1);
        spelled = (from1, site, inl (past from1, (passes is_dot (t from.at) (Sign m.Dot) shows.0 refl, refl), (passes is_index (t (suc from.at)) (Whole (pos i)) w test, sym (ap (λ (z : Word). magnitude (whole_in z)) w), refl)));
        level = level_on b (past from1) (level_on b from1 level);
        last = (t (suc from.at)).to;
        shown = shows.2.2;
      }

  index_told : (n i : ℕ) → StepTold (index n i)
  index_told n i gap a b from at rest (c, o, inl (d, f, g)) shows level =
      let site = site_told s t n a c from o level in
      index_as n i d.at gap b c from at rest g.0 g.1 (level_off d b (opened (t from.at).from from) g.2 (level_off c d (opened (t from.at).from from) f.1 site.1)) site.0 shows
  index_told n i gap a b from at rest (c, o, inr (d, f, (e, g, h))) shows level =
      let site = site_told s t n a c from o level in
      let from1 = opened (t from.at).from from in
      index_as n i d.at gap b c from at rest g.0 g.1 (level_off e b from1 h.1 (level_off d e from1 g.2 (level_off c d from1 f.1 site.1))) site.0 shows

  splice_told : (n : ℕ) (bound : Named) → StepTold (splice n bound)
  splice_told n bound gap a b from at rest (c, o, (d, f, g)) shows level =
      let site = site_told s t n a c from o level in
      let from1 = opened (t from.at).from from in
      let e : bound.text ≡ text_of (s d.at) = ap (λ (z : Named). z.text) g.1 in
      let back = subst (λ (x : List ℕ). word_of k.Var (codes "%" ++ x) ≡ Var x) (sym e) (var_back (s d.at).word (reads d.at) g.0) in
      let w : (t (suc from.at)).word ≡ Var bound.text = shows.2.0 ∙ back in
      record {
        value = splice n (named_of (t (suc from.at)));
        same = ap (λ (z : Word). splice n (record { text = text_in z; at = 0 })) w;
        to = past (past from1);
        spelled = (from1, site.0, (past from1, (passes is_dot (t from.at) (Sign m.Dot) shows.0 refl, refl), (passes is_var (t (suc from.at)) (Var bound.text) w refl, refl, refl)));
        level = level_past d b (past from1) g.2 (level_past c d from1 f.1 site.1);
        last = (t (suc from.at)).to;
        shown = shows.2.2;
      }

  -- what stands behind an expression in brackets
  exprs_behind : (es : Exprs) (rest : List Piece) → first_form rest ≡ 13 → (begins_step (first_form (more_exprs_pieces es rest)) ≡ false) × (is_lparen (first_form (more_exprs_pieces es rest)) ≡ false)
  exprs_behind no_exprs rest e = (ap begins_step e, ap is_lparen e)
  exprs_behind (more_exprs x es) rest e = (refl, refl)

  abbrev closing_ends : (gap : List ℕ) (rest : List Piece) → EndsConds s reads (mark gap m.RBracket rest)
  closing_ends gap rest = (record { step = refl; paren = refl; note = refl; bar = refl; led = refl }, refl, refl)

  -- ---- by recursion

  abbrev MoreExprsTold : Exprs → Type 0
  MoreExprsTold es = (a b from : State) (at : ℕ) (rest : List Piece) → IsMoreExprs s es a b → Shows t from.at at (more_exprs_pieces es rest) → IsLevel a from → first_form rest ≡ 13 → Told t (IsMoreExprs t) unplaced_exprs es b from rest

  abbrev DisjsTold : Disjs → Type 0
  DisjsTold ds = (a b from : State) (at : ℕ) (rest : List Piece) → IsDisjs s ds a b → Shows t from.at at (more_disjs_pieces ds rest) → IsLevel a from → EndsConds s reads rest → Told t (IsDisjs t) unplaced_disjs ds b from rest

  abbrev DisjTold : Disj → Type 0
  DisjTold d = (gap : List ℕ) (a b from : State) (at : ℕ) (rest : List Piece) → IsDisj s false d a b → Shows t from.at at (disj_pieces gap d rest) → IsLevel a from → EndsParts s reads false rest → Told t (IsDisj t false) unplaced_disj d b from rest

  abbrev OrsTold : Parts → Type 0
  OrsTold ps = (a b from : State) (at : ℕ) (rest : List Piece) → IsOrs s false ps a b → Shows t from.at at (more_alternatives_pieces ps rest) → IsLevel a from → EndsParts s reads false rest → Told t (IsOrs t false) unplaced_parts ps b from rest

  abbrev CondTold : Part → Type 0
  CondTold p = (gap : List ℕ) (a b from : State) (at : ℕ) (rest : List Piece) → IsPart s false p a b → Shows t from.at at (cond_pieces gap p rest) → IsLevel a from → IsQuiet false (first_form rest) (second_form rest) → Told t (IsPart t false) unplaced_part p b from rest

  mutual
    pub conds_told : (c : Conds) → CondsTold c
    conds_told (conds n no_disjs) gap a b from at rest h shows level ends = absurd h
    conds_told (conds n (more_disjs d ds)) gap a b from at rest (c, o, (e, f, g)) shows level ends =
        let site = site_told s t n a c from o level in
        let first = disj_told d gap c e (opened (t from.at).from from) at (more_disjs_pieces ds rest) f shows site.1 (behind_disj s reads ds e b rest g ends) in
        let others = disjs_told ds e b first.to first.last rest g first.shown first.level ends in
        record {
          value = conds n (more_disjs first.value others.value);
          same = join (λ (x : Disj) (y : Disjs). conds n (more_disjs x y)) (unplaced_disj first.value) (unplaced_disj d) (unplaced_disjs others.value) (unplaced_disjs ds) first.same others.same;
          to = others.to;
          spelled = (opened (t from.at).from from, site.0, (first.to, first.spelled, others.spelled));
          level = others.level;
          last = others.last;
          shown = others.shown;
        }

    disjs_told : (ds : Disjs) → DisjsTold ds
    disjs_told no_disjs a b from at rest h shows level ends = record {
      value = no_disjs;
      same = refl;
      to = from;
      spelled = (ap begins_cond (shown_form t from.at at rest shows) ∙ ends.2, refl);
      level = level_same a b from h.1 level;
      last = at;
      shown = shows;
    }
    disjs_told (more_disjs d ds) a b from at rest (e, (c, f, g)) shows level ends =
        let begins = disjs_begin s reads d a b rest ds (e, (c, f, g)) in
        let first = disj_told d space a c from at (more_disjs_pieces ds rest) f shows level (behind_disj s reads ds c b rest g ends) in
        let others = disjs_told ds c b first.to first.last rest g first.shown first.level ends in
        record {
          value = more_disjs first.value others.value;
          same = join more_disjs (unplaced_disj first.value) (unplaced_disj d) (unplaced_disjs others.value) (unplaced_disjs ds) first.same others.same;
          to = others.to;
          spelled = (ap begins_cond (shown_form t from.at at (more_disjs_pieces (more_disjs d ds) rest) shows) ∙ begins.2, (first.to, first.spelled, others.spelled));
          level = others.level;
          last = others.last;
          shown = others.shown;
        }

    disj_told : (d : Disj) → DisjTold d
    disj_told (disj n no_parts) gap a b from at rest h shows level ends = absurd h
    disj_told (disj n (more_parts p ps)) gap a b from at rest (c, o, (e, f, g)) shows level ends =
        let site = site_told s t n a c from o level in
        let first = cond_told p gap c e (opened (t from.at).from from) at (more_alternatives_pieces ps rest) f shows site.1 (behind_part s reads ps rest ends) in
        let others = ors_told ps e b first.to first.last rest g first.shown first.level ends in
        record {
          value = disj n (more_parts first.value others.value);
          same = join (λ (x : Part) (y : Parts). disj n (more_parts x y)) (unplaced_part first.value) (unplaced_part p) (unplaced_parts others.value) (unplaced_parts ps) first.same others.same;
          to = others.to;
          spelled = (opened (t from.at).from from, site.0, (first.to, first.spelled, others.spelled));
          level = others.level;
          last = others.last;
          shown = others.shown;
        }

    ors_told : (ps : Parts) → OrsTold ps
    ors_told no_parts a b from at rest h shows level ends = record {
      value = no_parts;
      same = refl;
      to = from;
      spelled = (ap is_or (shown_form t from.at at rest shows) ∙ ends.1, refl);
      level = level_same a b from h.1 level;
      last = at;
      shown = shows;
    }
    ors_told (more_parts p ps) a b from at rest (d, e, (c, f, g)) shows level ends =
        let first = cond_told p space d c (past from) (t from.at).to (more_alternatives_pieces ps rest) f shows.2 (level_past a d from e.1 level) (behind_part s reads ps rest ends) in
        let others = ors_told ps c b first.to first.last rest g first.shown first.level ends in
        record {
          value = more_parts first.value others.value;
          same = join more_parts (unplaced_part first.value) (unplaced_part p) (unplaced_parts others.value) (unplaced_parts ps) first.same others.same;
          to = others.to;
          spelled = (past from, (passes is_or (t from.at) (Reserved kw.Or (codes "or")) (shows.0 ∙ or_word) refl, refl), (first.to, first.spelled, others.spelled));
          level = others.level;
          last = others.last;
          shown = others.shown;
        }

    cond_told : (p : Part) → CondTold p
    cond_told (block n any q c) gap a b from at rest h shows level quiet = absurd (true≢false (sym h.0))
    cond_told (guarded n c d) gap a b from at rest h shows level quiet = absurd (true≢false (sym h.0))
    cond_told (kinds n text c d) gap a b from at rest h shows level quiet = absurd (true≢false (sym h.0))
    cond_told (test n any (query i no_steps) o negated right message) gap a b from at rest (c, o1, (d, begins, (e, hq, more))) shows level quiet = absurd hq
    cond_told (test n any (query i (more_steps p ps)) o negated right message) gap a b from at rest h shows level quiet = test_told false n any i p ps o negated right message (steps_told ps) (right_told right) gap a b from at rest h shows level quiet
    cond_told (refer n negated text message) gap a b from at rest h shows level quiet = refer_told false n negated text message gap a b from at rest h shows level quiet
    cond_told (call n negated text es message) gap a b from at rest h shows level quiet = call_told false n negated text es message (exprs_told es) gap a b from at rest h shows level quiet

    pub query_told : (q : Query) → QueryTold q
    query_told (query n no_steps) gap a b from at rest h shows level quiet = absurd h
    query_told (query n (more_steps p ps)) gap a b from at rest h shows level quiet = query_from gap [] n p ps (steps_told ps) a b from at rest h shows level quiet

    pub steps_told : (ps : Steps) → StepsTold ps
    steps_told no_steps gap a b from at rest h shows level quiet = record {
      value = no_steps;
      same = refl;
      to = from;
      spelled = (ap begins_step (shown_form t from.at at rest shows) ∙ quiet, refl);
      level = level_same a b from h.1 level;
      last = at;
      shown = shows;
    }
    steps_told (more_steps p ps) gap a b from at rest (e, (c, f, g)) shows level quiet =
        let first = step_told p gap a c from at (steps_pieces [] ps rest) f shows level in
        let others = steps_told ps [] c b first.to first.last rest g first.shown first.level quiet in
        record {
          value = more_steps first.value others.value;
          same = join more_steps (unplaced_step first.value) (unplaced_step p) (unplaced_steps others.value) (unplaced_steps ps) first.same others.same;
          to = others.to;
          spelled = (ap begins_step (shown_form t from.at at (step_pieces gap p (steps_pieces [] ps rest)) shows) ∙ (step_first s p a c gap (steps_pieces [] ps rest) f).0, (first.to, first.spelled, others.spelled));
          level = others.level;
          last = others.last;
          shown = others.shown;
        }

    step_told : (p : Step) → StepTold p
    step_told (this n) gap a b from at rest h shows level = absurd h
    step_told (var n text) gap a b from at rest h shows level = absurd h
    step_told (key n text) gap a b from at rest h shows level = key_told n text gap a b from at rest h shows level
    step_told (index n i) gap a b from at rest h shows level = index_told n i gap a b from at rest h shows level
    step_told (every n) gap a b from at rest h shows level = every_told n gap a b from at rest h shows level
    step_told (items n) gap a b from at rest h shows level = items_step_told n gap a b from at rest h shows level
    step_told (splice n bound) gap a b from at rest h shows level = splice_told n bound gap a b from at rest h shows level
    step_told (filter n bound c) gap a b from at rest (c1, o, (c2, f, (c3, g, (c4, h, k)))) shows level =
        let site = site_told s t n a c1 from o level in
        let from1 = opened (t from.at).from from in
        let closing = mark space m.RBracket rest in
        let ends = closing_ends space rest in
        let cap = capture_told bound c2 c3 (past from1) (t from.at).to (conds_pieces space c closing) g shows.2 (level_past c1 c2 from1 f.1 site.1)
        (off_second (is_name (first_form (conds_pieces space c closing))) (is_bar (second_form (conds_pieces space c closing))) (conds_bar c space c3 c4 closing h ends)) in
        let inner = conds_told c space c3 c4 cap.to cap.last closing h cap.shown cap.level ends in
        let end = inner.shown in
        record {
          value = filter n cap.value inner.value;
          same = join (λ (x : Option Named) (y : Conds). filter n x y) (option_map unplaced_name cap.value) (option_map unplaced_name bound) (unplaced_conds inner.value) (unplaced_conds c) cap.same inner.same;
          to = past inner.to;
          spelled = (from1, site.0, (past from1, (passes is_lbracket (t from.at) (Sign m.LBracket) shows.0 refl, refl), (cap.to, cap.spelled, (inner.to, inner.spelled, (passes is_rbracket (t inner.to.at) (Sign m.RBracket) end.0 refl, refl)))));
          level = level_past c4 b inner.to k.1 inner.level;
          last = (t inner.to.at).to;
          shown = end.2;
        }
    step_told (keys n bound o negated e) gap a b from at rest (c1, o1, (c2, f, (c3, g, (c4, h, (c5, u, (c6, v, w)))))) shows level =
        let site = site_told s t n a c1 from o1 level in
        let from1 = opened (t from.at).from from in
        let closing = mark space m.RBracket rest in
        let behind = operator o negated (expr_pieces space e closing) in
        let keyed = name space (codes "keys") behind in
        let cap = capture_told bound c2 c3 (past from1) (t from.at).to keyed g shows.2 (level_past c1 c2 from1 f.1 site.1)
        (off (is_name (first_form keyed)) (is_bar (second_form keyed)) (ap (λ (z : Word). is_name (word_form z)) keys_word)) in
        let word = cap.shown in
        let sign = keys_operator_told s t o negated c4 c5 (past cap.to) (t cap.to.at).to (expr_pieces space e closing) u word.2 (level_past c3 c4 cap.to h.1 cap.level) in
        let inner = expr_told e false space c5 c6 sign.0 sign.3 closing v sign.4 sign.2 refl refl in
        let end = inner.shown in
        record {
          value = keys n cap.value o negated inner.value;
          same = join (λ (x : Option Named) (y : Expr). keys n x o negated y) (option_map unplaced_name cap.value) (option_map unplaced_name bound) (unplaced_expr inner.value) (unplaced_expr e) cap.same inner.same;
          to = past inner.to;
          spelled = (
            from1,
            site.0,
            (
              past from1,
              (passes is_lbracket (t from.at) (Sign m.LBracket) shows.0 refl, refl),
              (
                cap.to,
                cap.spelled,
                (past cap.to, (passes is_keys (t cap.to.at) (Reserved kw.Keys (codes "keys")) (word.0 ∙ keys_word) refl, refl), (sign.0, sign.1, (inner.to, inner.spelled, (passes is_rbracket (t inner.to.at) (Sign m.RBracket) end.0 refl, refl)))),
              ),
            ),
          );
          level = level_past c6 b inner.to w.1 inner.level;
          last = (t inner.to.at).to;
          shown = end.2;
        }

    pub expr_told : (e : Expr) → ExprTold e
    expr_told (literal n tree) lone gap a b from at rest (lit, (c, o, h)) shows level step paren =
        let site = site_told s t n a c from o level in
        let from1 = opened (t from.at).from from in
        let inner = literal_told s t reads tree gap c b from1 at rest h shows site.1 in
        record {
          value = literal n inner.value;
          same = ap (λ (z : Forest). literal n z) inner.same;
          to = inner.to;
          spelled = (literal_begins t inner.value from1 inner.to inner.last rest inner.spelled inner.shown paren, (from1, site.0, inner.spelled));
          level = inner.level;
          last = inner.last;
          shown = inner.shown;
        }
    expr_told (function n text es) lone gap a b from at rest (free, (c, o, (d, f, (e, g, (z, h, k))))) shows level step paren =
        let site = site_told s t n a c from o level in
        let from1 = opened (t from.at).from from in
        let w = named_shown c.at from.at text f.0 f.1 shows.0 in
        let inner = exprs_told es e z (past (past from1)) (t (suc from.at)).to (mark [] m.RParen rest) h shows.2.2 (level_past d e (past from1) g.1 (level_past c d from1 f.2 site.1)) refl in
        let end = inner.shown in
        let opening : is_lparen (form (t (suc from.at))) ≡ true = passes is_lparen (t (suc from.at)) (Sign m.LParen) shows.2.0 refl in
        let named : is_any_name (form (t from.at)) ≡ true = named_passes is_any_name c.at from.at f.0 w in
        record {
          value = function n text inner.value;
          same = ap (λ (y : Exprs). function n text y) inner.same;
          to = past inner.to;
          spelled = (
            no_literal t (t from.at) (t (suc from.at)) (apart is_any_name is_plain (t from.at) refl named) (spaced t (t from.at) (t (suc from.at)) text (s c.at).word w f.0 f.1 shows.2.1)
                (off_second (is_constant (form (t from.at))) (not (is_lparen (form (t (suc from.at))))) (ap not opening)),
            (from1, site.0, (past from1, (named, named_text c.at from.at text f.1 w, refl), (past (past from1), (opening, refl), (inner.to, inner.spelled, (passes is_rparen (t inner.to.at) (Sign m.RParen) end.0 refl, refl))))),
          );
          level = level_past z b inner.to k.1 inner.level;
          last = (t inner.to.at).to;
          shown = end.2;
        }
    expr_told (asked (query n no_steps)) lone gap a b from at rest (free, (na, h)) shows level step paren = absurd h
    expr_told (asked (query n (more_steps p ps))) lone gap a b from at rest (free, (na, h)) shows level step paren =
        let begins = asked_begins n p ps gap a b from at rest free h shows level step paren in
        let inner = query_from gap (space_within p ps) n p ps (steps_told ps) a b from at rest h shows level step in
        record {
          value = asked inner.value;
          same = ap asked inner.same;
          to = inner.to;
          spelled = (begins.0, (begins.1, inner.spelled));
          level = inner.level;
          last = inner.last;
          shown = inner.shown;
        }
    expr_told (found n q) lone gap a b from at rest (alone, (na, (c, o, (d, f, g)))) shows level step paren =
        let site = site_told s t n a c from o level in
        let from1 = opened (t from.at).from from in
        let inner = query_told q space d b (past from1) (t from.at).to rest g shows.2 (level_past c d from1 f.1 site.1) step in
        let next : is_lparen (form (t (suc from.at))) ≡ false = ap is_lparen (shown_form t (suc from.at) (t from.at).to (query_pieces space q rest) shows.2) ∙ query_first is_lparen q space d b rest refl g in
        record {
          value = found n inner.value;
          same = ap (λ (z : Query). found n z) inner.same;
          to = inner.to;
          spelled = (
            alone,
            (
              off_second (is_any_name (form (t from.at))) (is_lparen (form (t (suc from.at)))) next,
              (from1, site.0, (past from1, (passes is_some_word (t from.at) (Reserved kw.Some (codes "some")) (shows.0 ∙ some_word) refl, refl), inner.spelled)),
            ),
          );
          level = inner.level;
          last = inner.last;
          shown = inner.shown;
        }

    pub right_told : (e : OptExpr) → RightTold e
    right_told no_expr o a b from at rest h shows level step paren = record {
      value = no_expr;
      same = refl;
      to = from;
      spelled = (h.0, refl);
      level = level_same a b from h.1 level;
      last = at;
      shown = shows;
    }
    right_told (with_expr e) o a b from at rest (binary, h) shows level step paren =
        let inner = expr_told e false space a b from at rest h shows level step paren in
        record {
          value = with_expr inner.value;
          same = ap with_expr inner.same;
          to = inner.to;
          spelled = (binary, inner.spelled);
          level = inner.level;
          last = inner.last;
          shown = inner.shown;
        }

    pub exprs_told : (es : Exprs) → ExprsTold es
    exprs_told no_exprs a b from at rest h shows level first = absurd h
    exprs_told (more_exprs e es) a b from at rest (c, f, g) shows level first =
        let behind = exprs_behind es rest first in
        let one = expr_told e false [] a c from at (more_exprs_pieces es rest) f shows level behind.0 behind.1 in
        let others = more_exprs_told es c b one.to one.last rest g one.shown one.level first in
        record {
          value = more_exprs one.value others.value;
          same = join more_exprs (unplaced_expr one.value) (unplaced_expr e) (unplaced_exprs others.value) (unplaced_exprs es) one.same others.same;
          to = others.to;
          spelled = (one.to, one.spelled, others.spelled);
          level = others.level;
          last = others.last;
          shown = others.shown;
        }

    more_exprs_told : (es : Exprs) → MoreExprsTold es
    more_exprs_told no_exprs a b from at rest h shows level first = record {
      value = no_exprs;
      same = refl;
      to = from;
      spelled = (ap is_comma (shown_form t from.at at rest shows ∙ first), refl);
      level = level_same a b from h.1 level;
      last = at;
      shown = shows;
    }
    more_exprs_told (more_exprs e es) a b from at rest (d, x, (c, f, g)) shows level first =
        let behind = exprs_behind es rest first in
        let one = expr_told e false space d c (past from) (t from.at).to (more_exprs_pieces es rest) f shows.2 (level_past a d from x.1 level) behind.0 behind.1 in
        let others = more_exprs_told es c b one.to one.last rest g one.shown one.level first in
        record {
          value = more_exprs one.value others.value;
          same = join more_exprs (unplaced_expr one.value) (unplaced_expr e) (unplaced_exprs others.value) (unplaced_exprs es) one.same others.same;
          to = others.to;
          spelled = (past from, (passes is_comma (t from.at) (Sign m.Comma) shows.0 refl, refl), (one.to, one.spelled, others.spelled));
          level = others.level;
          last = others.last;
          shown = others.shown;
        }
