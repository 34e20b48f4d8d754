-- How queries and parts begin in a canonical text, and what stands behind them.
use Rattle.std.proofs.Common.{◌≡◌, ℕ, suc, Bool, true, false, ◌&&◌, ◌||◌, if◌then◌else◌, List, [], ◌++◌, codes, refl, sym, ap, ◌∙◌, subst, true≢false}
use Rattle.std.specs.Prelude.{◌==◌}
use Rattle.guard_lexer.specs.declared.token.Mark.TheVariants as m
use Rattle.guard_lexer.specs.declared.token.TokenKind.TheVariants as k
use Rattle.guard_syntax.specs.declared.syntax.Op.{Op}
use Rattle.guard_syntax.specs.Syntax.{Step, Steps, no_steps, more_steps, this, var, key, index, every, items, splice, filter, keys}
use Rattle.literal_parser.specs.declared.keyword.Keyword.TheVariants as kw
use Rattle.literal_parser.specs.Lexemes.{Lexeme, Word, Name, Reserved, Var, Str, Sign, End, word_of}
use Rattle.literal_parser.specs.Forms.{form, word_form, name_form, is_name, is_var, is_str, is_this, is_first_key, is_neg, is_sign, is_operator_word, is_bar, is_lparen, begins_step, is_start, leads, goes_on, is_led, text_in, text_of}
use Rattle.literal_parser.specs.States.{State, Opens, past, opened}
use Rattle.guard_parser.specs.Grammar.{IsStart, IsStep, IsSteps}
use Rattle.rule_spelling.specs.code.Pieces.{Piece}
use Rattle.rule_words.specs.WordText.{is_free_name}
use Rattle.rule_printer.specs.code.RulePieces.{operator, start, step_pieces, steps_pieces}
use Rattle.printer_laws.specs.code.Shown.{IsQuotable, IsReadBack, IsLevel, Shows, first_form}
use Rattle.printer_laws.proofs.Showing.{level_past, level_opened, passes, shown_form, is_name-form}
use Rattle.printer_laws.proofs.LiteralsShown.{quotable_key}
use Rattle.printer_laws.proofs.WordsShown.{var_back, this_word, first_key_shown, plain_word, plain_spelled, is_worded, worded_negated, worded_test, signed_shown, signed_word, signed_test, is_allowed}

-- ---- sites

module _ (s t : ℕ → Lexeme) where
  pub site_told : (n : ℕ) (a c from : State) → Opens s n a c → IsLevel a from → Opens t n from (opened (t from.at).from from) × IsLevel c (opened (t from.at).from from)
  site_told n a c from o level = ((o.0 ∙ sym level.sites, refl), level_opened a c from (s a.at).from (t from.at).from o.1 level)

-- ---- the first step

-- the word that a query begins with
abbrev pub start_word : Step → Word
start_word (this n) = Reserved kw.This (codes "this")
start_word (var n text) = Var text
start_word (key n text) = if is_free_name text then Name text else Str text
start_word p = End

first_word : (b : Bool) (text : List ℕ) → (is_first_key (word_form (if b then Name text else Str text)) ≡ true) × (text_in (if b then Name text else Str text) ≡ text)
first_word true text = (ap (λ (b : Bool). b || is_str (name_form text)) (is_name-form text), refl)
first_word false text = (refl, refl)

pub quotable_first : (s : ℕ → Lexeme) (reads : (i : ℕ) → IsReadBack (s i).word) (i : ℕ) (text : List ℕ) → is_first_key (form (s i)) ≡ true → text ≡ text_of (s i) → IsQuotable text
quotable_first s reads i text p e = subst IsQuotable (sym e) (quotable_key (s i).word (reads i) (first_is_key (is_name (form (s i))) (is_str (form (s i))) _ p)) where
  first_is_key : (a b c : Bool) → a || b ≡ true → (a || c) || b ≡ true
  first_is_key true b c e = refl
  first_is_key false true true e = refl
  first_is_key false true false e = refl
  first_is_key false false c e = absurd (true≢false (sym e))

module _ (s t : ℕ → Lexeme) (reads : (i : ℕ) → IsReadBack (s i).word) where
  pub start_told : (p : Step) (gap : List ℕ) (a b from : State) (at : ℕ) (rest : List Piece) → IsStart s p a b → Shows t from.at at (start gap p (step_pieces gap p rest) rest) → IsLevel a from
      → let to : State = past (opened (t from.at).from from) in IsStart t p from to × IsLevel b to × ((t from.at).word ≡ start_word p) × Shows t (suc from.at) (t from.at).to rest
  start_told (this n) gap a b from at rest (c, o, f) h level =
      let site = site_told s t n a c from o level in
      let word = h.0 ∙ this_word in
      ((opened (t from.at).from from, site.0, (passes is_this (t from.at) (Reserved kw.This (codes "this")) word refl, refl)), level_past c b (opened (t from.at).from from) f.1 site.1, word, h.2)
  start_told (var n text) gap a b from at rest (c, o, f) h level =
      let site = site_told s t n a c from o level in
      let back = subst (λ (x : List ℕ). word_of k.Var (codes "%" ++ x) ≡ Var x) (sym f.1) (var_back (s c.at).word (reads c.at) f.0) in
      let word : (t from.at).word ≡ Var text = h.0 ∙ back in
      ((opened (t from.at).from from, site.0, (passes is_var (t from.at) (Var text) word refl, sym (ap text_in word), refl)), level_past c b (opened (t from.at).from from) f.2 site.1, word, h.2)
  start_told (key n text) gap a b from at rest (c, o, f) h level =
      let site = site_told s t n a c from o level in
      let shown = first_key_shown t (is_free_name text) gap from.at at text rest refl (quotable_first s reads c.at text f.0 f.1) h in
      let first = first_word (is_free_name text) text in
      ((opened (t from.at).from from, site.0, (passes is_first_key (t from.at) (start_word (key n text)) shown.0 first.0, sym (ap text_in shown.0 ∙ first.1), refl)), level_past c b (opened (t from.at).from from) f.2 site.1, shown.0, shown.1)
  start_told (index n i) gap a b from at rest h shows level = absurd h
  start_told (every n) gap a b from at rest h shows level = absurd h
  start_told (items n) gap a b from at rest h shows level = absurd h
  start_told (splice n bound) gap a b from at rest h shows level = absurd h
  start_told (filter n bound c) gap a b from at rest h shows level = absurd h
  start_told (keys n bound o negated e) gap a b from at rest h shows level = absurd h

-- a further step begins with a dot or a bracket
pub step_first : (s : ℕ → Lexeme) (p : Step) (a b : State) (gap : List ℕ) (rest : List Piece) → IsStep s p a b → (begins_step (first_form (step_pieces gap p rest)) ≡ true) × (is_bar (first_form (step_pieces gap p rest)) ≡ false) × (is_lparen (first_form (step_pieces gap p rest)) ≡ false)
step_first s (this n) a b gap rest h = absurd h
step_first s (var n text) a b gap rest h = absurd h
step_first s (key n text) a b gap rest h = (refl, refl, refl)
step_first s (index n i) a b gap rest h = (refl, refl, refl)
step_first s (every n) a b gap rest h = (refl, refl, refl)
step_first s (items n) a b gap rest h = (refl, refl, refl)
step_first s (splice n bound) a b gap rest h = (refl, refl, refl)
step_first s (filter n bound c) a b gap rest h = (refl, refl, refl)
step_first s (keys n bound o negated e) a b gap rest h = (refl, refl, refl)

-- ---- a query at the start of a part

or_first : (a b : Bool) → a ≡ true → a || b ≡ true
or_first true b e = refl
or_first false b e = absurd (true≢false (sym e))

or_behind : (a b : Bool) → b ≡ true → a || b ≡ true
or_behind true b e = refl
or_behind false b e = e

both_true : (a b : Bool) → a ≡ true → b ≡ true → a && b ≡ true
both_true true b p q = q
both_true false b p q = p

pub step_goes_on : (full : Bool) (y z : ℕ) → begins_step y ≡ true → goes_on full y z ≡ true
step_goes_on full y z e = or_first (leads full y) (is_neg y && is_operator_word z) (or_first (begins_step y) (is_sign y || (is_operator_word y || (full && (y == 10)))) e)

pub sign_goes_on : (full : Bool) (y z : ℕ) → is_sign y ≡ true → goes_on full y z ≡ true
sign_goes_on full y z e = or_first (leads full y) (is_neg y && is_operator_word z) (or_behind (begins_step y) (is_sign y || (is_operator_word y || (full && (y == 10)))) (or_first (is_sign y) (is_operator_word y || (full && (y == 10))) e))

pub word_goes_on : (full : Bool) (y z : ℕ) → is_operator_word y ≡ true → goes_on full y z ≡ true
word_goes_on full y z e = or_first (leads full y) (is_neg y && is_operator_word z)
    (or_behind (begins_step y) (is_sign y || (is_operator_word y || (full && (y == 10)))) (or_behind (is_sign y) (is_operator_word y || (full && (y == 10))) (or_first (is_operator_word y) (full && (y == 10)) e)))

pub neg_goes_on : (full : Bool) (y z : ℕ) → is_neg y ≡ true → is_operator_word z ≡ true → goes_on full y z ≡ true
neg_goes_on full y z p q = or_behind (leads full y) (is_neg y && is_operator_word z) (both_true (is_neg y) (is_operator_word z) p q)

pub name_led : (full : Bool) (x y z : ℕ) → is_name x ≡ true → goes_on full y z ≡ true → is_led full x y z ≡ true
name_led full x y z p q = or_behind (is_start x) (is_name x && goes_on full y z) (both_true (is_name x) (goes_on full y z) p q)

pub start_led : (full : Bool) (x y z : ℕ) → is_start x ≡ true → is_led full x y z ≡ true
start_led full x y z p = or_first (is_start x) (is_name x && goes_on full y z) p

module _ (t : ℕ → Lexeme) where
  -- an operator goes on with a query
  pub operator_goes_on : (full : Bool) (o : Op) (negated : Bool) (i at : ℕ) (rest : List Piece) → is_allowed (o, negated) ≡ true → Shows t i at (operator o negated rest) → goes_on full (form (t i)) (form (t (suc i))) ≡ true
  operator_goes_on full o negated i at rest allowed h = by (is_worded o) refl negated allowed h where
    by : (v : Bool) → is_worded o ≡ v → (negated : Bool) → is_allowed (o, negated) ≡ true → Shows t i at (operator o negated rest) → goes_on full (form (t i)) (form (t (suc i))) ≡ true
    by true e false allowed h = word_goes_on full (form (t i)) (form (t (suc i))) (passes is_operator_word (t i) (plain_word o) (h.0 ∙ plain_spelled o) (worded_test o e).0)
    by true e true allowed h =
        let g = subst (λ (ps : List Piece). Shows t i at ps) (worded_negated o rest e) h in
        neg_goes_on full (form (t i)) (form (t (suc i))) (passes is_neg (t i) (Sign m.Bang) g.0 refl) (passes is_operator_word (t (suc i)) (plain_word o) (g.2.0 ∙ plain_spelled o) (worded_test o e).0)
    by false e negated allowed h =
        let told = signed_shown t o negated i at rest e allowed h in
        sign_goes_on full (form (t i)) (form (t (suc i))) (passes is_sign (t i) (signed_word o negated) told.0 (signed_test o negated e allowed).0)

  -- a query begins a part, where what stands behind it goes on with a name
  pub query_led : (s : ℕ → Lexeme) (full : Bool) (p : Step) (ps : Steps) (a b c d : State) (i at : ℕ) (gap : List ℕ) (rest : List Piece) → IsStart s p a b → IsSteps s ps c d → (t i).word ≡ start_word p → Shows t (suc i) at (steps_pieces gap ps rest)
      → ((j last : ℕ) → Shows t j last rest → goes_on full (form (t j)) (form (t (suc j))) ≡ true) → is_led full (form (t i)) (form (t (suc i))) (form (t (suc (suc i)))) ≡ true
  query_led s full p ps a b c d i at gap rest begun others word shows leads_on = by p begun word where
    goes : (ps : Steps) → IsSteps s ps c d → Shows t (suc i) at (steps_pieces gap ps rest) → goes_on full (form (t (suc i))) (form (t (suc (suc i)))) ≡ true
    goes no_steps others shows = leads_on (suc i) at shows
    goes (more_steps q qs) (e, (z, f, g)) shows =
        step_goes_on full (form (t (suc i))) (form (t (suc (suc i)))) (ap begins_step (shown_form t (suc i) at (step_pieces gap q (steps_pieces [] qs rest)) shows) ∙ (step_first s q c z gap (steps_pieces [] qs rest) f).0)

    by_key : (v : Bool) (text : List ℕ) → (t i).word ≡ (if v then Name text else Str text) → is_led full (form (t i)) (form (t (suc i))) (form (t (suc (suc i)))) ≡ true
    by_key true text word = name_led full (form (t i)) (form (t (suc i))) (form (t (suc (suc i)))) (passes is_name (t i) (Name text) word (is_name-form text)) (goes ps others shows)
    by_key false text word = start_led full (form (t i)) (form (t (suc i))) (form (t (suc (suc i)))) (passes is_start (t i) (Str text) word refl)

    by : (p : Step) → IsStart s p a b → (t i).word ≡ start_word p → is_led full (form (t i)) (form (t (suc i))) (form (t (suc (suc i)))) ≡ true
    by (this n) begun word = start_led full (form (t i)) (form (t (suc i))) (form (t (suc (suc i)))) (passes is_start (t i) (Reserved kw.This (codes "this")) word refl)
    by (var n text) begun word = start_led full (form (t i)) (form (t (suc i))) (form (t (suc (suc i)))) (passes is_start (t i) (Var text) word refl)
    by (key n text) begun word = by_key (is_free_name text) text word
    by (index n i) begun word = absurd begun
    by (every n) begun word = absurd begun
    by (items n) begun word = absurd begun
    by (splice n bound) begun word = absurd begun
    by (filter n bound c) begun word = absurd begun
    by (keys n bound o negated e) begun word = absurd begun
