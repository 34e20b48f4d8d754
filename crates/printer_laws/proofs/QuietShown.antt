-- What stands behind a part in a canonical text lets no list and no option of the part go on.
use Rattle.std.proofs.Common.{◌≡◌, inl, inr, ℕ, suc, ◌+◌, Bool, true, false, not, ◌&&◌, ◌||◌, if◌then◌else◌, List, [], ◌++◌, length, codes, bytes_eq, refl, sym, ap, ◌∙◌, subst, true≢false, arith}
use Rattle.std.specs.Prelude.{◌==◌}
use Rattle.std.proofs.lemmas.Bool.Decides.{nat_tests}
use Rattle.doc_values.specs.Tree.{Forest, Nil, Node}
use Rattle.guard_lexer.specs.declared.token.Mark.TheVariants as m
use Rattle.guard_lexer.specs.declared.token.TokenKind.TheVariants as k
use Rattle.guard_syntax.specs.Syntax.{Disjs, Disj, Parts, Part, Step, no_disjs, more_disjs, disj, no_parts, more_parts, block, guarded, kinds, test, refer, call, query, no_steps, more_steps, this, var, key, index, every, items, splice, filter, keys}
use Rattle.literal_parser.specs.declared.keyword.Keyword.TheVariants as kw
use Rattle.literal_parser.specs.Lexemes.{Lexeme, Word, Name, Reserved, TypeName, Var, Str, Pat, Whole, Fraction, Note, Sign, End, word_of}
use Rattle.literal_parser.specs.Forms.{form, word_form, name_form, is_name, is_any_name, is_r, is_neg, is_or, is_operator_word, is_bar, is_note, is_lparen, is_lbracket, is_lbrace, is_scalar, is_constant, is_plain, is_opening_end, is_literal, begins_step, begins_cond, begins_query, leads, opens_range, text_of, text_in}
use Rattle.literal_parser.specs.States.{State}
use Rattle.literal_parser.specs.Literal.{IsLiteral}
use Rattle.literal_parser.proofs.Apart.{apart, implied, denied}
use Rattle.guard_parser.specs.Grammar.{IsStart, IsPart, IsDisjs}
use Rattle.rule_spelling.specs.code.Pieces.{Piece}
use Rattle.rule_words.specs.WordText.{is_free_name, space_behind}
use Rattle.rule_printer.specs.code.RulePieces.{name, str, mark, space, start, step_pieces, steps_pieces, cond_pieces, operator, note, opt_expr_pieces, exprs_pieces, more_alternatives_pieces, more_disjs_pieces}
use Rattle.printer_laws.specs.code.Shown.{IsQuotable, IsReadBack, IsQuiet, Shows, first_form, second_form}
use Rattle.printer_laws.proofs.Showing.{fails, shown_form, is_name-form, no_mark, no_whole, no_keyword}
use Rattle.printer_laws.proofs.WordsShown.{any_name_back, var_back, free_word, this_word, or_word, not_word, some_word}
use Rattle.printer_laws.proofs.StartsShown.{start_word, quotable_first}

-- ---- one word

-- what could go on with a part
abbrev pub troubles : Bool → ℕ → Bool
troubles full n = begins_step n || (is_lparen n || (is_note n || (is_bar n || leads full n)))

abbrev one_of : Word → Lexeme
one_of w = record { word = w; from = 0; to = 0 }

pub neither : (a b : Bool) → a ≡ false → b ≡ false → a || b ≡ false
neither false b p q = q
neither true b p q = p

leads_denied : (full : Bool) (x : Lexeme) → troubles full (form x) ≡ false → leads full (form x) ≡ false
leads_denied true x e = denied (leads true) (troubles true) x refl e
leads_denied false x e = denied (leads false) (troubles false) x refl e

step_denied : (full : Bool) (x : Lexeme) → troubles full (form x) ≡ false → begins_step (form x) ≡ false
step_denied true x e = denied begins_step (troubles true) x refl e
step_denied false x e = denied begins_step (troubles false) x refl e

paren_denied : (full : Bool) (x : Lexeme) → troubles full (form x) ≡ false → is_lparen (form x) ≡ false
paren_denied true x e = denied is_lparen (troubles true) x refl e
paren_denied false x e = denied is_lparen (troubles false) x refl e

note_denied : (full : Bool) (x : Lexeme) → troubles full (form x) ≡ false → is_note (form x) ≡ false
note_denied true x e = denied is_note (troubles true) x refl e
note_denied false x e = denied is_note (troubles false) x refl e

bar_denied : (full : Bool) (x : Lexeme) → troubles full (form x) ≡ false → is_bar (form x) ≡ false
bar_denied true x e = denied is_bar (troubles true) x refl e
bar_denied false x e = denied is_bar (troubles false) x refl e

quiet_lexeme : (full : Bool) (x : Lexeme) (z : ℕ) → troubles full (form x) ≡ false → (is_neg (form x) && is_operator_word z) ≡ false → IsQuiet full (form x) z
quiet_lexeme full x z e p = record {
  step = step_denied full x e;
  paren = paren_denied full x e;
  note = note_denied full x e;
  bar = bar_denied full x e;
  led = neither (leads full (form x)) (is_neg (form x) && is_operator_word z) (leads_denied full x e) p;
}

-- a form that is that of a word
pub quiet_word : (full : Bool) (v z : ℕ) (w : Word) → v ≡ word_form w → troubles full (word_form w) ≡ false → (is_neg (word_form w) && is_operator_word z) ≡ false → IsQuiet full v z
quiet_word full v z w same e p = subst (λ (n : ℕ). IsQuiet full n z) (sym same) (quiet_lexeme full (one_of w) z e p)

pub off : (a b : Bool) → a ≡ false → a && b ≡ false
off false b e = refl
off true b e = absurd (true≢false e)

pub off_second : (a b : Bool) → b ≡ false → a && b ≡ false
off_second true b e = e
off_second false b e = refl

query_quiet : (full : Bool) (w : Word) → begins_query (word_form w) ≡ true → troubles full (word_form w) ≡ false
query_quiet true w e = apart begins_query (troubles true) (one_of w) refl e
query_quiet false w e = apart begins_query (troubles false) (one_of w) refl e

neg_quiet : (full : Bool) (w : Word) → is_neg (word_form w) ≡ true → troubles full (word_form w) ≡ false
neg_quiet true w e = apart is_neg (troubles true) (one_of w) refl e
neg_quiet false w e = apart is_neg (troubles false) (one_of w) refl e

some_quiet : (full : Bool) → troubles full (word_form (Reserved kw.Some (codes "some"))) ≡ false
some_quiet true = refl
some_quiet false = refl

or_quiet : (full : Bool) → troubles full (word_form (Reserved kw.Or (codes "or"))) ≡ false
or_quiet true = refl
or_quiet false = refl

-- ---- how a query begins

start_begins_key : (b : Bool) (text : List ℕ) → begins_query (word_form (if b then Name text else Str text)) ≡ true
start_begins_key true text = implied is_name begins_query (one_of (Name text)) refl (is_name-form text)
start_begins_key false text = refl

pub start_begins : (s : ℕ → Lexeme) (p : Step) (a b : State) → IsStart s p a b → begins_query (word_form (start_word p)) ≡ true
start_begins s (this n) a b h = refl
start_begins s (var n text) a b h = refl
start_begins s (key n text) a b h = start_begins_key (is_free_name text) text
start_begins s (index n i) a b h = absurd h
start_begins s (every n) a b h = absurd h
start_begins s (items n) a b h = absurd h
start_begins s (splice n bound) a b h = absurd h
start_begins s (filter n bound c) a b h = absurd h
start_begins s (keys n bound o negated e) a b h = absurd h

module _ (s : ℕ → Lexeme) (reads : (i : ℕ) → IsReadBack (s i).word) where
  -- a name of the source is the same word again
  pub name_again : (i : ℕ) (text : List ℕ) → is_any_name (form (s i)) ≡ true → text ≡ text_of (s i) → word_of k.Name text ≡ (s i).word
  name_again i text p e = ap (λ (x : List ℕ). word_of k.Name x) e ∙ any_name_back (s i).word (reads i) p

  key_first : (b : Bool) (gap text : List ℕ) (rest : List Piece) → is_free_name text ≡ b → IsQuotable text
      → (first_form (if b then name gap text rest else str gap text rest) ≡ word_form (if b then Name text else Str text)) × (second_form (if b then name gap text rest else str gap text rest) ≡ first_form rest)
  key_first true gap text rest e q = (ap word_form (free_word text e), refl)
  key_first false gap text rest e q = (ap word_form q, refl)

  -- the forms of the first two lexemes of a query
  pub start_first : (p : Step) (gap : List ℕ) (a b : State) (rest : List Piece) → IsStart s p a b
      → (first_form (start gap p (step_pieces gap p rest) rest) ≡ word_form (start_word p)) × (second_form (start gap p (step_pieces gap p rest) rest) ≡ first_form rest)
  start_first (this n) gap a b rest h = (ap word_form this_word, refl)
  start_first (var n text) gap a b rest (c, o, f) = (ap word_form (subst (λ (x : List ℕ). word_of k.Var (codes "%" ++ x) ≡ Var x) (sym f.1) (var_back (s c.at).word (reads c.at) f.0)), refl)
  start_first (key n text) gap a b rest (c, o, f) = key_first (is_free_name text) gap text rest refl (quotable_first s reads c.at text f.0 f.1)
  start_first (index n i) gap a b rest h = absurd h
  start_first (every n) gap a b rest h = absurd h
  start_first (items n) gap a b rest h = absurd h
  start_first (splice n bound) gap a b rest h = absurd h
  start_first (filter n bound c) gap a b rest h = absurd h
  start_first (keys n bound o negated e) gap a b rest h = absurd h

  -- a condition, with which conditions can begin and go on
  abbrev Begins : Bool → List Piece → Type 0
  Begins full ps = IsQuiet full (first_form ps) (second_form ps) × (is_or (first_form ps) ≡ false) × (begins_cond (first_form ps) ≡ true)

  pub begins_as : (full : Bool) (v z : ℕ) (w : Word) → v ≡ word_form w → troubles full (word_form w) ≡ false → (is_neg (word_form w) && is_operator_word z) ≡ false → begins_cond (word_form w) ≡ true
      → IsQuiet full v z × (is_or v ≡ false) × (begins_cond v ≡ true)
  begins_as full v z w same e p c =
      (quiet_word full v z w same e p, ap is_or same ∙ apart begins_cond is_or (one_of w) refl c, ap begins_cond same ∙ c)

  pub begins_query_as : (full : Bool) (v z : ℕ) (w : Word) → v ≡ word_form w → begins_query (word_form w) ≡ true → IsQuiet full v z × (is_or v ≡ false) × (begins_cond v ≡ true)
  begins_query_as full v z w same e =
      begins_as full v z w same (query_quiet full w e) (off (is_neg (word_form w)) (is_operator_word z) (apart begins_query is_neg (one_of w) refl e)) (implied begins_query begins_cond (one_of w) refl e)

  name_begins_query : (w : Word) → is_name (word_form w) ≡ true → begins_query (word_form w) ≡ true
  name_begins_query w e = implied is_name begins_query (one_of w) refl e

  -- how a reference or a call begins
  named_begins : (full : Bool) (i : ℕ) (gap text : List ℕ) (rest : List Piece) → is_name (form (s i)) ≡ true → text ≡ text_of (s i) → Begins full (name gap text rest)
  named_begins full i gap text rest p e =
      let w = name_again i text (implied is_name is_any_name (s i) refl p) e in
      begins_query_as full _ (first_form rest) (s i).word (ap word_form w) (name_begins_query (s i).word p)

  not_begins : (full : Bool) (i : ℕ) (gap text : List ℕ) (rest : List Piece) → is_name (form (s i)) ≡ true → text ≡ text_of (s i) → Begins full (name gap (codes "not") (name space text rest))
  not_begins full i gap text rest p e =
      let w = name_again i text (implied is_name is_any_name (s i) refl p) e in
      begins_as full _ _ (Reserved kw.Not (codes "not")) (ap word_form not_word) (neg_quiet full (Reserved kw.Not (codes "not")) refl) (ap (λ (x : Word). is_operator_word (word_form x)) w ∙ apart is_name is_operator_word (s i) refl p) refl

  -- what is no block
  abbrev pub IsCondition : Part → Type 0
  IsCondition (test n any q o negated right message) = Unit {0}
  IsCondition (refer n negated text message) = Unit {0}
  IsCondition (call n negated text es message) = Unit {0}
  IsCondition p = ⊥

  -- how a condition begins
  pub cond_begins_in : (full shape : Bool) (p : Part) → IsCondition p → (gap : List ℕ) (a b : State) (rest : List Piece) → IsPart s shape p a b → Begins full (cond_pieces gap p rest)
  cond_begins_in full shape (block n any q c) is gap a b rest h = absurd is
  cond_begins_in full shape (guarded n c d) is gap a b rest h = absurd is
  cond_begins_in full shape (kinds n text c d) is gap a b rest h = absurd is
  cond_begins_in full shape (test n true q o negated right message) is gap a b rest h = begins_as full _ _ (Reserved kw.Some (codes "some")) (ap word_form some_word) (some_quiet full) refl refl
  cond_begins_in full shape (test n false (query i no_steps) o negated right message) is gap a b rest (c, o1, (d, any, (e, hq, more))) = absurd hq
  cond_begins_in full shape (test n false (query i (more_steps p ps)) o negated right message) is gap a b rest (c, o1, (d, any, (e, (f, o2, (g, hs, hss)), more))) =
      begins_query_as full _ _ (start_word p) (start_first p gap f g (steps_pieces [] ps (operator o negated (opt_expr_pieces right (note message rest)))) hs).0 (start_begins s p f g hs)
  cond_begins_in full shape (refer n true text message) is gap a b rest (c, o1, (d, nots, (e, f, more))) = not_begins full d.at gap text (note message rest) f.0 f.1
  cond_begins_in full shape (refer n false text message) is gap a b rest (c, o1, (d, nots, (e, f, more))) = named_begins full d.at gap text (note message rest) f.0 f.1
  cond_begins_in full shape (call n true text es message) is gap a b rest (c, o1, (d, nots, (e, f, more))) = not_begins full d.at gap text (mark [] m.LParen (exprs_pieces es (mark [] m.RParen (note message rest)))) f.0 f.1
  cond_begins_in full shape (call n false text es message) is gap a b rest (c, o1, (d, nots, (e, f, more))) = named_begins full d.at gap text (mark [] m.LParen (exprs_pieces es (mark [] m.RParen (note message rest)))) f.0 f.1

  pub cond_begins : (full : Bool) (p : Part) (gap : List ℕ) (a b : State) (rest : List Piece) → IsPart s false p a b → Begins full (cond_pieces gap p rest)
  cond_begins full (block n any q c) gap a b rest h = absurd (true≢false (sym h.0))
  cond_begins full (guarded n c d) gap a b rest h = absurd (true≢false (sym h.0))
  cond_begins full (kinds n text c d) gap a b rest h = absurd (true≢false (sym h.0))
  cond_begins full (test n any q o negated right message) gap a b rest h = cond_begins_in full false (test n any q o negated right message) tt gap a b rest h
  cond_begins full (refer n negated text message) gap a b rest h = cond_begins_in full false (refer n negated text message) tt gap a b rest h
  cond_begins full (call n negated text es message) gap a b rest h = cond_begins_in full false (call n negated text es message) tt gap a b rest h

  -- ---- what stands behind parts

  -- behind the parts of a condition, and behind conditions
  abbrev pub EndsParts : Bool → List Piece → Type 0
  EndsParts full ps = IsQuiet full (first_form ps) (second_form ps) × (is_or (first_form ps) ≡ false)

  abbrev pub EndsConds : List Piece → Type 0
  EndsConds ps = IsQuiet false (first_form ps) (second_form ps) × (is_or (first_form ps) ≡ false) × (begins_cond (first_form ps) ≡ false)

  pub or_quiet_pieces : (full : Bool) (gap : List ℕ) (rest : List Piece) → IsQuiet full (first_form (name gap (codes "or") rest)) (second_form (name gap (codes "or") rest))
  or_quiet_pieces full gap rest = quiet_word full _ _ (Reserved kw.Or (codes "or")) (ap word_form or_word) (or_quiet full) refl

  pub behind_part : (ps : Parts) (rest : List Piece) → EndsParts false rest → IsQuiet false (first_form (more_alternatives_pieces ps rest)) (second_form (more_alternatives_pieces ps rest))
  behind_part no_parts rest ends = ends.0
  behind_part (more_parts p ps) rest ends = or_quiet_pieces false space (cond_pieces space p (more_alternatives_pieces ps rest))

  pub disjs_begin : (d : Disj) (a b : State) (rest : List Piece) (ds : Disjs) → IsDisjs s (more_disjs d ds) a b → Begins false (more_disjs_pieces (more_disjs d ds) rest)
  disjs_begin (disj n no_parts) a b rest ds (e, (c, f, g)) = absurd f
  disjs_begin (disj n (more_parts p ps)) a b rest ds (e, (c, (d, o, (z, h, k)), g)) = cond_begins false p space d z (more_alternatives_pieces ps (more_disjs_pieces ds rest)) h

  pub behind_disj : (ds : Disjs) (a b : State) (rest : List Piece) → IsDisjs s ds a b → EndsConds rest → EndsParts false (more_disjs_pieces ds rest)
  behind_disj no_disjs a b rest h ends = (ends.0, ends.1)
  behind_disj (more_disjs d ds) a b rest h ends = let begins = disjs_begin d a b rest ds h in (begins.0, begins.1)

-- ---- expressions

module _ (t : ℕ → Lexeme) where
  abbrev plain_or_constant : ℕ → Bool
  plain_or_constant n = is_scalar n && not (is_constant n)

  or_at_once : (a b : Bool) → a ≡ true → a || b ≡ true
  or_at_once true b e = refl
  or_at_once false b e = absurd (true≢false (sym e))

  or_later : (a b : Bool) → b ≡ true → a || b ≡ true
  or_later true b e = refl
  or_later false b e = e

  -- where a literal is spelled one begins
  pub literal_begins : (tree : Forest) (from to : State) (last : ℕ) (rest : List Piece) → IsLiteral t tree from to → Shows t to.at last rest → is_lparen (first_form rest) ≡ false → is_literal (t from.at) (t (suc from.at)) ≡ true
  literal_begins Nil from to last rest h shows quiet = absurd h
  literal_begins (Node l kids (Node n others more)) from to last rest h shows quiet = absurd h
  literal_begins (Node l kids Nil) from to last rest (inl h) shows quiet = by (is_constant (form (t from.at))) refl where
    next : is_lparen (form (t (suc from.at))) ≡ false
    next = subst (λ (i : ℕ). is_lparen (form (t i)) ≡ false) (ap (λ (z : State). z.at) h.1.2) (ap is_lparen (shown_form t to.at last rest shows) ∙ quiet)

    by : (v : Bool) → is_constant (form (t from.at)) ≡ v → is_literal (t from.at) (t (suc from.at)) ≡ true
    by true e = or_later (is_plain (form (t from.at))) _ (or_later (opens_range (t from.at) (t (suc from.at))) _ (ap (λ (b : Bool). b && not (is_lparen (form (t (suc from.at))))) e ∙ ap not next))
    by false e = or_at_once (is_plain (form (t from.at))) _ (implied plain_or_constant is_plain (t from.at) refl (ap (λ (b : Bool). b && not (is_constant (form (t from.at)))) h.1.0 ∙ ap not e))
  literal_begins (Node l kids Nil) from to last rest (inr (inl (r, k, e, (c, (o, more), d)))) shows quiet = or_later (is_plain (form (t from.at))) _ (or_at_once (opens_range (t from.at) (t (suc from.at))) _ o)
  literal_begins (Node l kids Nil) from to last rest (inr (inr (inl (c, f, more)))) shows quiet = or_at_once (is_plain (form (t from.at))) _ (implied is_lbracket is_plain (t from.at) refl f.0)
  literal_begins (Node l kids Nil) from to last rest (inr (inr (inr (c, f, more)))) shows quiet = or_at_once (is_plain (form (t from.at))) _ (implied is_lbrace is_plain (t from.at) refl f.0)

  -- where what stands first is no literal by itself, and opens no range
  pub no_literal : (x y : Lexeme) → is_plain (form x) ≡ false → opens_range x y ≡ false → (is_constant (form x) && not (is_lparen (form y))) ≡ false → is_literal x y ≡ false
  no_literal x y p q r = neither (is_plain (form x)) _ p (neither (opens_range x y) _ q r)

  -- behind a space
  pub apart_from : (x at : ℕ) → x ≡ at + 1 → x == at ≡ false
  apart_from x at h = grind (arith, nat_tests)

  -- the name `r` with a space behind it opens no range
  pub spaced : (x y : Lexeme) (text : List ℕ) (w : Word) → x.word ≡ w → is_any_name (word_form w) ≡ true → text ≡ text_in w → y.from ≡ x.to + length (space_behind text) → opens_range x y ≡ false
  spaced x y text w e p q h = by (bytes_eq text (codes "r")) refl w e p q where
    r_by : (own : List ℕ) → bytes_eq own (codes "r") ≡ false → is_r (name_form own) ≡ false
    r_by own e = ap (λ (b : Bool). is_r (if b then 60 else (if bytes_eq own (codes "default") then 61 else 1))) e ∙ other (bytes_eq own (codes "default")) where
      other : (b : Bool) → is_r (if b then 61 else 1) ≡ false
      other true = refl
      other false = refl

    not_r : (w : Word) → is_any_name (word_form w) ≡ true → bytes_eq (text_in w) (codes "r") ≡ false → is_r (word_form w) ≡ false
    not_r (Name own) p e = r_by own e
    not_r (Reserved keyword own) p e = by_test (is_r (word_form (Reserved keyword own))) refl where
      by_test : (v : Bool) → is_r (word_form (Reserved keyword own)) ≡ v → is_r (word_form (Reserved keyword own)) ≡ false
      by_test false e = e
      by_test true e = absurd (no_keyword is_r keyword own refl e)
    not_r (TypeName own) p e = refl
    not_r (Var own) p e = refl
    not_r (Str own) p e = refl
    not_r (Pat own) p e = refl
    not_r (Whole n) p e = absurd (no_whole is_any_name n refl p)
    not_r (Fraction d) p e = refl
    not_r (Note own) p e = refl
    not_r (Sign sign) p e = absurd (no_mark is_any_name sign refl p)
    not_r End p e = refl

    by : (v : Bool) → bytes_eq text (codes "r") ≡ v → (w : Word) → x.word ≡ w → is_any_name (word_form w) ≡ true → text ≡ text_in w → opens_range x y ≡ false
    by true same w e p q =
        let far : y.from ≡ x.to + 1 = h ∙ ap (λ (b : Bool). x.to + length (if b then codes " " else [])) same in
        off_second (is_r (form x)) _ (off_second (is_opening_end (form y)) _ (apart_from y.from x.to far))
    by false same w e p q = off (is_r (form x)) _ (fails is_r x w e (not_r w p (ap (λ (z : List ℕ). bytes_eq z (codes "r")) (sym q) ∙ same)))
