-- No bracket of a canonical text opens while 128 are open, where no more stand in each other in its syntax: by recursion on the syntax.
use Rattle.std.proofs.Common.{◌≡◌, ℕ, suc, pred, ◌+◌, ◌<◌, ◌≤◌, Bool, true, false, if◌then◌else◌, List, [], ◌∷◌, Option, Some, None, pos, codes, refl, sym, ap, ◌∙◌, subst, true≢false, arith}
use Rattle.doc_values.specs.Tree.{Label, Forest, Nil, Node}
use Rattle.decimals.specs.declared.decimal.Num.{Num}
use Rattle.decimals.specs.declared.decimal.Num.TheVariants as num
use Rattle.decimals.specs.declared.decimal.Range.{Range}
use Rattle.doc_values.specs.declared.kind.Kind.{Kind}
use Rattle.doc_values.specs.declared.kind.Kind.TheVariants as kind
use Rattle.guard_lexer.specs.declared.token.Mark.TheVariants as m
use Rattle.guard_lexer.specs.declared.token.TokenKind.TheVariants as token
use Rattle.guard_syntax.specs.Named.{Named}
use Rattle.guard_syntax.specs.declared.syntax.Op.{Op}
use Rattle.guard_syntax.specs.declared.syntax.Op.TheVariants as op
use Rattle.guard_syntax.specs.Syntax.{Conds, OptConds, Disjs, Disj, Parts, Part, Query, Steps, Step, Expr, OptExpr, Exprs, conds, no_conds, with_conds, no_disjs, more_disjs, disj, no_parts, more_parts, block, guarded, kinds, test, refer, call, query, no_steps, more_steps, this, var, key, index, every, items, splice, filter, keys, literal, function, asked, found, no_expr, with_expr, no_exprs, more_exprs}
use Rattle.literal_parser.specs.Lexemes.{word_of, name_word, keyword_of}
use Rattle.literal_parser.specs.Forms.{word_form, is_opening, is_closing, is_any_name, is_number}
use Rattle.literal_parser.specs.Brackets.{open_behind}
use Rattle.literal_parser.specs.code.LiteralDepth.{is_bracketed, deep_forest}
use Rattle.literal_parser.proofs.Apart.{apart}
use Rattle.literal_parser.proofs.Levels.{is_bracket}
use Rattle.rule_meaning.specs.Functions.{truth_text}
use Rattle.rule_spelling.specs.code.Pieces.{Piece}
use Rattle.rule_words.specs.WordText.{is_name, is_free_name, space_within, space_behind}
use Rattle.rule_printer.specs.code.RulePieces.{space, name, mark, str, number, index_number, name_if, operator, note, capture, opening_end, closing_end, range, value, entry, item_pieces, more_item_pieces, entry_pieces, more_entry_pieces, literal_pieces, start, head, conds_pieces, disjs_pieces, more_disjs_pieces, disj_pieces, alternatives_pieces, more_alternatives_pieces, cond_pieces, query_pieces, asked_pieces, steps_pieces, step_pieces, expr_pieces, opt_expr_pieces, exprs_pieces, more_exprs_pieces, opt_conds_pieces}
use Rattle.printer_laws.specs.code.PrintedDepth.{deep_conds, deep_opt_conds, deep_disjs, deep_disj, deep_parts, deep_part, deep_query, deep_steps, deep_step, deep_expr, deep_opt_expr, deep_exprs}
use Rattle.printer_laws.proofs.Showing.{first_false, second_false, any_name_word, number_word}

-- where so many brackets are open before pieces, none of them opens while 128 are open
abbrev pub HasRoom : ℕ → List Piece → Type 0
HasRoom k [] = Unit {0}
HasRoom k (p ∷ ps) = (is_opening (word_form (word_of p.kind p.text)) ≡ true → k < 128) × HasRoom (open_behind (word_form (word_of p.kind p.text)) k) ps

-- ---- one piece

flat : (n k : ℕ) (ps : List Piece) → is_bracket n ≡ false → HasRoom k ps → (is_opening n ≡ true → k < 128) × HasRoom (open_behind n k) ps
flat n k ps e h =
    let opening = first_false (is_opening n) (is_closing n) e in
    let closing = second_false (is_opening n) (is_closing n) e in
    let same : open_behind n k ≡ k = ap (λ (v : Bool). if v then suc k else (if is_closing n then pred k else k)) opening ∙ ap (λ (v : Bool). if v then pred k else k) closing in
    (λ x. absurd (true≢false (sym x ∙ opening)), subst (λ (j : ℕ). HasRoom j ps) (sym same) h)

pub name_room : (gap text : List ℕ) (k : ℕ) (rest : List Piece) → HasRoom k rest → HasRoom k (name gap text rest)
name_room gap text k rest h = flat (word_form (name_word (keyword_of text) text)) k rest (apart is_any_name is_bracket (record { word = name_word (keyword_of text) text; from = 0; to = 0 }) refl (any_name_word (keyword_of text) text).0) h

number_room : (gap : List ℕ) (n : Num) (k : ℕ) (rest : List Piece) → HasRoom k rest → HasRoom k (number gap n rest)
number_room gap (num.Whole n) k rest h = flat (word_form (word_of (token.Whole n) [])) k rest (apart is_number is_bracket (record { word = word_of (token.Whole n) []; from = 0; to = 0 }) refl (number_word (num.Whole n)).0) h
number_room gap (num.Fraction d) k rest h = (λ e. absurd (true≢false (sym e)), h)

index_room : (i k : ℕ) (rest : List Piece) → HasRoom k rest → HasRoom k (index_number i rest)
index_room i k rest h = flat (word_form (word_of (token.Whole (pos i)) [])) k rest (apart is_number is_bracket (record { word = word_of (token.Whole (pos i)) []; from = 0; to = 0 }) refl (number_word (num.Whole (pos i))).0) h

key_room : (b : Bool) (gap text : List ℕ) (k : ℕ) (rest : List Piece) → HasRoom k rest → HasRoom k (if b then name gap text rest else str gap text rest)
key_room true gap text k rest h = name_room gap text k rest h
key_room false gap text k rest h = (λ e. absurd (true≢false (sym e)), h)

operator_room : (o : Op) (negated : Bool) (k : ℕ) (rest : List Piece) → HasRoom k rest → HasRoom k (operator o negated rest)
operator_room op.Exists false k rest h = name_room space (codes "exists") k rest h
operator_room op.Exists true k rest h = (λ e. absurd (true≢false (sym e)), name_room [] (codes "exists") k rest h)
operator_room op.Empty false k rest h = name_room space (codes "empty") k rest h
operator_room op.Empty true k rest h = (λ e. absurd (true≢false (sym e)), name_room [] (codes "empty") k rest h)
operator_room op.IsString false k rest h = name_room space (codes "is_string") k rest h
operator_room op.IsString true k rest h = (λ e. absurd (true≢false (sym e)), name_room [] (codes "is_string") k rest h)
operator_room op.IsList false k rest h = name_room space (codes "is_list") k rest h
operator_room op.IsList true k rest h = (λ e. absurd (true≢false (sym e)), name_room [] (codes "is_list") k rest h)
operator_room op.IsStruct false k rest h = name_room space (codes "is_struct") k rest h
operator_room op.IsStruct true k rest h = (λ e. absurd (true≢false (sym e)), name_room [] (codes "is_struct") k rest h)
operator_room op.IsBool false k rest h = name_room space (codes "is_bool") k rest h
operator_room op.IsBool true k rest h = (λ e. absurd (true≢false (sym e)), name_room [] (codes "is_bool") k rest h)
operator_room op.IsInt false k rest h = name_room space (codes "is_int") k rest h
operator_room op.IsInt true k rest h = (λ e. absurd (true≢false (sym e)), name_room [] (codes "is_int") k rest h)
operator_room op.IsFloat false k rest h = name_room space (codes "is_float") k rest h
operator_room op.IsFloat true k rest h = (λ e. absurd (true≢false (sym e)), name_room [] (codes "is_float") k rest h)
operator_room op.IsNull false k rest h = name_room space (codes "is_null") k rest h
operator_room op.IsNull true k rest h = (λ e. absurd (true≢false (sym e)), name_room [] (codes "is_null") k rest h)
operator_room op.Eq false k rest h = (λ e. absurd (true≢false (sym e)), h)
operator_room op.Eq true k rest h = (λ e. absurd (true≢false (sym e)), h)
operator_room op.Lt false k rest h = (λ e. absurd (true≢false (sym e)), h)
operator_room op.Lt true k rest h = (λ e. absurd (true≢false (sym e)), (λ e. absurd (true≢false (sym e)), h))
operator_room op.Le false k rest h = (λ e. absurd (true≢false (sym e)), h)
operator_room op.Le true k rest h = (λ e. absurd (true≢false (sym e)), (λ e. absurd (true≢false (sym e)), h))
operator_room op.Gt false k rest h = (λ e. absurd (true≢false (sym e)), h)
operator_room op.Gt true k rest h = (λ e. absurd (true≢false (sym e)), (λ e. absurd (true≢false (sym e)), h))
operator_room op.Ge false k rest h = (λ e. absurd (true≢false (sym e)), h)
operator_room op.Ge true k rest h = (λ e. absurd (true≢false (sym e)), (λ e. absurd (true≢false (sym e)), h))
operator_room op.Within false k rest h = name_room space (codes "IN") k rest h
operator_room op.Within true k rest h = (λ e. absurd (true≢false (sym e)), name_room [] (codes "IN") k rest h)

note_room : (message : Option (List ℕ)) (k : ℕ) (rest : List Piece) → HasRoom k rest → HasRoom k (note message rest)
note_room None k rest h = h
note_room (Some text) k rest h = (λ e. absurd (true≢false (sym e)), h)

capture_room : (bound : Option Named) (k : ℕ) (rest : List Piece) → HasRoom k rest → HasRoom k (capture bound rest)
capture_room None k rest h = h
capture_room (Some n) k rest h = name_room space n.text k (mark space m.Bar rest) (λ e. absurd (true≢false (sym e)), h)

pub if_room : (b : Bool) (gap word : List ℕ) (k : ℕ) (behind : List ℕ → List Piece) → ((g : List ℕ) → HasRoom k (behind g)) → HasRoom k (name_if b gap word behind)
if_room true gap word k behind h = name_room gap word k (behind space) (h space)
if_room false gap word k behind h = h gap

-- ---- literals

range_room : (gap : List ℕ) (low high : Num) (v w : Bool) (k : ℕ) (rest : List Piece) → k < 128 → HasRoom k rest → let r : Range = record { low = low; high = high; low_in = v; high_in = w } in HasRoom k (range gap r rest)
range_room gap low high true true k rest less h =
    let last = mark [] (closing_end true) rest in
    let upper = number [] high last in
    let comma = mark [] m.Comma upper in
    let lower = number [] low comma in
    name_room gap (codes "r") k (mark [] (opening_end true) lower) (λ e. less, number_room [] low (suc k) comma (λ e. absurd (true≢false (sym e)), number_room [] high (suc k) last (λ e. absurd (true≢false (sym e)), h)))
range_room gap low high true false k rest less h =
    let last = mark [] (closing_end false) rest in
    let upper = number [] high last in
    let comma = mark [] m.Comma upper in
    let lower = number [] low comma in
    name_room gap (codes "r") k (mark [] (opening_end true) lower) (λ e. less, number_room [] low (suc k) comma (λ e. absurd (true≢false (sym e)), number_room [] high (suc k) last (λ e. absurd (true≢false (sym e)), h)))
range_room gap low high false true k rest less h =
    let last = mark [] (closing_end true) rest in
    let upper = number [] high last in
    let comma = mark [] m.Comma upper in
    let lower = number [] low comma in
    name_room gap (codes "r") k (mark [] (opening_end false) lower) (λ e. less, number_room [] low (suc k) comma (λ e. absurd (true≢false (sym e)), number_room [] high (suc k) last (λ e. absurd (true≢false (sym e)), h)))
range_room gap low high false false k rest less h =
    let last = mark [] (closing_end false) rest in
    let upper = number [] high last in
    let comma = mark [] m.Comma upper in
    let lower = number [] low comma in
    name_room gap (codes "r") k (mark [] (opening_end false) lower) (λ e. less, number_room [] low (suc k) comma (λ e. absurd (true≢false (sym e)), number_room [] high (suc k) last (λ e. absurd (true≢false (sym e)), h)))

truth_room : (gap : List ℕ) (b : Bool) (k : ℕ) (rest : List Piece) → HasRoom k rest → HasRoom k (name gap (truth_text b) rest)
truth_room gap b k rest h = name_room gap (truth_text b) k rest h

abbrev pub Roomy : ℕ → (List Piece → List Piece) → Type 0
Roomy d f = (k : ℕ) (rest : List Piece) → d + k ≤ 128 → HasRoom k rest → HasRoom k (f rest)

value_room : (gap : List ℕ) (l : Label) (kd : Kind) (d : ℕ) (oi oe : List Piece → List Piece) → Roomy d oi → Roomy d oe → (k : ℕ) (rest : List Piece) → (if is_bracketed kd then suc d else 0) + k ≤ 128 → HasRoom k rest → HasRoom k (value gap l kd oi oe rest)
value_room gap l kind.List d oi oe i e k rest less h = (λ x. omega arith, i (suc k) (mark [] m.RBracket rest) (omega arith) (λ x. absurd (true≢false (sym x)), h))
value_room gap l kind.Map d oi oe i e k rest less h = (λ x. omega arith, e (suc k) (mark [] m.RBrace rest) (omega arith) (λ x. absurd (true≢false (sym x)), h))
value_room gap l (kind.Limits r) d oi oe i e k rest less h = range_room gap r.low r.high r.low_in r.high_in k rest (omega arith) h
value_room gap l kind.Text d oi oe i e k rest less h = (λ x. absurd (true≢false (sym x)), h)
value_room gap l kind.Pattern d oi oe i e k rest less h = (λ x. absurd (true≢false (sym x)), h)
value_room gap l (kind.Whole n) d oi oe i e k rest less h = number_room gap (num.Whole n) k rest h
value_room gap l (kind.Fraction n) d oi oe i e k rest less h = number_room gap (num.Fraction n) k rest h
value_room gap l (kind.Truth b) d oi oe i e k rest less h = truth_room gap b k rest h
value_room gap l kind.Null d oi oe i e k rest less h = name_room gap (codes "null") k rest h

entry_room : (gap : List ℕ) (own : Option (List ℕ)) (k : ℕ) (of_value : List ℕ → List Piece) → ((g : List ℕ) → HasRoom k (of_value g)) → HasRoom k (entry gap own of_value)
entry_room gap None k of_value h = h gap
entry_room gap (Some text) k of_value h = (λ e. absurd (true≢false (sym e)), (λ e. absurd (true≢false (sym e)), h space))

mutual
  items_room : (f : Forest) → Roomy (deep_forest f) (item_pieces f)
  items_room Nil k rest less h = h
  items_room (Node l kids more) k rest less h = value_room [] l l.kind (deep_forest kids) (item_pieces kids) (entry_pieces kids) (items_room kids) (entries_room kids) k (more_item_pieces more rest) (omega arith) (more_items_room more k rest (omega arith) h)

  more_items_room : (f : Forest) → Roomy (deep_forest f) (more_item_pieces f)
  more_items_room Nil k rest less h = h
  more_items_room (Node l kids more) k rest less h =
      (λ e. absurd (true≢false (sym e)), value_room space l l.kind (deep_forest kids) (item_pieces kids) (entry_pieces kids) (items_room kids) (entries_room kids) k (more_item_pieces more rest) (omega arith) (more_items_room more k rest (omega arith) h))

  entries_room : (f : Forest) → Roomy (deep_forest f) (entry_pieces f)
  entries_room Nil k rest less h = h
  entries_room (Node l kids more) k rest less h = entry_room [] l.key k (λ g. value g l l.kind (item_pieces kids) (entry_pieces kids) (more_entry_pieces more rest))
      (λ g. value_room g l l.kind (deep_forest kids) (item_pieces kids) (entry_pieces kids) (items_room kids) (entries_room kids) k (more_entry_pieces more rest) (omega arith) (more_entries_room more k rest (omega arith) h))

  more_entries_room : (f : Forest) → Roomy (deep_forest f) (more_entry_pieces f)
  more_entries_room Nil k rest less h = h
  more_entries_room (Node l kids more) k rest less h = (
    λ e. absurd (true≢false (sym e)),
    entry_room space l.key k (λ g. value g l l.kind (item_pieces kids) (entry_pieces kids) (more_entry_pieces more rest))
        (λ g. value_room g l l.kind (deep_forest kids) (item_pieces kids) (entry_pieces kids) (items_room kids) (entries_room kids) k (more_entry_pieces more rest) (omega arith) (more_entries_room more k rest (omega arith) h)),
  )

literal_room : (gap : List ℕ) (f : Forest) → Roomy (deep_forest f) (literal_pieces gap f)
literal_room gap Nil k rest less h = name_room gap [] k rest h
literal_room gap (Node l kids more) k rest less h = value_room gap l l.kind (deep_forest kids) (item_pieces kids) (entry_pieces kids) (items_room kids) (entries_room kids) k rest (omega arith) h

-- ---- conditions

start_room : (p : Step) (gap : List ℕ) (k : ℕ) (as_step rest : List Piece) → HasRoom k rest → HasRoom k as_step → HasRoom k (start gap p as_step rest)
start_room (key n text) gap k as_step rest h x = key_room (is_free_name text) gap text k rest h
start_room (this n) gap k as_step rest h x = x
start_room (var n text) gap k as_step rest h x = x
start_room (index n i) gap k as_step rest h x = x
start_room (every n) gap k as_step rest h x = x
start_room (items n) gap k as_step rest h x = x
start_room (splice n bound) gap k as_step rest h x = x
start_room (filter n bound c) gap k as_step rest h x = x
start_room (keys n bound o negated e) gap k as_step rest h x = x

pub head_room : (q : Query) (gap : List ℕ) (k : ℕ) (as_query rest : List Piece) → HasRoom k rest → HasRoom k as_query → HasRoom k (head gap q as_query rest)
head_room (query i no_steps) gap k as_query rest h x = x
head_room (query i (more_steps (key n text) no_steps)) gap k as_query rest h x = ((λ x. absurd (true≢false (sym x))), h)
head_room (query i (more_steps (key n text) (more_steps p ps))) gap k as_query rest h x = x
head_room (query i (more_steps (this n) ps)) gap k as_query rest h x = x
head_room (query i (more_steps (var n text) ps)) gap k as_query rest h x = x
head_room (query i (more_steps (index n j) ps)) gap k as_query rest h x = x
head_room (query i (more_steps (every n) ps)) gap k as_query rest h x = x
head_room (query i (more_steps (items n) ps)) gap k as_query rest h x = x
head_room (query i (more_steps (splice n bound) ps)) gap k as_query rest h x = x
head_room (query i (more_steps (filter n bound c) ps)) gap k as_query rest h x = x
head_room (query i (more_steps (keys n bound o negated e) ps)) gap k as_query rest h x = x

mutual
  pub conds_room : (c : Conds) (gap : List ℕ) → Roomy (deep_conds c) (conds_pieces gap c)
  conds_room (conds n ds) gap k rest less h = disjs_room ds gap k rest less h

  disjs_room : (ds : Disjs) (gap : List ℕ) → Roomy (deep_disjs ds) (disjs_pieces gap ds)
  disjs_room no_disjs gap k rest less h = name_room gap [] k rest h
  disjs_room (more_disjs d ds) gap k rest less h = disj_room d gap k (more_disjs_pieces ds rest) (omega arith) (more_disjs_room ds k rest (omega arith) h)

  more_disjs_room : (ds : Disjs) → Roomy (deep_disjs ds) (more_disjs_pieces ds)
  more_disjs_room no_disjs k rest less h = h
  more_disjs_room (more_disjs d ds) k rest less h = disj_room d space k (more_disjs_pieces ds rest) (omega arith) (more_disjs_room ds k rest (omega arith) h)

  disj_room : (d : Disj) (gap : List ℕ) → Roomy (deep_disj d) (disj_pieces gap d)
  disj_room (disj n ps) gap k rest less h = alternatives_room ps gap k rest less h

  alternatives_room : (ps : Parts) (gap : List ℕ) → Roomy (deep_parts ps) (alternatives_pieces gap ps)
  alternatives_room no_parts gap k rest less h = name_room gap [] k rest h
  alternatives_room (more_parts p ps) gap k rest less h = cond_room p gap k (more_alternatives_pieces ps rest) (omega arith) (more_alternatives_room ps k rest (omega arith) h)

  more_alternatives_room : (ps : Parts) → Roomy (deep_parts ps) (more_alternatives_pieces ps)
  more_alternatives_room no_parts k rest less h = h
  more_alternatives_room (more_parts p ps) k rest less h = name_room space (codes "or") k (cond_pieces space p (more_alternatives_pieces ps rest)) (cond_room p space k (more_alternatives_pieces ps rest) (omega arith) (more_alternatives_room ps k rest (omega arith) h))

  pub cond_room : (p : Part) (gap : List ℕ) → Roomy (deep_part p) (cond_pieces gap p)
  cond_room (block n any q b) gap k rest less h = name_room gap [] k rest h
  cond_room (guarded n c b) gap k rest less h = name_room gap [] k rest h
  cond_room (kinds n text c b) gap k rest less h = name_room gap [] k rest h
  cond_room (test n any q o negated right message) gap k rest less h =
      let said = note_room message k rest h in
      let value = opt_expr_room right k (note message rest) (omega arith) said in
      let sign = operator_room o negated k (opt_expr_pieces right (note message rest)) value in
      if_room any gap (codes "some") k (λ g. query_pieces g q (operator o negated (opt_expr_pieces right (note message rest)))) (λ g. query_room q g k (operator o negated (opt_expr_pieces right (note message rest))) (omega arith) sign)
  cond_room (refer n negated text message) gap k rest less h = if_room negated gap (codes "not") k (λ g. name g text (note message rest)) (λ g. name_room g text k (note message rest) (note_room message k rest h))
  cond_room (call n negated text es message) gap k rest less h =
      let inner : HasRoom (suc k) (exprs_pieces es (mark [] m.RParen (note message rest))) = exprs_room es (suc k) (mark [] m.RParen (note message rest)) (omega arith) ((λ x. absurd (true≢false (sym x))), note_room message k rest h) in
      if_room negated gap (codes "not") k (λ g. name g text (mark [] m.LParen (exprs_pieces es (mark [] m.RParen (note message rest))))) (λ g. name_room g text k (mark [] m.LParen (exprs_pieces es (mark [] m.RParen (note message rest)))) (λ e. omega arith, inner))

  pub query_room : (q : Query) (gap : List ℕ) → Roomy (deep_query q) (query_pieces gap q)
  query_room (query n no_steps) gap k rest less h = name_room gap [] k rest h
  query_room (query n (more_steps p ps)) gap k rest less h =
      let others = steps_room ps [] k rest (omega arith) h in
      start_room p gap k (step_pieces gap p (steps_pieces [] ps rest)) (steps_pieces [] ps rest) others (step_room p gap k (steps_pieces [] ps rest) (omega arith) others)

  asked_room : (q : Query) (gap : List ℕ) → Roomy (deep_query q) (asked_pieces gap q)
  asked_room (query n no_steps) gap k rest less h = name_room gap [] k rest h
  asked_room (query n (more_steps p ps)) gap k rest less h =
      let others = steps_room ps (space_within p ps) k rest (omega arith) h in
      start_room p gap k (step_pieces gap p (steps_pieces (space_within p ps) ps rest)) (steps_pieces (space_within p ps) ps rest) others (step_room p gap k (steps_pieces (space_within p ps) ps rest) (omega arith) others)

  steps_room : (ps : Steps) (gap : List ℕ) → Roomy (deep_steps ps) (steps_pieces gap ps)
  steps_room no_steps gap k rest less h = h
  steps_room (more_steps p ps) gap k rest less h = step_room p gap k (steps_pieces [] ps rest) (omega arith) (steps_room ps [] k rest (omega arith) h)

  step_room : (p : Step) (gap : List ℕ) → Roomy (deep_step p) (step_pieces gap p)
  step_room (this n) gap k rest less h = name_room gap (codes "this") k rest h
  step_room (var n text) gap k rest less h = ((λ x. absurd (true≢false (sym x))), h)
  step_room (key n text) gap k rest less h = ((λ x. absurd (true≢false (sym x))), key_room (is_name text) [] text k rest h)
  step_room (index n i) gap k rest less h = ((λ x. absurd (true≢false (sym x))), index_room i k rest h)
  step_room (every n) gap k rest less h = ((λ x. absurd (true≢false (sym x))), ((λ x. absurd (true≢false (sym x))), h))
  step_room (items n) gap k rest less h = (λ e. omega arith, ((λ x. absurd (true≢false (sym x))), ((λ x. absurd (true≢false (sym x))), h)))
  step_room (splice n bound) gap k rest less h = ((λ x. absurd (true≢false (sym x))), ((λ x. absurd (true≢false (sym x))), h))
  step_room (filter n bound c) gap k rest less h =
      (λ e. omega arith, capture_room bound (suc k) (conds_pieces space c (mark space m.RBracket rest)) (conds_room c space (suc k) (mark space m.RBracket rest) (omega arith) ((λ x. absurd (true≢false (sym x))), h)))
  step_room (keys n bound o negated e) gap k rest less h =
      let inner = expr_room e space (suc k) (mark space m.RBracket rest) (omega arith) ((λ x. absurd (true≢false (sym x))), h) in
      let sign = operator_room o negated (suc k) (expr_pieces space e (mark space m.RBracket rest)) inner in
      (λ x. omega arith, capture_room bound (suc k) (name space (codes "keys") (operator o negated (expr_pieces space e (mark space m.RBracket rest)))) (name_room space (codes "keys") (suc k) (operator o negated (expr_pieces space e (mark space m.RBracket rest))) sign))

  pub expr_room : (e : Expr) (gap : List ℕ) → Roomy (deep_expr e) (expr_pieces gap e)
  expr_room (literal n tree) gap k rest less h = literal_room gap tree k rest less h
  expr_room (function n text es) gap k rest less h = name_room gap text k (mark (space_behind text) m.LParen (exprs_pieces es (mark [] m.RParen rest))) (λ e. omega arith, exprs_room es (suc k) (mark [] m.RParen rest) (omega arith) ((λ x. absurd (true≢false (sym x))), h))
  expr_room (asked q) gap k rest less h = asked_room q gap k rest less h
  expr_room (found n q) gap k rest less h = name_room gap (codes "some") k (query_pieces space q rest) (query_room q space k rest less h)

  opt_expr_room : (e : OptExpr) → Roomy (deep_opt_expr e) (opt_expr_pieces e)
  opt_expr_room no_expr k rest less h = h
  opt_expr_room (with_expr e) k rest less h = expr_room e space k rest less h

  exprs_room : (es : Exprs) → Roomy (deep_exprs es) (exprs_pieces es)
  exprs_room no_exprs k rest less h = h
  exprs_room (more_exprs e es) k rest less h = expr_room e [] k (more_exprs_pieces es rest) (omega arith) (more_exprs_room es k rest (omega arith) h)

  more_exprs_room : (es : Exprs) → Roomy (deep_exprs es) (more_exprs_pieces es)
  more_exprs_room no_exprs k rest less h = h
  more_exprs_room (more_exprs e es) k rest less h = ((λ x. absurd (true≢false (sym x))), expr_room e space k (more_exprs_pieces es rest) (omega arith) (more_exprs_room es k rest (omega arith) h))

pub opt_conds_room : (c : OptConds) → Roomy (deep_opt_conds c) (opt_conds_pieces c)
opt_conds_room no_conds k rest less h = h
opt_conds_room (with_conds c) k rest less h = name_room space (codes "when") k (conds_pieces space c rest) (conds_room c space k rest less h)
