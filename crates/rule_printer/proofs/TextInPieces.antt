-- The canonical text of a syntax is what its tokens spell: by recursion on the syntax.
use Rattle.std.proofs.Common.{◌≡◌, ℕ, Bool, true, false, List, [], ◌∷◌, ◌++◌, Option, Some, None, codes, append_assoc, append-nil, refl, sym, ap, ◌∙◌, nat_lt, if◌then◌else◌}
use Rattle.doc_values.specs.Tree.{Label, Forest, Nil, Node}
use Rattle.decimals.specs.declared.decimal.Num.{Num}
use Rattle.decimals.specs.declared.decimal.Range.{Range}
use Rattle.doc_values.specs.declared.kind.Kind.{Kind}
use Rattle.doc_values.specs.declared.kind.Kind.TheVariants as kind
use Rattle.guard_lexer.specs.declared.token.Mark.TheVariants as m
use Rattle.guard_syntax.specs.Named.{Named}
use Rattle.guard_syntax.specs.declared.syntax.Op.{Op}
use Rattle.guard_syntax.specs.declared.syntax.Op.TheVariants as op
use Rattle.guard_syntax.specs.Syntax.{Body, Lets, Let, Conds, OptConds, Disjs, Disj, Parts, Part, Query, Steps, Step, Expr, OptExpr, Exprs, Rule, File, body, no_lets, more_lets, assign, conds, no_conds, with_conds, no_disjs, more_disjs, disj, no_parts, more_parts, block, guarded, kinds, test, refer, call, query, no_steps, more_steps, this, var, key, index, every, items, splice, filter, keys, literal, function, asked, found, no_expr, with_expr, no_exprs, more_exprs}
use Rattle.rule_spelling.specs.Spelling.{quoted}
use Rattle.rule_spelling.specs.code.Pieces.{Piece, spelled}
use Rattle.rule_words.specs.WordText.{word_if, operator_text, note_text, is_name, is_free_name, key_text, first_key_text, capture_text, range_text, value_text, entry_key, items_text, more_items_text, entries_text, more_entries_text, literal_text, space_within, head_text, more_names_text, params_text}
use Rattle.rule_printer.specs.RuleText as t
use Rattle.rule_printer.specs.RuleText.{within, line, merged, before_each, start_text, body_text, let_lines, let_line, disj_lines, disj_line, parts_text, more_parts_text, part_text, conds_text, disjs_text, more_disjs_text, disj_text, alternatives_text, more_alternatives_text, cond_text, opt_conds_text, query_text, asked_text, steps_text, step_text, expr_text, opt_expr_text, exprs_text, more_exprs_text, rule_line, rule_lines, rule_text}
use Rattle.rule_printer.specs.code.RulePieces.{space, new_line, name, str, mark, name_if, operator, note, dotted_key, first_key, capture, range, value, entry, item_pieces, more_item_pieces, entry_pieces, more_entry_pieces, literal_pieces, start, head, Spell, in_a_row, body_pieces, let_items, let_item, disj_items, disj_item, parts_pieces, more_parts_pieces, part_pieces, conds_pieces, disjs_pieces, more_disjs_pieces, disj_pieces, alternatives_pieces, more_alternatives_pieces, cond_pieces, opt_conds_pieces, query_pieces, asked_pieces, steps_pieces, step_pieces, expr_pieces, opt_expr_pieces, exprs_pieces, more_exprs_pieces, more_names, params, rule_item, rule_items, file_items, rule_pieces, end_of, file_end}

module _ (end : List ℕ) where
  abbrev S : List Piece → List ℕ
  S ps = spelled ps end

  -- ---- words

  operator_in : (o : Op) (negated : Bool) (rest : List Piece) → S (operator o negated rest) ≡ codes " " ++ (operator_text o negated ++ S rest)
  operator_in o false rest = refl
  operator_in op.Eq true rest = refl
  operator_in op.Lt true rest = refl
  operator_in op.Le true rest = refl
  operator_in op.Gt true rest = refl
  operator_in op.Ge true rest = refl
  operator_in op.Within true rest = refl
  operator_in op.Exists true rest = refl
  operator_in op.Empty true rest = refl
  operator_in op.IsString true rest = refl
  operator_in op.IsList true rest = refl
  operator_in op.IsStruct true rest = refl
  operator_in op.IsBool true rest = refl
  operator_in op.IsInt true rest = refl
  operator_in op.IsFloat true rest = refl
  operator_in op.IsNull true rest = refl

  note_in : (message : Option (List ℕ)) (rest : List Piece) → S (note message rest) ≡ note_text message ++ S rest
  note_in None rest = refl
  note_in (Some message) rest = refl

  -- a word and a space, or nothing
  name_if_in : (b : Bool) (gap word spaced : List ℕ) (behind : List ℕ → List Piece) (tail : List ℕ) → ((ys : List ℕ) → word ++ (codes " " ++ ys) ≡ spaced ++ ys)
      → ((g : List ℕ) → S (behind g) ≡ g ++ tail) → S (name_if b gap word behind) ≡ gap ++ (word_if b spaced ++ tail)
  name_if_in true gap word spaced behind tail same so = ap (λ (ys : List ℕ). gap ++ (word ++ ys)) (so space) ∙ ap (λ (ys : List ℕ). gap ++ ys) (same tail)
  name_if_in false gap word spaced behind tail same so = so gap

  -- as a name where it is one, else in quotes
  dotted_key_as : (b : Bool) (text : List ℕ) (rest : List Piece)
      → S (if b then name [] text rest else str [] text rest) ≡ (if b then text else quoted text) ++ S rest
  dotted_key_as true text rest = refl
  dotted_key_as false text rest = refl

  dotted_key_in : (text : List ℕ) (rest : List Piece) → S (dotted_key text rest) ≡ key_text text ++ S rest
  dotted_key_in text rest = dotted_key_as (is_name text) text rest

  first_key_as : (b : Bool) (gap text : List ℕ) (rest : List Piece)
      → S (if b then name gap text rest else str gap text rest) ≡ gap ++ ((if b then text else quoted text) ++ S rest)
  first_key_as true gap text rest = refl
  first_key_as false gap text rest = refl

  first_key_in : (gap text : List ℕ) (rest : List Piece) → S (first_key gap text rest) ≡ gap ++ (first_key_text text ++ S rest)
  first_key_in gap text rest = first_key_as (is_free_name text) gap text rest

  capture_in : (bound : Option Named) (rest : List Piece) (tail : List ℕ) → S rest ≡ codes " " ++ tail → S (capture bound rest) ≡ codes " " ++ (capture_text bound ++ tail)
  capture_in None rest tail so = so
  capture_in (Some n) rest tail so = ap (λ (ys : List ℕ). codes " " ++ (n.text ++ (codes " |" ++ ys))) so ∙ ap (λ (ys : List ℕ). codes " " ++ ys) (sym (append_assoc n.text (codes " | ") tail))

  -- ---- literals

  range_as : (gap : List ℕ) (low high : Num) (v w : Bool) (rest : List Piece) → let r : Range = record { low = low; high = high; low_in = v; high_in = w } in
      S (range gap r rest) ≡ gap ++ (range_text r ++ S rest)
  range_as gap low high true true rest = simp append_assoc
  range_as gap low high true false rest = simp append_assoc
  range_as gap low high false true rest = simp append_assoc
  range_as gap low high false false rest = simp append_assoc

  value_as : (gap : List ℕ) (kd : Kind) (text : List ℕ) (own : Option (List ℕ)) (at : ℕ) (of_items of_entries : List Piece → List Piece) (its ents : List ℕ) (rest : List Piece)
      → ((ps : List Piece) → S (of_items ps) ≡ its ++ S ps) → ((ps : List Piece) → S (of_entries ps) ≡ ents ++ S ps)
      → let l : Label = record { kind = kd; text = text; key = own; at = at } in S (value gap l kd of_items of_entries rest) ≡ gap ++ (value_text l kd its ents ++ S rest)
  value_as gap kind.List text own at oi oe its ents rest p q = ap (λ (ys : List ℕ). gap ++ (codes "[" ++ ys)) (p (mark [] m.RBracket rest)) ∙ simp append_assoc
  value_as gap kind.Map text own at oi oe its ents rest p q = ap (λ (ys : List ℕ). gap ++ (codes "{" ++ ys)) (q (mark [] m.RBrace rest)) ∙ simp append_assoc
  value_as gap (kind.Limits r) text own at oi oe its ents rest p q = range_as gap r.low r.high r.low_in r.high_in rest
  value_as gap kind.Text text own at oi oe its ents rest p q = refl
  value_as gap kind.Pattern text own at oi oe its ents rest p q = refl
  value_as gap (kind.Whole n) text own at oi oe its ents rest p q = refl
  value_as gap (kind.Fraction d) text own at oi oe its ents rest p q = refl
  value_as gap (kind.Truth b) text own at oi oe its ents rest p q = refl
  value_as gap kind.Null text own at oi oe its ents rest p q = refl

  value_in : (gap : List ℕ) (l : Label) (of_items of_entries : List Piece → List Piece) (its ents : List ℕ) (rest : List Piece)
      → ((ps : List Piece) → S (of_items ps) ≡ its ++ S ps) → ((ps : List Piece) → S (of_entries ps) ≡ ents ++ S ps)
      → S (value gap l l.kind of_items of_entries rest) ≡ gap ++ (value_text l l.kind its ents ++ S rest)
  value_in gap l oi oe its ents rest p q = value_as gap l.kind l.text l.key l.at oi oe its ents rest p q

  entry_in : (gap : List ℕ) (own : Option (List ℕ)) (of_value : List ℕ → List Piece) (tail : List ℕ) → ((g : List ℕ) → S (of_value g) ≡ g ++ tail)
      → S (entry gap own of_value) ≡ gap ++ (entry_key own ++ tail)
  entry_in gap None of_value tail so = so gap
  entry_in gap (Some text) of_value tail so = ap (λ (ys : List ℕ). gap ++ (quoted text ++ (codes ":" ++ ys))) (so space) ∙ ap (λ (ys : List ℕ). gap ++ ys) (sym (append_assoc (quoted text) (codes ": ") tail))

  mutual
    items_in : (f : Forest) (rest : List Piece) → S (item_pieces f rest) ≡ items_text f ++ S rest
    items_in Nil rest = refl
    items_in (Node l kids more) rest =
        value_in [] l (item_pieces kids) (entry_pieces kids) (items_text kids) (entries_text kids) (more_item_pieces more rest) (items_in kids) (entries_in kids)
        ∙ simp (append_assoc, more_items_in more rest)

    more_items_in : (f : Forest) (rest : List Piece) → S (more_item_pieces f rest) ≡ more_items_text f ++ S rest
    more_items_in Nil rest = refl
    more_items_in (Node l kids more) rest =
        ap (λ (ys : List ℕ). codes "," ++ ys) (value_in space l (item_pieces kids) (entry_pieces kids) (items_text kids) (entries_text kids) (more_item_pieces more rest) (items_in kids) (entries_in kids))
        ∙ simp (append_assoc, more_items_in more rest)

    entries_in : (f : Forest) (rest : List Piece) → S (entry_pieces f rest) ≡ entries_text f ++ S rest
    entries_in Nil rest = refl
    entries_in (Node l kids more) rest =
        entry_in [] l.key (λ gap. value gap l l.kind (item_pieces kids) (entry_pieces kids) (more_entry_pieces more rest)) (value_text l l.kind (items_text kids) (entries_text kids) ++ S (more_entry_pieces more rest))
        (λ g. value_in g l (item_pieces kids) (entry_pieces kids) (items_text kids) (entries_text kids) (more_entry_pieces more rest) (items_in kids) (entries_in kids))
        ∙ simp (append_assoc, more_entries_in more rest)

    more_entries_in : (f : Forest) (rest : List Piece) → S (more_entry_pieces f rest) ≡ more_entries_text f ++ S rest
    more_entries_in Nil rest = refl
    more_entries_in (Node l kids more) rest =
        ap (λ (ys : List ℕ). codes "," ++ ys)
        (entry_in space l.key (λ gap. value gap l l.kind (item_pieces kids) (entry_pieces kids) (more_entry_pieces more rest)) (value_text l l.kind (items_text kids) (entries_text kids) ++ S (more_entry_pieces more rest))
        (λ g. value_in g l (item_pieces kids) (entry_pieces kids) (items_text kids) (entries_text kids) (more_entry_pieces more rest) (items_in kids) (entries_in kids)))
        ∙ simp (append_assoc, more_entries_in more rest)

  literal_in : (gap : List ℕ) (f : Forest) (rest : List Piece) → S (literal_pieces gap f rest) ≡ gap ++ (literal_text f ++ S rest)
  literal_in gap Nil rest = refl
  literal_in gap (Node l kids more) rest =
      value_in gap l (item_pieces kids) (entry_pieces kids) (items_text kids) (entries_text kids) rest (items_in kids) (entries_in kids)

  -- ---- queries

  -- the first step, where these are its tokens as a further one
  start_in : (gap : List ℕ) (step : Step) (as_step rest : List Piece) (as_text : List ℕ) → S as_step ≡ gap ++ (as_text ++ S rest)
      → S (start gap step as_step rest) ≡ gap ++ (start_text step as_text ++ S rest)
  start_in gap (key n text) as_step rest as_text so = first_key_in gap text rest
  start_in gap (this n) as_step rest as_text so = so
  start_in gap (var n text) as_step rest as_text so = so
  start_in gap (index n i) as_step rest as_text so = so
  start_in gap (every n) as_step rest as_text so = so
  start_in gap (items n) as_step rest as_text so = so
  start_in gap (splice n bound) as_step rest as_text so = so
  start_in gap (filter n bound c) as_step rest as_text so = so
  start_in gap (keys n bound o negated e) as_step rest as_text so = so

  -- the head of a block, where these are its tokens as a query
  head_in : (gap : List ℕ) (q : Query) (as_query rest : List Piece) (as_text : List ℕ) → S as_query ≡ gap ++ (as_text ++ S rest)
      → S (head gap q as_query rest) ≡ gap ++ (head_text q as_text ++ S rest)
  head_in gap (query m no_steps) as_query rest as_text so = so
  head_in gap (query m (more_steps (key n text) no_steps)) as_query rest as_text so = refl
  head_in gap (query m (more_steps (key n text) (more_steps x xs))) as_query rest as_text so = so
  head_in gap (query m (more_steps (this n) xs)) as_query rest as_text so = so
  head_in gap (query m (more_steps (var n text) xs)) as_query rest as_text so = so
  head_in gap (query m (more_steps (index n i) xs)) as_query rest as_text so = so
  head_in gap (query m (more_steps (every n) xs)) as_query rest as_text so = so
  head_in gap (query m (more_steps (items n) xs)) as_query rest as_text so = so
  head_in gap (query m (more_steps (splice n bound) xs)) as_query rest as_text so = so
  head_in gap (query m (more_steps (filter n bound c) xs)) as_query rest as_text so = so
  head_in gap (query m (more_steps (keys n bound o negated e) xs)) as_query rest as_text so = so

  no_space : (step : Step) → space_within step no_steps ≡ []
  no_space (key n text) = refl
  no_space (this n) = refl
  no_space (var n text) = refl
  no_space (index n i) = refl
  no_space (every n) = refl
  no_space (items n) = refl
  no_space (splice n bound) = refl
  no_space (filter n bound c) = refl
  no_space (keys n bound o negated e) = refl

  -- ---- conditions

  mutual
    conds_in : (gap : List ℕ) (c : Conds) (rest : List Piece) → S (conds_pieces gap c rest) ≡ gap ++ (conds_text c ++ S rest)
    conds_in gap (conds n ds) rest = some_disjs_in gap ds rest

    some_disjs_in : (gap : List ℕ) (ds : Disjs) (rest : List Piece) → S (disjs_pieces gap ds rest) ≡ gap ++ (disjs_text ds ++ S rest)
    some_disjs_in gap no_disjs rest = refl
    some_disjs_in gap (more_disjs d ds) rest = disj_in gap d (more_disjs_pieces ds rest) ∙ simp (append_assoc, more_disjs_in ds rest)

    more_disjs_in : (ds : Disjs) (rest : List Piece) → S (more_disjs_pieces ds rest) ≡ more_disjs_text ds ++ S rest
    more_disjs_in no_disjs rest = refl
    more_disjs_in (more_disjs d ds) rest = disj_in space d (more_disjs_pieces ds rest) ∙ simp (append_assoc, more_disjs_in ds rest)

    disj_in : (gap : List ℕ) (d : Disj) (rest : List Piece) → S (disj_pieces gap d rest) ≡ gap ++ (disj_text d ++ S rest)
    disj_in gap (disj n ps) rest = alternatives_in gap ps rest

    alternatives_in : (gap : List ℕ) (ps : Parts) (rest : List Piece) → S (alternatives_pieces gap ps rest) ≡ gap ++ (alternatives_text ps ++ S rest)
    alternatives_in gap no_parts rest = refl
    alternatives_in gap (more_parts p ps) rest = cond_in gap p (more_alternatives_pieces ps rest) ∙ simp (append_assoc, more_alternatives_in ps rest)

    more_alternatives_in : (ps : Parts) (rest : List Piece) → S (more_alternatives_pieces ps rest) ≡ more_alternatives_text ps ++ S rest
    more_alternatives_in no_parts rest = refl
    more_alternatives_in (more_parts p ps) rest = ap (λ (ys : List ℕ). codes " or" ++ ys) (cond_in space p (more_alternatives_pieces ps rest)) ∙ simp (append_assoc, more_alternatives_in ps rest)

    cond_in : (gap : List ℕ) (p : Part) (rest : List Piece) → S (cond_pieces gap p rest) ≡ gap ++ (cond_text p ++ S rest)
    cond_in gap (test n any q o negated right message) rest =
        name_if_in any gap (codes "some") (codes "some ") (λ g. query_pieces g q (operator o negated (opt_expr_pieces right (note message rest)))) (query_text q ++ S (operator o negated (opt_expr_pieces right (note message rest)))) (λ ys. refl)
        (λ g. query_in g q (operator o negated (opt_expr_pieces right (note message rest))))
        ∙ simp (append_assoc, operator_in o negated (opt_expr_pieces right (note message rest)), opt_expr_in right (note message rest), note_in message rest)
    cond_in gap (refer n negated text message) rest =
        name_if_in negated gap (codes "not") (codes "not ") (λ g. name g text (note message rest)) (text ++ S (note message rest)) (λ ys. refl) (λ g. refl)
        ∙ simp (append_assoc, note_in message rest)
    cond_in gap (call n negated text es message) rest =
        name_if_in negated gap (codes "not") (codes "not ") (λ g. name g text (mark [] m.LParen (exprs_pieces es (mark [] m.RParen (note message rest))))) (text ++ (codes "(" ++ S (exprs_pieces es (mark [] m.RParen (note message rest))))) (λ ys. refl) (λ g. refl)
        ∙ simp (append_assoc, exprs_in es (mark [] m.RParen (note message rest)), note_in message rest)
    cond_in gap (block n any q b) rest = refl
    cond_in gap (guarded n c b) rest = refl
    cond_in gap (kinds n text c b) rest = refl

    query_in : (gap : List ℕ) (q : Query) (rest : List Piece) → S (query_pieces gap q rest) ≡ gap ++ (query_text q ++ S rest)
    query_in gap (query n no_steps) rest = refl
    query_in gap (query n (more_steps step steps)) rest =
        start_in gap step (step_pieces gap step (steps_pieces [] steps rest)) (steps_pieces [] steps rest) (step_text step) (step_in gap step (steps_pieces [] steps rest))
        ∙ simp (append_assoc, steps_in steps rest)

    asked_in : (gap : List ℕ) (q : Query) (rest : List Piece) → S (asked_pieces gap q rest) ≡ gap ++ (asked_text q ++ S rest)
    asked_in gap (query n no_steps) rest = refl
    asked_in gap (query n (more_steps step steps)) rest =
        start_in gap step (step_pieces gap step (steps_pieces (space_within step steps) steps rest)) (steps_pieces (space_within step steps) steps rest) (step_text step) (step_in gap step (steps_pieces (space_within step steps) steps rest))
        ∙ simp (append_assoc, spaced_in step steps rest)

    steps_in : (ss : Steps) (rest : List Piece) → S (steps_pieces [] ss rest) ≡ steps_text ss ++ S rest
    steps_in no_steps rest = refl
    steps_in (more_steps step steps) rest = step_in [] step (steps_pieces [] steps rest) ∙ simp (append_assoc, steps_in steps rest)

    spaced_in : (first : Step) (ss : Steps) (rest : List Piece) → S (steps_pieces (space_within first ss) ss rest) ≡ space_within first ss ++ (steps_text ss ++ S rest)
    spaced_in first no_steps rest = ap (λ (ys : List ℕ). ys ++ S rest) (sym (no_space first))
    spaced_in first (more_steps step steps) rest = step_in (space_within first (more_steps step steps)) step (steps_pieces [] steps rest) ∙ simp (append_assoc, steps_in steps rest)

    step_in : (gap : List ℕ) (s : Step) (rest : List Piece) → S (step_pieces gap s rest) ≡ gap ++ (step_text s ++ S rest)
    step_in gap (this n) rest = refl
    step_in gap (var n text) rest = refl
    step_in gap (key n text) rest = ap (λ (ys : List ℕ). gap ++ (codes "." ++ ys)) (dotted_key_in text rest)
    step_in gap (index n i) rest = refl
    step_in gap (every n) rest = refl
    step_in gap (items n) rest = refl
    step_in gap (splice n bound) rest = refl
    step_in gap (filter n bound c) rest =
        ap (λ (ys : List ℕ). gap ++ (codes "[" ++ ys)) (capture_in bound (conds_pieces space c (mark space m.RBracket rest)) (conds_text c ++ (codes " ]" ++ S rest)) (conds_in space c (mark space m.RBracket rest)))
        ∙ simp append_assoc
    step_in gap (keys n bound o negated e) rest =
        ap (λ (ys : List ℕ). gap ++ (codes "[" ++ ys)) (capture_in bound (name space (codes "keys") (operator o negated (expr_pieces space e (mark space m.RBracket rest)))) (codes "keys" ++ S (operator o negated (expr_pieces space e (mark space m.RBracket rest)))) refl)
        ∙ simp (append_assoc, operator_in o negated (expr_pieces space e (mark space m.RBracket rest)), expr_in space e (mark space m.RBracket rest))

    expr_in : (gap : List ℕ) (e : Expr) (rest : List Piece) → S (expr_pieces gap e rest) ≡ gap ++ (expr_text e ++ S rest)
    expr_in gap (literal n tree) rest = literal_in gap tree rest
    expr_in gap (function n text es) rest = simp (append_assoc, exprs_in es (mark [] m.RParen rest))
    expr_in gap (asked q) rest = asked_in gap q rest
    expr_in gap (found n q) rest = ap (λ (ys : List ℕ). gap ++ (codes "some" ++ ys)) (query_in space q rest)

    opt_expr_in : (e : OptExpr) (rest : List Piece) → S (opt_expr_pieces e rest) ≡ opt_expr_text e ++ S rest
    opt_expr_in no_expr rest = refl
    opt_expr_in (with_expr e) rest = expr_in space e rest

    exprs_in : (es : Exprs) (rest : List Piece) → S (exprs_pieces es rest) ≡ exprs_text es ++ S rest
    exprs_in no_exprs rest = refl
    exprs_in (more_exprs e es) rest = expr_in [] e (more_exprs_pieces es rest) ∙ simp (append_assoc, more_exprs_in es rest)

    more_exprs_in : (es : Exprs) (rest : List Piece) → S (more_exprs_pieces es rest) ≡ more_exprs_text es ++ S rest
    more_exprs_in no_exprs rest = refl
    more_exprs_in (more_exprs e es) rest = ap (λ (ys : List ℕ). codes "," ++ ys) (expr_in space e (more_exprs_pieces es rest)) ∙ simp (append_assoc, more_exprs_in es rest)

  opt_conds_in : (c : OptConds) (rest : List Piece) → S (opt_conds_pieces c rest) ≡ opt_conds_text c ++ S rest
  opt_conds_in no_conds rest = refl
  opt_conds_in (with_conds c) rest = ap (λ (ys : List ℕ). codes " when" ++ ys) (conds_in space c rest)

  -- ---- items

  -- the tokens of an item spell its line, whatever gap stands in front of them
  record IsSpelled (margin : List ℕ) (a : ℕ × Spell) (b : ℕ × List ℕ) : Type 0 where
    site : a.0 ≡ b.0
    text : List ℕ
    is_line : b.1 ≡ line margin text
    spells : (gap : List ℕ) (rest : List Piece) → S (a.1 gap rest) ≡ gap ++ (text ++ S rest)

  abbrev AreSpelled : List ℕ → List (ℕ × Spell) → List (ℕ × List ℕ) → Type 0
  AreSpelled margin [] [] = Unit {0}
  AreSpelled margin [] (b ∷ bs) = ⊥
  AreSpelled margin (a ∷ as_) [] = ⊥
  AreSpelled margin (a ∷ as_) (b ∷ bs) = IsSpelled margin a b × AreSpelled margin as_ bs

  by_choice : (margin : List ℕ) (v w : Bool) (xs ys : List (ℕ × Spell)) (bs cs : List (ℕ × List ℕ)) → v ≡ w → AreSpelled margin xs bs → AreSpelled margin ys cs
      → AreSpelled margin (if v then xs else ys) (if w then bs else cs)
  by_choice margin true true xs ys bs cs e p q = p
  by_choice margin false false xs ys bs cs e p q = q
  by_choice margin true false xs ys bs cs e p q = absurd cc
  by_choice margin false true xs ys bs cs e p q = absurd cc

  before_each_in : (margin : List ℕ) (a : ℕ × Spell) (b : ℕ × List ℕ) (f : List (ℕ × Spell) → List (ℕ × Spell)) (g : List (ℕ × List ℕ) → List (ℕ × List ℕ))
      → IsSpelled margin a b → ((xs : List (ℕ × Spell)) (ys : List (ℕ × List ℕ)) → AreSpelled margin xs ys → AreSpelled margin (f xs) (g ys))
      → (xs : List (ℕ × Spell)) (ys : List (ℕ × List ℕ)) → AreSpelled margin xs ys → AreSpelled margin (before_each a f xs) (before_each b g ys)
  before_each_in margin a b f g is more [] [] all = (is, more [] [] tt)
  before_each_in margin a b f g is more [] (y ∷ ys) all = absurd all
  before_each_in margin a b f g is more (x ∷ xs) [] all = absurd all
  before_each_in margin a b f g is more (x ∷ xs) (y ∷ ys) all =
      by_choice margin (nat_lt x.0 a.0) (nat_lt y.0 b.0) (x ∷ before_each a f xs) (a ∷ f (x ∷ xs)) (y ∷ before_each b g ys) (b ∷ g (y ∷ ys))
      (ap (λ (n : ℕ). nat_lt n a.0) all.0.site ∙ ap (λ (n : ℕ). nat_lt y.0 n) is.site)
      (all.0, before_each_in margin a b f g is more xs ys all.1) (is, more (x ∷ xs) (y ∷ ys) all)

  merged_in : (margin : List ℕ) (xs : List (ℕ × Spell)) (ys : List (ℕ × List ℕ)) → AreSpelled margin xs ys
      → (zs : List (ℕ × Spell)) (ws : List (ℕ × List ℕ)) → AreSpelled margin zs ws → AreSpelled margin (merged xs zs) (merged ys ws)
  merged_in margin [] [] all zs ws more = more
  merged_in margin [] (y ∷ ys) all zs ws more = absurd all
  merged_in margin (x ∷ xs) [] all zs ws more = absurd all
  merged_in margin (x ∷ xs) (y ∷ ys) all zs ws more =
      before_each_in margin x y (merged xs) (merged ys) all.0 (λ as_ bs h. merged_in margin xs ys all.1 as_ bs h) zs ws more

  -- in front of a new line, items stand behind new lines
  row_in : (margin : List ℕ) (xs : List (ℕ × Spell)) (ys : List (ℕ × List ℕ)) → AreSpelled margin xs ys → (rest : List Piece) (tail : List ℕ) → S rest ≡ codes "\n" ++ tail
      → S (in_a_row (new_line margin) (new_line margin) xs rest) ≡ codes "\n" ++ (t.in_a_row ys ++ tail)
  row_in margin [] [] all rest tail so = so
  row_in margin [] (y ∷ ys) all rest tail so = absurd all
  row_in margin (x ∷ xs) [] all rest tail so = absurd all
  row_in margin (x ∷ xs) (y ∷ ys) all rest tail so =
      let text = all.0.text in
      let regrouped : new_line margin ++ (text ++ (codes "\n" ++ (t.in_a_row ys ++ tail))) ≡ codes "\n" ++ ((line margin text ++ t.in_a_row ys) ++ tail) = simp append_assoc in
      all.0.spells (new_line margin) (in_a_row (new_line margin) (new_line margin) xs rest)
      ∙ ap (λ (zs : List ℕ). new_line margin ++ (text ++ zs)) (row_in margin xs ys all.1 rest tail so)
      ∙ regrouped
      ∙ ap (λ (zs : List ℕ). codes "\n" ++ ((zs ++ t.in_a_row ys) ++ tail)) (sym all.0.is_line)

  -- ---- lets and blocks

  let_in : (margin : List ℕ) (l : Let) → IsSpelled margin (let_item l) (let_line margin l)
  let_in margin (assign n bound e) = record {
    site = refl;
    text = codes "let " ++ (bound.text ++ (codes " = " ++ expr_text e));
    is_line = refl;
    spells = λ gap rest. ap (λ (ys : List ℕ). gap ++ (codes "let " ++ (bound.text ++ (codes " =" ++ ys)))) (expr_in space e rest) ∙ simp append_assoc;
  }

  lets_in : (margin : List ℕ) (ls : Lets) → AreSpelled margin (let_items ls) (let_lines margin ls)
  lets_in margin no_lets = tt
  lets_in margin (more_lets l ls) = (let_in margin l, lets_in margin ls)

  mutual
    body_in : (margin : List ℕ) (b : Body) (rest : List Piece) → S (body_pieces margin b rest) ≡ body_text margin b ++ S rest
    body_in margin (body n ls ds) rest =
        ap (λ (ys : List ℕ). codes " {" ++ ys)
        (row_in (within margin) (merged (let_items ls) (disj_items (within margin) ds)) (merged (let_lines (within margin) ls) (disj_lines (within margin) ds))
        (merged_in (within margin) (let_items ls) (let_lines (within margin) ls) (lets_in (within margin) ls) (disj_items (within margin) ds) (disj_lines (within margin) ds) (disjs_in (within margin) ds))
        (mark (new_line margin) m.RBrace rest) (margin ++ (codes "}" ++ S rest)) refl)
        ∙ simp append_assoc

    disjs_in : (margin : List ℕ) (ds : Disjs) → AreSpelled margin (disj_items margin ds) (disj_lines margin ds)
    disjs_in margin no_disjs = tt
    disjs_in margin (more_disjs d ds) = (item_in margin d, disjs_in margin ds)

    item_in : (margin : List ℕ) (d : Disj) → IsSpelled margin (disj_item margin d) (disj_line margin d)
    item_in margin (disj n ps) = record { site = refl; text = parts_text margin ps; is_line = refl; spells = λ gap rest. parts_in margin gap ps rest }

    parts_in : (margin gap : List ℕ) (ps : Parts) (rest : List Piece) → S (parts_pieces margin gap ps rest) ≡ gap ++ (parts_text margin ps ++ S rest)
    parts_in margin gap no_parts rest = refl
    parts_in margin gap (more_parts p ps) rest = part_in margin gap p (more_parts_pieces margin ps rest) ∙ simp (append_assoc, more_parts_in margin ps rest)

    more_parts_in : (margin : List ℕ) (ps : Parts) (rest : List Piece) → S (more_parts_pieces margin ps rest) ≡ more_parts_text margin ps ++ S rest
    more_parts_in margin no_parts rest = refl
    more_parts_in margin (more_parts p ps) rest = ap (λ (ys : List ℕ). codes " or" ++ ys) (part_in margin space p (more_parts_pieces margin ps rest)) ∙ simp (append_assoc, more_parts_in margin ps rest)

    part_in : (margin gap : List ℕ) (p : Part) (rest : List Piece) → S (part_pieces margin gap p rest) ≡ gap ++ (part_text margin p ++ S rest)
    part_in margin gap (block n any q b) rest =
        name_if_in any gap (codes "some") (codes "some ") (λ g. head g q (query_pieces g q (body_pieces margin b rest)) (body_pieces margin b rest)) (head_text q (query_text q) ++ S (body_pieces margin b rest)) (λ ys. refl)
        (λ g. head_in g q (query_pieces g q (body_pieces margin b rest)) (body_pieces margin b rest) (query_text q) (query_in g q (body_pieces margin b rest)))
        ∙ simp (append_assoc, body_in margin b rest)
    part_in margin gap (guarded n c b) rest =
        ap (λ (ys : List ℕ). gap ++ (codes "when" ++ ys)) (conds_in space c (body_pieces margin b rest)) ∙ simp (append_assoc, body_in margin b rest)
    part_in margin gap (kinds n text c b) rest =
        ap (λ (ys : List ℕ). gap ++ (text ++ ys)) (opt_conds_in c (body_pieces margin b rest)) ∙ simp (append_assoc, body_in margin b rest)
    part_in margin gap (test n any q o negated right message) rest = cond_in gap (test n any q o negated right message) rest
    part_in margin gap (refer n negated text message) rest = cond_in gap (refer n negated text message) rest
    part_in margin gap (call n negated text es message) rest = cond_in gap (call n negated text es message) rest

  -- ---- files

  more_names_in : (ns : List Named) (rest : List Piece) → S (more_names ns rest) ≡ more_names_text ns ++ S rest
  more_names_in [] rest = refl
  more_names_in (n ∷ ns) rest = ap (λ (ys : List ℕ). codes ", " ++ (n.text ++ ys)) (more_names_in ns rest) ∙ simp append_assoc

  params_in : (ns : List Named) (rest : List Piece) → S (params ns rest) ≡ params_text ns ++ S rest
  params_in [] rest = refl
  params_in (n ∷ ns) rest = ap (λ (ys : List ℕ). codes "(" ++ (n.text ++ ys)) (more_names_in ns (mark [] m.RParen rest)) ∙ simp append_assoc

  rule_in : (r : Rule) → IsSpelled [] (rule_item r) (rule_line r)
  rule_in r = record {
    site = refl;
    text = codes "rule " ++ (r.name.text ++ (params_text r.params ++ (opt_conds_text r.cond ++ body_text [] r.body)));
    is_line = refl;
    spells = λ gap rest. simp (append_assoc, params_in r.params (opt_conds_pieces r.cond (body_pieces [] r.body rest)), opt_conds_in r.cond (body_pieces [] r.body rest), body_in [] r.body rest);
  }

  rules_in : (rs : List Rule) → AreSpelled [] (rule_items rs) (rule_lines rs)
  rules_in [] = tt
  rules_in (r ∷ rs) = (rule_in r, rules_in rs)

  file_in : (f : File) → AreSpelled [] (file_items f) (merged (let_lines [] f.lets) (merged (rule_lines f.rules) (disj_lines [] f.loose)))
  file_in f =
      merged_in [] (let_items f.lets) (let_lines [] f.lets) (lets_in [] f.lets) (merged (rule_items f.rules) (disj_items [] f.loose)) (merged (rule_lines f.rules) (disj_lines [] f.loose))
      (merged_in [] (rule_items f.rules) (rule_lines f.rules) (rules_in f.rules) (disj_items [] f.loose) (disj_lines [] f.loose) (disjs_in [] f.loose))

-- in a file the first item stands behind nothing, and a new line behind the last
rows_in : (xs : List (ℕ × Spell)) (ys : List (ℕ × List ℕ)) → AreSpelled (end_of xs) [] xs ys → spelled (in_a_row [] (new_line []) xs []) (end_of xs) ≡ t.in_a_row ys
rows_in [] [] all = refl
rows_in [] (y ∷ ys) all = absurd all
rows_in (x ∷ xs) [] all = absurd all
rows_in (x ∷ xs) (y ∷ ys) all =
    let text = all.0.text in
    let regrouped : text ++ (codes "\n" ++ (t.in_a_row ys ++ [])) ≡ line [] text ++ t.in_a_row ys = simp (append_assoc, append-nil) in
    all.0.spells [] (in_a_row (new_line []) (new_line []) xs [])
    ∙ ap (λ (zs : List ℕ). text ++ zs) (row_in (codes "\n") [] xs ys all.1 [] [] refl)
    ∙ regrouped
    ∙ ap (λ (zs : List ℕ). zs ++ t.in_a_row ys) (sym all.0.is_line)

-- the canonical text of a file is what its tokens spell
pub rule_text-in-pieces : (f : File) → spelled (rule_pieces f) (file_end f) ≡ rule_text f
rule_text-in-pieces f = rows_in (file_items f) (merged (let_lines [] f.lets) (merged (rule_lines f.rules) (disj_lines [] f.loose))) (file_in (file_end f) f)
