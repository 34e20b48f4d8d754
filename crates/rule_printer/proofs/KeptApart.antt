-- The tokens of a syntax that has a spelling keep apart from each other: by recursion on the syntax.
use Rattle.std.proofs.Common.{◌≡◌, ℕ, Bool, true, false, List, [], ◌∷◌, ◌++◌, Option, Some, None, codes, refl, sym, subst, nat_lt, if◌then◌else◌}
use Rattle.std.specs.Prelude.{◌&&◌, is_none}
use Rattle.std.specs.Str.{bytes_eq}
use Rattle.doc_values.specs.Tree.{Label, Forest, Nil, Node}
use Rattle.decimals.specs.declared.decimal.Num.TheVariants as num
use Rattle.decimals.specs.declared.decimal.Range.{Range}
use Rattle.doc_values.specs.declared.kind.Kind.{Kind}
use Rattle.doc_values.specs.declared.kind.Kind.TheVariants as kind
use Rattle.guard_lexer.specs.declared.token.Mark.TheVariants as m
use Rattle.guard_lexer.specs.declared.token.TokenKind.TheVariants as k
use Rattle.guard_lexer.specs.Forms.{IsName, HasForm, IsWorth, form_of}
use Rattle.guard_lexer.specs.Lexes.{is_dot}
use Rattle.literal_parser.specs.Lexemes.{keyword_of}
use Rattle.guard_syntax.specs.Named.{Named}
use Rattle.guard_syntax.specs.declared.syntax.Op.{Op}
use Rattle.guard_syntax.specs.declared.syntax.Op.TheVariants as op
use Rattle.guard_syntax.specs.Syntax.{Body, Lets, Let, Conds, OptConds, Disjs, Disj, Parts, Part, Query, Steps, Step, Expr, OptExpr, Exprs, Rule, File, body, no_lets, more_lets, assign, conds, no_conds, with_conds, no_disjs, more_disjs, disj, no_parts, more_parts, block, guarded, kinds, test, refer, call, query, no_steps, more_steps, this, var, key, index, every, items, splice, filter, keys, literal, function, asked, found, no_expr, with_expr, no_exprs, more_exprs}
use Rattle.rule_meaning.specs.Functions.{truth_text}
use Rattle.rule_spelling.specs.Spelling.{quoted}
use Rattle.rule_spelling.specs.code.Pieces.{Piece, AreApart, IsInRange, next_apart}
use Rattle.rule_spelling.proofs.Opened.{White, Loose, Dotted, Opened, loose_dotted, behind_gap, one, name_opened, str_opened, pattern_opened, variable_opened, type_opened, number_opened, mark_opened, spaced, white_space, choose, Behind, behind_dot, index_behind, dot_dotted, closed, opening, loose_opened, truth_name, comma_loose}
use Rattle.rule_spelling.proofs.Words.{named, text_word, note_is}
use Rattle.rule_words.specs.WordText.{operator_word, is_name, is_free_name, is_bracketed, space_behind, space_within}
use Rattle.rule_printer.specs.RuleText.{within, merged, before_each}
use Rattle.rule_printer.specs.code.RulePieces.{space, new_line, name, mark, str, variable, number, index_number, name_if, operator_kind, plain_operator, operator, note, dotted_key, first_key, capture, range, opening_end, closing_end, value, entry, item_pieces, more_item_pieces, entry_pieces, more_entry_pieces, literal_pieces, start, head, Spell, in_a_row, body_pieces, let_items, let_item, disj_items, disj_item, parts_pieces, more_parts_pieces, part_pieces, conds_pieces, disjs_pieces, more_disjs_pieces, disj_pieces, alternatives_pieces, more_alternatives_pieces, cond_pieces, opt_conds_pieces, query_pieces, asked_pieces, steps_pieces, step_pieces, expr_pieces, opt_expr_pieces, exprs_pieces, more_exprs_pieces, more_names, params, rule_item, rule_items, file_items, rule_pieces, end_of, file_end}
use Rattle.rule_printer.specs.code.Spellable.{IsKey, IsOptKey, IsCapture, IsMessage, IsValue, AreValues, IsLiteral, IsStart, AreConds, SomeDisjs, AreDisjs, IsDisj, SomeAlternatives, AreAlternatives, IsCond, IsQuery, AreSteps, IsStep, IsExpr, IsOptExpr, AreExprs, AreOptConds, IsLet, AreLets, IsBody, AreItems, IsItem, SomeParts, AreParts, IsPart, AreNames, IsRule, AreRules, HasSpelling}

-- ---- words

operator_dot : (o : Op) → is_dot (operator_kind o) ≡ false
operator_dot op.Exists = refl
operator_dot op.Empty = refl
operator_dot op.IsString = refl
operator_dot op.IsList = refl
operator_dot op.IsStruct = refl
operator_dot op.IsBool = refl
operator_dot op.IsInt = refl
operator_dot op.IsFloat = refl
operator_dot op.IsNull = refl
operator_dot op.Eq = refl
operator_dot op.Lt = refl
operator_dot op.Le = refl
operator_dot op.Gt = refl
operator_dot op.Ge = refl
operator_dot op.Within = refl

operator_form : (o : Op) → HasForm false (form_of (operator_kind o)) (operator_word o) × IsWorth (operator_kind o) (operator_word o)
operator_form op.Exists = (named (codes "exists") refl, tt)
operator_form op.Empty = (named (codes "empty") refl, tt)
operator_form op.IsString = (named (codes "is_string") refl, tt)
operator_form op.IsList = (named (codes "is_list") refl, tt)
operator_form op.IsStruct = (named (codes "is_struct") refl, tt)
operator_form op.IsBool = (named (codes "is_bool") refl, tt)
operator_form op.IsInt = (named (codes "is_int") refl, tt)
operator_form op.IsFloat = (named (codes "is_float") refl, tt)
operator_form op.IsNull = (named (codes "is_null") refl, tt)
operator_form op.Eq = (refl, tt)
operator_form op.Lt = (refl, tt)
operator_form op.Le = (refl, tt)
operator_form op.Gt = (refl, tt)
operator_form op.Ge = (refl, tt)
operator_form op.Within = (named (codes "IN") refl, tt)

plain_opened : (gap : List ℕ) (o : Op) (rest : List Piece) → White gap → Loose rest → Opened gap (plain_operator gap o rest)
plain_opened gap o rest w l =
    one gap (operator_kind o) (operator_word o) rest w (operator_form o).0 (operator_form o).1 (l.next false (operator_kind o)) (subst (λ v. AreApart v rest) (sym (operator_dot o)) l.apart)

banged : (o : Op) (rest : List Piece) → next_apart false (k.Mark m.Bang) (plain_operator [] o rest) ≡ true → Loose rest → Loose (mark space m.Bang (plain_operator [] o rest))
banged o rest e l = spaced _ (mark_opened space m.Bang (plain_operator [] o rest) white_space e (plain_opened [] o rest tt l).apart)

operator_loose : (o : Op) (negated : Bool) (rest : List Piece) → Loose rest → Loose (operator o negated rest)
operator_loose o false rest l = spaced _ (plain_opened space o rest white_space l)
operator_loose op.Eq true rest l = spaced _ (mark_opened space m.Differs rest white_space (l.next false (k.Mark m.Differs)) l.apart)
operator_loose op.Lt true rest l = banged op.Lt rest refl l
operator_loose op.Le true rest l = banged op.Le rest refl l
operator_loose op.Gt true rest l = banged op.Gt rest refl l
operator_loose op.Ge true rest l = banged op.Ge rest refl l
operator_loose op.Within true rest l = banged op.Within rest refl l
operator_loose op.Exists true rest l = banged op.Exists rest refl l
operator_loose op.Empty true rest l = banged op.Empty rest refl l
operator_loose op.IsString true rest l = banged op.IsString rest refl l
operator_loose op.IsList true rest l = banged op.IsList rest refl l
operator_loose op.IsStruct true rest l = banged op.IsStruct rest refl l
operator_loose op.IsBool true rest l = banged op.IsBool rest refl l
operator_loose op.IsInt true rest l = banged op.IsInt rest refl l
operator_loose op.IsFloat true rest l = banged op.IsFloat rest refl l
operator_loose op.IsNull true rest l = banged op.IsNull rest refl l

note_loose : (message : Option (List ℕ)) (rest : List Piece) → IsMessage message → Loose rest → Loose (note message rest)
note_loose None rest h l = l
note_loose (Some text) rest h l =
    spaced _ (one space k.Note (codes "<< " ++ (text ++ codes " >>")) rest white_space (note_is false text h.open_end h.front h.back).0 tt (l.next false k.Note) l.apart)

name_if_opened : (b : Bool) (gap word : List ℕ) (behind : List ℕ → List Piece) → White gap → IsName word → ((g : List ℕ) → White g → Opened g (behind g)) → Opened gap (name_if b gap word behind)
name_if_opened true gap word behind w h f = name_opened gap word (behind space) w h (loose_dotted _ (spaced _ (f space white_space)))
name_if_opened false gap word behind w h f = f gap w

first_true : (a b : Bool) → (a && b) ≡ true → a ≡ true
first_true true b e = refl
first_true false b e = e

first_key_opened : (gap text : List ℕ) (rest : List Piece) → White gap → IsKey text → Dotted rest → Opened gap (first_key gap text rest)
first_key_opened gap text rest w h l =
    choose (is_free_name text) (name gap text rest) (str gap text rest) (Opened gap) (λ t. name_opened gap text rest w (named text (first_true (is_name text) (is_none (keyword_of text)) t)) l) (λ _. str_opened gap text rest w h l)

key_behind : (text : List ℕ) (rest : List Piece) → IsKey text → Dotted rest → Behind (dotted_key text rest)
key_behind text rest h l =
    choose (is_name text) (name [] text rest) (str [] text rest) Behind (λ t. behind_dot k.Name text rest (named text t) tt (l.next true k.Name (λ e. absurd cc)) l.apart)
    (λ _. behind_dot k.Str (quoted text) rest (text_word true text h).0 tt (l.next true k.Str (λ e. absurd cc)) l.apart)

capture_loose : (bound : Option Named) (rest : List Piece) → IsCapture bound → Loose rest → Loose (capture bound rest)
capture_loose None rest h l = l
capture_loose (Some n) rest h l = spaced _ (name_opened space n.text (mark space m.Bar rest) white_space h (loose_dotted _ (closed space m.Bar 124 rest white_space refl refl refl (loose_dotted rest l))))

-- ---- literals

opening_end_loose : (v : Bool) (rest : List Piece) → Opened [] rest → Loose (mark [] (opening_end v) rest)
opening_end_loose true rest o = opening [] m.LBracket 91 rest tt refl refl refl refl o
opening_end_loose false rest o = opening [] m.LParen 40 rest tt refl refl refl refl o

closing_end_loose : (v : Bool) (rest : List Piece) → Loose rest → Loose (mark [] (closing_end v) rest)
closing_end_loose true rest l = closed [] m.RBracket 93 rest tt refl refl refl (loose_dotted rest l)
closing_end_loose false rest l = closed [] m.RParen 41 rest tt refl refl refl (loose_dotted rest l)

range_opened : (gap : List ℕ) (r : Range) (rest : List Piece) → White gap → IsInRange r.low → IsInRange r.high → Loose rest → Opened gap (range gap r rest)
range_opened gap r rest w low high l =
    let end = closing_end_loose r.high_in rest l in
    let second = number_opened [] r.high (mark [] (closing_end r.high_in) rest) tt high end in
    let comma = opening [] m.Comma 44 (number [] r.high (mark [] (closing_end r.high_in) rest)) tt refl refl refl refl second in
    let first = number_opened [] r.low (mark [] m.Comma (number [] r.high (mark [] (closing_end r.high_in) rest))) tt low comma in
    let begin = opening_end_loose r.low_in (number [] r.low (mark [] m.Comma (number [] r.high (mark [] (closing_end r.high_in) rest)))) first in
    name_opened gap (codes "r") (mark [] (opening_end r.low_in) (number [] r.low (mark [] m.Comma (number [] r.high (mark [] (closing_end r.high_in) rest))))) w (named (codes "r") refl) (loose_dotted _ begin)

-- what is spelled between brackets
abbrev Inside : (List Piece → List Piece) → Type 0
Inside f = (rest : List Piece) → Loose rest → Opened [] (f rest)

value_opened : (gap : List ℕ) (l : Label) (kd : Kind) (of_items of_entries : List Piece → List Piece) (rest : List Piece) → White gap → IsValue l kd → Inside of_items → Inside of_entries → Loose rest
    → Opened gap (value gap l kd of_items of_entries rest)
value_opened gap l kind.List f g rest w h i j r =
    let o = i (mark [] m.RBracket rest) (closed [] m.RBracket 93 rest tt refl refl refl (loose_dotted rest r)) in
    mark_opened gap m.LBracket (f (mark [] m.RBracket rest)) w (o.next false (k.Mark m.LBracket) (λ _. refl)) o.apart
value_opened gap l kind.Map f g rest w h i j r =
    let o = j (mark [] m.RBrace rest) (closed [] m.RBrace 125 rest tt refl refl refl (loose_dotted rest r)) in
    mark_opened gap m.LBrace (g (mark [] m.RBrace rest)) w (o.next false (k.Mark m.LBrace) (λ _. refl)) o.apart
value_opened gap l (kind.Limits r) f g rest w h i j t = range_opened gap r rest w h.0 h.1 t
value_opened gap l kind.Text f g rest w h i j r = str_opened gap l.text rest w h (loose_dotted rest r)
value_opened gap l kind.Pattern f g rest w h i j r = pattern_opened gap l.text rest w h (loose_dotted rest r)
value_opened gap l (kind.Whole n) f g rest w h i j r = number_opened gap (num.Whole n) rest w h r
value_opened gap l (kind.Fraction d) f g rest w h i j r = number_opened gap (num.Fraction d) rest w h r
value_opened gap l (kind.Truth b) f g rest w h i j r = name_opened gap (truth_text b) rest w (truth_name b) (loose_dotted rest r)
value_opened gap l kind.Null f g rest w h i j r = name_opened gap (codes "null") rest w (named (codes "null") refl) (loose_dotted rest r)

entry_opened : (gap : List ℕ) (at_key : Option (List ℕ)) (of_value : List ℕ → List Piece) → White gap → IsOptKey at_key → ((g : List ℕ) → White g → Opened g (of_value g)) → Opened gap (entry gap at_key of_value)
entry_opened gap None of_value w h f = f gap w
entry_opened gap (Some text) of_value w h f =
    let v = spaced (of_value space) (f space white_space) in
    let colon = mark_opened [] m.Colon (of_value space) tt (v.next false (k.Mark m.Colon)) v.apart in
    one gap k.Str (quoted text) (mark [] m.Colon (of_value space)) w (text_word false text h).0 tt refl colon.apart

mutual
  items_inside : (f : Forest) → AreValues f → Inside (item_pieces f)
  items_inside Nil h rest r = loose_opened [] rest r
  items_inside (Node l kids more) (hk, v, ks, h) rest r =
      value_opened [] l l.kind (item_pieces kids) (entry_pieces kids) (more_item_pieces more rest) tt v (items_inside kids ks) (entries_inside kids ks) (more_items more h rest r)

  more_items : (f : Forest) → AreValues f → (rest : List Piece) → Loose rest → Loose (more_item_pieces f rest)
  more_items Nil h rest r = r
  more_items (Node l kids more) (hk, v, ks, h) rest r =
      comma_loose (value space l l.kind (item_pieces kids) (entry_pieces kids) (more_item_pieces more rest))
      (value_opened space l l.kind (item_pieces kids) (entry_pieces kids) (more_item_pieces more rest) white_space v (items_inside kids ks) (entries_inside kids ks) (more_items more h rest r))

  entries_inside : (f : Forest) → AreValues f → Inside (entry_pieces f)
  entries_inside Nil h rest r = loose_opened [] rest r
  entries_inside (Node l kids more) (hk, v, ks, h) rest r =
      entry_opened [] l.key (λ gap. value gap l l.kind (item_pieces kids) (entry_pieces kids) (more_entry_pieces more rest)) tt hk
      (λ g w. value_opened g l l.kind (item_pieces kids) (entry_pieces kids) (more_entry_pieces more rest) w v (items_inside kids ks) (entries_inside kids ks) (more_entries more h rest r))

  more_entries : (f : Forest) → AreValues f → (rest : List Piece) → Loose rest → Loose (more_entry_pieces f rest)
  more_entries Nil h rest r = r
  more_entries (Node l kids more) (hk, v, ks, h) rest r =
      comma_loose (entry space l.key (λ gap. value gap l l.kind (item_pieces kids) (entry_pieces kids) (more_entry_pieces more rest)))
      (entry_opened space l.key (λ gap. value gap l l.kind (item_pieces kids) (entry_pieces kids) (more_entry_pieces more rest)) white_space hk
      (λ g w. value_opened g l l.kind (item_pieces kids) (entry_pieces kids) (more_entry_pieces more rest) w v (items_inside kids ks) (entries_inside kids ks) (more_entries more h rest r)))

literal_opened : (gap : List ℕ) (f : Forest) (rest : List Piece) → White gap → IsLiteral f → Loose rest → Opened gap (literal_pieces gap f rest)
literal_opened gap Nil rest w h r = absurd h
literal_opened gap (Node l kids more) rest w (v, ks) r = value_opened gap l l.kind (item_pieces kids) (entry_pieces kids) rest w v (items_inside kids ks) (entries_inside kids ks) r

-- ---- conditions

white_behind : (text : List ℕ) → White (space_behind text)
white_behind text = by (bytes_eq text (codes "r"))
  where
    by : (v : Bool) → White (if v then codes " " else [])
    by true = (refl, tt)
    by false = tt

white_within : (s : Step) (ss : Steps) → White (space_within s ss)
white_within (key n text) (more_steps step steps) = by (is_bracketed step)
  where
    by : (v : Bool) → White (if v then space_behind text else [])
    by true = white_behind text
    by false = tt
white_within (key n text) no_steps = tt
white_within (this n) ss = tt
white_within (var n text) ss = tt
white_within (index n i) ss = tt
white_within (every n) ss = tt
white_within (items n) ss = tt
white_within (splice n b) ss = tt
white_within (filter n b c) ss = tt
white_within (keys n b o v e) ss = tt

start_opened : (gap : List ℕ) (s : Step) (rest : List Piece) → White gap → IsStart s → Dotted rest → Opened gap (start gap s (step_pieces gap s rest) rest)
start_opened gap (this n) rest w h l = name_opened gap (codes "this") rest w (named (codes "this") refl) l
start_opened gap (var n text) rest w h l = variable_opened gap text rest w h l
start_opened gap (key n text) rest w h l = first_key_opened gap text rest w h l
start_opened gap (index n i) rest w h l = absurd h
start_opened gap (every n) rest w h l = absurd h
start_opened gap (items n) rest w h l = absurd h
start_opened gap (splice n b) rest w h l = absurd h
start_opened gap (filter n b c) rest w h l = absurd h
start_opened gap (keys n b o v e) rest w h l = absurd h

mutual
  conds_opened : (gap : List ℕ) (c : Conds) (rest : List Piece) → White gap → AreConds c → Loose rest → Opened gap (conds_pieces gap c rest)
  conds_opened gap (conds n ds) rest w h r = disjs_opened gap ds rest w h r

  disjs_opened : (gap : List ℕ) (ds : Disjs) (rest : List Piece) → White gap → SomeDisjs ds → Loose rest → Opened gap (disjs_pieces gap ds rest)
  disjs_opened gap no_disjs rest w h r = absurd h
  disjs_opened gap (more_disjs d ds) rest w (h, hs) r = disj_opened gap d (more_disjs_pieces ds rest) w h (more_disjs_loose ds rest hs r)

  more_disjs_loose : (ds : Disjs) (rest : List Piece) → AreDisjs ds → Loose rest → Loose (more_disjs_pieces ds rest)
  more_disjs_loose no_disjs rest h r = r
  more_disjs_loose (more_disjs d ds) rest (h, hs) r = spaced _ (disj_opened space d (more_disjs_pieces ds rest) white_space h (more_disjs_loose ds rest hs r))

  disj_opened : (gap : List ℕ) (d : Disj) (rest : List Piece) → White gap → IsDisj d → Loose rest → Opened gap (disj_pieces gap d rest)
  disj_opened gap (disj n ps) rest w h r = alternatives_opened gap ps rest w h r

  alternatives_opened : (gap : List ℕ) (ps : Parts) (rest : List Piece) → White gap → SomeAlternatives ps → Loose rest → Opened gap (alternatives_pieces gap ps rest)
  alternatives_opened gap no_parts rest w h r = absurd h
  alternatives_opened gap (more_parts p ps) rest w (h, hs) r = cond_opened gap p (more_alternatives_pieces ps rest) w h (more_alternatives_loose ps rest hs r)

  more_alternatives_loose : (ps : Parts) (rest : List Piece) → AreAlternatives ps → Loose rest → Loose (more_alternatives_pieces ps rest)
  more_alternatives_loose no_parts rest h r = r
  more_alternatives_loose (more_parts p ps) rest (h, hs) r =
      spaced _ (name_opened space (codes "or") (cond_pieces space p (more_alternatives_pieces ps rest)) white_space (named (codes "or") refl)
      (loose_dotted _ (spaced _ (cond_opened space p (more_alternatives_pieces ps rest) white_space h (more_alternatives_loose ps rest hs r)))))

  cond_opened : (gap : List ℕ) (p : Part) (rest : List Piece) → White gap → IsCond p → Loose rest → Opened gap (cond_pieces gap p rest)
  cond_opened gap (block n any q b) rest w h r = absurd h
  cond_opened gap (guarded n c b) rest w h r = absurd h
  cond_opened gap (kinds n text c b) rest w h r = absurd h
  cond_opened gap (test n any q o negated right message) rest w (hq, he, hm) r =
      name_if_opened any gap (codes "some") (λ g. query_pieces g q (operator o negated (opt_expr_pieces right (note message rest)))) w (named (codes "some") refl)
      (λ g v. query_opened g q (operator o negated (opt_expr_pieces right (note message rest))) v hq (operator_loose o negated (opt_expr_pieces right (note message rest)) (opt_expr_loose right (note message rest) he (note_loose message rest hm r))))
  cond_opened gap (refer n negated text message) rest w (h, hm) r =
      name_if_opened negated gap (codes "not") (λ g. name g text (note message rest)) w (named (codes "not") refl) (λ g v. name_opened g text (note message rest) v h (loose_dotted _ (note_loose message rest hm r)))
  cond_opened gap (call n negated text es message) rest w (h, hs, hm) r =
      name_if_opened negated gap (codes "not") (λ g. name g text (mark [] m.LParen (exprs_pieces es (mark [] m.RParen (note message rest))))) w (named (codes "not") refl)
      (λ g v. name_opened g text (mark [] m.LParen (exprs_pieces es (mark [] m.RParen (note message rest)))) v h
      (loose_dotted _ (opening [] m.LParen 40 (exprs_pieces es (mark [] m.RParen (note message rest))) tt refl refl refl refl
      (exprs_opened es (mark [] m.RParen (note message rest)) hs (closed [] m.RParen 41 (note message rest) tt refl refl refl (loose_dotted _ (note_loose message rest hm r)))))))

  query_opened : (gap : List ℕ) (q : Query) (rest : List Piece) → White gap → IsQuery q → Loose rest → Opened gap (query_pieces gap q rest)
  query_opened gap (query n no_steps) rest w h r = absurd h
  query_opened gap (query n (more_steps s ss)) rest w (h, hs) r = start_opened gap s (steps_pieces [] ss rest) w h (steps_dotted [] ss rest tt hs r)

  asked_opened : (gap : List ℕ) (q : Query) (rest : List Piece) → White gap → IsQuery q → Loose rest → Opened gap (asked_pieces gap q rest)
  asked_opened gap (query n no_steps) rest w h r = absurd h
  asked_opened gap (query n (more_steps s ss)) rest w (h, hs) r = start_opened gap s (steps_pieces (space_within s ss) ss rest) w h (steps_dotted (space_within s ss) ss rest (white_within s ss) hs r)

  steps_dotted : (gap : List ℕ) (ss : Steps) (rest : List Piece) → White gap → AreSteps ss → Loose rest → Dotted (steps_pieces gap ss rest)
  steps_dotted gap no_steps rest w h r = loose_dotted rest r
  steps_dotted gap (more_steps s ss) rest w (h, hs) r = step_dotted gap s (steps_pieces [] ss rest) w h (steps_dotted [] ss rest tt hs r)

  step_dotted : (gap : List ℕ) (s : Step) (rest : List Piece) → White gap → IsStep s → Dotted rest → Dotted (step_pieces gap s rest)
  step_dotted gap (this n) rest w h r = absurd h
  step_dotted gap (var n text) rest w h r = absurd h
  step_dotted gap (key n text) rest w h r = dot_dotted gap (dotted_key text rest) w (key_behind text rest h r)
  step_dotted gap (index n i) rest w h r = dot_dotted gap (index_number i rest) w (index_behind i rest h r)
  step_dotted gap (every n) rest w h r = dot_dotted gap (mark [] m.Star rest) w (behind_dot (k.Mark m.Star) (codes "*") rest refl tt (r.next true (k.Mark m.Star) (λ e. absurd cc)) r.apart)
  step_dotted gap (items n) rest w h r =
      let end = closed [] m.RBracket 93 rest tt refl refl refl r in
      let star = closed [] m.Star 42 (mark [] m.RBracket rest) tt refl refl refl (loose_dotted _ end) in
      loose_dotted _ (closed gap m.LBracket 91 (mark [] m.Star (mark [] m.RBracket rest)) w refl refl refl (loose_dotted _ star))
  step_dotted gap (splice n bound) rest w h r = dot_dotted gap (variable [] bound.text rest) w (behind_dot k.Var (codes "%" ++ bound.text) rest (refl, h) tt (r.next true k.Var (λ e. absurd cc)) r.apart)
  step_dotted gap (filter n bound c) rest w (hb, hc) r =
      let end = closed space m.RBracket 93 rest white_space refl refl refl r in
      let body = spaced _ (conds_opened space c (mark space m.RBracket rest) white_space hc end) in
      loose_dotted _ (closed gap m.LBracket 91 (capture bound (conds_pieces space c (mark space m.RBracket rest))) w refl refl refl (loose_dotted _ (capture_loose bound (conds_pieces space c (mark space m.RBracket rest)) hb body)))
  step_dotted gap (keys n bound o negated e) rest w (hb, he) r =
      let end = closed space m.RBracket 93 rest white_space refl refl refl r in
      let side = spaced _ (expr_opened space e (mark space m.RBracket rest) white_space he end) in
      let word = spaced _ (name_opened space (codes "keys") (operator o negated (expr_pieces space e (mark space m.RBracket rest))) white_space (named (codes "keys") refl) (loose_dotted _ (operator_loose o negated (expr_pieces space e (mark space m.RBracket rest)) side))) in
      loose_dotted _ (closed gap m.LBracket 91 (capture bound (name space (codes "keys") (operator o negated (expr_pieces space e (mark space m.RBracket rest))))) w refl refl refl
      (loose_dotted _ (capture_loose bound (name space (codes "keys") (operator o negated (expr_pieces space e (mark space m.RBracket rest)))) hb word)))

  expr_opened : (gap : List ℕ) (e : Expr) (rest : List Piece) → White gap → IsExpr e → Loose rest → Opened gap (expr_pieces gap e rest)
  expr_opened gap (literal n tree) rest w h r = literal_opened gap tree rest w h r
  expr_opened gap (function n text es) rest w (h, hs) r =
      name_opened gap text (mark (space_behind text) m.LParen (exprs_pieces es (mark [] m.RParen rest))) w h
      (loose_dotted _ (opening (space_behind text) m.LParen 40 (exprs_pieces es (mark [] m.RParen rest)) (white_behind text) refl refl refl refl
      (exprs_opened es (mark [] m.RParen rest) hs (closed [] m.RParen 41 rest tt refl refl refl (loose_dotted rest r)))))
  expr_opened gap (asked q) rest w h r = asked_opened gap q rest w h r
  expr_opened gap (found n q) rest w h r = name_opened gap (codes "some") (query_pieces space q rest) w (named (codes "some") refl) (loose_dotted _ (spaced _ (query_opened space q rest white_space h r)))

  opt_expr_loose : (e : OptExpr) (rest : List Piece) → IsOptExpr e → Loose rest → Loose (opt_expr_pieces e rest)
  opt_expr_loose no_expr rest h r = r
  opt_expr_loose (with_expr e) rest h r = spaced _ (expr_opened space e rest white_space h r)

  exprs_opened : (es : Exprs) (rest : List Piece) → AreExprs es → Loose rest → Opened [] (exprs_pieces es rest)
  exprs_opened no_exprs rest h r = loose_opened [] rest r
  exprs_opened (more_exprs e es) rest (h, hs) r = expr_opened [] e (more_exprs_pieces es rest) tt h (more_exprs_loose es rest hs r)

  more_exprs_loose : (es : Exprs) (rest : List Piece) → AreExprs es → Loose rest → Loose (more_exprs_pieces es rest)
  more_exprs_loose no_exprs rest h r = r
  more_exprs_loose (more_exprs e es) rest (h, hs) r = comma_loose (expr_pieces space e (more_exprs_pieces es rest)) (expr_opened space e (more_exprs_pieces es rest) white_space h (more_exprs_loose es rest hs r))

opt_conds_loose : (c : OptConds) (rest : List Piece) → AreOptConds c → Loose rest → Loose (opt_conds_pieces c rest)
opt_conds_loose no_conds rest h r = r
opt_conds_loose (with_conds c) rest h r =
    spaced _ (name_opened space (codes "when") (conds_pieces space c rest) white_space (named (codes "when") refl) (loose_dotted _ (spaced _ (conds_opened space c rest white_space h r))))

-- ---- items

abbrev IsLine : ℕ × Spell → Type 0
IsLine item = (gap : List ℕ) (rest : List Piece) → White gap → Loose rest → Opened gap (item.1 gap rest)

abbrev AreLines : List (ℕ × Spell) → Type 0
AreLines [] = Unit {0}
AreLines (item ∷ more) = IsLine item × AreLines more

before_each_lines : (a : ℕ × Spell) (f : List (ℕ × Spell) → List (ℕ × Spell)) → IsLine a → ((xs : List (ℕ × Spell)) → AreLines xs → AreLines (f xs)) → (xs : List (ℕ × Spell)) → AreLines xs → AreLines (before_each a f xs)
before_each_lines a f h g [] hs = (h, g [] tt)
before_each_lines a f h g (x ∷ xs) (hx, hs) = by (nat_lt x.0 a.0) (hx, before_each_lines a f h g xs hs) (h, g (x ∷ xs) (hx, hs))
  where
    by : (v : Bool) → AreLines (x ∷ before_each a f xs) → AreLines (a ∷ f (x ∷ xs)) → AreLines (if v then x ∷ before_each a f xs else a ∷ f (x ∷ xs))
    by true p q = p
    by false p q = q

merged_lines : (xs : List (ℕ × Spell)) → AreLines xs → (ys : List (ℕ × Spell)) → AreLines ys → AreLines (merged xs ys)
merged_lines [] h ys g = g
merged_lines (x ∷ xs) (h, hs) ys g = before_each_lines x (merged xs) h (λ zs k. merged_lines xs hs zs k) ys g

white_line : (margin : List ℕ) → White margin → White (new_line margin)
white_line margin w = (refl, w)

white_more : (margin : List ℕ) → White margin → White (within margin)
white_more [] w = (refl, (refl, tt))
white_more (b ∷ margin) (h, w) = (h, white_more margin w)

rows_loose : (margin : List ℕ) (xs : List (ℕ × Spell)) (rest : List Piece) → White margin → AreLines xs → Loose rest → Loose (in_a_row (new_line margin) (new_line margin) xs rest)
rows_loose margin [] rest w h r = r
rows_loose margin (x ∷ xs) rest w (h, hs) r = behind_gap 10 margin _ (h (new_line margin) (in_a_row (new_line margin) (new_line margin) xs rest) (white_line margin w) (rows_loose margin xs rest w hs r))

let_is_line : (l : Let) → IsLet l → IsLine (let_item l)
let_is_line (assign n bound e) (h, he) gap rest w r =
    let side = spaced _ (expr_opened space e rest white_space he r) in
    let equals = spaced _ (mark_opened space m.Equals (expr_pieces space e rest) white_space (side.next false (k.Mark m.Equals)) side.apart) in
    let bound_name = spaced _ (name_opened space bound.text (mark space m.Equals (expr_pieces space e rest)) white_space h (loose_dotted _ equals)) in
    name_opened gap (codes "let") (name space bound.text (mark space m.Equals (expr_pieces space e rest))) w (named (codes "let") refl) (loose_dotted _ bound_name)

lets_are_lines : (ls : Lets) → AreLets ls → AreLines (let_items ls)
lets_are_lines no_lets h = tt
lets_are_lines (more_lets l ls) (h, hs) = (let_is_line l h, lets_are_lines ls hs)

head_opened : (gap : List ℕ) (q : Query) (rest : List Piece) → White gap → IsQuery q → Loose rest → Opened gap (head gap q (query_pieces gap q rest) rest)
head_opened gap (query n no_steps) rest w h r = absurd h
head_opened gap (query n (more_steps (key i text) no_steps)) rest w (h, hs) r = str_opened gap text rest w h (loose_dotted rest r)
head_opened gap (query n (more_steps (key i text) (more_steps s ss))) rest w h r = query_opened gap (query n (more_steps (key i text) (more_steps s ss))) rest w h r
head_opened gap (query n (more_steps (this i) ss)) rest w h r = query_opened gap (query n (more_steps (this i) ss)) rest w h r
head_opened gap (query n (more_steps (var i text) ss)) rest w h r = query_opened gap (query n (more_steps (var i text) ss)) rest w h r
head_opened gap (query n (more_steps (index i j) ss)) rest w (h, hs) r = absurd h
head_opened gap (query n (more_steps (every i) ss)) rest w (h, hs) r = absurd h
head_opened gap (query n (more_steps (items i) ss)) rest w (h, hs) r = absurd h
head_opened gap (query n (more_steps (splice i b) ss)) rest w (h, hs) r = absurd h
head_opened gap (query n (more_steps (filter i b c) ss)) rest w (h, hs) r = absurd h
head_opened gap (query n (more_steps (keys i b o v e) ss)) rest w (h, hs) r = absurd h

mutual
  body_loose : (margin : List ℕ) (b : Body) (rest : List Piece) → White margin → IsBody b → Loose rest → Loose (body_pieces margin b rest)
  body_loose margin (body n ls ds) rest w (hl, hd) r =
      let all = merged_lines (let_items ls) (lets_are_lines ls hl) (disj_items (within margin) ds) (disjs_are_lines (within margin) ds (white_more margin w) hd) in
      let end = closed (new_line margin) m.RBrace 125 rest (white_line margin w) refl refl refl (loose_dotted rest r) in
      let rows = rows_loose (within margin) (merged (let_items ls) (disj_items (within margin) ds)) (mark (new_line margin) m.RBrace rest) (white_more margin w) all end in
      closed space m.LBrace 123 (in_a_row (new_line (within margin)) (new_line (within margin)) (merged (let_items ls) (disj_items (within margin) ds)) (mark (new_line margin) m.RBrace rest)) white_space refl refl refl (loose_dotted _ rows)

  disjs_are_lines : (margin : List ℕ) (ds : Disjs) → White margin → AreItems ds → AreLines (disj_items margin ds)
  disjs_are_lines margin no_disjs w h = tt
  disjs_are_lines margin (more_disjs d ds) w (h, hs) = (disj_is_line margin d w h, disjs_are_lines margin ds w hs)

  disj_is_line : (margin : List ℕ) (d : Disj) → White margin → IsItem d → IsLine (disj_item margin d)
  disj_is_line margin (disj n ps) v h gap rest w r = parts_opened margin gap ps rest v w h r

  parts_opened : (margin gap : List ℕ) (ps : Parts) (rest : List Piece) → White margin → White gap → SomeParts ps → Loose rest → Opened gap (parts_pieces margin gap ps rest)
  parts_opened margin gap no_parts rest v w h r = absurd h
  parts_opened margin gap (more_parts p ps) rest v w (h, hs) r = part_opened margin gap p (more_parts_pieces margin ps rest) v w h (more_parts_loose margin ps rest v hs r)

  more_parts_loose : (margin : List ℕ) (ps : Parts) (rest : List Piece) → White margin → AreParts ps → Loose rest → Loose (more_parts_pieces margin ps rest)
  more_parts_loose margin no_parts rest v h r = r
  more_parts_loose margin (more_parts p ps) rest v (h, hs) r =
      spaced _ (name_opened space (codes "or") (part_pieces margin space p (more_parts_pieces margin ps rest)) white_space (named (codes "or") refl)
      (loose_dotted _ (spaced _ (part_opened margin space p (more_parts_pieces margin ps rest) v white_space h (more_parts_loose margin ps rest v hs r)))))

  part_opened : (margin gap : List ℕ) (p : Part) (rest : List Piece) → White margin → White gap → IsPart p → Loose rest → Opened gap (part_pieces margin gap p rest)
  part_opened margin gap (block n any q b) rest v w (hq, hb) r =
      name_if_opened any gap (codes "some") (λ g. head g q (query_pieces g q (body_pieces margin b rest)) (body_pieces margin b rest)) w (named (codes "some") refl)
      (λ g u. head_opened g q (body_pieces margin b rest) u hq (body_loose margin b rest v hb r))
  part_opened margin gap (guarded n c b) rest v w (hc, hb) r =
      name_opened gap (codes "when") (conds_pieces space c (body_pieces margin b rest)) w (named (codes "when") refl)
      (loose_dotted _ (spaced _ (conds_opened space c (body_pieces margin b rest) white_space hc (body_loose margin b rest v hb r))))
  part_opened margin gap (kinds n text c b) rest v w (h, hc, hb) r =
      type_opened gap text (opt_conds_pieces c (body_pieces margin b rest)) w h (loose_dotted _ (opt_conds_loose c (body_pieces margin b rest) hc (body_loose margin b rest v hb r)))
  part_opened margin gap (test n any q o negated right message) rest v w h r = cond_opened gap (test n any q o negated right message) rest w h r
  part_opened margin gap (refer n negated text message) rest v w h r = cond_opened gap (refer n negated text message) rest w h r
  part_opened margin gap (call n negated text es message) rest v w h r = cond_opened gap (call n negated text es message) rest w h r

-- ---- files

more_names_loose : (ns : List Named) (rest : List Piece) → AreNames ns → Loose rest → Loose (more_names ns rest)
more_names_loose [] rest h r = r
more_names_loose (n ∷ ns) rest (h, hs) r = comma_loose (name space n.text (more_names ns rest)) (name_opened space n.text (more_names ns rest) white_space h (loose_dotted _ (more_names_loose ns rest hs r)))

params_loose : (ns : List Named) (rest : List Piece) → AreNames ns → Loose rest → Loose (params ns rest)
params_loose [] rest h r = r
params_loose (n ∷ ns) rest (h, hs) r =
    let end = closed [] m.RParen 41 rest tt refl refl refl (loose_dotted rest r) in
    opening [] m.LParen 40 (name [] n.text (more_names ns (mark [] m.RParen rest))) tt refl refl refl refl
    (name_opened [] n.text (more_names ns (mark [] m.RParen rest)) tt h (loose_dotted _ (more_names_loose ns (mark [] m.RParen rest) hs end)))

rule_is_line : (r : Rule) → IsRule r → IsLine (rule_item r)
rule_is_line r h gap rest w l =
    let block = body_loose [] r.body rest tt h.body l in
    let asked_for = opt_conds_loose r.cond (body_pieces [] r.body rest) h.cond block in
    let given = params_loose r.params (opt_conds_pieces r.cond (body_pieces [] r.body rest)) h.params asked_for in
    let called = spaced _ (name_opened space r.name.text (params r.params (opt_conds_pieces r.cond (body_pieces [] r.body rest))) white_space h.name (loose_dotted _ given)) in
    name_opened gap (codes "rule") (name space r.name.text (params r.params (opt_conds_pieces r.cond (body_pieces [] r.body rest)))) w (named (codes "rule") refl) (loose_dotted _ called)

rules_are_lines : (rs : List Rule) → AreRules rs → AreLines (rule_items rs)
rules_are_lines [] h = tt
rules_are_lines (r ∷ rs) (h, hs) = (rule_is_line r h, rules_are_lines rs hs)

nothing_loose : Loose []
nothing_loose = record { apart = tt; next = λ dot kind. refl }

row_apart : (xs : List (ℕ × Spell)) → AreLines xs → AreApart false (in_a_row [] (new_line []) xs [])
row_apart [] h = tt
row_apart (x ∷ xs) (h, hs) = (h [] (in_a_row (new_line []) (new_line []) xs []) tt (rows_loose [] xs [] tt hs nothing_loose)).apart

pub pieces_apart : (f : File) → HasSpelling f → AreApart false (rule_pieces f)
pieces_apart f h =
    row_apart (file_items f)
    (merged_lines (let_items f.lets) (lets_are_lines f.lets h.lets) (merged (rule_items f.rules) (disj_items [] f.loose))
    (merged_lines (rule_items f.rules) (rules_are_lines f.rules h.rules) (disj_items [] f.loose) (disjs_are_lines [] f.loose tt h.loose)))

white_end : (xs : List (ℕ × Spell)) → White (end_of xs)
white_end [] = tt
white_end (x ∷ xs) = (refl, tt)

pub end_white : (f : File) → White (file_end f)
end_white f = white_end (file_items f)
