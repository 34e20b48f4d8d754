-- Texts with what is read of them, worked out by hand.
use Rattle.std.proofs.Common.{◌≡◌, ℕ, true, false, refl, List, [], ◌∷◌, Some, None, codes, pos}
use Rattle.doc_values.specs.Tree.{Nil, Node}
use Rattle.decimals.specs.declared.decimal.Num.TheVariants as num
use Rattle.doc_values.specs.declared.kind.Kind.TheVariants as kind
use Rattle.guard_lexer.specs.declared.token.Mark.TheVariants as m
use Rattle.guard_lexer.specs.declared.token.Token.{Token}
use Rattle.guard_lexer.specs.declared.token.TokenKind.{TokenKind}
use Rattle.guard_lexer.specs.declared.token.TokenKind.TheVariants as k
use Rattle.guard_syntax.specs.declared.syntax.Op.TheVariants as op
use Rattle.guard_syntax.specs.Syntax.{body, no_lets, more_lets, assign, conds, no_conds, no_disjs, more_disjs, disj, no_parts, more_parts, block, guarded, test, refer, query, no_steps, more_steps, var, key, keys, literal, function, asked, found, no_expr, with_expr, no_exprs, more_exprs}
use Rattle.literal_parser.specs.Lexemes.{keyword_of, lexemes}
use Rattle.literal_parser.specs.States.{start}
use Rattle.literal_parser.specs.code.Parser.{Outcome, Read, Fail, note_range, opens, takes, has, choose, choose_pair, choose_next, choose_third}
use Rattle.literal_parser.specs.code.LiteralReading.{bounds, range, bounded, list, map_of, node, more_items, items_of, valued, entry, more_entries, entries_of, literal_of}
use Rattle.part_parser.specs.code.Reading.{named_bar, capture, note, neg, worded, operator, keys_operator, dotted, keyed, filtered, bracketed, step, steps, start_step, query_of, tree_expr, applied, asked_expr, named_expr, expr_of, found_expr, value_of, more_exprs_of, exprs_of, right, tested, called, referred, ruled, judged, headed, led_by_name, cond_of, cond_part, ors, disj_of, disjs, conds_of, opt_conds, guarded_part, kinds_part, bodied, full_part, let_of, body_items, body_end, body_of, inners}
use Rattle.guard_parser.specs.code.FileReading.{FileItems, names, params, head, rule_of, file_items, contents, whole_file}

abbrev t : TokenKind → ℕ → ℕ → Token
t kind from to = record { kind = kind; from = from; to = to }

-- with lists of at most seven items, and two brackets in each other
abbrev reading : List ℕ → List Token → Outcome FileItems
unfolding keyword_of opens takes has choose choose_pair choose_next choose_third note_range bounds range bounded list map_of node more_items items_of valued entry more_entries entries_of literal_of named_bar capture note neg worded operator keys_operator names params dotted keyed filtered bracketed step steps start_step query_of tree_expr applied asked_expr named_expr expr_of found_expr value_of more_exprs_of exprs_of right tested called referred ruled judged headed led_by_name cond_of cond_part ors disj_of disjs conds_of opt_conds guarded_part kinds_part bodied full_part let_of body_items body_end body_of head rule_of file_items contents whole_file
reading text tokens = whole_file (lexemes text tokens) 8 (inners (lexemes text tokens) 8 2) start 0

-- a name alone is a reference
a_reference : reading (codes "a") (t k.Name 0 1 ∷ []) ≡ Read (no_lets, [], more_disjs (disj 1 (more_parts (refer 2 false (codes "a") None) no_parts)) no_disjs) (record { at = 1; places = 0 ∷ 0 ∷ 0 ∷ []; mixed = None }) 1
unfolding keyword_of opens takes has choose choose_pair choose_next choose_third note_range bounds range bounded list map_of node more_items items_of valued entry more_entries entries_of literal_of named_bar capture note neg worded operator keys_operator names params dotted keyed filtered bracketed step steps start_step query_of tree_expr applied asked_expr named_expr expr_of found_expr value_of more_exprs_of exprs_of right tested called referred ruled judged headed led_by_name cond_of cond_part ors disj_of disjs conds_of opt_conds guarded_part kinds_part bodied full_part let_of body_items body_end body_of head rule_of file_items contents whole_file
a_reference = refl

-- a name before an operator begins a query
a_test : reading (codes "a exists") (t k.Name 0 1 ∷ t k.Name 2 8 ∷ []) ≡ Read (no_lets, [], more_disjs (disj 1 (more_parts (test 2 false (query 3 (more_steps (key 4 (codes "a")) no_steps)) op.Exists false no_expr None) no_parts)) no_disjs) (record { at = 2; places = 0 ∷ 0 ∷ 0 ∷ 0 ∷ 0 ∷ []; mixed = None }) 2
unfolding keyword_of opens takes has choose choose_pair choose_next choose_third note_range bounds range bounded list map_of node more_items items_of valued entry more_entries entries_of literal_of named_bar capture note neg worded operator keys_operator names params dotted keyed filtered bracketed step steps start_step query_of tree_expr applied asked_expr named_expr expr_of found_expr value_of more_exprs_of exprs_of right tested called referred ruled judged headed led_by_name cond_of cond_part ors disj_of disjs conds_of opt_conds guarded_part kinds_part bodied full_part let_of body_items body_end body_of head rule_of file_items contents whole_file
a_test = refl

-- and before `not` and the word of an operator
a_negated_test : reading (codes "a not in b") (t k.Name 0 1 ∷ t k.Name 2 5 ∷ t k.Name 6 8 ∷ t k.Name 9 10 ∷ []) ≡ Read (no_lets, [], more_disjs (disj 1 (more_parts (test 2 false (query 3 (more_steps (key 4 (codes "a")) no_steps)) op.Within true (with_expr (asked (query 5 (more_steps (key 6 (codes "b")) no_steps)))) None) no_parts)) no_disjs) (record { at = 4; places = 0 ∷ 0 ∷ 0 ∷ 0 ∷ 0 ∷ 9 ∷ 9 ∷ []; mixed = None }) 4
unfolding keyword_of opens takes has choose choose_pair choose_next choose_third note_range bounds range bounded list map_of node more_items items_of valued entry more_entries entries_of literal_of named_bar capture note neg worded operator keys_operator names params dotted keyed filtered bracketed step steps start_step query_of tree_expr applied asked_expr named_expr expr_of found_expr value_of more_exprs_of exprs_of right tested called referred ruled judged headed led_by_name cond_of cond_part ors disj_of disjs conds_of opt_conds guarded_part kinds_part bodied full_part let_of body_items body_end body_of head rule_of file_items contents whole_file
a_negated_test = refl

-- `not` stands before no test: the operator goes on with nothing
not_before_a_test : reading (codes "not a exists") (t k.Name 0 3 ∷ t k.Name 4 5 ∷ t k.Name 6 12 ∷ []) ≡ Fail 2
unfolding keyword_of opens takes has choose choose_pair choose_next choose_third note_range bounds range bounded list map_of node more_items items_of valued entry more_entries entries_of literal_of named_bar capture note neg worded operator keys_operator names params dotted keyed filtered bracketed step steps start_step query_of tree_expr applied asked_expr named_expr expr_of found_expr value_of more_exprs_of exprs_of right tested called referred ruled judged headed led_by_name cond_of cond_part ors disj_of disjs conds_of opt_conds guarded_part kinds_part bodied full_part let_of body_items body_end body_of head rule_of file_items contents whole_file
not_before_a_test = refl

-- `not` and no operator behind a name begins the next part
two_references : reading (codes "a not b") (t k.Name 0 1 ∷ t k.Name 2 5 ∷ t k.Name 6 7 ∷ []) ≡ Read (no_lets, [], more_disjs (disj 1 (more_parts (refer 2 false (codes "a") None) no_parts)) (more_disjs (disj 3 (more_parts (refer 4 true (codes "b") None) no_parts)) no_disjs)) (record { at = 3; places = 0 ∷ 0 ∷ 0 ∷ 2 ∷ 2 ∷ []; mixed = None }) 3
unfolding keyword_of opens takes has choose choose_pair choose_next choose_third note_range bounds range bounded list map_of node more_items items_of valued entry more_entries entries_of literal_of named_bar capture note neg worded operator keys_operator names params dotted keyed filtered bracketed step steps start_step query_of tree_expr applied asked_expr named_expr expr_of found_expr value_of more_exprs_of exprs_of right tested called referred ruled judged headed led_by_name cond_of cond_part ors disj_of disjs conds_of opt_conds guarded_part kinds_part bodied full_part let_of body_items body_end body_of head rule_of file_items contents whole_file
two_references = refl

-- a name before a brace is the head of a block
a_block : reading (codes "a { b }") (t k.Name 0 1 ∷ t (k.Mark m.LBrace) 2 3 ∷ t k.Name 4 5 ∷ t (k.Mark m.RBrace) 6 7 ∷ []) ≡ Read (no_lets, [], more_disjs (disj 1 (more_parts (block 2 false (query 3 (more_steps (key 4 (codes "a")) no_steps)) (body 5 no_lets (more_disjs (disj 6 (more_parts (refer 7 false (codes "b") None) no_parts)) no_disjs))) no_parts)) no_disjs) (record { at = 4; places = 0 ∷ 0 ∷ 0 ∷ 0 ∷ 0 ∷ 2 ∷ 4 ∷ 4 ∷ []; mixed = None }) 4
unfolding keyword_of opens takes has choose choose_pair choose_next choose_third note_range bounds range bounded list map_of node more_items items_of valued entry more_entries entries_of literal_of named_bar capture note neg worded operator keys_operator names params dotted keyed filtered bracketed step steps start_step query_of tree_expr applied asked_expr named_expr expr_of found_expr value_of more_exprs_of exprs_of right tested called referred ruled judged headed led_by_name cond_of cond_part ors disj_of disjs conds_of opt_conds guarded_part kinds_part bodied full_part let_of body_items body_end body_of head rule_of file_items contents whole_file
a_block = refl

-- in conditions it is a reference
in_conditions : reading (codes "when a { b }") (t k.Name 0 4 ∷ t k.Name 5 6 ∷ t (k.Mark m.LBrace) 7 8 ∷ t k.Name 9 10 ∷ t (k.Mark m.RBrace) 11 12 ∷ []) ≡ Read (no_lets, [], more_disjs (disj 1 (more_parts (guarded 2 (conds 3 (more_disjs (disj 4 (more_parts (refer 5 false (codes "a") None) no_parts)) no_disjs)) (body 6 no_lets (more_disjs (disj 7 (more_parts (refer 8 false (codes "b") None) no_parts)) no_disjs))) no_parts)) no_disjs) (record { at = 5; places = 0 ∷ 0 ∷ 0 ∷ 5 ∷ 5 ∷ 5 ∷ 7 ∷ 9 ∷ 9 ∷ []; mixed = None }) 5
unfolding keyword_of opens takes has choose choose_pair choose_next choose_third note_range bounds range bounded list map_of node more_items items_of valued entry more_entries entries_of literal_of named_bar capture note neg worded operator keys_operator names params dotted keyed filtered bracketed step steps start_step query_of tree_expr applied asked_expr named_expr expr_of found_expr value_of more_exprs_of exprs_of right tested called referred ruled judged headed led_by_name cond_of cond_part ors disj_of disjs conds_of opt_conds guarded_part kinds_part bodied full_part let_of body_items body_end body_of head rule_of file_items contents whole_file
in_conditions = refl

-- `r` with a bracket directly behind it opens a range
a_range : reading (codes "a in r(1, 2]") (t k.Name 0 1 ∷ t k.Name 2 4 ∷ t k.Name 5 6 ∷ t (k.Mark m.LParen) 6 7 ∷ t (k.Whole (pos 1)) 7 8 ∷ t (k.Mark m.Comma) 8 9 ∷ t (k.Whole (pos 2)) 10 11 ∷ t (k.Mark m.RBracket) 11 12 ∷ []) ≡ Read (no_lets, [], more_disjs (disj 1 (more_parts (test 2 false (query 3 (more_steps (key 4 (codes "a")) no_steps)) op.Within false (with_expr (literal 5 (Node (record { kind = kind.Limits (record { low = num.Whole (pos 1); high = num.Whole (pos 2); low_in = false; high_in = true }); text = []; key = None; at = 5 }) Nil Nil))) None) no_parts)) no_disjs) (record { at = 8; places = 0 ∷ 0 ∷ 0 ∷ 0 ∷ 0 ∷ 5 ∷ []; mixed = None }) 8
unfolding keyword_of opens takes has choose choose_pair choose_next choose_third note_range bounds range bounded list map_of node more_items items_of valued entry more_entries entries_of literal_of named_bar capture note neg worded operator keys_operator names params dotted keyed filtered bracketed step steps start_step query_of tree_expr applied asked_expr named_expr expr_of found_expr value_of more_exprs_of exprs_of right tested called referred ruled judged headed led_by_name cond_of cond_part ors disj_of disjs conds_of opt_conds guarded_part kinds_part bodied full_part let_of body_items body_end body_of head rule_of file_items contents whole_file
a_range = refl

-- with white space between it is a name
no_range : reading (codes "a in r (1)") (t k.Name 0 1 ∷ t k.Name 2 4 ∷ t k.Name 5 6 ∷ t (k.Mark m.LParen) 7 8 ∷ t (k.Whole (pos 1)) 8 9 ∷ t (k.Mark m.RParen) 9 10 ∷ []) ≡ Read (no_lets, [], more_disjs (disj 1 (more_parts (test 2 false (query 3 (more_steps (key 4 (codes "a")) no_steps)) op.Within false (with_expr (function 5 (codes "r") (more_exprs (literal 6 (Node (record { kind = kind.Whole (pos 1); text = []; key = None; at = 8 }) Nil Nil)) no_exprs))) None) no_parts)) no_disjs) (record { at = 6; places = 0 ∷ 0 ∷ 0 ∷ 0 ∷ 0 ∷ 5 ∷ 8 ∷ []; mixed = None }) 6
unfolding keyword_of opens takes has choose choose_pair choose_next choose_third note_range bounds range bounded list map_of node more_items items_of valued entry more_entries entries_of literal_of named_bar capture note neg worded operator keys_operator names params dotted keyed filtered bracketed step steps start_step query_of tree_expr applied asked_expr named_expr expr_of found_expr value_of more_exprs_of exprs_of right tested called referred ruled judged headed led_by_name cond_of cond_part ors disj_of disjs conds_of opt_conds guarded_part kinds_part bodied full_part let_of body_items body_end body_of head rule_of file_items contents whole_file
no_range = refl

-- a query alone is no part: more has to come
a_filter : reading (codes "a[ k | b ].*") (t k.Name 0 1 ∷ t (k.Mark m.LBracket) 1 2 ∷ t k.Name 3 4 ∷ t (k.Mark m.Bar) 5 6 ∷ t k.Name 7 8 ∷ t (k.Mark m.RBracket) 9 10 ∷ t (k.Mark m.Dot) 10 11 ∷ t (k.Mark m.Star) 11 12 ∷ []) ≡ Fail 8
unfolding keyword_of opens takes has choose choose_pair choose_next choose_third note_range bounds range bounded list map_of node more_items items_of valued entry more_entries entries_of literal_of named_bar capture note neg worded operator keys_operator names params dotted keyed filtered bracketed step steps start_step query_of tree_expr applied asked_expr named_expr expr_of found_expr value_of more_exprs_of exprs_of right tested called referred ruled judged headed led_by_name cond_of cond_part ors disj_of disjs conds_of opt_conds guarded_part kinds_part bodied full_part let_of body_items body_end body_of head rule_of file_items contents whole_file
a_filter = refl

-- a key filter, and a message behind the test
a_key_filter : reading (codes "a[ keys == 'x' ] empty <<m>>") (t k.Name 0 1 ∷ t (k.Mark m.LBracket) 1 2 ∷ t k.Name 3 7 ∷ t (k.Mark m.Same) 8 10 ∷ t k.Str 11 14 ∷ t (k.Mark m.RBracket) 15 16 ∷ t k.Name 17 22 ∷ t k.Note 23 28 ∷ []) ≡ Read (no_lets, [], more_disjs (disj 1 (more_parts (test 2 false (query 3 (more_steps (key 4 (codes "a")) (more_steps (keys 5 None op.Eq false (literal 6 (Node (record { kind = kind.Text; text = codes "x"; key = None; at = 11 }) Nil Nil))) no_steps))) op.Empty false no_expr (Some (codes "m"))) no_parts)) no_disjs) (record { at = 8; places = 0 ∷ 0 ∷ 0 ∷ 0 ∷ 0 ∷ 1 ∷ 11 ∷ []; mixed = None }) 8
unfolding keyword_of opens takes has choose choose_pair choose_next choose_third note_range bounds range bounded list map_of node more_items items_of valued entry more_entries entries_of literal_of named_bar capture note neg worded operator keys_operator names params dotted keyed filtered bracketed step steps start_step query_of tree_expr applied asked_expr named_expr expr_of found_expr value_of more_exprs_of exprs_of right tested called referred ruled judged headed led_by_name cond_of cond_part ors disj_of disjs conds_of opt_conds guarded_part kinds_part bodied full_part let_of body_items body_end body_of head rule_of file_items contents whole_file
a_key_filter = refl

-- `or` joins the parts on its two sides alone
an_or : reading (codes "a or b c") (t k.Name 0 1 ∷ t k.Name 2 4 ∷ t k.Name 5 6 ∷ t k.Name 7 8 ∷ []) ≡ Read (no_lets, [], more_disjs (disj 1 (more_parts (refer 2 false (codes "a") None) (more_parts (refer 3 false (codes "b") None) no_parts))) (more_disjs (disj 4 (more_parts (refer 5 false (codes "c") None) no_parts)) no_disjs)) (record { at = 4; places = 0 ∷ 0 ∷ 0 ∷ 5 ∷ 7 ∷ 7 ∷ []; mixed = None }) 4
unfolding keyword_of opens takes has choose choose_pair choose_next choose_third note_range bounds range bounded list map_of node more_items items_of valued entry more_entries entries_of literal_of named_bar capture note neg worded operator keys_operator names params dotted keyed filtered bracketed step steps start_step query_of tree_expr applied asked_expr named_expr expr_of found_expr value_of more_exprs_of exprs_of right tested called referred ruled judged headed led_by_name cond_of cond_part ors disj_of disjs conds_of opt_conds guarded_part kinds_part bodied full_part let_of body_items body_end body_of head rule_of file_items contents whole_file
an_or = refl

-- a rule with a parameter
a_rule : reading (codes "rule x(p) { %p empty }") (t k.Name 0 4 ∷ t k.Name 5 6 ∷ t (k.Mark m.LParen) 6 7 ∷ t k.Name 7 8 ∷ t (k.Mark m.RParen) 8 9 ∷ t (k.Mark m.LBrace) 10 11 ∷ t k.Var 12 14 ∷ t k.Name 15 20 ∷ t (k.Mark m.RBrace) 21 22 ∷ []) ≡ Read (no_lets, record { site = 1; name = record { text = codes "x"; at = 5 }; params = record { text = codes "p"; at = 7 } ∷ []; cond = no_conds; body = body 2 no_lets (more_disjs (disj 3 (more_parts (test 4 false (query 5 (more_steps (var 6 (codes "p")) no_steps)) op.Empty false no_expr None) no_parts)) no_disjs) } ∷ [], no_disjs) (record { at = 9; places = 0 ∷ 0 ∷ 10 ∷ 12 ∷ 12 ∷ 12 ∷ 12 ∷ []; mixed = None }) 9
unfolding keyword_of opens takes has choose choose_pair choose_next choose_third note_range bounds range bounded list map_of node more_items items_of valued entry more_entries entries_of literal_of named_bar capture note neg worded operator keys_operator names params dotted keyed filtered bracketed step steps start_step query_of tree_expr applied asked_expr named_expr expr_of found_expr value_of more_exprs_of exprs_of right tested called referred ruled judged headed led_by_name cond_of cond_part ors disj_of disjs conds_of opt_conds guarded_part kinds_part bodied full_part let_of body_items body_end body_of head rule_of file_items contents whole_file
a_rule = refl

-- a keyword is no name of a rule
no_rule_name : reading (codes "rule in { a }") (t k.Name 0 4 ∷ t k.Name 5 7 ∷ t (k.Mark m.LBrace) 8 9 ∷ t k.Name 10 11 ∷ t (k.Mark m.RBrace) 12 13 ∷ []) ≡ Fail 1
unfolding keyword_of opens takes has choose choose_pair choose_next choose_third note_range bounds range bounded list map_of node more_items items_of valued entry more_entries entries_of literal_of named_bar capture note neg worded operator keys_operator names params dotted keyed filtered bracketed step steps start_step query_of tree_expr applied asked_expr named_expr expr_of found_expr value_of more_exprs_of exprs_of right tested called referred ruled judged headed led_by_name cond_of cond_part ors disj_of disjs conds_of opt_conds guarded_part kinds_part bodied full_part let_of body_items body_end body_of head rule_of file_items contents whole_file
no_rule_name = refl

-- nor is `default`
no_default : reading (codes "rule default { a }") (t k.Name 0 4 ∷ t k.Name 5 12 ∷ t (k.Mark m.LBrace) 13 14 ∷ t k.Name 15 16 ∷ t (k.Mark m.RBrace) 17 18 ∷ []) ≡ Fail 1
unfolding keyword_of opens takes has choose choose_pair choose_next choose_third note_range bounds range bounded list map_of node more_items items_of valued entry more_entries entries_of literal_of named_bar capture note neg worded operator keys_operator names params dotted keyed filtered bracketed step steps start_step query_of tree_expr applied asked_expr named_expr expr_of found_expr value_of more_exprs_of exprs_of right tested called referred ruled judged headed led_by_name cond_of cond_part ors disj_of disjs conds_of opt_conds guarded_part kinds_part bodied full_part let_of body_items body_end body_of head rule_of file_items contents whole_file
no_default = refl

-- `some` and a query behind a let
a_let : reading (codes "let x = some a") (t k.Name 0 3 ∷ t k.Name 4 5 ∷ t (k.Mark m.Equals) 6 7 ∷ t k.Name 8 12 ∷ t k.Name 13 14 ∷ []) ≡ Read (more_lets (assign 1 (record { text = codes "x"; at = 4 }) (found 2 (query 3 (more_steps (key 4 (codes "a")) no_steps)))) no_lets, [], no_disjs) (record { at = 5; places = 0 ∷ 0 ∷ 8 ∷ 13 ∷ 13 ∷ []; mixed = None }) 5
unfolding keyword_of opens takes has choose choose_pair choose_next choose_third note_range bounds range bounded list map_of node more_items items_of valued entry more_entries entries_of literal_of named_bar capture note neg worded operator keys_operator names params dotted keyed filtered bracketed step steps start_step query_of tree_expr applied asked_expr named_expr expr_of found_expr value_of more_exprs_of exprs_of right tested called referred ruled judged headed led_by_name cond_of cond_part ors disj_of disjs conds_of opt_conds guarded_part kinds_part bodied full_part let_of body_items body_end body_of head rule_of file_items contents whole_file
a_let = refl

-- before a parenthesis every name is that of a function
a_function : reading (codes "let x = some(1)") (t k.Name 0 3 ∷ t k.Name 4 5 ∷ t (k.Mark m.Equals) 6 7 ∷ t k.Name 8 12 ∷ t (k.Mark m.LParen) 12 13 ∷ t (k.Whole (pos 1)) 13 14 ∷ t (k.Mark m.RParen) 14 15 ∷ []) ≡ Read (more_lets (assign 1 (record { text = codes "x"; at = 4 }) (function 2 (codes "some") (more_exprs (literal 3 (Node (record { kind = kind.Whole (pos 1); text = []; key = None; at = 13 }) Nil Nil)) no_exprs))) no_lets, [], no_disjs) (record { at = 7; places = 0 ∷ 0 ∷ 8 ∷ 13 ∷ []; mixed = None }) 7
unfolding keyword_of opens takes has choose choose_pair choose_next choose_third note_range bounds range bounded list map_of node more_items items_of valued entry more_entries entries_of literal_of named_bar capture note neg worded operator keys_operator names params dotted keyed filtered bracketed step steps start_step query_of tree_expr applied asked_expr named_expr expr_of found_expr value_of more_exprs_of exprs_of right tested called referred ruled judged headed led_by_name cond_of cond_part ors disj_of disjs conds_of opt_conds guarded_part kinds_part bodied full_part let_of body_items body_end body_of head rule_of file_items contents whole_file
a_function = refl

-- a list has no comma at its end
no_trailing_comma : reading (codes "let x = [1,]") (t k.Name 0 3 ∷ t k.Name 4 5 ∷ t (k.Mark m.Equals) 6 7 ∷ t (k.Mark m.LBracket) 8 9 ∷ t (k.Whole (pos 1)) 9 10 ∷ t (k.Mark m.Comma) 10 11 ∷ t (k.Mark m.RBracket) 11 12 ∷ []) ≡ Fail 6
unfolding keyword_of opens takes has choose choose_pair choose_next choose_third note_range bounds range bounded list map_of node more_items items_of valued entry more_entries entries_of literal_of named_bar capture note neg worded operator keys_operator names params dotted keyed filtered bracketed step steps start_step query_of tree_expr applied asked_expr named_expr expr_of found_expr value_of more_exprs_of exprs_of right tested called referred ruled judged headed led_by_name cond_of cond_part ors disj_of disjs conds_of opt_conds guarded_part kinds_part bodied full_part let_of body_items body_end body_of head rule_of file_items contents whole_file
no_trailing_comma = refl

-- no key of a map stands twice: the second one goes on with nothing
equal_keys : reading (codes "let x = {a: 1, a: 2}") (t k.Name 0 3 ∷ t k.Name 4 5 ∷ t (k.Mark m.Equals) 6 7 ∷ t (k.Mark m.LBrace) 8 9 ∷ t k.Name 9 10 ∷ t (k.Mark m.Colon) 10 11 ∷ t (k.Whole (pos 1)) 12 13 ∷ t (k.Mark m.Comma) 13 14 ∷ t k.Name 15 16 ∷ t (k.Mark m.Colon) 16 17 ∷ t (k.Whole (pos 2)) 18 19 ∷ t (k.Mark m.RBrace) 19 20 ∷ []) ≡ Fail 8
unfolding keyword_of opens takes has choose choose_pair choose_next choose_third note_range bounds range bounded list map_of node more_items items_of valued entry more_entries entries_of literal_of named_bar capture note neg worded operator keys_operator names params dotted keyed filtered bracketed step steps start_step query_of tree_expr applied asked_expr named_expr expr_of found_expr value_of more_exprs_of exprs_of right tested called referred ruled judged headed led_by_name cond_of cond_part ors disj_of disjs conds_of opt_conds guarded_part kinds_part bodied full_part let_of body_items body_end body_of head rule_of file_items contents whole_file
equal_keys = refl

-- a body has a part
an_empty_body : reading (codes "a { }") (t k.Name 0 1 ∷ t (k.Mark m.LBrace) 2 3 ∷ t (k.Mark m.RBrace) 4 5 ∷ []) ≡ Fail 2
unfolding keyword_of opens takes has choose choose_pair choose_next choose_third note_range bounds range bounded list map_of node more_items items_of valued entry more_entries entries_of literal_of named_bar capture note neg worded operator keys_operator names params dotted keyed filtered bracketed step steps start_step query_of tree_expr applied asked_expr named_expr expr_of found_expr value_of more_exprs_of exprs_of right tested called referred ruled judged headed led_by_name cond_of cond_part ors disj_of disjs conds_of opt_conds guarded_part kinds_part bodied full_part let_of body_items body_end body_of head rule_of file_items contents whole_file
an_empty_body = refl

-- an empty text is a file
nothing : reading (codes "") ([]) ≡ Read (no_lets, [], no_disjs) (record { at = 0; places = 0 ∷ []; mixed = None }) 0
unfolding keyword_of opens takes has choose choose_pair choose_next choose_third note_range bounds range bounded list map_of node more_items items_of valued entry more_entries entries_of literal_of named_bar capture note neg worded operator keys_operator names params dotted keyed filtered bracketed step steps start_step query_of tree_expr applied asked_expr named_expr expr_of found_expr value_of more_exprs_of exprs_of right tested called referred ruled judged headed led_by_name cond_of cond_part ors disj_of disjs conds_of opt_conds guarded_part kinds_part bodied full_part let_of body_items body_end body_of head rule_of file_items contents whole_file
nothing = refl
