-- Syntaxes with their canonical texts, worked out by hand.
use Rattle.std.proofs.Common.{◌≡◌, ℕ, true, false, refl, List, [], ◌∷◌, Some, None, codes}
use Rattle.doc_values.specs.Tree.{Nil, Node}
use Rattle.doc_values.specs.declared.kind.Kind.TheVariants as kind
use Rattle.guard_syntax.specs.Named.{Named}
use Rattle.guard_syntax.specs.declared.syntax.Op.TheVariants as op
use Rattle.guard_syntax.specs.Syntax.{Part, Query, File, body, no_lets, more_lets, assign, conds, no_conds, no_disjs, more_disjs, disj, no_parts, more_parts, block, test, refer, query, no_steps, more_steps, var, key, every, items, filter, literal, asked, found, no_expr, with_expr}
use Rattle.literal_parser.specs.Lexemes.{keyword_of}
use Rattle.rule_printer.specs.RuleText.{rule_text}

abbrev named : List ℕ → Named
named text = record { text = text; at = 0 }

-- a query of one key
abbrev lone : List ℕ → Query
lone name = query 0 (more_steps (key 0 name) no_steps)

abbrev exists_test : ℕ → Query → Part
exists_test n q = test n false q op.Exists false no_expr None

-- one part outside rules
abbrev loose : Part → File
loose part = record { lets = no_lets; rules = []; loose = more_disjs (disj 1 (more_parts part no_parts)) no_disjs; places = [] }

nothing : rule_text (record { lets = no_lets; rules = []; loose = no_disjs; places = [] }) ≡ []
nothing = refl

-- a rule with a path whose keys are names, and an operator that is negated
a_rule : rule_text (record {
  lets = no_lets;
  rules = record {
    site = 1;
    name = named (codes "r");
    params = [];
    cond = no_conds;
    body = body 2 no_lets (more_disjs (disj 3 (more_parts (test 4 false (query 5 (more_steps (key 6 (codes "a")) (more_steps (key 7 (codes "b c")) (more_steps (every 8) no_steps)))) op.Exists true no_expr None) no_parts)) no_disjs);
  } ∷ [];
  loose = no_disjs;
  places = [];
})
    ≡ codes "rule r {\n  a.\"b c\".* !exists\n}\n"
unfolding keyword_of
a_rule = refl

-- a space keeps the name `r` and a bracket apart where an expression begins, but not at the left of a test
a_filter : rule_text (record { lets = more_lets (assign 1 (named (codes "x")) (asked (query 2 (more_steps (key 3 (codes "r")) (more_steps (filter 4 None (conds 5 (more_disjs (disj 6 (more_parts (exists_test 7 (lone (codes "a"))) no_parts)) no_disjs))) no_steps))))) no_lets; rules = []; loose = no_disjs; places = [] })
    ≡ codes "let x = r [ a exists ]\n"
unfolding keyword_of
a_filter = refl

at_the_left : rule_text (loose (exists_test 2 (query 3 (more_steps (key 4 (codes "r")) (more_steps (items 5) no_steps))))) ≡ codes "r[*] exists\n"
unfolding keyword_of
at_the_left = refl

-- a message stands as it is
a_message : rule_text (loose (test 2 false (lone (codes "a")) op.Exists false no_expr (Some (codes "b>")))) ≡ codes "a exists << b> >>\n"
unfolding keyword_of
a_message = refl

-- a keyword begins a query in quotes alone, and stands behind a dot as it is
a_keyword : rule_text (loose (exists_test 2 (query 3 (more_steps (key 4 (codes "IN")) (more_steps (key 5 (codes "IN")) no_steps))))) ≡ codes "\"IN\".IN exists\n"
unfolding keyword_of
a_keyword = refl

-- items stand in order of site, and the blocks of a part on lines of their own
blocks : rule_text (record {
  lets = more_lets (assign 6 (named (codes "x")) (found 7 (query 8 (more_steps (var 9 (codes "y")) no_steps)))) no_lets;
  rules = [];
  loose = more_disjs (disj 1 (more_parts (block 2 true (lone (codes "a")) (body 3 no_lets (more_disjs (disj 4 (more_parts (refer 5 true (codes "s") None) no_parts)) no_disjs))) (more_parts (refer 10 false (codes "u") None) no_parts))) no_disjs;
  places = [];
})
    ≡ codes "some \"a\" {\n  not s\n} or u\nlet x = some %y\n"
unfolding keyword_of
blocks = refl

-- a list, a map and their parts
a_literal : rule_text (loose (test 2 false (lone (codes "a")) op.Within true
    (with_expr (literal 3 (Node (record { kind = kind.List; text = []; key = None; at = 0 }) (Node (record { kind = kind.Text; text = codes "x\"y"; key = None; at = 0 }) Nil
    (Node (record { kind = kind.Map; text = []; key = None; at = 0 }) (Node (record { kind = kind.Truth true; text = []; key = Some (codes "k"); at = 0 }) Nil Nil) (Node (record { kind = kind.List; text = []; key = None; at = 0 }) Nil Nil))) Nil))) None))
    ≡ codes "a !IN [\"x\\\"y\", {\"k\": true}, []]\n"
unfolding keyword_of
a_literal = refl
