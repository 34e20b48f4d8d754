-- The rules of a drill: their tokens, and their syntax.
use Rattle.std.proofs.Common.{ℕ, true, false, List, [], ◌∷◌, None, codes, pos}
use Rattle.doc_values.specs.Tree.{Nil, Node}
use Rattle.decimals.specs.declared.decimal.Num.TheVariants as num
use Rattle.doc_values.specs.declared.kind.Kind.{Kind}
use Rattle.doc_values.specs.declared.kind.Kind.TheVariants as kind
use Rattle.guard_lexer.specs.declared.token.Mark.TheVariants as m
use Rattle.guard_lexer.specs.declared.token.Token.{Token}
use Rattle.guard_lexer.specs.declared.token.TokenKind.{TokenKind}
use Rattle.guard_lexer.specs.declared.token.TokenKind.TheVariants as k
use Rattle.guard_syntax.specs.declared.syntax.Op.TheVariants as op
use Rattle.guard_syntax.specs.Syntax.{Disjs, File, Let, OptExpr, Part, Rule, Step, Steps, body, no_lets, more_lets, assign, conds, no_conds, with_conds, no_disjs, more_disjs, disj, no_parts, more_parts, block, test, query, no_steps, more_steps, var, key, every, filter, literal, asked, no_expr, with_expr}

-- a token of a kind, from a place to another
abbrev t : TokenKind → ℕ → ℕ → Token
t kind from to = record { kind = kind; from = from; to = to }

-- the tokens
abbrev pub drill-tokens : List Token
drill-tokens =
    t k.Name 0 3 ∷ t k.Name 4 7 ∷ t (k.Mark m.Equals) 8 9 ∷ t k.Name 10 19 ∷ t (k.Mark m.Dot) 19 20 ∷ t (k.Mark m.Star) 20 21 ∷ t (k.Mark m.LBracket) 21 22 ∷
    t k.Name 23 27 ∷ t (k.Mark m.Same) 28 30 ∷ t k.Str 31 37 ∷ t (k.Mark m.RBracket) 38 39 ∷ t k.Name 40 44 ∷ t k.Name 45 48 ∷ t k.Name 49 53 ∷
    t k.Var 54 58 ∷ t (k.Mark m.Bang) 59 60 ∷ t k.Name 60 65 ∷ t (k.Mark m.LBrace) 66 67 ∷ t k.Var 68 72 ∷ t (k.Mark m.Dot) 72 73 ∷ t k.Name 73 83 ∷
    t (k.Mark m.Dot) 83 84 ∷ t k.Name 84 85 ∷ t (k.Mark m.Less) 86 87 ∷ t (k.Whole (pos 5)) 88 89 ∷ t (k.Mark m.RBrace) 90 91 ∷ t k.Name 92 96 ∷ t k.Name 97 102 ∷
    t (k.Mark m.LBrace) 103 104 ∷ t k.Name 105 114 ∷ t (k.Mark m.Dot) 114 115 ∷ t (k.Mark m.Star) 115 116 ∷ t (k.Mark m.LBrace) 117 118 ∷ t k.Name 119 129 ∷ t (k.Mark m.Dot) 129 130 ∷
    t k.Name 130 131 ∷ t k.Name 132 134 ∷ t k.Name 135 136 ∷ t (k.Mark m.LBracket) 136 137 ∷ t (k.Whole (pos 0)) 137 138 ∷ t (k.Mark m.Comma) 138 139 ∷ t (k.Whole (pos 6)) 139 140 ∷
    t (k.Mark m.RBracket) 140 141 ∷ t (k.Mark m.RBrace) 142 143 ∷ t (k.Mark m.RBrace) 144 145 ∷ t k.Name 146 150 ∷ t k.Name 151 154 ∷ t (k.Mark m.LBrace) 155 156 ∷ t k.Name 157 161 ∷
    t k.Var 162 166 ∷ t (k.Mark m.Dot) 166 167 ∷ t k.Name 167 177 ∷ t (k.Mark m.Dot) 177 178 ∷ t k.Name 178 179 ∷ t (k.Mark m.Same) 180 182 ∷ t (k.Whole (pos 6)) 183 184 ∷
    t (k.Mark m.RBrace) 185 186 ∷
    []

-- one part alone, as all disjunctions of a body or of conditions
abbrev alone : ℕ → Part → Disjs
alone site p = more_disjs (disj site (more_parts p no_parts)) no_disjs

-- a literal that holds no values, at the right of a test
abbrev constant : ℕ → Kind → List ℕ → ℕ → OptExpr
constant site kind text at = with_expr (literal site (Node (record { kind = kind; text = text; key = None; at = at }) Nil Nil))

-- `.Properties.N` behind a first step
abbrev number-of : Step → ℕ → ℕ → Steps
number-of first properties number =
    more_steps first (more_steps (key properties (codes "Properties")) (more_steps (key number (codes "N")) no_steps))

-- from 0 to 6
abbrev to-six : Kind
to-six = kind.Limits (record { low = num.Whole (pos 0); high = num.Whole (pos 6); low_in = true; high_in = true })

-- `let all = Resources.*[ Type == 'T::A' ]`
abbrev type-test : Part
type-test = test 8 false (query 9 (more_steps (key 10 (codes "Type")) no_steps)) op.Eq false (constant 11 kind.Text (codes "T::A") 31) None

abbrev all-steps : Steps
all-steps = more_steps (key 3 (codes "Resources")) (more_steps (every 4) (more_steps (filter 5 None (conds 6 (alone 7 type-test))) no_steps))

abbrev pub all-let : Let
all-let = assign 1 (record { text = codes "all"; at = 4 }) (asked (query 2 all-steps))

-- `rule low when %all !empty { %all.Properties.N < 5 }`
abbrev some-test : Part
some-test = test 15 false (query 16 (more_steps (var 17 (codes "all")) no_steps)) op.Empty true no_expr None

abbrev low-test : Part
low-test = test 20 false (query 21 (number-of (var 22 (codes "all")) 23 24)) op.Lt false (constant 25 (kind.Whole (pos 5)) [] 88) None

abbrev pub low-rule : Rule
low-rule = record {
  site = 12;
  name = record { text = codes "low"; at = 45 };
  params = [];
  cond = with_conds (conds 13 (alone 14 some-test));
  body = body 18 no_lets (alone 19 low-test);
}

-- `rule every { Resources.* { Properties.N IN r[0,6] } }`
abbrev within-test : Part
within-test =
    test 35 false (query 36 (more_steps (key 37 (codes "Properties")) (more_steps (key 38 (codes "N")) no_steps))) op.Within false (constant 39 to-six [] 135) None

abbrev every-block : Part
every-block =
    block 29 false (query 30 (more_steps (key 31 (codes "Resources")) (more_steps (every 32) no_steps))) (body 33 no_lets (alone 34 within-test))

abbrev pub every-rule : Rule
every-rule = record {
  site = 26;
  name = record { text = codes "every"; at = 97 };
  params = [];
  cond = no_conds;
  body = body 27 no_lets (alone 28 every-block);
}

-- `rule odd { some %all.Properties.N == 6 }`
abbrev odd-test : Part
odd-test = test 43 true (query 44 (number-of (var 45 (codes "all")) 46 47)) op.Eq false (constant 48 (kind.Whole (pos 6)) [] 183) None

abbrev pub odd-rule : Rule
odd-rule = record {
  site = 40;
  name = record { text = codes "odd"; at = 151 };
  params = [];
  cond = no_conds;
  body = body 41 no_lets (alone 42 odd-test);
}

-- where each of the 49 sites begins
abbrev pub drill-places : List ℕ
drill-places =
    0 ∷ 0 ∷ 10 ∷ 10 ∷ 19 ∷ 21 ∷ 23 ∷ 23 ∷ 23 ∷ 23 ∷ 23 ∷ 31 ∷ 40 ∷ 54 ∷ 54 ∷ 54 ∷ 54 ∷ 54 ∷ 66 ∷ 68 ∷ 68 ∷ 68 ∷ 68 ∷
    72 ∷ 83 ∷ 88 ∷ 92 ∷ 103 ∷ 105 ∷ 105 ∷ 105 ∷ 105 ∷ 114 ∷ 117 ∷ 119 ∷ 119 ∷ 119 ∷ 119 ∷ 129 ∷ 135 ∷ 146 ∷ 155 ∷
    157 ∷ 157 ∷ 162 ∷ 162 ∷ 166 ∷ 177 ∷ 183 ∷ []

-- the syntax
abbrev pub drill-file : File
drill-file = record { lets = more_lets all-let no_lets; rules = low-rule ∷ every-rule ∷ odd-rule ∷ []; loose = no_disjs; places = drill-places }
