-- No bracket of blocks and files opens in a canonical text while 128 are open, where no more stand in each other in their syntax.
use Rattle.std.proofs.Common.{ℕ, suc, ◌≤◌, max, Bool, true, false, nat_lt, if◌then◌else◌, List, [], ◌∷◌, codes, sym, true≢false, arith}
use Rattle.guard_lexer.specs.declared.token.Mark.TheVariants as m
use Rattle.guard_syntax.specs.Named.{Named}
use Rattle.guard_syntax.specs.Syntax.{Body, Lets, Disjs, Parts, Part, OptConds, Rule, File, body, no_lets, more_lets, assign, no_disjs, more_disjs, disj, no_parts, more_parts, block, guarded, kinds, test, refer, call}
use Rattle.rule_spelling.specs.code.Pieces.{Piece}
use Rattle.rule_printer.specs.RuleText.{within, merged, before_each}
use Rattle.rule_printer.specs.code.RulePieces.{space, new_line, name, mark, head, conds_pieces, query_pieces, expr_pieces, opt_conds_pieces, Spell, in_a_row, let_items, body_pieces, disj_items, parts_pieces, more_parts_pieces, part_pieces, more_names, params, rule_item, rule_items, file_items, rule_pieces}
use Rattle.printer_laws.specs.code.PrintedDepth.{deep_head, deep_body, deep_lets, deep_disjs, deep_parts, deep_part, deep_rule, deep_rules, deep_file}
use Rattle.printer_laws.proofs.RoomShown.{HasRoom, Roomy, name_room, if_room, head_room, conds_room, opt_conds_room, cond_room, query_room, expr_room}

-- ---- items in a row

abbrev RowRoomy : ℕ → List (ℕ × Spell) → Type 0
RowRoomy d [] = Unit {0}
RowRoomy d (item ∷ items) = ((gap : List ℕ) → Roomy d (item.1 gap)) × RowRoomy d items

row_room : (d : ℕ) (items : List (ℕ × Spell)) (first gap : List ℕ) → RowRoomy d items → Roomy d (in_a_row first gap items)
row_room d [] first gap r k rest less h = h
row_room d (item ∷ items) first gap r k rest less h = r.0 first k (in_a_row gap gap items rest) less (row_room d items gap gap r.1 k rest less h)

either_room : (d : ℕ) (v : Bool) (xs ys : List (ℕ × Spell)) → RowRoomy d xs → RowRoomy d ys → RowRoomy d (if v then xs else ys)
either_room d true xs ys x y = x
either_room d false xs ys x y = y

before_room : (d : ℕ) (x : ℕ × Spell) (others : List (ℕ × Spell) → List (ℕ × Spell)) → ((gap : List ℕ) → Roomy d (x.1 gap)) → ((zs : List (ℕ × Spell)) → RowRoomy d zs → RowRoomy d (others zs))
    → (ys : List (ℕ × Spell)) → RowRoomy d ys → RowRoomy d (before_each x others ys)
before_room d x others own more [] h = (own, more [] h)
before_room d x others own more (y ∷ ys) h = either_room d (nat_lt y.0 x.0) (y ∷ before_each x others ys) (x ∷ others (y ∷ ys)) (h.0, before_room d x others own more ys h.1) (own, more (y ∷ ys) h)

merged_room : (d : ℕ) (xs : List (ℕ × Spell)) → RowRoomy d xs → (ys : List (ℕ × Spell)) → RowRoomy d ys → RowRoomy d (merged xs ys)
merged_room d [] h ys g = g
merged_room d (x ∷ xs) h ys g = before_room d x (merged xs) h.0 (λ zs k. merged_room d xs h.1 zs k) ys g

-- ---- blocks

lets_room : (ls : Lets) (d : ℕ) → deep_lets ls ≤ d → RowRoomy d (let_items ls)
lets_room no_lets d less = tt
lets_room (more_lets (assign n bound e) ls) d less = (
  λ gap k rest few h.
      name_room gap (codes "let") k (name space bound.text (mark space m.Equals (expr_pieces space e rest)))
      (name_room space bound.text k (mark space m.Equals (expr_pieces space e rest)) (λ x. absurd (true≢false (sym x)), expr_room e space k rest (omega arith) h)),
  lets_room ls d (omega arith),
)

mutual
  body_room : (b : Body) (margin : List ℕ) → Roomy (deep_body b) (body_pieces margin b)
  body_room (body n ls ds) margin k rest less h =
      let d = max (deep_lets ls) (deep_disjs ds) in
      let items = merged_room d (let_items ls) (lets_room ls d (omega arith)) (disj_items (within margin) ds) (disjs_room ds (within margin) d (omega arith)) in
      (λ e. omega arith, row_room d (merged (let_items ls) (disj_items (within margin) ds)) (new_line (within margin)) (new_line (within margin)) items (suc k) (mark (new_line margin) m.RBrace rest) (omega arith) (λ x. absurd (true≢false (sym x)), h))

  disjs_room : (ds : Disjs) (margin : List ℕ) (d : ℕ) → deep_disjs ds ≤ d → RowRoomy d (disj_items margin ds)
  disjs_room no_disjs margin d less = tt
  disjs_room (more_disjs (disj n ps) ds) margin d less = (λ gap k rest few h. parts_room ps margin gap k rest (omega arith) h, disjs_room ds margin d (omega arith))

  parts_room : (ps : Parts) (margin gap : List ℕ) → Roomy (deep_parts ps) (parts_pieces margin gap ps)
  parts_room no_parts margin gap k rest less h = name_room gap [] k rest h
  parts_room (more_parts p ps) margin gap k rest less h = part_room p margin gap k (more_parts_pieces margin ps rest) (omega arith) (more_parts_room ps margin k rest (omega arith) h)

  more_parts_room : (ps : Parts) (margin : List ℕ) → Roomy (deep_parts ps) (more_parts_pieces margin ps)
  more_parts_room no_parts margin k rest less h = h
  more_parts_room (more_parts p ps) margin k rest less h =
      name_room space (codes "or") k (part_pieces margin space p (more_parts_pieces margin ps rest))
      (part_room p margin space k (more_parts_pieces margin ps rest) (omega arith) (more_parts_room ps margin k rest (omega arith) h))

  part_room : (p : Part) (margin gap : List ℕ) → Roomy (deep_part p) (part_pieces margin gap p)
  part_room (block n any q b) margin gap k rest less h =
      let inner = body_room b margin k rest (omega arith) h in
      if_room any gap (codes "some") k (λ g. head g q (query_pieces g q (body_pieces margin b rest)) (body_pieces margin b rest))
      (λ g. head_room q g k (query_pieces g q (body_pieces margin b rest)) (body_pieces margin b rest) inner (query_room q g k (body_pieces margin b rest) (omega arith) inner))
  part_room (guarded n c b) margin gap k rest less h =
      name_room gap (codes "when") k (conds_pieces space c (body_pieces margin b rest)) (conds_room c space k (body_pieces margin b rest) (omega arith) (body_room b margin k rest (omega arith) h))
  part_room (kinds n text c b) margin gap k rest less h = (λ x. absurd (true≢false (sym x)), opt_conds_room c k (body_pieces margin b rest) (omega arith) (body_room b margin k rest (omega arith) h))
  part_room (test n any q o negated right message) margin gap k rest less h = cond_room (test n any q o negated right message) gap k rest less h
  part_room (refer n negated text message) margin gap k rest less h = cond_room (refer n negated text message) gap k rest less h
  part_room (call n negated text es message) margin gap k rest less h = cond_room (call n negated text es message) gap k rest less h

-- ---- files

names_room : (ns : List Named) (k : ℕ) (rest : List Piece) → HasRoom k rest → HasRoom k (more_names ns rest)
names_room [] k rest h = h
names_room (n ∷ ns) k rest h = (λ x. absurd (true≢false (sym x)), name_room space n.text k (more_names ns rest) (names_room ns k rest h))

params_room : (ns : List Named) (c : OptConds) → Roomy (deep_head ns c) (λ rest. params ns (opt_conds_pieces c rest))
params_room [] c k rest less h = opt_conds_room c k rest less h
params_room (n ∷ ns) c k rest less h = (
  λ e. omega arith,
  name_room [] n.text (suc k) (more_names ns (mark [] m.RParen (opt_conds_pieces c rest)))
      (names_room ns (suc k) (mark [] m.RParen (opt_conds_pieces c rest)) (λ x. absurd (true≢false (sym x)), opt_conds_room c k rest (omega arith) h)),
)

rule_room : (r : Rule) (gap : List ℕ) → Roomy (deep_rule r) ((rule_item r).1 gap)
rule_room r gap k rest less h =
    let behind = params r.params (opt_conds_pieces r.cond (body_pieces [] r.body rest)) in
    name_room gap (codes "rule") k (name space r.name.text behind)
    (name_room space r.name.text k behind (params_room r.params r.cond k (body_pieces [] r.body rest) (omega arith) (body_room r.body [] k rest (omega arith) h)))

rules_room : (rs : List Rule) (d : ℕ) → deep_rules rs ≤ d → RowRoomy d (rule_items rs)
rules_room [] d less = tt
rules_room (r ∷ rs) d less = (λ gap k rest few h. rule_room r gap k rest (omega arith) h, rules_room rs d (omega arith))

pub file_room : (f : File) → deep_file f.lets f.rules f.loose ≤ 128 → HasRoom 0 (rule_pieces f)
file_room f less =
    let others = merged_room 128 (rule_items f.rules) (rules_room f.rules 128 (omega arith)) (disj_items [] f.loose) (disjs_room f.loose [] 128 (omega arith)) in
    let items = merged_room 128 (let_items f.lets) (lets_room f.lets 128 (omega arith)) (merged (rule_items f.rules) (disj_items [] f.loose)) others in
    row_room 128 (file_items f) [] (new_line []) items 0 [] (omega arith) tt
