-- A syntax has the same text as without its places: by recursion on the syntax.
use Rattle.std.proofs.Common.{◌≡◌, ℕ, Bool, List, [], ◌∷◌, ◌++◌, map, Option, Some, None, codes, refl, sym, ap, ◌∙◌, if◌then◌else◌}
use Rattle.std.specs.Prelude.{option_map}
use Rattle.doc_values.specs.Tree.{Label, Forest, Nil, Node}
use Rattle.doc_values.specs.declared.kind.Kind.{Kind}
use Rattle.doc_values.specs.declared.kind.Kind.TheVariants as kind
use Rattle.guard_syntax.specs.Named.{Named}
use Rattle.guard_syntax.specs.Syntax.{Body, Lets, Let, Conds, OptConds, Disjs, Disj, Parts, Part, Query, Steps, Step, Expr, OptExpr, Exprs, Rule, File, body, no_lets, more_lets, assign, conds, no_conds, with_conds, no_disjs, more_disjs, disj, no_parts, more_parts, block, guarded, kinds, test, refer, call, query, no_steps, more_steps, this, var, key, index, every, items, splice, filter, keys, literal, function, asked, found, no_expr, with_expr, no_exprs, more_exprs}
use Rattle.rule_words.specs.WordText.{word_if, operator_text, note_text, capture_text, value_text, entry_key, items_text, more_items_text, entries_text, more_entries_text, literal_text, space_behind, is_bracketed, space_within, head_text, more_names_text, params_text}
use Rattle.rule_printer.specs.RuleText.{within, line, merged, in_a_row, start_text, body_text, let_lines, let_line, disj_lines, disj_line, parts_text, more_parts_text, part_text, conds_text, disjs_text, more_disjs_text, disj_text, alternatives_text, more_alternatives_text, cond_text, opt_conds_text, query_text, asked_text, steps_text, step_text, expr_text, opt_expr_text, exprs_text, more_exprs_text, rule_line, rule_lines, rule_text}
use Rattle.printer_laws.specs.code.Unplaced.{unplaced_name, unplaced_label, unplaced_tree, unplaced_body, unplaced_lets, unplaced_let, unplaced_conds, unplaced_opt_conds, unplaced_disjs, unplaced_disj, unplaced_parts, unplaced_part, unplaced_query, unplaced_steps, unplaced_step, unplaced_expr, unplaced_opt_expr, unplaced_exprs, unplaced_rule, unplaced, AreSameButPlaces}

cat : (a b c d : List ℕ) → a ≡ c → b ≡ d → a ++ b ≡ c ++ d
cat a b c d p q = ap (λ (x : List ℕ). x ++ b) p ∙ ap (λ (y : List ℕ). c ++ y) q

behind : (a b c : List ℕ) → b ≡ c → a ++ b ≡ a ++ c
behind a b c p = ap (λ (y : List ℕ). a ++ y) p

-- ---- literals

value-same : (l : Label) (k : Kind) (i j e f : List ℕ) → i ≡ j → e ≡ f → value_text (unplaced_label l) k i e ≡ value_text l k j f
value-same l kind.List i j e f p q = ap (λ (x : List ℕ). codes "[" ++ (x ++ codes "]")) p
value-same l kind.Map i j e f p q = ap (λ (x : List ℕ). codes "{" ++ (x ++ codes "}")) q
value-same l (kind.Limits r) i j e f p q = refl
value-same l kind.Text i j e f p q = refl
value-same l kind.Pattern i j e f p q = refl
value-same l (kind.Whole n) i j e f p q = refl
value-same l (kind.Fraction d) i j e f p q = refl
value-same l (kind.Truth b) i j e f p q = refl
value-same l kind.Null i j e f p q = refl

mutual
  items-same : (f : Forest) → items_text (unplaced_tree f) ≡ items_text f
  items-same Nil = refl
  items-same (Node l kids rest) = cat _ _ _ _ (value-same l l.kind _ _ _ _ (items-same kids) (entries-same kids)) (more_items-same rest)

  more_items-same : (f : Forest) → more_items_text (unplaced_tree f) ≡ more_items_text f
  more_items-same Nil = refl
  more_items-same (Node l kids rest) = behind (codes ", ") _ _ (cat _ _ _ _ (value-same l l.kind _ _ _ _ (items-same kids) (entries-same kids)) (more_items-same rest))

  entries-same : (f : Forest) → entries_text (unplaced_tree f) ≡ entries_text f
  entries-same Nil = refl
  entries-same (Node l kids rest) = behind (entry_key l.key) _ _ (cat _ _ _ _ (value-same l l.kind _ _ _ _ (items-same kids) (entries-same kids)) (more_entries-same rest))

  more_entries-same : (f : Forest) → more_entries_text (unplaced_tree f) ≡ more_entries_text f
  more_entries-same Nil = refl
  more_entries-same (Node l kids rest) =
      behind (codes ", ") _ _ (behind (entry_key l.key) _ _ (cat _ _ _ _ (value-same l l.kind _ _ _ _ (items-same kids) (entries-same kids)) (more_entries-same rest)))

literal-same : (f : Forest) → literal_text (unplaced_tree f) ≡ literal_text f
literal-same Nil = refl
literal-same (Node l kids rest) = value-same l l.kind _ _ _ _ (items-same kids) (entries-same kids)

-- ---- queries

bracketed-same : (p : Step) → is_bracketed (unplaced_step p) ≡ is_bracketed p
bracketed-same (this n) = refl
bracketed-same (var n name) = refl
bracketed-same (key n name) = refl
bracketed-same (index n i) = refl
bracketed-same (every n) = refl
bracketed-same (items n) = refl
bracketed-same (splice n name) = refl
bracketed-same (filter n capture c) = refl
bracketed-same (keys n capture op negated e) = refl

space-same : (p : Step) (ps : Steps) → space_within (unplaced_step p) (unplaced_steps ps) ≡ space_within p ps
space-same (key n name) no_steps = refl
space-same (key n name) (more_steps step steps) = ap (λ (v : Bool). if v then space_behind name else []) (bracketed-same step)
space-same (this n) ps = refl
space-same (var n name) ps = refl
space-same (index n i) ps = refl
space-same (every n) ps = refl
space-same (items n) ps = refl
space-same (splice n name) ps = refl
space-same (filter n capture c) ps = refl
space-same (keys n capture op negated e) ps = refl

start-same : (p : Step) (x y : List ℕ) → x ≡ y → start_text (unplaced_step p) x ≡ start_text p y
start-same (key n name) x y e = refl
start-same (this n) x y e = e
start-same (var n name) x y e = e
start-same (index n i) x y e = e
start-same (every n) x y e = e
start-same (items n) x y e = e
start-same (splice n name) x y e = e
start-same (filter n capture c) x y e = e
start-same (keys n capture op negated f) x y e = e

head-same : (q : Query) (x y : List ℕ) → x ≡ y → head_text (unplaced_query q) x ≡ head_text q y
head-same (query m no_steps) x y e = e
head-same (query m (more_steps (key n name) no_steps)) x y e = refl
head-same (query m (more_steps (key n name) (more_steps p ps))) x y e = e
head-same (query m (more_steps (this n) ps)) x y e = e
head-same (query m (more_steps (var n name) ps)) x y e = e
head-same (query m (more_steps (index n i) ps)) x y e = e
head-same (query m (more_steps (every n) ps)) x y e = e
head-same (query m (more_steps (items n) ps)) x y e = e
head-same (query m (more_steps (splice n name) ps)) x y e = e
head-same (query m (more_steps (filter n capture c) ps)) x y e = e
head-same (query m (more_steps (keys n capture op negated f) ps)) x y e = e

capture-same : (c : Option Named) → capture_text (option_map unplaced_name c) ≡ capture_text c
capture-same None = refl
capture-same (Some name) = refl

-- ---- conditions

mutual
  conds-same : (c : Conds) → conds_text (unplaced_conds c) ≡ conds_text c
  conds-same (conds n ds) = disjs-same ds

  disjs-same : (ds : Disjs) → disjs_text (unplaced_disjs ds) ≡ disjs_text ds
  disjs-same no_disjs = refl
  disjs-same (more_disjs d ds) = cat _ _ _ _ (disj-same d) (more_disjs-same ds)

  more_disjs-same : (ds : Disjs) → more_disjs_text (unplaced_disjs ds) ≡ more_disjs_text ds
  more_disjs-same no_disjs = refl
  more_disjs-same (more_disjs d ds) = behind (codes " ") _ _ (cat _ _ _ _ (disj-same d) (more_disjs-same ds))

  disj-same : (d : Disj) → disj_text (unplaced_disj d) ≡ disj_text d
  disj-same (disj n ps) = alternatives-same ps

  alternatives-same : (ps : Parts) → alternatives_text (unplaced_parts ps) ≡ alternatives_text ps
  alternatives-same no_parts = refl
  alternatives-same (more_parts p ps) = cat _ _ _ _ (cond-same p) (more_alternatives-same ps)

  more_alternatives-same : (ps : Parts) → more_alternatives_text (unplaced_parts ps) ≡ more_alternatives_text ps
  more_alternatives-same no_parts = refl
  more_alternatives-same (more_parts p ps) = behind (codes " or ") _ _ (cat _ _ _ _ (cond-same p) (more_alternatives-same ps))

  cond-same : (p : Part) → cond_text (unplaced_part p) ≡ cond_text p
  cond-same (block n any q b) = refl
  cond-same (guarded n c b) = refl
  cond-same (kinds n name c b) = refl
  cond-same (test n any q op negated right message) =
      behind (word_if any (codes "some ")) _ _ (cat _ _ _ _ (query-same q) (behind (codes " ") _ _ (behind (operator_text op negated) _ _ (ap (λ (x : List ℕ). x ++ note_text message) (opt_expr-same right)))))
  cond-same (refer n negated name message) = refl
  cond-same (call n negated name es message) =
      behind (word_if negated (codes "not ")) _ _ (behind name _ _ (behind (codes "(") _ _ (ap (λ (x : List ℕ). x ++ (codes ")" ++ note_text message)) (exprs-same es))))

  query-same : (q : Query) → query_text (unplaced_query q) ≡ query_text q
  query-same (query n no_steps) = refl
  query-same (query n (more_steps p ps)) = cat _ _ _ _ (start-same p _ _ (step-same p)) (steps-same ps)

  asked-same : (q : Query) → asked_text (unplaced_query q) ≡ asked_text q
  asked-same (query n no_steps) = refl
  asked-same (query n (more_steps p ps)) = cat _ _ _ _ (start-same p _ _ (step-same p)) (cat _ _ _ _ (space-same p ps) (steps-same ps))

  steps-same : (ps : Steps) → steps_text (unplaced_steps ps) ≡ steps_text ps
  steps-same no_steps = refl
  steps-same (more_steps p ps) = cat _ _ _ _ (step-same p) (steps-same ps)

  step-same : (p : Step) → step_text (unplaced_step p) ≡ step_text p
  step-same (this n) = refl
  step-same (var n name) = refl
  step-same (key n name) = refl
  step-same (index n i) = refl
  step-same (every n) = refl
  step-same (items n) = refl
  step-same (splice n name) = refl
  step-same (filter n capture c) = behind (codes "[ ") _ _ (cat _ _ _ _ (capture-same capture) (ap (λ (x : List ℕ). x ++ codes " ]") (conds-same c)))
  step-same (keys n capture op negated e) = behind (codes "[ ") _ _
      (cat _ _ _ _ (capture-same capture) (behind (codes "keys ") _ _ (behind (operator_text op negated) _ _ (behind (codes " ") _ _ (ap (λ (x : List ℕ). x ++ codes " ]") (expr-same e))))))

  expr-same : (e : Expr) → expr_text (unplaced_expr e) ≡ expr_text e
  expr-same (literal n tree) = literal-same tree
  expr-same (function n name es) = behind name _ _ (behind (space_behind name) _ _ (behind (codes "(") _ _ (ap (λ (x : List ℕ). x ++ codes ")") (exprs-same es))))
  expr-same (asked q) = asked-same q
  expr-same (found n q) = behind (codes "some ") _ _ (query-same q)

  opt_expr-same : (e : OptExpr) → opt_expr_text (unplaced_opt_expr e) ≡ opt_expr_text e
  opt_expr-same no_expr = refl
  opt_expr-same (with_expr e) = behind (codes " ") _ _ (expr-same e)

  exprs-same : (es : Exprs) → exprs_text (unplaced_exprs es) ≡ exprs_text es
  exprs-same no_exprs = refl
  exprs-same (more_exprs e es) = cat _ _ _ _ (expr-same e) (more_exprs-same es)

  more_exprs-same : (es : Exprs) → more_exprs_text (unplaced_exprs es) ≡ more_exprs_text es
  more_exprs-same no_exprs = refl
  more_exprs-same (more_exprs e es) = behind (codes ", ") _ _ (cat _ _ _ _ (expr-same e) (more_exprs-same es))

opt_conds-same : (c : OptConds) → opt_conds_text (unplaced_opt_conds c) ≡ opt_conds_text c
opt_conds-same no_conds = refl
opt_conds-same (with_conds c) = behind (codes " when ") _ _ (conds-same c)

-- ---- lets and blocks

let-same : (margin : List ℕ) (l : Let) → let_line margin (unplaced_let l) ≡ let_line margin l
let-same margin (assign n name e) = ap (λ (x : List ℕ). (n, line margin (codes "let " ++ (name.text ++ (codes " = " ++ x))))) (expr-same e)

pub lets-same : (margin : List ℕ) (ls : Lets) → let_lines margin (unplaced_lets ls) ≡ let_lines margin ls
lets-same margin no_lets = refl
lets-same margin (more_lets l ls) = ap (λ (x : ℕ × List ℕ). x ∷ let_lines margin (unplaced_lets ls)) (let-same margin l) ∙ ap (λ (xs : List (ℕ × List ℕ)). let_line margin l ∷ xs) (lets-same margin ls)

merged-same : (margin : List ℕ) (xs ys us vs : List (ℕ × List ℕ)) → xs ≡ us → ys ≡ vs → in_a_row (merged xs ys) ++ margin ≡ in_a_row (merged us vs) ++ margin
merged-same margin xs ys us vs p q = ap (λ (l : List (ℕ × List ℕ)). in_a_row (merged l ys) ++ margin) p ∙ ap (λ (l : List (ℕ × List ℕ)). in_a_row (merged us l) ++ margin) q

mutual
  body-same : (margin : List ℕ) (b : Body) → body_text margin (unplaced_body b) ≡ body_text margin b
  body-same margin (body n ls ds) = behind (codes " {\n") _ _ (merged-same (margin ++ codes "}") _ _ _ _ (lets-same (within margin) ls) (disj_lines-same (within margin) ds))

  disj_lines-same : (margin : List ℕ) (ds : Disjs) → disj_lines margin (unplaced_disjs ds) ≡ disj_lines margin ds
  disj_lines-same margin no_disjs = refl
  disj_lines-same margin (more_disjs d ds) =
      ap (λ (x : ℕ × List ℕ). x ∷ disj_lines margin (unplaced_disjs ds)) (disj_line-same margin d) ∙ ap (λ (xs : List (ℕ × List ℕ)). disj_line margin d ∷ xs) (disj_lines-same margin ds)

  disj_line-same : (margin : List ℕ) (d : Disj) → disj_line margin (unplaced_disj d) ≡ disj_line margin d
  disj_line-same margin (disj n ps) = ap (λ (x : List ℕ). (n, line margin x)) (parts-same margin ps)

  parts-same : (margin : List ℕ) (ps : Parts) → parts_text margin (unplaced_parts ps) ≡ parts_text margin ps
  parts-same margin no_parts = refl
  parts-same margin (more_parts p ps) = cat _ _ _ _ (part-same margin p) (more_parts-same margin ps)

  more_parts-same : (margin : List ℕ) (ps : Parts) → more_parts_text margin (unplaced_parts ps) ≡ more_parts_text margin ps
  more_parts-same margin no_parts = refl
  more_parts-same margin (more_parts p ps) = behind (codes " or ") _ _ (cat _ _ _ _ (part-same margin p) (more_parts-same margin ps))

  part-same : (margin : List ℕ) (p : Part) → part_text margin (unplaced_part p) ≡ part_text margin p
  part-same margin (block n any q b) = behind (word_if any (codes "some ")) _ _ (cat _ _ _ _ (head-same q _ _ (query-same q)) (body-same margin b))
  part-same margin (guarded n c b) = behind (codes "when ") _ _ (cat _ _ _ _ (conds-same c) (body-same margin b))
  part-same margin (kinds n name c b) = behind name _ _ (cat _ _ _ _ (opt_conds-same c) (body-same margin b))
  part-same margin (test n any q op negated right message) = cond-same (test n any q op negated right message)
  part-same margin (refer n negated name message) = refl
  part-same margin (call n negated name es message) = cond-same (call n negated name es message)

-- ---- files

more_names-same : (names : List Named) → more_names_text (map unplaced_name names) ≡ more_names_text names
more_names-same [] = refl
more_names-same (name ∷ names) = behind (codes ", ") _ _ (behind name.text _ _ (more_names-same names))

params-same : (names : List Named) → params_text (map unplaced_name names) ≡ params_text names
params-same [] = refl
params-same (name ∷ names) = ap (λ (x : List ℕ). codes "(" ++ ((name.text ++ x) ++ codes ")")) (more_names-same names)

rule-same : (r : Rule) → rule_line (unplaced_rule r) ≡ rule_line r
rule-same r = ap (λ (x : List ℕ). (r.site, line [] (codes "rule " ++ (r.name.text ++ x)))) (cat _ _ _ _ (params-same r.params) (cat _ _ _ _ (opt_conds-same r.cond) (body-same [] r.body)))

rules-same : (rs : List Rule) → rule_lines (map unplaced_rule rs) ≡ rule_lines rs
rules-same [] = refl
rules-same (r ∷ rs) = ap (λ (x : ℕ × List ℕ). x ∷ rule_lines (map unplaced_rule rs)) (rule-same r) ∙ ap (λ (xs : List (ℕ × List ℕ)). rule_line r ∷ xs) (rules-same rs)

-- a file without its places
pub file-same : (f : File) → rule_text (unplaced f) ≡ rule_text f
file-same f =
    ap (λ (xs : List (ℕ × List ℕ)). in_a_row (merged xs (merged (rule_lines (map unplaced_rule f.rules)) (disj_lines [] (unplaced_disjs f.loose))))) (lets-same [] f.lets)
    ∙ ap (λ (xs : List (ℕ × List ℕ)). in_a_row (merged (let_lines [] f.lets) (merged xs (disj_lines [] (unplaced_disjs f.loose))))) (rules-same f.rules)
    ∙ ap (λ (xs : List (ℕ × List ℕ)). in_a_row (merged (let_lines [] f.lets) (merged (rule_lines f.rules) xs))) (disj_lines-same [] f.loose)

pub rule_text-same : (f g : File) → AreSameButPlaces f g → rule_text f ≡ rule_text g
rule_text-same f g same = sym (file-same f) ∙ ap rule_text same ∙ file-same g
