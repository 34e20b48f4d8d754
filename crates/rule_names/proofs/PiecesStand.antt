-- What is found at a site stands in the file.
use Rattle.std.proofs.Common.{◌≡◌, ◌⊎◌, ℕ, suc, Bool, true, false, cond, sym, ◌∙◌, subst, inl, inr, List, [], ◌∷◌, ◌++◌, Option, Some, None}
use Rattle.std.specs.Prelude.{◌==◌, find, option_map}
use Rattle.std.proofs.lemmas.List.{append-nil}
use Rattle.guard_syntax.specs.Syntax.{Body, Lets, Let, Conds, OptConds, Disjs, Disj, Parts, Part, Query, Steps, Step, Expr, OptExpr, Exprs, Rule, File, body, no_lets, more_lets, assign, conds, no_conds, with_conds, no_disjs, more_disjs, disj, no_parts, more_parts, block, guarded, kinds, test, refer, call, query, no_steps, more_steps, this, var, key, index, every, items, splice, filter, keys, literal, function, asked, found, no_expr, with_expr, no_exprs, more_exprs}
use Rattle.rule_names.specs.Pieces.{Piece, OfFile, OfLet, OfRule, OfBody, OfConds, OfDisj, OfPart, OfQuery, OfStep, OfExpr, Sited, piece_in, piece_at, pieces_file, pieces_body, pieces_lets, pieces_let, pieces_conds, pieces_opt_conds, pieces_disjs, pieces_disj, pieces_parts, pieces_part, pieces_query, pieces_steps, pieces_step, pieces_expr, pieces_opt_expr, pieces_exprs, pieces_rule, pieces_rules}
use Rattle.rule_names.specs.code.Within.{IsAmong}
use Rattle.rule_names.proofs.Among.{IsAmong-inner, IsAmong-last, IsAmong-first, IsAmong-behind}
use Rattle.rule_names.proofs.Parts.{either, in-append}

-- the pieces of a piece stand among others: those of an expression, a query or a rule, and of a step those of its query
abbrev pub Own : List Sited → Piece → Type 0
Own all (OfRule r) = IsAmong (pieces_rule r) all
Own all (OfQuery q) = IsAmong (pieces_query q) all
Own all (OfStep q i) = IsAmong (pieces_query q) all
Own all (OfExpr e) = IsAmong (pieces_expr e) all
Own all _ = Unit {0}

abbrev pub Stands : File → Piece → Type 0
Stands f p = Own (pieces_file f) p

-- a piece is the first of some, or found behind it
cons-by : (v : Bool) (m : ℕ) (q p : Piece) (rest : Option Sited) → option_map (λ (s : Sited). s.1) (cond v (Some (m, q)) rest) ≡ Some p
    → (q ≡ p) ⊎ (option_map (λ (s : Sited). s.1) rest ≡ Some p)
cons-by true m q p rest e = inl cc
cons-by false m q p rest e = inr e

pub cons-found : (n m : ℕ) (q p : Piece) (ps : List Sited) → piece_in ((m, q) ∷ ps) n ≡ Some p → (q ≡ p) ⊎ (piece_in ps n ≡ Some p)
cons-found n m q p ps e = cons-by (m == n) m q p (find (λ (s : Sited). s.0 == n) ps) e

-- in the first of two lists, or in the second
either-found : (a b : Option Piece) (p : Piece) → either a b ≡ Some p → (a ≡ Some p) ⊎ (b ≡ Some p)
either-found None b p e = inr e
either-found (Some q) b p e = inl e

pub append-found : (n : ℕ) (p : Piece) (ps qs : List Sited) → piece_in (ps ++ qs) n ≡ Some p → (piece_in ps n ≡ Some p) ⊎ (piece_in qs n ≡ Some p)
append-found n p ps qs e = either-found (piece_in ps n) (piece_in qs n) p (sym (in-append n ps qs) ∙ e)

pub none-found : (n : ℕ) (p : Piece) → piece_in [] n ≡ Some p → ⊥
none-found n p e = absurd cc

pub IsAmong-whole : (ps : List Sited) → IsAmong ps ps
IsAmong-whole ps = ([], [], sym (append-nil ps))

-- among all, where the site and the piece that is looked for are given
module _ (all : List Sited) (n : ℕ) (p : Piece) where
  -- lists that are joined stand among all, so each does
  first-of : (ps qs : List Sited) → IsAmong (ps ++ qs) all → IsAmong ps all
  first-of ps qs a = IsAmong-inner ps (ps ++ qs) all (IsAmong-first ps qs) a

  last-of : (ps qs : List Sited) → IsAmong (ps ++ qs) all → IsAmong qs all
  last-of ps qs a = IsAmong-inner qs (ps ++ qs) all (IsAmong-last ps qs) a

  behind : (q : Sited) (ps : List Sited) → IsAmong (q ∷ ps) all → IsAmong ps all
  behind q ps a = IsAmong-inner ps (q ∷ ps) all (IsAmong-behind q ps ps (IsAmong-whole ps)) a

  -- what is found in one of two lists
  joined : (ps qs : List Sited) → IsAmong (ps ++ qs) all → (IsAmong ps all → piece_in ps n ≡ Some p → Own all p) → (IsAmong qs all → piece_in qs n ≡ Some p → Own all p)
      → piece_in (ps ++ qs) n ≡ Some p → Own all p
  joined ps qs a one other e = elim (append-found n p ps qs e) [
    | inl here ↦ one (first-of ps qs a) here
    | inr there ↦ other (last-of ps qs a) there
  ]

  -- what is found as the first, or behind it
  headed : (m : ℕ) (q : Piece) (ps : List Sited) → IsAmong ((m, q) ∷ ps) all → Own all q → (IsAmong ps all → piece_in ps n ≡ Some p → Own all p)
      → piece_in ((m, q) ∷ ps) n ≡ Some p → Own all p
  headed m q ps a own rest e = elim (cons-found n m q p ps e) [
    | inl same ↦ subst (Own all) same own
    | inr there ↦ rest (behind (m, q) ps a) there
  ]

  mutual
    stands-body : (x : Body) → IsAmong (pieces_body x) all → piece_in (pieces_body x) n ≡ Some p → Own all p
    stands-body (body m ls ds) a e = headed m (OfBody (body m ls ds)) (pieces_lets ls ++ pieces_disjs ds) a tt (λ a e. joined (pieces_lets ls) (pieces_disjs ds) a (stands-lets ls) (stands-disjs ds) e) e

    stands-lets : (x : Lets) → IsAmong (pieces_lets x) all → piece_in (pieces_lets x) n ≡ Some p → Own all p
    stands-lets no_lets a e = absurd (none-found n p e)
    stands-lets (more_lets l ls) a e = joined (pieces_let l) (pieces_lets ls) a (stands-let l) (stands-lets ls) e

    stands-let : (x : Let) → IsAmong (pieces_let x) all → piece_in (pieces_let x) n ≡ Some p → Own all p
    stands-let (assign m name x) a e = headed m (OfLet (assign m name x)) (pieces_expr x) a tt (stands-expr x) e

    stands-conds : (x : Conds) → IsAmong (pieces_conds x) all → piece_in (pieces_conds x) n ≡ Some p → Own all p
    stands-conds (conds m ds) a e = headed m (OfConds (conds m ds)) (pieces_disjs ds) a tt (stands-disjs ds) e

    stands-opt_conds : (x : OptConds) → IsAmong (pieces_opt_conds x) all → piece_in (pieces_opt_conds x) n ≡ Some p → Own all p
    stands-opt_conds no_conds a e = absurd (none-found n p e)
    stands-opt_conds (with_conds c) a e = stands-conds c a e

    stands-disjs : (x : Disjs) → IsAmong (pieces_disjs x) all → piece_in (pieces_disjs x) n ≡ Some p → Own all p
    stands-disjs no_disjs a e = absurd (none-found n p e)
    stands-disjs (more_disjs d ds) a e = joined (pieces_disj d) (pieces_disjs ds) a (stands-disj d) (stands-disjs ds) e

    stands-disj : (x : Disj) → IsAmong (pieces_disj x) all → piece_in (pieces_disj x) n ≡ Some p → Own all p
    stands-disj (disj m ps) a e = headed m (OfDisj (disj m ps)) (pieces_parts ps) a tt (stands-parts ps) e

    stands-parts : (x : Parts) → IsAmong (pieces_parts x) all → piece_in (pieces_parts x) n ≡ Some p → Own all p
    stands-parts no_parts a e = absurd (none-found n p e)
    stands-parts (more_parts x xs) a e = joined (pieces_part x) (pieces_parts xs) a (stands-part x) (stands-parts xs) e

    stands-part : (x : Part) → IsAmong (pieces_part x) all → piece_in (pieces_part x) n ≡ Some p → Own all p
    stands-part (block m any q b) a e = headed m (OfPart (block m any q b)) (pieces_query q ++ pieces_body b) a tt (λ a e. joined (pieces_query q) (pieces_body b) a (stands-query q) (stands-body b) e) e
    stands-part (guarded m c b) a e = headed m (OfPart (guarded m c b)) (pieces_conds c ++ pieces_body b) a tt (λ a e. joined (pieces_conds c) (pieces_body b) a (stands-conds c) (stands-body b) e) e
    stands-part (kinds m name c b) a e = headed m (OfPart (kinds m name c b)) (pieces_opt_conds c ++ pieces_body b) a tt (λ a e. joined (pieces_opt_conds c) (pieces_body b) a (stands-opt_conds c) (stands-body b) e) e
    stands-part (test m any q op negated right message) a e = headed m (OfPart (test m any q op negated right message)) (pieces_query q ++ pieces_opt_expr right) a tt (λ a e. joined (pieces_query q) (pieces_opt_expr right) a (stands-query q) (stands-opt_expr right) e) e
    stands-part (refer m negated name message) a e = headed m (OfPart (refer m negated name message)) ([]) a tt (λ a e. absurd (none-found n p e)) e
    stands-part (call m negated name es message) a e = headed m (OfPart (call m negated name es message)) (pieces_exprs es) a tt (stands-exprs es) e

    stands-query : (x : Query) → IsAmong (pieces_query x) all → piece_in (pieces_query x) n ≡ Some p → Own all p
    stands-query (query m ss) whole e = headed m (OfQuery (query m ss)) (pieces_steps (query m ss) 0 ss) whole whole (λ a e. stands-steps (query m ss) 0 ss whole a e) e

    -- steps of a query that stands among all
    stands-steps : (q : Query) (i : ℕ) (x : Steps) → IsAmong (pieces_query q) all → IsAmong (pieces_steps q i x) all → piece_in (pieces_steps q i x) n ≡ Some p → Own all p
    stands-steps q i no_steps whole a e = absurd (none-found n p e)
    stands-steps q i (more_steps x xs) whole a e = joined (pieces_step q i x) (pieces_steps q (suc i) xs) a (stands-step q i x whole) (stands-steps q (suc i) xs whole) e

    stands-step : (q : Query) (i : ℕ) (x : Step) → IsAmong (pieces_query q) all → IsAmong (pieces_step q i x) all → piece_in (pieces_step q i x) n ≡ Some p → Own all p
    stands-step q i (this m) whole a e = headed m (OfStep q i) [] a whole (λ a e. absurd (none-found n p e)) e
    stands-step q i (var m name) whole a e = headed m (OfStep q i) [] a whole (λ a e. absurd (none-found n p e)) e
    stands-step q i (key m name) whole a e = headed m (OfStep q i) [] a whole (λ a e. absurd (none-found n p e)) e
    stands-step q i (index m at) whole a e = headed m (OfStep q i) [] a whole (λ a e. absurd (none-found n p e)) e
    stands-step q i (every m) whole a e = headed m (OfStep q i) [] a whole (λ a e. absurd (none-found n p e)) e
    stands-step q i (items m) whole a e = headed m (OfStep q i) [] a whole (λ a e. absurd (none-found n p e)) e
    stands-step q i (splice m name) whole a e = headed m (OfStep q i) [] a whole (λ a e. absurd (none-found n p e)) e
    stands-step q i (filter m capture c) whole a e = headed m (OfStep q i) (pieces_conds c) a whole (stands-conds c) e
    stands-step q i (keys m capture op negated x) whole a e = headed m (OfStep q i) (pieces_expr x) a whole (stands-expr x) e

    stands-expr : (x : Expr) → IsAmong (pieces_expr x) all → piece_in (pieces_expr x) n ≡ Some p → Own all p
    stands-expr (literal m tree) a e = headed m (OfExpr (literal m tree)) [] a a (λ a e. absurd (none-found n p e)) e
    stands-expr (function m name es) a e = headed m (OfExpr (function m name es)) (pieces_exprs es) a a (stands-exprs es) e
    stands-expr (asked q) a e = stands-query q a e
    stands-expr (found m q) a e = headed m (OfExpr (found m q)) (pieces_query q) a a (stands-query q) e

    stands-opt_expr : (x : OptExpr) → IsAmong (pieces_opt_expr x) all → piece_in (pieces_opt_expr x) n ≡ Some p → Own all p
    stands-opt_expr no_expr a e = absurd (none-found n p e)
    stands-opt_expr (with_expr x) a e = stands-expr x a e

    stands-exprs : (x : Exprs) → IsAmong (pieces_exprs x) all → piece_in (pieces_exprs x) n ≡ Some p → Own all p
    stands-exprs no_exprs a e = absurd (none-found n p e)
    stands-exprs (more_exprs x xs) a e = joined (pieces_expr x) (pieces_exprs xs) a (stands-expr x) (stands-exprs xs) e

  stands-rule : (r : Rule) → IsAmong (pieces_rule r) all → piece_in (pieces_rule r) n ≡ Some p → Own all p
  stands-rule r a e =
      headed r.site (OfRule r) (pieces_opt_conds r.cond ++ pieces_body r.body) a a
      (λ a e. joined (pieces_opt_conds r.cond) (pieces_body r.body) a (stands-opt_conds r.cond) (stands-body r.body) e) e

  stands-rules : (rs : List Rule) → IsAmong (pieces_rules rs) all → piece_in (pieces_rules rs) n ≡ Some p → Own all p
  stands-rules [] a e = absurd (none-found n p e)
  stands-rules (r ∷ rs) a e = joined (pieces_rule r) (pieces_rules rs) a (stands-rule r) (stands-rules rs) e

-- what has a site stands in its file
pub piece-stands : (f : File) (n : ℕ) (p : Piece) → piece_at f n ≡ Some p → Stands f p
piece-stands f n p e =
    let all : List Sited = pieces_file f in
    headed all n p 0 OfFile (pieces_lets f.lets ++ (pieces_rules f.rules ++ pieces_disjs f.loose)) (IsAmong-whole all) tt
    (λ a e. joined all n p (pieces_lets f.lets) (pieces_rules f.rules ++ pieces_disjs f.loose) a (stands-lets all n p f.lets)
    (λ a e. joined all n p (pieces_rules f.rules) (pieces_disjs f.loose) a (stands-rules all n p f.rules) (stands-disjs all n p f.loose) e) e) e
