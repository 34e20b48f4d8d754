-- Parts, bodies and rules that are found at a site stand in the file, and so does what stands in them.
use Rattle.std.proofs.Common.{◌≡◌, ℕ, suc, sym, subst, refl, inl, inr, List, [], ◌∷◌, ◌++◌, Some, zero, ◌<◌, length, get_or, arith}
use Rattle.std.specs.Prelude.{Contains}
use Rattle.std.proofs.lemmas.List.{append-nil}
use Rattle.guard_syntax.specs.Syntax.{Body, Lets, Let, Conds, OptConds, Disjs, Disj, Parts, Part, Query, Steps, Step, Expr, OptExpr, Exprs, Rule, File, body, no_lets, more_lets, assign, conds, no_conds, with_conds, no_disjs, more_disjs, disj, no_parts, more_parts, block, guarded, kinds, test, refer, call, query, no_steps, more_steps, this, var, key, index, every, items, splice, filter, keys, literal, function, asked, found, no_expr, with_expr, no_exprs, more_exprs}
use Rattle.rule_names.specs.Pieces.{Piece, OfFile, OfLet, OfRule, OfBody, OfConds, OfDisj, OfPart, OfQuery, OfStep, OfExpr, Sited, piece_in, piece_at, pieces_file, pieces_body, pieces_lets, pieces_let, pieces_conds, pieces_opt_conds, pieces_disjs, pieces_disj, pieces_parts, pieces_part, pieces_query, pieces_steps, pieces_step, pieces_expr, pieces_opt_expr, pieces_exprs, pieces_rule, pieces_rules}
use Rattle.rule_names.specs.code.Within.{IsAmong, StandsIn}
use Rattle.rule_names.proofs.Among.{IsAmong-inner, IsAmong-last, IsAmong-first, IsAmong-behind}
use Rattle.rule_names.proofs.PiecesStand.{cons-found, append-found, none-found}

-- a rule is one of the file's, and the pieces of a body or a part are among those of the file
abbrev pub Own : File → Piece → Type 0
Own f (OfRule r) = Contains f.rules r
Own f (OfBody b) = StandsIn f (pieces_body b)
Own f (OfPart p) = StandsIn f (pieces_part p)
Own f _ = Unit {0}

whole-among : (ps : List Sited) → IsAmong ps ps
whole-among ps = ([], [], sym (append-nil ps))

module _ (f : File) where
  -- lists that are joined stand in the file, so each does
  pub first-of : (ps qs : List Sited) → StandsIn f (ps ++ qs) → StandsIn f ps
  first-of ps qs a = IsAmong-inner ps (ps ++ qs) (pieces_file f) (IsAmong-first ps qs) a

  pub last-of : (ps qs : List Sited) → StandsIn f (ps ++ qs) → StandsIn f qs
  last-of ps qs a = IsAmong-inner qs (ps ++ qs) (pieces_file f) (IsAmong-last ps qs) a

  pub behind : (q : Sited) (ps : List Sited) → StandsIn f (q ∷ ps) → StandsIn f ps
  behind q ps a = IsAmong-inner ps (q ∷ ps) (pieces_file f) (IsAmong-behind q ps ps (whole-among ps)) a

-- in a file, where the site and the piece that is looked for are given
module _ (f : File) (n : ℕ) (p : Piece) where
  -- what is found in one of two lists
  joined : (ps qs : List Sited) → StandsIn f (ps ++ qs) → (StandsIn f ps → piece_in ps n ≡ Some p → Own f p) → (StandsIn f qs → piece_in qs n ≡ Some p → Own f p)
      → piece_in (ps ++ qs) n ≡ Some p → Own f p
  joined ps qs a one other e = elim (append-found n p ps qs e) [
    | inl here ↦ one (first-of f ps qs a) here
    | inr there ↦ other (last-of f ps qs a) there
  ]

  -- what is found as the first, or behind it
  headed : (m : ℕ) (q : Piece) (ps : List Sited) → StandsIn f ((m, q) ∷ ps) → Own f q → (StandsIn f ps → piece_in ps n ≡ Some p → Own f p)
      → piece_in ((m, q) ∷ ps) n ≡ Some p → Own f p
  headed m q ps a own rest e = elim (cons-found n m q p ps e) [
    | inl same ↦ subst (Own f) same own
    | inr there ↦ rest (behind f (m, q) ps a) there
  ]

  mutual
    stands-body : (x : Body) → StandsIn f (pieces_body x) → piece_in (pieces_body x) n ≡ Some p → Own f p
    stands-body (body m ls ds) a e = headed m (OfBody (body m ls ds)) (pieces_lets ls ++ pieces_disjs ds) a a (λ a e. joined (pieces_lets ls) (pieces_disjs ds) a (stands-lets ls) (stands-disjs ds) e) e

    stands-lets : (x : Lets) → StandsIn f (pieces_lets x) → piece_in (pieces_lets x) n ≡ Some p → Own f p
    stands-lets no_lets a e = absurd (none-found n p e)
    stands-lets (more_lets l ls) a e = joined (pieces_let l) (pieces_lets ls) a (stands-let l) (stands-lets ls) e

    stands-let : (x : Let) → StandsIn f (pieces_let x) → piece_in (pieces_let x) n ≡ Some p → Own f p
    stands-let (assign m name x) a e = headed m (OfLet (assign m name x)) (pieces_expr x) a tt (stands-expr x) e

    stands-conds : (x : Conds) → StandsIn f (pieces_conds x) → piece_in (pieces_conds x) n ≡ Some p → Own f p
    stands-conds (conds m ds) a e = headed m (OfConds (conds m ds)) (pieces_disjs ds) a tt (stands-disjs ds) e

    stands-opt_conds : (x : OptConds) → StandsIn f (pieces_opt_conds x) → piece_in (pieces_opt_conds x) n ≡ Some p → Own f p
    stands-opt_conds no_conds a e = absurd (none-found n p e)
    stands-opt_conds (with_conds c) a e = stands-conds c a e

    stands-disjs : (x : Disjs) → StandsIn f (pieces_disjs x) → piece_in (pieces_disjs x) n ≡ Some p → Own f p
    stands-disjs no_disjs a e = absurd (none-found n p e)
    stands-disjs (more_disjs d ds) a e = joined (pieces_disj d) (pieces_disjs ds) a (stands-disj d) (stands-disjs ds) e

    stands-disj : (x : Disj) → StandsIn f (pieces_disj x) → piece_in (pieces_disj x) n ≡ Some p → Own f p
    stands-disj (disj m ps) a e = headed m (OfDisj (disj m ps)) (pieces_parts ps) a tt (stands-parts ps) e

    stands-parts : (x : Parts) → StandsIn f (pieces_parts x) → piece_in (pieces_parts x) n ≡ Some p → Own f p
    stands-parts no_parts a e = absurd (none-found n p e)
    stands-parts (more_parts x xs) a e = joined (pieces_part x) (pieces_parts xs) a (stands-part x) (stands-parts xs) e

    stands-part : (x : Part) → StandsIn f (pieces_part x) → piece_in (pieces_part x) n ≡ Some p → Own f p
    stands-part (block m any q b) a e = headed m (OfPart (block m any q b)) (pieces_query q ++ pieces_body b) a a (λ a e. joined (pieces_query q) (pieces_body b) a (stands-query q) (stands-body b) e) e
    stands-part (guarded m c b) a e = headed m (OfPart (guarded m c b)) (pieces_conds c ++ pieces_body b) a a (λ a e. joined (pieces_conds c) (pieces_body b) a (stands-conds c) (stands-body b) e) e
    stands-part (kinds m name c b) a e = headed m (OfPart (kinds m name c b)) (pieces_opt_conds c ++ pieces_body b) a a (λ a e. joined (pieces_opt_conds c) (pieces_body b) a (stands-opt_conds c) (stands-body b) e) e
    stands-part (test m any q op negated right message) a e = headed m (OfPart (test m any q op negated right message)) (pieces_query q ++ pieces_opt_expr right) a a (λ a e. joined (pieces_query q) (pieces_opt_expr right) a (stands-query q) (stands-opt_expr right) e) e
    stands-part (refer m negated name message) a e = headed m (OfPart (refer m negated name message)) ([]) a a (λ a e. absurd (none-found n p e)) e
    stands-part (call m negated name es message) a e = headed m (OfPart (call m negated name es message)) (pieces_exprs es) a a (stands-exprs es) e

    stands-query : (x : Query) → StandsIn f (pieces_query x) → piece_in (pieces_query x) n ≡ Some p → Own f p
    stands-query (query m ss) a e = headed m (OfQuery (query m ss)) (pieces_steps (query m ss) 0 ss) a tt (stands-steps (query m ss) 0 ss) e

    stands-steps : (q : Query) (i : ℕ) (x : Steps) → StandsIn f (pieces_steps q i x) → piece_in (pieces_steps q i x) n ≡ Some p → Own f p
    stands-steps q i no_steps a e = absurd (none-found n p e)
    stands-steps q i (more_steps x xs) a e = joined (pieces_step q i x) (pieces_steps q (suc i) xs) a (stands-step q i x) (stands-steps q (suc i) xs) e

    stands-step : (q : Query) (i : ℕ) (x : Step) → StandsIn f (pieces_step q i x) → piece_in (pieces_step q i x) n ≡ Some p → Own f p
    stands-step q i (this m) a e = headed m (OfStep q i) [] a tt (λ a e. absurd (none-found n p e)) e
    stands-step q i (var m name) a e = headed m (OfStep q i) [] a tt (λ a e. absurd (none-found n p e)) e
    stands-step q i (key m name) a e = headed m (OfStep q i) [] a tt (λ a e. absurd (none-found n p e)) e
    stands-step q i (index m at) a e = headed m (OfStep q i) [] a tt (λ a e. absurd (none-found n p e)) e
    stands-step q i (every m) a e = headed m (OfStep q i) [] a tt (λ a e. absurd (none-found n p e)) e
    stands-step q i (items m) a e = headed m (OfStep q i) [] a tt (λ a e. absurd (none-found n p e)) e
    stands-step q i (splice m name) a e = headed m (OfStep q i) [] a tt (λ a e. absurd (none-found n p e)) e
    stands-step q i (filter m capture c) a e = headed m (OfStep q i) (pieces_conds c) a tt (stands-conds c) e
    stands-step q i (keys m capture op negated x) a e = headed m (OfStep q i) (pieces_expr x) a tt (stands-expr x) e

    stands-expr : (x : Expr) → StandsIn f (pieces_expr x) → piece_in (pieces_expr x) n ≡ Some p → Own f p
    stands-expr (literal m tree) a e = headed m (OfExpr (literal m tree)) [] a tt (λ a e. absurd (none-found n p e)) e
    stands-expr (function m name es) a e = headed m (OfExpr (function m name es)) (pieces_exprs es) a tt (stands-exprs es) e
    stands-expr (asked q) a e = stands-query q a e
    stands-expr (found m q) a e = headed m (OfExpr (found m q)) (pieces_query q) a tt (stands-query q) e

    stands-opt_expr : (x : OptExpr) → StandsIn f (pieces_opt_expr x) → piece_in (pieces_opt_expr x) n ≡ Some p → Own f p
    stands-opt_expr no_expr a e = absurd (none-found n p e)
    stands-opt_expr (with_expr x) a e = stands-expr x a e

    stands-exprs : (x : Exprs) → StandsIn f (pieces_exprs x) → piece_in (pieces_exprs x) n ≡ Some p → Own f p
    stands-exprs no_exprs a e = absurd (none-found n p e)
    stands-exprs (more_exprs x xs) a e = joined (pieces_expr x) (pieces_exprs xs) a (stands-expr x) (stands-exprs xs) e

  stands-rule : (r : Rule) → Contains f.rules r → StandsIn f (pieces_rule r) → piece_in (pieces_rule r) n ≡ Some p → Own f p
  stands-rule r own a e =
      headed r.site (OfRule r) (pieces_opt_conds r.cond ++ pieces_body r.body) a own
      (λ a e. joined (pieces_opt_conds r.cond) (pieces_body r.body) a (stands-opt_conds r.cond) (stands-body r.body) e) e

  stands-rules : (rs : List Rule) → ((r : Rule) → Contains rs r → Contains f.rules r) → StandsIn f (pieces_rules rs) → piece_in (pieces_rules rs) n ≡ Some p → Own f p
  stands-rules [] own a e = absurd (none-found n p e)
  stands-rules (r ∷ rs) own a e =
      joined (pieces_rule r) (pieces_rules rs) a (stands-rule r (own r (0, omega arith, refl))) (stands-rules rs (λ s h. own s (suc h.0, omega arith, h.2))) e

-- what has a site stands in its file
pub piece-owned : (f : File) (n : ℕ) (p : Piece) → piece_at f n ≡ Some p → Own f p
piece-owned f n p e =
    headed f n p 0 OfFile (pieces_lets f.lets ++ (pieces_rules f.rules ++ pieces_disjs f.loose)) (whole-among (pieces_file f)) tt
    (λ a e. joined f n p (pieces_lets f.lets) (pieces_rules f.rules ++ pieces_disjs f.loose) a (stands-lets f n p f.lets)
    (λ a e. joined f n p (pieces_rules f.rules) (pieces_disjs f.loose) a (stands-rules f n p f.rules (λ r h. h)) (stands-disjs f n p f.loose) e) e) e

-- each rule stands in its file
rule-among : (rs : List Rule) (k : ℕ) (r : Rule) → k < length rs → get_or rs k r ≡ r → IsAmong (pieces_rule r) (pieces_rules rs)
rule-among [] k r within is = absurd (omega arith)
rule-among (s ∷ rs) zero r within is = subst (λ (x : Rule). IsAmong (pieces_rule x) (pieces_rule s ++ pieces_rules rs)) is (IsAmong-first (pieces_rule s) (pieces_rules rs))
rule-among (s ∷ rs) (suc k) r within is =
    IsAmong-inner (pieces_rule r) (pieces_rules rs) (pieces_rule s ++ pieces_rules rs) (rule-among rs k r (omega arith) is) (IsAmong-last (pieces_rule s) (pieces_rules rs))

pub rule-stands : (f : File) (r : Rule) → Contains f.rules r → StandsIn f (pieces_rule r)
rule-stands f r h =
    IsAmong-inner (pieces_rule r) (pieces_rules f.rules) (pieces_file f) (rule-among f.rules h.0 r h.1 h.2)
    (first-of f (pieces_rules f.rules) (pieces_disjs f.loose) (last-of f (pieces_lets f.lets) (pieces_rules f.rules ++ pieces_disjs f.loose)
    (behind f (0, OfFile) (pieces_lets f.lets ++ (pieces_rules f.rules ++ pieces_disjs f.loose)) (whole-among (pieces_file f)))))
