-- What the use of a name means is given so many scopes around the use as the meaning says: by induction over the syntax, where the scopes around each part are those that are told
-- of it. The tables of homes and of meanings say what the lists say that are written into them, as each site stands once.
use Rattle.std.proofs.Common.{◌≡◌, ℕ, zero, suc, ◌+◌, ◌≤◌, ◌<◌, Bool, true, false, cond, if◌then◌else◌, refl, sym, ap, ◌∙◌, subst, arith, inl, inr, true≢false, List, [], ◌∷◌, ◌++◌, length, replicate, nat_lt, get_or-set_same, get_or-set_other, Option, Some, None, option_and_then}
use Rattle.std.specs.Prelude.{◌==◌, Contains, bytes_eq, find, slice_get, slice_index_or, slice_set}
use Rattle.std.specs.List.{position_or_len}
use Rattle.std.proofs.lemmas.Bool.{cases_eq}
use Rattle.std.proofs.lemmas.Bool.Decides.{nat_tests}
use Rattle.std.proofs.lemmas.List.{length-set, length-replicate}
use Rattle.std.proofs.lemmas.List.Folds.{find_at}
use Rattle.std.proofs.lemmas.Option.{get_or_from_slice_get, none-some, same_Some, slice_get_within}
use Rattle.guard_syntax.specs.Named.{Named}
use Rattle.guard_syntax.specs.Sites.{upto, merge, sites_file, sites_lets, sites_rules, sites_disjs}
use Rattle.guard_syntax.specs.Syntax.{Body, Lets, Let, Conds, OptConds, Disjs, Disj, Parts, Part, Query, Steps, Step, Expr, OptExpr, Exprs, Rule, File, body, no_lets, more_lets, assign, conds, no_conds, with_conds, no_disjs, more_disjs, disj, no_parts, more_parts, block, guarded, kinds, test, refer, call, query, no_steps, more_steps, this, var, key, index, every, items, splice, filter, keys, literal, function, asked, found, no_expr, with_expr, no_exprs, more_exprs}
use Rattle.rule_names.specs.declared.bind.Bind.{Bind}
use Rattle.rule_names.specs.declared.bind.Link.{Link}
use Rattle.rule_names.specs.declared.bind.Link.TheVariants.{Variable, Rule as ToRule}
use Rattle.rule_names.specs.declared.binder.Binder.{Binder}
use Rattle.rule_names.specs.declared.binder.Binder.TheVariants as binder
use Rattle.rule_names.specs.EnclosingScopes.{Homed, home_of, homes_in, with_home, with_homes, homes_body, homes_lets, homes_let, homes_conds, homes_opt_conds, homes_disjs, homes_disj, homes_parts, homes_part, homes_query, homes_steps, homes_step, homes_expr, homes_opt_expr, homes_exprs, homes_rule, homes_rules}
use Rattle.rule_names.specs.Pieces.{AreInOrder, Piece, OfFile, OfLet, OfRule, OfBody, OfStep, Sited, piece_at, pieces_file, pieces_body, pieces_lets, pieces_let, pieces_conds, pieces_opt_conds, pieces_disjs, pieces_disj, pieces_parts, pieces_part, pieces_query, pieces_steps, pieces_step, pieces_expr, pieces_opt_expr, pieces_exprs, pieces_rule, pieces_rules}
use Rattle.rule_names.specs.Resolution.{Linked, Meant, Scopes, bind_of, bind_to, here_or, link_rule, link_variable, links_body, links_conds, links_disj, links_disjs, links_expr, links_exprs, links_in, links_let, links_lets, links_opt_conds, links_opt_expr, links_part, links_parts, links_query, links_rule, links_rules, links_step, links_steps, meant_in, one_out, resolution_of, rule_of, target_of, value_in, variable_of, with_link, with_links}
use Rattle.rule_names.specs.Scopes.{Given, before_given, by_place, given_body, given_conds, given_disj, given_disjs, given_expr, given_exprs, given_file, given_let, given_lets, given_named, given_opt_conds, given_opt_expr, given_params, given_part, given_parts, given_query, given_rules, given_step, given_steps}
use Rattle.rule_names.specs.Uses.{expr_site, rule_named}
use Rattle.rule_names.specs.code.Within.{IsAmong}
use Rattle.rule_meaning.specs.Places.{step_in, steps_in}
use Rattle.evidence_rules.specs.CitedLines.{body_site}
use Rattle.rule_names.proofs.Among.{IsAmong-inner, IsAmong-behind}
use Rattle.rule_names.proofs.Increases.{times, once, upto-rises}
use Rattle.rule_names.proofs.Parts.{Ties, hits, hits-append, ties-cons, ties-merge}
use Rattle.rule_names.proofs.PiecesFound.{piece-found}
use Rattle.rule_names.proofs.PiecesStand.{IsAmong-whole}
use Rattle.rule_names.proofs.Tied.{tied-lets, tied-rules, tied-disjs}
use Rattle.scope_frames.specs.code.Scoping.{Captures, HasAround, IsBound, IsCapture, IsGivenIn, IsValue, scope_around}

-- ---- what holds of each element

abbrev pub Each : {X : Type 0} → (X → Type 0) → List X → Type 0
Each P [] = Unit {0}
Each P (x ∷ xs) = P x × Each P xs

module _ {X : Type 0} (P : X → Type 0) where
  pub each-apart : (xs ys : List X) → Each P (xs ++ ys) → Each P xs × Each P ys
  each-apart [] ys h = (tt, h)
  each-apart (x ∷ xs) ys h = let both = each-apart xs ys h.1 in ((h.0, both.0), both.1)

  pub each-both : (xs ys : List X) → Each P xs → Each P ys → Each P (xs ++ ys)
  each-both [] ys h k = k
  each-both (x ∷ xs) ys h k = (h.0, each-both xs ys h.1 k)

-- ---- entries that are written into a table at their sites, but not past its end

-- how often a site stands among entries
abbrev pub visits : {V : Type 0} → ℕ → List (ℕ × V) → ℕ
visits n [] = 0
visits n (e ∷ es) = cond (e.0 == n) 1 0 + visits n es

pub visits-append : {V : Type 0} (n : ℕ) (es ds : List (ℕ × V)) → visits n (es ++ ds) ≡ visits n es + visits n ds
visits-append n [] ds = omega arith
visits-append n (e ∷ es) ds = let later = visits-append n es ds in omega arith

visits-own : {V : Type 0} (e : ℕ × V) (es : List (ℕ × V)) → visits e.0 (e ∷ es) ≡ 1 + visits e.0 es
visits-own e es = let same : (e.0 == e.0) ≡ true = grind (arith, nat_tests) in ap (λ (b : Bool). cond b 1 0 + visits e.0 es) same

not-first : (m n k : ℕ) → cond (m == n) 1 0 + k ≡ 0 → m ≡ n → ⊥
not-first m n k none same =
    let here : (m == n) ≡ true = grind (arith, nat_tests, same) in
    let one : cond (m == n) 1 0 + k ≡ 1 + k = ap (λ (b : Bool). cond b 1 0 + k) here in
    omega (arith, none, one)

-- a table with entries written into it
abbrev pub write_one : {V W : Type 0} → (V → W) → List W → ℕ × V → List W
write_one put table e = if nat_lt e.0 (length table) then slice_set table e.0 (put e.1) else table

abbrev pub write : {V W : Type 0} → (V → W) → List W → List (ℕ × V) → List W
write put table [] = table
write put table (e ∷ es) = write put (write_one put table e) es

module _ {V W : Type 0} (put : V → W) where
  length-one : (table : List W) (e : ℕ × V) → length (write_one put table e) ≡ length table
  length-one table e = by (nat_lt e.0 (length table))
    where
      by : (b : Bool) → length (if b then slice_set table e.0 (put e.1) else table) ≡ length table
      by true = length-set table e.0 (put e.1)
      by false = refl

  one-written : (table : List W) (e : ℕ × V) (d : W) → e.0 < length table → slice_index_or (write_one put table e) e.0 d ≡ put e.1
  one-written table e d within =
      let there : nat_lt e.0 (length table) ≡ true = grind (arith, nat_tests, within) in
      ap (λ (b : Bool). slice_index_or (if b then slice_set table e.0 (put e.1) else table) e.0 d) there ∙ get_or-set_same table e.0 (put e.1) d within

  one-kept : (table : List W) (e : ℕ × V) (n : ℕ) (d : W) → (e.0 ≡ n → ⊥) → slice_index_or (write_one put table e) n d ≡ slice_index_or table n d
  one-kept table e n d other = by (nat_lt e.0 (length table))
    where
      by : (b : Bool) → slice_index_or (if b then slice_set table e.0 (put e.1) else table) n d ≡ slice_index_or table n d
      by true = get_or-set_other table e.0 n (put e.1) d (λ same. other (sym same))
      by false = refl

  -- what stands where no entry is written stays
  kept : (table : List W) (es : List (ℕ × V)) (n : ℕ) (d : W) → visits n es ≡ 0 → slice_index_or (write put table es) n d ≡ slice_index_or table n d
  kept table [] n d none = refl
  kept table (e ∷ es) n d none =
      kept (write_one put table e) es n d (omega (arith, none)) ∙ one-kept table e n d (not-first e.0 n (visits n es) none)

  -- where each site stands once, and none past the end, each entry is there
  all-written : (table : List W) (es : List (ℕ × V)) (d : W) → ((n : ℕ) → visits n es ≤ 1) → ((n : ℕ) → 1 ≤ visits n es → n < length table)
      → Each (λ (e : ℕ × V). slice_index_or (write put table es) e.0 d ≡ put e.1) es
  all-written table [] d few within = tt
  all-written table (e ∷ es) d few within =
      let own : visits e.0 (e ∷ es) ≡ 1 + visits e.0 es = visits-own e es in
      let none : visits e.0 es ≡ 0 = omega (arith, few e.0, own) in
      let here : e.0 < length table = within e.0 (omega (arith, own)) in (
        kept (write_one put table e) es e.0 d none ∙ one-written table e d here,
        all-written (write_one put table e) es d (λ n. omega (arith, few n)) (λ n some. subst (λ (k : ℕ). n < k) (sym (length-one table e)) (within n (omega (arith, some)))),
      )

  -- what holds of each entry and of what stood there before holds of the table
  one-holds : (Q : ℕ → W → Type 0) (table : List W) (e : ℕ × V) (n : ℕ) (d : W) → Q e.0 (put e.1) → Q n (slice_index_or table n d) → Q n (slice_index_or (write_one put table e) n d)
  one-holds Q table e n d new old = by (nat_lt e.0 (length table)) refl
    where
      by : (b : Bool) → nat_lt e.0 (length table) ≡ b → Q n (slice_index_or (if b then slice_set table e.0 (put e.1) else table) n d)
      by true is =
          let within : e.0 < length table = grind (arith, nat_tests, is) in
          elim (cases_eq e.0 n) [
            | inl same ↦ subst (λ (k : ℕ). Q k (slice_index_or (slice_set table e.0 (put e.1)) k d)) same (subst (Q e.0) (sym (get_or-set_same table e.0 (put e.1) d within)) new)
            | inr other ↦ subst (Q n) (sym (get_or-set_other table e.0 n (put e.1) d (λ same. other (sym same)))) old
          ]
      by false is = old

  all-hold : (Q : ℕ → W → Type 0) (table : List W) (es : List (ℕ × V)) (d : W) → Each (λ (e : ℕ × V). Q e.0 (put e.1)) es → ((n : ℕ) → Q n (slice_index_or table n d))
      → (n : ℕ) → Q n (slice_index_or (write put table es) n d)
  all-hold Q table [] d each before n = before n
  all-hold Q table (e ∷ es) d each before n = all-hold Q (write_one put table e) es d each.1 (λ m. one-holds Q table e m d each.0 (before m)) n

same-homes : (table : List ℕ) (hs : List Homed) → with_homes table hs ≡ write (λ (home : ℕ). home) table hs
same-homes table [] = refl
same-homes table (h ∷ hs) = same-homes (with_home table h) hs

pub same-links : (table : List (Option Link)) (ls : List Linked) → with_links table ls ≡ write Some table ls
same-links table [] = refl
same-links table (l ∷ ls) = same-links (with_link table l) ls

-- ---- parts that have homes have the sites of the pieces

record SameSites (hs : List Homed) (ps : List Sited) : Type 0 where
  same : (n : ℕ) → visits n hs ≡ hits n ps

same-none : SameSites [] []
same-none = record { same = λ n. refl }

same-more : (n home : ℕ) (p : Piece) (hs : List Homed) (ps : List Sited) → SameSites hs ps → SameSites ((n, home) ∷ hs) ((n, p) ∷ ps)
same-more n home p hs ps h = record { same = λ m. ap (λ (k : ℕ). cond (n == m) 1 0 + k) (h.same m) }

same-both : (hs ks : List Homed) (ps qs : List Sited) → SameSites hs ps → SameSites ks qs → SameSites (hs ++ ks) (ps ++ qs)
same-both hs ks ps qs h k = record { same = λ n. omega (arith, h.same n, k.same n, visits-append n hs ks, hits-append n ps qs) }

mutual
  homed-body : (home : ℕ) (x : Body) → SameSites (homes_body home x) (pieces_body x)
  homed-body home (body n ls ds) = same-more n home _ _ _ (same-both _ _ _ _ (homed-lets n ls) (homed-disjs n ds))

  homed-lets : (home : ℕ) (x : Lets) → SameSites (homes_lets home x) (pieces_lets x)
  homed-lets home no_lets = same-none
  homed-lets home (more_lets l ls) = same-both _ _ _ _ (homed-let home l) (homed-lets home ls)

  homed-let : (home : ℕ) (x : Let) → SameSites (homes_let home x) (pieces_let x)
  homed-let home (assign n name e) = same-more n home _ _ _ (homed-expr home e)

  homed-conds : (home : ℕ) (x : Conds) → SameSites (homes_conds home x) (pieces_conds x)
  homed-conds home (conds n ds) = same-more n home _ _ _ (homed-disjs home ds)

  homed-opt_conds : (home : ℕ) (x : OptConds) → SameSites (homes_opt_conds home x) (pieces_opt_conds x)
  homed-opt_conds home no_conds = same-none
  homed-opt_conds home (with_conds c) = homed-conds home c

  homed-disjs : (home : ℕ) (x : Disjs) → SameSites (homes_disjs home x) (pieces_disjs x)
  homed-disjs home no_disjs = same-none
  homed-disjs home (more_disjs d ds) = same-both _ _ _ _ (homed-disj home d) (homed-disjs home ds)

  homed-disj : (home : ℕ) (x : Disj) → SameSites (homes_disj home x) (pieces_disj x)
  homed-disj home (disj n ps) = same-more n home _ _ _ (homed-parts home ps)

  homed-parts : (home : ℕ) (x : Parts) → SameSites (homes_parts home x) (pieces_parts x)
  homed-parts home no_parts = same-none
  homed-parts home (more_parts p ps) = same-both _ _ _ _ (homed-part home p) (homed-parts home ps)

  homed-part : (home : ℕ) (x : Part) → SameSites (homes_part home x) (pieces_part x)
  homed-part home (block n any q b) = same-more n home _ _ _ (same-both _ _ _ _ (homed-query home q) (homed-body home b))
  homed-part home (guarded n c b) = same-more n home _ _ _ (same-both _ _ _ _ (homed-conds home c) (homed-body home b))
  homed-part home (kinds n name c b) = same-more n home _ _ _ (same-both _ _ _ _ (homed-opt_conds home c) (homed-body home b))
  homed-part home (test n any q op negated right message) = same-more n home _ _ _ (same-both _ _ _ _ (homed-query home q) (homed-opt_expr home right))
  homed-part home (refer n negated name message) = same-more n home _ _ _ same-none
  homed-part home (call n negated name es message) = same-more n home _ _ _ (homed-exprs home es)

  homed-query : (home : ℕ) (x : Query) → SameSites (homes_query home x) (pieces_query x)
  homed-query home (query n ss) = same-more n home _ _ _ (homed-steps home (query n ss) 0 ss)

  homed-steps : (home : ℕ) (q : Query) (i : ℕ) (x : Steps) → SameSites (homes_steps home x) (pieces_steps q i x)
  homed-steps home q i no_steps = same-none
  homed-steps home q i (more_steps p ps) = same-both _ _ _ _ (homed-step home q i p) (homed-steps home q (suc i) ps)

  homed-step : (home : ℕ) (q : Query) (i : ℕ) (x : Step) → SameSites (homes_step home x) (pieces_step q i x)
  homed-step home q i (this n) = same-more n home _ _ _ same-none
  homed-step home q i (var n name) = same-more n home _ _ _ same-none
  homed-step home q i (key n name) = same-more n home _ _ _ same-none
  homed-step home q i (index n at) = same-more n home _ _ _ same-none
  homed-step home q i (every n) = same-more n home _ _ _ same-none
  homed-step home q i (items n) = same-more n home _ _ _ same-none
  homed-step home q i (splice n name) = same-more n home _ _ _ same-none
  homed-step home q i (filter n capture c) = same-more n home _ _ _ (homed-conds n c)
  homed-step home q i (keys n capture op negated e) = same-more n home _ _ _ (homed-expr home e)

  homed-expr : (home : ℕ) (x : Expr) → SameSites (homes_expr home x) (pieces_expr x)
  homed-expr home (literal n tree) = same-more n home _ _ _ same-none
  homed-expr home (function n name es) = same-more n home _ _ _ (homed-exprs home es)
  homed-expr home (asked q) = homed-query home q
  homed-expr home (found n q) = same-more n home _ _ _ (homed-query home q)

  homed-opt_expr : (home : ℕ) (x : OptExpr) → SameSites (homes_opt_expr home x) (pieces_opt_expr x)
  homed-opt_expr home no_expr = same-none
  homed-opt_expr home (with_expr e) = homed-expr home e

  homed-exprs : (home : ℕ) (x : Exprs) → SameSites (homes_exprs home x) (pieces_exprs x)
  homed-exprs home no_exprs = same-none
  homed-exprs home (more_exprs e es) = same-both _ _ _ _ (homed-expr home e) (homed-exprs home es)

homed-rules : (home : ℕ) (rs : List Rule) → SameSites (homes_rules home rs) (pieces_rules rs)
homed-rules home [] = same-none
homed-rules home (r ∷ rs) =
    same-both (homes_rule home r) (homes_rules home rs) (pieces_rule r) (pieces_rules rs)
    (same-more r.site home (OfRule r) _ _ (same-both _ _ _ _ (homed-opt_conds home r.cond) (homed-body home r.body))) (homed-rules home rs)

-- ---- where each site stands once

-- the pieces in a file
abbrev pub inside : File → List Sited
inside f = pieces_lets f.lets ++ (pieces_rules f.rules ++ pieces_disjs f.loose)

homed-inside : (f : File) → SameSites (homes_in f) (inside f)
homed-inside f = same-both _ _ _ _ (homed-lets 0 f.lets) (same-both _ _ _ _ (homed-rules 0 f.rules) (homed-disjs 0 f.loose))

file-tied : (f : File) → Ties (pieces_file f) (sites_file f)
file-tied f =
    ties-cons 0 OfFile (inside f) (merge (sites_lets f.lets) (merge (sites_rules f.rules) (sites_disjs f.loose)))
    (ties-merge (pieces_lets f.lets) (pieces_rules f.rules ++ pieces_disjs f.loose) (sites_lets f.lets) (merge (sites_rules f.rules) (sites_disjs f.loose)) (tied-lets f.lets)
    (ties-merge (pieces_rules f.rules) (pieces_disjs f.loose) (sites_rules f.rules) (sites_disjs f.loose) (tied-rules f.rules) (tied-disjs f.loose)))

-- a number that stands among so many from this one on is below their end
pub upto-below : (n low k : ℕ) → 1 ≤ times n (upto low k) → n < low + k
upto-below n low zero some = absurd (omega (arith, some))
upto-below n low (suc k) some = by (low == n) refl some (upto-below n (suc low) k)
  where
    by : (b : Bool) → (low == n) ≡ b → 1 ≤ cond b 1 0 + times n (upto (suc low) k) → (1 ≤ times n (upto (suc low) k) → n < suc low + k) → n < low + suc k
    by true is more later = let same : low ≡ n = grind (arith, nat_tests, is) in omega (arith, same)
    by false is more later = let below : n < suc low + k = later (omega (arith, more)) in omega (arith, below)

-- entries of a file whose sites are in order, of which each is that of a piece
module _ (f : File) (order : AreInOrder f) {V : Type 0} (es : List (ℕ × V)) (some : (n : ℕ) → visits n es ≤ hits n (inside f)) where
  visits-upto : (n : ℕ) → visits n es ≤ times n (upto 0 (length f.places))
  visits-upto n =
      let counted : hits n (pieces_file f) ≡ times n (upto 0 (length f.places)) = (file-tied f).same n ∙ ap (times n) order in
      let more : hits n (inside f) ≤ hits n (pieces_file f) = omega arith in
      omega (arith, counted, more, some n)

  visits-once : (n : ℕ) → visits n es ≤ 1
  visits-once n = omega (arith, visits-upto n, once n 0 (upto 0 (length f.places)) (upto-rises 0 (length f.places)))

  visits-within : (n : ℕ) → 1 ≤ visits n es → n < length f.places
  visits-within n there = let below : n < 0 + length f.places = upto-below n 0 (length f.places) (omega (arith, there, visits-upto n)) in omega (arith, below)

  -- a table with a place for each site says them all
  pub all-there : {W : Type 0} (put : V → W) (d : W) → Each (λ (e : ℕ × V). slice_index_or (write put (replicate (length f.places) d) es) e.0 d ≡ put e.1) es
  all-there put d =
      all-written put (replicate (length f.places) d) es d visits-once (λ n there. subst (λ (k : ℕ). n < k) (sym (length-replicate (length f.places) d)) (visits-within n there))

-- ---- parts by their sites

abbrev is_file : Option Piece → Bool
is_file (Some OfFile) = true
is_file _ = false

none-at : (k n : ℕ) → ◌≡◌ {A = Option Link} (slice_index_or (replicate k None) n None) None
none-at zero n = refl
none-at (suc k) zero = refl
none-at (suc k) (suc n) = none-at k n

-- a rule that a name means is one of those that were looked at
pub named-there : (rules : List Rule) (name : List ℕ) (r : Rule) → rule_named rules name ≡ Some r → Contains rules r
named-there rules name r is =
    let k : ℕ = position_or_len (λ (x : Rule). bytes_eq name x.name.text) rules in
    let there : slice_get rules k ≡ Some r = sym (find_at (λ (x : Rule). bytes_eq name x.name.text) rules) ∙ is in
    (k, slice_get_within rules k r there, get_or_from_slice_get rules k r r there)

module _ (f : File) where
  abbrev pub IsHomed : Homed → Type 0
  IsHomed h = home_of f h.0 ≡ h.1

  abbrev pub IsAt : Sited → Type 0
  IsAt p = piece_at f p.0 ≡ Some p.1

  -- parts with these homes, and their pieces: the tables say both at the sites
  pub record Placed (hs : List Homed) (ps : List Sited) : Type 0 where
    pub homes : Each IsHomed hs
    pub pieces : Each IsAt ps

  pub front : (hs ks : List Homed) (ps qs : List Sited) → Placed (hs ++ ks) (ps ++ qs) → Placed hs ps
  front hs ks ps qs s = record { homes = (each-apart IsHomed hs ks s.homes).0; pieces = (each-apart IsAt ps qs s.pieces).0 }

  pub back : (hs ks : List Homed) (ps qs : List Sited) → Placed (hs ++ ks) (ps ++ qs) → Placed ks qs
  back hs ks ps qs s = record { homes = (each-apart IsHomed hs ks s.homes).1; pieces = (each-apart IsAt ps qs s.pieces).1 }

  pub behind : (h : Homed) (p : Sited) (hs : List Homed) (ps : List Sited) → Placed (h ∷ hs) (p ∷ ps) → Placed hs ps
  behind h p hs ps s = record { homes = s.homes.1; pieces = s.pieces.1 }

  -- of the rules of a file
  pub front-rule : (r : Rule) (rs : List Rule) → Placed (homes_rules 0 (r ∷ rs)) (pieces_rules (r ∷ rs)) → Placed (homes_rule 0 r) (pieces_rule r)
  front-rule r rs s = front (homes_rule 0 r) (homes_rules 0 rs) (pieces_rule r) (pieces_rules rs) s

  pub back-rules : (r : Rule) (rs : List Rule) → Placed (homes_rules 0 (r ∷ rs)) (pieces_rules (r ∷ rs)) → Placed (homes_rules 0 rs) (pieces_rules rs)
  back-rules r rs s = back (homes_rule 0 r) (homes_rules 0 rs) (pieces_rule r) (pieces_rules rs) s

  rule-inside : (r : Rule) → Placed (homes_rule 0 r) (pieces_rule r) → Placed (homes_opt_conds 0 r.cond ++ homes_body 0 r.body) (pieces_opt_conds r.cond ++ pieces_body r.body)
  rule-inside r s = behind (r.site, 0) (r.site, OfRule r) (homes_opt_conds 0 r.cond ++ homes_body 0 r.body) (pieces_opt_conds r.cond ++ pieces_body r.body) s

  pub rule-conds : (r : Rule) → Placed (homes_rule 0 r) (pieces_rule r) → Placed (homes_opt_conds 0 r.cond) (pieces_opt_conds r.cond)
  rule-conds r s = front (homes_opt_conds 0 r.cond) (homes_body 0 r.body) (pieces_opt_conds r.cond) (pieces_body r.body) (rule-inside r s)

  pub rule-body : (r : Rule) → Placed (homes_rule 0 r) (pieces_rule r) → Placed (homes_body 0 r.body) (pieces_body r.body)
  rule-body r s = back (homes_opt_conds 0 r.cond) (homes_body 0 r.body) (pieces_opt_conds r.cond) (pieces_body r.body) (rule-inside r s)

  -- ---- what is given in a scope

  -- what gives a name stands in a scope, however many scopes further in the name is used
  abbrev IsFrom : (scope : ℕ) → Binder → Type 0
  IsFrom scope b = IsGivenIn f scope (bind_to f 0 b)

  record Gives (scope : ℕ) (gs : List Given) : Type 0 where
    each : Each (λ (g : Given). IsFrom scope g.by) gs

  gives-none : (scope : ℕ) → Gives scope []
  gives-none scope = record { each = tt }

  gives-more : (scope : ℕ) (g : Given) (gs : List Given) → IsFrom scope g.by → Gives scope gs → Gives scope (g ∷ gs)
  gives-more scope g gs from h = record { each = (from, h.each) }

  gives-rest : (scope : ℕ) (g : Given) (gs : List Given) → Gives scope (g ∷ gs) → Gives scope gs
  gives-rest scope g gs h = record { each = h.each.1 }

  gives-both : (scope : ℕ) (gs hs : List Given) → Gives scope gs → Gives scope hs → Gives scope (gs ++ hs)
  gives-both scope gs hs h k = record { each = each-both (λ (g : Given). IsFrom scope g.by) gs hs h.each k.each }

  gives-if : (scope : ℕ) (b : Bool) (gs hs : List Given) → Gives scope gs → Gives scope hs → Gives scope (if b then gs else hs)
  gives-if scope true gs hs h k = h
  gives-if scope false gs hs h k = k

  gives-before : (scope : ℕ) (g : Given) (others : List Given → List Given) (hs : List Given) → IsFrom scope g.by → ((ks : List Given) → Gives scope ks → Gives scope (others ks))
      → Gives scope hs → Gives scope (before_given g others hs)
  gives-before scope g others [] from more h = gives-more scope g (others []) from (more [] h)
  gives-before scope g others (k ∷ ks) from more h =
      gives-if scope (nat_lt k.name.at g.name.at) (k ∷ before_given g others ks) (g ∷ others (k ∷ ks))
      (gives-more scope k (before_given g others ks) h.each.0 (gives-before scope g others ks from more (gives-rest scope k ks h)))
      (gives-more scope g (others (k ∷ ks)) from (more (k ∷ ks) h))

  -- also in order of place
  gives-placed : (scope : ℕ) (gs hs : List Given) → Gives scope gs → Gives scope hs → Gives scope (by_place gs hs)
  gives-placed scope [] hs h k = k
  gives-placed scope (g ∷ gs) hs h k = gives-before scope g (by_place gs) hs h.each.0 (λ ks given. gives-placed scope gs ks (gives-rest scope g gs h) given) k

  -- the expression of a let
  pub value-placed : (home : ℕ) (e : Expr) → Placed (homes_expr home e) (pieces_expr e) → (home_of f (expr_site e) ≡ home) × IsValue (piece_at f (expr_site e))
  value-placed home (literal n tree) s = (s.homes.0, subst IsValue (sym s.pieces.0) tt)
  value-placed home (function n name es) s = (s.homes.0, subst IsValue (sym s.pieces.0) tt)
  value-placed home (asked (query n ss)) s = (s.homes.0, subst IsValue (sym s.pieces.0) tt)
  value-placed home (found n q) s = (s.homes.0, subst IsValue (sym s.pieces.0) tt)

  from-let : (home n : ℕ) (name : Named) (e : Expr) → piece_at f n ≡ Some (OfLet (assign n name e)) → Placed (homes_expr home e) (pieces_expr e) → IsFrom home (binder.Let n)
  from-let home n name e there s = subst (λ (o : Option Piece). (home_of f (value_in o) ≡ home) × IsValue (piece_at f (value_in o))) (sym there) (value-placed home e s)

  -- a step with a capture
  from-capture : (home n : ℕ) (q : Query) (i : ℕ) (p : Step) → home_of f n ≡ home → piece_at f n ≡ Some (OfStep q i) → step_in (steps_in q) i ≡ Some p → Captures (Some p)
      → IsFrom home (binder.Capture n)
  from-capture home n q i p at there is has = (at, subst IsCapture (sym there) (subst Captures (sym is) has))

  first-step : (ss : Steps) (i : ℕ) (p : Step) (ps : Steps) → ((k : ℕ) → step_in ss (i + k) ≡ step_in (more_steps p ps) k) → step_in ss i ≡ Some p
  first-step ss i p ps are = let here : i ≡ i + 0 = omega arith in ap (step_in ss) here ∙ are 0

  next-steps : (ss : Steps) (i : ℕ) (p : Step) (ps : Steps) → ((k : ℕ) → step_in ss (i + k) ≡ step_in (more_steps p ps) k) → (k : ℕ) → step_in ss (suc i + k) ≡ step_in ps k
  next-steps ss i p ps are k = let next : suc i + k ≡ i + suc k = omega arith in ap (step_in ss) next ∙ are (suc k)

  all-steps : (ss : Steps) (k : ℕ) → step_in ss (0 + k) ≡ step_in ss k
  all-steps ss k = let same : 0 + k ≡ k = omega arith in ap (step_in ss) same

  mutual
    give-lets : (home : ℕ) (x : Lets) → Placed (homes_lets home x) (pieces_lets x) → Gives home (given_lets x)
    give-lets home no_lets s = gives-none home
    give-lets home (more_lets l ls) s = gives-both home _ _ (give-let home l (front _ _ _ _ s)) (give-lets home ls (back _ _ _ _ s))

    give-let : (home : ℕ) (x : Let) → Placed (homes_let home x) (pieces_let x) → Gives home (given_let x)
    give-let home (assign n name e) s =
        let value = behind _ _ (homes_expr home e) (pieces_expr e) s in
        gives-more home (record { name = name; by = binder.Let n }) (given_expr e) (from-let home n name e s.pieces.0 value) (give-expr home e value)

    give-conds : (home : ℕ) (x : Conds) → Placed (homes_conds home x) (pieces_conds x) → Gives home (given_conds x)
    give-conds home (conds n ds) s = give-disjs home ds (behind _ _ _ _ s)

    give-opt_conds : (home : ℕ) (x : OptConds) → Placed (homes_opt_conds home x) (pieces_opt_conds x) → Gives home (given_opt_conds x)
    give-opt_conds home no_conds s = gives-none home
    give-opt_conds home (with_conds c) s = give-conds home c s

    give-disjs : (home : ℕ) (x : Disjs) → Placed (homes_disjs home x) (pieces_disjs x) → Gives home (given_disjs x)
    give-disjs home no_disjs s = gives-none home
    give-disjs home (more_disjs d ds) s = gives-both home _ _ (give-disj home d (front _ _ _ _ s)) (give-disjs home ds (back _ _ _ _ s))

    give-disj : (home : ℕ) (x : Disj) → Placed (homes_disj home x) (pieces_disj x) → Gives home (given_disj x)
    give-disj home (disj n ps) s = give-parts home ps (behind _ _ _ _ s)

    give-parts : (home : ℕ) (x : Parts) → Placed (homes_parts home x) (pieces_parts x) → Gives home (given_parts x)
    give-parts home no_parts s = gives-none home
    give-parts home (more_parts p ps) s = gives-both home _ _ (give-part home p (front _ _ _ _ s)) (give-parts home ps (back _ _ _ _ s))

    -- what is in a body is given there
    give-part : (home : ℕ) (x : Part) → Placed (homes_part home x) (pieces_part x) → Gives home (given_part x)
    give-part home (block n any q b) s = give-query home q (front _ _ _ _ (behind _ _ _ _ s))
    give-part home (guarded n c b) s = give-conds home c (front _ _ _ _ (behind _ _ _ _ s))
    give-part home (kinds n name c b) s = give-opt_conds home c (front _ _ _ _ (behind _ _ _ _ s))
    give-part home (test n any q op negated right message) s =
        let parts = behind _ _ _ _ s in
        gives-both home _ _ (give-query home q (front _ _ _ _ parts)) (give-opt_expr home right (back _ _ _ _ parts))
    give-part home (refer n negated name message) s = gives-none home
    give-part home (call n negated name es message) s = give-exprs home es (behind _ _ _ _ s)

    give-query : (home : ℕ) (x : Query) → Placed (homes_query home x) (pieces_query x) → Gives home (given_query x)
    give-query home (query n ss) s = give-steps home (query n ss) 0 ss (all-steps ss) (behind _ _ _ _ s)

    give-steps : (home : ℕ) (q : Query) (i : ℕ) (x : Steps) → ((k : ℕ) → step_in (steps_in q) (i + k) ≡ step_in x k) → Placed (homes_steps home x) (pieces_steps q i x)
        → Gives home (given_steps x)
    give-steps home q i no_steps are s = gives-none home
    give-steps home q i (more_steps p ps) are s =
        gives-both home _ _ (give-step home q i p (first-step (steps_in q) i p ps are) (front _ _ _ _ s))
        (give-steps home q (suc i) ps (next-steps (steps_in q) i p ps are) (back _ _ _ _ s))

    give-step : (home : ℕ) (q : Query) (i : ℕ) (x : Step) → step_in (steps_in q) i ≡ Some x → Placed (homes_step home x) (pieces_step q i x) → Gives home (given_step x)
    give-step home q i (this n) is s = gives-none home
    give-step home q i (var n name) is s = gives-none home
    give-step home q i (key n name) is s = gives-none home
    give-step home q i (index n at) is s = gives-none home
    give-step home q i (every n) is s = gives-none home
    give-step home q i (items n) is s = gives-none home
    give-step home q i (splice n name) is s = gives-none home
    give-step home q i (filter n None c) is s = gives-none home
    give-step home q i (filter n (Some name) c) is s =
        gives-more home (record { name = name; by = binder.Capture n }) [] (from-capture home n q i (filter n (Some name) c) s.homes.0 s.pieces.0 is tt) (gives-none home)
    give-step home q i (keys n None op negated e) is s = give-expr home e (behind _ _ _ _ s)
    give-step home q i (keys n (Some name) op negated e) is s =
        gives-more home (record { name = name; by = binder.Capture n }) (given_expr e) (from-capture home n q i (keys n (Some name) op negated e) s.homes.0 s.pieces.0 is tt) (give-expr home e (behind _ _ _ _ s))

    give-expr : (home : ℕ) (x : Expr) → Placed (homes_expr home x) (pieces_expr x) → Gives home (given_expr x)
    give-expr home (literal n tree) s = gives-none home
    give-expr home (function n name es) s = give-exprs home es (behind _ _ _ _ s)
    give-expr home (asked q) s = give-query home q s
    give-expr home (found n q) s = give-query home q (behind _ _ _ _ s)

    give-opt_expr : (home : ℕ) (x : OptExpr) → Placed (homes_opt_expr home x) (pieces_opt_expr x) → Gives home (given_opt_expr x)
    give-opt_expr home no_expr s = gives-none home
    give-opt_expr home (with_expr e) s = give-expr home e s

    give-exprs : (home : ℕ) (x : Exprs) → Placed (homes_exprs home x) (pieces_exprs x) → Gives home (given_exprs x)
    give-exprs home no_exprs s = gives-none home
    give-exprs home (more_exprs e es) s = gives-both home _ _ (give-expr home e (front _ _ _ _ s)) (give-exprs home es (back _ _ _ _ s))

  -- the conditions of rules
  give-rules : (rs : List Rule) → Placed (homes_rules 0 rs) (pieces_rules rs) → Gives 0 (given_rules rs)
  give-rules [] s = gives-none 0
  give-rules (r ∷ rs) s = gives-both 0 _ _ (give-opt_conds 0 r.cond (rule-conds r (front-rule r rs s))) (give-rules rs (back-rules r rs s))

  -- the parameters of a rule, from the one of an index on
  give-params : (r : Rule) → Contains f.rules r → (i : ℕ) (xs : List Named) → i + length xs ≡ length r.params → Gives (body_site r.body) (given_params i xs)
  give-params r has i [] long = gives-none (body_site r.body)
  give-params r has i (x ∷ xs) long =
      gives-more (body_site r.body) (record { name = x; by = binder.Param i }) (given_params (suc i) xs) (r, has, refl, omega (arith, long)) (give-params r has (suc i) xs (omega (arith, long)))

  -- ---- what a name means in the scopes around a part

  -- what gives a name that is visible stands in the scope
  given-found : (scope : ℕ) (gs : List Given) (name : List ℕ) (g : Given) → Gives scope gs → given_named gs name ≡ Some g → IsFrom scope g.by
  given-found scope [] name g h e = absurd (none-some g e)
  given-found scope (x ∷ gs) name g h e = by (bytes_eq name x.name.text) (given-found scope gs name g (gives-rest scope x gs h)) e
    where
      by : (b : Bool) → (given_named gs name ≡ Some g → IsFrom scope g.by) → cond b (Some x) (find (λ (y : Given). bytes_eq name y.name.text) gs) ≡ Some g → IsFrom scope g.by
      by true later e = subst (λ (y : Given). IsFrom scope y.by) (same_Some x g e) h.each.0
      by false later e = later e

  -- what a name means, from a scope on: that so many scopes are around it, and what gives the name stands in the last of them
  abbrev IsMeant : (scope : ℕ) → Meant → Type 0
  IsMeant scope m = HasAround f m.up scope × IsFrom (scope_around f m.up scope) m.by

  abbrev Means : (scope : ℕ) → Scopes → Type 0
  Means scope scopes = (name : List ℕ) (m : Meant) → meant_in scopes name ≡ Some m → IsMeant scope m

  -- one scope, and what is around it
  means-more : (scope : ℕ) (gs : List Given) (scopes : Scopes) → Gives scope gs → ((name : List ℕ) (m : Meant) → meant_in scopes name ≡ Some m → IsMeant scope (one_out m)) → Means scope (gs ∷ scopes)
  means-more scope gs scopes h outer name m e = by (given_named gs name) (meant_in scopes name) (λ g. given-found scope gs name g h) (outer name) e
    where
      by : (o : Option Given) (p : Option Meant) → ((g : Given) → o ≡ Some g → IsFrom scope g.by) → ((further : Meant) → p ≡ Some further → IsMeant scope (one_out further)) → here_or o p ≡ Some m
          → IsMeant scope m
      by (Some g) p here there is =
          let first : Meant = record { up = 0; by = g.by } in
          subst (IsMeant scope) (same_Some first m is) (tt, here g refl)
      by None (Some further) here there is = subst (IsMeant scope) (same_Some (one_out further) m is) (there further refl)
      by None None here there is = absurd (none-some m is)

  means-within : (scope home : ℕ) (gs : List Given) (scopes : Scopes) → home_of f scope ≡ home → (scope ≡ 0 → ⊥) → Gives scope gs → Means home scopes → Means scope (gs ∷ scopes)
  means-within scope home gs scopes at apart h means = means-more scope gs scopes h (further (subst (λ (around : ℕ). Means around scopes) (sym at) means))
    where
      further : Means (home_of f scope) scopes → (name : List ℕ) (m : Meant) → meant_in scopes name ≡ Some m → IsMeant scope (one_out m)
      further outer name m is = let both = outer name m is in ((apart, both.0), both.1)

  -- the site of what is not the file is not 0
  apart-file : (n : ℕ) (p : Piece) → piece_at f n ≡ Some p → is_file (Some p) ≡ false → n ≡ 0 → ⊥
  apart-file n p there other at_zero =
      let one : is_file (piece_at f n) ≡ true = ap (λ (k : ℕ). is_file (piece_at f k)) at_zero in
      let two : is_file (piece_at f n) ≡ false = ap is_file there ∙ other in
      true≢false (sym one ∙ two)

  -- ---- the uses of names

  -- the use of a variable is bound, and that of a rule means one of the file
  abbrev IsRight : ℕ → Link → Type 0
  IsRight n (Variable b) = IsBound f n b
  IsRight n (ToRule site) = (r : Rule) × Contains f.rules r × (r.site ≡ site)

  abbrev IsRightIf : ℕ → Option Link → Type 0
  IsRightIf n None = Unit {0}
  IsRightIf n (Some l) = IsRight n l

  record AreBound (ls : List Linked) : Type 0 where
    each : Each (λ (l : Linked). IsRight l.0 l.1) ls

  bound-none : AreBound []
  bound-none = record { each = tt }

  bound-both : (ls ks : List Linked) → AreBound ls → AreBound ks → AreBound (ls ++ ks)
  bound-both ls ks h k = record { each = each-both (λ (l : Linked). IsRight l.0 l.1) ls ks h.each k.each }

  bound-by : (n up : ℕ) (b : Binder) → HasAround f up (home_of f n) → IsFrom (scope_around f up (home_of f n)) b → IsBound f n (bind_to f up b)
  bound-by n up (binder.Let site) around from = record { around = around; given = from }
  bound-by n up (binder.Capture step) around from = record { around = around; given = from }
  bound-by n up (binder.Param i) around from = record { around = around; given = from }

  bound-variable : (home n : ℕ) (scopes : Scopes) (name : List ℕ) → home_of f n ≡ home → Means home scopes → AreBound (link_variable f n (meant_in scopes name))
  bound-variable home n scopes name at means =
      let there : Means (home_of f n) scopes = subst (λ (around : ℕ). Means around scopes) (sym at) means in
      by (meant_in scopes name) (there name)
    where
      by : (o : Option Meant) → ((m : Meant) → o ≡ Some m → IsMeant (home_of f n) m) → AreBound (link_variable f n o)
      by None says = bound-none
      by (Some m) says = let both = says m refl in record { each = (bound-by n m.up m.by both.0 both.1, tt) }

  bound-to_rule : (n : ℕ) (name : List ℕ) → AreBound (link_rule f n (rule_named f.rules name))
  bound-to_rule n name = by (rule_named f.rules name) (named-there f.rules name)
    where
      by : (o : Option Rule) → ((r : Rule) → o ≡ Some r → Contains f.rules r) → AreBound (link_rule f n o)
      by None has = bound-none
      by (Some r) has = record { each = ((r, has r refl, refl), tt) }

  mutual
    bound-body : (home : ℕ) (scopes : Scopes) (params : List Named) (x : Body) → Placed (homes_body home x) (pieces_body x) → Gives (body_site x) (given_params 0 params) → Means home scopes
        → AreBound (links_body f scopes params x)
    bound-body home scopes params (body n ls ds) s own means =
        let parts = behind _ _ (homes_lets n ls ++ homes_disjs n ds) (pieces_lets ls ++ pieces_disjs ds) s in
        let lets = front (homes_lets n ls) (homes_disjs n ds) (pieces_lets ls) (pieces_disjs ds) parts in
        let disjs = back (homes_lets n ls) (homes_disjs n ds) (pieces_lets ls) (pieces_disjs ds) parts in
        let gives : Gives n (given_body params (body n ls ds)) =
        gives-both n (given_params 0 params) (by_place (given_lets ls) (given_disjs ds)) own (gives-placed n (given_lets ls) (given_disjs ds) (give-lets n ls lets) (give-disjs n ds disjs)) in
        let inner : Means n (given_body params (body n ls ds) ∷ scopes) =
        means-within n home (given_body params (body n ls ds)) scopes s.homes.0 (apart-file n (OfBody (body n ls ds)) s.pieces.0 refl) gives means in
        bound-both _ _ (bound-lets n (given_body params (body n ls ds) ∷ scopes) ls lets inner) (bound-disjs n (given_body params (body n ls ds) ∷ scopes) ds disjs inner)

    bound-lets : (home : ℕ) (scopes : Scopes) (x : Lets) → Placed (homes_lets home x) (pieces_lets x) → Means home scopes → AreBound (links_lets f scopes x)
    bound-lets home scopes no_lets s means = bound-none
    bound-lets home scopes (more_lets l ls) s means = bound-both _ _ (bound-let home scopes l (front _ _ _ _ s) means) (bound-lets home scopes ls (back _ _ _ _ s) means)

    bound-let : (home : ℕ) (scopes : Scopes) (x : Let) → Placed (homes_let home x) (pieces_let x) → Means home scopes → AreBound (links_let f scopes x)
    bound-let home scopes (assign n name e) s means = bound-expr home scopes e (behind _ _ _ _ s) means

    bound-conds : (home : ℕ) (scopes : Scopes) (x : Conds) → Placed (homes_conds home x) (pieces_conds x) → Means home scopes → AreBound (links_conds f scopes x)
    bound-conds home scopes (conds n ds) s means = bound-disjs home scopes ds (behind _ _ _ _ s) means

    bound-opt_conds : (home : ℕ) (scopes : Scopes) (x : OptConds) → Placed (homes_opt_conds home x) (pieces_opt_conds x) → Means home scopes → AreBound (links_opt_conds f scopes x)
    bound-opt_conds home scopes no_conds s means = bound-none
    bound-opt_conds home scopes (with_conds c) s means = bound-conds home scopes c s means

    bound-disjs : (home : ℕ) (scopes : Scopes) (x : Disjs) → Placed (homes_disjs home x) (pieces_disjs x) → Means home scopes → AreBound (links_disjs f scopes x)
    bound-disjs home scopes no_disjs s means = bound-none
    bound-disjs home scopes (more_disjs d ds) s means = bound-both _ _ (bound-disj home scopes d (front _ _ _ _ s) means) (bound-disjs home scopes ds (back _ _ _ _ s) means)

    bound-disj : (home : ℕ) (scopes : Scopes) (x : Disj) → Placed (homes_disj home x) (pieces_disj x) → Means home scopes → AreBound (links_disj f scopes x)
    bound-disj home scopes (disj n ps) s means = bound-parts home scopes ps (behind _ _ _ _ s) means

    bound-parts : (home : ℕ) (scopes : Scopes) (x : Parts) → Placed (homes_parts home x) (pieces_parts x) → Means home scopes → AreBound (links_parts f scopes x)
    bound-parts home scopes no_parts s means = bound-none
    bound-parts home scopes (more_parts p ps) s means = bound-both _ _ (bound-part home scopes p (front _ _ _ _ s) means) (bound-parts home scopes ps (back _ _ _ _ s) means)

    bound-part : (home : ℕ) (scopes : Scopes) (x : Part) → Placed (homes_part home x) (pieces_part x) → Means home scopes → AreBound (links_part f scopes x)
    bound-part home scopes (block n any q b) s means =
        let parts = behind _ _ _ _ s in
        bound-both _ _ (bound-query home scopes q (front _ _ _ _ parts) means) (bound-body home scopes [] b (back _ _ _ _ parts) (gives-none (body_site b)) means)
    bound-part home scopes (guarded n c b) s means =
        let parts = behind _ _ _ _ s in
        bound-both _ _ (bound-conds home scopes c (front _ _ _ _ parts) means) (bound-body home scopes [] b (back _ _ _ _ parts) (gives-none (body_site b)) means)
    bound-part home scopes (kinds n name c b) s means =
        let parts = behind _ _ _ _ s in
        bound-both _ _ (bound-opt_conds home scopes c (front _ _ _ _ parts) means) (bound-body home scopes [] b (back _ _ _ _ parts) (gives-none (body_site b)) means)
    bound-part home scopes (test n any q op negated right message) s means =
        let parts = behind _ _ _ _ s in
        bound-both _ _ (bound-query home scopes q (front _ _ _ _ parts) means) (bound-opt_expr home scopes right (back _ _ _ _ parts) means)
    bound-part home scopes (refer n negated name message) s means = bound-to_rule n name
    bound-part home scopes (call n negated name es message) s means =
        bound-both _ _ (bound-to_rule n name) (bound-exprs home scopes es (behind _ _ _ _ s) means)

    bound-query : (home : ℕ) (scopes : Scopes) (x : Query) → Placed (homes_query home x) (pieces_query x) → Means home scopes → AreBound (links_query f scopes x)
    bound-query home scopes (query n ss) s means = bound-steps home scopes (query n ss) 0 ss (behind _ _ _ _ s) means

    bound-steps : (home : ℕ) (scopes : Scopes) (q : Query) (i : ℕ) (x : Steps) → Placed (homes_steps home x) (pieces_steps q i x) → Means home scopes → AreBound (links_steps f scopes x)
    bound-steps home scopes q i no_steps s means = bound-none
    bound-steps home scopes q i (more_steps p ps) s means =
        bound-both _ _ (bound-step home scopes q i p (front _ _ _ _ s) means) (bound-steps home scopes q (suc i) ps (back _ _ _ _ s) means)

    bound-step : (home : ℕ) (scopes : Scopes) (q : Query) (i : ℕ) (x : Step) → Placed (homes_step home x) (pieces_step q i x) → Means home scopes → AreBound (links_step f scopes x)
    bound-step home scopes q i (this n) s means = bound-none
    bound-step home scopes q i (var n name) s means = bound-variable home n scopes name s.homes.0 means
    bound-step home scopes q i (key n name) s means = bound-none
    bound-step home scopes q i (index n at) s means = bound-none
    bound-step home scopes q i (every n) s means = bound-none
    bound-step home scopes q i (items n) s means = bound-none
    bound-step home scopes q i (splice n name) s means = bound-variable home n scopes name.text s.homes.0 means
    bound-step home scopes q i (filter n capture c) s means =
        let conditions = behind _ _ (homes_conds n c) (pieces_conds c) s in
        bound-conds n (given_conds c ∷ scopes) c conditions (means-within n home (given_conds c) scopes s.homes.0 (apart-file n (OfStep q i) s.pieces.0 refl) (give-conds n c conditions) means)
    bound-step home scopes q i (keys n capture op negated e) s means = bound-expr home scopes e (behind _ _ _ _ s) means

    bound-expr : (home : ℕ) (scopes : Scopes) (x : Expr) → Placed (homes_expr home x) (pieces_expr x) → Means home scopes → AreBound (links_expr f scopes x)
    bound-expr home scopes (literal n tree) s means = bound-none
    bound-expr home scopes (function n name es) s means = bound-exprs home scopes es (behind _ _ _ _ s) means
    bound-expr home scopes (asked q) s means = bound-query home scopes q s means
    bound-expr home scopes (found n q) s means = bound-query home scopes q (behind _ _ _ _ s) means

    bound-opt_expr : (home : ℕ) (scopes : Scopes) (x : OptExpr) → Placed (homes_opt_expr home x) (pieces_opt_expr x) → Means home scopes → AreBound (links_opt_expr f scopes x)
    bound-opt_expr home scopes no_expr s means = bound-none
    bound-opt_expr home scopes (with_expr e) s means = bound-expr home scopes e s means

    bound-exprs : (home : ℕ) (scopes : Scopes) (x : Exprs) → Placed (homes_exprs home x) (pieces_exprs x) → Means home scopes → AreBound (links_exprs f scopes x)
    bound-exprs home scopes no_exprs s means = bound-none
    bound-exprs home scopes (more_exprs e es) s means = bound-both _ _ (bound-expr home scopes e (front _ _ _ _ s) means) (bound-exprs home scopes es (back _ _ _ _ s) means)

  -- some of the rules of the file, in the file's scope
  bound-rules : (scopes : Scopes) (rs : List Rule) → ((r : Rule) → Contains rs r → Contains f.rules r) → Placed (homes_rules 0 rs) (pieces_rules rs) → Means 0 scopes → AreBound (links_rules f scopes rs)
  bound-rules scopes [] all s means = bound-none
  bound-rules scopes (r ∷ rs) all s means =
      let own = front-rule r rs s in
      let has : Contains f.rules r = all r (0, omega arith, refl) in
      let params : Gives (body_site r.body) (given_params 0 r.params) = give-params r has 0 r.params (omega arith) in
      let here : AreBound (links_rule f scopes r) =
      bound-both _ _ (bound-opt_conds 0 scopes r.cond (rule-conds r own) means) (bound-body 0 scopes r.params r.body (rule-body r own) params means) in
      bound-both (links_rule f scopes r) (links_rules f scopes rs) here (bound-rules scopes rs (λ x h. all x (suc h.0, omega (arith, h.1), h.2)) (back-rules r rs s) means)

  -- ---- the file

  module _ (order : AreInOrder f) where
    homes-some : (n : ℕ) → visits n (homes_in f) ≤ hits n (inside f)
    homes-some n = let same : visits n (homes_in f) ≡ hits n (inside f) = (homed-inside f).same n in omega (arith, same)

    all-homed : Each IsHomed (homes_in f)
    all-homed =
        subst (λ (t : List ℕ). Each (λ (h : Homed). slice_index_or t h.0 0 ≡ h.1) (homes_in f)) (sym (same-homes (replicate (length f.places) 0) (homes_in f)))
        (all-there f order (homes_in f) homes-some (λ (home : ℕ). home) 0)

    all-at : (ps : List Sited) → IsAmong ps (pieces_file f) → Each IsAt ps
    all-at [] among = tt
    all-at ((n, p) ∷ ps) among =
        (piece-found f n p ps order among, all-at ps (IsAmong-inner ps ((n, p) ∷ ps) (pieces_file f) (IsAmong-behind (n, p) ps ps (IsAmong-whole ps)) among))

    file-placed : Placed (homes_in f) (inside f)
    file-placed = record { homes = all-homed; pieces = all-at (inside f) (IsAmong-behind (0, OfFile) (inside f) (inside f) (IsAmong-whole (inside f))) }

    pub lets-placed : Placed (homes_lets 0 f.lets) (pieces_lets f.lets)
    lets-placed = front (homes_lets 0 f.lets) (homes_rules 0 f.rules ++ homes_disjs 0 f.loose) (pieces_lets f.lets) (pieces_rules f.rules ++ pieces_disjs f.loose) file-placed

    items-placed : Placed (homes_rules 0 f.rules ++ homes_disjs 0 f.loose) (pieces_rules f.rules ++ pieces_disjs f.loose)
    items-placed = back (homes_lets 0 f.lets) (homes_rules 0 f.rules ++ homes_disjs 0 f.loose) (pieces_lets f.lets) (pieces_rules f.rules ++ pieces_disjs f.loose) file-placed

    pub rules-placed : Placed (homes_rules 0 f.rules) (pieces_rules f.rules)
    rules-placed = front (homes_rules 0 f.rules) (homes_disjs 0 f.loose) (pieces_rules f.rules) (pieces_disjs f.loose) items-placed

    pub loose-placed : Placed (homes_disjs 0 f.loose) (pieces_disjs f.loose)
    loose-placed = back (homes_rules 0 f.rules) (homes_disjs 0 f.loose) (pieces_rules f.rules) (pieces_disjs f.loose) items-placed

    file-means : Means 0 (given_file f ∷ [])
    file-means =
        let gives : Gives 0 (given_file f) =
        gives-placed 0 (given_lets f.lets) (by_place (given_rules f.rules) (given_disjs f.loose)) (give-lets 0 f.lets lets-placed)
        (gives-placed 0 (given_rules f.rules) (given_disjs f.loose) (give-rules f.rules rules-placed) (give-disjs 0 f.loose loose-placed)) in
        means-more 0 (given_file f) [] gives (λ name m e. absurd (none-some m e))

    file-bound : AreBound (links_in f)
    file-bound =
        let scopes : Scopes = given_file f ∷ [] in
        bound-both _ _ (bound-lets 0 scopes f.lets lets-placed file-means)
        (bound-both _ _ (bound-rules scopes f.rules (λ r has. has) rules-placed file-means) (bound-disjs 0 scopes f.loose loose-placed file-means))

    -- what the table of meanings says at a site
    link-right : (site : ℕ) → IsRightIf site (slice_index_or (resolution_of f) site None)
    link-right site =
        let table : List (Option Link) = replicate (length f.places) None in
        subst (λ (t : List (Option Link)). IsRightIf site (slice_index_or t site None)) (sym (same-links table (links_in f)))
        (all-hold Some IsRightIf table (links_in f) None file-bound.each (λ n. subst (IsRightIf n) (sym (none-at (length f.places) n)) tt) site)

-- the use of a name means what is given so many scopes around it
pub names-bound : (f : File) → AreInOrder f → (site : ℕ) (b : Bind) → bind_of f site ≡ Some b → IsBound f site b
names-bound f order site b is = by (slice_index_or (resolution_of f) site None) (link-right f order site) is
  where
    by : (o : Option Link) → IsRightIf f site o → option_and_then variable_of o ≡ Some b → IsBound f site b
    by None right e = absurd (none-some b e)
    by (Some (Variable c)) right e = subst (IsBound f site) (same_Some c b e) right
    by (Some (ToRule n)) right e = absurd (none-some b e)

-- the use of a rule means one of the file
pub target-named : (f : File) → AreInOrder f → (site rule : ℕ) → target_of f site ≡ Some rule → (r : Rule) × Contains f.rules r × (r.site ≡ rule)
target-named f order site rule is = by (slice_index_or (resolution_of f) site None) (link-right f order site) is
  where
    by : (o : Option Link) → IsRightIf f site o → option_and_then rule_of o ≡ Some rule → (r : Rule) × Contains f.rules r × (r.site ≡ rule)
    by None right e = absurd (none-some rule e)
    by (Some (Variable b)) right e = absurd (none-some rule e)
    by (Some (ToRule n)) right e = subst (λ (k : ℕ). (r : Rule) × Contains f.rules r × (r.site ≡ k)) (same_Some n rule e) right
