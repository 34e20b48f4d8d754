-- Where two meanings of names and of what calls fail by agree on what is not deeper than a number, each part that is not deeper, with the weight of its environment, fails by
-- the same entries; so unfoldings that suffice for a part suffice for what it fails by.
use Rattle.std.proofs.Common.{◌≡◌, ℕ, zero, suc, ◌+◌, ◌≤◌, Bool, true, false, refl, ap, ap₂, sym, ◌∙◌, arith, List, [], ◌∷◌, ◌++◌, map, Option, Some, None, if◌then◌else◌}
use Rattle.std.specs.Prelude.{◌&&◌}
use Rattle.std.specs.List.{flat_map}
use Rattle.std.proofs.Math.Path.{fun_ext}
use Rattle.guard_syntax.specs.Syntax.{Body, Disjs, Disj, Parts, Part, Exprs, File, Rule, body, no_disjs, more_disjs, disj, no_parts, more_parts, block, guarded, kinds, test, refer, call}
use Rattle.guard_syntax.specs.declared.row.Verdict.{Verdict}
use Rattle.rule_names.proofs.Shallow.{AreShallow, rules-shallow}
use Rattle.rule_names.specs.Deep.{deep_rules}
use Rattle.rule_names.specs.Depths.{larger, depth_at, depth_body, depth_conds, depth_disj, depth_disjs, depth_exprs, depth_lets, depth_opt_conds, depth_opt_expr, depth_part, depth_parts, depth_piece, depth_limit, depth_query, depth_rule, depth_target, depths_of}
use Rattle.rule_names.specs.Pieces.{Piece, OfFile, OfLet, OfRule, OfBody, OfConds, OfDisj, OfPart, OfQuery, OfStep, OfExpr, piece_at}
use Rattle.rule_names.specs.Resolution.{target_of}
use Rattle.rule_meaning.specs.Environments.{Environment, Top, Inner, Called, current_of}
use Rattle.rule_meaning.specs.Fails.{Calls, Entry, block_row_fails, body_fails, calls_by, disj_fails, disjs_fails, loose_fails, part_fails, parts_fails, piece_fails, rule_fails, set_fails, target_fails, test_fails, unfold_fails}
use Rattle.rule_meaning.specs.Locations.{Location, LocatedRow, World, root_location}
use Rattle.rule_meaning.specs.Meaning.{Names, body_verdict}
use Rattle.rule_meaning.specs.NameMeaning.{unfolded}
use Rattle.rule_meaning.specs.SetTests.{is_empty_test, is_set}
use Rattle.rule_meaning.specs.StepMeaning.{passes, rows_of_type}
use Rattle.rule_meaning.specs.Verdicts.{is_fail}
use Rattle.meaning_laws.specs.code.Entries.{loose_fails_by, rule_fails_by}
use Rattle.meaning_laws.specs.code.Weights.{weight}
use Rattle.meaning_laws.proofs.OneMeaning.{IsFine, shallow, stable, told}
use Rattle.meaning_laws.proofs.SameParts.{Agree, body-same, disj-same, part-same, rows-same, side-same}
use Rattle.meaning_laws.proofs.Weighed.{larger-first, larger-second}

-- two ways in which calls fail say the same of each call that is not deeper than a number
pub record AgreeOnCalls (world : World) (depths : List ℕ) (k : ℕ) (c d : Calls) : Type 0 where
  pub entries : (env : Environment) (site : ℕ) (args : Exprs)
      → suc (depth_target world.file depths (target_of world.file site) + depth_exprs world.file depths args) + weight world.file depths env ≤ k
      → c env site args ≡ d env site args

-- what a body fails by at each value
abbrev inner_fails : World → Names → Calls → Environment → Body → Location → List Entry
inner_fails world names calls env inner v = if is_fail (body_verdict world names (Inner v env) inner) then body_fails world names calls (Inner v env) inner else []

-- the entries of what is failing
abbrev those : Bool → List Entry → List Entry
those fails entries = if fails then entries else []

module _ (world : World) (depths : List ℕ) (k : ℕ) (a b : Names) (same : Agree world depths k a b) (c d : Calls) (alike : AgreeOnCalls world depths k c d) where
  abbrev Fits : ℕ → Environment → Type 0
  Fits depth env = depth + weight world.file depths env ≤ k

  first : (env : Environment) (m n : ℕ) → Fits (larger m n) env → Fits m env
  first env m n h = larger-first m n (weight world.file depths env) k h

  second : (env : Environment) (m n : ℕ) → Fits (larger m n) env → Fits n env
  second env m n h = larger-second m n (weight world.file depths env) k h

  below : (env : Environment) (n : ℕ) → Fits (suc n) env → Fits n env
  below env n h = omega (arith, h)

  mutual
    pub body-entries : (env : Environment) (x : Body) → Fits (depth_body world.file depths x) env → body_fails world a c env x ≡ body_fails world b d env x
    body-entries env (body site lets ds) h = disjs-entries env ds (second env (depth_lets world.file depths lets) (depth_disjs world.file depths ds) h)

    pub disjs-entries : (env : Environment) (ds : Disjs) → Fits (depth_disjs world.file depths ds) env → disjs_fails world a c env ds ≡ disjs_fails world b d env ds
    disjs-entries env no_disjs h = refl
    disjs-entries env (more_disjs x ds) h =
        let m = depth_disj world.file depths x in
        let n = depth_disjs world.file depths ds in
        let here = first env m n h in
        ap₂ (λ (es fs : List Entry). es ++ fs)
        (ap₂ (λ (v : Verdict) (es : List Entry). those (is_fail v) es) (disj-same world depths k a b same env x here) (disj-entries env x here))
        (disjs-entries env ds (second env m n h))

    pub disj-entries : (env : Environment) (x : Disj) → Fits (depth_disj world.file depths x) env → disj_fails world a c env x ≡ disj_fails world b d env x
    disj-entries env (disj site ps) h = parts-entries env ps h

    pub parts-entries : (env : Environment) (ps : Parts) → Fits (depth_parts world.file depths ps) env → parts_fails world a c env ps ≡ parts_fails world b d env ps
    parts-entries env no_parts h = refl
    parts-entries env (more_parts p ps) h =
        let m = depth_part world.file depths p in
        let n = depth_parts world.file depths ps in
        let here = first env m n h in
        ap₂ (λ (es fs : List Entry). es ++ fs)
        (ap₂ (λ (v : Verdict) (es : List Entry). those (is_fail v) es) (part-same world depths k a b same env p here) (part-entries env p here))
        (parts-entries env ps (second env m n h))

    pub part-entries : (env : Environment) (p : Part) → Fits (depth_part world.file depths p) env → part_fails world a c env p ≡ part_fails world b d env p
    part-entries env (block site any head inner) h =
        let m = depth_query world.file depths head in
        let n = depth_body world.file depths inner in
        let fits = below env (larger m n) h in
        let at : inner_fails world a c env inner ≡ inner_fails world b d env inner = fun_ext (λ v. ap₂ (λ (w : Verdict) (es : List Entry). those (is_fail w) es)
        (body-same world depths k a b same (Inner v env) inner (second env m n fits)) (body-entries (Inner v env) inner (second env m n fits))) in
        ap₂ (λ (fails : Location → List Entry) (rows : List LocatedRow). flat_map (block_row_fails site fails) rows) at (rows-same world depths k a b same env head (first env m n fits))
    part-entries env (guarded site conditions inner) h =
        let m = depth_conds world.file depths conditions in
        let n = depth_body world.file depths inner in
        body-entries (Inner (current_of env) env) inner (second env m n (below env (larger m n) h))
    part-entries env (kinds site name conditions inner) h =
        let m = depth_opt_conds world.file depths conditions in
        let n = depth_body world.file depths inner in
        let fits = below env (larger m n) h in
        let at : inner_fails world a c env inner ≡ inner_fails world b d env inner = fun_ext (λ v. ap₂ (λ (w : Verdict) (es : List Entry). those (is_fail w) es)
        (body-same world depths k a b same (Inner v env) inner (second env m n fits)) (body-entries (Inner v env) inner (second env m n fits))) in
        ap (λ (fails : Location → List Entry). flat_map (block_row_fails site fails) (rows_of_type world name (current_of env))) at
    part-entries env (test site any left o negated right message) h =
        let m = depth_query world.file depths left in
        let n = depth_opt_expr world.file depths right in
        let fits = below env (larger m n) h in
        ap₂ (λ (lefts rights : List LocatedRow). if is_empty_test o && is_set left
        then set_fails site negated (current_of env) lefts
        else test_fails site (passes world o negated rights) lefts)
        (rows-same world depths k a b same env left (first env m n fits)) (side-same world depths k a b same env right (second env m n fits))
    part-entries env (refer site negated name message) h = refl
    part-entries env (call site true name args message) h = refl
    part-entries env (call site false name args message) h = alike.entries env site args h

  -- ---- one unfolding more

  -- the arguments weigh on the called body
  piece-entries : (env : Environment) (args : Exprs) (p : Option Piece) → depth_piece world.file depths p + depth_exprs world.file depths args + weight world.file depths env ≤ k
      → piece_fails world a c env args p ≡ piece_fails world b d env args p
  piece-entries env args None h = refl
  piece-entries env args (Some OfFile) h = refl
  piece-entries env args (Some (OfLet l)) h = refl
  piece-entries env args (Some (OfRule r)) h =
      let m = depth_opt_conds world.file depths r.cond in
      let n = depth_body world.file depths r.body in
      let inner = Called (current_of env) args env in
      body-entries inner r.body (larger-second m n (weight world.file depths inner) k (omega (arith, h)))
  piece-entries env args (Some (OfBody x)) h = refl
  piece-entries env args (Some (OfConds x)) h = refl
  piece-entries env args (Some (OfDisj x)) h = refl
  piece-entries env args (Some (OfPart p)) h = refl
  piece-entries env args (Some (OfQuery q)) h = refl
  piece-entries env args (Some (OfStep q i)) h = refl
  piece-entries env args (Some (OfExpr e)) h = refl

  module _ (told : (site : ℕ) → depth_piece world.file depths (piece_at world.file site) ≤ depth_at world.file depths site) where
    target-entries : (env : Environment) (args : Exprs) (o : Option ℕ) → depth_target world.file depths o + depth_exprs world.file depths args + weight world.file depths env ≤ k
        → target_fails world a c env args o ≡ target_fails world b d env args o
    target-entries env args None h = refl
    target-entries env args (Some site) h = let e = told site in piece-entries env args (piece_at world.file site) (omega (arith, e, h))

    pub calls-entries : AgreeOnCalls world depths (suc k) (unfold_fails world a c) (unfold_fails world b d)
    calls-entries = record { entries = λ env site args h. target-entries env args (target_of world.file site) (omega (arith, h)) }

module _ (world : World) (depths : List ℕ) (told : (site : ℕ) → depth_piece world.file depths (piece_at world.file site) ≤ depth_at world.file depths site) where
  -- further unfoldings change nothing
  pub steady : (n m : ℕ) → n ≤ m → AgreeOnCalls world depths n (calls_by world n) (calls_by world m)
  steady zero m h = record { entries = λ env site args more. absurd (omega (arith, more)) }
  steady (suc n) zero h = absurd (omega (arith, h))
  steady (suc n) (suc m) h =
      let less : n ≤ m = omega (arith, h) in
      calls-entries world depths n (unfolded world n) (unfolded world m) (stable world depths told n m less) (calls_by world n) (calls_by world m) (steady n m less) told

  module _ (env : Environment) where
    enough-body : (x : Body) (k n : ℕ) → depth_body world.file depths x + weight world.file depths env ≤ k → k ≤ n
        → body_fails world (unfolded world k) (calls_by world k) env x ≡ body_fails world (unfolded world n) (calls_by world n) env x
    enough-body x k n fits less =
        body-entries world depths k (unfolded world k) (unfolded world n) (stable world depths told k n less) (calls_by world k) (calls_by world n) (steady k n less) env x fits

    enough-disjs : (x : Disjs) (k n : ℕ) → depth_disjs world.file depths x + weight world.file depths env ≤ k → k ≤ n
        → disjs_fails world (unfolded world k) (calls_by world k) env x ≡ disjs_fails world (unfolded world n) (calls_by world n) env x
    enough-disjs x k n fits less =
        disjs-entries world depths k (unfolded world k) (unfolded world n) (stable world depths told k n less) (calls_by world k) (calls_by world n) (steady k n less) env x fits

    -- any two numbers of unfoldings that suffice give the same entries
    pub body-steady : (x : Body) (n m : ℕ) → depth_body world.file depths x + weight world.file depths env ≤ n → depth_body world.file depths x + weight world.file depths env ≤ m
        → body_fails world (unfolded world n) (calls_by world n) env x ≡ body_fails world (unfolded world m) (calls_by world m) env x
    body-steady x n m one other =
        let k = depth_body world.file depths x + weight world.file depths env in
        let fits : k ≤ k = omega arith in
        sym (enough-body x k n fits one) ∙ enough-body x k m fits other

    pub disjs-steady : (x : Disjs) (n m : ℕ) → depth_disjs world.file depths x + weight world.file depths env ≤ n → depth_disjs world.file depths x + weight world.file depths env ≤ m
        → disjs_fails world (unfolded world n) (calls_by world n) env x ≡ disjs_fails world (unfolded world m) (calls_by world m) env x
    disjs-steady x n m one other =
        let k = depth_disjs world.file depths x + weight world.file depths env in
        let fits : k ≤ k = omega arith in
        sym (enough-disjs x k n fits one) ∙ enough-disjs x k m fits other

-- ---- rules and the parts outside them

module _ (f : File) (fine : IsFine f) (world : World) (is : world.file ≡ f) where
  are_shallow : AreShallow world.file (depths_of world.file)
  are_shallow = shallow f fine world is

  pub entries-steady : (env : Environment) (x : Body) (n m : ℕ) → depth_body world.file (depths_of world.file) x + weight world.file (depths_of world.file) env ≤ n
      → depth_body world.file (depths_of world.file) x + weight world.file (depths_of world.file) env ≤ m
      → body_fails world (unfolded world n) (calls_by world n) env x ≡ body_fails world (unfolded world m) (calls_by world m) env x
  entries-steady env x n m one other = body-steady world (depths_of world.file) (told f fine world is) env x n m one other

  rule-steady : (n : ℕ) (r : Rule) → depth_rule world.file (depths_of world.file) r ≤ depth_limit → rule_fails_by world (n + depth_limit) r ≡ rule_fails world r
  rule-steady n r h =
      let a = depth_opt_conds world.file (depths_of world.file) r.cond in
      let b = depth_body world.file (depths_of world.file) r.body in
      let fits : b + 0 ≤ depth_limit = larger-second a b 0 depth_limit (omega (arith, h)) in
      entries-steady (Inner root_location Top) r.body (n + depth_limit) depth_limit (omega (arith, fits)) fits

  rules-each : (n : ℕ) (rs : List Rule) → deep_rules world.file (depths_of world.file) rs ≡ [] → map (rule_fails_by world (n + depth_limit)) rs ≡ map (rule_fails world) rs
  rules-each n [] h = refl
  rules-each n (r ∷ rs) h =
      let first = rules-shallow world.file (depths_of world.file) r rs h in
      ap₂ (λ (e : List Entry) (es : List (List Entry)). e ∷ es) (rule-steady n r first.0) (rules-each n rs first.1)

  pub rules-steady : (n : ℕ) → map (rule_fails_by world (n + depth_limit)) world.file.rules ≡ map (rule_fails world) world.file.rules
  rules-steady n = rules-each n world.file.rules are_shallow.rules

  pub loose-steady : (n : ℕ) → loose_fails_by world (n + depth_limit) world.file.loose ≡ loose_fails world world.file.loose
  loose-steady n =
      let low = are_shallow.loose in
      let fits : depth_disjs world.file (depths_of world.file) world.file.loose + 0 ≤ depth_limit = omega (arith, low) in
      disjs-steady world (depths_of world.file) (told f fine world is) Top world.file.loose (n + depth_limit) depth_limit (omega (arith, fits)) fits
