-- No name of the file of generated rules reaches itself: from a rule to its parts, to a let, to its parts, each edge leads down. By induction on the rules, and on the keys.
use Rattle.std.proofs.Common.{◌≡◌, ℕ, suc, ◌+◌, ◌*◌, ◌^◌, ◌<◌, ◌≤◌, ◌⊎◌, inl, inr, Bool, true, false, cond, List, [], ◌∷◌, ◌++◌, length, get_or, set, Some, refl, sym, ap, subst, ◌∙◌, arith, replicate}
use Rattle.std.specs.Prelude.{nat_lt, ◌&&◌, if◌then◌else◌}
use Rattle.std.specs.List.{Contains}
use Rattle.std.proofs.lemmas.Bool.{cases_eq, cases_lt, le-ltb, lt-ltb}
use Rattle.std.proofs.lemmas.List.{set_past, length-replicate, get_or-replicate, get_or_past, get_or-set_same, get_or-set_other}
use Rattle.std.proofs.lemmas.List.Elements.{Contains-push_cases}
use Rattle.guard_syntax.specs.Syntax.{File, Rule}
use Rattle.generator_laws.specs.code.GeneratedSyntax.{Places, file_of_rules, key_parts, last_site, lets_from, next_site, rule_name, rules_from, type_let, type_rule}
use Rattle.generator_laws.specs.code.RuleNames.{EachRule}
use Rattle.generator_laws.proofs.RuleBinds.{all-given, given-of-keys, let-given}
use Rattle.generator_laws.proofs.SitesInOrder.{length-places}
use Rattle.rule_generator.specs.GeneratedRules.{KeptKey, TypeRule}
use Rattle.rule_names.specs.Cycles.{IsAcyclic}
use Rattle.rule_names.specs.Graphs.{Graph, Names, Reaches, names, through}
use Rattle.rule_names.specs.ReferenceGraph.{Edge, disj_sites, edges_of_disjs, edges_of_file, edges_of_let, edges_of_lets, edges_of_opt_conds, edges_of_rule, edges_of_rules, graph_of, to_each, to_variable, with_edge, with_edges}
use Rattle.rule_names.specs.Scopes.{Given, given_disjs, given_file, given_named}

-- ---- edges that lead down

module _ (level : ℕ → ℕ) (count : ℕ) where
  -- never up, and from a name strictly down
  abbrev pub IsDown : Edge → Type 0
  IsDown edge = (level edge.1 ≤ level edge.0) × (count ≤ edge.0 → level edge.1 < level edge.0)

  abbrev pub AreDown : List Edge → Type 0
  AreDown [] = Unit {0}
  AreDown (edge ∷ edges) = IsDown edge × AreDown edges

  down-append : (xs ys : List Edge) → AreDown xs → AreDown ys → AreDown (xs ++ ys)
  down-append [] ys h k = k
  down-append (x ∷ xs) ys h k = (h.0, down-append xs ys h.1 k)

  -- ---- names of a graph are its edges

  nothing-named : (a : ℕ) → Contains {X = ℕ} [] a → ⊥
  nothing-named a h = let l : h.0 < 0 = h.1 in absurd (omega arith)

  none-past : (g : Graph) (a b : ℕ) → Names g a b → length g ≤ a → ⊥
  none-past g a b h l = nothing-named b (subst (λ (row : List ℕ). Contains row b) (get_or_past g a [] l) h)

  empty-names : (n a b : ℕ) → Names (replicate n []) a b → ⊥
  empty-names n a b h = elim (cases_lt a n) [
    | inl within ↦ nothing-named b (subst (λ (row : List ℕ). Contains row b) (get_or-replicate {A = List ℕ} n a [] [] within) h)
    | inr past ↦ none-past (replicate n []) a b h (subst (λ (m : ℕ). m ≤ a) (sym (length-replicate {A = List ℕ} n [])) past)
  ]

  set-names : (g : Graph) (a b x y : ℕ) → Names (set g a (get_or g a [] ++ b ∷ [])) x y → Names g x y ⊎ ((a ≡ x) × (b ≡ y))
  set-names g a b x y h = elim (cases_lt a (length g)) [
    | inl l ↦ elim (cases_eq x a) [
      | inl e ↦
          let at_a : Contains (get_or (set g a (get_or g a [] ++ b ∷ [])) a []) y = subst (λ (z : ℕ). Contains (get_or (set g a (get_or g a [] ++ b ∷ [])) z []) y) e h in
          let pushed : Contains (get_or g a [] ++ b ∷ []) y = subst (λ (row : List ℕ). Contains row y) (get_or-set_same g a (get_or g a [] ++ b ∷ []) [] l) at_a in
          elim (Contains-push_cases (get_or g a []) b y pushed) [
            | inl k ↦ inl (subst (λ (z : ℕ). Names g z y) (sym e) k)
            | inr k ↦ inr (sym e, k)
          ]
      | inr n ↦ inl (subst (λ (row : List ℕ). Contains row y) (get_or-set_other g a x (get_or g a [] ++ b ∷ []) [] n) h)
    ]
    | inr l ↦ inl (subst (λ (k : Graph). Names k x y) (set_past g a (get_or g a [] ++ b ∷ []) l) h)
  ]

  edge-names : (v : Bool) (g : Graph) (w : Edge) (x y : ℕ) → Names (cond v (set g w.0 (get_or g w.0 [] ++ w.1 ∷ [])) g) x y → Names g x y ⊎ ((w.0 ≡ x) × (w.1 ≡ y))
  edge-names true g w x y h = set-names g w.0 w.1 x y h
  edge-names false g w x y h = inl h

  names-down : (g : Graph) (ws : List Edge) → ((x y : ℕ) → Names g x y → IsDown (x, y)) → AreDown ws → (x y : ℕ) → Names (with_edges g ws) x y → IsDown (x, y)
  names-down g [] start h x y k = start x y k
  names-down g (w ∷ ws) start h x y k =
      names-down (with_edge g w) ws
      (λ a b m. elim (edge-names (nat_lt w.0 (length g) && nat_lt w.1 (length g)) g w a b m) [
        | inl o ↦ start a b o
        | inr e ↦ subst (λ (z : ℕ). IsDown (z, b)) e.0 (subst (λ (z : ℕ). IsDown (w.0, z)) e.1 h.0)
      ])
      h.1 x y k

  -- what is reached lies no higher, and from a name lower
  reached-down : (g : Graph) → ((x y : ℕ) → Names g x y → IsDown (x, y)) → (a b : ℕ) → Reaches g a b → IsDown (a, b)
  reached-down g down a b (names n) = down a b n
  reached-down g down a b (through {c = c} n r) =
      let first = down a c n in
      let later = reached-down g down c b r in
      let weak : level c ≤ level a = first.0 in
      let more : level b ≤ level c = later.0 in
      (omega arith, λ low. let strict : level c < level a = first.1 low in omega arith)

  no-name-cycle : (f : File) → count ≡ length f.places → AreDown (edges_of_file f) → IsAcyclic f
  no-name-cycle f e down a low high r =
      let all = names-down (replicate (3 * length f.places) []) (edges_of_file f) (λ x y k. absurd (empty-names (3 * length f.places) x y k)) down in
      let less : level a < level a = (reached-down (graph_of f) all a a r).1 (subst (λ n. n ≤ a) (sym e) low) in
      absurd (omega arith)

-- ---- the edges of lets and rules

module _ (places : Places) (level : ℕ → ℕ) (count : ℕ) where
  -- parts of lets lie lowest, then lets, parts of rules, and rules
  record HasLevels (n k : ℕ) (rule : TypeRule) : Type 0 where
    let_parts : (i : ℕ) → n ≤ i → i < n + 11 → level i ≡ 0
    rule_parts : (i : ℕ) → n + 11 ≤ i → i < next_site places n rule → level i ≡ 2
    of_let : level (2 * count + n) ≡ 1
    of_rule : level (count + (n + 11)) ≡ 3
    within : next_site places n rule ≤ count

  module _ (rules : List Rule) (n k : ℕ) (rule : TypeRule) (at : HasLevels n k rule) where
    in-let : (i j : ℕ) → n ≤ i → i < n + 11 → n ≤ j → j < n + 11 → IsDown level count (i, j)
    in-let i j l m p q =
        let w = at.within in
        let from = at.let_parts i l m in
        let to = at.let_parts j p q in
        (omega arith, λ low. absurd (omega arith))

    in-rule : (i j : ℕ) → n + 11 ≤ i → i < next_site places n rule → n + 11 ≤ j → j < next_site places n rule → IsDown level count (i, j)
    in-rule i j l m p q =
        let w = at.within in
        let from = at.rule_parts i l m in
        let to = at.rule_parts j p q in
        (omega arith, λ low. absurd (omega arith))

    to-let : (i : ℕ) → n + 11 ≤ i → i < next_site places n rule → IsDown level count (i, 2 * count + n)
    to-let i l m =
        let w = at.within in
        let from = at.rule_parts i l m in
        let to = at.of_let in
        (omega arith, λ low. absurd (omega arith))

    from-let : (j : ℕ) → n ≤ j → j < n + 11 → IsDown level count (2 * count + n, j)
    from-let j l m =
        let from = at.of_let in
        let to = at.let_parts j l m in
        (omega arith, λ low. omega arith)

    from-rule : (j : ℕ) → n + 11 ≤ j → j < next_site places n rule → IsDown level count (count + (n + 11), j)
    from-rule j l m =
        let from = at.of_rule in
        let to = at.rule_parts j l m in
        (omega arith, λ low. omega arith)

    let-down : (visible : List Given) → AreDown level count (edges_of_let rules count visible (type_let places n k rule.type))
    let-down visible = (
      from-let (n + 1) (omega arith) (omega arith),
      (
        in-let (n + 1) (n + 1 + 3) (omega arith) (omega arith) (omega arith) (omega arith),
        (
          in-let (n + 1 + 2) (n + 1 + 1) (omega arith) (omega arith) (omega arith) (omega arith),
          (
            in-let (n + 1 + 3) (n + 1 + 2) (omega arith) (omega arith) (omega arith) (omega arith),
            (
              in-let (n + 1 + 3) (n + 1 + 4) (omega arith) (omega arith) (omega arith) (omega arith),
              (
                in-let (n + 1 + 4) (n + 1 + 4 + 1) (omega arith) (omega arith) (omega arith) (omega arith),
                (
                  in-let (n + 1 + 4 + 1) (n + 1 + 4 + 2) (omega arith) (omega arith) (omega arith) (omega arith),
                  (
                    in-let (n + 1 + 4 + 2) (n + 1 + 4 + 2 + 1) (omega arith) (omega arith) (omega arith) (omega arith),
                    (
                      in-let (n + 1 + 4 + 2) (n + 1 + 4 + 2 + 3) (omega arith) (omega arith) (omega arith) (omega arith),
                      (
                        in-let (n + 1 + 4 + 2 + 1) (n + 1 + 4 + 2 + 2) (omega arith) (omega arith) (omega arith) (omega arith),
                        tt,
                      ),
                    ),
                  ),
                ),
              ),
            ),
          ),
        ),
      ),
    )

    -- the conditions
    conds-down : (visible : List Given) → given_named visible (rule_name k) ≡ Some (let-given places n k) → AreDown level count (edges_of_opt_conds rules count visible (type_rule places (n + 11) k rule).cond)
    unfolding let-given
    conds-down visible e =
        let c : ℕ = n + 11 + 1 in
        subst (λ o. AreDown level count ((c, c + 1) ∷ (c + 1, c + 2) ∷ (c + 2, c + 2 + 1) ∷ (c + 2 + 1, c + 2 + 2) ∷ ((((to_variable rules count (c + 2 + 2) o ++ []) ++ []) ++ []) ++ []))) (sym e) (
          in-rule c (c + 1) (omega arith) (omega arith) (omega arith) (omega arith),
          (
            in-rule (c + 1) (c + 2) (omega arith) (omega arith) (omega arith) (omega arith),
            (
              in-rule (c + 2) (c + 2 + 1) (omega arith) (omega arith) (omega arith) (omega arith),
              (
                in-rule (c + 2 + 1) (c + 2 + 2) (omega arith) (omega arith) (omega arith) (omega arith),
                (
                  to-let (c + 2 + 2) (omega arith) (omega arith),
                  tt,
                ),
              ),
            ),
          ),
        )

    -- the tests of keys
    keys-down : (visible : List Given) (m : ℕ) (keys : List KeptKey) → given_named visible (rule_name k) ≡ Some (let-given places n k) → n + 11 ≤ m → m + 7 * length keys ≤ next_site places n rule
        → AreDown level count (edges_of_disjs rules count visible (key_parts places m k keys))
    unfolding let-given
    keys-down visible m [] e l h = tt
    keys-down visible m (kept ∷ keys) e l h =
        let t : ℕ = m + 1 in
        let q : ℕ = t + 1 in
        let row : List Edge = (q + 2, q + 1) ∷ (q + 3, q + 2) ∷ [] in
        subst (λ o. AreDown level count (((m, t) ∷ (t, q) ∷ (t, t + 5) ∷ (q, q + 3) ∷ (((to_variable rules count (q + 1) o ++ row) ++ []) ++ [])) ++ edges_of_disjs rules count visible (key_parts places (m + 7) k keys))) (sym e) (
          in-rule m t (omega arith) (omega arith) (omega arith) (omega arith),
          (
            in-rule t q (omega arith) (omega arith) (omega arith) (omega arith),
            (
              in-rule t (t + 5) (omega arith) (omega arith) (omega arith) (omega arith),
              (
                in-rule q (q + 3) (omega arith) (omega arith) (omega arith) (omega arith),
                (
                  to-let (q + 1) (omega arith) (omega arith),
                  (
                    in-rule (q + 2) (q + 1) (omega arith) (omega arith) (omega arith) (omega arith),
                    (
                      in-rule (q + 3) (q + 2) (omega arith) (omega arith) (omega arith) (omega arith),
                      keys-down visible (m + 7) keys e (omega arith) (omega arith),
                    ),
                  ),
                ),
              ),
            ),
          ),
        )

    -- from a body to its tests
    heads-down : (b m : ℕ) (keys : List KeptKey) → n + 11 ≤ b → b < next_site places n rule → n + 11 ≤ m → m + 7 * length keys ≤ next_site places n rule
        → AreDown level count (to_each b (disj_sites (key_parts places m k keys)))
    heads-down b m [] l h p r = tt
    heads-down b m (kept ∷ keys) l h p r = (in-rule b m l h p (omega arith), heads-down b (m + 7) keys l h (omega arith) (omega arith))

    rule-down : (visible : List Given) → given_named visible (rule_name k) ≡ Some (let-given places n k) → AreDown level count (edges_of_rule rules count visible (type_rule places (n + 11) k rule))
    rule-down visible e =
        let r : ℕ = n + 11 in
        let keys = key_parts places (r + 7) k rule.keys in
        let heads : List Edge = to_each (r + 6) (disj_sites keys) in
        let inner : AreDown level count (heads ++ edges_of_disjs rules count visible keys) =
        down-append level count heads (edges_of_disjs rules count visible keys) (heads-down (r + 6) (r + 7) rule.keys (omega arith) (omega arith) (omega arith) (omega arith)) (keys-down visible (r + 7) rule.keys e (omega arith) (omega arith)) in (
          from-rule (r + 1) (omega arith) (omega arith),
          (
            from-rule (r + 6) (omega arith) (omega arith),
            down-append level count (edges_of_opt_conds rules count visible (type_rule places r k rule).cond) (heads ++ edges_of_disjs rules count (given_disjs keys ++ visible) keys) (conds-down visible e)
                (subst (λ (gs : List Given). AreDown level count (heads ++ edges_of_disjs rules count (gs ++ visible) keys)) (sym (given-of-keys places (r + 7) k rule.keys)) inner),
          ),
        )

  lets-down : (rules : List Rule) (visible : List Given) (n k : ℕ) (rs : List TypeRule) → EachRule places HasLevels n k rs → AreDown level count (edges_of_lets rules count visible (lets_from places n k rs))
  lets-down rules visible n k [] h = tt
  lets-down rules visible n k (rule ∷ rs) h =
      down-append level count (edges_of_let rules count visible (type_let places n k rule.type)) (edges_of_lets rules count visible (lets_from places (next_site places n rule) (suc k) rs))
      (let-down rules n k rule h.0 visible) (lets-down rules visible (next_site places n rule) (suc k) rs h.1)

  rules-down : (rules : List Rule) (visible : List Given) (n k : ℕ) (rs : List TypeRule) → EachRule places HasLevels n k rs → EachRule places (λ m j rule. given_named visible (rule_name j) ≡ Some (let-given places m j)) n k rs
      → AreDown level count (edges_of_rules rules count visible (rules_from places n k rs))
  rules-down rules visible n k [] h g = tt
  rules-down rules visible n k (rule ∷ rs) h g =
      down-append level count (edges_of_rule rules count visible (type_rule places (n + 11) k rule)) (edges_of_rules rules count visible (rules_from places (next_site places n rule) (suc k) rs))
      (rule-down rules n k rule h.0 visible g.0) (rules-down rules visible (next_site places n rule) (suc k) rs h.1 g.1)

-- ---- levels

-- of a part: those of lets lie below those of rules
unfoldable part_level : Places → ℕ → List TypeRule → ℕ → ℕ
part_level places n [] i = 0
part_level places n (rule ∷ rules) i = if nat_lt i (n + 11) then 0 else if nat_lt i (next_site places n rule) then 2 else part_level places (next_site places n rule) rules i

last-more : (places : Places) (n : ℕ) (rs : List TypeRule) → n ≤ last_site places n rs
last-more places n [] = omega arith
last-more places n (rule ∷ rs) = let l = last-more places (next_site places n rule) rs in omega arith

module _ (places : Places) (rules : List TypeRule) (count : ℕ) where
  level_of : ℕ → ℕ
  level_of i = if nat_lt i count then part_level places 1 rules i else if nat_lt i (2 * count) then 3 else 1

  of-part : (i : ℕ) → i < count → level_of i ≡ part_level places 1 rules i
  unfolding level_of
  of-part i h = ap (λ (b : Bool). if b then part_level places 1 rules i else if nat_lt i (2 * count) then 3 else 1) (lt-ltb i count h)

  of-name : (i : ℕ) → count ≤ i → level_of i ≡ (if nat_lt i (2 * count) then 3 else 1)
  unfolding level_of
  of-name i h = ap (λ (b : Bool). if b then part_level places 1 rules i else if nat_lt i (2 * count) then 3 else 1) (le-ltb i count h)

  have-levels : (n k : ℕ) (rs : List TypeRule) → last_site places n rs ≤ count → ((i : ℕ) → n ≤ i → part_level places 1 rules i ≡ part_level places n rs i) → EachRule places (HasLevels places level_of count) n k rs
  unfolding part_level
  have-levels n k [] h same = tt
  have-levels n k (rule ∷ rs) h same =
      let next : ℕ = next_site places n rule in
      let w = last-more places next rs in
      let past : (i : ℕ) → n + 11 ≤ i → part_level places n (rule ∷ rs) i ≡ (if nat_lt i next then 2 else part_level places next rs i) =
      λ i l. ap (λ (b : Bool). if b then 0 else if nat_lt i next then 2 else part_level places next rs i) (le-ltb i (n + 11) l) in (
        record {
          let_parts = λ i l m.
              of-part i (omega arith) ∙ same i l ∙ ap (λ (b : Bool). if b then 0 else if nat_lt i next then 2 else part_level places next rs i) (lt-ltb i (n + 11) m);
          rule_parts = λ i l m. of-part i (omega arith) ∙ same i (omega arith) ∙ past i l ∙ ap (λ (b : Bool). if b then 2 else part_level places next rs i) (lt-ltb i next m);
          of_let = of-name (2 * count + n) (omega arith) ∙ ap (λ (b : Bool). if b then 3 else 1) (le-ltb (2 * count + n) (2 * count) (omega arith));
          of_rule = of-name (count + (n + 11)) (omega arith) ∙ ap (λ (b : Bool). if b then 3 else 1) (lt-ltb (count + (n + 11)) (2 * count) (omega arith));
          within = omega arith;
        },
        have-levels next (suc k) rs h (λ i l. same i (omega arith) ∙ past i (omega arith) ∙ ap (λ (b : Bool). if b then 2 else part_level places next rs i) (le-ltb i next l)),
      )

pub file-acyclic : (places : Places) (rules : List TypeRule) → 1 + length rules ≤ 2 ^ 64 → IsAcyclic (file_of_rules places rules)
file-acyclic places rules few =
    let f : File = file_of_rules places rules in
    let count : ℕ = length f.places in
    let level : ℕ → ℕ = level_of places rules count in
    let long : length f.places ≡ last_site places 1 rules = length-places places (last_site places 1 rules) in
    let levels = have-levels places rules count 1 1 rules (omega (arith, long)) (λ i l. refl) in
    let ls = edges_of_lets f.rules count (given_file f) f.lets in
    let rs = edges_of_rules f.rules count (given_file f) f.rules in
    no-name-cycle level count f refl
    (down-append level count ls (rs ++ []) (lets-down places level count f.rules (given_file f) 1 1 rules levels)
    (down-append level count rs [] (rules-down places level count f.rules (given_file f) 1 1 rules levels (all-given places rules few)) tt))
