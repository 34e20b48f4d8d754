-- Lines of the rows of steps: what they cite is one, and so is what they say.
use Rattle.std.proofs.Common.{◌≡◌, ◌<◌, ◌≤◌, ◌-◌, ◌+◌, ℕ, zero, suc, Bool, true, false, refl, ap, sym, ◌∙◌, subst, arith, get_or, take, drop, List, [], ◌∷◌, ◌++◌, length, Option, Some, None, MatchBool, MatchOption}
use Rattle.std.specs.List.{flat_map}
use Rattle.std.specs.Option.{option_map_or}
use Rattle.std.specs.Prelude.{is_some, not, option_and_then, option_map}
use Rattle.std.proofs.lemmas.Bool.{true≢false}
use Rattle.std.proofs.lemmas.List.{take_all}
use Rattle.evidence_lines.specs.declared.line.Line.{Line}
use Rattle.guard_syntax.specs.Syntax.{Conds, Expr, File, Query, Step, this, var, key, index, every, items, splice, filter, keys, with_expr, no_expr}
use Rattle.guard_syntax.specs.Named.{Named}
use Rattle.guard_syntax.specs.declared.row.Ref.{Ref}
use Rattle.guard_syntax.specs.declared.row.Row.{Row}
use Rattle.guard_syntax.specs.declared.row.Verdict.{Verdict}
use Rattle.guard_syntax.specs.declared.syntax.Op.{Op}
use Rattle.rule_names.specs.Pieces.{OfStep, Piece, piece_at}
use Rattle.rule_meaning.specs.Keys.{captured_row}
use Rattle.rule_meaning.specs.StoreModel.{StoreModel}
use Rattle.evidence_rules.specs.CitedLines.{GivesExpr, GivesStep, GivesVariable, value_of}
use Rattle.evidence_rules.specs.Follows.{FollowsCapture, FollowsFilter, FollowsStep, GivesBefore, GivesFurther, GivesRight, HasValue, IsLater, SayEach, SaysCandidate}
use Rattle.rule_meaning.specs.Places.{IsStartAt, Placed, candidates_at, is_after_key, placed_in, placed_of, rows_at_step, step_in, steps_in}
use Rattle.evidence_rows.specs.code.OneCite.{GivesAlone}
use Rattle.evidence_rows.proofs.StepsSeen.{NamesNothing}
use Rattle.evidence_rows.proofs.OneGiven.{one-of-expr, one-of-variable, one-rows, one-there, one-verdict}

-- rows that are given by something, if by any
abbrev pub AreGiven : (List Row → Type 0) → Option (List Row) → Type 0
AreGiven Gives r = MatchOption r ((rows : List Row) → Gives rows → ⊥) Gives

-- rows follow, or not
abbrev pub IsJudgedSo : Bool → Type 0 → Type 0
IsJudgedSo b Follows = MatchBool b Follows (Follows → ⊥)

-- where the rows that follow are those that are due
pub judged : (b : Bool) (rows due : List Row) (Follows : Type 0) → (rows ≡ due → Follows) → (Follows → rows ≡ due) → IsJudgedSo b (rows ≡ due) → IsJudgedSo b Follows
judged true rows due Follows here back is = here is
judged false rows due Follows here back isnt = λ follows. isnt (back follows)

-- rows that were found to be the same are
pub rows-same : (b : Bool) (rows due : List Row) → IsJudgedSo b (rows ≡ due) → b ≡ true → rows ≡ due
rows-same true rows due same holds = same
rows-same false rows due never holds = absurd (true≢false (sym holds))

pub none-given : {A : Type 0} (r : Option A) (P : Type 0) (Q : A → Type 0) → r ≡ None → P → MatchOption r P Q
none-given r P Q is p = subst (λ (o : Option _). MatchOption o P Q) (sym is) p

pub none-taken : {A : Type 0} (r : Option A) (P : Type 0) (Q : A → Type 0) → r ≡ None → MatchOption r P Q → P
none-taken r P Q is m = subst (λ (o : Option _). MatchOption o P Q) is m

pub some-taken : {A : Type 0} (r : Option A) (x : A) (P : Type 0) (Q : A → Type 0) → r ≡ Some x → MatchOption r P Q → Q x
some-taken r x P Q is m = subst (λ (o : Option _). MatchOption o P Q) is m

-- no filter stands at the start of a query
pub never-start : (i : ℕ) (Follows : Type 0) → i ≡ 0 → IsLater i × Follows → ⊥
never-start zero Follows is both = both.0
never-start (suc i) Follows is both = absurd (omega (arith, is))

pub never-later : (i : ℕ) (Follows : Type 0) → (Follows → ⊥) → IsLater i × Follows → ⊥
never-later i Follows never both = never both.1

-- behind the start it is judged by what follows
pub later-judged : (i : ℕ) (b : Bool) (Follows : Type 0) → (i ≡ 0 → ⊥) → IsJudgedSo b Follows → IsJudgedSo b (IsLater i × Follows)
later-judged zero b Follows later judges = absurd (later refl)
later-judged (suc i) true Follows later follows = (tt, follows)
later-judged (suc i) false Follows later never = λ both. never both.1

-- the first of some numbers
pub first-of : (cites : List ℕ) → 1 ≤ length cites → cites ≡ (get_or cites 0 0 ∷ []) ++ take (length cites - 1) (drop 1 cites)
first-of [] some = absurd (omega arith)
first-of (c ∷ cites) some =
    let less : suc (length cites) - 1 ≡ length cites = omega arith in
    ap (λ (cs : List ℕ). c ∷ cs) (sym (ap (λ (n : ℕ). take n cites) less ∙ take_all (length cites) cites (omega arith)))

pub no-cites : (cites : List ℕ) → length cites < 1 → cites ≡ []
no-cites [] none = refl
no-cites (c ∷ cites) none = absurd (omega arith)

pub one-cite : (cites : List ℕ) → 1 ≤ length cites → length cites < 2 → cites ≡ get_or cites 0 0 ∷ []
one-cite [] least most = absurd (omega arith)
one-cite (c ∷ []) least most = refl
one-cite (c ∷ d ∷ cites) least most = absurd (omega arith)

-- one line for each value
module _ (known : StoreModel) (lines : List Line) (Says : Ref → ℕ → Verdict → Type 0) where
  pub said-each : (vs : List Ref) (cs : List ℕ) (ws : List Verdict) → SayEach known lines Says vs cs ws → (length vs ≡ length cs) × (length ws ≡ length vs)
  said-each [] [] [] all = (refl, refl)
  said-each (v ∷ vs) (c ∷ cs) (w ∷ ws) all = let rest = said-each vs cs ws all.1 in (ap suc rest.0, ap suc rest.1)
  said-each vs cs ws all = absurd all

  pub said-at : (vs : List Ref) (cs : List ℕ) (ws : List Verdict) (i : ℕ) (v d : Ref) → i < length vs → v ≡ get_or vs i d → SayEach known lines Says vs cs ws → (w : Verdict) × Says v (get_or cs i 0) w
  said-at (x ∷ vs) (c ∷ cs) (w ∷ ws) zero v d within is all = (w, subst (λ (r : Ref). Says r c w) (sym is) all.0)
  said-at (x ∷ vs) (c ∷ cs) (w ∷ ws) (suc i) v d within is all = said-at vs cs ws i v d (omega arith) is all.1
  said-at [] cs ws i v d within is all = absurd (omega arith)
  said-at vs cs ws i v d within is all = absurd all

  pub said-more : (vs : List Ref) (cs : List ℕ) (ws more : List Verdict) (i : ℕ) (v d : Ref) (w : Verdict) → i < length vs → length vs ≡ length cs → v ≡ get_or vs i d → more ≡ ws ++ w ∷ []
      → SayEach known lines Says (take i vs) (take i cs) ws → Says v (get_or cs i 0) w → SayEach known lines Says (take (i + 1) vs) (take (i + 1) cs) more
  said-more vs cs ws more i v d w within long is put all here =
      let next : suc i ≡ i + 1 = omega arith in
      subst (λ (n : ℕ). SayEach known lines Says (take n vs) (take n cs) more) next
      (subst (λ (us : List Verdict). SayEach known lines Says (take (suc i) vs) (take (suc i) cs) us) (sym put) (behind vs cs ws i within long is all here))
    where
      behind : (xs : List Ref) (ns : List ℕ) (us : List Verdict) (k : ℕ) → k < length xs → length xs ≡ length ns → v ≡ get_or xs k d
          → SayEach known lines Says (take k xs) (take k ns) us → Says v (get_or ns k 0) w → SayEach known lines Says (take (suc k) xs) (take (suc k) ns) (us ++ w ∷ [])
      behind [] ns us k inside even same each last = absurd (omega arith)
      behind (x ∷ xs) [] us k inside even same each last = absurd (omega arith)
      behind (x ∷ xs) (n ∷ ns) [] zero inside even same each last = (subst (λ (r : Ref). Says r n w) same last, tt)
      behind (x ∷ xs) (n ∷ ns) (u ∷ us) zero inside even same each last = absurd each
      behind (x ∷ xs) (n ∷ ns) [] (suc k) inside even same each last = absurd each
      behind (x ∷ xs) (n ∷ ns) (u ∷ us) (suc k) inside even same each last = (each.0, behind xs ns us k (omega arith) (omega arith) same each.1 last)

  pub said-all : (vs : List Ref) (cs : List ℕ) (ws : List Verdict) (i : ℕ) → length vs ≤ i → length vs ≡ length cs → SayEach known lines Says (take i vs) (take i cs) ws → SayEach known lines Says vs cs ws
  said-all vs cs ws i past long all =
      subst (λ (ns : List ℕ). SayEach known lines Says vs ns ws) (take_all i cs (omega (arith, past, long))) (subst (λ (xs : List Ref). SayEach known lines Says xs (take i cs) ws) (take_all i vs past) all)

-- the step and what is before it
module _ (known : StoreModel) (lines : List Line) (frame : ℕ) where
  -- ---- what a step names further

  -- one line gives what is named, if any
  var-alone : (n : ℕ) (name : List ℕ) (cites : List ℕ) (r : Option (List Row)) → AreGiven (GivesAlone (GivesVariable known.file lines frame n) cites) r → AreGiven (GivesFurther known lines frame (var n name) cites) r
  var-alone n name [] r given = given
  var-alone n name (c ∷ []) r given = given
  var-alone n name (c ∷ d ∷ cs) r given = given

  splice-alone : (n : ℕ) (name : Named) (cites : List ℕ) (r : Option (List Row)) → AreGiven (GivesAlone (GivesVariable known.file lines frame n) cites) r → AreGiven (GivesFurther known lines frame (splice n name) cites) r
  splice-alone n name [] r given = given
  splice-alone n name (c ∷ []) r given = given
  splice-alone n name (c ∷ d ∷ cs) r given = given

  keys-alone : (n : ℕ) (capture : Option Named) (op : Op) (negated : Bool) (right : Expr) (cites : List ℕ) (r : Option (List Row))
      → AreGiven (GivesAlone (GivesExpr known.file lines frame right) cites) r → AreGiven (GivesFurther known lines frame (keys n capture op negated right) cites) r
  keys-alone n capture op negated right [] r given = given
  keys-alone n capture op negated right (c ∷ []) r given = given
  keys-alone n capture op negated right (c ∷ d ∷ cs) r given = given

  pub var-further : (s : Step) (n : ℕ) (name : List ℕ) (cites : List ℕ) (r : Option (List Row)) → s ≡ var n name
      → AreGiven (GivesAlone (GivesVariable known.file lines frame n) cites) r → AreGiven (GivesFurther known lines frame s cites) r
  var-further s n name cites r is given = subst (λ (t : Step). AreGiven (GivesFurther known lines frame t cites) r) (sym is) (var-alone n name cites r given)

  pub splice-further : (s : Step) (n : ℕ) (name : Named) (cites : List ℕ) (r : Option (List Row)) → s ≡ splice n name
      → AreGiven (GivesAlone (GivesVariable known.file lines frame n) cites) r → AreGiven (GivesFurther known lines frame s cites) r
  splice-further s n name cites r is given = subst (λ (t : Step). AreGiven (GivesFurther known lines frame t cites) r) (sym is) (splice-alone n name cites r given)

  pub keys-further : (s : Step) (n : ℕ) (capture : Option Named) (op : Op) (negated : Bool) (right : Expr) (cites : List ℕ) (r : Option (List Row)) → s ≡ keys n capture op negated right
      → AreGiven (GivesAlone (GivesExpr known.file lines frame right) cites) r → AreGiven (GivesFurther known lines frame s cites) r
  keys-further s n capture op negated right cites r is given =
      subst (λ (t : Step). AreGiven (GivesFurther known lines frame t cites) r) (sym is) (keys-alone n capture op negated right cites r given)

  pub filter-further : (s : Step) (n : ℕ) (capture : Option Named) (conditions : Conds) → s ≡ filter n capture conditions → (cites : List ℕ) (rows : List Row) → GivesFurther known lines frame s cites rows → ⊥
  filter-further s n capture conditions is cites rows g = subst (λ (t : Step). GivesFurther known lines frame t cites rows) is g

  pub nothing-further : (s : Step) (cites : List ℕ) → NamesNothing s → cites ≡ [] → GivesFurther known lines frame s cites []
  nothing-further (this n) cites names none = (none, refl)
  nothing-further (key n name) cites names none = (none, refl)
  nothing-further (index n i) cites names none = (none, refl)
  nothing-further (every n) cites names none = (none, refl)
  nothing-further (items n) cites names none = (none, refl)
  nothing-further s cites names none = absurd names

  pub further-nothing : (s : Step) (cites : List ℕ) (rows : List Row) → NamesNothing s → GivesFurther known lines frame s cites rows → cites ≡ []
  further-nothing (this n) cites rows names g = g.0
  further-nothing (key n name) cites rows names g = g.0
  further-nothing (index n i) cites rows names g = g.0
  further-nothing (every n) cites rows names g = g.0
  further-nothing (items n) cites rows names g = g.0
  further-nothing s cites rows names g = absurd names

  pub one-further : (s : Step) (cites : List ℕ) (a b : List Row) → GivesFurther known lines frame s cites a → GivesFurther known lines frame s cites b → a ≡ b
  one-further (var n name) (c ∷ []) a b x y = one-of-variable known.file lines frame n c a b x y
  one-further (splice n name) (c ∷ []) a b x y = one-of-variable known.file lines frame n c a b x y
  one-further (keys n capture op negated right) (c ∷ []) a b x y = one-of-expr known.file lines frame right c a b x y
  one-further (this n) cites a b x y = x.1 ∙ sym y.1
  one-further (key n name) cites a b x y = x.1 ∙ sym y.1
  one-further (index n i) cites a b x y = x.1 ∙ sym y.1
  one-further (every n) cites a b x y = x.1 ∙ sym y.1
  one-further (items n) cites a b x y = x.1 ∙ sym y.1
  one-further s cites a b x y = absurd x

  -- ---- the right side of a test

  pub right-alone : (right : Expr) (cites : List ℕ) (r : Option (List Row)) → AreGiven (GivesAlone (GivesExpr known.file lines frame right) cites) r → AreGiven (GivesRight known lines frame (with_expr right) cites) r
  right-alone right [] r given = given
  right-alone right (c ∷ []) r given = given
  right-alone right (c ∷ d ∷ cs) r given = given

  -- ---- captured keys

  pub capture-lacks : (s : Step) (c : ℕ) (cites : List ℕ) (rows : List Row) → cites ≡ c ∷ [] → ((kept : List Row) → GivesStep known.file lines frame s c kept → ⊥) → FollowsCapture known lines frame s cites rows → ⊥
  capture-lacks s c cites rows one never h = let alone = subst (λ (cs : List ℕ). FollowsCapture known lines frame s cs rows) one h in never alone.0 alone.1

  pub capture-due : (s : Step) (c : ℕ) (cites : List ℕ) (kept rows due : List Row) (b : Bool) → cites ≡ c ∷ [] → GivesStep known.file lines frame s c kept → due ≡ flat_map (captured_row known) kept
      → IsJudgedSo b (rows ≡ due) → IsJudgedSo b (FollowsCapture known lines frame s cites rows)
  capture-due s c cites kept rows due b one gives is same =
      subst (λ (cs : List ℕ). IsJudgedSo b (FollowsCapture known lines frame s cs rows)) (sym one)
      (judged b rows due (FollowsCapture known lines frame s (c ∷ []) rows) (λ e. (kept, gives, e ∙ is))
      (λ h. h.2 ∙ ap (flat_map (captured_row known)) (one-rows lines c _ _ _ _ _ _ h.0 kept h.1 gives) ∙ sym is) same)

  -- ---- the step before

  module _ (q : Query) where
    -- so many lines are cited for it
    cut : (first more last others : List ℕ) (i : ℕ) (a b : List Row) → GivesBefore known lines frame q i first a → GivesBefore known lines frame q i more b → first ++ last ≡ more ++ others
        → (first ≡ more) × (last ≡ others)
    cut first more last others zero a b x y same =
        let one : first ≡ [] = x.0 in let other : more ≡ [] = y.0 in
        (one ∙ sym other, sym (ap (λ (cs : List ℕ). cs ++ last) one) ∙ same ∙ ap (λ (cs : List ℕ). cs ++ others) other)
    cut (c ∷ []) (d ∷ []) last others (suc i) a b x y same = let e : (c ∷ last) ≡ (d ∷ others) = same in let heads : c ≡ d = cc in (ap (λ (n : ℕ). n ∷ []) heads, cc)
    cut [] more last others (suc i) a b x y same = absurd x
    cut (c ∷ e ∷ first) more last others (suc i) a b x y same = absurd x
    cut (c ∷ []) [] last others (suc i) a b x y same = absurd y
    cut (c ∷ []) (d ∷ e ∷ more) last others (suc i) a b x y same = absurd y

    rows-one : (first : List ℕ) (i : ℕ) (a b : List Row) → GivesBefore known lines frame q i first a → GivesBefore known lines frame q i first b → a ≡ b
    rows-one first zero a b x y = x.1 ∙ sym y.1
    rows-one (c ∷ []) (suc i) a b x y = one-rows lines c _ _ _ _ _ _ a b x.2 y.2
    rows-one first (suc i) a b x y = absurd x

    pub one-before : (first more last others : List ℕ) (i : ℕ) (a b : List Row) → GivesBefore known lines frame q i first a → GivesBefore known lines frame q i more b → first ++ last ≡ more ++ others
        → (last ≡ others) × (a ≡ b)
    one-before first more last others i a b x y same =
        let parts = cut first more last others i a b x y same in
        (parts.1, rows-one first i a b x (subst (λ (cs : List ℕ). GivesBefore known lines frame q i cs b) (sym parts.0) y))

    pub before-given : (i j c : ℕ) (s : Step) (rows : List Row) → i ≡ suc j → step_in (steps_in q) j ≡ Some s → GivesStep known.file lines frame s c rows → GivesBefore known lines frame q i (c ∷ []) rows
    before-given i j c s rows more there gives = subst (λ (n : ℕ). GivesBefore known lines frame q n (c ∷ []) rows) (sym more) (s, there, gives)

    -- none is given where there is no step before, no line is cited, or the line does not give its rows
    before-parts : (i j c : ℕ) (rest first last : List ℕ) (rows : List Row) → i ≡ suc j → c ∷ rest ≡ first ++ last → GivesBefore known lines frame q i first rows
        → (s : Step) × (step_in (steps_in q) j ≡ Some s) × GivesStep known.file lines frame s c rows
    before-parts i j c rest first last rows more same g = by first (subst (λ (n : ℕ). GivesBefore known lines frame q n first rows) more g) same
      where
        by : (cs : List ℕ) → GivesBefore known lines frame q (suc j) cs rows → c ∷ rest ≡ cs ++ last → (s : Step) × (step_in (steps_in q) j ≡ Some s) × GivesStep known.file lines frame s c rows
        by (d ∷ []) h e = let heads : d ≡ c = cc in (h.0, h.1, subst (λ (n : ℕ). GivesStep known.file lines frame h.0 n rows) heads h.2)
        by cs h e = absurd h

    pub no-step-before : (i j c : ℕ) (rest first last : List ℕ) (rows : List Row) → i ≡ suc j → c ∷ rest ≡ first ++ last → step_in (steps_in q) j ≡ None → GivesBefore known lines frame q i first rows → ⊥
    no-step-before i j c rest first last rows more same none g = let parts = before-parts i j c rest first last rows more same g in let wrong : None ≡ Some parts.0 = sym none ∙ parts.1 in absurd cc

    pub no-rows-before : (i j c : ℕ) (rest first last : List ℕ) (rows : List Row) (s : Step) → i ≡ suc j → c ∷ rest ≡ first ++ last → step_in (steps_in q) j ≡ Some s
        → ((given : List Row) → GivesStep known.file lines frame s c given → ⊥) → GivesBefore known lines frame q i first rows → ⊥
    no-rows-before i j c rest first last rows s more same there never g =
        let parts = before-parts i j c rest first last rows more same g in
        never rows (subst (λ (t : Step). GivesStep known.file lines frame t c rows) (one-there (step_in (steps_in q) j) parts.0 s parts.1 there) parts.2)

    -- a start has none
    no-start : (i : ℕ) → option_map_or (λ (at : Placed). at.first) (placed_in (steps_in q) (suc i)) false ≡ false
    no-start i = by (step_in (steps_in q) (suc i))
      where
        by : (o : Option Step)
            → option_map_or (λ (at : Placed). at.first)
            (option_map (λ (s : Step). record { step = s; first = false; last = not (is_some (step_in (steps_in q) (suc (suc i)))); after_key = is_after_key (steps_in q) (suc i) }) o) false ≡ false
        by None = refl
        by (Some s) = refl

    pub start-bare : (f : File) (site i : ℕ) (first : List ℕ) (rows : List Row) → piece_at f site ≡ Some (OfStep q i) → GivesBefore known lines frame q i first rows → IsStartAt f site → rows ≡ []
    start-bare f site zero first rows there g start = g.1
    start-bare f site (suc i) first rows there g start =
        absurd (true≢false (sym start ∙ ap (λ (p : Option Piece). option_map_or (λ (at : Placed). at.first) (option_and_then placed_of p) false) there ∙ no-start i))

    -- ---- the rows that are due

    module _ (site i : ℕ) (current : Ref) (first last cites : List ℕ) (before : List Row) (has : HasValue known lines frame current) (parts : cites ≡ first ++ last)
        (behind : GivesBefore known lines frame q i first before) where
      pub step-due : (s : Step) (further rows due : List Row) (b : Bool) → GivesFurther known lines frame s last further → due ≡ rows_at_step known site current before further []
          → IsJudgedSo b (rows ≡ due) → IsJudgedSo b (FollowsStep known lines frame site q i s cites rows)
      step-due s further rows due b given is =
          judged b rows due (FollowsStep known lines frame site q i s cites rows) (λ e. (current, first, last, before, further, has, parts, behind, given, e ∙ is)) back
        where
          back : FollowsStep known lines frame site q i s cites rows → rows ≡ due
          back h =
              let same = one-before first h.1 last h.2 i before h.3 behind h.7 (sym parts ∙ h.6) in
              let value : h.0 ≡ current = one-there (value_of lines frame) h.0 current h.5 has in
              let more : h.4 ≡ further = one-further s last h.4 further (subst (λ (cs : List ℕ). GivesFurther known lines frame s cs h.4) (sym same.0) h.8) given in
              h.9 ∙ ap (λ (v : Ref). rows_at_step known site v h.3 h.4 []) value ∙ ap (λ (rs : List Row). rows_at_step known site current rs h.4 []) (sym same.1)
              ∙ ap (λ (rs : List Row). rows_at_step known site current before rs []) more ∙ sym is

      -- without what it names further
      pub step-lacks : (s : Step) (rows : List Row) → ((further : List Row) → GivesFurther known lines frame s last further → ⊥) → FollowsStep known lines frame site q i s cites rows → ⊥
      step-lacks s rows never h =
          let same = one-before first h.1 last h.2 i before h.3 behind h.7 (sym parts ∙ h.6) in
          never h.4 (subst (λ (cs : List ℕ). GivesFurther known lines frame s cs h.4) (sym same.0) h.8)

      -- each verdict is one
      one-said : (conditions : Conds) (vs : List Ref) (cs : List ℕ) (a b : List Verdict) → SayEach known lines (SaysCandidate known lines frame site conditions) vs cs a
          → SayEach known lines (SaysCandidate known lines frame site conditions) vs cs b → a ≡ b
      one-said conditions [] [] [] [] x y = refl
      one-said conditions (v ∷ vs) (c ∷ cs) (w ∷ ws) (u ∷ us) x y =
          let heads : w ≡ u = one-verdict lines c _ _ _ _ _ _ w u x.0.2 y.0.2 in
          let tails : ws ≡ us = one-said conditions vs cs ws us x.1 y.1 in
          cc
      one-said conditions [] [] [] (u ∷ us) x y = absurd y
      one-said conditions (v ∷ vs) (c ∷ cs) (w ∷ ws) [] x y = absurd y
      one-said conditions vs cs a b x y = absurd x

      pub filter-due : (conditions : Conds) (tried : List Ref) (verdicts : List Verdict) (rows due : List Row) (b : Bool) → tried ≡ candidates_at known site before
          → SayEach known lines (SaysCandidate known lines frame site conditions) tried last verdicts → due ≡ rows_at_step known site current before [] verdicts
          → IsJudgedSo b (rows ≡ due) → IsJudgedSo b (FollowsFilter known lines frame site q i conditions cites rows)
      filter-due conditions tried verdicts rows due b values said is =
          let there : SayEach known lines (SaysCandidate known lines frame site conditions) (candidates_at known site before) last verdicts =
          subst (λ (vs : List Ref). SayEach known lines (SaysCandidate known lines frame site conditions) vs last verdicts) values said in
          judged b rows due (FollowsFilter known lines frame site q i conditions cites rows) (λ e. (current, first, last, before, verdicts, has, parts, behind, there, e ∙ is)) (back there)
        where
          back : SayEach known lines (SaysCandidate known lines frame site conditions) (candidates_at known site before) last verdicts
              → FollowsFilter known lines frame site q i conditions cites rows → rows ≡ due
          back there h =
              let same = one-before first h.1 last h.2 i before h.3 behind h.7 (sym parts ∙ h.6) in
              let value : h.0 ≡ current = one-there (value_of lines frame) h.0 current h.5 has in
              let also : SayEach known lines (SaysCandidate known lines frame site conditions) (candidates_at known site before) last h.4 =
              subst (λ (rs : List Row). SayEach known lines (SaysCandidate known lines frame site conditions) (candidates_at known site rs) last h.4) (sym same.1)
              (subst (λ (cs : List ℕ). SayEach known lines (SaysCandidate known lines frame site conditions) (candidates_at known site h.3) cs h.4) (sym same.0) h.8) in
              let more : h.4 ≡ verdicts = one-said conditions (candidates_at known site before) last h.4 verdicts also there in
              h.9 ∙ ap (λ (v : Ref). rows_at_step known site v h.3 [] h.4) value ∙ ap (λ (rs : List Row). rows_at_step known site current rs [] h.4) (sym same.1)
              ∙ ap (λ (ws : List Verdict). rows_at_step known site current before [] ws) more ∙ sym is

      pub filter-lacks : (conditions : Conds) (tried : List Ref) (rows : List Row) → tried ≡ candidates_at known site before
          → ((verdicts : List Verdict) → SayEach known lines (SaysCandidate known lines frame site conditions) tried last verdicts → ⊥) → FollowsFilter known lines frame site q i conditions cites rows → ⊥
      filter-lacks conditions tried rows values never h =
          let same = one-before first h.1 last h.2 i before h.3 behind h.7 (sym parts ∙ h.6) in
          never h.4 (subst (λ (vs : List Ref). SayEach known lines (SaysCandidate known lines frame site conditions) vs last h.4) (sym values)
          (subst (λ (rs : List Row). SayEach known lines (SaysCandidate known lines frame site conditions) (candidates_at known site rs) last h.4) (sym same.1)
          (subst (λ (cs : List ℕ). SayEach known lines (SaysCandidate known lines frame site conditions) (candidates_at known site h.3) cs h.4) (sym same.0) h.8)))

-- ---- cites that are too few or too many

module _ (known : StoreModel) (lines : List Line) (frame : ℕ) where
  pub capture-uncited : (step : Step) (cites : List ℕ) (rows : List Row) → length cites < 1 → FollowsCapture known lines frame step cites rows → ⊥
  capture-uncited step [] rows short h = h
  capture-uncited step (c ∷ cites) rows short h = absurd (omega (arith, short))

  pub capture-many : (step : Step) (cites : List ℕ) (rows : List Row) → 2 ≤ length cites → FollowsCapture known lines frame step cites rows → ⊥
  capture-many step [] rows many h = h
  capture-many step (c ∷ []) rows many h = absurd (omega (arith, many))
  capture-many step (c ∷ d ∷ cites) rows many h = h

  pub uncited-before : (q : Query) (i : ℕ) (cites first last : List ℕ) (rows : List Row) → (i ≡ 0 → ⊥) → length cites < 1 → cites ≡ first ++ last → GivesBefore known lines frame q i first rows → ⊥
  uncited-before q zero cites first last rows later short parts h = later refl
  uncited-before q (suc i) cites [] last rows later short parts h = h
  uncited-before q (suc i) cites (c ∷ first) last rows later short parts h =
      let long : length cites ≡ suc (length (first ++ last)) = ap length parts in
      absurd (omega (arith, short, long))

  -- of the right side of a test that has none
  pub right-bare : (cites : List ℕ) → length cites < 1 → GivesRight known lines frame no_expr cites []
  right-bare [] short = refl
  right-bare (c ∷ cites) short = absurd (omega (arith, short))

  pub right-cited : (cites : List ℕ) → 1 ≤ length cites → (rows : List Row) → GivesRight known lines frame no_expr cites rows → ⊥
  right-cited [] many rows h = absurd (omega (arith, many))
  right-cited (c ∷ cites) many rows h = h
