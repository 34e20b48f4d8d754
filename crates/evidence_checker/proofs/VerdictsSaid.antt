-- Verdicts that cited lines say, one line for each part, and what they are together.
use Rattle.std.proofs.Common.{◌≡◌, ℕ, ◌+◌, ◌<◌, ◌≤◌, Bool, true, false, List, [], ◌∷◌, length, map, drop, get_or, refl, ap, ap₂, sym, subst, ◌∙◌, arith, Option, Some, None, MatchBool, MatchOption}
use Rattle.std.proofs.lemmas.List.{drop_more, drop_all}
use Rattle.evidence_lines.specs.declared.line.Line.{Line}
use Rattle.evidence_lines.specs.Lines.{line_of}
use Rattle.evidence_lines.specs.declared.line.LineKind.{LineKind}
use Rattle.evidence_lines.specs.declared.line.LineKind.TheVariants as kind
use Rattle.evidence_lines.specs.declared.line.Outcome.TheVariants as says
use Rattle.guard_syntax.specs.Syntax as sx
use Rattle.guard_syntax.specs.code.Seen.{disj_list, part_list, see_disj, see_part}
use Rattle.guard_syntax.specs.declared.row.Verdict.{Verdict}
use Rattle.guard_syntax.specs.declared.row.Verdict.TheVariants.{Pass, Fail, Skip}
use Rattle.guard_syntax.specs.declared.syntax.Disj.{Disj}
use Rattle.guard_syntax.specs.declared.syntax.Part.{Part}
use Rattle.rule_names.specs.ReferenceGraph.{part_site}
use Rattle.rule_names.proofs.Shapes.{disj-seen}
use Rattle.rule_meaning.specs.StoreModel.{StoreModel}
use Rattle.evidence_rules.specs.CitedLines.{IsLine}
use Rattle.evidence_rules.specs.Follows.{Behind, FollowsConj, FollowsDisj, FollowsLoose, SayDisjs, SayParts, SaysVerdict, is_stop, kind_of_part}
use Rattle.rule_meaning.specs.Verdicts.{conjunction, disjunction}

-- verdicts of all, and of those that are left behind the ones that are this verdict together
pub record IsFolded (fold : List Verdict → Verdict) (Whole Rest : List Verdict → Type 0) (so_far : Verdict) : Type 0 where
  pub on : (vs : List Verdict) → Rest vs → (ws : List Verdict) × Whole ws × (fold ws ≡ fold (so_far ∷ vs))
  pub off : (ws : List Verdict) → Whole ws → (vs : List Verdict) × Rest vs

-- one part in front of others: a cited line says its verdict, and behind one that decides no others are cited
pub record IsNext (stop : Option Verdict) (Rest : List ℕ → List Verdict → Type 0) (Says : ℕ → Verdict → Type 0) (Next : List ℕ → List Verdict → Type 0) : Type 0 where
  pub more : (c : ℕ) (cs : List ℕ) (w : Verdict) (ws : List Verdict) → Says c w → Behind (is_stop stop w) [] Next cs ws → Rest (c ∷ cs) (w ∷ ws)
  pub split : (c : ℕ) (cs : List ℕ) (vs : List Verdict) → Rest (c ∷ cs) vs → (w : Verdict) × (ws : List Verdict) × Says c w × Behind (is_stop stop w) [] Next cs ws
  pub none : (vs : List Verdict) → Rest [] vs → ⊥
  pub once : (c : ℕ) (w x : Verdict) → Says c w → Says c x → w ≡ x

-- no part is left
pub record IsLast (Rest : List ℕ → List Verdict → Type 0) : Type 0 where
  pub end : Rest [] []
  pub none : (c : ℕ) (cs : List ℕ) (vs : List Verdict) → Rest (c ∷ cs) vs → ⊥

-- what is answered: a verdict that all are together, or that there are no such verdicts
abbrev pub IsFold : (fold : List Verdict → Verdict) → (Whole : List Verdict → Type 0) → Option Verdict → Type 0
IsFold fold Whole r = MatchOption r ((ws : List Verdict) → Whole ws → ⊥) (λ v. (ws : List Verdict) × Whole ws × (v ≡ fold ws))

-- a verdict where no cite is left
abbrev pub IsAtEnd : (left : List ℕ) → Verdict → Option Verdict → Type 0
IsAtEnd left verdict r = MatchOption r (left ≡ [] → ⊥) (λ said. (left ≡ []) × (said ≡ verdict))

module _ (fold : List Verdict → Verdict) (Whole : List Verdict → Type 0) where
  pub folded-first : ((vs : List Verdict) → fold vs ≡ fold (Skip ∷ vs)) → IsFolded fold Whole Whole Skip
  folded-first first = record { on = λ vs r. (vs, r, first vs); off = λ ws w. (ws, w) }

  module _ (Rest : List ℕ → List Verdict → Type 0) (left : List ℕ) (so_far : Verdict) (h : IsFolded fold Whole (Rest left) so_far) where
    module _ (stop : Option Verdict) (Says : ℕ → Verdict → Type 0) (Next : List ℕ → List Verdict → Type 0) (next : IsNext stop Rest Says Next) where
      module _ (c : ℕ) (cs : List ℕ) (are : left ≡ c ∷ cs) where
        -- verdicts of all part at the first line
        abbrev Parted : List Verdict → Type 0
        Parted ws = (w : Verdict) × (vs : List Verdict) × Says c w × Behind (is_stop stop w) [] Next cs vs

        part : (ws : List Verdict) → Whole ws → Parted ws
        part ws whole = let old = h.off ws whole in next.split c cs old.0 (subst (λ (l : List ℕ). Rest l old.0) are old.1)

        module _ (w new : Verdict) (said : Says c w) (is : new ≡ fold (so_far ∷ w ∷ [])) where
          behind-said : (b : Bool) → is_stop stop w ≡ b → (ws : List Verdict) → Whole ws → (vs : List Verdict) × Behind b [] Next cs vs
          behind-said b stops ws whole =
              let parts = part ws whole in
              let same : parts.0 ≡ w = next.once c parts.0 w parts.2 said in
              (parts.1, subst (λ (x : Bool). Behind x [] Next cs parts.1) (ap (is_stop stop) same ∙ stops) parts.3)

          with-said : (b : Bool) → is_stop stop w ≡ b → (vs : List Verdict) → Behind b [] Next cs vs → (ws : List Verdict) × Whole ws × (fold ws ≡ fold (so_far ∷ w ∷ vs))
          with-said b stops vs behind =
              h.on (w ∷ vs)
              (subst (λ (l : List ℕ). Rest l (w ∷ vs)) (sym are) (next.more c cs w vs said (subst (λ (x : Bool). Behind x [] Next cs vs) (sym stops) behind)))

          -- one part more, which does not decide
          pub folded-next : is_stop stop w ≡ false → ((a b : Verdict) (vs : List Verdict) → fold (a ∷ b ∷ vs) ≡ fold (fold (a ∷ b ∷ []) ∷ vs)) → IsFolded fold Whole (Next cs) new
          folded-next goes two = record {
            on = λ vs r.
                let old = with-said false goes vs r in
                (old.0, old.1, old.2 ∙ two so_far w vs ∙ ap (λ (v : Verdict). fold (v ∷ vs)) (sym is));
            off = behind-said false goes;
          }

          -- one that decides is the last
          pub folded-stop : is_stop stop w ≡ true → (r : Option Verdict) → IsAtEnd cs new r → IsFold fold Whole r
          folded-stop stops None never = λ ws whole. let behind = behind-said true stops ws whole in never behind.1.0
          folded-stop stops (Some v) (none, said_is) =
              let old = with-said true stops [] (none, refl) in
              (old.0, old.1, said_is ∙ is ∙ sym old.2)

        -- or it says no verdict of it
        pub folded-unsaid : ((w : Verdict) → Says c w → ⊥) → (ws : List Verdict) → Whole ws → ⊥
        folded-unsaid unsaid ws whole = let parts = part ws whole in unsaid parts.0 parts.2

      -- no line is cited for a part
      pub folded-uncited : left ≡ [] → (ws : List Verdict) → Whole ws → ⊥
      folded-uncited are ws whole =
          let old = h.off ws whole in
          next.none old.0 (subst (λ (l : List ℕ). Rest l old.0) are old.1)

    over : (l : List ℕ) → left ≡ l → (l ≡ [] → ⊥) → IsLast Rest → (ws : List Verdict) → Whole ws → ⊥
    over [] are some last ws whole = absurd (some refl)
    over (c ∷ cs) are some last ws whole =
        let old = h.off ws whole in
        last.none c cs old.0 (subst (λ (l : List ℕ). Rest l old.0) are old.1)

    -- behind the last part
    pub folded-last : IsLast Rest → ((v : Verdict) → fold (v ∷ []) ≡ v) → (r : Option Verdict) → IsAtEnd left so_far r → IsFold fold Whole r
    folded-last last one None some = over left refl some last
    folded-last last one (Some v) (none, said_is) =
        let old = h.on [] (subst (λ (l : List ℕ). Rest l []) (sym none) last.end) in
        (old.0, old.1, said_is ∙ sym (old.2 ∙ one so_far))

-- ---- conjunctions and disjunctions

pub conjunction-first : (vs : List Verdict) → conjunction vs ≡ conjunction (Skip ∷ vs)
conjunction-first vs = refl

pub conjunction-one : (v : Verdict) → conjunction (v ∷ []) ≡ v
conjunction-one Pass = refl
conjunction-one Fail = refl
conjunction-one Skip = refl

pub conjunction-two : (a b : Verdict) (vs : List Verdict) → conjunction (a ∷ b ∷ vs) ≡ conjunction (conjunction (a ∷ b ∷ []) ∷ vs)
conjunction-two Fail b vs = refl
conjunction-two Pass Fail vs = refl
conjunction-two Pass Pass vs = refl
conjunction-two Pass Skip vs = refl
conjunction-two Skip Fail vs = refl
conjunction-two Skip Pass vs = refl
conjunction-two Skip Skip vs = refl

pub disjunction-first : (vs : List Verdict) → disjunction vs ≡ disjunction (Skip ∷ vs)
disjunction-first vs = refl

pub disjunction-one : (v : Verdict) → disjunction (v ∷ []) ≡ v
disjunction-one Pass = refl
disjunction-one Fail = refl
disjunction-one Skip = refl

pub disjunction-two : (a b : Verdict) (vs : List Verdict) → disjunction (a ∷ b ∷ vs) ≡ disjunction (disjunction (a ∷ b ∷ []) ∷ vs)
disjunction-two Pass b vs = refl
disjunction-two Fail Pass vs = refl
disjunction-two Fail Fail vs = refl
disjunction-two Fail Skip vs = refl
disjunction-two Skip Pass vs = refl
disjunction-two Skip Fail vs = refl
disjunction-two Skip Skip vs = refl

-- ---- the disjunctions of a body, and the parts of a disjunction

-- ---- what is said is said once

same-line : (o : Option Line) (l m : Line) → o ≡ Some l → o ≡ Some m → l ≡ m
same-line o l m is also = cc

module _ (lines : List Line) (of : LineKind) (frame : ℕ) where
  one-verdict : (number site : ℕ) (v w : Verdict) → IsLine lines number of frame site (says.Verdict v) → IsLine lines number of frame site (says.Verdict w) → v ≡ w
  one-verdict number site v w is also =
      let same : says.Verdict v ≡ says.Verdict w =
      sym is.outcome_is ∙ ap (λ (l : Line). l.outcome) (same-line (line_of lines number) is.line also.line is.stands also.stands) ∙ also.outcome_is in
      cc

module _ (known : StoreModel) (lines : List Line) (frame : ℕ) (stop : Option Verdict) where
  abbrev pub LeftDisjs : List Disj → List ℕ → List Verdict → Type 0
  LeftDisjs ds cites verdicts = SayDisjs known lines frame stop (disj_list (map see_disj ds)) cites verdicts

  abbrev pub LeftParts : List Part → List ℕ → List Verdict → Type 0
  LeftParts ps cites verdicts = SayParts known lines frame stop (part_list (map see_part ps)) cites verdicts

  abbrev pub SaysDisj : ℕ → ℕ → Verdict → Type 0
  SaysDisj n c w = IsLine lines c kind.Disj frame n (says.Verdict w)

  abbrev pub SaysPart : sx.Part → ℕ → Verdict → Type 0
  SaysPart p c w = SaysVerdict known lines (kind_of_part known lines p) frame (part_site p) c w

  split-disj : (n : ℕ) (ps : sx.Parts) (ds : sx.Disjs) (c : ℕ) (cs : List ℕ) (vs : List Verdict) → SayDisjs known lines frame stop (sx.more_disjs (sx.disj n ps) ds) (c ∷ cs) vs
      → (w : Verdict) × (ws : List Verdict) × SaysDisj n c w × Behind (is_stop stop w) [] (SayDisjs known lines frame stop ds) cs ws
  split-disj n ps ds c cs [] h = absurd h
  split-disj n ps ds c cs (w ∷ ws) h = (w, ws, h.0, h.1)

  no-disj : (n : ℕ) (ps : sx.Parts) (ds : sx.Disjs) (vs : List Verdict) → SayDisjs known lines frame stop (sx.more_disjs (sx.disj n ps) ds) [] vs → ⊥
  no-disj n ps ds [] h = h
  no-disj n ps ds (w ∷ ws) h = h

  next-disj : (n : ℕ) (ps : sx.Parts) (ds : sx.Disjs) → IsNext stop (SayDisjs known lines frame stop (sx.more_disjs (sx.disj n ps) ds)) (SaysDisj n) (SayDisjs known lines frame stop ds)
  next-disj n ps ds = record {
    more = λ c cs w ws said rest. (said, rest);
    split = split-disj n ps ds;
    none = no-disj n ps ds;
    once = λ c w x is also. one-verdict lines kind.Disj frame c n w x is also;
  }

  pub disjs-next : (ds : List Disj) (i : ℕ) (d : Disj) → i < length ds → d ≡ get_or ds i d → IsNext stop (LeftDisjs (drop i ds)) (SaysDisj d.site) (LeftDisjs (drop (i + 1) ds))
  disjs-next ds i d within is =
      let front : drop i ds ≡ d ∷ drop (i + 1) ds = drop_more ds i d within ∙ ap (λ (x : Disj). x ∷ drop (i + 1) ds) (sym is) in
      let seen : disj_list (map see_disj (drop i ds)) ≡ sx.more_disjs (sx.disj d.site (part_list (map see_part d.parts.items))) (disj_list (map see_disj (drop (i + 1) ds))) =
      ap (λ (xs : List Disj). disj_list (map see_disj xs)) front ∙ ap (λ (x : sx.Disj). sx.more_disjs x (disj_list (map see_disj (drop (i + 1) ds)))) (disj-seen d) in
      subst (λ (xs : sx.Disjs). IsNext stop (SayDisjs known lines frame stop xs) (SaysDisj d.site) (LeftDisjs (drop (i + 1) ds))) (sym seen)
      (next-disj d.site (part_list (map see_part d.parts.items)) (disj_list (map see_disj (drop (i + 1) ds))))

  last-disjs : (c : ℕ) (cs : List ℕ) (vs : List Verdict) → SayDisjs known lines frame stop sx.no_disjs (c ∷ cs) vs → ⊥
  last-disjs c cs [] h = h
  last-disjs c cs (w ∷ ws) h = h

  pub disjs-last : (ds : List Disj) (i : ℕ) → length ds ≤ i → IsLast (LeftDisjs (drop i ds))
  disjs-last ds i past = subst (λ (xs : List Disj). IsLast (LeftDisjs xs)) (sym (drop_all i ds past)) (record { end = tt; none = last-disjs })

  split-part : (p : sx.Part) (ps : sx.Parts) (c : ℕ) (cs : List ℕ) (vs : List Verdict) → SayParts known lines frame stop (sx.more_parts p ps) (c ∷ cs) vs
      → (w : Verdict) × (ws : List Verdict) × SaysPart p c w × Behind (is_stop stop w) [] (SayParts known lines frame stop ps) cs ws
  split-part p ps c cs [] h = absurd h
  split-part p ps c cs (w ∷ ws) h = (w, ws, h.0, h.1)

  no-part : (p : sx.Part) (ps : sx.Parts) (vs : List Verdict) → SayParts known lines frame stop (sx.more_parts p ps) [] vs → ⊥
  no-part p ps [] h = h
  no-part p ps (w ∷ ws) h = h

  next-part : (p : sx.Part) (ps : sx.Parts) → IsNext stop (SayParts known lines frame stop (sx.more_parts p ps)) (SaysPart p) (SayParts known lines frame stop ps)
  next-part p ps = record {
    more = λ c cs w ws said rest. (said, rest);
    split = split-part p ps;
    none = no-part p ps;
    once = λ c w x is also. one-verdict lines (kind_of_part known lines p) frame c (part_site p) w x is also;
  }

  pub parts-next : (ps : List Part) (i : ℕ) (p : Part) → i < length ps → p ≡ get_or ps i p
      → IsNext stop (LeftParts (drop i ps)) (SaysPart (see_part p)) (LeftParts (drop (i + 1) ps))
  parts-next ps i p within is =
      let front : drop i ps ≡ p ∷ drop (i + 1) ps = drop_more ps i p within ∙ ap (λ (x : Part). x ∷ drop (i + 1) ps) (sym is) in
      subst (λ (xs : List Part). IsNext stop (LeftParts xs) (SaysPart (see_part p)) (LeftParts (drop (i + 1) ps))) (sym front)
      (next-part (see_part p) (part_list (map see_part (drop (i + 1) ps))))

  last-parts : (c : ℕ) (cs : List ℕ) (vs : List Verdict) → SayParts known lines frame stop sx.no_parts (c ∷ cs) vs → ⊥
  last-parts c cs [] h = h
  last-parts c cs (w ∷ ws) h = h

  pub parts-last : (ps : List Part) (i : ℕ) → length ps ≤ i → IsLast (LeftParts (drop i ps))
  parts-last ps i past = subst (λ (xs : List Part). IsLast (LeftParts xs)) (sym (drop_all i ps past)) (record { end = tt; none = last-parts })

-- ---- lists of cited lines

pub no-items : (xs : List ℕ) → length xs ≡ 0 → xs ≡ []
no-items [] none = refl
no-items (x ∷ xs) none = absurd (omega arith)

-- ---- the verdicts of cited lines are the same whenever they are said

same-behind : (stops : Bool) (Next : List ℕ → List Verdict → Type 0) (cs : List ℕ) (vs ws : List Verdict) → ((vs ws : List Verdict) → Next cs vs → Next cs ws → vs ≡ ws)
    → Behind stops [] Next cs vs → Behind stops [] Next cs ws → vs ≡ ws
same-behind true Next cs vs ws once a b = a.1 ∙ sym b.1
same-behind false Next cs vs ws once a b = once vs ws a b

module _ (known : StoreModel) (lines : List Line) (frame : ℕ) (stop : Option Verdict) where
  same-disjs : (ds : sx.Disjs) (cs : List ℕ) (vs ws : List Verdict) → SayDisjs known lines frame stop ds cs vs → SayDisjs known lines frame stop ds cs ws → vs ≡ ws
  same-disjs sx.no_disjs [] [] [] a b = refl
  same-disjs sx.no_disjs [] [] (w ∷ ws) a b = absurd b
  same-disjs (sx.more_disjs (sx.disj n ps) ds) (c ∷ cs) (v ∷ vs) (w ∷ ws) a b =
      let first : v ≡ w = one-verdict lines kind.Disj frame c n v w a.0 b.0 in
      let moved = subst (λ (x : Verdict). Behind (is_stop stop x) [] (SayDisjs known lines frame stop ds) cs ws) (sym first) b.1 in
      ap₂ (λ (x : Verdict) (xs : List Verdict). x ∷ xs) first
      (same-behind (is_stop stop v) (SayDisjs known lines frame stop ds) cs vs ws (λ xs ys. same-disjs ds cs xs ys) a.1 moved)
  same-disjs (sx.more_disjs (sx.disj n ps) ds) (c ∷ cs) (v ∷ vs) [] a b = absurd b
  same-disjs ds cs vs ws a b = absurd a

  same-parts : (ps : sx.Parts) (cs : List ℕ) (vs ws : List Verdict) → SayParts known lines frame stop ps cs vs → SayParts known lines frame stop ps cs ws → vs ≡ ws
  same-parts sx.no_parts [] [] [] a b = refl
  same-parts sx.no_parts [] [] (w ∷ ws) a b = absurd b
  same-parts (sx.more_parts p ps) (c ∷ cs) (v ∷ vs) (w ∷ ws) a b =
      let first : v ≡ w = one-verdict lines (kind_of_part known lines p) frame c (part_site p) v w a.0 b.0 in
      let moved = subst (λ (x : Verdict). Behind (is_stop stop x) [] (SayParts known lines frame stop ps) cs ws) (sym first) b.1 in
      ap₂ (λ (x : Verdict) (xs : List Verdict). x ∷ xs) first
      (same-behind (is_stop stop v) (SayParts known lines frame stop ps) cs vs ws (λ xs ys. same-parts ps cs xs ys) a.1 moved)
  same-parts (sx.more_parts p ps) (c ∷ cs) (v ∷ vs) [] a b = absurd b
  same-parts ps cs vs ws a b = absurd a

-- a verdict is what all are together where it is the one that was said
together : (same : Bool) (said verdict : Verdict) (fold : List Verdict → Verdict) (Say : List Verdict → Type 0) → ((vs ws : List Verdict) → Say vs → Say ws → vs ≡ ws)
    → ((vs : List Verdict) × Say vs × (said ≡ fold vs)) → MatchBool same (said ≡ verdict) (said ≡ verdict → ⊥)
    → MatchBool same ((vs : List Verdict) × Say vs × (verdict ≡ fold vs)) (((vs : List Verdict) × Say vs × (verdict ≡ fold vs)) → ⊥)
together true said verdict fold Say once (vs, say, is) same = (vs, say, sym same ∙ is)
together false said verdict fold Say once (vs, say, is) other = λ h. other (is ∙ ap fold (once vs h.0 say h.1) ∙ sym h.2)

module _ (known : StoreModel) (lines : List Line) (frame : ℕ) (stop : Option Verdict) (cites : List ℕ) (same : Bool) (said verdict : Verdict) (is : MatchBool same (said ≡ verdict) (said ≡ verdict → ⊥)) where
  pub conj-said : (ds : List Disj) → ((vs : List Verdict) × SayDisjs known lines frame stop (disj_list (map see_disj ds)) cites vs × (said ≡ conjunction vs))
      → MatchBool same (FollowsConj known lines frame stop (disj_list (map see_disj ds)) cites verdict) (FollowsConj known lines frame stop (disj_list (map see_disj ds)) cites verdict → ⊥)
  conj-said ds say = together same said verdict conjunction (SayDisjs known lines frame stop (disj_list (map see_disj ds)) cites) (same-disjs known lines frame stop (disj_list (map see_disj ds)) cites) say is

  pub disj-said : (d : Disj) (ps : List Part) → ps ≡ d.parts.items → ((vs : List Verdict) × SayParts known lines frame stop (part_list (map see_part ps)) cites vs × (said ≡ disjunction vs))
      → MatchBool same (FollowsDisj known lines frame stop (see_disj d) cites verdict) (FollowsDisj known lines frame stop (see_disj d) cites verdict → ⊥)
  disj-said d ps are say =
      let seen : sx.disj d.site (part_list (map see_part ps)) ≡ see_disj d = ap (λ (xs : List Part). sx.disj d.site (part_list (map see_part xs))) are ∙ sym (disj-seen d) in
      subst (λ (x : sx.Disj). MatchBool same (FollowsDisj known lines frame stop x cites verdict) (FollowsDisj known lines frame stop x cites verdict → ⊥)) seen
      (together same said verdict disjunction (SayParts known lines frame stop (part_list (map see_part ps)) cites) (same-parts known lines frame stop (part_list (map see_part ps)) cites) say is)

pub disj-unsaid : (known : StoreModel) (lines : List Line) (frame : ℕ) (stop : Option Verdict) (cites : List ℕ) (verdict : Verdict) (d : Disj) (ps : List Part) → ps ≡ d.parts.items
    → ((vs : List Verdict) → SayParts known lines frame stop (part_list (map see_part ps)) cites vs → ⊥) → FollowsDisj known lines frame stop (see_disj d) cites verdict → ⊥
disj-unsaid known lines frame stop cites verdict d ps are never =
    let seen : sx.disj d.site (part_list (map see_part ps)) ≡ see_disj d = ap (λ (xs : List Part). sx.disj d.site (part_list (map see_part xs))) are ∙ sym (disj-seen d) in
    subst (λ (x : sx.Disj). FollowsDisj known lines frame stop x cites verdict → ⊥) seen (λ h. never h.0 h.1)

-- the parts outside rules, where there are some, by the one line that is cited
pub loose-none : (known : StoreModel) (lines : List Line) (frame : ℕ) (verdict : Verdict) (ds : List Disj) (cites : List ℕ) → ds ≡ [] → FollowsLoose known lines frame (disj_list (map see_disj ds)) cites verdict → ⊥
loose-none known lines frame verdict [] cites none h = h
loose-none known lines frame verdict (d ∷ ds) cites none h = absurd cc

pub loose-said : (known : StoreModel) (lines : List Line) (frame : ℕ) (verdict : Verdict) (r : Bool) (ds : List Disj) (cites : List ℕ) → (ds ≡ [] → ⊥) → 1 ≤ length cites → length cites < 2
    → MatchBool r (IsLine lines (get_or cites 0 0) kind.Conj frame 0 (says.Verdict verdict)) (IsLine lines (get_or cites 0 0) kind.Conj frame 0 (says.Verdict verdict) → ⊥)
    → MatchBool r (FollowsLoose known lines frame (disj_list (map see_disj ds)) cites verdict) (FollowsLoose known lines frame (disj_list (map see_disj ds)) cites verdict → ⊥)
loose-said known lines frame verdict r [] cites some least most said = absurd (some refl)
loose-said known lines frame verdict r (d ∷ ds) [] some least most said = absurd (omega arith)
loose-said known lines frame verdict r (d ∷ ds) (c ∷ []) some least most said = said
loose-said known lines frame verdict r (d ∷ ds) (c ∷ e ∷ cs) some least most said = absurd (omega arith)
