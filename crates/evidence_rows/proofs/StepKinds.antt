-- Lines of steps by their kinds.
use Rattle.std.proofs.Common.{◌≡◌, ℕ, Bool, List, Option, Some, None, refl, sym, subst, MatchBool, Result, IfOk}
use Rattle.std.specs.declared.alloc.AllocError.{AllocError}
use Rattle.evidence_lines.specs.declared.line.Line.{Line}
use Rattle.evidence_lines.specs.declared.line.LineKind.{LineKind}
use Rattle.evidence_lines.specs.declared.line.LineKind.TheVariants as kind
use Rattle.guard_syntax.specs.Named.{Named}
use Rattle.guard_syntax.specs.Syntax.{Conds, Expr, Query, Step, this, var, key, index, every, items, splice, filter, keys}
use Rattle.guard_syntax.specs.declared.row.Row.{Row}
use Rattle.guard_syntax.specs.declared.syntax.Op.{Op}
use Rattle.rule_meaning.specs.StoreModel.{StoreModel}
use Rattle.evidence_rules.specs.Follows.{FollowsAtStep, FollowsCapture, FollowsStep}
use Rattle.evidence_rows.proofs.StepsSeen.{IsOther}

-- an answer says whether something holds
abbrev pub IsAnswered : Result Bool AllocError → Type 0 → Type 0
IsAnswered r Follows = IfOk r (λ (follows : Bool). MatchBool follows Follows (Follows → ⊥))

module _ (known : StoreModel) (lines : List Line) (frame site : ℕ) (q : Query) (i : ℕ) (cites : List ℕ) (rows : List Row) where
  abbrev AtStep : LineKind → Option Step → Type 0
  AtStep of step = FollowsAtStep known lines frame site of q i step cites rows

  pub at-kind : (r : Result Bool AllocError) (of one : LineKind) (step : Option Step) (s : Step) → of ≡ one → step ≡ Some s → IsAnswered r (AtStep one (Some s)) → IsAnswered r (AtStep of step)
  at-kind r of one step s of_is there h =
      subst (λ (o : Option Step). IsAnswered r (AtStep of o)) (sym there) (subst (λ (k : LineKind). IsAnswered r (AtStep k (Some s))) (sym of_is) h)

  pub not-at : (of : LineKind) (step : Option Step) (s : Step) → step ≡ Some s → (AtStep of (Some s) → ⊥) → AtStep of step → ⊥
  not-at of step s there never h = never (subst (λ (o : Option Step). AtStep of o) there h)

  pub same-capture : (r : Result Bool AllocError) (s t : Step) → s ≡ t → IsAnswered r (FollowsCapture known lines frame s cites rows) → IsAnswered r (FollowsCapture known lines frame t cites rows)
  same-capture r s t is h = subst (λ (x : Step). IsAnswered r (FollowsCapture known lines frame x cites rows)) is h

  pub same-step : (r : Result Bool AllocError) (s t : Step) → s ≡ t → IsAnswered r (FollowsStep known lines frame site q i s cites rows) → IsAnswered r (FollowsStep known lines frame site q i t cites rows)
  same-step r s t is h = subst (λ (x : Step). IsAnswered r (FollowsStep known lines frame site q i x cites rows)) is h

  -- a step that is neither a filter nor a key filter
  pub at-other : (r : Result Bool AllocError) (s : Step) → IsOther s → IsAnswered r (FollowsStep known lines frame site q i s cites rows) → IsAnswered r (AtStep kind.Step (Some s))
  at-other r (this n) other h = h
  at-other r (var n name) other h = h
  at-other r (key n name) other h = h
  at-other r (index n at) other h = h
  at-other r (every n) other h = h
  at-other r (items n) other h = h
  at-other r (splice n name) other h = h
  at-other r s other h = absurd other

  -- no line of another kind follows
  pub no-step-line : (of : LineKind) (step : Option Step) → step ≡ None → AtStep of step → ⊥
  no-step-line of step none h = by of (subst (λ (o : Option Step). AtStep of o) none h)
    where
      by : (k : LineKind) → AtStep k None → ⊥
      by kind.Filter line = line
      by kind.Keys line = line
      by kind.Step line = line
      by k line = absurd line

  pub filter-else : (of : LineKind) (n : ℕ) (capture : Option Named) (conditions : Conds) → (of ≡ kind.Filter → ⊥) → (of ≡ kind.Capture → ⊥) → AtStep of (Some (filter n capture conditions)) → ⊥
  filter-else kind.Filter n capture conditions no_filter no_capture h = no_filter refl
  filter-else kind.Capture n capture conditions no_filter no_capture h = no_capture refl
  filter-else of n capture conditions no_filter no_capture h = absurd h

  pub keys-else : (of : LineKind) (n : ℕ) (capture : Option Named) (op : Op) (negated : Bool) (right : Expr) → (of ≡ kind.Keys → ⊥) → (of ≡ kind.Capture → ⊥)
      → AtStep of (Some (keys n capture op negated right)) → ⊥
  keys-else kind.Keys n capture op negated right no_keys no_capture h = no_keys refl
  keys-else kind.Capture n capture op negated right no_keys no_capture h = no_capture refl
  keys-else of n capture op negated right no_keys no_capture h = absurd h

  pub other-else : (of : LineKind) (s : Step) → (of ≡ kind.Step → ⊥) → IsOther s → AtStep of (Some s) → ⊥
  other-else kind.Step s no_step other h = no_step refl
  other-else kind.Filter (filter n capture conditions) no_step other h = absurd other
  other-else kind.Keys (keys n capture op negated right) no_step other h = absurd other
  other-else kind.Capture (filter n capture conditions) no_step other h = absurd other
  other-else kind.Capture (keys n capture op negated right) no_step other h = absurd other
  other-else of s no_step other h = absurd h
