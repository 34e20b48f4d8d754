-- What gives rows: of a step, of a query, and of an argument.
use Rattle.std.proofs.Common.{◌≡◌, ℕ, ◌-◌, List, [], ◌∷◌, length, map, Option, Some, None, refl, ap, sym, subst, ◌∙◌, arith, MatchOption}
use Rattle.std.specs.Prelude.{slice_get, option_map}
use Rattle.std.proofs.lemmas.Option.{none-some, same_Some}
use Rattle.evidence_lines.specs.Lines.{line_of}
use Rattle.evidence_lines.specs.code.Said.{place_at, place_of}
use Rattle.evidence_lines.specs.declared.line.Line.{Line}
use Rattle.evidence_lines.specs.declared.line.LineKind.{LineKind}
use Rattle.evidence_lines.specs.declared.line.LineKind.TheVariants as kind
use Rattle.evidence_lines.specs.declared.line.LinePlace.{LinePlace}
use Rattle.evidence_lines.specs.declared.line.Outcome.{Outcome}
use Rattle.evidence_lines.specs.declared.line.Outcome.TheVariants as says
use Rattle.guard_syntax.specs.Syntax as sx
use Rattle.guard_syntax.specs.code.Seen.{see_step, step_list}
use Rattle.guard_syntax.specs.declared.row.Row.{Row}
use Rattle.guard_syntax.specs.declared.syntax.Step.{Step}
use Rattle.rule_names.specs.Uses.{expr_in}
use Rattle.rule_names.specs.ReferenceGraph.{step_site}
use Rattle.evidence_rules.specs.CitedLines.{GivesArgument, GivesExpr, GivesQuery, GivesStep, IsLine, args_at, kind_of_step, last_step}
use Rattle.rule_meaning.specs.Places.{steps_in}
use Rattle.evidence_lookups.proofs.LinesPlaced.{placed, same-place}

-- of what stands in an option
same-some : {A : Type 0} (o : Option A) (x y : A) → o ≡ Some x → o ≡ Some y → x ≡ y
same-some o x y is also = same_Some x y (sym is ∙ also)

pub some-given : {A : Type 0} (o : Option A) (x : A) (Gives : A → List Row → Type 0) (r : Option (List Row)) → o ≡ Some x
    → MatchOption r ((rows : List Row) → Gives x rows → ⊥) (λ rows. Gives x rows)
    → MatchOption r ((rows : List Row) → ((y : A) × (o ≡ Some y) × Gives y rows) → ⊥) (λ rows. (y : A) × (o ≡ Some y) × Gives y rows)
some-given o x Gives None is never = λ rows g. never rows (subst (λ y. Gives y rows) (same-some o g.0 x g.1 is) g.2)
some-given o x Gives (Some rows) is gives = (x, is, gives)

-- the rows of a line, by what it says
same-line : (o : Option Line) (l line : Line) → o ≡ Some l → o ≡ Some line → l ≡ line
same-line o l line is also = cc

pub rows-there : (lines : List Line) (number : ℕ) (of : LineKind) (frame site : ℕ) (outcome : Outcome) (r : Option (List Row)) → IsLine lines number of frame site outcome
    → MatchOption r ((rows : List Row) → outcome ≡ says.Rows rows → ⊥) (λ rows. outcome ≡ says.Rows rows)
    → MatchOption r ((rows : List Row) → IsLine lines number of frame site (says.Rows rows) → ⊥) (λ rows. IsLine lines number of frame site (says.Rows rows))
rows-there lines number of frame site outcome None there never =
    λ rows is. never rows (sym there.outcome_is ∙ ap (λ (l : Line). l.outcome) (same-line (line_of lines number) there.line is.line there.stands is.stands) ∙ is.outcome_is)
rows-there lines number of frame site outcome (Some rows) there are = subst (λ (o : Outcome). IsLine lines number of frame site o) are there

module _ (file : sx.File) (lines : List Line) (frame : ℕ) where
  pub step-given : (s : sx.Step) (number site : ℕ) (of : LineKind) (r : Option (List Row)) → of ≡ kind_of_step file lines s → site ≡ step_site s
      → MatchOption r ((rows : List Row) → IsLine lines number of frame site (says.Rows rows) → ⊥) (λ rows. IsLine lines number of frame site (says.Rows rows))
      → MatchOption r ((rows : List Row) → GivesStep file lines frame s number rows → ⊥) (λ rows. GivesStep file lines frame s number rows)
  step-given s number site of None kind_is site_is never =
      λ rows g. never rows (subst (λ (k : LineKind). IsLine lines number k frame site (says.Rows rows)) (sym kind_is) (subst (λ (n : ℕ). IsLine lines number (kind_of_step file lines s) frame n (says.Rows rows)) (sym site_is) g))
  step-given s number site of (Some rows) kind_is site_is is =
      subst (λ (n : ℕ). IsLine lines number (kind_of_step file lines s) frame n (says.Rows rows)) site_is (subst (λ (k : LineKind). IsLine lines number k frame site (says.Rows rows)) kind_is is)

  last-of : (x : Step) (xs : List Step) (s : Step) → Some s ≡ slice_get (x ∷ xs) (length xs) → last_step file lines (step_list (map see_step (x ∷ xs))) ≡ Some (see_step s)
  last-of x [] s is = ap (λ (o : Option Step). option_map see_step o) (sym is)
  last-of x (y ∷ ys) s is = last-of y ys s is

  pub last-got : (xs : List Step) (s : Step) → Some s ≡ slice_get xs (length xs - 1) → last_step file lines (step_list (map see_step xs)) ≡ Some (see_step s)
  last-got [] s is = absurd cc
  last-got (x ∷ xs) s is =
      let at : length (x ∷ xs) - 1 ≡ length xs = omega arith in
      last-of x xs s (is ∙ ap (λ (i : ℕ). slice_get (x ∷ xs) i) at)

  no-last : (x : Step) (xs : List Step) → None ≡ slice_get (x ∷ xs) (length xs) → ⊥
  no-last x [] none = none-some x none
  no-last x (y ∷ ys) none = no-last y ys none

  none-last : (xs : List Step) → None ≡ slice_get xs (length xs - 1) → None ≡ last_step file lines (step_list (map see_step xs))
  none-last [] none = refl
  none-last (x ∷ xs) none =
      let at : length (x ∷ xs) - 1 ≡ length xs = omega arith in
      absurd (no-last x xs (none ∙ ap (λ (i : ℕ). slice_get (x ∷ xs) i) at))

  pub none-given : (q : sx.Query) (xs : List Step) (number : ℕ) → steps_in q ≡ step_list (map see_step xs) → None ≡ slice_get xs (length xs - 1)
      → (rows : List Row) → GivesQuery file lines frame q number rows → ⊥
  none-given (sx.query n steps) xs number are none rows g = none-some g.0 (none-last xs none ∙ ap (last_step file lines) (sym are) ∙ g.1)

  same-step : (o : Option sx.Step) (s t : sx.Step) → o ≡ Some s → o ≡ Some t → s ≡ t
  same-step o s t is also = cc

  pub query-given : (q : sx.Query) (s : sx.Step) (number : ℕ) (r : Option (List Row)) → last_step file lines (steps_in q) ≡ Some s
      → MatchOption r ((rows : List Row) → GivesStep file lines frame s number rows → ⊥) (λ rows. GivesStep file lines frame s number rows)
      → MatchOption r ((rows : List Row) → GivesQuery file lines frame q number rows → ⊥) (λ rows. GivesQuery file lines frame q number rows)
  query-given (sx.query n steps) s number None last never =
      λ rows g. never rows (subst (λ (t : sx.Step). GivesStep file lines frame t number rows) (same-step (last_step file lines steps) g.0 s g.1 last) g.2)
  query-given (sx.query n steps) s number (Some rows) last is = (s, last, is)

  -- no argument is given where the line of the frame, its caller, its site or the arguments there are missing
  pub no-frame : (index number : ℕ) → None ≡ place_at lines frame → (rows : List Row) → GivesArgument file lines frame index number rows → ⊥
  no-frame index number none rows g = none-some (place_of g.line) (none ∙ ap (option_map place_of) g.stands)

  module _ (index number : ℕ) (place : LinePlace) (stands : Some place ≡ place_at lines frame) where
    pub no-kind : (place.kind ≡ kind.Frame → ⊥) → (rows : List Row) → GivesArgument file lines frame index number rows → ⊥
    no-kind other rows g = other (ap (λ (p : LinePlace). p.kind) (same-place lines frame place g.line stands g.stands) ∙ g.kind_is)

    caller-of : (rows : List Row) (g : GivesArgument file lines frame index number rows) → place.frame ≡ Some g.caller
    caller-of rows g = ap (λ (p : LinePlace). p.frame) (same-place lines frame place g.line stands g.stands) ∙ g.caller_is

    site-of : (rows : List Row) (g : GivesArgument file lines frame index number rows) → place.site ≡ Some g.site
    site-of rows g = ap (λ (p : LinePlace). p.site) (same-place lines frame place g.line stands g.stands) ∙ g.site_is

    pub no-caller : None ≡ place.frame → (rows : List Row) → GivesArgument file lines frame index number rows → ⊥
    no-caller none rows g = none-some g.caller (none ∙ caller-of rows g)

    pub no-site : None ≡ place.site → (rows : List Row) → GivesArgument file lines frame index number rows → ⊥
    no-site none rows g = none-some g.site (none ∙ site-of rows g)

    args-of : (site : ℕ) (rows : List Row) (g : GivesArgument file lines frame index number rows) → place.site ≡ Some site → args_at file site ≡ Some g.args
    args-of site rows g site_is = ap (args_at file) (same_Some site g.site (sym site_is ∙ site-of rows g)) ∙ g.args_are

    pub no-args : (site : ℕ) → place.site ≡ Some site → None ≡ args_at file site → (rows : List Row) → GivesArgument file lines frame index number rows → ⊥
    no-args site site_is none rows g = none-some g.args (none ∙ args-of site rows g site_is)

    module _ (caller site : ℕ) (args : sx.Exprs) (kind_is : place.kind ≡ kind.Frame) (caller_is : place.frame ≡ Some caller) (site_is : place.site ≡ Some site)
        (args_are : Some args ≡ args_at file site) where
      arg-of : (rows : List Row) (g : GivesArgument file lines frame index number rows) → expr_in args index ≡ Some g.arg
      arg-of rows g = ap (λ (x : sx.Exprs). expr_in x index) (same_Some args g.args (args_are ∙ args-of site rows g site_is)) ∙ g.arg_is

      pub no-argument : None ≡ expr_in args index → (rows : List Row) → GivesArgument file lines frame index number rows → ⊥
      no-argument none rows g = none-some g.arg (none ∙ arg-of rows g)

      pub argument-given : (arg : sx.Expr) (r : Option (List Row)) → Some arg ≡ expr_in args index
          → MatchOption r ((rows : List Row) → GivesExpr file lines caller arg number rows → ⊥) (λ rows. GivesExpr file lines caller arg number rows)
          → MatchOption r ((rows : List Row) → GivesArgument file lines frame index number rows → ⊥) (λ rows. GivesArgument file lines frame index number rows)
      argument-given arg None is never =
          λ rows g.
          let exprs : g.arg ≡ arg = sym (same_Some arg g.arg (is ∙ arg-of rows g)) in
          let callers : g.caller ≡ caller = sym (same_Some caller g.caller (sym caller_is ∙ caller-of rows g)) in
          never rows (subst (λ (e : sx.Expr). GivesExpr file lines caller e number rows) exprs (subst (λ (c : ℕ). GivesExpr file lines c g.arg number rows) callers g.gives))
      argument-given arg (Some rows) is gives =
          let there = placed lines frame place stands in
          record {
            line = there.0;
            caller = caller;
            site = site;
            args = args;
            arg = arg;
            stands = there.1;
            kind_is = sym (ap (λ (p : LinePlace). p.kind) there.2) ∙ kind_is;
            caller_is = sym (ap (λ (p : LinePlace). p.frame) there.2) ∙ caller_is;
            site_is = sym (ap (λ (p : LinePlace). p.site) there.2) ∙ site_is;
            args_are = sym args_are;
            arg_is = sym is;
            gives = gives;
          }
