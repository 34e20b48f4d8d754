-- Parts that are evaluated one after another for one: what was said stays, and one is said more. And what is said in a frame that was entered for it.
use Rattle.std.proofs.Common.{◌≡◌, ℕ, ◌+◌, ◌<◌, ◌≤◌, sym, ap, ◌∙◌, subst, arith, slice_get, List, [], ◌∷◌, ◌++◌, length, map, take, get_or, Some, None}
use Rattle.std.proofs.lemmas.List.{map-append, take_more}
use Rattle.std.proofs.lemmas.Option.{same_Some}
use Rattle.evidence_lines.specs.declared.line.Line.{Line}
use Rattle.evidence_lines.specs.declared.line.LineKind.{LineKind}
use Rattle.evidence_lines.specs.declared.line.LineKind.TheVariants as kind
use Rattle.evidence_lines.specs.declared.line.Outcome.{Outcome}
use Rattle.evidence_lines.specs.declared.line.Outcome.TheVariants as says
use Rattle.guard_syntax.specs.Syntax.{Expr, File}
use Rattle.guard_syntax.specs.code.Seen.{expr_list}
use Rattle.guard_syntax.specs.declared.row.Ref.{Ref}
use Rattle.guard_syntax.specs.declared.row.Row.{Row}
use Rattle.evidence_rules.specs.CitedLines.{GiveArgs, GivesExpr, IsLine}
use Rattle.scope_frames.specs.declared.frame.Frame.{Frame}
use Rattle.engine_states.specs.code.Answers.{Answers, StandsWithin}
use Rattle.engine_states.specs.code.Entered.{Enters}
use Rattle.engine_states.specs.code.Evaluated.{Evaluates}
use Rattle.engine_states.specs.code.Falling.{height_at}
use Rattle.engine_states.specs.code.States.{Grows, IsWhole, State}
use Rattle.engine_states.proofs.Evaluating.{Evaluates-then, Evaluates-under, same-file}
use Rattle.engine_states.proofs.FrameNamed.{Evaluates-in}
use Rattle.engine_states.proofs.FramesSaid.{has-line}
use Rattle.engine_states.proofs.SaidStays.{GiveArgs-stays, IsLine-stays}
use Rattle.engine_states.proofs.Standing.{ruled-stays}
use Rattle.engine_states.proofs.VariablesSaid.{framed-later}
use Rattle.scope_frames.proofs.EnteredFrames.{stands-ahead}
use Rattle.scope_frames.specs.code.Frames.{StandsFor}
use Rattle.rule_names.specs.Pieces.{Sited, piece_at}
use Rattle.engine_states.proofs.Standing.{same-load}

-- ---- what stays

module _ (a b : State) (whole : IsWhole a) (bound : ℕ) (numbers : List ℕ) (it : Evaluates a b bound numbers) where
  -- a part that has no line, and is no lower than the bound, still has none
  pub still-none : (frame site : ℕ) → frame < length a.frames → bound ≤ height_at a.known.file a.frames frame site → a.parts frame site ≡ None → b.parts frame site ≡ None
  still-none frame site less no_more none = it.parts frame site less no_more ∙ none

  -- a part that stands somewhere still does
  pub still-stands : (frame scope : ℕ) (part : Sited) → frame < length a.frames → StandsWithin a frame scope part → StandsWithin b frame scope part
  still-stands frame scope part less stands = record {
    there = ap (λ (f : File). piece_at f part.0) (same-file a b it.grows whole) ∙ stands.there;
    scope_is =
        subst (λ (f : File). StandsFor f b.frames frame scope) (sym (same-file a b it.grows whole))
        (subst (λ (fs : List Frame). StandsFor a.known.file fs frame scope) (sym it.grows.frames) (stands-ahead a.known.file a.frames it.grows.more_frames frame scope stands.scope_is));
    ruled =
        let load = same-load a b it.grows whole frame part.0 less in
        ruled-stays a b it.grows whole it.rules _ _ (omega (arith, load)) stands.ruled;
  }

-- ---- one more

-- for a part parts were evaluated below a bound, and what is said of them is so in the frame's line
abbrev pub SaidFor : (a b : State) → (bound frame : ℕ) → (numbers : List ℕ) → ((at : ℕ) → Type 0) → Type 0
SaidFor a b bound frame numbers Say = Evaluates a b bound numbers × (at : ℕ) × (slice_get b.framed frame ≡ Some at) × Say at

pub said-next : (a b c : State) → IsWhole a → (bound least frame number : ℕ) (numbers : List ℕ) (Before Later Says : (at : ℕ) → Type 0) → SaidFor a b bound frame numbers Before
    → Answers b c least frame number Says → least ≤ bound → (Grows b c → (at : ℕ) → Before at → Later at) → SaidFor a c bound frame (numbers ++ number ∷ []) (λ at. Later at × Says at)
said-next a b c whole bound least frame number numbers Before Later Says (evaluates, at, framed, before) it no_more stays =
    let later = framed-later b c it.evaluates.grows evaluates.whole frame at framed in
    let same : it.at ≡ at = same_Some it.at at (sym it.framed ∙ later) in (
      Evaluates-then a b c whole bound numbers (number ∷ []) evaluates (Evaluates-under b c least bound (number ∷ []) no_more it.evaluates),
      at,
      later,
      (stays it.evaluates.grows at before, subst Says same it.says),
    )

-- arguments

args-push : (file : File) (lines : List Line) (at : ℕ) (xs : List Expr) (cites : List ℕ) (given : List (List Row)) → GiveArgs file lines at (expr_list xs) cites given
    → (e : Expr) (c : ℕ) (rows : List Row) → GivesExpr file lines at e c rows → GiveArgs file lines at (expr_list (xs ++ e ∷ [])) (cites ++ c ∷ []) (given ++ rows ∷ [])
args-push file lines at [] [] [] give e c rows gives = (gives, tt)
args-push file lines at (x ∷ xs) (d ∷ ds) (r ∷ rs) give e c rows gives = (give.0, args-push file lines at xs ds rs give.1 e c rows gives)
args-push file lines at xs cites given give e c rows gives = absurd give

pub args-next : {A : Type 0} (see : A → Expr) (args : List A) (i : ℕ) (x : A) → i < length args → x ≡ get_or args i x
    → (a b c : State) → IsWhole a → (bound least frame number : ℕ) (numbers more : List ℕ)
    → SaidFor a b bound frame numbers (λ at. (given : List (List Row)) × GiveArgs b.known.file b.lines at (expr_list (map see (take i args))) numbers given)
    → Answers b c least frame number (λ at. (rows : List Row) × GivesExpr c.known.file c.lines at (see x) number rows) → least ≤ bound → more ≡ numbers ++ number ∷ []
    → SaidFor a c bound frame more (λ at. (given : List (List Row)) × GiveArgs c.known.file c.lines at (expr_list (map see (take (i + 1) args))) more given)
args-next see args i x within is a b c whole bound least frame number numbers more before it no_more cited =
    let seen : map see (take (i + 1) args) ≡ map see (take i args) ++ see x ∷ [] =
    ap (map see) (take_more args i x within ∙ ap (λ y. take i args ++ y ∷ []) (sym is)) ∙ map-append see (take i args) (x ∷ []) in
    let next = said-next a b c whole bound least frame number numbers
    (λ at. (given : List (List Row)) × GiveArgs b.known.file b.lines at (expr_list (map see (take i args))) numbers given)
    (λ at. (given : List (List Row)) × GiveArgs c.known.file c.lines at (expr_list (map see (take i args))) numbers given)
    (λ at. (rows : List Row) × GivesExpr c.known.file c.lines at (see x) number rows) before it no_more
    (λ grows at give. (
      give.0,
      subst (λ (f : File). GiveArgs f c.lines at (expr_list (map see (take i args))) numbers give.0) (sym (same-file b c grows before.0.whole))
          (subst (λ (ls : List Line). GiveArgs b.known.file ls at (expr_list (map see (take i args))) numbers give.0) (sym grows.lines)
          (GiveArgs-stays b.known.file b.lines grows.more_lines at (expr_list (map see (take i args))) numbers give.0 give.1)),
    )) in (
      subst (Evaluates a c bound) (sym cited) next.0,
      next.1,
      next.2,
      (
        next.3.0.0 ++ next.3.1.0 ∷ [],
        subst (λ (xs : List Expr). GiveArgs c.known.file c.lines next.1 (expr_list xs) more (next.3.0.0 ++ next.3.1.0 ∷ [])) (sym seen)
            (subst (λ (cs : List ℕ). GiveArgs c.known.file c.lines next.1 (expr_list (map see (take i args) ++ see x ∷ [])) cs (next.3.0.0 ++ next.3.1.0 ∷ [])) (sym cited)
            (args-push c.known.file c.lines next.1 (map see (take i args)) numbers next.3.0.0 next.3.0.1 (see x) number next.3.1.0 next.3.1.1)),
      ),
    )

-- ---- in a frame that was entered for it

-- the line of that frame, and what is said in it
pub entered-answer : (a b c : State) → IsWhole a → (bound least frame site : ℕ) (current : Ref) (inner : ℕ) → Enters a b (Some frame) site current inner
    → (number other : ℕ) (of : LineKind) (outcome : Outcome) → Answers b c least inner number (λ at. IsLine c.lines number of at other outcome) → least ≤ bound
    → Answers a c bound frame number (λ at. (there : ℕ) × IsLine c.lines there kind.Frame at site (says.Value current) × IsLine c.lines number of there other outcome)
entered-answer a b c whole bound least frame site current inner enters number other of outcome it no_more =
    let grows = it.evaluates.grows in
    let line = has-line b.known.file b.lines b.framed b.frames enters.evaluates.whole.framed inner enters.at (record { parent = Some frame; site = site; current = current }) enters.frame enters.framed in
    let same : it.at ≡ enters.at = same_Some it.at enters.at (sym it.framed ∙ framed-later b c grows enters.evaluates.whole inner enters.at enters.framed) in
    record {
      evaluates = Evaluates-in a b c whole bound (Some frame) site current inner (number ∷ []) enters (Evaluates-under b c least bound (number ∷ []) no_more it.evaluates) number other of outcome
          (subst (λ (n : ℕ). IsLine c.lines number of n other outcome) same it.says);
      at = line.0;
      framed = framed-later b c grows enters.evaluates.whole frame line.0 line.1;
      says = (
        it.at,
        subst (λ (ls : List Line). IsLine ls it.at kind.Frame line.0 site (says.Value current)) (sym grows.lines)
            (IsLine-stays b.lines grows.more_lines it.at kind.Frame line.0 site (says.Value current)
            (subst (λ (n : ℕ). IsLine b.lines n kind.Frame line.0 site (says.Value current)) (sym same) line.2)),
        it.says,
      );
    }
