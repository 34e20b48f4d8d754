-- An engine that has evaluated nothing.
use Rattle.std.proofs.Common.{◌≡◌, ℕ, true, sym, ap, subst, ◌∙◌, arith, slice_get, List, [], ◌∷◌, ◌++◌, All, length, Option, Some, None, Result, Ok, Err}
use Rattle.std.specs.Prelude.{IfOk, OnErr}
use Rattle.std.specs.declared.alloc.AllocError.{AllocError}
use Rattle.evidence_lines.specs.Versioned.{Versioned}
use Rattle.std.proofs.lemmas.List.Elements.{All-nil}
use Rattle.std.proofs.lemmas.Option.{none-some}
use Rattle.evidence_lines.specs.Lines.{line_of}
use Rattle.evidence_lines.specs.declared.line.Line.{Line}
use Rattle.evidence_lines.specs.declared.line.LineKind.{LineKind}
use Rattle.evidence_lines.specs.declared.version.Version.TheVariants.{Two}
use Rattle.rule_meaning.specs.StoreModel.{Made, StoreModel}
use Rattle.rule_names.specs.Pieces.{Piece}
use Rattle.evidence_rules.specs.Follows.{Follows, nothing_made}
use Rattle.evidence_rules.specs.code.Judgement.{FollowTo}
use Rattle.scope_frames.specs.declared.frame.Frame.{Frame}
use Rattle.engine_states.specs.code.Kinds.{kind_beside, own_kind}
use Rattle.engine_states.specs.code.Ruling.{Rests}
use Rattle.engine_states.specs.code.States.{FollowUp, HasJust, IsWhole, State, StillFollows, is_known_outcome}
use Rattle.engine_states.proofs.AddedLines.{follow-more, same-known}
use Rattle.engine_states.proofs.SaidStays.{line-within}

-- no line has a number
no-line : (number : ℕ) (l : Line) → line_of [] number ≡ Some l → ⊥
no-line number l e = let within = line-within [] number l e in omega (arith, within.0, within.1)

none-made : (known : StoreModel) → known.made ≡ [] → nothing_made known.template known.file ≡ known
none-made known empty = ap (λ (made : List Made). record { template = known.template; file = known.file; made = made }) (sym empty)

module _ (s : State) (made : s.known.made ≡ []) (lines : s.lines ≡ []) (frames : s.frames ≡ []) (framed : s.framed ≡ [])
    (parts : (n m : ℕ) → s.parts n m ≡ None) (beside : (n m : ℕ) → s.beside n m ≡ None) (rules : (m : ℕ) → s.rules m ≡ None) where
  empty-table : (kind_of : Option Piece → Option LineKind) (table : ℕ → ℕ → Option ℕ) → ((n m : ℕ) → table n m ≡ None) → HasJust s.known.file s.lines s.framed kind_of table
  empty-table kind_of table none = record {
    sound = λ n m number e. absurd (none-some number (sym (none n m) ∙ e));
    whole = λ n m number at of outcome there is_of is. absurd (none-some at (sym (ap (λ (ns : List ℕ). slice_get ns n) framed) ∙ there));
  }

  gone : (number : ℕ) (l : Line) → line_of s.lines number ≡ Some l → ⊥
  gone number l e = no-line number l (sym (ap (λ (ls : List Line). line_of ls number) lines) ∙ e)

  pub nothing-whole : IsWhole s
  nothing-whole = record {
    follow = subst (λ (ls : List Line). FollowTo Two (nothing_made s.known.template s.known.file) [] ls s.known) (sym lines) (none-made s.known made);
    known = subst (All (λ (l : Line). is_known_outcome s.known l.outcome ≡ true)) (sym lines) (All-nil (λ (l : Line). is_known_outcome s.known l.outcome ≡ true));
    entered = λ n frame e. absurd (none-some frame (sym (ap (λ (fs : List Frame). slice_get fs n) frames) ∙ e));
    framed = λ n frame e. absurd (none-some frame (sym (ap (λ (fs : List Frame). slice_get fs n) frames) ∙ e));
    counted = ap length framed ∙ sym (ap length frames);
    distinct = λ n m number e f. absurd (none-some number (sym (ap (λ (ns : List ℕ). slice_get ns n) framed) ∙ e));
    apart = λ n m frame e f. absurd (none-some frame (sym (ap (λ (fs : List Frame). slice_get fs n) frames) ∙ e));
    framing = λ number l e is. absurd (gone number l e);
    placed = λ number l e is. absurd (gone number l e);
    parts = empty-table own_kind s.parts parts;
    beside = empty-table kind_beside s.beside beside;
    rules = record {
      sound = λ m number e. absurd (none-some number (sym (rules m) ∙ e));
      whole = λ m number at outcome is. absurd (gone number is.line is.stands);
    };
  }

  -- nothing is to be named
  pub nothing-rests : Rests s
  nothing-rests = record { whole = nothing-whole; named = λ number l e other. absurd (gone number l e) }

-- ---- what holds whatever comes

-- where the lines follow, this does
pub still-follows : (known : StoreModel) (lines : List Line) → FollowUp known lines → StillFollows known lines
still-follows known lines follow = record { last = known; follow = follow; more = []; holds = sym (same-known known) }

-- also with a line more that follows, whether it was added or not
pub pushed-follows : (r : Result ℕ AllocError) (known : StoreModel) (before after : Versioned) (line : Line) → FollowUp known before.lines → Follows Two known before.lines line []
    → IfOk r (λ number. (after.lines ≡ before.lines ++ line ∷ []) × (number ≡ length after.lines)) → OnErr r (after ≡ before) → StillFollows known after.lines
pushed-follows (Ok number) known before after line follow follows added kept =
    subst (StillFollows known) (sym added.0) (still-follows known (before.lines ++ line ∷ []) (follow-more known before.lines line follow follows))
pushed-follows (Err e) known before after line follow follows added kept =
    subst (λ (v : Versioned). StillFollows known v.lines) (sym kept) (still-follows known before.lines follow)

-- no line and no tree
pub nothing-follows : (known : StoreModel) (lines : List Line) → known.made ≡ [] → lines ≡ [] → StillFollows known lines
nothing-follows known lines made none = still-follows known lines (subst (FollowUp known) (sym none) (none-made known made))
