-- A line that is pushed keeps whatever holds of an engine, where it follows, has no place yet, and is no line of a frame.
use Rattle.std.proofs.Common.{◌≡◌, ℕ, suc, Bool, true, false, refl, sym, ap, ap₂, ◌∙◌, subst, inl, inr, List, [], ◌∷◌, ◌++◌, length, append-nil, Option, Some, None, option_map, true≢false}
use Rattle.std.proofs.lemmas.List.Elements.{All-append, All-cons, All-nil}
use Rattle.std.proofs.lemmas.Option.{same_Some, none-some}
use Rattle.evidence_lines.specs.declared.line.Line.{Line}
use Rattle.evidence_lines.specs.declared.line.LineKind.{LineKind}
use Rattle.evidence_lines.specs.declared.line.LineKind.TheVariants as kind
use Rattle.evidence_lines.specs.declared.line.Outcome.{Outcome}
use Rattle.evidence_lines.specs.declared.version.Version.TheVariants.{Two}
use Rattle.guard_syntax.specs.Syntax.{Expr, Part, Step, block, guarded, kinds, test, refer, call, this, var, key, index, every, items, splice, filter, keys, literal, function, asked, found}
use Rattle.rule_names.specs.Pieces.{Piece, OfFile, OfLet, OfRule, OfBody, OfConds, OfDisj, OfPart, OfQuery, OfStep, OfExpr, piece_at}
use Rattle.rule_meaning.specs.Places.{step_in, steps_in}
use Rattle.rule_meaning.specs.Seeing.{grown}
use Rattle.rule_meaning.specs.StoreModel.{StoreModel}
use Rattle.evidence_rules.specs.Follows.{Follows, nothing_made}
use Rattle.evidence_rules.specs.code.Judgement.{FollowTo}
use Rattle.scope_frames.specs.declared.frame.Frame.{Frame}
use Rattle.engine_states.specs.code.Adding.{Added, Adds, line_for}
use Rattle.engine_states.specs.code.Kinds.{is_frame, kind_beside, kind_beside_part, kind_of_expr, kind_of_part, kind_of_step, own_kind}
use Rattle.engine_states.specs.code.States.{Grows, HasJust, HasRules, IsWhole, State, is_known_outcome}
use Rattle.engine_states.proofs.FramesSaid.{AreFramed-stays}
use Rattle.engine_states.proofs.SaidStays.{FollowTo-more, line-before-or-pushed}
use Rattle.engine_states.proofs.Tables.{HasJust-added, HasJust-other, HasRules-added, HasRules-other}

-- ---- kinds

-- of which kinds the lines of parts are: not those of frames, nor those beside, nor those of rules
abbrev pub is_own : LineKind → Bool
is_own kind.File = false
is_own kind.Frame = false
is_own kind.Capture = false
is_own kind.Types = false
is_own kind.Rule = false
is_own _ = true

abbrev pub is_beside : LineKind → Bool
is_beside kind.Capture = true
is_beside kind.Types = true
is_beside _ = false

told : (passes : LineKind → Bool) (b : Bool) (k of : LineKind) → passes k ≡ b → Some k ≡ Some of → passes of ≡ b
told passes b k of is e = ap passes (sym (same_Some k of e)) ∙ is

step-own : (p : Step) → is_own (kind_of_step p) ≡ true
step-own (this n) = refl
step-own (var n name) = refl
step-own (key n name) = refl
step-own (index n i) = refl
step-own (every n) = refl
step-own (items n) = refl
step-own (splice n name) = refl
step-own (filter n capture conditions) = refl
step-own (keys n capture op negated right) = refl

part-own : (p : Part) → is_own (kind_of_part p) ≡ true
part-own (block n any head inner) = refl
part-own (guarded n conditions inner) = refl
part-own (kinds n name conditions inner) = refl
part-own (test n any left op negated right message) = refl
part-own (refer n negated name message) = refl
part-own (call n negated name args message) = refl

expr-own : (e : Expr) (of : LineKind) → kind_of_expr e ≡ Some of → is_own of ≡ true
expr-own (literal n tree) of e = told is_own true kind.Literal of refl e
expr-own (function n name args) of e = told is_own true kind.Fn of refl e
expr-own (asked q) of e = absurd (none-some of e)
expr-own (found n q) of e = told is_own true kind.Found of refl e

step-in-own : (o : Option Step) (of : LineKind) → option_map kind_of_step o ≡ Some of → is_own of ≡ true
step-in-own None of e = absurd (none-some of e)
step-in-own (Some p) of e = told is_own true (kind_of_step p) of (step-own p) e

pub own-is : (piece : Option Piece) (of : LineKind) → own_kind piece ≡ Some of → is_own of ≡ true
own-is None of e = absurd (none-some of e)
own-is (Some (OfStep q i)) of e = step-in-own (step_in (steps_in q) i) of e
own-is (Some (OfExpr x)) of e = expr-own x of e
own-is (Some (OfPart part)) of e = told is_own true (kind_of_part part) of (part-own part) e
own-is (Some (OfDisj d)) of e = told is_own true kind.Disj of refl e
own-is (Some (OfBody b)) of e = told is_own true kind.Conj of refl e
own-is (Some (OfConds c)) of e = told is_own true kind.Conj of refl e
own-is (Some OfFile) of e = told is_own true kind.Conj of refl e
own-is (Some (OfLet l)) of e = absurd (none-some of e)
own-is (Some (OfRule r)) of e = absurd (none-some of e)
own-is (Some (OfQuery q)) of e = absurd (none-some of e)

beside-part : (part : Part) (of : LineKind) → kind_beside_part part ≡ Some of → is_beside of ≡ true
beside-part (kinds n name conditions inner) of e = told is_beside true kind.Types of refl e
beside-part (block n any head inner) of e = absurd (none-some of e)
beside-part (guarded n conditions inner) of e = absurd (none-some of e)
beside-part (test n any left op negated right message) of e = absurd (none-some of e)
beside-part (refer n negated name message) of e = absurd (none-some of e)
beside-part (call n negated name args message) of e = absurd (none-some of e)

pub beside-is : (piece : Option Piece) (of : LineKind) → kind_beside piece ≡ Some of → is_beside of ≡ true
beside-is None of e = absurd (none-some of e)
beside-is (Some (OfStep q i)) of e = told is_beside true kind.Capture of refl e
beside-is (Some (OfPart part)) of e = beside-part part of e
beside-is (Some (OfExpr x)) of e = absurd (none-some of e)
beside-is (Some (OfDisj d)) of e = absurd (none-some of e)
beside-is (Some (OfBody b)) of e = absurd (none-some of e)
beside-is (Some (OfConds c)) of e = absurd (none-some of e)
beside-is (Some OfFile) of e = absurd (none-some of e)
beside-is (Some (OfLet l)) of e = absurd (none-some of e)
beside-is (Some (OfRule r)) of e = absurd (none-some of e)
beside-is (Some (OfQuery q)) of e = absurd (none-some of e)

pub own-plain : (of : LineKind) → is_own of ≡ true → is_frame of ≡ false
own-plain kind.File e = absurd (true≢false (sym e))
own-plain kind.Frame e = absurd (true≢false (sym e))
own-plain _ e = refl

pub beside-plain : (of : LineKind) → is_beside of ≡ true → is_frame of ≡ false
beside-plain kind.File e = absurd (true≢false (sym e))
beside-plain kind.Frame e = absurd (true≢false (sym e))
beside-plain _ e = refl

own-not-beside : (of : LineKind) → is_own of ≡ true → is_beside of ≡ false
own-not-beside kind.Capture e = absurd (true≢false (sym e))
own-not-beside kind.Types e = absurd (true≢false (sym e))
own-not-beside _ e = refl

pub not-beside : (piece : Option Piece) (of : LineKind) → is_own of ≡ true → kind_beside piece ≡ Some of → ⊥
not-beside piece of own e = true≢false (sym (beside-is piece of e) ∙ own-not-beside of own)

pub not-own : (piece : Option Piece) (of : LineKind) → is_beside of ≡ true → own_kind piece ≡ Some of → ⊥
not-own piece of beside e = true≢false (sym beside ∙ own-not-beside of (own-is piece of e))

pub own-not-rule : (of : LineKind) → is_own of ≡ true → of ≡ kind.Rule → ⊥
own-not-rule of own e = true≢false (sym own ∙ ap is_own e)

pub beside-not-rule : (of : LineKind) → is_beside of ≡ true → of ≡ kind.Rule → ⊥
beside-not-rule of beside e = true≢false (sym beside ∙ ap is_beside e)

rule-not-own : (piece : Option Piece) → own_kind piece ≡ Some kind.Rule → ⊥
rule-not-own piece e = true≢false (sym (own-is piece kind.Rule e))

rule-not-beside : (piece : Option Piece) → kind_beside piece ≡ Some kind.Rule → ⊥
rule-not-beside piece e = true≢false (sym (beside-is piece kind.Rule e))

-- ---- one line more

pub same-known : (known : StoreModel) → grown known [] ≡ known
same-known known = ap (λ m. record { template = known.template; file = known.file; made = m }) (append-nil known.made)

pub follow-more : (known : StoreModel) (lines : List Line) (line : Line) → FollowTo Two (nothing_made known.template known.file) [] lines known
    → Follows Two known lines line [] → FollowTo Two (nothing_made known.template known.file) [] (lines ++ line ∷ []) known
follow-more known lines line follow follows =
    subst (FollowTo Two (nothing_made known.template known.file) [] (lines ++ line ∷ [])) (same-known known)
    (FollowTo-more Two (nothing_made known.template known.file) lines known line [] follow follows)

module _ (s : State) (whole : IsWhole s) (frame site : ℕ) (of : LineKind) (cites : List ℕ) (outcome : Outcome) (adds : Adds s frame site of cites outcome) where
  abbrev pub pushed : List Line
  pushed = s.lines ++ line_for adds.at site of cites outcome ∷ []

  -- the state with the line, and tables that have it
  abbrev pub with_line : (parts beside : ℕ → ℕ → Option ℕ) (rules : ℕ → Option ℕ) → State
  with_line parts beside rules = record { known = s.known; frames = s.frames; lines = pushed; framed = s.framed; parts = parts; beside = beside; rules = rules }

  -- the tables that have it
  record HaveIt (parts beside : ℕ → ℕ → Option ℕ) (rules : ℕ → Option ℕ) : Type 0 where
    pub parts_have : HasJust s.known.file pushed s.framed own_kind parts
    pub beside_have : HasJust s.known.file pushed s.framed kind_beside beside
    pub rules_have : HasRules pushed rules

  whole-with : (parts beside : ℕ → ℕ → Option ℕ) (rules : ℕ → Option ℕ) → is_frame of ≡ false → HaveIt parts beside rules → IsWhole (with_line parts beside rules)
  whole-with parts beside rules plain have = record {
    follow = follow-more s.known s.lines (line_for adds.at site of cites outcome) whole.follow adds.follows;
    known = All-append (λ (l : Line). is_known_outcome s.known l.outcome ≡ true) s.lines (line_for adds.at site of cites outcome ∷ []) whole.known
        (All-cons (λ (l : Line). is_known_outcome s.known l.outcome ≡ true) (line_for adds.at site of cites outcome) [] adds.known
        (All-nil (λ (l : Line). is_known_outcome s.known l.outcome ≡ true)));
    entered = whole.entered;
    framed = AreFramed-stays s.lines (line_for adds.at site of cites outcome ∷ []) s.framed s.frames whole.framed;
    counted = whole.counted;
    distinct = whole.distinct;
    apart = whole.apart;
    framing = λ number l is framing. elim (line-before-or-pushed s.lines (line_for adds.at site of cites outcome) number l is) [
      | inl old ↦ whole.framing number l old framing
      | inr (last, same) ↦ absurd (true≢false (sym framing ∙ ap (λ (x : Line). is_frame x.kind) (sym same) ∙ plain))
    ];
    placed = λ number l is apart. elim (line-before-or-pushed s.lines (line_for adds.at site of cites outcome) number l is) [
      | inl old ↦ whole.placed number l old apart
      | inr (last, same) ↦ (frame, adds.at, adds.framed, ap (λ (x : Line). x.frame) (sym same))
    ];
    parts = have.parts_have;
    beside = have.beside_have;
    rules = have.rules_have;
  }

  grows-with : (parts beside : ℕ → ℕ → Option ℕ) (rules : ℕ → Option ℕ) → Grows s (with_line parts beside rules)
  grows-with parts beside rules = record {
    made = [];
    known = sym (same-known s.known);
    more_frames = [];
    frames = sym (append-nil s.frames);
    more_lines = line_for adds.at site of cites outcome ∷ [];
    lines = refl;
    more_framed = [];
    framed = sym (append-nil s.framed);
  }

  -- the line of a part
  pub part-added : own_kind (piece_at s.known.file site) ≡ Some of → s.parts frame site ≡ None → (parts beside : ℕ → ℕ → Option ℕ) (rules : ℕ → Option ℕ)
      → parts frame site ≡ Some (suc (length s.lines)) → ((n m : ℕ) → (n ≡ frame → m ≡ site → ⊥) → parts n m ≡ s.parts n m)
      → ((n m : ℕ) → beside n m ≡ s.beside n m) → ((m : ℕ) → rules m ≡ s.rules m)
      → Added s (with_line parts beside rules) frame site of cites outcome (suc (length s.lines))
  part-added kind_is new parts beside rules put stays same_beside same_rules =
      let own = own-is (piece_at s.known.file site) of kind_is in
      record {
        grows = grows-with parts beside rules;
        whole = whole-with parts beside rules (own-plain of own) (record {
          parts_have = HasJust-added s.known.file s.lines s.framed own_kind s.parts whole.distinct whole.parts frame adds.at site of cites outcome adds.framed parts kind_is new put stays;
          beside_have = HasJust-other s.known.file s.lines s.framed kind_beside s.beside whole.distinct whole.beside frame adds.at site of cites outcome adds.framed beside
              (not-beside (piece_at s.known.file site) of own) same_beside;
          rules_have = HasRules-other s.lines s.rules whole.rules adds.at site of cites outcome rules (own-not-rule of own) same_rules;
        });
        at = adds.at;
        framed = adds.framed;
        number_is = refl;
        lines = refl;
        stays = λ n m other. (stays n m other, same_beside n m);
        parts = λ not_own. absurd (not_own kind_is);
        beside = λ not_beside. same_beside;
        rules = λ not_rule. same_rules;
      }

  -- the line beside that of a part
  pub beside-added : kind_beside (piece_at s.known.file site) ≡ Some of → s.beside frame site ≡ None → (parts beside : ℕ → ℕ → Option ℕ) (rules : ℕ → Option ℕ)
      → beside frame site ≡ Some (suc (length s.lines)) → ((n m : ℕ) → (n ≡ frame → m ≡ site → ⊥) → beside n m ≡ s.beside n m)
      → ((n m : ℕ) → parts n m ≡ s.parts n m) → ((m : ℕ) → rules m ≡ s.rules m)
      → Added s (with_line parts beside rules) frame site of cites outcome (suc (length s.lines))
  beside-added kind_is new parts beside rules put stays same_parts same_rules =
      let is = beside-is (piece_at s.known.file site) of kind_is in
      record {
        grows = grows-with parts beside rules;
        whole = whole-with parts beside rules (beside-plain of is) (record {
          parts_have = HasJust-other s.known.file s.lines s.framed own_kind s.parts whole.distinct whole.parts frame adds.at site of cites outcome adds.framed parts
              (not-own (piece_at s.known.file site) of is) same_parts;
          beside_have = HasJust-added s.known.file s.lines s.framed kind_beside s.beside whole.distinct whole.beside frame adds.at site of cites outcome adds.framed beside kind_is new put stays;
          rules_have = HasRules-other s.lines s.rules whole.rules adds.at site of cites outcome rules (beside-not-rule of is) same_rules;
        });
        at = adds.at;
        framed = adds.framed;
        number_is = refl;
        lines = refl;
        stays = λ n m other. (same_parts n m, stays n m other);
        parts = λ not_own. same_parts;
        beside = λ not_beside. absurd (not_beside kind_is);
        rules = λ not_rule. same_rules;
      }

  -- that of a rule
  pub rule-added : of ≡ kind.Rule → s.rules site ≡ None → (parts beside : ℕ → ℕ → Option ℕ) (rules : ℕ → Option ℕ)
      → rules site ≡ Some (suc (length s.lines)) → ((m : ℕ) → (m ≡ site → ⊥) → rules m ≡ s.rules m)
      → ((n m : ℕ) → parts n m ≡ s.parts n m) → ((n m : ℕ) → beside n m ≡ s.beside n m)
      → Added s (with_line parts beside rules) frame site of cites outcome (suc (length s.lines))
  rule-added kind_is new parts beside rules put stays same_parts same_beside = record {
    grows = grows-with parts beside rules;
    whole = whole-with parts beside rules (ap is_frame kind_is) (record {
      parts_have = HasJust-other s.known.file s.lines s.framed own_kind s.parts whole.distinct whole.parts frame adds.at site of cites outcome adds.framed parts
          (λ e. rule-not-own (piece_at s.known.file site) (e ∙ ap Some kind_is)) same_parts;
      beside_have = HasJust-other s.known.file s.lines s.framed kind_beside s.beside whole.distinct whole.beside frame adds.at site of cites outcome adds.framed beside
          (λ e. rule-not-beside (piece_at s.known.file site) (e ∙ ap Some kind_is)) same_beside;
      rules_have = HasRules-added s.lines s.rules whole.rules adds.at site of cites outcome rules kind_is new put stays;
    });
    at = adds.at;
    framed = adds.framed;
    number_is = refl;
    lines = refl;
    stays = λ n m other. (same_parts n m, same_beside n m);
    parts = λ not_own. same_parts;
    beside = λ not_beside. same_beside;
    rules = λ not_rule. absurd (not_rule kind_is);
  }

  -- ---- the same of any state with the line

  same-state : (after : State) → after.known ≡ s.known → after.frames ≡ s.frames → after.lines ≡ pushed → after.framed ≡ s.framed → after ≡ with_line after.parts after.beside after.rules
  same-state after known_is frames_are lines_are framed_are =
      ap₂ (λ (k : StoreModel) (fs : List Frame). record { known = k; frames = fs; lines = after.lines; framed = after.framed; parts = after.parts; beside = after.beside; rules = after.rules })
      known_is frames_are
      ∙ ap₂ (λ (ls : List Line) (ns : List ℕ). record { known = s.known; frames = s.frames; lines = ls; framed = ns; parts = after.parts; beside = after.beside; rules = after.rules })
      lines_are framed_are

  pub is-part-added : (after : State) (number : ℕ) → own_kind (piece_at s.known.file site) ≡ Some of → s.parts frame site ≡ None
      → after.known ≡ s.known → after.frames ≡ s.frames → after.lines ≡ pushed → after.framed ≡ s.framed → number ≡ suc (length s.lines)
      → after.parts frame site ≡ Some number → ((n m : ℕ) → (n ≡ frame → m ≡ site → ⊥) → after.parts n m ≡ s.parts n m)
      → ((n m : ℕ) → after.beside n m ≡ s.beside n m) → ((m : ℕ) → after.rules m ≡ s.rules m)
      → Added s after frame site of cites outcome number
  is-part-added after number kind_is new known_is frames_are lines_are framed_are number_is put stays same_beside same_rules =
      subst (Added s after frame site of cites outcome) (sym number_is)
      (subst (λ (t : State). Added s t frame site of cites outcome (suc (length s.lines))) (sym (same-state after known_is frames_are lines_are framed_are))
      (part-added kind_is new after.parts after.beside after.rules (put ∙ ap Some number_is) stays same_beside same_rules))

  pub is-beside-added : (after : State) (number : ℕ) → kind_beside (piece_at s.known.file site) ≡ Some of → s.beside frame site ≡ None
      → after.known ≡ s.known → after.frames ≡ s.frames → after.lines ≡ pushed → after.framed ≡ s.framed → number ≡ suc (length s.lines)
      → after.beside frame site ≡ Some number → ((n m : ℕ) → (n ≡ frame → m ≡ site → ⊥) → after.beside n m ≡ s.beside n m)
      → ((n m : ℕ) → after.parts n m ≡ s.parts n m) → ((m : ℕ) → after.rules m ≡ s.rules m)
      → Added s after frame site of cites outcome number
  is-beside-added after number kind_is new known_is frames_are lines_are framed_are number_is put stays same_parts same_rules =
      subst (Added s after frame site of cites outcome) (sym number_is)
      (subst (λ (t : State). Added s t frame site of cites outcome (suc (length s.lines))) (sym (same-state after known_is frames_are lines_are framed_are))
      (beside-added kind_is new after.parts after.beside after.rules (put ∙ ap Some number_is) stays same_parts same_rules))

  pub is-rule-added : (after : State) (number : ℕ) → of ≡ kind.Rule → s.rules site ≡ None
      → after.known ≡ s.known → after.frames ≡ s.frames → after.lines ≡ pushed → after.framed ≡ s.framed → number ≡ suc (length s.lines)
      → after.rules site ≡ Some number → ((m : ℕ) → (m ≡ site → ⊥) → after.rules m ≡ s.rules m)
      → ((n m : ℕ) → after.parts n m ≡ s.parts n m) → ((n m : ℕ) → after.beside n m ≡ s.beside n m)
      → Added s after frame site of cites outcome number
  is-rule-added after number kind_is new known_is frames_are lines_are framed_are number_is put stays same_parts same_beside =
      subst (Added s after frame site of cites outcome) (sym number_is)
      (subst (λ (t : State). Added s t frame site of cites outcome (suc (length s.lines))) (sym (same-state after known_is frames_are lines_are framed_are))
      (rule-added kind_is new after.parts after.beside after.rules (put ∙ ap Some number_is) stays same_parts same_beside))
