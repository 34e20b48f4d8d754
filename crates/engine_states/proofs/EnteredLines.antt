-- A frame that is entered for the first time keeps whatever holds of an engine, with its line.
use Rattle.std.proofs.Common.{◌≡◌, ◌<◌, ◌≤◌, ℕ, suc, true, refl, sym, ap, ap₂, ◌∙◌, subst, inl, inr, arith, slice_get, List, [], ◌∷◌, ◌++◌, length, Option, Some, None, true≢false}
use Rattle.std.specs.Prelude.{nat_lt}
use Rattle.std.proofs.lemmas.Bool.Decides.{nat_tests}
use Rattle.doc_values.specs.Tree.{Forest, IsTree, Nil, Node, size}
use Rattle.std.proofs.lemmas.List.Elements.{All-append, All-cons, All-nil}
use Rattle.std.proofs.lemmas.Option.{same_Some, slice_get_within}
use Rattle.evidence_lines.specs.declared.line.Line.{Line}
use Rattle.evidence_lines.specs.declared.line.LineKind.{LineKind}
use Rattle.evidence_lines.specs.declared.line.LineKind.TheVariants as kind
use Rattle.evidence_lines.specs.declared.line.Outcome.TheVariants as says
use Rattle.evidence_lines.specs.declared.version.Version.TheVariants.{Two}
use Rattle.guard_syntax.specs.declared.row.Ref.{Ref}
use Rattle.rule_names.specs.EnclosingScopes.{home_of}
use Rattle.rule_names.specs.Pieces.{Piece, piece_at}
use Rattle.rule_meaning.specs.Roots.{root_ref}
use Rattle.rule_meaning.specs.StoreModel.{StoreModel, is_known_ref}
use Rattle.evidence_rules.specs.Follows.{Follows, IsFrameOf, nothing_made}
use Rattle.scope_frames.specs.code.Entering as entering
use Rattle.scope_frames.specs.code.Frames.{AreEntered, MayEnter}
use Rattle.scope_frames.specs.declared.frame.Frame.{Frame}
use Rattle.scope_frames.proofs.EnteredFrames.{has-frame}
use Rattle.engine_states.specs.code.Entered.{Enters, IsFramed, IsLineFor, MayHaveValue}
use Rattle.engine_states.specs.code.Kinds.{is_frame, kind_beside, own_kind}
use Rattle.engine_states.specs.code.Lines.{HasLine}
use Rattle.engine_states.specs.code.States.{Grows, HasJust, HasRules, IsWhole, State, is_known_outcome}
use Rattle.engine_states.proofs.AddedLines.{beside-plain, beside-is, follow-more, own-is, own-plain, same-known}
use Rattle.engine_states.proofs.Elements.{none-among}
use Rattle.engine_states.proofs.Evaluating.{Evaluates-found}
use Rattle.engine_states.proofs.FrameEnvironments.{frame-at}
use Rattle.engine_states.proofs.FramesSaid.{AreFramed-pushed, counted-more, frame-numbered, has-line, name-earlier, stands-said}
use Rattle.engine_states.proofs.Named.{named-last, named-none}
use Rattle.engine_states.proofs.SaidStays.{IsLine-pushed, IsLine-stays, at-last, kept-ahead, last-of, line-before-or-pushed, line-pushed, line-within}

-- the number of a frame is that of a line
framed-within : (s : State) → IsWhole s → (n number : ℕ) → slice_get s.framed n ≡ Some number → number ≤ length s.lines
framed-within s whole n number there =
    let within = slice_get_within s.framed n number there in
    let it = frame-at s.frames n (omega (arith, within, whole.counted)) in
    (frame-numbered s.known.file s.lines s.framed it.0.parent it.0.site it.0.current number
    (has-line s.known.file s.lines s.framed s.frames whole.framed n number it.0 it.1 there)).1

-- the line of a frame is neither that of a part nor one beside it
frame-not-own : (piece : Option Piece) (of : LineKind) → is_frame of ≡ true → own_kind piece ≡ Some of → ⊥
frame-not-own piece of is e = true≢false (sym is ∙ own-plain of (own-is piece of e))

frame-not-beside : (piece : Option Piece) (of : LineKind) → is_frame of ≡ true → kind_beside piece ≡ Some of → ⊥
frame-not-beside piece of is e = true≢false (sym is ∙ beside-plain of (beside-is piece of e))

-- ---- a table with a frame more and its line

module _ (s : State) (whole : IsWhole s) (line : Line) (is : is_frame line.kind ≡ true) where
  abbrev ahead : List Line
  ahead = s.lines ++ line ∷ []

  abbrev framed_ahead : List ℕ
  framed_ahead = s.framed ++ suc (length s.lines) ∷ []

  HasJust-entered : (kind_of : Option Piece → Option LineKind) (table after : ℕ → ℕ → Option ℕ)
      → ((piece : Option Piece) (of : LineKind) → is_frame of ≡ true → kind_of piece ≡ Some of → ⊥) → HasJust s.known.file s.lines s.framed kind_of table
      → ((n m : ℕ) → after n m ≡ table n m) → HasJust s.known.file ahead framed_ahead kind_of after
  HasJust-entered kind_of table after apart has same = record {
    sound = λ n m number e.
        let it = has.sound n m number (sym (same n m) ∙ e) in
        (it.0, it.1, it.2, kept-ahead s.framed (suc (length s.lines) ∷ []) n it.0 it.3, it.4, IsLine-stays s.lines (line ∷ []) number it.1 it.0 m it.2 it.5);
    whole = λ n m number at of outcome framed_n is_of said. elim (line-before-or-pushed s.lines line number said.line said.stands) [
      | inl old ↦ elim (last-of s.framed (suc (length s.lines)) n at framed_n) [
        | inl there ↦
            same n m ∙ has.whole n m number at of outcome there is_of
            (record { line = said.line; stands = old; kind_is = said.kind_is; frame_is = said.frame_is; site_is = said.site_is; outcome_is = said.outcome_is })
        | inr (last, number_is) ↦
            let before : at < number = name-earlier Two (nothing_made s.known.template s.known.file) s.lines s.known whole.follow number at said.line old said.frame_is in
            let within = line-within s.lines number said.line old in
            absurd (omega (arith, before, within.1, number_is))
      ]
      | inr (last, here) ↦ absurd (apart (piece_at s.known.file m) of (sym (ap is_frame (ap (λ (l : Line). l.kind) here ∙ said.kind_is)) ∙ is) is_of)
    ];
  }

  HasRules-entered : (table after : ℕ → Option ℕ) → HasRules s.lines table → ((m : ℕ) → after m ≡ table m) → HasRules ahead after
  HasRules-entered table after has same = record {
    sound = λ m number e.
        let it = has.sound m number (sym (same m) ∙ e) in
        (it.0, it.1, IsLine-stays s.lines (line ∷ []) number kind.Rule it.0 m it.1 it.2);
    whole = λ m number at outcome said. elim (line-before-or-pushed s.lines line number said.line said.stands) [
      | inl old ↦
          same m ∙ has.whole m number at outcome
          (record { line = said.line; stands = old; kind_is = said.kind_is; frame_is = said.frame_is; site_is = said.site_is; outcome_is = said.outcome_is })
      | inr (last, here) ↦ absurd (true≢false (sym is ∙ ap is_frame (ap (λ (l : Line). l.kind) here ∙ said.kind_is)))
    ];
  }

-- ---- a frame more

module _ (s : State) (whole : IsWhole s) (frame : Frame) (line : Line) (follows : Follows Two s.known s.lines line []) (known : is_known_outcome s.known line.outcome ≡ true)
    (is : is_frame line.kind ≡ true) (has : HasLine (s.lines ++ line ∷ []) s.framed frame (suc (length s.lines)))
    (entered : AreEntered s.known.file (s.frames ++ frame ∷ [])) (alone : (n : ℕ) → slice_get (s.frames ++ frame ∷ []) n ≡ Some frame → n ≡ length s.frames)
    (parts beside : ℕ → ℕ → Option ℕ) (rules : ℕ → Option ℕ)
    (same_parts : (n m : ℕ) → parts n m ≡ s.parts n m) (same_beside : (n m : ℕ) → beside n m ≡ s.beside n m) (same_rules : (m : ℕ) → rules m ≡ s.rules m) where
  abbrev pub with_frame : State
  with_frame = record {
    known = s.known;
    frames = s.frames ++ frame ∷ [];
    lines = s.lines ++ line ∷ [];
    framed = s.framed ++ suc (length s.lines) ∷ [];
    parts = parts;
    beside = beside;
    rules = rules;
  }

  still-distinct : (n m number : ℕ) → slice_get with_frame.framed n ≡ Some number → slice_get with_frame.framed m ≡ Some number → n ≡ m
  still-distinct n m number e f = elim (last-of s.framed (suc (length s.lines)) n number e) [
    | inl there ↦ elim (last-of s.framed (suc (length s.lines)) m number f) [
      | inl also ↦ whole.distinct n m number there also
      | inr (last, number_is) ↦ let within = framed-within s whole n number there in absurd (omega (arith, within, number_is))
    ]
    | inr (last, number_is) ↦ elim (last-of s.framed (suc (length s.lines)) m number f) [
      | inl also ↦ let within = framed-within s whole m number also in absurd (omega (arith, within, number_is))
      | inr (also, same) ↦ last ∙ sym also
    ]
  ]

  still-apart : (n m : ℕ) (other : Frame) → slice_get with_frame.frames n ≡ Some other → slice_get with_frame.frames m ≡ Some other → n ≡ m
  still-apart n m other e f = elim (last-of s.frames frame n other e) [
    | inl there ↦ elim (last-of s.frames frame m other f) [
      | inl also ↦ whole.apart n m other there also
      | inr (last, same) ↦ alone n (e ∙ ap Some (sym same)) ∙ sym last
    ]
    | inr (last, same) ↦ last ∙ sym (alone m (f ∙ ap Some (sym same)))
  ]

  pub whole-entered : IsWhole with_frame
  whole-entered = record {
    follow = follow-more s.known s.lines line whole.follow follows;
    known = All-append (λ (l : Line). is_known_outcome s.known l.outcome ≡ true) s.lines (line ∷ []) whole.known
        (All-cons (λ (l : Line). is_known_outcome s.known l.outcome ≡ true) line [] known (All-nil (λ (l : Line). is_known_outcome s.known l.outcome ≡ true)));
    entered = entered;
    framed = AreFramed-pushed s.lines line s.framed s.frames frame whole.counted whole.framed has;
    counted = counted-more s.framed s.frames (suc (length s.lines)) frame whole.counted;
    distinct = still-distinct;
    apart = still-apart;
    framing = λ number l stands framing. elim (line-before-or-pushed s.lines line number l stands) [
      | inl old ↦
          let it = whole.framing number l old framing in
          (it.0, kept-ahead s.framed (suc (length s.lines) ∷ []) it.0 number it.1)
      | inr (last, same) ↦ (length s.framed, at-last s.framed (suc (length s.lines)) ∙ ap Some (sym last))
    ];
    placed = λ number l stands apart. elim (line-before-or-pushed s.lines line number l stands) [
      | inl old ↦
          let it = whole.placed number l old apart in
          (it.0, it.1, kept-ahead s.framed (suc (length s.lines) ∷ []) it.0 it.1 it.2, it.3)
      | inr (last, same) ↦ absurd (true≢false (sym is ∙ ap (λ (x : Line). is_frame x.kind) same ∙ apart))
    ];
    parts = HasJust-entered s whole line is own_kind s.parts parts frame-not-own whole.parts same_parts;
    beside = HasJust-entered s whole line is kind_beside s.beside beside frame-not-beside whole.beside same_beside;
    rules = HasRules-entered s whole line is s.rules rules whole.rules same_rules;
  }

  grows-entered : Grows s with_frame
  grows-entered = record {
    made = [];
    known = sym (same-known s.known);
    more_frames = frame ∷ [];
    frames = refl;
    more_lines = line ∷ [];
    lines = refl;
    more_framed = suc (length s.lines) ∷ [];
    framed = refl;
  }

  pub first-entered : Enters s with_frame frame.parent frame.site frame.current (length s.frames)
  first-entered = record {
    at = suc (length s.lines);
    framed = ap (slice_get with_frame.framed) (sym whole.counted) ∙ at-last s.framed (suc (length s.lines));
    frame = at-last s.frames frame;
    evaluates = record {
      grows = grows-entered;
      whole = whole-entered;
      named = named-last (length s.lines) s.lines line [] (named-none s.lines) (λ n behind among. absurd (none-among n among));
      parts = λ n m less within. same_parts n m;
      beside = λ n m less within. same_beside n m;
      rules = same_rules;
    };
  }

-- ---- the line of a frame

pub file-follows : (s : State) (v : Ref) → v ≡ root_ref
    → Follows Two s.known s.lines (record { kind = kind.File; frame = None; site = None; cites = []; outcome = says.Value v }) []
file-follows s v root = inl ((refl, refl, refl, refl, ap says.Value root), refl)

pub frame-follows : (s : State) → IsWhole s → (parent site at : ℕ) (v : Ref) → MayEnter s.known.file s.frames (Some parent) site → slice_get s.framed parent ≡ Some at
    → IsFrameOf s.known s.lines at (piece_at s.known.file site) v
    → Follows Two s.known s.lines (record { kind = kind.Frame; frame = Some at; site = Some site; cites = []; outcome = says.Value v }) []
frame-follows s whole parent site at v may there is = inr (
  at,
  site,
  refl,
  refl,
  stands-said s.known.file s.lines s.framed s.frames whole.framed parent at (home_of s.known.file site) may.0 there,
  (refl, is, refl),
)

-- ---- what is so once a frame was entered

-- one that was there
pub found-entered : (s after : State) → IsWhole s → after ≡ s → (frame : Frame) (number : ℕ) → slice_get s.frames number ≡ Some frame
    → Enters s after frame.parent frame.site frame.current number
found-entered s after whole same frame number there =
    let it = whole.framed number frame there in
    subst (λ (t : State). Enters s t frame.parent frame.site frame.current number) (sym same)
    (record { at = it.0; framed = it.1; frame = there; evaluates = Evaluates-found s 0 it.0 whole })

pub same-frames : (s after : State) → after.known ≡ s.known → after.frames ≡ s.frames → after.lines ≡ s.lines → after.framed ≡ s.framed → after.parts ≡ s.parts → after.beside ≡ s.beside
    → after.rules ≡ s.rules → after ≡ s
same-frames s after known frames lines framed parts beside rules =
    ap₂ (λ (k : StoreModel) (fs : List Frame). record { known = k; frames = fs; lines = after.lines; framed = after.framed; parts = after.parts; beside = after.beside; rules = after.rules })
    known frames
    ∙ ap₂ (λ (ls : List Line) (ns : List ℕ). record { known = s.known; frames = s.frames; lines = ls; framed = ns; parts = after.parts; beside = after.beside; rules = after.rules })
    lines framed
    ∙ ap₂ (λ (ps : ℕ → ℕ → Option ℕ) (bs : ℕ → ℕ → Option ℕ). record { known = s.known; frames = s.frames; lines = s.lines; framed = s.framed; parts = ps; beside = bs; rules = after.rules })
    parts beside
    ∙ ap (λ (rs : ℕ → Option ℕ). record { known = s.known; frames = s.frames; lines = s.lines; framed = s.framed; parts = s.parts; beside = s.beside; rules = rs }) rules

-- one that is new
module _ (s after : State) (whole : IsWhole s) (frame : Frame) (line : Line) (number : ℕ) where
  pub is-first-entered : Follows Two s.known s.lines line [] → is_known_outcome s.known line.outcome ≡ true → is_frame line.kind ≡ true
      → HasLine (s.lines ++ line ∷ []) s.framed frame (suc (length s.lines)) → AreEntered s.known.file (s.frames ++ frame ∷ [])
      → ((n : ℕ) → slice_get (s.frames ++ frame ∷ []) n ≡ Some frame → n ≡ number) → number ≡ length s.frames
      → after.known ≡ s.known → after.frames ≡ s.frames ++ frame ∷ [] → after.lines ≡ s.lines ++ line ∷ [] → after.framed ≡ s.framed ++ suc (length s.lines) ∷ []
      → ((n m : ℕ) → after.parts n m ≡ s.parts n m) → ((n m : ℕ) → after.beside n m ≡ s.beside n m) → ((m : ℕ) → after.rules m ≡ s.rules m)
      → Enters s after frame.parent frame.site frame.current number
  is-first-entered follows known is has entered alone number_is known_is frames_are lines_are framed_are same_parts same_beside same_rules =
      let made = first-entered s whole frame line follows known is has entered (λ n e. alone n e ∙ number_is) after.parts after.beside after.rules same_parts same_beside same_rules in
      let state : after ≡ with_frame s whole frame line follows known is has entered (λ n e. alone n e ∙ number_is) after.parts after.beside after.rules same_parts same_beside same_rules =
      ap₂ (λ (k : StoreModel) (fs : List Frame). record { known = k; frames = fs; lines = after.lines; framed = after.framed; parts = after.parts; beside = after.beside; rules = after.rules })
      known_is frames_are
      ∙ ap₂ (λ (ls : List Line) (ns : List ℕ). record { known = s.known; frames = s.frames ++ frame ∷ []; lines = ls; framed = ns; parts = after.parts; beside = after.beside; rules = after.rules })
      lines_are framed_are in
      subst (λ (n : ℕ). Enters s after frame.parent frame.site frame.current n) (sym number_is)
      (subst (λ (t : State). Enters s t frame.parent frame.site frame.current (length s.frames)) (sym state) made)

-- ---- the code's steps

-- whoever enters a frame in another has that one's line
pub may-framed : (s : State) → IsWhole s → (parent : Option ℕ) (site : ℕ) → MayEnter s.known.file s.frames parent site → IsFramed s.framed parent
may-framed s whole None site may = tt
may-framed s whole (Some parent) site may =
    let it = has-frame s.known.file s.frames parent (home_of s.known.file site) may.0 in
    let within = slice_get_within s.frames parent it.0 it.1 in
    omega (arith, within, whole.counted)

module _ (s : State) (whole : IsWhole s) (site : ℕ) (v : Ref) (line : Line) where
  pub enter-follows : (parent : Option ℕ) → MayEnter s.known.file s.frames parent site → MayHaveValue s parent site v → IsLineFor s.framed parent site v line
      → Follows Two s.known s.lines line []
  enter-follows None may has is = subst (λ (l : Line). Follows Two s.known s.lines l []) (sym is) (file-follows s v has.0)
  enter-follows (Some parent) may has is =
      let same : has.0 ≡ is.0 = same_Some has.0 is.0 (sym has.1 ∙ is.1) in
      subst (λ (l : Line). Follows Two s.known s.lines l []) (sym is.2)
      (frame-follows s whole parent site is.0 v may is.1 (subst (λ (at : ℕ). IsFrameOf s.known s.lines at (piece_at s.known.file site) v) same has.2))

  pub enter-known : (parent : Option ℕ) → MayHaveValue s parent site v → IsLineFor s.framed parent site v line → is_known_outcome s.known line.outcome ≡ true
  enter-known None has is = ap (λ (l : Line). is_known_outcome s.known l.outcome) is ∙ has.1
  enter-known (Some parent) has is = ap (λ (l : Line). is_known_outcome s.known l.outcome) is.2 ∙ has.3

  pub enter-frame : (parent : Option ℕ) → IsLineFor s.framed parent site v line → is_frame line.kind ≡ true
  enter-frame None is = ap (λ (l : Line). is_frame l.kind) is
  enter-frame (Some parent) is = ap (λ (l : Line). is_frame l.kind) is.2

  pub enter-has : (parent : Option ℕ) → MayHaveValue s parent site v → IsLineFor s.framed parent site v line
      → HasLine (s.lines ++ line ∷ []) s.framed (record { parent = parent; site = site; current = v }) (suc (length s.lines))
  enter-has None has is = (
    line,
    line-pushed s.lines line,
    ap (λ (l : Line). l.kind) is,
    ap (λ (l : Line). l.frame) is,
    ap (λ (l : Line). l.outcome) is ∙ ap says.Value has.0,
    has.0,
  )
  enter-has (Some parent) has is = (
    is.0,
    is.1,
    IsLine-pushed s.lines line kind.Frame is.0 site (says.Value v) (ap (λ (l : Line). l.kind) is.2) (ap (λ (l : Line). l.frame) is.2) (ap (λ (l : Line). l.site) is.2)
        (ap (λ (l : Line). l.outcome) is.2),
  )

-- the frames after one was entered: as before, or with this one, by whether its number is that of one before
module _ (before after : List Frame) (frame : Frame) (number count : ℕ) (counted : count ≡ length before) (enters : entering.Enters before frame number after) where
  pub was-there : number < count → after ≡ before
  was-there less = elim enters.2 [
    | inl same ↦ same
    | inr more ↦
        let last : length before ≡ number = enters.1 (length before) (ap (λ (fs : List Frame). slice_get fs (length before)) more ∙ at-last before frame) in
        absurd (omega (arith, less, counted, last))
  ]

  pub is-new : (number < count → ⊥) → after ≡ before ++ frame ∷ []
  is-new past = elim enters.2 [
    | inl same ↦
        let within = slice_get_within before number frame (ap (λ (fs : List Frame). slice_get fs number) (sym same) ∙ enters.0) in
        absurd (past (omega (arith, within, counted)))
    | inr more ↦ more
  ]

  pub new-number : (number < count → ⊥) → number ≡ length before
  new-number past =
      sym (enters.1 (length before) (ap (λ (fs : List Frame). slice_get fs (length before)) (is-new past) ∙ at-last before frame))

  pub new-alone : (number < count → ⊥) → (n : ℕ) → slice_get (before ++ frame ∷ []) n ≡ Some frame → n ≡ number
  new-alone past n e = enters.1 n (ap (λ (fs : List Frame). slice_get fs n) (is-new past) ∙ e)

-- a tree has a root, so that of the template is known
pub IsTree-root : (tree : Forest) → IsTree tree → 0 < size tree
IsTree-root Nil one = absurd (omega (arith, one.one))
IsTree-root (Node l kids rest) one = omega arith

pub known-root : (k : StoreModel) (r : Ref) → r ≡ root_ref → IsTree k.template → is_known_ref k r ≡ true
known-root k r is tree =
    let within = IsTree-root k.template tree in
    let inside : nat_lt 0 (size k.template) ≡ true = grind (arith, nat_tests) in
    rw (is, inside) refl
