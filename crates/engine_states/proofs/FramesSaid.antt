-- The lines of frames say what the frames are: their values, the scopes for which they stand, and the frames around them, a frame further out at a time. What is said
-- stays with more lines and more frames.
use Rattle.std.proofs.Common.{◌≡◌, ◌≤◌, ◌<◌, ℕ, zero, suc, refl, sym, ap, ◌∙◌, subst, inl, inr, arith, slice_get, List, [], ◌∷◌, ◌++◌, length, length-append, append_assoc, append-nil, Option, Some, None, option_and_then}
use Rattle.std.proofs.lemmas.Option.{same_Some, none-some, option_and_then_some}
use Rattle.evidence_lines.specs.Lines.{line_of}
use Rattle.evidence_lines.specs.declared.line.Line.{Line}
use Rattle.evidence_lines.specs.declared.line.LineKind.{LineKind}
use Rattle.evidence_lines.specs.declared.line.LineKind.TheVariants as kind
use Rattle.evidence_lines.specs.declared.line.Outcome.{Outcome}
use Rattle.evidence_lines.specs.declared.line.Outcome.TheVariants as says
use Rattle.evidence_lines.specs.declared.version.Version.{Version}
use Rattle.guard_syntax.specs.Syntax.{Exprs, File}
use Rattle.guard_syntax.specs.declared.row.Ref.{Ref}
use Rattle.rule_meaning.specs.Seeing.{grown}
use Rattle.rule_meaning.specs.StoreModel.{StoreModel, Made}
use Rattle.evidence_rules.specs.CitedLines.{IsLine, args_at, around_by, around_site, file_frame, past_frame, scope_by, value_of, value_said}
use Rattle.evidence_rules.specs.CitedLines as cited
use Rattle.evidence_rules.specs.Follows.{AllFollow, Follows, home_for}
use Rattle.evidence_rules.specs.code.Judgement.{FollowTo}
use Rattle.scope_frames.specs.code.Frames.{StandsFor, outer_by, outer_of, outwards, past_parent, root_of, scope_of, scope_under}
use Rattle.scope_frames.specs.declared.frame.Frame.{Frame}
use Rattle.scope_frames.proofs.EnteredFrames.{has-frame}
use Rattle.engine_states.specs.code.Lines.{AreFramed, HasLine, SaysFrame}
use Rattle.engine_states.proofs.SaidStays.{FollowTo-all, IsLine-stays, at-last, kept-ahead, last-of, line-before-or-pushed, line-within, line_of-stays}

-- ---- lines name earlier lines as their frames

abbrev pub NameEarlier : List Line → Type 0
NameEarlier lines = (number at : ℕ) (l : Line) → line_of lines number ≡ Some l → l.frame ≡ Some at → at < number

-- the frame of a line that follows is one of the lines before
pub frame-before : (version : Version) (known : StoreModel) (before : List Line) (line : Line) (more : List Made) (at : ℕ) → Follows version known before line more → line.frame ≡ Some at
    → at ≤ length before
frame-before version known before line more at follows named = elim follows [
  | inl (is_file, none) ↦ absurd (none-some at (sym is_file.1 ∙ named))
  | inr (frame, site, frame_is, site_is, home, h) ↦
      let same : frame ≡ at = same_Some frame at (sym frame_is ∙ named) in
      let within : frame ≤ length before =
      option_and_then_some (λ (l : Line). scope_by known.file l.kind l.site) (line_of before frame) (home_for known.file line.kind site) home (λ l is scoped. (line-within before frame l is).1) in
      subst (λ (n : ℕ). n ≤ length before) same within
]

one-earlier : (version : Version) (known : StoreModel) (before : List Line) (line : Line) (more : List Made) → NameEarlier before → Follows version known before line more
    → NameEarlier (before ++ line ∷ [])
one-earlier version known before line more old follows number at l stands named = elim (line-before-or-pushed before line number l stands) [
  | inl there ↦ old number at l there named
  | inr (last, same) ↦
      let within : at ≤ length before = frame-before version known before line more at follows (ap (λ (x : Line). x.frame) same ∙ named) in
      omega (arith, last, within)
]

all-earlier : (version : Version) (known : StoreModel) (before lines : List Line) → NameEarlier before → AllFollow version known before lines → NameEarlier (before ++ lines)
all-earlier version known before [] old follow = subst NameEarlier (sym (append-nil before)) old
all-earlier version known before (line ∷ lines) old (more, follows, rest) =
    subst NameEarlier (append_assoc before (line ∷ []) lines)
    (all-earlier version (grown known more) (before ++ line ∷ []) lines (one-earlier version known before line more old follows) rest)

none-earlier : NameEarlier []
none-earlier number at l stands named = let within = line-within [] number l stands in absurd (omega (arith, within.0, within.1))

pub name-earlier : (version : Version) (known : StoreModel) (lines : List Line) (last : StoreModel) → FollowTo version known [] lines last → NameEarlier lines
name-earlier version known lines last follow = all-earlier version known [] lines none-earlier (FollowTo-all version known [] lines last follow)

-- ---- frames with more lines, and with more frames

pub SaysFrame-stays : (lines more : List Line) (framed : List ℕ) (parent : Option ℕ) (site : ℕ) (current : Ref) (number : ℕ) → SaysFrame lines framed parent site current number
    → SaysFrame (lines ++ more) framed parent site current number
SaysFrame-stays lines more framed None site current number (line, stands, kind_is, none, outcome_is, root) =
    (line, line_of-stays lines more number line stands, kind_is, none, outcome_is, root)
SaysFrame-stays lines more framed (Some parent) site current number (at, there, is) =
    (at, there, IsLine-stays lines more number kind.Frame at site (says.Value current) is)

pub SaysFrame-ahead : (lines : List Line) (framed later : List ℕ) (parent : Option ℕ) (site : ℕ) (current : Ref) (number : ℕ) → SaysFrame lines framed parent site current number
    → SaysFrame lines (framed ++ later) parent site current number
SaysFrame-ahead lines framed later None site current number says_it = says_it
SaysFrame-ahead lines framed later (Some parent) site current number (at, there, is) = (at, kept-ahead framed later parent at there, is)

pub AreFramed-stays : (lines more : List Line) (framed : List ℕ) (frames : List Frame) → AreFramed lines framed frames → AreFramed (lines ++ more) framed frames
AreFramed-stays lines more framed frames are n frame is =
    let it = are n frame is in
    (it.0, it.1, SaysFrame-stays lines more framed frame.parent frame.site frame.current it.0 it.2)

-- a frame whose line is said
pub AreFramed-more : (lines : List Line) (framed : List ℕ) (frames : List Frame) (frame : Frame) (number : ℕ) → length framed ≡ length frames → AreFramed lines framed frames
    → HasLine lines framed frame number → AreFramed lines (framed ++ number ∷ []) (frames ++ frame ∷ [])
AreFramed-more lines framed frames frame number counted are has n other e = elim (last-of frames frame n other e) [
  | inl is ↦
      let it = are n other is in
      (it.0, kept-ahead framed (number ∷ []) n it.0 it.1, SaysFrame-ahead lines framed (number ∷ []) other.parent other.site other.current it.0 it.2)
  | inr (last, same) ↦ (
    number,
    ap (slice_get (framed ++ number ∷ [])) (last ∙ sym counted) ∙ at-last framed number,
    subst (λ (f : Frame). HasLine lines (framed ++ number ∷ []) f number) same (SaysFrame-ahead lines framed (number ∷ []) frame.parent frame.site frame.current number has),
  )
]

-- one whose line is pushed
pub AreFramed-pushed : (lines : List Line) (line : Line) (framed : List ℕ) (frames : List Frame) (frame : Frame) → length framed ≡ length frames → AreFramed lines framed frames
    → HasLine (lines ++ line ∷ []) framed frame (suc (length lines)) → AreFramed (lines ++ line ∷ []) (framed ++ suc (length lines) ∷ []) (frames ++ frame ∷ [])
AreFramed-pushed lines line framed frames frame counted are has =
    AreFramed-more (lines ++ line ∷ []) framed frames frame (suc (length lines)) counted (AreFramed-stays lines (line ∷ []) framed frames are) has

pub counted-more : (framed : List ℕ) (frames : List Frame) (number : ℕ) (frame : Frame) → length framed ≡ length frames → length (framed ++ number ∷ []) ≡ length (frames ++ frame ∷ [])
counted-more framed frames number frame counted = omega (arith, counted, length-append framed (number ∷ []), length-append frames (frame ∷ []))

-- ---- what the line of a frame says

module _ (file : File) (lines : List Line) (framed : List ℕ) where
  frame-value : (parent : Option ℕ) (site : ℕ) (current : Ref) (number : ℕ) → SaysFrame lines framed parent site current number → value_of lines number ≡ Some current
  frame-value None site current number (line, stands, kind_is, none, outcome_is, root) =
      ap (option_and_then (λ (l : Line). value_said l.outcome)) stands ∙ ap value_said outcome_is ∙ ap Some (sym root)
  frame-value (Some parent) site current number (at, there, is) = ap (option_and_then (λ (l : Line). value_said l.outcome)) is.stands ∙ ap value_said is.outcome_is

  frame-scope : (parent : Option ℕ) (site : ℕ) (current : Ref) (number : ℕ) → SaysFrame lines framed parent site current number
      → cited.scope_of file lines number ≡ scope_under file site parent
  frame-scope None site current number (line, stands, kind_is, none, outcome_is, root) =
      ap (option_and_then (λ (l : Line). scope_by file l.kind l.site)) stands ∙ ap (λ (k : LineKind). scope_by file k line.site) kind_is
  frame-scope (Some parent) site current number (at, there, is) =
      ap (option_and_then (λ (l : Line). scope_by file l.kind l.site)) is.stands ∙ ap (λ (k : LineKind). scope_by file k is.line.site) is.kind_is
      ∙ ap (λ (s : Option ℕ). scope_by file kind.Frame s) is.site_is

  pub frame-numbered : (parent : Option ℕ) (site : ℕ) (current : Ref) (number : ℕ) → SaysFrame lines framed parent site current number → (0 < number) × (number ≤ length lines)
  frame-numbered None site current number (line, stands, kind_is, none, outcome_is, root) = line-within lines number line stands
  frame-numbered (Some parent) site current number (at, there, is) = line-within lines number is.line is.stands

  -- the frame around one, by what stands at its site
  around : (number above site : ℕ) (outcome : Outcome) → IsLine lines number kind.Frame above site outcome
      → cited.outer_frame file lines number ≡ around_site file lines number (Some above) (args_at file site)
  around number above site outcome is =
      ap (option_and_then (λ (l : Line). around_by file lines number l.kind l.frame l.site)) is.stands
      ∙ ap (λ (k : LineKind). around_by file lines number k is.line.frame is.line.site) is.kind_is
      ∙ ap (λ (f : Option ℕ). around_by file lines number kind.Frame f is.line.site) is.frame_is
      ∙ ap (λ (s : Option ℕ). around_by file lines number kind.Frame (Some above) s) is.site_is

  -- a step on the way to the `file` line
  at-file : (fuel number : ℕ) (line : Line) → line_of lines number ≡ Some line → line.kind ≡ kind.File → file_frame file lines (suc fuel) number ≡ Some number
  at-file fuel number line stands kind_is =
      ap (option_and_then (λ (l : Line). past_frame file lines (file_frame file lines fuel) number l.kind l.frame)) stands
      ∙ ap (λ (k : LineKind). past_frame file lines (file_frame file lines fuel) number k line.frame) kind_is

  at-frame : (fuel number above site : ℕ) (outcome : Outcome) → IsLine lines number kind.Frame above site outcome → file_frame file lines (suc fuel) number ≡ file_frame file lines fuel above
  at-frame fuel number above site outcome is =
      ap (option_and_then (λ (l : Line). past_frame file lines (file_frame file lines fuel) number l.kind l.frame)) is.stands
      ∙ ap (λ (k : LineKind). past_frame file lines (file_frame file lines fuel) number k is.line.frame) is.kind_is
      ∙ ap (λ (f : Option ℕ). past_frame file lines (file_frame file lines fuel) number kind.Frame f) is.frame_is

  -- ---- frames that have their lines

  module _ (frames : List Frame) (are : AreFramed lines framed frames) where
    pub has-line : (n number : ℕ) (frame : Frame) → slice_get frames n ≡ Some frame → slice_get framed n ≡ Some number → HasLine lines framed frame number
    has-line n number frame is there =
        let it = are n frame is in
        subst (λ (m : ℕ). HasLine lines framed frame m) (same_Some it.0 number (sym it.1 ∙ there)) it.2

    -- its value
    pub value-said : (n number : ℕ) (frame : Frame) → slice_get frames n ≡ Some frame → slice_get framed n ≡ Some number → value_of lines number ≡ Some frame.current
    value-said n number frame is there = frame-value frame.parent frame.site frame.current number (has-line n number frame is there)

    -- its scope
    pub scope-said : (n number : ℕ) (frame : Frame) → slice_get frames n ≡ Some frame → slice_get framed n ≡ Some number → cited.scope_of file lines number ≡ scope_of file frame
    scope-said n number frame is there = frame-scope frame.parent frame.site frame.current number (has-line n number frame is there)

    pub stands-said : (n number scope : ℕ) → StandsFor file frames n scope → slice_get framed n ≡ Some number → cited.scope_of file lines number ≡ Some scope
    stands-said n number scope stands there =
        let it = has-frame file frames n scope stands in
        scope-said n number it.0 it.1 there ∙ it.2

    -- the frames around it, where lines name earlier ones
    module _ (earlier : NameEarlier lines) where
      abbrev Rooted : (root fuel number : ℕ) → Type 0
      Rooted root fuel number = (there : ℕ) × (slice_get framed root ≡ Some there) × (file_frame file lines fuel number ≡ Some there)

      root-said : (most fuel n root number : ℕ) → root_of frames most n ≡ Some root → slice_get framed n ≡ Some number → number ≤ fuel → Rooted root fuel number
      root-said zero fuel n root number e there less = absurd (none-some root e)
      root-said (suc most) zero n root number e there less = by (slice_get frames n) refl e
        where
          by : (o : Option Frame) → slice_get frames n ≡ o → option_and_then (λ (f : Frame). past_parent (root_of frames most) n f.parent) o ≡ Some root → Rooted root zero number
          by None is e = absurd (none-some root e)
          by (Some frame) is e =
              let numbered = frame-numbered frame.parent frame.site frame.current number (has-line n number frame is there) in
              absurd (omega (arith, less, numbered.0))
      root-said (suc most) (suc fuel) n root number e there less = by (slice_get frames n) refl e (λ p at. root-said most fuel p root at)
        where
          by-parent : (parent : Option ℕ) (site : ℕ) (current : Ref) → SaysFrame lines framed parent site current number → past_parent (root_of frames most) n parent ≡ Some root
              → ((p at : ℕ) → root_of frames most p ≡ Some root → slice_get framed p ≡ Some at → at ≤ fuel → Rooted root fuel at) → Rooted root (suc fuel) number
          by-parent None site current (line, stands, kind_is, none, outcome_is, is_root) e next =
              (number, subst (λ (m : ℕ). slice_get framed m ≡ Some number) (same_Some n root e) there, at-file fuel number line stands kind_is)
          by-parent (Some p) site current (at, framed_at, is) e next =
              let before : at < number = earlier number at is.line is.stands is.frame_is in
              let rest = next p at e framed_at (omega (arith, before, less)) in
              (rest.0, rest.1, at-frame fuel number at site (says.Value current) is ∙ rest.2)

          by : (o : Option Frame) → slice_get frames n ≡ o → option_and_then (λ (f : Frame). past_parent (root_of frames most) n f.parent) o ≡ Some root
              → ((p at : ℕ) → root_of frames most p ≡ Some root → slice_get framed p ≡ Some at → at ≤ fuel → Rooted root fuel at) → Rooted root (suc fuel) number
          by None is e next = absurd (none-some root e)
          by (Some frame) is e next = by-parent frame.parent frame.site frame.current (has-line n number frame is there) e next

      abbrev Outer : (number at : ℕ) → Type 0
      Outer number at = (out : ℕ) × (slice_get framed at ≡ Some out) × (cited.outer_frame file lines number ≡ Some out)

      -- one frame out
      pub outer-said : (n number at : ℕ) → outer_of file frames n ≡ Some at → slice_get framed n ≡ Some number
          → (out : ℕ) × (slice_get framed at ≡ Some out) × (cited.outer_frame file lines number ≡ Some out)
      outer-said n number at e there = by (slice_get frames n) refl e
        where
          by-parent : (parent : Option ℕ) (site : ℕ) (current : Ref) → SaysFrame lines framed parent site current number → (args : Option Exprs) → args_at file site ≡ args
              → outer_by file frames n parent args ≡ Some at → Outer number at
          by-parent None site current has args given e = absurd (none-some at e)
          by-parent (Some p) site current (above, framed_at, is) None given e = (
            above,
            subst (λ (m : ℕ). slice_get framed m ≡ Some above) (same_Some p at e) framed_at,
            around number above site (says.Value current) is ∙ ap (around_site file lines number (Some above)) given,
          )
          by-parent (Some p) site current (above, framed_at, is) (Some args) given e =
              let root = root-said (suc n) (length lines) n at number e there (line-within lines number is.line is.stands).1 in
              (root.0, root.1, around number above site (says.Value current) is ∙ ap (around_site file lines number (Some above)) given ∙ root.2)

          by : (o : Option Frame) → slice_get frames n ≡ o → option_and_then (λ (f : Frame). outer_by file frames n f.parent (args_at file f.site)) o ≡ Some at → Outer number at
          by None is e = absurd (none-some at e)
          by (Some frame) is e = by-parent frame.parent frame.site frame.current (has-line n number frame is there) (args_at file frame.site) refl e

      -- and more
      pub outwards-said : (up n number at : ℕ) → outwards file frames up n ≡ Some at → slice_get framed n ≡ Some number
          → (out : ℕ) × (slice_get framed at ≡ Some out) × (cited.outwards file lines up number ≡ Some out)
      outwards-said zero n number at e there = (number, subst (λ (m : ℕ). slice_get framed m ≡ Some number) (same_Some n at e) there, refl)
      outwards-said (suc up) n number at e there = by (outer_of file frames n) refl e (λ m out. outwards-said up m out at)
        where
          by : (o : Option ℕ) → outer_of file frames n ≡ o → option_and_then (outwards file frames up) o ≡ Some at
              → ((m out : ℕ) → outwards file frames up m ≡ Some at → slice_get framed m ≡ Some out → (there : ℕ) × (slice_get framed at ≡ Some there) × (cited.outwards file lines up out ≡ Some there))
              → (out : ℕ) × (slice_get framed at ≡ Some out) × (cited.outwards file lines (suc up) number ≡ Some out)
          by None is e next = absurd (none-some at e)
          by (Some m) is e next =
              let one = outer-said n number m is there in
              let rest = next m one.0 e one.1 in
              (rest.0, rest.1, ap (option_and_then (cited.outwards file lines up)) one.2 ∙ rest.2)
