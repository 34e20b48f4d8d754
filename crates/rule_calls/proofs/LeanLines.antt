-- The lines of an engine are lean: no two are alike, since its tables have just one line for each place, and no two frames are equal.
use Rattle.std.proofs.Common.{◌≡◌, ◌<◌, ℕ, zero, suc, Bool, true, false, refl, sym, ap, ◌∙◌, subst, inl, inr, arith, List, [], ◌∷◌, length, slice_get, Option, Some, None}
use Rattle.std.proofs.lemmas.Bool.{true≢false}
use Rattle.std.proofs.lemmas.Option.{same_Some, slice_get_within}
use Rattle.evidence_lines.specs.Lines.{line_of}
use Rattle.evidence_lines.specs.declared.line.Line.{Line}
use Rattle.evidence_lines.specs.declared.line.LineKind.{LineKind}
use Rattle.evidence_lines.specs.declared.line.LineKind.TheVariants as kind
use Rattle.evidence_lines.specs.declared.line.Outcome.TheVariants as says
use Rattle.guard_syntax.specs.declared.row.Ref.{Ref}
use Rattle.evidence_rules.specs.CitedLines.{IsLine}
use Rattle.evidence_rules.specs.Lean.{AreAlike, IsLean}
use Rattle.scope_frames.specs.code.Frames.{MayEnter}
use Rattle.scope_frames.specs.declared.frame.Frame.{Frame}
use Rattle.engine_states.specs.code.Kinds.{is_frame, kind_beside, own_kind}
use Rattle.engine_states.specs.code.Lines.{HasLine, SaysFrame}
use Rattle.engine_states.specs.code.Ruling.{Rests}
use Rattle.engine_states.specs.code.States.{IsWhole, State}
use Rattle.rule_calls.proofs.LinesPlaced.{IsSited, line-placed}

got : {X : Type 0} (xs : List X) (n : ℕ) → n < length xs → (x : X) × (slice_get xs n ≡ Some x)
got [] n less = absurd (omega (arith, less))
got (x ∷ xs) zero less = (x, refl)
got (x ∷ xs) (suc n) less = got xs n (omega (arith, less))

same-value : (u v : Ref) → says.Value u ≡ says.Value v → u ≡ v
same-value u v e = cc

no-frame : kind.File ≡ kind.Frame → ⊥
no-frame e = cc

same-frames : (f g : Frame) → f.parent ≡ g.parent → f.site ≡ g.site → f.current ≡ g.current → f ≡ g
same-frames f g p a u =
    let one : f ≡ record { parent = g.parent; site = f.site; current = f.current } = ap (λ (x : Option ℕ). record { parent = x; site = f.site; current = f.current }) p in
    let two : record { parent = g.parent; site = f.site; current = f.current } ≡ record { parent = g.parent; site = g.site; current = f.current } =
    ap (λ (x : ℕ). record { parent = g.parent; site = x; current = f.current }) a in
    let three : record { parent = g.parent; site = g.site; current = f.current } ≡ g = ap (λ (x : Ref). record { parent = g.parent; site = g.site; current = x }) u in
    one ∙ two ∙ three

module _ (s : State) (whole : IsWhole s) where
  -- ---- lines of frames

  -- the frame of which a line is
  record FrameOf (number : ℕ) : Type 0 where
    index : ℕ
    frame : Frame
    framed : slice_get s.framed index ≡ Some number
    there : slice_get s.frames index ≡ Some frame
    says_it : HasLine s.lines s.framed frame number

  frame-of : (number : ℕ) (line : Line) → line_of s.lines number ≡ Some line → is_frame line.kind ≡ true → FrameOf number
  frame-of number line stands is =
      let at = whole.framing number line stands is in
      let less : at.0 < length s.frames = let within = slice_get_within s.framed at.0 number at.1 in omega (arith, within, whole.counted) in
      let it = got s.frames at.0 less in
      let had = whole.framed at.0 it.0 it.1 in
      record {
        index = at.0;
        frame = it.0;
        framed = at.1;
        there = it.1;
        says_it = subst (HasLine s.lines s.framed it.0) (same_Some had.0 number (sym had.1 ∙ at.1)) had.2;
      }

  -- what the line of a frame says it to be
  record Alike (p q : Option ℕ) (a b : ℕ) (u v : Ref) : Type 0 where
    parents : p ≡ q
    sites : a ≡ b
    currents : u ≡ v

  module _ (n m : ℕ) (line other : Line) (first : line_of s.lines n ≡ Some line) (second : line_of s.lines m ≡ Some other) (alike : AreAlike line other) where
    alike-frames : (p q : Option ℕ) (a b : ℕ) (u v : Ref) → SaysFrame s.lines s.framed p a u n → SaysFrame s.lines s.framed q b v m
        → MayEnter s.known.file s.frames p a → MayEnter s.known.file s.frames q b → Alike p q a b u v
    alike-frames None None a b u v (l, l_is, l_kind, l_frame, l_says, root) (k, k_is, k_kind, k_frame, k_says, also) x y =
        record { parents = refl; sites = x ∙ sym y; currents = root ∙ sym also }
    alike-frames None (Some q) a b u v (l, l_is, l_kind, l_frame, l_says, root) (at, at_is, is) x y =
        let here : line.kind ≡ kind.File = ap (λ (z : Line). z.kind) (same_Some line l (sym first ∙ l_is)) ∙ l_kind in
        let there : other.kind ≡ kind.Frame = ap (λ (z : Line). z.kind) (same_Some other is.line (sym second ∙ is.stands)) ∙ is.kind_is in
        absurd (no-frame (sym here ∙ alike.same_kind ∙ there))
    alike-frames (Some p) None a b u v (at, at_is, is) (k, k_is, k_kind, k_frame, k_says, also) x y =
        let here : line.kind ≡ kind.Frame = ap (λ (z : Line). z.kind) (same_Some line is.line (sym first ∙ is.stands)) ∙ is.kind_is in
        let there : other.kind ≡ kind.File = ap (λ (z : Line). z.kind) (same_Some other k (sym second ∙ k_is)) ∙ k_kind in
        absurd (no-frame (sym there ∙ sym alike.same_kind ∙ here))
    alike-frames (Some p) (Some q) a b u v (at, at_is, is) (on, on_is, also) x y =
        let one : line ≡ is.line = same_Some line is.line (sym first ∙ is.stands) in
        let two : other ≡ also.line = same_Some other also.line (sym second ∙ also.stands) in
        let frames : at ≡ on =
        same_Some at on (sym is.frame_is ∙ sym (ap (λ (z : Line). z.frame) one) ∙ alike.same_frame ∙ ap (λ (z : Line). z.frame) two ∙ also.frame_is) in
        let kinds : line.kind ≡ kind.Frame = ap (λ (z : Line). z.kind) one ∙ is.kind_is in
        record {
          parents = ap (λ (k : ℕ). Some k) (whole.distinct p q at at_is (on_is ∙ ap (λ (k : ℕ). Some k) (sym frames)));
          sites = same_Some a b (sym is.site_is ∙ sym (ap (λ (z : Line). z.site) one) ∙ alike.same_site ∙ ap (λ (z : Line). z.site) two ∙ also.site_is);
          currents =
              same-value u v
              (sym is.outcome_is ∙ sym (ap (λ (z : Line). z.outcome) one) ∙ alike.same_value kinds ∙ ap (λ (z : Line). z.outcome) two ∙ also.outcome_is);
        }

    apart-frames : is_frame line.kind ≡ true → n ≡ m
    apart-frames is =
        let one = frame-of n line first is in
        let two = frame-of m other second (sym (ap is_frame alike.same_kind) ∙ is) in
        let same = alike-frames one.frame.parent two.frame.parent one.frame.site two.frame.site one.frame.current two.frame.current one.says_it two.says_it
        (whole.entered one.index one.frame one.there).0 (whole.entered two.index two.frame two.there).0 in
        let frames : one.frame ≡ two.frame = same-frames one.frame two.frame same.parents same.sites same.currents in
        let index : one.index ≡ two.index = whole.apart one.index two.index one.frame one.there (two.there ∙ ap (λ (x : Frame). Some x) (sym frames)) in
        same_Some n m (sym one.framed ∙ ap (slice_get s.framed) index ∙ two.framed)

    -- ---- any other lines

    apart-sited : is_frame line.kind ≡ false → IsSited s.known.file line → n ≡ m
    apart-sited plain sited =
        let at = whole.placed n line first plain in
        let frame_is : line.frame ≡ Some at.1 = at.3 in
        let here : IsLine s.lines n line.kind at.1 sited.site line.outcome =
        record { line = line; stands = first; kind_is = refl; frame_is = frame_is; site_is = sited.site_is; outcome_is = refl } in
        let there : IsLine s.lines m line.kind at.1 sited.site other.outcome =
        record {
          line = other;
          stands = second;
          kind_is = sym alike.same_kind;
          frame_is = sym alike.same_frame ∙ frame_is;
          site_is = sym alike.same_site ∙ sited.site_is;
          outcome_is = refl;
        } in
        elim sited.stands.has [
          | inl frame ↦ absurd (true≢false (sym (ap is_frame frame) ∙ plain))
          | inr (inl own) ↦
              let kinds = ap own_kind sited.stands.there ∙ own in
              same_Some n m
              (sym (whole.parts.whole at.0 sited.site n at.1 line.kind line.outcome at.2 kinds here) ∙ whole.parts.whole at.0 sited.site m at.1 line.kind other.outcome at.2 kinds there)
          | inr (inr (inl beside)) ↦
              let kinds = ap kind_beside sited.stands.there ∙ beside in
              same_Some n m
              (sym (whole.beside.whole at.0 sited.site n at.1 line.kind line.outcome at.2 kinds here) ∙ whole.beside.whole at.0 sited.site m at.1 line.kind other.outcome at.2 kinds there)
          | inr (inr (inr rule)) ↦
              same_Some n m
              (sym (whole.rules.whole sited.site n at.1 line.outcome (subst (λ (k : LineKind). IsLine s.lines n k at.1 sited.site line.outcome) rule here))
              ∙ whole.rules.whole sited.site m at.1 other.outcome (subst (λ (k : LineKind). IsLine s.lines m k at.1 sited.site other.outcome) rule there))
        ]

    apart-plain : is_frame line.kind ≡ false → n ≡ m
    apart-plain plain = elim (line-placed s whole n line first) [
      | inl file ↦ absurd (true≢false (sym (ap is_frame file.0) ∙ plain))
      | inr sited ↦ apart-sited plain sited
    ]

    apart-both : n ≡ m
    apart-both = by (is_frame line.kind) refl
      where
        by : (b : Bool) → is_frame line.kind ≡ b → n ≡ m
        by true is = apart-frames is
        by false plain = apart-plain plain

pub lean-lines : (s : State) → Rests s → IsLean s.lines
lean-lines s rests = record { apart = λ number at line other first second alike. apart-both s rests.whole number at line other first second alike; used = rests.named }
