-- What was evaluated, one part after another: nothing, more of it, and a line that is added at the end.
use Rattle.std.proofs.Common.{◌≡◌, ◌⊎◌, ◌<◌, ◌≤◌, ◌+◌, ℕ, suc, refl, sym, ap, ◌∙◌, subst, inl, inr, arith, List, [], ◌∷◌, ◌++◌, length, length-append, append_assoc, append-nil, Contains, Some}
use Rattle.evidence_lines.specs.declared.line.Line.{Line}
use Rattle.evidence_lines.specs.declared.line.LineKind.{LineKind}
use Rattle.evidence_lines.specs.declared.line.Outcome.{Outcome}
use Rattle.guard_syntax.specs.Syntax.{File}
use Rattle.rule_names.specs.Depths.{depths_of}
use Rattle.rule_names.specs.Pieces.{piece_at}
use Rattle.rule_meaning.specs.Seeing.{grown}
use Rattle.rule_meaning.specs.StoreModel.{StoreModel}
use Rattle.scope_frames.specs.declared.frame.Frame.{Frame}
use Rattle.engine_states.specs.code.Adding.{Added, line_for}
use Rattle.engine_states.specs.code.Evaluated.{Evaluates}
use Rattle.engine_states.specs.code.Environments.{weight}
use Rattle.engine_states.specs.code.Falling.{above_step, depth_of, height, height_at, height_beside, place_of}
use Rattle.engine_states.specs.code.Kinds.{kind_beside, own_kind}
use Rattle.engine_states.specs.code.Leaning.{AreNamedBut}
use Rattle.engine_states.specs.code.States.{Grows, IsWhole, State}
use Rattle.engine_states.proofs.AddedLines.{beside-is, beside-not-rule, not-beside, not-own, own-is, own-not-rule}
use Rattle.engine_states.proofs.FrameEnvironments.{environment-ahead}
use Rattle.engine_states.proofs.Named.{named-last, named-more, named-none, named-pushed}

-- ---- more of everything

pub Grows-none : (s : State) → Grows s s
Grows-none s = record {
  made = [];
  known = ap (λ m. record { template = s.known.template; file = s.known.file; made = m }) (sym (append-nil s.known.made));
  more_frames = [];
  frames = sym (append-nil s.frames);
  more_lines = [];
  lines = sym (append-nil s.lines);
  more_framed = [];
  framed = sym (append-nil s.framed);
}

pub Grows-then : (a b c : State) → Grows a b → Grows b c → Grows a c
Grows-then a b c g h = record {
  made = g.made ++ h.made;
  known = h.known ∙ ap (λ (k : StoreModel). grown k h.made) g.known
      ∙ ap (λ m. record { template = a.known.template; file = a.known.file; made = m }) (append_assoc a.known.made g.made h.made);
  more_frames = g.more_frames ++ h.more_frames;
  frames = h.frames ∙ ap (λ (fs : List Frame). fs ++ h.more_frames) g.frames ∙ append_assoc a.frames g.more_frames h.more_frames;
  more_lines = g.more_lines ++ h.more_lines;
  lines = h.lines ∙ ap (λ (ls : List Line). ls ++ h.more_lines) g.lines ∙ append_assoc a.lines g.more_lines h.more_lines;
  more_framed = g.more_framed ++ h.more_framed;
  framed = h.framed ∙ ap (λ (ns : List ℕ). ns ++ h.more_framed) g.framed ∙ append_assoc a.framed g.more_framed h.more_framed;
}

-- ---- heights stay

module _ (a b : State) (grows : Grows a b) (whole : IsWhole a) where
  pub same-file : b.known.file ≡ a.known.file
  same-file = ap (λ (k : StoreModel). k.file) grows.known

  pub frames-ahead : (frame : ℕ) → frame < length a.frames → frame < length b.frames
  frames-ahead frame less =
      let longer : length b.frames ≡ length a.frames + length grows.more_frames = ap length grows.frames ∙ length-append a.frames grows.more_frames in
      omega (arith, less, longer)

  pub same-height : (frame site : ℕ) → frame < length a.frames → height_at b.known.file b.frames frame site ≡ height_at a.known.file a.frames frame site
  same-height frame site less =
      ap (λ (f : File). height_at f b.frames frame site) same-file
      ∙ ap (λ (fs : List Frame). height_at a.known.file fs frame site) grows.frames
      ∙ ap (λ e. height a.known.file (depth_of a.known.file (piece_at a.known.file site) + weight a.known.file (depths_of a.known.file) e)
      (place_of a.known.file site (piece_at a.known.file site)))
      (environment-ahead a.known.file a.frames whole.entered grows.more_frames frame less)

  pub same-beside : (frame site : ℕ) → frame < length a.frames → height_beside b.known.file b.frames frame site ≡ height_beside a.known.file a.frames frame site
  same-beside frame site less =
      ap (λ (f : File). above_step (piece_at f site) (height_at b.known.file b.frames frame site)) same-file
      ∙ ap (above_step (piece_at a.known.file site)) (same-height frame site less)

-- ---- what was evaluated

pub Evaluates-none : (s : State) (bound : ℕ) → IsWhole s → Evaluates s s bound []
Evaluates-none s bound whole = record {
  grows = Grows-none s;
  whole = whole;
  named = named-none s.lines;
  parts = λ frame site less within. refl;
  beside = λ frame site less within. refl;
  rules = λ site. refl;
}

-- a part that was found
pub Evaluates-found : (s : State) (bound number : ℕ) → IsWhole s → Evaluates s s bound (number ∷ [])
Evaluates-found s bound number whole = record {
  grows = Grows-none s;
  whole = whole;
  named = λ n behind within. absurd (omega (arith, behind, within));
  parts = λ frame site less within. refl;
  beside = λ frame site less within. refl;
  rules = λ site. refl;
}

module _ (a b : State) where
  -- a greater bound
  pub Evaluates-under : (bound most : ℕ) (numbers : List ℕ) → bound ≤ most → Evaluates a b bound numbers → Evaluates a b most numbers
  Evaluates-under bound most numbers no_more it = record {
    grows = it.grows;
    whole = it.whole;
    named = it.named;
    parts = λ frame site less within. it.parts frame site less (omega (arith, no_more, within));
    beside = λ frame site less within. it.beside frame site less (omega (arith, no_more, within));
    rules = it.rules;
  }

  module _ (c : State) (whole : IsWhole a) (bound : ℕ) where
    -- one after another
    pub Evaluates-then : (numbers more : List ℕ) → Evaluates a b bound numbers → Evaluates b c bound more → Evaluates a c bound (numbers ++ more)
    Evaluates-then numbers more first next = record {
      grows = Grows-then a b c first.grows next.grows;
      whole = next.whole;
      named =
          let later : AreNamedBut (length b.lines) (b.lines ++ next.grows.more_lines) more = subst (λ (ls : List Line). AreNamedBut (length b.lines) ls more) next.grows.lines next.named in
          subst (λ (ls : List Line). AreNamedBut (length a.lines) ls (numbers ++ more)) (sym next.grows.lines)
          (named-more (length a.lines) b.lines next.grows.more_lines numbers more first.named later);
      parts = λ frame site less within.
          let same = same-height a b first.grows whole frame site less in
          next.parts frame site (frames-ahead a b first.grows whole frame less) (omega (arith, same, within)) ∙ first.parts frame site less within;
      beside = λ frame site less within.
          let same = same-beside a b first.grows whole frame site less in
          next.beside frame site (frames-ahead a b first.grows whole frame less) (omega (arith, same, within)) ∙ first.beside frame site less within;
      rules = λ site. next.rules site ∙ first.rules site;
    }

    -- and at the end the line of a part, which names all that is to be named
    pub Evaluates-added : (frame site number : ℕ) (of : LineKind) (cites : List ℕ) (outcome : Outcome) (numbers : List ℕ)
        → bound ≤ suc (height_at a.known.file a.frames frame site) → own_kind (piece_at b.known.file site) ≡ Some of
        → Evaluates a b bound numbers → (added : Added b c frame site of cites outcome number)
        → ((n : ℕ) → length a.lines < n → Contains numbers n → Contains cites n ⊎ (added.at ≡ n))
        → Evaluates a c (suc (height_at a.known.file a.frames frame site)) (number ∷ [])
    Evaluates-added frame site number of cites outcome numbers no_more kind_is it added names =
        let own = own-is (piece_at b.known.file site) of kind_is in
        record {
          grows = Grows-then a b c it.grows added.grows;
          whole = added.whole;
          named =
              let named : AreNamedBut (length a.lines) (b.lines ++ line_for added.at site of cites outcome ∷ []) (suc (length b.lines) ∷ []) =
              named-last (length a.lines) b.lines (line_for added.at site of cites outcome) numbers it.named
              (λ n behind among. elim (names n behind among) [ inl cited ↦ inl cited | inr there ↦ inr (inl (ap Some there)) ]) in
              subst (λ (n : ℕ). AreNamedBut (length a.lines) c.lines (n ∷ [])) (sym added.number_is)
              (subst (λ (ls : List Line). AreNamedBut (length a.lines) ls (suc (length b.lines) ∷ [])) (sym added.lines) named);
          parts = λ n m less within.
              (added.stays n m (λ here there.
              let same : height_at a.known.file a.frames n m ≡ height_at a.known.file a.frames frame site =
              ap (λ (x : ℕ). height_at a.known.file a.frames x m) here ∙ ap (height_at a.known.file a.frames frame) there in
              omega (arith, same, within))).0
              ∙ it.parts n m less (omega (arith, no_more, within));
          beside = λ n m less within. added.beside (not-beside (piece_at b.known.file site) of own) n m ∙ it.beside n m less (omega (arith, no_more, within));
          rules = λ m. added.rules (own-not-rule of own) m ∙ it.rules m;
        }

    -- or one beside it, which is still to be named, as what that named is not any more
    pub Evaluates-beside : (frame site number : ℕ) (of : LineKind) (cites : List ℕ) (outcome : Outcome) (numbers others : List ℕ)
        → bound ≤ suc (height_beside a.known.file a.frames frame site) → kind_beside (piece_at b.known.file site) ≡ Some of
        → Evaluates a b bound numbers → (added : Added b c frame site of cites outcome number)
        → ((n : ℕ) → length a.lines < n → Contains numbers n → (Contains cites n ⊎ (added.at ≡ n)) ⊎ Contains others n)
        → Evaluates a c (suc (height_beside a.known.file a.frames frame site)) (others ++ number ∷ [])
    Evaluates-beside frame site number of cites outcome numbers others no_more kind_is it added names =
        let is = beside-is (piece_at b.known.file site) of kind_is in
        record {
          grows = Grows-then a b c it.grows added.grows;
          whole = added.whole;
          named =
              let named : AreNamedBut (length a.lines) (b.lines ++ line_for added.at site of cites outcome ∷ []) (others ++ suc (length b.lines) ∷ []) =
              named-pushed (length a.lines) b.lines (line_for added.at site of cites outcome) numbers others it.named
              (λ n behind among. elim (names n behind among) [
                | inl named ↦ elim named [ inl cited ↦ inl (inl cited) | inr there ↦ inl (inr (inl (ap Some there))) ]
                | inr other ↦ inr other
              ]) in
              subst (λ (n : ℕ). AreNamedBut (length a.lines) c.lines (others ++ n ∷ [])) (sym added.number_is)
              (subst (λ (ls : List Line). AreNamedBut (length a.lines) ls (others ++ suc (length b.lines) ∷ [])) (sym added.lines) named);
          parts = λ n m less within. added.parts (not-own (piece_at b.known.file site) of is) n m ∙ it.parts n m less (omega (arith, no_more, within));
          beside = λ n m less within.
              (added.stays n m (λ here there.
              let same : height_beside a.known.file a.frames n m ≡ height_beside a.known.file a.frames frame site =
              ap (λ (x : ℕ). height_beside a.known.file a.frames x m) here ∙ ap (height_beside a.known.file a.frames frame) there in
              omega (arith, same, within))).1
              ∙ it.beside n m less (omega (arith, no_more, within));
          rules = λ m. added.rules (beside-not-rule of is) m ∙ it.rules m;
        }
