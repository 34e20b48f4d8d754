-- Tables of lines when a line is pushed: the one whose kind it is has it, and any other is as it was.
use Rattle.std.proofs.Common.{◌≡◌, ◌⊎◌, ℕ, suc, refl, sym, ap, ◌∙◌, subst, inl, inr, slice_get, List, [], ◌∷◌, ◌++◌, length, Option, Some, None}
use Rattle.std.proofs.lemmas.Bool.{cases_eq}
use Rattle.std.proofs.lemmas.Option.{same_Some, none-some}
use Rattle.evidence_lines.specs.declared.line.Line.{Line}
use Rattle.evidence_lines.specs.declared.line.LineKind.{LineKind}
use Rattle.evidence_lines.specs.declared.line.LineKind.TheVariants as kind
use Rattle.evidence_lines.specs.declared.line.Outcome.{Outcome}
use Rattle.guard_syntax.specs.Syntax.{File}
use Rattle.rule_names.specs.Pieces.{Piece, piece_at}
use Rattle.evidence_rules.specs.CitedLines.{IsLine}
use Rattle.engine_states.specs.code.Adding.{line_for}
use Rattle.engine_states.specs.code.States.{HasJust, HasRules}
use Rattle.engine_states.proofs.SaidStays.{IsLine-pushed, IsLine-stays, line-before-or-pushed}

-- a number at a place is that of this place, or of another
same-place : (n frame m site : ℕ) → ((n ≡ frame) × (m ≡ site)) ⊎ ((n ≡ frame → m ≡ site → ⊥))
same-place n frame m site = elim (cases_eq n frame) [
  | inl there ↦ elim (cases_eq m site) [ inl at ↦ inl (there, at) | inr other ↦ inr (λ _ at. other at) ]
  | inr other ↦ inr (λ there _. other there)
]

-- a line among those before, or the one that is pushed
before-or-pushed : (lines : List Line) (line : Line) (number at site : ℕ) (of : LineKind) (outcome : Outcome) → IsLine (lines ++ line ∷ []) number of at site outcome
    → IsLine lines number of at site outcome ⊎ ((number ≡ suc (length lines)) × (line.kind ≡ of) × (line.frame ≡ Some at) × (line.site ≡ Some site))
before-or-pushed lines line number at site of outcome is = elim (line-before-or-pushed lines line number is.line is.stands) [
  | inl there ↦ inl (record { line = is.line; stands = there; kind_is = is.kind_is; frame_is = is.frame_is; site_is = is.site_is; outcome_is = is.outcome_is })
  | inr (last, same) ↦ inr (last, ap (λ (l : Line). l.kind) same ∙ is.kind_is, ap (λ (l : Line). l.frame) same ∙ is.frame_is, ap (λ (l : Line). l.site) same ∙ is.site_is)
]

module _ (file : File) (lines : List Line) (framed : List ℕ) (kind_of : Option Piece → Option LineKind) (before : ℕ → ℕ → Option ℕ)
    (distinct : (n m number : ℕ) → slice_get framed n ≡ Some number → slice_get framed m ≡ Some number → n ≡ m)
    (has : HasJust file lines framed kind_of before)
    (frame at site : ℕ) (of : LineKind) (cites : List ℕ) (outcome : Outcome) (framed_is : slice_get framed frame ≡ Some at) (after : ℕ → ℕ → Option ℕ) where
  -- a line of another table
  pub HasJust-other : (kind_of (piece_at file site) ≡ Some of → ⊥) → ((n m : ℕ) → after n m ≡ before n m)
      → HasJust file (lines ++ line_for at site of cites outcome ∷ []) framed kind_of after
  HasJust-other other same = record {
    sound = λ n m number e.
        let it = has.sound n m number (sym (same n m) ∙ e) in
        (it.0, it.1, it.2, it.3, it.4, IsLine-stays lines (line_for at site of cites outcome ∷ []) number it.1 it.0 m it.2 it.5);
    whole = λ n m number there kind_is said framed_n is_of is.
        elim (before-or-pushed lines (line_for at site of cites outcome) number there m kind_is said is) [
          | inl old ↦ same n m ∙ has.whole n m number there kind_is said framed_n is_of old
          | inr (last, same_kind, same_frame, same_site) ↦
              absurd (other (ap (λ (x : ℕ). kind_of (piece_at file x)) (same_Some site m same_site) ∙ is_of ∙ ap Some (sym same_kind)))
        ];
  }

  -- a line of this table, which had none at its place
  pub HasJust-added : kind_of (piece_at file site) ≡ Some of → before frame site ≡ None → after frame site ≡ Some (suc (length lines))
      → ((n m : ℕ) → (n ≡ frame → m ≡ site → ⊥) → after n m ≡ before n m) → HasJust file (lines ++ line_for at site of cites outcome ∷ []) framed kind_of after
  HasJust-added kind_is new put stays = record {
    sound = λ n m number e. elim (same-place n frame m site) [
      | inl (same_frame, same_site) ↦
          let numbered : suc (length lines) ≡ number = same_Some (suc (length lines)) number (sym put ∙ sym (ap (λ (x : ℕ). after x site) same_frame) ∙ sym (ap (after n) same_site) ∙ e) in (
            at,
            of,
            outcome,
            ap (slice_get framed) same_frame ∙ framed_is,
            ap (λ (x : ℕ). kind_of (piece_at file x)) same_site ∙ kind_is,
            subst (λ (x : ℕ). IsLine (lines ++ line_for at site of cites outcome ∷ []) x of at m outcome) numbered
                (IsLine-pushed lines (line_for at site of cites outcome) of at m outcome refl refl (ap Some (sym same_site)) refl),
          )
      | inr other ↦
          let it = has.sound n m number (sym (stays n m other) ∙ e) in
          (it.0, it.1, it.2, it.3, it.4, IsLine-stays lines (line_for at site of cites outcome ∷ []) number it.1 it.0 m it.2 it.5)
    ];
    whole = λ n m number there of_line said framed_n is_of is.
        elim (before-or-pushed lines (line_for at site of cites outcome) number there m of_line said is) [
          | inl old ↦ elim (same-place n frame m site) [
            | inl (same_frame, same_site) ↦
                let here = has.whole n m number there of_line said framed_n is_of old in
                absurd (none-some number (sym new ∙ sym (ap (λ (x : ℕ). before x site) same_frame) ∙ sym (ap (before n) same_site) ∙ here))
            | inr other ↦ stays n m other ∙ has.whole n m number there of_line said framed_n is_of old
          ]
          | inr (last, same_kind, same_frame, same_site) ↦
              let here : n ≡ frame = distinct n frame there framed_n (framed_is ∙ same_frame) in
              ap (λ (x : ℕ). after x m) here ∙ ap (after frame) (sym (same_Some site m same_site)) ∙ put ∙ ap Some (sym last)
        ];
  }

module _ (lines : List Line) (before : ℕ → Option ℕ) (has : HasRules lines before) (at site : ℕ) (of : LineKind) (cites : List ℕ) (outcome : Outcome) (after : ℕ → Option ℕ) where
  -- a line that is not one of a rule
  pub HasRules-other : (of ≡ kind.Rule → ⊥) → ((m : ℕ) → after m ≡ before m) → HasRules (lines ++ line_for at site of cites outcome ∷ []) after
  HasRules-other other same = record {
    sound = λ m number e.
        let it = has.sound m number (sym (same m) ∙ e) in
        (it.0, it.1, IsLine-stays lines (line_for at site of cites outcome ∷ []) number kind.Rule it.0 m it.1 it.2);
    whole = λ m number there said is. elim (before-or-pushed lines (line_for at site of cites outcome) number there m kind.Rule said is) [
      | inl old ↦ same m ∙ has.whole m number there said old
      | inr (last, same_kind, same_frame, same_site) ↦ absurd (other same_kind)
    ];
  }

  -- the line of a rule that had none
  pub HasRules-added : of ≡ kind.Rule → before site ≡ None → after site ≡ Some (suc (length lines)) → ((m : ℕ) → (m ≡ site → ⊥) → after m ≡ before m)
      → HasRules (lines ++ line_for at site of cites outcome ∷ []) after
  HasRules-added kind_is new put stays = record {
    sound = λ m number e. elim (cases_eq m site) [
      | inl same ↦
          let numbered : suc (length lines) ≡ number = same_Some (suc (length lines)) number (sym put ∙ sym (ap after same) ∙ e) in (
            at,
            outcome,
            subst (λ (x : ℕ). IsLine (lines ++ line_for at site of cites outcome ∷ []) x kind.Rule at m outcome) numbered
                (IsLine-pushed lines (line_for at site of cites outcome) kind.Rule at m outcome kind_is refl (ap Some (sym same)) refl),
          )
      | inr other ↦
          let it = has.sound m number (sym (stays m other) ∙ e) in
          (it.0, it.1, IsLine-stays lines (line_for at site of cites outcome ∷ []) number kind.Rule it.0 m it.1 it.2)
    ];
    whole = λ m number there said is. elim (before-or-pushed lines (line_for at site of cites outcome) number there m kind.Rule said is) [
      | inl old ↦ elim (cases_eq m site) [
        | inl same ↦ absurd (none-some number (sym new ∙ sym (ap before same) ∙ has.whole m number there said old))
        | inr other ↦ stays m other ∙ has.whole m number there said old
      ]
      | inr (last, same_kind, same_frame, same_site) ↦ ap after (sym (same_Some site m same_site)) ∙ put ∙ ap Some (sym last)
    ];
  }
