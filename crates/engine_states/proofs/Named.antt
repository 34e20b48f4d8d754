-- Lines that later ones name: what is named stays named, and how the list of those that are still to be named changes, by where a line stands among those before and those behind.
use Rattle.std.proofs.Common.{◌≡◌, ◌⊎◌, ◌≤◌, ◌<◌, ℕ, suc, subst, inl, inr, arith, List, [], ◌∷◌, ◌++◌, length, length-append, Some, Contains}
use Rattle.std.proofs.lemmas.Bool.{cases_lt}
use Rattle.std.proofs.lemmas.List.Elements.{Contains-append_cases, Contains-append_left, Contains-append_right}
use Rattle.evidence_lines.specs.Lines.{line_of}
use Rattle.evidence_lines.specs.declared.line.Line.{Line}
use Rattle.evidence_lines.specs.declared.line.LineKind.TheVariants as kind
use Rattle.evidence_rules.specs.Lean.{LineNames}
use Rattle.engine_states.specs.code.Leaning.{AreNamedBut, IsNamed}
use Rattle.engine_states.proofs.Elements.{one-among}
use Rattle.engine_states.proofs.SaidStays.{line-pushed, line-within, line_of-stays}

-- ---- one line

pub IsNamed-stays : (lines more : List Line) (number : ℕ) → IsNamed lines number → IsNamed (lines ++ more) number
IsNamed-stays lines more number (at, other, later, stands, names) = (at, other, later, line_of-stays lines more at other stands, names)

-- by a line that is pushed
pub IsNamed-pushed : (lines : List Line) (line : Line) (number : ℕ) → number ≤ length lines → LineNames number line → IsNamed (lines ++ line ∷ []) number
IsNamed-pushed lines line number within names = (suc (length lines), line, omega (arith, within), line-pushed lines line, names)

-- ---- lists of numbers

only-this : (m n : ℕ) → m ≡ n → Contains (m ∷ []) n
only-this m n same = (0, omega arith, same)

-- ---- lines that are named but for some

-- none is behind the last
pub named-none : (lines : List Line) → AreNamedBut (length lines) lines []
named-none lines number behind within = absurd (omega (arith, behind, within))

-- those that are named, and those that others hold, may be left out
pub but-others : (b : ℕ) (lines : List Line) (but others : List ℕ) → AreNamedBut b lines but
    → ((n : ℕ) → b < n → n ≤ length lines → Contains but n → IsNamed lines n ⊎ Contains others n) → AreNamedBut b lines others
but-others b lines but others are on number behind within = elim (are number behind within) [ inl named ↦ inl named | inr among ↦ on number behind within among ]

-- neither order nor repetition matters
pub but-among : (b : ℕ) (lines : List Line) (but others : List ℕ) → ((n : ℕ) → Contains but n → Contains others n) → AreNamedBut b lines but → AreNamedBut b lines others
but-among b lines but others on are = but-others b lines but others are (λ n behind within among. inr (on n among))

-- nor do numbers that are not behind
pub but-behind : (b : ℕ) (lines : List Line) (early but : List ℕ) → ((n : ℕ) → Contains early n → n ≤ b) → AreNamedBut b lines (early ++ but) → AreNamedBut b lines but
but-behind b lines early but old are = but-others b lines (early ++ but) but are by
  where
    by : (n : ℕ) → b < n → n ≤ length lines → Contains (early ++ but) n → IsNamed lines n ⊎ Contains but n
    by n behind within among = elim (Contains-append_cases early but n among) [
      | inl first ↦ let low = old n first in absurd (omega (arith, behind, low))
      | inr rest ↦ inr rest
    ]

pub but-first : (b : ℕ) (lines : List Line) (number : ℕ) (but : List ℕ) → number ≤ b → AreNamedBut b lines (number ∷ but) → AreNamedBut b lines but
but-first b lines number but low are = but-behind b lines (number ∷ []) but (λ n among. subst (λ (m : ℕ). m ≤ b) (one-among number n among) low) are

-- behind more lines, fewer are asked for
pub named-behind : (b c : ℕ) (lines : List Line) (but : List ℕ) → b ≤ c → AreNamedBut b lines but → AreNamedBut c lines but
named-behind b c lines but less are number behind within = are number (omega (arith, less, behind)) within

-- ---- with more lines

pub named-more : (b : ℕ) (lines more : List Line) (but others : List ℕ) → AreNamedBut b lines but → AreNamedBut (length lines) (lines ++ more) others
    → AreNamedBut b (lines ++ more) (but ++ others)
named-more b lines more but others are later number behind within = elim (cases_lt (length lines) number) [
  | inl last ↦ elim (later number last within) [ inl named ↦ inl named | inr among ↦ inr (Contains-append_right but others number among) ]
  | inr before ↦ elim (are number behind before) [ inl named ↦ inl (IsNamed-stays lines more number named) | inr among ↦ inr (Contains-append_left but others number among) ]
]

-- the last line names some of them, and is then to be named itself
pub named-pushed : (b : ℕ) (lines : List Line) (line : Line) (but others : List ℕ) → AreNamedBut b lines but
    → ((n : ℕ) → b < n → Contains but n → LineNames n line ⊎ Contains others n) → AreNamedBut b (lines ++ line ∷ []) (others ++ suc (length lines) ∷ [])
named-pushed b lines line but others are names number behind within = elim (cases_lt (length lines) number) [
  | inl last ↦
      let same : suc (length lines) ≡ number = omega (arith, last, within, length-append lines (line ∷ [])) in
      inr (Contains-append_right others (suc (length lines) ∷ []) number (only-this (suc (length lines)) number same))
  | inr before ↦ elim (are number behind before) [
    | inl named ↦ inl (IsNamed-stays lines (line ∷ []) number named)
    | inr among ↦ elim (names number behind among) [
      | inl named ↦ inl (IsNamed-pushed lines line number before named)
      | inr other ↦ inr (Contains-append_left others (suc (length lines) ∷ []) number other)
    ]
  ]
]

-- it names all of them
pub named-last : (b : ℕ) (lines : List Line) (line : Line) (but : List ℕ) → AreNamedBut b lines but → ((n : ℕ) → b < n → Contains but n → LineNames n line)
    → AreNamedBut b (lines ++ line ∷ []) (suc (length lines) ∷ [])
named-last b lines line but are names = named-pushed b lines line but [] are (λ n behind among. inl (names n behind among))

-- ---- all lines

-- where those that are not named are lines of rules, every other line is named
pub all-used : (lines : List Line) (but : List ℕ) → AreNamedBut 0 lines but → ((n : ℕ) (l : Line) → Contains but n → line_of lines n ≡ Some l → l.kind ≡ kind.Rule)
    → (number : ℕ) (line : Line) → line_of lines number ≡ Some line → (line.kind ≡ kind.Rule → ⊥) → IsNamed lines number
all-used lines but are rules number line stands other =
    let within = line-within lines number line stands in
    elim (are number within.0 within.1) [ inl named ↦ named | inr among ↦ absurd (other (rules number line among stands)) ]
