-- What a text that ends in a carriage return has ahead with a line feed behind it, told by the text without the carriage return. By the cases of tokens.
use Rattle.std.proofs.Common.{◌≡◌, ℕ, ◌≤◌, ◌⊎◌, inl, inr, Bool, true, false, cond, List, [], ◌∷◌, ◌++◌, None, length, refl, sym, ap, ◌∙◌, subst}
use Rattle.doc_values.specs.declared.kind.Kind.TheVariants as kind
use Rattle.doc_values.specs.Tree.{Forest, Nil, Node}
use Rattle.yaml_scalars.specs.Scalar.{begins_order_mark}
use Rattle.yaml_grammar.specs.declared.ahead.Ahead.{Ahead}
use Rattle.yaml_grammar.specs.declared.ahead.Token.{Token}
use Rattle.yaml_grammar.specs.declared.ahead.Token.TheVariants.{End, Dashes, Dots, Dash, Tag, NoTag, Opens, Closes, Comma, Point, Anchor, Percent, Tabbed, Stray, Other}
use Rattle.yaml_grammar.specs.Ahead.{ahead}
use Rattle.yaml_grammar.specs.Nodes.{leaf}
use Rattle.yaml_grammar.specs.Yaml.{IsEnd, IsYaml, text_start}
use Rattle.yaml_grammar.proofs.AheadEnds.{IsSome}
use Rattle.yaml_grammar.proofs.AheadFed.{ahead_broken, end_broken, fresh_broken}

some_or_end : (t : Token) → IsSome t ⊎ (t ≡ End)
some_or_end End = inr refl
some_or_end Dashes = inl tt
some_or_end Dots = inl tt
some_or_end Dash = inl tt
some_or_end (Tag len) = inl tt
some_or_end NoTag = inl tt
some_or_end (Opens map) = inl tt
some_or_end (Closes map) = inl tt
some_or_end Comma = inl tt
some_or_end (Point loose) = inl tt
some_or_end Anchor = inl tt
some_or_end Percent = inl tt
some_or_end Tabbed = inl tt
some_or_end Stray = inl tt
some_or_end Other = inl tt

-- nothing is ahead with a break behind the text only where nothing was
pub front_end : (front : List ℕ) (flow : Bool) (i : ℕ) → i ≤ length front → (ahead (front ++ (13 ∷ 10 ∷ [])) flow i).token ≡ End → (ahead front flow i).token ≡ End
front_end front flow i low h = elim (some_or_end (ahead front flow i).token) [ inl s ↦ ap (λ (a : Ahead). a.token) (sym (ahead_broken front [] flow i low s)) ∙ h | inr e ↦ e ]

-- the document may end where it might
pub end_breaks : (front : List ℕ) (i : ℕ) → i ≤ length front → (ahead front false i).behind ≤ length front → IsEnd front i → IsEnd (front ++ (13 ∷ 10 ∷ [])) i
end_breaks front i low near (inl h) = inl (end_broken front false i low h)
end_breaks front i low near (inr (d, h)) =
    let same : ahead (front ++ (13 ∷ 10 ∷ [])) false i ≡ ahead front false i = ahead_broken front [] false i low (subst IsSome (sym d) tt) in
    inr (ap (λ (a : Ahead). a.token) same ∙ d, ap (λ (a : Ahead). (ahead (front ++ (13 ∷ 10 ∷ [])) false a.behind).token) same ∙ end_broken front false (ahead front false i).behind near h)

-- ---- the document's start

mark_longer : (front y : List ℕ) → begins_order_mark front ≡ true → begins_order_mark (front ++ y) ≡ true
mark_longer (a ∷ b ∷ c ∷ front) y h = h
mark_longer (a ∷ b ∷ []) y h = absurd (cc)
mark_longer (a ∷ []) y h = absurd (cc)
mark_longer [] y h = absurd (cc)

-- a line `---` with nothing behind it is an empty document, with a break behind the text too
pub start_breaks : (front : List ℕ) → begins_order_mark (front ++ (13 ∷ 10 ∷ [])) ≡ begins_order_mark front → text_start front ≤ length front → (ahead front false (text_start front)).token ≡ Dashes → (ahead front false (text_start front)).behind ≤ length front
    → (ahead front false (ahead front false (text_start front)).behind).token ≡ End → (tree : Forest) × IsYaml (front ++ (13 ∷ 10 ∷ [])) tree
start_breaks front mark low dashes near end =
    let new = front ++ (13 ∷ 10 ∷ []) in
    let s = text_start front in
    let start : text_start (front ++ (13 ∷ 10 ∷ [])) ≡ text_start front = ap (λ q. cond q 3 0) mark in
    let same : ahead (front ++ (13 ∷ 10 ∷ [])) false (text_start front) ≡ ahead front false (text_start front) = ahead_broken front [] false (text_start front) low (subst IsSome (sym dashes) tt) in
    let there : ahead (front ++ (13 ∷ 10 ∷ [])) false (text_start (front ++ (13 ∷ 10 ∷ []))) ≡ ahead front false (text_start front) = ap (ahead new false) start ∙ same in
    let i = (ahead front false s).behind in
    let over : (ahead new false i).token ≡ End = end_broken front false i near end in
    let l = leaf kind.Null [] None (length new) in (
      Node l Nil Nil,
      (l, Nil, i, i, inl (ap (λ (a : Ahead). a.token) there ∙ dashes, sym (ap (λ (a : Ahead). a.behind) there), fresh_broken front false i near end), inl (refl, refl, refl), inl over, refl),
    )
