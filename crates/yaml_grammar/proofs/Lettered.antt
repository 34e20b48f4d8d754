-- What makes a document of a text that ends in a colon over which a plain scalar goes on, where a value may stand: a letter behind the colon, and brackets.
use Rattle.std.proofs.Common.{◌≡◌, ℕ, ◌<◌, ◌≤◌, inl, inr, Bool, true, false, arith, List, [], ◌∷◌, ◌++◌, Option, drop, length, refl, sym, ◌∙◌, subst, true≢false, append_assoc, length-append}
use Rattle.doc_values.specs.declared.kind.Kind.TheVariants as kind
use Rattle.doc_values.specs.Tree.{Forest}
use Rattle.doc_values.specs.Unfinished.{Level}
use Rattle.yaml_scalars.specs.Lines.{Stands, ends_with}
use Rattle.yaml_scalars.specs.Scalar.{begins_quoted, begins_block, scalar_at, is_typed}
use Rattle.yaml_laws.specs.code.Agreement.{scalar_shown}
use Rattle.yaml_laws.proofs.Dotless.{undotted_grown}
use Rattle.yaml_laws.proofs.PlainLettered.{scalar_lettered}
use Rattle.yaml_laws.proofs.ScalarFollowed.{feed_none}
use Rattle.yaml_grammar.specs.declared.form.Form.{Form}
use Rattle.yaml_grammar.specs.Ahead.{ahead}
use Rattle.yaml_grammar.specs.Nodes.{setting_of, follows_get_att, is_cut, starts_scalar}
use Rattle.yaml_grammar.specs.Signs.{Tree}
use Rattle.yaml_grammar.specs.code.Closers.{closers, HasRoom, in_flow, MayBegin, MendsValue}
use Rattle.yaml_grammar.specs.code.Rest.{top, Awaits}
use Rattle.yaml_grammar.specs.code.Steps.{Agrees, Nests}
use Rattle.yaml_grammar.proofs.AheadLonger.{BothBegin, ahead_longer}
use Rattle.yaml_grammar.proofs.LetterKinds.{letter_kind}
use Rattle.yaml_grammar.proofs.Values.{closers_ascii, closers_break, cuts_longer, ends_value, free_uncut}

ends_letter : (g : List ℕ) → ends_with 97 (g ++ (97 ∷ [])) ≡ true
ends_letter [] = refl
ends_letter (c ∷ []) = refl
ends_letter (c ∷ d ∷ g) = ends_letter (d ∷ g)

cut_left : (c : Bool) (t : List ℕ) → is_cut c kind.Text t ≡ true → c ≡ true
cut_left true t h = refl
cut_left false t h = absurd (true≢false (sym h))

pub value_lettered : (fs : List Form) (outer : List Level) (done : Forest) (key : Option (List ℕ)) (i : ℕ) → Agrees fs outer → Nests fs → (text t : List ℕ) (e : ℕ) → i ≤ length text → MayBegin (top fs) (ahead text (in_flow (top fs)) i) → starts_scalar (ahead text (in_flow (top fs)) i).token ≡ true → (ahead text (in_flow (top fs)) i).at < length text
    → ends_with 58 text ≡ true → begins_quoted (drop (ahead text (in_flow (top fs)) i).at text) ≡ false → begins_block (setting_of (top fs)) (drop (ahead text (in_flow (top fs)) i).at text) ≡ false → scalar_shown (setting_of (top fs)) text (ahead text (in_flow (top fs)) i).at e ≡ length text
    → scalar_at (setting_of (top fs)) text (ahead text (in_flow (top fs)) i).at ≡ Stands t e → (follows_get_att text (top fs) i ≡ true → HasRoom text (ahead text (in_flow (top fs)) i).at (length outer)) → MendsValue text fs outer done key i
value_lettered fs outer done key i agrees nests text t e low may starts l last q b shown h room =
    let flow = in_flow (top fs) in
    let s = setting_of (top fs) in
    let a = ahead text (in_flow (top fs)) i in
    let z = scalar_lettered (setting_of (top fs)) text (ahead text (in_flow (top fs)) i).at t e l last q b shown h in
    let new : (text ++ (97 ∷ [])) ++ closers fs ≡ text ++ (97 ∷ closers fs) = append_assoc text (97 ∷ []) (closers fs) in
    let size = length-append text (97 ∷ []) in
    let both = ahead_longer 97 (closers fs) refl flow text i low (feed_none (closers fs) (closers_break fs)) starts in
    let r =
    ends_value fs outer done key i agrees nests (text ++ (97 ∷ [])) (ahead text (in_flow (top fs)) i) (z.0 ++ (97 ∷ [])) kind.Text (omega (arith, low, size)) (omega (arith, l, size)) (subst (λ y. BothBegin a (ahead y flow i)) (sym new) both) may z.1
    (letter_kind (is_typed s (text ++ (97 ∷ [])) a.at) (z.0 ++ (97 ∷ [])) (ends_letter z.0))
    (λ c. elim (room (sym (cuts_longer text (97 ∷ []) (top fs) i low) ∙ cut_left (follows_get_att (text ++ (97 ∷ [])) (top fs) i) (z.0 ++ (97 ∷ [])) c)) [
      | inl m ↦ m
      | inr n ↦ absurd (true≢false (sym c ∙ free_uncut (follows_get_att (text ++ (97 ∷ [])) (top fs) i) (z.0 ++ (97 ∷ [])) (undotted_grown (setting_of (top fs)) text (ahead text (in_flow (top fs)) i).at (97 ∷ []) (z.0 ++ (97 ∷ [])) (length (text ++ (97 ∷ []))) l b n refl z.1)))
    ]) in
    let y = subst (λ w. (tree : Forest) × Awaits w fs outer done key i (Tree tree)) new r in
    (97 ∷ closers fs, closers_ascii fs, y.0, y.1)
