-- Where reading stops at the text's length or at its last byte, and what settles the position lies within the text: the text is short, or dead there. By what may follow in longer texts.
use Rattle.std.proofs.Common.{◌≡◌, ℕ, suc, ◌-◌, ◌<◌, ◌≤◌, inl, inr, false, List, [], ◌∷◌, ◌++◌, length, refl, sym, ap, ◌∙◌, subst, arith, append_assoc}
use Rattle.std.proofs.lemmas.List.{length-append}
use Rattle.std.proofs.lemmas.Str.{IsUtf8-from_ascii, IsUtf8-append}
use Rattle.std.specs.Str.{IsUtf8}
use Rattle.doc_values.specs.Unfinished.{Unfinished}
use Rattle.yaml_scalars.specs.Lines.{ends_with}
use Rattle.yaml_laws.specs.code.Agreement.{AgreesTo}
use Rattle.yaml_grammar.specs.declared.form.Form.{Form}
use Rattle.yaml_grammar.specs.declared.stage.Stage.TheVariants as stage
use Rattle.yaml_grammar.specs.declared.stage.Position.{Position}
use Rattle.yaml_grammar.specs.Yaml.{IsStart, IsYaml}
use Rattle.yaml_grammar.specs.code.Extends.{root_seen}
use Rattle.yaml_grammar.specs.code.Closers.{in_flow}
use Rattle.yaml_grammar.specs.Places.{IsSyntax}
use Rattle.yaml_grammar.specs.code.Rest.{top}
use Rattle.yaml_grammar.specs.code.Twins.{IsTwin, IsLast, LengthensAt, Alive, settled}
use Rattle.yaml_grammar.proofs.Back.{back}
use Rattle.yaml_grammar.proofs.DeadPlaces.{NoTwin}
use Rattle.yaml_grammar.proofs.LivesOn.{LivesOn}
use Rattle.yaml_grammar.proofs.MarkTexts.{twins_dead}
use Rattle.yaml_grammar.proofs.ShortTexts.{ascii_bytes}
use Rattle.yaml_grammar.proofs.Stopped.{last_return}

-- what is a twin at the last byte is a longer text
pub longer_of : (text other : List ℕ) (n : ℕ) → suc n ≡ length text → IsTwin text n other → (more : List ℕ) × (other ≡ text ++ more)
longer_of text other n e m = by_front m.agrees where
  none : (xs : List ℕ) → length xs ≡ 0 → xs ≡ []
  none [] z = refl
  none (x ∷ xs) z = absurd (omega (arith, z))

  by_front : AgreesTo n text other → (more : List ℕ) × (other ≡ text ++ more)
  by_front (before, behind, more, b, f, g, size) =
      let long = ap (λ (t : List ℕ). length t) f in
      let nil = none behind (omega (arith, long, size, e, length-append before (b ∷ behind))) in
      let whole : text ≡ before ++ (b ∷ []) = f ∙ ap (λ r. before ++ (b ∷ r)) nil in
      (more, g ∙ sym (append_assoc before (b ∷ []) more) ∙ ap (λ t. t ++ more) (sym whole))

module _ (text : List ℕ) (p : Position) (fs : List Form) (u : Unfinished) (utf8 : IsUtf8 text) (lives : LivesOn text p fs u) (goes : p.stage ≡ stage.Whole → ⊥) (some : 0 < length text) (near : settled text (in_flow (top fs)) p.stage p.at ≤ length text - 1) (root : fs ≡ [] → IsStart text p.at → root_seen text p.at < length text)
    (last : ends_with 13 text ≡ false) (q : ℕ) (says : LengthensAt text p.stage fs u p.at q) where
  alive : (more : List ℕ) → IsUtf8 (text ++ more) → Alive (text ++ more) (IsYaml (text ++ more)) fs u p
  alive more long = back text p fs u utf8 lives goes some near root last more long

  -- some bytes mend it
  pub length_short : q ≡ length text → IsSyntax text q
  length_short e =
      let m = (says last).0 e in
      let long : IsUtf8 (text ++ m.0) = IsUtf8-append text m.0 utf8 (IsUtf8-from_ascii m.0 (ascii_bytes m.0 m.1)) in
      let t = (alive m.0 long).0.1 m.2 m.3 in
      inr (e, (m.0, t.0, long, t.1))

  -- nothing follows in a longer text
  pub last_dead : IsLast text p.at q → IsSyntax text q
  last_dead l = inl (twins_dead text q q utf8 (let e = l.0 in omega (arith, e)) (inr (refl, last_return text q l.0 last)) none) where
    none : NoTwin text q
    none other m tree y =
        let w = longer_of text other q l.0 m in
        let long : IsUtf8 (text ++ w.0) = subst IsUtf8 w.1 m.utf8 in
        let a = alive w.0 long in
        let r = a.0.0 tree (subst (λ t. IsYaml t tree) w.1 y) in
        (says last).1 l w.0 long a.2 a.1 r.0 r.1
