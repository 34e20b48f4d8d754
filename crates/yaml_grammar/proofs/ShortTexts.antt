-- A text that some more bytes complete, where all that is ahead of the place of reading is looked at within it, is short. By what follows in the longer text, which is the same so far.
use Rattle.std.proofs.Common.{inl, ◌≡◌, ℕ, ◌<◌, Bool, true, false, cond, List, [], ◌∷◌, ◌++◌, drop, length, refl, sym, ap, ◌∙◌, subst, true≢false, arith, append_assoc}
use Rattle.std.proofs.lemmas.Bool.{ltb-true}
use Rattle.std.proofs.lemmas.Str.{IsUtf8-from_ascii, IsUtf8-append}
use Rattle.std.proofs.lemmas.Str.Ascii.{IsAscii-nil, IsAscii-cons}
use Rattle.std.specs.Str.{IsUtf8, IsAscii}
use Rattle.doc_values.specs.Tree.{Forest}
use Rattle.doc_values.specs.Unfinished.{Unfinished}
use Rattle.yaml_scalars.specs.Lines.{begins_with, each, ends_with}
use Rattle.yaml_scalars.specs.Scalar.{begins_order_mark, begins_block}
use Rattle.yaml_laws.specs.code.Agreement.{AgreesTo}
use Rattle.yaml_laws.specs.code.Refusals.{is_ascii}
use Rattle.yaml_laws.proofs.AgreeLess.{agrees_here}
use Rattle.yaml_grammar.specs.declared.form.Form.{Form}
use Rattle.yaml_grammar.specs.declared.stage.Stage.TheVariants as stage
use Rattle.yaml_grammar.specs.declared.stage.Position.{Position}
use Rattle.yaml_grammar.specs.Ahead.{ahead}
use Rattle.yaml_grammar.specs.Nodes.{follows_get_att, setting_of}
use Rattle.yaml_grammar.specs.Signs.{Tree}
use Rattle.yaml_grammar.specs.code.AheadSeen.{ahead_seen}
use Rattle.yaml_grammar.specs.code.Closers.{in_flow, BreaksOff}
use Rattle.yaml_grammar.specs.Places.{IsShort}
use Rattle.yaml_grammar.specs.code.Rest.{top}
use Rattle.yaml_grammar.specs.code.Steps.{Rest, Fits}
use Rattle.yaml_grammar.specs.code.Twins.{IsTwin}
use Rattle.yaml_grammar.proofs.DeadPlaces.{parted, unmarked}
use Rattle.yaml_grammar.proofs.Lives.{Lives}
use Rattle.yaml_grammar.proofs.MarkTexts.{three_front}
use Rattle.yaml_grammar.proofs.Values.{value_grown}

-- ---- the longer text

pub ascii_bytes : (w : List ℕ) → each is_ascii w ≡ true → IsAscii w
ascii_bytes [] h = IsAscii-nil
ascii_bytes (b ∷ w) h = by_byte (is_ascii b) refl h (λ k. ascii_bytes w k) where
  by_byte : (q : Bool) → is_ascii b ≡ q → cond q (each is_ascii w) false ≡ true → (each is_ascii w ≡ true → IsAscii w) → IsAscii (b ∷ w)
  by_byte true e k f = IsAscii-cons b w (ltb-true b 128 e) (f k)
  by_byte false e k f = absurd (true≢false (sym k))

pub marks_longer : (text more : List ℕ) → IsUtf8 text → 0 < length text → begins_order_mark (text ++ more) ≡ begins_order_mark text
marks_longer text more utf8 l = by_mark (begins_with 239 text) refl where
  first : (xs : List ℕ) → 0 < length xs → begins_with 239 (xs ++ more) ≡ begins_with 239 xs
  first [] k = absurd (omega (arith, k))
  first (x ∷ xs) k = refl

  by_mark : (q : Bool) → begins_with 239 text ≡ q → begins_order_mark (text ++ more) ≡ begins_order_mark text
  by_mark false e = unmarked (text ++ more) (first text l ∙ e) ∙ sym (unmarked text e)
  by_mark true e = let f = three_front text utf8 e in subst (λ t. begins_order_mark (t ++ more) ≡ begins_order_mark t) f.3 refl

pub twin_longer : (text : List ℕ) (place : ℕ) (more : List ℕ) → IsUtf8 text → each is_ascii more ≡ true → place < length text → begins_with 13 (drop place text) ≡ false → IsTwin text place (text ++ more)
twin_longer text place more utf8 ascii l feed = by_front (parted text place l) where
  by_front : (before behind : List ℕ) × (b : ℕ) × (text ≡ before ++ (b ∷ behind)) × (length before ≡ place) → IsTwin text place (text ++ more)
  by_front (before, behind, b, e, size) =
      let agrees : AgreesTo place text (text ++ more) = (before, behind, behind ++ more, b, e, ap (λ t. t ++ more) e ∙ append_assoc before (b ∷ behind) more, size) in
      record { utf8 = IsUtf8-append text more utf8 (IsUtf8-from_ascii more (ascii_bytes more ascii)); marks = marks_longer text more utf8 (omega (arith, l)); agrees = agrees; breaks = agrees_here place text (text ++ more) agrees feed }

-- ---- what completes it

module _ (text : List ℕ) (p : Position) (fs : List Form) (u : Unfinished) (utf8 : IsUtf8 text) (lives : Lives text p fs u) (near : ahead_seen text p.at < length text) (feed : begins_with 13 (drop (ahead_seen text p.at) text) ≡ false) where
  pub mended : (p.stage ≡ stage.Whole → ⊥) → (more : List ℕ) → each is_ascii more ≡ true → (g : Forest) → Rest (text ++ more) p.stage fs u p.at (Tree g) → IsShort text (length text)
  mended goes more ascii g h =
      let m = twin_longer text (ahead_seen text p.at) more utf8 ascii near feed in
      let a = lives goes (ahead_seen text p.at) (text ++ more) m (omega arith) in
      let t = a.0.1 g h in
      (refl, (more, t.0, m.utf8, t.1))

  -- a scalar where a value may stand breaks off there: a plain or quoted one, if no carriage return ends the text
  pub value_short : p.stage ≡ stage.Value → Fits text stage.Value fs u p.at → p.at < length text → BreaksOff text (top fs) p.at → begins_block (setting_of (top fs)) (drop (ahead text (in_flow (top fs)) p.at).at text) ≡ false → ends_with 13 text ≡ false
      → (follows_get_att text (top fs) p.at ≡ true → length u.outer < 128) → IsShort text (length text)
  value_short e fits within (may, starts, l, h) block last room =
      let v = value_grown fs u.outer u.done u.key p.at fits.0.0 fits.0.1 text (omega (arith, within)) may starts l block last h (λ e. inl (room e)) in
      mended (λ w. whole_value (sym e ∙ w)) v.0 v.1 v.2 (subst (λ s. Rest (text ++ v.0) s fs u p.at (Tree v.2)) (sym e) v.3) where
        whole_value : stage.Value ≡ stage.Whole → ⊥
        whole_value w = absurd (cc)
