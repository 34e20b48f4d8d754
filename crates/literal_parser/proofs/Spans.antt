-- The tokens of a text are parts of it that have the forms of their kinds; by induction on the tokens.
use Rattle.std.proofs.Common.{◌≡◌, inl, inr, ℕ, zero, suc, ◌+◌, ◌-◌, Bool, false, List, [], ◌∷◌, ◌++◌, length, take, drop, Option, None, refl, sym, ap, ◌∙◌, subst, arith, length-append}
use Rattle.std.specs.Prelude.{slice_range}
use Rattle.std.proofs.lemmas.List.{take_at, drop_at, drop-drop}
use Rattle.guard_lexer.specs.declared.token.Token.{Token}
use Rattle.guard_lexer.specs.declared.token.LexRefusal.{LexRefusal}
use Rattle.guard_lexer.specs.Lexes.{Takes, Reads, Starts, IsTokenList, is_dot}
use Rattle.literal_parser.specs.code.Cuts.{IsEdged, IsFramed, IsTokenIn, AreTokensIn}
use Rattle.literal_parser.proofs.Cuts.{form_edged, form_framed}

module _ (text : List ℕ) where
  -- the bytes stand at a place, up to the end of the text
  record StandsAt (at : ℕ) (bytes : List ℕ) : Type 0 where
    pub is : drop at text ≡ bytes
    pub whole : at + length bytes ≡ length text

  module _ (dot : Bool) (at : ℕ) (bytes : List ℕ) (t : Token) (rest : List ℕ) (stands : StandsAt at bytes) (h : Takes dot at bytes t rest) where
    here : drop t.from text ≡ h.text ++ rest
    here = ap (λ n. drop n text) h.from ∙ sym (drop-drop (length h.gap) at text) ∙ ap (drop (length h.gap)) (stands.is ∙ h.joined) ∙ drop_at h.gap (h.text ++ rest) (length h.gap) refl

    size : length bytes ≡ length h.gap + (length h.text + length rest)
    size = ap (λ (x : List ℕ). length x) h.joined ∙ length-append h.gap (h.text ++ rest) ∙ ap (λ n. length h.gap + n) (length-append h.text rest)

    part : slice_range text t.from t.to ≡ h.text
    part = let to = h.to in ap (take (t.to - t.from)) here ∙ take_at h.text rest (t.to - t.from) (let l : length h.text ≡ t.to - t.from = omega arith in l)

    token_in : IsTokenIn text t
    token_in = let whole = stands.whole in let n = size in let from = h.from in let to = h.to in record {
      forward = omega arith;
      within = omega arith;
      edges = λ said. subst IsEdged (sym part) (form_edged dot t.kind h.text h.is.form said);
      signs = λ note. subst IsFramed (sym part) (form_framed dot t.kind h.text h.is.form note);
    }

    behind : StandsAt t.to rest
    behind = let whole = stands.whole in let n = size in let from = h.from in let to = h.to in record {
      is = ap (λ n. drop n text) h.to ∙ sym (drop-drop (length h.text) t.from text) ∙ ap (drop (length h.text)) here ∙ drop_at h.text rest (length h.text) refl;
      whole = omega arith;
    }

  reads_in : (dot : Bool) (at : ℕ) (bytes : List ℕ) (ts : List Token) (end : Option LexRefusal) → StandsAt at bytes → Reads dot at bytes ts end → AreTokensIn text ts
  reads_in dot at bytes [] end stands reads i other less = absurd (omega arith)
  reads_in dot at bytes (t ∷ ts) end stands (rest, h, more) zero other less = token_in dot at bytes t rest stands h
  reads_in dot at bytes (t ∷ ts) end stands (rest, h, more) (suc i) other less = reads_in (is_dot t.kind) t.to rest ts end (behind dot at bytes t rest stands h) more i other (omega arith)

  starts_at : (at : ℕ) (bytes : List ℕ) → Starts text at bytes → StandsAt at bytes
  starts_at at bytes (inl (a, e)) = record {
    is = ap (λ n. drop n text) a ∙ ap (drop 3) e;
    whole = let l = ap (λ (x : List ℕ). length x) e in omega arith;
  }
  starts_at at bytes (inr (a, e, none)) = record {
    is = ap (λ n. drop n text) a ∙ e;
    whole = let l = ap (λ (x : List ℕ). length x) e in omega arith;
  }

pub tokens_in : (text : List ℕ) (tokens : List Token) → IsTokenList text tokens → AreTokensIn text tokens
tokens_in text tokens (at, bytes, starts, reads) = reads_in text false at bytes tokens None (starts_at text at bytes starts) reads
