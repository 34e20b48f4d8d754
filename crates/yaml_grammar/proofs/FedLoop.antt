-- A sign in the loop, in a text that ends in a carriage return and a line feed, leaves no document that begins with the text. By what the step that finds it gives in longer texts.
use Rattle.std.proofs.Common.{◌≡◌, ℕ, suc, ◌<◌, ◌≤◌, inr, Bool, true, false, List, [], ◌∷◌, ◌++◌, length, refl, sym, ap, ◌∙◌, subst, arith}
use Rattle.std.specs.Prelude.{Err, Some, option_map}
use Rattle.std.specs.Str.{IsCharBoundary, IsUtf8}
use Rattle.doc_values.specs.Unfinished.{Unfinished}
use Rattle.yaml_grammar.specs.declared.ahead.Token.TheVariants.{End, Dots}
use Rattle.yaml_grammar.specs.declared.form.Form.{Form}
use Rattle.yaml_grammar.specs.declared.stage.Stage.TheVariants as stage
use Rattle.yaml_grammar.specs.declared.stage.Position.{Position}
use Rattle.yaml_grammar.specs.declared.stop.Stop.{Stop}
use Rattle.yaml_grammar.specs.declared.stop.Stop.TheVariants as stop
use Rattle.yaml_grammar.specs.Ahead.{ahead}
use Rattle.yaml_grammar.specs.Nodes.{starts_scalar}
use Rattle.yaml_grammar.specs.Signs as sign
use Rattle.yaml_grammar.specs.Signs.{Sign, Reading, Tree, Refused}
use Rattle.yaml_grammar.specs.Yaml.{start_sign}
use Rattle.yaml_grammar.specs.code.AheadSeen.{ahead_seen}
use Rattle.yaml_grammar.specs.code.Closers.{in_flow}
use Rattle.yaml_grammar.specs.Places.{IsFront}
use Rattle.yaml_grammar.specs.code.ReadAgain.{Extends, NoneLonger, OnSign, SignStays, SignsAgain}
use Rattle.yaml_grammar.specs.code.Refused.{of_sign}
use Rattle.yaml_grammar.specs.code.Rest.{top}
use Rattle.yaml_grammar.specs.code.Steps.{IsFlow, IsBlock, IsBehind, Rest, Fits, SameStep, Gives, Broke}
use Rattle.yaml_grammar.specs.code.Twins.{IsTwin}
use Rattle.yaml_grammar.proofs.FedEnds.{end_signless, ended_signless}
use Rattle.yaml_grammar.proofs.FedSigns.{broke_none}
use Rattle.yaml_grammar.proofs.FedStarts.{start_front}
use Rattle.yaml_grammar.proofs.FedSteps.{plain_step}
use Rattle.yaml_grammar.proofs.FedTexts.{fed_seen, fed_size, fed_twin}
use Rattle.yaml_grammar.proofs.Gains.{told}
use Rattle.yaml_grammar.proofs.Lives.{Lives}
use Rattle.yaml_grammar.proofs.SameTexts.{same_step}

-- what is so of a text with a carriage return and a line feed at its end, and of one that begins with it
pub extended : (P : List ℕ → List ℕ → Type 0) (text other : List ℕ) → Extends text other → ((front rest : List ℕ) → IsUtf8 ((front ++ (13 ∷ 10 ∷ [])) ++ rest) → P (front ++ (13 ∷ 10 ∷ [])) ((front ++ (13 ∷ 10 ∷ [])) ++ rest)) → P text other
extended P text other (front, rest, et, eo, utf8) f =
    let same : other ≡ (front ++ (13 ∷ 10 ∷ [])) ++ rest = eo ∙ ap (λ t. t ++ rest) et in
    subst (λ t. P t other) (sym et) (subst (λ o. P (front ++ (13 ∷ 10 ∷ [])) o) (sym same) (f front rest (subst IsUtf8 same utf8)))

pub extended_utf8 : (text other : List ℕ) → Extends text other → IsUtf8 other
extended_utf8 text other (front, rest, et, eo, utf8) = utf8

-- a sign is all that may follow
sign_broke : (text : List ℕ) (P : Reading → Type 0) (n : ℕ) (gs : List Form) (w : Unfinished) (z : Sign) → Gives text P n gs w (Err (of_sign z)) → Broke P z
sign_broke text P n gs w (sign.Tab at) g = g
sign_broke text P n gs w (sign.Anchor at) g = g
sign_broke text P n gs w (sign.Tag at) g = g
sign_broke text P n gs w (sign.Directive at) g = g
sign_broke text P n gs w (sign.ManyDocuments at) g = g
sign_broke text P n gs w (sign.DuplicateKey at) g = g
sign_broke text P n gs w (sign.TooDeep at) g = g

on_sign : (holds : Type 0) (z : Sign) → OnSign holds (Err (of_sign z)) → holds
on_sign holds (sign.Tab at) h = h
on_sign holds (sign.Anchor at) h = h
on_sign holds (sign.Tag at) h = h
on_sign holds (sign.Directive at) h = h
on_sign holds (sign.ManyDocuments at) h = h
on_sign holds (sign.DuplicateKey at) h = h
on_sign holds (sign.TooDeep at) h = h

module _ (text : List ℕ) (utf8 : IsUtf8 text) (p : Position) (fs : List Form) (u : Unfinished) (n : ℕ) (gs : List Form) (w : Unfinished) (cut : IsCharBoundary text p.at) (go : p.stage ≡ stage.Whole → ⊥) (fits : Fits text p.stage fs u p.at) (z : Sign)
    (gives : (other : List ℕ) → IsUtf8 other → IsCharBoundary other p.at → Fits other p.stage fs u p.at → SameStep text other p.stage (top fs) p.at → Gives other (Rest other p.stage fs u p.at) n gs w (Err (of_sign z))) where
  here : Broke (Rest text p.stage fs u p.at) z
  here = sign_broke text (Rest text p.stage fs u p.at) n gs w z (gives text utf8 cut fits (same_step text p.stage (top fs) p.at))

  -- something is ahead
  some : (ahead text (in_flow (top fs)) p.at).token ≡ End → ⊥
  some e = end_signless text utf8 fs u p.at cut p.stage z go fits e here

  -- the document does not end there
  further : p.stage ≡ stage.After → IsBlock (top fs) → (ahead text false p.at).token ≡ Dots → (ahead text false (ahead text false p.at).behind).token ≡ End → ⊥
  further e b d f = by_stage e fits here where
    by_stage : p.stage ≡ stage.After → Fits text p.stage fs u p.at → Broke (Rest text p.stage fs u p.at) z → ⊥
    by_stage e fit k = at_stage (subst (λ s. Fits text s fs u p.at) e fit) (subst (λ s. Broke (Rest text s fs u p.at) z) e k) where
      at_stage : Fits text stage.After fs u p.at → Broke (Rest text stage.After fs u p.at) z → ⊥
      at_stage fit k = ended_signless text utf8 fs u p.at cut z b fit.0 (inr (d, f)) k

  -- where the token begins no scalar, the step is the same in longer texts
  step_same : starts_scalar (ahead text (in_flow (top fs)) p.at).token ≡ false → (other : List ℕ) → Extends text other → SameStep text other p.stage (top fs) p.at
  step_same plain other x =
      extended
      (λ t o. IsUtf8 t → IsCharBoundary t p.at → ((ahead t (in_flow (top fs)) p.at).token ≡ End → ⊥) → starts_scalar (ahead t (in_flow (top fs)) p.at).token ≡ false
      → (p.stage ≡ stage.After → IsBlock (top fs) → (ahead t false p.at).token ≡ Dots → (ahead t false (ahead t false p.at).behind).token ≡ End → ⊥) → SameStep t o p.stage (top fs) p.at)
      text other x (λ front rest longer valid c s q d. plain_step front rest valid longer p.at c p.stage (top fs) s q in_brackets behind d) utf8 cut some plain further where
        in_brackets : p.stage ≡ stage.Entry → IsFlow (top fs)
        in_brackets e = by_form (subst (λ s. Fits text s fs u p.at) e fits) where
          by_form : Fits text stage.Entry fs u p.at → IsFlow (top fs)
          by_form (o, (map, form), k) = subst IsFlow (sym form) tt

        behind : p.stage ≡ stage.Value → IsBehind (top fs) p.at
        behind e = by_form (subst (λ s. Fits text s fs u p.at) e fits) where
          by_form : Fits text stage.Value fs u p.at → IsBehind (top fs) p.at
          by_form f = f.3

  -- nothing follows in them that is a tree
  sign_none : (starts_scalar (ahead text (in_flow (top fs)) p.at).token ≡ true → SignStays text p.stage fs u p.at (Err (of_sign z))) → NoneLonger text p.stage fs u p.at
  sign_none again = λ other x there fit t h. by_start (starts_scalar (ahead text (in_flow (top fs)) p.at).token) refl other x there fit t h where
    by_start : (q : Bool) → starts_scalar (ahead text (in_flow (top fs)) p.at).token ≡ q → NoneLonger text p.stage fs u p.at
    by_start true e = on_sign (NoneLonger text p.stage fs u p.at) z (again e)
    by_start false e = λ other x there fit t h.
        broke_none (Rest other p.stage fs u p.at) z (sign_broke other (Rest other p.stage fs u p.at) n gs w z (gives other (extended_utf8 text other x) there fit (step_same e other x))) t h

  -- so no document begins with the text
  pub sign_front : (starts_scalar (ahead text (in_flow (top fs)) p.at).token ≡ true → SignStays text p.stage fs u p.at (Err (of_sign z))) → Lives text p fs u → (front : List ℕ) → text ≡ front ++ (13 ∷ 10 ∷ []) → IsFront text → ⊥
  sign_front again lives front et (more, tree, valid, y) =
      let x : Extends text (text ++ more) = (front, more, et, refl, valid) in
      let twin : IsTwin text (suc (length front)) (text ++ more) = subst (λ t. IsUtf8 (t ++ more) → IsTwin t (suc (length front)) (t ++ more)) (sym et) (fed_twin front more) valid in
      let near : ahead_seen text p.at ≤ suc (length front) = seen_near in
      let a = lives go (suc (length front)) (text ++ more) twin near in
      let g = a.0.0 tree y in
      sign_none again (text ++ more) x a.2 a.1 g.0 g.1 where
        seen_near : ahead_seen text p.at ≤ suc (length front)
        seen_near =
            let l = subst (λ t. p.at ≤ length t → ((ahead t (in_flow (top fs)) p.at).token ≡ End → ⊥) → ahead_seen t p.at < length t) (sym et) (fed_seen front (in_flow (top fs)) p.at) cut.0 some in
            let s = fed_size front in
            let m = ap (λ (t : List ℕ). length t) et in
            omega (arith, l, s, m)

-- where reading stops in the loop
pub signs_again : (text : List ℕ) → IsUtf8 text → (p : Position) (fs : List Form) (u : Unfinished) (n : ℕ) (gs : List Form) (w : Unfinished) (e : Stop) → IsCharBoundary text p.at → (p.stage ≡ stage.Whole → ⊥) → Fits text p.stage fs u p.at
    → ((other : List ℕ) → IsUtf8 other → IsCharBoundary other p.at → Fits other p.stage fs u p.at → SameStep text other p.stage (top fs) p.at → Gives other (Rest other p.stage fs u p.at) n gs w (Err e))
    → (starts_scalar (ahead text (in_flow (top fs)) p.at).token ≡ true → SignStays text p.stage fs u p.at (Err e)) → Lives text p fs u → SignsAgain text e
signs_again text utf8 p fs u n gs w (stop.Unread at) cut go fits gives again lives = tt
signs_again text utf8 p fs u n gs w (stop.Tab at) cut go fits gives again lives = sign_front text utf8 p fs u n gs w cut go fits (sign.Tab at) gives again lives
signs_again text utf8 p fs u n gs w (stop.Anchor at) cut go fits gives again lives = sign_front text utf8 p fs u n gs w cut go fits (sign.Anchor at) gives again lives
signs_again text utf8 p fs u n gs w (stop.Tag at) cut go fits gives again lives = sign_front text utf8 p fs u n gs w cut go fits (sign.Tag at) gives again lives
signs_again text utf8 p fs u n gs w (stop.Directive at) cut go fits gives again lives = sign_front text utf8 p fs u n gs w cut go fits (sign.Directive at) gives again lives
signs_again text utf8 p fs u n gs w (stop.ManyDocuments at) cut go fits gives again lives = sign_front text utf8 p fs u n gs w cut go fits (sign.ManyDocuments at) gives again lives
signs_again text utf8 p fs u n gs w (stop.DuplicateKey at) cut go fits gives again lives = sign_front text utf8 p fs u n gs w cut go fits (sign.DuplicateKey at) gives again lives
signs_again text utf8 p fs u n gs w (stop.TooDeep at) cut go fits gives again lives = sign_front text utf8 p fs u n gs w cut go fits (sign.TooDeep at) gives again lives
signs_again text utf8 p fs u n gs w stop.NoMemory cut go fits gives again lives = tt

-- want of memory is no sign
pub memory_again : (text : List ℕ) (e : Stop) → e ≡ stop.NoMemory → SignsAgain text e
memory_again text e h = subst (SignsAgain text) (sym h) tt

-- a sign in front of the document
of_sign_again : (text : List ℕ) (z : Sign) → ((front : List ℕ) → text ≡ front ++ (13 ∷ 10 ∷ []) → IsFront text → ⊥) → SignsAgain text (of_sign z)
of_sign_again text (sign.Tab at) h = h
of_sign_again text (sign.Anchor at) h = h
of_sign_again text (sign.Tag at) h = h
of_sign_again text (sign.Directive at) h = h
of_sign_again text (sign.ManyDocuments at) h = h
of_sign_again text (sign.DuplicateKey at) h = h
of_sign_again text (sign.TooDeep at) h = h

pub start_again : (text : List ℕ) (e : Stop) → Some e ≡ option_map of_sign (start_sign text) → SignsAgain text e
start_again text e h =
    let t = told (start_sign text) e h in
    subst (SignsAgain text) t.2
    (of_sign_again text t.0 (λ front et. subst (λ x. start_sign x ≡ Some t.0 → IsFront x → ⊥) (sym et) (start_front front t.0) t.1))
