-- A text that ends in a carriage return, read again with a line feed behind it: what each of the calls says. By the cases of what they answer.
use Rattle.std.proofs.Common.{◌≡◌, ℕ, zero, suc, ◌⊎◌, inl, inr, true, false, List, [], ◌∷◌, ◌++◌, Some, None, length, nat_eq, refl, sym, ap, ◌∙◌, subst, true≢false, arith, append_assoc, append-nil, length-append}
use Rattle.std.proofs.lemmas.Bool.Decides.{nat_tests}
use Rattle.std.specs.Prelude.{Option, slice_index_or, option_map}
use Rattle.std.specs.Str.{IsUtf8}
use Rattle.doc_values.specs.Tree.{Forest}
use Rattle.yaml_scalars.specs.Lines.{ends_with}
use Rattle.yaml_grammar.specs.declared.ahead.Ahead.{Ahead}
use Rattle.yaml_grammar.specs.declared.ahead.Token.TheVariants.{Dashes}
use Rattle.yaml_grammar.specs.declared.stop.Stop.{Stop}
use Rattle.yaml_grammar.specs.declared.stop.Stop.TheVariants as stop
use Rattle.yaml_grammar.specs.Ahead.{ahead}
use Rattle.yaml_grammar.specs.Answers.{IsUnread, Reads, Refuses}
use Rattle.yaml_grammar.specs.Signs.{Sign}
use Rattle.yaml_grammar.specs.Yaml.{IsStart, IsYaml, start_sign, text_start}
use Rattle.yaml_grammar.specs.code.Memory.{BeginsDocument}
use Rattle.yaml_grammar.specs.Places.{IsFront, IsSyntax}
use Rattle.yaml_grammar.specs.code.Places.{IsSyntaxStop}
use Rattle.yaml_grammar.specs.code.ReadAgain.{SaysAgain, SignsAgain, StopsAgain}
use Rattle.yaml_grammar.specs.code.Refused.{of_sign, of_stop, IsStopped}
use Rattle.yaml_grammar.proofs.DeadPlaces.{front_less}
use Rattle.yaml_grammar.proofs.Gains.{told}
use Rattle.yaml_grammar.proofs.Rests.{none_some}

-- ---- in front of the document

pub signed_unbegun : (text : List ℕ) (e : Stop) → Some e ≡ option_map of_sign (start_sign text) → BeginsDocument text → ⊥
signed_unbegun text e h b = let t = told (start_sign text) e h in none_some (start_sign text) t.0 b.0 t.1

pub dashes_unbegun : (text : List ℕ) (at behind : ℕ) (next after : Ahead) → at ≡ text_start text → next ≡ ahead text false at → behind ≡ next.behind → after ≡ ahead text false behind → next.token ≡ Dashes → after.fresh ≡ false → BeginsDocument text → ⊥
dashes_unbegun text at behind next after ea en eb ef d f (n, (i, inl (t, e, g))) =
    let first : next ≡ ahead text false (text_start text) = en ∙ ap (ahead text false) ea in
    let here : i ≡ behind = e ∙ sym (ap (λ (a : Ahead). a.behind) first) ∙ sym eb in
    true≢false (sym g ∙ ap (λ k. (ahead text false k).fresh) here ∙ ap (λ (a : Ahead). a.fresh) (sym ef) ∙ f)
dashes_unbegun text at behind next after ea en eb ef d f (n, (i, inr (none, e))) =
    none (ap (λ (a : Ahead). a.token) (sym (en ∙ ap (ahead text false) ea)) ∙ d)

-- of a text that is not read, and in front of which no sign stands
pub unread_unbegun : (text : List ℕ) → IsUnread text → (BeginsDocument text → ⊥) → (i : ℕ) → IsStart text i → ⊥
unread_unbegun text unread none i s = none (by_sign (start_sign text) refl, (i, s)) where
  by_sign : (o : Option Sign) → start_sign text ≡ o → start_sign text ≡ None
  by_sign None e = e
  by_sign (Some z) e = absurd (unread.0 z (inl e))

-- ---- a carriage return at the end

pub ends_empty : (xs : List ℕ) → length xs ≡ 0 → ends_with 13 xs ≡ false
ends_empty [] e = refl
ends_empty (b ∷ xs) e = absurd (omega (arith, e))

pub ends_at : (xs : List ℕ) (n : ℕ) → length xs ≡ suc n → ends_with 13 xs ≡ nat_eq (slice_index_or xs n 0) 13
ends_at [] n e = absurd (omega (arith, e))
ends_at (b ∷ []) n e = let z : n ≡ 0 = omega (arith, e) in ap (λ k. nat_eq (slice_index_or (b ∷ []) k 0) 13) (sym z)
ends_at (b ∷ c ∷ xs) zero e = absurd (omega (arith, e))
ends_at (b ∷ c ∷ xs) (suc n) e = ends_at (c ∷ xs) n (omega (arith, e))

pub ends_front : (xs : List ℕ) → ends_with 13 xs ≡ true → (front : List ℕ) × (xs ≡ front ++ (13 ∷ []))
ends_front [] e = absurd (true≢false (sym e))
ends_front (b ∷ []) e = ([], (let z : b ≡ 13 = grind (arith, nat_tests, e) in ap (λ k. k ∷ []) z))
ends_front (b ∷ c ∷ xs) e = let r = ends_front (c ∷ xs) e in (b ∷ r.0, ap (λ t. b ∷ t) r.1)

-- none does behind a line feed
fed_end : (xs : List ℕ) → ends_with 13 (xs ++ (10 ∷ [])) ≡ false
fed_end [] = refl
fed_end (x ∷ []) = refl
fed_end (x ∷ y ∷ xs) = fed_end (y ∷ xs)

-- ---- the second reading

pub says_some : (fed : List ℕ) (e : Stop) → (e ≡ stop.NoMemory → ⊥) → SaysAgain fed (Some e) → StopsAgain fed e
says_some fed (stop.Unread at) n h = h
says_some fed (stop.Tab at) n h = h
says_some fed (stop.Anchor at) n h = h
says_some fed (stop.Tag at) n h = h
says_some fed (stop.Directive at) n h = h
says_some fed (stop.ManyDocuments at) n h = h
says_some fed (stop.DuplicateKey at) n h = h
says_some fed (stop.TooDeep at) n h = h
says_some fed stop.NoMemory n h = absurd (n refl)

-- why it stops
pub says_again : (text longer : List ℕ) (e : Stop) → longer ≡ text ++ (10 ∷ []) → (front : List ℕ) × (text ≡ front ++ (13 ∷ [])) → (ends_with 13 longer ≡ false → IsSyntaxStop longer e) → SignsAgain longer e → SaysAgain (text ++ (10 ∷ [])) (Some e)
says_again text longer e el (front, et) placed signs = subst (λ x. SaysAgain x (Some e)) el (by_stop e placed signs) where
  fed : longer ≡ front ++ (13 ∷ 10 ∷ [])
  fed = el ∙ ap (λ x. x ++ (10 ∷ [])) et ∙ append_assoc front (13 ∷ []) (10 ∷ [])

  ended : ends_with 13 longer ≡ false
  ended = ap (ends_with 13) el ∙ fed_end text

  by_stop : (e : Stop) → (ends_with 13 longer ≡ false → IsSyntaxStop longer e) → SignsAgain longer e → SaysAgain longer (Some e)
  by_stop (stop.Unread at) p s = p ended
  by_stop (stop.Tab at) p s = s front fed
  by_stop (stop.Anchor at) p s = s front fed
  by_stop (stop.Tag at) p s = s front fed
  by_stop (stop.Directive at) p s = s front fed
  by_stop (stop.ManyDocuments at) p s = s front fed
  by_stop (stop.DuplicateKey at) p s = s front fed
  by_stop (stop.TooDeep at) p s = s front fed
  by_stop stop.NoMemory p s = tt

-- or that it is a document
pub says_document : (text longer : List ℕ) (tree : Forest) → longer ≡ text ++ (10 ∷ []) → IsUtf8 longer → Reads longer tree → SaysAgain (text ++ (10 ∷ [])) None
says_document text longer tree el utf8 r = subst IsFront el ([], tree, subst IsUtf8 (sym (append-nil longer)) utf8, subst (λ x. IsYaml x tree) (sym (append-nil longer)) r.0)

pub short_again : (text : List ℕ) (q : ℕ) → q ≡ length text → IsFront (text ++ (10 ∷ [])) → IsSyntax text q
short_again text q e h = inr (e, front_less text (10 ∷ []) h)

-- the place by that of the longer text
pub placed_again : (text : List ℕ) (q len : ℕ) (e : Stop) → len ≡ length text → (front : List ℕ) × (text ≡ front ++ (13 ∷ [])) → ((front : List ℕ) → len ≡ suc (length front) → StopsAgain ((front ++ (13 ∷ [])) ++ (10 ∷ [])) e → IsSyntax (front ++ (13 ∷ [])) q) → StopsAgain (text ++ (10 ∷ [])) e → IsSyntax text q
placed_again text q len e el (front, et) place h =
    let size : length text ≡ suc (length front) = ap (λ (x : List ℕ). length x) et ∙ length-append front (13 ∷ []) ∙ omega arith in
    subst (λ x. IsSyntax x q) (sym et) (place front (el ∙ size) (subst (λ x. StopsAgain (x ++ (10 ∷ [])) e) et h))

-- ---- the answer

pub again_stops : (text : List ℕ) (e : Stop) → IsUnread text → (e ≡ stop.NoMemory) ⊎ ((place : ℕ) × (e ≡ stop.Unread place)) → IsStopped text e
again_stops text e r (inl h) = subst (IsStopped text) (sym h) tt
again_stops text e r (inr (p, h)) = subst (IsStopped text) (sym h) r

-- what a refusal says
pub refuses_of : (text : List ℕ) (e : Stop) → IsStopped text e → IsSyntaxStop text e → Refuses text (of_stop e)
refuses_of text (stop.Unread at) said place = (said, place)
refuses_of text (stop.Tab at) said place = said
refuses_of text (stop.Anchor at) said place = said
refuses_of text (stop.Tag at) said place = said
refuses_of text (stop.Directive at) said place = said
refuses_of text (stop.ManyDocuments at) said place = said
refuses_of text (stop.DuplicateKey at) said place = said
refuses_of text (stop.TooDeep at) said place = said
refuses_of text stop.NoMemory said place = tt
