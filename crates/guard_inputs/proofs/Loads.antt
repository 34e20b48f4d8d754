-- What was loaded, against what is told of the file, and as what it is refused.
use Rattle.std.proofs.Common.{◌≡◌, ℕ, ◌+◌, ◌++◌, ◌<◌, ◌≤◌, List, [], length, take, Option, Some, None, arith, inl, inr, refl, sym, subst, ◌∙◌}
use Rattle.std.proofs.lemmas.List.{length-take, take_all}
use Rattle.std.specs.Option.{ForSome}
use Rattle.doc_values.specs.Limits.{template_limit}
use Rattle.guard_syntax.specs.Syntax.{File}
use Rattle.guard_ends.specs.Inputs.{IsNoText, IsTooLong, RefusesData, RefusesProof, RefusesRules, RefusesUnnamed}
use Rattle.guard_ends.specs.Order.{Contents, IsContent, Loading, LoadingTexts, Point, Refusing, Work}
use Rattle.guard_ends.specs.declared.ends.Refusal.{Refusal}
use Rattle.guard_ends.specs.declared.ends.Which.{Which}
use Rattle.guard_ends.specs.declared.ends.Which.TheVariants as file
use Rattle.guard_ends.specs.declared.format.Format.{Format}
use Rattle.guard_inputs.specs.code.Loading.{RefusesLength, RefusesText, limit_of}

-- no more than the limit came, though one byte more was asked for: that is all of it
pub loaded-whole : (told : Option (List ℕ)) (held bytes : List ℕ) (limit : ℕ) → held ≡ []
    → ForSome told (λ content. bytes ≡ held ++ take (limit + 1) content) → length bytes ≤ limit → IsContent told bytes
loaded-whole told held bytes limit none ok within content is =
    let e : bytes ≡ take (limit + 1) content = rw none at (ok content is) in
    let h : length (take (limit + 1) content) ≤ limit = rw (← e) within in
    e ∙ take_all (limit + 1) content (omega (arith, length-take (limit + 1) content, h))

-- more than the limit came: the file has more
pub loaded-long : (told : Option (List ℕ)) (held bytes : List ℕ) (limit : ℕ) → held ≡ []
    → ForSome told (λ content. bytes ≡ held ++ take (limit + 1) content) → limit < length bytes
    → (content : List ℕ) × IsContent told content × (limit < length content)
loaded-long None held bytes limit none ok long = (bytes, (λ content is. absurd cc), long)
loaded-long (Some content) held bytes limit none ok long =
    let e : bytes ≡ take (limit + 1) content = rw none at (ok content refl) in
    let h : limit < length (take (limit + 1) content) = rw (← e) long in
    (content, (λ other is. cc), omega (arith, length-take (limit + 1) content, h))

-- what is refused as no text, or for its length, is refused as rules, as a template or parameters, or as evidence
pub text-rules : (bytes : List ℕ) (refusal : Refusal) → RefusesText file.Rules bytes refusal → RefusesRules bytes refusal
text-rules bytes refusal (inl (is, long)) = subst (RefusesRules bytes) (sym is) long
text-rules bytes refusal (inr (is, bad)) = subst (RefusesRules bytes) (sym is) bad

pub text-unnamed : (bytes : List ℕ) (refusal : Refusal) → RefusesText file.Rules bytes refusal → RefusesUnnamed bytes refusal
text-unnamed bytes refusal (inl (is, long)) = subst (RefusesUnnamed bytes) (sym is) long
text-unnamed bytes refusal (inr (is, bad)) = subst (RefusesUnnamed bytes) (sym is) bad

pub text-data : (which : Which) (f : Format) → limit_of which ≡ template_limit → (bytes : List ℕ) (refusal : Refusal) → RefusesText which bytes refusal → RefusesData which f bytes refusal
text-data which f limit bytes refusal (inl (is, long)) = inl (is, subst (λ (n : ℕ). IsTooLong n bytes) limit long)
text-data which f limit bytes refusal (inr (is, bad)) = inr (inl (is, subst (λ (n : ℕ). IsNoText n bytes) limit bad))

pub long-proof : (bytes : List ℕ) (refusal : Refusal) → RefusesLength file.Proof bytes refusal → RefusesProof bytes refusal
long-proof bytes refusal (is, long) = subst (RefusesProof bytes) (sym is) long

-- a file is loaded, and refused for more reasons; and what is told of it may be told otherwise
pub refused-more : (which : Which) (told : Contents) (name : List ℕ) (Refuses More : List ℕ → Refusal → Type 0)
    → ((bytes : List ℕ) (refusal : Refusal) → Refuses bytes refusal → More bytes refusal)
    → (p : Point) → Loading which told name (Refusing Refuses) p → Loading which told name (Refusing More) p
refused-more which told name Refuses More more p (inl load) = inl load
refused-more which told name Refuses More more p (inr (bytes, content, refused)) =
    inr (bytes, content, (refused.0, more bytes refused.0 refused.1, refused.2))

pub loading-same : (which : Which) (told other : Contents) (name : List ℕ) (GoesOn : List ℕ → Work) → told name ≡ other name
    → (p : Point) → Loading which told name GoesOn p → Loading which other name GoesOn p
loading-same which told other name GoesOn same p (inl load) = inl load
loading-same which told other name GoesOn same p (inr (bytes, content, goes)) = inr (bytes, subst (λ t. IsContent t bytes) same content, goes)

-- rules are loaded and read, and the work goes on with what is beside them
pub rules-before : (beside : Which) (told : Contents) (rules name : List ℕ) (GoesOn : List ℕ → File → List ℕ → Work)
    → (p : Point) → Loading file.Rules told rules (Refusing RefusesRules) p → LoadingTexts beside told rules name GoesOn p
rules-before beside told rules name GoesOn p (inl load) = inl load
rules-before beside told rules name GoesOn p (inr (source, content, refused)) = inr (source, content, inl refused)
