-- Rules have one reading or one refusal. By the cases of the refusals.
use Rattle.std.proofs.Common.{◌≡◌, ◌⊎◌, ◌≤◌, ℕ, List, length, Option, None, arith, inl, inr, refl, sym, ap, ◌∙◌, subst}
use Rattle.doc_values.specs.Limits.{rules_limit}
use Rattle.guard_syntax.specs.Syntax.{File}
use Rattle.rule_names.specs.Faults.{Fault}
use Rattle.rule_names.specs.WellNamed.{WellNamed, IsNameFault}
use Rattle.guard_laws.proofs.OneFault.{one-fault, fault-apart}
use Rattle.guard_ends.specs.Inputs.{HasSyntax, IsText, IsTooLong, IsNoText, IsSyntax, IsRuleFile, RefusesText, RefusesNames, RefusesRules, RefusesUnnamed, name_kind, name_said}
use Rattle.guard_ends.specs.Order.{refused}
use Rattle.guard_ends.proofs.RefusedRules.{unnamed-rules}
use Rattle.guard_ends.specs.declared.ends.Refusal.{Refusal}
use Rattle.guard_ends.specs.declared.ends.Refusal.TheVariants.{TooLong, NotText, EvidenceSyntax, TextTooLong, At}
use Rattle.guard_ends.specs.declared.ends.RefusalKind.{RefusalKind}
use Rattle.guard_ends.specs.declared.ends.Which.TheVariants as file
use Rattle.guard_laws.proofs.OneStage.{NoYaml, OneReading}
use Rattle.guard_laws.proofs.OneSyntax.{OneSyntax, AreAlike, syntax-one, text-alike, text-apart}

-- the refusals of a text without syntax, with their conditions
abbrev pub IsPlaced : List ℕ → Refusal → Type 0
IsPlaced bytes r = (kind : RefusalKind) × (at : ℕ) × (r ≡ At file.Rules kind at None) × IsText rules_limit bytes × RefusesText bytes kind at

-- why a syntax is refused: its names have a fault
abbrev pub IsFaulty : File → Refusal → Type 0
IsFaulty f r =
    (fault : Fault) × (r ≡ At file.Rules (name_kind fault.kind) fault.named.at (name_said fault.kind fault.named.text)) × IsNameFault f fault

abbrev pub IsBeyond : List ℕ → Refusal → Type 0
IsBeyond bytes r = IsText rules_limit bytes × ((f : File) × IsSyntax bytes f × IsFaulty f r)

abbrev pub RulesWhy : List ℕ → Refusal → Type 0
RulesWhy bytes r =
    ((r ≡ TooLong file.Rules) × IsTooLong rules_limit bytes) ⊎ ((r ≡ NotText file.Rules) × IsNoText rules_limit bytes)
    ⊎ IsPlaced bytes r ⊎ IsBeyond bytes r

names-why : (bytes : List ℕ) (kind : RefusalKind) (at : ℕ) (name : Option (List ℕ)) → RefusesNames bytes kind at name
    → (f : File) × IsSyntax bytes f × IsFaulty f (At file.Rules kind at name)
names-why bytes kind at name (f, spelled, (fault, first, is, place, said)) = (
  f,
  spelled,
  (
    fault,
    ap (λ k. At file.Rules k at name) is ∙ (ap (λ a. At file.Rules (name_kind fault.kind) a name) place ∙ ap (λ n. At file.Rules (name_kind fault.kind) fault.named.at n) said),
    first,
  ),
)

rules-why : (bytes : List ℕ) (r : Refusal) → RefusesRules bytes r → RulesWhy bytes r
rules-why bytes (TooLong file.Rules) h = inl (refl, h)
rules-why bytes (TooLong file.Template) h = absurd h
rules-why bytes (TooLong file.Params) h = absurd h
rules-why bytes (TooLong file.Proof) h = absurd h
rules-why bytes (TooLong file.Tests) h = absurd h
rules-why bytes (NotText file.Rules) h = inr (inl (refl, h))
rules-why bytes (NotText file.Template) h = absurd h
rules-why bytes (NotText file.Params) h = absurd h
rules-why bytes (NotText file.Proof) h = absurd h
rules-why bytes (NotText file.Tests) h = absurd h
rules-why bytes (EvidenceSyntax number) h = absurd h
rules-why bytes TextTooLong h = absurd h
rules-why bytes (At file.Rules kind at name) (text, inl (none, h)) = inr (inr (inl (kind, at, ap (λ n. At file.Rules kind at n) none, text, h)))
rules-why bytes (At file.Rules kind at name) (text, inr h) = inr (inr (inr (text, names-why bytes kind at name h)))
rules-why bytes (At file.Template kind at name) h = absurd h
rules-why bytes (At file.Params kind at name) h = absurd h
rules-why bytes (At file.Proof kind at name) h = absurd h
rules-why bytes (At file.Tests kind at name) h = absurd h

placed-alike : (kind : RefusalKind) (at : ℕ) (other : RefusalKind) (place : ℕ) (r q : Refusal) → r ≡ At file.Rules kind at None → q ≡ At file.Rules other place None
    → AreAlike kind at other place → r ≡ q
placed-alike kind at other place r q is is' (k, a) = is ∙ (ap (λ x. At file.Rules x at None) k ∙ (ap (λ x. At file.Rules other x None) a ∙ sym is'))

-- a syntax has one refusal, and none if it is a rule file
faulty-one : (f : File) (r q : Refusal) → IsFaulty f r → IsFaulty f q → r ≡ q
faulty-one f r q (fault, is, first) (fault', is', first') =
    is ∙ (ap (λ (o : Fault). At file.Rules (name_kind o.kind) o.named.at (name_said o.kind o.named.text)) (one-fault f fault fault' first first') ∙ sym is')

faulty-apart : (f : File) (r : Refusal) → IsFaulty f r → WellNamed f → ⊥
faulty-apart f r (fault, is, first) named = fault-apart f fault first named

-- the conditions exclude each other
long-apart : (bytes : List ℕ) → IsTooLong rules_limit bytes → length bytes ≤ rules_limit → ⊥
long-apart bytes long within = omega arith

why-alike : OneSyntax → (bytes : List ℕ) (r q : Refusal) → RulesWhy bytes r → RulesWhy bytes q → r ≡ q
why-alike law bytes r q (inl (is, long)) (inl (is', long')) = is ∙ sym is'
why-alike law bytes r q (inl (is, long)) (inr (inl (is', bad))) = absurd (long-apart bytes long bad.0)
why-alike law bytes r q (inl (is, long)) (inr (inr (inl (kind, at, is', text, h)))) = absurd (long-apart bytes long text.within)
why-alike law bytes r q (inl (is, long)) (inr (inr (inr (text, f)))) = absurd (long-apart bytes long text.within)
why-alike law bytes r q (inr (inl (is, bad))) (inl (is', long)) = absurd (long-apart bytes long bad.0)
why-alike law bytes r q (inr (inl (is, bad))) (inr (inl (is', bad'))) = is ∙ sym is'
why-alike law bytes r q (inr (inl (is, bad))) (inr (inr (inl (kind, at, is', text, h)))) = absurd (bad.1 text.utf8)
why-alike law bytes r q (inr (inl (is, bad))) (inr (inr (inr (text, f)))) = absurd (bad.1 text.utf8)
why-alike law bytes r q (inr (inr (inl (kind, at, is, text, h)))) (inl (is', long)) = absurd (long-apart bytes long text.within)
why-alike law bytes r q (inr (inr (inl (kind, at, is, text, h)))) (inr (inl (is', bad))) = absurd (bad.1 text.utf8)
why-alike law bytes r q (inr (inr (inl (kind, at, is, text, h)))) (inr (inr (inl (other, place, is', text', h')))) =
    placed-alike kind at other place r q is is' (text-alike law bytes kind at other place h h')
why-alike law bytes r q (inr (inr (inl (kind, at, is, text, h)))) (inr (inr (inr (text', (f, spelled, why))))) =
    absurd (text-apart law bytes kind at f h spelled)
why-alike law bytes r q (inr (inr (inr (text, f)))) (inl (is', long)) = absurd (long-apart bytes long text.within)
why-alike law bytes r q (inr (inr (inr (text, f)))) (inr (inl (is', bad))) = absurd (bad.1 text.utf8)
why-alike law bytes r q (inr (inr (inr (text, (f, spelled, why))))) (inr (inr (inl (kind, at, is', text', h)))) =
    absurd (text-apart law bytes kind at f h spelled)
why-alike law bytes r q (inr (inr (inr (text, (f, spelled, why))))) (inr (inr (inr (text', (g, spelled', why'))))) =
    faulty-one f r q why (subst (λ (h : File). IsFaulty h q) (syntax-one law bytes g f spelled' spelled) why')

pub refusals-alike : OneSyntax → (bytes : List ℕ) (r q : Refusal) → RefusesRules bytes r → RefusesRules bytes q → r ≡ q
refusals-alike law bytes r q h h' = why-alike law bytes r q (rules-why bytes r h) (rules-why bytes q h')

-- what is refused is no rule file
why-apart : OneSyntax → (bytes : List ℕ) (r : Refusal) (rules : File) → RulesWhy bytes r → IsRuleFile bytes rules → ⊥
why-apart law bytes r rules (inl (is, long)) whole = long-apart bytes long whole.text.within
why-apart law bytes r rules (inr (inl (is, bad))) whole = bad.1 whole.text.utf8
why-apart law bytes r rules (inr (inr (inl (kind, at, is, text, h)))) whole = text-apart law bytes kind at rules h whole.read
why-apart law bytes r rules (inr (inr (inr (text, (f, spelled, why))))) whole =
    faulty-apart rules r (subst (λ (g : File). IsFaulty g r) (syntax-one law bytes f rules spelled whole.read) why) whole.named

pub refusal-apart : OneSyntax → (bytes : List ℕ) (r : Refusal) (rules : File) → RefusesRules bytes r → IsRuleFile bytes rules → ⊥
refusal-apart law bytes r rules h whole = why-apart law bytes r rules (rules-why bytes r h) whole

pub rules-one : OneSyntax → (bytes : List ℕ) (rules others : File) → IsRuleFile bytes rules → IsRuleFile bytes others → rules ≡ others
rules-one law bytes rules others whole whole' = syntax-one law bytes rules others whole.read whole'.read

-- ---- whatever their names

-- why a text has no syntax
abbrev UnnamedWhy : List ℕ → Refusal → Type 0
UnnamedWhy bytes r = IsTooLong rules_limit bytes ⊎ IsNoText rules_limit bytes ⊎ IsPlaced bytes r

unnamed-why : (bytes : List ℕ) (r : Refusal) → RefusesUnnamed bytes r → UnnamedWhy bytes r
unnamed-why bytes (TooLong file.Rules) h = inl h
unnamed-why bytes (TooLong file.Template) h = absurd h
unnamed-why bytes (TooLong file.Params) h = absurd h
unnamed-why bytes (TooLong file.Proof) h = absurd h
unnamed-why bytes (TooLong file.Tests) h = absurd h
unnamed-why bytes (NotText file.Rules) h = inr (inl h)
unnamed-why bytes (NotText file.Template) h = absurd h
unnamed-why bytes (NotText file.Params) h = absurd h
unnamed-why bytes (NotText file.Proof) h = absurd h
unnamed-why bytes (NotText file.Tests) h = absurd h
unnamed-why bytes (EvidenceSyntax number) h = absurd h
unnamed-why bytes TextTooLong h = absurd h
unnamed-why bytes (At file.Rules kind at name) (text, none, h) = inr (inr (kind, at, ap (λ n. At file.Rules kind at n) none, text, h))
unnamed-why bytes (At file.Template kind at name) h = absurd h
unnamed-why bytes (At file.Params kind at name) h = absurd h
unnamed-why bytes (At file.Proof kind at name) h = absurd h
unnamed-why bytes (At file.Tests kind at name) h = absurd h

unnamed-apart : OneSyntax → (bytes : List ℕ) (r : Refusal) (f : File) → UnnamedWhy bytes r → HasSyntax bytes f → ⊥
unnamed-apart law bytes r f (inl long) whole = long-apart bytes long whole.text.within
unnamed-apart law bytes r f (inr (inl bad)) whole = bad.1 whole.text.utf8
unnamed-apart law bytes r f (inr (inr (kind, at, is, text, h))) whole = text-apart law bytes kind at f h whole.read

-- a text has one syntax or one refusal
pub syntax-reading : OneSyntax → (bytes : List ℕ) → OneReading NoYaml File RefusesUnnamed HasSyntax bytes
syntax-reading law bytes = record {
  one = λ f g whole whole'. syntax-one law bytes f g whole.read whole'.read;
  refusal = λ r q h h'. inl (ap (refused bytes) (refusals-alike law bytes r q (unnamed-rules bytes r h) (unnamed-rules bytes q h')));
  apart = λ r f h whole. unnamed-apart law bytes r f (unnamed-why bytes r h) whole;
}
