-- A stage of the work has one end, where what it goes on with has one. By the cases of the stage.
use Rattle.std.proofs.Common.{◌≡◌, ◌⊎◌, ℕ, List, Some, IsNone, inl, inr, sym, ap, ◌∙◌, subst, None}
use Rattle.guard_syntax.specs.Syntax.{File}
use Rattle.rule_meaning.specs.NextPattern.{IsNextPattern}
use Rattle.rule_meaning.specs.PatternMatch.{pattern_in}
use Rattle.guard_ends.specs.End.{AreSameButPlace, ReadAsYaml}
use Rattle.guard_ends.specs.Order.{AreRead, Contents, Ended, Ending, Ends, Loading, Loads, Makes, MakingPatterns, Reading, Work, refused}
use Rattle.guard_ends.specs.declared.ends.Refusal.{Refusal}
use Rattle.guard_ends.specs.declared.ends.Refusal.TheVariants.{At}
use Rattle.guard_ends.specs.declared.ends.RefusalKind.TheVariants.{BadPattern}
use Rattle.guard_ends.specs.declared.ends.Which.{Which}
use Rattle.guard_ends.specs.declared.ends.Which.TheVariants as file
use Rattle.guard_laws.proofs.OnePattern.{next-one, next-apart}

-- the work has one end, but for the place of a text that is read as YAML
abbrev pub HasOne : ReadAsYaml → Work → Type 0
HasOne IsYaml Comes = (e other : Ended) → Comes (Ends e) → Comes (Ends other) → AreSameButPlace IsYaml e other

pub alike-at : (IsYaml : ReadAsYaml) (e other a b : Ended) → e ≡ a → other ≡ b → AreSameButPlace IsYaml a b → AreSameButPlace IsYaml e other
alike-at IsYaml e other a b is is' (inl same) = inl (is ∙ (same ∙ sym is'))
alike-at IsYaml e other a b is is' (inr m) = inr (record {
  which = m.which;
  bytes = m.bytes;
  read = m.read;
  at = m.at;
  place = m.place;
  shown = m.shown;
  shown_too = m.shown_too;
  first = is ∙ m.first;
  second = is' ∙ m.second;
})

-- some of the files that are read so
abbrev pub AreAmong : ReadAsYaml → ReadAsYaml → Type 0
AreAmong IsYaml More = (which : Which) (bytes : List ℕ) → IsYaml which bytes → More which bytes

pub alike-more : (IsYaml More : ReadAsYaml) (e other : Ended) → AreAmong IsYaml More → AreSameButPlace IsYaml e other → AreSameButPlace More e other
alike-more IsYaml More e other more (inl same) = inl same
alike-more IsYaml More e other more (inr m) = inr (record {
  which = m.which;
  bytes = m.bytes;
  read = more m.which m.bytes m.read;
  at = m.at;
  place = m.place;
  shown = m.shown;
  shown_too = m.shown_too;
  first = m.first;
  second = m.second;
})

-- where nothing is read as YAML they are equal
abbrev pub NoYaml : ReadAsYaml
NoYaml which bytes = ⊥

pub alike-same : (e other : Ended) → AreSameButPlace NoYaml e other → e ≡ other
alike-same e other (inl same) = same
alike-same e other (inr m) = absurd m.read

pub ends-one : (e other : Ended) → Ends e ≡ Ends other → e ≡ other
ends-one e other same = cc

pub never-load : (e : Ended) (which : Which) (name : List ℕ) → Ends e ≡ Loads which name → ⊥
never-load e which name same = cc

pub never-make : (e : Ended) (text : List ℕ) → Ends e ≡ Makes text → ⊥
never-make e text same = cc

pub ending-is : (Is : Ended → Type 0) (e : Ended) → Ending Is (Ends e) → Is e
ending-is Is e (other, is, same) = subst Is (sym (ends-one e other same)) is

pub ending-one : (IsYaml : ReadAsYaml) (Is : Ended → Type 0) → ((e other : Ended) → Is e → Is other → e ≡ other) → HasOne IsYaml (Ending Is)
ending-one IsYaml Is one e other came came' = inl (one e other (ending-is Is e came) (ending-is Is other came'))

-- a file whose content is told is loaded as that
pub loaded : (which : Which) (told : Contents) (name bytes : List ℕ) (GoesOn : List ℕ → Work) → told name ≡ Some bytes
    → (e : Ended) → Loading which told name GoesOn (Ends e) → GoesOn bytes (Ends e)
loaded which told name bytes GoesOn known e (inl load) = absurd (never-load e which name load)
loaded which told name bytes GoesOn known e (inr (other, content, goes)) = subst (λ (b : List ℕ). GoesOn b (Ends e)) (content bytes known) goes

pub loading-one : (IsYaml : ReadAsYaml) (which : Which) (told : Contents) (name bytes : List ℕ) (GoesOn : List ℕ → Work) → told name ≡ Some bytes
    → HasOne IsYaml (GoesOn bytes) → HasOne IsYaml (Loading which told name GoesOn)
loading-one IsYaml which told name bytes GoesOn known one e other came came' =
    one e other (loaded which told name bytes GoesOn known e came) (loaded which told name bytes GoesOn known other came')

-- bytes are one thing, or are refused in one way, but for a place
pub record OneReading (IsYaml : ReadAsYaml) (X : Type 0) (Refuses : List ℕ → Refusal → Type 0) (Is : List ℕ → X → Type 0) (bytes : List ℕ) : Type 0 where
  pub one : (x y : X) → Is bytes x → Is bytes y → x ≡ y
  pub refusal : (r q : Refusal) → Refuses bytes r → Refuses bytes q → AreSameButPlace IsYaml (refused bytes r) (refused bytes q)
  pub apart : (r : Refusal) (x : X) → Refuses bytes r → Is bytes x → ⊥

-- the same, where more may be read as YAML
pub reading-more : (IsYaml More : ReadAsYaml) (X : Type 0) (Refuses : List ℕ → Refusal → Type 0) (Is : List ℕ → X → Type 0) (bytes : List ℕ) → AreAmong IsYaml More
    → OneReading IsYaml X Refuses Is bytes → OneReading More X Refuses Is bytes
reading-more IsYaml More X Refuses Is bytes more laws = record {
  one = laws.one;
  refusal = λ r q h h'. alike-more IsYaml More (refused bytes r) (refused bytes q) more (laws.refusal r q h h');
  apart = laws.apart;
}

module _
    (IsYaml : ReadAsYaml)
    (X : Type 0)
    (Refuses : List ℕ → Refusal → Type 0)
    (Is : List ℕ → X → Type 0)
    (bytes : List ℕ)
    (GoesOn : X → Work)
    (laws : OneReading IsYaml X Refuses Is bytes)
  where
    pub reading-one : ((x : X) → HasOne IsYaml (GoesOn x)) → HasOne IsYaml (Reading Refuses Is bytes GoesOn)
    reading-one one e other (inl (r, h, is)) (inl (q, h', is')) =
        alike-at IsYaml e other (refused bytes r) (refused bytes q) (ends-one e (refused bytes r) is) (ends-one other (refused bytes q) is') (laws.refusal r q h h')
    reading-one one e other (inl (r, h, is)) (inr (x, whole, goes)) = absurd (laws.apart r x h whole)
    reading-one one e other (inr (x, whole, goes)) (inl (r, h, is)) = absurd (laws.apart r x h whole)
    reading-one one e other (inr (x, whole, goes)) (inr (y, whole', goes')) =
        one x e other goes (subst (λ (z : X). GoesOn z (Ends other)) (laws.one y x whole' whole) goes')

    -- where they are something, the work goes on with that
    pub read-goes : (x : X) → Is bytes x → (e : Ended) → Reading Refuses Is bytes GoesOn (Ends e) → GoesOn x (Ends e)
    read-goes x whole e (inl (r, h, is)) = absurd (laws.apart r x h whole)
    read-goes x whole e (inr (y, whole', goes)) = subst (λ (z : X). GoesOn z (Ends e)) (laws.one y x whole' whole) goes

module _ (IsYaml : ReadAsYaml) (source : List ℕ) (rules : File) (GoesOn : Work) where
  -- the first pattern that cannot be read is refused, or each is read
  abbrev PatternsEnd : Ended → Type 0
  PatternsEnd e =
      ((text : List ℕ) × (at : ℕ) × IsNextPattern rules text at × IsNone (pattern_in text) × (e ≡ refused source (At file.Rules BadPattern at None)))
      ⊎ (AreRead rules × GoesOn (Ends e))

  patterns-end : (e : Ended) → MakingPatterns source rules GoesOn (Ends e) → PatternsEnd e
  patterns-end e (inl (text, at, next, inl make)) = absurd (never-make e text make)
  patterns-end e (inl (text, at, next, inr (bad, is))) = inl (text, at, next, bad, ends-one e (refused source (At file.Rules BadPattern at None)) is)
  patterns-end e (inr (all, goes)) = inr (all, goes)

  end-one : HasOne IsYaml GoesOn → (e other : Ended) → PatternsEnd e → PatternsEnd other → AreSameButPlace IsYaml e other
  end-one one e other (inl (text, at, next, bad, is)) (inl (text', at', next', bad', is')) =
      inl (is ∙ (ap (λ a. refused source (At file.Rules BadPattern a None)) (next-one rules text at text' at' next next' bad bad') ∙ sym is'))
  end-one one e other (inl (text, at, next, bad, is)) (inr (all, goes)) = absurd (next-apart rules text at next bad all)
  end-one one e other (inr (all, goes)) (inl (text, at, next, bad, is)) = absurd (next-apart rules text at next bad all)
  end-one one e other (inr (all, goes)) (inr (all', goes')) = one e other goes goes'

  pub patterns-one : HasOne IsYaml GoesOn → HasOne IsYaml (MakingPatterns source rules GoesOn)
  patterns-one one e other came came' = end-one one e other (patterns-end e came) (patterns-end other came')

  pub patterns-go : AreRead rules → (e : Ended) → MakingPatterns source rules GoesOn (Ends e) → GoesOn (Ends e)
  patterns-go all e (inl (text, at, next, inl make)) = absurd (never-make e text make)
  patterns-go all e (inl (text, at, next, inr (bad, is))) = absurd (next-apart rules text at next bad all)
  patterns-go all e (inr (all', goes)) = goes
