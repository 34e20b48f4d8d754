-- Where a text shows that it is no document: each place behind such a one shows it too, and so does a place where no text that is the same so far is a document. By the parts of texts.
use Rattle.std.proofs.Common.{◌≡◌, ℕ, zero, suc, ◌<◌, ◌≤◌, ◌⊎◌, inl, inr, false, ◌&&◌, nat_eq, List, [], ◌∷◌, ◌++◌, length, refl, sym, ap, ◌∙◌, subst, arith, append_assoc}
use Rattle.std.specs.Prelude.{IsUtf8}
use Rattle.doc_values.specs.Tree.{Forest}
use Rattle.yaml_scalars.specs.Lines.{begins_with}
use Rattle.yaml_scalars.specs.Scalar.{begins_order_mark}
use Rattle.yaml_laws.specs.code.Agreement.{AgreesTo}
use Rattle.yaml_laws.proofs.AgreeLess.{agrees_less, agrees_here}
use Rattle.yaml_grammar.specs.Yaml.{IsYaml}
use Rattle.yaml_grammar.specs.Places.{IsFront, IsDead}
use Rattle.yaml_grammar.specs.code.Twins.{IsTwin, IsPast}

-- ---- the parts of texts

head_same : (b c : ℕ) (xs ys : List ℕ) → b ∷ xs ≡ c ∷ ys → b ≡ c
head_same b c xs ys e = cc

tail_same : (b c : ℕ) (xs ys : List ℕ) → b ∷ xs ≡ c ∷ ys → xs ≡ ys
tail_same b c xs ys e = cc

-- a text at a place of it
pub parted : (text : List ℕ) (n : ℕ) → n < length text → (before behind : List ℕ) × (b : ℕ) × (text ≡ before ++ (b ∷ behind)) × (length before ≡ n)
parted [] n l = absurd (omega (arith, l))
parted (x ∷ xs) zero l = ([], xs, x, refl, refl)
parted (x ∷ xs) (suc n) l = let r = parted xs n (omega (arith, l)) in (x ∷ r.0, r.1, r.2, ap (λ t. x ∷ t) r.3, ap suc r.4)

-- of two fronts of a text the longer one goes on behind the other
pub front_more : (before a behind z : List ℕ) (b c : ℕ) → before ++ (b ∷ behind) ≡ a ++ (c ∷ z) → length before ≤ length a → (w : List ℕ) × (a ++ (c ∷ []) ≡ (before ++ (b ∷ [])) ++ w)
front_more [] [] behind z b c e l = ([], ap (λ x. x ∷ []) (sym (head_same b c behind z e)))
front_more [] (y ∷ ys) behind z b c e l = (ys ++ (c ∷ []), ap (λ x. x ∷ (ys ++ (c ∷ []))) (sym (head_same b y behind (ys ++ (c ∷ z)) e)))
front_more (x ∷ xs) [] behind z b c e l = absurd (omega (arith, l))
front_more (x ∷ xs) (y ∷ ys) behind z b c e l =
    let r = front_more xs ys behind z b c (tail_same x y (xs ++ (b ∷ behind)) (ys ++ (c ∷ z)) e) (omega (arith, l)) in
    (r.0, ap (λ t. y ∷ t) r.1 ∙ ap (λ q. q ∷ ((xs ++ (b ∷ [])) ++ r.0)) (sym (head_same x y (xs ++ (b ∷ behind)) (ys ++ (c ∷ z)) e)))

-- what begins with a longer front begins with a shorter one
pub front_less : (front w : List ℕ) → IsFront (front ++ w) → IsFront front
front_less front w (more, tree, utf8, h) = (w ++ more, tree, subst IsUtf8 (append_assoc front w more) utf8, subst (λ t. IsYaml t tree) (append_assoc front w more) h)

-- ---- dead places

pub later_dead : (text : List ℕ) (p q : ℕ) → p ≤ q → q < length text → IsDead text p → IsDead text q
later_dead text p q o l (before, behind, b, e, size, none) =
    let (a, z, c, f, long) = parted text q l in
    let (w, longer) = front_more before a behind z b c (sym e ∙ f) (omega (arith, o, size, long)) in
    (a, z, c, f, long, (λ h. none (front_less (before ++ (b ∷ [])) w (subst IsFront longer h))))

-- a text of which a document begins with all of it has none
pub short_alive : (text : List ℕ) (p : ℕ) → IsFront text → IsDead text p → ⊥
short_alive text p h (before, behind, b, e, size, none) = none (front_less (before ++ (b ∷ [])) behind (subst IsFront (e ∙ sym (append_assoc before (b ∷ []) behind)) h))

-- ---- dead places by texts that are the same so far

-- a byte order mark stands in front of both texts or of none, where one has all of its place in common, or no such byte
abbrev pub IsPastMark : List ℕ → ℕ → Type 0
IsPastMark text place = (2 ≤ place) ⊎ (begins_with 239 text ≡ false)

pub unmarked : (xs : List ℕ) → begins_with 239 xs ≡ false → begins_order_mark xs ≡ false
unmarked [] h = refl
unmarked (a ∷ []) h = refl
unmarked (a ∷ b ∷ []) h = refl
unmarked (a ∷ b ∷ c ∷ xs) h = ap (λ q. q && (nat_eq b 187 && nat_eq c 191)) h

marks_same : (before u v : List ℕ) (b : ℕ) → (2 ≤ length before) ⊎ (begins_with 239 (before ++ (b ∷ u)) ≡ false) → begins_order_mark (before ++ (b ∷ v)) ≡ begins_order_mark (before ++ (b ∷ u))
marks_same [] u v b (inl l) = absurd (omega (arith, l))
marks_same [] u v b (inr h) = unmarked (b ∷ v) h ∙ sym (unmarked (b ∷ u) h)
marks_same (x ∷ []) u v b (inl l) = absurd (omega (arith, l))
marks_same (x ∷ []) u v b (inr h) = unmarked (x ∷ b ∷ v) h ∙ sym (unmarked (x ∷ b ∷ u) h)
marks_same (x ∷ y ∷ []) u v b h = refl
marks_same (x ∷ y ∷ z ∷ before) u v b h = refl

pub marks_of : (text : List ℕ) (place : ℕ) (other : List ℕ) → IsPastMark text place → AgreesTo place text other → begins_order_mark other ≡ begins_order_mark text
marks_of text place other past (before, behind, more, b, e, f, size) = ap begins_order_mark f ∙ marks_same before behind more b (by_past past) ∙ sym (ap begins_order_mark e) where
  by_past : IsPastMark text place → (2 ≤ length before) ⊎ (begins_with 239 (before ++ (b ∷ behind)) ≡ false)
  by_past (inl l) = inl (omega (arith, l, size))
  by_past (inr h) = inr (sym (ap (begins_with 239) e) ∙ h)

-- where a text agrees through a place that lies past another one, it is a twin there
pub twin_of : (text : List ℕ) (p q : ℕ) (other : List ℕ) → IsUtf8 other → begins_order_mark other ≡ begins_order_mark text → IsPast text p q → AgreesTo q text other → IsTwin text p other
twin_of text p q other utf8 marks (inl l) agrees = let z = agrees_less p q text other l agrees in record { utf8 = utf8; marks = marks; agrees = z.0; breaks = z.1 }
twin_of text p q other utf8 marks (inr (e, feed)) agrees =
    subst (λ n. IsTwin text n other) (sym e) (record { utf8 = utf8; marks = marks; agrees = agrees; breaks = agrees_here q text other agrees feed })

-- no twin at a place is a document
abbrev pub NoTwin : List ℕ → ℕ → Type 0
NoTwin text place = (other : List ℕ) → IsTwin text place other → (tree : Forest) → IsYaml other tree → ⊥

dead_if : (text : List ℕ) (place : ℕ) → place < length text → ((other : List ℕ) → IsUtf8 other → AgreesTo place text other → (tree : Forest) → IsYaml other tree → ⊥) → IsDead text place
dead_if text place l none =
    let (before, behind, b, e, size) = parted text place l in
    (before, behind, b, e, size, (λ h. by_front before behind b e size h)) where
      by_front : (before behind : List ℕ) (b : ℕ) → text ≡ before ++ (b ∷ behind) → length before ≡ place → IsFront (before ++ (b ∷ [])) → ⊥
      by_front before behind b e size (more, tree, utf8, h) =
          none ((before ++ (b ∷ [])) ++ more) utf8 (before, behind, more, b, e, append_assoc before (b ∷ []) more, size) tree h

-- it is dead past such a place
pub dead_past : (text : List ℕ) (p q : ℕ) → q < length text → IsPastMark text q → IsPast text p q → NoTwin text p → IsDead text q
dead_past text p q l mark past none = dead_if text q l (λ other utf8 agrees tree h. none other (twin_of text p q other utf8 (marks_of text q other mark agrees) past agrees) tree h)
