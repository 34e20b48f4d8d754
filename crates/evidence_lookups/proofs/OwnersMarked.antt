-- The table of an owner marks just the bodies that such an owner has.
use Rattle.std.proofs.Common.{◌≡◌, ◌⊎◌, ◌↔◌, ℕ, zero, suc, ◌<◌, Bool, true, false, List, [], ◌∷◌, ◌++◌, Option, Some, None, length, get_or, replicate, nat_lt, refl, ap, sym, ◌∙◌, subst, inl, inr, arith, add-one, ◌+◌, Contains, get_or-set_same, get_or-set_other}
use Rattle.std.specs.Prelude.{option_map, slice_set, if◌then◌else◌}
use Rattle.std.proofs.lemmas.Bool.{cases_eq}
use Rattle.std.proofs.lemmas.Bool.Decides.{nat_tests}
use Rattle.std.proofs.lemmas.List.{length-set, length-replicate}
use Rattle.std.proofs.lemmas.Option.{same_Some, none-some}
use Rattle.evidence_lines.specs.declared.line.Line.{Line}
use Rattle.guard_syntax.specs.Named.{Named}
use Rattle.guard_syntax.specs.Syntax.{Body, File, Part, Rule, block, guarded, kinds}
use Rattle.rule_names.specs.code.Marks.{IsMarked}
use Rattle.rule_names.specs.Pieces.{Piece, OfBody, OfPart, OfRule, piece_at, pieces_body, pieces_conds, pieces_opt_conds, pieces_query, AreInOrder}
use Rattle.rule_names.specs.code.Within.{StandsIn}
use Rattle.rule_meaning.specs.StoreModel.{StoreModel}
use Rattle.evidence_rules.specs.CitedLines.{body_site}
use Rattle.evidence_rules.specs.Follows.{IsBlockBody, IsRuleBody, IsWhenBody}
use Rattle.evidence_lookups.specs.declared.owners.Owner.{Owner}
use Rattle.evidence_lookups.specs.declared.owners.Owner.TheVariants as owner
use Rattle.evidence_lookups.specs.declared.owners.Owners.{Owners}
use Rattle.evidence_lookups.specs.code.Owned.{AreMarked, AreOwners, MarkOwned, IsOwned, marks_upto, owned_by, plain_body, with_mark}
use Rattle.evidence_lookups.proofs.OwnersStand.{Own, behind, last-of, piece-owned, rule-stands}
use Rattle.rule_names.proofs.PiecesFound.{piece-found}
use Rattle.evidence_lookups.proofs.SitesFound.{body-found, rule-found}
use Rattle.evidence_lookups.proofs.SitesWithin.{site-within}

-- ---- one mark

length-if : (v : Bool) (marks : List Bool) (m : ℕ) → length (if v then slice_set marks m true else marks) ≡ length marks
length-if true marks m = length-set marks m true
length-if false marks m = refl

length-mark : (marks : List Bool) (o : Option ℕ) → length (with_mark marks o) ≡ length marks
length-mark marks None = refl
length-mark marks (Some m) = length-if (nat_lt m (length marks)) marks m

-- what has a mark has it by this one, or had it
only-if : (v : Bool) (marks : List Bool) (m s : ℕ) → get_or (if v then slice_set marks m true else marks) s false ≡ true → (m ≡ s) ⊎ (get_or marks s false ≡ true)
only-if true marks m s is = elim (cases_eq s m) [
  | inl same ↦ inl (sym same)
  | inr other ↦ inr (sym (get_or-set_other marks m s true false other) ∙ is)
]
only-if false marks m s is = inr is

mark-only : (marks : List Bool) (m s : ℕ) → get_or (with_mark marks (Some m)) s false ≡ true → (m ≡ s) ⊎ (get_or marks s false ≡ true)
mark-only marks m s is = only-if (nat_lt m (length marks)) marks m s is

set-kept : (marks : List Bool) (m s : ℕ) → m < length marks → get_or marks s false ≡ true → get_or (slice_set marks m true) s false ≡ true
set-kept marks m s within is = elim (cases_eq s m) [
  | inl same ↦ ap (λ (k : ℕ). get_or (slice_set marks m true) k false) same ∙ get_or-set_same marks m true false within
  | inr other ↦ get_or-set_other marks m s true false other ∙ is
]

kept-if : (v : Bool) (marks : List Bool) (m s : ℕ) → nat_lt m (length marks) ≡ v → get_or marks s false ≡ true → get_or (if v then slice_set marks m true else marks) s false ≡ true
kept-if true marks m s less is = set-kept marks m s (grind (arith, nat_tests)) is
kept-if false marks m s less is = is

mark-kept : (marks : List Bool) (o : Option ℕ) (s : ℕ) → get_or marks s false ≡ true → get_or (with_mark marks o) s false ≡ true
mark-kept marks None s is = is
mark-kept marks (Some m) s is = kept-if (nat_lt m (length marks)) marks m s refl is

mark-new : (marks : List Bool) (m : ℕ) → m < length marks → get_or (with_mark marks (Some m)) m false ≡ true
mark-new marks m within =
    let less : nat_lt m (length marks) ≡ true = grind (arith, nat_tests) in
    ap (λ (v : Bool). get_or (if v then slice_set marks m true else marks) m false) less ∙ get_or-set_same marks m true false within

none-marked : (n s : ℕ) → get_or (replicate n false) s false ≡ true → ⊥
none-marked zero s is = absurd cc
none-marked (suc n) zero is = absurd cc
none-marked (suc n) (suc s) is = none-marked n s is

-- ---- the marks of so many sites

-- one of the first sites has such an owner of a body of this site
record IsNoted (f : File) (o : Owner) (k s : ℕ) : Type 0 where
  n : ℕ
  b : Body
  below : n < k
  owned : owned_by o (piece_at f n) ≡ Some b
  sited : body_site b ≡ s

module _ (f : File) (o : Owner) where
  length-marks : (k : ℕ) → length (marks_upto f o k) ≡ length f.places
  length-marks zero = length-replicate (length f.places) false
  length-marks (suc k) = length-mark (marks_upto f o k) (option_map body_site (owned_by o (piece_at f k))) ∙ length-marks k

  noted-more : (k s : ℕ) → IsNoted f o k s → IsNoted f o (suc k) s
  noted-more k s h = let below = h.below in record { n = h.n; b = h.b; below = omega arith; owned = h.owned; sited = h.sited }

  marked-by : (k s : ℕ) (x : Option Body) → owned_by o (piece_at f k) ≡ x → (IsMarked (marks_upto f o k) s → IsNoted f o k s)
      → get_or (with_mark (marks_upto f o k) (option_map body_site x)) s false ≡ true → IsNoted f o (suc k) s
  marked-by k s None is before marked = noted-more k s (before marked)
  marked-by k s (Some b) is before marked = elim (mark-only (marks_upto f o k) (body_site b) s marked) [
    | inl same ↦ record { n = k; b = b; below = omega arith; owned = is; sited = same }
    | inr old ↦ noted-more k s (before old)
  ]

  marked-only : (k s : ℕ) → IsMarked (marks_upto f o k) s → IsNoted f o k s
  marked-only zero s marked = absurd (none-marked (length f.places) s marked)
  marked-only (suc k) s marked = marked-by k s (owned_by o (piece_at f k)) refl (marked-only k s) marked

  marked-here : (k : ℕ) (x : Option Body) (b : Body) → x ≡ Some b → body_site b < length f.places → IsMarked (with_mark (marks_upto f o k) (option_map body_site x)) (body_site b)
  marked-here k x b is within =
      subst (λ (y : Option Body). IsMarked (with_mark (marks_upto f o k) (option_map body_site y)) (body_site b)) (sym is)
      (mark-new (marks_upto f o k) (body_site b) (subst (λ (n : ℕ). body_site b < n) (sym (length-marks k)) within))

  marked-all : (k n : ℕ) (b : Body) → n < k → owned_by o (piece_at f n) ≡ Some b → body_site b < length f.places → IsMarked (marks_upto f o k) (body_site b)
  marked-all zero n b below is within = absurd (omega arith)
  marked-all (suc k) n b below is within = elim (cases_eq n k) [
    | inl same ↦ marked-here k (owned_by o (piece_at f k)) b (subst (λ (m : ℕ). owned_by o (piece_at f m) ≡ Some b) same is) within
    | inr other ↦ mark-kept (marks_upto f o k) (option_map body_site (owned_by o (piece_at f k))) (body_site b) (marked-all k n b (omega arith) is within)
  ]

-- ---- owners and their bodies

plain-is : (params : List Named) (a b : Body) → plain_body params a ≡ Some b → (params ≡ []) × (a ≡ b)
plain-is [] a b is = (refl, same_Some a b is)
plain-is (p ∷ params) a b is = absurd (none-some b is)

module _ (known : StoreModel) (lines : List Line) (order : AreInOrder known.file) where
  rule-owns : (r : Rule) (b : Body) → Contains known.file.rules r → plain_body r.params r.body ≡ Some b → StandsIn known.file (pieces_body b) × IsRuleBody known lines b
  rule-owns r b has is =
      let plain = plain-is r.params r.body b is in (
        subst (λ (x : Body). StandsIn known.file (pieces_body x)) plain.1
            (last-of known.file (pieces_opt_conds r.cond) (pieces_body r.body) (behind known.file (r.site, OfRule r) (pieces_opt_conds r.cond ++ pieces_body r.body) (rule-stands known.file r has))),
        (r, has, plain.0, plain.1),
      )

  -- the body of an owner stands in the file, and is owned
  part-owns : (o : Owner) (part : Part) (b : Body) → Own known.file (OfPart part) → owned_by o (Some (OfPart part)) ≡ Some b → StandsIn known.file (pieces_body b) × IsOwned known lines o b
  part-owns owner.When (guarded m c a) b own is =
      let same = same_Some a b is in
      subst (λ (x : Body). StandsIn known.file (pieces_body x) × IsWhenBody known lines x) same (
        last-of known.file (pieces_conds c) (pieces_body a) (behind known.file (m, OfPart (guarded m c a)) (pieces_conds c ++ pieces_body a) own),
        (m, c, piece-found known.file m (OfPart (guarded m c a)) (pieces_conds c ++ pieces_body a) order own),
      )
  part-owns owner.Block (block m any head a) b own is =
      let same = same_Some a b is in
      subst (λ (x : Body). StandsIn known.file (pieces_body x) × IsBlockBody known lines x) same (
        last-of known.file (pieces_query head) (pieces_body a) (behind known.file (m, OfPart (block m any head a)) (pieces_query head ++ pieces_body a) own),
        inl (m, any, head, piece-found known.file m (OfPart (block m any head a)) (pieces_query head ++ pieces_body a) order own),
      )
  part-owns owner.Block (kinds m name c a) b own is =
      let same = same_Some a b is in
      subst (λ (x : Body). StandsIn known.file (pieces_body x) × IsBlockBody known lines x) same (
        last-of known.file (pieces_opt_conds c) (pieces_body a) (behind known.file (m, OfPart (kinds m name c a)) (pieces_opt_conds c ++ pieces_body a) own),
        inr (m, name, c, piece-found known.file m (OfPart (kinds m name c a)) (pieces_opt_conds c ++ pieces_body a) order own),
      )
  part-owns o part b own is = absurd (none-some b is)

  piece-owns : (o : Owner) (n : ℕ) (piece : Option Piece) (b : Body) → piece_at known.file n ≡ piece → owned_by o piece ≡ Some b → StandsIn known.file (pieces_body b) × IsOwned known lines o b
  piece-owns owner.Rule n (Some (OfRule r)) b there is = rule-owns r b (piece-owned known.file n (OfRule r) there) is
  piece-owns o n (Some (OfPart part)) b there is = part-owns o part b (piece-owned known.file n (OfPart part) there) is
  piece-owns o n piece b there is = absurd (none-some b is)

  -- and what is owned has an owner at a site
  owner-there : (o : Owner) (b : Body) → IsOwned known lines o b → (n : ℕ) × (n < length known.file.places) × (owned_by o (piece_at known.file n) ≡ Some b)
  owner-there owner.Rule b (r, has, plain, is) =
      let there = rule-found known.file r order has in (
        r.site,
        site-within known.file r.site (OfRule r) order there,
        ap (owned_by owner.Rule) there ∙ ap (λ (ps : List Named). plain_body ps r.body) plain ∙ ap Some is,
      )
  owner-there owner.When b (n, c, there) = (n, site-within known.file n (OfPart (guarded n c b)) order there, ap (owned_by owner.When) there)
  owner-there owner.Block b (inl (n, any, head, there)) = (n, site-within known.file n (OfPart (block n any head b)) order there, ap (owned_by owner.Block) there)
  owner-there owner.Block b (inr (n, name, c, there)) = (n, site-within known.file n (OfPart (kinds n name c b)) order there, ap (owned_by owner.Block) there)

  same-body : (x : Option Piece) (a b : Body) → x ≡ Some (OfBody a) → x ≡ Some (OfBody b) → a ≡ b
  same-body x a b is also = cc

  marks-only : (o : Owner) (b : Body) → piece_at known.file (body_site b) ≡ Some (OfBody b) → IsMarked (marks_upto known.file o (length known.file.places)) (body_site b) → IsOwned known lines o b
  marks-only o b found marked =
      let noted = marked-only known.file o (length known.file.places) (body_site b) marked in
      let owns = piece-owns o noted.n (piece_at known.file noted.n) noted.b refl noted.owned in
      let also : piece_at known.file (body_site b) ≡ Some (OfBody noted.b) =
      subst (λ (s : ℕ). piece_at known.file s ≡ Some (OfBody noted.b)) noted.sited (body-found known.file noted.b order owns.0) in
      subst (IsOwned known lines o) (same-body (piece_at known.file (body_site b)) noted.b b also found) owns.1

  marks-all : (o : Owner) (b : Body) → piece_at known.file (body_site b) ≡ Some (OfBody b) → IsOwned known lines o b → IsMarked (marks_upto known.file o (length known.file.places)) (body_site b)
  marks-all o b found owned =
      let at = owner-there o b owned in
      marked-all known.file o (length known.file.places) at.0 b at.1 at.2 (site-within known.file (body_site b) (OfBody b) order found)

  marks-just : (o : Owner) (site : ℕ) (b : Body) → piece_at known.file site ≡ Some (OfBody b)
      → IsMarked (marks_upto known.file o (length known.file.places)) (body_site b) ↔ IsOwned known lines o b
  marks-just o site b there =
      let found = body-found known.file b order (piece-owned known.file site (OfBody b) there) in
      (marks-only o b found, marks-all o b found)

pub are-marked : (f : File) (o : Owner) → AreInOrder f → AreMarked f o (marks_upto f o (length f.places))
are-marked f o order known lines site b same there =
    subst (λ (g : File). AreInOrder g → piece_at g site ≡ Some (OfBody b) → IsMarked (marks_upto g o (length g.places)) (body_site b) ↔ IsOwned known lines o b) same
    (λ order there. marks-just known lines order o site b there) order there

-- the tables of a file, by those of each owner
pub tables : (f : File) (owners : Owners) → owners.rules.items ≡ marks_upto f owner.Rule (length f.places) → owners.whens.items ≡ marks_upto f owner.When (length f.places)
    → owners.blocks.items ≡ marks_upto f owner.Block (length f.places) → AreOwners f owners
tables f owners rules whens blocks owner.Rule = rules
tables f owners rules whens blocks owner.When = whens
tables f owners rules whens blocks owner.Block = blocks

-- they mark just the bodies that the owners have
pub all-marked : (f : File) (owners : Owners) → AreInOrder f → AreOwners f owners → MarkOwned f owners
all-marked f owners order tables o = subst (AreMarked f o) (sym (tables o)) (are-marked f o order)

-- the marks of one site more
pub marks-next : (f : File) (o : Owner) (k : ℕ) (marks new : List Bool) (x : Option ℕ) → new ≡ with_mark marks x → x ≡ option_map body_site (owned_by o (piece_at f k)) → marks ≡ marks_upto f o k
    → new ≡ marks_upto f o (k + 1)
marks-next f o k marks new x is sited before =
    is ∙ ap (with_mark marks) sited ∙ ap (λ (xs : List Bool). with_mark xs (option_map body_site (owned_by o (piece_at f k)))) before ∙ ap (marks_upto f o) (sym (add-one k))
