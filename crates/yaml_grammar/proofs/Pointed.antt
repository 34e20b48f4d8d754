-- What it says that a scalar goes on over a colon that ends the text: its parts. By the cases of its tests.
use Rattle.std.proofs.Common.{◌≡◌, ℕ, suc, ◌+◌, Bool, true, false, ◌||◌, ◌&&◌, not, nat_eq, arith, List, [], ◌∷◌, drop, length, refl, sym, ap, ◌∙◌, true≢false}
use Rattle.std.proofs.lemmas.Bool.Decides.{nat_tests}
use Rattle.yaml_scalars.specs.Lines.{begins_with, ends_with}
use Rattle.yaml_scalars.specs.Scalar.{begins_block, begins_quoted}
use Rattle.yaml_grammar.specs.declared.ahead.Ahead.{Ahead}
use Rattle.yaml_grammar.specs.declared.ahead.Token.{Token}
use Rattle.yaml_grammar.specs.declared.ahead.Token.TheVariants.{End, Dashes, Dots, Dash, Tag, NoTag, Opens, Closes, Comma, Point, Anchor, Percent, Tabbed, Stray, Other}
use Rattle.yaml_grammar.specs.declared.form.Form.{Form}
use Rattle.yaml_grammar.specs.declared.form.Form.TheVariants.{Root, Flow, FlowTagged, Items, Entries, Tagged}
use Rattle.yaml_grammar.specs.Ahead.{ahead}
use Rattle.yaml_grammar.specs.Nodes.{is_marked, setting_of}
use Rattle.yaml_grammar.specs.code.AheadSeen.{is_told}
use Rattle.yaml_grammar.specs.code.Steps.{IsBlock}
use Rattle.yaml_grammar.specs.code.Points.{gap, is_plain, is_point, is_last_point, is_pointed}

pub both : (p q : Bool) → (p && q) ≡ true → (p ≡ true) × (q ≡ true)
both true q h = (refl, h)
both false q h = absurd (true≢false (sym h))

-- ---- the token

pub point_of : (t : Token) → is_point t ≡ true → (loose : Bool) × (t ≡ Point loose)
point_of (Point loose) h = (loose, refl)
point_of End h = absurd (true≢false (sym h))
point_of Dashes h = absurd (true≢false (sym h))
point_of Dots h = absurd (true≢false (sym h))
point_of Dash h = absurd (true≢false (sym h))
point_of (Tag n) h = absurd (true≢false (sym h))
point_of NoTag h = absurd (true≢false (sym h))
point_of (Opens q) h = absurd (true≢false (sym h))
point_of (Closes q) h = absurd (true≢false (sym h))
point_of Comma h = absurd (true≢false (sym h))
point_of Anchor h = absurd (true≢false (sym h))
point_of Percent h = absurd (true≢false (sym h))
point_of Tabbed h = absurd (true≢false (sym h))
point_of Stray h = absurd (true≢false (sym h))
point_of Other h = absurd (true≢false (sym h))

pub point_told : (t : Token) → is_point t ≡ true → is_told t ≡ true
point_told t h = ap is_told (point_of t h).1

pub point_unmarked : (t : Token) → is_point t ≡ true → is_marked t ≡ false
point_unmarked t h = ap is_marked (point_of t h).1

-- ---- the tests

pub last_parts : (text : List ℕ) (flow : Bool) (a : Ahead) → is_last_point text flow a ≡ true → (is_point a.token ≡ true) × (a.behind ≡ length text) × ((flow || not a.fresh) ≡ true)
last_parts text flow a h =
    let x = both (is_point a.token) (nat_eq a.behind (length text) && (flow || not a.fresh)) h in
    let y = both (nat_eq a.behind (length text)) (flow || not a.fresh) x.1 in
    (x.0, grind (arith, nat_tests, y.0), y.1)

pub pointed_parts : (text : List ℕ) (flow : Bool) (at e : ℕ) → is_pointed text flow at e ≡ true → (is_plain flow (drop at text) ≡ true) × (is_last_point text flow (ahead text flow e) ≡ true) × ((not flow || nat_eq (e + gap (drop e text)) (ahead text flow e).at) ≡ true)
pointed_parts text flow at e h =
    let x = both (is_plain flow (drop at text)) (is_last_point text flow (ahead text flow e) && (not flow || nat_eq (e + gap (drop e text)) (ahead text flow e).at)) h in
    let y = both (is_last_point text flow (ahead text flow e)) (not flow || nat_eq (e + gap (drop e text)) (ahead text flow e).at) x.1 in
    (x.0, y.0, y.1)

pub pointed_point : (text : List ℕ) (flow : Bool) (at e : ℕ) → is_pointed text flow at e ≡ true → is_point (ahead text flow e).token ≡ true
pointed_point text flow at e h = (last_parts text flow (ahead text flow e) (pointed_parts text flow at e h).1).0

-- between brackets no quote stands there
pub plain_unquoted : (flow : Bool) (xs : List ℕ) → is_plain flow xs ≡ true → begins_quoted xs ≡ false
plain_unquoted flow xs h = by_quote (begins_quoted xs) h where
  by_quote : (q : Bool) → not (q || (not flow && (begins_with 124 xs || begins_with 62 xs))) ≡ true → q ≡ false
  by_quote true h = absurd (true≢false (sym h))
  by_quote false h = refl

-- outside of brackets no sign of a block scalar does either
pub plain_unblocked : (xs : List ℕ) → is_plain false xs ≡ true → (begins_with 124 xs || begins_with 62 xs) ≡ false
plain_unblocked xs h = by_tests (begins_quoted xs) (begins_with 124 xs || begins_with 62 xs) h where
  by_tests : (q r : Bool) → not (q || (true && r)) ≡ true → r ≡ false
  by_tests true r h = absurd (true≢false (sym h))
  by_tests false true h = absurd (true≢false (sym h))
  by_tests false false h = refl

-- and the colon stands on the scalar's line
pub last_stale : (text : List ℕ) (a : Ahead) → is_last_point text false a ≡ true → a.fresh ≡ false
last_stale text a h = by_fresh a.fresh (last_parts text false a h).2 where
  by_fresh : (q : Bool) → (false || not q) ≡ true → q ≡ false
  by_fresh true k = absurd (true≢false (sym k))
  by_fresh false k = refl

pub pointed_stale : (text : List ℕ) (at e : ℕ) → is_pointed text false at e ≡ true → (ahead text false e).fresh ≡ false
pointed_stale text at e h = last_stale text (ahead text false e) (pointed_parts text false at e h).1

-- a scalar that neither begins is a plain one
pub plain_pointed : (text : List ℕ) (at e : ℕ) → begins_quoted (drop at text) ≡ false → (begins_with 124 (drop at text) || begins_with 62 (drop at text)) ≡ false → is_last_point text false (ahead text false e) ≡ true → is_pointed text false at e ≡ true
plain_pointed text at e q s h =
    ap (λ r. not (r || (true && (begins_with 124 (drop at text) || begins_with 62 (drop at text)))) && (is_last_point text false (ahead text false e) && (true || nat_eq (e + gap (drop e text)) (ahead text false e).at))) q
    ∙ ap (λ r. not (false || (true && r)) && (is_last_point text false (ahead text false e) && (true || nat_eq (e + gap (drop e text)) (ahead text false e).at))) s ∙ ap (λ r. true && (r && true)) h

pub sign_block : (f : Form) (xs : List ℕ) → IsBlock f → begins_block (setting_of f) xs ≡ false → (begins_with 124 xs || begins_with 62 xs) ≡ false
sign_block Root xs b h = h
sign_block (Flow map) xs b h = absurd b
sign_block (FlowTagged at) xs b h = absurd b
sign_block (Items m) xs b h = h
sign_block (Entries m) xs b h = h
sign_block (Tagged at above shares) xs b h = h

pub unquoted_plain : (xs : List ℕ) → begins_quoted xs ≡ false → is_plain true xs ≡ true
unquoted_plain xs h = ap (λ q. not (q || false)) h

-- the text ends in the colon
pub ends_by : (k n : ℕ) (xs : List ℕ) → suc n ≡ length xs → begins_with k (drop n xs) ≡ true → ends_with k xs ≡ true
ends_by k n [] e h = absurd (omega (arith, e))
ends_by k n (x ∷ []) e h = first n e h where
  first : (n : ℕ) → suc n ≡ 1 → begins_with k (drop n (x ∷ [])) ≡ true → nat_eq x k ≡ true
  first n e h = let z : n ≡ 0 = omega (arith, e) in sym (ap (λ m. begins_with k (drop m (x ∷ []))) z) ∙ h
ends_by k n (x ∷ y ∷ xs) e h = ends_by k (length xs) (y ∷ xs) refl (further n e h) where
  further : (n : ℕ) → suc n ≡ suc (suc (length xs)) → begins_with k (drop n (x ∷ y ∷ xs)) ≡ true → begins_with k (drop (length xs) (y ∷ xs)) ≡ true
  further n e h = let z : n ≡ suc (length xs) = omega (arith, e) in sym (ap (λ m. begins_with k (drop m (x ∷ y ∷ xs))) z) ∙ h
