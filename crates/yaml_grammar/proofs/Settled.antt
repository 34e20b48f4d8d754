-- How far a text is looked at where reading goes on: not further than for what is ahead, and as far as for what was ahead before. By the cases of stages and tokens.
use Rattle.std.proofs.Common.{◌≡◌, ℕ, suc, ◌+◌, ◌-◌, ◌<◌, ◌≤◌, Bool, true, false, ◌||◌, ◌&&◌, not, cond, nat_eq, nat_lt, arith, List, ◌∷◌, drop, length, refl, sym, ap, ◌∙◌, subst, true≢false}
use Rattle.std.proofs.lemmas.Bool.Decides.{nat_tests}
use Rattle.std.specs.Str.{IsCharBoundary, IsUtf8}
use Rattle.yaml_scalars.specs.Lines.{is_end, lead}
use Rattle.yaml_scalars.specs.Block.{same}
use Rattle.yaml_scalars.specs.code.Walk.{line_at}
use Rattle.yaml_grammar.specs.declared.ahead.Ahead.{Ahead}
use Rattle.yaml_grammar.specs.declared.ahead.Token.{Token}
use Rattle.yaml_grammar.specs.declared.ahead.Token.TheVariants.{End, Dashes, Dots, Dash, Tag, NoTag, Opens, Closes, Comma, Point, Anchor, Percent, Tabbed, Stray, Other}
use Rattle.yaml_grammar.specs.declared.stage.Stage.{Stage}
use Rattle.yaml_grammar.specs.declared.stage.Stage.TheVariants as stage
use Rattle.yaml_grammar.specs.declared.stage.Position.{Position}
use Rattle.yaml_grammar.specs.Ahead.{token_len, is_name, begins_letter, ends_tag, tag_token, token_of, ahead}
use Rattle.yaml_grammar.specs.Nodes.{is_marked}
use Rattle.yaml_grammar.specs.code.AheadSeen.{ahead_seen, first_return, is_told}
use Rattle.yaml_grammar.specs.code.Points.{is_last_point, is_point}
use Rattle.yaml_grammar.specs.code.StopPlaces.{is_stray, run_width, byte_width, token_width, width}
use Rattle.yaml_grammar.specs.code.Steps.{IsSeen, is_ending, is_flow_ending, is_open}
use Rattle.yaml_grammar.specs.code.Twins.{settled}
use Rattle.yaml_grammar.proofs.AheadOrder.{seen_behind, seen_from, seen_least}
use Rattle.yaml_grammar.proofs.FirstTokens.{Begun, first_byte}
use Rattle.yaml_grammar.proofs.LastPoints.{alike_last}
use Rattle.yaml_grammar.proofs.Placed.{placed}
use Rattle.yaml_grammar.proofs.PlainOut.{ahead_from}
use Rattle.yaml_grammar.proofs.ShownTokens.{ahead_wide}

-- ---- a position

pub settled_least : (text : List ℕ) (flow : Bool) (s : Stage) (i : ℕ) → i ≤ length text → settled text flow s i ≤ ahead_seen text i
settled_least text flow s i low = by_stage s where
  by_ending : (q : Bool) → cond q (ahead_seen text i) i ≤ ahead_seen text i
  by_ending true = omega arith
  by_ending false = seen_least text i low

  by_open : (q : Bool) → cond q (ahead text flow i).at (ahead_seen text i) ≤ ahead_seen text i
  by_open true = seen_from text flow i
  by_open false = omega arith

  by_stage : (s : Stage) → settled text flow s i ≤ ahead_seen text i
  by_stage stage.Entry = let z = seen_least text i low in omega (arith, z)
  by_stage stage.Value = by_ending (is_flow_ending (ahead text true i).token)
  by_stage stage.After = by_open (is_last_point text flow (ahead text flow i) || (flow && not (is_open (ahead text true i).token)))
  by_stage stage.Whole = omega arith

pub settled_value : (text : List ℕ) (flow : Bool) (i place : ℕ) → i ≤ length text → settled text flow stage.Value i ≤ place → i ≤ place
settled_value text flow i place low near = by_ending (is_flow_ending (ahead text true i).token) near where
  by_ending : (q : Bool) → cond q (ahead_seen text i) i ≤ place → i ≤ place
  by_ending true h = let z = seen_least text i low in omega (arith, h, z)
  by_ending false h = h

pub settled_ending : (text : List ℕ) (flow : Bool) (i place : ℕ) → is_flow_ending (ahead text true i).token ≡ true → settled text flow stage.Value i ≤ place → ahead_seen text i ≤ place
settled_ending text flow i place e near = subst (λ q. cond q (ahead_seen text i) i ≤ place) e near

-- at a stage and a place
pub settled_at : (text : List ℕ) (flow : Bool) (p : Position) (s : Stage) (i place : ℕ) → p.stage ≡ s → p.at ≡ i → settled text flow p.stage p.at ≤ place → settled text flow s i ≤ place
settled_at text flow p s i place es ei near = subst (λ n. settled text flow s n ≤ place) ei (subst (λ z. settled text flow z p.at ≤ place) es near)

-- behind a node between brackets the place itself is looked at
pub settled_after : (text : List ℕ) (i place : ℕ) → i ≤ length text → settled text true stage.After i ≤ place → i ≤ place
settled_after text i place low near = by_open (is_last_point text true (ahead text true i) || (true && not (is_open (ahead text true i).token))) near where
  by_open : (q : Bool) → cond q (ahead text true i).at (ahead_seen text i) ≤ place → i ≤ place
  by_open true h = let z = ahead_from text i low in omega (arith, h, z)
  by_open false h = let z = seen_least text i low in omega (arith, h, z)

-- where brackets begin or end with a step
pub settled_turn : (text : List ℕ) (p q : Bool) (s : Stage) (i : ℕ) → (p ≡ false → q ≡ true → s ≡ stage.Entry) → settled text p s i ≤ settled text q s i
settled_turn text p q s i opens = by_stage s opens where
  by_open : (p q : Bool) → (p ≡ false → q ≡ true → stage.After ≡ stage.Entry) → settled text p stage.After i ≤ settled text q stage.After i
  by_open true true o = omega arith
  by_open false false o = omega arith
  by_open true false o = by_line (is_last_point text false (ahead text false i)) refl where
    by_token : (r : Bool) → cond r (ahead text true i).at (ahead_seen text i) ≤ ahead_seen text i
    by_token true = seen_from text true i
    by_token false = omega arith

    here : is_last_point text false (ahead text false i) ≡ true → cond (is_last_point text true (ahead text true i) || (true && not (is_open (ahead text true i).token))) (ahead text true i).at (ahead_seen text i) ≤ (ahead text false i).at
    here e = let k = alike_last text i e in let z = k.1 in subst (λ q. cond (q || (true && not (is_open (ahead text true i).token))) (ahead text true i).at (ahead_seen text i) ≤ (ahead text false i).at) (sym k.0) (omega (arith, z))

    by_line : (r : Bool) → is_last_point text false (ahead text false i) ≡ r → cond (is_last_point text true (ahead text true i) || (true && not (is_open (ahead text true i).token))) (ahead text true i).at (ahead_seen text i) ≤ cond (r || (false && not (is_open (ahead text true i).token))) (ahead text false i).at (ahead_seen text i)
    by_line true e = here e
    by_line false e = by_token (is_last_point text true (ahead text true i) || (true && not (is_open (ahead text true i).token)))
  by_open false true o = absurd (let z = o refl refl in cc)

  by_stage : (s : Stage) → (p ≡ false → q ≡ true → s ≡ stage.Entry) → settled text p s i ≤ settled text q s i
  by_stage stage.Entry o = omega arith
  by_stage stage.Value o = omega arith
  by_stage stage.After o = by_open p q o
  by_stage stage.Whole o = omega arith

-- ---- a bracket or a comma is shown by its byte

abbrev pub is_opening : Token → Bool
is_opening (Opens map) = true
is_opening (Closes map) = true
is_opening Comma = true
is_opening _ = false

-- and so is a `%`
abbrev pub is_bare : Token → Bool
is_bare Percent = true
is_bare t = is_opening t

bare_told : (t : Token) → is_bare t ≡ true → (is_told t ≡ true) × (is_ending t ≡ false) × (is_stray t ≡ false)
bare_told End h = absurd (true≢false (sym h))
bare_told Dashes h = absurd (true≢false (sym h))
bare_told Dots h = absurd (true≢false (sym h))
bare_told Dash h = absurd (true≢false (sym h))
bare_told (Tag n) h = absurd (true≢false (sym h))
bare_told NoTag h = absurd (true≢false (sym h))
bare_told (Opens q) h = (refl, refl, refl)
bare_told (Closes q) h = (refl, refl, refl)
bare_told Comma h = (refl, refl, refl)
bare_told (Point q) h = absurd (true≢false (sym h))
bare_told Anchor h = absurd (true≢false (sym h))
bare_told Percent h = (refl, refl, refl)
bare_told Tabbed h = absurd (true≢false (sym h))
bare_told Stray h = absurd (true≢false (sym h))
bare_told Other h = absurd (true≢false (sym h))

opening_bare : (t : Token) → is_opening t ≡ true → is_bare t ≡ true
opening_bare Percent h = refl
opening_bare End h = h
opening_bare Dashes h = h
opening_bare Dots h = h
opening_bare Dash h = h
opening_bare (Tag n) h = h
opening_bare NoTag h = h
opening_bare (Opens q) h = h
opening_bare (Closes q) h = h
opening_bare Comma h = h
opening_bare (Point q) h = h
opening_bare Anchor h = h
opening_bare Tabbed h = h
opening_bare Stray h = h
opening_bare Other h = h

opening_told : (t : Token) → is_opening t ≡ true → (is_told t ≡ true) × (is_ending t ≡ false) × (is_stray t ≡ false) × (token_len t ≡ 1)
opening_told End h = absurd (true≢false (sym h))
opening_told Dashes h = absurd (true≢false (sym h))
opening_told Dots h = absurd (true≢false (sym h))
opening_told Dash h = absurd (true≢false (sym h))
opening_told (Tag n) h = absurd (true≢false (sym h))
opening_told NoTag h = absurd (true≢false (sym h))
opening_told (Opens q) h = (refl, refl, refl, refl)
opening_told (Closes q) h = (refl, refl, refl, refl)
opening_told Comma h = (refl, refl, refl, refl)
opening_told (Point q) h = absurd (true≢false (sym h))
opening_told Anchor h = absurd (true≢false (sym h))
opening_told Percent h = absurd (true≢false (sym h))
opening_told Tabbed h = absurd (true≢false (sym h))
opening_told Stray h = absurd (true≢false (sym h))
opening_told Other h = absurd (true≢false (sym h))

none_picked : (q : Bool) (s t : Token) → is_bare s ≡ false → is_bare t ≡ false → is_bare (cond q s t) ≡ false
none_picked true s t h g = h
none_picked false s t h g = g

-- the bytes that show more than themselves begin none
no_tag : (flow : Bool) (xs : List ℕ) → is_bare (tag_token flow xs) ≡ false
no_tag flow xs = none_picked (begins_letter xs && ends_tag flow (drop (lead is_name xs) xs)) (Tag (lead is_name xs)) NoTag refl refl

no_name : (flow : Bool) (xs : List ℕ) → is_bare (token_of flow (33 ∷ xs)) ≡ false
no_name true xs = no_tag true xs
no_name false xs = no_tag false xs

no_dash : (flow : Bool) (xs : List ℕ) → is_bare (token_of flow (45 ∷ xs)) ≡ false
no_dash true xs = refl
no_dash false xs = none_picked (is_end xs) Dash Other refl refl

no_dot : (flow : Bool) (xs : List ℕ) → is_bare (token_of flow (46 ∷ xs)) ≡ false
no_dot true xs = refl
no_dot false xs = refl

no_colon : (flow : Bool) (xs : List ℕ) → is_bare (token_of flow (58 ∷ xs)) ≡ false
no_colon true xs = refl
no_colon false xs = none_picked (is_end xs) (Point true) Other refl refl

no_return : (flow : Bool) (xs : List ℕ) → is_bare (token_of flow (13 ∷ xs)) ≡ false
no_return true xs = refl
no_return false xs = refl

opening_byte : (flow : Bool) (b : ℕ) (xs ys : List ℕ) → is_bare (token_of flow (b ∷ xs)) ≡ true → byte_width b ys ≡ 0
opening_byte flow b xs ys h = by_tests (nat_eq b 33) (nat_eq b 45) (nat_eq b 46) (nat_eq b 58) (nat_eq b 13) refl refl refl refl refl where
  none : (c : ℕ) → nat_eq b c ≡ true → is_bare (token_of flow (c ∷ xs)) ≡ false → ⊥
  none c e g = let z : b ≡ c = grind (arith, nat_tests, e) in true≢false (sym h ∙ ap (λ d. is_bare (token_of flow (d ∷ xs))) z ∙ g)

  by_tests : (p q r s t : Bool) → nat_eq b 33 ≡ p → nat_eq b 45 ≡ q → nat_eq b 46 ≡ r → nat_eq b 58 ≡ s → nat_eq b 13 ≡ t → cond p (suc (lead is_name (line_at ys))) (cond (q || r) (run_width (suc (same b 2 ys)) ys) (cond (s || t) 1 0)) ≡ 0
  by_tests true q r s t i j k l m = absurd (none 33 i (no_name flow xs))
  by_tests false true r s t i j k l m = absurd (none 45 j (no_dash flow xs))
  by_tests false false true s t i j k l m = absurd (none 46 k (no_dot flow xs))
  by_tests false false false true t i j k l m = absurd (none 58 l (no_colon flow xs))
  by_tests false false false false true i j k l m = absurd (none 13 m (no_return flow xs))
  by_tests false false false false false i j k l m = refl

pub bare_seen : (text : List ℕ) (flow : Bool) (i : ℕ) → is_bare (ahead text flow i).token ≡ true → ahead_seen text i ≤ (ahead text flow i).at
bare_seen text flow i h = by_byte (first_byte text flow i told.0) where
  a : Ahead
  a = ahead text flow i

  told : (is_told (ahead text flow i).token ≡ true) × (is_ending (ahead text flow i).token ≡ false) × (is_stray (ahead text flow i).token ≡ false)
  told = bare_told (ahead text flow i).token h

  by_byte : Begun text flow (ahead text flow i) → ahead_seen text i ≤ (ahead text flow i).at
  by_byte (b, rest, here, black, tok) =
      let z = ahead_wide text flow i told.1 in
      let w : width a (drop a.at text) ≡ 0 =
      ap (λ q. cond (q && (a.fresh || nat_lt 0 a.column)) (first_return (drop a.at text)) (token_width (drop a.at text))) told.2 ∙ ap token_width here ∙ opening_byte flow b (line_at rest) rest (sym (ap is_bare tok) ∙ h) in
      omega (arith, z, w)

pub opening_seen : (text : List ℕ) (flow : Bool) (i : ℕ) → is_opening (ahead text flow i).token ≡ true → ahead_seen text i ≤ (ahead text flow i).at
opening_seen text flow i h = bare_seen text flow i (opening_bare (ahead text flow i).token h)

-- ---- what was ahead before

module _ (text : List ℕ) (flow : Bool) (i : ℕ) (a : Ahead) (seen : IsSeen text flow i a) where
  -- a token with a length that is no mark
  pub token_reach : is_marked a.token ≡ false → 0 < token_len a.token → ahead_seen text i ≤ a.behind
  token_reach m l = subst (λ (b : Ahead). ahead_seen text i ≤ b.behind) (sym seen.0) (seen_behind text flow i a.token (sym (ap (λ (b : Ahead). b.token) seen.0)) m l)

  -- a bracket, and a comma
  pub opening_reach : (t : Token) (place : ℕ) → a.token ≡ t → is_opening t ≡ true → a.behind - 1 ≤ place → (ahead_seen text i ≤ place) × (a.at ≤ place)
  opening_reach t place e o near =
      let z = subst (λ (b : Ahead). ahead_seen text i ≤ b.at) (sym seen.0) (opening_seen text flow i (ap (λ (b : Ahead). is_opening b.token) (sym seen.0) ∙ ap is_opening e ∙ o)) in
      let k = seen.1.3 in
      let len = (opening_told a.token (ap is_opening e ∙ o)).3 in
      (omega (arith, z, k, len, near), omega (arith, k, len, near))

-- where nothing stands in front of a comma, a bracket or a mark
pub settled_null : (text : List ℕ) (i place : ℕ) → is_flow_ending (ahead text true i).token ≡ true → settled text true stage.After i ≤ place → ahead_seen text i ≤ place
settled_null text i place e near = by_token (ahead text true i).token e refl (subst (λ q. cond (q || (true && not (is_open (ahead text true i).token))) (ahead text true i).at (ahead_seen text i) ≤ place) (no_point (ahead text true i).token e) near) where
  no_point : (t : Token) → is_flow_ending t ≡ true → is_last_point text true (record { token = t; fresh = (ahead text true i).fresh; column = (ahead text true i).column; at = (ahead text true i).at; behind = (ahead text true i).behind }) ≡ false
  no_point Comma h = refl
  no_point (Closes q) h = refl
  no_point Dashes h = refl
  no_point Dots h = refl
  no_point End h = refl
  no_point Dash h = refl
  no_point (Tag m) h = refl
  no_point NoTag h = refl
  no_point (Opens q) h = refl
  no_point (Point q) h = absurd (true≢false (sym h))
  no_point Anchor h = refl
  no_point Percent h = refl
  no_point Tabbed h = refl
  no_point Stray h = refl
  no_point Other h = refl

  by_bracket : is_opening (ahead text true i).token ≡ true → (ahead text true i).at ≤ place → ahead_seen text i ≤ place
  by_bracket o h = let z = opening_seen text true i o in omega (arith, z, h)

  by_token : (t : Token) → is_flow_ending t ≡ true → (ahead text true i).token ≡ t → cond (true && not (is_open t)) (ahead text true i).at (ahead_seen text i) ≤ place → ahead_seen text i ≤ place
  by_token End h k n = n
  by_token Dashes h k n = n
  by_token Dots h k n = n
  by_token (Point q) h k n = n
  by_token (Closes q) h k n = by_bracket (ap is_opening k) n
  by_token Comma h k n = by_bracket (ap is_opening k) n
  by_token Dash h k n = absurd (true≢false (sym h))
  by_token (Tag m) h k n = absurd (true≢false (sym h))
  by_token NoTag h k n = absurd (true≢false (sym h))
  by_token (Opens q) h k n = absurd (true≢false (sym h))
  by_token Anchor h k n = absurd (true≢false (sym h))
  by_token Percent h k n = absurd (true≢false (sym h))
  by_token Tabbed h k n = absurd (true≢false (sym h))
  by_token Stray h k n = absurd (true≢false (sym h))
  by_token Other h k n = absurd (true≢false (sym h))

-- between brackets a position in front of a colon is settled within the text
pub settled_point : (text : List ℕ) (i : ℕ) (loose : Bool) → IsUtf8 text → IsCharBoundary text i → (ahead text true i).token ≡ Point loose → settled text true stage.After i < length text
settled_point text i loose utf8 cut tk = by_last (is_last_point text true (ahead text true i)) refl where
  here : (ahead text true i).behind ≡ (ahead text true i).at + token_len (ahead text true i).token
  here = (placed text true i utf8 cut).3

  one : token_len (ahead text true i).token ≡ 1
  one = ap token_len tk

  within : (ahead text true i).behind ≤ length text
  within = (placed text true i utf8 cut).2.0

  other : is_last_point text true (ahead text true i) ≡ false → (ahead text true i).behind < length text
  other h = by_order (nat_eq (ahead text true i).behind (length text)) refl where
    by_order : (q : Bool) → nat_eq (ahead text true i).behind (length text) ≡ q → (ahead text true i).behind < length text
    by_order true e = absurd (true≢false (sym (ap (λ t. is_point t && (nat_eq (ahead text true i).behind (length text) && true)) tk ∙ ap (λ q. true && (q && true)) e) ∙ h))
    by_order false e = let z = within in grind (arith, nat_tests, e, z)

  by_last : (q : Bool) → is_last_point text true (ahead text true i) ≡ q → cond (q || (true && not (is_open (ahead text true i).token))) (ahead text true i).at (ahead_seen text i) < length text
  by_last true e = let b = here in let n = one in let z = within in omega (arith, b, n, z)
  by_last false e = subst (λ t. cond (false || (true && not (is_open t))) (ahead text true i).at (ahead_seen text i) < length text) (sym tk) (let z = seen_behind text true i (Point loose) tk refl (omega arith) in let b = other e in omega (arith, z, b))
