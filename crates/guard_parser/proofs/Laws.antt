-- What is read of a file is its one syntax, and where nothing is read no file goes on.
use Rattle.std.proofs.Common.{◌≡◌, ◌⊎◌, inl, inr, ℕ, zero, suc, ◌≤◌, ◌<◌, max, true, refl, sym, ap, ◌∙◌, subst, arith, List, [], ◌∷◌, ◌++◌, ◌+◌, length, map, take, slice_index_or, append_assoc, nat_lt, Bool, false, Option}
use Rattle.guard_lexer.specs.declared.token.Token.{Token}
use Rattle.guard_syntax.specs.Syntax.{Lets, Disjs, Rule, File}
use Rattle.guard_syntax.specs.Sites.{upto, sites_file}
use Rattle.literal_parser.specs.Lexemes.{Lexeme, End, lexeme_of, ending, lexemes}
use Rattle.literal_parser.specs.Forms.{form, is_end}
use Rattle.literal_parser.specs.States.{State, start}
use Rattle.guard_parser.specs.Grammar.{IsContents}
use Rattle.literal_parser.specs.code.Parser.{Outcome, Read, Fail}
use Rattle.literal_parser.specs.code.Reads.{site_of}
use Rattle.part_parser.specs.code.Reading.{inners, numbered}
use Rattle.guard_parser.specs.code.FileReading.{FileItems, whole_file}
use Rattle.guard_parser.specs.code.Depth.{deep_file}
use Rattle.literal_parser.specs.Brackets.{IsShallowTo}
use Rattle.guard_parser.specs.File.{IsSpelledBy, IsSpelled, IsShallow, IsDeadEnd, MayGoOn, going_on, listed}
use Rattle.std.proofs.lemmas.Bool.{ltb-true, ltb-false, cases_order}
use Rattle.std.proofs.lemmas.List.{append-nil, get_or-take, length-append, length-map, length-take, take-map}
use Rattle.std.proofs.Math.ListN.{get_or-append, get_or-eq_default}
use Rattle.std.proofs.Math.Seq.{get_or-append_seam}
use Rattle.doc_values.specs.Limits.{rules_limit}
use Rattle.literal_parser.proofs.Places.{at_end}
use Rattle.literal_parser.proofs.Levels.{stands_agreed}
use Rattle.literal_parser.proofs.GoOn.{Spells, only}
use Rattle.guard_parser.proofs.GoOnFile.{goes_on}
use Rattle.literal_parser.proofs.Combine.{Holds, holds_then, done, failed, Gives, gives, gives_then, horizon}
use Rattle.literal_parser.proofs.Steps.{Alike, Local, alike_then, choose_local, pure_local, stop_local, choose_sound, by}
use Rattle.literal_parser.proofs.LiteralSound.{literal_sound}
use Rattle.literal_parser.proofs.LiteralLocal.{literal_local}
use Rattle.literal_parser.proofs.LiteralGrows.{literal_grows}
use Rattle.literal_parser.proofs.LiteralComplete.{literal_gives}
use Rattle.literal_parser.proofs.Steady.{IsNumbered, AreSteady, steady_then, choose_steady, pure_steady, stop_steady}
use Rattle.literal_parser.proofs.LiteralSteady.{literal_steady}
use Rattle.guard_parser.proofs.Steady.{inners_steady, contents_steady}
use Rattle.guard_parser.proofs.Sound.{file_sound}
use Rattle.guard_parser.proofs.Local.{inners_local, contents_local}
use Rattle.guard_parser.proofs.Complete.{contents_gives}
use Rattle.guard_parser.proofs.Ends.{ends_there, ends_behind}
use Rattle.guard_parser.proofs.Nesting.{contents_shallow, contents_ends}
use Rattle.guard_parser.proofs.Numbered.{contents_counted}

-- ---- the reading of a whole file

module _ (s : ℕ → Lexeme) (turns : ℕ) where
  -- with the sites numbered so
  abbrev pub reading_by : (ℕ → ℕ) → ℕ → Outcome FileItems
  reading_by number depth = whole_file s turns (numbered s turns number depth) start 0

  abbrev pub reading : ℕ → Outcome FileItems
  reading = reading_by (λ n. n)

  whole_sound : (depth : ℕ) → Holds (reading depth) (λ x m. IsContents s x.0 x.1 x.2 start m × (is_end (form (s m.at)) ≡ true))
  unfolding whole_file
  whole_sound depth = holds_then (file_sound s turns (λ d. literal_sound s turns d) depth 0) (λ x m sn h. choose_sound s is_end _ _ _ _
      (λ is. done {R = λ x m. IsContents s x.0 x.1 x.2 start m × (is_end (form (s m.at)) ≡ true)} (h, is))
      (λ is. failed))

  whole_gives : (depth : ℕ) (ls : Lets) (rs : List Rule) (ds : Disjs) (b : State) → deep_file ls rs ds ≤ suc depth → b.at < turns
      → IsContents s ls rs ds start b → is_end (form (s b.at)) ≡ true → Gives (reading (suc depth)) (ls, rs, ds) b
  unfolding whole_file
  whole_gives depth ls rs ds b deep end h is = gives_then _
      (contents_gives s turns (literal_grows s) (literal_gives s turns) depth ls rs ds start b 0 (omega arith) (omega arith) (omega arith) end h)
      (λ sn. by s is_end true _ _ b sn is gives)

trees_local : (s w : ℕ → Lexeme) (turns depth : ℕ) → Local s w (inners s turns depth).tree (inners w turns depth).tree
trees_local s w turns zero = literal_local s w turns zero
trees_local s w turns (suc depth) = literal_local s w turns (suc depth)

whole_local : (s w : ℕ → Lexeme) (turns depth : ℕ) → Alike s w 0 (reading s turns depth) (reading w turns depth)
unfolding whole_file
whole_local s w turns depth = alike_then s w _ _ (contents_local s w turns _ _ (inners_local s w turns (trees_local s w turns) depth) start 0)
    (λ x m sn. choose_local s w is_end _ _ _ _ (λ m sn. pure_local s w _ m sn) (λ m sn. stop_local s w sn) m sn)

-- over lexemes that end, any number of turns above theirs reads the same, and so does any numbering of as many sites as there can be
module _ (s : ℕ → Lexeme) (n : ℕ) (ends : form (s n) ≡ 0) (turns larger : ℕ) (enough : n < turns) (plenty : n < larger) (g h : ℕ → ℕ) (alike : IsNumbered n g h) where
  trees_steady : (depth : ℕ) → AreSteady s n ends 1 true (numbered s turns g depth).tree (numbered s larger h depth).tree
  trees_steady zero = literal_steady s n ends turns larger enough plenty zero
  trees_steady (suc depth) = literal_steady s n ends turns larger enough plenty (suc depth)

  whole_steady : (depth : ℕ) → reading_by s turns g depth ≡ reading_by s larger h depth
  unfolding whole_file
  whole_steady depth = (steady_then s n ends {u = false} _ _
      (contents_steady s n ends turns larger enough plenty _ _ (inners_steady s n ends turns larger enough plenty g h alike trees_steady depth) start 0 (omega arith) (record { bound = omega arith }))
      (λ x m sn near few far. choose_steady s n ends {room = 5} {v = false} {u = false} is_end _ _ _ _ (λ m sn near few. pure_steady s n ends _ m sn near few) (λ m sn near few. stop_steady s n ends sn) m sn near few)).same

-- the tokens of a text within the limit have fewer sites than the code has numbers for
pub read_exactly : (text : List ℕ) (tokens : List Token) (turns depth : ℕ) → length tokens < turns → length tokens ≤ rules_limit
    → reading_by (lexemes text tokens) turns site_of depth ≡ reading (lexemes text tokens) turns depth
read_exactly text tokens turns depth enough few =
    whole_steady (lexemes text tokens) (length tokens) (ap form (at_end text tokens (length tokens) (omega arith))) turns turns enough enough site_of (λ n. n) (λ k less. omega arith) depth

-- ---- what is read

read_whole : (s : ℕ → Lexeme) (turns depth : ℕ) (x : FileItems) (m : State) (seen : ℕ) → reading s turns depth ≡ Read x m seen
    → IsContents s x.0 x.1 x.2 start m × (is_end (form (s m.at)) ≡ true)
read_whole s turns depth x m seen e = (subst (λ r. Holds r (λ x m. IsContents s x.0 x.1 x.2 start m × (is_end (form (s m.at)) ≡ true))) e (whole_sound s turns depth)).held

-- no token is left, and none is passed that is not there
all_taken : (text : List ℕ) (tokens : List Token) (ls : Lets) (rs : List Rule) (ds : Disjs) (m : State) → IsContents (lexemes text tokens) ls rs ds start m
    → is_end (form (lexemes text tokens m.at)) ≡ true → m.at ≡ length tokens
all_taken text tokens ls rs ds m h is =
    let one = ends_behind text tokens m.at is in let two = contents_ends (lexemes text tokens) ls rs ds start m h (length tokens) (ends_there text tokens) (omega arith) in omega arith

abbrev pub file_of : FileItems → List ℕ → File
file_of x places = record { lets = x.0; rules = x.1; loose = x.2; places = places }

pub read_is : (text : List ℕ) (tokens : List Token) (turns depth : ℕ) (x : FileItems) (m : State) (seen : ℕ) → reading (lexemes text tokens) turns depth ≡ Read x m seen
    → IsSpelled text tokens (file_of x m.places) m.mixed
read_is text tokens turns depth x m seen e =
    let h = read_whole (lexemes text tokens) turns depth x m seen e in (m, h.0, all_taken text tokens x.0 x.1 x.2 m h.0 h.1, refl, refl)

-- ---- where nothing is read

none_given : {A : Type 0} {r : Outcome A} {x : A} {m : State} (k : ℕ) → r ≡ Fail k → Gives r x m → ⊥
none_given {x = x} {m = m} k e h = (subst (λ r. Gives r x m) e h).given

is_there : (s : ℕ → Lexeme) (n : ℕ) (m : State) → m.at ≡ n → is_end (form (s n)) ≡ true → is_end (form (s m.at)) ≡ true
is_there s n m e h = subst (λ i. is_end (form (s i)) ≡ true) (sym e) h

-- ---- where nothing is read up to the end, some lexemes more are read

spells_behind : (s : ℕ → Lexeme) (n : ℕ) (front more : List Lexeme) (d : Lexeme) → Spells s n (λ i. slice_index_or (front ++ more) i d) (length front) more
spells_behind s n front [] d = tt
spells_behind s n front (x ∷ xs) d = (
  get_or-append_seam front x xs d,
  subst (λ l. Spells s n (λ i. slice_index_or l i d) (suc (length front)) xs) (append_assoc front (x ∷ []) xs)
      (subst (λ i. Spells s n (λ j. slice_index_or ((front ++ x ∷ []) ++ xs) j d) i xs) (let e : length (front ++ x ∷ []) ≡ suc (length front) = omega (arith, length-append front (x ∷ [])) in e)
      (spells_behind s n (front ++ x ∷ []) xs d)),
)

given_held : {A : Type 0} {r : Outcome A} {x : A} {m : State} (R : A → State → Type 0) → Gives r x m → Holds r R → R x m
given_held {r = Read a st seen} {m = m} R g h = subst (λ y. R y m) g.given.0 (subst (λ z. R a z) g.given.1 h.held)
given_held {r = Fail k} R g h = absurd g.given

ends_early : (text : List ℕ) (tokens : List Token) (turns d k : ℕ) → suc d ≡ 128 → IsShallow text tokens → length tokens < turns → 1 < turns → reading (lexemes text tokens) turns (suc d) ≡ Fail k → length tokens ≤ k → MayGoOn text tokens
ends_early text tokens turns d k deep shallow room many e far =
    let s = lexemes text tokens in let n = length tokens in
    let front = map (lexeme_of text) tokens in
    let long : length front ≡ n = length-map tokens (lexeme_of text) in
    let stop : s n ≡ ending text = at_end text tokens n (omega arith) in
    let g = goes_on s n (ap form stop) turns room many d k deep shallow e far in
    let w = going_on text tokens g.more in
    let agree : (i : ℕ) → i < n → w i ≡ s i = λ i less. get_or-append front g.more (ending text) i (omega arith) in
    let spells : Spells s n w n g.more = subst (λ i. Spells s n w i g.more) long (spells_behind s n front g.more (ending text)) in
    let last : w g.last.at ≡ ending text = get_or-eq_default (front ++ g.more) (ending text) (let l = g.stops in omega (arith, length-append front g.more)) in
    let given = g.goes w agree spells (ap (λ x. only End (form x)) last, ap (λ (x : Lexeme). x.from) (last ∙ sym stop)) 0 in
    let held = given_held (λ x m. IsContents w x.0 x.1 x.2 start m) given (file_sound w turns (λ d. literal_sound w turns d) (suc (suc d)) 0) in
    (g.more, file_of g.value g.last.places, g.last.mixed, (g.last, held, g.stops, refl, refl), subst (λ m. IsShallowTo w m) g.stops (g.flat w agree spells))

-- ---- what stands before the last place that was looked at may go on

short_take : (k : ℕ) (tokens : List Token) → length (take k tokens) ≤ k
short_take k tokens = omega (arith, length-take k tokens)

shorter_take : (k : ℕ) (tokens : List Token) → length (take k tokens) ≤ length tokens
shorter_take k tokens = omega (arith, length-take k tokens)

before_is : (text : List ℕ) (tokens : List Token) (k i : ℕ) → i < length (take k tokens) → lexemes text (take k tokens) i ≡ lexemes text tokens i
before_is text tokens k i less = ap (λ (xs : List Lexeme). slice_index_or xs i (ending text)) (sym (take-map (lexeme_of text) k tokens))
    ∙ get_or-take k (map (lexeme_of text) tokens) i (ending text) (omega (arith, short_take k tokens))

whole_goes : (text : List ℕ) (tokens : List Token) (f : File) (mixed : Option ℕ) → IsShallow text tokens → IsSpelled text tokens f mixed → MayGoOn text tokens
whole_goes text tokens f mixed shallow h =
    let both = subst (λ (xs : List Lexeme). IsSpelledBy (λ i. slice_index_or xs i (ending text)) (length tokens + 0) f mixed × IsShallowTo (λ i. slice_index_or xs i (ending text)) (length tokens + 0))
    (sym (append-nil (map (lexeme_of text) tokens)))
    (subst (λ i. IsSpelledBy (lexemes text tokens) i f mixed × IsShallowTo (lexemes text tokens) i) (let e : length tokens ≡ length tokens + 0 = omega arith in e) (h, shallow)) in
    ([], f, mixed, both.0, both.1)

shallow_take : (text : List ℕ) (tokens : List Token) (k : ℕ) → IsShallow text tokens → IsShallow text (take k tokens)
shallow_take text tokens k shallow =
    (stands_agreed (lexemes text tokens) (lexemes text (take k tokens)) (length (take k tokens)) (before_is text tokens k) _ (length (take k tokens)) (omega arith)
    (λ i less. shallow i (let l = shorter_take k tokens in omega arith)) refl).0

before_goes : (text : List ℕ) (tokens : List Token) (turns d k : ℕ) → suc d ≡ 128 → IsShallow text tokens → length tokens < turns → 1 < turns → reading (lexemes text tokens) turns (suc d) ≡ Fail k
    → MayGoOn text (take k tokens)
before_goes text tokens turns d k deep shallow room many e = by_outcome (reading (lexemes text (take k tokens)) turns (suc d)) refl where
  by_place : (i : ℕ) → reading (lexemes text (take k tokens)) turns (suc d) ≡ Fail i → (v : Bool) → nat_lt i (length (take k tokens)) ≡ v → MayGoOn text (take k tokens)
  by_place i f true is =
      let less : i < length (take k tokens) = ltb-true i (length (take k tokens)) is in
      let local = whole_local (lexemes text (take k tokens)) (lexemes text tokens) turns (suc d) in
      let end : horizon (reading (lexemes text (take k tokens)) turns (suc d)) ≡ i = ap (λ r. horizon r) f in
      let same : reading (lexemes text tokens) turns (suc d) ≡ Fail i = local.same (λ j low. sym (before_is text tokens k j (omega arith))) ∙ f in
      let place : i ≡ k = sym (ap (λ r. horizon r) same) ∙ ap (λ r. horizon r) e in
      absurd (omega (arith, short_take k tokens))
  by_place i f false is =
      let far : length (take k tokens) ≤ i = ltb-false i (length (take k tokens)) is in
      ends_early text (take k tokens) turns d i deep (shallow_take text tokens k shallow) (omega (arith, shorter_take k tokens)) many f far

  by_outcome : (o : Outcome FileItems) → reading (lexemes text (take k tokens)) turns (suc d) ≡ o → MayGoOn text (take k tokens)
  by_outcome (Read x m seen) f = whole_goes text (take k tokens) (file_of x m.places) m.mixed (shallow_take text tokens k shallow) (read_is text (take k tokens) turns (suc d) x m seen f)
  by_outcome (Fail i) f = by_place i f (nat_lt i (length (take k tokens))) refl

dead_end : (text : List ℕ) (tokens : List Token) (turns depth k : ℕ) → length tokens < turns → 1 < turns → suc depth ≡ 128
    → reading (lexemes text tokens) turns (suc depth) ≡ Fail k → IsShallow text tokens → IsDeadEnd text tokens (lexemes text tokens k).from
dead_end text tokens turns depth k room many deep e shallow = (shallow, (k, (refl, before_goes text tokens turns depth k deep shallow room many e), λ xs end f mixed ends agree spelled flat. helper xs end f mixed ends agree spelled flat)) where
  helper : (xs : List Lexeme) (end : Lexeme) (f : File) (mixed : Option ℕ) → is_end (form end) ≡ true → ((i : ℕ) → i ≤ k → listed xs end i ≡ lexemes text tokens i)
      → IsSpelledBy (listed xs end) (length xs) f mixed → IsShallowTo (listed xs end) (length xs) → ⊥
  helper xs end f mixed ends agree (b, h, at, places, first) flat =
      let s = lexemes text tokens in let n = length tokens in let w = listed xs end in
      let larger = turns + suc (length xs) in
      let stop : s n ≡ ending text = at_end text tokens n (omega arith) in
      let more : reading s larger (suc depth) ≡ Fail k = sym (whole_steady s n (ap form stop) turns larger room (omega arith) (λ k. k) (λ k. k) (λ k less. refl) (suc depth)) ∙ e in
      let local = whole_local s w larger (suc depth) in
      let last = ap (λ r. horizon r) more in
      let same : reading w larger (suc depth) ≡ Fail k = local.same (λ i less. agree i (omega arith)) ∙ more in
      let room_left = contents_shallow w f.lets f.rules f.loose start b h (subst (λ n. IsShallowTo w n) (sym at) flat) in
      let there : is_end (form (w (length xs))) ≡ true = ap (λ (x : Lexeme). is_end (form x)) (get_or-eq_default xs end (omega arith)) ∙ ends in
      none_given k same (whole_gives w larger depth f.lets f.rules f.loose b (omega arith) (omega arith) h (is_there w (length xs) b at there))

pub dead_end_at : (text : List ℕ) (tokens : List Token) (turns depth k : ℕ) → rules_limit < turns → length tokens ≤ rules_limit → depth ≡ 128
    → reading (lexemes text tokens) turns depth ≡ Fail k → IsShallow text tokens → IsDeadEnd text tokens (lexemes text tokens k).from
dead_end_at text tokens turns zero k room few deep e shallow = absurd (omega arith)
dead_end_at text tokens turns (suc depth) k room few deep e shallow = dead_end text tokens turns depth k (omega arith) (omega arith) deep e shallow

-- ---- dead ends

-- no token before a dead end is one
passed_over : (text : List ℕ) (tokens : List Token) (k j : ℕ) → k < j → k < length tokens → MayGoOn text (take j tokens)
    → ((xs : List Lexeme) (end : Lexeme) (f : File) (mixed : Option ℕ) → is_end (form end) ≡ true → ((i : ℕ) → i ≤ k → listed xs end i ≡ lexemes text tokens i)
    → IsSpelledBy (listed xs end) (length xs) f mixed → IsShallowTo (listed xs end) (length xs) → ⊥)
    → ⊥
passed_over text tokens k j less inside (more, f, mixed, spelled, shallow) none =
    let front = map (lexeme_of text) (take j tokens) in
    let w = going_on text (take j tokens) more in
    let long : length front ≡ length (take j tokens) = length-map (take j tokens) (lexeme_of text) in
    let size : length (take j tokens) + length more ≡ length (front ++ more) = omega (arith, length-append front more) in
    none (front ++ more) (ending text) f mixed refl
    (λ i low. let within : i < length (take j tokens) = omega (arith, length-take j tokens) in get_or-append front more (ending text) i (omega arith) ∙ before_is text tokens j i within)
    (subst (λ n. IsSpelledBy w n f mixed) size spelled) (subst (λ n. IsShallowTo w n) size shallow)

pub one_dead_end_is : (text : List ℕ) (tokens : List Token) (a b : ℕ) → IsDeadEnd text tokens a → IsDeadEnd text tokens b → a ≡ b
one_dead_end_is text tokens a b (shallow, (k, (is, goes), none)) (flat, (j, (there, others), never)) = apart (cases_order k j) where
  same : (i l : ℕ) → length tokens ≤ i → i < l → (lexemes text tokens i).from ≡ (lexemes text tokens l).from
  same i l far less = ap (λ (x : Lexeme). x.from) (at_end text tokens i far ∙ sym (at_end text tokens l (omega arith)))

  first : k < j → (v : Bool) → nat_lt k (length tokens) ≡ v → a ≡ b
  first less true e = absurd (passed_over text tokens k j less (ltb-true k (length tokens) e) others none)
  first less false e = is ∙ same k j (ltb-false k (length tokens) e) less ∙ sym there

  second : j < k → (v : Bool) → nat_lt j (length tokens) ≡ v → a ≡ b
  second less true e = absurd (passed_over text tokens j k less (ltb-true j (length tokens) e) goes never)
  second less false e = is ∙ sym (same j k (ltb-false j (length tokens) e) less) ∙ sym there

  apart : (k ≡ j) ⊎ ((k < j) ⊎ (j < k)) → a ≡ b
  apart (inl e) = is ∙ ap (λ i. (lexemes text tokens i).from) e ∙ sym there
  apart (inr (inl less)) = first less (nat_lt k (length tokens)) refl
  apart (inr (inr less)) = second less (nat_lt j (length tokens)) refl

-- ---- one syntax

given_same : {A : Type 0} {r : Outcome A} {x y : A} {m n : State} → Gives r x m → Gives r y n → (x ≡ y) × (m ≡ n)
given_same {r = Read a st seen} h k = (sym h.given.0 ∙ k.given.0, sym h.given.1 ∙ k.given.1)
given_same {r = Fail seen} h k = absurd h.given

abbrev contents_of : File → FileItems
contents_of f = (f.lets, f.rules, f.loose)

one_file : (f g : File) → contents_of f ≡ contents_of g → f.places ≡ g.places → f ≡ g
one_file f g e p = ap (λ (x : FileItems). file_of x f.places) e ∙ ap (λ x. file_of (contents_of g) x) p

-- tokens have one syntax at most, and one first range with a whole and a decimal bound
pub one_syntax_is : (text : List ℕ) (tokens : List Token) (f g : File) (p q : Option ℕ) → IsSpelled text tokens f p → IsSpelled text tokens g q → (f ≡ g) × (p ≡ q)
one_syntax_is text tokens f g p q (a, h, at, places, first) (b, k, there, others, second) =
    let s = lexemes text tokens in let turns = suc (length tokens) in let depth = max (deep_file f.lets f.rules f.loose) (deep_file g.lets g.rules g.loose) in
    let same = given_same
    (whole_gives s turns depth f.lets f.rules f.loose a (omega arith) (omega arith) h (is_there s (length tokens) a at (ends_there text tokens)))
    (whole_gives s turns depth g.lets g.rules g.loose b (omega arith) (omega arith) k (is_there s (length tokens) b there (ends_there text tokens))) in
    (one_file f g same.0 (places ∙ ap (λ (z : State). z.places) same.1 ∙ sym others), first ∙ ap (λ (z : State). z.mixed) same.1 ∙ sym second)

-- ---- sites

length_upto : (n k : ℕ) → length (upto n k) ≡ k
length_upto n zero = refl
length_upto n (suc k) = ap (λ i. suc i) (length_upto (suc n) k)

-- the sites are the numbers from 0 on, in order, and each has a place
pub sites_are : (text : List ℕ) (tokens : List Token) (f : File) (p : Option ℕ) → IsSpelled text tokens f p → sites_file f ≡ upto 0 (length f.places)
sites_are text tokens f p (b, h, at, places, first) =
    let c = contents_counted (lexemes text tokens) f.lets f.rules f.loose start b h in
    c.numbers ∙ ap (λ i. upto 0 i) (let e = c.more in let l : c.count ≡ length b.places = omega arith in l ∙ ap (λ (z : List ℕ). length z) (sym places))
