-- A longer text, where no carriage return ends this one: what may follow in it at a position makes a document of it, and the other way, where the bytes that are added leave what was read as it is. By the steps of the reader.
use Rattle.std.proofs.Common.{◌≡◌, ℕ, zero, suc, ◌-◌, ◌<◌, ◌≤◌, ◌⊎◌, inl, inr, true, false, List, [], ◌∷◌, ◌++◌, drop, length, refl, sym, ap, ◌∙◌, subst, arith, append_assoc}
use Rattle.std.proofs.lemmas.Str.{IsUtf8-from_ascii, IsUtf8-append}
use Rattle.std.specs.Prelude.{Ok}
use Rattle.std.specs.Str.{IsUtf8, IsCharBoundary}
use Rattle.doc_values.specs.Tree.{Forest}
use Rattle.doc_values.specs.Unfinished.{Unfinished}
use Rattle.yaml_scalars.specs.Lines.{begins_with, each, ends_with}
use Rattle.yaml_scalars.specs.Plain.{is_flow_mark}
use Rattle.yaml_laws.specs.code.Agreement.{AgreesTo}
use Rattle.yaml_laws.specs.code.Refusals.{is_ascii}
use Rattle.yaml_laws.proofs.AgreeLess.{agrees_here}
use Rattle.yaml_grammar.specs.declared.ahead.Token.TheVariants.{End}
use Rattle.yaml_grammar.specs.declared.form.Form.{Form}
use Rattle.yaml_grammar.specs.declared.form.Form.TheVariants.{Root, Flow, FlowTagged, Items, Entries, Tagged}
use Rattle.yaml_grammar.specs.declared.stage.Stage.{Stage}
use Rattle.yaml_grammar.specs.declared.stage.Stage.TheVariants as stage
use Rattle.yaml_grammar.specs.declared.stage.Position.{Position}
use Rattle.yaml_grammar.specs.Ahead.{ahead}
use Rattle.yaml_grammar.specs.Signs.{Tree}
use Rattle.yaml_grammar.specs.Yaml.{IsStart, IsYaml}
use Rattle.yaml_grammar.specs.code.Extends.{root_seen}
use Rattle.yaml_grammar.specs.code.Closers.{closers, in_flow}
use Rattle.yaml_grammar.specs.code.Feeds.{IsFed, FeedsStep}
use Rattle.yaml_grammar.specs.Places.{IsShort}
use Rattle.yaml_grammar.specs.code.Rest.{top}
use Rattle.yaml_grammar.specs.code.Steps.{IsBlock, IsFlow, LiesIn, Nests, Rest, Fits, SameStep, Goes, reached}
use Rattle.yaml_grammar.specs.code.Twins.{IsTwin, settled, Alive}
use Rattle.yaml_grammar.proofs.Completions.{over_of, spent_feed, closes_rest}
use Rattle.yaml_grammar.proofs.DeadPlaces.{parted}
use Rattle.yaml_grammar.proofs.LivesOn.{LivesOn}
use Rattle.yaml_grammar.proofs.ShortTexts.{ascii_bytes, marks_longer}

-- ---- a longer text is the same through the last byte

pub last_byte : (k : ℕ) (xs : List ℕ) (n : ℕ) → suc n ≡ length xs → begins_with k (drop n xs) ≡ ends_with k xs
last_byte k [] n e = absurd (omega (arith, e))
last_byte k (x ∷ []) n e = let z : n ≡ 0 = omega (arith, e) in ap (λ m. begins_with k (drop m (x ∷ []))) z
last_byte k (x ∷ y ∷ xs) zero e = absurd (omega (arith, e))
last_byte k (x ∷ y ∷ xs) (suc n) e = last_byte k (y ∷ xs) n (omega (arith, e))

pub twin_end : (text more : List ℕ) → IsUtf8 text → IsUtf8 (text ++ more) → 0 < length text → ends_with 13 text ≡ false → IsTwin text (length text - 1) (text ++ more)
twin_end text more utf8 long l last = by_front (parted text (length text - 1) (omega (arith, l))) where
  feed : begins_with 13 (drop (length text - 1) text) ≡ false
  feed = last_byte 13 text (length text - 1) (omega (arith, l)) ∙ last

  by_front : (before behind : List ℕ) × (b : ℕ) × (text ≡ before ++ (b ∷ behind)) × (length before ≡ length text - 1) → IsTwin text (length text - 1) (text ++ more)
  by_front (before, behind, b, e, size) =
      let agrees : AgreesTo (length text - 1) text (text ++ more) = (before, behind, behind ++ more, b, e, ap (λ t. t ++ more) e ∙ append_assoc before (b ∷ behind) more, size) in
      record { utf8 = long; marks = marks_longer text more utf8 l; agrees = agrees; breaks = agrees_here (length text - 1) text (text ++ more) agrees feed }

-- so where all that settles how a position was come to lies within the text
pub back : (text : List ℕ) (p : Position) (fs : List Form) (u : Unfinished) → IsUtf8 text → LivesOn text p fs u → (p.stage ≡ stage.Whole → ⊥) → 0 < length text → settled text (in_flow (top fs)) p.stage p.at ≤ length text - 1 → (fs ≡ [] → IsStart text p.at → root_seen text p.at < length text) → ends_with 13 text ≡ false
    → (more : List ℕ) → IsUtf8 (text ++ more) → Alive (text ++ more) (IsYaml (text ++ more)) fs u p
back text p fs u utf8 lives goes l near root last more long = lives goes (length text - 1) (text ++ more) (twin_end text more utf8 long l last) near (λ e s. let z = root e s in omega (arith, z))

-- where an entry may stand between brackets
pub back_entry : (text : List ℕ) (p : Position) (fs : List Form) (u : Unfinished) → IsUtf8 text → LivesOn text p fs u → p.stage ≡ stage.Entry → IsFlow (top fs) → 0 < p.at → p.at ≤ length text → ends_with 13 text ≡ false → (more : List ℕ) → IsUtf8 (text ++ more)
    → Alive (text ++ more) (IsYaml (text ++ more)) fs u p
back_entry text p fs u utf8 lives e flow some low last more long =
    back text p fs u utf8 lives (λ w. entry_whole (sym e ∙ w)) (omega (arith, some, low)) (subst (λ s. settled text (in_flow (top fs)) s p.at ≤ length text - 1) (sym e) (omega (arith, some, low))) (λ n. absurd (subst (λ (x : List Form). IsFlow (top x)) n flow)) last more long where
      entry_whole : stage.Entry ≡ stage.Whole → ⊥
      entry_whole w = absurd (cc)

-- ---- between brackets, a further line behind the text that begins with a bracket or a comma

abbrev pub Grows : List ℕ → Position → List Form → Unfinished → Type 0
Grows text p fs u = (p.stage ≡ stage.Whole → ⊥) → IsFlow (top fs) → ends_with 13 text ≡ false → (other : List ℕ) → IsFed text other → IsUtf8 other → Alive other (IsYaml other) fs u p

pub flow_or_block : (f : Form) → IsFlow f ⊎ IsBlock f
flow_or_block Root = inr tt
flow_or_block (Flow map) = inl tt
flow_or_block (FlowTagged at) = inl tt
flow_or_block (Items m) = inr tt
flow_or_block (Entries m) = inr tt
flow_or_block (Tagged at above shares) = inr tt

pub grows_first : (text : List ℕ) (p : Position) (fs : List Form) (u : Unfinished) → fs ≡ [] → Grows text p fs u
grows_first text p fs u e = λ goes flow. absurd (subst (λ (x : List Form). IsFlow (top x)) e flow)

pub grows_next : (text : List ℕ) (p q : Position) (fs gs : List Form) (u w : Unfinished) → IsUtf8 text → Grows text p fs u → (p.stage ≡ stage.Whole → ⊥) → FeedsStep text p.stage (top fs) p.at gs (Ok q)
    → ((other : List ℕ) → IsUtf8 other → IsCharBoundary other p.at → Fits other p.stage fs u p.at → SameStep text other p.stage (top fs) p.at → Goes other (Rest other p.stage fs u p.at) (reached p.stage p.at) gs w q) → LivesOn text q gs w → q.at ≤ length text → Grows text q gs w
grows_next text p q fs gs u w utf8 grows open_ feeds gives lives low = λ goes flow last other fed long. by_form goes flow last other fed long (flow_or_block (top fs)) where
  by_form : (q.stage ≡ stage.Whole → ⊥) → IsFlow (top gs) → ends_with 13 text ≡ false → (other : List ℕ) → IsFed text other → IsUtf8 other → IsFlow (top fs) ⊎ IsBlock (top fs) → Alive other (IsYaml other) gs w q
  by_form goes flow last other fed long (inl f) =
      let a = grows open_ f last other fed long in
      let g = gives other long a.2 a.1 (feeds.0 f last other fed) in
      (((λ t h. let x = a.0.0 t h in (x.0, (g.0 (Tree x.0)).0 x.1)), (λ y h. a.0.1 y ((g.0 (Tree y)).1 h))), g.1, g.2)
  by_form goes flow last other (c, tail, mark, e) long (inr b) =
      let o = feeds.1 b goes flow in
      subst (λ x. Alive x (IsYaml x) gs w q) (sym e) (back_entry text q gs w utf8 lives o.0 flow o.1 low last (10 ∷ c ∷ tail) (subst IsUtf8 e long))

-- ---- the brackets that lack

tagged_in : (at : ℕ) (g : Form) → LiesIn (FlowTagged at) g → IsFlow g
tagged_in at Root l = l
tagged_in at (Flow map) l = tt
tagged_in at (FlowTagged p) l = absurd l
tagged_in at (Items m) l = l
tagged_in at (Entries m) l = l
tagged_in at (Tagged p above shares) l = l

closers_begin : (fs : List Form) → Nests fs → IsFlow (top fs) → (c : ℕ) × (tail : List ℕ) × (is_flow_mark c ≡ true) × (closers fs ≡ c ∷ tail)
closers_begin [] n f = absurd f
closers_begin (Root ∷ fs) n f = absurd f
closers_begin (Flow true ∷ fs) n f = (125, closers fs, refl, refl)
closers_begin (Flow false ∷ fs) n f = (93, closers fs, refl, refl)
closers_begin (FlowTagged at ∷ fs) (l, s, n) f = closers_begin fs n (tagged_in at (top fs) l)
closers_begin (Items m ∷ fs) n f = absurd f
closers_begin (Entries m ∷ fs) n f = absurd f
closers_begin (Tagged at above shares ∷ fs) n f = absurd f

pub closers_ascii : (fs : List Form) → each is_ascii (closers fs) ≡ true
closers_ascii [] = refl
closers_ascii (Root ∷ fs) = closers_ascii fs
closers_ascii (Flow true ∷ fs) = closers_ascii fs
closers_ascii (Flow false ∷ fs) = closers_ascii fs
closers_ascii (FlowTagged at ∷ fs) = closers_ascii fs
closers_ascii (Items m ∷ fs) = closers_ascii fs
closers_ascii (Entries m ∷ fs) = closers_ascii fs
closers_ascii (Tagged at above shares ∷ fs) = closers_ascii fs

fits_nests : (text : List ℕ) (s : Stage) (fs : List Form) (u : Unfinished) (i : ℕ) → (s ≡ stage.Whole → ⊥) → Fits text s fs u i → Nests fs
fits_nests text stage.Entry fs u i goes f = f.0.1
fits_nests text stage.Value fs u i goes f = f.0.1
fits_nests text stage.After fs u i goes f = f.0.1
fits_nests text stage.Whole fs u i goes f = absurd (goes refl)

-- where nothing is ahead between brackets, a tree follows in some longer text
pub end_follows : (text : List ℕ) (p : Position) (fs : List Form) (u : Unfinished) → IsUtf8 text → Grows text p fs u → (p.stage ≡ stage.Whole → ⊥) → Fits text p.stage fs u p.at → p.at ≤ length text → IsFlow (top fs) → (ahead text true p.at).token ≡ End → ends_with 13 text ≡ false
    → (more : List ℕ) × IsUtf8 (text ++ more) × Alive (text ++ more) (IsYaml (text ++ more)) fs u p × ((g : Forest) × Rest (text ++ more) p.stage fs u p.at (Tree g))
end_follows text p fs u utf8 grows goes fits low flow end last =
    let over = over_of (text ++ (10 ∷ [])) p.at (spent_feed text true p.at low (inl end)) in
    let r = closes_rest (text ++ (10 ∷ [])) text p.stage fs u p.at over (λ e n. subst IsFlow n flow) fits in
    let is : (text ++ (10 ∷ [])) ++ closers fs ≡ text ++ (10 ∷ closers fs) = append_assoc text (10 ∷ []) (closers fs) in
    let b = closers_begin fs (fits_nests text p.stage fs u p.at goes fits) flow in
    let more : List ℕ = 10 ∷ closers fs in
    let long : IsUtf8 (text ++ more) = IsUtf8-append text more utf8 (IsUtf8-from_ascii more (ascii_bytes more (closers_ascii fs))) in
    let a = grows goes flow last (text ++ more) (b.0, b.1, b.2, ap (λ w. text ++ (10 ∷ w)) b.3) long in
    (more, long, a, (r.0, subst (λ w. Rest w p.stage fs u p.at (Tree r.0)) is r.1))

-- so the text is short
pub end_short : (text : List ℕ) (p : Position) (fs : List Form) (u : Unfinished) → IsUtf8 text → Grows text p fs u → (p.stage ≡ stage.Whole → ⊥) → Fits text p.stage fs u p.at → p.at ≤ length text → IsFlow (top fs) → (ahead text true p.at).token ≡ End → ends_with 13 text ≡ false
    → IsShort text (length text)
end_short text p fs u utf8 grows goes fits low flow end last =
    let f = end_follows text p fs u utf8 grows goes fits low flow end last in
    let t = f.2.0.1 f.3.0 f.3.1 in
    (refl, (f.0, t.0, f.1, t.1))
