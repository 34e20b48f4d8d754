-- A longer text, where no carriage return ends this one and reading stands behind a node outside of brackets: what may follow there makes a document of it, and the other way. By the steps of the reader.
use Rattle.std.proofs.Common.{◌≡◌, ℕ, ◌+◌, ◌*◌, ◌-◌, ◌<◌, ◌≤◌, ◌⊎◌, inl, inr, Bool, true, false, ◌&&◌, cond, arith, List, [], ◌∷◌, ◌++◌, drop, length, refl, sym, ap, ◌∙◌, subst, true≢false}
use Rattle.std.proofs.lemmas.Bool.Decides.{nat_tests}
use Rattle.std.proofs.lemmas.Str.{IsUtf8-from_ascii, IsUtf8-append}
use Rattle.std.specs.Prelude.{Ok, Err}
use Rattle.std.specs.Str.{IsCharBoundary, IsUtf8}
use Rattle.doc_values.specs.Tree.{Forest}
use Rattle.doc_values.specs.Unfinished.{Unfinished}
use Rattle.yaml_scalars.specs.Lines.{begins_with, ends_with, lead}
use Rattle.yaml_grammar.specs.declared.ahead.Token.{Token}
use Rattle.yaml_grammar.specs.declared.ahead.Token.TheVariants.{End, Dashes, Dots, Dash, Tag, NoTag, Opens, Closes, Comma, Point, Anchor, Percent, Tabbed, Stray, Other}
use Rattle.yaml_grammar.specs.declared.form.Form.{Form}
use Rattle.yaml_grammar.specs.declared.form.Form.TheVariants.{Flow}
use Rattle.yaml_grammar.specs.declared.stage.Stage.{Stage}
use Rattle.yaml_grammar.specs.declared.stage.Stage.TheVariants as stage
use Rattle.yaml_grammar.specs.declared.stage.Position.{Position}
use Rattle.yaml_grammar.specs.declared.stop.Stop.TheVariants as stop
use Rattle.yaml_grammar.specs.Ahead.{begins_letter, ends_tag, is_name, token_of, ahead}
use Rattle.yaml_grammar.specs.Nodes.{as_key, starts_scalar, is_marked}
use Rattle.yaml_grammar.specs.Signs.{Tree}
use Rattle.yaml_grammar.specs.Yaml.{text_start, IsYaml}
use Rattle.yaml_grammar.specs.code.AheadSeen.{ahead_seen, is_told}
use Rattle.yaml_grammar.specs.code.Closers.{in_flow}
use Rattle.yaml_grammar.specs.Places.{IsSyntax}
use Rattle.yaml_grammar.specs.code.Extends.{Comes, ExtendsStep}
use Rattle.yaml_grammar.specs.code.Rest.{top}
use Rattle.yaml_grammar.specs.code.Steps.{IsBehind, IsBlock, IsFlow, Rest, Fits, SameStep, Goes, reached, is_ending}
use Rattle.yaml_grammar.specs.code.Twins.{IsTwin, LengthensAt, Mends, NoRest, Stops, FixesStep, Matches, Alive, settled}
use Rattle.yaml_grammar.proofs.AheadOrder.{seen_least}
use Rattle.yaml_grammar.proofs.Back.{flow_or_block, twin_end}
use Rattle.yaml_grammar.proofs.DeadPlaces.{NoTwin}
use Rattle.yaml_grammar.proofs.EndPlaces.{longer_of}
use Rattle.yaml_grammar.proofs.Extended.{tag_still}
use Rattle.yaml_grammar.proofs.FirstDead.{still_none, IsFirst, first_same}
use Rattle.yaml_grammar.proofs.FirstTokens.{first_mark}
use Rattle.yaml_grammar.proofs.Fixed.{apart, flow_other}
use Rattle.yaml_grammar.proofs.LastBytes.{agrees_longer}
use Rattle.yaml_grammar.proofs.Lengthened.{told_at}
use Rattle.yaml_grammar.proofs.Lives.{none_twin}
use Rattle.yaml_grammar.proofs.LivesOn.{LivesOn, lives_of}
use Rattle.yaml_grammar.proofs.MarkTexts.{twins_dead}
use Rattle.yaml_grammar.proofs.Placed.{placed}
use Rattle.yaml_grammar.proofs.RootLonger.{root_least, told_calm}
use Rattle.yaml_grammar.proofs.Settled.{is_opening, opening_seen, settled_least}
use Rattle.yaml_grammar.proofs.Scalars.{missed_other}
use Rattle.yaml_grammar.proofs.Twins.{twin_ahead, twin_other, twin_quoted}
use Rattle.yaml_grammar.proofs.ShortTexts.{ascii_bytes}
use Rattle.yaml_grammar.proofs.Stopped.{last_return}
use Rattle.yaml_grammar.proofs.SyntaxPlaces.{some_ahead}

-- a longer text is a document where something may follow in it, and the other way; or it is none, and a `!` is ahead
abbrev pub LivesIn : List ℕ → List ℕ → List Form → Unfinished → Position → Type 0
LivesIn text other fs u p = Alive other (IsYaml other) fs u p ⊎ ((begins_with 33 (drop (ahead text false p.at).at text) ≡ true) × ((t : Forest) → IsYaml other t → ⊥))

abbrev pub LivesLonger : List ℕ → Position → List Form → Unfinished → Type 0
LivesLonger text p fs u = p.stage ≡ stage.After → IsBlock (top fs) → ends_with 13 text ≡ false → is_told (ahead text false p.at).token ≡ true → (more : List ℕ) → IsUtf8 (text ++ more) → LivesIn text (text ++ more) fs u p

-- ---- the steps

-- where a closing bracket is ahead in a text that is the same as far as it
shut_same : (text : List ℕ) (place : ℕ) (other : List ℕ) → IsTwin text place other → (f : Form) (i : ℕ) (map : Bool) → IsFlow f → (ahead text true i).token ≡ Closes map → i ≤ length text → ahead_seen text i ≤ place → (ahead text true i).at ≤ place → (s : Stage) → (s ≡ stage.Value → IsBehind f i) → SameStep text other s f i
shut_same text place other m f i map flow t low near here s o = by_stage s o where
  same : ahead other true i ≡ ahead text true i
  same = twin_ahead text place other m true i low near

  begun : i ≤ place
  begun = let z = seen_least text i low in omega (arith, z, near)

  no_tag : (len : ℕ) → (ahead text true i).token ≡ Tag len → ⊥
  no_tag len e = absurd (let z : Closes map ≡ Tag len = sym t ∙ e in cc)

  by_stage : (s : Stage) → (s ≡ stage.Value → IsBehind f i) → SameStep text other s f i
  by_stage stage.Entry o = (
    same,
    (λ h. record {
      scalar = twin_other text place other m (as_key true) (ahead text true i) here (ap starts_scalar t);
      quoted = twin_quoted text place other m (ahead text true i).at here;
      behind = λ x j k. absurd (missed_other text (as_key true) (ahead text true i) (ap starts_scalar t) x j k);
      last = λ x j loose k z c. absurd (missed_other text (as_key true) (ahead text true i) (ap starts_scalar t) x j k);
    }),
    (λ h. flow_other text place other m (Flow false) i (ahead text true i) here begun tt (ap starts_scalar t) (λ len e. absurd (no_tag len e))),
  )
  by_stage stage.Value o = ((λ k. (same, flow_other text place other m f i (ahead text true i) here begun (o refl) (ap starts_scalar t) (λ len e. absurd (no_tag len e)))), (λ b. absurd (apart f b flow)))
  by_stage stage.After o = ((λ k. same), (λ b. absurd (apart f b flow)))
  by_stage stage.Whole o = tt

pub longer_first : (text : List ℕ) (p : Position) (fs : List Form) (u : Unfinished) → (p.stage ≡ stage.After → is_ending (ahead text false p.at).token ≡ true) → LivesLonger text p fs u
longer_first text p fs u ending = λ after block end told. absurd (true≢false (sym (ending after) ∙ (told_calm (ahead text false p.at).token told).0))

-- the same as before
module _ (text : List ℕ) (p q : Position) (fs gs : List Form) (u w : Unfinished) (utf8 : IsUtf8 text) (lives : LivesOn text p fs u) (open_ : p.stage ≡ stage.Whole → ⊥) (fits : Fits text p.stage fs u p.at) (cut : IsCharBoundary text p.at) (cut2 : IsCharBoundary text q.at) (late : text_start text ≤ p.at)
    (fixes : FixesStep text p.stage (top fs) p.at (Ok q)) (extends : ExtendsStep text p.stage fs u p.at gs w (Ok q))
    (gives : (other : List ℕ) → IsUtf8 other → IsCharBoundary other p.at → Fits other p.stage fs u p.at → SameStep text other p.stage (top fs) p.at → Goes other (Rest other p.stage fs u p.at) (reached p.stage p.at) gs w q) where
  next_alive : (other : List ℕ) (n : ℕ) → Alive other (IsYaml other) fs u p → Goes other (Rest other p.stage fs u p.at) n gs w q → Alive other (IsYaml other) gs w q
  next_alive other n a g = (((λ t h. let x = a.0.0 t h in (x.0, (g.0 (Tree x.0)).0 x.1)), (λ y h. a.0.1 y ((g.0 (Tree y)).1 h))), g.1, g.2)

  -- brackets closed
  from_flow : IsFlow (top fs) → IsBlock (top gs) → q.stage ≡ stage.After → ends_with 13 text ≡ false → (more : List ℕ) → IsUtf8 (text ++ more) → LivesIn text (text ++ more) gs w q
  from_flow flow block after end more long =
      let shut = extends.1 flow after block in
      let from = opening_seen text true p.at (ap is_opening shut.1) in
      let there = told_at text true p.at (ap is_told shut.1) in
      let m = twin_end text more utf8 long (omega (arith, there)) end in
      let z = settled_least text (in_flow (top fs)) p.stage p.at cut.0 in
      let a = lives open_ (length text - 1) (text ++ more) m (omega (arith, z, from, there)) (λ e st. let r = root_least text p.at in omega (arith, r, from, there)) in
      let same = shut_same text (length text - 1) (text ++ more) m (top fs) p.at shut.0 flow shut.1 cut.0 (omega (arith, from, there)) (omega (arith, there)) p.stage (λ e. behind e) in
      inl (next_alive (text ++ more) (reached p.stage p.at) a (gives (text ++ more) long a.2 a.1 same)) where
        behind : p.stage ≡ stage.Value → IsBehind (top fs) p.at
        behind e = (subst (λ s. Fits text s fs u p.at) e fits).3

  -- a value of a block
  from_value : IsBlock (top fs) → p.stage ≡ stage.Value → q.stage ≡ stage.After → ends_with 13 text ≡ false → is_told (ahead text false q.at).token ≡ true → (more : List ℕ) → IsUtf8 (text ++ more) → LivesIn text (text ++ more) gs w q
  from_value block value after end told more long =
      let x = (extends.0 block).0 value after end late told in
      let m = twin_end text more utf8 long (omega (arith, there)) end in
      let far : settled text (in_flow (top fs)) p.stage p.at ≤ length text - 1 = subst (λ s. settled text (in_flow (top fs)) s p.at ≤ length text - 1) (sym value) x.0 in
      let a = lives open_ (length text - 1) (text ++ more) m far (λ e st. let z = x.1 e in let r = root_least text p.at in omega (arith, r, z)) in
      let a2 = subst (λ s. Matches (text ++ more) (IsYaml (text ++ more)) s fs u p.at × Fits (text ++ more) s fs u p.at × IsCharBoundary (text ++ more) p.at) value a in
      by_comes a2 (x.2 more long a2.2 a2.1) where
        there : q.at < length text
        there = some_ahead text false q.at cut2.0 (λ e. true≢false (sym told ∙ ap is_told e))

        by_comes : Matches (text ++ more) (IsYaml (text ++ more)) stage.Value fs u p.at × Fits (text ++ more) stage.Value fs u p.at × IsCharBoundary (text ++ more) p.at → Comes text (text ++ more) (λ v. Rest (text ++ more) stage.Value fs u p.at v) (2 * p.at + 1) gs w q → LivesIn text (text ++ more) gs w q
        by_comes a (inl g) = inl (((λ t h. let x = a.0.0 t h in (x.0, (g.0 (Tree x.0)).0 x.1)), (λ y h. a.0.1 y ((g.0 (Tree y)).1 h))), g.1, g.2)
        by_comes a (inr (e, none)) = inr (e, (λ t h. let x = a.0.0 t h in none x.0 x.1))

  pub longer_next : LivesLonger text q gs w
  longer_next = λ after block end told more long. by_form block after end told more long (flow_or_block (top fs)) where
    by_stage : IsBlock (top fs) → q.stage ≡ stage.After → ends_with 13 text ≡ false → is_told (ahead text false q.at).token ≡ true → (more : List ℕ) → IsUtf8 (text ++ more) → (s : Stage) → p.stage ≡ s → LivesIn text (text ++ more) gs w q
    by_stage b after end told more long stage.Entry e = absurd (let f = subst (λ s. Fits text s fs u p.at) e fits in subst IsBlock f.1.1 b)
    by_stage b after end told more long stage.Value e = from_value b e after end told more long
    by_stage b after end told more long stage.After e = absurd ((extends.0 b).1 e after)
    by_stage b after end told more long stage.Whole e = absurd (open_ e)

    by_form : IsBlock (top gs) → q.stage ≡ stage.After → ends_with 13 text ≡ false → is_told (ahead text false q.at).token ≡ true → (more : List ℕ) → IsUtf8 (text ++ more) → IsFlow (top fs) ⊎ IsBlock (top fs) → LivesIn text (text ++ more) gs w q
    by_form block after end told more long (inl f) = from_flow f block after end more long
    by_form block after end told more long (inr b) = by_stage b after end told more long p.stage refl

-- ---- where reading stops behind a node

-- a further entry of a block, or the document's end
abbrev is_quiet : Token → Bool
is_quiet Dash = true
is_quiet End = true
is_quiet Dots = true
is_quiet _ = false

module _ (text : List ℕ) (p : Position) (fs : List Form) (u : Unfinished) (q : ℕ) (utf8 : IsUtf8 text) (lives : LivesOn text p fs u) (longer : LivesLonger text p fs u) (goes : p.stage ≡ stage.Whole → ⊥) (fits : Fits text p.stage fs u p.at) (cut : IsCharBoundary text p.at) (after : p.stage ≡ stage.After) (block : IsBlock (top fs))
    (end : ends_with 13 text ≡ false) (told : is_told (ahead text false p.at).token ≡ true) (stops : Stops text p.at (NoRest p.stage fs u p.at) (Err (stop.Unread q))) (says : LengthensAt text p.stage fs u p.at q) where
  -- no tree follows where a `!` is ahead
  exclaimed_none : (more : List ℕ) → begins_with 33 (drop (ahead text false p.at).at text) ≡ true → (g : Forest) → Rest (text ++ more) p.stage fs u p.at (Tree g) → ⊥
  exclaimed_none more e g rest =
      let h = subst (λ s. Rest (text ++ more) s fs u p.at (Tree g)) after rest in
      still_none (text ++ more) fs u.outer u.done p.at g (tag_still (text ++ more) (ahead (text ++ more) false p.at) (word.0) (λ d. true≢false (sym (ap is_quiet d) ∙ word.1)) fs (subst (λ s. Fits text s fs u p.at) after fits).0.1 block)
      (λ k. true≢false (sym (ap is_quiet k) ∙ word.1)) (λ k. true≢false (sym (ap is_quiet k) ∙ word.1)) h where
        first : IsFirst text (text ++ more) false p.at
        first = first_same text (text ++ more) false p.at (placed text false p.at utf8 cut).0 told (agrees_longer text more (ahead text false p.at).at (told_at text false p.at told))

        byte_is : (b c : ℕ) (xs : List ℕ) → begins_with b xs ≡ true → begins_with c xs ≡ true → b ≡ c
        byte_is b c [] i j = absurd (true≢false (sym i))
        byte_is b c (x ∷ xs) i j = grind (arith, nat_tests)

        quiet_tag : (xs : List ℕ) → (starts_scalar (token_of false (33 ∷ xs)) ≡ false) × (is_quiet (token_of false (33 ∷ xs)) ≡ false)
        quiet_tag xs = by_name (begins_letter xs && ends_tag false (drop (lead is_name xs) xs)) where
          by_name : (r : Bool) → (starts_scalar (cond r (Tag (lead is_name xs)) NoTag) ≡ false) × (is_quiet (cond r (Tag (lead is_name xs)) NoTag) ≡ false)
          by_name true = (refl, refl)
          by_name false = (refl, refl)

        word : (starts_scalar (ahead (text ++ more) false p.at).token ≡ false) × (is_quiet (ahead (text ++ more) false p.at).token ≡ false)
        word = by_same first.same where
          exclaim : first.byte ≡ 33
          exclaim = byte_is first.byte 33 (drop (ahead text false p.at).at text) first.here e

          by_same : ((ahead (text ++ more) false p.at).token ≡ token_of false (first.byte ∷ first.that)) ⊎ (is_marked (ahead (text ++ more) false p.at).token ≡ true) → (starts_scalar (ahead (text ++ more) false p.at).token ≡ false) × (is_quiet (ahead (text ++ more) false p.at).token ≡ false)
          by_same (inl s) =
              let t : (ahead (text ++ more) false p.at).token ≡ token_of false (33 ∷ first.that) = s ∙ ap (λ b. token_of false (b ∷ first.that)) exclaim in
              let z = quiet_tag first.that in
              (ap starts_scalar t ∙ z.0, ap is_quiet t ∙ z.1)
          by_same (inr k) = by_mark (ahead (text ++ more) false p.at).token refl k where
            dotted : (ahead (text ++ more) false p.at).token ≡ Dots → ⊥
            dotted d =
                let m = first_mark (text ++ more) false p.at (ap is_marked d) in
                absurd (let z : first.byte ≡ 46 = byte_is first.byte 46 (drop (ahead (text ++ more) false p.at).at (text ++ more)) first.there (m.2 d) in let y = exclaim in omega (arith, y, z))

            by_mark : (t : Token) → (ahead (text ++ more) false p.at).token ≡ t → is_marked (ahead (text ++ more) false p.at).token ≡ true → (starts_scalar (ahead (text ++ more) false p.at).token ≡ false) × (is_quiet (ahead (text ++ more) false p.at).token ≡ false)
            by_mark Dashes h k = (ap starts_scalar h, ap is_quiet h)
            by_mark Dots h k = absurd (dotted h)
            by_mark End h k = absurd (true≢false (sym k ∙ ap is_marked h))
            by_mark Dash h k = absurd (true≢false (sym k ∙ ap is_marked h))
            by_mark (Tag n) h k = absurd (true≢false (sym k ∙ ap is_marked h))
            by_mark NoTag h k = absurd (true≢false (sym k ∙ ap is_marked h))
            by_mark (Opens b) h k = absurd (true≢false (sym k ∙ ap is_marked h))
            by_mark (Closes b) h k = absurd (true≢false (sym k ∙ ap is_marked h))
            by_mark Comma h k = absurd (true≢false (sym k ∙ ap is_marked h))
            by_mark (Point b) h k = absurd (true≢false (sym k ∙ ap is_marked h))
            by_mark Anchor h k = absurd (true≢false (sym k ∙ ap is_marked h))
            by_mark Percent h k = absurd (true≢false (sym k ∙ ap is_marked h))
            by_mark Tabbed h k = absurd (true≢false (sym k ∙ ap is_marked h))
            by_mark Stray h k = absurd (true≢false (sym k ∙ ap is_marked h))
            by_mark Other h k = absurd (true≢false (sym k ∙ ap is_marked h))

  lives_in : (more : List ℕ) → IsUtf8 (text ++ more) → LivesIn text (text ++ more) fs u p
  lives_in more long = longer after block end told more long

  pub torn_syntax : IsSyntax text q
  torn_syntax = by_stop stops where
    short : q ≡ length text → (m : Mends text p.stage fs u p.at) → LivesIn text (text ++ m.0) fs u p → IsUtf8 (text ++ m.0) → IsSyntax text q
    short e m (inl a) long = let t = a.0.1 m.2 m.3 in inr (e, (m.0, t.0, long, t.1))
    short e m (inr (x, none)) long = absurd (exclaimed_none m.0 x m.2 m.3)

    by_stop : Stops text p.at (NoRest p.stage fs u p.at) (Err (stop.Unread q)) → IsSyntax text q
    by_stop (inl (inl e)) =
        let m = (says end).0 e in
        let long : IsUtf8 (text ++ m.0) = IsUtf8-append text m.0 utf8 (IsUtf8-from_ascii m.0 (ascii_bytes m.0 m.1)) in
        short e m (lives_in m.0 long) long
    by_stop (inl (inr l)) = inl (twins_dead text q q utf8 (let e = l.0 in omega (arith, e)) (inr (refl, last_return text q l.0 end)) none) where
      dead : (more : List ℕ) → IsUtf8 (text ++ more) → (tree : Forest) → IsYaml (text ++ more) tree → LivesIn text (text ++ more) fs u p → ⊥
      dead more long tree y (inl a) = let r = a.0.0 tree y in (says end).1 l more long a.2 a.1 r.0 r.1
      dead more long tree y (inr (x, none)) = none tree y

      none : NoTwin text q
      none other m tree y =
          let w = longer_of text other q l.0 m in
          let long : IsUtf8 (text ++ w.0) = subst IsUtf8 w.1 m.utf8 in
          dead w.0 long tree (subst (λ t. IsYaml t tree) w.1 y) (lives_in w.0 long)
    by_stop (inr (l, (place, past, from, nothing))) = inl (twins_dead text place q utf8 l past (none_twin text p fs u place (lives_of text p fs u cut.0 lives) goes from nothing))
