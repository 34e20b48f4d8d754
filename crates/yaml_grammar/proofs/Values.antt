-- What makes a document of a text that breaks off in a scalar, where a value may stand: bytes that complete the scalar so that it ends with the text, and brackets.
use Rattle.std.proofs.Common.{◌≡◌, ℕ, zero, suc, ◌+◌, ◌-◌, ◌<◌, ◌≤◌, ◌⊎◌, inl, inr, Bool, true, false, ◌||◌, not, cond, nat_eq, nat_lt, nat_le, arith, List, [], ◌∷◌, ◌++◌, Option, take, drop, length, refl, sym, ap, ◌∙◌, subst, true≢false, append_assoc, append-nil, length-append, length-drop}
use Rattle.std.proofs.lemmas.Bool.Decides.{nat_tests}
use Rattle.std.proofs.lemmas.List.{take-append-le}
use Rattle.std.specs.List.{position_or_len}
use Rattle.std.specs.Str.{bytes_eq}
use Rattle.doc_values.specs.declared.kind.Kind.{Kind}
use Rattle.doc_values.specs.declared.kind.Kind.TheVariants as kind
use Rattle.doc_values.specs.Tree.{Forest}
use Rattle.doc_values.specs.Unfinished.{Level}
use Rattle.yaml_scalars.specs.declared.scalar.Setting.{Setting}
use Rattle.yaml_scalars.specs.Lines.{Stands, Fails, ends_with, each, is_blank, newlines}
use Rattle.yaml_scalars.specs.Plain.{is_flow_mark}
use Rattle.yaml_scalars.specs.Scalar.{begins_quoted, begins_block, scalar_at, is_typed, HasKind}
use Rattle.yaml_scalars.specs.code.Walk.{has_break, behind}
use Rattle.yaml_laws.specs.code.Refusals.{is_ascii}
use Rattle.yaml_laws.specs.code.Endings.{last_mark, further_line}
use Rattle.yaml_laws.proofs.Agree.{drop_before}
use Rattle.yaml_laws.specs.code.Dots.{is_dotless}
use Rattle.yaml_laws.proofs.Dotless.{undotted_grown}
use Rattle.yaml_laws.proofs.Longer.{no_feed}
use Rattle.yaml_laws.proofs.BlockFed.{block_returned_ends, header_ends}
use Rattle.yaml_laws.proofs.PlainFed.{ascii_spaces, scalar_fed}
use Rattle.yaml_laws.proofs.PlainPointed.{scalar_pointed}
use Rattle.yaml_laws.proofs.ScalarEnds.{scalar_grown, quoted_fed}
use Rattle.yaml_laws.proofs.ScalarFollowed.{feed_none, quoted_longer, block_longer, flow_closed}
use Rattle.yaml_scalars.specs.Plain.{above_of}
use Rattle.yaml_grammar.specs.declared.ahead.Ahead.{Ahead}
use Rattle.yaml_grammar.specs.declared.form.Form.{Form}
use Rattle.yaml_grammar.specs.declared.form.Form.TheVariants.{Root, Flow, FlowTagged, Items, Entries, Tagged}
use Rattle.yaml_grammar.specs.Ahead.{ahead}
use Rattle.yaml_grammar.specs.Blocks.{takes_scalar}
use Rattle.yaml_grammar.specs.Nodes.{setting_of, tag_name, get_att, follows_get_att, is_cut, is_dot, starts_scalar, scalar_ahead}
use Rattle.yaml_grammar.specs.Signs.{Tree}
use Rattle.yaml_grammar.specs.code.Closers.{closers, in_flow, HasRoom, IsUncut, MayBegin, MendsValue}
use Rattle.yaml_grammar.specs.code.Rest.{top, Awaits}
use Rattle.yaml_grammar.specs.code.Steps.{Agrees, Nests, IsBlock}
use Rattle.yaml_grammar.proofs.AheadFed.{ahead_broken, returned_ahead, starts_some}
use Rattle.yaml_grammar.proofs.AheadLonger.{BothBegin, both_same, ahead_longer}
use Rattle.yaml_grammar.proofs.Continuations.{block_closers, scalar_completes}
use Rattle.yaml_grammar.proofs.LetterKinds.{letter_kind}

-- ---- newlines have no dot

newlines_whole : (k : ℕ) → position_or_len is_dot (newlines k) ≡ length (newlines k)
newlines_whole zero = refl
newlines_whole (suc k) = let e = newlines_whole k in omega (arith, e)

pub lines_uncut : (c : Bool) (k : ℕ) → is_cut c kind.Text (newlines k) ≡ false
lines_uncut false k = refl
lines_uncut true k = less_not (position_or_len is_dot (newlines k)) (length (newlines k)) (newlines_whole k) where
  less_not : (m n : ℕ) → m ≡ n → nat_lt m n ≡ false
  less_not m n e = grind (arith, nat_tests, e)

free_whole : (t : List ℕ) → each is_dotless t ≡ true → position_or_len is_dot t ≡ length t
free_whole [] h = refl
free_whole (b ∷ t) h = by_byte (nat_eq b 46) refl h (λ i. free_whole t i) where
  by_byte : (q : Bool) → nat_eq b 46 ≡ q → cond (not q) (each is_dotless t) false ≡ true → (each is_dotless t ≡ true → position_or_len is_dot t ≡ length t) → position_or_len is_dot (b ∷ t) ≡ suc (length t)
  by_byte true e h r = absurd (true≢false (sym h))
  by_byte false e h r = ap (λ q. cond (not q) (1 + position_or_len is_dot t) 0) e ∙ (let z = r h in omega (arith, z))

pub free_uncut : (c : Bool) (t : List ℕ) → each is_dotless t ≡ true → is_cut c kind.Text t ≡ false
free_uncut false t h = refl
free_uncut true t h = less_not (position_or_len is_dot t) (length t) (free_whole t h) where
  less_not : (m n : ℕ) → m ≡ n → nat_lt m n ≡ false
  less_not m n e = grind (arith, nat_tests, e)

-- ---- closing brackets

pub closers_break : (fs : List Form) → has_break (closers fs) ≡ false
closers_break [] = refl
closers_break (Root ∷ fs) = closers_break fs
closers_break (Flow true ∷ fs) = closers_break fs
closers_break (Flow false ∷ fs) = closers_break fs
closers_break (FlowTagged at ∷ fs) = closers_break fs
closers_break (Items m ∷ fs) = closers_break fs
closers_break (Entries m ∷ fs) = closers_break fs
closers_break (Tagged at above shares ∷ fs) = closers_break fs

pub closers_ascii : (fs : List Form) → each is_ascii (closers fs) ≡ true
closers_ascii [] = refl
closers_ascii (Root ∷ fs) = closers_ascii fs
closers_ascii (Flow true ∷ fs) = closers_ascii fs
closers_ascii (Flow false ∷ fs) = closers_ascii fs
closers_ascii (FlowTagged at ∷ fs) = closers_ascii fs
closers_ascii (Items m ∷ fs) = closers_ascii fs
closers_ascii (Entries m ∷ fs) = closers_ascii fs
closers_ascii (Tagged at above shares ∷ fs) = closers_ascii fs

abbrev Brackets : List ℕ → Type 0
Brackets w = (w ≡ []) ⊎ ((c : ℕ) × (v : List ℕ) × (w ≡ c ∷ v) × (is_flow_mark c ≡ true) × (has_break v ≡ false))

brackets_of : (fs : List Form) → Brackets (closers fs)
brackets_of [] = inl refl
brackets_of (Root ∷ fs) = brackets_of fs
brackets_of (Flow true ∷ fs) = inr (125, closers fs, refl, refl, closers_break fs)
brackets_of (Flow false ∷ fs) = inr (93, closers fs, refl, refl, closers_break fs)
brackets_of (FlowTagged at ∷ fs) = brackets_of fs
brackets_of (Items m ∷ fs) = brackets_of fs
brackets_of (Entries m ∷ fs) = brackets_of fs
brackets_of (Tagged at above shares ∷ fs) = brackets_of fs

pub each_append : (v w : List ℕ) → each is_ascii v ≡ true → each is_ascii w ≡ true → each is_ascii (v ++ w) ≡ true
each_append [] w h g = g
each_append (b ∷ v) w h g = by_byte (is_ascii b) h (λ i. each_append v w i g) where
  by_byte : (q : Bool) → cond q (each is_ascii v) false ≡ true → (each is_ascii v ≡ true → each is_ascii (v ++ w) ≡ true) → cond q (each is_ascii (v ++ w)) false ≡ true
  by_byte true h r = r h
  by_byte false h r = absurd (true≢false (sym h))

feed_append : (v w : List ℕ) → no_feed v ≡ true → no_feed w ≡ true → no_feed (v ++ w) ≡ true
feed_append [] w h g = g
feed_append (b ∷ v) w h g = by_byte (nat_eq b 10) h (λ i. feed_append v w i g) where
  by_byte : (q : Bool) → cond q false (no_feed v) ≡ true → (no_feed v ≡ true → no_feed (v ++ w) ≡ true) → cond q false (no_feed (v ++ w)) ≡ true
  by_byte true h r = absurd (true≢false (sym h))
  by_byte false h r = r h

-- ---- what is told by a token's place alone

pub takes_alike : (f : Form) (a b : Ahead) → b.fresh ≡ a.fresh → b.column ≡ a.column → takes_scalar f b ≡ takes_scalar f a
takes_alike Root a b e c = e
takes_alike (Flow map) a b e c = refl
takes_alike (FlowTagged at) a b e c = refl
takes_alike (Items m) a b e c = ap (λ q. not q || nat_lt m b.column) e ∙ ap (λ n. not a.fresh || nat_lt m n) c
takes_alike (Entries m) a b e c = ap (λ q. not q || nat_lt m b.column) e ∙ ap (λ n. not a.fresh || nat_lt m n) c
takes_alike (Tagged at above shares) a b e c = ap (λ q. not q || nat_le above b.column) e ∙ ap (λ n. not a.fresh || nat_le above n) c

-- ---- texts with more behind

name_longer : (text w : List ℕ) (at i : ℕ) → i ≤ length text → tag_name (text ++ w) at i ≡ tag_name text at i
name_longer text w at i low = by_test (nat_lt (length text) (at + 1)) refl where
  by_test : (q : Bool) → nat_lt (length text) (at + 1) ≡ q → tag_name (text ++ w) at i ≡ tag_name text at i
  by_test true e =
      let past : length text < at + 1 = grind (arith, nat_tests, e) in
      let none : i - (at + 1) ≡ 0 = omega (arith, past, low) in
      ap (λ n. take n (drop (at + 1) (text ++ w))) none ∙ sym (ap (λ n. take n (drop (at + 1) text)) none)
  by_test false e =
      let within : at + 1 ≤ length text = grind (arith, nat_tests, e) in
      ap (take (i - (at + 1))) (drop_before (at + 1) text w within) ∙ take-append-le (i - (at + 1)) (drop (at + 1) text) w (omega (arith, low, within, length-drop (at + 1) text))

pub cuts_longer : (text w : List ℕ) (f : Form) (i : ℕ) → i ≤ length text → follows_get_att (text ++ w) f i ≡ follows_get_att text f i
cuts_longer text w Root i low = refl
cuts_longer text w (Flow map) i low = refl
cuts_longer text w (FlowTagged at) i low = ap (λ n. bytes_eq n get_att) (name_longer text w at i low)
cuts_longer text w (Items m) i low = refl
cuts_longer text w (Entries m) i low = refl
cuts_longer text w (Tagged at above shares) i low = ap (λ n. bytes_eq n get_att) (name_longer text w at i low)

typed_longer : (s : Setting) (text w : List ℕ) (at : ℕ) → at < length text → is_typed s (text ++ w) at ≡ is_typed s text at
typed_longer s text w at l = ap (λ q. not (s.one_line || (q || begins_block s (drop at (text ++ w))))) (quoted_longer text w at l) ∙ ap (λ q. not (s.one_line || (begins_quoted (drop at text) || q))) (block_longer s text w at l)

untyped : (s : Setting) (text : List ℕ) (at : ℕ) → (begins_quoted (drop at text) || begins_block s (drop at text)) ≡ true → is_typed s text at ≡ false
untyped s text at h = ap (λ q. not (s.one_line || q)) h ∙ by_one s.one_line where
  by_one : (o : Bool) → not (o || true) ≡ false
  by_one true = refl
  by_one false = refl

closed_flow : (s : Setting) (text w : List ℕ) (at : ℕ) (t : List ℕ) → s.flow ≡ true → at < length text → Brackets w → scalar_at s text at ≡ Stands t (length text) → scalar_at s (text ++ w) at ≡ Stands t (length text)
closed_flow s text w at t flow l (inl e) h = ap (λ y. scalar_at s (text ++ y) at) e ∙ ap (λ y. scalar_at s y at) (append-nil text) ∙ h
closed_flow s text w at t flow l (inr (c, v, e, mark, one)) h = ap (λ y. scalar_at s (text ++ y) at) e ∙ flow_closed s text c v at t flow mark one l h

closed_scalar : (f : Form) (text : List ℕ) (fs : List Form) (at : ℕ) (t : List ℕ) → at < length text → (IsBlock f → closers fs ≡ []) → scalar_at (setting_of f) text at ≡ Stands t (length text) → scalar_at (setting_of f) (text ++ closers fs) at ≡ Stands t (length text)
closed_scalar f text fs at t l none h = by_form f none h where
  block : (s : Setting) → closers fs ≡ [] → scalar_at s text at ≡ Stands t (length text) → scalar_at s (text ++ closers fs) at ≡ Stands t (length text)
  block s e h = ap (λ y. scalar_at s (text ++ y) at) e ∙ ap (λ y. scalar_at s y at) (append-nil text) ∙ h

  by_form : (f : Form) → (IsBlock f → closers fs ≡ []) → scalar_at (setting_of f) text at ≡ Stands t (length text) → scalar_at (setting_of f) (text ++ closers fs) at ≡ Stands t (length text)
  by_form Root none h = block (setting_of Root) (none tt) h
  by_form (Flow map) none h = closed_flow (setting_of (Flow map)) text (closers fs) at t refl l (brackets_of fs) h
  by_form (FlowTagged p) none h = closed_flow (setting_of (FlowTagged p)) text (closers fs) at t refl l (brackets_of fs) h
  by_form (Items m) none h = block (setting_of (Items m)) (none tt) h
  by_form (Entries m) none h = block (setting_of (Entries m)) (none tt) h
  by_form (Tagged p above shares) none h = block (setting_of (Tagged p above shares)) (none tt) h

-- ---- a value

module _ (fs : List Form) (outer : List Level) (done : Forest) (key : Option (List ℕ)) (i : ℕ) (agrees : Agrees fs outer) (nests : Nests fs) where
  abbrev s : Setting
  s = setting_of (top fs)

  abbrev flow : Bool
  flow = in_flow (top fs)

  -- a document where reading stands
  abbrev Follows : List ℕ → Type 0
  Follows text = (tree : Forest) × Awaits text fs outer done key i (Tree tree)

  -- a scalar ends with a text, and brackets stand behind it
  pub ends_value : (text : List ℕ) (a : Ahead) (t : List ℕ) (k : Kind) → i ≤ length text → a.at < length text → BothBegin a (ahead (text ++ closers fs) flow i) → MayBegin (top fs) a → scalar_at s text a.at ≡ Stands t (length text) → HasKind (is_typed s text a.at) t k
      → (is_cut (follows_get_att text (top fs) i) k t ≡ true → length outer < 128) → Follows (text ++ closers fs)
  ends_value text a t k low l both may h has room =
      let new = text ++ closers fs in
      let there : (ahead (text ++ closers fs) flow i).at ≡ a.at = both.0 in
      let scalar = closed_scalar (top fs) text fs a.at t l (block_closers fs nests) h in
      let stands : scalar_ahead (text ++ closers fs) s (ahead (text ++ closers fs) flow i) ≡ Stands t (length text) =
      ap (λ q. cond q (scalar_at s new (ahead new flow i).at) (Fails (ahead new flow i).at)) both.3 ∙ ap (scalar_at s new) there ∙ scalar in
      let typed : is_typed s (text ++ closers fs) (ahead (text ++ closers fs) flow i).at ≡ is_typed s text a.at = ap (is_typed s new) there ∙ typed_longer s text (closers fs) a.at l in
      scalar_completes text fs outer done key i t k agrees nests (λ b. takes_alike (top fs) a (ahead new flow i) both.1 both.2 ∙ may b) stands (subst (λ q. HasKind q t k) (sym typed) has)
      (λ e. room (sym (ap (λ q. is_cut q k t) (cuts_longer text (closers fs) (top fs) i low)) ∙ e))

  -- a text, quoted or with a letter at its end
  text_kind : (text : List ℕ) (at : ℕ) (t : List ℕ) → (begins_quoted (drop at text) ≡ true) ⊎ (ends_with 97 t ≡ true) → HasKind (is_typed s text at) t kind.Text
  text_kind text at t (inl q) = subst (λ b. HasKind b t kind.Text) (sym (untyped s text at (ap (λ b. b || begins_block s (drop at text)) q))) refl
  text_kind text at t (inr e) = letter_kind (is_typed s text at) t e

  cut_left : (c : Bool) (t : List ℕ) → is_cut c kind.Text t ≡ true → c ≡ true
  cut_left true t h = refl
  cut_left false t h = absurd (true≢false (sym h))

  -- no carriage return ends the text
  pub value_grown : (text : List ℕ) → i ≤ length text → MayBegin (top fs) (ahead text flow i) → starts_scalar (ahead text flow i).token ≡ true → (ahead text flow i).at < length text → begins_block s (drop (ahead text flow i).at text) ≡ false → ends_with 13 text ≡ false
      → scalar_at s text (ahead text flow i).at ≡ Fails (length text) → (follows_get_att text (top fs) i ≡ true → HasRoom text (ahead text flow i).at (length outer)) → MendsValue text fs outer done key i
  value_grown text low may starts l block last h room =
      let a = ahead text flow i in
      let g = scalar_grown s text a.at l block last h in
      let c = g.0 in
      let v = g.1 in
      let t = g.2 in
      let new : (text ++ (c ∷ v)) ++ closers fs ≡ text ++ ((c ∷ v) ++ closers fs) = append_assoc text (c ∷ v) (closers fs) in
      let size = length-append text (c ∷ v) in
      let both = ahead_longer c (v ++ closers fs) g.3 flow text i low (feed_append v (closers fs) g.4 (feed_none (closers fs) (closers_break fs))) starts in
      let r =
      ends_value (text ++ (c ∷ v)) a t kind.Text (omega (arith, low, size)) (omega (arith, l, size)) (subst (λ y. BothBegin a (ahead y flow i)) (sym new) both) may g.6
      (text_kind (text ++ (c ∷ v)) a.at t (elim g.7 [ inl q ↦ inl (quoted_longer text (c ∷ v) a.at l ∙ q) | inr e ↦ inr e ]))
      (λ e. elim (room (sym (cuts_longer text (c ∷ v) (top fs) i low) ∙ cut_left (follows_get_att (text ++ (c ∷ v)) (top fs) i) t e)) [
        | inl m ↦ m
        | inr u ↦ absurd (true≢false (sym e ∙ free_uncut (follows_get_att (text ++ (c ∷ v)) (top fs) i) t (undotted_grown s text a.at (c ∷ v) t (length (text ++ (c ∷ v))) l block u g.8 g.6)))
      ]) in
      let y = subst Follows new r in
      ((c ∷ v) ++ closers fs, each_append (c ∷ v) (closers fs) g.5 (closers_ascii fs), y.0, y.1)

  -- one does, and these bytes behind a line feed complete the scalar
  ends_fed : (front w : List ℕ) (t : List ℕ) → i ≤ length front → MayBegin (top fs) (ahead (front ++ (13 ∷ [])) flow i) → starts_scalar (ahead (front ++ (13 ∷ [])) flow i).token ≡ true → (ahead (front ++ (13 ∷ [])) flow i).at < length front → IsUncut (front ++ (13 ∷ [])) (ahead (front ++ (13 ∷ [])) flow i)
      → each is_ascii w ≡ true → scalar_at s (front ++ (13 ∷ 10 ∷ w)) (ahead (front ++ (13 ∷ [])) flow i).at ≡ Stands t (length (front ++ (13 ∷ 10 ∷ w))) → HasKind (is_typed s (front ++ (13 ∷ 10 ∷ w)) (ahead (front ++ (13 ∷ [])) flow i).at) t kind.Text
      → (follows_get_att (front ++ (13 ∷ [])) (top fs) i ≡ true → length outer < 128) → MendsValue (front ++ (13 ∷ [])) fs outer done key i
  ends_fed front w t low may starts l uncut small h has room =
      let text = front ++ (13 ∷ []) in
      let a = ahead (front ++ (13 ∷ [])) flow i in
      let one = returned_ahead front flow i low starts uncut in
      let long = front ++ (13 ∷ 10 ∷ w) in
      let size = length-append front (13 ∷ 10 ∷ w) in
      let size1 = length-append front (13 ∷ []) in
      let new : (front ++ (13 ∷ 10 ∷ w)) ++ closers fs ≡ front ++ (13 ∷ 10 ∷ (w ++ closers fs)) = append_assoc front (13 ∷ 10 ∷ w) (closers fs) in
      let back : front ++ (13 ∷ 10 ∷ (w ++ closers fs)) ≡ (front ++ (13 ∷ [])) ++ (10 ∷ (w ++ closers fs)) = sym (append_assoc front (13 ∷ []) (10 ∷ (w ++ closers fs))) in
      let two : ahead (front ++ (13 ∷ 10 ∷ (w ++ closers fs))) flow i ≡ ahead front flow i = ahead_broken front (w ++ closers fs) flow i low (starts_some (ahead front flow i).token one.3) in
      let both : BothBegin a (ahead ((front ++ (13 ∷ 10 ∷ w)) ++ closers fs) flow i) = subst (λ y. BothBegin a (ahead y flow i)) (sym new) (subst (BothBegin a) (sym two) one) in
      let cuts : follows_get_att (front ++ (13 ∷ 10 ∷ w)) (top fs) i ≡ follows_get_att (front ++ (13 ∷ [])) (top fs) i = cuts_longer front (13 ∷ 10 ∷ w) (top fs) i low ∙ sym (cuts_longer front (13 ∷ []) (top fs) i low) in
      let r = ends_value (front ++ (13 ∷ 10 ∷ w)) a t kind.Text (omega (arith, low, size)) (omega (arith, l, size)) both may h has (λ e. room (sym cuts ∙ cut_left (follows_get_att (front ++ (13 ∷ 10 ∷ w)) (top fs) i) t e)) in
      let y = subst Follows (new ∙ back) r in
      (10 ∷ (w ++ closers fs), each_append w (closers fs) small (closers_ascii fs), y.0, y.1)

  -- a plain one goes on over a further line
  pub value_plain : (front : List ℕ) → i ≤ length front → MayBegin (top fs) (ahead (front ++ (13 ∷ [])) flow i) → starts_scalar (ahead (front ++ (13 ∷ [])) flow i).token ≡ true → (ahead (front ++ (13 ∷ [])) flow i).at < length front → IsUncut (front ++ (13 ∷ [])) (ahead (front ++ (13 ∷ [])) flow i)
      → begins_quoted (drop (ahead (front ++ (13 ∷ [])) flow i).at (front ++ (13 ∷ []))) ≡ false → begins_block s (drop (ahead (front ++ (13 ∷ [])) flow i).at (front ++ (13 ∷ []))) ≡ false → ends_with 58 front ≡ false
      → last_mark (behind (ahead (front ++ (13 ∷ [])) flow i).at (drop (ahead (front ++ (13 ∷ [])) flow i).at front)) ≡ false → scalar_at s (front ++ (13 ∷ [])) (ahead (front ++ (13 ∷ [])) flow i).at ≡ Fails (length (front ++ (13 ∷ [])))
      → (follows_get_att (front ++ (13 ∷ [])) (top fs) i ≡ true → length outer < 128) → MendsValue (front ++ (13 ∷ [])) fs outer done key i
  value_plain front low may starts l uncut q b colon mark h room =
      let a = ahead (front ++ (13 ∷ [])) flow i in
      let z = scalar_fed s front a.at (omega (arith, l)) (one_line (top fs)) q b colon mark h in
      ends_fed front (further_line s) (z.0 ++ (97 ∷ [])) low may starts l uncut (ascii_spaces (above_of s.parent)) z.1 (text_kind (front ++ (13 ∷ 10 ∷ further_line s)) a.at (z.0 ++ (97 ∷ [])) (inr (letter_last z.0))) room where
        one_line : (f : Form) → (setting_of f).one_line ≡ false
        one_line Root = refl
        one_line (Flow map) = refl
        one_line (FlowTagged at) = refl
        one_line (Items m) = refl
        one_line (Entries m) = refl
        one_line (Tagged at above shares) = refl

        letter_last : (g : List ℕ) → ends_with 97 (g ++ (97 ∷ [])) ≡ true
        letter_last [] = refl
        letter_last (c ∷ []) = refl
        letter_last (c ∷ d ∷ g) = letter_last (d ∷ g)

  -- a quoted one is closed on a further line
  pub value_quoted : (front : List ℕ) → i ≤ length front → MayBegin (top fs) (ahead (front ++ (13 ∷ [])) flow i) → starts_scalar (ahead (front ++ (13 ∷ [])) flow i).token ≡ true → (ahead (front ++ (13 ∷ [])) flow i).at < length front → IsUncut (front ++ (13 ∷ [])) (ahead (front ++ (13 ∷ [])) flow i)
      → begins_quoted (drop (ahead (front ++ (13 ∷ [])) flow i).at (front ++ (13 ∷ []))) ≡ true → scalar_at s (front ++ (13 ∷ [])) (ahead (front ++ (13 ∷ [])) flow i).at ≡ Fails (length (front ++ (13 ∷ [])))
      → (follows_get_att (front ++ (13 ∷ [])) (top fs) i ≡ true → length outer < 128) → MendsValue (front ++ (13 ∷ [])) fs outer done key i
  value_quoted front low may starts l uncut q h room =
      let a = ahead (front ++ (13 ∷ [])) flow i in
      let z = quoted_fed s front a.at (omega (arith, l)) q h in
      let front_quoted : begins_quoted (drop a.at front) ≡ true = sym (quoted_longer front (13 ∷ []) a.at l) ∙ q in
      ends_fed front (z.0 ∷ []) z.1 low may starts l uncut (ap (λ p. cond p true false) z.2) z.4 (text_kind (front ++ (13 ∷ 10 ∷ z.0 ∷ [])) a.at z.1 (inl (quoted_longer front (13 ∷ 10 ∷ z.0 ∷ []) a.at l ∙ front_quoted))) room

  -- a block scalar ends with the break
  pub value_block : (front : List ℕ) → i ≤ length front → MayBegin (top fs) (ahead (front ++ (13 ∷ [])) flow i) → starts_scalar (ahead (front ++ (13 ∷ [])) flow i).token ≡ true → (ahead (front ++ (13 ∷ [])) flow i).at < length front → IsUncut (front ++ (13 ∷ [])) (ahead (front ++ (13 ∷ [])) flow i)
      → begins_quoted (drop (ahead (front ++ (13 ∷ [])) flow i).at (front ++ (13 ∷ []))) ≡ false → begins_block s (drop (ahead (front ++ (13 ∷ [])) flow i).at (front ++ (13 ∷ []))) ≡ true
      → last_mark (behind (ahead (front ++ (13 ∷ [])) flow i).at (drop (ahead (front ++ (13 ∷ [])) flow i).at front)) ≡ false → scalar_at s (front ++ (13 ∷ [])) (ahead (front ++ (13 ∷ [])) flow i).at ≡ Fails (length (front ++ (13 ∷ [])))
      → (follows_get_att (front ++ (13 ∷ [])) (top fs) i ≡ true → length outer < 128) → MendsValue (front ++ (13 ∷ [])) fs outer done key i
  value_block front low may starts l uncut q b mark h room =
      let a = ahead (front ++ (13 ∷ [])) flow i in
      let z = block_returned_ends s front a.at (omega (arith, l)) q b mark h in
      let front_block : begins_block s (drop a.at front) ≡ true = sym (block_longer s front (13 ∷ []) a.at l) ∙ b in
      let here : begins_block s (drop a.at (front ++ (13 ∷ 10 ∷ []))) ≡ true = block_longer s front (13 ∷ 10 ∷ []) a.at l ∙ front_block in
      ends_fed front [] z.0 low may starts l uncut refl z.1
      (subst (λ q. HasKind q z.0 kind.Text) (sym (untyped s (front ++ (13 ∷ 10 ∷ [])) a.at (ap (λ q. begins_quoted (drop a.at (front ++ (13 ∷ 10 ∷ []))) || q) here ∙ any (begins_quoted (drop a.at (front ++ (13 ∷ 10 ∷ []))))))) refl) room where
        any : (q : Bool) → (q || true) ≡ true
        any true = refl
        any false = refl

  -- a plain one on one line ends at a colon that ends the text: it goes on over the colon
  pub value_pointed : (front : List ℕ) (t : List ℕ) (n : ℕ) → i ≤ length front → MayBegin (top fs) (ahead (front ++ (58 ∷ [])) flow i) → starts_scalar (ahead (front ++ (58 ∷ [])) flow i).token ≡ true → (ahead (front ++ (58 ∷ [])) flow i).at ≤ length front → has_break (drop (ahead (front ++ (58 ∷ [])) flow i).at front) ≡ false
      → begins_quoted (drop (ahead (front ++ (58 ∷ [])) flow i).at (front ++ (58 ∷ []))) ≡ false → begins_block s (drop (ahead (front ++ (58 ∷ [])) flow i).at (front ++ (58 ∷ []))) ≡ false → (ahead (front ++ (58 ∷ [])) flow i).at + n ≤ length front
      → is_blank (drop ((ahead (front ++ (58 ∷ [])) flow i).at + n) front) ≡ true → scalar_at s (front ++ (58 ∷ [])) (ahead (front ++ (58 ∷ [])) flow i).at ≡ Stands t ((ahead (front ++ (58 ∷ [])) flow i).at + n)
      → (follows_get_att (front ++ (58 ∷ [])) (top fs) i ≡ true → length outer < 128) → MendsValue (front ++ (58 ∷ [])) fs outer done key i
  value_pointed front t n low may starts l one q b near white h room =
      let text = front ++ (58 ∷ []) in
      let a = ahead (front ++ (58 ∷ [])) flow i in
      let z = scalar_pointed s front a.at t n l (feed_none (drop a.at front) one) q b near white h in
      let is : (front ++ (58 ∷ [])) ++ (97 ∷ []) ≡ front ++ (58 ∷ 97 ∷ []) = append_assoc front (58 ∷ []) (97 ∷ []) in
      let new : ((front ++ (58 ∷ [])) ++ (97 ∷ [])) ++ closers fs ≡ (front ++ (58 ∷ [])) ++ (97 ∷ closers fs) = append_assoc (front ++ (58 ∷ [])) (97 ∷ []) (closers fs) in
      let size1 = length-append front (58 ∷ []) in
      let size = length-append (front ++ (58 ∷ [])) (97 ∷ []) in
      let both = ahead_longer 97 (closers fs) refl flow text i (omega (arith, low, size1)) (feed_none (closers fs) (closers_break fs)) starts in
      let stands : scalar_at s ((front ++ (58 ∷ [])) ++ (97 ∷ [])) a.at ≡ Stands (z.0 ++ (97 ∷ [])) (length ((front ++ (58 ∷ [])) ++ (97 ∷ []))) = ap (λ y. scalar_at s y a.at) is ∙ z.1 ∙ ap (Stands (z.0 ++ (97 ∷ []))) (sym (ap (λ (y : List ℕ). length y) is)) in
      let r =
      ends_value ((front ++ (58 ∷ [])) ++ (97 ∷ [])) a (z.0 ++ (97 ∷ [])) kind.Text (omega (arith, low, size1, size)) (omega (arith, l, size1, size)) (subst (λ y. BothBegin a (ahead y flow i)) (sym new) both) may stands
      (text_kind ((front ++ (58 ∷ [])) ++ (97 ∷ [])) a.at (z.0 ++ (97 ∷ [])) (inr (ends_letter z.0)))
      (λ e. room (sym (cuts_longer text (97 ∷ []) (top fs) i (omega (arith, low, size1))) ∙ cut_left (follows_get_att ((front ++ (58 ∷ [])) ++ (97 ∷ [])) (top fs) i) (z.0 ++ (97 ∷ [])) e)) in
      let y = subst Follows new r in
      (97 ∷ closers fs, closers_ascii fs, y.0, y.1) where
        ends_letter : (g : List ℕ) → ends_with 97 (g ++ (97 ∷ [])) ≡ true
        ends_letter [] = refl
        ends_letter (c ∷ []) = refl
        ends_letter (c ∷ d ∷ g) = ends_letter (d ∷ g)

  -- a block scalar's header that the text ends
  pub value_header : (text : List ℕ) → i ≤ length text → MayBegin (top fs) (ahead text flow i) → starts_scalar (ahead text flow i).token ≡ true → (ahead text flow i).at < length text → begins_quoted (drop (ahead text flow i).at text) ≡ false → begins_block s (drop (ahead text flow i).at text) ≡ true
      → ends_with 13 (drop (ahead text flow i).at text) ≡ false → has_break (drop (ahead text flow i).at text) ≡ false → scalar_at s text (ahead text flow i).at ≡ Fails (length text) → MendsValue text fs outer done key i
  value_header text low may starts l q b last one h =
      let a = ahead text flow i in
      let z = header_ends s text a.at l q b last (feed_none (drop a.at text) one) h in
      let size = length-append text (13 ∷ 10 ∷ []) in
      let new : (text ++ (13 ∷ 10 ∷ [])) ++ closers fs ≡ text ++ (13 ∷ 10 ∷ closers fs) = append_assoc text (13 ∷ 10 ∷ []) (closers fs) in
      let same : ahead (text ++ (13 ∷ 10 ∷ closers fs)) flow i ≡ ahead text flow i = ahead_broken text (closers fs) flow i low (starts_some a.token starts) in
      let both : BothBegin a (ahead ((text ++ (13 ∷ 10 ∷ [])) ++ closers fs) flow i) = subst (λ y. BothBegin a (ahead y flow i)) (sym new) (subst (BothBegin a) (sym same) (both_same a starts)) in
      let here : begins_block s (drop a.at (text ++ (13 ∷ 10 ∷ []))) ≡ true = block_longer s text (13 ∷ 10 ∷ []) a.at l ∙ b in
      let r =
      ends_value (text ++ (13 ∷ 10 ∷ [])) a [] kind.Text (omega (arith, low, size)) (omega (arith, l, size)) both may z
      (subst (λ q. HasKind q [] kind.Text) (sym (untyped s (text ++ (13 ∷ 10 ∷ [])) a.at (ap (λ q. begins_quoted (drop a.at (text ++ (13 ∷ 10 ∷ []))) || q) here ∙ any (begins_quoted (drop a.at (text ++ (13 ∷ 10 ∷ []))))))) refl)
      (λ e. absurd (true≢false (sym e ∙ lines_uncut (follows_get_att (text ++ (13 ∷ 10 ∷ [])) (top fs) i) 0))) in
      let y = subst Follows new r in
      (13 ∷ 10 ∷ closers fs, closers_ascii fs, y.0, y.1) where
        any : (q : Bool) → (q || true) ≡ true
        any true = refl
        any false = refl

  -- the same, with the place of the scalar by a name
  pub value_pointed_at : (text front : List ℕ) (t : List ℕ) (n start : ℕ) → text ≡ front ++ (58 ∷ []) → i ≤ length front → (ahead text flow i).at ≡ start → MayBegin (top fs) (ahead text flow i) → starts_scalar (ahead text flow i).token ≡ true → start ≤ length front → has_break (drop start front) ≡ false → begins_quoted (drop start text) ≡ false
      → begins_block s (drop start text) ≡ false → start + n ≤ length front → is_blank (drop (start + n) front) ≡ true → scalar_at s text start ≡ Stands t (start + n) → (follows_get_att text (top fs) i ≡ true → length outer < 128) → MendsValue text fs outer done key i
  value_pointed_at text front t n start whole low is =
      subst (λ k. MayBegin (top fs) (ahead text flow i) → starts_scalar (ahead text flow i).token ≡ true → k ≤ length front → has_break (drop k front) ≡ false → begins_quoted (drop k text) ≡ false → begins_block s (drop k text) ≡ false → k + n ≤ length front → is_blank (drop (k + n) front) ≡ true
      → scalar_at s text k ≡ Stands t (k + n) → (follows_get_att text (top fs) i ≡ true → length outer < 128) → MendsValue text fs outer done key i) is
      (subst (λ (w : List ℕ). MayBegin (top fs) (ahead w flow i) → starts_scalar (ahead w flow i).token ≡ true → (ahead w flow i).at ≤ length front → has_break (drop (ahead w flow i).at front) ≡ false → begins_quoted (drop (ahead w flow i).at w) ≡ false → begins_block s (drop (ahead w flow i).at w) ≡ false
      → (ahead w flow i).at + n ≤ length front → is_blank (drop ((ahead w flow i).at + n) front) ≡ true → scalar_at s w (ahead w flow i).at ≡ Stands t ((ahead w flow i).at + n) → (follows_get_att w (top fs) i ≡ true → length outer < 128) → MendsValue w fs outer done key i) (sym whole) (value_pointed front t n low))

  pub value_header_at : (text : List ℕ) (start : ℕ) → i ≤ length text → (ahead text flow i).at ≡ start → MayBegin (top fs) (ahead text flow i) → starts_scalar (ahead text flow i).token ≡ true → (ahead text flow i).at < length text → begins_quoted (drop start text) ≡ false → begins_block s (drop start text) ≡ true
      → ends_with 13 (drop start text) ≡ false → has_break (drop start text) ≡ false → scalar_at s text (ahead text flow i).at ≡ Fails (length text) → MendsValue text fs outer done key i
  value_header_at text start low is may starts l =
      subst (λ k. begins_quoted (drop k text) ≡ false → begins_block s (drop k text) ≡ true → ends_with 13 (drop k text) ≡ false → has_break (drop k text) ≡ false → scalar_at s text (ahead text flow i).at ≡ Fails (length text) → MendsValue text fs outer done key i) is
      (value_header text low may starts l)
