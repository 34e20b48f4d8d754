-- Where a key comes again, or another document begins in the quotes of a value, in a text that ends in a carriage return and a line feed, no tree follows in a longer text either. By what is read there.
use Rattle.std.proofs.Common.{◌≡◌, ℕ, ◌≤◌, inr, Bool, true, false, cond, List, [], ◌∷◌, ◌++◌, length, refl, sym, ap, ◌∙◌, true≢false}
use Rattle.std.specs.Str.{IsCharBoundary, IsUtf8}
use Rattle.doc_values.specs.declared.builder.BuildRefusal.TheVariants as build
use Rattle.doc_values.specs.Tree.{Forest, has_key}
use Rattle.doc_values.specs.Unfinished.{Unfinished}
use Rattle.yaml_scalars.specs.declared.scalar.Setting.{Setting}
use Rattle.yaml_scalars.specs.Lines.{Stands, Fails, Documents}
use Rattle.yaml_scalars.specs.Scalar.{scalar_at}
use Rattle.yaml_grammar.specs.declared.ahead.Ahead.{Ahead}
use Rattle.yaml_grammar.specs.declared.ahead.Token.{Token}
use Rattle.yaml_grammar.specs.declared.ahead.Token.TheVariants.{End, Closes}
use Rattle.yaml_grammar.specs.declared.form.Form.{Form}
use Rattle.yaml_grammar.specs.declared.form.Form.TheVariants.{Entries, Flow}
use Rattle.yaml_grammar.specs.Ahead.{ahead}
use Rattle.yaml_grammar.specs.Nodes.{as_key, scalar_ahead, starts_scalar}
use Rattle.yaml_grammar.specs.Signs.{DuplicateKey, Sign, Reading, Refused, Tree}
use Rattle.yaml_grammar.specs.code.Rest.{top, Ends, Enters}
use Rattle.yaml_grammar.specs.code.Steps.{Broke, IsSeen, Missed, Open, is_ending}
use Rattle.yaml_grammar.proofs.BlockGains.{entry_refused}
use Rattle.yaml_grammar.proofs.FedTexts.{fed_documents, fed_key, fed_same, in_front}
use Rattle.yaml_grammar.proofs.Gains.{key_refused}
use Rattle.yaml_grammar.proofs.Quiet.{inside_at, word_inside}
use Rattle.yaml_grammar.proofs.SameTexts.{seen_alike}

-- where a sign is all that may follow, no tree follows
pub broke_none : (P : Reading → Type 0) (s : Sign) → Broke P s → (t : Forest) → P (Tree t) → ⊥
broke_none P s b t h = tree_not t s (b.1 (Tree t) h) where
  tree_not : (t : Forest) (s : Sign) → Tree t ≡ Refused s → ⊥
  tree_not t s e = absurd (cc)

starts_some : (t : Token) → starts_scalar t ≡ true → t ≡ End → ⊥
starts_some t s e = true≢false (sym s ∙ ap starts_scalar e)

starts_open : (t : Token) → starts_scalar t ≡ true → t ≡ Closes true → ⊥
starts_open t s e = true≢false (sym s ∙ ap starts_scalar e)

stands_not : (p : ℕ) (t : List ℕ) (e : ℕ) → Fails p ≡ Stands t e → ⊥
stands_not p t e h = absurd (cc)

stands_apart : (p : ℕ) (t : List ℕ) (e : ℕ) → Documents p ≡ Stands t e → ⊥
stands_apart p t e h = absurd (cc)

module _ (front rest : List ℕ) (i : ℕ) (within : i ≤ length (front ++ (13 ∷ 10 ∷ []))) where
  abbrev old : List ℕ
  old = front ++ (13 ∷ 10 ∷ [])

  abbrev new : List ℕ
  new = (front ++ (13 ∷ 10 ∷ [])) ++ rest

  -- the same key stands
  key_stays : (flow : Bool) (t : List ℕ) (e : ℕ) → starts_scalar (ahead old flow i).token ≡ true → scalar_ahead old (as_key flow) (ahead old flow i) ≡ Stands t e → scalar_ahead new (as_key flow) (ahead old flow i) ≡ Stands t e
  key_stays flow t e n h =
      let a = ahead old flow i in
      let here : scalar_at (as_key flow) (front ++ (13 ∷ 10 ∷ [])) (ahead (front ++ (13 ∷ 10 ∷ [])) flow i).at ≡ Stands t e = sym (ap (λ q. cond q (scalar_at (as_key flow) old a.at) (Fails a.at)) n) ∙ h in
      let l = in_front front (as_key flow) a.at (λ p z. stands_not p t e (sym z ∙ here)) in
      ap (λ q. cond q (scalar_at (as_key flow) new a.at) (Fails a.at)) n ∙ fed_key front (as_key flow) a.at rest refl l ∙ here

  -- a key that comes again, between brackets
  pub flow_again : (fs : List Form) (u : Unfinished) (t : List ℕ) (e : ℕ) → starts_scalar (ahead old true i).token ≡ true → scalar_ahead old (as_key true) (ahead old true i) ≡ Stands t e → has_key u.done t ≡ true → top fs ≡ Flow true → Open fs u
      → (tree : Forest) → Enters new fs u.outer u.done i (Tree tree) → ⊥
  flow_again fs u t e n h again form open_ =
      let a = ahead old true i in
      let same = fed_same front rest true i within (starts_some (ahead old true i).token n) in
      broke_none (Enters new fs u.outer u.done i) (DuplicateKey a.at)
      (key_refused new fs u u i e a t (build.DuplicateKey a.at) (sym same) (starts_open a.token n) form open_ (key_stays true t e n h) (inr (refl, again)))

  -- and outside of them
  pub block_again : (column : ℕ) (fs : List Form) (u : Unfinished) (t : List ℕ) (e : ℕ) → IsUtf8 new → IsCharBoundary new i → starts_scalar (ahead old false i).token ≡ true → scalar_ahead old (as_key false) (ahead old false i) ≡ Stands t e → has_key u.done t ≡ true → (ahead old false i).fresh ≡ true
      → (ahead old false i).column ≡ column → top fs ≡ Entries column → Open fs u → (tree : Forest) → Ends new fs u.outer u.done i (Tree tree) → ⊥
  block_again column fs u t e utf8 cut n h again fresh col form open_ =
      let a = ahead old false i in
      let same = fed_same front rest false i within (starts_some (ahead old false i).token n) in
      let seen : IsSeen new false i (ahead old false i) = seen_alike old new false i utf8 cut same in
      let inside = inside_at new i (ap (λ (b : Ahead). is_ending b.token) same ∙ word_inside a.token n) in
      broke_none (Ends new fs u.outer u.done i) (DuplicateKey a.at)
      (entry_refused new column fs u u i e a t (build.DuplicateKey a.at) seen fresh inside form open_ col (key_stays false t e n h) (inr (refl, again)))

  -- no scalar stands where a document begins in its quotes
  pub documents_missed : (s : Setting) (a : Ahead) (p : ℕ) → scalar_ahead old s a ≡ Documents p → Missed new s a
  documents_missed s a p h = by_start (starts_scalar a.token) refl h where
    by_start : (q : Bool) → starts_scalar a.token ≡ q → cond q (scalar_at s old a.at) (Fails a.at) ≡ Documents p → Missed new s a
    by_start false n g = absurd (cc)
    by_start true n g = λ t e st. stands_apart p t e (sym (fed_documents front rest s a.at p g) ∙ sym (ap (λ q. cond q (scalar_at s new a.at) (Fails a.at)) n) ∙ st)
