-- What mends a text that breaks off between brackets: some bytes of ASCII behind it, with which something may follow at the position that is a tree. By the cases of what breaks off.
use Rattle.std.proofs.Common.{◌≡◌, ℕ, ◌<◌, ◌≤◌, inl, true, false, List, [], ◌∷◌, ◌++◌, None, length, refl, sym, subst, append_assoc}
use Rattle.doc_values.specs.Tree.{Forest, has_key}
use Rattle.doc_values.specs.Unfinished.{Level, Unfinished}
use Rattle.yaml_scalars.specs.Lines.{Fails, Stands, each, ends_with}
use Rattle.yaml_scalars.specs.Scalar.{scalar_at}
use Rattle.yaml_laws.specs.code.Refusals.{is_ascii}
use Rattle.yaml_grammar.specs.declared.ahead.Token.TheVariants.{End}
use Rattle.yaml_grammar.specs.declared.form.Form.{Form}
use Rattle.yaml_grammar.specs.declared.form.Form.TheVariants.{Flow}
use Rattle.yaml_grammar.specs.declared.stage.Stage.{Stage}
use Rattle.yaml_grammar.specs.Ahead.{ahead}
use Rattle.yaml_grammar.specs.Nodes.{as_key, scalar_ahead, starts_scalar}
use Rattle.yaml_grammar.specs.Signs.{Tree}
use Rattle.yaml_grammar.specs.code.Closers.{closers}
use Rattle.yaml_grammar.specs.code.Rest.{top, Enters, Awaits}
use Rattle.yaml_grammar.specs.code.Steps.{IsFlow, Agrees, Nests, Open, Rest, Fits}
use Rattle.yaml_grammar.proofs.Back.{closers_ascii}
use Rattle.yaml_grammar.proofs.Completions.{over_of, spent_feed, closes_rest}
use Rattle.yaml_grammar.proofs.FlowKeys.{key_closes}
use Rattle.yaml_grammar.proofs.Forms.{flow_inside, apart_open}
use Rattle.yaml_grammar.proofs.KeysGrown.{flow_key_completes}
use Rattle.yaml_grammar.proofs.Rests.{item_enters}

-- nothing is ahead: a line feed, and the brackets
pub end_mends : (text : List ℕ) (s : Stage) (fs : List Form) (u : Unfinished) (i : ℕ) → Fits text s fs u i → i ≤ length text → IsFlow (top fs) → (ahead text true i).token ≡ End → (more : List ℕ) × (each is_ascii more ≡ true) × (tree : Forest) × Rest (text ++ more) s fs u i (Tree tree)
end_mends text s fs u i fits low flow end =
    let over = over_of (text ++ (10 ∷ [])) i (spent_feed text true i low (inl end)) in
    let r = closes_rest (text ++ (10 ∷ [])) text s fs u i over (λ e n. subst IsFlow n flow) fits in
    (10 ∷ closers fs, closers_ascii fs, r.0, subst (λ w. Rest w s fs u i (Tree r.0)) (append_assoc text (10 ∷ []) (closers fs)) r.1)

-- nothing is ahead behind a key: the same
pub key_mends : (text : List ℕ) (fs : List Form) (u : Unfinished) (i : ℕ) (t : List ℕ) (e : ℕ) → top fs ≡ Flow true → Open fs u → i ≤ length text → ends_with 13 text ≡ false → scalar_ahead text (as_key true) (ahead text true i) ≡ Stands t e → (ahead text true i).at < length text → e ≤ length text → (ahead text true e).token ≡ End
    → has_key u.done t ≡ false → (more : List ℕ) × (each is_ascii more ≡ true) × (tree : Forest) × Enters (text ++ more) fs u.outer u.done i (Tree tree)
key_mends text fs u i t e form open_ low last st within near end fresh = by_forms fs u.outer form open_.0 open_.1 where
  keyed : (gs : List Form) (x : Level) (xs : List Level) → Agrees (Flow true ∷ gs) (x ∷ xs) → Nests (Flow true ∷ gs) → (more : List ℕ) × (each is_ascii more ≡ true) × (tree : Forest) × Enters (text ++ more) (Flow true ∷ gs) (x ∷ xs) u.done i (Tree tree)
  keyed gs x xs a n =
      let fs = Flow true ∷ gs in
      let r = key_closes gs x xs u.done i t e text low last st within near end fresh a n in
      (10 ∷ closers fs, closers_ascii fs, r.0, subst (λ w. Enters w fs (x ∷ xs) u.done i (Tree r.0)) (append_assoc text (10 ∷ []) (closers fs)) r.1)

  by_forms : (fs : List Form) (outer : List Level) → top fs ≡ Flow true → Agrees fs outer → Nests fs → (more : List ℕ) × (each is_ascii more ≡ true) × (tree : Forest) × Enters (text ++ more) fs outer u.done i (Tree tree)
  by_forms [] outer f a n = absurd (apart_open f)
  by_forms (g ∷ gs) [] f a n = absurd a
  by_forms (g ∷ gs) (x ∷ xs) f a n =
      subst (λ h. (more : List ℕ) × (each is_ascii more ≡ true) × (tree : Forest) × Enters (text ++ more) (h ∷ gs) (x ∷ xs) u.done i (Tree tree)) (sym f)
      (keyed gs x xs (subst (λ h. Agrees (h ∷ gs) (x ∷ xs)) f a) (subst (λ h. Nests (h ∷ gs)) f n))

-- a key that breaks off: what completes it to one that none before has, a line feed, and the brackets
pub key_grows : (text : List ℕ) (fs : List Form) (u : Unfinished) (i : ℕ) → top fs ≡ Flow true → Open fs u → i ≤ length text → starts_scalar (ahead text true i).token ≡ true → (ahead text true i).at < length text → ends_with 13 text ≡ false → scalar_at (as_key true) text (ahead text true i).at ≡ Fails (length text)
    → (more : List ℕ) × (each is_ascii more ≡ true) × (tree : Forest) × Enters (text ++ more) fs u.outer u.done i (Tree tree)
key_grows text fs u i form open_ low starts within last fails =
    flow_inside (λ hs xs. Agrees hs xs → Nests hs → (more : List ℕ) × (each is_ascii more ≡ true) × (tree : Forest) × Enters (text ++ more) hs xs u.done i (Tree tree)) true fs u.outer form open_.0
    (λ gs x xs a n. flow_key_completes gs x xs u.done text i low starts within last fails a n) open_.0 open_.1

-- an entry of a list, where a node may stand
pub item_mends : (text : List ℕ) (fs : List Form) (u : Unfinished) (i : ℕ) → top fs ≡ Flow false → Open fs u → (more : List ℕ) × (each is_ascii more ≡ true) × (tree : Forest) × Awaits (text ++ more) fs u.outer u.done None i (Tree tree)
    → (more : List ℕ) × (each is_ascii more ≡ true) × (tree : Forest) × Enters (text ++ more) fs u.outer u.done i (Tree tree)
item_mends text fs u i form open_ (more, ascii, tree, h) = (more, ascii, tree, by_forms fs u.outer form open_.0 h) where
  by_forms : (fs : List Form) (outer : List Level) → top fs ≡ Flow false → Agrees fs outer → Awaits (text ++ more) fs outer u.done None i (Tree tree) → Enters (text ++ more) fs outer u.done i (Tree tree)
  by_forms [] outer f a h = absurd (cc)
  by_forms (g ∷ gs) [] f a h = absurd a
  by_forms (g ∷ gs) (x ∷ xs) f a h =
      subst (λ k. Enters (text ++ more) (k ∷ gs) (x ∷ xs) u.done i (Tree tree)) (sym f)
      (item_enters (text ++ more) false gs x xs u.done i (Tree tree) refl (subst (λ k. Awaits (text ++ more) (k ∷ gs) (x ∷ xs) u.done None i (Tree tree)) f h))
