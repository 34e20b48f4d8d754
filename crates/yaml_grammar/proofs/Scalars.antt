-- Which scalar stands at a token, and its kind.
use Rattle.std.proofs.Common.{◌≡◌, ℕ, suc, ◌+◌, ◌<◌, inl, inr, Bool, true, false, ◌||◌, ◌&&◌, not, cond, List, [], ◌∷◌, drop, length, refl, sym, ap, ◌∙◌, subst, arith, nat_eq, true≢false}
use Rattle.std.specs.Prelude.{Ok, Err}
use Rattle.std.specs.Cow.{cow_str_bytes}
use Rattle.std.proofs.lemmas.List.{drop_all}
use Rattle.doc_values.specs.declared.kind.Kind.{Kind}
use Rattle.doc_values.specs.declared.kind.Kind.TheVariants as kind
use Rattle.doc_values.specs.Tree.{holds_values, has_text}
use Rattle.doc_values.specs.Unfinished.{Unfinished}
use Rattle.yaml_scalars.specs.declared.scalar.Scalar.{Scalar}
use Rattle.yaml_scalars.specs.declared.scalar.Setting.{Setting}
use Rattle.yaml_scalars.specs.declared.scalar.ScalarRefusal.{ScalarRefusal}
use Rattle.yaml_scalars.specs.declared.scalar.ScalarRefusal.TheVariants as refusal
use Rattle.yaml_scalars.specs.Block.{block_on}
use Rattle.yaml_scalars.specs.Lines.{Line, Outcome, Stands, Fails, Documents, lines, begins_with, is_mark, is_cut_mark}
use Rattle.yaml_scalars.specs.Plain.{begins_plain, wrong_begin, plain_len, why, reason, first, plain_on}
use Rattle.yaml_scalars.specs.Quoted.{Part, Closed, Open, Joined, Returned, Refused, line_part, key_part, quoted_on}
use Rattle.yaml_scalars.specs.Scalar.{scalar_at, is_typed, HasKind, Answers, IsEndOf, begins_quoted, begins_block, is_first_column}
use Rattle.yaml_grammar.specs.declared.ahead.Ahead.{Ahead}
use Rattle.yaml_grammar.specs.declared.stop.Stop.{Stop}
use Rattle.yaml_grammar.specs.declared.stop.Stop.TheVariants as stop
use Rattle.yaml_grammar.specs.Nodes.{as_key, starts_scalar, scalar_ahead}
use Rattle.yaml_grammar.specs.code.Refused.{of_scalar}
use Rattle.yaml_grammar.specs.code.StopPlaces.{refused_place}
use Rattle.yaml_grammar.specs.code.Twins.{FailedAt}
use Rattle.yaml_grammar.specs.code.Steps.{Found, Missed, Failed, Finds, Holds, leaf_text}

fails_stands : (at j : ℕ) (t : List ℕ) → Fails at ≡ Stands t j → ⊥
fails_stands at j t e = absurd (cc)

fails_documents : (at p : ℕ) → Fails at ≡ Documents p → ⊥
fails_documents at p e = absurd (cc)

some_bytes : (x : ℕ) (xs : List ℕ) → x ∷ xs ≡ [] → ⊥
some_bytes x xs e = absurd (cc)

-- none at another token
pub missed_other : (text : List ℕ) (s : Setting) (a : Ahead) → starts_scalar a.token ≡ false → Missed text s a
missed_other text s a e = λ t j st. fails_stands a.at j t (sym (ap (λ b. cond b (scalar_at s text a.at) (Fails a.at)) e) ∙ st)

pub failed_other : (text : List ℕ) (s : Setting) (a : Ahead) → starts_scalar a.token ≡ false → Failed text s a
failed_other text s a e = (missed_other text s a e, (λ p h. fails_documents a.at p (sym (ap (λ b. cond b (scalar_at s text a.at) (Fails a.at)) e) ∙ h)))

-- none at the text's end
end_fails : (s : Setting) (size at : ℕ) (fresh : Bool) (d : List ℕ) (t : List ℕ) (j : ℕ) → d ≡ []
    → cond (begins_quoted d) (quoted_on s.one_line size (lines at d)) (cond (begins_block s d) (block_on s.parent size (lines at d)) (plain_on s fresh (lines at d))) ≡ Stands t j → ⊥
end_fails s size at fresh (x ∷ xs) t j e h = some_bytes x xs e
end_fails s size at fresh [] t j e h = by_form (not (s.flow || s.one_line)) fresh h where
  by_form : (b f : Bool) → cond (b && false) (block_on s.parent size (lines at [])) (cond (f && false) (Fails (at + 3)) (Fails at)) ≡ Stands t j → ⊥
  by_form true true g = fails_stands at j t g
  by_form true false g = fails_stands at j t g
  by_form false true g = fails_stands at j t g
  by_form false false g = fails_stands at j t g

end_single : (s : Setting) (size at : ℕ) (fresh : Bool) (d : List ℕ) (p : ℕ) → d ≡ []
    → cond (begins_quoted d) (quoted_on s.one_line size (lines at d)) (cond (begins_block s d) (block_on s.parent size (lines at d)) (plain_on s fresh (lines at d))) ≡ Documents p → ⊥
end_single s size at fresh (x ∷ xs) p e h = some_bytes x xs e
end_single s size at fresh [] p e h = by_form (not (s.flow || s.one_line)) fresh h where
  by_form : (b f : Bool) → cond (b && false) (block_on s.parent size (lines at [])) (cond (f && false) (Fails (at + 3)) (Fails at)) ≡ Documents p → ⊥
  by_form true true g = fails_documents at p g
  by_form true false g = fails_documents at p g
  by_form false true g = fails_documents at p g
  by_form false false g = fails_documents at p g

pub missed_end : (text : List ℕ) (s : Setting) (a : Ahead) → a.at ≡ length text → Missed text s a
missed_end text s a e = λ t j st. by_start t j (starts_scalar a.token) st where
  by_start : (t : List ℕ) (j : ℕ) (q : Bool) → cond q (scalar_at s text a.at) (Fails a.at) ≡ Stands t j → ⊥
  by_start t j true h = end_fails s (length text) a.at (is_first_column text a.at) (drop a.at text) t j (drop_all a.at text (omega (arith, e))) h
  by_start t j false h = fails_stands a.at j t h

pub failed_end : (text : List ℕ) (s : Setting) (a : Ahead) → a.at ≡ length text → Failed text s a
failed_end text s a e = (missed_end text s a e, (λ p h. by_start p (starts_scalar a.token) h)) where
  by_start : (p : ℕ) (q : Bool) → cond q (scalar_at s text a.at) (Fails a.at) ≡ Documents p → ⊥
  by_start p true h = end_single s (length text) a.at (is_first_column text a.at) (drop a.at text) p (drop_all a.at text (omega (arith, e))) h
  by_start p false h = fails_documents a.at p h

-- the one that is read
starts_at : (text : List ℕ) (s : Setting) (a : Ahead) → starts_scalar a.token ≡ true → scalar_ahead text s a ≡ scalar_at s text a.at
starts_at text s a e = ap (λ b. cond b (scalar_at s text a.at) (Fails a.at)) e

pub finds_scalar : (text : List ℕ) (s : Setting) (a : Ahead) (c : Scalar) → starts_scalar a.token ≡ true → Answers (is_typed s text a.at) (scalar_at s text a.at) (Ok c) → IsEndOf text a.at c.end
    → Found text s a (cow_str_bytes c.text) c.kind c.end
finds_scalar text s a c e h b = (starts_at text s a e ∙ h.0, h.1, b.0, b.2)

pub finds_none : (text : List ℕ) (s : Setting) (a : Ahead) (r : ScalarRefusal) (size : ℕ) → starts_scalar a.token ≡ true → Answers (is_typed s text a.at) (scalar_at s text a.at) (Err r) → Finds text s a (Err (of_scalar size r))
finds_none text s a refusal.NoMemory size e h = inl refl
finds_none text s a (refusal.Syntax at) size e h =
    inr (inl ((size, refl), ((λ t j st. fails_stands at j t (sym h ∙ sym (starts_at text s a e) ∙ st)), (λ p d. fails_documents at p (sym h ∙ sym (starts_at text s a e) ∙ d)))))
finds_none text s a (refusal.ManyDocuments at) size e h = inr (inr (at, refl, starts_at text s a e ∙ h))

-- the place where it does not stand
pub refused_at : (text : List ℕ) (s : Setting) (a : Ahead) (place q : ℕ) (r : ScalarRefusal) → starts_scalar a.token ≡ true → a.at < length text → Answers (is_typed s text a.at) (scalar_at s text a.at) (Err r) → place ≡ refused_place text a r → of_scalar place r ≡ stop.Unread q
    → FailedAt text s a q
refused_at text s a place q refusal.NoMemory e l h k z = absurd (cc)
refused_at text s a place q (refusal.Syntax at) e l h k z = let same : place ≡ q = cc in inr (at, l, starts_at text s a e ∙ h, sym same ∙ k)
refused_at text s a place q (refusal.ManyDocuments at) e l h k z = absurd (cc)

-- a key has no mark in it, whatever it ends by: a carriage return, a colon, a comment, another byte or the line's end
-- whether it shows that there are many documents
abbrev is_documents : Outcome → Bool
is_documents (Stands text end) = false
is_documents (Fails at) = false
is_documents (Documents at) = true

none_of_documents : (o : Outcome) (p : ℕ) → o ≡ Documents p → is_documents o ≡ false → ⊥
none_of_documents o p h e = true≢false (sym (ap is_documents h) ∙ e)

key_byte : (flow q r c : Bool) (at : ℕ) (bytes : List ℕ) (ls : List Line) (p : ℕ) → first (as_key flow) (cond q (why (13 ∷ [])) (cond r (why (58 ∷ [])) (cond c (why (35 ∷ [])) (why (0 ∷ []))))) at bytes ls ≡ Documents p → ⊥
key_byte flow true r c at bytes ls p h = none_of_documents _ p h refl
key_byte flow false true c at bytes ls p h = none_of_documents _ p h refl
key_byte flow false false true at bytes ls p h = none_of_documents _ p h refl
key_byte flow false false false at bytes ls p h = none_of_documents _ p h refl

key_rest : (flow : Bool) (rest : List ℕ) (at : ℕ) (bytes : List ℕ) (ls : List Line) (p : ℕ) → first (as_key flow) (why rest) at bytes ls ≡ Documents p → ⊥
key_rest flow [] at bytes ls p h = absurd (cc)
key_rest flow (b ∷ bs) at bytes ls p h = key_byte flow (nat_eq b 13) (nat_eq b 58) (nat_eq b 35) at bytes ls p h

key_plain : (flow fresh : Bool) (ls : List Line) (p : ℕ) → plain_on (as_key flow) fresh ls ≡ Documents p → ⊥
key_plain flow fresh [] p h = absurd (cc)
key_plain flow fresh (l ∷ ls) p h = by_tests (fresh && (is_mark l.bytes || is_cut_mark l.bytes)) (begins_plain flow l.bytes) h where
  by_tests : (m b : Bool) → cond m (Fails (l.at + 3)) (cond b (first (as_key flow) (reason flow l.bytes) l.at l.bytes ls) (Fails (wrong_begin l.at l.bytes))) ≡ Documents p → ⊥
  by_tests true b g = absurd (cc)
  by_tests false true g = key_rest flow (drop (plain_len flow false l.bytes) l.bytes) l.at l.bytes ls p g
  by_tests false false g = absurd (cc)

key_quoted : (size : ℕ) (ls : List Line) (p : ℕ) → quoted_on true size ls ≡ Documents p → ⊥
key_quoted size [] p h = absurd (cc)
key_quoted size (l ∷ ls) p h = by_part (line_part (cond (begins_with 34 l.bytes) 34 39) (suc l.at) 0 [] 0 (drop 1 l.bytes)) h where
  by_part : (x : Part) → key_part x (l.at + length l.bytes) ≡ Documents p → ⊥
  by_part (Closed t e) g = absurd (cc)
  by_part (Open t) g = absurd (cc)
  by_part (Joined t) g = absurd (cc)
  by_part (Returned i) g = absurd (cc)
  by_part (Refused i) g = absurd (cc)

key_at : (flow : Bool) (text : List ℕ) (at p : ℕ) → scalar_at (as_key flow) text at ≡ Documents p → ⊥
key_at true text at p h = by_quote (begins_quoted (drop at text)) h where
  by_quote : (q : Bool) → cond q (quoted_on true (length text) (lines at (drop at text))) (plain_on (as_key true) (is_first_column text at) (lines at (drop at text))) ≡ Documents p → ⊥
  by_quote true g = key_quoted (length text) (lines at (drop at text)) p g
  by_quote false g = key_plain true (is_first_column text at) (lines at (drop at text)) p g
key_at false text at p h = by_quote (begins_quoted (drop at text)) h where
  by_quote : (q : Bool) → cond q (quoted_on true (length text) (lines at (drop at text))) (plain_on (as_key false) (is_first_column text at) (lines at (drop at text))) ≡ Documents p → ⊥
  by_quote true g = key_quoted (length text) (lines at (drop at text)) p g
  by_quote false g = key_plain false (is_first_column text at) (lines at (drop at text)) p g

pub key_single : (flow : Bool) (text : List ℕ) (a : Ahead) (p : ℕ) → scalar_ahead text (as_key flow) a ≡ Documents p → ⊥
key_single flow text a p h = by_start (starts_scalar a.token) h where
  by_start : (q : Bool) → cond q (scalar_at (as_key flow) text a.at) (Fails a.at) ≡ Documents p → ⊥
  by_start true g = key_at flow text a.at p g
  by_start false g = fails_documents a.at p g

-- ---- kinds

abbrev IsLeaf : Kind → Type 0
IsLeaf k = (holds_values k ≡ false) × (has_text k ≡ true → k ≡ kind.Text)

pub scalar_kind : (typed : Bool) (t : List ℕ) (k : Kind) → HasKind typed t k → IsLeaf k
scalar_kind false t k h = subst IsLeaf (sym h) (refl, λ e. refl)
scalar_kind true t kind.Null h = (refl, λ e. absurd (cc))
scalar_kind true t (kind.Truth b) h = (refl, λ e. absurd (cc))
scalar_kind true t (kind.Whole n) h = (refl, λ e. absurd (cc))
scalar_kind true t (kind.Fraction d) h = (refl, λ e. absurd (cc))
scalar_kind true t kind.Text h = (refl, λ e. refl)
scalar_kind true t kind.List h = absurd h
scalar_kind true t kind.Map h = absurd h
scalar_kind true t kind.Pattern h = absurd h
scalar_kind true t (kind.Limits r) h = absurd h

pub no_text : (k : Kind) (t : List ℕ) → has_text k ≡ false → leaf_text k t ≡ []
no_text k t e = ap (λ b. cond b t []) e

pub texts_kept : (k : Kind) (t : List ℕ) → k ≡ kind.Text → leaf_text k t ≡ t
texts_kept k t e = ap (λ (q : Kind). cond (has_text q) t []) e

pub other_kept : (k : Kind) (t : List ℕ) → (has_text k ≡ true → k ≡ kind.Text) → (k ≡ kind.Text → ⊥) → leaf_text k t ≡ []
other_kept k t h n = by_text (has_text k) refl where
  by_text : (q : Bool) → has_text k ≡ q → cond q t [] ≡ []
  by_text true e = absurd (n (h e))
  by_text false e = refl

-- what is no scalar becomes no value
pub holds_none : (text : List ℕ) (s : Setting) (cuts : Bool) (a : Ahead) (u w : Unfinished) (r : Stop) → Finds text s a (Err r) → Holds text s cuts a u w (Err r)
holds_none text s cuts a u w r (inl h) = inl h
holds_none text s cuts a u w r (inr (inl h)) = inr (inl h)
holds_none text s cuts a u w r (inr (inr h)) = inr (inr (inl h))
