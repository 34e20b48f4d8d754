-- The texts of the values in a node, one after the other.
use Rattle.std.proofs.Common.{◌≡◌, ℕ, zero, suc, ◌+◌, ◌<◌, ◌≤◌, List, [], ◌++◌, Option, Some, None, MatchOption, option_map, codes, refl, sym, ap, ap₂, ◌∙◌, append_assoc, Bor}
use Rattle.doc_values.specs.Tree.{Label, Forest, Nil, Node, count}
use Rattle.doc_values.specs.Places.{first_label, first_kids, label_at, kids_at}
use Rattle.rule_words.specs.WordText.{entries_text, entry_key, items_text, more_entries_text, more_items_text, value_text}
use Rattle.rule_words.specs.code.Appended.{between, node_text}
use Rattle.rule_words.proofs.InARow.{appended, ended, left, left-more}
use Rattle.rule_words.proofs.NodesWithin.{from_index, index_step, index_end}

abbrev text_of : Label → Forest → List ℕ
text_of l kids = value_text l l.kind (items_text kids) (entries_text kids)

left_items : (i : ℕ) (l : Label) (kids rest : Forest) → left items_text more_items_text i (Node l kids rest) ≡ between i (codes ", ") ++ (text_of l kids ++ more_items_text rest)
left_items zero l kids rest = refl
left_items (suc i) l kids rest = refl

no_items : (i : ℕ) → left items_text more_items_text i Nil ≡ []
no_items zero = refl
no_items (suc i) = refl

pub items-next : (f : Forest) (i : ℕ) (tree : Forest) (place : ℕ) (start old middle new : List ℕ) → i < count f → label_at tree place ≡ first_label (from_index f i) → kids_at tree place ≡ first_kids (from_index f i)
    → middle ≡ old ++ between i (codes ", ") → new ≡ middle ++ node_text tree place → old ++ left items_text more_items_text i (from_index f i) ≡ start
    → new ++ left items_text more_items_text (i + 1) (from_index f (i + 1)) ≡ start
items-next f i tree place start old middle new within label kids first second so =
    let rest = from_index f (i + 1) in
    ap (λ (l : List ℕ). new ++ l) (left-more items_text more_items_text i rest)
    ∙ appended start old middle new (between i (codes ", ")) (node_text tree place) (left items_text more_items_text i (from_index f i)) (more_items_text rest) first second
    (ap (left items_text more_items_text i) (index_step f i within) ∙ left_items i (first_label (from_index f i)) (first_kids (from_index f i)) rest
    ∙ ap (λ (t : List ℕ). between i (codes ", ") ++ (t ++ more_items_text rest)) (sym (ap₂ text_of label kids)))
    so

pub items-end : (f : Forest) (i : ℕ) (start old : List ℕ) → count f ≤ i → old ++ left items_text more_items_text i (from_index f i) ≡ start → old ≡ start
items-end f i start old past so = ended start old (left items_text more_items_text i (from_index f i)) (ap (left items_text more_items_text i) (index_end f i past) ∙ no_items i) so

left_entries : (i : ℕ) (l : Label) (kids rest : Forest) → left entries_text more_entries_text i (Node l kids rest) ≡ between i (codes ", ") ++ ((entry_key l.key ++ text_of l kids) ++ more_entries_text rest)
left_entries zero l kids rest = sym (append_assoc (entry_key l.key) (text_of l kids) (more_entries_text rest))
left_entries (suc i) l kids rest = ap (λ (t : List ℕ). codes ", " ++ t) (sym (append_assoc (entry_key l.key) (text_of l kids) (more_entries_text rest)))

no_entries : (i : ℕ) → left entries_text more_entries_text i Nil ≡ []
no_entries zero = refl
no_entries (suc i) = refl

-- the key that is read
key_read : (o : Option (Bor (List ℕ))) (k : Option (List ℕ)) → MatchOption o (k ≡ None) (λ (b : Bor (List ℕ)). k ≡ Some b.now) → option_map (λ (b : Bor (List ℕ)). b.now) o ≡ k
key_read None k h = sym h
key_read (Some b) k h = sym h

pub entries-next : (f : Forest) (i : ℕ) (tree : Forest) (place : ℕ) (own : Option (Bor (List ℕ))) (start old middle keyed new : List ℕ) → i < count f
    → label_at tree place ≡ first_label (from_index f i) → kids_at tree place ≡ first_kids (from_index f i)
    → MatchOption own ((label_at tree place).key ≡ None) (λ (b : Bor (List ℕ)). (label_at tree place).key ≡ Some b.now)
    → middle ≡ old ++ between i (codes ", ") → keyed ≡ middle ++ entry_key (option_map (λ (b : Bor (List ℕ)). b.now) own) → new ≡ keyed ++ node_text tree place
    → old ++ left entries_text more_entries_text i (from_index f i) ≡ start → new ++ left entries_text more_entries_text (i + 1) (from_index f (i + 1)) ≡ start
entries-next f i tree place own start old middle keyed new within label kids is first second third so =
    let rest = from_index f (i + 1) in
    let key = entry_key (label_at tree place).key in
    ap (λ (l : List ℕ). new ++ l) (left-more entries_text more_entries_text i rest)
    ∙ appended start old middle new (between i (codes ", ")) (key ++ node_text tree place) (left entries_text more_entries_text i (from_index f i)) (more_entries_text rest) first
    (third ∙ ap (λ (l : List ℕ). l ++ node_text tree place) (second ∙ ap (λ (k : Option (List ℕ)). middle ++ entry_key k) (key_read own (label_at tree place).key is)) ∙ append_assoc middle key (node_text tree place))
    (ap (left entries_text more_entries_text i) (index_step f i within) ∙ left_entries i (first_label (from_index f i)) (first_kids (from_index f i)) rest
    ∙ ap₂ (λ (l : Label) (g : Forest). between i (codes ", ") ++ ((entry_key l.key ++ text_of l g) ++ more_entries_text rest)) (sym label) (sym kids))
    so

pub entries-end : (f : Forest) (i : ℕ) (start old : List ℕ) → count f ≤ i → old ++ left entries_text more_entries_text i (from_index f i) ≡ start → old ≡ start
entries-end f i start old past so = ended start old (left entries_text more_entries_text i (from_index f i)) (ap (left entries_text more_entries_text i) (index_end f i past) ∙ no_entries i) so

-- ---- whole trees
