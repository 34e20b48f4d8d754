-- A text has one tree or one refusal in a format, but for the place where it is no document of YAML, where the laws of the reader of JSON hold of it. By the cases of
-- the refusals.
use Rattle.std.proofs.Common.{◌≡◌, ◌⊎◌, ℕ, List, Some, None, inl, inr, refl, sym, ap, ◌∙◌}
use Rattle.std.proofs.lemmas.Option.{some_pair_parts}
use Rattle.doc_values.specs.Tree.{Forest}
use Rattle.json_reader.specs.Json.{Json}
use Rattle.json_reader.specs.Refusals.{IsRefused}
use Rattle.json_reader.specs.declared.refusal.JsonRefusal.{JsonRefusal}
use Rattle.yaml_grammar.specs.Answers.{IsSignOf, IsUnread, Reads, Refuses}
use Rattle.yaml_grammar.specs.Places.{IsSyntax}
use Rattle.yaml_grammar.specs.Signs.{Sign}
use Rattle.yaml_grammar.specs.Signs as sign
use Rattle.yaml_grammar.specs.Yaml.{Counts}
use Rattle.yaml_grammar.specs.declared.refusal.YamlRefusal.{YamlRefusal}
use Rattle.yaml_grammar.specs.declared.refusal.YamlRefusal.TheVariants as yaml
use Rattle.guard_ends.specs.End.{AreSameButPlace, ReadAsYaml}
use Rattle.guard_ends.specs.Order.{refused}
use Rattle.guard_ends.specs.Inputs.{IsTreeOf, RefusesJson, RefusesTree, json_kind, of_yaml}
use Rattle.guard_ends.specs.declared.ends.Refusal.{Refusal}
use Rattle.guard_ends.specs.declared.ends.Refusal.TheVariants.{At}
use Rattle.guard_ends.specs.declared.ends.RefusalKind.{RefusalKind}
use Rattle.guard_ends.specs.declared.ends.RefusalKind.TheVariants.{Syntax, TooDeep, DuplicateKey, Tab, Anchor, Tag, Directive, ManyDocuments}
use Rattle.guard_ends.specs.declared.ends.Which.{Which}
use Rattle.guard_ends.specs.declared.format.Format.{Format}
use Rattle.guard_ends.specs.declared.format.Format.TheVariants as format

-- the text of a file in this format, which is YAML
abbrev pub IsText : Which → Format → List ℕ → ReadAsYaml
IsText which f text w bytes = (w ≡ which) × (bytes ≡ text) × (f ≡ format.Yaml)

-- of two trees, of two refusals, and of a tree and a refusal
pub record OneText (f : Format) (text : List ℕ) : Type 0 where
  pub tree : (a b : Forest) → IsTreeOf f text a → IsTreeOf f text b → a ≡ b
  pub refusal : (which : Which) (r q : Refusal) → RefusesTree which f text r → RefusesTree which f text q
      → AreSameButPlace (IsText which f text) (refused text r) (refused text q)
  pub apart : (which : Which) (r : Refusal) (tree : Forest) → RefusesTree which f text r → IsTreeOf f text tree → ⊥

-- what the laws of the reader of JSON say of a text
pub record JsonLaws (text : List ℕ) : Type 0 where
  pub tree : (a b : Forest) → Json text a → Json text b → a ≡ b
  pub refusal : (d e : JsonRefusal) → IsRefused text d → IsRefused text e → d ≡ e
  pub apart : (e : JsonRefusal) (tree : Forest) → IsRefused text e → Json text tree → ⊥

json-one : (text : List ℕ) → JsonLaws text → (kind : RefusalKind) (at : ℕ) (other : RefusalKind) (place : ℕ) → RefusesJson text kind at
    → RefusesJson text other place → (kind ≡ other) × (at ≡ place)
json-one text laws kind at other place (r, is, h) (q, is', h') =
    some_pair_parts kind other at place (sym is ∙ (ap json_kind (laws.refusal r q h h') ∙ is'))

json-same : (text : List ℕ) → JsonLaws text → (which : Which) (r q : Refusal) → RefusesTree which format.Json text r → RefusesTree which format.Json text q → r ≡ q
json-same text laws which r q (kind, at, is, h) (other, place, is', h') =
    let same = json-one text laws kind at other place h h' in
    is ∙ (ap (λ k. At which k at None) same.0 ∙ (ap (λ a. At which other a None) same.1 ∙ sym is'))

json-apart : (text : List ℕ) → JsonLaws text → (which : Which) (r : Refusal) (tree : Forest) → RefusesTree which format.Json text r → Json text tree → ⊥
json-apart text laws which r tree (kind, at, is, (refusal, named, h)) whole = laws.apart refusal tree h whole

-- the refusal of a file by a sign
abbrev of_sign : Which → Sign → Refusal
of_sign which (sign.Tab at) = At which Tab at None
of_sign which (sign.Anchor at) = At which Anchor at None
of_sign which (sign.Tag at) = At which Tag at None
of_sign which (sign.Directive at) = At which Directive at None
of_sign which (sign.ManyDocuments at) = At which ManyDocuments at None
of_sign which (sign.DuplicateKey at) = At which DuplicateKey at None
of_sign which (sign.TooDeep at) = At which TooDeep at None

-- a refusal of YAML says that no sign counts, and a place at which the text is no document; or that one does, the only one
abbrev IsSaid : Which → List ℕ → Refusal → Type 0
IsSaid which text refusal =
    ((at : ℕ) × (refusal ≡ At which Syntax at None) × IsUnread text × IsSyntax text at)
    ⊎ ((s : Sign) × (refusal ≡ of_sign which s) × IsSignOf text s)

refusal-one : (r q : Refusal) → Some r ≡ Some q → q ≡ r
refusal-one r q same = cc

yaml-said : (which : Which) (text : List ℕ) (r : YamlRefusal) (refusal : Refusal) → of_yaml which r ≡ Some refusal → Refuses text r → IsSaid which text refusal
yaml-said which text (yaml.Syntax at) refusal named h = inl (at, refusal-one (At which Syntax at None) refusal named, h.0, h.1)
yaml-said which text (yaml.DuplicateKey at) refusal named h = inr (sign.DuplicateKey at, refusal-one (of_sign which (sign.DuplicateKey at)) refusal named, h)
yaml-said which text (yaml.TooDeep at) refusal named h = inr (sign.TooDeep at, refusal-one (of_sign which (sign.TooDeep at)) refusal named, h)
yaml-said which text (yaml.Tab at) refusal named h = inr (sign.Tab at, refusal-one (of_sign which (sign.Tab at)) refusal named, h)
yaml-said which text (yaml.Anchor at) refusal named h = inr (sign.Anchor at, refusal-one (of_sign which (sign.Anchor at)) refusal named, h)
yaml-said which text (yaml.Tag at) refusal named h = inr (sign.Tag at, refusal-one (of_sign which (sign.Tag at)) refusal named, h)
yaml-said which text (yaml.Directive at) refusal named h = inr (sign.Directive at, refusal-one (of_sign which (sign.Directive at)) refusal named, h)
yaml-said which text (yaml.ManyDocuments at) refusal named h = inr (sign.ManyDocuments at, refusal-one (of_sign which (sign.ManyDocuments at)) refusal named, h)
yaml-said which text yaml.NoMemory refusal named h = absurd cc

said-one : (which : Which) (text : List ℕ) (r q : Refusal) → IsSaid which text r → IsSaid which text q
    → AreSameButPlace (IsText which format.Yaml text) (refused text r) (refused text q)
said-one which text r q (inl (at, is, unread, shown)) (inl (place, is', unread', shown')) =
    inr (record {
      which = which;
      bytes = text;
      read = (refl, refl, refl);
      at = at;
      place = place;
      shown = shown;
      shown_too = shown';
      first = ap (refused text) is;
      second = ap (refused text) is';
    })
said-one which text r q (inl (at, is, unread, shown)) (inr (s, is', h)) = absurd (unread.0 s h.0)
said-one which text r q (inr (s, is, h)) (inl (place, is', unread, shown)) = absurd (unread.0 s h.0)
said-one which text r q (inr (s, is, h)) (inr (z, is', h')) = inl (ap (refused text) (is ∙ (ap (of_sign which) (sym (h.1 z h'.0)) ∙ sym is')))

said-apart : (which : Which) (text : List ℕ) (r : Refusal) (tree : Forest) → IsSaid which text r → Reads text tree → ⊥
said-apart which text r tree (inl (at, is, unread, shown)) read = unread.1 tree read.0
said-apart which text r tree (inr (s, is, h)) read = h.2 tree read.0

yaml-same : (text : List ℕ) (which : Which) (r q : Refusal) → RefusesTree which format.Yaml text r → RefusesTree which format.Yaml text q
    → AreSameButPlace (IsText which format.Yaml text) (refused text r) (refused text q)
yaml-same text which r q (y, named, h) (z, named', h') = said-one which text r q (yaml-said which text y r named h) (yaml-said which text z q named' h')

yaml-apart : (text : List ℕ) (which : Which) (r : Refusal) (tree : Forest) → RefusesTree which format.Yaml text r → Reads text tree → ⊥
yaml-apart text which r tree (y, named, h) read = said-apart which text r tree (yaml-said which text y r named h) read

yaml-tree : (text : List ℕ) (a b : Forest) → Reads text a → Reads text b → a ≡ b
yaml-tree text a b read read' = read'.1 a read.0

pub text-one : (f : Format) (text : List ℕ) → JsonLaws text → OneText f text
text-one format.Json text laws = record { tree = laws.tree; refusal = λ which r q h h'. inl (ap (refused text) (json-same text laws which r q h h')); apart = json-apart text laws }
text-one format.Yaml text laws = record { tree = yaml-tree text; refusal = yaml-same text; apart = yaml-apart text }
