-- A template, or parameters, have one tree or one refusal in their format, but for a place of YAML, where their text has; and so has the data
-- tree that they become one end. By the cases of the refusals and of the order of work.
use Rattle.std.proofs.Common.{◌≡◌, ◌⊎◌, ◌≤◌, ℕ, List, Option, Some, None, Bool, true, false, length, arith, inl, inr, refl, sym, ap, ◌∙◌, subst, IsUtf8}
use Rattle.std.proofs.lemmas.Bool.{true≢false}
use Rattle.std.proofs.lemmas.Option.{none-some, same_Some}
use Rattle.doc_values.specs.Limits.{template_limit}
use Rattle.doc_values.specs.Places.{first_kids, first_label}
use Rattle.doc_values.specs.Tree.{Forest, size}
use Rattle.guard_syntax.specs.Syntax.{File}
use Rattle.rule_meaning.specs.Locations.{Answers}
use Rattle.query_steps.proofs.LocatedAnswers.{one-answering}
use Rattle.report_text.specs.Texts.{Parameters}
use Rattle.guard_ends.specs.End.{AreSameButPlace, ReadAsYaml}
use Rattle.guard_ends.specs.Inputs.{IsTooLong, IsTemplate, RefusesData, format_of}
use Rattle.doc_values.specs.Merge.{first_shared, is_map_tree, merged}
use Rattle.guard_ends.specs.Order.{Alone, AreApart, AreRead, AreTold, Contents, Ended, Ends, Inputs, IsDataOf, IsJudged, Joining, MakingPatterns, Merging, Reading, ReadingInputs, WithParams, Work, judged, refused}
use Rattle.guard_ends.specs.Report.{Reporting}
use Rattle.guard_ends.specs.Reported.{world_over}
use Rattle.guard_ends.specs.declared.ends.Refusal.{Refusal}
use Rattle.guard_ends.specs.declared.ends.Refusal.TheVariants.{At}
use Rattle.guard_ends.specs.declared.ends.RefusalKind.TheVariants.{NotAMap, SharedKey}
use Rattle.guard_ends.specs.declared.ends.Which.{Which}
use Rattle.guard_ends.specs.declared.ends.Which.TheVariants as file
use Rattle.guard_ends.specs.declared.format.Format.{Format}
use Rattle.guard_laws.proofs.OneStage.{AreAmong, HasOne, OneReading, ends-one, loaded, loading-one, patterns-go, patterns-one, read-goes, reading-more, reading-one}
use Rattle.guard_laws.proofs.OneText.{IsText, OneText}

long-apart : (bytes : List ℕ) → IsTooLong template_limit bytes → length bytes ≤ template_limit → ⊥
long-apart bytes long within = omega arith

why-one : (f : Format) (bytes : List ℕ) → (IsUtf8 bytes → OneText f bytes) → (which : Which) (r q : Refusal) → RefusesData which f bytes r → RefusesData which f bytes q
    → AreSameButPlace (IsText which f bytes) (refused bytes r) (refused bytes q)
why-one f bytes one which r q (inl (is, long)) (inl (is', long')) = inl (ap (refused bytes) (is ∙ sym is'))
why-one f bytes one which r q (inl (is, long)) (inr (inl (is', bad))) = absurd (long-apart bytes long bad.0)
why-one f bytes one which r q (inl (is, long)) (inr (inr (text, h))) = absurd (long-apart bytes long text.within)
why-one f bytes one which r q (inr (inl (is, bad))) (inl (is', long)) = absurd (long-apart bytes long bad.0)
why-one f bytes one which r q (inr (inl (is, bad))) (inr (inl (is', bad'))) = inl (ap (refused bytes) (is ∙ sym is'))
why-one f bytes one which r q (inr (inl (is, bad))) (inr (inr (text, h))) = absurd (bad.1 text.utf8)
why-one f bytes one which r q (inr (inr (text, h))) (inl (is', long)) = absurd (long-apart bytes long text.within)
why-one f bytes one which r q (inr (inr (text, h))) (inr (inl (is', bad))) = absurd (bad.1 text.utf8)
why-one f bytes one which r q (inr (inr (text, h))) (inr (inr (text', h'))) = (one text.utf8).refusal which r q h h'

why-apart : (f : Format) (bytes : List ℕ) → (IsUtf8 bytes → OneText f bytes) → (which : Which) (r : Refusal) (tree : Forest) → RefusesData which f bytes r
    → IsTemplate f bytes tree → ⊥
why-apart f bytes one which r tree (inl (is, long)) whole = long-apart bytes long whole.text.within
why-apart f bytes one which r tree (inr (inl (is, bad))) whole = bad.1 whole.text.utf8
why-apart f bytes one which r tree (inr (inr (text, h))) whole = (one text.utf8).apart which r tree h whole.read

-- what a template, or parameters, have in each format: one tree or one refusal, and not both
pub record OneTemplate (bytes : List ℕ) : Type 0 where
  pub tree : (f : Format) (a b : Forest) → IsTemplate f bytes a → IsTemplate f bytes b → a ≡ b
  pub refusal : (which : Which) (f : Format) (r q : Refusal) → RefusesData which f bytes r → RefusesData which f bytes q
      → AreSameButPlace (IsText which f bytes) (refused bytes r) (refused bytes q)
  pub apart : (which : Which) (f : Format) (r : Refusal) (tree : Forest) → RefusesData which f bytes r → IsTemplate f bytes tree → ⊥

tree-one : (f : Format) (bytes : List ℕ) → (IsUtf8 bytes → OneText f bytes) → (a b : Forest) → IsTemplate f bytes a → IsTemplate f bytes b → a ≡ b
tree-one f bytes one a b whole whole' = (one whole.text.utf8).tree a b whole.read whole'.read

pub template-laws : (bytes : List ℕ) → ((f : Format) → IsUtf8 bytes → OneText f bytes) → OneTemplate bytes
template-laws bytes one = record {
  tree = λ f. tree-one f bytes (one f);
  refusal = λ which f. why-one f bytes (one f) which;
  apart = λ which f. why-apart f bytes (one f) which;
}

pub template-reading : (which : Which) (f : Format) (bytes : List ℕ) → OneTemplate bytes → OneReading (IsText which f bytes) Forest (RefusesData which f) (IsTemplate f) bytes
template-reading which f bytes laws = record { one = laws.tree f; refusal = laws.refusal which f; apart = laws.apart which f }

-- inputs are judged in one way: two answers that functions give are one
pub judged-one : (made : Reporting) (inputs : Inputs) (e other : Ended) → IsJudged made inputs e → IsJudged made inputs other → e ≡ other
judged-one made inputs e other (answers, obey, is) (others, obey', is') =
    is
    ∙ (ap (λ (a : Answers). judged made (world_over inputs.rules inputs.tree a) inputs.texts)
    (one-answering inputs.tree inputs.rules answers others obey obey') ∙ sym is')

-- ---- a template becomes the data tree

-- what is done with a template of these bytes and this tree has one end, where the work behind it has
abbrev pub JoinsOnce : ReadAsYaml → Joining → (template : List ℕ) → Forest → Type 1
JoinsOnce IsYaml Joined template tree = (GoesOn : Option Parameters → Forest → Work)
    → ((params : Option Parameters) (data_tree : Forest) → HasOne IsYaml (GoesOn params data_tree)) → HasOne IsYaml (Joined template tree GoesOn)

-- and where it becomes this data tree, with these parameters, its end is that of the work behind it
abbrev pub JoinsAs : Joining → (template : List ℕ) → (tree data_tree : Forest) → Option Parameters → Type 1
JoinsAs Joined template tree data_tree params = (GoesOn : Option Parameters → Forest → Work)
    → (e : Ended) → Joined template tree GoesOn (Ends e) → GoesOn params data_tree (Ends e)

pub alone-once : (IsYaml : ReadAsYaml) (template : List ℕ) (tree : Forest) → JoinsOnce IsYaml Alone template tree
alone-once IsYaml template tree GoesOn one = one None tree

pub alone-as : (template : List ℕ) (tree : Forest) → JoinsAs Alone template tree tree None
alone-as template tree GoesOn e came = came

shared-one : (tree params : Forest) (at place : ℕ) → first_shared (first_kids tree) (first_kids params) ≡ Some at
    → first_shared (first_kids tree) (first_kids params) ≡ Some place → at ≡ place
shared-one tree params at place is is' = same_Some at place (sym is ∙ is')

clash : {b : Bool} → b ≡ true → b ≡ false → ⊥
clash is not = true≢false (sym is ∙ not)

module _ (IsYaml : ReadAsYaml) (params_bytes : List ℕ) (params : Forest) (template : List ℕ) (tree : Forest) (GoesOn : Option Parameters → Forest → Work) where
  abbrev no_map : Which → List ℕ → Forest → Ended
  no_map which bytes root = refused bytes (At which NotAMap (first_label root).at None)

  abbrev shares : ℕ → Ended
  shares at = refused params_bytes (At file.Params SharedKey at None)

  abbrev as_one : Work
  as_one = GoesOn (Some (record { text = params_bytes; first = size tree })) (merged tree params)

  -- how a merge ends
  abbrev Merged : Ended → Type 0
  Merged e =
      ((is_map_tree tree ≡ false) × (e ≡ no_map file.Template template tree))
      ⊎ ((is_map_tree tree ≡ true) × (is_map_tree params ≡ false) × (e ≡ no_map file.Params params_bytes params))
      ⊎ ((is_map_tree tree ≡ true) × (is_map_tree params ≡ true) × ((at : ℕ) × (first_shared (first_kids tree) (first_kids params) ≡ Some at) × (e ≡ shares at)))
      ⊎ (AreApart tree params × as_one (Ends e))

  merged-end : (e : Ended) → Merging params_bytes params template tree GoesOn (Ends e) → Merged e
  merged-end e (inl (not, is)) = inl (not, ends-one e (no_map file.Template template tree) is)
  merged-end e (inr (inl (map, (not, is)))) = inr (inl (map, not, ends-one e (no_map file.Params params_bytes params) is))
  merged-end e (inr (inr (inl (map, map', (at, shared, is))))) = inr (inr (inl (map, map', (at, shared, ends-one e (shares at) is))))
  merged-end e (inr (inr (inr (apart, goes)))) = inr (inr (inr (apart, goes)))

  same-end : HasOne IsYaml as_one → (e other : Ended) → Merged e → Merged other → AreSameButPlace IsYaml e other
  same-end one e other (inl (not, is)) (inl (not', is')) = inl (is ∙ sym is')
  same-end one e other (inl (not, is)) (inr (inl (map, not', is'))) = absurd (clash map not)
  same-end one e other (inl (not, is)) (inr (inr (inl (map, map', shared)))) = absurd (clash map not)
  same-end one e other (inl (not, is)) (inr (inr (inr (apart, goes)))) = absurd (clash apart.first not)
  same-end one e other (inr (inl (map, not, is))) (inl (not', is')) = absurd (clash map not')
  same-end one e other (inr (inl (map, not, is))) (inr (inl (map', not', is'))) = inl (is ∙ sym is')
  same-end one e other (inr (inl (map, not, is))) (inr (inr (inl (map', of_map, shared)))) = absurd (clash of_map not)
  same-end one e other (inr (inl (map, not, is))) (inr (inr (inr (apart, goes)))) = absurd (clash apart.second not)
  same-end one e other (inr (inr (inl (map, map', (at, shared, is))))) (inl (not, is')) = absurd (clash map not)
  same-end one e other (inr (inr (inl (map, of_map, (at, shared, is))))) (inr (inl (map', not, is'))) = absurd (clash of_map not)
  same-end one e other (inr (inr (inl (map, of_map, (at, shared, is))))) (inr (inr (inl (map', of_map', (place, shared', is'))))) =
      inl (is ∙ (ap shares (shared-one tree params at place shared shared') ∙ sym is'))
  same-end one e other (inr (inr (inl (map, of_map, (at, shared, is))))) (inr (inr (inr (apart, goes)))) = absurd (none-some at (sym apart.distinct ∙ shared))
  same-end one e other (inr (inr (inr (apart, goes)))) (inl (not, is)) = absurd (clash apart.first not)
  same-end one e other (inr (inr (inr (apart, goes)))) (inr (inl (map, not, is))) = absurd (clash apart.second not)
  same-end one e other (inr (inr (inr (apart, goes)))) (inr (inr (inl (map, of_map, (at, shared, is))))) = absurd (none-some at (sym apart.distinct ∙ shared))
  same-end one e other (inr (inr (inr (apart, goes)))) (inr (inr (inr (apart', goes')))) = one e other goes goes'

  pub merging-one : HasOne IsYaml as_one → HasOne IsYaml (Merging params_bytes params template tree GoesOn)
  merging-one one e other came came' = same-end one e other (merged-end e came) (merged-end other came')

  merged-as : AreApart tree params → (e : Ended) → Merged e → as_one (Ends e)
  merged-as apart e (inl (not, is)) = absurd (clash apart.first not)
  merged-as apart e (inr (inl (map, not, is))) = absurd (clash apart.second not)
  merged-as apart e (inr (inr (inl (map, of_map, (at, shared, is))))) = absurd (none-some at (sym apart.distinct ∙ shared))
  merged-as apart e (inr (inr (inr (apart', goes)))) = goes

  pub merging-as : AreApart tree params → (e : Ended) → Merging params_bytes params template tree GoesOn (Ends e) → as_one (Ends e)
  merging-as apart e came = merged-as apart e (merged-end e came)

module _ (IsYaml : ReadAsYaml) (told : Contents) (bytes : List ℕ) (laws : OneTemplate bytes) (template : List ℕ) (tree : Forest) where
  abbrev Merges : (GoesOn : Option Parameters → Forest → Work) → Forest → Work
  Merges GoesOn params = Merging bytes params template tree GoesOn

  abbrev Reads_params : (name : List ℕ) → (GoesOn : Option Parameters → Forest → Work) → List ℕ → Work
  Reads_params name GoesOn read = Reading (RefusesData file.Params (format_of name)) (IsTemplate (format_of name)) read (λ params. Merging read params template tree GoesOn)

  params-once-one : (name : List ℕ) → AreAmong (IsText file.Params (format_of name) bytes) IsYaml → AreTold told (Some name) bytes
      → JoinsOnce IsYaml (WithParams told (Some name)) template tree
  params-once-one name yaml known GoesOn one =
      loading-one IsYaml file.Params told name bytes (Reads_params name GoesOn) (known name refl)
      (reading-one IsYaml Forest (RefusesData file.Params (format_of name)) (IsTemplate (format_of name)) bytes (Merges GoesOn)
      (reading-more (IsText file.Params (format_of name) bytes) IsYaml Forest (RefusesData file.Params (format_of name)) (IsTemplate (format_of name)) bytes yaml
      (template-reading file.Params (format_of name) bytes laws))
      (λ params. merging-one IsYaml bytes params template tree GoesOn (one (Some (record { text = bytes; first = size tree })) (merged tree params))))

  -- parameters whose content is told
  pub params-once : (q : Option (List ℕ)) → ((name : List ℕ) → q ≡ Some name → AreAmong (IsText file.Params (format_of name) bytes) IsYaml) → AreTold told q bytes
      → JoinsOnce IsYaml (WithParams told q) template tree
  params-once None yaml known = alone-once IsYaml template tree
  params-once (Some name) yaml known = params-once-one name (yaml name refl) known

  params-as-one : (name : List ℕ) (data_tree params : Forest) (read : Option Parameters) → AreTold told (Some name) bytes → IsTemplate (format_of name) bytes params
      → AreApart tree params → data_tree ≡ merged tree params → read ≡ Some (record { text = bytes; first = size tree })
      → JoinsAs (WithParams told (Some name)) template tree data_tree read
  params-as-one name data_tree params read known whole apart data_is read_is GoesOn e came =
      let goes = merging-as IsYaml bytes params template tree GoesOn apart e
      (read-goes (IsText file.Params (format_of name) bytes) Forest (RefusesData file.Params (format_of name)) (IsTemplate (format_of name)) bytes (Merges GoesOn)
      (template-reading file.Params (format_of name) bytes laws) params whole e
      (loaded file.Params told name bytes (Reads_params name GoesOn) (known name refl) e came)) in
      subst (λ (d : Forest). GoesOn read d (Ends e)) (sym data_is)
      (subst (λ (r : Option Parameters). GoesOn r (merged tree params) (Ends e)) (sym read_is) goes)

  alone-as-one : (data_tree : Forest) (read : Option Parameters) → data_tree ≡ tree → read ≡ None → JoinsAs Alone template tree data_tree read
  alone-as-one data_tree read data_is read_is GoesOn e came =
      subst (λ (d : Forest). GoesOn read d (Ends e)) (sym data_is) (subst (λ (r : Option Parameters). GoesOn r tree (Ends e)) (sym read_is) came)

  pub params-as : (q : Option (List ℕ)) (data_tree : Forest) (read : Option Parameters) → AreTold told q bytes → IsDataOf tree q bytes data_tree read
      → JoinsAs (WithParams told q) template tree data_tree read
  params-as None data_tree read known is = alone-as-one data_tree read is.0 is.1
  params-as (Some name) data_tree read known (params, whole, apart, data_is, read_is) = params-as-one name data_tree params read known whole apart data_is read_is

-- ---- and then the inputs

module _
    (IsYaml : ReadAsYaml)
    (f : Format)
    (source : List ℕ)
    (rules : File)
    (Joined : Joining)
    (template : List ℕ)
    (laws : OneTemplate template)
    (GoesOn : Inputs → Work)
  where
    abbrev with_data : Option Parameters → Forest → Inputs
    with_data params data_tree = record { rules = rules; tree = data_tree; texts = record { rules = source; template = template; params = params } }

    abbrev Makes_patterns : Option Parameters → Forest → Work
    Makes_patterns params data_tree = MakingPatterns source rules (GoesOn (with_data params data_tree))

    abbrev Joins : Forest → Work
    Joins tree = Joined template tree Makes_patterns

    -- where the work with the inputs has one end, so has the work that reads them
    pub inputs-one : AreAmong (IsText file.Template f template) IsYaml → ((tree : Forest) → JoinsOnce IsYaml Joined template tree) → ((inputs : Inputs) → HasOne IsYaml (GoesOn inputs))
        → HasOne IsYaml (ReadingInputs f source rules Joined template GoesOn)
    inputs-one yaml joins one =
        reading-one IsYaml Forest (RefusesData file.Template f) (IsTemplate f) template Joins
        (reading-more (IsText file.Template f template) IsYaml Forest (RefusesData file.Template f) (IsTemplate f) template yaml (template-reading file.Template f template laws))
        (λ tree. joins tree Makes_patterns (λ params data_tree. patterns-one IsYaml source rules (GoesOn (with_data params data_tree)) (one (with_data params data_tree))))

    -- a template that is read and becomes a data tree, with patterns that are read, ends by the work behind them
    pub inputs-go : (tree data_tree : Forest) (params : Option Parameters) → JoinsAs Joined template tree data_tree params → IsTemplate f template tree → AreRead rules
        → (e : Ended) → ReadingInputs f source rules Joined template GoesOn (Ends e) → GoesOn (with_data params data_tree) (Ends e)
    inputs-go tree data_tree params joins whole all e came =
        patterns-go IsYaml source rules (GoesOn (with_data params data_tree)) all e
        (joins Makes_patterns e
        (read-goes (IsText file.Template f template) Forest (RefusesData file.Template f) (IsTemplate f) template Joins (template-reading file.Template f template laws) tree whole e came))
