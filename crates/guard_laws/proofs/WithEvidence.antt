-- Work over files taken apart, stage by stage: it is refused on its way, or it goes on with inputs that were read. So an end with evidence stands beside one without. By
-- the cases of each stage.
use Rattle.std.proofs.Common.{◌≡◌, ◌⊎◌, ℕ, List, [], Option, Some, None, Bool, true, false, if◌then◌else◌, refl, inl, inr, sym, ap, ◌∙◌, subst}
use Rattle.std.specs.List.{list_any}
use Rattle.std.specs.Prelude.{option_map}
use Rattle.std.proofs.lemmas.Bool.{true≢false}
use Rattle.std.proofs.lemmas.Option.{none-some, same_Some}
use Rattle.doc_values.specs.Places.{first_label}
use Rattle.doc_values.specs.Tree.{Forest, size}
use Rattle.guard_syntax.specs.Syntax.{File}
use Rattle.report_text.specs.Texts.{Parameters}
use Rattle.rule_meaning.specs.Locations.{World}
use Rattle.rule_meaning.specs.Verdicts.{is_fail}
use Rattle.guard_ends.specs.End.{AreMisread, AreSameButEvidence, AreSameButPlace, IsBeside, ReadAsYaml, is_reported}
use Rattle.guard_ends.specs.Inputs.{IsRuleFile, IsTemplate, RefusesData, RefusesRules, format_of}
use Rattle.doc_values.specs.Merge.{merged}
use Rattle.guard_ends.specs.Order.{AreApart, AreRead, AreTold, Contents, Ended, Ending, Ends, Inputs, IsContent, IsDataOf, IsEvidenceFor, IsJudged, IsJudgedBy, Loading, MakingPatterns, Merging, OverFiles, Reading, ReadingInputs, WithParams, Work, how_judged, judged, refused}
use Rattle.guard_ends.specs.Report.{Reporting, report}
use Rattle.guard_ends.specs.Reported.{verdicts_of, world_over}
use Rattle.guard_ends.specs.declared.ends.End.TheVariants as end_is
use Rattle.guard_ends.specs.declared.ends.Refusal.{Refusal}
use Rattle.guard_ends.specs.declared.ends.Refusal.TheVariants.{At}
use Rattle.guard_ends.specs.declared.ends.RefusalKind.TheVariants.{BadPattern, NotAMap, SharedKey, Syntax}
use Rattle.guard_ends.specs.declared.ends.Which.{Which}
use Rattle.guard_ends.specs.declared.ends.Which.TheVariants as file
use Rattle.guard_ends.specs.declared.format.Format.{Format}
use Rattle.guard_laws.proofs.OneEnd.{FileNames}
use Rattle.guard_laws.proofs.OneStage.{ending-is, ends-one, never-load, never-make}

-- ---- a refusal is no report

refused-how : (bytes : List ℕ) (refusal : Refusal) (e : Ended) → e ≡ refused bytes refusal → is_reported e.how ≡ false
refused-how bytes refusal e is = ap (λ (x : Ended). is_reported x.how) is

how-by : (failed : Bool) → is_reported (if failed then end_is.Failed else end_is.Passed) ≡ true
how-by true = refl
how-by false = refl

judged-how : (world : World) → is_reported (how_judged world) ≡ true
judged-how world = how-by (list_any is_fail (verdicts_of world))

-- ---- work over files

-- a stage of the work, in two kinds of work that go on behind it with alike things: where one is refused in it, so is the other, with
-- the same end, and where it goes on, so does the other, with an end that stands so beside it
module _ (e : Ended) (Is : Ended → Type 0) (stays : is_reported e.how ≡ false → Is e) where
  -- there is an end of other work beside the end of this
  abbrev pub Beside : Work → Work → Type 0
  Beside Comes Others = Comes (Ends e) → (other : Ended) × Others (Ends other) × Is other

  at-refusal : (Others : Work) (bytes : List ℕ) (refusal : Refusal) → Ends e ≡ Ends (refused bytes refusal) → Others (Ends e) → (other : Ended) × Others (Ends other) × Is other
  at-refusal Others bytes refusal is came = (e, came, stays (refused-how bytes refusal e (ends-one e (refused bytes refusal) is)))

  pub loading-beside : (which : Which) (told : Contents) (name : List ℕ) (GoesOn More : List ℕ → Work) → ((bytes : List ℕ) → Beside (GoesOn bytes) (More bytes))
      → Beside (Loading which told name GoesOn) (Loading which told name More)
  loading-beside which told name GoesOn More each (inl load) = absurd (never-load e which name load)
  loading-beside which told name GoesOn More each (inr (bytes, content, goes)) = let more = each bytes goes in (more.0, inr (bytes, content, more.1), more.2)

  pub reading-beside : (X : Type 0) (Refuses : List ℕ → Refusal → Type 0) (IsRead : List ℕ → X → Type 0) (bytes : List ℕ) (GoesOn More : X → Work)
      → ((x : X) → Beside (GoesOn x) (More x)) → Beside (Reading Refuses IsRead bytes GoesOn) (Reading Refuses IsRead bytes More)
  reading-beside X Refuses IsRead bytes GoesOn More each (inl (refusal, refuses, is)) =
      at-refusal (Reading Refuses IsRead bytes More) bytes refusal is (inl (refusal, refuses, is))
  reading-beside X Refuses IsRead bytes GoesOn More each (inr (x, whole, goes)) = let more = each x goes in (more.0, inr (x, whole, more.1), more.2)

  pub patterns-beside : (source : List ℕ) (rules : File) (GoesOn More : Work) → Beside GoesOn More → Beside (MakingPatterns source rules GoesOn) (MakingPatterns source rules More)
  patterns-beside source rules GoesOn More each (inl (text, at, next, inl make)) = absurd (never-make e text make)
  patterns-beside source rules GoesOn More each (inl (text, at, next, inr (bad, is))) =
      at-refusal (MakingPatterns source rules More) source (At file.Rules BadPattern at None) is (inl (text, at, next, inr (bad, is)))
  patterns-beside source rules GoesOn More each (inr (all, goes)) = let more = each goes in (more.0, inr (all, more.1), more.2)

  merging-beside : (bytes : List ℕ) (params : Forest) (template : List ℕ) (tree : Forest) (GoesOn More : Option Parameters → Forest → Work)
      → ((read : Option Parameters) (data_tree : Forest) → Beside (GoesOn read data_tree) (More read data_tree))
      → Beside (Merging bytes params template tree GoesOn) (Merging bytes params template tree More)
  merging-beside bytes params template tree GoesOn More each (inl (not, is)) =
      at-refusal (Merging bytes params template tree More) template (At file.Template NotAMap (first_label tree).at None) is (inl (not, is))
  merging-beside bytes params template tree GoesOn More each (inr (inl (map, (not, is)))) =
      at-refusal (Merging bytes params template tree More) bytes (At file.Params NotAMap (first_label params).at None) is (inr (inl (map, (not, is))))
  merging-beside bytes params template tree GoesOn More each (inr (inr (inl (map, map', (at, shared, is))))) =
      at-refusal (Merging bytes params template tree More) bytes (At file.Params SharedKey at None) is (inr (inr (inl (map, map', (at, shared, is)))))
  merging-beside bytes params template tree GoesOn More each (inr (inr (inr (apart, goes)))) =
      let more = each (Some (record { text = bytes; first = size tree })) (merged tree params) goes in (more.0, inr (inr (inr (apart, more.1))), more.2)

  params-beside : (told : Contents) (q : Option (List ℕ)) (template : List ℕ) (tree : Forest) (GoesOn More : Option Parameters → Forest → Work)
      → ((read : Option Parameters) (data_tree : Forest) → Beside (GoesOn read data_tree) (More read data_tree))
      → Beside (WithParams told q template tree GoesOn) (WithParams told q template tree More)
  params-beside told None template tree GoesOn More each = each None tree
  params-beside told (Some name) template tree GoesOn More each =
      loading-beside file.Params told name
      (λ bytes. Reading (RefusesData file.Params (format_of name)) (IsTemplate (format_of name)) bytes (λ params. Merging bytes params template tree GoesOn))
      (λ bytes. Reading (RefusesData file.Params (format_of name)) (IsTemplate (format_of name)) bytes (λ params. Merging bytes params template tree More))
      (λ bytes. reading-beside Forest (RefusesData file.Params (format_of name)) (IsTemplate (format_of name)) bytes
      (λ params. Merging bytes params template tree GoesOn) (λ params. Merging bytes params template tree More)
      (λ params. merging-beside bytes params template tree GoesOn More each))

  module _ (told : Contents) (names : FileNames) (GoesOn More : Inputs → Work) (each : (inputs : Inputs) → Beside (GoesOn inputs) (More inputs)) where
    abbrev with_data : (source : List ℕ) → File → (template : List ℕ) → Option Parameters → Forest → Inputs
    with_data source rules template read data_tree = record { rules = rules; tree = data_tree; texts = record { rules = source; template = template; params = read } }

    abbrev Makes : (Inputs → Work) → (source : List ℕ) → File → (template : List ℕ) → Option Parameters → Forest → Work
    Makes Behind source rules template read data_tree = MakingPatterns source rules (Behind (with_data source rules template read data_tree))

    abbrev Reads : (Inputs → Work) → (source : List ℕ) → File → List ℕ → Work
    Reads Behind source rules template = ReadingInputs (format_of names.template) source rules (WithParams told names.params) template Behind

    abbrev Loads_next : (Inputs → Work) → (source : List ℕ) → File → Work
    Loads_next Behind source rules = Loading file.Template told names.template (Reads Behind source rules)

    -- where it is refused on its way it is so whatever it goes on with, and else it goes on
    pub over-files : Beside (OverFiles told names.rules names.template names.params GoesOn) (OverFiles told names.rules names.template names.params More)
    over-files =
        loading-beside file.Rules told names.rules (λ source. Reading RefusesRules IsRuleFile source (Loads_next GoesOn source))
        (λ source. Reading RefusesRules IsRuleFile source (Loads_next More source))
        (λ source. reading-beside File RefusesRules IsRuleFile source (Loads_next GoesOn source) (Loads_next More source)
        (λ rules. loading-beside file.Template told names.template (Reads GoesOn source rules) (Reads More source rules)
        (λ template. reading-beside Forest (RefusesData file.Template (format_of names.template)) (IsTemplate (format_of names.template)) template
        (λ tree. WithParams told names.params template tree (Makes GoesOn source rules template))
        (λ tree. WithParams told names.params template tree (Makes More source rules template))
        (λ tree. params-beside told names.params template tree (Makes GoesOn source rules template) (Makes More source rules template)
        (λ read data_tree. patterns-beside source rules (GoesOn (with_data source rules template read data_tree)) (More (with_data source rules template read data_tree))
        (each (with_data source rules template read data_tree)))))))

-- what parameters of this name were read from, if there is one: bytes that its content is
abbrev pub AreParamsFrom : Contents → Option (List ℕ) → (tree data_tree : Forest) → Option Parameters → Type 0
AreParamsFrom told None tree data_tree read = IsDataOf tree None [] data_tree read
AreParamsFrom told (Some name) tree data_tree read = (bytes : List ℕ) × IsContent (told name) bytes × IsDataOf tree (Some name) bytes data_tree read

-- inputs that were read from files
pub record AreReadFrom (told : Contents) (names : FileNames) (inputs : Inputs) : Type 0 where
  pub source : IsContent (told names.rules) inputs.texts.rules
  pub rules : IsRuleFile inputs.texts.rules inputs.rules
  pub template : IsContent (told names.template) inputs.texts.template
  pub tree : Forest
  pub read : IsTemplate (format_of names.template) inputs.texts.template tree
  pub params : AreParamsFrom told names.params tree inputs.tree inputs.texts.params
  pub patterns : AreRead inputs.rules

-- parameters of the same bytes and the same format, under whatever name, or none in both, give the same data tree
same-again : (q v : Option (List ℕ)) (bytes : List ℕ) → option_map format_of v ≡ option_map format_of q → (tree data_tree : Forest) (read : Option Parameters)
    → IsDataOf tree q bytes data_tree read → IsDataOf tree v bytes data_tree read
same-again None None bytes same tree data_tree read is = is
same-again None (Some name) bytes same tree data_tree read is = absurd (none-some (format_of name) (sym same))
same-again (Some name) None bytes same tree data_tree read is = absurd (none-some (format_of name) same)
same-again (Some name) (Some other) bytes same tree data_tree read (params, whole, apart, data_is, read_is) =
    (params, subst (λ (f : Format). IsTemplate f bytes params) (sym (same_Some (format_of other) (format_of name) same)) whole, apart, data_is, read_is)

told-data : (told : Contents) (q : Option (List ℕ)) (bytes : List ℕ) → AreTold told q bytes → (tree data_tree : Forest) (read : Option Parameters)
    → AreParamsFrom told q tree data_tree read → IsDataOf tree q bytes data_tree read
told-data told None bytes known tree data_tree read is = is
told-data told (Some name) bytes known tree data_tree read (held, content, is) =
    subst (λ (b : List ℕ). IsDataOf tree (Some name) b data_tree read) (content bytes (known name refl)) is

pub data-again : (told : Contents) (q v : Option (List ℕ)) (bytes : List ℕ) → AreTold told q bytes → option_map format_of v ≡ option_map format_of q
    → (tree data_tree : Forest) (read : Option Parameters) → AreParamsFrom told q tree data_tree read → (again : Option Parameters) × IsDataOf tree v bytes data_tree again
data-again told q v bytes known same tree data_tree read is = (read, same-again q v bytes same tree data_tree read (told-data told q bytes known tree data_tree read is))

module _ (told : Contents) (names : FileNames) (GoesOn : Inputs → Work) (e : Ended) (reported : is_reported e.how ≡ true) where
  never : (bytes : List ℕ) (refusal : Refusal) → Ends e ≡ Ends (refused bytes refusal) → ⊥
  never bytes refusal is = true≢false (sym reported ∙ refused-how bytes refusal e (ends-one e (refused bytes refusal) is))

  -- the work behind the patterns, with inputs that were read
  abbrev Goes : Type 0
  Goes = (inputs : Inputs) × AreReadFrom told names inputs × GoesOn inputs (Ends e)

  module _
      (source : List ℕ)
      (content : IsContent (told names.rules) source)
      (rules : File)
      (whole : IsRuleFile source rules)
      (template : List ℕ)
      (content' : IsContent (told names.template) template)
      (tree : Forest)
      (whole' : IsTemplate (format_of names.template) template tree)
    where
      abbrev inputs_by : Option Parameters → Forest → Inputs
      inputs_by read data_tree = record { rules = rules; tree = data_tree; texts = record { rules = source; template = template; params = read } }

      abbrev Patterns : Option Parameters → Forest → Work
      Patterns read data_tree = MakingPatterns source rules (GoesOn (inputs_by read data_tree))

      behind-patterns : (read : Option Parameters) (data_tree : Forest) → AreParamsFrom told names.params tree data_tree read → Patterns read data_tree (Ends e) → Goes
      behind-patterns read data_tree params (inl (text, at, next, inl make)) = absurd (never-make e text make)
      behind-patterns read data_tree params (inl (text, at, next, inr (bad, is))) = absurd (never source (At file.Rules BadPattern at None) is)
      behind-patterns read data_tree params (inr (all, goes)) =
          (inputs_by read data_tree, record { source = content; rules = whole; template = content'; tree = tree; read = whole'; params = params; patterns = all }, goes)

      behind-merge : (bytes : List ℕ) (params : Forest)
          → ((data_tree : Forest) (read : Option Parameters) → AreApart tree params → data_tree ≡ merged tree params
          → read ≡ Some (record { text = bytes; first = size tree }) → AreParamsFrom told names.params tree data_tree read)
          → Merging bytes params template tree Patterns (Ends e) → Goes
      behind-merge bytes params are (inl (not, is)) = absurd (never template (At file.Template NotAMap (first_label tree).at None) is)
      behind-merge bytes params are (inr (inl (map, (not, is)))) = absurd (never bytes (At file.Params NotAMap (first_label params).at None) is)
      behind-merge bytes params are (inr (inr (inl (map, map', (at, shared, is))))) = absurd (never bytes (At file.Params SharedKey at None) is)
      behind-merge bytes params are (inr (inr (inr (apart, goes)))) =
          let read : Option Parameters = Some (record { text = bytes; first = size tree }) in
          behind-patterns read (merged tree params) (are (merged tree params) read apart refl refl) goes

      behind-params : (q : Option (List ℕ)) → names.params ≡ q → WithParams told q template tree Patterns (Ends e) → Goes
      behind-params None is goes =
          behind-patterns None tree (subst (λ (n : Option (List ℕ)). AreParamsFrom told n tree tree None) (sym is) (refl, refl)) goes
      behind-params (Some name) is (inl load) = absurd (never-load e file.Params name load)
      behind-params (Some name) is (inr (bytes, held, inl (refusal, refuses, refused_so))) = absurd (never bytes refusal refused_so)
      behind-params (Some name) is (inr (bytes, held, inr (params, read_so, goes))) =
          behind-merge bytes params
          (λ data_tree read apart data_is read_is. subst (λ (n : Option (List ℕ)). AreParamsFrom told n tree data_tree read) (sym is)
          (bytes, held, (params, read_so, apart, data_is, read_is))) goes

  -- where it ends with a report, it went on with such inputs
  pub went-on : OverFiles told names.rules names.template names.params GoesOn (Ends e) → Goes
  went-on (inl load) = absurd (never-load e file.Rules names.rules load)
  went-on (inr (source, content, inl (refusal, refuses, is))) = absurd (never source refusal is)
  went-on (inr (source, content, inr (read, whole, inl load))) = absurd (never-load e file.Template names.template load)
  went-on (inr (source, content, inr (read, whole, inr (bytes, content', inl (refusal, refuses, is))))) = absurd (never bytes refusal is)
  went-on (inr (source, content, inr (read, whole, inr (bytes, content', inr (tree, whole', goes))))) =
      behind-params source content read whole bytes content' tree whole' names.params refl goes

-- ---- with evidence and without

judged-beside : (made : Reporting) (inputs : Inputs) (e : Ended) → IsJudgedBy made inputs e → (plain : Ended) × IsJudged made inputs plain × IsBeside plain e
judged-beside made inputs e (answers, answering, (evidence, written, is)) =
    let world : World = world_over inputs.rules inputs.tree answers in
    let plain : Ended = judged made world inputs.texts in (
      plain,
      (answers, answering, refl),
      inr (
        ap (λ (x : Ended). is_reported x.how) is ∙ judged-how world,
        sym (ap (λ (x : Ended). record { how = x.how; out = x.err; err = [] }) is),
      ),
    )

pub evidence-beside : (told : Contents) (names : FileNames) (e : Ended)
    → OverFiles told names.rules names.template names.params (λ inputs. Ending (IsJudgedBy report inputs)) (Ends e)
    → (plain : Ended) × OverFiles told names.rules names.template names.params (λ inputs. Ending (IsJudged report inputs)) (Ends plain) × IsBeside plain e
evidence-beside told names e =
    over-files e (λ plain. IsBeside plain e) (λ refused. inl (refused, refl)) told names (λ inputs. Ending (IsJudgedBy report inputs)) (λ inputs. Ending (IsJudged report inputs))
    (λ inputs came.
    let beside = judged-beside report inputs e (ending-is (IsJudgedBy report inputs) e came) in
    (beside.0, (beside.0, beside.1, refl), beside.2))

-- ---- two ends with evidence

abbrev without : Ended → Ended
without e = record { how = e.how; out = e.err; err = [] }

reported-differs : (e plain : Ended) → is_reported e.how ≡ true → plain ≡ without e → is_reported plain.how ≡ true
reported-differs e plain reported is = ap (λ (x : Ended). is_reported x.how) is ∙ reported

beside-same : (e other plain plain' : Ended) → IsBeside plain e → IsBeside plain' other → plain ≡ plain' → AreSameButEvidence e other
beside-same e other plain plain' (inl (none, is)) (inl (none', is')) same = inl (is ∙ same ∙ sym is')
beside-same e other plain plain' (inr (some, is)) (inr (some', is')) same =
    let both : without e ≡ without other = sym is ∙ same ∙ is' in
    inr (some, ap (λ (x : Ended). x.how) both, ap (λ (x : Ended). x.out) both)
beside-same e other plain plain' (inl (none, is)) (inr (some', is')) same =
    absurd (true≢false (sym (reported-differs other plain' some' is') ∙ ap (λ (x : Ended). is_reported x.how) (sym same ∙ sym is) ∙ none))
beside-same e other plain plain' (inr (some, is)) (inl (none', is')) same =
    absurd (true≢false (sym (reported-differs e plain some is) ∙ ap (λ (x : Ended). is_reported x.how) (same ∙ sym is') ∙ none'))

-- one that is refused is refused with evidence too
as-plain : (e plain : Ended) (bytes : List ℕ) (refusal : Refusal) → IsBeside plain e → plain ≡ refused bytes refusal → e ≡ refused bytes refusal
as-plain e plain bytes refusal (inl (none, is)) refused_so = is ∙ refused_so
as-plain e plain bytes refusal (inr (some, is)) refused_so =
    absurd (true≢false (sym (reported-differs e plain some is) ∙ refused-how bytes refusal plain refused_so))

pub beside-alike : (IsYaml : ReadAsYaml) (e other plain plain' : Ended) → IsBeside plain e → IsBeside plain' other → AreSameButPlace IsYaml plain plain'
    → AreSameButEvidence e other ⊎ AreMisread IsYaml e other
beside-alike IsYaml e other plain plain' beside beside' (inl same) = inl (beside-same e other plain plain' beside beside' same)
beside-alike IsYaml e other plain plain' beside beside' (inr m) =
    inr (record {
      which = m.which;
      bytes = m.bytes;
      read = m.read;
      at = m.at;
      place = m.place;
      shown = m.shown;
      shown_too = m.shown_too;
      first = as-plain e plain m.bytes (At m.which Syntax m.at None) beside m.first;
      second = as-plain other plain' m.bytes (At m.which Syntax m.place None) beside' m.second;
    })

-- ---- what is written is evidence

pub written : (made : Reporting) (inputs : Inputs) (e : Ended) → IsJudgedBy made inputs e → IsEvidenceFor inputs.rules inputs.tree e.out
written made inputs e (answers, answering, (evidence, is_evidence, is)) = subst (IsEvidenceFor inputs.rules inputs.tree) (sym (ap (λ (x : Ended). x.out) is)) is_evidence
