-- A call has one end. By the cases of the order of work.
use Rattle.std.proofs.Common.{◌≡◌, ℕ, List, Option, Some, None, inl, inr, sym, ◌∙◌, ap, subst}
use Rattle.doc_values.specs.Tree.{Forest}
use Rattle.guard_drill.specs.DrillTexts.{template_text}
use Rattle.guard_syntax.specs.Syntax.{File}
use Rattle.guard_words.specs.Request.{Asked, AsksFor}
use Rattle.guard_words.proofs.RequestLemmas.{asked_once, asked_parsed}
use Rattle.report_text.specs.Texts.{Parameters}
use Rattle.guard_ends.specs.Drill.{drill_report, drill_rules}
use Rattle.guard_ends.specs.End.{AreSameButPlace, IsYamlAmong, ReadAsYaml}
use Rattle.guard_ends.specs.Inputs.{IsRuleFile, IsTemplate, RefusesRules, format_of}
use Rattle.guard_ends.specs.Order.{Alone, AreRead, AreTold, ComesTo, Contents, Ended, Ending, Ends, Inputs, IsDataOf, IsJudged, Joining, Loading, OfDrill, OverFiles, Point, Reading, ReadingInputs, WithParams, Work, WorkOf, refused}
use Rattle.guard_ends.specs.declared.ends.Which.TheVariants as file
use Rattle.guard_ends.specs.declared.format.Format.TheVariants.{Json}
use Rattle.guard_laws.proofs.OneRules.{refusals-alike, refusal-apart, rules-one}
use Rattle.guard_laws.proofs.OneStage.{AreAmong, HasOne, NoYaml, ending-is, ending-one, ends-one, loaded, loading-one}
use Rattle.guard_laws.proofs.OneSyntax.{OneSyntax}
use Rattle.guard_laws.proofs.OneText.{IsText}
use Rattle.guard_laws.proofs.OneTemplate.{OneTemplate, alone-as, alone-once, inputs-go, inputs-one, judged-one, params-as, params-once}

-- ---- words ask for one thing

asked-one : (words : List (List ℕ)) (request other : Asked) → AsksFor words request → AsksFor words other → request ≡ other
asked-one words request other asked asked' =
    let parsed = asked_parsed words request asked in
    asked_once words asked.command asked.uses parsed request asked ∙ sym (asked_once words asked.command asked.uses parsed other asked')

-- so a call with them comes to the work of that alone
pub work-asked : (words : List (List ℕ)) (told : Contents) (request : Asked) → AsksFor words request → (p : Point) → ComesTo words told p → WorkOf request told p
work-asked words told request asked p (inl (other, asked', came)) =
    subst (λ (a : Asked). WorkOf a told p) (asked-one words other request asked' asked) came
work-asked words told request asked p (inr (none, usage)) = absurd (none request asked)

-- ---- rules

module _ (IsYaml : ReadAsYaml) (law : OneSyntax) (rules : List ℕ) (GoesOn : File → Work) where
  -- where the work behind the rules has one end, so has the work with them
  pub rules-same : ((read : File) → HasOne IsYaml (GoesOn read)) → (e other : Ended) → Reading RefusesRules IsRuleFile rules GoesOn (Ends e)
      → Reading RefusesRules IsRuleFile rules GoesOn (Ends other) → AreSameButPlace IsYaml e other
  rules-same one e other (inl (r, h, is)) (inl (q, h', is')) =
      inl (ends-one e (refused rules r) is ∙ (ap (refused rules) (refusals-alike law rules r q h h') ∙ sym (ends-one other (refused rules q) is')))
  rules-same one e other (inl (r, h, is)) (inr (read, whole, goes)) = absurd (refusal-apart law rules r read h whole)
  rules-same one e other (inr (read, whole, goes)) (inl (r, h, is)) = absurd (refusal-apart law rules r read h whole)
  rules-same one e other (inr (read, whole, goes)) (inr (read', whole', goes')) =
      one read e other goes (subst (λ (r : File). GoesOn r (Ends other)) (sym (rules-one law rules read read' whole whole')) goes')

  -- where the rules are read, the work goes on behind them
  pub rules-go : (read : File) → IsRuleFile rules read → (e : Ended) → Reading RefusesRules IsRuleFile rules GoesOn (Ends e) → GoesOn read (Ends e)
  rules-go read whole e (inl (r, h, is)) = absurd (refusal-apart law rules r read h whole)
  rules-go read whole e (inr (read', whole', goes)) = subst (λ (r : File). GoesOn r (Ends e)) (rules-one law rules read' read whole' whole) goes

-- ---- the files of a call

-- the names of the files that words ask for, and the bytes that stand in them
pub record FileNames : Type 0 where
  pub rules : List ℕ
  pub template : List ℕ
  pub params : Option (List ℕ)

pub record FileTexts : Type 0 where
  pub rules : List ℕ
  pub template : List ℕ
  pub params : List ℕ

pub record AreFilesTold (told : Contents) (names : FileNames) (texts : FileTexts) : Type 0 where
  pub rules : told names.rules ≡ Some texts.rules
  pub template : told names.template ≡ Some texts.template
  pub params : AreTold told names.params texts.params

-- each has one tree or one refusal
pub record AreOneEach (texts : FileTexts) : Type 0 where
  pub template : OneTemplate texts.template
  pub params : OneTemplate texts.params

-- ---- files that are told

module _
    (law : OneSyntax)
    (told : Contents)
    (names : FileNames)
    (texts : FileTexts)
    (known : AreFilesTold told names texts)
    (laws : AreOneEach texts)
    (GoesOn : Inputs → Work)
  where
    abbrev Joined : Joining
    Joined = WithParams told names.params

    abbrev Reads_inputs : (source : List ℕ) → File → List ℕ → Work
    Reads_inputs source read bytes = ReadingInputs (format_of names.template) source read Joined bytes GoesOn

    abbrev Loads_template : (source : List ℕ) → File → Work
    Loads_template source read = Loading file.Template told names.template (Reads_inputs source read)

    abbrev Reads_rules : List ℕ → Work
    Reads_rules source = Reading RefusesRules IsRuleFile source (Loads_template source)

    abbrev Over : Work
    Over = OverFiles told names.rules names.template names.params GoesOn

    among-template : AreAmong (IsText file.Template (format_of names.template) texts.template) (IsYamlAmong told names.template names.params)
    among-template which bytes (is, same, yaml) = inl (is, (yaml, known.template ∙ ap Some (sym same)))

    among-params : (name : List ℕ) → names.params ≡ Some name → AreAmong (IsText file.Params (format_of name) texts.params) (IsYamlAmong told names.template names.params)
    among-params name is which bytes (w, same, yaml) = inr (name, is, (w, (yaml, known.params name is ∙ ap Some (sym same))))

    -- where what a command does with the inputs has one end, so has the command
    pub files-same : ((inputs : Inputs) → HasOne (IsYamlAmong told names.template names.params) (GoesOn inputs)) → (e other : Ended) → Over (Ends e) → Over (Ends other)
        → AreSameButPlace (IsYamlAmong told names.template names.params) e other
    files-same each e other came came' =
        rules-same (IsYamlAmong told names.template names.params) law texts.rules (Loads_template texts.rules)
        (λ read. loading-one (IsYamlAmong told names.template names.params) file.Template told names.template texts.template (Reads_inputs texts.rules read) known.template
        (inputs-one (IsYamlAmong told names.template names.params) (format_of names.template) texts.rules read Joined texts.template laws.template GoesOn
        among-template
        (λ tree. params-once (IsYamlAmong told names.template names.params) told texts.params laws.params texts.template tree names.params
        among-params known.params) each)) e other
        (loaded file.Rules told names.rules texts.rules Reads_rules known.rules e came)
        (loaded file.Rules told names.rules texts.rules Reads_rules known.rules other came')

    -- and where the files and the patterns are read, its end is that of what it does with the inputs
    pub files-go : (read : File) (tree data_tree : Forest) (params : Option Parameters) → IsRuleFile texts.rules read → IsTemplate (format_of names.template) texts.template tree
        → IsDataOf tree names.params texts.params data_tree params → AreRead read → (e : Ended) → Over (Ends e)
        → GoesOn (record { rules = read; tree = data_tree; texts = record { rules = texts.rules; template = texts.template; params = params } }) (Ends e)
    files-go read tree data_tree params whole whole' becomes all e came =
        inputs-go (IsYamlAmong told names.template names.params) (format_of names.template) texts.rules read Joined texts.template laws.template GoesOn tree data_tree params
        (params-as (IsYamlAmong told names.template names.params) told texts.params laws.params texts.template tree names.params data_tree params known.params becomes) whole' all e
        (loaded file.Template told names.template texts.template (Reads_inputs texts.rules read) known.template e
        (rules-go (IsYamlAmong told names.template names.params) law texts.rules (Loads_template texts.rules) read whole e (loaded file.Rules told names.rules texts.rules Reads_rules known.rules e came)))

-- ---- drills

module _ (law : OneSyntax) (count : ℕ) (one : OneTemplate (template_text count)) where
  abbrev Judges : Inputs → Work
  Judges inputs = Ending (IsJudged (drill_report count) inputs)

  abbrev Over_drill : File → Work
  Over_drill rules = ReadingInputs Json drill_rules rules Alone (template_text count) Judges

  abbrev Reads_drill : Ended → Type 0
  Reads_drill e = Reading RefusesRules IsRuleFile drill_rules Over_drill (Ends e)

  -- the inputs of a drill
  abbrev pub drill_inputs : File → Forest → Inputs
  drill_inputs read tree = record { rules = read; tree = tree; texts = record { rules = drill_rules; template = template_text count; params = None } }

  -- and where its rules, its template and the patterns are read, its end is that of the template judged
  pub drill-goes : (read : File) (tree : Forest) → IsRuleFile drill_rules read → IsTemplate Json (template_text count) tree → AreRead read
      → (e : Ended) → OfDrill count (Ends e) → IsJudged (drill_report count) (drill_inputs read tree) e
  drill-goes read tree whole whole' all e came =
      ending-is (IsJudged (drill_report count) (drill_inputs read tree)) e
      (inputs-go NoYaml Json drill_rules read Alone (template_text count) one Judges tree tree None (alone-as (template_text count) tree) whole' all e
      (rules-go NoYaml law drill_rules Over_drill read whole e (ending-is Reads_drill e came)))
