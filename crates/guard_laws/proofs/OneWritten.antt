-- Rules are written in one way: those that are generated of a template, and those that are read. By the stages of the work.
use Rattle.std.proofs.Common.{◌≡◌, ◌≤◌, ℕ, List, Some, ap, arith, inl, length, subst, sym, ◌∙◌}
use Rattle.doc_values.specs.Limits.{rules_limit}
use Rattle.doc_values.specs.Tree.{Forest}
use Rattle.guard_syntax.specs.Syntax.{File}
use Rattle.rule_generator.specs.GeneratedRules.{generated}
use Rattle.rule_printer.specs.RuleText.{rule_text}
use Rattle.guard_ends.specs.End.{IsYamlOf, ReadAsYaml}
use Rattle.guard_ends.specs.Inputs.{AreGenerated, HasSyntax, IsTemplate, IsTooLong, RefusesData, RefusesGenerated, RefusesUnnamed, format_of}
use Rattle.guard_ends.specs.Order.{Contents, Ended, Ending, Ends, Generating, OfSyntax, OfTemplate, Printing, Reading, Work, refused, written}
use Rattle.guard_ends.specs.declared.ends.Which.TheVariants as file
use Rattle.guard_laws.proofs.OneRules.{syntax-reading}
use Rattle.guard_laws.proofs.OneStage.{AreAmong, HasOne, NoYaml, OneReading, ending-is, ending-one, loaded, loading-one, read-goes, reading-more, reading-one}
use Rattle.guard_laws.proofs.OneSyntax.{OneSyntax}
use Rattle.guard_laws.proofs.OneText.{IsText}
use Rattle.guard_laws.proofs.OneTemplate.{OneTemplate, template-reading}

-- ---- rules of a template

-- no text is longer than rules may be and no longer
apart : (tree : Forest) (text : List ℕ) → IsTooLong rules_limit (generated tree) → AreGenerated tree text → ⊥
apart tree text long are =
    let within : length (generated tree) ≤ rules_limit = subst (λ (t : List ℕ). length t ≤ rules_limit) are.same are.within in
    omega (arith, long, within)

-- a tree has one text or one refusal
generated-reading : (IsYaml : ReadAsYaml) (tree : Forest) (bytes : List ℕ) → OneReading IsYaml (List ℕ) (λ read. RefusesGenerated tree) (λ read. AreGenerated tree) bytes
generated-reading IsYaml tree bytes = record {
  one = λ x y are are'. are.same ∙ sym are'.same;
  refusal = λ r q h h'. inl (ap (refused bytes) (h.0 ∙ sym h'.0));
  apart = λ r text h are. apart tree text h.1 are;
}

-- what is written is one text
text-one : (IsYaml : ReadAsYaml) (text : List ℕ) → HasOne IsYaml (Ending (λ e. e ≡ written text))
text-one IsYaml text = ending-one IsYaml (λ e. e ≡ written text) (λ e other is is'. is ∙ sym is')

module _ (told : Contents) (t bytes : List ℕ) (known : told t ≡ Some bytes) (one : OneTemplate bytes) where
  abbrev Writes : List ℕ → Work
  Writes text = Ending (λ e. e ≡ written text)

  abbrev Writes_rules : Forest → Work
  Writes_rules tree = Reading (λ read. RefusesGenerated tree) (λ read. AreGenerated tree) bytes Writes

  abbrev pub IsYaml : ReadAsYaml
  IsYaml = IsYamlOf file.Template told t

  among : AreAmong (IsText file.Template (format_of t) bytes) IsYaml
  among which read (is, same, yaml) = (is, (yaml, known ∙ ap Some (sym same)))

  reading-template : OneReading IsYaml Forest (RefusesData file.Template (format_of t)) (IsTemplate (format_of t)) bytes
  reading-template =
      reading-more (IsText file.Template (format_of t) bytes) IsYaml Forest (RefusesData file.Template (format_of t)) (IsTemplate (format_of t)) bytes among
      (template-reading file.Template (format_of t) bytes one)

  rules-same : (tree : Forest) → HasOne IsYaml (Writes_rules tree)
  rules-same tree =
      reading-one IsYaml (List ℕ) (λ read. RefusesGenerated tree) (λ read. AreGenerated tree) bytes Writes (generated-reading IsYaml tree bytes) (text-one IsYaml)

  pub template-same : HasOne IsYaml (OfTemplate told t)
  template-same =
      loading-one IsYaml file.Template told t bytes (Generating (format_of t)) known
      (reading-one IsYaml Forest (RefusesData file.Template (format_of t)) (IsTemplate (format_of t)) bytes Writes_rules
      reading-template rules-same)

  -- where the template is read, and its rules are no longer than rules may be, they are written
  pub template-goes : (tree : Forest) (text : List ℕ) → IsTemplate (format_of t) bytes tree → AreGenerated tree text
      → (e : Ended) → OfTemplate told t (Ends e) → e ≡ written text
  template-goes tree text whole are e came =
      ending-is (λ e. e ≡ written text) e
      (read-goes IsYaml (List ℕ) (λ read. RefusesGenerated tree) (λ read. AreGenerated tree) bytes Writes (generated-reading IsYaml tree bytes) text are e
      (read-goes IsYaml Forest (RefusesData file.Template (format_of t)) (IsTemplate (format_of t)) bytes Writes_rules
      reading-template tree whole e
      (loaded file.Template told t bytes (Generating (format_of t)) known e came)))

-- ---- rules that are read

module _ (law : OneSyntax) (told : Contents) (r source : List ℕ) (known : told r ≡ Some source) where
  abbrev Prints : File → Work
  Prints syntax_tree = Ending (λ e. e ≡ written (rule_text syntax_tree))

  pub syntax-same : HasOne NoYaml (OfSyntax told r)
  syntax-same =
      loading-one NoYaml file.Rules told r source Printing known
      (reading-one NoYaml File RefusesUnnamed HasSyntax source Prints (syntax-reading law source) (λ f. text-one NoYaml (rule_text f)))

  -- where they have a syntax, its text is written
  pub syntax-goes : (f : File) → HasSyntax source f → (e : Ended) → OfSyntax told r (Ends e) → e ≡ written (rule_text f)
  syntax-goes f whole e came =
      ending-is (λ e. e ≡ written (rule_text f)) e
      (read-goes NoYaml File RefusesUnnamed HasSyntax source Prints (syntax-reading law source) f whole e
      (loaded file.Rules told r source Printing known e came))
