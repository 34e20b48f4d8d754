use Rattle.std.proofs.Common.{◌≡◌, ◌≤◌, length, ap, subst, sym, ◌∙◌}
use Rattle.std.specs.List.{AllByRecursion}
use Rattle.doc_values.specs.Limits.{rules_limit}
use Rattle.doc_values.specs.Tree.{IsTree}
use Rattle.guard_syntax.specs.Syntax.{File, Rule}
use Rattle.guard_syntax.specs.declared.row.Verdict.TheVariants.{Pass}
use Rattle.literal_parser.specs.Lexemes.{lexemes}
use Rattle.generator_laws.proofs.FileRead.{file-read, rules-few}
use Rattle.generator_laws.proofs.NamedFile.{file-passes}
use Rattle.generator_laws.proofs.WellNamedFile.{file-named}
use Rattle.generator_laws.proofs.Writable.{rules_writable}
use Rattle.generator_laws.proofs.generated_text_is_rule_file.Goals as goal
use Rattle.generator_laws.specs.code.GeneratedSyntax.{Places, generated_file}
use Rattle.generator_laws.specs.code.Standing.{first_of_site, places_of}
use Rattle.rule_generator.proofs.GeneratedTokens.{tokens_are}
use Rattle.rule_generator.specs.GeneratedRules.{generated, rules_of}
use Rattle.rule_generator.specs.code.GeneratedPieces.{generated_pieces}
use Rattle.rule_meaning.specs.NameMeaning.{rule_verdict}
use Rattle.rule_spelling.specs.code.Pieces.{tokens_from}

pub returns : goal.returns
returns c = λ tree one range short.
    let few = rules-few tree short in
    let tokens = tokens_from 0 (generated_pieces tree) in
    let places : Places = places_of (lexemes (generated tree) tokens) (first_of_site (rules_of tree)) in (
      tokens,
      generated_file places tree,
      tokens_are tree (rules_writable tree range) short,
      file-read tree one few,
      file-named places tree few,
      λ world template file.
          subst (λ (f : File). AllByRecursion (λ (rule : Rule). rule_verdict world rule ≡ Pass) f.rules) file
          (file-passes world places (subst IsTree (sym template) one) (file ∙ ap (generated_file places) (sym template)) (rules-few world.template (subst (λ t. length (generated t) ≤ rules_limit) (sym template) short))),
    )
