use Rattle.std.proofs.Common.{◌∙◌, ap, sym}
use Rattle.rule_names.specs.Pieces.{piece_at}
use Rattle.rule_names.specs.code.Files.{file_of}
use Rattle.rule_names.specs.declared.file.RuleFile.{RuleFile}
use Rattle.evidence_lookups.proofs.line_context.LineContext.find.Goals as goal

pub returns : goal.returns
returns c = c.find.ensures ∙ ap (λ (f : RuleFile). piece_at (file_of f) c.args.site) (c.args.self.now.pieces_over ∙ sym c.args.self.now.store_over)
