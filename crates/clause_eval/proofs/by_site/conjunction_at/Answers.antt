use Rattle.std.proofs.Common.{◌∙◌, ap, sym}
use Rattle.std.proofs.lemmas.Option.{none-some}
use Rattle.rule_names.specs.Pieces.{piece_at}
use Rattle.rule_names.specs.code.Files.{file_of}
use Rattle.engine_states.proofs.ConjunctionsSited.{only-conjoined}
use Rattle.engine_lines.specs.code.Lines.{see_lines}
use Rattle.clause_eval.proofs.by_site.conjunction_at.Goals as goal

pub unreachable-requires : goal.unreachable-requires
unreachable-requires c =
    let none = ap (λ f. piece_at (file_of f) c.args.site) c.args.engine.now.store_over ∙ sym c.in_default.ensures in
    none-some c.requires.stands.0 (sym none ∙ c.requires.stands.1.there)

pub unreachable-requires-in_default-piece : goal.unreachable-requires-in_default-piece
unreachable-requires-in_default-piece c =
    let is = ap (λ f. piece_at (file_of f) c.args.site) c.args.engine.now.store_over ∙ sym c.in-Some.ensures in
    only-conjoined (see_lines c.args.engine.now) c.args.frame c.args.site c.requires.stands c.in-Some.piece is c.in_default-piece.not-File c.in_default-piece.not-Body c.in_default-piece.not-Conds
