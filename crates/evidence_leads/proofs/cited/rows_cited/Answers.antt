use Rattle.std.proofs.Common.{◌∙◌, ap, sym, [], Some, is_some}
use Rattle.std.specs.Option.{option_map_or}
use Rattle.std.proofs.lemmas.Option.{slice_get-get_or}
use Rattle.evidence_truth.specs.code.LineFails.{rows_of_line}
use Rattle.evidence_leads.proofs.KnownRows.{got-past}
use Rattle.evidence_leads.proofs.cited.rows_cited.Goals as goal

pub returns-in-Some : goal.returns-in-Some
returns-in-Some c known =
    c.rows_of_line.ensures known
    ∙ sym (ap (λ o. option_map_or (rows_of_line known c.args.lines.now) o [])
    (slice_get-get_or c.args.cites.now c.args.index c.in-Some.cite.now c.in-Some.ensures.lookup.3.0 ∙ sym (ap Some c.in-Some.ensures.lookup.1)))

pub returns-in-None : goal.returns-in-None
returns-in-None c known =
    c.new.ensures
    ∙ sym (ap (λ o. option_map_or (rows_of_line known c.args.lines.now) o []) (got-past c.args.cites.now c.args.index (sym c.get.ensures.lookup.0 ∙ ap is_some c.in-None.is)))
