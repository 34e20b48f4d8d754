use Rattle.std.proofs.Common.{◌≡◌, ap, sym, ◌∙◌, true≢false}
use Rattle.std.specs.List.{list_all}
use Rattle.guard_syntax.specs.code.Seen.{see_part}
use Rattle.rule_meaning.specs.Places.{rows_at_type}
use Rattle.rule_meaning.specs.StoreModel.{is_known}
use Rattle.evidence_lookups.specs.code.Grounds.{file_in, known_of, lines_of}
use Rattle.evidence_lookups.proofs.SaidKnown.{value-said-known}
use Rattle.evidence_lookups.proofs.SitesWithin.{site-within}
use Rattle.evidence_rows.proofs.StepLines.{no-cites, rows-same}
use Rattle.evidence_rows.proofs.TypeLines.{kinds-seen, types-due, types-of-kind, types-uncited, types-unframed}
use Rattle.evidence_rows.proofs.rows.types_follow.Goals as goal

pub kinds-requires-clause-site : goal.kinds-requires-clause-site
kinds-requires-clause-site c = site-within (file_in c.args.context.now) c.args.line.site _ c.args.context.now.store.now.file.now.sites c.requires.placed

pub kinds-requires-clause-current : goal.kinds-requires-clause-current
kinds-requires-clause-current c = value-said-known (known_of c.args.context.now) (lines_of c.args.context.now) c.args.context.now.sound c.args.line.frame c.in-Some.current (sym c.in-Some.ensures)

pub returns-clause-follows : goal.returns-clause-follows
returns-clause-follows c =
    let due : c.in_ok-due.due.items ≡ rows_at_type (known_of c.args.context.now) c.args.line.site c.in-Some.current = c.in_ok-due.ensures.rows in
    types-due (known_of c.args.context.now) (lines_of c.args.context.now) c.args.line.frame c.args.line.site c.args.line.cites.now c.in-Some.current (sym c.in-Some.ensures) (no-cites c.args.line.cites.now c.in-empty.len_below)
    c.args.line.kind (see_part c.args.part.now) c.args.rows.now c.deref.result.now c.same_rows.result c.in-Types.is (kinds-seen c.args.part.now c.in-Kinds.site c.in-Kinds.name c.in-Kinds.cond c.in-Kinds.body c.in-Kinds.is)
    (c.deref.ensures.value ∙ due) c.same_rows.ensures

pub returns-clause-known : goal.returns-clause-known
returns-clause-known c = λ same.
    ap (list_all (is_known (known_of c.args.context.now))) (rows-same c.same_rows.result c.args.rows.now c.deref.result.now c.same_rows.ensures same ∙ c.deref.ensures.value) ∙ c.in_ok-due.ensures.known

pub returns-in_default : goal.returns-in_default
returns-in_default c = record { follows = λ more. types-of-kind (known_of c.args.context.now) (lines_of c.args.context.now) c.args.line.frame c.args.line.site c.args.line.cites.now c.args.line.kind (see_part c.args.part.now) c.args.rows.now more c.in_default.not-Types; known = λ e. absurd (true≢false (sym e)) }

pub returns-in_default-cites : goal.returns-in_default-cites
returns-in_default-cites c = record { follows = λ more. types-uncited (known_of c.args.context.now) (lines_of c.args.context.now) c.args.line.frame c.args.line.site c.args.line.cites.now c.args.line.kind (see_part c.args.part.now) c.args.rows.now more c.in_default-cites.len_at_least; known = λ e. absurd (true≢false (sym e)) }

pub returns-in_default-value_of : goal.returns-in_default-value_of
returns-in_default-value_of c = record { follows = λ more. types-unframed (known_of c.args.context.now) (lines_of c.args.context.now) c.args.line.frame c.args.line.site c.args.line.cites.now c.args.line.kind (see_part c.args.part.now) c.args.rows.now more c.in_default-value_of.ensures; known = λ e. absurd (true≢false (sym e)) }
