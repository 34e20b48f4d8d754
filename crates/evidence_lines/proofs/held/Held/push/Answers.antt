use Rattle.std.proofs.Common.{◌≡◌, ◌∙◌, ◌++◌, ◌∷◌, [], ap, refl, sym}
use Rattle.std.proofs.lemmas.List.{append-nil}
use Rattle.evidence_lines.specs.code.Held.{see_line, see_lines}
use Rattle.evidence_lines.specs.declared.held.Held.{Held}
use Rattle.evidence_lines.specs.declared.held.HeldLine.{HeldLine}
use Rattle.evidence_lines.specs.declared.line.Line.{Line}
use Rattle.evidence_lines.proofs.HeldLines.{added-held, added-line, kept-held, kept-lines, line-as, on-err}
use Rattle.evidence_lines.proofs.held.Held.push.Goals as goal

pub returns-in_err-cites-clause-held : goal.returns-in_err-cites-clause-held
returns-in_err-cites-clause-held c =
    let a = c.args.self.now in
    let b : Held = record { lines = a.lines; cites = c.hold_cites.new.into; cite_spans = c.hold_cites.new.spans; rows = a.rows; nodes = a.nodes; row_spans = a.row_spans; places = a.places; remembered = a.remembered } in
    kept-held a b c.hold_cites.ensures.more.0 c.hold_cites.ensures.spans.0 [] [] [] [] c.hold_cites.ensures.more.1 c.hold_cites.ensures.spans.1 (sym (append-nil a.rows.items)) (sym (append-nil a.nodes.items)) (sym (append-nil a.row_spans.items))
    (sym (append-nil a.places.items)) c.requires refl

pub returns-in_err-cites-clause-kept : goal.returns-in_err-cites-clause-kept
returns-in_err-cites-clause-kept c =
    let a = c.args.self.now in
    let b : Held = record { lines = a.lines; cites = c.hold_cites.new.into; cite_spans = c.hold_cites.new.spans; rows = a.rows; nodes = a.nodes; row_spans = a.row_spans; places = a.places; remembered = a.remembered } in
    on-err c.from_residual.result (see_lines b ≡ see_lines a)
    (kept-lines a b c.hold_cites.ensures.more.0 c.hold_cites.ensures.spans.0 [] [] [] [] c.hold_cites.ensures.more.1 c.hold_cites.ensures.spans.1 (sym (append-nil a.rows.items)) (sym (append-nil a.nodes.items)) (sym (append-nil a.row_spans.items))
    (sym (append-nil a.places.items)) c.requires refl)

pub returns-in_err-said-clause-held : goal.returns-in_err-said-clause-held
returns-in_err-said-clause-held c =
    let a = c.args.self.now in
    let b : Held = record { lines = a.lines; cites = c.hold_cites.new.into; cite_spans = c.hold_cites.new.spans; rows = c.hold_outcome.new.into; nodes = c.hold_outcome.new.nodes; row_spans = c.hold_outcome.new.spans; places = a.places; remembered = c.hold_outcome.new.remembered } in
    kept-held a b c.hold_cites.ensures.more.0 c.hold_cites.ensures.spans.0 c.hold_outcome.ensures.more.0 c.hold_outcome.ensures.nodes.0 c.hold_outcome.ensures.spans.0 [] c.hold_cites.ensures.more.1 c.hold_cites.ensures.spans.1
    c.hold_outcome.ensures.more.1 c.hold_outcome.ensures.nodes.1 c.hold_outcome.ensures.spans.1 (sym (append-nil a.places.items)) c.requires refl

pub returns-in_err-said-clause-kept : goal.returns-in_err-said-clause-kept
returns-in_err-said-clause-kept c =
    let a = c.args.self.now in
    let b : Held = record { lines = a.lines; cites = c.hold_cites.new.into; cite_spans = c.hold_cites.new.spans; rows = c.hold_outcome.new.into; nodes = c.hold_outcome.new.nodes; row_spans = c.hold_outcome.new.spans; places = a.places; remembered = c.hold_outcome.new.remembered } in
    on-err c.from_residual-in_err-said.result (see_lines b ≡ see_lines a)
    (kept-lines a b c.hold_cites.ensures.more.0 c.hold_cites.ensures.spans.0 c.hold_outcome.ensures.more.0 c.hold_outcome.ensures.nodes.0 c.hold_outcome.ensures.spans.0 [] c.hold_cites.ensures.more.1 c.hold_cites.ensures.spans.1
    c.hold_outcome.ensures.more.1 c.hold_outcome.ensures.nodes.1 c.hold_outcome.ensures.spans.1 (sym (append-nil a.places.items)) c.requires refl)

pub returns-in_err-place-clause-held : goal.returns-in_err-place-clause-held
returns-in_err-place-clause-held c =
    let a = c.args.self.now in
    let b : Held = record { lines = a.lines; cites = c.hold_cites.new.into; cite_spans = c.hold_cites.new.spans; rows = c.hold_outcome.new.into; nodes = c.hold_outcome.new.nodes; row_spans = c.hold_outcome.new.spans; places = c.hold_place.new.into; remembered = c.hold_outcome.new.remembered } in
    kept-held a b c.hold_cites.ensures.more.0 c.hold_cites.ensures.spans.0 c.hold_outcome.ensures.more.0 c.hold_outcome.ensures.nodes.0 c.hold_outcome.ensures.spans.0 c.hold_place.ensures.more.0 c.hold_cites.ensures.more.1
    c.hold_cites.ensures.spans.1 c.hold_outcome.ensures.more.1 c.hold_outcome.ensures.nodes.1 c.hold_outcome.ensures.spans.1 c.hold_place.ensures.more.1 c.requires refl

pub returns-in_err-place-clause-kept : goal.returns-in_err-place-clause-kept
returns-in_err-place-clause-kept c =
    let a = c.args.self.now in
    let b : Held = record { lines = a.lines; cites = c.hold_cites.new.into; cite_spans = c.hold_cites.new.spans; rows = c.hold_outcome.new.into; nodes = c.hold_outcome.new.nodes; row_spans = c.hold_outcome.new.spans; places = c.hold_place.new.into; remembered = c.hold_outcome.new.remembered } in
    on-err c.from_residual-in_err-place.result (see_lines b ≡ see_lines a)
    (kept-lines a b c.hold_cites.ensures.more.0 c.hold_cites.ensures.spans.0 c.hold_outcome.ensures.more.0 c.hold_outcome.ensures.nodes.0 c.hold_outcome.ensures.spans.0 c.hold_place.ensures.more.0 c.hold_cites.ensures.more.1
    c.hold_cites.ensures.spans.1 c.hold_outcome.ensures.more.1 c.hold_outcome.ensures.nodes.1 c.hold_outcome.ensures.spans.1 c.hold_place.ensures.more.1 c.requires refl)

pub returns-in_err-push-clause-held : goal.returns-in_err-push-clause-held
returns-in_err-push-clause-held c =
    let a = c.args.self.now in
    let b : Held = record { lines = c.push.new.self; cites = c.hold_cites.new.into; cite_spans = c.hold_cites.new.spans; rows = c.hold_outcome.new.into; nodes = c.hold_outcome.new.nodes; row_spans = c.hold_outcome.new.spans; places = c.hold_place.new.into; remembered = c.hold_outcome.new.remembered } in
    kept-held a b c.hold_cites.ensures.more.0 c.hold_cites.ensures.spans.0 c.hold_outcome.ensures.more.0 c.hold_outcome.ensures.nodes.0 c.hold_outcome.ensures.spans.0 c.hold_place.ensures.more.0 c.hold_cites.ensures.more.1
    c.hold_cites.ensures.spans.1 c.hold_outcome.ensures.more.1 c.hold_outcome.ensures.nodes.1 c.hold_outcome.ensures.spans.1 c.hold_place.ensures.more.1 c.requires c.in_err-push.ensures.items

pub returns-in_err-push-clause-kept : goal.returns-in_err-push-clause-kept
returns-in_err-push-clause-kept c =
    let a = c.args.self.now in
    let b : Held = record { lines = c.push.new.self; cites = c.hold_cites.new.into; cite_spans = c.hold_cites.new.spans; rows = c.hold_outcome.new.into; nodes = c.hold_outcome.new.nodes; row_spans = c.hold_outcome.new.spans; places = c.hold_place.new.into; remembered = c.hold_outcome.new.remembered } in
    on-err c.from_residual-in_err-push.result (see_lines b ≡ see_lines a)
    (kept-lines a b c.hold_cites.ensures.more.0 c.hold_cites.ensures.spans.0 c.hold_outcome.ensures.more.0 c.hold_outcome.ensures.nodes.0 c.hold_outcome.ensures.spans.0 c.hold_place.ensures.more.0 c.hold_cites.ensures.more.1
    c.hold_cites.ensures.spans.1 c.hold_outcome.ensures.more.1 c.hold_outcome.ensures.nodes.1 c.hold_outcome.ensures.spans.1 c.hold_place.ensures.more.1 c.requires c.in_err-push.ensures.items)

pub returns-clause-held : goal.returns-clause-held
returns-clause-held c =
    let a = c.args.self.now in
    let b : Held = record { lines = c.push.new.self; cites = c.hold_cites.new.into; cite_spans = c.hold_cites.new.spans; rows = c.hold_outcome.new.into; nodes = c.hold_outcome.new.nodes; row_spans = c.hold_outcome.new.spans; places = c.hold_place.new.into; remembered = c.hold_outcome.new.remembered } in
    let l : HeldLine = record {
      kind = c.args.line.kind;
      place = c.in_ok-place.place.form;
      cites = c.in_ok-cites.cites.form;
      said = c.in_ok-said.said.form;
      frame = c.in_ok-place.place.frame;
      site = c.in_ok-place.place.site;
      cites_at = c.in_ok-cites.cites.at;
      said_at = c.in_ok-said.said.at;
    } in
    added-held a b c.hold_cites.ensures.more.0 c.hold_cites.ensures.spans.0 c.hold_outcome.ensures.more.0 c.hold_outcome.ensures.nodes.0 c.hold_outcome.ensures.spans.0 c.hold_place.ensures.more.0 c.hold_cites.ensures.more.1
    c.hold_cites.ensures.spans.1 c.hold_outcome.ensures.more.1 c.hold_outcome.ensures.nodes.1 c.hold_outcome.ensures.spans.1 c.hold_place.ensures.more.1 c.requires l
    c.in_ok-push.ensures.items (record { cited = c.in_ok-cites.ensures.held.0; said = c.in_ok-said.ensures.held.0; placed = c.in_ok-place.ensures.held.0 })

pub returns-clause-added : goal.returns-clause-added
returns-clause-added c =
    let a = c.args.self.now in
    let b : Held = record { lines = c.push.new.self; cites = c.hold_cites.new.into; cite_spans = c.hold_cites.new.spans; rows = c.hold_outcome.new.into; nodes = c.hold_outcome.new.nodes; row_spans = c.hold_outcome.new.spans; places = c.hold_place.new.into; remembered = c.hold_outcome.new.remembered } in
    let l : HeldLine = record {
      kind = c.args.line.kind;
      place = c.in_ok-place.place.form;
      cites = c.in_ok-cites.cites.form;
      said = c.in_ok-said.said.form;
      frame = c.in_ok-place.place.frame;
      site = c.in_ok-place.place.site;
      cites_at = c.in_ok-cites.cites.at;
      said_at = c.in_ok-said.said.at;
    } in
    added-line a b c.hold_cites.ensures.more.0 c.hold_cites.ensures.spans.0 c.hold_outcome.ensures.more.0 c.hold_outcome.ensures.nodes.0 c.hold_outcome.ensures.spans.0 c.hold_place.ensures.more.0 c.hold_cites.ensures.more.1
    c.hold_cites.ensures.spans.1 c.hold_outcome.ensures.more.1 c.hold_outcome.ensures.nodes.1 c.hold_outcome.ensures.spans.1 c.hold_place.ensures.more.1 c.requires l
    c.in_ok-push.ensures.items (record { cited = c.in_ok-cites.ensures.held.0; said = c.in_ok-said.ensures.held.0; placed = c.in_ok-place.ensures.held.0 })
    ∙ ap (λ (x : Line). see_lines a ++ x ∷ []) (line-as (see_line b.cites.items b.cite_spans.items b.rows.items b.nodes.items b.row_spans.items b.places.items l) c.args.line refl c.in_ok-place.ensures.held.1 c.in_ok-place.ensures.held.2
    (c.in_ok-cites.ensures.held.1 ∙ c.as_slice.ensures) c.in_ok-said.ensures.held.1)
