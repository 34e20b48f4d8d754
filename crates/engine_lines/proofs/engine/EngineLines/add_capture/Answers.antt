use Rattle.std.proofs.Common.{◌≡◌, ◌∙◌, ◌++◌, ap, subst, ℕ, List, [], ◌∷◌}
use Rattle.std.specs.List.{flat_map, list_all}
use Rattle.std.proofs.lemmas.Result.{IfOk-weaker}
use Rattle.evidence_lines.specs.declared.line.LineKind.TheVariants as kind
use Rattle.evidence_lines.specs.declared.line.Outcome.TheVariants as says
use Rattle.rule_meaning.specs.Keys.{captured_row}
use Rattle.rule_meaning.specs.StoreModel.{is_known}
use Rattle.engine_states.specs.code.Adding.{Added}
use Rattle.engine_states.specs.code.Kinds.{kind_beside}
use Rattle.engine_states.proofs.StepsAdded.{capture-adds, captured-known, captured-rows}
use Rattle.engine_lines.specs.code.Lines.{see_lines}
use Rattle.engine_lines.proofs.engine.EngineLines.add_capture.Goals as goal

pub rows_said-requires : goal.rows_said-requires
rows_said-requires c =
    let had = captured-rows (see_lines c.args.self.now) c.requires.whole c.args.frame c.args.site c.args.line c.requires.stands c.requires.step in
    (had.1.0, had.1.1, had.1.2, had.0, had.1.3)

pub captured-requires : goal.captured-requires
captured-requires c =
    let s = see_lines c.args.self.now in
    let had = captured-rows s c.requires.whole c.args.frame c.args.site c.args.line c.requires.stands c.requires.step in
    record {
      known =
          ap (list_all (is_known s.known)) (c.as_slice.ensures ∙ c.in_ok-said.ensures ∙ c.rows_said.ensures had.1.0 had.1.1 had.1.2 had.0 had.1.3)
          ∙ captured-known s c.requires.whole c.args.frame c.args.site c.args.line c.requires.stands c.requires.step;
    }

pub add_beside-requires-clause-kind : goal.add_beside-requires-clause-kind
add_beside-requires-clause-kind c = ap kind_beside c.requires.stands.2.there

pub add_beside-requires-clause-adds : goal.add_beside-requires-clause-adds
add_beside-requires-clause-adds c =
    let s = see_lines c.args.self.now in
    let had = captured-rows s c.requires.whole c.args.frame c.args.site c.args.line c.requires.stands c.requires.step in
    capture-adds s c.requires.whole c.args.frame c.args.site c.args.line c.requires.stands c.requires.step c.push.new.self.items
    (c.in_ok-push.ensures.items ∙ ap (λ (cs : List ℕ). cs ++ c.args.line ∷ []) c.new-cites.ensures.items) c.new.result
    (c.new.ensures ∙ c.deref.ensures.value ∙ c.in_ok-rows.ensures.rows ∙ ap (flat_map (captured_row s.known)) (c.as_slice.ensures ∙ c.in_ok-said.ensures ∙ c.rows_said.ensures had.1.0 had.1.1 had.1.2 had.0 had.1.3))
    (ap (list_all (is_known s.known)) (c.new.ensures ∙ c.deref.ensures.value) ∙ c.in_ok-rows.ensures.known)

pub returns : goal.returns
returns c =
    let cites : c.push.new.self.items ≡ c.args.line ∷ [] = c.in_ok-push.ensures.items ∙ ap (λ (cs : List ℕ). cs ++ c.args.line ∷ []) c.new-cites.ensures.items in
    IfOk-weaker c.add_beside.result _ _ (λ number added. (
      c.new.result,
      subst (λ (cs : List ℕ). Added (see_lines c.args.self.now) (see_lines c.add_beside.new.self) c.args.frame c.args.site kind.Capture cs (says.Rows c.new.result) number) cites added,
    )) c.add_beside.ensures
