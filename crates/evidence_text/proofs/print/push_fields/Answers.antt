use Rattle.std.proofs.Common.{◌≡◌, ◌++◌, ◌∷◌, [], ℕ, List}
use Rattle.std.proofs.lemmas.List.{append_assoc}
use Rattle.std.proofs.lemmas.Result.{IfOk-equal}
use Rattle.evidence_text.specs.Spelling.{behind_space, fields_text, outcome_text}
use Rattle.evidence_text.proofs.print.push_fields.Goals as goal

-- the fields, appended one after another
joined : (before kind frame site cites outcome : List ℕ)
    → ((((((((before ++ kind) ++ 32 ∷ []) ++ frame) ++ 32 ∷ []) ++ site) ++ 32 ∷ []) ++ cites) ++ 32 ∷ []) ++ outcome
    ≡ before ++ (kind ++ behind_space (frame ++ behind_space (site ++ behind_space (cites ++ behind_space outcome))))
joined before kind frame site cites outcome = simp append_assoc

pub returns-clause-printed : goal.returns-clause-printed
returns-clause-printed c =
    let pieces : c.push-4.new.self.items ++ outcome_text c.args.line.now.outcome ≡ c.args.text.now.items ++ fields_text c.args.line.now =
    rw (c.in_ok-push-4.ensures.items, c.in_ok-push_cites.ensures.printed, c.as_slice.ensures, c.in_ok-push-3.ensures.items, c.in_ok-push_site.ensures.printed) (
    rw (c.in_ok-push-2.ensures.items, c.in_ok-push_frame.ensures.printed, c.in_ok-push.ensures.items, c.in_ok-extend_from_slice.ensures.items, c.as_bytes.ensures.value, c.kind_name.ensures)
    (joined _ _ _ _ _ _)
    ) in
    IfOk-equal c.push_outcome.result c.push_outcome.new.text.items (c.push-4.new.self.items ++ outcome_text c.args.line.now.outcome)
    (c.args.text.now.items ++ fields_text c.args.line.now) c.push_outcome.ensures.printed pieces
