use Rattle.std.proofs.Common.{◌∙◌, ◌<◌, sym, ap, subst, length}
use Rattle.std.specs.List.{list_all}
use Rattle.std.proofs.lemmas.Result.{IfOk-weaker}
use Rattle.guard_syntax.specs.Syntax.{File, kinds}
use Rattle.rule_names.specs.Pieces.{OfPart}
use Rattle.rule_names.specs.code.Files.{file_of}
use Rattle.rule_meaning.specs.Places.{IsTypeAt}
use Rattle.rule_meaning.specs.StoreModel.{is_known}
use Rattle.engine_states.proofs.PartsAdded.{types-adds, types-answer, types-current, types-found, types-frame, types-kind, types-parts, types-stand}
use Rattle.engine_states.proofs.SitesWithin.{site-within}
use Rattle.engine_lines.specs.code.Lines.{see_lines}
use Rattle.engine_lines.proofs.engine.EngineLines.types.Goals as goal

pub returns-in-Some-clause-said : goal.returns-in-Some-clause-said
returns-in-Some-clause-said c = types-found (see_lines c.args.self.now) c.requires.whole c.args.frame c.args.site c.requires.stands c.in-Some.line (sym c.in-Some.ensures)

pub current-requires : goal.current-requires
current-requires c = types-frame (see_lines c.args.self.now) c.requires.whole c.args.frame c.args.site c.requires.stands

pub kinds-requires-clause-site : goal.kinds-requires-clause-site
kinds-requires-clause-site c =
    let s = see_lines c.args.self.now in
    subst (λ (f : File). c.args.site < length f.places) (ap file_of c.args.self.now.store_over)
    (site-within s.known.file c.args.self.now.store.file.now.sites c.args.site (OfPart (kinds c.args.site c.requires.stands.2.0 c.requires.stands.0 c.requires.stands.1)) c.requires.stands.2.1.there)

pub kinds-requires-clause-kinds : goal.kinds-requires-clause-kinds
kinds-requires-clause-kinds c =
    subst (λ (f : File). IsTypeAt f c.args.site) (ap file_of c.args.self.now.store_over)
    (types-stand (see_lines c.args.self.now) c.requires.whole c.args.frame c.args.site c.requires.stands)

pub kinds-requires-clause-current : goal.kinds-requires-clause-current
kinds-requires-clause-current c = types-current (see_lines c.args.self.now) c.requires.whole c.args.frame c.args.site c.requires.stands c.current.result c.current.ensures

pub add_beside-requires-clause-kind : goal.add_beside-requires-clause-kind
add_beside-requires-clause-kind c = types-kind (see_lines c.args.self.now) c.requires.whole c.args.frame c.args.site c.requires.stands

pub add_beside-requires-clause-adds : goal.add_beside-requires-clause-adds
add_beside-requires-clause-adds c =
    let s = see_lines c.args.self.now in
    types-adds s c.requires.whole c.args.frame c.args.site c.requires.stands c.current.result c.current.ensures c.new.result.items c.new.ensures.items c.new-2.result
    (c.new-2.ensures ∙ c.deref.ensures.value ∙ c.in_ok-rows.ensures.rows) (ap (list_all (is_known s.known)) (c.new-2.ensures ∙ c.deref.ensures.value) ∙ c.in_ok-rows.ensures.known)

pub returns-clause-said : goal.returns-clause-said
returns-clause-said c =
    IfOk-weaker c.add_beside.result _ _
    (λ number added.
    types-answer (see_lines c.args.self.now) c.requires.whole c.args.frame c.args.site c.requires.stands (see_lines c.add_beside.new.self) c.new.result.items c.new-2.result number added)
    c.add_beside.ensures

pub returns-clause-parts : goal.returns-clause-parts
returns-clause-parts c =
    types-parts (see_lines c.args.self.now) c.requires.whole c.args.frame c.args.site c.requires.stands (see_lines c.add_beside.new.self) c.add_beside.result c.new.result.items c.new-2.result
    c.add_beside.ensures

pub kinds-requires-clause-file : goal.kinds-requires-clause-file
kinds-requires-clause-file c = ap file_of c.args.self.now.store_over
