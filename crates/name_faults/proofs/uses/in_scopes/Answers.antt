use Rattle.std.proofs.Common.{◌∙◌, ap, sym}
use Rattle.std.proofs.lemmas.Result.{IfOk-weaker}
use Rattle.std.specs.declared.vec.Vec.{Vec}
use Rattle.std.specs.declared.alloc.Global.{Global}
use Rattle.guard_syntax.specs.code.Seen.{see_file}
use Rattle.guard_syntax.specs.declared.syntax.RawFile.{RawFile}
use Rattle.rule_names.specs.Scopes.{given_file}
use Rattle.name_scopes.specs.declared.scopes.Given.{Given}
use Rattle.name_scopes.specs.code.Seen.{see_best, see_given}
use Rattle.name_faults.specs.code.Found.{see_found}
use Rattle.name_faults.specs.code.FoundParts.{in_items}
use Rattle.name_faults.proofs.FoundInTurn.{file-found}
use Rattle.name_faults.proofs.uses.in_scopes.Goals as goal

pub in_items-requires : goal.in_items-requires
in_items-requires c =
    ap (λ (v : Vec Given Global). see_given v.items) c.in_ok-own.ensures.0
    ∙ c.in_ok-names.ensures
    ∙ ap (λ (f : RawFile). given_file (see_file f)) (sym c.in_ok-walk.ensures)

pub returns : goal.returns
returns c =
    IfOk-weaker c.in_items.result _ _ (λ found e. e
    ∙ ap (λ (f : RawFile). in_items (see_file f) (see_found c.in_ok-own.best)) c.in_ok-walk.ensures
    ∙ file-found (see_file c.args.file.now) (see_best c.args.again) (see_given c.in_ok-names.names.items) (see_found c.in_ok-own.best) c.in_ok-names.ensures c.in_ok-own.ensures.1) c.in_items.ensures
