use Rattle.std.proofs.Common.{◌∙◌, ap, sym}
use Rattle.std.proofs.lemmas.Result.{IfOk-weaker}
use Rattle.std.specs.declared.vec.Vec.{Vec}
use Rattle.std.specs.declared.alloc.Global.{Global}
use Rattle.guard_syntax.specs.code.Seen.{see_file}
use Rattle.guard_syntax.specs.declared.syntax.RawFile.{RawFile}
use Rattle.name_scopes.specs.declared.scopes.Given as scope
use Rattle.name_scopes.specs.code.Seen.{see_given}
use Rattle.rule_names.specs.Resolution.{links_in}
use Rattle.rule_names.specs.Scopes.{given_file}
use Rattle.name_resolution.proofs.resolution.links_in.Goals as goal

pub links_among-requires : goal.links_among-requires
links_among-requires c =
    ap (λ (v : Vec scope.Given Global). see_given v.items) c.in_ok-own.ensures
    ∙ c.in_ok-file_names.ensures
    ∙ ap (λ (f : RawFile). given_file (see_file f)) (sym c.in_ok-sources.ensures)

pub returns : goal.returns
returns c = IfOk-weaker c.links_among.result _ _ (λ found e. e ∙ ap (λ (f : RawFile). links_in (see_file f)) c.in_ok-sources.ensures) c.links_among.ensures
