use Rattle.rule_names.specs.code.Files.{file_of}
use Rattle.scope_frames.proofs.CellsApart.{names-told}
use Rattle.scope_frames.proofs.laws.cells_tell_names.Goals as goal

pub returns : goal.returns
returns c number scope one other stands given also ups slots =
    let file = c.args.frames.now.file.now in
    names-told (file_of file) file.named file.sites c.args.frames.now.entered.keys c.requires number scope stands one other given also ups slots
