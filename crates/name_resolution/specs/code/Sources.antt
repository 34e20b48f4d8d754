-- The file of which there are sources.
use Rattle.guard_syntax.specs.Syntax.{File}
use Rattle.guard_syntax.specs.code.Seen.{see_file}
use Rattle.name_resolution.specs.declared.resolution.sources.Sources.{Sources}

abbrev pub file_in : Sources → File
file_in sources = see_file sources.file.now
