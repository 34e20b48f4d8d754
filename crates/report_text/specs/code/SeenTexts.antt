-- The texts of the code, with their lines or without, as those in which places are told.
use Rattle.std.specs.Prelude.{option_map}
use Rattle.report_text.specs.Texts.{Parameters, Texts}
use Rattle.report_text.specs.declared.texts.LinedParams.{LinedParams}
use Rattle.report_text.specs.declared.texts.LinedTexts.{LinedTexts}
use Rattle.report_text.specs.declared.texts.Params.{Params}
use Rattle.report_text.specs.declared.texts.Texts as plain

abbrev pub see_params : Params → Parameters
see_params p = record { text = p.text.now; first = p.first }

abbrev pub see_texts : plain.Texts → Texts
see_texts t = record { rules = t.rules.now; template = t.template.now; params = option_map see_params t.params }

abbrev pub see_lined_params : LinedParams → Parameters
see_lined_params p = record { text = p.text.text.now; first = p.first }

abbrev pub see_lined : LinedTexts → Texts
see_lined t = record { rules = t.rules.text.now; template = t.template.text.now; params = option_map see_lined_params t.params }
