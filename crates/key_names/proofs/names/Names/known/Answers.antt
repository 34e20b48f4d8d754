use Rattle.std.proofs.Common.{◌≡◌, [], Some, sym, ◌∙◌, append-nil}
use Rattle.std.specs.Prelude.{string_bytes}
use Rattle.key_names.specs.declared.names.Names.{Names}
use Rattle.key_names.specs.code.Names.{name_of, texts_of}
use Rattle.key_names.proofs.Table.{has_added}
use Rattle.key_names.proofs.names.Names.known.Goals as goal

pub returns-in-Some : goal.returns-in-Some
returns-in-Some c =
    let old : Names = c.args.self.now in
    let found : name_of old c.args.text.now ≡ Some c.in-Some.number = sym c.number.ensures ∙ c.in-Some.is in
    let at = c.requires.known c.args.text.now c.in-Some.number found in
    record { table = c.requires; more = []; grown = sym (append-nil (texts_of old)); within = at.0; text = at.1 }

pub returns : goal.returns
returns c = has_added c.args.self.now c.add.new.self (string_bytes c.in_ok-from_str.field-0) c.args.text.now c.add.result c.in_ok-from_str.ensures.ok c.add.ensures.ok
