use Rattle.std.proofs.Common.{◌≡◌, ℕ, List, [], Some, refl, sym, ap, ◌∙◌, append-nil}
use Rattle.std.specs.Cow.{cow_str_bytes}
use Rattle.key_names.specs.declared.names.Names.{Names}
use Rattle.key_names.specs.code.Names.{name_of, texts_of}
use Rattle.key_names.proofs.Table.{has_added}
use Rattle.key_names.proofs.names.Names.take_in.Goals as goal

pub returns-in-Some : goal.returns-in-Some
returns-in-Some c =
    let old : Names = c.args.self.now in
    let k : List ℕ = cow_str_bytes c.args.text in
    let found : name_of old k ≡ Some c.in-Some.number = ap (name_of old) (sym c.as_str.ensures.value) ∙ sym c.found.ensures ∙ c.in-Some.is in
    let at = c.requires.known k c.in-Some.number found in
    record { table = c.requires; more = []; grown = sym (append-nil (texts_of old)); within = at.0; text = at.1 }

pub returns : goal.returns
returns c = has_added c.args.self.now c.add.new.self (cow_str_bytes c.args.text) (cow_str_bytes c.args.text) c.add.result refl c.add.ensures.ok
