use Rattle.std.proofs.Common.{◌≡◌, ℕ, List, [], ◌∷◌, ◌++◌, map, length, ap, refl, ◌∙◌, arith, subst}
use Rattle.std.specs.Cow.{cow_str_bytes}
use Rattle.std.specs.declared.borrow.CowStr.{CowStr}
use Rattle.std.specs.declared.alloc.Global.{Global}
use Rattle.std.proofs.lemmas.List.{length-map, map_push}
use Rattle.key_names.specs.code.NameSlots.{AreNumbered}
use Rattle.key_names.specs.code.Names.{texts_of}
use Rattle.key_names.specs.declared.names.Names.{Names}
use Rattle.key_names.proofs.Table.{IsNew, IsTable-new, IsSame-of, numbered, on_err}
use Rattle.key_names.proofs.names.Names.add.Goals as goal

pub returns-in_err-reserve-clause-err : goal.returns-in_err-reserve-clause-err
returns-in_err-reserve-clause-err c =
    let old : Names = c.args.self.now in
    on_err c.from_residual.result (IsSame-of old (record { texts = c.reserve.new.self; numbers = old.numbers; followers = old.followers; before = old.before; alloc = old.alloc }) (numbered old c.requires.table) c.reserve.ensures.items refl refl c.requires.table, refl)

pub returns-in_err-reserve-2-clause-err : goal.returns-in_err-reserve-2-clause-err
returns-in_err-reserve-2-clause-err c =
    let old : Names = c.args.self.now in
    on_err c.from_residual-in_err-reserve-2.result (IsSame-of old (record { texts = c.reserve.new.self; numbers = old.numbers; followers = c.reserve-2.new.self; before = old.before; alloc = old.alloc }) (numbered old c.requires.table) c.reserve.ensures.items c.reserve-2.ensures.items refl c.requires.table, refl)

pub returns-in_err-insert-clause-err : goal.returns-in_err-insert-clause-err
returns-in_err-insert-clause-err c =
    let old : Names = c.args.self.now in
    let new : Names = record { texts = c.reserve.new.self; numbers = c.insert.new.self; followers = c.reserve-2.new.self; before = old.before; alloc = old.alloc } in
    let texts : c.deref.result.now ≡ old.texts.items = c.deref.ensures.value ∙ c.reserve.ensures.items in
    let h = subst (λ (ts : List (CowStr Global)). AreNumbered (map cow_str_bytes ts) c.insert.new.self) texts c.in_err-insert.ensures.err in
    on_err c.from_residual-in_err-insert.result (IsSame-of old new h c.reserve.ensures.items c.reserve-2.ensures.items refl c.requires.table, refl)

pub returns-clause-ok : goal.returns-clause-ok
returns-clause-ok c =
    let old : Names = c.args.self.now in
    let new : Names = record { texts = c.push_reserved-2.new.self; numbers = c.insert.new.self; followers = c.push_reserved.new.self; before = old.before; alloc = old.alloc } in
    let k : List ℕ = cow_str_bytes c.args.text.now in
    let number : c.len-count.result ≡ length (texts_of old) = omega (arith, length-map old.texts.items cow_str_bytes) in
    let before : c.deref.result.now ≡ old.texts.items = c.deref.ensures.value ∙ c.reserve.ensures.items in
    let texts : texts_of new ≡ texts_of old ++ k ∷ [] =
    ap (map cow_str_bytes) (c.push_reserved-2.ensures.items ∙ ap (λ xs. xs ++ c.replace.result ∷ []) c.reserve.ensures.items)
    ∙ map_push cow_str_bytes old.texts.items c.replace.result
    ∙ ap (λ t. texts_of old ++ cow_str_bytes t ∷ []) c.replace.ensures.value in
    let is : IsNew old new k = record {
      numbered = subst (λ (t : List ℕ). AreNumbered (texts_of old ++ t ∷ []) c.insert.new.self) c.as_str.ensures.value (subst (λ (ts : List (CowStr Global)). AreNumbered (map cow_str_bytes ts ++ c.as_str.result.now ∷ []) c.insert.new.self) before c.in_ok-insert.ensures.ok);
      texts = texts;
      followers = c.push_reserved.ensures.items ∙ ap (λ (xs : List ℕ). xs ++ 0 ∷ []) c.reserve-2.ensures.items;
      before = refl;
    } in
    (number, record { table = IsTable-new old new k c.requires.table is; texts = texts })
