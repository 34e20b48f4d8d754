use Rattle.std.proofs.Common.{◌<◌, ◌≤◌, ℕ, List, Err, ap, arith, inl, inr, length, refl, subst}
use Rattle.std.proofs.lemmas.Grind.{common_steps}
use Rattle.guard_ends.specs.Order.{Ends, IsContent}
use Rattle.guard_ends.specs.declared.ends.Refusal.TheVariants.{TooLong}
use Rattle.guard_inputs.specs.code.Loading.{limit_of}
use Rattle.guard_inputs.proofs.Loads.{loaded-whole, loaded-long}
use Rattle.guard_inputs.proofs.load.load_bytes.Goals as goal

pub returns-in-Err-Failed-clause-loaded : goal.returns-in-Err-Failed-clause-loaded
returns-in-Err-Failed-clause-loaded g c = (c.args.name.now, inl refl, c.in-Err-Failed.ensures.failed (ap Err c.in-Err-Failed.field-0-is))

pub returns-then-len-limit-clause-loaded : goal.returns-then-len-limit-clause-loaded
returns-then-len-limit-clause-loaded g c =
    let told = g.F.Files.content c.args.files.now c.args.name.now in
    let long : c.limit_of-limit.result < length c.load.new.into.items = grind (arith, common_steps) in
    let found : (content : List ℕ) × IsContent told content × (c.limit_of-limit.result < length content) =
    loaded-long told c.new-bytes.result.items c.load.new.into.items c.limit_of-limit.result c.new-bytes.ensures.items c.in-Ok.ensures.ok long in
    let past : limit_of c.args.which < length found.0 = subst (λ n. n < length found.0) c.limit_of-limit.ensures.limit found.2 in
    inr (found.0, found.1, (TooLong c.args.which, (refl, past), ap Ends (c.too_long.ensures found.0)))

pub returns-clause-loaded : goal.returns-clause-loaded
returns-clause-loaded g c =
    let within : length c.load.new.into.items ≤ c.limit_of-limit.result = grind (arith, common_steps) in (
      loaded-whole (g.F.Files.content c.args.files.now c.args.name.now) c.new-bytes.result.items c.load.new.into.items c.limit_of-limit.result
          c.new-bytes.ensures.items c.in-Ok.ensures.ok within,
      subst (λ n. length c.load.new.into.items ≤ n) c.limit_of-limit.ensures.limit within,
    )

pub returns-then-len-limit-clause-kept : goal.returns-then-len-limit-clause-kept
returns-then-len-limit-clause-kept g c = c.load.ensures.kept

pub returns-clause-kept : goal.returns-clause-kept
returns-clause-kept g c = c.load.ensures.kept

pub returns-in-Err-Memory-clause-kept : goal.returns-in-Err-Memory-clause-kept
returns-in-Err-Memory-clause-kept g c = c.load.ensures.kept

pub returns-in-Err-Failed-clause-kept : goal.returns-in-Err-Failed-clause-kept
returns-in-Err-Failed-clause-kept g c = c.load.ensures.kept
