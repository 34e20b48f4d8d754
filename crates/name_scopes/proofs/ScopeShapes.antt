-- The two sides of a test, as they are seen.
use Rattle.std.proofs.Common.{◌≡◌, ℕ, Bool, rules, List, Option}
use Rattle.guard_syntax.specs.Syntax as sx
use Rattle.guard_syntax.specs.declared.syntax.Op.{Op}
use Rattle.guard_syntax.specs.declared.syntax.Body.{the_lemmas}
use Rattle.guard_syntax.specs.declared.syntax.Query.{Query}
use Rattle.guard_syntax.specs.declared.syntax.Part as part
use Rattle.guard_syntax.specs.declared.syntax.Expr.{Expr}
use Rattle.guard_syntax.specs.code.Seen.{see_part, see_query, see_opt_expr}

pub side-seen : (site : ℕ) (any : Bool) (left : Query) (op : Op) (negated : Bool) (right : Option Expr) (message : Option (List ℕ))
    → see_part (part.Test site any left op negated right message) ≡ sx.test site any (see_query left) op negated (see_opt_expr right) message
side-seen site any left op negated right message = search (rules, the_lemmas)
