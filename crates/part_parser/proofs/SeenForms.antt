-- The syntax of what the code makes: one equation for each form.
use Rattle.std.proofs.Common.{◌≡◌, ℕ, Bool, List, Option, rules}
use Rattle.std.specs.Global.{Vec}
use Rattle.doc_values.specs.Tree.{Forest}
use Rattle.guard_syntax.specs.Syntax as sx
use Rattle.guard_syntax.specs.Named.{Named}
use Rattle.guard_syntax.specs.code.Seen.{see_body, see_conds, see_disj, see_expr, see_let, see_opt_conds, see_opt_expr, see_part, see_query, see_step}
use Rattle.guard_syntax.specs.declared.syntax.Body.{Body, roll-Body, the_lemmas}
use Rattle.guard_syntax.specs.declared.syntax.Conds.{Conds, roll-Conds}
use Rattle.guard_syntax.specs.declared.syntax.Disj.{Disj, roll-Disj}
use Rattle.guard_syntax.specs.declared.syntax.Expr.{Expr}
use Rattle.guard_syntax.specs.declared.syntax.Expr as expr
use Rattle.guard_syntax.specs.declared.syntax.Let.{Let, roll-Let}
use Rattle.guard_syntax.specs.declared.syntax.Op.{Op}
use Rattle.guard_syntax.specs.declared.syntax.Part.{Part}
use Rattle.guard_syntax.specs.declared.syntax.Part as part
use Rattle.guard_syntax.specs.declared.syntax.Query.{Query, roll-Query}
use Rattle.guard_syntax.specs.declared.syntax.Step.{Step, roll-Step}
use Rattle.guard_syntax.specs.declared.syntax.StepForm as form
use Rattle.part_parser.specs.code.GrammarReads.{see_disjs, see_exprs, see_items, see_parts, see_steps}

pub body-made : (site : ℕ) (lets : Vec Let) (parts : Vec Disj) → see_body (roll-Body (record { site = site; lets = lets; parts = parts })) ≡ sx.body site (see_items lets parts).0 (see_items lets parts).1
body-made site lets parts = search (rules, the_lemmas)

pub conds-made : (site : ℕ) (parts : Vec Disj) → see_conds (roll-Conds (record { site = site; parts = parts })) ≡ sx.conds site (see_disjs parts)
conds-made site parts = search (rules, the_lemmas)

pub disj-made : (site : ℕ) (parts : Vec Part) → see_disj (roll-Disj (record { site = site; parts = parts })) ≡ sx.disj site (see_parts parts)
disj-made site parts = search (rules, the_lemmas)

pub query-made : (site : ℕ) (steps : Vec Step) → see_query (roll-Query (record { site = site; steps = steps })) ≡ sx.query site (see_steps steps)
query-made site steps = search (rules, the_lemmas)

pub let-made : (site : ℕ) (name : Named) (value : Expr) → see_let (roll-Let (record { site = site; name = name; value = value })) ≡ sx.assign site name (see_expr value)
let-made site name value = search (rules, the_lemmas)

-- ---- parts

pub block-made : (site : ℕ) (any : Bool) (head : Query) (inner : Body) → see_part (part.Block site any head inner) ≡ sx.block site any (see_query head) (see_body inner)
block-made site any head inner = search (rules, the_lemmas)

pub guarded-made : (site : ℕ) (cond : Conds) (inner : Body) → see_part (part.When site cond inner) ≡ sx.guarded site (see_conds cond) (see_body inner)
guarded-made site cond inner = search (rules, the_lemmas)

pub kinds-made : (site : ℕ) (name : List ℕ) (cond : Option Conds) (inner : Body) → see_part (part.Kinds site name cond inner) ≡ sx.kinds site name (see_opt_conds cond) (see_body inner)
kinds-made site name cond inner = search (rules, the_lemmas)

pub test-made : (site : ℕ) (any : Bool) (left : Query) (op : Op) (negated : Bool) (right : Option Expr) (message : Option (List ℕ))
    → see_part (part.Test site any left op negated right message) ≡ sx.test site any (see_query left) op negated (see_opt_expr right) message
test-made site any left op negated right message = search (rules, the_lemmas)

pub refer-made : (site : ℕ) (negated : Bool) (name : List ℕ) (message : Option (List ℕ)) → see_part (part.Refer site negated name message) ≡ sx.refer site negated name message
refer-made site negated name message = search (rules, the_lemmas)

pub call-made : (site : ℕ) (negated : Bool) (name : List ℕ) (args : Vec Expr) (message : Option (List ℕ)) → see_part (part.Call site negated name args message) ≡ sx.call site negated name (see_exprs args) message
call-made site negated name args message = search (rules, the_lemmas)

-- ---- expressions

pub literal-made : (site : ℕ) (tree : Forest) → see_expr (expr.Literal site tree) ≡ sx.literal site tree
literal-made site tree = search (rules, the_lemmas)

pub function-made : (site : ℕ) (name : List ℕ) (args : Vec Expr) → see_expr (expr.Function site name args) ≡ sx.function site name (see_exprs args)
function-made site name args = search (rules, the_lemmas)

pub asked-made : (asks : Query) → see_expr (expr.Query asks) ≡ sx.asked (see_query asks)
asked-made asks = search (rules, the_lemmas)

pub found-made : (site : ℕ) (asks : Query) → see_expr (expr.Found site asks) ≡ sx.found site (see_query asks)
found-made site asks = search (rules, the_lemmas)

-- ---- steps

pub this-made : (site : ℕ) → see_step (roll-Step (record { site = site; form = form.This })) ≡ sx.this site
this-made site = search (rules, the_lemmas)

pub var-made : (site : ℕ) (name : List ℕ) → see_step (roll-Step (record { site = site; form = form.Var name })) ≡ sx.var site name
var-made site name = search (rules, the_lemmas)

pub items-made : (site : ℕ) → see_step (roll-Step (record { site = site; form = form.Items })) ≡ sx.items site
items-made site = search (rules, the_lemmas)

pub every-made : (site : ℕ) → see_step (roll-Step (record { site = site; form = form.Every })) ≡ sx.every site
every-made site = search (rules, the_lemmas)

pub index-made : (site i : ℕ) → see_step (roll-Step (record { site = site; form = form.Index i })) ≡ sx.index site i
index-made site i = search (rules, the_lemmas)

pub splice-made : (site : ℕ) (name : Named) → see_step (roll-Step (record { site = site; form = form.Splice name })) ≡ sx.splice site name
splice-made site name = search (rules, the_lemmas)

pub key-made : (site : ℕ) (name : List ℕ) → see_step (roll-Step (record { site = site; form = form.Key name })) ≡ sx.key site name
key-made site name = search (rules, the_lemmas)

pub filter-made : (site : ℕ) (capture : Option Named) (conds : Conds) → see_step (roll-Step (record { site = site; form = form.Filter capture conds })) ≡ sx.filter site capture (see_conds conds)
filter-made site capture conds = search (rules, the_lemmas)

pub keys-made : (site : ℕ) (capture : Option Named) (op : Op) (negated : Bool) (right : Expr)
    → see_step (roll-Step (record { site = site; form = form.Keys capture op negated right })) ≡ sx.keys site capture op negated (see_expr right)
keys-made site capture op negated right = search (rules, the_lemmas)
