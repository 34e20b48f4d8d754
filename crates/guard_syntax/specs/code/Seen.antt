-- The syntax of the types of a rule file.
use Rattle.std.specs.Prelude.{ℕ, List, [], ◌∷◌, Option, Some, None, map}
use Rattle.guard_syntax.specs.Syntax as sx
use Rattle.guard_syntax.specs.declared.syntax.RawFile.{RawFile}
use Rattle.guard_syntax.specs.declared.syntax.Rule.{Rule}
use Rattle.guard_syntax.specs.declared.syntax.Body.{Body, fold-Body}
use Rattle.guard_syntax.specs.declared.syntax.Conds.{Conds, fold-Conds}
use Rattle.guard_syntax.specs.declared.syntax.Disj.{Disj, fold-Disj}
use Rattle.guard_syntax.specs.declared.syntax.Let.{Let, fold-Let}
use Rattle.guard_syntax.specs.declared.syntax.Part.{Part, fold-Part}
use Rattle.guard_syntax.specs.declared.syntax.Query.{Query, fold-Query}
use Rattle.guard_syntax.specs.declared.syntax.Step.{Step, fold-Step}
use Rattle.guard_syntax.specs.declared.syntax.StepForm.{StepForm, fold-StepForm}
use Rattle.guard_syntax.specs.declared.syntax.Expr.{Expr, fold-Expr}
use Rattle.guard_syntax.specs.declared.syntax.Expr.TheOpen.{Body-F, Conds-F, Disj-F, Let-F, Part-F, Query-F, Step-F, StepForm-F, Expr-F}

-- the items of a list, in front of others
abbrev pub prepend : {X L : Type 0} → (X → L → L) → List X → L → L
prepend more [] l = l
prepend more (x ∷ xs) l = more x (prepend more xs l)

abbrev pub let_list : List sx.Let → sx.Lets
let_list ls = prepend sx.more_lets ls sx.no_lets

abbrev pub disj_list : List sx.Disj → sx.Disjs
disj_list ds = prepend sx.more_disjs ds sx.no_disjs

abbrev pub part_list : List sx.Part → sx.Parts
part_list ps = prepend sx.more_parts ps sx.no_parts

abbrev pub step_list : List sx.Step → sx.Steps
step_list ps = prepend sx.more_steps ps sx.no_steps

abbrev pub expr_list : List sx.Expr → sx.Exprs
expr_list es = prepend sx.more_exprs es sx.no_exprs

abbrev pub opt_conds : Option sx.Conds → sx.OptConds
opt_conds None = sx.no_conds
opt_conds (Some c) = sx.with_conds c

abbrev pub opt_expr : Option sx.Expr → sx.OptExpr
opt_expr None = sx.no_expr
opt_expr (Some e) = sx.with_expr e

-- a form of step, at a site
abbrev pub Form : Type 0
Form = ℕ → sx.Step

-- one layer, with the syntax of its parts
abbrev pub ExprLayer : Type 0
ExprLayer = Expr-F sx.Expr sx.Part Form sx.Body sx.Conds sx.Disj sx.Let sx.Query sx.Step

abbrev pub PartLayer : Type 0
PartLayer = Part-F sx.Expr sx.Part Form sx.Body sx.Conds sx.Disj sx.Let sx.Query sx.Step

abbrev pub FormLayer : Type 0
FormLayer = StepForm-F sx.Expr sx.Part Form sx.Body sx.Conds sx.Disj sx.Let sx.Query sx.Step

abbrev pub BodyLayer : Type 0
BodyLayer = Body-F sx.Expr sx.Part Form sx.Body sx.Conds sx.Disj sx.Let sx.Query sx.Step

abbrev pub CondsLayer : Type 0
CondsLayer = Conds-F sx.Expr sx.Part Form sx.Body sx.Conds sx.Disj sx.Let sx.Query sx.Step

abbrev pub DisjLayer : Type 0
DisjLayer = Disj-F sx.Expr sx.Part Form sx.Body sx.Conds sx.Disj sx.Let sx.Query sx.Step

abbrev pub LetLayer : Type 0
LetLayer = Let-F sx.Expr sx.Part Form sx.Body sx.Conds sx.Disj sx.Let sx.Query sx.Step

abbrev pub QueryLayer : Type 0
QueryLayer = Query-F sx.Expr sx.Part Form sx.Body sx.Conds sx.Disj sx.Let sx.Query sx.Step

abbrev pub StepLayer : Type 0
StepLayer = Step-F sx.Expr sx.Part Form sx.Body sx.Conds sx.Disj sx.Let sx.Query sx.Step

abbrev pub expr_step : ExprLayer → sx.Expr
expr_step (Expr-F.Literal site tree) = sx.literal site tree
expr_step (Expr-F.Function site name args) = sx.function site name (expr_list args.items)
expr_step (Expr-F.Query asks) = sx.asked asks
expr_step (Expr-F.Found site asks) = sx.found site asks

abbrev pub part_step : PartLayer → sx.Part
part_step (Part-F.Block site any head inner) = sx.block site any head inner
part_step (Part-F.When site cond inner) = sx.guarded site cond inner
part_step (Part-F.Kinds site name cond inner) = sx.kinds site name (opt_conds cond) inner
part_step (Part-F.Test site any left op negated right note) = sx.test site any left op negated (opt_expr right) note
part_step (Part-F.Refer site negated name note) = sx.refer site negated name note
part_step (Part-F.Call site negated name args note) = sx.call site negated name (expr_list args.items) note

abbrev pub form_step : FormLayer → Form
form_step StepForm-F.This = λ n. sx.this n
form_step (StepForm-F.Var name) = λ n. sx.var n name
form_step (StepForm-F.Key name) = λ n. sx.key n name
form_step (StepForm-F.Index i) = λ n. sx.index n i
form_step StepForm-F.Every = λ n. sx.every n
form_step StepForm-F.Items = λ n. sx.items n
form_step (StepForm-F.Splice name) = λ n. sx.splice n name
form_step (StepForm-F.Filter capture cond) = λ n. sx.filter n capture cond
form_step (StepForm-F.Keys capture op negated right) = λ n. sx.keys n capture op negated right

abbrev pub body_step : BodyLayer → sx.Body
body_step b = sx.body b.site (let_list b.lets.items) (disj_list b.parts.items)

abbrev pub conds_step : CondsLayer → sx.Conds
conds_step c = sx.conds c.site (disj_list c.parts.items)

abbrev pub disj_step : DisjLayer → sx.Disj
disj_step d = sx.disj d.site (part_list d.parts.items)

abbrev pub let_step : LetLayer → sx.Let
let_step l = sx.assign l.site l.name l.value

abbrev pub query_step : QueryLayer → sx.Query
query_step q = sx.query q.site (step_list q.steps.items)

abbrev pub step_step : StepLayer → sx.Step
step_step s = s.form s.site

abbrev pub see_expr : Expr → sx.Expr
see_expr = fold-Expr sx.Expr sx.Part Form sx.Body sx.Conds sx.Disj sx.Let sx.Query sx.Step expr_step part_step form_step body_step conds_step disj_step let_step query_step step_step

abbrev pub see_part : Part → sx.Part
see_part = fold-Part sx.Expr sx.Part Form sx.Body sx.Conds sx.Disj sx.Let sx.Query sx.Step expr_step part_step form_step body_step conds_step disj_step let_step query_step step_step

abbrev pub see_form : StepForm → Form
see_form = fold-StepForm sx.Expr sx.Part Form sx.Body sx.Conds sx.Disj sx.Let sx.Query sx.Step expr_step part_step form_step body_step conds_step disj_step let_step query_step step_step

abbrev pub see_body : Body → sx.Body
see_body = fold-Body sx.Expr sx.Part Form sx.Body sx.Conds sx.Disj sx.Let sx.Query sx.Step expr_step part_step form_step body_step conds_step disj_step let_step query_step step_step

abbrev pub see_conds : Conds → sx.Conds
see_conds = fold-Conds sx.Expr sx.Part Form sx.Body sx.Conds sx.Disj sx.Let sx.Query sx.Step expr_step part_step form_step body_step conds_step disj_step let_step query_step step_step

abbrev pub see_disj : Disj → sx.Disj
see_disj = fold-Disj sx.Expr sx.Part Form sx.Body sx.Conds sx.Disj sx.Let sx.Query sx.Step expr_step part_step form_step body_step conds_step disj_step let_step query_step step_step

abbrev pub see_let : Let → sx.Let
see_let = fold-Let sx.Expr sx.Part Form sx.Body sx.Conds sx.Disj sx.Let sx.Query sx.Step expr_step part_step form_step body_step conds_step disj_step let_step query_step step_step

abbrev pub see_query : Query → sx.Query
see_query = fold-Query sx.Expr sx.Part Form sx.Body sx.Conds sx.Disj sx.Let sx.Query sx.Step expr_step part_step form_step body_step conds_step disj_step let_step query_step step_step

abbrev pub see_step : Step → sx.Step
see_step = fold-Step sx.Expr sx.Part Form sx.Body sx.Conds sx.Disj sx.Let sx.Query sx.Step expr_step part_step form_step body_step conds_step disj_step let_step query_step step_step

abbrev pub see_opt_conds : Option Conds → sx.OptConds
see_opt_conds None = sx.no_conds
see_opt_conds (Some c) = sx.with_conds (see_conds c)

abbrev pub see_opt_expr : Option Expr → sx.OptExpr
see_opt_expr None = sx.no_expr
see_opt_expr (Some e) = sx.with_expr (see_expr e)

abbrev pub see_rule : Rule → sx.Rule
see_rule r = record { site = r.site; name = r.name; params = r.params; cond = see_opt_conds r.cond; body = see_body r.body }

abbrev pub see_file : RawFile → sx.File
see_file f = record { lets = let_list (map see_let f.lets.items); rules = map see_rule f.rules.items; loose = disj_list (map see_disj f.loose.items); places = f.places }
