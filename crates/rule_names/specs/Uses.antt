-- Names that are used, and what may be the matter with each use.
use Rattle.std.specs.Prelude.{ℕ, zero, suc, Bool, true, false, List, [], ◌∷◌, ◌++◌, Option, Some, None, length, find, nat_eq, slice_index_or, if◌then◌else◌}
use Rattle.std.specs.Str.{bytes_eq}
use Rattle.doc_values.specs.declared.kind.Kind.{Kind}
use Rattle.doc_values.specs.declared.kind.Kind.TheVariants as kind
use Rattle.doc_values.specs.Tree.{Forest, Nil, Node}
use Rattle.guard_syntax.specs.Named.{Named}
use Rattle.guard_syntax.specs.Functions.{name_of}
use Rattle.guard_syntax.specs.declared.function.Function.{Function}
use Rattle.guard_syntax.specs.declared.function.Function.TheVariants.{Count, JsonParse, RegexReplace, Join, ToLower, ToUpper, Substring, UrlDecode, ParseInt, ParseFloat, ParseBoolean, ParseString}
use Rattle.guard_syntax.specs.Syntax.{Body, Lets, Let, Conds, OptConds, Disjs, Disj, Parts, Part, Query, Steps, Step, Expr, OptExpr, Exprs, Rule, File, body, no_lets, more_lets, assign, conds, no_conds, with_conds, no_disjs, more_disjs, disj, no_parts, more_parts, block, guarded, kinds, test, refer, call, query, no_steps, more_steps, this, var, key, index, every, items, splice, filter, keys, literal, function, asked, found, no_expr, with_expr, no_exprs, more_exprs}
use Rattle.rule_names.specs.declared.name_kind.NameKind.{NameKind}
use Rattle.rule_names.specs.declared.name_kind.NameKind.TheVariants.{UnknownRule, UnknownVariable, UnknownFunction, NeedsArguments, TakesNone, ArgCount, LiteralWanted}
use Rattle.rule_names.specs.Faults.{Fault}
use Rattle.rule_names.specs.Scopes.{Given, given_named, given_body, given_conds, given_file}

-- how many arguments a function takes
abbrev pub arity : Function → ℕ
arity Count = 1
arity JsonParse = 1
arity RegexReplace = 3
arity Join = 2
arity ToLower = 1
arity ToUpper = 1
arity Substring = 3
arity UrlDecode = 1
arity ParseInt = 1
arity ParseFloat = 1
arity ParseBoolean = 1
arity ParseString = 1

abbrev pub functions : List Function
functions = Count ∷ JsonParse ∷ RegexReplace ∷ Join ∷ ToLower ∷ ToUpper ∷ Substring ∷ UrlDecode ∷ ParseInt ∷ ParseFloat ∷ ParseBoolean ∷ ParseString ∷ []

-- the function that a name means
abbrev pub function_named : List ℕ → Option Function
function_named name = find (λ f. bytes_eq name (name_of f)) functions

-- the rule that a name means
abbrev pub rule_named : List Rule → List ℕ → Option Rule
rule_named rules name = find (λ (r : Rule). bytes_eq name r.name.text) rules

abbrev pub count_exprs : Exprs → ℕ
count_exprs no_exprs = zero
count_exprs (more_exprs e es) = suc (count_exprs es)

abbrev pub expr_in : Exprs → ℕ → Option Expr
expr_in no_exprs i = None
expr_in (more_exprs e es) zero = Some e
expr_in (more_exprs e es) (suc i) = expr_in es i

abbrev pub query_site : Query → ℕ
query_site (query n ss) = n

abbrev pub expr_site : Expr → ℕ
expr_site (literal n tree) = n
expr_site (function n name es) = n
expr_site (asked q) = query_site q
expr_site (found n q) = n

abbrev pub is_text_kind : Kind → Bool
is_text_kind kind.Text = true
is_text_kind _ = false

abbrev pub is_text_tree : Forest → Bool
is_text_tree Nil = false
is_text_tree (Node l kids rest) = is_text_kind l.kind

-- a literal text; a pattern is none
abbrev pub is_text : Expr → Bool
is_text (literal n tree) = is_text_tree tree
is_text (function n name es) = false
is_text (asked q) = false
is_text (found n q) = false

-- the rules of a file, and where its sites begin
module _ (rules : List Rule) (places : List ℕ) where
  abbrev pub place_of : ℕ → ℕ
  place_of site = slice_index_or places site 0

  -- one fault with a name at a place
  abbrev pub wrong : NameKind → List ℕ → ℕ → List Fault
  wrong kind name at = record { kind = kind; named = record { text = name; at = at } } ∷ []

  -- a reference names a rule, which has no parameters
  abbrev pub wrong_refer : Option Rule → List ℕ → ℕ → List Fault
  wrong_refer None name at = wrong UnknownRule name at
  wrong_refer (Some r) name at = if nat_eq (length r.params) 0 then [] else wrong NeedsArguments name at

  -- a call names a rule with as many parameters as it has arguments; whatever their number, no rule without parameters
  abbrev pub wrong_call : Option Rule → ℕ → List ℕ → ℕ → List Fault
  wrong_call None count name at = wrong UnknownRule name at
  wrong_call (Some r) count name at =
      if nat_eq (length r.params) 0 then wrong TakesNone name at else (if nat_eq (length r.params) count then [] else wrong ArgCount name at)

  -- some scope around a use has the variable
  abbrev pub wrong_variable : Option Given → List ℕ → ℕ → List Fault
  wrong_variable None name at = wrong UnknownVariable name at
  wrong_variable (Some g) name at = []

  -- an argument that must be a literal text
  abbrev pub wrong_text : List ℕ → Option Expr → List Fault
  wrong_text name None = []
  wrong_text name (Some e) = if is_text e then [] else wrong LiteralWanted name (place_of (expr_site e))

  -- the second and the third argument of `regex_replace` are literal texts
  abbrev pub wrong_texts : Function → List ℕ → Exprs → List Fault
  wrong_texts RegexReplace name es = wrong_text name (expr_in es 1) ++ wrong_text name (expr_in es 2)
  wrong_texts _ name es = []

  -- a function call names a function that takes as many arguments
  abbrev pub wrong_function : Option Function → List ℕ → Exprs → ℕ → List Fault
  wrong_function None name es at = wrong UnknownFunction name at
  wrong_function (Some f) name es at = (if nat_eq (count_exprs es) (arity f) then [] else wrong ArgCount name at) ++ wrong_texts f name es

  -- what is the matter with the uses in a part, around which these variables are visible; inside a body or a filter, its own
  -- are visible too, wherever in it they are given
  abbrev mutual
    pub wrong_body : List Given → List Named → Body → List Fault
    wrong_body visible params (body n ls ds) =
        wrong_lets (given_body params (body n ls ds) ++ visible) ls ++ wrong_disjs (given_body params (body n ls ds) ++ visible) ds

    pub wrong_lets : List Given → Lets → List Fault
    wrong_lets visible no_lets = []
    wrong_lets visible (more_lets l ls) = wrong_let visible l ++ wrong_lets visible ls

    pub wrong_let : List Given → Let → List Fault
    wrong_let visible (assign n name e) = wrong_expr visible e

    pub wrong_conds : List Given → Conds → List Fault
    wrong_conds visible (conds n ds) = wrong_disjs visible ds

    pub wrong_opt_conds : List Given → OptConds → List Fault
    wrong_opt_conds visible no_conds = []
    wrong_opt_conds visible (with_conds c) = wrong_conds visible c

    pub wrong_disjs : List Given → Disjs → List Fault
    wrong_disjs visible no_disjs = []
    wrong_disjs visible (more_disjs d ds) = wrong_disj visible d ++ wrong_disjs visible ds

    pub wrong_disj : List Given → Disj → List Fault
    wrong_disj visible (disj n ps) = wrong_parts visible ps

    pub wrong_parts : List Given → Parts → List Fault
    wrong_parts visible no_parts = []
    wrong_parts visible (more_parts p ps) = wrong_part visible p ++ wrong_parts visible ps

    pub wrong_part : List Given → Part → List Fault
    wrong_part visible (block n any q b) = wrong_query visible q ++ wrong_body visible [] b
    wrong_part visible (guarded n c b) = wrong_conds visible c ++ wrong_body visible [] b
    wrong_part visible (kinds n name c b) = wrong_opt_conds visible c ++ wrong_body visible [] b
    wrong_part visible (test n any q op negated right message) = wrong_query visible q ++ wrong_opt_expr visible right
    wrong_part visible (refer n negated name message) = wrong_refer (rule_named rules name) name (place_of n)
    wrong_part visible (call n negated name es message) = wrong_call (rule_named rules name) (count_exprs es) name (place_of n) ++ wrong_exprs visible es

    pub wrong_query : List Given → Query → List Fault
    wrong_query visible (query n ss) = wrong_steps visible ss

    pub wrong_steps : List Given → Steps → List Fault
    wrong_steps visible no_steps = []
    wrong_steps visible (more_steps p ps) = wrong_step visible p ++ wrong_steps visible ps

    pub wrong_step : List Given → Step → List Fault
    wrong_step visible (this n) = []
    wrong_step visible (var n name) = wrong_variable (given_named visible name) name (place_of n)
    wrong_step visible (key n name) = []
    wrong_step visible (index n i) = []
    wrong_step visible (every n) = []
    wrong_step visible (items n) = []
    wrong_step visible (splice n name) = wrong_variable (given_named visible name.text) name.text name.at
    wrong_step visible (filter n capture c) = wrong_conds (given_conds c ++ visible) c
    wrong_step visible (keys n capture op negated e) = wrong_expr visible e

    pub wrong_expr : List Given → Expr → List Fault
    wrong_expr visible (literal n tree) = []
    wrong_expr visible (function n name es) = wrong_function (function_named name) name es (place_of n) ++ wrong_exprs visible es
    wrong_expr visible (asked q) = wrong_query visible q
    wrong_expr visible (found n q) = wrong_query visible q

    pub wrong_opt_expr : List Given → OptExpr → List Fault
    wrong_opt_expr visible no_expr = []
    wrong_opt_expr visible (with_expr e) = wrong_expr visible e

    pub wrong_exprs : List Given → Exprs → List Fault
    wrong_exprs visible no_exprs = []
    wrong_exprs visible (more_exprs e es) = wrong_expr visible e ++ wrong_exprs visible es

  abbrev pub wrong_rule : List Given → Rule → List Fault
  wrong_rule visible r = wrong_opt_conds visible r.cond ++ wrong_body visible r.params r.body

  abbrev pub wrong_rules : List Given → List Rule → List Fault
  wrong_rules visible [] = []
  wrong_rules visible (r ∷ rs) = wrong_rule visible r ++ wrong_rules visible rs

-- what is the matter with the uses in a file
abbrev pub wrong_uses : File → List Fault
wrong_uses f =
    wrong_lets f.rules f.places (given_file f) f.lets
    ++ (wrong_rules f.rules f.places (given_file f) f.rules ++ wrong_disjs f.rules f.places (given_file f) f.loose)
