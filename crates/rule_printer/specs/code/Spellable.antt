-- Which syntax has a spelling: what a grammar gives of each part, so that its tokens can be written.
use Rattle.std.specs.Prelude.{◌≡◌, ℕ, ◌^◌, ◌<◌, false, List, [], ◌∷◌, Option, Some, None}
use Rattle.doc_values.specs.Tree.{Label, Forest, Nil, Node}
use Rattle.decimals.specs.declared.decimal.Num.TheVariants as num
use Rattle.doc_values.specs.declared.kind.Kind.{Kind}
use Rattle.doc_values.specs.declared.kind.Kind.TheVariants as kind
use Rattle.guard_lexer.specs.Forms.{IsName, IsTypeName}
use Rattle.guard_syntax.specs.Named.{Named}
use Rattle.guard_syntax.specs.Syntax.{Body, Lets, Let, Conds, OptConds, Disjs, Disj, Parts, Part, Query, Steps, Step, Expr, OptExpr, Exprs, Rule, File, body, no_lets, more_lets, assign, conds, no_conds, with_conds, no_disjs, more_disjs, disj, no_parts, more_parts, block, guarded, kinds, test, refer, call, query, no_steps, more_steps, this, var, key, index, every, items, splice, filter, keys, literal, function, asked, found, no_expr, with_expr, no_exprs, more_exprs}
use Rattle.rule_spelling.specs.Spelling.{ends_in_backslash}
use Rattle.rule_spelling.specs.code.Pieces.{IsInRange, IsNoted}

-- a text that can be written in quotes
abbrev pub IsKey : List ℕ → Type 0
IsKey text = ends_in_backslash text ≡ false

abbrev pub IsOptKey : Option (List ℕ) → Type 0
IsOptKey None = Unit {0}
IsOptKey (Some text) = IsKey text

abbrev pub IsCapture : Option Named → Type 0
IsCapture None = Unit {0}
IsCapture (Some name) = IsName name.text

abbrev pub IsMessage : Option (List ℕ) → Type 0
IsMessage None = Unit {0}
IsMessage (Some text) = IsNoted text

-- ---- literals

abbrev pub IsValue : Label → Kind → Type 0
IsValue l kind.Text = IsKey l.text
IsValue l kind.Pattern = IsKey l.text
IsValue l (kind.Whole n) = IsInRange (num.Whole n)
IsValue l (kind.Fraction d) = IsInRange (num.Fraction d)
IsValue l (kind.Limits r) = IsInRange r.low × IsInRange r.high
IsValue l _ = Unit {0}

abbrev pub AreValues : Forest → Type 0
AreValues Nil = Unit {0}
AreValues (Node l kids rest) = IsOptKey l.key × IsValue l l.kind × AreValues kids × AreValues rest

abbrev pub IsLiteral : Forest → Type 0
IsLiteral Nil = ⊥
IsLiteral (Node l kids rest) = IsValue l l.kind × AreValues kids

-- ---- conditions

-- a query begins with `this`, a variable or a key
abbrev pub IsStart : Step → Type 0
IsStart (this n) = Unit {0}
IsStart (var n text) = IsName text
IsStart (key n text) = IsKey text
IsStart _ = ⊥

abbrev mutual
  pub AreConds : Conds → Type 0
  AreConds (conds n ds) = SomeDisjs ds

  pub SomeDisjs : Disjs → Type 0
  SomeDisjs no_disjs = ⊥
  SomeDisjs (more_disjs d ds) = IsDisj d × AreDisjs ds

  pub AreDisjs : Disjs → Type 0
  AreDisjs no_disjs = Unit {0}
  AreDisjs (more_disjs d ds) = IsDisj d × AreDisjs ds

  pub IsDisj : Disj → Type 0
  IsDisj (disj n ps) = SomeAlternatives ps

  pub SomeAlternatives : Parts → Type 0
  SomeAlternatives no_parts = ⊥
  SomeAlternatives (more_parts p ps) = IsCond p × AreAlternatives ps

  pub AreAlternatives : Parts → Type 0
  AreAlternatives no_parts = Unit {0}
  AreAlternatives (more_parts p ps) = IsCond p × AreAlternatives ps

  -- no block
  pub IsCond : Part → Type 0
  IsCond (block n any q b) = ⊥
  IsCond (guarded n c b) = ⊥
  IsCond (kinds n text c b) = ⊥
  IsCond (test n any q o negated right message) = IsQuery q × IsOptExpr right × IsMessage message
  IsCond (refer n negated text message) = IsName text × IsMessage message
  IsCond (call n negated text es message) = IsName text × AreExprs es × IsMessage message

  pub IsQuery : Query → Type 0
  IsQuery (query n ss) = HasStart ss

  pub HasStart : Steps → Type 0
  HasStart no_steps = ⊥
  HasStart (more_steps s ss) = IsStart s × AreSteps ss

  pub AreSteps : Steps → Type 0
  AreSteps no_steps = Unit {0}
  AreSteps (more_steps s ss) = IsStep s × AreSteps ss

  -- `this` and variables are first steps only
  pub IsStep : Step → Type 0
  IsStep (this n) = ⊥
  IsStep (var n text) = ⊥
  IsStep (key n text) = IsKey text
  IsStep (index n i) = i < 2 ^ 63
  IsStep (every n) = Unit {0}
  IsStep (items n) = Unit {0}
  IsStep (splice n name) = IsName name.text
  IsStep (filter n name c) = IsCapture name × AreConds c
  IsStep (keys n name o negated e) = IsCapture name × IsExpr e

  pub IsExpr : Expr → Type 0
  IsExpr (literal n tree) = IsLiteral tree
  IsExpr (function n text es) = IsName text × AreExprs es
  IsExpr (asked q) = IsQuery q
  IsExpr (found n q) = IsQuery q

  pub IsOptExpr : OptExpr → Type 0
  IsOptExpr no_expr = Unit {0}
  IsOptExpr (with_expr e) = IsExpr e

  pub AreExprs : Exprs → Type 0
  AreExprs no_exprs = Unit {0}
  AreExprs (more_exprs e es) = IsExpr e × AreExprs es

abbrev pub AreOptConds : OptConds → Type 0
AreOptConds no_conds = Unit {0}
AreOptConds (with_conds c) = AreConds c

-- ---- blocks and files

abbrev pub IsLet : Let → Type 0
IsLet (assign n name e) = IsName name.text × IsExpr e

abbrev pub AreLets : Lets → Type 0
AreLets no_lets = Unit {0}
AreLets (more_lets l ls) = IsLet l × AreLets ls

abbrev mutual
  pub IsBody : Body → Type 0
  IsBody (body n ls ds) = AreLets ls × AreItems ds

  pub AreItems : Disjs → Type 0
  AreItems no_disjs = Unit {0}
  AreItems (more_disjs d ds) = IsItem d × AreItems ds

  pub IsItem : Disj → Type 0
  IsItem (disj n ps) = SomeParts ps

  pub SomeParts : Parts → Type 0
  SomeParts no_parts = ⊥
  SomeParts (more_parts p ps) = IsPart p × AreParts ps

  pub AreParts : Parts → Type 0
  AreParts no_parts = Unit {0}
  AreParts (more_parts p ps) = IsPart p × AreParts ps

  pub IsPart : Part → Type 0
  IsPart (block n any q b) = IsQuery q × IsBody b
  IsPart (guarded n c b) = AreConds c × IsBody b
  IsPart (kinds n text c b) = IsTypeName text × AreOptConds c × IsBody b
  IsPart (test n any q o negated right message) = IsCond (test n any q o negated right message)
  IsPart (refer n negated text message) = IsCond (refer n negated text message)
  IsPart (call n negated text es message) = IsCond (call n negated text es message)

abbrev pub AreNames : List Named → Type 0
AreNames [] = Unit {0}
AreNames (name ∷ names) = IsName name.text × AreNames names

pub record IsRule (r : Rule) : Type 0 where
  pub name : IsName r.name.text
  pub params : AreNames r.params
  pub cond : AreOptConds r.cond
  pub body : IsBody r.body

abbrev pub AreRules : List Rule → Type 0
AreRules [] = Unit {0}
AreRules (r ∷ rs) = IsRule r × AreRules rs

pub record HasSpelling (f : File) : Type 0 where
  pub lets : AreLets f.lets
  pub rules : AreRules f.rules
  pub loose : AreItems f.loose
