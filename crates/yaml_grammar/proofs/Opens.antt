-- Outside of brackets a step goes on between brackets only behind the one that opens them. By the cases of what is found.
use Rattle.std.proofs.Common.{◌≡◌, ℕ, ◌<◌, List, ◌∷◌, sym, subst, arith}
use Rattle.std.specs.Prelude.{Result, Ok, Err, Bool, IfOk}
use Rattle.doc_values.specs.Unfinished.{Unfinished}
use Rattle.yaml_grammar.specs.declared.ahead.Ahead.{Ahead}
use Rattle.yaml_grammar.specs.declared.ahead.Token.TheVariants.{Opens}
use Rattle.yaml_grammar.specs.declared.form.Form.{Form}
use Rattle.yaml_grammar.specs.declared.stage.Stage.TheVariants as stage
use Rattle.yaml_grammar.specs.declared.stage.Position.{Position}
use Rattle.yaml_grammar.specs.declared.stop.Stop.{Stop}
use Rattle.yaml_grammar.specs.Ahead.{token_len}
use Rattle.yaml_grammar.specs.code.Rest.{top}
use Rattle.yaml_grammar.specs.code.Steps.{IsBlock, IsSeen, TagBegun, Opened}
use Rattle.yaml_grammar.specs.code.Feeds.{Opening}
use Rattle.yaml_grammar.proofs.Fixed.{apart}

pub block_opening : (gs : List Form) (r : Result Position Stop) → IsBlock (top gs) → Opening gs r
block_opening gs (Err e) b = tt
block_opening gs (Ok p) b = λ goes flow. absurd (apart (top gs) b flow)

-- where this is the innermost collection, or becomes it
pub form_opening : (gs : List Form) (f : Form) (r : Result Position Stop) → top gs ≡ f → IsBlock f → Opening gs r
form_opening gs f r e b = block_opening gs r (subst IsBlock (sym e) b)

pub begun_opening : (f : Form) (fs gs : List Form) (r : Result Position Stop) → gs ≡ f ∷ fs → IsBlock f → Opening gs r
begun_opening f fs gs r e b = block_opening gs r (subst (λ (x : List Form). IsBlock (top x)) (sym e) b)

pub tag_opening : (text : List ℕ) (f : Form) (a : Ahead) (fs gs : List Form) (u w : Unfinished) (r : Result Position Stop) → IsBlock f → TagBegun text f a fs u gs w r → Opening gs r
tag_opening text f a fs gs u w (Err e) b h = tt
tag_opening text f a fs gs u w (Ok p) b (es, ej, eg, ew, d) = begun_opening f fs gs (Ok p) eg b

pub bracket_opening : (text : List ℕ) (flow : Bool) (i : ℕ) (map : Bool) (a : Ahead) (fs gs : List Form) (u w : Unfinished) (r : Result Position Stop) → IsSeen text flow i a → a.token ≡ Opens map → Opened map a fs u gs w r → Opening gs r
bracket_opening text flow i map a fs gs u w (Err e) seen t h = tt
bracket_opening text flow i map a fs gs u w (Ok p) seen t (es, ej, eg, ew, d) = λ goes flow.
    let l : 0 < token_len a.token = subst (λ k. 0 < token_len k) (sym t) (omega arith) in
    let e = seen.1.3 in
    (es, omega (arith, l, e, ej))

pub whole_opening : (gs : List Form) (r : Result Position Stop) → IfOk r (λ p. p.stage ≡ stage.Whole) → Opening gs r
whole_opening gs (Err e) h = tt
whole_opening gs (Ok p) h = λ goes flow. absurd (goes h)
