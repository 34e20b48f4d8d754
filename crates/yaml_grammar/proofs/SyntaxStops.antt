-- Why the reader stops, where no carriage return ends the text: at a sign, or at a place at which the text is no document. By the cases of why.
use Rattle.std.proofs.Common.{◌≡◌, ℕ, ◌+◌, ◌*◌, ◌<◌, ◌≤◌, ◌⊎◌, inl, inr, Bool, true, false, ◌&&◌, cond, List, [], drop, length, refl, sym, ap, ◌∙◌, subst, arith}
use Rattle.std.proofs.lemmas.Bool.{cases_lt}
use Rattle.std.specs.Prelude.{Err}
use Rattle.std.specs.Str.{IsCharBoundary, IsUtf8}
use Rattle.doc_values.specs.Unfinished.{Unfinished}
use Rattle.yaml_scalars.specs.Lines.{ends_with}
use Rattle.yaml_grammar.specs.declared.form.Form.{Form}
use Rattle.yaml_grammar.specs.declared.stage.Stage.{Stage}
use Rattle.yaml_grammar.specs.declared.stage.Stage.TheVariants as stage
use Rattle.yaml_grammar.specs.declared.stage.Position.{Position}
use Rattle.yaml_grammar.specs.declared.stop.Stop.{Stop}
use Rattle.yaml_grammar.specs.declared.stop.Stop.TheVariants as stop
use Rattle.yaml_grammar.specs.Ahead.{ahead}
use Rattle.yaml_grammar.specs.Signs.{Reading}
use Rattle.yaml_grammar.specs.Yaml.{IsStart, text_start}
use Rattle.yaml_grammar.specs.code.AheadSeen.{ahead_seen, is_told}
use Rattle.yaml_grammar.specs.code.Extends.{begins_firm, root_seen}
use Rattle.yaml_grammar.specs.code.Places.{IsSyntaxStop}
use Rattle.yaml_grammar.specs.code.Rest.{Awaits}
use Rattle.yaml_grammar.specs.code.Steps.{Open, Rest, Fits, Gives, reached}
use Rattle.yaml_grammar.specs.code.Twins.{Lengthens, StopsStep}
use Rattle.yaml_grammar.proofs.Back.{Grows}
use Rattle.yaml_grammar.proofs.Lengthened.{told_at}
use Rattle.yaml_grammar.proofs.LivesLonger.{LivesLonger, torn_syntax}
use Rattle.yaml_grammar.proofs.LivesOn.{LivesOn}
use Rattle.yaml_grammar.proofs.RootLonger.{root_least}
use Rattle.yaml_grammar.proofs.RootRuns.{root_reading}
use Rattle.yaml_grammar.proofs.SyntaxPlaces.{stop_syntax}

pub memory_syntax : (text : List ℕ) (e : Stop) → e ≡ stop.NoMemory → IsSyntaxStop text e
memory_syntax text e h = subst (IsSyntaxStop text) (sym h) tt

-- ---- at a position

pub later_place : (s t : Stage) (i j : ℕ) → reached s i < reached t j → i ≤ j
later_place s t i j h = by_least s t h where
  least : (s : Stage) → 2 * i + 1 ≤ reached s i
  least stage.Entry = omega arith
  least stage.Value = omega arith
  least stage.After = omega arith
  least stage.Whole = omega arith

  most : (t : Stage) → reached t j ≤ 2 * j + 3
  most stage.Entry = omega arith
  most stage.Value = omega arith
  most stage.After = omega arith
  most stage.Whole = omega arith

  by_least : (s t : Stage) → reached s i < reached t j → i ≤ j
  by_least s t h = let a = least s in let b = most t in omega (arith, a, b, h)

rooted : (text : List ℕ) (fs : List Form) (u : Unfinished) (i : ℕ) → IsUtf8 text → IsCharBoundary text i → text_start text ≤ i → Open fs u → ends_with 13 text ≡ false → ((v : Reading) → Awaits text fs u.outer u.done u.key i v → ⊥) → fs ≡ [] → IsStart text i → is_told (ahead text false i).token ≡ true → root_seen text i < length text
rooted text fs u i utf8 cut late open_ last none e start told = by_firm (begins_firm (drop (ahead text false i).at text)) refl where
  by_order : begins_firm (drop (ahead text false i).at text) ≡ false → (ahead_seen text i < length text) ⊎ (length text ≤ ahead_seen text i) → root_seen text i < length text
  by_order f (inl l) = let z = root_least text i in omega (arith, z, l)
  by_order f (inr far) = let r = root_reading text fs u i utf8 cut late e open_.0 start told f last far in absurd (none r.0 r.1)

  by_firm : (q : Bool) → begins_firm (drop (ahead text false i).at text) ≡ q → root_seen text i < length text
  by_firm true f = let l = told_at text false i told in let z : root_seen text i ≡ (ahead text false i).at = ap (λ t. cond (t && begins_firm (drop (ahead text false i).at text)) (ahead text false i).at (ahead_seen text i)) told ∙ ap (λ t. cond (true && t) (ahead text false i).at (ahead_seen text i)) f in omega (arith, z, l)
  by_firm false f = by_order f (cases_lt (ahead_seen text i) (length text))

pub step_syntax : (text : List ℕ) → IsUtf8 text → (p : Position) (fs gs : List Form) (u w : Unfinished) (n : ℕ) (e : Stop) → LivesOn text p fs u → Grows text p fs u → LivesLonger text p fs u → (p.stage ≡ stage.Whole → ⊥) → Fits text p.stage fs u p.at → IsCharBoundary text p.at → text_start text ≤ p.at
    → Gives text (Rest text p.stage fs u p.at) n gs w (Err e) → StopsStep text p.stage fs u p.at (Err e) → Lengthens text p.stage fs u p.at (Err e) → ends_with 13 text ≡ false → IsSyntaxStop text e
step_syntax text utf8 p fs gs u w n (stop.Unread q) lives grows longer goes fits cut late gives stops lengthens last =
    stop_syntax text p fs u q utf8 lives grows goes fits cut gives stops last lengthens (λ value e start told. rooted text fs u p.at utf8 cut late (subst (λ s. Fits text s fs u p.at) value fits).0 last (subst (λ s. (v : Reading) → Rest text s fs u p.at v → ⊥) value gives) e start told)
    (λ b told after. torn_syntax text p fs u q utf8 lives longer goes fits cut after b last told stops lengthens)
step_syntax text utf8 p fs gs u w n (stop.Tab at) lives grows longer goes fits cut late gives stops lengthens last = tt
step_syntax text utf8 p fs gs u w n (stop.Anchor at) lives grows longer goes fits cut late gives stops lengthens last = tt
step_syntax text utf8 p fs gs u w n (stop.Tag at) lives grows longer goes fits cut late gives stops lengthens last = tt
step_syntax text utf8 p fs gs u w n (stop.Directive at) lives grows longer goes fits cut late gives stops lengthens last = tt
step_syntax text utf8 p fs gs u w n (stop.ManyDocuments at) lives grows longer goes fits cut late gives stops lengthens last = tt
step_syntax text utf8 p fs gs u w n (stop.DuplicateKey at) lives grows longer goes fits cut late gives stops lengthens last = tt
step_syntax text utf8 p fs gs u w n (stop.TooDeep at) lives grows longer goes fits cut late gives stops lengthens last = tt
step_syntax text utf8 p fs gs u w n stop.NoMemory lives grows longer goes fits cut late gives stops lengthens last = tt
