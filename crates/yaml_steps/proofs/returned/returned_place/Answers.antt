use Rattle.std.proofs.Common.{◌≡◌, ℕ, ◌-◌, List, [], ◌∷◌, ◌++◌, length, refl, sym, ◌∙◌, subst, arith}
use Rattle.yaml_grammar.specs.declared.stop.Stop.{Stop}
use Rattle.yaml_grammar.specs.declared.stop.Stop.TheVariants as stop
use Rattle.yaml_grammar.specs.Places.{IsFront, IsSyntax}
use Rattle.yaml_grammar.specs.code.ReadAgain.{StopsAgain}
use Rattle.yaml_grammar.proofs.FedPlaces.{fed_none}
use Rattle.yaml_steps.proofs.returned.returned_place.Goals as goal

-- a sign that no document can begin with
signed : (fed : List ℕ) (e : Stop) → ((at : ℕ) → e ≡ stop.Unread at → ⊥) → StopsAgain fed e → IsFront fed → ⊥
signed fed (stop.Unread at) n h = absurd (n at refl)
signed fed (stop.Tab at) n h = h
signed fed (stop.Anchor at) n h = h
signed fed (stop.Tag at) n h = h
signed fed (stop.Directive at) n h = h
signed fed (stop.ManyDocuments at) n h = h
signed fed (stop.DuplicateKey at) n h = h
signed fed (stop.TooDeep at) n h = h
signed fed stop.NoMemory n h = absurd h

pub returns-in-Unread : goal.returns-in-Unread
returns-in-Unread c = λ front e h. subst (IsSyntax (front ++ (13 ∷ []))) (sym c.offset.ensures) (c.place_before.ensures.is front e (subst (StopsAgain ((front ++ (13 ∷ [])) ++ (10 ∷ []))) c.in-Unread.is h))

pub returns-in_default : goal.returns-in_default
returns-in_default c = λ front e h.
    let n : length front ≡ c.args.len - 1 = omega (arith, e) in
    subst (IsSyntax (front ++ (13 ∷ []))) (n ∙ sym c.offset-in_default.ensures) (fed_none front (signed ((front ++ (13 ∷ [])) ++ (10 ∷ [])) c.args.again c.in_default.not-Unread h))
