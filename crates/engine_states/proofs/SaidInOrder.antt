-- Lines that say verdicts in order: one more of them, all where none decides, and the first that decides, behind which no other is cited. By the lists in turn.
use Rattle.std.proofs.Common.{◌≡◌, ℕ, Bool, true, false, refl, sym, subst, List, [], ◌∷◌, ◌++◌, Option, None}
use Rattle.evidence_lines.specs.declared.line.Line.{Line}
use Rattle.evidence_lines.specs.declared.line.LineKind.TheVariants as kind
use Rattle.guard_syntax.specs.Syntax.{Disj, Part, disj}
use Rattle.guard_syntax.specs.code.Seen.{disj_list, part_list}
use Rattle.guard_syntax.specs.declared.row.Ref.{Ref}
use Rattle.guard_syntax.specs.declared.row.Row.{Row}
use Rattle.guard_syntax.specs.declared.row.Row.TheVariants.{Found, Missing, Unmade}
use Rattle.guard_syntax.specs.declared.row.Verdict.{Verdict}
use Rattle.rule_names.specs.ReferenceGraph.{disj_site, part_site}
use Rattle.rule_meaning.specs.StoreModel.{StoreModel}
use Rattle.evidence_rules.specs.Follows.{Behind, SayDisjs, SayEach, SayParts, SayRows, SaysVerdict, is_stop, kind_of_part}

-- ---- no verdict decides

abbrev pub Undecided : (stop : Option Verdict) → List Verdict → Type 0
Undecided stop [] = Unit {0}
Undecided stop (w ∷ ws) = (is_stop stop w ≡ false) × Undecided stop ws

pub Undecided-push : (stop : Option Verdict) (ws : List Verdict) (w : Verdict) → Undecided stop ws → is_stop stop w ≡ false → Undecided stop (ws ++ w ∷ [])
Undecided-push stop [] w free is = (is, tt)
Undecided-push stop (v ∷ ws) w free is = (free.0, Undecided-push stop ws w free.1 is)

-- what comes next, behind what does not decide; nothing behind what does
goes-on : (stops : Bool) (unlined : List Verdict) (Next : (cites : List ℕ) → List Verdict → Type 0) (cites : List ℕ) (ws : List Verdict) → stops ≡ false → Next cites ws
    → Behind stops unlined Next cites ws
goes-on stops unlined Next cites ws e next = subst (λ (b : Bool). Behind b unlined Next cites ws) (sym e) next

ends : (stops : Bool) (unlined : List Verdict) (Next : (cites : List ℕ) → List Verdict → Type 0) → stops ≡ true → Behind stops unlined Next [] unlined
ends stops unlined Next e = subst (λ (b : Bool). Behind b unlined Next [] unlined) (sym e) (refl, refl)

module _ (known : StoreModel) (lines : List Line) (frame : ℕ) where
  -- ---- parts

  abbrev pub SaysPart : Part → ℕ → Verdict → Type 0
  SaysPart p c w = SaysVerdict known lines (kind_of_part known lines p) frame (part_site p) c w

  pub parts-push : (ps : List Part) (cs : List ℕ) (ws : List Verdict) (p : Part) (c : ℕ) (w : Verdict) → SayParts known lines frame None (part_list ps) cs ws → SaysPart p c w
      → SayParts known lines frame None (part_list (ps ++ p ∷ [])) (cs ++ c ∷ []) (ws ++ w ∷ [])
  parts-push [] [] [] p c w say is = (is, tt)
  parts-push [] [] (v ∷ ws) p c w say is = absurd say
  parts-push [] (d ∷ cs) ws p c w say is = absurd say
  parts-push (q ∷ ps) [] ws p c w say is = absurd say
  parts-push (q ∷ ps) (d ∷ cs) [] p c w say is = absurd say
  parts-push (q ∷ ps) (d ∷ cs) (v ∷ ws) p c w say is = (say.0, parts-push ps cs ws p c w say.1 is)

  pub parts-all : (stop : Option Verdict) (ps : List Part) (cs : List ℕ) (ws : List Verdict) → SayParts known lines frame None (part_list ps) cs ws → Undecided stop ws
      → SayParts known lines frame stop (part_list ps) cs ws
  parts-all stop [] [] [] say free = tt
  parts-all stop [] [] (v ∷ ws) say free = absurd say
  parts-all stop [] (d ∷ cs) ws say free = absurd say
  parts-all stop (q ∷ ps) [] ws say free = absurd say
  parts-all stop (q ∷ ps) (d ∷ cs) [] say free = absurd say
  parts-all stop (q ∷ ps) (d ∷ cs) (v ∷ ws) say free =
      (say.0, goes-on (is_stop stop v) [] (SayParts known lines frame stop (part_list ps)) cs ws free.0 (parts-all stop ps cs ws say.1 free.1))

  pub parts-ended : (stop : Option Verdict) (ps more : List Part) (cs : List ℕ) (ws : List Verdict) (p : Part) (c : ℕ) (w : Verdict)
      → SayParts known lines frame None (part_list ps) cs ws → Undecided stop ws → SaysPart p c w → is_stop stop w ≡ true
      → SayParts known lines frame stop (part_list (ps ++ p ∷ more)) (cs ++ c ∷ []) (ws ++ w ∷ [])
  parts-ended stop [] more [] [] p c w say free is last = (is, ends (is_stop stop w) [] (SayParts known lines frame stop (part_list more)) last)
  parts-ended stop [] more [] (v ∷ ws) p c w say free is last = absurd say
  parts-ended stop [] more (d ∷ cs) ws p c w say free is last = absurd say
  parts-ended stop (q ∷ ps) more [] ws p c w say free is last = absurd say
  parts-ended stop (q ∷ ps) more (d ∷ cs) [] p c w say free is last = absurd say
  parts-ended stop (q ∷ ps) more (d ∷ cs) (v ∷ ws) p c w say free is last = (
    say.0,
    goes-on (is_stop stop v) [] (SayParts known lines frame stop (part_list (ps ++ p ∷ more))) (cs ++ c ∷ []) (ws ++ w ∷ []) free.0
        (parts-ended stop ps more cs ws p c w say.1 free.1 is last),
  )

  -- ---- disjunctions

  abbrev pub SaysDisj : Disj → ℕ → Verdict → Type 0
  SaysDisj d c w = SaysVerdict known lines kind.Disj frame (disj_site d) c w

  pub disjs-push : (ds : List Disj) (cs : List ℕ) (ws : List Verdict) (d : Disj) (c : ℕ) (w : Verdict) → SayDisjs known lines frame None (disj_list ds) cs ws → SaysDisj d c w
      → SayDisjs known lines frame None (disj_list (ds ++ d ∷ [])) (cs ++ c ∷ []) (ws ++ w ∷ [])
  disjs-push [] [] [] (disj n ps) c w say is = (is, tt)
  disjs-push [] [] (v ∷ ws) d c w say is = absurd say
  disjs-push [] (e ∷ cs) ws d c w say is = absurd say
  disjs-push (disj n ps ∷ ds) [] ws d c w say is = absurd say
  disjs-push (disj n ps ∷ ds) (e ∷ cs) [] d c w say is = absurd say
  disjs-push (disj n ps ∷ ds) (e ∷ cs) (v ∷ ws) d c w say is = (say.0, disjs-push ds cs ws d c w say.1 is)

  pub disjs-all : (stop : Option Verdict) (ds : List Disj) (cs : List ℕ) (ws : List Verdict) → SayDisjs known lines frame None (disj_list ds) cs ws → Undecided stop ws
      → SayDisjs known lines frame stop (disj_list ds) cs ws
  disjs-all stop [] [] [] say free = tt
  disjs-all stop [] [] (v ∷ ws) say free = absurd say
  disjs-all stop [] (e ∷ cs) ws say free = absurd say
  disjs-all stop (disj n ps ∷ ds) [] ws say free = absurd say
  disjs-all stop (disj n ps ∷ ds) (e ∷ cs) [] say free = absurd say
  disjs-all stop (disj n ps ∷ ds) (e ∷ cs) (v ∷ ws) say free =
      (say.0, goes-on (is_stop stop v) [] (SayDisjs known lines frame stop (disj_list ds)) cs ws free.0 (disjs-all stop ds cs ws say.1 free.1))

  pub disjs-ended : (stop : Option Verdict) (ds more : List Disj) (cs : List ℕ) (ws : List Verdict) (d : Disj) (c : ℕ) (w : Verdict)
      → SayDisjs known lines frame None (disj_list ds) cs ws → Undecided stop ws → SaysDisj d c w → is_stop stop w ≡ true
      → SayDisjs known lines frame stop (disj_list (ds ++ d ∷ more)) (cs ++ c ∷ []) (ws ++ w ∷ [])
  disjs-ended stop [] more [] [] (disj n ps) c w say free is last = (is, ends (is_stop stop w) [] (SayDisjs known lines frame stop (disj_list more)) last)
  disjs-ended stop [] more [] (v ∷ ws) d c w say free is last = absurd say
  disjs-ended stop [] more (e ∷ cs) ws d c w say free is last = absurd say
  disjs-ended stop (disj n ps ∷ ds) more [] ws d c w say free is last = absurd say
  disjs-ended stop (disj n ps ∷ ds) more (e ∷ cs) [] d c w say free is last = absurd say
  disjs-ended stop (disj n ps ∷ ds) more (e ∷ cs) (v ∷ ws) d c w say free is last = (
    say.0,
    goes-on (is_stop stop v) [] (SayDisjs known lines frame stop (disj_list (ds ++ d ∷ more))) (cs ++ c ∷ []) (ws ++ w ∷ []) free.0
        (disjs-ended stop ds more cs ws d c w say.1 free.1 is last),
  )

  -- ---- rows

  module _ (Says : Ref → (number : ℕ) → Verdict → Type 0) where
    pub rows-push : (rows : List Row) (cs : List ℕ) (ws : List Verdict) (v : Ref) (c : ℕ) (w : Verdict) → SayRows known lines Says None rows cs ws → Says v c w
        → SayRows known lines Says None (rows ++ Found v ∷ []) (cs ++ c ∷ []) (ws ++ w ∷ [])
    rows-push [] [] [] v c w say is = (is, tt)
    rows-push [] [] (x ∷ ws) v c w say is = absurd say
    rows-push [] (d ∷ cs) ws v c w say is = absurd say
    rows-push (Found r ∷ rows) [] ws v c w say is = absurd say
    rows-push (Found r ∷ rows) (d ∷ cs) [] v c w say is = absurd say
    rows-push (Found r ∷ rows) (d ∷ cs) (x ∷ ws) v c w say is = (say.0, rows-push rows cs ws v c w say.1 is)
    rows-push (Missing r step ∷ rows) cs [] v c w say is = absurd say
    rows-push (Missing r step ∷ rows) cs (x ∷ ws) v c w say is = (say.0, rows-push rows cs ws v c w say.1 is)
    rows-push (Unmade site ∷ rows) cs [] v c w say is = absurd say
    rows-push (Unmade site ∷ rows) cs (x ∷ ws) v c w say is = (say.0, rows-push rows cs ws v c w say.1 is)

  -- ---- candidates

  module _ (Says : Ref → (number : ℕ) → Verdict → Type 0) where
    pub each-push : (vs : List Ref) (cs : List ℕ) (ws : List Verdict) (v : Ref) (c : ℕ) (w : Verdict) → SayEach known lines Says vs cs ws → Says v c w
        → SayEach known lines Says (vs ++ v ∷ []) (cs ++ c ∷ []) (ws ++ w ∷ [])
    each-push [] [] [] v c w say is = (is, tt)
    each-push [] [] (x ∷ ws) v c w say is = absurd say
    each-push [] (d ∷ cs) ws v c w say is = absurd say
    each-push (r ∷ vs) [] ws v c w say is = absurd say
    each-push (r ∷ vs) (d ∷ cs) [] v c w say is = absurd say
    each-push (r ∷ vs) (d ∷ cs) (x ∷ ws) v c w say is = (say.0, each-push vs cs ws v c w say.1 is)
