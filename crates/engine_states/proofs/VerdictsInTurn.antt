-- Lines of verdicts one after another, in the loops that evaluate them: one disjunction, one part, one candidate or one row more; where one decides; and at the end.
use Rattle.std.proofs.Common.{◌≡◌, ℕ, zero, suc, ◌+◌, ◌<◌, ◌≤◌, ◌++◌, List, [], ◌∷◌, length, map, take, drop, get_or, true, false, arith, sym, ap, ◌∙◌, subst, Option, None}
use Rattle.std.proofs.lemmas.List.{map-append, take_all, take_more}
use Rattle.evidence_lines.specs.declared.line.Line.{Line}
use Rattle.evidence_lines.specs.declared.line.LineKind.TheVariants as kind
use Rattle.evidence_lines.specs.declared.line.Outcome.TheVariants as says
use Rattle.guard_syntax.specs.Syntax.{Conds, Disj, Part}
use Rattle.guard_syntax.specs.code.Seen.{disj_list, part_list}
use Rattle.guard_syntax.specs.declared.row.Ref.{Ref}
use Rattle.guard_syntax.specs.declared.row.Verdict.{Verdict}
use Rattle.guard_syntax.specs.declared.row.Verdict.TheVariants.{Skip}
use Rattle.rule_names.specs.ReferenceGraph.{disj_site, part_site}
use Rattle.rule_meaning.specs.Verdicts.{conjunction, disjunction}
use Rattle.evidence_rules.specs.CitedLines.{IsLine}
use Rattle.evidence_rules.specs.Follows.{SayDisjs, SayEach, SayParts, SaysCandidate, is_stop, kind_of_part}
use Rattle.engine_states.specs.code.Answers.{Answers}
use Rattle.engine_states.specs.code.Evaluated.{Evaluates}
use Rattle.engine_states.specs.code.States.{IsWhole, State}
use Rattle.engine_parts.proofs.Conjoined.{conjunction-more, disjunction-more}
use Rattle.engine_states.proofs.InTurn.{SaidFor, said-next}
use Rattle.engine_states.proofs.SaidInOrder.{Undecided, Undecided-push, disjs-all, disjs-ended, disjs-push, each-push, parts-all, parts-ended, parts-push}
use Rattle.engine_states.proofs.SaidStays.{SayCandidates-stays, SayDisjs-stays, SayParts-stays}

-- ---- lists

seen-next : {A X : Type 0} (see : A → X) (xs : List A) (i : ℕ) (x : A) → i < length xs → x ≡ get_or xs i x → map see (take (i + 1) xs) ≡ map see (take i xs) ++ see x ∷ []
seen-next see xs i x within is =
    ap (map see) (take_more xs i x within ∙ ap (λ y. take i xs ++ y ∷ []) (sym is)) ∙ map-append see (take i xs) (x ∷ [])

seen-all : {A X : Type 0} (see : A → X) (xs : List A) (i : ℕ) → length xs ≤ i → map see (take i xs) ≡ map see xs
seen-all see xs i past = ap (map see) (take_all i xs past)

seen-parted : {A X : Type 0} (see : A → X) (xs : List A) (i : ℕ) (x : A) → i < length xs → x ≡ get_or xs i x
    → map see xs ≡ map see (take i xs) ++ see x ∷ map see (drop (suc i) xs)
seen-parted see [] i x within is = absurd (omega (arith, within))
seen-parted see (first ∷ xs) zero x within is = ap (λ y. see y ∷ map see xs) (sym is)
seen-parted see (first ∷ xs) (suc i) x within is = ap (λ ys. see first ∷ ys) (seen-parted see xs i x (omega (arith, within)) is)

next-plain : {X : Type 0} (xs : List X) (i : ℕ) (x : X) → i < length xs → x ≡ get_or xs i x → take (i + 1) xs ≡ take i xs ++ x ∷ []
next-plain xs i x within is = take_more xs i x within ∙ ap (λ y. take i xs ++ y ∷ []) (sym is)

-- ---- disjunctions

-- so far: none of them decides
abbrev pub DisjsSoFar : (s : State) → (stop : Option Verdict) → List Disj → (numbers : List ℕ) → Verdict → (at : ℕ) → Type 0
DisjsSoFar s stop xs numbers verdict at =
    (verdicts : List Verdict) × SayDisjs s.known s.lines at None (disj_list xs) numbers verdicts × Undecided stop verdicts × (verdict ≡ conjunction verdicts)

-- up to the one that decides, if one does
abbrev pub DisjsSaid : (s : State) → (stop : Option Verdict) → List Disj → (numbers : List ℕ) → Verdict → (at : ℕ) → Type 0
DisjsSaid s stop xs numbers verdict at = (verdicts : List Verdict) × SayDisjs s.known s.lines at stop (disj_list xs) numbers verdicts × (verdict ≡ conjunction verdicts)

pub disjs-none : (s : State) (stop : Option Verdict) (verdict : Verdict) → verdict ≡ Skip → (at : ℕ) → DisjsSoFar s stop [] [] verdict at
disjs-none s stop verdict is at = ([], tt, tt, is)

module _ {A : Type 0} (see : A → Disj) (xs : List A) (i : ℕ) (stop : Option Verdict) where
  pub disjs-end : (a b : State) (bound frame : ℕ) (numbers : List ℕ) (verdict : Verdict) → length xs ≤ i
      → SaidFor a b bound frame numbers (DisjsSoFar b stop (map see (take i xs)) numbers verdict) → SaidFor a b bound frame numbers (DisjsSaid b stop (map see xs) numbers verdict)
  disjs-end a b bound frame numbers verdict past (evaluates, at, framed, (verdicts, say, free, made)) = (
    evaluates,
    at,
    framed,
    (
      verdicts,
      disjs-all b.known b.lines at stop (map see xs) numbers verdicts
          (subst (λ (ys : List Disj). SayDisjs b.known b.lines at None (disj_list ys) numbers verdicts) (seen-all see xs i past) say) free,
      made,
    ),
  )

  module _ (x : A) (within : i < length xs) (is : x ≡ get_or xs i x) (a b c : State) (whole : IsWhole a) (bound least frame number : ℕ) (numbers more : List ℕ) (before after w : Verdict)
      (so_far : SaidFor a b bound frame numbers (DisjsSoFar b stop (map see (take i xs)) numbers before))
      (it : Answers b c least frame number (λ at. IsLine c.lines number kind.Disj at (disj_site (see x)) (says.Verdict w))) (no_more : least ≤ bound)
      (cited : more ≡ numbers ++ number ∷ []) (both : after ≡ conjunction (before ∷ w ∷ [])) where
    disjs-both : SaidFor a c bound frame (numbers ++ number ∷ [])
        (λ at. DisjsSoFar c stop (map see (take i xs)) numbers before at × IsLine c.lines number kind.Disj at (disj_site (see x)) (says.Verdict w))
    disjs-both = said-next a b c whole bound least frame number numbers (DisjsSoFar b stop (map see (take i xs)) numbers before) (DisjsSoFar c stop (map see (take i xs)) numbers before)
        (λ at. IsLine c.lines number kind.Disj at (disj_site (see x)) (says.Verdict w)) so_far it no_more
        (λ grows at said. (
          said.0,
          subst (λ (ls : List Line). SayDisjs c.known ls at None (disj_list (map see (take i xs))) numbers said.0) (sym grows.lines)
              (SayDisjs-stays b.known c.known b.lines grows.more_lines at None (disj_list (map see (take i xs))) numbers said.0 said.1),
          said.2,
          said.3,
        ))

    made-more : (verdicts : List Verdict) → before ≡ conjunction verdicts → after ≡ conjunction (verdicts ++ w ∷ [])
    made-more verdicts made = both ∙ ap (λ (v : Verdict). conjunction (v ∷ w ∷ [])) made ∙ sym (conjunction-more verdicts w)

    -- one more that does not decide
    pub disjs-next : is_stop stop w ≡ false → SaidFor a c bound frame more (DisjsSoFar c stop (map see (take (i + 1) xs)) more after)
    disjs-next goes =
        let all = disjs-both in
        let said = all.3.0 in (
          subst (Evaluates a c bound) (sym cited) all.0,
          all.1,
          all.2,
          (
            said.0 ++ w ∷ [],
            subst (λ (ys : List Disj). SayDisjs c.known c.lines all.1 None (disj_list ys) more (said.0 ++ w ∷ [])) (sym (seen-next see xs i x within is))
                (subst (λ (cs : List ℕ). SayDisjs c.known c.lines all.1 None (disj_list (map see (take i xs) ++ see x ∷ [])) cs (said.0 ++ w ∷ [])) (sym cited)
                (disjs-push c.known c.lines all.1 (map see (take i xs)) numbers said.0 (see x) number w said.1 all.3.1)),
            Undecided-push stop said.0 w said.2 goes,
            made-more said.0 said.3,
          ),
        )

    -- or one that does
    pub disjs-stopped : is_stop stop w ≡ true → SaidFor a c bound frame more (DisjsSaid c stop (map see xs) more after)
    disjs-stopped stops =
        let all = disjs-both in
        let said = all.3.0 in (
          subst (Evaluates a c bound) (sym cited) all.0,
          all.1,
          all.2,
          (
            said.0 ++ w ∷ [],
            subst (λ (ys : List Disj). SayDisjs c.known c.lines all.1 stop (disj_list ys) more (said.0 ++ w ∷ [])) (sym (seen-parted see xs i x within is))
                (subst (λ (cs : List ℕ). SayDisjs c.known c.lines all.1 stop (disj_list (map see (take i xs) ++ see x ∷ map see (drop (suc i) xs))) cs (said.0 ++ w ∷ [])) (sym cited)
                (disjs-ended c.known c.lines all.1 stop (map see (take i xs)) (map see (drop (suc i) xs)) numbers said.0 (see x) number w said.1 said.2 all.3.1 stops)),
            made-more said.0 said.3,
          ),
        )

-- ---- parts

-- so far: none of them decides
abbrev pub PartsSoFar : (s : State) → (stop : Option Verdict) → List Part → (numbers : List ℕ) → Verdict → (at : ℕ) → Type 0
PartsSoFar s stop xs numbers verdict at =
    (verdicts : List Verdict) × SayParts s.known s.lines at None (part_list xs) numbers verdicts × Undecided stop verdicts × (verdict ≡ disjunction verdicts)

-- up to the one that decides, if one does
abbrev pub PartsSaid : (s : State) → (stop : Option Verdict) → List Part → (numbers : List ℕ) → Verdict → (at : ℕ) → Type 0
PartsSaid s stop xs numbers verdict at = (verdicts : List Verdict) × SayParts s.known s.lines at stop (part_list xs) numbers verdicts × (verdict ≡ disjunction verdicts)

pub parts-none : (s : State) (stop : Option Verdict) (verdict : Verdict) → verdict ≡ Skip → (at : ℕ) → PartsSoFar s stop [] [] verdict at
parts-none s stop verdict is at = ([], tt, tt, is)

module _ {A : Type 0} (see : A → Part) (xs : List A) (i : ℕ) (stop : Option Verdict) where
  pub parts-end : (a b : State) (bound frame : ℕ) (numbers : List ℕ) (verdict : Verdict) → length xs ≤ i
      → SaidFor a b bound frame numbers (PartsSoFar b stop (map see (take i xs)) numbers verdict) → SaidFor a b bound frame numbers (PartsSaid b stop (map see xs) numbers verdict)
  parts-end a b bound frame numbers verdict past (evaluates, at, framed, (verdicts, say, free, made)) = (
    evaluates,
    at,
    framed,
    (
      verdicts,
      parts-all b.known b.lines at stop (map see xs) numbers verdicts
          (subst (λ (ys : List Part). SayParts b.known b.lines at None (part_list ys) numbers verdicts) (seen-all see xs i past) say) free,
      made,
    ),
  )

  module _ (x : A) (within : i < length xs) (is : x ≡ get_or xs i x) (a b c : State) (whole : IsWhole a) (bound least frame number : ℕ) (numbers more : List ℕ) (before after w : Verdict)
      (so_far : SaidFor a b bound frame numbers (PartsSoFar b stop (map see (take i xs)) numbers before))
      (it : Answers b c least frame number (λ at. IsLine c.lines number (kind_of_part c.known c.lines (see x)) at (part_site (see x)) (says.Verdict w))) (no_more : least ≤ bound)
      (cited : more ≡ numbers ++ number ∷ []) (both : after ≡ disjunction (before ∷ w ∷ [])) where
    parts-both : SaidFor a c bound frame (numbers ++ number ∷ [])
        (λ at. PartsSoFar c stop (map see (take i xs)) numbers before at × IsLine c.lines number (kind_of_part c.known c.lines (see x)) at (part_site (see x)) (says.Verdict w))
    parts-both = said-next a b c whole bound least frame number numbers (PartsSoFar b stop (map see (take i xs)) numbers before) (PartsSoFar c stop (map see (take i xs)) numbers before)
        (λ at. IsLine c.lines number (kind_of_part c.known c.lines (see x)) at (part_site (see x)) (says.Verdict w)) so_far it no_more
        (λ grows at said. (
          said.0,
          subst (λ (ls : List Line). SayParts c.known ls at None (part_list (map see (take i xs))) numbers said.0) (sym grows.lines)
              (SayParts-stays b.known c.known b.lines grows.more_lines at None (part_list (map see (take i xs))) numbers said.0 said.1),
          said.2,
          said.3,
        ))

    made-further : (verdicts : List Verdict) → before ≡ disjunction verdicts → after ≡ disjunction (verdicts ++ w ∷ [])
    made-further verdicts made = both ∙ ap (λ (v : Verdict). disjunction (v ∷ w ∷ [])) made ∙ sym (disjunction-more verdicts w)

    -- one more that does not decide
    pub parts-next : is_stop stop w ≡ false → SaidFor a c bound frame more (PartsSoFar c stop (map see (take (i + 1) xs)) more after)
    parts-next goes =
        let all = parts-both in
        let said = all.3.0 in (
          subst (Evaluates a c bound) (sym cited) all.0,
          all.1,
          all.2,
          (
            said.0 ++ w ∷ [],
            subst (λ (ys : List Part). SayParts c.known c.lines all.1 None (part_list ys) more (said.0 ++ w ∷ [])) (sym (seen-next see xs i x within is))
                (subst (λ (cs : List ℕ). SayParts c.known c.lines all.1 None (part_list (map see (take i xs) ++ see x ∷ [])) cs (said.0 ++ w ∷ [])) (sym cited)
                (parts-push c.known c.lines all.1 (map see (take i xs)) numbers said.0 (see x) number w said.1 all.3.1)),
            Undecided-push stop said.0 w said.2 goes,
            made-further said.0 said.3,
          ),
        )

    -- or one that does
    pub parts-stopped : is_stop stop w ≡ true → SaidFor a c bound frame more (PartsSaid c stop (map see xs) more after)
    parts-stopped stops =
        let all = parts-both in
        let said = all.3.0 in (
          subst (Evaluates a c bound) (sym cited) all.0,
          all.1,
          all.2,
          (
            said.0 ++ w ∷ [],
            subst (λ (ys : List Part). SayParts c.known c.lines all.1 stop (part_list ys) more (said.0 ++ w ∷ [])) (sym (seen-parted see xs i x within is))
                (subst (λ (cs : List ℕ). SayParts c.known c.lines all.1 stop (part_list (map see (take i xs) ++ see x ∷ map see (drop (suc i) xs))) cs (said.0 ++ w ∷ [])) (sym cited)
                (parts-ended c.known c.lines all.1 stop (map see (take i xs)) (map see (drop (suc i) xs)) numbers said.0 (see x) number w said.1 said.2 all.3.1 stops)),
            made-further said.0 said.3,
          ),
        )

-- ---- candidates

pub candidates-next : (tried : List Ref) (i : ℕ) (v : Ref) → i < length tried → v ≡ get_or tried i v → (a b c : State) → IsWhole a
    → (bound least frame site number : ℕ) (conditions : Conds) (numbers more : List ℕ) (verdicts after : List Verdict) (w : Verdict)
    → SaidFor a b bound frame numbers (λ at. SayEach b.known b.lines (SaysCandidate b.known b.lines at site conditions) (take i tried) numbers verdicts)
    → Answers b c least frame number (λ at. SaysCandidate c.known c.lines at site conditions v number w) → least ≤ bound → more ≡ numbers ++ number ∷ [] → after ≡ verdicts ++ w ∷ []
    → SaidFor a c bound frame more (λ at. SayEach c.known c.lines (SaysCandidate c.known c.lines at site conditions) (take (i + 1) tried) more after)
candidates-next tried i v within is a b c whole bound least frame site number conditions numbers more verdicts after w so_far it no_more cited judged =
    let all = said-next a b c whole bound least frame number numbers
    (λ at. SayEach b.known b.lines (SaysCandidate b.known b.lines at site conditions) (take i tried) numbers verdicts)
    (λ at. SayEach c.known c.lines (SaysCandidate c.known c.lines at site conditions) (take i tried) numbers verdicts)
    (λ at. SaysCandidate c.known c.lines at site conditions v number w) so_far it no_more
    (λ grows at said.
    subst (λ (ls : List Line). SayEach c.known ls (SaysCandidate c.known ls at site conditions) (take i tried) numbers verdicts) (sym grows.lines)
    (SayCandidates-stays b.known c.known b.lines grows.more_lines at site conditions (take i tried) numbers verdicts said)) in (
      subst (Evaluates a c bound) (sym cited) all.0,
      all.1,
      all.2,
      subst (λ (vs : List Ref). SayEach c.known c.lines (SaysCandidate c.known c.lines all.1 site conditions) vs more after) (sym (next-plain tried i v within is))
          (subst (λ (cs : List ℕ). SayEach c.known c.lines (SaysCandidate c.known c.lines all.1 site conditions) (take i tried ++ v ∷ []) cs after) (sym cited)
          (subst (λ (ws : List Verdict). SayEach c.known c.lines (SaysCandidate c.known c.lines all.1 site conditions) (take i tried ++ v ∷ []) (numbers ++ number ∷ []) ws) (sym judged)
          (each-push c.known c.lines all.1 (SaysCandidate c.known c.lines all.1 site conditions) (take i tried) numbers verdicts v number w all.3.0 all.3.1))),
    )
