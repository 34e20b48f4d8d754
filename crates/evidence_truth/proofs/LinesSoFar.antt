-- Evidence up to a line: what is so of the lines before it, seen in the store and among the lines of the whole.
use Rattle.std.proofs.Common.{◌≡◌, ◌≤◌, ℕ, zero, suc, Bool, true, false, refl, sym, ap, ap₂, ◌∙◌, ◌⊎◌, subst, true≢false, List, ◌++◌, length, map, unwrap_or, Option, Some, None, option_and_then}
use Rattle.std.specs.List.{list_all}
use Rattle.std.proofs.lemmas.List.{map-append}
use Rattle.std.proofs.lemmas.Option.{same_Some, none-some}
use Rattle.doc_values.specs.Tree.{Forest}
use Rattle.evidence_lines.specs.Lines.{line_of}
use Rattle.evidence_lines.specs.declared.line.Line.{Line}
use Rattle.evidence_lines.specs.declared.version.Version.{Version}
use Rattle.evidence_lines.specs.declared.line.LineKind.{LineKind}
use Rattle.evidence_lines.specs.declared.line.LineKind.TheVariants as kind
use Rattle.evidence_lines.specs.declared.line.Outcome.{Outcome}
use Rattle.evidence_lines.specs.declared.line.Outcome.TheVariants as says
use Rattle.guard_syntax.specs.Syntax.{File, Exprs}
use Rattle.guard_syntax.specs.declared.row.Ref.{Ref}
use Rattle.guard_syntax.specs.declared.row.Row.{Row}
use Rattle.rule_names.specs.Resolution.{target_of}
use Rattle.rule_names.specs.Pieces.{Piece, OfBody, OfPart, piece_at, pieces_file}
use Rattle.rule_names.proofs.Parts.{hits}
use Rattle.rule_meaning.specs.StoreModel.{StoreModel, Made}
use Rattle.evidence_rules.specs.CitedLines.{IsLine, args_at, around_by, around_site, file_frame, outer_frame, outwards, past_frame, scope_by, scope_of, value_of, value_said}
use Rattle.evidence_rules.specs.Follows.{IsBlockBody, IsRuleBody, IsWhenBody}
use Rattle.rule_meaning.specs.Roots.{root_ref}
use Rattle.rule_meaning.specs.Seeing.{are_called, see_row, see_location}
use Rattle.rule_meaning.specs.Environments.{Environment, Top, Inner, Called, current_of, outer_of}
use Rattle.rule_meaning.specs.Environments as location
use Rattle.rule_meaning.specs.FunctionMeaning.{IsAnswering}
use Rattle.rule_meaning.specs.Meaning.{Names}
use Rattle.rule_meaning.specs.code.Fixpoint.{IsFixpoint}
use Rattle.rule_meaning.specs.Locations.{Answers, Location, LocatedRow, World}
use Rattle.evidence_rules.specs.code.Judgement.{FrameNames, Holds, HoldsAt, HoldsIn, line_sites, location_said}
use Rattle.evidence_truth.proofs.HeldLines.{AreHeld}
use Rattle.evidence_truth.proofs.HeldRows.{is_held, is_held_ref}
use Rattle.evidence_truth.proofs.HeldSeen.{rows-seen, location-seen}
use Rattle.evidence_truth.proofs.PiecesAt.{IsOrdered}

-- ---- all evidence

-- lines over a template and a file, all trees that they make, what functions answer, and what names mean
pub record Evidence : Type 0 where
  pub version : Version
  pub template : Forest
  pub file : File
  pub made : List Made
  pub lines : List Line
  pub answers : Answers
  pub names : Names

-- the store with these trees
abbrev pub store_of : Evidence → List Made → StoreModel
store_of e made = record { template = e.template; file = e.file; made = made }

abbrev pub last_store : Evidence → StoreModel
last_store e = store_of e e.made

abbrev pub world_for : Evidence → World
world_for e = record { template = e.template; file = e.file; answers = e.answers }

-- values and rows as they are seen in the end
abbrev pub seen : Evidence → Ref → Location
seen e v = see_location (last_store e) (line_sites e.lines) v

abbrev pub shown : Evidence → Row → LocatedRow
shown e row = see_row (last_store e) (line_sites e.lines) row

-- the frame of a number names an environment
abbrev pub Framing : Evidence → ℕ → Environment → Type 0
Framing e number env = FrameNames (last_store e) e.lines number env

-- the file is one that was resolved, functions answer by their table, and names mean what theirs say
pub record Meant (e : Evidence) : Type 0 where
  pub alone : (n : ℕ) → hits n (pieces_file e.file) ≤ 1
  pub ordered : IsOrdered e.file
  pub targets : (site : ℕ) → target_of e.file site ≡ Some 0 → ⊥
  pub answering : IsAnswering (world_for e)
  pub obeys : IsFixpoint (world_for e) e.names

-- ---- the lines before

-- the trees and the lines so far, as the first of all
pub record Cut (e : Evidence) (made : List Made) (before : List Line) : Type 0 where
  pub later : List Made
  pub grows : made ++ later ≡ e.made
  pub rest : List Line
  pub splits : before ++ rest ≡ e.lines
  pub called : are_called (line_sites before) made ≡ true

module _ (e : Evidence) where
  -- the value of an environment that a frame names
  abbrev pub IsCurrent : (frame : ℕ) → Ref → Type 0
  IsCurrent frame v = (env : Environment) → Framing e frame env → current_of env ≡ seen e v

  -- the value of a frame, by the part of its site
  abbrev pub ValueFits : (frame : ℕ) → Option Piece → Ref → Type 0
  ValueFits frame (Some (OfBody b)) v =
      (IsRuleBody (last_store e) e.lines b × (v ≡ root_ref)) ⊎ ((IsWhenBody (last_store e) e.lines b × IsCurrent frame v) ⊎ IsBlockBody (last_store e) e.lines b)
  ValueFits frame (Some (OfPart part)) v = IsCurrent frame v
  ValueFits frame _ v = Unit {0}

  -- a `file` line has the root as its value; a `frame` line stands in an environment, and has a value that fits
  abbrev pub IsFramed : Line → LineKind → Type 0
  IsFramed line kind.File = line.outcome ≡ says.Value root_ref
  IsFramed line kind.Frame =
      (frame site : ℕ) × (v : Ref) × (env : Environment) × (line.frame ≡ Some frame) × (line.site ≡ Some site) × (line.outcome ≡ says.Value v) × Framing e frame env
      × ValueFits frame (piece_at e.file site) v
  IsFramed line _ = Unit {0}

pub record Past (e : Evidence) (made : List Made) (before : List Line) : Type 0 where
  pub cut : Cut e made before
  pub held : AreHeld (store_of e made) before
  pub stand : (number : ℕ) (l : Line) → line_of before number ≡ Some l → line_of e.lines number ≡ Some l
  pub holds : (number : ℕ) (l : Line) → line_of before number ≡ Some l → Holds (last_store e) e.lines (world_for e) e.names l
  pub framed : (number : ℕ) (l : Line) → line_of before number ≡ Some l → IsFramed e l l.kind

-- ---- what is held is seen now as in the end

module _ (e : Evidence) (made : List Made) (before : List Line) (cut : Cut e made before) where
  sites-split : line_sites before ++ line_sites cut.rest ≡ line_sites e.lines
  sites-split = sym (map-append (λ (l : Line). unwrap_or l.site 0) before cut.rest) ∙ ap line_sites cut.splits

  pub location-then : (v : Ref) → is_held_ref (store_of e made) v ≡ true → see_location (store_of e made) (line_sites before) v ≡ seen e v
  location-then v held =
      sym (location-seen (store_of e made) cut.later (line_sites before) (line_sites cut.rest) cut.called v held)
      ∙ ap₂ (λ (m : List Made) (sites : List ℕ). see_location (store_of e m) sites v) cut.grows sites-split

  pub rows-then : (rows : List Row) → list_all (is_held (store_of e made)) rows ≡ true → map (see_row (store_of e made) (line_sites before)) rows ≡ map (shown e) rows
  rows-then rows held =
      sym (rows-seen (store_of e made) cut.later (line_sites before) (line_sites cut.rest) cut.called rows held)
      ∙ ap₂ (λ (m : List Made) (sites : List ℕ). map (see_row (store_of e m) sites) rows) cut.grows sites-split

-- ---- one line of a number

module _ (lines : List Line) (number : ℕ) (of of' : LineKind) (frame frame' site site' : ℕ) (said said' : Outcome) (a : IsLine lines number of frame site said) (b : IsLine lines number of' frame' site' said') where
  same-line : a.line ≡ b.line
  same-line = same_Some a.line b.line (sym a.stands ∙ b.stands)

  pub same-frame : frame ≡ frame'
  same-frame = same_Some frame frame' (sym a.frame_is ∙ ap (λ (l : Line). l.frame) same-line ∙ b.frame_is)

  pub same-site : site ≡ site'
  same-site = same_Some site site' (sym a.site_is ∙ ap (λ (l : Line). l.site) same-line ∙ b.site_is)

  pub same-outcome : said ≡ said'
  same-outcome = sym a.outcome_is ∙ ap (λ (l : Line). l.outcome) same-line ∙ b.outcome_is

is_file : LineKind → Bool
is_file kind.File = true
is_file _ = false

pub file-frame : kind.File ≡ kind.Frame → ⊥
unfolding is_file
file-frame e = true≢false (ap is_file e)

pub same-value : (v w : Ref) → says.Value v ≡ says.Value w → v ≡ w
same-value v w e = same_Some v w (ap value_said e)

-- ---- a frame names one environment

module _ (known : StoreModel) (lines : List Line) where
  file-line-apart : (number frame site : ℕ) (v : Ref) (l : Line) → line_of lines number ≡ Some l → l.kind ≡ kind.File → IsLine lines number kind.Frame frame site (says.Value v) → ⊥
  file-line-apart number frame site v l stands file is =
      file-frame (sym file ∙ ap (λ (x : Line). x.kind) (same_Some l is.line (sym stands ∙ is.stands)) ∙ is.kind_is)

  args-apart : (site site' : ℕ) (args : Exprs) → site ≡ site' → args_at known.file site ≡ None → args_at known.file site' ≡ Some args → ⊥
  args-apart site site' args same none some = none-some args (sym none ∙ ap (args_at known.file) same ∙ some)

  pub one-environment : (number : ℕ) (a b : Environment) → FrameNames known lines number a → FrameNames known lines number b → a ≡ b
  one-environment number Top Top h k = refl
  one-environment number Top (Inner current outer) (l, stands, file) (frame, site, v, is, given, same, around) = absurd (file-line-apart number frame site v l stands file is)
  one-environment number Top (Called current args caller) (l, stands, file) (frame, site, v, is, given, same, around) = absurd (file-line-apart number frame site v l stands file is)
  one-environment number (Inner current outer) Top (frame, site, v, is, given, same, around) (l, stands, file) = absurd (file-line-apart number frame site v l stands file is)
  one-environment number (Called current args caller) Top (frame, site, v, is, given, same, around) (l, stands, file) = absurd (file-line-apart number frame site v l stands file is)
  one-environment number (Inner current outer) (Inner current' outer') (frame, site, v, is, none, same, around) (frame', site', v', is', none', same', around') =
      let value : v ≡ v' = same-value v v' (same-outcome lines number _ _ frame frame' site site' _ _ is is') in
      let frames : frame ≡ frame' = same-frame lines number _ _ frame frame' site site' _ _ is is' in
      ap₂ Inner (same ∙ ap (location_said known lines) value ∙ sym same')
      (one-environment frame outer outer' around (subst (λ (n : ℕ). FrameNames known lines n outer') (sym frames) around'))
  one-environment number (Called current args caller) (Called current' args' caller') (frame, site, v, is, some, same, around) (frame', site', v', is', some', same', around') =
      let value : v ≡ v' = same-value v v' (same-outcome lines number _ _ frame frame' site site' _ _ is is') in
      let frames : frame ≡ frame' = same-frame lines number _ _ frame frame' site site' _ _ is is' in
      let sites : site ≡ site' = same-site lines number _ _ frame frame' site site' _ _ is is' in
      let given : args ≡ args' = same_Some args args' (sym some ∙ ap (args_at known.file) sites ∙ some') in
      ap (λ (c : Location). Called c args caller) (same ∙ ap (location_said known lines) value ∙ sym same')
      ∙ ap₂ (λ (xs : Exprs) (c : Environment). Called current' xs c) given
      (one-environment frame caller caller' around (subst (λ (n : ℕ). FrameNames known lines n caller') (sym frames) around'))
  one-environment number (Inner current outer) (Called current' args' caller') (frame, site, v, is, none, same, around) (frame', site', v', is', some', same', around') =
      absurd (args-apart site site' args' (same-site lines number _ _ frame frame' site site' _ _ is is') none some')
  one-environment number (Called current args caller) (Inner current' outer') (frame, site, v, is, some, same, around) (frame', site', v', is', none', same', around') =
      absurd (args-apart site' site args (same-site lines number _ _ frame' frame site' site _ _ is' is) none' some)

-- ---- what lines before say

module _ (e : Evidence) (made : List Made) (before : List Line) (past : Past e made before) where
  abbrev world : World
  world = world_for e

  -- a line before is one of all
  pub in-all : (number : ℕ) (of : LineKind) (frame site : ℕ) (said : Outcome) → IsLine before number of frame site said → IsLine e.lines number of frame site said
  in-all number of frame site said is =
      record { line = is.line; stands = past.stand number is.line is.stands; kind_is = is.kind_is; frame_is = is.frame_is; site_is = is.site_is; outcome_is = is.outcome_is }

  -- what it says is so in an environment that its frame names
  pub cited : (number : ℕ) (of : LineKind) (frame site : ℕ) (said : Outcome) → IsLine before number of frame site said
      → (env : Environment) × Framing e frame env × HoldsIn (last_store e) e.lines world e.names env of (piece_at e.file site) said
  cited number of frame site said is =
      let h : HoldsAt (last_store e) e.lines world e.names is.line is.line.frame is.line.site = past.holds number is.line is.stands in
      let framed : HoldsAt (last_store e) e.lines world e.names is.line (Some frame) is.line.site = subst (λ (f : Option ℕ). HoldsAt (last_store e) e.lines world e.names is.line f is.line.site) is.frame_is h in
      let sited : HoldsAt (last_store e) e.lines world e.names is.line (Some frame) (Some site) = subst (λ (s : Option ℕ). HoldsAt (last_store e) e.lines world e.names is.line (Some frame) s) is.site_is framed in (
        sited.0,
        sited.1,
        subst (λ (o : Outcome). HoldsIn (last_store e) e.lines world e.names sited.0 of (piece_at e.file site) o) is.outcome_is
            (subst (λ (k : LineKind). HoldsIn (last_store e) e.lines world e.names sited.0 k (piece_at e.file site) is.line.outcome) is.kind_is sited.2),
      )

  -- so in the one that its frame is known to name
  pub cited-in : (number : ℕ) (of : LineKind) (frame site : ℕ) (said : Outcome) (env : Environment) → IsLine before number of frame site said → Framing e frame env
      → HoldsIn (last_store e) e.lines world e.names env of (piece_at e.file site) said
  cited-in number of frame site said env is framing =
      let h = cited number of frame site said is in
      subst (λ (x : Environment). HoldsIn (last_store e) e.lines world e.names x of (piece_at e.file site) said)
      (one-environment (last_store e) e.lines frame h.0 env h.1 framing) h.2

  -- the value of a frame is the current one of its environment
  pub value-current : (frame : ℕ) (v : Ref) (env : Environment) → value_of before frame ≡ Some v → Framing e frame env → current_of env ≡ seen e v
  value-current frame v env has framing = by (line_of before frame) refl has
    where
      -- by what its line names
      inside : (l : Line) → line_of before frame ≡ Some l → (env : Environment) → Framing e frame env → l.outcome ≡ says.Value v → current_of env ≡ seen e v
      inside l there Top (x, stands, file) said =
          let same : x ≡ l = same_Some x l (sym stands ∙ past.stand frame l there) in
          let root : l.outcome ≡ says.Value root_ref = subst (λ (k : LineKind). IsFramed e l k) (ap (λ (y : Line). y.kind) (sym same) ∙ file) (past.framed frame l there) in
          ap (seen e) (same-value root_ref v (sym root ∙ said))
      inside l there (Inner current outer) (f, site, w, is, none, same, around) said =
          same ∙ ap (seen e) (same-value w v (sym is.outcome_is ∙ ap (λ (y : Line). y.outcome) (same_Some is.line l (sym is.stands ∙ past.stand frame l there)) ∙ said))
      inside l there (Called current args caller) (f, site, w, is, some, same, around) said =
          same ∙ ap (seen e) (same-value w v (sym is.outcome_is ∙ ap (λ (y : Line). y.outcome) (same_Some is.line l (sym is.stands ∙ past.stand frame l there)) ∙ said))

      said-value : (o : Outcome) → value_said o ≡ Some v → o ≡ says.Value v
      said-value (says.Value w) is = ap says.Value (same_Some w v is)
      said-value (says.Rows rows) is = absurd (none-some v is)
      said-value (says.Verdict verdict) is = absurd (none-some v is)

      by : (o : Option Line) → line_of before frame ≡ o → option_and_then (λ (l : Line). value_said l.outcome) o ≡ Some v → current_of env ≡ seen e v
      by None none is = absurd (none-some v is)
      by (Some l) there is = inside l there env framing (said-value l.outcome is)

  -- ---- frames

  -- a frame that stands for a scope names an environment
  pub frame-names : (frame scope : ℕ) → scope_of e.file before frame ≡ Some scope → (env : Environment) × Framing e frame env
  frame-names frame scope is = by (line_of before frame) refl is
    where
      as-args : (l : Line) → line_of before frame ≡ Some l → l.kind ≡ kind.Frame → IsFramed e l kind.Frame → (o : Option Exprs)
          → ((site : ℕ) → l.site ≡ Some site → args_at e.file site ≡ o) → (env : Environment) × Framing e frame env
      as-args l there of (f, site, v, env, frame_is, site_is, outcome_is, around, fits) None none =
          (Inner (seen e v) env, (f, site, v, record { line = l; stands = past.stand frame l there; kind_is = of; frame_is = frame_is; site_is = site_is; outcome_is = outcome_is }, none site site_is, refl, around))
      as-args l there of (f, site, v, env, frame_is, site_is, outcome_is, around, fits) (Some args) some =
          (Called (seen e v) args env, (f, site, v, record { line = l; stands = past.stand frame l there; kind_is = of; frame_is = frame_is; site_is = site_is; outcome_is = outcome_is }, some site site_is, refl, around))

      at-frame : (l : Line) → line_of before frame ≡ Some l → l.kind ≡ kind.Frame → IsFramed e l kind.Frame → (env : Environment) × Framing e frame env
      at-frame l there of h =
          as-args l there of h (args_at e.file h.1) (λ site is. ap (args_at e.file) (same_Some site h.1 (sym is ∙ h.5)))

      by-kind : (l : Line) → line_of before frame ≡ Some l → (of : LineKind) → l.kind ≡ of → IsFramed e l of → scope_by e.file of l.site ≡ Some scope → (env : Environment) × Framing e frame env
      by-kind l there kind.File of framed scoped = (Top, (l, past.stand frame l there, of))
      by-kind l there kind.Frame of framed scoped = at-frame l there of framed
      by-kind l there _ of framed scoped = absurd (none-some scope scoped)

      by : (o : Option Line) → line_of before frame ≡ o → option_and_then (λ (l : Line). scope_by e.file l.kind l.site) o ≡ Some scope → (env : Environment) × Framing e frame env
      by None none is = absurd (none-some scope is)
      by (Some l) there is = by-kind l there l.kind refl (past.framed frame l there) is

  -- the `file` line to which a frame comes
  file-names : (most frame at : ℕ) → file_frame e.file before most frame ≡ Some at → Framing e at Top
  file-names zero frame at is = absurd (none-some at is)
  file-names (suc most) frame at is = by (line_of before frame) refl is (λ n. file-names most n at)
    where
      further : (field : Option ℕ) → option_and_then (file_frame e.file before most) field ≡ Some at → ((n : ℕ) → file_frame e.file before most n ≡ Some at → Framing e at Top) → Framing e at Top
      further None is next = absurd (none-some at is)
      further (Some n) is next = next n is

      by-kind : (l : Line) → line_of before frame ≡ Some l → (of : LineKind) → l.kind ≡ of → past_frame e.file before (file_frame e.file before most) frame of l.frame ≡ Some at → ((n : ℕ) → file_frame e.file before most n ≡ Some at → Framing e at Top) → Framing e at Top
      by-kind l there kind.File of is next = subst (λ (n : ℕ). Framing e n Top) (same_Some frame at is) (l, past.stand frame l there, of)
      by-kind l there kind.Frame of is next = further l.frame is next
      by-kind l there _ of is next = absurd (none-some at is)

      by : (o : Option Line) → line_of before frame ≡ o → option_and_then (λ (l : Line). past_frame e.file before (file_frame e.file before most) frame l.kind l.frame) o ≡ Some at → ((n : ℕ) → file_frame e.file before most n ≡ Some at → Framing e at Top) → Framing e at Top
      by None none is next = absurd (none-some at is)
      by (Some l) there is next = by-kind l there l.kind refl is next

  -- the frame around one names the environment around
  outer-names : (frame at : ℕ) (env : Environment) → Framing e frame env → outer_frame e.file before frame ≡ Some at → Framing e at (outer_of env)
  outer-names frame at env framing is = by (line_of before frame) refl is
    where
      around : (l : Line) → line_of before frame ≡ Some l → (env : Environment) → Framing e frame env → (of : LineKind) → l.kind ≡ of
          → around_by e.file before frame of l.frame l.site ≡ Some at → Framing e at (outer_of env)
      around l there (Inner current outer) (f, site, v, isline, none, same, names) kind.Frame of is =
          let lines_same : isline.line ≡ l = same_Some isline.line l (sym isline.stands ∙ past.stand frame l there) in
          let site_is : l.site ≡ Some site = ap (λ (y : Line). y.site) (sym lines_same) ∙ isline.site_is in
          let frame_is : l.frame ≡ Some f = ap (λ (y : Line). y.frame) (sym lines_same) ∙ isline.frame_is in
          let args : option_and_then (args_at e.file) l.site ≡ None = ap (option_and_then (args_at e.file)) site_is ∙ none in
          let field : around_site e.file before frame l.frame (option_and_then (args_at e.file) l.site) ≡ l.frame = ap (around_site e.file before frame l.frame) args in
          subst (λ (n : ℕ). Framing e n outer) (same_Some f at (sym frame_is ∙ sym field ∙ is)) names
      around l there (Called current given caller) (f, site, v, isline, some, same, names) kind.Frame of is =
          let lines_same : isline.line ≡ l = same_Some isline.line l (sym isline.stands ∙ past.stand frame l there) in
          let site_is : l.site ≡ Some site = ap (λ (y : Line). y.site) (sym lines_same) ∙ isline.site_is in
          let args : option_and_then (args_at e.file) l.site ≡ Some given = ap (option_and_then (args_at e.file)) site_is ∙ some in
          let field : around_site e.file before frame l.frame (option_and_then (args_at e.file) l.site) ≡ file_frame e.file before (length before) frame = ap (around_site e.file before frame l.frame) args in
          file-names (length before) frame at (sym field ∙ is)
      around l there Top (x, stands, file) kind.Frame of is =
          absurd (file-frame (sym file ∙ ap (λ (y : Line). y.kind) (same_Some x l (sym stands ∙ past.stand frame l there)) ∙ of))
      around l there env framing _ of is = absurd (none-some at is)

      by : (o : Option Line) → line_of before frame ≡ o → option_and_then (λ (l : Line). around_by e.file before frame l.kind l.frame l.site) o ≡ Some at → Framing e at (outer_of env)
      by None none is = absurd (none-some at is)
      by (Some l) there is = around l there env framing l.kind refl is

  pub outwards-names : (up frame at : ℕ) (env : Environment) → Framing e frame env → outwards e.file before up frame ≡ Some at → Framing e at (location.outwards up env)
  outwards-names zero frame at env framing is = subst (λ (n : ℕ). Framing e n env) (same_Some frame at is) framing
  outwards-names (suc up) frame at env framing is = by (outer_frame e.file before frame) refl is (λ n. outwards-names up n at (outer_of env))
    where
      by : (o : Option ℕ) → outer_frame e.file before frame ≡ o → option_and_then (outwards e.file before up) o ≡ Some at
          → ((n : ℕ) → Framing e n (outer_of env) → outwards e.file before up n ≡ Some at → Framing e at (location.outwards up (outer_of env))) → Framing e at (location.outwards up (outer_of env))
      by None none is next = absurd (none-some at is)
      by (Some n) there is next = next n (outer-names frame n env framing there) is
