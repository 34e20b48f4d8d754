-- The line of the call of a function: what the call asks for is there, and the line that says what it answers follows and keeps whatever holds of an engine, with the trees that it
-- makes known.
use Rattle.std.proofs.Common.{◌≡◌, ℕ, zero, suc, Bool, true, false, cond, refl, sym, ap, ap₂, ◌∙◌, subst, inl, inr, List, [], ◌∷◌, ◌++◌, length, map, append-nil, get_or, Option, Some, None, true≢false, Result, Ok, Err}
use Rattle.std.specs.Prelude.{IfOk, IfSome, OnErr, find}
use Rattle.std.specs.declared.alloc.AllocError.{AllocError}
use Rattle.evidence_lines.specs.Versioned.{Versioned}
use Rattle.std.specs.List.{list_all}
use Rattle.std.specs.Str.{bytes_eq}
use Rattle.std.specs.declared.alloc.Global.{Global}
use Rattle.std.specs.declared.vec.Vec.{Vec}
use Rattle.std.proofs.lemmas.Bool.{and_from, and_parts}
use Rattle.std.proofs.lemmas.List.{length-map}
use Rattle.std.proofs.lemmas.List.Elements.{All-append, All-cons, All-nil, All-weaker}
use Rattle.std.proofs.lemmas.Option.{none-some, same_Some}
use Rattle.std.proofs.lemmas.Slice.Eq.{bytes_eq-Decides}
use Rattle.doc_values.specs.Tree.{Forest}
use Rattle.evidence_lines.specs.declared.line.Line.{Line}
use Rattle.evidence_lines.specs.declared.line.LineKind.TheVariants as kind
use Rattle.evidence_lines.specs.declared.line.Outcome.{Outcome}
use Rattle.evidence_lines.specs.declared.line.Outcome.TheVariants as says
use Rattle.evidence_lines.specs.declared.version.Version.TheVariants.{Two}
use Rattle.guard_builtins.specs.code.Seen.{see_rows}
use Rattle.guard_syntax.specs.Functions.{name_of}
use Rattle.guard_syntax.specs.Syntax.{Expr, Exprs, function, literal, more_exprs, no_exprs}
use Rattle.guard_syntax.specs.code.Seen.{expr_list, see_expr}
use Rattle.guard_syntax.specs.declared.syntax.Expr as code
use Rattle.guard_syntax.specs.declared.function.Function.{Function}
use Rattle.guard_syntax.specs.declared.function.Function.TheVariants.{RegexReplace}
use Rattle.guard_syntax.specs.declared.row.Row.{Row}
use Rattle.guard_syntax.specs.declared.row.Row.TheVariants.{Found}
use Rattle.rule_names.specs.Pieces.{AreInOrder, OfExpr, piece_at, pieces_expr}
use Rattle.rule_names.specs.Uses.{arity, count_exprs, expr_in, function_named, functions}
use Rattle.rule_names.specs.WellNamed.{WellNamed}
use Rattle.rule_names.specs.code.Within.{StandsIn as IsIn}
use Rattle.rule_names.proofs.FittingCalls.{arguments-counted}
use Rattle.rule_names.proofs.PiecesStand.{piece-stands}
use Rattle.rule_names.proofs.Shapes.{function-seen}
use Rattle.rule_meaning.specs.Functions.{Functions, MadeRow, argument, single_text}
use Rattle.rule_meaning.specs.Roots.{literal_ref}
use Rattle.rule_meaning.specs.Seeing.{grown, rows_kept, trees_kept}
use Rattle.rule_meaning.specs.StoreModel.{StoreModel, Made, is_known}
use Rattle.value_store.specs.code.Books.{IsBookOf, has_text}
use Rattle.query_steps.proofs.KnownAnswers.{answer-known}
use Rattle.query_steps.proofs.SeenGrowth.{known-before, row-known-before}
use Rattle.query_steps.proofs.SoughtTexts.{pattern-held}
use Rattle.evidence_rules.specs.CitedLines.{GiveArgs, GivesExpr}
use Rattle.evidence_rules.specs.Follows.{Follows, nothing_made}
use Rattle.evidence_rules.specs.code.Judgement.{FollowTo}
use Rattle.scope_frames.specs.declared.frame.Frame.{Frame}
use Rattle.engine_states.specs.code.Adding.{Added, line_for}
use Rattle.engine_states.specs.code.Answers.{AreGiven, IsAnswerOf, SayRowsOf}
use Rattle.engine_states.specs.code.Kinds.{is_frame, kind_beside, own_kind}
use Rattle.engine_states.specs.code.States.{IsWhole, State, StillFollows, is_known_outcome}
use Rattle.engine_states.proofs.AddedLines.{not-beside, own-not-rule, same-known}
use Rattle.engine_states.proofs.AddsLines.{call-follows}
use Rattle.engine_states.proofs.FramesSaid.{AreFramed-stays}
use Rattle.engine_states.proofs.FunctionsNamed.{function-there}
use Rattle.engine_states.proofs.KnownLines.{args-known}
use Rattle.engine_states.proofs.MadeTrees.{kept-known, literal-says}
use Rattle.engine_states.proofs.RowsRead.{args-read}
use Rattle.engine_states.proofs.SaidStays.{FollowTo-more, line-before-or-pushed}
use Rattle.engine_states.proofs.Tables.{HasJust-added, HasJust-other, HasRules-other}

-- ---- what is known stays known

pub rows-later : (known : StoreModel) (more : List Made) (xs : List Row) → list_all (is_known known) xs ≡ true → list_all (is_known (grown known more)) xs ≡ true
rows-later known more [] all = refl
rows-later known more (x ∷ xs) all =
    let both : (is_known known x ≡ true) × (list_all (is_known known) xs ≡ true) = and_parts _ _ all in
    and_from _ _ (row-known-before known more x both.0) (rows-later known more xs both.1)

outcome-later : (known : StoreModel) (more : List Made) (o : Outcome) → is_known_outcome known o ≡ true → is_known_outcome (grown known more) o ≡ true
outcome-later known more (says.Value v) is = known-before known more v is
outcome-later known more (says.Rows rows) is = rows-later known more rows is
outcome-later known more (says.Verdict verdict) is = refl

-- ---- what a call asks for

found-name : (name : List ℕ) (fs : List Function) (f : Function) → find (λ (g : Function). bytes_eq name (name_of g)) fs ≡ Some f → name ≡ name_of f
found-name name [] f is = absurd (none-some f is)
found-name name (g ∷ gs) f is = by (bytes_eq name (name_of g)) refl is (found-name name gs f)
  where
    by : (b : Bool) → bytes_eq name (name_of g) ≡ b → cond b (Some g) (find (λ (h : Function). bytes_eq name (name_of h)) gs) ≡ Some f
        → (find (λ (h : Function). bytes_eq name (name_of h)) gs ≡ Some f → name ≡ name_of f) → name ≡ name_of f
    by true same there rest = (bytes_eq-Decides name (name_of g)).0 same ∙ ap name_of (same_Some g f there)
    by false other there rest = rest there

same-exprs : (e x : Expr) → OfExpr e ≡ OfExpr x → e ≡ x
same-exprs e x is = cc

same-names : (n m : ℕ) (name other : List ℕ) (es xs : Exprs) → function n name es ≡ function m other xs → name ≡ other
same-names n m name other es xs is = cc

args-many : (file : _) (lines : List Line) (frame : ℕ) (es : Exprs) (cites : List ℕ) (all : List (List Row)) → GiveArgs file lines frame es cites all → length all ≡ count_exprs es
args-many file lines frame no_exprs [] [] h = refl
args-many file lines frame (more_exprs e es) (c ∷ cs) (rows ∷ all) h = ap suc (args-many file lines frame es cs all h.1)
args-many file lines frame es cites all h = absurd h

module _ (s : State) (whole : IsWhole s) where
  -- the one row of an argument that is a literal is its root
  args-literal : (at : ℕ) (es : Exprs) (cites : List ℕ) (all : List (List Row)) → GiveArgs s.known.file s.lines at es cites all → (i n : ℕ) (tree : Forest) → expr_in es i ≡ Some (literal n tree)
      → get_or all i [] ≡ Found (literal_ref n) ∷ []
  args-literal at no_exprs [] [] h i n tree is = absurd (none-some (literal n tree) is)
  args-literal at (more_exprs e es) (c ∷ cs) (rows ∷ all) h zero n tree is =
      literal-says s whole c at n rows (subst (λ (x : Expr). GivesExpr s.known.file s.lines at x c rows) (same_Some e (literal n tree) is) h.0)
  args-literal at (more_exprs e es) (c ∷ cs) (rows ∷ all) h (suc i) n tree is = args-literal at es cs all h.1 i n tree is
  args-literal at es cites all h i n tree is = absurd h

  module _ (frame site : ℕ) (cites : List ℕ) (given : (es : Exprs) × AreGiven s frame site es cites) where
    abbrev pub given-read : (all : List (List Row)) × SayRowsOf s.lines cites all
    given-read = (given.1.1.2, args-read s.known.file s.lines given.1.1.0 given.0 cites given.1.1.2 given.1.1.3)

    call-placed : IsIn s.known.file (pieces_expr (function site given.1.0.0 given.0))
    call-placed = piece-stands s.known.file site (OfExpr (function site given.1.0.0 given.0)) given.1.0.1.there

    -- the call as the code has it has this name, which is that of a function
    pub called-name : (x : code.Expr) (n : ℕ) (name : List ℕ) (args : Vec code.Expr Global) → x ≡ code.Function n name args → Some (OfExpr (see_expr x)) ≡ piece_at s.known.file site
        → name ≡ given.1.0.0
    called-name x n name args is there =
        same-names n site name given.1.0.0 (expr_list (map see_expr args.items)) given.0
        (sym (ap see_expr is ∙ function-seen n name args)
        ∙ same-exprs (see_expr x) (function site given.1.0.0 given.0) (same_Some (OfExpr (see_expr x)) (OfExpr (function site given.1.0.0 given.0)) (there ∙ given.1.0.1.there)))

    pub name-there : WellNamed s.known.file → (g : Function) × (function_named given.1.0.0 ≡ Some g)
    name-there well = function-there s.known.file well site given.1.0.0 given.0 call-placed

    module _ (f : Function) (named : function_named given.1.0.0 ≡ Some f) (order : AreInOrder s.known.file) (well : WellNamed s.known.file) (all : List (Vec Row Global))
        (are : map see_rows all ≡ given.1.1.2) where
      pub given-many : length all ≡ arity f
      given-many =
          sym (length-map all see_rows) ∙ ap length are ∙ args-many s.known.file s.lines given.1.1.0 given.0 cites given.1.1.2 given.1.1.3
          ∙ arguments-counted s.known.file well site given.1.0.0 given.0 f call-placed named

      pub given-pattern : (book : List (List ℕ)) → IsBookOf s.known.file book → f ≡ RegexReplace → IfSome (single_text s.known (argument (map see_rows all) 1)) (λ text. has_text book text ≡ true)
      given-pattern book is_book =
          pattern-held s.known book order well is_book site given.1.0.0 given.0 f call-placed (found-name given.1.0.0 functions f named) named (argument (map see_rows all) 1)
          (λ n tree second. ap (λ (xs : List (List Row)). argument xs 1) are ∙ args-literal given.1.1.0 given.0 cites given.1.1.2 given.1.1.3 1 n tree second)

      pub given-answer : (answer : List MadeRow) → Functions s.known f site (map see_rows all) answer → IsAnswerOf s frame site cites answer
      given-answer answer answers = record {
        name = given.1.0.0;
        args = given.0;
        called = f;
        at = given.1.1.0;
        given = given.1.1.2;
        stands = given.1.0.1;
        means = named;
        framed = given.1.1.1;
        gives = given.1.1.3;
        answers = subst (λ (xs : List (List Row)). Functions s.known f site xs answer) are answers;
      }

-- ---- trees before their line

pub still-more : (s : State) → IsWhole s → (known : StoreModel) (made : List Made) → known ≡ grown s.known made → StillFollows known s.lines
still-more s whole known made is = subst (λ (k : StoreModel). StillFollows k s.lines) (sym is) (record { last = s.known; follow = whole.follow; more = made; holds = refl })

-- ---- the line of a call

module _ (s : State) (whole : IsWhole s) (frame site : ℕ) (cites : List ℕ) (answer : List MadeRow) (is : IsAnswerOf s frame site cites answer) where
  abbrev trees : List Made
  trees = trees_kept (suc (length s.lines)) 0 answer

  abbrev rows : List Row
  rows = rows_kept (suc (length s.lines)) 0 answer

  abbrev line : Line
  line = line_for is.at site kind.Fn cites (says.Rows rows)

  abbrev pushed : List Line
  pushed = s.lines ++ line ∷ []

  pub call-line : Follows Two s.known s.lines line trees
  call-line = call-follows s whole frame is.at site is.framed is.stands.scope_is site is.name is.args is.stands.there is.called is.means cites is.given is.gives answer is.answers

  call-kind : own_kind (piece_at s.known.file site) ≡ Some kind.Fn
  call-kind = ap own_kind is.stands.there

  pub call-follow : FollowTo Two (nothing_made s.known.template s.known.file) [] pushed (grown s.known trees)
  call-follow = FollowTo-more Two (nothing_made s.known.template s.known.file) s.lines s.known line trees whole.follow call-line

  rows-there : list_all (is_known (grown s.known trees)) rows ≡ true
  rows-there = kept-known s whole answer (answer-known s.known is.called site is.given answer (args-known s whole is.at is.args cites is.given is.gives) is.answers)

  abbrev with_line : (parts beside : ℕ → ℕ → Option ℕ) (rules : ℕ → Option ℕ) → State
  with_line parts beside rules =
      record { known = grown s.known trees; frames = s.frames; lines = pushed; framed = s.framed; parts = parts; beside = beside; rules = rules }

  whole-with : (parts beside : ℕ → ℕ → Option ℕ) (rules : ℕ → Option ℕ) → s.parts frame site ≡ None → parts frame site ≡ Some (suc (length s.lines))
      → ((n m : ℕ) → (n ≡ frame → m ≡ site → ⊥) → parts n m ≡ s.parts n m) → ((n m : ℕ) → beside n m ≡ s.beside n m) → ((m : ℕ) → rules m ≡ s.rules m)
      → IsWhole (with_line parts beside rules)
  whole-with parts beside rules new put stays same_beside same_rules = record {
    follow = call-follow;
    known = All-append (λ (l : Line). is_known_outcome (grown s.known trees) l.outcome ≡ true) s.lines (line ∷ [])
        (All-weaker (λ (l : Line). is_known_outcome s.known l.outcome ≡ true) (λ (l : Line). is_known_outcome (grown s.known trees) l.outcome ≡ true)
        (λ l known. outcome-later s.known trees l.outcome known) s.lines whole.known)
        (All-cons (λ (l : Line). is_known_outcome (grown s.known trees) l.outcome ≡ true) line [] rows-there
        (All-nil (λ (l : Line). is_known_outcome (grown s.known trees) l.outcome ≡ true)));
    entered = whole.entered;
    framed = AreFramed-stays s.lines (line ∷ []) s.framed s.frames whole.framed;
    counted = whole.counted;
    distinct = whole.distinct;
    apart = whole.apart;
    framing = λ number l stands framing. elim (line-before-or-pushed s.lines line number l stands) [
      | inl old ↦ whole.framing number l old framing
      | inr (last, same) ↦ absurd (true≢false (sym framing ∙ ap (λ (x : Line). is_frame x.kind) (sym same)))
    ];
    placed = λ number l stands apart. elim (line-before-or-pushed s.lines line number l stands) [
      | inl old ↦ whole.placed number l old apart
      | inr (last, same) ↦ (frame, is.at, is.framed, ap (λ (x : Line). x.frame) (sym same))
    ];
    parts = HasJust-added s.known.file s.lines s.framed own_kind s.parts whole.distinct whole.parts frame is.at site kind.Fn cites (says.Rows rows) is.framed parts call-kind new put stays;
    beside = HasJust-other s.known.file s.lines s.framed kind_beside s.beside whole.distinct whole.beside frame is.at site kind.Fn cites (says.Rows rows) is.framed beside
        (not-beside (piece_at s.known.file site) kind.Fn refl) same_beside;
    rules = HasRules-other s.lines s.rules whole.rules is.at site kind.Fn cites (says.Rows rows) rules (own-not-rule kind.Fn refl) same_rules;
  }

  call-added : (parts beside : ℕ → ℕ → Option ℕ) (rules : ℕ → Option ℕ) → s.parts frame site ≡ None → parts frame site ≡ Some (suc (length s.lines))
      → ((n m : ℕ) → (n ≡ frame → m ≡ site → ⊥) → parts n m ≡ s.parts n m) → ((n m : ℕ) → beside n m ≡ s.beside n m) → ((m : ℕ) → rules m ≡ s.rules m)
      → Added s (with_line parts beside rules) frame site kind.Fn cites (says.Rows rows) (suc (length s.lines))
  call-added parts beside rules new put stays same_beside same_rules = record {
    grows = record {
      made = trees;
      known = refl;
      more_frames = [];
      frames = sym (append-nil s.frames);
      more_lines = line ∷ [];
      lines = refl;
      more_framed = [];
      framed = sym (append-nil s.framed);
    };
    whole = whole-with parts beside rules new put stays same_beside same_rules;
    at = is.at;
    framed = is.framed;
    number_is = refl;
    lines = refl;
    stays = λ n m other. (stays n m other, same_beside n m);
    parts = λ not_own. absurd (not_own call-kind);
    beside = λ not_beside. same_beside;
    rules = λ not_rule. same_rules;
  }

  same-state : (after : State) → after.known ≡ grown s.known trees → after.frames ≡ s.frames → after.lines ≡ pushed → after.framed ≡ s.framed → after ≡ with_line after.parts after.beside after.rules
  same-state after known_is frames_are lines_are framed_are =
      ap₂ (λ (k : StoreModel) (fs : List Frame). record { known = k; frames = fs; lines = after.lines; framed = after.framed; parts = after.parts; beside = after.beside; rules = after.rules })
      known_is frames_are
      ∙ ap₂ (λ (ls : List Line) (ns : List ℕ). record { known = grown s.known trees; frames = s.frames; lines = ls; framed = ns; parts = after.parts; beside = after.beside; rules = after.rules })
      lines_are framed_are

  -- any state with the line
  pub is-call-added : (after : State) (number : ℕ) (given : List Row) → given ≡ rows → s.parts frame site ≡ None
      → after.known ≡ grown s.known trees → after.frames ≡ s.frames → after.lines ≡ s.lines ++ line_for is.at site kind.Fn cites (says.Rows given) ∷ [] → after.framed ≡ s.framed
      → number ≡ suc (length s.lines) → after.parts frame site ≡ Some number → ((n m : ℕ) → (n ≡ frame → m ≡ site → ⊥) → after.parts n m ≡ s.parts n m)
      → ((n m : ℕ) → after.beside n m ≡ s.beside n m) → ((m : ℕ) → after.rules m ≡ s.rules m)
      → Added s after frame site kind.Fn cites (says.Rows given) number
  is-call-added after number given gives new known_is frames_are lines_are framed_are number_is put stays same_beside same_rules =
      subst (λ (rs : List Row). Added s after frame site kind.Fn cites (says.Rows rs) number) (sym gives)
      (subst (Added s after frame site kind.Fn cites (says.Rows rows)) (sym number_is)
      (subst (λ (t : State). Added s t frame site kind.Fn cites (says.Rows rows) (suc (length s.lines)))
      (sym (same-state after known_is frames_are (lines_are ∙ ap (λ (rs : List Row). s.lines ++ line_for is.at site kind.Fn cites (says.Rows rs) ∷ []) gives) framed_are))
      (call-added after.parts after.beside after.rules new (put ∙ ap Some number_is) stays same_beside same_rules)))

  -- the trees are kept, whether the line was added or not
  pub pushed-call : (r : Result ℕ AllocError) (known : StoreModel) (before after : Versioned) (pushed_line : Line) → before.lines ≡ s.lines → pushed_line ≡ line → known ≡ grown s.known trees
      → IfOk r (λ number. (after.lines ≡ before.lines ++ pushed_line ∷ []) × (number ≡ length after.lines)) → OnErr r (after ≡ before) → StillFollows known after.lines
  pushed-call (Ok number) known before after pushed_line lines_are line_is holds added kept =
      subst (StillFollows known) (sym (added.0 ∙ ap₂ (λ (ls : List Line) (l : Line). ls ++ l ∷ []) lines_are line_is))
      (subst (λ (k : StoreModel). StillFollows k pushed) (sym holds) (record { last = grown s.known trees; follow = call-follow; more = []; holds = sym (same-known (grown s.known trees)) }))
  pushed-call (Err e) known before after pushed_line lines_are line_is holds added kept =
      subst (λ (v : Versioned). StillFollows known v.lines) (sym kept) (subst (StillFollows known) (sym lines_are) (still-more s whole known trees holds))
