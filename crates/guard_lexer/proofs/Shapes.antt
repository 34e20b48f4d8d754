-- Bytes have one form, and a token one kind.
use Rattle.std.proofs.Common.{◌≡◌, ◌≢◌, ℕ, Bool, true, false, List, [], ◌∷◌, ◌++◌, refl, sym, ap, ◌∙◌, subst, inl, inr, ◌&&◌}
use Rattle.std.specs.Prelude.{if◌then◌else◌, ◌==◌}
use Rattle.decimals.specs.declared.decimal.Num.{Num}
use Rattle.decimals.specs.declared.decimal.Num.TheVariants as num
use Rattle.decimals.specs.Number.{IsNumber}
use Rattle.guard_lexer.specs.declared.token.Mark.{Mark}
use Rattle.guard_lexer.specs.declared.token.Mark.TheVariants as m
use Rattle.guard_lexer.specs.declared.token.TokenKind.{TokenKind}
use Rattle.guard_lexer.specs.declared.token.TokenKind.TheVariants as k
use Rattle.guard_lexer.specs.Bytes.{is_letter, is_word, Each}
use Rattle.guard_lexer.specs.Forms.{IsName, AreParts, Form, Name, TypeName, Var, Str, Pat, Numeral, Note, Sign, HasForm, form_of, IsWorth, mark_text}
use Rattle.guard_lexer.specs.code.Reach.{typed, is_quote, begins_numeral}
use Rattle.guard_lexer.specs.code.Firsts.{number_kind}
use Rattle.guard_lexer.proofs.Reaches.{numeral_class, no_numeral}
use Rattle.guard_lexer.proofs.Values.{value_same}

abbrev single_shape : ℕ → Form
single_shape b =
    if b == 123 then Sign m.LBrace else (if b == 125 then Sign m.RBrace else (if b == 40 then Sign m.LParen else (if b == 41 then Sign m.RParen else (if b == 91 then Sign m.LBracket else (if b == 93 then Sign m.RBracket else (if b == 44 then Sign m.Comma else (if b == 124 then Sign m.Bar else (if b == 46 then Sign m.Dot else (if b == 42 then Sign m.Star else (if b == 58 then Sign m.Colon else (if b == 61 then Sign m.Equals else (if b == 33 then Sign m.Bang else (if b == 60 then Sign m.Less else Sign m.Greater)))))))))))))

abbrev double_shape : ℕ → Form
double_shape b = if b == 58 then Sign m.Define else (if b == 61 then Sign m.Same else (if b == 33 then Sign m.Differs else (if b == 60 then Sign m.LessEq else Sign m.GreaterEq)))

abbrev other_shape : ℕ → List ℕ → Form
other_shape b [] = single_shape b
other_shape b (c ∷ bs) = if b == 60 && c == 60 then Note else double_shape b

abbrev named : Bool → Form
named true = TypeName
named false = Name

-- the form that bytes have if they have one
abbrev shape : List ℕ → Form
shape [] = Name
shape (b ∷ bs) =
    if is_letter b then named (typed bs) else (if begins_numeral b then Numeral else (if b == 37 then Var else (if b == 47 then Pat else (if is_quote b then Str else other_shape b bs))))

typed_step : (b : ℕ) (x : List ℕ) → is_word b ≡ true → typed (b ∷ x) ≡ typed x
typed_step b [] e = refl
typed_step b (c ∷ []) e = rw e refl
typed_step b (c ∷ d ∷ x) e = rw e refl

each_typed : (w : List ℕ) → Each is_word w → typed w ≡ false
each_typed [] h = refl
each_typed (b ∷ w) (e, h) = typed_step b w e ∙ each_typed w h

parts_typed : (w : List ℕ) (ns : List (List ℕ)) (rest : List ℕ) → Each is_word w → ns ≢ [] → AreParts ns rest → typed (w ++ rest) ≡ true
parts_typed (b ∷ w) ns rest (e, h) some p = typed_step b (w ++ rest) e ∙ parts_typed w ns rest h some p
parts_typed [] [] rest h some p = absurd (some refl)
parts_typed [] ([] ∷ ns) rest h some (more, e, name, p) = absurd name
parts_typed [] ((c ∷ n) ∷ ns) rest h some (more, e, (l, each), p) = ap typed e ∙ l

type_shape : (t first rest : List ℕ) (ns : List (List ℕ)) → t ≡ first ++ rest → IsName first → ns ≢ [] → AreParts ns rest → shape t ≡ TypeName
type_shape t [] rest ns e h some p = absurd h
type_shape t (b ∷ w) rest ns e (l, h) some p = ap shape e ∙ rw (l, parts_typed w ns rest h some p) refl

mark_shape : (mark : Mark) → shape (mark_text mark) ≡ Sign mark
mark_shape m.LBrace = refl
mark_shape m.RBrace = refl
mark_shape m.LParen = refl
mark_shape m.RParen = refl
mark_shape m.LBracket = refl
mark_shape m.RBracket = refl
mark_shape m.Comma = refl
mark_shape m.Bar = refl
mark_shape m.Dot = refl
mark_shape m.Star = refl
mark_shape m.Colon = refl
mark_shape m.Equals = refl
mark_shape m.Define = refl
mark_shape m.Same = refl
mark_shape m.Differs = refl
mark_shape m.Bang = refl
mark_shape m.Less = refl
mark_shape m.LessEq = refl
mark_shape m.Greater = refl
mark_shape m.GreaterEq = refl

pub shape_is : (dot : Bool) (form : Form) (t : List ℕ) → HasForm dot form t → shape t ≡ form
shape_is dot Name [] h = absurd h
shape_is dot Name (b ∷ w) (l, h) = rw (l, each_typed w h) refl
shape_is dot TypeName t (first, rest, ns, e, h, some, p) = type_shape t first rest ns e h some p
shape_is dot Var [] h = absurd h
shape_is dot Var (b ∷ t) (e, h) = ap (λ x. shape (x ∷ t)) e
shape_is dot Str [] h = absurd h
shape_is dot Str (b ∷ t) (inl e, h) = ap (λ x. shape (x ∷ t)) e
shape_is dot Str (b ∷ t) (inr e, h) = ap (λ x. shape (x ∷ t)) e
shape_is dot Pat [] h = absurd h
shape_is dot Pat (b ∷ t) (e, h) = ap (λ x. shape (x ∷ t)) e
shape_is dot Numeral [] h = absurd (no_numeral dot h)
shape_is dot Numeral (b ∷ t) h = let c = numeral_class dot b t h in rw (c.0, c.1) refl
shape_is dot Note t (rest, e, h) = ap shape e
shape_is dot (Sign mark) t e = ap shape e ∙ mark_shape mark

pub form_same : (dot : Bool) (f g : Form) (t : List ℕ) → HasForm dot f t → HasForm dot g t → f ≡ g
form_same dot f g t h i = sym (shape_is dot f t h) ∙ shape_is dot g t i

-- the kinds of a form
abbrev pub IsKind : Form → List ℕ → TokenKind → Type 0
IsKind Name t kind = kind ≡ k.Name
IsKind TypeName t kind = kind ≡ k.TypeName
IsKind Var t kind = kind ≡ k.Var
IsKind Str t kind = kind ≡ k.Str
IsKind Pat t kind = kind ≡ k.Pat
IsKind Note t kind = kind ≡ k.Note
IsKind (Sign mark) t kind = kind ≡ k.Mark mark
IsKind Numeral t kind = (v : Num) × (kind ≡ number_kind v) × IsNumber t v

pub kind_is : (kind : TokenKind) (t : List ℕ) → IsWorth kind t → IsKind (form_of kind) t kind
kind_is k.Name t w = refl
kind_is k.TypeName t w = refl
kind_is k.Var t w = refl
kind_is k.Str t w = refl
kind_is k.Pat t w = refl
kind_is (k.Whole n) t w = (num.Whole n, refl, w)
kind_is (k.Fraction d) t w = (num.Fraction d, refl, w)
kind_is k.Note t w = refl
kind_is (k.Mark mark) t w = refl

kinds_same : (form : Form) (t : List ℕ) (a b : TokenKind) → IsKind form t a → IsKind form t b → a ≡ b
kinds_same Name t a b h i = h ∙ sym i
kinds_same TypeName t a b h i = h ∙ sym i
kinds_same Var t a b h i = h ∙ sym i
kinds_same Str t a b h i = h ∙ sym i
kinds_same Pat t a b h i = h ∙ sym i
kinds_same Note t a b h i = h ∙ sym i
kinds_same (Sign mark) t a b h i = h ∙ sym i
kinds_same Numeral t a b (v, e, h) (w, f, i) = e ∙ ap number_kind (value_same t v w h i) ∙ sym f

pub kind_same : (dot : Bool) (a b : TokenKind) (t : List ℕ) → HasForm dot (form_of a) t → HasForm dot (form_of b) t → IsWorth a t → IsWorth b t → a ≡ b
kind_same dot a b t h i v w = kinds_same (form_of b) t a b (subst (λ f. IsKind f t a) (form_same dot (form_of a) (form_of b) t h i) (kind_is a t v)) (kind_is b t w)
