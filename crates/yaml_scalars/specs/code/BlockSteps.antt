-- What the code has of a block scalar, as the definitions see it, and the lines to come, by places. No public clause names this file.
use Rattle.std.specs.Prelude.{ℕ, Bool, List, [], ◌∷◌, ◌++◌, Option, Some, None, length, drop}
use Rattle.yaml_scalars.specs.declared.header.Chomp.{Chomp as Chomping}
use Rattle.yaml_scalars.specs.declared.header.Chomp.TheVariants as chomping
use Rattle.yaml_scalars.specs.declared.header.Header.{Header as Head}
use Rattle.yaml_scalars.specs.declared.block.Last.{Last as Tail}
use Rattle.yaml_scalars.specs.declared.block.Style.{Style}
use Rattle.yaml_scalars.specs.declared.block.Inner.{Inner as Inside}
use Rattle.yaml_scalars.specs.declared.block.Inner.TheVariants as inside
use Rattle.yaml_scalars.specs.Lines.{Outcome, is_white, lines}
use Rattle.yaml_scalars.specs.Block.{Chomp, Clip, Strip, Keep, Header, Last, Inner, Nothing, Wide, Indented, joint, count_break, content_more, blank_more}
use Rattle.yaml_scalars.specs.code.Walk.{line_at}

abbrev pub chomp_seen : Chomping → Chomp
chomp_seen chomping.Clip = Clip
chomp_seen chomping.Strip = Strip
chomp_seen chomping.Keep = Keep

abbrev pub header_seen : List ℕ → Head → Header
header_seen bytes h = record { digit = h.digit; chomp = chomp_seen h.chomp; rest = line_at (drop h.end bytes) }

abbrev pub last_seen : Option Tail → Option Last
last_seen None = None
last_seen (Some l) = Some (record { white = l.white; broken = l.broken })

abbrev pub inner_seen : Inside → Inner
inner_seen inside.Nothing = Nothing
inner_seen (inside.Wide at) = Wide at
inner_seen (inside.Indented inner) = Indented inner

-- the place of a blank line that is too wide
abbrev pub wide_at : Inside → ℕ
wide_at inside.Nothing = 0
wide_at (inside.Wide at) = at
wide_at (inside.Indented inner) = 0

-- the scalar where its content's lines begin or go on at a place, with the text so far
abbrev pub content_from : Style → List ℕ → ℕ → List ℕ → Option Last → ℕ → Outcome
content_from s bytes place text last e = content_more s.folded (chomp_seen s.chomp) s.inner (length bytes) (lines place (drop place bytes)) text last e

-- the same of nothing but blank lines
abbrev pub blank_from : Chomping → List ℕ → ℕ → ℕ → Outcome
blank_from chomp bytes place e = blank_more (chomp_seen chomp) (length bytes) (lines place (drop place bytes)) e

-- what one more line, without its indentation, makes of the text, of the last line that is not empty and of the count of the empty ones
abbrev pub text_more : Bool → Option Last → ℕ → List ℕ → List ℕ → List ℕ
text_more folded last e text [] = text
text_more folded last e text (b ∷ bs) = text ++ (joint folded last (is_white b) e ++ (b ∷ bs))

abbrev pub last_more : Option Last → Bool → List ℕ → Option Last
last_more last broken [] = last
last_more last broken (b ∷ bs) = Some (record { white = is_white b; broken = broken })

abbrev pub count_more : ℕ → Bool → List ℕ → ℕ
count_more e broken [] = count_break broken e
count_more e broken (b ∷ bs) = 0
