-- The environments for which frames stand, and how much deeper than its Depth the meaning of a part may lead in one.
use Rattle.std.specs.Prelude.{ℕ, zero, suc, ◌+◌, List, Option, Some, None, slice_get}
use Rattle.std.specs.Option.{option_map_or}
use Rattle.guard_syntax.specs.Syntax.{Exprs, File}
use Rattle.guard_syntax.specs.declared.row.Ref.{Ref}
use Rattle.rule_names.specs.Depths.{depth_exprs}
use Rattle.rule_meaning.specs.code.StoreEnvironments.{Environment, Top, Inner, Called}
use Rattle.evidence_rules.specs.CitedLines.{args_at}
use Rattle.scope_frames.specs.declared.frame.Frame.{Frame}

-- the environment of a frame, by those of the frames before it
abbrev pub under : (current : Ref) → (ℕ → Environment) → (parent : Option ℕ) → (args : Option Exprs) → Environment
under current before None args = Top
under current before (Some parent) None = Inner current (before parent)
under current before (Some parent) (Some args) = Called current args (before parent)

module _ (file : File) (frames : List Frame) where
  -- going by parents so many steps at most
  abbrev pub environment_within : (most : ℕ) → ℕ → Environment
  environment_within zero number = Top
  environment_within (suc most) number =
      option_map_or (λ (f : Frame). under f.current (environment_within most) f.parent (args_at file f.site)) (slice_get frames number) Top

  -- that of the frame of a number: parents have lesser numbers
  abbrev pub environment_of : ℕ → Environment
  environment_of number = environment_within (suc number) number

-- the Depth of the arguments of the nearest called body, and of those of each caller in turn, where Depth is known by sites
module _ (f : File) (depths : List ℕ) where
  abbrev pub weight : Environment → ℕ
  weight Top = 0
  weight (Inner current outer) = weight outer
  weight (Called current args caller) = depth_exprs f depths args + weight caller
