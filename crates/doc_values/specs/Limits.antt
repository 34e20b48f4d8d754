-- How long the texts of a call may be, in bytes.
use Rattle.std.specs.Prelude.{ℕ}

-- a template: 8 MiB
abbrev pub template_limit : ℕ
template_limit = 8388608

-- rules: 1 MiB
abbrev pub rules_limit : ℕ
rules_limit = 1048576

-- evidence: 256 MiB
abbrev pub evidence_limit : ℕ
evidence_limit = 268435456
