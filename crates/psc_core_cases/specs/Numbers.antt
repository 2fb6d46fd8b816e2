-- Numbers of made names.
use Rattle.std.specs.Prelude.{ℕ, ◌+◌}
use Rattle.psc_core_cases.specs.declared.numbering.Numbers.{Numbers}

-- what comes next after so many subjects and places
abbrev pub after : Numbers → ℕ → ℕ → Numbers
after n subjects places = record { subjects = n.subjects + subjects; places = n.places + places }
