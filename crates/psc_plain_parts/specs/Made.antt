-- Made names, and the small forms that several written forms become.
use Rattle.std.specs.Prelude.{ℕ, List, ◌++◌, None, Some, codes, decimal}
use Rattle.psc_text.specs.declared.names.Ident.{Ident}
use Rattle.psc_text.specs.declared.names.Qualified.{Qualified}

-- the made name of a number
abbrev pub name : ℕ → Ident
name n = record { 0 = codes "$" ++ decimal n }

-- a local name where it is used
abbrev pub local : Ident → Qualified
local x = record { «module» = None; name = x.0 }

-- a type of the module that is built in
abbrev pub prim : List ℕ → Qualified
prim x = record { «module» = Some (codes "Prim"); name = x }
