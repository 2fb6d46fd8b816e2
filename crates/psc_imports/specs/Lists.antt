-- Import lists.
use Rattle.std.specs.Prelude.{ℕ, List, Option, Some, None}
use Rattle.psc_ast.specs.declared.modules.ImportList.{ImportList}
use Rattle.psc_ast.specs.declared.modules.ImportList.TheVariants.{All, Only, Hiding}
use Rattle.psc_ast.specs.declared.names.ModuleAt.{ModuleAt}
use Rattle.psc_scope.specs.declared.scope.Class.{Class}
use Rattle.psc_scope.specs.declared.scope.Class.TheVariants.{Explicit, Open}

-- names of a list come before those of an import of all names, or of all but some
abbrev pub class_of : ImportList → Class
class_of All = Open
class_of (Only refs) = Explicit
class_of (Hiding refs) = Open

-- what stands before the imported names: the alias alone
abbrev pub alias : Option ModuleAt → Option (List ℕ)
alias None = None
alias (Some written) = Some written.name
