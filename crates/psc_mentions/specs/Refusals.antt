-- How a mention is refused.
use Rattle.std.specs.Prelude.{[], ◌∷◌, ⊤}
use Rattle.psc_ast.specs.declared.names.Mention.{Mention}
use Rattle.psc_error.specs.declared.code.Code.TheVariants.{UnknownName, ScopeConflict}
use Rattle.psc_scope.specs.declared.stop.Stop.{Stop}
use Rattle.psc_scope.specs.declared.stop.Stop.TheVariants.{NoMemory, Wrong}
use Rattle.psc_scope.specs.declared.scope.Found.{Found}
use Rattle.psc_scope.specs.declared.scope.Found.TheVariants.{Nothing, One, Several}
use Rattle.psc_scope.specs.Names.{written}
use Rattle.psc_scope.specs.Problems.{Says}

-- only memory was wanting
abbrev pub WantsMemory : Stop → Type 0
WantsMemory NoMemory = ⊤
WantsMemory (Wrong problem) = ⊥

-- a name that stands for nothing is not known; one that stands for several modules' is in conflict; any other is not refused
abbrev pub Refuses : Found → Mention → Stop → Type 0
Refuses Nothing mention stop = Says stop UnknownName mention.span (written mention.name ∷ [])
Refuses (One declarer) mention stop = WantsMemory stop
Refuses (Several modules) mention stop = Says stop ScopeConflict mention.span (written mention.name ∷ modules)
