-- What a mention stands for, and what is noted of it.
use Rattle.std.specs.Prelude.{ℕ, List, [], ◌∷◌, Option, Some, None}
use Rattle.psc_ast.specs.declared.names.Mention.{Mention}
use Rattle.psc_externs.specs.declared.rows.Entity.{Entity}
use Rattle.psc_externs.specs.declared.places.UseRow.{UseRow}
use Rattle.psc_scope.specs.declared.keys.Area.{Area}
use Rattle.psc_scope.specs.declared.scope.Scope.{Scope}
use Rattle.psc_scope.specs.declared.scope.Found.{Found}
use Rattle.psc_scope.specs.declared.scope.Found.TheVariants.{Nothing, One, Several}
use Rattle.psc_scope.specs.Lookup.{key, found}
use Rattle.psc_scope.specs.Names.{entity}

-- what the table says of a mention in a name space
abbrev pub meant : Scope → Area → Mention → Found
meant scope area mention = found scope (key area mention.name.name mention.name.«module»)

-- a mention with the module that declares it
abbrev pub with_module : List ℕ → Mention → Mention
with_module declarer mention = record { name = record { «module» = Some declarer; name = mention.name.name }; span = mention.span }

-- a mention with its true name, where the table says one
abbrev pub true_mention : Found → Mention → Option Mention
true_mention Nothing mention = None
true_mention (One declarer) mention = Some (with_module declarer mention)
true_mention (Several modules) mention = None

-- the row of a mention, where its name is one that interface files can hold
abbrev pub row_of : Option Entity → List ℕ → Mention → List UseRow
row_of None declarer mention = []
row_of (Some it) declarer mention = record { «module» = declarer; entity = it; span = mention.span } ∷ []

-- the rows of a mention that stands for what one module declares
abbrev pub noted : Found → Area → Mention → List UseRow
noted Nothing area mention = []
noted (One declarer) area mention = row_of (entity area mention.name.name) declarer mention
noted (Several modules) area mention = []
