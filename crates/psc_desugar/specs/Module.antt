-- What desugaring leaves of a module, and what its errors say.
use Rattle.std.specs.Prelude.{ℕ, List, length, ◌≡◌, ◌⊎◌, Some}
use Rattle.psc_error.specs.declared.code.Code.TheVariants as codes_of
use Rattle.psc_error.specs.declared.error.PsError.{PsError}
use Rattle.psc_ast.specs.declared.modules.Module.{Module}
use Rattle.psc_plain.specs.declared.«module».Plain.{Plain}

-- the module's name, header, imports and place stay as they are
pub record Keeps (m : Module) (p : Plain) : Type 0 where
  pub name : p.name ≡ m.name
  pub header : p.header ≡ m.header
  pub imports : p.imports ≡ m.imports
  pub span : p.span ≡ m.span

-- an error is one of three, of this module, and speaks of one name or label
pub record IsWrong (m : List ℕ) (e : PsError) : Type 0 where
  pub code : (e.code ≡ codes_of.ArgListLengthsDiffer) ⊎ ((e.code ≡ codes_of.OverlappingNamesInLet) ⊎ (e.code ≡ codes_of.DuplicateLabel))
  pub of_module : e.«module» ≡ Some m
  pub one_part : length e.parts ≡ 1
