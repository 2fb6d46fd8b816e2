-- The texts of an error: its line in a plain report, and its object in a report for tools.
use Rattle.std.specs.Prelude.{ℕ, List, [], ◌∷◌, ◌++◌, Option, Some, None, codes, decimal}
use Rattle.serde_json.specs.Data.{Data, null, string, number, unsigned, object, member, no_members}
use Rattle.serde_json.specs.Written.{compact_text}
use Rattle.psc_text.specs.declared.span.Span.{Span}
use Rattle.psc_error.specs.declared.code.Code.{Code}
use Rattle.psc_error.specs.declared.error.PsError.{PsError}

abbrev pub code_name : Code → List ℕ
code_name Code.ErrorParsingModule = codes "ErrorParsingModule"
code_name Code.OutsideProfile = codes "OutsideProfile"
code_name Code.TooDeep = codes "TooDeep"
code_name Code.TooLarge = codes "TooLarge"
code_name Code.IntOutOfRange = codes "IntOutOfRange"
code_name Code.DuplicateModule = codes "DuplicateModule"
code_name Code.ModuleNotFound = codes "ModuleNotFound"
code_name Code.CycleInModules = codes "CycleInModules"
code_name Code.UnknownImport = codes "UnknownImport"
code_name Code.UnknownExport = codes "UnknownExport"
code_name Code.UnknownName = codes "UnknownName"
code_name Code.ScopeConflict = codes "ScopeConflict"
code_name Code.ExportConflict = codes "ExportConflict"
code_name Code.TransitiveExportError = codes "TransitiveExportError"
code_name Code.DuplicateValueDeclaration = codes "DuplicateValueDeclaration"
code_name Code.OrphanTypeDeclaration = codes "OrphanTypeDeclaration"
code_name Code.OverlappingNamesInLet = codes "OverlappingNamesInLet"
code_name Code.DuplicateLabel = codes "DuplicateLabel"
code_name Code.ArgListLengthsDiffer = codes "ArgListLengthsDiffer"
code_name Code.MixedAssociativityError = codes "MixedAssociativityError"
code_name Code.NonAssociativeError = codes "NonAssociativeError"
code_name Code.CycleInTypeSynonym = codes "CycleInTypeSynonym"
code_name Code.CycleInDeclaration = codes "CycleInDeclaration"
code_name Code.PartiallyAppliedSynonym = codes "PartiallyAppliedSynonym"
code_name Code.KindsDoNotUnify = codes "KindsDoNotUnify"
code_name Code.IncorrectConstructorArity = codes "IncorrectConstructorArity"
code_name Code.TypesDoNotUnify = codes "TypesDoNotUnify"
code_name Code.EscapedSkolem = codes "EscapedSkolem"
code_name Code.NoInstanceFound = codes "NoInstanceFound"
code_name Code.OverlappingInstances = codes "OverlappingInstances"
code_name Code.PossiblyInfiniteInstance = codes "PossiblyInfiniteInstance"
code_name Code.CannotGeneralizeRecursiveFunction = codes "CannotGeneralizeRecursiveFunction"
code_name Code.OrphanInstance = codes "OrphanInstance"
code_name Code.MissingClassMember = codes "MissingClassMember"
code_name Code.ExtraneousClassMember = codes "ExtraneousClassMember"
code_name Code.InternalTypeError = codes "InternalTypeError"

-- the parts behind another one, each with the bar before it
abbrev pub behind : List (List ℕ) → List ℕ
behind [] = []
behind (p ∷ ps) = codes " | " ++ (p ++ behind ps)

-- the parts, with a bar between each two
abbrev pub message : List (List ℕ) → List ℕ
message [] = []
message (p ∷ ps) = p ++ behind ps

-- what stands behind the code
abbrev pub explanation : List (List ℕ) → List ℕ
explanation [] = []
explanation (p ∷ ps) = codes ": " ++ message (p ∷ ps)

-- PATH:LINE:COLUMN CODE, and the parts where there are any
abbrev pub line : PsError → List ℕ → List ℕ
line e path = path ++ (codes ":" ++ (decimal e.span.line ++ (codes ":" ++ (decimal e.span.column ++ (codes " " ++ (code_name e.code ++ explanation e.parts))))))

abbrev pub module_data : Option (List ℕ) → Data
module_data None = null
module_data (Some name) = string name

abbrev pub position_data : Span → Data
position_data at = object (member (codes "endColumn") (number (unsigned at.end_column)) (member (codes "endLine") (number (unsigned at.end_line)) (member (codes "startColumn") (number (unsigned at.column)) (member (codes "startLine") (number (unsigned at.line)) no_members))))

-- the object of a code's name, a path, a message, a module and a position
abbrev pub object_of : List ℕ → List ℕ → List ℕ → Data → Data → Data
object_of name path text home position = object (member (codes "errorCode") (string name) (member (codes "filename") (string path) (member (codes "message") (string text) (member (codes "moduleName") home (member (codes "position") position no_members)))))

abbrev pub data_of : PsError → List ℕ → Data
data_of e path = object_of (code_name e.code) path (message e.parts) (module_data e.«module») (position_data e.span)

-- the object as JSON without blanks
abbrev pub json : PsError → List ℕ → List ℕ
json e path = compact_text (data_of e path)
