-- Dictionaries: what evidence is erased to.
use Rattle.std.specs.Prelude.{ℕ, List, [], ◌∷◌, suc}
use Rattle.psc_text.specs.declared.names.Qualified.{Qualified}
use Rattle.psc_text.specs.declared.span.Span.{Span}
use Rattle.psc_core_tree.specs.declared.expr.CoreExpr.{CoreExpr}
use Rattle.psc_core_tree.specs.declared.expr.CoreExpr.TheVariants as core
use Rattle.psc_core_tree.specs.declared.literal.Field.{Field}
use Rattle.psc_core.specs.declared.evidence.Evidence.{Evidence}
use Rattle.psc_core.specs.declared.evidence.Evidence.TheOpen.{Evidence-F}
use Rattle.psc_core.specs.declared.evidence.Evidence.TheFolds.{fold-Evidence}
use Rattle.psc_core_cases.specs.Made.{plain, variable, forced, thunk, super_label}

abbrev pub applied_to : Span → CoreExpr → CoreExpr → CoreExpr
applied_to at f e = core.App (plain at) f e

-- a function applied to each of these in order
unfoldable pub applied : Span → CoreExpr → List CoreExpr → CoreExpr
applied at f [] = f
applied at f (e ∷ es) = applied at (applied_to at f e) es

-- an instance where it is used
abbrev pub instance : Span → Qualified → CoreExpr
instance at x = core.Var (plain at) x

-- a dictionary's superclass is read and wanted
abbrev pub super_of : Span → CoreExpr → ℕ → CoreExpr
super_of at e n = forced at (core.Accessor (plain at) e (super_label n))

-- a parameter is a local name, an instance is applied to the evidence of its context
abbrev pub evidence_step : Span → Evidence-F CoreExpr → CoreExpr
evidence_step at (Evidence-F.Param x) = variable at x.0
evidence_step at (Evidence-F.Super e n) = super_of at e n
evidence_step at (Evidence-F.Inst x ts es) = applied at (instance at x) es

abbrev pub evidence : Span → Evidence → CoreExpr
evidence at = fold-Evidence CoreExpr (evidence_step at)

-- a superclass of a dictionary, put off
abbrev pub super_field : Span → ℕ → CoreExpr → Field
super_field at n e = record { label = super_label n; value = thunk at e }

-- the superclasses of a dictionary from the one of this number on
unfoldable pub super_fields : Span → ℕ → List CoreExpr → List Field
super_fields at n [] = []
super_fields at n (e ∷ es) = super_field at n e ∷ super_fields at (suc n) es
