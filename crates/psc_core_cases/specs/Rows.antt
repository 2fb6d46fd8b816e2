-- The alternatives of a case as CoreFn has them.
use Rattle.std.specs.Prelude.{ℕ, Bool, true, false, ◌+◌, ◌-◌, List, [], ◌∷◌, ◌++◌, suc, map, length}
use Rattle.psc_text.specs.declared.span.Span.{Span}
use Rattle.psc_core_tree.specs.declared.binder.CoreBinder.{CoreBinder}
use Rattle.psc_core_tree.specs.declared.expr.CoreAlternative.{CoreAlternative}
use Rattle.psc_core_tree.specs.declared.expr.CoreBind.{CoreBind}
use Rattle.psc_core_tree.specs.declared.expr.CoreExpr.{CoreExpr}
use Rattle.psc_core_tree.specs.declared.expr.CoreExpr.TheVariants as core
use Rattle.psc_core_tree.specs.declared.expr.CoreGuarded.{CoreGuarded}
use Rattle.psc_core_tree.specs.declared.expr.CoreOutcome.TheVariants as outcome_of
use Rattle.psc_core_cases.specs.declared.numbering.Numbers.{Numbers}
use Rattle.psc_core_cases.specs.declared.rows.Branch.{Branch}
use Rattle.psc_core_cases.specs.declared.rows.Failure.{Failure}
use Rattle.psc_core_cases.specs.declared.rows.Failure.TheVariants.{False, GoOn}
use Rattle.psc_core_cases.specs.declared.rows.Row.{Row}
use Rattle.psc_core_cases.specs.declared.rows.Row.TheVariants.{Plain, Attempt}
use Rattle.psc_core_cases.specs.declared.rows.Test.{Test}
use Rattle.psc_core_cases.specs.Made.{plain, variable, forced, thunk, truth, any_binder, bound, subject_name, place_name}
use Rattle.psc_core_cases.specs.Numbers.{after}

-- going on at the place of this number
abbrev pub going_on : Span → ℕ → CoreExpr
going_on at f = forced at (variable at (place_name f))

abbrev pub failed : Span → Failure → CoreExpr
failed at False = truth at false
failed at (GoOn f) = going_on at f

abbrev pub alternative : List CoreBinder → CoreExpr → CoreAlternative
alternative ps e = record { binders = ps; outcome = outcome_of.Always e }

-- what comes where no other alternative does
abbrev pub any_alternative : Span → CoreExpr → CoreAlternative
any_alternative at e = alternative (any_binder at ∷ []) e

abbrev pub case_at : Span → List CoreExpr → List CoreAlternative → CoreExpr
case_at at es alternatives = core.Case (plain at) es alternatives

abbrev pub let_at : Span → List CoreBind → CoreExpr → CoreExpr
let_at at binds body = core.Let (plain at) binds body

abbrev pub test_alternatives : Span → CoreBinder → CoreExpr → CoreExpr → List CoreAlternative
test_alternatives at p e otherwise = alternative (p ∷ []) e ∷ any_alternative at otherwise ∷ []

-- the case of a test, with what stands behind it
abbrev pub tested : Span → Test → CoreExpr → Failure → CoreExpr
tested at t e fail = case_at at (t.value ∷ []) (test_alternatives at t.binder e (failed at fail))

-- the nested cases of tests, with what stands behind the last one
unfoldable pub nested : Span → Failure → List Test → CoreExpr → CoreExpr
nested at fail [] e = e
nested at fail (t ∷ ts) e = tested at t (nested at fail ts e) fail

-- one boolean for a test and those behind it
unfoldable pub guard_from : Span → Test → List Test → CoreExpr
guard_from at t [] = t.value
guard_from at t (u ∷ us) = tested at t (guard_from at u us) False

unfoldable pub guard : Span → List Test → CoreExpr
guard at [] = truth at true
guard at (t ∷ ts) = guard_from at t ts

abbrev pub guarded : Span → Branch → CoreGuarded
guarded at b = record { guard = guard at b.tests; body = b.body }

-- an alternative with guarded branches, of which one has a test `p <- e` or none
abbrev pub row_of : Span → Bool → List CoreBinder → List Branch → Row
row_of at true ps bs = Attempt ps bs
row_of at false ps bs = Plain (record { binders = ps; outcome = outcome_of.Guarded (map (guarded at) bs) })

-- a place of this number, where it is gone on
abbrev pub place : Span → ℕ → CoreExpr → CoreBind
place at f e = bound at (place_name f) (thunk at e)

-- names a place where the body goes on
abbrev pub placed : Span → ℕ → CoreExpr → CoreExpr → CoreExpr
placed at f e body = let_at at (place at f e ∷ []) body

-- a branch that goes on at the place of this number
abbrev pub attempt : Span → ℕ → Branch → CoreExpr
attempt at f b = nested at (GoOn f) b.tests b.body

-- branches before another one, each of which goes on with the next
unfoldable pub attempts_before : Span → ℕ → List Branch → CoreExpr → CoreExpr
attempts_before at f [] last = last
attempts_before at f (b ∷ bs) last = placed at f (attempts_before at (suc f) bs last) (attempt at f b)

-- a branch and those behind it; the place of the last one is named elsewhere
unfoldable pub attempts_from : Span → ℕ → Branch → List Branch → CoreExpr
attempts_from at f b [] = attempt at f b
attempts_from at f b (c ∷ cs) = placed at f (attempts_from at (suc f) c cs) (attempt at f b)

unfoldable pub attempts : Span → ℕ → List Branch → CoreExpr
attempts at f [] = going_on at f
attempts at f (b ∷ bs) = attempts_from at f b bs

-- the place of the last of these branches
abbrev pub last_place : ℕ → List Branch → ℕ
last_place f bs = f + (length bs - 1)

abbrev pub subject : Span → ℕ → CoreExpr
subject at s = variable at (subject_name s)

-- the names of subjects, whose numbers begin with this one
unfoldable pub subjects_named : Span → ℕ → List CoreExpr → List CoreExpr
subjects_named at s [] = []
subjects_named at s (e ∷ es) = subject at s ∷ subjects_named at (suc s) es

unfoldable pub any_binders : Span → List CoreExpr → List CoreBinder
any_binders at [] = []
any_binders at (e ∷ es) = any_binder at ∷ any_binders at es

-- a subject with its name
abbrev pub subject_bind : Span → ℕ → CoreExpr → CoreBind
subject_bind at s e = bound at (subject_name s) e

unfoldable pub subject_binds : Span → ℕ → List CoreExpr → List CoreBind
subject_binds at s [] = []
subject_binds at s (e ∷ es) = subject_bind at s e ∷ subject_binds at (suc s) es

abbrev pub with_subjects : Span → ℕ → List CoreExpr → CoreExpr → CoreExpr
with_subjects at s es body = let_at at (subject_binds at s es) body

-- the alternatives of a case whose last one that is given has branches to try, and the one that goes on
abbrev pub tried : Span → List CoreAlternative → List CoreBinder → List CoreBinder → ℕ → ℕ → List Branch → List CoreAlternative
tried at before ps any f last bs = before ++ alternative ps (attempts at f bs) ∷ alternative any (going_on at last) ∷ []

-- a case whose subjects are named, up to an alternative that has branches to try, and the rest at the place of the last one
abbrev pub attempted : Span → List CoreExpr → List CoreAlternative → List CoreBinder → List Branch → CoreExpr → Numbers → CoreExpr
attempted at es before ps bs rest n = with_subjects at n.subjects es (placed at (last_place n.places bs) rest (core.Case (plain at) (subjects_named at n.subjects es) (tried at before ps (any_binders at es) n.places (last_place n.places bs) bs)))

-- a case of these subjects, whose first alternatives are given, and these rows
unfoldable pub case_of : Span → List CoreExpr → List CoreAlternative → List Row → Numbers → CoreExpr
case_of at es before [] n = core.Case (plain at) es before
case_of at es before (Plain a ∷ rows) n = case_of at es (before ++ a ∷ []) rows n
case_of at es before (Attempt ps bs ∷ rows) n = attempted at es before ps bs (case_of at (subjects_named at n.subjects es) [] rows (after n (length es) (length bs))) n

-- the same, of a row with branches to try and the rows behind it
abbrev pub rewritten : Span → List CoreExpr → List CoreAlternative → List CoreBinder → List Branch → List Row → Numbers → CoreExpr
rewritten at es before ps bs rows n = attempted at es before ps bs (case_of at (subjects_named at n.subjects es) [] rows (after n (length es) (length bs))) n
