-- Types and kinds as lists of words, each form before its parts.
use Rattle.std.specs.Prelude.{ℕ, List, [], ◌∷◌, ◌++◌, Option, Some, None, map, codes}
use Rattle.psc_text.specs.declared.names.Qualified.{Qualified}
use Rattle.psc_type.specs.declared.kind.Kind.{Kind}
use Rattle.psc_type.specs.declared.kind.Kind.TheOpen.{Kind-F}
use Rattle.psc_type.specs.declared.kind.Kind.TheFolds.{fold-Kind}
use Rattle.psc_type.specs.declared.ty.Constraint.{Constraint}
use Rattle.psc_type.specs.declared.ty.Ty.{Ty}
use Rattle.psc_type.specs.declared.ty.Ty.TheOpen.{Ty-F}
use Rattle.psc_type.specs.declared.ty.Ty.TheFolds.{fold-Ty}

abbrev pub Words : Type 0
Words = List (List ℕ)

-- one word: what it is, and a name or a text where it has one
abbrev pub word : List ℕ → List ℕ → Words
word front name = (front ++ name) ∷ []

unfoldable pub first : List ℕ → List ℕ → Words → Words
first front name rest = word front name ++ rest

abbrev pub kind_words_step : Kind-F Words → Words
kind_words_step Kind-F.Star = word (codes "T") []
kind_words_step Kind-F.Constr = word (codes "C") []
kind_words_step Kind-F.Sym = word (codes "S") []
kind_words_step (Kind-F.RowOf k) = first (codes "R") [] k
kind_words_step (Kind-F.Arrow from to) = first (codes "F") [] from ++ to
kind_words_step (Kind-F.Unknown n) = []

abbrev pub kind_words : Kind → Words
kind_words = fold-Kind Words kind_words_step

abbrev pub text_in : Option (List ℕ) → List ℕ → List ℕ
text_in (Some m) name = m ++ (codes "." ++ name)
text_in None name = name

-- a name behind its module and a dot
abbrev pub qualified_text : Qualified → List ℕ
qualified_text q = text_in q.module q.name

-- one `app` for each argument
unfoldable pub apps : {A : Type 0} → List A → Words
apps [] = []
apps (a ∷ more) = word (codes "app") [] ++ apps more

unfoldable pub concatenated : List Words → Words
concatenated [] = []
concatenated (ws ∷ more) = ws ++ concatenated more

-- a constraint is its class applied to its arguments
abbrev pub constraint_words_of : Qualified → List Words → Words
constraint_words_of class args = apps args ++ word (codes "con ") (qualified_text class) ++ concatenated args

abbrev pub words_step : Ty-F Words Words → Words
words_step (Ty-F.Var name) = word (codes "var ") name.0
words_step (Ty-F.Unknown n) = []
words_step (Ty-F.Con name) = word (codes "con ") (qualified_text name)
words_step (Ty-F.App f a) = first (codes "app") [] f ++ a
words_step (Ty-F.Forall name k t) = first (codes "forall ") name.0 (kind_words k) ++ t
words_step (Ty-F.Given c t) = first (codes "given") [] c ++ t
words_step (Ty-F.RowCons l t rest) = first (codes "row ") l.0 t ++ rest
words_step Ty-F.RowNil = word (codes "nil") []
words_step (Ty-F.Symbol text) = word (codes "sym ") text
words_step (Ty-F.Any k) = []

abbrev pub words : Ty → Words
words = fold-Ty Words Words words_step (λ c. constraint_words_of c.class c.args)

abbrev pub constraint_words : Constraint → Words
constraint_words c = constraint_words_of c.class (map words c.args)
