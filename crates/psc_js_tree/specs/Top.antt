-- The names at the top of a module.
use Rattle.std.specs.Prelude.{ℕ, Bool, List, [], ◌∷◌, ◌++◌, map, bytes_eq}
use Rattle.std.specs.List.{list_any}
use Rattle.psc_text.specs.declared.names.Ident.{Ident}
use Rattle.psc_core_tree.specs.declared.expr.CoreBind.{CoreBind}
use Rattle.psc_core_tree.specs.declared.expr.CoreBinding.{CoreBinding}
use Rattle.psc_core_tree.specs.declared.module.CoreModule.{CoreModule}
use Rattle.psc_core_tree.specs.declared.expr.CoreBind.TheOpen.{CoreBind-F, CoreBinding-F}
use Rattle.psc_core_tree.specs.declared.expr.CoreBind.TheFolds.{fold-CoreBind, fold-CoreBinding}

-- the names that a binding and a group of bindings bind
abbrev pub binding_names : CoreBinding-F (List (List ℕ)) (Unit {0}) (Unit {0}) (Unit {0}) (Unit {0}) (List ℕ) (Unit {0}) (Unit {0}) → List ℕ
binding_names b = b.name.0

abbrev pub bind_names : CoreBind-F (List (List ℕ)) (Unit {0}) (Unit {0}) (Unit {0}) (Unit {0}) (List ℕ) (Unit {0}) (Unit {0}) → List (List ℕ)
bind_names (CoreBind-F.NonRec b) = b ∷ []
bind_names (CoreBind-F.Rec bs) = bs

abbrev pub name_of : CoreBinding → List ℕ
name_of = fold-CoreBinding (List (List ℕ)) (Unit {0}) (Unit {0}) (Unit {0}) (Unit {0}) (List ℕ) (Unit {0}) (Unit {0}) bind_names (λ _. tt) (λ _. tt) (λ _. tt) (λ _. tt) binding_names (λ _. tt) (λ _. tt)

abbrev pub names_of : CoreBind → List (List ℕ)
names_of = fold-CoreBind (List (List ℕ)) (Unit {0}) (Unit {0}) (Unit {0}) (Unit {0}) (List ℕ) (Unit {0}) (Unit {0}) bind_names (λ _. tt) (λ _. tt) (λ _. tt) (λ _. tt) binding_names (λ _. tt) (λ _. tt)

unfoldable pub all_names : List (List (List ℕ)) → List (List ℕ)
all_names [] = []
all_names (xs ∷ rest) = xs ++ all_names rest

abbrev pub ident_text : Ident → List ℕ
ident_text x = x.0

-- what a module binds, and its foreign values
abbrev pub top_names : CoreModule → List (List ℕ)
top_names m = all_names (map names_of m.decls) ++ map ident_text m.foreign

abbrev pub is_top : CoreModule → List ℕ → Bool
is_top m q = list_any (λ x. bytes_eq x q) (top_names m)
