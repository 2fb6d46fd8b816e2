-- What a module's names are printed for.
use Rattle.std.proofs.Common.{◌≡◌, ℕ, List, Bool, ap₂}
use Rattle.std.proofs.Math.Path.{fun_ext}
use Rattle.std.specs.Ordering.{nat_cmp}
use Rattle.std.specs.Cmp.Lexicographic.{slice_cmp}
use Rattle.std.specs.BTreeSet.{contains}
use Rattle.psc_core_tree.specs.declared.module.CoreModule.{CoreModule}
use Rattle.psc_js_tree.specs.declared.home.Home.{Home}
use Rattle.psc_js_tree.specs.Scope.{Scope, scope}
use Rattle.psc_js_tree.specs.Top.{is_top}
use Rattle.psc_js_tree.specs.Module.{scope_of}

made : List ℕ → (List ℕ → Bool) → Scope
made o t = record { own = o; is_top = t }

pub same_scope : (home : Home) (m : CoreModule) → home.name ≡ m.name → ((q : List ℕ) → contains (slice_cmp nat_cmp) home.top q ≡ is_top m q) → scope home ≡ scope_of m
unfolding made
same_scope home m e h = ap₂ made e (fun_ext h)
