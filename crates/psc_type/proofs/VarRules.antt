-- What free variables and substitution give at each form.
use Rattle.std.proofs.Common.{◌≡◌, ◌≢◌, ℕ, zero, suc, ◌-◌, arith, Bool, true, false, ◌||◌, List, [], ◌∷◌, map, refl, ap, ◌∙◌, rules, if◌then◌else◌}
use Rattle.std.specs.List.{list_any}
use Rattle.psc_text.specs.declared.names.Ident.{Ident}
use Rattle.psc_type.specs.declared.vars.Replaced.{Replaced}
use Rattle.psc_type.specs.Vars.{any_true, is_free, is_taken, fresh, fresh_name, primed, all_under, put_in, constraint_in, bound}
use Rattle.psc_type.specs.declared.kind.Kind.{Kind}
use Rattle.psc_type.specs.declared.ty.Constraint.{Constraint}
use Rattle.psc_type.specs.declared.ty.Ty.{Ty, the_lemmas}
use Rattle.psc_type.specs.declared.ty.Ty.TheVariants as ty

any_true-map : {T : Type 0} (f : T → Bool) (xs : List T) → any_true (map f xs) ≡ list_any f xs
unfolding any_true
any_true-map f [] = refl
any_true-map f (x ∷ xs) = ap (λ b. f x || b) (any_true-map f xs)

pub is_free-Given : (name : Ident) (c : Constraint) (b : Ty) → is_free name (ty.Given c b) ≡ (list_any (is_free name) c.args || is_free name b)
is_free-Given name c b =
    let h : is_free name (ty.Given c b) ≡ (any_true (map (is_free name) c.args) || is_free name b) = search (rules, the_lemmas) in
    h ∙ ap (λ x. x || is_free name b) (any_true-map (is_free name) c.args)

pub ruleset is_free_rules = (is_free-Given)

fresh-suc : (n : ℕ) (bound name : Ident) (whole : Ty) (env : List Replaced) → fresh (suc n) bound name whole env ≡ (if is_taken bound name whole env then fresh n bound (primed name) whole env else name)
unfolding fresh
fresh-suc n bound name whole env = refl

pub fresh-none : (bound name : Ident) (whole : Ty) (env : List Replaced) → fresh 0 bound name whole env ≡ name
unfolding fresh
fresh-none bound name whole env = refl

pub fresh-free : (n : ℕ) (bound name : Ident) (whole : Ty) (env : List Replaced) → is_taken bound name whole env ≡ false → fresh n bound name whole env ≡ name
fresh-free zero bound name whole env h = fresh-none bound name whole env
fresh-free (suc n) bound name whole env h = fresh-suc n bound name whole env ∙ ap (λ b. if b then fresh n bound (primed name) whole env else name) h

taken-suc : (n : ℕ) (bound name : Ident) (whole : Ty) (env : List Replaced) → is_taken bound name whole env ≡ true → fresh (suc n) bound name whole env ≡ fresh n bound (primed name) whole env
taken-suc n bound name whole env h = fresh-suc n bound name whole env ∙ ap (λ b. if b then fresh n bound (primed name) whole env else name) h

pub fresh-taken : (n : ℕ) (bound name : Ident) (whole : Ty) (env : List Replaced) → n ≢ 0 → is_taken bound name whole env ≡ true → fresh n bound name whole env ≡ fresh (n - 1) bound (primed name) whole env
fresh-taken n bound name whole env some h =
    let e : n ≡ suc (n - 1) = omega arith in
    ap (λ k. fresh k bound name whole env) e ∙ taken-suc (n - 1) bound name whole env h

pub ruleset fresh_rules = (fresh-none, fresh-taken, fresh-free)

pub fresh_name-is : (name : Ident) (whole : Ty) (env : List Replaced) → fresh 18446744073709551615 name name whole env ≡ fresh_name name whole env
unfolding fresh_name
fresh_name-is name whole env = refl

pub ruleset fresh_name_rules = (fresh_name-is)

all_under-map : {T : Type 0} (f : T → List Replaced → Ty) (env : List Replaced) (xs : List T) → all_under env (map f xs) ≡ map (λ t. f t env) xs
unfolding all_under
all_under-map f env [] = refl
all_under-map f env (x ∷ xs) = ap (λ ts. f x env ∷ ts) (all_under-map f env xs)

given_of : Ty → Ty → List Replaced → Constraint → List Ty → Ty
given_of whole b env c ts = ty.Given (record { class = c.class; args = ts }) (put_in whole b env)

pub put_in-Given : (whole : Ty) (c : Constraint) (b : Ty) (env : List Replaced) → put_in whole (ty.Given c b) env ≡ ty.Given (constraint_in whole c env) (put_in whole b env)
unfolding given_of
put_in-Given whole c b env =
    let h : put_in whole (ty.Given c b) env ≡ given_of whole b env c (all_under env (map (put_in whole) c.args)) = search (rules, the_lemmas) in
    h ∙ ap (given_of whole b env c) (all_under-map (put_in whole) env c.args)

pub put_in-Forall : (whole : Ty) (name : Ident) (k : Kind) (b : Ty) (env : List Replaced) → put_in whole (ty.Forall name k b) env ≡ ty.Forall (fresh_name name whole env) k (put_in whole b (bound whole name env))
put_in-Forall whole name k b env = search (rules, the_lemmas)

pub ruleset put_in_rules = (put_in-Given, put_in-Forall)
