-- The order that names derive is that of their spaces, texts and modules.
use Rattle.std.proofs.Common.{◌≡◌, ap, refl}
use Rattle.std.proofs.Math.Path.{fun_ext}
use Rattle.std.specs.Ordering.{nat_cmp, ordering_then}
use Rattle.std.specs.Option.{option_cmp}
use Rattle.std.specs.Cmp.Lexicographic.{slice_cmp}
use Rattle.psc_scope.specs.declared.keys.Area.{Area}
use Rattle.psc_scope.specs.declared.keys.Area.TheVariants as area
use Rattle.psc_scope.specs.declared.keys.Key.{Key}
use Rattle.psc_scope.specs.contracts.keys.AreaOrd.TheImpl as area_ord
use Rattle.psc_scope.specs.contracts.keys.KeyOrd.TheImpl as key_ord
use Rattle.psc_scope.specs.Lookup.{area_cmp, key_cmp}

pub areas : (a b : Area) → (area_ord.ghosts).cmp a b ≡ area_cmp a b
areas area.Constructor area.Constructor = refl
areas area.Constructor area.XType = refl
areas area.Constructor area.TypeOp = refl
areas area.Constructor area.Value = refl
areas area.Constructor area.ValueOp = refl
areas area.XType area.Constructor = refl
areas area.XType area.XType = refl
areas area.XType area.TypeOp = refl
areas area.XType area.Value = refl
areas area.XType area.ValueOp = refl
areas area.TypeOp area.Constructor = refl
areas area.TypeOp area.XType = refl
areas area.TypeOp area.TypeOp = refl
areas area.TypeOp area.Value = refl
areas area.TypeOp area.ValueOp = refl
areas area.Value area.Constructor = refl
areas area.Value area.XType = refl
areas area.Value area.TypeOp = refl
areas area.Value area.Value = refl
areas area.Value area.ValueOp = refl
areas area.ValueOp area.Constructor = refl
areas area.ValueOp area.XType = refl
areas area.ValueOp area.TypeOp = refl
areas area.ValueOp area.Value = refl
areas area.ValueOp area.ValueOp = refl

pub keys : (a b : Key) → (key_ord.ghosts).cmp a b ≡ key_cmp a b
keys a b = ap (λ first. ordering_then first (ordering_then (slice_cmp nat_cmp a.name b.name) (option_cmp (slice_cmp nat_cmp) a.qualifier b.qualifier))) (areas a.area b.area)

pub key_order : (key_ord.ghosts).cmp ≡ key_cmp
key_order = fun_ext (λ a. fun_ext (λ b. keys a b))
