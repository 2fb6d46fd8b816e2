use Rattle.std.proofs.Common.{◌≡◌, map, take}
use Rattle.psc_core.specs.Binder as spec
use Rattle.psc_core.proofs.binder.+binder.Given as goal

abbrev pub invariant-erase_binders-loop-binder : goal.invariant-erase_binders-loop-binder
invariant-erase_binders-loop-binder l = l.made ≡ map spec.binder (take l.binder-index l.binders)

abbrev pub invariant-erase_binder_fields-loop-field : goal.invariant-erase_binder_fields-loop-field
invariant-erase_binder_fields-loop-field l = l.made ≡ map spec.field (take l.field-index l.fields)
