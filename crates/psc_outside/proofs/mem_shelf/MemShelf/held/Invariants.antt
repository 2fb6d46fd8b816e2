use Rattle.std.proofs.Common.{◌≡◌, take}
use Rattle.std.specs.Option.{option_copied}
use Rattle.psc_outside.specs.Contents.{nothing}
use Rattle.psc_outside.specs.Memory.{after_all}
use Rattle.psc_outside.proofs.mem_shelf.MemShelf.held.Given as goal

abbrev pub invariant-loop-call : goal.invariant-loop-call
invariant-loop-call l = option_copied l.found ≡ after_all nothing (take l.call-index l.call-items) l.name
