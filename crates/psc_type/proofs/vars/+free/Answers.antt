use Rattle.std.proofs.Common.{refl}
use Rattle.psc_type.proofs.VarRules.{is_free-Given}
use Rattle.psc_type.proofs.vars.+free.Goals as goal

pub is_free-returns-then-is_free_in_any : goal.is_free-returns-then-is_free_in_any
is_free-returns-then-is_free_in_any t c =
    rw (c.in-Given.is, is_free-Given, ← c.as_slice.ensures, ← c.is_free_in_any.ensures, c.if-is_free_in_any.true) refl

pub is_free-returns-else-is_free_in_any : goal.is_free-returns-else-is_free_in_any
is_free-returns-else-is_free_in_any t c =
    rw (c.in-Given.is, is_free-Given, ← c.as_slice.ensures, ← c.is_free_in_any.ensures, c.if-is_free_in_any.false, ← c.get-else-is_free_in_any.ensures) c.is_free-else-is_free_in_any.ensures
