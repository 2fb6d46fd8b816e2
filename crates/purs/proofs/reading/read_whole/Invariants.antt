-- No more than 1 GiB was read, and what was read is gone from what is left.
use Rattle.std.proofs.Common.{◌≤◌, ◌^◌, vec_len}
use Rattle.std.specs.Io.KnownBytes.{Consumes}
use Rattle.purs.proofs.reading.read_whole.Given as goal

abbrev pub invariant-loop-turn : goal.invariant-loop-turn
invariant-loop-turn g l = (vec_len l.bytes ≤ 2 ^ 30) × Consumes (g.R.Read.remaining l.initial.from) (g.R.Read.remaining l.from) l.bytes.items
