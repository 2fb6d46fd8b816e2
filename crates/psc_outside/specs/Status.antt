-- The number of each status.
use Rattle.std.specs.Prelude.{ℕ}
use Rattle.psc_outside.specs.declared.status.Status.{Status}
use Rattle.psc_outside.specs.declared.status.Status.TheVariants.{Accepted, Errors, BadWords, Unreadable, NotStored, NotServed, NoMemory, Limit, UnknownValue, Stopped}

abbrev pub number_of : Status → ℕ
number_of Accepted = 0
number_of Errors = 1
number_of BadWords = 2
number_of Unreadable = 3
number_of NotStored = 4
number_of NotServed = 5
number_of NoMemory = 6
number_of Limit = 7
number_of UnknownValue = 8
number_of Stopped = 9
