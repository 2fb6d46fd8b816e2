use Rattle.psc_unify.proofs.Reading.{looked, reads_join, reads_field}
use Rattle.psc_unify.proofs.read.Reader.leave.Goals as goal

pub returns-in_ok-keep-in-Field : goal.returns-in_ok-keep-in-Field
returns-in_ok-keep-in-Field c = λ ready all.
    let at = looked _ _ _ _ _ c.in-Some.ensures c.as_slice.ensures.value c.in-Field.is in
    c.in_ok-keep-in-Field.ensures _ (reads_field _ _ _ _ _ _ _ _ at (c.in_ok-one-in-Field.ensures all) (c.in_ok-two-in-Field.ensures all) c.in_ok-row-in-Field.ensures) all

pub returns-in_ok-keep-in-Join : goal.returns-in_ok-keep-in-Join
returns-in_ok-keep-in-Join c = λ ready all.
    let at = looked _ _ _ _ _ c.in-Some.ensures c.as_slice.ensures.value c.in-Join.is in
    c.in_ok-keep-in-Join.ensures _ (reads_join _ _ _ _ _ _ _ _ at ready (c.in_ok-head-in-Join.ensures all) (c.in_ok-argument-in-Join.ensures all) c.in_ok-application-in-Join.ensures) all
