use Rattle.psc_corefn.specs.Ann as ann_text
use Rattle.psc_corefn.proofs.ann.put_meta.Goals as goal

pub returns-in-IsNewtype : goal.returns-in-IsNewtype
unfolding ann_text.meta
returns-in-IsNewtype c = rw c.in-IsNewtype.is c.put-in-IsNewtype.ensures

pub returns-in-IsForeign : goal.returns-in-IsForeign
unfolding ann_text.meta
returns-in-IsForeign c = rw c.in-IsForeign.is c.put-in-IsForeign.ensures

pub returns-in-IsWhere : goal.returns-in-IsWhere
unfolding ann_text.meta
returns-in-IsWhere c = rw c.in-IsWhere.is c.put-in-IsWhere.ensures

pub returns-in-NoMeta : goal.returns-in-NoMeta
unfolding ann_text.meta
returns-in-NoMeta c = rw c.in-NoMeta.is c.put.ensures

pub returns-in-IsConstructor : goal.returns-in-IsConstructor
unfolding ann_text.meta
returns-in-IsConstructor c = rw (c.in-IsConstructor.is, ← c.as_slice.ensures) c.put_constructor_meta.ensures
