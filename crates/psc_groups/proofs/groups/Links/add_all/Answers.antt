use Rattle.std.proofs.Common.{◌≡◌, ◌<◌, length, refl, arith, rules}
use Rattle.std.proofs.lemmas.Option.{slice_get_read, slice_get-get_or}
use Rattle.psc_groups.proofs.Joining.{more_links, next_links}
use Rattle.psc_groups.proofs.groups.Links.add_all.Goals as goal

pub bounds-numbers-index : goal.bounds-numbers-index
bounds-numbers-index c =
    let has = slice_get_read c.args.mentions.now _ c.args.declaration c.index-mentions-declaration.result refl c.requires.within c.index-mentions-declaration.is in
    let at = slice_get_read c.index-mentions-declaration.result.items _ c.loop-place.place c.index.result.now refl (search rules) c.index.ensures in
    let lt : c.index.result.now < length c.args.mentions.now = c.requires.declared.declared c.args.declaration c.index.result.now (record { list = c.index-mentions-declaration.result; place = c.loop-place.place; has = has; at = at }) in
    let z = c.requires.sized in
    omega arith

pub add-requires-clause-lists : goal.add-requires-clause-lists
add-requires-clause-lists c =
    let lt : c.args.declaration < length c.args.numbers.now = (let z = c.requires.sized in let w = c.requires.within in omega arith) in
    let k = c.requires.counted c.args.declaration _ (slice_get-get_or c.args.numbers.now c.args.declaration 0 lt) in
    let z = c.loop-place.invariant.links_sized in
    omega arith

pub add-requires-clause-flags : goal.add-requires-clause-flags
add-requires-clause-flags c =
    let lt : c.args.declaration < length c.args.numbers.now = (let z = c.requires.sized in let w = c.requires.within in omega arith) in
    let k = c.requires.counted c.args.declaration _ (slice_get-get_or c.args.numbers.now c.args.declaration 0 lt) in
    let z = c.loop-place.invariant.recursive_sized in
    omega arith

pub loop-place-preserved : goal.loop-place-preserved
loop-place-preserved c =
    let lt : c.args.declaration < length c.args.numbers.now = (let z = c.requires.sized in let w = c.requires.within in omega arith) in
    let has = slice_get_read c.args.mentions.now _ c.args.declaration c.index-mentions-declaration.result refl c.requires.within c.index-mentions-declaration.is in
    let at = slice_get_read c.index-mentions-declaration.result.items _ c.loop-place.place c.index.result.now refl (search rules) c.index.ensures in
    let below : c.index.result.now < length c.args.mentions.now = c.requires.declared.declared c.args.declaration c.index.result.now (record { list = c.index-mentions-declaration.result; place = c.loop-place.place; has = has; at = at }) in
    let within : c.index.result.now < length c.args.numbers.now = (let z = c.requires.sized in omega arith) in
    more_links _ _ _ c.args.declaration c.loop-place.place _ _ _ c.index-mentions-declaration.result _ _ c.loop-place.invariant has at
    (slice_get-get_or c.args.numbers.now c.args.declaration 0 lt)
    (slice_get-get_or c.args.numbers.now c.index.result.now 0 within)
    (c.requires.counted c.args.declaration _ (slice_get-get_or c.args.numbers.now c.args.declaration 0 lt))
    c.in_ok-add.ensures

pub returns : goal.returns
returns c =
    let has = slice_get_read c.args.mentions.now _ c.args.declaration c.index-mentions-declaration.result refl c.requires.within c.index-mentions-declaration.is in
    let all : c.loop-place.place ≡ length c.index-mentions-declaration.result.items = search rules in
    next_links _ _ _ c.args.declaration c.index-mentions-declaration.result _ _ has (rw all at c.loop-place.invariant)
