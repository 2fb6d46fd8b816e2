use Rattle.std.proofs.Common.{length, arith, Vec, Global}
use Rattle.std.proofs.lemmas.Result.{IfOk-weaker}
use Rattle.psc_groups.specs.Order.{IsOrder}
use Rattle.psc_groups.specs.Groups.{AreMembers, AreLinks}
use Rattle.psc_groups.specs.declared.groups.BindingGroup.{BindingGroup}
use Rattle.psc_groups.proofs.Joining.{can_order, grouping, ordered_within}
use Rattle.psc_groups.proofs.groups.binding_groups.Goals as goal

pub order_of-requires : goal.order_of-requires
order_of-requires c =
    let are : AreMembers c.in_ok-numbers.field-0.numbers.items c.in_ok-numbers.field-0.count (length c.in_ok-numbers.field-0.numbers.items) c.in_ok-members.members.items = rw (← c.deref.ensures.value) c.in_ok-members.ensures in
    let links : AreLinks c.args.mentions.now c.in_ok-numbers.field-0.numbers.items c.in_ok-numbers.field-0.count (length c.args.mentions.now) 0 c.in_ok-lists.field-0.lists.items c.in_ok-lists.field-0.recursive.items = rw (← c.deref-2.ensures.value) c.in_ok-lists.ensures in
    rw (c.deref-4.ensures.value, c.deref-3.ensures.value) (can_order _ c.requires _ _ c.in_ok-numbers.ensures _ are _ _ links)

pub in_order-requires-clause-members_within : goal.in_order-requires-clause-members_within
in_order-requires-clause-members_within c =
    let ordered : IsOrder c.in_ok-lists.field-0.lists.items c.in_ok-members.members.items c.in_ok-order.order.items = rw (← c.deref-4.ensures.value, ← c.deref-3.ensures.value) c.in_ok-order.ensures in
    λ i k e. rw c.deref-5.ensures.value (ordered_within _ _ _ ordered i k (rw c.deref-7.ensures.value at e))

pub in_order-requires-clause-flags_within : goal.in_order-requires-clause-flags_within
in_order-requires-clause-flags_within c =
    let are : AreMembers c.in_ok-numbers.field-0.numbers.items c.in_ok-numbers.field-0.count (length c.in_ok-numbers.field-0.numbers.items) c.in_ok-members.members.items = rw (← c.deref.ensures.value) c.in_ok-members.ensures in
    let links : AreLinks c.args.mentions.now c.in_ok-numbers.field-0.numbers.items c.in_ok-numbers.field-0.count (length c.args.mentions.now) 0 c.in_ok-lists.field-0.lists.items c.in_ok-lists.field-0.recursive.items = rw (← c.deref-2.ensures.value) c.in_ok-lists.ensures in
    let ordered : IsOrder c.in_ok-lists.field-0.lists.items c.in_ok-members.members.items c.in_ok-order.order.items = rw (← c.deref-4.ensures.value, ← c.deref-3.ensures.value) c.in_ok-order.ensures in
    λ i k e.
    let lt = ordered_within _ _ _ ordered i k (rw c.deref-7.ensures.value at e) in
    let one = are.sized in
    let two = links.recursive_sized in
    rw c.deref-6.ensures.value (omega arith)

pub returns : goal.returns
returns c =
    let are : AreMembers c.in_ok-numbers.field-0.numbers.items c.in_ok-numbers.field-0.count (length c.in_ok-numbers.field-0.numbers.items) c.in_ok-members.members.items = rw (← c.deref.ensures.value) c.in_ok-members.ensures in
    let links : AreLinks c.args.mentions.now c.in_ok-numbers.field-0.numbers.items c.in_ok-numbers.field-0.count (length c.args.mentions.now) 0 c.in_ok-lists.field-0.lists.items c.in_ok-lists.field-0.recursive.items = rw (← c.deref-2.ensures.value) c.in_ok-lists.ensures in
    let ordered : IsOrder c.in_ok-lists.field-0.lists.items c.in_ok-members.members.items c.in_ok-order.order.items = rw (← c.deref-4.ensures.value, ← c.deref-3.ensures.value) c.in_ok-order.ensures in
    IfOk-weaker _ _ _ (λ (groups : Vec BindingGroup Global) made. grouping _ c.requires _ _ c.in_ok-numbers.ensures _ are _ _ links _ ordered groups.items (rw (c.deref-5.ensures.value, c.deref-6.ensures.value, c.deref-7.ensures.value) at made)) c.in_order.ensures
