-- The queue keeps what the order needs.
use Rattle.std.proofs.Common.{◌≡◌, ℕ, ◌+◌, ◌<◌, ◌≤◌, zero, suc, List, [], ◌∷◌, ◌++◌, Bool, true, false, IsTrue, ◌↔◌, length, Some, None, Option, MatchOption, slice_get, slice_set, ◌⊎◌, inl, inr, ap, refl, sym, ◌∙◌, arith, length-set}
use Rattle.std.specs.Ordering.{nat_cmp}
use Rattle.std.specs.BTreeMap.{get}
use Rattle.std.specs.declared.vec.Vec.{Vec}
use Rattle.std.specs.declared.alloc.Global.{Global}
use Rattle.psc_groups.specs.Graph.{Mentions}
use Rattle.psc_groups.specs.Order.{FirstOf, StandsIn, StandsFrom, CanOrder, IsOrdered, IsOrder, IsPlaced, IsQueue, Stand, Placed, Ready, Waits, Empty, StandBelow, AlsoStands, IsNext, IsUnplaced, AllPlaced, Adds, Takes, AddsReady, TakesReady, AllStandBut, AllLinksPlaced, IsPlaceOf, TargetAt, WaitsAt}
use Rattle.psc_groups.specs.declared.order.Queue.{Queue}
use Rattle.psc_groups.proofs.Lists.{after_push, before, pushed, after_write, unwritten, unwritten_same, written, within, some_at, same_item}

-- two numbers are equal or not
pub same_or_not : (m n : ℕ) → (m ≡ n) ⊎ (m ≡ n → ⊥)
same_or_not zero zero = inl refl
same_or_not zero (suc n) = inr (λ e. omega arith)
same_or_not (suc m) zero = inr (λ e. omega arith)
same_or_not (suc m) (suc n) = elim (same_or_not m n) [ inl p ↦ inl (ap suc p) | inr p ↦ inr (λ e. p (omega arith)) ]

-- the same in the list that was written
added_here : (old new : List (Vec ℕ Global)) (at item x : ℕ) → Adds old new at item → Mentions new at x → Mentions old at x ⊎ (x ≡ item)
added_here old new at item x adds m =
    let v = some_at old at (let w = within new at m.list m.has in let z = adds.sized in omega arith) in
    let w = adds.list v.0 v.1 in
    let same : m.list ≡ w.0 = same_item new at m.list w.0 m.has w.1 in
    elim (after_push v.0.items item m.place x (rw (← w.2) (rw (← same) m.at))) [
      | inl p ↦ inr p.1
      | inr p ↦ inl (record { list = v.0; place = m.place; has = v.1; at = p })
    ]

-- an element of one of several lists stood there before, or was added
pub added : (old new : List (Vec ℕ Global)) (at item k x : ℕ) → Adds old new at item → Mentions new k x → Mentions old k x ⊎ ((k ≡ at) × (x ≡ item))
added old new at item k x adds m = elim (same_or_not k at) [
  | inl e ↦ elim (added_here old new at item x adds (rw e at m)) [ inl o ↦ inl (rw e o) | inr s ↦ inr (e, s) ]
  | inr ne ↦ inl (record { list = m.list; place = m.place; has = sym (adds.others k ne) ∙ m.has; at = m.at })
]

-- what stood there stays
pub kept : (old new : List (Vec ℕ Global)) (at item k x : ℕ) → Adds old new at item → Mentions old k x → Mentions new k x
kept old new at item k x adds m = elim (same_or_not k at) [
  | inl e ↦ (
      let w = adds.list m.list (rw (← e) m.has) in
      record { list = w.0; place = m.place; has = rw e w.1; at = rw w.2 (before m.list.items (item ∷ []) m.place x m.at) })
  | inr ne ↦ record { list = m.list; place = m.place; has = adds.others k ne ∙ m.has; at = m.at }
]

-- what is added stands there
pub stands_there : (old new : List (Vec ℕ Global)) (at item : ℕ) → Adds old new at item → at < length old → Mentions new at item
stands_there old new at item adds lt =
    let v = some_at old at lt in
    let w = adds.list v.0 v.1 in
    record { list = w.0; place = length v.0.items; has = w.1; at = rw w.2 (pushed v.0.items item) }

or_less : (m n : ℕ) → (m ≤ n) ⊎ (n < m)
or_less zero n = inl (omega arith)
or_less (suc m) zero = inr (omega arith)
or_less (suc m) (suc n) = elim (or_less m n) [ inl p ↦ inl (omega arith) | inr p ↦ inr (omega arith) ]

pub first_same : (M : List (Vec ℕ Global)) (g f e : ℕ) → FirstOf M g f → FirstOf M g e → f ≡ e
first_same M g f e a b =
    let s : a.list ≡ b.list = same_item M g a.list b.list a.has b.has in
    same_item b.list.items 0 f e (rw s at a.at) b.at

module _ (L M : List (Vec ℕ Global)) (can : CanOrder L M) where
  -- a group with members is one of the groups
  pub first_within : (g f : ℕ) → FirstOf M g f → g < length L
  first_within g f a = let w = within M g a.list a.has in let z = can.sized in omega arith

  mention_within : (g h : ℕ) → Mentions L g h → (g < length L) × (h < length L)
  mention_within g h m = let w = within L g m.list m.has in let z = can.falls g h m in (w, omega arith)

  ordered_push : (order : List ℕ) (g f : ℕ) → IsOrdered L M order → (StandsIn order g → ⊥) → FirstOf M g f → ((h : ℕ) → Mentions L g h → StandsIn order h) → ((h e : ℕ) → (StandsIn order h → ⊥) → (h ≡ g → ⊥) → ((k : ℕ) → Mentions L h k → StandsIn order k) → FirstOf M h e → f < e) → IsOrdered L M (order ++ g ∷ [])
  ordered_push order g f o new first links least = record {
    once = λ i j x e d. elim (after_push order g i x e) [
      | inl p ↦ elim (after_push order g j x d) [
        | inl q ↦ p.0 ∙ sym q.0
        | inr q ↦ absurd (new (record { place = j; at = rw (← p.1) q }))
      ]
      | inr p ↦ elim (after_push order g j x d) [
        | inl q ↦ absurd (new (record { place = i; at = rw (← q.1) p }))
        | inr q ↦ o.once i j x p q
      ]
    ];
    known = λ i x e. elim (after_push order g i x e) [
      | inl p ↦ (f, rw p.1 first)
      | inr p ↦ o.known i x p
    ];
    ready = λ i x h e m. elim (after_push order g i x e) [
      | inl p ↦ (
          let s = links h (rw p.1 at m) in
          let lt = within order s.place h s.at in
          record { place = s.place; before = (let z = p.0 in omega arith); at = before order (g ∷ []) s.place h s.at })
      | inr p ↦ (let s = o.ready i x h p m in record { place = s.place; before = s.before; at = before order (g ∷ []) s.place h s.at })
    ];
    earliest = λ i x h a e at not all fa fe. elim (after_push order g i x at) [
      | inl p ↦ (
          let same : a ≡ f = first_same M g a f (rw p.1 at fa) first in
          rw same (least h e
          (λ s. not (record { place = s.place; before = (let lt = within order s.place h s.at in let z = p.0 in omega arith); at = before order (g ∷ []) s.place h s.at }))
          (λ is. not (record { place = length order; before = (let z = p.0 in omega arith); at = rw is (pushed order g) }))
          (λ k m. let s = all k m in record { place = s.place; at = earlier s.place k s.at (let lt = s.before in let z = p.0 in omega arith) })
          fe))
      | inr p ↦ (
          let lt = within order i x p in
          o.earliest i x h a e p
          (λ s. not (record { place = s.place; before = s.before; at = before order (g ∷ []) s.place h s.at }))
          (λ k m. let s = all k m in record { place = s.place; before = s.before; at = earlier s.place k s.at (let z = s.before in omega arith) })
          fa fe)
    ];
  }
    where
      earlier : (p k : ℕ) → slice_get (order ++ g ∷ []) p ≡ Some k → p < length order → slice_get order p ≡ Some k
      earlier p k e lt = elim (after_push order g p k e) [
        | inl q ↦ absurd (let z = q.0 in omega arith)
        | inr q ↦ q
      ]

  module _ (q : Queue) (queue : IsQueue L M q) where
    -- a group is looked at and waits
    pub waits_queue : (q' : Queue) (g place : ℕ) (list : Vec ℕ Global) (from target : ℕ) → g < length L → slice_get L g ≡ Some list → slice_get q.passed.items g ≡ Some from → IsUnplaced q.placed.items list.items from place → slice_get list.items place ≡ Some target → q'.passed.items ≡ slice_set q.passed.items g place → Adds q.waiters.items q'.waiters.items target g → q'.placed.items ≡ q.placed.items → q'.ready ≡ q.ready → q'.order.items ≡ q.order.items → IsQueue L M q'
    waits_queue q' g place list from target lt has start un at e1 adds e3 e4 e5 = record {
      passed_sized = ap length e1 ∙ length-set q.passed.items g place ∙ queue.passed_sized;
      waiters_sized = adds.sized ∙ queue.waiters_sized;
      placed_sized = ap length e3 ∙ queue.placed_sized;
      passed = λ x n p h other e below is to. rw e3 (elim (after_write q.passed.items g place x n (rw e1 at e)) [
        | inl s ↦ elim (or_less from p) [
          | inl le ↦ un.before p h le (let z = s.1 in omega arith) (let same : other ≡ list = same_item L g other list (rw s.0 at is) has in rw same at to)
          | inr less ↦ queue.passed g from p h other start less (rw s.0 at is) to
        ]
        | inr s ↦ queue.passed x n p h other s.1 below is to
      ]);
      ready_first = λ f x e. queue.ready_first f x (rw e4 at e);
      ready_links = λ f x h e m. rw e3 (queue.ready_links f x h (rw e4 at e) m);
      waiting = λ t x m. elim (added q.waiters.items q'.waiters.items target g t x adds m) [
        | inl old ↦ queue.waiting t x old
        | inr s ↦ rw s.1 lt
      ];
      marked = λ x e. rw e5 (queue.marked x (rw e3 at e));
      placed = λ i x e. rw e3 (queue.placed i x (rw e5 at e));
      ordered = rw e5 queue.ordered;
    }

    pub waits_stand : (q' : Queue) (g place : ℕ) (list : Vec ℕ Global) (from target : ℕ) → g < length L → slice_get L g ≡ Some list → IsUnplaced q.placed.items list.items from place → slice_get list.items place ≡ Some target → Adds q.waiters.items q'.waiters.items target g → q'.placed.items ≡ q.placed.items → q'.ready ≡ q.ready → AlsoStands L M q q' g
    waits_stand q' g place list from target lt has un at adds e3 e4 =
        let mention : Mentions L g target = record { list = list; place = place; has = has; at = at } in
        let below = can.falls g target mention in
        let is : un.target ≡ target = same_item list.items place un.target target un.at at in
        record {
          here = Waits target (stands_there q.waiters.items q'.waiters.items target g adds (let z = queue.waiters_sized in omega arith)) mention (λ p. un.unplaced (rw is (rw e3 at p)));
          others = λ x s. still x s;
        }
      where
        still : (x : ℕ) → Stand L M q x → Stand L M q' x
        still x (Placed p) = Placed (rw e3 p)
        still x (Ready f e) = Ready f (rw e4 e)
        still x (Waits t w m never) = Waits t (kept q.waiters.items q'.waiters.items target g t x adds w) m (λ p. never (rw e3 at p))
        still x (Empty never) = Empty never

    -- all that a group mentions is placed
    pub links_placed : (g : ℕ) (list : Vec ℕ Global) (from : ℕ) → slice_get L g ≡ Some list → slice_get q.passed.items g ≡ Some from → AllPlaced q.placed.items list.items from (length list.items) → (h : ℕ) → Mentions L g h → IsPlaced q.placed.items h
    links_placed g list from has start all h m =
        let same : m.list ≡ list = same_item L g m.list list m.has has in
        let at : slice_get list.items m.place ≡ Some h = rw (← same) m.at in
        elim (or_less from m.place) [
          | inl le ↦ all.each m.place h le (within list.items m.place h at) at
          | inr lt ↦ queue.passed g from m.place h list start lt has at
        ]

    pub place_of : (g place : ℕ) → WaitsAt L q g place → IsPlaceOf L g place
    place_of g place w = record { within = λ list has. (let same : w.list ≡ list = same_item L g w.list list w.has has in within list.items place w.un.target (rw same at w.un.at)) }

    target_in : (g place target : ℕ) → (w : WaitsAt L q g place) → TargetAt L g place target → slice_get w.list.items place ≡ Some target
    target_in g place target w t = let same : t.list ≡ w.list = same_item L g t.list w.list t.has w.has in rw same at t.at

    pub target_within : (g place target : ℕ) → TargetAt L g place target → target < length L
    target_within g place target t = (mention_within g target (record { list = t.list; place = place; has = t.has; at = t.at })).1

    pub wait_queue : (q' : Queue) (g place target : ℕ) → g < length L → WaitsAt L q g place → TargetAt L g place target → q'.passed.items ≡ slice_set q.passed.items g place → Adds q.waiters.items q'.waiters.items target g → q'.placed.items ≡ q.placed.items → q'.ready ≡ q.ready → q'.order.items ≡ q.order.items → IsQueue L M q'
    wait_queue q' g place target lt w t e1 adds e3 e4 e5 = waits_queue q' g place w.list w.from target lt w.has w.start w.un (target_in g place target w t) e1 adds e3 e4 e5

    pub wait_stand : (q' : Queue) (g place target : ℕ) → g < length L → WaitsAt L q g place → TargetAt L g place target → Adds q.waiters.items q'.waiters.items target g → q'.placed.items ≡ q.placed.items → q'.ready ≡ q.ready → AlsoStands L M q q' g
    wait_stand q' g place target lt w t adds e3 e4 = waits_stand q' g place w.list w.from target lt w.has w.un (target_in g place target w t) adds e3 e4

    pub waits_told : (g : ℕ) (list : Vec ℕ Global) (from : ℕ) (r : Option ℕ) → slice_get L g ≡ Some list → slice_get q.passed.items g ≡ Some from → MatchOption r (AllPlaced q.placed.items list.items from (length list.items)) (λ place. IsUnplaced q.placed.items list.items from place) → MatchOption r (AllLinksPlaced L q g) (WaitsAt L q g)
    waits_told g list from None has start all = record { each = λ h m. links_placed g list from has start all h m }
    waits_told g list from (Some place) has start un = record { list = list; from = from; has = has; start = start; un = un }

    pub mentioned_within : (g : ℕ) (list : Vec ℕ Global) → slice_get L g ≡ Some list → (p h : ℕ) → slice_get list.items p ≡ Some h → h < length q.placed.items
    mentioned_within g list has p h e = let w = (mention_within g h (record { list = list; place = p; has = has; at = e })).1 in let z = queue.placed_sized in omega arith

    -- a group becomes ready
    pub ready_queue : (q' : Queue) (g f : ℕ) → FirstOf M g f → ((h : ℕ) → Mentions L g h → IsPlaced q.placed.items h) → AddsReady q.ready q'.ready f g → q'.passed.items ≡ q.passed.items → q'.waiters.items ≡ q.waiters.items → q'.placed.items ≡ q.placed.items → q'.order.items ≡ q.order.items → IsQueue L M q'
    ready_queue q' g f first links adds e1 e2 e3 e5 = record {
      passed_sized = ap length e1 ∙ queue.passed_sized;
      waiters_sized = ap length e2 ∙ queue.waiters_sized;
      placed_sized = ap length e3 ∙ queue.placed_sized;
      passed = λ x n p h other e below is to. rw e3 (queue.passed x n p h other (rw e1 at e) below is to);
      ready_first = λ a x e. elim (same_or_not a f) [
        | inl s ↦ (let is : x ≡ g = some_same x g (sym (rw s at e) ∙ adds.here) in rw (s, is) first)
        | inr ne ↦ queue.ready_first a x (sym (adds.others a ne) ∙ e)
      ];
      ready_links = λ a x h e m. rw e3 (elim (same_or_not a f) [
        | inl s ↦ (let is : x ≡ g = some_same x g (sym (rw s at e) ∙ adds.here) in links h (rw is at m))
        | inr ne ↦ queue.ready_links a x h (sym (adds.others a ne) ∙ e) m
      ]);
      waiting = λ t x m. queue.waiting t x (rw e2 at m);
      marked = λ x e. rw e5 (queue.marked x (rw e3 at e));
      placed = λ i x e. rw e3 (queue.placed i x (rw e5 at e));
      ordered = rw e5 queue.ordered;
    }
      where
        some_same : (a b : ℕ) → Some a ≡ Some b → a ≡ b
        some_same a b e = cc

    pub ready_stand : (q' : Queue) (g f : ℕ) → FirstOf M g f → AddsReady q.ready q'.ready f g → q'.waiters.items ≡ q.waiters.items → q'.placed.items ≡ q.placed.items → AlsoStands L M q q' g
    ready_stand q' g f first adds e2 e3 = record { here = Ready f adds.here; others = still }
      where
        still : (x : ℕ) → Stand L M q x → Stand L M q' x
        still x (Placed p) = Placed (rw e3 p)
        still x (Ready a e) = elim (same_or_not a f) [
          | inl s ↦ (let is : x ≡ g = can.one x g f (queue.ready_first f x (rw s at e)) first in rw is (Ready f adds.here))
          | inr ne ↦ Ready a (adds.others a ne ∙ e)
        ]
        still x (Waits t w m never) = Waits t (rw e2 w) m (λ p. never (rw e3 at p))
        still x (Empty never) = Empty never

    -- a group without members
    pub empty_stand : (q' : Queue) (g : ℕ) → ((f : ℕ) → FirstOf M g f → ⊥) → q' ≡ q → AlsoStands L M q q' g
    empty_stand q' g never e = rw e (record { here = Empty never; others = λ x s. s })

    pub same_queue : (q' : Queue) → q' ≡ q → IsQueue L M q'
    same_queue q' e = rw e queue

    was_ready : (q' : Queue) (g f : ℕ) → TakesReady q.ready q'.ready f g → (a x : ℕ) → get nat_cmp q'.ready a ≡ Some x → get nat_cmp q.ready a ≡ Some x
    was_ready q' g f takes a x e = elim (same_or_not a f) [
      | inl s ↦ absurd (let z : None ≡ Some x = sym takes.gone ∙ rw s at e in cc)
      | inr ne ↦ sym (takes.others a ne) ∙ e
    ]

    -- the next group is taken
    pub take_queue : (q' : Queue) (g f : ℕ) → TakesReady q.ready q'.ready f g → q'.passed.items ≡ q.passed.items → q'.waiters.items ≡ q.waiters.items → q'.placed.items ≡ q.placed.items → q'.order.items ≡ q.order.items → IsQueue L M q'
    take_queue q' g f takes e1 e2 e3 e5 = record {
      passed_sized = ap length e1 ∙ queue.passed_sized;
      waiters_sized = ap length e2 ∙ queue.waiters_sized;
      placed_sized = ap length e3 ∙ queue.placed_sized;
      passed = λ x n p h other e below is to. rw e3 (queue.passed x n p h other (rw e1 at e) below is to);
      ready_first = λ a x e. queue.ready_first a x (was_ready q' g f takes a x e);
      ready_links = λ a x h e m. rw e3 (queue.ready_links a x h (was_ready q' g f takes a x e) m);
      waiting = λ t x m. queue.waiting t x (rw e2 at m);
      marked = λ x e. rw e5 (queue.marked x (rw e3 at e));
      placed = λ i x e. rw e3 (queue.placed i x (rw e5 at e));
      ordered = rw e5 queue.ordered;
    }

    pub take_next : (q' : Queue) (g f : ℕ) → StandBelow L M q (length L) → TakesReady q.ready q'.ready f g → q'.waiters.items ≡ q.waiters.items → q'.placed.items ≡ q.placed.items → IsNext L M q' g
    take_next q' g f stand takes e2 e3 = record {
      first = f;
      is_first = queue.ready_first f g takes.was;
      linked = λ h m. rw e3 (queue.ready_links f g h takes.was m);
      least = λ a x e. takes.least a x (was_ready q' g f takes a x e);
      others = λ x lt ne. still x ne (stand.stand x lt);
    }
      where
        still : (x : ℕ) → (x ≡ g → ⊥) → Stand L M q x → Stand L M q' x
        still x ne (Placed p) = Placed (rw e3 p)
        still x ne (Ready a e) = elim (same_or_not a f) [
          | inl s ↦ absurd (ne (let z : Some x ≡ Some g = sym (rw s at e) ∙ takes.was in cc))
          | inr never ↦ Ready a (takes.others a never ∙ e)
        ]
        still x ne (Waits t w m never) = Waits t (rw e2 w) m (λ p. never (rw e3 at p))
        still x ne (Empty never) = Empty never

    pub next_within : (g : ℕ) → IsNext L M q g → g < length L
    next_within g next = first_within g next.first next.is_first

    -- a group that is placed already
    pub stays_placed : (g : ℕ) → IsNext L M q g → IsPlaced q.placed.items g → StandBelow L M q (length L)
    stays_placed g next p = record { stand = λ x lt. elim (same_or_not x g) [ inl e ↦ Placed (rw e p) | inr ne ↦ next.others x lt ne ] }

    module _ (q' : Queue) (g : ℕ) (woken : Vec ℕ Global) (next : IsNext L M q g) (un : IsPlaced q.placed.items g → ⊥) (e1 : q'.passed.items ≡ q.passed.items) (takes : Takes q.waiters.items q'.waiters.items g woken) (e3 : q'.placed.items ≡ slice_set q.placed.items g true) (e4 : q'.ready ≡ q.ready) (e5 : q'.order.items ≡ q.order.items ++ g ∷ []) where
      lt : g < length L
      lt = first_within g next.first next.is_first

      stays : (h : ℕ) → IsPlaced q.placed.items h → IsPlaced q'.placed.items h
      stays h p = rw e3 (elim (same_or_not h g) [
        | inl e ↦ absurd (un (rw e at p))
        | inr ne ↦ unwritten q.placed.items g true h true ne p
      ])

      now_placed : IsPlaced q'.placed.items g
      now_placed =
          let s = some_at q.placed.items g (let z = queue.placed_sized in let l = lt in omega arith) in
          rw e3 (written q.placed.items g true s.0 s.1)

      in_order : (h : ℕ) → IsPlaced q'.placed.items h → (h ≡ g) ⊎ IsPlaced q.placed.items h
      in_order h p = elim (after_write q.placed.items g true h true (rw e3 at p)) [ inl s ↦ inl s.0 | inr s ↦ inr s.1 ]

      was_waiting : (t x : ℕ) → Mentions q'.waiters.items t x → Mentions q.waiters.items t x
      was_waiting t x m = elim (same_or_not t g) [
        | inl e ↦ absurd (let n : m.list.items ≡ [] = takes.now m.list (rw e at m.has) in let z : slice_get {X = ℕ} [] m.place ≡ Some x = rw n at m.at in cc)
        | inr ne ↦ record { list = m.list; place = m.place; has = sym (takes.others t ne) ∙ m.has; at = m.at }
      ]

      least : (h e : ℕ) → (StandsIn q.order.items h → ⊥) → (h ≡ g → ⊥) → ((k : ℕ) → Mentions L h k → StandsIn q.order.items k) → FirstOf M h e → next.first < e
      least h e not ne all fe = from (next.others h (first_within h e fe) ne)
        where
          from : Stand L M q h → next.first < e
          from (Placed p) = absurd (not (queue.marked h p))
          from (Ready a is) =
              let same : a ≡ e = first_same M h a e (queue.ready_first a h is) fe in
              let le = next.least a h is in
              elim (same_or_not next.first e) [
                | inl s ↦ absurd (ne (can.one h g e fe (rw s at next.is_first)))
                | inr never ↦ omega arith
              ]
          from (Waits t w m never) = absurd (let s = all t m in never (queue.placed s.place t s.at))
          from (Empty never) = absurd (never e fe)

      pub place_queue : IsQueue L M q'
      place_queue = record {
        passed_sized = ap length e1 ∙ queue.passed_sized;
        waiters_sized = takes.sized ∙ queue.waiters_sized;
        placed_sized = ap length e3 ∙ length-set q.placed.items g true ∙ queue.placed_sized;
        passed = λ x n p h other e below is to. stays h (queue.passed x n p h other (rw e1 at e) below is to);
        ready_first = λ a x e. queue.ready_first a x (rw e4 at e);
        ready_links = λ a x h e m. stays h (queue.ready_links a x h (rw e4 at e) m);
        waiting = λ t x m. queue.waiting t x (was_waiting t x m);
        marked = λ x e. rw e5 (elim (in_order x e) [
          | inl s ↦ record { place = length q.order.items; at = rw s (pushed q.order.items g) }
          | inr p ↦ (let s = queue.marked x p in record { place = s.place; at = before q.order.items (g ∷ []) s.place x s.at })
        ]);
        placed = λ i x e. elim (after_push q.order.items g i x (rw e5 at e)) [
          | inl s ↦ rw s.1 now_placed
          | inr s ↦ stays x (queue.placed i x s)
        ];
        ordered = rw e5 (ordered_push q.order.items g next.first queue.ordered
            (λ s. un (queue.placed s.place g s.at))
            next.is_first
            (λ h m. queue.marked h (next.linked h m))
            least);
      }

      pub place_stand : AllStandBut L M q' woken.items 0
      place_stand = record {
        stand = λ x l. elim (same_or_not x g) [
          | inl e ↦ inl (Placed (rw e now_placed))
          | inr ne ↦ still x (next.others x l ne)
        ];
        within = λ p x e. queue.waiting g x (record { list = woken; place = p; has = takes.was; at = e });
      }
        where
          still : (x : ℕ) → Stand L M q x → Stand L M q' x ⊎ StandsFrom woken.items 0 x
          still x (Placed p) = inl (Placed (stays x p))
          still x (Ready a e) = inl (Ready a (rw e4 e))
          still x (Waits t w m never) = elim (same_or_not t g) [
            | inl e ↦ (
                let same : w.list ≡ woken = same_item q.waiters.items g w.list woken (rw e at w.has) takes.was in
                inr (record { place = w.place; behind = omega arith; at = rw (← same) w.at }))
            | inr ne ↦ inl (Waits t (record { list = w.list; place = w.place; has = takes.others t ne ∙ w.has; at = w.at }) m (λ p. elim (in_order t p) [ inl s ↦ ne s | inr s ↦ never s ]))
          ]
          still x (Empty never) = inl (Empty never)

  -- a woken group is looked at
  pub looked_at : (q q' : Queue) (woken : List ℕ) (at x : ℕ) → AllStandBut L M q woken at → slice_get woken at ≡ Some x → AlsoStands L M q q' x → AllStandBut L M q' woken (at + 1)
  looked_at q q' woken at x all is also = record {
    stand = λ g lt. elim (all.stand g lt) [
      | inl s ↦ inl (also.others g s)
      | inr s ↦ elim (same_or_not s.place at) [
        | inl e ↦ inl (let same : g ≡ x = same_item woken at g x (rw e at s.at) is in rw same also.here)
        | inr ne ↦ inr (record { place = s.place; behind = (let b = s.behind in let z = ne in omega arith); at = s.at })
      ]
    ];
    within = all.within;
  }

  pub all_stand : (q : Queue) (woken : List ℕ) → AllStandBut L M q woken (length woken) → StandBelow L M q (length L)
  all_stand q woken all = record {
    stand = λ g lt. elim (all.stand g lt) [
      | inl s ↦ s
      | inr s ↦ absurd (let w = within woken s.place g s.at in let b = s.behind in omega arith)
    ];
  }

  -- one group more stands
  pub stand_more : (q q' : Queue) (at : ℕ) → StandBelow L M q at → AlsoStands L M q q' at → StandBelow L M q' (at + 1)
  stand_more q q' at below also = record {
    stand = λ g lt. elim (same_or_not g at) [
      | inl e ↦ rw e also.here
      | inr ne ↦ also.others g (below.stand g (let z = ne in omega arith))
    ];
  }

  pub stand_none : (q : Queue) → StandBelow L M q 0
  stand_none q = record { stand = λ g lt. absurd (omega arith) }

  -- no group is ready: all are placed
  pub finished : (q : Queue) → IsQueue L M q → StandBelow L M q (length L) → ((f : ℕ) → get nat_cmp q.ready f ≡ None) → IsOrder L M q.order.items
  finished q queue below none = record { ordered = queue.ordered; all = λ g f first. queue.marked g (placed (g + 1) g f (omega arith) first) }
    where
      from : (n : ℕ) → ((g f : ℕ) → g < n → FirstOf M g f → IsPlaced q.placed.items g) → (g f : ℕ) → g < suc n → FirstOf M g f → Stand L M q g → IsPlaced q.placed.items g
      from n lower g f lt first (Placed p) = p
      from n lower g f lt first (Ready a e) = absurd (let z : None ≡ Some g = sym (none a) ∙ e in cc)
      from n lower g f lt first (Waits t w m never) = absurd (let k = can.known g t m in let less = can.falls g t m in never (lower t k.0 (omega arith) k.1))
      from n lower g f lt first (Empty never) = absurd (never f first)

      placed : (n g f : ℕ) → g < n → FirstOf M g f → IsPlaced q.placed.items g
      placed zero g f lt first = absurd (omega arith)
      placed (suc n) g f lt first = from n (placed n) g f lt first (below.stand g (first_within g f first))

-- a queue in which nothing was done
pub started : (L M : List (Vec ℕ Global)) (q : Queue) → length q.passed.items ≡ length L → length q.waiters.items ≡ length L → length q.placed.items ≡ length L → ((g n : ℕ) → slice_get q.passed.items g ≡ Some n → n ≡ 0) → ((t g : ℕ) → Mentions q.waiters.items t g → ⊥) → ((g : ℕ) → IsPlaced q.placed.items g → ⊥) → ((f : ℕ) → get nat_cmp q.ready f ≡ None) → q.order.items ≡ [] → IsQueue L M q
started L M q s1 s2 s3 zeros none new empty start = record {
  passed_sized = s1;
  waiters_sized = s2;
  placed_sized = s3;
  passed = λ g n p h list e lt has at. absurd (let z = zeros g n e in omega arith);
  ready_first = λ f g e. absurd (let z : None ≡ Some g = sym (empty f) ∙ e in cc);
  ready_links = λ f g h e m. absurd (let z : None ≡ Some g = sym (empty f) ∙ e in cc);
  waiting = λ t g m. absurd (none t g m);
  marked = λ g p. absurd (new g p);
  placed = λ i g e. absurd (let z : slice_get {X = ℕ} [] i ≡ Some g = rw start at e in cc);
  ordered = rw start (record {
    once = λ i j g e f. absurd cc;
    known = λ i g e. absurd cc;
    ready = λ i g h e m. absurd cc;
    earliest = λ i g h f e at never all a b. absurd cc;
  });
}

-- the loop over what a group mentions
pub all_none : (placed : List Bool) (mentioned : List ℕ) (from : ℕ) → AllPlaced placed mentioned from from
all_none placed mentioned from = record { each = λ p h le lt e. absurd (omega arith) }

pub all_more : (placed : List Bool) (mentioned : List ℕ) (from place target : ℕ) → AllPlaced placed mentioned from place → slice_get mentioned place ≡ Some target → IsPlaced placed target → AllPlaced placed mentioned from (place + 1)
all_more placed mentioned from place target all at is = record {
  each = λ p h le lt e. elim (same_or_not p place) [
    | inl s ↦ (let same : h ≡ target = same_item mentioned place h target (rw s at e) at in rw same is)
    | inr ne ↦ all.each p h le (let z = ne in omega arith) e
  ];
}

pub found_unplaced : (placed : List Bool) (mentioned : List ℕ) (from place target : ℕ) → AllPlaced placed mentioned from place → slice_get mentioned place ≡ Some target → (IsPlaced placed target → ⊥) → IsUnplaced placed mentioned from place
found_unplaced placed mentioned from place target all at never = record { target = target; at = at; unplaced = never; before = λ p h le lt e. all.each p h le lt e }

pub all_less : (placed : List Bool) (mentioned : List ℕ) (from to place : ℕ) → to ≤ place → AllPlaced placed mentioned from place → AllPlaced placed mentioned from to
all_less placed mentioned from to place le all = record { each = λ p h low lt e. all.each p h low (omega arith) e }

pub when_true : (b : Bool) (P : Type 0) → IsTrue b ↔ P → b ≡ true → P
when_true b P both e = both.0 e

pub when_false : (b : Bool) (P : Type 0) → IsTrue b ↔ P → b ≡ false → P → ⊥
when_false b P both e p = let t : b ≡ true = both.1 p in cc

-- one list of several is written
pub adds_set : {A : Type 0} → (old : List (Vec A Global)) (at : ℕ) (v w : Vec A Global) (item : A) → slice_get old at ≡ Some v → w.items ≡ v.items ++ item ∷ [] → Adds old (slice_set old at w) at item
adds_set old at v w item has e = record {
  sized = length-set old at w;
  list = λ u is. (w, written old at w v has, let same : u ≡ v = same_item old at u v is has in rw same e);
  others = λ k ne. unwritten_same old at w k ne;
}

-- the loop that makes the lists of the queue
pub zeros_more : (xs ys : List ℕ) → ys ≡ xs ++ 0 ∷ [] → ((g n : ℕ) → slice_get xs g ≡ Some n → n ≡ 0) → (g n : ℕ) → slice_get ys g ≡ Some n → n ≡ 0
zeros_more xs ys e all g n at = elim (after_push xs 0 g n (rw e at at)) [ inl p ↦ p.1 | inr p ↦ all g n p ]

pub none_more : (xs ys : List (Vec ℕ Global)) (v : Vec ℕ Global) → ys ≡ xs ++ v ∷ [] → v.items ≡ [] → ((t g : ℕ) → Mentions xs t g → ⊥) → (t g : ℕ) → Mentions ys t g → ⊥
none_more xs ys v e empty none t g m = elim (after_push xs v t m.list (rw e at m.has)) [
  | inl p ↦ (let same : m.list.items ≡ [] = ap (λ (u : Vec ℕ Global). u.items) p.1 ∙ empty in let z : slice_get {X = ℕ} [] m.place ≡ Some g = rw same at m.at in cc)
  | inr p ↦ none t g (record { list = m.list; place = m.place; has = p; at = m.at })
]

pub new_more : (xs ys : List Bool) → ys ≡ xs ++ false ∷ [] → ((g : ℕ) → IsPlaced xs g → ⊥) → (g : ℕ) → IsPlaced ys g → ⊥
new_more xs ys e none g at = elim (after_push xs false g true (rw e at at)) [ inl p ↦ (let z : true ≡ false = p.1 in cc) | inr p ↦ none g p ]
