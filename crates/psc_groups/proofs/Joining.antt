-- The groups from their numbers and the order.
use Rattle.std.proofs.Common.{◌≡◌, ℕ, ◌+◌, ◌<◌, ◌≤◌, List, [], ◌∷◌, ◌++◌, Bool, true, false, IsTrue, length, length-append, Some, slice_get, slice_set, ◌⊎◌, inl, inr, ap, refl, sym, ◌∙◌, arith, length-set}
use Rattle.std.specs.declared.vec.Vec.{Vec}
use Rattle.std.specs.declared.alloc.Global.{Global}
use Rattle.psc_groups.specs.Graph.{Mentions, Reaches, here, onward, AllDeclared, IsNumbering}
use Rattle.psc_groups.specs.Order.{FirstOf, StandsIn, StandsBefore, CanOrder, IsOrder, Adds}
use Rattle.psc_groups.specs.Groups.{IsMember, MentionsItself, IsReadyAt, IsEarlier, IsGrouping, AreMembers, IsSeen, AreLinks, IsGroupOf, AreGroups, AreEmpty, AreUnset, AddsLink}
use Rattle.psc_groups.specs.declared.groups.BindingGroup.{BindingGroup}
use Rattle.psc_groups.specs.declared.groups.Links.{Links}
use Rattle.psc_groups.proofs.Lists.{after_push, after_write, unwritten, written, within, some_at, same_item}
use Rattle.psc_groups.proofs.Placing.{same_or_not, added, kept, stands_there}

-- the declarations by their numbers
pub no_members : (numbers : List ℕ) (count : ℕ) (lists : List (Vec ℕ Global)) → AreEmpty lists count → AreMembers numbers count 0 lists
no_members numbers count lists e = record {
  sized = e.sized;
  member = λ a k lt is. absurd (omega arith);
  only = λ k a m. absurd (let n : m.list.items ≡ [] = e.each k m.list m.has in let z : slice_get {X = ℕ} [] m.place ≡ Some a = rw n at m.at in cc);
  ascending = λ k i j a b list has lt ea eb. absurd (let n : list.items ≡ [] = e.each k list has in let z : slice_get {X = ℕ} [] i ≡ Some a = rw n at ea in cc);
}

pub more_members : (numbers : List ℕ) (count upto number : ℕ) (old new : List (Vec ℕ Global)) → AreMembers numbers count upto old → slice_get numbers upto ≡ Some number → number < count → Adds old new number upto → AreMembers numbers count (upto + 1) new
more_members numbers count upto number old new are is lt adds = record {
  sized = adds.sized ∙ are.sized;
  member = λ a k less e. elim (same_or_not a upto) [
    | inl s ↦ (
        let same : k ≡ number = same_item numbers upto k number (rw s at e) is in
        rw (s, same) (stands_there old new number upto adds (let z = are.sized in omega arith)))
    | inr ne ↦ kept old new number upto k a adds (are.member a k (let z = ne in omega arith) e)
  ];
  only = λ k a m. elim (added old new number upto k a adds m) [
    | inl o ↦ (let r = are.only k a o in (r.0, let z = r.1 in omega arith))
    | inr s ↦ (rw (s.0, s.1) is, let z = s.1 in omega arith)
  ];
  ascending = λ k i j a b list has less ea eb. elim (same_or_not k number) [
    | inl s ↦ (
        let v = some_at old number (let z = are.sized in omega arith) in
        let w = adds.list v.0 v.1 in
        let same : list ≡ w.0 = same_item new number list w.0 (rw s at has) w.1 in
        let fa : slice_get (v.0.items ++ upto ∷ []) i ≡ Some a = rw (← w.2) (rw (← same) ea) in
        let fb : slice_get (v.0.items ++ upto ∷ []) j ≡ Some b = rw (← w.2) (rw (← same) eb) in
        elim (after_push v.0.items upto j b fb) [
          | inl p ↦ elim (after_push v.0.items upto i a fa) [
            | inl q ↦ absurd (let y = p.0 in let z = q.0 in omega arith)
            | inr q ↦ (let r = are.only number a (record { list = v.0; place = i; has = v.1; at = q }) in let y = p.1 in let z = r.1 in omega arith)
          ]
          | inr p ↦ elim (after_push v.0.items upto i a fa) [
            | inl q ↦ absurd (let l = within v.0.items j b p in let z = q.0 in omega arith)
            | inr q ↦ are.ascending number i j a b v.0 v.1 less q p
          ]
        ])
    | inr ne ↦ are.ascending k i j a b list (sym (adds.others k ne) ∙ has) less ea eb
  ];
}

-- the links between the numbers
module _ (m : List (Vec ℕ Global)) (numbers : List ℕ) (count : ℕ) where
  pub no_links : (lists : List (Vec ℕ Global)) (flags : List Bool) → AreEmpty lists count → AreUnset flags count → AreLinks m numbers count 0 0 lists flags
  no_links lists flags e u = record {
    links_sized = e.sized;
    recursive_sized = u.sized;
    sound = λ g h x. absurd (none g h x);
    apart = λ g h x. absurd (none g h x);
    linked = λ a b g h x seen ea eb ne. absurd (unseen a x.place seen);
    loops = λ g is. absurd (u.each g is);
    looped = λ a b g x seen ea eb. absurd (unseen a x.place seen);
  }
    where
      none : (g h : ℕ) → Mentions lists g h → ⊥
      none g h x = let n : x.list.items ≡ [] = e.each g x.list x.has in let z : slice_get {X = ℕ} [] x.place ≡ Some h = rw n at x.at in cc

      unseen : (a p : ℕ) → IsSeen 0 0 a p → ⊥
      unseen a p (inl lt) = omega arith
      unseen a p (inr s) = omega arith

  pub more_links : (at place from to b : ℕ) (list : Vec ℕ Global) (old new : Links) → AreLinks m numbers count at place old.lists.items old.recursive.items → slice_get m at ≡ Some list → slice_get list.items place ≡ Some b → slice_get numbers at ≡ Some from → slice_get numbers b ≡ Some to → from < count → AddsLink old new from to → AreLinks m numbers count at (place + 1) new.lists.items new.recursive.items
  more_links at place from to b list old new are has is ea eb lt adds = elim (same_or_not from to) [
    | inl e ↦ (let p = adds.itself e in rw (p.0, p.1) (itself e))
    | inr ne ↦ (let p = adds.other ne in rw p.1 (other ne new.lists.items p.0))
  ]
    where
      mention : Mentions m at b
      mention = record { list = list; place = place; has = has; at = is }

      -- the mention at this place, or one that was seen
      split : (a p : ℕ) → IsSeen at (place + 1) a p → IsSeen at place a p ⊎ ((a ≡ at) × (p ≡ place))
      split a p (inl less) = inl (inl less)
      split a p (inr s) = elim (same_or_not p place) [ inl e ↦ inr (s.0, e) | inr ne ↦ inl (inr (s.0, let y = s.1 in let z = ne in omega arith)) ]

      target : (c : ℕ) (x : Mentions m at c) → x.place ≡ place → c ≡ b
      target c x e = let same : x.list ≡ list = same_item m at x.list list x.has has in same_item list.items place c b (rw (← same) (rw (← e) x.at)) is

      itself : from ≡ to → AreLinks m numbers count at (place + 1) old.lists.items (slice_set old.recursive.items from true)
      itself e = record {
        links_sized = are.links_sized;
        recursive_sized = length-set old.recursive.items from true ∙ are.recursive_sized;
        sound = are.sound;
        apart = are.apart;
        linked = λ a c g h x seen fa fc ne. elim (split a x.place seen) [
          | inl s ↦ are.linked a c g h x s fa fc ne
          | inr s ↦ absurd (at_place a c g h x s fa fc ne)
        ];
        loops = λ g set. elim (after_write old.recursive.items from true g true set) [
          | inl s ↦ rw s.0 (record { a = at; b = b; mention = mention; from = ea; to = rw e eb })
          | inr s ↦ are.loops g s.1
        ];
        looped = λ a c g x seen fa fc. elim (split a x.place seen) [
          | inl s ↦ elim (same_or_not g from) [
            | inl y ↦ rw y set_now
            | inr ne ↦ unwritten old.recursive.items from true g true ne (are.looped a c g x s fa fc)
          ]
          | inr s ↦ (let y : g ≡ from = same_item numbers at g from (rw s.0 at fa) ea in rw y set_now)
        ];
      }
        where
          set_now : slice_get (slice_set old.recursive.items from true) from ≡ Some true
          set_now = let v = some_at old.recursive.items from (let z = are.recursive_sized in omega arith) in written old.recursive.items from true v.0 v.1

          at_place : (a c g h : ℕ) (x : Mentions m a c) → (a ≡ at) × (x.place ≡ place) → slice_get numbers a ≡ Some g → slice_get numbers c ≡ Some h → (g ≡ h → ⊥) → ⊥
          at_place a c g h x s fa fc ne =
              let y : Mentions m at c = record { list = x.list; place = x.place; has = rw (← s.0) x.has; at = x.at } in
              let t : c ≡ b = target c y s.1 in
              ne (same_item numbers at g from (rw s.0 at fa) ea ∙ e ∙ sym (same_item numbers b h to (rw t at fc) eb))

      other : (from ≡ to → ⊥) → (lists : List (Vec ℕ Global)) → Adds old.lists.items lists from to → AreLinks m numbers count at (place + 1) lists old.recursive.items
      other ne lists a = record {
        links_sized = a.sized ∙ are.links_sized;
        recursive_sized = are.recursive_sized;
        sound = λ g h x. elim (added old.lists.items lists from to g h a x) [
          | inl o ↦ are.sound g h o
          | inr s ↦ rw (s.0, s.1) (record { a = at; b = b; mention = mention; from = ea; to = eb })
        ];
        apart = λ g h x e. elim (added old.lists.items lists from to g h a x) [
          | inl o ↦ are.apart g h o e
          | inr s ↦ ne (sym s.0 ∙ e ∙ s.1)
        ];
        linked = λ d c g h x seen fa fc never. elim (split d x.place seen) [
          | inl s ↦ kept old.lists.items lists from to g h a (are.linked d c g h x s fa fc never)
          | inr s ↦ (
              let y : Mentions m at c = record { list = x.list; place = x.place; has = rw (← s.0) x.has; at = x.at } in
              let t : c ≡ b = target c y s.1 in
              let one : g ≡ from = same_item numbers at g from (rw s.0 at fa) ea in
              let two : h ≡ to = same_item numbers b h to (rw t at fc) eb in
              rw (one, two) (stands_there old.lists.items lists from to a (let z = are.links_sized in omega arith)))
        ];
        loops = are.loops;
        looped = λ d c g x seen fa fc. elim (split d x.place seen) [
          | inl s ↦ are.looped d c g x s fa fc
          | inr s ↦ absurd (
              let y : Mentions m at c = record { list = x.list; place = x.place; has = rw (← s.0) x.has; at = x.at } in
              let t : c ≡ b = target c y s.1 in
              ne (sym (same_item numbers at g from (rw s.0 at fa) ea) ∙ same_item numbers b g to (rw t at fc) eb))
        ];
      }

  -- all mentions of a declaration are seen
  pub next_links : (at : ℕ) (list : Vec ℕ Global) (lists : List (Vec ℕ Global)) (flags : List Bool) → slice_get m at ≡ Some list → AreLinks m numbers count at (length list.items) lists flags → AreLinks m numbers count (at + 1) 0 lists flags
  next_links at list lists flags has are = record {
    links_sized = are.links_sized;
    recursive_sized = are.recursive_sized;
    sound = are.sound;
    apart = are.apart;
    linked = λ a b g h x seen. are.linked a b g h x (sooner a b x seen);
    loops = are.loops;
    looped = λ a b g x seen. are.looped a b g x (sooner a b x seen);
  }
    where
      sooner : (a b : ℕ) (x : Mentions m a b) → IsSeen (at + 1) 0 a x.place → IsSeen at (length list.items) a x.place
      sooner a b x (inl lt) = elim (same_or_not a at) [
        | inl e ↦ inr (e, let same : x.list ≡ list = same_item m at x.list list (rw (← e) x.has) has in within list.items x.place b (rw (← same) x.at))
        | inr ne ↦ inl (let z = ne in omega arith)
      ]
      sooner a b x (inr s) = absurd (let z = s.1 in omega arith)

module _ (m : List (Vec ℕ Global)) (declared : AllDeclared m) (numbers : List ℕ) (count : ℕ) (numbering : IsNumbering (Mentions m) (length m) numbers count) (M : List (Vec ℕ Global)) (are : AreMembers numbers count (length numbers) M) (L : List (Vec ℕ Global)) (R : List Bool) (links : AreLinks m numbers count (length m) 0 L R) where
  number_of : (a : ℕ) → a < length m → (k : ℕ) × (slice_get numbers a ≡ Some k)
  number_of a lt = some_at numbers a (let z = numbering.whole in omega arith)

  mention_from : (a b : ℕ) → Mentions m a b → a < length m
  mention_from a b x = within m a x.list x.has

  -- who reaches has no lower number
  falls : (a b k l : ℕ) → Reaches (Mentions m) a b → slice_get numbers a ≡ Some k → slice_get numbers b ≡ Some l → l ≤ k
  falls _ _ k l (here a) e f = let s = same_item numbers a k l e f in omega arith
  falls _ _ k l (onward a c b x r) e f =
      let n = number_of c (declared.declared a c x) in
      let one = numbering.falls a c k n.0 x e n.1 in
      let two = falls c b n.0 l r n.1 f in
      omega arith

  -- a number that a declaration has is that of a group
  first_of : (a k : ℕ) → slice_get numbers a ≡ Some k → (f : ℕ) × FirstOf M k f
  first_of a k e =
      let x = are.member a k (within numbers a k e) e in
      let f = some_at x.list.items 0 (let w = within x.list.items x.place a x.at in omega arith) in
      (f.0, record { list = x.list; has = x.has; at = f.1 })

  first_number : (g f : ℕ) → FirstOf M g f → slice_get numbers f ≡ Some g
  first_number g f x = (are.only g f (record { list = x.list; place = 0; has = x.has; at = x.at })).0

  pub can_order : CanOrder L M
  can_order = record {
    sized = are.sized ∙ sym links.links_sized;
    falls = λ g h x. (
        let l = links.sound g h x in
        let lt = numbering.falls l.a l.b g h l.mention l.from l.to in
        elim (same_or_not g h) [ inl e ↦ absurd (links.apart g h x e) | inr ne ↦ omega arith ]);
    known = λ g h x. (let l = links.sound g h x in first_of l.b h l.to);
    one = λ g h f x y. same_item numbers f g h (first_number g f x) (first_number h f y);
  }

  module _ (order : List ℕ) (ordered : IsOrder L M order) (groups : List BindingGroup) (made : AreGroups M R order (length order) groups) where
    -- a member has the number of its group
    numbered : (i a : ℕ) → IsMember groups i a → (k : ℕ) × (slice_get order i ≡ Some k) × (slice_get numbers a ≡ Some k)
    numbered i a x =
        let k = some_at order i (let w = within groups i x.group x.has in let z = made.sized in omega arith) in
        let g = made.each i k.0 x.group k.1 x.has in
        (k.0, k.1, (are.only k.0 a (record { list = g.list; place = x.at; has = g.has; at = rw (← g.same) x.is })).0)

    -- what has the number of a group is a member
    member : (i k a : ℕ) → slice_get order i ≡ Some k → slice_get numbers a ≡ Some k → IsMember groups i a
    member i k a e f =
        let g = some_at groups i (let w = within order i k e in let z = made.sized in omega arith) in
        let o = made.each i k g.0 e g.1 in
        let x = are.member a k (within numbers a k f) f in
        let same : x.list ≡ o.list = same_item M k x.list o.list x.has o.has in
        record { group = g.0; has = g.1; at = x.place; is = rw o.same (rw (← same) x.at) }

    placed : (a k : ℕ) → slice_get numbers a ≡ Some k → StandsIn order k
    placed a k e = let f = first_of a k e in ordered.all k f.0 f.1

    same_number : (i j k : ℕ) → slice_get order i ≡ Some k → slice_get order j ≡ Some k → i ≡ j
    same_number i j k e f = ordered.ordered.once i j k e f

    earlier : (i j : ℕ) → i < j → j < length groups → IsReadyAt m groups i j → IsEarlier groups i j
    earlier i j lt less ready =
        let g = some_at order i (let z = made.sized in omega arith) in
        let h = some_at order j (let z = made.sized in omega arith) in
        let f = ordered.ordered.known i g.0 g.1 in
        let e = ordered.ordered.known j h.0 h.1 in
        let first : f.0 < e.0 = ordered.ordered.earliest i g.0 h.0 f.0 e.0 g.1
        (λ s. let same : s.place ≡ j = same_number s.place j h.0 s.at h.1 in let b = s.before in omega arith)
        (λ k x. links_before i j k h.0 h.1 x ready)
        f.1 e.1 in
        record {
          first = f.0;
          member = member i g.0 f.0 g.1 (first_number g.0 f.0 f.1);
          before = λ b x. (let n = numbered j b x in let same : n.0 ≡ h.0 = same_item order j n.0 h.0 n.1 h.1 in let le = least h.0 e.0 b e.1 (rw same at n.2) in omega arith);
        }
      where
        links_before : (i j k h : ℕ) → slice_get order j ≡ Some h → Mentions L h k → IsReadyAt m groups i j → StandsBefore order i k
        links_before i j k h is x ready =
            let l = links.sound h k x in
            elim (ready.each l.a l.b (member j h l.a is l.from) l.mention) [
              | inl y ↦ absurd (let n = numbered j l.b y in links.apart h k x (same_item order j h n.0 is n.1 ∙ same_item numbers l.b n.0 k n.2 l.to))
              | inr y ↦ (let n = numbered y.0 l.b y.2 in let same : n.0 ≡ k = same_item numbers l.b n.0 k n.2 l.to in record { place = y.0; before = y.1; at = rw (← same) n.1 })
            ]

        least : (k f b : ℕ) → FirstOf M k f → slice_get numbers b ≡ Some k → f ≤ b
        least k f b first e =
            let x = are.member b k (within numbers b k e) e in
            let same : x.list ≡ first.list = same_item M k x.list first.list x.has first.has in
            let at : slice_get first.list.items x.place ≡ Some b = rw (← same) x.at in
            elim (same_or_not x.place 0) [
              | inl z ↦ (let y : b ≡ f = same_item first.list.items 0 b f (rw z at at) first.at in omega arith)
              | inr ne ↦ (let y = are.ascending k 0 x.place f b first.list first.has (let z = ne in omega arith) first.at at in omega arith)
            ]

    pub grouping : IsGrouping m groups
    grouping = record {
      whole = λ a lt. (let k = number_of a lt in let s = placed a k.0 k.1 in (s.place, member s.place k.0 a s.at k.1));
      declared = λ i a x. (let n = numbered i a x in let w = within numbers a n.0 n.2 in let z = numbering.whole in omega arith);
      filled = λ i lt. (let k = some_at order i (let z = made.sized in omega arith) in let f = ordered.ordered.known i k.0 k.1 in (f.0, member i k.0 f.0 k.1 (first_number k.0 f.0 f.1)));
      joined = λ i a b x y. (let n = numbered i a x in let o = numbered i b y in let same : o.0 ≡ n.0 = same_item order i o.0 n.0 o.1 n.1 in numbering.meets a b n.0 n.2 (rw same at o.2));
      apart = λ i j a b x y r s. (
          let n = numbered i a x in
          let o = numbered j b y in
          let one = falls a b n.0 o.0 r n.2 o.2 in
          let two = falls b a o.0 n.0 s o.2 n.2 in
          let same : o.0 ≡ n.0 = omega arith in
          same_number i j n.0 n.1 (rw same at o.1));
      ascending = λ i k l a b g has lt ea eb. (
          let n = some_at order i (let w = within groups i g has in let z = made.sized in omega arith) in
          let o = made.each i n.0 g n.1 has in
          are.ascending n.0 k l a b o.list o.has lt (rw (← o.same) ea) (rw (← o.same) eb));
      recursive = λ i g has. (
          let n = some_at order i (let w = within groups i g has in let z = made.sized in omega arith) in
          let o = made.each i n.0 g n.1 has in
          (itself i n.0 g n.1 o, flagged i n.0 g n.1 o));
      ready = λ i j a b x mention y. (
          let n = numbered i a x in
          let o = numbered j b y in
          elim (same_or_not n.0 o.0) [
            | inl e ↦ (let same = same_number i j o.0 (rw e at n.1) o.1 in omega arith)
            | inr ne ↦ (
                let l = links.linked a b n.0 o.0 mention (inl (mention_from a b mention)) n.2 o.2 ne in
                let s = ordered.ordered.ready i n.0 o.0 n.1 l in
                let same = same_number s.place j o.0 s.at o.1 in
                let lt = s.before in
                omega arith)
          ]);
      earliest = earlier;
    }
      where
        itself : (i k : ℕ) (g : BindingGroup) → slice_get order i ≡ Some k → IsGroupOf M R k g → IsTrue g.recursive → MentionsItself m groups i
        itself i k g e o t =
            let set : slice_get R k ≡ Some true = o.flag ∙ is_set g.recursive t in
            let l = links.loops k set in
            record { a = l.a; b = l.b; from = member i k l.a e l.from; to = member i k l.b e l.to; mention = l.mention }
          where
            is_set : (b : Bool) → IsTrue b → Some b ≡ Some true
            is_set true t = refl
            is_set false t = absurd cc

        flagged : (i k : ℕ) (g : BindingGroup) → slice_get order i ≡ Some k → IsGroupOf M R k g → MentionsItself m groups i → IsTrue g.recursive
        flagged i k g e o x =
            let n = numbered i x.a x.from in
            let p = numbered i x.b x.to in
            let one : n.0 ≡ k = same_item order i n.0 k n.1 e in
            let two : p.0 ≡ k = same_item order i p.0 k p.1 e in
            let set = links.looped x.a x.b k x.mention (inl (mention_from x.a x.b x.mention)) (rw one at n.2) (rw two at p.2) in
            is_true g.recursive (sym o.flag ∙ set)
          where
            is_true : (b : Bool) → Some b ≡ Some true → IsTrue b
            is_true true e = refl
            is_true false e = absurd cc

pub more_groups : (M : List (Vec ℕ Global)) (R : List Bool) (order : List ℕ) (place number : ℕ) (group : BindingGroup) (old new : List BindingGroup) → AreGroups M R order place old → slice_get order place ≡ Some number → IsGroupOf M R number group → new ≡ old ++ group ∷ [] → AreGroups M R order (place + 1) new
more_groups M R order place number group old new are is of e = record {
  sized = ap length e ∙ length-append old (group ∷ []) ∙ (let z = are.sized in omega arith);
  each = λ i k g at has. elim (after_push old group i g (rw e at has)) [
    | inl p ↦ (let same : k ≡ number = same_item order place k number (let z : i ≡ place = p.0 ∙ are.sized in rw z at at) is in rw (same, p.1) of)
    | inr p ↦ are.each i k g at p
  ];
}

pub no_groups : (M : List (Vec ℕ Global)) (R : List Bool) (order : List ℕ) (groups : List BindingGroup) → groups ≡ [] → AreGroups M R order 0 groups
no_groups M R order groups e = rw e (record { sized = refl; each = λ i k g at has. absurd cc })

-- a group in the order is one that has members
pub ordered_within : (L M : List (Vec ℕ Global)) (order : List ℕ) → IsOrder L M order → (i k : ℕ) → slice_get order i ≡ Some k → k < length M
ordered_within L M order o i k e = let f = o.ordered.known i k e in within M k f.1.list f.1.has
