-- Tasks and steps: how steps are put together.
use Rattle.std.proofs.Common.{ℕ, ◌≡◌, ◌≤◌, ◌<◌, List, [], ◌∷◌, ◌++◌, append_assoc, length, Option, Some, slice_get, ap, refl, sym, ◌∙◌, subst, arith}
use Rattle.psc_graph.specs.Tree.{Tree, TJoin}
use Rattle.psc_graph.specs.Model.{Equates, Holds}
use Rattle.psc_graph.specs.General.{IsSolution, IsReady, Agrees}
use Rattle.psc_graph.specs.declared.node.Node.{Node}
use Rattle.psc_graph.specs.declared.node.Former.{Former}
use Rattle.psc_graph.specs.declared.node.Node.TheVariants.{Join}
use Rattle.psc_graph.specs.declared.node.Task.{Task}
use Rattle.psc_graph.specs.declared.node.Task.TheVariants.{Equal, Merge}
use Rattle.psc_rows.proofs.FormLemmas.{join_parts}
use Rattle.psc_rows.specs.Row.{Paired, tasks_of}
use Rattle.psc_rows.specs.Steps.{Steps, AreInside, IsTaskInside}

pub equates-append : (v : ℕ → Tree) (ts us : List Task) → Equates v ts → Equates v us → Equates v (ts ++ us)
equates-append v [] us a b = b
equates-append v (t ∷ ts) us a b = (a.0, equates-append v ts us a.1 b)

pub equates-parts : (v : ℕ → Tree) (ts us : List Task) → Equates v (ts ++ us) → Equates v ts × Equates v us
equates-parts v [] us a = (tt, a)
equates-parts v (t ∷ ts) us a = let r = equates-parts v ts us a.1 in ((a.0, r.0), r.1)

pub inside-append : (n : ℕ) (ts us : List Task) → AreInside n ts → AreInside n us → AreInside n (ts ++ us)
inside-append n [] us a b = b
inside-append n (t ∷ ts) us a b = (a.0, inside-append n ts us a.1 b)

pub inside-parts : (n : ℕ) (ts us : List Task) → AreInside n (ts ++ us) → AreInside n ts × AreInside n us
inside-parts n [] us a = (tt, a)
inside-parts n (t ∷ ts) us a = let r = inside-parts n ts us a.1 in ((a.0, r.0), r.1)

task-more : (n m : ℕ) (t : Task) → n ≤ m → IsTaskInside n t → IsTaskInside m t
task-more n m (Equal a b) le h = (let p = h.0 in omega arith, let p = h.1 in omega arith)
task-more n m (Merge a b) le h = tt

pub inside-more : (n m : ℕ) (ts : List Task) → n ≤ m → AreInside n ts → AreInside m ts
inside-more n m [] le h = tt
inside-more n m (t ∷ ts) le h = (task-more n m t le h.0, inside-more n m ts le h.1)

holds-agree : (v w : ℕ → Tree) (n : ℕ) (t : Task) → Agrees n v w → IsTaskInside n t → Holds v t → Holds w t
holds-agree v w n (Equal a b) g i h = g.below a i.0 ∙ h ∙ sym (g.below b i.1)
holds-agree v w n (Merge a b) g i h = tt

pub equates-agree : (v w : ℕ → Tree) (n : ℕ) (ts : List Task) → Agrees n v w → AreInside n ts → Equates v ts → Equates w ts
equates-agree v w n [] g i h = tt
equates-agree v w n (t ∷ ts) g i h = (holds-agree v w n t g i.0 h.0, equates-agree v w n ts g i.1 h.1)

pub paired-tasks : (v : ℕ → Tree) (ps : List (ℕ × ℕ)) → Paired v ps → Equates v (tasks_of ps)
paired-tasks v [] h = tt
paired-tasks v (p ∷ ps) h = (h.0, paired-tasks v ps h.1)

pub tasks-paired : (v : ℕ → Tree) (ps : List (ℕ × ℕ)) → Equates v (tasks_of ps) → Paired v ps
tasks-paired v [] h = tt
tasks-paired v (p ∷ ps) h = (h.0, tasks-paired v ps h.1)

pub tasks_of-append : (ps qs : List (ℕ × ℕ)) → tasks_of (ps ++ qs) ≡ tasks_of ps ++ tasks_of qs
tasks_of-append [] qs = refl
tasks_of-append (p ∷ ps) qs = ap (λ l. Equal p.0 p.1 ∷ l) (tasks_of-append ps qs)

pub agrees_self : (n : ℕ) (v : ℕ → Tree) → Agrees n v v
agrees_self n v = record { below = λ k h. refl }

pub agrees_more : (n m : ℕ) (u v w : ℕ → Tree) → n ≤ m → Agrees n u v → Agrees m v w → Agrees n u w
agrees_more n m u v w le g h = record { below = λ k lt. h.below k (omega arith) ∙ g.below k lt }

-- the property may be replaced by one that the solutions have alike
pub steps_when : (P Q : (ℕ → Tree) → Type 0) (old new : List Node) (list : List (Option ℕ)) (work more : List Task)
    → ((v : ℕ → Tree) → IsSolution v old → P v → Q v) → ((v : ℕ → Tree) → IsSolution v old → Q v → P v)
    → Steps P old new list work more → Steps Q old new list work more
steps_when P Q old new list work more to from s = record {
  longer = s.longer;
  sound = λ v sol e. let r = s.sound v sol e in (r.0, r.1, to v r.0 r.2);
  on = λ v sol e q. s.on v sol e (from v sol q);
  ready = s.ready;
  inside = s.inside;
}

-- equations in place of the property
pub steps_ask : (P : (ℕ → Tree) → Type 0) (nodes : List Node) (list : List (Option ℕ)) (work ts : List Task)
    → IsReady nodes list → AreInside (length nodes) work → AreInside (length nodes) ts
    → ((v : ℕ → Tree) → IsSolution v nodes → Equates v ts → P v) → ((v : ℕ → Tree) → IsSolution v nodes → P v → Equates v ts)
    → Steps P nodes nodes list work (work ++ ts)
steps_ask P nodes list work ts ready a b to from = record {
  longer = omega arith;
  sound = λ v sol e. let r = equates-parts v work ts e in (sol, r.0, to v sol r.1);
  on = λ v sol e p. (v, agrees_self (length nodes) v, sol, equates-append v work ts e (from v sol p));
  ready = ready;
  inside = inside-append (length nodes) work ts a b;
}

-- nothing is left to do
pub steps_none : (P : (ℕ → Tree) → Type 0) (nodes : List Node) (list : List (Option ℕ)) (work : List Task)
    → IsReady nodes list → AreInside (length nodes) work → ((v : ℕ → Tree) → IsSolution v nodes → P v) → Steps P nodes nodes list work work
steps_none P nodes list work ready a always = record {
  longer = omega arith;
  sound = λ v sol e. (sol, e, always v sol);
  on = λ v sol e p. (v, agrees_self (length nodes) v, sol, e);
  ready = ready;
  inside = a;
}

-- nodes were written, and none added
pub steps_write : (P : (ℕ → Tree) → Type 0) (old new : List Node) (list : List (Option ℕ)) (work : List Task)
    → length new ≡ length old
    → ((v : ℕ → Tree) → IsSolution v new → IsSolution v old × P v) → ((v : ℕ → Tree) → IsSolution v old → P v → IsSolution v new)
    → IsReady new list → AreInside (length old) work → Steps P old new list work work
steps_write P old new list work long sound complete ready a = record {
  longer = omega arith;
  sound = λ v sol e. let r = sound v sol in (r.0, e, r.1);
  on = λ v sol e p. (v, agrees_self (length old) v, complete v sol p, e);
  ready = ready;
  inside = inside-more (length old) (length new) work (omega arith) a;
}

-- nodes were added, and equations that speak of them too
pub steps_grow : (P : (ℕ → Tree) → Type 0) (old new : List Node) (list : List (Option ℕ)) (work ts : List Task)
    → length old ≤ length new → ((v : ℕ → Tree) → IsSolution v new → IsSolution v old)
    → IsReady new list → AreInside (length old) work → AreInside (length new) ts
    → ((v : ℕ → Tree) → IsSolution v new → Equates v ts → P v)
    → ((v : ℕ → Tree) → IsSolution v old → P v → (w : ℕ → Tree) × Agrees (length old) v w × IsSolution w new × Equates w ts)
    → Steps P old new list work (work ++ ts)
steps_grow P old new list work ts longer back ready a b to from = record {
  longer = longer;
  sound = λ v sol e. let r = equates-parts v work ts e in (back v sol, r.0, to v sol r.1);
  on = λ v sol e p. let w = from v sol p in (w.0, w.1, w.2, equates-append w.0 work ts (equates-agree v w.0 (length old) work w.1 a e) w.3);
  ready = ready;
  inside = inside-append (length new) work ts (inside-more (length old) (length new) work longer a) b;
}

-- a property that is equations and another property
pub steps_split : (P Q : (ℕ → Tree) → Type 0) (old new : List Node) (list : List (Option ℕ)) (work ts more : List Task)
    → ((v : ℕ → Tree) → IsSolution v old → Equates v ts → Q v → P v) → ((v : ℕ → Tree) → IsSolution v old → P v → Equates v ts × Q v)
    → Steps Q old new list (work ++ ts) more → Steps P old new list work more
steps_split P Q old new list work ts more to from s = record {
  longer = s.longer;
  sound = λ v sol e. let r = s.sound v sol e in let both = equates-parts v work ts r.1 in (r.0, both.0, to v r.0 both.1 r.2);
  on = λ v sol e p. let both = from v sol p in s.on v sol (equates-append v work ts e both.0) both.1;
  ready = s.ready;
  inside = s.inside;
}

-- steps and then one of their tasks
pub steps_chain : (P : (ℕ → Tree) → Type 0) (old mid new : List Node) (before list : List (Option ℕ)) (start tasks work more : List Task) (task : Task)
    → tasks ≡ work ++ task ∷ []
    → Steps P old mid before start tasks → Steps (λ v. Holds v task) mid new list work more → Steps P old new list start more
steps_chain P old mid new before list start tasks work more task is s t = record {
  longer = let a = s.longer in let b = t.longer in omega arith;
  sound = λ v sol e.
      let r = t.sound v sol e in
      s.sound v r.0 (subst (Equates v) (sym is) (equates-append v work (task ∷ []) r.1 (r.2, tt)));
  on = λ v sol e p.
      let w = s.on v sol e p in
      let both = equates-parts w.0 work (task ∷ []) (subst (Equates w.0) is w.3) in
      let u = t.on w.0 w.2 both.0 both.1.0 in
      (u.0, agrees_more (length old) (length mid) v w.0 u.0 s.longer w.1 u.1, u.2, u.3);
  ready = t.ready;
  inside = t.inside;
}

-- a step after steps, which leaves the tasks as they are
pub steps_after : (P : (ℕ → Tree) → Type 0) (old mid new : List Node) (before list : List (Option ℕ)) (start tasks : List Task)
    → Steps P old mid before start tasks → Steps (λ v. Unit {0}) mid new list tasks tasks → Steps P old new list start tasks
steps_after P old mid new before list start tasks s t = record {
  longer = let a = s.longer in let b = t.longer in omega arith;
  sound = λ v sol e. let r = t.sound v sol e in s.sound v r.0 r.1;
  on = λ v sol e p.
      let w = s.on v sol e p in
      let u = t.on w.0 w.2 w.3 tt in
      (u.0, agrees_more (length old) (length mid) v w.0 u.0 s.longer w.1 u.1, u.2, u.3);
  ready = t.ready;
  inside = t.inside;
}

-- what is left of the tasks once the last was taken
pub taken_inside : (n : ℕ) (tasks work : List Task) (task : Task) → tasks ≡ work ++ task ∷ [] → AreInside n tasks → AreInside n work × IsTaskInside n task
taken_inside n tasks work task is a = let r = inside-parts n work (task ∷ []) (subst (AreInside n) is a) in (r.0, r.1.0)

-- a solution up to now has what the tasks ask for
pub steps_taken : (P : (ℕ → Tree) → Type 0) (old mid : List Node) (list : List (Option ℕ)) (tasks work : List Task) (task : Task)
    → tasks ≡ work ++ task ∷ [] → Steps P old mid list [] tasks → (v : ℕ → Tree) → IsSolution v old → P v → (w : ℕ → Tree) × IsSolution w mid × Holds w task
steps_taken P old mid list tasks work task is s v sol p =
    let w = s.on v sol tt p in
    (w.0, w.2, (equates-parts w.0 work (task ∷ []) (subst (Equates w.0) is w.3)).1.0)

pub steps_start : (nodes : List Node) (list : List (Option ℕ)) (a b : ℕ) (tasks : List Task)
    → tasks ≡ [] ++ Equal a b ∷ [] → IsReady nodes list → (a < length nodes) × (b < length nodes)
    → Steps (λ v. v a ≡ v b) nodes nodes list [] tasks
steps_start nodes list a b tasks is ready inside =
    subst (Steps (λ v. v a ≡ v b) nodes nodes list []) (sym is)
    (steps_ask (λ v. v a ≡ v b) nodes list [] (Equal a b ∷ []) ready tt (inside, tt) (λ v sol e. e.0) (λ v sol e. (e, tt)))

-- two joins of one former: their parts are to be equal
pub steps_joins : (nodes : List Node) (list : List (Option ℕ)) (left right : ℕ) (f g : Former) (a b c d : ℕ) (w0 w1 w2 : List Task)
    → slice_get nodes left ≡ Some (Join f a b) → slice_get nodes right ≡ Some (Join g c d) → f ≡ g → {w3 : List Task}
    → w1 ≡ w0 ++ Merge left right ∷ [] → w2 ≡ w1 ++ Equal b d ∷ [] → w3 ≡ w2 ++ Equal a c ∷ []
    → (b < length nodes) × (d < length nodes) → (a < length nodes) × (c < length nodes)
    → IsReady nodes list → AreInside (length nodes) w0 → Steps (λ v. v left ≡ v right) nodes nodes list w0 w3
steps_joins nodes list left right f g a b c d w0 w1 w2 at_left at_right same {w3 = w3} one two three inside_bd inside_ac ready inside =
    let is : w3 ≡ w0 ++ (Merge left right ∷ Equal b d ∷ Equal a c ∷ []) =
    three ∙ ap (λ l. l ++ Equal a c ∷ []) (two ∙ ap (λ l. l ++ Equal b d ∷ []) one)
    ∙ ap (λ l. l ++ Equal a c ∷ []) (append_assoc w0 (Merge left right ∷ []) (Equal b d ∷ []))
    ∙ append_assoc w0 (Merge left right ∷ Equal b d ∷ []) (Equal a c ∷ []) in
    subst (Steps (λ v. v left ≡ v right) nodes nodes list w0) (sym is)
    (steps_ask (λ v. v left ≡ v right) nodes list w0 (Merge left right ∷ Equal b d ∷ Equal a c ∷ []) ready inside (tt, (inside_bd, (inside_ac, tt)))
    (λ v sol e.
    sol.solves.each left (Join f a b) at_left
    ∙ ap (λ x. TJoin f x (v b)) e.1.1.0
    ∙ ap (TJoin f (v c)) e.1.0
    ∙ ap (λ h. TJoin h (v c) (v d)) same
    ∙ sym (sol.solves.each right (Join g c d) at_right))
    (λ v sol e.
    let parts = join_parts f g (v a) (v b) (v c) (v d) (sym (sol.solves.each left (Join f a b) at_left) ∙ e ∙ sol.solves.each right (Join g c d) at_right) in
    (tt, (parts.2, (parts.1, tt)))))
