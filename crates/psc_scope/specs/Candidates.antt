-- Candidates of a name: which class counts, and what it says.
use Rattle.std.specs.Prelude.{ℕ, List, [], ◌∷◌}
use Rattle.std.specs.Ordering.{nat_cmp}
use Rattle.std.specs.Cmp.Lexicographic.{slice_cmp}
use Rattle.std.specs.BTreeSet.{insert_key}
use Rattle.psc_scope.specs.declared.scope.Candidates.{Candidates}
use Rattle.psc_scope.specs.declared.scope.Class.{Class}
use Rattle.psc_scope.specs.declared.scope.Class.TheVariants.{Own, Explicit, Open, Prim}
use Rattle.psc_scope.specs.declared.scope.Found.{Found}
use Rattle.psc_scope.specs.declared.scope.Found.TheVariants.{Nothing, One, Several}

-- the modules of each class: own declarations, import lists, open and hiding imports, `Prim`
abbrev pub classes : Candidates → List (List (List ℕ))
classes c = c.own.keys ∷ c.explicit.keys ∷ c.«open».keys ∷ c.prim.keys ∷ []

-- a class with one module more, which stands once in it, ascending by bytes
abbrev pub with_module : List (List ℕ) → List ℕ → List (List ℕ)
with_module modules new = insert_key (slice_cmp nat_cmp) modules new

-- the classes behind a candidate that was added to one of them
abbrev pub added : Class → List ℕ → Candidates → List (List (List ℕ))
added Own new c = with_module c.own.keys new ∷ c.explicit.keys ∷ c.«open».keys ∷ c.prim.keys ∷ []
added Explicit new c = c.own.keys ∷ with_module c.explicit.keys new ∷ c.«open».keys ∷ c.prim.keys ∷ []
added Open new c = c.own.keys ∷ c.explicit.keys ∷ with_module c.«open».keys new ∷ c.prim.keys ∷ []
added Prim new c = c.own.keys ∷ c.explicit.keys ∷ c.«open».keys ∷ with_module c.prim.keys new ∷ []

-- the first class that has a candidate
abbrev pub first_class : List (List (List ℕ)) → List (List ℕ)
first_class [] = []
first_class ([] ∷ later) = first_class later
first_class ((first ∷ more) ∷ later) = first ∷ more

-- none: the name is not known; one: it stands for that module's; several: it is in conflict
abbrev pub verdict : List (List ℕ) → Found
verdict [] = Nothing
verdict (one ∷ []) = One one
verdict (one ∷ other ∷ more) = Several (one ∷ other ∷ more)
