-- A binding, as one statement for each of its clauses.
use Rattle.std.proofs.Common.{◌≡◌, ℕ, List, Option, Some, slice_get, slice_set, length, length-set, ◌<◌, ap, sym, ◌∙◌, inl, inr}
use Rattle.std.specs.Coded.{Coded-set, coded_ℕ}
use Rattle.std.proofs.Math.Logic.{∥∥₁_elim}
use Rattle.std.proofs.lemmas.Option.{slice_get_within}
use Rattle.psc_graph.specs.Tree.{Tree, Lacks, subst}
use Rattle.psc_graph.specs.Model.{Solves, HasHoles}
use Rattle.psc_graph.specs.General.{IsReady, IsSolution, kind_of}
use Rattle.psc_graph.specs.declared.node.Node.{Node}
use Rattle.psc_graph.specs.declared.node.Node.TheVariants.{Free, Link}
use Rattle.psc_graph.specs.Settled.{IsApart}
use Rattle.psc_graph.proofs.Writes.{before_write}
use Rattle.psc_graph.proofs.SettledLemmas.{apart_lacks}
use Rattle.psc_graph.proofs.Trees.{kind-subst}
use Rattle.psc_graph.proofs.BindLemmas.{bind_sound, bind_complete, bind_general, bind_suits, suits_fewer, kind_with, replace}

-- an unknown that is no part of the node's value
pub part_lacks : (root : ℕ) (nodes : List Node) (at : ℕ) → ∥ IsApart root nodes at ∥₁ → (m : ℕ → Tree) → Solves m nodes → HasHoles m nodes → Lacks root (m at)
part_lacks root nodes at apart m sol holes = ∥∥₁_elim apart (Coded-set coded_ℕ _ _) (λ a. apart_lacks root nodes at a m sol holes)

module _ (nodes : List Node) (kinds : List (Option ℕ)) (u s t : ℕ)
    (free : slice_get nodes u ≡ Some (Free s)) (within : t < length nodes) where
  pub solution_after : (v : ℕ → Tree) → IsSolution v nodes → v u ≡ v t → IsSolution v (slice_set nodes u (Link t))
  solution_after v sol same = record {
    solves = bind_complete v nodes u t sol.solves same;
    suits = suits_fewer v nodes u t sol.suits;
  }

  pub solution_before :
      slice_get kinds t ≡ Some (Some s) → ((m : ℕ → Tree) → Solves m nodes → HasHoles m nodes → Lacks u (m t)) →
      IsReady nodes kinds → (v : ℕ → Tree) → IsSolution v (slice_set nodes u (Link t)) → IsSolution v nodes × (v u ≡ v t)
  solution_before kind apart ready v sol =
      let g = ready.most in
      let m = ready.value in
      let lacks = apart m g.solves g.holes in
      let two = bind_sound v nodes u s t free sol.solves in (
        record {
          solves = two.0;
          suits = record {
            kind = λ k x e. elim (before_write nodes u (Link t) k (Free x) e) [
              | inl p ↦ (let w : Some (Free x) ≡ Some (Free s) = sym e ∙ ap (slice_get nodes) p ∙ free in
                  let q : x ≡ s = cc in
                  ap (λ j. kind_of (v j)) p ∙ bind_suits m nodes u s t free lacks within (ready.kinds t (Some s) kind) g v sol ∙ ap (λ (y : ℕ). Some y) (sym q))
              | inr h ↦ sol.suits.kind k x h
            ];
          };
        },
        two.1,
      )

  pub ready_after :
      slice_get kinds t ≡ Some (Some s) → ((m : ℕ → Tree) → Solves m nodes → HasHoles m nodes → Lacks u (m t)) →
      IsReady nodes kinds → IsReady (slice_set nodes u (Link t)) kinds
  ready_after kind apart ready =
      let g = ready.most in
      let m = ready.value in
      let lacks = apart m g.solves g.holes in
      record {
        value = λ k. subst (replace u (m t) m) (m k);
        most = bind_general m nodes u s t free lacks within (ready.kinds t (Some s) kind) g;
        long = ready.long ∙ sym (length-set nodes u (Link t));
        kinds = λ k x e.
            let below : k < length kinds = slice_get_within kinds k x e in
            kind_with m nodes u s t free lacks within (ready.kinds t (Some s) kind) g k (rw ready.long at below) ∙ ready.kinds k x e;
      }

  -- the kinds of two nodes with one value are one
  pub kind_clash : (k : Option ℕ) → slice_get kinds t ≡ Some k → (k ≡ Some s → ⊥) → IsReady nodes kinds → (v : ℕ → Tree) → IsSolution v nodes → v u ≡ v t → ⊥
  kind_clash k at_t ne ready v sol same =
      let g = ready.most in
      let one : kind_of (v t) ≡ k = ap kind_of (g.general v sol.solves t) ∙ kind-subst v nodes (ready.value t) sol.suits (g.own t within) ∙ ready.kinds t k at_t in
      ne (sym one ∙ ap kind_of (sym same) ∙ sol.suits.kind u s free)
