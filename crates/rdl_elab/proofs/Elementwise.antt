-- The elements of an array, one behind the other.
use Rattle.std.proofs.Common.{◌≡◌, ◌∙◌, ℕ, suc, ◌+◌, ◌<◌, ◌≤◌, List, [], ◌∷◌, ◌++◌, length, map, min, Option, option_and_then, refl, sym, ap, subst, arith, append_assoc, append-nil}
use Rattle.std.specs.List.{AllByRecursion}
use Rattle.std.proofs.Math.Nat.{min-eq_left}
use Rattle.std.proofs.lemmas.List.{map-append}
use Rattle.rdl_tree.specs.declared.node.Node.{Node}
use Rattle.rdl_values.specs.Elaborated.{AreTreesOf, more, none, number_named}
use Rattle.rdl_values.specs.Instances.{given_by, most_nodes, rows, upto}
use Rattle.rdl_values.specs.Rows.{product, row}
use Rattle.rdl_values.specs.Uses.{Seen}
use Rattle.rdl_uses.specs.Parts.{StandsAt}
use Rattle.rdl_uses.specs.declared.standing.Standing.{Standing}
use Rattle.rdl_bodies.proofs.Growing.{grows_on, grows_same}
use Rattle.rdl_children.specs.Children.{IsChild}
use Rattle.rdl_children.specs.declared.child.Child.{Child}
use Rattle.rdl_children.proofs.Itemized.{child_stays}
use Rattle.rdl_walk.specs.Walked.{CanVisitChild, Fits, element_of}
use Rattle.rdl_walk.proofs.Elements.{given_elements}
use Rattle.rdl_walk.proofs.Loops.{element}
use Rattle.rdl_elab.specs.Grown.{AddsNodes, AreGrowing, IsGrown, IsNodeFor, IsNamedIn, IsWhole}
use Rattle.rdl_elab.specs.declared.growing.Growing.{Growing}
use Rattle.rdl_elab.proofs.Appending.{trees_append, trees_as, upto_each, upto_length}
use Rattle.rdl_elab.proofs.Primaries.{number_stays}

pub grown_none : (g : Growing) → AreGrowing g → IsGrown g g
grown_none g inv = record { growing = inv; grown = grows_same g.walk.bodies g.walk.bodies refl refl refl ([], sym (append-nil g.walk.bodies.sites.items)) }

pub grown_on : (g v u : Growing) → IsGrown g v → IsGrown v u → IsGrown g u
grown_on g v u h k = record { growing = k.growing; grown = grows_on g.walk.bodies v.walk.bodies u.walk.bodies h.grown k.grown }

-- What the loop over the elements keeps.
pub record GrownElements (g v : Growing) (old new : List Node) (at : Standing) (levels : ℕ) (x : Child) (k : ℕ) : Type 0 where
  pub grown : IsGrown g v
  pub done : (s : Seen) (h : IsChild g.walk.bodies x s) → StandsAt at s.parent → Fits s.parent levels → AllByRecursion (IsWhole levels) (map (element g.walk.bodies x s h) (upto (product x.dims.now)))
      → AddsNodes g.count old new s.use_.alias (map (element g.walk.bodies x s h) (upto k)) v.count

pub elements_none : (g : Growing) (old : List Node) (at : Standing) (levels : ℕ) (x : Child) → AreGrowing g → GrownElements g g old old at levels x 0
elements_none g old at levels x inv = record { grown = grown_none g inv; done = λ s h a f w named. ([], sym (append-nil old), λ later. none) }

pub can_element : (g v : Growing) (old new : List Node) (at : Standing) (levels : ℕ) (x : Child) (k : ℕ) → AreGrowing g → GrownElements g v old new at levels x k → CanVisitChild g.walk.bodies x at levels → CanVisitChild v.walk.bodies x at levels
can_element g v old new at levels x k inv h can = record { use_ = can.use_; child = child_stays g.walk.bodies v.walk.bodies g.walk.failures inv.walking.kept h.grown.grown x can.use_ can.child; stands = can.stands; fits = can.fits }

module _ (g v u : Growing) (old new : List Node) (at : Standing) (levels : ℕ) (x : Child) (k : ℕ) (alias : Option ℕ) (r : Node) (inv : AreGrowing g) (l : k < product x.dims.now) (number : alias ≡ option_and_then (number_named old) x.alias) (h : GrownElements g v old new at levels x k) (step : IsGrown v u)
    (made : (s : Seen) (c : IsChild v.walk.bodies x s) → StandsAt at s.parent → Fits s.parent levels → IsWhole levels (element_of s c.closure c.bound (row x.dims.now k)) → IsNodeFor v.count alias r (element_of s c.closure c.bound (row x.dims.now k)) u.count) where
  one_more : (s : Seen) (c : IsChild g.walk.bodies x s) → StandsAt at s.parent → Fits s.parent levels → AllByRecursion (IsWhole levels) (map (element g.walk.bodies x s c) (upto (product x.dims.now))) → IsNamedIn old s.use_.alias
      → AddsNodes g.count old new s.use_.alias (map (element g.walk.bodies x s c) (upto k)) v.count → (added : List Node) × (new ++ (r ∷ []) ≡ old ++ added) × ((later : List Node) → AreTreesOf ((new ++ (r ∷ [])) ++ later) g.count added (map (element g.walk.bodies x s c) (upto (suc k))) u.count)
  one_more s c a f w named prev =
      let was = prev named in
      let here = ap (λ ns. ns ++ (r ∷ [])) was.1 ∙ append_assoc old was.0 (r ∷ []) in
      let whole = upto_each (IsWhole levels) (element g.walk.bodies x s c) (product x.dims.now) k l w in
      let node = made s (child_stays g.walk.bodies v.walk.bodies g.walk.failures inv.walking.kept h.grown.grown x s c) a f whole in (
        was.0 ++ (r ∷ []),
        here,
        λ later.
            (let all : (new ++ (r ∷ [])) ++ later ≡ old ++ ((was.0 ++ (r ∷ [])) ++ later) = ap (λ ns. ns ++ later) here ∙ append_assoc old (was.0 ++ (r ∷ [])) later in
            let own : alias ≡ option_and_then (number_named ((new ++ (r ∷ [])) ++ later)) s.use_.alias =
            number ∙ ap (option_and_then (number_named old)) (sym c.alias_is) ∙ number_stays old ((was.0 ++ (r ∷ [])) ++ later) s.use_.alias named ∙ ap (λ ns. option_and_then (number_named ns) s.use_.alias) (sym all) in
            trees_as _ _ _ _ _ _ g.count u.count refl refl (sym (map-append (element g.walk.bodies x s c) (upto k) (k ∷ [])))
            (trees_append (trees_as _ _ _ _ _ _ g.count v.count (sym (append_assoc new (r ∷ []) later)) refl refl (was.2 ((r ∷ []) ++ later))) (more (node ((new ++ (r ∷ [])) ++ later) own) none))),
      )

  pub elements_more : (ns : List Node) → ns ≡ new ++ (r ∷ []) → GrownElements g u old ns at levels x (k + 1)
  elements_more ns e =
      let next : suc k ≡ k + 1 = omega arith in
      subst (λ m. GrownElements g u old m at levels x (k + 1)) (sym e) (subst (GrownElements g u old (new ++ (r ∷ [])) at levels x) next (record {
        grown = grown_on g v u h.grown step;
        done = λ s c a f w named. one_more s c a f w named (h.done s c a f w);
      }))

pub elements_end : (g v : Growing) (old new : List Node) (at : Standing) (levels : ℕ) (x : Child) (k : ℕ) → rows x.dims.now ≡ map (row x.dims.now) (upto (product x.dims.now)) → GrownElements g v old new at levels x k → k ≡ min (product x.dims.now) most_nodes
    → (s : Seen) → IsChild g.walk.bodies x s → StandsAt at s.parent → Fits s.parent levels → length (given_by s) ≤ most_nodes → AllByRecursion (IsWhole levels) (given_by s) → AddsNodes g.count old new s.use_.alias (given_by s) v.count
elements_end g v old new at levels x k by_number h last s c a f few w =
    let all = given_elements s c.closure c.bound x.dims.now c.clean c.closure_is c.bound_is c.dims_are by_number in
    let size = ap length all ∙ upto_length (element g.walk.bodies x s c) (product x.dims.now) in
    let low : product x.dims.now ≤ most_nodes = omega (arith, few, size) in
    let end : k ≡ product x.dims.now = last ∙ min-eq_left low in
    subst (λ ns. AddsNodes g.count old new s.use_.alias ns v.count) (sym all) (subst (λ n. AddsNodes g.count old new s.use_.alias (map (element g.walk.bodies x s c) (upto n)) v.count) end (h.done s c a f (subst (AllByRecursion (IsWhole levels)) all w)))
