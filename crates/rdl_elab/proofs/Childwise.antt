-- The uses of a body, one behind the other.
use Rattle.std.proofs.Common.{◌≡◌, ◌∙◌, ℕ, ◌+◌, ◌<◌, ◌≤◌, List, [], ◌∷◌, ◌++◌, length, get_or, drop, flat_map, refl, sym, ap, subst, append_assoc, append-nil}
use Rattle.std.specs.List.{AllByRecursion}
use Rattle.std.proofs.lemmas.Grind.{flat_map-append}
use Rattle.std.proofs.lemmas.List.{at_drop_all, at_drop_more}
use Rattle.plain_lemmas.proofs.Lists.{each-left, each-right}
use Rattle.rdl_tree.specs.declared.node.Node.{Node}
use Rattle.rdl_values.specs.Bodies.{Body}
use Rattle.rdl_values.specs.Elaborated.{AreTreesOf, none}
use Rattle.rdl_values.specs.Instances.{given_by, most_nodes}
use Rattle.rdl_values.specs.NoNode.{no_node}
use Rattle.rdl_values.specs.Uses.{Seen, parent_of, seen}
use Rattle.rdl_uses.specs.Parts.{StandsAt}
use Rattle.rdl_uses.specs.declared.standing.Standing.{Standing}
use Rattle.rdl_children.specs.Children.{AreChildren, IsChild}
use Rattle.rdl_children.specs.declared.child.Child.{Child}
use Rattle.rdl_children.proofs.Itemized.{children_stay}
use Rattle.rdl_walk.specs.Walked.{CanVisitChild, Fits, StandIn}
use Rattle.rdl_walk.proofs.Asking.{seen_stand}
use Rattle.rdl_walk.proofs.Loops.{IsNextUse, next-use, no-more, stand-right}
use Rattle.rdl_elab.specs.Grown.{AddsNodes, AreAllWhole, AreGrowing, CanGrowAll, IsGrown, IsWhole}
use Rattle.rdl_elab.specs.declared.growing.Growing.{Growing}
use Rattle.rdl_elab.proofs.Appending.{trees_append, trees_as, whole_part}
use Rattle.rdl_elab.proofs.Elementwise.{grown_none, grown_on}
use Rattle.rdl_elab.proofs.Primaries.{named_in}

-- The nodes of some uses are there, and these are left.
pub record AreGrown (g v : Growing) (levels : ℕ) (ys : List Child) (ss : List Seen) (rs : List Node) : Type 0 where
  pub done : List Seen
  pub rest : List Seen
  pub split : ss ≡ done ++ rest
  pub children : AreChildren v.walk.bodies ys rest
  pub trees : AreAllWhole levels ss → (later : List Node) → AreTreesOf (rs ++ later) g.count rs (flat_map given_by done) v.count

-- What the loop over the uses keeps.
pub record GrownChildren (g v : Growing) (at : Standing) (levels : ℕ) (xs : List Child) (k : ℕ) (rs : List Node) : Type 0 where
  pub grown : IsGrown g v
  pub done : (above : List Body) (b : Body) → AreChildren g.walk.bodies xs (seen above b) → StandsAt at (parent_of b) → Fits (parent_of b) levels → AreGrown g v levels (drop k xs) (seen above b) rs

pub children_none : (g : Growing) (at : Standing) (levels : ℕ) (xs : List Child) (rs : List Node) → AreGrowing g → rs ≡ [] → GrownChildren g g at levels xs 0 rs
children_none g at levels xs rs inv e = subst (GrownChildren g g at levels xs 0) (sym e) (record {
  grown = grown_none g inv;
  done = λ above b h a f. record { done = []; rest = seen above b; split = refl; children = h; trees = λ w later. none };
})

module _ (g v : Growing) (at : Standing) (levels : ℕ) (xs : List Child) (k : ℕ) (d : Child) (rs : List Node) (l : k < length xs) (h : GrownChildren g v at levels xs k rs) where
  abbrev x : Child
  x = get_or xs k d

  abbrev later_ones : List Child
  later_ones = drop (k + 1) xs

  here : (above : List Body) (b : Body) → AreChildren g.walk.bodies xs (seen above b) → StandsAt at (parent_of b) → Fits (parent_of b) levels → AreGrown g v levels (x ∷ later_ones) (seen above b) rs
  here above b c a f = subst (λ ys. AreGrown g v levels ys (seen above b) rs) (at_drop_more (λ ys. ys) xs k d l) (h.done above b c a f)

  module _ (above : List Body) (b : Body) (c : AreChildren g.walk.bodies xs (seen above b)) (a : StandsAt at (parent_of b)) (f : Fits (parent_of b) levels) where
    now : AreGrown g v levels (x ∷ later_ones) (seen above b) rs
    now = here above b c a f

    next : IsNextUse v.walk.bodies x later_ones now.rest
    next = next-use v.walk.bodies (x ∷ later_ones) now.rest x later_ones now.children refl

    whole-split : seen above b ≡ (now.done ++ next.failed) ++ (next.use_ ∷ next.rest)
    whole-split = now.split ∙ ap (λ ss. now.done ++ ss) next.split ∙ sym (append_assoc now.done next.failed (next.use_ ∷ next.rest))

    next-stands : next.use_.parent ≡ parent_of b
    next-stands = (stand-right (parent_of b) (now.done ++ next.failed) (next.use_ ∷ next.rest) (subst (StandIn (parent_of b)) whole-split (seen_stand above b))).0

    pub can_visit : CanVisitChild v.walk.bodies x at levels
    can_visit = record { use_ = next.use_; child = next.child; stands = subst (StandsAt at) (sym next-stands) a; fits = subst (λ q. Fits q levels) (sym next-stands) f }

    module _ (u : Growing) (ns : List Node) (step : IsGrown v u) (adds : (s : Seen) → IsChild v.walk.bodies x s → StandsAt at s.parent → Fits s.parent levels → length (given_by s) ≤ most_nodes → AllByRecursion (IsWhole levels) (given_by s) → AddsNodes v.count rs ns s.use_.alias (given_by s) u.count) where
      done-nodes : flat_map given_by ((now.done ++ next.failed) ++ (next.use_ ∷ [])) ≡ flat_map given_by now.done ++ given_by next.use_
      done-nodes =
          flat_map-append given_by (now.done ++ next.failed) (next.use_ ∷ []) ∙ ap (λ ms. ms ++ (given_by next.use_ ++ [])) (flat_map-append given_by now.done next.failed ∙ ap (λ ms. flat_map given_by now.done ++ ms) next.no_nodes ∙ append-nil (flat_map given_by now.done))
          ∙ ap (λ ms. flat_map given_by now.done ++ ms) (append-nil (given_by next.use_))

      grown-trees : AreAllWhole levels (seen above b) → (later : List Node) → AreTreesOf (ns ++ later) g.count ns (flat_map given_by ((now.done ++ next.failed) ++ (next.use_ ∷ []))) u.count
      grown-trees w later =
          let part = whole_part levels (now.done ++ next.failed) next.use_ next.rest (subst (AreAllWhole levels) whole-split w) in
          let clean = subst (AllByRecursion (λ s. no_node s ≡ [])) whole-split w.0 in
          let named = named_in above b now.done next.failed next.use_ next.rest whole-split next.no_nodes (each-left _ (now.done ++ next.failed) (next.use_ ∷ next.rest) clean) (each-right _ (now.done ++ next.failed) (next.use_ ∷ next.rest) clean).0 (now.trees w []) in
          let more = adds next.use_ next.child (subst (StandsAt at) (sym next-stands) a) (subst (λ q. Fits q levels) (sym next-stands) f) part.0 part.1 named in
          let beside : rs ++ (more.0 ++ later) ≡ ns ++ later = sym (append_assoc rs more.0 later) ∙ ap (λ ms. ms ++ later) (sym more.1) in
          trees_as _ _ _ _ _ _ g.count u.count refl (sym more.1) (sym done-nodes) (trees_append (trees_as _ _ _ _ _ _ g.count v.count beside refl refl (now.trees w (more.0 ++ later))) (more.2 later))

      pub one_grown : AreGrowing v → AreGrown g u levels later_ones (seen above b) ns
      one_grown inv = record {
        done = (now.done ++ next.failed) ++ (next.use_ ∷ []);
        rest = next.rest;
        split = whole-split ∙ sym (append_assoc (now.done ++ next.failed) (next.use_ ∷ []) next.rest);
        children = children_stay v.walk.bodies u.walk.bodies v.walk.failures inv.walking.kept step.grown later_ones next.rest next.children;
        trees = grown-trees;
      }

  pub can_child : CanGrowAll g.walk.bodies xs at levels → CanVisitChild v.walk.bodies x at levels
  can_child can = can_visit can.above can.text can.children_are can.stands can.fits

  pub children_more : (u : Growing) (ns : List Node) → IsGrown v u → ((s : Seen) → IsChild v.walk.bodies x s → StandsAt at s.parent → Fits s.parent levels → length (given_by s) ≤ most_nodes → AllByRecursion (IsWhole levels) (given_by s) → AddsNodes v.count rs ns s.use_.alias (given_by s) u.count)
      → GrownChildren g u at levels xs (k + 1) ns
  children_more u ns step adds = record {
    grown = grown_on g v u h.grown step;
    done = λ above b c a f. one_grown above b c a f u ns step adds h.grown.growing;
  }

pub children_end : (g v : Growing) (at : Standing) (levels : ℕ) (xs : List Child) (k : ℕ) (rs out : List Node) → length xs ≤ k → out ≡ rs → GrownChildren g v at levels xs k rs
    → (above : List Body) (b : Body) → AreChildren g.walk.bodies xs (seen above b) → StandsAt at (parent_of b) → Fits (parent_of b) levels → AreAllWhole levels (seen above b) → AreTreesOf out g.count out (flat_map given_by (seen above b)) v.count
children_end g v at levels xs k rs out l e h above b c a f w =
    let last = subst (λ ys. AreGrown g v levels ys (seen above b) rs) (at_drop_all (λ ys. ys) xs k l) (h.done above b c a f) in
    let nothing = no-more v.walk.bodies [] last.rest last.children refl in
    let nodes : flat_map given_by last.done ≡ flat_map given_by (seen above b) =
    sym (append-nil (flat_map given_by last.done)) ∙ ap (λ ms. flat_map given_by last.done ++ ms) (sym nothing) ∙ sym (flat_map-append given_by last.done last.rest) ∙ ap (flat_map given_by) (sym last.split) in
    trees_as _ _ _ _ _ _ g.count v.count (append-nil rs ∙ sym e) (sym e) nodes (last.trees w [])
