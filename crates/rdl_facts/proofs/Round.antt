-- The open body in which the text of a setting stands.
use Rattle.std.proofs.Common.{◌≡◌, ◌∙◌, ℕ, zero, suc, ◌⊎◌, inl, inr, List, [], ◌∷◌, ◌++◌, length, Option, None, Some, slice_get, refl, sym, ap, subst, arith}
use Rattle.std.specs.List.{AllByRecursion}
use Rattle.rdl_props.specs.declared.prop.Prop.{Prop}
use Rattle.rdl_tree.specs.declared.expr.Name.{Name}
use Rattle.rdl_tree.specs.declared.item.Source.{Source}
use Rattle.rdl_tree.specs.declared.node.Elab.{Elab}
use Rattle.rdl_values.specs.Bodies.{Body, Scope, around}
use Rattle.rdl_values.specs.Elaborated.{nodes_of, top_name}
use Rattle.rdl_values.specs.Instances.{Instance, body, nodes, root}
use Rattle.rdl_values.specs.Scopes.{IsAmong}
use Rattle.rdl_layers.specs.Says.{IsBodyNumber, IsScopeNumber}
use Rattle.rdl_layers.specs.Settings.{setting}
use Rattle.rdl_nodes.proofs.Members.{In, each-in, get-within, in-from, in-place}
use Rattle.rdl_bodies.specs.Sited.{HaveNames}
use Rattle.rdl_bodies.specs.declared.bodies.Bodies.{Bodies}
use Rattle.rdl_open_bodies.specs.Spots.{AreSpots, IsOpenAt, IsOpenTree, IsSpot}
use Rattle.rdl_open_bodies.specs.declared.spots.OpenTree.{OpenTree}
use Rattle.rdl_open_bodies.specs.declared.spots.Spot.{Spot}
use Rattle.rdl_layers.specs.Scoped.{IsScoped, IsWithin}
use Rattle.rdl_facts.specs.Encoded.{NamesEnum, Shows, body_or}
use Rattle.rdl_facts.proofs.Above.{IsNodes, above-nodes, among-either, one-by-path}

-- a node of the tree at its number, among the open bodies
pub record IsThere (e : Elab) (t : Bodies) (ns : List Instance) (k : ℕ) (o : Spot) : Type 0 where
  pub node : Instance
  pub here : slice_get ns k ≡ Some node
  pub spot : IsSpot e t o node

pub spot_there : (e : Elab) (t : Bodies) (os : List Spot) (ns : List Instance) (k : ℕ) (o : Spot) → AreSpots e t os ns → slice_get os k ≡ Some o → IsThere e t ns k o
spot_there e t [] ns k o h at = cc at
spot_there e t (p ∷ os) [] k o h at = absurd h
spot_there e t (p ∷ os) (n ∷ ns) zero o h at = let same : p ≡ o = cc in record { node = n; here = refl; spot = subst (λ q. IsSpot e t q n) same h.0 }
spot_there e t (p ∷ os) (n ∷ ns) (suc k) o h at =
    let rec = spot_there e t os ns k o h.1 at in
    record { node = rec.node; here = rec.here; spot = rec.spot }

pub none_there : (e : Elab) (t : Bodies) (os : List Spot) (ns : List Instance) (k : ℕ) → AreSpots e t os ns → slice_get os k ≡ None → slice_get ns k ≡ None
none_there e t [] [] k h at = refl
none_there e t [] (n ∷ ns) k h at = absurd h
none_there e t (p ∷ os) [] k h at = absurd h
none_there e t (p ∷ os) (n ∷ ns) zero h at = cc at
none_there e t (p ∷ os) (n ∷ ns) (suc k) h at = none_there e t os ns k h.1 at

module _ (e : Elab) (tree : OpenTree) (open_ : IsOpenTree e tree) (b : Body) (k : ℕ) (number : IsBodyNumber (nodes_of e) b.node k) where
  root-open : b ≡ root e.source.now → (o : Option Spot) → slice_get tree.spots.items k ≡ o → IsOpenAt tree.bodies (body_or o) b
  root-open is None at = subst (IsOpenAt tree.bodies 0) (sym is) open_.root_
  root-open is (Some o) at =
      let past : k ≡ length (nodes_of e) = subst (λ c. IsBodyNumber (nodes_of e) c.node k) is number in
      let x = spot_there e tree.bodies tree.spots.items (nodes_of e) k o open_.nodes_ at in
      let l = get-within (nodes_of e) k x.node x.here in
      absurd (omega (arith, l, past))

  node-open : IsNodes (nodes_of e) b → (o : Option Spot) → slice_get tree.spots.items k ≡ o → IsOpenAt tree.bodies (body_or o) b
  node-open a None at =
      let n : IsBodyNumber (nodes_of e) (Some a.0.path) k = subst (λ c. IsBodyNumber (nodes_of e) c.node k) a.2 number in
      let both : Some n.0 ≡ None = sym n.1 ∙ none_there e tree.bodies tree.spots.items (nodes_of e) k open_.nodes_ at in
      cc
  node-open a (Some o) at =
      let n : IsBodyNumber (nodes_of e) (Some a.0.path) k = subst (λ c. IsBodyNumber (nodes_of e) c.node k) a.2 number in
      let x = spot_there e tree.bodies tree.spots.items (nodes_of e) k o open_.nodes_ at in
      let both : Some n.0 ≡ Some x.node = sym n.1 ∙ x.here in
      let found : n.0 ≡ x.node = cc in
      let j = in-place (nodes_of e) a.0 a.1 in
      let same : x.node ≡ a.0 = one-by-path e k j.0 x.node a.0 x.here j.2 (ap (λ m. m.path) (sym found) ∙ n.2) in
      subst (IsOpenAt tree.bodies o.body) (ap body same ∙ sym a.2) x.spot.own

  pub among-open : (n : Instance) → In (nodes_of e) n → IsAmong (root e.source.now ∷ n.above ++ (body n ∷ [])) b → (o : Option Spot) → slice_get tree.spots.items k ≡ o → IsOpenAt tree.bodies (body_or o) b
  among-open n there (inl q) = root-open (sym q)
  among-open n there (inr h) = go (among-either n.above (body n ∷ []) b h)
    where
      go : IsAmong n.above b ⊎ IsAmong (body n ∷ []) b → (o : Option Spot) → slice_get tree.spots.items k ≡ o → IsOpenAt tree.bodies (body_or o) b
      go (inl p) = node-open (above-nodes e n there b p)
      go (inr (inl q)) = node-open (n, there, sym q)
      go (inr (inr q)) = absurd q

-- a setting that names an enumeration, with the bodies round its text
abbrev Law : Type 0
Law = (wanted : Option (List ℕ)) (s : Source) → AllByRecursion (λ n. (p : Prop) → IsScoped (root s ∷ n.above ++ (body n ∷ [])) (setting n p)) (nodes wanted s)

scope-open : (e : Elab) (tree : OpenTree) → IsOpenTree e tree → (n : Instance) → In (nodes_of e) n → (scope : Scope) (k : ℕ) → IsWithin (root e.source.now ∷ n.above ++ (body n ∷ [])) scope → IsScopeNumber (nodes_of e) scope k
    → Shows tree (slice_get tree.bodies.list.items (body_or (slice_get tree.spots.items k))) (around scope)
scope-open e tree open_ n there [] k within number = absurd (within.0 refl)
scope-open e tree open_ n there (l ∷ outer) k within number =
    let first = within.1.0 in
    let own : IsBodyNumber (nodes_of e) first.body.node k = subst (λ s. IsScopeNumber (nodes_of e) s k) first.same number in
    let x = among-open e tree open_ first.body k own n there first.among (slice_get tree.spots.items k) refl in
    (x.open_, x.here, subst (HaveNames tree.bodies.list.items x.open_.numbers.now) (sym (ap around first.same)) x.is.names)

pub shown : Law → (e : Elab) (tree : OpenTree) (name : Name) (k : ℕ) (scope : Scope) → NamesEnum e tree name k scope → Shows tree (slice_get tree.bodies.list.items (body_or (slice_get tree.spots.items k))) (around scope)
shown law e tree name k scope h =
    let there = in-from (nodes_of e) h.node h.there in
    let scoped = each-in (λ n. (p : Prop) → IsScoped (root e.source.now ∷ n.above ++ (body n ∷ [])) (setting n p)) (nodes_of e) h.node (law (Some (top_name e)) e.source.now) there h.prop in
    scope-open e tree h.open_ h.node there scope k (subst (IsScoped (root e.source.now ∷ h.node.above ++ (body h.node ∷ []))) h.named scoped) h.seen_from
