-- The top is an address map.
use Rattle.std.proofs.Common.{◌≡◌, ℕ, Bool, true, false, ◌&&◌, cond, List, [], ◌∷◌, flat_map, reverse, Option, None, Some, option_and_then, option_to_list, inl, inr, refl, subst}
use Rattle.std.specs.List.{AllByRecursion}
use Rattle.rdl_tree.specs.declared.expr.Name.{Name}
use Rattle.rdl_tree.specs.declared.item.Def.{Def}
use Rattle.rdl_tree.specs.declared.item.Item.{Item}
use Rattle.rdl_tree.specs.declared.item.Kind.{Kind}
use Rattle.rdl_tree.specs.declared.item.Kind.TheVariants as kind
use Rattle.rdl_tree.specs.declared.item.Source.{Source}
use Rattle.rdl_values.specs.Bodies.{Scope, component_of, scope_at, standing}
use Rattle.rdl_values.specs.Given.{IsGivenBy}
use Rattle.rdl_values.specs.Instances.{Instance, given_by, kind_of, top_of}
use Rattle.rdl_values.specs.Primary.{Somewhere}
use Rattle.rdl_values.specs.Top.{is_addrmap, is_wanted, root, top_at, top_named, top_seen, top_use, top_use_of}
use Rattle.rdl_values.specs.Uses.{Use}
use Rattle.rdl_values.specs.Views.{item_is}
use Rattle.rdl_values.proofs.Clean.{nearest_is, unreversed}
use Rattle.rdl_values.proofs.Given.{given-all}
use Rattle.plain_lemmas.proofs.Lists.{each-append, each-imp}

abbrev OfMap : Option Use → Type 0
OfMap None = Unit {0}
OfMap (Some u) = AllByRecursion (λ c. c.def.kind ≡ kind.Addrmap) (option_to_list u.closure)

map-kind : (k : Kind) → is_addrmap k ≡ true → k ≡ kind.Addrmap
map-kind kind.Addrmap e = refl
map-kind _ e = cc e

module _ (wanted : Option (List ℕ)) (s : Source) where
  found-map : (u : Use) (is : List (List Item × Item)) → Somewhere (λ i. top_at wanted s i ≡ Some u) is → OfMap (Some u)
  found-map u [] h = absurd h
  found-map u (i ∷ is) (inr h) = found-map u is h
  found-map u (i ∷ is) (inl h) = go (component_of (item_is i.1)) h
    where
      scope : Scope
      scope = scope_at (root s) i.0

      chosen : (a b : Bool) (d : Def) (n : Name) → is_addrmap d.kind ≡ a → OfMap (cond (a && b) (Some (top_use scope d n)) None)
      chosen true true d n e = (map-kind d.kind e, tt)
      chosen true false d n e = tt
      chosen false b d n e = tt

      named : (d : Def) (o : Option Name) → OfMap (top_named wanted scope d o)
      named d None = tt
      named d (Some n) = chosen (is_addrmap d.kind) (is_wanted wanted n) d n refl

      go : (o : Option Def) → option_and_then (λ d. top_named wanted scope d d.name) o ≡ Some u → OfMap (Some u)
      go None q = cc q
      go (Some d) q = subst OfMap q (named d d.name)

  given-map : (u : Use) → OfMap (Some u) → (n : Instance) → IsGivenBy (top_seen u) n → kind_of n ≡ kind.Addrmap
  given-map u h n g = (subst (λ o. AllByRecursion (λ c. c.def.kind ≡ kind.Addrmap) (option_to_list o)) g.closure_is h).0

used-map : (wanted : Option (List ℕ)) (s : Source) (u : Use) → top_use_of wanted s ≡ Some u → OfMap (Some u)
used-map None s u e = found-map None s u (standing s.items.now) (unreversed (λ i. top_at None s i ≡ Some u) (standing s.items.now) (nearest_is (top_at None s) (reverse (standing s.items.now)) u e))
used-map (Some w) s u e = found-map (Some w) s u (standing s.items.now) (nearest_is (top_at (Some w) s) (standing s.items.now) u e)

pub top-map : (wanted : Option (List ℕ)) (s : Source) → AllByRecursion (λ n. kind_of n ≡ kind.Addrmap) (top_of wanted s)
top-map wanted s = go (top_use_of wanted s) refl
  where
    go : (o : Option Use) → top_use_of wanted s ≡ o → AllByRecursion (λ n. kind_of n ≡ kind.Addrmap) (flat_map (λ u. given_by (top_seen u)) (option_to_list o))
    go None e = tt
    go (Some u) e =
        each-append (λ n. kind_of n ≡ kind.Addrmap) (given_by (top_seen u)) []
        (each-imp (IsGivenBy (top_seen u)) (λ n. kind_of n ≡ kind.Addrmap) (given_by (top_seen u)) (given-map wanted s u (used-map wanted s u e)) (given-all (top_seen u))) tt
