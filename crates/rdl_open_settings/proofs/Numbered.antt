-- The bodies in which assignments stand, by number.
use Rattle.std.proofs.Common.{◌≡◌, ◌∙◌, ℕ, Bool, true, false, cond, List, [], ◌∷◌, ◌++◌, filter, map, Option, None, Some, refl, sym, subst}
use Rattle.std.specs.List.{AllByRecursion}
use Rattle.rdl_base.specs.declared.fault.Fault.{Fault}
use Rattle.rdl_tree.specs.declared.item.Item.{Item}
use Rattle.rdl_tree.specs.declared.node.Elab.{Elab}
use Rattle.rdl_values.specs.Bodies.{Body, Layer, Scope, scope_at, standing, standing_from}
use Rattle.rdl_values.specs.Elaborated.{nodes_of}
use Rattle.rdl_values.specs.Elaboration.{IsClean}
use Rattle.rdl_values.specs.Instances.{Instance}
use Rattle.rdl_values.specs.Parts.{is_empty}
use Rattle.rdl_values.specs.Views as view
use Rattle.rdl_values.specs.Views.{ItemIs, item_is}
use Rattle.plain_lemmas.proofs.Lists.{each-flat_map}
use Rattle.rdl_values.proofs.Numbered.{counted}
use Rattle.rdl_layers.specs.Assignments.{default_in, defaults_before, local_in, locals}
use Rattle.rdl_layers.specs.Judged.{sound}
use Rattle.rdl_layers.specs.Meanings.{Assignment}
use Rattle.rdl_layers.specs.Says.{IsBodyNumber, IsScopeNumber}
use Rattle.rdl_merge.specs.Merged.{AreIn}
use Rattle.rdl_open_bodies.specs.Spots.{IsBodyAt}
use Rattle.rdl_open_settings.specs.Completed.{number_or}

-- What holds of all holds of the sound ones.

sound-from : {A : Type 0} (P : A → Type 0) (f : List A × A → List Fault) (before xs : List A) → AllByRecursion P xs → AllByRecursion P (map (λ x. x.1) (filter (λ x. is_empty (f x)) (standing_from before xs)))
sound-from P f before [] h = tt
sound-from {A} P f before (x ∷ xs) h = go (is_empty (f (before, x))) (sound-from P f (before ++ (x ∷ [])) xs h.1)
  where
    rest : List (List A × A)
    rest = filter (λ y. is_empty (f y)) (standing_from (before ++ (x ∷ [])) xs)

    go : (b : Bool) → AllByRecursion P (map (λ y. y.1) rest) → AllByRecursion P (map (λ y. y.1) (cond b ((before, x) ∷ rest) rest))
    go true r = (h.0, r)
    go false r = r

sound-all : {A : Type 0} (P : A → Type 0) (f : List A × A → List Fault) (xs : List A) → AllByRecursion P xs → AllByRecursion P (sound f xs)
sound-all P f xs h = sound-from P f [] xs h

-- Defaults stand in the body that has them, and so do a body's own assignments.

abbrev default-view : Layer → Scope → List Item → ItemIs → List Assignment
default-view l outer before (view.default_ s) = record { set_ = s; scope = record l { before = before } ∷ outer } ∷ []
default-view l outer before _ = []

abbrev local-view : Body → List Item → ItemIs → List Assignment
local-view b before (view.local s) = record { set_ = s; scope = scope_at b before } ∷ []
local-view b before _ = []

module _ (all : List Instance) (k : ℕ) where
  default-one : (l : Layer) (outer : Scope) (before : List Item) → IsBodyNumber all l.node k → (v : ItemIs) → AreIn all k (default-view l outer before v)
  default-one l outer before h (view.default_ s) = (h, tt)
  default-one l outer before h (view.definition d) = tt
  default-one l outer before h (view.enumeration n es) = tt
  default-one l outer before h (view.made a of is) = tt
  default-one l outer before h (view.local s) = tt
  default-one l outer before h (view.dynamic p s) = tt

  local-one : (b : Body) (before : List Item) → IsBodyNumber all b.node k → (v : ItemIs) → AreIn all k (local-view b before v)
  local-one b before h (view.local s) = (h, tt)
  local-one b before h (view.definition d) = tt
  local-one b before h (view.enumeration n es) = tt
  local-one b before h (view.made a of is) = tt
  local-one b before h (view.default_ s) = tt
  local-one b before h (view.dynamic p s) = tt

  defaults-in : (l : Layer) (outer : Scope) → IsBodyNumber all l.node k → (is : List (List Item × Item)) → AllByRecursion (λ i. AreIn all k (default_in l outer i)) is
  defaults-in l outer h [] = tt
  defaults-in l outer h (i ∷ is) = (default-one l outer i.0 h (item_is i.1), defaults-in l outer h is)

  locals-in : (b : Body) → IsBodyNumber all b.node k → (is : List (List Item × Item)) → AllByRecursion (λ i. AreIn all k (local_in b i)) is
  locals-in b h [] = tt
  locals-in b h (i ∷ is) = (local-one b i.0 h (item_is i.1), locals-in b h is)

  pub defaults_in : (f : List Assignment × Assignment → List Fault) (l : Layer) (outer : Scope) → IsBodyNumber all l.node k → AreIn all k (sound f (defaults_before l outer))
  defaults_in f l outer h = sound-all (λ a. IsScopeNumber all a.scope k) f (defaults_before l outer) (each-flat_map (λ a. IsScopeNumber all a.scope k) (default_in l outer) (standing l.before) (defaults-in l outer h (standing l.before)))

  pub locals_in : (f : List Assignment × Assignment → List Fault) (b : Body) → IsBodyNumber all b.node k → AreIn all k (sound f (locals b))
  locals_in f b h = sound-all (λ a. IsScopeNumber all a.scope k) f (locals b) (each-flat_map (λ a. IsScopeNumber all a.scope k) (local_in b) (standing b.items) (locals-in b h (standing b.items)))

-- The numbers of bodies.

pub body_number : (e : Elab) (round : Option ℕ) (count : ℕ) (b : Body) → IsClean e → e.count ≡ count → IsBodyAt e round b → IsBodyNumber (nodes_of e) b.node (number_or round count)
body_number e None count b clean c is = subst (λ x. IsBodyNumber (nodes_of e) x.node count) (sym is) (sym c ∙ counted _ e.source.now e clean.elaborated.tree)
body_number e (Some k) count b clean c is = subst (λ x. IsBodyNumber (nodes_of e) x.node k) (sym is.2) (is.0, is.1, refl)
