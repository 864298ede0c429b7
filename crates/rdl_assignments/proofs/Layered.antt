-- The settings of a body by its items.
use Rattle.std.proofs.Common.{◌≡◌, ◌∙◌, ℕ, Bool, List, [], ◌∷◌, ◌++◌, flat_map, length, map, None, Some, Option, option_to_list, refl, sym, ap, subst}
use Rattle.rdl_base.specs.declared.fault.Fault.{Fault}
use Rattle.rdl_tree.specs.declared.item.Item.{Item}
use Rattle.rdl_tree.specs.declared.item.Set.{Set}
use Rattle.rdl_props.specs.declared.prop.Prop.{Prop}
use Rattle.rdl_values.specs.Bodies.{Body, Scope, scope_at, standing}
use Rattle.rdl_values.specs.Values.{Around}
use Rattle.rdl_values.specs.Views as view
use Rattle.rdl_values.specs.Views.{ItemIs, item_is}
use Rattle.rdl_layers.specs.Assignments.{default_in, defaults, local_in, locals}
use Rattle.rdl_failures.specs.Noted.{Holds}
use Rattle.rdl_layers.specs.Judged.{all_failures, failures_of}
use Rattle.rdl_layers.specs.Meanings.{Assignment}
use Rattle.rdl_assignments.specs.Defaults.{whole}
use Rattle.rdl_assignments.specs.Layers.{IsLayer}
use Rattle.rdl_assignments.specs.Live.{AreLive, AreLiveDefaults, AreLiveLocals, AreThinned, IsTaken, default_set, own_set, set_in, sets_in}
use Rattle.rdl_assignments.specs.declared.layer.Layer.{Layer}
use Rattle.rdl_assignments.specs.declared.live.LiveSet.{LiveSet}
use Rattle.rdl_assignments.proofs.Spent.{one-set, sets-push}

abbrev local-view : Scope → ItemIs → List Assignment
local-view scope (view.local s) = record { set_ = s; scope = scope } ∷ []
local-view scope _ = []

abbrev default-view : Scope → ItemIs → List Assignment
default-view scope (view.default_ s) = record { set_ = s; scope = scope } ∷ []
default-view scope _ = []

own-one : (scope : Scope) (v : ItemIs) → local-view scope v ≡ map (λ s. record { set_ = s; scope = scope }) (option_to_list (own_set v))
own-one scope (view.local s) = refl
own-one scope (view.definition d) = refl
own-one scope (view.enumeration n es) = refl
own-one scope (view.made a of is) = refl
own-one scope (view.default_ s) = refl
own-one scope (view.dynamic p s) = refl

default-one : (scope : Scope) (v : ItemIs) → default-view scope v ≡ map (λ s. record { set_ = s; scope = scope }) (option_to_list (default_set v))
default-one scope (view.default_ s) = refl
default-one scope (view.definition d) = refl
default-one scope (view.enumeration n es) = refl
default-one scope (view.made a of is) = refl
default-one scope (view.local s) = refl
default-one scope (view.dynamic p s) = refl

own-same : (b : Body) (i : List Item × Item) → local_in b i ≡ set_in own_set b i
own-same b i = own-one (scope_at b i.0) (item_is i.1)

default-same : (b : Body) (i : List Item × Item) → default_in (whole b) b.outer i ≡ set_in default_set b i
default-same b i = default-one (scope_at b i.0) (item_is i.1)

pub own_all : (b : Body) → local_in b ≡ set_in own_set b
own_all b = λ j i. own-same b i j

pub default_all : (b : Body) → default_in (whole b) b.outer ≡ set_in default_set b
default_all b = λ j i. default-same b i j

pub own_sets : (b : Body) → sets_in own_set b b.items ≡ locals b
own_sets b = ap (λ g. flat_map g (standing b.items)) (sym (own_all b))

pub default_sets : (b : Body) → sets_in default_set b b.items ≡ defaults b
default_sets b = ap (λ g. flat_map g (standing b.items)) (sym (default_all b))

pub live_locals : (same : Bool) (v : Around) (live : List LiveSet) (items : List Item) → AreLive own_set same v live items → AreLiveLocals same v live items
live_locals same v live items h legal held b c eb ec g f k =
    subst (λ is. AreThinned own_set legal held c [] is live) (sym ec) (h legal held b c g f (subst (λ xs. Holds held (all_failures (failures_of legal) xs)) (sym (own_sets b) ∙ ap (sets_in own_set b) eb) k))

pub live_defaults : (same : Bool) (v : Around) (live : List LiveSet) (items : List Item) → AreLive default_set same v live items → AreLiveDefaults same v live items
live_defaults same v live items h legal held b c eb ec g f k =
    subst (λ is. AreThinned default_set legal held c [] is live) (sym ec) (h legal held b c g f (subst (λ xs. Holds held (all_failures (failures_of legal) xs)) (sym (default_sets b) ∙ ap (sets_in default_set b) eb) k))

-- A live one was read.
pub taken_layer : (of : ItemIs → Option Set) (legal : Prop → Bool) (body : ℕ) (z : Layer) (start after : List Fault) (b : Body) (front : List Item) (i : Item) (l : LiveSet) → IsTaken front (of (item_is i)) l
    → IsLayer legal body z start after (sets_in of b front ++ (record { set_ = l.set.now; scope = scope_at b front } ∷ [])) → IsLayer legal body z start after (sets_in of b (front ++ (i ∷ [])))
taken_layer of legal body z start after b front i l k h = subst (IsLayer legal body z start after) (sym (sets-push of b front i)) (go (of (item_is i)) refl k)
  where
    go : (o : Option Set) → of (item_is i) ≡ o → IsTaken front o l → IsLayer legal body z start after (sets_in of b front ++ set_in of b (front, i))
    go None e k = absurd k
    go (Some s) e k =
        let same : set_in of b (front, i) ≡ record { set_ = l.set.now; scope = scope_at b front } ∷ [] = one-set of b front i (Some s) e ∙ ap (λ t. record { set_ = t; scope = scope_at b front } ∷ []) (sym k.0) in
        subst (λ xs. IsLayer legal body z start after (sets_in of b front ++ xs)) (sym same) h

pub taken_position : (front : List Item) (o : Option Set) (l : LiveSet) → IsTaken front o l → l.position ≡ length front
taken_position front None l k = absurd k
taken_position front (Some s) l k = k.1
