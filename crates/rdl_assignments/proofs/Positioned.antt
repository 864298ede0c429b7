-- Defaults that were read, with their positions.
use Rattle.std.proofs.Common.{◌≡◌, ◌∙◌, ℕ, ◌-◌, List, [], ◌∷◌, ◌++◌, length, replicate, ap}
use Rattle.rdl_base.specs.declared.fault.Fault.{Fault}
use Rattle.rdl_tree.specs.declared.item.Item.{Item}
use Rattle.rdl_values.specs.Bodies.{Body, scope_at}
use Rattle.rdl_values.specs.Views.{item_is}
use Rattle.rdl_layers.specs.Judged.{anywhere, failures_of}
use Rattle.rdl_assignments.specs.Layers.{IsLayer}
use Rattle.rdl_assignments.specs.Live.{IsPassed, IsTaken, default_set, set_in, sets_in}
use Rattle.rdl_assignments.specs.declared.layer.Layer.{Layer}
use Rattle.rdl_assignments.specs.declared.live.LiveSet.{LiveSet}
use Rattle.rdl_assignments.proofs.Behind.{given-length}
use Rattle.rdl_assignments.proofs.Counted.{AreCounted, counted_more, counted_none, counted_same}
use Rattle.rdl_assignments.proofs.Layered.{taken_layer, taken_position}
use Rattle.rdl_assignments.proofs.Spent.{passed_layer, passed_sound}

-- The defaults of these items of a body were read, and what they give has these positions.
pub record IsPositioned (body : ℕ) (y : Layer) (positions : List ℕ) (start now : List Fault) (b : Body) (items : List Item) : Type 0 where
  pub layer : IsLayer anywhere body y start now (sets_in default_set b items)
  pub counted : AreCounted (failures_of anywhere) (set_in default_set b) positions items

pub positioned_none : (body : ℕ) (y : Layer) (positions : List ℕ) (start now : List Fault) (b : Body) → IsLayer anywhere body y start now [] → positions ≡ [] → IsPositioned body y positions start now b []
positioned_none body y positions start now b h e = record { layer = h; counted = counted_none (failures_of anywhere) (set_in default_set b) positions e }

pub positioned_passed : (body : ℕ) (y : Layer) (positions : List ℕ) (start now : List Fault) (b : Body) (before : List Item) (i : Item) → IsPassed default_set anywhere start b before (default_set (item_is i))
    → IsPositioned body y positions start now b before → IsPositioned body y positions start now b (before ++ (i ∷ []))
positioned_passed body y positions start now b before i k h = record {
  layer = passed_layer default_set anywhere body y start now b before i k h.layer;
  counted = counted_same (failures_of anywhere) (set_in default_set b) positions before i (passed_sound default_set anywhere start b before i k) h.counted;
}

pub positioned_taken : (body : ℕ) (y z : Layer) (ps qs : List ℕ) (start now after : List Fault) (b : Body) (front : List Item) (i : Item) (l : LiveSet) (n : ℕ) → IsTaken front (default_set (item_is i)) l
    → ((before : List Item) → IsLayer anywhere body y start now (sets_in default_set b before) → IsLayer anywhere body z start after (sets_in default_set b before ++ (record { set_ = l.set.now; scope = scope_at b before } ∷ [])))
    → n ≡ length z.given.items → qs ≡ ps ++ replicate (n - length ps) l.position → IsPositioned body y ps start now b front → IsPositioned body z qs start after b (front ++ (i ∷ []))
positioned_taken body y z ps qs start now after b front i l n k read e q h =
    let layer = taken_layer default_set anywhere body z start after b front i l k (read front h.layer) in
    record {
      layer = layer;
      counted = counted_more (failures_of anywhere) (set_in default_set b) ps qs front i n h.counted (e ∙ given-length body z.given.items _ layer.given) (q ∙ ap (λ m. ps ++ replicate (n - length ps) m) (taken_position front (default_set (item_is i)) l k));
    }
