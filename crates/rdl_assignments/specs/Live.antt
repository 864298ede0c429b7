-- Settings of one layer of a text that are judged in each of its bodies. The others fail alike in all of them, and give nothing.
use Rattle.std.specs.Prelude.{◌≡◌, ◌⊎◌, Bool, true, List, [], ◌∷◌, ◌++◌, flat_map, length, map, Option, None, Some, option_to_list}
use Rattle.std.specs.List.{list_any}
use Rattle.rdl_base.specs.declared.fault.Fault.{Fault}
use Rattle.rdl_tree.specs.declared.item.Item.{Item}
use Rattle.rdl_tree.specs.declared.item.Set.{Set}
use Rattle.rdl_props.specs.Same.{same_prop}
use Rattle.rdl_props.specs.Table.{find_prop}
use Rattle.rdl_props.specs.declared.prop.Prop.{Prop}
use Rattle.rdl_values.specs.Bodies.{Body, around, scope_at, standing}
use Rattle.rdl_values.specs.Values.{Around}
use Rattle.rdl_values.specs.Views as view
use Rattle.rdl_values.specs.Views.{ItemIs, item_is}
use Rattle.rdl_failures.specs.Noted.{Holds}
use Rattle.rdl_layers.specs.Assignments.{defaults, locals}
use Rattle.rdl_layers.specs.Judged.{all_failures, failures_of, props_of}
use Rattle.rdl_layers.specs.Meanings.{Assignment}
use Rattle.rdl_assignments.specs.Steady.{AreNamedAs, IsSteadySet}
use Rattle.rdl_assignments.specs.Taken.{AreTaken}
use Rattle.rdl_assignments.specs.declared.live.LiveSet.{LiveSet}
use Rattle.rdl_assignments.specs.declared.live.Thinning.{Thinning}

-- what an item sets its body's node to
abbrev pub own_set : ItemIs → Option Set
own_set (view.local s) = Some s
own_set _ = None

-- what an item sets by default
abbrev pub default_set : ItemIs → Option Set
default_set (view.default_ s) = Some s
default_set _ = None

-- the assignment of an item of a body in the layer of these settings
abbrev pub set_in : (ItemIs → Option Set) → Body → List Item × Item → List Assignment
set_in of b i = map (λ s. record { set_ = s; scope = scope_at b i.0 }) (option_to_list (of (item_is i.1)))

-- the assignments of some items
abbrev pub sets_in : (ItemIs → Option Set) → Body → List Item → List Assignment
sets_in of b items = flat_map (set_in of b) (standing items)

-- A setting behind these is of an unknown name, or of a property that they assign already.
abbrev pub IsIdle : List Assignment → Option Prop → Type 0
IsIdle earlier None = Unit {0}
IsIdle earlier (Some p) = list_any (same_prop p) (props_of earlier) ≡ true

-- A setting behind these is idle, and each failure that it has is held.
abbrev pub IsSpent : (Prop → Bool) → List Fault → List Assignment → Assignment → Type 0
IsSpent legal held earlier a = IsIdle earlier (find_prop a.set_.prop.text.now) × Holds held (failures_of legal (earlier, a))

-- the setting of an item behind others is spent, if it has one
abbrev pub IsPassed : (ItemIs → Option Set) → (Prop → Bool) → List Fault → Body → List Item → Option Set → Type 0
IsPassed of legal held b before None = Unit {0}
IsPassed of legal held b before (Some s) = IsSpent legal held (sets_in of b before) (record { set_ = s; scope = scope_at b before })

-- it is this live one
abbrev pub IsTaken : List Item → Option Set → LiveSet → Type 0
IsTaken before None l = ⊥
IsTaken before (Some s) l = (l.set.now ≡ s) × (l.position ≡ length before)

-- Of the settings of items behind others these are live, in order, and each other one is spent.
abbrev pub AreThinned : (ItemIs → Option Set) → (Prop → Bool) → List Fault → Body → List Item → List Item → List LiveSet → Type 0
AreThinned of legal held b before [] live = live ≡ []
AreThinned of legal held b before (i ∷ is) live =
    (IsPassed of legal held b before (of (item_is i)) × AreThinned of legal held b (before ++ (i ∷ [])) is live)
    ⊎ ((l : LiveSet) × (ls : List LiveSet) × (live ≡ l ∷ ls) × IsTaken before (of (item_is i)) l × AreThinned of legal held b (before ++ (i ∷ [])) is ls)

-- what is visible in a body
abbrev pub visible_in : Body → Around
visible_in b = b.names ∷ around b.outer

-- These are live of the settings of items in each body that is named as these, where the failures of another one are held.
abbrev pub AreLive : (ItemIs → Option Set) → Bool → Around → List LiveSet → List Item → Type 0
AreLive of same v live items =
    (legal : Prop → Bool) (held : List Fault) (b c : Body) → AreNamedAs same v (visible_in b) → AreNamedAs same v (visible_in c) → Holds held (all_failures (failures_of legal) (sets_in of b items)) → AreThinned of legal held c [] items live

-- These are live of the settings of a text with these items to its bodies' nodes.
abbrev pub AreLiveLocals : Bool → Around → List LiveSet → List Item → Type 0
AreLiveLocals same v live items =
    (legal : Prop → Bool) (held : List Fault) (b c : Body) → b.items ≡ items → c.items ≡ items → AreNamedAs same v (visible_in b) → AreNamedAs same v (visible_in c) → Holds held (all_failures (failures_of legal) (locals b))
    → AreThinned own_set legal held c [] c.items live

-- The same of its defaults.
abbrev pub AreLiveDefaults : Bool → Around → List LiveSet → List Item → Type 0
AreLiveDefaults same v live items =
    (legal : Prop → Bool) (held : List Fault) (b c : Body) → b.items ≡ items → c.items ≡ items → AreNamedAs same v (visible_in b) → AreNamedAs same v (visible_in c) → Holds held (all_failures (failures_of legal) (defaults b))
    → AreThinned default_set legal held c [] c.items live

-- A setting behind others that assign these properties is of an unknown name, or of one of them and steady.
abbrev pub IsSteadyIdle : Bool → Around → List Prop → Set → Option Prop → Type 0
IsSteadyIdle same v earlier s None = Unit {0}
IsSteadyIdle same v earlier s (Some p) = (list_any (same_prop p) earlier ≡ true) × IsSteadySet same v p s

-- Items were read: the properties that they assign are taken, and these are live.
pub record IsThinning (of : ItemIs → Option Set) (same : Bool) (v : Around) (y : Thinning) (items : List Item) : Type 0 where
  pub taken : (b : Body) → AreTaken y.taken (props_of (sets_in of b items))
  pub live : AreLive of same v y.live.items items
