-- What is known of the texts of bodies that were judged.
use Rattle.std.specs.Prelude.{◌≡◌, ℕ, Bool, nat_eq, false, List, [], Option, None, Some, slice_get}
use Rattle.std.specs.HashMap.{get}
use Rattle.rdl_base.specs.declared.fault.Fault.{Fault}
use Rattle.rdl_props.specs.Table.{is_legal}
use Rattle.rdl_tree.specs.declared.item.Item.{Item}
use Rattle.rdl_tree.specs.declared.item.Kind.{Kind}
use Rattle.rdl_values.specs.Bodies as values
use Rattle.rdl_values.specs.Values.{Around}
use Rattle.rdl_failures.specs.Noted.{Holds}
use Rattle.rdl_layers.specs.Phase4.{of_enums}
use Rattle.rdl_assignments.specs.Live.{AreLiveDefaults, AreLiveLocals, AreThinned, own_set, visible_in}
use Rattle.rdl_assignments.specs.Steady.{AreNamedAs}
use Rattle.rdl_assignments.specs.declared.live.LiveSet.{LiveSet}
use Rattle.rdl_dynamic.specs.Written.{AreWritten}
use Rattle.rdl_dynamic.specs.declared.written.Written.{Written}
use Rattle.rdl_bodies.specs.Sited.{IsOpenAs}
use Rattle.rdl_bodies.specs.declared.bodies.Bodies.{Bodies}
use Rattle.rdl_bodies.specs.declared.bodies.Body.{Body}
use Rattle.rdl_open_settings.specs.Layered.{of_layers}
use Rattle.rdl_open_settings.specs.declared.live.LiveText.{LiveText}
use Rattle.rdl_open_settings.specs.declared.texts.JudgedText.{JudgedText}
use Rattle.rdl_open_settings.specs.declared.texts.JudgedTexts.{JudgedTexts}

-- What is judged in each body of a text with these items that is named as these.
pub record IsLiveText (l : LiveText) (same : Bool) (v : Around) (items : List Item) : Type 0 where
  pub locals : AreLiveLocals same v l.locals.items items
  pub defaults : AreLiveDefaults same v l.defaults.items items
  pub entries : l.entries_vary ≡ false → (b c : values.Body) → b.items ≡ items → c.items ≡ items → AreNamedAs same v (visible_in b) → AreNamedAs same v (visible_in c) → of_enums b ≡ of_enums c

-- The same in each body of the text of this number: all of them have the items, and are named as these.
pub record IsLiveOf (t : Bodies) (k : ℕ) (l : LiveText) : Type 0 where
  pub same : Bool
  pub visible : Around
  pub items : List Item
  pub live : IsLiveText l same visible items
  pub have : (j : ℕ) (y : Body) → slice_get t.list.items j ≡ Some y → y.text ≡ k → y.items.now ≡ items
  pub named : (j : ℕ) (y : Body) → slice_get t.list.items j ≡ Some y → y.text ≡ k → (b : values.Body) → IsOpenAs t y b → AreNamedAs same visible (visible_in b)

-- A body of this kind of the text was judged: its failures are held, and these are its dynamic assignments.
pub record IsJudged (t : Bodies) (held : List Fault) (k : ℕ) (kind : Option Kind) (dynamics : List Written) : Type 0 where
  pub number : ℕ
  pub body : Body
  pub listed : slice_get t.list.items number ≡ Some body
  pub text_is : body.text ≡ k
  pub shown : values.Body
  pub open_ : IsOpenAs t body shown
  pub kind_is : shown.kind ≡ kind
  pub fails : Holds held (of_layers shown)
  pub dynamics_are : AreWritten dynamics body.items.now

-- of the settings of a body to its nodes, which are of a kind, these are live; the root's has none
abbrev pub AreThinnedLocals : Option Kind → List Fault → values.Body → List LiveSet → Type 0
AreThinnedLocals None held b live = Unit {0}
AreThinnedLocals (Some k) held b live = AreThinned own_set (λ p. is_legal p k) held b [] b.items live

-- what is known of a text, and what is live of it
abbrev pub known_at : JudgedTexts → ℕ → Option JudgedText
known_at x k = get nat_eq x.known k

-- these are the dynamic assignments of a text of which a body of this kind was judged
abbrev pub AreShared : JudgedTexts → ℕ → Option Kind → List Written → Type 0
AreShared x k kind ws = (w : JudgedText) × (known_at x k ≡ Some w) × (w.kind ≡ kind) × (w.dynamics.value.items ≡ ws)

abbrev pub live_at : JudgedTexts → ℕ → Option LiveText
live_at x k = get nat_eq x.live k

-- What is known of texts holds of their bodies.
pub record AreTexts (t : Bodies) (held : List Fault) (x : JudgedTexts) : Type 0 where
  pub known : (k : ℕ) (w : JudgedText) → known_at x k ≡ Some w → IsJudged t held k w.kind w.dynamics.value.items
  pub live : (k : ℕ) (l : LiveText) → live_at x k ≡ Some l → IsLiveOf t k l
