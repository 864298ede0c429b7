-- The values that a block's behaviour refers to, at one vector.
use Rattle.std.specs.Prelude.{◌≡◌, ℕ, ◌%◌, ◌==◌, Bool, true, false, ◌&&◌, nat_le, nat_lt, if◌then◌else◌, Option, Some, None, is_some, unwrap_or, List, [], ◌∷◌, ◌++◌, codes, slice_get, Contains, count_ones}
use Rattle.std.specs.List.{enumerate_from, flat_map, list_any}
use Rattle.std.specs.Option.{option_map_or}
use Rattle.rb_base.specs.Bits.{ones}
use Rattle.v_design.specs.Expr.{Values, bit_of}
use Rattle.rb_model.specs.declared.kinds.RefItem.{RefItem}
use Rattle.rb_model.specs.declared.kinds.RefItem.TheVariants as item
use Rattle.rb_model.specs.declared.kinds.Class.{Class}
use Rattle.rb_model.specs.declared.kinds.Class.TheVariants.{Storage, Wire, Constant}
use Rattle.rb_model.specs.declared.kinds.Feed.{Feed}
use Rattle.rb_model.specs.declared.kinds.Feed.TheVariants as feed
use Rattle.rb_model.specs.declared.kinds.Gate.{Gate}
use Rattle.rb_model.specs.declared.kinds.Gate.TheVariants as gate
use Rattle.rb_model.specs.declared.kinds.Mask.{Mask}
use Rattle.rb_model.specs.declared.kinds.Mask.TheVariants as mask
use Rattle.rb_model.specs.declared.kinds.Amount.{Amount}
use Rattle.rb_model.specs.declared.kinds.Amount.TheVariants as amount
use Rattle.rb_model.specs.declared.kinds.Level.{Level}
use Rattle.rb_model.specs.declared.kinds.Level.TheVariants as level
use Rattle.rb_model.specs.declared.kinds.Latch.{Latch}
use Rattle.rb_model.specs.declared.kinds.Latch.TheVariants as latch
use Rattle.rb_model.specs.declared.kinds.Part.{Part}
use Rattle.rb_model.specs.declared.block.Block.{Block}
use Rattle.rb_model.specs.declared.block.Field.{Field}
use Rattle.rb_model.specs.declared.block.View.{View}
use Rattle.rb_model.specs.declared.block.Slot.{Slot}
use Rattle.rb_model.specs.declared.block.Word.{Word}
use Rattle.rb_model.specs.declared.block.Reg.{Reg}
use Rattle.rb_model.specs.Kept.{Map, Val, when, of_field}
use Rattle.rb_model.specs.Ports.{signal_name}
use Rattle.rb_model.specs.Effects.{overflows, underflows, has_read_effect, counting}

-- what software does at a vector: nothing, a read of the word of a number, or a write of it with data
pub data Access : Type 0 where
  NoAccess : Access
  Read : ℕ → Access
  Write : ℕ → ℕ → Access

-- what an edge finds: an access, the input pins by name, and the kept values
pub record Now : Type 0 where
  pub access : Access
  pub pins : Values
  pub kept : Map

-- a number for each item
abbrev pub ItemValues : Type 0
ItemValues = RefItem → ℕ

-- the slots of the word of a number
abbrev pub slots_of : List Word → ℕ → List Slot
slots_of ws k = option_map_or (λ w. w.slots) (slice_get ws k) []

-- the slot holds bits of a view of field k that passes the test
abbrev pub shows : Block → ℕ → (View → Bool) → Slot → Bool
shows b k test s = option_map_or (λ v. v.field == k && test v) (slice_get b.views s.view) false

-- the access is a read of a word with a view of field k that passes the first test, or a write of one with a view that
-- passes the second
abbrev pub reaches : Block → Access → ℕ → (reading writing : View → Bool) → Bool
reaches b NoAccess k reading writing = false
reaches b (Read i) k reading writing = list_any (shows b k reading) (slots_of b.reads i)
reaches b (Write i d) k reading writing = list_any (shows b k writing) (slots_of b.writes i)

-- the value of a pin of this name, or of an item
abbrev pub fed : Now → ItemValues → Feed → List ℕ → ℕ
fed n v feed.Off name = 0
fed n v feed.Pin name = n.pins name
fed n v (feed.Item i) name = v i

-- the value at a gate whose pins have these words
abbrev pub gated : Now → ItemValues → Gate → (high low path : List ℕ) → ℕ
gated n v gate.Always high low path = 0
gated n v (gate.High from) high low path = fed n v from (high ++ path)
gated n v (gate.Low from) high low path = fed n v from (low ++ path)

abbrev pub mask_value : ItemValues → Mask → ℕ
mask_value v mask.Off = 0
mask_value v (mask.Enable i) = v i
mask_value v (mask.Mask i) = v i

abbrev pub level_value : ItemValues → Level → ℕ
level_value v (level.Number x) = x
level_value v (level.Item i) = v i

abbrev pub amount_value : Now → ItemValues → Amount → List ℕ → ℕ
amount_value n v (amount.Number x) name = x
amount_value n v (amount.Item i) name = v i
amount_value n v (amount.Pin w) name = n.pins name

-- how far a part counts: not at all while its pulse is 0
abbrev pub step : Now → ItemValues → Option Part → (pulse value : List ℕ) → ℕ
step n v None pulse value = 0
step n v (Some p) pulse value = if fed n v p.pulse pulse == 0 then 0 else amount_value n v p.amount value

abbrev pub up : Now → ItemValues → Field → ℕ
up n v f = option_map_or (λ c. step n v c.up (codes "incr$" ++ f.path) (codes "incrvalue$" ++ f.path)) f.count 0

abbrev pub down : Now → ItemValues → Field → ℕ
down n v f = option_map_or (λ c. step n v c.down (codes "decr$" ++ f.path) (codes "decrvalue$" ++ f.path)) f.count 0

-- the number that a field loads, and an interrupt's input
abbrev pub source_value : Now → ItemValues → Field → ℕ
source_value n v f = fed n v f.source (codes "in$" ++ f.path)

abbrev pub class_value : Now → ItemValues → Class → ℕ → Field → ℕ
class_value n v Storage k f = n.kept (Val k)
class_value n v Wire k f = source_value n v f
class_value n v Constant k f = unwrap_or f.reset 0

abbrev pub is_interrupt : Latch → Bool
is_interrupt latch.Off = false
is_interrupt (latch.Bits e) = true
is_interrupt (latch.Whole e) = true
is_interrupt latch.Plain = true

abbrev pub is_on : Mask → Bool
is_on mask.Off = false
is_on (mask.Enable i) = true
is_on (mask.Mask i) = true

-- the field is an interrupt of register r whose value counts under the mask
abbrev pub raises : ItemValues → ℕ → Mask → ℕ × Field → Bool
raises v r m f = is_interrupt f.1.latch && f.1.reg == r && nat_lt 0 (counting m f.1.width (v (item.Field f.0)) (mask_value v m))

-- What an item is made of the others' values v.
abbrev pub made : Block → Now → ItemValues → RefItem → ℕ
made b n v (item.Field k) = of_field b k 0 (λ f. class_value n v f.class k f)
made b n v (item.Signal s) = option_map_or (λ g. n.pins (signal_name g)) (slice_get b.signals s) 0
made b n v (item.Anded k) = of_field b k 0 (λ f. bit_of (v (item.Field k) == ones f.width))
made b n v (item.Ored k) = bit_of (nat_lt 0 (v (item.Field k)))
made b n v (item.Xored k) = count_ones (v (item.Field k)) % 2
made b n v (item.IncrThreshold k) = of_field b k 0 (λ f. option_map_or (λ c. bit_of (nat_le (level_value v c.above) (v (item.Field k)))) f.count 0)
made b n v (item.DecrThreshold k) = of_field b k 0 (λ f. option_map_or (λ c. bit_of (nat_le (v (item.Field k)) (level_value v c.below))) f.count 0)
made b n v (item.Overflow k) = of_field b k 0 (λ f. overflows f.width (n.kept (Val k)) (up n v f) (down n v f))
made b n v (item.Underflow k) = of_field b k 0 (λ f. underflows (n.kept (Val k)) (up n v f) (down n v f))
made b n v (item.SwMod k) = bit_of (reaches b n.access k (λ w. has_read_effect w.on_read) (λ w. w.writes))
made b n v (item.SwAcc k) = bit_of (reaches b n.access k (λ w. w.reads) (λ w. w.writes))
made b n v (item.Intr r) = bit_of (list_any (λ f. raises v r f.1.enable f) (enumerate_from 0 b.fields))
made b n v (item.Halt r) = bit_of (list_any (λ f. is_on f.1.halt && raises v r f.1.halt f) (enumerate_from 0 b.fields))

-- the items of a block
abbrev pub field_items : ℕ × Field → List RefItem
field_items f = item.Field f.0 ∷ item.Anded f.0 ∷ item.Ored f.0 ∷ item.Xored f.0
    ∷ ((if is_some f.1.count then item.IncrThreshold f.0 ∷ item.DecrThreshold f.0 ∷ item.Overflow f.0 ∷ item.Underflow f.0 ∷ [] else [])
    ++ item.SwMod f.0 ∷ item.SwAcc f.0 ∷ [])

abbrev pub reg_items : ℕ × Reg → List RefItem
reg_items r = when r.1.intr (item.Intr r.0) ++ when r.1.halt (item.Halt r.0)

abbrev pub items : Block → List RefItem
items b = flat_map (λ s. item.Signal s.0 ∷ []) (enumerate_from 0 b.signals) ++ flat_map field_items (enumerate_from 0 b.fields) ++ flat_map reg_items (enumerate_from 0 b.regs)

-- The values of the items at a vector: each is what it is made of the others'.
abbrev pub AreItemValues : Block → Now → ItemValues → Type 0
AreItemValues b n v = (i : RefItem) → Contains (items b) i → v i ≡ made b n v i
