-- The register machine of a block behind any bus: what an access and the pins make of the kept values.
use Rattle.std.specs.Prelude.{ℕ, ◌+◌, ◌-◌, ◌*◌, ◌^◌, ◌==◌, Bool, false, not, ◌&&◌, if◌then◌else◌, unwrap_or, List, ◌++◌, codes, slice_get, map, fold, bit_or}
use Rattle.std.specs.List.{list_any}
use Rattle.std.specs.Option.{option_map_or, option_map}
use Rattle.rb_base.specs.Bits.{part}
use Rattle.v_design.specs.Expr.{Values}
use Rattle.rb_model.specs.declared.kinds.RefItem.TheVariants as item
use Rattle.rb_model.specs.declared.kinds.ResetBy.{ResetBy}
use Rattle.rb_model.specs.declared.block.Block.{Block}
use Rattle.rb_model.specs.declared.block.Field.{Field}
use Rattle.rb_model.specs.declared.block.View.{View}
use Rattle.rb_model.specs.declared.block.Slot.{Slot}
use Rattle.rb_model.specs.Kept.{Val, Last, Done, Waited, Data, Error, Map, of_field}
use Rattle.rb_model.specs.Ports.{signal_name, outlets}
use Rattle.rb_model.specs.Effects.{acts, after_write, after_read, loaded, counted, latched, finished}
use Rattle.rb_model.specs.Items.{Access, NoAccess, Read, Write, Now, ItemValues, slots_of, shows, gated, mask_value, level_value, fed, up, down, source_value}

-- Software: each slot of the accessed word that holds a view of field k, in turn. A word has at most one such slot.

abbrev pub view_gate : Now → ItemValues → View → ℕ
view_gate n v w = gated n v w.gate (codes "swwe$") (codes "swwel$") w.path

-- the bits of the data that a slot takes
abbrev pub slot_bits : Slot → ℕ → ℕ
slot_bits s d = part d (s.low + s.bits - 1) s.low

-- g of the slot's view, where that is one of field k, or x
abbrev pub of_view : Block → ℕ → Slot → ℕ → (View → ℕ) → ℕ
of_view b k s x g = option_map_or (λ w. if w.field == k then g w else x) (slice_get b.views s.view) x

-- what a read of the slot makes of the value x of field k
abbrev pub slot_read : Block → ℕ → Field → ℕ → Slot → ℕ
slot_read b k f x s = of_view b k s x (λ w. after_read w.on_read f.width x)

-- what a write of the data d to the slot makes of it
abbrev pub slot_written : Block → Now → ItemValues → ℕ → Field → ℕ → ℕ → Slot → ℕ
slot_written b n v k f d x s = of_view b k s x (λ w. after_write w f.width (view_gate n v w) (n.kept (Done k)) x (slot_bits s d))

-- S: what software makes of the value x of field k
abbrev pub software : Block → Now → ItemValues → Access → ℕ → Field → ℕ → ℕ
software b n v NoAccess k f x = x
software b n v (Read i) k f x = fold (slot_read b k f) x (slots_of b.reads i)
software b n v (Write i d) k f x = fold (slot_written b n v k f d) x (slots_of b.writes i)

-- a write acts through a view of field k that may be written once
abbrev pub uses_up : Block → Now → ItemValues → Access → ℕ → Bool
uses_up b n v NoAccess k = false
uses_up b n v (Read i) k = false
uses_up b n v (Write i d) k = list_any (shows b k (λ w. w.once && acts w (view_gate n v w) (n.kept (Done k)))) (slots_of b.writes i)

-- the bits of the slot's field at their place in the word, where the slot's view reads
abbrev pub slot_value : Block → ItemValues → Slot → ℕ
slot_value b v s = option_map_or (λ w. if w.reads then part (v (item.Field w.field)) (s.from + s.bits - 1) s.from * 2 ^ s.low else 0) (slice_get b.views s.view) 0

-- the read data of a read, else 0
abbrev pub read_data : Block → ItemValues → Access → ℕ
read_data b v NoAccess = 0
read_data b v (Write i d) = 0
read_data b v (Read i) = fold (λ acc s. bit_or acc (slot_value b v s)) 0 (slots_of b.reads i)

-- Hardware

abbrev pub counts : Now → ItemValues → Field → ℕ → ℕ
counts n v f x = option_map_or (λ c. counted f.width x (up n v f) (down n v f) (option_map (level_value v) c.high) (option_map (level_value v) c.low)) f.count x

-- H: what hardware makes of the value x of field k
abbrev pub hardware : Now → ItemValues → ℕ → Field → ℕ → ℕ
hardware n v k f x =
    let after_load = loaded f x (source_value n v f) (gated n v f.gate (codes "we$") (codes "wel$") f.path) in
    let after_count = counts n v f after_load in
    let after_latch = latched f.latch f.width after_count (source_value n v f) (n.kept (Last k)) in
    finished f x after_latch (fed n v f.set (codes "hwset$" ++ f.path)) (fed n v f.clear (codes "hwclr$" ++ f.path)) (mask_value v f.keep)

-- S over H where software has the last word, and H over S where hardware has it (SystemRDL 2.0, 9.10, precedence)
abbrev pub changed : Block → Now → ItemValues → ℕ → Field → ℕ → ℕ
changed b n v k f x = if f.hw_first then hardware n v k f (software b n v n.access k f x) else software b n v n.access k f (hardware n v k f x)

-- Resets

abbrev pub reset_pin : Block → Values → ResetBy → ℕ
reset_pin b p r = option_map_or (λ s. option_map_or (λ g. p (signal_name g)) (slice_get b.signals s) 0) r.signal (p (codes "PRESETn"))

abbrev pub is_asserted : Block → Values → ResetBy → Bool
is_asserted b p r = reset_pin b p r == (if r.low then 0 else 1)

-- The map m where each field of which the test holds is under reset. A field without a reset value keeps its own.
abbrev pub reset_where : Block → (Field → Bool) → Map → Map
reset_where b test m (Val k) = of_field b k (m (Val k)) (λ f. if test f then unwrap_or f.reset (m (Val k)) else m (Val k))
reset_where b test m (Last k) = of_field b k (m (Last k)) (λ f. if test f then 0 else m (Last k))
reset_where b test m (Done k) = of_field b k (m (Done k)) (λ f. if test f then 0 else m (Done k))
reset_where b test m Waited = m Waited
reset_where b test m Data = m Data
reset_where b test m Error = m Error

-- an asserted asynchronous reset acts before anything is read
abbrev pub held : Block → Values → Map → Map
held b p m = reset_where b (λ f. is_asserted b p f.reset_by && not f.reset_by.sync) m

-- The next values of the fields, all from the same map

abbrev pub moved : Block → Now → ItemValues → Map
moved b n v (Val k) = of_field b k 0 (λ f. changed b n v k f (n.kept (Val k)))
moved b n v (Last k) = of_field b k 0 (λ f. source_value n v f)
moved b n v (Done k) = if uses_up b n v n.access k then 1 else n.kept (Done k)
moved b n v Waited = n.kept Waited
moved b n v Data = n.kept Data
moved b n v Error = n.kept Error

abbrev pub next : Block → Now → ItemValues → Map
next b n v = reset_where b (λ f. is_asserted b n.pins f.reset_by) (moved b n v)

-- the outputs behind those of the bus, in port order
abbrev pub outputs : Block → ItemValues → List ℕ
outputs b v = map (λ o. v o.item) (outlets b)
