-- What each effect says, over the register machine (SystemRDL 2.0, clause 9).
use Rattle.std.specs.Prelude.{◌≡◌, ◌≢◌, ℕ, ◌+◌, ◌-◌, ◌%◌, ◌^◌, ◌<◌, ◌==◌, Bool, true, false, cond, if◌then◌else◌, unwrap_or, ◌++◌, codes, slice_get, Some, nat_le}
use Rattle.std.specs.Int.{bit_at}
use Rattle.rb_base.specs.Bits.{ones}
use Rattle.rb_base.specs.declared.trigger.Trigger.{Trigger}
use Rattle.rb_base.specs.declared.trigger.Trigger.TheVariants as trigger
use Rattle.v_design.specs.Expr.{Values, bit_of}
use Rattle.rb_model.specs.declared.kinds.Feed.{Feed}
use Rattle.rb_model.specs.declared.kinds.Latch.{Latch}
use Rattle.rb_model.specs.declared.kinds.Latch.TheVariants as latch
use Rattle.rb_model.specs.declared.kinds.Mask.{Mask}
use Rattle.rb_model.specs.declared.kinds.Mask.TheVariants as mask
use Rattle.rb_model.specs.declared.kinds.OnRead.{OnRead}
use Rattle.rb_model.specs.declared.kinds.OnRead.TheVariants as on_read
use Rattle.rb_model.specs.declared.kinds.OnWrite.{OnWrite}
use Rattle.rb_model.specs.declared.kinds.OnWrite.TheVariants as on_write
use Rattle.rb_model.specs.declared.kinds.Part.{Part}
use Rattle.rb_model.specs.declared.kinds.RefItem.TheVariants as item
use Rattle.rb_model.specs.declared.kinds.ResetBy.{ResetBy}
use Rattle.rb_model.specs.declared.block.Block.{Block}
use Rattle.rb_model.specs.declared.block.Field.{Field}
use Rattle.rb_model.specs.declared.block.Slot.{Slot}
use Rattle.rb_model.specs.declared.block.View.{View}
use Rattle.rb_model.specs.Effects.{acts, after_read, counting, is_open, latched, loaded, masked, written}
use Rattle.rb_model.specs.Items.{Now, ItemValues, amount_value, class_value, down, fed, level_value, made, mask_value, source_value, up}
use Rattle.rb_model.specs.Kept.{Map, Val}
use Rattle.rb_model.specs.Machine.{changed, counts, hardware, held, next, reset_pin, software}
use Rattle.block_effects.specs.declared.kinds.Effect.{Effect}
use Rattle.block_effects.specs.declared.kinds.Effect.TheVariants as effect

-- Bit by bit

-- what a write makes of the bit x of a value, where the bit d is written
abbrev pub written_bit : OnWrite → (x d : ℕ) → ℕ
written_bit on_write.Off x d = d
written_bit on_write.WoSet x d = cond (d == 1) 1 x
written_bit on_write.WoClr x d = cond (d == 1) 0 x
written_bit on_write.WoT x d = cond (d == 1) (1 - x) x
written_bit on_write.WzS x d = cond (d == 0) 1 x
written_bit on_write.WzC x d = cond (d == 0) 0 x
written_bit on_write.WzT x d = cond (d == 0) (1 - x) x
written_bit on_write.WClr x d = 0
written_bit on_write.WSet x d = 1

abbrev pub SaysOfWrite : OnWrite → View → Field → Type 0
SaysOfWrite o v f = (x d k : ℕ) → x < 2 ^ f.width → d < 2 ^ f.width → k < f.width
    → bit_at (written v.on_write f.width x d) k ≡ written_bit o (bit_at x k) (bit_at d k)

abbrev pub value_read : OnRead → (w x : ℕ) → ℕ
value_read on_read.Off w x = x
value_read on_read.RClr w x = 0
value_read on_read.RSet w x = ones w

-- whether an event is kept of a bit whose input is i and was last
abbrev pub event_bit : Trigger → (i last : ℕ) → Bool
event_bit trigger.Level i last = i == 1
event_bit trigger.Posedge i last = cond (last == 0) (i == 1) false
event_bit trigger.Negedge i last = cond (last == 1) (i == 0) false
event_bit trigger.Bothedge i last = cond (last == 0) (i == 1) (i == 0)
event_bit trigger.Nonsticky i last = i == 1

-- what an edge makes of the bits of a value x
abbrev pub SaysOfLatch : Latch → Field → Type 0
SaysOfLatch latch.Off f = (x input last : ℕ) → latched f.latch f.width x input last ≡ x
SaysOfLatch (latch.Bits e) f = (x input last k : ℕ) → input < 2 ^ f.width → last < 2 ^ f.width → k < f.width
    → bit_at (latched f.latch f.width x input last) k ≡ cond (event_bit e (bit_at input k) (bit_at last k)) 1 (bit_at x k)
SaysOfLatch (latch.Whole e) f = ((x input last : ℕ) → x ≢ 0 → latched f.latch f.width x input last ≡ x)
    × ((input last k : ℕ) → input < 2 ^ f.width → last < 2 ^ f.width → k < f.width
    → bit_at (latched f.latch f.width 0 input last) k ≡ cond (event_bit e (bit_at input k) (bit_at last k)) 1 0)
SaysOfLatch latch.Plain f = (x input last : ℕ) → latched f.latch f.width x input last ≡ x

-- a mask whose bit is x lets a bit through
abbrev pub lets : Mask → ℕ → Bool
lets mask.Off x = true
lets (mask.Enable i) x = x == 1
lets (mask.Mask i) x = x == 0

-- of two bits the first where the mask's bit x lets it through, else the second
abbrev pub masked_bit : Mask → (x first second : ℕ) → ℕ
masked_bit m x first second = cond (lets m x) first second

-- a bit that the mask doesn't let through stays at an edge
abbrev pub SaysOfKeep : Mask → Field → Type 0
SaysOfKeep m f = (n : Now) (u : ItemValues) (k x i : ℕ) → mask_value u m < 2 ^ f.width → i < f.width → lets m (bit_at (mask_value u m) i) ≡ false
    → bit_at (hardware n u k f x) i ≡ bit_at x i

-- which bits of an interrupt count under a mask
abbrev pub SaysOfCounting : (is said : Mask) → (w : ℕ) → Type 0
SaysOfCounting is said w = (v x k : ℕ) → x < 2 ^ w → k < w
    → bit_at (counting is w v x) k ≡ masked_bit said (bit_at x k) (bit_at v k) 0

-- Counting, in one direction alone where the other one isn't at work

abbrev pub SaysOfUp : Part → Field → Type 0
SaysOfUp p f = (n : Now) (v : ItemValues)
    → up n v f ≡ if fed n v p.pulse (codes "incr$" ++ f.path) == 0 then 0 else amount_value n v p.amount (codes "incrvalue$" ++ f.path)

abbrev pub SaysOfDown : Part → Field → Type 0
SaysOfDown p f = (n : Now) (v : ItemValues)
    → down n v f ≡ if fed n v p.pulse (codes "decr$" ++ f.path) == 0 then 0 else amount_value n v p.amount (codes "decrvalue$" ++ f.path)

-- Setting and clearing all bits that the mask of the field lets through

abbrev pub SaysOfSet : Feed → Field → Type 0
SaysOfSet from f = (n : Now) (u : ItemValues) (k x : ℕ) → fed n u from (codes "hwset$" ++ f.path) ≡ 1 → fed n u f.clear (codes "hwclr$" ++ f.path) ≢ 1
    → hardware n u k f x ≡ masked f.keep f.width x (ones f.width) (mask_value u f.keep)

abbrev pub SaysOfClear : Feed → Field → Type 0
SaysOfClear from f = (n : Now) (u : ItemValues) (k x : ℕ) → fed n u from (codes "hwclr$" ++ f.path) ≡ 1
    → hardware n u k f x ≡ masked f.keep f.width x 0 (mask_value u f.keep)

-- Resets

-- the pin of a reset is at its active level
abbrev pub IsAtReset : Block → Values → ResetBy → Type 0
IsAtReset b p r = reset_pin b p r ≡ if r.low then 0 else 1

-- What the reset of a field does to its value: at an edge the field takes its reset value, and before anything is read it does
-- so where the reset is asynchronous, and else stays.
pub record SaysOfReset (r : ResetBy) (f : Field) : Type 0 where
  pub is : f.reset_by ≡ r
  pub at_edge : (b : Block) (n : Now) (u : ItemValues) (k x : ℕ) → slice_get b.fields k ≡ Some f → f.reset ≡ Some x → IsAtReset b n.pins r → next b n u (Val k) ≡ x
  pub asynchronous : (b : Block) (p : Values) (m : Map) (k x : ℕ) → slice_get b.fields k ≡ Some f → f.reset ≡ Some x → IsAtReset b p r → r.sync ≡ false → held b p m (Val k) ≡ x
  pub synchronous : (b : Block) (p : Values) (m : Map) (k : ℕ) → slice_get b.fields k ≡ Some f → r.sync ≡ true → held b p m (Val k) ≡ m (Val k)

abbrev pub Says : Slot → View → Field → Effect → Type 0
Says s v f (effect.Bits high low width) = (high ≡ s.from + s.bits - 1) × (low ≡ s.from) × (width ≡ f.width)
Says s v f effect.Once = (g : ℕ) → acts v g 1 ≡ false
Says s v f (effect.Writes o) = SaysOfWrite o v f
Says s v f (effect.Reads o) = (x : ℕ) → after_read v.on_read f.width x ≡ value_read o f.width x
Says s v f (effect.WritesWhile g) = (v.gate ≡ g) × ((x done : ℕ) → is_open g x ≡ false → acts v x done ≡ false)
Says s v f (effect.ViewOf k) = (v.alias ≡ true) × (v.field ≡ k)
Says s v f effect.Pulse = (x from g : ℕ) → loaded f x from g ≡ 0
Says s v f (effect.Latches l) = SaysOfLatch l f
Says s v f (effect.HasInput i) = (n : Now) (u : ItemValues) → source_value n u f ≡ u i
Says s v f (effect.Takes i) = (n : Now) (u : ItemValues) → source_value n u f ≡ u i
Says s v f effect.IsWire = (n : Now) (u : ItemValues) (k : ℕ) → class_value n u f.class k f ≡ source_value n u f
Says s v f effect.Loads = (x from g : ℕ) → loaded f x from g ≡ from
Says s v f (effect.LoadsWhile g) = (f.gate ≡ g) × ((x from y : ℕ) → loaded f x from y ≡ if is_open g y then from else x)
Says s v f (effect.CountsUp p) = SaysOfUp p f
Says s v f (effect.StopsUp l) = (n : Now) (u : ItemValues) (x : ℕ) → 0 < up n u f → level_value u l + down n u f < x + up n u f → counts n u f x ≡ level_value u l
Says s v f effect.WrapsUp = (n : Now) (u : ItemValues) (x : ℕ) → down n u f ≡ 0 → counts n u f x ≡ (x + up n u f) % 2 ^ f.width
Says s v f (effect.CountsDown p) = SaysOfDown p f
Says s v f (effect.StopsDown l) = (n : Now) (u : ItemValues) (x : ℕ) → up n u f ≡ 0 → 0 < down n u f → x < level_value u l + down n u f → counts n u f x ≡ level_value u l
Says s v f effect.WrapsDown = (n : Now) (u : ItemValues) (x : ℕ) → up n u f ≡ 0 → counts n u f x ≡ (x + 2 ^ f.width - down n u f) % 2 ^ f.width
Says s v f (effect.UpperThreshold l) = (b : Block) (n : Now) (u : ItemValues) (k : ℕ) → slice_get b.fields k ≡ Some f
    → made b n u (item.IncrThreshold k) ≡ bit_of (nat_le (level_value u l) (u (item.Field k)))
Says s v f (effect.LowerThreshold l) = (b : Block) (n : Now) (u : ItemValues) (k : ℕ) → slice_get b.fields k ≡ Some f
    → made b n u (item.DecrThreshold k) ≡ bit_of (nat_le (u (item.Field k)) (level_value u l))
Says s v f (effect.SetWhile from) = SaysOfSet from f
Says s v f (effect.ClearedWhile from) = SaysOfClear from f
Says s v f (effect.Keeps m) = SaysOfKeep m f
Says s v f (effect.Interrupts m) = (f.enable ≡ m) × SaysOfCounting f.enable m f.width
Says s v f effect.AllInterrupt = (x y : ℕ) → counting f.enable f.width x y ≡ x
Says s v f (effect.Halts m) = (f.halt ≡ m) × SaysOfCounting f.halt m f.width
Says s v f effect.HardwareFirst = (b : Block) (n : Now) (u : ItemValues) (k x : ℕ)
    → changed b n u k f x ≡ hardware n u k f (software b n u n.access k f x)
Says s v f effect.IsConstant = (n : Now) (u : ItemValues) (k : ℕ) → class_value n u f.class k f ≡ unwrap_or f.reset 0
Says s v f (effect.Shows o) = (k : ℕ) × (slice_get f.shown k ≡ Some o)
Says s v f (effect.ResetBy r) = SaysOfReset r f
