-- What software and hardware make of a field's value v of width w (SystemRDL 2.0, clause 9).
use Rattle.std.specs.Prelude.{ℕ, ◌+◌, ◌-◌, ◌%◌, ◌^◌, ◌==◌, Bool, true, false, not, ◌&&◌, nat_le, nat_lt, if◌then◌else◌, Option, Some, None, is_some, unwrap_or, bit_and, bit_or, bit_xor}
use Rattle.rb_base.specs.Bits.{ones}
use Rattle.v_design.specs.Expr.{bit_of}
use Rattle.rb_model.specs.declared.kinds.OnWrite.{OnWrite}
use Rattle.rb_model.specs.declared.kinds.OnWrite.TheVariants as on_write
use Rattle.rb_model.specs.declared.kinds.OnRead.{OnRead}
use Rattle.rb_model.specs.declared.kinds.OnRead.TheVariants as on_read
use Rattle.rb_model.specs.declared.kinds.Gate.{Gate}
use Rattle.rb_model.specs.declared.kinds.Gate.TheVariants as gate
use Rattle.rb_model.specs.declared.kinds.Mask.{Mask}
use Rattle.rb_model.specs.declared.kinds.Mask.TheVariants as mask
use Rattle.rb_base.specs.declared.trigger.Trigger.{Trigger}
use Rattle.rb_base.specs.declared.trigger.Trigger.TheVariants as trigger
use Rattle.rb_model.specs.declared.kinds.Latch.{Latch}
use Rattle.rb_model.specs.declared.kinds.Latch.TheVariants as latch
use Rattle.rb_model.specs.declared.block.Field.{Field}
use Rattle.rb_model.specs.declared.block.View.{View}

-- each bit of v turned
abbrev pub turned : ℕ → ℕ → ℕ
turned w v = ones w - v

-- a gate is active, whose pin or item has the value x
abbrev pub is_open : Gate → ℕ → Bool
is_open gate.Always x = true
is_open (gate.High from) x = x == 1
is_open (gate.Low from) x = x == 0

abbrev pub is_gated : Gate → Bool
is_gated gate.Always = false
is_gated (gate.High from) = true
is_gated (gate.Low from) = true

-- Software

-- a write of the bits d (9.6, onwrite)
abbrev pub written : OnWrite → (w v d : ℕ) → ℕ
written on_write.Off w v d = d
written on_write.WoSet w v d = bit_or v d
written on_write.WoClr w v d = bit_and v (turned w d)
written on_write.WoT w v d = bit_xor v d
written on_write.WzS w v d = bit_or v (turned w d)
written on_write.WzC w v d = bit_and v d
written on_write.WzT w v d = bit_xor v (turned w d)
written on_write.WClr w v d = 0
written on_write.WSet w v d = ones w

-- a read (9.6, onread)
abbrev pub after_read : OnRead → (w v : ℕ) → ℕ
after_read on_read.Off w v = v
after_read on_read.RClr w v = 0
after_read on_read.RSet w v = ones w

abbrev pub has_read_effect : OnRead → Bool
has_read_effect on_read.Off = false
has_read_effect on_read.RClr = true
has_read_effect on_read.RSet = true

-- a write through the view acts, where its gate has the value g and the field's mark of a write the value done
abbrev pub acts : View → (g done : ℕ) → Bool
acts view g done = view.writes && is_open view.gate g && not (view.once && done == 1)

abbrev pub after_write : View → (w g done v d : ℕ) → ℕ
after_write view w g done v d = if acts view g done then written view.on_write w v d else v

-- Hardware: the steps in the order in which they apply, each over the value that the step before gave (this project's rule)

-- 1. load: a latching interrupt, as a field that hardware doesn't write, takes no number, and a counter only through a gate
abbrev pub is_latching : Latch → Bool
is_latching latch.Off = false
is_latching (latch.Bits e) = true
is_latching (latch.Whole e) = true
is_latching latch.Plain = false

abbrev pub loads : Field → Bool
loads f = if is_some f.count then is_gated f.gate else f.hw_writes && not (is_latching f.latch)

abbrev pub loaded : Field → (v from g : ℕ) → ℕ
loaded f v from g = if f.pulse then 0 else (if loads f && is_open f.gate g then from else v)

-- 2. count, over whole numbers: v + up - down is compared with a number by moving down to the other side
abbrev pub is_over : (v up down : ℕ) → Option ℕ → Bool
is_over v up down None = false
is_over v up down (Some high) = nat_lt 0 up && nat_lt (high + down) (v + up)

abbrev pub is_under : (v up down : ℕ) → Option ℕ → Bool
is_under v up down None = false
is_under v up down (Some low) = nat_lt 0 down && nat_lt (v + up) (low + down)

abbrev pub counted : (w v up down : ℕ) → (high low : Option ℕ) → ℕ
counted w v up down high low =
    if is_over v up down high then unwrap_or high 0 else (if is_under v up down low then unwrap_or low 0 else (v + up + 2 ^ w - down) % 2 ^ w)

abbrev pub overflows : (w v up down : ℕ) → ℕ
overflows w v up down = bit_of (nat_le (2 ^ w + down) (v + up))

abbrev pub underflows : (v up down : ℕ) → ℕ
underflows v up down = bit_of (nat_lt (v + up) down)

-- 3. latch
abbrev pub events : Trigger → (w input last : ℕ) → ℕ
events trigger.Level w input last = input
events trigger.Posedge w input last = bit_and input (turned w last)
events trigger.Negedge w input last = bit_and (turned w input) last
events trigger.Bothedge w input last = bit_xor input last
events trigger.Nonsticky w input last = input

abbrev pub latched : Latch → (w v input last : ℕ) → ℕ
latched latch.Off w v input last = v
latched (latch.Bits e) w v input last = bit_or v (events e w input last)
latched (latch.Whole e) w v input last = if v == 0 then events e w input last else v
latched latch.Plain w v input last = v

-- 4 and 5. hwset and hwclr
abbrev pub set_or_cleared : (w v set clear : ℕ) → ℕ
set_or_cleared w v set clear = if clear == 1 then 0 else (if set == 1 then ones w else v)

-- 6. hwenable and hwmask: which bits of old stay
abbrev pub masked : Mask → (w old v x : ℕ) → ℕ
masked mask.Off w old v x = v
masked (mask.Enable i) w old v x = bit_or (bit_and v x) (bit_and old (turned w x))
masked (mask.Mask i) w old v x = bit_or (bit_and v (turned w x)) (bit_and old x)

abbrev pub finished : Field → (old v set clear x : ℕ) → ℕ
finished f old v set clear x = masked f.keep f.width old (set_or_cleared f.width v set clear) x

-- the bits of an interrupt that count
abbrev pub counting : Mask → (w v x : ℕ) → ℕ
counting mask.Off w v x = v
counting (mask.Enable i) w v x = bit_and v x
counting (mask.Mask i) w v x = bit_and v (turned w x)
