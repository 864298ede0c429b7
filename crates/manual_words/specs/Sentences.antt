-- Effects in words.
use Rattle.std.specs.Prelude.{ℕ, Bool, true, false, cond, List, [], ◌∷◌, ◌++◌, codes, decimal, flat_map, Option, None, Some}
use Rattle.rb_base.specs.declared.trigger.Trigger.{Trigger}
use Rattle.rb_base.specs.declared.trigger.Trigger.TheVariants as trigger
use Rattle.rb_model.specs.declared.kinds.Amount.{Amount}
use Rattle.rb_model.specs.declared.kinds.Amount.TheVariants as amount
use Rattle.rb_model.specs.declared.kinds.Feed.{Feed}
use Rattle.rb_model.specs.declared.kinds.Gate.{Gate}
use Rattle.rb_model.specs.declared.kinds.Gate.TheVariants as gate
use Rattle.rb_model.specs.declared.kinds.Latch.{Latch}
use Rattle.rb_model.specs.declared.kinds.Latch.TheVariants as latch
use Rattle.rb_model.specs.declared.kinds.Level.{Level}
use Rattle.rb_model.specs.declared.kinds.Level.TheVariants as level
use Rattle.rb_model.specs.declared.kinds.Mask.{Mask}
use Rattle.rb_model.specs.declared.kinds.Mask.TheVariants as mask
use Rattle.rb_model.specs.declared.kinds.OnRead.{OnRead}
use Rattle.rb_model.specs.declared.kinds.OnRead.TheVariants as on_read
use Rattle.rb_model.specs.declared.kinds.OnWrite.{OnWrite}
use Rattle.rb_model.specs.declared.kinds.OnWrite.TheVariants as on_write
use Rattle.rb_model.specs.declared.kinds.Part.{Part}
use Rattle.rb_model.specs.declared.kinds.RefItem.{RefItem}
use Rattle.rb_model.specs.declared.kinds.ResetBy.{ResetBy}
use Rattle.rb_model.specs.declared.kinds.Shown.{Shown}
use Rattle.rb_model.specs.Ports.{shown_word}
use Rattle.block_effects.specs.declared.kinds.Effect.{Effect}
use Rattle.block_effects.specs.declared.kinds.Effect.TheVariants as effect
use Rattle.manual_words.specs.Names.{Sight, feed_text, field_item, item_text, pin_name, pin_text, signal_item}
use Rattle.html_text.specs.Tags.{hex}

abbrev pub write_words : OnWrite → List ℕ
write_words on_write.Off = codes "A write stores its bits."
write_words on_write.WoSet = codes "A written 1 sets its bit."
write_words on_write.WoClr = codes "A written 1 clears its bit."
write_words on_write.WoT = codes "A written 1 inverts its bit."
write_words on_write.WzS = codes "A written 0 sets its bit."
write_words on_write.WzC = codes "A written 0 clears its bit."
write_words on_write.WzT = codes "A written 0 inverts its bit."
write_words on_write.WClr = codes "Any write clears all bits."
write_words on_write.WSet = codes "Any write sets all bits."

abbrev pub read_words : OnRead → List ℕ
read_words on_read.Off = codes "A read changes nothing."
read_words on_read.RClr = codes "A read clears all bits."
read_words on_read.RSet = codes "A read sets all bits."

abbrev pub event_words : Trigger → List ℕ
event_words trigger.Level = codes "while its input is 1"
event_words trigger.Posedge = codes "at a rising edge of its input"
event_words trigger.Negedge = codes "at a falling edge of its input"
event_words trigger.Bothedge = codes "at any edge of its input"
event_words trigger.Nonsticky = codes "while its input is 1"

abbrev pub event_text : Trigger → (end : List ℕ) → List ℕ
event_text e end = codes "Interrupt: a bit is set " ++ event_words e ++ end

abbrev pub latch_words : Latch → List ℕ
latch_words latch.Off = codes "No interrupt."
latch_words (latch.Bits e) = event_text e (codes ".")
latch_words (latch.Whole e) = event_text e (codes ", and further ones not until all are cleared.")
latch_words latch.Plain = codes "Interrupt: it keeps no event."

abbrev pub gated : Sight → Feed → (role path end : List ℕ) → List ℕ
gated s x role path end = codes "while " ++ feed_text s x role path ++ end

-- what is 1 or 0 for a gate
abbrev pub gate_text : Sight → Gate → (high low path : List ℕ) → List ℕ
gate_text s gate.Always high low path = codes "always"
gate_text s (gate.High x) high low path = gated s x high path (codes " is 1")
gate_text s (gate.Low x) high low path = gated s x low path (codes " is 0")

abbrev pub with_item : Sight → (before : List ℕ) → RefItem → List ℕ
with_item s before i = before ++ item_text s i

abbrev pub mask_text : Sight → Mask → List ℕ
mask_text s mask.Off = codes "All bits"
mask_text s (mask.Enable i) = with_item s (codes "Bits that are 1 in ") i
mask_text s (mask.Mask i) = with_item s (codes "Bits that are 0 in ") i

abbrev pub level_text : Sight → Level → List ℕ
level_text s (level.Number n) = hex n
level_text s (level.Item i) = item_text s i

abbrev pub amount_text : Sight → Amount → (role path : List ℕ) → List ℕ
amount_text s (amount.Number n) role path = decimal n
amount_text s (amount.Item i) role path = item_text s i
amount_text s (amount.Pin w) role path = pin_text s role path

-- `up` or `down`, and the roles of the pins
abbrev pub count_text : Sight → Part → (way pulse by path : List ℕ) → List ℕ
count_text s p way pulse by path = codes "Counts " ++ way ++ codes " by " ++ amount_text s p.amount by path ++ codes " in each cycle in which " ++ feed_text s p.pulse pulse path ++ codes " is 1."

abbrev pub level_words : Bool → List ℕ
level_words low = cond low (codes "low") (codes "high")

abbrev pub edge_words : Bool → List ℕ
edge_words sync = cond sync (codes "synchronous") (codes "asynchronous")

abbrev pub kinds_text : (low sync : Bool) → List ℕ
kinds_text low sync = level_words low ++ codes ", " ++ edge_words sync

abbrev pub reset_signal : Sight → Option ℕ → List ℕ
reset_signal s None = codes "<code>PRESETn</code>"
reset_signal s (Some k) = signal_item s k

abbrev pub reset_text : Sight → ResetBy → List ℕ
reset_text s r = codes "Reset by " ++ reset_signal s r.signal ++ codes ", " ++ kinds_text r.low r.sync ++ codes "."

abbrev pub bits_text : (high low width : ℕ) → List ℕ
bits_text high low width = codes "Bits " ++ decimal high ++ codes " to " ++ decimal low ++ codes " of the field&#39;s " ++ decimal width ++ codes "."

-- words, and what they are about

abbrev pub about_text : Sight → (before : List ℕ) → RefItem → List ℕ
about_text s before i = before ++ item_text s i ++ codes "."

abbrev pub view_text : Sight → ℕ → List ℕ
view_text s k = codes "Another view of " ++ field_item s k [] ++ codes "."

abbrev pub gated_text : Sight → (before : List ℕ) → Gate → (high low path : List ℕ) → List ℕ
gated_text s before g high low path = before ++ gate_text s g high low path ++ codes "."

abbrev pub at_level_text : Sight → (before : List ℕ) → Level → List ℕ
at_level_text s before l = before ++ level_text s l ++ codes "."

abbrev pub while_text : Sight → (before : List ℕ) → Feed → (role path : List ℕ) → List ℕ
while_text s before x role path = before ++ feed_text s x role path ++ codes " is 1."

abbrev pub masked_text : Sight → Mask → (behind : List ℕ) → List ℕ
masked_text s m behind = mask_text s m ++ behind

abbrev pub output_text : Sight → Shown → (path : List ℕ) → List ℕ
output_text s o path = codes "Output " ++ pin_name s (shown_word o) path ++ codes "."

-- A sentence, of a field of this path that is seen by a view of that path.
abbrev pub sentence : Sight → (field view : List ℕ) → Effect → List ℕ
sentence s f v (effect.Bits high low width) = bits_text high low width
sentence s f v effect.Once = codes "Written once after a reset; later writes have no effect."
sentence s f v (effect.Writes o) = write_words o
sentence s f v (effect.Reads o) = read_words o
sentence s f v (effect.WritesWhile g) = gated_text s (codes "Writes act ") g (codes "swwe$") (codes "swwel$") v
sentence s f v (effect.ViewOf k) = view_text s k
sentence s f v effect.Pulse = codes "Single pulse: a written 1 lasts one clock cycle."
sentence s f v (effect.Latches l) = latch_words l
sentence s f v (effect.HasInput i) = about_text s (codes "Its input is ") i
sentence s f v (effect.Takes i) = about_text s (codes "Takes the value of ") i
sentence s f v effect.IsWire = codes "Not stored: a read gives its input."
sentence s f v effect.Loads = codes "Loaded at every clock edge."
sentence s f v (effect.LoadsWhile g) = gated_text s (codes "Loaded ") g (codes "we$") (codes "wel$") f
sentence s f v (effect.CountsUp p) = count_text s p (codes "up") (codes "incr$") (codes "incrvalue$") f
sentence s f v (effect.StopsUp l) = at_level_text s (codes "Counting up stops at ") l
sentence s f v effect.WrapsUp = codes "Counting up wraps at its width."
sentence s f v (effect.CountsDown p) = count_text s p (codes "down") (codes "decr$") (codes "decrvalue$") f
sentence s f v (effect.StopsDown l) = at_level_text s (codes "Counting down stops at ") l
sentence s f v effect.WrapsDown = codes "Counting down wraps at 0."
sentence s f v (effect.UpperThreshold l) = at_level_text s (codes "Upper threshold ") l
sentence s f v (effect.LowerThreshold l) = at_level_text s (codes "Lower threshold ") l
sentence s f v (effect.SetWhile x) = while_text s (codes "All bits are set while ") x (codes "hwset$") f
sentence s f v (effect.ClearedWhile x) = while_text s (codes "All bits are cleared while ") x (codes "hwclr$") f
sentence s f v (effect.Keeps m) = masked_text s m (codes " are those that hardware changes.")
sentence s f v (effect.Interrupts m) = masked_text s m (codes " count for the interrupt output.")
sentence s f v effect.AllInterrupt = codes "All bits count for the interrupt output."
sentence s f v (effect.Halts m) = masked_text s m (codes " count for the halt output.")
sentence s f v effect.HardwareFirst = codes "Hardware wins over software at one clock edge."
sentence s f v effect.IsConstant = codes "Constant."
sentence s f v (effect.Shows o) = output_text s o f
sentence s f v (effect.ResetBy r) = reset_text s r

abbrev pub point : Sight → (field view : List ℕ) → Effect → List ℕ
point s f v e = codes "<li>" ++ sentence s f v e ++ codes "</li>"

abbrev pub listed : Sight → (field view : List ℕ) → List Effect → List ℕ
listed s f v es = codes "<ul>" ++ flat_map (point s f v) es ++ codes "</ul>"

-- the effects as a list, or nothing
abbrev pub points : Sight → (field view : List ℕ) → List Effect → List ℕ
points s f v [] = []
points s f v (e ∷ es) = listed s f v (e ∷ es)
