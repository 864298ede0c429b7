-- Which effects speak of writes, of reads, and of what hardware does to the value.
use Rattle.std.specs.Prelude.{Bool, true, false, not, List}
use Rattle.std.specs.List.{list_any}
use Rattle.block_effects.specs.declared.kinds.Effect.{Effect}
use Rattle.block_effects.specs.declared.kinds.Effect.TheVariants as effect

abbrev pub is_of_writes : Effect → Bool
is_of_writes (effect.Bits high low width) = false
is_of_writes effect.Once = true
is_of_writes (effect.Writes o) = true
is_of_writes (effect.Reads o) = false
is_of_writes (effect.WritesWhile g) = true
is_of_writes (effect.ViewOf k) = false
is_of_writes effect.Pulse = false
is_of_writes (effect.Latches l) = false
is_of_writes (effect.HasInput i) = false
is_of_writes (effect.Takes i) = false
is_of_writes effect.IsWire = false
is_of_writes effect.Loads = false
is_of_writes (effect.LoadsWhile g) = false
is_of_writes (effect.CountsUp p) = false
is_of_writes (effect.StopsUp l) = false
is_of_writes effect.WrapsUp = false
is_of_writes (effect.CountsDown p) = false
is_of_writes (effect.StopsDown l) = false
is_of_writes effect.WrapsDown = false
is_of_writes (effect.UpperThreshold l) = false
is_of_writes (effect.LowerThreshold l) = false
is_of_writes (effect.SetWhile i) = false
is_of_writes (effect.ClearedWhile i) = false
is_of_writes (effect.Keeps m) = false
is_of_writes (effect.Interrupts m) = false
is_of_writes effect.AllInterrupt = false
is_of_writes (effect.Halts m) = false
is_of_writes effect.HardwareFirst = false
is_of_writes effect.IsConstant = false
is_of_writes (effect.Shows o) = false
is_of_writes (effect.ResetBy r) = false

abbrev pub is_of_reads : Effect → Bool
is_of_reads (effect.Bits high low width) = false
is_of_reads effect.Once = false
is_of_reads (effect.Writes o) = false
is_of_reads (effect.Reads o) = true
is_of_reads (effect.WritesWhile g) = false
is_of_reads (effect.ViewOf k) = false
is_of_reads effect.Pulse = false
is_of_reads (effect.Latches l) = false
is_of_reads (effect.HasInput i) = false
is_of_reads (effect.Takes i) = false
is_of_reads effect.IsWire = false
is_of_reads effect.Loads = false
is_of_reads (effect.LoadsWhile g) = false
is_of_reads (effect.CountsUp p) = false
is_of_reads (effect.StopsUp l) = false
is_of_reads effect.WrapsUp = false
is_of_reads (effect.CountsDown p) = false
is_of_reads (effect.StopsDown l) = false
is_of_reads effect.WrapsDown = false
is_of_reads (effect.UpperThreshold l) = false
is_of_reads (effect.LowerThreshold l) = false
is_of_reads (effect.SetWhile i) = false
is_of_reads (effect.ClearedWhile i) = false
is_of_reads (effect.Keeps m) = false
is_of_reads (effect.Interrupts m) = false
is_of_reads effect.AllInterrupt = false
is_of_reads (effect.Halts m) = false
is_of_reads effect.HardwareFirst = false
is_of_reads effect.IsConstant = false
is_of_reads (effect.Shows o) = false
is_of_reads (effect.ResetBy r) = false

-- effects by which hardware changes a value that is kept
abbrev pub is_of_hardware : Effect → Bool
is_of_hardware (effect.Bits high low width) = false
is_of_hardware effect.Once = false
is_of_hardware (effect.Writes o) = false
is_of_hardware (effect.Reads o) = false
is_of_hardware (effect.WritesWhile g) = false
is_of_hardware (effect.ViewOf k) = false
is_of_hardware effect.Pulse = true
is_of_hardware (effect.Latches l) = true
is_of_hardware (effect.HasInput i) = false
is_of_hardware (effect.Takes i) = false
is_of_hardware effect.IsWire = false
is_of_hardware effect.Loads = true
is_of_hardware (effect.LoadsWhile g) = true
is_of_hardware (effect.CountsUp p) = true
is_of_hardware (effect.StopsUp l) = false
is_of_hardware effect.WrapsUp = false
is_of_hardware (effect.CountsDown p) = true
is_of_hardware (effect.StopsDown l) = false
is_of_hardware effect.WrapsDown = false
is_of_hardware (effect.UpperThreshold l) = false
is_of_hardware (effect.LowerThreshold l) = false
is_of_hardware (effect.SetWhile i) = true
is_of_hardware (effect.ClearedWhile i) = true
is_of_hardware (effect.Keeps m) = true
is_of_hardware (effect.Interrupts m) = false
is_of_hardware effect.AllInterrupt = false
is_of_hardware (effect.Halts m) = false
is_of_hardware effect.HardwareFirst = false
is_of_hardware effect.IsConstant = false
is_of_hardware (effect.Shows o) = false
is_of_hardware (effect.ResetBy r) = false

-- no effect of the list passes the test
abbrev pub lacks : (Effect → Bool) → List Effect → Bool
lacks test es = not (list_any test es)
