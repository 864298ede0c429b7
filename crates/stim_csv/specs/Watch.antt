-- The bus as the program watches it.
use Rattle.std.specs.Prelude.{ℕ, ◌==◌, Bool, true, false, not, ◌&&◌, ◌||◌, if◌then◌else◌}
use Rattle.rb_model.specs.Protocol as protocol
use Rattle.rb_model.specs.Protocol.{is_wait}
use Rattle.stim_csv.specs.declared.protocol.Bus.{Bus}
use Rattle.stim_csv.specs.declared.protocol.Phase.{Phase}
use Rattle.stim_csv.specs.declared.protocol.Phase.TheVariants as phase

abbrev pub bus_seen : Bus → protocol.Bus
bus_seen p = record { resetn = p.resetn; address = p.address; select = p.select; enable = p.enable; write = p.write; data_in = p.data_in }

abbrev pub phase_seen : Phase → protocol.Phase
phase_seen phase.Idle = protocol.IDLE
phase_seen phase.Setup = protocol.SETUP
phase_seen phase.Wait = protocol.WAIT
phase_seen phase.Access = protocol.ACCESS

-- What the protocol asks of a vector, as tests.

abbrev pub is_setup : protocol.Phase → Bool
is_setup protocol.IDLE = false
is_setup protocol.SETUP = true
is_setup protocol.WAIT = false
is_setup protocol.ACCESS = false

abbrev pub is_under_way : protocol.Phase → Bool
is_under_way p = is_setup p || is_wait p

abbrev pub are_held : (before now : protocol.Bus) → Bool
are_held before now = now.address == before.address && now.write == before.write && (not (now.write == 1) || now.data_in == before.data_in)

abbrev pub may_complete : (waits : ℕ) → protocol.Phase → Bool
may_complete waits last = if waits == 1 then is_wait last else is_setup last

abbrev pub is_kept : protocol.Phase → (waits : ℕ) (last : protocol.Phase) (before now : protocol.Bus) → Bool
is_kept protocol.IDLE waits last before now = if now.resetn == 0 then now.select == 0 else not (is_under_way last)
is_kept protocol.SETUP waits last before now = not (is_under_way last)
is_kept protocol.WAIT waits last before now = is_setup last && are_held before now
is_kept protocol.ACCESS waits last before now = may_complete waits last && are_held before now
