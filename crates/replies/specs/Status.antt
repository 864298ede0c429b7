use Rattle.std.specs.Prelude.{ℕ}
use Rattle.replies.specs.declared.status.Status.{Status}
use Rattle.replies.specs.declared.status.Status.TheVariants.{Done, Refused, Usage, ReadFault, WriteFault, NoMemory, TooLong, BadVerilog, BadStimulus, Protocol, BadVcd, BadScript, Unmet}

-- the exit status
abbrev pub number_of : Status → ℕ
number_of Done = 0
number_of Refused = 1
number_of Usage = 2
number_of ReadFault = 3
number_of WriteFault = 4
number_of NoMemory = 5
number_of TooLong = 6
number_of BadVerilog = 7
number_of BadStimulus = 8
number_of Protocol = 9
number_of BadVcd = 10
number_of BadScript = 11
number_of Unmet = 12
