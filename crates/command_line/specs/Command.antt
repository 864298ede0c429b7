-- A command of the code, without where its words lie in memory.
use Rattle.std.specs.Prelude.{Option, None, Some, option_copied}
use Rattle.command_line.specs.Words as words
use Rattle.command_line.specs.Words.{texts}
use Rattle.command_line.specs.Found as found
use Rattle.command_line.specs.declared.words.Command.{Command}
use Rattle.command_line.specs.declared.words.Command.TheVariants.{Axi, Check, Compile, Drive, Gen, Header, Manual, Map, Pins, Run, Sim, Vcd}
use Rattle.command_line.specs.declared.flags.Topped.{Topped}
use Rattle.command_line.specs.declared.flags.Waited.{Waited}

abbrev pub view : Command → words.Command
view (Compile waits top source) = words.compile waits (option_copied top) source.now
view (Check top sources) = words.check (option_copied top) (texts sources.now)
view (Map top source) = words.map_of (option_copied top) source.now
view (Header top source) = words.header_of (option_copied top) source.now
view (Manual top source) = words.manual_of (option_copied top) source.now
view (Axi top source) = words.axi_of (option_copied top) source.now
view (Sim verilog stimulus) = words.sim verilog.now stimulus.now
view (Vcd verilog stimulus) = words.vcd verilog.now stimulus.now
view (Pins waves) = words.pins_of waves.now
view (Run waits top source stimulus) = words.run_of waits (option_copied top) source.now stimulus.now
view (Drive top source script) = words.drive_of (option_copied top) source.now script.now
view (Gen count) = words.gen_of count

abbrev pub view_all : Option Command → Option words.Command
view_all None = None
view_all (Some c) = Some (view c)

abbrev pub view_top : Option Topped → Option found.Topped
view_top None = None
view_top (Some t) = Some (record { top = option_copied t.top; rest = texts t.rest.now })

abbrev pub view_waited : Option Waited → Option found.Waited
view_waited None = None
view_waited (Some w) = Some (record { waits = w.waits; rest = texts w.rest.now })
