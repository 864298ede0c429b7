use Rattle.replies.proofs.Rows.{Ends-written}
use Rattle.regblock.proofs.CompleteRuns.{complete}
use Rattle.regblock.proofs.Causes.{usage_cause, read_fault_cause, too_long_cause, write_fault_cause}
use Rattle.regblock.proofs.Headlines.{checked, documented, done, fronted, headered, mapped, not_fronted, not_headered, refused, undocumented, unmapped}
use Rattle.v_reader.proofs.Verdicts.{no_module}
use Rattle.regblock.proofs.Simulations.{simulated, bad_verilog, bad_stimulus}
use Rattle.regblock.proofs.Waves.{bad_vcd, read_back, waved, waves_bad_stimulus, waves_bad_verilog}
use Rattle.regblock.proofs.Drives.{bad_script, driven, undriven, unmet}
use Rattle.regblock.proofs.MachineRuns.{ran, not_run, unfit, protocol, generated}
use Rattle.regblock.proofs.top_call.run.Goals as goal

pub returns-in-Ok-clause-ends : goal.returns-in-Ok-clause-ends
returns-in-Ok-clause-ends g c = let w = c.write.ensures in Ends-written _ _ _ _ _ _ _ _ (c.in-Ok.ensures.outcome w.0 w.1) w.2

pub returns-in-Ok-clause-done : goal.returns-in-Ok-clause-done
returns-in-Ok-clause-done g c = done _ _ _ _ _ _ (returns-in-Ok-clause-ends g c)

pub returns-in-Ok-clause-refused : goal.returns-in-Ok-clause-refused
returns-in-Ok-clause-refused g c = refused _ _ _ _ _ _ (returns-in-Ok-clause-ends g c)

pub returns-in-Ok-clause-complete : goal.returns-in-Ok-clause-complete
returns-in-Ok-clause-complete g c = complete no_module _ _ _ _ _ _ (returns-in-Ok-clause-ends g c)

pub returns-in-Ok-clause-usage : goal.returns-in-Ok-clause-usage
returns-in-Ok-clause-usage g c = usage_cause _ _ _ _ _ _ (returns-in-Ok-clause-ends g c)

pub returns-in-Ok-clause-read_fault : goal.returns-in-Ok-clause-read_fault
returns-in-Ok-clause-read_fault g c = read_fault_cause _ _ _ _ _ _ (returns-in-Ok-clause-ends g c)

pub returns-in-Ok-clause-too_long : goal.returns-in-Ok-clause-too_long
returns-in-Ok-clause-too_long g c = too_long_cause _ _ _ _ _ _ (returns-in-Ok-clause-ends g c)

pub returns-in-Ok-clause-write_fault : goal.returns-in-Ok-clause-write_fault
returns-in-Ok-clause-write_fault g c = write_fault_cause _ _ _ _ _ _ (returns-in-Ok-clause-ends g c)

pub returns-in-Ok-clause-simulated : goal.returns-in-Ok-clause-simulated
returns-in-Ok-clause-simulated g c = simulated _ _ _ _ _ _ (returns-in-Ok-clause-ends g c)

pub returns-in-Ok-clause-bad_verilog : goal.returns-in-Ok-clause-bad_verilog
returns-in-Ok-clause-bad_verilog g c = bad_verilog _ _ _ _ _ _ (returns-in-Ok-clause-ends g c)

pub returns-in-Ok-clause-bad_stimulus : goal.returns-in-Ok-clause-bad_stimulus
returns-in-Ok-clause-bad_stimulus g c = bad_stimulus _ _ _ _ _ _ (returns-in-Ok-clause-ends g c)

pub returns-in-Ok-clause-waved : goal.returns-in-Ok-clause-waved
returns-in-Ok-clause-waved g c = waved _ _ _ _ _ _ (returns-in-Ok-clause-ends g c)

pub returns-in-Ok-clause-waves_bad_verilog : goal.returns-in-Ok-clause-waves_bad_verilog
returns-in-Ok-clause-waves_bad_verilog g c = waves_bad_verilog _ _ _ _ _ _ (returns-in-Ok-clause-ends g c)

pub returns-in-Ok-clause-waves_bad_stimulus : goal.returns-in-Ok-clause-waves_bad_stimulus
returns-in-Ok-clause-waves_bad_stimulus g c = waves_bad_stimulus _ _ _ _ _ _ (returns-in-Ok-clause-ends g c)

pub returns-in-Ok-clause-read_back : goal.returns-in-Ok-clause-read_back
returns-in-Ok-clause-read_back g c = read_back _ _ _ _ _ _ (returns-in-Ok-clause-ends g c)

pub returns-in-Ok-clause-bad_vcd : goal.returns-in-Ok-clause-bad_vcd
returns-in-Ok-clause-bad_vcd g c = bad_vcd _ _ _ _ _ _ (returns-in-Ok-clause-ends g c)

pub returns-in-Ok-clause-mapped : goal.returns-in-Ok-clause-mapped
returns-in-Ok-clause-mapped g c = mapped _ _ _ _ _ _ (returns-in-Ok-clause-ends g c)

pub returns-in-Ok-clause-unmapped : goal.returns-in-Ok-clause-unmapped
returns-in-Ok-clause-unmapped g c = unmapped _ _ _ _ _ _ (returns-in-Ok-clause-ends g c)

pub returns-in-Ok-clause-headered : goal.returns-in-Ok-clause-headered
returns-in-Ok-clause-headered g c = headered _ _ _ _ _ _ (returns-in-Ok-clause-ends g c) c.macros_differ.ensures c.enumerations_are_apart.ensures

pub returns-in-Ok-clause-not_headered : goal.returns-in-Ok-clause-not_headered
returns-in-Ok-clause-not_headered g c = not_headered _ _ _ _ _ _ (returns-in-Ok-clause-ends g c)

pub returns-in-Ok-clause-documented : goal.returns-in-Ok-clause-documented
returns-in-Ok-clause-documented g c = documented _ _ _ _ _ _ (returns-in-Ok-clause-ends g c)

pub returns-in-Ok-clause-undocumented : goal.returns-in-Ok-clause-undocumented
returns-in-Ok-clause-undocumented g c = undocumented _ _ _ _ _ _ (returns-in-Ok-clause-ends g c)

pub returns-in-Ok-clause-fronted : goal.returns-in-Ok-clause-fronted
returns-in-Ok-clause-fronted g c = fronted _ _ _ _ _ _ (returns-in-Ok-clause-ends g c)

pub returns-in-Ok-clause-not_fronted : goal.returns-in-Ok-clause-not_fronted
returns-in-Ok-clause-not_fronted g c = not_fronted _ _ _ _ _ _ (returns-in-Ok-clause-ends g c)

pub returns-in-Ok-clause-checked : goal.returns-in-Ok-clause-checked
returns-in-Ok-clause-checked g c = checked _ _ _ _ _ _ (returns-in-Ok-clause-ends g c)

pub returns-in-Ok-clause-ran : goal.returns-in-Ok-clause-ran
returns-in-Ok-clause-ran g c = ran _ _ _ _ _ _ (returns-in-Ok-clause-ends g c)

pub returns-in-Ok-clause-not_run : goal.returns-in-Ok-clause-not_run
returns-in-Ok-clause-not_run g c = not_run _ _ _ _ _ _ (returns-in-Ok-clause-ends g c)

pub returns-in-Ok-clause-unfit : goal.returns-in-Ok-clause-unfit
returns-in-Ok-clause-unfit g c = unfit _ _ _ _ _ _ (returns-in-Ok-clause-ends g c)

pub returns-in-Ok-clause-protocol : goal.returns-in-Ok-clause-protocol
returns-in-Ok-clause-protocol g c = protocol _ _ _ _ _ _ (returns-in-Ok-clause-ends g c)

pub returns-in-Ok-clause-driven : goal.returns-in-Ok-clause-driven
returns-in-Ok-clause-driven g c = driven _ _ _ _ _ _ (returns-in-Ok-clause-ends g c)

pub returns-in-Ok-clause-unmet : goal.returns-in-Ok-clause-unmet
returns-in-Ok-clause-unmet g c = unmet _ _ _ _ _ _ (returns-in-Ok-clause-ends g c)

pub returns-in-Ok-clause-undriven : goal.returns-in-Ok-clause-undriven
returns-in-Ok-clause-undriven g c = undriven _ _ _ _ _ _ (returns-in-Ok-clause-ends g c)

pub returns-in-Ok-clause-bad_script : goal.returns-in-Ok-clause-bad_script
returns-in-Ok-clause-bad_script g c = bad_script _ _ _ _ _ _ (returns-in-Ok-clause-ends g c)

pub returns-in-Ok-clause-generated : goal.returns-in-Ok-clause-generated
returns-in-Ok-clause-generated g c = generated _ _ _ _ _ _ (returns-in-Ok-clause-ends g c)
