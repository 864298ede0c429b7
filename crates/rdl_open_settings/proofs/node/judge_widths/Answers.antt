use Rattle.std.proofs.Common.{◌∙◌, inl, inr, sym}
use Rattle.rdl_values.specs.Elaborated.{nodes_of}
use Rattle.rdl_open_settings.proofs.node.judge_widths.Goals as goal

pub returns-in_ok-judge_register-in-Reg : goal.returns-in_ok-judge_register-in-Reg
returns-in_ok-judge_register-in-Reg c = λ e n node entries. c.in_ok-judge_register-in-Reg.ensures (nodes_of e) n entries (sym node.says.kind ∙ c.in-Reg.is) (sym node.says.place)

pub returns-in_ok-judge_unit_of-in-Field : goal.returns-in_ok-judge_unit_of-in-Field
returns-in_ok-judge_unit_of-in-Field c = λ e n node entries. c.in_ok-judge_unit_of-in-Field.ensures e n (inl c.in-Field.is) node entries

pub returns-in_ok-judge_unit_of-in-Signal : goal.returns-in_ok-judge_unit_of-in-Signal
returns-in_ok-judge_unit_of-in-Signal c = λ e n node entries. c.in_ok-judge_unit_of-in-Signal.ensures e n (inr c.in-Signal.is) node entries
