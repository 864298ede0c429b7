use Rattle.std.proofs.Common.{codes, ◌++◌}
use Rattle.v_printer.specs.Layout.{text_of, section_text, shown_text}
use Rattle.v_printer.specs.Module.{numbered}
use Rattle.v_printer.specs.declared.section.Section.TheVariants.{Assignments, Blocks, Registers, Wires}
use Rattle.rb_edge.proofs.Flowing.{and_then, stopped}
use Rattle.v_printer.proofs.module.put_module.Goals as goal

pub returns-in_err-put_header : goal.returns-in_err-put_header
unfolding text_of
returns-in_err-put_header g c = stopped (section_text c.args.net.now Registers ++ (section_text c.args.net.now Wires ++ (section_text c.args.net.now Assignments ++ (numbered (shown_text c.args.net.now) 0 c.args.net.now.seats ++ (section_text c.args.net.now Blocks ++ (codes "endmodule\n")))))) c.from_residual.result c.from_residual.ensures.0 c.in_err-put_header.ensures

pub returns-in_err-put_section : goal.returns-in_err-put_section
unfolding text_of
returns-in_err-put_section g c = and_then c.in_ok-put_header.ensures (stopped (section_text c.args.net.now Wires ++ (section_text c.args.net.now Assignments ++ (numbered (shown_text c.args.net.now) 0 c.args.net.now.seats ++ (section_text c.args.net.now Blocks ++ (codes "endmodule\n"))))) c.from_residual-in_err-put_section.result c.from_residual-in_err-put_section.ensures.0 c.in_err-put_section.ensures)

pub returns-in_err-put_section-2 : goal.returns-in_err-put_section-2
unfolding text_of
returns-in_err-put_section-2 g c = and_then c.in_ok-put_header.ensures (and_then c.in_ok-put_section.ensures (stopped (section_text c.args.net.now Assignments ++ (numbered (shown_text c.args.net.now) 0 c.args.net.now.seats ++ (section_text c.args.net.now Blocks ++ (codes "endmodule\n")))) c.from_residual-in_err-put_section-2.result c.from_residual-in_err-put_section-2.ensures.0 c.in_err-put_section-2.ensures))

pub returns-in_err-put_section-3 : goal.returns-in_err-put_section-3
unfolding text_of
returns-in_err-put_section-3 g c = and_then c.in_ok-put_header.ensures (and_then c.in_ok-put_section.ensures (and_then c.in_ok-put_section-2.ensures (stopped (numbered (shown_text c.args.net.now) 0 c.args.net.now.seats ++ (section_text c.args.net.now Blocks ++ (codes "endmodule\n"))) c.from_residual-in_err-put_section-3.result c.from_residual-in_err-put_section-3.ensures.0 c.in_err-put_section-3.ensures)))

pub returns-in_err-put_outputs : goal.returns-in_err-put_outputs
unfolding text_of
returns-in_err-put_outputs g c = and_then c.in_ok-put_header.ensures (and_then c.in_ok-put_section.ensures (and_then c.in_ok-put_section-2.ensures (and_then c.in_ok-put_section-3.ensures (stopped (section_text c.args.net.now Blocks ++ (codes "endmodule\n")) c.from_residual-in_err-put_outputs.result c.from_residual-in_err-put_outputs.ensures.0 c.in_err-put_outputs.ensures))))

pub returns-in_err-put_section-4 : goal.returns-in_err-put_section-4
unfolding text_of
returns-in_err-put_section-4 g c = and_then c.in_ok-put_header.ensures (and_then c.in_ok-put_section.ensures (and_then c.in_ok-put_section-2.ensures (and_then c.in_ok-put_section-3.ensures (and_then c.in_ok-put_outputs.ensures (stopped (codes "endmodule\n") c.from_residual-in_err-put_section-4.result c.from_residual-in_err-put_section-4.ensures.0 c.in_err-put_section-4.ensures)))))

pub returns : goal.returns
unfolding text_of
returns g c = and_then c.in_ok-put_header.ensures (and_then c.in_ok-put_section.ensures (and_then c.in_ok-put_section-2.ensures (and_then c.in_ok-put_section-3.ensures (and_then c.in_ok-put_outputs.ensures (and_then c.in_ok-put_section-4.ensures c.put.ensures)))))
