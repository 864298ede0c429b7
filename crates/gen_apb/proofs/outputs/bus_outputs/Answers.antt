use Rattle.std.proofs.Common.{codes, refl}
use Rattle.rtl_net.specs.Net.{width_in}
use Rattle.rtl_net.proofs.Nets.{Extends-trans}
use Rattle.gen_apb.proofs.Parts.{free_at, free_stays}
use Rattle.gen_apb.proofs.outputs.bus_outputs.Goals as goal

pub output-requires-2-clause-free : goal.output-requires-2-clause-free
output-requires-2-clause-free c =
    let n0 = c.args.net.now in
    let n1 = c.output.new.self in
    free_at n0 n1 (codes "PRDATA") 32 c.args.answered c.output.ensures.older c.requires.answered
    (free_stays n0 n1 (codes "PRDATA") (codes "PREADY") 32 (width_in n0 c.args.ready) c.args.ready c.output.ensures.nodes c.in_ok-output.ensures.seats refl c.requires.free_data)

pub output-requires-3-clause-free : goal.output-requires-3-clause-free
output-requires-3-clause-free c =
    let n0 = c.args.net.now in
    let n1 = c.output.new.self in
    let n2 = c.output-2.new.self in
    free_at n0 n2 (codes "PSLVERR") 1 c.args.failed (Extends-trans n0 n1 n2 c.output.ensures.older c.output-2.ensures.older) c.requires.failed
    (free_stays n1 n2 (codes "PSLVERR") (codes "PRDATA") 1 (width_in n1 c.args.answered) c.args.answered c.output-2.ensures.nodes c.in_ok-output-2.ensures.seats refl
    (free_stays n0 n1 (codes "PSLVERR") (codes "PREADY") 1 (width_in n0 c.args.ready) c.args.ready c.output.ensures.nodes c.in_ok-output.ensures.seats refl c.requires.free_error))
