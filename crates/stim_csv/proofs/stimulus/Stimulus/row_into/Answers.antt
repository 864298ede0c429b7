use Rattle.std.proofs.Common.{◌*◌, take, drop, ap, sym, ◌∙◌, arith}
use Rattle.stim_csv.proofs.Cutting.{row_of}
use Rattle.stim_csv.proofs.stimulus.Stimulus.row_into.Goals as goal

pub row_into-requires : goal.row_into-requires
row_into-requires c =
    let row = row_of c.self.inside.width c.self.inside.rows c.self.inside.vectors c.args.self.now c.args.at c.self.view_is c.requires.row c.self.invariant in
    omega (arith, row.0, row.2, c.requires.room)

pub returns : goal.returns
returns c =
    let row = row_of c.self.inside.width c.self.inside.rows c.self.inside.vectors c.args.self.now c.args.at c.self.view_is c.requires.row c.self.invariant in
    c.row_into.ensures ∙ (ap (λ k. take k (drop (c.args.at * c.self.inside.width) c.self.inside.vectors)) (c.requires.room ∙ row.2) ∙ sym row.1)
