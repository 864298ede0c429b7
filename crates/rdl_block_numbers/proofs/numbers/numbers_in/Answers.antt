use Rattle.std.proofs.Common.{length, subst}
use Rattle.rdl_block_numbers.specs.Ranks.{AreRanksTo}
use Rattle.rdl_block_numbers.proofs.Ranking.{numbers-in}
use Rattle.rdl_block_numbers.proofs.numbers.numbers_in.Goals as goal

pub returns : goal.returns
returns c =
    numbers-in c.args.elab.now c.requires.clean c.args.listing c.in_ok-marks.marks.items c.in_ok-numbers.numbers.items c.in_ok-marks.ensures
    (subst (λ bs. AreRanksTo bs (length bs) c.in_ok-numbers.numbers.items) c.deref.ensures.value c.in_ok-numbers.ensures)
