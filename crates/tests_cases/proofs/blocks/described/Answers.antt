use Rattle.tests_cases.proofs.blocks.described.Goals as goal

pub returns-in-Ok : goal.returns-in-Ok
returns-in-Ok c = c.in-Ok.ensures.described.sound
