use Rattle.tests_cases.proofs.Apart.{apart}
use Rattle.tests_cases.proofs.shelves.put_other.Goals as goal

pub put-requires : goal.put-requires
put-requires c = c.requires.held c.args.two.now (apart c.args.one.now c.args.two.now c.requires.other)
