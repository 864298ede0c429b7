use Rattle.rdl_meaning_rules.specs.Collected.{of_roots}
use Rattle.rdl_meaning_rules.proofs.Put.{more}
use Rattle.rdl_meaning_rules.proofs.list.judge_rest.Goals as goal

pub returns : goal.returns
returns c = more (of_roots c.args.elab.now) c.args.circles.now c.args.failures.now c.judge_root_resets.new.failures c.judge_circles.new.failures c.in_ok-judge_root_resets.ensures c.in_ok-judge_circles.ensures
