use Rattle.rdl_lexer.proofs.Sizes.{based_passes, based_longest}
use Rattle.rdl_lexer.proofs.numbers.based_len.Goals as goal

pub returns-in-Some-clause-based : goal.returns-in-Some-clause-based
returns-in-Some-clause-based c = based_passes c.run_len.result c.in-Some.base c.args.text.now c.in-len1-up.len_at_least c.in-Some.ensures.value c.run_len.ensures

pub returns-in-Some-clause-longest : goal.returns-in-Some-clause-longest
returns-in-Some-clause-longest c = based_longest c.run_len.result c.in-Some.base c.args.text.now c.in-len1-up.len_at_least c.in-Some.ensures.value c.run_len.ensures
