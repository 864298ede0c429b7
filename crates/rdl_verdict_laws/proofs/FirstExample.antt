-- The first example breaks no rule: it spells its tokens, they derive its tree and nest nowhere too deep, and no phase of the tree fails.
use Rattle.std.proofs.Common.{ℕ, None, List, [], ◌∷◌, refl}
use Rattle.rdl_parser.specs.Verdicts.{Reads}
use Rattle.rdl_verdict.specs.Verdict.{IsVerdict, tree}
use Rattle.rdl_verdict_laws.specs.Example.{first_example}
use Rattle.rdl_verdict_laws.proofs.BlockSources.{one_register}
use Rattle.rdl_verdict_laws.proofs.ExampleTokens.{tokens}
use Rattle.rdl_verdict_laws.proofs.ExampleTree.{items_read}
use Rattle.rdl_verdict_laws.proofs.ExampleDepth.{tokens_within}
use Rattle.rdl_verdict_laws.proofs.ExampleSpelling.{tokens_spelled}
use Rattle.rdl_verdict_laws.proofs.ExamplePhases.{phases_clean}

reads : Reads first_example one_register.items.now
reads = record { tokens = tokens; spelled = tokens_spelled; derived = items_read; within = tokens_within }

pub breaks_no_rule : IsVerdict None first_example []
breaks_no_rule = tree one_register reads phases_clean
