use Rattle.rdl_verdict_laws.proofs.Blocks.{block-from, block-to}
use Rattle.rdl_verdict_laws.proofs.Circles.{fails6-from, fails6-to}
use Rattle.rdl_verdict_laws.proofs.Meaning.{failures6-plain}
use Rattle.rdl_verdict_laws.proofs.plain_laws.meaning_of_plain.Goals as goal

pub returns-clause-failures : goal.returns-clause-failures
returns-clause-failures c = failures6-plain

pub returns-clause-circles : goal.returns-clause-circles
returns-clause-circles c wanted s r p = (fails6-from wanted s r p, fails6-to wanted s r p)

pub returns-clause-block : goal.returns-clause-block
returns-clause-block c wanted s waits b = (block-from wanted s waits b, block-to wanted s waits b)
