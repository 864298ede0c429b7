use Rattle.rdl_feeds.proofs.counts.count.Goals as goal

pub up-requires-clause-narrow : goal.up-requires-clause-narrow
up-requires-clause-narrow c = λ n w at is. (c.requires.narrow n at).up w is

pub down-requires-clause-narrow : goal.down-requires-clause-narrow
down-requires-clause-narrow c = λ n w at is. (c.requires.narrow n at).down w is
