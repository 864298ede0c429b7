use Rattle.gen_scene.proofs.Worths.{IsBase-grows}
use Rattle.gen_access.proofs.Turns.{AreHitsOf-grows}
use Rattle.gen_access.proofs.reached.word_hits.Goals as goal

pub write_hits-requires : goal.write_hits-requires
write_hits-requires c = IsBase-grows c.args.net.now c.read_hits.new.net c.in_ok-reads.ensures.older c.args.base.now c.requires

pub returns-clause-reads : goal.returns-clause-reads
returns-clause-reads c = AreHitsOf-grows c.args.base.now.block.now c.args.base.now.inlet c.read_hits.new.net c.write_hits.new.net _ _ _ c.in_ok-reads.reads.items c.in_ok-writes.ensures.older c.in_ok-reads.ensures.hits
