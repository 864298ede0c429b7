use Rattle.std.proofs.Common.{arith}
use Rattle.std.proofs.lemmas.Bool.Decides.{nat_tests}
use Rattle.v_reader.proofs.Answering.{unexpected, misspelled_behind}
use Rattle.v_reader.proofs.reading.stopped.Goals as goal

pub returns-then-at-len : goal.returns-then-at-len
returns-then-at-len c = unexpected c.args.bytes.now c.args.scanned.now.tokens.items _ c.args.at c.index.result.now c.requires.scans (grind (arith, nat_tests)) c.index.ensures c.requires.wrong

pub returns-in-Some : goal.returns-in-Some
returns-in-Some c = misspelled_behind c.args.bytes.now c.args.scanned.now.tokens.items c.args.scanned.now.fault c.in-Some.fault c.args.at c.requires.scans c.in-Some.is (grind (arith, nat_tests)) c.requires.wrong
