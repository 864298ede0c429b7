use Rattle.std.proofs.Common.{arith}
use Rattle.std.proofs.lemmas.List.{at_drop_all}
use Rattle.rdl_uses.proofs.Bytes.{index_bytes, step_bytes}
use Rattle.rdl_uses.proofs.lengths.text_len.Goals as goal

pub returns-then-len-gt-MOST_BYTES : goal.returns-then-len-gt-MOST_BYTES
returns-then-len-gt-MOST_BYTES c = let e = step_bytes c.args.name.now c.args.index.now in omega (arith, e)

pub returns-then-len-gt-MOST_BYTES-2 : goal.returns-then-len-gt-MOST_BYTES-2
returns-then-len-gt-MOST_BYTES-2 c = let e = step_bytes c.args.name.now c.args.index.now in omega (arith, e)

pub returns-else-len-gt-MOST_BYTES-2 : goal.returns-else-len-gt-MOST_BYTES-2
returns-else-len-gt-MOST_BYTES-2 c =
    let e = step_bytes c.args.name.now c.args.index.now in
    let all = at_drop_all index_bytes c.args.index.now c.loop-number.number-index c.loop-number-test.false in
    (omega (arith, e, all), omega arith)
