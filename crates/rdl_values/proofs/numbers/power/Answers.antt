use Rattle.std.proofs.Common.{◌≡◌, ◌^◌, ◌≤◌, sym, arith}
use Rattle.rdl_values.proofs.Powers.{pow_large, pow-small}
use Rattle.rdl_values.proofs.numbers.power.Goals as goal

pub returns-then-m-lt2 : goal.returns-then-m-lt2
returns-then-m-lt2 c =
    let same : c.args.m ^ c.args.n ≡ c.args.m = pow-small c.args.m c.args.n (omega arith) (omega arith) in
    (omega arith, sym same)

pub returns-else-m-lt2 : goal.returns-else-m-lt2
returns-else-m-lt2 c fits =
    let large : 2 ^ 64 ≤ c.args.m ^ c.args.n = pow_large c.args.m c.args.n (omega arith) (omega arith) in
    omega arith
