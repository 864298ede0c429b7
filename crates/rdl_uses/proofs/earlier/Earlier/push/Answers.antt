use Rattle.std.proofs.Common.{ap, arith}
use Rattle.rdl_uses.proofs.Primaries.{earlier_more}
use Rattle.rdl_uses.proofs.earlier.Earlier.push.Goals as goal

pub returns : goal.returns
returns c = λ us u h named is.
    earlier_more c.args.self.now (record { places = c.put.new.self; primaries = c.push.new.self }) us u c.args.name.now.text.now c.args.primary _ h (ap (λ n. n.text.now) named) is (omega (arith, c.len-place.ensures, c.args.self.now.primaries.ok.0)) c.in_ok-put.ensures.put c.in_ok-push.ensures.items
