use Rattle.std.proofs.Common.{◌≡◌, ◌+◌, suc, arith, refl, subst}
use Rattle.rdl_values.proofs.ReadBy.{ArePut, none_put, put_next, put_upto}
use Rattle.rdl_values.proofs.readers.Readers.put_into.Goals as goal

pub loop-reader-init : goal.loop-reader-init
loop-reader-init c = record {
  within = omega arith;
  put = none_put c.args.self.now c.args.read c.args.places.now c.args.places.now refl;
}

pub returns-then-reader-upto : goal.returns-then-reader-upto
returns-then-reader-upto c =
    let next = c.in-Some.ensures in
    let past = c.if-reader-upto.true in
    put_upto c.args.self.now c.args.read c.args.places.now c.loop-reader.places c.loop-reader.from c.args.upto c.loop-reader.invariant.put c.loop-reader.invariant.within (λ k l m. next.2 k l (omega (arith, m, past)))

pub loop-reader-preserved : goal.loop-reader-preserved
loop-reader-preserved c =
    let next = c.in-Some.ensures in
    let within = c.if-reader-upto.false in
    let at = c.in-Some.reader in
    let more : suc at ≡ at + 1 = omega arith in
    record {
      within = omega (arith, within);
      put = subst (ArePut c.args.self.now c.args.read c.args.places.now c.put.new.self) more (put_next c.args.self.now c.args.read c.args.places.now c.loop-reader.places c.put.new.self c.loop-reader.from at c.loop-reader.invariant.put next.0 next.1 next.2 c.in_ok-put.ensures);
    }

pub returns : goal.returns
returns c = put_upto c.args.self.now c.args.read c.args.places.now c.loop-reader.places c.loop-reader.from c.args.upto c.loop-reader.invariant.put c.loop-reader.invariant.within (λ k l m. c.in_default.ensures k l)
