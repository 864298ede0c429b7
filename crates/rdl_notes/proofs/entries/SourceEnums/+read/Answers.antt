use Rattle.std.proofs.Common.{arith, flat_map, take, ◌++◌, subst, sym}
use Rattle.rdl_notes.specs.Entries.{enums_of}
use Rattle.rdl_notes.specs.Known.{AreKnown}
use Rattle.rdl_notes.proofs.Listed.{read_definition, read_more}
use Rattle.rdl_notes.proofs.entries.SourceEnums.+read.Goals as goal

pub loop-inner-preserved : goal.loop-inner-preserved
loop-inner-preserved t c = λ es known.
    let is = c.in-Def.def.items.now in
    read_more is c.loop-inner.inner-index c.inner-item.result c.loop-inner-test.true c.inner-item.is es c.read.new.self
    (c.in_ok-read-in-Def.ensures (es ++ flat_map enums_of (take c.loop-inner.inner-index is)) (c.loop-inner.invariant es known))

pub returns-after-loop-inner : goal.returns-after-loop-inner
returns-after-loop-inner t c = λ es known.
    subst (λ i. AreKnown (es ++ enums_of i) c.loop-inner.self) (sym c.in-Def.is)
    (read_definition c.in-Def.def c.loop-inner.inner-index (omega (arith, c.loop-inner-test.false)) es c.loop-inner.self (c.loop-inner.invariant es known))
