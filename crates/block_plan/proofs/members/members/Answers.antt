use Rattle.std.proofs.Common.{◌<◌, ◌∙◌, refl, sym, length, arith}
use Rattle.std.proofs.lemmas.List.{length-set}
use Rattle.std.proofs.lemmas.Option.{slice_get_read}
use Rattle.block_plan.proofs.Listing.{listed_all, listed_more, listed_none}
use Rattle.block_plan.proofs.members.members.Goals as goal

pub loop-index-preserved-then-not-is_interrupt : goal.loop-index-preserved-then-not-is_interrupt
loop-index-preserved-then-not-is_interrupt c = record {
  sized = c.loop-index.invariant.sized;
  listed = listed_none c.args.fields.now c.loop-index.all.items c.loop-index.index c.index-fields-index.result c.loop-index-test.true c.index-fields-index.is (sym c.is_interrupt.ensures ∙ c.if-not-is_interrupt.true) c.loop-index.invariant.listed;
}

pub index_mut-requires : goal.index_mut-requires
index_mut-requires c =
    let fields = c.args.fields.now in
    let i = c.loop-index.index in
    let g = c.index-fields-index.result in
    let room : g.reg < c.args.regs = c.requires i g (slice_get_read fields (length fields) i g refl c.loop-index-test.true c.index-fields-index.is) in
    omega (arith, room, c.loop-index.invariant.sized, c.loop-index.all.ok.0)

pub loop-index-preserved : goal.loop-index-preserved
loop-index-preserved c =
    let fields = c.args.fields.now in
    let i = c.loop-index.index in
    let g = c.index-fields-index.result in
    let room : g.reg < c.args.regs = c.requires i g (slice_get_read fields (length fields) i g refl c.loop-index-test.true c.index-fields-index.is) in
    record {
      sized = length-set c.loop-index.all.items g.reg c.push.new.self ∙ c.loop-index.invariant.sized;
      listed = listed_more fields c.loop-index.all.items i g c.index_mut.result.now c.push.new.self c.in_ok-number_of.field-0 c.loop-index-test.true c.index-fields-index.is (sym c.is_interrupt.ensures ∙ c.if-not-is_interrupt.false) (omega (arith, room, c.loop-index.invariant.sized)) c.index_mut.ensures.value c.in_ok-number_of.ensures.is c.in_ok-push.ensures.items
          c.loop-index.invariant.listed;
    }

pub returns : goal.returns
returns c = listed_all c.args.fields.now c.loop-index.all.items c.loop-index.index c.loop-index-test.false c.loop-index.invariant.listed
