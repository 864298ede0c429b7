use Rattle.std.proofs.Common.{◌∙◌, ◌++◌, sym, subst, arith}
use Rattle.rdl_rules.specs.Words.{slot, slots_from}
use Rattle.rdl_fields.specs.Views.{IsViewOf}
use Rattle.rdl_block_words.proofs.Showing.{all-shown, one-more}
use Rattle.rdl_block_words.proofs.Viewed.{as-many, view-at}
use Rattle.rdl_block_words.proofs.slot.slots.Goals as goal

pub loop-view-preserved : goal.loop-view-preserved
loop-view-preserved c = record {
  at = (let at = c.loop-view.invariant.at in omega (arith, at));
  whole = λ e bs h.
      let i = c.loop-view.view-index in
      let found = view-at e c.args.views.now bs h i c.view-item.result c.loop-view-test.true in
      let b = found.0 in
      let is = subst (λ v. IsViewOf e v b) (sym c.view-item.is) found.2 in
      let at = c.loop-view.invariant.at in
      let high = is.high_ in
      let low = is.low_ in
      one-more c.args.first_view c.args.base c.args.width i bs b c.loop-view.items.items c.add_slot.new.slots.items (slots_from c.args.first_view c.args.base c.args.width bs) found.1 (c.loop-view.invariant.whole e bs h)
      (c.in_ok-add_slot.ensures b.node ∙ (λ j. c.loop-view.items.items ++ slot (at j) c.args.base c.args.width (record { node = b.node; high = high j; low = low j })));
}

pub returns : goal.returns
returns c = λ e bs h.
    let many = as-many e c.args.views.now bs h in
    let end = c.loop-view.auto.view-index-end in
    let past = c.loop-view-test.false in
    all-shown c.args.first_view c.args.base c.args.width c.loop-view.view-index bs c.loop-view.items.items (slots_from c.args.first_view c.args.base c.args.width bs) (omega (arith, many, end, past)) (c.loop-view.invariant.whole e bs h)
