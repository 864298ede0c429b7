use Rattle.std.proofs.Common.{◌≡◌, ◌∙◌, ◌+◌, ◌<◌, [], ◌∷◌, length, sym, ap, subst, arith, length-append}
use Rattle.rdl_values.specs.Lineages.{lineages_of}
use Rattle.rdl_nodes.proofs.Members.{any-default}
use Rattle.rdl_sizes.specs.Sized.{offset_at}
use Rattle.rdl_sizes.proofs.Facts.{rows-many}
use Rattle.rdl_sizes.proofs.Moding.{parent-below}
use Rattle.rdl_sizes.specs.Addresses.{address_by}
use Rattle.rdl_sizes.proofs.Placing.{addresses-more, no-addresses}
use Rattle.rdl_sizes.proofs.address_table.addresses.Goals as goal

pub index-offset-requires : goal.index-offset-requires
index-offset-requires c =
    let many = rows-many c.args.props.now c.args.rows.now c.requires.rows in
    let long = c.args.sizes.now.offsets.ok.0 in
    let placed = c.requires.sizes.placed in
    omega (arith, c.loop-at-test.true, many, long, placed)

pub address-requires : goal.address-requires
address-requires c =
    parent-below c.args.props.now c.args.rows.now c.requires.rows c.loop-at.at c.index-rows-at.result c.loop-at-test.true c.index-rows-at.is (length c.deref.result.now) (ap length c.deref.ensures.value ∙ c.loop-at.invariant.many)

pub loop-at-init : goal.loop-at-init
loop-at-init c = record { many = ap length c.new-addresses.ensures.items; first = no-addresses c.args.props.now c.new-addresses.result.items c.new-addresses.ensures.items }

pub loop-at-preserved : goal.loop-at-preserved
loop-at-preserved c =
    let e = c.args.props.now in
    let i = c.loop-at.at in
    let x = c.index-rows-at.result in
    let offsets = c.args.sizes.now.offsets.items in
    let many = rows-many e c.args.rows.now c.requires.rows in
    let placed = c.requires.sizes.placed in
    let low : i < length offsets = omega (arith, c.loop-at-test.true, many, placed) in
    let offset : c.index-offset.result.now ≡ offset_at offsets i = c.index-offset.ensures ∙ any-default offsets i c.index-offset.result.now 0 low in
    record {
      many = (let s = length-append c.loop-at.addresses.items (c.in-Some.next ∷ []) in let m = c.loop-at.invariant.many in ap length c.in_ok-push.ensures.items ∙ (omega (arith, s, m)));
      first =
          addresses-more e c.args.rows.now c.requires.rows c.args.sizes.now c.requires.sizes i x c.loop-at-test.true c.index-rows-at.is c.loop-at.addresses.items c.loop-at.invariant.many c.loop-at.invariant.first c.in-Some.next
          (c.in-Some.ensures.1 ∙ (λ j. address_by (c.deref.ensures.value j) x.parent (offset j))) c.push.new.self.items c.in_ok-push.ensures.items;
    }

pub returns : goal.returns
returns c = record {
  many = (let many = rows-many c.args.props.now c.args.rows.now c.requires.rows in let m = c.loop-at.invariant.many in omega (arith, many, m, c.loop-at-test.false, c.loop-at.auto.at-end));
  first = c.loop-at.invariant.first;
}
