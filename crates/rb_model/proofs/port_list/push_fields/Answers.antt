use Rattle.std.proofs.Common.{◌≡◌, ◌++◌, map, ap, ◌∙◌, append_assoc, sym}
use Rattle.rb_model.specs.Own.{own_pins, outlet_ports}
use Rattle.rb_model.specs.Ports.{input, field_ports}
use Rattle.rb_model.proofs.PortLists.{flat_map-numbered, joined}
use Rattle.rb_model.proofs.OwnViews.{field_ports-own}
use Rattle.rb_model.proofs.port_list.push_fields.Goals as goal

pub loop-number-preserved : goal.loop-number-preserved
loop-number-preserved c =
    let k = c.loop-number.number in
    let f = c.index-fields-number.result in
    let views = c.args.views.now in
    let more = flat_map-numbered (field_ports views) c.args.fields.now k f c.loop-number-test.true c.index-fields-number.is in
    let own = c.requires.own k c.loop-number-test.true in
    let here = field_ports-own views k f _ own (c.requires.one k c.loop-number-test.true) c.index-views-own.result c.index-views-own.is in
    joined c.args.out.now.items _ _ _ _ _ _ _ _ c.loop-number.invariant c.in_ok-push_field_pins.ensures c.in_ok-push_field_outlets.ensures more here
