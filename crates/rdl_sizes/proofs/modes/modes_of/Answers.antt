use Rattle.std.proofs.Common.{◌∙◌, length, ap, arith, length-append, [], ◌∷◌}
use Rattle.rdl_tree.specs.declared.node.Node.{out-Node}
use Rattle.rdl_props.specs.declared.prop.Prop.TheVariants as prop
use Rattle.rdl_layers.specs.Settings.{setting}
use Rattle.rdl_addr.specs.Modes.{mode_by}
use Rattle.rdl_sizes.specs.Modes.{outer_at}
use Rattle.rdl_sizes.proofs.Moding.{id-below, modes-more, no-modes, parent-below}
use Rattle.rdl_sizes.proofs.modes.modes_of.Goals as goal

pub outer_mode-outer-requires : goal.outer_mode-outer-requires
outer_mode-outer-requires c =
    parent-below c.args.props.now c.args.rows.now c.requires.rows c.loop-row.row-index c.row-item.result c.loop-row-test.true c.row-item.is (length c.deref.result.now) (ap length c.deref.ensures.value ∙ c.loop-row.invariant.many)

pub mode_inside-requires : goal.mode_inside-requires
mode_inside-requires c = id-below c.args.props.now c.args.rows.now c.requires.rows c.loop-row.row-index c.row-item.result c.loop-row-test.true c.row-item.is c.requires.clean

pub loop-row-init : goal.loop-row-init
loop-row-init c = record { many = ap length c.new-modes.ensures.items; all = no-modes c.args.props.now c.new-modes.result.items c.new-modes.ensures.items }

pub loop-row-preserved : goal.loop-row-preserved
loop-row-preserved c = record {
  many = (let s = length-append c.loop-row.modes.items (c.mode_inside.result ∷ []) in let m = c.loop-row.invariant.many in ap length c.in_ok-push.ensures.items ∙ (omega (arith, s, m)));
  all =
      modes-more c.args.props.now c.args.rows.now c.requires.rows c.loop-row.row-index c.row-item.result c.loop-row-test.true c.row-item.is c.loop-row.modes.items c.loop-row.invariant.many c.loop-row.invariant.all
      c.mode_inside.result c.push.new.self.items c.in_ok-push.ensures.items
      (λ n here k. c.mode_inside.ensures n here k ∙ ap (λ o. mode_by o (out-Node c.row-item.result.node.now).kind (setting n prop.Addressing)) (c.outer_mode-outer.ensures ∙ ap (λ ms. outer_at ms c.row-item.result.parent) c.deref.ensures.value));
}
