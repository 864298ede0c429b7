use Rattle.std.proofs.Common.{◌≡◌, ◌∙◌, ◌+◌, ◌∷◌, length, take, flat_map, sym, subst, arith}
use Rattle.std.proofs.lemmas.List.{take_all}
use Rattle.rdl_values.specs.Bodies.{Body, around, standing}
use Rattle.rdl_failures.specs.Shown.{IsShown}
use Rattle.rdl_layers.specs.Assignments.{default_in}
use Rattle.rdl_layers.specs.Judged.{anywhere, failures_of}
use Rattle.rdl_assignments.specs.Defaults.{whole}
use Rattle.rdl_assignments.specs.Layers.{IsLayer}
use Rattle.rdl_assignments.proofs.Behind.{given-length}
use Rattle.rdl_assignments.proofs.Counted.{AreCounted, counted_next, counted_none, given_before}
use Rattle.rdl_assignments.proofs.Reading.{items_all, locals_more}
use Rattle.rdl_assignments.proofs.defaults.judge_defaults.Goals as goal

pub loop-position-init : goal.loop-position-init
loop-position-init c = record {
  counted = λ b shown. counted_none (failures_of anywhere) (default_in (whole b) b.outer) c.new-positions.result.items c.new-positions.ensures.items;
  layer = λ b shown. c.in_ok-layer.ensures anywhere c.args.body c.args.failures.now;
}

pub loop-position-preserved : goal.loop-position-preserved
loop-position-preserved c =
    let k = c.loop-position.position in
    let items = c.args.items.now in
    let y = c.read_default.new.layer in
    let layer : (b : Body) → IsShown c.args.visible.now (b.names ∷ around b.outer) → IsLayer anywhere c.args.body y c.args.failures.now c.read_default.new.failures (flat_map (default_in (whole b) b.outer) (standing (take (k + 1) items))) = λ b shown. locals_more anywhere c.args.body y c.args.failures.now c.read_default.new.failures (default_in (whole b) b.outer) items k c.index-items-position.result c.loop-position-test.true c.index-items-position.is (c.in_ok-read_default.ensures c.args.failures.now _ (whole b) b.outer _ shown (c.loop-position.invariant.layer b shown)) in
    record {
      counted = λ b shown. counted_next (failures_of anywhere) (default_in (whole b) b.outer) c.loop-position.positions.items c.fill.new.positions.items items k c.index-items-position.result c.len.result c.loop-position-test.true (c.loop-position.invariant.counted b shown)
          (let o = y.given.ok.0 in let e : c.len.result ≡ length y.given.items = omega (arith, o, c.len.ensures) in e ∙ given-length c.args.body y.given.items _ (layer b shown).given) c.in_ok-fill.ensures;
      layer = layer;
    }

pub returns-clause-noted : goal.returns-clause-noted
returns-clause-noted c = λ b e shown. (items_all anywhere c.args.body c.loop-position.layer c.args.failures.now c.loop-position.failures (default_in (whole b) b.outer) c.args.items.now b.items c.loop-position.position c.loop-position-test.false e (c.loop-position.invariant.layer b shown)).noted

pub returns-clause-given : goal.returns-clause-given
returns-clause-given c = λ b e shown.
    let f = failures_of anywhere in
    let g = default_in (whole b) b.outer in
    let at_end = items_all anywhere c.args.body c.loop-position.layer c.args.failures.now c.loop-position.failures g c.args.items.now b.items c.loop-position.position c.loop-position-test.false e (c.loop-position.invariant.layer b shown) in
    let counted = subst (AreCounted f g c.loop-position.positions.items) (take_all c.loop-position.position c.args.items.now c.loop-position-test.false ∙ sym e) (c.loop-position.invariant.counted b shown) in
    record { seen = λ p l. given_before f g c.args.body c.loop-position.positions.items c.loop-position.layer.given.items b.items p counted at_end.given }
