use Rattle.std.proofs.Common.{◌≡◌, refl, subst, sym}
use Rattle.rdl_values.specs.Uses.{seen}
use Rattle.rdl_scopes.specs.Scopes.{AreOpen}
use Rattle.rdl_children.specs.ItemUses.{nearest_items}
use Rattle.rdl_children.specs.declared.item.Surroundings.{Surroundings}
use Rattle.rdl_children.proofs.Itemized.{body_scene, items_of}
use Rattle.rdl_children.proofs.Reached.{seen_reach}
use Rattle.rdl_children.proofs.children.judge.Goals as goal

pub judge_items-requires-clause-open : goal.judge_items-requires-clause-open
judge_items-requires-clause-open c = subst AreOpen (sym c.components.ensures) c.requires.kept.open_

pub judge_items-requires-clause-items : goal.judge_items-requires-clause-items
judge_items-requires-clause-items c = subst (λ cs. nearest_items cs c.args.body.now.numbers.now ≡ c.args.body.now.items.now) (sym c.components.ensures) c.requires.items

pub returns : goal.returns
returns c = λ above b open_ stands.
    let t = c.args.bodies.now in
    let y = c.args.body.now in
    let s : Surroundings = record { components = c.components.result; tables = c.tables.result; numbers = y.numbers; outer = y.uptos; parent = c.args.parent } in
    let scene = body_scene t y b open_ s c.tables.ensures c.components.ensures refl refl stands in
    record {
      noted = c.in_ok-items.ensures.noted above b scene;
      items = items_of t y b open_ s c.tables.ensures c.components.ensures refl refl c.in_ok-items.items.items (seen above b) (c.in_ok-items.ensures.given above b scene) (seen_reach above b);
    }
