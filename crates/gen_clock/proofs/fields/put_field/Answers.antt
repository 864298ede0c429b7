use Rattle.std.proofs.Common.{sym, ◌∙◌, arith}
use Rattle.std.proofs.lemmas.Option.{slice_get_within}
use Rattle.gen_access.proofs.Turns.{changes_set, nodes_set}
use Rattle.gen_clock.proofs.Sweeps.{moves_here, other_stays, stays_one, swept_one}
use Rattle.gen_clock.proofs.fields.put_field.Goals as goal

pub returns-then-not-moves_in-clause-changes : goal.returns-then-not-moves_in-clause-changes
returns-then-not-moves_in-clause-changes c =
    stays_one c.args.scene.now.base.now.block.now c.args.scene.now.base.now.inlet c.args.net.now c.args.table.now (λ f. f.width) c.args.last c.args.number c.args.field.now c.requires.field (sym c.moves_in.ensures ∙ c.if-not-moves_in.true)

pub slice_copy_out-moved : goal.slice_copy_out-moved
slice_copy_out-moved c = let l = slice_get_within c.args.scene.now.base.now.block.now.fields c.args.number c.args.field.now c.requires.field in omega (arith, c.requires.table.long)

pub bounds-table-number : goal.bounds-table-number
bounds-table-number c = let l = slice_get_within c.args.scene.now.base.now.block.now.fields c.args.number c.args.field.now c.requires.field in omega (arith, c.requires.table.long)

pub returns-clause-table : goal.returns-clause-table
returns-clause-table c =
    nodes_set c.args.scene.now.base.now.block.now c.args.net.now c.moved.new.net c.args.table.now c.args.number c.args.field.now c.in_ok-id.id (λ f. f.width) c.requires.field c.requires.table c.in_ok-id.ensures.older c.in_ok-id.ensures.made.stands

pub returns-clause-changes : goal.returns-clause-changes
returns-clause-changes c =
    let b = c.args.scene.now.base.now.block.now in
    let a = c.args.scene.now.base.now.inlet in
    let k = c.args.number in
    changes_set b c.args.net.now c.moved.new.net c.args.table.now k c.args.field.now c.in_ok-id.id (λ f. f.width) c.requires.field c.requires.table c.in_ok-id.ensures.older
    a (swept_one c.args.last k) (λ g was. moves_here b a c.args.net.now c.moved.new.net _ c.in_ok-id.id c.args.last k c.args.field.now (sym c.moves_in.ensures ∙ c.if-not-moves_in.false) c.in_ok-id.ensures.made g was)
    (λ n v j e x ne. other_stays c.args.last k n v j e x ne)
