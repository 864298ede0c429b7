use Rattle.std.proofs.Common.{ap, length, map, refl}
use Rattle.std.proofs.lemmas.List.{take_all}
use Rattle.std.proofs.lemmas.Option.{slice_get_read}
use Rattle.rdl_values.specs.Seen.{listed_enum}
use Rattle.rdl_scopes.specs.Opened.{state_of}
use Rattle.rdl_scopes.proofs.Closing.{held_more}
use Rattle.rdl_scopes.proofs.ByItem.{noted_step, opened_all, opened_step}
use Rattle.rdl_scopes.proofs.enums.open_names.Goals as goal

pub loop-at-preserved : goal.loop-at-preserved
loop-at-preserved c =
    let items = c.args.items.now in
    let i = c.loop-at.at in
    let x = c.index-items-at.result in
    let l = c.loop-at-test.true in
    let old = state_of c.loop-at.opening in
    let new = state_of c.read_known.new.self in
    let adds = c.in_ok-read_known.ensures items c.loop-at.invariant.closed (slice_get_read items (length items) i x refl l c.index-items-at.is) in
    record {
      opened = opened_step c.args.table.bound items i x c.args.outer.now old new c.loop-at.failures c.read_known.new.failures l c.index-items-at.is c.requires.in_order c.loop-at.invariant.opened adds;
      closed = held_more c.args.closed.now items c.args.outer.now x old new c.loop-at.failures c.read_known.new.failures adds c.loop-at.invariant.closed;
      noted = λ b e same a. noted_step c.args.table.bound items i x c.args.outer.now old new c.args.failures.now c.loop-at.failures c.read_known.new.failures l c.index-items-at.is c.loop-at.invariant.opened adds b same a (c.loop-at.invariant.noted b e same a);
    }

pub returns-clause-opened : goal.returns-clause-opened
returns-clause-opened c = opened_all c.args.table.bound c.args.items.now _ c.args.outer.now (state_of c.loop-at.opening) _ (take_all c.loop-at.at c.args.items.now c.loop-at-test.false) c.loop-at.invariant.opened refl (ap (map listed_enum) c.into_bump_slice.ensures)
