use Rattle.std.specs.Option.{option_copied}
use Rattle.std.proofs.Common.{◌≡◌, ℕ, ◌+◌, ◌<◌, ◌≤◌, List, [], ◌++◌, Option, IfSome, length, get_or, refl, ap, sym, ◌∙◌, subst, arith, length-append}
use Rattle.rb_edge.proofs.Flowing.{and_then, stopped, of_bytes}
use Rattle.v_design.specs.Design.{inputs, outputs}
use Rattle.v_design.specs.Seen.{module_seen}
use Rattle.v_design.specs.Fits.{FitsPins}
use Rattle.cyc_sim.proofs.Facts.{fits_length}
use Rattle.vcd_syntax.specs.Dump.{head_text, vector_text}
use Rattle.wave_text.specs.Dumped.{run_pins}
use Rattle.wave_text.proofs.Waves.{Writes, begins, from_head, stepped, goes_on, from_edge, ends, edge_text, now_fits, before_edge, fits_at, copied_fits}
use Rattle.wave_text.proofs.writing.put_run.Goals as goal

pub returns-in_err-put_head : goal.returns-in_err-put_head
returns-in_err-put_head g c =
    let m = module_seen c.args.design.now in
    let rest = from_head m c.args.table.now c.requires.accepted c.requires.fit in
    let same : head_text c.name.result.now c.args.pins.now ≡ head_text m.name (run_pins m) = ap (λ z. head_text z c.args.pins.now) c.name.ensures ∙ ap (head_text m.name) c.requires.pins in
    (head_text m.name (run_pins m) ++ rest.0, rest.1, stopped rest.0 c.from_residual.result c.from_residual.ensures.0 (of_bytes _ _ same c.in_err-put_head.ensures))

pub loop-at-init : goal.loop-at-init
loop-at-init g c =
    let m = module_seen c.args.design.now in
    let same : head_text c.name.result.now c.args.pins.now ≡ head_text m.name (run_pins m) = ap (λ z. head_text z c.args.pins.now) c.name.ensures ∙ ap (head_text m.name) c.requires.pins in
    (head_text c.name.result.now c.args.pins.now, begins m c.args.table.now c.args.sim.now c.args.before.now (head_text c.name.result.now c.args.pins.now) c.requires.is_sim c.requires.zeroed same, c.in_ok-put_head.ensures)

pub step_onto-requires-clause-inputs : goal.step_onto-requires-clause-inputs
step_onto-requires-clause-inputs g c =
    let m = module_seen c.args.design.now in
    let more : c.loop-at.at < length c.args.table.now = omega (arith, c.loop-at-test.true, c.rows-at-end.ensures) in
    fits_length (inputs m) (get_or c.args.table.now c.loop-at.at []) (fits_at (inputs m) c.args.table.now c.loop-at.at c.requires.fit more) ∙ sym c.loop-at.invariant.1.is_sim.takes

pub step_onto-requires-clause-all : goal.step_onto-requires-clause-all
step_onto-requires-clause-all g c =
    let m = module_seen c.args.design.now in
    omega (arith, c.loop-at.auto.now, c.requires.now, ap length c.requires.pins, length-append (inputs m) (outputs m), c.loop-at.invariant.1.is_sim.takes, c.loop-at.invariant.1.is_sim.gives)

pub put_vector-requires-clause-fits : goal.put_vector-requires-clause-fits
put_vector-requires-clause-fits g c =
    let m = module_seen c.args.design.now in
    let w = c.loop-at.invariant.1 in
    let more : c.loop-at.at < length c.args.table.now = omega (arith, c.loop-at-test.true, c.rows-at-end.ensures) in
    let r = stepped m c.args.table.now c.loop-at.at c.loop-at.sim c.step_onto.new.sim (get_or c.args.table.now c.loop-at.at []) c.loop-at.before c.step_onto.new.now c.loop-at.invariant.0 c.requires.fit more refl w c.step_onto.ensures in
    subst (λ ps. FitsPins ps c.step_onto.new.now) (sym c.requires.pins) (now_fits m c.args.table.now c.loop-at.at c.loop-at.sim c.step_onto.new.sim c.loop-at.before c.step_onto.new.now c.loop-at.invariant.0 c.requires.accepted c.requires.fit more w r)

pub put_vector-requires-clause-before : goal.put_vector-requires-clause-before
put_vector-requires-clause-before g c =
    let m = module_seen c.args.design.now in
    let fits = subst (λ ps. IfSome (before_edge c.loop-at.at c.loop-at.before) (FitsPins ps)) (sym c.requires.pins) c.loop-at.invariant.1.before_fits in
    copied_fits c.values_before.result (FitsPins c.args.pins.now) (subst (λ o. IfSome o (FitsPins c.args.pins.now)) (sym c.values_before.ensures) fits)

pub returns-in_err-put_vector : goal.returns-in_err-put_vector
returns-in_err-put_vector g c =
    let m = module_seen c.args.design.now in
    let table = c.args.table.now in
    let at = c.loop-at.at in
    let text = c.loop-at.invariant.0 in
    let w = c.loop-at.invariant.1 in
    let more : at < length table = omega (arith, c.loop-at-test.true, c.rows-at-end.ensures) in
    let r = stepped m table at c.loop-at.sim c.step_onto.new.sim (get_or c.args.table.now c.loop-at.at []) c.loop-at.before c.step_onto.new.now text c.requires.fit more refl w c.step_onto.ensures in
    let rest = from_edge m table at c.loop-at.sim c.step_onto.new.sim c.loop-at.before c.step_onto.new.now text c.requires.accepted c.requires.fit more w r in
    let same : vector_text at c.args.pins.now (option_copied c.values_before.result) c.step_onto.new.now ≡ vector_text at (run_pins m) (before_edge at c.loop-at.before) c.step_onto.new.now
    = ap (λ ps. vector_text at ps (option_copied c.values_before.result) c.step_onto.new.now) c.requires.pins ∙ ap (λ b. vector_text at (run_pins m) b c.step_onto.new.now) c.values_before.ensures in
    let edge = vector_text at (run_pins m) (before_edge at c.loop-at.before) c.step_onto.new.now in
    (text ++ (edge ++ rest.0), rest.1, and_then c.loop-at.invariant.2 (stopped rest.0 c.from_residual-in_err-put_vector.result c.from_residual-in_err-put_vector.ensures.0 (of_bytes _ edge same c.in_err-put_vector.ensures)))

pub loop-at-preserved : goal.loop-at-preserved
loop-at-preserved g c =
    let m = module_seen c.args.design.now in
    let table = c.args.table.now in
    let at = c.loop-at.at in
    let text = c.loop-at.invariant.0 in
    let w = c.loop-at.invariant.1 in
    let more : at < length table = omega (arith, c.loop-at-test.true, c.rows-at-end.ensures) in
    let r = stepped m table at c.loop-at.sim c.step_onto.new.sim (get_or c.args.table.now c.loop-at.at []) c.loop-at.before c.step_onto.new.now text c.requires.fit more refl w c.step_onto.ensures in
    let same : vector_text at c.args.pins.now (option_copied c.values_before.result) c.step_onto.new.now ≡ vector_text at (run_pins m) (before_edge at c.loop-at.before) c.step_onto.new.now
    = ap (λ ps. vector_text at ps (option_copied c.values_before.result) c.step_onto.new.now) c.requires.pins ∙ ap (λ b. vector_text at (run_pins m) b c.step_onto.new.now) c.values_before.ensures in
    let edge = vector_text at (run_pins m) (before_edge at c.loop-at.before) c.step_onto.new.now in
    let next = goes_on m table at c.loop-at.sim c.step_onto.new.sim c.loop-at.before c.step_onto.new.now text c.requires.accepted c.requires.fit more w r in
    (text ++ edge, subst (λ b. Writes m table (at + 1) c.step_onto.new.sim b (text ++ edge)) (sym c.copy_from_slice.ensures.after) next, and_then c.loop-at.invariant.2 (of_bytes _ edge same c.in_ok-put_vector.ensures))

pub returns : goal.returns
returns g c =
    let m = module_seen c.args.design.now in
    let all : length c.args.table.now ≤ c.loop-at.at = omega (arith, c.loop-at-test.false, c.rows-at-end.ensures) in
    (c.loop-at.invariant.0, ends m c.args.table.now c.loop-at.at c.loop-at.sim c.loop-at.before c.loop-at.invariant.0 all c.loop-at.invariant.1, c.loop-at.invariant.2)
