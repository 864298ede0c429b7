use Rattle.std.proofs.Common.{refl}
use Rattle.rdl_bodies.proofs.Finding.{blank, if_both, text_found, text_new}
use Rattle.rdl_bodies.proofs.bodies.Bodies.text_at.Goals as goal

pub returns-in-Some : goal.returns-in-Some
returns-in-Some c =
    let f = c.in-Some.ensures in
    text_found c.args.self.now c.args.failures.now c.args.place c.args.items.now c.args.params.now c.in-Some.number f.0 f.1 c.requires.kept c.requires.placed f.2 f.3 f.4

pub returns : goal.returns
returns c =
    let p = c.push_text.ensures in
    if_both c.push_text.result _ _ _
    (λ k number texts. text_new c.args.self.now c.push_text.new.self c.args.failures.now c.judge_names.new.failures c.of.new.failures k (record { place = c.args.place; items = c.args.items; params = c.args.params; steady = c.are_fixed.result; closed = c.in_ok-closed.closed; components = c.in_ok-components.components }) c.requires.kept c.requires.placed
    (record { tables = p.tables; components = p.components; list = p.list; sites = p.sites }) texts number (c.in_ok-judge_names.ensures (blank c.args.items.now) refl).put c.in_ok-closed.ensures c.in_ok-components.ensures c.are_fixed.ensures)
    p.number p.texts
