use Rattle.std.proofs.Common.{ap, ◌∙◌, sym, subst}
use Rattle.std.specs.Prelude.{Contains}
use Rattle.rtl_net.specs.Net.{registers_of}
use Rattle.rtl_net.proofs.Nets.{Extends-grows, Extends-trans}
use Rattle.rb_model.specs.Ports.{Outlet, outlets}
use Rattle.rb_model.specs.Kept.{field_kept}
use Rattle.std.specs.Prelude.{length, map}
use Rattle.gen_scene.specs.Items.{IsItem}
use Rattle.gen_scene.proofs.Worths.{IsBase-extends, IsBase-grows}
use Rattle.gen_clock.specs.Edges.{AreNexts}
use Rattle.gen_core.specs.Ties.{SeatsTaken, outlet_pin}
use Rattle.gen_core.proofs.Building.{AreAwaiting-grows, core_is, driven_all}
use Rattle.gen_core.proofs.Joining.{HasShown-extends}
use Rattle.gen_core.proofs.Naming.{same_free}
use Rattle.gen_core.proofs.built.tied.Goals as goal

pub drive_nodes-requires-clause-base : goal.drive_nodes-requires-clause-base
drive_nodes-requires-clause-base c = IsBase-grows c.args.net.now c.block_nodes.new.net c.in_ok-parts.ensures.older c.args.base.now c.requires.base

pub drive_nodes-requires-clause-awaits : goal.drive_nodes-requires-clause-awaits
drive_nodes-requires-clause-awaits c =
    let base = c.args.base.now in
    AreAwaiting-grows base.block.now base.plan.now base.pins.now c.args.net.now c.block_nodes.new.net base.kept.now c.in_ok-parts.ensures.older c.requires.awaits

pub drive_nodes-requires-clause-nexts : goal.drive_nodes-requires-clause-nexts
drive_nodes-requires-clause-nexts c =
    subst (AreNexts c.args.base.now.block.now c.args.base.now.inlet c.block_nodes.new.net) (sym c.deref.ensures.value) c.in_ok-parts.ensures.parts.taken.nexts

pub show_nodes-requires-clause-base : goal.show_nodes-requires-clause-base
show_nodes-requires-clause-base c =
    IsBase-extends c.block_nodes.new.net c.drive_nodes.new.net c.drive_nodes.ensures.older c.args.base.now
    (IsBase-grows c.args.net.now c.block_nodes.new.net c.in_ok-parts.ensures.older c.args.base.now c.requires.base)

pub show_nodes-requires-clause-items : goal.show_nodes-requires-clause-items
show_nodes-requires-clause-items c =
    let b = c.args.base.now.block.now in
    let a = c.args.base.now.inlet in
    subst (λ t. (o : Outlet) → Contains (outlets b) o → IsItem b a c.drive_nodes.new.net t o.item) (sym c.deref-2.ensures.value)
    (HasShown-extends b a c.block_nodes.new.net c.drive_nodes.new.net c.in_ok-parts.parts.items.items c.drive_nodes.ensures.older c.in_ok-parts.ensures.parts.shown).each

pub show_nodes-requires-clause-free : goal.show_nodes-requires-clause-free
show_nodes-requires-clause-free c = λ o h.
    same_free c.args.net.now c.drive_nodes.new.net o.name o.width (c.drive_nodes.ensures.seats ∙ c.in_ok-parts.ensures.older.seats) (c.drive_nodes.ensures.registers ∙ c.in_ok-parts.ensures.older.registers) (c.requires.free o h)

pub returns-clause-older : goal.returns-clause-older
returns-clause-older c =
    Extends-trans c.args.net.now c.block_nodes.new.net c.show_nodes.new.net (Extends-grows c.args.net.now c.block_nodes.new.net c.in_ok-parts.ensures.older)
    (Extends-trans c.block_nodes.new.net c.drive_nodes.new.net c.show_nodes.new.net c.drive_nodes.ensures.older c.show_nodes.ensures.older)

pub returns-clause-name : goal.returns-clause-name
returns-clause-name c = c.show_nodes.ensures.name ∙ c.drive_nodes.ensures.name ∙ c.in_ok-parts.ensures.name

pub returns-clause-registers : goal.returns-clause-registers
returns-clause-registers c = ap registers_of c.show_nodes.ensures.nodes ∙ c.drive_nodes.ensures.registers ∙ c.in_ok-parts.ensures.older.registers

pub returns-clause-undriven : goal.returns-clause-undriven
returns-clause-undriven c =
    driven_all c.args.net.now.nodes c.block_nodes.new.net.nodes c.drive_nodes.new.net.nodes c.show_nodes.new.net.nodes (length (field_kept c.args.base.now.block.now))
    c.in_ok-parts.ensures.older.undriven c.drive_nodes.ensures.undriven c.show_nodes.ensures.nodes

pub returns-clause-seats : goal.returns-clause-seats
returns-clause-seats c =
    subst (λ ss. SeatsTaken ss c.show_nodes.new.net.seats (map outlet_pin (outlets c.args.base.now.block.now))) (c.drive_nodes.ensures.seats ∙ c.in_ok-parts.ensures.older.seats) c.in_ok-show_nodes.ensures.seats

pub returns-clause-core : goal.returns-clause-core
returns-clause-core c =
    core_is c.args.base.now.block.now c.args.base.now.inlet c.block_nodes.new.net c.drive_nodes.new.net c.show_nodes.new.net c.in_ok-parts.parts.taken c.in_ok-parts.ensures.parts.taken
    c.drive_nodes.ensures.older c.show_nodes.ensures.older c.drive_nodes.ensures.moved c.in_ok-show_nodes.ensures.shown
