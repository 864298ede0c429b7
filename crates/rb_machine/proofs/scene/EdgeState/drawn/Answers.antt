use Rattle.std.proofs.Common.{◌∙◌, subst}
use Rattle.rb_machine.specs.Sources.{IsSourceOf}
use Rattle.rb_machine.specs.Table.{values_of}
use Rattle.rb_machine.proofs.Sourcing.{held_is, pinned_is}
use Rattle.rb_machine.proofs.scene.EdgeState.drawn.Goals as goal

pub returns-in-Made : goal.returns-in-Made
returns-in-Made c a marks = c.made.ensures a marks

pub returns-in-Held : goal.returns-in-Held
returns-in-Held c a marks =
    let s = c.args.self.now in
    c.held_value.ensures ∙ held_is s a (values_of c.args.table.now) c.args.item c.in-Held.number (subst (IsSourceOf s.block.now c.args.item) c.in-Held.is c.requires.source)

pub returns-in-Pin : goal.returns-in-Pin
returns-in-Pin c a marks =
    let s = c.args.self.now in
    c.number_at.ensures ∙ pinned_is s c.requires.scene a (values_of c.args.table.now) c.args.item c.in-Pin.place (subst (IsSourceOf s.block.now c.args.item) c.in-Pin.is c.requires.source)
