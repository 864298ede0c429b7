use Rattle.std.proofs.Common.{refl}
use Rattle.rb_grammar.proofs.Following.{◌⟫◌, ◌⟫|◌}
use Rattle.rb_grammar.proofs.Steps.{entering, taking, halting}
use Rattle.v_parser.proofs.Firsts.{right}
use Rattle.v_parser.proofs.Blocks.{clock_read}
use Rattle.v_parser.proofs.cursor.Parser.clock_event.Goals as goal

pub returns-in_err-place-clause-stops : goal.returns-in_err-place-clause-stops
returns-in_err-place-clause-stops c = λ h. entering ⟫| halting right c.in_err-place.ensures.err refl

pub returns-in_err-_at-clause-stops : goal.returns-in_err-_at-clause-stops
returns-in_err-_at-clause-stops c = λ h. entering ⟫ taking right c.in_ok-place.ensures.ok refl ⟫| halting right c.in_err-_at.ensures.err refl

pub returns-in_err-_open-clause-stops : goal.returns-in_err-_open-clause-stops
returns-in_err-_open-clause-stops c = λ h. entering ⟫ taking right c.in_ok-place.ensures.ok refl ⟫ taking right c.in_ok-_at.ensures.ok refl ⟫| halting right c.in_err-_open.ensures.err refl

pub returns-in_err-_posedge-clause-stops : goal.returns-in_err-_posedge-clause-stops
returns-in_err-_posedge-clause-stops c = λ h. entering ⟫ taking right c.in_ok-place.ensures.ok refl ⟫ taking right c.in_ok-_at.ensures.ok refl ⟫ taking right c.in_ok-_open.ensures.ok refl ⟫| halting right c.in_err-_posedge.ensures.err refl

pub returns-in_err-clock-clause-stops : goal.returns-in_err-clock-clause-stops
returns-in_err-clock-clause-stops c = λ h. entering ⟫ taking right c.in_ok-place.ensures.ok refl ⟫ taking right c.in_ok-_at.ensures.ok refl ⟫ taking right c.in_ok-_open.ensures.ok refl ⟫ taking right c.in_ok-_posedge.ensures.ok refl ⟫| halting right c.in_err-clock.ensures.err refl

pub returns-clause-tree : goal.returns-clause-tree
returns-clause-tree c = clock_read c.in_ok-place.place c.in_ok-clock.clock.text.now c.in_ok-clock.clock.place.0 c.in_ok-place.ensures.ok c.in_ok-_at.ensures.ok c.in_ok-_open.ensures.ok c.in_ok-_posedge.ensures.ok c.in_ok-clock.ensures.ok refl refl refl

pub returns-clause-reads : goal.returns-clause-reads
returns-clause-reads c = entering ⟫ taking right c.in_ok-place.ensures.ok refl ⟫ taking right c.in_ok-_at.ensures.ok refl ⟫ taking right c.in_ok-_open.ensures.ok refl ⟫ taking right c.in_ok-_posedge.ensures.ok refl ⟫ taking right c.in_ok-clock.ensures.ok refl
