use Rattle.std.proofs.Common.{refl, ap, Err}
use Rattle.rb_grammar.proofs.Following.{◌⟫◌, ◌⟫|◌}
use Rattle.rb_grammar.proofs.Steps.{entering, taking, calling, calling_stops, halting, passed}
use Rattle.rb_grammar.proofs.Factoring.{packing}
use Rattle.v_parser.proofs.Firsts.{right}
use Rattle.v_parser.proofs.Blocks.{event_read}
use Rattle.v_parser.proofs.cursor.Parser.reset_event.Goals as goal

pub returns-in_err-_or-clause-stops : goal.returns-in_err-_or-clause-stops
returns-in_err-_or-clause-stops c = λ h. entering ⟫| halting right c.in_err-_or.ensures.err refl

pub returns-in_err-low-clause-stops : goal.returns-in_err-low-clause-stops
returns-in_err-low-clause-stops c = λ h. entering ⟫ taking right c.in_ok-_or.ensures.ok refl ⟫| calling_stops right (c.in_err-low.ensures.stops (ap Err (passed _ _ c.from_residual-in_err-low.ensures.1 h))) refl

pub returns-in_err-pin-clause-stops : goal.returns-in_err-pin-clause-stops
returns-in_err-pin-clause-stops c = λ h. entering ⟫ taking right c.in_ok-_or.ensures.ok refl ⟫ calling right c.in_ok-low.ensures.reads refl ⟫| halting right c.in_err-pin.ensures.err refl

pub returns-in_err-_events-clause-stops : goal.returns-in_err-_events-clause-stops
returns-in_err-_events-clause-stops c = λ h. entering ⟫ taking right c.in_ok-_or.ensures.ok refl ⟫ calling right c.in_ok-low.ensures.reads refl ⟫ taking right c.in_ok-pin.ensures.ok refl ⟫| halting right c.in_err-_events.ensures.err refl

pub returns-clause-tree : goal.returns-clause-tree
returns-clause-tree c = event_read c.in_ok-low.low c.in_ok-pin.pin.text.now c.in_ok-pin.pin.place.0 c.in_ok-_or.ensures.ok c.in_ok-low.ensures.tree c.in_ok-pin.ensures.ok c.in_ok-_events.ensures.ok refl refl

pub returns-clause-reads : goal.returns-clause-reads
returns-clause-reads c = entering ⟫ taking right c.in_ok-_or.ensures.ok refl ⟫ calling right c.in_ok-low.ensures.reads refl ⟫ taking right c.in_ok-pin.ensures.ok refl ⟫ taking right c.in_ok-_events.ensures.ok refl ⟫ packing 1
