use Rattle.std.proofs.Common.{codes, append_assoc}
use Rattle.rb_edge.proofs.Flowing.{and_then, stopped, of_bytes}
use Rattle.wave_text.specs.Pieces.{comma}
use Rattle.wave_text.proofs.lines.put_digits.Goals as goal

pub returns-in_err-put-in_default : goal.returns-in_err-put-in_default
returns-in_err-put-in_default g c = of_bytes _ _ (append_assoc (comma c.args.at) (codes "0x") c.args.digits.now) (stopped c.args.digits.now c.from_residual.result c.from_residual.ensures.0 (of_bytes _ _ c.prefix.ensures c.in_err-put-in_default.ensures.flows))

pub returns-in_ok-put-in_default : goal.returns-in_ok-put-in_default
returns-in_ok-put-in_default g c = of_bytes _ _ (append_assoc (comma c.args.at) (codes "0x") c.args.digits.now) (and_then (of_bytes _ _ c.prefix.ensures c.in_ok-put-in_default.ensures.flows) c.put-in_default-2.ensures.flows)
