use Rattle.rdl_merge.proofs.Noted.{register_noted}
use Rattle.rdl_merge.proofs.registers.judge_register.Goals as goal

pub returns : goal.returns
returns c = λ all n h e p. register_noted n c.args.place c.number_in-width.result c.number_in-access.result c.is_bad_width.result c.is_bad_access.result _ _ c.args.failures.now c.note.new.self c.note-2.new.self e p (c.number_in-width.ensures all n h) (c.number_in-access.ensures all n h) c.is_bad_width.ensures c.is_bad_access.ensures c.in_ok-note.ensures c.in_ok-note-2.ensures
