use Rattle.rdl_check.proofs.lists.lists_of.Goals as goal

pub regs-requires-clause-halts : goal.regs-requires-clause-halts
regs-requires-clause-halts c = λ f h k. c.clean_is_faultless.ensures.halts c.args.elab.now f c.requires.clear.none h k
