use Rattle.rb_machine.proofs.machine.no_marks.Goals as goal

pub returns-clause-items : goal.returns-clause-items
returns-clause-items c = c.in_ok-vec.ensures.items_if_clones_equal (λ y e. e)
