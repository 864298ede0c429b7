use Rattle.rb_machine.proofs.scene.EdgeState.made.Goals as goal

pub returns-in-Field : goal.returns-in-Field
returns-in-Field c a marks = rw c.in-Field.is (c.field_value.ensures a)

pub returns-in-Anded : goal.returns-in-Anded
returns-in-Anded c a marks = rw c.in-Anded.is (c.all_ones.ensures a)

pub returns-in-IncrThreshold : goal.returns-in-IncrThreshold
returns-in-IncrThreshold c a marks = rw c.in-IncrThreshold.is (c.incr_threshold.ensures a)

pub returns-in-DecrThreshold : goal.returns-in-DecrThreshold
returns-in-DecrThreshold c a marks = rw c.in-DecrThreshold.is (c.decr_threshold.ensures a)

pub returns-in-Overflow : goal.returns-in-Overflow
returns-in-Overflow c a marks = rw c.in-Overflow.is (c.overflow.ensures a)

pub returns-in-Underflow : goal.returns-in-Underflow
returns-in-Underflow c a marks = rw c.in-Underflow.is (c.underflow.ensures a)
