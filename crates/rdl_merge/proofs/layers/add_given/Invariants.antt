use Rattle.std.proofs.Common.{ℕ, List, ◌++◌, take, flat_map}
use Rattle.rdl_values.specs.Instances.{Instance}
use Rattle.rdl_layers.specs.Meanings.{Assignment}
use Rattle.rdl_layers.specs.Settings.{Applied, gives}
use Rattle.rdl_layers.specs.declared.rank.Rank.{Rank}
use Rattle.rdl_assignments.specs.Layers.{AreGiven}
use Rattle.rdl_merge.specs.Merged.{AreEntries, AreIn}
use Rattle.rdl_merge.proofs.layers.add_given.Given as goal

abbrev pub invariant-loop-one : goal.invariant-loop-one
invariant-loop-one l = (all : List Instance) (xs : List Applied) (judged : ℕ) (assigned : List Assignment) (rank : Rank) → AreGiven judged l.given assigned → AreIn all l.body assigned
    → AreEntries all l.initial.entries.items xs → AreEntries all l.entries.items (xs ++ flat_map (gives rank) (take l.one-index assigned))
