-- The forms of a tree's instances.
use Rattle.std.specs.Prelude.{◌≡◌, true, [], Contains, is_some}
use Rattle.rdl_tree.specs.declared.node.Elab.{Elab}
use Rattle.rdl_values.specs.Elaborated.{nodes_of}
use Rattle.rdl_values.specs.Instances.{Instance}

-- no instance has a bracket beside a range
abbrev pub HaveOneForm : Elab → Type 0
HaveOneForm e = (n : Instance) → Contains (nodes_of e) n → is_some n.use_.form.range ≡ true → n.use_.dims ≡ []
