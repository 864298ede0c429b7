-- Kinds of components compared.
use Rattle.std.specs.Prelude.{Bool}
use denote.Enum.Bare.{sameb}
use Rattle.rdl_tree.specs.declared.item.Kind.{Kind}
use Rattle.rdl_tree.specs.contracts.item.Kind as of_kind

-- two kinds are the same
abbrev pub same_kind : Kind → Kind → Bool
same_kind = sameb of_kind.the_type
