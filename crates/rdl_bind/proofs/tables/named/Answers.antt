use Rattle.std.proofs.Common.{sym, subst, IfOk}
use Rattle.rdl_resolve.specs.Named.{AreNamed}
use Rattle.rdl_resolve.specs.Outers.{AreOuters}
use Rattle.rdl_bind.proofs.tables.named.Goals as goal

pub named_items-requires-clause-known : goal.named_items-requires-clause-known
named_items-requires-clause-known c = record { clean = c.requires.clean; rows_ = c.requires.rows; members_ = c.in_ok-members.ensures; outers_ = subst (AreOuters c.args.elab.now) (sym c.deref.ensures.value) c.in_ok-outers.ensures }

pub returns : goal.returns
returns c = subst (λ m. IfOk c.named_items.result (AreNamed m)) c.requires.tree c.named_items.ensures
