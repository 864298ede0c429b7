use Rattle.rdl_assignments.proofs.NamedAlike.{entry_steady, ref_steady}
use Rattle.rdl_assignments.proofs.steady.+is_steady.Goals as goal

pub returns-in-Ref : goal.returns-in-Ref
returns-in-Ref t c = λ q v shown. ref_steady c.args.text.now.same_enums v c.args.expr.now _ _ c.in-Ref.is (c.is_no_parameter.ensures q v shown _ _ c.in-Ref.is)

pub returns-in-EntryOf : goal.returns-in-EntryOf
returns-in-EntryOf t c = λ q v shown. entry_steady c.args.text.now.same_enums v c.args.expr.now _ _ c.in-EntryOf.is q
