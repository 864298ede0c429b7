use Rattle.std.proofs.Common.{sym, subst}
use Rattle.rdl_tree.specs.InOrder.{IsInOrder}
use Rattle.rdl_values.specs.Elaborated.{top_name}
use Rattle.rdl_values.specs.Elaboration.{Elaborates}
use Rattle.std.specs.Prelude.{Some}
use Rattle.tests_cases.proofs.trees.grown.Goals as goal

pub returns-in-Ok : goal.returns-in-Ok
returns-in-Ok c =
    let e = c.in-Ok.elab in
    let source = c.in-Ok.ensures.tree.source in
    record {
      elaborated = subst (λ s. Elaborates (Some (top_name e)) s e) (sym source) (c.name_decides_the_top.ensures.tree _ c.args.source.now e c.in-Ok.ensures);
      in_order = subst (λ s. IsInOrder s.items.now) (sym source) c.requires;
    }
