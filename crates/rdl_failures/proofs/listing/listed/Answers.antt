use Rattle.std.proofs.Common.{◌≡◌, ◌∙◌, List, subst, ap, IsSorted}
use Rattle.std.specs.Ordering.{is_eq}
use Rattle.std.specs.declared.cmp.Ordering.{Ordering}
use Rattle.rdl_base.specs.Faults.{fault_cmp}
use Rattle.rdl_base.specs.declared.fault.Fault.{Fault}
use Rattle.rdl_values.proofs.Sorted.{sorted_once}
use Rattle.rdl_failures.proofs.listing.listed.Goals as goal

-- a sort by an order is one by an equal order
sorted-by : (c d : Fault → Fault → Ordering) (xs : List Fault) → ((a b : Fault) → c a b ≡ d a b) → IsSorted c xs → IsSorted d xs
sorted-by c d xs e h = subst (λ r. IsSorted r xs) (λ i a b. e a b i) h

pub returns : goal.returns
returns c =
    let s = c.in_ok-sort_once.ensures.sorted in
    let list = sorted_once c.args.faults.items s.sorted _ c.sort_once.ensures.equivalence (λ x y. c.sort_once.ensures.ties x y ∙ ap is_eq (c.order_of_faults.ensures x y)) s.same (sorted-by _ fault_cmp s.sorted c.order_of_faults.ensures s.rises) in
    rw s.once list
