use Rattle.std.proofs.Common.{◌++◌, sym, subst}
use Rattle.plain_lemmas.proofs.Results.{on_ok-map as on_ok}
use Rattle.rdl_merge.specs.Merged.{AreEntries}
use Rattle.rdl_merge.proofs.layers.add_one.Goals as goal

pub returns : goal.returns
returns c = on_ok c.add_entry.result _ _ (λ h all xs judged a rank g k old.
    let e = c.entry_of.ensures all judged a rank g k in
    subst (λ ys. AreEntries all c.add_entry.new.entries.items (xs ++ ys)) (sym e.gives_one) (h all xs e.one old e.entry)) c.add_entry.ensures
