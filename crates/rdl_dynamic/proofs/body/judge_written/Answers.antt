use Rattle.std.proofs.Common.{◌<◌, ◌++◌, ℕ, List, length, IfSome, is_some, refl, sym, ap, subst}
use Rattle.plain_lemmas.proofs.Results.{on_ok-map as on_ok}
use Rattle.rdl_values.specs.Elaborated.{nodes_of}
use Rattle.rdl_values.specs.Instances.{Instance}
use Rattle.rdl_layers.specs.Settings.{Applied}
use Rattle.rdl_merge.specs.Merged.{AreEntries}
use Rattle.rdl_values.specs.Lineages.{lineages_of}
use Rattle.rdl_layers.specs.Assignments.{targets}
use Rattle.rdl_assignments.specs.Layers.{IsGiven}
use Rattle.rdl_layers.specs.Nested.{nested}
use Rattle.rdl_targets.specs.At.{AreAt, IsAt}
use Rattle.rdl_layers.specs.Tables.{entries_at}
use Rattle.rdl_dynamic.specs.Given.{dynamic_of}
use Rattle.rdl_dynamic.proofs.Going.{go-more, one_given, puts-none, puts-some}
use Rattle.rdl_dynamic.proofs.body.judge_written.Goals as goal

pub returns-in-Some : goal.returns-in-Some
returns-in-Some c = on_ok c.push_all.result _ _ (λ pushed e n first start read before rows contents at shown going.
    let d = dynamic_of n before c.args.written.now.target.now c.args.written.now.assigned.now in
    let led = c.in_ok-led.ensures e (nested n) read d (record { are_rows = rows; are_contents = contents; are_known = going.are_known; of = n; here = at; inside = refl; steps = refl; sets = refl; shown = shown }) in
    let is : IsGiven c.args.node c.in-Some.given d.assigns = subst (λ o. IfSome o (λ g. IsGiven c.args.node g d.assigns)) c.in-Some.is led.given_ in
    let put = puts-some e c.args.node n c.args.entries.now.items c.push_all.new.entries.items before d c.in-Some.given c.nodes.result.now refl at (subst (λ ks. AreAt (lineages_of e) ks (targets (nested n) d)) (sym c.nodes.ensures) led.at) is pushed in
    go-more e c.args.node c.args.rows.now n c.args.known.now c.judge_dynamic.new.known first c.args.entries.now.items c.push_all.new.entries.items start c.args.failures.now c.judge_dynamic.new.failures read d c.in_ok-led.led before refl at going led pushed.same_length
    (subst (λ o. (j : ℕ) (m : Instance) (xs : List Applied) → j < length c.args.entries.now.items → IsAt (lineages_of e) j m → AreEntries (nodes_of e) (entries_at c.args.entries.now.items j) xs → AreEntries (nodes_of e) (entries_at c.push_all.new.entries.items j) (xs ++ one_given (nested n) m d o)) (ap is_some (sym c.in-Some.is)) put)) c.push_all.ensures

pub returns-in-None : goal.returns-in-None
returns-in-None c = λ e n first start read before rows contents at shown going.
    let d = dynamic_of n before c.args.written.now.target.now c.args.written.now.assigned.now in
    let led = c.in_ok-led.ensures e (nested n) read d (record { are_rows = rows; are_contents = contents; are_known = going.are_known; of = n; here = at; inside = refl; steps = refl; sets = refl; shown = shown }) in
    go-more e c.args.node c.args.rows.now n c.args.known.now c.judge_dynamic.new.known first c.args.entries.now.items c.args.entries.now.items start c.args.failures.now c.judge_dynamic.new.failures read d c.in_ok-led.led before refl at going led refl
    (λ j m xs l is old. subst (λ o. AreEntries (nodes_of e) (entries_at c.args.entries.now.items j) (xs ++ one_given (nested n) m d o)) (ap is_some (sym c.in-None.is)) (puts-none e n c.args.entries.now.items d j m xs old))
