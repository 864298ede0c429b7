use Rattle.std.proofs.Common.{◌∙◌, [], ap, length, subst, sym}
use Rattle.rdl_values.specs.Elaborated.{nodes_of}
use Rattle.rdl_nodes.specs.Rows.{AreRows}
use Rattle.rdl_facts.specs.Told.{AreTold}
use Rattle.rdl_settle.specs.Gathered.{IsGathered}
use Rattle.rdl_settle.proofs.Assigning.{rows_count}
use Rattle.rdl_settle.proofs.Finishing.{empty_is, not_empty, refused, settled, tables, told_all}
use Rattle.rdl_settle.proofs.settling.settle.Goals as goal

pub returns-then-not-is_empty : goal.returns-then-not-is_empty
returns-then-not-is_empty c =
    let e = c.args.elab.now in
    let found = subst (λ fs. IsGathered e c.in-Ok.gathered fs c.gather.new.failures) c.new-failures.ensures c.in-Ok.ensures in
    refused e c.in-Ok.gathered.entries.items c.gather.new.failures c.refused.result c.requires found.all (not_empty c.gather.new.failures (sym c.is_empty.ensures ∙ c.if-not-is_empty.true)) c.refused.ensures

pub facts_of-requires : goal.facts_of-requires
facts_of-requires c =
    let e = c.args.elab.now in
    ap length c.deref.ensures.value ∙ rows_count e c.in-Ok.gathered.rows.items c.requires c.in-Ok.ensures.rows_ ∙ sym c.in-Ok.ensures.all.all_nodes ∙ sym (ap length c.deref-2.ensures.value)

pub encodings_of-requires : goal.encodings_of-requires
encodings_of-requires c =
    let e = c.args.elab.now in
    ap length c.deref-3.ensures.value ∙ rows_count e c.in-Ok.gathered.rows.items c.requires c.in-Ok.ensures.rows_ ∙ sym c.in-Ok.ensures.all.all_nodes ∙ sym (ap length c.deref-4.ensures.value)

pub of-props-requires-clause-names : goal.of-props-requires-clause-names
of-props-requires-clause-names c = c.in-Ok-names_of.ensures c.args.elab.now c.in-Ok.ensures.open_

pub of-props-requires-clause-settings : goal.of-props-requires-clause-settings
of-props-requires-clause-settings c =
    let e = c.args.elab.now in
    let found = subst (λ fs. IsGathered e c.in-Ok.gathered fs c.gather.new.failures) c.new-failures.ensures c.in-Ok.ensures in
    tables e c.in-Ok.gathered.entries.items [] c.gather.new.failures c.requires found.all (λ n xs h p. c.entries_say.ensures.settings (nodes_of e) n xs h p)

pub returns : goal.returns
returns c =
    let e = c.args.elab.now in
    let g = c.in-Ok.gathered in
    let found = subst (λ fs. IsGathered e g fs c.gather.new.failures) c.new-failures.ensures c.in-Ok.ensures in
    let none = settled e g.entries.items c.gather.new.failures c.requires found.all (empty_is c.gather.new.failures (sym c.is_empty.ensures ∙ c.if-not-is_empty.false)) in
    let told = told_all e g.entries.items [] c.gather.new.failures c.requires found.all in
    record {
      settled = none;
      of_tree = c.of-props.ensures;
      facts = c.in-Ok-facts_of.ensures e c.requires none (subst (AreRows e) (sym c.deref.ensures.value) found.rows_) found.open_ (subst (AreTold e) (sym c.deref-2.ensures.value) told);
      encodings = c.in-Ok-encodings_of.ensures e c.requires (subst (AreRows e) (sym c.deref-3.ensures.value) found.rows_) found.open_ (subst (AreTold e) (sym c.deref-4.ensures.value) told);
    }
