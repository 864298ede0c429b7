use Rattle.std.proofs.Common.{◌∙◌, sym, ap, subst}
use Rattle.rdl_tree.specs.declared.node.Elab.{Elab}
use Rattle.rdl_values.specs.Elaborated.{nodes_of}
use Rattle.rdl_values.specs.Elaboration.{IsClean}
use Rattle.rdl_values.specs.Lineages.{lineages_of}
use Rattle.plain_lemmas.proofs.Lists.{each-imp}
use Rattle.rdl_layers.specs.Fields.{is_once}
use Rattle.rdl_nodes.specs.Rows.{AreRows}
use Rattle.rdl_refs.specs.Answers.{IsBound}
use Rattle.rdl_feeds.specs.Narrow.{AreNarrow}
use Rattle.rdl_rules.specs.Facts.{AreFacts}
use Rattle.rdl_block_numbers.specs.Texts.{AreTexts}
use Rattle.rdl_members.specs.Covered.{AreOverViews}
use Rattle.rdl_reset_rules.specs.Nearest.{AreNearest}
use Rattle.rdl_rules.specs.Block as blocks
use Rattle.rdl_rules.specs.Numbers.{all_fields}
use Rattle.rdl_sound_laws.specs.Faultless.{IsFaultless}
use Rattle.rdl_fields.specs.Touched.{touches}
use Rattle.rdl_field_list.specs.Own.{AreNarrowFields}
use Rattle.rdl_field_list.proofs.list.fields.Goals as goal

pub nearest_resets-requires-clause-clean : goal.nearest_resets-requires-clause-clean
nearest_resets-requires-clause-clean c = subst IsClean c.requires.elab c.requires.known.clean

pub nearest_resets-requires-clause-rows : goal.nearest_resets-requires-clause-rows
nearest_resets-requires-clause-rows c = subst (λ e. AreRows e c.args.known.rows.now) c.requires.elab c.requires.known.rows_

pub fields_by-requires-clause-bound : goal.fields_by-requires-clause-bound
fields_by-requires-clause-bound c = subst IsBound (sym c.requires.elab) c.requires.bound

pub fields_by-requires-clause-tables : goal.fields_by-requires-clause-tables
fields_by-requires-clause-tables c =
    let e = c.args.elab.now in
    let back = sym c.requires.elab in
    record {
      facts_ = subst (λ m. AreFacts m c.args.facts.now) back c.requires.facts;
      texts_ = subst (λ m. AreTexts m c.args.texts.now) back c.requires.texts;
      nearest_ = subst (λ m. AreNearest m c.deref.result.now) back (subst (AreNearest e) (sym c.deref.ensures.value) c.in_ok-nearest.ensures);
      touched_ = subst (λ m. AreOverViews m touches c.deref-2.result.now) back (subst (AreOverViews e touches) (sym c.deref-2.ensures.value) c.in_ok-touched.ensures);
      once_ = subst (λ m. AreOverViews m is_once c.deref-3.result.now) back (subst (AreOverViews e is_once) (sym c.deref-3.ensures.value) c.in_ok-once.ensures);
    }

pub fields_by-requires-clause-narrow : goal.fields_by-requires-clause-narrow
fields_by-requires-clause-narrow c =
    let e = c.args.elab.now in
    let all = c.clean_is_faultless.ensures.fields_ e (subst IsClean c.requires.elab c.requires.known.clean) c.requires.settled c.requires.bound c.requires.meaning in
    subst AreNarrowFields (sym c.requires.elab) (each-imp (IsFaultless (lineages_of e)) AreNarrow (all_fields (nodes_of e)) (c.faultless_is_narrow.ensures (lineages_of e)) all)

pub fields_by-requires-clause-count : goal.fields_by-requires-clause-count
fields_by-requires-clause-count c = ap (λ (e : Elab). e.count) (sym c.requires.elab)

pub returns : goal.returns
returns c = c.in_ok-list.ensures ∙ ap (λ (e : Elab). blocks.fields e.source.now (lineages_of e)) c.requires.elab
