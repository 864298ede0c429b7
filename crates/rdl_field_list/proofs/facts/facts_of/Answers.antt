use Rattle.std.proofs.Common.{◌≡◌, ◌∙◌, Some, sym, arith}
use Rattle.rdl_values.specs.Uses.{path_text}
use Rattle.rdl_layers.specs.Fields.{is_once}
use Rattle.rdl_fields.specs.Touched.{touches}
use Rattle.rdl_field_list.proofs.Telling.{over, plain, unit-field}
use Rattle.rdl_field_list.proofs.facts.facts_of.Goals as goal

pub text-requires : goal.text-requires
text-requires c = omega (arith, c.requires.tables.texts_.many, c.requires.node)

pub bounds-tables-at : goal.bounds-tables-at
bounds-tables-at c = omega (arith, c.requires.tables.facts_.all_nodes, c.requires.node)

pub bounds-tables-at-2 : goal.bounds-tables-at-2
bounds-tables-at-2 c = omega (arith, c.requires.tables.touched_.many, c.requires.node)

pub bounds-tables-at-3 : goal.bounds-tables-at-3
bounds-tables-at-3 c = omega (arith, c.requires.tables.once_.many, c.requires.node)

pub narrow-width-requires : goal.narrow-width-requires
narrow-width-requires c = c.requires.tables.facts_.narrow c.args.node _ (omega (arith, c.requires.tables.facts_.all_nodes, c.requires.node))

pub returns-clause-facts : goal.returns-clause-facts
returns-clause-facts c = λ r f own field is.
    let e = c.args.known.props.now in
    let k = c.args.node in
    let here = plain e c.args.register k r.register f own in
    let t = c.requires.tables in
    let read : Some c.text.result.now ≡ Some (path_text f.path) = sym c.text.ensures ∙ t.texts_.each k f c.requires.node here in
    let path : c.text.result.now ≡ path_text f.path = cc read in
    record {
      path_ = c.in_ok-bytes.ensures.items ∙ path;
      register_ = is;
      width_ = c.narrow-width.ensures ∙ (t.facts_.of_each k f here (unit-field f field)).width_;
      reset_ = c.reset_by-reset_by.ensures r.register f own.above here;
      shown_ = c.in_ok-shown.ensures f here;
      touched_ = over e c.args.register k r.register f own touches c.args.tables.touched.now t.touched_ field;
      once_ = over e c.args.register k r.register f own is_once c.args.tables.once.now t.once_ field;
    }
