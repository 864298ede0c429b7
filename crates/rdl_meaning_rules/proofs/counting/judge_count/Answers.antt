use Rattle.std.proofs.Common.{◌≡◌, ◌∙◌, nat_lt, filter, length, append-nil, sym, ap}
use Rattle.rdl_base.specs.declared.rule.Rule.TheVariants as rule
use Rattle.rdl_tree.specs.declared.item.Kind.TheVariants as kinds
use Rattle.rdl_values.specs.Elaborated.{nodes_of}
use Rattle.rdl_values.specs.Faults.{at_, when}
use Rattle.rdl_failures.specs.Noted.{with_all}
use Rattle.rdl_layers.specs.Fields.{is_a}
use Rattle.rdl_rules.specs.FieldRules.{at_node}
use Rattle.rdl_rules.specs.RegisterRules.{most_fields, too_many_fields}
use Rattle.rdl_meaning_rules.proofs.Rows.{one-top}
use Rattle.rdl_meaning_rules.proofs.counting.judge_count.Goals as goal

pub returns : goal.returns
returns c =
    let e = c.args.elab.now in
    let t = one-top c.requires.clean.elaborated.tree.top in
    let many = c.count_fields-is_over.ensures e c.requires.rows in
    let fs = at_node rule.F15 t.0 (nat_lt most_fields (length (filter (is_a kinds.Field) (nodes_of e)))) in
    let put : c.note.new.self ≡ with_all fs c.args.failures.now = c.in_ok-note.ensures.put ∙ (λ i. with_all (when (nat_lt most_fields (many i)) (at_ rule.F15 (t.2.place i))) c.args.failures.now) in
    put ∙ (ap (λ xs. with_all xs c.args.failures.now) (sym (append-nil fs)) ∙ ap (λ ns. with_all (too_many_fields ns (nodes_of e)) c.args.failures.now) (sym t.1))
