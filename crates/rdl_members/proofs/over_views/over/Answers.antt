use Rattle.std.proofs.Common.{◌∙◌, sym, ap}
use Rattle.rdl_members.specs.Covered.{is_at}
use Rattle.rdl_members.proofs.Covering.{never-out, no-primary, primary-counted, row-covers}
use Rattle.rdl_members.proofs.over_views.over.Goals as goal

pub returns-in_err-alias-clause-covered : goal.returns-in_err-alias-clause-covered
returns-in_err-alias-clause-covered c = λ e i k g l r clean are members at row kept. absurd (never-out e c.args.rows.now are c.args.row.now i g row c.in_ok-parent.parent c.in_ok-parent.was (sym c.first_of.ensures ∙ c.in_err-alias.was))

pub returns-in_err-primary-clause-covered : goal.returns-in_err-primary-clause-covered
returns-in_err-primary-clause-covered c = λ e i k g l r clean are members at row kept.
    ap (λ o. is_at o k) c.from_residual-in_err-primary.ensures ∙ sym (no-primary e c.args.rows.now are c.args.row.now i g row c.in_ok-parent.parent c.in_ok-parent.was c.in_ok-alias.alias (sym c.first_of.ensures ∙ c.in_ok-alias.was) c.primary.result (λ j m here is. c.primary.ensures e j m clean here is) r l.node c.in_err-primary.was)

pub returns-clause-covered : goal.returns-clause-covered
returns-clause-covered c = λ e i k g l r clean are members at row kept.
    let rows = c.args.rows.now in
    let x = c.args.row.now in
    let p = c.in_ok-parent.parent in
    let alias = c.in_ok-alias.alias in
    let here = sym c.first_of.ensures ∙ c.in_ok-alias.was in
    let t = c.in_ok-primary.primary in
    let low = primary-counted e rows are x i g row p c.in_ok-parent.was alias here c.primary.result (λ j m at is. c.primary.ensures e j m clean at is) t c.in_ok-primary.was clean in
    row-covers e rows are x i g row p c.in_ok-parent.was alias here c.primary.result (λ j m at is. c.primary.ensures e j m clean at is) t c.in_ok-primary.was clean at (sym c.is_field.ensures ∙ c.if-not-is_field.false) k l r kept c.find.result (c.find.ensures.found e members low)
