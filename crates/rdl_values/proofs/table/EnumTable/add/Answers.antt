use Rattle.std.proofs.Common.{◌≡◌, ◌∙◌, [], ◌∷◌, ◌++◌, cond, is_some, length, sym, ap, subst}
use Rattle.rdl_values.specs.Table.{entries_by}
use Rattle.rdl_values.specs.Values.{entry_named}
use Rattle.rdl_values.proofs.Tables.{behind, firsts_pushed, is-named, kept}
use Rattle.rdl_values.proofs.table.EnumTable.add.Goals as goal

pub invariant_of-self-in-Continue-branch-3 : goal.invariant_of-self-in-Continue-branch-3
invariant_of-self-in-Continue-branch-3 c =
    let es = c.self.inside.entries.items in
    let size : c.len.result ≡ length es = c.len.ensures ∙ c.reserve.new.self.ok.0 ∙ ap length c.reserve.ensures.items in
    firsts_pushed (λ e. e.0.now) c.self.inside.places c.put.new.self es c.push.new.self.items (c.args.name, c.args.number) c.len.result c.self.invariant size c.in_ok-again.ensures.put (c.in_ok-push.ensures.items ∙ ap (λ xs. xs ++ ((c.args.name, c.args.number) ∷ [])) c.reserve.ensures.items)

pub returns-in_ok-push-clause-added : goal.returns-in_ok-push-clause-added
returns-in_ok-push-clause-added c =
    let n = c.args.name.now in
    let es = c.self.inside.entries.items in
    let none = is-named (λ k. k) n es c.self.inside.places c.self.invariant ∙ sym c.in_ok-again.ensures.again ∙ c.if-not-again.true in
    let items = c.in_ok-push.ensures.items ∙ ap (λ xs. xs ++ ((c.args.name, c.args.number) ∷ [])) c.reserve.ensures.items in
    let new = behind (λ e. (e.0.now, e.1)) (c.args.name, c.args.number) es c.push.new.self.items (is_some (entry_named n (entries_by es))) none items in
    subst (λ t. entries_by c.push.new.self.items ≡ cond (is_some (entry_named n t.entries)) t.entries (t.entries ++ ((n, c.args.number) ∷ []))) c.self.view_is new

pub returns-else-not-again-clause-added : goal.returns-else-not-again-clause-added
returns-else-not-again-clause-added c =
    let n = c.args.name.now in
    let es = c.self.inside.entries.items in
    let there = is-named (λ k. k) n es c.self.inside.places c.self.invariant ∙ sym c.in_ok-again.ensures.again ∙ c.if-not-again.false in
    let same = ap entries_by c.reserve.ensures.items ∙ kept (is_some (entry_named n (entries_by es))) (entries_by es) (entries_by es ++ ((n, c.args.number) ∷ [])) there in
    subst (λ t. entries_by c.reserve.new.self.items ≡ cond (is_some (entry_named n t.entries)) t.entries (t.entries ++ ((n, c.args.number) ∷ []))) c.self.view_is same
