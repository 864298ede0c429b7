use Rattle.std.proofs.Common.{◌≡◌, ◌∙◌, [], ◌∷◌, ◌++◌, cond, is_some, length, sym, ap, subst}
use Rattle.std.proofs.lemmas.List.{map-append}
use Rattle.rdl_values.specs.Over.{shown_or_none}
use Rattle.rdl_values.specs.Seen.{val_of}
use Rattle.rdl_values.specs.Table.{bound_by}
use Rattle.rdl_values.specs.Values.{entry_named}
use Rattle.rdl_values.proofs.Tables.{behind-both, firsts_pushed, is-named, kept, not-over, over-named}
use Rattle.rdl_values.proofs.name_table.NameTable.add.Goals as goal

pub invariant_of-self-in-Continue-branch-3 : goal.invariant_of-self-in-Continue-branch-3
invariant_of-self-in-Continue-branch-3 c =
    let es = c.self.inside.bound.items in
    let size : c.len.result ≡ length es = c.len.ensures ∙ c.reserve.new.self.ok.0 ∙ ap length c.reserve.ensures.items in
    record {
      shown_are = c.self.invariant.shown_are;
      bound_at = firsts_pushed (λ e. e.0.now) c.self.inside.bound_places c.put.new.self es c.push.new.self.items (c.args.name, c.args.value) c.len.result c.self.invariant.bound_at size c.in_ok-again.ensures.put (c.in_ok-push.ensures.items ∙ ap (λ xs. xs ++ ((c.args.name, c.args.value) ∷ [])) c.reserve.ensures.items);
      enums_at = c.self.invariant.enums_at;
      unique = c.self.invariant.unique;
    }

pub returns-then-is_some-clause-added : goal.returns-then-is_some-clause-added
returns-then-is_some-clause-added c =
    let n = c.args.name.now in
    let over = shown_or_none c.self.inside.over in
    let own = bound_by c.self.inside.bound.items in
    let has = over-named val_of n c.value_over.result over own c.is_some.result (c.value_over.ensures c.self.invariant.shown_are) c.is_some.ensures c.if-is_some.true in
    let same = kept (is_some (entry_named n (over ++ own))) (over ++ own) ((over ++ own) ++ ((n, val_of c.args.value) ∷ [])) has in
    subst (λ t. t.bound ≡ cond (is_some (entry_named n t.bound)) t.bound (t.bound ++ ((n, val_of c.args.value) ∷ []))) c.self.view_is same

pub returns-in_ok-push-clause-added : goal.returns-in_ok-push-clause-added
returns-in_ok-push-clause-added c =
    let n = c.args.name.now in
    let es = c.self.inside.bound.items in
    let over = shown_or_none c.self.inside.over in
    let own = not-over val_of n c.value_over.result over (bound_by es) c.is_some.result (c.value_over.ensures c.self.invariant.shown_are) c.is_some.ensures c.if-is_some.false in
    let none = ap is_some own ∙ is-named val_of n es c.self.inside.bound_places c.self.invariant.bound_at ∙ sym c.in_ok-again.ensures.again ∙ c.if-not-again.true in
    let items = c.in_ok-push.ensures.items ∙ ap (λ xs. xs ++ ((c.args.name, c.args.value) ∷ [])) c.reserve.ensures.items in
    let bound = ap bound_by items ∙ map-append (λ e. (e.0.now, val_of e.1)) es ((c.args.name, c.args.value) ∷ []) in
    let new = behind-both (n, val_of c.args.value) over (bound_by es) (bound_by c.push.new.self.items) (is_some (entry_named n (over ++ bound_by es))) none bound in
    subst (λ t. over ++ bound_by c.push.new.self.items ≡ cond (is_some (entry_named n t.bound)) t.bound (t.bound ++ ((n, val_of c.args.value) ∷ []))) c.self.view_is new

pub returns-else-not-again-clause-added : goal.returns-else-not-again-clause-added
returns-else-not-again-clause-added c =
    let n = c.args.name.now in
    let es = c.self.inside.bound.items in
    let over = shown_or_none c.self.inside.over in
    let own = not-over val_of n c.value_over.result over (bound_by es) c.is_some.result (c.value_over.ensures c.self.invariant.shown_are) c.is_some.ensures c.if-is_some.false in
    let there = ap is_some own ∙ is-named val_of n es c.self.inside.bound_places c.self.invariant.bound_at ∙ sym c.in_ok-again.ensures.again ∙ c.if-not-again.false in
    let same = ap (λ xs. over ++ bound_by xs) c.reserve.ensures.items ∙ kept (is_some (entry_named n (over ++ bound_by es))) (over ++ bound_by es) ((over ++ bound_by es) ++ ((n, val_of c.args.value) ∷ [])) there in
    subst (λ t. over ++ bound_by c.reserve.new.self.items ≡ cond (is_some (entry_named n t.bound)) t.bound (t.bound ++ ((n, val_of c.args.value) ∷ []))) c.self.view_is same
