use Rattle.std.proofs.Common.{◌≡◌, ◌∙◌, MatchOption, None, Some, arith, cond, get_or, map, nat_lt, rc_value, subst, sym, ap}
use Rattle.std.proofs.lemmas.List.{length-map}
use Rattle.rdl_values.specs.Visible as visible
use Rattle.rdl_values.proofs.Tables.{called, enum-none, enum-some, handed_out, place_within, read-map}
use Rattle.rdl_values.proofs.name_table.NameTable.enum_before.Goals as goal

pub returns-in_err-find : goal.returns-in_err-find
returns-in_err-find c =
    let n = c.args.name.now in
    let none = enum-none n (map rc_value c.self.inside.enums.items) c.self.invariant.unique (sym (c.self.invariant.enums_at.at n.text.now) ∙ sym c.find.ensures ∙ c.in_err-find.was) in
    let seen = ap (visible.enum_before n) (sym c.self.view_is) ∙ none in
    subst (λ o. MatchOption o (visible.enum_before n c.args.self.now ≡ None) (λ e. visible.enum_before n c.args.self.now ≡ Some (called n e.now))) (sym c.from_residual.ensures) seen

pub index-requires : goal.index-requires
index-requires c =
    let n = c.args.name.now.text.now in
    let es = map rc_value c.self.inside.enums.items in
    let within = place_within n (map (λ e. e.name) es) c.in_ok-find.field-0 (sym (c.self.invariant.enums_at.at n) ∙ sym c.find.ensures ∙ c.in_ok-find.was) in
    let size = length-map es (λ e. e.name) in
    let all = length-map c.self.inside.enums.items rc_value in
    omega (arith, within, size, all, c.self.inside.enums.ok.0)

pub returns : goal.returns
returns c =
    let n = c.args.name.now in
    let x = c.index.result.now in
    let es = map rc_value c.self.inside.enums.items in
    let i = c.in_ok-find.field-0 in
    let b = c.stands_before.result in
    let at : c.deref-of.result.now ≡ get_or es i x.value = c.deref-of.ensures ∙ ap rc_value c.index.ensures ∙ sym (read-map rc_value c.self.inside.enums.items i x) in
    let before = c.stands_before.ensures ∙ ap (λ e. nat_lt e.place n.place.0) at in
    let found = enum-some n es x.value i b c.self.invariant.unique (sym (c.self.invariant.enums_at.at n.text.now) ∙ sym c.find.ensures ∙ c.in_ok-find.was) before in
    let seen = ap (visible.enum_before n) (sym c.self.view_is) ∙ found ∙ ap (λ e. cond b (Some (called n e)) None) (sym at) in
    handed_out n c.deref-of.result b c.then_some.result (visible.enum_before n c.args.self.now) c.then_some.ensures seen
