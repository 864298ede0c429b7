use Rattle.std.proofs.Common.{◌≡◌, ◌∙◌, [], ◌∷◌, ◌++◌, true, false, cond, is_some, length, map, rc_value, sym, ap, subst}
use Rattle.std.proofs.lemmas.List.{length-map, map-append}
use Rattle.rdl_values.specs.Firsts.{place_of}
use Rattle.rdl_values.specs.Table.{is_enum_named}
use Rattle.rdl_values.proofs.Named.{IsPut}
use Rattle.rdl_values.proofs.Tables.{firsts_pushed, is-enum, kept, pushed, unique_pushed}
use Rattle.rdl_values.proofs.name_table.NameTable.add_enum.Goals as goal

pub invariant_of-self-in-Continue-branch-3 : goal.invariant_of-self-in-Continue-branch-3
invariant_of-self-in-Continue-branch-3 c =
    let e = c.args.of.value in
    let es = map rc_value c.self.inside.enums.items in
    let size : c.len.result ≡ length es = c.len.ensures ∙ c.reserve.new.self.ok.0 ∙ ap length c.reserve.ensures.items ∙ sym (length-map c.self.inside.enums.items rc_value) in
    let items = ap (map rc_value) c.in_ok-push.ensures.items ∙ map-append rc_value c.reserve.new.self.items (c.args.of ∷ []) ∙ ap (λ xs. map rc_value xs ++ (e ∷ [])) c.reserve.ensures.items in
    record {
      shown_are = c.self.invariant.shown_are;
      bound_at = c.self.invariant.bound_at;
      enums_at = firsts_pushed (λ e. e.name) c.self.inside.enum_places c.put.new.self es (map rc_value c.push.new.self.items) e c.len.result c.self.invariant.enums_at size (subst (λ m. IsPut m c.len.result c.self.inside.enum_places c.put.new.self) (c.text.ensures ∙ ap (λ e. e.name) c.deref.ensures) c.in_ok-again.ensures.put) items;
      unique = unique_pushed es (map rc_value c.push.new.self.items) e c.self.inside.enum_places c.self.invariant.enums_at (subst (λ m. is_some (place_of c.self.inside.enum_places m) ≡ false) (c.text.ensures ∙ ap (λ e. e.name) c.deref.ensures) (sym c.in_ok-again.ensures.again ∙ c.if-not-again.true)) c.self.invariant.unique items;
    }

pub returns-in_ok-push-clause-added : goal.returns-in_ok-push-clause-added
returns-in_ok-push-clause-added c =
    let e = c.args.of.value in
    let es = map rc_value c.self.inside.enums.items in
    let fresh = subst (λ m. is_some (place_of c.self.inside.enum_places m) ≡ false) (c.text.ensures ∙ ap (λ e. e.name) c.deref.ensures) (sym c.in_ok-again.ensures.again ∙ c.if-not-again.true) in
    let none = is-enum e.name es c.self.inside.enum_places c.self.invariant.enums_at ∙ fresh in
    let items = ap (map rc_value) c.in_ok-push.ensures.items ∙ map-append rc_value c.reserve.new.self.items (c.args.of ∷ []) ∙ ap (λ xs. map rc_value xs ++ (e ∷ [])) c.reserve.ensures.items in
    let new = pushed e es (map rc_value c.push.new.self.items) (is_enum_named e.name es) none items in
    subst (λ t. map rc_value c.push.new.self.items ≡ cond (is_enum_named e.name t.enums) t.enums (t.enums ++ (e ∷ []))) c.self.view_is new

pub returns-else-not-again-clause-added : goal.returns-else-not-again-clause-added
returns-else-not-again-clause-added c =
    let e = c.args.of.value in
    let es = map rc_value c.self.inside.enums.items in
    let old = subst (λ m. is_some (place_of c.self.inside.enum_places m) ≡ true) (c.text.ensures ∙ ap (λ e. e.name) c.deref.ensures) (sym c.in_ok-again.ensures.again ∙ c.if-not-again.false) in
    let there = is-enum e.name es c.self.inside.enum_places c.self.invariant.enums_at ∙ old in
    let same = ap (map rc_value) c.reserve.ensures.items ∙ kept (is_enum_named e.name es) es (es ++ (e ∷ [])) there in
    subst (λ t. map rc_value c.reserve.new.self.items ≡ cond (is_enum_named e.name t.enums) t.enums (t.enums ++ (e ∷ []))) c.self.view_is same
