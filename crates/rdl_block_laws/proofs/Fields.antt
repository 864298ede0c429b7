-- A field or signal is no alias: only registers are.
use Rattle.std.proofs.Common.{◌≡◌, ◌∙◌, Bool, true, false, not, ◌&&◌, ◌||◌, [], ◌++◌, flat_map, Option, None, Some, option_to_list, is_some, refl, sym, ap, subst}
use Rattle.std.specs.List.{list_any}
use Rattle.plain_lemmas.proofs.Bools.{and-right}
use Rattle.rdl_base.specs.declared.fault.Fault.{Fault}
use Rattle.rdl_base.specs.declared.rule.Rule.TheVariants as rules
use Rattle.rdl_tree.specs.declared.expr.Name.{Name}
use Rattle.rdl_tree.specs.declared.item.Kind.TheVariants as kind
use Rattle.rdl_values.specs.Bodies.{Closure}
use Rattle.rdl_values.specs.Faults.{at_, when}
use Rattle.rdl_values.specs.Given.{IsGivenBy}
use Rattle.rdl_values.specs.Instances.{Instance, kind_of}
use Rattle.rdl_values.specs.NoNode.{bad_alias, has_primary, is_reg, is_single_reg}
use Rattle.rdl_values.specs.Parts.{is_empty}
use Rattle.rdl_values.specs.Uses.{Seen}
use Rattle.rdl_values.proofs.Given.{nothing_fails}
use Rattle.rdl_layers.specs.Fields.{is_alias}

only-when : (t : Bool) (f : Fault) → is_empty (when (not t) f ++ []) ≡ true → t ≡ true
only-when true f e = refl
only-when false f e = cc

reg-kind : (s : Seen) (n : Instance) → s.use_.closure ≡ Some n.closure → is_single_reg s.use_ ≡ true → is_reg (kind_of n) ≡ true
reg-kind s n c h = or-false (is_reg (kind_of n)) (ap (λ (o : Option Closure). list_any (λ x. is_reg x.def.kind) (option_to_list o)) (sym c) ∙ and-right _ (list_any (λ c. is_reg c.def.kind) (option_to_list s.use_.closure)) h)
  where
    or-false : (b : Bool) → (b || false) ≡ true → b ≡ true
    or-false true e = refl
    or-false false e = cc

pub alone : (s : Seen) (n : Instance) → IsGivenBy s n → is_reg (kind_of n) ≡ false → is_alias n ≡ false
alone s n g k = ap (λ u. is_some u.alias) g.use_is ∙ go s.use_.alias refl
  where
    go : (o : Option Name) → s.use_.alias ≡ o → is_some o ≡ false
    go None e = refl
    go (Some m) e =
        let none : is_empty (bad_alias s.earlier s.use_) ≡ true = (nothing_fails s n g).1.1.1.1.1.1.1.0 in
        let one : is_empty (when (not (has_primary s.earlier m && is_single_reg s.use_)) (at_ rules.E13 m.place) ++ []) ≡ true = subst (λ x. is_empty (flat_map (λ a. when (not (has_primary s.earlier a && is_single_reg s.use_)) (at_ rules.E13 a.place)) (option_to_list x)) ≡ true) e none in
        let both = only-when (has_primary s.earlier m && is_single_reg s.use_) (at_ rules.E13 m.place) one in
        let reg = reg-kind s n g.closure_is (and-right (has_primary s.earlier m) (is_single_reg s.use_) both) in
        let bad : true ≡ false = sym reg ∙ k in cc

pub no-alias : (s : Seen) (n : Instance) → IsGivenBy s n → kind_of n ≡ kind.Field → is_alias n ≡ false
no-alias s n g k = alone s n g (ap is_reg k)
