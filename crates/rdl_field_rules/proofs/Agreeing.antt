-- Views judged from the side of aliases, and from that of their primaries.
use Rattle.std.proofs.Common.{◌≡◌, ◌∙◌, ◌⊎◌, inl, inr, ℕ, Bool, true, false, ◌&&◌, cond, List, [], ◌∷◌, ◌++◌, flat_map, filter, map, Option, None, Some, is_some, refl, sym, ap, subst}
use Rattle.std.proofs.lemmas.Bool.{and_parts}
use Rattle.rdl_base.specs.declared.fault.Fault.{Fault}
use Rattle.rdl_base.specs.declared.rule.Rule.TheVariants as rule
use Rattle.rdl_tree.specs.declared.expr.Name.{Name}
use Rattle.rdl_tree.specs.declared.item.Kind.TheVariants as kind
use Rattle.rdl_values.specs.Instances.{Instance, is_empty}
use Rattle.rdl_values.specs.Uses.{same_name}
use Rattle.rdl_layers.specs.Fields.{aliases, fields_of, is_a, is_alias, is_alias_of, same_steps, steps_up, views}
use Rattle.rdl_addr.specs.Bits.{Bits, bits_of}
use Rattle.rdl_rules.specs.FieldRules.{at_node, of_primary, of_view, without_reset}
use Rattle.rdl_rules.specs.Numbers.{registers}
use Rattle.rdl_rules.specs.RegisterRules.{against_primary, of_alias, of_fields, of_register}
use Rattle.rdl_fields.proofs.Lists.{filter-in, filter-true, in-filter}
use Rattle.rdl_nodes.proofs.Members.{In, flat-in, in-either, in-flat, in-left, in-right, map-in}
use Rattle.rdl_fields.proofs.Fields.{field-in, nodes-are}
use Rattle.rdl_field_rules.specs.Judged.{named_reset, of_alias_of, of_field, own_failures, register_failures, resets}

in-cond : {X : Type 0} (b t : Bool) (xs ys : List X) (x : X) → b ≡ t → In (cond t xs ys) x → In (cond b xs ys) x
in-cond b t xs ys x e h = subst (λ c. In (cond c xs ys) x) (sym e) h

-- the bits of a field
bits-in : (r f : Instance) → In (fields_of r) f → (b : Bits) × In (bits_of r) b × (b.node ≡ f)
bits-in r f h = map-in (λ b. b.node) (bits_of r) f (subst (λ ns. In ns f) (sym (nodes-are r)) h)

names-none : (r a : Instance) → a.use_.alias ≡ None → is_alias_of r a ≡ (is_a kind.Reg a && false && same_steps (steps_up r.path) (steps_up a.path))
names-none r a e = rw e refl

-- what is an alias of a register is a register, and an alias
pub alias-parts : (r a : Instance) → is_alias_of r a ≡ true → (is_a kind.Reg a ≡ true) × (is_alias a ≡ true)
alias-parts r a h = go a.use_.alias refl
  where
    go : (o : Option Name) → a.use_.alias ≡ o → (is_a kind.Reg a ≡ true) × (is_alias a ≡ true)
    go None e =
        let p = and_parts (is_a kind.Reg a && false) (same_steps (steps_up r.path) (steps_up a.path)) (sym (names-none r a e) ∙ h) in
        let q = and_parts (is_a kind.Reg a) false p.0 in
        absurd (let n = q.1 in cc n)
    go (Some n) e =
        let p = and_parts (is_a kind.Reg a && same_name n r.use_.name) (same_steps (steps_up r.path) (steps_up a.path)) (sym (named r a n e) ∙ h) in
        ((and_parts (is_a kind.Reg a) (same_name n r.use_.name) p.0).0, ap is_some e)
      where
        named : (r a : Instance) (n : Name) → a.use_.alias ≡ Some n → is_alias_of r a ≡ (is_a kind.Reg a && same_name n r.use_.name && same_steps (steps_up r.path) (steps_up a.path))
        named r a n e = rw e refl

module _ (all : List Instance) (primary : (a p : Instance) → In all a → is_alias_of p a ≡ true → In (registers all) p → is_alias p ≡ false) where
  is-reg : (r : Instance) → In (registers all) r → is_a kind.Reg r ≡ true
  is-reg r h = filter-true (is_a kind.Reg) all r h

  in-all : (r : Instance) → In (registers all) r → In all r
  in-all r h = filter-in (is_a kind.Reg) all r h

  abbrev Here : Fault → Type 0
  Here x = In (flat_map (of_register all) (registers all)) x

  abbrev There : Fault → Type 0
  There x = In (flat_map (register_failures all) (registers all)) x

  -- the parts of a register's failures, as the definitions have them

  here-own : (r : Instance) → In (registers all) r → (x : Fault) → In (cond (is_alias r) (of_alias all r) (of_fields all r)) x → Here x
  here-own r h x i = in-flat (of_register all) (registers all) r x h (in-left (flat_map (of_view r) (bits_of r) ++ cond (is_alias r) (of_alias all r) (of_fields all r)) (at_node rule.F14 r (is_empty (fields_of r))) x (in-right (flat_map (of_view r) (bits_of r)) (cond (is_alias r) (of_alias all r) (of_fields all r)) x i))

  here-field : (r : Instance) → In (registers all) r → is_alias r ≡ false → (f : Instance) → In (fields_of r) f → (x : Fault) → In (of_primary f ++ flat_map (without_reset f) (views all r f)) x → Here x
  here-field r h none f i x j = here-own r h x (in-cond (is_alias r) false (of_alias all r) (of_fields all r) x none (in-flat (λ g. of_primary g ++ flat_map (without_reset g) (views all r g)) (fields_of r) f x i j))

  here-view : (r : Instance) → In (registers all) r → is_alias r ≡ false → (f : Instance) → In (fields_of r) f → (v : Instance) → In (views all r f) v → (x : Fault) → In (without_reset f v) x → Here x
  here-view r h none f i v k x j = here-field r h none f i x (in-right (of_primary f) (flat_map (without_reset f) (views all r f)) x (in-flat (without_reset f) (views all r f) v x k j))

  from-field : (r : Instance) → In (registers all) r → is_alias r ≡ false → (b : Bits) → In (bits_of r) b → (x : Fault) → In (of_field b) x → Here x
  from-field r h none b i x j = by (in-either (of_primary b.node) (without_reset b.node b.node) x j)
    where
      by : In (of_primary b.node) x ⊎ In (without_reset b.node b.node) x → Here x
      by (inl k) = here-field r h none b.node (field-in r b i) x (in-left (of_primary b.node) (flat_map (without_reset b.node) (views all r b.node)) x k)
      by (inr k) = here-view r h none b.node (field-in r b i) b.node (inl refl) x k

  from-reset : (a p : Instance) → In (registers all) a → In (registers all) p → is_alias_of p a ≡ true → (b c : Bits) → In (bits_of a) b → In (bits_of p) c → (x : Fault) → In (named_reset b c) x → Here x
  from-reset a p h g t b c i j x k = go (same_name b.node.use_.name c.node.use_.name) refl k
    where
      go : (s : Bool) → same_name b.node.use_.name c.node.use_.name ≡ s → In (cond s (without_reset c.node b.node) []) x → Here x
      go false e m = absurd m
      go true e m =
          let alias = in-filter (is_alias_of p) all a (in-all a h) t in
          let seen = in-filter (λ (n : Instance). same_name n.use_.name c.node.use_.name) (fields_of a) b.node (field-in a b i) e in
          here-view p g (primary a p (in-all a h) t g) c.node (field-in p c j) b.node (inr (in-flat (λ n. filter (λ (m : Instance). same_name m.use_.name c.node.use_.name) (fields_of n)) (aliases all p) a b.node alias seen)) x m

  from-alias : (a p : Instance) → In (registers all) a → is_alias a ≡ true → In (registers all) p → is_alias_of p a ≡ true → (x : Fault) → In (of_alias_of a p) x → Here x
  from-alias a p h yes_ g t x i = by (in-either (against_primary a p) (flat_map (resets (bits_of p)) (bits_of a)) x i)
    where
      by : In (against_primary a p) x ⊎ In (flat_map (resets (bits_of p)) (bits_of a)) x → Here x
      by (inl k) = here-own a h x (in-cond (is_alias a) true (of_alias all a) (of_fields all a) x yes_ (in-flat (against_primary a) (filter (λ r. is_alias_of r a) (registers all)) p x (in-filter (λ r. is_alias_of r a) (registers all) p g t) k))
      by (inr k) =
          let q = flat-in (resets (bits_of p)) (bits_of a) x k in
          let s = flat-in (named_reset q.0) (bits_of p) x q.2 in
          from-reset a p h g t q.0 s.0 q.1 s.1 x s.2

  from-own : (r : Instance) → In (registers all) r → (x : Fault) → In (own_failures all r) x → Here x
  from-own r h x i = go (is_alias r) refl i
    where
      go : (b : Bool) → is_alias r ≡ b → In (cond b (flat_map (of_alias_of r) (filter (λ p. is_alias_of p r) (filter (is_a kind.Reg) all))) (flat_map of_field (bits_of r))) x → Here x
      go true e j =
          let q = flat-in (of_alias_of r) (filter (λ p. is_alias_of p r) (filter (is_a kind.Reg) all)) x j in
          from-alias r q.0 h e (filter-in (λ p. is_alias_of p r) (registers all) q.0 q.1) (filter-true (λ p. is_alias_of p r) (registers all) q.0 q.1) x q.2
      go false e j = let q = flat-in of_field (bits_of r) x j in from-field r h e q.0 q.1 x q.2

  pub collected : (x : Fault) → There x → Here x
  unfolding register_failures
  collected x i =
      let q = flat-in (register_failures all) (registers all) x i in
      by q.0 q.1 (in-either (flat_map (of_view q.0) (bits_of q.0) ++ own_failures all q.0) (at_node rule.F14 q.0 (is_empty (fields_of q.0))) x q.2)
    where
      first : (r : Instance) → In (registers all) r → In (flat_map (of_view r) (bits_of r)) x ⊎ In (own_failures all r) x → Here x
      first r h (inl k) = in-flat (of_register all) (registers all) r x h (in-left (flat_map (of_view r) (bits_of r) ++ cond (is_alias r) (of_alias all r) (of_fields all r)) (at_node rule.F14 r (is_empty (fields_of r))) x (in-left (flat_map (of_view r) (bits_of r)) (cond (is_alias r) (of_alias all r) (of_fields all r)) x k))
      first r h (inr k) = from-own r h x k

      by : (r : Instance) → In (registers all) r → In (flat_map (of_view r) (bits_of r) ++ own_failures all r) x ⊎ In (at_node rule.F14 r (is_empty (fields_of r))) x → Here x
      by r h (inl k) = first r h (in-either (flat_map (of_view r) (bits_of r)) (own_failures all r) x k)
      by r h (inr k) = in-flat (of_register all) (registers all) r x h (in-right (flat_map (of_view r) (bits_of r) ++ cond (is_alias r) (of_alias all r) (of_fields all r)) (at_node rule.F14 r (is_empty (fields_of r))) x k)

  -- The other way.

  there-own : (r : Instance) → In (registers all) r → (x : Fault) → In (own_failures all r) x → There x
  unfolding register_failures
  there-own r h x i = in-flat (register_failures all) (registers all) r x h (in-left (flat_map (of_view r) (bits_of r) ++ own_failures all r) (at_node rule.F14 r (is_empty (fields_of r))) x (in-right (flat_map (of_view r) (bits_of r)) (own_failures all r) x i))

  there-alias : (a p : Instance) → In (registers all) a → is_alias a ≡ true → In (registers all) p → is_alias_of p a ≡ true → (x : Fault) → In (of_alias_of a p) x → There x
  there-alias a p h yes_ g t x i = there-own a h x (in-cond (is_alias a) true _ _ x yes_ (in-flat (of_alias_of a) (filter (λ r. is_alias_of r a) (filter (is_a kind.Reg) all)) p x (in-filter (λ r. is_alias_of r a) (registers all) p g t) i))

  there-field : (r : Instance) → In (registers all) r → is_alias r ≡ false → (f : Instance) → In (fields_of r) f → (x : Fault) → ((b : Bits) → b.node ≡ f → In (of_field b) x) → There x
  there-field r h none f i x j = let b = bits-in r f i in there-own r h x (in-cond (is_alias r) false _ _ x none (in-flat of_field (bits_of r) b.0 x b.1 (j b.0 b.2)))

  of-view : (r : Instance) → In (registers all) r → is_alias r ≡ false → (f : Instance) → In (fields_of r) f → (v : Instance) → In (views all r f) v → (x : Fault) → In (without_reset f v) x → There x
  of-view r h none f i v (inl e) x k = there-field r h none f i x (λ b q. in-right (of_primary b.node) (without_reset b.node b.node) x (subst (λ n. In (without_reset n n) x) (sym q) (subst (λ w. In (without_reset f w) x) (sym e) k)))
  of-view r h none f i v (inr g) x k =
      let q = flat-in (λ n. filter (λ (m : Instance). same_name m.use_.name f.use_.name) (fields_of n)) (aliases all r) v g in
      let a = q.0 in
      let a_in = filter-in (is_alias_of r) all a q.1 in
      let t = filter-true (is_alias_of r) all a q.1 in
      let parts = alias-parts r a t in
      let a_reg = in-filter (is_a kind.Reg) all a a_in parts.0 in
      let v_in = filter-in (λ (m : Instance). same_name m.use_.name f.use_.name) (fields_of a) v q.2 in
      let same = filter-true (λ (m : Instance). same_name m.use_.name f.use_.name) (fields_of a) v q.2 in
      let b = bits-in a v v_in in
      let c = bits-in r f i in
      let named : same_name b.0.node.use_.name c.0.node.use_.name ≡ true = (λ j. same_name (b.2 j).use_.name (c.2 j).use_.name) ∙ same in
      let it : In (without_reset c.0.node b.0.node) x = subst (λ n. In (without_reset n b.0.node) x) (sym c.2) (subst (λ n. In (without_reset f n) x) (sym b.2) k) in
      there-alias a r a_reg parts.1 h t x (in-right (against_primary a r) (flat_map (resets (bits_of r)) (bits_of a)) x (in-flat (resets (bits_of r)) (bits_of a) b.0 x b.1 (in-flat (named_reset b.0) (bits_of r) c.0 x c.1 (in-cond (same_name b.0.node.use_.name c.0.node.use_.name) true (without_reset c.0.node b.0.node) [] x named it))))

  of-fields : (r : Instance) → In (registers all) r → is_alias r ≡ false → (x : Fault) → In (of_fields all r) x → There x
  of-fields r h none x i =
      let q = flat-in (λ f. of_primary f ++ flat_map (without_reset f) (views all r f)) (fields_of r) x i in
      by q.0 q.1 (in-either (of_primary q.0) (flat_map (without_reset q.0) (views all r q.0)) x q.2)
    where
      by : (f : Instance) → In (fields_of r) f → In (of_primary f) x ⊎ In (flat_map (without_reset f) (views all r f)) x → There x
      by f g (inl k) = there-field r h none f g x (λ b q. in-left (of_primary b.node) (without_reset b.node b.node) x (subst (λ n. In (of_primary n) x) (sym q) k))
      by f g (inr k) = let s = flat-in (without_reset f) (views all r f) x k in of-view r h none f g s.0 s.1 x s.2

  pub defined : (x : Fault) → Here x → There x
  unfolding register_failures
  defined x i =
      let q = flat-in (of_register all) (registers all) x i in
      by q.0 q.1 (in-either (flat_map (of_view q.0) (bits_of q.0) ++ cond (is_alias q.0) (of_alias all q.0) (of_fields all q.0)) (at_node rule.F14 q.0 (is_empty (fields_of q.0))) x q.2)
    where
      own : (r : Instance) → In (registers all) r → (b : Bool) → is_alias r ≡ b → In (cond b (of_alias all r) (of_fields all r)) x → There x
      own r h false e j = of-fields r h e x j
      own r h true e j =
          let q = flat-in (against_primary r) (filter (λ p. is_alias_of p r) (registers all)) x j in
          there-alias r q.0 h e (filter-in (λ p. is_alias_of p r) (registers all) q.0 q.1) (filter-true (λ p. is_alias_of p r) (registers all) q.0 q.1) x (in-left (against_primary r q.0) (flat_map (resets (bits_of q.0)) (bits_of r)) x q.2)

      first : (r : Instance) → In (registers all) r → In (flat_map (of_view r) (bits_of r)) x ⊎ In (cond (is_alias r) (of_alias all r) (of_fields all r)) x → There x
      first r h (inl k) = in-flat (register_failures all) (registers all) r x h (in-left (flat_map (of_view r) (bits_of r) ++ own_failures all r) (at_node rule.F14 r (is_empty (fields_of r))) x (in-left (flat_map (of_view r) (bits_of r)) (own_failures all r) x k))
      first r h (inr k) = own r h (is_alias r) refl k

      by : (r : Instance) → In (registers all) r → In (flat_map (of_view r) (bits_of r) ++ cond (is_alias r) (of_alias all r) (of_fields all r)) x ⊎ In (at_node rule.F14 r (is_empty (fields_of r))) x → There x
      by r h (inl k) = first r h (in-either (flat_map (of_view r) (bits_of r)) (cond (is_alias r) (of_alias all r) (of_fields all r)) x k)
      by r h (inr k) = in-flat (register_failures all) (registers all) r x h (in-right (flat_map (of_view r) (bits_of r) ++ own_failures all r) (at_node rule.F14 r (is_empty (fields_of r))) x k)
