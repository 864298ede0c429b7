-- The fields of a block with their nodes and registers.
use Rattle.std.proofs.Common.{◌≡◌, ◌∙◌, inl, inr, ℕ, suc, ◌+◌, false, not, List, [], ◌∷◌, map, filter, length, Option, Some, slice_get, refl, sym, ap, subst, arith}
use Rattle.std.specs.List.{AllByRecursion}
use Rattle.std.proofs.lemmas.Bool.{not-true}
use Rattle.plain_lemmas.proofs.Lists.{get-mapped as got, map-filter}
use Rattle.rdl_tree.specs.declared.item.Kind.TheVariants as kind
use Rattle.rdl_tree.specs.declared.item.Source.{Source}
use Rattle.rdl_values.specs.Instances.{Instance, children, nodes}
use Rattle.rdl_values.specs.Lineages.{Lineage, lineages}
use Rattle.rdl_nodes.proofs.Lineages.{all_nodes}
use Rattle.rdl_layers.specs.Fields.{fields_of, is_a, is_alias}
use Rattle.rdl_nodes.proofs.Members.{In, each-in, flat-in, get-map, map-in, place-in}
use Rattle.rdl_sound_laws.proofs.Closed.{all-closed}
use Rattle.rb_model.specs.declared.block.Block.{Block}
use Rattle.rb_model.specs.declared.block.Field.{Field}
use Rattle.rb_model.specs.declared.block.Reg.{Reg}
use Rattle.rb_model.specs.References.{Each}
use Rattle.rdl_rules.specs.Block.{IsBlockOf, numbered_registers, reg_of}
use Rattle.rdl_rules.specs.Fields.{field_of}
use Rattle.rdl_rules.specs.Numbers.{Numbered, all_fields, numbered_from, registers}
use Rattle.rdl_fields.proofs.Lists.{filter-in, filter-true}
use Rattle.rdl_sound_laws.proofs.Found.{own, own-fields, pairs, with-registers}

-- what holds of the element at each place
pub each-of : {X : Type 0} (P : X → Type 0) (xs : List X) → ((k : ℕ) (x : X) → slice_get xs k ≡ Some x → P x) → Each P xs
each-of P [] h = tt
each-of P (x ∷ xs) h = (h 0 x refl, each-of P xs (λ k y e. h (suc k) y e))

-- Registers.

-- one that is numbered stands at its number
numbered-at : (k v : ℕ) (ls : List Lineage) (r : Numbered Lineage) → In (numbered_from (λ l. l.node) k v ls) r → (j : ℕ) × (r.number ≡ k + j) × (slice_get ls j ≡ Some r.register)
numbered-at k v [] r h = absurd h
numbered-at k v (l ∷ ls) r (inl e) = (0, sym (ap (λ (x : Numbered Lineage). x.number) e) ∙ plus, ap (λ (x : Numbered Lineage). Some x.register) e)
  where
    plus : k ≡ k + 0
    plus = omega arith
numbered-at k v (l ∷ ls) r (inr h) = let q = numbered-at (k + 1) (v + length (fields_of l.node)) ls r h in let n = q.1 in (suc q.0, omega (arith, n), q.2)

module _ (wanted : Option (List ℕ)) (s : Source) where
  abbrev regs : List Lineage
  regs = filter (λ (l : Lineage). is_a kind.Reg l.node) (lineages wanted s)

  are-registers : map (λ (l : Lineage). l.node) (filter (λ (l : Lineage). is_a kind.Reg l.node) (lineages wanted s)) ≡ registers (nodes wanted s)
  are-registers = map-filter (λ (l : Lineage). l.node) (is_a kind.Reg) (lineages wanted s) ∙ ap (filter (is_a kind.Reg)) (all_nodes wanted s)

  -- A field of the block is that of a node in a register.
  pub record IsOf (k : ℕ) (f : Field) : Type 0 where
    pub above : Numbered Lineage
    pub node : Instance
    pub is : field_of s (lineages wanted s) above node ≡ f
    pub here : slice_get (all_fields (nodes wanted s)) k ≡ Some node
    pub listed : slice_get (registers (nodes wanted s)) above.number ≡ Some above.register.node
    pub lineage : In (lineages wanted s) above.register
    pub own_ : is_alias above.register.node ≡ false
    pub inside : In (fields_of above.register.node) node

  of-pair : (k : ℕ) (p : Numbered Lineage × Instance) → slice_get (pairs (own (lineages wanted s))) k ≡ Some p → IsOf k (field_of s (lineages wanted s) p.0 p.1)
  of-pair k p at =
      let all = lineages wanted s in
      let r = flat-in (λ (r : Numbered Lineage). map (λ f. (r, f)) (fields_of r.register.node)) (own all) p (place-in (pairs (own all)) k p at) in
      let g = map-in (λ f. (r.0, f)) (fields_of r.0.register.node) p r.2 in
      let among : In (own all) p.0 = subst (λ (q : Numbered Lineage × Instance). In (own all) q.0) g.2 r.1 in
      let n = numbered-at 0 0 regs p.0 (filter-in (λ (x : Numbered Lineage). not (is_alias x.register.node)) (numbered_registers all) p.0 among) in
      let count = n.1 in
      let number : p.0.number ≡ n.0 = omega (arith, count) in
      record {
        above = p.0;
        node = p.1;
        is = refl;
        here = sym (ap (λ xs. slice_get xs k) (own-fields all ∙ ap all_fields (all_nodes wanted s))) ∙ get-map (λ (q : Numbered Lineage × Instance). q.1) (pairs (own all)) k p at;
        listed = ap (slice_get (registers (nodes wanted s))) number ∙ (ap (λ xs. slice_get xs n.0) (sym are-registers) ∙ get-map (λ (l : Lineage). l.node) regs n.0 p.0.register n.2);
        lineage = filter-in (λ (l : Lineage). is_a kind.Reg l.node) all p.0.register (place-in regs n.0 p.0.register n.2);
        own_ = not-true (is_alias p.0.register.node) (filter-true (λ (x : Numbered Lineage). not (is_alias x.register.node)) (numbered_registers all) p.0 among);
        inside = subst (λ (q : Numbered Lineage × Instance). In (fields_of q.0.register.node) q.1) g.2 g.1;
      }

  pub of-place : (waits : ℕ) (b : Block) → IsBlockOf wanted s waits b → (k : ℕ) (f : Field) → slice_get b.fields k ≡ Some f → IsOf k f
  of-place waits b block k f at =
      let all = lineages wanted s in
      let made : slice_get (map (λ (p : Numbered Lineage × Instance). field_of s all p.0 p.1) (pairs (own all))) k ≡ Some f = ap (λ xs. slice_get xs k) (with-registers s all (own all) ∙ sym block.fields_) ∙ at in
      let q = got (λ (p : Numbered Lineage × Instance). field_of s all p.0 p.1) (pairs (own all)) k f made in
      subst (IsOf k) q.2 (of-pair k q.0 q.1)

  -- its register is one of the block's, and no alias
  pub in-register : (waits : ℕ) (b : Block) → IsBlockOf wanted s waits b → (k : ℕ) (f : Field) → slice_get b.fields k ≡ Some f → (r : Reg) × (slice_get b.regs f.reg ≡ Some r) × (r.alias ≡ false)
  in-register waits b block k f at =
      let o = of-place waits b block k f at in
      let number : o.above.number ≡ f.reg = ap (λ (x : Field). x.reg) o.is in
      let n = o.above.number in (
        reg_of o.above.register.node,
        ap (slice_get b.regs) (sym number) ∙ (ap (λ xs. slice_get xs n) block.regs ∙ get-map reg_of (registers (nodes wanted s)) n o.above.register.node o.listed),
        o.own_,
      )

  -- a field of a register is a node
  pub field-node : (r : Instance) → In (registers (nodes wanted s)) r → (f : Instance) → In (fields_of r) f → In (nodes wanted s) f
  field-node r i f h =
      let node = filter-in (is_a kind.Reg) (nodes wanted s) r i in
      each-in (In (nodes wanted s)) (children r) f (each-in (λ x. AllByRecursion (In (nodes wanted s)) (children x)) (nodes wanted s) r (all-closed wanted s) node) (filter-in (is_a kind.Field) (children r) f h)
