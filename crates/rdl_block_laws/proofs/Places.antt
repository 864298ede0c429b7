-- Where fields stand in a block.
use Rattle.std.proofs.Common.{◌≡◌, ◌∙◌, inl, inr, ℕ, suc, ◌+◌, Bool, true, false, not, cond, List, [], ◌∷◌, map, filter, length, Option, Some, slice_get, refl, sym, ap, subst, arith}
use Rattle.plain_lemmas.proofs.Lists.{each-filter, get-mapped as got, map-filter}
use Rattle.rb_model.specs.declared.block.Block.{Block}
use Rattle.rb_model.specs.declared.block.Field.{Field}
use Rattle.rdl_tree.specs.declared.item.Kind.TheVariants as kind
use Rattle.rdl_tree.specs.declared.item.Source.{Source}
use Rattle.rdl_values.specs.Instances.{Instance, children, nodes}
use Rattle.rdl_values.specs.Lineages.{Lineage, lineages}
use Rattle.rdl_values.specs.Paths.{Path, Step, below_top, of_signal}
use Rattle.rdl_nodes.proofs.Apart.{Apart}
use Rattle.rdl_nodes.proofs.Lineages.{all_nodes}
use Rattle.rdl_nodes.proofs.Paths.{Differ, IsChild, are_children}
use Rattle.rdl_nodes.proofs.Members.{In, each-in, flat-in, get-map, map-in, place-in}
use Rattle.rdl_layers.specs.Fields.{fields_of, is_a, is_alias}
use Rattle.rdl_sound_laws.proofs.Closed.{one-node}
use Rattle.rdl_rules.specs.Block.{numbered_registers}
use Rattle.rdl_rules.specs.Fields.{field_of}
use Rattle.rdl_rules.specs.Numbers.{Numbered, all_fields, number_of, numbered_from, primaries, registers}
use Rattle.rdl_sound_laws.specs.Lists.{HasLists}
use Rattle.rdl_sound_laws.proofs.Found.{field-in, found, in-filter, own, own-fields, pairs, with-registers}
use Rattle.rdl_sound_laws.proofs.Distinct.{apart-filter}
use Rattle.rdl_sound_laws.proofs.Names.{IsRegister, all_registers, fields_apart, registers_apart, same_front}
use Rattle.rdl_block_laws.proofs.Numbers.{apart-index}

abbrev steps_in : Path → List Step
steps_in (of_signal t) = []
steps_in (below_top ss) = ss

-- Numbered registers.

numbered-at : (k v : ℕ) (ls : List Lineage) (r : Numbered Lineage) → In (numbered_from (λ l. l.node) k v ls) r → (j : ℕ) × (r.number ≡ k + j) × (slice_get ls j ≡ Some r.register)
numbered-at k v [] r h = absurd h
numbered-at k v (l ∷ ls) r (inl e) = (0, ap (λ (x : Numbered Lineage). x.number) (sym e) ∙ omega arith, ap (λ (x : Numbered Lineage). Some x.register) e)
numbered-at k v (l ∷ ls) r (inr h) = let q = numbered-at (k + 1) (v + length (fields_of l.node)) ls r h in (suc q.0, q.1 ∙ omega arith, q.2)

passing : {X : Type 0} (p : X → Bool) (xs : List X) (x : X) → In (filter p xs) x → p x ≡ true
passing p [] x h = absurd h
passing p (y ∷ ys) x h = go (p y) refl h (passing p ys x)
  where
    go : (b : Bool) → p y ≡ b → In (cond b (y ∷ filter p ys) (filter p ys)) x → (In (filter p ys) x → p x ≡ true) → p x ≡ true
    go true q (inl e) rest = subst (λ z. p z ≡ true) e q
    go true q (inr i) rest = rest i
    go false q i rest = rest i

module _ (wanted : Option (List ℕ)) (s : Source) where
  abbrev all : List Lineage
  all = lineages wanted s

  abbrev ns : List Instance
  ns = nodes wanted s

  are-registers : map (λ (l : Lineage). l.node) (filter (λ (l : Lineage). is_a kind.Reg l.node) all) ≡ registers ns
  are-registers = map-filter (λ (l : Lineage). l.node) (is_a kind.Reg) all ∙ ap (filter (is_a kind.Reg)) (all_nodes wanted s)

  -- a register stands at its number
  pub register-at : (r : Numbered Lineage) → In (own all) r → slice_get (registers ns) r.number ≡ Some r.register.node
  register-at r h =
      let at = numbered-at 0 0 (filter (λ (l : Lineage). is_a kind.Reg l.node) all) r (in-filter (λ (x : Numbered Lineage). not (is_alias x.register.node)) (numbered_registers all) r h) in
      let number : r.number ≡ at.0 = at.1 ∙ omega arith in
      ap (slice_get (registers ns)) number ∙ ap (λ xs. slice_get xs at.0) (sym are-registers) ∙ get-map (λ (l : Lineage). l.node) (filter (λ (l : Lineage). is_a kind.Reg l.node) all) at.0 r.register at.2

  pub register-in : (r : Numbered Lineage) → In (own all) r → In (registers ns) r.register.node
  register-in r h = place-in (registers ns) r.number r.register.node (register-at r h)

  pub own-register : (r : Numbered Lineage) → In (own all) r → is_alias r.register.node ≡ false
  own-register r h = is-false (is_alias r.register.node) (passing (λ (x : Numbered Lineage). not (is_alias x.register.node)) (numbered_registers all) r h)
    where
      is-false : (b : Bool) → not b ≡ true → b ≡ false
      is-false true e = cc
      is-false false e = refl

  -- Fields of the block.

  pub record IsAt (b : Block) (k : ℕ) (f : Instance) : Type 0 where
    pub register : Numbered Lineage
    pub own_ : In (own all) register
    pub of : In (fields_of register.register.node) f
    pub here : slice_get b.fields k ≡ Some (field_of s all register f)
    pub listed : In (all_fields ns) f
    pub number : number_of f (all_fields ns) ≡ k

  own-apart : Apart Differ (all_fields ns)
  own-apart = fields_apart wanted s (primaries ns) (each-filter (IsRegister wanted s) (λ r. not (is_alias r)) (registers ns) (all_registers wanted s)) (apart-filter Differ (λ r. not (is_alias r)) (registers ns) (registers_apart wanted s))

  pairs-fields : (b : Block) → HasLists wanted s b → map (λ (p : Numbered Lineage × Instance). field_of s all p.0 p.1) (pairs (own all)) ≡ b.fields
  pairs-fields b is = with-registers s all (own all) ∙ sym is.fields_

  pairs-own : map (λ (p : Numbered Lineage × Instance). p.1) (pairs (own all)) ≡ all_fields ns
  pairs-own = own-fields all ∙ ap all_fields (all_nodes wanted s)

  pub field-number : (f : Instance) → In (all_fields ns) f → slice_get (all_fields ns) (number_of f (all_fields ns)) ≡ Some f
  field-number f i = found (all_fields ns) f (λ m j e. one-node wanted s m f (field-in wanted s m j) (field-in wanted s f i) e) i

  at-pair : (b : Block) → HasLists wanted s b → (k : ℕ) (p : Numbered Lineage × Instance) → slice_get (pairs (own all)) k ≡ Some p → IsAt b k p.1
  at-pair b is k p e =
      let q = flat-in (λ (r : Numbered Lineage). map (λ f. (r, f)) (fields_of r.register.node)) (own all) p (place-in (pairs (own all)) k p e) in
      let f = map-in (λ f. (q.0, f)) (fields_of q.0.register.node) p q.2 in
      let reg : q.0 ≡ p.0 = ap (λ (x : Numbered Lineage × Instance). x.0) f.2 in
      let fld : f.0 ≡ p.1 = ap (λ (x : Numbered Lineage × Instance). x.1) f.2 in
      let at : slice_get (all_fields ns) k ≡ Some p.1 = ap (λ xs. slice_get xs k) (sym pairs-own) ∙ get-map (λ (x : Numbered Lineage × Instance). x.1) (pairs (own all)) k p e in
      let i = place-in (all_fields ns) k p.1 at in
      record {
        register = p.0;
        own_ = subst (In (own all)) reg q.1;
        of = subst (λ (r : Numbered Lineage). In (fields_of r.register.node) p.1) reg (subst (In (fields_of q.0.register.node)) fld f.1);
        here = ap (λ xs. slice_get xs k) (sym (pairs-fields b is)) ∙ get-map (λ (x : Numbered Lineage × Instance). field_of s all x.0 x.1) (pairs (own all)) k p e;
        listed = i;
        number = apart-index (λ (n : Instance). n.path) (all_fields ns) own-apart (number_of p.1 (all_fields ns)) k p.1 p.1 (field-number p.1 i) at refl;
      }

  -- a field at its number
  pub field-at : (b : Block) → HasLists wanted s b → (f : Instance) → In (all_fields ns) f → IsAt b (number_of f (all_fields ns)) f
  field-at b is f i =
      let k = number_of f (all_fields ns) in
      let p = got (λ (x : Numbered Lineage × Instance). x.1) (pairs (own all)) k f (ap (λ xs. slice_get xs k) pairs-own ∙ field-number f i) in
      subst (IsAt b k) p.2 (at-pair b is k p.0 p.1)

  -- what stands at a number
  pub at-field : (b : Block) → HasLists wanted s b → (k : ℕ) (x : Field) → slice_get b.fields k ≡ Some x → (f : Instance) × IsAt b k f
  at-field b is k x e =
      let p = got (λ (y : Numbered Lineage × Instance). field_of s all y.0 y.1) (pairs (own all)) k x (ap (λ xs. slice_get xs k) (pairs-fields b is) ∙ e) in
      (p.0.1, at-pair b is k p.0 p.1)

  -- A field stands in one register.

  pub one-parent : (r q f : Instance) → In (registers ns) r → In (registers ns) q → In (fields_of r) f → In (fields_of q) f → r ≡ q
  one-parent r q f h g i j =
      let a = each-in (IsRegister wanted s) (registers ns) r (all_registers wanted s) h in
      let c = each-in (IsRegister wanted s) (registers ns) q (all_registers wanted s) g in
      let x = each-in (IsChild a.steps) (children r) f (are_children r a.steps a.path_is) (in-filter (is_a kind.Field) (children r) f i) in
      let y = each-in (IsChild c.steps) (children q) f (are_children q c.steps c.path_is) (in-filter (is_a kind.Field) (children q) f j) in
      one-node wanted s r q a.node c.node (a.path_is ∙ ap below_top (same_front a.steps c.steps x.0 y.0 (ap steps_in (sym x.1 ∙ y.1))) ∙ sym c.path_is)

  pub register-number : (r : Instance) → In (registers ns) r → slice_get (registers ns) (number_of r (registers ns)) ≡ Some r
  register-number r h = found (registers ns) r (λ m j e. one-node wanted s m r (in-filter (is_a kind.Reg) ns m j) (in-filter (is_a kind.Reg) ns r h) e) h
