-- Rows of registers, and of the registers that they are aliases of.
use Rattle.std.proofs.Common.{◌≡◌, ◌∙◌, ◌⊎◌, inl, inr, ℕ, zero, suc, ◌<◌, ◌==◌, Bool, true, false, cond, List, [], ◌∷◌, ◌++◌, length, get_or, map, filter, flat_map, append-nil, slice_get, Option, None, Some, refl, sym, ap, subst, arith}
use Rattle.std.proofs.lemmas.Bool.Decides.{nat_tests}
use denote.Enum.Bare.{same_true}
use Rattle.rdl_base.specs.declared.fault.Fault.{Fault}
use Rattle.rdl_tree.specs.contracts.item.Kind as of_kind
use Rattle.rdl_tree.specs.declared.item.Kind.TheVariants as kind
use Rattle.rdl_tree.specs.declared.node.Elab.{Elab}
use Rattle.rdl_tree.specs.declared.node.Node.{out-Node}
use Rattle.rdl_props.specs.declared.prop.Prop.TheVariants as prop
use Rattle.rdl_values.specs.Elaborated.{nodes_of}
use Rattle.rdl_values.specs.Elaboration.{IsClean}
use Rattle.rdl_values.specs.Instances.{Instance, is_empty, kind_of}
use Rattle.rdl_values.specs.Lineages.{Lineage, lineages_of}
use Rattle.rdl_failures.specs.Noted.{with_all}
use Rattle.rdl_layers.specs.Answers.{IsSettled}
use Rattle.rdl_layers.specs.Fields.{fields_of, is_a, is_alias, is_alias_of}
use Rattle.rdl_layers.specs.Phase4.{number_at}
use Rattle.rdl_nodes.specs.declared.table.Row.{Row}
use Rattle.rdl_nodes.specs.Rows.{AreRows, IsRow}
use Rattle.rdl_addr.specs.Bits.{Bits, bits_of}
use Rattle.rdl_fields.specs.Primary.{IsPrimaryOf, TellsPrimary}
use Rattle.rdl_rules.specs.Numbers.{registers}
use Rattle.rdl_fields.proofs.Lists.{in-filter}
use Rattle.rdl_fields.proofs.Primaries.{Stand, told-by}
use Rattle.rdl_nodes.proofs.Members.{In, get-within, in-place, place-in}
use Rattle.rdl_sizes.specs.Bodies.{IsBodyOf}
use Rattle.rdl_sizes.proofs.Facts.{node-at, nodes-many, row-at, rows-many}
use Rattle.rdl_sizes.proofs.Turns.{read-at}
use Rattle.rdl_sizes.proofs.Settled.{reg-accesswidth}
use Rattle.rdl_fields.specs.declared.view.View.{View}
use Rattle.rdl_fields.specs.Views.{AreViewsOf}
use Rattle.rdl_fields.proofs.Fields.{nodes-are}
use Rattle.rdl_field_rules.specs.Judged.{of_alias_of, of_field, own_failures}
use Rattle.rdl_field_rules.proofs.Agreeing.{alias-parts}

pub body-of-row : (e : Elab) (k : ℕ) (x : Row) (l : Lineage) → slice_get (lineages_of e) k ≡ Some l → IsRow e (lineages_of e) k x l → IsBodyOf e x.node.now l
body-of-row e k x l at row = record { number = k; here = at; inside = row.inside }

pub within-rows : (e : Elab) (rows : List Row) → AreRows e rows → (k : ℕ) (n : Instance) → slice_get (nodes_of e) k ≡ Some n → k < length rows
within-rows e rows h k n at = let low = get-within (nodes_of e) k n at in let m = nodes-many e in let r = rows-many e rows h in omega (arith, low, m, r)

pub same-lineage : (e : Elab) (k : ℕ) (l m : Lineage) → slice_get (lineages_of e) k ≡ Some l → slice_get (lineages_of e) k ≡ Some m → l ≡ m
same-lineage e k l m a b = let p : Some l ≡ Some m = sym a ∙ b in cc p

pub no-primary : (e : Elab) (a : Instance) (o : Option ℕ) → ((k : ℕ) → o ≡ Some k → ⊥) → TellsPrimary e a o → is_alias a ≡ false
no-primary e a None h t = t
no-primary e a (Some k) h t = absurd (h k refl)

-- what a register's own failures are, where it is no alias and where it is one

pub own-fields : (all : List Instance) (r : Instance) → is_alias r ≡ false → flat_map of_field (bits_of r) ≡ own_failures all r
own-fields all r e = sym (ap (λ b. cond b (flat_map (of_alias_of r) (filter (λ p. is_alias_of p r) (filter (is_a kind.Reg) all))) (flat_map of_field (bits_of r))) e)

pub own-alias : (e : Elab) (a r : Instance) (k : ℕ) → is_alias a ≡ true → IsPrimaryOf e a k r → of_alias_of a r ≡ own_failures (nodes_of e) a
own-alias e a r k t h =
    sym (ap (λ b. cond b (flat_map (of_alias_of a) (filter (λ p. is_alias_of p a) (filter (is_a kind.Reg) (nodes_of e)))) (flat_map of_field (bits_of a))) t
    ∙ (ap (flat_map (of_alias_of a)) h.only ∙ append-nil (of_alias_of a r)))

pub reg-access : (e : Elab) → IsSettled e → (k : ℕ) (l : Lineage) → slice_get (lineages_of e) k ≡ Some l → is_a kind.Reg l.node ≡ true → (n : ℕ) → n ≡ number_at l.node prop.Accesswidth → 0 < n
reg-access e settled k l at reg n is =
    let w = (reg-accesswidth e settled l.node (place-in (nodes_of e) k l.node (node-at e k l at)) (sym (same_true of_kind.the_type tt kind.Reg (kind_of l.node) reg))).0 in
    omega (arith, w, is)

-- a register without fields

empty-views : (e : Elab) (vs : List View) (bs : List Bits) → AreViewsOf e vs bs → is_empty vs ≡ is_empty (map (λ b. b.node) bs)
empty-views e [] [] h = refl
empty-views e [] (b ∷ bs) h = absurd h
empty-views e (v ∷ vs) [] h = absurd h
empty-views e (v ∷ vs) (b ∷ bs) h = refl

pub empty-length : {X : Type 0} (vs : List X) → (length vs == 0) ≡ is_empty vs
empty-length [] = refl
empty-length (v ∷ vs) = grind (arith, nat_tests)

pub empty-fields : (e : Elab) (vs : List View) (r : Instance) → AreViewsOf e vs (bits_of r) → is_empty vs ≡ is_empty (fields_of r)
empty-fields e vs r h = empty-views e vs (bits_of r) h ∙ ap is_empty (nodes-are r)

-- the row of a register, by the number that its node says
pub record Known (e : Elab) (at : ℕ) (x : Row) : Type 0 where
  pub of : Lineage
  pub here : slice_get (lineages_of e) at ≡ Some of
  pub id : (out-Node x.node.now).id ≡ at
  pub stands : slice_get (lineages_of e) (out-Node x.node.now).id ≡ Some of
  pub row : IsRow e (lineages_of e) (out-Node x.node.now).id x of

pub known-row : (e : Elab) (rows : List Row) → AreRows e rows → (at : ℕ) (l : Lineage) → slice_get (lineages_of e) at ≡ Some l → (x : Row) → x ≡ get_or rows at x → Known e at x
known-row e rows h at l here x is =
    let low = within-rows e rows h at l.node (node-at e at l here) in
    let r = row-at e rows h at x (read-at rows at x low is) in
    let same = same-lineage e at r.0 l r.1 here in
    let id = r.2.number in
    record { of = r.0; here = r.1; id = id; stands = subst (λ k. slice_get (lineages_of e) k ≡ Some r.0) (sym id) r.1; row = subst (λ k. IsRow e (lineages_of e) k x r.0) (sym id) r.2 }

-- A register whose alias a node is, is no alias.

one-in : {X : Type 0} (xs : List X) (x y : X) → xs ≡ x ∷ [] → In xs y → x ≡ y
one-in xs x y e h = by (subst (λ zs. In zs y) e h)
  where
    by : In (x ∷ []) y → x ≡ y
    by (inl q) = q
    by (inr i) = absurd i

pub primary-alone : (e : Elab) → IsClean e → (rows : List Row) → AreRows e rows → Stand → (a p : Instance) → In (nodes_of e) a → is_alias_of p a ≡ true → In (registers (nodes_of e)) p → is_alias p ≡ false
primary-alone e clean rows h stand a p a_in t p_in =
    let at = in-place (nodes_of e) a a_in in
    let low = within-rows e rows h at.0 a at.2 in
    let x = first-of rows at.0 low in
    let r = row-at e rows h at.0 x.0 x.1 in
    let same : r.0.node ≡ a = (let q : Some r.0.node ≡ Some a = sym (node-at e at.0 r.0 r.1) ∙ at.2 in cc q) in
    go (out-Node x.0.node.now).alias (subst (λ (n : Instance). TellsPrimary e n (out-Node x.0.node.now).alias) same (told-by e clean stand at.0 x.0 r.0 r.1 r.2))
  where
    first-of : (xs : List Row) (k : ℕ) → k < length xs → (x : Row) × (slice_get xs k ≡ Some x)
    first-of [] k l = absurd (omega (arith, l))
    first-of (y ∷ ys) zero l = (y, refl)
    first-of (y ∷ ys) (suc k) l = first-of ys k (omega (arith, l))

    go : (o : Option ℕ) → TellsPrimary e a o → is_alias p ≡ false
    go None none = absurd (let both : true ≡ false = sym (alias-parts p a t).1 ∙ none in cc both)
    go (Some k) (yes_, r, h) =
        let one = one-in (filter (λ q. is_alias_of q a) (filter (is_a kind.Reg) (nodes_of e))) r p h.only (in-filter (λ q. is_alias_of q a) (registers (nodes_of e)) p p_in t) in
        subst (λ n. is_alias n ≡ false) one h.no_alias
