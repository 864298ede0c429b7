-- The fields of a block, register by register.
use Rattle.std.proofs.Common.{◌≡◌, ◌∙◌, ℕ, zero, suc, ◌+◌, ◌≤◌, Bool, true, false, not, ◌&&◌, cond, List, [], ◌∷◌, ◌++◌, append-nil, length, map, flat_map, filter, take, Option, None, Some, is_some, slice_get, refl, sym, ap, subst, arith}
use Rattle.std.proofs.lemmas.Grind.{flat_map-append}
use Rattle.std.proofs.lemmas.List.Elements.{filter-append}
use Rattle.std.proofs.lemmas.List.Filters.{length-filter_more}
use Rattle.rdl_tree.specs.declared.item.Kind.TheVariants as kind
use Rattle.rdl_tree.specs.declared.item.Source.{Source}
use Rattle.rdl_tree.specs.declared.node.Elab.{Elab}
use Rattle.rdl_tree.specs.declared.node.Node.{out-Node}
use Rattle.rdl_values.specs.Instances.{Instance, kind_of}
use Rattle.rdl_values.specs.Lineages.{Lineage, lineages_of}
use Rattle.rdl_layers.specs.Fields.{fields_of, is_a, is_alias}
use Rattle.rdl_nodes.specs.declared.table.Row.{Row}
use Rattle.rdl_nodes.specs.Rows.{AreRows, IsRow}
use Rattle.rdl_nodes.proofs.Members.{get-read, get-within}
use Rattle.rdl_sizes.proofs.Facts.{row-at}
use Rattle.rdl_fields.proofs.Lists.{filter-next}
use Rattle.rdl_fields.specs.Primary.{TellsPrimary}
use Rattle.rb_model.specs.declared.block.Field.{Field}
use Rattle.rdl_block_numbers.specs.Listed.{is_primary}
use Rattle.rdl_rules.specs.Block.{numbered_registers}
use Rattle.rdl_rules.specs.Fields.{field_of}
use Rattle.rdl_rules.specs.Numbers.{Numbered, numbered, numbered_from}
use Rattle.rdl_field_list.specs.Own.{IsRowOf}

abbrev pub is_register : Lineage → Bool
is_register l = is_a kind.Reg l.node

-- how many fields they have
abbrev fields_in : List Lineage → ℕ
fields_in [] = 0
fields_in (l ∷ ls) = length (fields_of l.node) + fields_in ls

-- what a register has behind others
abbrev pub behind : List Lineage → Lineage → Numbered Lineage
behind ls l = record { register = l; number = length ls; first_view = fields_in ls }

numbered-more : (k v : ℕ) (ls : List Lineage) (l : Lineage) → numbered_from (λ x. x.node) k v (ls ++ (l ∷ [])) ≡ numbered_from (λ x. x.node) k v ls ++ (record { register = l; number = k + length ls; first_view = v + fields_in ls } ∷ [])
numbered-more k v [] l = (λ i. record { register = l; number = none k i; first_view = none v i } ∷ [])
  where
    none : (n : ℕ) → n ≡ n + 0
    none n = omega arith
numbered-more k v (m ∷ ls) l =
    ap (λ rs. record { register = m; number = k; first_view = v } ∷ rs)
    (numbered-more (k + 1) (v + length (fields_of m.node)) ls l
    ∙ (λ i. numbered_from (λ (x : Lineage). x.node) (k + 1) (v + length (fields_of m.node)) ls ++ (record { register = l; number = first i; first_view = second i } ∷ [])))
  where
    first : k + 1 + length ls ≡ k + suc (length ls)
    first = omega arith

    second : v + length (fields_of m.node) + fields_in ls ≡ v + (length (fields_of m.node) + fields_in ls)
    second = omega arith

behind-all : (ls : List Lineage) (l : Lineage) → numbered (λ x. x.node) (ls ++ (l ∷ [])) ≡ numbered (λ x. x.node) ls ++ (behind ls l ∷ [])
behind-all ls l = numbered-more 0 0 ls l ∙ (λ i. numbered (λ (x : Lineage). x.node) ls ++ (record { register = l; number = none (length ls) i; first_view = none (fields_in ls) i } ∷ []))
  where
    none : (n : ℕ) → 0 + n ≡ n
    none n = omega arith

module _ (s : Source) (all : List Lineage) where
  -- the fields of a register
  abbrev pub made : Numbered Lineage → List Field
  made r = map (field_of s all r) (fields_of r.register.node)

  -- where it is no alias
  abbrev pub own : Numbered Lineage → Bool
  own r = not (is_alias r.register.node)

  -- those of the registers among these nodes
  abbrev pub among : List Lineage → List Field
  among ls = flat_map made (filter own (numbered_registers ls))

  one-kept : (b : Bool) (r : Numbered Lineage) → flat_map made (cond b (r ∷ []) []) ≡ cond b (made r) []
  one-kept true r = append-nil (made r)
  one-kept false r = refl

  with-register : (ls : List Lineage) (l : Lineage) → flat_map made (filter own (numbered (λ x. x.node) (ls ++ (l ∷ [])))) ≡ flat_map made (filter own (numbered (λ x. x.node) ls)) ++ cond (not (is_alias l.node)) (made (behind ls l)) []
  with-register ls l =
      ap (λ rs. flat_map made (filter own rs)) (behind-all ls l)
      ∙ (ap (flat_map made) (filter-append own (numbered (λ (x : Lineage). x.node) ls) (behind ls l ∷ []))
      ∙ (flat_map-append made (filter own (numbered (λ (x : Lineage). x.node) ls)) (cond (not (is_alias l.node)) (behind ls l ∷ []) [])
      ∙ ap (λ fs. flat_map made (filter own (numbered (λ (x : Lineage). x.node) ls)) ++ fs) (one-kept (not (is_alias l.node)) (behind ls l))))

  among-more : (ls : List Lineage) (at : ℕ) (l : Lineage) → slice_get ls at ≡ Some l
      → among (take (at + 1) ls) ≡ among (take at ls) ++ cond (is_primary l.node) (made (behind (filter is_register (take at ls)) l)) []
  among-more ls at l here =
      ap (λ rs. flat_map made (filter own (numbered (λ (x : Lineage). x.node) rs))) (filter-next is_register ls at l here) ∙ go (is_a kind.Reg l.node)
    where
      before : List Lineage
      before = filter is_register (take at ls)

      go : (b : Bool) → flat_map made (filter own (numbered (λ x. x.node) (filter is_register (take at ls) ++ cond b (l ∷ []) [])))
          ≡ flat_map made (filter own (numbered (λ x. x.node) (filter is_register (take at ls)))) ++ cond (b && not (is_alias l.node)) (made (behind (filter is_register (take at ls)) l)) []
      go true = with-register (filter is_register (take at ls)) l
      go false = ap (λ rs. flat_map made (filter own (numbered (λ (x : Lineage). x.node) rs))) (append-nil (filter is_register (take at ls))) ∙ sym (append-nil (flat_map made (filter own (numbered (λ (x : Lineage). x.node) (filter is_register (take at ls))))))

  pub listed-more : (ls : List Lineage) (at : ℕ) (l : Lineage) → slice_get ls at ≡ Some l → (old new : List Field) → old ≡ among (take at ls) → new ≡ old ++ cond (is_primary l.node) (made (behind (filter is_register (take at ls)) l)) []
      → new ≡ among (take (at + 1) ls)
  listed-more ls at l here old new before put = put ∙ (ap (λ fs. fs ++ cond (is_primary l.node) (made (behind (filter is_register (take at ls)) l)) []) before ∙ sym (among-more ls at l here))

-- Their numbers.

pub few-kept : {X : Type 0} (p : X → Bool) (xs : List X) (i : ℕ) → length (filter p (take i xs)) ≤ i
few-kept p xs zero = omega arith
few-kept p [] (suc i) = omega arith
few-kept p (x ∷ xs) (suc i) = go (p x) (few-kept p xs i)
  where
    go : (b : Bool) → length (filter p (take i xs)) ≤ i → length (cond b (x ∷ filter p (take i xs)) (filter p (take i xs))) ≤ suc i
    go true l = omega (arith, l)
    go false l = omega (arith, l)

pub number-more : (ls : List Lineage) (at : ℕ) (l : Lineage) → slice_get ls at ≡ Some l → (old new : ℕ) (b : Bool) → old ≡ length (filter is_register (take at ls)) → b ≡ is_register l → new ≡ old + cond b 1 0
    → new ≡ length (filter is_register (take (at + 1) ls))
number-more ls at l here old new b before is next =
    next
    ∙ ((λ i. before i + cond ((is ∙ ap is_register (sym (get-read ls at l l here))) i) 1 0)
    ∙ sym (length-filter_more is_register ls at l (get-within ls at l here)))

-- Rows.

pub tells-alias : (e : Elab) (n : Instance) (o : Option ℕ) → TellsPrimary e n o → is_some o ≡ is_alias n
tells-alias e n None h = sym h
tells-alias e n (Some k) h = sym h.0

pub row-of : (e : Elab) (rows : List Row) → AreRows e rows → (i : ℕ) (x : Row) → slice_get rows i ≡ Some x → (l : Lineage) × (slice_get (lineages_of e) i ≡ Some l) × IsRowOf e x l × ((out-Node x.node.now).kind ≡ kind_of l.node)
row-of e rows are i x at =
    let r = row-at e rows are i x at in
    let id = sym r.2.number in
    (r.0, r.1, record { here = subst (λ k. slice_get (lineages_of e) k ≡ Some r.0) id r.1; row = subst (λ k. IsRow e (lineages_of e) k x r.0) id r.2 }, r.2.says.kind)
