-- Views put into a list, register by register.
use Rattle.std.proofs.Common.{◌≡◌, ◌∙◌, ℕ, ◌+◌, ◌<◌, Bool, true, false, cond, List, [], ◌∷◌, ◌++◌, append-nil, append_assoc, map, flat_map, filter, take, get_or, Option, None, Some, is_some, slice_get, refl, sym, ap, subst}
use Rattle.std.proofs.lemmas.Grind.{flat_map-append}
use Rattle.std.proofs.lemmas.List.{map-append}
use Rattle.rdl_tree.specs.declared.item.Kind.TheVariants as kind
use Rattle.rdl_tree.specs.declared.node.Elab.{Elab}
use Rattle.rdl_values.specs.Elaborated.{nodes_of, top_name}
use Rattle.rdl_values.specs.Instances.{Instance}
use Rattle.rdl_values.specs.Lineages.{Lineage, child_of, lineages_of, nodes_in}
use Rattle.rdl_layers.specs.Fields.{is_a, is_alias}
use Rattle.rdl_nodes.specs.declared.table.Row.{Row}
use Rattle.rdl_nodes.specs.Rows.{AreRows, IsRow}
use Rattle.rdl_nodes.proofs.Lineages.{all_nodes}
use Rattle.rdl_nodes.proofs.Members.{get-read}
use Rattle.rdl_sizes.proofs.Facts.{row-at}
use Rattle.rdl_fields.proofs.Lists.{filter-next}
use Rattle.rdl_fields.specs.Primary.{TellsPrimary}
use Rattle.rdl_block_numbers.specs.Numbers.{AreViewed}
use Rattle.rdl_rules.specs.Fields.{first_number, viewed}
use Rattle.rdl_rules.specs.Numbers.{all_fields}
use Rattle.rdl_block_lists.specs.Standing.{IsRowOf}

pub tells-alias : (e : Elab) (n : Instance) (o : Option ℕ) → TellsPrimary e n o → is_some o ≡ is_alias n
tells-alias e n None h = sym h
tells-alias e n (Some k) h = sym h.0

pub row-of : (e : Elab) (rows : List Row) → AreRows e rows → (i : ℕ) (x : Row) → slice_get rows i ≡ Some x → (l : Lineage) × (slice_get (lineages_of e) i ≡ Some l) × IsRowOf e x l
row-of e rows are i x at =
    let r = row-at e rows are i x at in
    let id = sym r.2.number in
    (r.0, r.1, record { here = subst (λ k. slice_get (lineages_of e) k ≡ Some r.0) id r.1; row = subst (λ k. IsRow e (lineages_of e) k x r.0) id r.2 })

-- the number of the field that a field is a view of
pub number-of : (e : Elab) (numbers : List ℕ) → AreViewed e numbers → (k : ℕ) (l : Lineage) (v : Instance) → k < e.count → slice_get (lineages_of e) k ≡ Some (child_of l v) → is_a kind.Field v ≡ true
    → get_or numbers k 0 ≡ first_number (viewed (nodes_in (lineages_of e)) l.node v) (all_fields (nodes_in (lineages_of e)))
number-of e numbers h k l v low here field =
    get-read numbers k 0 (first_number (viewed (nodes_of e) l.node v) (all_fields (nodes_of e))) (h.each k (child_of l v) l.node l.ancestors low here field refl)
    ∙ ap (λ ns. first_number (viewed ns l.node v) (all_fields ns)) (sym (all_nodes (Some (top_name e)) e.source.now))

-- One more.

module _ {X : Type 0} where
  pub put-one : (b : Bool) (x y : X) (old new : List X) → b ≡ true → x ≡ y → new ≡ old ++ (x ∷ []) → new ≡ old ++ cond b (y ∷ []) []
  put-one b x y old new t same put = put ∙ ((λ i. old ++ (same i ∷ [])) ∙ ap (λ c. old ++ cond c (y ∷ []) []) (sym t))

  pub put-none : (b : Bool) (ys old : List X) → b ≡ false → old ≡ old ++ cond b ys []
  put-none b ys old t = sym (append-nil old) ∙ ap (λ c. old ++ cond c ys []) (sym t)

  -- what is made of those that pass a test
  pub mapped-more : (g : Instance → X) (p : Instance → Bool) (cs : List Instance) (i : ℕ) (c : Instance) → slice_get cs i ≡ Some c → (begun old new : List X) → old ≡ begun ++ map g (filter p (take i cs)) → new ≡ old ++ cond (p c) (g c ∷ []) [] → new ≡ begun ++ map g (filter p (take (i + 1) cs))
  mapped-more g p cs i c here begun old new before put =
      put
      ∙ ((λ j. before j ++ added (p c) j)
      ∙ (append_assoc begun (map g (filter p (take i cs))) (map g (cond (p c) (c ∷ []) []))
      ∙ ap (λ xs. begun ++ xs) (sym (map-append g (filter p (take i cs)) (cond (p c) (c ∷ []) [])) ∙ ap (map g) (sym (filter-next p cs i c here)))))
    where
      added : (b : Bool) → cond b (g c ∷ []) [] ≡ map g (cond b (c ∷ []) [])
      added true = refl
      added false = refl

  -- the lists that are made of them
  pub joined-more : (g : Instance → List X) (p : Instance → Bool) (ns : List Instance) (i : ℕ) (n : Instance) → slice_get ns i ≡ Some n → (old new : List X) → old ≡ flat_map g (filter p (take i ns)) → new ≡ old ++ cond (p n) (g n) [] → new ≡ flat_map g (filter p (take (i + 1) ns))
  joined-more g p ns i n here old new before put =
      put
      ∙ ((λ j. before j ++ added (p n) j)
      ∙ (sym (flat_map-append g (filter p (take i ns)) (cond (p n) (n ∷ []) [])) ∙ ap (flat_map g) (sym (filter-next p ns i n here))))
    where
      added : (b : Bool) → cond b (g n) [] ≡ flat_map g (cond b (n ∷ []) [])
      added true = sym (append-nil (g n))
      added false = refl
