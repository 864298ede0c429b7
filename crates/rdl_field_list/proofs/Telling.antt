-- What tables tell of a field, and fields put into a list.
use Rattle.std.proofs.Common.{◌≡◌, ◌∙◌, ℕ, ◌+◌, Bool, true, false, not, cond, List, [], ◌∷◌, ◌++◌, append-nil, append_assoc, map, filter, take, get_or, Some, slice_get, refl, sym, ap, subst}
use Rattle.std.specs.List.{list_any}
use Rattle.std.proofs.lemmas.List.{map-append}
use Rattle.plain_lemmas.proofs.Bools.{and-both as both}
use Rattle.rdl_tree.specs.declared.item.Kind.{Kind}
use Rattle.rdl_tree.specs.declared.item.Kind.TheVariants as kind
use Rattle.rdl_tree.specs.declared.node.Elab.{Elab}
use Rattle.rdl_tree.specs.Kinds.{same_kind}
use Rattle.rdl_values.specs.Elaborated.{nodes_of, top_name}
use Rattle.rdl_values.specs.Instances.{Instance, children, kind_of}
use Rattle.rdl_values.specs.Lineages.{Lineage, child_of, lineages_of, nodes_in}
use Rattle.rdl_values.specs.Parts.{is_unit}
use Rattle.rdl_layers.specs.Fields.{fields_of, is_a, is_alias, views}
use Rattle.rdl_nodes.proofs.Lineages.{all_nodes}
use Rattle.rdl_nodes.proofs.Members.{In, each-in, get-read, in-flat, place-in}
use Rattle.rdl_sizes.proofs.Facts.{node-at}
use Rattle.rdl_fields.proofs.Lists.{filter-next, in-filter}
use Rattle.rdl_feeds.specs.Narrow.{AreNarrow}
use Rattle.rdl_block_numbers.specs.Listed.{is_primary}
use Rattle.rdl_members.specs.Covered.{AreOverViews, IsKept}
use Rattle.rdl_rules.specs.Numbers.{all_fields, primaries, registers}
use Rattle.rdl_field_list.specs.Own.{AreNarrowFields, IsOwn}

module _ (e : Elab) (register node : ℕ) (l : Lineage) (f : Instance) (own : IsOwn e register node l f) where
  pub plain : slice_get (nodes_of e) node ≡ Some f
  plain = node-at e node (child_of l f) own.here

  kept : is_a kind.Field f ≡ true → IsKept e node (child_of l f) l.node
  kept field = record { here = own.here; is_field = field; above = l.ancestors; parent = refl; no_alias = own.no_alias }

  -- whether one of its views passes a test
  pub over : (test : Instance → Bool) (bs : List Bool) → AreOverViews e test bs → is_a kind.Field f ≡ true → get_or bs node false ≡ list_any test (views (nodes_in (lineages_of e)) l.node f)
  over test bs h field =
      get-read bs node false (list_any test (views (nodes_of e) l.node f)) (h.each node (child_of l f) l.node (kept field))
      ∙ ap (λ ns. list_any test (views ns l.node f)) (sym (all_nodes (Some (top_name e)) e.source.now))

-- a number is one node's
pub at-most-one : (P : Instance → Type 0) (e : Elab) (k : ℕ) (l : Lineage) (c n : Instance) → slice_get (lineages_of e) k ≡ Some (child_of l c) → slice_get (nodes_of e) k ≡ Some n → P c → P n
at-most-one P e k l c n here at p = let same : Some c ≡ Some n = sym (node-at e k (child_of l c) here) ∙ at in subst P (let q : c ≡ n = cc same in q) p

pub unit-field : (f : Instance) → is_a kind.Field f ≡ true → is_unit (kind_of f) ≡ true
unit-field f q = go (kind_of f) q
  where
    go : (k : Kind) → same_kind kind.Field k ≡ true → is_unit k ≡ true
    go kind.Field q = refl
    go kind.Signal q = refl
    go kind.Reg q = cc q
    go kind.Regfile q = cc q
    go kind.Addrmap q = cc q

pub not-alias : (n : Instance) → is_primary n ≡ true → is_alias n ≡ false
not-alias n q = go (is_alias n) (both (is_a kind.Reg n) (not (is_alias n)) q).1
  where
    go : (b : Bool) → not b ≡ true → b ≡ false
    go true p = cc p
    go false p = refl

-- a field of a register that is no alias is one of the block
pub narrow-child : (e : Elab) → AreNarrowFields e → (k : ℕ) (l : Lineage) → slice_get (lineages_of e) k ≡ Some l → is_primary l.node ≡ true → (c : Instance) → In (children l.node) c → is_a kind.Field c ≡ true → AreNarrow c
narrow-child e all k l here primary c among field =
    let p = both (is_a kind.Reg l.node) (not (is_alias l.node)) primary in
    let own : In (primaries (nodes_of e)) l.node = in-filter (λ r. not (is_alias r)) (registers (nodes_of e)) l.node (in-filter (is_a kind.Reg) (nodes_of e) l.node (place-in (nodes_of e) k l.node (node-at e k l here)) p.0) p.1 in
    each-in AreNarrow (all_fields (nodes_of e)) c all (in-flat fields_of (primaries (nodes_of e)) l.node c own (in-filter (is_a kind.Field) (children l.node) c among field))

-- One node more.

module _ {X : Type 0} where
  pub put-one : (b : Bool) (x y : X) (old new : List X) → b ≡ true → x ≡ y → new ≡ old ++ (x ∷ []) → new ≡ old ++ cond b (y ∷ []) []
  put-one b x y old new t same put = put ∙ ((λ i. old ++ (same i ∷ [])) ∙ ap (λ c. old ++ cond c (y ∷ []) []) (sym t))

  pub put-none : (b : Bool) (y : List X) (old : List X) → b ≡ false → old ≡ old ++ cond b y []
  put-none b y old t = sym (append-nil old) ∙ ap (λ c. old ++ cond c y []) (sym t)

  -- what is made of those that pass a test, one more
  pub mapped-more : (g : Instance → X) (p : Instance → Bool) (cs : List Instance) (i : ℕ) (c : Instance) → slice_get cs i ≡ Some c → (begun old new : List X) → old ≡ begun ++ map g (filter p (take i cs)) → new ≡ old ++ cond (p c) (g c ∷ []) [] → new ≡ begun ++ map g (filter p (take (i + 1) cs))
  mapped-more g p cs i c here begun old new before put =
      put
      ∙ ((λ j. before j ++ added (p c) j)
      ∙ (append_assoc begun (map g (filter p (take i cs))) (map g (cond (p c) (c ∷ []) []))
      ∙ ap (λ xs. begun ++ xs) (sym (map-append g (filter p (take i cs)) (cond (p c) (c ∷ []) [])) ∙ ap (map g) (sym (filter-next p cs i c here)))))
    where
      added : (b : Bool) → cond b (g c ∷ []) [] ≡ map g (cond b (c ∷ []) [])
      added true = refl
      added false = refl
