-- The number of an item from the number of its node's first.
use Rattle.std.proofs.Common.{◌≡◌, ◌∙◌, ℕ, ◌+◌, ◌<◌, ◌^◌, List, length, slice_get, Contains, Option, None, Some, sym, ap, arith}
use Rattle.rdl_tree.specs.declared.node.Elab.{Elab}
use Rattle.rdl_values.specs.Elaborated.{nodes_of}
use Rattle.rdl_values.specs.Elaboration.{IsClean}
use Rattle.rdl_values.specs.Instances.{kind_of}
use Rattle.rdl_values.specs.Lineages.{lineages_of}
use Rattle.rdl_refs.specs.declared.item.ItemOf.{ItemOf}
use Rattle.rdl_refs.specs.Answers.{IsItemOf}
use Rattle.rdl_refs.specs.Follows.{item_number}
use Rattle.rdl_refs.specs.Items.{Item, items, whats}
use Rattle.rdl_nodes.proofs.Members.{get-within, in-from}
use Rattle.rdl_sizes.proofs.Facts.{count-is, nodes-many}
use Rattle.rdl_bind.specs.declared.numbering.Numbers.{Numbers}
use Rattle.rdl_bind.specs.Numbered.{AreNumbers, first_of}
use Rattle.rdl_bind.specs.Places.{before}
use Rattle.rdl_bind.proofs.Growing.{as-many}
use Rattle.rdl_bind.proofs.Places.{number-at}

module _ (e : Elab) (x : Numbers) (item : ItemOf) (i : Item) (clean : IsClean e) (are : AreNumbers e x) (is : IsItemOf (nodes_of e) item i) (has : Contains (whats (kind_of i.node)) i.what) where
  first-is : slice_get x.firsts.items item.node ≡ Some (first_of (lineages_of e) item.node)
  first-is = are.first item.node (let l = get-within (nodes_of e) item.node i.node is.0 in let c = count-is e clean in let m = nodes-many e in omega (arith, l, c, m))

  stands : (item_number (lineages_of e) i ≡ first_of (lineages_of e) item.node + before i.what) × (first_of (lineages_of e) item.node + before i.what < length (items (lineages_of e)))
  stands = number-at e item.node i is.0 (in-from (whats (kind_of i.node)) i.what has)

  pub always-first : (fs : List ℕ) (r : Option ℕ) → fs ≡ x.firsts.items → r ≡ slice_get fs item.node → r ≡ None → ⊥
  always-first fs r same at none = let q : None ≡ Some (first_of (lineages_of e) item.node) = sym none ∙ (at ∙ (ap (λ xs. slice_get xs item.node) same ∙ first-is)) in cc q

  module _ (first place : ℕ) (at : slice_get x.firsts.items item.node ≡ Some first) (behind : place ≡ before item.what) where
    sum-is : first + place ≡ item_number (lineages_of e) i
    sum-is =
        let q : Some first ≡ Some (first_of (lineages_of e) item.node) = sym at ∙ first-is in
        let f : first ≡ first_of (lineages_of e) item.node = cc q in
        let b : place ≡ before i.what = behind ∙ ap before is.1 in
        let n = stands.0 in
        omega (arith, f, b, n)

    pub fits : first + place < 2 ^ 32
    fits =
        let few = are.few in
        let many = as-many (nodes_of e) x.items.items (items (lineages_of e)) are.listed in
        let low = stands.1 in
        let n = stands.0 in
        let s = sum-is in
        omega (arith, few, many, low, n, s)

    pub number-is : (n : ℕ) → n ≡ first + place → Some n ≡ Some (item_number (lineages_of e) i)
    number-is n q = ap Some (q ∙ sum-is)
