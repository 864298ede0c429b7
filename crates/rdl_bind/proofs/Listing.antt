-- The failures that were collected are those of the phase.
use Rattle.std.proofs.Common.{◌<◌, ◌^◌, map, ◌≡◌, ◌==◌, ℕ, suc, ◌∙◌, true, false, length, List, [], ◌∷◌, Contains, Some, refl, ap, subst, arith}
use Rattle.std.proofs.lemmas.Bool.Decides.{nat_tests}
use Rattle.plain_lemmas.proofs.Lists.{length-map as mapped}
use Rattle.rdl_base.specs.declared.fault.Fault.{Fault}
use Rattle.rdl_tree.specs.declared.node.Elab.{Elab}
use Rattle.rdl_values.specs.Elaborated.{nodes_of, top_name}
use Rattle.rdl_values.specs.Instances.{Instance}
use Rattle.rdl_values.specs.Lineages.{lineages_of}
use Rattle.rdl_values.specs.Faults.{at_}
use Rattle.rdl_values.specs.Verdict.{IsListOf}
use Rattle.rdl_refs.specs.declared.item.ItemOf.{ItemOf}
use Rattle.rdl_refs.specs.Answers.{AreItemsOf, IsBound, references_fail}
use Rattle.rdl_refs.specs.Follows.{edges_of, item_number, refers_to}
use Rattle.rdl_refs.specs.Items.{Item, failures_r, items}
use Rattle.rdl_bind.specs.declared.numbering.Numbers.{Numbers}
use Rattle.rdl_bind.specs.Numbered.{AreNumbers}

-- a list's length tells whether it is empty
none-listed : (xs : List Fault) (n : ℕ) → n ≡ length xs → (n == 0) ≡ true → xs ≡ []
none-listed [] n is e = refl
none-listed (x ∷ xs) n is e = absurd (clash n (length xs) is e)
  where
    clash : (n k : ℕ) → n ≡ suc k → (n == 0) ≡ true → ⊥
    clash n k is e = grind (arith, nat_tests, is, e)

pub some-listed : (xs : List Fault) (n : ℕ) → n ≡ length xs → (n == 0) ≡ false → xs ≡ [] → ⊥
some-listed xs n is e none = clash n (is ∙ ap length none) e
  where
    clash : (n : ℕ) → n ≡ 0 → (n == 0) ≡ false → ⊥
    clash n is e = grind (arith, nat_tests, is, e)

pub listed-all : (e : Elab) (fs list : List Fault) → fs ≡ failures_r (Some (top_name e)) e.source.now → IsListOf (λ rule place. Contains fs (at_ rule place)) list → IsListOf (references_fail e) list
listed-all e fs list same h = subst (λ xs. IsListOf (λ rule place. Contains xs (at_ rule place)) list) same h

-- an empty list says that nothing fails
pub none-unbound : (e : Elab) (fs list : List Fault) (n : ℕ) → fs ≡ failures_r (Some (top_name e)) e.source.now → IsListOf (λ rule place. Contains fs (at_ rule place)) list → n ≡ length list → (n == 0) ≡ true → IsBound e
none-unbound e fs list n same h is empty = subst (IsListOf (references_fail e)) (none-listed list n is empty) (listed-all e fs list same h)

-- Numbers of items fit in 32 bits.

as-many : (ns : List Instance) (xs : List ItemOf) (is : List Item) → AreItemsOf ns xs is → length xs ≡ length is
as-many ns [] [] h = refl
as-many ns [] (i ∷ is) h = absurd h
as-many ns (x ∷ xs) [] h = absurd h
as-many ns (x ∷ xs) (i ∷ is) h = ap suc (as-many ns xs is h.1)

pub few-edges : (e : Elab) (x : Numbers) → AreNumbers e x → (vs : List (List ℕ)) → vs ≡ edges_of (lineages_of e) → length vs < 2 ^ 32
unfolding edges_of
few-edges e x are vs refer =
    let b = ap length refer in
    let d = mapped (λ i. map (item_number (lineages_of e)) (refers_to (lineages_of e) i)) (items (lineages_of e)) in
    let m = as-many (nodes_of e) x.items.items (items (lineages_of e)) are.listed in
    let few = are.few in
    omega (arith, b, d, m, few)
