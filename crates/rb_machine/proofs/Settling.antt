-- The items' values, computed in order.
use Rattle.std.proofs.Common.{◌≡◌, ◌≢◌, ℕ, ◌+◌, ◌<◌, ◌≤◌, ◌==◌, true, false, Some, List, length, map, slice_get, get_or, refl, sym, ap, subst, ◌∙◌, arith, get_or-set_other, get_or-set_same, inl, inr, ◌⊎◌}
use Rattle.std.specs.Prelude.{Contains}
use Rattle.std.proofs.Math.ListN.{set}
use Rattle.std.proofs.lemmas.Option.{same_Some, slice_get-get_or, slice_get_read}
use Rattle.plain_lemmas.proofs.Lists.{mapped-at as mapped_at}
use Rattle.plain_lemmas.proofs.Numbers.{same_or_other}
use Rattle.rb_model.specs.declared.kinds.RefItem.{RefItem}
use Rattle.rb_model.specs.declared.block.Block.{Block}
use Rattle.rb_model.specs.Items.{Now, ItemValues, AreItemValues, items, made}
use Rattle.rb_model.specs.References.{IsOrdered, StandsBefore, refs}
use Rattle.rb_model.proofs.Eachs.{Each-weaker}
use Rattle.rb_model.proofs.Made.{made_same}
use Rattle.rb_model.specs.declared.kinds.RefItem.TheVariants as item
use Rattle.rb_machine.specs.Table.{place_of, values_of}

-- an item has its place alone
place_alone : (i j : RefItem) → place_of i ≡ place_of j → i ≡ j
place_alone (item.Field k) (item.Field m) e = ap item.Field (omega arith)
place_alone (item.Signal k) (item.Signal m) e = ap item.Signal (omega arith)
place_alone (item.Anded k) (item.Anded m) e = ap item.Anded (omega arith)
place_alone (item.Ored k) (item.Ored m) e = ap item.Ored (omega arith)
place_alone (item.Xored k) (item.Xored m) e = ap item.Xored (omega arith)
place_alone (item.IncrThreshold k) (item.IncrThreshold m) e = ap item.IncrThreshold (omega arith)
place_alone (item.DecrThreshold k) (item.DecrThreshold m) e = ap item.DecrThreshold (omega arith)
place_alone (item.Overflow k) (item.Overflow m) e = ap item.Overflow (omega arith)
place_alone (item.Underflow k) (item.Underflow m) e = ap item.Underflow (omega arith)
place_alone (item.SwMod k) (item.SwMod m) e = ap item.SwMod (omega arith)
place_alone (item.SwAcc k) (item.SwAcc m) e = ap item.SwAcc (omega arith)
place_alone (item.Intr k) (item.Intr m) e = ap item.Intr (omega arith)
place_alone (item.Halt k) (item.Halt m) e = ap item.Halt (omega arith)
place_alone i j e = absurd (omega arith)

-- whether two numbers are one
abbrev Same : ℕ → ℕ → Type 0
Same m n = ((m ≡ n) × ((m == n) ≡ true)) ⊎ ((m ≢ n) × ((m == n) ≡ false))

-- the items up to a place of a list have their values
abbrev pub SettledTo : ItemValues → List RefItem → List ℕ → ℕ → Type 0
SettledTo v is table end = (k : ℕ) (i : RefItem) → k < end → slice_get is k ≡ Some i → values_of table i ≡ v i

-- Items of a block, each behind those that it refers to, and the values that all items have.
module _ (b : Block) (n : Now) (v : ItemValues) (is : List RefItem) (vals : AreItemValues b n v) (ordered : IsOrdered b is) (own : (k : ℕ) (i : RefItem) → slice_get is k ≡ Some i → Contains (items b) i) where
  settled_more : (table : List ℕ) (end : ℕ) (i : RefItem) (x : ℕ) → slice_get is end ≡ Some i → place_of i < length table → x ≡ made b n (values_of table) i → SettledTo v is table end → SettledTo v is (set table (place_of i) x) (end + 1)
  settled_more table end i x here room e settled k j low there = by (same_or_other (place_of i) (place_of j))
    where
      value : x ≡ v i
      value = e ∙ (made_same n (values_of table) v b i (Each-weaker (StandsBefore is end) (λ j. values_of table j ≡ v j) (λ j at. settled at.0 j at.1 at.2) (refs b i) (ordered end i here)) ∙ sym (vals i (own end i here)))

      by : Same (place_of i) (place_of j) → values_of (set table (place_of i) x) j ≡ v j
      by (inl (same, one)) =
          let e : get_or (set table (place_of i) x) (place_of i) 0 ≡ x = rw get_or-set_same refl in
          ap (λ p. get_or (set table (place_of i) x) p 0) (sym same) ∙ (e ∙ (value ∙ ap v (place_alone i j same)))
      by (inr (other, differs)) =
          let ne : place_of j ≢ place_of i = λ e. other (sym e) in
          let e : get_or (set table (place_of i) x) (place_of j) 0 ≡ get_or table (place_of j) 0 = rw get_or-set_other refl in
          e ∙ settled k j (before (same_or_other k end)) there
        where
          before : Same k end → k < end
          before (inl (e, one)) = absurd (other (ap place_of (same_Some i j (sym here ∙ (ap (slice_get is) (sym e) ∙ there)))))
          before (inr (ne, differs)) = omega (arith, low, ne)

  -- the next item
  pub settled_next : (table : List ℕ) (end : ℕ) (d : RefItem) (place x : ℕ) → end < length is → place ≡ place_of (get_or is end d) → ((k : ℕ) (i : RefItem) → slice_get is k ≡ Some i → place_of i < length table)
      → x ≡ made b n (values_of table) (get_or is end d) → SettledTo v is table end → SettledTo v is (set table place x) (end + 1)
  settled_next table end d place x low at room e settled =
      let here : slice_get is end ≡ Some (get_or is end d) = slice_get-get_or is end d low in
      rw at (settled_more table end (get_or is end d) x here (room end (get_or is end d) here) e settled)

-- a place of a list of the items' places
pub place_read : (is : List RefItem) (places : List ℕ) (k : ℕ) (d : RefItem) (p : ℕ) → places ≡ map place_of is → k < length is → get_or places k p ≡ place_of (get_or is k d)
place_read is places k d p e low = ap (λ ps. get_or ps k p) e ∙ mapped_at place_of is k (get_or is k d) p (slice_get-get_or is k d low)

pub place_room : (is : List RefItem) (places table : List ℕ) (k : ℕ) (p : ℕ) → places ≡ map place_of is → ((k : ℕ) (i : RefItem) → slice_get is k ≡ Some i → place_of i < length table) → k < length is → get_or places k p < length table
place_room is places table k p e room low =
    let d : RefItem = item.Field 0 in
    subst (λ m. m < length table) (sym (place_read is places k d p e low)) (room k (get_or is k d) (slice_get-get_or is k d low))

-- all the items
pub all_settled : (v : ItemValues) (is : List RefItem) (table : List ℕ) (end : ℕ) → length is ≤ end → SettledTo v is table end → (i : RefItem) → Contains is i → values_of table i ≡ v i
all_settled v is table end past settled i c = let (k, low, at) = c in settled k i (omega (arith, low, past)) (slice_get_read is (length is) k i refl low (sym at))
