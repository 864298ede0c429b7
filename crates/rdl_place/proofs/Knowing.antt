-- What is known of a tree, from its tables.
use Rattle.std.proofs.Common.{◌≡◌, ◌∙◌, ◌↔◌, ◌++◌, ℕ, List, length, Contains, sym, ap, subst}
use Rattle.rdl_base.specs.declared.fault.Fault.{Fault}
use Rattle.rdl_tree.specs.declared.node.Elab.{Elab}
use Rattle.rdl_values.specs.Elaboration.{IsClean}
use Rattle.rdl_layers.specs.Answers.{IsSettled}
use Rattle.rdl_addr.specs.Answers.{AreBitsAt}
use Rattle.rdl_addr.specs.Areas.{bits_at}
use Rattle.rdl_sizes.specs.declared.known.Sizes.{Sizes}
use Rattle.rdl_sizes.specs.Sized.{AreSizes}
use Rattle.rdl_sizes.proofs.Facts.{nodes-many}
use Rattle.rdl_bits.specs.declared.table.BitTable.{BitTable}
use Rattle.rdl_bits.specs.Tabled.{AreBits}
use Rattle.rdl_sizes.specs.Addresses.{AreAddresses}
use Rattle.rdl_bits.specs.Failing.{failures_of_addresses}
use Rattle.rdl_bits.specs.Judged.{failures_of_bits, failures_of_bodies}
use Rattle.rdl_place.specs.Kept.{AreAreas}
use Rattle.rdl_place.specs.Known.{IsKnown}
use Rattle.rdl_place.specs.declared.tables.Laid.{Laid}
use Rattle.rdl_place.proofs.Listing.{all-failures}
use Rattle.rdl_place.proofs.Mapping.{address-at, as-many-areas, bits-kept, size-at}

abbrev BodiesAreJudged : Type 0
BodiesAreJudged = (e : Elab) (s : Sizes) → IsClean e → AreSizes e s → (f : Fault) → Contains s.faults.items f ↔ Contains (failures_of_bodies e) f

abbrev BitsAreJudged : Type 0
BitsAreJudged = (e : Elab) (t : BitTable) → AreBits e t → (f : Fault) → Contains t.faults.items f ↔ Contains (failures_of_bits e) f

of-tree : (e : Elab) → IsClean e → IsSettled e → BodiesAreJudged → BitsAreJudged → (sizes : Sizes) → AreSizes e sizes → (t : BitTable) → AreBits e t → (as_ : List ℕ) → AreAddresses e as_ → (x : Laid) → AreAreas as_ sizes.measures.items x.areas.items
    → x.faults.items ≡ failures_of_addresses e ++ sizes.faults.items ++ t.faults.items → x.bits.items ≡ t.bits.items → IsKnown e x
of-tree e clean settled bodies bits sizes are t tabled as_ stand x kept faults fields = record {
  failures = all-failures e x.faults.items sizes.faults.items t.faults.items faults (bodies e sizes clean are) (bits e t tabled);
  all_placed = as-many-areas e sizes are as_ stand x.areas.items kept ∙ sym (nodes-many e);
  addresses = λ placed k has. address-at e sizes are as_ stand x.areas.items kept placed k has;
  sizes = λ placed k has. size-at e sizes are as_ stand x.areas.items kept placed k has;
  all_fields = ap length fields ∙ (tabled.sized ∙ sym (nodes-many e));
  fields = λ placed k is. subst (λ xs. AreBitsAt e k (bits_at xs k)) (sym fields) (bits-kept e settled t tabled placed k is);
}

pub all-known : (e p : Elab) → p ≡ e → IsClean e → IsSettled e → BodiesAreJudged → BitsAreJudged → (sizes : Sizes) → AreSizes p sizes → (t : BitTable) → AreBits p t → (as_ : List ℕ) → AreAddresses p as_ → (x : Laid) → AreAreas as_ sizes.measures.items x.areas.items
    → x.faults.items ≡ failures_of_addresses p ++ sizes.faults.items ++ t.faults.items → x.bits.items ≡ t.bits.items → IsKnown e x
all-known e p same clean settled bodies bits sizes are t tabled as_ stand x kept faults fields =
    of-tree e clean settled bodies bits sizes (subst (λ y. AreSizes y sizes) same are) t (subst (λ y. AreBits y t) same tabled) as_ (subst (λ y. AreAddresses y as_) same stand) x kept
    (faults ∙ ap (λ y. failures_of_addresses y ++ sizes.faults.items ++ t.faults.items) same) fields
