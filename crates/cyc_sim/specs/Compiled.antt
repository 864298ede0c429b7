-- What compiled expressions compute.
use Rattle.std.specs.Prelude.{◌≡◌, ℕ, ◌+◌, ◌<◌, ◌≤◌, ◌^◌, true, Option, Some, None, IsSome, List, [], ◌∷◌, ◌++◌, length, slice_index}
use Rattle.std.specs.List.{AllByRecursion}
use Rattle.std.specs.BTreeMap.{BTreeMap, get_by}
use Rattle.std.specs.Cmp.Lexicographic.{slice_cmp}
use Rattle.std.specs.Ordering.{nat_cmp}
use denote.Ref.{Bor}
use Rattle.v_design.specs.Expr.{Expr, Widths, Values, nets_of, width_of, is_sized, value_of}
use Rattle.v_design.specs.Constants.{ConstantsFit}
use Rattle.cyc_sim.specs.Operations.{values_after}
use Rattle.cyc_sim.specs.declared.operation.Operation.{Operation}
use Rattle.cyc_sim.specs.declared.operation.Operation.TheVariants.{Join}
use Rattle.cyc_sim.specs.declared.listing.Wire.{Wire}
use Rattle.cyc_sim.specs.declared.listing.Listing.{Listing}

-- the nets that have a place, by name
abbrev pub Known : Type 0
Known = BTreeMap (Bor (List ℕ)) Wire

-- the place of a net, if it has one
abbrev pub known_at : Known → List ℕ → Option Wire
known_at known name = get_by (λ k. slice_cmp nat_cmp name k.now) known

-- the number of places of a listing
abbrev pub end_of : Listing → ℕ
end_of l = l.first + length l.operations.items

-- the places of nets are before this one
pub record AreBelow (known : Known) (end : ℕ) : Type 0 where
  pub below : (name : List ℕ) (w : Wire) → known_at known name ≡ Some w → w.place < end

-- the widths of nets are these
pub record AreWidths (known : Known) (ws : Widths) : Type 0 where
  pub width : (name : List ℕ) (w : Wire) → known_at known name ≡ Some w → w.width ≡ ws name

-- the nets of an expression have places, and its widths agree, none of more than 128 bits
pub record IsReady (known : Known) (e : Expr) : Type 0 where
  pub nets : AllByRecursion (λ n. IsSome (known_at known n)) (nets_of e)
  pub widths : Widths
  pub wide : AreWidths known widths
  pub narrow : (name : List ℕ) → widths name ≤ 128
  pub sized : is_sized widths e ≡ true
  pub constants : ConstantsFit e

-- over the values of the first places, each net's place has the net's value, which is within its width
pub record Agrees (known : Known) (operations : List Operation) (base : List ℕ) (v : Values) : Type 0 where
  pub below : (name : List ℕ) (w : Wire) → known_at known name ≡ Some w → w.place < length base + length operations
  pub value : (name : List ℕ) (w : Wire) → known_at known name ≡ Some w → slice_index (values_after operations base) w.place ≡ v name
  pub fits : (name : List ℕ) (w : Wire) → known_at known name ≡ Some w → v name < 2 ^ w.width

-- a listing has further operations
pub record Extends (old new : Listing) : Type 0 where
  pub first : new.first ≡ old.first
  pub more : List Operation
  pub longer : new.operations.items ≡ old.operations.items ++ more

-- a listing has one operation more, at this place
pub record Adds (old new : Listing) (operation : Operation) (place : ℕ) : Type 0 where
  pub first : new.first ≡ old.first
  pub longer : new.operations.items ≡ old.operations.items ++ (operation ∷ [])
  pub at : place ≡ end_of old

-- a wire is the one behind those joined before it, or that one alone
abbrev pub IsBehind : Listing → Listing → Option Wire → Wire → Wire → Type 0
IsBehind old new None low w = (new ≡ old) × (w ≡ low)
IsBehind old new (Some high) low w = Adds old new (Join high.place low.place low.width (high.width + low.width)) w.place × (w.width ≡ high.width + low.width)

-- a listing has further operations, after which the place of a wire has the value of an expression, and the wire its width
pub record Compiles (known : Known) (e : Expr) (old new : Listing) (w : Wire) : Type 0 where
  pub extends : Extends old new
  pub below : w.place < end_of new
  pub nets : AllByRecursion (λ n. IsSome (known_at known n)) (nets_of e)
  pub width : (ws : Widths) → AreWidths known ws → w.width ≡ width_of ws e
  pub value : (ws : Widths) (v : Values) (base : List ℕ) → length base ≡ old.first → AreWidths known ws → is_sized ws e ≡ true → ConstantsFit e
      → Agrees known old.operations.items base v → slice_index (values_after new.operations.items base) w.place ≡ value_of ws v e
