-- Items made one after the other.
use Rattle.std.proofs.Common.{◌≡◌, ◌≢◌, ℕ, ◌+◌, ◌<◌, ◌≤◌, Bool, true, false, if◌then◌else◌, is_some, Some, List, [], ◌∷◌, ◌++◌, length, slice_get, get_or, refl, sym, ap, ◌∙◌, subst, arith, get_or-set_other, get_or-set_same, length-set, inl, inr, ◌⊎◌}
use Rattle.std.specs.Prelude.{Contains}
use Rattle.std.specs.List.{enumerate_from, flat_map}
use Rattle.std.proofs.Math.ListN.{set}
use Rattle.std.proofs.lemmas.List.Sorted.{Contains-permutation, IsPermutation-sym}
use Rattle.std.proofs.lemmas.Option.{get_or_from_slice_get, same_Some, slice_get-get_or, slice_get_read, slice_get_within}
use Rattle.plain_lemmas.proofs.Numbers.{below_next-same_or as last_or_before}
use Rattle.rtl_net.specs.Net.{Net, Grows}
use Rattle.rtl_net.specs.declared.node.Id.{Id}
use Rattle.rtl_net.proofs.Nets.{Grows-refl, Grows-trans}
use Rattle.rb_model.specs.declared.kinds.RefItem.{RefItem}
use Rattle.rb_model.specs.declared.kinds.RefItem.TheVariants as item
use Rattle.rb_model.specs.declared.block.Block.{Block}
use Rattle.rb_model.specs.declared.block.Field.{Field}
use Rattle.rb_model.specs.declared.block.Signal.{Signal}
use Rattle.rb_model.specs.Kept.{when}
use Rattle.rb_model.specs.Items.{field_items, items, made, reg_items}
use Rattle.rb_model.specs.References.{Each, StandsBefore, item_width, refs}
use Rattle.rb_model.specs.Sound.{IsSound}
use Rattle.rb_model.proofs.Eachs.{Each-append, Each-at, Each-both, Each-flat_map, Each-numbered_all}
use Rattle.block_plan.specs.Table.{item_place}
use Rattle.block_plan.proofs.ItemPlaces.{place_alone}
use Rattle.block_plan.proofs.Ordering.{here_at}
use Rattle.gen_scene.specs.declared.base.Inlet.{Inlet}
use Rattle.gen_scene.specs.declared.items.Marks.{Marks}
use Rattle.block_plan.specs.Wanted.{IsClosed, is_wanted}
use Rattle.gen_scene.specs.Items.{AreMarks, HasItems, IsItem, IsMarked, IsOwn}
use Rattle.gen_scene.specs.Worth.{IsWorth}
use Rattle.gen_scene.proofs.Worths.{IsItem-grows}

-- What the items of a block are

when_each : {X : Type 0} (P : X → Type 0) (c : Bool) (x : X) → P x → Each P (when c x)
when_each P true x h = (h, tt)
when_each P false x h = tt

counter_items : (b : Block) (k : ℕ) (f : Field) → slice_get b.fields k ≡ Some f → (c : Bool) → is_some f.count ≡ c
    → Each (IsOwn b) (if c then item.IncrThreshold k ∷ item.DecrThreshold k ∷ item.Overflow k ∷ item.Underflow k ∷ [] else [])
counter_items b k f here true e = ((f, here, e), ((f, here, e), ((f, here, e), ((f, here, e), tt))))
counter_items b k f here false e = tt

own_items : (b : Block) (k : ℕ) (f : Field) → slice_get b.fields k ≡ Some f → Each (IsOwn b) (field_items (k, f))
own_items b k f here = (
  (f, here),
  (
    (f, here),
    (
      (f, here),
      (
        (f, here),
        Each-append (IsOwn b) (if is_some f.count then item.IncrThreshold k ∷ item.DecrThreshold k ∷ item.Overflow k ∷ item.Underflow k ∷ [] else []) (item.SwMod k ∷ item.SwAcc k ∷ [])
            (counter_items b k f here (is_some f.count) refl) ((f, here), ((f, here), tt)),
      ),
    ),
  ),
)

all_own : (b : Block) → Each (IsOwn b) (items b)
all_own b =
    let ss = flat_map (λ (s : ℕ × Signal). item.Signal s.0 ∷ []) (enumerate_from 0 b.signals) in
    let fs = flat_map field_items (enumerate_from 0 b.fields) in
    let rs = flat_map reg_items (enumerate_from 0 b.regs) in
    Each-append (IsOwn b) (ss ++ fs) rs
    (Each-append (IsOwn b) ss fs
    (Each-flat_map (IsOwn b) (λ (s : ℕ × Signal). item.Signal s.0 ∷ []) (enumerate_from 0 b.signals) (Each-numbered_all (λ s. Each (IsOwn b) (item.Signal s.0 ∷ [])) b.signals (λ k g here. ((g, here), tt))))
    (Each-flat_map (IsOwn b) field_items (enumerate_from 0 b.fields) (Each-numbered_all (λ f. Each (IsOwn b) (field_items f)) b.fields (own_items b))))
    (Each-flat_map (IsOwn b) reg_items (enumerate_from 0 b.regs) (Each-numbered_all (λ r. Each (IsOwn b) (reg_items r)) b.regs (λ k r here.
    Each-append (IsOwn b) (when r.intr (item.Intr k)) (when r.halt (item.Halt k)) (when_each (IsOwn b) r.intr (item.Intr k) tt) (when_each (IsOwn b) r.halt (item.Halt k) tt))))

pub is_own : (b : Block) (i : RefItem) → Contains (items b) i → IsOwn b i
is_own b i c = let (j, low, is) = c in Each-at (IsOwn b) (items b) j i (all_own b) (slice_get_read (items b) (length (items b)) j i refl low (sym is))

pub ordered_among : (b : Block) → IsSound b → (k : ℕ) (i : RefItem) → slice_get b.order k ≡ Some i → Contains (items b) i
ordered_among b sound k i here =
    Contains-permutation b.order (items b) i (IsPermutation-sym (items b) b.order sound.all_items) (k, slice_get_within b.order k i here, get_or_from_slice_get b.order k i i here)

pub is_marked : (b : Block) (a : Inlet) (net : Net) (wanted : List Bool) (marks : List Marks) (i : RefItem) → AreMarks b a net wanted marks → IsOwn b i → is_wanted wanted i ≡ true → IsMarked b a net marks i
is_marked b a net wanted marks (item.SwMod k) h own w = let low = slice_get_within b.fields k own.0 own.1 in (omega (arith, low, h.long), h.modified k own.0 own.1 w)
is_marked b a net wanted marks (item.SwAcc k) h own w = let low = slice_get_within b.fields k own.0 own.1 in (omega (arith, low, h.long), h.accessed k own.0 own.1 w)
is_marked b a net wanted marks (item.Field k) h own w = tt
is_marked b a net wanted marks (item.Signal k) h own w = tt
is_marked b a net wanted marks (item.Anded k) h own w = tt
is_marked b a net wanted marks (item.Ored k) h own w = tt
is_marked b a net wanted marks (item.Xored k) h own w = tt
is_marked b a net wanted marks (item.IncrThreshold k) h own w = tt
is_marked b a net wanted marks (item.DecrThreshold k) h own w = tt
is_marked b a net wanted marks (item.Overflow k) h own w = tt
is_marked b a net wanted marks (item.Underflow k) h own w = tt
is_marked b a net wanted marks (item.Intr k) h own w = tt
is_marked b a net wanted marks (item.Halt k) h own w = tt

-- The loop

-- the wanted items up to a place have their nodes
pub record MadeTo (b : Block) (a : Inlet) (wanted : List Bool) (first net : Net) (room : ℕ) (table : List Id) (end : ℕ) : Type 0 where
  pub older : Grows first net
  pub name : net.name ≡ first.name
  pub long : length table ≡ room
  pub each : (k : ℕ) (i : RefItem) → k < end → slice_get b.order k ≡ Some i → is_wanted wanted i ≡ true → IsItem b a net table i

pub none_made : (b : Block) (a : Inlet) (wanted : List Bool) (net : Net) (table : List Id) (room : ℕ) → length table ≡ room → MadeTo b a wanted net net room table 0
none_made b a wanted net table room e = record { older = Grows-refl net; name = refl; long = e; each = λ k i low here w. absurd (omega (arith, low)) }

same_or_other : (m n : ℕ) → (m ≡ n) ⊎ (m ≢ n)
same_or_other m n = grind arith

-- one that isn't wanted
pub one_spared : (b : Block) (a : Inlet) (wanted : List Bool) (first net : Net) (room : ℕ) (table : List Id) (end : ℕ) (i : RefItem) → slice_get b.order end ≡ Some i → is_wanted wanted i ≡ false → MadeTo b a wanted first net room table end → MadeTo b a wanted first net room table (end + 1)
one_spared b a wanted first net room table end i here spared sofar = record {
  older = sofar.older;
  name = sofar.name;
  long = sofar.long;
  each = λ k j low there w. elim (last_or_before k end low) [
    | inl e ↦ let same : i ≡ j = same_Some i j (sym here ∙ (ap (slice_get b.order) (sym e) ∙ there)) in absurd (let q : false ≡ true = sym spared ∙ (ap (is_wanted wanted) same ∙ w) in cc)
    | inr l ↦ sofar.each k j l there w
  ];
}

module _ (b : Block) (a : Inlet) (wanted : List Bool) (first old new : Net) (room : ℕ) (table : List Id) (end : ℕ) (i : RefItem) (id : Id) (sound : IsSound b) (here : slice_get b.order end ≡ Some i)
    (sofar : MadeTo b a wanted first old room table end) (low : item_place i < room) (h : Grows old new) (e : new.name ≡ old.name) (worth : IsWorth b a new id (item_width b i) (λ n v. made b n v i)) where
  mine : IsWorth b a new id (item_width b i) (λ n v. v i)
  mine = record { stands = worth.stands; value = λ v s n f items c. worth.value v s n f items c ∙ sym (c i (ordered_among b sound end i here)) }

  long : length (set table (item_place i) id) ≡ length table
  long = simp length-set

  within : item_place i < length table
  within = omega (arith, low, sofar.long)

  pub one_more : MadeTo b a wanted first new room (set table (item_place i) id) (end + 1)
  one_more = record { older = Grows-trans first old new sofar.older h; name = e ∙ sofar.name; long = long ∙ sofar.long; each = λ k j l there w. by k j l there w (same_or_other (item_place i) (item_place j)) }
    where
      before : (k : ℕ) (j : RefItem) → k < end + 1 → slice_get b.order k ≡ Some j → item_place i ≢ item_place j → k < end
      before k j l there other = elim (last_or_before k end l) [
        | inl q ↦ absurd (other (ap item_place (same_Some i j (sym here ∙ (ap (slice_get b.order) (sym q) ∙ there)))))
        | inr r ↦ r
      ]

      by : (k : ℕ) (j : RefItem) → k < end + 1 → slice_get b.order k ≡ Some j → is_wanted wanted j ≡ true → (item_place i ≡ item_place j) ⊎ (item_place i ≢ item_place j) → IsItem b a new (set table (item_place i) id) j
      by k j l there w (inl same) =
          let lt : item_place i < length table = within in
          let at_place : get_or (set table (item_place i) id) (item_place i) (record { 0 = 0 }) ≡ id = rw get_or-set_same refl in
          subst (λ m. IsItem b a new (set table (item_place i) id) m) (place_alone i j same) (record {
            within = subst (λ n. item_place i < n) (sym long) within;
            worth = subst (λ x. IsWorth b a new x (item_width b i) (λ n v. v i)) (sym at_place) mine;
          })
      by k j l there w (inr other) =
          let q : IsItem b a new table j = IsItem-grows b a old new table j h (sofar.each k j (before k j l there other) there w) in
          let ne : item_place j ≢ item_place i = λ x. other (sym x) in
          let at_place : get_or (set table (item_place i) id) (item_place j) (record { 0 = 0 }) ≡ get_or table (item_place j) (record { 0 = 0 }) = rw get_or-set_other refl in
          record { within = subst (λ n. item_place j < n) (sym long) q.within; worth = subst (λ x. IsWorth b a new x (item_width b j) (λ n v. v j)) (sym at_place) q.worth }

-- the references of a wanted item have their nodes
pub refs_made : (b : Block) (a : Inlet) (wanted : List Bool) (first net : Net) (room : ℕ) (table : List Id) (end : ℕ) (i : RefItem) → IsSound b → IsClosed b wanted → slice_get b.order end ≡ Some i → is_wanted wanted i ≡ true → MadeTo b a wanted first net room table end
    → Each (IsItem b a net table) (refs b i)
refs_made b a wanted first net room table end i sound closed here w sofar =
    Each-both (StandsBefore b.order end) (λ j. is_wanted wanted j ≡ true) (IsItem b a net table) (λ j at q. sofar.each at.0 j at.1 at.2 q) (refs b i) (sound.ordered end i here) (closed.each i (ordered_among b sound end i here) w)

-- all wanted items have their nodes
pub all_made : (b : Block) (a : Inlet) (wanted : List Bool) (first net : Net) (room : ℕ) (table : List Id) (end : ℕ) → IsSound b → length b.order ≤ end → MadeTo b a wanted first net room table end → HasItems b a net wanted table
all_made b a wanted first net room table end sound past sofar = record {
  each = λ i among w.
      let held : Contains b.order i = Contains-permutation (items b) b.order i sound.all_items among in
      let low : held.0 < length b.order = held.1 in
      sofar.each held.0 i (omega (arith, low, past)) (slice_get_read b.order (length b.order) held.0 i refl held.1 (sym held.2)) w;
}

-- the table after one more item, where its place was computed
pub one_more_at : (b : Block) (a : Inlet) (wanted : List Bool) (first old new : Net) (room : ℕ) (table : List Id) (end place : ℕ) (i : RefItem) (id : Id) → IsSound b → slice_get b.order end ≡ Some i → MadeTo b a wanted first old room table end → place < room
    → Grows old new → new.name ≡ old.name → IsWorth b a new id (item_width b i) (λ n v. made b n v i) → place ≡ item_place i → MadeTo b a wanted first new room (set table place id) (end + 1)
one_more_at b a wanted first old new room table end place i id sound here sofar low h e worth at_place =
    subst (λ p. MadeTo b a wanted first new room (set table p id) (end + 1)) (sym at_place) (one_more b a wanted first old new room table end i id sound here sofar (subst (λ p. p < room) at_place low) h e worth)

-- its place is within the table
pub room_at : (b : Block) (all read : List RefItem) (k : ℕ) (d : RefItem) (place room : ℕ) → all ≡ b.order → read ≡ b.order → k < length read → ((k : ℕ) (i : RefItem) → slice_get all k ≡ Some i → item_place i < room) → place ≡ item_place (get_or read k d) → place < room
room_at b all read k d place room f e low h is = subst (λ p. p < room) (sym is) (h k (get_or read k d) (ap (λ xs. slice_get xs k) f ∙ here_at b read k d e low))
