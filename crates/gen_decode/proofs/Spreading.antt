-- A number spread over nodes: rows by its upper bits, bit by bit, and columns by its lower ones.
use Rattle.std.proofs.Common.{◌≡◌, ◌≢◌, ℕ, zero, suc, ◌+◌, ◌-◌, ◌*◌, ◌/◌, ◌%◌, ◌^◌, ◌==◌, ◌<◌, ◌≤◌, Bool, true, false, ◌&&◌, List, [], ◌∷◌, ◌++◌, length, get_or, get_or-set_same, get_or-set_other, length-set, refl, ap, sym, ◌∙◌, subst, arith, inl, inr, ◌⊎◌}
use Rattle.std.proofs.Math.ListN.{replicate, set}
use Rattle.std.proofs.lemmas.List.{length-append, get_or_append_left, get_or_at, get_or-replicate}
use Rattle.std.proofs.lemmas.Nat.{pow_pos, div_below, le-div, div-mul-add, mod-mul-add, leading_length}
use Rattle.std.specs.Int.Count.{count_leading_zeros}
use Rattle.std.proofs.Math.Pow.{shr_mono}
use Rattle.std.proofs.Math.Nat.{mod-lt, mod-one, pow-suc, pow-le-pow_right, div-one, div-add-mod', div-div-eq-div-mul}
use Rattle.plain_lemmas.proofs.Numbers.{below-two as below_two, same_or_other}
use Rattle.rb_base.specs.Bits.{part}
use Rattle.rtl_net.specs.Value.{At, bit_of}
use Rattle.rtl_net.specs.Net.{Net, Settles, Grows, IsNode, Stands}
use Rattle.rtl_net.specs.Ids.{at}
use Rattle.rtl_net.specs.declared.node.Id.{Id}
use Rattle.rtl_net.proofs.Nets.{fits_at, Stands-grows, IsNode-grows, IsNode-is, Grows-refl, Grows-trans}
use Rattle.gen_decode.specs.Hits.{StandEach, AreHits, AreHitsAbove, AreCrossed, AreNeeded, AreSides, AreColumns, IsNeeded}
use Rattle.gen_decode.proofs.Halves.{top_bit, by_top_bit, doubled}
use Rattle.gen_decode.proofs.Spans.{crossed}

pub StandEach-grows : (a b : Net) (ids : List Id) → Grows a b → StandEach a ids → StandEach b ids
StandEach-grows a b ids p h = record { each = λ k l. Stands-grows a b (at ids k) 1 p (h.each k l) }

-- The loop that crosses rows and columns

pub record CrossedTo (old net : Net) (rows columns : List Id) (level : ℕ) (needed : List Bool) (ids : List Id) (k : ℕ) : Type 0 where
  pub older : Grows old net
  pub name : net.name ≡ old.name
  pub long : length ids ≡ k
  pub each : AreCrossed net rows columns level needed ids

pub crossed_none : (net : Net) (rows columns : List Id) (level : ℕ) (needed : List Bool) (ids : List Id) → ids ≡ [] → CrossedTo net net rows columns level needed ids 0
crossed_none net rows columns level needed ids e =
    let z : length ids ≡ 0 = ap length e in
    record { older = Grows-refl net; name = refl; long = z; each = record { stand = record { each = λ k l. absurd (omega arith) }; each = λ k l t. absurd (omega arith) } }

at_front : (ids : List Id) (id : Id) (k : ℕ) → k < length ids → at (ids ++ id ∷ []) k ≡ at ids k
at_front ids id k l = get_or_append_left ids (id ∷ []) (record { 0 = 0 }) k l

at_end : (ids : List Id) (id : Id) (k : ℕ) → length ids ≡ k → at (ids ++ id ∷ []) k ≡ id
at_end ids id k e = get_or_at ids id [] (record { 0 = 0 }) k e

pub crossed_more : (old net new : Net) (rows columns : List Id) (level : ℕ) (needed : List Bool) (ids more : List Id) (k : ℕ) (row column id : Id)
    → CrossedTo old net rows columns level needed ids k → Grows net new → new.name ≡ net.name
    → row ≡ at rows (k / 2 ^ level) → column ≡ at columns (k % 2 ^ level)
    → Stands new id 1 → (IsNeeded needed k → IsNode new id 1 (λ x. bit_of (x.node row.0 == 1 && x.node column.0 == 1)))
    → more ≡ ids ++ id ∷ [] → CrossedTo old new rows columns level needed more (k + 1)
crossed_more old net new rows columns level needed ids more k row column id to grows same row_is column_is stands node added = record {
  older = Grows-trans old net new to.older grows;
  name = same ∙ to.name;
  long = counted;
  each = record { stand = record { each = stand }; each = each };
}
  where
    here : IsNeeded needed k → IsNode new id 1 (λ x. bit_of (x.node (at rows (k / 2 ^ level)).0 == 1 && x.node (at columns (k % 2 ^ level)).0 == 1))
    here t =
        let Q : Id → Type 0 = λ i. IsNode new id 1 (λ x. bit_of (x.node i.0 == 1 && x.node (at columns (k % 2 ^ level)).0 == 1)) in
        let P : Id → Type 0 = λ i. IsNode new id 1 (λ x. bit_of (x.node row.0 == 1 && x.node i.0 == 1)) in
        subst Q row_is (subst P column_is (node t))

    counted : length more ≡ k + 1
    counted = ap length added ∙ length-append ids (id ∷ []) ∙ (let l = to.long in omega arith)

    split : (j k : ℕ) → j < k + 1 → (j < k) ⊎ (j ≡ k)
    split j k l = grind arith

    before : (j : ℕ) → j < k → at more j ≡ at ids j
    before j l = ap (λ xs. at xs j) added ∙ at_front ids id j (let e = to.long in omega arith)

    last : at more k ≡ id
    last = ap (λ xs. at xs k) added ∙ at_end ids id k to.long

    stand : (j : ℕ) → j < length more → Stands new (at more j) 1
    stand j l = elim (split j k (let c = counted in omega arith)) [
      | inl below ↦ subst (λ i. Stands new i 1) (sym (before j below)) (Stands-grows net new (at ids j) 1 grows (to.each.stand.each j (let l = to.long in omega arith)))
      | inr same_place ↦ subst (λ m. Stands new (at more m) 1) (sym same_place) (subst (λ i. Stands new i 1) (sym last) stands)
    ]

    each : (j : ℕ) → j < length more → IsNeeded needed j → IsNode new (at more j) 1 (λ x. bit_of (x.node (at rows (j / 2 ^ level)).0 == 1 && x.node (at columns (j % 2 ^ level)).0 == 1))
    each j l t = elim (split j k (let c = counted in omega arith)) [
      | inl below ↦
          let f : At → ℕ = λ x. bit_of (x.node (at rows (j / 2 ^ level)).0 == 1 && x.node (at columns (j % 2 ^ level)).0 == 1) in
          let R : Id → Type 0 = λ i. IsNode new i 1 f in
          subst R (sym (before j below)) (IsNode-grows net new (at ids j) 1 f grows (to.each.each j (let l = to.long in omega arith) t))
      | inr same_place ↦
          let R : Id → Type 0 = λ i. IsNode new i 1 (λ x. bit_of (x.node (at rows (k / 2 ^ level)).0 == 1 && x.node (at columns (k % 2 ^ level)).0 == 1)) in
          let S : ℕ → Type 0 = λ j. IsNode new (at more j) 1 (λ x. bit_of (x.node (at rows (j / 2 ^ level)).0 == 1 && x.node (at columns (j % 2 ^ level)).0 == 1)) in
          subst S (sym same_place) (subst R (sym last) (here (subst (λ m. IsNeeded needed m) same_place t)))
    ]

-- The loop that finds the rows

pub record RowsTo (needed : List Bool) (level : ℕ) (rows : List Bool) (k : ℕ) : Type 0 where
  pub long : length rows ≡ (length needed - 1) / 2 ^ level + 1
  pub each : (j : ℕ) → j < k → IsNeeded needed j → IsNeeded rows (j / 2 ^ level)

pub row_there : (last k level : ℕ) → k ≤ last → k / 2 ^ level < last / 2 ^ level + 1
row_there last k level l = let s = shr_mono level l in omega arith

-- one number more, whose row is found or which isn't needed
pub rows_found : (needed : List Bool) (level : ℕ) (rows : List Bool) (k : ℕ) → k < length needed → RowsTo needed level rows k → RowsTo needed level (set rows (k / 2 ^ level) true) (k + 1)
rows_found needed level rows k l to = record {
  long = length-set rows (k / 2 ^ level) true ∙ to.long;
  each = λ j b t. each j b t (same_or_other (k / 2 ^ level) (j / 2 ^ level));
}
  where
    room : k / 2 ^ level < length rows
    room = let r = row_there (length needed - 1) k level (omega arith) in let g = to.long in omega arith

    each : (j : ℕ) → j < k + 1 → IsNeeded needed j → ((k / 2 ^ level ≡ j / 2 ^ level) × ((k / 2 ^ level == j / 2 ^ level) ≡ true)) ⊎ ((k / 2 ^ level ≢ j / 2 ^ level) × ((k / 2 ^ level == j / 2 ^ level) ≡ false))
        → IsNeeded (set rows (k / 2 ^ level) true) (j / 2 ^ level)
    each j b t (inl e) = subst (λ m. IsNeeded (set rows (k / 2 ^ level) true) m) e.0 (get_or-set_same rows (k / 2 ^ level) true false room)
    each j b t (inr e) =
        let under : j < k = (let ne : j ≢ k = λ q. e.0 (ap (λ m. m / 2 ^ level) (sym q)) in omega (arith, ne)) in
        get_or-set_other rows (k / 2 ^ level) (j / 2 ^ level) true false (λ q. e.0 (sym q)) ∙ to.each j under t

pub rows_kept : (needed : List Bool) (level : ℕ) (rows : List Bool) (k : ℕ) → get_or needed k false ≡ false → RowsTo needed level rows k → RowsTo needed level rows (k + 1)
rows_kept needed level rows k off to = record { long = to.long; each = λ j b t. each j b t (same_or_other k j) }
  where
    each : (j : ℕ) → j < k + 1 → IsNeeded needed j → ((k ≡ j) × ((k == j) ≡ true)) ⊎ ((k ≢ j) × ((k == j) ≡ false)) → IsNeeded rows (j / 2 ^ level)
    each j b t (inl e) = absurd (let z : true ≡ false = sym t ∙ (ap (λ m. get_or needed m false) (sym e.0) ∙ off) in cc)
    each j b t (inr e) = to.each j (let ne : j ≢ k = λ q. e.0 (sym q) in omega (arith, ne)) t

-- the places of a row and of a column
pub row_below : (k count rows level : ℕ) → k < count → count ≤ rows * 2 ^ level → k / 2 ^ level < rows
row_below k count rows level l h = div_below k (2 ^ level) rows (pow_pos level) (omega arith)

-- The sides of a bit

pub are_sides : (n1 n2 : Net) (number bit off : Id) (level : ℕ) (ids : List Id) → Grows n1 n2 → IsNode n1 bit (level - level + 1) (λ x. part (x.node number.0) level level)
    → IsNode n2 off 1 (λ x. bit_of (x.node bit.0 == 0)) → ids ≡ off ∷ bit ∷ [] → AreSides n2 number level ids
are_sides n1 n2 number bit off level ids grows bits offs e = subst (λ is. AreSides n2 number level is) (sym e) (record { each = each })
  where
    one : level - level + 1 ≡ 1
    one = omega arith

    bit_is : (p : ℕ) → p < 2 → p ≡ bit_of (p == 1)
    bit_is zero l = refl
    bit_is (suc zero) l = refl
    bit_is (suc (suc p)) l = absurd (omega arith)

    each : (k : ℕ) → k < length (off ∷ bit ∷ []) → IsNode n2 (at (off ∷ bit ∷ []) k) 1 (λ x. bit_of (part (x.node number.0) level level == k))
    each zero l =
        IsNode-is n2 off 1 1 (λ x. bit_of (x.node bit.0 == 0)) (λ x. bit_of (part (x.node number.0) level level == 0)) offs refl
        (λ x s. ap (λ t. bit_of (t == 0)) (bits.value x (grows.settles x s)))
    each (suc zero) l =
        IsNode-is n2 bit (level - level + 1) 1 (λ x. part (x.node number.0) level level) (λ x. bit_of (part (x.node number.0) level level == 1))
        (IsNode-grows n1 n2 bit (level - level + 1) (λ x. part (x.node number.0) level level) grows bits) one
        (λ x s. bit_is (part (x.node number.0) level level) (top_bit (x.node number.0) level))
    each (suc (suc k)) l = absurd (omega arith)

-- A number by its higher bits and one more

-- the quotient by half as much is twice the quotient and a bit
finer : (n level : ℕ) → n / 2 ^ level ≡ 2 * (n / 2 ^ (level + 1)) + part n level level
finer n level =
    let one : level - level + 1 ≡ 1 = omega arith in
    let e : level + 1 ≡ suc level = omega arith in
    let p : 2 ^ (level + 1) ≡ 2 ^ level * 2 = ap (λ k. 2 ^ k) e ∙ pow-suc 2 level in
    let q : n / 2 ^ (level + 1) ≡ n / 2 ^ level / 2 = ap (λ k. n / k) p ∙ sym (div-div-eq-div-mul n (2 ^ level) 2) in
    let r : n / 2 ^ level / 2 * 2 + n / 2 ^ level % 2 ≡ n / 2 ^ level = div-add-mod' (n / 2 ^ level) 2 in
    let s : part n level level ≡ n / 2 ^ level % 2 = ap (λ k. n / 2 ^ level % 2 ^ k) one in
    omega arith

pub smaller : (n level : ℕ) → (n / 2 ^ level ≡ 0 → ⊥) → n / 2 ^ (level + 1) < n / 2 ^ level
smaller n level some = let f = finer n level in let t = top_bit n level in omega arith

pub deeper : (n level : ℕ) → n < 65536 → level ≤ 16 → (n / 2 ^ level ≡ 0 → ⊥) → level + 1 ≤ 16
deeper n level few most some = elim (split level most) [ inl l ↦ omega arith | inr e ↦ absurd (some (let z : n / 2 ^ 16 ≡ 0 = omega arith in ap (λ k. n / 2 ^ k) e ∙ z)) ]
  where
    split : (level : ℕ) → level ≤ 16 → (level < 16) ⊎ (level ≡ 16)
    split level l = grind arith

pub pairs : (n level : ℕ) → n / 2 ^ level + 1 ≤ (n / 2 ^ (level + 1) + 1) * 2 ^ 1
pairs n level = let f = finer n level in let t = top_bit n level in omega arith

in_pair : (k n level : ℕ) → k < n / 2 ^ level + 1 → k / 2 < n / 2 ^ (level + 1) + 1
in_pair k n level l = let f = finer n level in let t = top_bit n level in omega arith

-- how many pairs there are
pub half_count : (n level count : ℕ) → count ≡ n / 2 ^ level + 1 → (count - 1) / 2 ^ 1 + 1 ≡ n / 2 ^ (level + 1) + 1
half_count n level count e = let f = finer n level in let t = top_bit n level in omega arith

-- of a list of numbers that are all needed
pub all_needed : (needed : List Bool) (n m : ℕ) → needed ≡ replicate n true → n ≡ m → (k : ℕ) → k < m → IsNeeded needed k
all_needed needed n m e same k l = ap (λ xs. get_or xs k false) e ∙ get_or-replicate n k true false (omega arith)

halved : (n level : ℕ) → n / 2 ^ (level + 1) ≡ n / 2 ^ level / 2 ^ 1
halved n level =
    let e : level + 1 ≡ suc level = omega arith in
    let p : 2 ^ (level + 1) ≡ 2 ^ level * 2 = ap (λ k. 2 ^ k) e ∙ pow-suc 2 level in
    ap (λ k. n / k) p ∙ sym (div-div-eq-div-mul n (2 ^ level) 2)

lowest_bit : (n level : ℕ) → part n level level ≡ n / 2 ^ level % 2 ^ 1
lowest_bit n level = let one : level - level + 1 ≡ 1 = omega arith in ap (λ k. n / 2 ^ level % 2 ^ k) one

bit_one : (c : Bool) → (bit_of c == 1) ≡ c
bit_one true = refl
bit_one false = refl

-- what a row's node and a column's make of a number
cross_is : (on : Bool) (p q k : ℕ) → 0 < p → (bit_of (on && q / p == k / p) == 1 && bit_of (q % p == k % p) == 1) ≡ (on && q == k)
cross_is false p q k some = refl
cross_is true p q k some =
    ap (λ c. c && bit_of (q % p == k % p) == 1) (bit_one (q / p == k / p)) ∙ ap (λ c. q / p == k / p && c) (bit_one (q % p == k % p)) ∙ crossed p q k some

-- rows and columns by any numbers whose quotient and rest they tell
module _ (net : Net) (rows columns : List Id) (level : ℕ) (needed : List Bool) (ids : List Id) (crossing : AreCrossed net rows columns level needed ids)
    (x : At) (s : Settles net x) (on : Bool) (q : ℕ)
    (row : (k : ℕ) → k < length ids → IsNeeded needed k → x.node (at rows (k / 2 ^ level)).0 ≡ bit_of (on && q / 2 ^ level == k / 2 ^ level))
    (column : (k : ℕ) → k < length ids → x.node (at columns (k % 2 ^ level)).0 ≡ bit_of (q % 2 ^ level == k % 2 ^ level)) where
  pub crossed_value : (k : ℕ) → k < length ids → IsNeeded needed k → x.node (at ids k).0 ≡ bit_of (on && q == k)
  crossed_value k l t =
      (crossing.each k l t).value x s
      ∙ ap (λ t. bit_of (t == 1 && x.node (at columns (k % 2 ^ level)).0 == 1)) (row k l t)
      ∙ ap (λ t. bit_of (bit_of (on && q / 2 ^ level == k / 2 ^ level) == 1 && t == 1)) (column k l)
      ∙ ap bit_of (cross_is on (2 ^ level) q k (pow_pos level))

-- one node where nothing is left to tell
pub hits_alone : (net : Net) (on number : Id) (last level : ℕ) (needed : List Bool) (ids : List Id) → Stands net on 1 → last / 2 ^ level ≡ 0 → ids ≡ on ∷ [] → AreHitsAbove net on number last level needed ids
hits_alone net on number last level needed ids stands zeros e = subst (λ is. AreHitsAbove net on number last level needed is) (sym e) (record {
  stand = record { each = λ k l. alone k l };
  value = λ x s low k l t. value x s low k l;
})
  where
    alone : (k : ℕ) → k < length (on ∷ []) → Stands net (at (on ∷ []) k) 1
    alone zero l = stands
    alone (suc k) l = absurd (omega arith)

    split : (a b : ℕ) → (a < b) ⊎ (b ≤ a)
    split a b = grind arith

    under : (n : ℕ) → n ≤ last → n / 2 ^ level ≡ 0
    under n l = elim (split last (2 ^ level)) [
      | inl below ↦ let q : n / 2 ^ level < 1 = div_below n (2 ^ level) 1 (pow_pos level) (omega arith) in omega arith
      | inr reached ↦ let q : 1 ≤ last / 2 ^ level = le-div 1 last (2 ^ level) (pow_pos level) (omega arith) in absurd (omega arith)
    ]

    cases : (x : At) → Settles net x → (x.node on.0 ≡ 1 → x.node number.0 ≤ last) → (x.node on.0 ≡ 0) ⊎ (x.node on.0 ≡ 1) → x.node on.0 ≡ bit_of (x.node on.0 == 1 && x.node number.0 / 2 ^ level == 0)
    cases x s low (inl e) = rw e refl
    cases x s low (inr e) = let z = under (x.node number.0) (low e) in rw (e, z) refl

    value : (x : At) → Settles net x → (x.node on.0 ≡ 1 → x.node number.0 ≤ last) → (k : ℕ) → k < length (on ∷ []) → x.node (at (on ∷ []) k).0 ≡ bit_of (x.node on.0 == 1 && x.node number.0 / 2 ^ level == k)
    value x s low zero l = cases x s low (below_two (x.node on.0) (let f = fits_at net x on 1 s stands in omega arith))
    value x s low (suc k) l = absurd (omega arith)

-- one bit more of the number's upper bits
module _ (older net new : Net) (on number : Id) (last level : ℕ) (needed halves : List Bool) (rows pair ids : List Id) (to_net : Grows older net) (to_new : Grows net new)
    (wanted : AreNeeded needed 1 halves) (long_needed : length needed ≡ last / 2 ^ level + 1)
    (long_rows : length rows ≡ last / 2 ^ (level + 1) + 1) (aboves : AreHitsAbove older on number last (level + 1) halves rows)
    (long_pair : length pair ≡ 2) (sides : AreSides net number level pair)
    (long : length ids ≡ length needed) (crossing : AreCrossed new rows pair 1 needed ids) where
  pub hits_halved : AreHitsAbove new on number last level needed ids
  hits_halved = record { stand = crossing.stand; value = value }
    where
      value : (x : At) → Settles new x → (x.node on.0 ≡ 1 → x.node number.0 ≤ last) → (k : ℕ) → k < length ids → IsNeeded needed k → x.node (at ids k).0 ≡ bit_of (x.node on.0 == 1 && x.node number.0 / 2 ^ level == k)
      value x s low = crossed_value new rows pair 1 needed ids crossing x s (x.node on.0 == 1) (x.node number.0 / 2 ^ level) row column
        where
          at_net : Settles net x
          at_net = to_new.settles x s

          row : (k : ℕ) → k < length ids → IsNeeded needed k → x.node (at rows (k / 2 ^ 1)).0 ≡ bit_of (x.node on.0 == 1 && x.node number.0 / 2 ^ level / 2 ^ 1 == k / 2 ^ 1)
          row k l t =
              let inside : k / 2 < last / 2 ^ (level + 1) + 1 = in_pair k last level (omega arith) in
              aboves.value x (to_net.settles x at_net) low (k / 2) (omega arith) (wanted.each k (omega arith) t) ∙ ap (λ t. bit_of (x.node on.0 == 1 && t == k / 2)) (halved (x.node number.0) level)

          column : (k : ℕ) → k < length ids → x.node (at pair (k % 2 ^ 1)).0 ≡ bit_of (x.node number.0 / 2 ^ level % 2 ^ 1 == k % 2 ^ 1)
          column k l =
              let inside : k % 2 < 2 = mod-lt k (omega arith) in
              (sides.each (k % 2) (omega arith)).value x at_net ∙ ap (λ t. bit_of (t == k % 2)) (lowest_bit (x.node number.0) level)

-- one bit more of its lower bits
module _ (older net new : Net) (number : Id) (level : ℕ) (needed : List Bool) (top low ids : List Id) (to_net : Grows older net) (to_new : Grows net new)
    (long_top : length top ≡ 2) (sides : AreSides older number level top)
    (long_low : length low ≡ 2 ^ level) (lows : AreColumns net number level low)
    (long : length ids ≡ 2 ^ (level + 1)) (all : (k : ℕ) → k < 2 ^ (level + 1) → IsNeeded needed k) (crossing : AreCrossed new top low level needed ids) where
  pub columns_doubled : AreColumns new number (level + 1) ids
  columns_doubled = record { each = λ k l. record { stands = crossing.stand.each k l; value = λ x s. value x s k l (all k (omega arith)) } }
    where
      value : (x : At) → Settles new x → (k : ℕ) → k < length ids → IsNeeded needed k → x.node (at ids k).0 ≡ bit_of (x.node number.0 % 2 ^ (level + 1) == k)
      value x s = crossed_value new top low level needed ids crossing x s true (x.node number.0 % 2 ^ (level + 1)) row column
        where
          at_net : Settles net x
          at_net = to_new.settles x s

          rest : x.node number.0 % 2 ^ level < 2 ^ level
          rest = mod-lt (x.node number.0) (pow_pos level)

          row : (k : ℕ) → k < length ids → IsNeeded needed k → x.node (at top (k / 2 ^ level)).0 ≡ bit_of (x.node number.0 % 2 ^ (level + 1) / 2 ^ level == k / 2 ^ level)
          row k l t =
              let twice = doubled level in
              let inside : k / 2 ^ level < 2 = div_below k (2 ^ level) 2 (pow_pos level) (omega arith) in
              let quotient : x.node number.0 % 2 ^ (level + 1) / 2 ^ level ≡ part (x.node number.0) level level
              = ap (λ t. t / 2 ^ level) (by_top_bit (x.node number.0) level) ∙ div-mul-add (part (x.node number.0) level level) (2 ^ level) (x.node number.0 % 2 ^ level) rest in
              (sides.each (k / 2 ^ level) (omega arith)).value x (to_net.settles x at_net) ∙ ap (λ t. bit_of (t == k / 2 ^ level)) (sym quotient)

          column : (k : ℕ) → k < length ids → x.node (at low (k % 2 ^ level)).0 ≡ bit_of (x.node number.0 % 2 ^ (level + 1) % 2 ^ level == k % 2 ^ level)
          column k l =
              let inside : k % 2 ^ level < 2 ^ level = mod-lt k (pow_pos level) in
              let remainder : x.node number.0 % 2 ^ (level + 1) % 2 ^ level ≡ x.node number.0 % 2 ^ level
              = ap (λ t. t % 2 ^ level) (by_top_bit (x.node number.0) level) ∙ mod-mul-add (part (x.node number.0) level level) (2 ^ level) (x.node number.0 % 2 ^ level) rest in
              (lows.each (k % 2 ^ level) (omega arith)).value x at_net ∙ ap (λ t. bit_of (t == k % 2 ^ level)) (sym remainder)

-- the lowest bit
pub one_column : (net : Net) (number : Id) (level : ℕ) (ids : List Id) → level ≡ 0 → AreSides net number level ids → AreColumns net number (level + 1) ids
one_column net number level ids e h = record { each = λ k l. record { stands = (h.each k l).stands; value = λ x s. (h.each k l).value x s ∙ ap (λ t. bit_of (t == k)) (same (x.node number.0)) } }
  where
    same : (v : ℕ) → part v level level ≡ v % 2 ^ (level + 1)
    same v =
        let none : v % 2 ^ level ≡ 0 = ap (λ n. v % 2 ^ n) e ∙ mod-one v in
        let unit : part v level level * 2 ^ level ≡ part v level level = ap (λ n. part v level level * 2 ^ n) e ∙ omega arith in
        let whole = by_top_bit v level in
        omega arith

-- the upper bits and the lower ones
module _ (older net new : Net) (on number : Id) (count bits : ℕ) (needed wanted : List Bool) (rows columns ids : List Id) (to_net : Grows older net) (to_new : Grows net new)
    (some : count ≡ 0 → ⊥) (counted : length needed ≡ count) (are_wanted : AreNeeded needed bits wanted)
    (long_rows : length rows ≡ (count - 1) / 2 ^ bits + 1) (aboves : AreHitsAbove older on number (count - 1) bits wanted rows)
    (long_columns : length columns ≡ 2 ^ bits) (lows : AreColumns net number bits columns)
    (long : length ids ≡ count) (crossing : AreCrossed new rows columns bits needed ids) where
  pub hits_crossed : AreHits new on number needed ids
  hits_crossed = record { stand = crossing.stand; value = value }
    where
      value : (x : At) → Settles new x → (x.node on.0 ≡ 1 → x.node number.0 < length ids) → (k : ℕ) → k < length ids → IsNeeded needed k → x.node (at ids k).0 ≡ bit_of (x.node on.0 == 1 && x.node number.0 == k)
      value x s low = crossed_value new rows columns bits needed ids crossing x s (x.node on.0 == 1) (x.node number.0) row column
        where
          at_net : Settles net x
          at_net = to_new.settles x s

          row : (k : ℕ) → k < length ids → IsNeeded needed k → x.node (at rows (k / 2 ^ bits)).0 ≡ bit_of (x.node on.0 == 1 && x.node number.0 / 2 ^ bits == k / 2 ^ bits)
          row k l t =
              let inside : k / 2 ^ bits ≤ (count - 1) / 2 ^ bits = shr_mono bits (let b : k ≤ count - 1 = omega arith in b) in
              aboves.value x (to_net.settles x at_net) (λ e. let b = low e in omega arith) (k / 2 ^ bits) (omega arith) (are_wanted.each k (omega arith) t)

          column : (k : ℕ) → k < length ids → x.node (at columns (k % 2 ^ bits)).0 ≡ bit_of (x.node number.0 % 2 ^ bits == k % 2 ^ bits)
          column k l =
              let inside : k % 2 ^ bits < 2 ^ bits = mod-lt k (pow_pos bits) in
              (lows.each (k % 2 ^ bits) (omega arith)).value x at_net

pub whole_count : (count bits rows : ℕ) → (count ≡ 0 → ⊥) → bits ≡ 0 → rows ≡ (count - 1) / 2 ^ bits + 1 → rows ≡ count
whole_count count bits rows some e long = let one : (count - 1) / 2 ^ bits ≡ count - 1 = ap (λ n. (count - 1) / 2 ^ n) e ∙ div-one (count - 1) in omega arith

-- all bits
pub hits_whole : (net : Net) (on number : Id) (count bits : ℕ) (needed wanted : List Bool) (ids : List Id) → (count ≡ 0 → ⊥) → bits ≡ 0 → length needed ≡ count → AreNeeded needed bits wanted
    → length ids ≡ (count - 1) / 2 ^ bits + 1 → AreHitsAbove net on number (count - 1) bits wanted ids → AreHits net on number needed ids
hits_whole net on number count bits needed wanted ids some e counted are_wanted long h = record {
  stand = h.stand;
  value = λ x s low k l t.
      let is : length ids ≡ count = whole_count count bits (length ids) some e long in
      let row : IsNeeded wanted k = subst (λ m. IsNeeded wanted m) (same k) (are_wanted.each k (omega arith) t) in
      h.value x s (λ q. let b = low q in omega arith) k l row ∙ ap (λ m. bit_of (x.node on.0 == 1 && m == k)) (same (x.node number.0));
}
  where
    same : (m : ℕ) → m / 2 ^ bits ≡ m
    same m = ap (λ n. m / 2 ^ n) e ∙ div-one m

-- rows for all numbers below a count
pub enough_rows : (count p : ℕ) → 0 < p → count ≤ ((count - 1) / p + 1) * p
enough_rows count p some =
    let whole : (count - 1) / p * p + (count - 1) % p ≡ count - 1 = div-add-mod' (count - 1) p in
    let rest : (count - 1) % p < p = mod-lt (count - 1) some in
    omega arith

pub some_count : (count : ℕ) → 0 < count → count ≡ 0 → ⊥
some_count count some e = absurd (omega arith)

pub hits_none : (net : Net) (on number : Id) (needed : List Bool) (ids : List Id) → ids ≡ [] → AreHits net on number needed ids
hits_none net on number needed ids e = let z : length ids ≡ 0 = ap length e in record { stand = record { each = λ k l. absurd (omega arith) }; value = λ x s low k l t. absurd (omega arith) }

-- a number of at most 16 bits
pub few_bits : (n : ℕ) → n < 65536 → 64 - count_leading_zeros 64 n ≤ 16
few_bits n l =
    let r = leading_length 64 n (let fits : n < 2 ^ 64 = omega arith in fits) in
    let sum : count_leading_zeros 64 n + r.0 ≡ 64 = r.1 in
    let least : 2 ^ r.0 ≤ 2 * n + 1 = r.3 in
    elim (split r.0) [
      | inl below ↦ omega arith
      | inr above ↦ let p : 2 ^ 17 ≤ 2 ^ r.0 = pow-le-pow_right (omega arith) above in absurd (omega arith)
    ]
  where
    split : (m : ℕ) → (m < 17) ⊎ (17 ≤ m)
    split m = grind arith
