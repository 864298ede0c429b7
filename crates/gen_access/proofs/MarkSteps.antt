-- Marks of fields, slot by slot and over all words.
use Rattle.std.proofs.Common.{◌≡◌, ◌≢◌, ℕ, ◌+◌, ◌<◌, ◌==◌, nat_lt, Bool, true, false, ◌&&◌, ◌||◌, if◌then◌else◌, Some, List, [], ◌∷◌, ◌++◌, length, fold, slice_get, refl, sym, ap, ◌∙◌, subst, arith, inl, inr, ◌⊎◌, replicate}
use Rattle.std.specs.List.{list_any}
use Rattle.std.specs.Option.{option_map_or}
use Rattle.std.proofs.lemmas.List.{get_or-replicate, length-replicate, length-append, get_or_append_left, get_or_at}
use Rattle.std.proofs.lemmas.Option.{slice_get_within}
use Rattle.plain_lemmas.proofs.Bools.{and-false as and_false, if-same as same_either}
use Rattle.plain_lemmas.proofs.Numbers.{below-nat_lt as within, same_or_other}
use Rattle.rtl_net.specs.Value.{bit_of}
use Rattle.rtl_net.specs.Net.{Net, Grows, IsNode, Stands}
use Rattle.rtl_net.specs.Ids.{at}
use Rattle.rtl_net.specs.declared.node.Id.{Id}
use Rattle.rtl_net.proofs.Nets.{fits_at}
use Rattle.rb_model.specs.declared.kinds.RefItem.TheVariants as item
use Rattle.rb_model.specs.declared.block.Block.{Block}
use Rattle.rb_model.specs.declared.block.Field.{Field}
use Rattle.rb_model.specs.declared.block.View.{View}
use Rattle.rb_model.specs.declared.block.Slot.{Slot}
use Rattle.rb_model.specs.Items.{Access, NoAccess, Read, Write, Now, ItemValues, made, reaches, shows, slots_of}
use Rattle.block_plan.specs.Behind.{IsThere}
use Rattle.gen_scene.specs.declared.base.Inlet.{Inlet}
use Rattle.gen_scene.specs.declared.items.Marks.{Marks}
use Rattle.block_plan.specs.Wanted.{is_wanted}
use Rattle.gen_scene.specs.Items.{AreMarks, mark_at}
use Rattle.gen_scene.specs.Worth.{IsWorth}
use Rattle.gen_access.specs.declared.touched.Strobe.{Strobe}
use Rattle.gen_access.specs.declared.touched.Strobe.TheVariants as mark
use Rattle.gen_access.specs.declared.touched.Touch.{Touch}
use Rattle.gen_access.specs.declared.touched.Touch.TheVariants as touch
use Rattle.gen_access.specs.Tables.{AreNodes, AreWorth}
use Rattle.gen_access.specs.Words.{is_at, written_word}
use Rattle.gen_access.specs.Touches.{ArePaired, IsReading, mark_item, mark_value, marks_step, one_bit, slot_mark, touch_reached, touch_words, touches}
use Rattle.gen_access.proofs.Puts.{shows_here, shows_other}

-- A slot

module _ (b : Block) (wanted : List Bool) (m : Strobe) (t : Touch) (s : Slot) (u : View) (here : slice_get b.views s.view ≡ Some u) where
  pub mark_other : (n : Now) (v : ItemValues) (k : ℕ) (f : Field) (x : ℕ) → k ≢ u.field → slot_mark b wanted m t n v k f x s ≡ x
  mark_other n v k f x ne =
      ap (λ c. if is_wanted wanted (mark_item m k) && c then 1 else x) (shows_other b s u here k (touches t) ne) ∙ ap (λ c. if c then 1 else x) (and_false (is_wanted wanted (mark_item m k)))

  pub unmarked : (is_wanted wanted (mark_item m u.field) && touches t u) ≡ false → (n : Now) (v : ItemValues) (k : ℕ) (f : Field) (x : ℕ) → slot_mark b wanted m t n v k f x s ≡ x
  unmarked off n v k f x = elim (same_or_other k u.field) [
    | inl p ↦ ap (λ j. if is_wanted wanted (mark_item m j) && shows b j (touches t) s then 1 else x) p.0
        ∙ ap (λ c. if is_wanted wanted (mark_item m u.field) && c then 1 else x) (shows_here b s u here (touches t)) ∙ ap (λ c. if c then 1 else x) off
    | inr p ↦ mark_other n v k f x p.0
  ]

  pub mark_put : (a : Inlet) (old new : Net) (hit was_at id : Id) → (is_wanted wanted (mark_item m u.field) && touches t u) ≡ true → Grows old new → IsNode new id 1 (λ x. bit_of (x.node hit.0 == 1 || x.node was_at.0 == 1))
      → (j : ℕ) (f : Field) (g : Now → ItemValues → ℕ) → IsWorth b a old hit 1 (λ n v. bit_of (is_at j (touch_reached t n.access))) → IsWorth b a old was_at 1 g
      → IsWorth b a new id 1 (λ n v. if is_at j (touch_reached t n.access) then slot_mark b wanted m t n v u.field f (g n v) s else g n v)
  mark_put a old new hit was_at id counts grows node j f g on was = record {
    stands = node.stands;
    value = λ x q n found items c.
        let q0 = grows.settles x q in
        let low : x.node was_at.0 < 2 = (let l = fits_at old x was_at 1 q0 was.stands in omega arith) in
        let makes : slot_mark b wanted m t n items u.field f (g n items) s ≡ 1 = ap (λ c. if is_wanted wanted (mark_item m u.field) && c then 1 else g n items) (shows_here b s u here (touches t)) ∙ ap (λ c. if c then 1 else g n items) counts in
        node.value x q
        ∙ marked (is_at j (touch_reached t n.access)) (x.node hit.0) (x.node was_at.0) (on.value x q0 n found items c) low
        ∙ ap (λ z. if is_at j (touch_reached t n.access) then 1 else z) (was.value x q0 n found items c)
        ∙ ap (λ z. if is_at j (touch_reached t n.access) then z else g n items) (sym makes);
  }
    where
      bit_again : (y : ℕ) → y < 2 → bit_of (y == 1) ≡ y
      bit_again y l = grind arith

      marked : (c : Bool) (h y : ℕ) → h ≡ bit_of c → y < 2 → bit_of (h == 1 || y == 1) ≡ (if c then 1 else y)
      marked true h y e l = rw e refl
      marked false h y e l = rw e (bit_again y l)

-- All words

mark_fold : (w : Bool) (t : Slot → Bool) (x : ℕ) (slots : List Slot) → fold (λ (x : ℕ) s. if w && t s then 1 else x) x slots ≡ (if w && list_any t slots then 1 else x)
mark_fold false t x [] = refl
mark_fold false t x (s ∷ ss) = mark_fold false t x ss
mark_fold true t x [] = refl
mark_fold true t x (s ∷ ss) = by (t s) (mark_fold true t x ss) (mark_fold true t 1 ss)
  where
    by : (c : Bool) → fold (λ (x : ℕ) s. if true && t s then 1 else x) x ss ≡ (if true && list_any t ss then 1 else x) → fold (λ (x : ℕ) s. if true && t s then 1 else x) 1 ss ≡ (if true && list_any t ss then 1 else 1)
        → fold (λ (x : ℕ) s. if true && t s then 1 else x) (if c then 1 else x) ss ≡ (if c || list_any t ss then 1 else x)
    by true p q = q ∙ same_either (list_any t ss) 1
    by false p q = p

if_bit : (w c : Bool) → (if w && c then 1 else 0) ≡ (if w then bit_of c else 0)
if_bit true true = refl
if_bit true false = refl
if_bit false c = refl

none_marked : (w : Bool) → 0 ≡ (if w then bit_of false else 0)
none_marked true = refl
none_marked false = refl

module _ (b : Block) (wanted : List Bool) (m : Strobe) where
  by_reads : (t : Touch) (n : Now) (v : ItemValues) (k : ℕ) (f : Field) (a : Access) → IsReading t → IsThere b a
      → option_map_or (λ i. if nat_lt i (length b.writes) then fold (slot_mark b wanted m touch.Writes n v k f)
      (option_map_or (λ i. if nat_lt i (length (touch_words b t)) then fold (slot_mark b wanted m t n v k f) 0 (slots_of (touch_words b t) i) else 0) (touch_reached t a) 0) (slots_of b.writes i)
      else option_map_or (λ i. if nat_lt i (length (touch_words b t)) then fold (slot_mark b wanted m t n v k f) 0 (slots_of (touch_words b t) i) else 0) (touch_reached t a) 0)
      (written_word a) (option_map_or (λ i. if nat_lt i (length (touch_words b t)) then fold (slot_mark b wanted m t n v k f) 0 (slots_of (touch_words b t) i) else 0) (touch_reached t a) 0)
      ≡ (if is_wanted wanted (mark_item m k) then bit_of (reaches b a k (touches t) (λ u. u.writes)) else 0)
  by_reads touch.ReadsWithEffect n v k f NoAccess r there = none_marked (is_wanted wanted (mark_item m k))
  by_reads touch.ReadsWithEffect n v k f (Read i) r there =
      ap (λ c. if c then fold (slot_mark b wanted m touch.ReadsWithEffect n v k f) 0 (slots_of b.reads i) else 0) (within i (length b.reads) there)
      ∙ mark_fold (is_wanted wanted (mark_item m k)) (shows b k (touches touch.ReadsWithEffect)) 0 (slots_of b.reads i) ∙ if_bit (is_wanted wanted (mark_item m k)) _
  by_reads touch.ReadsWithEffect n v k f (Write i d) r there =
      ap (λ c. if c then fold (slot_mark b wanted m touch.Writes n v k f) 0 (slots_of b.writes i) else 0) (within i (length b.writes) there)
      ∙ mark_fold (is_wanted wanted (mark_item m k)) (shows b k (touches touch.Writes)) 0 (slots_of b.writes i) ∙ if_bit (is_wanted wanted (mark_item m k)) _
  by_reads touch.Reads n v k f NoAccess r there = none_marked (is_wanted wanted (mark_item m k))
  by_reads touch.Reads n v k f (Read i) r there =
      ap (λ c. if c then fold (slot_mark b wanted m touch.Reads n v k f) 0 (slots_of b.reads i) else 0) (within i (length b.reads) there)
      ∙ mark_fold (is_wanted wanted (mark_item m k)) (shows b k (touches touch.Reads)) 0 (slots_of b.reads i) ∙ if_bit (is_wanted wanted (mark_item m k)) _
  by_reads touch.Reads n v k f (Write i d) r there =
      ap (λ c. if c then fold (slot_mark b wanted m touch.Writes n v k f) 0 (slots_of b.writes i) else 0) (within i (length b.writes) there)
      ∙ mark_fold (is_wanted wanted (mark_item m k)) (shows b k (touches touch.Writes)) 0 (slots_of b.writes i) ∙ if_bit (is_wanted wanted (mark_item m k)) _
  by_reads touch.Writes n v k f a r there = absurd r

  pub marks_from_none : (t : Touch) → IsReading t → (n : Now) (v : ItemValues) (k : ℕ) (f : Field) → IsThere b n.access → marks_step b wanted m t n v k f 0 ≡ (if is_wanted wanted (mark_item m k) then mark_value b t n k else 0)
  marks_from_none t r n v k f there = by_reads t n v k f n.access r there

pub marks_made : (b : Block) (a : Inlet) (net : Net) (table : List Id) (wanted : List Bool) (m : Strobe) (t : Touch) → IsReading t → AreWorth b a net table one_bit (λ k f n v. marks_step b wanted m t n v k f 0)
    → AreWorth b a net table one_bit (λ k f n v. if is_wanted wanted (mark_item m k) then mark_value b t n k else 0)
marks_made b a net table wanted m t reading h = record {
  each = λ k f e. let r = h.each k f e in record { stands = r.stands; value = λ x q n found items c. r.value x q n found items c ∙ marks_from_none b wanted m t reading n items k f found.there };
}

-- a table of one node
pub nodes_alone : (b : Block) (net : Net) (id : Id) (table : List Id) (count : ℕ) → Stands net id 1 → table ≡ replicate count id → count ≡ length b.fields → AreNodes b net table one_bit
nodes_alone b net id table count s e l = record { long = ap length e ∙ length-replicate count id ∙ l; each = λ k f h. subst (λ t. Stands net (at t k) 1) (sym e) (subst (λ i. Stands net i 1) (sym (get_or-replicate count k id (record { 0 = 0 }) (let g = slice_get_within b.fields k f h in omega arith))) s) }

pub worth_alone : (b : Block) (a : Inlet) (net : Net) (id : Id) (table : List Id) (count : ℕ) → IsNode net id 1 (λ x. 0) → table ≡ replicate count id → count ≡ length b.fields → AreWorth b a net table one_bit (λ k f n v. 0)
worth_alone b a net id table count s e l = record {
  each = λ k f h.
      let r : IsWorth b a net id 1 (λ n v. 0) = record { stands = s.stands; value = λ x q n found items c. s.value x q } in
      subst (λ t. IsWorth b a net (at t k) 1 (λ n v. 0)) (sym e) (subst (λ i. IsWorth b a net i 1 (λ n v. 0)) (sym (get_or-replicate count k id (record { 0 = 0 }) (let g = slice_get_within b.fields k f h in omega arith))) r);
}

-- both marks
pub paired_marks : (b : Block) (a : Inlet) (net : Net) (wanted : List Bool) (modified accessed : List Id) (all : List Marks) → length modified ≡ length b.fields → ArePaired modified accessed all
    → AreWorth b a net modified one_bit (λ k f n v. if is_wanted wanted (mark_item mark.Modified k) then mark_value b touch.ReadsWithEffect n k else 0)
    → AreWorth b a net accessed one_bit (λ k f n v. if is_wanted wanted (mark_item mark.Accessed k) then mark_value b touch.Reads n k else 0)
    → AreMarks b a net wanted all
paired_marks b a net wanted modified accessed all long pairs ms cs = record {
  long = pairs.long ∙ long;
  modified = λ k f h t.
      let p = (pairs.each k (let g = slice_get_within b.fields k f h in omega arith)).0 in
      let r = ms.each k f h in
      subst (λ i. IsWorth b a net i 1 (λ n v. made b n v (item.SwMod k))) (sym p) (record { stands = r.stands; value = λ x q n found items c. r.value x q n found items c ∙ ap (λ w. if w then mark_value b touch.ReadsWithEffect n k else 0) t });
  accessed = λ k f h t.
      let p = (pairs.each k (let g = slice_get_within b.fields k f h in omega arith)).1 in
      let r = cs.each k f h in
      subst (λ i. IsWorth b a net i 1 (λ n v. made b n v (item.SwAcc k))) (sym p) (record { stands = r.stands; value = λ x q n found items c. r.value x q n found items c ∙ ap (λ w. if w then mark_value b touch.Reads n k else 0) t });
}

-- the pairs of the first numbers
pub record PairedTo (modified accessed : List Id) (all : List Marks) (end : ℕ) : Type 0 where
  pub long : length all ≡ end
  pub each : (k : ℕ) → k < end → ((mark_at all k).modified ≡ at modified k) × ((mark_at all k).accessed ≡ at accessed k)

abbrev pub no_pair : Marks
no_pair = record { modified = record { 0 = 0 }; accessed = record { 0 = 0 } }

pub paired_more : (modified accessed : List Id) (all more : List Marks) (end : ℕ) (x y : Id) → PairedTo modified accessed all end → x ≡ at modified end → y ≡ at accessed end
    → more ≡ all ++ record { modified = x; accessed = y } ∷ [] → PairedTo modified accessed more (end + 1)
paired_more modified accessed all more end x y to ex ey e = record {
  long = ap length e ∙ length-append all (record { modified = x; accessed = y } ∷ []) ∙ (let l = to.long in omega arith);
  each = λ k l. elim (split k end l) [
    | inl p ↦
        let same : mark_at more k ≡ mark_at all k = ap (λ ms. mark_at ms k) e ∙ get_or_append_left all (record { modified = x; accessed = y } ∷ []) no_pair k (let z = to.long in omega arith) in
        let r = to.each k p in (ap (λ q. q.modified) same ∙ r.0, ap (λ q. q.accessed) same ∙ r.1)
    | inr p ↦
        let same : mark_at more end ≡ record { modified = x; accessed = y } = ap (λ ms. mark_at ms end) e ∙ get_or_at all (record { modified = x; accessed = y }) [] no_pair end to.long in
        let R : ℕ → Type 0 = λ k. ((mark_at more k).modified ≡ at modified k) × ((mark_at more k).accessed ≡ at accessed k) in
        subst R (sym p) (ap (λ q. q.modified) same ∙ ex, ap (λ q. q.accessed) same ∙ ey)
  ];
}
  where
    split : (k end : ℕ) → k < end + 1 → (k < end) ⊎ (k ≡ end)
    split k end l = grind arith
