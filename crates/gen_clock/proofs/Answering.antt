-- The read data, slot by slot and word by word.
use Rattle.std.proofs.Common.{◌≡◌, ℕ, suc, ◌+◌, ◌-◌, ◌*◌, ◌^◌, ◌<◌, ◌≤◌, ◌==◌, nat_lt, lt-ltb, bit_or, Bool, true, false, ◌||◌, if◌then◌else◌, Option, Some, None, List, [], ◌∷◌, ◌++◌, length, fold, take, slice_get, get_or, refl, sym, ap, ◌∙◌, subst, arith, inl, inr, ◌⊎◌}
use Rattle.std.specs.List.{list_any}
use Rattle.std.specs.Option.{option_map_or}
use Rattle.std.proofs.lemmas.List.{length-append, get_or_append_left, get_or_at, take_more, take_all}
use Rattle.std.specs.Int.Bits.{or_zero_l, or_zero_r}
use Rattle.plain_lemmas.proofs.Bools.{or-neither as or_false, same-if as same_either}
use Rattle.plain_lemmas.proofs.Lists.{fold-push}
use Rattle.plain_lemmas.proofs.Numbers.{below_next-or_same as split}
use Rattle.rb_base.specs.Bits.{part}
use Rattle.rtl_net.specs.Value.{At, bit_of}
use Rattle.rtl_net.specs.Net.{Net, Grows, IsNode, Stands}
use Rattle.rtl_net.specs.Ids.{at}
use Rattle.rtl_net.specs.declared.node.Id.{Id}
use Rattle.rtl_net.proofs.Nets.{Grows-refl, Grows-trans}
use Rattle.net_gates.specs.Gates.{or_of}
use Rattle.rb_model.specs.declared.kinds.RefItem.TheVariants as item
use Rattle.rb_model.specs.declared.block.Block.{Block}
use Rattle.rb_model.specs.declared.block.View.{View}
use Rattle.rb_model.specs.declared.block.Slot.{Slot}
use Rattle.rb_model.specs.declared.block.Word.{Word}
use Rattle.rb_model.specs.Items.{Access, NoAccess, Read, Write, ItemValues, slots_of}
use Rattle.rb_model.specs.Effects.{has_read_effect}
use Rattle.rb_model.specs.Machine.{read_data, slot_value}
use Rattle.rb_model.specs.Sound.{view_passes}
use Rattle.block_plan.specs.Behind.{IsThere}
use Rattle.gen_scene.specs.declared.base.Inlet.{Inlet}
use Rattle.gen_clock.specs.declared.stacks.Stack.{Stack}
use Rattle.gen_clock.specs.Stacks.{IsLaid, MayStack, stacked}
use Rattle.gen_scene.specs.Worth.{IsRead, IsWorth}
use Rattle.gen_scene.proofs.Worths.{IsWorth-grows, worth_read}
use Rattle.gen_access.specs.Words.{is_at, passes_some, read_word, reads_through}
use Rattle.gen_clock.specs.Edges.{IsAnswerOf, IsLaidOn, shown_by}

-- One slot

or_zero : (x : ℕ) → bit_or x 0 ≡ x
or_zero x = or_zero_r x

pub unread : (b : Block) (s : Slot) (u : View) (v : ItemValues) → slice_get b.views s.view ≡ Some u → u.reads ≡ false → (x : ℕ) → bit_or x (slot_value b v s) ≡ x
unread b s u v here off x =
    ap (λ o. bit_or x (option_map_or (λ w. if w.reads then part (v (item.Field w.field)) (s.from + s.bits - 1) s.from * 2 ^ s.low else 0) o 0)) here
    ∙ ap (λ c. bit_or x (if c then part (v (item.Field u.field)) (s.from + s.bits - 1) s.from * 2 ^ s.low else 0)) off ∙ or_zero x

pub slot_unread : (b : Block) (a : Inlet) (net : Net) (stack : Option Stack) (s : Slot) (u : View) → MayStack net 32 stack → slice_get b.views s.view ≡ Some u → u.reads ≡ false
    → IsLaidOn b a net net stack stack (λ v. slot_value b v s)
slot_unread b a net stack s u may here off = record {
  may = may;
  read = λ g at. record { value = λ x q n found items c. at.value x q n found items c ∙ sym (unread b s u items here off (g n items)) };
}

pub slot_made : (b : Block) (a : Inlet) (old n1 new : Net) (s : Slot) (u : View) (value bits : Id) (before : Option Stack) (after : Stack) (w : ℕ) → 0 < s.bits → slice_get b.views s.view ≡ Some u → u.reads ≡ true
    → Grows old n1 → Grows n1 new
    → IsWorth b a old value w (λ n v. v (item.Field u.field))
    → IsNode n1 bits (s.from + (s.bits - 1) - s.from + 1) (λ x. part (x.node value.0) (s.from + (s.bits - 1)) s.from)
    → IsLaid new before bits s.low after → after.top ≤ 32
    → IsLaidOn b a old new before (Some after) (λ v. slot_value b v s)
slot_made b a old n1 new s u value bits before after w some here on h1 h2 at cut laid within = record {
  may = (laid.stack, within);
  read = λ g was. record {
    value = λ x q n found items c.
        let q1 = h2.settles x q in
        let q0 = h1.settles x q1 in
        let e : s.from + (s.bits - 1) ≡ s.from + s.bits - 1 = omega (arith, some) in
        let cut_is : x.node bits.0 ≡ part (items (item.Field u.field)) (s.from + s.bits - 1) s.from
        = cut.value x q1 ∙ ap (λ y. part y (s.from + (s.bits - 1)) s.from) (at.value x q0 n found items c) ∙ ap (λ h. part (items (item.Field u.field)) h s.from) e in
        let is : slot_value b items s ≡ part (items (item.Field u.field)) (s.from + s.bits - 1) s.from * 2 ^ s.low
        = ap (λ o. option_map_or (λ w. if w.reads then part (items (item.Field w.field)) (s.from + s.bits - 1) s.from * 2 ^ s.low else 0) o 0) here
        ∙ ap (λ c. if c then part (items (item.Field u.field)) (s.from + s.bits - 1) s.from * 2 ^ s.low else 0) on in
        laid.value x q
        ∙ ap (λ y. bit_or y (x.node bits.0 * 2 ^ s.low)) (was.value x q0 n found items c)
        ∙ ap (λ y. bit_or (g n items) y) (ap (λ y. y * 2 ^ s.low) cut_is ∙ sym is);
  };
}

-- The slots of a word

pub record DataTo (b : Block) (a : Inlet) (first net : Net) (stack : Option Stack) (slots : List Slot) (end : ℕ) : Type 0 where
  pub older : Grows first net
  pub name : net.name ≡ first.name
  pub may : MayStack net 32 stack
  pub read : IsRead b a net (λ x. stacked x stack) (λ n v. shown_by b v (take end slots))

pub data_none : (b : Block) (a : Inlet) (net : Net) (slots : List Slot) → DataTo b a net net None slots 0
data_none b a net slots = record { older = Grows-refl net; name = refl; may = tt; read = record { value = λ x q n found items c. refl } }

pub data_more : (b : Block) (a : Inlet) (first net new : Net) (stack next : Option Stack) (slots : List Slot) (end : ℕ) (d : Slot) → end < length slots → DataTo b a first net stack slots end → Grows net new → new.name ≡ net.name
    → IsLaidOn b a net new stack next (λ v. slot_value b v (get_or slots end d)) → DataTo b a first new next slots (end + 1)
data_more b a first net new stack next slots end d low to h e laid = record {
  older = Grows-trans first net new to.older h;
  name = e ∙ to.name;
  may = laid.may;
  read =
      let r = laid.read (λ n v. shown_by b v (take end slots)) to.read in
      record {
        value = λ x q n found items c. r.value x q n found items c
            ∙ sym (ap (fold (λ acc s. bit_or acc (slot_value b items s)) 0) (take_more slots end d low) ∙ fold-push (λ acc s. bit_or acc (slot_value b items s)) 0 (take end slots) (get_or slots end d));
      };
}

pub data_all : (b : Block) (a : Inlet) (first net new : Net) (stack : Option Stack) (id : Id) (slots whole : List Slot) (end : ℕ) → slots ≡ whole → length slots ≤ end → DataTo b a first net stack slots end
    → Grows net new → IsNode new id 32 (λ x. stacked x stack) → IsWorth b a new id 32 (λ n v. shown_by b v whole)
data_all b a first net new stack id slots whole end same past to h node =
    worth_read b a net new id 32 (λ x. stacked x stack) (λ n v. shown_by b v whole) h node
    (subst (λ ss. IsRead b a net (λ x. stacked x stack) (λ n v. shown_by b v ss)) (take_all end slots past ∙ same) to.read)

-- slots of which none is read show nothing
nothing_read : (b : Block) (v : ItemValues) (slots : List Slot) → passes_some b reads_through slots ≡ false → shown_by b v slots ≡ 0
nothing_read b v slots h = all slots 0 h
  where
    value : Slot → View → ℕ
    value s w = part (v (item.Field w.field)) (s.from + s.bits - 1) s.from * 2 ^ s.low

    one : (s : Slot) (o : Option View) → option_map_or reads_through o false ≡ false → option_map_or (λ w. if w.reads then value s w else 0) o 0 ≡ 0
    one s None h = refl
    one s (Some w) h = rw (or_false w.reads (has_read_effect w.on_read) h).0 refl

    all : (slots : List Slot) (acc : ℕ) → list_any (view_passes b reads_through) slots ≡ false → fold (λ acc s. bit_or acc (slot_value b v s)) acc slots ≡ acc
    all [] acc h = refl
    all (s ∷ ss) acc h =
        let p = or_false (view_passes b reads_through s) (list_any (view_passes b reads_through) ss) h in
        ap (λ y. fold (λ acc s. bit_or acc (slot_value b v s)) (bit_or acc y) ss) (one s (slice_get b.views s.view) p.0)
        ∙ ap (λ y. fold (λ acc s. bit_or acc (slot_value b v s)) y ss) (or_zero acc)
        ∙ all ss acc p.1

pub chosen : (b : Block) (a : Inlet) (old net new : Net) (hit all none id : Id) (slots : List Slot) (w : ℕ) → w ≡ 32 → Grows old net → Grows net new → IsWorth b a net all 32 (λ n v. shown_by b v slots) → IsNode net none 32 (λ x. 0)
    → IsNode new id w (λ x. if x.node hit.0 == 1 then x.node all.0 else x.node none.0) → IsAnswerOf b a old new hit slots id
chosen b a old net new hit all none id slots w wide h1 h2 at zeros node = record {
  stands = subst (Stands new id) wide node.stands;
  worth = λ j on. record {
    stands = subst (Stands new id) wide node.stands;
    value = λ x q n found items c.
        let q1 = h2.settles x q in
        node.value x q
        ∙ ap (λ y. if x.node hit.0 == 1 then y else x.node none.0) (at.value x q1 n found items c)
        ∙ ap (λ y. if x.node hit.0 == 1 then shown_by b items slots else y) (zeros.value x q1)
        ∙ by_hit (passes_some b reads_through slots) (is_at j (read_word n.access)) (x.node hit.0) (shown_by b items slots)
        (λ t. (on t).value x (h1.settles x q1) n found items c) (nothing_read b items slots);
  };
}
  where
    by_hit : (some c : Bool) (h y : ℕ) → (some ≡ true → h ≡ bit_of c) → (some ≡ false → y ≡ 0) → (if h == 1 then y else 0) ≡ (if c then y else 0)
    by_hit true true h y e z = rw (e refl) refl
    by_hit true false h y e z = rw (e refl) refl
    by_hit false c h y e z = rw (z refl) (sym (same_either (h == 1) 0) ∙ same_either c 0)

-- All words

-- the answers of the first words
pub record AnswersTo (b : Block) (a : Inlet) (first net : Net) (ids : List Id) (words : List Word) (end : ℕ) : Type 0 where
  pub older : Grows first net
  pub name : net.name ≡ first.name
  pub long : length ids ≡ end
  pub each : (k : ℕ) → k < end → IsWorth b a net (at ids k) 32 (λ n v. if is_at k (read_word n.access) then shown_by b v (slots_of words k) else 0)

pub answers_none : (b : Block) (a : Inlet) (net : Net) (ids : List Id) (words : List Word) → ids ≡ [] → AnswersTo b a net net ids words 0
answers_none b a net ids words e = record { older = Grows-refl net; name = refl; long = ap length e; each = λ k l. absurd (omega arith) }

pub answers_more : (b : Block) (a : Inlet) (first net new : Net) (ids more : List Id) (words : List Word) (end : ℕ) (word : Word) (hit id : Id) → slice_get words end ≡ Some word → AnswersTo b a first net ids words end
    → Grows net new → new.name ≡ net.name → IsAnswerOf b a net new hit word.slots id → (passes_some b reads_through word.slots ≡ true → IsWorth b a net hit 1 (λ n v. bit_of (is_at end (read_word n.access)))) → more ≡ ids ++ id ∷ [] → AnswersTo b a first new more words (end + 1)
answers_more b a first net new ids more words end word hit id here to h e answer on added = record {
  older = Grows-trans first net new to.older h;
  name = e ∙ to.name;
  long = ap length added ∙ length-append ids (id ∷ []) ∙ (let l = to.long in omega arith);
  each = λ k l. elim (split k end l) [
    | inl p ↦ subst (λ i. IsWorth b a new i 32 (λ n v. if is_at k (read_word n.access) then shown_by b v (slots_of words k) else 0))
        (sym (ap (λ t. at t k) added ∙ get_or_append_left ids (id ∷ []) (record { 0 = 0 }) k (let z = to.long in omega arith)))
        (IsWorth-grows b a net new (at ids k) 32 (λ n v. if is_at k (read_word n.access) then shown_by b v (slots_of words k) else 0) h (to.each k p))
    | inr p ↦
        let slots : slots_of words end ≡ word.slots = ap (λ o. option_map_or (λ w. w.slots) o []) here in
        let r = subst (λ ss. IsWorth b a new id 32 (λ n v. if is_at end (read_word n.access) then shown_by b v ss else 0)) (sym slots) (answer.worth end on) in
        let R : ℕ → Type 0 = λ k. IsWorth b a new (at more k) 32 (λ n v. if is_at k (read_word n.access) then shown_by b v (slots_of words k) else 0) in
        subst R (sym p) (subst (λ i. IsWorth b a new i 32 (λ n v. if is_at end (read_word n.access) then shown_by b v (slots_of words end) else 0))
        (sym (ap (λ t. at t end) added ∙ get_or_at ids id [] (record { 0 = 0 }) end to.long)) r)
  ];
}

or_left : (x : ℕ) → bit_or 0 x ≡ x
or_left x = or_zero_l x

-- of nodes of which one alone, if any, isn't 0
or_one : (x : At) (ids : List Id) (o : ℕ) (i : Option ℕ) (D : ℕ → ℕ) → ((k : ℕ) → k < length ids → x.node (at ids k).0 ≡ (if is_at (o + k) i then D (o + k) else 0))
    → or_of x ids ≡ option_map_or (λ j. if nat_lt j o then 0 else (if nat_lt j (o + length ids) then D j else 0)) i 0
or_one x [] o None D h = refl
or_one x [] o (Some j) D h = let e : o + 0 ≡ o = omega arith in rw e (never (nat_lt j o) (D j))
  where
    never : (c : Bool) (y : ℕ) → 0 ≡ (if c then 0 else (if c then y else 0))
    never true y = refl
    never false y = refl
or_one x (id ∷ ids) o i D h =
    let zero_plus : o + 0 ≡ o = omega arith in
    let first : x.node id.0 ≡ (if is_at o i then D o else 0) = h 0 (omega arith) ∙ ap (λ k. if is_at k i then D k else 0) zero_plus in
    let rest : or_of x ids ≡ option_map_or (λ j. if nat_lt j (o + 1) then 0 else (if nat_lt j (o + 1 + length ids) then D j else 0)) i 0
    = or_one x ids (o + 1) i D (λ k l. h (suc k) (omega arith) ∙ ap (λ m. if is_at m i then D m else 0) (let z : o + suc k ≡ o + 1 + k = omega arith in z)) in
    ap (λ y. bit_or y (or_of x ids)) first ∙ ap (λ y. bit_or (if is_at o i then D o else 0) y) rest ∙ join i (length ids)
  where
    where_is : (j o l : ℕ) → ((j ≡ o) × ((j == o) ≡ true) × (nat_lt j o ≡ false) × (nat_lt j (o + 1) ≡ true) × (nat_lt j (o + suc l) ≡ true))
        ⊎ (((j == o) ≡ false) × (nat_lt j (o + 1) ≡ nat_lt j o) × (nat_lt j (o + 1 + l) ≡ nat_lt j (o + suc l)))
    where_is j o l = grind arith

    join : (i : Option ℕ) (l : ℕ) → bit_or (if is_at o i then D o else 0) (option_map_or (λ j. if nat_lt j (o + 1) then 0 else (if nat_lt j (o + 1 + l) then D j else 0)) i 0)
        ≡ option_map_or (λ j. if nat_lt j o then 0 else (if nat_lt j (o + suc l) then D j else 0)) i 0
    join None l = or_left 0
    join (Some j) l = elim (where_is j o l) [
      | inl p ↦ rw (p.1, p.2, p.3, p.4) (or_zero (D o) ∙ ap D (sym p.0))
      | inr p ↦ rw (p.0, p.1, p.2) (or_left (if nat_lt j o then 0 else (if nat_lt j (o + suc l) then D j else 0)))
    ]

pub answered : (b : Block) (a : Inlet) (net new : Net) (ids : List Id) (id : Id) (h : Grows net new) → length ids ≡ length b.reads
    → ((k : ℕ) → k < length b.reads → IsWorth b a net (at ids k) 32 (λ n v. if is_at k (read_word n.access) then shown_by b v (slots_of b.reads k) else 0))
    → IsNode new id 32 (λ x. or_of x ids) → IsWorth b a new id 32 (λ n v. read_data b v n.access)
answered b a net new ids id h long each node = record {
  stands = node.stands;
  value = λ x q n found items c.
      node.value x q
      ∙ or_one x ids 0 (read_word n.access) (λ k. shown_by b items (slots_of b.reads k))
      (λ k l. (each k (omega arith)).value x (h.settles x q) n found items c ∙ ap (λ m. if is_at m (read_word n.access) then shown_by b items (slots_of b.reads m) else 0) (let z : k ≡ 0 + k = omega arith in z))
      ∙ by items n.access found.there;
}
  where
    by : (items : ItemValues) (acc : Access) → IsThere b acc → option_map_or (λ j. if nat_lt j 0 then 0 else (if nat_lt j (0 + length ids) then shown_by b items (slots_of b.reads j) else 0)) (read_word acc) 0 ≡ read_data b items acc
    by items NoAccess t = refl
    by items (Write i d) t = refl
    by items (Read i) t =
        let low : nat_lt i 0 ≡ false = grind arith in
        let z : 0 + length ids ≡ length b.reads = omega arith in
        let high : nat_lt i (length b.reads) ≡ true = lt-ltb i (length b.reads) t in
        rw (low, z, high) refl
