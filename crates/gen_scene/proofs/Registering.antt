-- The registers of what the fields keep, one after another.
use Rattle.std.proofs.Common.{◌≡◌, ℕ, zero, suc, ◌+◌, ◌<◌, ◌≤◌, Bool, true, false, ◌||◌, if◌then◌else◌, Some, List, [], ◌∷◌, ◌++◌, length, map, take, slice_get, get_or, refl, sym, ap, ◌∙◌, subst, arith, inl, inr, append_assoc}
use Rattle.std.specs.Prelude.{Contains}
use Rattle.std.specs.List.{list_any}
use Rattle.std.specs.Str.{bytes_eq}
use Rattle.std.proofs.lemmas.List.{length-append, length-map, map-append, take_more}
use Rattle.std.proofs.lemmas.Option.{same_Some, slice_get_within, slice_get-get_or, get_or_from_slice_get}
use Rattle.plain_lemmas.proofs.Lists.{get-behind as behind, get-front_of as front, get-map_at as mapped_at, get-taken as taken_at, map-map as mapped}
use Rattle.plain_lemmas.proofs.Numbers.{below_next-same_or as same_or_below}
use Rattle.rb_base.specs.declared.ports.Pin.{Pin}
use Rattle.v_design.specs.WellFormed.{distinct}
use Rattle.rtl_net.specs.Names.{Lacks}
use Rattle.rtl_net.specs.Value.{under}
use Rattle.rtl_net.specs.Net.{Net, Awaits, Extends, Keeps, IsNode, registers_of, undriven}
use Rattle.rtl_net.specs.Ids.{at}
use Rattle.rtl_net.specs.Ports.{IsNew, seat_names}
use Rattle.rtl_net.specs.declared.node.Id.{Id}
use Rattle.rtl_net.proofs.Nets.{Extends-refl, Extends-trans, Keeps-refl, Keeps-trans, IsNode-extends}
use Rattle.rb_model.specs.declared.block.Block.{Block}
use Rattle.rb_model.specs.Kept.{Kept, Waited, Data, Error, has_wait, kept, kept_pins, register_name, register_width, field_kept, kept_pin}
use Rattle.rb_model.specs.Ports.{ports}
use Rattle.rb_model.specs.Sound.{IsSound}
use Rattle.rb_model.proofs.Apart.{Apart-from, Apart-place, bytes_eq-to}
use Rattle.rb_model.proofs.OwnViews.{by_cases}
use Rattle.block_plan.specs.declared.plan.Plan.{Plan}
use Rattle.block_plan.specs.declared.kept.KeptValue.{KeptValue}
use Rattle.block_plan.specs.Kept.{kept_seen}
use Rattle.block_plan.specs.Plan.{IsPlanOf}
use Rattle.gen_scene.specs.declared.base.Inlet.{Inlet}
use Rattle.gen_scene.specs.Bases.{HasKept, HasPins, reset_of}
use Rattle.gen_scene.proofs.ResetPins.{under_held}

-- Lists

none_in : {X : Type 0} (test : X → Bool) (xs : List X) → ((k : ℕ) (x : X) → slice_get xs k ≡ Some x → test x ≡ false) → list_any test xs ≡ false
none_in test [] h = refl
none_in test (x ∷ xs) h = let e : test x ≡ false = h 0 x refl in rw e (none_in test xs (λ k y f. h (suc k) y f))

none_both : {X : Type 0} (test : X → Bool) (xs ys : List X) → list_any test xs ≡ false → list_any test ys ≡ false → list_any test (xs ++ ys) ≡ false
none_both test [] ys a b = b
none_both test (x ∷ xs) ys a b = by_cases (test x) (λ t. absurd (let q : true ≡ false = sym (ap (λ c. c || list_any test xs) t) ∙ a in cc)) (λ f. rw f (none_both test xs ys (sym (ap (λ c. c || list_any test xs) f) ∙ a) b))

-- The names of the kept values of fields differ

name_place : (b : Block) (k : Kept) (j : ℕ) → slice_get (field_kept b) j ≡ Some k → slice_get (map (λ p. p.name) (ports b) ++ map (λ p. p.name) (kept_pins b)) (length (map (λ p. p.name) (ports b)) + j) ≡ Some (register_name b k)
name_place b k j here =
    behind (map (λ p. p.name) (ports b)) (map (λ p. p.name) (kept_pins b)) j
    ∙ mapped_at (λ (p : Pin). p.name) (kept_pins b) j (kept_pin b k) (mapped_at (kept_pin b) (kept b) j k (front (field_kept b) (if has_wait b then Waited ∷ Data ∷ Error ∷ [] else []) k j here))

pub one_place : (b : Block) → distinct (map (λ p. p.name) (ports b) ++ map (λ p. p.name) (kept_pins b)) ≡ true → (i j : ℕ) (k m : Kept) → slice_get (field_kept b) i ≡ Some k → slice_get (field_kept b) j ≡ Some m → register_name b k ≡ register_name b m → i ≡ j
one_place b apart i j k m at_i at_j same =
    let names = map (λ p. p.name) (ports b) ++ map (λ p. p.name) (kept_pins b) in
    let start = length (map (λ p. p.name) (ports b)) in
    let e : start + i ≡ start + j = Apart-place names (start + i) (start + j) (register_name b m) (Apart-from names apart) (name_place b k i at_i ∙ ap Some same) (name_place b m j at_j) in
    omega (arith, e)

-- the registers up to a place are added
pub record RegistersTo (b : Block) (p : Plan) (pins : List Id) (first net : Net) (ids : List Id) (end : ℕ) : Type 0 where
  pub older : Extends first net
  pub name : net.name ≡ first.name
  pub keeps : Keeps first net
  pub seats : net.seats ≡ first.seats
  pub registers : registers_of net.nodes ≡ registers_of first.nodes ++ map (kept_pin b) (take end (field_kept b))
  pub undriven : undriven net.nodes ≡ undriven first.nodes + end
  pub long : length ids ≡ end
  pub awaits : (j : ℕ) (k : Kept) → j < end → slice_get (field_kept b) j ≡ Some k → Awaits net (at ids j) (register_name b k) (register_width b k) (reset_of b p pins k)
  pub nodes : (j : ℕ) (k : Kept) → j < end → slice_get (field_kept b) j ≡ Some k → IsNode net (at ids j) (register_width b k) (λ v. under v.node (reset_of b p pins k) (v.kept (register_name b k)))

append_nil : {X : Type 0} (xs : List X) → xs ≡ xs ++ []
append_nil [] = refl
append_nil (x ∷ xs) = ap (λ ys. x ∷ ys) (append_nil xs)

pub none_yet : (b : Block) (p : Plan) (pins : List Id) (net : Net) → RegistersTo b p pins net net [] 0
none_yet b p pins net = record {
  older = Extends-refl net;
  name = refl;
  keeps = Keeps-refl net;
  seats = refl;
  registers = append_nil (registers_of net.nodes);
  undriven = omega arith;
  long = refl;
  awaits = λ j k low here. absurd (omega (arith, low));
  nodes = λ j k low here. absurd (omega (arith, low));
}

-- the next name is new
pub next_new : (b : Block) (p : Plan) (pins : List Id) (first net : Net) (ids : List Id) (end : ℕ) (k : Kept) → distinct (map (λ p. p.name) (ports b) ++ map (λ p. p.name) (kept_pins b)) ≡ true → RegistersTo b p pins first net ids end
    → slice_get (field_kept b) end ≡ Some k → IsNew first (register_name b k) → IsNew net (register_name b k)
next_new b p pins first net ids end k apart sofar here new = record {
  seats = subst (λ ss. Lacks (seat_names ss) (register_name b k)) (sym sofar.seats) new.seats;
  registers = subst (λ rs. Lacks (map (λ r. r.name) rs) (register_name b k)) (sym sofar.registers)
      (subst (λ ns. Lacks ns (register_name b k)) (sym (map-append (λ (r : Pin). r.name) (registers_of first.nodes) (map (kept_pin b) (take end (field_kept b))) ∙ ap (λ ns. map (λ r. r.name) (registers_of first.nodes) ++ ns) (mapped (λ (r : Pin). r.name) (kept_pin b) (take end (field_kept b)))))
      (none_both (bytes_eq (register_name b k)) (map (λ r. r.name) (registers_of first.nodes)) (map (register_name b) (take end (field_kept b))) new.registers (none_mapped (take end (field_kept b)) (λ i m at_i.
      let r = taken_at (field_kept b) end i m at_i in
      by_cases (bytes_eq (register_name b k) (register_name b m)) (λ t.
      let e : end ≡ i = one_place b apart end i k m here r.1 (bytes_eq-to (register_name b k) (register_name b m) t) in
      absurd (omega (arith, e, r.0))) (λ f. f)))));
}
  where
    none_mapped : (ks : List Kept) → ((i : ℕ) (m : Kept) → slice_get ks i ≡ Some m → bytes_eq (register_name b k) (register_name b m) ≡ false) → list_any (bytes_eq (register_name b k)) (map (register_name b) ks) ≡ false
    none_mapped [] h = refl
    none_mapped (m ∷ ks) h = let e : bytes_eq (register_name b k) (register_name b m) ≡ false = h 0 m refl in rw e (none_mapped ks (λ i q f. h (suc i) q f))

at_front : (ids : List Id) (id : Id) (j : ℕ) → j < length ids → at (ids ++ id ∷ []) j ≡ at ids j
at_front [] id j low = absurd (omega (arith, low))
at_front (x ∷ ids) id zero low = refl
at_front (x ∷ ids) id (suc j) low = at_front ids id j (omega (arith, low))

at_last : (ids : List Id) (id : Id) → at (ids ++ id ∷ []) (length ids) ≡ id
at_last [] id = refl
at_last (x ∷ ids) id = at_last ids id

-- one register more
pub one_register : (b : Block) (p : Plan) (pins : List Id) (first net new : Net) (ids ids' : List Id) (end : ℕ) (k : Kept) (id : Id) → RegistersTo b p pins first net ids end → slice_get (field_kept b) end ≡ Some k → ids' ≡ ids ++ id ∷ []
    → Extends net new → new.name ≡ net.name → Keeps net new → new.seats ≡ net.seats → registers_of new.nodes ≡ registers_of net.nodes ++ kept_pin b k ∷ [] → undriven new.nodes ≡ undriven net.nodes + 1
    → Awaits new id (register_name b k) (register_width b k) (reset_of b p pins k) → IsNode new id (register_width b k) (λ v. under v.node (reset_of b p pins k) (v.kept (register_name b k))) → RegistersTo b p pins first new ids' (end + 1)
one_register b p pins first net new ids ids' end k id sofar here pushed older name keeps seats registers driven awaits node = record {
  older = Extends-trans first net new sofar.older older;
  name = name ∙ sofar.name;
  keeps = Keeps-trans first net new sofar.keeps keeps;
  seats = seats ∙ sofar.seats;
  registers =
      registers ∙ ap (λ rs. rs ++ kept_pin b k ∷ []) sofar.registers ∙ append_assoc (registers_of first.nodes) (map (kept_pin b) (take end ks)) (kept_pin b k ∷ [])
      ∙ ap (λ rs. registers_of first.nodes ++ rs) (sym (ap (map (kept_pin b)) (take_more ks end k low ∙ ap (λ y. take end ks ++ y ∷ []) (get_or_from_slice_get ks end k k here)) ∙ map-append (kept_pin b) (take end ks) (k ∷ [])));
  undriven = driven ∙ ap (λ n. n + 1) sofar.undriven ∙ assoc (undriven first.nodes) end;
  long = ap length pushed ∙ length-append ids (id ∷ []) ∙ ap (λ n. n + 1) sofar.long;
  awaits = λ j m l at_j. elim (same_or_below j end l) [
    | inl e ↦ rw (sym (same j m e at_j), pushed_last j e) awaits
    | inr b ↦ rw (pushed_front j b) (keeps.awaits _ _ _ _ (sofar.awaits j m b at_j))
  ];
  nodes = λ j m l at_j. elim (same_or_below j end l) [
    | inl e ↦ rw (sym (same j m e at_j), pushed_last j e) node
    | inr b ↦ rw (pushed_front j b) (IsNode-extends net new _ _ _ older (sofar.nodes j m b at_j))
  ];
}
  where
    ks : List Kept
    ks = field_kept b

    low : end < length (field_kept b)
    low = slice_get_within (field_kept b) end k here

    assoc : (a c : ℕ) → a + c + 1 ≡ a + (c + 1)
    assoc a c = omega arith

    same : (j : ℕ) (m : Kept) → j ≡ end → slice_get (field_kept b) j ≡ Some m → k ≡ m
    same j m e at_j = same_Some k m (sym here ∙ (ap (slice_get (field_kept b)) (sym e) ∙ at_j))

    pushed_last : (j : ℕ) → j ≡ end → at ids' j ≡ id
    pushed_last j e = ap (λ xs. at xs j) pushed ∙ ap (at (ids ++ id ∷ [])) (e ∙ sym sofar.long) ∙ at_last ids id

    pushed_front : (j : ℕ) → j < end → at ids' j ≡ at ids j
    pushed_front j b = ap (λ xs. at xs j) pushed ∙ at_front ids id j (omega (arith, b, sofar.long))

-- what the registers are worth
pub kept_worths : (b : Block) → IsSound b → (p : Plan) → IsPlanOf b p → (net : Net) (pins ids : List Id) → HasPins b net pins → length ids ≡ length (field_kept b)
    → ((j : ℕ) (k : Kept) → slice_get (field_kept b) j ≡ Some k → IsNode net (at ids j) (register_width b k) (λ v. under v.node (reset_of b p pins k) (v.kept (register_name b k)))) → (a : Inlet) → HasKept b a net ids
kept_worths b sound p planned net pins ids has long nodes a = record {
  long = long;
  each = λ j k here.
      let node = nodes j k here in
      let among : Contains (field_kept b) k = (j, slice_get_within (field_kept b) j k here, get_or_from_slice_get (field_kept b) j k k here) in
      record {
        stands = node.stands;
        value = λ v s n found items valued. node.value v s ∙ under_held b sound p planned net pins has a k among v s n found items valued (λ q. v.kept (register_name b q)) ∙ sym (found.kept k among);
      };
}

-- a kept value of the plan
pub kept_at : (b : Block) (p : Plan) → IsPlanOf b p → (items : List KeptValue) (i : ℕ) (d : KeptValue) → items ≡ p.kept.all.items → i < length items → slice_get (field_kept b) i ≡ Some (kept_seen (get_or items i d))
kept_at b p planned items i d same low = ap (λ ks. slice_get ks i) (sym planned.kept.all) ∙ mapped_at kept_seen p.kept.all.items i (get_or items i d) (ap (λ xs. slice_get xs i) (sym same) ∙ slice_get-get_or items i d low)

pub kept_among : (b : Block) (i : ℕ) (k : Kept) → slice_get (field_kept b) i ≡ Some k → Contains (field_kept b) k
kept_among b i k here = (i, slice_get_within (field_kept b) i k here, get_or_from_slice_get (field_kept b) i k k here)

-- all kept values of the plan
pub all_listed : (b : Block) (p : Plan) → IsPlanOf b p → (items : List KeptValue) (i : ℕ) → items ≡ p.kept.all.items → i ≤ length items → length items ≤ i → i ≡ length (field_kept b)
all_listed b p planned items i same low past =
    let long : length (map kept_seen p.kept.all.items) ≡ length p.kept.all.items = length-map p.kept.all.items kept_seen in
    omega (arith, low, past, ap length same, long, ap length planned.kept.all)
