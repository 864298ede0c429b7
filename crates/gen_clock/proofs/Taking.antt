-- What registers take.
use Rattle.std.proofs.Common.{◌≡◌, ℕ, ◌+◌, ◌^◌, ◌<◌, ◌≤◌, ◌==◌, Bool, true, false, ◌&&◌, not, if◌then◌else◌, Option, Some, None, unwrap_or, List, [], ◌∷◌, ◌++◌, length, map, slice_get, get_or, refl, sym, ap, ◌∙◌, subst, arith, inl, inr, ◌⊎◌}
use Rattle.std.specs.Prelude.{Contains}
use Rattle.std.specs.List.{enumerate_from}
use Rattle.std.specs.Option.{option_map, option_map_or}
use Rattle.std.proofs.lemmas.List.{length-append, get_or_append_left, get_or_at}
use Rattle.std.proofs.lemmas.Option.{get_or_from_slice_get, same_Some, slice_get-get_or, slice_get-map, slice_get_read, slice_get_within}
use Rattle.rtl_net.specs.Value.{bit_of}
use Rattle.rtl_net.specs.Net.{Net, Grows, IsNode, Stands}
use Rattle.rtl_net.specs.Ids.{at}
use Rattle.rtl_net.specs.declared.node.Id.{Id}
use Rattle.rtl_net.proofs.Nets.{Grows-refl, Grows-trans}
use Rattle.rb_model.specs.declared.block.Block.{Block}
use Rattle.rb_model.specs.declared.block.Field.{Field}
use Rattle.rb_model.specs.Kept.{Kept, Val, Last, Done, Waited, Data, Error, is_storage, keeps_last, kept_of, register_width, when, field_kept}
use Rattle.rb_model.specs.Items.{Now, ItemValues, source_value}
use Rattle.rb_model.specs.Machine.{changed, held, is_asserted, moved, next}
use Rattle.std.proofs.lemmas.Nat.{pow_pos}
use Rattle.plain_lemmas.proofs.Bools.{and-false as and_false, and-true as and_true, same-if as same}
use Rattle.rb_model.specs.References.{Each, WithSome}
use Rattle.rb_model.specs.Sound.{IsSound}
use Rattle.rb_model.specs.SoundField.{FieldIsSoundIn}
use Rattle.rb_model.proofs.Eachs.{Each-append, Each-at, Each-flat_map, Each-from_zero, Each-numbered_all}
use Rattle.block_plan.specs.declared.kept.KeptValue.{KeptValue}
use Rattle.block_plan.specs.Kept.{kept_seen}
use Rattle.gen_scene.specs.declared.base.Inlet.{Inlet}
use Rattle.gen_scene.specs.Bases.{kept_number, kept_reset, kept_width}
use Rattle.gen_scene.specs.Worth.{IsWorth}
use Rattle.gen_scene.proofs.Worths.{IsWorth-grows}
use Rattle.gen_clock.specs.Edges.{AreMoved, AreUsed, IsKeptBy, IsReset, number_in, to_take}

-- What keeps a value

when_each : {X : Type 0} (P : X → Type 0) (c : Bool) (x : X) → (c ≡ true → P x) → Each P (when c x)
when_each P true x h = (h refl, tt)
when_each P false x h = tt

all_kept : (b : Block) → Each (IsKeptBy b) (field_kept b)
all_kept b = Each-flat_map (IsKeptBy b) kept_of (enumerate_from 0 b.fields) (Each-numbered_all (λ e. Each (IsKeptBy b) (kept_of e)) b.fields (λ k f here.
    Each-append (IsKeptBy b) (when (is_storage f.class) (Val k) ++ when (keeps_last f.latch) (Last k)) (when f.once (Done k))
    (Each-append (IsKeptBy b) (when (is_storage f.class) (Val k)) (when (keeps_last f.latch) (Last k))
    (when_each (IsKeptBy b) (is_storage f.class) (Val k) (λ t. (f, here, t)))
    (when_each (IsKeptBy b) (keeps_last f.latch) (Last k) (λ t. (f, here, t))))
    (when_each (IsKeptBy b) f.once (Done k) (λ t. (f, here, t)))))

pub kept_by : (b : Block) (k : Kept) → Contains (field_kept b) k → IsKeptBy b k
kept_by b k c =
    let (j, low, is) = c in
    Each-at (IsKeptBy b) (field_kept b) j k (all_kept b) (slice_get_read (field_kept b) (length (field_kept b)) j k refl low (sym is))

-- the field of a kept value
pub field_by : (b : Block) (k : Kept) → IsKeptBy b k → (f : Field) × (slice_get b.fields (number_in k) ≡ Some f) × (kept_number k ≡ Some (number_in k))
field_by b (Val k) h = (h.0, h.1, refl)
field_by b (Last k) h = (h.0, h.1, refl)
field_by b (Done k) h = (h.0, h.1, refl)
field_by b Waited h = absurd h
field_by b Data h = absurd h
field_by b Error h = absurd h

pub width_here : (b : Block) (k : Kept) (f : Field) → IsKeptBy b k → slice_get b.fields (number_in k) ≡ Some f → kept_width k f ≡ register_width b k
width_here b (Val k) f h e = sym (ap (λ o. option_map_or (λ g. g.width) o 0) e)
width_here b (Last k) f h e = sym (ap (λ o. option_map_or (λ g. g.width) o 0) e)
width_here b (Done k) f h e = refl
width_here b Waited f h e = absurd h
width_here b Data f h e = absurd h
width_here b Error f h e = absurd h

-- Values

pub value_taken : (b : Block) (a : Inlet) (net : Net) (values : List Id) (k : ℕ) (f : Field) → AreMoved b a net values → slice_get b.fields k ≡ Some f → is_storage f.class ≡ true
    → IsWorth b a net (at values k) f.width (λ n v. moved b n v (Val k))
value_taken b a net values k f h here storage =
    let r = h.each k f here storage in
    record { stands = r.stands; value = λ x q n found items c. r.value x q n found items c ∙ sym (ap (λ o. option_map_or (λ f. changed b n items k f (n.kept (Val k))) o 0) here) }

pub source_taken : (b : Block) (a : Inlet) (net : Net) (id : Id) (k : ℕ) (f : Field) → slice_get b.fields k ≡ Some f → IsWorth b a net id f.width (λ n v. source_value n v f) → IsWorth b a net id f.width (λ n v. moved b n v (Last k))
source_taken b a net id k f here r = record { stands = r.stands; value = λ x q n found items c. r.value x q n found items c ∙ sym (ap (λ o. option_map_or (λ f. source_value n items f) o 0) here) }

-- Synchronous resets

pub take_is : (b : Block) (n : Now) (v : ItemValues) (k : Kept) (f : Field) → IsKeptBy b k → slice_get b.fields (number_in k) ≡ Some f
    → (if is_asserted b n.pins f.reset_by && f.reset_by.sync then unwrap_or (kept_reset k f) (moved b n v k) else moved b n v k) ≡ to_take b n v k
take_is b n v (Val k) f h here = sym (ap (λ o. option_map_or (λ g. if is_asserted b n.pins g.reset_by && g.reset_by.sync then unwrap_or g.reset (moved b n v (Val k)) else moved b n v (Val k)) o (moved b n v (Val k))) here)
take_is b n v (Last k) f h here = sym (ap (λ o. option_map_or (λ g. if is_asserted b n.pins g.reset_by && g.reset_by.sync then 0 else moved b n v (Last k)) o (moved b n v (Last k))) here)
take_is b n v (Done k) f h here = sym (ap (λ o. option_map_or (λ g. if is_asserted b n.pins g.reset_by && g.reset_by.sync then 0 else moved b n v (Done k)) o (moved b n v (Done k))) here)
take_is b n v Waited f h here = absurd h
take_is b n v Data f h here = absurd h
take_is b n v Error f h here = absurd h

pub not_sync : (b : Block) (a : Inlet) (net : Net) (k : Kept) (f : Field) (id : Id) → f.reset_by.sync ≡ false → Stands net id (kept_width k f) → IsReset b a net net k f id id
not_sync b a net k f id off s = record {
  stands = s;
  worth = λ g at. record {
    stands = s;
    value = λ x q n found items c. at.value x q n found items c
        ∙ sym (ap (λ z. if is_asserted b n.pins f.reset_by && z then unwrap_or (kept_reset k f) (g n items) else g n items) off ∙ ap (λ z. if z then unwrap_or (kept_reset k f) (g n items) else g n items) (and_false (is_asserted b n.pins f.reset_by)));
  };
}

pub no_reset : (b : Block) (a : Inlet) (net : Net) (k : Kept) (f : Field) (id : Id) → kept_reset k f ≡ None → Stands net id (kept_width k f) → IsReset b a net net k f id id
no_reset b a net k f id none s = record {
  stands = s;
  worth = λ g at. record {
    stands = s;
    value = λ x q n found items c. at.value x q n found items c
        ∙ same (is_asserted b n.pins f.reset_by && f.reset_by.sync) (g n items)
        ∙ sym (ap (λ o. if is_asserted b n.pins f.reset_by && f.reset_by.sync then unwrap_or o (g n items) else g n items) none);
  };
}

pub reset_made : (b : Block) (a : Inlet) (old n1 n2 new : Net) (k : Kept) (f : Field) (before asserted left after : Id) (value w : ℕ) → f.reset_by.sync ≡ true → kept_reset k f ≡ Some value → w ≡ kept_width k f
    → Grows old n1 → Grows n1 n2 → Grows n2 new → IsWorth b a n1 asserted 1 (λ n v. bit_of (is_asserted b n.pins f.reset_by)) → IsNode n2 left w (λ x. value)
    → IsNode new after w (λ x. if x.node asserted.0 == 1 then x.node left.0 else x.node before.0) → IsReset b a old new k f before after
reset_made b a old n1 n2 new k f before asserted left after value w on is wide h1 h2 h3 test number node = record {
  stands = subst (Stands new after) wide node.stands;
  worth = λ g at. record {
    stands = subst (Stands new after) wide node.stands;
    value = λ x q n found items c.
        let q2 = h3.settles x q in
        let q1 = h2.settles x q2 in
        let q0 = h1.settles x q1 in
        let A = is_asserted b n.pins f.reset_by in
        node.value x q
        ∙ ap (λ y. if y == 1 then x.node left.0 else x.node before.0) (test.value x q1 n found items c)
        ∙ ap (λ y. if bit_of A == 1 then y else x.node before.0) (number.value x q2)
        ∙ ap (λ y. if bit_of A == 1 then value else y) (at.value x q0 n found items c)
        ∙ bit A value (g n items)
        ∙ sym (ap (λ z. if A && z then unwrap_or (kept_reset k f) (g n items) else g n items) on ∙ ap (λ z. if z then unwrap_or (kept_reset k f) (g n items) else g n items) (and_true A) ∙ ap (λ o. if A then unwrap_or o (g n items) else g n items) is);
  };
}
  where
    bit : (c : Bool) (y z : ℕ) → (if bit_of c == 1 then y else z) ≡ (if c then y else z)
    bit true y z = refl
    bit false y z = refl

pub reset_fits : (b : Block) → IsSound b → (k : Kept) (f : Field) (x : ℕ) → slice_get b.fields (number_in k) ≡ Some f → kept_reset k f ≡ Some x → x < 2 ^ kept_width k f
reset_fits b sound (Val k) f x here e = by f.reset (Each-from_zero (FieldIsSoundIn b) b.fields k f sound.fields here).alone.reset e
  where
    by : (o : Option ℕ) → WithSome o (λ r. r < 2 ^ f.width) → o ≡ Some x → x < 2 ^ f.width
    by None h q = cc
    by (Some r) h q = subst (λ y. y < 2 ^ f.width) (same_Some r x q) h
reset_fits b sound (Last k) f x here e = let z : 0 ≡ x = same_Some 0 x e in subst (λ y. y < 2 ^ f.width) z (pow_pos f.width)
reset_fits b sound (Done k) f x here e = let z : 0 ≡ x = same_Some 0 x e in subst (λ y. y < 2 ^ 1) z (omega arith)
reset_fits b sound Waited f x here e = cc
reset_fits b sound Data f x here e = cc
reset_fits b sound Error f x here e = cc

pub kept_wide : (b : Block) → IsSound b → (k : Kept) (f : Field) → IsKeptBy b k → slice_get b.fields (number_in k) ≡ Some f → (0 < kept_width k f) × (kept_width k f ≤ 128)
kept_wide b sound (Val k) f h here = let w = (Each-from_zero (FieldIsSoundIn b) b.fields k f sound.fields here).alone.wide in (w.0, omega (arith, w.1))
kept_wide b sound (Last k) f h here = let w = (Each-from_zero (FieldIsSoundIn b) b.fields k f sound.fields here).alone.wide in (w.0, omega (arith, w.1))
kept_wide b sound (Done k) f h here = (omega arith, omega arith)
kept_wide b sound Waited f h here = absurd h
kept_wide b sound Data f h here = absurd h
kept_wide b sound Error f h here = absurd h

-- a kept value of the plan
pub kept_at : (b : Block) (all : List KeptValue) (j : ℕ) (d : KeptValue) → map kept_seen all ≡ field_kept b → j < length all → slice_get (field_kept b) j ≡ Some (kept_seen (get_or all j d))
kept_at b all j d same low = ap (λ ks. slice_get ks j) (sym same) ∙ slice_get-map kept_seen all j ∙ ap (option_map kept_seen) (slice_get-get_or all j d low)

pub contains_at : (ks : List Kept) (j : ℕ) (k : Kept) → slice_get ks j ≡ Some k → Contains ks k
contains_at ks j k e = (j, slice_get_within ks j k e, get_or_from_slice_get ks j k k e)

pub same_number : (k : Kept) (m : ℕ) → kept_number k ≡ Some m → number_in k ≡ m
same_number k m e = ap (λ o. unwrap_or o 0) e

-- The loop

pub AreMoved-grows : (b : Block) (a : Inlet) (old new : Net) (ids : List Id) → Grows old new → AreMoved b a old ids → AreMoved b a new ids
AreMoved-grows b a old new ids h t = record { long = t.long; each = λ k f e s. IsWorth-grows b a old new (at ids k) f.width _ h (t.each k f e s) }

pub AreUsed-grows : (b : Block) (a : Inlet) (old new : Net) (ids : List Id) → Grows old new → AreUsed b a old ids → AreUsed b a new ids
AreUsed-grows b a old new ids h t = record { long = t.long; each = λ k f e s. IsWorth-grows b a old new (at ids k) 1 _ h (t.each k f e s) }

pub record NextsTo (b : Block) (a : Inlet) (first net : Net) (ids : List Id) (end : ℕ) : Type 0 where
  pub older : Grows first net
  pub name : net.name ≡ first.name
  pub long : length ids ≡ end
  pub each : (j : ℕ) (k : Kept) → j < end → slice_get (field_kept b) j ≡ Some k → IsWorth b a net (at ids j) (register_width b k) (λ n v. to_take b n v k)

pub nexts_none : (b : Block) (a : Inlet) (net : Net) (ids : List Id) → ids ≡ [] → NextsTo b a net net ids 0
nexts_none b a net ids e = record { older = Grows-refl net; name = refl; long = ap length e; each = λ j k l. absurd (omega arith) }

pub nexts_more : (b : Block) (a : Inlet) (first net new : Net) (ids more : List Id) (end : ℕ) (kept : Kept) (id : Id) → slice_get (field_kept b) end ≡ Some kept → NextsTo b a first net ids end
    → Grows net new → new.name ≡ net.name → IsWorth b a new id (register_width b kept) (λ n v. to_take b n v kept) → more ≡ ids ++ id ∷ [] → NextsTo b a first new more (end + 1)
nexts_more b a first net new ids more end kept id here to h e worth added = record {
  older = Grows-trans first net new to.older h;
  name = e ∙ to.name;
  long = ap length added ∙ length-append ids (id ∷ []) ∙ (let l = to.long in omega arith);
  each = λ j k l q. elim (split j end l) [
    | inl p ↦ subst (λ i. IsWorth b a new i (register_width b k) (λ n v. to_take b n v k))
        (sym (ap (λ t. at t j) added ∙ get_or_append_left ids (id ∷ []) (record { 0 = 0 }) j (let z = to.long in omega arith)))
        (IsWorth-grows b a net new (at ids j) (register_width b k) (λ n v. to_take b n v k) h (to.each j k p q))
    | inr p ↦
        let same_kept : kept ≡ k = same_Some kept k (sym here ∙ ap (slice_get (field_kept b)) (sym p) ∙ q) in
        let r = subst (λ m. IsWorth b a new id (register_width b m) (λ n v. to_take b n v m)) same_kept worth in
        subst (λ i. IsWorth b a new i (register_width b k) (λ n v. to_take b n v k)) (sym (ap (λ t. at t j) added ∙ ap (at (ids ++ id ∷ [])) p ∙ get_or_at ids id [] (record { 0 = 0 }) end to.long)) r
  ];
}
  where
    split : (k end : ℕ) → k < end + 1 → (k < end) ⊎ (k ≡ end)
    split k end l = grind arith

-- What is held of what registers take

pub taken_held : (b : Block) (n : Now) (v : ItemValues) (k : Kept) → IsKeptBy b k → held b n.pins (to_take b n v) k ≡ next b n v k
taken_held b n v k h = by k h
  where
    twice : (c s : Bool) (o : Option ℕ) (m : ℕ) → (if c && not s then unwrap_or o (if c && s then unwrap_or o m else m) else (if c && s then unwrap_or o m else m)) ≡ (if c then unwrap_or o m else m)
    twice true true o m = refl
    twice true false o m = refl
    twice false s o m = refl

    by : (k : Kept) → IsKeptBy b k → held b n.pins (to_take b n v) k ≡ next b n v k
    by (Val k) h =
        let A : Field → Bool = λ f. is_asserted b n.pins f.reset_by in
        let m = moved b n v (Val k) in
        let F : Option Field → Option Field → ℕ = λ o p. option_map_or (λ f. if A f && not f.reset_by.sync then unwrap_or f.reset (option_map_or (λ f. if A f && f.reset_by.sync then unwrap_or f.reset m else m) p m) else option_map_or (λ f. if A f && f.reset_by.sync then unwrap_or f.reset m else m) p m) o (option_map_or (λ f. if A f && f.reset_by.sync then unwrap_or f.reset m else m) p m) in
        let e = h.1 in
        ap (λ o. F o o) e ∙ twice (A h.0) h.0.reset_by.sync h.0.reset m ∙ sym (ap (λ o. option_map_or (λ f. if A f then unwrap_or f.reset m else m) o m) e)
    by (Last k) h =
        let A : Field → Bool = λ f. is_asserted b n.pins f.reset_by in
        let m = moved b n v (Last k) in
        let F : Option Field → ℕ = λ o. option_map_or (λ f. if A f && not f.reset_by.sync then 0 else option_map_or (λ f. if A f && f.reset_by.sync then 0 else m) o m) o (option_map_or (λ f. if A f && f.reset_by.sync then 0 else m) o m) in
        ap F h.1 ∙ twice (A h.0) h.0.reset_by.sync (Some 0) m ∙ sym (ap (λ o. option_map_or (λ f. if A f then 0 else m) o m) h.1)
    by (Done k) h =
        let A : Field → Bool = λ f. is_asserted b n.pins f.reset_by in
        let m = moved b n v (Done k) in
        let F : Option Field → ℕ = λ o. option_map_or (λ f. if A f && not f.reset_by.sync then 0 else option_map_or (λ f. if A f && f.reset_by.sync then 0 else m) o m) o (option_map_or (λ f. if A f && f.reset_by.sync then 0 else m) o m) in
        ap F h.1 ∙ twice (A h.0) h.0.reset_by.sync (Some 0) m ∙ sym (ap (λ o. option_map_or (λ f. if A f then 0 else m) o m) h.1)
    by Waited h = absurd h
    by Data h = absurd h
    by Error h = absurd h
