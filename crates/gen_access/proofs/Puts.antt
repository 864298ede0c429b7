-- What an effect through one slot makes of a node of its field.
use Rattle.std.proofs.Common.{◌≡◌, ◌≢◌, ℕ, ◌+◌, ◌-◌, ◌<◌, ◌==◌, Bool, true, false, not, ◌&&◌, ◌||◌, if◌then◌else◌, Option, Some, [], ◌∷◌, slice_get, refl, sym, ap, ◌∙◌, subst, arith}
use Rattle.std.specs.Option.{option_map_or}
use Rattle.plain_lemmas.proofs.Bools.{same-if as same_either}
use Rattle.rb_base.specs.Bits.{part}
use Rattle.rtl_net.specs.Value.{bit_of}
use Rattle.rtl_net.specs.Net.{Net, Grows, IsNode, Stands, seen_or_zero, width_in}
use Rattle.rtl_net.specs.declared.node.Id.{Id}
use Rattle.rtl_net.proofs.Nets.{Stands-grows, fits_at}
use Rattle.rb_model.specs.declared.block.Block.{Block}
use Rattle.rb_model.specs.declared.block.Field.{Field}
use Rattle.rb_model.specs.declared.block.View.{View}
use Rattle.rb_model.specs.declared.block.Slot.{Slot}
use Rattle.rb_model.specs.declared.kinds.OnRead.{OnRead}
use Rattle.rb_model.specs.declared.kinds.OnRead.TheVariants as on_read
use Rattle.rb_model.specs.Effects.{acts, after_read, after_write, has_read_effect, is_open, written}
use Rattle.rb_model.specs.Kept.{Done}
use Rattle.rb_model.specs.Items.{Now, ItemValues, shows}
use Rattle.rb_model.specs.Machine.{slot_bits, slot_read, slot_written, view_gate}
use Rattle.rb_model.specs.Sound.{IsSound, view_passes}
use Rattle.rb_model.specs.SoundField.{FieldIsSoundIn}
use Rattle.rb_model.proofs.Eachs.{Each-from_zero}
use Rattle.gen_fields.specs.Software.{software_of}
use Rattle.gen_scene.specs.declared.base.Inlet.{Inlet}
use Rattle.gen_scene.specs.Worth.{MayBeWorth}
use Rattle.gen_access.specs.declared.software.Effect.{Effect}
use Rattle.gen_access.specs.declared.software.Effect.TheVariants as effect
use Rattle.gen_access.specs.Words.{data_of, is_at, written_word, read_word}
use Rattle.gen_access.specs.Effects.{IsPut, has_effect, reached_by, slot_effect, width_of}
use Rattle.gen_access.proofs.Reaching.{data_is}
use Rattle.plain_lemmas.proofs.Lists.{any-get as any_at}

-- One slot by its view

module _ (b : Block) (s : Slot) (u : View) (here : slice_get b.views s.view ≡ Some u) where
  self : (u.field == u.field) ≡ true
  self = grind arith

  pub written_here : (n : Now) (v : ItemValues) (f : Field) (d x : ℕ) → slot_written b n v u.field f d x s ≡ after_write u f.width (view_gate n v u) (n.kept (Done u.field)) x (slot_bits s d)
  written_here n v f d x =
      ap (λ o. option_map_or (λ w. if w.field == u.field then after_write w f.width (view_gate n v w) (n.kept (Done u.field)) x (slot_bits s d) else x) o x) here
      ∙ ap (λ c. if c then after_write u f.width (view_gate n v u) (n.kept (Done u.field)) x (slot_bits s d) else x) self

  pub read_here : (f : Field) (x : ℕ) → slot_read b u.field f x s ≡ after_read u.on_read f.width x
  read_here f x = ap (λ o. option_map_or (λ w. if w.field == u.field then after_read w.on_read f.width x else x) o x) here ∙ ap (λ c. if c then after_read u.on_read f.width x else x) self

  pub passes_here : (test : View → Bool) → view_passes b test s ≡ test u
  passes_here test = ap (λ o. option_map_or test o false) here

  pub shows_here : (test : View → Bool) → shows b u.field test s ≡ test u
  shows_here test = ap (λ o. option_map_or (λ w. w.field == u.field && test w) o false) here ∙ ap (λ c. c && test u) self

  pub shows_other : (k : ℕ) (test : View → Bool) → k ≢ u.field → shows b k test s ≡ false
  shows_other k test ne = let e : (u.field == k) ≡ false = grind arith in ap (λ o. option_map_or (λ w. w.field == k && test w) o false) here ∙ ap (λ c. c && test u) e

  -- other fields stay
  pub effect_other : (e : Effect) (n : Now) (v : ItemValues) (k : ℕ) (f : Field) (x : ℕ) → k ≢ u.field → slot_effect b e n v k f x s ≡ x
  effect_other effect.Written n v k f x ne =
      let e : (u.field == k) ≡ false = grind arith in
      ap (λ o. option_map_or (λ w. if w.field == k then after_write w f.width (view_gate n v w) (n.kept (Done k)) x (slot_bits s (data_of n.access)) else x) o x) here
      ∙ ap (λ c. if c then after_write u f.width (view_gate n v u) (n.kept (Done k)) x (slot_bits s (data_of n.access)) else x) e
  effect_other effect.Read n v k f x ne =
      let e : (u.field == k) ≡ false = grind arith in
      ap (λ o. option_map_or (λ w. if w.field == k then after_read w.on_read f.width x else x) o x) here ∙ ap (λ c. if c then after_read u.on_read f.width x else x) e
  effect_other effect.Used n v k f x ne = ap (λ c. if c then 1 else x) (shows_other k (λ w. w.once && acts w (view_gate n v w) (n.kept (Done k))) ne)

-- A view that may be written once, and its field

pub once_field : (b : Block) (k : ℕ) (u : View) (f : Field) → IsSound b → slice_get b.views k ≡ Some u → slice_get b.fields u.field ≡ Some f → u.once ≡ true → f.once ≡ true
once_field b k u f sound hu hf t =
    let w = Each-from_zero (FieldIsSoundIn b) b.fields u.field f sound.fields hf in
    let e : (u.field == u.field) ≡ true = grind arith in
    w.once ∙ any_at (λ v. v.field == u.field && v.once) b.views k u hu (ap (λ c. c && u.once) e ∙ t)

-- where it isn't kept, it isn't asked
pub acts_kept : (u : View) (once : Bool) (g d : ℕ) → (u.once ≡ true → once ≡ true) → acts u g (if once then d else 0) ≡ acts u g d
acts_kept u true g d h = refl
acts_kept u false g d h = ap (λ c. u.writes && is_open u.gate g && not c) (by u.once h)
  where
    by : (c : Bool) → (c ≡ true → false ≡ true) → (c && false) ≡ (c && d == 1)
    by true h = let z : false ≡ true = h refl in cc
    by false h = refl

-- Writes

written_value : (c : Bool) (u : View) (w v h r bits d g t : ℕ) → h ≡ bit_of c → r ≡ 0 → (c ≡ true → bits ≡ d) → software_of u w v h r bits g t ≡ (if c then after_write u w g t v d else v)
written_value true u w v h r bits d g t p q e = rw (p, q, e refl) refl
written_value false u w v h r bits d g t p q e = rw (p, q) refl

module _ (b : Block) (a : Inlet) (old net new : Net) (s : Slot) (u : View) (hit v bits read id : Id) (gate done : Option Id) (sound : IsSound b) (hu : slice_get b.views s.view ≡ Some u)
    (fits : 0 < s.bits) (older : Grows old net) (newer : Grows net new) where
  pub written_put : (w : ℕ) → u.writes ≡ true → IsNode net bits w (λ x. part (x.node a.bits.0) (s.low + (s.bits - 1)) s.low) → IsNode net read 1 (λ x. 0)
      → MayBeWorth b a net gate 1 (λ n k. view_gate n k u)
      → ((f : Field) → slice_get b.fields u.field ≡ Some f → MayBeWorth b a net done 1 (λ n k. if f.once then n.kept (Done u.field) else 0))
      → ((f : Field) → slice_get b.fields u.field ≡ Some f → Stands old v f.width)
      → IsNode new id (width_in net v) (λ x. software_of u (width_in net v) (x.node v.0) (x.node hit.0) (x.node read.0) (x.node bits.0) (seen_or_zero x gate) (seen_or_zero x done))
      → IsPut b a old new effect.Written s u.field hit v id
  written_put w writes cut zeros gates dones wide node = record {
    stands = λ f hf. subst (λ w. Stands new id w) (Stands-grows old net v f.width older (wide f hf)).width node.stands;
    worth = λ j f g hf on at. record {
      stands = subst (λ w. Stands new id w) (Stands-grows old net v f.width older (wide f hf)).width node.stands;
      value = λ x q n found items c.
          let q1 = newer.settles x q in
          let q0 = older.settles x q1 in
          let width : width_in net v ≡ f.width = (Stands-grows old net v f.width older (wide f hf)).width in
          let hits : x.node hit.0 ≡ bit_of (is_at j (written_word n.access)) = (on (passes_here b s u hu (has_effect effect.Written) ∙ writes)).value x q0 n found items c in
          let gated : seen_or_zero x gate ≡ view_gate n items u = gates.read.value x q1 n found items c in
          let was : seen_or_zero x done ≡ (if f.once then n.kept (Done u.field) else 0) = (dones f hf).read.value x q1 n found items c in
          let y : x.node v.0 ≡ g n items = at.value x q0 n found items c in
          let edge : s.low + (s.bits - 1) ≡ s.low + s.bits - 1 = omega (arith, fits) in
          let data_at : is_at j (written_word n.access) ≡ true → x.node bits.0 ≡ slot_bits s (data_of n.access)
          = λ t. cut.value x q1 ∙ ap (λ h. part (x.node a.bits.0) h s.low) edge ∙ ap (λ d. part d (s.low + s.bits - 1) s.low)
          (data_is j (x.node a.valid.0) (x.node a.write.0) (x.node a.word.0) (x.node a.bits.0) (ap (λ z. is_at j (written_word z)) (sym found.access) ∙ t) ∙ ap data_of (sym found.access)) in
          let G = view_gate n items u in
          let D = n.kept (Done u.field) in
          node.value x q
          ∙ ap (λ w. software_of u w (x.node v.0) (x.node hit.0) (x.node read.0) (x.node bits.0) (seen_or_zero x gate) (seen_or_zero x done)) width
          ∙ ap (λ z. software_of u f.width z (x.node hit.0) (x.node read.0) (x.node bits.0) (seen_or_zero x gate) (seen_or_zero x done)) y
          ∙ ap (λ z. software_of u f.width (g n items) (x.node hit.0) (x.node read.0) (x.node bits.0) z (seen_or_zero x done)) gated
          ∙ ap (λ z. software_of u f.width (g n items) (x.node hit.0) (x.node read.0) (x.node bits.0) G z) was
          ∙ written_value (is_at j (written_word n.access)) u f.width (g n items) (x.node hit.0) (x.node read.0) (x.node bits.0) (slot_bits s (data_of n.access)) G (if f.once then D else 0) hits (zeros.value x q1) data_at
          ∙ ap (λ z. if is_at j (written_word n.access) then (if z then written u.on_write f.width (g n items) (slot_bits s (data_of n.access)) else g n items) else g n items) (acts_kept u f.once G D (once_field b s.view u f sound hu hf))
          ∙ ap (λ z. if is_at j (written_word n.access) then z else g n items) (sym (written_here b s u hu n items f (data_of n.access) (g n items)));
    };
  }

  pub used_put : (act : Id) → u.once ≡ true → IsNode net act 1 (λ x. bit_of (x.node hit.0 == 1 && acts u (seen_or_zero x gate) (seen_or_zero x done)))
      → MayBeWorth b a old gate 1 (λ n k. view_gate n k u)
      → ((f : Field) → slice_get b.fields u.field ≡ Some f → MayBeWorth b a old done 1 (λ n k. if f.once then n.kept (Done u.field) else 0))
      → Stands old v 1
      → IsNode new id 1 (λ x. bit_of (x.node act.0 == 1 || x.node v.0 == 1))
      → IsPut b a old new effect.Used s u.field hit v id
  used_put act once acting gates dones wide node = record {
    stands = λ f hf. node.stands;
    worth = λ j f g hf on at. record {
      stands = node.stands;
      value = λ x q n found items c.
          let q1 = newer.settles x q in
          let q0 = older.settles x q1 in
          let hits : x.node hit.0 ≡ bit_of (is_at j (written_word n.access)) = (on (passes_here b s u hu (has_effect effect.Used) ∙ once)).value x q0 n found items c in
          let gated : seen_or_zero x gate ≡ view_gate n items u = gates.read.value x q0 n found items c in
          let was : seen_or_zero x done ≡ (if f.once then n.kept (Done u.field) else 0) = (dones f hf).read.value x q0 n found items c in
          let y : x.node v.0 ≡ g n items = at.value x q0 n found items c in
          let low : x.node v.0 < 2 = (let l = fits_at old x v 1 q0 wide in omega arith) in
          let G = view_gate n items u in
          let D = n.kept (Done u.field) in
          let does : x.node act.0 ≡ bit_of (x.node hit.0 == 1 && acts u G D) = acting.value x q1
          ∙ ap (λ z. bit_of (x.node hit.0 == 1 && acts u z (seen_or_zero x done))) gated
          ∙ ap (λ z. bit_of (x.node hit.0 == 1 && acts u G z)) was
          ∙ ap (λ z. bit_of (x.node hit.0 == 1 && z)) (acts_kept u f.once G D (once_field b s.view u f sound hu hf)) in
          let shown : shows b u.field (λ w. w.once && acts w (view_gate n items w) (n.kept (Done u.field))) s ≡ acts u G D = shows_here b s u hu (λ w. w.once && acts w (view_gate n items w) (n.kept (Done u.field))) ∙ ap (λ z. z && acts u G D) once in
          node.value x q
          ∙ used_value (is_at j (written_word n.access)) (acts u G D) (x.node hit.0) (x.node act.0) (x.node v.0) hits does low
          ∙ ap (λ z. if is_at j (written_word n.access) then (if acts u G D then 1 else z) else z) y
          ∙ ap (λ z. if is_at j (written_word n.access) then (if z then 1 else g n items) else g n items) (sym shown);
    };
  }
    where
      bit_again : (y : ℕ) → y < 2 → bit_of (y == 1) ≡ y
      bit_again y l = grind arith

      used_value : (c t : Bool) (h q y : ℕ) → h ≡ bit_of c → q ≡ bit_of (h == 1 && t) → y < 2 → bit_of (q == 1 || y == 1) ≡ (if c then (if t then 1 else y) else y)
      used_value true true h q y p e l = let z : q ≡ 1 = e ∙ rw p refl in rw z refl
      used_value true false h q y p e l = let z : q ≡ 0 = e ∙ rw p refl in rw z (bit_again y l)
      used_value false t h q y p e l = let z : q ≡ 0 = e ∙ rw p refl in rw z (bit_again y l)

pub kept_put : (b : Block) (a : Inlet) (net : Net) (e : Effect) (s : Slot) (k : ℕ) (hit v : Id) → ((f : Field) → slice_get b.fields k ≡ Some f → Stands net v (width_of e f))
    → ((n : Now) (u : ItemValues) (f : Field) (x : ℕ) → slot_effect b e n u k f x s ≡ x) → IsPut b a net net e s k hit v v
kept_put b a net e s k hit v wide same = record {
  stands = wide;
  worth = λ j f g hf on at. record {
    stands = at.stands;
    value = λ x q n found items c.
        at.value x q n found items c
        ∙ same_either (is_at j (reached_by e n.access)) (g n items)
        ∙ ap (λ z. if is_at j (reached_by e n.access) then z else g n items) (sym (same n items f (g n items)));
  };
}

-- a view through which software doesn't write
pub unwritten : (b : Block) (s : Slot) (u : View) → slice_get b.views s.view ≡ Some u → u.writes ≡ false → (n : Now) (v : ItemValues) (f : Field) (x : ℕ) → slot_effect b effect.Written n v u.field f x s ≡ x
unwritten b s u here off n v f x = written_here b s u here n v f (data_of n.access) x ∙ ap (λ c. if c && is_open u.gate (view_gate n v u) && not (u.once && n.kept (Done u.field) == 1) then written u.on_write f.width x (slot_bits s (data_of n.access)) else x) off

pub unused : (b : Block) (s : Slot) (u : View) → slice_get b.views s.view ≡ Some u → u.once ≡ false → (n : Now) (v : ItemValues) (f : Field) (x : ℕ) → slot_effect b effect.Used n v u.field f x s ≡ x
unused b s u here off n v f x = ap (λ c. if c then 1 else x) (shows_here b s u here (λ w. w.once && acts w (view_gate n v w) (n.kept (Done u.field))) ∙ ap (λ c. c && acts u (view_gate n v u) (n.kept (Done u.field))) off)

-- Reads

pub read_put : (b : Block) (a : Inlet) (old new : Net) (s : Slot) (u : View) (hit v id : Id) → slice_get b.views s.view ≡ Some u → Grows old new
    → ((f : Field) → slice_get b.fields u.field ≡ Some f → Stands old v f.width)
    → IsNode new id (width_in old v) (λ x. if x.node hit.0 == 1 then after_read u.on_read (width_in old v) (x.node v.0) else x.node v.0)
    → IsPut b a old new effect.Read s u.field hit v id
read_put b a old new s u hit v id hu older wide node = record {
  stands = λ f hf. subst (λ w. Stands new id w) (wide f hf).width node.stands;
  worth = λ j f g hf on at. record {
    stands = subst (λ w. Stands new id w) (wide f hf).width node.stands;
    value = λ x q n found items c.
        let q0 = older.settles x q in
        node.value x q
        ∙ ap (λ w. if x.node hit.0 == 1 then after_read u.on_read w (x.node v.0) else x.node v.0) (wide f hf).width
        ∙ ap (λ z. if x.node hit.0 == 1 then after_read u.on_read f.width z else z) (at.value x q0 n found items c)
        ∙ read_value u.on_read f.width (g n items) (x.node hit.0) (is_at j (read_word n.access)) (λ t. (on (passes_here b s u hu (has_effect effect.Read) ∙ t)).value x q0 n found items c)
        ∙ ap (λ z. if is_at j (read_word n.access) then z else g n items) (sym (read_here b s u hu f (g n items)));
  };
}
  where
    by_hit : (c : Bool) (h y z : ℕ) → h ≡ bit_of c → (if h == 1 then y else z) ≡ (if c then y else z)
    by_hit true h y z e = rw e refl
    by_hit false h y z e = rw e refl

    read_value : (r : OnRead) (w y h : ℕ) (c : Bool) → (has_read_effect r ≡ true → h ≡ bit_of c) → (if h == 1 then after_read r w y else y) ≡ (if c then after_read r w y else y)
    read_value on_read.Off w y h c e = sym (same_either (h == 1) y) ∙ same_either c y
    read_value on_read.RClr w y h c e = by_hit c h 0 y (e refl)
    read_value on_read.RSet w y h c e = by_hit c h (after_read on_read.RSet w y) y (e refl)
