-- An item's value depends on the values of the items that it refers to alone.
use Rattle.std.proofs.Common.{◌≡◌, ℕ, ◌+◌, ◌==◌, ◌%◌, Bool, true, false, ◌&&◌, nat_le, nat_lt, if◌then◌else◌, Option, Some, None, List, [], ◌∷◌, ◌++◌, codes, slice_get, count_ones, refl, ap, sym}
use Rattle.std.specs.List.{enumerate_from, flat_map, list_any}
use Rattle.std.specs.Option.{option_map_or}
use Rattle.v_design.specs.Expr.{bit_of}
use Rattle.rb_model.specs.declared.kinds.RefItem.{RefItem}
use Rattle.rb_model.specs.declared.kinds.RefItem.TheVariants as item
use Rattle.rb_model.specs.declared.kinds.Class.{Class}
use Rattle.rb_model.specs.declared.kinds.Class.TheVariants.{Storage, Wire, Constant}
use Rattle.rb_model.specs.declared.kinds.Feed.{Feed}
use Rattle.rb_model.specs.declared.kinds.Feed.TheVariants as feed
use Rattle.rb_model.specs.declared.kinds.Mask.{Mask}
use Rattle.rb_model.specs.declared.kinds.Mask.TheVariants as mask
use Rattle.rb_model.specs.declared.kinds.Amount.{Amount}
use Rattle.rb_model.specs.declared.kinds.Amount.TheVariants as amount
use Rattle.rb_model.specs.declared.kinds.Level.{Level}
use Rattle.rb_model.specs.declared.kinds.Level.TheVariants as level
use Rattle.rb_model.specs.declared.kinds.Part.{Part}
use Rattle.rb_model.specs.declared.kinds.Count.{Count}
use Rattle.rb_model.specs.declared.block.Block.{Block}
use Rattle.rb_model.specs.declared.block.Field.{Field}
use Rattle.rb_model.specs.Kept.{of_field}
use Rattle.rb_base.specs.Bits.{ones}
use Rattle.rb_model.specs.Effects.{overflows, underflows, counting}
use Rattle.rb_model.specs.Items.{Now, ItemValues, made, fed, mask_value, level_value, amount_value, step, up, down, source_value, class_value, raises, is_interrupt, is_on}
use Rattle.rb_model.proofs.Eachs.{Each-left, Each-right, Each-if}
use Rattle.rb_model.specs.References.{Each, refs, feed_refs, mask_refs, level_refs, amount_refs, part_refs, count_refs, class_refs, raise_refs}

-- two valuations agree on these items
abbrev pub Agree : (u v : ItemValues) → List RefItem → Type 0
Agree u v is = Each (λ i. u i ≡ v i) is

and-same : (c x y : Bool) → (c ≡ true → x ≡ y) → (c && x) ≡ (c && y)
and-same true x y h = h refl
and-same false x y h = refl

module _ (n : Now) (u v : ItemValues) where
  pub fed_same : (x : Feed) (name : List ℕ) → Agree u v (feed_refs x) → fed n u x name ≡ fed n v x name
  fed_same feed.Off name h = refl
  fed_same feed.Pin name h = refl
  fed_same (feed.Item i) name h = h.0

  pub mask_same : (m : Mask) → Agree u v (mask_refs m) → mask_value u m ≡ mask_value v m
  mask_same mask.Off h = refl
  mask_same (mask.Enable i) h = h.0
  mask_same (mask.Mask i) h = h.0

  pub level_same : (x : Level) → Agree u v (level_refs x) → level_value u x ≡ level_value v x
  level_same (level.Number x) h = refl
  level_same (level.Item i) h = h.0

  pub amount_same : (x : Amount) (name : List ℕ) → Agree u v (amount_refs x) → amount_value n u x name ≡ amount_value n v x name
  amount_same (amount.Number x) name h = refl
  amount_same (amount.Item i) name h = h.0
  amount_same (amount.Pin w) name h = refl

  pub step_same : (p : Option Part) (pulse value : List ℕ) → Agree u v (part_refs p) → step n u p pulse value ≡ step n v p pulse value
  step_same None pulse value h = refl
  step_same (Some p) pulse value h =
      let f : fed n u p.pulse pulse ≡ fed n v p.pulse pulse = fed_same p.pulse pulse (Each-left (λ i. u i ≡ v i) (feed_refs p.pulse) (amount_refs p.amount) h) in
      let a : amount_value n u p.amount value ≡ amount_value n v p.amount value = amount_same p.amount value (Each-right (λ i. u i ≡ v i) (feed_refs p.pulse) (amount_refs p.amount) h) in
      rw (f, a) refl

  pub class_same : (c : Class) (k : ℕ) (f : Field) → Agree u v (class_refs c f.source) → class_value n u c k f ≡ class_value n v c k f
  class_same Storage k f h = refl
  class_same Wire k f h = fed_same f.source (codes "in$" ++ f.path) h
  class_same Constant k f h = refl

  of_same : {X : Type 0} (o : Option Field) (r : Field → List RefItem) (g h : Field → X) (d : X)
      → ((f : Field) → Agree u v (r f) → g f ≡ h f) → Agree u v (option_map_or r o []) → option_map_or g o d ≡ option_map_or h o d
  of_same None r g h d e a = refl
  of_same (Some f) r g h d e a = e f a

  count_same : {X : Type 0} (o : Option Count) (r : Count → List RefItem) (g h : Count → X) (d : X)
      → ((c : Count) → Agree u v (r c) → g c ≡ h c) → Agree u v (option_map_or r o []) → option_map_or g o d ≡ option_map_or h o d
  count_same None r g h d e a = refl
  count_same (Some c) r g h d e a = e c a

  pub parts_same : (o : Option Count) (path : List ℕ) → Agree u v (count_refs o)
      → (option_map_or (λ c. step n u c.up (codes "incr$" ++ path) (codes "incrvalue$" ++ path)) o 0 ≡ option_map_or (λ c. step n v c.up (codes "incr$" ++ path) (codes "incrvalue$" ++ path)) o 0)
      × (option_map_or (λ c. step n u c.down (codes "decr$" ++ path) (codes "decrvalue$" ++ path)) o 0 ≡ option_map_or (λ c. step n v c.down (codes "decr$" ++ path) (codes "decrvalue$" ++ path)) o 0)
  parts_same None path h = (refl, refl)
  parts_same (Some c) path h = (
    step_same c.up (codes "incr$" ++ path) (codes "incrvalue$" ++ path) (Each-left (λ i. u i ≡ v i) (part_refs c.up) (part_refs c.down) h),
    step_same c.down (codes "decr$" ++ path) (codes "decrvalue$" ++ path) (Each-right (λ i. u i ≡ v i) (part_refs c.up) (part_refs c.down) h),
  )

  raise_same : (r : ℕ) (m : Mask) (f : ℕ × Field) → Agree u v (raise_refs r true m f) → raises u r m f ≡ raises v r m f
  raise_same r m f h = and-same (is_interrupt f.1.latch && f.1.reg == r) _ _ (λ t.
      let a : Agree u v (item.Field f.0 ∷ mask_refs m) = Each-if (λ i. u i ≡ v i) (is_interrupt f.1.latch && f.1.reg == r) (item.Field f.0 ∷ mask_refs m) t h in
      let e : mask_value u m ≡ mask_value v m = mask_same m a.1 in
      rw (a.0, e) refl)

  any_same : (r : ℕ) (fs : List (ℕ × Field)) → Agree u v (flat_map (λ f. raise_refs r true f.1.enable f) fs)
      → list_any (λ f. raises u r f.1.enable f) fs ≡ list_any (λ f. raises v r f.1.enable f) fs
  any_same r [] h = refl
  any_same r (f ∷ fs) h =
      let here : raises u r f.1.enable f ≡ raises v r f.1.enable f = raise_same r f.1.enable f (Each-left (λ i. u i ≡ v i) (raise_refs r true f.1.enable f) (flat_map (λ f. raise_refs r true f.1.enable f) fs) h) in
      let there : list_any (λ f. raises u r f.1.enable f) fs ≡ list_any (λ f. raises v r f.1.enable f) fs = any_same r fs (Each-right (λ i. u i ≡ v i) (raise_refs r true f.1.enable f) (flat_map (λ f. raise_refs r true f.1.enable f) fs) h) in
      rw (here, there) refl

  halt_same : (on : Bool) (r : ℕ) (m : Mask) (f : ℕ × Field) → Agree u v (raise_refs r on m f) → (on && raises u r m f) ≡ (on && raises v r m f)
  halt_same true r m f h = raise_same r m f h
  halt_same false r m f h = refl

  any_halt_same : (r : ℕ) (fs : List (ℕ × Field)) → Agree u v (flat_map (λ f. raise_refs r (is_on f.1.halt) f.1.halt f) fs)
      → list_any (λ f. is_on f.1.halt && raises u r f.1.halt f) fs ≡ list_any (λ f. is_on f.1.halt && raises v r f.1.halt f) fs
  any_halt_same r [] h = refl
  any_halt_same r (f ∷ fs) h =
      let here : (is_on f.1.halt && raises u r f.1.halt f) ≡ (is_on f.1.halt && raises v r f.1.halt f) = halt_same (is_on f.1.halt) r f.1.halt f (Each-left (λ i. u i ≡ v i) (raise_refs r (is_on f.1.halt) f.1.halt f) (flat_map (λ f. raise_refs r (is_on f.1.halt) f.1.halt f) fs) h) in
      let there : list_any (λ f. is_on f.1.halt && raises u r f.1.halt f) fs ≡ list_any (λ f. is_on f.1.halt && raises v r f.1.halt f) fs = any_halt_same r fs (Each-right (λ i. u i ≡ v i) (raise_refs r (is_on f.1.halt) f.1.halt f) (flat_map (λ f. raise_refs r (is_on f.1.halt) f.1.halt f) fs) h) in
      rw (here, there) refl

  pub made_same : (b : Block) (i : RefItem) → Agree u v (refs b i) → made b n u i ≡ made b n v i
  made_same b (item.Field k) h = of_same (slice_get b.fields k) (λ f. class_refs f.class f.source) _ _ 0 (λ f. class_same f.class k f) h
  made_same b (item.Signal s) h = refl
  made_same b (item.Anded k) h = ap (λ x. of_field b k 0 (λ f. bit_of (x == ones f.width))) h.0
  made_same b (item.Ored k) h = ap (λ x. bit_of (nat_lt 0 x)) h.0
  made_same b (item.Xored k) h = ap (λ x. count_ones x % 2) h.0
  made_same b (item.IncrThreshold k) h = of_same (slice_get b.fields k) (λ f. option_map_or (λ c. level_refs c.above) f.count []) _ _ 0
      (λ f. count_same f.count (λ c. level_refs c.above) _ _ 0 (λ c a. let e : level_value u c.above ≡ level_value v c.above = level_same c.above a in rw (e, h.0) refl)) h.1
  made_same b (item.DecrThreshold k) h = of_same (slice_get b.fields k) (λ f. option_map_or (λ c. level_refs c.below) f.count []) _ _ 0
      (λ f. count_same f.count (λ c. level_refs c.below) _ _ 0 (λ c a. let e : level_value u c.below ≡ level_value v c.below = level_same c.below a in rw (e, h.0) refl)) h.1
  made_same b (item.Overflow k) h = of_same (slice_get b.fields k) (λ f. count_refs f.count) _ _ 0 (λ f a. let e : (up n u f ≡ up n v f) × (down n u f ≡ down n v f) = parts_same f.count f.path a in rw (e.0, e.1) refl) h
  made_same b (item.Underflow k) h = of_same (slice_get b.fields k) (λ f. count_refs f.count) _ _ 0 (λ f a. let e : (up n u f ≡ up n v f) × (down n u f ≡ down n v f) = parts_same f.count f.path a in rw (e.0, e.1) refl) h
  made_same b (item.SwMod k) h = refl
  made_same b (item.SwAcc k) h = refl
  made_same b (item.Intr r) h = ap bit_of (any_same r (enumerate_from 0 b.fields) h)
  made_same b (item.Halt r) h = ap bit_of (any_halt_same r (enumerate_from 0 b.fields) h)
