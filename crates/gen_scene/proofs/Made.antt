-- What the nodes of items are worth.
use Rattle.std.proofs.Common.{◌≡◌, ℕ, ◌==◌, ◌<◌, ◌^◌, Bool, true, false, not, ◌&&◌, ◌||◌, if◌then◌else◌, nat_le, nat_lt, Option, Some, None, is_some, unwrap_or, [], ◌∷◌, slice_get, refl, sym, ap, ◌∙◌, subst, arith}
use Rattle.std.proofs.Math.Pow.{pow_pos}
use Rattle.rtl_net.specs.Value.{bit_of}
use Rattle.rtl_net.specs.Net.{Net, Grows, IsNode, seen_or_zero}
use Rattle.rtl_net.specs.Ids.{at}
use Rattle.rtl_net.specs.declared.node.Id.{Id}
use Rattle.rb_model.specs.declared.kinds.RefItem.TheVariants as item
use Rattle.block_plan.specs.Table.{item_place}
use Rattle.gen_scene.specs.declared.scene.Scene.{Scene}
use Rattle.gen_scene.specs.Fields.{HasNodes}
use Rattle.gen_scene.specs.Items.{IsItem}
use Rattle.rb_model.specs.declared.kinds.Class.TheVariants.{Storage, Wire, Constant}
use Rattle.rb_model.specs.declared.block.Block.{Block}
use Rattle.rb_model.specs.declared.block.Field.{Field}
use Rattle.rb_model.specs.Kept.{Val, is_storage}
use Rattle.rb_model.specs.Items.{Now, ItemValues, class_value}
use Rattle.rb_model.specs.References.{WithSome}
use Rattle.rb_model.specs.declared.kinds.Count.{Count}
use Rattle.rb_model.specs.Effects.{is_gated}
use Rattle.rb_model.specs.Items.{is_on}
use Rattle.rb_model.specs.SoundField.{is_changed, is_fed, is_latching_or_counting}
use Rattle.rb_model.specs.Sound.{IsSound}
use Rattle.gen_scene.specs.declared.base.Inlet.{Inlet}
use Rattle.gen_scene.specs.Worth.{IsWorth, MayBeWorth}
use Rattle.gen_scene.proofs.Worths.{worth_as, worth_read}
use Rattle.block_plan.proofs.Wanting.{field_sound}
use Rattle.gen_scene.proofs.Sources.{field_width}

module _ (b : Block) (a : Inlet) where
  pub present_worth : (old new : Net) (o : Option Id) (id : Id) (w : ℕ) (g : Now → ItemValues → ℕ) → MayBeWorth b a old o w g → Grows old new → IsNode new id w (λ x. seen_or_zero x o) → IsWorth b a new id w g
  present_worth old new o id w g h grown node = worth_read b a old new id w (λ x. seen_or_zero x o) g grown node h.read

  not_less : (x y : ℕ) → bit_of (bit_of (nat_lt x y) == 0) ≡ bit_of (nat_le y x)
  not_less x y = grind arith

  -- not below
  pub least_worth : (old mid low new : Net) (value from below id : Id) (w : ℕ) (g l : Now → ItemValues → ℕ) → IsWorth b a old value w g → Grows old mid → IsWorth b a mid from w l → Grows mid low
      → IsNode low below 1 (λ x. bit_of (nat_lt (x.node value.0) (x.node from.0))) → Grows low new → IsNode new id 1 (λ x. bit_of (x.node below.0 == 0)) → IsWorth b a new id 1 (λ n v. bit_of (nat_le (l n v) (g n v)))
  least_worth old mid low new value from below id w g l hg m hl k less n opposite = record {
    stands = opposite.stands;
    value = λ v s c found items valued.
        let s1 = n.settles v s in
        let s2 = k.settles v s1 in
        opposite.value v s ∙ ap (λ x. bit_of (x == 0)) (less.value v s1)
        ∙ ap (λ x. bit_of (bit_of (nat_lt x (v.node from.0)) == 0)) (hg.value v (m.settles v s2) c found items valued)
        ∙ ap (λ y. bit_of (bit_of (nat_lt (g c items) y) == 0)) (hl.value v s2 c found items valued) ∙ not_less (g c items) (l c items);
  }

  -- not above
  pub most_worth : (old mid low new : Net) (value from above id : Id) (w : ℕ) (g l : Now → ItemValues → ℕ) → IsWorth b a old value w g → Grows old mid → IsWorth b a mid from w l → Grows mid low
      → IsNode low above 1 (λ x. bit_of (nat_lt (x.node from.0) (x.node value.0))) → Grows low new → IsNode new id 1 (λ x. bit_of (x.node above.0 == 0)) → IsWorth b a new id 1 (λ n v. bit_of (nat_le (g n v) (l n v)))
  most_worth old mid low new value from above id w g l hg m hl k less n opposite = record {
    stands = opposite.stands;
    value = λ v s c found items valued.
        let s1 = n.settles v s in
        let s2 = k.settles v s1 in
        opposite.value v s ∙ ap (λ x. bit_of (x == 0)) (less.value v s1)
        ∙ ap (λ x. bit_of (bit_of (nat_lt x (v.node value.0)) == 0)) (hl.value v s2 c found items valued)
        ∙ ap (λ y. bit_of (bit_of (nat_lt (l c items) y) == 0)) (hg.value v (m.settles v s2) c found items valued) ∙ not_less (l c items) (g c items);
  }

-- the value of a field's class
pub storage_value : (n : Now) (v : ItemValues) (k : ℕ) (f : Field) → f.class ≡ Storage → (if is_storage f.class then n.kept (Val k) else 0) ≡ class_value n v f.class k f
storage_value n v k f e = ap (λ c. if is_storage c then n.kept (Val k) else 0) e ∙ sym (ap (λ c. class_value n v c k f) e)

pub reset_fits : (f : Field) → WithSome f.reset (λ r. r < 2 ^ f.width) → unwrap_or f.reset 0 < 2 ^ f.width
reset_fits f h = by f.reset h
  where
    by : (o : Option ℕ) → WithSome o (λ r. r < 2 ^ f.width) → unwrap_or o 0 < 2 ^ f.width
    by None q = pow_pos f.width
    by (Some r) q = q

-- a counter keeps its value
pub counter_stores : (b : Block) → IsSound b → (k : ℕ) (f : Field) → slice_get b.fields k ≡ Some f → is_some f.count ≡ true → f.class ≡ Storage
counter_stores b sound k f here counts =
    (field_sound b sound k f here).class
    ∙ by (is_changed b k) f.hw_writes f.hw_reads (is_gated f.gate) (is_latching_or_counting f) (is_some f.count) (is_fed f.set) (is_fed f.clear) (is_on f.keep) f.pulse counts (counting f.count counts)
  where
    counting : (o : Option Count) → is_some o ≡ true → is_latching_or_counting (record f { count = o }) ≡ true
    counting None e = cc
    counting (Some c) e = refl

    go : (x y se cl ke pu : Bool) → (if x && not true && not se && not cl && not ke then Wire else (if y || true || se || cl || pu then Storage else Constant)) ≡ Storage
    go true true se cl ke pu = refl
    go true false se cl ke pu = refl
    go false true se cl ke pu = refl
    go false false se cl ke pu = refl

    by : (ch wr rd ga lc co se cl ke pu : Bool) → co ≡ true → lc ≡ true
        → (if not ch && wr && not rd && not ga && not lc && not se && not cl && not ke then Wire else (if ch || wr || co || se || cl || pu then Storage else Constant)) ≡ Storage
    by ch wr rd ga lc co se cl ke pu e l =
        ap (λ c. if not ch && wr && not rd && not ga && not c && not se && not cl && not ke then Wire else (if ch || wr || co || se || cl || pu then Storage else Constant)) l
        ∙ ap (λ c. if not ch && wr && not rd && not ga && not true && not se && not cl && not ke then Wire else (if ch || wr || c || se || cl || pu then Storage else Constant)) e
        ∙ go (not ch && wr && not rd && not ga) (ch || wr) se cl ke pu

-- what an item's node is worth
pub node_worth : (net : Net) (s : Scene) (k : ℕ) (f : Field) (id : Id) → slice_get s.base.now.block.now.fields k ≡ Some f → HasNodes net s (item.Field k ∷ []) → id ≡ at s.items.now (item_place (item.Field k)) → IsWorth s.base.now.block.now s.base.now.inlet net id f.width (λ n v. v (item.Field k))
node_worth net s k f id here h e =
    let b = s.base.now.block.now in
    let a = s.base.now.inlet in
    let it : IsItem b a net s.items.now (item.Field k) = h.0 in
    subst (λ x. IsWorth b a net x f.width (λ n v. v (item.Field k))) (sym e) (worth_as b a net (at s.items.now (item_place (item.Field k))) _ f.width _ _ it.worth (field_width b k f here) (λ n v c. refl))
