-- What the node of an item is worth, by its kind.
use Rattle.std.proofs.Common.{◌≡◌, ℕ, ◌==◌, ◌-◌, ◌^◌, ◌%◌, Bool, true, false, ◌&&◌, ◌||◌, if◌then◌else◌, nat_lt, Option, Some, List, [], ◌∷◌, map, filter, slice_get, refl, sym, ap, ◌∙◌, count_ones}
use Rattle.std.specs.List.{enumerate_from, list_any}
use Rattle.std.specs.Option.{option_map_or}
use Rattle.rb_base.specs.Bits.{ones}
use Rattle.rtl_net.specs.Value.{bit_of}
use Rattle.rtl_net.specs.Net.{Net, Grows, IsNode, seen_or_zero, width_in}
use Rattle.rtl_net.specs.Ids.{at}
use Rattle.rtl_net.specs.declared.node.Id.{Id}
use Rattle.rb_model.specs.declared.kinds.RefItem.TheVariants as item
use Rattle.rb_model.specs.declared.block.Block.{Block}
use Rattle.rb_model.specs.declared.block.Field.{Field}
use Rattle.rb_model.specs.declared.block.Signal.{Signal}
use Rattle.rb_model.specs.Effects.{counting}
use Rattle.rb_model.specs.Items.{Now, ItemValues, is_interrupt, is_on, made, mask_value, raises}
use Rattle.rb_model.specs.Kept.{of_field}
use Rattle.rb_model.specs.Ports.{signal_name}
use Rattle.rb_model.specs.References.{Each, item_width, mask_refs, raise_refs, refs}
use Rattle.rb_model.proofs.Eachs.{Each-if, Each-made, Each-numbered_all}
use Rattle.block_plan.specs.Plan.{is_member, members_among}
use Rattle.block_plan.specs.Table.{item_place}
use Rattle.gen_scene.specs.declared.base.Inlet.{Inlet}
use Rattle.gen_scene.specs.declared.scene.Scene.{Scene}
use Rattle.gen_scene.specs.Fields.{HasNodes}
use Rattle.gen_scene.specs.Items.{IsItem}
use Rattle.block_plan.specs.Lines.{has_line, line_mask}
use Rattle.gen_scene.specs.Lines.{HasLine, raised}
use Rattle.gen_scene.specs.Worth.{IsWorth, MayBeWorth}
use Rattle.gen_scene.proofs.Made.{node_worth, present_worth}
use Rattle.gen_scene.proofs.Worths.{read_node, worth1, worth_as}

pub field_is : (b : Block) (k : ℕ) (f : Field) → slice_get b.fields k ≡ Some f → (g : Field → ℕ) → g f ≡ of_field b k 0 g
field_is b k f here g = sym (ap (λ o. option_map_or g o 0) here)

pub signal_worth : (b : Block) (a : Inlet) (net new : Net) (k : ℕ) (g h : Signal) (o : Option Id) (id : Id) → slice_get b.signals k ≡ Some g → MayBeWorth b a net o g.width (λ n v. n.pins (signal_name g)) → Grows net new → IsNode new id g.width (λ x. seen_or_zero x o)
    → IsWorth b a new id (item_width b (item.Signal k)) (λ n v. made b n v (item.Signal k))
signal_worth b a net new k g h o id here may grown node =
    worth_as b a new id g.width (item_width b (item.Signal k)) _ _ (present_worth b a net new o id g.width _ may grown node) (sym (ap (λ o. option_map_or (λ g. g.width) o 0) here)) (λ n v c. sym (ap (λ o. option_map_or (λ g. n.pins (signal_name g)) o 0) here))

module _ (net new : Net) (s : Scene) (k : ℕ) (f : Field) (value id : Id) (here : slice_get s.base.now.block.now.fields k ≡ Some f) (h : HasNodes net s (item.Field k ∷ [])) (e : value ≡ at s.items.now (item_place (item.Field k))) (grown : Grows net new) where
  abbrev b : Block
  b = s.base.now.block.now

  abbrev a : Inlet
  a = s.base.now.inlet

  from : IsWorth b a net value f.width (λ n v. v (item.Field k))
  from = node_worth net s k f value here h e

  pub anded_worth : IsNode new id 1 (λ x. bit_of (x.node value.0 == 2 ^ width_in net value - 1)) → IsWorth b a new id 1 (λ n v. made b n v (item.Anded k))
  anded_worth node = worth_as b a new id 1 1 _ _ (worth1 b a net new id 1 (λ x. bit_of (x == 2 ^ width_in net value - 1)) (λ x. x.node value.0) (λ n v. v (item.Field k)) grown node (read_node b a net value f.width _ from)) refl
      (λ n v c. ap (λ w. bit_of (v (item.Field k) == 2 ^ w - 1)) from.stands.width ∙ field_is b k f here (λ g. bit_of (v (item.Field k) == ones g.width)))

  pub ored_worth : IsNode new id 1 (λ x. bit_of (nat_lt 0 (x.node value.0))) → IsWorth b a new id 1 (λ n v. made b n v (item.Ored k))
  ored_worth node = worth1 b a net new id 1 (λ x. bit_of (nat_lt 0 x)) (λ x. x.node value.0) (λ n v. v (item.Field k)) grown node (read_node b a net value f.width _ from)

  pub xored_worth : IsNode new id 1 (λ x. count_ones (x.node value.0) % 2) → IsWorth b a new id 1 (λ n v. made b n v (item.Xored k))
  xored_worth node = worth1 b a net new id 1 (λ x. count_ones x % 2) (λ x. x.node value.0) (λ n v. v (item.Field k)) grown node (read_node b a net value f.width _ from)

-- Lines

one_filtered : {X : Type 0} (test : ℕ × X → Bool) (Q : ℕ → Bool) (e : ℕ × X) (es : List (ℕ × X)) (c r : Bool) → r ≡ list_any Q (map (λ (e : ℕ × X). e.0) (filter test es))
    → ((c && Q e.0) || r) ≡ list_any Q (map (λ (e : ℕ × X). e.0) (if c then e ∷ filter test es else filter test es))
one_filtered test Q e es true r h = ap (λ r. Q e.0 || r) h
one_filtered test Q e es false r h = h

any_filtered : {X : Type 0} (P test : ℕ × X → Bool) (Q : ℕ → Bool) (es : List (ℕ × X)) → Each (λ e. P e ≡ (test e && Q e.0)) es → list_any P es ≡ list_any Q (map (λ (e : ℕ × X). e.0) (filter test es))
any_filtered P test Q [] h = refl
any_filtered P test Q (e ∷ es) h = ap (λ c. c || list_any P es) h.0 ∙ one_filtered test Q e es (test e) (list_any P es) (any_filtered P test Q es h.1)

line_test : (d i r n : Bool) → ((i && r) && n) ≡ ((i && r) && (true && n))
line_test d true true n = refl
line_test d true false n = refl
line_test d false r n = refl

halt_test : (d i r n : Bool) → (d && ((i && r) && n)) ≡ ((i && r) && (d && n))
halt_test true true true n = refl
halt_test true true false n = refl
halt_test true false r n = refl
halt_test false true true n = refl
halt_test false true false n = refl
halt_test false false r n = refl

pub raised_is : (b : Block) (v : ItemValues) (halt : Bool) (k : ℕ) (f : Field) → slice_get b.fields k ≡ Some f → raised b v halt k ≡ (has_line halt f && nat_lt 0 (counting (line_mask halt f) f.width (v (item.Field k)) (mask_value v (line_mask halt f))))
raised_is b v halt k f here = ap (λ o. option_map_or (λ f. has_line halt f && nat_lt 0 (counting (line_mask halt f) f.width (v (item.Field k)) (mask_value v (line_mask halt f)))) o false) here

pub intr_is : (b : Block) (n : Now) (v : ItemValues) (r : ℕ) → bit_of (list_any (raised b v false) (members_among b.fields r)) ≡ made b n v (item.Intr r)
intr_is b n v r = ap bit_of (sym (any_filtered (λ f. raises v r f.1.enable f) (is_member r) (raised b v false) (enumerate_from 0 b.fields) (Each-numbered_all (λ e. raises v r e.1.enable e ≡ (is_member r e && raised b v false e.0)) b.fields
    (λ k f here. line_test true (is_interrupt f.latch) (f.reg == r) (nat_lt 0 (counting f.enable f.width (v (item.Field k)) (mask_value v f.enable))) ∙ ap (λ c. is_member r (k, f) && c) (sym (raised_is b v false k f here))))))

pub halt_is : (b : Block) (n : Now) (v : ItemValues) (r : ℕ) → bit_of (list_any (raised b v true) (members_among b.fields r)) ≡ made b n v (item.Halt r)
halt_is b n v r = ap bit_of (sym (any_filtered (λ f. is_on f.1.halt && raises v r f.1.halt f) (is_member r) (raised b v true) (enumerate_from 0 b.fields) (Each-numbered_all (λ e. (is_on e.1.halt && raises v r e.1.halt e) ≡ (is_member r e && raised b v true e.0)) b.fields
    (λ k f here. halt_test (is_on f.halt) (is_interrupt f.latch) (f.reg == r) (nat_lt 0 (counting f.halt f.width (v (item.Field k)) (mask_value v f.halt))) ∙ ap (λ c. is_member r (k, f) && c) (sym (raised_is b v true k f here))))))

and_three : (c i r : Bool) → c ≡ true → (i && r) ≡ true → (c && i && r) ≡ true
and_three true true true e q = refl
and_three true true false e q = q
and_three true false r e q = q
and_three false i r e q = e

pub intr_line : (net : Net) (s : Scene) (r : ℕ) → HasNodes net s (refs s.base.now.block.now (item.Intr r)) → HasLine net s false r
intr_line net s r h = record {
  each = λ k f here member has.
      let b = s.base.now.block.now in
      let P = IsItem b s.base.now.inlet net s.items.now in
      Each-if P (true && is_interrupt f.latch && f.reg == r) (item.Field k ∷ mask_refs f.enable) (and_three true (is_interrupt f.latch) (f.reg == r) refl member) (Each-made P (λ f. raise_refs r true f.1.enable f) b.fields k f h here);
}

pub halt_line : (net : Net) (s : Scene) (r : ℕ) → HasNodes net s (refs s.base.now.block.now (item.Halt r)) → HasLine net s true r
halt_line net s r h = record {
  each = λ k f here member has.
      let b = s.base.now.block.now in
      let P = IsItem b s.base.now.inlet net s.items.now in
      Each-if P (is_on f.halt && is_interrupt f.latch && f.reg == r) (item.Field k ∷ mask_refs f.halt) (and_three (is_on f.halt) (is_interrupt f.latch) (f.reg == r) has member) (Each-made P (λ f. raise_refs r (is_on f.1.halt) f.1.halt f) b.fields k f h here);
}
