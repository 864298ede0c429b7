-- Interrupts that count for a register's line, one after another.
use Rattle.std.proofs.Common.{◌≡◌, ℕ, suc, ◌+◌, ◌-◌, ◌^◌, ◌<◌, ◌≤◌, Bool, true, false, ◌&&◌, ◌||◌, if◌then◌else◌, nat_lt, bit_and, Option, Some, None, List, [], ◌∷◌, ◌++◌, length, map, filter, take, slice_get, get_or, refl, sym, ap, ◌∙◌, subst, arith}
use Rattle.std.specs.Prelude.{All}
use Rattle.std.specs.List.{enumerate_from, list_any}
use Rattle.std.specs.Option.{option_map}
use Rattle.std.proofs.lemmas.List.{take_all, take_more}
use Rattle.std.proofs.lemmas.List.Folds.{list_any-append}
use Rattle.std.proofs.lemmas.List.Elements.{All-cons, All-head, All-nil, All-tail}
use Rattle.std.proofs.lemmas.Option.{same_Some, slice_get-get_or, slice_get_within}
use Rattle.plain_lemmas.proofs.Bools.{or-false as or_last}
use Rattle.rtl_net.specs.Value.{At}
use Rattle.rtl_net.specs.Net.{Net, MayHave, Settles, Stands, width_in}
use Rattle.rtl_net.specs.Ids.{at}
use Rattle.rtl_net.proofs.Nets.{Stands-has}
use Rattle.rb_model.specs.declared.kinds.RefItem.TheVariants as item
use Rattle.rb_model.specs.declared.kinds.Mask.{Mask}
use Rattle.rb_model.specs.declared.kinds.Mask.TheVariants as mask
use Rattle.rb_model.specs.declared.block.Block.{Block}
use Rattle.rb_model.specs.declared.block.Field.{Field}
use Rattle.rb_model.specs.Effects.{counting}
use Rattle.rb_model.specs.Items.{Now, ItemValues, AreItemValues, mask_value}
use Rattle.rb_model.specs.References.{AreWide, Each, mask_refs}
use Rattle.rb_model.proofs.Eachs.{Each-at, Each-left, Each-right}
use Rattle.block_plan.specs.Plan.{is_member, members_among}
use Rattle.block_plan.specs.Table.{item_place}
use Rattle.gen_events.specs.declared.lines.Masked.{Masked}
use Rattle.gen_events.specs.Counting.{IsMasked, counts_at, under_mask}
use Rattle.gen_scene.specs.declared.scene.Scene.{Scene}
use Rattle.gen_scene.specs.Bases.{IsBase}
use Rattle.gen_scene.specs.Fields.{HasNodes, item_node, mask_node}
use Rattle.gen_scene.specs.Items.{IsItem}
use Rattle.block_plan.specs.Lines.{has_line, line_mask}
use Rattle.gen_scene.specs.Lines.{HasLine, is_inverted, line_bits, raised}
use Rattle.gen_scene.specs.Worth.{Finds, IsRead}
use Rattle.gen_scene.proofs.Arms.{raised_is}
use Rattle.gen_scene.proofs.Made.{node_worth}
use Rattle.block_plan.proofs.Wanting.{field_sound}
use Rattle.gen_scene.proofs.Sources.{in_table}

-- The members of a register are interrupts of it

pub record IsInterrupt (all : List Field) (r k : ℕ) : Type 0 where
  pub field : Field
  pub here : slice_get all k ≡ Some field
  pub member : is_member r (k, field) ≡ true

members_from : (all : List Field) (n : ℕ) (rest : List Field) (r : ℕ) → ((j : ℕ) (f : Field) → slice_get rest j ≡ Some f → slice_get all (n + j) ≡ Some f) → Each (IsInterrupt all r) (map (λ (e : ℕ × Field). e.0) (filter (is_member r) (enumerate_from n rest)))
members_from all n [] r h = tt
members_from all n (f ∷ rest) r h =
    let z : n + 0 ≡ n = omega arith in
    let here : slice_get all n ≡ Some f = ap (slice_get all) (sym z) ∙ h 0 f refl in
    one all n f r here (filter (is_member r) (enumerate_from (n + 1) rest)) (members_from all (n + 1) rest r (λ j g e. let q : n + 1 + j ≡ n + suc j = omega arith in ap (slice_get all) q ∙ h (suc j) g e)) (is_member r (n, f)) refl
  where
    one : (all : List Field) (n : ℕ) (f : Field) (r : ℕ) → slice_get all n ≡ Some f → (es : List (ℕ × Field)) → Each (IsInterrupt all r) (map (λ (e : ℕ × Field). e.0) es) → (c : Bool) → is_member r (n, f) ≡ c
        → Each (IsInterrupt all r) (map (λ (e : ℕ × Field). e.0) (if c then (n, f) ∷ es else es))
    one all n f r here es h true t = (record { field = f; here = here; member = t }, h)
    one all n f r here es h false t = h

pub member_is : (all : List Field) (r i k : ℕ) → slice_get (members_among all r) i ≡ Some k → IsInterrupt all r k
member_is all r i k e = Each-at (IsInterrupt all r) (members_among all r) i k (members_from all 0 all r (λ j f h. let z : 0 + j ≡ j = omega arith in ap (slice_get all) z ∙ h)) e

-- The bits of one

-- what is looked up of interrupt k counts where it raises its line
abbrev pub Counts : Net → Scene → Bool → ℕ → Option Masked → Type 0
Counts net s halt k None = (v : ItemValues) → raised s.base.now.block.now v halt k ≡ false
Counts net s halt k (Some m) = IsMasked net m × IsRead s.base.now.block.now s.base.now.inlet net (λ x. counts_at net x m) (λ n v. raised s.base.now.block.now v halt k)

-- a mask's node and what it leaves of a value
mask_counts : (net : Net) (s : Scene) (m : Mask) (w : ℕ) → HasNodes net s (mask_refs m) → AreWide s.base.now.block.now w (mask_refs m)
    → MayHave net (mask_node s m) w × ((v : At) → Settles net v → (n : Now) → Finds s.base.now.block.now s.base.now.inlet v n → (items : ItemValues) → AreItemValues s.base.now.block.now n items → (x : ℕ) → under_mask v w x (is_inverted m) (mask_node s m) ≡ counting m w x (mask_value items m))
mask_counts net s mask.Off w h wide = (tt, λ v t n found items valued x. refl)
mask_counts net s (mask.Enable i) w h wide =
    let it : IsItem s.base.now.block.now s.base.now.inlet net s.items.now i = h.0 in
    let e : item_node s i ≡ Some (at s.items.now (item_place i)) = in_table s.items.now (item_place i) it.within in (
      subst (λ o. MayHave net o w) (sym e) (subst (Stands net (at s.items.now (item_place i))) wide.0.1 it.worth.stands),
      λ v t n found items valued x. ap (under_mask v w x false) e ∙ ap (bit_and x) (it.worth.value v t n found items valued),
    )
mask_counts net s (mask.Mask i) w h wide =
    let it : IsItem s.base.now.block.now s.base.now.inlet net s.items.now i = h.0 in
    let e : item_node s i ≡ Some (at s.items.now (item_place i)) = in_table s.items.now (item_place i) it.within in (
      subst (λ o. MayHave net o w) (sym e) (subst (Stands net (at s.items.now (item_place i))) wide.0.1 it.worth.stands),
      λ v t n found items valued x. ap (under_mask v w x true) e ∙ ap (λ y. bit_and x (2 ^ w - 1 - y)) (it.worth.value v t n found items valued),
    )

mask_wide : (b : Block) (halt : Bool) (f : Field) → AreWide b f.width (mask_refs f.keep ++ mask_refs f.enable ++ mask_refs f.halt) → AreWide b f.width (mask_refs (line_mask halt f))
mask_wide b true f h = Each-right _ (mask_refs f.keep ++ mask_refs f.enable) (mask_refs f.halt) h
mask_wide b false f h = Each-right _ (mask_refs f.keep) (mask_refs f.enable) (Each-left _ (mask_refs f.keep ++ mask_refs f.enable) (mask_refs f.halt) h)

pub bits_count : (net : Net) (s : Scene) (halt : Bool) (r k : ℕ) (f : Field) → IsBase net s.base.now → HasLine net s halt r → slice_get s.base.now.block.now.fields k ≡ Some f → is_member r (k, f) ≡ true → Counts net s halt k (line_bits s halt k f)
bits_count net s halt r k f base line here member = by (has_line halt f) refl
  where
    by : (c : Bool) → has_line halt f ≡ c → Counts net s halt k (if c then option_map (λ id. record { value = id; mask = mask_node s (line_mask halt f); inverted = is_inverted (line_mask halt f) }) (item_node s (item.Field k)) else None)
    by false e = λ v. raised_is s.base.now.block.now v halt k f here ∙ ap (λ c. c && nat_lt 0 (counting (line_mask halt f) f.width (v (item.Field k)) (mask_value v (line_mask halt f)))) e
    by true e =
        let b = s.base.now.block.now in
        let a = s.base.now.inlet in
        let h = line.each k f here member e in
        let it : IsItem b a net s.items.now (item.Field k) = h.0 in
        let id = at s.items.now (item_place (item.Field k)) in
        let from = node_worth net s k f id here (h.0, tt) refl in
        let m = mask_counts net s (line_mask halt f) f.width h.1 (mask_wide b halt f (field_sound b base.sound k f here).refers.masks) in
        let w : width_in net id ≡ f.width = from.stands.width in
        subst (λ o. Counts net s halt k (option_map (λ id. record { value = id; mask = mask_node s (line_mask halt f); inverted = is_inverted (line_mask halt f) }) o)) (sym (in_table s.items.now (item_place (item.Field k)) it.within)) (
          (Stands-has net id f.width from.stands, subst (MayHave net (mask_node s (line_mask halt f))) (sym w) m.0),
          record {
            value = λ v t n found items valued.
                ap (λ u. nat_lt 0 (under_mask v u (v.node id.0) (is_inverted (line_mask halt f)) (mask_node s (line_mask halt f)))) w
                ∙ ap (λ y. nat_lt 0 (under_mask v f.width y (is_inverted (line_mask halt f)) (mask_node s (line_mask halt f)))) (from.value v t n found items valued)
                ∙ ap (nat_lt 0) (m.1 v t n found items valued (items (item.Field k)))
                ∙ sym (raised_is b items halt k f here ∙ ap (λ c. c && nat_lt 0 (counting (line_mask halt f) f.width (items (item.Field k)) (mask_value items (line_mask halt f)))) e);
          },
        )

-- The loop

pub record BitsTo (net : Net) (s : Scene) (halt : Bool) (ks : List ℕ) (bits : List Masked) (end : ℕ) : Type 0 where
  pub masked : All (IsMasked net) bits
  pub counts : IsRead s.base.now.block.now s.base.now.inlet net (λ x. list_any (counts_at net x) bits) (λ n v. list_any (raised s.base.now.block.now v halt) (take end ks))

pub no_bits : (net : Net) (s : Scene) (halt : Bool) (ks : List ℕ) → BitsTo net s halt ks [] 0
no_bits net s halt ks = record { masked = All-nil (IsMasked net); counts = record { value = λ v t n found items valued. refl } }

all_push : {X : Type 0} (P : X → Type 0) (xs : List X) (y : X) → All P xs → P y → All P (xs ++ y ∷ [])
all_push P [] y h p = All-cons P y [] p (All-nil P)
all_push P (x ∷ xs) y h p = All-cons P x (xs ++ y ∷ []) (All-head P x xs h) (all_push P xs y (All-tail P x xs h) p)

any_push : {X : Type 0} (p : X → Bool) (xs : List X) (y : X) → list_any p (xs ++ y ∷ []) ≡ (list_any p xs || p y)
any_push p xs y = list_any-append p xs (y ∷ []) ∙ ap (λ c. list_any p xs || c) (or_last (p y))

taken : (b : Block) (v : ItemValues) (halt : Bool) (ks : List ℕ) (end k : ℕ) → end < length ks → k ≡ get_or ks end 0 → list_any (raised b v halt) (take (end + 1) ks) ≡ (list_any (raised b v halt) (take end ks) || raised b v halt k)
taken b v halt ks end k low is = ap (list_any (raised b v halt)) (take_more ks end 0 low ∙ ap (λ y. take end ks ++ y ∷ []) (sym is)) ∙ any_push (raised b v halt) (take end ks) k

pub bits_same : (net : Net) (s : Scene) (halt : Bool) (ks : List ℕ) (bits : List Masked) (end k : ℕ) (o : Option Masked) → end < length ks → k ≡ get_or ks end 0 → BitsTo net s halt ks bits end → Counts net s halt k o → None ≡ o → BitsTo net s halt ks bits (end + 1)
bits_same net s halt ks bits end k o low is sofar c e = record {
  masked = sofar.masked;
  counts = record {
    value = λ v t n found items valued.
        let b = s.base.now.block.now in
        let no : raised b items halt k ≡ false = subst (Counts net s halt k) (sym e) c items in
        sofar.counts.value v t n found items valued ∙ sym (taken b items halt ks end k low is ∙ ap (λ c. list_any (raised b items halt) (take end ks) || c) no ∙ or_last _);
  };
}

pub bits_more : (net : Net) (s : Scene) (halt : Bool) (ks : List ℕ) (bits bits' : List Masked) (end k : ℕ) (m : Masked) (o : Option Masked) → end < length ks → k ≡ get_or ks end 0 → BitsTo net s halt ks bits end → Counts net s halt k o → Some m ≡ o → bits' ≡ bits ++ m ∷ []
    → BitsTo net s halt ks bits' (end + 1)
bits_more net s halt ks bits bits' end k m o low is sofar c e pushed =
    let b = s.base.now.block.now in
    let q : IsMasked net m × IsRead b s.base.now.inlet net (λ x. counts_at net x m) (λ n v. raised b v halt k) = subst (Counts net s halt k) (sym e) c in
    record {
      masked = subst (All (IsMasked net)) (sym pushed) (all_push (IsMasked net) bits m sofar.masked q.0);
      counts = record {
        value = λ v t n found items valued.
            ap (list_any (counts_at net v)) pushed ∙ any_push (counts_at net v) bits m ∙ ap (λ c. c || counts_at net v m) (sofar.counts.value v t n found items valued)
            ∙ ap (λ c. list_any (raised b items halt) (take end ks) || c) (q.1.value v t n found items valued) ∙ sym (taken b items halt ks end k low is);
      };
    }

pub all_bits : (net : Net) (s : Scene) (halt : Bool) (ks : List ℕ) (bits : List Masked) (end : ℕ) → length ks ≤ end → BitsTo net s halt ks bits end → IsRead s.base.now.block.now s.base.now.inlet net (λ x. list_any (counts_at net x) bits) (λ n v. list_any (raised s.base.now.block.now v halt) ks)
all_bits net s halt ks bits end past sofar = record { value = λ v t n found items valued. sofar.counts.value v t n found items valued ∙ ap (list_any (raised s.base.now.block.now items halt)) (take_all end ks past) }

-- a member that was read
pub read_member : (net : Net) (s : Scene) (r i k : ℕ) (ks : List ℕ) → IsBase net s.base.now → ks ≡ members_among s.base.now.block.now.fields r → i < length ks → k ≡ get_or ks i 0 → IsInterrupt s.base.now.block.now.fields r k
read_member net s r i k ks base e low is = member_is s.base.now.block.now.fields r i k (ap (λ xs. slice_get xs i) (sym e) ∙ (slice_get-get_or ks i 0 low ∙ ap Some (sym is)))

pub member_low : (net : Net) (s : Scene) (r i : ℕ) (ks : List ℕ) → IsBase net s.base.now → ks ≡ members_among s.base.now.block.now.fields r → i < length ks → get_or ks i 0 < length s.base.now.block.now.fields
member_low net s r i ks base e low = let q = read_member net s r i (get_or ks i 0) ks base e low refl in slice_get_within s.base.now.block.now.fields (get_or ks i 0) q.field q.here

pub member_counts : (net : Net) (s : Scene) (halt : Bool) (r i : ℕ) (ks : List ℕ) (f : Field) → IsBase net s.base.now → HasLine net s halt r → ks ≡ members_among s.base.now.block.now.fields r → i < length ks → slice_get s.base.now.block.now.fields (get_or ks i 0) ≡ Some f
    → Counts net s halt (get_or ks i 0) (line_bits s halt (get_or ks i 0) f)
member_counts net s halt r i ks f base line e low here =
    let k = get_or ks i 0 in
    let q = read_member net s r i k ks base e low refl in
    bits_count net s halt r k f base line here (ap (λ g. is_member r (k, g)) (same_Some f q.field (sym here ∙ q.here)) ∙ q.member)
