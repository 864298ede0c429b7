-- One field after the other.
use Rattle.std.proofs.Common.{◌≡◌, ◌≢◌, ℕ, ◌+◌, ◌<◌, ◌≤◌, ◌==◌, nat_lt, Bool, true, false, if◌then◌else◌, Some, List, length, slice_get, refl, sym, ap, ◌∙◌, arith, inl, inr, ◌⊎◌}
use Rattle.std.proofs.lemmas.Option.{same_Some, slice_get_within}
use Rattle.rtl_net.specs.Net.{Net, Grows}
use Rattle.rtl_net.specs.declared.node.Id.{Id}
use Rattle.rb_model.specs.declared.block.Block.{Block}
use Rattle.rb_model.specs.declared.block.Field.{Field}
use Rattle.rb_model.specs.Items.{Now, ItemValues}
use Rattle.rb_model.specs.Machine.{hardware}
use Rattle.gen_scene.specs.declared.base.Inlet.{Inlet}
use Rattle.gen_scene.specs.declared.scene.Scene.{Scene}
use Rattle.gen_scene.proofs.Worths.{HasField-grows, IsBase-grows}
use Rattle.gen_access.specs.Tables.{Changes, Step}
use Rattle.gen_scene.specs.Worth.{IsWorth}
use Rattle.plain_lemmas.proofs.Numbers.{same_or_other}
use Rattle.gen_clock.specs.Moves.{HasFields, IsMade, moved_in, moves_in}

pub HasFields-grows : (old new : Net) (s : Scene) → Grows old new → HasFields old s → HasFields new s
HasFields-grows old new s h v = record { base = IsBase-grows old new h s.base.now v.base; each = λ k f e. HasField-grows old new h s k f (v.each k f e) }

-- hardware moves the first fields
abbrev pub swept : Bool → ℕ → Step
swept last j n v k f x = if nat_lt k j then moved_in last n v k f x else x

abbrev pub swept_one : Bool → ℕ → Step
swept_one last j n v k f x = if k == j then moved_in last n v k f x else x

pub swept_none : (last : Bool) (n : Now) (v : ItemValues) (k : ℕ) (f : Field) (x : ℕ) → swept last 0 n v k f x ≡ x
swept_none last n v k f x = let e : nat_lt k 0 ≡ false = grind arith in rw e refl

pub swept_more : (last : Bool) (j : ℕ) (n : Now) (v : ItemValues) (k : ℕ) (f : Field) (x : ℕ) → swept_one last j n v k f (swept last j n v k f x) ≡ swept last (j + 1) n v k f x
swept_more last j n v k f x = by (where_is k j)
  where
    where_is : (k j : ℕ) → (((k == j) ≡ true) × (nat_lt k j ≡ false) × (nat_lt k (j + 1) ≡ true)) ⊎ (((k == j) ≡ false) × (nat_lt k j ≡ nat_lt k (j + 1)))
    where_is k j = grind arith

    by : (((k == j) ≡ true) × (nat_lt k j ≡ false) × (nat_lt k (j + 1) ≡ true)) ⊎ (((k == j) ≡ false) × (nat_lt k j ≡ nat_lt k (j + 1))) → swept_one last j n v k f (swept last j n v k f x) ≡ swept last (j + 1) n v k f x
    by (inl p) = ap (λ c. if c then moved_in last n v k f (swept last j n v k f x) else swept last j n v k f x) p.0 ∙ ap (λ c. moved_in last n v k f (if c then moved_in last n v k f x else x)) p.1 ∙ sym (ap (λ c. if c then moved_in last n v k f x else x) p.2)
    by (inr p) = ap (λ c. if c then moved_in last n v k f (swept last j n v k f x) else swept last j n v k f x) p.0 ∙ ap (λ c. if c then moved_in last n v k f x else x) p.1

-- all fields
pub swept_all : (b : Block) (a : Inlet) (old new : Net) (before after : List Id) (width : Field → ℕ) (last : Bool) (j : ℕ) → length b.fields ≤ j → Changes b a old new before after width (swept last j) → Changes b a old new before after width (moved_in last)
swept_all b a old new before after width last j past h = record {
  worth = λ g t. record {
    each = λ k f e.
        let r = (h.worth g t).each k f e in
        let low : nat_lt k j ≡ true = (let l = slice_get_within b.fields k f e in within k j (omega arith)) in
        record { stands = r.stands; value = λ x q n found items c. r.value x q n found items c ∙ ap (λ z. if z then moved_in last n items k f (g k f n items) else g k f n items) low };
  };
}
  where
    within : (i j : ℕ) → i < j → nat_lt i j ≡ true
    within i j l = grind arith

-- a field that hardware doesn't move
pub stays_one : (b : Block) (a : Inlet) (net : Net) (t : List Id) (width : Field → ℕ) (last : Bool) (j : ℕ) (f : Field) → slice_get b.fields j ≡ Some f → moves_in last f ≡ false → Changes b a net net t t width (swept_one last j)
stays_one b a net t width last j f here off = record {
  worth = λ g h. record {
    each = λ k e q.
        let r = h.each k e q in
        record { stands = r.stands; value = λ x s n found items c. r.value x s n found items c ∙ sym (by k e q (same_or_other k j) n items (g k e n items)) };
  };
}
  where
    by : (k : ℕ) (e : Field) → slice_get b.fields k ≡ Some e → ((k ≡ j) × ((k == j) ≡ true)) ⊎ ((k ≢ j) × ((k == j) ≡ false)) → (n : Now) (v : ItemValues) (x : ℕ) → swept_one last j n v k e x ≡ x
    by k e q (inl p) n v x =
        let same : f ≡ e = same_Some f e (sym here ∙ (ap (slice_get b.fields) (sym p.0) ∙ q)) in
        let still : moves_in last e ≡ false = ap (moves_in last) (sym same) ∙ off in
        ap (λ c. if c then moved_in last n v k e x else x) p.1 ∙ ap (λ c. if c then hardware n v k e x else x) still
    by k e q (inr p) n v x = ap (λ c. if c then moved_in last n v k e x else x) p.1

pub other_stays : (last : Bool) (j : ℕ) (n : Now) (v : ItemValues) (k : ℕ) (f : Field) (x : ℕ) → k ≢ j → swept_one last j n v k f x ≡ x
other_stays last j n v k f x ne = let e : (k == j) ≡ false = grind arith in ap (λ c. if c then moved_in last n v k f x else x) e

pub moves_here : (b : Block) (a : Inlet) (old new : Net) (v id : Id) (last : Bool) (k : ℕ) (f : Field) → moves_in last f ≡ true → IsMade b a old new v id f.width (λ n u x. hardware n u k f x)
    → (g : Now → ItemValues → ℕ) → IsWorth b a old v f.width g → IsWorth b a new id f.width (λ n u. swept_one last k n u k f (g n u))
moves_here b a old new v id last k f on made g was =
    let r = made.worth g was in
    let self : (k == k) ≡ true = grind arith in
    record {
      stands = r.stands;
      value = λ x s n found items c. r.value x s n found items c ∙ sym (ap (λ z. if z then moved_in last n items k f (g n items) else g n items) self ∙ ap (λ z. if z then hardware n items k f (g n items) else g n items) on);
    }
