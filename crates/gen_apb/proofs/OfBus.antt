-- Nodes that are worth what a bus's pins and kept values make.
use Rattle.std.proofs.Common.{◌≡◌, ℕ, zero, suc, ◌<◌, ◌==◌, Bool, true, false, not, ◌&&◌, refl, ap, ◌∙◌, arith}
use Rattle.rb_base.specs.declared.ports.Pin.{Pin}
use Rattle.rtl_net.specs.Value.{At, bit_of}
use Rattle.rtl_net.specs.Net.{Net, Settles, Extends, Grows, IsNode}
use Rattle.rtl_net.specs.declared.node.Id.{Id}
use Rattle.rtl_net.proofs.Nets.{Extends-grows, IsNode-extends, Stands-extends}
use Rattle.rb_model.specs.declared.block.Block.{Block}
use Rattle.rb_model.specs.Kept.{Map}
use Rattle.rb_model.specs.Protocol.{Bus, bus_of}
use Rattle.gen_scene.specs.Bases.{IsPinNode}
use Rattle.gen_apb.specs.Bus.{IsOfBus, Meets}

pub is_one : (c : Bool) → (bit_of c == 1) ≡ c
is_one true = refl
is_one false = refl

pub is_zero : (c : Bool) → (bit_of c == 0) ≡ not c
is_zero true = refl
is_zero false = refl

-- a bit by its number
pub bit_is : (x : ℕ) → x < 2 → x ≡ bit_of (x == 1)
bit_is zero l = refl
bit_is (suc zero) l = refl
bit_is (suc (suc x)) l = absurd (omega arith)

pub pin_node-extends : (old new : Net) (id : Id) (p : Pin) → Extends old new → IsPinNode old id p → IsPinNode new id p
pin_node-extends old new id p x h = record { input = x.inputs id p.name p.width h.input; node = IsNode-extends old new id p.width (λ v. v.ins p.name) x h.node }

module _ (b : Block) where
  pub of_bus-extends : (old new : Net) (id : Id) (w : ℕ) (g : Bus → Map → ℕ) → Extends old new → IsOfBus b old id w g → IsOfBus b new id w g
  of_bus-extends old new id w g x h = record { stands = Stands-extends old new id w x h.stands; value = λ v s. h.value v (x.settles v s) }

  pub of_bus-grows : (old new : Net) (id : Id) (w : ℕ) (g : Bus → Map → ℕ) → Grows old new → IsOfBus b old id w g → IsOfBus b new id w g
  of_bus-grows old new id w g x h = of_bus-extends old new id w g (Extends-grows old new x) h

  -- the same worth in other words
  pub of_bus_as : (net : Net) (id : Id) (w : ℕ) (f g : Bus → Map → ℕ) → IsOfBus b net id w f → ((p : Bus) (m : Map) → f p m ≡ g p m) → IsOfBus b net id w g
  of_bus_as net id w f g h e = record { stands = h.stands; value = λ v s m t. h.value v s m t ∙ e (bus_of v.ins) m }

  pub of_node : (net : Net) (id : Id) (w : ℕ) (f : At → ℕ) (g : Bus → Map → ℕ) → IsNode net id w f → ((v : At) → Settles net v → (m : Map) → Meets b v m → f v ≡ g (bus_of v.ins) m) → IsOfBus b net id w g
  of_node net id w f g h e = record { stands = h.stands; value = λ v s m t. h.value v s ∙ e v s m t }

  pub of_both : (old new : Net) (x y id : Id) (f g : Bus → Map → Bool) → Grows old new → IsNode new id 1 (λ v. bit_of (v.node x.0 == 1 && v.node y.0 == 1))
      → IsOfBus b old x 1 (λ p m. bit_of (f p m)) → IsOfBus b old y 1 (λ p m. bit_of (g p m)) → IsOfBus b new id 1 (λ p m. bit_of (f p m && g p m))
  of_both old new x y id f g grows h hx hy = record {
    stands = h.stands;
    value = λ v s m t.
        let p = bus_of v.ins in
        let first : (v.node x.0 == 1) ≡ f p m = ap (λ k. k == 1) (hx.value v (grows.settles v s) m t) ∙ is_one (f p m) in
        let second : (v.node y.0 == 1) ≡ g p m = ap (λ k. k == 1) (hy.value v (grows.settles v s) m t) ∙ is_one (g p m) in
        h.value v s ∙ ap (λ c. bit_of (c && v.node y.0 == 1)) first ∙ ap (λ c. bit_of (f p m && c)) second;
  }

  pub of_opposite : (old new : Net) (x id : Id) (f : Bus → Map → Bool) → Grows old new → IsNode new id 1 (λ v. bit_of (v.node x.0 == 0)) → IsOfBus b old x 1 (λ p m. bit_of (f p m)) → IsOfBus b new id 1 (λ p m. bit_of (not (f p m)))
  of_opposite old new x id f grows h hx = record {
    stands = h.stands;
    value = λ v s m t.
        let p = bus_of v.ins in
        h.value v s ∙ ap (λ k. bit_of (k == 0)) (hx.value v (grows.settles v s) m t) ∙ ap bit_of (is_zero (f p m));
  }
