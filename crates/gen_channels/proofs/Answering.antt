-- The responses of a port.
use Rattle.std.proofs.Common.{◌≡◌, ℕ, ◌*◌, ◌/◌, ◌==◌, Bool, true, false, not, ◌&&◌, if◌then◌else◌, Option, Some, None, refl, ap, sym, ◌∙◌}
use Rattle.std.specs.Prelude.{is_none, is_some}
use Rattle.rtl_net.specs.Value.{At, bit_of}
use Rattle.rtl_net.specs.Net.{Net, Grows, IsNode}
use Rattle.rtl_net.specs.declared.node.Id.{Id}
use Rattle.rtl_net.proofs.Nets.{IsNode-is}
use Rattle.rb_model.specs.declared.block.Block.{Block}
use Rattle.rb_model.specs.Run.{word_at}
use Rattle.rb_model.specs.Sound.{IsSound}
use Rattle.axi_model.specs.Channels.{read_response, reads, word_of, write_response, writes}
use Rattle.gen_ports.proofs.Finding.{written_as_read}
use Rattle.gen_channels.specs.Nodes.{kept_seen, pins_seen}
use Rattle.gen_channels.specs.Slaves.{address_seen}
use Rattle.gen_channels.proofs.Says.{one_is}

some_or_none : (o : Option ℕ) (x y : ℕ) → (if is_some o then x else y) ≡ (if is_none o then y else x)
some_or_none None x y = refl
some_or_none (Some i) x y = refl

-- what a node says of whether the word is there, and of whether all bytes are written
pub told_is : (old new : Net) (hit there id : Id) (t : At → Bool) (f : At → ℕ) → Grows old new → IsNode new id 2 (λ v. if v.node hit.0 == 1 then v.node there.0 else 3)
    → IsNode old hit 1 (λ v. bit_of (t v)) → IsNode old there 2 f → IsNode new id 2 (λ v. if t v then f v else 3)
told_is old new hit there id t f grows h ht hf = record {
  stands = h.stands;
  value = λ v s.
      let s0 = grows.settles v s in
      h.value v s ∙ ap (λ c. if c then v.node there.0 else 3) (ap (λ n. n == 1) (ht.value v s0) ∙ one_is (t v)) ∙ ap (λ n. if t v then n else 3) (hf.value v s0);
}

pub parted_is : (old new : Net) (whole id : Id) (t : At → Bool) → Grows old new → IsNode new id 2 (λ v. if v.node whole.0 == 1 then 0 else 2) → IsNode old whole 1 (λ v. bit_of (t v)) → IsNode new id 2 (λ v. if t v then 0 else 2)
parted_is old new whole id t grows h ht = record { stands = h.stands; value = λ v s. h.value v s ∙ ap (λ c. if c then 0 else 2) (ap (λ n. n == 1) (ht.value v (grows.settles v s)) ∙ one_is (t v)) }

-- where a write acts, the address of the access is its
written_same : (b : Block) → IsSound b → (w : Bool) (x y s r : ℕ)
    → (if w then (if is_some (word_at b.reads ((if w then x else y) / 4 * 4)) then (if s == 15 then 0 else 2) else 3) else r) ≡ (if w then write_response b x s else r)
written_same b sound true x y s r =
    some_or_none (word_of b.reads x) (if s == 15 then 0 else 2) 3 ∙ ap (λ o. if is_none o then 3 else (if s == 15 then 0 else 2)) (sym (written_as_read b sound (x / 4 * 4)))
written_same b sound false x y s r = refl

pub write_told : (b : Block) → IsSound b → (net : Net) (id : Id)
    → IsNode net id 2 (λ v. if writes (pins_seen v) (kept_seen v) then (if is_some (word_at b.reads (address_seen v)) then (if (kept_seen v).wstrb == 15 then 0 else 2) else 3) else (kept_seen v).bresp)
    → IsNode net id 2 (λ v. if writes (pins_seen v) (kept_seen v) then write_response b (kept_seen v).awaddr (kept_seen v).wstrb else (kept_seen v).bresp)
write_told b sound net id h = IsNode-is net id 2 2 _ _ h refl (λ v s. written_same b sound (writes (pins_seen v) (kept_seen v)) (kept_seen v).awaddr (pins_seen v).araddr (kept_seen v).wstrb (kept_seen v).bresp)

-- where a read acts, no write does
read_same : (b : Block) (w t u : Bool) (x y r : ℕ)
    → (if t && (u && not w) then (if is_some (word_at b.reads ((if w then x else y) / 4 * 4)) then 0 else 3) else r) ≡ (if t && (u && not w) then read_response b y else r)
read_same b true true true x y r = refl
read_same b true true false x y r = refl
read_same b true false u x y r = refl
read_same b false t u x y r = ap (λ n. if t && (u && true) then n else r) (some_or_none (word_of b.reads y) 0 3)

pub read_told : (b : Block) (net : Net) (id : Id)
    → IsNode net id 2 (λ v. if reads (pins_seen v) (kept_seen v) then (if is_some (word_at b.reads (address_seen v)) then 0 else 3) else (kept_seen v).rresp)
    → IsNode net id 2 (λ v. if reads (pins_seen v) (kept_seen v) then read_response b (pins_seen v).araddr else (kept_seen v).rresp)
read_told b net id h = IsNode-is net id 2 2 _ _ h refl (λ v s.
    let p = pins_seen v in
    let c = kept_seen v in
    read_same b (writes p c) (p.resetn == 1 && p.arvalid == 1) (c.r == 0) c.awaddr p.araddr c.rresp)
