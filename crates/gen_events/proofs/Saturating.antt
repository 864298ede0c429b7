-- A level in place of a value, where a count passes it.
use Rattle.std.proofs.Common.{ℕ, ◌==◌, ◌&&◌, Bool, if◌then◌else◌, refl}
use Rattle.std.specs.Prelude.{nat_lt}
use Rattle.rtl_net.specs.Value.{At, bit_of}
use Rattle.rtl_net.specs.Net.{Net, Settles, Grows, IsNode, Stands, width_in}
use Rattle.rtl_net.specs.declared.node.Id.{Id}
use Rattle.rtl_net.proofs.Nets.{IsNode-is, Stands-grows}
use Rattle.gen_events.proofs.Wraps.{bit_is_one}

pub saturated : (n0 n1 n2 n3 : Net) (w : ℕ) (test : At → Bool) (passed acts id level other by : Id) → Grows n0 n1 → Grows n1 n2 → Grows n2 n3 → Stands n0 level w
    → IsNode n1 passed 1 (λ x. bit_of (test x)) → IsNode n2 acts 1 (λ x. bit_of (nat_lt 0 (x.node by.0) && x.node passed.0 == 1))
    → IsNode n3 id (width_in n2 level) (λ x. if x.node acts.0 == 1 then x.node level.0 else x.node other.0)
    → IsNode n3 id w (λ x. if nat_lt 0 (x.node by.0) && test x then x.node level.0 else x.node other.0)
saturated n0 n1 n2 n3 w test passed acts id level other by g h k l p a n =
    IsNode-is n3 id (width_in n2 level) w _ _ n (Stands-grows n1 n2 level w h (Stands-grows n0 n1 level w g l)).width (λ x s.
    let s2 : Settles n2 x = k.settles x s in
    let s1 : Settles n1 x = h.settles x s2 in
    rw (a.value x s2, p.value x s1, bit_is_one, bit_is_one) refl)
