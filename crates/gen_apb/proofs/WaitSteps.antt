-- The registers of a wait state, and what they make of an access.
use Rattle.std.proofs.Common.{◌≡◌, ◌≢◌, ℕ, ◌<◌, ◌^◌, ◌==◌, Bool, true, false, not, ◌&&◌, if◌then◌else◌, Some, List, [], ◌∷◌, ◌++◌, map, codes, slice_get, refl, ap, sym, ◌∙◌, subst, eqb-true}
use Rattle.std.proofs.lemmas.List.{map-append}
use Rattle.rb_base.specs.declared.ports.Pin.{Pin}
use Rattle.rtl_net.specs.Value.{At, bit_of, under}
use Rattle.rtl_net.specs.Net.{Net, Settles, Extends, Grows, Keeps, Awaits, CanDrive, CanReset, IsNode, Stands, registers_of, width_in}
use Rattle.rtl_net.specs.Ports.{IsNew, register_names}
use Rattle.rtl_net.specs.declared.node.Id.{Id}
use Rattle.rtl_net.specs.declared.node.NetReset.{NetReset}
use Rattle.rtl_net.specs.declared.node.NetReset.TheVariants as resets
use Rattle.rtl_net.proofs.Nets.{Extends-grows, Extends-trans, Grows-trans, IsNode-extends, Stands-extends, Stands-grows, fits_at}
use Rattle.rtl_net.proofs.Others.{IsNew-pushed}
use Rattle.rb_model.proofs.OwnViews.{by_cases}
use Rattle.rb_model.specs.declared.block.Block.{Block}
use Rattle.rb_model.specs.Kept.{Waited, Error, has_wait}
use Rattle.rb_model.specs.Ports.{pin}
use Rattle.rb_model.specs.Protocol.{bus_of}
use Rattle.rb_model.specs.Run.{carries, closes, is_access, is_unmapped}
use Rattle.gen_scene.specs.Bases.{IsPinNode}
use Rattle.gen_apb.specs.declared.waiting.Held.{Held}
use Rattle.gen_apb.specs.Bus.{IsOfBus, cleared}
use Rattle.gen_apb.specs.Fronts.{KeepsAccess, ShowsData}
use Rattle.gen_apb.specs.Waits.{AreHeld}
use Rattle.gen_apb.proofs.OfBus.{pin_node-extends, bit_is, is_one, of_both, of_bus-grows, of_bus_as, of_node, of_opposite}

-- a reset by PRESETn
abbrev pub by_resetn : Id → NetReset
by_resetn resetn = resets.Async resetn true 0

pub can_clear : (net : Net) (resetn : Id) (w : ℕ) → IsPinNode net resetn (pin (codes "PRESETn") 1) → 0 < 2 ^ w → CanReset net w (by_resetn resetn)
can_clear net resetn w h some = (codes "PRESETn", h.input, refl, some)

pub cleared_node : (net : Net) (resetn id : Id) (name : List ℕ) (w : ℕ) → IsPinNode net resetn (pin (codes "PRESETn") 1) → IsNode net id w (λ v. under v.node (by_resetn resetn) (v.kept name)) → IsNode net id w (cleared name)
cleared_node net resetn id name w p h = record { stands = h.stands; value = λ v s. h.value v s ∙ ap (λ r. if r == 0 then 0 else v.kept name) (p.node.value v s) }

pub error_new : (old new : Net) → new.seats ≡ old.seats → registers_of new.nodes ≡ registers_of old.nodes ++ record { name = codes "apb$wait"; width = 1 } ∷ [] → IsNew old (codes "apb$error") → IsNew new (codes "apb$error")
error_new old new seats registers h =
    let names : register_names new ≡ register_names old ++ codes "apb$wait" ∷ [] = ap (map (λ (r : Pin). r.name)) registers ∙ map-append (λ (r : Pin). r.name) (registers_of old.nodes) (record { name = codes "apb$wait"; width = 1 } ∷ []) in
    IsNew-pushed old new (codes "apb$wait") seats names (codes "apb$error") refl h

pub are_held : (n0 n1 n2 : Net) (resetn : Id) (h : Held) → IsPinNode n0 resetn (pin (codes "PRESETn") 1) → Extends n0 n1 → Extends n1 n2 → Keeps n1 n2
    → Awaits n1 h.waited (codes "apb$wait") 1 (by_resetn resetn) → IsNode n1 h.waited 1 (λ v. under v.node (by_resetn resetn) (v.kept (codes "apb$wait")))
    → Awaits n2 h.error (codes "apb$error") 1 (by_resetn resetn) → IsNode n2 h.error 1 (λ v. under v.node (by_resetn resetn) (v.kept (codes "apb$error"))) → AreHeld n2 resetn h
are_held n0 n1 n2 resetn h p x y k waited waited_node error error_node =
    let p1 = pin_node-extends n0 n1 resetn (pin (codes "PRESETn") 1) x p in
    let p2 = pin_node-extends n1 n2 resetn (pin (codes "PRESETn") 1) y p1 in
    record {
      waited = k.awaits h.waited (codes "apb$wait") 1 (by_resetn resetn) waited;
      error = error;
      waited_node = IsNode-extends n1 n2 h.waited 1 (cleared (codes "apb$wait")) y (cleared_node n1 resetn h.waited (codes "apb$wait") 1 p1 waited_node);
      error_node = cleared_node n2 resetn h.error (codes "apb$error") 1 p2 error_node;
    }

pub held-grows : (old new : Net) (resetn : Id) (h : Held) → Grows old new → AreHeld old resetn h → AreHeld new resetn h
held-grows old new resetn h g k = record {
  waited = g.awaits h.waited (codes "apb$wait") 1 (by_resetn resetn) k.waited;
  error = g.awaits h.error (codes "apb$error") 1 (by_resetn resetn) k.error;
  waited_node = IsNode-extends old new h.waited 1 (cleared (codes "apb$wait")) (Extends-grows old new g) k.waited_node;
  error_node = IsNode-extends old new h.error 1 (cleared (codes "apb$error")) (Extends-grows old new g) k.error_node;
}

-- The vectors of an access

waited_bit : (b : Block) (net : Net) (id : Id) → has_wait b ≡ true → IsNode net id 1 (cleared (codes "apb$wait")) → IsOfBus b net id 1 (λ p m. bit_of (m Waited == 1))
waited_bit b net id w h = of_node b net id 1 (cleared (codes "apb$wait")) (λ p m. bit_of (m Waited == 1)) h (λ v s m t.
    let low : cleared (codes "apb$wait") v < 2 = subst (λ x. x < 2) (h.value v s) (fits_at net v id 1 s h.stands) in
    bit_is (cleared (codes "apb$wait") v) low ∙ ap (λ x. bit_of (x == 1)) (sym (t.waited w)))

pub carrying : (b : Block) (n0 n1 n2 : Net) (accessed waited first id : Id) → has_wait b ≡ true → IsOfBus b n0 accessed 1 (λ p m. bit_of (is_access p)) → IsNode n0 waited 1 (cleared (codes "apb$wait"))
    → Grows n0 n1 → Grows n1 n2 → IsNode n1 first 1 (λ v. bit_of (v.node waited.0 == 0)) → IsNode n2 id 1 (λ v. bit_of (v.node accessed.0 == 1 && v.node first.0 == 1)) → IsOfBus b n2 id 1 (λ p m. bit_of (carries b p m))
carrying b n0 n1 n2 accessed waited first id w access h g1 g2 first_node node =
    let first_is : IsOfBus b n1 first 1 (λ p m. bit_of (not (m Waited == 1))) = of_opposite b n0 n1 waited first (λ p m. m Waited == 1) g1 first_node (waited_bit b n0 waited w h) in
    let later : IsOfBus b n1 accessed 1 (λ p m. bit_of (is_access p)) = of_bus-grows b n0 n1 accessed 1 (λ p m. bit_of (is_access p)) g1 access in
    of_bus_as b n2 id 1 (λ p m. bit_of (is_access p && not (m Waited == 1))) (λ p m. bit_of (carries b p m)) (of_both b n1 n2 accessed first id (λ p m. is_access p) (λ p m. not (m Waited == 1)) g2 node later first_is)
    (λ p m. ap (λ c. bit_of (is_access p && not (c && m Waited == 1))) (sym w))

pub closing : (b : Block) (n0 n2 n3 : Net) (accessed waited id : Id) → has_wait b ≡ true → IsOfBus b n0 accessed 1 (λ p m. bit_of (is_access p)) → IsNode n0 waited 1 (cleared (codes "apb$wait"))
    → Grows n0 n2 → Grows n2 n3 → IsNode n3 id 1 (λ v. bit_of (v.node accessed.0 == 1 && v.node waited.0 == 1)) → IsOfBus b n3 id 1 (λ p m. bit_of (closes b p m))
closing b n0 n2 n3 accessed waited id w access h g1 g2 node =
    of_bus_as b n3 id 1 (λ p m. bit_of (is_access p && m Waited == 1)) (λ p m. bit_of (closes b p m))
    (of_both b n0 n3 accessed waited id (λ p m. is_access p) (λ p m. m Waited == 1) (Grows-trans n0 n2 n3 g1 g2) node access (waited_bit b n0 waited w h))
    (λ p m. ap (λ c. bit_of (c && is_access p && m Waited == 1)) (sym w))

both_or_none : (c : Bool) (x : ℕ) → x < 2 → bit_of (c && x == 1) ≡ (if c then x else 0)
both_or_none true x l = sym (bit_is x l)
both_or_none false x l = refl

pub failing : (b : Block) (old new : Net) (closes_id error id : Id) → has_wait b ≡ true → IsOfBus b old closes_id 1 (λ p m. bit_of (closes b p m)) → IsNode old error 1 (cleared (codes "apb$error"))
    → Grows old new → IsNode new id 1 (λ v. bit_of (v.node closes_id.0 == 1 && v.node error.0 == 1)) → IsOfBus b new id 1 (λ p m. if closes b p m then m Error else 0)
failing b old new closes_id error id w c h g node = of_node b new id 1 _ (λ p m. if closes b p m then m Error else 0) node (λ v s m t.
    let before = g.settles v s in
    let e : v.node error.0 ≡ m Error = h.value v before ∙ sym (t.error w) in
    let low : m Error < 2 = subst (λ x. x < 2) e (fits_at old v error 1 before h.stands) in
    let first : (v.node closes_id.0 == 1) ≡ closes b (bus_of v.ins) m = ap (λ k. k == 1) (c.value v before m t) ∙ is_one (closes b (bus_of v.ins) m) in
    ap (λ x. bit_of (x && v.node error.0 == 1)) first ∙ ap (λ x. bit_of (closes b (bus_of v.ins) m && x == 1)) e ∙ both_or_none (closes b (bus_of v.ins) m) (m Error) low)

-- What the registers take

cleared_bit : (r x : ℕ) (f : ℕ → Bool) → f 0 ≡ false → x ≡ bit_of (f r) → (if r == 0 then 0 else x) ≡ bit_of (f r)
cleared_bit r x f h e = by_cases (r == 0)
    (λ t. ap (λ c. if c then 0 else x) t ∙ ap bit_of (sym (ap f (eqb-true r 0 t) ∙ h)))
    (λ n. ap (λ c. if c then 0 else x) n ∙ e)

pub keeps_access : (b : Block) (n0 n1 n2 : Net) (resetn : Id) (h : Held) (c fails : Id) → IsPinNode n0 resetn (pin (codes "PRESETn") 1) → Extends n0 n1 → Extends n1 n2
    → IsOfBus b n0 c 1 (λ p m. bit_of (carries b p m)) → IsOfBus b n0 fails 1 (λ p m. bit_of (carries b p m && is_unmapped b p))
    → ((v : At) → Settles n1 v → v.after (codes "apb$wait") ≡ under v.node (by_resetn resetn) (v.node c.0)) → ((v : At) → Settles n2 v → v.after (codes "apb$error") ≡ under v.node (by_resetn resetn) (v.node fails.0)) → KeepsAccess b n2
keeps_access b n0 n1 n2 resetn h c fails p x y carries_is fails_is waited error = record {
  waited = λ v s m t.
      let s1 = y.settles v s in
      let s0 = x.settles v s1 in
      let q = bus_of v.ins in
      waited v s1 ∙ ap (λ r. if r == 0 then 0 else v.node c.0) (p.node.value v s0)
      ∙ cleared_bit (v.ins (codes "PRESETn")) (v.node c.0) (λ r. (r == 1 && q.select == 1 && q.enable == 1) && not (has_wait b && m Waited == 1)) refl (carries_is.value v s0 m t);
  failed = λ v s m t.
      let s0 = x.settles v (y.settles v s) in
      let q = bus_of v.ins in
      error v s ∙ ap (λ r. if r == 0 then 0 else v.node fails.0) (p.node.value v s0)
      ∙ cleared_bit (v.ins (codes "PRESETn")) (v.node fails.0) (λ r. ((r == 1 && q.select == 1 && q.enable == 1) && not (has_wait b && m Waited == 1)) && is_unmapped b q) refl (fails_is.value v s0 m t);
}

-- no node is two registers
pub held_apart : (net : Net) (resetn : Id) (h : Held) → AreHeld net resetn h → h.error.0 ≢ h.waited.0
held_apart net resetn h k e = let q = sym k.error.is ∙ ap (slice_get net.nodes) e ∙ k.waited.is in cc q

-- The data

abbrev data_name : List ℕ
data_name = codes "apb$data"

pub can_drive_data : (n0 n1 n2 n3 : Net) (resetn answer d : Id) → Extends n0 n1 → Grows n1 n2 → Grows n2 n3 → Awaits n1 d (codes "apb$data") 32 (by_resetn resetn) → Stands n0 answer 32
    → Awaits n3 d (codes "apb$data") 32 (by_resetn resetn) × CanDrive n3 d answer
can_drive_data n0 n1 n2 n3 resetn answer d x g h waits stands =
    let there : Awaits n3 d data_name 32 (by_resetn resetn) = h.awaits d data_name 32 (by_resetn resetn) (g.awaits d data_name 32 (by_resetn resetn) waits) in
    let x3 : Extends n0 n3 = Extends-trans n0 n1 n3 x (Extends-grows n1 n3 (Grows-trans n1 n2 n3 g h)) in
    (there, record { name = data_name; width = 32; reset = by_resetn resetn; awaits = there; stands = Stands-extends n0 n3 answer 32 x3 stands })

pub shows_data : (n0 n1 n2 n3 n4 : Net) (resetn closes_id answer d z shown : Id) → IsPinNode n0 resetn (pin (codes "PRESETn") 1) → Extends n0 n1 → Grows n1 n2 → Grows n2 n3 → Extends n3 n4
    → IsNode n1 d 32 (λ v. under v.node (by_resetn resetn) (v.kept (codes "apb$data"))) → IsNode n2 z 32 (λ v. 0) → IsNode n3 shown (width_in n2 d) (λ v. if v.node closes_id.0 == 1 then v.node d.0 else v.node z.0)
    → ((v : At) → Settles n4 v → v.after (codes "apb$data") ≡ under v.node (by_resetn resetn) (v.node answer.0)) → ShowsData n4 (Some closes_id) answer shown
shows_data n0 n1 n2 n3 n4 resetn closes_id answer d z shown p x g h y kept none chosen after =
    let p1 = pin_node-extends n0 n1 resetn (pin (codes "PRESETn") 1) x p in
    let is : IsNode n1 d 32 (cleared data_name) = cleared_node n1 resetn d data_name 32 p1 kept in
    let wide : width_in n2 d ≡ 32 = (Stands-grows n1 n2 d 32 g is.stands).width in (
      Stands-extends n3 n4 shown 32 y (subst (Stands n3 shown) wide chosen.stands),
      (λ v s.
          let s3 = y.settles v s in
          let s2 = h.settles v s3 in
          let s1 = g.settles v s2 in
          chosen.value v s3 ∙ ap (λ k. if v.node closes_id.0 == 1 then k else v.node z.0) (is.value v s1) ∙ ap (λ k. if v.node closes_id.0 == 1 then cleared data_name v else k) (none.value v s2)),
      (λ v s. after v s ∙ ap (λ r. if r == 0 then 0 else v.node answer.0) (p1.node.value v (g.settles v (h.settles v (y.settles v s))))),
    )
