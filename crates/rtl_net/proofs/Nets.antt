-- What composes: older nodes stand in a netlist that extends theirs.
use Rattle.std.proofs.Common.{ℕ, ◌≡◌, ◌<◌, ◌^◌, length, refl, sym, ◌∙◌, subst, arith}
use Rattle.rtl_net.specs.Value.{At, expr_width, expr_value}
use Rattle.rtl_net.specs.Net.{Net, Settles, Stands, Has, Extends, Keeps, Grows, IsNode, CanWire, CanReset, widths, width_in}
use Rattle.rtl_net.specs.declared.node.Id.{Id}
use Rattle.rtl_net.specs.declared.node.NetReset.{NetReset}
use Rattle.rtl_net.specs.declared.node.NetReset.TheVariants as resets
use Rattle.rtl_net.specs.declared.node.NetExpr.{NetExpr}
use Rattle.rtl_net.specs.declared.node.NetExpr.TheVariants.{Const, Part, Cat, Not, All, Any, Odd, Add, Sub, And, Or, Xor, Eq, Lt, Pick}

pub Extends-refl : (net : Net) → Extends net net
Extends-refl net = record { settles = λ v s. s; count = omega arith; width = λ id h. refl; inputs = λ id name w h. h; clock = λ h. h }

pub Extends-trans : (a b c : Net) → Extends a b → Extends b c → Extends a c
Extends-trans a b c p q = record {
  settles = λ v s. p.settles v (q.settles v s);
  count = omega arith;
  width = λ id h. let h' : id.0 < length b.nodes = omega arith in q.width id h' ∙ p.width id h;
  inputs = λ id name w h. q.inputs id name w (p.inputs id name w h);
  clock = λ h. q.clock (p.clock h);
}

pub Keeps-refl : (net : Net) → Keeps net net
Keeps-refl net = record { awaits = λ id name w reset h. h }

pub Keeps-trans : (a b c : Net) → Keeps a b → Keeps b c → Keeps a c
Keeps-trans a b c p q = record { awaits = λ id name w reset h. q.awaits id name w reset (p.awaits id name w reset h) }

pub Grows-refl : (net : Net) → Grows net net
Grows-refl net = record {
  settles = λ v s. s;
  count = omega arith;
  width = λ id h. refl;
  inputs = λ id name w h. h;
  clock = λ h. h;
  awaits = λ id name w reset h. h;
  registers = refl;
  undriven = refl;
  seats = refl;
}

pub Grows-trans : (a b c : Net) → Grows a b → Grows b c → Grows a c
Grows-trans a b c p q = record {
  settles = λ v s. p.settles v (q.settles v s);
  count = omega arith;
  width = λ id h. let h' : id.0 < length b.nodes = omega arith in q.width id h' ∙ p.width id h;
  inputs = λ id name w h. q.inputs id name w (p.inputs id name w h);
  clock = λ h. q.clock (p.clock h);
  awaits = λ id name w reset h. q.awaits id name w reset (p.awaits id name w reset h);
  registers = q.registers ∙ p.registers;
  undriven = q.undriven ∙ p.undriven;
  seats = q.seats ∙ p.seats;
}

pub Extends-grows : (a b : Net) → Grows a b → Extends a b
Extends-grows a b p = record { settles = p.settles; count = p.count; width = p.width; inputs = p.inputs; clock = p.clock }

pub Keeps-grows : (a b : Net) → Grows a b → Keeps a b
Keeps-grows a b p = record { awaits = p.awaits }

pub Has-extends : (a b : Net) (id : Id) → Extends a b → Has a id → Has b id
Has-extends a b id p h = let e : width_in b id ≡ width_in a id = p.width id h.0 in (omega arith, omega arith)

pub Has-grows : (a b : Net) (id : Id) → Grows a b → Has a id → Has b id
Has-grows a b id p h = Has-extends a b id (Extends-grows a b p) h

pub Stands-extends : (a b : Net) (id : Id) (w : ℕ) → Extends a b → Stands a id w → Stands b id w
Stands-extends a b id w p s = record { below = omega arith; some = s.some; width = p.width id s.below ∙ s.width }

pub Stands-grows : (a b : Net) (id : Id) (w : ℕ) → Grows a b → Stands a id w → Stands b id w
Stands-grows a b id w p s = Stands-extends a b id w (Extends-grows a b p) s

pub Stands-has : (net : Net) (id : Id) (w : ℕ) → Stands net id w → Has net id
Stands-has net id w s = (s.below, omega arith)

pub Has-stands : (net : Net) (id : Id) → Has net id → Stands net id (width_in net id)
Has-stands net id h = record { below = h.0; some = h.1; width = refl }

pub IsNode-extends : (a b : Net) (id : Id) (w : ℕ) (f : At → ℕ) → Extends a b → IsNode a id w f → IsNode b id w f
IsNode-extends a b id w f p n = record { stands = Stands-extends a b id w p n.stands; value = λ v s. n.value v (p.settles v s) }

pub IsNode-grows : (a b : Net) (id : Id) (w : ℕ) (f : At → ℕ) → Grows a b → IsNode a id w f → IsNode b id w f
IsNode-grows a b id w f p n = IsNode-extends a b id w f (Extends-grows a b p) n

-- a node of another reading of the same value
pub IsNode-is : (net : Net) (id : Id) (w u : ℕ) (f g : At → ℕ) → IsNode net id w f → w ≡ u → ((v : At) → Settles net v → f v ≡ g v) → IsNode net id u g
IsNode-is net id w u f g n e h = record { stands = subst (λ x. Stands net id x) e n.stands; value = λ v s. n.value v s ∙ h v s }

-- a node's value is within its width
pub fits_at : (net : Net) (v : At) (id : Id) (w : ℕ) → Settles net v → Stands net id w → v.node id.0 < 2 ^ w
fits_at net v id w s t = subst (λ n. v.node id.0 < 2 ^ n) t.width (s.fits id (Stands-has net id w t))

-- where the operands keep their widths, so do expressions, and their values stay
module _ (a b : Net) (same : (id : Id) → id.0 < length a.nodes → width_in b id ≡ width_in a id) where
  pub expr_width-same : (e : NetExpr) → CanWire a e → expr_width (widths b) e ≡ expr_width (widths a) e
  expr_width-same (Const w x) h = refl
  expr_width-same (Part x hi lo) h = refl
  expr_width-same (Cat x y) h = rw (same x h.0.0, same y h.1.0) refl
  expr_width-same (Not x) h = same x h.0
  expr_width-same (All x) h = refl
  expr_width-same (Any x) h = refl
  expr_width-same (Odd x) h = refl
  expr_width-same (Add x y) h = same x h.0.0
  expr_width-same (Sub x y) h = same x h.0.0
  expr_width-same (And x y) h = same x h.0.0
  expr_width-same (Or x y) h = same x h.0.0
  expr_width-same (Xor x y) h = same x h.0.0
  expr_width-same (Eq x y) h = refl
  expr_width-same (Lt x y) h = refl
  expr_width-same (Pick c x y) h = same x h.1.0

  pub expr_value-same : (v : ℕ → ℕ) (e : NetExpr) → CanWire a e → expr_value (widths b) v e ≡ expr_value (widths a) v e
  expr_value-same v (Const w x) h = refl
  expr_value-same v (Part x hi lo) h = refl
  expr_value-same v (Cat x y) h = rw (same y h.1.0) refl
  expr_value-same v (Not x) h = rw (same x h.0) refl
  expr_value-same v (All x) h = rw (same x h.0) refl
  expr_value-same v (Any x) h = refl
  expr_value-same v (Odd x) h = refl
  expr_value-same v (Add x y) h = rw (same x h.0.0) refl
  expr_value-same v (Sub x y) h = rw (same x h.0.0) refl
  expr_value-same v (And x y) h = refl
  expr_value-same v (Or x y) h = refl
  expr_value-same v (Xor x y) h = refl
  expr_value-same v (Eq x y) h = refl
  expr_value-same v (Lt x y) h = refl
  expr_value-same v (Pick c x y) h = refl

module _ (a b : Net) (p : Extends a b) where
  has : (id : Id) → Has a id → Has b id
  has id h = Has-extends a b id p h

  pair : (x y : Id) → Has a x → Has a y → width_in a x ≡ width_in a y → Has b x × Has b y × (width_in b x ≡ width_in b y)
  pair x y g h e = (has x g, has y h, p.width x g.0 ∙ e ∙ sym (p.width y h.0))

  pub CanWire-extends : (e : NetExpr) → CanWire a e → CanWire b e
  CanWire-extends (Const w x) h = h
  CanWire-extends (Part x hi lo) h = (has x h.0, h.1, let e : width_in b x ≡ width_in a x = p.width x h.0.0 in omega arith)
  CanWire-extends (Cat x y) h = (
    has x h.0,
    has y h.1,
    let e : width_in b x ≡ width_in a x = p.width x h.0.0 in
        let f : width_in b y ≡ width_in a y = p.width y h.1.0 in
        omega arith,
  )
  CanWire-extends (Not x) h = has x h
  CanWire-extends (All x) h = has x h
  CanWire-extends (Any x) h = has x h
  CanWire-extends (Odd x) h = has x h
  CanWire-extends (Add x y) h = pair x y h.0 h.1 h.2
  CanWire-extends (Sub x y) h = pair x y h.0 h.1 h.2
  CanWire-extends (And x y) h = pair x y h.0 h.1 h.2
  CanWire-extends (Or x y) h = pair x y h.0 h.1 h.2
  CanWire-extends (Xor x y) h = pair x y h.0 h.1 h.2
  CanWire-extends (Eq x y) h = pair x y h.0 h.1 h.2
  CanWire-extends (Lt x y) h = pair x y h.0 h.1 h.2
  CanWire-extends (Pick c x y) h =
      let r = pair x y h.1 h.2 h.4 in
      (has c h.0, r.0, r.1, p.width c h.0.0 ∙ h.3, r.2)

  pub CanReset-extends : (w : ℕ) (r : NetReset) → CanReset a w r → CanReset b w r
  CanReset-extends w resets.None h = tt
  CanReset-extends w (resets.Async pin low value) h = (h.0, p.inputs pin h.0 1 h.1, h.2, h.3)

-- what is built step by step
pub ruleset building = (Grows-trans, Grows-refl)
