-- One node more at the end.
use Rattle.std.specs.List.{list_any}
use Rattle.std.proofs.Common.{ℕ, ◌+◌, ◌≡◌, ◌<◌, ◌^◌, List, [], ◌∷◌, ◌++◌, length, get_or, refl, ap, sym, ◌∙◌, subst, arith, length-append, append-nil}
use Rattle.std.proofs.lemmas.List.Sums.{sum_by-append}
use Rattle.std.proofs.lemmas.List.Folds.{list_any-append}
use Rattle.rtl_net.specs.Value.{At, node_width, node_value}
use Rattle.rtl_net.specs.Net.{Net, Settles, Stands, is_clock, Extends, Keeps, Grows, IsNode, CanWire, widths, width_in, registers_of, undriven}
use Rattle.rtl_net.specs.Made.{IsMade, IsNodeMade}
use Rattle.rtl_net.specs.declared.node.Id.{Id}
use Rattle.rtl_net.specs.declared.node.NetExpr.{NetExpr}
use Rattle.rtl_net.specs.declared.node.NetNode.{NetNode}
use Rattle.rtl_net.specs.declared.node.NetNode.TheVariants.{Input, Register, Wire}
use Rattle.rtl_net.proofs.Places.{slice_get-front, slice_get-end}
use Rattle.rtl_net.proofs.NodeLists.{widths_after-push, length-widths}
use Rattle.rtl_net.proofs.Nets.{expr_value-same}
use Rattle.plain_lemmas.proofs.Bools.{or-left}
use Rattle.plain_lemmas.proofs.Lists.{get_or-end, get_or-front}

pub registers_of-push : (ns : List NetNode) (n : NetNode) → registers_of (ns ++ n ∷ []) ≡ registers_of ns ++ registers_of (n ∷ [])
registers_of-push [] n = refl
registers_of-push (Input name w ∷ ns) n = registers_of-push ns n
registers_of-push (Register name w reset next ∷ ns) n = ap (λ l. record { name = name; width = w } ∷ l) (registers_of-push ns n)
registers_of-push (Wire e ∷ ns) n = registers_of-push ns n

pub undriven-push : (ns : List NetNode) (n : NetNode) → undriven (ns ++ n ∷ []) ≡ undriven ns + undriven (n ∷ [])
undriven-push ns n = sum_by-append _ ns (n ∷ [])

-- the value of a node under the widths of a netlist that extends its own
pub node_value-same : (a b : Net) (same : (id : Id) → id.0 < length a.nodes → width_in b id ≡ width_in a id) (v : At) (i : ℕ) (n : NetNode)
    → IsNodeMade a i n → node_value v (widths b) n ≡ node_value v (widths a) n
node_value-same a b same v i (Input name w) m = refl
node_value-same a b same v i (Register name w reset next) m = refl
node_value-same a b same v i (Wire e) m = expr_value-same a b same v.node e m.0

-- the netlist with one node more
abbrev pub pushed : Net → NetNode → Net
pushed net n = record net { nodes = net.nodes ++ n ∷ [] }

module _ (net : Net) (n : NetNode) where
  pub width-front : (id : Id) → id.0 < length net.nodes → width_in (pushed net n) id ≡ width_in net id
  width-front id h =
      let b : id.0 < length (widths net) = rw (length-widths net.nodes) h in
      ap (λ ws. get_or ws id.0 0) (widths_after-push [] net.nodes n) ∙ get_or-front (widths net) (node_width (widths net) n) id.0 b

  pub width-end : (id : Id) → id.0 ≡ length net.nodes → width_in (pushed net n) id ≡ node_width (widths net) n
  width-end id e = ap (λ ws. get_or ws id.0 0) (widths_after-push [] net.nodes n) ∙ get_or-end (widths net) (node_width (widths net) n) id.0 (e ∙ sym (length-widths net.nodes))

  longer : length (net.nodes ++ n ∷ []) ≡ length net.nodes + 1
  longer = simp length-append

  pub pushed_extends : IsMade net → Extends net (pushed net n)
  pushed_extends made = record {
    settles = λ v s. record {
      edge = record {
        nodes = λ i m h. s.edge.nodes i m (slice_get-front net.nodes n i m h) ∙ node_value-same net (pushed net n) width-front v i m (made.nodes i m h);
        nexts = λ i name w reset next h. s.edge.nexts i name w reset next (slice_get-front net.nodes n i _ h);
        outs = s.edge.outs;
      };
      fits = λ id h. let e : width_in (pushed net n) id ≡ width_in net id = width-front id h.0 in
          subst (λ w. v.node id.0 < 2 ^ w) e (s.fits id (omega (arith, longer), omega arith));
    };
    count = omega (arith, longer);
    width = width-front;
    inputs = λ id name w h. record { is = slice_get-front net.nodes n id.0 _ h.is };
    clock = λ h. list_any-append is_clock net.nodes (n ∷ []) ∙ or-left (list_any is_clock net.nodes) (list_any is_clock (n ∷ [])) h;
  }

  pub pushed_keeps : Keeps net (pushed net n)
  pushed_keeps = record { awaits = λ id name w reset h. record { is = slice_get-front net.nodes n id.0 _ h.is } }

  pub pushed_stands : (id : Id) → id.0 ≡ length net.nodes → 0 < node_width (widths net) n → Stands (pushed net n) id (node_width (widths net) n)
  pushed_stands id e some = record { below = omega (arith, longer); some = some; width = width-end id e }

-- the last node's value
pub pushed_leaf : (net : Net) (n : NetNode) (id : Id) (seats : _) → id.0 ≡ length net.nodes → (v : At) → Settles (record net { nodes = net.nodes ++ n ∷ []; seats = seats }) v
    → v.node id.0 ≡ node_value v (widths (pushed net n)) n
pushed_leaf net n id seats e v s = s.edge.nodes id.0 n (slice_get-end net.nodes n id.0 e)

pub pushed_wire : (net : Net) (x : NetExpr) → IsMade net → CanWire net x → (id : Id) → id.0 ≡ length net.nodes → 0 < node_width (widths net) (Wire x)
    → IsNode (pushed net (Wire x)) id (node_width (widths net) (Wire x)) (λ v. node_value v (widths net) (Wire x))
pushed_wire net x made can id e some = record {
  stands = pushed_stands net (Wire x) id e some;
  value = λ v s. s.edge.nodes id.0 (Wire x) (slice_get-end net.nodes (Wire x) id.0 e) ∙ expr_value-same net (pushed net (Wire x)) (width-front net (Wire x)) v.node x can;
}

pub pushed_grows : (net : Net) (x : NetExpr) → IsMade net → Grows net (pushed net (Wire x))
pushed_grows net x made =
    let p = pushed_extends net (Wire x) made in
    record {
      settles = p.settles;
      count = p.count;
      width = p.width;
      inputs = p.inputs;
      clock = p.clock;
      awaits = (pushed_keeps net (Wire x)).awaits;
      registers = registers_of-push net.nodes (Wire x) ∙ simp (append-nil);
      undriven = undriven-push net.nodes (Wire x) ∙ omega arith;
      seats = refl;
    }
