-- A register that is tied to its next value.
use Rattle.std.specs.List.{slice_get, list_any}
use Rattle.std.proofs.Math.ListN.{set, length-set}
use Rattle.std.proofs.Common.{zero, suc, ℕ, ◌+◌, ◌≡◌, ◌<◌, ◌^◌, cond, List, [], ◌∷◌, length, get_or, map, Some, None, inl, inr, refl, ap, sym, ◌∙◌, subst, arith}
use Rattle.std.proofs.lemmas.Bool.{cases_eq}
use Rattle.std.proofs.lemmas.List.Sums.{sum_by-set}
use Rattle.std.proofs.lemmas.Option.{get_or_from_slice_get}
use Rattle.rtl_net.specs.Value.{At, under, node_value}
use Rattle.rtl_net.specs.Net.{Net, Settles, Stands, is_clock, Extends, Awaits, width_in, widths, registers_of, undriven, awaits_next}
use Rattle.rtl_net.specs.Ports.{seat_names}
use Rattle.rtl_net.specs.Made.{IsMade, AreNames, IsNodeMade}
use Rattle.rtl_net.specs.declared.node.Id.{Id}
use Rattle.rtl_net.specs.declared.node.NetReset.{NetReset}
use Rattle.rtl_net.specs.declared.node.NetExpr.{NetExpr}
use Rattle.rtl_net.specs.declared.node.NetNode.{NetNode}
use Rattle.rtl_net.specs.declared.node.NetNode.TheVariants.{Input, Register, Wire}
use Rattle.rtl_net.proofs.Places.{set_cases, slice_get-set_same, slice_get-set_other, slice_get-within, one_item}
use Rattle.rtl_net.proofs.NodeLists.{widths_after-set}
use Rattle.rtl_net.proofs.Nets.{Stands-extends}
use Rattle.rtl_net.proofs.Making.{IsNodeMade-extends, IsTakenBy-extends}

module _ (name : List ℕ) (w : ℕ) (reset : NetReset) (next : Id) where
  abbrev waiting : NetNode
  waiting = Register name w reset None

  abbrev tied : NetNode
  tied = Register name w reset (Some next)

  pub registers_of-set : (ns : List NetNode) (i : ℕ) → slice_get ns i ≡ Some waiting → registers_of (set ns i tied) ≡ registers_of ns
  registers_of-set [] i h = refl
  registers_of-set (m ∷ ns) zero h = let e : m ≡ waiting = cc in rw e refl
  registers_of-set (Input n u ∷ ns) (suc i) h = registers_of-set ns i h
  registers_of-set (Register n u r t ∷ ns) (suc i) h = ap (λ l. record { name = n; width = u } ∷ l) (registers_of-set ns i h)
  registers_of-set (Wire x ∷ ns) (suc i) h = registers_of-set ns i h

  pub undriven-set : (ns : List NetNode) (i : ℕ) → slice_get ns i ≡ Some waiting → undriven (set ns i tied) + 1 ≡ undriven ns
  undriven-set ns i h =
      let l : i < length ns = slice_get-within ns i waiting h in
      let e : get_or ns i waiting ≡ waiting = get_or_from_slice_get ns i waiting waiting h in
      let r : undriven (set ns i tied) + cond {A = ℕ} (awaits_next (get_or ns i waiting)) 1 0 ≡ undriven ns + 0 = sum_by-set (λ x. cond {A = ℕ} (awaits_next x) 1 0) ns i tied waiting l in
      let q : cond {A = ℕ} (awaits_next (get_or ns i waiting)) 1 0 ≡ 1 = ap (λ x. cond {A = ℕ} (awaits_next x) 1 0) e in
      omega (arith, r, q)

  pub clock-set : (ns : List NetNode) (i : ℕ) → slice_get ns i ≡ Some waiting → list_any is_clock (set ns i tied) ≡ list_any is_clock ns
  clock-set [] i h = refl
  clock-set (m ∷ ns) zero h = let e : m ≡ waiting = cc in rw e refl
  clock-set (m ∷ ns) (suc i) h = rw (clock-set ns i h) refl

  module _ (net : Net) (reg : Id) (a : Awaits net reg name w reset) where
    abbrev after_tie : Net
    after_tie = record net { nodes = set net.nodes reg.0 tied }

    same_width : (id : Id) → width_in after_tie id ≡ width_in net id
    same_width id = ap (λ ws. get_or ws id.0 0) (widths_after-set name w reset (Some next) [] net.nodes reg.0 a.is)

    -- what stood at a place stands there, but for the register's next value
    moved : (i : ℕ) (n : NetNode) → slice_get net.nodes i ≡ Some n → (m : NetNode) × (slice_get after_tie.nodes i ≡ Some m) × ((v : At) (ws : List ℕ) → node_value v ws m ≡ node_value v ws n)
    moved i n h = elim (cases_eq i reg.0) [
      | inl e ↦ let r : n ≡ waiting = one_item net.nodes i n waiting h (subst (λ j. slice_get net.nodes j ≡ Some waiting) (sym e) a.is) in
          (tied, subst (λ j. slice_get after_tie.nodes j ≡ Some tied) (sym e) (slice_get-set_same net.nodes reg.0 waiting tied a.is), λ v ws. ap (node_value v ws) (sym r))
      | inr ne ↦ (n, slice_get-set_other net.nodes reg.0 i tied n ne h, λ v ws. refl)
    ]

    other : (i : ℕ) (n : NetNode) → (n ≡ waiting → ⊥) → slice_get net.nodes i ≡ Some n → slice_get after_tie.nodes i ≡ Some n
    other i n ne h = slice_get-set_other net.nodes reg.0 i tied n (λ e. ne (one_item net.nodes i n waiting h (subst (λ j. slice_get net.nodes j ≡ Some waiting) (sym e) a.is))) h

    before : (i : ℕ) (n : NetNode) → (n ≡ tied → ⊥) → slice_get after_tie.nodes i ≡ Some n → slice_get net.nodes i ≡ Some n
    before i n ne h = elim (set_cases net.nodes reg.0 tied i n h) [ inl q ↦ q.1 | inr q ↦ absurd (ne q.1) ]

    pub tied_extends : Extends net after_tie
    tied_extends = record {
      settles = λ v s. record {
        edge = record {
          nodes = λ i n h. let r = moved i n h in
              s.edge.nodes i r.0 r.1 ∙ r.2 v (widths after_tie) ∙ ap (λ ws. node_value v ws n) (widths_after-set name w reset (Some next) [] net.nodes reg.0 a.is);
          nexts = λ i m u r k h. s.edge.nexts i m u r k (other i (Register m u r (Some k)) (λ e. driven_open e) h);
          outs = s.edge.outs;
        };
        fits = λ id h. subst (λ u. v.node id.0 < 2 ^ u) (same_width id)
            (s.fits id (let l : length (set net.nodes reg.0 tied) ≡ length net.nodes = length-set net.nodes reg.0 tied in omega arith, let e : width_in after_tie id ≡ width_in net id = same_width id in omega arith));
      };
      count = rw (length-set net.nodes reg.0 tied) (omega arith);
      width = λ id h. same_width id;
      inputs = λ id m u h. record { is = other id.0 (Input m u) (λ e. input_open e) h.is };
      clock = λ h. clock-set net.nodes reg.0 a.is ∙ h;
    }
      where
        driven_open : {m : List ℕ} {u : ℕ} {r : NetReset} {k : Id} → Register m u r (Some k) ≡ waiting → ⊥
        driven_open e = cc

        input_open : {m : List ℕ} {u : ℕ} → Input m u ≡ waiting → ⊥
        input_open e = cc

    pub tied_others : (id : Id) (m : List ℕ) (u : ℕ) (r : NetReset) → (id.0 ≡ reg.0 → ⊥) → Awaits net id m u r → Awaits after_tie id m u r
    tied_others id m u r ne b = record { is = slice_get-set_other net.nodes reg.0 id.0 tied _ ne b.is }

    pub tied_after : (v : At) → Settles after_tie v → v.after name ≡ under v.node reset (v.node next.0)
    tied_after v s = s.edge.nexts reg.0 name w reset next (slice_get-set_same net.nodes reg.0 waiting tied a.is)

    pub made_tied : IsMade net → Stands net next w → IsMade after_tie
    made_tied m stands = record {
      identifier = m.identifier;
      names = subst (λ rs. AreNames (seat_names net.seats) (map (λ r. r.name) rs)) (sym (registers_of-set net.nodes reg.0 a.is)) m.names;
      nodes = λ i n h. elim (set_cases net.nodes reg.0 tied i n h) [
        | inl q ↦ IsNodeMade-extends net after_tie tied_extends i n (m.nodes i n q.1)
        | inr q ↦ let r = IsNodeMade-extends net after_tie tied_extends reg.0 waiting (m.nodes reg.0 waiting a.is) in
            subst (λ x. IsNodeMade after_tie i x) (sym q.1) (subst (λ j. IsNodeMade after_tie j tied) (sym q.0) (r.0, r.1, r.2, Stands-extends net after_tie next w tied_extends stands, r.4))
      ];
      seats = λ i s h. let r = m.seats i s h in (r.0, IsTakenBy-extends net after_tie tied_extends s.name s.width s.taken r.1);
      seated = λ x u v h. m.seated x u v (record { is = before x.0 (Input u v) (λ e. tied_input e) h.is });
      shared = λ x y e g h. m.shared x y e (record { is = before x.0 (Wire e) (λ f. tied_wire f) g.is }) (record { is = before y.0 (Wire e) (λ f. tied_wire f) h.is });
    }
      where
        tied_input : {u : List ℕ} {v : ℕ} → Input u v ≡ tied → ⊥
        tied_input e = cc

        tied_wire : {e : NetExpr} → Wire e ≡ tied → ⊥
        tied_wire f = cc
