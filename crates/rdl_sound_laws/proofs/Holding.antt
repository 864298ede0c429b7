-- The top holds a register, and so there is a word.
use Rattle.std.proofs.Common.{◌≡◌, inl, inr, ℕ, zero, suc, ◌&&◌, ◌||◌, Bool, true, false, not, List, [], ◌∷◌, ◌++◌, map, flat_map, Contains, Option, Some, refl, sym, subst, arith}
use Rattle.std.specs.List.{list_any}
use Rattle.rdl_base.specs.declared.fault.Fault.{Fault}
use Rattle.rb_base.specs.declared.place.Place.{Place}
use Rattle.rdl_base.specs.declared.rule.Rule.TheVariants as rules
use Rattle.rdl_tree.specs.declared.item.Kind.TheVariants as kind
use Rattle.rdl_tree.specs.declared.item.Source.{Source}
use Rattle.rdl_tree.specs.declared.node.Elab.{Elab}
use Rattle.rdl_values.specs.Elaborated.{nodes_of, top_name}
use Rattle.rdl_values.specs.Faults.{at_}
use Rattle.rdl_values.specs.Instances.{Instance, children, kind_of, most_names, nodes, signals, top_of, with_below}
use Rattle.rdl_values.specs.Lineages.{lineages_of}
use Rattle.rdl_values.specs.Verdict.{IsListOf}
use Rattle.rdl_layers.specs.Fields.{is_a, is_container}
use Rattle.rdl_nodes.proofs.Members.{In, each-in, in-flat, in-left, in-right, in-to, map-in}
use Rattle.rdl_addr.specs.Layout.{Placed}
use Rattle.rdl_addr.specs.Rules as addr
use Rattle.rdl_rules.specs.Answers.{meaning_fails}
use Rattle.rdl_rules.specs.FieldRules.{at_node}
use Rattle.rdl_rules.specs.Numbers.{registers}
use Rattle.rdl_rules.specs.Phase6.{failures6}
use Rattle.rdl_rules.specs.ReferenceRules.{of_references, second_reset}
use Rattle.rdl_rules.specs.RegisterRules.{empty_container, of_register, too_many_fields}
use Rattle.rdl_fields.proofs.Lists.{in-filter}
use Rattle.rdl_sound_laws.proofs.Placed.{same-registers}
use Rattle.rdl_sound_laws.proofs.Top.{top-map}

-- Lists.

any-in : {X : Type 0} (p : X → Bool) (xs : List X) → list_any p xs ≡ true → (x : X) × In xs x × (p x ≡ true)
any-in p [] e = cc e
any-in p (x ∷ xs) e = go (p x) refl e (any-in p xs)
  where
    go : (b : Bool) → p x ≡ b → (b || list_any p xs) ≡ true → (list_any p xs ≡ true → (y : _) × In xs y × (p y ≡ true)) → (y : _) × In (x ∷ xs) y × (p y ≡ true)
    go true q h rest = (x, inl refl, q)
    go false q h rest = let r = rest h in (r.0, inr r.1, r.2)

pub some-in : {X Y : Type 0} (f : X → Y) (xs : List X) (y : Y) → map f xs ≡ y ∷ [] → (x : X) × In xs x
some-in f [] y e = cc e
some-in f (x ∷ xs) y e = (x, inl refl)

-- What is below the top is a node, and the top is.

below-in : (wanted : Option (List ℕ)) (s : Source) (t n : Instance) → In (top_of wanted s) t → In (with_below most_names t) n → In (nodes wanted s) n
unfolding nodes
below-in wanted s t n i h = in-right (signals s) (flat_map (with_below most_names) (top_of wanted s)) n (in-flat (with_below most_names) (top_of wanted s) t n i h)

itself : (k : ℕ) (n : Instance) → In (with_below k n) n
itself zero n = inl refl
itself (suc k) n = inl refl

map-holds : (n : Instance) → kind_of n ≡ kind.Addrmap → is_container n ≡ true
map-holds n e = rw e refl

module _ (e : Elab) (clean : IsListOf (meaning_fails e) []) where
  never : (p : Place) → Contains (failures6 (Some (top_name e)) e.source.now) (at_ rules.F14 p) → ⊥
  never p c = let h = (clean.exact (at_ rules.F14 p)).1 c in let l = h.1 in omega (arith, l)

  among : (n : Instance) (f : Fault) → In (nodes_of e) n → In (empty_container n) f → Contains (failures6 (Some (top_name e)) e.source.now) f
  unfolding failures6
  among n f i h =
      let a = flat_map (of_register (nodes_of e)) (registers (nodes_of e)) in
      let b = flat_map empty_container (nodes_of e) in
      let c = too_many_fields (top_of (Some (top_name e)) e.source.now) (nodes_of e) in
      let d = flat_map (of_references (lineages_of e)) (nodes_of e) in
      let g = flat_map (λ n. second_reset (children n)) (nodes_of e) in
      let k = second_reset (signals e.source.now) in
      in-to (a ++ b ++ c ++ d ++ g ++ k) f (in-left (a ++ b ++ c ++ d ++ g) k f (in-left (a ++ b ++ c ++ d) g f (in-left (a ++ b ++ c) d f (in-left (a ++ b) c f (in-right a b f (in-flat empty_container (nodes_of e) n f i h))))))

  holds : (n : Instance) → In (nodes_of e) n → is_container n ≡ true → list_any (is_a kind.Reg) (with_below most_names n) ≡ true
  holds n i is = by (list_any (is_a kind.Reg) (with_below most_names n)) refl
    where
      by : (t : Bool) → list_any (is_a kind.Reg) (with_below most_names n) ≡ t → list_any (is_a kind.Reg) (with_below most_names n) ≡ true
      by true q = q
      by false q =
          let f = at_ rules.F14 n.use_.name.place in
          let own : In (at_node rules.F14 n (is_container n && not (list_any (is_a kind.Reg) (with_below most_names n)))) f = subst (λ t. In (at_node rules.F14 n t) f) (λ j. sym is j && not (sym q j)) (inl refl) in
          absurd (never n.use_.name.place (among n f i own))

  pub some-register : (t : Instance) → In (top_of (Some (top_name e)) e.source.now) t → (p : Placed) × In (addr.registers (Some (top_name e)) e.source.now) p
  some-register t i =
      let wanted = Some (top_name e) in
      let s = e.source.now in
      let top = below-in wanted s t t i (itself most_names t) in
      let is = map-holds t (each-in (λ (n : Instance). kind_of n ≡ kind.Addrmap) (top_of wanted s) t (top-map wanted s) i) in
      let r = any-in (is_a kind.Reg) (with_below most_names t) (holds t top is) in
      let reg = in-filter (is_a kind.Reg) (nodes wanted s) r.0 (below-in wanted s t r.0 i r.1) r.2 in
      let p = map-in (λ (x : Placed). x.node) (addr.registers wanted s) r.0 (subst (λ ns. In ns r.0) (sym (same-registers wanted s)) reg) in
      (p.0, p.1)
