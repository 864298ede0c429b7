-- The primary of an alias has the number that the alias's node says.
use Rattle.std.proofs.Common.{◌≡◌, ◌∙◌, ◌≢◌, ◌⊎◌, inl, inr, ℕ, zero, suc, Bool, true, false, ◌&&◌, cond, List, [], ◌∷◌, ◌++◌, bytes_eq, map, flat_map, filter, find, drop, take, slice_get, Option, None, Some, is_some, is_none, option_map, option_and_then, option_to_list, true≢false, refl, sym, ap, subst}
use Rattle.std.specs.Cmp.Lexicographic.{bytes_decides}
use Rattle.std.specs.List.{AllByRecursion}
use Rattle.std.proofs.lemmas.Bool.{and_parts}
use Rattle.rdl_tree.specs.declared.expr.Name.{Name}
use Rattle.rdl_tree.specs.declared.item.Kind.{Kind}
use Rattle.rdl_tree.specs.declared.item.Kind.TheVariants as kind
use Rattle.rdl_tree.specs.declared.item.Source.{Source}
use Rattle.rdl_tree.specs.declared.node.Elab.{Elab}
use Rattle.rdl_tree.specs.declared.node.Node.{Node, out-Node}
use Rattle.rdl_tree.specs.Kinds.{same_kind}
use Rattle.rdl_values.specs.Bodies.{Body, Path, Step, below_top, of_signal, same_name}
use Rattle.rdl_values.specs.Elaborated.{IsNodeOf, below, nodes_of, number_named, signal, top, top_name}
use Rattle.rdl_values.specs.Elaboration.{IsClean}
use Rattle.rdl_values.specs.Given.{IsGivenBy}
use Rattle.rdl_values.specs.Instances.{Instance, body, children, given_by, judged_nodes, kind_of, most_names, most_nodes, nodes, seen_in, signals, top_of, with_below}
use Rattle.rdl_values.specs.Lineages.{Lineage, lineages, lineages_of}
use Rattle.rdl_values.specs.NoNode.{holds, is_primary, is_signal, is_single_reg, may_hold, no_node}
use Rattle.rdl_values.specs.Parts.{is_empty}
use Rattle.rdl_values.specs.Paths.{at_root, in_node, path_in}
use Rattle.rdl_values.specs.Phase3.{failures3, first_over, of_node}
use Rattle.rdl_values.specs.Primary.{HasPrimary, IsPrimaryNode, Somewhere}
use Rattle.rdl_values.specs.Top.{top_seen, top_use_of}
use Rattle.rdl_values.specs.Uses.{Seen, Use, seen}
use Rattle.rdl_values.proofs.Clean.{nodes_nil, none_over, uses_clean}
use Rattle.rdl_values.proofs.Given.{IsAtRoot, IsChildOf, children-given, given-all, held, signals-given, tops-given}
use Rattle.rdl_values.proofs.Sorted.{none_fails}
use Rattle.rdl_layers.specs.Fields.{all_but_last, is_a, is_alias, is_alias_of, same_steps, steps_up}
use Rattle.rdl_nodes.specs.declared.table.Row.{Row}
use Rattle.rdl_nodes.specs.Rows.{IsRow}
use Rattle.rdl_nodes.proofs.Apart.{Apart}
use Rattle.rdl_nodes.proofs.Lineages.{all_nodes}
use Rattle.rdl_nodes.proofs.Paths.{Differ, are_children, children_apart, nodes_apart}
use Rattle.rdl_nodes.proofs.Members.{In, each-in, flat-in, get-map, in-either, in-flat, in-from, in-place, in-right, map-in, place-in}
use Rattle.rdl_nodes.proofs.Order.{shallow-at, stands-under}
use Rattle.rdl_fields.specs.Primary.{IsPrimaryOf, TellsPrimary}
use Rattle.rdl_fields.proofs.Beside.{AreBeside, beside-at, body-of, roots-of, tops-of}
use Rattle.rdl_fields.proofs.Lists.{apart-filter, filter-in, filter-true, in-filter, one-passes, only-one}
use Rattle.rdl_fields.proofs.Steps.{are-same-steps, front, steps-refl}
use Rattle.rdl_fields.proofs.Named.{IsAlone, alias-form, before-it, one-path, one-use, reg-node, text-same, same-text}

-- Where a node stands.

below-cases : (k : ℕ) (n m : Instance) → In (with_below k n) m → (m ≡ n) ⊎ ((a : Instance) × In (with_below k n) a × In (children a) m)
below-cases zero n m (inl e) = inl (sym e)
below-cases zero n m (inr h) = absurd h
below-cases (suc k) n m (inl e) = inl (sym e)
below-cases (suc k) n m (inr h) =
    let q = flat-in (with_below k) (children n) m h in
    by q.0 q.1 (below-cases k q.0 m q.2)
  where
    by : (c : Instance) → In (children n) c → (m ≡ c) ⊎ ((a : Instance) × In (with_below k c) a × In (children a) m) → (m ≡ n) ⊎ ((a : Instance) × In (with_below (suc k) n) a × In (children a) m)
    by c i (inl e) = inr (n, inl refl, subst (In (children n)) (sym e) i)
    by c i (inr r) = inr (r.0, inr (in-flat (with_below k) (children n) c r.0 i r.1), r.2)

abbrev Placing : Option (List ℕ) → Source → Instance → Type 0
Placing w s m = In (signals s) m ⊎ (In (top_of w s) m ⊎ ((a : Instance) × In (nodes w s) a × In (children a) m))

node-cases : (w : Option (List ℕ)) (s : Source) (m : Instance) → In (nodes w s) m → Placing w s m
unfolding nodes
node-cases w s m h = by (in-either (signals s) (flat_map (with_below most_names) (top_of w s)) m h)
  where
    below-top : (t : Instance) → In (top_of w s) t → (m ≡ t) ⊎ ((a : Instance) × In (with_below most_names t) a × In (children a) m) → Placing w s m
    below-top t i (inl e) = inr (inl (subst (In (top_of w s)) (sym e) i))
    below-top t i (inr r) = inr (inr (r.0, in-right (signals s) (flat_map (with_below most_names) (top_of w s)) r.0 (in-flat (with_below most_names) (top_of w s) t r.0 i r.1), r.2))

    by : In (signals s) m ⊎ In (flat_map (with_below most_names) (top_of w s)) m → Placing w s m
    by (inl i) = inl i
    by (inr i) = let q = flat-in (with_below most_names) (top_of w s) m i in below-top q.0 q.1 (below-cases most_names q.0 m q.2)

empty-in : (c : Instance) (ns : List Instance) → ns ≡ [] → In ns c → ⊥
empty-in c ns e h = absurd (subst (λ xs. In xs c) e h)

-- A signal is no alias, and neither is the top.

reg-signal : (n : Instance) → kind_of n ≡ kind.Reg → may_hold at_root (kind_of n) ≡ true → ⊥
reg-signal n k h = let no : may_hold at_root kind.Reg ≡ true = subst (λ x. may_hold at_root x ≡ true) k h in cc

root-alias : (s : Source) (n : Instance) → In (signals s) n → (m : Name) → n.use_.alias ≡ Some m → ⊥
root-alias s n i m a =
    let h = each-in IsAtRoot (signals s) n (signals-given s) i in
    let form = alias-form h.by n h.given_ m a in
    reg-signal n (reg-node h.by n h.given_ form.1) (subst (λ p. may_hold p (kind_of n) ≡ true) h.in_body (held h.by n h.given_))

top-alias : (w : Option (List ℕ)) (s : Source) (n : Instance) → In (top_of w s) n → (m : Name) → n.use_.alias ≡ Some m → ⊥
top-alias w s n i m a =
    let q = flat-in (λ u. given_by (top_seen u)) (option_to_list (top_use_of w s)) n i in
    let g = each-in (IsGivenBy (top_seen q.0)) (given_by (top_seen q.0)) n (given-all (top_seen q.0)) q.2 in
    let form = alias-form (top_seen q.0) n g m a in
    absurd form.0.1

no-alias : (o : Option Name) → ((m : Name) → o ≡ Some m → ⊥) → is_some o ≡ false
no-alias None h = refl
no-alias (Some m) h = absurd (h m refl)

none-some : (o : Option Name) → is_none o ≡ true → is_some o ≡ false
none-some None e = refl
none-some (Some m) e = cc

-- The body that a node stands in.

over-none : (ns : List Instance) → first_over ns ≡ [] → ns ≡ []
over-none [] e = refl
over-none (n ∷ ns) e = cc

in-front : {X : Type 0} (k : ℕ) (xs : List X) (x : X) → drop k xs ≡ [] → In xs x → In (take k xs) x
in-front zero xs x e h = absurd (subst (λ ys. In ys x) e h)
in-front (suc k) [] x e h = absurd h
in-front (suc k) (y ∷ ys) x e (inl p) = inl p
in-front (suc k) (y ∷ ys) x e (inr h) = inr (in-front k ys x e h)

-- a node of a use in the body
record From (P c : Instance) : Type 0 where
  by : Seen
  among : In (seen_in P) by
  one_of : In (given_by by) c
  given_ : IsGivenBy by c

from : (P c : Instance) → In (children P) c → From P c
from P c h = let q = flat-in given_by (seen_in P) c h in record { by = q.0; among = q.1; one_of = q.2; given_ = each-in (IsGivenBy q.0) (given_by q.0) c (given-all q.0) q.2 }

from-somewhere : (u : Use) (ns : List Instance) → Somewhere (IsPrimaryNode u) ns → (c : Instance) × In ns c × (c.use_ ≡ u)
from-somewhere u [] h = absurd h
from-somewhere u (n ∷ ns) (inl h) = (n, inl refl, h.use_is)
from-somewhere u (n ∷ ns) (inr h) = let q = from-somewhere u ns h in (q.0, inr q.1, q.2)

-- the first node of a name, and its instance
abbrev Kid : List Instance → Name → List Node → List Instance → Type 0
Kid all nm rs ns = (k : ℕ) × (d : Instance) × (number_named rs nm ≡ Some k) × In ns d × (slice_get all k ≡ Some d) × (d.use_.name.text.now ≡ nm.text.now)

find-kid : (all : List Instance) (b rs : List Node) (ns : List Instance) → AreBeside all b rs ns → (nm : Name) (c : Instance) → In ns c → c.use_.name.text.now ≡ nm.text.now
    → Kid all nm rs ns
find-kid all b [] ns h nm c i e = absurd (go ns h i)
  where
    go : (ns : List Instance) → AreBeside all b [] ns → In ns c → ⊥
    go [] h i = absurd i
    go (n ∷ ns) h i = absurd h
find-kid all b (r ∷ rs) [] h nm c i e = absurd h
find-kid all b (r ∷ rs) (n ∷ ns) h nm c i e = go (bytes_eq (out-Node r).name.now nm.text.now) refl i (λ j. find-kid all b rs ns h.1 nm c j e)
  where
    name : (out-Node r).name.now ≡ n.use_.name.text.now
    name = h.0.0.name

    go : (t : Bool) → bytes_eq (out-Node r).name.now nm.text.now ≡ t → In (n ∷ ns) c → (In ns c → Kid all nm rs ns) → Kid all nm (r ∷ rs) (n ∷ ns)
    go true q j more = ((out-Node r).id, n, ap (λ t. option_map (λ (x : Node). (out-Node x).id) (cond t (Some r) (find (λ x. bytes_eq (out-Node x).name.now nm.text.now) rs))) q, inl refl, h.0.1, sym name ∙ (bytes_decides (out-Node r).name.now nm.text.now).0 q)
    go false q (inl p) more = absurd (true≢false (sym ((bytes_decides (out-Node r).name.now nm.text.now).1 (name ∙ (ap (λ (x : Instance). x.use_.name.text.now) p ∙ e))) ∙ q))
    go false q (inr j) more =
        let m = more j in
        (m.0, m.1, ap (λ t. option_map (λ (x : Node). (out-Node x).id) (cond t (Some r) (find (λ x. bytes_eq (out-Node x).name.now nm.text.now) rs))) q ∙ m.2, inr m.3, m.4, m.5)

alias-test : (r a : Instance) (nm : Name) → a.use_.alias ≡ Some nm → is_alias_of r a ≡ (is_a kind.Reg a && same_name nm r.use_.name && same_steps (steps_up r.path) (steps_up a.path))
alias-test r a nm e = rw e refl

is-reg : (n : Instance) → kind_of n ≡ kind.Reg → is_a kind.Reg n ≡ true
is-reg n k = ap (same_kind kind.Reg) k

abbrev pub Stand : Type 0
Stand = (above : List Body) (b : Body) → AllByRecursion (λ s. no_node s ≡ []) (seen above b) → AllByRecursion (λ s. (n : Name) → s.use_.alias ≡ Some n → HasPrimary n (flat_map given_by (seen above b))) (seen above b)

module _ (e : Elab) (clean : IsClean e) (stand : Stand) where
  abbrev w : Option (List ℕ)
  w = Some (top_name e)

  abbrev s : Source
  s = e.source.now

  nothing : failures3 w s ≡ []
  nothing = none_fails (failures3 w s) clean.elaborated.clean

  body-clean : (P : Instance) → In (nodes_of e) P → AllByRecursion (λ u. no_node u ≡ []) (seen_in P)
  body-clean P h = uses_clean (seen_in P) (body P) (each-in (λ n. of_node n ≡ []) (judged_nodes w s) P (nodes_nil w s nothing) (in-front most_nodes (nodes w s) P (over-none (drop most_nodes (nodes w s)) (none_over w s nothing)) h))

  one-node : (a b : Instance) → In (nodes_of e) a → In (nodes_of e) b → a.path ≡ b.path → a ≡ b
  one-node a b i j p = only-one (λ (n : Instance). n.path) (nodes_of e) (nodes_apart w s) a b i j p

  -- a node with something in its body stands under the top
  under : (P c : Instance) → In (nodes_of e) P → In (children P) c → (ss : List Step) × (P.path ≡ below_top ss)
  under P c h i =
      let q = map-in (λ (n : Lineage). n.node) (lineages_of e) P (subst (λ ns. In ns P) (sym (all_nodes w s)) h) in
      let at = in-place (lineages_of e) q.0 q.1 in
      by q.0 q.2 (stands-under q.0 (shallow-at w s at.0 q.0 at.2))
    where
      by : (l : Lineage) → l.node ≡ P → ((ss : List Step) × (l.node.path ≡ below_top ss)) ⊎ (children l.node ≡ []) → (ss : List Step) × (P.path ≡ below_top ss)
      by l q (inl u) = (u.0, ap (λ (n : Instance). n.path) (sym q) ∙ u.1)
      by l q (inr none) = absurd (empty-in c (children P) (ap children (sym q) ∙ none) i)

  child-path : (P c : Instance) → In (nodes_of e) P → In (children P) c → (ss : List Step) × (P.path ≡ below_top ss) × ((t : Step) × (c.path ≡ below_top (ss ++ (t ∷ []))))
  child-path P c h i = let u = under P c h i in (u.0, u.1, each-in _ (children P) c (are_children P u.0 u.1) i)

  one-child : (P a b : Instance) → In (nodes_of e) P → In (children P) a → In (children P) b → a.path ≡ b.path → a ≡ b
  one-child P a b h i j p = let u = under P a h i in only-one (λ (n : Instance). n.path) (children P) (children_apart P u.0 u.1) a b i j p

  module _ (P n : Instance) (p_in : In (nodes_of e) P) (n_in : In (children P) n) (nm : Name) (al : n.use_.alias ≡ Some nm) where
    src : From P n
    src = from P n n_in

    form : ((v : Use) × In src.by.earlier v × (same_name v.name nm ≡ true) × (is_primary v ≡ true)) × (is_single_reg src.by.use_ ≡ true)
    form = alias-form src.by n src.given_ nm al

    t : (t : Seen) × In (seen_in P) t × (t.use_ ≡ form.0.0)
    t = before-it _ (body P) src.by form.0.0 src.among form.0.1

    v-parts : (is_none t.0.use_.alias ≡ true) × (is_single_reg t.0.use_ ≡ true)
    v-parts = and_parts (is_none t.0.use_.alias) (is_single_reg t.0.use_) (subst (λ u. is_primary u ≡ true) (sym t.2) form.0.3)

    n-reg : kind_of n ≡ kind.Reg
    n-reg = reg-node src.by n src.given_ form.1

    module _ (c : Instance) (c_in : In (children P) c) (named : c.use_.name.text.now ≡ nm.text.now) where
      by_t : (from P c c_in).by ≡ t.0
      by_t =
          let f = from P c c_in in
          one-use _ (body P) f.by t.0 f.among t.1 f.given_.clean (ap is_empty (each-in (λ u. no_node u ≡ []) (seen_in P) t.0 (body-clean P p_in) t.1))
          (ap (λ (u : Use). u.name.text.now) (sym f.given_.use_is) ∙ (named ∙ (sym (text-same form.0.0.name nm form.0.2) ∙ ap (λ (u : Use). u.name.text.now) (sym t.2))))

      single : is_single_reg (from P c c_in).by.use_ ≡ true
      single = subst (λ (x : Seen). is_single_reg x.use_ ≡ true) (sym by_t) v-parts.1

      c-reg : is_a kind.Reg c ≡ true
      c-reg = is-reg c (reg-node (from P c c_in).by c (from P c c_in).given_ single)

      c-alias : is_alias c ≡ false
      c-alias = none-some c.use_.alias (ap (λ (u : Use). is_none u.alias) ((from P c c_in).given_.use_is ∙ ap (λ (x : Seen). x.use_) by_t) ∙ v-parts.0)

      c-path : IsAlone t.0 c
      c-path = subst (λ (x : Seen). IsAlone x c) by_t (each-in (IsAlone (from P c c_in).by) (given_by (from P c c_in).by) c (one-path (from P c c_in).by single) (from P c c_in).one_of)

    there : (c : Instance) × In (children P) c × (c.use_.name.text.now ≡ nm.text.now)
    there =
        let h = each-in (λ (x : Seen). (m : Name) → x.use_.alias ≡ Some m → HasPrimary m (children P)) (seen_in P) src.by (stand _ (body P) (body-clean P p_in)) src.among nm (ap (λ (u : Use). u.alias) (sym src.given_.use_is) ∙ al) in
        let f = from-somewhere h.0 (children P) h.2 in
        (f.0, f.1, ap (λ (u : Use). u.name.text.now) f.2 ∙ text-same h.0.name nm h.1)

    module _ (c : Instance) (c_in : In (children P) c) (named : c.use_.name.text.now ≡ nm.text.now) (c_node : In (nodes_of e) c) where
      passes : is_alias_of c n ≡ true
      passes =
          let p = child-path P n p_in n_in in
          let q = child-path P c p_in c_in in
          let steps : steps_up c.path ≡ steps_up n.path = ap steps_up q.2.1 ∙ (front q.0 q.2.0 ∙ (same_front ∙ (sym (front p.0 p.2.0) ∙ ap steps_up (sym p.2.1)))) in
          alias-test c n nm al
          ∙ ((λ i. is-reg n n-reg i && same-text nm c.use_.name (sym named) i && same_steps (steps i) (steps_up n.path)) ∙ steps-refl (steps_up n.path))
        where
          steps_in : Path → List Step
          steps_in (below_top ss) = ss
          steps_in _ = []

          same_front : (child-path P c p_in c_in).0 ≡ (child-path P n p_in n_in).0
          same_front = ap steps_in (sym (child-path P c p_in c_in).1 ∙ (child-path P n p_in n_in).1)

      alone : (r : Instance) → In (nodes_of e) r → is_a kind.Reg r ≡ true → is_alias_of r n ≡ true → r ≡ c
      alone r r_in reg test = by (node-cases w s r r_in)
        where
          parts : ((is_a kind.Reg n ≡ true) × (same_name nm r.use_.name ≡ true)) × (same_steps (steps_up r.path) (steps_up n.path) ≡ true)
          parts =
              let p = and_parts (is_a kind.Reg n && same_name nm r.use_.name) (same_steps (steps_up r.path) (steps_up n.path)) (sym (alias-test r n nm al) ∙ test) in
              (and_parts (is_a kind.Reg n) (same_name nm r.use_.name) p.0, p.1)

          of_n : (ss : List Step) × (P.path ≡ below_top ss) × ((t : Step) × (n.path ≡ below_top (ss ++ (t ∷ []))))
          of_n = child-path P n p_in n_in

          up : steps_up r.path ≡ of_n.0
          up = are-same-steps (steps_up r.path) (steps_up n.path) parts.1 ∙ (ap steps_up of_n.2.1 ∙ front of_n.0 of_n.2.0)

          the_kind : (k : Kind) → same_kind kind.Reg k ≡ true → k ≡ kind.Reg
          the_kind kind.Reg q = refl
          the_kind _ q = cc

          r_kind : kind_of r ≡ kind.Reg
          r_kind = the_kind (kind_of r) reg

          by : Placing w s r → r ≡ c
          by (inl i) = let h = each-in IsAtRoot (signals s) r (signals-given s) i in absurd (reg-signal r r_kind (subst (λ p. may_hold p (kind_of r) ≡ true) h.in_body (held h.by r h.given_)))
          by (inr (inl i)) =
              let top_path : r.path ≡ below_top [] = each-in (λ (m : Instance). m.path ≡ below_top []) (top_of w s) r (tops-given w s) i in
              let none : of_n.0 ≡ [] = sym up ∙ ap steps_up top_path in
              let same : P ≡ r = one-node P r p_in r_in (of_n.1 ∙ (ap below_top none ∙ sym top_path)) in
              let h = each-in (IsChildOf P) (children P) n (children-given P) n_in in
              let may : holds (kind_of P) (kind_of n) ≡ true = subst (λ p. may_hold p (kind_of n) ≡ true) h.in_body (held h.by n h.given_) in
              let no : holds kind.Reg kind.Reg ≡ true = subst (λ k. holds k kind.Reg ≡ true) (ap kind_of same ∙ r_kind) (subst (λ k. holds (kind_of P) k ≡ true) n-reg may) in
              cc
          by (inr (inr f)) =
              let a = f.0 in
              let q = child-path a r f.1 f.2 in
              let fronts : q.0 ≡ of_n.0 = sym (front q.0 q.2.0) ∙ (ap steps_up (sym q.2.1) ∙ up) in
              let same : a ≡ P = one-node a P f.1 p_in (q.1 ∙ (ap below_top fronts ∙ sym of_n.1)) in
              let inside : In (children P) r = subst (λ m. In (children m) r) same f.2 in
              one-child P r c p_in inside c_in (c-path r inside (sym (text-same nm r.use_.name parts.0.1)) ∙ sym (c-path c c_in named))

      regs-apart : Apart (λ (a b : Instance). a ≢ b) (filter (is_a kind.Reg) (nodes_of e))
      regs-apart = apart-filter (is_a kind.Reg) (λ (a b : Instance). a ≢ b) (nodes_of e) (weaker (nodes_of e) (nodes_apart w s))
        where
          each : (x : Instance) (ns : List Instance) → AllByRecursion (Differ x) ns → AllByRecursion (λ y. x ≢ y) ns
          each x [] h = tt
          each x (y ∷ ns) h = ((λ q. h.0 (ap (λ (m : Instance). m.path) q)), each x ns h.1)

          weaker : (ns : List Instance) → Apart Differ ns → Apart (λ (a b : Instance). a ≢ b) ns
          weaker [] h = tt
          weaker (x ∷ ns) h = (each x ns h.0, weaker ns h.1)

      only : filter (λ p. is_alias_of p n) (filter (is_a kind.Reg) (nodes_of e)) ≡ c ∷ []
      only = one-passes (λ p. is_alias_of p n) (filter (is_a kind.Reg) (nodes_of e)) c regs-apart (in-filter (is_a kind.Reg) (nodes_of e) c c_node (c-reg c c_in named)) passes (λ r i q. alone r (filter-in (is_a kind.Reg) (nodes_of e) r i) (reg-of r i) q)
        where
          reg-of : (r : Instance) → In (filter (is_a kind.Reg) (nodes_of e)) r → is_a kind.Reg r ≡ true
          reg-of r i = filter-true (is_a kind.Reg) (nodes_of e) r i

    -- the node says the number of the primary
    told : (rs : List Node) → AreBeside (nodes_of e) rs rs (children P) → (k : Option ℕ) → k ≡ number_named rs nm → TellsPrimary e n k
    told rs beside k is =
        let f = find-kid (nodes_of e) rs rs (children P) beside nm there.0 there.1 there.2 in
        let c = f.1 in
        let primary : IsPrimaryOf e n f.0 c = record { here = f.4; is_register = c-reg c f.3 f.5; no_alias = c-alias c f.3 f.5; only = only c f.3 f.5 (place-in (nodes_of e) f.0 c f.4) } in
        subst (TellsPrimary e n) (sym (is ∙ f.2)) (ap is_some al, c, primary)

  -- of a row
  pub told-by : (k : ℕ) (x : Row) (l : Lineage) → slice_get (lineages_of e) k ≡ Some l → IsRow e (lineages_of e) k x l → TellsPrimary e l.node (out-Node x.node.now).alias
  told-by k x l at row = go l.node.use_.alias refl
    where
      n : Instance
      n = l.node

      r : Node
      r = x.node.now

      here : slice_get (nodes_of e) (out-Node r).id ≡ Some n
      here = ap (slice_get (nodes_of e)) row.number ∙ subst (λ ns. slice_get ns k ≡ Some n) (all_nodes w s) (get-map (λ (m : Lineage). m.node) (lineages_of e) k l at)

      said : (o : Option Name) → n.use_.alias ≡ o → (out-Node r).alias ≡ option_and_then (number_named row.beside) o
      said o q = row.says.alias ∙ ap (option_and_then (number_named row.beside)) q

      go : (o : Option Name) → n.use_.alias ≡ o → TellsPrimary e n (out-Node r).alias
      go None q = subst (TellsPrimary e n) (sym (said None q)) (ap is_some q)
      go (Some nm) q = by row.beside r row.stands refl (said (Some nm) q)
        where
          same : (z : Node) → z ≡ r → (m : Instance) → slice_get (nodes_of e) (out-Node z).id ≡ Some m → m ≡ n
          same z i m h = let p : Some m ≡ Some n = sym h ∙ (ap (λ (y : Node). slice_get (nodes_of e) (out-Node y).id) i ∙ here) in cc p

          by : (b : List Node) (z : Node) → IsNodeOf e b z → z ≡ r → (out-Node r).alias ≡ number_named b nm → TellsPrimary e n (out-Node r).alias
          by b z (signal c) i is =
              let m = beside-at (nodes_of e) e.signals.now e.signals.now (signals s) (roots-of e clean.elaborated.tree) z (in-from e.signals.now z c) in
              absurd (root-alias s n (subst (In (signals s)) (same z i m.0 m.3) m.1) nm q)
          by b z top i is =
              let m = beside-at (nodes_of e) [] (e.top.now ∷ []) (top_of w s) (tops-of e clean.elaborated.tree) z (inl refl) in
              absurd (top-alias w s n (subst (In (top_of w s)) (same z i m.0 m.3) m.1) nm q)
          by b z (below {beside = b'} {p = p} h c) i is =
              let rs = (out-Node p).children.now in
              let body_ = body-of e clean.elaborated.tree b' p h in
              let m = beside-at (nodes_of e) rs rs (children body_.parent) body_.beside z (in-from rs z c) in
              told body_.parent n body_.among (subst (In (children body_.parent)) (same z i m.0 m.3) m.1) nm q rs body_.beside (out-Node r).alias is
