-- The groups of all containers are those in the bodies of all nodes.
use Rattle.std.proofs.Common.{◌≡◌, ℕ, zero, suc, ◌+◌, ◌⊎◌, inl, inr, Bool, true, false, List, [], ◌∷◌, length, map, flat_map, filter, Option, refl, sym, ap, subst, arith}
use Rattle.rdl_tree.specs.declared.item.Source.{Source}
use Rattle.rdl_values.specs.Instances.{Instance, children, most_names, seen_in, signals, top_of}
use Rattle.rdl_values.specs.Lineages.{Lineage, alone, lineages, lineages_below}
use Rattle.rdl_values.proofs.Numbered.{Deep, bottom, lower}
use Rattle.rdl_nodes.proofs.Members.{In, each-in, flat-in, in-either, in-flat, in-map, in-right, map-in}
use Rattle.rdl_addr.specs.Layout.{Group, Mode, access_of, groups, has_address, mode_in, regalign, size_of}
use Rattle.rdl_addr.specs.Rules.{all_groups, with_groups}
use Rattle.rdl_addr.proofs.Covers as covers
use Rattle.rdl_addr.proofs.Covers.{members, of_grouped}
use Rattle.rdl_sizes.specs.Levels.{groups_at, levels, mode_under}
use Rattle.rdl_bits.proofs.Filtered.{in-kept, kept-in}
use Rattle.rdl_bits.proofs.Descending.{lineage, signal-bare, top-deep}

-- the groups in a body, under its mode
abbrev pub moded : Lineage → List (Mode × Group)
moded l = map (λ g. (mode_under (l.node ∷ l.ancestors), g)) (groups_at l)

levels-are : (n : Instance) (up : List Instance) (k : ℕ) → length up + k ≡ 31 → levels (n ∷ up) ≡ k
unfolding levels
levels-are n up k e = omega (arith, e)

pub mode-inside : (n : Instance) (up : List Instance) → mode_under (n ∷ up) ≡ mode_in (mode_under up) n
unfolding mode_under
mode-inside n up = refl

pub groups-are : (n : Instance) (up : List Instance) (k : ℕ) → length up + k ≡ 31 → groups_at (lineage n up) ≡ groups k (mode_under up) n
unfolding groups_at
groups-are n up k e = ap (λ j. groups j (mode_under up) n) (levels-are n up k e)

pub moded-are : (n : Instance) (up : List Instance) (k : ℕ) → length up + k ≡ 31 → moded (lineage n up) ≡ map (λ g. (mode_in (mode_under up) n, g)) (groups k (mode_under up) n)
moded-are n up k e = (λ i. map (λ g. (mode-inside n up i, g)) (groups-are n up k e i))

-- the elements of a body's groups are the nodes in it that have addresses
pub all-members : (k : ℕ) (mode : Mode) (n : Instance) → flat_map members (groups k mode n) ≡ filter has_address (children n)
all-members k mode n = of_grouped (size_of k (mode_in mode n)) (access_of k) (seen_in n)

pub member-in : (k : ℕ) (mode : Mode) (n : Instance) (g : Group) (c : Instance) → In (groups k mode n) g → In (members g) c → In (children n) c
member-in k mode n g c i m = kept-in has_address (children n) c (subst (λ xs. In xs c) (all-members k mode n) (in-flat members (groups k mode n) g c i m))

pub no-group : (k : ℕ) (mode : Mode) (n : Instance) (g : Group) → children n ≡ [] → In (groups k mode n) g → ⊥
no-group k mode n g none i = subst (λ xs. In xs g.first) none (member-in k mode n g g.first i (inl refl))

group-of : (k : ℕ) (mode : Mode) (n c : Instance) → In (children n) c → has_address c ≡ true → (g : Group) × In (groups k mode n) g × In (members g) c
group-of k mode n c i placed = flat-in members (groups k mode n) c (subst (λ xs. In xs c) (sym (all-members k mode n)) (in-kept has_address (children n) c i placed))

-- one level of groups
abbrev IsWithin : ℕ → Mode → Instance → Mode × Group → Type 0
IsWithin k mode n x = (g : Group) × In (groups k mode n) g × (((mode_in mode n, g) ≡ x) ⊎ ((c : Instance) × In (members g) c × In (with_groups k (mode_in mode n) c) x))

entering : (k : ℕ) (mode : Mode) (n : Instance) (x : Mode × Group) → In (with_groups (suc k) mode n) x → IsWithin k mode n x
entering k mode n x h =
    let g = flat-in (λ g. (mode_in mode n, g) ∷ flat_map (with_groups k (mode_in mode n)) (g.first ∷ g.others)) (groups k mode n) x h in
    (g.0, g.1, by g.0 g.2)
  where
    by : (g : Group) → In ((mode_in mode n, g) ∷ flat_map (with_groups k (mode_in mode n)) (members g)) x → ((mode_in mode n, g) ≡ x) ⊎ ((c : Instance) × In (members g) c × In (with_groups k (mode_in mode n) c) x)
    by g (inl e) = inl e
    by g (inr q) = inr (flat-in (with_groups k (mode_in mode n)) (members g) x q)

leaving : (k : ℕ) (mode : Mode) (n : Instance) (x : Mode × Group) → IsWithin k mode n x → In (with_groups (suc k) mode n) x
leaving k mode n x h = in-flat (λ g. (mode_in mode n, g) ∷ flat_map (with_groups k (mode_in mode n)) (g.first ∷ g.others)) (groups k mode n) h.0 x h.1 (by h.2)
  where
    by : ((mode_in mode n, h.0) ≡ x) ⊎ ((c : Instance) × In (members h.0) c × In (with_groups k (mode_in mode n) c) x) → In ((mode_in mode n, h.0) ∷ flat_map (with_groups k (mode_in mode n)) (members h.0)) x
    by (inl e) = inl e
    by (inr q) = inr (in-flat (with_groups k (mode_in mode n)) (members h.0) q.0 x q.1 q.2)

abbrev IsOf : List Lineage → Mode × Group → Type 0
IsOf ls x = (l : Lineage) × In ls l × In (moded l) x

going-down : (k : ℕ) (n : Instance) (up : List Instance) → length up + k ≡ 31 → Deep k n → (x : Mode × Group) → In (with_groups (suc k) (mode_under up) n) x → IsOf (lineages_below (suc k) up n) x
going-down zero n up e d x h =
    let w = entering 0 (mode_under up) n x h in
    absurd (no-group 0 (mode_under up) n w.0 (bottom n d) w.1)
going-down (suc k) n up e d x h =
    by (λ c among q. going-down k c (n ∷ up) (omega (arith, e)) (each-in (Deep k) (children n) c (lower k n d) among) x (subst (λ mode. In (with_groups (suc k) mode c) x) (sym (mode-inside n up)) q)) (entering (suc k) (mode_under up) n x h)
  where
    by : ((c : Instance) → In (children n) c → In (with_groups (suc k) (mode_in (mode_under up) n) c) x → IsOf (lineages_below (suc k) (n ∷ up) c) x) → IsWithin (suc k) (mode_under up) n x → IsOf (lineages_below (suc (suc k)) up n) x
    by deeper (g, i, inl q) = (lineage n up, inl refl, subst (λ xs. In xs x) (sym (moded-are n up (suc k) e)) (subst (In (map (λ g. (mode_in (mode_under up) n, g)) (groups (suc k) (mode_under up) n))) q (in-map (λ g. (mode_in (mode_under up) n, g)) (groups (suc k) (mode_under up) n) g i)))
    by deeper (g, i, inr (c, m, q)) =
        let among = member-in (suc k) (mode_under up) n g c i m in
        let r = deeper c among q in
        (r.0, inr (in-flat (lineages_below (suc k) (n ∷ up)) (children n) c r.0 among r.1), r.2)

going-up : (k : ℕ) (n : Instance) (up : List Instance) → length up + k ≡ 31 → Deep k n → (l : Lineage) → In (lineages_below (suc k) up n) l → (x : Mode × Group) → In (moded l) x → In (with_groups (suc k) (mode_under up) n) x
going-up k n up e d l (inl s) x h =
    let here = subst (λ xs. In xs x) (moded-are n up k e) (subst (λ y. In (moded y) x) (sym s) h) in
    let g = map-in (λ g. (mode_in (mode_under up) n, g)) (groups k (mode_under up) n) x here in
    leaving k (mode_under up) n x (g.0, g.1, inl g.2)
going-up zero n up e d l (inr s) x h = absurd (subst (λ cs. In (flat_map (lineages_below 0 (n ∷ up)) cs) l) (bottom n d) s)
going-up (suc k) n up e d l (inr s) x h =
    let c = flat-in (lineages_below (suc k) (n ∷ up)) (children n) l s in
    let deep = each-in (Deep k) (children n) c.0 (lower k n d) c.1 in
    let w = subst (λ mode. In (with_groups (suc k) mode c.0) x) (mode-inside n up) (going-up k c.0 (n ∷ up) (omega (arith, e)) deep l c.2 x h) in
    by c.0 c.1 w (has_address c.0) refl
  where
    by : (c : Instance) → In (children n) c → In (with_groups (suc k) (mode_in (mode_under up) n) c) x → (b : Bool) → has_address c ≡ b → In (with_groups (suc (suc k)) (mode_under up) n) x
    by c i w true placed = let g = group-of (suc k) (mode_under up) n c i placed in leaving (suc k) (mode_under up) n x (g.0, g.1, inr (c, g.2, w))
    by c i w false bare = let q = entering k (mode_in (mode_under up) n) c x w in absurd (no-group k (mode_in (mode_under up) n) c q.0 (covers.alone c bare) q.1)

no-mode : mode_under [] ≡ regalign
unfolding mode_under
no-mode = refl

pub of-bodies : (wanted : Option (List ℕ)) (s : Source) (x : Mode × Group) → In (all_groups wanted s) x → IsOf (lineages wanted s) x
unfolding all_groups lineages
of-bodies wanted s x h =
    let n = flat-in (with_groups most_names regalign) (top_of wanted s) x h in
    let r = going-down 31 n.0 [] refl (top-deep wanted s n.0 n.1) x (subst (λ mode. In (with_groups most_names mode n.0) x) (sym no-mode) n.2) in
    (r.0, in-right (map alone (signals s)) (flat_map (lineages_below most_names []) (top_of wanted s)) r.0 (in-flat (lineages_below most_names []) (top_of wanted s) n.0 r.0 n.1 r.1), r.2)

pub of-groups : (wanted : Option (List ℕ)) (s : Source) (x : Mode × Group) → IsOf (lineages wanted s) x → In (all_groups wanted s) x
unfolding all_groups lineages
of-groups wanted s x (l, h, i) = elim (in-either (map alone (signals s)) (flat_map (lineages_below most_names []) (top_of wanted s)) l h) [
  | inl p ↦
      let n = map-in alone (signals s) l p in
      let here = subst (λ xs. In xs x) (moded-are n.0 [] 31 refl) (subst (λ y. In (moded y) x) (sym n.2) i) in
      let g = map-in (λ g. (mode_in (mode_under []) n.0, g)) (groups 31 (mode_under []) n.0) x here in
      absurd (no-group 31 (mode_under []) n.0 g.0 (signal-bare s n.0 n.1) g.1)
  | inr p ↦
      let n = flat-in (lineages_below most_names []) (top_of wanted s) l p in
      in-flat (with_groups most_names regalign) (top_of wanted s) n.0 x n.1 (subst (λ mode. In (with_groups most_names mode n.0) x) no-mode (going-up 31 n.0 [] refl (top-deep wanted s n.0 n.1) l n.2 x i))
]

-- a group's first element is a node in the body
pub first-in : (l : Lineage) (g : Group) → In (groups_at l) g → In (children l.node) g.first
unfolding groups_at
first-in l g i = member-in (levels (l.node ∷ l.ancestors)) (mode_under l.ancestors) l.node g g.first i (inl refl)
