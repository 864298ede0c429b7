-- The layout has the nodes that have addresses, in their order.
use Rattle.std.proofs.Common.{◌≡◌, ◌∙◌, ℕ, zero, suc, ◌+◌, Bool, true, false, cond, List, [], ◌∷◌, ◌++◌, map, flat_map, filter, reverse, ◌&&◌, inl, inr, option_to_list, option_and_then, Option, None, Some, refl, sym, ap, subst, arith, append-nil}
use Rattle.std.specs.List.{AllByRecursion}
use Rattle.std.proofs.lemmas.List.{map-append}
use Rattle.std.proofs.lemmas.Grind.{flat_map-append}
use denote.Enum.Bare.{same_true}
use Rattle.rdl_tree.specs.contracts.item.Kind as of_kind
use Rattle.rdl_tree.specs.declared.expr.Name.{Name}
use Rattle.rdl_tree.specs.declared.item.Def.{Def}
use Rattle.rdl_tree.specs.declared.item.Item.{Item}
use Rattle.rdl_tree.specs.declared.item.Kind.{Kind}
use Rattle.rdl_tree.specs.declared.item.Kind.TheVariants as kind
use Rattle.rdl_tree.specs.declared.item.Source.{Source}
use Rattle.rdl_values.specs.Instances.{Instance, kind_of, children, given_by, seen_in, signals, top_of, with_below, most_names, nodes}
use Rattle.rdl_values.specs.NoNode.{may_hold, holds}
use Rattle.rdl_values.specs.Bodies.{Scope, below_top, component_of, scope_at, standing}
use Rattle.rdl_values.specs.Given.{IsGivenBy}
use Rattle.rdl_values.specs.Paths.{at_root}
use Rattle.rdl_values.specs.Top.{root, is_addrmap, is_wanted, top_use, top_named, top_at, top_use_of, top_seen}
use Rattle.rdl_values.specs.Uses.{Seen, Use}
use Rattle.rdl_values.specs.Views.{item_is}
use Rattle.rdl_values.proofs.Clean.{Somewhere, nearest_is, unreversed}
use Rattle.rdl_values.proofs.Given.{IsChildOf, IsAtRoot, held, given-all, children-given, signals-given}
use Rattle.plain_lemmas.proofs.Lists.{each-append, each-imp}
use Rattle.rdl_values.proofs.Numbered.{At, Deep, bottom, lower, empty_of_none}
use Rattle.rdl_layers.specs.Fields.{is_a}
use Rattle.rdl_addr.specs.Layout.{Mode, regalign, Group, group, grouped, has_address, mode_in, groups, stride, starts, start, end, elements_from, offsets, size_of, access_of, Placed, placed_from, layout}

-- Lists.

pub filter-append : (xs ys : List Instance) → filter has_address (xs ++ ys) ≡ filter has_address xs ++ filter has_address ys
filter-append [] ys = refl
filter-append (x ∷ xs) ys = go (has_address x) (filter-append xs ys)
  where
    go : (b : Bool) → filter has_address (xs ++ ys) ≡ filter has_address xs ++ filter has_address ys → cond b (x ∷ filter has_address (xs ++ ys)) (filter has_address (xs ++ ys)) ≡ cond b (x ∷ filter has_address xs) (filter has_address xs) ++ filter has_address ys
    go true e = ap (λ zs. x ∷ zs) e
    go false e = e

-- What stands in what.

pub child_held : (n c : Instance) → IsChildOf n c → holds (kind_of n) (kind_of c) ≡ true
child_held n c h = subst (λ p. may_hold p (kind_of c) ≡ true) h.in_body (held h.by c h.given_)

abbrev pub addressed : Kind → Bool
addressed kind.Field = false
addressed kind.Signal = false
addressed _ = true

pub address_by_kind : (n : Instance) (k : Kind) → kind_of n ≡ k → has_address n ≡ addressed k
address_by_kind n kind.Addrmap e = rw e refl
address_by_kind n kind.Regfile e = rw e refl
address_by_kind n kind.Reg e = rw e refl
address_by_kind n kind.Field e = rw e refl
address_by_kind n kind.Signal e = rw e refl

unit_holds : (k l : Kind) → addressed k ≡ false → holds k l ≡ true → ⊥
unit_holds kind.Field l e h = cc
unit_holds kind.Signal l e h = cc
unit_holds _ l e h = cc

reg_holds : (l : Kind) → holds kind.Reg l ≡ true → addressed l ≡ false
reg_holds kind.Field h = refl
reg_holds kind.Signal h = refl
reg_holds _ h = cc

-- in what has no address stands nothing
pub alone : (n : Instance) → has_address n ≡ false → children n ≡ []
alone n e = empty_of_none (IsChildOf n) (children n) (λ c h. unit_holds (kind_of n) (kind_of c) (sym (address_by_kind n (kind_of n) refl) ∙ e) (child_held n c h)) (children-given n)

none_of : (k : ℕ) (n : Instance) → has_address n ≡ false → filter has_address (with_below k n) ≡ []
none_of zero n e = rw e refl
none_of (suc k) n e = let cs = alone n e in ap (λ ns. filter has_address (n ∷ flat_map (with_below k) ns)) cs ∙ rw e refl

abbrev pub Unaddressed : Instance → Type 0
Unaddressed c = has_address c ≡ false

pub in_reg : (n : Instance) → kind_of n ≡ kind.Reg → AllByRecursion Unaddressed (children n)
in_reg n e = each-imp (IsChildOf n) Unaddressed (children n) (λ c h. address_by_kind c (kind_of c) refl ∙ reg_holds (kind_of c) (subst (λ k. holds k (kind_of c) ≡ true) e (child_held n c h))) (children-given n)

none_among : (k : ℕ) (cs : List Instance) → AllByRecursion Unaddressed cs → filter has_address (flat_map (with_below k) cs) ≡ []
none_among k [] h = refl
none_among k (c ∷ cs) h = filter-append (with_below k c) (flat_map (with_below k) cs) ∙ ap (λ xs. xs ++ filter has_address (flat_map (with_below k) cs)) (none_of k c h.0) ∙ none_among k cs h.1

-- those with addresses, of nodes and what is below them
below_addressed : (k : ℕ) (cs : List Instance) → filter has_address (flat_map (with_below k) cs) ≡ flat_map (λ c. filter has_address (with_below k c)) (filter has_address cs)
below_addressed k [] = refl
below_addressed k (c ∷ cs) = filter-append (with_below k c) (flat_map (with_below k) cs) ∙ go (has_address c) refl (below_addressed k cs)
  where
    go : (b : Bool) → has_address c ≡ b → filter has_address (flat_map (with_below k) cs) ≡ flat_map (λ x. filter has_address (with_below k x)) (filter has_address cs)
        → filter has_address (with_below k c) ++ filter has_address (flat_map (with_below k) cs) ≡ flat_map (λ x. filter has_address (with_below k x)) (cond b (c ∷ filter has_address cs) (filter has_address cs))
    go true e rest = ap (λ ys. filter has_address (with_below k c) ++ ys) rest
    go false e rest = ap (λ xs. xs ++ filter has_address (flat_map (with_below k) cs)) (none_of k c e) ∙ rest

-- The instances of a body, as they are placed.

pub firsts : (at step : ℕ) (ns : List Instance) → map (λ c. c.0) (elements_from at step ns) ≡ ns
firsts at step [] = refl
firsts at step (n ∷ ns) = ap (λ xs. n ∷ xs) (firsts (at + step) step ns)

abbrev pub members : Group → List Instance
members g = g.first ∷ g.others

abbrev pub placed_groups : Mode → ℕ → List Group → List (Instance × ℕ)
placed_groups mode before gs = flat_map (λ g. elements_from g.1 (stride mode g.0) (g.0.first ∷ g.0.others)) (starts mode before gs)

pub in_groups : (mode : Mode) (before : ℕ) (gs : List Group) → map (λ c. c.0) (placed_groups mode before gs) ≡ flat_map members gs
in_groups mode before [] = refl
in_groups mode before (g ∷ gs) =
    map-append (λ c. c.0) (elements_from (start mode before g) (stride mode g) (g.first ∷ g.others)) (placed_groups mode (end mode before g) gs)
    ∙ ap (λ xs. xs ++ map (λ c. c.0) (placed_groups mode (end mode before g) gs)) (firsts (start mode before g) (stride mode g) (g.first ∷ g.others))
    ∙ ap (λ xs. members g ++ xs) (in_groups mode (end mode before g) gs)

pub of_group : (size access : Instance → ℕ) (ns : List Instance) → flat_map members (group size access ns) ≡ ns
of_group size access [] = refl
of_group size access (n ∷ ns) = append-nil (n ∷ ns)

pub of_grouped : (size access : Instance → ℕ) (ss : List Seen) → flat_map members (grouped size access (map (λ s. filter has_address (given_by s)) ss)) ≡ filter has_address (flat_map given_by ss)
of_grouped size access [] = refl
of_grouped size access (s ∷ ss) =
    flat_map-append members (group size access (filter has_address (given_by s))) (grouped size access (map (λ s. filter has_address (given_by s)) ss))
    ∙ ap (λ xs. xs ++ flat_map members (grouped size access (map (λ s. filter has_address (given_by s)) ss))) (of_group size access (filter has_address (given_by s)))
    ∙ ap (λ xs. filter has_address (given_by s) ++ xs) (of_grouped size access ss)
    ∙ sym (filter-append (given_by s) (flat_map given_by ss))

pub offsets_of : (k : ℕ) (mode : Mode) (n : Instance) → map (λ c. c.0) (offsets (mode_in mode n) (groups k mode n)) ≡ filter has_address (children n)
offsets_of k mode n = in_groups (mode_in mode n) 0 (groups k mode n) ∙ of_grouped (size_of k (mode_in mode n)) (access_of k) (seen_in n)

-- Going down.

nothing_placed : (m : Mode) (at : ℕ) (cs : List (Instance × ℕ)) → flat_map (λ c. placed_from 0 m (at + c.1) c.0) cs ≡ []
nothing_placed m at [] = refl
nothing_placed m at (c ∷ cs) = nothing_placed m at cs

abbrev Both : ℕ → Instance → Type 0
Both k n = Deep k n × (has_address n ≡ true)

kept : (k : ℕ) (ns : List Instance) → AllByRecursion (Deep k) ns → AllByRecursion (Both k) (filter has_address ns)
kept k [] h = tt
kept k (n ∷ ns) h = go (has_address n) refl (kept k ns h.1)
  where
    go : (b : Bool) → has_address n ≡ b → AllByRecursion (Both k) (filter has_address ns) → AllByRecursion (Both k) (cond b (n ∷ filter has_address ns) (filter has_address ns))
    go true e rest = ((h.0, e), rest)
    go false e rest = rest

abbrev nodes_placed : List Placed → List Instance
nodes_placed ps = map (λ p. p.node) ps

each_placed : (k : ℕ) (m : Mode) (at : ℕ) (cs : List (Instance × ℕ)) → ((n : Instance) (b : ℕ) → Both k n → nodes_placed (placed_from (suc k) m b n) ≡ filter has_address (with_below k n)) → AllByRecursion (Both k) (map (λ c. c.0) cs)
    → nodes_placed (flat_map (λ c. placed_from (suc k) m (at + c.1) c.0) cs) ≡ flat_map (λ n. filter has_address (with_below k n)) (map (λ c. c.0) cs)
each_placed k m at [] g h = refl
each_placed k m at (c ∷ cs) g h =
    map-append (λ p. p.node) (placed_from (suc k) m (at + c.1) c.0) (flat_map (λ c. placed_from (suc k) m (at + c.1) c.0) cs)
    ∙ ap (λ xs. xs ++ nodes_placed (flat_map (λ c. placed_from (suc k) m (at + c.1) c.0) cs)) (g c.0 (at + c.1) h.0)
    ∙ ap (λ xs. filter has_address (with_below k c.0) ++ xs) (each_placed k m at cs g h.1)

cover : (k : ℕ) (mode : Mode) (at : ℕ) (n : Instance) → Both k n → nodes_placed (placed_from (suc k) mode at n) ≡ filter has_address (with_below k n)
cover zero mode at n h = ap (λ xs. n ∷ xs) (go (is_a kind.Reg n)) ∙ sym (rw h.1 refl)
  where
    go : (b : Bool) → nodes_placed (cond b [] (flat_map (λ c. placed_from 0 (mode_in mode n) (at + c.1) c.0) (offsets (mode_in mode n) (groups 0 mode n)))) ≡ []
    go true = refl
    go false = ap nodes_placed (nothing_placed (mode_in mode n) at (offsets (mode_in mode n) (groups 0 mode n)))
cover (suc k) mode at n h = ap (λ xs. n ∷ xs) (go (is_a kind.Reg n) refl (λ m b q. cover k (mode_in mode n) b m q)) ∙ sym (rw h.1 refl)
  where
    placed : List (Instance × ℕ)
    placed = offsets (mode_in mode n) (groups (suc k) mode n)

    go : (b : Bool) → is_a kind.Reg n ≡ b → ((m : Instance) (b : ℕ) → Both k m → nodes_placed (placed_from (suc k) (mode_in mode n) b m) ≡ filter has_address (with_below k m))
        → nodes_placed (cond b [] (flat_map (λ c. placed_from (suc k) (mode_in mode n) (at + c.1) c.0) placed)) ≡ filter has_address (flat_map (with_below k) (children n))
    go true e g = sym (none_among k (children n) (in_reg n (sym (same_true of_kind.the_type tt kind.Reg (kind_of n) e))))
    go false e g =
        each_placed k (mode_in mode n) at placed g (subst (AllByRecursion (Both k)) (sym (offsets_of (suc k) mode n)) (kept k (children n) (lower k n h.0)))
        ∙ ap (flat_map (λ m. filter has_address (with_below k m))) (offsets_of (suc k) mode n)
        ∙ sym (below_addressed k (children n))

all_deep_enough : (k : ℕ) (cs : List Instance) → ((c : Instance) → Deep k c → with_below (suc k) c ≡ with_below k c) → AllByRecursion (Deep k) cs → flat_map (with_below (suc k)) cs ≡ flat_map (with_below k) cs
all_deep_enough k [] g h = refl
all_deep_enough k (c ∷ cs) g h = ap (λ xs. xs ++ flat_map (with_below (suc k)) cs) (g c h.0) ∙ ap (λ xs. with_below k c ++ xs) (all_deep_enough k cs g h.1)

pub deep_enough : (k : ℕ) (n : Instance) → Deep k n → with_below (suc k) n ≡ with_below k n
deep_enough zero n d = ap (λ cs. n ∷ flat_map (with_below 0) cs) (bottom n d)
deep_enough (suc k) n d = ap (λ xs. n ∷ xs) (all_deep_enough k (children n) (λ c q. deep_enough k c q) (lower k n d))

-- The top.

abbrev IsMap : Option Use → Type 0
IsMap None = Unit {0}
IsMap (Some u) = AllByRecursion (λ c. c.def.kind ≡ kind.Addrmap) (option_to_list u.closure)

map_kind : (k : Kind) → is_addrmap k ≡ true → k ≡ kind.Addrmap
map_kind kind.Addrmap e = refl
map_kind _ e = cc

top_is_map : (wanted : Option (List ℕ)) (s : Source) (u : Use) (is : List (List Item × Item)) → Somewhere (λ i. top_at wanted s i ≡ Some u) is → IsMap (Some u)
top_is_map wanted s u [] h = absurd h
top_is_map wanted s u (i ∷ is) (inr h) = top_is_map wanted s u is h
top_is_map wanted s u (i ∷ is) (inl h) = go (component_of (item_is i.1)) h
  where
    scope : Scope
    scope = scope_at (root s) i.0

    chosen : (a b : Bool) (d : Def) (n : Name) → is_addrmap d.kind ≡ a → IsMap (cond (a && b) (Some (top_use scope d n)) None)
    chosen true true d n e = (map_kind d.kind e, tt)
    chosen true false d n e = tt
    chosen false b d n e = tt

    named : (d : Def) (o : Option Name) → IsMap (top_named wanted scope d o)
    named d None = tt
    named d (Some n) = chosen (is_addrmap d.kind) (is_wanted wanted n) d n refl

    go : (o : Option Def) → option_and_then (λ d. top_named wanted scope d d.name) o ≡ Some u → IsMap (Some u)
    go None q = cc
    go (Some d) q = subst IsMap q (named d d.name)

found_map : (wanted : Option (List ℕ)) (s : Source) (u : Use) → top_use_of wanted s ≡ Some u → IsMap (Some u)
found_map None s u e = top_is_map None s u (standing s.items.now) (unreversed (λ i. top_at None s i ≡ Some u) (standing s.items.now) (nearest_is (top_at None s) (reverse (standing s.items.now)) u e))
found_map (Some w) s u e = top_is_map (Some w) s u (standing s.items.now) (nearest_is (top_at (Some w) s) (standing s.items.now) u e)

map_deep : (u : Use) → IsMap (Some u) → (n : Instance) → IsGivenBy (top_seen u) n → Both 31 n
map_deep u h n g =
    let deep : At (below_top []) 31 n = omega arith in
    let at : kind_of n ≡ kind.Addrmap = (subst (λ o. AllByRecursion (λ c. c.def.kind ≡ kind.Addrmap) (option_to_list o)) g.closure_is h).0 in
    (subst (λ p. At p 31 n) (sym g.path_is) deep, address_by_kind n kind.Addrmap at)

tops_placed : (wanted : Option (List ℕ)) (s : Source) → AllByRecursion (Both 31) (top_of wanted s)
tops_placed wanted s = go (top_use_of wanted s) refl
  where
    go : (o : Option Use) → top_use_of wanted s ≡ o → AllByRecursion (Both 31) (flat_map (λ u. given_by (top_seen u)) (option_to_list o))
    go None e = tt
    go (Some u) e = each-append (Both 31) (given_by (top_seen u)) [] (each-imp (IsGivenBy (top_seen u)) (Both 31) (given_by (top_seen u)) (map_deep u (found_map wanted s u e)) (given-all (top_seen u))) tt

of_tops : (ns : List Instance) → AllByRecursion (Both 31) ns → nodes_placed (flat_map (placed_from most_names regalign 0) ns) ≡ filter has_address (flat_map (with_below most_names) ns)
of_tops [] h = refl
of_tops (n ∷ ns) h =
    map-append (λ p. p.node) (placed_from most_names regalign 0 n) (flat_map (placed_from most_names regalign 0) ns)
    ∙ ap (λ xs. xs ++ nodes_placed (flat_map (placed_from most_names regalign 0) ns)) (cover 31 regalign 0 n h.0 ∙ ap (filter has_address) (sym (deep_enough 31 n h.0.0)))
    ∙ ap (λ xs. filter has_address (with_below most_names n) ++ xs) (of_tops ns h.1)
    ∙ sym (filter-append (with_below most_names n) (flat_map (with_below most_names) ns))

signal_kind : (k : Kind) → may_hold at_root k ≡ true → addressed k ≡ false
signal_kind kind.Signal h = refl
signal_kind _ h = cc

no_signal : (ns : List Instance) → AllByRecursion Unaddressed ns → filter has_address ns ≡ []
no_signal [] h = refl
no_signal (n ∷ ns) h = rw h.0 (no_signal ns h.1)

pub covers : (wanted : Option (List ℕ)) (s : Source) → map (λ p. p.node) (layout wanted s) ≡ filter has_address (nodes wanted s)
unfolding layout nodes
covers wanted s =
    let none = no_signal (signals s) (each-imp IsAtRoot Unaddressed (signals s) (λ c h. address_by_kind c (kind_of c) refl ∙ signal_kind (kind_of c) (subst (λ p. may_hold p (kind_of c) ≡ true) h.in_body (held h.by c h.given_))) (signals-given s)) in
    of_tops (top_of wanted s) (tops_placed wanted s)
    ∙ sym (filter-append (signals s) (flat_map (with_below most_names) (top_of wanted s)) ∙ ap (λ xs. xs ++ filter has_address (flat_map (with_below most_names) (top_of wanted s))) none)
