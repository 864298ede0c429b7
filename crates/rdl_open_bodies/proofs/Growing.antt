-- A node whose body is opened, and those below it.
use Rattle.std.proofs.Common.{◌≡◌, ◌≢◌, ◌∙◌, ℕ, zero, suc, ◌+◌, ◌-◌, ◌<◌, ◌≤◌, ◌==◌, true, List, [], ◌∷◌, ◌++◌, length, get_or, drop, take, map, flat_map, slice_get, slice_index_or, Option, None, Some, add-one, refl, sym, ap, subst, arith, append_assoc, append-nil}
use Rattle.std.proofs.lemmas.Bool.{eqb-true}
use Rattle.std.proofs.lemmas.Grind.{flat_map-append}
use Rattle.std.proofs.lemmas.List.{length-map, nil_from_length, take_all}
use Rattle.std.proofs.lemmas.Option.{slice_get-map}
use Rattle.rdl_tree.specs.declared.node.Elab.{Elab}
use Rattle.rdl_tree.specs.declared.node.Node.{Node, out-Node}
use Rattle.rdl_values.specs.Bodies.{around, scope_at}
use Rattle.rdl_values.specs.Elaborated.{nodes_of}
use Rattle.rdl_values.specs.Instances.{Instance, body, children, given_by, kind_of, seen_in, with_below}
use Rattle.rdl_values.specs.Lineages.{Lineage, lineages_of}
use Rattle.rdl_values.specs.Paths.{in_node}
use Rattle.rdl_values.specs.Uses.{Seen}
use Rattle.rdl_nodes.proofs.Lineages.{all_nodes}
use Rattle.rdl_nodes.specs.Rows.{AreRows}
use Rattle.rdl_nodes.specs.declared.table.Row.{Row}
use Rattle.rdl_uses.specs.Parts.{StandsAt}
use Rattle.rdl_bodies.specs.Kept.{Grows}
use Rattle.rdl_bodies.specs.Opened.{CanOpen, IsOpened}
use Rattle.rdl_bodies.specs.Sited.{IsAt}
use Rattle.rdl_bodies.specs.declared.bodies.Bodies.{Bodies}
use Rattle.rdl_bodies.specs.declared.bodies.Site.{Site}
use Rattle.rdl_bodies.proofs.Growing.{grows_on, grows_same}
use Rattle.rdl_children.specs.Children.{AreChildren}
use Rattle.rdl_children.specs.declared.child.Child.{Child}
use Rattle.rdl_children.proofs.Reached.{shows_length}
use Rattle.rdl_walk.specs.Walking.{AreWalking, CanAsk, IsAsked}
use Rattle.rdl_walk.specs.declared.walk.Walk.{Walk}
use Rattle.rdl_walk.proofs.Asking.{stands_here}
use Rattle.rdl_walk.proofs.Elements.{fits_body}
use Rattle.rdl_walk.proofs.Steps.{walking_open}
use Rattle.rdl_targets.specs.At as targets
use Rattle.rdl_targets.specs.At.{AreAt, id_of}
use Rattle.rdl_targets.proofs.Numbered.{row_inside}
use Rattle.rdl_open_bodies.specs.Spots.{IsRound, IsSpot, Sees}
use Rattle.rdl_open_bodies.specs.Starts.{AreBodiesAt, AreInside, AreNodesOpen, AreStarts, AreUsesIn, CanOpenNode, CanOpenNodes, IsNodeOpen, IsRoundOf, IsStart, first_or_root}
use Rattle.rdl_open_bodies.specs.declared.spots.Round.{Round}
use Rattle.rdl_open_bodies.specs.declared.spots.Spot.{Spot}
use Rattle.rdl_open_bodies.specs.declared.spots.Start.{Start}
use Rattle.rdl_open_bodies.proofs.Cuts.{cut_bodies, own_bodies, round_at}
use Rattle.rdl_open_bodies.proofs.Staying.{open_alike, sees_stay, spots_append, spots_stay, start_stays}
use Rattle.rdl_open_bodies.proofs.Uses.{uses_in}

-- Numbers of lineages are those of nodes.

pub node_at : (e : Elab) (k : ℕ) (n : Instance) → targets.IsAt (lineages_of e) k n → slice_get (nodes_of e) k ≡ Some n
node_at e k n h = ap (λ ns. slice_get ns k) (sym (all_nodes _ e.source.now)) ∙ slice_get-map (λ (l : Lineage). l.node) (lineages_of e) k ∙ h

pub at_node : (e : Elab) (k : ℕ) (n : Instance) → slice_get (nodes_of e) k ≡ Some n → targets.IsAt (lineages_of e) k n
at_node e k n h = sym (slice_get-map (λ (l : Lineage). l.node) (lineages_of e) k) ∙ ap (λ ns. slice_get ns k) (all_nodes _ e.source.now) ∙ h

pub same_node : (all : List Lineage) (k : ℕ) (m n : Instance) → targets.IsAt all k m → targets.IsAt all k n → m ≡ n
same_node all k m n h g = let both : Some m ≡ Some n = sym h ∙ g in cc

-- A node.

pub can_open : (w : Walk) (x : Start) (some : (e : Elab) × (levels : ℕ) × (n : Instance) × IsStart e w.bodies x levels n) → CanOpen w.bodies x.site
can_open w x some = let s = some.3 in record { site = s.of; here = s.here; node = some.2; at = s.at }

module _ (e : Elab) (w v : Walk) (x : Start) (levels : ℕ) (n : Instance) (s : Site) (inv : AreWalking w) (start : IsStart e w.bodies x levels n) (there : slice_get w.bodies.sites.items x.site ≡ Some s) where
  same-site : start.of ≡ s
  same-site = let both : Some start.of ≡ Some s = sym start.here ∙ there in cc

  pub at_site : IsAt w.bodies s n.closure n.bound
  at_site = subst (λ y. IsAt w.bodies y n.closure n.bound) same-site start.at

  size : length n.closure.scope ≡ length s.outer.now
  size = sym (shows_length w.bodies.tables.items w.bodies.components.items s.outer.now s.uptos.now n.closure.scope at_site.round.shown)

  pub node_open : (k depth upto : ℕ) (round : Option ℕ) (before after : List Spot) → IsOpened w.bodies v.bodies w.failures v.failures k (body n) → v.judgements.items ≡ w.judgements.items → v.count ≡ w.count → depth ≡ length s.outer.now
      → upto ≡ slice_index_or s.uptos.now 0 0 → round ≡ first_or_root (drop (length x.chain.now - depth) x.chain.now) → after ≡ before ++ (record { body = k; within = x.within; round = round; upto = upto; depth = depth } ∷ [])
      → IsNodeOpen e w v before after (record { body = k; within = x.within; round = round; upto = upto; depth = depth }) n
  node_open k depth upto round before after opened js count d u r put =
      let low = inv.counted in
      let ks = drop (length x.chain.now - depth) x.chain.now in
      let bodies = cut_bodies e x.chain.now start.scope n.closure.scope depth start.bodies start.cut (size ∙ sym d) in
      let placed = round_at e w.bodies.tables.items w.bodies.components.items ks s.outer.now s.uptos.now n.closure.scope s.def.now bodies at_site.round.shown (inv.kept.sites x.site s there).defined in
      record {
        walking = walking_open w v k (body n) inv opened js (omega (arith, low, count));
        grown = opened.grown;
        put = put;
        spot_is = record {
          own = record { open_ = opened.body; here = opened.here; is = opened.open_ };
          use_ = sees_stay w.bodies v.bodies w.failures inv.kept opened.grown x.within (around n.use_.scope) start.use_;
          parts = start.parts;
          round_is = subst (λ q. (IsRound e q upto n.closure.scope)) (sym r) (subst (λ q. IsRound e (first_or_root ks) q n.closure.scope) (sym u) placed);
          depth_is = size ∙ sym d;
        };
      }

-- no site is missing
pub no_site : (e : Elab) (w : Walk) (x : Start) (levels : ℕ) (n : Instance) → IsStart e w.bodies x levels n → slice_get w.bodies.sites.items x.site ≡ None → ⊥
no_site e w x levels n start none = let both : Some start.of ≡ None = sym start.here ∙ none in cc

-- The uses in the body of a node.

pub can_ask : (e : Elab) (t : Walk) (o : Spot) (x : Start) (levels : ℕ) (n : Instance) → IsSpot e t.bodies o n → StandsAt x.standing (in_node n.path (kind_of n)) → CanAsk t.bodies o.body x.standing
can_ask e t o x levels n spot stands = record {
  body = spot.own.open_;
  here = spot.own.here;
  shown = body n;
  open_ = spot.own.is;
  stands = stands_here t.bodies spot.own.open_ n x.standing spot.own.is stands;
}

module _ (e : Elab) (w u : Walk) (x : Start) (levels number : ℕ) (o : Spot) (n : Instance) (inv : AreWalking w) (there : targets.IsAt (lineages_of e) number n) (spot : IsSpot e w.bodies o n) (start : IsStart e w.bodies x (suc levels) n) where
  abbrev pub asked : (xs : List Child) → Type 0
  asked xs = IsAsked w u xs (seen_in n)

  pub inside : (xs : List Child) (round : Round) (starts : List Start) (most : ℕ) → asked xs → round.within ≡ o.body → round.standing ≡ x.standing → round.chain.now ≡ Some number ∷ drop (length x.chain.now - o.depth) x.chain.now
      → ((ss : List Seen) → AreChildren u.bodies xs ss → AreUsesIn (in_node n.path (kind_of n)) (scope_at (body n) (body n).items) ss → IsRoundOf e u.bodies round (in_node n.path (kind_of n)) levels (scope_at (body n) (body n).items) → length (flat_map given_by ss) ≤ most → AreStarts e u.bodies starts levels (flat_map given_by ss))
      → length (children n) ≤ most → AreInside e w u starts levels (children n)
  inside xs round starts most h within standing chain starts_of few =
      let bodies = own_bodies e number n (drop (length x.chain.now - o.depth) x.chain.now) (node_at e number n there) (cut_bodies e x.chain.now start.scope n.closure.scope o.depth start.bodies start.cut spot.depth_is) in
      let sees : Sees w.bodies o.body (around (scope_at (body n) (body n).items)) = record { open_ = spot.own.open_; here = spot.own.here; alike = open_alike w.bodies spot.own.open_ (body n) spot.own.is } in
      record {
        walking = h.walking;
        grown = h.grown;
        starts = starts_of (seen_in n) h.children (uses_in _ (body n)) (record {
          stands = subst (λ a. StandsAt a (in_node n.path (kind_of n))) (sym standing) start.stands;
          fits = fits_body n.path (kind_of n) levels start.fits;
          sees = subst (λ k. Sees u.bodies k (around (scope_at (body n) (body n).items))) (sym within) (sees_stay w.bodies u.bodies w.failures inv.kept h.grown o.body _ sees);
          bodies = subst (λ ks. AreBodiesAt e ks (scope_at (body n) (body n).items)) (sym chain) bodies;
        }) few;
      }

-- Nodes one after the other.

pub nodes_none : (e : Elab) (w : Walk) (spots : List Spot) → AreWalking w → AreNodesOpen e w w spots spots []
nodes_none e w spots inv = record { walking = inv; grown = grows_same w.bodies w.bodies refl refl refl ([], sym (append-nil w.bodies.sites.items)); added = []; put = sym (append-nil spots); spots = tt }

pub nodes_on : (e : Elab) (w v u : Walk) (a b c : List Spot) (ns ms : List Instance) → AreNodesOpen e w v a b ns → AreNodesOpen e v u b c ms → AreNodesOpen e w u a c (ns ++ ms)
nodes_on e w v u a b c ns ms f g = record {
  walking = g.walking;
  grown = grows_on w.bodies v.bodies u.bodies f.grown g.grown;
  added = f.added ++ g.added;
  put = g.put ∙ ap (λ xs. xs ++ g.added) f.put ∙ append_assoc a f.added g.added;
  spots = spots_append e u.bodies f.added g.added ns ms (spots_stay v.bodies u.bodies v.failures f.walking.kept g.grown e f.added ns f.spots) g.spots;
}

pub one_node : (e : Elab) (w v : Walk) (a b : List Spot) (o : Spot) (n : Instance) → IsNodeOpen e w v a b o n → AreNodesOpen e w v a b (n ∷ [])
one_node e w v a b o n h = record { walking = h.walking; grown = h.grown; added = o ∷ []; put = h.put; spots = (h.spot_is, tt) }

pub inside_none : (e : Elab) (w v : Walk) (spots : List Spot) (xs : List Start) (levels : ℕ) (ns : List Instance) → AreInside e w v xs levels ns → AreNodesOpen e w v spots spots []
inside_none e w v spots xs levels ns h = record { walking = h.walking; grown = h.grown; added = []; put = sym (append-nil spots); spots = tt }

-- The next of some nodes, with its start.
pub record IsNext (e : Elab) (t : Bodies) (levels number : ℕ) (x : Start) (ns : List Instance) (i : ℕ) : Type 0 where
  pub n : Instance
  pub there : targets.IsAt (lineages_of e) number n
  pub start : IsStart e t x levels n
  pub more : take (suc i) ns ≡ take i ns ++ (n ∷ [])

pub next_at : (e : Elab) (t : Bodies) (levels : ℕ) (rs : List Node) (xs : List Start) (ns : List Instance) (i : ℕ) (d : Node) (x : Start) → i < length rs → slice_get xs i ≡ Some x → AreAt (lineages_of e) (map id_of rs) ns → AreStarts e t xs levels ns
    → IsNext e t levels (id_of (get_or rs i d)) x ns i
next_at e t levels [] xs ns i d x l is h g = absurd (omega (arith, l))
next_at e t levels (r ∷ rs) xs [] i d x l is h g = absurd h
next_at e t levels (r ∷ rs) [] (n ∷ ns) i d x l is h g = absurd g
next_at e t levels (r ∷ rs) (y ∷ xs) (n ∷ ns) zero d x l is h g = let same : y ≡ x = cc in record { n = n; there = h.0; start = subst (λ z. IsStart e t z levels n) same g.0; more = refl }
next_at e t levels (r ∷ rs) (y ∷ xs) (n ∷ ns) (suc i) d x l is h g =
    let rec = next_at e t levels rs xs ns i d x (omega (arith, l)) is h.1 g.1 in
    record { n = rec.n; there = rec.there; start = rec.start; more = ap (λ zs. n ∷ zs) rec.more }

pub no_start : (e : Elab) (t : Bodies) (levels : ℕ) (rs : List Node) (xs : List Start) (ns : List Instance) (i : ℕ) → i < length rs → slice_get xs i ≡ None → AreAt (lineages_of e) (map id_of rs) ns → AreStarts e t xs levels ns → ⊥
no_start e t levels [] xs ns i l none h g = absurd (omega (arith, l))
no_start e t levels (r ∷ rs) xs [] i l none h g = h
no_start e t levels (r ∷ rs) [] (n ∷ ns) i l none h g = g
no_start e t levels (r ∷ rs) (y ∷ xs) (n ∷ ns) zero l none h g = cc
no_start e t levels (r ∷ rs) (y ∷ xs) (n ∷ ns) (suc i) l none h g = no_start e t levels rs xs ns i (omega (arith, l)) none h.1 g.1

pub starts_stay : (e : Elab) (w v : Walk) (xs : List Start) (levels : ℕ) (ns : List Instance) → AreWalking w → Grows w.bodies v.bodies → AreStarts e w.bodies xs levels ns → AreStarts e v.bodies xs levels ns
starts_stay e w v [] levels [] inv grown h = tt
starts_stay e w v [] levels (n ∷ ns) inv grown h = absurd h
starts_stay e w v (x ∷ xs) levels [] inv grown h = absurd h
starts_stay e w v (x ∷ xs) levels (n ∷ ns) inv grown h = (start_stays w.bodies v.bodies w.failures inv.kept grown e x levels n h.0, starts_stay e w v xs levels ns inv grown h.1)

-- What is open after so many nodes.
pub nodes_more : (e : Elab) (w v u : Walk) (a b c : List Spot) (levels i : ℕ) (ns : List Instance) (n : Instance) → take (suc i) ns ≡ take i ns ++ (n ∷ []) → AreNodesOpen e w v a b (flat_map (with_below levels) (take i ns)) → AreNodesOpen e v u b c (with_below levels n)
    → AreNodesOpen e w u a c (flat_map (with_below levels) (take (i + 1) ns))
nodes_more e w v u a b c levels i ns n more f g =
    let all : flat_map (with_below levels) (take (i + 1) ns) ≡ flat_map (with_below levels) (take i ns) ++ with_below levels n = ap (λ k. flat_map (with_below levels) (take k ns)) (add-one i) ∙ ap (flat_map (with_below levels)) more ∙ flat_map-append (with_below levels) (take i ns) (n ∷ []) ∙ ap (λ xs. flat_map (with_below levels) (take i ns) ++ xs) (append-nil (with_below levels n)) in
    subst (AreNodesOpen e w u a c) (sym all) (nodes_on e w v u a b c _ _ f g)

pub at-length : (all : List Lineage) (ks : List ℕ) (ns : List Instance) → AreAt all ks ns → length ks ≡ length ns
at-length all [] [] h = refl
at-length all [] (n ∷ ns) h = absurd h
at-length all (k ∷ ks) [] h = absurd h
at-length all (k ∷ ks) (n ∷ ns) h = ap suc (at-length all ks ns h.1)

pub nodes_length : (e : Elab) (rs : List Node) (ns : List Instance) → AreAt (lineages_of e) (map id_of rs) ns → length ns ≡ length rs
nodes_length e rs ns h = sym (at-length (lineages_of e) (map id_of rs) ns h) ∙ length-map rs id_of

-- The node of a number, with what it starts from.
pub start_for : (e : Elab) (t : Bodies) (number : ℕ) (x : Start) (levels : ℕ) (n : Instance) → CanOpenNode e t number x levels → targets.IsAt (lineages_of e) number n → IsStart e t x levels n
start_for e t number x levels n can at = subst (IsStart e t x levels) (same_node (lineages_of e) number can.node n can.here at) can.start

-- A node, the nodes in its body one after the other, and all below these.
module _ (e : Elab) (rows : List Row) (number : ℕ) (x : Start) (levels : ℕ) (w v : Walk) (a b : List Spot) (o : Spot) (can : CanOpenNode e w.bodies number x levels) (table : AreRows e rows) (r : Row) (is : slice_get rows number ≡ Some r) (some : levels ≢ 0) (inv : AreWalking w)
    (opened : (n : Instance) → IsStart e w.bodies x levels n → IsNodeOpen e w v a b o n) where
  abbrev pub nodes_in : List Node
  nodes_in = (out-Node r.node.now).children.now

  abbrev pub one_less : ℕ
  one_less = levels - 1

  less-is : suc one_less ≡ levels
  less-is = omega (arith, some)

  own : (n : Instance) → targets.IsAt (lineages_of e) number n → IsNodeOpen e w v a b o n
  own n at = opened n (start_for e w.bodies number x levels n can at)

  inner : (n : Instance) → targets.IsAt (lineages_of e) number n → AreAt (lineages_of e) (map id_of nodes_in) (children n)
  inner n at = row_inside e rows number r n table is at

  pub few_in : (n : Instance) → targets.IsAt (lineages_of e) number n → length (children n) ≤ length nodes_in
  few_in n at = let l = nodes_length e nodes_in (children n) (inner n at) in omega (arith, l)

  pub walking_v : AreWalking v
  walking_v = (own can.node can.here).walking

  pub can_ask_v : CanAsk v.bodies o.body x.standing
  can_ask_v = can_ask e v o x levels can.node (own can.node can.here).spot_is can.start.stands

  pub start_v : (n : Instance) → targets.IsAt (lineages_of e) number n → IsStart e v.bodies x (suc one_less) n
  start_v n at = subst (λ l. IsStart e v.bodies x l n) (sym less-is) (start_stays w.bodies v.bodies w.failures inv.kept (own n at).grown e x levels n (start_for e w.bodies number x levels n can at))

  pub spot_v : (n : Instance) → targets.IsAt (lineages_of e) number n → IsSpot e v.bodies o n
  spot_v n at = (own n at).spot_is

  -- nothing is below a node without nodes in it
  pub none_in : (length nodes_in == 0) ≡ true → (n : Instance) → targets.IsAt (lineages_of e) number n → AreNodesOpen e w v a b (with_below levels n)
  none_in none n at =
      let few = few_in n at in
      let zero_is = eqb-true (length nodes_in) 0 none in
      let no : children n ≡ [] = nil_from_length (children n) (omega (arith, few, zero_is)) in
      subst (λ k. AreNodesOpen e w v a b (with_below k n)) less-is (subst (λ ns. AreNodesOpen e w v a b (n ∷ flat_map (with_below one_less) ns)) (sym no) (one_node e w v a b o n (own n at)))

  module _ (u : Walk) (xs : List Start) (listed : (n : Instance) → targets.IsAt (lineages_of e) number n → AreInside e v u xs one_less (children n)) where
    pub walking_u : AreWalking u
    walking_u = (listed can.node can.here).walking

    pub can_all : CanOpenNodes e u.bodies nodes_in xs one_less
    can_all = record { instances = children can.node; there = inner can.node can.here; starts = (listed can.node can.here).starts }

    pub all_open : (z : Walk) (c : List Spot) → ((ns : List Instance) → AreAt (lineages_of e) (map id_of nodes_in) ns → AreNodesOpen e u z b c (flat_map (with_below one_less) ns)) → (n : Instance) → targets.IsAt (lineages_of e) number n → AreNodesOpen e w z a c (with_below levels n)
    all_open z c rec n at =
        subst (λ k. AreNodesOpen e w z a c (with_below k n)) less-is
        (nodes_on e w v z a b c (n ∷ []) (flat_map (with_below one_less) (children n)) (one_node e w v a b o n (own n at))
        (nodes_on e v u z b b c [] (flat_map (with_below one_less) (children n)) (inside_none e v u b xs one_less (children n) (listed n at)) (rec (children n) (inner n at))))

-- A node without levels below it.
pub no_levels : (e : Elab) (number levels : ℕ) (x : Start) (w v : Walk) (a b : List Spot) (o : Spot) → CanOpenNode e w.bodies number x levels → levels ≡ 0 → ((n : Instance) → IsStart e w.bodies x levels n → IsNodeOpen e w v a b o n)
    → (n : Instance) → targets.IsAt (lineages_of e) number n → AreNodesOpen e w v a b (with_below levels n)
no_levels e number levels x w v a b o can none opened n at = subst (λ k. AreNodesOpen e w v a b (with_below k n)) (sym none) (one_node e w v a b o n (opened n (start_for e w.bodies number x levels n can at)))

-- Some nodes one after the other.

same-nodes : (all : List Lineage) (ks : List ℕ) (ns ms : List Instance) → AreAt all ks ns → AreAt all ks ms → ns ≡ ms
same-nodes all [] [] [] h g = refl
same-nodes all [] [] (m ∷ ms) h g = absurd g
same-nodes all [] (n ∷ ns) ms h g = absurd h
same-nodes all (k ∷ ks) [] ms h g = absurd h
same-nodes all (k ∷ ks) (n ∷ ns) [] h g = absurd g
same-nodes all (k ∷ ks) (n ∷ ns) (m ∷ ms) h g = let x = same_node all k n m h.0 g.0 in let xs = same-nodes all ks ns ms h.1 g.1 in ap (λ y. y ∷ ns) x ∙ ap (λ ys. m ∷ ys) xs

module _ (e : Elab) (rs : List Node) (xs : List Start) (levels : ℕ) (w : Walk) (b : List Spot) (can : CanOpenNodes e w.bodies rs xs levels) (inv : AreWalking w) where
  abbrev pub so_far : Walk → List Spot → ℕ → Type 0
  so_far z c i = AreNodesOpen e w z b c (flat_map (with_below levels) (take i can.instances))

  pub far_none : so_far w b 0
  far_none = of can.instances
    where
      of : (ns : List Instance) → AreNodesOpen e w w b b (flat_map (with_below levels) (take 0 ns))
      of [] = nodes_none e w b inv
      of (m ∷ ns) = nodes_none e w b inv

  module _ (z : Walk) (c : List Spot) (i : ℕ) (d : Node) (y : Start) (l : i < length rs) (start_is : slice_get xs i ≡ Some y) (h : so_far z c i) where
    next-in : IsNext e w.bodies levels (id_of (get_or rs i d)) y can.instances i
    next-in = next_at e w.bodies levels rs xs can.instances i d y l start_is can.there can.starts

    pub can_next : CanOpenNode e z.bodies (id_of (get_or rs i d)) y levels
    can_next = record { node = next-in.n; here = next-in.there; start = start_stays w.bodies z.bodies w.failures inv.kept h.grown e y levels next-in.n next-in.start }

    pub far_more : (t : Walk) (g : List Spot) → ((m : Instance) → targets.IsAt (lineages_of e) (id_of (get_or rs i d)) m → AreNodesOpen e z t c g (with_below levels m)) → so_far t g (i + 1)
    far_more t g rec = nodes_more e w z t b c g levels i can.instances next-in.n next-in.more h (rec next-in.n next-in.there)

  pub none_missing : (i : ℕ) → i < length rs → slice_get xs i ≡ None → ⊥
  none_missing i l none = no_start e w.bodies levels rs xs can.instances i l none can.there can.starts

  pub far_all : (z : Walk) (c : List Spot) (i : ℕ) → length rs ≤ i → so_far z c i → (ns : List Instance) → AreAt (lineages_of e) (map id_of rs) ns → AreNodesOpen e w z b c (flat_map (with_below levels) ns)
  far_all z c i l h ns at =
      let long = nodes_length e rs can.instances can.there in
      let all : take i can.instances ≡ can.instances = take_all i can.instances (omega (arith, long, l)) in
      let same = same-nodes (lineages_of e) (map id_of rs) can.instances ns can.there at in
      subst (λ ms. AreNodesOpen e w z b c (flat_map (with_below levels) ms)) (all ∙ same) h
