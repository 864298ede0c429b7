-- What is seen from where a setting's text stands.
use Rattle.std.proofs.Common.{◌≡◌, ◌∙◌, ℕ, zero, suc, ◌≤◌, ◌⊎◌, inl, inr, List, [], ◌∷◌, ◌++◌, flat_map, length, map, option_to_list, IfNone, IsSome, Option, None, Some, slice_get, refl, sym, ap, subst, arith}
use Rattle.std.specs.List.{AllByRecursion}
use Rattle.rb_base.specs.declared.place.Place.{Place}
use Rattle.rdl_tree.specs.declared.expr.Name.{Name}
use Rattle.rdl_tree.specs.declared.expr.Path as code
use Rattle.rdl_tree.specs.declared.item.Item.{Item}
use Rattle.rdl_tree.specs.declared.item.Source.{Source}
use Rattle.rdl_tree.specs.declared.node.Elab.{Elab}
use Rattle.rdl_tree.specs.declared.node.Node.{Node, out-Node}
use Rattle.rdl_props.specs.declared.prop.Prop.{Prop}
use Rattle.rdl_values.specs.Bodies.{Body, Scope, around, scope_at, standing}
use Rattle.rdl_values.specs.Elaborated.{AreTreesOf, IsTreeOf, around_body, more, node, nodes_of, top_name}
use Rattle.rdl_values.specs.Elaboration.{IsClean}
use Rattle.rdl_values.specs.Given.{IsGivenBy}
use Rattle.rdl_values.specs.Instances.{Instance, body, children, given_by, most_names, nodes, root, seen_in, signals, top_of, with_below}
use Rattle.rdl_values.specs.Lineages.{lineages_of}
use Rattle.rdl_values.specs.Scopes.{AreScopesIn, IsAmong}
use Rattle.rdl_values.specs.Seen.{around_of}
use Rattle.rdl_values.specs.Top.{top_seen, top_use_of}
use Rattle.rdl_values.specs.Uses.{Seen, Use, parent_of, seen, uses}
use Rattle.rdl_values.specs.Values.{Around, Names}
use Rattle.rdl_values.proofs.Given.{each-map, given-all}
use Rattle.plain_lemmas.proofs.Lists.{each-flat_map, each-imp}
use Rattle.rdl_failures.specs.Shown.{IsShown}
use Rattle.rdl_layers.specs.Says.{IsBodyNumber, IsScopeNumber}
use Rattle.rdl_layers.specs.Settings.{reference, setting}
use Rattle.rdl_nodes.proofs.Members.{In, each-in, in-flat, in-place, in-right, place-in}
use Rattle.rdl_nodes.proofs.Order.{behind}
use Rattle.rdl_nodes.specs.declared.table.Row.{Row}
use Rattle.rdl_nodes.specs.Rows.{AreRows}
use Rattle.rdl_sizes.proofs.Facts.{lineage-at, node-at, nodes-many, row-at, rows-many}
use Rattle.rdl_bits.proofs.Descending.{at-top}
use Rattle.rdl_members.proofs.Standing.{one-by-path}
use Rattle.rdl_layers.specs.Scoped.{IsScoped, IsWithin, bodies_of}
use Rattle.rdl_resolve.specs.Outward.{IsChain, IsSeen, outer_at}
use Rattle.rdl_resolve.specs.declared.leading.Viewpoint.{Viewpoint}
use Rattle.rdl_layers.specs.NodeNames.{around_at, around_if}
use Rattle.rdl_resolve.specs.Outers.{AreOuters}

-- The bodies above a node are those of nodes.

-- a use of a body, as it is seen there
abbrev seen-as : List Body → Body → List Use × Use → Seen
seen-as above b u = record { parent = parent_of b; above = above; earlier = u.0; use_ = u.1 }

given-above : (bs : List Body) (b : Body) (u : List Use × Use) → AllByRecursion (λ c. c.above ≡ bs) (given_by (seen-as bs b u))
given-above bs b u = let s : Seen = seen-as bs b u in each-imp (IsGivenBy s) (λ c. c.above ≡ bs) (given_by s) (λ c g. g.above_is) (given-all s)

children-above : (n : Instance) → AllByRecursion (λ c. c.above ≡ n.above ++ (body n ∷ [])) (children n)
children-above n = each-flat_map (λ c. c.above ≡ n.above ++ (body n ∷ [])) given_by (seen_in n)
    (each-map (λ s. AllByRecursion (λ c. c.above ≡ n.above ++ (body n ∷ [])) (given_by s)) (seen-as (n.above ++ (body n ∷ [])) (body n)) (standing (uses (body n))) (given-above (n.above ++ (body n ∷ [])) (body n)))

signals-above : (s : Source) → AllByRecursion (λ n. n.above ≡ []) (signals s)
signals-above s = each-flat_map (λ n. n.above ≡ []) given_by (seen [] (root s)) (each-map (λ u. AllByRecursion (λ n. n.above ≡ []) (given_by u)) (seen-as [] (root s)) (standing (uses (root s))) (given-above [] (root s)))

tops-above : (wanted : Option (List ℕ)) (s : Source) → AllByRecursion (λ n. n.above ≡ []) (top_of wanted s)
tops-above wanted s = each-flat_map (λ n. n.above ≡ []) (λ u. given_by (top_seen u)) (option_to_list (top_use_of wanted s)) (all (top_use_of wanted s))
  where
    all : (o : Option Use) → AllByRecursion (λ u. AllByRecursion (λ n. n.above ≡ []) (given_by (top_seen u))) (option_to_list o)
    all None = tt
    all (Some u) = (each-imp (IsGivenBy (top_seen u)) (λ n. n.above ≡ []) (given_by (top_seen u)) (λ n g. g.above_is) (given-all (top_seen u)), tt)

among-either : (xs ys : List Body) (b : Body) → IsAmong (xs ++ ys) b → IsAmong xs b ⊎ IsAmong ys b
among-either [] ys b h = inr h
among-either (x ∷ xs) ys b (inl e) = inl (inl e)
among-either (x ∷ xs) ys b (inr h) = go (among-either xs ys b h)
  where
    go : IsAmong xs b ⊎ IsAmong ys b → IsAmong (x ∷ xs) b ⊎ IsAmong ys b
    go (inl p) = inl (inr p)
    go (inr p) = inr p

-- the body is that of a node
abbrev IsNodes : Elab → Body → Type 0
IsNodes e b = (a : Instance) × In (nodes_of e) a × (b ≡ body a)

above-bodies : (e : Elab) (b : Body) (up : List Instance) (n : Instance) (i : ℕ) → slice_get (lineages_of e) i ≡ Some (record { node = n; ancestors = up }) → IsAmong n.above b → IsNodes e b
above-bodies e b [] n i here h =
    absurd (subst (λ bs. IsAmong bs b) none h)
  where
    none : n.above ≡ []
    none = elim (at-top (Some (top_name e)) e.source.now (record { node = n; ancestors = [] }) (place-in (lineages_of e) i (record { node = n; ancestors = [] }) here) refl) [
      | inl p ↦ each-in (λ n. n.above ≡ []) (signals e.source.now) n (signals-above e.source.now) p
      | inr p ↦ each-in (λ n. n.above ≡ []) (top_of (Some (top_name e)) e.source.now) n (tops-above (Some (top_name e)) e.source.now) p
    ]
above-bodies e b (a ∷ up) n i here h =
    let q = behind (Some (top_name e)) e.source.now i (record { node = n; ancestors = a ∷ up }) a up here refl in
    let is = each-in (λ c. c.above ≡ a.above ++ (body a ∷ [])) (children a) n (children-above a) q.3 in
    by (λ g. above-bodies e b up a q.0 q.2 g) (place-in (nodes_of e) q.0 a (node-at e q.0 (record { node = a; ancestors = up }) q.2)) (among-either a.above (body a ∷ []) b (subst (λ bs. IsAmong bs b) is h))
  where
    by : (IsAmong a.above b → IsNodes e b) → In (nodes_of e) a → IsAmong a.above b ⊎ IsAmong (body a ∷ []) b → IsNodes e b
    by rest among (inl g) = rest g
    by rest among (inr (inl q)) = (a, among, sym q)
    by rest among (inr (inr q)) = absurd q

-- the top is a node
top-in : (wanted : Option (List ℕ)) (s : Source) (n : Instance) → In (top_of wanted s) n → In (nodes wanted s) n
unfolding nodes
top-in wanted s n h = in-right (signals s) (flat_map (with_below most_names) (top_of wanted s)) n (in-flat (with_below most_names) (top_of wanted s) n n h (inl refl))

-- A text in the body of a node, or of the root.

module _ (e : Elab) (outers : List ℕ) (are : AreOuters e outers) (b : Body) (before : List Item) (k : ℕ) (number : IsBodyNumber (nodes_of e) b.node k) where
  in-root : b ≡ root e.source.now → IsChain e outers (map (λ l. l.node) (scope_at b before)) k × (around (scope_at b before) ≡ around_at e k)
  in-root is =
      let none : IsBodyNumber (nodes_of e) None k = subst (λ y. IsBodyNumber (nodes_of e) y.node k) is number in
      let beyond : slice_get (nodes_of e) k ≡ None = past (nodes_of e) k none in (
        subst (λ y. IsChain e outers (map (λ l. l.node) (scope_at y before)) k) (sym is) (none, tt),
        ap (λ y. around (scope_at y before)) is ∙ sym (ap (around_if e) beyond),
      )
    where
      past : {X : Type 0} (xs : List X) (k : ℕ) → k ≡ length xs → slice_get xs k ≡ None
      past [] k q = refl
      past (x ∷ xs) zero q = absurd (omega (arith, q))
      past (x ∷ xs) (suc k) q = past xs k (omega (arith, q))

  in-node : (m : Instance) → In (nodes_of e) m → b ≡ body m → IsChain e outers (map (λ l. l.node) (scope_at b before)) k × (around (scope_at b before) ≡ around_at e k)
  in-node m among is =
      let n : IsBodyNumber (nodes_of e) (Some m.path) k = subst (λ y. IsBodyNumber (nodes_of e) y.node k) is number in
      let j = in-place (nodes_of e) m among in
      let at_j = lineage-at e j.0 m j.2 in
      let at_k = lineage-at e k n.0 n.1 in
      let same : at_k.0 ≡ at_j.0 = one-by-path e k j.0 at_k.0 at_j.0 at_k.1 at_j.1 (ap (λ y. y.path) at_k.2 ∙ (n.2 ∙ sym (ap (λ y. y.path) at_j.2))) in
      let node_is : at_k.0.node ≡ m = ap (λ y. y.node) same ∙ at_j.2 in
      let chain = subst (λ y. IsChain e outers (bodies_of y.closure.scope) (outer_at e.count outers k)) node_is (are.chains k at_k.0 at_k.1) in
      let here : slice_get (nodes_of e) k ≡ Some m = n.1 ∙ ap Some (sym at_k.2 ∙ node_is) in (
        subst (λ y. IsChain e outers (map (λ l. l.node) (scope_at y before)) k) (sym is) (n, chain),
        ap (λ y. around (scope_at y before)) is ∙ sym (ap (around_if e) here),
      )

-- in one of the bodies round a node's body, or in that
in-some : (e : Elab) (outers : List ℕ) → AreOuters e outers → (n : Instance) → In (nodes_of e) n → (b : Body) (before : List Item) (k : ℕ) → IsAmong (root e.source.now ∷ n.above ++ (body n ∷ [])) b → IsBodyNumber (nodes_of e) b.node k
    → IsChain e outers (map (λ l. l.node) (scope_at b before)) k × (around (scope_at b before) ≡ around_at e k)
in-some e outers are n among b before k (inl q) own = in-root e outers are b before k own (sym q)
in-some e outers are n among b before k (inr h) own = by (among-either n.above (body n ∷ []) b h)
  where
    by : IsAmong n.above b ⊎ IsAmong (body n ∷ []) b → IsChain e outers (map (λ l. l.node) (scope_at b before)) k × (around (scope_at b before) ≡ around_at e k)
    by (inl g) =
        let j = in-place (nodes_of e) n among in
        let l = lineage-at e j.0 n j.2 in
        let m = above-bodies e b l.0.ancestors l.0.node j.0 l.1 (subst (λ y. IsAmong y.above b) (sym l.2) g) in
        in-node e outers are b before k own m.0 m.1 m.2
    by (inr (inl q)) = in-node e outers are b before k own n among (sym q)
    by (inr (inr q)) = absurd q

pub seen-from : (e : Elab) (v : Viewpoint) (k : ℕ) (outers : List ℕ) → AreOuters e outers → (n : Instance) (scope : Scope) → In (nodes_of e) n → IsWithin (root e.source.now ∷ n.above ++ (body n ∷ [])) scope → IsScopeNumber (nodes_of e) scope k
    → v.body ≡ k → v.outers.now ≡ outers → v.root ≡ e.count → around_of v.env.now ≡ around_at e k → IsShown v.visible (around_at e k) → IsSeen e v scope
seen-from e v k outers are n [] among within number body_is outers_are root_is env shown = absurd (within.0 refl)
seen-from e v k outers are n (l ∷ outer) among within number body_is outers_are root_is env shown =
    let first = within.1.0 in
    let own : IsBodyNumber (nodes_of e) first.body.node k = subst (λ s. IsScopeNumber (nodes_of e) s k) first.same number in
    let both = in-some e outers are n among first.body l.before k first.among own in
    let chain : IsChain e outers (map (λ l. l.node) (l ∷ outer)) k = subst (λ s. IsChain e outers (map (λ l. l.node) s) k) (sym first.same) both.0 in
    record {
      chain = subst (IsChain e v.outers.now (map (λ l. l.node) (l ∷ outer))) (sym body_is) (subst (λ os. IsChain e os (map (λ l. l.node) (l ∷ outer)) k) (sym outers_are) chain);
      visible = ap around first.same ∙ (both.1 ∙ sym env);
      shown = subst (IsShown v.visible) (sym (ap around first.same ∙ both.1)) shown;
      root_ = root_is;
    }

pub of-setting : (e : Elab) (n : Instance) (p : Prop) (path : code.Path) (item : Option Name) (scope : Scope) (place : Place) → ((wanted : Option (List ℕ)) (s : Source) → AllByRecursion (λ n. (p : Prop) → IsScoped (root s ∷ n.above ++ (body n ∷ [])) (setting n p)) (nodes wanted s))
    → In (nodes_of e) n → setting n p ≡ reference path item scope place → IsWithin (root e.source.now ∷ n.above ++ (body n ∷ [])) scope
of-setting e n p path item scope place law among is =
    let scoped = each-in (λ n. (p : Prop) → IsScoped (root e.source.now ∷ n.above ++ (body n ∷ [])) (setting n p)) (nodes_of e) n (law (Some (top_name e)) e.source.now) among p in
    subst (IsScoped (root e.source.now ∷ n.above ++ (body n ∷ []))) is scoped

-- What an environment shows.

pub env-of-row : (e : Elab) (rows : List Row) → AreRows e rows → (k : ℕ) (x : Row) → slice_get rows k ≡ Some x → around_of (out-Node x.node.now).env.now ≡ around_at e k
env-of-row e rows are k x at =
    let r = row-at e rows are k x at in
    r.2.says.env ∙ sym (ap (around_if e) (node-at e k r.0 r.1))

past-rows : (e : Elab) (rows : List Row) → AreRows e rows → (k : ℕ) → slice_get rows k ≡ None → slice_get (nodes_of e) k ≡ None
past-rows e rows are k at =
    let many = rows-many e rows are in
    let n = nodes-many e in
    let l = length-past rows k at in
    none-past (nodes_of e) k (omega (arith, many, n, l))
  where
    length-past : {X : Type 0} (xs : List X) (k : ℕ) → slice_get xs k ≡ None → length xs ≤ k
    length-past [] k q = omega arith
    length-past (x ∷ xs) zero q = cc q
    length-past (x ∷ xs) (suc k) q = let l = length-past xs k q in omega (arith, l)

    none-past : {X : Type 0} (xs : List X) (k : ℕ) → length xs ≤ k → slice_get xs k ≡ None
    none-past [] k l = refl
    none-past (x ∷ xs) zero l = absurd (omega (arith, l))
    none-past (x ∷ xs) (suc k) l = none-past xs k (omega (arith, l))

-- the top's text stands at the root
top-text : (s : Source) (n : Instance) → n.above ≡ [] → AreScopesIn (root s ∷ n.above) n.closure.scope → bodies_of n.closure.scope ≡ None ∷ [] → around n.closure.scope ≡ (root s).names ∷ []
top-text s n above within bodies = by n.closure.scope within bodies
  where
    by : (scope : Scope) → AreScopesIn (root s ∷ n.above) scope → bodies_of scope ≡ None ∷ [] → around scope ≡ (root s).names ∷ []
    by [] h q = cc q
    by (l ∷ []) h q =
        let is : root s ≡ h.0.body = only (subst (λ bs. IsAmong (root s ∷ bs) h.0.body) above h.0.among) in
        ap around h.0.same ∙ ap (λ b. around (scope_at b l.before)) (sym is)
      where
        only : {b c : Body} → IsAmong (b ∷ []) c → b ≡ c
        only (inl e) = e
        only (inr e) = absurd e
    by (l ∷ m ∷ ls) h q = cc q

top-says : (e : Elab) (r : Node) (ns : List Instance) {at after : ℕ} → AreTreesOf [] at (r ∷ []) ns after → (n : Instance) × In ns n × (around_of (out-Node r).env.now ≡ around_body n)
top-says e r ns (more {n = n} t rest) = (n, inl refl, of-tree n t)
  where
    of-tree : (n : Instance) {at after : ℕ} → IsTreeOf [] at r n after → around_of (out-Node r).env.now ≡ around_body n
    of-tree n (node q says ts) = says.env

pub env-of-root : (e : Elab) → IsClean e → ((wanted : Option (List ℕ)) (s : Source) → AllByRecursion (λ n. AreScopesIn (root s ∷ n.above) n.closure.scope) (nodes wanted s)) → ((wanted : Option (List ℕ)) (s : Source) → AllByRecursion (λ n. bodies_of n.closure.scope ≡ None ∷ []) (top_of wanted s))
    → (rows : List Row) → AreRows e rows → (k : ℕ) → slice_get rows k ≡ None → (o : Around) → ((names : Names) (rest : Around) → around_of (out-Node e.top.now).env.now ≡ names ∷ rest → o ≡ rest) → o ≡ around_at e k
env-of-root e clean scopes texts rows are k past o round =
    let w = Some (top_name e) in
    let s = e.source.now in
    let top = top-says e e.top.now (top_of w s) clean.elaborated.tree.top in
    let above = each-in (λ n. n.above ≡ []) (top_of w s) top.0 (tops-above w s) top.1 in
    let bodies = each-in (λ n. bodies_of n.closure.scope ≡ None ∷ []) (top_of w s) top.0 (texts w s) top.1 in
    let within = each-in (λ n. AreScopesIn (root s ∷ n.above) n.closure.scope) (nodes_of e) top.0 (scopes w s) (top-in w s top.0 top.1) in
    round (body top.0).names (around top.0.closure.scope) top.2 ∙ (top-text s top.0 above within bodies ∙ sym (ap (around_if e) (past-rows e rows are k past)))

-- round the top's body is that of the root
pub root-found : {X : Type 0} (e : Elab) → IsClean e → ((wanted : Option (List ℕ)) (s : Source) → AllByRecursion (λ n. AreScopesIn (root s ∷ n.above) n.closure.scope) (nodes wanted s)) → ((wanted : Option (List ℕ)) (s : Source) → AllByRecursion (λ n. bodies_of n.closure.scope ≡ None ∷ []) (top_of wanted s))
    → (o : Option X) → IfNone o ((names : Names) (rest : Around) → around_of (out-Node e.top.now).env.now ≡ names ∷ rest → rest ≡ []) → IsSome o
root-found e clean scopes texts (Some x) h = refl
root-found e clean scopes texts None h =
    let w = Some (top_name e) in
    let s = e.source.now in
    let top = top-says e e.top.now (top_of w s) clean.elaborated.tree.top in
    let above = each-in (λ n. n.above ≡ []) (top_of w s) top.0 (tops-above w s) top.1 in
    let bodies = each-in (λ n. bodies_of n.closure.scope ≡ None ∷ []) (top_of w s) top.0 (texts w s) top.1 in
    let within = each-in (λ n. AreScopesIn (root s ∷ n.above) n.closure.scope) (nodes_of e) top.0 (scopes w s) (top-in w s top.0 top.1) in
    let one = top-text s top.0 above within bodies in
    let none = h (body top.0).names (around top.0.closure.scope) top.2 in
    let q = sym none ∙ one in
    cc q
