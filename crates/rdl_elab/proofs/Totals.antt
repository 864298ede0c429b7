-- All failures of a source, in the order in which they are put in.
use Rattle.std.proofs.Common.{◌≡◌, ◌∙◌, ℕ, ◌+◌, Bool, List, [], ◌∷◌, ◌++◌, length, map, flat_map, is_none, Option, None, Some, option_to_list, refl, sym, ap, subst, arith, append_assoc, append-nil}
use Rattle.std.proofs.lemmas.List.{length-append}
use Rattle.rdl_base.specs.declared.fault.Fault.{Fault}
use Rattle.rdl_base.specs.declared.rule.Rule.TheVariants as rules
use Rattle.rdl_tree.specs.declared.item.Item.{Item}
use Rattle.rdl_tree.specs.declared.item.Kind.{Kind}
use Rattle.rdl_tree.specs.declared.item.Source.{Source}
use Rattle.rdl_values.specs.Bodies.{Path, below_top}
use Rattle.rdl_values.specs.Elaborated.{measured}
use Rattle.rdl_values.specs.Faults.{at_, when}
use Rattle.rdl_values.specs.Instances.{Instance, given_by, judged_nodes, kind_of, most_names, most_nodes, nodes, signals, top_of, with_below}
use Rattle.rdl_values.specs.Paths.{at_root, in_node}
use Rattle.rdl_values.specs.Phase3.{bare_assignments, failures3, no_top, of_node, of_use, too_many_nodes}
use Rattle.rdl_values.specs.Top.{root, top_seen, top_use_of}
use Rattle.rdl_values.specs.Uses.{Use, parent_of, seen}
use Rattle.rdl_failures.specs.Noted.{with_all}
use Rattle.rdl_failures.proofs.Sets.{with_all-append, with_all-swap}
use Rattle.rdl_uses.specs.Parts.{StandsAt}
use Rattle.rdl_uses.specs.Placed.{IsParent}
use Rattle.rdl_top.specs.Topped.{Means}
use Rattle.rdl_top.specs.declared.top.Top.{Top}
use Rattle.rdl_bodies.specs.Kept.{of_names}
use Rattle.rdl_bodies.specs.Opened.{IsRootOpen}
use Rattle.rdl_bodies.specs.declared.bodies.Bodies.{Bodies}
use Rattle.rdl_bodies.proofs.Growing.{grows_on}
use Rattle.rdl_children.specs.Children.{AreChildren}
use Rattle.rdl_children.specs.declared.child.Child.{Child}
use Rattle.rdl_walk.specs.Walked.{CanVisit, CanVisitAll, FitsNode, IsWalked, capped, fails_from}
use Rattle.rdl_walk.specs.Walking.{AreWalking, CanAsk, IsAsked, parent_at}
use Rattle.rdl_walk.specs.declared.walk.Walk.{Walk}
use Rattle.rdl_walk.proofs.Asking.{seen_stand}
use Rattle.rdl_walk.proofs.Counting.{capped_twice, fails_all, fails_append, fails_capped}
use Rattle.rdl_walk.proofs.Steps.{walked_as, walked_none}
use Rattle.rdl_elab.specs.Surveying.{IsBegun, IsRootWalked, IsSurvey}
use Rattle.rdl_elab.specs.Topped.{IsRootAt, IsTopNode}
use Rattle.rdl_elab.specs.declared.surveyed.Surveyed.{Surveyed}
use Rattle.rdl_elab.specs.declared.surveyed.TopSite.{TopSite}
use Rattle.rdl_elab.proofs.Staying.{root_stays, top_stays}

-- The text of the root.

pub no_top_is : (s : Source) (items : List Item) (r : Option Top) (o : Option Use) (missing : Bool) → Means s items r o → missing ≡ is_none r → when missing (at_ rules.E1 (record { 0 = 0 })) ≡ no_top o
no_top_is s items None o missing h e = ap (λ b. when b (at_ rules.E1 (record { 0 = 0 }))) e ∙ sym (ap no_top h)
no_top_is s items (Some t) o missing h e = ap (λ b. when b (at_ rules.E1 (record { 0 = 0 }))) e ∙ sym (ap no_top h)

pub put_first : (bare names top f0 f1 f2 f3 : List Fault) → f0 ≡ [] → f1 ≡ with_all bare f0 → f2 ≡ with_all names f1 → f3 ≡ with_all top f2 → f3 ≡ with_all (bare ++ (names ++ top)) []
put_first bare names top f0 f1 f2 f3 a b c d =
    d ∙ ap (with_all top) (c ∙ ap (with_all names) (b ∙ ap (with_all bare) a)) ∙ sym (with_all-append bare (names ++ top) [] ∙ with_all-append names top (with_all bare []))

pub root_at : (t : Bodies) (before after : List Fault) (s : Source) → IsRootOpen t before after (root s) → IsRootAt t s
root_at t before after s h = record { body = h.body; here = h.here; open_ = h.open_ }

-- Where uses stand at the root, and in the top.

pub at_root_stands : StandsAt (record { depth = 1; prefix = 0 }) at_root
at_root_stands = record { depth = refl; prefix = λ s. omega arith }

pub in_top_stands : (p : Path) (k : Kind) → p ≡ below_top [] → StandsAt (record { depth = 2; prefix = 0 }) (in_node p k)
in_top_stands p k e = subst (λ q. StandsAt (record { depth = 2; prefix = 0 }) (in_node q k)) (sym e) (record { depth = refl; prefix = λ s. omega arith })

pub can_ask_root : (t : Bodies) (s : Source) → IsRootAt t s → CanAsk t 0 (record { depth = 1; prefix = 0 })
can_ask_root t s h = record {
  body = h.body;
  here = h.here;
  shown = root s;
  open_ = h.open_;
  stands = subst (λ k. IsParent (parent_at k (record { depth = 1; prefix = 0 })) at_root) h.open_.kind_is (record { holder = tt; standing = at_root_stands });
}

pub root_parent : (t : Bodies) (s : Source) (h : IsRootAt t s) → IsParent (parent_at h.body.kind (record { depth = 1; prefix = 0 })) (parent_of (root s))
root_parent t s h = subst (λ k. IsParent (parent_at k (record { depth = 1; prefix = 0 })) at_root) h.open_.kind_is (record { holder = tt; standing = at_root_stands })

pub can_visit_signals : (t : Bodies) (s : Source) (xs : List Child) → AreChildren t xs (seen [] (root s)) → CanVisitAll t xs (record { depth = 1; prefix = 0 }) 0
can_visit_signals t s xs h = record {
  parent = at_root;
  uses = seen [] (root s);
  children = h;
  stand = seen_stand [] (root s);
  stands = at_root_stands;
  fits = refl;
}

pub can_visit_top : (t : Bodies) (x : TopSite) (n : Instance) → IsTopNode t x n → CanVisit t x.site x.name.place (record { depth = 2; prefix = 0 }) most_names
can_visit_top t x n h = record {
  site = h.site;
  here = h.here;
  node = n;
  at = h.at;
  stands = in_top_stands n.path (kind_of n) h.path_is;
  place_is = ap (λ m. m.place) h.name_is;
  fits = subst (λ p. FitsNode p most_names) (sym h.path_is) tt;
}

pub top_fits : (t : Bodies) (x : TopSite) (n : Instance) → IsTopNode t x n → FitsNode n.path most_names
top_fits t x n h = subst (λ p. FitsNode p most_names) (sym h.path_is) tt

-- The walk.

lone : (ns : List Instance) → flat_map (with_below 0) ns ≡ ns
lone [] = refl
lone (n ∷ ns) = ap (λ xs. n ∷ xs) (lone ns)

pub root_walked : (w v u : Walk) (s : Source) (xs : List Child) → IsAsked w v xs (seen [] (root s)) → IsWalked v u (flat_map (with_below 0) (flat_map given_by (seen [] (root s)))) → IsRootWalked w u s
root_walked w v u s xs a h =
    let g = walked_as v u _ _ (lone (signals s)) h in
    let uses = flat_map of_use (seen [] (root s)) in
    record {
      walking = g.walking;
      grown = grows_on w.bodies v.bodies u.bodies a.grown g.grown;
      noted =
          g.noted ∙ ap (λ n. with_all (fails_from n (signals s)) v.failures) a.count ∙ ap (with_all (fails_from w.count (signals s))) a.noted
          ∙ sym (with_all-append uses (fails_from w.count (signals s)) w.failures);
      counted = g.counted ∙ ap (λ n. capped (n + length (signals s))) a.count;
    }

pub top_walked_none : (w : Walk) (ns : List Instance) → AreWalking w → ns ≡ [] → IsWalked w w (flat_map (with_below most_names) ns)
top_walked_none w ns inv e = walked_as w w _ _ (sym (ap (flat_map (with_below most_names)) e)) (walked_none w inv)

pub top_walked_one : (w v : Walk) (ns : List Instance) (n : Instance) → ns ≡ n ∷ [] → IsWalked w v (with_below most_names n) → IsWalked w v (flat_map (with_below most_names) ns)
top_walked_one w v ns n e h = walked_as w v _ _ (sym (ap (flat_map (with_below most_names)) e ∙ append-nil (with_below most_names n))) h

-- All of it.

module _ (wanted : Option (List ℕ)) (s : Source) (a : Surveyed) (u v : Walk) (begun : IsBegun wanted s a) (at_the_root : IsRootWalked a.walk u s) (below : IsWalked u v (flat_map (with_below most_names) (top_of wanted s))) where
  abbrev bare : List Fault
  bare = no_top (top_use_of wanted s) ++ bare_assignments s

  abbrev of_top : List Fault
  of_top = flat_map of_use (map top_seen (option_to_list (top_use_of wanted s)))

  abbrev names : List Fault
  names = of_names (root s)

  abbrev uses : List Fault
  uses = flat_map of_use (seen [] (root s))

  abbrev those_below : List Instance
  those_below = flat_map (with_below most_names) (top_of wanted s)

  abbrev of_signals : List Fault
  of_signals = fails_from 0 (signals s)

  abbrev of_below : List Fault
  of_below = fails_from (length (signals s)) those_below

  behind-signals : u.count ≡ capped (length (signals s))
  behind-signals = let z : 0 + length (signals s) ≡ length (signals s) = omega arith in at_the_root.counted ∙ ap (λ n. capped (n + length (signals s))) begun.counted ∙ ap capped z

  first : a.walk.failures ≡ with_all names (with_all of_top (with_all bare []))
  first = begun.noted ∙ with_all-append bare (names ++ of_top) [] ∙ with_all-append names of_top (with_all bare []) ∙ with_all-swap names of_top (with_all bare [])

  second : u.failures ≡ with_all of_signals (with_all uses (with_all names (with_all of_top (with_all bare []))))
  second =
      at_the_root.noted ∙ ap (λ n. with_all (uses ++ fails_from n (signals s)) a.walk.failures) begun.counted ∙ with_all-append uses of_signals a.walk.failures ∙ ap (λ fs. with_all of_signals (with_all uses fs)) first

  third : v.failures ≡ with_all of_below (with_all of_signals (with_all uses (with_all names (with_all of_top (with_all bare [])))))
  third =
      below.noted ∙ ap (λ n. with_all (fails_from n those_below) u.failures) behind-signals ∙ ap (λ fs. with_all fs u.failures) (fails_capped (length (signals s)) those_below) ∙ ap (with_all of_below) second

  of_nodes : flat_map of_node (judged_nodes wanted s) ++ too_many_nodes wanted s ≡ of_signals ++ of_below
  unfolding nodes
  of_nodes =
      let z : 0 + most_nodes ≡ most_nodes = omega arith in
      let k : 0 + length (signals s) ≡ length (signals s) = omega arith in
      sym (fails_all most_nodes 0 (signals s ++ those_below) z) ∙ fails_append 0 (signals s) those_below ∙ ap (λ n. of_signals ++ fails_from n those_below) k

  all : with_all (failures3 wanted s) [] ≡ with_all of_below (with_all of_signals (with_all uses (with_all names (with_all of_top (with_all bare [])))))
  unfolding failures3
  all =
      let front = (bare ++ of_top) ++ (names ++ uses) in
      ap (λ fs. with_all fs []) (append_assoc front (flat_map of_node (judged_nodes wanted s)) (too_many_nodes wanted s) ∙ ap (λ fs. front ++ fs) of_nodes)
      ∙ with_all-append front (of_signals ++ of_below) [] ∙ with_all-append of_signals of_below (with_all front [])
      ∙ ap (λ fs. with_all of_below (with_all of_signals fs)) (with_all-append (bare ++ of_top) (names ++ uses) [] ∙ with_all-append names uses (with_all (bare ++ of_top) []) ∙ ap (λ fs. with_all uses (with_all names fs)) (with_all-append bare of_top []))

  counted : v.count ≡ measured wanted s
  unfolding nodes
  counted =
      below.counted ∙ ap (λ n. capped (n + length those_below)) behind-signals ∙ capped_twice (length (signals s)) (length those_below) ∙ ap capped (sym (length-append (signals s) those_below))

  pub surveyed : (z : Surveyed) → z.walk ≡ v → z.top ≡ a.top → IsSurvey wanted s z
  surveyed z same top = subst (λ x. IsSurvey wanted s (record { walk = x; top = z.top })) (sym same) (subst (λ y. IsSurvey wanted s (record { walk = v; top = y })) (sym top) (record {
    walking = below.walking;
    noted = third ∙ sym all;
    counted = counted;
    root_ = root_stays u.bodies v.bodies u.failures s at_the_root.walking.kept below.grown (root_stays a.walk.bodies u.bodies a.walk.failures s begun.walking.kept at_the_root.grown begun.root_);
    top = top_stays u.bodies v.bodies u.failures a.top (top_of wanted s) at_the_root.walking.kept below.grown (top_stays a.walk.bodies u.bodies a.walk.failures a.top (top_of wanted s) begun.walking.kept at_the_root.grown begun.top);
  }))
