-- The starts of the elements of uses.
use Rattle.std.proofs.Common.{◌≡◌, ◌∙◌, ℕ, zero, suc, ◌+◌, ◌<◌, ◌≤◌, List, [], ◌∷◌, ◌++◌, length, get_or, drop, flat_map, map, min, None, MatchOption, refl, sym, ap, subst, arith, append_assoc, append-nil}
use Rattle.std.proofs.Math.Nat.{min-eq_left}
use Rattle.std.proofs.lemmas.Bool.{ltb-false}
use Rattle.std.proofs.lemmas.List.{at_drop_all, at_drop_more, length-append, length-map, map-append}
use Rattle.plain_lemmas.proofs.Lists.{cons-head as same-head, cons-tail as same-tail, nil-cons as not-empty}
use Rattle.rdl_tree.specs.declared.item.Kind.TheVariants as kind
use Rattle.rdl_tree.specs.declared.node.Elab.{Elab}
use Rattle.rdl_values.specs.Bodies.{Scope}
use Rattle.rdl_values.specs.Instances.{Instance, given_by, most_names, rows, upto}
use Rattle.rdl_values.specs.Given.{IsGivenBy}
use Rattle.rdl_values.specs.Paths.{Parent, depth_in, joined}
use Rattle.rdl_values.proofs.Given.{shallow}
use Rattle.rdl_values.specs.Rows.{product, row}
use Rattle.rdl_values.specs.Uses.{Seen, form_of}
use Rattle.rdl_uses.specs.Parts.{StandsAt}
use Rattle.rdl_uses.specs.declared.standing.Standing.{Standing}
use Rattle.rdl_bodies.specs.declared.bodies.Bodies.{Bodies}
use Rattle.rdl_children.specs.Children.{AreChildren, IsChild, none, without, with_}
use Rattle.rdl_children.specs.declared.child.Child.{Child}
use Rattle.rdl_walk.specs.Walked.{Fits, element_of}
use Rattle.rdl_walk.proofs.Elements.{given_elements}
use Rattle.rdl_walk.proofs.Loops.{is_element}
use Rattle.rdl_open_bodies.specs.Spots.{HasParts, Sees}
use Rattle.rdl_open_bodies.specs.Starts.{AddsStarts, AreStarts, AreUsesIn, IsRoundOf, IsStart, IsUseIn}
use Rattle.rdl_open_bodies.specs.declared.spots.Round.{Round}
use Rattle.rdl_open_bodies.specs.declared.spots.Start.{Start}
use Rattle.rdl_open_bodies.proofs.Staying.{starts_append}

-- An element.

abbrev pub element : (t : Bodies) (x : Child) (s : Seen) → IsChild t x s → ℕ → Instance
element t x s h k = element_of s h.closure h.bound (row x.dims.now k)

has_parts : (t : Bodies) (x : Child) (s : Seen) (h : IsChild t x s) (number : ℕ) (p : Parent) (scope : Scope) → IsUseIn p scope s → HasParts (element t x s h number)
has_parts t x s h number p scope u = subst (λ o. MatchOption o ((h.closure.def.kind ≡ kind.Addrmap) × (s.use_.dims ≡ []) × (s.use_.form.range ≡ None) × (s.use_.form.reset ≡ None)) (λ i. (s.use_.dims ≡ i.dims.now) × (s.use_.form ≡ form_of i))) (sym u.inst_is) (u.dims_are, u.form_is)

given_element : (t : Bodies) (x : Child) (s : Seen) (h : IsChild t x s) (number : ℕ) → IsGivenBy s (element t x s h number)
given_element t x s h number = record { clean = h.clean; use_is = refl; closure_is = h.closure_is; bound_is = h.bound_is; above_is = refl; index = row x.dims.now number; path_is = refl }

shallow_start : (t : Bodies) (x : Child) (s : Seen) (h : IsChild t x s) (round : Round) (below : Standing) (number : ℕ) → StandsAt round.standing s.parent → below.depth ≡ round.standing.depth + 1 → below.depth ≤ 33
shallow_start t x s h round below number stands d =
    let few = ltb-false most_names (depth_in s.parent) (shallow s (element t x s h number) (given_element t x s h number)) in
    let at = stands.depth in
    omega (arith, few, at, d)

pub start_of : (e : Elab) (t : Bodies) (x : Child) (round : Round) (p : Parent) (levels number : ℕ) (scope : Scope) (s : Seen) (h : IsChild t x s) (below : Standing) (r : List ℕ) → IsUseIn p scope s → IsRoundOf e t round p levels scope → r ≡ row x.dims.now number
    → below.depth ≡ round.standing.depth + 1 → below.prefix ≡ round.standing.prefix + length (joined (record { name = x.inst.now.name.text.now; index = r } ∷ [])) + 1
    → IsStart e t (record { site = x.site; within = round.within; standing = below; chain = round.chain }) levels (element t x s h number)
start_of e t x round p levels number scope s h below r use_in of is d q =
    let i = is_element t x s h round.standing below levels number r is (subst (StandsAt round.standing) (sym use_in.parent) of.stands) (subst (λ o. Fits o levels) (sym use_in.parent) of.fits) d q in
    record {
      of = h.site;
      here = h.site_is;
      at = h.at;
      stands = i.stands;
      fits = i.fits;
      use_ = subst (Sees t round.within) (sym use_in.sees) of.sees;
      parts = has_parts t x s h number p scope use_in;
      deep = shallow_start t x s h round below number (subst (StandsAt round.standing) (sym use_in.parent) of.stands) d;
      scope = scope;
      bodies = of.bodies;
      cut = use_in.cut h.closure h.closure_is;
    }

-- Elements one after the other.

pub elements_none : (e : Elab) (t : Bodies) (x : Child) (levels : ℕ) (s : Seen) (h : IsChild t x s) (old : List Start) → AddsStarts e t levels (map (element t x s h) (upto 0)) old old
elements_none e t x levels s h old = ([], sym (append-nil old), tt)

pub adds_on : (e : Elab) (t : Bodies) (levels : ℕ) (ns ms : List Instance) (old now new : List Start) → AddsStarts e t levels ns old now → AddsStarts e t levels ms now new → AddsStarts e t levels (ns ++ ms) old new
adds_on e t levels ns ms old now new a b = (a.0 ++ b.0, b.1 ∙ ap (λ xs. xs ++ b.0) a.1 ∙ append_assoc old a.0 b.0, starts_append e t a.0 b.0 levels ns ms a.2 b.2)

pub elements_more : (e : Elab) (t : Bodies) (x : Child) (levels k : ℕ) (s : Seen) (h : IsChild t x s) (old now new : List Start) → AddsStarts e t levels (map (element t x s h) (upto k)) old now → AddsStarts e t levels (element t x s h k ∷ []) now new
    → AddsStarts e t levels (map (element t x s h) (upto (k + 1))) old new
elements_more e t x levels k s h old now new a b =
    let next : k + 1 ≡ suc k = omega arith in
    let all : map (element t x s h) (upto (k + 1)) ≡ map (element t x s h) (upto k) ++ (element t x s h k ∷ []) = ap (λ m. map (element t x s h) (upto m)) next ∙ map-append (element t x s h) (upto k) (k ∷ []) in
    subst (λ ns. AddsStarts e t levels ns old new) (sym all) (adds_on e t levels _ _ old now new a b)

upto-length : (n : ℕ) → length (upto n) ≡ n
upto-length zero = refl
upto-length (suc n) = let rec = upto-length n in let s = length-append (upto n) (n ∷ []) in omega (arith, rec, s)

pub elements_all : (e : Elab) (t : Bodies) (x : Child) (levels k most : ℕ) (s : Seen) (h : IsChild t x s) (old new : List Start) → rows x.dims.now ≡ map (row x.dims.now) (upto (product x.dims.now)) → k ≡ min (product x.dims.now) most → length (given_by s) ≤ most
    → AddsStarts e t levels (map (element t x s h) (upto k)) old new → AddsStarts e t levels (given_by s) old new
elements_all e t x levels k most s h old new by_number is few a =
    let all = given_elements s h.closure h.bound x.dims.now h.clean h.closure_is h.bound_is h.dims_are by_number in
    let size : length (given_by s) ≡ product x.dims.now = ap length all ∙ length-map (upto (product x.dims.now)) (element t x s h) ∙ upto-length (product x.dims.now) in
    let last : k ≡ product x.dims.now = is ∙ min-eq_left (omega (arith, size, few)) in
    subst (λ ns. AddsStarts e t levels ns old new) (sym all) (subst (λ n. AddsStarts e t levels (map (element t x s h) (upto n)) old new) last a)

-- Uses one after the other.

-- The next of some uses that gives nodes, and those left behind it.
pub record IsNext (t : Bodies) (p : Parent) (scope : Scope) (x : Child) (xs : List Child) (ss : List Seen) : Type 0 where
  pub use_ : Seen
  pub child : IsChild t x use_
  pub use_in : IsUseIn p scope use_
  pub rest : List Seen
  pub nodes : flat_map given_by ss ≡ given_by use_ ++ flat_map given_by rest
  pub children : AreChildren t xs rest
  pub uses_in : AreUsesIn p scope rest

next-of : (t : Bodies) (p : Parent) (scope : Scope) (ys : List Child) (ss : List Seen) (x : Child) (xs : List Child) → AreChildren t ys ss → ys ≡ x ∷ xs → AreUsesIn p scope ss → IsNext t p scope x xs ss
next-of t p scope _ _ x xs none e u = absurd (not-empty x xs e)
next-of t p scope _ _ x xs (without {xs = ys} {s = s} {ss = ss} n h) e u =
    let rec = next-of t p scope ys ss x xs h e u.1 in
    record {
      use_ = rec.use_;
      child = rec.child;
      use_in = rec.use_in;
      rest = rec.rest;
      nodes = ap (λ ns. ns ++ flat_map given_by ss) n ∙ rec.nodes;
      children = rec.children;
      uses_in = rec.uses_in;
    }
next-of t p scope _ _ x xs (with_ {x = y} {xs = ys} {s = s} {ss = ss} c h) e u = record {
  use_ = s;
  child = subst (λ z. IsChild t z s) (same-head y x ys xs e) c;
  use_in = u.0;
  rest = ss;
  nodes = refl;
  children = subst (λ zs. AreChildren t zs ss) (same-tail y x ys xs e) h;
  uses_in = u.1;
}

none-left : (t : Bodies) (ys : List Child) (ss : List Seen) → AreChildren t ys ss → ys ≡ [] → flat_map given_by ss ≡ []
none-left t _ _ none e = refl
none-left t _ _ (without {xs = ys} {s = s} {ss = ss} n h) e = ap (λ ns. ns ++ flat_map given_by ss) n ∙ none-left t ys ss h e
none-left t _ _ (with_ {x = y} {xs = ys} c h) e = absurd (not-empty y ys (sym e))

-- Of the nodes of some uses these have their starts, and these uses are left.
pub record AreLeft (e : Elab) (t : Bodies) (p : Parent) (levels : ℕ) (scope : Scope) (xs : List Child) (ss : List Seen) (starts : List Start) : Type 0 where
  pub done : List Instance
  pub rest : List Seen
  pub nodes : flat_map given_by ss ≡ done ++ flat_map given_by rest
  pub children : AreChildren t xs rest
  pub uses_in : AreUsesIn p scope rest
  pub started : AreStarts e t starts levels done

-- What the loop over the uses keeps.
abbrev pub StartsBehind : Round → ℕ → List Child → ℕ → List Start → Type 0
StartsBehind round most xs k starts = (e : Elab) (t : Bodies) (p : Parent) (levels : ℕ) (scope : Scope) (ss : List Seen) → AreChildren t xs ss → AreUsesIn p scope ss → IsRoundOf e t round p levels scope → length (flat_map given_by ss) ≤ most → AreLeft e t p levels scope (drop k xs) ss starts

pub starts_none : (round : Round) (most : ℕ) (xs : List Child) (starts : List Start) → starts ≡ [] → StartsBehind round most xs 0 starts
starts_none round most xs starts is = λ e t p levels scope ss h u r few. record { done = []; rest = ss; nodes = refl; children = h; uses_in = u; started = subst (λ zs. AreStarts e t zs levels []) (sym is) tt }

pub starts_more : (round : Round) (most : ℕ) (xs : List Child) (k : ℕ) (d : Child) (now new : List Start) → k < length xs → StartsBehind round most xs k now
    → ((e : Elab) (t : Bodies) (p : Parent) (levels : ℕ) (scope : Scope) (s : Seen) → IsChild t (get_or xs k d) s → IsUseIn p scope s → IsRoundOf e t round p levels scope → length (given_by s) ≤ most → AddsStarts e t levels (given_by s) now new) → StartsBehind round most xs (k + 1) new
starts_more round most xs k d now new l so_far adds = λ e t p levels scope ss h u r few.
    let a = so_far e t p levels scope ss h u r few in
    let x = get_or xs k d in
    let here : drop k xs ≡ x ∷ drop (k + 1) xs = at_drop_more (λ zs. zs) xs k d l in
    let n = next-of t p scope (drop k xs) a.rest x (drop (k + 1) xs) a.children here a.uses_in in
    let whole : flat_map given_by ss ≡ a.done ++ (given_by n.use_ ++ flat_map given_by n.rest) = a.nodes ∙ ap (λ ns. a.done ++ ns) n.nodes in
    let size = ap length whole ∙ length-append a.done (given_by n.use_ ++ flat_map given_by n.rest) in
    let part = length-append (given_by n.use_) (flat_map given_by n.rest) in
    let more = adds e t p levels scope n.use_ n.child n.use_in r (omega (arith, size, part, few)) in
    record {
      done = a.done ++ given_by n.use_;
      rest = n.rest;
      nodes = whole ∙ sym (append_assoc a.done (given_by n.use_) (flat_map given_by n.rest));
      children = n.children;
      uses_in = n.uses_in;
      started = subst (λ zs. AreStarts e t zs levels (a.done ++ given_by n.use_)) (sym more.1) (starts_append e t now more.0 levels a.done (given_by n.use_) a.started more.2);
    }

pub starts_all : (round : Round) (most : ℕ) (xs : List Child) (k : ℕ) (starts : List Start) → length xs ≤ k → StartsBehind round most xs k starts
    → (e : Elab) (t : Bodies) (p : Parent) (levels : ℕ) (scope : Scope) (ss : List Seen) → AreChildren t xs ss → AreUsesIn p scope ss → IsRoundOf e t round p levels scope → length (flat_map given_by ss) ≤ most → AreStarts e t starts levels (flat_map given_by ss)
starts_all round most xs k starts l h e t p levels scope ss c u r few =
    let a = h e t p levels scope ss c u r few in
    let none = none-left t (drop k xs) a.rest a.children (at_drop_all (λ zs. zs) xs k l) in
    let all : flat_map given_by ss ≡ a.done = a.nodes ∙ ap (λ ns. a.done ++ ns) none ∙ append-nil a.done in
    subst (AreStarts e t starts levels) (sym all) a.started
