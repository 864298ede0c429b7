-- The bodies round a text, by the nodes that they are of.
use Rattle.std.proofs.Common.{◌≡◌, ◌∙◌, ℕ, zero, suc, ◌-◌, ◌≤◌, List, [], ◌∷◌, ◌++◌, length, drop, take, slice_get, slice_index_or, Option, Some, refl, sym, ap, subst, arith, append_assoc, append-nil, inl, inr}
use Rattle.std.proofs.lemmas.List.{length-append}
use Rattle.rdl_tree.specs.declared.item.Def.{Def}
use Rattle.rdl_tree.specs.declared.item.Item.{Item}
use Rattle.rdl_tree.specs.declared.node.Elab.{Elab}
use Rattle.rdl_values.specs.Bodies.{Closure, Layer, Scope, scope_at}
use Rattle.rdl_values.specs.Elaborated.{nodes_of}
use Rattle.rdl_values.specs.Instances.{Instance, body}
use Rattle.rdl_values.specs.Scopes.{IsFront}
use Rattle.rdl_values.specs.Values.{Names}
use Rattle.rdl_scopes.specs.declared.components.Components.{Components}
use Rattle.rdl_scopes.specs.Scopes.{Shows, items_at}
use Rattle.rdl_bodies.specs.Sited.{component_at, def_at}
use Rattle.rdl_children.proofs.Reached.{Reached, here, above}
use Rattle.rdl_open_bodies.specs.Spots.{IsRound}
use Rattle.rdl_open_bodies.specs.Starts.{AreBodiesAt, IsCut, IsLayerAt, first_or_root}

-- What is reached is cut from the scope.
pub reached_cut : (scope : Scope) (c : Closure) → Reached scope c → IsCut scope c.scope
reached_cut _ c (here {l = l} {outer = outer} before is h) = inl (before, (h.item ∷ h.rest, sym h.split), is)
reached_cut _ c (above {l = l} {outer = outer} r) = inr (reached_cut outer c r)

pub cut_length : (scope inner : Scope) → IsCut scope inner → length inner ≤ length scope
cut_length [] inner h = absurd h
cut_length (l ∷ outer) inner (inl h) = let e = ap length h.2 in omega (arith, e)
cut_length (l ∷ outer) inner (inr h) = let rec = cut_length outer inner h in omega (arith, rec)

pub bodies_length : (e : Elab) (ks : List (Option ℕ)) (scope : Scope) → AreBodiesAt e ks scope → length ks ≡ length scope
bodies_length e [] [] h = refl
bodies_length e [] (l ∷ outer) h = absurd h
bodies_length e (k ∷ ks) [] h = absurd h
bodies_length e (k ∷ ks) (l ∷ outer) h = ap suc (bodies_length e ks outer h.1)

front_of_front : (a b c : List Item) → IsFront a b → IsFront b c → IsFront a c
front_of_front a b c f g = (f.0 ++ g.0, sym (append_assoc a f.0 g.0) ∙ ap (λ xs. xs ++ g.0) f.1 ∙ g.1)

skip-none : {X : Type 0} (m n : ℕ) (xs : List X) → n ≡ m → drop (m - n) xs ≡ xs
skip-none m n xs e = let z : m - n ≡ 0 = omega (arith, e) in ap (λ k. drop k xs) z

-- The nodes of the bodies of a scope that is cut from another are the last of those.
pub cut_bodies : (e : Elab) (ks : List (Option ℕ)) (scope inner : Scope) (d : ℕ) → AreBodiesAt e ks scope → IsCut scope inner → length inner ≡ d → AreBodiesAt e (drop (length ks - d) ks) inner
cut_bodies e ks [] inner d h cut size = absurd cut
cut_bodies e [] (l ∷ outer) inner d h cut size = absurd h
cut_bodies e (k ∷ ks) (l ∷ outer) inner d h (inl (before, front, is)) size =
    let same = bodies_length e ks outer h.1 in
    let long = ap length is in
    let own : IsLayerAt e k (record l { before = before }) outer = record {
      of = h.0.of;
      body_is = h.0.body_is;
      node_is = h.0.node_is;
      names_are = h.0.names_are;
      outer_is = h.0.outer_is;
      front = front_of_front before l.before h.0.of.items front h.0.front;
    } in
    subst (λ ls. AreBodiesAt e (drop (length (k ∷ ks) - d) (k ∷ ks)) ls) (sym is) (subst (λ js. AreBodiesAt e js (record l { before = before } ∷ outer)) (sym (skip-none (length (k ∷ ks)) d (k ∷ ks) (omega (arith, same, long, size)))) (own, h.1))
cut_bodies e (k ∷ ks) (l ∷ outer) inner d h (inr cut) size =
    let same = bodies_length e ks outer h.1 in
    let long = cut_length outer inner cut in
    let next : length (k ∷ ks) - d ≡ suc (length ks - d) = omega (arith, same, long, size) in
    subst (λ m. AreBodiesAt e (drop m (k ∷ ks)) inner) (sym next) (cut_bodies e ks outer inner d h.1 cut size)

-- Where the definition stands.

-- a layer of a body that is seen from items at its front
pub layer_scope : (e : Elab) (k : Option ℕ) (l : Layer) (outer : Scope) (h : IsLayerAt e k l outer) → l ∷ outer ≡ scope_at h.of l.before
layer_scope e k l outer h =
    ap (λ x. record { node = x; before = l.before; names = l.names } ∷ outer) h.node_is ∙ ap (λ x. record { node = h.of.node; before = l.before; names = x } ∷ outer) h.names_are ∙ ap (λ x. record { node = h.of.node; before = l.before; names = h.of.names } ∷ x) h.outer_is

take-front : (p : ℕ) (before rest all : List Item) → before ++ rest ≡ all → length before ≡ p → before ≡ take p all
take-front p before rest all e size = sym (ap (λ xs. take p xs) (sym e) ∙ ap (λ m. take m (before ++ rest)) (sym size) ∙ own before rest)
  where
    own : (xs ys : List Item) → take (length xs) (xs ++ ys) ≡ xs
    own [] [] = refl
    own [] (y ∷ ys) = refl
    own (x ∷ xs) ys = ap (λ zs. x ∷ zs) (own xs ys)

taken-length : (p : ℕ) (items : List Item) (d : Def) → component_at items p ≡ Some d → length (take p items) ≡ p
taken-length p [] d e = cc
taken-length zero (i ∷ items) d e = refl
taken-length (suc p) (i ∷ items) d e = ap suc (taken-length p items d e)

shorter : (before rest all : List Item) → before ++ rest ≡ all → length before ≤ length all
shorter before rest all e = let s = length-append before rest in let l = ap length e in omega (arith, s, l)

pub round_at : (e : Elab) (ts : List Names) (cs : List Components) (ks : List (Option ℕ)) (outer uptos : List ℕ) (scope : Scope) (d : Def) → AreBodiesAt e ks scope → Shows ts cs outer uptos scope → def_at cs outer uptos ≡ Some d → IsRound e (first_or_root ks) (slice_index_or uptos 0 0) scope
round_at e ts cs ks [] uptos scope d h shown is = cc
round_at e ts cs ks (q ∷ qs) [] scope d h shown is = cc
round_at e ts cs ks (q ∷ qs) (p ∷ ps) [] d h shown is = absurd shown
round_at e ts cs [] (q ∷ qs) (p ∷ ps) (l ∷ outer) d h shown is = absurd h
round_at e ts cs (k ∷ ks) (q ∷ qs) (p ∷ ps) (l ∷ outer) d h shown is =
    let size : length l.before ≡ p = ap length shown.0 ∙ taken-length p (items_at cs q) d is in
    let long = shorter l.before h.0.front.0 h.0.of.items h.0.front.1 in
    record {
      of = h.0.of;
      body_is = h.0.body_is;
      within = omega (arith, size, long);
      scope_is = layer_scope e k l outer h.0 ∙ ap (scope_at h.0.of) (take-front p l.before h.0.front.0 h.0.of.items h.0.front.1 size);
    }

-- A node's own body before those round it.
pub own_bodies : (e : Elab) (k : ℕ) (n : Instance) (ks : List (Option ℕ)) → slice_get (nodes_of e) k ≡ Some n → AreBodiesAt e ks n.closure.scope → AreBodiesAt e (Some k ∷ ks) (scope_at (body n) (body n).items)
own_bodies e k n ks at h = (record { of = body n; body_is = (n, at, refl); node_is = refl; names_are = refl; outer_is = refl; front = ([], append-nil (body n).items) }, h)
