-- Bodies that are put behind others change nothing of those before.
use Rattle.std.proofs.Common.{◌≡◌, ◌∙◌, ℕ, zero, suc, ◌<◌, ◌≤◌, List, [], ◌∷◌, ◌++◌, length, take, slice_get, Some, option_to_list, refl, sym, ap, subst, arith, append_assoc, append-nil, ◌⊎◌, inl, inr}
use Rattle.std.specs.List.{AllByRecursion}
use Rattle.std.proofs.lemmas.List.{length-append}
use Rattle.std.proofs.lemmas.Option.{slice_get_within}
use Rattle.rdl_values.specs.Bodies as values
use Rattle.rdl_values.specs.Bodies.{Closure, Scope, around, scope_at}
use Rattle.rdl_values.specs.Chained.{chained}
use Rattle.rdl_values.specs.Parameters.{Bound}
use Rattle.rdl_values.specs.Values.{Around}
use Rattle.rdl_failures.specs.Shown.{IsAlike}
use Rattle.rdl_scopes.specs.Scopes.{Shows, items_in}
use Rattle.rdl_bodies.specs.Kept.{AreBelow, Begins, Grows}
use Rattle.rdl_bodies.specs.Sited.{AreRound, HaveNames, IsAt, IsOpenAs, component_at, def_at}
use Rattle.rdl_bodies.specs.declared.bodies.Bodies.{Bodies}
use Rattle.rdl_bodies.specs.declared.bodies.Body.{Body}
use Rattle.rdl_bodies.specs.declared.bodies.Site.{Site}

-- Lists.

pub get_front : {X : Type 0} (xs more : List X) (k : ℕ) → k < length xs → slice_get (xs ++ more) k ≡ slice_get xs k
get_front [] more k l = absurd (omega (arith, l))
get_front (x ∷ xs) more zero l = refl
get_front (x ∷ xs) more (suc k) l = get_front xs more k (omega (arith, l))

-- an element of a longer list is one of those before, or the last one
pub get_either : {X : Type 0} (xs : List X) (y x : X) (k : ℕ) → slice_get (xs ++ (y ∷ [])) k ≡ Some x → (slice_get xs k ≡ Some x) ⊎ ((k ≡ length xs) × (y ≡ x))
get_either [] y x zero e = let same : y ≡ x = cc in inr (refl, same)
get_either [] y x (suc k) e = cc
get_either (z ∷ xs) y x zero e = inl e
get_either (z ∷ xs) y x (suc k) e = go (get_either xs y x k e)
  where
    go : (slice_get xs k ≡ Some x) ⊎ ((k ≡ length xs) × (y ≡ x)) → (slice_get xs k ≡ Some x) ⊎ ((suc k ≡ suc (length xs)) × (y ≡ x))
    go (inl h) = inl h
    go (inr h) = inr (ap suc h.0, h.1)

pub begins_same : {X : Type 0} (xs ys : List X) → ys ≡ xs → Begins xs ys
begins_same xs ys e = ([], e ∙ sym (append-nil xs))

pub begins_on : {X : Type 0} (xs ys zs : List X) → Begins xs ys → Begins ys zs → Begins xs zs
begins_on xs ys zs g h = (g.0 ++ h.0, h.1 ∙ ap (λ ws. ws ++ h.0) g.1 ∙ append_assoc xs g.0 h.0)

pub begins_get : {X : Type 0} (xs ys : List X) (k : ℕ) (x : X) → Begins xs ys → slice_get xs k ≡ Some x → slice_get ys k ≡ Some x
begins_get xs ys k x g e = ap (λ zs. slice_get zs k) g.1 ∙ get_front xs g.0 k (slice_get_within xs k x e) ∙ e

pub begins_length : {X : Type 0} (xs ys : List X) → Begins xs ys → length xs ≤ length ys
begins_length xs ys g = let e = ap length g.1 ∙ length-append xs g.0 in omega (arith, e)

pub grows_on : (a b c : Bodies) → Grows a b → Grows b c → Grows a c
grows_on a b c g h = record {
  tables = begins_on a.tables.items b.tables.items c.tables.items g.tables h.tables;
  components = begins_on a.components.items b.components.items c.components.items g.components h.components;
  list = begins_on a.list.items b.list.items c.list.items g.list h.list;
  sites = begins_on a.sites.items b.sites.items c.sites.items g.sites h.sites;
}

pub grows_same : (a b : Bodies) → b.tables.items ≡ a.tables.items → b.components.items ≡ a.components.items → b.list.items ≡ a.list.items → Begins a.sites.items b.sites.items → Grows a b
grows_same a b t c l s = record {
  tables = begins_same a.tables.items b.tables.items t;
  components = begins_same a.components.items b.components.items c;
  list = begins_same a.list.items b.list.items l;
  sites = s;
}

pub below_more : (m n : ℕ) (ks : List ℕ) → m ≤ n → AreBelow m ks → AreBelow n ks
below_more m n [] l h = tt
below_more m n (k ∷ ks) l h = (omega (arith, l, h.0), below_more m n ks l h.1)

-- The same body has a number in both.
pub record SameAt (t u : Bodies) (k : ℕ) : Type 0 where
  pub table : slice_get t.tables.items k ≡ slice_get u.tables.items k
  pub component : slice_get t.components.items k ≡ slice_get u.components.items k
  pub body : slice_get t.list.items k ≡ slice_get u.list.items k

abbrev pub AllSame : Bodies → Bodies → List ℕ → Type 0
AllSame t u ks = AllByRecursion (SameAt t u) ks

pub turned : (t u : Bodies) (ks : List ℕ) → AllSame t u ks → AllSame u t ks
turned t u [] h = tt
turned t u (k ∷ ks) h = (record { table = sym h.0.table; component = sym h.0.component; body = sym h.0.body }, turned t u ks h.1)

pub same_below : (t u : Bodies) (ks : List ℕ) → length t.components.items ≡ length t.tables.items → length t.list.items ≡ length t.tables.items → Grows t u → AreBelow (length t.tables.items) ks → AllSame t u ks
same_below t u [] c b g h = tt
same_below t u (k ∷ ks) c b g h =
    let low : k < length t.tables.items = h.0 in (
      record {
        table = sym (ap (λ zs. slice_get zs k) g.tables.1 ∙ get_front t.tables.items g.tables.0 k low);
        component = sym (ap (λ zs. slice_get zs k) g.components.1 ∙ get_front t.components.items g.components.0 k (omega (arith, low, c)));
        body = sym (ap (λ zs. slice_get zs k) g.list.1 ∙ get_front t.list.items g.list.0 k (omega (arith, low, b)));
      },
      same_below t u ks c b g h.1,
    )

pub chained_same : (t u : Bodies) (ks : List ℕ) → AllSame t u ks → chained t.tables.items ks ≡ chained u.tables.items ks
chained_same t u [] h = refl
chained_same t u (k ∷ ks) h = ap (λ o. option_to_list o ++ chained t.tables.items ks) h.0.table ∙ ap (λ ws. option_to_list (slice_get u.tables.items k) ++ ws) (chained_same t u ks h.1)

pub shows_same : (t u : Bodies) (ks ps : List ℕ) (ls : Scope) → AllSame t u ks → Shows t.tables.items t.components.items ks ps ls → Shows u.tables.items u.components.items ks ps ls
shows_same t u [] [] [] s h = tt
shows_same t u [] [] (l ∷ ls) s h = absurd h
shows_same t u [] (p ∷ ps) ls s h = absurd h
shows_same t u (k ∷ ks) [] ls s h = absurd h
shows_same t u (k ∷ ks) (p ∷ ps) [] s h = absurd h
shows_same t u (k ∷ ks) (p ∷ ps) (l ∷ ls) s h =
    (h.0 ∙ ap (λ o. take p (items_in o)) s.0.component, subst (λ ws. IsAlike ws (around (l ∷ ls))) (chained_same t u (k ∷ ks) s) h.1, shows_same t u ks ps ls s.1 h.2)

pub names_same : (t u : Bodies) (ks : List ℕ) (ws : Around) → AllSame t u ks → HaveNames t.list.items ks ws → HaveNames u.list.items ks ws
names_same t u [] [] s h = tt
names_same t u [] (a ∷ ws) s h = absurd h
names_same t u (k ∷ ks) [] s h = absurd h
names_same t u (k ∷ ks) (a ∷ ws) s h =
    (record { body = h.0.body; here = sym s.0.body ∙ h.0.here; numbers_are = h.0.numbers_are; behind = h.0.behind; names_are = h.0.names_are }, names_same t u ks ws s.1 h.1)

pub round_same : (t u : Bodies) (ks ps : List ℕ) (ls : Scope) → AllSame t u ks → AreRound t ks ps ls → AreRound u ks ps ls
round_same t u ks ps ls s h = record { shown = shows_same t u ks ps ls s h.shown; names = names_same t u ks (around ls) s h.names }

pub at_same : (t u : Bodies) (x : Site) (c : Closure) (b : Bound) → AllSame t u x.outer.now → IsAt t x c b → IsAt u x c b
at_same t u x c b s h = record { def = h.def; round = round_same t u x.outer.now x.uptos.now c.scope s h.round; bound_is = h.bound_is }

pub open_same : (t u : Bodies) (x : Body) (b : values.Body) → AllSame t u x.numbers.now → IsOpenAs t x b → IsOpenAs u x b
open_same t u x b s h = record {
  items_are = h.items_are;
  kind_is = h.kind_is;
  shown = λ i. shows_same t u x.numbers.now (i ∷ x.uptos.now) (scope_at b (take i x.items.now)) s (h.shown i);
  names = names_same t u x.numbers.now (b.names ∷ around b.outer) s h.names;
}

pub def_same : (t u : Bodies) (ks ps : List ℕ) → AllSame t u ks → def_at t.components.items ks ps ≡ def_at u.components.items ks ps
def_same t u [] ps s = refl
def_same t u (k ∷ ks) [] s = refl
def_same t u (k ∷ ks) (p ∷ ps) s = ap (λ o. component_at (items_in o) p) s.0.component
