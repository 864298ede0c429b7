-- Enumerations one by one.
use Rattle.std.proofs.Common.{◌≡◌, ◌∙◌, ℕ, ◌+◌, ◌<◌, List, [], ◌∷◌, ◌++◌, length, get_or, take, flat_map, append-nil, refl, sym, ap, subst}
use Rattle.std.proofs.lemmas.Grind.{flat_map-append}
use Rattle.std.proofs.lemmas.List.{take_more}
use Rattle.rdl_base.specs.declared.fault.Fault.{Fault}
use Rattle.rdl_tree.specs.declared.item.Entry.{Entry}
use Rattle.rdl_tree.specs.declared.item.Item.{Item}
use Rattle.rdl_values.specs.Bodies.{Body, around, standing}
use Rattle.rdl_values.specs.Enums.{names_of, with_item, with_items}
use Rattle.rdl_values.specs.Values.{Around, Names, Val}
use Rattle.rdl_values.specs.Views as view
use Rattle.rdl_values.specs.Views.{ItemIs, item_is}
use Rattle.rdl_failures.specs.Noted.{with_all}
use Rattle.rdl_failures.specs.Shown.{IsAlike}
use Rattle.rdl_failures.proofs.Noting.{standing-push}
use Rattle.rdl_failures.proofs.Sets.{with_all-append}
use Rattle.rdl_layers.specs.Phase4.{of_enums, scope_of_enum}
use Rattle.rdl_scopes.specs.Opened.{State, bodies}
use Rattle.rdl_scopes.specs.declared.enums.Outer.{Outer}
use Rattle.rdl_scopes.proofs.ByItem.{IsOpenedTo}
use Rattle.rdl_scopes.proofs.Meant.{alike_bodies}
use Rattle.rdl_assignments.specs.Enums.{fails_in}

-- Entries.

pub entries-step : (f : Entry → List Fault) (es : List Entry) (i : ℕ) (d : Entry) (s t u : List Fault) → i < length es → t ≡ with_all (flat_map f (take i es)) s → u ≡ with_all (f (get_or es i d)) t → u ≡ with_all (flat_map f (take (i + 1) es)) s
entries-step f es i d s t u l h g =
    g ∙ ap (with_all (f (get_or es i d))) h ∙ sym (with_all-append (flat_map f (take i es)) (f (get_or es i d)) s)
    ∙ ap (λ fs. with_all fs s) (ap (λ ys. flat_map f (take i es) ++ ys) (sym (append-nil (f (get_or es i d)))) ∙ sym (flat_map-append f (take i es) (get_or es i d ∷ [])) ∙ ap (flat_map f) (sym (take_more es i d l)))

-- Items.

-- what fails at an item of a body
abbrev pub fails_at : Body → List Item × Item → List Fault
fails_at b i = fails_in (scope_of_enum b i.0) (item_is i.1)

pub as-listed : (b : Body) → of_enums b ≡ flat_map (fails_at b) (standing b.items)
as-listed b = refl

pub items-step : (b : Body) (xs : List Item) (i : ℕ) (x : Item) (s t u : List Fault) → i < length xs → x ≡ get_or xs i x → t ≡ with_all (flat_map (fails_at b) (standing (take i xs))) s → u ≡ with_all (fails_at b (take i xs, x)) t
    → u ≡ with_all (flat_map (fails_at b) (standing (take (i + 1) xs))) s
items-step b xs i x s t u l at h g =
    g ∙ ap (with_all (fails_at b (take i xs, x))) h ∙ sym (with_all-append (flat_map (fails_at b) (standing (take i xs))) (fails_at b (take i xs, x)) s)
    ∙ ap (λ fs. with_all fs s) (ap (λ z. flat_map (fails_at b) (standing (take i xs)) ++ fails_at b (take i xs, z)) at ∙ more)
  where
    more : flat_map (fails_at b) (standing (take i xs)) ++ fails_at b (take i xs, get_or xs i x) ≡ flat_map (fails_at b) (standing (take (i + 1) xs))
    more = sym (ap (λ ys. flat_map (fails_at b) (standing ys)) (take_more xs i x l) ∙ ap (flat_map (fails_at b)) (standing-push (take i xs) (get_or xs i x)) ∙ flat_map-append (fails_at b) (standing (take i xs)) ((take i xs, get_or xs i x) ∷ []) ∙ ap (λ ys. flat_map (fails_at b) (standing (take i xs)) ++ ys) (append-nil (fails_at b (take i xs, get_or xs i x))))

-- The names so far are those before an item.

bound-kept : (outer : Around) (names : Names) (is : List Item) → (with_items outer names is).bound ≡ names.bound
bound-kept outer names [] = refl
bound-kept outer names (i ∷ is) = bound-kept outer (with_item outer names (item_is i)) is ∙ one (item_is i)
  where
    one : (v : ItemIs) → (with_item outer names v).bound ≡ names.bound
    one (view.enumeration n es) = refl
    one (view.definition d) = refl
    one (view.made a of is) = refl
    one (view.default_ s) = refl
    one (view.local s) = refl
    one (view.dynamic p s) = refl

pub shown-before : (b : Body) (bound : List (List ℕ × Val)) (front : List Item) (o : Outer) (s : State) → b.names.bound ≡ bound → IsOpenedTo bound front o s → IsAlike (bodies o) (around b.outer) → IsAlike (s.table ∷ bodies o) (around (scope_of_enum b front))
shown-before b bound front o s e h a =
    subst (λ bs. IsAlike (s.table ∷ bodies o) (names_of (around b.outer) bs front ∷ around b.outer)) (sym e)
    (alike_bodies s.table (names_of (around b.outer) bound front) (bodies o) (around b.outer) (h.same ∙ sym (bound-kept (around b.outer) (record { bound = bound; enums = [] }) front)) (h.meant (around b.outer) a) a)
