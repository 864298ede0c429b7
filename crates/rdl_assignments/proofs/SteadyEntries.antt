-- Entries of enumerations that fail alike in all bodies of a text.
use Rattle.std.proofs.Common.{◌≡◌, ◌∙◌, ℕ, ◌+◌, ◌<◌, ◌≤◌, Bool, false, true, List, [], ◌∷◌, ◌++◌, flat_map, get_or, length, map, take, Option, None, Some, option_to_list, refl, sym, ap, subst}
use Rattle.std.specs.List.{AllByRecursion}
use Rattle.std.proofs.lemmas.List.{take_all, take_more}
use Rattle.rdl_tree.specs.declared.item.Entry.{Entry}
use Rattle.rdl_tree.specs.declared.item.Item.{Item}
use Rattle.rdl_tree.specs.declared.item.Set.{Set}
use Rattle.rdl_props.specs.Table.{find_prop}
use Rattle.rdl_props.specs.declared.prop.Prop.{Prop}
use Rattle.rdl_values.specs.Bodies.{Body, Scope, around, standing, standing_from}
use Rattle.rdl_values.specs.Enums.{with_item, with_items}
use Rattle.rdl_values.specs.Faults.{failures}
use Rattle.rdl_values.specs.Values.{Around, Names}
use Rattle.rdl_values.specs.Views as view
use Rattle.rdl_values.specs.Views.{ItemIs, item_is}
use Rattle.rdl_layers.specs.Judged.{against, failures_of, illegal, legal_on_entry, props_of, unknown}
use Rattle.rdl_layers.specs.Meanings.{Assignment, meaning}
use Rattle.rdl_layers.specs.Phase4.{of_entry, of_enums, scope_of_enum}
use Rattle.rdl_assignments.specs.Enums.{fails_in}
use Rattle.rdl_assignments.specs.Live.{visible_in}
use Rattle.rdl_assignments.specs.Steady.{AreNamedAs, IsSteadyNamed, parameter_names}
use Rattle.rdl_assignments.proofs.Reading.{in_scope, props-push}

pub all_more : {A : Type 0} (P : A → Type 0) (xs : List A) (i : ℕ) (d : A) → i < length xs → AllByRecursion P (take i xs) → P (get_or xs i d) → AllByRecursion P (take (i + 1) xs)
all_more {A = A} P xs i d l h k = subst (AllByRecursion P) (sym (take_more xs i d l)) (push (take i xs) h)
  where
    push : (ys : List A) → AllByRecursion P ys → AllByRecursion P (ys ++ (get_or xs i d ∷ []))
    push [] all = (k, tt)
    push (y ∷ ys) all = (all.0, push ys all.1)

pub all_taken : {A : Type 0} (P : A → Type 0) (xs : List A) (i : ℕ) → length xs ≤ i → AllByRecursion P (take i xs) → AllByRecursion P xs
all_taken P xs i l h = subst (AllByRecursion P) (take_all i xs l) h

-- The bodies round an enumeration.

kept-bound : (outer : Around) (names : Names) (v : ItemIs) → (with_item outer names v).bound ≡ names.bound
kept-bound outer names (view.enumeration n es) = refl
kept-bound outer names (view.definition d) = refl
kept-bound outer names (view.made a of is) = refl
kept-bound outer names (view.local s) = refl
kept-bound outer names (view.default_ s) = refl
kept-bound outer names (view.dynamic p s) = refl

all-bound : (outer : Around) (names : Names) (is : List Item) → (with_items outer names is).bound ≡ names.bound
all-bound outer names [] = refl
all-bound outer names (i ∷ is) = all-bound outer (with_item outer names (item_is i)) is ∙ kept-bound outer names (item_is i)

-- whatever enumerations stand before it
pub enum_named_as : (same : Bool) (v : Around) (b : Body) (before : List Item) → AreNamedAs same v (visible_in b) → AreNamedAs false v (around (scope_of_enum b before))
enum_named_as same v b before h = record {
  parameters = ap (λ bound. map (λ x. x.0) bound ∷ parameter_names (around b.outer)) (all-bound (around b.outer) (record { bound = b.names.bound; enums = [] }) before) ∙ h.parameters;
  enums = λ e. absurd (other e);
}
  where
    other : false ≡ true → ⊥
    other e = cc

-- Settings.

module _ (v : Around) where
  one-alike : (legal : Prop → Bool) (earlier later : List Assignment) (s : Set) (u w : Scope) → props_of earlier ≡ props_of later → AreNamedAs false v (around u) → AreNamedAs false v (around w) → IsSteadyNamed false v s
      → failures_of legal (earlier, record { set_ = s; scope = u }) ≡ failures_of legal (later, record { set_ = s; scope = w })
  one-alike legal earlier later s u w e g k h =
      λ j. unknown (record { set_ = s; scope = u }) ++ illegal legal (record { set_ = s; scope = u }) ++ value (find_prop s.prop.text.now) refl j ++ flat_map (against (e j) s.place) (option_to_list (find_prop s.prop.text.now))
    where
      value : (o : Option Prop) → find_prop s.prop.text.now ≡ o → flat_map (λ p. failures (meaning p (record { set_ = s; scope = u }))) (option_to_list o) ≡ flat_map (λ p. failures (meaning p (record { set_ = s; scope = w }))) (option_to_list o)
      value None i = refl
      value (Some p) i = ap (λ fs. fs ++ []) (h p i u w g k)

  sets-alike : (legal : Prop → Bool) (earlier later : List Assignment) (ss : List Set) (u w : Scope) → props_of earlier ≡ props_of later → AreNamedAs false v (around u) → AreNamedAs false v (around w) → AllByRecursion (IsSteadyNamed false v) ss
      → flat_map (failures_of legal) (standing_from earlier (in_scope u ss)) ≡ flat_map (failures_of legal) (standing_from later (in_scope w ss))
  sets-alike legal earlier later [] u w e g k h = refl
  sets-alike legal earlier later (s ∷ ss) u w e g k h =
      let a : Assignment = record { set_ = s; scope = u } in
      let d : Assignment = record { set_ = s; scope = w } in
      let more : props_of (earlier ++ (a ∷ [])) ≡ props_of (later ++ (d ∷ [])) = props-push earlier a ∙ ap (λ ps. ps ++ option_to_list (find_prop s.prop.text.now)) e ∙ sym (props-push later d) in
      λ j. one-alike legal earlier later s u w e g k h.0 j ++ sets-alike legal (earlier ++ (a ∷ [])) (later ++ (d ∷ [])) ss u w more g k h.1 j

  -- Entries.

  abbrev pub IsAlikeEntry : Entry → Type 0
  IsAlikeEntry e = (u w : Scope) → AreNamedAs false v (around u) → AreNamedAs false v (around w) → of_entry u e ≡ of_entry w e

  pub entry_alike : (e : Entry) → AllByRecursion (IsSteadyNamed false v) e.sets.now → IsAlikeEntry e
  entry_alike e h = λ u w g k. sets-alike legal_on_entry [] [] e.sets.now u w refl g k h

  pub entries_alike : (es : List Entry) → AllByRecursion IsAlikeEntry es → (u w : Scope) → AreNamedAs false v (around u) → AreNamedAs false v (around w) → flat_map (of_entry u) es ≡ flat_map (of_entry w) es
  entries_alike [] h u w g k = refl
  entries_alike (e ∷ es) h u w g k = λ j. h.0 u w g k j ++ entries_alike es h.1 u w g k j

  -- Items.

  abbrev pub IsAlikeItem : Item → Type 0
  IsAlikeItem i = (u w : Scope) → AreNamedAs false v (around u) → AreNamedAs false v (around w) → fails_in u (item_is i) ≡ fails_in w (item_is i)

  items-alike : (same : Bool) (b c : Body) → AreNamedAs same v (visible_in b) → AreNamedAs same v (visible_in c) → (before is : List Item) → AllByRecursion IsAlikeItem is
      → flat_map (λ i. fails_in (scope_of_enum b i.0) (item_is i.1)) (standing_from before is) ≡ flat_map (λ i. fails_in (scope_of_enum c i.0) (item_is i.1)) (standing_from before is)
  items-alike same b c g k before [] h = refl
  items-alike same b c g k before (i ∷ is) h =
      λ j. h.0 (scope_of_enum b before) (scope_of_enum c before) (enum_named_as same v b before g) (enum_named_as same v c before k) j ++ items-alike same b c g k (before ++ (i ∷ [])) is h.1 j

  pub enums_alike : (same : Bool) (b c : Body) (items : List Item) → AllByRecursion IsAlikeItem items → b.items ≡ items → c.items ≡ items → AreNamedAs same v (visible_in b) → AreNamedAs same v (visible_in c) → of_enums b ≡ of_enums c
  enums_alike same b c items h e f g k =
      items-alike same b c g k [] b.items (subst (AllByRecursion IsAlikeItem) (sym e) h) ∙ ap (λ is. flat_map (λ i. fails_in (scope_of_enum c i.0) (item_is i.1)) (standing is)) (e ∙ sym f)
