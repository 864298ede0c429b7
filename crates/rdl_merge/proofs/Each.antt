-- What the assignments of a layer give, one by one.
use Rattle.std.proofs.Common.{◌≡◌, ◌∙◌, ℕ, zero, suc, ◌+◌, ◌<◌, ◌≤◌, Bool, cond, List, [], ◌∷◌, ◌++◌, length, get_or, take, map, filter, flat_map, append-nil, append_assoc, add-one, option_to_list, refl, sym, ap, subst, arith}
use Rattle.std.proofs.lemmas.Grind.{flat_map-append}
use Rattle.std.proofs.lemmas.List.{take_all}
use Rattle.std.proofs.lemmas.List.Elements.{filter-append}
use Rattle.rdl_props.specs.Table.{is_legal}
use Rattle.rdl_tree.specs.declared.item.Kind.{Kind}
use Rattle.rdl_values.specs.Instances.{Instance}
use Rattle.rdl_layers.specs.Meanings.{Assignment, meaning}
use Rattle.rdl_layers.specs.Says.{IsScopeNumber}
use Rattle.rdl_layers.specs.Settings.{Applied, applied, given, gives}
use Rattle.rdl_layers.specs.declared.props.PropSetting.{PropSetting}
use Rattle.rdl_layers.specs.declared.rank.Rank.{Rank}
use Rattle.rdl_assignments.specs.Meant.{meaning_in}
use Rattle.rdl_assignments.specs.Layers.{AreGiven, IsGiven}
use Rattle.rdl_assignments.specs.declared.set.ValidAssignment.{ValidAssignment}
use Rattle.rdl_merge.specs.Merged.{AreEntries, AreIn}

pub gives-one : (judged : ℕ) (g : ValidAssignment) (a : Assignment) (r : Rank) → IsGiven judged g a → gives r a ≡ applied r g.prop (meaning_in a.scope g.setting) ∷ []
gives-one judged g a r h = ap (λ o. flat_map (λ p. map (applied r p) (given (meaning p a))) (option_to_list o)) h.prop ∙ append-nil (map (applied r g.prop) (given (meaning g.prop a))) ∙ ap (λ o. map (applied r g.prop) (given o)) h.value

-- those that are legal on a kind
abbrev pub legal_among : Kind → List Applied → List Applied
legal_among k xs = filter (λ x. is_legal x.candidate.prop k) xs

pub legal-one : (judged : ℕ) (g : ValidAssignment) (a : Assignment) (r : Rank) (k : Kind) (b : Bool) → IsGiven judged g a → is_legal g.prop k ≡ b → legal_among k (gives r a) ≡ cond b (gives r a) []
legal-one judged g a r k b h e =
    let x = applied r g.prop (meaning_in a.scope g.setting) in
    ap (legal_among k) (gives-one judged g a r h) ∙ ap (λ c. cond c (x ∷ []) []) e ∙ ap (λ ys. cond b ys []) (sym (gives-one judged g a r h))

-- the assignment at a place
record IsAt (all : List Instance) (body judged : ℕ) (g : ValidAssignment) (as' : List Assignment) (i : ℕ) : Type 0 where
  a : Assignment
  is : IsGiven judged g a
  inside : IsScopeNumber all a.scope body
  more : take (suc i) as' ≡ take i as' ++ (a ∷ [])

at : (all : List Instance) (body judged : ℕ) (gs : List ValidAssignment) (as' : List Assignment) (i : ℕ) (d : ValidAssignment) → i < length gs → AreGiven judged gs as' → AreIn all body as' → IsAt all body judged (get_or gs i d) as' i
at all body judged [] as' i d l h k = absurd (omega (arith, l))
at all body judged (g ∷ gs) [] i d l h k = absurd h
at all body judged (g ∷ gs) (a ∷ as') zero d l h k = record { a = a; is = h.0; inside = k.0; more = refl }
at all body judged (g ∷ gs) (a ∷ as') (suc i) d l h k =
    let next = at all body judged gs as' i d (omega (arith, l)) h.1 k.1 in
    record { a = next.a; is = next.is; inside = next.inside; more = ap (λ xs. a ∷ xs) next.more }

all-given : (judged : ℕ) (gs : List ValidAssignment) (as' : List Assignment) (i : ℕ) → length gs ≤ i → AreGiven judged gs as' → take i as' ≡ as'
all-given judged [] [] i l h = take_all i [] l
all-given judged [] (a ∷ as') i l h = absurd h
all-given judged (g ∷ gs) [] i l h = absurd h
all-given judged (g ∷ gs) (a ∷ as') zero l h = absurd (omega (arith, l))
all-given judged (g ∷ gs) (a ∷ as') (suc i) l h = ap (λ xs. a ∷ xs) (all-given judged gs as' i (omega (arith, l)) h.1)

-- What one assignment adds to what is told.
abbrev pub Adds : List Instance → ℕ → ℕ → ValidAssignment → (Assignment → List Applied) → List PropSetting → List PropSetting → Type 0
Adds all body judged g f old new = (ys : List Applied) (a : Assignment) → IsGiven judged g a → IsScopeNumber all a.scope body → AreEntries all old ys → AreEntries all new (ys ++ f a)

pub given_step : (all : List Instance) (body judged : ℕ) (gs : List ValidAssignment) (as' : List Assignment) (i : ℕ) (d : ValidAssignment) (f : Assignment → List Applied) (old new : List PropSetting) (xs : List Applied) → i < length gs → AreGiven judged gs as' → AreIn all body as'
    → Adds all body judged (get_or gs i d) f old new → AreEntries all old (xs ++ flat_map f (take i as')) → AreEntries all new (xs ++ flat_map f (take (i + 1) as'))
given_step all body judged gs as' i d f old new xs l h k adds told =
    let one = at all body judged gs as' i d l h k in
    let spread : flat_map f (take (i + 1) as') ≡ flat_map f (take i as') ++ f one.a = ap (λ n. flat_map f (take n as')) (add-one i) ∙ ap (flat_map f) one.more ∙ flat_map-append f (take i as') (one.a ∷ []) ∙ ap (λ ys. flat_map f (take i as') ++ ys) (append-nil (f one.a)) in
    subst (AreEntries all new) (append_assoc xs (flat_map f (take i as')) (f one.a) ∙ ap (λ ys. xs ++ ys) (sym spread)) (adds (xs ++ flat_map f (take i as')) one.a one.is one.inside told)

pub given_all : (all : List Instance) (judged : ℕ) (gs : List ValidAssignment) (as' : List Assignment) (i : ℕ) (f : Assignment → List Applied) (es : List PropSetting) (xs : List Applied) → length gs ≤ i → AreGiven judged gs as' → AreEntries all es (xs ++ flat_map f (take i as')) → AreEntries all es (xs ++ flat_map f as')
given_all all judged gs as' i f es xs l h told = subst (λ ys. AreEntries all es (xs ++ flat_map f ys)) (all-given judged gs as' i l h) told

pub given_none : (all : List Instance) (es : List PropSetting) (xs : List Applied) → AreEntries all es xs → AreEntries all es (xs ++ [])
given_none all es xs h = subst (AreEntries all es) (sym (append-nil xs)) h

-- those that are legal, of each
pub legal-each : (k : Kind) (f : Assignment → List Applied) (as' : List Assignment) → flat_map (λ a. legal_among k (f a)) as' ≡ legal_among k (flat_map f as')
legal-each k f [] = refl
legal-each k f (a ∷ as') = ap (λ ys. legal_among k (f a) ++ ys) (legal-each k f as') ∙ sym (filter-append (λ x. is_legal x.candidate.prop k) (f a) (flat_map f as'))
