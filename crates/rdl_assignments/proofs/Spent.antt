-- Assignments that fail alike in all bodies, and give nothing.
use Rattle.std.proofs.Common.{◌≡◌, ◌∙◌, ℕ, Bool, true, false, cond, not, ◌&&◌, List, [], ◌∷◌, ◌++◌, map, flat_map, append-nil, Option, None, Some, option_to_list, refl, sym, ap, subst}
use Rattle.std.specs.List.{list_any}
use Rattle.std.proofs.lemmas.Grind.{flat_map-append}
use Rattle.rdl_base.specs.declared.fault.Fault.{Fault}
use Rattle.rdl_base.specs.declared.rule.Rule.TheVariants as rules
use Rattle.rdl_tree.specs.declared.item.Item.{Item}
use Rattle.rdl_tree.specs.declared.item.Set.{Set}
use Rattle.rdl_props.specs.Same.{same_prop}
use Rattle.rdl_props.specs.declared.prop.Prop.{Prop}
use Rattle.rdl_values.specs.Bodies.{Body, scope_at, standing}
use Rattle.rdl_values.specs.Faults.{at_, when}
use Rattle.rdl_values.specs.Parts.{is_empty}
use Rattle.rdl_values.specs.Views.{ItemIs, item_is}
use Rattle.rdl_failures.specs.Noted.{with_all}
use Rattle.rdl_failures.proofs.Noting.{standing-push}
use Rattle.rdl_failures.proofs.Sets.{again, kept, with_all-append}
use Rattle.rdl_layers.specs.Judged.{against, all_failures, bad_value, failures_of, illegal, props_of, sound, taken, unknown}
use Rattle.rdl_layers.specs.Meanings.{Assignment, prop_of}
use Rattle.rdl_layers.specs.Ranks.{is_related}
use Rattle.rdl_assignments.specs.Layers.{AreGiven, IsLayer}
use Rattle.rdl_assignments.specs.Live.{IsIdle, IsPassed, IsSpent, set_in, sets_in}
use Rattle.rdl_assignments.specs.Taken.{AreTaken}
use Rattle.rdl_assignments.specs.declared.layer.Layer.{Layer}
use Rattle.rdl_assignments.specs.declared.taken.AssignedProps.{AssignedProps}
use Rattle.rdl_assignments.proofs.Judging.{unknown_noted}
use Rattle.rdl_assignments.proofs.Reading.{failures-push, props-push, sound-push}
use Rattle.rdl_assignments.proofs.Related.{taken_again}

last-fails : {A : Type 0} (xs ys : List A) → is_empty ys ≡ false → is_empty (xs ++ ys) ≡ false
last-fails [] ys h = h
last-fails (x ∷ xs) ys h = refl

-- An idle one fails a rule.
idle-fails : (legal : Prop → Bool) (earlier : List Assignment) (a : Assignment) → IsIdle earlier (prop_of a) → is_empty (failures_of legal (earlier, a)) ≡ false
idle-fails legal earlier a h = go (prop_of a) refl h
  where
    go : (o : Option Prop) → prop_of a ≡ o → IsIdle earlier o → is_empty (failures_of legal (earlier, a)) ≡ false
    go None e k = sym (unknown_noted legal earlier a (is_empty (unknown a)) [] (with_all (unknown a) []) e (record { none = refl; put = refl })).none
    go (Some p) e k = last-fails (unknown a ++ illegal legal a ++ bad_value a) (taken earlier a) (ap (λ o. is_empty (flat_map (against (props_of earlier) a.set_.place) (option_to_list o))) e ∙ again-fails p k)
      where
        again-fails : (p : Prop) → list_any (same_prop p) (props_of earlier) ≡ true → is_empty (flat_map (against (props_of earlier) a.set_.place) (p ∷ [])) ≡ false
        again-fails p k = ap (λ c. is_empty ((when c (at_ rules.P4 a.set_.place) ++ when (list_any (λ q. is_related p q && not (same_prop p q)) (props_of earlier)) (at_ rules.P5 a.set_.place)) ++ [])) k

-- its property is taken already
pub idle-taken : (t : AssignedProps) (earlier : List Assignment) (a : Assignment) → AreTaken t (props_of earlier) → IsIdle earlier (prop_of a) → AreTaken t (props_of (earlier ++ (a ∷ [])))
idle-taken t earlier a h k = subst (AreTaken t) (sym (props-push earlier a)) (go (prop_of a) k)
  where
    go : (o : Option Prop) → IsIdle earlier o → AreTaken t (props_of earlier ++ option_to_list o)
    go None k = subst (AreTaken t) (sym (append-nil (props_of earlier))) h
    go (Some p) k = taken_again t (props_of earlier) p h (h.same (same_prop p) ∙ k)

sound-same : (legal : Prop → Bool) (earlier : List Assignment) (a : Assignment) → IsIdle earlier (prop_of a) → sound (failures_of legal) (earlier ++ (a ∷ [])) ≡ sound (failures_of legal) earlier
sound-same legal earlier a k =
    sound-push (failures_of legal) earlier a ∙ ap (λ b. sound (failures_of legal) earlier ++ cond b (a ∷ []) []) (idle-fails legal earlier a k) ∙ append-nil (sound (failures_of legal) earlier)

-- A spent one changes nothing.
pub spent_layer : (legal : Prop → Bool) (body : ℕ) (y : Layer) (start now : List Fault) (earlier : List Assignment) (a : Assignment) → IsSpent legal start earlier a → IsLayer legal body y start now earlier → IsLayer legal body y start now (earlier ++ (a ∷ []))
spent_layer legal body y start now earlier a k h =
    let f = failures_of legal in
    let before = with_all (all_failures f earlier) start in
    record {
      taken = idle-taken y.taken earlier a h.taken k.0;
      given = subst (AreGiven body y.given.items) (sym (sound-same legal earlier a k.0)) h.given;
      noted = h.noted ∙ sym (again (f (earlier, a)) before (kept (f (earlier, a)) (all_failures f earlier) start k.1)) ∙ sym (with_all-append (all_failures f earlier) (f (earlier, a)) start) ∙ ap (λ fs. with_all fs start) (sym (failures-push f earlier a));
    }

-- The same of items.

pub sets-push : (of : ItemIs → Option Set) (b : Body) (before : List Item) (i : Item) → sets_in of b (before ++ (i ∷ [])) ≡ sets_in of b before ++ set_in of b (before, i)
sets-push of b before i = ap (flat_map (set_in of b)) (standing-push before i) ∙ flat_map-append (set_in of b) (standing before) ((before, i) ∷ []) ∙ ap (λ ys. sets_in of b before ++ ys) (append-nil (set_in of b (before, i)))

-- what an item sets
pub one-set : (of : ItemIs → Option Set) (b : Body) (before : List Item) (i : Item) (o : Option Set) → of (item_is i) ≡ o → set_in of b (before, i) ≡ map (λ s. record { set_ = s; scope = scope_at b before }) (option_to_list o)
one-set of b before i o e = ap (λ p. map (λ (s : Set). record { set_ = s; scope = scope_at b before }) (option_to_list p)) e

pub passed_layer : (of : ItemIs → Option Set) (legal : Prop → Bool) (body : ℕ) (y : Layer) (start now : List Fault) (b : Body) (before : List Item) (i : Item) → IsPassed of legal start b before (of (item_is i))
    → IsLayer legal body y start now (sets_in of b before) → IsLayer legal body y start now (sets_in of b (before ++ (i ∷ [])))
passed_layer of legal body y start now b before i k h = subst (IsLayer legal body y start now) (sym (sets-push of b before i)) (go (of (item_is i)) refl k)
  where
    go : (o : Option Set) → of (item_is i) ≡ o → IsPassed of legal start b before o → IsLayer legal body y start now (sets_in of b before ++ set_in of b (before, i))
    go None e k = subst (λ xs. IsLayer legal body y start now (sets_in of b before ++ xs)) (sym (one-set of b before i None e)) (subst (IsLayer legal body y start now) (sym (append-nil (sets_in of b before))) h)
    go (Some s) e k = subst (λ xs. IsLayer legal body y start now (sets_in of b before ++ xs)) (sym (one-set of b before i (Some s) e)) (spent_layer legal body y start now (sets_in of b before) (record { set_ = s; scope = scope_at b before }) k h)

pub passed_sound : (of : ItemIs → Option Set) (legal : Prop → Bool) (held : List Fault) (b : Body) (before : List Item) (i : Item) → IsPassed of legal held b before (of (item_is i))
    → sound (failures_of legal) (sets_in of b (before ++ (i ∷ []))) ≡ sound (failures_of legal) (sets_in of b before)
passed_sound of legal held b before i k = ap (sound (failures_of legal)) (sets-push of b before i) ∙ go (of (item_is i)) refl k
  where
    go : (o : Option Set) → of (item_is i) ≡ o → IsPassed of legal held b before o → sound (failures_of legal) (sets_in of b before ++ set_in of b (before, i)) ≡ sound (failures_of legal) (sets_in of b before)
    go None e k = ap (λ xs. sound (failures_of legal) (sets_in of b before ++ xs)) (one-set of b before i None e) ∙ ap (sound (failures_of legal)) (append-nil (sets_in of b before))
    go (Some s) e k = ap (λ xs. sound (failures_of legal) (sets_in of b before ++ xs)) (one-set of b before i (Some s) e) ∙ sound-same legal (sets_in of b before) (record { set_ = s; scope = scope_at b before }) k.0
