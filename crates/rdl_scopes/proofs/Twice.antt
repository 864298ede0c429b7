-- Names that are defined twice.
use Rattle.std.proofs.Common.{◌≡◌, ◌∙◌, ℕ, ◌+◌, ◌<◌, Bool, true, ◌||◌, bytes_eq, List, [], ◌∷◌, ◌++◌, length, get_or, take, map, flat_map, is_some, ◌&&◌, refl, sym, ap, subst, append-nil}
use Rattle.std.specs.Cmp.Lexicographic.{bytes_decides}
use Rattle.std.specs.List.{list_any}
use Rattle.std.proofs.lemmas.Grind.{flat_map-append}
use Rattle.std.proofs.lemmas.List.{take_more, map-append}
use Rattle.std.proofs.lemmas.Option.{get_or_from_slice_get, slice_get-get_or}
use Rattle.plain_lemmas.proofs.Lists.{bytes_eq-swap as turned}
use Rattle.rdl_base.specs.declared.fault.Fault.{Fault}
use Rattle.rdl_base.specs.declared.rule.Rule.TheVariants as rules
use Rattle.rdl_tree.specs.declared.expr.Name.{Name}
use Rattle.rdl_values.specs.Bodies.{same_name}
use Rattle.rdl_values.specs.Faults.{at_, when}
use Rattle.rdl_values.specs.Firsts.{HasNames, place_of}
use Rattle.rdl_failures.specs.Noted.{IsNoted}
use Rattle.rdl_values.specs.declared.firsts.Firsts.{Firsts}
use Rattle.rdl_values.proofs.Named.{IsPut, names_more}
use Rattle.rdl_failures.proofs.Noting.{standing_noted}
use Rattle.rdl_scopes.specs.Named.{fails_twice}

same_both : (a b : List ℕ) → bytes_eq a b ≡ true → bytes_eq b a ≡ true
same_both a b e = (bytes_decides b a).1 (sym ((bytes_decides a b).0 e))

-- E2 at a name, where one of those before it is the same
abbrev pub twice : List Name × Name → List Fault
twice n = when (list_any (same_name n.1) n.0) (at_ rules.E2 n.1.place)

-- a name stands before
pub stands_before : (ns : List Name) (n : Name) → list_any (λ m. bytes_eq m n.text.now) (map (λ x. x.text.now) ns) ≡ list_any (same_name n) ns
stands_before [] n = refl
stands_before (m ∷ ns) n = ap (λ b. b || list_any (λ x. bytes_eq x n.text.now) (map (λ x. x.text.now) ns)) (turned m.text.now n.text.now) ∙ ap (λ b. same_name n m || b) (stands_before ns n)

-- what each of some things lists, and one more
pub listed_more : {X Y : Type 0} (f : X → List Y) (xs : List X) (i : ℕ) (x : X) → i < length xs → x ≡ get_or xs i x → flat_map f (take (i + 1) xs) ≡ flat_map f (take i xs) ++ f x
listed_more f xs i x l at =
    ap (flat_map f) (take_more xs i x l ∙ ap (λ y. take i xs ++ (y ∷ [])) (sym at)) ∙ flat_map-append f (take i xs) (x ∷ []) ∙ ap (λ ys. flat_map f (take i xs) ++ ys) (append-nil (f x))

pub texts_more : (ns : List Name) (i : ℕ) (n : Name) → i < length ns → n ≡ get_or ns i n → map (λ x. x.text.now) (take (i + 1) ns) ≡ map (λ x. x.text.now) (take i ns) ++ (n.text.now ∷ [])
texts_more ns i n l at = ap (map (λ x. x.text.now)) (take_more ns i n l ∙ ap (λ y. take i ns ++ (y ∷ [])) (sym at)) ∙ map-append (λ x. x.text.now) (take i ns) (n ∷ [])

own_place : (ns : List Name) (i : ℕ) (d : Name) → i < length ns → get_or ns i d ≡ get_or ns i (get_or ns i d)
own_place ns i d l = sym (get_or_from_slice_get ns i (get_or ns i d) (get_or ns i d) (slice_get-get_or ns i d l))

pub known_step : (ns : List Name) (i : ℕ) (d : Name) (old new : Firsts) → i < length ns → HasNames old (map (λ x. x.text.now) (take i ns)) → IsPut (get_or ns i d).text.now i old new
    → HasNames new (map (λ x. x.text.now) (take (i + 1) ns))
known_step ns i d old new l h put =
    let n = get_or ns i d in
    subst (HasNames new) (sym (texts_more ns i n l (own_place ns i d l))) (names_more old new (map (λ x. x.text.now) (take i ns)) n.text.now i h put)

pub noted_step : (ns : List Name) (i : ℕ) (d : Name) (old : Firsts) (again a b : Bool) (s t u : List Fault) → i < length ns → HasNames old (map (λ x. x.text.now) (take i ns)) → again ≡ is_some (place_of old (get_or ns i d).text.now)
    → IsNoted (fails_twice (take i ns)) a s t → IsNoted (when again (at_ rules.E2 (get_or ns i d).place)) b t u → IsNoted (fails_twice (take (i + 1) ns)) (a && b) s u
noted_step ns i d old again a b s t u l h e before here =
    let n = get_or ns i d in
    let stands : again ≡ list_any (same_name n) (take i ns) = e ∙ h.at n.text.now ∙ stands_before (take i ns) n in
    standing_noted twice ns i n l (own_place ns i d l) a b s t u before (subst (λ x. IsNoted (when x (at_ rules.E2 n.place)) b t u) stands here)
