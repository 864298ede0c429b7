-- Look-ups in tables are those of the definitions.
use Rattle.std.proofs.Common.{◌≡◌, ◌∙◌, ℕ, zero, suc, ◌+◌, ◌<◌, Bool, true, false, cond, ◌==◌, ◌&&◌, ◌||◌, nat_lt, bytes_eq, List, [], ◌∷◌, ◌++◌, map, length, get_or, find, Option, None, Some, option_map, is_some, MatchOption, take, refl, sym, ap, subst, append_assoc, arith}
use Rattle.std.specs.Cmp.Lexicographic.{bytes_decides}
use Rattle.std.specs.List.{AllByRecursion, IsDistinct, list_any, position_from}
use Rattle.std.specs.Option.{option_or}
use Rattle.std.proofs.lemmas.Bool.{eqb-true}
use Rattle.std.proofs.lemmas.List.{length-map, map-append}
use Rattle.std.proofs.lemmas.Cmp.{nat_list_eq_equiv}
use Rattle.std.proofs.lemmas.Map.Keys.{IsDistinct-head, IsDistinct-push, IsDistinct-tail}
use Rattle.std.specs.Bool.{then_some}
use Rattle.std.specs.Borrow.{Bor}
use Rattle.rdl_tree.specs.declared.expr.Name.{Name}
use Rattle.rdl_tree.specs.declared.value.Value.{Value}
use Rattle.rdl_values.specs.Firsts.{AreFirsts, place_of}
use Rattle.rdl_values.specs.declared.firsts.Firsts.{Firsts}
use Rattle.rdl_values.specs.Over.{AreShown, IsOver, plain_in, shown, touched_in}
use Rattle.rdl_values.specs.Overlaid.{Plain, overlaid}
use Rattle.rdl_values.specs.Parameters.{Bound}
use Rattle.rdl_values.specs.Table.{AreBodyNames, is_enum_named, keys_of}
use Rattle.rdl_values.specs.declared.parameters.Parameters.{Parameters}
use Rattle.rdl_values.specs.Values.{EnumOf, Names, entry_named}
use Rattle.rdl_values.proofs.Named.{IsPut, any-named, firsts-some, firsts_more, firsts_none}
use Rattle.plain_lemmas.proofs.Lists.{bytes_eq-swap as turned}

-- a place counted from one more
pub later : (f : List ℕ → Bool) (i : ℕ) (names : List (List ℕ)) → position_from f (i + 1) names ≡ option_map suc (position_from f i names)
later f i [] = refl
later f i (n ∷ names) = go (f n) (later f (i + 1) names)
  where
    go : (b : Bool) → position_from f (i + 1 + 1) names ≡ option_map suc (position_from f (i + 1) names)
        → cond b (Some (i + 1)) (position_from f (i + 1 + 1) names) ≡ option_map suc (cond b (Some i) (position_from f (i + 1) names))
    go true h = let more : i + 1 ≡ suc i = omega arith in ap Some more
    go false h = h

-- the first place of a name
abbrev pub place_in : List ℕ → List (List ℕ) → Option ℕ
place_in n names = position_from (λ m. bytes_eq m n) 0 names

pub place_within : (n : List ℕ) (names : List (List ℕ)) (i : ℕ) → place_in n names ≡ Some i → i < length names
place_within n [] i e = cc e
place_within n (m ∷ names) i e = go (bytes_eq m n) (place_in n names) (place_within n names) (sym (ap (cond (bytes_eq m n) (Some 0)) (later (λ k. bytes_eq k n) 0 names)) ∙ e)
  where
    go : (b : Bool) (o : Option ℕ) → ((k : ℕ) → o ≡ Some k → k < length names) → cond b (Some 0) (option_map suc o) ≡ Some i → i < suc (length names)
    go true o rest q = let z : 0 ≡ i = cc in omega (arith, z)
    go false None rest q = cc
    go false (Some k) rest q = let z : suc k ≡ i = cc in omega (arith, z, rest k refl)

-- what a table has under a name, by the name's place
pub named-at : {X Y : Type 0} (f : X → Y) (n : List ℕ) (es : List (Bor (List ℕ) × X)) (d : Bor (List ℕ) × X) → entry_named n (map (λ e. (e.0.now, f e.1)) es) ≡ option_map (λ i. f (get_or es i d).1) (place_in n (keys_of es))
named-at f n [] d = refl
named-at f n (e ∷ es) d = go (bytes_eq e.0.now n) refl (place_in n (keys_of es)) (named-at f n es d) ∙ ap (λ o. option_map (λ i. f (get_or (e ∷ es) i d).1) (cond (bytes_eq e.0.now n) (Some 0) o)) (sym (later (λ m. bytes_eq m n) 0 (keys_of es)))
  where
    go : (b : Bool) → bytes_eq e.0.now n ≡ b → (o : Option ℕ) → entry_named n (map (λ e. (e.0.now, f e.1)) es) ≡ option_map (λ i. f (get_or es i d).1) o
        → entry_named n (map (λ e. (e.0.now, f e.1)) (e ∷ es)) ≡ option_map (λ i. f (get_or (e ∷ es) i d).1) (cond b (Some 0) (option_map suc o))
    go true q o h = rw q refl
    go false q None h = rw q h
    go false q (Some k) h = rw q h

pub named-none : {X Y : Type 0} (f : X → Y) (n : List ℕ) (es : List (Bor (List ℕ) × X)) → place_in n (keys_of es) ≡ None → entry_named n (map (λ e. (e.0.now, f e.1)) es) ≡ None
named-none f n [] h = refl
named-none f n (e ∷ es) h = named-at f n (e ∷ es) e ∙ ap (option_map (λ i. f (get_or (e ∷ es) i e).1)) h

pub named-some : {X Y : Type 0} (f : X → Y) (n : List ℕ) (es : List (Bor (List ℕ) × X)) (d : Bor (List ℕ) × X) (i : ℕ) → place_in n (keys_of es) ≡ Some i → entry_named n (map (λ e. (e.0.now, f e.1)) es) ≡ Some (f (get_or es i d).1)
named-some f n es d i h = named-at f n es d ∙ ap (option_map (λ i. f (get_or es i d).1)) h

pub is-named : {X Y : Type 0} (f : X → Y) (n : List ℕ) (es : List (Bor (List ℕ) × X)) (t : Firsts) → AreFirsts t (keys_of es) → is_some (entry_named n (map (λ e. (e.0.now, f e.1)) es)) ≡ is_some (place_of t n)
is-named {X = X} f n es t h = go es ∙ ap is_some (sym (h.at n))
  where
    both : {A B : Type 0} (g : A → B) (o : Option A) → is_some (option_map g o) ≡ is_some o
    both g None = refl
    both g (Some x) = refl

    go : (es : List (Bor (List ℕ) × X)) → is_some (entry_named n (map (λ e. (e.0.now, f e.1)) es)) ≡ is_some (place_in n (keys_of es))
    go [] = refl
    go (e ∷ es) = ap is_some (named-at f n (e ∷ es) e) ∙ both (λ i. f (get_or (e ∷ es) i e).1) (place_in n (keys_of (e ∷ es)))

-- What is put in.

-- what is kept where the name is there, and what comes behind where it is not
pub kept : {Y : Type 0} (b : Bool) (xs ys : List Y) → b ≡ true → xs ≡ cond b xs ys
kept b xs ys e = rw e refl

pub behind : {X Y : Type 0} (g : X → Y) (x : X) (es fs : List X) (b : Bool) → b ≡ false → fs ≡ es ++ (x ∷ []) → map g fs ≡ cond b (map g es) (map g es ++ (g x ∷ []))
behind g x es fs b fresh i = let new = ap (map g) i ∙ map-append g es (x ∷ []) in rw fresh new

pub firsts_pushed : {X : Type 0} (f : X → List ℕ) (old new : Firsts) (es fs : List X) (x : X) (at : ℕ) → AreFirsts old (map f es) → at ≡ length es → IsPut (f x) at old new → fs ≡ es ++ (x ∷ []) → AreFirsts new (map f fs)
firsts_pushed f old new es fs x at h e put i =
    subst (AreFirsts new) (sym (ap (map f) i ∙ map-append f es (x ∷ []))) (firsts_more old new (map f es) (f x) at h (e ∙ sym (length-map es f)) put)

-- Of enumerations whose names differ at most one is meant.

unnamed : (n : Name) (m : List ℕ) (es : List EnumOf) → m ≡ n.text.now → AllByRecursion (λ k. bytes_eq m k ≡ false) (map (λ e. e.name) es) → find (λ e. bytes_eq e.name n.text.now && nat_lt e.place n.place.0) es ≡ None
unnamed n m [] q h = refl
unnamed n m (e ∷ es) q h =
    let other : bytes_eq e.name n.text.now ≡ false = ap (bytes_eq e.name) (sym q) ∙ turned e.name m ∙ h.0 in
    rw other (unnamed n m es q h.1)

abbrev pub called : Name → EnumOf → EnumOf
called n e = record e { name = n.text.now }

-- the enumeration at a place, where it stands before the name
abbrev pub meant : Name → List EnumOf → EnumOf → Option ℕ → Option EnumOf
meant n es d None = None
meant n es d (Some i) = cond (nat_lt (get_or es i d).place n.place.0) (Some (called n (get_or es i d))) None

meant-later : (n : Name) (e : EnumOf) (es : List EnumOf) (d : EnumOf) (o : Option ℕ) → meant n es d o ≡ meant n (e ∷ es) d (option_map suc o)
meant-later n e es d None = refl
meant-later n e es d (Some i) = refl

pub found-enum : (n : Name) (es : List EnumOf) (d : EnumOf) → IsDistinct bytes_eq (map (λ e. e.name) es)
    → find (λ e. bytes_eq e.name n.text.now && nat_lt e.place n.place.0) es ≡ meant n es d (place_in n.text.now (map (λ e. e.name) es))
found-enum n [] d u = refl
found-enum n (e ∷ es) d u = go (bytes_eq e.name n.text.now) refl (found-enum n es d (IsDistinct-tail _ e.name (map (λ e. e.name) es) u))
  where
    names : List (List ℕ)
    names = map (λ e. e.name) es

    Goal : List EnumOf → Type 0
    Goal xs = find (λ e. bytes_eq e.name n.text.now && nat_lt e.place n.place.0) xs ≡ meant n xs d (place_in n.text.now (map (λ e. e.name) xs))

    here : (t : Bool) → nat_lt e.place n.place.0 ≡ t → bytes_eq e.name n.text.now ≡ true → Goal (e ∷ es)
    here true q s = let same : e.name ≡ n.text.now = (bytes_decides e.name n.text.now).0 s in rw (s, q) (ap (λ t. Some (record e { name = t })) same)
    here false q s = let same : e.name ≡ n.text.now = (bytes_decides e.name n.text.now).0 s in rw (s, q) (unnamed n e.name es same (IsDistinct-head _ e.name names u))

    go : (b : Bool) → bytes_eq e.name n.text.now ≡ b → Goal es → Goal (e ∷ es)
    go true s k = here (nat_lt e.place n.place.0) refl s
    go false s k = rw s (k ∙ meant-later n e es d (place_in n.text.now names) ∙ ap (meant n (e ∷ es) d) (sym (later (λ m. bytes_eq m n.text.now) 0 names)))

pub enum-none : (n : Name) (es : List EnumOf) → IsDistinct bytes_eq (map (λ e. e.name) es) → place_in n.text.now (map (λ e. e.name) es) ≡ None → find (λ e. bytes_eq e.name n.text.now && nat_lt e.place n.place.0) es ≡ None
enum-none n [] u h = refl
enum-none n (e ∷ es) u h = found-enum n (e ∷ es) e u ∙ ap (meant n (e ∷ es) e) h

pub enum-some : (n : Name) (es : List EnumOf) (d : EnumOf) (i : ℕ) (b : Bool) → IsDistinct bytes_eq (map (λ e. e.name) es) → place_in n.text.now (map (λ e. e.name) es) ≡ Some i → b ≡ nat_lt (get_or es i d).place n.place.0
    → find (λ e. bytes_eq e.name n.text.now && nat_lt e.place n.place.0) es ≡ cond b (Some (called n (get_or es i d))) None
enum-some n es d i b u h q = found-enum n es d u ∙ ap (meant n es d) h ∙ ap (λ b. cond b (Some (called n (get_or es i d))) None) (sym q)

pub is-enum : (n : List ℕ) (es : List EnumOf) (t : Firsts) → AreFirsts t (map (λ e. e.name) es) → is_enum_named n es ≡ is_some (place_of t n)
is-enum n es t h = sym (firsts-some t (map (λ e. e.name) es) n h ∙ any-named (λ e. e.name) n es)

any-turned : (n : List ℕ) (names : List (List ℕ)) → list_any (bytes_eq n) names ≡ list_any (λ m. bytes_eq m n) names
any-turned n [] = refl
any-turned n (m ∷ names) = ap (λ b. b || list_any (bytes_eq n) names) (turned n m) ∙ ap (λ b. bytes_eq m n || b) (any-turned n names)

pub unique_pushed : (es fs : List EnumOf) (e : EnumOf) (t : Firsts) → AreFirsts t (map (λ e. e.name) es) → is_some (place_of t e.name) ≡ false → IsDistinct bytes_eq (map (λ e. e.name) es) → fs ≡ es ++ (e ∷ []) → IsDistinct bytes_eq (map (λ e. e.name) fs)
unique_pushed es fs e t h fresh u i =
    let absent : list_any (bytes_eq e.name) (map (λ e. e.name) es) ≡ false = any-turned e.name (map (λ e. e.name) es) ∙ sym (firsts-some t (map (λ e. e.name) es) e.name h) ∙ fresh in
    subst (IsDistinct bytes_eq) (sym (ap (map (λ e. e.name)) i ∙ map-append (λ e. e.name) es (e ∷ []))) (IsDistinct-push nat_list_eq_equiv (map (λ e. e.name) es) e.name u absent)

pub read-map : {X Y : Type 0} (f : X → Y) (xs : List X) (i : ℕ) (d : X) → get_or (map f xs) i (f d) ≡ f (get_or xs i d)
read-map f [] zero d = refl
read-map f [] (suc i) d = refl
read-map f (x ∷ xs) zero d = refl
read-map f (x ∷ xs) (suc i) d = read-map f xs i d

-- An enumeration that is handed out where it stands before the name.
pub handed_out : (n : Name) (e : Bor EnumOf) (b : Bool) (o : Option (Bor EnumOf)) (w : Option EnumOf) → o ≡ then_some b e → w ≡ cond b (Some (called n e.now)) None
    → MatchOption o (w ≡ None) (λ e. w ≡ Some (called n e.now))
handed_out n e true o w h k = subst (λ o. MatchOption o (w ≡ None) (λ e. w ≡ Some (called n e.now))) (sym h) k
handed_out n e false o w h k = subst (λ o. MatchOption o (w ≡ None) (λ e. w ≡ Some (called n e.now))) (sym h) k

-- No names.

unique_none : IsDistinct bytes_eq []
unfolding IsDistinct
unique_none = tt

pub no_names : (over : Option Parameters) → AreShown over → (t : Firsts) (bound : List (Bor (List ℕ) × Value)) (s : Firsts) (enums : List EnumOf) → ((n : List ℕ) → place_of t n ≡ None) → bound ≡ [] → ((n : List ℕ) → place_of s n ≡ None) → enums ≡ [] → AreBodyNames over t bound s enums
no_names over are t bound s enums h none k empty = subst (λ es. AreBodyNames over t bound s es) (sym empty) (subst (λ es. AreBodyNames over t es s []) (sym none) (record {
  shown_are = are;
  bound_at = firsts_none t h;
  enums_at = firsts_none s k;
  unique = unique_none;
}))

-- What is behind the others where its name is new.
pub pushed : {X : Type 0} (x : X) (es fs : List X) (b : Bool) → b ≡ false → fs ≡ es ++ (x ∷ []) → fs ≡ cond b es (es ++ (x ∷ []))
pushed x es fs b fresh i = rw fresh i

-- Parameters over those of a text, before others.

pub named-both : {A : Type 0} (n : List ℕ) (xs ys : List (List ℕ × A)) → entry_named n (xs ++ ys) ≡ option_or (entry_named n xs) (entry_named n ys)
named-both n [] ys = refl
named-both n (x ∷ xs) ys = go (bytes_eq x.0 n) refl (named-both n xs ys)
  where
    go : (b : Bool) → bytes_eq x.0 n ≡ b → entry_named n (xs ++ ys) ≡ option_or (entry_named n xs) (entry_named n ys) → entry_named n (x ∷ (xs ++ ys)) ≡ option_or (entry_named n (x ∷ xs)) (entry_named n ys)
    go true e h = rw e refl
    go false e h = rw e h

-- what a name stands for that stands over the text, and one that does not
pub over-some : {X A : Type 0} (f : X → A) (n : List ℕ) (o : Option X) (xs ys : List (List ℕ × A)) (x : X) → o ≡ Some x → option_map f o ≡ entry_named n xs → entry_named n (xs ++ ys) ≡ Some (f x)
over-some f n o xs ys x e k = named-both n xs ys ∙ ap (λ o. option_or o (entry_named n ys)) (sym k ∙ ap (option_map f) e)

pub over-none : {X A : Type 0} (f : X → A) (n : List ℕ) (o : Option X) (xs ys : List (List ℕ × A)) → o ≡ None → option_map f o ≡ entry_named n xs → entry_named n (xs ++ ys) ≡ entry_named n ys
over-none f n o xs ys e k = named-both n xs ys ∙ ap (λ o. option_or o (entry_named n ys)) (sym k ∙ ap (option_map f) e)

-- the same by a test
pub over-named : {X A : Type 0} (f : X → A) (n : List ℕ) (o : Option X) (xs ys : List (List ℕ × A)) (c : Bool) → option_map f o ≡ entry_named n xs → c ≡ is_some o → c ≡ true → is_some (entry_named n (xs ++ ys)) ≡ true
over-named f n None xs ys c e k h = let no : false ≡ true = sym k ∙ h in cc
over-named f n (Some x) xs ys c e k h = ap is_some (over-some f n (Some x) xs ys x refl e)

pub not-over : {X A : Type 0} (f : X → A) (n : List ℕ) (o : Option X) (xs ys : List (List ℕ × A)) (c : Bool) → option_map f o ≡ entry_named n xs → c ≡ is_some o → c ≡ false → entry_named n (xs ++ ys) ≡ entry_named n ys
not-over f n None xs ys c e k h = over-none f n None xs ys refl e
not-over f n (Some x) xs ys c e k h = let no : true ≡ false = sym k ∙ h in cc

pub behind-both : {X : Type 0} (x : X) (xs ys zs : List X) (b : Bool) → b ≡ false → zs ≡ ys ++ (x ∷ []) → xs ++ zs ≡ cond b (xs ++ ys) ((xs ++ ys) ++ (x ∷ []))
behind-both x xs ys zs b fresh e = let all = ap (λ t. xs ++ t) e ∙ sym (append_assoc xs ys (x ∷ [])) in rw fresh all

abbrev pub without_enums : Bound → Names
without_enums b = record { bound = b; enums = [] }

-- what parameters show, in the definitions' words
pub over-shown : (p : Parameters) (xs : Plain) (k : ℕ) (t : Bound) → IsOver p xs k t → shown p ≡ overlaid (take k xs) t
over-shown p xs k t h = λ j. overlaid (take (h.upto_is j) (h.defaults.entries j)) (h.touched_are j)

pub over-itself : (p : Parameters) (xs : Plain) (k : ℕ) (t : Bound) → IsOver p xs k t → IsOver p (plain_in p) p.upto (touched_in p)
over-itself p xs k t h = subst (IsOver p (plain_in p) p.upto) (sym h.touched_are) (subst (λ u. IsOver p (plain_in p) u t) (sym h.upto_is) (subst (λ ys. IsOver p ys k t) (sym h.defaults.entries) h))

pub none-shown : (xs : Plain) (k : ℕ) (t : Bound) → (length xs == 0) ≡ true → overlaid (take k xs) t ≡ []
none-shown [] k t e = none k
  where
    none : (k : ℕ) → overlaid (take k []) t ≡ []
    none zero = refl
    none (suc k) = refl
none-shown (x ∷ xs) k t e = let no : suc (length xs) ≡ 0 = eqb-true (suc (length xs)) 0 e in absurd (omega (arith, no))
