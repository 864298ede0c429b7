-- Bodies one after the other.
use Rattle.std.proofs.Common.{◌≡◌, ◌∙◌, ℕ, zero, suc, ◌+◌, ◌<◌, ◌⊎◌, inl, inr, ◌&&◌, List, [], ◌∷◌, ◌++◌, bytes_eq, drop, find, flat_map, get_or, length, nat_lt, Box, Global, Option, None, Some, option_to_list, slice_get, refl, sym, ap, subst, arith, append-nil}
use Rattle.std.proofs.lemmas.List.{drop_more}
use Rattle.std.specs.Option.{option_or}
use Rattle.plain_lemmas.proofs.Lists.{get-end as get-last, get-within, none-beyond as get-past}
use Rattle.plain_lemmas.proofs.Numbers.{below_next-swapped as either}
use Rattle.rdl_tree.specs.declared.expr.Name.{Name}
use Rattle.rdl_values.specs.Values.{Around, EnumOf, Names, visible_enum}
use Rattle.rdl_values.specs.Visible.{enum_before}
use Rattle.rdl_bodies.specs.Sited.{HaveNames, own_names}
use Rattle.rdl_bodies.specs.declared.bodies.Bodies.{Bodies}
use Rattle.rdl_bodies.specs.declared.bodies.Body.{Body}
use Rattle.rdl_facts.specs.Body.{AreEnumsOf, AreKept, IsFound, kept_of, number_in}
use Rattle.rdl_facts.specs.Greatest.{IsGreatest, greatest_at}
use Rattle.rdl_facts.specs.Table.{AreNumbersOf, entries_meant, enums_at}
use Rattle.rdl_facts.specs.declared.body.BodyEnums.{BodyEnums}
use Rattle.rdl_facts.specs.declared.table.EnumNumbers.{EnumNumbers}

-- The first bodies have the enumerations of their names.
abbrev pub AreTo : List (Option (Box BodyEnums Global)) → Bodies → Type 0
AreTo list bodies = (k : ℕ) (x : Body) → k < length list → slice_get bodies.list.items k ≡ Some x → AreKept (kept_of (slice_get list k)) (own_names x)

get-front : {X : Type 0} (xs : List X) (y : X) (k : ℕ) → k < length xs → slice_get (xs ++ (y ∷ [])) k ≡ slice_get xs k
get-front [] y k l = absurd (omega (arith, l))
get-front (z ∷ xs) y zero l = refl
get-front (z ∷ xs) y (suc k) l = get-front xs y k (omega (arith, l))

length-one : {X : Type 0} (xs : List X) (y : X) → length (xs ++ (y ∷ [])) ≡ length xs + 1
length-one [] y = refl
length-one (x ∷ xs) y = let e = length-one xs y in omega (arith, e)

pub to_more : (list : List (Option (Box BodyEnums Global))) (bodies : Bodies) (one : Option (Box BodyEnums Global)) (y : Body) → slice_get bodies.list.items (length list) ≡ Some y → AreKept (kept_of (Some one)) (own_names y) → AreTo list bodies → AreTo (list ++ (one ∷ [])) bodies
to_more list bodies one y at new old k x l here = go (either (length list) k (let e = length-one list one in omega (arith, e, l)))
  where
    go : (k < length list) ⊎ (k ≡ length list) → AreKept (kept_of (slice_get (list ++ (one ∷ [])) k)) (own_names x)
    go (inl low) = subst (λ o. AreKept (kept_of o) (own_names x)) (sym (get-front list one k low)) (old k x low here)
    go (inr e) =
        let both : Some y ≡ Some x = sym at ∙ ap (slice_get bodies.list.items) (sym e) ∙ here in
        let same : y ≡ x = cc in
        subst (λ o. AreKept (kept_of o) (own_names x)) (sym (get-last list one k e)) (subst (λ z. AreKept (kept_of (Some one)) (own_names z)) same new)

pub to_all : (t : EnumNumbers) (bodies : Bodies) → slice_get bodies.list.items (length t.bodies.items) ≡ None → AreTo t.bodies.items bodies → AreNumbersOf t bodies
to_all t bodies past to = record { each = λ k x here. let l = get-within bodies.list.items k x here in let m = get-past bodies.list.items (length t.bodies.items) past in to k x (omega (arith, l, m)) here }

-- The bodies that are left are seen where the nearer ones have no enumeration of the name.
abbrev pub IsLeft : EnumNumbers → List ℕ → Name → ℕ → Type 0
IsLeft t numbers n i = (bodies : Bodies) (around : Around) → AreNumbersOf t bodies → HaveNames bodies.list.items numbers around → (rest : Around) × HaveNames bodies.list.items (drop i numbers) rest × (visible_enum around n ≡ visible_enum rest n)

-- What is nearest of those that are left.
record Nearest (t : EnumNumbers) (bodies : Bodies) (ks : List ℕ) (k : ℕ) (around : Around) (n : Name) : Type 0 where
  names : Names
  rest : Around
  are : AreKept (enums_at t k) names
  named : HaveNames bodies.list.items ks rest
  seen : visible_enum around n ≡ option_or (enum_before n names) (visible_enum rest n)

nearest-in : (t : EnumNumbers) (bodies : Bodies) (k : ℕ) (ks : List ℕ) (around left : Around) (n : Name) → AreNumbersOf t bodies → HaveNames bodies.list.items (k ∷ ks) left → visible_enum around n ≡ visible_enum left n → Nearest t bodies ks k around n
nearest-in t bodies k ks around [] n are named seen = absurd named
nearest-in t bodies k ks around (names ∷ rest) n are named seen =
    record { names = names; rest = rest; are = subst (AreKept (enums_at t k)) named.0.names_are (are.each k named.0.body named.0.here); named = named.1; seen = seen }

next-in : (t : EnumNumbers) (numbers : List ℕ) (n : Name) (i d : ℕ) → i < length numbers → IsLeft t numbers n i → (bodies : Bodies) (around : Around) → AreNumbersOf t bodies → HaveNames bodies.list.items numbers around → Nearest t bodies (drop (i + 1) numbers) (get_or numbers i d) around n
next-in t numbers n i d l left bodies around are named =
    let h = left bodies around are named in
    nearest-in t bodies (get_or numbers i d) (drop (i + 1) numbers) around h.0 n are (subst (λ ks. HaveNames bodies.list.items ks h.0) (drop_more numbers i d l) h.1) h.2

-- the number of the enumeration that a name means in a body, if it has any
abbrev pub number_of : Option BodyEnums → Name → Option ℕ
number_of None n = None
number_of (Some b) n = number_in b n

unfound : (b : BodyEnums) (o : Option EnumOf) → IsFound b None o → o ≡ None
unfound b None h = refl
unfound b (Some e) h = absurd h

none-before : (o : Option BodyEnums) (names : Names) (n : Name) → AreKept o names → number_of o n ≡ None → enum_before n names ≡ None
none-before None names n are none = ap (find (λ (e : EnumOf). bytes_eq e.name n.text.now && nat_lt e.place n.place.0)) are
none-before (Some b) names n are none = unfound b (enum_before n names) (subst (λ p. IsFound b p (enum_before n names)) none (are.found n))

one-seen : (b : BodyEnums) (p : ℕ) (around rest : Around) (n : Name) (o : Option EnumOf) → visible_enum around n ≡ option_or o (visible_enum rest n) → IsFound b (Some p) o → IsGreatest (greatest_at b.greatest p) (entries_meant around n)
one-seen b p around rest n None seen h = absurd h
one-seen b p around rest n (Some e) seen h = subst (IsGreatest (greatest_at b.greatest p)) (sym (ap (λ o. flat_map (λ (e : EnumOf). e.entries) (option_to_list o)) seen ∙ append-nil e.entries)) h

-- The body has no enumeration that is meant.
pub left_more : (t : EnumNumbers) (numbers : List ℕ) (n : Name) (i d : ℕ) (o : Option BodyEnums) → i < length numbers → enums_at t (get_or numbers i d) ≡ o → number_of o n ≡ None → IsLeft t numbers n i → IsLeft t numbers n (i + 1)
left_more t numbers n i d o l here none left bodies around are named =
    let near = next-in t numbers n i d l left bodies around are named in
    let unseen = none-before o near.names n (subst (λ y. AreKept y near.names) here near.are) none in
    (near.rest, near.named, near.seen ∙ ap (λ y. option_or y (visible_enum near.rest n)) unseen)

-- It has one.
pub meant_here : (t : EnumNumbers) (numbers : List ℕ) (n : Name) (i d : ℕ) (b : BodyEnums) (p : ℕ) → i < length numbers → enums_at t (get_or numbers i d) ≡ Some b → number_in b n ≡ Some p → IsLeft t numbers n i
    → (bodies : Bodies) (around : Around) → AreNumbersOf t bodies → HaveNames bodies.list.items numbers around → IsGreatest (greatest_at b.greatest p) (entries_meant around n)
meant_here t numbers n i d b p l here place left bodies around are named =
    let near = next-in t numbers n i d l left bodies around are named in
    let kept : AreEnumsOf b near.names = subst (λ y. AreKept y near.names) here near.are in
    let found : IsFound b (Some p) (enum_before n near.names) = subst (λ o. IsFound b o (enum_before n near.names)) place (kept.found n) in
    one-seen b p around near.rest n (enum_before n near.names) near.seen found
