-- Bodies one after the other.
use Rattle.std.proofs.Common.{◌≡◌, ◌∙◌, ℕ, zero, suc, ◌+◌, ◌<◌, ◌≤◌, ◌⊎◌, inl, inr, List, [], ◌∷◌, ◌++◌, drop, get_or, length, None, Some, option_map, slice_get, refl, sym, ap, subst, arith}
use Rattle.std.proofs.lemmas.List.{drop_more}
use Rattle.std.specs.Option.{option_or}
use Rattle.plain_lemmas.proofs.Lists.{get-end as get-last, get-front, get-within, length-append, none-beyond as get-past}
use Rattle.plain_lemmas.proofs.Numbers.{below_next-swapped as either}
use Rattle.rdl_tree.specs.declared.expr.Name.{Name}
use Rattle.rdl_values.specs.Values.{Around, Names, visible_enum}
use Rattle.rdl_values.specs.Visible.{enum_before}
use Rattle.rdl_bodies.specs.Sited.{HaveNames, own_names}
use Rattle.rdl_bodies.specs.declared.bodies.Bodies.{Bodies}
use Rattle.rdl_bodies.specs.declared.bodies.Body.{Body}
use Rattle.rdl_encodings.specs.Body.{AreEnumsOf, number_in, under}
use Rattle.rdl_encodings.specs.Enums.{AreEnumsOfBodies, enum_at, enum_found}
use Rattle.rdl_encodings.specs.declared.body.BodyEnums.{BodyEnums}
use Rattle.rdl_encodings.specs.declared.enums.Enums.{Enums}

-- The first bodies have the enumerations of their names.
abbrev pub AreTo : List BodyEnums → Bodies → Type 0
AreTo list bodies = (k : ℕ) (x : Body) → k < length list → slice_get bodies.list.items k ≡ Some x → (b : BodyEnums) × (slice_get list k ≡ Some b) × AreEnumsOf b (own_names x)

pub to_more : (list : List BodyEnums) (bodies : Bodies) (one : BodyEnums) (y : Body) → slice_get bodies.list.items (length list) ≡ Some y → AreEnumsOf one (own_names y) → AreTo list bodies → AreTo (list ++ (one ∷ [])) bodies
to_more list bodies one y at new old k x l here = let long = length-append list (one ∷ []) in go (either (length list) k (omega (arith, l, long)))
  where
    go : (k < length list) ⊎ (k ≡ length list) → (b : BodyEnums) × (slice_get (list ++ (one ∷ [])) k ≡ Some b) × AreEnumsOf b (own_names x)
    go (inl low) = let b = old k x low here in (b.0, get-front list (one ∷ []) k b.0 b.1, b.2)
    go (inr e) =
        let both : Some y ≡ Some x = sym at ∙ ap (slice_get bodies.list.items) (sym e) ∙ here in
        let same : y ≡ x = cc in
        (one, get-last list one k e, subst (λ z. AreEnumsOf one (own_names z)) same new)

pub to_all : (t : Enums) (bodies : Bodies) → slice_get bodies.list.items (length t.bodies.items) ≡ None → AreTo t.bodies.items bodies → AreEnumsOfBodies t bodies
to_all t bodies past to = record { each = λ k x here. let l = get-within bodies.list.items k x here in let m = get-past bodies.list.items (length t.bodies.items) past in to k x (omega (arith, l, m)) here }

-- The bodies that are left are seen where the nearer ones have no enumeration of the name.
abbrev pub IsLeft : Enums → List ℕ → Name → ℕ → Type 0
IsLeft t numbers n i = (bodies : Bodies) (around : Around) → AreEnumsOfBodies t bodies → HaveNames bodies.list.items numbers around → (rest : Around) × HaveNames bodies.list.items (drop i numbers) rest × (visible_enum around n ≡ visible_enum rest n)

-- What is nearest of those that are left.
record Nearest (t : Enums) (bodies : Bodies) (ks : List ℕ) (k : ℕ) (around : Around) (n : Name) : Type 0 where
  names : Names
  rest : Around
  body : BodyEnums
  here : slice_get t.bodies.items k ≡ Some body
  are : AreEnumsOf body names
  named : HaveNames bodies.list.items ks rest
  seen : visible_enum around n ≡ option_or (enum_before n names) (visible_enum rest n)

nearest-in : (t : Enums) (bodies : Bodies) (k : ℕ) (ks : List ℕ) (around left : Around) (n : Name) → AreEnumsOfBodies t bodies → HaveNames bodies.list.items (k ∷ ks) left → visible_enum around n ≡ visible_enum left n → Nearest t bodies ks k around n
nearest-in t bodies k ks around [] n are named seen = absurd named
nearest-in t bodies k ks around (names ∷ rest) n are named seen =
    let h = are.each k named.0.body named.0.here in
    record { names = names; rest = rest; body = h.0; here = h.1; are = subst (AreEnumsOf h.0) named.0.names_are h.2; named = named.1; seen = seen }

next-in : (t : Enums) (numbers : List ℕ) (n : Name) (i d : ℕ) → i < length numbers → IsLeft t numbers n i → (bodies : Bodies) (around : Around) → AreEnumsOfBodies t bodies → HaveNames bodies.list.items numbers around → Nearest t bodies (drop (i + 1) numbers) (get_or numbers i d) around n
next-in t numbers n i d l left bodies around are named =
    let h = left bodies around are named in
    nearest-in t bodies (get_or numbers i d) (drop (i + 1) numbers) around h.0 n are (subst (λ ks. HaveNames bodies.list.items ks h.0) (drop_more numbers i d l) h.1) h.2

pub no_body : (t : Enums) (numbers : List ℕ) (n : Name) (i d : ℕ) → i < length numbers → IsLeft t numbers n i → slice_get t.bodies.items (get_or numbers i d) ≡ None → (bodies : Bodies) (around : Around) → AreEnumsOfBodies t bodies → HaveNames bodies.list.items numbers around → ⊥
no_body t numbers n i d l left none bodies around are named =
    let near = next-in t numbers n i d l left bodies around are named in
    let both : Some near.body ≡ None = sym near.here ∙ none in
    cc

-- The body has no enumeration that is meant.
pub left_more : (t : Enums) (numbers : List ℕ) (n : Name) (i d : ℕ) (b : BodyEnums) → i < length numbers → slice_get t.bodies.items (get_or numbers i d) ≡ Some b → number_in b n ≡ None → IsLeft t numbers n i → IsLeft t numbers n (i + 1)
left_more t numbers n i d b l here none left bodies around are named =
    let near = next-in t numbers n i d l left bodies around are named in
    let both : Some near.body ≡ Some b = sym near.here ∙ here in
    let same : near.body ≡ b = cc in
    let found : enum_before n near.names ≡ None = near.are.found n ∙ ap (option_map (λ k. under n.text.now (slice_get near.body.list.now k))) (ap (λ y. number_in y n) same ∙ none) in
    (near.rest, near.named, near.seen ∙ ap (λ o. option_or o (visible_enum near.rest n)) found)

-- It has one.
pub meant_here : (t : Enums) (numbers : List ℕ) (n : Name) (i d : ℕ) (b : BodyEnums) (p : ℕ) → i < length numbers → slice_get t.bodies.items (get_or numbers i d) ≡ Some b → number_in b n ≡ Some p → IsLeft t numbers n i
    → (bodies : Bodies) (around : Around) → AreEnumsOfBodies t bodies → HaveNames bodies.list.items numbers around → visible_enum around n ≡ Some (enum_found t n.text.now (get_or numbers i d, p))
meant_here t numbers n i d b p l here place left bodies around are named =
    let near = next-in t numbers n i d l left bodies around are named in
    let both : Some near.body ≡ Some b = sym near.here ∙ here in
    let same : near.body ≡ b = cc in
    let found : enum_before n near.names ≡ Some (under n.text.now (slice_get b.list.now p)) = near.are.found n ∙ ((λ j. option_map (λ k. under n.text.now (slice_get (same j).list.now k)) (number_in (same j) n)) ∙ ap (option_map (λ k. under n.text.now (slice_get b.list.now k))) place) in
    near.seen ∙ (ap (λ o. option_or o (visible_enum near.rest n)) found ∙ ap (λ o. Some (under n.text.now (enum_at o p))) (sym here))

-- No body is left.
pub none_left : (t : Enums) (numbers : List ℕ) (n : Name) (i : ℕ) → length numbers ≤ i → IsLeft t numbers n i → (bodies : Bodies) (around : Around) → AreEnumsOfBodies t bodies → HaveNames bodies.list.items numbers around → visible_enum around n ≡ None
none_left t numbers n i l left bodies around are named =
    let h = left bodies around are named in
    h.2 ∙ go h.0 (subst (λ ks. HaveNames bodies.list.items ks h.0) (past numbers i l) h.1)
  where
    past : (ks : List ℕ) (i : ℕ) → length ks ≤ i → drop i ks ≡ []
    past [] zero l = refl
    past [] (suc i) l = refl
    past (k ∷ ks) zero l = absurd (omega (arith, l))
    past (k ∷ ks) (suc i) l = past ks i (omega (arith, l))

    go : (rest : Around) → HaveNames bodies.list.items [] rest → visible_enum rest n ≡ None
    go [] h = refl
    go (names ∷ rest) h = absurd h
