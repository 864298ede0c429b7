-- A group more in the set of those that are listed.
use Rattle.std.proofs.Common.{◌≡◌, ◌∙◌, ℕ, Bool, true, false, not, ◌&&◌, ◌||◌, cond, List, [], ◌∷◌, Vec, Global, bytes_eq, Option, None, Some, option_copied, refl, ap}
use denote.Ref.{Bor}
use Rattle.std.specs.Bool.{OnFalse}
use Rattle.std.specs.BTreeMap.{is_at}
use Rattle.std.specs.BTreeSet.{insert_key}
use Rattle.std.specs.Cmp.Lexicographic.{slice_cmp}
use Rattle.std.specs.List.{list_any}
use Rattle.std.specs.Option.{option_cmp, option_eq}
use Rattle.std.specs.Ordering.{is_eq, match_ordering, nat_cmp, ordering_then}
use Rattle.std.specs.declared.cmp.Ordering.{Ordering}
use Rattle.std.specs.declared.cmp.Ordering.TheVariants.{Less, Equal, Greater}
use Rattle.std.proofs.lemmas.Map.Text.{is_eq-slice_cmp}
use Rattle.plain_lemmas.proofs.Lists.{list_any-alike}
use Rattle.word_groups.specs.Paths.{names_of}
use Rattle.block_effects.specs.Notes.{SaidGroup}
use Rattle.rdl_notes.specs.Groups.{is_like}

or-swap : (a b c : Bool) → (a || (b || c)) ≡ (b || (a || c))
or-swap true true c = refl
or-swap true false c = refl
or-swap false b c = refl

-- what passes a test where a new key is put in
module _ {K : Type 0} (cmp : K → K → Ordering) (p : K → Bool) (k : K) where
  any-insert : (ks : List K) → list_any (is_at (cmp k)) ks ≡ false → list_any p (insert_key cmp ks k) ≡ (p k || list_any p ks)
  any-insert [] new = refl
  any-insert (x ∷ xs) new = go (cmp k x) new (any-insert xs)
    where
      go : (o : Ordering) → (is_eq o || list_any (is_at (cmp k)) xs) ≡ false → (list_any (is_at (cmp k)) xs ≡ false → list_any p (insert_key cmp xs k) ≡ (p k || list_any p xs))
          → list_any p (match_ordering o (k ∷ x ∷ xs) (x ∷ xs) (x ∷ insert_key cmp xs k)) ≡ (p k || (p x || list_any p xs))
      go Less n rest = refl
      go Equal n rest = cc n
      go Greater n rest = ap (λ r. p x || r) (rest n) ∙ or-swap (p x) (p k) (list_any p xs)

-- Keys, in their order.

abbrev Key : Type 0
Key = Vec ℕ Global × Option (Bor (List ℕ)) × Option (Bor (List ℕ))

abbrev text_cmp : Bor (List ℕ) → Bor (List ℕ) → Ordering
text_cmp x y = slice_cmp nat_cmp x.now y.now

abbrev key_cmp : Key → Key → Ordering
key_cmp x y = ordering_then (ordering_then (slice_cmp nat_cmp x.0.items y.0.items) (option_cmp text_cmp x.1 y.1)) (option_cmp text_cmp x.2 y.2)

is_eq-then : (a b : Ordering) → is_eq (ordering_then a b) ≡ (is_eq a && is_eq b)
is_eq-then Less b = refl
is_eq-then Equal b = refl
is_eq-then Greater b = refl

is_eq-option : (a b : Option (Bor (List ℕ))) → is_eq (option_cmp text_cmp a b) ≡ option_eq bytes_eq (option_copied a) (option_copied b)
is_eq-option None None = refl
is_eq-option None (Some y) = refl
is_eq-option (Some x) None = refl
is_eq-option (Some x) (Some y) = is_eq-slice_cmp x.now y.now

and-assoc : (a b c : Bool) → ((a && b) && c) ≡ (a && (b && c))
and-assoc true b c = refl
and-assoc false b c = refl

-- a key is one of this group
abbrev is_key : SaidGroup → Key → Bool
is_key g k = bytes_eq (names_of g.path) k.0.items && (option_eq bytes_eq g.said.name (option_copied k.1) && option_eq bytes_eq g.said.desc (option_copied k.2))

is_at-key : (g : SaidGroup) (k x : Key) → k.0.items ≡ names_of g.path → option_copied k.1 ≡ g.said.name → option_copied k.2 ≡ g.said.desc → is_at (key_cmp k) x ≡ is_key g x
is_at-key g k x path name desc =
    is_eq-then (ordering_then (slice_cmp nat_cmp k.0.items x.0.items) (option_cmp text_cmp k.1 x.1)) (option_cmp text_cmp k.2 x.2)
    ∙ ((λ i. is_eq-then (slice_cmp nat_cmp k.0.items x.0.items) (option_cmp text_cmp k.1 x.1) i && is_eq-option k.2 x.2 i)
    ∙ ((λ i. (is_eq-slice_cmp k.0.items x.0.items i && is_eq-option k.1 x.1 i) && option_eq bytes_eq (option_copied k.2) (option_copied x.2))
    ∙ (and-assoc (bytes_eq k.0.items x.0.items) (option_eq bytes_eq (option_copied k.1) (option_copied x.1)) (option_eq bytes_eq (option_copied k.2) (option_copied x.2))
    ∙ (λ i. bytes_eq (path i) x.0.items && (option_eq bytes_eq (name i) (option_copied x.1) && option_eq bytes_eq (desc i) (option_copied x.2))))))

-- a group of this key
module _ (g : SaidGroup) (k : Key) (path : k.0.items ≡ names_of g.path) (name : option_copied k.1 ≡ g.said.name) (desc : option_copied k.2 ≡ g.said.desc) (keys : List Key) where
  pub found : list_any (is_at (key_cmp k)) keys ≡ list_any (is_key g) keys
  found = list_any-alike (is_at (key_cmp k)) (is_key g) keys (λ x. is_at-key g k x path name desc)

  pub put : (new : Bool) (keys' : List Key) → new ≡ not (list_any (is_at (key_cmp k)) keys) → keys' ≡ insert_key key_cmp keys k → OnFalse new (keys' ≡ keys) → (h : SaidGroup)
      → list_any (is_key h) keys' ≡ cond new (is_like h g || list_any (is_key h) keys) (list_any (is_key h) keys)
  put false keys' e keyed same h = ap (list_any (is_key h)) same
  put true keys' e keyed same h = ap (list_any (is_key h)) keyed ∙ (any-insert key_cmp (is_key h) k keys (none (list_any (is_at (key_cmp k)) keys) e)
      ∙ (λ i. (bytes_eq (names_of h.path) (path i) && (option_eq bytes_eq h.said.name (name i) && option_eq bytes_eq h.said.desc (desc i))) || list_any (is_key h) keys))
    where
      none : (b : Bool) → true ≡ not b → b ≡ false
      none false e = refl
      none true e = cc e
