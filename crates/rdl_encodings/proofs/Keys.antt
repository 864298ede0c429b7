-- Enumerations under keys.
use Rattle.std.proofs.Common.{◌≡◌, ◌∙◌, ℕ, ◌+◌, Bool, true, false, ◌&&◌, cond, nat_eq, bytes_eq, List, [], ◌∷◌, ◌++◌, length, Option, None, Some, refl, sym, ap, subst, arith}
use Rattle.std.specs.Borrow.{Bor}
use Rattle.std.specs.BTreeMap.{get, is_at}
use Rattle.std.specs.Cmp.{tied_then, unsigned_tied}
use Rattle.std.specs.Cmp.Lexicographic.{slice_cmp}
use Rattle.std.specs.List.{position_from}
use Rattle.std.specs.Option.{option_or}
use Rattle.std.specs.Ordering.{is_eq, nat_cmp}
use Rattle.std.proofs.lemmas.List.{length-map, map-append}
use Rattle.std.proofs.lemmas.Map.Text.{is_eq-slice_cmp}
use Rattle.rdl_values.specs.Table.{entries_by}
use Rattle.rdl_values.specs.Values.{EnumOf}
use Rattle.rdl_encodings.specs.Keyed.{AreDistinct, entry_cmp, enum_of_key, is_key_of, key_cmp}
use Rattle.rdl_encodings.specs.Same.{number_in, same_entries, shown, with_one}
use Rattle.rdl_encodings.specs.declared.distinct.Distinct.{Distinct}
use Rattle.rdl_encodings.specs.declared.distinct.EnumKey.{EnumKey}
use Rattle.rdl_encodings.proofs.Same.{absent, at-end, one-enum, position-push, there}

-- The order tells keys apart as the test does.

entry-tied : (x y : Bor (List ℕ) × ℕ) → is_eq (entry_cmp x y) ≡ (bytes_eq x.0.now y.0.now && nat_eq x.1 y.1)
entry-tied x y = sym (tied_then (slice_cmp nat_cmp x.0.now y.0.now) (nat_cmp x.1 y.1)) ∙ (λ i. is_eq-slice_cmp x.0.now y.0.now i && unsigned_tied x.1 y.1 i)

entries-tied : (xs ys : List (Bor (List ℕ) × ℕ)) → is_eq (slice_cmp entry_cmp xs ys) ≡ same_entries (entries_by xs) (entries_by ys)
entries-tied [] [] = refl
entries-tied [] (y ∷ ys) = refl
entries-tied (x ∷ xs) [] = refl
entries-tied (x ∷ xs) (y ∷ ys) = sym (tied_then (entry_cmp x y) (slice_cmp entry_cmp xs ys)) ∙ (λ i. entry-tied x y i && entries-tied xs ys i)

key-tied : (name : List ℕ) (k q : EnumKey) → is_at (key_cmp k) q ≡ is_key_of q (enum_of_key name k)
key-tied name k q = sym (tied_then (nat_cmp k.place q.place) (slice_cmp entry_cmp k.entries.items q.entries.items)) ∙ (λ i. unsigned_tied k.place q.place i && entries-tied k.entries.items q.entries.items i)

-- a key that an enumeration has finds what any key of it finds
same-key : (name : List ℕ) (k q : EnumKey) (ls : List (ℕ × EnumOf)) → is_key_of q (enum_of_key name k) ≡ true → position_from (λ x. is_key_of q x.1) 0 ls ≡ position_from (λ x. is_key_of k x.1) 0 ls
same-key name k q ls t =
    let s = one-enum (enum_of_key name k) (enum_of_key name q) t in
    λ i. position_from (λ (x : ℕ × EnumOf). nat_eq x.1.place (sym s.0 i) && same_entries x.1.entries (sym s.1 i)) 0 ls

pub found : (d : Distinct) (ls : List (ℕ × EnumOf)) (i : ℕ) (name : List ℕ) (k : EnumKey) (n : ℕ) → get key_cmp d.numbers k ≡ Some n → AreDistinct d ls
    → AreDistinct d (with_one ls i (enum_of_key name k)) × (number_in (with_one ls i (enum_of_key name k)) (enum_of_key name k) ≡ Some n)
found d ls i name k n at h =
    let e = enum_of_key name k in
    let number : number_in ls e ≡ Some n = sym (h.numbered k) ∙ at in
    let same = there ls i e n number in
    (subst (AreDistinct d) (sym same) h, ap (λ xs. number_in xs e) same ∙ number)

pub put_in : (old new : Distinct) (ls : List (ℕ × EnumOf)) (i : ℕ) (name : List ℕ) (k : EnumKey) (n : ℕ) → get key_cmp old.numbers k ≡ None → n ≡ length old.list.items
    → new.list.items ≡ old.list.items ++ (shown (i, enum_of_key name k) ∷ []) → ((q : EnumKey) → get key_cmp new.numbers q ≡ cond (is_at (key_cmp k) q) (Some n) (get key_cmp old.numbers q)) → AreDistinct old ls
    → AreDistinct new (with_one ls i (enum_of_key name k)) × (number_in (with_one ls i (enum_of_key name k)) (enum_of_key name k) ≡ Some n)
put_in old new ls i name k n none size pushed updates h =
    (subst (AreDistinct new) (sym longer) all, ap (λ xs. number_in xs e) longer ∙ (at-end ls i e fresh ∙ ap Some (sym long)))
  where
    e : EnumOf
    e = enum_of_key name k

    fresh : number_in ls e ≡ None
    fresh = sym (h.numbered k) ∙ none

    longer : with_one ls i e ≡ ls ++ ((i, e) ∷ [])
    longer = absent ls i e fresh

    long : n ≡ length ls
    long = size ∙ (ap length h.listed ∙ length-map ls shown)

    by : (q : EnumKey) (b : Bool) → is_key_of q e ≡ b → cond b (Some n) (get key_cmp old.numbers q) ≡ option_or (position_from (λ x. is_key_of q x.1) 0 ls) (cond b (Some (0 + length ls)) None)
    by q true t =
        let zero-more : n ≡ 0 + length ls = omega (arith, long) in
        ap Some zero-more ∙ ap (λ o. option_or o (Some (0 + length ls))) (sym (same-key name k q ls t ∙ fresh))
    by q false t = h.numbered q ∙ go (position_from (λ x. is_key_of q x.1) 0 ls)
      where
        go : (o : Option ℕ) → o ≡ option_or o None
        go None = refl
        go (Some m) = refl

    all : AreDistinct new (ls ++ ((i, e) ∷ []))
    all = record {
      listed = pushed ∙ (ap (λ xs. xs ++ (shown (i, e) ∷ [])) h.listed ∙ sym (map-append shown ls ((i, e) ∷ [])));
      numbered = λ q. updates q ∙ (ap (λ b. cond b (Some n) (get key_cmp old.numbers q)) (key-tied name k q) ∙ (by q (is_key_of q e) refl ∙ sym (position-push (λ x. is_key_of q x.1) 0 ls (i, e))));
    }
