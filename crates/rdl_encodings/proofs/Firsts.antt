-- Fields one by one, and the enumerations that are new with each.
use Rattle.std.proofs.Common.{◌≡◌, ◌∙◌, ℕ, Bool, true, false, not, ◌||◌, cond, List, [], ◌∷◌, ◌++◌, append-nil, append_assoc, length, filter, flat_map, map, Option, None, Some, option_to_list, refl, sym, ap}
use Rattle.std.specs.List.{list_any}
use Rattle.std.proofs.lemmas.Grind.{flat_map-append}
use Rattle.plain_lemmas.proofs.Lists.{list_any-alike, list_any-append}
use Rattle.rdl_values.specs.Bodies.{standing_from}
use Rattle.rdl_values.specs.Instances.{Instance}
use Rattle.rdl_values.specs.Values.{EnumOf}
use Rattle.rdl_encodings.specs.Encoded.{encoded_by, first_by, firsts, is_encoded_by}
use Rattle.rdl_encodings.specs.Same.{same_enum, with_one}
use Rattle.rdl_encodings.proofs.Same.{alike-right}

standing-push : {X : Type 0} (before xs : List X) (x : X) → standing_from before (xs ++ (x ∷ [])) ≡ standing_from before xs ++ ((before ++ xs, x) ∷ [])
standing-push before [] x = ap (λ b. (b, x) ∷ []) (sym (append-nil before))
standing-push before (y ∷ ys) x = ap (λ l. (before, y) ∷ l) (standing-push (before ++ (y ∷ [])) ys x ∙ ap (λ b. standing_from (before ++ (y ∷ [])) ys ++ ((b, x) ∷ [])) (append_assoc before (y ∷ []) ys))

firsts-push : (fs : List Instance) (f : Instance) → firsts (fs ++ (f ∷ [])) ≡ firsts fs ++ first_by (fs, f)
firsts-push fs f =
    ap (flat_map first_by) (standing-push [] fs f)
    ∙ (flat_map-append first_by (standing_from [] fs) ((fs, f) ∷ []) ∙ ap (λ xs. firsts fs ++ xs) (append-nil (first_by (fs, f))))

-- Which of these is encoded by an enumeration.

-- the same tests tell of one enumeration
encoded-alike : (d e : EnumOf) (b : List Instance) → same_enum d e ≡ true → list_any (is_encoded_by d) b ≡ list_any (is_encoded_by e) b
encoded-alike d e b t = list_any-alike (is_encoded_by d) (is_encoded_by e) b (λ f. list_any-alike (λ c. same_enum c d) (λ c. same_enum c e) (option_to_list (encoded_by f)) (λ c. alike-right d e c t))

or-false : (b : Bool) → (b || false) ≡ b
or-false true = refl
or-false false = refl

moved : (s r b : Bool) → ((s || false) || r) || b ≡ r || (b || ((s || false) || false))
moved true true true = refl
moved true true false = refl
moved true false true = refl
moved true false false = refl
moved false true b = refl
moved false false true = refl
moved false false false = refl

stayed : (s r b : Bool) → (s ≡ true → b ≡ true) → r || b ≡ r || (b || ((s || false) || false))
stayed s true b h = refl
stayed s false true h = refl
stayed true false false h = h refl
stayed false false false h = refl

none-more : (r b : Bool) → r || b ≡ r || (b || (false || false))
none-more true b = refl
none-more false true = refl
none-more false false = refl

or-assoc : (a b c : Bool) → (a || b) || c ≡ a || (b || c)
or-assoc true b c = refl
or-assoc false b c = refl

module _ (e : EnumOf) where
  abbrev known : List (ℕ × EnumOf) → Bool
  known ls = list_any (λ x. same_enum x.1 e) ls

  one-more : (b : List Instance) (f : Instance) (r : Bool) → (known (first_by (b, f)) || r) || list_any (is_encoded_by e) b ≡ r || (list_any (is_encoded_by e) b || (is_encoded_by e f || false))
  one-more b f r = go (encoded_by f)
    where
      here : (d : EnumOf) (t : Bool) → list_any (is_encoded_by d) b ≡ t
          → (known (map (λ e. (length b, e)) (cond (not t) (d ∷ []) [])) || r) || list_any (is_encoded_by e) b ≡ r || (list_any (is_encoded_by e) b || ((same_enum d e || false) || false))
      here d false q = moved (same_enum d e) r (list_any (is_encoded_by e) b)
      here d true q = stayed (same_enum d e) r (list_any (is_encoded_by e) b) (λ t. sym (encoded-alike d e b t) ∙ q)

      go : (o : Option EnumOf) → (known (map (λ e. (length b, e)) (filter (λ d. not (list_any (is_encoded_by d) b)) (option_to_list o))) || r) || list_any (is_encoded_by e) b ≡ r || (list_any (is_encoded_by e) b || (list_any (λ d. same_enum d e) (option_to_list o) || false))
      go None = none-more r (list_any (is_encoded_by e) b)
      go (Some d) = here d (list_any (is_encoded_by d) b) refl

  all-known : (b fs : List Instance) → known (flat_map first_by (standing_from b fs)) || list_any (is_encoded_by e) b ≡ list_any (is_encoded_by e) (b ++ fs)
  all-known b [] = ap (list_any (is_encoded_by e)) (sym (append-nil b))
  all-known b (f ∷ fs) =
      let rest = flat_map first_by (standing_from (b ++ (f ∷ [])) fs) in
      ap (λ k. k || list_any (is_encoded_by e) b) (list_any-append (λ x. same_enum x.1 e) (first_by (b, f)) rest)
      ∙ (one-more b f (known rest)
      ∙ (ap (λ k. known rest || k) (sym (list_any-append (is_encoded_by e) b (f ∷ [])))
      ∙ (all-known (b ++ (f ∷ [])) fs ∙ ap (list_any (is_encoded_by e)) (append_assoc b (f ∷ []) fs))))

  -- the enumeration is among these exactly where a field is encoded by it
  pub known-first : (fs : List Instance) → known (firsts fs) ≡ list_any (is_encoded_by e) fs
  known-first fs = sym (or-false (known (firsts fs))) ∙ all-known [] fs

-- One more field.

pub firsts-none : (fs : List Instance) (f : Instance) → encoded_by f ≡ None → firsts (fs ++ (f ∷ [])) ≡ firsts fs
firsts-none fs f q =
    firsts-push fs f
    ∙ (ap (λ o. firsts fs ++ map (λ e. (length fs, e)) (filter (λ e. not (list_any (is_encoded_by e) fs)) (option_to_list o))) q ∙ append-nil (firsts fs))

pub firsts-one : (fs : List Instance) (f : Instance) (e : EnumOf) → encoded_by f ≡ Some e → firsts (fs ++ (f ∷ [])) ≡ with_one (firsts fs) (length fs) e
firsts-one fs f e q =
    firsts-push fs f
    ∙ (ap (λ o. firsts fs ++ map (λ e. (length fs, e)) (filter (λ e. not (list_any (is_encoded_by e) fs)) (option_to_list o))) q
    ∙ (go (list_any (is_encoded_by e) fs) ∙ ap (λ b. cond b (firsts fs) (firsts fs ++ ((length fs, e) ∷ []))) (sym (known-first e fs))))
  where
    go : (b : Bool) → firsts fs ++ map (λ e. (length fs, e)) (cond (not b) (e ∷ []) []) ≡ cond b (firsts fs) (firsts fs ++ ((length fs, e) ∷ []))
    go true = append-nil (firsts fs)
    go false = refl
