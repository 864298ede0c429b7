-- Entries put behind those of nodes.
use Rattle.std.proofs.Common.{◌≡◌, ◌≢◌, ◌∙◌, ℕ, suc, ◌+◌, ◌<◌, ◌==◌, ◌||◌, Bool, true, false, cond, List, [], ◌∷◌, ◌++◌, map, find, length, get_or, take, append-nil, Option, None, Some, Vec, refl, sym, ap, subst, arith, slice_set, slice_index_or}
use Rattle.std.specs.Global.{Global}
use Rattle.std.specs.List.{list_any}
use Rattle.std.specs.Option.{option_or}
use Rattle.std.proofs.lemmas.Bool.Decides.{nat_tests}
use Rattle.std.proofs.lemmas.List.Folds.{find-append, list_any-append}
use Rattle.std.proofs.lemmas.List.{map-set, get_or-set_same, get_or-set_other, get_or-map, take_more}
use Rattle.rdl_props.specs.Same.{same_prop}
use Rattle.rdl_values.specs.Instances.{Instance}
use Rattle.rdl_assignments.specs.Layers.{IsGiven}
use Rattle.rdl_assignments.specs.declared.set.ValidAssignment.{ValidAssignment}
use Rattle.rdl_layers.specs.Meanings.{Assignment}
use Rattle.rdl_layers.specs.Ranks.{is_related}
use Rattle.rdl_layers.specs.Says.{IsScopeNumber}
use Rattle.rdl_layers.specs.Settings.{Applied, gives}
use Rattle.rdl_layers.specs.declared.rank.Rank.{Rank}
use Rattle.rdl_layers.specs.Tables.{entries_at}
use Rattle.rdl_merge.specs.Merged.{AreEntries, Tells}
use Rattle.rdl_dynamic.specs.Pushed.{PushesAll, PushesAt}
use Rattle.rdl_layers.specs.declared.props.PropSetting.{PropSetting}

items-length : (vs : List (Vec PropSetting Global)) → length (map (λ v. v.items) vs) ≡ length vs
items-length [] = refl
items-length (v ∷ vs) = ap suc (items-length vs)

pub at-place : (vs : List (Vec PropSetting Global)) (k : ℕ) (v : Vec PropSetting Global) → k < length vs → entries_at (slice_set vs k v) k ≡ v.items
at-place vs k v l = ap (λ es. slice_index_or es k []) (map-set (λ (x : Vec PropSetting Global). x.items) vs k v) ∙ get_or-set_same (map (λ (x : Vec PropSetting Global). x.items) vs) k v.items [] (subst (λ n. k < n) (sym (items-length vs)) l)

pub elsewhere : (vs : List (Vec PropSetting Global)) (k j : ℕ) (v : Vec PropSetting Global) → j ≢ k → entries_at (slice_set vs k v) j ≡ entries_at vs j
elsewhere vs k j v d = ap (λ es. slice_index_or es j []) (map-set (λ (x : Vec PropSetting Global). x.items) vs k v) ∙ get_or-set_other (map (λ (x : Vec PropSetting Global). x.items) vs) k j v.items [] d

pub put-here : (all : List Instance) (xs ys : List Applied) (vs : List (Vec PropSetting Global)) (k : ℕ) (old new d : Vec PropSetting Global) → k < length vs → old ≡ get_or vs k d → (AreEntries all old.items xs → AreEntries all new.items (xs ++ (ys ++ [])))
    → AreEntries all (entries_at vs k) xs → AreEntries all (entries_at (slice_set vs k new) k) (xs ++ ys)
put-here all xs ys vs k old new d l e f h =
    let before : entries_at vs k ≡ old.items = get_or-map (λ (x : Vec PropSetting Global). x.items) vs k d [] l ∙ ap (λ v. v.items) (sym e) in
    subst (λ es. AreEntries all es (xs ++ ys)) (sym (at-place vs k new l)) (subst (λ zs. AreEntries all new.items (xs ++ zs)) (append-nil ys) (f (subst (λ es. AreEntries all es xs) before h)))

-- What is given twice is given once.

or-twice : {A : Type 0} (a b : Option A) → option_or (option_or a b) b ≡ option_or a b
or-twice (Some x) b = refl
or-twice None (Some y) = refl
or-twice None None = refl

find-twice : (f : Applied → Bool) (xs ys : List Applied) → find f ((xs ++ ys) ++ ys) ≡ find f (xs ++ ys)
find-twice f xs ys = find-append f (xs ++ ys) ys ∙ ap (λ o. option_or o (find f ys)) (find-append f xs ys) ∙ or-twice (find f xs) (find f ys) ∙ sym (find-append f xs ys)

any-twice : (f : Applied → Bool) (xs ys : List Applied) → list_any f ((xs ++ ys) ++ ys) ≡ list_any f (xs ++ ys)
any-twice f xs ys = list_any-append f (xs ++ ys) ys ∙ ap (λ b. b || list_any f ys) (list_any-append f xs ys) ∙ twice (list_any f xs) (list_any f ys) ∙ sym (list_any-append f xs ys)
  where
    twice : (a b : Bool) → ((a || b) || b) ≡ (a || b)
    twice true b = refl
    twice false true = refl
    twice false false = refl

once : (all : List Instance) (es : List PropSetting) (xs ys : List Applied) → AreEntries all es ((xs ++ ys) ++ ys) → AreEntries all es (xs ++ ys)
once all es xs ys h = record {
  assigned = λ p. h.assigned p ∙ any-twice (λ a. same_prop p a.candidate.prop) xs ys;
  first = λ p. subst (Tells all (find (λ e. is_related p e.prop) es)) (find-twice (λ a. is_related p a.candidate.prop) xs ys) (h.first p);
}

-- Nodes one by one.

any-push : (ks : List ℕ) (k j : ℕ) → list_any (λ i. i == j) (ks ++ (k ∷ [])) ≡ (list_any (λ i. i == j) ks || (k == j))
any-push ks k j = list_any-append (λ i. i == j) ks (k ∷ []) ∙ ap (λ b. list_any (λ i. i == j) ks || b) (or-false (k == j))
  where
    or-false : (b : Bool) → (b || false) ≡ b
    or-false true = refl
    or-false false = refl

pub no-push : (g : ValidAssignment) (body : ℕ) (vs : List (Vec PropSetting Global)) → PushesAll [] g body vs vs
no-push g body vs = record { same_length = refl; pushed = λ all xs judged a rank j l is at h. subst (AreEntries all (entries_at vs j)) (sym (append-nil xs)) h }

pub push-more : (ks : List ℕ) (k : ℕ) (g : ValidAssignment) (body : ℕ) (us vs ws : List (Vec PropSetting Global)) → PushesAll ks g body us vs → PushesAt k g body vs ws → PushesAll (ks ++ (k ∷ [])) g body us ws
push-more ks k g body us vs ws h one = record { same_length = one.same_length ∙ h.same_length; pushed = pushed }
  where
    pushed : (all : List Instance) (xs : List Applied) (judged : ℕ) (a : Assignment) (rank : Rank) (j : ℕ) → j < length us → IsGiven judged g a → IsScopeNumber all a.scope body
        → AreEntries all (entries_at us j) xs → AreEntries all (entries_at ws j) (xs ++ cond (list_any (λ i. i == j) (ks ++ (k ∷ []))) (gives rank a) [])
    pushed all xs judged a rank j l is at old =
        subst (λ b. AreEntries all (entries_at ws j) (xs ++ cond b (gives rank a) [])) (sym (any-push ks k j)) (go (k == j) refl (list_any (λ i. i == j) ks) (h.pushed all xs judged a rank j l is at old))
      where
        there : k ≡ j → (zs : List Applied) → AreEntries all (entries_at vs j) zs → AreEntries all (entries_at ws j) (zs ++ gives rank a)
        there e zs before = subst (λ i. AreEntries all (entries_at ws i) (zs ++ gives rank a)) e (one.here all zs judged a rank (subst (λ n. k < n) (sym h.same_length) (subst (λ i. i < length us) (sym e) l)) is at (subst (λ i. AreEntries all (entries_at vs i) zs) (sym e) before))

        go : (b : Bool) → (k == j) ≡ b → (c : Bool) → AreEntries all (entries_at vs j) (xs ++ cond c (gives rank a) []) → AreEntries all (entries_at ws j) (xs ++ cond (c || b) (gives rank a) [])
        go false e c before = subst (λ b. AreEntries all (entries_at ws j) (xs ++ cond b (gives rank a) [])) (sym (or-no c)) (subst (λ es. AreEntries all es (xs ++ cond c (gives rank a) [])) (sym (one.others j (apart e))) before)
          where
            or-no : (c : Bool) → (c || false) ≡ c
            or-no true = refl
            or-no false = refl

            apart : (k == j) ≡ false → j ≢ k
            apart q = grind (arith, nat_tests)
        go true e false before = there (same e) xs (subst (AreEntries all (entries_at vs j)) (append-nil xs) before)
          where
            same : (k == j) ≡ true → k ≡ j
            same q = grind (arith, nat_tests)
        go true e true before = once all (entries_at ws j) xs (gives rank a) (there (same e) (xs ++ gives rank a) before)
          where
            same : (k == j) ≡ true → k ≡ j
            same q = grind (arith, nat_tests)

pub push-step : (ks : List ℕ) (i d : ℕ) (g : ValidAssignment) (body : ℕ) (us vs ws : List (Vec PropSetting Global)) → i < length ks → PushesAll (take i ks) g body us vs → PushesAt (get_or ks i d) g body vs ws → PushesAll (take (i + 1) ks) g body us ws
push-step ks i d g body us vs ws l h one = subst (λ js. PushesAll js g body us ws) (sym (take_more ks i d l)) (push-more (take i ks) (get_or ks i d) g body us vs ws h one)
