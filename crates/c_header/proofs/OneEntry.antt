-- Each word has one entry alone.
use Rattle.std.proofs.Common.{◌≡◌, ◌∙◌, ◌⊎◌, inl, inr, ℕ, zero, suc, ◌+◌, Bool, true, false, cond, nat_lt, List, [], ◌∷◌, ◌++◌, flat_map, length, map, Some, slice_get, refl, sym, ap, subst, arith}
use Rattle.rb_model.specs.declared.block.Block.{Block}
use Rattle.rb_model.specs.declared.block.Word.{Word}
use Rattle.rb_model.specs.References.{Each}
use Rattle.rb_model.specs.Sound.{IsSound}
use Rattle.rb_model.proofs.Apart.{Apart-place}
use Rattle.rb_model.proofs.Eachs.{Each-at}
use Rattle.word_groups.specs.declared.entries.Entry.{Entry}
use Rattle.word_groups.specs.Arrays.{as_array, entries, entries_of, groups, is_array}
use Rattle.word_groups.specs.Entries.{path_of, singles}
use Rattle.word_groups.specs.Paths.{names_of}
use Rattle.c_header.specs.Laws.{Has, IsEntryOf}
use Rattle.c_header.proofs.Telling.{AreTold}
use Rattle.c_header.specs.Macros.{stands_for_array}
use Rattle.c_header.proofs.Keys.{IsGroup, IsSingle, all-keys, block-groups, entries-apart, entry_key, group_key, key_of_group, of-group}
use Rattle.plain_lemmas.proofs.Lists.{get-map_at}
use Rattle.plain_lemmas.proofs.Numbers.{below-nat_lt}

-- the part that an element of a flattened list is in
record Within {X Y : Type 0} (f : X → List Y) (xs : List X) (y : Y) : Type 0 where
  place : ℕ
  part : X
  at : slice_get xs place ≡ Some part
  has : Has (f part) y

in-front : {X : Type 0} (xs ys : List X) (k : ℕ) (y : X) → slice_get (xs ++ ys) k ≡ Some y → Has xs y ⊎ Has ys y
in-front [] ys k y e = inr (k, e)
in-front (x ∷ xs) ys zero y e = inl (0, e)
in-front {X = X} (x ∷ xs) ys (suc k) y e = go (in-front xs ys k y e)
  where
    go : Has xs y ⊎ Has ys y → Has (x ∷ xs) y ⊎ Has ys y
    go (inl h) = inl (suc h.0, h.1)
    go (inr h) = inr h

within : {X Y : Type 0} (f : X → List Y) (xs : List X) (k : ℕ) (y : Y) → slice_get (flat_map f xs) k ≡ Some y → Within f xs y
within f [] k y e = cc e
within {X = X} {Y = Y} f (x ∷ xs) k y e = go (λ h. within f xs h.0 y h.1) (in-front (f x) (flat_map f xs) k y e)
  where
    go : (Has (flat_map f xs) y → Within f xs y) → Has (f x) y ⊎ Has (flat_map f xs) y → Within f (x ∷ xs) y
    go more (inl h) = record { place = 0; part = x; at = refl; has = h }
    go more (inr h) = let w = more h in record { place = suc w.place; part = w.part; at = w.at; has = w.has }

-- what an entry's key is, for the word that it is of
word-key : (b : Block) (w : Word) (e : Entry) → IsEntryOf b w e → entry_key e ≡ cond (stands_for_array e) 97 120 ∷ w.number ∷ cond (stands_for_array e) (names_of (path_of b w)) (path_of b w)
word-key b w e is = go (stands_for_array e) refl
  where
    none : (xs : List ℕ) → nat_lt 0 (length xs) ≡ false → xs ≡ []
    none [] t = refl
    none (x ∷ xs) t = let bad : true ≡ false = sym (below-nat_lt 0 (length (x ∷ xs)) (omega arith)) ∙ t in cc bad

    go : (c : Bool) → stands_for_array e ≡ c → cond c 97 120 ∷ e.number ∷ cond c (names_of e.path) e.path ≡ cond c 97 120 ∷ w.number ∷ cond c (names_of (path_of b w)) (path_of b w)
    go true t = let number = is.number in let names = is.names in λ i. 97 ∷ number i ∷ names i
    go false t = let number = is.number in let path = is.alone (none e.strides t) in λ i. 120 ∷ number i ∷ path i

group-of : (b : Block) (w : Word) (e : Entry) → IsEntryOf b w e → key_of_group (entry_key e) ≡ w.number ∷ names_of (path_of b w)
group-of b w e is = ap key_of_group (word-key b w e is) ∙ go (stands_for_array e)
  where
    go : (c : Bool) → key_of_group (cond c 97 120 ∷ w.number ∷ cond c (names_of (path_of b w)) (path_of b w)) ≡ w.number ∷ names_of (path_of b w)
    go true = refl
    go false = refl

module _ (b : Block) (s : IsSound b) (a : AreTold b) where
  -- entries of one group stand for arrays, or none does
  alike : (g : List Entry) → IsGroup (IsSingle b) [] g → (d e : Entry) → Has (entries_of g) d → Has (entries_of g) e → stands_for_array d ≡ stands_for_array e
  alike [] h d e x y = cc x.1
  alike (u ∷ us) h d e x y = go (is_array u (u ∷ us)) x y
    where
      only : (v f : Entry) → Has (v ∷ []) f → v ≡ f
      only v f (zero, q) = let same : v ≡ f = cc q in same
      only v f (suc k, q) = cc q

      plain : (f : Entry) → Has (u ∷ us) f → stands_for_array f ≡ false
      plain f (k, q) = let is = Each-at (IsSingle b) (u ∷ us) k f h.are q in subst (λ (v : Entry). stands_for_array v ≡ false) (sym is.2) refl

      go : (c : Bool) → Has (cond c (as_array u (u ∷ us) ∷ []) (u ∷ us)) d → Has (cond c (as_array u (u ∷ us) ∷ []) (u ∷ us)) e → stands_for_array d ≡ stands_for_array e
      go true x y = ap stands_for_array (sym (only (as_array u (u ∷ us)) d x) ∙ only (as_array u (u ∷ us)) e y)
      go false x y = plain d x ∙ sym (plain e y)

  pub one_alone : (w : Word) (j k : ℕ) (d e : Entry) → slice_get (entries b) j ≡ Some d → slice_get (entries b) k ≡ Some e → IsEntryOf b w d → IsEntryOf b w e → j ≡ k
  one_alone w j k d e x y is_d is_e =
      let gs = groups (singles b) in
      let in_d = within entries_of gs j d x in
      let in_e = within entries_of gs k e y in
      let good = block-groups b a s in
      let g_d = Each-at (IsGroup (IsSingle b) []) gs in_d.place in_d.part good in_d.at in
      let g_e = Each-at (IsGroup (IsSingle b) []) gs in_e.place in_e.part good in_e.at in
      let key_d = Each-at (λ f. key_of_group (entry_key f) ≡ group_key in_d.part) (entries_of in_d.part) in_d.has.0 d (of-group b a in_d.part g_d).keyed in_d.has.1 in
      let key_e = Each-at (λ f. key_of_group (entry_key f) ≡ group_key in_e.part) (entries_of in_e.part) in_e.has.0 e (of-group b a in_e.part g_e).keyed in_e.has.1 in
      let one : group_key in_d.part ≡ group_key in_e.part = sym key_d ∙ group-of b w d is_d ∙ sym (group-of b w e is_e) ∙ key_e in
      let place : in_d.place ≡ in_e.place = Apart-place (map group_key gs) in_d.place in_e.place (group_key in_e.part) (all-keys [] (singles b) tt)
      (get-map_at group_key gs in_d.place in_d.part in_d.at ∙ ap Some one) (get-map_at group_key gs in_e.place in_e.part in_e.at) in
      let groups_same : Some in_d.part ≡ Some in_e.part = sym in_d.at ∙ ap (slice_get gs) place ∙ in_e.at in
      let group : in_d.part ≡ in_e.part = cc groups_same in
      let stands : stands_for_array d ≡ stands_for_array e = alike in_e.part g_e d e (subst (λ (g : List Entry). Has (entries_of g) d) group in_d.has) in_e.has in
      let keys : entry_key d ≡ entry_key e = word-key b w d is_d
      ∙ ap (λ c. cond c 97 120 ∷ w.number ∷ cond c (names_of (path_of b w)) (path_of b w)) stands ∙ sym (word-key b w e is_e) in
      Apart-place (map entry_key (entries b)) j k (entry_key e) (entries-apart b a s) (get-map_at entry_key (entries b) j d x ∙ ap Some keys) (get-map_at entry_key (entries b) k e y)
