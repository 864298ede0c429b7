-- The macros of enumerators: no two have one name, and each has its value.
use Rattle.std.proofs.Common.{◌≡◌, ◌∙◌, ⊎_elim, ℕ, ◌≤◌, ◌==◌, Bool, true, false, bytes_eq, count_by, List, [], ◌∷◌, ◌++◌, append_assoc, codes, flat_map, get_or, map, Option, Some, slice_get, refl, sym, ap, subst}
use Rattle.std.specs.Option.{option_map_or}
use Rattle.std.proofs.lemmas.List.{append_cancel_left}
use Rattle.encodings.specs.Encodings.{Enumeration}
use Rattle.rb_model.specs.declared.block.Block.{Block}
use Rattle.rb_model.specs.declared.block.Field.{Field}
use Rattle.rb_model.specs.References.{Each}
use Rattle.rb_model.specs.Sound.{IsSound}
use Rattle.rb_model.proofs.Apart.{Apart, Apart-flat_map, Apart-from, Apart-kinds, Apart-place, distinct-from}
use Rattle.rb_model.proofs.Eachs.{Each-at, Each-flat_map}
use Rattle.rb_model.proofs.OwnViews.{both_true}
use Rattle.v_design.specs.WellFormed.{distinct}
use Rattle.word_groups.specs.Arrays.{entries}
use Rattle.c_header.specs.Enumerators.{Enumerator, all_macros, enumeration_macros, enumerator_base, enumerator_exact, enumerator_macro, enumerator_name, enumerator_naturals, enumerator_path, own_macros, own_naturals, user_path}
use Rattle.c_header.specs.Laws.{AreApart, Has, IsEnumerated}
use Rattle.c_header.specs.Macros.{Macro, macros, value_at}
use Rattle.c_header.specs.Names.{exact, name_among, natural, prefix, spelled}
use Rattle.c_header.proofs.Capitals.{exact-low, high, low-front, natural-high, prefix-high}
use Rattle.c_header.proofs.Counts.{one-at, only-at, only-part, within-part}
use Rattle.c_header.proofs.Decoded.{has-behind, has-flat, has-map}
use Rattle.c_header.proofs.Differing.{IsOther, all_apart, all_other, name_of}
use Rattle.c_header.proofs.Keys.{apart-by, each-by}
use Rattle.c_header.proofs.LastWords.{lacks, last-split}
use Rattle.c_header.proofs.Named.{named-alike, part_behind, reads-name}
use Rattle.c_header.proofs.Spellings.{read, read-front}
use Rattle.c_header.proofs.Telling.{AreTold, told}
use Rattle.rb_model.specs.Apart.{IsApart}
use Rattle.plain_lemmas.proofs.Lists.{bytes_eq-itself, cons-head, cons-tail, get-map_at, get-mapped, map-append, map-flat_map as map-flat, some-at}

-- Exact names.

joined : (begin path name : List ℕ) → enumerator_exact begin path name ≡ begin ++ 95 ∷ 101 ∷ (spelled path ++ part_behind name)
joined begin path name = append_assoc (exact begin 101 path) (codes "_1") (spelled name) ∙ append_assoc begin (95 ∷ 101 ∷ spelled path) (part_behind name)

reads-both : (path name : List ℕ) → read false (spelled path ++ part_behind name) ≡ path ++ 36 ∷ name
reads-both path name = read-front path (part_behind name) ∙ ap (λ r. path ++ r) (reads-name name)

one-exact : (begin p q x y : List ℕ) → lacks 36 x ≡ true → lacks 36 y ≡ true → enumerator_exact begin p x ≡ enumerator_exact begin q y → (p ≡ q) × (x ≡ y)
one-exact begin p q x y lx ly h =
    let u = spelled p ++ part_behind x in
    let v = spelled q ++ part_behind y in
    let all = append_cancel_left begin (95 ∷ 101 ∷ u) (95 ∷ 101 ∷ v) (sym (joined begin p x) ∙ h ∙ joined begin q y) in
    let spelled_alike : u ≡ v = cons-tail 101 101 u v (cons-tail 95 95 (101 ∷ u) (101 ∷ v) all) in
    last-split 36 p q x y lx ly (sym (reads-both p x) ∙ ap (read false) spelled_alike ∙ reads-both q y)

exact-is_low : (begin path name : List ℕ) → high (enumerator_exact begin path name) ≡ false
exact-is_low begin path name = low-front (exact begin 101 path ++ codes "_1") (spelled name) (low-front (exact begin 101 path) (codes "_1") (exact-low begin 101 path refl))

-- Enumerators of one name are one.

module _ (begin : List ℕ) (es : List Enumeration) (capitals : high begin ≡ true) where
  abbrev naturals : List (List ℕ)
  naturals = enumerator_naturals begin es

  same-enumerator : (j k : ℕ) (d e : Enumeration) (l m : ℕ) (x y : Enumerator) (p q : List ℕ) → slice_get es j ≡ Some d → slice_get es k ≡ Some e → slice_get d.entries l ≡ Some x → slice_get e.entries m ≡ Some y
      → lacks 36 x.0 ≡ true → lacks 36 y.0 ≡ true → (d ≡ e → p ≡ q) → name_among naturals (enumerator_base begin p d x.0) ≡ name_among naturals (enumerator_base begin q e y.0) → (p ≡ q) × (x.0 ≡ y.0)
  same-enumerator j k d e l m x y p q at_d at_e at_x at_y lx ly paths h = ⊎_elim natural-one (one-exact begin p q x.0 y.0 lx ly)
      (named-alike naturals (enumerator_base begin p d x.0) (enumerator_base begin q e y.0) (natural-high begin (enumerator_path d x.0) capitals) (natural-high begin (enumerator_path e y.0) capitals)
      (exact-is_low begin p x.0) (exact-is_low begin q y.0) h)
    where
      is : List ℕ → Bool
      is n = bytes_eq n (natural begin (enumerator_path d x.0))

      natural-one : (natural begin (enumerator_path d x.0) ≡ natural begin (enumerator_path e y.0)) × (count_by is naturals ≤ 1) → (p ≡ q) × (x.0 ≡ y.0)
      natural-one r =
          let f : Enumerator → List ℕ = λ t. natural begin (enumerator_path d t.0) in
          let g : Enumerator → List ℕ = λ t. natural begin (enumerator_path e t.0) in
          let here : is (f x) ≡ true = bytes_eq-itself (f x) in
          let there : is (g y) ≡ true = ap (λ n. bytes_eq n (f x)) (sym r.0) ∙ bytes_eq-itself (f x) in
          let place : j ≡ k = only-part is (own_naturals begin) es j k d e r.1 at_d at_e (one-at is (own_naturals begin d) l (f x) (get-map_at f d.entries l x at_x) here) (one-at is (own_naturals begin e) m (g y) (get-map_at g e.entries m y at_y) there) in
          let same : Some d ≡ Some e = sym at_d ∙ ap (slice_get es) place ∙ at_e in
          let one : d ≡ e = cc same in
          let moved : slice_get d.entries m ≡ Some y = ap (λ (u : Enumeration). slice_get u.entries m) one ∙ at_y in
          let there2 : is (f y) ≡ true = ap (λ (u : Enumeration). is (natural begin (enumerator_path u y.0))) one ∙ there in
          let inner : l ≡ m = only-at is (own_naturals begin d) l m (f x) (f y) (within-part is (own_naturals begin) es j d r.1 at_d) (get-map_at f d.entries l x at_x) (get-map_at f d.entries m y moved) here there2 in
          let alike : Some x ≡ Some y = sym at_x ∙ ap (slice_get d.entries) inner ∙ moved in
          let enumerator : x ≡ y = cc alike in
          (paths one, ap (λ (t : Enumerator). t.0) enumerator)

module _ (b : Block) (es : List Enumeration) (s : IsSound b) (apart : AreApart b es) where
  abbrev begin : List ℕ
  begin = prefix b.name

  abbrev base : Enumeration → Enumerator → List ℕ
  base e x = enumerator_name b es e x

  abbrev own_names : Enumeration → List (List ℕ)
  own_names e = map name_of (own_macros b begin (enumerator_naturals begin es) e)

  is_one : (k : ℕ) (e : Enumeration) → slice_get es k ≡ Some e → IsEnumerated b e
  is_one k e at = Each-at (IsEnumerated b) es k e apart.each at

  lacking : (k : ℕ) (e : Enumeration) → slice_get es k ≡ Some e → (m : ℕ) (x : Enumerator) → slice_get e.entries m ≡ Some x → lacks 36 x.0 ≡ true
  lacking k e at m x at_x = Each-at (λ (t : Enumerator). lacks 36 t.0 ≡ true) e.entries m x (is_one k e at).plain at_x

  user-found : (k : ℕ) (e : Enumeration) → slice_get es k ≡ Some e → slice_get (map (λ f. f.path) b.fields) e.field ≡ Some (user_path b e)
  user-found k e at =
      let f = some-at b.fields e.field (is_one k e at).field in
      get-map_at (λ (x : Field). x.path) b.fields e.field f.0 f.1 ∙ ap Some (sym (ap (λ (o : Option Field). option_map_or (λ (x : Field). x.path) o []) f.1))

  one-user : (j k : ℕ) (d e : Enumeration) → slice_get es j ≡ Some d → slice_get es k ≡ Some e → user_path b d ≡ user_path b e → d.field ≡ e.field
  one-user j k d e at_d at_e same =
      let paths = Apart-from (map (λ f. f.path) b.fields) (both_true (distinct (map (λ f. f.path) b.fields)) _ s.field_paths).0 in
      Apart-place (map (λ f. f.path) b.fields) d.field e.field (user_path b e) paths (user-found j d at_d ∙ ap Some same) (user-found k e at_e)

  -- the name is that of an enumerator of the enumeration of this field
  abbrev pub IsOf : List ℕ → List ℕ → Type 0
  IsOf key n = (k : ℕ) × (e : Enumeration) × (slice_get es k ≡ Some e) × (e.field ∷ [] ≡ key) × (m : ℕ) × (x : Enumerator) × (slice_get e.entries m ≡ Some x) × (n ≡ base e x ++ codes "_VALUE")

  one-base : (x y : List ℕ) → x ++ codes "_VALUE" ≡ y ++ codes "_VALUE" → x ≡ y
  one-base x y h = (last-split 95 x y (codes "VALUE") (codes "VALUE") refl refl h).0

  alike : (j k : ℕ) (d e : Enumeration) (l m : ℕ) (x y : Enumerator) → slice_get es j ≡ Some d → slice_get es k ≡ Some e → slice_get d.entries l ≡ Some x → slice_get e.entries m ≡ Some y → base d x ≡ base e y → (user_path b d ≡ user_path b e) × (x.0 ≡ y.0)
  alike j k d e l m x y at_d at_e at_x at_y h =
      same-enumerator begin es (prefix-high b.name) j k d e l m x y (user_path b d) (user_path b e) at_d at_e at_x at_y (lacking j d at_d l x at_x) (lacking k e at_e m y at_y) (ap (user_path b)) h

  one-enumeration : (p q m n : List ℕ) → IsOf p m → IsOf q n → n ≡ m → p ≡ q
  one-enumeration p q m n (j, d, at_d, key_d, l, x, at_x, is_x) (k, e, at_e, key_e, i, y, at_y, is_y) h =
      let bases : base d x ≡ base e y = one-base (base d x) (base e y) (sym is_x ∙ sym h ∙ is_y) in
      let field : d.field ≡ e.field = one-user j k d e at_d at_e (alike j k d e l i x y at_d at_e at_x at_y bases).0 in
      sym key_d ∙ ap (λ f. f ∷ []) field ∙ key_e

  module _ (k : ℕ) (e : Enumeration) (at : slice_get es k ≡ Some e) where
    abbrev f : Enumerator → Macro
    f x = enumerator_macro begin (user_path b e) (enumerator_naturals begin es) e x

    found : (m : ℕ) (n : List ℕ) → slice_get (own_names e) m ≡ Some n → (x : Enumerator) × (slice_get e.entries m ≡ Some x) × (base e x ++ codes "_VALUE" ≡ n)
    found m n at_n =
        let y = get-mapped name_of (map f e.entries) m n at_n in
        let x = get-mapped f e.entries m y.0 y.1 in
        (x.0, x.1, ap name_of x.2 ∙ y.2)

    own-apart : Apart (own_names e)
    own-apart = apart-by (own_names e) (λ l m n at_l at_m.
        let x = found l n at_l in
        let y = found m n at_m in
        let same : x.0.0 ≡ y.0.0 = (alike k k e e l m x.0 y.0 at at x.1 y.1 (one-base (base e x.0) (base e y.0) (x.2 ∙ sym y.2))).1 in
        let names = Apart-from (map (λ (t : Enumerator). t.0) e.entries) (is_one k e at).names in
        Apart-place (map (λ (t : Enumerator). t.0) e.entries) l m y.0.0 names (get-map_at (λ (t : Enumerator). t.0) e.entries l x.0 x.1 ∙ ap Some same) (get-map_at (λ (t : Enumerator). t.0) e.entries m y.0 y.1))

    own-are : Each (IsOf (e.field ∷ [])) (own_names e)
    own-are = each-by (IsOf (e.field ∷ [])) (own_names e) (λ m n at_n. let x = found m n at_n in (k, e, at, refl, m, x.0, x.1, sym x.2))

  keys-apart : Apart (map (λ e. e.field ∷ []) es)
  keys-apart = apart-by (map (λ e. e.field ∷ []) es) (λ j k n at_j at_k.
      let d = get-mapped (λ (u : Enumeration). u.field ∷ []) es j n at_j in
      let e = get-mapped (λ (u : Enumeration). u.field ∷ []) es k n at_k in
      apart.fields j k d.0 e.0 d.1 e.1 (cons-head d.0.field e.0.field [] [] (d.2 ∙ sym e.2)))

  abbrev all_names : List (List ℕ)
  all_names = map name_of (enumeration_macros b begin es)

  names : all_names ≡ flat_map own_names es
  names = map-flat name_of (own_macros b begin (enumerator_naturals begin es)) es

  pub values-apart : Apart all_names
  values-apart = subst Apart (sym names) (Apart-flat_map IsOf one-enumeration (λ e. e.field ∷ []) own_names es keys-apart
      (each-by (λ e. Apart (own_names e) × Each (IsOf (e.field ∷ [])) (own_names e)) es (λ k e at. (own-apart k e at, own-are k e at))))

  abbrev IsValue : List ℕ → Type 0
  IsValue n = (x : List ℕ) × (n ≡ x ++ codes "_VALUE")

  pub values-are : Each IsValue all_names
  values-are = subst (Each IsValue) (sym names) (Each-flat_map IsValue own_names es (each-by (λ e. Each IsValue (own_names e)) es (λ k e at.
      each-by IsValue (own_names e) (λ m n at_n. let x = found k e at m n at_n in (base e x.0, sym x.2)))))

  other-word : (told : AreTold b) (m n : List ℕ) → IsOther b s told m → IsValue n → n ≡ m → ⊥
  other-word told m n (x, word, is_m, lack, other) (y, is_n) h =
      let split = last-split 95 y x (codes "VALUE") word refl lack (sym is_n ∙ h ∙ is_m) in
      let bad : true ≡ false = ap (λ w. get_or w 0 0 == 86) split.1 ∙ other in cc bad

  pub all_differ : IsApart b → distinct (map (λ m. m.name) (all_macros b es)) ≡ true
  all_differ a =
      let t = told b s a in
      let first = macros begin (entries b) in
      let both : map name_of (all_macros b es) ≡ map name_of first ++ all_names = map-append name_of first (enumeration_macros b begin es) in
      distinct-from (map name_of (all_macros b es)) (subst Apart (sym both) (Apart-kinds (IsOther b s t) IsValue (other-word t) (map name_of first) all_names (all_apart b s t) values-apart (all_other b s t) values-are))

pub entry-is : (b : Block) (es : List Enumeration) (j k : ℕ) (e : Enumeration) (x : Enumerator) → slice_get es j ≡ Some e → slice_get e.entries k ≡ Some x
    → (m : Macro) × Has (all_macros b es) m × (m.name ≡ enumerator_name b es e x ++ codes "_VALUE") × (value_at m.value [] ≡ x.1)
entry-is b es j k e x at_e at_x =
    let begin = prefix b.name in
    let naturals = enumerator_naturals begin es in
    let m = enumerator_macro begin (user_path b e) naturals e x in (
      m,
      has-behind (macros begin (entries b)) (enumeration_macros b begin es) m
          (has-flat (own_macros b begin naturals) es e m (j, at_e) (has-map (enumerator_macro begin (user_path b e) naturals e) e.entries x (k, at_x))),
      refl,
      refl,
    )
