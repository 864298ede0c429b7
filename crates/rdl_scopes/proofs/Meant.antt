-- Enumerations of which each name means the same.
use Rattle.std.proofs.Common.{◌≡◌, ◌∙◌, ℕ, ◌<◌, Bool, true, false, ◌||◌, ◌&&◌, cond, nat_lt, bytes_eq, List, [], ◌∷◌, ◌++◌, find, Option, None, Some, Ok, refl, sym, ap, subst, arith}
use Rattle.std.specs.Cmp.Lexicographic.{bytes_decides}
use Rattle.std.specs.List.{AllByRecursion}
use Rattle.std.specs.Option.{option_or}
use Rattle.std.proofs.lemmas.List.Folds.{find-append, list_any-append}
use Rattle.rdl_base.specs.declared.rule.Rule.TheVariants as rules
use Rattle.rdl_tree.specs.declared.expr.Name.{Name}
use Rattle.rdl_values.specs.Table.{is_enum_named}
use Rattle.rdl_values.specs.Values.{Around, EnumOf, Names, number, or_fails, then, entry_named, entry_value, parameter, visible_enum}
use Rattle.rdl_values.specs.Visible.{enum_before}
use Rattle.rdl_failures.specs.Shown.{IsAlike}

-- both are there, with the same numbers under names, or neither is
abbrev pub SameEnum : Option EnumOf → Option EnumOf → Type 0
SameEnum None None = Unit {0}
SameEnum (Some a) (Some b) = (n : List ℕ) → entry_named n a.entries ≡ entry_named n b.entries
SameEnum _ _ = ⊥

abbrev pub means : Name → EnumOf → Bool
means e x = bytes_eq x.name e.text.now && nat_lt x.place e.place.0

-- Each name means the same among these and those, and the same names are there.
pub record AreMeant (these those : List EnumOf) : Type 0 where
  pub meant : (e : Name) → SameEnum (find (means e) these) (find (means e) those)
  pub named : (n : List ℕ) → is_enum_named n these ≡ is_enum_named n those

pub meant_none : AreMeant [] []
meant_none = record { meant = λ e. tt; named = λ n. refl }

-- Bodies with such enumerations.

alike-value : (these those : Around) (e n : Name) (a b : Option EnumOf) → SameEnum a b → entry_value these e n ≡ entry_value those e n
    → (then (or_fails (option_or a (visible_enum these e)) rules.V1 e.place) λ v. then (or_fails (entry_named n.text.now v.entries) rules.V1 n.place) λ k. Ok (number k))
    ≡ (then (or_fails (option_or b (visible_enum those e)) rules.V1 e.place) λ v. then (or_fails (entry_named n.text.now v.entries) rules.V1 n.place) λ k. Ok (number k))
alike-value these those e n None None s h = h
alike-value these those e n (Some a) (Some b) s h = ap (λ o. then (or_fails o rules.V1 n.place) λ k. Ok (number k)) (s n.text.now)
alike-value these those e n None (Some b) s h = absurd s
alike-value these those e n (Some a) None s h = absurd s

pub alike_bodies : (t n : Names) (these those : Around) → t.bound ≡ n.bound → AreMeant t.enums n.enums → IsAlike these those → IsAlike (t ∷ these) (n ∷ those)
alike_bodies t n these those bound m h = record {
  parameters = λ x. ap (λ b. option_or (entry_named x b) (parameter these x)) bound ∙ ap (option_or (entry_named x n.bound)) (h.parameters x);
  entries = λ e x. alike-value these those e x (enum_before e t) (enum_before e n) (m.meant e) (h.entries e x);
}

-- One enumeration more.

or-same : (a b c d : Option EnumOf) → SameEnum a b → SameEnum c d → SameEnum (option_or a c) (option_or b d)
or-same None None c d s t = t
or-same (Some a) (Some b) c d s t = s
or-same None (Some b) c d s t = absurd s
or-same (Some a) None c d s t = absurd s

one-same : (b : Bool) (x y : EnumOf) → ((n : List ℕ) → entry_named n x.entries ≡ entry_named n y.entries) → SameEnum (cond b (Some x) None) (cond b (Some y) None)
one-same true x y s = s
one-same false x y s = tt

-- an enumeration of the name is there and stands before, so the name means one
found-before : {X : Type 0} (e : Name) (m : List ℕ) (k : ℕ) (ys : List EnumOf) → AllByRecursion (λ y. y.place < k) ys → is_enum_named m ys ≡ true → bytes_eq m e.text.now ≡ true → k < e.place.0 → find (means e) ys ≡ None → X
found-before e m k [] all any same low none = let q : true ≡ false = sym any in cc
found-before e m k (y ∷ ys) all any same low none = go (bytes_eq y.name m) refl (found-before e m k ys all.1)
  where
    before : nat_lt y.place e.place.0 ≡ true
    before = grind (arith, all.0, low)

    go : {X : Type 0} (b : Bool) → bytes_eq y.name m ≡ b → (is_enum_named m ys ≡ true → bytes_eq m e.text.now ≡ true → k < e.place.0 → find (means e) ys ≡ None → X) → X
    go true q rest =
        let own : bytes_eq y.name e.text.now ≡ true = ap (λ n. bytes_eq n e.text.now) ((bytes_decides y.name m).0 q) ∙ same in
        let is : means e y ≡ true = ap (λ b. b && nat_lt y.place e.place.0) own ∙ before in
        let r : Some y ≡ None = sym (ap (λ b. cond b (Some y) (find (means e) ys)) is) ∙ none in cc
    go false q rest = rest (sym (ap (λ b. b || is_enum_named m ys) q) ∙ any) same low (later (means e y) refl none)
      where
        later : (b : Bool) → means e y ≡ b → find (means e) (y ∷ ys) ≡ None → find (means e) ys ≡ None
        later true p r = let s : Some y ≡ None = sym (ap (λ b. cond b (Some y) (find (means e) ys)) p) ∙ r in cc
        later false p r = sym (ap (λ b. cond b (Some y) (find (means e) ys)) p) ∙ r

named-more : (n : List ℕ) (xs : List EnumOf) (t : EnumOf) → is_enum_named n (cond (is_enum_named t.name xs) xs (xs ++ (t ∷ []))) ≡ (is_enum_named n xs || (bytes_eq t.name n || false))
named-more n xs t = go (is_enum_named t.name xs) refl
  where
    kept : (b : Bool) → bytes_eq t.name n ≡ b → is_enum_named t.name xs ≡ true → is_enum_named n xs ≡ (is_enum_named n xs || (b || false))
    kept true e q = let r : is_enum_named n xs ≡ true = ap (λ m. is_enum_named m xs) (sym ((bytes_decides t.name n).0 e)) ∙ q in r ∙ sym (ap (λ b. b || true) r)
    kept false e q = nothing (is_enum_named n xs)
      where
        nothing : (b : Bool) → b ≡ (b || (false || false))
        nothing true = refl
        nothing false = refl

    go : (b : Bool) → is_enum_named t.name xs ≡ b → is_enum_named n (cond b xs (xs ++ (t ∷ []))) ≡ (is_enum_named n xs || (bytes_eq t.name n || false))
    go true e = kept (bytes_eq t.name n) refl e
    go false e = list_any-append (λ x. bytes_eq x.name n) xs (t ∷ [])

pub meant_more : (these those : List EnumOf) (t x : EnumOf) → AreMeant these those → t.name ≡ x.name → t.place ≡ x.place → ((n : List ℕ) → entry_named n t.entries ≡ entry_named n x.entries) → AllByRecursion (λ y. y.place < x.place) those
    → AreMeant (cond (is_enum_named t.name these) these (these ++ (t ∷ []))) (those ++ (x ∷ []))
meant_more these those t x h name place entries all = record {
  meant = λ e. go e (is_enum_named t.name these) refl;
  named = λ n. named-more n these t ∙ ap (λ b. b || (bytes_eq t.name n || false)) (h.named n) ∙ ap (λ m. is_enum_named n those || (bytes_eq m n || false)) name ∙ sym (list_any-append (λ y. bytes_eq y.name n) those (x ∷ []));
}
  where
    alike : (e : Name) → means e t ≡ means e x
    alike e = ap (λ m. bytes_eq m e.text.now && nat_lt t.place e.place.0) name ∙ ap (λ p. bytes_eq x.name e.text.now && nat_lt p e.place.0) place

    behind : (e : Name) → find (means e) (those ++ (x ∷ [])) ≡ option_or (find (means e) those) (cond (means e x) (Some x) None)
    behind e = find-append (means e) those (x ∷ [])

    there : (e : Name) → is_enum_named t.name these ≡ true → (a b : Option EnumOf) → find (means e) those ≡ b → SameEnum a b → (c : Bool) → means e x ≡ c → SameEnum a (option_or b (cond c (Some x) None))
    there e q (Some a) (Some b) r s c p = s
    there e q None (Some b) r s c p = absurd s
    there e q (Some a) None r s c p = absurd s
    there e q None None r s false p = tt
    there e q None None r s true p = found-before e x.name x.place those all (ap (λ m. is_enum_named m those) (sym name) ∙ sym (h.named t.name) ∙ q) (left (bytes_eq x.name e.text.now) (nat_lt x.place e.place.0) p) (low (right (bytes_eq x.name e.text.now) (nat_lt x.place e.place.0) p)) r
      where
        left : (b c : Bool) → (b && c) ≡ true → b ≡ true
        left true c z = refl
        left false c z = cc

        right : (b c : Bool) → (b && c) ≡ true → c ≡ true
        right true c z = z
        right false c z = cc

        low : nat_lt x.place e.place.0 ≡ true → x.place < e.place.0
        low z = grind (arith, z)

    go : (e : Name) (b : Bool) → is_enum_named t.name these ≡ b → SameEnum (find (means e) (cond b these (these ++ (t ∷ [])))) (find (means e) (those ++ (x ∷ [])))
    go e true q = subst (SameEnum (find (means e) these)) (sym (behind e)) (there e q (find (means e) these) (find (means e) those) refl (h.meant e) (means e x) refl)
    go e false q =
        subst (λ o. SameEnum o (find (means e) (those ++ (x ∷ [])))) (sym (find-append (means e) these (t ∷ []) ∙ ap (λ b. option_or (find (means e) these) (cond b (Some t) None)) (alike e)))
        (subst (SameEnum (option_or (find (means e) these) (cond (means e x) (Some t) None))) (sym (behind e))
        (or-same (find (means e) these) (find (means e) those) (cond (means e x) (Some t) None) (cond (means e x) (Some x) None) (h.meant e) (one-same (means e x) t x entries)))
