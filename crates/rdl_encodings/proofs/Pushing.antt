-- Numbers of fields, one by one.
use Rattle.std.proofs.Common.{◌≡◌, ◌∙◌, ℕ, Bool, true, false, ◌&&◌, cond, nat_eq, List, [], ◌∷◌, ◌++◌, length, map, suc, Option, None, Some, is_some, option_and_then, slice_get, refl, sym, ap, subst}
use Rattle.std.proofs.lemmas.Bool.Decides.{Decides-eqb}
use Rattle.encodings.specs.Encodings.{Enumerations}
use Rattle.rdl_tree.specs.declared.value.EnumValues.{EnumValues}
use Rattle.rdl_values.specs.Instances.{Instance}
use Rattle.rdl_values.specs.Values.{EnumOf}
use Rattle.rdl_encodings.specs.Encoded.{encoded_by, encodings_of, firsts}
use Rattle.rdl_encodings.specs.Body.{under}
use Rattle.rdl_encodings.specs.Enums.{enum_at, enum_found}
use Rattle.rdl_encodings.specs.Keyed.{AreDistinct, enum_of_key}
use Rattle.rdl_encodings.specs.Known.{known_at}
use Rattle.rdl_encodings.specs.Meant.{enum_meant}
use Rattle.rdl_encodings.specs.Numbered.{AreKnown, AreNumbered, AreNumbers, AreNumbersOf, IsNext, IsNumberOf}
use Rattle.rdl_encodings.specs.Same.{number_in, shown, with_one}
use Rattle.rdl_encodings.specs.declared.distinct.EnumKey.{EnumKey}
use Rattle.rdl_encodings.specs.declared.enums.Enums.{Enums}
use Rattle.rdl_encodings.specs.declared.known.Known.{Known}
use Rattle.rdl_encodings.specs.declared.meant.Meant.{Meant}
use Rattle.rdl_encodings.specs.declared.numbering.Numbering.{Numbering}
use Rattle.rdl_encodings.specs.declared.numbers.Numbers.{Numbers}
use Rattle.rdl_encodings.proofs.Firsts.{firsts-none, firsts-one}
use Rattle.rdl_encodings.proofs.Same.{both-true, stays, there}

-- One that is known, and one that isn't.

-- the number doesn't depend on the name
any-name : (ls : List (ℕ × EnumOf)) (a b : List ℕ) (o : Option EnumValues) → number_in ls (under a o) ≡ number_in ls (under b o)
any-name ls a b None = refl
any-name ls a b (Some e) = refl

pub known_one : (n : Numbers) (t : Enums) (ls : List (ℕ × EnumOf)) (i : ℕ) (m : Meant) (k : ℕ) → known_at n.known m.body m.number ≡ Some k → AreNumbers n t ls
    → AreNumbers n t (with_one ls i (enum_meant t m)) × (number_in (with_one ls i (enum_meant t m)) (enum_meant t m) ≡ Some k)
known_one n t ls i m k at h =
    let number = h.known_.each m.name.now m.body m.number k at in
    let same = there ls i (enum_meant t m) k number in
    (subst (AreNumbers n t) (sym same) h, ap (λ xs. number_in xs (enum_meant t m)) same ∙ number)

known-more : (old new : Known) (t : Enums) (ls : List (ℕ × EnumOf)) (i : ℕ) (m : Meant) (k : ℕ) → ((b p : ℕ) → known_at new b p ≡ cond (nat_eq m.body b && nat_eq m.number p) (Some k) (known_at old b p)) → number_in (with_one ls i (enum_meant t m)) (enum_meant t m) ≡ Some k
    → AreKnown old t ls → AreKnown new t (with_one ls i (enum_meant t m))
known-more old new t ls i m k put number h = record { each = λ name b p n at. go name b p n (nat_eq m.body b && nat_eq m.number p) refl (sym (put b p) ∙ at) }
  where
    go : (name : List ℕ) (b p n : ℕ) (x : Bool) → (nat_eq m.body b && nat_eq m.number p) ≡ x → cond x (Some k) (known_at old b p) ≡ Some n → number_in (with_one ls i (enum_meant t m)) (enum_found t name (b, p)) ≡ Some n
    go name b p n false q at = stays ls i (enum_meant t m) (enum_found t name (b, p)) n (h.each name b p n at)
    go name b p n true q at =
        let both = both-true (nat_eq m.body b) (nat_eq m.number p) q in
        let body = (Decides-eqb m.body b).0 both.0 in
        let number-is = (Decides-eqb m.number p).0 both.1 in
        (λ j. number_in (with_one ls i (enum_meant t m)) (enum_found t name (sym body j, sym number-is j))) ∙ (any-name (with_one ls i (enum_meant t m)) name m.name.now (enum_at (slice_get t.bodies.items m.body) m.number) ∙ (number ∙ at))

pub new_one : (old new : Numbers) (t : Enums) (ls : List (ℕ × EnumOf)) (i : ℕ) (m : Meant) (key : EnumKey) (k : ℕ) → enum_of_key m.name.now key ≡ enum_meant t m
    → ((xs : List (ℕ × EnumOf)) → AreDistinct old.distinct xs → AreDistinct new.distinct (with_one xs i (enum_of_key m.name.now key)) × (number_in (with_one xs i (enum_of_key m.name.now key)) (enum_of_key m.name.now key) ≡ Some k))
    → ((b p : ℕ) → known_at new.known b p ≡ cond (nat_eq m.body b && nat_eq m.number p) (Some k) (known_at old.known b p)) → AreNumbers old t ls
    → AreNumbers new t (with_one ls i (enum_meant t m)) × (number_in (with_one ls i (enum_meant t m)) (enum_meant t m) ≡ Some k)
new_one old new t ls i m key k same distinct put h =
    let d = subst (λ e. AreDistinct new.distinct (with_one ls i e) × (number_in (with_one ls i e) e ≡ Some k)) same (distinct ls h.distinct_) in
    (record { known_ = known-more old.known new.known t ls i m k put d.1 h.known_; distinct_ = d.0 }, d.1)

-- The numbers of fields.

number-stays : (ls : List (ℕ × EnumOf)) (i : ℕ) (d : EnumOf) (f : Instance) (o : Option ℕ) → IsNumberOf ls f o → IsNumberOf (with_one ls i d) f o
number-stays ls i d f o h = record { number = go (encoded_by f) o h.number h.some; some = h.some }
  where
    go : (x : Option EnumOf) (o : Option ℕ) → o ≡ option_and_then (number_in ls) x → is_some o ≡ is_some x → o ≡ option_and_then (number_in (with_one ls i d)) x
    go None o e s = e
    go (Some e) None q s = cc s
    go (Some e) (Some n) q s = sym (stays ls i d e n (sym q))

fields-stay : (ls : List (ℕ × EnumOf)) (i : ℕ) (d : EnumOf) (os : List (Option ℕ)) (fs : List Instance) → AreNumbersOf ls os fs → AreNumbersOf (with_one ls i d) os fs
fields-stay ls i d [] [] h = tt
fields-stay ls i d [] (f ∷ fs) h = absurd h
fields-stay ls i d (o ∷ os) [] h = absurd h
fields-stay ls i d (o ∷ os) (f ∷ fs) h = (number-stays ls i d f o h.0, fields-stay ls i d os fs h.1)

fields-push : (ls : List (ℕ × EnumOf)) (os : List (Option ℕ)) (fs : List Instance) (o : Option ℕ) (f : Instance) → AreNumbersOf ls os fs → IsNumberOf ls f o → AreNumbersOf ls (os ++ (o ∷ [])) (fs ++ (f ∷ []))
fields-push ls [] [] o f h one = (one, tt)
fields-push ls [] (g ∷ fs) o f h one = absurd h
fields-push ls (p ∷ os) [] o f h one = absurd h
fields-push ls (p ∷ os) (g ∷ fs) o f h one = (h.0, fields-push ls os fs o f h.1 one)

fields-long : (ls : List (ℕ × EnumOf)) (os : List (Option ℕ)) (fs : List Instance) → AreNumbersOf ls os fs → length os ≡ length fs
fields-long ls [] [] h = refl
fields-long ls [] (f ∷ fs) h = absurd h
fields-long ls (o ∷ os) [] h = absurd h
fields-long ls (o ∷ os) (f ∷ fs) h = ap suc (fields-long ls os fs h.1)

fields-all : (ls : List (ℕ × EnumOf)) (os : List (Option ℕ)) (fs : List Instance) → AreNumbersOf ls os fs → os ≡ map (λ f. option_and_then (number_in ls) (encoded_by f)) fs
fields-all ls [] [] h = refl
fields-all ls [] (f ∷ fs) h = absurd h
fields-all ls (o ∷ os) [] h = absurd h
fields-all ls (o ∷ os) (f ∷ fs) h = λ j. h.0.number j ∷ fields-all ls os fs h.1 j

-- One more field.

pub next_none : (n : Numbering) (t : Enums) (fs : List Instance) (f : Instance) → encoded_by f ≡ None → AreNumbered n t fs → IsNext n t fs f None
next_none n t fs f q h =
    let same = sym (firsts-none fs f q) in
    let one : IsNumberOf (firsts fs) f None = record { number = ap (option_and_then (number_in (firsts fs))) (sym q); some = ap is_some (sym q) } in
    record {
      numbers_ = subst (AreNumbers n.numbers t) same h.numbers_;
      fields_ = subst (λ ls. AreNumbersOf ls n.fields.items fs) same h.fields_;
      number_ = subst (λ ls. IsNumberOf ls f None) same one;
    }

pub next_some : (old new : Numbering) (t : Enums) (fs : List Instance) (f : Instance) (e : EnumOf) (i k : ℕ) → encoded_by f ≡ Some e → i ≡ length old.fields.items → new.fields.items ≡ old.fields.items → AreNumbered old t fs
    → AreNumbers new.numbers t (with_one (firsts fs) i e) × (number_in (with_one (firsts fs) i e) e ≡ Some k) → IsNext new t fs f (Some k)
next_some old new t fs f e i k q size kept h one =
    let ls = with_one (firsts fs) i e in
    let same : ls ≡ firsts (fs ++ (f ∷ [])) = ap (λ j. with_one (firsts fs) j e) (size ∙ fields-long (firsts fs) old.fields.items fs h.fields_) ∙ sym (firsts-one fs f e q) in
    let own : IsNumberOf ls f (Some k) = record { number = sym one.1 ∙ ap (option_and_then (number_in ls)) (sym q); some = ap is_some (sym q) } in
    let fields : AreNumbersOf ls new.fields.items fs = subst (λ os. AreNumbersOf ls os fs) (sym kept) (fields-stay (firsts fs) i e old.fields.items fs h.fields_) in
    record {
      numbers_ = subst (AreNumbers new.numbers t) same one.0;
      fields_ = subst (λ xs. AreNumbersOf xs new.fields.items fs) same fields;
      number_ = subst (λ xs. IsNumberOf xs f (Some k)) same own;
    }

pub pushed : (old new : Numbering) (t : Enums) (fs : List Instance) (f : Instance) (o : Option ℕ) → new.numbers ≡ old.numbers → new.fields.items ≡ old.fields.items ++ (o ∷ []) → IsNext old t fs f o → AreNumbered new t (fs ++ (f ∷ []))
pushed old new t fs f o kept items h =
    let ls = firsts (fs ++ (f ∷ [])) in
    record {
      numbers_ = subst (λ n. AreNumbers n t ls) (sym kept) h.numbers_;
      fields_ = subst (λ os. AreNumbersOf ls os (fs ++ (f ∷ []))) (sym items) (fields-push ls old.fields.items fs o f h.fields_ h.number_);
    }

-- All fields.
pub all_numbered : (n : Numbering) (t : Enums) (fs : List Instance) (r : Enumerations) → r.list ≡ map shown (firsts fs) → r.fields ≡ n.fields.items → AreNumbered n t fs → r ≡ encodings_of fs
all_numbered n t fs r list fields h = λ j. record { list = list j; fields = (fields ∙ fields-all (firsts fs) n.fields.items fs h.fields_) j }
