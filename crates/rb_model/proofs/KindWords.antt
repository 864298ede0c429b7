-- The kind words of a module's names: no name has two, and behind its word no two paths.
use Rattle.std.proofs.Common.{◌≡◌, ℕ, zero, suc, ◌+◌, ◌<◌, ◌≤◌, ◌==◌, Bool, true, false, not, ◌&&◌, if◌then◌else◌, Option, Some, None, List, [], ◌∷◌, ◌++◌, codes, length, slice_get, map, refl, ap, sym, ◌∙◌, subst, arith}
use Rattle.std.specs.List.{list_any}
use Rattle.std.proofs.lemmas.Option.{same_Some}
use Rattle.v_design.specs.WellFormed.{distinct}
use Rattle.rb_model.specs.References.{Each}
use Rattle.rb_model.proofs.Eachs.{Each-append, Each-weaker, Each-at}
use Rattle.rb_model.proofs.Apart.{Name, Apart, Apart-from, Apart-place}

abbrev pub words : List Name
words = codes "global$" ∷ codes "signal$" ∷ codes "in$" ∷ codes "we$" ∷ codes "wel$" ∷ codes "swwe$" ∷ codes "swwel$" ∷ codes "hwset$" ∷ codes "hwclr$" ∷ codes "incr$" ∷ codes "incrvalue$" ∷ codes "decr$" ∷ codes "decrvalue$" ∷ codes "out$" ∷ codes "anded$" ∷ codes "ored$" ∷ codes "xored$" ∷ codes "incrthreshold$" ∷ codes "decrthreshold$" ∷ codes "overflow$" ∷ codes "underflow$" ∷ codes "swmod$" ∷ codes "swacc$" ∷ codes "intr$" ∷ codes "halt$" ∷ codes "val$" ∷ codes "last$" ∷ codes "done$" ∷ codes "apb$" ∷ codes "axi$" ∷ []

-- what stands before the first `$`, and behind it
front : Name → Name
front [] = []
front (c ∷ cs) = if c == 36 then [] else c ∷ front cs

back : Name → Name
back [] = []
back (c ∷ cs) = if c == 36 then cs else back cs

abbrev pub has_dollar : Name → Bool
has_dollar n = list_any (λ c. c == 36) n

record Splits (w : Name) : Type 0 where
  at_front : (path : Name) → front (w ++ path) ≡ front w
  at_back : (path : Name) → back (w ++ path) ≡ path
  dollar : (path : Name) → has_dollar (w ++ path) ≡ true

all_split : Each Splits words
unfolding front back
all_split = (record { at_front = λ p. refl; at_back = λ p. refl; dollar = λ p. refl }, (record { at_front = λ p. refl; at_back = λ p. refl; dollar = λ p. refl }, (record { at_front = λ p. refl; at_back = λ p. refl; dollar = λ p. refl }, (record { at_front = λ p. refl; at_back = λ p. refl; dollar = λ p. refl }, (record { at_front = λ p. refl; at_back = λ p. refl; dollar = λ p. refl }, (record { at_front = λ p. refl; at_back = λ p. refl; dollar = λ p. refl }, (record { at_front = λ p. refl; at_back = λ p. refl; dollar = λ p. refl }, (record { at_front = λ p. refl; at_back = λ p. refl; dollar = λ p. refl }, (record { at_front = λ p. refl; at_back = λ p. refl; dollar = λ p. refl }, (record { at_front = λ p. refl; at_back = λ p. refl; dollar = λ p. refl }, (record { at_front = λ p. refl; at_back = λ p. refl; dollar = λ p. refl }, (record { at_front = λ p. refl; at_back = λ p. refl; dollar = λ p. refl }, (record { at_front = λ p. refl; at_back = λ p. refl; dollar = λ p. refl }, (record { at_front = λ p. refl; at_back = λ p. refl; dollar = λ p. refl }, (record { at_front = λ p. refl; at_back = λ p. refl; dollar = λ p. refl }, (record { at_front = λ p. refl; at_back = λ p. refl; dollar = λ p. refl }, (record { at_front = λ p. refl; at_back = λ p. refl; dollar = λ p. refl }, (record { at_front = λ p. refl; at_back = λ p. refl; dollar = λ p. refl }, (record { at_front = λ p. refl; at_back = λ p. refl; dollar = λ p. refl }, (record { at_front = λ p. refl; at_back = λ p. refl; dollar = λ p. refl }, (record { at_front = λ p. refl; at_back = λ p. refl; dollar = λ p. refl }, (record { at_front = λ p. refl; at_back = λ p. refl; dollar = λ p. refl }, (record { at_front = λ p. refl; at_back = λ p. refl; dollar = λ p. refl }, (record { at_front = λ p. refl; at_back = λ p. refl; dollar = λ p. refl }, (record { at_front = λ p. refl; at_back = λ p. refl; dollar = λ p. refl }, (record { at_front = λ p. refl; at_back = λ p. refl; dollar = λ p. refl }, (record { at_front = λ p. refl; at_back = λ p. refl; dollar = λ p. refl }, (record { at_front = λ p. refl; at_back = λ p. refl; dollar = λ p. refl }, (record { at_front = λ p. refl; at_back = λ p. refl; dollar = λ p. refl }, (record { at_front = λ p. refl; at_back = λ p. refl; dollar = λ p. refl }, tt))))))))))))))))))))))))))))))

fronts : Apart (map front words)
unfolding front
fronts = Apart-from (map front words) refl

-- the name is the word of number n and this path
pub record Named (n : ℕ) (path name : Name) : Type 0 where
  pub word : Name
  pub known : slice_get words n ≡ Some word
  pub is : name ≡ word ++ path

map_get : {X Y : Type 0} (f : X → Y) (xs : List X) (k : ℕ) (x : X) → slice_get xs k ≡ Some x → slice_get (map f xs) k ≡ Some (f x)
map_get f [] k x e = cc
map_get f (y ∷ xs) zero x e = ap (λ z. Some (f z)) (same_Some y x e)
map_get f (y ∷ xs) (suc k) x e = map_get f xs k x e

pub record OneName (n m : ℕ) (p q : Name) : Type 0 where
  pub number : n ≡ m
  pub path : p ≡ q

pub one_name : (n m : ℕ) (p q x y : Name) → Named n p x → Named m q y → x ≡ y → OneName n m p q
one_name n m p q x y a b e =
    let s : Splits a.word = Each-at Splits words n a.word all_split a.known in
    let t : Splits b.word = Each-at Splits words m b.word all_split b.known in
    let same : a.word ++ p ≡ b.word ++ q = sym a.is ∙ e ∙ b.is in
    let f : front a.word ≡ front b.word = sym (s.at_front p) ∙ ap front same ∙ t.at_front q in
    record {
      number = Apart-place (map front words) n m (front b.word) fronts (map_get front words n a.word a.known ∙ ap Some f) (map_get front words m b.word b.known);
      path = sym (s.at_back p) ∙ ap back same ∙ t.at_back q;
    }

pub named_dollar : (n : ℕ) (p x : Name) → Named n p x → has_dollar x ≡ true
named_dollar n p x a = let s : Splits a.word = Each-at Splits words n a.word all_split a.known in ap has_dollar a.is ∙ s.dollar p

-- names of one path whose words' numbers rise from lo, and stay below hi
abbrev pub Rising : (lo hi : ℕ) (path : Name) → List Name → Type 0
Rising lo hi path [] = lo ≤ hi
Rising lo hi path (x ∷ xs) = (n : ℕ) × (Named n path x × (lo ≤ n) × Rising (n + 1) hi path xs)

pub Rising-below : (lo hi : ℕ) (path : Name) (xs : List Name) → Rising lo hi path xs → lo ≤ hi
Rising-below lo hi path [] h = h
Rising-below lo hi path (x ∷ xs) h = let r : h.0 + 1 ≤ hi = Rising-below (h.0 + 1) hi path xs h.1.2 in let l : lo ≤ h.0 = h.1.1 in omega arith

pub Rising-lower : (lo mid hi : ℕ) (path : Name) (xs : List Name) → lo ≤ mid → Rising mid hi path xs → Rising lo hi path xs
Rising-lower lo mid hi path [] l h = omega arith
Rising-lower lo mid hi path (x ∷ xs) l h = (h.0, (h.1.0, (let m : mid ≤ h.0 = h.1.1 in omega arith), h.1.2))

pub Rising-higher : (lo mid hi : ℕ) (path : Name) (xs : List Name) → mid ≤ hi → Rising lo mid path xs → Rising lo hi path xs
Rising-higher lo mid hi path [] l h = omega arith
Rising-higher lo mid hi path (x ∷ xs) l h = (h.0, (h.1.0, h.1.1, Rising-higher (h.0 + 1) mid hi path xs l h.1.2))

pub Rising-append : (lo mid hi : ℕ) (path : Name) (xs ys : List Name) → Rising lo mid path xs → Rising mid hi path ys → Rising lo hi path (xs ++ ys)
Rising-append lo mid hi path [] ys a b = Rising-lower lo mid hi path ys a b
Rising-append lo mid hi path (x ∷ xs) ys a b = (a.0, (a.1.0, a.1.1, Rising-append (a.0 + 1) mid hi path xs ys a.1.2 b))

-- a name of this path whose word's number is in the range
abbrev pub Within : (lo hi : ℕ) (path name : Name) → Type 0
Within lo hi path name = (n : ℕ) × (Named n path name × (lo ≤ n) × (n < hi))

pub Rising-within : (lo hi : ℕ) (path : Name) (xs : List Name) → Rising lo hi path xs → Each (Within lo hi path) xs
Rising-within lo hi path [] h = tt
Rising-within lo hi path (x ∷ xs) h =
    let below : h.0 + 1 ≤ hi = Rising-below (h.0 + 1) hi path xs h.1.2 in
    let from : lo ≤ h.0 = h.1.1 in
    ((h.0, (h.1.0, from, omega arith)), Each-weaker (Within (h.0 + 1) hi path) (Within lo hi path) (λ y w. (w.0, (w.1.0, (let m : h.0 + 1 ≤ w.0 = w.1.1 in omega arith), w.1.2))) xs (Rising-within (h.0 + 1) hi path xs h.1.2))

pub Rising-apart : (lo hi : ℕ) (path : Name) (xs : List Name) → Rising lo hi path xs → Apart xs
Rising-apart lo hi path [] h = tt
Rising-apart lo hi path (x ∷ xs) h = (
  Each-weaker (Within (h.0 + 1) hi path) (λ y. y ≡ x → ⊥) (λ y w e. let o : OneName w.0 h.0 path path = one_name w.0 h.0 path path y x w.1.0 h.1.0 e in let same : w.0 ≡ h.0 = o.number in let m : h.0 + 1 ≤ w.0 = w.1.1 in absurd (omega arith)) xs (Rising-within (h.0 + 1) hi path xs h.1.2),
  Rising-apart (h.0 + 1) hi path xs h.1.2,
)
