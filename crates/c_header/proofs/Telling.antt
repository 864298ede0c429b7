-- What tells the words of a block, and the parts of a word, apart.
use Rattle.std.proofs.Common.{◌≡◌, ◌∙◌, inl, inr, ℕ, suc, ◌+◌, ◌<◌, ◌≤◌, ◌^◌, ◌==◌, Bool, true, false, not, cond, List, [], ◌∷◌, ◌++◌, append_assoc, filter, flat_map, fold, length, map, Option, None, Some, slice_get, refl, sym, ap, subst, arith}
use Rattle.std.specs.Prelude.{IsTrue}
use Rattle.std.specs.List.{enumerate_from, list_all, onto_first, slice_split}
use Rattle.std.specs.Option.{option_map_or}
use Rattle.std.proofs.lemmas.Bool.Decides.{nat_tests}
use Rattle.std.proofs.lemmas.List.Splits.{slice_split-cons_no, slice_split-cons_yes}
use Rattle.std.proofs.lemmas.List.Sums.{fold-append}
use Rattle.std.proofs.lemmas.Option.{get_or_from_slice_get}
use Rattle.rb_model.specs.declared.block.Block.{Block}
use Rattle.rb_model.specs.declared.block.Reg.{Reg}
use Rattle.rb_model.specs.declared.block.Slot.{Slot}
use Rattle.rb_model.specs.declared.block.View.{View}
use Rattle.rb_model.specs.declared.block.Word.{Word}
use Rattle.rb_model.specs.Apart.{IsApart, IsNamedIn, IsWordAt, WordIsApart}
use Rattle.rb_model.specs.References.{Each}
use Rattle.rb_model.specs.Sound.{IsSound, SlotIsSound, WordIsSound}
use Rattle.rb_model.proofs.Apart.{Apart, Apart-flat_map, Apart-from, Apart-place, Name}
use Rattle.rb_model.proofs.Eachs.{Each-at, Each-flat_map, Each-numbered_all}
use Rattle.rb_model.proofs.OwnViews.{both_true}
use Rattle.v_design.specs.WellFormed.{distinct}
use Rattle.word_groups.specs.declared.parts.Part.{Part}
use Rattle.word_groups.specs.Entries.{all_words, other_word, path_of, words_at}
use Rattle.word_groups.specs.Parts.{part_of, parts, with_field, with_view}
use Rattle.word_groups.specs.Paths.{indices, is_dollar, is_index, last_name, name_with, names_and_indices, number_of}
use Rattle.c_header.specs.Laws.{Has}
use Rattle.plain_lemmas.proofs.Bools.{and-left, and-right}
use Rattle.plain_lemmas.proofs.Lists.{append-none, cons-head, cons-tail, get-map_at, get-mapped, get-within, length-map, map-flat_map as map-flat}

-- No two words have one register and one number there, no two parts of a word one name, and numbers of words and of indices are such as
-- decimal digits tell apart.
pub record AreTold (b : Block) : Type 0 where
  pub words : (j k : ℕ) (v w : Word) → slice_get (all_words b) j ≡ Some v → slice_get (all_words b) k ≡ Some w → v.reg ≡ w.reg → v.number ≡ w.number → j ≡ k
  pub names : (w : Word) (j k : ℕ) (p q : Part) → Has (all_words b) w → slice_get (parts b w) j ≡ Some p → slice_get (parts b w) k ≡ Some q → p.name ≡ q.name → j ≡ k
  pub few : (w : Word) → Has (all_words b) w → (w.number < 2 ^ 64) × (length (indices (path_of b w)) < 2 ^ 64)

-- Words

abbrev tag : Word → Name
tag w = w.reg ∷ w.number ∷ []

-- the name is the tag of a word at the address of this number
abbrev IsTagAt : Block → Name → Name → Type 0
IsTagAt b p m = (k : ℕ) × (w : Word) × (p ≡ k ∷ []) × IsWordAt b k w × (m ≡ tag w)

numbers-apart : {X : Type 0} (n : ℕ) (xs : List X) → Apart (map (λ r. r.0 ∷ []) (enumerate_from n xs))
numbers-apart n [] = tt
numbers-apart {X} n (x ∷ xs) = (above n (n + 1) xs (omega arith), numbers-apart (n + 1) xs)
  where
    above : (n k : ℕ) (ys : List X) → n < k → Each (λ m. m ≡ n ∷ [] → ⊥) (map (λ r. r.0 ∷ []) (enumerate_from k ys))
    above n k [] h = tt
    above n k (y ∷ ys) h = ((λ e. let same = cons-head k n [] [] e in omega (arith, h, same)), above n (k + 1) ys (omega (arith, h)))

module _ (b : Block) (s : IsSound b) (a : IsApart b) where
  one-place : (p q m n : Name) → IsTagAt b p m → IsTagAt b q n → n ≡ m → p ≡ q
  one-place p q m n (j, v, at_p, x, is_m) (k, w, at_q, y, is_n) e =
      let same : tag w ≡ tag v = sym is_n ∙ e ∙ is_m in
      let reg : w.reg ≡ v.reg = cons-head w.reg v.reg (w.number ∷ []) (v.number ∷ []) same in
      let number : w.number ≡ v.number = cons-head w.number v.number [] [] (cons-tail w.reg v.reg (w.number ∷ []) (v.number ∷ []) same) in
      let place : k ≡ j = a.addresses k j w v y x reg number in
      at_p ∙ ap (λ i. i ∷ []) (sym place) ∙ sym at_q

  abbrev AreTags : ℕ × Word → Type 0
  AreTags r = Apart (map tag (words_at b r)) × Each (IsTagAt b (r.0 ∷ [])) (map tag (words_at b r))

  tags-at : (k : ℕ) (r : Word) → slice_get b.reads k ≡ Some r → AreTags (k, r)
  tags-at k r at = by (slice_get b.writes k) refl
    where
      own : IsTagAt b (k ∷ []) (tag r)
      own = (k, r, refl, inl at, refl)

      by : (o : Option Word) → slice_get b.writes k ≡ o → Apart (map tag (r ∷ other_word r o)) × Each (IsTagAt b (k ∷ [])) (map tag (r ∷ other_word r o))
      by None e = ((tt, tt), (own, tt))
      by (Some w) e = go (w.reg == r.reg) refl
        where
          go : (c : Bool) → (w.reg == r.reg) ≡ c → Apart (map tag (r ∷ cond c [] (w ∷ []))) × Each (IsTagAt b (k ∷ [])) (map tag (r ∷ cond c [] (w ∷ [])))
          go true q = ((tt, tt), (own, tt))
          go false q = (
            (((λ f. let same = cons-head w.reg r.reg (w.number ∷ []) (r.number ∷ []) f in grind (arith, nat_tests, q, same)), tt), (tt, tt)),
            (own, ((k, w, refl, inr e, refl), tt)),
          )

  tags-apart : Apart (map tag (all_words b))
  tags-apart =
      subst Apart (sym (map-flat tag (words_at b) (enumerate_from 0 b.reads)))
      (Apart-flat_map (IsTagAt b) one-place (λ r. r.0 ∷ []) (λ r. map tag (words_at b r)) (enumerate_from 0 b.reads) (numbers-apart 0 b.reads) (Each-numbered_all AreTags b.reads tags-at))

  words-told : (j k : ℕ) (v w : Word) → slice_get (all_words b) j ≡ Some v → slice_get (all_words b) k ≡ Some w → v.reg ≡ w.reg → v.number ≡ w.number → j ≡ k
  words-told j k v w at_j at_k reg number =
      let same : tag v ≡ tag w = λ i. reg i ∷ number i ∷ [] in
      Apart-place (map tag (all_words b)) j k (tag w) tags-apart (get-map_at tag (all_words b) j v at_j ∙ ap Some same) (get-map_at tag (all_words b) k w at_k)

  -- what holds of the words at every address
  all-at : Each (λ w. WordIsApart b w × WordIsSound b w) (all_words b)
  all-at = Each-flat_map (λ w. WordIsApart b w × WordIsSound b w) (words_at b) (enumerate_from 0 b.reads) (Each-numbered_all (λ r. Each (λ w. WordIsApart b w × WordIsSound b w) (words_at b r)) b.reads both)
    where
      both : (k : ℕ) (r : Word) → slice_get b.reads k ≡ Some r → Each (λ w. WordIsApart b w × WordIsSound b w) (words_at b (k, r))
      both k r at = ((a.words k r (inl at), Each-at (WordIsSound b) b.reads k r s.reads at), by (slice_get b.writes k) refl)
        where
          by : (o : Option Word) → slice_get b.writes k ≡ o → Each (λ w. WordIsApart b w × WordIsSound b w) (other_word r o)
          by None e = tt
          by (Some w) e = go (w.reg == r.reg)
            where
              go : (c : Bool) → Each (λ w. WordIsApart b w × WordIsSound b w) (cond c [] (w ∷ []))
              go true = tt
              go false = ((a.words k w (inr e), Each-at (WordIsSound b) b.writes k w s.writes e), tt)

-- Names

-- what stands behind the last `$`
plain-behind : (front name : List ℕ) → IsTrue (list_all (λ c. not (c == 36)) name) → fold name_with front name ≡ front ++ name
plain-behind front [] h = sym (append-none front)
plain-behind front (c ∷ cs) h =
    let lacks : not (c == 36) ≡ true = and-left (not (c == 36)) (list_all (λ x. not (x == 36)) cs) h in
    let other : (c == 36) ≡ false = grind (arith, nat_tests, lacks) in
    ap (λ t. fold name_with (cond t [] (front ++ c ∷ [])) cs) other
    ∙ plain-behind (front ++ c ∷ []) cs (and-right (not (c == 36)) (list_all (λ x. not (x == 36)) cs) h)
    ∙ append_assoc front (c ∷ []) cs

last-behind : (path name : List ℕ) → IsTrue (list_all (λ c. not (c == 36)) name) → last_name (path ++ 36 ∷ name) ≡ name
last-behind path name h = fold-append name_with [] path (36 ∷ name) ∙ plain-behind [] name h

-- the last name of a slot's view
abbrev name_at : Block → Slot → List ℕ
name_at b t = option_map_or (λ v. last_name v.path) (slice_get b.views t.view) []

named-parts : (b : Block) (w : Word) (slots : List Slot) → Each (SlotIsSound b w) slots → map (λ p. p.name) (flat_map (part_of b) slots) ≡ map (name_at b) slots
named-parts b w [] h = refl
named-parts b w (t ∷ ts) h =
    let of : part_of b t ≡ with_field t h.0.view (Some h.0.field) = ap (with_view b t) h.0.of_view ∙ ap (with_field t h.0.view) h.0.of_field in
    let name : last_name h.0.view.path ≡ name_at b t = sym (ap (λ (o : Option View). option_map_or (λ v. last_name v.path) o []) h.0.of_view) in
    ap (λ (ps : List Part). map (λ p. p.name) (ps ++ flat_map (part_of b) ts)) of ∙ (λ i. name i ∷ named-parts b w ts h.1 i)

-- two slots of a word that have one name are one
one-slot : (b : Block) → IsSound b → (w : Word) → WordIsApart b w → (j k : ℕ) (s t : Slot) → slice_get w.slots j ≡ Some s → slice_get w.slots k ≡ Some t → name_at b s ≡ name_at b t → j ≡ k
one-slot b sound w a j k s t at_j at_k e =
    let x = Each-at (IsNamedIn b a.register) w.slots j s a.named at_j in
    let y = Each-at (IsNamedIn b a.register) w.slots k t a.named at_k in
    let name : x.name ≡ y.name = sym (name-of s x) ∙ e ∙ name-of t y in
    let path : x.view.path ≡ y.view.path = x.of_path ∙ ap (λ n. a.register.path ++ 36 ∷ n) name ∙ sym y.of_path in
    let paths = Apart-from (map (λ v. v.path) b.views) (both_true (distinct (map (λ v. v.path) b.views)) _ sound.view_paths).0 in
    let view : s.view ≡ t.view = Apart-place (map (λ v. v.path) b.views) s.view t.view y.view.path paths (get-map_at (λ (v : View). v.path) b.views s.view x.view x.of_view ∙ ap Some path) (get-map_at (λ (v : View). v.path) b.views t.view y.view y.of_view) in
    let below = ordered j k s t at_j at_k view in
    let above = ordered k j t s at_k at_j (sym view) in
    grind (arith, below, above)
  where
    name-of : (u : Slot) (n : IsNamedIn b a.register u) → name_at b u ≡ n.name
    name-of u n = ap (λ (o : Option View). option_map_or (λ v. last_name v.path) o []) n.of_view ∙ ap last_name n.of_path ∙ last-behind a.register.path n.name n.of_name

    ordered : (j k : ℕ) (s t : Slot) → slice_get w.slots j ≡ Some s → slice_get w.slots k ≡ Some t → s.view ≡ t.view → j < k → ⊥
    ordered j k s t at_j at_k same less =
        let other = a.slots_apart j k s less (get-within w.slots k t at_k) in
        other (ap (λ (u : Slot). u.view) (get_or_from_slice_get w.slots j s s at_j) ∙ same ∙ ap (λ (u : Slot). u.view) (sym (get_or_from_slice_get w.slots k t s at_k)))

parts-told : (b : Block) → IsSound b → (w : Word) → WordIsApart b w → WordIsSound b w → (j k : ℕ) (p q : Part) → slice_get (parts b w) j ≡ Some p → slice_get (parts b w) k ≡ Some q → p.name ≡ q.name → j ≡ k
parts-told b sound w a h j k p q at_j at_k e =
    let names = named-parts b w w.slots h.slots in
    let s = slot-at j p at_j names in
    let t = slot-at k q at_k names in
    one-slot b sound w a j k s.0 t.0 s.1 t.1 (s.2 ∙ e ∙ sym t.2)
  where
    slot-at : (i : ℕ) (r : Part) → slice_get (parts b w) i ≡ Some r → map (λ p. p.name) (parts b w) ≡ map (name_at b) w.slots → (u : Slot) × (slice_get w.slots i ≡ Some u) × (name_at b u ≡ r.name)
    slot-at i r at names = get-mapped (name_at b) w.slots i r.name (ap (λ ns. slice_get ns i) (sym names) ∙ get-map_at (λ (x : Part). x.name) (parts b w) i r at)

-- Indices

-- how many pieces have a byte
abbrev filled : List (List ℕ) → ℕ
filled [] = 0
filled ([] ∷ ps) = filled ps
filled ((x ∷ p) ∷ ps) = suc (filled ps)

filled-first : (x : ℕ) (ps : List (List ℕ)) → filled (onto_first x ps) ≤ suc (filled ps)
filled-first x [] = omega arith
filled-first x ([] ∷ ps) = omega arith
filled-first x ((y ∷ p) ∷ ps) = omega arith

filled-split : (path : List ℕ) → filled (slice_split is_dollar path) ≤ length path
filled-split [] = omega arith
filled-split (c ∷ cs) = by (is_dollar c) refl (filled-split cs)
  where
    by : (t : Bool) → is_dollar c ≡ t → filled (slice_split is_dollar cs) ≤ length cs → filled (slice_split is_dollar (c ∷ cs)) ≤ suc (length cs)
    by true e few = let split = ap filled (slice_split-cons_yes is_dollar c cs e) in omega (arith, split, few)
    by false e few = let split = ap filled (slice_split-cons_no is_dollar c cs e) in let first = filled-first c (slice_split is_dollar cs) in omega (arith, split, first, few)

fewer-indices : (ps : List (List ℕ)) → length (filter is_index ps) ≤ filled ps
fewer-indices [] = omega arith
fewer-indices ([] ∷ ps) = fewer-indices ps
fewer-indices ((x ∷ p) ∷ ps) = by (is_index (x ∷ p)) (fewer-indices ps)
  where
    by : (t : Bool) → length (filter is_index ps) ≤ filled ps → length (cond t ((x ∷ p) ∷ filter is_index ps) (filter is_index ps)) ≤ suc (filled ps)
    by true h = omega (arith, h)
    by false h = omega (arith, h)

few-indices : (path : List ℕ) → length (indices path) ≤ length path
few-indices path =
    let same = length-map number_of (filter is_index (names_and_indices path)) in
    let fewer = fewer-indices (names_and_indices path) in
    let filled_ = filled-split path in
    omega (arith, same, fewer, filled_)

pub told : (b : Block) → IsSound b → IsApart b → AreTold b
told b s a = record {
  words = words-told b s a;
  names = λ w j k p q has. let h = Each-at (λ w. WordIsApart b w × WordIsSound b w) (all_words b) has.0 w (all-at b s a) has.1 in parts-told b s w h.0 h.1 j k p q;
  few = λ w has.
      let h = (Each-at (λ w. WordIsApart b w × WordIsSound b w) (all_words b) has.0 w (all-at b s a) has.1).0 in
      let path : path_of b w ≡ h.register.path = ap (λ (o : Option Reg). option_map_or (λ r. r.path) o []) h.of_register in
      let fewer = few-indices (path_of b w) in
      let short = h.short_path in
      let long = ap length path in
      (h.few_words, omega (arith, fewer, short, long));
}
