-- No two macros of words and fields have one name.
use Rattle.std.proofs.Common.{◌≡◌, ◌∙◌, ◌⊎◌, inl, inr, ℕ, suc, ◌+◌, ◌<◌, ◌≤◌, ◌^◌, ◌==◌, Bool, true, false, ◌&&◌, ◌||◌, cond, nat_lt, List, [], ◌∷◌, ◌++◌, append_assoc, codes, decimal, flat_map, get_or, length, map, Option, None, Some, slice_get, refl, sym, ap, subst, arith}
use Rattle.std.specs.List.{enumerate_from}
use Rattle.std.proofs.lemmas.Fmt.{decimal_injective}
use Rattle.std.proofs.lemmas.List.{append_cancel_left}
use Rattle.rb_model.specs.declared.block.Block.{Block}
use Rattle.rb_model.specs.declared.block.Field.{Field}
use Rattle.rb_model.specs.declared.block.Slot.{Slot}
use Rattle.rb_model.specs.declared.block.View.{View}
use Rattle.rb_model.specs.References.{Each}
use Rattle.rb_model.specs.Sound.{IsSound}
use Rattle.rb_model.proofs.Apart.{Apart, Apart-flat_map, Apart-kinds}
use Rattle.rb_model.proofs.Eachs.{Each-append, Each-at, Each-flat_map, Each-weaker}
use Rattle.word_groups.specs.declared.entries.Entry.{Entry}
use Rattle.word_groups.specs.declared.parts.Part.{Part}
use Rattle.word_groups.specs.Arrays.{entries}
use Rattle.word_groups.specs.Parts.{part_of, parts, resval, with_field, with_view}
use Rattle.c_header.proofs.Telling.{AreTold}
use Rattle.c_header.specs.Macros.{Count, Macro, Number, Value, along, entry_macros, entry_name, from_macros, given, index_mark, macro, macros, part_macros, part_name, word_macros}
use Rattle.c_header.specs.Names.{prefix}
use Rattle.c_header.proofs.Capitals.{high, prefix-high}
use Rattle.c_header.proofs.Keys.{IsMade, apart-by, each-by, entries-apart, entries-made, entry_key}
use Rattle.c_header.proofs.LastWords.{decimal-lacks, lacks, last-split}
use Rattle.c_header.proofs.Named.{last_name-lacks, same-part, same-word}
use Rattle.plain_lemmas.proofs.Bools.{and-both_true, and-left, and-right}
use Rattle.plain_lemmas.proofs.Lists.{get-mapped, map-append, map-flat_map as map-flat}
use Rattle.plain_lemmas.proofs.Numbers.{below-nat_lt}

-- Last words.

abbrev pub name_of : Macro → List ℕ
name_of m = m.name

-- SHIFT, BITS, MASK, FROM and RESET, by their second letter, and by the fourth where RESVAL has the same
abbrev is_parts : List ℕ → Bool
is_parts w = (get_or w 1 0 == 72) || (get_or w 1 0 == 73) || (get_or w 1 0 == 65) || (get_or w 1 0 == 82) || (get_or w 3 0 == 69 && get_or w 1 0 == 69)

-- the place of a last word among those of its kind
abbrev rank : List ℕ → ℕ
rank w = cond (get_or w 1 0 == 70 || get_or w 1 0 == 72) 0 (cond (get_or w 1 0 == 79 || get_or w 1 0 == 73) 1 (cond (get_or w 1 0 == 84 || get_or w 1 0 == 65) 2 (cond (get_or w 1 0 == 89 || get_or w 1 0 == 82) 3 4)))

-- a base, and a last word of a kind and a rank
pub record Ends (base : List ℕ) (kind : Bool) (at : ℕ) (n : List ℕ) : Type 0 where
  pub word : List ℕ
  pub is : n ≡ base ++ 95 ∷ word
  pub lacks_gap : lacks 95 word ≡ true
  pub of_kind : is_parts word ≡ kind
  pub ranked : rank word ≡ at
  pub other : (get_or word 0 0 == 86) ≡ false

-- names in the order of their last words
pub record Ranked (base : List ℕ) (kind : Bool) (from : ℕ) (ns : List (List ℕ)) : Type 0 where
  pub apart : Apart ns
  pub each : Each (λ n. (at : ℕ) × (from ≤ at) × Ends base kind at n) ns

ranked-none : (base : List ℕ) (kind : Bool) (from : ℕ) → Ranked base kind from []
ranked-none base kind from = record { apart = tt; each = tt }

ranked-more : (base : List ℕ) (kind : Bool) (from : ℕ) (ms ns : List (List ℕ)) → Apart ms → Each (Ends base kind from) ms → Ranked base kind (suc from) ns → Ranked base kind from (ms ++ ns)
ranked-more base kind from ms ns a h r = record {
  apart = Apart-kinds (Ends base kind from) (λ n. (at : ℕ) × (suc from ≤ at) × Ends base kind at n) differ ms ns a r.apart h r.each;
  each = Each-append (λ n. (at : ℕ) × (from ≤ at) × Ends base kind at n) ms ns
      (Each-weaker (Ends base kind from) (λ n. (at : ℕ) × (from ≤ at) × Ends base kind at n) (λ n e. (from, omega arith, e)) ms h)
      (Each-weaker (λ n. (at : ℕ) × (suc from ≤ at) × Ends base kind at n) (λ n. (at : ℕ) × (from ≤ at) × Ends base kind at n) (λ n e. (e.0, (let above = e.1 in omega (arith, above)), e.2)) ns r.each);
}
  where
    differ : (m n : List ℕ) → Ends base kind from m → (at : ℕ) × (suc from ≤ at) × Ends base kind at n → n ≡ m → ⊥
    differ m n x (at, above, y) e =
        let split = last-split 95 base base y.word x.word y.lacks_gap x.lacks_gap (sym y.is ∙ e ∙ x.is) in
        let same : at ≡ from = sym y.ranked ∙ ap rank split.1 ∙ x.ranked in
        omega (arith, above, same)

one-name : (base : List ℕ) (kind : Bool) (from : ℕ) (n : List ℕ) (ns : List (List ℕ)) → Ends base kind from n → Ranked base kind (suc from) ns → Ranked base kind from (n ∷ ns)
one-name base kind from n ns e r = ranked-more base kind from (n ∷ []) ns (tt, tt) (e, tt) r

-- Macros along indices.

lacks-append : (c : ℕ) (xs ys : List ℕ) → lacks c xs ≡ true → lacks c ys ≡ true → lacks c (xs ++ ys) ≡ true
lacks-append c [] ys h k = k
lacks-append c (x ∷ xs) ys h k = and-both_true _ (lacks c (xs ++ ys)) (and-left _ (lacks c xs) h) (lacks-append c xs ys (and-right _ (lacks c xs) h) k)

mark-lacks : (several : Bool) (k : ℕ) → lacks 95 (index_mark several k) ≡ true
mark-lacks true k = decimal-lacks k
mark-lacks false k = refl

numbered-apart : (f : ℕ → List ℕ) (n : ℕ) (xs : List ℕ) (end : ℕ) → n + length xs ≤ end → ((j k : ℕ) → j < end → k < end → f j ≡ f k → j ≡ k) → Apart (map (λ k. f k.0) (enumerate_from n xs))
numbered-apart f n [] end l one = tt
numbered-apart f n (x ∷ xs) end l one = (others (n + 1) xs (omega arith) (omega (arith, l)), numbered-apart f (n + 1) xs end (omega (arith, l)) one)
  where
    others : (m : ℕ) (ys : List ℕ) → n < m → m + length ys ≤ end → Each (λ y. y ≡ f n → ⊥) (map (λ k. f k.0) (enumerate_from m ys))
    others m [] above h = tt
    others m (y ∷ ys) above h = ((λ e. let same : m ≡ n = one m n (omega (arith, h)) (omega (arith, h, above)) e in omega (arith, same, above)), others (m + 1) ys (omega (arith, above)) (omega (arith, h)))

along-names : (base word : List ℕ) (value : ℕ → Value) (ns : List ℕ) → map name_of (along base word value ns) ≡ map (λ k. base ++ (word ++ index_mark (nat_lt 1 (length ns)) k.0)) (enumerate_from 0 ns)
along-names base word value ns = go (nat_lt 1 (length ns)) (enumerate_from 0 ns)
  where
    go : (several : Bool) (ks : List (ℕ × ℕ)) → map name_of (map (λ k. macro base (word ++ index_mark several k.0) (value k.1)) ks) ≡ map (λ k. base ++ (word ++ index_mark several k.0)) ks
    go several [] = refl
    go several (k ∷ ks) = ap (λ ys. (base ++ (word ++ index_mark several k.0)) ∷ ys) (go several ks)

along-apart : (base word : List ℕ) (value : ℕ → Value) (ns : List ℕ) → length ns < 2 ^ 64 → Apart (map name_of (along base word value ns))
along-apart base word value [] small = tt
along-apart base word value (n ∷ []) small = (tt, tt)
along-apart base word value (m ∷ n ∷ ns) small =
    let several : nat_lt 1 (length (m ∷ n ∷ ns)) ≡ true = below-nat_lt 1 (length (m ∷ n ∷ ns)) (omega arith) in
    subst Apart (sym (along-names base word value (m ∷ n ∷ ns)))
    (subst (λ s. Apart (map (λ k. base ++ (word ++ index_mark s k.0)) (enumerate_from 0 (m ∷ n ∷ ns)))) (sym several)
    (numbered-apart (λ k. base ++ (word ++ decimal k)) 0 (m ∷ n ∷ ns) (length (m ∷ n ∷ ns)) (omega arith) one))
  where
    one : (j k : ℕ) → j < length (m ∷ n ∷ ns) → k < length (m ∷ n ∷ ns) → base ++ (word ++ decimal j) ≡ base ++ (word ++ decimal k) → j ≡ k
    one j k a b e = decimal_injective j k (omega (arith, a, small)) (omega (arith, b, small)) (append_cancel_left word (decimal j) (decimal k) (append_cancel_left base (word ++ decimal j) (word ++ decimal k) e))

along-ends : (base word : List ℕ) (at : ℕ) (value : ℕ → Value) (ns : List ℕ) → ((several : Bool) (k : ℕ) → Ends base false at (base ++ (word ++ index_mark several k))) → Each (Ends base false at) (map name_of (along base word value ns))
along-ends base word at value ns h = subst (Each (Ends base false at)) (sym (along-names base word value ns)) (go (nat_lt 1 (length ns)) (enumerate_from 0 ns))
  where
    go : (several : Bool) (ks : List (ℕ × ℕ)) → Each (Ends base false at) (map (λ k. base ++ (word ++ index_mark several k.0)) ks)
    go several [] = tt
    go several (k ∷ ks) = (h several k.0, go several ks)

-- The names of a word's macros.

offset-ends : (base : List ℕ) → Ends base false 0 (base ++ codes "_OFFSET")
offset-ends base = record { word = codes "OFFSET"; is = refl; lacks_gap = refl; of_kind = refl; ranked = refl; other = refl }

count-ends : (base : List ℕ) (several : Bool) (k : ℕ) → Ends base false 1 (base ++ (codes "_COUNT" ++ index_mark several k))
count-ends base several k = record { word = codes "COUNT" ++ index_mark several k; is = refl; lacks_gap = lacks-append 95 (codes "COUNT") (index_mark several k) refl (mark-lacks several k); of_kind = refl; ranked = refl; other = refl }

stride-ends : (base : List ℕ) (several : Bool) (k : ℕ) → Ends base false 2 (base ++ (codes "_STRIDE" ++ index_mark several k))
stride-ends base several k = record { word = codes "STRIDE" ++ index_mark several k; is = refl; lacks_gap = lacks-append 95 (codes "STRIDE") (index_mark several k) refl (mark-lacks several k); of_kind = refl; ranked = refl; other = refl }

bytes-ends : (base : List ℕ) → Ends base false 3 (base ++ codes "_BYTES")
bytes-ends base = record { word = codes "BYTES"; is = refl; lacks_gap = refl; of_kind = refl; ranked = refl; other = refl }

given-ranked : (base word : List ℕ) (kind : Bool) (at : ℕ) (o : Option ℕ) → Ends base kind at (base ++ word) → Ranked base kind at (map name_of (given base word o))
given-ranked base word kind at None h = ranked-none base kind at
given-ranked base word kind at (Some n) h = one-name base kind at (base ++ word) [] h (ranked-none base kind (suc at))

words-ranked : (base : List ℕ) (u : Entry) → length u.lengths < 2 ^ 64 → length u.strides < 2 ^ 64 → Ranked base false 0 (map name_of (word_macros base u))
words-ranked base u few_lengths few_strides =
    let counts = along base (codes "_COUNT") Count u.lengths in
    let strides = along base (codes "_STRIDE") Number u.strides in
    let last = macro base (codes "_BYTES") (Count u.bytes) ∷ given base (codes "_RESVAL") (resval u.parts) in
    let names : map name_of ((counts ++ strides) ++ last) ≡ map name_of counts ++ (map name_of strides ++ map name_of last) =
    map-append name_of (counts ++ strides) last ∙ ap (λ ys. ys ++ map name_of last) (map-append name_of counts strides) ∙ append_assoc (map name_of counts) (map name_of strides) (map name_of last) in
    one-name base false 0 (base ++ codes "_OFFSET") (map name_of ((counts ++ strides) ++ last)) (offset-ends base) (subst (Ranked base false 1) (sym names)
    (ranked-more base false 1 (map name_of counts) (map name_of strides ++ map name_of last) (along-apart base (codes "_COUNT") Count u.lengths few_lengths) (along-ends base (codes "_COUNT") 1 Count u.lengths (count-ends base))
    (ranked-more base false 2 (map name_of strides) (map name_of last) (along-apart base (codes "_STRIDE") Number u.strides few_strides) (along-ends base (codes "_STRIDE") 2 Number u.strides (stride-ends base))
    (one-name base false 3 (base ++ codes "_BYTES") (map name_of (given base (codes "_RESVAL") (resval u.parts))) (bytes-ends base)
    (given-ranked base (codes "_RESVAL") false 4 (resval u.parts) (record { word = codes "RESVAL"; is = refl; lacks_gap = refl; of_kind = refl; ranked = refl; other = refl }))))))

-- The names of a part's macros.

parts-ranked : (base : List ℕ) (p : Part) → Ranked base true 0 (map name_of (part_macros base p))
parts-ranked base p =
    let rest = map name_of (from_macros base p ++ given base (codes "_RESET") p.reset) in
    one-name base true 0 (base ++ codes "_SHIFT") ((base ++ codes "_BITS") ∷ (base ++ codes "_MASK") ∷ rest) (record { word = codes "SHIFT"; is = refl; lacks_gap = refl; of_kind = refl; ranked = refl; other = refl })
    (one-name base true 1 (base ++ codes "_BITS") ((base ++ codes "_MASK") ∷ rest) (record { word = codes "BITS"; is = refl; lacks_gap = refl; of_kind = refl; ranked = refl; other = refl })
    (one-name base true 2 (base ++ codes "_MASK") rest (record { word = codes "MASK"; is = refl; lacks_gap = refl; of_kind = refl; ranked = refl; other = refl })
    (subst (Ranked base true 3) (sym (map-append name_of (from_macros base p) (given base (codes "_RESET") p.reset))) (go p.whole))))
  where
    reset : Ranked base true 4 (map name_of (given base (codes "_RESET") p.reset))
    reset = given-ranked base (codes "_RESET") true 4 p.reset (record { word = codes "RESET"; is = refl; lacks_gap = refl; of_kind = refl; ranked = refl; other = refl })

    go : (c : Bool) → Ranked base true 3 (map name_of (cond c [] (macro base (codes "_FROM") (Count p.from) ∷ [])) ++ map name_of (given base (codes "_RESET") p.reset))
    go true = ranked-more base true 3 [] (map name_of (given base (codes "_RESET") p.reset)) tt tt reset
    go false = one-name base true 3 (base ++ codes "_FROM") (map name_of (given base (codes "_RESET") p.reset)) (record { word = codes "FROM"; is = refl; lacks_gap = refl; of_kind = refl; ranked = refl; other = refl }) reset

-- All names.

-- a name of an entry's word, or of a part of it
abbrev OfWord : List ℕ → List ℕ → Type 0
OfWord base n = (at : ℕ) × Ends base false at n

abbrev OfPart : List ℕ → List ℕ → Type 0
OfPart base n = (at : ℕ) × Ends base true at n

bases : (kind : Bool) (x y m n : List ℕ) → (at : ℕ) × Ends x kind at m → (at : ℕ) × Ends y kind at n → n ≡ m → x ≡ y
bases kind x y m n (s, h) (t, k) e = let split = last-split 95 y x k.word h.word k.lacks_gap h.lacks_gap (sym k.is ∙ e ∙ h.is) in sym split.0

kinds : (x y m n : List ℕ) → OfWord x m → OfPart y n → n ≡ m → ⊥
kinds x y m n (s, h) (t, k) e =
    let split = last-split 95 y x k.word h.word k.lacks_gap h.lacks_gap (sym k.is ∙ e ∙ h.is) in
    let bad : true ≡ false = sym k.of_kind ∙ ap is_parts split.1 ∙ h.of_kind in cc bad

module _ (b : Block) (s : IsSound b) (a : AreTold b) where
  abbrev us : List Entry
  us = entries b

  abbrev begin : List ℕ
  begin = prefix b.name

  capitals : high begin ≡ true
  capitals = prefix-high b.name

  made : (k : ℕ) (e : Entry) → slice_get us k ≡ Some e → IsMade b e
  made k e at = Each-at (IsMade b) us k e (entries-made b a s) at

  few : (e : Entry) → IsMade b e → e.number < 2 ^ 64
  few e m = let small = (a.few m.word m.has).0 in let same = m.number in omega (arith, small, same)

  one-name_lacks : (e : Entry) → IsMade b e → (k : ℕ) (p : Part) → slice_get e.parts k ≡ Some p → lacks 36 p.name ≡ true
  one-name_lacks e m k p at = Each-at (λ (q : Part). lacks 36 q.name ≡ true) (parts b m.word) k p (all m.word.slots) (ap (λ ps. slice_get ps k) (sym m.parts_) ∙ at)
    where
      all : (slots : List Slot) → Each (λ (q : Part). lacks 36 q.name ≡ true) (flat_map (part_of b) slots)
      all slots = Each-flat_map (λ (q : Part). lacks 36 q.name ≡ true) (part_of b) slots (each slots)
        where
          one : (s : Slot) → Each (λ (q : Part). lacks 36 q.name ≡ true) (part_of b s)
          one s = viewed (slice_get b.views s.view)
            where
              viewed : (o : Option View) → Each (λ (q : Part). lacks 36 q.name ≡ true) (with_view b s o)
              viewed None = tt
              viewed (Some v) = fielded (slice_get b.fields v.field)
                where
                  fielded : (o : Option Field) → Each (λ (q : Part). lacks 36 q.name ≡ true) (with_field s v o)
                  fielded None = tt
                  fielded (Some f) = (last_name-lacks v.path, tt)

          each : (ss : List Slot) → Each (λ s. Each (λ (q : Part). lacks 36 q.name ≡ true) (part_of b s)) ss
          each [] = tt
          each (s ∷ ss) = (one s, each ss)

  -- of an entry: a name of its word, or of one of its parts
  abbrev OfEntry : Entry → List ℕ → Type 0
  OfEntry e n = OfWord (entry_name begin us e) n ⊎ ((k : ℕ) × (p : Part) × (slice_get e.parts k ≡ Some p) × OfPart (part_name begin us e p) n)

  abbrev OfKey : List ℕ → List ℕ → Type 0
  OfKey key n = (k : ℕ) × (e : Entry) × (slice_get us k ≡ Some e) × (entry_key e ≡ key) × OfEntry e n

  one-key : (x y m n : List ℕ) → OfKey x m → OfKey y n → n ≡ m → x ≡ y
  one-key x y m n (j, d, at_d, key_d, of_d) (k, e, at_e, key_e, of_e) q = sym key_d ∙ keys of_d of_e ∙ key_e
    where
      keys : OfEntry d m → OfEntry e n → entry_key d ≡ entry_key e
      keys (inl g) (inl h) = same-word begin us capitals j k d e at_d at_e (few d (made j d at_d)) (few e (made k e at_e)) (bases false (entry_name begin us d) (entry_name begin us e) m n g h q)
      keys (inl g) (inr (l, p, at_p, h)) = absurd (kinds (entry_name begin us d) (part_name begin us e p) m n g h q)
      keys (inr (l, p, at_p, g)) (inl h) = absurd (kinds (entry_name begin us e) (part_name begin us d p) n m h g (sym q))
      keys (inr (l, p, at_p, g)) (inr (i, r, at_r, h)) = (same-part begin us capitals j k d e l i p r at_d at_e (few d (made j d at_d)) (few e (made k e at_e)) at_p at_r
          (one-name_lacks d (made j d at_d) l p at_p) (one-name_lacks e (made k e at_e) i r at_r) (bases true (part_name begin us d p) (part_name begin us e r) m n g h q)).0

  unranked : (base : List ℕ) (kind : Bool) (ns : List (List ℕ)) → Ranked base kind 0 ns → Each (λ n. (at : ℕ) × Ends base kind at n) ns
  unranked base kind ns r = Each-weaker (λ n. (at : ℕ) × (0 ≤ at) × Ends base kind at n) (λ n. (at : ℕ) × Ends base kind at n) (λ n e. (e.0, e.2)) ns r.each

  -- the names of an entry
  module _ (j : ℕ) (e : Entry) (at : slice_get us j ≡ Some e) where
    abbrev of_word : List (List ℕ)
    of_word = map name_of (word_macros (entry_name begin us e) e)

    abbrev part_names : Part → List (List ℕ)
    part_names p = map name_of (part_macros (part_name begin us e p) p)

    word_ranked : Ranked (entry_name begin us e) false 0 of_word
    word_ranked = words-ranked (entry_name begin us e) e (made j e at).lengths_ (made j e at).strides_

    part_ranked : (p : Part) → Ranked (part_name begin us e p) true 0 (part_names p)
    part_ranked p = parts-ranked (part_name begin us e p) p

    parts_differ : Apart (map (λ p. p.name) e.parts)
    parts_differ = apart-by (map (λ p. p.name) e.parts) (λ k l n x y.
        let m = made j e at in
        let p = get-mapped (λ (q : Part). q.name) e.parts k n x in
        let r = get-mapped (λ (q : Part). q.name) e.parts l n y in
        a.names m.word k l p.0 r.0 m.has (ap (λ ps. slice_get ps k) (sym m.parts_) ∙ p.1) (ap (λ ps. slice_get ps l) (sym m.parts_) ∙ r.1) (p.2 ∙ sym r.2))

    abbrev OfName : List ℕ → List ℕ → Type 0
    OfName name n = (k : ℕ) × (p : Part) × (slice_get e.parts k ≡ Some p) × (p.name ≡ name) × OfPart (part_name begin us e p) n

    one-part : (x y m n : List ℕ) → OfName x m → OfName y n → n ≡ m → x ≡ y
    one-part x y m n (k, p, at_p, is_p, g) (l, r, at_r, is_r, h) q =
        let small = few e (made j e at) in
        let lacking = one-name_lacks e (made j e at) in
        sym is_p ∙ (same-part begin us capitals j j e e k l p r at at small small at_p at_r (lacking k p at_p) (lacking l r at_r) (bases true (part_name begin us e p) (part_name begin us e r) m n g h q)).1 ∙ is_r

    parts_apart : Apart (flat_map part_names e.parts)
    parts_apart = Apart-flat_map OfName one-part (λ p. p.name) part_names e.parts parts_differ (each-by (λ p. Apart (part_names p) × Each (OfName p.name) (part_names p)) e.parts (λ k p x.
        ((part_ranked p).apart, Each-weaker (OfPart (part_name begin us e p)) (OfName p.name) (λ n of. (k, p, x, refl, of)) (part_names p) (unranked (part_name begin us e p) true (part_names p) (part_ranked p)))))

    abbrev OfSome : List ℕ → Type 0
    OfSome n = (k : ℕ) × (p : Part) × (slice_get e.parts k ≡ Some p) × OfPart (part_name begin us e p) n

    of_parts : Each OfSome (flat_map part_names e.parts)
    of_parts = Each-flat_map OfSome part_names e.parts (each-by (λ p. Each OfSome (part_names p)) e.parts (λ k p x.
        Each-weaker (OfPart (part_name begin us e p)) OfSome (λ n of. (k, p, x, of)) (part_names p) (unranked (part_name begin us e p) true (part_names p) (part_ranked p))))

    names : map name_of (entry_macros begin us e) ≡ of_word ++ flat_map part_names e.parts
    names = map-append name_of (word_macros (entry_name begin us e) e) (flat_map (λ p. part_macros (part_name begin us e p) p) e.parts)
        ∙ ap (λ ys. of_word ++ ys) (map-flat name_of (λ p. part_macros (part_name begin us e p) p) e.parts)

    of_words : Each (OfWord (entry_name begin us e)) of_word
    of_words = unranked (entry_name begin us e) false of_word word_ranked

    pub entry_apart : Apart (map name_of (entry_macros begin us e)) × Each (OfKey (entry_key e)) (map name_of (entry_macros begin us e))
    entry_apart =
        let apart = Apart-kinds (OfWord (entry_name begin us e)) OfSome
        (λ m n g h q. kinds (entry_name begin us e) (part_name begin us e h.1) m n g h.3 q) of_word (flat_map part_names e.parts) word_ranked.apart parts_apart of_words of_parts in
        let each : Each (OfKey (entry_key e)) (of_word ++ flat_map part_names e.parts) = Each-append (OfKey (entry_key e)) of_word (flat_map part_names e.parts)
        (Each-weaker (OfWord (entry_name begin us e)) (OfKey (entry_key e)) (λ n g. (j, e, at, refl, inl g)) of_word of_words)
        (Each-weaker OfSome (OfKey (entry_key e)) (λ n g. (j, e, at, refl, inr g)) (flat_map part_names e.parts) of_parts) in
        (subst Apart (sym names) apart, subst (Each (OfKey (entry_key e))) (sym names) each)

  -- a base, and a last word that doesn't begin with V
  abbrev pub IsOther : List ℕ → Type 0
  IsOther n = (base : List ℕ) × (word : List ℕ) × (n ≡ base ++ 95 ∷ word) × (lacks 95 word ≡ true) × ((get_or word 0 0 == 86) ≡ false)

  other : (e : Entry) (n : List ℕ) → OfEntry e n → IsOther n
  other e n (inl (at, h)) = (entry_name begin us e, h.word, h.is, h.lacks_gap, h.other)
  other e n (inr (k, p, at_p, of)) = (part_name begin us e p, of.1.word, of.1.is, of.1.lacks_gap, of.1.other)

  pub all_other : Each IsOther (map name_of (macros begin us))
  all_other = subst (Each IsOther) (sym (map-flat name_of (entry_macros begin us) us))
      (Each-flat_map IsOther (λ e. map name_of (entry_macros begin us e)) us (each-by (λ e. Each IsOther (map name_of (entry_macros begin us e))) us (λ j e at.
      Each-weaker (OfKey (entry_key e)) IsOther (λ n h. other h.1 n h.4) (map name_of (entry_macros begin us e)) (entry_apart j e at).1)))

  pub all_apart : Apart (map name_of (macros begin us))
  all_apart = subst Apart (sym (map-flat name_of (entry_macros begin us) us))
      (Apart-flat_map OfKey one-key entry_key (λ e. map name_of (entry_macros begin us e)) us (entries-apart b a s) (each-by (λ e. Apart (map name_of (entry_macros begin us e)) × Each (OfKey (entry_key e)) (map name_of (entry_macros begin us e))) us (λ j e at. entry_apart j e at)))
