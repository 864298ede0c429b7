-- Items wanted one after the other.
use Rattle.std.proofs.Common.{◌≡◌, ◌≢◌, ◌⊎◌, inl, inr, ℕ, suc, ◌+◌, ◌<◌, ◌≤◌, ◌==◌, Bool, true, false, ◌&&◌, if◌then◌else◌, Option, None, Some, List, [], ◌∷◌, ◌++◌, length, map, filter, take, slice_get, get_or, refl, sym, ap, ◌∙◌, subst, arith}
use Rattle.std.specs.Prelude.{Contains}
use Rattle.std.specs.List.{enumerate_from, flat_map}
use Rattle.std.specs.Option.{option_map_or}
use Rattle.std.proofs.lemmas.Grind.{flat_map-append}
use Rattle.std.proofs.lemmas.List.{take_all, take_more}
use Rattle.std.proofs.lemmas.List.Elements.{Contains-append_left, Contains-append_right}
use Rattle.std.proofs.lemmas.List.Sorted.{Contains-permutation}
use Rattle.std.proofs.lemmas.Option.{same_Some, slice_get_read, slice_get_within}
use Rattle.rb_model.specs.declared.kinds.RefItem.{RefItem}
use Rattle.rb_model.specs.declared.kinds.RefItem.TheVariants as item
use Rattle.rb_model.specs.declared.block.Block.{Block}
use Rattle.rb_model.specs.declared.block.Field.{Field}
use Rattle.rb_model.specs.Items.{is_interrupt, items}
use Rattle.rb_model.specs.Kept.{of_field}
use Rattle.rb_model.specs.References.{Each, StandsBefore, count_refs, mask_refs, refs}
use Rattle.rb_model.specs.Sound.{IsSound}
use Rattle.rb_model.proofs.Eachs.{Each-append, Each-at, Each-both, Each-weaker}
use Rattle.block_plan.specs.Plan.{is_member, members_among}
use Rattle.block_plan.specs.Table.{item_place}
use Rattle.block_plan.specs.Wanted.{Adds, AreIn, IsClosed, IsMore, is_wanted}
use Rattle.block_plan.specs.Lines.{has_line, line_mask}
use Rattle.block_plan.specs.Needs.{line_item, member_refs}
use Rattle.plain_lemmas.proofs.Numbers.{below_next-same_or as last_or_before, same_or_above}

pub IsMore-refl : (w : List Bool) → IsMore w w
IsMore-refl w = record { long = refl; more = λ i h. h }

pub IsMore-trans : (u v w : List Bool) → IsMore u v → IsMore v w → IsMore u w
IsMore-trans u v w h g = record { long = g.long ∙ h.long; more = λ i q. g.more i (h.more i q) }

pub still_in : (u v : List Bool) (is : List RefItem) → IsMore u v → AreIn u is → AreIn v is
still_in u v is h = Each-weaker (λ i. item_place i < length u → is_wanted u i ≡ true) (λ i. item_place i < length v → is_wanted v i ≡ true) (λ i q low. h.more i (q (subst (λ n. item_place i < n) h.long low))) is

pub none_added : (w : List Bool) → Adds w w []
none_added w = record { older = IsMore-refl w; these = tt; only = λ i h was. absurd (let q : false ≡ true = sym was ∙ h in cc) }

-- what is added twice
pub both_added : (u v w : List Bool) (is js : List RefItem) → Adds u v is → Adds v w js → Adds u w (is ++ js)
both_added u v w is js h g = record {
  older = IsMore-trans u v w h.older g.older;
  these = Each-append (λ i. item_place i < length w → is_wanted w i ≡ true) is js (still_in v w is g.older h.these) g.these;
  only = λ i q was. by i q was (is_wanted v i) refl;
}
  where
    by : (i : RefItem) → is_wanted w i ≡ true → is_wanted u i ≡ false → (c : Bool) → is_wanted v i ≡ c → Contains (is ++ js) i
    by i q was true e = Contains-append_left is js i (h.only i e was)
    by i q was false e = Contains-append_right is js i (g.only i q e)

-- what counters refer to
pub count_at : (b : Block) (k : ℕ) → count_refs (of_field b k None (λ f. f.count)) ≡ of_field b k [] (λ f. count_refs f.count)
count_at b k = by (slice_get b.fields k)
  where
    by : (o : Option Field) → count_refs (option_map_or (λ f. f.count) o None) ≡ option_map_or (λ f. count_refs f.count) o []
    by None = refl
    by (Some f) = refl

-- What a line of a register refers to

abbrev pub member_at : Block → Bool → ℕ → List RefItem
member_at b halt k = of_field b k [] (λ f. member_refs halt (k, f))

abbrev line_refs : Bool → ℕ → ℕ × Field → List RefItem
line_refs halt r f = if has_line halt f.1 && is_interrupt f.1.latch && f.1.reg == r then item.Field f.0 ∷ mask_refs (line_mask halt f.1) else []

pick : (h p q : Bool) (xs : List RefItem) → (if h && p && q then xs else []) ≡ (if p && q then (if h then xs else []) else [])
pick true true true xs = refl
pick true true false xs = refl
pick true false true xs = refl
pick true false false xs = refl
pick false true true xs = refl
pick false true false xs = refl
pick false false true xs = refl
pick false false false xs = refl

members_lines : (b : Block) (halt : Bool) (r n : ℕ) (rest : List Field) → ((j : ℕ) (f : Field) → slice_get rest j ≡ Some f → slice_get b.fields (n + j) ≡ Some f)
    → flat_map (member_at b halt) (map (λ (e : ℕ × Field). e.0) (filter (is_member r) (enumerate_from n rest))) ≡ flat_map (line_refs halt r) (enumerate_from n rest)
members_lines b halt r n [] h = refl
members_lines b halt r n (f ∷ rest) h =
    let z : n + 0 ≡ n = omega arith in
    let here : slice_get b.fields n ≡ Some f = ap (slice_get b.fields) (sym z) ∙ h 0 f refl in
    one (filter (is_member r) (enumerate_from (n + 1) rest)) (is_member r (n, f)) ∙ ap (λ xs. (if is_member r (n, f) then member_at b halt n else []) ++ xs) (members_lines b halt r (n + 1) rest (λ j g e. let q : n + 1 + j ≡ n + suc j = omega arith in ap (slice_get b.fields) q ∙ h (suc j) g e))
    ∙ ap (λ xs. xs ++ flat_map (line_refs halt r) (enumerate_from (n + 1) rest)) (ap (λ xs. if is_member r (n, f) then xs else []) (member_is b halt n f here) ∙ sym (pick (has_line halt f) (is_interrupt f.latch) (f.reg == r) (item.Field n ∷ mask_refs (line_mask halt f))))
  where
    member_is : (b : Block) (halt : Bool) (n : ℕ) (f : Field) → slice_get b.fields n ≡ Some f → member_at b halt n ≡ member_refs halt (n, f)
    member_is b halt n f here = rw here refl

    one : (es : List (ℕ × Field)) (c : Bool) → flat_map (member_at b halt) (map (λ (e : ℕ × Field). e.0) (if c then (n, f) ∷ es else es)) ≡ (if c then member_at b halt n else []) ++ flat_map (member_at b halt) (map (λ (e : ℕ × Field). e.0) es)
    one es true = refl
    one es false = refl

pub line_is : (b : Block) (halt : Bool) (r : ℕ) → flat_map (member_at b halt) (members_among b.fields r) ≡ refs b (line_item halt r)
line_is b true r = members_lines b true r 0 b.fields (λ j f h. let z : 0 + j ≡ j = omega arith in ap (slice_get b.fields) z ∙ h)
line_is b false r = members_lines b false r 0 b.fields (λ j f h. let z : 0 + j ≡ j = omega arith in ap (slice_get b.fields) z ∙ h)

-- one more member of a line
pub member_added : (b : Block) (halt : Bool) (ks : List ℕ) (i : ℕ) (u v w : List Bool) → i < length ks → Adds u v (flat_map (member_at b halt) (take i ks)) → Adds v w (member_at b halt (get_or ks i 0)) → Adds u w (flat_map (member_at b halt) (take (i + 1) ks))
member_added b halt ks i u v w low h g = subst (Adds u w) (sym (ap (flat_map (member_at b halt)) (take_more ks i 0 low) ∙ flat_map-append (member_at b halt) (take i ks) (get_or ks i 0 ∷ []) ∙ ap (λ xs. flat_map (member_at b halt) (take i ks) ++ xs) (end (member_at b halt (get_or ks i 0)))))
    (both_added u v w _ _ h g)
  where
    end : (xs : List RefItem) → xs ++ [] ≡ xs
    end [] = refl
    end (x ∷ xs) = ap (λ ys. x ∷ ys) (end xs)

pub members_added : (b : Block) (halt : Bool) (r i : ℕ) (ks : List ℕ) (u v : List Bool) → length ks ≤ i → ks ≡ members_among b.fields r → Adds u v (flat_map (member_at b halt) (take i ks)) → Adds u v (refs b (line_item halt r))
members_added b halt r i ks u v past e h = subst (Adds u v) (ap (flat_map (member_at b halt)) (take_all i ks past ∙ e) ∙ line_is b halt r) h

-- What all outputs, fields or views need

-- the first of these have what they need
pub record NeedsTo {X : Type 0} (f : ℕ → X → List RefItem) (xs : List X) (u w : List Bool) (end : ℕ) : Type 0 where
  pub older : IsMore u w
  pub each : (k : ℕ) (x : X) → k < end → slice_get xs k ≡ Some x → AreIn w (f k x)

pub no_needs : {X : Type 0} (f : ℕ → X → List RefItem) (xs : List X) (w : List Bool) → NeedsTo f xs w w 0
no_needs f xs w = record { older = IsMore-refl w; each = λ k x low here. absurd (omega (arith, low)) }

pub needs_more : {X : Type 0} (f : ℕ → X → List RefItem) (xs : List X) (u v w : List Bool) (end : ℕ) (x : X) → slice_get xs end ≡ Some x → NeedsTo f xs u v end → Adds v w (f end x) → NeedsTo f xs u w (end + 1)
needs_more f xs u v w end x here h g = record {
  older = IsMore-trans u v w h.older g.older;
  each = λ k y low there. elim (last_or_before k end low) [
    | inl e ↦ let same : x ≡ y = same_Some x y (sym here ∙ (ap (slice_get xs) (sym e) ∙ there)) in subst (λ m. AreIn w (f m y)) (sym e) (subst (λ z. AreIn w (f end z)) same g.these)
    | inr l ↦ still_in v w (f k y) g.older (h.each k y l there)
  ];
}

pub all_needs : {X : Type 0} (f : ℕ → X → List RefItem) (xs : List X) (u w : List Bool) (end : ℕ) → length xs ≤ end → NeedsTo f xs u w end → (k : ℕ) (x : X) → slice_get xs k ≡ Some x → AreIn w (f k x)
all_needs f xs u w end past h k x here = h.each k x (let low = slice_get_within xs k x here in omega (arith, low, past)) here

-- What wanted items refer to

abbrev pub HasRoom : Block → ℕ → Type 0
HasRoom b n = (k : ℕ) (i : RefItem) → slice_get b.order k ≡ Some i → item_place i < n

-- From a place on, the references of each wanted item are wanted, but of one that stands before it too.
pub record ClosedFrom (b : Block) (u w : List Bool) (start : ℕ) : Type 0 where
  pub older : IsMore u w
  pub each : (k : ℕ) (i : RefItem) → start ≤ k → slice_get b.order k ≡ Some i → is_wanted w i ≡ true → Each (λ j. is_wanted w j ≡ true) (refs b i) ⊎ StandsBefore b.order start i

pub none_closed : (b : Block) (w : List Bool) (start : ℕ) → length b.order ≤ start → ClosedFrom b w w start
none_closed b w start past = record { older = IsMore-refl w; each = λ k i low here q. absurd (let l = slice_get_within b.order k i here in omega (arith, l, past, low)) }

same_place : (b : Block) (k m : ℕ) (i j : RefItem) → k ≡ m → slice_get b.order k ≡ Some i → slice_get b.order m ≡ Some j → i ≡ j
same_place b k m i j e here there = same_Some i j (sym here ∙ (ap (slice_get b.order) e ∙ there))

-- an item that isn't wanted
pub one_left : (b : Block) (u w : List Bool) (p : ℕ) (i : RefItem) → slice_get b.order p ≡ Some i → is_wanted w i ≡ false → ClosedFrom b u w (p + 1) → ClosedFrom b u w p
one_left b u w p i here spared h = record { older = h.older; each = λ k j low there q. by k j there q (same_or_above p k low) }
  where
    not_it : (j : RefItem) → is_wanted w j ≡ true → j ≢ i
    not_it j q e = absurd (let r : false ≡ true = sym spared ∙ (ap (is_wanted w) (sym e) ∙ q) in cc)

    by : (k : ℕ) (j : RefItem) → slice_get b.order k ≡ Some j → is_wanted w j ≡ true → (k ≡ p) ⊎ (p + 1 ≤ k) → Each (λ m. is_wanted w m ≡ true) (refs b j) ⊎ StandsBefore b.order p j
    by k j there q (inl e) = absurd (not_it j q (same_place b k p j i e there here))
    by k j there q (inr l) = elim (h.each k j l there q) [
      | inl rs ↦ inl rs
      | inr s ↦ elim (last_or_before s.0 p s.1) [
        | inl e ↦ absurd (not_it j q (same_place b s.0 p j i e s.2 here))
        | inr r ↦ inr (s.0, r, s.2)
      ]
    ]

-- an item whose references become wanted
pub one_closed : (b : Block) (u v w : List Bool) (p : ℕ) (i : RefItem) → IsSound b → HasRoom b (length u) → slice_get b.order p ≡ Some i → ClosedFrom b u v (p + 1) → Adds v w (refs b i) → ClosedFrom b u w p
one_closed b u v w p i sound room here h g = record { older = older; each = λ k j low there q. by k j there q (same_or_above p k low) }
  where
    older : IsMore u w
    older = IsMore-trans u v w h.older g.older

    stands : Each (StandsBefore b.order p) (refs b i)
    stands = sound.ordered p i here

    mine : Each (λ m. is_wanted w m ≡ true) (refs b i)
    mine = Each-both (StandsBefore b.order p) (λ m. item_place m < length w → is_wanted w m ≡ true) (λ m. is_wanted w m ≡ true) (λ m s t. t (subst (λ n. item_place m < n) (sym older.long) (room s.0 m s.2))) (refs b i) stands g.these

    its : (j : RefItem) → j ≡ i → Each (λ m. is_wanted w m ≡ true) (refs b j)
    its j e = subst (λ x. Each (λ m. is_wanted w m ≡ true) (refs b x)) (sym e) mine

    still : (j : RefItem) → Each (λ m. is_wanted v m ≡ true) (refs b j) → Each (λ m. is_wanted w m ≡ true) (refs b j)
    still j = Each-weaker (λ m. is_wanted v m ≡ true) (λ m. is_wanted w m ≡ true) (λ m. g.older.more m) (refs b j)

    above : (k : ℕ) (j : RefItem) → slice_get b.order k ≡ Some j → p + 1 ≤ k → is_wanted w j ≡ true → (c : Bool) → is_wanted v j ≡ c → Each (λ m. is_wanted w m ≡ true) (refs b j) ⊎ StandsBefore b.order p j
    above k j there l q true e = elim (h.each k j l there e) [
      | inl rs ↦ inl (still j rs)
      | inr s ↦ elim (last_or_before s.0 p s.1) [
        | inl t ↦ inl (its j (same_place b s.0 p j i t s.2 here))
        | inr r ↦ inr (s.0, r, s.2)
      ]
    ]
    above k j there l q false e = let (m, low, is) = g.only j q e in inr (Each-at (StandsBefore b.order p) (refs b i) m j stands (slice_get_read (refs b i) (length (refs b i)) m j refl low (sym is)))

    by : (k : ℕ) (j : RefItem) → slice_get b.order k ≡ Some j → is_wanted w j ≡ true → (k ≡ p) ⊎ (p + 1 ≤ k) → Each (λ m. is_wanted w m ≡ true) (refs b j) ⊎ StandsBefore b.order p j
    by k j there q (inl e) = inl (its j (same_place b k p j i e there here))
    by k j there q (inr l) = above k j there l q (is_wanted v j) refl

pub is_closed : (b : Block) (u w : List Bool) → IsSound b → ClosedFrom b u w 0 → IsClosed b w
is_closed b u w sound h = record {
  each = λ i c q.
      let (k, low, at) = Contains-permutation (items b) b.order i sound.all_items c in
      elim (h.each k i (omega arith) (slice_get_read b.order (length b.order) k i refl low (sym at)) q) [
        | inl rs ↦ rs
        | inr s ↦ absurd (let l = s.1 in omega (arith, l))
      ];
}
